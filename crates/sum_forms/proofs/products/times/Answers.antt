use Rattle.std.proofs.Common.{rules, ◌≡◌, ◌+◌, ◌∷◌, [], pos, ◌∙◌, sym, ap, subst, drop, suc, add-one, drop-cons}
use Rattle.std.proofs.lemmas.List.{drop_all}
use Rattle.semantics.specs.Numbers.{Gathered, gather_product, product_of}
use Rattle.builtin_names.specs.Named.{names_in}
use Rattle.builtin_names.specs.Results.{Works}
use Rattle.sum_forms.specs.Gathering.{Alike, gathered}
use Rattle.sum_forms.specs.Taken.{Took}
use Rattle.sum_forms.proofs.Judged.{product-alike}
use Rattle.sum_forms.proofs.products.times.Goals as goal

pub loop-item-preserved : goal.loop-item-preserved
loop-item-preserved c =
    let names = names_in c.args.names.now in
    let items = c.args.items.now in
    let i = c.loop-item.item-index in
    let part = c.loop-item.invariant.part in
    let parts = c.loop-item.parts.items in
    let item = c.item-item.result in
    let slice = c.as_slice-item-items.result.now in
    let here : drop i slice ≡ item ∷ drop (i + 1) slice = rw (add-one i) (drop-cons slice i item c.loop-item-test.true ∙ ap (λ y. y ∷ drop (suc i) slice) (sym c.item-item.is)) in
    let whole : slice ≡ items = search rules in
    let next : drop i items ≡ item ∷ drop (i + 1) items = subst (λ l. drop i l ≡ item ∷ drop (i + 1) l) whole here in
    let took : Took names item part parts c.take.new.whole c.take.new.parts.items = search (rules, c.take.ensures part c.loop-item.invariant.stands) in
    record {
      part = took.part;
      stands = took.stands;
      rest = sym (took.rest (drop (i + 1) items)) ∙ ap (λ l. gather_product names l (record { whole_part = part; parts = gathered parts })) (sym next) ∙ c.loop-item.invariant.rest;
    }

pub returns : goal.returns
returns c =
    let names = names_in c.args.names.now in
    let z = c.loop-item.invariant.part in
    let parts = c.loop-item.parts.items in
    let groups = c.in_ok-groups.groups.items in
    let alike : Alike groups (gathered parts) = search rules in
    let given : Works (product_of names (record { whole_part = z; parts = groups })) c.product_of.result = search (rules, c.product_of.ensures z c.loop-item.invariant.stands) in
    let first : Gathered = record { whole_part = pos 1; parts = [] } in
    let all : Gathered = record { whole_part = z; parts = gathered parts } in
    let slice = c.as_slice-item-items.result.now in
    let is : slice ≡ c.args.items.now = search rules in
    let none : drop c.loop-item.item-index slice ≡ [] = drop_all c.loop-item.item-index slice (search rules) in
    let whole : all ≡ gather_product names c.args.items.now first = ap (λ es. gather_product names es all) (sym (subst (λ l. drop c.loop-item.item-index l ≡ []) is none)) ∙ c.loop-item.invariant.rest in
    subst (λ w. Works w c.product_of.result) (product-alike names z groups (gathered parts) alike ∙ ap (product_of names) whole) given

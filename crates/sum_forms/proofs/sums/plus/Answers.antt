use Rattle.std.proofs.Common.{rules, ◌≡◌, [], pos, drop, sym, ap, ◌∙◌, subst}
use Rattle.std.proofs.lemmas.List.{drop_all}
use Rattle.semantics.specs.Numbers.{Gathered, gather_sum, sum_of}
use Rattle.builtin_names.specs.Named.{names_in}
use Rattle.builtin_names.specs.Results.{Works}
use Rattle.int_ops.specs.Totals.{total}
use Rattle.sum_forms.specs.Gathering.{Alike, gathered}
use Rattle.sum_forms.proofs.Judged.{sum-alike}
use Rattle.sum_forms.proofs.sums.plus.Goals as goal

pub returns : goal.returns
returns c =
    let names = names_in c.args.names.now in
    let z = total c.loop-item.numbers.items in
    let parts = c.loop-item.parts.items in
    let groups = c.in_ok-groups.groups.items in
    let alike : Alike groups (gathered parts) = search rules in
    let given : Works (sum_of names (record { whole_part = z; parts = groups })) c.sum_of.result = search rules in
    let first : Gathered = record { whole_part = pos 0; parts = [] } in
    let all : Gathered = record { whole_part = z; parts = gathered parts } in
    let slice = c.as_slice-item-items.result.now in
    let is : slice ≡ c.args.items.now = search rules in
    let none : drop c.loop-item.item-index slice ≡ [] = drop_all c.loop-item.item-index slice (search rules) in
    let whole : all ≡ gather_sum names c.args.items.now first = ap (λ es. gather_sum names es all) (sym (subst (λ l. drop c.loop-item.item-index l ≡ []) is none)) ∙ c.loop-item.invariant in
    subst (λ w. Works w c.sum_of.result) (sum-alike names z groups (gathered parts) alike ∙ ap (sum_of names) whole) given

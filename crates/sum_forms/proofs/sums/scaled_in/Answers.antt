use Rattle.std.proofs.Common.{rules, ◌≡◌, ◌≢◌, ◌-◌, ◌∷◌, ◌∙◌, [], length, take, drop, true, sym, ap}
use Rattle.std.specs.Prelude.{FitsSigned}
use Rattle.std.specs.Int.{w128}
use Rattle.std.proofs.lemmas.Int.{to_z-of_z}
use Rattle.expr_tree.specs.Tree.{integer}
use Rattle.semantics.specs.declared.builtin.Builtin.{Builtin}
use Rattle.semantics.specs.Names.{is_call, items_of}
use Rattle.builtin_names.specs.Named.{names_in}
use Rattle.sum_forms.proofs.Addends.{scaled, split_list}
use Rattle.sum_forms.proofs.sums.scaled_in.Goals as goal

pub returns-in-Int : goal.returns-in-Int
returns-in-Int c =
    let fits : FitsSigned w128 c.in-Int.coefficient = search rules in
    let is : c.first-item.result ≡ integer c.in-Int.coefficient = search rules in
    let names = names_in c.args.names.now in
    let e = c.args.e.now in
    let ts = c.items_of.result.now in
    let xs = take (length ts - 1) (drop 1 ts) in
    let split : ts ≡ c.first-item.result ∷ xs = split_list ts c.first-item.result c.in-len1-up.len_at_least c.first-item.is in
    let items : items_of e ≡ integer c.in-Int.coefficient ∷ xs = sym c.items_of.ensures ∙ split ∙ ap (λ x. x ∷ xs) is in
    let call : is_call names Builtin.Times e ≡ true = search rules in
    let some : xs ≢ [] = search rules in
    simp to_z-of_z (scaled names e c.in-Int.coefficient xs call items some (search rules) (search rules))

use Rattle.std.proofs.Common.{rules, ◌≡◌, ◌∷◌, ◌++◌, [], sym, subst}
use Rattle.std.specs.Prelude.{FitsSigned}
use Rattle.std.specs.Int.{w128}
use Rattle.std.proofs.lemmas.Int.{to_z-of_z}
use Rattle.expr_tree.specs.Tree.{integer}
use Rattle.builtin_names.specs.Named.{names_in}
use Rattle.sum_forms.specs.Taken.{Took}
use Rattle.semantics.specs.Numbers.{factor}
use Rattle.sum_forms.proofs.Factors.{took-integer, took-other}
use Rattle.sum_forms.proofs.products.take.Goals as goal

pub returns-in-Int : goal.returns-in-Int
returns-in-Int c z stands =
    let fits : FitsSigned w128 c.in-Int.factor = search rules in
    let is : c.args.item.now ≡ integer c.in-Int.factor = search rules in
    let names = names_in c.args.names.now in
    let parts = c.args.parts.now.items in
    subst (λ e. Took names e z parts c.multiply.new.self parts) (sym is)
    (took-integer names c.in-Int.factor z c.multiply.new.self parts (simp to_z-of_z at (c.multiply.ensures z stands)))

pub returns-in_ok-push-in_default : goal.returns-in_ok-push-in_default
returns-in_ok-push-in_default c z stands =
    let names = names_in c.args.names.now in
    let parts = c.args.parts.now.items in
    let more : c.push.new.self.items ≡ parts ++ factor names c.args.item.now ∷ [] = search rules in
    took-other names c.args.item.now z c.args.whole.now parts c.push.new.self.items (search rules) stands more

use Rattle.std.proofs.Common.{rules, ◌≡◌, ◌++◌, ◌∷◌, [], sym, subst}
use Rattle.expr_tree.specs.Tree.{integer}
use Rattle.builtin_names.specs.Named.{names_in}
use Rattle.sum_forms.specs.Taken.{TookTerm}
use Rattle.sum_forms.proofs.Addends.{took-integer}
use Rattle.sum_forms.proofs.sums.take.Goals as goal

pub returns-in_ok-push-in-Int : goal.returns-in_ok-push-in-Int
returns-in_ok-push-in-Int c =
    let is : c.args.item.now ≡ integer c.in-Int.number = search rules in
    let names = names_in c.args.names.now in
    let numbers = c.args.numbers.now.items in
    let parts = c.args.parts.now.items in
    let more : c.push.new.self.items ≡ numbers ++ c.in-Int.number ∷ [] = search rules in
    subst (λ ns. TookTerm names c.args.item.now numbers parts ns parts) (sym more)
    (subst (λ e. TookTerm names e numbers parts (numbers ++ c.in-Int.number ∷ []) parts) (sym is) (took-integer names c.in-Int.number numbers parts))

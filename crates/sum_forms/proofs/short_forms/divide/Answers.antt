use Rattle.std.proofs.Common.{rules, ◌≡◌, [], ◌∷◌, negsuc, subst, sym}
use Rattle.std.specs.Prelude.{Some}
use Rattle.expr_tree.specs.Tree.{integer}
use Rattle.expr_tree.specs.Limits.{Assembles}
use Rattle.expr_tree.specs.Shapes.{pair_of}
use Rattle.semantics.specs.declared.builtin.Builtin.{Builtin}
use Rattle.semantics.specs.Names.{make}
use Rattle.semantics.specs.Numbers as Numbers
use Rattle.builtin_names.specs.Named.{names_in}
use Rattle.builtin_names.specs.Results.{Works}
use Rattle.sum_forms.proofs.Shapes.{pair-is}
use Rattle.sum_forms.proofs.short_forms.divide.Goals as goal

pub returns : goal.returns
returns c =
    let names = names_in c.args.names.now in
    let part = make names Builtin.Power (c.in-Some.b.now ∷ integer (negsuc 0) ∷ []) in
    let found : pair_of c.args.items.now ≡ Some (c.in-Some.a.now, c.in-Some.b.now) = search rules in
    let assembled : Assembles part c.make-inverse.result = search rules in
    subst (λ xs. Works (Numbers.divide names xs) c.given.result) (sym (pair-is c.args.items.now c.in-Some.a.now c.in-Some.b.now found))
    (c.given.ensures _ (c.beside.ensures part assembled))

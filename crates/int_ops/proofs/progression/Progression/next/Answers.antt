use Rattle.std.proofs.Common.{◌≡◌, ◌∙◌, sym, ap, Option, Some, ℤ, FitsSigned, rules}
use Rattle.std.specs.Int.{w128}
use Rattle.std.proofs.lemmas.Int.{to_z-of_z}
use Rattle.int_ops.specs.Progressions.{walk}
use Rattle.int_ops.proofs.Progressing.{takes}
use Rattle.int_ops.proofs.progression.Progression.next.Goals as goal

pub returns : goal.returns
returns c =
    let a = c.in_ok-next.next in
    let b = c.self.inside.last in
    let d = c.self.inside.by in
    let f : FitsSigned w128 a = search rules in
    let g : FitsSigned w128 b = search rules in
    let h : FitsSigned w128 d = search rules in
    let is : c.args.self.now ≡ walk (Some a) b d = sym c.self.view_is ∙ ap (λ (o : Option ℤ). walk o b d) c.in_ok-next.was in
    takes c.checked_add-self-inside.result c.args.self.now a b d c.reaches.result (to_z-of_z w128 a f) (to_z-of_z w128 b g) (to_z-of_z w128 d h) f g is c.reaches.ensures c.if-not-reaches.false c.checked_add-self-inside.ensures

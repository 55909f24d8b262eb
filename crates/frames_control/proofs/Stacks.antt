-- A stack that lies from the last to the first.
use Rattle.std.proofs.Common.{◌≡◌, ◌∙◌, sym, ap, reverse, List, []}
use Rattle.std.proofs.lemmas.List.{reverse-append, reverse-reverse}
use Rattle.expr_tree.specs.Tree.{Tree}

pub ruleset stack_steps = (reverse-append, reverse-reverse)

pub emptied : (xs ys : List Tree) → ys ≡ reverse xs → ys ≡ [] → xs ≡ []
emptied xs ys e h = sym (reverse-reverse xs) ∙ ap reverse (sym e ∙ h)

-- What is told of an expression of any size and depth.
--     IsJudged              the expression, where it is within these limits; else the one that it passes, Size before Depth
--     IsMade                the same, where what is within the limits of an expression may be given unjudged
use Rattle.std.specs.Prelude.{◌≡◌, Some, None, Result, Ok, Err}
use Rattle.expr_tree.specs.Tree.{Tree}
use Rattle.expr_tree.specs.declared.limits.Limits.{Limits}
use Rattle.expr_tree.specs.declared.limits.Stop.{Stop}
use Rattle.semantics.specs.Play.{too_large}

abbrev pub IsJudged : Limits → Tree → Result Tree Stop → Type 0
IsJudged limits t (Ok e) = (e ≡ t) × (too_large limits t ≡ None)
IsJudged limits t (Err stop) = too_large limits t ≡ Some stop

abbrev pub IsMade : Limits → Tree → Result Tree Stop → Type 0
IsMade limits t (Ok e) = e ≡ t
IsMade limits t (Err stop) = too_large limits t ≡ Some stop

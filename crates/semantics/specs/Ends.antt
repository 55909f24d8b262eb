-- What the end of an evaluation shows: in a transcript, as the reply of a service, and as what a kernel delivers.
--     aborted               what shows a stop
--     shown_end             each end
use Rattle.std.specs.Prelude.{[], ◌∷◌, Some, None}
use Rattle.expr_tree.specs.Tree.{Tree}
use Rattle.expr_tree.specs.declared.limits.Limits.{Limits}
use Rattle.semantics.specs.declared.builtin.Builtin.{Builtin}
use Rattle.semantics.specs.Names.{Names, name, make}
use Rattle.semantics.specs.Play.{End, Value, Stopped, Throwing, Thrown, Quit, Closed, Starved, too_large}

abbrev pub aborted : Names → Tree
aborted names = name names Builtin.Aborted

-- Hold[Throw[v]], where it is within the limits of an expression
abbrev pub shown_throw : Names → Limits → Tree → Tree
shown_throw names limits v =
    let e = make names Builtin.Hold (make names Builtin.Throw (v ∷ []) ∷ []) in
    elim (too_large limits e) [ None ↦ e | Some cause ↦ aborted names ]

abbrev pub shown_end : Names → Limits → End → Tree
shown_end names limits (Value v) = v
shown_end names limits (Stopped cause) = aborted names
shown_end names limits (Throwing v) = shown_throw names limits v
shown_end names limits (Thrown v) = shown_throw names limits v
shown_end names limits Quit = aborted names
shown_end names limits Closed = aborted names
shown_end names limits Starved = aborted names

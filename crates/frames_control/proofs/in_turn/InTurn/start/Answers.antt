use Rattle.std.proofs.Common.{◌≡◌, refl, length, true}
use Rattle.builtin_names.specs.Named.{names_in}
use Rattle.std.specs.Prelude.{◌==◌}
use Rattle.semantics.specs.Control.{null}
use Rattle.frames_control.proofs.Choosing.{in_turn_any}
use Rattle.frames_control.proofs.in_turn.InTurn.start.Goals as goal

pub returns : goal.returns
returns c =
    λ stay.
    record {
      by = rw c.in_ok-of.ensures
          (in_turn_any stay (null (names_in c.args.names.now)) c.args.items.now (λ e. let t : (length c.args.items.now == 0) ≡ true = rw e refl in cc));
    }

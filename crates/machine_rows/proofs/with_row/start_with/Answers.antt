use Rattle.std.proofs.Common.{◌∙◌}
use Rattle.builtin_names.specs.Named.{names_in}
use Rattle.machine_rows.proofs.Scopes.{with_read, with_stays}
use Rattle.machine_rows.proofs.with_row.start_with.Goals as goal

pub returns-in_default : goal.returns-in_default
returns-in_default c = record { by = with_stays (names_in c.args.names.now) c.args.items.now (rw c.in_default.is at c.in_ok-scope.ensures) }

pub returns-in-Some-2 : goal.returns-in-Some-2
returns-in-Some-2 c =
    record {
      by = λ stay.
          with_read (names_in c.args.names.now) c.args.items.now c.in-Some.scope (rw c.in-Some.is at c.in_ok-scope.ensures) stay
          ∙ (rw c.in-Some-2.is at c.in_ok-form.ensures (names_in c.args.names.now)).by stay;
    }

pub returns : goal.returns
returns c =
    record {
      by = λ stay.
          with_read (names_in c.args.names.now) c.args.items.now c.in-Some.scope (rw c.in-Some.is at c.in_ok-scope.ensures) stay
          ∙ (rw c.in-None.is at c.in_ok-form.ensures (names_in c.args.names.now)).by stay;
    }

use Rattle.semantics.specs.Table as t
use Rattle.machine_outward.specs.Placing.{names_at}
use Rattle.machine_steps.specs.Setup.{setting_of}
use Rattle.machine_rows.proofs.machine.Machine.start_at.Goals as goal

pub returns-in-Some-clause-starts : goal.returns-in-Some-clause-starts
returns-in-Some-clause-starts c =
    c.outward_machine.ensures (setting_of c.args.place.now.scene.now) (names_at c.args.place.now) (λ stay. t.row (names_at c.args.place.now) c.args.row stay c.args.form.now.items.now) c.args.place.now.is_open c.args.used.now c.start.new.used c.in-Some.ensures.opens

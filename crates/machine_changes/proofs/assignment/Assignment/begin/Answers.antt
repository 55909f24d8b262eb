use Rattle.std.proofs.Common.{rules, arith, ◌≡◌, true}
use Rattle.builtin_names.specs.Named.{names_in}
use Rattle.machine_changes.specs.Assigning.{reached}
use Rattle.machine_changes.proofs.Going.{goes_on, same_program}
use Rattle.machine_changes.proofs.Sides.{falls_within, is_atom, atom_stays}
use Rattle.machine_changes.proofs.assignment.Assignment.begin.Goals as goal

pub returns-in-Int-clause-stepped : goal.returns-in-Int-clause-stepped
returns-in-Int-clause-stepped c =
    let atom : is_atom c.args.left ≡ true = search rules in
    λ stay. goes_on _ (same_program (atom_stays (names_in c.args.scene.now.names.now) c.args.left (reached (names_in c.args.scene.now.names.now) c.args.self.now.goal) atom)) (c.reach.ensures.stepped stay)

pub returns-in-Int-clause-falls : goal.returns-in-Int-clause-falls
returns-in-Int-clause-falls c = falls_within c.reach.result 1 _ _ (omega arith) c.reach.ensures.falls

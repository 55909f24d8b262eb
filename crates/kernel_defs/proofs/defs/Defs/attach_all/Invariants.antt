use Rattle.std.proofs.Common.{◌≡◌, drop, map}
use Rattle.builtin_names.specs.Named.{names_in}
use Rattle.kernel_defs.specs.Assigned.{attached_all}
use Rattle.kernel_defs.specs.Targets.{target_of}
use Rattle.kernel_defs.proofs.defs.Defs.attach_all.Given as goal

abbrev pub invariant-loop-target : goal.invariant-loop-target
invariant-loop-target l =
    attached_all (names_in l.names) (map target_of (drop l.target-index l.targets)) l.left l.right l.self
    ≡ attached_all (names_in l.names) (map target_of l.targets) l.left l.right l.initial.self

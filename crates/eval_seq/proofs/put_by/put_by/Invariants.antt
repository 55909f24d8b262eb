use Rattle.std.proofs.Common.{◌≡◌, ◌++◌, drop}
use Rattle.semantics.specs.Play.{put_locals}
use Rattle.builtin_names.specs.Named.{names_in}
use Rattle.frames_scope.specs.Reading.{locals_in}
use Rattle.kernel_defs.specs.Locals.{saved_along}
use Rattle.kernel_defs.specs.Saved.{saved_in}
use Rattle.eval_seq.proofs.put_by.put_by.Given as goal

abbrev pub invariant-loop-local : goal.invariant-loop-local
invariant-loop-local l = record {
  definitions : put_locals (names_in l.scene.names.now) (locals_in (drop l.local-index l.locals)) l.defs ≡ put_locals (names_in l.scene.names.now) (locals_in l.locals) l.fn.defs;
  saved : saved_in l.saved ++ saved_along (names_in l.scene.names.now) (locals_in (drop l.local-index l.locals)) l.defs ≡ saved_along (names_in l.scene.names.now) (locals_in l.locals) l.fn.defs;
}

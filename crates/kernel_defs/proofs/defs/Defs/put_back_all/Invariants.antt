use Rattle.std.proofs.Common.{◌≡◌, map, vec_len}
use Rattle.builtin_names.specs.Named.{names_in}
use Rattle.kernel_defs.specs.Locals.{restored}
use Rattle.kernel_defs.specs.Saved.{piece_of}
use Rattle.kernel_defs.proofs.defs.Defs.put_back_all.Given as goal

abbrev pub invariant-loop-piece : goal.invariant-loop-piece
invariant-loop-piece l =
    restored (names_in l.names) (map piece_of l.pieces.items) l.self ≡ restored (names_in l.names) (map piece_of l.initial.pieces.items) l.initial.self

abbrev pub decreases-loop-piece : goal.decreases-loop-piece
decreases-loop-piece l = vec_len l.pieces

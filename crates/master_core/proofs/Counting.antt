-- How many items there are.
use Rattle.std.proofs.Common.{◌≡◌, refl, ap, suc, List, [], ◌∷◌, length}
use Rattle.journal.specs.Closure.{Bundle}
use Rattle.eval_queue.specs.declared.kept.Kept.{Kept}
use Rattle.master_core.specs.Joined.{items_of}

pub items_len : (qs : List (Kept Bundle)) → length (items_of qs) ≡ length qs
items_len [] = refl
items_len (q ∷ qs) = ap suc (items_len qs)

-- The program's words of a plan.
--     method_of             the way of cutting
--     places_of             the two places of a chunk
--     IsWithin              it has an element, and stands within a list of this length
--     ChunksAreBetween      the chunk of a cut has the elements between its two places
--     chunk_at              the places of the chunk with this number, from 0, among chunks of these lengths
use Rattle.std.specs.Prelude.{◌≡◌, ℕ, ◌-◌, ◌≤◌, ◌<◌, List, length, take, drop, Option, Some}
use Rattle.expr_tree.specs.Tree.{Tree}
use Rattle.journal.specs.Cuts as cuts
use Rattle.journal.specs.Places.{nth}
use Rattle.par_plan.specs.declared.method.Method.{Method}
use Rattle.par_plan.specs.declared.method.Method.TheVariants.{Coarsest, Finest, Per}
use Rattle.par_plan.specs.declared.chunk.Chunk.{Chunk}

abbrev pub method_of : Method → cuts.Method
method_of Coarsest = cuts.Coarsest
method_of Finest = cuts.Finest
method_of (Per size) = cuts.Per size

abbrev pub places_of : Chunk → ℕ × ℕ
places_of c = (c.from, c.to)

pub record IsWithin (elements : ℕ) (c : Chunk) : Type 0 where
  pub some : c.from < c.to
  pub within : c.to ≤ elements

abbrev pub chunk_at : List ℕ → ℕ → Option (ℕ × ℕ)
chunk_at lengths index = nth (cuts.places_from 0 lengths) index

abbrev pub ChunksAreBetween : Type 0
ChunksAreBetween =
    (method : cuts.Method) (kernels : ℕ) (es : List Tree) (index from to : ℕ)
    → chunk_at (cuts.lengths method (length es) kernels) index ≡ Some (from, to)
    → nth (cuts.cut method kernels es) index ≡ Some (take (to - from) (drop from es))

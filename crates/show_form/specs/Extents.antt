-- How large and how deep what was read is, one above a limit at most.
--     extent               of an expression
--     parts_extent         of a head and elements together
--     joined, deepened     of two things together; of the expression with these parts
--     fits                 whether an expression is within the limits
use Rattle.std.specs.Prelude.{ℕ, ◌+◌, min, max, Bool, ◌&&◌, leb, List}
use Rattle.expr_tree.specs.Tree.{Tree, trees, size, sizes, depth, depths}
use Rattle.show_form.specs.declared.extent.Extent.{Extent}

abbrev pub capped : ℕ → ℕ → Extent
capped n d = record { size = min n 4000001; depth = min d 513 }

abbrev pub extent : Tree → Extent
extent e = capped (size e) (depth e)

abbrev pub parts_extent : Tree → List Tree → Extent
parts_extent h es = capped (size h + sizes (trees es)) (max (depth h) (depths (trees es)))

abbrev pub joined : Extent → Extent → Extent
joined a b = capped (a.size + b.size) (max a.depth b.depth)

abbrev pub deepened : Extent → Extent
deepened a = capped a.size (a.depth + 1)

abbrev pub fits : Tree → Bool
fits e = leb (size e) 4000000 && leb (depth e) 512

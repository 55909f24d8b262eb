-- How large and how deep the parts of a mapped expression are.
use Rattle.std.proofs.Common.{◌≡◌, ℕ, zero, suc, ◌+◌, ◌*◌, ◌<◌, ◌≤◌, List, [], ◌∷◌, map, length, get_or, arith}
use Rattle.expr_tree.specs.Tree.{Tree, integer, string, symbol, normal, trees, call, size, sizes, depth, depths}
use Rattle.expr_tree.proofs.Callers.{tree_steps}
use Rattle.semantics.specs.Lists.{mapped}

pub mapped_size : (f : Tree) (es : List Tree) (i : ℕ) (x : Tree) → i < length es → x ≡ get_or es i x → size (mapped f x) ≤ sizes (trees (map (mapped f) es))
mapped_size f [] i x l e = absurd (omega (arith, l))
mapped_size f (a ∷ es) zero x l e = rw e (omega arith)
mapped_size f (a ∷ es) (suc i) x l e = let h : size (mapped f x) ≤ sizes (trees (map (mapped f) es)) = mapped_size f es i x (omega arith) e in omega arith

pub mapped_depth : (f : Tree) (es : List Tree) (i : ℕ) (x : Tree) → i < length es → x ≡ get_or es i x → depth (mapped f x) ≤ depths (trees (map (mapped f) es))
mapped_depth f [] i x l e = absurd (omega (arith, l))
mapped_depth f (a ∷ es) zero x l e = rw e (omega arith)
mapped_depth f (a ∷ es) (suc i) x l e = let h : depth (mapped f x) ≤ depths (trees (map (mapped f) es)) = mapped_depth f es i x (omega arith) e in omega arith

pub more_times : (n s : ℕ) → suc n * s ≡ n * s + s
more_times n s = grind arith

pub mapped_sizes : (f : Tree) (es : List Tree) → sizes (trees (map (mapped f) es)) ≡ sizes (trees es) + length es * size f
mapped_sizes f [] = omega arith
mapped_sizes f (a ∷ es) = omega (arith, mapped_sizes f es, more_times (length es) (size f))

pub map_size : (f h : Tree) (es : List Tree) → size (call h (map (mapped f) es)) ≡ size (normal h (trees es)) + length es * size f
map_size f h es = omega (arith, mapped_sizes f es)

pub size_some : (t : Tree) → 1 ≤ size t
size_some (integer n) = omega arith
size_some (string s) = omega arith
size_some (symbol s) = omega arith
size_some (normal h ts) = omega (arith, size_some h)

pub length_sizes : (es : List Tree) → length es ≤ sizes (trees es)
length_sizes [] = omega arith
length_sizes (a ∷ es) = omega (arith, length_sizes es, size_some a)

pub ruleset mapped_steps = (tree_steps, mapped_size, mapped_depth)

pub ruleset map_steps = (tree_steps, map_size, length_sizes)

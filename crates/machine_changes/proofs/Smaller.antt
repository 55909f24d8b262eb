-- Sorting makes nothing larger, and nothing deeper.
use Rattle.std.proofs.Common.{◌≡◌, ◌+◌, max, List, [], ◌∷◌, Bool, true, false, cond, refl, arith}
use Rattle.std.specs.Ordering.{is_le}
use Rattle.expr_tree.specs.Tree.{Tree, trees, size, sizes, depth, depths}
use Rattle.expr_tree.specs.Order.{tree_cmp}
use Rattle.semantics.specs.declared.builtin.Builtin.{Builtin}
use Rattle.semantics.specs.Definitions.{Attributes, has}
use Rattle.semantics.specs.Steps.{put_in, ordered}
use Rattle.semantics.specs.Assemble.{sorted}

put_size : (e : Tree) (fs : List Tree) → sizes (trees (put_in e fs)) ≡ size e + sizes (trees fs)
put_size e [] = omega arith
put_size e (f ∷ fs) = go (is_le (tree_cmp e f)) (put_size e fs)
  where
    go : (b : Bool) → sizes (trees (put_in e fs)) ≡ size e + sizes (trees fs) → sizes (trees (cond b (e ∷ f ∷ fs) (f ∷ put_in e fs))) ≡ size e + (size f + sizes (trees fs))
    go true ih = omega arith
    go false ih = omega arith

put_depth : (e : Tree) (fs : List Tree) → depths (trees (put_in e fs)) ≡ max (depth e) (depths (trees fs))
put_depth e [] = omega arith
put_depth e (f ∷ fs) = go (is_le (tree_cmp e f)) (put_depth e fs)
  where
    go : (b : Bool) → depths (trees (put_in e fs)) ≡ max (depth e) (depths (trees fs)) → depths (trees (cond b (e ∷ f ∷ fs) (f ∷ put_in e fs))) ≡ max (depth e) (max (depth f) (depths (trees fs)))
    go true ih = omega arith
    go false ih = omega arith

ordered_size : (es : List Tree) → sizes (trees (ordered es)) ≡ sizes (trees es)
ordered_size [] = refl
ordered_size (e ∷ es) = omega (arith, put_size e (ordered es), ordered_size es)

ordered_depth : (es : List Tree) → depths (trees (ordered es)) ≡ depths (trees es)
ordered_depth [] = refl
ordered_depth (e ∷ es) = omega (arith, put_depth e (ordered es), ordered_depth es)

pub sorted_size : (a : Attributes) (es : List Tree) → sizes (trees (sorted a es)) ≡ sizes (trees es)
sorted_size a es = go (has Builtin.Orderless a)
  where
    go : (b : Bool) → sizes (trees (elim b [ true ↦ ordered es | false ↦ es ])) ≡ sizes (trees es)
    go true = ordered_size es
    go false = refl

pub sorted_depth : (a : Attributes) (es : List Tree) → depths (trees (sorted a es)) ≡ depths (trees es)
sorted_depth a es = go (has Builtin.Orderless a)
  where
    go : (b : Bool) → depths (trees (elim b [ true ↦ ordered es | false ↦ es ])) ≡ depths (trees es)
    go true = ordered_depth es
    go false = refl

pub ruleset smaller_steps = (sorted_size, sorted_depth)

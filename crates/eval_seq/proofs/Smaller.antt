-- Stripping and sorting make nothing larger, and nothing deeper.
use Rattle.std.proofs.Common.{◌≡◌, ◌+◌, ◌≤◌, max, List, [], ◌∷◌, Bool, true, false, cond, Option, Some, None, refl, arith}
use Rattle.std.specs.Ordering.{is_le}
use Rattle.expr_tree.specs.Tree.{Tree, integer, string, symbol, normal, nil, cons, trees, size, sizes, depth, depths}
use Rattle.expr_tree.specs.Order.{tree_cmp}
use Rattle.semantics.specs.declared.builtin.Builtin.{Builtin}
use Rattle.semantics.specs.Names.{Names, is_call}
use Rattle.semantics.specs.Definitions.{Attributes, has}
use Rattle.semantics.specs.Steps.{strip, unwrapped, put_in, ordered}
use Rattle.semantics.specs.Assemble.{sorted}

-- an expression that is taken out of its wrapper, if it has one
abbrev bare : Option Tree → Tree → Tree
bare None e = e
bare (Some x) e = x

bare_size : (names : Names) (e : Tree) → size (bare (unwrapped names e) e) ≤ size e
bare_size names (integer n) = omega arith
bare_size names (string t) = omega arith
bare_size names (symbol s) = omega arith
bare_size names (normal h nil) = omega arith
bare_size names (normal h (cons x nil)) = go (is_call names Builtin.Unevaluated (normal h nil))
  where
    go : (b : Bool) → size (bare (elim b [ true ↦ Some x | false ↦ None ]) (normal h (cons x nil))) ≤ size (normal h (cons x nil))
    go true = omega arith
    go false = omega arith
bare_size names (normal h (cons x (cons y ys))) = omega arith

bare_depth : (names : Names) (e : Tree) → depth (bare (unwrapped names e) e) ≤ depth e
bare_depth names (integer n) = omega arith
bare_depth names (string t) = omega arith
bare_depth names (symbol s) = omega arith
bare_depth names (normal h nil) = omega arith
bare_depth names (normal h (cons x nil)) = go (is_call names Builtin.Unevaluated (normal h nil))
  where
    go : (b : Bool) → depth (bare (elim b [ true ↦ Some x | false ↦ None ]) (normal h (cons x nil))) ≤ depth (normal h (cons x nil))
    go true = omega arith
    go false = omega arith
bare_depth names (normal h (cons x (cons y ys))) = omega arith

pub strip_size : (names : Names) (es : List Tree) → sizes (trees (strip names es)) ≤ sizes (trees es)
strip_size names [] = omega arith
strip_size names (e ∷ es) = go (unwrapped names e) (bare_size names e) (strip_size names es)
  where
    go : (o : Option Tree) → size (bare o e) ≤ size e → sizes (trees (strip names es)) ≤ sizes (trees es)
        → sizes (trees (elim o [ None ↦ e ∷ strip names es | Some x ↦ x ∷ strip names es ])) ≤ size e + sizes (trees es)
    go None h ih = omega arith
    go (Some x) h ih = omega arith

pub strip_depth : (names : Names) (es : List Tree) → depths (trees (strip names es)) ≤ depths (trees es)
strip_depth names [] = omega arith
strip_depth names (e ∷ es) = go (unwrapped names e) (bare_depth names e) (strip_depth names es)
  where
    go : (o : Option Tree) → depth (bare o e) ≤ depth e → depths (trees (strip names es)) ≤ depths (trees es)
        → depths (trees (elim o [ None ↦ e ∷ strip names es | Some x ↦ x ∷ strip names es ])) ≤ max (depth e) (depths (trees es))
    go None h ih = omega arith
    go (Some x) h ih = omega arith

put_size : (e : Tree) (fs : List Tree) → sizes (trees (put_in e fs)) ≡ size e + sizes (trees fs)
put_size e [] = omega arith
put_size e (f ∷ fs) = go (is_le (tree_cmp e f)) (put_size e fs)
  where
    go : (b : Bool) → sizes (trees (put_in e fs)) ≡ size e + sizes (trees fs) → sizes (trees (cond b (e ∷ f ∷ fs) (f ∷ put_in e fs))) ≡ size e + (size f + sizes (trees fs))
    go true ih = omega arith
    go false ih = omega arith

put_depth : (e : Tree) (fs : List Tree) → depths (trees (put_in e fs)) ≡ max (depth e) (depths (trees fs))
put_depth e [] = omega arith
put_depth e (f ∷ fs) = go (is_le (tree_cmp e f)) (put_depth e fs)
  where
    go : (b : Bool) → depths (trees (put_in e fs)) ≡ max (depth e) (depths (trees fs)) → depths (trees (cond b (e ∷ f ∷ fs) (f ∷ put_in e fs))) ≡ max (depth e) (max (depth f) (depths (trees fs)))
    go true ih = omega arith
    go false ih = omega arith

ordered_size : (es : List Tree) → sizes (trees (ordered es)) ≡ sizes (trees es)
ordered_size [] = refl
ordered_size (e ∷ es) = omega (arith, put_size e (ordered es), ordered_size es)

ordered_depth : (es : List Tree) → depths (trees (ordered es)) ≡ depths (trees es)
ordered_depth [] = refl
ordered_depth (e ∷ es) = omega (arith, put_depth e (ordered es), ordered_depth es)

pub sorted_size : (a : Attributes) (es : List Tree) → sizes (trees (sorted a es)) ≡ sizes (trees es)
sorted_size a es = go (has Builtin.Orderless a)
  where
    go : (b : Bool) → sizes (trees (elim b [ true ↦ ordered es | false ↦ es ])) ≡ sizes (trees es)
    go true = ordered_size es
    go false = refl

pub sorted_depth : (a : Attributes) (es : List Tree) → depths (trees (sorted a es)) ≡ depths (trees es)
sorted_depth a es = go (has Builtin.Orderless a)
  where
    go : (b : Bool) → depths (trees (elim b [ true ↦ ordered es | false ↦ es ])) ≡ depths (trees es)
    go true = ordered_depth es
    go false = refl

pub ruleset smaller_steps = (strip_size, strip_depth, sorted_size, sorted_depth)

-- Flattening and threading make nothing larger, and nothing deeper.
use Rattle.std.proofs.Common.{◌≡◌, ℕ, zero, suc, ◌+◌, ◌≤◌, max, List, [], ◌∷◌, ◌++◌, Bool, true, false, get_or, refl, ap, sym, ◌∙◌, arith}
use Rattle.expr_tree.specs.declared.sym.Sym.{Sym}
use Rattle.expr_tree.specs.Tree.{Tree, Trees, integer, string, symbol, normal, nil, cons, trees, elements, call, size, sizes, depth, depths}
use Rattle.expr_tree.proofs.Trees.{trees-elements, elements-trees}
use Rattle.semantics.specs.declared.builtin.Builtin.{Builtin}
use Rattle.semantics.specs.Names.{Names, is_call, items_of}
use Rattle.semantics.specs.Definitions.{Attributes, has}
use Rattle.semantics.specs.Steps.{is_call_of, flatten, flatten_item, flatten_items}
use Rattle.semantics.specs.Assemble.{flattened}
use Rattle.attr_steps.specs.Columns.{at_place, column}

pub sizes-append : (xs ys : List Tree) → sizes (trees (xs ++ ys)) ≡ sizes (trees xs) + sizes (trees ys)
sizes-append [] ys = omega arith
sizes-append (x ∷ xs) ys = omega (arith, sizes-append xs ys)

pub depths-append : (xs ys : List Tree) → depths (trees (xs ++ ys)) ≡ max (depths (trees xs)) (depths (trees ys))
depths-append [] ys = omega arith
depths-append (x ∷ xs) ys = omega (arith, depths-append xs ys)

-- ---- flattening

mutual
  pub flat_item_size : (s : Sym) (e : Tree) → sizes (trees (flatten_item s e)) ≤ size e
  flat_item_size s (integer n) = omega arith
  flat_item_size s (string t) = omega arith
  flat_item_size s (symbol t) = omega arith
  flat_item_size s (normal h es) = go (is_call_of s (normal h nil)) (flat_items_size s es)
    where
      go : (b : Bool) → sizes (trees (flatten_items s es)) ≤ sizes es → sizes (trees (elim b [ true ↦ flatten_items s es | false ↦ normal h es ∷ [] ])) ≤ size h + sizes es
      go true ih = omega arith
      go false ih = omega arith

  pub flat_items_size : (s : Sym) (es : Trees) → sizes (trees (flatten_items s es)) ≤ sizes es
  flat_items_size s nil = omega arith
  flat_items_size s (cons e es) = omega (arith, sizes-append (flatten_item s e) (flatten_items s es), flat_item_size s e, flat_items_size s es)

mutual
  pub flat_item_depth : (s : Sym) (e : Tree) → depths (trees (flatten_item s e)) ≤ depth e
  flat_item_depth s (integer n) = omega arith
  flat_item_depth s (string t) = omega arith
  flat_item_depth s (symbol t) = omega arith
  flat_item_depth s (normal h es) = go (is_call_of s (normal h nil)) (flat_items_depth s es)
    where
      go : (b : Bool) → depths (trees (flatten_items s es)) ≤ depths es → depths (trees (elim b [ true ↦ flatten_items s es | false ↦ normal h es ∷ [] ])) ≤ 1 + max (depth h) (depths es)
      go true ih = omega arith
      go false ih = omega arith

  pub flat_items_depth : (s : Sym) (es : Trees) → depths (trees (flatten_items s es)) ≤ depths es
  flat_items_depth s nil = omega arith
  flat_items_depth s (cons e es) = omega (arith, depths-append (flatten_item s e) (flatten_items s es), flat_item_depth s e, flat_items_depth s es)

-- ---- columns

item_size : (es : Trees) (i : ℕ) (d : Tree) → size (get_or (elements es) i d) ≤ max (size d) (sizes es)
item_size nil i d = omega arith
item_size (cons e es) zero d = omega arith
item_size (cons e es) (suc i) d = omega (arith, item_size es i d)

item_depth : (es : Trees) (i : ℕ) (d : Tree) → depth (get_or (elements es) i d) ≤ max (depth d) (depths es)
item_depth nil i d = omega arith
item_depth (cons e es) zero d = omega arith
item_depth (cons e es) (suc i) d = omega (arith, item_depth es i d)

here_size : (e : Tree) (i : ℕ) → size (get_or (items_of e) i e) ≤ size e
here_size (integer n) i = omega arith
here_size (string t) i = omega arith
here_size (symbol s) i = omega arith
here_size (normal h es) i = omega (arith, item_size es i (normal h es))

here_depth : (e : Tree) (i : ℕ) → depth (get_or (items_of e) i e) ≤ depth e
here_depth (integer n) i = omega arith
here_depth (string t) i = omega arith
here_depth (symbol s) i = omega arith
here_depth (normal h es) i = omega (arith, item_depth es i (normal h es))

place_size : (names : Names) (i : ℕ) (e : Tree) → size (at_place names i e) ≤ size e
place_size names i e = go (is_call names Builtin.List e)
  where
    go : (b : Bool) → size (elim b [ true ↦ get_or (items_of e) i e | false ↦ e ]) ≤ size e
    go true = here_size e i
    go false = omega arith

place_depth : (names : Names) (i : ℕ) (e : Tree) → depth (at_place names i e) ≤ depth e
place_depth names i e = go (is_call names Builtin.List e)
  where
    go : (b : Bool) → depth (elim b [ true ↦ get_or (items_of e) i e | false ↦ e ]) ≤ depth e
    go true = here_depth e i
    go false = omega arith

pub column_size : (names : Names) (i : ℕ) (es : List Tree) → sizes (trees (column names i es)) ≤ sizes (trees es)
column_size names i [] = omega arith
column_size names i (e ∷ es) = omega (arith, place_size names i e, column_size names i es)

pub column_depth : (names : Names) (i : ℕ) (es : List Tree) → depths (trees (column names i es)) ≤ depths (trees es)
column_depth names i [] = omega arith
column_depth names i (e ∷ es) = omega (arith, place_depth names i e, column_depth names i es)

pub ruleset column_bounds = (column_size, column_depth)

pub ruleset flat_bounds = (flat_items_size, flat_items_depth)

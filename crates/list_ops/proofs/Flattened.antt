-- Flattening level by level.
use Rattle.std.proofs.Common.{◌≡◌, ◌≢◌, ℕ, zero, suc, ◌-◌, ◌<◌, ◌≤◌, min, refl, ap, sym, ◌∙◌, Bool, true, false, List, [], ◌∷◌, ◌++◌, Some, None, arith}
use Rattle.std.specs.Prelude.{ℤ, pos, negsuc}
use Rattle.std.specs.Bool.{IsTrue}
use Rattle.std.specs.Prelude.{leb}
use Rattle.std.proofs.lemmas.Bool.{leb-true, leb-false}
use Rattle.expr_tree.specs.Tree.{Tree, Trees, integer, string, symbol, normal, nil, cons, trees, call, depth, depths}
use Rattle.expr_tree.proofs.Callers.{tree_steps}
use Rattle.expr_tree.proofs.Trees.{trees-elements}
use Rattle.semantics.specs.declared.builtin.Builtin.{Builtin}
use Rattle.semantics.specs.Names.{Names, is_name, is_call, items_of}
use Rattle.semantics.specs.Worked.{Stays, Gives}
use Rattle.semantics.specs.Lists.{flat_item, flat_items, flatten_row}
use Rattle.list_ops.specs.Flat.{levels_of, flat_to}

pub flat_none : (names : Names) (e : Tree) (d : ℕ) → d ≡ 0 → flat_item names e d ≡ e ∷ []
flat_none names (integer n) d z = refl
flat_none names (string t) d z = refl
flat_none names (symbol s) d z = refl
flat_none names (normal h es) zero z = refl
flat_none names (normal h es) (suc d) z = absurd (omega (arith, z))

abbrev one_level : Bool → List Tree → Tree → List Tree
one_level b ts e = elim b [ true ↦ ts | false ↦ e ∷ [] ]

call_is_name : (names : Names) (h : Tree) (es : Trees) → is_call names Builtin.List (normal h es) ≡ is_name names Builtin.List h
call_is_name names (integer n) es = refl
call_is_name names (string t) es = refl
call_is_name names (symbol s) es = refl
call_is_name names (normal h ts) es = refl

pub flat_list : (names : Names) (e : Tree) (es : List Tree) (d : ℕ) → d ≢ 0 → IsTrue (is_call names Builtin.List e) → es ≡ items_of e → flat_item names e d ≡ flat_items names (trees es) (d - 1)
flat_list names (integer n) es d p q r = absurd (cc (q))
flat_list names (string t) es d p q r = absurd (cc (q))
flat_list names (symbol s) es d p q r = absurd (cc (q))
flat_list names (normal h ts) es zero p q r = absurd (p refl)
flat_list names (normal h ts) es (suc d) p q r =
    let same : trees es ≡ ts = ap trees r ∙ trees-elements ts in
    let less : d ≡ suc d - 1 = omega arith in
    ap (λ b. one_level b (flat_items names ts d) (normal h ts)) (sym (call_is_name names h ts) ∙ q)
    ∙ (λ i. flat_items names (sym same i) (less i))

pub flat_other : (names : Names) (e : Tree) (d : ℕ) → (IsTrue (is_call names Builtin.List e) → ⊥) → flat_item names e d ≡ e ∷ []
flat_other names (integer n) d p = refl
flat_other names (string t) d p = refl
flat_other names (symbol s) d p = refl
flat_other names (normal h ts) zero p = refl
flat_other names (normal h ts) (suc d) p = go (is_name names Builtin.List h) refl
  where
    go : (b : Bool) → is_name names Builtin.List h ≡ b → flat_item names (normal h ts) (suc d) ≡ normal h ts ∷ []
    go true e = absurd (p (call_is_name names h ts ∙ e))
    go false e = ap (λ b. one_level b (flat_items names ts d) (normal h ts)) e

pub list_depth : (names : Names) (e : Tree) (es : List Tree) → IsTrue (is_call names Builtin.List e) → es ≡ items_of e → depths (trees es) < depth e
list_depth names (integer n) es q r = absurd (cc (q))
list_depth names (string t) es q r = absurd (cc (q))
list_depth names (symbol s) es q r = absurd (cc (q))
list_depth names (normal h ts) es q r =
    let same : depths (trees es) ≡ depths ts = ap depths (ap trees r ∙ trees-elements ts) in
    omega (arith, same)

-- as many levels as an expression has, or more, are all of them
mutual
  enough : (names : Names) (e : Tree) (a b : ℕ) → depth e ≤ a → depth e ≤ b → flat_item names e a ≡ flat_item names e b
  enough names (integer n) a b p q = refl
  enough names (string t) a b p q = refl
  enough names (symbol s) a b p q = refl
  enough names (normal h es) zero b p q = absurd (omega (arith, p))
  enough names (normal h es) (suc a) zero p q = absurd (omega (arith, q))
  enough names (normal h es) (suc a) (suc b) p q = ap (λ ts. one_level (is_name names Builtin.List h) ts (normal h es)) (enough_all names es a b (omega arith) (omega arith))

  enough_all : (names : Names) (es : Trees) (a b : ℕ) → depths es ≤ a → depths es ≤ b → flat_items names es a ≡ flat_items names es b
  enough_all names nil a b p q = refl
  enough_all names (cons e es) a b p q = λ i. enough names e a b (omega arith) (omega arith) i ++ enough_all names es a b (omega arith) (omega arith) i

capped : (names : Names) (es : Trees) (d : ℕ) → depths es ≤ 512 → flat_items names es (min d 512) ≡ flat_items names es d
capped names es d p = go (leb d 512) refl
  where
    go : (b : Bool) → leb d 512 ≡ b → flat_items names es (min d 512) ≡ flat_items names es d
    go true e = let h : d ≤ 512 = leb-true d 512 e in let m : min d 512 ≡ d = omega arith in ap (flat_items names es) m
    go false e = let h : 512 < d = leb-false d 512 e in enough_all names es (min d 512) d (omega arith) (omega arith)

pub row_all : (names : Names) (e : Tree) → flatten_row names (e ∷ []) ≡ flat_to names e 512
row_all names (integer n) = refl
row_all names (string t) = refl
row_all names (symbol s) = refl
row_all names (normal h es) = refl

pub row_some : (names : Names) (e : Tree) (z : ℤ) (d : ℕ) → depth e ≤ 512 → levels_of z ≡ Some d → flatten_row names (e ∷ integer z ∷ []) ≡ flat_to names e d
row_some names (integer n) (pos k) d p l = refl
row_some names (string t) (pos k) d p l = refl
row_some names (symbol s) (pos k) d p l = refl
row_some names (normal h es) (pos k) d p l =
    let same : min k 512 ≡ d = cc (l) in
    ap (λ ts. Gives (call h ts)) (sym (capped names es k (omega arith)) ∙ ap (flat_items names es) same)
row_some names e (negsuc k) d p l = absurd (cc (l))

pub row_none : (names : Names) (e : Tree) (z : ℤ) → levels_of z ≡ None → flatten_row names (e ∷ integer z ∷ []) ≡ Stays
row_none names e (pos k) l = absurd (cc (l))
row_none names (integer n) (negsuc k) l = refl
row_none names (string t) (negsuc k) l = refl
row_none names (symbol s) (negsuc k) l = refl
row_none names (normal h es) (negsuc k) l = refl

pub ruleset flat_steps = (tree_steps, flat_none, flat_list, flat_other, list_depth)

pub ruleset row_steps = (tree_steps, row_all, row_some, row_none)

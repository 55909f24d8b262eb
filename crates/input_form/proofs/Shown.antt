-- One item more of a list that is shown.
use Rattle.std.proofs.Common.{◌≡◌, ◌≢◌, refl, ap, ◌∙◌, ℕ, zero, suc, ◌+◌, ◌<◌, Bool, true, false, cond, List, [], ◌∷◌, ◌++◌, length, get_or, drop, arith, ne_eqb}
use Rattle.std.specs.Prelude.{◌==◌, codes}
use Rattle.expr_tree.specs.Tree.{Tree, trees, integer, string, symbol, normal}
use Rattle.expr_tree.proofs.Trees.{trees-drop}
use Rattle.expr_tree.specs.declared.sym.Sym.{Sym}
use Rattle.script_text.specs.Bytes.{joined, each_after}
use Rattle.script_text.specs.Spelling.{Spelling}
use Rattle.syntax.specs.Shapes.{Shape, Pair}
use Rattle.syntax.specs.Input.{Shown, shown, all_shown, all_at, text, sum_text, terms_after, term_after, negative_text, factors, pair_text}
use Rattle.input_form.specs.Parts.{front, joined_from, sum_from, negative_from, level_at, term_at, factor_at}

pub level_is : (spelling : Spelling) (shape : Sym → Shape) (e : Tree) → (shown spelling shape e).level ≡ level_at shape e
level_is spelling shape (integer n) = refl
level_is spelling shape (string t) = refl
level_is spelling shape (symbol x) = refl
level_is spelling shape (normal h es) = refl

module _ (spelling : Spelling) (shape : Sym → Shape) where
  abbrev pub shown_items : List Tree → List Shown
  shown_items items = all_shown spelling shape (trees items)

  pub shown_drop : (i : ℕ) (items : List Tree) (t : Tree) → i < length items → t ≡ get_or items i t
      → shown_items (drop i items) ≡ shown spelling shape t ∷ shown_items (drop (i + 1) items)
  shown_drop i items t h is = ap (λ ts. all_shown spelling shape ts) (trees-drop items i t h is)

  pub joined_step : (between : List ℕ) (p i : ℕ) (items : List Tree) (t : Tree) → i < length items → t ≡ get_or items i t
      → joined_from between i (all_at p (shown_items (drop i items)))
      ≡ front between i ++ text spelling shape p t ++ joined_from between (i + 1) (all_at p (shown_items (drop (i + 1) items)))
  joined_step between p i items t h is =
      let z : (i + 1 == 0) ≡ false = ne_eqb (i + 1) 0 (omega arith) in
      ap (λ es. joined_from between i (all_at p es)) (shown_drop i items t h is) ∙ rw z (go (i == 0))
    where
      rest : List ℕ
      rest = each_after between (all_at p (shown_items (drop (i + 1) items)))

      go : (b : Bool) → cond b (text spelling shape p t ++ rest) (between ++ text spelling shape p t ++ rest) ≡ cond b [] between ++ text spelling shape p t ++ rest
      go true = refl
      go false = refl

  pub sum_step : (i : ℕ) (items : List Tree) (t : Tree) → i < length items → t ≡ get_or items i t
      → sum_from i (shown_items (drop i items)) ≡ term_at i (text spelling shape 18 t) ++ sum_from (i + 1) (shown_items (drop (i + 1) items))
  sum_step i items t h is =
      let y : (i + 1 == 0) ≡ false = ne_eqb (i + 1) 0 (omega arith) in
      ap (sum_from i) (shown_drop i items t h is) ∙ rw y (go (i == 0))
    where
      rest : List Shown
      rest = shown_items (drop (i + 1) items)

      go : (b : Bool) → cond b (sum_text (shown spelling shape t ∷ rest)) (terms_after (shown spelling shape t ∷ rest))
          ≡ cond b (text spelling shape 18 t) (term_after (text spelling shape 18 t)) ++ terms_after rest
      go true = refl
      go false = refl

  pub negative_step : (i : ℕ) (items : List Tree) (t : Tree) → i < length items → t ≡ get_or items i t
      → negative_from i (shown_items (drop i items))
      ≡ factor_at i (text spelling shape 20 t) (text spelling shape 19 t) ++ negative_from (i + 1) (shown_items (drop (i + 1) items))
  negative_step zero items t h is = ap (negative_from 0) (shown_drop 0 items t h is)
  negative_step (suc zero) items t h is = ap (negative_from 1) (shown_drop 1 items t h is)
  negative_step (suc (suc k)) items t h is =
      let i = suc (suc k) in
      let z : (i == 0) ≡ false = ne_eqb i 0 (omega arith) in
      let z1 : (i == 1) ≡ false = ne_eqb i 1 (omega arith) in
      let y : (i + 1 == 0) ≡ false = ne_eqb (i + 1) 0 (omega arith) in
      let y1 : (i + 1 == 1) ≡ false = ne_eqb (i + 1) 1 (omega arith) in
      ap (negative_from i) (shown_drop i items t h is) ∙ rw (z, z1, y, y1) refl

  pub pair_not_two : (p : Pair) (ts : List Tree) → length ts ≢ 2 → pair_text p (shown_items ts) ≡ []
  pair_not_two p [] q = refl
  pair_not_two p (t ∷ []) q = refl
  pair_not_two p (t ∷ u ∷ []) q = absurd (q refl)
  pair_not_two p (t ∷ u ∷ v ∷ ts) q = refl

pub joined_end : (between : List ℕ) (i : ℕ) → joined_from between i [] ≡ []
joined_end between i = go (i == 0)
  where
    go : (b : Bool) → cond b (joined between []) (each_after between []) ≡ []
    go true = refl
    go false = refl

pub sum_end : (i : ℕ) → sum_from i [] ≡ []
sum_end i = go (i == 0)
  where
    go : (b : Bool) → cond b (sum_text []) (terms_after []) ≡ []
    go true = refl
    go false = refl

pub negative_end : (i : ℕ) → negative_from i [] ≡ []
negative_end i = go (i == 0) (i == 1)
  where
    go : (b c : Bool) → cond b (negative_text []) (cond c (factors []) (each_after (codes "*") (all_at 19 []))) ≡ []
    go true c = refl
    go false true = refl
    go false false = refl

pub ruleset shown_steps = (level_is, joined_step, joined_end, sum_step, sum_end, negative_step, negative_end, pair_not_two)

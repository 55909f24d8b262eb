-- The words of the command line, by their number
use Rattle.std.proofs.Common.{◌≡◌, refl, sym, ap, ◌∙◌, ℕ, ◌<◌, ◌≤◌, Bool, true, false, List, [], ◌∷◌, length, get_or, arith}
use Rattle.std.specs.Prelude.{◌&&◌, map, codes, Option, Some, None}
use Rattle.std.specs.Str.{bytes_eq}
use Rattle.script_run.specs.Words.{are_alone, step_limit, steps_in}

abbrev by_two : Bool → Option ℕ
by_two b = elim b [ true ↦ Some 1000000 | false ↦ None ]

abbrev by_four : Bool → List ℕ → Option ℕ
by_four b text = elim b [ true ↦ step_limit text | false ↦ None ]

module _ {X : Type 0} (f : X → List ℕ) where
  two_words : (ws : List X) (a b : X) → 2 ≤ length ws → length ws < 3 → a ≡ get_or ws 0 a → b ≡ get_or ws 1 b → steps_in (map f ws) ≡ by_two (are_alone (f a) (f b))
  two_words [] a b least below ai bi = absurd (omega (arith, least))
  two_words (x ∷ []) a b least below ai bi = absurd (omega (arith, least))
  two_words (x ∷ y ∷ z ∷ ws) a b least below ai bi = absurd (omega (arith, below))
  two_words (x ∷ y ∷ []) a b least below ai bi = λ i. by_two (are_alone (f (sym ai i)) (f (sym bi i)))

  pub two_read : (ws : List X) (a b : X) (r : Bool) → 2 ≤ length ws → length ws < 3 → a ≡ get_or ws 0 a → b ≡ get_or ws 1 b → r ≡ are_alone (f a) (f b) → steps_in (map f ws) ≡ by_two r
  two_read ws a b r least below ai bi is = two_words ws a b least below ai bi ∙ ap by_two (sym is)

  four_words : (ws : List X) (a b c d : X) → 4 ≤ length ws → length ws < 5 → a ≡ get_or ws 0 a → b ≡ get_or ws 1 b → c ≡ get_or ws 2 c → d ≡ get_or ws 3 d
      → steps_in (map f ws) ≡ by_four (are_alone (f a) (f b) && bytes_eq (f c) (codes "--steps")) (f d)
  four_words [] a b c d least below ai bi ci di = absurd (omega (arith, least))
  four_words (x ∷ []) a b c d least below ai bi ci di = absurd (omega (arith, least))
  four_words (x ∷ y ∷ []) a b c d least below ai bi ci di = absurd (omega (arith, least))
  four_words (x ∷ y ∷ z ∷ []) a b c d least below ai bi ci di = absurd (omega (arith, least))
  four_words (x ∷ y ∷ z ∷ w ∷ v ∷ ws) a b c d least below ai bi ci di = absurd (omega (arith, below))
  four_words (x ∷ y ∷ z ∷ w ∷ []) a b c d least below ai bi ci di = λ i. by_four (are_alone (f (sym ai i)) (f (sym bi i)) && bytes_eq (f (sym ci i)) (codes "--steps")) (f (sym di i))

  pub four_read : (ws : List X) (a b c d : X) (r : Bool) → 4 ≤ length ws → length ws < 5 → a ≡ get_or ws 0 a → b ≡ get_or ws 1 b → c ≡ get_or ws 2 c → d ≡ get_or ws 3 d
      → r ≡ (are_alone (f a) (f b) && bytes_eq (f c) (codes "--steps")) → steps_in (map f ws) ≡ by_four r (f d)
  four_read ws a b c d r least below ai bi ci di is = four_words ws a b c d least below ai bi ci di ∙ ap (λ x. by_four x (f d)) (sym is)

  pub other_words : (ws : List X) → (length ws ≡ 2 → ⊥) → (length ws ≡ 4 → ⊥) → steps_in (map f ws) ≡ None
  other_words [] two four = refl
  other_words (x ∷ []) two four = refl
  other_words (x ∷ y ∷ []) two four = absurd (two refl)
  other_words (x ∷ y ∷ z ∷ []) two four = refl
  other_words (x ∷ y ∷ z ∷ w ∷ []) two four = absurd (four refl)
  other_words (x ∷ y ∷ z ∷ w ∷ v ∷ ws) two four = refl

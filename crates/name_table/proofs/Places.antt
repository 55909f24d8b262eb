-- Where a text stands in a list of texts.
use Rattle.std.proofs.Common.{◌≡◌, ◌∙◌, refl, ap, ℕ, zero, suc, ◌+◌, ◌<◌, Bool, true, false, cond, not, List, [], ◌∷◌, length, get_or, Some, None, arith}
use Rattle.std.specs.Prelude.{nat_lt, position}
use Rattle.std.specs.List.{position_or_len}
use Rattle.std.specs.Ordering.{is_eq}
use Rattle.std.specs.Str.{bytes_eq}
use Rattle.std.proofs.lemmas.Bool.{lt-ltb, le-ltb}
use Rattle.std.proofs.lemmas.List.Sums.{position_or_len_is}
use Rattle.std.proofs.lemmas.Map.Text.{is_eq-slice_cmp}
use Rattle.std.proofs.lemmas.Cmp.{nat_list_eq_equiv}
use Rattle.expr_tree.specs.Order.{text_cmp}
use Rattle.script_text.specs.Spelling.{place_in}

pub position_found : (p : ℕ → Bool) (xs : List ℕ) (i : ℕ) → i < length xs → ((k : ℕ) → k < i → p (get_or xs k 0) ≡ false) → p (get_or xs i 0) ≡ true → position p xs ≡ Some i
position_found p xs i within before here =
    let at : position_or_len p xs ≡ i = position_or_len_is p xs i 0 (omega (arith, within)) before (λ _. here) in
    ap (λ n. cond (nat_lt n (length xs)) (Some n) None) at ∙ ap (λ b. cond b (Some i) None) (lt-ltb i (length xs) within)

pub position_missing : (p : ℕ → Bool) (xs : List ℕ) → ((k : ℕ) → k < length xs → p (get_or xs k 0) ≡ false) → position p xs ≡ None
position_missing p xs before =
    let at : position_or_len p xs ≡ length xs = position_or_len_is p xs (length xs) 0 (omega arith) before (λ h. absurd (omega (arith, h))) in
    ap (λ n. cond (nat_lt n (length xs)) (Some n) None) at ∙ ap (λ b. cond b (Some (length xs)) None) (le-ltb (length xs) (length xs) (omega arith))

pub place_is : (texts : List (List ℕ)) (t : List ℕ) → place_in texts t ≡ position_or_len (bytes_eq t) texts
place_is [] t = refl
place_is (u ∷ us) t = go (is_eq (text_cmp u t)) (bytes_eq t u) (is_eq-slice_cmp u t ∙ nat_list_eq_equiv.symm u t) (place_is us t)
  where
    go : (a b : Bool) → a ≡ b → place_in us t ≡ position_or_len (bytes_eq t) us
        → elim a [ true ↦ zero | false ↦ suc (place_in us t) ] ≡ cond (not b) (1 + position_or_len (bytes_eq t) us) 0
    go true true e next = refl
    go true false e next = absurd (cc)
    go false true e next = absurd (cc)
    go false false e next = omega (arith, next)

pub ruleset place_steps = (position_found, position_missing)

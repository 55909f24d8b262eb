-- Texts by their places in a list.
use Rattle.std.proofs.Common.{◌≡◌, refl, sym, ap, ◌∙◌, subst, ℕ, zero, suc, ◌<◌, Bool, true, false, T, List, [], ◌∷◌, length, get_or, true≢false, arith}
use Rattle.std.specs.Prelude.{◌&&◌, ◌||◌}
use Rattle.std.specs.List.{list_any}
use Rattle.std.specs.Str.{bytes_eq}
use Rattle.std.specs.declared.cmp.Ordering.{Ordering}
use Rattle.std.specs.declared.cmp.Ordering.TheVariants.{Less, Equal, Greater}
use Rattle.std.specs.Ordering.{is_eq, nat_cmp, ordering_then}
use Rattle.std.specs.Cmp.{ranked}
use Rattle.expr_tree.specs.Order.{text_cmp}
use Rattle.std.proofs.lemmas.Map.Text.{is_eq-slice_cmp}
use Rattle.script_text.specs.Spelling.{place_in}

is_equal : (o : Ordering) → is_eq o ≡ true → o ≡ Equal
is_equal Less e = absurd (true≢false (sym e))
is_equal Equal e = refl
is_equal Greater e = absurd (true≢false (sym e))

both_equal : (a b : Ordering) → ordering_then a b ≡ Equal → (a ≡ Equal) × (b ≡ Equal)
both_equal Less b e = absurd (subst (λ o. T (is_eq o)) (sym e) tt)
both_equal Equal b e = (refl, e)
both_equal Greater b e = absurd (subst (λ o. T (is_eq o)) (sym e) tt)

pub equal_texts : (s t : List ℕ) → text_cmp s t ≡ Equal → s ≡ t
equal_texts [] [] e = refl
equal_texts [] (d ∷ t) e = absurd (subst (λ o. T (is_eq o)) (sym e) tt)
equal_texts (c ∷ s) [] e = absurd (subst (λ o. T (is_eq o)) (sym e) tt)
equal_texts (c ∷ s) (d ∷ t) e =
    let both = both_equal (nat_cmp c d) (text_cmp s t) e in
    λ i. ranked c d Equal (sym both.0) i ∷ equal_texts s t both.1 i

pub same_texts : (s t : List ℕ) → is_eq (text_cmp s t) ≡ true → s ≡ t
same_texts s t e = equal_texts s t (is_equal (text_cmp s t) e)

-- where a text has a place, it stands there
pub placed : (texts : List (List ℕ)) (w : List ℕ) → place_in texts w < length texts → get_or texts (place_in texts w) [] ≡ w
placed [] w h = absurd (omega arith)
placed (u ∷ us) w h = go (is_eq (text_cmp u w)) refl h (λ p. placed us w p)
  where
    go : (b : Bool) → is_eq (text_cmp u w) ≡ b → elim b [ true ↦ zero | false ↦ suc (place_in us w) ] < suc (length us)
        → (place_in us w < length us → get_or us (place_in us w) [] ≡ w)
        → get_or (u ∷ us) (elim b [ true ↦ zero | false ↦ suc (place_in us w) ]) [] ≡ w
    go true e h further = same_texts u w e
    go false e h further = further (omega arith)

none_of_both : (a b : Bool) → (a || b) ≡ false → (a ≡ false) × (b ≡ false)
none_of_both true b e = absurd (true≢false e)
none_of_both false b e = (refl, e)

-- one that does not stand in the list gets the list's length
pub unplaced : (texts : List (List ℕ)) (w : List ℕ) → list_any (bytes_eq w) texts ≡ false → place_in texts w ≡ length texts
unplaced [] w e = refl
unplaced (u ∷ us) w e = go (is_eq (text_cmp u w)) refl (unplaced us w both.1)
  where
    both : (bytes_eq w u ≡ false) × (list_any (bytes_eq w) us ≡ false)
    both = none_of_both (bytes_eq w u) (list_any (bytes_eq w) us) e

    turned : u ≡ w → is_eq (text_cmp w u) ≡ is_eq (text_cmp u w)
    turned q = ap (λ x. is_eq (text_cmp x u)) (sym q) ∙ ap (λ x. is_eq (text_cmp u x)) q

    go : (b : Bool) → is_eq (text_cmp u w) ≡ b → place_in us w ≡ length us → elim b [ true ↦ zero | false ↦ suc (place_in us w) ] ≡ suc (length us)
    go true p further = absurd (true≢false (sym (turned (same_texts u w p) ∙ p) ∙ is_eq-slice_cmp w u ∙ both.0))
    go false p further = ap suc further

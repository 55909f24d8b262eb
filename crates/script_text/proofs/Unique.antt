-- A text is the full form of one expression at most.
use Rattle.std.proofs.Common.{◌≡◌, refl, sym, ap, subst, ◌∙◌, ℕ, zero, suc, ◌<◌, Bool, true, false, T, List, [], ◌∷◌, length, get_or, Some, true≢false, arith}
use Rattle.std.specs.declared.cmp.Ordering.{Ordering}
use Rattle.std.specs.declared.cmp.Ordering.TheVariants.{Less, Equal, Greater}
use Rattle.std.specs.Ordering.{is_eq, nat_cmp, ordering_then}
use Rattle.std.specs.Cmp.{ranked, nat_cmp_is}
use Rattle.expr_tree.specs.Tree.{Tree, Trees, integer, string, symbol, normal, nil, cons}
use Rattle.expr_tree.specs.Order.{text_cmp}
use Rattle.script_text.specs.Spelling.{place_in}
use Rattle.script_text.specs.Spelling.{by_texts}
use Rattle.script_text.specs.Reader.{read}
use Rattle.script_text.specs.Laws.{AreDistinct, IsKept, AreKept, OneExpression, ReadAgain}
use Rattle.script_text.proofs.Again.{IsFound, AreFound, read_again}

same_numbers : (m n : ℕ) → nat_cmp m n ≡ Equal → m ≡ n
same_numbers m n e = ranked m n Equal (sym e)

both_equal : (a b : Ordering) → ordering_then a b ≡ Equal → (a ≡ Equal) × (b ≡ Equal)
both_equal Less b e = absurd (subst (λ o. T (is_eq o)) (sym e) tt)
both_equal Equal b e = (refl, e)
both_equal Greater b e = absurd (subst (λ o. T (is_eq o)) (sym e) tt)

pub is_equal : (o : Ordering) → is_eq o ≡ true → o ≡ Equal
is_equal Less e = absurd (true≢false (sym e))
is_equal Equal e = refl
is_equal Greater e = absurd (true≢false (sym e))

pub equal_texts : (s t : List ℕ) → text_cmp s t ≡ Equal → s ≡ t
equal_texts [] [] e = refl
equal_texts [] (d ∷ t) e = absurd (subst (λ o. T (is_eq o)) (sym e) tt)
equal_texts (c ∷ s) [] e = absurd (subst (λ o. T (is_eq o)) (sym e) tt)
equal_texts (c ∷ s) (d ∷ t) e =
    let both = both_equal (nat_cmp c d) (text_cmp s t) e in
    λ i. same_numbers c d both.0 i ∷ equal_texts s t both.1 i

pub same_text : (t : List ℕ) → text_cmp t t ≡ Equal
same_text [] = refl
same_text (c ∷ t) = subst (λ o. ordering_then o (text_cmp t t) ≡ Equal) (nat_cmp_is c c Equal refl) (same_text t)

-- a text that stands in the list is found at its place
pub found_at : (texts : List (List ℕ)) → AreDistinct texts → (b : ℕ) → b < length texts → place_in texts (get_or texts b []) ≡ b
found_at [] distinct b h = absurd (omega arith)
found_at (u ∷ us) distinct zero h = subst (λ o. elim (is_eq o) [ true ↦ zero | false ↦ suc (place_in us u) ] ≡ zero) (sym (same_text u)) refl
found_at (u ∷ us) distinct (suc b) h =
    go (is_eq (text_cmp u (get_or us b []))) refl (found_at us apart b (omega arith))
  where
    apart : AreDistinct us
    apart c d hc hd e = let p : suc c ≡ suc d = distinct (suc c) (suc d) (omega arith) (omega arith) e in omega arith

    go : (k : Bool) → is_eq (text_cmp u (get_or us b [])) ≡ k → place_in us (get_or us b []) ≡ b
        → elim k [ true ↦ zero | false ↦ suc (place_in us (get_or us b [])) ] ≡ suc b
    go true e next =
        let p : zero ≡ suc b = distinct zero (suc b) (omega arith) h (equal_texts u (get_or us b []) (is_equal (text_cmp u (get_or us b [])) e)) in
        absurd (omega arith)
    go false e next = ap suc next

mutual
  all_found : (texts : List (List ℕ)) → AreDistinct texts → (e : Tree) → IsKept (length texts) e → IsFound (place_in texts) (by_texts texts) e
  all_found texts distinct (integer n) k = tt
  all_found texts distinct (string t) k = tt
  all_found texts distinct (symbol s) k = found_at texts distinct s.base k
  all_found texts distinct (normal h es) k = (all_found texts distinct h k.0, each_found texts distinct es k.1)

  each_found : (texts : List (List ℕ)) → AreDistinct texts → (es : Trees) → AreKept (length texts) es → AreFound (place_in texts) (by_texts texts) es
  each_found texts distinct nil k = tt
  each_found texts distinct (cons e es) k = (all_found texts distinct e k.0, each_found texts distinct es k.1)

pub reads_again : ReadAgain
reads_again texts distinct e k t f =
    ap (read (place_in texts)) f.text ∙ read_again (place_in texts) (by_texts texts) e f.written (all_found texts distinct e k)

pub one_expression : OneExpression
one_expression texts distinct e f ke kf t te tf =
    let p : Some e ≡ Some f = sym (reads_again texts distinct e ke t te) ∙ reads_again texts distinct f kf t tf in
    cc

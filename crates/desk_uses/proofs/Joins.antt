-- Passes that are joined one by one.
use Rattle.std.proofs.Common.{◌≡◌, ℕ, zero, suc, ◌+◌, ◌<◌, ◌≤◌, ◌≢◌, List, [], ◌∷◌, ◌++◌, length, refl, sym, ap, ◌∙◌, subst, append_assoc, append-nil, arith}
use Rattle.turn_desk.specs.Lists.{IsPrefix, times, HasExactly, entries_under}
use Rattle.turn_desk.specs.Passes.{TableId, PassView, by_number, joined_pass, HasAllNumbers}
use mathlib.Core.Logic.{dite}
use native.Mathlib.Decide.{ℕ_discrete, dec_le}
use Rattle.turn_desk.proofs.Entries.{times-append, equal}
use Rattle.desk_uses.specs.Many.{all_by_number, AllOfDesk, JoinsAll, Numbered, HasExactlyAll}

module _ {E : Type 0} where
  pub of_desk : (d : TableId) (ys : List (PassView E)) (x : PassView E) (zs all : List (PassView E)) → ys ++ x ∷ zs ≡ all → AllOfDesk d all → x.desk ≡ d
  of_desk d ys x zs all e h = go ys (subst (AllOfDesk d) (sym e) h)
    where
      go : (ys : List (PassView E)) → AllOfDesk d (ys ++ x ∷ zs) → x.desk ≡ d
      go [] h = h.0
      go (y ∷ ys) h = go ys h.1

  all_by_number-snoc : (ps : List (PassView E)) (x : PassView E) → all_by_number (ps ++ x ∷ []) ≡ all_by_number ps ++ by_number x
  all_by_number-snoc [] x = append-nil (by_number x)
  all_by_number-snoc (p ∷ ps) x = ap (λ l. by_number p ++ l) (all_by_number-snoc ps x) ∙ sym (append_assoc (by_number p) (all_by_number ps) (by_number x))

  pub joins_one : (p : PassView E) (ps : List (PassView E)) (q x r : PassView E) → JoinsAll p ps q → r ≡ joined_pass q x → IsPrefix q.seen r.seen → JoinsAll p (ps ++ x ∷ []) r
  joins_one p ps q x r g e s = record {
    desk = ap (λ (y : PassView E). y.desk) e ∙ g.desk;
    number = ap (λ (y : PassView E). y.number) e ∙ g.number;
    made = ap (λ (y : PassView E). y.made) e ∙ g.made;
    all_by_number_is = ap by_number e ∙ ap (λ l. l ++ by_number x) g.all_by_number_is ∙ append_assoc (by_number p) (all_by_number ps) (by_number x) ∙ ap (λ l. by_number p ++ l) (sym (all_by_number-snoc ps x));
    seen = (g.seen.0 ++ s.0, s.1 ∙ ap (λ l. l ++ s.0) g.seen.1 ∙ append_assoc p.seen g.seen.0 s.0);
  }

  pub joins_none : (p : PassView E) → JoinsAll p [] p
  joins_none p = record { desk = refl; number = refl; made = refl; all_by_number_is = sym (append-nil (by_number p)); seen = ([], sym (append-nil p.seen)) }

  HasExactly-both : (list : List (ℕ × E)) (xs ys : List (ℕ × List E)) → HasExactly list (xs ++ ys) → HasExactly list xs × HasExactly list ys
  HasExactly-both list [] ys h = (tt, h)
  HasExactly-both list (x ∷ xs) ys h = let r = HasExactly-both list xs ys h.1 in ((h.0, r.0), r.1)

  has_exactly_all : (list : List (ℕ × E)) (ps : List (PassView E)) → HasExactly list (all_by_number ps) → HasExactlyAll list ps
  has_exactly_all list [] h = tt
  has_exactly_all list (p ∷ ps) h = let r = HasExactly-both list (by_number p) (all_by_number ps) h in (r.0, has_exactly_all list ps r.1)

  numbered_times : (k n : ℕ) (ps : List (PassView E)) → Numbered n ps → n ≤ k → k < n + length ps → 0 < times k (all_by_number ps)
  numbered_times k n [] h lo hi = absurd (omega arith)
  numbered_times k n (p ∷ ps) h lo hi = dite (ℕ_discrete p.number k)
      (λ e. omega (arith, times-append k (by_number p) (all_by_number ps), equal p.number k e))
      (λ ne. omega (arith, times-append k (by_number p) (all_by_number ps), numbered_times k (suc n) ps h.1 (omega (arith, above p.number k n ne h.0 lo)) (omega arith)))
    where
      above : (a k n : ℕ) → a ≢ k → a ≡ n → n ≤ k → suc n ≤ k
      above a k n ne e lo = dite (dec_le (suc n) k) (λ h. h) (λ h. absurd (ne (omega arith)))

  pub has_all : (p : PassView E) (ps : List (PassView E)) (q : PassView E) → JoinsAll p ps q → p.number ≡ 0 → Numbered 1 ps → p.made ≡ 1 + length ps → HasAllNumbers q
  has_all p ps q g root numbered made k lt =
      let both : times k (by_number q) ≡ times k (by_number p) + times k (all_by_number ps) = ap (times k) g.all_by_number_is ∙ times-append k (by_number p) (all_by_number ps) in
      dite (ℕ_discrete p.number k)
      (λ e. omega (arith, both, equal p.number k e))
      (λ ne. omega (arith, both, numbered_times k 1 ps numbered (positive k (λ z. ne (root ∙ sym z))) (omega (arith, g.made))))
    where
      positive : (k : ℕ) → k ≢ 0 → 1 ≤ k
      positive zero n = absurd (n refl)
      positive (suc k) n = omega arith

  pub has_exactly_each : (list : List (ℕ × E)) (p : PassView E) (ps : List (PassView E)) (q : PassView E) → JoinsAll p ps q → HasExactly list (by_number q) → HasExactly list (by_number p) × HasExactlyAll list ps
  has_exactly_each list p ps q g h = let r = HasExactly-both list (by_number p) (all_by_number ps) (subst (HasExactly list) g.all_by_number_is h) in (r.0, has_exactly_all list ps r.1)

-- What a product makes of its elements.
use Rattle.std.proofs.Common.{◌≡◌, ◌≢◌, ℤ, pos, ◌*ℤ◌, List, [], ◌∷◌, ◌++◌, Bool, true, false, refl, sym, ap, ◌∙◌, append_assoc}
use Rattle.std.specs.Prelude.{Option, None, Some}
use Rattle.std.specs.Ordering.{int_eq}
use Rattle.expr_tree.specs.Tree.{Tree, Trees, integer, string, symbol, normal, nil, cons}
use Rattle.expr_tree.specs.Limits.{in_range}
use Rattle.semantics.specs.Names.{Names, is_name, is_call, make}
use Rattle.semantics.specs.Worked.{Gives, TooWide, all_in_range}
use Rattle.semantics.specs.Numbers as Numbers
use Rattle.semantics.specs.Numbers.{Part, once, factor, written, numbers_of, assembled, gather_product}
use Rattle.semantics.specs.Steps.{ordered}
use Rattle.std.proofs.lemmas.Bool.Decides.{Decides-int_eq}
use Rattle.int_ops.specs.Products.{Kept, Stands}
use Rattle.sum_forms.specs.Gathering.{gathered}
use Rattle.sum_forms.specs.Taken.{Took}
use Rattle.sum_forms.proofs.Judged.{gathered-more}
use Rattle.semantics.specs.declared.builtin.Builtin.{Builtin}
use Rattle.sum_forms.specs.Splits.{power_in}
use Rattle.sum_forms.specs.Planned.{with_one}
use Rattle.sum_forms.proofs.Shapes.{not_made, Powered, powered}

is_call-head : (names : Names) (row : Builtin) (h : Tree) (ts : Trees) → is_call names row (normal h ts) ≡ is_name names row h
is_call-head names row (integer n) ts = refl
is_call-head names row (string s) ts = refl
is_call-head names row (symbol s) ts = refl
is_call-head names row (normal h us) ts = refl

factor-at : (names : Names) (h b : Tree) (k : ℤ) → is_name names Builtin.Power h ≡ true → factor names (normal h (cons b (cons (integer k) nil))) ≡ record { number = k; rest = b }
factor-at names h b k e = rw (is_call-head names Builtin.Power h (cons b (cons (integer k) nil)), e, factor) refl

either : (b : Bool) (x : Part) → elim b as (λ _. Part) [ true ↦ x | false ↦ x ] ≡ x
either true x = refl
either false x = refl

factor-none : (names : Names) (h b : Tree) (k : ℤ) (test : Bool) → is_name names Builtin.Power h ≡ test → elim test as (λ _. Option Part) [ true ↦ Some (record { number = k; rest = b }) | false ↦ None ] ≡ None → factor names (normal h (cons b (cons (integer k) nil))) ≡ once (normal h (cons b (cons (integer k) nil)))
factor-none names h b k true e f = absurd (cc)
factor-none names h b k false e f = rw (is_call-head names Builtin.Power h (cons b (cons (integer k) nil)), e, factor) refl

-- a power with an integer exponent, and anything else, as a factor
pub factor-power : (names : Names) (e : Tree) (p : Part) → power_in names e ≡ Some p → factor names e ≡ p
factor-power names e p found =
    let shape = powered names e p found in
    ap (factor names) shape.is ∙ factor-at names shape.head p.rest p.number shape.power

pub factor-other : (names : Names) (e : Tree) → power_in names e ≡ None → factor names e ≡ once e
factor-other names (integer n) none = refl
factor-other names (string s) none = refl
factor-other names (symbol s) none = refl
factor-other names (normal h nil) none = either (is_call names Builtin.Power (normal h nil)) (once (normal h nil))
factor-other names (normal h (cons b nil)) none = either (is_call names Builtin.Power (normal h (cons b nil))) (once (normal h (cons b nil)))
factor-other names (normal h (cons b (cons (integer k) nil))) none = factor-none names h b k (is_name names Builtin.Power h) refl none
factor-other names (normal h (cons b (cons (integer k) (cons t ts)))) none = either (is_call names Builtin.Power (normal h (cons b (cons (integer k) (cons t ts))))) (once (normal h (cons b (cons (integer k) (cons t ts)))))
factor-other names (normal h (cons b (cons (string s) ts))) none = either (is_call names Builtin.Power (normal h (cons b (cons (string s) ts)))) (once (normal h (cons b (cons (string s) ts))))
factor-other names (normal h (cons b (cons (symbol s) ts))) none = either (is_call names Builtin.Power (normal h (cons b (cons (symbol s) ts)))) (once (normal h (cons b (cons (symbol s) ts))))
factor-other names (normal h (cons b (cons (normal k us) ts))) none = either (is_call names Builtin.Power (normal h (cons b (cons (normal k us) ts)))) (once (normal h (cons b (cons (normal k us) ts))))

pub ruleset factor_steps = (not_made, factor-power, factor-other)

pub ruleset product_steps = (not_made)

pub ruleset times_steps = (not_made)

pub ruleset take_steps = (not_made)

with-next : (done : List Tree) (o : Option Tree) (rest : List Tree) → with_one done o ++ rest ≡ done ++ elim o as (λ _. List Tree) [ None ↦ rest | Some e ↦ e ∷ rest ]
with-next done None rest = refl
with-next done (Some e) rest = rw append_assoc refl

pub written-next : (names : Names) (done : List Tree) (p : Part) (ps qs : List Part) (whole : List Tree) → qs ≡ p ∷ ps → done ++ written (Numbers.write_factor names) qs ≡ whole → with_one done (Numbers.write_factor names p) ++ written (Numbers.write_factor names) ps ≡ whole
written-next names done p ps qs whole is so_far = with-next done (Numbers.write_factor names p) (written (Numbers.write_factor names) ps) ∙ ap (λ l. done ++ written (Numbers.write_factor names) l) (sym is) ∙ so_far

-- what a group writes
abbrev pub factor_tree : Names → Part → Tree
factor_tree names p = elim (int_eq p.number (pos 1)) [ true ↦ p.rest | false ↦ make names Builtin.Power (p.rest ∷ integer p.number ∷ []) ]

write-at : (names : Names) (p : Part) (test : Bool) → int_eq p.number (pos 1) ≡ test → int_eq p.number (pos 0) ≡ false → Numbers.write_factor names p ≡ Some (factor_tree names p)
write-at names p true e f = rw (f, Numbers.write_factor) (rw e (rw (e, factor_tree) refl))
write-at names p false e f = rw (f, Numbers.write_factor) (rw e (rw (e, factor_tree) refl))

zero_fits : (z : ℤ) → z ≡ pos 0 → in_range z ≡ true
zero_fits z e = ap in_range e

apart : (b : Bool) → b ≡ true → b ≡ false → ⊥
apart b e f = absurd (cc)

not_zero-wide : (z : ℤ) → in_range z ≡ false → z ≢ pos 0
not_zero-wide z wide e = apart (in_range z) (zero_fits z e) wide

not_true : (b : Bool) → (b ≡ true → ⊥) → b ≡ false
not_true true never = absurd (never refl)
not_true false never = refl

pub not_zero : (z : ℤ) → z ≢ pos 0 → int_eq z (pos 0) ≡ false
not_zero z other = not_true (int_eq z (pos 0)) (λ e. other ((Decides-int_eq z (pos 0)).0 e))

pub write-some : (names : Names) (p : Part) → p.number ≢ pos 0 → Numbers.write_factor names p ≡ Some (factor_tree names p)
write-some names p other = write-at names p (int_eq p.number (pos 1)) refl (not_zero p.number other)

pub same_part : (p : Part) (n : ℤ) (r : Tree) → n ≡ p.number → r ≡ p.rest → p ≡ record { number = n; rest = r }
same_part p n r e f = λ i. record { number = sym e i; rest = sym f i }

pub write-none : (names : Names) (p : Part) → p.number ≡ pos 0 → Numbers.write_factor names p ≡ None
write-none names p e = rw (ap (λ n. int_eq n (pos 0)) e, Numbers.write_factor) refl

pub product-wide : (names : Names) (z : ℤ) (ps : List Part) → in_range z ≡ false → Numbers.product_of names (record { whole_part = z; parts = ps }) ≡ TooWide
product-wide names z ps wide = rw (not_zero z (not_zero-wide z wide), wide, Numbers.product_of) refl

pub product-parts : (names : Names) (z : ℤ) (ps : List Part) → z ≢ pos 0 → in_range z ≡ true → all_in_range (numbers_of ps) ≡ false → Numbers.product_of names (record { whole_part = z; parts = ps }) ≡ TooWide
product-parts names z ps other fits wide = rw (not_zero z other, Numbers.product_of) (rw fits (rw wide refl))

pub product-given : (names : Names) (z : ℤ) (ps : List Part) → z ≢ pos 0 → in_range z ≡ true → all_in_range (numbers_of ps) ≡ true → Numbers.product_of names (record { whole_part = z; parts = ps }) ≡ Gives (assembled names Builtin.Times (pos 1) z (ordered (written (Numbers.write_factor names) ps)))
product-given names z ps other fits all = rw (not_zero z other, Numbers.product_of) (rw fits (rw all refl))

pub took-integer : (names : Names) (n z : ℤ) (whole : Kept) (ps : List Part) → Stands whole (z *ℤ n) → Took names (integer n) z ps whole ps
took-integer names n z whole ps stands = record { part = z *ℤ n; stands = stands; rest = λ es. refl }

pub took-other : (names : Names) (e : Tree) (z : ℤ) (whole : Kept) (before after : List Part) → ((n : ℤ) → e ≢ integer n) → Stands whole z → after ≡ before ++ factor names e ∷ [] → Took names e z before whole after
took-other names (integer n) z whole before after other stands is = absurd (other n refl)
took-other names (string s) z whole before after other stands is = record { part = z; stands = stands; rest = λ es. ap (λ ps. gather_product names es (record { whole_part = z; parts = ps })) (sym (ap gathered is ∙ gathered-more before (factor names (string s)))) }
took-other names (symbol s) z whole before after other stands is = record { part = z; stands = stands; rest = λ es. ap (λ ps. gather_product names es (record { whole_part = z; parts = ps })) (sym (ap gathered is ∙ gathered-more before (factor names (symbol s)))) }
took-other names (normal h ts) z whole before after other stands is = record { part = z; stands = stands; rest = λ es. ap (λ ps. gather_product names es (record { whole_part = z; parts = ps })) (sym (ap gathered is ∙ gathered-more before (factor names (normal h ts)))) }

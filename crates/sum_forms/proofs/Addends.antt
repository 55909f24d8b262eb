-- What a sum makes of its elements.
use Rattle.std.proofs.Common.{◌≡◌, ◌≢◌, ◌≤◌, ◌+◌, ◌-◌, ℕ, zero, suc, ℤ, pos, List, [], ◌∷◌, ◌++◌, length, take, drop, get_or, Bool, true, false, refl, sym, ap, ◌∙◌, arith, append_assoc}
use Rattle.std.specs.Prelude.{Option, None, Some}
use Rattle.std.specs.Ordering.{int_eq}
use Rattle.expr_tree.specs.Tree.{Tree, integer, string, symbol, normal, trees, size, sizes, depth, depths}
use Rattle.expr_tree.specs.Limits.{in_range}
use Rattle.expr_tree.proofs.Callers.{tree_steps}
use Rattle.expr_tree.proofs.Trees.{trees-elements}
use Rattle.semantics.specs.Names.{Names, is_call, items_of, make}
use Rattle.semantics.specs.Worked.{Gives, TooWide, all_in_range}
use Rattle.semantics.specs.Numbers as Numbers
use Rattle.semantics.specs.Numbers.{Part, once, term, term_in, written, numbers_of, assembled, gather_sum, sum_of, times}
use Rattle.semantics.specs.Steps.{ordered}
use Rattle.semantics.specs.declared.builtin.Builtin.{Builtin}
use Rattle.int_ops.specs.Totals.{total}
use Rattle.sum_forms.specs.Gathering.{gathered}
use Rattle.sum_forms.specs.Taken.{TookTerm}
use Rattle.sum_forms.specs.Splits.{rest_in, IsScaled}
use Rattle.sum_forms.specs.Planned.{with_one}
use Rattle.sum_forms.proofs.Shapes.{not_made}
use Rattle.sum_forms.proofs.Lists.{size-positive}
use Rattle.sum_forms.proofs.Rests.{total-more}
use Rattle.sum_forms.proofs.Judged.{gathered-more}
use Rattle.sum_forms.proofs.Factors.{not_zero}

-- how an element of a sum is read
term-call : (names : Names) (e : Tree) (ts : List Tree) → is_call names Builtin.Times e ≡ true → items_of e ≡ ts → term names e ≡ term_in names e ts
term-call names e ts call is = rw (call, term) (ap (term_in names e) is)

pub term-uncalled : (names : Names) (e : Tree) → is_call names Builtin.Times e ≡ false → term names e ≡ once e
term-uncalled names e call = rw (call, term) refl

term-once : (names : Names) (e : Tree) (ts : List Tree) → items_of e ≡ ts → term_in names e ts ≡ once e → term names e ≡ once e
term-once names e ts is alone = either (is_call names Builtin.Times e) refl where
  either : (b : Bool) → is_call names Builtin.Times e ≡ b → term names e ≡ once e
  either true call = term-call names e ts call is ∙ alone
  either false call = term-uncalled names e call

pub term-empty : (names : Names) (e : Tree) → items_of e ≡ [] → term names e ≡ once e
term-empty names e is = term-once names e [] is refl

in-alone : (names : Names) (e x : Tree) → term_in names e (x ∷ []) ≡ once e
in-alone names e (integer n) = refl
in-alone names e (string s) = refl
in-alone names e (symbol s) = refl
in-alone names e (normal h ts) = refl

in-other : (names : Names) (e x : Tree) (xs : List Tree) → ((n : ℤ) → x ≢ integer n) → term_in names e (x ∷ xs) ≡ once e
in-other names e (integer n) xs other = absurd (other n refl)
in-other names e (string s) xs other = refl
in-other names e (symbol s) xs other = refl
in-other names e (normal h ts) xs other = refl

pub term-alone : (names : Names) (e x : Tree) (xs : List Tree) → items_of e ≡ x ∷ xs → xs ≡ [] → term names e ≡ once e
term-alone names e x xs is none = term-once names e (x ∷ []) (is ∙ ap (λ l. x ∷ l) none) (in-alone names e x)

pub term-other : (names : Names) (e x : Tree) (xs : List Tree) → items_of e ≡ x ∷ xs → ((n : ℤ) → x ≢ integer n) → term names e ≡ once e
term-other names e x xs is other = term-once names e (x ∷ xs) is (in-other names e x xs other)

in-scaled : (names : Names) (e : Tree) (c : ℤ) (xs : List Tree) → xs ≢ [] → term_in names e (integer c ∷ xs) ≡ record { number = c; rest = rest_in names xs }
in-scaled names e c [] some = absurd (some refl)
in-scaled names e c (x ∷ []) some = refl
in-scaled names e c (x ∷ y ∷ ys) some = refl

size-items : (e : Tree) → sizes (trees (items_of e)) + 1 ≤ size e
size-items (integer n) = omega arith
size-items (string s) = omega arith
size-items (symbol s) = omega arith
size-items (normal h ts) = omega (arith, ap sizes (trees-elements ts), size-positive h)

depth-items : (e : Tree) → depths (trees (items_of e)) + 1 ≤ depth e
depth-items (integer n) = omega arith
depth-items (string s) = omega arith
depth-items (symbol s) = omega arith
depth-items (normal h ts) = omega (arith, ap depths (trees-elements ts))

pub scaled : (names : Names) (e : Tree) (c : ℤ) (xs : List Tree) → is_call names Builtin.Times e ≡ true → items_of e ≡ integer c ∷ xs → xs ≢ [] → size e ≤ 4000000 → depth e ≤ 512 → IsScaled names e c xs
scaled names e c xs call is some small shallow = record {
  is = term-call names e (integer c ∷ xs) call is ∙ in-scaled names e c xs some;
  small = omega (arith, size-items e, ap (λ l. sizes (trees l)) is);
  shallow = omega (arith, depth-items e, ap (λ l. depths (trees l)) is);
}

take-all : (xs : List Tree) (k : ℕ) → length xs ≤ k → take k xs ≡ xs
take-all [] zero low = refl
take-all [] (suc k) low = refl
take-all (x ∷ xs) zero low = absurd (omega arith)
take-all (x ∷ xs) (suc k) low = ap (λ l. x ∷ l) (take-all xs k (omega arith))

pub split_list : (ts : List Tree) (x : Tree) → 1 ≤ length ts → x ≡ get_or ts 0 x → ts ≡ x ∷ take (length ts - 1) (drop 1 ts)
split_list [] x few is = absurd (omega arith)
split_list (y ∷ ys) x few is = ap (λ z. z ∷ ys) (sym is) ∙ ap (λ l. x ∷ l) (sym (take-all ys (length (y ∷ ys) - 1) (omega arith)))

pub ruleset scaled_steps = (tree_steps, not_made)

-- the rest of a term
pub rest-made : (names : Names) (xs : List Tree) → length xs ≢ 1 → rest_in names xs ≡ make names Builtin.Times xs
rest-made names [] other = refl
rest-made names (x ∷ []) other = absurd (other refl)
rest-made names (x ∷ y ∷ ys) other = refl

pub ruleset rest_steps = (rest-made)

pub ruleset term_steps = (not_made)

-- one element more
pub took-integer : (names : Names) (n : ℤ) (numbers : List ℤ) (ps : List Part) → TookTerm names (integer n) numbers ps (numbers ++ n ∷ []) ps
took-integer names n numbers ps = record { rest = λ es. ap (λ z. gather_sum names es (record { whole_part = z; parts = gathered ps })) (sym (total-more numbers n)) }

pub took-other : (names : Names) (e : Tree) (numbers : List ℤ) (before after : List Part) → ((n : ℤ) → e ≢ integer n) → after ≡ before ++ term names e ∷ [] → TookTerm names e numbers before numbers after
took-other names (integer n) numbers before after other is = absurd (other n refl)
took-other names (string s) numbers before after other is = record { rest = λ es. ap (λ ps. gather_sum names es (record { whole_part = total numbers; parts = ps })) (sym (ap gathered is ∙ gathered-more before (term names (string s)))) }
took-other names (symbol s) numbers before after other is = record { rest = λ es. ap (λ ps. gather_sum names es (record { whole_part = total numbers; parts = ps })) (sym (ap gathered is ∙ gathered-more before (term names (symbol s)))) }
took-other names (normal h ts) numbers before after other is = record { rest = λ es. ap (λ ps. gather_sum names es (record { whole_part = total numbers; parts = ps })) (sym (ap gathered is ∙ gathered-more before (term names (normal h ts)))) }

pub ruleset take_steps = (took-integer, took-other)

pub ruleset plus_steps = (not_made)

-- what a group writes
abbrev pub term_tree : Names → Part → Tree
term_tree names p = elim (int_eq p.number (pos 1)) [ true ↦ p.rest | false ↦ times names p.number p.rest ]

write-at : (names : Names) (p : Part) (test : Bool) → int_eq p.number (pos 1) ≡ test → int_eq p.number (pos 0) ≡ false → Numbers.write_term names p ≡ Some (term_tree names p)
write-at names p true e f = rw (f, Numbers.write_term) (rw e (rw (e, term_tree) refl))
write-at names p false e f = rw (f, Numbers.write_term) (rw e (rw (e, term_tree) refl))

pub write-some : (names : Names) (p : Part) → p.number ≢ pos 0 → Numbers.write_term names p ≡ Some (term_tree names p)
write-some names p other = write-at names p (int_eq p.number (pos 1)) refl (not_zero p.number other)

pub write-none : (names : Names) (p : Part) → p.number ≡ pos 0 → Numbers.write_term names p ≡ None
write-none names p e = rw (ap (λ n. int_eq n (pos 0)) e, Numbers.write_term) refl

pub ruleset with_steps = (not_made)

pub ruleset write_steps = (not_made)

-- a coefficient before a product, and before anything else
pub times-call : (names : Names) (c : ℤ) (e : Tree) → is_call names Builtin.Times e ≡ true → times names c e ≡ make names Builtin.Times (integer c ∷ items_of e)
times-call names c e call = rw (call, times) refl

pub times-other : (names : Names) (c : ℤ) (e : Tree) → is_call names Builtin.Times e ≡ false → times names c e ≡ make names Builtin.Times (integer c ∷ e ∷ [])
times-other names c e call = rw (call, times) refl

pub ruleset scaled_by_steps = (times-call, times-other)

with-next : (done : List Tree) (o : Option Tree) (rest : List Tree) → with_one done o ++ rest ≡ done ++ elim o as (λ _. List Tree) [ None ↦ rest | Some e ↦ e ∷ rest ]
with-next done None rest = refl
with-next done (Some e) rest = rw append_assoc refl

pub written-next : (names : Names) (done : List Tree) (p : Part) (ps qs : List Part) (whole : List Tree) → qs ≡ p ∷ ps → done ++ written (Numbers.write_term names) qs ≡ whole → with_one done (Numbers.write_term names p) ++ written (Numbers.write_term names) ps ≡ whole
written-next names done p ps qs whole is so_far = with-next done (Numbers.write_term names p) (written (Numbers.write_term names) ps) ∙ ap (λ l. done ++ written (Numbers.write_term names) l) (sym is) ∙ so_far

-- the range is judged on the whole
pub sum-wide : (names : Names) (z : ℤ) (ps : List Part) → in_range z ≡ false → sum_of names (record { whole_part = z; parts = ps }) ≡ TooWide
sum-wide names z ps wide = rw (wide, sum_of) refl

pub sum-parts : (names : Names) (z : ℤ) (ps : List Part) → in_range z ≡ true → all_in_range (numbers_of ps) ≡ false → sum_of names (record { whole_part = z; parts = ps }) ≡ TooWide
sum-parts names z ps fits wide = rw (fits, sum_of) (rw wide refl)

pub sum-given : (names : Names) (z : ℤ) (ps : List Part) → in_range z ≡ true → all_in_range (numbers_of ps) ≡ true → sum_of names (record { whole_part = z; parts = ps }) ≡ Gives (assembled names Builtin.Plus (pos 0) z (ordered (written (Numbers.write_term names) ps)))
sum-given names z ps fits all = rw (fits, sum_of) (rw all refl)

pub ruleset sum_steps = (not_made)

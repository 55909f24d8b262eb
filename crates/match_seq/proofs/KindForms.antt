-- The form of a pattern follows from its kind and the number of its items.
use Rattle.std.proofs.Common.{◌≡◌, ◌≢◌, ℕ, zero, suc, ◌+◌, List, [], ◌∷◌, length, Bool, true, false, ◌&&◌, ◌==◌, leb, ltb, if◌then◌else◌, refl, ap, sym, ◌∙◌, arith, ne_eqb, lt-ltb, leb-true, ◌<◌, ◌≤◌}
use Rattle.expr_tree.specs.declared.sym.Sym.{Sym}
use Rattle.expr_tree.specs.Same.{symbol_eq}
use Rattle.expr_tree.specs.Tree.{Tree, integer, string, symbol, normal, Trees, nil, cons, call, count}
use Rattle.semantics.specs.declared.builtin.Builtin.{Builtin}
use Rattle.semantics.specs.Names.{Names, known, is_known}
use Rattle.semantics.specs.Match as match
use Rattle.semantics.specs.Match.{Kind, blank, sequence, null_sequence, pattern, test, condition, alternatives, hold, verbatim, other, kind, has_shape, single_by, first_is_symbol, Matching}
use Rattle.match_seq.specs.declared.constructs.Form.{Form}
use Rattle.match_seq.specs.declared.constructs.Form.TheVariants as form
use Rattle.match_seq.specs.Forms.{zero_or_one, only_one, only_two, form_of}
use Rattle.match_seq.specs.Origin.{constructs_of}
use Rattle.match_seq.specs.Search.{single_form, is_single, first_is_single, second_is_single, wrapped, wraps}

abbrev pub form_by : Kind → ℕ → Form
form_by blank n = zero_or_one n form.One form.OneOf
form_by sequence n = zero_or_one n form.Some form.SomeOf
form_by null_sequence n = zero_or_one n form.Any form.AnyOf
form_by pattern n = only_two n form.Named
form_by test n = only_two n form.Tested
form_by condition n = only_two n form.Conditioned
form_by alternatives n = form.Alternatives
form_by hold n = only_one n form.Held
form_by verbatim n = only_one n form.Verbatim
form_by other n = form.Ordinary

abbrev kind_chain : Bool → Bool → Bool → Bool → Bool → Bool → Bool → Bool → Bool → Kind
kind_chain b c d p t o a h v =
    elim b [ true ↦ blank | false ↦ elim c [ true ↦ sequence | false ↦ elim d [ true ↦ null_sequence | false ↦ elim p [ true ↦ pattern | false ↦ elim t [ true ↦ test | false ↦ elim o [ true ↦ condition | false ↦ elim a [ true ↦ alternatives | false ↦ elim h [ true ↦ hold | false ↦ elim v [ true ↦ verbatim | false ↦ other ] ] ] ] ] ] ] ] ]

abbrev form_chain : Bool → Bool → Bool → Bool → Bool → Bool → Bool → Bool → Bool → ℕ → Form
form_chain b c d p t o a h v n =
    if b then zero_or_one n form.One form.OneOf
    else if c then zero_or_one n form.Some form.SomeOf
    else if d then zero_or_one n form.Any form.AnyOf
    else if p then only_two n form.Named
    else if t then only_two n form.Tested
    else if o then only_two n form.Conditioned
    else if a then form.Alternatives
    else if h then only_one n form.Held
    else if v then only_one n form.Verbatim
    else form.Ordinary

chains : (b c d p t o a h v : Bool) (n : ℕ) → form_chain b c d p t o a h v n ≡ form_by (kind_chain b c d p t o a h v) n
chains true c d p t o a h v n = refl
chains false true d p t o a h v n = refl
chains false false true p t o a h v n = refl
chains false false false true t o a h v n = refl
chains false false false false true o a h v n = refl
chains false false false false false true a h v n = refl
chains false false false false false false true h v n = refl
chains false false false false false false false true v n = refl
chains false false false false false false false false true n = refl
chains false false false false false false false false false n = refl

both_ways : (a b : Bool) → (a && b) ≡ (b && a)
both_ways true true = refl
both_ways true false = refl
both_ways false true = refl
both_ways false false = refl

known_by : (names : Names) (row : Builtin) (s : Sym) → symbol_eq s (known names row) ≡ is_known names row s
known_by names row s = both_ways (s.base == names.place row) (s.number == 0)

pub form_is : (names : Names) (h : Tree) (n : ℕ) → form_of (constructs_of names) h n ≡ form_by (kind names h) n
form_is names (integer m) n = refl
form_is names (string t) n = refl
form_is names (normal g es) n = refl
form_is names (symbol s) n =
    let k : Builtin → Bool = λ row. is_known names row s in
    (λ i. form_chain
    (known_by names Builtin.Blank s i) (known_by names Builtin.BlankSequence s i) (known_by names Builtin.BlankNullSequence s i)
    (known_by names Builtin.Pattern s i) (known_by names Builtin.PatternTest s i) (known_by names Builtin.Condition s i)
    (known_by names Builtin.Alternatives s i) (known_by names Builtin.HoldPattern s i) (known_by names Builtin.Verbatim s i) n)
    ∙ chains (k Builtin.Blank) (k Builtin.BlankSequence) (k Builtin.BlankNullSequence) (k Builtin.Pattern) (k Builtin.PatternTest) (k Builtin.Condition) (k Builtin.Alternatives) (k Builtin.HoldPattern) (k Builtin.Verbatim) n

unequal : (m n : ℕ) → m ≢ n → (m == n) ≡ false
unequal m n p = ne_eqb m n p

pub zero_or_one-more : (n : ℕ) (a b : Form) → zero_or_one (n + 1 + 1) a b ≡ form.Ordinary
zero_or_one-more n a b = rw (unequal (n + 1 + 1) 0 (λ e. absurd (omega arith)), unequal (n + 1 + 1) 1 (λ e. absurd (omega arith))) refl

pub only_one-more : (n : ℕ) (a : Form) → only_one (n + 1 + 1) a ≡ form.Ordinary
only_one-more n a = rw (unequal (n + 1 + 1) 1 (λ e. absurd (omega arith))) refl

pub only_two-more : (n : ℕ) (a : Form) → only_two (n + 1 + 1 + 1) a ≡ form.Ordinary
only_two-more n a = rw (unequal (n + 1 + 1 + 1) 2 (λ e. absurd (omega arith))) refl

single_if : (b named first second single : Bool) (a : Form) → single_form a named first second ≡ single → (b && single) ≡ single_form (if b then a else form.Ordinary) named first second
single_if true named first second single a e = sym e
single_if false named first second single a e = refl

single_named : (b named first second : Bool) → ((b && named) && second) ≡ single_form (if b then form.Named else form.Ordinary) named first second
single_named true named first second = refl
single_named false named first second = refl

not_single : (b : Bool) → (b && false) ≡ false
not_single true = refl
not_single false = refl

single_none_of : (b c named first second : Bool) (x y : Form) → single_form x named first second ≡ false → single_form y named first second ≡ false → false ≡ single_form (if b then x else if c then y else form.Ordinary) named first second
single_none_of true c named first second x y e f = sym e
single_none_of false true named first second x y e f = sym f
single_none_of false false named first second x y e f = refl

long : (n : ℕ) → 1 < n → leb n 1 ≡ false
long n p = is_no (leb n 1) refl
  where
    is_no : (b : Bool) → leb n 1 ≡ b → leb n 1 ≡ false
    is_no true e = let q : n ≤ 1 = leb-true n 1 e in absurd (omega (arith, p, q))
    is_no false e = e

single_blank : (n : ℕ) (named first second : Bool) → (leb n 1 && true) ≡ single_form (zero_or_one n form.One form.OneOf) named first second
single_blank zero named first second = refl
single_blank (suc zero) named first second = refl
single_blank (suc (suc n)) named first second =
    let e : leb (suc (suc n)) 1 ≡ false = long (suc (suc n)) (omega arith) in
    rw (unequal (suc (suc n)) 0 (λ e. absurd (omega arith)), unequal (suc (suc n)) 1 (λ e. absurd (omega arith)), e) refl

single_forms : (k : Kind) (n : ℕ) (named first second : Bool) → (has_shape k n named && single_by k first second) ≡ single_form (form_by k n) named first second
single_forms blank n named first second = single_blank n named first second
single_forms sequence n named first second = not_single (leb n 1) ∙ single_none_of (n == 0) (n == 1) named first second form.Some form.SomeOf refl refl
single_forms null_sequence n named first second = not_single (leb n 1) ∙ single_none_of (n == 0) (n == 1) named first second form.Any form.AnyOf refl refl
single_forms pattern n named first second = single_named (n == 2) named first second
single_forms test n named first second = single_if (n == 2) named first second first form.Tested refl
single_forms condition n named first second = single_if (n == 2) named first second first form.Conditioned refl
single_forms alternatives n named first second = refl
single_forms hold n named first second = single_if (n == 1) named first second first form.Held refl
single_forms verbatim n named first second = single_if (n == 1) named first second false form.Verbatim refl
single_forms other n named first second = refl

mutual
  pub single_is : (names : Names) (p : Tree) → is_single (constructs_of names) p ≡ match.is_single names p
  single_is names (integer n) = refl
  single_is names (string t) = refl
  single_is names (symbol s) = refl
  single_is names (normal h ps) =
      (λ i. single_form (form_is names h (count ps) i) (first_is_symbol ps) (first_single_is names ps i) (second_single_is names ps i))
      ∙ sym (single_forms (kind names h) (count ps) (first_is_symbol ps) (match.first_is_single names ps) (match.second_is_single names ps))

  pub first_single_is : (names : Names) (ps : Trees) → first_is_single (constructs_of names) ps ≡ match.first_is_single names ps
  first_single_is names nil = refl
  first_single_is names (cons p ps) = single_is names p

  pub second_single_is : (names : Names) (ps : Trees) → second_is_single (constructs_of names) ps ≡ match.second_is_single names ps
  second_single_is names nil = refl
  second_single_is names (cons p ps) = first_single_is names ps

wrapped_short : (b : Bool) (h : Tree) (run : List Tree) → ltb 1 (length run) ≡ false → wrapped b h run ≡ run
wrapped_short true h run e = rw e refl
wrapped_short false h run e = refl

wrapped_long : (b : Bool) (h e f : Tree) (run : List Tree) → wrapped b h (e ∷ f ∷ run) ≡ elim b [ true ↦ call h (e ∷ f ∷ run) ∷ [] | false ↦ e ∷ f ∷ run ]
wrapped_long true h e f run = let long : ltb 1 (length (e ∷ f ∷ run)) ≡ true = lt-ltb 1 (length (e ∷ f ∷ run)) (omega arith) in rw long refl
wrapped_long false h e f run = refl

pub wrapped_is : (names : Names) (how : Matching) (h p : Tree) (run : List Tree) → wrapped (wraps (constructs_of names) how p) h run ≡ match.wrapped names how h p run
wrapped_is names how h p [] = wrapped_short (wraps (constructs_of names) how p) h [] refl
wrapped_is names how h p (e ∷ []) = wrapped_short (wraps (constructs_of names) how p) h (e ∷ []) refl
wrapped_is names how h p (e ∷ f ∷ run) =
    wrapped_long (wraps (constructs_of names) how p) h e f run
    ∙ ap (λ s. elim (how.flat && s) [ true ↦ call h (e ∷ f ∷ run) ∷ [] | false ↦ e ∷ f ∷ run ]) (single_is names p)

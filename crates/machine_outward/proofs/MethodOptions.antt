-- The option that stands last.
use Rattle.std.proofs.Common.{◌≡◌, ℕ, zero, suc, ◌+◌, ◌-◌, ◌<◌, ◌≤◌, refl, ap, sym, subst, ◌∙◌, Bool, true, false, ◌&&◌, List, [], ◌∷◌, ◌++◌, Option, Some, None, Result, Ok, Err, length, get_or, take, drop, arith}
use Rattle.expr_tree.specs.Tree.{Tree, Trees, nil, cons, integer, string, symbol, normal, call, trees}
use Rattle.expr_tree.proofs.Callers.{tree_steps}
use Rattle.semantics.specs.declared.builtin.Builtin.{Builtin}
use Rattle.semantics.specs.Names.{Names, is_name}
use Rattle.semantics.specs.Program.{Prog, Ask}
use Rattle.semantics.specs.Sections.{is_option, without_option, ask_option}
use Rattle.machine_outward.specs.declared.options.MethodOption.{MethodOption}
use Rattle.std.specs.Prelude.{IfOk}
use Rattle.std.specs.declared.alloc.AllocError.{AllocError}
use Rattle.std.proofs.lemmas.Bool.{true≢false}
use Rattle.machine_outward.specs.declared.options.Split.{Split}
use Rattle.machine_outward.specs.Options.{option_call, IsOptionIn}
use Rattle.machine_outward.specs.LoopShapes.{asking_option, IsSplit}

-- elements as those before the last, and the last
last_at : (n : ℕ) (es : List Tree) (e : Tree) → length es ≡ suc n → e ≡ get_or es n e → es ≡ take n es ++ e ∷ []
last_at zero [] e long is = absurd (omega (arith, long))
last_at zero (x ∷ []) e long is = ap (λ y. y ∷ []) (sym is)
last_at zero (x ∷ y ∷ es) e long is = absurd (omega (arith, long))
last_at (suc n) [] e long is = absurd (omega (arith, long))
last_at (suc n) (x ∷ es) e long is = ap (λ fs. x ∷ fs) (last_at n es e (omega (arith, long)) is)

pub split_last : (es : List Tree) (e : Tree) → 1 ≤ length es → e ≡ get_or es (length es - 1) e → es ≡ take (length es - 1) es ++ e ∷ []
split_last es e some is = last_at (length es - 1) es e (omega (arith, some)) is

without_last : (names : Names) (before : List Tree) (e : Tree) → is_option names e ≡ true → without_option names (before ++ e ∷ []) ≡ before
without_last names [] e option = ap (λ b. elim b as (λ _. List Tree) [ true ↦ [] | false ↦ e ∷ [] ]) option
without_last names (x ∷ []) e option = ap (λ fs. x ∷ fs) (without_last names [] e option)
without_last names (x ∷ y ∷ es) e option = ap (λ fs. x ∷ fs) (without_last names (y ∷ es) e option)

with_last : (names : Names) (before : List Tree) (e : Tree) → is_option names e ≡ false → without_option names (before ++ e ∷ []) ≡ before ++ e ∷ []
with_last names [] e other = ap (λ b. elim b as (λ _. List Tree) [ true ↦ [] | false ↦ e ∷ [] ]) other
with_last names (x ∷ []) e other = ap (λ fs. x ∷ fs) (with_last names [] e other)
with_last names (x ∷ y ∷ es) e other = ap (λ fs. x ∷ fs) (with_last names (y ∷ es) e other)

pub option_dropped : (names : Names) (es : List Tree) (e : Tree) → 1 ≤ length es → e ≡ get_or es (length es - 1) e → is_option names e ≡ true → without_option names es ≡ take (length es - 1) es
option_dropped names es e some is option = ap (without_option names) (split_last es e some is) ∙ without_last names (take (length es - 1) es) e option

pub nothing_dropped : (names : Names) (es : List Tree) (e : Tree) → 1 ≤ length es → e ≡ get_or es (length es - 1) e → is_option names e ≡ false → without_option names es ≡ es
nothing_dropped names es e some is other =
    ap (without_option names) (split_last es e some is) ∙ with_last names (take (length es - 1) es) e other ∙ sym (split_last es e some is)

pub none_dropped : (names : Names) (es : List Tree) → length es ≡ 0 → without_option names es ≡ es
none_dropped names [] none' = refl
none_dropped names (e ∷ es) none' = absurd (omega (arith, none'))

pub ruleset without_steps = (option_dropped, nothing_dropped, none_dropped)

-- ---- the right side of the option is asked for

ask_last : (names : Names) (before : List Tree) (e : Tree) (k : List Tree → Prog) → ask_option names (before ++ e ∷ []) k ≡ ask_option names (e ∷ []) (λ gs. k (before ++ gs))
ask_last names [] e k = refl
ask_last names (x ∷ []) e k = refl
ask_last names (x ∷ y ∷ es) e k = ask_last names (y ∷ es) e (λ gs. k (x ∷ gs))

ask_one : (names : Names) (o : MethodOption) (k : List Tree → Prog) → is_option names (option_call o o.value) ≡ true → ask_option names (option_call o o.value ∷ []) k ≡ Ask o.value (λ v. k (option_call o v ∷ []))
ask_one names o k option =
    ap (λ b. elim b as (λ _. Prog) [ true ↦ Ask o.value (λ v. k (option_call o v ∷ [])) | false ↦ k (option_call o o.value ∷ []) ]) option

-- any other element stands as it is
ask_other : (names : Names) (e : Tree) (k : List Tree → Prog) → is_option names e ≡ false → ask_option names (e ∷ []) k ≡ k (e ∷ [])
ask_other names (integer n) k other = refl
ask_other names (string t) k other = refl
ask_other names (symbol s) k other = refl
ask_other names (normal h nil) k other = refl
ask_other names (normal h (cons m nil)) k other = refl
ask_other names (normal h (cons m (cons v nil))) k other =
    ap (λ b. elim b as (λ _. Prog) [ true ↦ Ask v (λ w. k (normal h (cons m (cons w nil)) ∷ [])) | false ↦ k (normal h (cons m (cons v nil)) ∷ []) ]) other
ask_other names (normal h (cons m (cons v (cons w es)))) k other = refl

pub asks_option : (names : Names) (es before : List Tree) (e : Tree) (o : MethodOption) → 1 ≤ length es → e ≡ get_or es (length es - 1) e → is_option names e ≡ true → before ≡ take (length es - 1) es → e ≡ option_call o o.value → (k : List Tree → Prog)
    → ask_option names es k ≡ asking_option before (Some o) k
asks_option names es before e o some is option front form k =
    ap (λ xs. ask_option names xs k) (split_last es e some is ∙ (λ i. sym front i ++ e ∷ []))
    ∙ ask_last names before e k
    ∙ (λ i. ask_option names (form i ∷ []) (λ gs. k (before ++ gs)))
    ∙ ask_one names o (λ gs. k (before ++ gs)) (subst (λ x. is_option names x ≡ true) form option)

pub asks_none : (names : Names) (es before : List Tree) → length es ≡ 0 → before ≡ es → (k : List Tree → Prog) → ask_option names es k ≡ asking_option before None k
asks_none names [] before none' front k = ap k (sym front)
asks_none names (e ∷ es) before none' front k = absurd (omega (arith, none'))

pub asks_other : (names : Names) (es before : List Tree) (e : Tree) → 1 ≤ length es → e ≡ get_or es (length es - 1) e → is_option names e ≡ false → before ≡ es → (k : List Tree → Prog) → ask_option names es k ≡ asking_option before None k
asks_other names es before e some is other front k =
    ap (λ xs. ask_option names xs k) (split_last es e some is)
    ∙ ask_last names (take (length es - 1) es) e k
    ∙ ask_other names e (λ gs. k (take (length es - 1) es ++ gs)) other
    ∙ ap k (sym (split_last es e some is) ∙ sym front)

-- ---- an expression with two elements

two_items : (es : List Tree) (x y : Tree) → length es ≡ 2 → x ≡ get_or es 0 x → y ≡ get_or es 1 y → es ≡ x ∷ y ∷ []
two_items [] x y long first second = absurd (omega (arith, long))
two_items (e ∷ []) x y long first second = absurd (omega (arith, long))
two_items (e ∷ f ∷ []) x y long first second = λ i. sym first i ∷ sym second i ∷ []
two_items (e ∷ f ∷ g ∷ es) x y long first second = absurd (omega (arith, long))

pub pair_there : (e h : Tree) (es : List Tree) (x y : Tree) → e ≡ normal h (trees es) → length es ≡ 2 → x ≡ get_or es 0 x → y ≡ get_or es 1 y → e ≡ call h (x ∷ y ∷ [])
pair_there e h es x y is long first second = is ∙ ap (λ fs. call h fs) (two_items es x y long first second)

count_two : (es : List Tree) (m v : Tree) → trees es ≡ trees (m ∷ v ∷ []) → length es ≡ 2
count_two [] m v same = cc
count_two (x ∷ []) m v same = cc
count_two (x ∷ y ∷ []) m v same = refl
count_two (x ∷ y ∷ z ∷ es) m v same = cc

pub no_pair_long : (e h : Tree) (es : List Tree) → e ≡ normal h (trees es) → (length es ≡ 2 → ⊥) → (g m v : Tree) → e ≡ call g (m ∷ v ∷ []) → ⊥
no_pair_long e h es is other g m v pair =
    let same : normal h (trees es) ≡ normal g (trees (m ∷ v ∷ [])) = sym is ∙ pair in
    other (count_two es m v (elements_same same))
  where
    elements_same : normal h (trees es) ≡ normal g (trees (m ∷ v ∷ [])) → trees es ≡ trees (m ∷ v ∷ [])
    elements_same same = cc

abbrev is_normal : Tree → Bool
is_normal (normal h es) = true
is_normal e = false

pub no_pair_atom : (e : Tree) → is_normal e ≡ false → (g m v : Tree) → e ≡ call g (m ∷ v ∷ []) → ⊥
no_pair_atom e atom g m v pair = cc

pub pair_option : (names : Names) (e h m v : Tree) → e ≡ call h (m ∷ v ∷ []) → is_option names e ≡ (is_name names Builtin.Rule h && is_name names Builtin.Method m)
pair_option names e h m v is = ap (is_option names) is

pub no_option : (names : Names) (e : Tree) → ((h m v : Tree) → e ≡ call h (m ∷ v ∷ []) → ⊥) → is_option names e ≡ false
no_option names (integer n) other = refl
no_option names (string t) other = refl
no_option names (symbol s) other = refl
no_option names (normal h nil) other = refl
no_option names (normal h (cons m nil)) other = refl
no_option names (normal h (cons m (cons v nil))) other = absurd (other h m v refl)
no_option names (normal h (cons m (cons v (cons w es)))) other = refl

-- ---- elements are split

pub splits_so : (names : Names) (es before : List Tree) (e : Tree) (r : Option MethodOption) → 1 ≤ length es → e ≡ get_or es (length es - 1) e → is_option names e ≡ true → before ≡ take (length es - 1) es → IsOptionIn e r → (k : List Tree → Prog)
    → ask_option names es k ≡ asking_option before r k
splits_so names es before e (Some o) some is option front f k = asks_option names es before e o some is option front f.by k
splits_so names es before e None some is option front f k = absurd (true≢false (sym option ∙ no_option names e f.by))

abbrev pub IsWhole : List Tree → Split → Type 0
IsWhole es s = (s.before ≡ es) × (s.option ≡ None)

pub splits_not : (names : Names) (es : List Tree) (e : Tree) (r : Result Split AllocError) → 1 ≤ length es → e ≡ get_or es (length es - 1) e → is_option names e ≡ false → IfOk r (IsWhole es) → IfOk r (IsSplit names es)
splits_not names es e (Ok s) some is other f = record { by = λ k. asks_other names es s.before e some is other f.0 k ∙ (λ i. asking_option s.before (sym f.1 i) k) }
splits_not names es e (Err x) some is other f = tt

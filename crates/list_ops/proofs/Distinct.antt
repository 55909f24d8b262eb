-- The elements of Lists, each once, from a place on.
use Rattle.std.proofs.Common.{◌≡◌, ◌≢◌, ℕ, ◌+◌, ◌-◌, ◌<◌, ◌≤◌, refl, ap, sym, ◌∙◌, Bool, true, false, List, [], ◌∷◌, ◌++◌, Some, None, length, get_or, drop, arith, append_assoc}
use Rattle.std.specs.Prelude.{Option}
use Rattle.std.specs.Bool.{IsTrue}
use Rattle.std.specs.Option.{option_map}
use Rattle.std.proofs.lemmas.List.{at_drop_all, append-nil, length-drop}
use Rattle.expr_tree.specs.Tree.{Tree}
use Rattle.expr_tree.specs.Same.{tree_eq}
use Rattle.semantics.specs.declared.builtin.Builtin.{Builtin}
use Rattle.semantics.specs.Names.{Names, is_call, items_of, make}
use Rattle.semantics.specs.Steps.{ordered}
use Rattle.semantics.specs.Worked.{Worked, Stays, Gives}
use Rattle.semantics.specs.Lists.{distinct, all_lists, union}
use Rattle.list_ops.specs.Repeats.{repeats}
use Rattle.list_ops.proofs.Joined.{split}

short : (xs : List Tree) → length xs < 2 → repeats xs ≡ false
short [] p = refl
short (x ∷ []) p = refl
short (x ∷ y ∷ xs) p = absurd (omega (arith, p))

pub repeats_no : (es : List Tree) (i : ℕ) → length es - i < 2 → repeats (drop i es) ≡ false
repeats_no es i p = short (drop i es) (omega (arith, p, length-drop i es))

pub repeats_at : (es : List Tree) (i : ℕ) (x y : Tree) → i + 1 < length es → x ≡ get_or es i x → y ≡ get_or es (i + 1) y → repeats (drop i es) ≡ tree_eq x y
repeats_at es i x y p q r =
    let a = split es i x (omega arith) q in
    let b = split es (i + 1) y p r in
    ap repeats (a ∙ ap (λ zs. x ∷ zs) b)

abbrev kept : Bool → Tree → List Tree → List Tree
kept b x rest = elim b [ true ↦ rest | false ↦ x ∷ rest ]

distinct_more : (x : Tree) (rest : List Tree) → distinct (x ∷ rest) ≡ kept (repeats (x ∷ rest)) x (distinct rest)
distinct_more x [] = refl
distinct_more x (y ∷ rest) = refl

distinct_at : (es : List Tree) (i : ℕ) (x : Tree) → i < length es → x ≡ get_or es i x → distinct (drop i es) ≡ kept (repeats (drop i es)) x (distinct (drop (i + 1) es))
distinct_at es i x p q =
    let a = split es i x p q in
    ap distinct a ∙ distinct_more x (drop (i + 1) es) ∙ ap (λ zs. kept (repeats zs) x (distinct (drop (i + 1) es))) (sym a)

pub distinct_yes : (es : List Tree) (i : ℕ) (x : Tree) → i < length es → x ≡ get_or es i x → repeats (drop i es) ≡ true → distinct (drop (i + 1) es) ≡ distinct (drop i es)
distinct_yes es i x p q e = sym (distinct_at es i x p q ∙ ap (λ b. kept b x (distinct (drop (i + 1) es))) e)

pub distinct_no : (made es : List Tree) (i : ℕ) (x : Tree) → i < length es → x ≡ get_or es i x → repeats (drop i es) ≡ false → (made ++ x ∷ []) ++ distinct (drop (i + 1) es) ≡ made ++ distinct (drop i es)
distinct_no made es i x p q e =
    append_assoc made (x ∷ []) (distinct (drop (i + 1) es)) ∙ ap (λ zs. made ++ zs) (sym (distinct_at es i x p q ∙ ap (λ b. kept b x (distinct (drop (i + 1) es))) e))

pub distinct_end : (made es : List Tree) (i : ℕ) → length es ≤ i → made ++ distinct (drop i es) ≡ made
distinct_end made es i h = ap (λ zs. made ++ zs) (at_drop_all distinct es i h) ∙ append-nil made

-- what is gathered so far, and the rest
abbrev pub with_lists : Names → List Tree → List Tree → Option (List Tree)
with_lists names made es = option_map (λ gs. made ++ gs) (all_lists names es)

abbrev placed : Bool → List Tree → Option (List Tree) → Option (List Tree)
placed b fs o = elim b [ true ↦ elim o [ None ↦ None | Some gs ↦ Some (fs ++ gs) ] | false ↦ None ]

abbrev behind : List Tree → Option (List Tree) → Option (List Tree)
behind made o = option_map (λ gs. made ++ gs) o

one_step : (made fs : List Tree) (o : Option (List Tree)) → behind made (placed true fs o) ≡ behind (made ++ fs) o
one_step made fs None = refl
one_step made fs (Some gs) = ap Some (sym (append_assoc made fs gs))

pub lists_more : (names : Names) (made es fs : List Tree) (i : ℕ) (x : Tree) → i < length es → x ≡ get_or es i x → IsTrue (is_call names Builtin.List x) → fs ≡ items_of x → with_lists names (made ++ fs) (drop (i + 1) es) ≡ with_lists names made (drop i es)
lists_more names made es fs i x p q t e =
    sym (ap (with_lists names made) (split es i x p q)
    ∙ ap (λ b. behind made (placed b (items_of x) (all_lists names (drop (i + 1) es)))) t
    ∙ one_step made (items_of x) (all_lists names (drop (i + 1) es))
    ∙ ap (λ gs. with_lists names (made ++ gs) (drop (i + 1) es)) (sym e))

not_true : (b : Bool) → (b ≡ true → ⊥) → b ≡ false
not_true true p = absurd (p refl)
not_true false p = refl

pub lists_no : (names : Names) (made es : List Tree) (i : ℕ) (x : Tree) → i < length es → x ≡ get_or es i x → (IsTrue (is_call names Builtin.List x) → ⊥) → with_lists names made (drop i es) ≡ None
lists_no names made es i x p q t =
    ap (with_lists names made) (split es i x p q)
    ∙ ap (λ b. behind made (placed b (items_of x) (all_lists names (drop (i + 1) es)))) (not_true (is_call names Builtin.List x) t)

pub lists_end : (names : Names) (made es : List Tree) (i : ℕ) → length es ≤ i → with_lists names made (drop i es) ≡ Some made
lists_end names made es i h = at_drop_all (with_lists names made) es i h ∙ ap Some (append-nil made)

pub lists_start : (names : Names) (es : List Tree) → with_lists names [] es ≡ all_lists names es
lists_start names es = go (all_lists names es)
  where
    go : (o : Option (List Tree)) → behind [] o ≡ o
    go None = refl
    go (Some gs) = refl

abbrev row_of : Names → Option (List Tree) → Worked
row_of names o = elim o [ None ↦ Stays | Some fs ↦ Gives (make names Builtin.List (distinct (ordered fs))) ]

pub union_some : (names : Names) (es fs : List Tree) → es ≢ [] → all_lists names es ≡ Some fs → union names es ≡ Gives (make names Builtin.List (distinct (ordered fs)))
union_some names [] fs p e = absurd (p refl)
union_some names (x ∷ es) fs p e = ap (row_of names) e

pub union_none : (names : Names) (es : List Tree) → all_lists names es ≡ None → union names es ≡ Stays
union_none names [] e = refl
union_none names (x ∷ es) e = ap (row_of names) e

pub ruleset repeat_steps = (repeats_no, repeats_at)

pub ruleset distinct_steps = (distinct_yes, distinct_no, distinct_end)

pub ruleset listed_steps = (lists_more, lists_no, lists_end, lists_start)

pub ruleset union_steps = (union_some, union_none)

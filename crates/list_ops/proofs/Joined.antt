-- Joining the elements from a place on.
use Rattle.std.proofs.Common.{◌≡◌, ℕ, ◌+◌, ◌<◌, ◌≤◌, refl, ap, sym, subst, ◌∙◌, Bool, true, false, List, [], ◌∷◌, ◌++◌, Some, None, length, get_or, drop, arith, append_assoc}
use Rattle.std.specs.Prelude.{Option}
use Rattle.std.specs.Option.{option_map}
use Rattle.std.proofs.lemmas.List.{drop_more, at_drop_all, append-nil}
use Rattle.expr_tree.specs.Tree.{Tree, Trees, integer, string, symbol, normal, elements, call}
use Rattle.expr_tree.specs.Same.{tree_eq}
use Rattle.expr_tree.proofs.Callers.{tree_steps}
use Rattle.expr_tree.proofs.Same.{tree_eq-refl}
use Rattle.semantics.specs.Names.{Names}
use Rattle.semantics.specs.Worked.{Worked, Stays, Gives}
use Rattle.semantics.specs.Lists.{joined, join}
use Rattle.list_ops.specs.Under.{under}

pub split : (es : List Tree) (i : ℕ) (x : Tree) → i < length es → x ≡ get_or es i x → drop i es ≡ x ∷ drop (i + 1) es
split es i x h p = drop_more es i x h ∙ ap (λ y. y ∷ drop (i + 1) es) (sym p)

-- what is joined so far, and the rest
abbrev pub with_rest : Tree → List Tree → List Tree → Option (List Tree)
with_rest h made es = option_map (λ gs. made ++ gs) (joined h es)

abbrev placed : Bool → List Tree → Option (List Tree) → Option (List Tree)
placed b fs o = elim b [ true ↦ elim o [ None ↦ None | Some gs ↦ Some (fs ++ gs) ] | false ↦ None ]

abbrev chosen : Bool → List Tree → Option (List Tree)
chosen b fs = elim b [ true ↦ Some fs | false ↦ None ]

abbrev behind : List Tree → Option (List Tree) → Option (List Tree)
behind made o = option_map (λ gs. made ++ gs) o

abbrev continued : List Tree → Option (List Tree) → Option (List Tree) → Option (List Tree)
continued made o p = elim p [ None ↦ None | Some ks ↦ behind (made ++ ks) o ]

one_step : (made fs : List Tree) (b : Bool) (o : Option (List Tree)) → behind made (placed b fs o) ≡ continued made o (chosen b fs)
one_step made fs true None = refl
one_step made fs true (Some gs) = ap Some (sym (append_assoc made fs gs))
one_step made fs false o = refl

by_head : (h : Tree) (made : List Tree) (x : Tree) (rest : List Tree) → with_rest h made (x ∷ rest) ≡ continued made (joined h rest) (under h x)
by_head h made (integer n) rest = refl
by_head h made (string s) rest = refl
by_head h made (symbol s) rest = refl
by_head h made (normal g fs) rest = one_step made (elements fs) (tree_eq h g) (joined h rest)

pub joins : (h : Tree) (made es : List Tree) (i : ℕ) (x : Tree) (fs : List Tree) → i < length es → x ≡ get_or es i x → under h x ≡ Some fs → with_rest h (made ++ fs) (drop (i + 1) es) ≡ with_rest h made (drop i es)
joins h made es i x fs l p e =
    sym (ap (with_rest h made) (split es i x l p) ∙ by_head h made x (drop (i + 1) es) ∙ ap (continued made (joined h (drop (i + 1) es))) e)

pub joins_no : (h : Tree) (made es : List Tree) (i : ℕ) (x : Tree) → i < length es → x ≡ get_or es i x → under h x ≡ None → with_rest h made (drop i es) ≡ None
joins_no h made es i x l p e =
    ap (with_rest h made) (split es i x l p) ∙ by_head h made x (drop (i + 1) es) ∙ ap (continued made (joined h (drop (i + 1) es))) e

pub joins_end : (h : Tree) (made es : List Tree) (i : ℕ) → length es ≤ i → with_rest h made (drop i es) ≡ Some made
joins_end h made es i l = at_drop_all (with_rest h made) es i l ∙ ap Some (append-nil made)

pub joins_start : (h : Tree) (es : List Tree) → with_rest h [] es ≡ joined h es
joins_start h es = go (joined h es)
  where
    go : (o : Option (List Tree)) → option_map (λ gs. [] ++ gs) o ≡ o
    go None = refl
    go (Some gs) = refl

-- the first expression has its own head
first_own : (h : Tree) (fs : Trees) (es : List Tree) → joined h (normal h fs ∷ es) ≡ placed true (elements fs) (joined h es)
first_own h fs es = ap (λ b. placed b (elements fs) (joined h es)) (tree_eq-refl h)

abbrev row_with : Tree → List Tree → Option (List Tree) → Worked
row_with h fs o = elim o [ None ↦ Stays | Some gs ↦ Gives (call h (fs ++ gs)) ]

abbrev row_of : Tree → Option (List Tree) → Worked
row_of h o = elim o [ None ↦ Stays | Some gs ↦ Gives (call h gs) ]

one_row : (h : Tree) (fs : List Tree) (o : Option (List Tree)) → row_with h fs o ≡ row_of h (placed true fs o)
one_row h fs None = refl
one_row h fs (Some gs) = refl

all_of : (names : Names) (h : Tree) (fs : Trees) (es : List Tree) → join names (normal h fs ∷ es) ≡ row_of h (joined h (normal h fs ∷ es))
all_of names h fs es = one_row h (elements fs) (joined h es) ∙ ap (row_of h) (sym (first_own h fs es))

by_first : (names : Names) (es : List Tree) (x h : Tree) (ts : Trees) → 1 ≤ length es → x ≡ get_or es 0 x → normal h ts ≡ x → join names es ≡ row_of h (joined h es)
by_first names [] x h ts l p is = absurd (omega (arith, l))
by_first names (e ∷ es) x h ts l p is =
    let q : e ≡ normal h ts = sym p ∙ sym is in
    subst (λ y. join names (y ∷ es) ≡ row_of h (joined h (y ∷ es))) (sym q) (all_of names h ts es)

pub join_some : (names : Names) (es : List Tree) (x h : Tree) (ts : Trees) (gs : List Tree) → 1 ≤ length es → x ≡ get_or es 0 x → normal h ts ≡ x → joined h es ≡ Some gs → join names es ≡ Gives (call h gs)
join_some names es x h ts gs l p is e = by_first names es x h ts l p is ∙ ap (row_of h) e

pub join_none : (names : Names) (es : List Tree) (x h : Tree) (ts : Trees) → 1 ≤ length es → x ≡ get_or es 0 x → normal h ts ≡ x → joined h es ≡ None → join names es ≡ Stays
join_none names es x h ts l p is e = by_first names es x h ts l p is ∙ ap (row_of h) e

pub ruleset joined_steps = (joins, joins_no, joins_end, joins_start)

pub ruleset join_steps = (tree_steps, join_some, join_none)

-- Joining the texts from a place on.
use Rattle.std.proofs.Common.{◌≡◌, ℕ, ◌+◌, ◌<◌, ◌≤◌, refl, ap, sym, ◌∙◌, List, [], ◌∷◌, ◌++◌, Some, None, length, get_or, drop, arith, append_assoc}
use Rattle.std.specs.Prelude.{Option}
use Rattle.std.specs.Option.{option_map}
use Rattle.std.proofs.lemmas.List.{drop_more, at_drop_all, append-nil}
use Rattle.expr_tree.specs.Tree.{Tree, integer, string, symbol, normal}
use Rattle.semantics.specs.Strings.{join_texts}
use Rattle.rows_strings.specs.TextOf.{text_of}

-- what is joined so far, and the rest
abbrev pub with_rest : List ℕ → List Tree → Option (List ℕ)
with_rest made es = option_map (λ t. made ++ t) (join_texts es)

by_kind : (made : List ℕ) (x : Tree) (rest : List Tree) → with_rest made (x ∷ rest) ≡ elim (text_of x) [ None ↦ None | Some t ↦ with_rest (made ++ t) rest ]
by_kind made (integer n) rest = refl
by_kind made (symbol s) rest = refl
by_kind made (normal h ts) rest = refl
by_kind made (string t) rest = go (join_texts rest)
  where
    go : (o : Option (List ℕ)) → option_map (λ u. made ++ u) (elim o [ None ↦ None | Some u ↦ Some (t ++ u) ]) ≡ option_map (λ u. (made ++ t) ++ u) o
    go None = refl
    go (Some u) = ap Some (sym (append_assoc made t u))

split : (es : List Tree) (i : ℕ) (x : Tree) → i < length es → x ≡ get_or es i x → drop i es ≡ x ∷ drop (i + 1) es
split es i x h p = drop_more es i x h ∙ ap (λ y. y ∷ drop (i + 1) es) (sym p)

pub joins : (made : List ℕ) (es : List Tree) (i : ℕ) (x : Tree) (t : List ℕ) → i < length es → x ≡ get_or es i x → text_of x ≡ Some t → with_rest (made ++ t) (drop (i + 1) es) ≡ with_rest made (drop i es)
joins made es i x t l p e =
    sym (ap (with_rest made) (split es i x l p) ∙ by_kind made x (drop (i + 1) es) ∙ ap (λ o. elim o [ None ↦ None | Some u ↦ with_rest (made ++ u) (drop (i + 1) es) ]) e)

pub joins_no : (made : List ℕ) (es : List Tree) (i : ℕ) (x : Tree) → i < length es → x ≡ get_or es i x → text_of x ≡ None → with_rest made (drop i es) ≡ None
joins_no made es i x l p e =
    ap (with_rest made) (split es i x l p) ∙ by_kind made x (drop (i + 1) es) ∙ ap (λ o. elim o [ None ↦ None | Some u ↦ with_rest (made ++ u) (drop (i + 1) es) ]) e

pub joins_end : (made : List ℕ) (es : List Tree) (i : ℕ) → length es ≤ i → with_rest made (drop i es) ≡ Some made
joins_end made es i l = at_drop_all (with_rest made) es i l ∙ ap Some (append-nil made)

pub joins_start : (es : List Tree) → with_rest [] es ≡ join_texts es
joins_start es = go (join_texts es)
  where
    go : (o : Option (List ℕ)) → option_map (λ u. [] ++ u) o ≡ o
    go None = refl
    go (Some u) = refl

pub ruleset join_steps = (joins, joins_no, joins_end, joins_start)

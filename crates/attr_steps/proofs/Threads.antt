-- Threading place by place.
use Rattle.std.proofs.Common.{append_assoc, ◌≡◌, ℕ, zero, suc, ◌+◌, ◌-◌, ◌<◌, ◌≤◌, List, [], ◌∷◌, ◌++◌, Bool, true, false, ◌&&◌, ◌==◌, length, drop, get_or, drop-cons, add-one, refl, ap, sym, ◌∙◌, arith}
use Rattle.std.proofs.lemmas.List.{get_or_past}
use Rattle.std.specs.Cmp.{first_so, second_so}
use Rattle.std.proofs.lemmas.Bool.{eqb-true, eq-eqb}
use Rattle.expr_tree.specs.declared.sym.Sym.{Sym}
use Rattle.expr_tree.specs.Tree.{Tree, Trees, integer, string, symbol, normal, trees, elements, call}
use Rattle.expr_tree.proofs.Trees.{trees-elements, elements-trees}
use Rattle.semantics.specs.declared.builtin.Builtin.{Builtin}
use Rattle.semantics.specs.Names.{Names, known, is_known, is_call, items_of, make}
use Rattle.semantics.specs.Steps.{first_or, rest_of, heads_of, tails_of, threads, all_of_length}
use Rattle.attr_steps.specs.Columns.{at_place, column}

-- what is left of an element from a place on
abbrev pub from_place : Names → ℕ → Tree → Tree
from_place names k e = elim (is_call names Builtin.List e) [ true ↦ make names Builtin.List (drop k (items_of e)) | false ↦ e ]

abbrev pub from_places : Names → ℕ → List Tree → List Tree
from_places names k [] = []
from_places names k (e ∷ es) = from_place names k e ∷ from_places names k es

is_itself : (names : Names) (row : Builtin) → is_known names row (known names row) ≡ true
is_itself names row = eq-eqb (names.place row) (names.place row) refl

known_one : (names : Names) (row : Builtin) (s : Sym) → is_known names row s ≡ true → s ≡ known names row
known_one names row s e =
    λ i. record {
      base = eqb-true s.base (names.place row) (second_so (s.number == 0) (s.base == names.place row) e) i;
      number = eqb-true s.number 0 (first_so (s.number == 0) (s.base == names.place row) e) i;
    }

made_again : (names : Names) (row : Builtin) (e : Tree) → is_call names row e ≡ true → make names row (items_of e) ≡ e
made_again names row (normal (symbol s) es) h = let p : known names row ≡ s = sym (known_one names row s h) in λ i. normal (symbol (p i)) (trees-elements es i)
made_again names row (normal (integer n) es) h = absurd (cc)
made_again names row (normal (string t) es) h = absurd (cc)
made_again names row (normal (normal k fs) es) h = absurd (cc)
made_again names row (integer n) h = absurd (cc)
made_again names row (string t) h = absurd (cc)
made_again names row (symbol s) h = absurd (cc)

first_left : (xs : List Tree) (k : ℕ) (d e : Tree) → k < length xs → first_or d (drop k xs) ≡ get_or xs k e
first_left xs k d e p = rw (drop-cons xs k e p) refl

rest_left : (xs : List Tree) (k : ℕ) → rest_of (drop k xs) ≡ drop (suc k) xs
rest_left [] zero = refl
rest_left [] (suc k) = refl
rest_left (x ∷ xs) zero = refl
rest_left (x ∷ xs) (suc k) = rest_left xs k

all_after : (names : Names) (n : ℕ) (e : Tree) (es : List Tree) → all_of_length names n (e ∷ es) ≡ true → all_of_length names n es ≡ true
all_after names n e es h = go (is_call names Builtin.List e) h
  where
    go : (b : Bool) → elim b [ true ↦ (length (items_of e) == n) && all_of_length names n es | false ↦ all_of_length names n es ] ≡ true → all_of_length names n es ≡ true
    go true h = second_so (length (items_of e) == n) (all_of_length names n es) h
    go false h = h

list_made : (names : Names) (es : List Tree) → is_call names Builtin.List (make names Builtin.List es) ≡ true
list_made names es = is_itself names Builtin.List

-- ---- one element, as it is a List or not

left_list : (names : Names) (k : ℕ) (e : Tree) → is_call names Builtin.List e ≡ true → from_place names k e ≡ make names Builtin.List (drop k (items_of e))
left_list names k e is = ap (λ b. elim b as (λ _. Tree) [ true ↦ make names Builtin.List (drop k (items_of e)) | false ↦ e ]) is

left_other : (names : Names) (k : ℕ) (e : Tree) → is_call names Builtin.List e ≡ false → from_place names k e ≡ e
left_other names k e is = ap (λ b. elim b as (λ _. Tree) [ true ↦ make names Builtin.List (drop k (items_of e)) | false ↦ e ]) is

pub at_list : (names : Names) (k : ℕ) (e : Tree) → is_call names Builtin.List e ≡ true → at_place names k e ≡ get_or (items_of e) k e
at_list names k e is = ap (λ b. elim b as (λ _. Tree) [ true ↦ get_or (items_of e) k e | false ↦ e ]) is

pub at_other : (names : Names) (k : ℕ) (e : Tree) → is_call names Builtin.List e ≡ false → at_place names k e ≡ e
at_other names k e is = ap (λ b. elim b as (λ _. Tree) [ true ↦ get_or (items_of e) k e | false ↦ e ]) is

heads_list : (names : Names) (e : Tree) (es : List Tree) → is_call names Builtin.List e ≡ true → heads_of names (e ∷ es) ≡ first_or e (items_of e) ∷ heads_of names es
heads_list names e es is = ap (λ b. elim b as (λ _. List Tree) [ true ↦ first_or e (items_of e) ∷ heads_of names es | false ↦ e ∷ heads_of names es ]) is

heads_other : (names : Names) (e : Tree) (es : List Tree) → is_call names Builtin.List e ≡ false → heads_of names (e ∷ es) ≡ e ∷ heads_of names es
heads_other names e es is = ap (λ b. elim b as (λ _. List Tree) [ true ↦ first_or e (items_of e) ∷ heads_of names es | false ↦ e ∷ heads_of names es ]) is

tails_list : (names : Names) (e : Tree) (es : List Tree) → is_call names Builtin.List e ≡ true → tails_of names (e ∷ es) ≡ make names Builtin.List (rest_of (items_of e)) ∷ tails_of names es
tails_list names e es is = ap (λ b. elim b as (λ _. List Tree) [ true ↦ make names Builtin.List (rest_of (items_of e)) ∷ tails_of names es | false ↦ e ∷ tails_of names es ]) is

tails_other : (names : Names) (e : Tree) (es : List Tree) → is_call names Builtin.List e ≡ false → tails_of names (e ∷ es) ≡ e ∷ tails_of names es
tails_other names e es is = ap (λ b. elim b as (λ _. List Tree) [ true ↦ make names Builtin.List (rest_of (items_of e)) ∷ tails_of names es | false ↦ e ∷ tails_of names es ]) is

-- ---- all elements

pub heads_here : (names : Names) (n k : ℕ) (es : List Tree) → all_of_length names n es ≡ true → k < n → heads_of names (from_places names k es) ≡ column names k es
heads_here names n k [] h p = refl
heads_here names n k (e ∷ es) h p = go (is_call names Builtin.List e) refl h (heads_here names n k es (all_after names n e es h) p)
  where
    go : (b : Bool) → is_call names Builtin.List e ≡ b
        → elim b [ true ↦ (length (items_of e) == n) && all_of_length names n es | false ↦ all_of_length names n es ] ≡ true
        → heads_of names (from_places names k es) ≡ column names k es
        → heads_of names (from_places names k (e ∷ es)) ≡ column names k (e ∷ es)
    go true is all ih =
        let long : length (items_of e) ≡ n = eqb-true (length (items_of e)) n (first_so (length (items_of e) == n) (all_of_length names n es) all) in
        let short : k < length (items_of e) = omega arith in
        ap (λ x. heads_of names (x ∷ from_places names k es)) (left_list names k e is)
        ∙ heads_list names (make names Builtin.List (drop k (items_of e))) (from_places names k es) (list_made names (drop k (items_of e)))
        ∙ ap (λ ys. first_or (make names Builtin.List (drop k (items_of e))) ys ∷ heads_of names (from_places names k es)) (elements-trees (drop k (items_of e)))
        ∙ ap (λ x. x ∷ heads_of names (from_places names k es)) (first_left (items_of e) k (make names Builtin.List (drop k (items_of e))) e short ∙ sym (at_list names k e is))
        ∙ ap (λ xs. at_place names k e ∷ xs) ih
    go false is all ih =
        ap (λ x. heads_of names (x ∷ from_places names k es)) (left_other names k e is)
        ∙ heads_other names e (from_places names k es) is
        ∙ ap (λ x. x ∷ heads_of names (from_places names k es)) (sym (at_other names k e is))
        ∙ ap (λ xs. at_place names k e ∷ xs) ih

pub tails_here : (names : Names) (k : ℕ) (es : List Tree) → tails_of names (from_places names k es) ≡ from_places names (suc k) es
tails_here names k [] = refl
tails_here names k (e ∷ es) = go (is_call names Builtin.List e) refl (tails_here names k es)
  where
    go : (b : Bool) → is_call names Builtin.List e ≡ b → tails_of names (from_places names k es) ≡ from_places names (suc k) es
        → tails_of names (from_places names k (e ∷ es)) ≡ from_places names (suc k) (e ∷ es)
    go true is ih =
        ap (λ x. tails_of names (x ∷ from_places names k es)) (left_list names k e is)
        ∙ tails_list names (make names Builtin.List (drop k (items_of e))) (from_places names k es) (list_made names (drop k (items_of e)))
        ∙ ap (λ ys. make names Builtin.List (rest_of ys) ∷ tails_of names (from_places names k es)) (elements-trees (drop k (items_of e)))
        ∙ ap (λ ys. make names Builtin.List ys ∷ tails_of names (from_places names k es)) (rest_left (items_of e) k)
        ∙ ap (λ x. x ∷ tails_of names (from_places names k es)) (sym (left_list names (suc k) e is))
        ∙ ap (λ xs. from_place names (suc k) e ∷ xs) ih
    go false is ih =
        ap (λ x. tails_of names (x ∷ from_places names k es)) (left_other names k e is)
        ∙ tails_other names e (from_places names k es) is
        ∙ ap (λ x. x ∷ tails_of names (from_places names k es)) (sym (left_other names (suc k) e is))
        ∙ ap (λ xs. from_place names (suc k) e ∷ xs) ih

itself_left : (names : Names) (e : Tree) (b : Bool) → is_call names Builtin.List e ≡ b → from_place names 0 e ≡ e
itself_left names e true is = left_list names 0 e is ∙ made_again names Builtin.List e is
itself_left names e false is = left_other names 0 e is

pub from_start : (names : Names) (es : List Tree) → from_places names 0 es ≡ es
from_start names [] = refl
from_start names (e ∷ es) = λ i. itself_left names e (is_call names Builtin.List e) refl i ∷ from_start names es i

-- one place
pub thread_place : (names : Names) (s : Sym) (n k : ℕ) (es : List Tree) → k < n → all_of_length names n es ≡ true
    → threads names s (n - k) (from_places names k es) ≡ call (symbol s) (column names k es) ∷ threads names s (n - (k + 1)) (from_places names (k + 1) es)
thread_place names s n k es p h =
    let step : n - k ≡ suc (n - (k + 1)) = omega arith in
    rw (step, add-one) (λ i. call (symbol s) (heads_here names n k es h p i) ∷ threads names s (n - suc k) (tails_here names k es i))

pub thread_turn : (names : Names) (s : Sym) (n k : ℕ) (es each longer : List Tree) (e : Tree) → k < n → all_of_length names n es ≡ true
    → e ≡ call (symbol s) (column names k es) → longer ≡ each ++ e ∷ []
    → longer ++ threads names s (n - (k + 1)) (from_places names (k + 1) es) ≡ each ++ threads names s (n - k) (from_places names k es)
thread_turn names s n k es each longer e p h is pushed =
    ap (λ l. l ++ threads names s (n - (k + 1)) (from_places names (k + 1) es)) pushed
    ∙ append_assoc each (e ∷ []) (threads names s (n - (k + 1)) (from_places names (k + 1) es))
    ∙ ap (λ l. each ++ l) (ap (λ x. x ∷ threads names s (n - (k + 1)) (from_places names (k + 1) es)) is ∙ sym (thread_place names s n k es p h))

-- an expression that is no List of so many elements
pub past_place : (names : Names) (k : ℕ) (e : Tree) → length (items_of e) ≤ k → at_place names k e ≡ e
past_place names k e past = go (is_call names Builtin.List e)
  where
    go : (b : Bool) → elim b as (λ _. Tree) [ true ↦ get_or (items_of e) k e | false ↦ e ] ≡ e
    go true = get_or_past (items_of e) k e past
    go false = refl

pub ruleset place_steps = (past_place, at_other, at_list)

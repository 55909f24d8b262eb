-- Rows and columns.
use Rattle.std.proofs.Common.{◌≡◌, ◌≢◌, ℕ, zero, suc, ◌+◌, ◌-◌, ◌<◌, ◌≤◌, max, refl, ap, sym, subst, ◌∙◌, Bool, true, false, List, [], ◌∷◌, ◌++◌, Option, Some, None, Err, map, length, get_or, drop, drop-cons, add-one, append_assoc, append-nil, arith}
use Rattle.std.specs.Prelude.{◌==◌, ◌&&◌, Result}
use Rattle.std.specs.Bool.{IsTrue}
use Rattle.std.proofs.lemmas.Bool.{eq-eqb, ne_eqb}
use Rattle.expr_tree.specs.Limits.{MakesAll}
use Rattle.expr_tree.specs.Tree.{Tree, integer, string, symbol, normal, elements, trees, size, sizes, depth, depths}
use Rattle.expr_tree.specs.declared.built.Built.{Built}
use Rattle.expr_tree.specs.declared.built.Built.TheVariants.{TooDeep}
use Rattle.expr_tree.proofs.Callers.{tree_steps}
use Rattle.expr_tree.proofs.Trees.{trees-elements}
use Rattle.semantics.specs.declared.builtin.Builtin.{Builtin}
use Rattle.semantics.specs.Names.{Names, is_call, items_of, make}
use Rattle.semantics.specs.Worked.{Worked, Stays, Gives}
use Rattle.semantics.specs.Lists.{at, rows_of, all_long, column, columns, transposed, transpose}
use Rattle.rows_parts.specs.Widths.{are_long, width_of, width}
use Rattle.rows_parts.proofs.Numbered.{at_within, at_past}

next : (es : List Tree) (i : ℕ) (x : Tree) → i < length es → x ≡ get_or es i x → drop i es ≡ x ∷ drop (i + 1) es
next es i x p is = rw (drop-cons es i x p, add-one) (ap (λ u. u ∷ drop (suc i) es) (sym is))

pub not_true : (b : Bool) → (b ≡ true → ⊥) → b ≡ false
not_true true p = absurd (p refl)
not_true false p = refl

-- ---- whether rows are long

abbrev one_long : Bool → Bool → Bool → Bool
one_long a b c = a && (b && c)

pub long_more : (names : Names) (n : ℕ) (rows : List Tree) (i : ℕ) (x : Tree) (es : List Tree) → i < length rows → x ≡ get_or rows i x → IsTrue (is_call names Builtin.List x) → es ≡ items_of x → length es ≡ n
    → are_long names n (drop i rows) ≡ are_long names n (drop (i + 1) rows)
long_more names n rows i x es inside is list items long =
    ap (are_long names n) (next rows i x inside is)
    ∙ (λ j. one_long (list j) (eq-eqb (length (items_of x)) n (ap length (sym items) ∙ long) j) (are_long names n (drop (i + 1) rows)))

pub long_no_list : (names : Names) (n : ℕ) (rows : List Tree) (i : ℕ) (x : Tree) → i < length rows → x ≡ get_or rows i x → (IsTrue (is_call names Builtin.List x) → ⊥) → are_long names n (drop i rows) ≡ false
long_no_list names n rows i x inside is other =
    ap (are_long names n) (next rows i x inside is) ∙ ap (λ t. one_long t (length (items_of x) == n) (are_long names n (drop (i + 1) rows))) (not_true (is_call names Builtin.List x) other)

pub long_other : (names : Names) (n : ℕ) (rows : List Tree) (i : ℕ) (x : Tree) (es : List Tree) → i < length rows → x ≡ get_or rows i x → IsTrue (is_call names Builtin.List x) → es ≡ items_of x → length es ≢ n → are_long names n (drop i rows) ≡ false
long_other names n rows i x es inside is list items other =
    ap (are_long names n) (next rows i x inside is)
    ∙ (λ j. one_long (list j) (ne_eqb (length (items_of x)) n (λ p. other (ap length items ∙ p)) j) (are_long names n (drop (i + 1) rows)))

pub ruleset long_steps = (tree_steps, long_more, long_no_list, long_other)

abbrev rows_from : Bool → List Tree → Option (List (List Tree)) → Option (List (List Tree))
rows_from t r o = elim t [ true ↦ elim o [ None ↦ None | Some rs ↦ Some (r ∷ rs) ] | false ↦ None ]

abbrev long_rows : ℕ → Option (List (List Tree)) → Bool
long_rows n o = elim o [ None ↦ false | Some rs ↦ all_long n rs ]

long_is : (names : Names) (n : ℕ) (es : List Tree) → are_long names n es ≡ long_rows n (rows_of names es)
long_is names n [] = refl
long_is names n (e ∷ es) = ap (λ t. one_long (is_call names Builtin.List e) (length (items_of e) == n) t) (long_is names n es) ∙ go (is_call names Builtin.List e) (length (items_of e) == n) refl (rows_of names es)
  where
    last_false : (t : Bool) → (t && false) ≡ false
    last_false true = refl
    last_false false = refl

    go : (a b : Bool) → (length (items_of e) == n) ≡ b → (o : Option (List (List Tree))) → one_long a b (long_rows n o) ≡ long_rows n (rows_from a (items_of e) o)
    go false b is o = refl
    go true b is None = last_false b
    go true b is (Some rs) = ap (λ t. t && all_long n rs) (sym is)

abbrev width_in : Option (List (List Tree)) → Option ℕ
width_in o = elim o [ None ↦ None | Some rs ↦ width_of rs ]

abbrev if_long : Bool → ℕ → Option ℕ
if_long t n = elim t [ true ↦ Some n | false ↦ None ]

width_is : (names : Names) (x : Tree) (rest : List Tree) → is_call names Builtin.List x ≡ true → width names (x ∷ rest) ≡ if_long (are_long names (length (items_of x)) rest) (length (items_of x))
width_is names x rest list = ap (λ t. width_in (rows_from t (items_of x) (rows_of names rest))) list ∙ go (rows_of names rest) ∙ ap (λ t. if_long t (length (items_of x))) (sym (long_is names (length (items_of x)) rest))
  where
    go : (o : Option (List (List Tree))) → width_in (rows_from true (items_of x) o) ≡ if_long (long_rows (length (items_of x)) o) (length (items_of x))
    go None = refl
    go (Some rs) = refl

first_some : (names : Names) (x : Tree) (rest es : List Tree) (n : ℕ) → IsTrue (is_call names Builtin.List x) → es ≡ items_of x → n ≡ length es → are_long names n rest ≡ true → width names (x ∷ rest) ≡ Some n
first_some names x rest es n list items count long =
    let e : length (items_of x) ≡ n = ap length (sym items) ∙ sym count in
    width_is names x rest list ∙ ap (λ m. if_long (are_long names m rest) m) e ∙ ap (λ t. if_long t n) long

first_none : (names : Names) (x : Tree) (rest es : List Tree) (n : ℕ) → IsTrue (is_call names Builtin.List x) → es ≡ items_of x → n ≡ length es → are_long names n rest ≡ false → width names (x ∷ rest) ≡ None
first_none names x rest es n list items count long =
    let e : length (items_of x) ≡ n = ap length (sym items) ∙ sym count in
    width_is names x rest list ∙ ap (λ m. if_long (are_long names m rest) m) e ∙ ap (λ t. if_long t n) long

first_no_list : (names : Names) (x : Tree) (rest : List Tree) → (IsTrue (is_call names Builtin.List x) → ⊥) → width names (x ∷ rest) ≡ None
first_no_list names x rest other = ap (λ t. width_in (rows_from t (items_of x) (rows_of names rest))) (not_true (is_call names Builtin.List x) other)

-- the first row is as long as itself
first_long : (names : Names) (x y : Tree) (ys es : List Tree) (n : ℕ) → x ≡ y → IsTrue (is_call names Builtin.List x) → es ≡ items_of x → n ≡ length es → are_long names n ys ≡ are_long names n (y ∷ ys)
first_long names x y ys es n is list items count =
    sym (λ j. one_long (list j) (eq-eqb (length (items_of x)) n (ap length (sym items) ∙ sym count) j) (are_long names n ys)) ∙ ap (λ z. are_long names n (z ∷ ys)) is

pub width_some : (names : Names) (rows : List Tree) (x : Tree) (es : List Tree) (n : ℕ) → 1 ≤ length rows → x ≡ get_or rows 0 x → IsTrue (is_call names Builtin.List x) → es ≡ items_of x → n ≡ length es → are_long names n rows ≡ true → width names rows ≡ Some n
width_some names [] x es n some is list items count long = absurd (omega (arith, some))
width_some names (y ∷ ys) x es n some is list items count long =
    ap (λ z. width names (z ∷ ys)) (sym is) ∙ first_some names x ys es n list items count (first_long names x y ys es n is list items count ∙ long)

pub width_none : (names : Names) (rows : List Tree) (x : Tree) (es : List Tree) (n : ℕ) → 1 ≤ length rows → x ≡ get_or rows 0 x → IsTrue (is_call names Builtin.List x) → es ≡ items_of x → n ≡ length es → are_long names n rows ≡ false → width names rows ≡ None
width_none names [] x es n some is list items count long = absurd (omega (arith, some))
width_none names (y ∷ ys) x es n some is list items count long =
    ap (λ z. width names (z ∷ ys)) (sym is) ∙ first_none names x ys es n list items count (first_long names x y ys es n is list items count ∙ long)

pub width_no_list : (names : Names) (rows : List Tree) (x : Tree) → 1 ≤ length rows → x ≡ get_or rows 0 x → (IsTrue (is_call names Builtin.List x) → ⊥) → width names rows ≡ None
width_no_list names [] x some is other = absurd (omega (arith, some))
width_no_list names (y ∷ ys) x some is other = ap (λ z. width names (z ∷ ys)) (sym is) ∙ first_no_list names x ys other

pub ruleset width_steps = (tree_steps, width_some, width_none, width_no_list)

-- ---- one column

abbrev behind_at : Option Tree → List Tree → List Tree
behind_at o es = elim o [ None ↦ es | Some e ↦ e ∷ es ]

pub column_more : (rows : List Tree) (i place : ℕ) (x y : Tree) (es done : List Tree) → i < length rows → x ≡ get_or rows i x → es ≡ items_of x → place < length es → y ≡ get_or es place y
    → done ++ column place (map items_of (drop i rows)) ≡ (done ++ y ∷ []) ++ column place (map items_of (drop (i + 1) rows))
column_more rows i place x y es done inside is items within found =
    ap (λ rs. done ++ column place (map items_of rs)) (next rows i x inside is)
    ∙ ap (λ o. done ++ behind_at o (column place (map items_of (drop (i + 1) rows)))) (ap (λ fs. at fs place) (sym items) ∙ at_within es place y within found)
    ∙ sym (append_assoc done (y ∷ []) (column place (map items_of (drop (i + 1) rows))))

pub column_less : (rows : List Tree) (i place : ℕ) (x : Tree) (es : List Tree) → i < length rows → x ≡ get_or rows i x → es ≡ items_of x → length es ≤ place → column place (map items_of (drop i rows)) ≡ column place (map items_of (drop (i + 1) rows))
column_less rows i place x es inside is items past =
    ap (λ rs. column place (map items_of rs)) (next rows i x inside is)
    ∙ ap (λ o. behind_at o (column place (map items_of (drop (i + 1) rows)))) (ap (λ fs. at fs place) (sym items) ∙ at_past es place past)

pub ruleset column_steps = (tree_steps, column_more, column_less)

-- ---- all columns

pub columns_more : (names : Names) (place n : ℕ) (rs : List (List Tree)) → place < n → columns names place (n - place) rs ≡ make names Builtin.List (column place rs) ∷ columns names (place + 1) (n - (place + 1)) rs
columns_more names place n rs inside = go (n - place) refl
  where
    go : (m : ℕ) → n - place ≡ m → columns names place m rs ≡ make names Builtin.List (column place rs) ∷ columns names (place + 1) (n - (place + 1)) rs
    go zero e = absurd (omega (arith, e, inside))
    go (suc m) e =
        let a : m ≡ n - (place + 1) = omega (arith, e) in
        let b : suc place ≡ place + 1 = omega arith in
        ap (λ es. make names Builtin.List (column place rs) ∷ es) (λ i. columns names (b i) (a i) rs)

pub columns_end : (names : Names) (place n : ℕ) (rs : List (List Tree)) → n ≤ place → columns names place (n - place) rs ≡ []
columns_end names place n rs all = let e : n - place ≡ 0 = omega (arith, all) in ap (λ m. columns names place m rs) e

pub columns_joined : (names : Names) (place n : ℕ) (rs : List (List Tree)) (c : Tree) (done longer whole : List Tree) → place < n → longer ≡ done ++ c ∷ [] → c ≡ make names Builtin.List (column place rs) → done ++ columns names place (n - place) rs ≡ whole
    → longer ++ columns names (place + 1) (n - (place + 1)) rs ≡ whole
columns_joined names place n rs c done longer whole inside pushed is so_far =
    ap (λ es. es ++ columns names (place + 1) (n - (place + 1)) rs) pushed
    ∙ append_assoc done (c ∷ []) (columns names (place + 1) (n - (place + 1)) rs)
    ∙ ap (λ d. done ++ d ∷ columns names (place + 1) (n - (place + 1)) rs) is
    ∙ ap (λ es. done ++ es) (sym (columns_more names place n rs inside)) ∙ so_far

pub columns_sizes : (names : Names) (place n : ℕ) (rs : List (List Tree)) → place < n
    → sizes (trees (columns names place (n - place) rs)) ≡ size (make names Builtin.List (column place rs)) + sizes (trees (columns names (place + 1) (n - (place + 1)) rs))
columns_sizes names place n rs inside = ap (λ es. sizes (trees es)) (columns_more names place n rs inside)

pub columns_depths : (names : Names) (place n : ℕ) (rs : List (List Tree)) → place < n
    → depths (trees (columns names place (n - place) rs)) ≡ max (depth (make names Builtin.List (column place rs))) (depths (trees (columns names (place + 1) (n - (place + 1)) rs)))
columns_depths names place n rs inside = ap (λ es. depths (trees es)) (columns_more names place n rs inside)

pub columns_all : (names : Names) (place n : ℕ) (rs : List (List Tree)) (done whole : List Tree) → n ≤ place → done ++ columns names place (n - place) rs ≡ whole → done ≡ whole
columns_all names place n rs done whole all so_far = sym (append-nil done) ∙ ap (λ es. done ++ es) (sym (columns_end names place n rs all)) ∙ so_far

pub ruleset columns_steps = (tree_steps, columns_joined, columns_sizes, columns_depths, columns_all)

-- ---- no column is deeper than the rows

some_inj : {X : Type 0} {x y : X} → Some x ≡ Some y → x ≡ y
some_inj {x = x} p = ap (λ o. elim o as (λ _. _) [ None ↦ x | Some v ↦ v ]) p

at_depth : (es : List Tree) (n : ℕ) → depths (trees (behind_at (at es n) [])) ≤ depths (trees es)
at_depth [] n = omega arith
at_depth (e ∷ es) zero = omega arith
at_depth (e ∷ es) (suc n) = let h : depths (trees (behind_at (at es n) [])) ≤ depths (trees es) = at_depth es n in omega (arith, h)

behind_depth : (o : Option Tree) (es : List Tree) → depths (trees (behind_at o es)) ≡ max (depths (trees (behind_at o []))) (depths (trees es))
behind_depth None es = omega arith
behind_depth (Some e) es = omega arith

depth_some : (e : Tree) → 1 ≤ depth e
depth_some (integer n) = omega arith
depth_some (string t) = omega arith
depth_some (symbol s) = omega arith
depth_some (normal h ts) = omega arith

under_depth : (e : Tree) → depths (trees (items_of e)) + 1 ≤ depth e
under_depth (integer n) = omega arith
under_depth (string t) = omega arith
under_depth (symbol s) = omega arith
under_depth (normal h ts) = let k : depths (trees (elements ts)) ≡ depths ts = ap depths (trees-elements ts) in omega (arith, k)

column_depth : (place : ℕ) (es : List Tree) → depths (trees (column place (map items_of es))) + 1 ≤ max 1 (depths (trees es))
column_depth place [] = omega arith
column_depth place (e ∷ es) =
    let a : depths (trees (behind_at (at (items_of e) place) [])) ≤ depths (trees (items_of e)) = at_depth (items_of e) place in
    let b : depths (trees (behind_at (at (items_of e) place) (column place (map items_of es)))) ≡ max (depths (trees (behind_at (at (items_of e) place) []))) (depths (trees (column place (map items_of es)))) =
    behind_depth (at (items_of e) place) (column place (map items_of es)) in
    let c : depths (trees (column place (map items_of es))) + 1 ≤ max 1 (depths (trees es)) = column_depth place es in
    omega (arith, a, b, c, under_depth e, depth_some e)

pub columns_depth : (names : Names) (place n : ℕ) (es : List Tree) → depths (trees (columns names place n (map items_of es))) ≤ max 2 (depths (trees es))
columns_depth names place zero es = omega arith
columns_depth names place (suc n) es =
    let a : depths (trees (column place (map items_of es))) + 1 ≤ max 1 (depths (trees es)) = column_depth place es in
    let b : depths (trees (columns names (suc place) n (map items_of es))) ≤ max 2 (depths (trees es)) = columns_depth names (suc place) n es in
    omega (arith, a, b)

pub columns_shallow : (names : Names) (n nodes : ℕ) (rows : List Tree) (fault : Built) (r : Result (List Tree) Built) → depths (trees rows) < 512 → fault ≡ TooDeep nodes → r ≡ Err fault
    → MakesAll (trees (columns names 0 n (map items_of rows))) r → ⊥
columns_shallow names n nodes rows fault r shallow shape is made =
    let deep : 512 < depths (trees (columns names 0 n (map items_of rows))) = subst (λ q. MakesAll (trees (columns names 0 n (map items_of rows))) q) (is ∙ ap Err shape) made in
    omega (arith, columns_depth names 0 n rows, shallow, deep)

pub rows_shallow : (e : Tree) (rows : List Tree) → rows ≡ items_of e → depth e ≤ 512 → depths (trees rows) < 512
rows_shallow e rows is shallow = subst (λ es. depths (trees es) < 512) (sym is) (omega (arith, under_depth e, shallow))

-- ---- the row

rows_are : (names : Names) (es : List Tree) (rs : List (List Tree)) → rows_of names es ≡ Some rs → rs ≡ map items_of es
rows_are names [] rs is = sym (some_inj is)
rows_are names (e ∷ es) rs is = go (is_call names Builtin.List e) (rows_of names es) refl (rows_are names es) is
  where
    go : (t : Bool) (o : Option (List (List Tree))) → rows_of names es ≡ o → ((qs : List (List Tree)) → rows_of names es ≡ Some qs → qs ≡ map items_of es) → rows_from t (items_of e) o ≡ Some rs → rs ≡ items_of e ∷ map items_of es
    go true (Some qs) same rest whole = sym (some_inj whole) ∙ ap (λ ps. items_of e ∷ ps) (rest qs same)
    go true None same rest whole = cc
    go false o same rest whole = cc

abbrev by_rows : Names → Option (List (List Tree)) → Worked
by_rows names o = elim o [ None ↦ Stays | Some rs ↦ transposed names rs ]

abbrev if_list : Bool → Worked → Worked
if_list t w = elim t [ true ↦ w | false ↦ Stays ]

from_rows : (names : Names) (e : Tree) (rows : List Tree) → IsTrue (is_call names Builtin.List e) → rows ≡ items_of e → transpose names (e ∷ []) ≡ by_rows names (rows_of names rows)
from_rows names e rows list items = ap (λ t. if_list t (by_rows names (rows_of names (items_of e)))) list ∙ ap (λ es. by_rows names (rows_of names es)) (sym items)

abbrev made_columns : Names → List (List Tree) → ℕ → Worked
made_columns names rs n = Gives (make names Builtin.List (columns names 0 n rs))

abbrev all_columns : Names → List (List Tree) → Option ℕ → Worked
all_columns names rs o = elim o [ None ↦ Stays | Some n ↦ made_columns names rs n ]

by_width : (names : Names) (rs : List (List Tree)) → transposed names rs ≡ all_columns names rs (width_of rs)
by_width names [] = refl
by_width names (r ∷ rs) = go (all_long (length r) rs)
  where
    go : (t : Bool) → elim t as (λ _. Worked) [ true ↦ made_columns names (r ∷ rs) (length r) | false ↦ Stays ] ≡ all_columns names (r ∷ rs) (if_long t (length r))
    go true = refl
    go false = refl

pub transpose_some : (names : Names) (e : Tree) (rows : List Tree) (n : ℕ) → IsTrue (is_call names Builtin.List e) → rows ≡ items_of e → width names rows ≡ Some n → transpose names (e ∷ []) ≡ Gives (make names Builtin.List (columns names 0 n (map items_of rows)))
transpose_some names e rows n list items wide = from_rows names e rows list items ∙ go (rows_of names rows) refl wide
  where
    go : (o : Option (List (List Tree))) → rows_of names rows ≡ o → width_in o ≡ Some n → by_rows names o ≡ made_columns names (map items_of rows) n
    go None same w = cc
    go (Some rs) same w = by_width names rs ∙ ap (all_columns names rs) w ∙ ap (λ qs. made_columns names qs n) (rows_are names rows rs same)

pub transpose_none : (names : Names) (e : Tree) (rows : List Tree) → IsTrue (is_call names Builtin.List e) → rows ≡ items_of e → width names rows ≡ None → transpose names (e ∷ []) ≡ Stays
transpose_none names e rows list items wide = from_rows names e rows list items ∙ go (rows_of names rows) wide
  where
    go : (o : Option (List (List Tree))) → width_in o ≡ None → by_rows names o ≡ Stays
    go None w = refl
    go (Some rs) w = by_width names rs ∙ ap (all_columns names rs) w

pub transpose_no_list : (names : Names) (e : Tree) → (IsTrue (is_call names Builtin.List e) → ⊥) → transpose names (e ∷ []) ≡ Stays
transpose_no_list names e other = ap (λ t. if_list t (by_rows names (rows_of names (items_of e)))) (not_true (is_call names Builtin.List e) other)

pub ruleset row_steps = (tree_steps, transpose_some, transpose_none, transpose_no_list, rows_shallow)

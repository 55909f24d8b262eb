-- Loops over elements, with what is left from a place on.
use Rattle.std.proofs.Common.{◌≡◌, ℕ, zero, suc, ◌+◌, ◌-◌, ◌<◌, ◌≤◌, refl, ap, sym, ◌∙◌, Bool, true, false, ◌&&◌, List, [], ◌∷◌, length, get_or, drop, arith}
use Rattle.std.specs.Prelude.{◌||◌, not}
use Rattle.std.specs.Ordering.{is_gt}
use Rattle.std.proofs.lemmas.List.{drop_more, at_drop_all}
use Rattle.expr_tree.specs.Tree.{Tree}
use Rattle.expr_tree.specs.Same.{tree_eq}
use Rattle.expr_tree.specs.Order.{tree_cmp}
use Rattle.semantics.specs.Tests.{all_same, stands_in, some_same, is_datum, all_data, neighbours_differ}
use Rattle.semantics.specs.Lists.{in_order}
use Rattle.rows_tests.specs.Differ.{differ}

-- one element and the rest
pub split : (es : List Tree) (i : ℕ) (x : Tree) → i < length es → x ≡ get_or es i x → drop i es ≡ x ∷ drop (i + 1) es
split es i x h p = drop_more es i x h ∙ ap (λ y. y ∷ drop (i + 1) es) (sym p)

-- a function of a list by its first two elements
pair_more : (F : List Tree → Bool) (G : Tree → Tree → Bool → Bool) → ((x y : Tree) (rest : List Tree) → F (x ∷ y ∷ rest) ≡ G x y (F (y ∷ rest)))
    → (es : List Tree) (i : ℕ) (x y : Tree) → i < length es - 1 → x ≡ get_or es i x → y ≡ get_or es (i + 1) y → F (drop i es) ≡ G x y (F (drop (i + 1) es))
pair_more F G step es i x y h p q =
    let a : drop i es ≡ x ∷ drop (i + 1) es = split es i x (omega arith) p in
    let b : drop (i + 1) es ≡ y ∷ drop (i + 1 + 1) es = split es (i + 1) y (omega arith) q in
    ap F (a ∙ ap (λ r. x ∷ r) b) ∙ step x y (drop (i + 1 + 1) es) ∙ ap (λ r. G x y (F r)) (sym b)

one_left : (F : List Tree → Bool) (b : Bool) → F [] ≡ b → ((e : Tree) → F (e ∷ []) ≡ b) → (es : List Tree) (i : ℕ) → length es - 1 ≤ i → F (drop i es) ≡ b
one_left F b none one [] zero h = none
one_left F b none one [] (suc i) h = none
one_left F b none one (e ∷ []) zero h = one e
one_left F b none one (e ∷ f ∷ es) zero h = absurd (omega (arith, h))
one_left F b none one (e ∷ es) (suc i) h = one_left F b none one es i (omega (arith, h))

same_more : (es : List Tree) (i : ℕ) (x y : Tree) → i < length es - 1 → x ≡ get_or es i x → y ≡ get_or es (i + 1) y → all_same (drop i es) ≡ (tree_eq x y && all_same (drop (i + 1) es))
same_more = pair_more all_same (λ x y b. tree_eq x y && b) (λ x y rest. refl)

pub same_yes : (es : List Tree) (i : ℕ) (x y : Tree) → i < length es - 1 → x ≡ get_or es i x → y ≡ get_or es (i + 1) y → tree_eq x y ≡ true → all_same (drop (i + 1) es) ≡ all_same (drop i es)
same_yes es i x y h p q e = sym (same_more es i x y h p q ∙ ap (λ b. b && all_same (drop (i + 1) es)) e)

pub same_no : (es : List Tree) (i : ℕ) (x y : Tree) → i < length es - 1 → x ≡ get_or es i x → y ≡ get_or es (i + 1) y → tree_eq x y ≡ false → all_same (drop i es) ≡ false
same_no es i x y h p q e = same_more es i x y h p q ∙ ap (λ b. b && all_same (drop (i + 1) es)) e

pub same_end : (es : List Tree) (i : ℕ) → length es - 1 ≤ i → all_same (drop i es) ≡ true
same_end = one_left all_same true refl (λ e. refl)

order_more : (es : List Tree) (i : ℕ) (x y : Tree) → i < length es - 1 → x ≡ get_or es i x → y ≡ get_or es (i + 1) y → in_order (drop i es) ≡ elim (is_gt (tree_cmp x y)) [ true ↦ false | false ↦ in_order (drop (i + 1) es) ]
order_more = pair_more in_order (λ x y b. elim (is_gt (tree_cmp x y)) [ true ↦ false | false ↦ b ]) (λ x y rest. refl)

pub order_yes : (es : List Tree) (i : ℕ) (x y : Tree) → i < length es - 1 → x ≡ get_or es i x → y ≡ get_or es (i + 1) y → is_gt (tree_cmp x y) ≡ false → in_order (drop (i + 1) es) ≡ in_order (drop i es)
order_yes es i x y h p q e = sym (order_more es i x y h p q ∙ ap (λ b. elim b [ true ↦ false | false ↦ in_order (drop (i + 1) es) ]) e)

pub order_no : (es : List Tree) (i : ℕ) (x y : Tree) → i < length es - 1 → x ≡ get_or es i x → y ≡ get_or es (i + 1) y → is_gt (tree_cmp x y) ≡ true → in_order (drop i es) ≡ false
order_no es i x y h p q e = order_more es i x y h p q ∙ ap (λ b. elim b [ true ↦ false | false ↦ in_order (drop (i + 1) es) ]) e

pub order_end : (es : List Tree) (i : ℕ) → length es - 1 ≤ i → in_order (drop i es) ≡ true
order_end = one_left in_order true refl (λ e. refl)

differ_more : (es : List Tree) (i : ℕ) (x y : Tree) → i < length es - 1 → x ≡ get_or es i x → y ≡ get_or es (i + 1) y → neighbours_differ (drop i es) ≡ (differ x y || neighbours_differ (drop (i + 1) es))
differ_more = pair_more neighbours_differ (λ x y b. differ x y || b) (λ x y rest. refl)

pub differ_no : (es : List Tree) (i : ℕ) (x y : Tree) → i < length es - 1 → x ≡ get_or es i x → y ≡ get_or es (i + 1) y → differ x y ≡ false → neighbours_differ (drop (i + 1) es) ≡ neighbours_differ (drop i es)
differ_no es i x y h p q e = sym (differ_more es i x y h p q ∙ ap (λ b. b || neighbours_differ (drop (i + 1) es)) e)

pub differ_yes : (es : List Tree) (i : ℕ) (x y : Tree) → i < length es - 1 → x ≡ get_or es i x → y ≡ get_or es (i + 1) y → differ x y ≡ true → neighbours_differ (drop i es) ≡ true
differ_yes es i x y h p q e = differ_more es i x y h p q ∙ ap (λ b. b || neighbours_differ (drop (i + 1) es)) e

pub differ_end : (es : List Tree) (i : ℕ) → length es - 1 ≤ i → neighbours_differ (drop i es) ≡ false
differ_end = one_left neighbours_differ false refl (λ e. refl)

stands_more : (e : Tree) (es : List Tree) (i : ℕ) (x : Tree) → i < length es → x ≡ get_or es i x → stands_in e (drop i es) ≡ elim (tree_eq e x) [ true ↦ true | false ↦ stands_in e (drop (i + 1) es) ]
stands_more e es i x h p = ap (stands_in e) (split es i x h p)

pub stands_yes : (e : Tree) (es : List Tree) (i : ℕ) (x : Tree) → i < length es → x ≡ get_or es i x → tree_eq e x ≡ true → stands_in e (drop i es) ≡ true
stands_yes e es i x h p q = stands_more e es i x h p ∙ ap (λ b. elim b [ true ↦ true | false ↦ stands_in e (drop (i + 1) es) ]) q

pub stands_no : (e : Tree) (es : List Tree) (i : ℕ) (x : Tree) → i < length es → x ≡ get_or es i x → tree_eq e x ≡ false → stands_in e (drop (i + 1) es) ≡ stands_in e (drop i es)
stands_no e es i x h p q = sym (stands_more e es i x h p ∙ ap (λ b. elim b [ true ↦ true | false ↦ stands_in e (drop (i + 1) es) ]) q)

pub stands_end : (e : Tree) (es : List Tree) (i : ℕ) → length es ≤ i → stands_in e (drop i es) ≡ false
stands_end e es i h = at_drop_all (stands_in e) es i h

some_more : (es : List Tree) (i : ℕ) (x : Tree) → i < length es → x ≡ get_or es i x → some_same (drop i es) ≡ (stands_in x (drop (i + 1) es) || some_same (drop (i + 1) es))
some_more es i x h p = ap some_same (split es i x h p)

pub some_yes : (es : List Tree) (i : ℕ) (x : Tree) → i < length es → x ≡ get_or es i x → stands_in x (drop (i + 1) es) ≡ true → some_same (drop i es) ≡ true
some_yes es i x h p q = some_more es i x h p ∙ ap (λ b. b || some_same (drop (i + 1) es)) q

pub some_no : (es : List Tree) (i : ℕ) (x : Tree) → i < length es → x ≡ get_or es i x → stands_in x (drop (i + 1) es) ≡ false → some_same (drop (i + 1) es) ≡ some_same (drop i es)
some_no es i x h p q = sym (some_more es i x h p ∙ ap (λ b. b || some_same (drop (i + 1) es)) q)

pub some_end : (es : List Tree) (i : ℕ) → length es ≤ i → some_same (drop i es) ≡ false
some_end es i h = at_drop_all some_same es i h

data_more : (es : List Tree) (i : ℕ) (x : Tree) → i < length es → x ≡ get_or es i x → all_data (drop i es) ≡ (is_datum x && all_data (drop (i + 1) es))
data_more es i x h p = ap all_data (split es i x h p)

pub data_yes : (es : List Tree) (i : ℕ) (x : Tree) → i < length es → x ≡ get_or es i x → is_datum x ≡ true → all_data (drop (i + 1) es) ≡ all_data (drop i es)
data_yes es i x h p q = sym (data_more es i x h p ∙ ap (λ b. b && all_data (drop (i + 1) es)) q)

pub data_no : (es : List Tree) (i : ℕ) (x : Tree) → i < length es → x ≡ get_or es i x → is_datum x ≡ false → all_data (drop i es) ≡ false
data_no es i x h p q = data_more es i x h p ∙ ap (λ b. b && all_data (drop (i + 1) es)) q

pub data_end : (es : List Tree) (i : ℕ) → length es ≤ i → all_data (drop i es) ≡ true
data_end es i h = at_drop_all all_data es i h

pub ruleset same_steps = (same_yes, same_no, same_end)

pub ruleset order_steps = (order_yes, order_no, order_end)

pub ruleset differ_steps = (differ_yes, differ_no, differ_end)

pub ruleset member_steps = (stands_yes, stands_no, stands_end)

pub ruleset some_steps = (some_yes, some_no, some_end)

pub ruleset data_steps = (data_yes, data_no, data_end)

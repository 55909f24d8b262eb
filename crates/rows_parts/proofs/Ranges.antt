-- How many numbers a Range has.
use Rattle.std.proofs.Common.{◌≡◌, ◌≢◌, ℕ, zero, suc, ◌+◌, ◌<◌, ◌≤◌, refl, ap, sym, ◌∙◌, Bool, true, false, List, [], ◌∷◌, ◌++◌, Err, length, append_assoc, append-nil, arith}
use Rattle.std.specs.Prelude.{ℤ, pos, ltb, ◌+ℤ◌}
use Rattle.std.specs.Ordering.{int_eq}
use Rattle.std.proofs.lemmas.Bool.{lt-ltb, le-ltb, ltb-false}
use Rattle.std.proofs.lemmas.Bool.Decides.{Decides-int_eq}
use Rattle.expr_tree.specs.Tree.{Tree, integer, string, symbol, normal, trees, sizes}
use Rattle.expr_tree.proofs.Callers.{tree_steps}
use Rattle.semantics.specs.declared.builtin.Builtin.{Builtin}
use Rattle.semantics.specs.Control.{steps_to}
use Rattle.semantics.specs.Names.{Names, make}
use Rattle.semantics.specs.Worked.{Worked, Stays, Gives}
use Rattle.semantics.specs.Lists.{count_up, range}
use Rattle.builtin_names.specs.Results.{Works}
use Rattle.rows_parts.proofs.Columns.{not_true}
use Rattle.builtin_names.specs.declared.fault.Fault.TheVariants.{TooLarge}

pub count_length : (a d : ℤ) (n : ℕ) → length (count_up a d n) ≡ n
count_length a d zero = refl
count_length a d (suc n) = ap suc (count_length (a +ℤ d) d n)

pub few_at_end : (ns : List Tree) (k n : ℕ) → k < 4000000 → length ns + k ≡ n → ns ≡ [] → ltb n 4000000 ≡ true
few_at_end ns k n small all over = let none' : length ns ≡ 0 = ap length over in lt-ltb n 4000000 (omega (arith, small, all, none'))

pub many_left : (ns : List Tree) (k n : ℕ) → 4000000 ≤ k → length ns + k ≡ n → ltb n 4000000 ≡ false
many_left ns k n many all = le-ltb n 4000000 (omega (arith, many, all))

pub ruleset few_steps = (count_length, few_at_end, many_left)

pub number_put : (done ns ms whole : List Tree) (x : Tree) → ns ≡ x ∷ ms → done ++ ns ≡ whole → (done ++ x ∷ []) ++ ms ≡ whole
number_put done ns ms whole x next so_far = append_assoc done (x ∷ []) ms ∙ ap (λ es. done ++ es) (sym next) ∙ so_far

pub number_left : (ns ms : List Tree) (x : Tree) → ns ≡ x ∷ ms → length ms < length ns
number_left ns ms x next = let e : length ns ≡ length (x ∷ ms) = ap length next in omega (arith, e)

pub number_last : (done ns whole : List Tree) → ns ≡ [] → done ++ ns ≡ whole → done ≡ whole
number_last done ns whole over so_far = sym (append-nil done) ∙ ap (λ es. done ++ es) (sym over) ∙ so_far

pub ruleset number_steps = (number_put, number_left, number_last)

count_sizes : (a d : ℤ) (n : ℕ) → sizes (trees (count_up a d n)) ≡ n
count_sizes a d zero = refl
count_sizes a d (suc n) = omega (arith, count_sizes (a +ℤ d) d n)

pub range_large : (names : Names) (a d : ℤ) (n : ℕ) → ltb n 4000000 ≡ false → Works (Gives (make names Builtin.List (count_up a d n))) (Err TooLarge)
range_large names a d n many = record { by = omega (arith, count_sizes a d n, ltb-false n 4000000 many) }

abbrev unless_zero : Bool → Worked → Worked
unless_zero t w = elim t [ true ↦ Stays | false ↦ w ]

not_zero : (d : ℤ) → d ≢ pos 0 → int_eq d (pos 0) ≡ false
not_zero d p = not_true (int_eq d (pos 0)) (λ e. p ((Decides-int_eq d (pos 0)).0 e))

pub step_zero : (names : Names) (a b d : ℤ) → d ≡ pos 0 → range names (integer a ∷ integer b ∷ integer d ∷ []) ≡ Stays
step_zero names a b d p = ap (λ e. range names (integer a ∷ integer b ∷ integer e ∷ [])) p

pub step_some : (names : Names) (a b d : ℤ) → d ≢ pos 0 → range names (integer a ∷ integer b ∷ integer d ∷ []) ≡ Gives (make names Builtin.List (count_up a d (steps_to a b d)))
step_some names a b d p = ap (λ t. unless_zero t (Gives (make names Builtin.List (count_up a d (steps_to a b d))))) (not_zero d p)

pub ruleset step_steps = (tree_steps, step_zero, step_some)

pub range_many : (names : Names) (x y z u : Tree) (es : List Tree) → range names (x ∷ y ∷ z ∷ u ∷ es) ≡ Stays
range_many names (string t) y z u es = refl
range_many names (symbol s) y z u es = refl
range_many names (normal h ts) y z u es = refl
range_many names (integer a) (string t) z u es = refl
range_many names (integer a) (symbol s) z u es = refl
range_many names (integer a) (normal h ts) z u es = refl
range_many names (integer a) (integer b) (string t) u es = refl
range_many names (integer a) (integer b) (symbol s) u es = refl
range_many names (integer a) (integer b) (normal h ts) u es = refl
range_many names (integer a) (integer b) (integer d) u es = refl

pub ruleset row_steps = (tree_steps, range_many)

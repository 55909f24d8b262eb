-- The control forms, and iterators, whose parts have one of their shapes where they go on.
use Rattle.std.proofs.Common.{◌≡◌, refl, ap, ℕ, zero, suc, true, List, [], ◌∷◌, reverse, Option, Some, None}
use Rattle.std.specs.Prelude.{ℤ, pos, ◌+ℤ◌, not}
use Rattle.std.specs.Ordering.{int_eq}
use Rattle.expr_tree.specs.declared.sym.Sym.{Sym}
use Rattle.expr_tree.specs.Tree.{Tree, integer, string, symbol, normal, elements}
use Rattle.expr_tree.specs.Order.{same}
use Rattle.semantics.specs.declared.builtin.Builtin.{Builtin}
use Rattle.semantics.specs.Names.{is_name, is_call, items_of}
use Rattle.semantics.specs.Program.{Prog, Done}
use Rattle.semantics.specs.Control.{in_turn, by_truth, conditional, first_true, is_paired, which, connected, while_true, while, throw, catch, most_turns, Values, From, Each, ask_number, up_to, bound_or_list, unless_zero, unless_shared, iterator_parts, iterator, over_numbers, over_list, over, inner_form, iterated, applied, nested, nest, until_fixed, fixed_point, folded, fold, selected, select, nested_list, nest_list, folded_list, fold_list}
use Rattle.laws_calls.specs.Calls.{are_parts}
use Rattle.laws_calls.proofs.Programs.{Point, Fit, done, stop, throws, ask, catches, within, look, turn, check, moded, Gives, GivesAll, branch, branch_if, option}

module _ (P : Point) where
  open P use {names}

  pub in_turn-fits : {p : Prog} (es : List Tree) → Fit P p → Fit P (in_turn p es)
  in_turn-fits [] stay = stay
  in_turn-fits (e ∷ []) stay = ask (λ v. done)
  in_turn-fits (e ∷ f ∷ es) stay = ask (λ v. in_turn-fits (f ∷ es) stay)

  by_truth-fits : (v : Tree) {p q r : Prog} → Fit P p → Fit P q → Fit P r → Fit P (by_truth names v p q r)
  by_truth-fits v a b c = branch P (is_name names Builtin.True v) a (branch P (is_name names Builtin.False v) b c)

  pub conditional-fits : {p : Prog} (es : List Tree) → Fit P p → Fit P (conditional names p es)
  conditional-fits (c ∷ a ∷ []) stay = by_truth-fits c done done stay
  conditional-fits (c ∷ a ∷ b ∷ []) stay = by_truth-fits c done done stay
  conditional-fits (c ∷ a ∷ b ∷ d ∷ []) stay = by_truth-fits c done done done
  conditional-fits _ stay = stay

  first_true-fits : (es : List Tree) → Fit P (first_true names es)
  first_true-fits [] = done
  first_true-fits (c ∷ []) = done
  first_true-fits (c ∷ e ∷ es) = ask (λ v. by_truth-fits v done (first_true-fits es) done)

  pub which-fits : {p : Prog} (es : List Tree) → Fit P p → Fit P (which names p es)
  which-fits es stay = branch P (is_paired es) (first_true-fits es) stay

  pub connected-fits : (row going ending : Builtin) (es kept : List Tree) → Fit P (connected names row going ending es kept)
  connected-fits row going ending [] [] = done
  connected-fits row going ending [] (e ∷ []) = done
  connected-fits row going ending [] (e ∷ f ∷ kept) = done
  connected-fits row going ending (e ∷ es) kept =
      ask (λ v. branch P (is_name names ending v) done (branch P (is_name names going v) (connected-fits row going ending es kept) (connected-fits row going ending es (v ∷ kept))))

  while_true-fits : (n : ℕ) (c e : Tree) → Fit P (while_true names n c e)
  while_true-fits zero c e = stop
  while_true-fits (suc n) c e = turn (ask (λ v. branch P (is_name names Builtin.True v) (ask (λ w. while_true-fits n c e)) done))

  pub while-fits : {p : Prog} (es : List Tree) → Fit P p → Fit P (while names p es)
  while-fits (c ∷ e ∷ []) stay = while_true-fits most_turns c e
  while-fits _ stay = stay

  pub throw-fits : {p : Prog} (es : List Tree) → Fit P p → Fit P (throw p es)
  throw-fits (e ∷ []) stay = throws
  throw-fits _ stay = stay

  pub catch-fits : {p : Prog} (es : List Tree) → Fit P p → Fit P (catch p es)
  catch-fits (e ∷ []) stay = catches (λ v. done)
  catch-fits _ stay = stay

  -- ---- iterators

  -- what an iterator goes on with
  abbrev pub Iterates : (Option Sym → Values → List Tree → Prog) → Type 0
  Iterates k = (i : Option Sym) (vs : Values) (parts : List Tree) → are_parts names parts ≡ true → Fit P (k i vs parts)

  ask_number-fits : (e : Tree) (k : ℤ → Prog) {p : Prog} → ((n : ℤ) → Fit P (k n)) → Fit P p → Fit P (ask_number e k p)
  ask_number-fits e k {p} gives stay = ask go
    where
      go : (v : Tree) → Fit P (elim v [ integer n ↦ k n | _ ↦ p ])
      go (integer n) = gives n
      go (string t) = stay
      go (symbol s) = stay
      go (normal h es) = stay

  bound_or_list-fits : (i : Sym) (v : Tree) (k : Values → Prog) {p : Prog} → ((vs : Values) → are_parts names (symbol i ∷ v ∷ []) ≡ true → Fit P (k vs)) → Fit P p
      → Fit P (bound_or_list names v k p)
  bound_or_list-fits i (integer b) k gives stay = gives (up_to b) refl
  bound_or_list-fits i (string t) k gives stay = branch_if P (is_call names Builtin.List (string t)) (λ is. gives (Each []) is) (λ is. stay)
  bound_or_list-fits i (symbol s) k gives stay = branch_if P (is_call names Builtin.List (symbol s)) (λ is. gives (Each []) is) (λ is. stay)
  bound_or_list-fits i (normal h es) k gives stay = branch_if P (is_call names Builtin.List (normal h es)) (λ is. gives (Each (elements es)) is) (λ is. stay)

  unless_zero-fits : (d : ℤ) {p q : Prog} → (not (int_eq d (pos 0)) ≡ true → Fit P p) → Fit P q → Fit P (unless_zero d p q)
  unless_zero-fits d one stay = branch_if P (int_eq d (pos 0)) (λ is. stay) (λ is. one (ap not is))

  unless_shared-fits : (s : Sym) {p : Prog} → Fit P p → Fit P (unless_shared names s p)
  unless_shared-fits s next = look (λ seen. option P seen.shared next (λ kind. moded (λ kernel. done)))

  iterator_parts-fits : (es : List Tree) (k : Option Sym → Values → List Tree → Prog) {p : Prog} → Iterates k → Fit P p → Fit P (iterator_parts names es k p)
  iterator_parts-fits (n ∷ []) k gives stay = ask_number-fits n _ (λ b. gives None (up_to b) (integer b ∷ []) refl) stay
  iterator_parts-fits (symbol i ∷ b ∷ []) k gives stay =
      unless_shared-fits i (ask (λ v. bound_or_list-fits i v _ (λ vs is. gives (Some i) vs (symbol i ∷ v ∷ []) is) stay))
  iterator_parts-fits (symbol i ∷ a ∷ b ∷ []) k gives stay =
      unless_shared-fits i (ask_number-fits a _ (λ m. ask_number-fits b _ (λ n. gives (Some i) _ (symbol i ∷ integer m ∷ integer n ∷ []) refl) stay) stay)
  iterator_parts-fits (symbol i ∷ a ∷ b ∷ d ∷ []) k gives stay =
      unless_shared-fits i (ask_number-fits a _ (λ m. ask_number-fits b _ (λ n. ask_number-fits d _
      (λ by. unless_zero-fits by (λ is. gives (Some i) _ (symbol i ∷ integer m ∷ integer n ∷ integer by ∷ []) is) stay) stay) stay) stay)
  iterator_parts-fits _ k gives stay = stay

  pub iterator-fits : (it : Tree) (k : Option Sym → Values → List Tree → Prog) {p : Prog} → Iterates k → Fit P p → Fit P (iterator names it k p)
  iterator-fits it k gives stay = branch P (is_call names Builtin.List it) (iterator_parts-fits (items_of it) k gives stay) stay

  over_numbers-fits : (n : ℕ) (i : Option Sym) (e : Tree) (d a : ℤ) (so : List Tree) (k : List Tree → Prog) → GivesAll P k → Fit P (over_numbers i e d n a so k)
  over_numbers-fits zero i e d a so k finish = finish (reverse so)
  over_numbers-fits (suc n) i e d a so k finish = turn (within (λ v. over_numbers-fits n i e d (a +ℤ d) (v ∷ so) k finish))

  over_list-fits : (es : List Tree) (i : Option Sym) (e : Tree) (so : List Tree) (k : List Tree → Prog) → GivesAll P k → Fit P (over_list i e es so k)
  over_list-fits [] i e so k finish = finish (reverse so)
  over_list-fits (x ∷ es) i e so k finish = turn (within (λ v. over_list-fits es i e (v ∷ so) k finish))

  over-fits : (i : Option Sym) (vs : Values) (e : Tree) (k : List Tree → Prog) → GivesAll P k → Fit P (over i vs e k)
  over-fits i (From a d n) e k finish = over_numbers-fits n i e d a [] k finish
  over-fits i (Each es) e k finish = over_list-fits es i e [] k finish

  pub iterated-fits : (row : Builtin) (k : List Tree → Prog) {p : Prog} (es : List Tree) → GivesAll P k → Fit P p → Fit P (iterated names row k p es)
  iterated-fits row k (e ∷ it ∷ its) finish stay = iterator-fits it _ (λ i vs parts is. over-fits i vs (inner_form names row e its) k finish) stay
  iterated-fits row k [] finish stay = stay
  iterated-fits row k (e ∷ []) finish stay = stay

  -- ---- turn forms

  pub applied-fits : (f : Tree) (args : List Tree) (k : Tree → Prog) → Gives P k → Fit P (applied f args k)
  applied-fits f args k gives = check (turn (ask gives))

  nested-fits : (n : ℕ) (f x : Tree) (k : Tree → Prog) → Gives P k → Fit P (nested f n x k)
  nested-fits zero f x k gives = gives x
  nested-fits (suc n) f x k gives = applied-fits f (x ∷ []) _ (λ v. nested-fits n f v k gives)

  pub nest-fits : {p : Prog} (es : List Tree) → Fit P p → Fit P (nest p es)
  nest-fits (f ∷ x ∷ integer (pos n) ∷ []) stay = nested-fits n f x Done (λ v. done)
  nest-fits _ stay = stay

  until_fixed-fits : (n : ℕ) (f x : Tree) → Fit P (until_fixed n f x)
  until_fixed-fits zero f x = stop
  until_fixed-fits (suc n) f x = applied-fits f (x ∷ []) _ (λ v. branch P (same v x) done (until_fixed-fits n f v))

  pub fixed_point-fits : {p : Prog} (es : List Tree) → Fit P p → Fit P (fixed_point p es)
  fixed_point-fits (f ∷ x ∷ []) stay = until_fixed-fits most_turns f x
  fixed_point-fits _ stay = stay

  folded-fits : (es : List Tree) (f x : Tree) (k : Tree → Prog) → Gives P k → Fit P (folded f x es k)
  folded-fits [] f x k gives = gives x
  folded-fits (e ∷ es) f x k gives = applied-fits f (x ∷ e ∷ []) _ (λ v. folded-fits es f v k gives)

  pub fold-fits : {p : Prog} (es : List Tree) → Fit P p → Fit P (fold p es)
  fold-fits (f ∷ x ∷ normal h es ∷ []) stay = folded-fits (elements es) f x Done (λ v. done)
  fold-fits _ stay = stay

  selected-fits : (es : List Tree) (f : Tree) (so : List Tree) (k : List Tree → Prog) → GivesAll P k → Fit P (selected names f es so k)
  selected-fits [] f so k finish = finish (reverse so)
  selected-fits (e ∷ es) f so k finish =
      applied-fits f (e ∷ []) _ (λ v. branch P (is_name names Builtin.True v) (selected-fits es f (e ∷ so) k finish) (selected-fits es f so k finish))

  pub select-fits : {p : Prog} (es : List Tree) → Fit P p → Fit P (select names p es)
  select-fits (normal h es ∷ f ∷ []) stay = selected-fits (elements es) f [] _ (λ vs. done)
  select-fits _ stay = stay

  nested_list-fits : (n : ℕ) (f x : Tree) (so : List Tree) (k : List Tree → Prog) → GivesAll P k → Fit P (nested_list f n x so k)
  nested_list-fits zero f x so k finish = finish (reverse (x ∷ so))
  nested_list-fits (suc n) f x so k finish = applied-fits f (x ∷ []) _ (λ v. nested_list-fits n f v (x ∷ so) k finish)

  pub nest_list-fits : {p : Prog} (es : List Tree) → Fit P p → Fit P (nest_list names p es)
  nest_list-fits (f ∷ x ∷ integer (pos n) ∷ []) stay = nested_list-fits n f x [] _ (λ vs. done)
  nest_list-fits _ stay = stay

  folded_list-fits : (es : List Tree) (f x : Tree) (so : List Tree) (k : List Tree → Prog) → GivesAll P k → Fit P (folded_list f x es so k)
  folded_list-fits [] f x so k finish = finish (reverse (x ∷ so))
  folded_list-fits (e ∷ es) f x so k finish = applied-fits f (x ∷ e ∷ []) _ (λ v. folded_list-fits es f v (x ∷ so) k finish)

  pub fold_list-fits : {p : Prog} (es : List Tree) → Fit P p → Fit P (fold_list names p es)
  fold_list-fits (f ∷ x ∷ normal h es ∷ []) stay = folded_list-fits (elements es) f x [] _ (λ vs. done)
  fold_list-fits _ stay = stay

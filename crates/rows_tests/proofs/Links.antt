-- A chain of integers from a place on.
use Rattle.std.proofs.Common.{◌≡◌, ℕ, zero, suc, ◌+◌, ◌<◌, ◌≤◌, refl, ap, sym, ◌∙◌, Bool, true, false, ◌&&◌, List, [], ◌∷◌, Some, None, length, get_or, drop, arith}
use Rattle.std.specs.Prelude.{ℤ, Option}
use Rattle.std.specs.Option.{option_map}
use Rattle.std.proofs.lemmas.List.{at_drop_all}
use Rattle.expr_tree.specs.Tree.{Tree, integer, string, symbol, normal}
use Rattle.semantics.specs.Tests.{integers, chain}
use Rattle.rows_tests.specs.Chains.{int_of, linked, is_chain}
use Rattle.rows_tests.proofs.Neighbours.{split}

abbrev after : Option ℤ → List ℤ → List ℤ
after None ns = ns
after (Some m) ns = m ∷ ns

-- what becomes of a chain whose first integers are judged
abbrev pub going : (ℤ → ℤ → Bool) → Option ℤ → Bool → List Tree → Option Bool
going test before good es = option_map (λ ns. good && chain test (after before ns)) (integers es)

both_steps : (a b c : Bool) → (a && (b && c)) ≡ ((a && b) && c)
both_steps true b c = refl
both_steps false b c = refl

judged : (test : ℤ → ℤ → Bool) (before : Option ℤ) (good : Bool) (n : ℤ) (ns : List ℤ) → (good && chain test (after before (n ∷ ns))) ≡ ((good && linked test before n) && chain test (n ∷ ns))
judged test None true n ns = refl
judged test None false n ns = refl
judged test (Some m) good n ns = both_steps good (test m n) (chain test (n ∷ ns))

step : (test : ℤ → ℤ → Bool) (before : Option ℤ) (good : Bool) (n : ℤ) (rest : List Tree) → going test before good (integer n ∷ rest) ≡ going test (Some n) (good && linked test before n) rest
step test before good n rest = go (integers rest)
  where
    go : (o : Option (List ℤ)) → option_map (λ ns. good && chain test (after before ns)) (elim o [ None ↦ None | Some ns ↦ Some (n ∷ ns) ]) ≡ option_map (λ ns. (good && linked test before n) && chain test (n ∷ ns)) o
    go None = refl
    go (Some ns) = ap Some (judged test before good n ns)

by_kind : (test : ℤ → ℤ → Bool) (before : Option ℤ) (good : Bool) (x : Tree) (rest : List Tree) → going test before good (x ∷ rest) ≡ elim (int_of x) [ None ↦ None | Some n ↦ going test (Some n) (good && linked test before n) rest ]
by_kind test before good (integer n) rest = step test before good n rest
by_kind test before good (string s) rest = refl
by_kind test before good (symbol s) rest = refl
by_kind test before good (normal h ts) rest = refl

pub going_on : (test : ℤ → ℤ → Bool) (before : Option ℤ) (good : Bool) (es : List Tree) (i : ℕ) (x : Tree) (n : ℤ) → i < length es → x ≡ get_or es i x → int_of x ≡ Some n → going test (Some n) (good && linked test before n) (drop (i + 1) es) ≡ going test before good (drop i es)
going_on test before good es i x n h p is =
    sym (ap (going test before good) (split es i x h p) ∙ by_kind test before good x (drop (i + 1) es)
    ∙ ap (λ o. elim o [ None ↦ None | Some m ↦ going test (Some m) (good && linked test before m) (drop (i + 1) es) ]) is)

pub stops_at : (test : ℤ → ℤ → Bool) (before : Option ℤ) (good : Bool) (es : List Tree) (i : ℕ) (x : Tree) → i < length es → x ≡ get_or es i x → int_of x ≡ None → going test before good (drop i es) ≡ None
stops_at test before good es i x h p is =
    ap (going test before good) (split es i x h p) ∙ by_kind test before good x (drop (i + 1) es)
    ∙ ap (λ o. elim o [ None ↦ None | Some m ↦ going test (Some m) (good && linked test before m) (drop (i + 1) es) ]) is

chain_after : (test : ℤ → ℤ → Bool) (before : Option ℤ) → chain test (after before []) ≡ true
chain_after test None = refl
chain_after test (Some m) = refl

and_true : (good : Bool) → (good && true) ≡ good
and_true true = refl
and_true false = refl

pub gone : (test : ℤ → ℤ → Bool) (before : Option ℤ) (good : Bool) (es : List Tree) (i : ℕ) → length es ≤ i → going test before good (drop i es) ≡ Some good
gone test before good es i h = at_drop_all (going test before good) es i h ∙ ap Some (ap (λ b. good && b) (chain_after test before) ∙ and_true good)

pub going_first : (test : ℤ → ℤ → Bool) (es : List Tree) → going test None true es ≡ is_chain test es
going_first test es = refl

pub ruleset chain_steps = (going_on, stops_at, gone, going_first)

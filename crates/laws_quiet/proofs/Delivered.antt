-- A kernel's attempt at a quiet application, or at a list of them, posts nothing but what it delivers.
use Rattle.std.proofs.Common.{◌≡◌, refl, sym, ap, ◌∙◌, ℕ, true, List, [], ◌∷◌, reverse}
use mathlib.Core.List.{reverse_aux, reverse-reverse}
use Rattle.expr_tree.specs.declared.sym.Sym.{Sym}
use Rattle.expr_tree.specs.Tree.{Tree}
use Rattle.expr_tree.specs.Substitution.{among}
use Rattle.semantics.specs.Names.{IsNames}
use Rattle.semantics.specs.Definitions.{Definitions}
use Rattle.semantics.specs.Program.{Mode}
use Rattle.semantics.specs.Play.{End, Play, Over, Calls, whole}
use Rattle.semantics.specs.Eval.{Outcome, Ended, Needs, over, eval}
use Rattle.journal.specs.Closure.{symbols_of, symbols_of_all, InClosure, bundle, install}
use Rattle.journal.specs.Core.{Setup, in_mode}
use Rattle.journal.specs.Follow.{Attempt, Delivers, attempt_of, valued, evaluated, batch_value, applications}
use Rattle.journal.specs.Quiet.{by_itself, ended_value, IsQuiet, Quiet, alone}
use Rattle.laws_closure.specs.Frame.{AgreeOn}
use Rattle.laws_closure.proofs.Framed.{among_left, among_right}
use Rattle.laws_quiet.specs.Quiet.{NoNameShared, DeliversAtOnce, AttemptDelivers}
use Rattle.laws_quiet.proofs.Installed.{installed}
use Rattle.laws_quiet.proofs.Quieted.{ended_needs, in_any_mode}
use Rattle.laws_quiet.proofs.Batched.{narrowed, still_agree}

value_is : {u v : Tree} → ◌≡◌ {A = Outcome} (Ended (End.Value u)) (Ended (End.Value v)) → u ≡ v
value_is {u} {v} e = ap from e
  where
    from : Outcome → Tree
    from (Ended (End.Value x)) = x
    from (Ended (End.Stopped c)) = u
    from (Ended (End.Throwing x)) = u
    from (Ended (End.Thrown x)) = u
    from (Ended End.Quit) = u
    from (Ended End.Closed) = u
    from (Ended End.Starved) = u
    from (Needs c) = u
    from Outcome.Wrong = u

-- an evaluation that ended with a value without a list made no call
goes_on : (p : Play) (set : Setup) (k : ℕ) (go : Tree → Definitions → Attempt) (v : Tree) → (over p []).outcome ≡ Ended (End.Value v)
    → attempt_of p (valued set k go) ≡ go v (over p []).definitions
goes_on (Over (End.Value u) s) set k go v e = ap (λ x. go x s.definitions) (value_is e)
goes_on (Over (End.Stopped c) s) set k go v e = absurd (Prim.cc e)
goes_on (Over (End.Throwing u) s) set k go v e = absurd (Prim.cc e)
goes_on (Over (End.Thrown u) s) set k go v e = absurd (Prim.cc e)
goes_on (Over End.Quit s) set k go v e = absurd (Prim.cc e)
goes_on (Over End.Closed s) set k go v e = absurd (Prim.cc e)
goes_on (Over End.Starved s) set k go v e = absurd (Prim.cc e)
goes_on (Calls c s f) set k go v e = absurd (ended_needs e)

evaluated_is : (set : Setup) (k : ℕ) (c : Definitions) (a : Tree) (go : Tree → Definitions → Attempt) (v : Tree) → (eval (in_mode set Mode.Item k) c a []).outcome ≡ Ended (End.Value v)
    → evaluated set k c a go ≡ go v (eval (in_mode set Mode.Item k) c a []).definitions
unfolding eval
evaluated_is set k c a go v e = goes_on (whole (in_mode set Mode.Item k) c a) set k go v e

at_once : (value value' : Tree) (a b : Attempt) → value ≡ value' → a ≡ b → DeliversAtOnce value b → DeliversAtOnce value' a
at_once value value' a b e f one = record { after = one.after; delivers = f ∙ (one.delivers ∙ ap (λ v. Delivers v one.after) e) }

module _ (set : Setup) (is : IsNames set.names) (d : Definitions) (free : NoNameShared set.names d) (kernel : ℕ) where
  plain : (a : Tree) (quiet : IsQuiet set d a) (c : Definitions) → AgreeOn set.names (InClosure set.names d (symbols_of a)) d c → DeliversAtOnce quiet.value (evaluated set kernel c a Delivers)
  plain a quiet c one =
      record {
        after = (eval (in_mode set Mode.Item kernel) c a []).definitions;
        delivers = evaluated_is set kernel c a Delivers quiet.value (in_any_mode set is d free a quiet c one Mode.Item kernel []).outcome;
      }

  module _ (seeds : List Sym) where
    in_turn : (es : List Tree) → Quiet set d es → ((s : Sym) → among s (symbols_of_all es) ≡ true → among s seeds ≡ true) → (c : Definitions) → AgreeOn set.names (InClosure set.names d seeds) d c
        → (so_far : List Tree) → DeliversAtOnce (batch_value set (reverse (reverse_aux (alone set d es) so_far))) (applications set kernel es c so_far)
    in_turn [] quiet more c one so_far = record { after = c; delivers = refl }
    in_turn (a ∷ es) quiet more c one so_far =
        let first : (s : Sym) → among s (symbols_of a) ≡ true → among s seeds ≡ true = λ s h. more s (among_left s (symbols_of a) (symbols_of_all es) h) in
        let gives = in_any_mode set is d free a quiet.0 c (narrowed set is d free seeds a first c one) Mode.Item kernel [] in
        let value : ended_value set.names (by_itself set d a).outcome ≡ quiet.0.value = ap (ended_value set.names) quiet.0.gives in
        let after : Definitions = (eval (in_mode set Mode.Item kernel) c a []).definitions in
        at_once (batch_value set (reverse (reverse_aux (alone set d es) (quiet.0.value ∷ so_far)))) (batch_value set (reverse (reverse_aux (alone set d (a ∷ es)) so_far)))
        (applications set kernel (a ∷ es) c so_far) (applications set kernel es after (quiet.0.value ∷ so_far))
        (ap (λ v. batch_value set (reverse (reverse_aux (alone set d es) (v ∷ so_far)))) (sym value))
        (evaluated_is set kernel c a (λ v x. applications set kernel es x (v ∷ so_far)) quiet.0.value gives.outcome)
        (in_turn es quiet.1 (λ s h. more s (among_right s (symbols_of a) (symbols_of_all es) h)) after
        (still_agree set is d free seeds a quiet.0 first c (eval (in_mode set Mode.Item kernel) c a []) one gives) (quiet.0.value ∷ so_far))

pub attempt_delivers : AttemptDelivers
attempt_delivers set is d free kernel left = (
  (λ a quiet. plain set is d free kernel a quiet (install set.names left (bundle set.names d (symbols_of a))) (installed set.names d left (symbols_of a))),
  (λ es quiet.
      at_once (batch_value set (reverse (reverse (alone set d es)))) (batch_value set (alone set d es)) _ _
      (ap (batch_value set) (reverse-reverse (alone set d es))) refl
      (in_turn set is d free kernel (symbols_of_all es) es quiet (λ s h. h) (install set.names left (bundle set.names d (symbols_of_all es))) (installed set.names d left (symbols_of_all es)) [])),
)

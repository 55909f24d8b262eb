-- A list of quiet applications, evaluated in turn: none touches what the others stand on.
use Rattle.std.proofs.Common.{◌≡◌, refl, sym, ap, subst, ◌∙◌, ℕ, Bool, true, false, List, [], ◌∷◌, true≢false}
use Rattle.expr_tree.specs.declared.sym.Sym.{Sym}
use Rattle.expr_tree.specs.Tree.{Tree}
use Rattle.expr_tree.specs.Substitution.{among}
use Rattle.semantics.specs.Names.{Names, IsNames}
use Rattle.semantics.specs.Definitions.{Definitions, stored}
use Rattle.semantics.specs.Program.{Mode}
use Rattle.semantics.specs.Play.{End}
use Rattle.semantics.specs.Eval.{Outcome, Evaluation, eval}
use Rattle.journal.specs.Closure.{symbols_of, symbols_of_all, is_shared, reaches, closure, InClosure, seed, named, followed, table, bundle, install}
use Rattle.journal.specs.Core.{Setup, in_mode}
use Rattle.journal.specs.Quiet.{by_itself, ended_value, IsQuiet, Quiet, alone}
use Rattle.laws_journal.proofs.Closed.{sound_closure, complete_closure}
use Rattle.laws_closure.specs.Frame.{AgreeOn}
use Rattle.laws_closure.proofs.Framed.{among_left, among_right}
use Rattle.laws_quiet.specs.Quiet.{NoNameShared, GivesAlone, results, as_values, BatchAnywhere}
use Rattle.laws_quiet.proofs.Installed.{installed}
use Rattle.laws_quiet.proofs.Quieted.{in_any_mode, agree_itself}

-- what more seeds reach
more_seeds : (names : Names) (d : Definitions) (ss ts : List Sym) → ((s : Sym) → among s ss ≡ true → among s ts ≡ true) → (s : Sym) → InClosure names d ss s → InClosure names d ts s
more_seeds names d ss ts more s (seed _ h) = seed s (more s h)
more_seeds names d ss ts more s (named _ h) = named s h
more_seeds names d ss ts more t (followed s _ i free at) = followed s t (more_seeds names d ss ts more s i) free at
more_seeds names d ss ts more t (table s _ i free row other) = table s t (more_seeds names d ss ts more s i) free row other

module _ (set : Setup) (is : IsNames set.names) (d : Definitions) (free : NoNameShared set.names d) (seeds : List Sym) where
  abbrev K : Sym → Type 0
  K = InClosure set.names d seeds

  -- one application leaves the definitions of the whole closure as they were
  pub still_agree : (a : Tree) (quiet : IsQuiet set d a) → ((s : Sym) → among s (symbols_of a) ≡ true → among s seeds ≡ true) → (c : Definitions) (r : Evaluation) → AgreeOn set.names K d c
      → GivesAlone set d a quiet.value [] c r → AgreeOn set.names K d r.definitions
  still_agree a quiet more c r one gives =
      record {
        shared = one.shared ∙ gives.after.shared;
        number = one.number ∙ gives.after.number;
        same = λ s s_in unshared. one.same s s_in unshared ∙ go s s_in unshared (reaches set.names (closure set.names d (symbols_of a)) s) refl;
      }
    where
      go : (s : Sym) → K s → is_shared d s ≡ false → (b : Bool) → reaches set.names (closure set.names d (symbols_of a)) s ≡ b
          → stored set.names c s ≡ stored set.names r.definitions s
      go s s_in unshared true at =
          gives.after.same s (sound_closure set.names d (symbols_of a) s at) (subst (λ l. is_shared (record c { shared = l }) s ≡ false) one.shared unshared)
      go s s_in unshared false at =
          sym (gives.unchanged s (λ inside. absurd (true≢false (sym (complete_closure set.names d (symbols_of a) s inside) ∙ at))))

  -- agreement on the closure of one of them
  pub narrowed : (a : Tree) → ((s : Sym) → among s (symbols_of a) ≡ true → among s seeds ≡ true) → (c : Definitions) → AgreeOn set.names K d c → AgreeOn set.names (InClosure set.names d (symbols_of a)) d c
  narrowed a first c one = record { shared = one.shared; number = one.number; same = λ s s_in unshared. one.same s (more_seeds set.names d (symbols_of a) seeds first s s_in) unshared }

  batch : (es : List Tree) → Quiet set d es → ((s : Sym) → among s (symbols_of_all es) ≡ true → among s seeds ≡ true) → (mode : Mode) (kernel : ℕ) (c : Definitions) → AgreeOn set.names K d c
      → results (in_mode set mode kernel) c es ≡ as_values (alone set d es)
  batch [] quiet more mode kernel c one = refl
  batch (a ∷ es) quiet more mode kernel c one =
      let first : (s : Sym) → among s (symbols_of a) ≡ true → among s seeds ≡ true = λ s h. more s (among_left s (symbols_of a) (symbols_of_all es) h) in
      let gives = in_any_mode set is d free a quiet.0 c (narrowed a first c one) mode kernel [] in
      let value : ended_value set.names (by_itself set d a).outcome ≡ quiet.0.value = ap (ended_value set.names) quiet.0.gives in
      let rest = batch es quiet.1 (λ s h. more s (among_right s (symbols_of a) (symbols_of_all es) h)) mode kernel (eval (in_mode set mode kernel) c a []).definitions
      (still_agree a quiet.0 first c (eval (in_mode set mode kernel) c a []) one gives) in
      λ i. (gives.outcome ∙ sym (ap (λ v. Outcome.Ended (End.Value v)) value)) i ∷ rest i

pub batch_anywhere : BatchAnywhere
batch_anywhere set is d free es quiet mode kernel left = (
  batch set is d free (symbols_of_all es) es quiet (λ s h. h) mode kernel (install set.names left (bundle set.names d (symbols_of_all es)))
      (installed set.names d left (symbols_of_all es)),
  batch set is d free (symbols_of_all es) es quiet (λ s h. h) mode kernel d (agree_itself set.names (InClosure set.names d (symbols_of_all es)) d),
)

-- A quiet application is evaluated alike wherever the definitions on its closure are the same.
use Rattle.std.proofs.Common.{◌≡◌, refl, sym, ap, subst, ◌∙◌, ℕ, Bool, true, false, List, [], Option, Some, None}
use Rattle.std.specs.Prelude.{◌&&◌}
use Rattle.expr_tree.specs.declared.sym.Sym.{Sym}
use Rattle.expr_tree.specs.Tree.{Tree}
use Rattle.expr_tree.specs.Substitution.{among}
use Rattle.semantics.specs.Names.{Names, IsNames}
use Rattle.semantics.specs.Definitions.{Definition, Definitions, empty, look_up, stored, first_definition}
use Rattle.semantics.specs.Program.{Mode, Call}
use Rattle.semantics.specs.Play.{Setting, End, Play, Over, Calls, whole}
use Rattle.semantics.specs.Eval.{Event, Outcome, Ended, Needs, Evaluation, over, eval}
use Rattle.laws_language.proofs.Modes.{mode_independent}
use Rattle.journal.specs.Closure.{symbols_of, symbols_of_definition, stored_symbols, is_shared, InClosure, seed, followed, table, bundle, install}
use Rattle.journal.specs.Core.{Setup, in_mode}
use Rattle.journal.specs.Quiet.{bare, by_itself, IsQuiet}
use Rattle.laws_closure.specs.Frame.{IsClosed, AgreeOn, Unchanged, WentAlike}
use Rattle.laws_closure.proofs.Framed.{framed}
use Rattle.laws_quiet.specs.Quiet.{NoNameShared, GivesAlone, QuietAnywhere}
use Rattle.laws_quiet.proofs.Installed.{installed}

-- what a symbol has at the start holds no symbols
stored_stand : (names : Names) (d : Definitions) (s t : Sym) → among t (symbols_of_definition (stored names d s)) ≡ true → among t (stored_symbols d s) ≡ true
stored_stand names d s t e = go (look_up d.entries s) e
  where
    go : (o : Option Definition) → among t (symbols_of_definition (elim o [ None ↦ first_definition names s | Some definition ↦ definition ])) ≡ true
        → among t (elim o [ None ↦ [] | Some definition ↦ symbols_of_definition definition ]) ≡ true
    go None e = e
    go (Some definition) e = e

pub closure_closed : (names : Names) (d : Definitions) (seeds : List Sym) → NoNameShared names d → IsClosed names d (InClosure names d seeds)
closure_closed names d seeds free =
    record {
      followed = λ s t s_in unshared e. followed s t s_in unshared (stored_stand names d s t e);
      table = λ s t s_in row other. table s t s_in (free s row) row other;
    }

-- ---- agreement

pub agree_itself : (names : Names) (C : Sym → Type 0) (d : Definitions) → AgreeOn names C d d
agree_itself names C d = record { shared = refl; number = refl; same = λ s s_in free. refl }

pub agree_turned : (names : Names) (C : Sym → Type 0) (d c : Definitions) → AgreeOn names C d c → AgreeOn names C c d
agree_turned names C d c one =
    record { shared = sym one.shared; number = sym one.number; same = λ s s_in free. sym (one.same s s_in (subst (λ l. is_shared (record c { shared = l }) s ≡ false) (sym one.shared) free)) }

pub agree_on : (names : Names) (C : Sym → Type 0) (a b c : Definitions) → AgreeOn names C a b → AgreeOn names C b c → AgreeOn names C a c
agree_on names C a b c one two =
    record {
      shared = one.shared ∙ two.shared;
      number = one.number ∙ two.number;
      same = λ s s_in free. one.same s s_in free ∙ two.same s s_in (subst (λ l. is_shared (record b { shared = l }) s ≡ false) one.shared free);
    }

pub closed_again : (names : Names) (C : Sym → Type 0) (d c : Definitions) → IsClosed names d C → AgreeOn names C d c → IsClosed names c C
closed_again names C d c close one =
    record {
      followed = λ s t s_in free e.
          close.followed s t s_in (subst (λ l. is_shared (record c { shared = l }) s ≡ false) (sym one.shared) free)
          (subst (λ x. among t (symbols_of_definition x) ≡ true) (sym (one.same s s_in (subst (λ l. is_shared (record c { shared = l }) s ≡ false) (sym one.shared) free))) e);
      table = close.table;
    }

-- ---- an evaluation without a call is the same whatever the list

pub ended_needs : {o : End} {c : Call} → ◌≡◌ {A = Outcome} (Needs c) (Ended o) → ⊥
ended_needs e = Prim.cc e

pub record AsAlone (events : List Event) (a b : Evaluation) : Type 0 where
  pub outcome : b.outcome ≡ a.outcome
  pub definitions : b.definitions ≡ a.definitions
  pub steps : b.steps ≡ a.steps
  pub used : b.used ≡ a.used
  pub rest : b.rest ≡ events

over_any : (p : Play) (o : End) (events : List Event) → (over p []).outcome ≡ Ended o → AsAlone events (over p []) (over p events)
over_any (Over e s) o events is = record { outcome = refl; definitions = refl; steps = refl; used = refl; rest = refl }
over_any (Calls c s k) o events is = absurd (ended_needs is)

pub eval_any : (set : Setting) (d : Definitions) (e : Tree) (o : End) (events : List Event) → (eval set d e []).outcome ≡ Ended o → AsAlone events (eval set d e []) (eval set d e events)
unfolding eval
eval_any set d e o events is = over_any (whole set d e) o events is

-- ---- the law

and_false : (a b : Bool) → a ≡ false → (a && b) ≡ false
and_false a b e = ap (λ c. c && b) e

module _ (set : Setup) (is : IsNames set.names) (d : Definitions) (free : NoNameShared set.names d) (a : Tree) (quiet : IsQuiet set d a) where
  abbrev C : Sym → Type 0
  C = InClosure set.names d (symbols_of a)

  alone_agrees : AgreeOn set.names C d (bare set d a)
  alone_agrees = installed set.names d empty (symbols_of a)

  -- from definitions that agree with d on the closure, as a kernel's item
  as_item : (c : Definitions) → AgreeOn set.names C d c → WentAlike set.names C (bare set d a) c [] (by_itself set d a) (eval (in_mode set Mode.Item 0) c a [])
  as_item c one =
      framed (in_mode set Mode.Item 0) is C (bare set d a) c (closed_again set.names C d (bare set d a) (closure_closed set.names d (symbols_of a) free) alone_agrees)
      (agree_on set.names C (bare set d a) d c (agree_turned set.names C d (bare set d a) alone_agrees) one) a [] (λ s e. seed s e)
      (and_false (by_itself set d a).used _ quiet.unused)

  pub in_any_mode : (c : Definitions) → AgreeOn set.names C d c → (mode : Mode) (kernel : ℕ) (events : List Event) → GivesAlone set d a quiet.value events c (eval (in_mode set mode kernel) c a events)
  in_any_mode c one mode kernel events =
      let went = as_item c one in
      let unused : (eval (in_mode set Mode.Item 0) c a []).used ≡ false = sym went.used ∙ quiet.unused in
      let any = eval_any (in_mode set Mode.Item 0) c a went.end events went.second in
      let moved : eval (in_mode set mode kernel) c a events ≡ eval (in_mode set Mode.Item 0) c a events =
      mode_independent (in_mode set Mode.Item 0) mode kernel c a events (any.used ∙ unused) in
      subst (λ r. GivesAlone set d a quiet.value events c r) (sym moved)
      (record {
        outcome = any.outcome ∙ (went.second ∙ (sym went.first ∙ quiet.gives));
        steps = any.steps ∙ sym went.steps;
        used = any.used ∙ unused;
        no_call = any.rest;
        after = agree_on set.names C c d (eval (in_mode set Mode.Item 0) c a events).definitions (agree_turned set.names C d c one)
            (agree_on set.names C d (bare set d a) (eval (in_mode set Mode.Item 0) c a events).definitions alone_agrees
            (subst (λ x. AgreeOn set.names C (bare set d a) x) (sym any.definitions)
            (subst (λ x. AgreeOn set.names C x (eval (in_mode set Mode.Item 0) c a []).definitions) quiet.keeps went.after)));
        unchanged = subst (λ x. Unchanged set.names C c x) (sym any.definitions) (went.unchanged (ap (λ x. x.module_number) quiet.keeps)).1;
      })

pub quiet_anywhere : QuietAnywhere
quiet_anywhere set is d free a quiet mode kernel left events = (
  in_any_mode set is d free a quiet (install set.names left (bundle set.names d (symbols_of a))) (installed set.names d left (symbols_of a)) mode kernel events,
  in_any_mode set is d free a quiet d (agree_itself set.names (InClosure set.names d (symbols_of a)) d) mode kernel events,
)

-- The bundle agrees with the definitions on the closure, which holds no name that a Module may make.
use Rattle.std.proofs.Common.{◌≡◌, sym, ap, subst, ◌∙◌, ℕ, ◌+◌, ◌<◌, true, List, []}
use Rattle.expr_tree.specs.declared.sym.Sym.{Sym}
use Rattle.expr_tree.specs.Tree.{Tree}
use Rattle.semantics.specs.Names.{IsNames}
use Rattle.semantics.specs.Definitions.{Definitions, empty}
use Rattle.semantics.specs.Program.{Mode}
use Rattle.semantics.specs.Play.{Value, last_number}
use Rattle.semantics.specs.Eval.{Event, Ended, eval}
use Rattle.laws_language.proofs.Modes.{mode_independent}
use Rattle.journal.specs.Closure.{symbols_of, InClosure, seed}
use Rattle.journal.specs.Core.{Setup, in_mode}
use Rattle.journal.specs.Quiet.{bare, by_itself}
use Rattle.laws_closure.specs.Frame.{AgreeOn}
use Rattle.laws_quiet.specs.Quiet.{NoNameShared}
use Rattle.laws_quiet.proofs.Installed.{installed}
use Rattle.laws_quiet.proofs.Quieted.{closure_closed, closed_again, agree_on, agree_turned, eval_any}
use Rattle.laws_shift.specs.Shift.{below, shared_below, with_number}
use Rattle.laws_shift.specs.Carried.{SameButForNames}
use Rattle.laws_shift.proofs.Carried.{carried}
use Rattle.laws_named.specs.Named.{IsNumbered, GivesNoNames, GivesValue, GivenAnywhere}

module _ (set : Setup) (is : IsNames set.names) (d : Definitions) (free : NoNameShared set.names d) (a : Tree) (numbered : IsNumbered d) (one : GivesNoNames set d a) (by : ℕ) (c : Definitions)
    (agree : AgreeOn set.names (InClosure set.names d (symbols_of a)) (with_number (d.module_number + by) d) c)
    (room : (by_itself set d a).definitions.module_number + by < last_number) where
  abbrev C : Sym → Type 0
  C = InClosure set.names d (symbols_of a)

  abbrev known : Definitions
  known = bare set d a

  agrees : AgreeOn set.names C d known
  agrees = installed set.names d empty (symbols_of a)

  renumbered : AgreeOn set.names C (with_number (known.module_number + by) known) (with_number (d.module_number + by) d)
  renumbered =
      let turned = agree_turned set.names C d known agrees in
      record { shared = turned.shared; number = ap (λ n. n + by) turned.number; same = turned.same }

  as_item : SameButForNames known.module_number by [] (by_itself set d a) (eval (in_mode set Mode.Item 0) c a [])
  as_item =
      carried (in_mode set Mode.Item 0) C by known c (closed_again set.names C d known (closure_closed set.names d (symbols_of a) free) agrees)
      (agree_on set.names C (with_number (known.module_number + by) known) (with_number (d.module_number + by) d) c renumbered agree)
      (λ s s_in. subst (λ n. s.number < n) agrees.number (one.none_to_come s s_in))
      (subst (λ n. shared_below n known.shared ≡ true) agrees.number (subst (λ l. shared_below d.module_number l ≡ true) agrees.shared numbered.shared))
      (subst (λ n. 0 < n) agrees.number numbered.started) is a [] (λ s e. seed s e)
      room one.unused

  pub in_any_mode : (mode : Mode) (kernel : ℕ) (events : List Event) → GivesValue set d a one.value by events (eval (in_mode set mode kernel) c a events)
  in_any_mode mode kernel events =
      let gives : (eval (in_mode set Mode.Item 0) c a []).outcome ≡ Ended (Value one.value) =
      as_item.same_value one.value (subst (λ n. below n one.value ≡ true) agrees.number one.plain) one.gives in
      let any = eval_any (in_mode set Mode.Item 0) c a (Value one.value) events gives in
      let moved : eval (in_mode set mode kernel) c a events ≡ eval (in_mode set Mode.Item 0) c a events =
      mode_independent (in_mode set Mode.Item 0) mode kernel c a events (any.used ∙ as_item.used) in
      subst (λ r. GivesValue set d a one.value by events r) (sym moved)
      (record { outcome = any.outcome ∙ gives; steps = any.steps ∙ as_item.steps; number = ap (λ x. x.module_number) any.definitions ∙ as_item.number; used = any.used ∙ as_item.used; no_call = any.rest })

pub given_anywhere : GivenAnywhere
given_anywhere set is d free numbered a one by c agree room mode kernel events = in_any_mode set is d free a numbered one by c agree room mode kernel events

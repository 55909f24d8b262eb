-- The bound on module numbers from the definitions of a bundle, carried by the frame law to all that agree with it on the closure.
use Rattle.std.proofs.Common.{◌≡◌, refl, sym, ap, ◌∙◌, ℕ, ◌+◌, ◌≤◌, ◌<◌, arith, Bool, true, false, List, ◌++◌}
use Rattle.std.specs.Prelude.{◌&&◌}
use Rattle.expr_tree.specs.declared.sym.Sym.{Sym}
use Rattle.expr_tree.specs.Tree.{Tree}
use Rattle.semantics.specs.Names.{IsNames}
use Rattle.semantics.specs.Definitions.{Definitions, empty}
use Rattle.semantics.specs.Program.{Mode}
use Rattle.semantics.specs.Eval.{Event, Evaluation, eval}
use Rattle.journal.specs.Closure.{symbols_of, InClosure, seed}
use Rattle.journal.specs.Core.{Setup, in_mode}
use Rattle.journal.specs.Quiet.{bare, symbols_of_entries}
use Rattle.laws_closure.specs.Frame.{AgreeOn, WentAlike}
use Rattle.laws_closure.specs.Throws.{none_throws}
use Rattle.laws_closure.proofs.Framed.{framed}
use Rattle.laws_numbers.specs.Bound.{going_on}
use Rattle.laws_numbers.proofs.Paid.{numbers_paid}
use Rattle.laws_quiet.specs.Quiet.{NoNameShared}
use Rattle.laws_quiet.proofs.Installed.{installed}
use Rattle.laws_quiet.proofs.Quieted.{closure_closed, closed_again, agree_on, agree_turned}
use Rattle.laws_named.specs.Named.{ReachedNumbersPaid}

and_false : (a b : Bool) → b ≡ false → (a && b) ≡ false
and_false true b e = e
and_false false b e = refl

module _ (set : Setup) (is : IsNames set.names) (d : Definitions) (free : NoNameShared set.names d) (started : 0 < d.module_number) (a : Tree)
    (spared : none_throws set.names (symbols_of a ++ symbols_of_entries (bare set d a).entries) ≡ true) (c : Definitions)
    (agree : AgreeOn set.names (InClosure set.names d (symbols_of a)) d c) (mode : Mode) (kernel : ℕ) (events : List Event)
    (unused : (eval (in_mode set mode kernel) c a events).used ≡ false) where
  abbrev C : Sym → Type 0
  C = InClosure set.names d (symbols_of a)

  abbrev alone : Evaluation
  alone = eval (in_mode set mode kernel) (bare set d a) a events

  abbrev whole : Evaluation
  whole = eval (in_mode set mode kernel) c a events

  agrees : AgreeOn set.names C d (bare set d a)
  agrees = installed set.names d empty (symbols_of a)

  went : WentAlike set.names C (bare set d a) c events alone whole
  went =
      framed (in_mode set mode kernel) is C (bare set d a) c (closed_again set.names C d (bare set d a) (closure_closed set.names d (symbols_of a) free) agrees)
      (agree_on set.names C (bare set d a) d c (agree_turned set.names C d (bare set d a) agrees) agree) a events (λ s e. seed s e) (and_false alone.used whole.used unused)

  pub reached_paid : whole.definitions.module_number ≤ c.module_number + (whole.steps + going_on set.limits.recursion whole.outcome)
  reached_paid =
      let paid : alone.definitions.module_number ≤ d.module_number + (alone.steps + going_on set.limits.recursion alone.outcome) =
      numbers_paid (in_mode set mode kernel) is (bare set d a) a events started spared (went.used ∙ unused) in
      let ended : going_on set.limits.recursion alone.outcome ≡ going_on set.limits.recursion whole.outcome = ap (going_on set.limits.recursion) (went.first ∙ sym went.second) in
      omega (arith, paid, ended, went.steps, went.after.number, agree.number)

pub reached_numbers_paid : ReachedNumbersPaid
reached_numbers_paid set is d free started a spared c agree mode kernel events unused = reached_paid set is d free started a spared c agree mode kernel events unused

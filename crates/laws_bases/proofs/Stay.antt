-- Evaluation adds no base, along the calls that it makes and so where it makes none.
use Rattle.std.proofs.Common.{◌≡◌, refl, sym, ◌∙◌, ℕ, Bool, true, false, List, [], ◌∷◌, true≢false}
use Rattle.expr_tree.specs.Tree.{Tree}
use Rattle.semantics.specs.Play.{End, Value, Stopped, Throwing, Thrown, Quit, Closed, Starved, Play, begun}
use Rattle.semantics.specs.Eval.{Event, Ended, Evaluation, same_call, if_matched, over, eval}
use Rattle.laws_numbers.proofs.Paying.{Alone, at_end, with_use, whole_alone, used_over}
use Rattle.laws_bases.specs.Kept.{IsKeptOutcome, StaysKept, BasesStay}
use Rattle.laws_bases.specs.Calls.{IsKeptEnd, Keeps, ended, called, AreKeptEvents, KeptAlong, PlaysKeep, EvaluationsKeep}
use Rattle.laws_bases.proofs.Along.{eval_at-keeps}

pub plays_keep : PlaysKeep
plays_keep set count rows d e defined kept = eval_at-keeps set count rows set.limits.recursion e (begun d) kept defined

along : {count : ℕ} {shown : Tree → List ℕ} {p : Play} → Keeps count shown p → (events : List Event) → AreKeptEvents count events → KeptAlong count shown (over p events)
along (ended o d) events kept = record { last = o; definitions = d }
along (called c d next) [] kept = record { last = c; definitions = d }
along {count} {shown} (called {c = c'} {s = s} {k = k} c d next) (a ∷ events) kept = go (same_call a.call c') (along (next a.reply a.after kept.0 kept.1) events kept.2)
  where
    go : (b : Bool) {v : Evaluation} → KeptAlong count shown v → KeptAlong count shown (if_matched b s a events v)
    go true one = one
    go false one = record { last = tt; definitions = d }

pub evaluations_keep : EvaluationsKeep
unfolding eval
evaluations_keep set count rows d e events defined kept replied = along (plays_keep set count rows d e defined kept) events replied

outcome-kept : (count : ℕ) (o : End) → IsKeptEnd count o → IsKeptOutcome count (Ended o)
outcome-kept count (Value v) kept = kept
outcome-kept count (Stopped c) kept = tt
outcome-kept count (Throwing v) kept = kept
outcome-kept count (Thrown v) kept = kept
outcome-kept count Quit kept = tt
outcome-kept count Closed kept = tt
outcome-kept count Starved kept = tt

-- where `used` is false there was no call
alone-stays : (count : ℕ) {shown : Tree → List ℕ} {p : Play} (events : List Event) → Alone p → (over p events).used ≡ false → Keeps count shown p → StaysKept count events (over p events)
alone-stays count events at_end free (ended o d) = record { value = outcome-kept count _ o; definitions = d; no_call = refl }
alone-stays count events (with_use h) free kept = absurd (true≢false (sym (used_over h events) ∙ free))

pub bases_stay : BasesStay
unfolding eval
bases_stay set count rows d e events defined kept free = alone-stays count events (whole_alone set d e) free (plays_keep set count rows d e defined kept)

-- The reader goes over a text, a character at a time.
use Rattle.std.proofs.Common.{◌≡◌, refl, sym, ap, ◌∙◌, ℕ, ◌+◌, ◌≤◌, ◌<◌, List, [], ◌∷◌, ◌++◌, length, take, drop, take_at, take_all, length-append, length-drop, ◌-◌, Option, Some, None, option_and_then, arith}
use Rattle.std.proofs.Math.Seq.{take-add}
use Rattle.show_form.specs.declared.frame.Kept.{Kept}
use Rattle.show_form.specs.Faults.{IsAfter, IsStop}
use Rattle.show_form.specs.Steps.{State, step, run, whole, first_state}

bind_then : (find : List ℕ → ℕ) (cs ds : List ℕ) (o : Option State) → ((s : State) → run find (cs ++ ds) s ≡ option_and_then (run find ds) (run find cs s))
    → option_and_then (run find (cs ++ ds)) o ≡ option_and_then (run find ds) (option_and_then (run find cs) o)
bind_then find cs ds None h = refl
bind_then find cs ds (Some s) h = h s

pub run_then : (find : List ℕ → ℕ) (cs ds : List ℕ) (s : State) → run find (cs ++ ds) s ≡ option_and_then (run find ds) (run find cs s)
run_then find [] ds s = refl
run_then find (c ∷ cs) ds s = bind_then find cs ds (step find c s) (λ t. run_then find cs ds t)

-- what is gone over with the character
pub goes_on : (find : List ℕ → ℕ) (t rest cs : List ℕ) (at next : ℕ) (first s r : State) → next ≡ at + length cs → drop at t ≡ cs ++ rest
    → run find (take at t) first ≡ Some s → IsAfter find cs s (Some r) → run find (take next t) first ≡ Some r
goes_on find t rest cs at next first s r n d g e =
    ap (λ k. run find (take k t) first) n
    ∙ ap (λ v. run find v first) (take-add at (length cs) t ∙ ap (λ v. take at t ++ take (length cs) v) d ∙ ap (λ v. take at t ++ v) (take_at cs rest (length cs) refl))
    ∙ run_then find (take at t) cs first
    ∙ ap (option_and_then (run find cs)) g
    ∙ e

take_one : (cs rest : List ℕ) → 1 ≤ length cs → take 1 (cs ++ rest) ≡ take 1 cs
take_one [] rest h = absurd (omega arith)
take_one (c ∷ cs) rest h = refl

pub stops_at : (find : List ℕ → ℕ) (t rest cs : List ℕ) (at : ℕ) (first s : State) → 1 ≤ length cs → drop at t ≡ cs ++ rest
    → run find (take at t) first ≡ Some s → IsAfter find cs s None → run find (take (at + 1) t) first ≡ None
stops_at find t rest cs at first s long d g e =
    ap (λ v. run find v first) (take-add at 1 t ∙ ap (λ v. take at t ++ take 1 v) d ∙ ap (λ v. take at t ++ v) (take_one cs rest long))
    ∙ run_then find (take at t) (take 1 cs) first
    ∙ ap (option_and_then (run find (take 1 cs))) g
    ∙ e

-- ---- where it stops, and what is whole at the end

pub stop_is : (find : List ℕ → ℕ) (t rest cs : List ℕ) (at : ℕ) (s : State) → 1 ≤ length cs → drop at t ≡ cs ++ rest
    → run find (take at t) first_state ≡ Some s → IsAfter find cs s None → IsStop find t at
stop_is find t rest cs at s long d g e =
    let n : length t - at ≡ length cs + length rest = sym (length-drop at t) ∙ ap length d ∙ length-append cs rest in
    record {
      state = s;
      within = omega arith;
      good = g;
      bad = λ _. stops_at find t rest cs at first_state s long d g e;
      unfinished = λ p. absurd (omega arith);
    }

pub end_stop : (find : List ℕ → ℕ) (t : List ℕ) (at : ℕ) (s : State) → length t ≤ at → run find (take at t) first_state ≡ Some s → whole find s ≡ None → IsStop find t (length t)
end_stop find t at s h g w =
    record {
      state = s;
      within = omega arith;
      good = ap (λ v. run find v first_state) (take_all (length t) t (omega arith) ∙ sym (take_all at t h)) ∙ g;
      bad = λ p. absurd (omega arith);
      unfinished = λ p. w;
    }

pub end_whole : (find : List ℕ → ℕ) (t : List ℕ) (at : ℕ) (s : State) (k : Kept) → length t ≤ at → run find (take at t) first_state ≡ Some s → whole find s ≡ Some k
    → option_and_then (whole find) (run find t first_state) ≡ Some k
end_whole find t at s k h g w = ap (λ v. option_and_then (whole find) (run find v first_state)) (sym (take_all at t h)) ∙ ap (option_and_then (whole find)) g ∙ w

-- A string ends where a character begins.
use Rattle.std.proofs.Common.{◌≡◌, ◌∙◌, sym, ap, subst, ℕ, ◌+◌, ◌-◌, ◌<◌, ◌≤◌, List, length, get_or, take, drop, arith, length-drop}
use Rattle.std.proofs.lemmas.List.{length-take-le, get_or-take, get_or-drop}
use Rattle.std.proofs.lemmas.Str.{IsCharBoundary-after_ascii}
use Rattle.std.specs.Str.{IsUtf8, IsCharBoundary}

pub last_byte : (text : List ℕ) (from to : ℕ) → from < to → to ≤ length text → get_or (take (to - from) (drop from text)) (length (take (to - from) (drop from text)) - 1) 0 ≡ 34 → get_or text (to - 1) 0 ≡ 34
last_byte text from to h k e =
    let l = length-drop {A = ℕ} from text in
    let n : length (take (to - from) (drop from text)) ≡ to - from = length-take-le (to - from) (drop from text) (omega (arith, l)) in
    let place : from + (to - from - 1) ≡ to - 1 = omega arith in
    sym (ap (λ i. get_or text i 0) place) ∙ sym (get_or-drop from text (to - from - 1) 0) ∙ sym (get_or-take (to - from) (drop from text) (to - from - 1) 0 (omega arith))
    ∙ ap (λ m. get_or (take (to - from) (drop from text)) (m - 1) 0) (sym n) ∙ e

pub quote_end : (text : List ℕ) (from to : ℕ) → IsUtf8 text → from < to → to ≤ length text → get_or (take (to - from) (drop from text)) (length (take (to - from) (drop from text)) - 1) 0 ≡ 34 → IsCharBoundary text to
quote_end text from to u h k e =
    let b : get_or text (to - 1) 0 ≡ 34 = last_byte text from to h k e in
    subst (IsCharBoundary text) (omega arith) (IsCharBoundary-after_ascii text (to - 1) u (omega arith) (omega (arith, b)))

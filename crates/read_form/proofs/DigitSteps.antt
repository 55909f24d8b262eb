-- The number that digits write, a digit at a time.
use Rattle.std.proofs.Common.{◌≡◌, ℕ, ◌+◌, ◌-◌, ◌*◌, ◌<◌, ◌≤◌, List, length, drop, get_or, arith}
use Rattle.script_text.specs.Bytes.{number_after}
use Rattle.name_table.proofs.Digits.{number_step, number_end}
use Rattle.lex_form.proofs.Lexing.{number_after_ge}

-- no digit makes it wider than all of them
pub digit_within : (ds : List ℕ) (i n : ℕ) → i < length ds → number_after n (drop i ds) ≡ number_after 0 ds → n * 10 + (get_or ds i 0 - 48) ≤ number_after 0 ds
digit_within ds i n h e =
    let s = number_step ds i n h in
    let g = number_after_ge (drop (i + 1) ds) (n * 10 + (get_or ds i 0 - 48)) in
    omega (arith, s, g, e)

pub ruleset digit_steps = (number_step, number_end, digit_within)

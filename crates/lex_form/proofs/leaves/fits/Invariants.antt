use Rattle.std.proofs.Common.{◌≡◌, ◌<◌, ◌^◌, drop}
use Rattle.script_text.specs.Bytes.{number_after}
use Rattle.lex_form.proofs.leaves.fits.Given as goal

abbrev pub invariant-loop-digit : goal.invariant-loop-digit
invariant-loop-digit l = record {
  small : l.value < 2 ^ 127;
  rest : number_after l.value (drop l.digit-index l.digits) ≡ number_after 0 l.digits;
}

use Rattle.std.proofs.Common.{◌≡◌, ◌<◌, ◌^◌, drop}
use Rattle.script_text.specs.Bytes.{number_after}
use Rattle.script_run.proofs.words.number_of.Given as goal

abbrev pub invariant-loop-digit : goal.invariant-loop-digit
invariant-loop-digit l = record {
  same : number_after l.number (drop l.digit-index l.digits) ≡ number_after 0 l.digits;
  small : l.number < 10 ^ l.digit-index;
}

use Rattle.std.proofs.Common.{◌≡◌, drop}
use Rattle.syntax.specs.Leaves.{has_feed}
use Rattle.read_form.proofs.words.has_feed.Given as goal

abbrev pub invariant-loop-byte : goal.invariant-loop-byte
invariant-loop-byte l = has_feed (drop l.byte-index l.text) ≡ has_feed l.text

use Rattle.std.proofs.Common.{map, drop}
use Rattle.script_text.specs.Spelling.{place_in}
use Rattle.syntax.specs.Tokens as syn
use Rattle.builtin_names.specs.Named.{names_in}
use Rattle.lex_form.specs.Lexes.{token_of}
use Rattle.lex_form.specs.Shapes.{AreTokens}
use Rattle.phrase_form.specs.Machine.{state_in}
use Rattle.read_form.specs.Gone.{Gone}
use Rattle.read_form.specs.Kept.{AreKeptNames}
use Rattle.read_form.proofs.reader.go_over.Given as goal

abbrev pub invariant-loop-token : goal.invariant-loop-token
invariant-loop-token l = record {
  gone : Gone (names_in l.names) (place_in l.names.texts) l.cell l.at l.token-index (state_in (names_in l.names) l.machine);
  tokens : AreTokens l.cell l.at (map token_of (drop l.token-index l.tokens));
  kept : AreKeptNames l.names.texts (syn.names_in l.cell (map token_of (drop l.token-index l.tokens)));
}

use Rattle.std.proofs.Common.{sym, subst, List, get_or}
use Rattle.lex_form.specs.declared.token.Token.{Token}
use Rattle.lex_form.specs.declared.token.Kind.TheVariants as ki
use Rattle.lex_form.specs.Lexes.{token_of}
use Rattle.phrase_form.specs.Machine.{state_in, step_at}
use Rattle.script_text.specs.Spelling.{place_in}
use Rattle.syntax.specs.Tokens as syn
use Rattle.syntax.specs.Terminals.{terminal}
use Rattle.read_form.specs.Pieces.{lexeme_at}
use Rattle.builtin_names.specs.Named.{names_in}
use Rattle.lex_form.specs.Shapes.{AreTokens}
use Rattle.lex_form.proofs.TokenShapes.{tokens_good}
use Rattle.read_form.specs.Gone.{Gone}
use Rattle.read_form.specs.Kept.{AreKeptNames}
use Rattle.read_form.proofs.Over.{turn, found, within, step_stops, step_goes}
use Rattle.read_form.proofs.Runs.{gone_none, gone_more, gone_stops}
use Rattle.read_form.proofs.reader.go_over.Goals as goal

abbrev no_token : Token
no_token = record { kind = ki.Number; from = 0; to = 0 }

pub loop-token-init : goal.loop-token-init
loop-token-init c =
    let n = names_in c.args.names.now in
    let f = place_in c.args.names.now.texts in
    record {
      gone = subst (Gone n f c.args.cell.now 0 0) (sym (c.new-machine.ensures n)) (gone_none n f c.args.cell.now);
      tokens = subst (AreTokens c.args.cell.now 0) (sym c.requires.tokens) (tokens_good c.args.cell.now);
      kept = subst (λ (us : List syn.Token). AreKeptNames c.args.names.now.texts (syn.names_in c.args.cell.now us)) (sym c.requires.tokens) c.requires.kept;
    }

pub returns-in-Stops-clause-no : goal.returns-in-Stops-clause-no
returns-in-Stops-clause-no c =
    let n = names_in c.args.names.now in
    let f = place_in c.args.names.now.texts in
    let i = c.loop-token.token-index in
    let items = c.as_slice-token-items.result.now in
    let t : Token = get_or items i no_token in
    let here = turn c.args.cell.now c.args.names.now.texts c.loop-token.at i c.args.tokens.now t c.requires.tokens (within items c.args.tokens.now i c.as_slice-token-items.ensures c.loop-token-test.true) (found items c.args.tokens.now i no_token c.as_slice-token-items.ensures c.loop-token-test.true)
    c.loop-token.invariant.tokens c.loop-token.invariant.kept in
    let stop = step_stops n c.in_ok-step_over.field-0 c.step_over.new.machine (step_at n (terminal n f (lexeme_at c.args.cell.now c.loop-token.at (token_of t))) (state_in n c.loop-token.machine)) c.in_ok-step_over.ensures c.in-Stops.is in
    gone_stops n f c.args.cell.now c.loop-token.at i (state_in n c.loop-token.machine) (token_of t) _ c.loop-token.invariant.gone here.next stop

pub loop-token-preserved : goal.loop-token-preserved
loop-token-preserved c =
    let n = names_in c.args.names.now in
    let f = place_in c.args.names.now.texts in
    let i = c.loop-token.token-index in
    let items = c.as_slice-token-items.result.now in
    let t : Token = get_or items i no_token in
    let here = turn c.args.cell.now c.args.names.now.texts c.loop-token.at i c.args.tokens.now t c.requires.tokens (within items c.args.tokens.now i c.as_slice-token-items.ensures c.loop-token-test.true) (found items c.args.tokens.now i no_token c.as_slice-token-items.ensures c.loop-token-test.true)
    c.loop-token.invariant.tokens c.loop-token.invariant.kept in
    let go = step_goes n c.in_ok-step_over.field-0 c.step_over.new.machine (step_at n (terminal n f (lexeme_at c.args.cell.now c.loop-token.at (token_of t))) (state_in n c.loop-token.machine)) c.in_ok-step_over.ensures c.in-Goes.is in
    record {
      gone = gone_more n f c.args.cell.now c.loop-token.at i (state_in n c.loop-token.machine) (state_in n c.step_over.new.machine) (token_of t) _ c.loop-token.invariant.gone here.next go;
      tokens = here.are_tokens;
      kept = here.kept_later;
    }

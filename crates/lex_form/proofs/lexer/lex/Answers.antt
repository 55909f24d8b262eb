use Rattle.std.proofs.Common.{arith, map, length-drop, ℕ}
use Rattle.lex_form.specs.Scans.{kind_of}
use Rattle.lex_form.specs.Lexes.{token_of}
use Rattle.lex_form.proofs.Lexing.{taken, skipped, map_push}
use Rattle.lex_form.proofs.lexer.lex.Goals as goal

pub loop-at-preserved-in-Continue-1 : goal.loop-at-preserved-in-Continue-1
loop-at-preserved-in-Continue-1 c =
    let bytes = c.as_bytes-bytes.result.now in
    let at = c.loop-at.at in
    let len = c.in-Takes.len in
    let is = rw c.behind.ensures at c.in-Takes.ensures.meaning in
    let inside = rw c.behind.ensures at c.in-Takes.ensures.within in
    let step = taken at len bytes (map token_of c.loop-at.tokens) (kind_of c.in-Takes.kind) _ c.loop-at-test.true is inside.0 c.loop-at.invariant.rest in
    record {
      same = c.loop-at.invariant.same;
      within = omega (arith, inside.1, c.loop-at-test.true, length-drop {A = ℕ});
      rest = rw (c.in_ok-push-in-Takes.ensures.ok, map_push) step;
    }

pub loop-at-preserved : goal.loop-at-preserved
loop-at-preserved c =
    let bytes = c.as_bytes-bytes.result.now in
    let at = c.loop-at.at in
    let len = c.in-Skips.len in
    let is = rw c.behind.ensures at c.in-Skips.ensures.meaning in
    let inside = rw c.behind.ensures at c.in-Skips.ensures.within in
    record {
      same = c.loop-at.invariant.same;
      within = omega (arith, inside.1, c.loop-at-test.true, length-drop {A = ℕ});
      rest = skipped at len bytes (map token_of c.loop-at.tokens) _ c.loop-at-test.true is inside.0 c.loop-at.invariant.rest;
    }

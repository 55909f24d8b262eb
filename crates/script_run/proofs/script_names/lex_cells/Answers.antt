use Rattle.std.proofs.Common.{◌<◌, length, ap, arith}
use Rattle.script_run.proofs.TextLemmas.{span_whole}
use Rattle.script_run.proofs.script_names.lex_cells.Goals as goal

pub cell_text-requires-clause-whole : goal.cell_text-requires-clause-whole
cell_text-requires-clause-whole c =
    let inside : c.loop-span.span-index < length c.args.spans.now = omega (arith, ap length c.as_slice-span-items.ensures, c.loop-span-test.true) in
    span_whole c.args.script.now c.args.spans.now c.as_slice-span-items.result.now c.loop-span.span-index (record { from = 0; to = 0 }) c.as_slice-span-items.ensures inside c.loop-span.invariant.spans

use Rattle.std.proofs.Common.{◌<◌, length, ap, arith}
use Rattle.script_run.proofs.LexLemmas.{tokens_known}
use Rattle.script_run.proofs.TextLemmas.{span_whole}
use Rattle.script_run.proofs.script_names.written_names.Goals as goal

pub cell_text-cell-requires-clause-whole : goal.cell_text-cell-requires-clause-whole
cell_text-cell-requires-clause-whole c =
    let inside : c.loop-at.at < length c.args.spans.now = omega (arith, ap length c.as_slice-span-items.ensures, c.loop-at-test.true) in
    span_whole c.args.script.now c.args.spans.now c.as_slice-span-items.result.now c.loop-at.at (record { from = 0; to = 0 }) c.as_slice-span-items.ensures inside c.loop-at.invariant.spans

pub add_names-requires : goal.add_names-requires
add_names-requires c =
    let inside : c.loop-at.at < length c.args.spans.now = omega (arith, ap length c.as_slice-span-items.ensures, c.loop-at-test.true) in
    tokens_known c.args.script.now c.args.spans.now c.as_slice-span-items.result.now c.args.lexed.now c.loop-at.at _ c.index-lexed-at.result c.cell_text-cell.result.now c.requires.lexed inside
    c.index-lexed-at.is c.as_slice-span-items.ensures c.cell_text-cell.ensures

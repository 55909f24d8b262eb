use Rattle.std.proofs.Common.{sym, ◌∙◌}
use Rattle.semantics.specs.Table.{worked}
use Rattle.builtin_names.specs.Named.{names_in}
use Rattle.eval_seq.proofs.RowStarts.{row_plain, row_made}
use Rattle.eval_seq.proofs.rows.row_start.Goals as goal

pub returns-then-is_plain : goal.returns-then-is_plain
returns-then-is_plain c = row_plain c.args.row c.args.items.now (sym c.is_plain.ensures ∙ c.if-is_plain.true)

pub returns-in-Some : goal.returns-in-Some
returns-in-Some c =
    row_made c.args.row c.args.items.now (sym (rw c.in-Some.is at c.rewrite.ensures.known))
    (c.made.ensures (worked (names_in c.args.scene.now.names.now) c.args.row c.args.items.now) (rw c.in-Some.is at c.rewrite.ensures.value))

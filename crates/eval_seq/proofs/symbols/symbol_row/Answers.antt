use Rattle.std.proofs.Common.{rules, sym, ap, ◌∙◌, ◌≡◌}
use Rattle.std.specs.Prelude.{pos}
use Rattle.std.proofs.lemmas.Int.{ints}
use Rattle.expr_tree.specs.Tree.{integer}
use Rattle.eval_seq.proofs.SymbolLaws.{row_kernel, row_count, row_count_out, row_none}
use Rattle.eval_seq.proofs.symbols.symbol_row.Goals as goal

pub returns-then-is_known : goal.returns-then-is_known
returns-then-is_known g c = λ n. let v : c.int.result ≡ integer (pos c.kernel_number.result) = search (rules, ints) in
    row_kernel c.args.symbol (sym c.is_known.ensures ∙ c.if-is_known.true) (v ∙ ap (λ k. integer (pos k)) c.kernel_number.ensures)

pub returns-in-Ok : goal.returns-in-Ok
returns-in-Ok g c = λ n. row_count c.args.symbol (sym c.is_known.ensures ∙ c.if-is_known.false) (sym c.is_known-2.ensures ∙ c.if-is_known-2.true) c.in-Ok.ensures.called

pub returns-in-Err : goal.returns-in-Err
returns-in-Err g c = λ n. row_count_out c.args.symbol (sym c.is_known.ensures ∙ c.if-is_known.false) (sym c.is_known-2.ensures ∙ c.if-is_known-2.true) c.in-Err.ensures.called

pub returns : goal.returns
returns g c = λ n. row_none c.args.symbol (sym c.is_known.ensures ∙ c.if-is_known.false) (sym c.is_known-2.ensures ∙ c.if-is_known-2.false)

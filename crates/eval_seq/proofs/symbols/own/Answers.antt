use Rattle.std.proofs.Common.{rules, sym, ap, Some, ◌∙◌}
use Rattle.std.specs.Option.{option_copied}
use Rattle.expr_tree.specs.Tree.{symbol}
use Rattle.semantics.specs.Definitions.{definition_of}
use Rattle.builtin_names.specs.Named.{names_in}
use Rattle.eval_seq.proofs.SymbolLaws.{pass_lost_or, pass_sent, pass_own_some, pass_own_none}
use Rattle.eval_seq.proofs.symbols.own.Goals as goal

pub returns-then-marks : goal.returns-then-marks
returns-then-marks g c = λ n. pass_sent c.send_access.result (rw c.if-marks.true at c.marks.ensures.marks) (rw c.symbol-access.ensures at c.send_access.ensures.stepped n)

pub returns-in_err-copy : goal.returns-in_err-copy
returns-in_err-copy g c = λ n. pass_lost_or (symbol c.args.symbol) c.from_residual.result c.from_residual.ensures.1

pub returns-in-Some : goal.returns-in-Some
returns-in-Some g c = λ n. pass_own_some (rw c.if-marks.false at c.marks.ensures.marks) (sym (ap (λ k. (definition_of (names_in c.args.scene.now.names.now) k.defs c.args.symbol).own) c.marks.ensures.kept) ∙ sym (c.own_of.ensures (names_in c.args.scene.now.names.now)) ∙ (ap option_copied c.in-Some.is ∙ ap Some (sym c.in_ok-copy.ensures)))

pub returns : goal.returns
returns g c = λ n. pass_own_none (rw c.if-marks.false at c.marks.ensures.marks) (sym (ap (λ k. (definition_of (names_in c.args.scene.now.names.now) k.defs c.args.symbol).own) c.marks.ensures.kept) ∙ sym (c.own_of.ensures (names_in c.args.scene.now.names.now)) ∙ search rules) (c.symbol_row.ensures n)

use Rattle.std.proofs.Common.{rules, refl}
use Rattle.expr_tree.specs.declared.built.Built.TheVariants as bu
use Rattle.sum_forms.proofs.Lists.{part_too_large}
use Rattle.sum_forms.proofs.terms.Terms.with.Goals as goal

pub returns-in-Err-TooLarge : goal.returns-in-Err-TooLarge
returns-in-Err-TooLarge c ts t plans assembled = part_too_large ts t c.args.term bu.TooLarge (search rules) refl assembled

use Rattle.std.proofs.Common.{refl, map}
use Rattle.syntax.specs.Signs.{signs, sign_text}
use Rattle.case_table.proofs.Names.{distinct}
use Rattle.case_table.proofs.laws.operators_differ.Goals as goal

pub returns : goal.returns
returns c = record { law = distinct (map sign_text signs) refl }

use Rattle.std.proofs.Common.{refl, map}
use Rattle.semantics.specs.Builtin.{rows}
use Rattle.semantics.specs.Texts.{row_text}
use Rattle.case_table.proofs.Names.{distinct}
use Rattle.case_table.proofs.laws.built_in_names_differ.Goals as goal

pub returns : goal.returns
returns c = record { law = distinct (map row_text rows) refl }

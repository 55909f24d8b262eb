use Rattle.std.proofs.Common.{rules, tests, ◌∙◌, sym}
use Rattle.std.proofs.lemmas.Iterator.{YieldsList-from_slice}
use Rattle.std.proofs.lemmas.Iterator.Search.{all_from_yields_List}
use Rattle.script_text.specs.Bytes.{is_space}
use Rattle.lex_form.proofs.CellLemmas.{all_is}
use Rattle.lex_form.proofs.cut.is_blank.Goals as goal

pub returns : goal.returns
returns c =
    all_from_yields_List is_space _ _ _ c.all.ensures.ran (YieldsList-from_slice c.args.line.now cc) (λ x b q k. search (rules, tests))
    ∙ sym (all_is is_space c.args.line.now)

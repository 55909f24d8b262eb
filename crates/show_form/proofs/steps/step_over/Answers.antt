use Rattle.std.proofs.Common.{sym, ◌∙◌}
use Rattle.std.proofs.lemmas.Bool.{ltb-false}
use Rattle.script_text.specs.Spelling.{place_in}
use Rattle.show_form.proofs.Over.{wide_stops}
use Rattle.show_form.proofs.steps.step_over.Goals as goal

pub returns-in-None : goal.returns-in-None
returns-in-None c =
    wide_stops (place_in c.args.names.now.texts) c.args.stack.now c.args.mode c.args.character (ltb-false c.args.character 128 (sym c.is_ascii.ensures ∙ c.if-is_ascii.false)) (sym c.plain_text.ensures ∙ c.in-None.is)

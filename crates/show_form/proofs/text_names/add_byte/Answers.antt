use Rattle.std.proofs.Common.{sym, ◌∙◌}
use Rattle.show_form.proofs.Words.{on_ok, ended}
use Rattle.show_form.proofs.text_names.add_byte.Goals as goal

pub returns-else-is_in_name-clause-names : goal.returns-else-is_in_name-clause-names
returns-else-is_in_name-clause-names c =
    on_ok c.add_word.result _ _ c.add_word.ensures.ok
    (λ p rest. ended c.args.into.now c.add_word.new.into c.args.word.now c.replace.new.dest c.replace.result c.args.byte (sym c.is_in_name.ensures ∙ c.if-is_in_name.false) (c.replace.ensures.after ∙ c.new.ensures) c.replace.ensures.value p rest)

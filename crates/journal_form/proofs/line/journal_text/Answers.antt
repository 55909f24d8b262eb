use Rattle.std.proofs.Common.{◌≡◌, sym, ap, ◌∙◌, ◌+◌, ◌++◌, append_assoc, Some, None, option_copied, arith}
use Rattle.script_text.specs.Spelling.{by_texts}
use Rattle.journal_form.proofs.Lines.{lines_step, lines_pass, lines_behind, entry_at}
use Rattle.journal_form.proofs.line.journal_text.Goals as goal
use Rattle.journal_form.proofs.line.journal_text.Goals.{in-Some+in_ok-put_entry-in-Some, in-None}

pub loop-at-preserved : goal.loop-at-preserved
loop-at-preserved c = elim c.match-get.branch [
  | in-Some+in_ok-put_entry-in-Some w ↦
      let is : Some w.in-Some.entry.now ≡ entry_at c.args.journal.now.posted c.loop-at.at = sym (ap option_copied w.in-Some.is) ∙ c.get.ensures in
      let e = lines_step (by_texts c.args.names.now.texts) c.args.journal.now.posted c.loop-at.at _ is in
      let t = w.text-is ∙ w.in_ok-put_entry-in-Some.ensures.ok in
      let so_far = c.loop-at.invariant in
      grind (arith, append_assoc)
  | in-None w ↦
      let is : None ≡ entry_at c.args.journal.now.posted c.loop-at.at = sym (ap option_copied w.in-None.is) ∙ c.get.ensures in
      let e = lines_pass (by_texts c.args.names.now.texts) c.args.journal.now.posted c.loop-at.at is in
      ap (λ t. t ++ lines_behind (by_texts c.args.names.now.texts) (c.loop-at.at + 1) c.args.journal.now.posted) w.text-is
      ∙ ap (λ t. c.loop-at.text ++ t) (sym e)
      ∙ c.loop-at.invariant
]

use Rattle.std.proofs.Common.{List, ℕ, sym, ap, ◌∙◌}
use Rattle.std.specs.Str.{bytes_eq}
use Rattle.std.proofs.lemmas.Map.Text.{is_eq-slice_cmp}
use Rattle.read_form.proofs.signs.is_written.Goals as goal

pub returns : goal.returns
returns c = c.eq.ensures ∙ ap (λ (t : List ℕ). bytes_eq t c.args.word.now) c.as_bytes.ensures.value ∙ sym (is_eq-slice_cmp c.args.name.now c.args.word.now)

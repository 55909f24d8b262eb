use Rattle.std.proofs.Common.{true≢false, sym, ap, ◌∙◌, ℕ, List}
use Rattle.std.specs.List.{list_any}
use Rattle.std.specs.Str.{bytes_eq}
use Rattle.script_text.specs.Spelling.{spelled}
use Rattle.std.proofs.lemmas.Str.{IsUtf8-from_ascii}
use Rattle.name_table.specs.Table.{NameTable}
use Rattle.read_form.proofs.KeptNames.{is_in}
use Rattle.read_form.proofs.leaves.name_leaf.Goals as goal

pub unreachable-requires : goal.unreachable-requires
unreachable-requires c =
    let k = is_in c.args.names.now.texts (spelled c.args.word.now).base c.requires.kept in
    true≢false (
    sym k
    ∙ ap (λ (w : List ℕ). list_any (bytes_eq (spelled w).base) c.args.names.now.texts) (sym c.in-Ok.ensures.cases.0)
    ∙ ap (λ (t : NameTable). list_any (bytes_eq (spelled c.in-Ok.name.now).base) t.texts) (sym c.names.ensures.same)
    ∙ sym c.in-None.ensures.kept)

pub unreachable-requires-in-Err : goal.unreachable-requires-in-Err
unreachable-requires-in-Err c = c.in-Err.ensures.cases.0 (IsUtf8-from_ascii c.args.word.now c.requires.ascii)

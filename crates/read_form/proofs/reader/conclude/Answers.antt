use Rattle.std.proofs.Common.{sym, ap, subst, ◌∙◌}
use Rattle.std.specs.Option.{option_map}
use Rattle.script_text.specs.Spelling.{place_in}
use Rattle.builtin_names.specs.Named.{HasBuiltins, names_in}
use Rattle.phrase_form.specs.Held.{kept_in}
use Rattle.phrase_form.specs.Machine.{state_in}
use Rattle.read_form.proofs.KeptReadings.{reading_kept}
use Rattle.read_form.proofs.Runs.{ended, unended, is_reading, is_shallow, is_deep}
use Rattle.read_form.proofs.reader.conclude.Goals as goal

pub returns-in-Some-2-clause-read : goal.returns-in-Some-2-clause-read
returns-in-Some-2-clause-read c =
    let n = names_in c.args.names.now in
    let f = place_in c.args.names.now.texts in
    let end = sym c.in_ok-kept.ensures ∙ ap (option_map kept_in) c.in-Some.is in
    let read = ended n f c.args.cell.now (state_in n c.args.machine) (kept_in c.in-Some.kept) c.requires.gone c.requires.faultless end in
    is_reading n f c.args.cell.now (kept_in c.in-Some.kept).expr c.in-Some-2.e read (sym c.in_ok-e-in-Some.ensures ∙ c.in-Some-2.is)

pub returns-in-Some-2-clause-kept : goal.returns-in-Some-2-clause-kept
returns-in-Some-2-clause-kept c = reading_kept c.args.names.now c.args.cell.now c.in-Some-2.e (subst HasBuiltins c.names-rows.ensures.same c.names-rows.ensures.rows) c.requires.kept (returns-in-Some-2-clause-read c)

pub returns-in-Some-2-clause-shallow : goal.returns-in-Some-2-clause-shallow
returns-in-Some-2-clause-shallow c =
    let n = names_in c.args.names.now in
    let f = place_in c.args.names.now.texts in
    let end = sym c.in_ok-kept.ensures ∙ ap (option_map kept_in) c.in-Some.is in
    let read = ended n f c.args.cell.now (state_in n c.args.machine) (kept_in c.in-Some.kept) c.requires.gone c.requires.faultless end in
    is_shallow n f c.args.cell.now (kept_in c.in-Some.kept).expr c.in-Some-2.e read (sym c.in_ok-e-in-Some.ensures ∙ c.in-Some-2.is)

pub returns-in-None-2-clause-no : goal.returns-in-None-2-clause-no
returns-in-None-2-clause-no c =
    let n = names_in c.args.names.now in
    let f = place_in c.args.names.now.texts in
    let end = sym c.in_ok-kept.ensures ∙ ap (option_map kept_in) c.in-Some.is in
    let read = ended n f c.args.cell.now (state_in n c.args.machine) (kept_in c.in-Some.kept) c.requires.gone c.requires.faultless end in
    is_deep n f c.args.cell.now (kept_in c.in-Some.kept).expr c.requires.short read (sym c.in_ok-e-in-Some.ensures ∙ c.in-None-2.is)

pub returns-in-None-clause-no : goal.returns-in-None-clause-no
returns-in-None-clause-no c =
    let n = names_in c.args.names.now in
    let f = place_in c.args.names.now.texts in
    unended n f c.args.cell.now (state_in n c.args.machine) c.requires.gone c.requires.faultless c.requires.some (sym c.in_ok-kept.ensures ∙ ap (option_map kept_in) c.in-None.is)

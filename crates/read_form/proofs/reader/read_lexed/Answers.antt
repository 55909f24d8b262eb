use Rattle.std.proofs.Common.{sym, ap, subst, length, ◌∙◌}
use Rattle.script_text.specs.Spelling.{place_in}
use Rattle.script_text.specs.Laws.{IsKept}
use Rattle.syntax.specs.Tokens as syn
use Rattle.syntax.specs.Reads.{IsOffset}
use Rattle.builtin_names.specs.Named.{HasBuiltins, names_in}
use Rattle.lex_form.specs.Lexes.{fault_in, fault_of}
use Rattle.phrase_form.specs.Machine.{state_in}
use Rattle.read_form.proofs.KeptReadings.{null_kept}
use Rattle.read_form.proofs.Runs.{at_fault}
use Rattle.read_form.proofs.reader.read_lexed.Goals as goal

pub returns-in-Some-clause-no : goal.returns-in-Some-clause-no
returns-in-Some-clause-no c =
    let n = names_in c.args.names.now in
    let f = place_in c.args.names.now.texts in
    let fault = sym (ap (λ (l : syn.Lexed). l.fault) c.requires.lexed) ∙ ap fault_in c.in-Some.is in
    subst (IsOffset n f c.args.cell.now) (sym c.place_of.ensures) (at_fault n f c.args.cell.now (state_in n c.in_ok-machine.machine) (fault_of c.in-Some.fault) c.in_ok-machine.ensures.gone fault)

pub returns-then-is_empty-clause-kept : goal.returns-then-is_empty-clause-kept
returns-then-is_empty-clause-kept c = subst (IsKept (length c.args.names.now.texts)) (sym c.name.ensures) (null_kept c.args.names.now (subst HasBuiltins c.names-rows.ensures.same c.names-rows.ensures.rows))

use Rattle.std.proofs.Common.{sym, ◌∙◌, subst, length, Some, None}
use Rattle.script_text.specs.Laws.{IsKept}
use Rattle.script_text.specs.Spelling.{by_texts, place_in}
use Rattle.semantics.specs.declared.builtin.Builtin.{Builtin}
use Rattle.builtin_names.specs.Named.{HasBuiltins, names_in}
use Rattle.laws_bases.specs.Kept.{IsKeptValue}
use Rattle.script_run.proofs.LineLemmas.{name_kept}
use Rattle.script_run.proofs.TranscriptLemmas.{read_line, deep_line, unread_line, no_is}
use Rattle.script_run.proofs.cell.run_cell.Goals as goal

pub out_line-requires : goal.out_line-requires
out_line-requires c = record { kept = subst (IsKeptValue (length c.args.names.now.texts)) c.in-Some.is c.in_ok-value-in-Ok.ensures.kept }

pub out_line-requires-in-Err-TooDeep : goal.out_line-requires-in-Err-TooDeep
out_line-requires-in-Err-TooDeep c =
    let table = c.args.names.now in
    let rows : HasBuiltins table = subst HasBuiltins c.names-rows.ensures.same c.names-rows.ensures.rows in
    record { kept = subst (IsKept (length table.texts)) (sym c.name.ensures) (name_kept table rows Builtin.Aborted) }

pub returns-in-Some-clause-prints : goal.returns-in-Some-clause-prints
returns-in-Some-clause-prints c =
    let table = c.args.names.now in
    read_line (by_texts table.texts) (names_in table) (place_in table.texts) c.args.steps c.out_line.result c.args.state.now.defs c.value_of.new.state.defs c.args.n c.args.cell.now c.in-Ok.e
    (Some c.in-Some.value) c.in-Ok.ensures.read (sym c.in-Some.is ∙ c.in_ok-value-in-Ok.ensures.value) c.in_ok-value-in-Ok.ensures.definitions c.out_line.ensures

pub returns-in-None-clause-prints : goal.returns-in-None-clause-prints
returns-in-None-clause-prints c =
    let table = c.args.names.now in
    read_line (by_texts table.texts) (names_in table) (place_in table.texts) c.args.steps c.unbuilt_line.result c.args.state.now.defs c.value_of.new.state.defs c.args.n c.args.cell.now c.in-Ok.e
    None c.in-Ok.ensures.read (sym c.in-None.is ∙ c.in_ok-value-in-Ok.ensures.value) c.in_ok-value-in-Ok.ensures.definitions c.unbuilt_line.ensures

pub returns-in-Err-Syntax-clause-prints : goal.returns-in-Err-Syntax-clause-prints
returns-in-Err-Syntax-clause-prints c =
    let table = c.args.names.now in
    let no = no_is table c.args.cell.now c.read_lexed.result c.in-Err-Syntax.field-0 _ c.read_lexed.ensures.no c.in-Err-Syntax.is c.in-Err-Syntax.field-0-is in
    unread_line (by_texts table.texts) (names_in table) (place_in table.texts) c.args.steps c.syntax_line.result c.args.state.now.defs c.args.n c.args.cell.now c.in-Err-Syntax.place no
    c.syntax_line.ensures

pub returns-in-Err-TooDeep-clause-prints : goal.returns-in-Err-TooDeep-clause-prints
returns-in-Err-TooDeep-clause-prints c =
    let table = c.args.names.now in
    let no = no_is table c.args.cell.now c.read_lexed.result c.in-Err-TooDeep.field-0 _ c.read_lexed.ensures.no c.in-Err-TooDeep.is c.in-Err-TooDeep.field-0-is in
    deep_line (by_texts table.texts) (names_in table) (place_in table.texts) c.args.steps c.out_line-in-Err-TooDeep-2.result c.args.state.now.defs c.args.n c.args.cell.now c.name.result no
    c.name.ensures c.out_line-in-Err-TooDeep-2.ensures

use Rattle.std.proofs.Common.{Some, sym, ap, ◌∙◌, subst, length}
use Rattle.script_text.specs.Laws.{IsKept}
use Rattle.semantics.specs.declared.builtin.Builtin.{Builtin}
use Rattle.builtin_names.specs.Named.{HasBuiltins, names_in}
use Rattle.machine_steps.specs.Setup.{state_of}
use Rattle.sequential_transcript.specs.Transcript.{limits_of, value_in}
use Rattle.script_run.proofs.EvalLemmas.{ended_by_value, ended_by_stop, ended_by_throw, shown_value, shown_kept, shown_besides}
use Rattle.script_run.proofs.LineLemmas.{name_kept}
use Rattle.script_run.proofs.value.evaluated.Goals as goal

pub returns-in-Value-clause-value : goal.returns-in-Value-clause-value
returns-in-Value-clause-value c =
    let told = c.eval-outcome.ensures.explained in
    let end = ended_by_value c.args.names.now (subst HasBuiltins c.names-rows.ensures.same c.names-rows.ensures.rows) c.args.steps c.limits_of-limits.result c.limits_of-limits.ensures c.args.state.now.defs c.args.e.now told.0 c.eval-outcome.result c.in-Value.value
    (state_of c.eval-outcome.new.state) c.requires.kept_before c.requires.kept c.in-Value.is told.2 c.if-state.false in
    sym (ap (value_in (names_in c.args.names.now) (limits_of c.args.steps)) end.outcome)

pub returns-in-Value-clause-definitions : goal.returns-in-Value-clause-definitions
returns-in-Value-clause-definitions c =
    let told = c.eval-outcome.ensures.explained in
    let end = ended_by_value c.args.names.now (subst HasBuiltins c.names-rows.ensures.same c.names-rows.ensures.rows) c.args.steps c.limits_of-limits.result c.limits_of-limits.ensures c.args.state.now.defs c.args.e.now told.0 c.eval-outcome.result c.in-Value.value
    (state_of c.eval-outcome.new.state) c.requires.kept_before c.requires.kept c.in-Value.is told.2 c.if-state.false in
    sym end.definitions

pub returns-in-Value-clause-kept : goal.returns-in-Value-clause-kept
returns-in-Value-clause-kept c =
    let told = c.eval-outcome.ensures.explained in
    let end = ended_by_value c.args.names.now (subst HasBuiltins c.names-rows.ensures.same c.names-rows.ensures.rows) c.args.steps c.limits_of-limits.result c.limits_of-limits.ensures c.args.state.now.defs c.args.e.now told.0 c.eval-outcome.result c.in-Value.value
    (state_of c.eval-outcome.new.state) c.requires.kept_before c.requires.kept c.in-Value.is told.2 c.if-state.false in
    end.kept

pub returns-in-Value-clause-kept_after : goal.returns-in-Value-clause-kept_after
returns-in-Value-clause-kept_after c =
    let told = c.eval-outcome.ensures.explained in
    let end = ended_by_value c.args.names.now (subst HasBuiltins c.names-rows.ensures.same c.names-rows.ensures.rows) c.args.steps c.limits_of-limits.result c.limits_of-limits.ensures c.args.state.now.defs c.args.e.now told.0 c.eval-outcome.result c.in-Value.value
    (state_of c.eval-outcome.new.state) c.requires.kept_before c.requires.kept c.in-Value.is told.2 c.if-state.false in
    end.kept_after

pub returns-in-Stopped-clause-value : goal.returns-in-Stopped-clause-value
returns-in-Stopped-clause-value c =
    let told = c.eval-outcome.ensures.explained in
    let end = ended_by_stop c.args.names.now (subst HasBuiltins c.names-rows.ensures.same c.names-rows.ensures.rows) c.args.steps c.limits_of-limits.result c.limits_of-limits.ensures c.args.state.now.defs c.args.e.now told.0 c.eval-outcome.result c.in-Stopped.field-0
    (state_of c.eval-outcome.new.state) c.requires.kept_before c.requires.kept c.in-Stopped.is told.2 c.if-state.false in
    ap Some c.name.ensures ∙ sym (ap (value_in (names_in c.args.names.now) (limits_of c.args.steps)) end.outcome)

pub returns-in-Stopped-clause-definitions : goal.returns-in-Stopped-clause-definitions
returns-in-Stopped-clause-definitions c =
    let told = c.eval-outcome.ensures.explained in
    let end = ended_by_stop c.args.names.now (subst HasBuiltins c.names-rows.ensures.same c.names-rows.ensures.rows) c.args.steps c.limits_of-limits.result c.limits_of-limits.ensures c.args.state.now.defs c.args.e.now told.0 c.eval-outcome.result c.in-Stopped.field-0
    (state_of c.eval-outcome.new.state) c.requires.kept_before c.requires.kept c.in-Stopped.is told.2 c.if-state.false in
    sym end.definitions

pub returns-in-Stopped-clause-kept : goal.returns-in-Stopped-clause-kept
returns-in-Stopped-clause-kept c =
    let table = c.args.names.now in
    subst (IsKept (length table.texts)) (sym c.name.ensures) (name_kept table (subst HasBuiltins c.names-rows.ensures.same c.names-rows.ensures.rows) Builtin.Aborted)

pub returns-in-Stopped-clause-kept_after : goal.returns-in-Stopped-clause-kept_after
returns-in-Stopped-clause-kept_after c =
    let told = c.eval-outcome.ensures.explained in
    let end = ended_by_stop c.args.names.now (subst HasBuiltins c.names-rows.ensures.same c.names-rows.ensures.rows) c.args.steps c.limits_of-limits.result c.limits_of-limits.ensures c.args.state.now.defs c.args.e.now told.0 c.eval-outcome.result c.in-Stopped.field-0
    (state_of c.eval-outcome.new.state) c.requires.kept_before c.requires.kept c.in-Stopped.is told.2 c.if-state.false in
    end.kept_after

pub returns-in-Thrown-clause-value : goal.returns-in-Thrown-clause-value
returns-in-Thrown-clause-value c =
    let told = c.eval-outcome.ensures.explained in
    let end = ended_by_throw c.args.names.now (subst HasBuiltins c.names-rows.ensures.same c.names-rows.ensures.rows) c.args.steps c.limits_of-limits.result c.limits_of-limits.ensures c.args.state.now.defs c.args.e.now told.0 c.eval-outcome.result c.in-Thrown.value
    (state_of c.eval-outcome.new.state) c.requires.kept_before c.requires.kept c.in-Thrown.is told.2 c.if-state.false in
    shown_value c.shown_throw.result (names_in c.args.names.now) c.args.steps c.limits_of-limits.result _ c.in-Thrown.value c.limits_of-limits.ensures end.outcome c.shown_throw.ensures

pub returns-in-Thrown-clause-definitions : goal.returns-in-Thrown-clause-definitions
returns-in-Thrown-clause-definitions c =
    let told = c.eval-outcome.ensures.explained in
    let end = ended_by_throw c.args.names.now (subst HasBuiltins c.names-rows.ensures.same c.names-rows.ensures.rows) c.args.steps c.limits_of-limits.result c.limits_of-limits.ensures c.args.state.now.defs c.args.e.now told.0 c.eval-outcome.result c.in-Thrown.value
    (state_of c.eval-outcome.new.state) c.requires.kept_before c.requires.kept c.in-Thrown.is told.2 c.if-state.false in
    shown_besides c.shown_throw.result (sym end.definitions)

pub returns-in-Thrown-clause-kept : goal.returns-in-Thrown-clause-kept
returns-in-Thrown-clause-kept c =
    let told = c.eval-outcome.ensures.explained in
    let end = ended_by_throw c.args.names.now (subst HasBuiltins c.names-rows.ensures.same c.names-rows.ensures.rows) c.args.steps c.limits_of-limits.result c.limits_of-limits.ensures c.args.state.now.defs c.args.e.now told.0 c.eval-outcome.result c.in-Thrown.value
    (state_of c.eval-outcome.new.state) c.requires.kept_before c.requires.kept c.in-Thrown.is told.2 c.if-state.false in
    shown_kept c.shown_throw.result c.args.names.now (subst HasBuiltins c.names-rows.ensures.same c.names-rows.ensures.rows) c.limits_of-limits.result c.in-Thrown.value end.kept c.shown_throw.ensures

pub returns-in-Thrown-clause-kept_after : goal.returns-in-Thrown-clause-kept_after
returns-in-Thrown-clause-kept_after c =
    let told = c.eval-outcome.ensures.explained in
    let end = ended_by_throw c.args.names.now (subst HasBuiltins c.names-rows.ensures.same c.names-rows.ensures.rows) c.args.steps c.limits_of-limits.result c.limits_of-limits.ensures c.args.state.now.defs c.args.e.now told.0 c.eval-outcome.result c.in-Thrown.value
    (state_of c.eval-outcome.new.state) c.requires.kept_before c.requires.kept c.in-Thrown.is told.2 c.if-state.false in
    shown_besides c.shown_throw.result end.kept_after

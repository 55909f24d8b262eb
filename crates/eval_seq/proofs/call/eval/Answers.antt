use Rattle.std.proofs.Common.{ap, sym, ◌∙◌, is_some}
use Rattle.builtin_names.specs.Named.{names_in}
use Rattle.machine_steps.specs.Setup.{state_of}
use Rattle.eval_seq.specs.Told.{setting}
use Rattle.eval_seq.proofs.Readiness.{ends_closed, ends_mode, ends_names, ends_ready, never_throwing}
use Rattle.eval_seq.proofs.Telling.{told, came, kept_closed}
use Rattle.eval_seq.proofs.call.eval.Goals as goal

pub value_of-requires : goal.value_of-requires
value_of-requires g c = record { may = c.requires.ready; same_names = ap names_in c.requires.names; same_mode = c.requires.mode; same_open = c.requires.closed ∙ sym (ap (λ s. is_some s.open_section) c.begin.ensures) }

pub outcome_of-outcome-requires : goal.outcome_of-outcome-requires
outcome_of-outcome-requires g c = never_throwing c.value_of.result c.value_of.ensures (record { may = c.requires.ready; same_names = ap names_in c.requires.names; same_mode = c.requires.mode; same_open = c.requires.closed ∙ sym (ap (λ s. is_some s.open_section) c.begin.ensures) })

pub returns-clause-explained : goal.returns-clause-explained
returns-clause-explained g c =
    let end = c.value_of in
    rw (c.keep_use.ensures, c.outcome_of-outcome.ensures)
    (told (setting c.args.context.now c.args.limits.now) c.args.state.now.defs c.args.e.now end.result (state_of end.new.state)
    (never_throwing end.result end.ensures (record { may = c.requires.ready; same_names = ap names_in c.requires.names; same_mode = c.requires.mode; same_open = c.requires.closed ∙ sym (ap (λ s. is_some s.open_section) c.begin.ensures) }))
    (rw c.begin.ensures at end.ensures))

pub returns-clause-went : goal.returns-clause-went
returns-clause-went g c =
    let end = c.value_of in
    rw (c.keep_use.ensures, c.outcome_of-outcome.ensures)
    (came (setting c.args.context.now c.args.limits.now) c.args.state.now.defs c.args.e.now end.result (state_of end.new.state)
    (never_throwing end.result end.ensures (record { may = c.requires.ready; same_names = ap names_in c.requires.names; same_mode = c.requires.mode; same_open = c.requires.closed ∙ sym (ap (λ s. is_some s.open_section) c.begin.ensures) }))
    (rw c.begin.ensures at end.ensures))

pub returns-clause-ready : goal.returns-clause-ready
returns-clause-ready g c =
    rw c.outcome_of-outcome.ensures
    (ends_ready c.value_of.result c.value_of.ensures (record { may = c.requires.ready; same_names = ap names_in c.requires.names; same_mode = c.requires.mode; same_open = c.requires.closed ∙ sym (ap (λ s. is_some s.open_section) c.begin.ensures) }))

pub returns-clause-names : goal.returns-clause-names
returns-clause-names g c = ends_names c.value_of.ensures

pub returns-clause-mode : goal.returns-clause-mode
returns-clause-mode g c = ends_mode c.value_of.ensures

pub returns-clause-closed : goal.returns-clause-closed
returns-clause-closed g c =
    rw (c.keep_use.ensures, c.outcome_of-outcome.ensures)
    (kept_closed c.value_of.result (state_of c.value_of.new.state) (g.U.Upcall.is_open c.value_of.new.up)
    (ends_closed c.value_of.result (ap (λ s. is_some s.open_section) c.begin.ensures) c.value_of.ensures
    (record { may = c.requires.ready; same_names = ap names_in c.requires.names; same_mode = c.requires.mode; same_open = c.requires.closed ∙ sym (ap (λ s. is_some s.open_section) c.begin.ensures) })))

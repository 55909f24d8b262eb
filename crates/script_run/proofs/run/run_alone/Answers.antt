use Rattle.std.proofs.Common.{◌≡◌, sym, ◌∙◌, subst, map, Global}
use Rattle.std.specs.Prelude.{string_bytes}
use Rattle.std.specs.Str.{IsUtf8}
use Rattle.script_run.specs.Promise.{IsWhole}
use Rattle.script_run.proofs.RunLemmas.{whole_read, runs_written, complete_run}
use Rattle.script_run.proofs.run.run_alone.Goals as goal

pub returns-in-Ok-from_utf8-clause-outcome : goal.returns-in-Ok-from_utf8-clause-outcome
returns-in-Ok-from_utf8-clause-outcome g c =
    let left = g.S.Source.left c.args.source.now in
    let rest = g.S.Source.left c.read_all.new.source in
    let same : c.in-Ok-from_utf8.script.now ≡ c.in-Ok.bytes = c.in-Ok-from_utf8.ensures.cases.0 ∙ c.as_slice.ensures in
    let whole = subst (λ b. IsWhole left rest b) (sym same) (whole_read left rest (g.S.Source.faults c.args.source.now) (g.S.Source.faults c.read_all.new.source) c.in-Ok.bytes c.in-Ok.ensures.bytes) in
    let text = subst IsUtf8 (sym c.in-Ok-from_utf8.ensures.cases.0) c.in-Ok-from_utf8.ensures.cases.1 in
    let given = sym c.steps_of.ensures ∙ c.in-Some.is in
    runs_written (map (string_bytes {Z = Global}) c.args.words.now) _ _ c.in-Some.steps c.in-Ok-from_utf8.script.now c.run_script.result given whole text c.run_script.ensures.written

pub returns-in-Ok-from_utf8-clause-complete : goal.returns-in-Ok-from_utf8-clause-complete
returns-in-Ok-from_utf8-clause-complete g c =
    let left = g.S.Source.left c.args.source.now in
    let rest = g.S.Source.left c.read_all.new.source in
    let same : c.in-Ok-from_utf8.script.now ≡ c.in-Ok.bytes = c.in-Ok-from_utf8.ensures.cases.0 ∙ c.as_slice.ensures in
    let whole = subst (λ b. IsWhole left rest b) (sym same) (whole_read left rest (g.S.Source.faults c.args.source.now) (g.S.Source.faults c.read_all.new.source) c.in-Ok.bytes c.in-Ok.ensures.bytes) in
    let given = sym c.steps_of.ensures ∙ c.in-Some.is in
    complete_run (map (string_bytes {Z = Global}) c.args.words.now) left rest (g.S.Source.never_fails c.args.source.now) (g.K.Sink.takes c.args.sink.now) (g.K.Sink.held c.args.sink.now)
    (g.K.Sink.held c.run_script.new.sink) (g.K.Sink.faults c.args.sink.now) (g.K.Sink.faults c.run_script.new.sink) c.in-Some.steps c.in-Ok-from_utf8.script.now c.run_script.result given whole c.run_script.ensures.written
    c.run_script.ensures.sure

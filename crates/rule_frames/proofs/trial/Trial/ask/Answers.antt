use Rattle.std.proofs.Common.{◌≡◌, ◌∙◌, ◌<◌, ◌≤◌, ◌+◌, ◌∷◌, ap, map, drop, length, arith, Some, Ok, Err}
use Rattle.semantics.specs.InPlace.{put_in_place}
use Rattle.semantics.specs.Match.{guard_expression}
use Rattle.evaluation_steps.specs.Stopping.{Checked}
use Rattle.builtin_names.specs.Named.{names_in}
use Rattle.match_seq.specs.Goals.{guard_of}
use Rattle.rule_frames.specs.Trials.{placed, bindings_left}
use Rattle.rule_frames.proofs.Shown.{tried_halts, tried_asks, tried_yields}
use Rattle.rule_frames.proofs.Asked.{drop_at, drop_past, asked_guard, asked_none}
use Rattle.rule_frames.proofs.trial.Trial.ask.Goals as goal

pub returns-in-Ok : goal.returns-in-Ok
returns-in-Ok c = λ d.
    let names = names_in c.args.names.now in
    let t = c.args.self.now in
    let g = c.index-as_slice-self.result in
    let inside : t.at < length t.guards = omega (arith, c.len.ensures, c.if-self-len.true) in
    let here : drop t.at t.guards ≡ g ∷ drop (t.at + 1) t.guards = drop_at t.guards t.at g inside (rw c.as_slice.ensures at c.index-as_slice-self.is) in
    let q : Checked c.args.limits.now (guard_expression names t.binding (guard_of g)) (Ok c.in-Ok.asked) = rw c.in-Ok.is at c.question.ensures in
    tried_asks (guard_expression names t.binding (guard_of g)) c.in-Ok.asked c.args.turn _ _
    (λ k. asked_guard names c.args.turn t.binding (map guard_of (drop t.at t.guards)) (map guard_of (drop (t.at + 1) t.guards)) (guard_of g) (k (Some (placed names t))) (bindings_left names t k) (ap (map guard_of) here))
    q.by.0 q.by.1

pub returns-in-Err : goal.returns-in-Err
returns-in-Err c = λ d.
    let names = names_in c.args.names.now in
    let t = c.args.self.now in
    let g = c.index-as_slice-self.result in
    let inside : t.at < length t.guards = omega (arith, c.len.ensures, c.if-self-len.true) in
    let here : drop t.at t.guards ≡ g ∷ drop (t.at + 1) t.guards = drop_at t.guards t.at g inside (rw c.as_slice.ensures at c.index-as_slice-self.is) in
    let q : Checked c.args.limits.now (guard_expression names t.binding (guard_of g)) (Err c.in-Err.halt) = rw c.in-Err.is at c.question.ensures in
    tried_halts (guard_expression names t.binding (guard_of g)) _
    (λ k. asked_guard names c.args.turn t.binding (map guard_of (drop t.at t.guards)) (map guard_of (drop (t.at + 1) t.guards)) (guard_of g) (k (Some (placed names t))) (bindings_left names t k) (ap (map guard_of) here))
    q.by

pub returns : goal.returns
returns c = λ d.
    let names = names_in c.args.names.now in
    let t = c.args.self.now in
    let past : length t.guards ≤ t.at = omega (arith, c.len.ensures, c.if-self-len.false) in
    tried_yields (put_in_place names c.replace-binding.result c.in_ok-value.value) (placed names t) _ _
    (λ k. asked_none names c.args.turn t.binding (map guard_of (drop t.at t.guards)) (k (Some (placed names t))) (bindings_left names t k) (ap (map guard_of) (drop_past t.guards t.at past)))
    (λ i. put_in_place names (c.replace-binding.ensures.value i) ((c.in_ok-value.ensures ∙ c.result_of.ensures) i))

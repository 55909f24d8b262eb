use Rattle.std.proofs.Common.{◌≡◌, ◌<◌, ◌≤◌, length, get_or, arith}
use Rattle.frames_scope.proofs.Withs.{with_asks, with_ends}
use Rattle.frames_scope.proofs.with_form.With.step.Goals as goal

pub returns-then-self-len-clause-moved : goal.returns-then-self-len-clause-moved
returns-then-self-len-clause-moved c =
    λ limits names.
    let here : c.index-as_slice-self.result ≡ get_or c.take.new.self.locals c.take.new.self.place c.index-as_slice-self.result = rw c.as_slice.ensures at c.index-as_slice-self.is in
    let inside : c.take.new.self.place < length c.take.new.self.locals = omega (arith, c.len.ensures, c.if-self-len.true) in
    rw c.in_ok-question.ensures
    (with_asks limits names c.args.self.now c.take.new.self c.args.answer c.index-as_slice-self.result c.in_ok-take.ensures.done c.in_ok-take.ensures.same.0 c.in_ok-take.ensures.same.1 c.in_ok-take.ensures.same.2 inside here)

pub returns-clause-moved : goal.returns-clause-moved
returns-clause-moved c =
    λ limits names.
    let all : length c.take.new.self.locals ≤ c.take.new.self.place = omega (arith, c.len.ensures, c.if-self-len.false) in
    rw (c.replace-done.ensures.value, c.in_ok-copy.ensures)
    (with_ends limits names c.args.self.now c.take.new.self c.args.answer _ c.in_ok-take.ensures.done c.in_ok-take.ensures.same.0 c.in_ok-take.ensures.same.1 c.in_ok-take.ensures.same.2 all)

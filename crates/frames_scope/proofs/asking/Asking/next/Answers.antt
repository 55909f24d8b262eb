use Rattle.std.proofs.Common.{◌≡◌, ◌<◌, ◌+◌, length, get_or, Some, refl, ap, sym, ◌∙◌, arith}
use Rattle.frames_scope.proofs.Questions.{taken, passes_plain, asks_here, asks_done}
use Rattle.frames_scope.proofs.asking.Asking.next.Goals as goal

pub loop-self-init : goal.loop-self-init
loop-self-init c = record {
  goes_on = taken c.args.self.now c.take.new.self c.args.answer c.in_ok-take.ensures.done c.in_ok-take.ensures.same.0 c.in_ok-take.ensures.same.1 c.in_ok-take.ensures.same.2;
  quiet = c.in_ok-take.ensures.same.2;
  same = c.in_ok-take.ensures.same.0;
  later = omega (arith, c.in_ok-take.ensures.same.1);
}

pub returns-in-Some-clause-goes : goal.returns-in-Some-clause-goes
returns-in-Some-clause-goes c = record {
  by = λ k.
      let long : c.loop-self.self.place < length c.loop-self.self.locals = omega (arith, c.len.ensures, c.loop-self-test.true) in
      let here : c.index-as_slice-self.result ≡ get_or c.loop-self.self.locals c.loop-self.self.place c.index-as_slice-self.result = rw c.as_slice.ensures at c.index-as_slice-self.is in
      c.loop-self.invariant.goes_on k
      ∙ asks_here c.loop-self.self (record { locals = c.loop-self.self.locals; place = c.loop-self.self.place + 1; asked = Some c.index-as_slice-self.result.symbol; done = c.loop-self.self.done })
      c.index-as_slice-self.result c.in-Some.question c.loop-self.invariant.quiet long here (sym c.in_ok-value.ensures ∙ c.in-Some.is) refl k;
}

pub returns-in-Some-clause-falls : goal.returns-in-Some-clause-falls
returns-in-Some-clause-falls c = omega (arith, ap length c.loop-self.invariant.same, c.loop-self.invariant.later, c.len.ensures, c.loop-self-test.true)

pub loop-self-preserved : goal.loop-self-preserved
loop-self-preserved c = record {
  goes_on = λ k.
      let long : c.loop-self.self.place < length c.loop-self.self.locals = omega (arith, c.len.ensures, c.loop-self-test.true) in
      let here : c.index-as_slice-self.result ≡ get_or c.loop-self.self.locals c.loop-self.self.place c.index-as_slice-self.result = rw c.as_slice.ensures at c.index-as_slice-self.is in
      c.loop-self.invariant.goes_on k
      ∙ passes_plain c.loop-self.self (record { locals = c.loop-self.self.locals; place = c.loop-self.self.place + 1; asked = c.loop-self.self.asked; done = c.push.new.self })
      c.index-as_slice-self.result c.loop-self.invariant.quiet long here (sym c.in_ok-value.ensures ∙ c.in-None.is)
      c.loop-self.invariant.quiet refl refl c.in_ok-push-in-None.ensures.ok k;
  quiet = c.loop-self.invariant.quiet;
  same = c.loop-self.invariant.same;
  later = omega (arith, c.loop-self.invariant.later);
}

pub returns-clause-goes : goal.returns-clause-goes
returns-clause-goes c = record {
  by = λ k. c.loop-self.invariant.goes_on k ∙ asks_done c.loop-self.self c.loop-self.invariant.quiet (omega (arith, c.len.ensures, c.loop-self-test.false)) k;
}

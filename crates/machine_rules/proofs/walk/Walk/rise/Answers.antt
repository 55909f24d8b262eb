use Rattle.std.proofs.Common.{◌∙◌, ◌≤◌, Some, None, reverse, refl, arith}
use Rattle.machine_rules.specs.Weights.{levels_weight}
use Rattle.machine_rules.proofs.Rising.{rises_next, rises_end, end_weighs, rises_whole, rises_after}
use Rattle.machine_rules.proofs.walk.Walk.rise.Goals as goal

pub loop-level-init : goal.loop-level-init
loop-level-init c = record { goes = λ names k. refl; weighs = omega arith; rules_stay = refl }

pub returns-in-Some-pop : goal.returns-in-Some-pop
returns-in-Some-pop c =
    rises_after c.args.self.now c.loop-level.self _ c.args.part c.loop-level.done None c.loop-level.invariant.goes c.loop-level.invariant.weighs c.loop-level.invariant.rules_stay
    (rises_next c.loop-level.self c.pop.new.self c.in-Some.level c.loop-level.done c.in_ok-elements.elements c.in-Some.ensures c.in_ok-elements.ensures
    (record { head = c.in_ok-elements.elements.head; done = c.in_ok-elements.elements.done; rest = c.pop-in-Some.new.self }) c.in-Some-pop.place _
    c.in-Some-pop.ensures refl refl refl c.in_ok-push.ensures.ok refl)

pub loop-level-preserved : goal.loop-level-preserved
loop-level-preserved c = record {
  goes = λ names k.
      c.loop-level.invariant.goes names k
      ∙ rises_end c.loop-level.self c.pop.new.self c.in-Some.level c.loop-level.done c.in_ok-elements.elements c.in-Some.ensures c.in_ok-elements.ensures
      names k c.in_ok-done.done c.in_default-pop.ensures.0 c.in_ok-done.ensures;
  weighs =
      let less : levels_weight (reverse c.pop.new.self) ≤ levels_weight (reverse c.loop-level.self.levels) =
      end_weighs c.loop-level.self c.pop.new.self c.in-Some.level c.loop-level.done c.in_ok-elements.elements c.in-Some.ensures c.in_ok-elements.ensures in
      omega (arith, less, c.loop-level.invariant.weighs);
  rules_stay = c.loop-level.invariant.rules_stay;
}

pub returns : goal.returns
returns c =
    rises_after c.args.self.now c.loop-level.self _ c.args.part c.loop-level.done (Some c.loop-level.done) c.loop-level.invariant.goes c.loop-level.invariant.weighs c.loop-level.invariant.rules_stay
    (rises_whole c.loop-level.self _ c.loop-level.done c.in_default.ensures.0 refl)

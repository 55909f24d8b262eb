use Rattle.std.proofs.Common.{◌≡◌, ap, sym, ◌∙◌, arith, drop}
use Rattle.expr_tree.specs.Tree.{normal, trees}
use Rattle.expr_tree.specs.View.{tree_of}
use Rattle.builtin_names.specs.Named.{names_in}
use Rattle.rows_parts.proofs.Picked.{fault_in, whole_in, large_in, each_total, shallow_in}
use Rattle.rows_parts.proofs.parts.+pick.Goals as goal

pub pick_all-headed-requires : goal.pick_all-headed-requires
pick_all-headed-requires t c =
    let shape : normal c.in-Normal.head.value (trees c.in-Normal.field-1) ≡ c.args.e.now = sym (ap tree_of c.in-Normal.is) ∙ c.node.ensures in
    let below = shallow_in (names_in c.args.names.now) (drop c.args.from c.args.indices.now) c.args.numbers.now c.in-Ok-Some.parts c.args.e.now c.in-Normal.head.value (trees c.in-Normal.field-1) c.in-Ok-Some.field-0 c.pick_each.result
    shape c.in-Ok-Some.is c.in-Ok-Some.field-0-is c.pick_each.ensures in
    grind (arith, below, c.deref.ensures, c.depth-shallow.ensures.value, c.depth-shallow.ensures.within)

pub pick_each-returns-in-Err : goal.pick_each-returns-in-Err
pick_each-returns-in-Err t c =
    fault_in (names_in c.args.names.now) (drop c.args.from c.args.indices.now) c.args.e.now c.args.numbers.now c.loop-number.number-index c.number-item.result c.loop-number.made c.in-Err.fault c.pick_at.result
    c.loop-number.invariant.whole c.loop-number-test.true c.number-item.is c.in-Err.is c.pick_at.ensures

pub pick_each-returns-then-nodes-gt-MAX_SIZE : goal.pick_each-returns-then-nodes-gt-MAX_SIZE
pick_each-returns-then-nodes-gt-MAX_SIZE t c =
    large_in (names_in c.args.names.now) (drop c.args.from c.args.indices.now) c.args.e.now c.args.numbers.now c.loop-number.number-index c.number-item.result c.in-Ok-Some.part c.loop-number.made c.loop-number.nodes c.size-nodes.result
    c.in-Ok-Some.field-0 c.pick_at.result c.loop-number.invariant.whole c.loop-number-test.true c.number-item.is c.in-Ok-Some.is c.in-Ok-Some.field-0-is c.pick_at.ensures c.loop-number.invariant.total c.size-nodes.ensures.value
    c.if-nodes-gt-MAX_SIZE.true

pub pick_each-loop-number-preserved : goal.pick_each-loop-number-preserved
pick_each-loop-number-preserved t c = record {
  whole =
      whole_in (names_in c.args.names.now) (drop c.args.from c.args.indices.now) c.args.e.now c.args.numbers.now c.loop-number.number-index c.number-item.result c.in-Ok-Some.part c.loop-number.made c.push.new.self
      c.in-Ok-Some.field-0 c.pick_at.result c.in_ok-push.ensures.ok c.loop-number.invariant.whole c.loop-number-test.true c.number-item.is c.in-Ok-Some.is c.in-Ok-Some.field-0-is c.pick_at.ensures;
  total = each_total c.loop-number.made c.push.new.self c.in-Ok-Some.part c.loop-number.nodes c.size-nodes.result c.in_ok-push.ensures.ok c.loop-number.invariant.total c.size-nodes.ensures.value;
  small = c.if-nodes-gt-MAX_SIZE.false;
}

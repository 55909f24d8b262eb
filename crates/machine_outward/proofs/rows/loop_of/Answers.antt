use Rattle.std.proofs.Common.{◌∙◌, sym, ap, subst}
use Rattle.machine_outward.specs.Placing.{names_at}
use Rattle.machine_outward.specs.LoopShapes.{IsSplit}
use Rattle.machine_outward.proofs.Shaping.{rest_of}
use Rattle.machine_outward.proofs.Looping.{begins}
use Rattle.machine_outward.proofs.rows.loop_of.Goals as goal

pub returns : goal.returns
returns c = record {
  by = λ stay.
      begins (names_at c.args.place.now) c.args.form c.args.items.now c.body-item.result c.iterator-item.result c.as_slice.result.now c.in-Some-shape_of.shape.symbol c.in-Some-shape_of.shape.parts.now c.in_ok-of.field-0 c.new.result c.in_ok-copy.field-0 c.in_ok-split.split stay
      c.in-len2-up.len_at_least c.body-item.is c.iterator-item.is c.in-Some.ensures.0 (c.as_slice.ensures ∙ c.in-Some.ensures.1) c.in-Some-shape_of.ensures.by c.in_ok-of.ensures c.new.ensures c.in_ok-copy.ensures (subst (λ es. IsSplit (names_at c.args.place.now) es c.in_ok-split.split) (rest_of 2 c.args.items.now) c.in_ok-split.ensures);
}

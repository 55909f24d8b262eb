use Rattle.std.proofs.Common.{◌≡◌, [], ◌∷◌, ◌++◌, ◌-◌, ◌≤◌, length, map, take, drop, sym, ◌∙◌, arith}
use Rattle.expr_tree.specs.Tree.{call}
use Rattle.expr_tree.proofs.Trees.{elements-trees}
use Rattle.rows_parts.specs.Cut.{cut}
use Rattle.rows_parts.proofs.Cuts.{cut_joined, cut_sizes, cut_depths, cut_all}
use Rattle.rows_parts.proofs.pieces.pieces.Goals as goal

pub loop-place-preserved : goal.loop-place-preserved
loop-place-preserved c =
    let h = c.args.head.now in
    let es = c.args.items.now in
    let place = c.loop-place.place in
    let n = c.args.length in
    let some = c.requires in
    let inside = c.loop-place.invariant.inside in
    let fits : n ≤ length es - place = c.loop-place-test.true in
    let piece : c.in_ok-piece.piece ≡ take n (drop place es) = grind (arith, c.in_ok-piece.ensures) in
    let copied : c.in_ok-copy.field-0 ≡ h = c.in_ok-copy.ensures in
    let made : c.in_ok-normal.field-0 ≡ call c.in_ok-copy.field-0 c.in_ok-piece.piece = c.in_ok-normal.ensures.0 in
    let pushed : c.push.new.self ≡ c.loop-place.made ++ c.in_ok-normal.field-0 ∷ [] = c.in_ok-push.ensures.ok in
    record {
      inside = omega (arith, fits, inside);
      joined =
          cut_joined h es place n c.in_ok-normal.field-0 c.loop-place.made c.push.new.self (map (call h) (cut n 0 es)) some inside fits pushed (made ∙ (λ i. call (copied i) (piece i)))
          c.loop-place.invariant.joined;
      no_larger = omega (arith, cut_sizes h es place n some inside fits, c.loop-place.invariant.no_larger);
      no_deeper = omega (arith, cut_depths h es place n some inside fits, c.loop-place.invariant.no_deeper);
    }

pub returns : goal.returns
returns c =
    let whole = map (call c.args.head.now) (cut c.args.length 0 c.args.items.now) in
    cut_all c.args.head.now c.args.items.now c.loop-place.place c.args.length c.loop-place.made whole c.loop-place-test.false c.loop-place.invariant.joined ∙ sym (elements-trees whole)

use Rattle.std.proofs.Common.{◌≡◌, [], ◌∷◌, ◌++◌, map, ap, sym, ◌∙◌, arith}
use Rattle.expr_tree.proofs.Trees.{elements-trees}
use Rattle.semantics.specs.declared.builtin.Builtin.{Builtin}
use Rattle.semantics.specs.Names.{items_of, make}
use Rattle.semantics.specs.Lists.{column, columns}
use Rattle.builtin_names.specs.Named.{names_in}
use Rattle.rows_parts.proofs.Columns.{columns_joined, columns_sizes, columns_depths, columns_all}
use Rattle.rows_parts.proofs.transposed.columns.Goals as goal

pub loop-place-preserved : goal.loop-place-preserved
loop-place-preserved c =
    let names = names_in c.args.names.now in
    let rs = map items_of c.args.rows.now in
    let place = c.loop-place.place in
    let n = c.args.width in
    let inside = c.loop-place-test.true in
    let items : c.in_ok-items.items ≡ column place rs = c.in_ok-items.ensures in
    let made : c.in_ok-make.field-0 ≡ make names Builtin.List c.in_ok-items.items = c.in_ok-make.ensures.0 in
    let pushed : c.push.new.self ≡ c.loop-place.made ++ c.in_ok-make.field-0 ∷ [] = c.in_ok-push.ensures.ok in
    record {
      joined =
          columns_joined names place n rs c.in_ok-make.field-0 c.loop-place.made c.push.new.self (columns names 0 n rs) inside pushed (made ∙ ap (make names Builtin.List) items) c.loop-place.invariant.joined;
      no_larger = omega (arith, columns_sizes names place n rs inside, c.loop-place.invariant.no_larger);
      no_deeper = omega (arith, columns_depths names place n rs inside, c.loop-place.invariant.no_deeper);
    }

pub returns : goal.returns
returns c =
    let whole = columns (names_in c.args.names.now) 0 c.args.width (map items_of c.args.rows.now) in
    columns_all (names_in c.args.names.now) c.loop-place.place c.args.width (map items_of c.args.rows.now) c.loop-place.made whole c.loop-place-test.false c.loop-place.invariant.joined ∙ sym (elements-trees whole)

use Rattle.std.proofs.Common.{◌∙◌, sym, ap, ◌<◌, ◌++◌, [], ◌∷◌, map, take, arith}
use Rattle.std.proofs.lemmas.List.{get_or-map, take_more}
use Rattle.semantics.specs.declared.builtin.Builtin.{Builtin}
use Rattle.semantics.specs.Builtin.{rows, row_count}
use Rattle.semantics.specs.Texts.{row_text}
use Rattle.builtin_names.proofs.table.row_names.Goals as goal

pub loop-place-preserved : goal.loop-place-preserved
loop-place-preserved c =
    let place = c.loop-place.place in
    let within : place < row_count = omega (arith, c.loop-place-test.true) in
    let names = map row_text rows in
    c.in_ok-push.ensures.ok
    ∙ ap (λ ts. ts ++ (c.in_ok-of.field-0 ∷ [])) c.loop-place.invariant
    ∙ ap (λ t. take place names ++ (t ∷ [])) (c.in_ok-of.ensures ∙ c.name_of.ensures ∙ ap row_text c.row_of_place.ensures ∙ sym (get_or-map row_text rows place Builtin.Plus [] within))
    ∙ sym (take_more names place [] within)

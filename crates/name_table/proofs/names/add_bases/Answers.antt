use Rattle.std.proofs.Common.{◌≡◌, ◌∙◌, ap, ◌<◌, length, get_or, true, string_bytes, arith}
use Rattle.std.proofs.lemmas.Map.Text.{hash_set_updates_text}
use Rattle.indexmap.specs.IndexSet.{contains_text}
use Rattle.name_table.proofs.Adding.{base_of, added}
use Rattle.name_table.proofs.names.add_bases.Goals as goal

pub loop-name-preserved : goal.loop-name-preserved
loop-name-preserved c =
    let idx = c.loop-name.name-index in
    let d = c.name-item.result in
    let within : idx < length c.args.names.now = omega (arith, c.loop-name-test.true, ap length c.as_slice-name-items.ensures) in
    let base : c.read_name.result.base.now ≡ base_of (get_or c.args.names.now idx d) =
    c.read_name.ensures.base ∙ ap base_of c.as_str.ensures ∙ ap base_of c.name-item.is ∙ ap (λ ts. base_of (get_or ts idx d)) c.as_slice-name-items.ensures in
    record {
      few = grind (arith, c.in_ok-insert.ensures.len, c.loop-name.invariant.few);
      bases = λ t.
          hash_set_updates_text (string_bytes c.in_ok-from_str.field-0) c.loop-name.set c.insert.new.self true c.in_ok-insert.ensures.updates t
          ∙ added t (string_bytes c.in_ok-from_str.field-0) (contains_text c.args.set.now t) (contains_text c.loop-name.set t) c.args.names.now idx d within (c.in_ok-from_str.ensures.ok ∙ base) (c.loop-name.invariant.bases t);
    }

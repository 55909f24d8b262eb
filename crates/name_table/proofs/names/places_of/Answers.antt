use Rattle.std.proofs.Common.{◌≡◌, ◌∙◌, sym, ap, ◌<◌, ◌++◌, [], ◌∷◌, length, get_or, map, take, true, true≢false, string_bytes, arith}
use Rattle.std.specs.List.{list_any}
use Rattle.std.specs.Str.{bytes_eq}
use Rattle.script_text.specs.Spelling.{place_in}
use Rattle.name_table.specs.Table.{places}
use Rattle.name_table.proofs.Adding.{base_of, has_own, place_at, more_places}
use Rattle.name_table.proofs.names.places_of.Goals as goal

pub unreachable-requires : goal.unreachable-requires
unreachable-requires c =
    let idx = c.loop-name.name-index in
    let d = c.name-item.result in
    let within : idx < length c.args.names.now = omega (arith, c.loop-name-test.true, ap length c.as_slice-name-items.ensures) in
    let base : c.read_name.result.base.now ≡ base_of (get_or c.args.names.now idx d) =
    c.read_name.ensures.base ∙ ap base_of c.as_str.ensures ∙ ap base_of c.name-item.is ∙ ap (λ ts. base_of (get_or ts idx d)) c.as_slice-name-items.ensures in
    let own : list_any (bytes_eq c.read_name.result.base.now) (map base_of c.args.names.now) ≡ true =
    ap (λ b. list_any (bytes_eq b) (map base_of c.args.names.now)) base ∙ has_own c.args.names.now idx d within in
    true≢false (sym (c.requires.kept c.read_name.result.base.now own) ∙ sym c.in-None.ensures.found)

pub loop-name-preserved : goal.loop-name-preserved
loop-name-preserved c =
    let idx = c.loop-name.name-index in
    let d = c.name-item.result in
    let within : idx < length c.args.names.now = omega (arith, c.loop-name-test.true, ap length c.as_slice-name-items.ensures) in
    let base : c.read_name.result.base.now ≡ base_of (get_or c.args.names.now idx d) =
    c.read_name.ensures.base ∙ ap base_of c.as_str.ensures ∙ ap base_of c.name-item.is ∙ ap (λ ts. base_of (get_or ts idx d)) c.as_slice-name-items.ensures in
    let texts = map string_bytes c.args.set.now.keys in
    let placed : c.in-Some.place ≡ place_in texts (base_of (get_or c.args.names.now idx d)) =
    sym (place_at string_bytes c.args.set.now.keys c.read_name.result.base.now c.in-Some.place (sym c.in-Some.ensures.index)) ∙ ap (place_in texts) base in
    c.in_ok-push-in-Some.ensures.items
    ∙ ap (λ ps. ps ++ (c.in-Some.place ∷ [])) c.loop-name.invariant
    ∙ ap (λ p. places texts (take idx c.args.names.now) ++ (p ∷ [])) placed
    ∙ sym (more_places texts c.args.names.now idx d within)

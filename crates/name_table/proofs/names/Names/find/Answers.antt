use Rattle.std.proofs.Common.{◌∙◌, sym, ap, map, string_bytes}
use Rattle.std.specs.List.{list_any}
use Rattle.std.specs.Str.{bytes_eq}
use Rattle.script_text.specs.Spelling.{place_in}
use Rattle.name_table.proofs.Adding.{place_at, has_at}
use Rattle.name_table.proofs.names.Names.find.Goals as goal

pub returns-in-Some-clause-some : goal.returns-in-Some-clause-some
returns-in-Some-clause-some c =
    let keys = c.self.inside.set.keys in
    let placed = sym (place_at string_bytes keys c.read_name-name.result.base.now c.in-Some.place (sym c.in-Some.ensures.index)) ∙ ap (place_in (map string_bytes keys)) c.read_name-name.ensures.base in
    rw (← c.self.view_is) (λ i. record { base = placed i; number = c.read_name-name.ensures.number i })

pub returns-in-Some-clause-kept : goal.returns-in-Some-clause-kept
returns-in-Some-clause-kept c =
    let keys = c.self.inside.set.keys in
    rw (← c.self.view_is) (c.in-Some.ensures.found ∙ sym (has_at string_bytes keys c.read_name-name.result.base.now) ∙ ap (λ b. list_any (bytes_eq b) (map string_bytes keys)) c.read_name-name.ensures.base)

pub returns-in-None-clause-kept : goal.returns-in-None-clause-kept
returns-in-None-clause-kept c =
    let keys = c.self.inside.set.keys in
    rw (← c.self.view_is) (c.in-None.ensures.found ∙ sym (has_at string_bytes keys c.read_name-name.result.base.now) ∙ ap (λ b. list_any (bytes_eq b) (map string_bytes keys)) c.read_name-name.ensures.base)

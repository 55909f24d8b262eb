use Rattle.std.proofs.Common.{sym, ◌∙◌, rules, tests, map}
use Rattle.std.specs.Str.{bytes_eq}
use Rattle.std.proofs.lemmas.List.{length-map}
use Rattle.std.proofs.lemmas.Iterator.{YieldsList-from_slice}
use Rattle.std.proofs.lemmas.Iterator.Search.{position_from_yields_List}
use Rattle.case_table.specs.declared.table.Row.{Row}
use Rattle.case_table.specs.Entries.{Entry, entry, entries}
use Rattle.case_table.proofs.Names.{place_by_names, place_is}
use Rattle.case_table.proofs.table.CaseTable.find.Goals as goal

pub returns : goal.returns
returns c =
    let rows = c.args.self.now.rows.now in
    let name = c.args.name.now in
    let found = position_from_yields_List (λ (r : Row). bytes_eq r.name.now name) _ _ c.position.result c.position.ensures.ran (YieldsList-from_slice _ c.iter.ensures.rest) (λ x b q k. search (rules, tests)) in
    place_is name (map (λ (e : Entry). e.name) (entries rows)) _ _ c.position.result
    (place_by_names entry (λ (e : Entry). e.name) name rows)
    (sym (length-map (entries rows) (λ (e : Entry). e.name) ∙ length-map rows entry)) found

use Rattle.std.proofs.Common.{◌≡◌, sym, ap, subst, ◌∙◌, OnOk, true}
use Rattle.builtin_names.specs.Named.{names_in}
use Rattle.dist_bundle.specs.Search.{Search}
use Rattle.dist_bundle.proofs.Rows.{table_new}
use Rattle.dist_bundle.proofs.search.Search.follow_table.Goals as goal

pub returns : goal.returns
returns c =
    let opened : Search → Search = λ x. record x { table = true } in
    subst (λ x. OnOk c.follow_all.result (c.follow_all.new.self ≡ x))
    (table_new (names_in c.args.names.now) c.args.defs.now c.args.self.now _ c.as_slice.result.now
    (sym (ap (λ x. x.table) c.self.view_is) ∙ c.if-self.false)
    (c.as_slice.ensures ∙ c.in_ok-symbols.ensures)
    (ap opened c.self.view_is))
    c.follow_all.ensures

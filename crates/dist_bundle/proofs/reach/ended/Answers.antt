use Rattle.std.proofs.Common.{sym, ap, subst, ◌∙◌, ◌<◌}
use Rattle.journal.specs.Closure.{closure}
use Rattle.laws_journal.specs.Symbols.{Ascends}
use Rattle.builtin_names.specs.Named.{names_in}
use Rattle.dist_bundle.specs.Search.{found, turn}
use Rattle.dist_bundle.proofs.Searched.{Searching, weight, begun_search, turn_keeps, turn_less, search_ends}
use Rattle.dist_bundle.proofs.reach.ended.Goals as goal

pub loop-symbol-init : goal.loop-symbol-init
loop-symbol-init c =
    let names = names_in c.args.names.now in
    let law = c.ascending_symbols_are_told_by_their_members.ensures.closures in
    subst (Searching names c.args.defs.now c.args.seeds.now) (sym c.in_ok-search.ensures) (begun_search names c.args.defs.now c.args.seeds.now law)

pub loop-symbol-smaller : goal.loop-symbol-smaller
loop-symbol-smaller c =
    let names = names_in c.args.names.now in
    let law = c.ascending_symbols_are_told_by_their_members.ensures.closures in
    let whole = (closure names c.args.defs.now c.args.seeds.now).symbols in
    let before = subst (Searching names c.args.defs.now c.args.seeds.now) c.in-Some.ensures c.loop-symbol.invariant in
    subst (λ z. weight whole z < weight whole c.loop-symbol.search) (sym c.in_ok-follow.ensures)
    (subst (λ z. weight whole (turn names c.args.defs.now c.in-Some.symbol c.take.new.self) < weight whole z) (sym c.in-Some.ensures)
    (turn_less names c.args.defs.now c.args.seeds.now law c.rows_are_names.ensures c.in-Some.symbol c.take.new.self before))

pub loop-symbol-preserved : goal.loop-symbol-preserved
loop-symbol-preserved c =
    let names = names_in c.args.names.now in
    let law = c.ascending_symbols_are_told_by_their_members.ensures.closures in
    let before = subst (Searching names c.args.defs.now c.args.seeds.now) c.in-Some.ensures c.loop-symbol.invariant in
    subst (Searching names c.args.defs.now c.args.seeds.now) (sym c.in_ok-follow.ensures)
    (turn_keeps names c.args.defs.now c.args.seeds.now law c.rows_are_names.ensures c.in-Some.symbol c.take.new.self before)

pub returns-clause-closure : goal.returns-clause-closure
returns-clause-closure c =
    let laws = c.ascending_symbols_are_told_by_their_members.ensures in
    ap found c.in_default.ensures.1
    ∙ search_ends (names_in c.args.names.now) c.args.defs.now c.args.seeds.now laws.closures laws.law c.loop-symbol.search c.loop-symbol.invariant c.in_default.ensures.0

pub returns-clause-in_order : goal.returns-clause-in_order
returns-clause-in_order c = subst (λ z. Ascends z.symbols) (sym c.in_default.ensures.1) c.loop-symbol.invariant.ascends

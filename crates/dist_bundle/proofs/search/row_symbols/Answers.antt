use Rattle.std.proofs.Common.{◌≡◌, sym, ap, subst, ◌∙◌, ◌+◌, ◌<◌, [], ◌∷◌, ◌++◌, take, length, arith}
use Rattle.std.proofs.lemmas.List.{take_more}
use Rattle.expr_tree.specs.declared.sym.Sym.{Sym}
use Rattle.builtin_names.specs.Named.{names_in}
use Rattle.dist_bundle.specs.Search.{row_symbols}
use Rattle.dist_bundle.proofs.Rows.{row_symbol, rows_within}
use Rattle.dist_bundle.proofs.search.row_symbols.Goals as goal

pub loop-row-preserved : goal.loop-row-preserved
loop-row-preserved c =
    let table = c.names-table.result.now in
    let row = c.loop-row.row in
    let all = row_symbols (names_in table) in
    let none : Sym = record { base = 0; number = 0 } in
    let within : row < length table.known = omega (arith, c.loop-row-test.true, c.known_len-row-end.ensures) in
    let before : c.loop-row.symbols ≡ take row all = subst (λ t. c.loop-row.symbols ≡ take row (row_symbols (names_in t))) (sym c.names-table.ensures.same) c.loop-row.invariant in
    subst (λ t. c.push.new.self ≡ take (row + 1) (row_symbols (names_in t))) c.names-table.ensures.same (c.in_ok-push.ensures.ok
    ∙ ap (λ ss. ss ++ (c.known.result ∷ [])) before
    ∙ ap (λ s. take row all ++ (s ∷ [])) (c.known.ensures.value ∙ row_symbol table c.names-table.ensures.rows row within)
    ∙ sym (take_more all row none (rows_within table c.names-table.ensures.rows row within)))

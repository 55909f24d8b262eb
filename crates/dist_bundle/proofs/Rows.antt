-- The symbols of rules, and of the rows of the table, one after the other.
use Rattle.std.proofs.Common.{◌≡◌, refl, sym, ap, subst, ◌∙◌, ℕ, ◌+◌, ◌<◌, true, false, List, [], ◌∷◌, ◌++◌, map, length, drop, get_or}
use Rattle.std.proofs.lemmas.List.{drop_more, get_or-map, length-map}
use Rattle.expr_tree.specs.declared.sym.Sym.{Sym}
use Rattle.semantics.specs.Builtin.{rows}
use Rattle.semantics.specs.Rule.{Rule}
use Rattle.semantics.specs.Names.{Names}
use Rattle.semantics.specs.Definitions.{Definitions}
use Rattle.name_table.specs.Table.{NameTable}
use Rattle.builtin_names.specs.Named.{names_in, HasBuiltins}
use Rattle.journal.specs.Closure.{symbols_of, symbols_of_rules}
use Rattle.dist_bundle.specs.Search.{Search, added_all, followed, row_symbols, table_followed}
use Rattle.dist_bundle.proofs.Searched.{added_append}

-- a rule more, of which y has the left side, and z the right side
pub rules_step : (rules : List Rule) (i : ℕ) (r : Rule) (x y z : Search) → i < length rules → r ≡ get_or rules i r → y ≡ added_all (symbols_of r.left) x → z ≡ added_all (symbols_of r.right) y
    → added_all (symbols_of_rules (drop (i + 1) rules)) z ≡ added_all (symbols_of_rules (drop i rules)) x
rules_step rules i r x y z within here left right =
    let rest : List Rule = drop (i + 1) rules in
    let parted : drop i rules ≡ r ∷ rest = drop_more rules i r within ∙ ap (λ s. s ∷ rest) (sym here) in
    ap (added_all (symbols_of_rules rest)) (right ∙ ap (added_all (symbols_of r.right)) left)
    ∙ sym (added_append (symbols_of r.right) (symbols_of_rules rest) (added_all (symbols_of r.left) x))
    ∙ sym (added_append (symbols_of r.left) (symbols_of r.right ++ symbols_of_rules rest) x)
    ∙ ap (λ rs. added_all (symbols_of_rules rs) x) (sym parted)

abbrev plain : ℕ → Sym
plain base = record { base = base; number = 0 }

mapped_twice : {A B C : Type 0} (f : B → C) (g : A → B) (xs : List A) → map f (map g xs) ≡ map (λ x. f (g x)) xs
mapped_twice f g [] = refl
mapped_twice f g (x ∷ xs) = ap (λ ys. f (g x) ∷ ys) (mapped_twice f g xs)

known_symbols : (table : NameTable) → HasBuiltins table → map plain table.known ≡ row_symbols (names_in table)
unfolding names_in
known_symbols table has = ap (map plain) has.known ∙ mapped_twice plain (names_in table).place rows

pub row_symbol : (table : NameTable) → HasBuiltins table → (i : ℕ) → i < length table.known → record { base = get_or table.known i 0; number = 0 } ≡ get_or (row_symbols (names_in table)) i (record { base = 0; number = 0 })
row_symbol table has i within =
    sym (get_or-map plain table.known i 0 (plain 0) within) ∙ ap (λ ss. get_or ss i (plain 0)) (known_symbols table has)

pub rows_within : (table : NameTable) → HasBuiltins table → (i : ℕ) → i < length table.known → i < length (row_symbols (names_in table))
rows_within table has i within = subst (λ n. i < n) (sym (length-map table.known plain) ∙ ap length (known_symbols table has)) within

pub table_new : (names : Names) (d : Definitions) (x y : Search) (ss : List Sym) → x.table ≡ false → ss ≡ row_symbols names → y ≡ record x { table = true } → followed d ss y ≡ table_followed names d x
table_new names d x y ss shut all open_now =
    (λ i. followed d (all i) (open_now i))
    ∙ sym (ap (λ b. elim b as (λ _. Search) [ true ↦ x | false ↦ followed d (row_symbols names) (record x { table = true }) ]) shut)

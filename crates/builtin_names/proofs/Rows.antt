-- Rows by their places in the table, and by the bases of their names.
use Rattle.std.proofs.Common.{◌≡◌, ◌∙◌, refl, sym, ap, subst, ℕ, zero, suc, ◌<◌, Bool, true, false, List, [], ◌∷◌, length, map, cond, get_or, arith, Some, None, true≢false}
use Rattle.std.specs.Prelude.{ltb, position, ◌==◌, Option, if◌then◌else◌}
use Rattle.std.specs.Ordering.{is_eq}
use Rattle.std.proofs.lemmas.Bool.{ltb-true, ltb-false, eqb-true, eq-eqb}
use Rattle.std.proofs.lemmas.List.{get_or-map, length-map}
use Rattle.std.proofs.lemmas.List.Quantifiers.{position-Some}
use Rattle.std.proofs.lemmas.List.Sums.{fails_before_first}
use Rattle.std.specs.List.{position_or_len}
use Rattle.expr_tree.specs.declared.sym.Sym.{Sym}
use Rattle.case_table.specs.declared.table.Row.{Row}
use Rattle.case_table.specs.declared.sign.Sign.{Sign}
use Rattle.case_table.specs.declared.table.Code.TheVariants as co
use Rattle.case_table.specs.Entries.{BuiltinRow, OperatorSign, entry, entries, builtin_entry, named, language_sign}
use Rattle.expr_tree.specs.Order.{text_cmp}
use Rattle.script_text.specs.Spelling.{by_texts, place_in}
use Rattle.script_text.specs.Laws.{AreDistinct}
use Rattle.script_text.proofs.Unique.{is_equal, equal_texts, found_at}
use Rattle.semantics.specs.declared.builtin.Builtin.{Builtin}
use Rattle.semantics.specs.Builtin.{rows, row_count, row_number}
use Rattle.semantics.specs.Names.{IsNames, role_of}
use Rattle.semantics.specs.Texts.{row_text, row_with, row_at, names_of}
use Rattle.name_table.specs.Table.{NameTable, places, row_of}
use Rattle.builtin_names.specs.Named.{HasBuiltins, names_in}
use Rattle.builtin_names.proofs.Places.{row_here, row_named}

pub within : (row : Builtin) → row_number row < row_count
within row = ltb-true (row_number row) row_count (row_here row).1

pub names_are : (table : NameTable) → names_in table ≡ names_of table.texts
unfolding names_in
names_are table = refl

text_there : (texts : List (List ℕ)) (t : List ℕ) → place_in texts t < length texts → by_texts texts (place_in texts t) ≡ t
text_there [] t h = absurd (omega arith)
text_there (u ∷ us) t h = go (is_eq (text_cmp u t)) refl h (text_there us t)
  where
    go : (k : Bool) → is_eq (text_cmp u t) ≡ k → elim k [ true ↦ zero | false ↦ suc (place_in us t) ] < suc (length us)
        → (place_in us t < length us → by_texts us (place_in us t) ≡ t) → by_texts (u ∷ us) (elim k [ true ↦ zero | false ↦ suc (place_in us t) ]) ≡ t
    go true e h rest = equal_texts u t (is_equal (text_cmp u t) e)
    go false e h rest = rest (omega (arith, h))

row_is_there : (texts : List (List ℕ)) (b : ℕ) → b < length texts → row_at texts b ≡ row_with rows (by_texts texts b)
row_is_there [] b h = absurd (omega arith)
row_is_there (t ∷ ts) zero h = refl
row_is_there (t ∷ ts) (suc b) h = row_is_there ts b (omega arith)

no_row_past : (texts : List (List ℕ)) (b : ℕ) (row : Builtin) → row_at texts b ≡ Some row → b < length texts
no_row_past [] b row e = cc
no_row_past (t ∷ ts) zero row e = omega arith
no_row_past (t ∷ ts) (suc b) row e = let h = no_row_past ts b row e in omega (arith, h)

has_text : (rs : List Builtin) (t : List ℕ) (row : Builtin) → row_with rs t ≡ Some row → row_text row ≡ t
has_text [] t row e = cc
has_text (r ∷ rs) t row e = go (is_eq (text_cmp (row_text r) t)) refl e (has_text rs t row)
  where
    go : (k : Bool) → is_eq (text_cmp (row_text r) t) ≡ k → elim k [ true ↦ Some r | false ↦ row_with rs t ] ≡ Some row
        → (row_with rs t ≡ Some row → row_text row ≡ t) → row_text row ≡ t
    go true e same later = let p : r ≡ row = cc in subst (λ x. row_text x ≡ t) p (equal_texts (row_text r) t (is_equal (text_cmp (row_text r) t) e))
    go false e rest later = later rest

pub found : (texts : List (List ℕ)) (row : Builtin) → place_in texts (row_text row) < length texts → row_at texts (place_in texts (row_text row)) ≡ Some row
found texts row h = row_is_there texts (place_in texts (row_text row)) h ∙ ap (row_with rows) (text_there texts (row_text row) h) ∙ row_named row

pub only : (texts : List (List ℕ)) → AreDistinct texts → (b : ℕ) (row : Builtin) → row_at texts b ≡ Some row → place_in texts (row_text row) ≡ b
only texts distinct b row e =
    let h = no_row_past texts b row e in
    ap (place_in texts) (has_text rows (by_texts texts b) row (sym (row_is_there texts b h) ∙ e)) ∙ found_at texts distinct b h

pub are_names : (table : NameTable) → HasBuiltins table → AreDistinct table.texts → IsNames (names_in table)
unfolding names_in
are_names table has distinct = record { found = λ row. found table.texts row (has.kept row); only = λ b row e. only table.texts distinct b row e }

pub known_here : (table : NameTable) → HasBuiltins table → (row : Builtin) → get_or table.known (row_number row) 0 ≡ place_in table.texts (row_text row)
known_here table has row =
    ap (λ known. get_or known (row_number row) 0) has.known
    ∙ get_or-map (λ r. place_in table.texts (row_text r)) rows (row_number row) Builtin.Plus 0 (within row)
    ∙ ap (λ r. place_in table.texts (row_text r)) (row_here row).0

pub known_count : (table : NameTable) → HasBuiltins table → length table.known ≡ row_count
known_count table has = ap length has.known

base_of : (table : NameTable) → HasBuiltins table → (i : ℕ) → i < length table.known → (i < row_count) × (get_or table.known i 0 ≡ place_in table.texts (row_text (get_or rows i Builtin.Plus)))
base_of table has i h =
    let few : i < row_count = rw (← known_count table has) h in (
      few,
      ap (λ known. get_or known i 0) has.known
          ∙ get_or-map (λ r. place_in table.texts (row_text r)) rows i Builtin.Plus 0 few,
    )

pub role_there : (table : NameTable) → HasBuiltins table → (s : Sym) (i : ℕ) → row_of table s ≡ Some i
    → (i < row_count) × (role_of (names_in table) s ≡ Some (get_or rows i Builtin.Plus))
unfolding names_in
role_there table has s i e = go (s.number == 0) e
  where
    go : (plain : Bool) → (if plain then position (λ base. base == s.base) table.known else None) ≡ Some i
        → (i < row_count) × (elim plain as (λ _. Option Builtin) [ true ↦ row_at table.texts s.base | false ↦ None ] ≡ Some (get_or rows i Builtin.Plus))
    go true e =
        let p = position-Some (λ base. base == s.base) table.known i 0 e in
        let b = base_of table has i p.0 in
        let same : get_or table.known i 0 ≡ s.base = eqb-true (get_or table.known i 0) s.base p.1 in
        (b.0, ap (row_at table.texts) (sym same ∙ b.1) ∙ found table.texts (get_or rows i Builtin.Plus) (has.kept (get_or rows i Builtin.Plus)))
    go false e = cc

all_fail : (p : ℕ → Bool) (xs : List ℕ) → position p xs ≡ None → (i : ℕ) → i < length xs → p (get_or xs i 0) ≡ false
all_fail p xs e i h = fails_before_first p xs i 0 (go (ltb (position_or_len p xs) (length xs)) refl e)
  where
    go : (b : Bool) → ltb (position_or_len p xs) (length xs) ≡ b → cond b (Some (position_or_len p xs)) None ≡ None → i < position_or_len p xs
    go true b e = cc
    go false b e = let least = ltb-false (position_or_len p xs) (length xs) b in omega (arith, h, least)

no_place : (table : NameTable) → HasBuiltins table → AreDistinct table.texts → (b : ℕ) → position (λ base. base == b) table.known ≡ None
    → (o : Option Builtin) → row_at table.texts b ≡ o → o ≡ None
no_place table has distinct b e None there = refl
no_place table has distinct b e (Some row) there =
    let here : get_or table.known (row_number row) 0 ≡ b = known_here table has row ∙ only table.texts distinct b row there in
    let h : row_number row < length table.known = rw (known_count table has) (within row) in
    let no : (get_or table.known (row_number row) 0 == b) ≡ false = all_fail (λ base. base == b) table.known e (row_number row) h in
    let yes : (get_or table.known (row_number row) 0 == b) ≡ true = eq-eqb (get_or table.known (row_number row) 0) b here in
    absurd (true≢false (sym yes ∙ no))

pub no_role : (table : NameTable) → HasBuiltins table → AreDistinct table.texts → (s : Sym) → row_of table s ≡ None → role_of (names_in table) s ≡ None
unfolding names_in
no_role table has distinct s e = go (s.number == 0) e
  where
    go : (plain : Bool) → (if plain then position (λ base. base == s.base) table.known else None) ≡ None
        → elim plain as (λ _. Option Builtin) [ true ↦ row_at table.texts s.base | false ↦ None ] ≡ None
    go true e = no_place table has distinct s.base e (row_at table.texts s.base) refl
    go false e = refl

-- the table of the program, by its rows
pub rows_count : (rs : List Row) → entries rs ≡ map builtin_entry rows → length rs ≡ row_count
rows_count rs e = sym (length-map rs entry) ∙ ap length e

pub entry_here : (rs : List Row) (d : Row) → entries rs ≡ map builtin_entry rows → (i : ℕ) → i < row_count → entry (get_or rs i d) ≡ builtin_entry (get_or rows i Builtin.Plus)
entry_here rs d e i h =
    let long : i < length rs = rw (rows_count rs e) h in
    sym (get_or-map entry rs i d (entry d) long)
    ∙ ap (λ es. get_or es i (entry d)) e
    ∙ get_or-map builtin_entry rows i Builtin.Plus (entry d) h

pub is_row : (r : Row) (b row : Builtin) → r.code ≡ co.Builtin b → entry r ≡ builtin_entry row → b ≡ row
is_row r b row is e =
    let p : named r.code ≡ BuiltinRow row = ap (λ en. en.names) e in
    let q : BuiltinRow b ≡ BuiltinRow row = subst (λ c. named c ≡ BuiltinRow row) is p in
    ap (λ n. elim n [ BuiltinRow x ↦ x | OperatorSign s ↦ b ]) q

pub no_operator : (r : Row) (s : Sign) (row : Builtin) → r.code ≡ co.Operator s → entry r ≡ builtin_entry row → ⊥
no_operator r s row is e =
    let p : named r.code ≡ BuiltinRow row = ap (λ en. en.names) e in
    let q : OperatorSign (language_sign s) ≡ BuiltinRow row = subst (λ c. named c ≡ BuiltinRow row) is p in
    cc

-- what stands past the end of a table
abbrev pub blank_row : Row
blank_row = record {
  name = record { ref_ptr = (0, 0); now = [] };
  attrs = record { flat = false; orderless = false; listable = false; hold_first = false; hold_rest = false; hold_all = false; hold_all_complete = false; sequence_hold = false; one_identity = false; protected = false };
  code = co.Builtin Builtin.Plus;
}

places_are : (texts : List (List ℕ)) → places texts (map row_text rows) ≡ map (λ row. place_in texts (row_text row)) rows
places_are texts = refl

pub has_builtins : (table : NameTable) → table.known ≡ places table.texts (map row_text rows)
    → ((row : ℕ) → row < length table.known → get_or table.known row 0 < length table.texts) → HasBuiltins table
has_builtins table is kept =
    let known : table.known ≡ map (λ row. place_in table.texts (row_text row)) rows = is ∙ places_are table.texts in
    let here : (row : Builtin) → get_or table.known (row_number row) 0 ≡ place_in table.texts (row_text row) = λ row.
    ap (λ k. get_or k (row_number row) 0) known
    ∙ get_or-map (λ r. place_in table.texts (row_text r)) rows (row_number row) Builtin.Plus 0 (within row)
    ∙ ap (λ r. place_in table.texts (row_text r)) (row_here row).0 in
    let long : length table.known ≡ row_count = ap length known in
    record { known = known; kept = λ row. rw (← here row) (kept (row_number row) (rw long (within row))) }

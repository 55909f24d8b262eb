-- The table of names, as contracts see it.
--     NameTable            the texts of the bases in the order of names, and the place of the base of each known name
--     is_kept              whether a base stands in the table
--     found                the symbol that a text is read as
--     row_of               the row of a symbol that is a known name
--     symbol_name_cmp      the order of symbols by the texts of their bases
use Rattle.std.specs.Prelude.{◌≡◌, ◌<◌, ℕ, ◌==◌, Bool, List, Option, None, length, map, position, if◌then◌else◌}
use Rattle.std.specs.List.{list_any}
use Rattle.std.specs.Str.{bytes_eq}
use Rattle.std.specs.declared.cmp.Ordering.{Ordering}
use Rattle.std.specs.Ordering.{nat_cmp, ordering_then}
use Rattle.expr_tree.specs.declared.sym.Sym.{Sym}
use Rattle.script_text.specs.Spelling.{spelled, by_texts, place_in, name_cmp}

pub record NameTable : Type 0 where
  pub texts : List (List ℕ)
  pub known : List ℕ

abbrev pub is_kept : NameTable → List ℕ → Bool
is_kept table base = list_any (bytes_eq base) table.texts

-- for a text whose base is kept
abbrev pub found : NameTable → List ℕ → Sym
found table t = record { base = place_in table.texts (spelled t).base; number = (spelled t).number }

-- the places of the bases of names
abbrev pub places : List (List ℕ) → List (List ℕ) → List ℕ
places texts names = map (λ t. place_in texts (spelled t).base) names

-- a generated symbol is no known name, whatever its base
abbrev pub row_of : NameTable → Sym → Option ℕ
row_of table s = if s.number == 0 then position (λ base. base == s.base) table.known else None

-- by the names of the bases, then by the numbers
abbrev pub symbol_name_cmp : NameTable → Sym → Sym → Ordering
symbol_name_cmp table s r = ordering_then (name_cmp (by_texts table.texts s.base) (by_texts table.texts r.base)) (nat_cmp s.number r.number)

-- symbols are in the order of their names
abbrev pub OrdersByName : NameTable → Type 0
OrdersByName table =
    (s r : Sym) → s.base < length table.texts → r.base < length table.texts
    → ordering_then (nat_cmp s.base r.base) (nat_cmp s.number r.number) ≡ symbol_name_cmp table s r

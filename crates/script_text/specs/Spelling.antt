-- How symbols are spelled, and the order of names.
--     Spelled, spelled     the base and the number that a name is read as: `x$12` is (x, 12)
--     symbol_text          the text of a symbol, by the texts of the bases
--     by_texts, place_in   the text of a base, and the base of a text, by a list of texts
--     name_cmp, kept       the order of names; the distinct ones of a list of names, in order
--     bases                the distinct bases of names, in order
use Rattle.std.specs.Prelude.{ℕ, zero, suc, ◌+◌, ◌==◌, Bool, true, false, cond, ◌&&◌, leb, not, List, [], ◌∷◌, ◌++◌, map, reverse, length, drop, take, get_or}
use Rattle.std.specs.declared.cmp.Ordering.{Ordering}
use Rattle.std.specs.declared.cmp.Ordering.TheVariants.{Less, Equal, Greater}
use Rattle.std.specs.Ordering.{ordering_then, is_eq}
use Rattle.std.specs.Fmt.{decimal}
use Rattle.expr_tree.specs.declared.sym.Sym.{Sym}
use Rattle.expr_tree.specs.Order.{text_cmp}
use Rattle.script_text.specs.Bytes.{is_digit, run, number_after}

pub record Spelled : Type 0 where
  pub base : List ℕ
  pub number : ℕ

abbrev pub plain : List ℕ → Spelled
plain t = record { base = t; number = zero }

-- one to eighteen digits, the first of which is not 0
abbrev pub is_number_part : List ℕ → Bool
is_number_part [] = false
is_number_part (d ∷ ds) = not (d == 48) && leb (length ds) 17

-- what stands in front of the digits, backwards: a `$`, and a base that is not empty
abbrev pub numbered : List ℕ → List ℕ → List ℕ → Spelled
numbered t ds [] = plain t
numbered t ds (c ∷ []) = plain t
numbered t ds (c ∷ b ∷ bs) =
    elim ((c == 36) && is_number_part ds) [ true ↦ record { base = reverse (b ∷ bs); number = number_after 0 ds } | false ↦ plain t ]

abbrev pub spelled : List ℕ → Spelled
spelled t =
    let back = reverse t in
    let n = run is_digit back in
    numbered t (reverse (take n back)) (drop n back)

abbrev pub number_suffix : ℕ → List ℕ
number_suffix n = cond (n == 0) [] (36 ∷ decimal n)

-- the texts of the bases
abbrev pub Spelling : Type 0
Spelling = ℕ → List ℕ

abbrev pub by_texts : List (List ℕ) → Spelling
by_texts texts b = get_or texts b []

-- the place of a text in a list
abbrev pub place_in : List (List ℕ) → List ℕ → ℕ
place_in [] t = zero
place_in (u ∷ us) t = elim (is_eq (text_cmp u t)) [ true ↦ zero | false ↦ suc (place_in us t) ]

abbrev pub symbol_text : Spelling → Sym → List ℕ
symbol_text spelling s = spelling s.base ++ number_suffix s.number

-- a letter in lower case, and any other byte as it is
abbrev pub lowered : ℕ → ℕ
lowered c = cond (leb 65 c && leb c 90) (c + 32) c

-- by the bytes with letters lowered, a prefix first; else the lower-case letter comes first at the first byte that differs
abbrev pub name_cmp : List ℕ → List ℕ → Ordering
name_cmp s t = ordering_then (text_cmp (map lowered s) (map lowered t)) (text_cmp t s)

abbrev pub insert_by : Ordering → List ℕ → List ℕ → List (List ℕ) → List (List ℕ) → List (List ℕ)
insert_by Less t u us cons = t ∷ u ∷ us
insert_by Equal t u us cons = u ∷ us
insert_by Greater t u us cons = u ∷ cons

-- a name at its place, once
abbrev pub with_name : List ℕ → List (List ℕ) → List (List ℕ)
with_name t [] = t ∷ []
with_name t (u ∷ us) = insert_by (name_cmp t u) t u us (with_name t us)

abbrev pub kept : List (List ℕ) → List (List ℕ)
kept [] = []
kept (t ∷ ts) = with_name t (kept ts)

-- the bases that names have, in order
abbrev pub bases : List (List ℕ) → List (List ℕ)
bases ts = kept (map (λ t. (spelled t).base) ts)

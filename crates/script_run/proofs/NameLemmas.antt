-- The names of a script: how many there are, and that its table keeps those of each cell.
use Rattle.std.proofs.Common.{◌≡◌, refl, sym, ap, ◌∙◌, ℕ, ◌+◌, ◌-◌, ◌<◌, ◌≤◌, ◌^◌, Bool, true, false, List, [], ◌∷◌, ◌++◌, length, map, drop, take, arith}
use Rattle.std.specs.Prelude.{◌||◌, ◌==◌}
use Rattle.std.specs.List.{list_any}
use Rattle.std.specs.Str.{bytes_eq}
use Rattle.std.proofs.lemmas.List.{length-append, length-drop, length-take}
use Rattle.script_text.specs.Bytes.{run, in_name}
use Rattle.script_text.specs.Cells.{cells}
use Rattle.script_text.specs.Spelling.{bases}
use Rattle.name_table.proofs.Sorted.{has-kept}
use Rattle.name_table.proofs.Adding.{base_of, has_both, places_within}
use Rattle.semantics.specs.Builtin.{rows}
use Rattle.semantics.specs.Texts.{row_text}
use Rattle.syntax.specs.Tokens.{Kind, Token, lex, token_text, nonempty, blank_names, token_names, names_in}
use Rattle.lex_form.specs.Shapes.{AreTokens}
use Rattle.lex_form.proofs.TokenShapes.{tokens_good}
use Rattle.read_form.specs.Kept.{AreKeptNames}
use Rattle.sequential_transcript.specs.Transcript.{written_names, texts_of}
use Rattle.script_run.proofs.TextLemmas.{total, cells_total}

-- ---- a cell has no more names than bytes

nonempty_few : (t : List ℕ) → length (nonempty t) ≤ length t
nonempty_few [] = omega arith
nonempty_few (c ∷ cs) = omega arith

blank_few : (t : List ℕ) → length (blank_names t) ≤ length t
blank_few t =
    let n = run in_name t in
    let rest = drop n t in
    let m = run (λ c. c == 95) rest in
    omega (arith, length-append (nonempty (take n t)) (nonempty (drop m rest)), nonempty_few (take n t), nonempty_few (drop m rest), length-take n t, length-drop n t, length-drop m rest)

token_few : (kind : Kind) (t : List ℕ) → 0 < length t → length (token_names kind t) ≤ length t
token_few Kind.Number t some = omega arith
token_few Kind.Name t some = omega (arith, some)
token_few Kind.Blank t some = blank_few t
token_few Kind.Str t some = omega arith
token_few Kind.Slot t some = omega arith
token_few Kind.Operator t some = omega arith

names_few : (text : List ℕ) (at : ℕ) (ts : List Token) → at ≤ length text → AreTokens text at ts → length (names_in text ts) + at ≤ length text
names_few text at [] within p = omega (arith, within)
names_few text at (t ∷ ts) within p =
    let later = names_few text t.to ts p.0.within p.1 in
    let long : length (token_text text t) ≡ t.to - t.from = omega (arith, length-take (t.to - t.from) (drop t.from text), length-drop t.from text, p.0.within, p.0.some) in
    let few = token_few t.kind (token_text text t) (omega (arith, long, p.0.some)) in
    omega (arith, later, long, few, p.0.after, p.0.some, length-append (token_names t.kind (token_text text t)) (names_in text ts))

cell_few : (cell : List ℕ) → length (names_in cell (lex cell).tokens) ≤ length cell
cell_few cell = omega (arith, names_few cell 0 (lex cell).tokens (omega arith) (tokens_good cell))

written_few : (texts : List (List ℕ)) → length (written_names texts) ≤ total texts
written_few [] = omega arith
written_few (cell ∷ texts) = omega (arith, cell_few cell, written_few texts, length-append (names_in cell (lex cell).tokens) (written_names texts))

pub names_fit : (script : List ℕ) → length script ≤ 1048576 → length (written_names (cells script)) < 2 ^ 31
names_fit script short = omega (arith, short, written_few (cells script), cells_total script)

-- ---- the table has the names of each cell

or_left : (a b : Bool) → a ≡ true → (a || b) ≡ true
or_left a b e = ap (λ c. c || b) e

or_right : (a b : Bool) → b ≡ true → (a || b) ≡ true
or_right true b e = refl
or_right false b e = e

or_false : (a : Bool) → (a || false) ≡ a
or_false true = refl
or_false false = refl

abbrev has_base : List ℕ → List (List ℕ) → Bool
has_base t names = list_any (bytes_eq t) (map base_of names)

-- each base of some names is a base of others
abbrev Has : List (List ℕ) → List (List ℕ) → Type 0
Has all names = (t : List ℕ) → has_base t names ≡ true → has_base t all ≡ true

names_kept : (all names : List (List ℕ)) → Has all names → AreKeptNames (bases all) names
names_kept all [] within = tt
names_kept all (name ∷ names) within = (
  places_within (bases all) (name ∷ []) (λ t h. has-kept t (map base_of all) ∙ within t (or_left (bytes_eq t (base_of name)) (has_base t names) (sym (or_false (bytes_eq t (base_of name))) ∙ h))) 0 (omega arith),
  names_kept all names (λ t h. within t (or_right (bytes_eq t (base_of name)) (has_base t names) h)),
)

-- the table has the names of the cells
abbrev pub AreKeptCells : List (List ℕ) → List (List ℕ) → Type 0
AreKeptCells texts [] = Unit {0}
AreKeptCells texts (cell ∷ cells) = AreKeptNames texts (names_in cell (lex cell).tokens) × AreKeptCells texts cells

cells_kept : (all texts : List (List ℕ)) → Has all (written_names texts) → AreKeptCells (bases all) texts
cells_kept all [] within = tt
cells_kept all (cell ∷ texts) within =
    let names = names_in cell (lex cell).tokens in (
      names_kept all names (λ t h. within t (has_both t names (written_names texts) ∙ or_left (has_base t names) (has_base t (written_names texts)) h)),
      cells_kept all texts (λ t h. within t (has_both t names (written_names texts) ∙ or_right (has_base t names) (has_base t (written_names texts)) h)),
    )

pub script_kept : (texts : List (List ℕ)) → AreKeptCells (texts_of texts) texts
script_kept texts =
    let known = map row_text rows in
    cells_kept (known ++ written_names texts) texts (λ t h. has_both t known (written_names texts) ∙ or_right (has_base t known) (has_base t (written_names texts)) h)

-- A text without a blank line is one cell, and the cells of a script are such texts.
use Rattle.std.proofs.Common.{◌≡◌, refl, sym, ap, ap₂, ◌∙◌, ℕ, Bool, true, false, List, [], ◌∷◌, ◌++◌, map, true≢false, eqb-true}
use Rattle.std.specs.Prelude.{◌==◌, ◌&&◌, not}
use Rattle.script_text.specs.Bytes.{each_after}
use Rattle.script_text.specs.Cells.{Line, lines, in_first, is_blank, Runs, with_first, and_line, runs, all_runs, cell_text}
use Rattle.syntax.specs.Leaves.{has_feed}
use Rattle.laws_tokens.specs.Spelled.{all_full, HasFullLines, HaveFullLines}
use Rattle.laws_tokens.specs.Laws.{CellsHaveFullLines, FullLinesAreOneCell}
use Rattle.laws_tokens.proofs.Fronts.{both_true}
use Rattle.laws_tokens.proofs.Solid.{lines_some, not_true}

-- ---- one cell

after_some : (ls : List Line) → (ls ≡ [] → ⊥) → each_after (10 ∷ []) ls ≡ 10 ∷ cell_text ls
after_some [] n = absurd (n refl)
after_some (l ∷ ls) n = refl

first_joined : (c : ℕ) (ls : List Line) → (ls ≡ [] → ⊥) → cell_text (in_first c ls) ≡ c ∷ cell_text ls
first_joined c [] n = absurd (n refl)
first_joined c (l ∷ ls) n = refl

lines_joined : (text : List ℕ) → cell_text (lines text) ≡ text
lines_joined [] = refl
lines_joined (c ∷ cs) = go (lines_joined cs) (c == 10) refl
  where
    go : cell_text (lines cs) ≡ cs → (b : Bool) → (c == 10) ≡ b → cell_text (elim b as (λ _. List Line) [ true ↦ [] ∷ lines cs | false ↦ in_first c (lines cs) ]) ≡ c ∷ cs
    go next true e = after_some (lines cs) (lines_some cs) ∙ ap₂ (λ (k : ℕ) (xs : List ℕ). k ∷ xs) (sym (eqb-true c 10 e)) next
    go next false e = first_joined c (lines cs) (lines_some cs) ∙ ap (λ (xs : List ℕ). c ∷ xs) next

full_runs : (ls : List Line) → all_full ls ≡ true → runs ls ≡ record { first = ls; others = [] }
full_runs [] f = refl
full_runs (l ∷ ls) f =
    let both = both_true (not (is_blank l)) (all_full ls) f in
    ap₂ (λ (b : Bool) (r : Runs). and_line l b r) (not_true (is_blank l) both.0) (full_runs ls both.1)

one_run : (ls : List Line) → (ls ≡ [] → ⊥) → map cell_text (with_first ls []) ≡ cell_text ls ∷ []
one_run [] n = absurd (n refl)
one_run (l ∷ ls) n = refl

pub full_cell : FullLinesAreOneCell
full_cell text f =
    ap (λ (r : Runs). map cell_text (all_runs r)) (full_runs (lines text) f)
    ∙ one_run (lines text) (lines_some text)
    ∙ ap (λ (t : List ℕ). t ∷ []) (lines_joined text)

-- ---- the cells of a script

abbrev Feedless : List Line → Type 0
Feedless [] = Unit {0}
Feedless (l ∷ ls) = (has_feed l ≡ false) × Feedless ls

first_feedless : (c : ℕ) (ls : List Line) → (c == 10) ≡ false → Feedless ls → Feedless (in_first c ls)
first_feedless c [] e f = (ap (λ b. elim b as (λ _. Bool) [ true ↦ true | false ↦ false ]) e, tt)
first_feedless c (l ∷ ls) e f = (ap (λ b. elim b as (λ _. Bool) [ true ↦ true | false ↦ has_feed l ]) e ∙ f.0, f.1)

lines_feedless : (text : List ℕ) → Feedless (lines text)
lines_feedless [] = (refl, tt)
lines_feedless (c ∷ cs) = go (lines_feedless cs) (c == 10) refl
  where
    go : Feedless (lines cs) → (b : Bool) → (c == 10) ≡ b → Feedless (elim b as (λ _. List Line) [ true ↦ [] ∷ lines cs | false ↦ in_first c (lines cs) ])
    go next true e = (refl, next)
    go next false e = first_feedless c (lines cs) e next

tail_feedless : (c : ℕ) (l : Line) → has_feed (c ∷ l) ≡ false → ((c == 10) ≡ false) × (has_feed l ≡ false)
tail_feedless c l f = go (c == 10) f
  where
    go : (b : Bool) → elim b as (λ _. Bool) [ true ↦ true | false ↦ has_feed l ] ≡ false → (b ≡ false) × (has_feed l ≡ false)
    go true f = absurd (true≢false f)
    go false f = (refl, f)

-- the lines of a text that was put together from lines
joined_lines : (ls : List Line) (l : Line) → has_feed l ≡ false → Feedless ls → lines (l ++ each_after (10 ∷ []) ls) ≡ l ∷ ls
joined_lines [] [] e f = refl
joined_lines (m ∷ ls) [] e f = ap (λ (xs : List Line). [] ∷ xs) (joined_lines ls m f.0 f.1)
joined_lines ls (c ∷ l) e f =
    let t = tail_feedless c l e in
    ap (λ b. elim b as (λ _. List Line) [ true ↦ [] ∷ lines (l ++ each_after (10 ∷ []) ls) | false ↦ in_first c (lines (l ++ each_after (10 ∷ []) ls)) ]) t.0
    ∙ ap (in_first c) (joined_lines ls l t.1 f)

-- lines that are not blank
record Solid (ls : List Line) : Type 0 where
  feedless : Feedless ls
  full : all_full ls ≡ true

abbrev SolidRuns : List (List Line) → Type 0
SolidRuns [] = Unit {0}
SolidRuns (r ∷ rs) = Solid r × (r ≡ [] → ⊥) × SolidRuns rs

abbrev some : List Line → Bool
some [] = false
some (l ∷ ls) = true

all_solid : (first : List Line) (rs : List (List Line)) → Solid first → SolidRuns rs → SolidRuns (with_first first rs)
all_solid [] rs s r = r
all_solid (l ∷ ls) rs s r = (s, (λ e. true≢false (ap some e)), r)

runs_solid : (ls : List Line) → Feedless ls → Solid (runs ls).first × SolidRuns (runs ls).others
runs_solid [] f = (record { feedless = tt; full = refl }, tt)
runs_solid (l ∷ ls) f = go (runs_solid ls f.1) (is_blank l) refl
  where
    go : Solid (runs ls).first × SolidRuns (runs ls).others → (b : Bool) → is_blank l ≡ b → Solid (and_line l b (runs ls)).first × SolidRuns (and_line l b (runs ls)).others
    go (s, r) true e = (record { feedless = tt; full = refl }, all_solid (runs ls).first (runs ls).others s r)
    go (s, r) false e = (record { feedless = (f.0, s.feedless); full = ap₂ (λ p q. not p && q) e s.full }, r)

run_full : (r : List Line) → Solid r → (r ≡ [] → ⊥) → HasFullLines (cell_text r)
run_full [] s n = absurd (n refl)
run_full (l ∷ ls) s n = ap all_full (joined_lines ls l s.feedless.0 s.feedless.1) ∙ s.full

texts_full : (rs : List (List Line)) → SolidRuns rs → HaveFullLines (map cell_text rs)
texts_full [] s = tt
texts_full (r ∷ rs) (s, n, more) = (run_full r s n, texts_full rs more)

pub cells_full : CellsHaveFullLines
cells_full script =
    let s = runs_solid (lines script) (lines_feedless script) in
    texts_full (all_runs (runs (lines script))) (all_solid (runs (lines script)).first (runs (lines script)).others s.0 s.1)

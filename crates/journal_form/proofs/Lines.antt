-- One entry of a book more.
use Rattle.std.proofs.Common.{◌≡◌, refl, sym, ap, ◌∙◌, ℕ, zero, suc, ◌+◌, ◌≤◌, List, [], ◌∷◌, ◌++◌, map, length, drop, Option, Some, None, option_map, is_some, true≢false, add-one, arith}
use Rattle.std.proofs.lemmas.List.{drop_all}
use Rattle.script_text.specs.Spelling.{Spelling}
use Rattle.journal.specs.declared.event.Entry.{Entry}
use Rattle.journal.specs.Entry.{Posted}
use Rattle.journal.specs.Places.{nth}
use Rattle.journal.specs.Lines.{entry_line, lines_from}

abbrev pub entries : List Posted → List Entry
entries ps = map (λ p. p.entry) ps

-- the entry at a place
abbrev pub entry_at : List Posted → ℕ → Option Entry
entry_at ps at = option_map (λ p. p.entry) (nth ps at)

-- the lines of the entries from a place on
abbrev pub lines_behind : Spelling → ℕ → List Posted → List ℕ
lines_behind spelling at ps = lines_from spelling (at + 1) (drop at (entries ps))

some_inj : {X : Type 0} {x y : X} → Some x ≡ Some y → x ≡ y
some_inj {x = x} p = ap (λ o. elim o as (λ _. _) [ None ↦ x | Some v ↦ v ]) p

drop_found : (ps : List Posted) (at : ℕ) (e : Entry) → Some e ≡ entry_at ps at → drop at (entries ps) ≡ e ∷ drop (suc at) (entries ps)
drop_found [] at e is = absurd (true≢false (ap is_some is))
drop_found (p ∷ ps) zero e is = ap (λ x. x ∷ entries ps) (sym (some_inj is))
drop_found (p ∷ ps) (suc at) e is = drop_found ps at e is

drop_passed : (ps : List Posted) (at : ℕ) → length ps ≤ at → drop at (entries ps) ≡ []
drop_passed [] at h = drop_all at [] h
drop_passed (p ∷ ps) zero h = absurd (omega (arith, h))
drop_passed (p ∷ ps) (suc at) h = drop_passed ps at (omega (arith, h))

missing : (ps : List Posted) (at : ℕ) → None ≡ entry_at ps at → length ps ≤ at
missing [] at is = omega (arith)
missing (p ∷ ps) zero is = absurd (true≢false (ap is_some (sym is)))
missing (p ∷ ps) (suc at) is = let h = missing ps at is in omega (arith, h)

pub lines_step : (spelling : Spelling) (ps : List Posted) (at : ℕ) (e : Entry) → Some e ≡ entry_at ps at
    → lines_behind spelling at ps ≡ entry_line spelling (at + 1) e ++ lines_behind spelling (at + 1) ps
lines_step spelling ps at e is = rw (drop_found ps at e is, add-one, add-one) refl

pub lines_end : (spelling : Spelling) (ps : List Posted) (at : ℕ) → length ps ≤ at → lines_behind spelling at ps ≡ []
lines_end spelling ps at h = ap (lines_from spelling (at + 1)) (drop_passed ps at h)

pub lines_pass : (spelling : Spelling) (ps : List Posted) (at : ℕ) → None ≡ entry_at ps at → lines_behind spelling at ps ≡ lines_behind spelling (at + 1) ps
lines_pass spelling ps at is =
    let h = missing ps at is in
    lines_end spelling ps at h ∙ sym (lines_end spelling ps (at + 1) (omega (arith, h)))

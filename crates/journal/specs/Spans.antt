-- Sections and results of a journal.
--     Span, sections        a section from its Enter to its end, with its locks; those of a journal
--     NeverOverlap          of two that share a lock the later begins after the earlier's end
--     results               the results that a journal gives to an item
--     NoneByLoss            no loss gives one of some items its result
use Rattle.std.specs.Prelude.{ℕ, suc, ◌<◌, ◌≡◌, List, [], ◌∷◌, ◌++◌, Bool, true, false, ◌&&◌, ◌==◌, Some, None}
use Rattle.expr_tree.specs.declared.sym.Sym.{Sym}
use Rattle.expr_tree.specs.Tree.{Tree}
use Rattle.expr_tree.specs.Substitution.{among}
use Rattle.journal.specs.declared.event.Event.{Event}
use Rattle.journal.specs.Entry.{Posted}
use Rattle.journal.specs.Core.{Setup, Core, item_at, effect, results_given}

-- a section stands from the place of its Enter up to that of the Leave or Lose that ends it, or to the journal's end
pub record Span : Type 0 where
  pub from : ℕ
  pub until : ℕ
  pub locks : List Sym

abbrev pub ends_section : Event → Bool
ends_section Event.Leave = true
ends_section (Event.Lose cause) = true
ends_section _ = false

-- the place, counted from n, of kernel k's next Leave or Lose
abbrev pub next_end : ℕ → ℕ → List Posted → ℕ
next_end k n [] = n
next_end k n (p ∷ ps) = elim ((p.entry.kernel == k) && ends_section p.entry.event) [ true ↦ n | false ↦ next_end k (suc n) ps ]

-- an Enter of kernel k at the place n begins one
abbrev pub span_by : ℕ → ℕ → Event → List Posted → List Span → List Span
span_by n k (Event.Enter ls) ps rest = record { from = n; until = next_end k (suc n) ps; locks = ls } ∷ rest
span_by n k _ ps rest = rest

abbrev pub sections : ℕ → List Posted → List Span
sections n [] = []
sections n (p ∷ ps) = span_by n p.entry.kernel p.entry.event ps (sections (suc n) ps)

-- a later span that shares a lock begins after the end
abbrev pub Before : Span → List Span → Type 0
Before s [] = Unit {0}
Before s (t ∷ ts) = ((l : Sym) → among l s.locks ≡ true → among l t.locks ≡ true → s.until < t.from) × Before s ts

abbrev pub NeverOverlap : List Span → Type 0
NeverOverlap [] = Unit {0}
NeverOverlap (s ∷ ss) = Before s ss × NeverOverlap ss

-- the results that an entry gives to the item `id`
abbrev pub entry_results : Setup → Core → Posted → ℕ → List Tree
entry_results set c p id = elim (item_at c id) [ None ↦ [] | Some q ↦ results_given set p.entry.kernel p.entry.event id q ]

-- all results that a journal gives to it, from a core on
abbrev pub results : Setup → Core → List Posted → ℕ → List Tree
results set c [] id = []
results set c (p ∷ ps) id = entry_results set c p id ++ results set (effect set c p) ps id

-- those of them that losses give
abbrev pub by_loss : Event → List Tree → List Tree
by_loss (Event.Lose cause) vs = vs
by_loss _ vs = []

abbrev pub results_by_loss : Setup → Core → List Posted → ℕ → List Tree
results_by_loss set c [] id = []
results_by_loss set c (p ∷ ps) id = by_loss p.entry.event (entry_results set c p id) ++ results_by_loss set (effect set c p) ps id

abbrev pub NoneByLoss : Setup → Core → List Posted → List ℕ → Type 0
NoneByLoss set c ps [] = Unit {0}
NoneByLoss set c ps (id ∷ ids) = (results_by_loss set c ps id ≡ []) × NoneByLoss set c ps ids

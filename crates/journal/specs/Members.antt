-- The list behind the desk of turns.
--     Opening               what a run begins with: of its names the texts of the bases, since a setup holds functions
--     Member                the opening, or an entry with what was handed in beside it
--     setup_of              what an opening means for a run; the symbols that a book keeps are among its names
--     members               the list: the opening, under number 0, and then each entry, under its kernel
--     opening_of            the opening of such a list
--     posted_of             its entries, with what was handed in
--     journal_of            its entries alone, which are a journal
use Rattle.std.specs.Prelude.{ℕ, List, [], ◌∷◌, map, Option, Some, None}
use Rattle.expr_tree.specs.declared.limits.Limits.{Limits}
use Rattle.script_text.specs.Spelling.{by_texts}
use Rattle.semantics.specs.Texts.{names_of}
use Rattle.syntax.specs.Lines.{value_text}
use Rattle.journal.specs.declared.recover.Recover.{Recover}
use Rattle.journal.specs.declared.event.Entry.{Entry}
use Rattle.journal.specs.Entry.{Text, Posted}
use Rattle.journal.specs.Core.{Setup}

-- the texts stand in the order of names
pub record Opening : Type 0 where
  pub kernels : ℕ
  pub limits : Limits
  pub texts : List Text
  pub recovery : Recover

pub data Member : Type 0 where
  Opens : Opening → Member
  Posts : Posted → Member

abbrev pub setup_of : Opening → Setup
setup_of o =
    record {
      names = names_of o.texts;
      shown = value_text (by_texts o.texts) (names_of o.texts);
      kernels = o.kernels;
      limits = o.limits;
      recovery = o.recovery;
    }

abbrev pub under_kernel : Posted → ℕ × Member
under_kernel p = (p.entry.kernel, Posts p)

abbrev pub members : Opening → List Posted → List (ℕ × Member)
members o ps = (0, Opens o) ∷ map under_kernel ps

abbrev pub opening_of : List (ℕ × Member) → Option Opening
opening_of [] = None
opening_of (m ∷ ms) = elim m.1 [ Opens o ↦ Some o | Posts p ↦ opening_of ms ]

abbrev pub posted_of : List (ℕ × Member) → List Posted
posted_of [] = []
posted_of (m ∷ ms) = elim m.1 [ Opens o ↦ posted_of ms | Posts p ↦ p ∷ posted_of ms ]

abbrev pub journal_of : List (ℕ × Member) → List Entry
journal_of ms = map (λ p. p.entry) (posted_of ms)

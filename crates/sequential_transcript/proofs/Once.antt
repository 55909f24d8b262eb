-- A script has at most one transcript.
use Rattle.std.proofs.Common.{◌≡◌, ℕ, ◌+◌, List, [], ◌∷◌, refl, ap, subst}
use Rattle.script_text.specs.Spelling.{Spelling}
use Rattle.semantics.specs.Names.{Names}
use Rattle.semantics.specs.Definitions.{Definitions}
use Rattle.syntax.specs.Lines.{syntax_line}
use Rattle.syntax.proofs.Read.{one_reading, one_offset}
use Rattle.sequential_transcript.specs.Transcript.{PrintsCell, read, unread, Prints, none, next, ran, line_of}

module _ (spelling : Spelling) (names : Names) (find : List ℕ → ℕ) (steps : ℕ) where
  -- two lines of one cell, and the definitions after them
  cell_once : (d : Definitions) (n : ℕ) (cell : List ℕ) {line other : List ℕ} {later last : Definitions}
      → PrintsCell spelling names find steps d n cell line later → PrintsCell spelling names find steps d n cell other last → (line ≡ other) × (later ≡ last)
  cell_once d n cell (read e p) (read f q) =
      let same : e ≡ f = one_reading names find cell e f p q in
      (ap (λ x. line_of spelling names find steps n (ran spelling names find steps d x).value) same, ap (λ x. (ran spelling names find steps d x).definitions) same)
  cell_once d n cell (read e p) (unread place q) = absurd (q.unread e p)
  cell_once d n cell (unread place p) (read f q) = absurd (p.unread f q)
  cell_once d n cell (unread place p) (unread other q) = (ap (syntax_line n) (one_offset names find cell place other p q), refl)

  pub transcript_once : (d : Definitions) (n : ℕ) (cells lines others : List (List ℕ))
      → Prints spelling names find steps d n cells lines → Prints spelling names find steps d n cells others → lines ≡ others
  transcript_once d n [] [] [] none none = refl
  transcript_once d n [] [] (other ∷ others) p q = elim q [ ]
  transcript_once d n [] (line ∷ lines) others p q = elim p [ ]
  transcript_once d n (cell ∷ cells) [] others p q = elim p [ ]
  transcript_once d n (cell ∷ cells) (line ∷ lines) [] p q = elim q [ ]
  transcript_once d n (cell ∷ cells) (line ∷ lines) (other ∷ others) (next {later = later} p ps) (next {later = last} q qs) =
      let both = cell_once d n cell p q in
      (λ i. both.0 i ∷ transcript_once last (n + 1) cells lines others (subst (λ o. Prints spelling names find steps o (n + 1) cells lines) both.1 ps) qs i)

-- The scanner of the tokens takes the longest text that is a token, is passed over or is faulty.
use Rattle.std.proofs.Common.{◌≡◌, refl, sym, ap, ap₂, ◌∙◌, subst, subst₂, ℕ, zero, suc, pred, ◌+◌, ◌<◌, Bool, true, false, List, [], ◌∷◌, ◌++◌, length, drop, Some, arith}
use Rattle.std.specs.Prelude.{◌==◌, codes}
use Rattle.script_text.specs.Bytes.{is_digit, begins_name, is_white, begins_with}
use Rattle.syntax.specs.Signs.{signs}
use Rattle.syntax.specs.Tokens as tok
use Rattle.syntax.specs.Tokens.{Kind, Scan, Takes, Skips, Faults, Token, Lexed, and_token, lex_from, lex}
use Rattle.laws_tokens.specs.Texts.{Part, Whole, IsPart}
use Rattle.laws_tokens.specs.Texts as of
use Rattle.laws_tokens.specs.Longest.{IsLongest, IsCut, nothing, token, passed, faulty, strange, stopped}
use Rattle.laws_tokens.specs.Laws.{TokensAreLongest}
use Rattle.laws_tokens.proofs.Fronts.{Other, first, first_by, dropped}
use Rattle.laws_tokens.proofs.Runs as runs
use Rattle.laws_tokens.proofs.Runs.{answer, Stands, stands, space_stands, number_stands, slot_stands}
use Rattle.laws_tokens.proofs.Blanks.{name_stands, mark_stands}
use Rattle.laws_tokens.proofs.Strings.{string_stands}
use Rattle.laws_tokens.proofs.Comments.{comment_stands}
use Rattle.laws_tokens.proofs.Operators.{operator_stands, part_some}

-- ---- the scanner

abbrev scan_by : ℕ → List ℕ → Bool → Bool → Bool → Bool → Bool → Bool → Bool → Scan
scan_by c cs white comment digit name mark quote hash =
    elim white as (λ _. Scan) [
      | true ↦ Skips 1
      | false ↦ elim comment as (λ _. Scan) [
        | true ↦ tok.comment_end 1 0 2 (drop 1 cs)
        | false ↦ elim digit as (λ _. Scan) [
          | true ↦ tok.number_scan (c ∷ cs)
          | false ↦ elim name as (λ _. Scan) [
            | true ↦ tok.name_scan (c ∷ cs)
            | false ↦ elim mark as (λ _. Scan) [
              | true ↦ tok.blank_after 0 (c ∷ cs)
              | false ↦ elim quote as (λ _. Scan) [
                | true ↦ tok.string_end false 1 cs
                | false ↦ elim hash as (λ _. Scan) [ true ↦ tok.slot_scan cs | false ↦ tok.operator_in signs (c ∷ cs) ]
              ]
            ]
          ]
        ]
      ]
    ]

other : (c : ℕ) → is_white c ≡ false → is_digit c ≡ false → begins_name c ≡ false → (c == 95) ≡ false → (c == 34) ≡ false → (c == 35) ≡ false → first c ≡ Other
other c w d n m q h =
    ap₂ (λ x y. first_by x y (begins_name c) (c == 95) (c == 34) (c == 35)) w d
    ∙ ap₂ (λ x y. first_by false false x y (c == 34) (c == 35)) n m
    ∙ ap₂ (λ x y. first_by false false false false x y) q h

pub scan_stands : (c : ℕ) (cs : List ℕ) → Stands (c ∷ cs) (tok.scan c cs)
scan_stands c cs = go (is_white c) (begins_with (codes "(*") (c ∷ cs)) (is_digit c) (begins_name c) (c == 95) (c == 34) (c == 35) refl refl refl refl refl refl refl
  where
    go : (white comment digit name mark quote hash : Bool) → is_white c ≡ white → begins_with (codes "(*") (c ∷ cs) ≡ comment → is_digit c ≡ digit → begins_name c ≡ name →
        (c == 95) ≡ mark → (c == 34) ≡ quote → (c == 35) ≡ hash → Stands (c ∷ cs) (scan_by c cs white comment digit name mark quote hash)
    go true k d n m q h ew ek ed en em eq eh = space_stands c cs ew
    go false true d n m q h ew ek ed en em eq eh = comment_stands c cs ek
    go false false true n m q h ew ek ed en em eq eh = number_stands c cs ed
    go false false false true m q h ew ek ed en em eq eh = name_stands c cs en
    go false false false false true q h ew ek ed en em eq eh = mark_stands c cs em
    go false false false false false true h ew ek ed en em eq eh = string_stands c cs eq
    go false false false false false false true ew ek ed en em eq eh = slot_stands c cs eh
    go false false false false false false false ew ek ed en em eq eh = operator_stands c cs (other c ew ed en em eq eh) ek

-- ---- the tokens

abbrev pub lexed_by : ℕ → List ℕ → Scan → Lexed
lexed_by at cs s =
    elim s as (λ _. Lexed) [
      | Takes kind n ↦ and_token (record { kind = kind; from = at; to = at + n }) (lex_from (suc at) (pred n) cs)
      | Skips n ↦ lex_from (suc at) (pred n) cs
      | Faults fault n ↦ record { tokens = []; fault = Some (fault (at + n)) }
    ]

abbrev AfterCut : ℕ → List ℕ → Type 0
AfterCut at cs = (n : ℕ) → IsCut (suc at + n) (drop n cs) (lex_from (suc at) n cs)

-- behind a front of the text
behind : (at c : ℕ) (cs front rest : List ℕ) → c ∷ cs ≡ front ++ rest → 0 < length front → AfterCut at cs → IsCut (at + length front) rest (lex_from (suc at) (pred (length front)) cs)
behind at c cs [] rest w s next = absurd (omega (arith, s))
behind at c cs (d ∷ ds) rest w s next =
    let e : cs ≡ ds ++ rest = cc in
    let place : suc at + length ds ≡ at + length (d ∷ ds) = omega arith in
    subst₂ (λ (k : ℕ) (xs : List ℕ). IsCut k xs (lex_from (suc at) (length ds) cs)) place (ap (drop (length ds)) e ∙ dropped ds rest) (next (length ds))

at_place : (at : ℕ) → at + 0 ≡ at
at_place at = omega arith

by_part : (at c : ℕ) (cs : List ℕ) (p : Part) (front rest : List ℕ) → IsLongest (c ∷ cs) p front rest → AfterCut at cs → IsCut at (c ∷ cs) (lexed_by at cs (answer p (length front)))
by_part at c cs (Whole kind) front rest l next = token at kind front rest l (behind at c cs front rest l.whole (part_some (Whole kind) front l.is) next)
by_part at c cs of.Space front rest l next = passed at of.Space front rest l refl (behind at c cs front rest l.whole (part_some of.Space front l.is) next)
by_part at c cs of.Comment front rest l next = passed at of.Comment front rest l refl (behind at c cs front rest l.whole (part_some of.Comment front l.is) next)
by_part at c cs of.Wide front rest l next = faulty at of.Wide front rest (tok.WideNumber (at + 0)) l (ap (λ k. Some (tok.WideNumber k)) (sym (at_place at)))
by_part at c cs of.BadSlot front rest l next = faulty at of.BadSlot front rest (tok.BadByte (at + 0)) l (ap (λ k. Some (tok.BadByte k)) (sym (at_place at)))
by_part at c cs of.OpenString front rest l next = faulty at of.OpenString front rest (tok.OpenString (at + 0)) l (ap (λ k. Some (tok.OpenString k)) (sym (at_place at)))
by_part at c cs of.BadEscape front rest l next = faulty at of.BadEscape front rest (tok.BadByte (at + pred (length front))) l refl
by_part at c cs of.OpenComment front rest l next = faulty at of.OpenComment front rest (tok.OpenComment (at + 0)) l (ap (λ k. Some (tok.OpenComment k)) (sym (at_place at)))

at_front : (at c : ℕ) (cs : List ℕ) (s : Scan) → Stands (c ∷ cs) s → AfterCut at cs → IsCut at (c ∷ cs) (lexed_by at cs s)
at_front at c cs s (stands p front rest l e) next = subst (λ (r : Scan). IsCut at (c ∷ cs) (lexed_by at cs r)) (sym e) (by_part at c cs p front rest l next)
at_front at c cs s (runs.strange none e) next =
    subst (λ (r : Scan). IsCut at (c ∷ cs) (lexed_by at cs r)) (sym e)
    (subst (λ k. IsCut at (c ∷ cs) (stopped (tok.BadByte k))) (sym (at_place at)) (strange at c cs none))

cut_from : (cs : List ℕ) (at skip : ℕ) → IsCut (at + skip) (drop skip cs) (lex_from at skip cs)
cut_from [] at zero = nothing (at + 0)
cut_from [] at (suc skip) = nothing (at + suc skip)
cut_from (c ∷ cs) at (suc skip) =
    let place : suc at + skip ≡ at + suc skip = omega arith in
    subst (λ (k : ℕ). IsCut k (drop skip cs) (lex_from (suc at) skip cs)) place (cut_from cs (suc at) skip)
cut_from (c ∷ cs) at zero =
    subst (λ (k : ℕ). IsCut k (c ∷ cs) (lex_from at 0 (c ∷ cs))) (sym (at_place at)) (at_front at c cs (tok.scan c cs) (scan_stands c cs) (λ n. cut_from cs (suc at) n))

pub are_longest : TokensAreLongest
are_longest text = cut_from text 0 0

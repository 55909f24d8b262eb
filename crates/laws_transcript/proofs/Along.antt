-- Cells that make no call are run along a journal without an entry.
use Rattle.std.proofs.Common.{◌≡◌, refl, sym, ap, subst, ◌∙◌, ℕ, suc, Bool, true, false, List, [], ◌∷◌, ◌++◌, length, take, drop, append-nil, append_assoc, Option, Some, None, T, true≢false, is_some, arith}
use Rattle.std.specs.Prelude.{leb, ltb, map, codes}
use Rattle.std.proofs.lemmas.Bool.{leb-true, leb-false, lt-ltb, le-ltb}
use Rattle.expr_tree.specs.Tree.{Tree, depth}
use Rattle.script_text.specs.Spelling.{by_texts, place_in}
use Rattle.semantics.specs.declared.builtin.Builtin.{Builtin}
use Rattle.semantics.specs.Names.{Names, is_name}
use Rattle.semantics.specs.Texts.{names_of}
use Rattle.semantics.specs.Definitions.{Definitions, empty}
use Rattle.semantics.specs.Program.{Mode}
use Rattle.semantics.specs.Play.{State, End, Play, Over, Calls, whole}
use Rattle.semantics.specs.Ends.{aborted, shown_end}
use Rattle.semantics.specs.Eval.{Outcome, Ended, Needs, Wrong, over, eval}
use Rattle.syntax.specs.Lines.{syntax_line}
use Rattle.syntax.specs.Lines as Lines
use Rattle.syntax.proofs.Read.{one_reading, one_offset}
use Rattle.journal.specs.Places.{given}
use Rattle.journal.specs.declared.event.Entry.{Entry}
use Rattle.journal.specs.Entry.{Text}
use Rattle.journal.specs.Core.{Setup, in_mode}
use Rattle.journal.specs.Run.{Walk, Course, Goes, going, Finish, play_along, Reading, Reads, Unread, Line, Printed, Out, Syntax, Ran, cell_lines, run_cell, run_cells, first_walk, run_along, whole_run, closes, legal, Legal, transcript, written}
use Rattle.journal.specs.Run as Run
use Rattle.journal.specs.Transcript.{AreReadings, line_text, transcript_text}
use Rattle.sequential_transcript.specs.Unbuilt.{has_unbuilt}
use Rattle.sequential_transcript.specs.Transcript.{limits_of, shown_in, alone, value_in, left_by, ran, line_of, PrintsCell, read, unread, Prints, none, next}
use Rattle.sequential_transcript.specs.Transcript as Sequential
use Rattle.laws_transcript.specs.Alone.{no_kernels, AreBuilt, close, joined, AloneIsRun}

-- ---- lists

all_dropped : {A : Type 0} (xs : List A) → drop (length xs) xs ≡ []
all_dropped [] = refl
all_dropped (x ∷ xs) = all_dropped xs

all_taken : {A : Type 0} (xs : List A) → take (length xs) xs ≡ xs
all_taken [] = refl
all_taken (x ∷ xs) = ap (λ ys. x ∷ ys) (all_taken xs)

written_both : (line : Line → Text) (ls ms : List Line) → written line (ls ++ ms) ≡ written line ls ++ written line ms
written_both line [] ms = refl
written_both line (l ∷ ls) ms = ap (λ t. line l ++ t) (written_both line ls ms) ∙ sym (append_assoc (line l) (written line ls) (written line ms))

-- ---- evaluations

end_is : {a b : End} → ◌≡◌ {A = Outcome} (Ended a) (Ended b) → a ≡ b
end_is {a} {b} e = ap from e
  where
    from : Outcome → End
    from (Ended x) = x
    from (Needs c) = a
    from Wrong = a

-- an evaluation that ended without a list goes along any walk, and leaves it
record Along (set : Setup) (p : Play) (end : End) (w : Walk) : Type 0 where
  state : State
  goes : play_along set p w ≡ Goes (record { end = end; state = state }, w)
  same : state.definitions ≡ (over p []).definitions

along : (set : Setup) (p : Play) (end : End) (w : Walk) → (over p []).outcome ≡ Ended end → Along set p end w
along set (Over o s) end w e = record { state = s; goes = ap (λ x. Goes (record { end = x; state = s }, w)) (end_is e); same = refl }
along set (Calls c s k) end w e = absurd (Prim.cc e)

-- the value of an evaluation that has one to show
record Shown (names : Names) (steps : ℕ) (o : Outcome) (v : Tree) : Type 0 where
  end : End
  ended : o ≡ Ended end
  is : shown_end names (limits_of steps) end ≡ v

shown : (names : Names) (steps : ℕ) (o : Outcome) (v : Tree) → value_in names (limits_of steps) o ≡ Some v → Shown names steps o v
shown names steps (Ended end) v e = record { end = end; ended = refl; is = ap (λ x. elim x [ None ↦ v | Some y ↦ y ]) e }
shown names steps (Needs c) v e = absurd (Prim.cc e)
shown names steps Wrong v e = absurd (Prim.cc e)

module _ (texts : List Text) (steps : ℕ) where
  abbrev set : Setup
  set = no_kernels texts steps

  abbrev names : Names
  names = names_of texts

  abbrev line : Line → Text
  line = line_text texts

  setting_is : alone (by_texts texts) names steps ≡ in_mode set Mode.Cell 0
  unfolding shown_in
  setting_is = refl

  -- a run that stands at a walk, with these definitions and lines
  abbrev at : Walk → Definitions → List Line → Ran
  at w d ls = record { walk = w; definitions = d; lines = ls }

  -- ---- lines

  out_is : (n : ℕ) (v : Tree) → written line (Run.out_line names n v) ≡ Lines.out_line (by_texts texts) names n v
  out_is n v = go (is_name names Builtin.Null v) refl
    where
      go : (b : Bool) → is_name names Builtin.Null v ≡ b → written line (elim b [ true ↦ [] | false ↦ Out n v ∷ [] ]) ≡ Lines.out_line (by_texts texts) names n v
      go true is = sym (ap (λ b. elim b [ true ↦ [] | false ↦ Lines.numbered_line (codes "Out") n (codes "= " ++ Lines.value_text (by_texts texts) names v) ]) is)
      go false is = append-nil (Lines.out_line (by_texts texts) names n v)

  lines_more : (ls ms : List Line) (t : Text) → written line ms ≡ t → written line (ls ++ ms) ≡ written line ls ++ t
  lines_more ls ms t e = written_both line ls ms ∙ ap (λ x. written line ls ++ x) e

  cell_is : (n : ℕ) (w : Walk) (v : Tree) → cell_lines set n w w v ≡ Run.out_line names n v
  cell_is n w v = ap (λ ts. map Printed ts ++ Run.out_line names n v) (all_dropped w.core.lines)

  -- ---- one cell

  record Cell (n : ℕ) (reading : Reading) (w : Walk) (d later : Definitions) (ls : List Line) (t : Text) : Type 0 where
    lines : List Line
    goes : run_cell set n reading (at w d ls) ≡ Goes (at w later lines)
    writes : written line lines ≡ written line ls ++ t

  unread_cell : (n place : ℕ) (w : Walk) (d : Definitions) (ls : List Line) → Cell n (Unread place) w d d ls (syntax_line n place)
  unread_cell n place w d ls = record { lines = ls ++ Syntax n place ∷ []; goes = refl; writes = lines_more ls (Syntax n place ∷ []) (syntax_line n place) (append-nil (syntax_line n place)) }

  -- an expression that is not evaluated, or whose evaluation makes no call
  evaluated : (n : ℕ) (w : Walk) (d : Definitions) (ls : List Line) (e v : Tree) → ltb 512 (depth e) ≡ false → value_in names (limits_of steps) (eval (alone (by_texts texts) names steps) d e []).outcome ≡ Some v
      → Cell n (Reads e) w d (eval (alone (by_texts texts) names steps) d e []).definitions ls (Lines.out_line (by_texts texts) names n v)
  unfolding eval
  evaluated n w d ls e v flat value =
      let s = shown names steps (eval (alone (by_texts texts) names steps) d e []).outcome v value in
      let t = along set (whole (alone (by_texts texts) names steps) d e) s.end w s.ended in
      record {
        lines = ls ++ cell_lines set n w w (shown_end names (limits_of steps) s.end);
        goes =
            ap (λ b. elim b [ true ↦ Goes (Run.with_lines (Run.out_line names n (aborted names)) (at w d ls)) | false ↦ going (play_along set (whole (in_mode set Mode.Cell 0) d e) w) after ]) flat
            ∙ (ap (λ x. going (play_along set (whole x d e) w) after) (sym setting_is)
            ∙ (ap (λ o. going o after) t.goes ∙ ap (λ c. Goes (at w c (ls ++ cell_lines set n w w (shown_end names (limits_of steps) s.end)))) t.same));
        writes =
            lines_more ls (cell_lines set n w w (shown_end names (limits_of steps) s.end)) (Lines.out_line (by_texts texts) names n v)
            (ap (written line) (cell_is n w (shown_end names (limits_of steps) s.end)) ∙ (ap (λ x. written line (Run.out_line names n x)) s.is ∙ out_is n v));
      }
    where
      after : Finish × Walk → Course Ran
      after r = Goes (Run.after_cell set n (at w d ls) r)

  too_deep : (n : ℕ) (w : Walk) (d : Definitions) (ls : List Line) (e : Tree) → ltb 512 (depth e) ≡ true → Cell n (Reads e) w d d ls (Lines.out_line (by_texts texts) names n (aborted names))
  too_deep n w d ls e deep =
      record {
        lines = ls ++ Run.out_line names n (aborted names);
        goes = ap (λ b. elim b [ true ↦ Goes (Run.with_lines (Run.out_line names n (aborted names)) (at w d ls)) | false ↦ going (play_along set (whole (in_mode set Mode.Cell 0) d e) w) (λ r. Goes (Run.after_cell set n (at w d ls) r)) ]) deep;
        writes = lines_more ls (Run.out_line names n (aborted names)) (Lines.out_line (by_texts texts) names n (aborted names)) (out_is n (aborted names));
      }

  abbrev ran_by : Definitions → Tree → Sequential.Ran
  ran_by d e = ran (by_texts texts) names (place_in texts) steps d e

  -- by whether it is within the depth, and whether a name that is not built stands in it
  abbrev made : Definitions → Tree → Bool → Bool → Sequential.Ran
  made d e b u =
      elim b [
        | false ↦ Sequential.leaves (Some (aborted names)) d
        | true ↦ elim u [ true ↦ Sequential.leaves None d | false ↦ left_by names (limits_of steps) (eval (alone (by_texts texts) names steps) d e []) ]
      ]

  -- what the sequential transcript makes of a cell that is read
  read_cell : (n : ℕ) (w : Walk) (d : Definitions) (ls : List Line) (e : Tree) → is_some (ran_by d e).value ≡ true
      → Cell n (Reads e) w d (ran_by d e).definitions ls (line_of (by_texts texts) names (place_in texts) steps n (ran_by d e).value)
  read_cell n w d ls e value = by_depth (leb (depth e) 512) refl value
    where
      by_value : (o : Option Tree) → value_in names (limits_of steps) (eval (alone (by_texts texts) names steps) d e []).outcome ≡ o → is_some o ≡ true → ltb 512 (depth e) ≡ false
          → Cell n (Reads e) w d (eval (alone (by_texts texts) names steps) d e []).definitions ls (line_of (by_texts texts) names (place_in texts) steps n o)
      by_value None is has flat = absurd (true≢false (sym has))
      by_value (Some v) is has flat = evaluated n w d ls e v flat is

      by_names : (u : Bool) → has_unbuilt names e ≡ u → is_some (made d e true u).value ≡ true → ltb 512 (depth e) ≡ false
          → Cell n (Reads e) w d (made d e true u).definitions ls (line_of (by_texts texts) names (place_in texts) steps n (made d e true u).value)
      by_names true is has flat = absurd (true≢false (sym has))
      by_names false is has flat = by_value (value_in names (limits_of steps) (eval (alone (by_texts texts) names steps) d e []).outcome) refl has flat

      by_depth : (b : Bool) → leb (depth e) 512 ≡ b → is_some (made d e b (has_unbuilt names e)).value ≡ true
          → Cell n (Reads e) w d (made d e b (has_unbuilt names e)).definitions ls (line_of (by_texts texts) names (place_in texts) steps n (made d e b (has_unbuilt names e)).value)
      by_depth false is has = too_deep n w d ls e (lt-ltb 512 (depth e) (leb-false (depth e) 512 is))
      by_depth true is has = by_names (has_unbuilt names e) refl has (le-ltb 512 (depth e) (leb-true (depth e) 512 is))

  -- ---- some cells

  record Cells (n : ℕ) (readings : List Reading) (w : Walk) (d : Definitions) (ls : List Line) (t : Text) : Type 0 where
    lines : List Line
    after : Definitions
    goes : run_cells set n readings (at w d ls) ≡ Goes (at w after lines)
    writes : written line lines ≡ written line ls ++ t

  more_cells : (n : ℕ) (reading : Reading) (readings : List Reading) (w : Walk) (d later : Definitions) (ls : List Line) (t u : Text)
      → (one : Cell n reading w d later ls t) → Cells (suc n) readings w later one.lines u → Cells n (reading ∷ readings) w d ls (t ++ u)
  more_cells n reading readings w d later ls t u one rest =
      record {
        lines = rest.lines;
        after = rest.after;
        goes = ap (λ o. going o (λ r. run_cells set (suc n) readings r)) one.goes ∙ rest.goes;
        writes = rest.writes ∙ (ap (λ x. x ++ u) one.writes ∙ append_assoc (written line ls) t u);
      }

  all_cells : (n : ℕ) (d : Definitions) (cells : List Text) (readings : List Reading) (lines : List Text) (w : Walk) (ls : List Line) → AreReadings texts cells readings → AreBuilt texts steps d readings
      → Prints (by_texts texts) names (place_in texts) steps d n cells lines → Cells n readings w d ls (joined lines)
  all_cells n d [] [] [] w ls are built p = record { lines = ls; after = d; goes = refl; writes = sym (append-nil (written line ls)) }
  all_cells n d [] [] (t ∷ ts) w ls are built p = elim p [ ]
  all_cells n d [] (r ∷ rs) lines w ls are built p = absurd are
  all_cells n d (c ∷ cs) [] lines w ls are built p = absurd are
  all_cells n d (c ∷ cs) (r ∷ rs) [] w ls are built p = elim p [ ]
  all_cells n d (c ∷ cs) (Unread place ∷ rs) (t ∷ ts) w ls are built (next (unread other q) ps) =
      let same : other ≡ place = one_offset names (place_in texts) c other place q are.0 in
      let one = subst (λ x. Cell n (Unread place) w d d ls (syntax_line n x)) (sym same) (unread_cell n place w d ls) in
      more_cells n (Unread place) rs w d d ls (syntax_line n other) (joined ts) one
      (all_cells (suc n) d cs rs ts w one.lines are.1 built (subst (λ k. Prints (by_texts texts) names (place_in texts) steps d k cs ts) (omega arith) ps))
  all_cells n d (c ∷ cs) (Unread place ∷ rs) (t ∷ ts) w ls are built (next (read e q) ps) = absurd (are.0.unread e q)
  all_cells n d (c ∷ cs) (Reads e ∷ rs) (t ∷ ts) w ls are built (next (unread other q) ps) = absurd (q.unread e are.0)
  all_cells n d (c ∷ cs) (Reads e ∷ rs) (t ∷ ts) w ls are built (next (read f q) ps) =
      let same : e ≡ f = one_reading names (place_in texts) c e f are.0 q in
      let one : Cell n (Reads e) w d (ran_by d f).definitions ls (line_of (by_texts texts) names (place_in texts) steps n (ran_by d f).value) =
      subst (λ x. Cell n (Reads e) w d (ran_by d x).definitions ls (line_of (by_texts texts) names (place_in texts) steps n (ran_by d x).value)) same
      (read_cell n w d ls e built.0) in
      more_cells n (Reads e) rs w d (ran_by d f).definitions ls _ (joined ts) one
      (all_cells (suc n) (ran_by d f).definitions cs rs ts w one.lines are.1
      (subst (λ x. AreBuilt texts steps (ran_by d x).definitions rs) same built.1)
      (subst (λ k. Prints (by_texts texts) names (place_in texts) steps (ran_by d f).definitions k cs ts) (omega arith) ps))

  -- ---- the whole

  abbrev journal : List Entry
  journal = close ∷ []

  so : (b : Bool) → b ≡ true → T b
  so b e = subst T (sym e) tt

  script_goes : (cells : List Text) (readings : List Reading) (lines : List Text) → AreReadings texts cells readings → AreBuilt texts steps empty readings
      → Prints (by_texts texts) names (place_in texts) steps empty 1 cells lines → Legal set [] readings journal × (transcript_text texts set false readings journal (length readings) ≡ Some (joined lines))
  script_goes cells readings lines are built p =
      let r = all_cells 1 empty cells readings lines (first_walk set journal) [] are built p in
      let taken : run_along set readings journal (length readings) ≡ Goes (at (first_walk set journal) r.after r.lines) = ap (λ cs. run_cells set 1 cs (at (first_walk set journal) empty [])) (all_taken readings) ∙ r.goes in (
        so (legal set [] readings journal) (ap (λ o. Run.kernels_run set [] (given (Run.arrived (going o (λ x. closes set x.walk))) (λ w. Some w.posted))) taken),
        ap (λ o. given (given (Run.arrived o) (λ x. Some (x.lines ++ []))) (λ ls. Some (written line ls))) taken
            ∙ ap Some (ap (written line) (append-nil r.lines) ∙ r.writes),
      )

pub alone_is_run : AloneIsRun
alone_is_run texts steps cells readings lines are built p = script_goes texts steps cells readings lines are built p

-- Evaluation over a list of calls with their replies and the definitions after them: `Play` followed along the list.
--     Event             a call that was answered, with the definitions after it
--     Evaluation        the five parts of a result: outcome, definitions, steps, `used`, the rest of the list
--     eval              an evaluation over a list
use Rattle.std.specs.Prelude.{ℕ, List, [], ◌∷◌, Bool, true, false, ◌&&◌}
use Rattle.std.specs.Ordering.{is_eq}
use Rattle.expr_tree.specs.declared.sym.Sym.{Sym}
use Rattle.expr_tree.specs.Tree.{Tree}
use Rattle.expr_tree.specs.Order.{same, same_symbol, text_cmp}
use Rattle.semantics.specs.Definitions.{Definitions}
use Rattle.semantics.specs.Program.{Request, Access, Count, Print, Outside, Call, Sends, Enter, Leave}
use Rattle.semantics.specs.Play.{State, Setting, End, Reply, Play, Over, Calls, whole}

pub record Event : Type 0 where
  pub call : Call
  pub reply : Reply
  pub after : Definitions

-- it ended; the list is used up at this call; the next call of the list is another
pub data Outcome : Type 0 where
  Ended : End → Outcome
  Needs : Call → Outcome
  Wrong : Outcome

pub record Evaluation : Type 0 where
  pub outcome : Outcome
  pub definitions : Definitions
  pub steps : ℕ
  pub used : Bool
  pub rest : List Event

abbrev pub reached : Outcome → State → List Event → Evaluation
reached o s rest = record { outcome = o; definitions = s.definitions; steps = s.steps; used = s.used; rest = rest }

abbrev pub same_symbols : List Sym → List Sym → Bool
same_symbols [] [] = true
same_symbols (s ∷ ss) (t ∷ ts) = same_symbol s t && same_symbols ss ts
same_symbols _ _ = false

abbrev pub same_request : Request → Request → Bool
same_request (Access e) (Access f) = same e f
same_request Count Count = true
same_request (Print t) (Print u) = is_eq (text_cmp t u)
same_request (Outside e) (Outside f) = same e f
same_request _ _ = false

abbrev pub same_call : Call → Call → Bool
same_call (Sends a) (Sends b) = same_request a b
same_call (Enter ss) (Enter ts) = same_symbols ss ts
same_call Leave Leave = true
same_call _ _ = false

-- the play goes on where the event is of the call that it needs
abbrev pub if_matched : Bool → State → Event → List Event → Evaluation → Evaluation
if_matched true s a rest goes_on = goes_on
if_matched false s a rest goes_on = reached Wrong s (a ∷ rest)

abbrev pub over : Play → List Event → Evaluation
over (Over o s) events = reached (Ended o) s events
over (Calls c s k) [] = reached (Needs c) s []
over (Calls c s k) (a ∷ rest) = if_matched (same_call a.call c) s a rest (over (k a.reply a.after) rest)

unfoldable pub eval : Setting → Definitions → Tree → List Event → Evaluation
eval set d e events = over (whole set d e) events

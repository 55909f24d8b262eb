-- ParallelTable, ParallelDo and ParallelSum as one call: the parts of the first iterator are asked for, from left to right, then the right side of
-- the option, and the form with their values is sent.
--     outward_row, inward_row      the row of a form, and that of the form which it is elsewhere
--     opened, is_shared     the symbol of the iterator is not shared
--     is_last_part, parts_with, parts_by      whether the value of the last part gives an iterator; its parts
--     asks, answered        the parts that are left are asked for; the same where the part before them has a value
--     sent_form, sent       the form with its parts, and that it is sent
--     further_with, after_parts, with_option      what stands behind the iterator; what follows its parts, and the right side of the option
--     left_parts, left_loop        the program that is left
--     questions             no fewer than the questions that are left
use Rattle.std.specs.Prelude.{ℕ, ◌+◌, ◌==◌, ℤ, pos, length, List, [], ◌∷◌, ◌++◌, Bool, true, false, not, ◌&&◌, is_some, Option, Some, None}
use Rattle.std.specs.Ordering.{int_eq}
use Rattle.expr_tree.specs.declared.sym.Sym.{Sym}
use Rattle.expr_tree.specs.Tree.{Tree, integer, string, symbol, normal}
use Rattle.semantics.specs.declared.builtin.Builtin.{Builtin}
use Rattle.semantics.specs.Names.{Names, is_call, make}
use Rattle.semantics.specs.Definitions.{Definitions, shared_as}
use Rattle.semantics.specs.Program.{Prog, Done, Ask}
use Rattle.semantics.specs.Control.{unless_shared}
use Rattle.semantics.specs.Sections.{checked_outer}
use Rattle.machine_outward.specs.declared.loop_call.LoopForm.{LoopForm}
use Rattle.machine_outward.specs.declared.loop_call.LoopCall.{LoopCall}
use Rattle.machine_outward.specs.declared.loop_parts.LoopParts.{LoopParts}
use Rattle.machine_outward.specs.declared.parallel_loop.LoopState.{LoopState}
use Rattle.machine_outward.specs.declared.parallel_loop.ParallelLoop.{ParallelLoop}
use Rattle.machine_outward.specs.Options.{option_call}

abbrev pub outward_row : LoopForm → Builtin
outward_row LoopForm.Table = Builtin.ParallelTable
outward_row LoopForm.Do = Builtin.ParallelDo
outward_row LoopForm.Sum = Builtin.ParallelSum

abbrev pub inward_row : LoopForm → Builtin
inward_row LoopForm.Table = Builtin.Table
inward_row LoopForm.Do = Builtin.Do
inward_row LoopForm.Sum = Builtin.Sum

abbrev pub opened : Names → Option Sym → Prog → Prog
opened names None p = p
opened names (Some i) p = unless_shared names i p

abbrev pub is_shared : Option Sym → Definitions → Bool
is_shared None d = false
is_shared (Some i) d = is_some (shared_as d.shared i)

-- a step is not 0, and a list of values is the only part
abbrev pub is_last_part : Names → Option Sym → List Tree → Tree → Bool
is_last_part names i known (integer n) = not ((length known == 2) && int_eq n (pos 0))
is_last_part names i known (string t) = false
is_last_part names i known (symbol s) = false
is_last_part names i known (normal h es) = is_some i && ((length known == 0) && is_call names Builtin.List (normal h es))

abbrev pub symbol_part : Option Sym → List Tree
symbol_part None = []
symbol_part (Some i) = symbol i ∷ []

abbrev pub parts_with : Option Sym → List Tree → Tree → List Tree
parts_with i known v = symbol_part i ++ (known ++ v ∷ [])

abbrev pub last_part : Names → Option Sym → List Tree → Tree → (List Tree → Prog) → Prog → Prog
last_part names i known v k stay = elim (is_last_part names i known v) [ true ↦ k (parts_with i known v) | false ↦ stay ]

abbrev pub parts_by : Names → Option Sym → List Tree → Tree → Option (List Tree)
parts_by names i known v = elim (is_last_part names i known v) [ true ↦ Some (parts_with i known v) | false ↦ None ]

-- the value has to be an integer
abbrev pub numbered : Tree → (ℤ → Prog) → Prog → Prog
numbered v k stay = elim v [ integer n ↦ k n | _ ↦ stay ]

abbrev pub asks : Names → Option Sym → List Tree → List Tree → (List Tree → Prog) → Prog → Prog
asks names i known [] k stay = stay
asks names i known (e ∷ []) k stay = Ask e (λ v. last_part names i known v k stay)
asks names i known (e ∷ f ∷ es) k stay = Ask e (λ v. numbered v (λ n. asks names i (known ++ integer n ∷ []) (f ∷ es) k stay) stay)

abbrev pub answered : Names → Option Sym → List Tree → List Tree → Tree → (List Tree → Prog) → Prog → Prog
answered names i known [] v k stay = last_part names i known v k stay
answered names i known (f ∷ es) v k stay = numbered v (λ n. asks names i (known ++ integer n ∷ []) (f ∷ es) k stay) stay

abbrev pub sent_form : Names → LoopCall → List Tree → List Tree → Tree
sent_form names c parts further = make names (outward_row c.form) (c.body ∷ make names Builtin.List parts ∷ further)

abbrev pub sent : Names → LoopCall → List Tree → List Tree → Prog
sent names c parts further = checked_outer names (outward_row c.form) (c.body ∷ make names Builtin.List parts ∷ further)

-- what stands behind the iterator, with this right side of the option
abbrev pub further_with : LoopCall → Option Tree → List Tree
further_with c None = c.further
further_with c (Some v) = elim c.option [ None ↦ c.further | Some o ↦ c.further ++ option_call o v ∷ [] ]

abbrev pub after_parts : Names → LoopCall → List Tree → Prog
after_parts names c parts = elim c.option [ None ↦ sent names c parts c.further | Some o ↦ Ask o.value (λ v. sent names c parts (further_with c (Some v))) ]

abbrev pub with_option : Names → LoopCall → List Tree → Prog → Option Tree → Prog
with_option names c parts stay None = stay
with_option names c parts stay (Some v) = sent names c parts (further_with c (Some v))

abbrev pub left_parts : Names → LoopCall → LoopParts → Prog → Option Tree → Prog
left_parts names c p stay None = opened names p.symbol (asks names p.symbol p.known p.rest (after_parts names c) stay)
left_parts names c p stay (Some v) = answered names p.symbol p.known p.rest v (after_parts names c) stay

abbrev pub replied : Prog → Option Tree → Prog
replied stay None = stay
replied stay (Some v) = Done v

abbrev pub left_at : Names → LoopCall → LoopState → Prog → Option Tree → Prog
left_at names c (LoopState.Parts p) stay = left_parts names c p stay
left_at names c (LoopState.Method parts) stay = with_option names c parts stay
left_at names c LoopState.Sent stay = replied stay

abbrev pub left_loop : Names → ParallelLoop → Prog → Option Tree → Prog
left_loop names f = left_at names f.call f.state

abbrev pub questions_at : LoopState → ℕ
questions_at (LoopState.Parts p) = length p.rest + 3
questions_at (LoopState.Method parts) = 2
questions_at LoopState.Sent = 1

abbrev pub questions : ParallelLoop → ℕ
questions f = questions_at f.state

-- Calls that may come and calls that may not, what the law excludes, and plays that do not fit.
use Rattle.std.proofs.Common.{◌≡◌, refl, subst, Bool, true, false, T, [], ◌∷◌, None, true≢false}
use Rattle.std.specs.Prelude.{pos}
use Rattle.expr_tree.specs.declared.sym.Sym.{Sym}
use Rattle.expr_tree.specs.Tree.{Tree, integer, symbol}
use Rattle.semantics.specs.declared.builtin.Builtin.{Builtin}
use Rattle.semantics.specs.Names.{Names, make}
use Rattle.semantics.specs.Definitions.{Definitions}
use Rattle.semantics.specs.Program.{Mode, Cell, Item, Service, Done, Outer, Section, Access, Outside, Sends, Enter, Leave}
use Rattle.semantics.specs.Play.{Setting, State, Value, Quit, Closed, Reply, Shut, Play, Over, Calls, Evaluator, run, begun, whole}
use Rattle.laws_calls.specs.Calls.{may_come, Fits, ended, called}
use Rattle.laws_calls.specs.Ends.{answered, may_end, EndsIn, at_end}
use Rattle.laws_calls.proofs.Passes.{calls_fit}

-- names in which these three rows differ
abbrev sample : Names
sample = record { place = λ r. elim r [ Builtin.ParallelMap ↦ 1 | Builtin.ParallelSubmit ↦ 2 | Builtin.List ↦ 3 | _ ↦ 0 ]; role = λ base. None }

abbrev a : Sym
a = record { base = 9; number = 0 }

abbrev sends : Mode → Bool → Tree → Bool
sends mode is_open e = may_come sample mode is_open (Sends (Outside e))

-- ParallelMap[a, {}]: in a cell, outside a section
abbrev mapped : Tree
mapped = make sample Builtin.ParallelMap (symbol a ∷ make sample Builtin.List [] ∷ [])

mapped_in_a_cell : sends Cell false mapped ≡ true
mapped_in_a_cell = refl

not_inside_a_section : sends Cell true mapped ≡ false
not_inside_a_section = refl

not_in_an_item : sends Item false mapped ≡ false
not_in_an_item = refl

-- ParallelSubmit[3]: also inside a section; with another shape never
submitted_inside : sends Cell true (make sample Builtin.ParallelSubmit (integer (pos 3) ∷ [])) ≡ true
submitted_inside = refl

no_other_shape : sends Cell false (make sample Builtin.ParallelSubmit []) ≡ false
no_other_shape = refl

-- no section in a service, none without locks, and none in another
section_in_an_item : may_come sample Item false (Enter (a ∷ [])) ≡ true
section_in_an_item = refl

no_section_in_a_service : may_come sample Service false (Enter (a ∷ [])) ≡ false
no_section_in_a_service = refl

no_section_without_locks : may_come sample Cell false (Enter []) ≡ false
no_section_without_locks = refl

no_leave_outside : may_come sample Cell false Leave ≡ false
no_leave_outside = refl

-- ---- what the law says of every evaluation

-- none in an item begins with a form that goes outward
no_form_in_an_item : (set : Setting) (d : Definitions) (e f : Tree) (s : State) (k : Reply → Definitions → Play) → set.mode ≡ Item → ¬ (whole set d e ≡ Calls (Sends (Outside f)) s k)
no_form_in_an_item set d e f s k item is = first (subst (Fits set.names set.mode true false) is (calls_fit set d e))
  where
    first : ¬ Fits set.names set.mode true false (Calls (Sends (Outside f)) s k)
    first (called now may next) = subst (λ m. T (may_come set.names m false (Sends (Outside f)))) item may

-- ---- plays that do not fit

-- a program, of no row, that sends an access in a cell
an_access_in_a_cell : (set : Setting) (ev : Evaluator) (e : Tree) (s : State) → set.mode ≡ Cell → ¬ Fits set.names set.mode true false (run set ev (Outer (Access e) Done) s)
an_access_in_a_cell set ev e s cell (called now may next) = subst (λ m. T (may_come set.names m false (Sends (Access e)))) cell may

-- one that enters a section without locks
a_section_without_locks : (set : Setting) (ev : Evaluator) (e : Tree) (d : Definitions) → set.mode ≡ Cell → ¬ Fits set.names set.mode true false (run set ev (Section [] e Done) (begun d))
a_section_without_locks set ev e d cell (called now may next) = subst (λ m. T (may_come set.names m false (Enter []))) cell may

-- a value inside a section
a_value_inside : (names : Names) (mode : Mode) (v : Tree) (s : State) → ¬ Fits names mode true true (Over (Value v) s)
a_value_inside names mode v s (ended now none) = true≢false (none refl)

-- Quit ends an item alone; Closed comes of a reply that says so
quit_ends_an_item : may_end Item true Quit ≡ true
quit_ends_an_item = refl

quit_ends_no_cell : may_end Cell true Quit ≡ false
quit_ends_no_cell = refl

closed_comes_of_a_reply : (may_end Cell true Closed ≡ false) × (may_end Cell (answered Shut true) Closed ≡ true)
closed_comes_of_a_reply = (refl, refl)

-- a play that ends a cell with Quit is none
quit_in_a_cell : (s : State) → EndsIn Cell true (Over Quit s) → ⊥
quit_in_a_cell s (at_end may) = may

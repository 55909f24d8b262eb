-- How rows begin.
use Rattle.std.proofs.Common.{◌≡◌, ◌∙◌, List, [], ◌∷◌, length, ◌==◌, Bool, true, ℕ, Option, Some, None, is_some, Result, Ok, Err, inl, inr, refl, sym, ap, suc, arith}
use Rattle.std.proofs.lemmas.Bool.{eqb-true}
use Rattle.std.specs.Result.{IsErrAnd}
use Rattle.expr_tree.specs.Tree.{Tree}
use Rattle.expr_tree.specs.declared.sym.Sym.{Sym}
use Rattle.semantics.specs.Definitions.{Definitions}
use Rattle.expr_tree.specs.declared.limits.Stop.{Stop}
use Rattle.semantics.specs.declared.builtin.Builtin.{Builtin}
use Rattle.semantics.specs.Attempt.{try_rules}
use Rattle.semantics.specs.Names.{Names}
use Rattle.semantics.specs.Program.{Prog, Done}
use Rattle.semantics.specs.Rule.{Rule}
use Rattle.semantics.specs.Table.{row, worked, as_program}
use Rattle.semantics.specs.Worked.{Worked, Stays, Gives, TooWide}
use Rattle.semantics.specs.Play.{Setting}
use Rattle.builtin_names.specs.Results.{IsFaultOf, Works}
use Rattle.builtin_names.specs.declared.fault.Fault.{Fault}
use Rattle.builtin_names.specs.declared.fault.Fault.TheVariants as fa
use Rattle.evaluation_steps.specs.declared.Exit.{Exit}
use Rattle.evaluation_steps.specs.declared.Halt.{Halt}
use Rattle.evaluation_steps.specs.Leads.{exit_of}
use Rattle.evaluation_steps.specs.Stopping.{HaltsFor}
use Rattle.machine_steps.specs.Steps.{Starts, StartsWhere, state_at}
use Rattle.machine_rows.specs.Machines.{left}
use Rattle.machine_rows.specs.declared.machine.Machine.{Machine}
use Rattle.eval_seq.specs.declared.machine.Start.{Start}
use Rattle.row_kinds.specs.Kinds.{is_plain, is_worked}
use Rattle.eval_seq.specs.Driven.{Opens, OpensFrom, started_as}
use Rattle.eval_seq.proofs.PlainRows.{element_works, plain_stays}

module _ {set : Setting} where
  pub opens_is : {p q : Prog → Prog} {r : Result Start Exit} → ((rest : Prog) → p rest ≡ q rest) → Opens set q r → Opens set p r
  opens_is {r = Ok start} e a = record { by = λ rest. e rest ∙ a.by rest }
  opens_is {r = Err (Exit.Stopped c)} e a =
      record { by = elim a.by [ inl f ↦ inl (λ rest. e rest ∙ f rest) | inr f ↦ inr (f.0, λ rest. e rest ∙ f.1 rest, f.2) ] }
  opens_is {r = Err (Exit.Throwing v)} e a = absurd a.by
  opens_is {r = Err (Exit.Thrown v)} e a = absurd a.by
  opens_is {r = Err Exit.Quit} e a = absurd a.by
  opens_is {r = Err Exit.Closed} e a = absurd a.by
  opens_is {r = Err Exit.NoMemory} e a = record { by = tt }

  pub opens_lost : {p : Prog → Prog} {r : Result Start Exit} → IsErrAnd r (λ y. y ≡ Exit.NoMemory) → Opens set p r
  opens_lost {r = Ok start} i = absurd i
  opens_lost {r = Err y} i = rw i (record { by = tt })

  -- ---- rules

  pub rules_none : (rules : List Rule) (e : Tree) → (length rules == 0) ≡ true → Opens set (λ rest. try_rules set.names rules e Done rest) (Ok (Start.Given None))
  rules_none [] e is = record { by = λ rest. refl }
  rules_none (r ∷ rs) e is = let same : suc (length rs) ≡ 0 = eqb-true (suc (length rs)) 0 is in absurd (omega (arith, same))

  pub rules_machine : (rules : List Rule) (e : Tree) {frame : Machine} → ((names : Names) (stay : Prog) → left names frame stay None ≡ try_rules names rules e Done stay) →
      Opens set (λ rest. try_rules set.names rules e Done rest) (Ok (Start.Machine frame))
  rules_machine rules e tries = record { by = λ rest. sym (tries set.names rest) }

  -- ---- rows that are functions of their elements

  pub opens_worked : (w : Worked) {o : Option Tree} → Works w (Ok o) → Opens set (λ rest. as_program rest w) (Ok (Start.Given o))
  opens_worked Stays {o = None} a = record { by = λ rest. refl }
  opens_worked Stays {o = Some e} a = absurd a.by
  opens_worked (Gives t) {o = None} a = absurd a.by
  opens_worked (Gives t) {o = Some e} a = record { by = λ rest. ap Done (sym a.by) }
  opens_worked TooWide a = absurd a.by

  halted_large : (t : Tree) (h : Halt) → HaltsFor set.limits t h → Opens set (λ rest. Done t) (Err (exit_of h))
  halted_large t (Halt.Stopped c) a = record { by = inr (t, λ rest. refl, a.by) }
  halted_large t Halt.NoMemory a = record { by = tt }

  pub opens_fault : (w : Worked) (f : Fault) {h : Halt} → Works w (Err f) → ((t : Tree) → IsFaultOf t f → HaltsFor set.limits t h) → (f ≡ fa.Range → h ≡ Halt.Stopped Stop.Range) → (f ≡ fa.NoMemory → h ≡ Halt.NoMemory) →
      Opens set (λ rest. as_program rest w) (Err (exit_of h))
  opens_fault Stays fa.Range a large range memory = absurd a.by
  opens_fault Stays fa.TooLarge a large range memory = absurd a.by
  opens_fault Stays (fa.TooDeep nodes) a large range memory = absurd a.by
  opens_fault Stays fa.NoMemory a large range memory = rw (memory refl) (record { by = tt })
  opens_fault (Gives t) f {h = h} a large range memory = halted_large t h (large t a.by)
  opens_fault TooWide fa.Range a large range memory = rw (range refl) (record { by = inl (λ rest. refl) })
  opens_fault TooWide fa.TooLarge a large range memory = absurd a.by
  opens_fault TooWide (fa.TooDeep nodes) a large range memory = absurd a.by
  opens_fault TooWide fa.NoMemory a large range memory = rw (memory refl) (record { by = tt })

  -- ---- the rows of the table

  pub row_plain : (b : Builtin) (items : List Tree) → is_plain b ≡ true → Opens set (λ rest. row set.names b rest items) (Ok (Start.Given None))
  row_plain b items e = record { by = λ rest. plain_stays set.names b rest items e }

  pub row_made : (b : Builtin) (items : List Tree) {r : Result Start Exit} → is_worked b ≡ true → Opens set (λ rest. as_program rest (worked set.names b items)) r → Opens set (λ rest. row set.names b rest items) r
  row_made b items e a = opens_is (λ rest. element_works set.names b rest items e) a

  pub row_machine : {E : Type 0} (b : Builtin) (items : List Tree) {frame : Machine} → Starts {E = E} (left set.names) (λ rest. row set.names b rest items) (Ok (Some frame)) →
      Opens set (λ rest. row set.names b rest items) (Ok (Start.Machine frame))
  row_machine b items a = record { by = a.by }

  pub row_stays : {E : Type 0} (b : Builtin) (items : List Tree) → Starts {E = E} (left set.names) (λ rest. row set.names b rest items) (Ok None) → Opens set (λ rest. row set.names b rest items) (Ok (Start.Given None))
  row_stays b items a = record { by = a.by }

  -- ---- rows that ask where they are evaluated

  pub started_from : {E : Type 0} (p : Prog → Prog) (d : Definitions) (steps : ℕ) (open_section : Option (List Sym)) {used used' : Bool} (r : Result (Option Machine) E) →
      StartsWhere set (left set.names) p (is_some open_section) used r used' → OpensFrom set p (state_at d used steps open_section) (started_as r) (state_at d used' steps open_section)
  started_from p d steps o (Ok (Some machine)) a = record { by = a.by d steps o refl }
  started_from p d steps o (Ok None) a = record { by = a.by d steps o refl }
  started_from p d steps o (Err e) a = record { by = tt }

-- The rows on one symbol, from what their parts tell.
use Rattle.std.proofs.Common.{◌≡◌, ◌∙◌, refl, sym, ap, Bool, true, false, true≢false}
use Rattle.std.specs.Prelude.{◌||◌, is_some}
use Rattle.expr_tree.specs.declared.sym.Sym.{Sym}
use Rattle.semantics.specs.Control.{failed}
use Rattle.semantics.specs.Definitions.{Definitions, definition_of}
use Rattle.semantics.specs.Program.{Prog}
use Rattle.semantics.specs.Play.{Setting, run, seen}
use Rattle.machine_steps.specs.Steps.{state_at}
use Rattle.machine_changes.specs.declared.single.Deed.{Deed}
use Rattle.machine_changes.specs.Single.{deed_on, done_to, fails_for, guarded}
use Rattle.machine_changes.proofs.Going.{Leads}

guard_fails : (set : Setting) (deed : Deed) (b : Bool) (p : Prog) {d : Definitions} {used : Bool} → fails_for deed b ≡ true → Leads set (guarded set.names deed b p) d used (failed set.names) d (b || used)
guard_fails set Deed.Clear b p h = absurd (true≢false (sym h))
guard_fails set Deed.ClearAll true p h = record { by = λ ev steps o. refl }
guard_fails set Deed.ClearAll false p h = absurd (true≢false (sym h))
guard_fails set (Deed.Add new) true p h = record { by = λ ev steps o. refl }
guard_fails set (Deed.Add new) false p h = absurd (true≢false (sym h))
guard_fails set (Deed.Remove old) true p h = record { by = λ ev steps o. refl }
guard_fails set (Deed.Remove old) false p h = absurd (true≢false (sym h))
guard_fails set Deed.Protect true p h = record { by = λ ev steps o. refl }
guard_fails set Deed.Protect false p h = absurd (true≢false (sym h))
guard_fails set Deed.Unprotect true p h = record { by = λ ev steps o. refl }
guard_fails set Deed.Unprotect false p h = absurd (true≢false (sym h))
guard_fails set Deed.Tell true p h = record { by = λ ev steps o. refl }
guard_fails set Deed.Tell false p h = absurd (true≢false (sym h))

guard_passes : (set : Setting) (deed : Deed) (b : Bool) (p : Prog) {d : Definitions} {used : Bool} → fails_for deed b ≡ false → Leads set (guarded set.names deed b p) d used p d (b || used)
guard_passes set Deed.Clear true p h = record { by = λ ev steps o. refl }
guard_passes set Deed.Clear false p h = record { by = λ ev steps o. refl }
guard_passes set Deed.ClearAll true p h = absurd (true≢false h)
guard_passes set Deed.ClearAll false p h = record { by = λ ev steps o. refl }
guard_passes set (Deed.Add new) true p h = absurd (true≢false h)
guard_passes set (Deed.Add new) false p h = record { by = λ ev steps o. refl }
guard_passes set (Deed.Remove old) true p h = absurd (true≢false h)
guard_passes set (Deed.Remove old) false p h = record { by = λ ev steps o. refl }
guard_passes set Deed.Protect true p h = absurd (true≢false h)
guard_passes set Deed.Protect false p h = record { by = λ ev steps o. refl }
guard_passes set Deed.Unprotect true p h = absurd (true≢false h)
guard_passes set Deed.Unprotect false p h = record { by = λ ev steps o. refl }
guard_passes set Deed.Tell true p h = absurd (true≢false h)
guard_passes set Deed.Tell false p h = record { by = λ ev steps o. refl }

pub done_fails : (set : Setting) (s : Sym) (deed : Deed) (b : Bool) {d : Definitions} {used used' : Bool} → b ≡ is_some (seen set.names d s).shared → fails_for deed b ≡ true → used' ≡ (b || used)
    → Leads set (done_to set.names s deed) d used (failed set.names) d used'
done_fails set s deed b {d = d} {used = used} e h u =
    record {
      by = λ ev steps o.
          ap (λ x. run set ev (guarded set.names deed x (deed_on set.names s deed (definition_of set.names d s))) (state_at d used steps o)) (sym e)
          ∙ (guard_fails set deed b (deed_on set.names s deed (definition_of set.names d s)) {d = d} {used = used} h).by ev steps o
          ∙ ap (λ v. run set ev (failed set.names) (state_at d v steps o)) (sym u);
    }

pub done_goes : (set : Setting) (s : Sym) (deed : Deed) (b : Bool) {d : Definitions} {used used' : Bool} → b ≡ is_some (seen set.names d s).shared → fails_for deed b ≡ false → used' ≡ (b || used)
    → Leads set (done_to set.names s deed) d used (deed_on set.names s deed (definition_of set.names d s)) d used'
done_goes set s deed b {d = d} {used = used} e h u =
    record {
      by = λ ev steps o.
          ap (λ x. run set ev (guarded set.names deed x (deed_on set.names s deed (definition_of set.names d s))) (state_at d used steps o)) (sym e)
          ∙ (guard_passes set deed b (deed_on set.names s deed (definition_of set.names d s)) {d = d} {used = used} h).by ev steps o
          ∙ ap (λ v. run set ev (deed_on set.names s deed (definition_of set.names d s)) (state_at d v steps o)) (sym u);
    }

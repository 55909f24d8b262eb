-- The questions of scoping forms grow fewer.
use Rattle.std.proofs.Common.{◌≡◌, ◌<◌, ℕ, suc, List, [], ◌∷◌, ◌++◌, drop, pos, Bool, true, false, Option, Some, None, Result, Ok, Err, refl, ap, sym, ◌∙◌, arith}
use Rattle.expr_tree.specs.declared.limits.Limits.{Limits}
use Rattle.expr_tree.specs.declared.sym.Sym.{Sym}
use Rattle.expr_tree.specs.Substitution.{Binding}
use Rattle.expr_tree.specs.Tree.{Tree, integer}
use Rattle.semantics.specs.Names.{Names}
use Rattle.semantics.specs.InPlace.{put_in_place}
use Rattle.semantics.specs.Program as p
use Rattle.semantics.specs.Program.{Prog, Done, Ask, Within}
use Rattle.semantics.specs.Scoping.{ask_values, make_all, with_number, renaming, module_form, unless_any_shared}
use Rattle.evaluation_steps.specs.Moves as m
use Rattle.evaluation_steps.specs.Moves.{Moved, Shows, same, fitting, turning}
use Rattle.frames_scope.specs.ScopingLeft as scope
use Rattle.frames_scope.specs.ScopingLeft.{left_asking, ask_each, left_with}
use Rattle.frames_scope.specs.Reading.{locals_in}
use Rattle.frames_scope.specs.declared.block_form.Block.{Block}
use Rattle.frames_scope.specs.declared.module_form.Module.{Module}
use Rattle.frames_scope.specs.declared.with_form.With.{With}
use Rattle.evaluation_steps.specs.declared.Halt.{Halt}
use Rattle.machine_steps.specs.declared.moves.Move.{Move}
use Rattle.machine_steps.specs.Steps.{Falls}
use Rattle.machine_rows.specs.Asking.{asks, IsSteady}

shows_asks : {limits : Limits} {a b : Prog} → Shows limits a b → asks a ≡ asks b
shows_asks same = refl
shows_asks (fitting f s) = shows_asks s

turning_asks : (turn : Bool) (a : Prog) → asks (turning turn a) ≡ asks a
turning_asks true a = refl
turning_asks false a = refl

-- a question leaves one fewer
fewer : {limits : Limits} {a : Prog} {rest : Option Tree → Prog} (turn : Bool) (b : Prog) → Shows limits a (turning turn b) → asks b ≡ suc (asks (rest (Some (integer (pos 0))))) → IsSteady rest → (v : Option Tree) → asks (rest v) < asks a
fewer turn b s one steady v =
    let shown = shows_asks s in
    let turned = turning_asks turn b in
    let others = steady.by v (Some (integer (pos 0))) in
    omega (arith, shown, turned, one, others)

pub falls_asks : {limits : Limits} {a : Prog} {rest : Option Tree → Prog} (e : Tree) (turn : Bool) → Moved limits a (Ok (m.Asks e turn)) rest → IsSteady rest → (v : Option Tree) → asks (rest v) < asks a
falls_asks {rest = rest} e turn g steady v = fewer {rest = rest} turn (Ask e (λ v. rest (Some v))) g.by refl steady v

pub falls_within : {limits : Limits} {a : Prog} {rest : Option Tree → Prog} (ls : List p.Local) (e : Tree) (turn : Bool) → Moved limits a (Ok (m.Locals ls e turn)) rest → IsSteady rest → (v : Option Tree) → asks (rest v) < asks a
falls_within {rest = rest} ls e turn g steady v = fewer {rest = rest} turn (Within ls e (λ v. rest (Some v))) g.by refl steady v

-- more questions were left before
pub falls_less : (r : Result Move Halt) (f : Option Tree → ℕ) (m : ℕ) {n : ℕ} → m < n → Falls r m f → Falls r n f
falls_less (Ok (Move.Ask e turn)) f m less l = λ v. let on = l v in omega (arith, on, less)
falls_less (Ok (Move.Within ls e turn)) f m less l = λ v. let on = l v in omega (arith, on, less)
falls_less (Ok (Move.Catch e)) f m less l = λ v. let on = l v in omega (arith, on, less)
falls_less (Ok (Move.Section locks e)) f m less l = λ v. let on = l v in omega (arith, on, less)
falls_less (Ok (Move.Call request)) f m less l = λ v. let on = l v in omega (arith, on, less)
falls_less (Ok Move.Turn) f m less l = λ v. let on = l v in omega (arith, on, less)
falls_less (Ok (Move.Done e)) f m less l = tt
falls_less (Ok Move.Stays) f m less l = tt
falls_less (Ok (Move.Throw e)) f m less l = tt
falls_less (Ok Move.Quit) f m less l = tt
falls_less (Err h) f m less l = tt

-- ---- the forms are steady

-- the values that are asked for, and so many questions after them
abbrev valued : List p.Local → ℕ → ℕ
valued [] n = n
valued (l ∷ ls) n = elim l.value as (λ _. ℕ) [ None ↦ valued ls n | Some v ↦ suc (valued ls n) ]

values_asks : (ls done : List p.Local) (k : List p.Local → Prog) (n : ℕ) → ((ms : List p.Local) → asks (k ms) ≡ n) → asks (ask_values ls done k) ≡ valued ls n
values_asks [] done k n after = after done
values_asks (l ∷ ls) done k n after = by_value l.value (λ ms. values_asks ls ms k n after)
  where
    by_value : (o : Option Tree) → ((ms : List p.Local) → asks (ask_values ls ms k) ≡ valued ls n) → asks (elim o as (λ _. Prog) [
      | None ↦ ask_values ls (done ++ l ∷ []) k
      | Some v ↦ Ask v (λ w. ask_values ls (done ++ record { symbol = l.symbol; value = Some w } ∷ []) k)
    ]) ≡ elim o as (λ _. ℕ) [ None ↦ valued ls n | Some v ↦ suc (valued ls n) ]
    by_value None later = later _
    by_value (Some v) later = ap suc (later _)

make_asks : (ls : List p.Local) (a : Prog) → asks (make_all ls a) ≡ asks a
make_asks [] a = refl
make_asks (l ∷ ls) a = make_asks ls a

module_after : (names : Names) (n : ℕ) (body : Tree) (ls : List p.Local) → asks (make_all (with_number n ls) (Done (put_in_place names (renaming n ls) body))) ≡ 0
module_after names n body ls = make_asks (with_number n ls) (Done (put_in_place names (renaming n ls) body))

-- the number does not matter
pub number_asks : (names : Names) (ls : List p.Local) (body : Tree) (n : ℕ) →
    asks (ask_values ls [] (λ ms. make_all (with_number n ms) (Done (put_in_place names (renaming n ms) body)))) ≡ asks (module_form names ls body)
number_asks names ls body n = values_asks ls [] _ 0 (module_after names n body) ∙ sym (values_asks ls [] _ 0 (module_after names 0 body))

pub module_steady : (names : Names) (f : Module) → IsSteady (scope.left_module names f)
module_steady names f = record {
  by = λ v w. values_asks (locals_in (drop f.asking.place f.asking.locals)) _ _ 0 (module_after names f.number f.body)
      ∙ sym (values_asks (locals_in (drop f.asking.place f.asking.locals)) _ _ 0 (module_after names f.number f.body));
}

pub block_steady : (names : Names) (f : Block) → IsSteady (scope.left_block names f)
block_steady names (Block.Values a body) = record {
  by = λ v w. values_asks (locals_in (drop a.place a.locals)) _ (λ ls. Within ls body Done) 1 (λ ls. refl) ∙ sym (values_asks (locals_in (drop a.place a.locals)) _ (λ ls. Within ls body Done) 1 (λ ls. refl));
}
block_steady names Block.Body = record { by = λ v w. none' v ∙ sym (none' w) }
  where
    none' : (v : Option Tree) → asks (scope.left_block names Block.Body v) ≡ 0
    none' None = refl
    none' (Some v) = refl

abbrev each : List (Sym × Tree) → ℕ
each [] = 0
each (l ∷ ls) = suc (each ls)

each_asks : (ls : List (Sym × Tree)) (done : Binding) (k : Binding → Prog) → ((b : Binding) → asks (k b) ≡ 0) → asks (ask_each ls done k) ≡ each ls
each_asks [] done k after = after done
each_asks (l ∷ ls) done k after = ap suc (each_asks ls _ k after)

pub with_steady : (names : Names) (f : With) → IsSteady (left_with names f)
with_steady names f = record { by = λ v w. each_asks (drop f.place f.locals) _ _ (λ b. refl) ∙ sym (each_asks (drop f.place f.locals) _ _ (λ b. refl)) }

-- where no symbol is shared
pub block_asks : (names : Names) (ss : List Sym) (a : Prog) → asks (unless_any_shared names ss a) ≡ asks a
block_asks names [] a = refl
block_asks names (s ∷ ss) a = block_asks names ss a

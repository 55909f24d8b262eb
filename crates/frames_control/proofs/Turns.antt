-- The programs of the turn forms, by their heads.
use Rattle.std.proofs.Common.{◌≡◌, ◌∙◌, sym, ap, subst, ℕ, length, get_or, List, [], ◌∷◌, Option, Some, None, Bool, true, false, Result, arith}
use Rattle.std.specs.Prelude.{MatchOption}
use Rattle.expr_tree.specs.Tree.{Tree, call}
use Rattle.expr_tree.specs.Order.{same}
use Rattle.expr_tree.specs.declared.limits.Limits.{Limits}
use Rattle.semantics.specs.declared.builtin.Builtin.{Builtin}
use Rattle.semantics.specs.Names.{Names, is_name}
use Rattle.semantics.specs.Program.{Prog, Done, Ask}
use Rattle.semantics.specs.Control.{null, applied, until_fixed, fixed_point, most_turns, selected, while_true, while}
use Rattle.evaluation_steps.specs.declared.Halt.{Halt}
use Rattle.evaluation_steps.specs.Moves.{Move, Moved}
use Rattle.frames_control.specs.declared.fixed_point.FixedPoint.{FixedPoint}
use Rattle.frames_control.specs.declared.select.Select.{Select}
use Rattle.frames_control.specs.declared.while_loop.While.{While}
use Rattle.frames_control.specs.TurnForms.{left_fixed_point, left_select, but_last, without_last, left_while, tested}

pub moved_as : {limits : Limits} {p q : Prog} {r : Result Move Halt} {rest : Option Tree → Prog} → p ≡ q → Moved limits q r rest → Moved limits p r rest
moved_as {limits = limits} {r = r} {rest = rest} e m = subst (λ x. Moved limits x r rest) (sym e) m

-- a function at some elements is asked for
pub applies : (f : Tree) (es fs : List Tree) {limits : Limits} {p : Prog} {r : Result Move Halt} {rest : Option Tree → Prog} →
    es ≡ fs → ((k : Option Tree → Prog) → Moved limits (applied f es (λ v. k (Some v))) r k) → p ≡ applied f fs (λ v. rest (Some v)) → Moved limits p r rest
applies f es fs {limits = limits} {r = r} {rest = rest} e asks is =
    moved_as is (subst (λ xs. Moved limits (applied f xs (λ v. rest (Some v))) r rest) e (asks rest))

fixed_at : {m n : ℕ} {f g x y : Tree} → n ≡ m → g ≡ f → y ≡ x → until_fixed m f x ≡ until_fixed n g y
fixed_at a b c = cc

pub fixed_starts : (stay : Prog) (items : List Tree) {a b g y : Tree} {n : ℕ} →
    length items ≡ 2 → a ≡ get_or items 0 a → b ≡ get_or items 1 b → g ≡ a → y ≡ b → n ≡ most_turns → fixed_point stay items ≡ until_fixed n g y
fixed_starts stay [] l i j c d e = absurd (omega arith)
fixed_starts stay (f ∷ []) l i j c d e = absurd (omega arith)
fixed_starts stay (f ∷ x ∷ []) l i j c d e = fixed_at e (c ∙ i) (d ∙ j)
fixed_starts stay (f ∷ x ∷ z ∷ es) l i j c d e = absurd (omega arith)

while_at : (names : Names) {m n : ℕ} {f g x y : Tree} → n ≡ m → g ≡ f → y ≡ x → while_true names m f x ≡ while_true names n g y
while_at names a b c = cc

pub while_starts : (names : Names) (stay : Prog) (items : List Tree) {a b g y : Tree} {n : ℕ} →
    length items ≡ 2 → a ≡ get_or items 0 a → b ≡ get_or items 1 b → g ≡ a → y ≡ b → n ≡ most_turns → while names stay items ≡ while_true names n g y
while_starts names stay [] l i j c d e = absurd (omega arith)
while_starts names stay (f ∷ []) l i j c d e = absurd (omega arith)
while_starts names stay (f ∷ x ∷ []) l i j c d e = while_at names e (c ∙ i) (d ∙ j)
while_starts names stay (f ∷ x ∷ z ∷ es) l i j c d e = absurd (omega arith)

-- a value that is that before it
pub fixed_done : (f : FixedPoint) (v : Tree) → same v f.value ≡ true → left_fixed_point f (Some v) ≡ Done v
fixed_done f v h = ap (λ (b : Bool). elim b as (λ _. Prog) [ true ↦ Done v | false ↦ until_fixed f.turns f.function v ]) h

pub popped : (o : Option Tree) (xs ys : List Tree) → MatchOption o ((xs ≡ []) × (ys ≡ [])) (λ e. xs ≡ e ∷ ys) → ys ≡ but_last xs
popped None xs ys h = h.1 ∙ sym (ap but_last h.0)
popped (Some e) xs ys h = sym (ap but_last h)

pub rejected : (names : Names) (f : Select) (v : Tree) → is_name names Builtin.True v ≡ false → left_select names f (Some v) ≡ without_last names f
rejected names f v h =
    ap (λ (b : Bool). elim b as (λ _. Prog) [ true ↦ selected names f.function f.rest f.kept (λ done. Done (call f.head done)) | false ↦ without_last names f ]) h

pub is_tested : (names : Names) (f : While) (answer : Option Tree) → f.testing ≡ true → left_while names f answer ≡ tested names f answer
is_tested names f answer h = ap (λ (b : Bool). elim b as (λ _. Prog) [ true ↦ tested names f answer | false ↦ while_true names f.turns f.test f.body ]) h

pub test_holds : (names : Names) (f : While) (v : Tree) → is_name names Builtin.True v ≡ true → tested names f (Some v) ≡ Ask f.body (λ _. while_true names f.turns f.test f.body)
test_holds names f v h = ap (λ (b : Bool). elim b as (λ _. Prog) [ true ↦ Ask f.body (λ _. while_true names f.turns f.test f.body) | false ↦ null names ]) h

pub test_fails : (names : Names) (f : While) (v : Tree) → is_name names Builtin.True v ≡ false → tested names f (Some v) ≡ null names
test_fails names f v h = ap (λ (b : Bool). elim b as (λ _. Prog) [ true ↦ Ask f.body (λ _. while_true names f.turns f.test f.body) | false ↦ null names ]) h

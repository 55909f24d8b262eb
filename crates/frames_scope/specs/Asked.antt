-- How the values of locals are asked for.
--     Goes                  a question, and what is left after its answer; or the locals with their values
use Rattle.std.specs.Prelude.{◌≡◌, ◌<◌, ◌+◌, ◌-◌, ℕ, length, [], ◌∷◌, List, Option, Some, None}
use Rattle.expr_tree.specs.Tree.{Tree}
use Rattle.semantics.specs.Program as p
use Rattle.semantics.specs.Program.{Prog, Ask}
use Rattle.frames_scope.specs.Reading.{locals_in}
use Rattle.frames_scope.specs.ScopingLeft.{left_asking, left_with}
use Rattle.semantics.specs.Scoping.{with_number, renaming, values_in, with_form}
use Rattle.frames_scope.specs.declared.locals.Local.{Local}
use Rattle.frames_scope.specs.declared.moves.ScopeMove.{ScopeMove}
use Rattle.frames_scope.specs.declared.block_form.Block.{Block}
use Rattle.frames_scope.specs.declared.with_form.With.{With}
use Rattle.semantics.specs.Names.{Names}
use Rattle.expr_tree.specs.declared.sym.Sym.{Sym}
use Rattle.frames_scope.specs.declared.asking.Asking.{Asking}

abbrev pub GoesBy : Asking → Option Tree → Option Tree → Asking → Type 0
GoesBy old answer None new = (k : List p.Local → Prog) → left_asking old answer k ≡ k (locals_in new.done)
GoesBy old answer (Some e) new = (k : List p.Local → Prog) → left_asking old answer k ≡ Ask e (λ v. left_asking new (Some v) k)

pub record Goes (old : Asking) (answer question : Option Tree) (new : Asking) : Type 0 where
  pub by : GoesBy old answer question new

-- the locals that are still looked at
abbrev pub locals_left : Asking → ℕ
locals_left a = length a.locals - a.place

abbrev pub FallsBy : Option Tree → ℕ → ℕ → Type 0
FallsBy None new old = Unit {0}
FallsBy (Some e) new old = new < old

abbrev pub block_left : Block → ℕ
block_left (Block.Values a body) = locals_left a + 1
block_left Block.Body = 0

-- symbols are made with these values, and the body has them in the place of the old ones
abbrev pub IsMade : ℕ → List Local → Tree → ScopeMove → Type 0
IsMade number done body (ScopeMove.Make ls b e) =
    (locals_in ls ≡ with_number number (locals_in done)) × (b ≡ renaming number (locals_in done)) × (e ≡ body)
IsMade number done body _ = ⊥

-- the locals that all have values
abbrev pub all_valued : List (Sym × Tree) → List p.Local
all_valued [] = []
all_valued (l ∷ ls) = record { symbol = l.0; value = Some l.1 } ∷ all_valued ls

abbrev pub IsValuedBy : List p.Local → Option (List (Sym × Tree)) → Type 0
IsValuedBy ls None = values_in ls ≡ None
IsValuedBy ls (Some vs) = ls ≡ all_valued vs

pub record IsValued (ls : List p.Local) (r : Option (List (Sym × Tree))) : Type 0 where
  pub by : IsValuedBy ls r

-- the form begins with a machine, or stays as it is
abbrev pub StartsWithBy : Names → List p.Local → Tree → Option With → Type 0
StartsWithBy names ls body None = (stay : Prog) → with_form names stay ls body ≡ stay
StartsWithBy names ls body (Some f) = (stay : Prog) → with_form names stay ls body ≡ left_with names f None

pub record StartsWith (names : Names) (ls : List p.Local) (body : Tree) (r : Option With) : Type 0 where
  pub by : StartsWithBy names ls body r

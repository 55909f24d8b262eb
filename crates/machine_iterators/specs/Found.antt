-- What follows from the value of a part.
--     Finds                 the program goes on so
--     Fewer                 fewer questions are left
use Rattle.std.specs.Prelude.{◌≡◌, ◌≤◌, ◌^◌, ℕ, length, [], Option, None, Ok}
use Rattle.expr_tree.specs.Tree.{Tree}
use Rattle.semantics.specs.Names.{Names}
use Rattle.semantics.specs.Program.{Prog}
use Rattle.machine_steps.specs.Steps.{headed, Falls}
use Rattle.machine_iterators.specs.declared.body.Body.{Body}
use Rattle.machine_iterators.specs.declared.parts.Found.{Found}
use Rattle.machine_iterators.specs.IterationLeft.{values_in, left_turns}

abbrev pub FindsBy : Names → Body → Prog → Prog → Found → (Option Tree → Prog) → Type 0
FindsBy names b p stay (Found.Moves m) rest = p ≡ headed m stay rest
FindsBy names b p stay (Found.Values w) rest = p ≡ left_turns names b (record { values = w; done = [] }) None

pub record Finds (names : Names) (b : Body) (p stay : Prog) (f : Found) (rest : Option Tree → Prog) : Type 0 where
  pub by : FindsBy names b p stay f rest

abbrev pub Fewer : Found → ℕ → (Option Tree → ℕ) → Type 0
Fewer (Found.Moves m) before after = Falls (Ok m) before after
Fewer (Found.Values w) before after = length (values_in w) ≤ 2 ^ 128

-- How ParallelTable, ParallelDo and ParallelSum begin.
--     IsShape               an iterator of these elements asks for these parts, or stays as it is
--     asking_option, IsSplit       the right side of the option, where there is one, is asked for; elements are split so
--     Finds, Fewer          what follows from the value of a part
use Rattle.std.specs.Prelude.{◌≡◌, List, [], ◌∷◌, ◌++◌, ℕ, Option, Some, None, Ok}
use Rattle.expr_tree.specs.declared.sym.Sym.{Sym}
use Rattle.expr_tree.specs.Tree.{Tree}
use Rattle.semantics.specs.Names.{Names}
use Rattle.semantics.specs.Program.{Prog, Ask}
use Rattle.semantics.specs.Control.{Values, iterator_parts}
use Rattle.semantics.specs.Sections.{ask_option}
use Rattle.machine_steps.specs.Steps.{headed, Falls}
use Rattle.machine_outward.specs.declared.loop_call.LoopCall.{LoopCall}
use Rattle.machine_outward.specs.declared.loop_parts.Found.{Found}
use Rattle.machine_outward.specs.declared.loop_parts.Shape.{Shape}
use Rattle.machine_outward.specs.declared.options.MethodOption.{MethodOption}
use Rattle.machine_outward.specs.declared.options.Split.{Split}
use Rattle.machine_outward.specs.Loops.{opened, asks, after_parts}
use Rattle.machine_outward.specs.Options.{option_call}

abbrev pub IsShapeBy : List Tree → Option Shape → Type 0
IsShapeBy es None = (names : Names) (k : Option Sym → Values → List Tree → Prog) (stay : Prog) → iterator_parts names es k stay ≡ stay
IsShapeBy es (Some s) = (names : Names) (k : List Tree → Prog) (stay : Prog) →
    iterator_parts names es (λ i values parts. k parts) stay ≡ opened names s.symbol (asks names s.symbol [] s.parts.now k stay)

pub record IsShape (es : List Tree) (r : Option Shape) : Type 0 where
  pub by : IsShapeBy es r

abbrev pub asking_option : List Tree → Option MethodOption → (List Tree → Prog) → Prog
asking_option before None k = k before
asking_option before (Some o) k = Ask o.value (λ v. k (before ++ option_call o v ∷ []))

pub record IsSplit (names : Names) (es : List Tree) (s : Split) : Type 0 where
  pub by : (k : List Tree → Prog) → ask_option names es k ≡ asking_option s.before s.option k

abbrev pub FindsBy : Names → LoopCall → Prog → Prog → Found → (Option Tree → Prog) → Type 0
FindsBy names c p stay (Found.Moves m) rest = p ≡ headed m stay rest
FindsBy names c p stay (Found.Parts parts) rest = p ≡ after_parts names c parts

-- where the machine goes on, fewer questions are left
abbrev pub Fewer : Found → ℕ → (Option Tree → ℕ) → Type 0
Fewer (Found.Moves m) before after = Falls (Ok m) before after
Fewer (Found.Parts parts) before after = Unit {0}

pub record Finds (names : Names) (c : LoopCall) (p stay : Prog) (f : Found) (rest : Option Tree → Prog) : Type 0 where
  pub by : FindsBy names c p stay f rest

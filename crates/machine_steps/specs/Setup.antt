-- What an evaluation has from its caller.
--     mode_of, setting_of   what does not change during it
--     state_of              what does
use Rattle.std.specs.Prelude.{ℕ, List}
use Rattle.expr_tree.specs.Tree.{Tree}
use Rattle.name_table.specs.Table.{NameTable}
use Rattle.script_text.specs.Spelling.{by_texts}
use Rattle.semantics.specs.Program as p
use Rattle.semantics.specs.Play.{Setting, State}
use Rattle.semantics.specs.Texts.{names_of}
use Rattle.builtin_names.specs.Named.{names_in}
use Rattle.syntax.specs.Lines.{value_text}
use Rattle.machine_steps.specs.declared.scene.Mode.{Mode}
use Rattle.machine_steps.specs.declared.scene.Scene.{Scene}
use Rattle.machine_steps.specs.declared.state.KernelState.{KernelState}

abbrev pub mode_of : Mode → p.Mode
mode_of Mode.Cell = p.Cell
mode_of Mode.Item = p.Item
mode_of Mode.Service = p.Service

-- the text of a value, as an Out line shows it
unfoldable pub shown_by : NameTable → Tree → List ℕ
shown_by table = value_text (by_texts table.texts) (names_of table.texts)

abbrev pub setting_of : Scene → Setting
setting_of c =
    record {
      names = names_in c.names.now;
      shown = shown_by c.names.now;
      mode = mode_of c.mode;
      kernel = c.kernel;
      limits = c.limits;
    }

abbrev pub state_of : KernelState → State
state_of k = record { definitions = k.defs; steps = k.steps; used = k.used; open_section = k.open_section }

use Rattle.std.proofs.Common.{ap, length, ◌∙◌, arith}
use Rattle.sequential_transcript.specs.Transcript.{written_names}
use Rattle.script_run.proofs.NameLemmas.{names_fit}
use Rattle.script_run.proofs.script_names.names_of_script.Goals as goal

pub names_with-requires : goal.names_with-requires
names_with-requires c = omega (arith, names_fit c.args.script.now c.requires.short, ap length (c.in_ok-written.ensures ∙ ap written_names c.requires.cells))

use Rattle.std.proofs.Common.{ap, ◌∙◌}
use Rattle.semantics.specs.Definitions.{definition_of}
use Rattle.builtin_names.specs.Named.{names_in}
use Rattle.machine_steps.specs.Setup.{setting_of}
use Rattle.eval_seq.proofs.StepLaws.{up_rules_begin}
use Rattle.eval_seq.proofs.steps.up_start.Goals as goal

pub returns-clause-begins : goal.returns-clause-begins
returns-clause-begins g c =
    λ n. up_rules_begin c.args.symbol c.args.whole.now c.ups_of.result.now c.see.ensures.sees (c.ups_of.ensures (names_in c.args.scene.now.names.now) ∙ ap (λ k. (definition_of (names_in c.args.scene.now.names.now) k.defs c.args.symbol).ups) c.see.ensures.kept) (c.rules_start.ensures (setting_of c.args.scene.now))

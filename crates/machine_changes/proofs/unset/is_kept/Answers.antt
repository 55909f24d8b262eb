use Rattle.std.proofs.Common.{◌∙◌, ◌≤◌, length, subst}
use Rattle.builtin_names.specs.Named.{names_in}
use Rattle.machine_changes.proofs.Unsetting.{kept_some}
use Rattle.machine_changes.proofs.unset.is_kept.Goals as goal

pub returns-in-len1-up : goal.returns-in-len1-up
returns-in-len1-up c = c.any_protected.ensures ∙ kept_some (names_in c.args.scene.now.names.now) c.args.defs.now c.args.symbols.now (subst (λ xs. 1 ≤ length xs) c.as_slice.ensures c.in-len1-up.len_at_least)

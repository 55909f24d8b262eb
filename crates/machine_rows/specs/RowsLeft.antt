-- The program that is left of a row that meets the definitions before its first question, and of a trial of rules.
--     left_module           a Module takes its number first
--     left_block            a Block looks at its symbols first
--     left_rules            the result of a trial, or the expression as it is
use Rattle.std.specs.Prelude.{ℕ, List, [], Option, Some, None}
use Rattle.expr_tree.specs.Tree.{Tree}
use Rattle.semantics.specs.Names.{Names}
use Rattle.semantics.specs.InPlace.{put_in_place}
use Rattle.semantics.specs.Program.{Prog, Done, Local}
use Rattle.semantics.specs.Scoping.{ask_values, make_all, with_number, renaming, module_form, block_form}
use Rattle.frames_scope.specs.ScopingLeft as scope
use Rattle.frames_scope.specs.Reading.{locals_in}
use Rattle.rule_frames.specs.Trials as rules
use Rattle.rule_frames.specs.declared.attempt.Attempt.{Attempt}
use Rattle.machine_rows.specs.declared.module_row.ModuleRow.{ModuleRow}
use Rattle.machine_rows.specs.declared.block_row.BlockRow.{BlockRow}

-- the Module with this number
abbrev pub numbered_form : Names → ℕ → List Local → Tree → Prog
numbered_form names n ls body = ask_values ls [] (λ ms. make_all (with_number n ms) (Done (put_in_place names (renaming n ms) body)))

abbrev pub left_module : Names → ModuleRow → Option Tree → Prog
left_module names (ModuleRow.Unnumbered s) answer = module_form names (locals_in s.locals) s.body
left_module names (ModuleRow.Numbered f) answer = scope.left_module names f answer

abbrev pub left_block : Names → BlockRow → Option Tree → Prog
left_block names (BlockRow.Unseen s) answer = block_form names (locals_in s.locals) s.body
left_block names (BlockRow.Seen f) answer = scope.left_block names f answer

abbrev pub or_stays : Prog → Option Tree → Prog
or_stays stay None = stay
or_stays stay (Some v) = Done v

abbrev pub left_rules : Names → Attempt → Prog → Option Tree → Prog
left_rules names a stay answer = rules.left names a answer (or_stays stay)

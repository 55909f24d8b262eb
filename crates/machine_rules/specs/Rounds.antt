-- What is left of the rounds of ReplaceRepeated.
--     after_round           where a round has changed something
--     round_end             the result of a round
--     rounds_over           rounds at their beginning
--     left_rounds           before a round, which begins with the answer where there was a question, or in it
use Rattle.std.specs.Prelude.{ℕ, zero, suc, List, Bool, true, false, Option, unwrap_or}
use Rattle.expr_tree.specs.Tree.{Tree}
use Rattle.expr_tree.specs.Order.{same}
use Rattle.expr_tree.specs.declared.limits.Stop.{Stop}
use Rattle.semantics.specs.Names.{Names}
use Rattle.semantics.specs.Rule.{Rule}
use Rattle.semantics.specs.Program.{Prog, Done, Stops, Ask, Check}
use Rattle.semantics.specs.Replace.{rounds}
use Rattle.machine_rules.specs.declared.rounds.Rounds.{Rounds}
use Rattle.machine_rules.specs.Walks.{left_walk, walk_over}

abbrev pub after_round : Names → List Rule → ℕ → Tree → Prog
after_round names rs zero f = Stops Stop.Iteration
after_round names rs (suc n) f = Ask f (rounds names rs n)

abbrev pub round_end : Names → List Rule → ℕ → Tree → Tree → Prog
round_end names rs n e f = Check f (elim (same f e) [ true ↦ Done f | false ↦ after_round names rs n f ])

-- before the first round
abbrev pub rounds_over : List Rule → Tree → Rounds
rounds_over rs e = record { walk = walk_over rs e; subject = e; further = 4095; begun = false }

abbrev pub left_by : Names → Rounds → Bool → Option Tree → Prog
left_by names r false answer = rounds names r.walk.rules r.further (unwrap_or answer r.subject)
left_by names r true answer = left_walk names r.walk answer (round_end names r.walk.rules r.further r.subject)

abbrev pub left_rounds : Names → Rounds → Option Tree → Prog
left_rounds names r = left_by names r r.begun

-- Trials of rules, as they go on with a result or with none.
--     holds                 whether the answer to a guard is True
--     asked_by              guards, from the first of a binding or from a later one
--     rules_left            a list of rules;  or_rules  what follows a trial before these rules
use Rattle.std.specs.Prelude.{List, Bool, true, false, Option, Some, None}
use Rattle.expr_tree.specs.Tree.{Tree}
use Rattle.expr_tree.specs.Substitution.{Binding}
use Rattle.semantics.specs.declared.builtin.Builtin.{Builtin}
use Rattle.semantics.specs.Names.{Names, is_name}
use Rattle.semantics.specs.Match.{Guard}
use Rattle.semantics.specs.Rule.{Rule}
use Rattle.semantics.specs.Attempt.{try_guards, try_binding, try_rules}
use Rattle.semantics.specs.Program.{Prog}

-- the value of a guard; where there is none, the guard does not hold
abbrev pub holds : Names → Option Tree → Bool
holds names None = false
holds names (Some v) = is_name names Builtin.True v

-- the next guard is asked for, as the first of its binding or a later one
abbrev pub asked_by : Bool → Names → Binding → List Guard → Prog → Prog → Prog
asked_by true = try_binding
asked_by false = try_guards

abbrev pub rules_left : Names → List Rule → Tree → (Option Tree → Prog) → Prog
rules_left names rs e k = try_rules names rs e (λ v. k (Some v)) (k None)

-- where nothing applies, these rules are tried
abbrev pub or_rules : Names → List Rule → Tree → (Option Tree → Prog) → Option Tree → Prog
or_rules names rs e k None = rules_left names rs e k
or_rules names rs e k (Some v) = k (Some v)

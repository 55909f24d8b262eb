-- The programs of rows go by the truth of guards alone, so that each question leaves fewer.
use Rattle.std.proofs.Common.{List, [], ◌∷◌, ◌++◌, ℕ, ◌+◌}
use Rattle.expr_tree.specs.Tree.{Tree}
use Rattle.semantics.specs.Names.{Names}
use Rattle.semantics.specs.Rule.{Rule}
use Rattle.semantics.specs.Program.{Prog}
use Rattle.rule_frames.proofs.Falling.{Plain, rules_plain}
use Rattle.machine_rules.specs.declared.tally.Pick.{Pick}
use Rattle.machine_rules.specs.Scans.{first_of, counted, picked, gathered}

pub first_plain : (names : Names) (rs : List Rule) (found none_found : Prog) (es : List Tree) → Plain names found → Plain names none_found → Plain names (first_of names rs found none_found es)
first_plain names rs found none_found [] x y = y
first_plain names rs found none_found (e ∷ es) x y =
    rules_plain names rs e (λ v. found) (first_of names rs found none_found es) (λ v. x) (first_plain names rs found none_found es x y)

pub counted_plain : (names : Names) (rs : List Rule) (es : List Tree) (n : ℕ) → Plain names (counted names rs es n)
counted_plain names rs [] n = tt
counted_plain names rs (e ∷ es) n = rules_plain names rs e (λ v. counted names rs es (n + 1)) (counted names rs es n) (λ v. counted_plain names rs es (n + 1)) (counted_plain names rs es n)

pub gathered_plain : (names : Names) (rs : List Rule) (pick : Pick) (h : Tree) (es found : List Tree) → Plain names (gathered names rs pick h es found)
gathered_plain names rs pick h [] found = tt
gathered_plain names rs pick h (e ∷ es) found =
    rules_plain names rs e (λ v. gathered names rs pick h es (found ++ picked pick e v ∷ [])) (gathered names rs pick h es found)
    (λ v. gathered_plain names rs pick h es (found ++ picked pick e v ∷ [])) (gathered_plain names rs pick h es found)

-- How many questions and turns a program may still come to, whatever the answers are. Programs of trials go by whether an answer is True,
-- and by whether a head is Flat or Orderless, so that these cases stand for all.
--     worst                 this number
use Rattle.std.specs.Prelude.{ℕ, ◌+◌, max, pos, [], ◌∷◌, None}
use Rattle.expr_tree.specs.Tree.{Tree, integer}
use Rattle.semantics.specs.declared.builtin.Builtin.{Builtin}
use Rattle.semantics.specs.Names.{Names, name}
use Rattle.semantics.specs.Definitions.{Attributes}
use Rattle.semantics.specs.Program.{Prog, Done, Stops, Quits, Throws, Ask, Catches, Within, Section, Open, Look, Put, Fresh, Turn, Check, Outer, Moded, Shown, Seen}

abbrev pub seen_with : Attributes → Seen
seen_with a = record { definition = record { attributes = a; own = None; downs = []; ups = [] }; shared = None }

abbrev pub of_four : (Attributes → ℕ) → ℕ
of_four f = max (max (f []) (f (Builtin.Flat ∷ []))) (max (f (Builtin.Orderless ∷ [])) (f (Builtin.Flat ∷ Builtin.Orderless ∷ [])))

abbrev pub of_two : Names → (Tree → ℕ) → ℕ
of_two names f = max (f (name names Builtin.True)) (f (integer (pos 0)))

abbrev pub worst : Names → Prog → ℕ
worst names (Ask e k) = 1 + of_two names (λ v. worst names (k v))
worst names (Look s k) = of_four (λ a. worst names (k (seen_with a)))
worst names (Turn p) = 1 + worst names p
worst names (Check e p) = worst names p
worst names (Done e) = 0
worst names (Stops c) = 0
worst names Quits = 0
worst names (Throws e) = 0
worst names (Catches e k) = 0
worst names (Within ls e k) = 0
worst names (Section ss e k) = 0
worst names (Open k) = 0
worst names (Put s x p) = 0
worst names (Fresh k) = 0
worst names (Outer c k) = 0
worst names (Moded k) = 0
worst names (Shown k) = 0

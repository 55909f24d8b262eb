-- Chains of integers.
--     holds                 a relation as a test
--     int_of                the integer that an expression is
--     linked                whether it holds after the integer before
--     is_chain              whether it holds between each integer and the next; nothing where an element is no integer
use Rattle.std.specs.Prelude.{ℤ, int_lt, int_le, List, Bool, true, Option, Some, None}
use Rattle.std.specs.Option.{option_map}
use Rattle.expr_tree.specs.Tree.{Tree, integer}
use Rattle.semantics.specs.Tests.{integers, chain}
use Rattle.rows_tests.specs.declared.comparison.Relation.{Relation}
use Rattle.rows_tests.specs.declared.comparison.Relation.TheVariants.{Less, LessEqual, Greater, GreaterEqual}

abbrev pub int_of : Tree → Option ℤ
int_of (integer n) = Some n
int_of _ = None

abbrev pub holds : Relation → ℤ → ℤ → Bool
holds Less = int_lt
holds LessEqual = int_le
holds Greater = λ m n. int_lt n m
holds GreaterEqual = λ m n. int_le n m

-- between an integer and the one before it, where there is one
abbrev pub linked : (ℤ → ℤ → Bool) → Option ℤ → ℤ → Bool
linked test None n = true
linked test (Some m) n = test m n

abbrev pub is_chain : (ℤ → ℤ → Bool) → List Tree → Option Bool
is_chain test es = option_map (chain test) (integers es)

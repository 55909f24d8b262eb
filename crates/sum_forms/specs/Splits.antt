-- How an element of a product or of a sum is read.
--     power_in              b and k, where an expression is Power[b, k] with an integer k
--     rest_in               what the elements behind the coefficient of a term make
--     IsScaled              an expression is a coefficient times other elements, which have the size and depth of an expression
use Rattle.std.specs.Prelude.{◌≡◌, ◌≤◌, ℤ, List, [], ◌∷◌, true, false, Option, None, Some}
use Rattle.expr_tree.specs.Tree.{Tree, integer, normal, nil, cons, size, depth}
use Rattle.semantics.specs.declared.builtin.Builtin.{Builtin}
use Rattle.semantics.specs.Names.{Names, is_name, make}
use Rattle.semantics.specs.Numbers.{Part, term}

abbrev pub power_in : Names → Tree → Option Part
power_in names (normal h (cons b (cons (integer k) nil))) =
    elim (is_name names Builtin.Power h) [ true ↦ Some (record { number = k; rest = b }) | false ↦ None ]
power_in names _ = None

abbrev pub rest_in : Names → List Tree → Tree
rest_in names (x ∷ []) = x
rest_in names xs = make names Builtin.Times xs

pub record IsScaled (names : Names) (e : Tree) (coefficient : ℤ) (others : List Tree) : Type 0 where
  pub is : term names e ≡ record { number = coefficient; rest = rest_in names others }
  pub small : size (make names Builtin.Times others) ≤ 4000000
  pub shallow : depth (make names Builtin.Times others) ≤ 512

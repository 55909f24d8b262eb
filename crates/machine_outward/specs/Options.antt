-- The option that stands last in a form.
--     option_call           the option with another right side
--     IsPair                the head and the elements of an expression that has two
--     IsOptionIn            the parts of an option
use Rattle.std.specs.Prelude.{◌≡◌, [], ◌∷◌, Option, Some, None}
use Rattle.expr_tree.specs.Tree.{Tree, Trees, nil, cons, integer, string, symbol, normal, call}
use Rattle.machine_outward.specs.declared.options.MethodOption.{MethodOption}
use Rattle.machine_outward.specs.declared.options.Pair.{Pair}

abbrev pub option_call : MethodOption → Tree → Tree
option_call o v = call o.head (o.name ∷ v ∷ [])

abbrev pub IsPairBy : Tree → Option Pair → Type 0
IsPairBy e (Some p) = e ≡ call p.head.now (p.first.now ∷ p.second.now ∷ [])
IsPairBy e None = (h m v : Tree) → e ≡ call h (m ∷ v ∷ []) → ⊥

pub record IsPair (e : Tree) (r : Option Pair) : Type 0 where
  pub by : IsPairBy e r

abbrev pub IsOptionInBy : Tree → Option MethodOption → Type 0
IsOptionInBy e (Some o) = e ≡ option_call o o.value
IsOptionInBy e None = (h m v : Tree) → e ≡ call h (m ∷ v ∷ []) → ⊥

pub record IsOptionIn (e : Tree) (r : Option MethodOption) : Type 0 where
  pub by : IsOptionInBy e r

-- Which row has a shape, and that a head with a shape is the row's symbol.
use Rattle.std.proofs.Common.{ℕ, ◌≡◌, refl, sym, ap, ◌∙◌, ◌⊎◌, inl, inr, Bool, true, false, Option, Some, None, eqb-true}
use Rattle.std.specs.Prelude.{◌==◌}
use Rattle.expr_tree.specs.declared.sym.Sym.{Sym}
use Rattle.expr_tree.specs.Tree.{Tree, integer, string, symbol, normal}
use Rattle.semantics.specs.declared.builtin.Builtin.{Builtin}
use Rattle.semantics.specs.Names.{Names, known, name, role_of}
use Rattle.syntax.specs.Shapes as s
use Rattle.syntax.specs.Input.{shape_at}

abbrev pub pair_row : s.Pair → Builtin
pair_row s.PatternTest = Builtin.PatternTest
pair_row s.Power = Builtin.Power
pair_row s.Condition = Builtin.Condition
pair_row s.Rule = Builtin.Rule
pair_row s.RuleDelayed = Builtin.RuleDelayed
pair_row s.ReplaceAll = Builtin.ReplaceAll
pair_row s.ReplaceRepeated = Builtin.ReplaceRepeated
pair_row s.Set = Builtin.Set
pair_row s.SetDelayed = Builtin.SetDelayed
pair_row s.Naming = Builtin.Pattern

abbrev pub chain_row : s.Chain → Builtin
chain_row s.Equal = Builtin.Equal
chain_row s.Unequal = Builtin.Unequal
chain_row s.Less = Builtin.Less
chain_row s.LessEqual = Builtin.LessEqual
chain_row s.Greater = Builtin.Greater
chain_row s.GreaterEqual = Builtin.GreaterEqual
chain_row s.SameQ = Builtin.SameQ
chain_row s.UnsameQ = Builtin.UnsameQ
chain_row s.And = Builtin.And
chain_row s.Or = Builtin.Or
chain_row s.Alternatives = Builtin.Alternatives
chain_row s.CompoundExpression = Builtin.CompoundExpression

-- the row of a shape; any row where no row has the shape
abbrev pub shaped_row : s.Shape → Builtin
shaped_row s.List = Builtin.List
shaped_row s.Named = Builtin.Pattern
shaped_row s.Times = Builtin.Times
shaped_row s.Plus = Builtin.Plus
shaped_row s.Not = Builtin.Not
shaped_row s.Function = Builtin.Function
shaped_row s.Other = Builtin.Null
shaped_row (s.Blank s.One) = Builtin.Blank
shaped_row (s.Blank s.Two) = Builtin.BlankSequence
shaped_row (s.Blank _) = Builtin.BlankNullSequence
shaped_row (s.Slot s.Hash) = Builtin.Slot
shaped_row (s.Slot _) = Builtin.SlotSequence
shaped_row (s.Pairs p) = pair_row p
shaped_row (s.Chains c) = chain_row c

-- what rows have
abbrev pub is_proper : s.Shape → Bool
is_proper (s.Blank s.One) = true
is_proper (s.Blank s.Two) = true
is_proper (s.Blank s.Three) = true
is_proper (s.Blank _) = false
is_proper (s.Slot s.Hash) = true
is_proper (s.Slot s.Hashes) = true
is_proper (s.Slot _) = false
is_proper (s.Pairs s.Naming) = false
is_proper s.Other = false
is_proper _ = true

abbrev pub Fitting : Builtin → s.Shape → Type 0
Fitting row sh = (sh ≡ s.Other) ⊎ ((row ≡ shaped_row sh) × (is_proper sh ≡ true))

shaped : (row : Builtin) → Fitting row (s.shape_of row)
shaped Builtin.List = inr (refl, refl)
shaped Builtin.Blank = inr (refl, refl)
shaped Builtin.BlankSequence = inr (refl, refl)
shaped Builtin.BlankNullSequence = inr (refl, refl)
shaped Builtin.Pattern = inr (refl, refl)
shaped Builtin.Slot = inr (refl, refl)
shaped Builtin.SlotSequence = inr (refl, refl)
shaped Builtin.Times = inr (refl, refl)
shaped Builtin.Plus = inr (refl, refl)
shaped Builtin.Not = inr (refl, refl)
shaped Builtin.Function = inr (refl, refl)
shaped Builtin.PatternTest = inr (refl, refl)
shaped Builtin.Power = inr (refl, refl)
shaped Builtin.Condition = inr (refl, refl)
shaped Builtin.Rule = inr (refl, refl)
shaped Builtin.RuleDelayed = inr (refl, refl)
shaped Builtin.ReplaceAll = inr (refl, refl)
shaped Builtin.ReplaceRepeated = inr (refl, refl)
shaped Builtin.Set = inr (refl, refl)
shaped Builtin.SetDelayed = inr (refl, refl)
shaped Builtin.Equal = inr (refl, refl)
shaped Builtin.Unequal = inr (refl, refl)
shaped Builtin.Less = inr (refl, refl)
shaped Builtin.LessEqual = inr (refl, refl)
shaped Builtin.Greater = inr (refl, refl)
shaped Builtin.GreaterEqual = inr (refl, refl)
shaped Builtin.SameQ = inr (refl, refl)
shaped Builtin.UnsameQ = inr (refl, refl)
shaped Builtin.And = inr (refl, refl)
shaped Builtin.Or = inr (refl, refl)
shaped Builtin.Alternatives = inr (refl, refl)
shaped Builtin.CompoundExpression = inr (refl, refl)
shaped _ = inl refl

-- a head that has the shape is the symbol of its row
pub record Heads (names : Names) (h : Tree) (sh : s.Shape) : Type 0 where
  pub is : h ≡ name names (shaped_row sh)
  pub proper : is_proper sh ≡ true

-- a base that is a row's is the place of the row
abbrev pub Placed : Names → Type 0
Placed names = (base : ℕ) (row : Builtin) → names.role base ≡ Some row → names.place row ≡ base

module _ (names : Names) (agree : Placed names) where
  zero_numbered : (x : Sym) (row : Builtin) → (x.number == 0) ≡ true → names.role x.base ≡ Some row → x ≡ known names row
  zero_numbered x row n r =
      let b : x.base ≡ names.place row = sym (agree x.base row r) in
      let z : x.number ≡ 0 = eqb-true x.number 0 n in
      λ i. record { base = b i; number = z i }

  has_row : (x : Sym) (row : Builtin) → role_of names x ≡ Some row → x ≡ known names row
  has_row x row e = go (x.number == 0) refl e
    where
      go : (b : Bool) → (x.number == 0) ≡ b → elim b as (λ _. Option Builtin) [ true ↦ names.role x.base | false ↦ None ] ≡ Some row → x ≡ known names row
      go true n q = zero_numbered x row n q
      go false n q = cc

  by_role : (x : Sym) (o : Option Builtin) → role_of names x ≡ o → (s.shape_by o ≡ s.Other) ⊎ Heads names (symbol x) (s.shape_by o)
  by_role x None e = inl refl
  by_role x (Some row) e = go (shaped row)
    where
      go : Fitting row (s.shape_of row) → (s.shape_of row ≡ s.Other) ⊎ Heads names (symbol x) (s.shape_of row)
      go (inl q) = inl q
      go (inr q) = inr (record { is = ap symbol (has_row x row e) ∙ ap (name names) q.0; proper = q.1 })

  pub head_shape : (h : Tree) → (shape_at (s.shape_in names) h ≡ s.Other) ⊎ Heads names h (shape_at (s.shape_in names) h)
  head_shape (integer n) = inl refl
  head_shape (string t) = inl refl
  head_shape (symbol x) = by_role x (role_of names x) refl
  head_shape (normal h es) = inl refl

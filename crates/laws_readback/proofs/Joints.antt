-- The operators that join two or more operands: a row of a looser level is not open in one of a tighter level.
use Rattle.std.proofs.Common.{◌≡◌, refl, sym, ap, ap₂, ◌∙◌, ℕ, zero, suc, ◌<◌, ◌≤◌, Bool, true, false, List, [], ◌∷◌, arith, eqb-true, eq-eqb}
use Rattle.std.specs.Prelude.{◌==◌, ◌&&◌, ◌||◌, not}
use Rattle.semantics.specs.declared.builtin.Builtin.{Builtin}
use Rattle.semantics.specs.Builtin.{row_number}
use Rattle.syntax.specs.Shapes as s
use Rattle.syntax.specs.Operators.{Operator, Gives, infix_row, level_of, right_of, gives_of}
use Rattle.syntax.specs.Terminals.{Open}
use Rattle.syntax.specs.Phrases.{same_row, is_open_in, is_comparison, is_sameness, of_one_kind, chains_with}
use Rattle.laws_readback.proofs.Shaped.{chain_row}

pub data Joint : Type 0 where
  product sum : Joint
  chain : s.Chain → Joint

abbrev pub joint_row : Joint → Builtin
joint_row product = Builtin.Times
joint_row sum = Builtin.Plus
joint_row (chain c) = chain_row c

abbrev pub joint_level : Joint → ℕ
joint_level product = 18
joint_level sum = 17
joint_level (chain c) = s.chain_level c

abbrev pub joint_part : Joint → ℕ
joint_part product = 19
joint_part sum = 18
joint_part (chain c) = s.chain_part c

abbrev pub joint_op : Joint → Operator
joint_op product = Operator.Times
joint_op sum = Operator.Plus
joint_op (chain s.Equal) = Operator.Equal
joint_op (chain s.Unequal) = Operator.Unequal
joint_op (chain s.Less) = Operator.Less
joint_op (chain s.LessEqual) = Operator.LessEqual
joint_op (chain s.Greater) = Operator.Greater
joint_op (chain s.GreaterEqual) = Operator.GreaterEqual
joint_op (chain s.SameQ) = Operator.SameQ
joint_op (chain s.UnsameQ) = Operator.UnsameQ
joint_op (chain s.And) = Operator.And
joint_op (chain s.Or) = Operator.Or
joint_op (chain s.Alternatives) = Operator.Alternatives
joint_op (chain s.CompoundExpression) = Operator.CompoundExpression

-- what the table of operators says of a joint's operator
pub record Joins (j : Joint) : Type 0 where
  pub level : level_of (joint_op j) ≡ joint_level j
  pub right : right_of (joint_op j) ≡ joint_part j
  pub above : joint_part j ≡ suc (joint_level j)
  pub gives : gives_of (joint_op j) ≡ Gives.Chain (joint_row j)
  pub compares : is_comparison (joint_row j) ≡ (joint_level j == 16)
  pub is_same : is_sameness (joint_row j) ≡ (joint_level j == 15)
  pub low : 2 ≤ joint_level j
  pub high : joint_level j ≤ 18

abbrev all_joints : List Joint
all_joints =
    product ∷ sum ∷ chain s.Equal ∷ chain s.Unequal ∷ chain s.Less ∷ chain s.LessEqual ∷ chain s.Greater ∷ chain s.GreaterEqual ∷ chain s.SameQ ∷ chain s.UnsameQ
    ∷ chain s.And ∷ chain s.Or ∷ chain s.Alternatives ∷ chain s.CompoundExpression ∷ []

abbrev level_in : List Joint → ℕ → ℕ
level_in [] n = zero
level_in (j ∷ js) n = elim (row_number (joint_row j) == n) [ true ↦ joint_level j | false ↦ level_in js n ]

found : (j : Joint) → level_in all_joints (row_number (joint_row j)) ≡ joint_level j
found product = refl
found sum = refl
found (chain s.Equal) = refl
found (chain s.Unequal) = refl
found (chain s.Less) = refl
found (chain s.LessEqual) = refl
found (chain s.Greater) = refl
found (chain s.GreaterEqual) = refl
found (chain s.SameQ) = refl
found (chain s.UnsameQ) = refl
found (chain s.And) = refl
found (chain s.Or) = refl
found (chain s.Alternatives) = refl
found (chain s.CompoundExpression) = refl

pub joint : (j : Joint) → Joins j
unfolding level_of right_of gives_of infix_row
joint product = record { level = refl; right = refl; above = refl; gives = refl; compares = refl; is_same = refl; low = omega arith; high = omega arith }
joint sum = record { level = refl; right = refl; above = refl; gives = refl; compares = refl; is_same = refl; low = omega arith; high = omega arith }
joint (chain s.Equal) = record { level = refl; right = refl; above = refl; gives = refl; compares = refl; is_same = refl; low = omega arith; high = omega arith }
joint (chain s.Unequal) = record { level = refl; right = refl; above = refl; gives = refl; compares = refl; is_same = refl; low = omega arith; high = omega arith }
joint (chain s.Less) = record { level = refl; right = refl; above = refl; gives = refl; compares = refl; is_same = refl; low = omega arith; high = omega arith }
joint (chain s.LessEqual) = record { level = refl; right = refl; above = refl; gives = refl; compares = refl; is_same = refl; low = omega arith; high = omega arith }
joint (chain s.Greater) = record { level = refl; right = refl; above = refl; gives = refl; compares = refl; is_same = refl; low = omega arith; high = omega arith }
joint (chain s.GreaterEqual) = record { level = refl; right = refl; above = refl; gives = refl; compares = refl; is_same = refl; low = omega arith; high = omega arith }
joint (chain s.SameQ) = record { level = refl; right = refl; above = refl; gives = refl; compares = refl; is_same = refl; low = omega arith; high = omega arith }
joint (chain s.UnsameQ) = record { level = refl; right = refl; above = refl; gives = refl; compares = refl; is_same = refl; low = omega arith; high = omega arith }
joint (chain s.And) = record { level = refl; right = refl; above = refl; gives = refl; compares = refl; is_same = refl; low = omega arith; high = omega arith }
joint (chain s.Or) = record { level = refl; right = refl; above = refl; gives = refl; compares = refl; is_same = refl; low = omega arith; high = omega arith }
joint (chain s.Alternatives) = record { level = refl; right = refl; above = refl; gives = refl; compares = refl; is_same = refl; low = omega arith; high = omega arith }
joint (chain s.CompoundExpression) = record { level = refl; right = refl; above = refl; gives = refl; compares = refl; is_same = refl; low = omega arith; high = omega arith }

other_row : (j k : Joint) → joint_level k < joint_level j → same_row (joint_row j) (joint_row k) ≡ false
other_row j k h = go (same_row (joint_row j) (joint_row k)) refl
  where
    go : (b : Bool) → same_row (joint_row j) (joint_row k) ≡ b → b ≡ false
    go true e =
        let n : row_number (joint_row j) ≡ row_number (joint_row k) = eqb-true (row_number (joint_row j)) (row_number (joint_row k)) e in
        let l : joint_level j ≡ joint_level k = sym (found j) ∙ ap (level_in all_joints) n ∙ found k in
        absurd (omega (arith, h, l))
    go false e = refl

differ : (m n : ℕ) → m < n → ((m == 16) && (n == 16) || (m == 15) && (n == 15)) ≡ false
differ m n h = go (m == 16) (n == 16) (m == 15) (n == 15) refl refl refl refl
  where
    go : (a b c d : Bool) → (m == 16) ≡ a → (n == 16) ≡ b → (m == 15) ≡ c → (n == 15) ≡ d → (a && b || c && d) ≡ false
    go true true c d p q r t = let x = eqb-true m 16 p in let y = eqb-true n 16 q in absurd (omega (arith, h, x, y))
    go true false true true p q r t = let x = eqb-true m 15 r in let y = eqb-true n 15 t in absurd (omega (arith, h, x, y))
    go true false true false p q r t = refl
    go true false false d p q r t = refl
    go false b true true p q r t = let x = eqb-true m 15 r in let y = eqb-true n 15 t in absurd (omega (arith, h, x, y))
    go false b true false p q r t = refl
    go false b false d p q r t = refl

kinds_differ : (j k : Joint) → joint_level k < joint_level j → of_one_kind (joint_row k) (joint_row j) ≡ false
kinds_differ j k h =
    let a = joint k in
    let b = joint j in
    ap₂ (λ p q. p || q) (ap₂ (λ p q. p && q) a.compares b.compares) (ap₂ (λ p q. p && q) a.is_same b.is_same) ∙ differ (joint_level k) (joint_level j) h

-- a phrase of a tighter level begins a chain
pub not_open : (j k : Joint) → joint_level k < joint_level j → is_open_in (joint_row k) (Open (joint_row j)) ≡ false
not_open j k h = other_row j k h

pub may_begin : (j k : Joint) → joint_level k < joint_level j → chains_with (joint_row k) (Open (joint_row j)) ≡ true
may_begin j k h = ap₂ (λ p q. p || not q) (other_row j k h) (kinds_differ j k h)

pub same_itself : (row : Builtin) → same_row row row ≡ true
same_itself row = eq-eqb (row_number row) (row_number row) refl

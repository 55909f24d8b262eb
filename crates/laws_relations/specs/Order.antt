-- The shift of the numbers of symbols from a bound on.
use Rattle.std.specs.Prelude.{◌≡◌, ℕ, ◌+◌, cond, ltb}
use Rattle.expr_tree.specs.declared.sym.Sym.{Sym}
use Rattle.expr_tree.specs.Order.{symbol_cmp}

-- numbers below the bound stay, the others grow
abbrev pub shifted_symbol : ℕ → ℕ → Sym → Sym
shifted_symbol from by s = record { base = s.base; number = cond (ltb s.number from) s.number (s.number + by) }

-- the order of symbols is kept
abbrev pub ShiftKeepsOrder : Type 0
ShiftKeepsOrder = (from by : ℕ) (s t : Sym) → symbol_cmp s t ≡ symbol_cmp (shifted_symbol from by s) (shifted_symbol from by t)

-- A table of definitions: chains of entries, each of which stands in the chain of its symbol.
--     slot                  the chain of a symbol
--     entries_in            the entries of all chains, in symbol order
--     AreEmpty              chains without an entry
--     Ascends               entries in strict symbol order
--     IsTable               each entry stands in the chain of its symbol, and no symbol twice
use Rattle.std.specs.Prelude.{◌≡◌, ℕ, suc, ◌+◌, ◌%◌, List, [], ◌∷◌, None}
use Rattle.expr_tree.specs.declared.sym.Sym.{Sym}
use Rattle.std.specs.declared.cmp.Ordering.TheVariants.{Less}
use Rattle.expr_tree.specs.Order.{symbol_cmp}
use Rattle.semantics.specs.Definitions.{Definition, look_up, add_entry}

abbrev pub slot : Sym → ℕ
slot s = (s.base % 4096 + s.number % 4096) % 4096

-- the entries of a chain among others
abbrev pub adding : List (Sym × Definition) → List (Sym × Definition) → List (Sym × Definition)
adding [] others = others
adding (e ∷ es) others = add_entry (adding es others) e.0 e.1

abbrev pub entries_in : List (List (Sym × Definition)) → List (Sym × Definition)
entries_in [] = []
entries_in (c ∷ cs) = adding c (entries_in cs)

abbrev pub IsChain : ℕ → List (Sym × Definition) → Type 0
IsChain k [] = Unit {0}
IsChain k (e ∷ es) = (slot e.0 ≡ k) × (look_up es e.0 ≡ None) × IsChain k es

-- chains from the k-th on
abbrev pub IsTable : ℕ → List (List (Sym × Definition)) → Type 0
IsTable k [] = Unit {0}
IsTable k (c ∷ cs) = IsChain k c × IsTable (suc k) cs

abbrev pub AreEmpty : List (List (Sym × Definition)) → Type 0
AreEmpty [] = Unit {0}
AreEmpty (c ∷ cs) = (c ≡ []) × AreEmpty cs

abbrev pub AllAbove : Sym → List (Sym × Definition) → Type 0
AllAbove s [] = Unit {0}
AllAbove s (e ∷ es) = (symbol_cmp s e.0 ≡ Less) × AllAbove s es

abbrev pub Ascends : List (Sym × Definition) → Type 0
Ascends [] = Unit {0}
Ascends (e ∷ es) = AllAbove e.0 es × Ascends es

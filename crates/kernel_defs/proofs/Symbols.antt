-- Whether a left side has any symbol.
use Rattle.std.proofs.Common.{◌≡◌, ◌∙◌, ◌<◌, ℕ, suc, length, drop, get_or, drop-cons, refl, sym, ap, true≢false, List, [], ◌∷◌, ◌++◌, Bool, true, false, Option, Some, None, is_some}
use Rattle.expr_tree.specs.declared.sym.Sym.{Sym}
use Rattle.expr_tree.specs.Tree.{Tree}
use Rattle.expr_tree.specs.Shapes.{symbol_of}
use Rattle.expr_tree.specs.Substitution.{among}
use Rattle.semantics.specs.Names.{items_of}
use Rattle.semantics.specs.Assign.{add_symbol, item_symbols, symbols_at}
use Rattle.semantics.specs.Definitions.{is_empty}

among_added : (es : List Tree) (s t : Sym) (ss : List Sym) (b : Bool) → ((ts : List Sym) → is_empty (item_symbols es (s ∷ ts)) ≡ false)
    → is_empty (item_symbols es (elim b [ true ↦ s ∷ ss | false ↦ (s ∷ ss) ++ t ∷ [] ])) ≡ false
among_added es s t ss true more = more ss
among_added es s t ss false more = more (ss ++ t ∷ [])

one_added : (es : List Tree) (s : Sym) (ss : List Sym) (o : Option Sym) → ((ts : List Sym) → is_empty (item_symbols es (s ∷ ts)) ≡ false)
    → is_empty (item_symbols es (add_symbol o (s ∷ ss))) ≡ false
one_added es s ss None more = more ss
one_added es s ss (Some t) more = among_added es s t ss (among t (s ∷ ss)) more

-- symbols do not get fewer
grown : (es : List Tree) (s : Sym) (ss : List Sym) → is_empty (item_symbols es (s ∷ ss)) ≡ false
grown [] s ss = refl
grown (e ∷ es) s ss = one_added es s ss (symbol_of e) (λ ts. grown es s ts)

added_some : (o : Option Sym) (es : List Tree) → is_some o ≡ true → is_empty (item_symbols es (add_symbol o [])) ≡ false
added_some None es is = absurd (true≢false (sym is))
added_some (Some s) es is = grown es s []

added_none : (o : Option Sym) (es : List Tree) → is_some o ≡ false → is_empty (item_symbols es (add_symbol o [])) ≡ is_empty (item_symbols es [])
added_none None es is = refl
added_none (Some s) es is = absurd (true≢false is)

-- the first item decides, where it has a symbol
pub first_has : (e : Tree) (es : List Tree) → is_some (symbol_of e) ≡ true → is_empty (item_symbols (e ∷ es) []) ≡ false
first_has e es is = added_some (symbol_of e) es is

pub first_has_none : (e : Tree) (es : List Tree) → is_some (symbol_of e) ≡ false → is_empty (item_symbols (e ∷ es) []) ≡ is_empty (item_symbols es [])
first_has_none e es is = added_none (symbol_of e) es is

-- an item with a symbol
pub found_at : (items : List Tree) (i : ℕ) (e : Tree) → i < length items → e ≡ get_or items i e → is_some (symbol_of e) ≡ true
    → is_empty (item_symbols (drop i items) []) ≡ is_empty (item_symbols items []) → false ≡ is_empty (item_symbols items [])
found_at items i e within is has same =
    sym (first_has e (drop (suc i) items) has)
    ∙ ap (λ x. is_empty (item_symbols (x ∷ drop (suc i) items) [])) is
    ∙ ap (λ es. is_empty (item_symbols es [])) (sym (drop-cons items i e within))
    ∙ same

pub head_has : (e : Tree) → is_some (symbol_of e) ≡ true → is_empty (symbols_at e) ≡ false
head_has e is = added_some (symbol_of e) (items_of e) is

pub head_has_none : (e : Tree) → is_some (symbol_of e) ≡ false → is_empty (symbols_at e) ≡ is_empty (item_symbols (items_of e) [])
head_has_none e is = added_none (symbol_of e) (items_of e) is

pub ruleset symbol_steps = (first_has, first_has_none, head_has, head_has_none)

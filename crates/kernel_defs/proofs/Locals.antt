-- Locals that were put by one after another are put back as they were before the first.
use Rattle.std.proofs.Common.{◌≡◌, ◌∙◌, refl, sym, ap, Bool, true, false, List, [], ◌∷◌, ◌++◌, Option, Some, None}
use Rattle.expr_tree.specs.declared.sym.Sym.{Sym}
use Rattle.expr_tree.specs.Order.{same_symbol}
use Rattle.semantics.specs.Names.{Names}
use Rattle.semantics.specs.Definitions.{Definition, Definitions, look_up, drop_entry, add_entry, is_first, put, stored}
use Rattle.semantics.specs.Program.{Local}
use Rattle.semantics.specs.Play.{local_definition, put_back}
use Rattle.kernel_defs.specs.Locals.{linked, without, or_first, saved_along, restored}
use Rattle.kernel_defs.specs.Table.{Ascends}
use Rattle.kernel_defs.proofs.Entries.{dropped_absent, Entries, same-eq, apart_back, swapped, added_other, dropped_same, dropped_other, dropped_added, dropped_twice, dropped_dropped, added_dropped, ascends_added, ascends_dropped}

-- ---- entries that are put

abbrev put_in : Bool → Entries → Sym → Definition → Entries
put_in b es s x = elim b [ true ↦ drop_entry es s | false ↦ add_entry (drop_entry es s) s x ]

dropped_put : (b : Bool) (es : Entries) (s : Sym) (x : Definition) → drop_entry (put_in b es s x) s ≡ drop_entry es s
dropped_put true es s x = dropped_twice es s
dropped_put false es s x = dropped_added (drop_entry es s) s x ∙ dropped_twice es s

put_over : (b c : Bool) (es : Entries) (s : Sym) (x y : Definition) → put_in c (put_in b es s x) s y ≡ put_in c es s y
put_over b true es s x y = dropped_put b es s x
put_over b false es s x y = ap (λ xs. add_entry xs s y) (dropped_put b es s x)

put_apart : (b c : Bool) (es : Entries) (s t : Sym) (x y : Definition) → Ascends es → same_symbol s t ≡ false → put_in c (put_in b es s x) t y ≡ put_in b (put_in c es t y) s x
put_apart true true es s t x y is p = dropped_dropped es s t
put_apart true false es s t x y is p =
    ap (λ xs. add_entry xs t y) (dropped_dropped es s t) ∙ sym (added_dropped (drop_entry es t) t s y (ascends_dropped es t is) (apart_back s t p))
put_apart false true es s t x y is p =
    added_dropped (drop_entry es s) s t x (ascends_dropped es s is) p ∙ ap (λ xs. add_entry xs s x) (dropped_dropped es s t)
put_apart false false es s t x y is p =
    ap (λ xs. add_entry xs t y) (added_dropped (drop_entry es s) s t x (ascends_dropped es s is) p)
    ∙ ap (λ xs. add_entry (add_entry xs s x) t y) (dropped_dropped es s t)
    ∙ swapped (drop_entry (drop_entry es t) s) s t x y p
    ∙ ap (λ xs. add_entry xs s x) (sym (added_dropped (drop_entry es t) t s y (ascends_dropped es t is) (apart_back s t p)))

ascends_put : (b : Bool) (es : Entries) (s : Sym) (x : Definition) → Ascends es → Ascends (put_in b es s x)
ascends_put true es s x is = ascends_dropped es s is
ascends_put false es s x is = ascends_added (drop_entry es s) s x (ascends_dropped es s is) (dropped_same es s)

found_put : (b : Bool) (es : Entries) (s t : Sym) (x : Definition) → same_symbol s t ≡ false → look_up (put_in b es s x) t ≡ look_up es t
found_put true es s t x p = dropped_other es s t p
found_put false es s t x p = added_other (drop_entry es s) s t x p ∙ dropped_other es s t p

-- ---- definitions that are put

abbrev with_entries : Definitions → Entries → Definitions
with_entries d es = record d { entries = es }

pub overwritten : (names : Names) (d : Definitions) (s : Sym) (x y : Definition) → put names (put names d s x) s y ≡ put names d s y
overwritten names d s x y = ap (with_entries d) (put_over (is_first names s x) (is_first names s y) d.entries s x y)

put_either : (names : Names) (d : Definitions) (s t : Sym) (x y : Definition) → Ascends d.entries → same_symbol s t ≡ false
    → put names (put names d s x) t y ≡ put names (put names d t y) s x
put_either names d s t x y is p = ap (with_entries d) (put_apart (is_first names s x) (is_first names t y) d.entries s t x y is p)

pub ascends_with : (names : Names) (d : Definitions) (s : Sym) (x : Definition) → Ascends d.entries → Ascends (put names d s x).entries
ascends_with names d s x is = ascends_put (is_first names s x) d.entries s x is

stored_other : (names : Names) (d : Definitions) (s t : Sym) (x : Definition) → same_symbol s t ≡ false → stored names (put names d s x) t ≡ stored names d t
stored_other names d s t x p = ap (or_first names t) (found_put (is_first names s x) d.entries s t x p)

-- ---- put back

-- one more put back after the others, or before them
put_last : (names : Names) (old : Definitions) (s : Sym) (y : Definition) (ls : List Local) (d : Definitions) → Ascends d.entries
    → put names (put_back names (put names old s y) ls d) s (stored names old s) ≡ put_back names old ls (put names d s (stored names old s))
put_last names old s y [] d is = refl
put_last names old s y (l ∷ ls) d is =
    put_last names old s y ls (put names d l.symbol (stored names (put names old s y) l.symbol)) (ascends_with names d l.symbol (stored names (put names old s y) l.symbol) is)
    ∙ ap (put_back names old ls) (go (same_symbol s l.symbol) refl)
  where
    go : (b : Bool) → same_symbol s l.symbol ≡ b
        → put names (put names d l.symbol (stored names (put names old s y) l.symbol)) s (stored names old s)
        ≡ put names (put names d s (stored names old s)) l.symbol (stored names old l.symbol)
    go true p =
        ap (λ t. put names (put names d t (stored names (put names old s y) t)) s (stored names old s)) (sym (same-eq s l.symbol p))
        ∙ overwritten names d s (stored names (put names old s y) s) (stored names old s)
        ∙ sym (overwritten names d s (stored names old s) (stored names old s))
        ∙ ap (λ t. put names (put names d s (stored names old s)) t (stored names old t)) (same-eq s l.symbol p)
    go false p =
        ap (λ x. put names (put names d l.symbol x) s (stored names old s)) (stored_other names old s l.symbol y p)
        ∙ sym (put_either names d s l.symbol (stored names old s) (stored names old l.symbol) is p)

pub put_back_along : (names : Names) (ls : List Local) (old d : Definitions) → Ascends d.entries → restored names (saved_along names ls old) d ≡ put_back names old ls d
put_back_along names [] old d is = refl
put_back_along names (l ∷ ls) old d is =
    ap (λ x. put names x l.symbol (stored names old l.symbol)) (put_back_along names ls (put names old l.symbol (local_definition l)) d is)
    ∙ put_last names old l.symbol (local_definition l) ls d is

pub restored_last : (names : Names) (es : List (Sym × Option Definition)) (e : Sym × Option Definition) (d : Definitions)
    → restored names (es ++ e ∷ []) d ≡ restored names es (put names d e.0 (or_first names e.0 e.1))
restored_last names [] e d = refl
restored_last names (x ∷ es) e d = ap (λ y. put names y x.0 (or_first names x.0 x.1)) (restored_last names es e d)

-- what was taken out and is linked again changes nothing
pub linked_again : (old d : Definitions) (s : Sym) (o : Option Definition) → o ≡ look_up old.entries s → d ≡ without old s
    → ((x : Definition) → look_up old.entries s ≡ Some x → old ≡ record d { entries = add_entry d.entries s x }) → linked (s, o) d ≡ old
linked_again old d s None p q back = q ∙ ap (λ es. record old { entries = es }) (dropped_absent old.entries s (sym p))
linked_again old d s (Some x) p q back = sym (back x (sym p))

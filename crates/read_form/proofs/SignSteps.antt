-- The sign that a text writes, row by row of the table.
use Rattle.std.proofs.Common.{◌≡◌, ◌∙◌, refl, sym, ap, ℕ, suc, ◌+◌, ◌<◌, Bool, true, false, List, [], ◌∷◌, map, length, drop, get_or, add-one, drop-cons}
use Rattle.std.specs.Ordering.{is_eq}
use Rattle.expr_tree.specs.Order.{text_cmp}
use Rattle.syntax.specs.Signs as syn
use Rattle.case_table.specs.declared.sign.Sign.{Sign}
use Rattle.case_table.specs.declared.table.Code.TheVariants as co
use Rattle.case_table.specs.declared.table.Row.{Row}
use Rattle.case_table.specs.Entries.{Named, OperatorSign, Entry, entries, operator_entry, language_sign, named}

-- what the first entry that is written so names
abbrev pub named_by : List Entry → List ℕ → Named
named_by [] t = OperatorSign syn.Comma
named_by (e ∷ es) t = elim (is_eq (text_cmp e.name t)) [ true ↦ e.names | false ↦ named_by es t ]

by_signs : (ss : List syn.Sign) (t : List ℕ) → named_by (map operator_entry ss) t ≡ OperatorSign (syn.sign_in ss t)
by_signs [] t = refl
by_signs (s ∷ ss) t = go (is_eq (text_cmp (syn.sign_text s) t)) (by_signs ss t)
  where
    go : (b : Bool) → named_by (map operator_entry ss) t ≡ OperatorSign (syn.sign_in ss t)
        → elim b as (λ _. Named) [ true ↦ OperatorSign s | false ↦ named_by (map operator_entry ss) t ] ≡ OperatorSign (elim b as (λ _. syn.Sign) [ true ↦ s | false ↦ syn.sign_in ss t ])
    go true rest = refl
    go false rest = rest

pub sign_init : (rs : List Row) (t : List ℕ) → entries rs ≡ map operator_entry syn.signs → named_by (entries rs) t ≡ OperatorSign (syn.sign_of t)
sign_init rs t e = ap (λ (es : List Entry). named_by es t) e ∙ by_signs syn.signs t

at_row : (rs : List Row) (i : ℕ) (r : Row) → i < length rs → r ≡ get_or rs i r → drop i rs ≡ r ∷ drop (i + 1) rs
at_row rs i r h e = rw (drop-cons rs i r h, add-one) (ap (λ (x : Row). x ∷ drop (suc i) rs) (sym e))

first_named : (r : Row) (rs : List Row) (t : List ℕ) (b : Bool) → is_eq (text_cmp r.name.now t) ≡ b → named_by (entries (r ∷ rs)) t ≡ elim b as (λ _. Named) [ true ↦ named r.code | false ↦ named_by (entries rs) t ]
first_named r rs t b e = ap (λ (x : Bool). elim x as (λ _. Named) [ true ↦ named r.code | false ↦ named_by (entries rs) t ]) e

pub sign_here : (rs : List Row) (i : ℕ) (r : Row) (t : List ℕ) (n : Named) → i < length rs → r ≡ get_or rs i r → is_eq (text_cmp r.name.now t) ≡ true → named_by (entries (drop i rs)) t ≡ n → named r.code ≡ n
sign_here rs i r t n h e w q = sym (ap (λ (us : List Row). named_by (entries us) t) (at_row rs i r h e) ∙ first_named r (drop (i + 1) rs) t true w) ∙ q

pub sign_later : (rs : List Row) (i : ℕ) (r : Row) (t : List ℕ) (n : Named) → i < length rs → r ≡ get_or rs i r → is_eq (text_cmp r.name.now t) ≡ false → named_by (entries (drop i rs)) t ≡ n → named_by (entries (drop (i + 1) rs)) t ≡ n
sign_later rs i r t n h e w q = sym (ap (λ (us : List Row). named_by (entries us) t) (at_row rs i r h e) ∙ first_named r (drop (i + 1) rs) t false w) ∙ q

pub sign_is : (s : Sign) (u : syn.Sign) → named (co.Operator s) ≡ OperatorSign u → language_sign s ≡ u
sign_is s u e = cc

-- The first cause of a refusal where nothing is protected.
use Rattle.std.proofs.Common.{◌≡◌, ◌∙◌, refl, ap, List, [], ◌∷◌, true, false, Some, None}
use Rattle.std.specs.Prelude.{Bool, Option, ◌&&◌, not}
use Rattle.semantics.specs.Definitions.{is_empty}
use Rattle.expr_tree.specs.declared.sym.Sym.{Sym}
use Rattle.expr_tree.specs.Tree.{Tree}
use Rattle.semantics.specs.Names.{Names}
use Rattle.semantics.specs.Assign.{Form, ToHead, ToItems, ToTag, symbols_at, has_wrapping, is_normal, Target, Why, IsProtected, NoSymbol, Nested, NoTag, places, refusal, has_no_symbol, is_nested, inner, asked_symbols, first_protected}

pub none_protected : (ss : List Sym) → first_protected (λ s. false) ss ≡ None
none_protected [] = refl
none_protected (s ∷ ss) = none_protected ss

-- the causes after the first
abbrev later_cause : Bool → Bool → List Target → Option Why
later_cause no_symbol nested targets =
    elim no_symbol [
      | true ↦ Some NoSymbol
      | false ↦ elim nested [ true ↦ Some Nested | false ↦ elim targets [ [] ↦ Some NoTag | _ ↦ None ] ]
    ]

unprotected : (names : Names) (form : Form) (left : Tree)
    → refusal names (λ s. false) form left ≡ later_cause (has_no_symbol names form left) (is_nested names (inner names left)) (places names form left)
unprotected names form left =
    ap
    (λ found. elim found [ Some s ↦ Some (IsProtected s) | None ↦ later_cause (has_no_symbol names form left) (is_nested names (inner names left)) (places names form left) ])
    (none_protected (asked_symbols form (places names form left)))

pub refused_symbol : (names : Names) (form : Form) (left : Tree) → has_no_symbol names form left ≡ true → refusal names (λ s. false) form left ≡ Some NoSymbol
refused_symbol names form left p = unprotected names form left ∙ ap (λ b. later_cause b (is_nested names (inner names left)) (places names form left)) p

pub refused_nested : (names : Names) (form : Form) (left : Tree) → has_no_symbol names form left ≡ false → is_nested names (inner names left) ≡ true
    → refusal names (λ s. false) form left ≡ Some Nested
refused_nested names form left p q =
    unprotected names form left
    ∙ ap (λ b. later_cause b (is_nested names (inner names left)) (places names form left)) p
    ∙ ap (λ b. later_cause false b (places names form left)) q

told_empty : (ts : List Target) → elim ts [ [] ↦ true | _ ↦ false ] ≡ is_empty ts
told_empty [] = refl
told_empty (t ∷ ts) = refl

tag_cause : (ts : List Target) → later_cause false false ts ≡ elim (is_empty ts) [ true ↦ Some NoTag | false ↦ None ]
tag_cause [] = refl
tag_cause (t ∷ ts) = refl

pub refused_by_tag : (names : Names) (form : Form) (left : Tree) (b : Bool) → has_no_symbol names form left ≡ false → is_nested names (inner names left) ≡ false
    → is_empty (places names form left) ≡ b → refusal names (λ s. false) form left ≡ elim b [ true ↦ Some NoTag | false ↦ None ]
refused_by_tag names form left b p q r =
    unprotected names form left
    ∙ ap (λ k. later_cause k (is_nested names (inner names left)) (places names form left)) p
    ∙ ap (λ k. later_cause false k (places names form left)) q
    ∙ tag_cause (places names form left)
    ∙ ap (λ k. elim k [ true ↦ Some NoTag | false ↦ None ]) r

pub refused_tag : (names : Names) (form : Form) (left : Tree) → has_no_symbol names form left ≡ false → is_nested names (inner names left) ≡ false
    → is_empty (places names form left) ≡ true → refusal names (λ s. false) form left ≡ Some NoTag
refused_tag names form left p q r = refused_by_tag names form left true p q r

pub not_refused : (names : Names) (form : Form) (left : Tree) → has_no_symbol names form left ≡ false → is_nested names (inner names left) ≡ false
    → is_empty (places names form left) ≡ false → refusal names (λ s. false) form left ≡ None
not_refused names form left p q r = refused_by_tag names form left false p q r

pub no_symbol_at_head : (names : Names) (left : Tree) → (has_wrapping names left && not (is_normal (inner names left))) ≡ false
    → has_no_symbol names ToHead left ≡ is_empty (places names ToHead left)
no_symbol_at_head names left p =
    ap (λ b. elim b [ true ↦ true | false ↦ elim (places names ToHead left) [ [] ↦ true | _ ↦ false ] ]) p ∙ told_empty (places names ToHead left)

pub no_symbol_in_items : (names : Names) (left : Tree) → (has_wrapping names left && not (is_normal (inner names left))) ≡ false
    → has_no_symbol names ToItems left ≡ is_empty (places names ToItems left)
no_symbol_in_items names left p =
    ap (λ b. elim b [ true ↦ true | false ↦ elim (places names ToItems left) [ [] ↦ true | _ ↦ false ] ]) p ∙ told_empty (places names ToItems left)

empty_or : (ss : List Sym) → elim ss [ [] ↦ true | _ ↦ false ] ≡ is_empty ss
empty_or [] = refl
empty_or (s ∷ ss) = refl

pub no_symbol_for_tag : (names : Names) (t : Sym) (left : Tree) → (has_wrapping names left && not (is_normal (inner names left))) ≡ false
    → has_no_symbol names (ToTag t) left ≡ is_empty (symbols_at (inner names left))
no_symbol_for_tag names t left p =
    ap (λ b. elim b [ true ↦ true | false ↦ elim (symbols_at (inner names left)) [ [] ↦ true | _ ↦ false ] ]) p ∙ empty_or (symbols_at (inner names left))

pub ruleset shape_steps = (refused_symbol, refused_nested, refused_tag, not_refused, no_symbol_at_head, no_symbol_in_items, no_symbol_for_tag)

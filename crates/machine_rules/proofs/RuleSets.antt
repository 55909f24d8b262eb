-- Rules that are read from expressions, one after the other.
use Rattle.std.proofs.Common.{◌≡◌, ◌∙◌, ℕ, zero, suc, ◌+◌, ◌<◌, ◌≤◌, List, [], ◌∷◌, ◌++◌, length, get_or, drop, drop-cons, add-one, Bool, true, false, ◌||◌, Option, Some, None, refl, ap, sym, append_assoc, append-nil, arith}
use Rattle.expr_tree.specs.Tree.{Tree}
use Rattle.expr_tree.specs.Shapes.{pair_of}
use Rattle.semantics.specs.declared.builtin.Builtin.{Builtin}
use Rattle.semantics.specs.Names.{Names, is_call, items_of}
use Rattle.semantics.specs.Rule.{Rule}
use Rattle.semantics.specs.Replace.{rule_in, rule_of, rules_in, rule_set}

-- these rules and then those, if there are any
abbrev pub behind : List Rule → Option (List Rule) → Option (List Rule)
behind rs None = None
behind rs (Some ss) = Some (rs ++ ss)

-- ---- one rule

abbrev is_rule : Names → Tree → Bool
is_rule names e = is_call names Builtin.Rule e || is_call names Builtin.RuleDelayed e

sides : (es : List Tree) (l r : Tree) → pair_of es ≡ Some (l, r) → rule_in es ≡ Some (record { left = l; right = r })
sides [] l r e = absurd (cc)
sides (x ∷ []) l r e = absurd (cc)
sides (x ∷ y ∷ []) l r e = ap (λ (o : Option (Tree × Tree)). elim o as (λ _. Option Rule) [ None ↦ None | Some p ↦ Some (record { left = p.0; right = p.1 }) ]) e
sides (x ∷ y ∷ z ∷ es) l r e = absurd (cc)

no_sides : (es : List Tree) → pair_of es ≡ None → rule_in es ≡ None
no_sides [] e = refl
no_sides (x ∷ []) e = refl
no_sides (x ∷ y ∷ []) e = absurd (cc)
no_sides (x ∷ y ∷ z ∷ es) e = refl

by_test : (names : Names) (e : Tree) (b : Bool) → is_rule names e ≡ b → rule_of names e ≡ elim b as (λ _. Option Rule) [ true ↦ rule_in (items_of e) | false ↦ None ]
by_test names e b is = ap (λ c. elim c as (λ _. Option Rule) [ true ↦ rule_in (items_of e) | false ↦ None ]) is

pub rule_read : (names : Names) (e l r : Tree) → is_rule names e ≡ true → pair_of (items_of e) ≡ Some (l, r) → rule_of names e ≡ Some (record { left = l; right = r })
rule_read names e l r is two = by_test names e true is ∙ sides (items_of e) l r two

pub no_pair_read : (names : Names) (e : Tree) → is_rule names e ≡ true → pair_of (items_of e) ≡ None → rule_of names e ≡ None
no_pair_read names e is two = by_test names e true is ∙ no_sides (items_of e) two

pub no_rule_read : (names : Names) (e : Tree) → is_rule names e ≡ false → rule_of names e ≡ None
no_rule_read names e is = by_test names e false is

-- ---- the rules of a list

pub behind-nothing : (o : Option (List Rule)) → behind [] o ≡ o
behind-nothing None = refl
behind-nothing (Some rs) = refl

item_next : (es : List Tree) (i : ℕ) (e : Tree) → i < length es → e ≡ get_or es i e → drop i es ≡ e ∷ drop (i + 1) es
item_next es i e p is = rw (drop-cons es i e p, add-one) (ap (λ u. u ∷ drop (suc i) es) (sym is))

none_left : (es : List Tree) (i : ℕ) → length es ≤ i → drop i es ≡ []
none_left [] zero p = refl
none_left [] (suc i) p = refl
none_left (e ∷ es) zero p = absurd (omega arith)
none_left (e ∷ es) (suc i) p = none_left es i (omega arith)

put_behind : (rs : List Rule) (r : Rule) (o : Option (List Rule)) → behind rs (elim o as (λ _. Option (List Rule)) [ None ↦ None | Some ss ↦ Some (r ∷ ss) ]) ≡ behind (rs ++ r ∷ []) o
put_behind rs r None = refl
put_behind rs r (Some ss) = ap Some (sym (append_assoc rs (r ∷ []) ss))

-- the rules of e and of those behind it
abbrev with_rest : Names → List Tree → Option Rule → Option (List Rule)
with_rest names es o = elim o as (λ _. Option (List Rule)) [ None ↦ None | Some r ↦ elim (rules_in names es) as (λ _. Option (List Rule)) [ None ↦ None | Some ss ↦ Some (r ∷ ss) ] ]

pub rules_more : (names : Names) (es : List Tree) (i : ℕ) (e : Tree) (rs longer : List Rule) (r : Rule) (whole : Option (List Rule)) → i < length es → e ≡ get_or es i e → Some r ≡ rule_of names e → longer ≡ rs ++ r ∷ []
    → behind rs (rules_in names (drop i es)) ≡ whole → behind longer (rules_in names (drop (i + 1) es)) ≡ whole
rules_more names es i e rs longer r whole inside is read pushed so_far =
    ap (λ xs. behind xs (rules_in names (drop (i + 1) es))) pushed
    ∙ (sym (put_behind rs r (rules_in names (drop (i + 1) es)))
    ∙ (ap (λ o. behind rs (with_rest names (drop (i + 1) es) o)) read
    ∙ (ap (λ xs. behind rs (rules_in names xs)) (sym (item_next es i e inside is)) ∙ so_far)))

pub rules_none : (names : Names) (es : List Tree) (i : ℕ) (e : Tree) (rs : List Rule) (whole : Option (List Rule)) → i < length es → e ≡ get_or es i e → None ≡ rule_of names e
    → behind rs (rules_in names (drop i es)) ≡ whole → None ≡ whole
rules_none names es i e rs whole inside is read so_far =
    ap (λ o. behind rs (with_rest names (drop (i + 1) es) o)) read
    ∙ (ap (λ xs. behind rs (rules_in names xs)) (sym (item_next es i e inside is)) ∙ so_far)

pub rules_end : (names : Names) (es : List Tree) (i : ℕ) (rs : List Rule) (whole : Option (List Rule)) → length es ≤ i → behind rs (rules_in names (drop i es)) ≡ whole → Some rs ≡ whole
rules_end names es i rs whole past so_far =
    ap Some (sym (append-nil rs)) ∙ (ap (λ xs. behind rs (rules_in names xs)) (sym (none_left es i past)) ∙ so_far)

-- ---- a set of rules

pub list_read : (names : Names) (e : Tree) → is_call names Builtin.List e ≡ true → rule_set names e ≡ rules_in names (items_of e)
list_read names e is = ap (λ b. elim b as (λ _. Option (List Rule)) [ true ↦ rules_in names (items_of e) | false ↦ rules_in names (e ∷ []) ]) is

pub one_read : (names : Names) (e : Tree) → is_call names Builtin.List e ≡ false → rule_set names e ≡ rules_in names (e ∷ [])
one_read names e is = ap (λ b. elim b as (λ _. Option (List Rule)) [ true ↦ rules_in names (items_of e) | false ↦ rules_in names (e ∷ []) ]) is

pub ruleset rule_steps = (rule_read, no_pair_read, no_rule_read, behind-nothing, list_read, one_read)

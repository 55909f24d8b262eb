-- Sets of symbols that evaluations keep to, in which no row but Module takes a number: all symbols, and all but the names of rows by which
-- there may be a throw.
use Rattle.std.proofs.Common.{◌≡◌, refl, sym, ap, ◌∙◌, ℕ, ◌≤◌, arith, Bool, true, false, List, [], ◌∷◌, Option, Some, None, true≢false, eqb-true}
use Rattle.std.specs.Prelude.{◌==◌}
use Rattle.expr_tree.specs.declared.sym.Sym.{Sym}
use Rattle.expr_tree.specs.Tree.{Tree, integer, string, symbol, normal, Trees, nil, cons}
use Rattle.semantics.specs.declared.builtin.Builtin.{Builtin}
use Rattle.semantics.specs.Names.{Names, IsNames, known, role_of}
use Rattle.semantics.specs.Definitions.{Definition}
use Rattle.semantics.specs.Rule.{Rule}
use Rattle.laws_closure.specs.Throws.{may_throw, role_throws}
use Rattle.laws_closure.proofs.Inside.{Each, Opt, In, Ins}
use Rattle.laws_closure.proofs.Programs.{Origin, before, new, Realm, DefinedIn}

pub data Nowhere : Type 0 where

-- a set of symbols with all that may be made from the number `first` on
pub record Circle (names : Names) : Type 1 where
  pub Member : Sym → Type 0
  -- where throws may be made and caught
  pub Throwing : Type 0
  pub first : ℕ
  pub knows : (r : Builtin) → may_throw r ≡ false → Member (known names r)
  pub knows_any : Throwing → (r : Builtin) → Member (known names r)
  pub throwing : (r : Builtin) (s : Sym) → Member s → role_of names s ≡ Some r → may_throw r ≡ true → Throwing
  pub made : (s : Sym) → first ≤ s.number → Member s

pub from_origin : {names : Names} (C : Circle names) (s : Sym) → Origin (C.Member s) (C.first ≤ s.number) → C.Member s
from_origin C s (before s_in) = s_in
from_origin C s (new le) = C.made s le

-- no number is taken in it
abbrev pub calm : (names : Names) → Circle names → Realm
calm names C =
    record {
      names = names;
      first_number = C.first;
      World = Unit {0};
      Member = λ w s. C.Member s;
      Table = Unit {0};
      Numbered = λ w. Nowhere;
      Throwing = C.Throwing;
      knows = λ w t r calm. C.knows r calm;
      knows_any = λ free w t r. C.knows_any free r;
      throwing = λ w r s s_in is throws. C.throwing r s s_in is throws;
      tabled = λ w r s s_in is. tt;
      has_role = λ w r s s_in is. tt;
      extended = λ w s t o. tt;
      kept = λ w s t o x x_in. x_in;
      added = λ w s t o. from_origin C s o;
      only = λ w s t o x x_in. before x_in;
    }

-- ---- all symbols

abbrev pub all_symbols : (names : Names) → Circle names
all_symbols names =
    record {
      Member = λ s. Unit {0};
      Throwing = Unit {0};
      first = 0;
      knows = λ r calm. tt;
      knows_any = λ free r. tt;
      throwing = λ r s s_in is throws. tt;
      made = λ s le. tt;
    }

abbrev All : Sym → Type 0
All s = Unit {0}

mutual
  pub anything : (e : Tree) → In All e
  anything (integer n) = tt
  anything (string t) = tt
  anything (symbol s) = tt
  anything (normal h es) = (anything h, all_things es)

  all_things : (es : Trees) → Ins All es
  all_things nil = tt
  all_things (cons e es) = (anything e, all_things es)

rules_of : (rs : List Rule) → Each (λ r. In All r.left × In All r.right) rs
rules_of [] = tt
rules_of (r ∷ rs) = ((anything r.left, anything r.right), rules_of rs)

perhaps_thing : (o : Option Tree) → Opt (In All) o
perhaps_thing None = tt
perhaps_thing (Some e) = anything e

pub defined_anyhow : (names : Names) (d : Definition) → DefinedIn (calm names (all_symbols names)) tt d
defined_anyhow names d = record { own = perhaps_thing d.own; downs = rules_of d.downs; ups = rules_of d.ups }

-- ---- no name of a row by which there may be a throw

pub number_has_no_role : (names : Names) (s : Sym) → 1 ≤ s.number → role_throws (role_of names s) ≡ false
number_has_no_role names s le = go (s.number == 0) refl
  where
    go : (b : Bool) → (s.number == 0) ≡ b → role_throws (elim b [ true ↦ names.role s.base | false ↦ None ]) ≡ false
    go true is = let zero_is = eqb-true s.number 0 is in absurd (omega (arith, le, zero_is))
    go false is = refl

pub no_throw : (names : Names) (r : Builtin) (s : Sym) → role_throws (role_of names s) ≡ false → role_of names s ≡ Some r → may_throw r ≡ true → Nowhere
no_throw names r s s_in is throws = absurd (true≢false (sym throws ∙ (sym (ap role_throws is) ∙ s_in)))

abbrev pub without_throws : (names : Names) → IsNames names → Circle names
without_throws names is =
    record {
      Member = λ s. role_throws (role_of names s) ≡ false;
      Throwing = Nowhere;
      first = 1;
      knows = λ r calm. ap role_throws (is.found r) ∙ calm;
      knows_any = λ free r. elim free [ ];
      throwing = λ r s s_in role throws. no_throw names r s s_in role throws;
      made = λ s le. number_has_no_role names s le;
    }

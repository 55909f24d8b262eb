-- What is shifted is related to what it was, and what is related to it is shifted.
use Rattle.std.proofs.Common.{◌≡◌, refl, sym, ap, ◌∙◌, ℕ, ◌+◌, List, [], ◌∷◌, map, Option, Some, None}
use Rattle.expr_tree.specs.declared.sym.Sym.{Sym}
use Rattle.expr_tree.specs.Tree.{Tree, integer, string, symbol, normal, Trees, nil, cons}
use Rattle.semantics.specs.Rule.{Rule}
use Rattle.semantics.specs.Definitions.{Definition, Definitions, Shared}
use Rattle.laws_relations.specs.Order.{shifted_symbol}
use Rattle.laws_relations.proofs.Relate.{Opt, none, some, All, all_nil, all_cons}
use Rattle.laws_relations.proofs.Relation.{Like, int, str, sym as same_sym, node, Likes, ends, mores, LikeRule, LikeDefinition}
use Rattle.laws_relations.proofs.States.{LikeShared, LikeEntry, LikeDefinitions}
use Rattle.laws_relations.proofs.Shift.{Shifted, moved_is_shifted}
use Rattle.laws_shift.specs.Shift.{shift, shift_items, shift_value, shift_rule, shift_definition, shift_entry, shift_shared, shift_definitions}

each-map : {A : Type 0} {R : A → A → Type 0} (f : A → A) → ((a : A) → R a (f a)) → (as' : List A) → All R as' (map f as')
each-map f one [] = all_nil
each-map f one (a ∷ as') = all_cons (one a) (each-map f one as')

all-is : {A : Type 0} {R : A → A → Type 0} (f : A → A) → ((a b : A) → R a b → b ≡ f a) → {as' bs : List A} → All R as' bs → bs ≡ map f as'
all-is f one all_nil = refl
all-is f one (all_cons r l) = λ i. one _ _ r i ∷ all-is f one l i

module _ (from by : ℕ) where
  abbrev pub S : Sym → Sym → Type 0
  S = Shifted from by

  -- ---- related to what it was

  pub symbol-shifts : (s : Sym) → S s (shifted_symbol from by s)
  symbol-shifts s = sym (moved_is_shifted from by s)

  mutual
    pub shifts : (e : Tree) → Like S e (shift from by e)
    shifts (integer n) = int
    shifts (string t) = str
    shifts (symbol s) = same_sym (symbol-shifts s)
    shifts (normal h es) = node (shifts h) (items-shift es)

    items-shift : (es : Trees) → Likes S es (shift_items from by es)
    items-shift nil = ends
    items-shift (cons e es) = mores (shifts e) (items-shift es)

  value-shifts : (o : Option Tree) → Opt (Like S) o (shift_value from by o)
  value-shifts None = none
  value-shifts (Some v) = some (shifts v)

  rule-shifts : (r : Rule) → LikeRule S r (shift_rule from by r)
  rule-shifts r = record { left = shifts r.left; right = shifts r.right }

  entry-shifts : (e : Sym × Definition) → LikeEntry S e (shift_entry from by e)
  entry-shifts e =
      record {
        symbol = symbol-shifts e.0;
        defined = record {
          attributes = refl;
          own = value-shifts e.1.own;
          downs = each-map (shift_rule from by) rule-shifts e.1.downs;
          ups = each-map (shift_rule from by) rule-shifts e.1.ups;
        };
      }

  shared-shifts : (e : Shared) → LikeShared S e (shift_shared from by e)
  shared-shifts e = record { symbol = symbol-shifts e.symbol; kind = refl; attributes = refl }

  pub definitions-shift : (d : Definitions) → LikeDefinitions S d (shift_definitions from by d)
  definitions-shift d =
      record {
        entries = each-map (shift_entry from by) entry-shifts d.entries;
        shared = each-map (shift_shared from by) shared-shifts d.shared;
        named = each-map (shifted_symbol from by) symbol-shifts d.named;
      }

  -- ---- what is related is shifted

  symbol-is : (s t : Sym) → S s t → t ≡ shifted_symbol from by s
  symbol-is s t e = e ∙ moved_is_shifted from by s

  mutual
    pub tree-is : {e f : Tree} → Like S e f → f ≡ shift from by e
    tree-is int = refl
    tree-is str = refl
    tree-is (same_sym s) = ap symbol (symbol-is _ _ s)
    tree-is (node h es) = λ i. normal (tree-is h i) (items-are es i)

    items-are : {es fs : Trees} → Likes S es fs → fs ≡ shift_items from by es
    items-are ends = refl
    items-are (mores e es) = λ i. cons (tree-is e i) (items-are es i)

  value-is : {o p : Option Tree} → Opt (Like S) o p → p ≡ shift_value from by o
  value-is none = refl
  value-is (some v) = ap Some (tree-is v)

  rule-is : (r q : Rule) → LikeRule S r q → q ≡ shift_rule from by r
  rule-is r q one = λ i. record { left = tree-is one.left i; right = tree-is one.right i }

  pub definition-is : {d c : Definition} → LikeDefinition S d c → c ≡ shift_definition from by d
  definition-is {d} {c} one =
      λ i. record {
        attributes = sym one.attributes i;
        own = value-is one.own i;
        downs = all-is (shift_rule from by) rule-is one.downs i;
        ups = all-is (shift_rule from by) rule-is one.ups i;
      }

  entry-is : (e f : Sym × Definition) → LikeEntry S e f → f ≡ shift_entry from by e
  entry-is e f one = λ i. (symbol-is _ _ one.symbol i, definition-is one.defined i)

  shared-is : (e f : Shared) → LikeShared S e f → f ≡ shift_shared from by e
  shared-is e f one = λ i. record { symbol = symbol-is _ _ one.symbol i; kind = sym one.kind i; attributes = sym one.attributes i }

  pub definitions-are : (d c : Definitions) → LikeDefinitions S d c → c.module_number ≡ d.module_number + by → c ≡ shift_definitions from by d
  definitions-are d c one number =
      λ i. record {
        entries = all-is (shift_entry from by) entry-is one.entries i;
        shared = all-is (shift_shared from by) shared-is one.shared i;
        named = all-is (shifted_symbol from by) symbol-is one.named i;
        module_number = number i;
      }

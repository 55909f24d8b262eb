-- What is kept is related to itself by a relation that keeps bases below a number, and what is related is kept: an instance of the relations
-- of `laws_relations` that follows programs through a use of the mode.
use Rattle.std.proofs.Common.{◌≡◌, refl, ℕ, ◌<◌, List, [], ◌∷◌, Option, Some, None}
use Rattle.expr_tree.specs.declared.sym.Sym.{Sym}
use Rattle.expr_tree.specs.Tree.{Tree, integer, string, symbol, normal, Trees, nil, cons}
use Rattle.script_text.specs.Laws.{IsKept, AreKept}
use Rattle.semantics.specs.Rule.{Rule}
use Rattle.semantics.specs.Definitions.{Definition, Definitions, Shared}
use Rattle.laws_relations.proofs.Relate.{Opt, none, some, All, all_nil, all_cons}
use Rattle.laws_relations.proofs.Relation.{Like, int, str, sym as same_sym, node, Likes, ends, mores, LikeRule, LikeDefinition}
use Rattle.laws_relations.proofs.States.{LikeShared, LikeEntry, LikeDefinitions}
use Rattle.laws_bases.specs.Kept.{IsKeptValue, AreKeptRules, IsKeptDefinition, AreKeptEntries, AreKeptShared, AreKeptSymbols, AreKeptIn}

module _ (count : ℕ) where
  -- the same symbol, with a base below the number
  abbrev pub S : Sym → Sym → Type 0
  S s t = (s ≡ t) × (s.base < count)

  -- ---- what is kept is related to itself

  mutual
    pub tree-like : (e : Tree) → IsKept count e → Like S e e
    tree-like (integer n) k = int
    tree-like (string t) k = str
    tree-like (symbol s) k = same_sym (refl, k)
    tree-like (normal h es) k = node (tree-like h k.0) (items-like es k.1)

    items-like : (es : Trees) → AreKept count es → Likes S es es
    items-like nil k = ends
    items-like (cons e es) k = mores (tree-like e k.0) (items-like es k.1)

  value-like : (o : Option Tree) → IsKeptValue count o → Opt (Like S) o o
  value-like None k = none
  value-like (Some v) k = some (tree-like v k)

  rules-like : (rs : List Rule) → AreKeptRules count rs → All (LikeRule S) rs rs
  rules-like [] k = all_nil
  rules-like (r ∷ rs) k = all_cons (record { left = tree-like r.left k.0; right = tree-like r.right k.1 }) (rules-like rs k.2)

  definition-like : (x : Definition) → IsKeptDefinition count x → LikeDefinition S x x
  definition-like x k = record { attributes = refl; own = value-like x.own k.own; downs = rules-like x.downs k.downs; ups = rules-like x.ups k.ups }

  entries-like : (es : List (Sym × Definition)) → AreKeptEntries count es → All (LikeEntry S) es es
  entries-like [] k = all_nil
  entries-like (e ∷ es) k = all_cons (record { symbol = (refl, k.0); defined = definition-like e.1 k.1 }) (entries-like es k.2)

  shared-like : (es : List Shared) → AreKeptShared count es → All (LikeShared S) es es
  shared-like [] k = all_nil
  shared-like (e ∷ es) k = all_cons (record { symbol = (refl, k.0); kind = refl; attributes = refl }) (shared-like es k.1)

  symbols-like : (ss : List Sym) → AreKeptSymbols count ss → All S ss ss
  symbols-like [] k = all_nil
  symbols-like (s ∷ ss) k = all_cons (refl, k.0) (symbols-like ss k.1)

  pub definitions-like : (d : Definitions) → AreKeptIn count d → LikeDefinitions S d d
  definitions-like d k = record { entries = entries-like d.entries k.entries; shared = shared-like d.shared k.shared; named = symbols-like d.named k.named }

  -- ---- what is related is kept

  mutual
    pub tree-kept : {e f : Tree} → Like S e f → IsKept count e
    tree-kept int = tt
    tree-kept str = tt
    tree-kept (same_sym s) = s.1
    tree-kept (node h es) = (tree-kept h, items-kept es)

    items-kept : {es fs : Trees} → Likes S es fs → AreKept count es
    items-kept ends = tt
    items-kept (mores e es) = (tree-kept e, items-kept es)

  value-kept : {o p : Option Tree} → Opt (Like S) o p → IsKeptValue count o
  value-kept none = tt
  value-kept (some v) = tree-kept v

  rules-kept : {rs qs : List Rule} → All (LikeRule S) rs qs → AreKeptRules count rs
  rules-kept all_nil = tt
  rules-kept (all_cons r rs) = (tree-kept r.left, tree-kept r.right, rules-kept rs)

  definition-kept : {x y : Definition} → LikeDefinition S x y → IsKeptDefinition count x
  definition-kept k = record { own = value-kept k.own; downs = rules-kept k.downs; ups = rules-kept k.ups }

  entries-kept : {es fs : List (Sym × Definition)} → All (LikeEntry S) es fs → AreKeptEntries count es
  entries-kept all_nil = tt
  entries-kept (all_cons e es) = (e.symbol.1, definition-kept e.defined, entries-kept es)

  shared-kept : {es fs : List Shared} → All (LikeShared S) es fs → AreKeptShared count es
  shared-kept all_nil = tt
  shared-kept (all_cons e es) = (e.symbol.1, shared-kept es)

  pub symbols-kept : {ss ts : List Sym} → All S ss ts → AreKeptSymbols count ss
  symbols-kept all_nil = tt
  symbols-kept (all_cons s ss) = (s.1, symbols-kept ss)

  pub definitions-kept : {d c : Definitions} → LikeDefinitions S d c → AreKeptIn count d
  definitions-kept k = record { entries = entries-kept k.entries; shared = shared-kept k.shared; named = symbols-kept k.named }

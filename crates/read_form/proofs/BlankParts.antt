-- The parts of a blank.
use Rattle.std.proofs.Common.{◌≡◌, refl, ℕ, ◌<◌, ◌≤◌, List, [], ◌∷◌, ◌++◌, length, arith}
use Rattle.expr_tree.specs.Tree.{Tree, trees, sizes, depths}
use Rattle.script_text.specs.Spelling.{spelled, place_in}
use Rattle.semantics.specs.declared.builtin.Builtin.{Builtin}
use Rattle.semantics.specs.Names.{Names, make}
use Rattle.syntax.specs.Tokens.{nonempty}
use Rattle.syntax.specs.Leaves as leaf
use Rattle.read_form.specs.Kept.{AreKeptNames}

pub kept_front : (texts us vs : List (List ℕ)) → AreKeptNames texts (us ++ vs) → AreKeptNames texts us
kept_front texts [] vs k = tt
kept_front texts (u ∷ us) vs (p, k) = (p, kept_front texts us vs k)

pub kept_back : (texts us vs : List (List ℕ)) → AreKeptNames texts (us ++ vs) → AreKeptNames texts vs
kept_back texts [] vs k = k
kept_back texts (u ∷ us) vs (p, k) = kept_back texts us vs k

-- a name that is there is kept
pub kept_one : (texts : List (List ℕ)) (w : List ℕ) → AreKeptNames texts (nonempty w) → 0 < length w → place_in texts (spelled w).base < length texts
kept_one texts [] k h = absurd (omega arith)
kept_one texts (c ∷ cs) (k, _) h = k

pub head_size : (names : Names) (find : List ℕ → ℕ) (w : List ℕ) → sizes (trees (leaf.blank_head names find w)) ≤ 1
head_size names find [] = omega arith
head_size names find (c ∷ cs) = omega arith

pub head_depth : (names : Names) (find : List ℕ → ℕ) (w : List ℕ) → depths (trees (leaf.blank_head names find w)) ≤ 1
head_depth names find [] = omega arith
head_depth names find (c ∷ cs) = omega arith

pub head_none : (names : Names) (find : List ℕ → ℕ) (w : List ℕ) → w ≡ [] → leaf.blank_head names find w ≡ []
head_none names find [] e = refl
head_none names find (c ∷ cs) e = cc

pub head_some : (names : Names) (find : List ℕ → ℕ) (w : List ℕ) → 0 < length w → leaf.blank_head names find w ≡ leaf.name_leaf names find w ∷ []
head_some names find [] h = absurd (omega arith)
head_some names find (c ∷ cs) h = refl

pub named_none : (names : Names) (find : List ℕ → ℕ) (w : List ℕ) (e : Tree) → w ≡ [] → leaf.named names find w e ≡ e
named_none names find [] e q = refl
named_none names find (c ∷ cs) e q = cc

pub named_some : (names : Names) (find : List ℕ → ℕ) (w : List ℕ) (e : Tree) → 0 < length w → leaf.named names find w e ≡ make names Builtin.Pattern (leaf.name_leaf names find w ∷ e ∷ [])
named_some names find [] e h = absurd (omega arith)
named_some names find (c ∷ cs) e h = refl

pub ruleset blank_steps = (head_size, head_depth, head_none, head_some, named_none, named_some, kept_one)

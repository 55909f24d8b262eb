-- The steps of a pass that the left side of an assignment goes through too.
use Rattle.std.proofs.Common.{◌≡◌, refl, ap, subst, Bool, not, List, []}
use Rattle.std.specs.Prelude.{◌&&◌, ◌||◌}
use Rattle.expr_tree.specs.Tree.{Tree}
use Rattle.semantics.specs.declared.builtin.Builtin.{Builtin}
use Rattle.semantics.specs.Program.{Prog}
use Rattle.semantics.specs.Definitions.{Attributes, has}
use Rattle.semantics.specs.Assemble.{attributes_of, ask_rest, ask_items, is_asked, is_single, is_evaluate, holds_first, holds_rest, spliced, first_steps, flattened, threaded, sorted, check_all, left_side}
use Rattle.laws_relations.proofs.Relate.{Opt, none, all_nil, all_cons, branch, case, append2}
use Rattle.laws_relations.proofs.Relation.{int, str, sym, node, call-like, items-like, listed-like, is_call-like, make-like, splice-like, flatten-like, thread-like, ordered-like}
use Rattle.laws_relations.proofs.Kin.{Kin, LikeTree, LikeTrees}
use Rattle.laws_relations.proofs.Simulation.{Both, Next, NextList, ask, look, check}

module _ (K : Kin) where
  open K use {names}

  -- ---- head, elements, splicing

  is_single-like : {es fs : List Tree} → LikeTrees K es fs → is_single es ≡ is_single fs
  is_single-like (all_cons e all_nil) = refl
  is_single-like _ = refl

  is_evaluate-like : {e f : Tree} → LikeTree K e f → is_evaluate names e ≡ is_evaluate names f
  is_evaluate-like e = λ i. is_call-like K.Symbols names K.faithful Builtin.Evaluate e i && is_single-like (items-like K.Symbols e) i

  is_asked-like : (a : Attributes) (held : Bool) {e f : Tree} → LikeTree K e f → is_asked names a held e ≡ is_asked names a held f
  is_asked-like a held e = ap (λ b. not held || (b && not (has Builtin.HoldAllComplete a))) (is_evaluate-like e)

  ask_rest-both : (a : Attributes) {es fs so so' : List Tree} (k l : List Tree → Prog) → LikeTrees K es fs → LikeTrees K so so' → NextList K k l → Both K (ask_rest names a es so k) (ask_rest names a fs so' l)
  ask_rest-both a k l all_nil so next = next _ _ so
  ask_rest-both a k l (all_cons e es) so next =
      branch (Both K) (is_asked-like a (holds_rest a) e) (ask e (λ v x same. ask_rest-both a k l es (append2 so (all_cons same all_nil)) next))
      (ask_rest-both a k l es (append2 so (all_cons e all_nil)) next)

  ask_items-both : (a : Attributes) {es fs : List Tree} (k l : List Tree → Prog) → LikeTrees K es fs → NextList K k l → Both K (ask_items names a es k) (ask_items names a fs l)
  ask_items-both a k l all_nil next = next _ _ all_nil
  ask_items-both a k l (all_cons e es) next =
      branch (Both K) (is_asked-like a (holds_first a) e) (ask e (λ v x same. ask_rest-both a k l es (all_cons same all_nil) next)) (ask_rest-both a k l es (all_cons e all_nil) next)

  -- the attributes of related heads are the same
  attributes_of-both : {h g : Tree} (k l : Attributes → Prog) → LikeTree K h g → ((a : Attributes) → Both K (k a) (l a)) → Both K (attributes_of h k) (attributes_of g l)
  attributes_of-both k l int next = next []
  attributes_of-both k l str next = next []
  attributes_of-both k l (sym s) next = look s (λ x y defined shared. subst (λ a. Both K (k (x.definition.attributes)) (l a)) defined.attributes (next (x.definition.attributes)))
  attributes_of-both k l (node h es) next = next []

  spliced-like : (a : Attributes) {es fs : List Tree} → LikeTrees K es fs → LikeTrees K (spliced names a es) (spliced names a fs)
  spliced-like a l = branch (LikeTrees K) refl l (splice-like K.Symbols names K.faithful l)

  pub first_steps-both : {h g : Tree} {es fs : List Tree} (k l : Tree → Attributes → List Tree → Prog) → LikeTree K h g → LikeTrees K es fs
      → ((x y : Tree) (a : Attributes) (gs hs : List Tree) → LikeTree K x y → LikeTrees K gs hs → Both K (k x a gs) (l y a hs)) → Both K (first_steps names h es k) (first_steps names g fs l)
  first_steps-both k l h es next =
      ask h (λ x y head. attributes_of-both _ _ head (λ a. ask_items-both a _ _ es (λ gs hs items.
      check (call-like K.Symbols head (spliced-like a items)) (next x y a _ _ head (spliced-like a items)))))

  -- ---- flattening, threading, sorting

  pub flattened-like : (a : Attributes) {h g : Tree} {es fs : List Tree} → LikeTree K h g → LikeTrees K es fs → LikeTrees K (flattened h a es) (flattened g a fs)
  flattened-like a (sym s) l = branch (LikeTrees K) refl (flatten-like K.Symbols names K.faithful s l) l
  flattened-like a _ l = l

  pub threaded-like : (a : Attributes) {h g : Tree} {es fs : List Tree} → LikeTree K h g → LikeTrees K es fs → Opt (LikeTrees K) (threaded names h a es) (threaded names g a fs)
  threaded-like a (sym s) l = branch (Opt (LikeTrees K)) refl (thread-like K.Symbols names K.faithful s l) none
  threaded-like a _ l = none

  pub sorted-like : (a : Attributes) {es fs : List Tree} → LikeTrees K es fs → LikeTrees K (sorted a es) (sorted a fs)
  sorted-like a l = branch (LikeTrees K) refl (ordered-like K.Symbols names K.faithful l) l

  pub check_all-both : {es fs : List Tree} {p q : Prog} → LikeTrees K es fs → Both K p q → Both K (check_all es p) (check_all fs q)
  check_all-both all_nil both = both
  check_all-both (all_cons e es) both = check e (check_all-both es both)

  pub left_side-both : {e f : Tree} (k l : Tree → Prog) → LikeTree K e f → Next K k l → Both K (left_side names e k) (left_side names f l)
  left_side-both k l (node h es) next =
      first_steps-both _ _ h (listed-like K.Symbols es) (λ x y a gs hs head items.
      let flat = flattened-like a head items in
      case (Both K) (threaded-like a head flat) (next _ _ (call-like K.Symbols head (sorted-like a flat)))
      (λ vs xs each. check_all-both each (next _ _ (make-like K.Symbols names K.faithful Builtin.List each))))
  left_side-both k l int next = next _ _ int
  left_side-both k l str next = next _ _ str
  left_side-both k l (sym s) next = next _ _ (sym s)

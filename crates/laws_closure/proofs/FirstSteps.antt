-- Head, elements and splicing, and the left side of an assignment, keep to a set of symbols.
use Rattle.std.proofs.Common.{refl, subst, List, [], ◌∷◌, ◌++◌, Some, None}
use Rattle.std.specs.Prelude.{◌||◌}
use Rattle.expr_tree.specs.Tree.{Tree, integer, string, symbol, normal, elements, call}
use Rattle.semantics.specs.declared.builtin.Builtin.{Builtin}
use Rattle.semantics.specs.Names.{make}
use Rattle.semantics.specs.Definitions.{Attributes, has}
use Rattle.semantics.specs.Program.{Prog}
use Rattle.semantics.specs.Assemble.{attributes_of, holds_first, holds_rest, is_asked, ask_rest, ask_items, spliced, first_steps, flattened, threaded, sorted, check_all, left_side}
use Rattle.laws_closure.proofs.Inside as Inside
use Rattle.laws_closure.proofs.Inside.{both, Each, Opt, appended, In, AllIn, listed, called}
use Rattle.laws_closure.proofs.Programs.{Realm, Has, HasAll, Both, ask, look, check, grows, same_world, later, later_in, later_all, LaterGives, LaterAll, all_later, branch, option_both, made}

module _ (R : Realm) where
  open R use {names, World, Member, Table, knows, tabled}

  ask_rest_both : (es : List Tree) (w : World) (a : Attributes) (so : List Tree) (k l : List Tree → Prog) → HasAll R w es → HasAll R w so → LaterAll R w k l
      → Both R w (ask_rest names a es so k) (ask_rest names a es so l)
  ask_rest_both [] w a so k l all so_in next = next w (same_world R w) so so_in
  ask_rest_both (e ∷ es) w a so k l all so_in next =
      branch R w (is_asked names a (holds_rest a) e)
      (ask all.0 (λ u g v v_in. ask_rest_both es u a (so ++ v ∷ []) k l (later_all R w u g es all.1)
      (appended (Has R u) so (v ∷ []) (later_all R w u g so so_in) (v_in, tt)) (all_later R w u g next)))
      (ask_rest_both es w a (so ++ e ∷ []) k l all.1 (appended (Has R w) so (e ∷ []) so_in (all.0, tt)) next)

  ask_items_both : (es : List Tree) (w : World) (a : Attributes) (k l : List Tree → Prog) → HasAll R w es → LaterAll R w k l → Both R w (ask_items names a es k) (ask_items names a es l)
  ask_items_both [] w a k l all next = next w (same_world R w) [] tt
  ask_items_both (e ∷ es) w a k l all next =
      branch R w (is_asked names a (holds_first a) e)
      (ask all.0 (λ u g v v_in. ask_rest_both es u a (v ∷ []) k l (later_all R w u g es all.1) (v_in, tt) (all_later R w u g next)))
      (ask_rest_both es w a (e ∷ []) k l all.1 (all.0, tt) next)

  -- the attributes of a head are the same for both
  attributes_of_both : (w : World) (h : Tree) (k l : Attributes → Prog) → Has R w h → ((a : Attributes) → Both R w (k a) (l a)) → Both R w (attributes_of h k) (attributes_of h l)
  attributes_of_both w (integer n) k l one next = next []
  attributes_of_both w (string t) k l one next = next []
  attributes_of_both w (symbol s) k l one next =
      look one (λ x y seen. subst (λ a. Both R w (k x.definition.attributes) (l a)) seen.attributes (next x.definition.attributes))
  attributes_of_both w (normal h es) k l one next = next []

  pub spliced_in : (w : World) (a : Attributes) (es : List Tree) → HasAll R w es → HasAll R w (spliced names a es)
  spliced_in w a es all = both (HasAll R w) (has Builtin.SequenceHold a || has Builtin.HoldAllComplete a) all (Inside.spliced (Member w) names es all)

  pub first_steps_both : (w : World) (h : Tree) (es : List Tree) (k l : Tree → Attributes → List Tree → Prog) → Has R w h → HasAll R w es
      → ((u : World) → grows R w u → (x : Tree) (a : Attributes) (gs : List Tree) → Has R u x → HasAll R u gs → Both R u (k x a gs) (l x a gs))
      → Both R w (first_steps names h es k) (first_steps names h es l)
  first_steps_both w h es k l one all next =
      ask one (λ u g x x_in. attributes_of_both u x _ _ x_in (λ a. ask_items_both es u a _ _ (later_all R w u g es all)
      (λ u' g' gs gs_in. check (called (Member u') x (spliced names a gs) (later_in R u u' g' x x_in) (spliced_in u' a gs gs_in))
      (next u' (later R w u u' g g') x a (spliced names a gs) (later_in R u u' g' x x_in) (spliced_in u' a gs gs_in)))))

  pub flattened_in : (w : World) (h : Tree) (a : Attributes) (es : List Tree) → HasAll R w es → HasAll R w (flattened h a es)
  flattened_in w (symbol s) a es all = both (HasAll R w) (has Builtin.Flat a) (Inside.flattened (Member w) s es all) all
  flattened_in w _ a es all = all

  abbrev pub ThreadedIn : World → List Tree → Type 0
  ThreadedIn w es = Table × HasAll R w es

  pub threaded_in : (w : World) (h : Tree) (a : Attributes) (es : List Tree) → Has R w h → HasAll R w es → Opt (ThreadedIn w) (threaded names h a es)
  threaded_in w (symbol s) a es one all = both (Opt (ThreadedIn w)) (has Builtin.Listable a) (Inside.thread_in (Member w) names Table (knows w) (tabled w) s es one all) tt
  threaded_in w _ a es one all = tt

  pub sorted_in : (w : World) (a : Attributes) (es : List Tree) → HasAll R w es → HasAll R w (sorted a es)
  sorted_in w a es all = both (HasAll R w) (has Builtin.Orderless a) (Inside.in_order (Member w) es all) all

  pub check_all_both : (w : World) (es : List Tree) (p q : Prog) → HasAll R w es → Both R w p q → Both R w (check_all es p) (check_all es q)
  check_all_both w [] p q all next = next
  check_all_both w (e ∷ es) p q all next = check all.0 (check_all_both w es p q all.1 next)

  left_normal : (w : World) (h : Tree) (a : Attributes) (es : List Tree) (k l : Tree → Prog) → Has R w h → HasAll R w es → ((e : Tree) → Has R w e → Both R w (k e) (l e))
      → Both R w
      (elim (threaded names h a (flattened h a es)) [ Some each ↦ check_all each (k (make names Builtin.List each)) | None ↦ k (call h (sorted a (flattened h a es))) ])
      (elim (threaded names h a (flattened h a es)) [ Some each ↦ check_all each (l (make names Builtin.List each)) | None ↦ l (call h (sorted a (flattened h a es))) ])
  left_normal w h a es k l one all next =
      let flat = flattened_in w h a es all in
      option_both R w (ThreadedIn w) (threaded names h a (flattened h a es)) (threaded_in w h a (flattened h a es) one flat)
      (next (call h (sorted a (flattened h a es))) (called (Member w) h (sorted a (flattened h a es)) one (sorted_in w a (flattened h a es) flat)))
      (λ each t. check_all_both w each _ _ t.1 (next (make names Builtin.List each) (made R w t.0 Builtin.List refl each t.1)))

  pub left_side_both : (w : World) (e : Tree) (k l : Tree → Prog) → Has R w e → LaterGives R w k l → Both R w (left_side names e k) (left_side names e l)
  left_side_both w (normal h es) k l one next =
      first_steps_both w h (elements es) _ _ one.0 (listed (Member w) es one.1) (λ u g x a gs x_in gs_in. left_normal u x a gs k l x_in gs_in (next u g))
  left_side_both w (integer n) k l one next = next w (same_world R w) (integer n) tt
  left_side_both w (string t) k l one next = next w (same_world R w) (string t) tt
  left_side_both w (symbol s) k l one next = next w (same_world R w) (symbol s) one

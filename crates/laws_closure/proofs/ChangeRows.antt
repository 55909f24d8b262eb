-- Assignments and the other rows that change definitions keep to a set of symbols that holds the table.
use Rattle.std.proofs.Common.{◌≡◌, refl, sym, subst, Bool, true, false, List, [], ◌∷◌, map, Option, Some, None, true≢false}
use Rattle.std.specs.Prelude.{ℤ, negsuc, ◌||◌, is_some}
use Rattle.std.specs.declared.cmp.Ordering.{Ordering}
use Rattle.std.specs.declared.cmp.Ordering.TheVariants.{Less, Equal, Greater}
use Rattle.expr_tree.specs.declared.sym.Sym.{Sym}
use Rattle.expr_tree.specs.Tree.{Tree, integer, string, symbol, normal, Trees, nil, cons}
use Rattle.expr_tree.specs.Order.{same, same_symbol, text_cmp}
use Rattle.expr_tree.specs.Shapes.{symbol_of}
use Rattle.expr_tree.specs.Substitution.{among}
use Rattle.semantics.specs.declared.builtin.Builtin.{Builtin}
use Rattle.semantics.specs.Names.{name, items_of, make}
use Rattle.semantics.specs.Steps.{ordered}
use Rattle.semantics.specs.Rule.{Rule, replaces, is_replaced, replace_in, insert_in, insert, remove, key_of}
use Rattle.semantics.specs.Definitions.{Definition, Attributes, has, Share}
use Rattle.semantics.specs.Program.{Prog, Done, Look, Put, Seen}
use Rattle.semantics.specs.Assign.{Form, ToHead, ToItems, ToTag, Place, Own, Down, Up, Target, is_wrapper, inner, inner_first, add_symbol, item_symbols, all_at, at_head, is_that, tag_place, places_in, places, asked_symbols, Why, refusal, attached}
use Rattle.semantics.specs.Changes.{see_all, is_protected, protected_in, any_shared, unless_item, noting, attach_all, attaches_shared, assign, set, set_delayed, tag_set, tag_set_delayed, holders, holds, holding, any_protected, without_left, take_away, unset_from, unset, renew, change_own, change, old_value, new_value, plus_int, step_by, change_with, subtract_from, unless_shared_symbol, write, cleared, nothing_left, clear, clear_all, with_attributes, without_attributes, named_attributes, change_attributes, protect, attributes_row}
use Rattle.laws_closure.specs.Throws.{may_throw}
use Rattle.laws_closure.proofs.Inside.{both, Each, Opt, appended, items, symbol_in, in_order}
use Rattle.laws_closure.proofs.Programs.{before, Realm, Has, HasAll, RuleIn, DefinedIn, SeenBoth, Both, done, ask, look, put, edit, check, moded, grows, same_world, later_in, later_defined, Later, from_later, now, branch, option_both, made}
use Rattle.laws_closure.proofs.ControlRows.{failed_both, null_both}
use Rattle.laws_closure.proofs.FirstSteps.{left_side_both}

module _ (R : Realm) where
  open R use {names, World, Member, Table, knows}

  -- ---- what an assignment is attached to

  mutual
    inner_in : (w : World) (e : Tree) → Has R w e → Has R w (inner names e)
    inner_in w (integer n) one = tt
    inner_in w (string t) one = tt
    inner_in w (symbol s) one = one
    inner_in w (normal h es) one = both (Has R w) (is_wrapper names h es) (inner_first_in w h es one) one

    inner_first_in : (w : World) (h : Tree) (es : Trees) → Has R w (normal h es) → Has R w (inner_first names h es)
    inner_first_in w h nil one = one
    inner_first_in w h (cons p es) one = inner_in w p one.1.0

  add_symbol_in : (w : World) (o : Option Sym) (ss : List Sym) → Opt (Member w) o → Each (Member w) ss → Each (Member w) (add_symbol o ss)
  add_symbol_in w None ss one all = all
  add_symbol_in w (Some s) ss one all = both (Each (Member w)) (among s ss) all (appended (Member w) ss (s ∷ []) all (one, tt))

  item_symbols_in : (w : World) (es : List Tree) (ss : List Sym) → HasAll R w es → Each (Member w) ss → Each (Member w) (item_symbols es ss)
  item_symbols_in w [] ss es_in all = all
  item_symbols_in w (e ∷ es) ss es_in all = item_symbols_in w es (add_symbol (symbol_of e) ss) es_in.1 (add_symbol_in w (symbol_of e) ss (symbol_in (Member w) e es_in.0) all)

  abbrev pub TargetIn : World → Target → Type 0
  TargetIn w t = Member w t.symbol

  abbrev pub FormIn : World → Form → Type 0
  FormIn w ToHead = Unit {0}
  FormIn w ToItems = Unit {0}
  FormIn w (ToTag t) = Member w t

  all_at_in : (w : World) (place : Place) (ss : List Sym) → Each (Member w) ss → Each (TargetIn w) (all_at place ss)
  all_at_in w place [] all = tt
  all_at_in w place (s ∷ ss) all = (all.0, all_at_in w place ss all.1)

  at_head_in : (w : World) (o : Option Sym) → Opt (Member w) o → Each (TargetIn w) (at_head o)
  at_head_in w None one = tt
  at_head_in w (Some s) one = (one, tt)

  tag_place_in : (w : World) (t : Sym) (p : Tree) → Member w t → Each (TargetIn w) (tag_place t p)
  tag_place_in w t p one = both (Each (TargetIn w)) (is_that t (symbol_of p)) (go p) (both (Each (TargetIn w)) (among t (item_symbols (items_of p) [])) (one, tt) tt)
    where
      go : (e : Tree) → Each (TargetIn w) (elim e [ normal h es ↦ record { symbol = t; place = Down } ∷ [] | _ ↦ [] ])
      go (integer n) = tt
      go (string b) = tt
      go (symbol s) = tt
      go (normal h es) = (one, tt)

  places_in_in : (w : World) (form : Form) (p : Tree) → FormIn w form → Has R w p → Each (TargetIn w) (places_in form p)
  places_in_in w ToHead (symbol s) form one = (one, tt)
  places_in_in w ToHead (integer n) form one = tt
  places_in_in w ToHead (string t) form one = tt
  places_in_in w ToHead (normal h es) form one = at_head_in w (symbol_of (normal h es)) (symbol_in (Member w) (normal h es) one)
  places_in_in w ToItems p form one = all_at_in w Up (item_symbols (items_of p) []) (item_symbols_in w (items_of p) [] (items (Member w) p one) tt)
  places_in_in w (ToTag t) p form one = tag_place_in w t p form

  pub placed_in : (w : World) (form : Form) (left : Tree) → FormIn w form → Has R w left → Each (TargetIn w) (places names form left)
  placed_in w form left form_in one = places_in_in w form (inner names left) form_in (inner_in w left one)

  asked_in : (w : World) (form : Form) (ts : List Target) → FormIn w form → Each (TargetIn w) ts → Each (Member w) (asked_symbols form ts)
  asked_in w (ToTag t) ts form all = (form, tt)
  asked_in w ToHead [] form all = tt
  asked_in w ToItems [] form all = tt
  asked_in w ToHead (t ∷ ts) form all = (all.0, asked_in w ToHead ts form all.1)
  asked_in w ToItems (t ∷ ts) form all = (all.0, asked_in w ToItems ts form all.1)

  -- ---- rules put in and taken out

  replace_in_in : (w : World) (r : Rule) (rs : List Rule) → RuleIn R w r → Each (RuleIn R w) rs → Each (RuleIn R w) (replace_in names r rs)
  replace_in_in w r [] one all = tt
  replace_in_in w r (q ∷ qs) one all = both (Each (RuleIn R w)) (replaces names r q) (one, all.1) (all.0, replace_in_in w r qs one all.1)

  insert_in_in : (w : World) (r : Rule) (rs : List Rule) → RuleIn R w r → Each (RuleIn R w) rs → Each (RuleIn R w) (insert_in names r rs)
  insert_in_in w r [] one all = (one, tt)
  insert_in_in w r (q ∷ qs) one all = go (text_cmp (key_of names q) (key_of names r)) (insert_in_in w r qs one all.1)
    where
      go : (o : Ordering) → Each (RuleIn R w) (insert_in names r qs) → Each (RuleIn R w) (elim o [ Greater ↦ r ∷ q ∷ qs | _ ↦ q ∷ insert_in names r qs ])
      go Less rest = (all.0, rest)
      go Equal rest = (all.0, rest)
      go Greater rest = (one, all)

  insert_inside : (w : World) (r : Rule) (rs : List Rule) → RuleIn R w r → Each (RuleIn R w) rs → Each (RuleIn R w) (insert names r rs)
  insert_inside w r rs one all = both (Each (RuleIn R w)) (is_replaced names r rs) (replace_in_in w r rs one all) (insert_in_in w r rs one all)

  remove_in : (w : World) (left : Tree) (rs : List Rule) → Each (RuleIn R w) rs → Each (RuleIn R w) (remove left rs)
  remove_in w left [] all = tt
  remove_in w left (r ∷ rs) all = both (Each (RuleIn R w)) (same r.left left) (remove_in w left rs all.1) (all.0, remove_in w left rs all.1)

  attached_in : (w : World) (place : Place) (left right : Tree) → Has R w left → Has R w right → (d : Definition) → DefinedIn R w d → DefinedIn R w (attached names place left right d)
  attached_in w Own left right l r d one = record { own = r; downs = one.downs; ups = one.ups }
  attached_in w Down left right l r d one = record { own = one.own; downs = insert_inside w _ d.downs (l, r) one.downs; ups = one.ups }
  attached_in w Up left right l r d one = record { own = one.own; downs = one.downs; ups = insert_inside w _ d.ups (l, r) one.ups }

  -- ---- what is seen of several symbols

  pub data Seens (w : World) : List (Sym × Seen) → List (Sym × Seen) → Type 0 where
    nothing : Seens w [] []
    also : {s : Sym} {x y : Seen} {es fs : List (Sym × Seen)} → Member w s → SeenBoth R w x y → Seens w es fs → Seens w ((s, x) ∷ es) ((s, y) ∷ fs)

  see_all_both : (w : World) (ss : List Sym) (k l : List (Sym × Seen) → Prog) → Each (Member w) ss → ((es fs : List (Sym × Seen)) → Seens w es fs → Both R w (k es) (l fs))
      → Both R w (see_all ss k) (see_all ss l)
  see_all_both w [] k l all next = next [] [] nothing
  see_all_both w (s ∷ ss) k l all next =
      look all.0 (λ x y seen. see_all_both w ss (λ rest. k ((s, x) ∷ rest)) (λ rest. l ((s, y) ∷ rest)) all.1
      (λ es fs rest. next ((s, x) ∷ es) ((s, y) ∷ fs) (also all.0 seen rest)))

  shared_same : (w : World) {es fs : List (Sym × Seen)} → Seens w es fs → any_shared es ≡ any_shared fs
  shared_same w nothing = refl
  shared_same w (also s seen rest) = λ i. is_some (seen.shared i) || shared_same w rest i

  protected_same : (w : World) {es fs : List (Sym × Seen)} → Seens w es fs → protected_in es ≡ protected_in fs
  protected_same w nothing = refl
  protected_same w (also {s = s} seen_in seen rest) =
      λ i t. elim (same_symbol s t) [ true ↦ has Builtin.Protected (seen.attributes i) | false ↦ protected_same w rest i t ]

  attaches_same : (w : World) (ts : List Target) {es fs : List (Sym × Seen)} → Seens w es fs → attaches_shared ts es ≡ attaches_shared ts fs
  attaches_same w [] seens = refl
  attaches_same w (t ∷ ts) seens = shared_same w seens

  abbrev pub EntryIn : World → Sym × Seen → Type 0
  EntryIn w e = Member w e.0 × DefinedIn R w e.1.definition

  not_shared : (o : Option Share) (b : Bool) → (is_some o || b) ≡ false → (o ≡ None) × (b ≡ false)
  not_shared None b e = (refl, e)
  not_shared (Some a) b e = absurd (true≢false e)

  -- where none is shared, the same is seen
  none_shared : (w : World) {es fs : List (Sym × Seen)} → Seens w es fs → any_shared es ≡ false → (es ≡ fs) × Each (EntryIn w) es
  none_shared w nothing e = (refl, tt)
  none_shared w (also {s = s} {x = x} {y = y} s_in seen rest) e =
      let two = not_shared x.shared _ e in
      let more' = none_shared w rest two.1 in
      ((λ i. (s, record { definition = seen.same two.0 i; shared = seen.shared i }) ∷ more'.0 i), ((s_in, seen.defined two.0), more'.1))

  unless_item_both : (w : World) (b c : Bool) {p q : Prog} → b ≡ c → (b ≡ false → Both R w p q) → Both R w (unless_item names b p) (unless_item names c q)
  unless_item_both w true true e next = moded
  unless_item_both w false false e next = next refl
  unless_item_both w true false e next = absurd (true≢false e)
  unless_item_both w false true e next = absurd (true≢false (sym e))

  -- ---- assignment

  attach_all_both : Table → (w : World) (ts : List Target) (left right : Tree) (p q : Prog) → Each (TargetIn w) ts → Has R w left → Has R w right → Both R w p q
      → Both R w (attach_all names ts left right p) (attach_all names ts left right q)
  attach_all_both t w [] left right p q all l r next = next
  attach_all_both t w (a ∷ ts) left right p q all l r next = edit t all.0 (attached_in w a.place left right l r) (attach_all_both t w ts left right p q all.1 l r next)

  refused_or : (w : World) (o : Option Why) {p q p' q' : Prog} → Both R w p p' → Both R w q q' → Both R w (elim o [ None ↦ p | Some why ↦ q ]) (elim o [ None ↦ p' | Some why ↦ q' ])
  refused_or w None one other = one
  refused_or w (Some why) one other = other

  assign_both : Table → (w : World) (form : Form) (left right : Tree) (p q : Prog) → FormIn w form → Has R w left → Has R w right → Both R w p q
      → Both R w (assign names form left right p) (assign names form left right q)
  assign_both t w form left right p q form_in l r next =
      let targets = placed_in w form left form_in l in
      see_all_both w (asked_symbols form (places names form left)) _ _ (asked_in w form (places names form left) form_in targets)
      (λ es fs seens. unless_item_both w _ _ (attaches_same w (places names form left) seens)
      (λ unshared. subst
      (λ pr. Both R w
      (elim (refusal names (protected_in es) form left) [ None ↦ attach_all names (places names form left) left right p | Some why ↦ Done (name names Builtin.Failed) ])
      (elim (refusal names pr form left) [ None ↦ attach_all names (places names form left) left right q | Some why ↦ Done (name names Builtin.Failed) ]))
      (protected_same w seens)
      (refused_or w (refusal names (protected_in es) form left) (attach_all_both t w (places names form left) left right p q targets l r next) (failed_both R w t))))

  pub set_both : Table → (form : Form) → ((w : World) → FormIn w form) → (w : World) (p q : Prog) (es : List Tree) → Later R w p q → HasAll R w es → Both R w (set names form p es) (set names form q es)
  set_both t form form_in w p q (left ∷ right ∷ []) next all =
      left_side_both R w left _ _ all.0
      (λ u g l l_in. assign_both t u form l right _ _ (form_in u) l_in (later_in R w u g right all.1.0) (done (later_in R w u g right all.1.0)))
  set_both t form form_in w p q _ next all = now R w next

  pub set_delayed_both : Table → (form : Form) → ((w : World) → FormIn w form) → (w : World) (p q : Prog) (es : List Tree) → Later R w p q → HasAll R w es
      → Both R w (set_delayed names form p es) (set_delayed names form q es)
  set_delayed_both t form form_in w p q (left ∷ right ∷ []) next all =
      left_side_both R w left _ _ all.0 (λ u g l l_in. assign_both t u form l right _ _ (form_in u) l_in (later_in R w u g right all.1.0) (null_both R u t))
  set_delayed_both t form form_in w p q _ next all = now R w next

  pub tag_set_both : Table → (w : World) (p q : Prog) (es : List Tree) → Later R w p q → HasAll R w es → Both R w (tag_set names p es) (tag_set names q es)
  tag_set_both t w p q (symbol s ∷ left ∷ right ∷ []) next all =
      left_side_both R w left _ _ all.1.0 (λ u g l l_in. ask (later_in R w u g right all.1.1.0)
      (λ u' g' v v_in. assign_both t u' (ToTag s) l v _ _ (g' s (g s all.0)) (later_in R u u' g' l l_in) v_in (done v_in)))
  tag_set_both t w p q _ next all = now R w next

  pub tag_set_delayed_both : Table → (w : World) (p q : Prog) (es : List Tree) → Later R w p q → HasAll R w es → Both R w (tag_set_delayed names p es) (tag_set_delayed names q es)
  tag_set_delayed_both t w p q (symbol s ∷ left ∷ right ∷ []) next all =
      left_side_both R w left _ _ all.1.0 (λ u g l l_in. assign_both t u (ToTag s) l right _ _ (g s all.0) l_in (later_in R w u g right all.1.1.0) (null_both R u t))
  tag_set_delayed_both t w p q _ next all = now R w next

  -- ---- Unset

  holding_in : (w : World) (left : Tree) (es : List (Sym × Seen)) → Each (EntryIn w) es → Each (EntryIn w) (holding left es)
  holding_in w left [] all = tt
  holding_in w left (e ∷ es) all = both (Each (EntryIn w)) (holds left e.1.definition) (all.0, holding_in w left es all.1) (holding_in w left es all.1)

  without_left_in : (w : World) (left : Tree) (d : Definition) → DefinedIn R w d → DefinedIn R w (without_left left d)
  without_left_in w (symbol s) d one = record { own = tt; downs = one.downs; ups = one.ups }
  without_left_in w (integer n) d one = record { own = one.own; downs = remove_in w (integer n) d.downs one.downs; ups = remove_in w (integer n) d.ups one.ups }
  without_left_in w (string t) d one = record { own = one.own; downs = remove_in w (string t) d.downs one.downs; ups = remove_in w (string t) d.ups one.ups }
  without_left_in w (normal h es) d one = record { own = one.own; downs = remove_in w (normal h es) d.downs one.downs; ups = remove_in w (normal h es) d.ups one.ups }

  later_entries : (w u : World) → grows R w u → (es : List (Sym × Seen)) → Each (EntryIn w) es → Each (EntryIn u) es
  later_entries w u g [] all = tt
  later_entries w u g (e ∷ es) all = ((g e.0 all.0.0, later_defined R w u g e.1.definition all.0.1), later_entries w u g es all.1)

  take_away_both : Table → (left : Tree) (es : List (Sym × Seen)) (w : World) (p q : Prog) → Each (EntryIn w) es → Later R w p q → Both R w (take_away left es p) (take_away left es q)
  take_away_both t left [] w p q all next = now R w next
  take_away_both t left (e ∷ es) w p q all next =
      put t (before all.0.0) (without_left_in w left e.1.definition all.0.1) (λ u g s_in. take_away_both t left es u p q (later_entries w u g es all.1) (from_later R w u g next))

  unset_from_both : Table → (w : World) (left : Tree) (es : List (Sym × Seen)) → Each (EntryIn w) es → Both R w (unset_from names left es) (unset_from names left es)
  unset_from_both t w left [] all = failed_both R w t
  unset_from_both t w left (e ∷ es) all =
      branch R w (any_protected (e ∷ es)) (failed_both R w t) (take_away_both t left (e ∷ es) w _ _ all (λ u g. null_both R u t))

  holders_in : (w : World) (left : Tree) → Has R w left → Each (Member w) (holders names left)
  holders_in w left one =
      item_symbols_in w (items_of (inner names left)) (add_symbol (symbol_of (inner names left)) []) (items (Member w) (inner names left) (inner_in w left one))
      (add_symbol_in w (symbol_of (inner names left)) [] (symbol_in (Member w) (inner names left) (inner_in w left one)) tt)

  pub unset_both : Table → (w : World) (p q : Prog) (es : List Tree) → Later R w p q → HasAll R w es → Both R w (unset names p es) (unset names q es)
  unset_both t w p q (left ∷ []) next all =
      left_side_both R w left _ _ all.0 (λ u g l l_in. see_all_both u (holders names l) _ _ (holders_in u l l_in)
      (λ es fs seens. unless_item_both u _ _ (shared_same u seens)
      (λ unshared. let equal = none_shared u seens unshared in
      subst (λ x. Both R u (unset_from names l (holding l es)) (unset_from names l (holding l x))) equal.0 (unset_from_both t u l (holding l es) (holding_in u l es equal.1)))))
  unset_both t w p q _ next all = now R w next

  -- ---- a symbol's value or attributes changed

  -- of a shared symbol it is a use; what is seen of another is the same
  unshared_or : (w : World) (b : Bool → Prog → Prog) → ((p : Prog) → b false p ≡ p) → ((p q : Prog) → Both R w (b true p) (b true q)) → (k : Definition → Prog) (x y : Seen) → SeenBoth R w x y
      → (DefinedIn R w x.definition → Both R w (k x.definition) (k x.definition)) → Both R w (b (is_some x.shared) (k x.definition)) (b (is_some y.shared) (k y.definition))
  unshared_or w b plain marked k x y seen next =
      subst (λ o. Both R w (b (is_some x.shared) (k x.definition)) (b (is_some o) (k y.definition))) seen.shared (go x.shared refl)
    where
      go : (o : Option Share) → x.shared ≡ o → Both R w (b (is_some o) (k x.definition)) (b (is_some o) (k y.definition))
      go None e =
          subst (λ p. Both R w p (b false (k y.definition))) (sym (plain (k x.definition)))
          (subst (λ p. Both R w (k x.definition) p) (sym (plain (k y.definition)))
          (subst (λ d. Both R w (k x.definition) (k d)) (seen.same e) (next (seen.defined e))))
      go (Some a) e = marked _ _

  renew_both : Table → (w : World) (s : Sym) (v given : Tree) (d : Definition) → Member w s → Has R w v → Has R w given → DefinedIn R w d → Both R w (renew names s v given d) (renew names s v given d)
  renew_both t w s v given d s_in v_in given_in one =
      branch R w (is_protected d) (failed_both R w t)
      (put t (before s_in) (record { own = v_in; downs = one.downs; ups = one.ups }) (λ u g _. done (later_in R w u g given given_in)))

  change_own_both : Table → (w : World) (s : Sym) (next : Tree → Tree) (gives : Tree → Tree → Tree) (d : Definition) → Member w s
      → ((u : World) → grows R w u → (v : Tree) → Has R u v → Has R u (next v)) → ((u : World) (old new : Tree) → Has R u old → Has R u new → Has R u (gives old new))
      → DefinedIn R w d → Both R w (change_own names s next gives d) (change_own names s next gives d)
  change_own_both t w s next gives d s_in next_in gives_in one =
      option_both R w (Has R w) d.own one.own (failed_both R w t)
      (λ old old_in. check (next_in w (same_world R w) old old_in) (ask (next_in w (same_world R w) old old_in)
      (λ u g v v_in. look (g s s_in) (λ x y seen. unshared_or u noting (λ p. refl) (λ p q. moded) (renew names s v (gives old v)) x y seen
      (λ c_in. renew_both t u s v (gives old v) x.definition (g s s_in) v_in (gives_in u old v (later_in R w u g old old_in) v_in) c_in)))))

  pub change_both : Table → (w : World) (s : Sym) (next : Tree → Tree) (gives : Tree → Tree → Tree) → Member w s
      → ((u : World) → grows R w u → (v : Tree) → Has R u v → Has R u (next v)) → ((u : World) (old new : Tree) → Has R u old → Has R u new → Has R u (gives old new))
      → Both R w (change names s next gives) (change names s next gives)
  change_both t w s next gives s_in next_in gives_in =
      look s_in (λ x y seen. unshared_or w (unless_item names) (λ p. refl) (λ p q. moded) (change_own names s next gives) x y seen
      (λ one. change_own_both t w s next gives x.definition s_in next_in gives_in one))

  pub gives_old : (u : World) (old new : Tree) → Has R u old → Has R u new → Has R u (old_value old new)
  gives_old u old new o n = o

  pub gives_new : (u : World) (old new : Tree) → Has R u old → Has R u new → Has R u (new_value old new)
  gives_new u old new o n = n

  pub step_by_both : Table → (n : ℤ) (gives : Tree → Tree → Tree) → ((u : World) (old new : Tree) → Has R u old → Has R u new → Has R u (gives old new))
      → (w : World) (p q : Prog) (es : List Tree) → Later R w p q → HasAll R w es → Both R w (step_by names n gives p es) (step_by names n gives q es)
  step_by_both t n gives gives_in w p q (symbol s ∷ []) next all =
      change_both t w s (plus_int names n) gives all.0 (λ u g v v_in. made R u t Builtin.Plus refl (v ∷ integer n ∷ []) (v_in, (tt, tt))) gives_in
  step_by_both t n gives gives_in w p q _ next all = now R w next

  pub change_with_both : Table → (row : Builtin) → may_throw row ≡ false → (w : World) (p q : Prog) (es : List Tree) → Later R w p q → HasAll R w es → Both R w (change_with names row p es) (change_with names row q es)
  change_with_both t row calm w p q (symbol s ∷ x ∷ []) next all =
      change_both t w s (λ old. make names row (old ∷ x ∷ [])) new_value all.0 (λ u g v v_in. made R u t row calm (v ∷ x ∷ []) (v_in, (later_in R w u g x all.1.0, tt))) gives_new
  change_with_both t row calm w p q _ next all = now R w next

  pub subtract_from_both : Table → (w : World) (p q : Prog) (es : List Tree) → Later R w p q → HasAll R w es → Both R w (subtract_from names p es) (subtract_from names q es)
  subtract_from_both t w p q (symbol s ∷ x ∷ []) next all =
      change_both t w s (λ old. make names Builtin.Plus (old ∷ make names Builtin.Times (integer (negsuc 0) ∷ x ∷ []) ∷ [])) new_value all.0
      (λ u g v v_in. made R u t Builtin.Plus refl (v ∷ make names Builtin.Times (integer (negsuc 0) ∷ x ∷ []) ∷ [])
      (v_in, (made R u t Builtin.Times refl (integer (negsuc 0) ∷ x ∷ []) (tt, (later_in R w u g x all.1.0, tt)), tt))) gives_new
  subtract_from_both t w p q _ next all = now R w next

  -- a change of a definition keeps to the set
  abbrev pub Keeping : (Definition → Definition) → Type 0
  Keeping f = (w : World) (d : Definition) → DefinedIn R w d → DefinedIn R w (f d)

  write_both : Table → (w : World) (s : Sym) → Member w s → (f : Definition → Definition) (d : Definition) → Keeping f → DefinedIn R w d → Both R w (write names s f d) (write names s f d)
  write_both t w s mine f d keeps one = branch R w (is_protected d) (failed_both R w t) (put t (before mine) (keeps w d one) (λ u g s_in. null_both R u t))

  cleared_in : Keeping cleared
  cleared_in w d one = record { own = tt; downs = tt; ups = tt }

  nothing_left_in : Keeping nothing_left
  nothing_left_in w d one = record { own = tt; downs = tt; ups = tt }

  pub with_attributes_in : (a : Attributes) → Keeping (with_attributes a)
  with_attributes_in a w d one = record { own = one.own; downs = one.downs; ups = one.ups }

  pub without_attributes_in : (a : Attributes) → Keeping (without_attributes a)
  without_attributes_in a w d one = record { own = one.own; downs = one.downs; ups = one.ups }

  pub clear_both : Table → (w : World) (p q : Prog) (es : List Tree) → Later R w p q → HasAll R w es → Both R w (clear names p es) (clear names q es)
  clear_both t w p q (symbol s ∷ []) next all =
      look all.0 (λ x y seen. unshared_or w noting (λ p. refl) (λ p q. moded) (write names s cleared) x y seen (write_both t w s all.0 cleared x.definition cleared_in))
  clear_both t w p q _ next all = now R w next

  unless_shared_or : (w : World) (k : Definition → Prog) (x y : Seen) → SeenBoth R w x y → (DefinedIn R w x.definition → Both R w (k x.definition) (k x.definition))
      → Both R w (unless_shared_symbol names (is_some x.shared) (k x.definition)) (unless_shared_symbol names (is_some y.shared) (k y.definition))
  unless_shared_or w k x y seen next = unshared_or w (unless_shared_symbol names) (λ p. refl) (λ p q. moded) k x y seen next

  pub clear_all_both : Table → (w : World) (p q : Prog) (es : List Tree) → Later R w p q → HasAll R w es → Both R w (clear_all names p es) (clear_all names q es)
  clear_all_both t w p q (symbol s ∷ []) next all =
      look all.0 (λ x y seen. unless_shared_or w (write names s nothing_left) x y seen (write_both t w s all.0 nothing_left x.definition nothing_left_in))
  clear_all_both t w p q _ next all = now R w next

  pub change_attributes_both : Table → (f : Attributes → Definition → Definition) → ((a : Attributes) → Keeping (f a)) → (w : World) (p q : Prog) (es : List Tree) → Later R w p q → HasAll R w es
      → Both R w (change_attributes names f p es) (change_attributes names f q es)
  change_attributes_both t f keeps w p q (symbol s ∷ e ∷ []) next all = go (named_attributes names e)
    where
      go : (o : Option Attributes) → Both R w
          (elim o [ None ↦ p | Some a ↦ Look s (λ seen. unless_shared_symbol names (is_some seen.shared) (write names s (f a) seen.definition)) ])
          (elim o [ None ↦ q | Some a ↦ Look s (λ seen. unless_shared_symbol names (is_some seen.shared) (write names s (f a) seen.definition)) ])
      go None = now R w next
      go (Some a) = look all.0 (λ x y seen. unless_shared_or w (write names s (f a)) x y seen (write_both t w s all.0 (f a) x.definition (keeps a)))
  change_attributes_both t f keeps w p q _ next all = now R w next

  pub protect_both : Table → (f : Definition → Definition) → Keeping f → (w : World) (p q : Prog) (es : List Tree) → Later R w p q → HasAll R w es → Both R w (protect names f p es) (protect names f q es)
  protect_both t f keeps w p q (symbol s ∷ []) next all =
      look all.0 (λ x y seen. unless_shared_or w (λ d. Put s (f d) (Done (name names Builtin.Null))) x y seen (λ one. put t (before all.0) (keeps w x.definition one) (λ u g s_in. null_both R u t)))
  protect_both t f keeps w p q _ next all = now R w next

  names_in : R.Throwing → Table → (w : World) (a : Attributes) → HasAll R w (map (name names) a)
  names_in free t w [] = tt
  names_in free t w (b ∷ bs) = (R.knows_any free w t b, names_in free t w bs)

  pub attributes_row_both : R.Throwing → Table → (w : World) (p q : Prog) (es : List Tree) → Later R w p q → HasAll R w es → Both R w (attributes_row names p es) (attributes_row names q es)
  attributes_row_both free t w p q (symbol s ∷ []) next all =
      look all.0 (λ x y seen. unless_shared_or w (λ d. Done (make names Builtin.List (ordered (map (name names) d.attributes)))) x y seen
      (λ one. done (made R w t Builtin.List refl _ (in_order (Member w) _ (names_in free t w x.definition.attributes)))))
  attributes_row_both free t w p q _ next all = now R w next

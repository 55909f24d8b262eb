-- A pass takes at most one module number; where none of the elements grew as they were evaluated, its result is then smaller than the whole.
use Rattle.std.proofs.Common.{◌≡◌, refl, sym, subst, ◌∙◌, ℕ, ◌≤◌, ◌<◌, arith, Bool, true, false, List, [], ◌∷◌, ◌++◌, map, Option, Some, None, true≢false}
use Rattle.expr_tree.specs.declared.sym.Sym.{Sym}
use Rattle.expr_tree.specs.Tree.{Tree, integer, string, symbol, normal, elements, call, size}
use Rattle.expr_tree.specs.Shapes.{symbol_of}
use Rattle.semantics.specs.declared.builtin.Builtin.{Builtin}
use Rattle.semantics.specs.Names.{Names, is_name, is_call, items_of, make, role_of}
use Rattle.semantics.specs.Steps.{strip}
use Rattle.expr_tree.specs.Substitution.{Binding}
use Rattle.semantics.specs.InPlace.{put_in_place}
use Rattle.semantics.specs.Rule.{Rule, condition_of, result_of}
use Rattle.semantics.specs.Match.{Guard, Cond, Found, matches, heads}
use Rattle.semantics.specs.Definitions.{Definition, Attributes, Share, Function, has}
use Rattle.semantics.specs.Program.{Prog, Done, Ask, Look, Put, Fresh, Turn, Check, Moded, Local, Mode, Seen, look_all}
use Rattle.semantics.specs.Attempt.{told, try_guards, try_binding, try_bindings, try_rules}
use Rattle.semantics.specs.Assemble.{attributes_of, holds_first, holds_rest, is_asked, ask_rest, ask_items, spliced, first_steps, flattened, threaded, sorted, check_all}
use Rattle.semantics.specs.Scoping.{renamed, locals_of, symbols_of, bases_differ, ask_values, with_locals, renaming, with_number, make_all, module_form}
use Rattle.semantics.specs.Sections.{accessed, access_or, unless_access, same_share}
use Rattle.semantics.specs.Table.{row}
use Rattle.semantics.specs.Pass.{marked, symbol_rules, up_rules, row_or_stay, built_in, down_rules, last_steps, left_standing, later_steps, symbol_pass, pass}
use Rattle.laws_closure.specs.Throws.{may_throw}
use Rattle.laws_closure.proofs.Inside.{both, Each, Opt, appended, mapped, listed, called, items, stripped, symbol_in}
use Rattle.laws_closure.proofs.Matching.{GuardIn, matches_in, heads_inside}
use Rattle.laws_closure.proofs.Programs.{Realm, Has, HasAll, RuleIn, DefinedIn, LocalIn, SeenBoth, BoundIn, GuardsIn, FoundsIn, Both, done, made, placed, guarding, condition_of_in, result_of_in}
use Rattle.laws_closure.proofs.FirstSteps.{spliced_in, flattened_in, ThreadedIn, threaded_in, sorted_in, check_all_both}
use Rattle.laws_closure.proofs.ScopeRows.{LocalsIn, locals_of_in, renaming_in, apply_function_both}
use Rattle.laws_closure.proofs.Rows.{row_both, takes_number}
use Rattle.laws_closure.proofs.Passes.{accessed_in, left_standing_in, symbol_pass_both}
use Rattle.laws_numbers.proofs.Sizes.{size-positive, Below, AllBelow, elements_below, spliced_below, stripped_below, flattened_below, sorted_below, renaming_renames, renamed_size}
use Rattle.laws_numbers.proofs.Calm.{Circle, calm}

module _ (names : Names) (C : Circle names) where
  abbrev pub R : Realm
  R = calm names C

  -- what follows taking a number: evaluations and puts, and a result with a property
  pub data Simple (P : Tree → Type 0) : Prog → Type 0 where
    result : {r : Tree} → Has R tt r → P r → Simple P (Done r)
    asking : {e : Tree} {k : Tree → Prog} → Has R tt e → ((v : Tree) → Has R tt v → Simple P (k v)) → Simple P (Ask e k)
    putting : {s : Sym} {d : Definition} {p : Prog} → C.Member s → DefinedIn R tt d → Simple P p → Simple P (Put s d p)

  make_all_simple : (P : Tree → Type 0) (m : ℕ) → C.first ≤ m → (ls : List Local) (p : Prog) → LocalsIn R tt ls → Simple P p → Simple P (make_all (with_number m ls) p)
  make_all_simple P m le [] p all next = next
  make_all_simple P m le (l ∷ ls) p all next =
      putting (C.made (renamed m l.symbol) le) (record { own = all.0.1; downs = tt; ups = tt }) (make_all_simple P m le ls p all.1 next)

  ask_values_simple : (P : Tree → Type 0) (ls so : List Local) (k : List Local → Prog) → LocalsIn R tt ls → LocalsIn R tt so → ((vs : List Local) → LocalsIn R tt vs → Simple P (k vs))
      → Simple P (ask_values ls so k)
  ask_values_simple P [] so k all so_in next = next so so_in
  ask_values_simple P (l ∷ ls) so k all so_in next =
      go l.value all.0.1 (ask_values_simple P ls (so ++ l ∷ []) k all.1 (appended (LocalIn R tt) so (l ∷ []) so_in (all.0, tt)) next)
      (λ v v_in. ask_values_simple P ls (so ++ record { symbol = l.symbol; value = Some v } ∷ []) k all.1
      (appended (LocalIn R tt) so (record { symbol = l.symbol; value = Some v } ∷ []) so_in ((all.0.0, v_in), tt)) next)
    where
      go : (o : Option Tree) → Opt (Has R tt) o → Simple P (ask_values ls (so ++ l ∷ []) k)
          → ((v : Tree) → Has R tt v → Simple P (ask_values ls (so ++ record { symbol = l.symbol; value = Some v } ∷ []) k))
          → Simple P (elim o [ None ↦ ask_values ls (so ++ l ∷ []) k | Some v ↦ Ask v (λ x. ask_values ls (so ++ record { symbol = l.symbol; value = Some x } ∷ []) k) ])
      go None one none some = none
      go (Some v) one none some = asking one (λ x x_in. some x x_in)

  renamed_in : (m : ℕ) → C.first ≤ m → (ls : List Local) → Each (λ l. C.Member (renamed m l.symbol)) ls
  renamed_in m le [] = tt
  renamed_in m le (l ∷ ls) = (C.made (renamed m l.symbol) le, renamed_in m le ls)

  body_in : (m : ℕ) → C.first ≤ m → (ls : List Local) (body : Tree) → Has R tt body → Has R tt (put_in_place names (renaming m ls) body)
  body_in m le ls body one = placed R tt (renaming m ls) body (renaming_in R tt tt m ls (renamed_in m le ls)) one

module _ (names : Names) (C : Circle names) (N : ℕ) where
  abbrev S : Realm
  S = calm names C

  abbrev Calm : Prog → Type 0
  Calm p = Both (calm names C) tt p p

  -- with a step to spare a number may be taken; else only before a result that is smaller than N
  pub data Thrifty : Bool → Prog → Type 0 where
    calmly : {c : Bool} {p : Prog} → Both (calm names C) tt p p → Thrifty c p
    ask : {c : Bool} {e : Tree} {k : Tree → Prog} → Has S tt e → ((v : Tree) → Has S tt v → Thrifty c (k v)) → Thrifty c (Ask e k)
    -- an element: where it grew, a step is to spare
    item : {e : Tree} {k : Tree → Prog} → Has S tt e → ((v : Tree) → Has S tt v → size v ≤ size e → Thrifty false (k v)) → ((v : Tree) → Has S tt v → Thrifty true (k v)) → Thrifty false (Ask e k)
    look : {c : Bool} {s : Sym} {k : Seen → Prog} → C.Member s → ((x : Seen) → SeenBoth S tt x x → Thrifty c (k x)) → Thrifty c (Look s k)
    turn : {c : Bool} {p : Prog} → Thrifty c p → Thrifty c (Turn p)
    check : {c : Bool} {e : Tree} {p : Prog} → Thrifty c p → Thrifty c (Check e p)
    moded : {c : Bool} {k : Mode → ℕ → Prog} → Thrifty c (Moded k)
    paid : {k : ℕ → Prog} → ((m : ℕ) → C.first ≤ m → Simple names C (λ r. Unit {0}) (k m)) → Thrifty true (Fresh k)
    small : {k : ℕ → Prog} → ((m : ℕ) → C.first ≤ m → Simple names C (Below N) (k m)) → Thrifty false (Fresh k)

  branch : (c b : Bool) {p q : Prog} → Thrifty c p → Thrifty c q → Thrifty c (elim b [ true ↦ p | false ↦ q ])
  branch c true one other = one
  branch c false one other = other

  gives : (c : Bool) (e : Tree) → Has S tt e → Thrifty c (Done e)
  gives c e one = calmly (done one)

  -- ---- trials of rules

  look_all_thrifty : (c : Bool) (ss : List Sym) (k : List (Sym × Definition) → Prog) → Each C.Member ss → ((es : List (Sym × Definition)) → Thrifty c (k es)) → Thrifty c (look_all ss k)
  look_all_thrifty c [] k all next = next []
  look_all_thrifty c (s ∷ ss) k all next = look all.0 (λ x seen. look_all_thrifty c ss (λ rest. k ((s, x.definition) ∷ rest)) all.1 (λ es. next ((s, x.definition) ∷ es)))

  guards_thrifty : (c : Bool) (b : Binding) (gs : List Guard) (p q : Prog) → BoundIn S tt b → GuardsIn S tt gs → Thrifty c p → Thrifty c q → Thrifty c (try_guards names b gs p q)
  guards_thrifty c b [] p q bound all pass fail = pass
  guards_thrifty c b (g ∷ gs) p q bound all pass fail =
      check (ask (guarding S tt b g bound all.0) (λ v v_in. branch c (is_name names Builtin.True v) (guards_thrifty c b gs p q bound all.1 pass fail) fail))

  binding_thrifty : (c : Bool) (b : Binding) (gs : List Guard) (p q : Prog) → BoundIn S tt b → GuardsIn S tt gs → Thrifty c p → Thrifty c q → Thrifty c (try_binding names b gs p q)
  binding_thrifty c b [] p q bound all pass fail = pass
  binding_thrifty c b (g ∷ gs) p q bound all pass fail =
      check (turn (ask (guarding S tt b g bound all.0) (λ v v_in. branch c (is_name names Builtin.True v) (guards_thrifty c b gs p q bound all.1 pass fail) fail)))

  guards_in : (f : Found) (r : Tree) → FoundsIn S tt (f ∷ []) → Has S tt r → GuardsIn S tt (f.guards ++ map Cond (condition_of names r))
  guards_in f r found one =
      appended (GuardIn C.Member names (Unit {0}) (λ t. C.knows) (λ r s s_in is. tt)) f.guards (map Cond (condition_of names r)) found.0.1
      (mapped (Has S tt) (GuardIn C.Member names (Unit {0}) (λ t. C.knows) (λ r s s_in is. tt)) Cond (λ c c_in. c_in) (condition_of names r) (condition_of_in S tt r one))

  bindings_thrifty : (c : Bool) (fs : List Found) (r : Tree) (p : Prog) → FoundsIn S tt fs → Has S tt r → Thrifty c p → Thrifty c (try_bindings names r fs Done p)
  bindings_thrifty c [] r p all one next = next
  bindings_thrifty c (f ∷ fs) r p all one next =
      binding_thrifty c f.binding (f.guards ++ map Cond (condition_of names r)) (Done (put_in_place names f.binding (result_of names r))) (try_bindings names r fs Done p)
      all.0.0 (guards_in f r (all.0, tt) one)
      (gives c (put_in_place names f.binding (result_of names r)) (placed S tt f.binding (result_of names r) all.0.0 (result_of_in S tt r one))) (bindings_thrifty c fs r p all.1 one next)

  rules_thrifty : (c : Bool) (rs : List Rule) (e : Tree) (p : Prog) → Each (RuleIn S tt) rs → Has S tt e → Thrifty c p → Thrifty c (try_rules names rs e Done p)
  rules_thrifty c [] e p all one next = next
  rules_thrifty c (r ∷ rs) e p all one next =
      look_all_thrifty c (heads names r.left) (λ seen. try_bindings names r.right (matches names (told seen) r.left e) Done (try_rules names rs e Done p))
      (heads_inside C.Member names (Unit {0}) (λ t. C.knows) (λ r s s_in is. tt) r.left all.0.0)
      (λ seen. bindings_thrifty c (matches names (told seen) r.left e) r.right (try_rules names rs e Done p)
      (matches_in C.Member names (Unit {0}) (λ t. C.knows) (λ r s s_in is. tt) (told seen) r.left e all.0.0 one) all.0.1 (rules_thrifty c rs e p all.1 one next))

  -- ---- what is shared is a use

  marked_thrifty : (c : Bool) (x : Seen) (p : Prog) → SeenBoth S tt x x → (DefinedIn S tt x.definition → Thrifty c p) → Thrifty c (marked x.shared p)
  marked_thrifty c x p seen next = go x.shared refl
    where
      go : (o : Option Share) → x.shared ≡ o → Thrifty c (marked o p)
      go None e = next (seen.defined e)
      go (Some k) e = moded

  access_marked_thrifty : (c : Bool) (kind : Share) (x : Seen) (e : Tree) (r p : Prog) → SeenBoth S tt x x → (DefinedIn S tt x.definition → Thrifty c p)
      → Thrifty c (access_or x.shared kind e r (marked x.shared p))
  access_marked_thrifty c kind x e r p seen next = go x.shared refl
    where
      go : (o : Option Share) → x.shared ≡ o → Thrifty c (access_or o kind e r (marked o p))
      go None e = next (seen.defined e)
      go (Some k) e = branch c (same_share k kind) moded moded

  access_thrifty : (c : Bool) (o : Option Share) (kind : Share) (e : Tree) (r p : Prog) → Thrifty c p → Thrifty c (access_or o kind e r p)
  access_thrifty c None kind e r p next = next
  access_thrifty c (Some k) kind e r p next = branch c (same_share k kind) moded next

  unless_access_thrifty : (c : Bool) (h : Tree) (es : List Tree) (e : Tree) (r p : Prog) → HasAll S tt es → Thrifty c p → Thrifty c (unless_access names h es e r p)
  unless_access_thrifty c h es e r p all next = go (accessed names h es) (accessed_in S tt h es all)
    where
      go : (o : Option (Sym × Share)) → Opt (λ a. C.Member a.0) o → Thrifty c (elim o [ None ↦ p | Some a ↦ Look a.0 (λ seen. access_or seen.shared a.1 e r p) ])
      go None one = next
      go (Some a) one = look one (λ x seen. access_thrifty c x.shared a.1 e r p next)

  -- ---- Module

  -- what its body gives
  abbrev pub Allowed : Bool → Tree → Type 0
  Allowed true e = Unit {0}
  Allowed false e = Below N e

  module_thrifty : (c : Bool) (ls : List Local) (body : Tree) → LocalsIn S tt ls → Has S tt body → Allowed c body → Thrifty c (module_form names ls body)
  module_thrifty true ls body ls_in body_in' one =
      paid (λ m le. ask_values_simple names C (λ r. Unit {0}) ls [] _ ls_in tt
      (λ vs vs_in. make_all_simple names C (λ r. Unit {0}) m le vs _ vs_in (result (body_in names C m le vs body body_in') tt)))
  module_thrifty false ls body ls_in body_in' one =
      small (λ m le. ask_values_simple names C (Below N) ls [] _ ls_in tt
      (λ vs vs_in. make_all_simple names C (Below N) m le vs _ vs_in
      (result (body_in names C m le vs body body_in') (subst (λ n. n < N) (sym (renamed_size names (renaming m vs) body (renaming_renames m vs))) one))))

  abbrev pub AllAllowed : Bool → List Tree → Type 0
  AllAllowed c = Each (Allowed c)

  locals_thrifty : (c : Bool) (p : Prog) (es : List Tree) → HasAll S tt es → Thrifty c p → AllAllowed c es → Thrifty c (with_locals names bases_differ (module_form names) p es)
  locals_thrifty c p (ls ∷ body ∷ []) es_in next all =
      branch c (is_call names Builtin.List ls) (go (locals_of names (items_of ls)) (locals_of_in S tt (items_of ls) (items C.Member ls es_in.0))) next
    where
      go : (o : Option (List Local)) → Opt (LocalsIn S tt) o
          → Thrifty c (elim o [ None ↦ p | Some locals ↦ elim (bases_differ (symbols_of locals)) [ true ↦ module_form names locals body | false ↦ p ] ])
      go None one = next
      go (Some locals) one = branch c (bases_differ (symbols_of locals)) (module_thrifty c locals body one es_in.1.0 all.1.0) next
  locals_thrifty c p _ es_in next all = next

  calm_row : (r : Builtin) → takes_number r ≡ false → (may_throw r ≡ true → C.Throwing) → (e : Tree) (es : List Tree) → Has S tt e → HasAll S tt es → Calm (row names r (Done e) es)
  calm_row r is free e es e_in es_in = row_both S tt tt r (λ takes. absurd (true≢false (sym takes ∙ is))) free (Done e) (Done e) es (λ u g. done e_in) es_in

  is_module : (r : Builtin) → takes_number r ≡ true → r ≡ Builtin.Module
  is_module Builtin.Module is = refl
  is_module _ is = absurd (true≢false (sym is))

  row_of_module : (c : Bool) (p : Prog) (es : List Tree) → Thrifty c (with_locals names bases_differ (module_form names) p es) → Thrifty c (row names Builtin.Module p es)
  unfolding row
  row_of_module c p es next = next

  row_thrifty : (c : Bool) (r : Builtin) (e : Tree) (es : List Tree) → (may_throw r ≡ true → C.Throwing) → Has S tt e → HasAll S tt es → AllAllowed c es → Thrifty c (row names r (Done e) es)
  row_thrifty c r e es free e_in es_in all = go (takes_number r) refl
    where
      go : (b : Bool) → takes_number r ≡ b → Thrifty c (row names r (Done e) es)
      go false is = calmly (calm_row r is free e es e_in es_in)
      go true is = subst (λ x. Thrifty c (row names x (Done e) es)) (sym (is_module r is)) (row_of_module c (Done e) es (locals_thrifty c (Done e) es es_in (gives c e e_in) all))

  built_in_thrifty : (c : Bool) (s : Sym) (es : List Tree) (e x : Tree) → C.Member s → HasAll S tt es → Has S tt x → AllAllowed c es → Thrifty c (built_in names s es e (Done x))
  built_in_thrifty c s es e x s_in es_in x_in all = go (role_of names s) refl
    where
      go : (o : Option Builtin) → role_of names s ≡ o → Thrifty c (row_or_stay names o s es e (Done x))
      go None is = gives c x x_in
      go (Some r) is =
          unless_access_thrifty c (symbol s) es e (Done x) (row names r (Done x) es) es_in (row_thrifty c r x es (λ throws. C.throwing r s s_in is throws) x_in es_in all)

  -- ---- the later steps

  symbol_rules_thrifty : (c : Bool) (o : Option Sym) (e : Tree) (p : Prog) → Opt C.Member o → Has S tt e → Thrifty c p → Thrifty c (symbol_rules names o e p)
  symbol_rules_thrifty c None e p one e_in next = next
  symbol_rules_thrifty c (Some s) e p one e_in next =
      look one (λ x seen. marked_thrifty c x _ seen (λ defined. rules_thrifty c x.definition.ups e p defined.ups e_in next))

  up_rules_thrifty : (c : Bool) (es : List Tree) (e : Tree) (p : Prog) → HasAll S tt es → Has S tt e → Thrifty c p → Thrifty c (up_rules names es e p)
  up_rules_thrifty c [] e p all e_in next = next
  up_rules_thrifty c (x ∷ xs) e p all e_in next = symbol_rules_thrifty c (symbol_of x) e _ (symbol_in C.Member x all.0) e_in (up_rules_thrifty c xs e p all.1 e_in next)

  down_rules_thrifty : (c : Bool) (h : Tree) (es : List Tree) (e x : Tree) → Has S tt h → HasAll S tt es → Has S tt e → Has S tt x → AllAllowed c es
      → Thrifty c (down_rules names h es e (Done x))
  down_rules_thrifty c (symbol s) es e x h_in es_in e_in x_in all =
      look h_in (λ y seen. access_marked_thrifty c Function y e _ _ seen
      (λ defined. rules_thrifty c y.definition.downs e _ defined.downs e_in (built_in_thrifty c s es e x h_in es_in x_in all)))
  down_rules_thrifty c (normal h fs) es e x h_in es_in e_in x_in all =
      branch c (is_name names Builtin.Function h)
      (calmly (apply_function_both S tt tt (Done x) (Done x) (elements fs) es (λ u g. done x_in) (listed C.Member fs h_in.1) es_in)) (gives c x x_in)
  down_rules_thrifty c (integer n) es e x h_in es_in e_in x_in all = gives c x x_in
  down_rules_thrifty c (string t) es e x h_in es_in e_in x_in all = gives c x x_in

  last_steps_thrifty : (c : Bool) (a : Attributes) (es : List Tree) (e x h : Tree) → Has S tt h → HasAll S tt es → Has S tt e → Has S tt x → AllAllowed c es
      → Thrifty c (last_steps names a es e (Done x) h)
  last_steps_thrifty c a es e x h h_in es_in e_in x_in all =
      branch c (has Builtin.HoldAllComplete a) (down_rules_thrifty c h es e x h_in es_in e_in x_in all)
      (up_rules_thrifty c es e _ es_in e_in (down_rules_thrifty c h es e x h_in es_in e_in x_in all))

  all_true : (es : List Tree) → AllAllowed true es
  all_true [] = tt
  all_true (e ∷ es) = (tt, all_true es)

  flat_and_sorted : (c : Bool) (h : Tree) (a : Attributes) (es : List Tree) → AllAllowed c es
      → AllAllowed c (sorted a (flattened h a (elim (has Builtin.HoldAllComplete a) [ true ↦ es | false ↦ strip names es ])))
  flat_and_sorted true h a es all = all_true _
  flat_and_sorted false h a es all = sorted_below N a _ (flattened_below N h a _ (stripped_below N names (has Builtin.HoldAllComplete a) es all))

  later_steps_thrifty : (c : Bool) (h : Tree) (a : Attributes) (es : List Tree) → Has S tt h → HasAll S tt es → AllAllowed c es → Thrifty c (later_steps names h a es)
  later_steps_thrifty c h a es h_in es_in all =
      let bare : List Tree = elim (has Builtin.HoldAllComplete a) [ true ↦ es | false ↦ strip names es ] in
      let flat : List Tree = flattened h a bare in
      let last : List Tree = sorted a flat in
      let bare_in : HasAll S tt bare = both (HasAll S tt) (has Builtin.HoldAllComplete a) es_in (stripped C.Member names es es_in) in
      let flat_in : HasAll S tt flat = flattened_in S tt h a bare bare_in in
      let last_in : HasAll S tt last = sorted_in S tt a flat flat_in in
      let whole_in : Has S tt (call h last) = called C.Member h last h_in last_in in
      go (threaded names h a flat) (threaded_in S tt h a flat h_in flat_in)
      (last_steps_thrifty c a last (call h last) (left_standing names a h es (call h last)) h h_in last_in whole_in
      (left_standing_in S tt a h es (call h last) h_in es_in whole_in) (flat_and_sorted c h a es all))
    where
      go : (o : Option (List Tree)) → Opt (ThreadedIn S tt) o → {p : Prog} → Thrifty c p → Thrifty c (elim o [ Some each ↦ check_all each (Done (make names Builtin.List each)) | None ↦ p ])
      go None one next = next
      go (Some each) one next = calmly (check_all_both S tt each _ _ one.1 (done (made S tt tt Builtin.List refl each one.1)))

  -- ---- head and elements

  -- what goes on with the elements
  abbrev pub GoesOn : (List Tree → Prog) → Type 0
  GoesOn k = (c : Bool) (es : List Tree) → HasAll S tt es → AllAllowed c es → Thrifty c (k es)

  more_true : (c : Bool) (so : List Tree) (e : Tree) → AllAllowed c so → Allowed c e → AllAllowed c (so ++ e ∷ [])
  more_true c [] e all one = (one, tt)
  more_true c (x ∷ so) e all one = (all.0, more_true c so e all.1 one)

  more_in : (so : List Tree) (e : Tree) → HasAll S tt so → Has S tt e → HasAll S tt (so ++ e ∷ [])
  more_in so e so_in one = appended (Has S tt) so (e ∷ []) so_in (one, tt)

  ask_rest_thrifty : (es : List Tree) (c : Bool) (a : Attributes) (so : List Tree) (k : List Tree → Prog) → HasAll S tt es → HasAll S tt so → AllAllowed c es → AllAllowed c so → GoesOn k
      → Thrifty c (ask_rest names a es so k)
  ask_rest_thrifty [] c a so k es_in so_in all so_all next = next c so so_in so_all
  ask_rest_thrifty (e ∷ es) true a so k es_in so_in all so_all next =
      branch true (is_asked names a (holds_rest a) e)
      (ask es_in.0 (λ v v_in. ask_rest_thrifty es true a (so ++ v ∷ []) k es_in.1 (more_in so v so_in v_in) all.1 (all_true (so ++ v ∷ [])) next))
      (ask_rest_thrifty es true a (so ++ e ∷ []) k es_in.1 (more_in so e so_in es_in.0) all.1 (all_true (so ++ e ∷ [])) next)
  ask_rest_thrifty (e ∷ es) false a so k es_in so_in all so_all next =
      branch false (is_asked names a (holds_rest a) e)
      (item es_in.0
      (λ v v_in le. ask_rest_thrifty es false a (so ++ v ∷ []) k es_in.1 (more_in so v so_in v_in) all.1 (more_true false so v so_all (omega (arith, le, all.0))) next)
      (λ v v_in. ask_rest_thrifty es true a (so ++ v ∷ []) k es_in.1 (more_in so v so_in v_in) (all_true es) (all_true (so ++ v ∷ [])) next))
      (ask_rest_thrifty es false a (so ++ e ∷ []) k es_in.1 (more_in so e so_in es_in.0) all.1 (more_true false so e so_all all.0) next)

  ask_items_thrifty : (es : List Tree) (c : Bool) (a : Attributes) (k : List Tree → Prog) → HasAll S tt es → AllAllowed c es → GoesOn k → Thrifty c (ask_items names a es k)
  ask_items_thrifty [] c a k es_in all next = next c [] tt tt
  ask_items_thrifty (e ∷ es) true a k es_in all next =
      branch true (is_asked names a (holds_first a) e) (ask es_in.0 (λ v v_in. ask_rest_thrifty es true a (v ∷ []) k es_in.1 (v_in, tt) all.1 (tt, tt) next))
      (ask_rest_thrifty es true a (e ∷ []) k es_in.1 (es_in.0, tt) all.1 (tt, tt) next)
  ask_items_thrifty (e ∷ es) false a k es_in all next =
      branch false (is_asked names a (holds_first a) e)
      (item es_in.0 (λ v v_in le. ask_rest_thrifty es false a (v ∷ []) k es_in.1 (v_in, tt) all.1 (omega (arith, le, all.0), tt) next)
      (λ v v_in. ask_rest_thrifty es true a (v ∷ []) k es_in.1 (v_in, tt) (all_true es) (tt, tt) next))
      (ask_rest_thrifty es false a (e ∷ []) k es_in.1 (es_in.0, tt) all.1 (all.0, tt) next)

  attributes_thrifty : (c : Bool) (h : Tree) (k : Attributes → Prog) → Has S tt h → ((a : Attributes) → Thrifty c (k a)) → Thrifty c (attributes_of h k)
  attributes_thrifty c (symbol s) k one next = look one (λ x seen. next x.definition.attributes)
  attributes_thrifty c (integer n) k one next = next []
  attributes_thrifty c (string t) k one next = next []
  attributes_thrifty c (normal h es) k one next = next []

  spliced_allowed : (c : Bool) (a : Attributes) (es : List Tree) → AllAllowed c es → AllAllowed c (spliced names a es)
  spliced_allowed true a es all = all_true _
  spliced_allowed false a es all = spliced_below N names a es all

  first_steps_thrifty : (h : Tree) (es : List Tree) → Has S tt h → HasAll S tt es → AllBelow N es → Thrifty false (first_steps names h es (later_steps names))
  first_steps_thrifty h es h_in es_in all =
      ask h_in (λ head head_in. attributes_thrifty false head _ head_in (λ a. ask_items_thrifty es false a _ es_in all
      (λ c vs vs_in vs_all. check (later_steps_thrifty c head a (spliced names a vs) head_in (spliced_in S tt a vs vs_in) (spliced_allowed c a vs vs_all)))))

  symbol_pass_calm : (s : Sym) → C.Member s → Calm (symbol_pass names s)
  symbol_pass_calm s one = symbol_pass_both S tt s one

-- one pass
pub pass_thrifty : (names : Names) (C : Circle names) (e : Tree) → Has (calm names C) tt e → Thrifty names C (size e) false (pass names e)
pass_thrifty names C (integer n) one = gives names C 1 false (integer n) one
pass_thrifty names C (string t) one = gives names C 1 false (string t) one
pass_thrifty names C (symbol s) one = calmly (symbol_pass_calm names C 1 s one)
pass_thrifty names C (normal h es) one =
    first_steps_thrifty names C (size (normal h es)) h (elements es) one.0 (listed C.Member es one.1) (elements_below (size (normal h es)) es (omega (arith, size-positive h)))

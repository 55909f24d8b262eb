-- One pass keeps to a set of symbols.
use Rattle.std.proofs.Common.{◌≡◌, refl, subst, true, false, List, [], ◌∷◌, Option, Some, None}
use Rattle.std.specs.Prelude.{◌&&◌, ◌||◌, not}
use Rattle.expr_tree.specs.declared.sym.Sym.{Sym}
use Rattle.expr_tree.specs.Tree.{Tree, integer, string, symbol, normal, elements, call}
use Rattle.expr_tree.specs.Shapes.{symbol_of}
use Rattle.semantics.specs.declared.builtin.Builtin.{Builtin}
use Rattle.semantics.specs.Names.{is_known, is_name, role_of}
use Rattle.semantics.specs.Steps.{strip, has_wrapper}
use Rattle.semantics.specs.Definitions.{Definition, Attributes, Share, Variable, Function, has}
use Rattle.semantics.specs.Program.{Prog, Done, Seen}
use Rattle.semantics.specs.Attempt.{try_rules}
use Rattle.semantics.specs.Assemble.{flattened, threaded, sorted}
use Rattle.semantics.specs.Sections.{accessed, access_or, unless_access, changes_rule, changes_value, same_share}
use Rattle.semantics.specs.Pass.{marked, symbol_rules, up_rules, row_or_stay, built_in, down_rules, last_steps, left_standing, later_steps, symbol_row, symbol_pass, pass}
use Rattle.laws_closure.proofs.Inside as Inside
use Rattle.laws_closure.specs.Throws.{may_throw}
use Rattle.laws_closure.proofs.Inside.{both, Each, Opt, In, AllIn, listed, called, name_tabled}
use Rattle.laws_closure.proofs.Programs.{Realm, Has, HasAll, DefinedIn, SeenBoth, Both, done, look, moded, later_in, later_all, Later, from_later, now, branch, branch_if, option_both, itself, made, try_rules_both}
use Rattle.laws_closure.proofs.FirstSteps.{first_steps_both, flattened_in, ThreadedIn, threaded_in, sorted_in, check_all_both}
use Rattle.laws_closure.proofs.ScopeRows.{apply_function_both}
use Rattle.laws_closure.proofs.Rows.{row_both}

module _ (R : Realm) where
  open R use {names, World, Member, Table, knows, tabled, has_role}

  -- a shared symbol is a use; of another both see the same
  pub marked_both : (w : World) (k l : Definition → Prog) (x y : Seen) → SeenBoth R w x y → (DefinedIn R w x.definition → Both R w (k x.definition) (l x.definition))
      → Both R w (marked x.shared (k x.definition)) (marked y.shared (l y.definition))
  marked_both w k l x y seen next =
      subst (λ o. Both R w (marked x.shared (k x.definition)) (marked o (l y.definition))) seen.shared (go x.shared refl)
    where
      go : (o : Option Share) → x.shared ≡ o → Both R w (marked o (k x.definition)) (marked o (l y.definition))
      go None e = subst (λ d. Both R w (k x.definition) (l d)) (seen.same e) (next (seen.defined e))
      go (Some a) e = moded

  pub access_marked_both : (w : World) (kind : Share) (e : Tree) (p q : Prog) (k l : Definition → Prog) (x y : Seen) → SeenBoth R w x y
      → (DefinedIn R w x.definition → Both R w (k x.definition) (l x.definition))
      → Both R w (access_or x.shared kind e p (marked x.shared (k x.definition))) (access_or y.shared kind e q (marked y.shared (l y.definition)))
  access_marked_both w kind e p q k l x y seen next =
      subst (λ o. Both R w (access_or x.shared kind e p (marked x.shared (k x.definition))) (access_or o kind e q (marked o (l y.definition)))) seen.shared (go x.shared refl)
    where
      go : (o : Option Share) → x.shared ≡ o → Both R w (access_or o kind e p (marked o (k x.definition))) (access_or o kind e q (marked o (l y.definition)))
      go None e = subst (λ d. Both R w (k x.definition) (l d)) (seen.same e) (next (seen.defined e))
      go (Some a) e = branch R w (same_share a kind) moded moded

  access_both : (w : World) (a b : Option Share) (kind : Share) (e : Tree) (r s : Prog) {p q : Prog} → a ≡ b → Both R w p q → Both R w (access_or a kind e r p) (access_or b kind e s q)
  access_both w a b kind e r s {p} {q} same next = subst (λ o. Both R w (access_or a kind e r p) (access_or o kind e s q)) same (go a)
    where
      go : (o : Option Share) → Both R w (access_or o kind e r p) (access_or o kind e s q)
      go None = next
      go (Some k) = branch R w (same_share k kind) moded next

  pub accessed_in : (w : World) (h : Tree) (es : List Tree) → HasAll R w es → Opt (λ a. Member w a.0) (accessed names h es)
  accessed_in w h [] all = tt
  accessed_in w h (symbol s ∷ es) all = both (Opt (λ a. Member w a.0)) (changes_rule names h || changes_value names h) all.0 tt
  accessed_in w h (integer n ∷ es) all = tt
  accessed_in w h (string t ∷ es) all = tt
  accessed_in w h (normal (symbol f) as' ∷ es) all = both (Opt (λ a. Member w a.0)) (changes_rule names h) all.0.0 tt
  accessed_in w h (normal (integer n) as' ∷ es) all = tt
  accessed_in w h (normal (string t) as' ∷ es) all = tt
  accessed_in w h (normal (normal g bs) as' ∷ es) all = tt

  pub unless_access_both : (w : World) (h : Tree) (es : List Tree) (e : Tree) (r s p q : Prog) → HasAll R w es → Both R w p q → Both R w (unless_access names h es e r p) (unless_access names h es e s q)
  unless_access_both w h es e r s p q all next =
      option_both R w (λ a. Member w a.0) (accessed names h es) (accessed_in w h es all) next
      (λ a a_in. look a_in (λ x y seen. access_both w x.shared y.shared a.1 e r s seen.shared next))

  -- ---- rules and rows

  pub symbol_rules_both : (w : World) (o : Option Sym) (e : Tree) (p q : Prog) → Opt (Member w) o → Has R w e → Later R w p q → Both R w (symbol_rules names o e p) (symbol_rules names o e q)
  symbol_rules_both w None e p q one e_in next = now R w next
  symbol_rules_both w (Some s) e p q one e_in next =
      look one (λ x y seen. marked_both w (λ d. try_rules names d.ups e Done p) (λ d. try_rules names d.ups e Done q) x y seen
      (λ defined. try_rules_both R w x.definition.ups e Done Done p q defined.ups e_in (itself R w) next))

  pub up_rules_both : (es : List Tree) (w : World) (e : Tree) (p q : Prog) → HasAll R w es → Has R w e → Later R w p q → Both R w (up_rules names es e p) (up_rules names es e q)
  up_rules_both [] w e p q all one next = now R w next
  up_rules_both (x ∷ xs) w e p q all one next =
      symbol_rules_both w (symbol_of x) e _ _ (Inside.symbol_in (Member w) x all.0) one
      (λ u g. up_rules_both xs u e p q (later_all R w u g xs all.1) (later_in R w u g e one) (from_later R w u g next))

  -- what running a row needs
  abbrev Runs : Builtin → Type 0
  Runs r = Table × (may_throw r ≡ true → R.Throwing)

  row_or_stay_both : ((x : World) → R.Numbered x) → (w : World) (o : Option Builtin) (s : Sym) (es : List Tree) (e : Tree) (p q : Prog) → Opt Runs o → HasAll R w es → Later R w p q
      → Both R w (row_or_stay names o s es e p) (row_or_stay names o s es e q)
  row_or_stay_both may w None s es e p q t all next = now R w next
  row_or_stay_both may w (Some r) s es e p q t all next = unless_access_both w (symbol s) es e _ _ _ _ all (row_both R t.0 w r (λ is. may w) t.1 p q es next all)

  role_in : (w : World) (s : Sym) → Member w s → Opt Runs (role_of names s)
  role_in w s one = go (role_of names s) refl
    where
      go : (o : Option Builtin) → role_of names s ≡ o → Opt Runs o
      go None e = tt
      go (Some r) e = (has_role w r s one e, R.throwing w r s one e)

  pub built_in_both : ((x : World) → R.Numbered x) → (w : World) (s : Sym) (es : List Tree) (e : Tree) (p q : Prog) → Member w s → HasAll R w es → Later R w p q → Both R w (built_in names s es e p) (built_in names s es e q)
  built_in_both may w s es e p q one all next = row_or_stay_both may w (role_of names s) s es e p q (role_in w s one) all next

  pub down_rules_both : ((x : World) → R.Numbered x) → (w : World) (h : Tree) (es : List Tree) (e : Tree) (p q : Prog) → Has R w h → HasAll R w es → Has R w e → Later R w p q
      → Both R w (down_rules names h es e p) (down_rules names h es e q)
  down_rules_both may w (symbol s) es e p q one all e_in next =
      look one (λ x y seen. access_marked_both w Function e _ _ (λ d. try_rules names d.downs e Done (built_in names s es e p)) (λ d. try_rules names d.downs e Done (built_in names s es e q)) x y seen
      (λ defined. try_rules_both R w x.definition.downs e Done Done _ _ defined.downs e_in (itself R w)
      (λ u g. built_in_both may u s es e p q (g s one) (later_all R w u g es all) (from_later R w u g next))))
  down_rules_both may w (normal h fs) es e p q one all e_in next =
      branch_if R w (is_name names Builtin.Function h)
      (λ is. apply_function_both R (name_tabled (Member w) names Table (knows w) (tabled w) Builtin.Function h one.0 is) w p q (elements fs) es next (listed (Member w) fs one.1) all)
      (now R w next)
  down_rules_both may w (integer n) es e p q one all e_in next = now R w next
  down_rules_both may w (string t) es e p q one all e_in next = now R w next

  last_steps_both : ((x : World) → R.Numbered x) → (w : World) (a : Attributes) (es : List Tree) (e : Tree) (p q : Prog) (h : Tree) → HasAll R w es → Has R w e → Later R w p q → Has R w h
      → Both R w (last_steps names a es e p h) (last_steps names a es e q h)
  last_steps_both may w a es e p q h all e_in next one =
      branch R w (has Builtin.HoldAllComplete a) (down_rules_both may w h es e p q one all e_in next)
      (up_rules_both es w e _ _ all e_in
      (λ u g. down_rules_both may u h es e p q (later_in R w u g h one) (later_all R w u g es all) (later_in R w u g e e_in) (from_later R w u g next)))

  pub left_standing_in : (w : World) (a : Attributes) (h : Tree) (es : List Tree) (e : Tree) → Has R w h → HasAll R w es → Has R w e → Has R w (left_standing names a h es e)
  left_standing_in w a h es e one all e_in = both (Has R w) (not (has Builtin.HoldAllComplete a) && has_wrapper names es) (called (Member w) h es one all) e_in

  pub later_steps_both : ((x : World) → R.Numbered x) → (w : World) (h : Tree) (a : Attributes) (es : List Tree) → Has R w h → HasAll R w es → Both R w (later_steps names h a es) (later_steps names h a es)
  later_steps_both may w h a es one all =
      let stripped : List Tree = elim (has Builtin.HoldAllComplete a) [ true ↦ es | false ↦ strip names es ] in
      let stripped_in : HasAll R w stripped = both (HasAll R w) (has Builtin.HoldAllComplete a) all (Inside.stripped (Member w) names es all) in
      let flat : List Tree = flattened h a stripped in
      let flat_in : HasAll R w flat = flattened_in R w h a stripped stripped_in in
      let last : List Tree = sorted a flat in
      let last_in : HasAll R w last = sorted_in R w a flat flat_in in
      let whole : Has R w (call h last) = called (Member w) h last one last_in in
      option_both R w (ThreadedIn R w) (threaded names h a flat) (threaded_in R w h a flat one flat_in)
      (last_steps_both may w a last (call h last) _ _ h last_in whole
      (λ u g. done (later_in R w u g (left_standing names a h es (call h last)) (left_standing_in w a h es (call h last) one all whole))) one)
      (λ each t. check_all_both R w each _ _ t.1 (done (made R w t.0 Builtin.List refl each t.1)))

  symbol_row_both : (w : World) (s : Sym) → Member w s → Both R w (symbol_row names s) (symbol_row names s)
  symbol_row_both w s one = branch R w (is_known names Builtin.KernelID s) moded (branch R w (is_known names Builtin.KernelCount s) moded (done one))

  own_in : (w : World) (s : Sym) (d : Definition) → Member w s → DefinedIn R w d
      → Both R w (elim (d.own) [ None ↦ symbol_row names s | Some v ↦ Done v ]) (elim (d.own) [ None ↦ symbol_row names s | Some v ↦ Done v ])
  own_in w s d one defined = option_both R w (Has R w) d.own defined.own (symbol_row_both w s one) (λ v v_in. done v_in)

  pub symbol_pass_both : (w : World) (s : Sym) → Member w s → Both R w (symbol_pass names s) (symbol_pass names s)
  symbol_pass_both w s one =
      look one (λ x y seen. access_marked_both w Variable (symbol s) _ _ (λ d. elim (d.own) [ None ↦ symbol_row names s | Some v ↦ Done v ])
      (λ d. elim (d.own) [ None ↦ symbol_row names s | Some v ↦ Done v ]) x y seen (λ defined. own_in w s x.definition one defined))

  -- one pass on an expression of the set
  pub pass_both : ((x : World) → R.Numbered x) → (w : World) (e : Tree) → Has R w e → Both R w (pass names e) (pass names e)
  pass_both may w (integer n) one = done tt
  pass_both may w (string t) one = done tt
  pass_both may w (symbol s) one = symbol_pass_both w s one
  pass_both may w (normal h es) one = first_steps_both R w h (elements es) _ _ one.0 (listed (Member w) es one.1) (λ u g x a gs x_in gs_in. later_steps_both may u x a gs x_in gs_in)

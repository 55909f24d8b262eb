-- One pass on related expressions.
use Rattle.std.proofs.Common.{◌≡◌, refl, ap, subst, not, List, Option, Some, None}
use Rattle.std.specs.Prelude.{◌&&◌, ◌||◌}
use Rattle.expr_tree.specs.declared.sym.Sym.{Sym}
use Rattle.expr_tree.specs.Tree.{Tree}
use Rattle.semantics.specs.declared.builtin.Builtin.{Builtin}
use Rattle.semantics.specs.Names.{is_name, role_of}
use Rattle.semantics.specs.Program.{Prog, Done, Outer, Access, Seen}
use Rattle.semantics.specs.Definitions.{Attributes, Share, Variable, Function, has}
use Rattle.semantics.specs.Sections.{accessed, unless_identical, access_or, unless_access, changes_rule, changes_value}
use Rattle.semantics.specs.Pass.{marked, symbol_rules, up_rules, row_or_stay, built_in, down_rules, last_steps, left_standing, later_steps, symbol_row, own_value, symbol_pass, pass}
use Rattle.laws_relations.proofs.Relate.{Opt, none, some, all_nil, all_cons, branch, case}
use Rattle.laws_relations.proofs.Relation.{int, str, sym, node, call-like, listed-like, symbol-like, same-like, is_name-like, make-like, strip-like, has_wrapper-like}
use Rattle.laws_relations.proofs.Kin.{Kin, LikeTree, LikeTrees, LikeDefined, accesses, counts}
use Rattle.laws_relations.proofs.Simulation.{Both, Next, done, look, outer, moded}
use Rattle.laws_relations.proofs.Programs.{by_name-both, by_item, try_rules-both}
use Rattle.laws_relations.proofs.FirstSteps.{first_steps-both, flattened-like, threaded-like, sorted-like, check_all-both}
use Rattle.laws_relations.proofs.ScopeRows.{apply_function-both}
use Rattle.laws_relations.proofs.Rows.{row-both}

module _ (K : Kin) where
  open K use {names}

  -- ---- uses of shared symbols

  -- a shared symbol is a use; what is not shared goes on
  marked-both : (a b : Option Share) {p q : Prog} → a ≡ b → Both K p q → Both K (marked a p) (marked b q)
  marked-both a b {p = p} {q = q} e both = subst (λ o. Both K (marked a p) (marked o q)) e (go a)
    where
      go : (o : Option Share) → Both K (marked o p) (marked o q)
      go None = both
      go (Some kind) = moded (λ outward mode kernel. both)

  -- an access is sent as it stands; a reply identical to it is no result
  sent-both : {e f : Tree} {r s : Prog} → K.Outward → LikeTree K e f → Both K r s → Both K (Outer (Access e) (unless_identical e r)) (Outer (Access f) (unless_identical f s))
  sent-both outward e stay = outer outward (accesses e) (λ v x one. branch (Both K) (same-like K.Symbols names K.faithful one e) stay (done one))

  access_or-both : (a b : Option Share) (kind : Share) {e f : Tree} {r s p q : Prog} → a ≡ b → LikeTree K e f → Both K r s → Both K p q → Both K (access_or a kind e r p) (access_or b kind f s q)
  access_or-both a b kind {e} {f} {r} {s} {p} {q} is one stay both = subst (λ o. Both K (access_or a kind e r p) (access_or o kind f s q)) is (go a)
    where
      go : (o : Option Share) → Both K (access_or o kind e r p) (access_or o kind f s q)
      go None = both
      go (Some k) = branch (Both K) refl (moded (λ outward mode kernel. by_item K mode (sent-both outward one stay) both)) both

  abbrev Uses : Sym × Share → Sym × Share → Type 0
  Uses a b = K.Symbols a.0 b.0 × (a.1 ≡ b.1)

  changes-like : {h g : Tree} → LikeTree K h g → (changes_rule names h ≡ changes_rule names g) × (changes_value names h ≡ changes_value names g)
  changes-like {h = h'} {g = g'} h = (
    λ i. same Builtin.Set i || same Builtin.SetDelayed i || same Builtin.Unset i,
    λ i.
        same Builtin.Increment i || same Builtin.Decrement i || same Builtin.PreIncrement i || same Builtin.PreDecrement i || same Builtin.AddTo i || same Builtin.SubtractFrom i
        || same Builtin.TimesBy i || same Builtin.AppendTo i || same Builtin.PrependTo i || same Builtin.Clear i,
  )
    where
      same : (r : Builtin) → is_name names r h' ≡ is_name names r g'
      same r = is_name-like K.Symbols names K.faithful r h

  accessed-like : {h g : Tree} {es fs : List Tree} → LikeTree K h g → LikeTrees K es fs → Opt Uses (accessed names h es) (accessed names g fs)
  accessed-like h (all_cons (sym s) es) = branch (Opt Uses) (λ i. (changes-like h).0 i || (changes-like h).1 i) (some (s, refl)) none
  accessed-like h (all_cons (node (sym f) as') es) = branch (Opt Uses) (changes-like h).0 (some (f, refl)) none
  accessed-like h _ = none

  unless_access-both : {e f h g : Tree} {es fs : List Tree} {r s p q : Prog} → LikeTree K h g → LikeTrees K es fs → LikeTree K e f → Both K r s → Both K p q
      → Both K (unless_access names h es e r p) (unless_access names g fs f s q)
  unless_access-both {e = e} {f = f} {r = r} {s = s} {p = p} {q = q} h l one stay both =
      case (Both K) (accessed-like h l) both
      (λ a b uses. look uses.0 (λ x y defined shared.
      subst (λ kind. Both K (access_or x.shared a.1 e r p) (access_or y.shared kind f s q)) uses.1 (access_or-both x.shared y.shared a.1 shared one stay both)))

  -- ---- rules and rows

  gives_itself : Next K Done Done
  gives_itself v x same = done same

  symbol_rules-both : {o n : Option Sym} {e f : Tree} {p q : Prog} → Opt K.Symbols o n → LikeTree K e f → Both K p q → Both K (symbol_rules names o e p) (symbol_rules names n f q)
  symbol_rules-both none e both = both
  symbol_rules-both (some s) e both = look s (λ a b defined shared. marked-both a.shared b.shared shared (try_rules-both K Done Done defined.ups e gives_itself both))

  up_rules-both : {es fs : List Tree} {e f : Tree} {p q : Prog} → LikeTrees K es fs → LikeTree K e f → Both K p q → Both K (up_rules names es e p) (up_rules names fs f q)
  up_rules-both all_nil e both = both
  up_rules-both (all_cons one rest) e both = symbol_rules-both (symbol-like K.Symbols one) e (up_rules-both rest e both)

  row_or_stay-both : (o : Option Builtin) {e f : Tree} {s t : Sym} {es fs : List Tree} {p q : Prog} → K.Symbols s t → LikeTrees K es fs → LikeTree K e f → Both K p q
      → Both K (row_or_stay names o s es e p) (row_or_stay names o t fs f q)
  row_or_stay-both None s l e both = both
  row_or_stay-both (Some r) s l e both = unless_access-both (sym s) l e both (row-both K r both l)

  built_in-both : {s t : Sym} {es fs : List Tree} {e f : Tree} {p q : Prog} → K.Symbols s t → LikeTrees K es fs → LikeTree K e f → Both K p q → Both K (built_in names s es e p) (built_in names t fs f q)
  built_in-both {s = s} {t = t} {es = es} {fs = fs} {e = e} {f = f} {p = p} {q = q} one l same both =
      subst (λ o. Both K (built_in names s es e p) (row_or_stay names o t fs f q)) (K.faithful.roles s t one) (row_or_stay-both (role_of names s) one l same both)

  down_rules-both : {h g : Tree} {es fs : List Tree} {e f : Tree} {p q : Prog} → LikeTree K h g → LikeTrees K es fs → LikeTree K e f → Both K p q → Both K (down_rules names h es e p) (down_rules names g fs f q)
  down_rules-both (sym s) l e both =
      look s (λ a b defined shared. access_or-both a.shared b.shared Function shared e both (marked-both a.shared b.shared shared
      (try_rules-both K Done Done defined.downs e gives_itself (built_in-both s l e both))))
  down_rules-both (node h ps) l e both = by_name-both K Builtin.Function h (apply_function-both K both (listed-like K.Symbols ps) l) both
  down_rules-both int l e both = both
  down_rules-both str l e both = both

  last_steps-both : (a : Attributes) {h g : Tree} {es fs : List Tree} {e f : Tree} {p q : Prog} → LikeTree K h g → LikeTrees K es fs → LikeTree K e f → Both K p q → Both K (last_steps names a es e p h) (last_steps names a fs f q g)
  last_steps-both a h l e both = branch (Both K) refl (down_rules-both h l e both) (up_rules-both l e (down_rules-both h l e both))

  left_standing-like : (a : Attributes) {h g : Tree} {es fs : List Tree} {e f : Tree} → LikeTree K h g → LikeTrees K es fs → LikeTree K e f → LikeTree K (left_standing names a h es e) (left_standing names a g fs f)
  left_standing-like a h l e = branch (LikeTree K) (ap (λ b. not (has Builtin.HoldAllComplete a) && b) (has_wrapper-like K.Symbols names K.faithful l)) (call-like K.Symbols h l) e

  later_steps-both : (a : Attributes) {h g : Tree} {es fs : List Tree} → LikeTree K h g → LikeTrees K es fs → Both K (later_steps names h a es) (later_steps names g a fs)
  later_steps-both a h l =
      let stripped = branch (LikeTrees K) refl l (strip-like K.Symbols names K.faithful l) in
      let flat = flattened-like K a h stripped in
      let last = sorted-like K a flat in
      case (Both K) (threaded-like K a h flat)
      (last_steps-both a h last (call-like K.Symbols h last) (done (left_standing-like a h l (call-like K.Symbols h last))))
      (λ x y each. check_all-both K each (done (make-like K.Symbols names K.faithful Builtin.List each)))

  symbol_row-both : {s t : Sym} → K.Symbols s t → Both K (symbol_row names s) (symbol_row names t)
  symbol_row-both s =
      by_name-both K Builtin.KernelID (sym s) (moded (λ outward mode kernel. done int))
      (by_name-both K Builtin.KernelCount (sym s) (moded (λ outward mode kernel. outer outward counts gives_itself)) (done (sym s)))

  own_value-both : {s t : Sym} (x y : Seen) → K.Symbols s t → LikeDefined K x.definition y.definition → Both K (own_value names s x) (own_value names t y)
  own_value-both x y s defined = case (Both K) defined.own (symbol_row-both s) (λ v u same. done same)

  symbol_pass-both : {s t : Sym} → K.Symbols s t → Both K (symbol_pass names s) (symbol_pass names t)
  symbol_pass-both s =
      look s (λ x y defined shared. access_or-both x.shared y.shared Variable shared (sym s) (done (sym s)) (marked-both x.shared y.shared shared (own_value-both x y s defined)))

  pub pass-both : (e f : Tree) → LikeTree K e f → Both K (pass names e) (pass names f)
  pass-both _ _ int = done int
  pass-both _ _ str = done str
  pass-both _ _ (sym s) = symbol_pass-both s
  pass-both _ _ (node h es) = first_steps-both K _ _ h (listed-like K.Symbols es) (λ x y a gs hs head items. later_steps-both a head items)

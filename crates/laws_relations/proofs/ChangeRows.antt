-- What the rows that change definitions owe.
use Rattle.std.proofs.Common.{◌≡◌, refl, ap, subst, Bool, true, false, not, List, [], ◌∷◌, map, Option, Some, None}
use Rattle.std.specs.Prelude.{ℤ, ◌&&◌, ◌||◌, is_some}
use Rattle.expr_tree.specs.declared.sym.Sym.{Sym}
use Rattle.expr_tree.specs.Tree.{Tree}
use Rattle.semantics.specs.declared.builtin.Builtin.{Builtin}
use Rattle.semantics.specs.Names.{name}
use Rattle.semantics.specs.Definitions.{Definition, Attributes, has}
use Rattle.semantics.specs.Program.{Prog, Seen}
use Rattle.semantics.specs.Control.{failed, null}
use Rattle.semantics.specs.Assign.{Form, Target}
use Rattle.semantics.specs.Changes.{see_all, is_protected, protected_in, any_shared, unless_item, noting, attach_all, attaches_shared, assign, set, set_delayed, tag_set, tag_set_delayed, holders, holds, holding, any_protected, without_left, take_away, unset_from, unset, renew, change_own, change, old_value, new_value, plus_int, step_by, change_with, subtract_from, unless_shared_symbol, write, cleared, nothing_left, clear, clear_all, all_attributes, those, with_attributes, without_attributes, attribute_name, attribute_names, named_attributes, change_attributes, protect, attributes_row}
use Rattle.laws_relations.proofs.Relate.{Opt, none, some, All, all_nil, all_cons, branch, case}
use Rattle.laws_relations.proofs.Listed.{same_case}
use Rattle.laws_relations.proofs.Relation.{int, str, sym, node, items-like, is_call-like, make-like, name-like, ordered-like, same_symbol-like}
use Rattle.laws_relations.proofs.FirstSteps.{left_side-both}
use Rattle.laws_relations.proofs.Kin.{Kin, LikeTree, LikeTrees, LikeSymbols, LikeDefined}
use Rattle.laws_relations.proofs.Simulation.{Both, ask, done, look, put, check, moded}
use Rattle.laws_relations.proofs.Programs.{name-both, by_item}
use Rattle.laws_relations.proofs.AssignRows.{inner-like, symbols_at-like, target, LikeForm, to_tag, Targets, places-like, asked_symbols-like, refusal-like, remove-like, has_left-like, attached-like}

module _ (K : Kin) where
  open K use {names}

  -- ---- what is seen of several symbols

  record LikeSeen (e f : Sym × Seen) : Type 0 where
    symbol : K.Symbols e.0 f.0
    defined : LikeDefined K e.1.definition f.1.definition
    shared : e.1.shared ≡ f.1.shared

  abbrev Seens : List (Sym × Seen) → List (Sym × Seen) → Type 0
  Seens = All LikeSeen

  see_all-both : {ss ts : List Sym} (k l : List (Sym × Seen) → Prog) → LikeSymbols K ss ts → ((es fs : List (Sym × Seen)) → Seens es fs → Both K (k es) (l fs)) → Both K (see_all ss k) (see_all ts l)
  see_all-both k l all_nil next = next _ _ all_nil
  see_all-both k l (all_cons s ss) next =
      look s (λ x y defined shared. see_all-both _ _ ss (λ es fs rest. next _ _ (all_cons (record { symbol = s; defined = defined; shared = shared }) rest)))

  protected-like : {d c : Definition} → LikeDefined K d c → is_protected d ≡ is_protected c
  protected-like d = ap (has Builtin.Protected) d.attributes

  protected_in-like : {es fs : List (Sym × Seen)} {s t : Sym} → Seens es fs → K.Symbols s t → protected_in es s ≡ protected_in fs t
  protected_in-like all_nil s = refl
  protected_in-like (all_cons e l) s = branch (◌≡◌ {A = Bool}) (same_symbol-like K.Symbols names K.faithful e.symbol s) (protected-like e.defined) (protected_in-like l s)

  any_shared-like : {es fs : List (Sym × Seen)} → Seens es fs → any_shared es ≡ any_shared fs
  any_shared-like all_nil = refl
  any_shared-like (all_cons e l) = λ i. is_some (e.shared i) || any_shared-like l i

  any_protected-like : {es fs : List (Sym × Seen)} → Seens es fs → any_protected es ≡ any_protected fs
  any_protected-like all_nil = refl
  any_protected-like (all_cons e l) = λ i. protected-like e.defined i || any_protected-like l i

  -- a use of the mode where something is shared
  by_flag : (f g : Bool → Prog) {b c : Bool} → b ≡ c → Both K (f true) (g true) → Both K (f false) (g false) → Both K (f b) (g c)
  by_flag f g {b} e one other = subst (λ c. Both K (f b) (g c)) e (go b)
    where
      go : (c : Bool) → Both K (f c) (g c)
      go true = one
      go false = other

  unless_item-both : {b c : Bool} {p q : Prog} → b ≡ c → Both K p q → Both K (unless_item names b p) (unless_item names c q)
  unless_item-both {p = p} {q = q} e both = by_flag (λ b. unless_item names b p) (λ b. unless_item names b q) e (moded (λ outward mode kernel. by_item K mode (name-both K Builtin.Failed) both)) both

  noting-both : {b c : Bool} {p q : Prog} → b ≡ c → Both K p q → Both K (noting b p) (noting c q)
  noting-both {p = p} {q = q} e both = by_flag (λ b. noting b p) (λ b. noting b q) e (moded (λ outward mode kernel. both)) both

  unless_shared_symbol-both : {b c : Bool} {p q : Prog} → b ≡ c → Both K p q → Both K (unless_shared_symbol names b p) (unless_shared_symbol names c q)
  unless_shared_symbol-both {p = p} {q = q} e both = by_flag (λ b. unless_shared_symbol names b p) (λ b. unless_shared_symbol names b q) e (moded (λ outward mode kernel. name-both K Builtin.Failed)) both

  failed-both : Both K (failed names) (failed names)
  failed-both = name-both K Builtin.Failed

  null-both : Both K (null names) (null names)
  null-both = name-both K Builtin.Null

  -- ---- assignment

  attach_all-both : {ts us : List Target} {e f v x : Tree} {p q : Prog} → Targets K ts us → LikeTree K e f → LikeTree K v x → Both K p q → Both K (attach_all names ts e v p) (attach_all names us f x q)
  attach_all-both all_nil e v both = both
  attach_all-both (all_cons (target {at = at} s) l) e v both = look s (λ x y defined shared. put s (attached-like K at e v defined) (attach_all-both l e v both))

  attaches_shared-like : {ts us : List Target} {es fs : List (Sym × Seen)} → Targets K ts us → Seens es fs → attaches_shared ts es ≡ attaches_shared us fs
  attaches_shared-like all_nil seen = refl
  attaches_shared-like (all_cons t l) seen = any_shared-like seen

  assign-both : {a b : Form} {e f v x : Tree} {p q : Prog} → LikeForm K a b → LikeTree K e f → LikeTree K v x → Both K p q → Both K (assign names a e v p) (assign names b f x q)
  assign-both form e v both =
      see_all-both _ _ (asked_symbols-like K form (places-like K form e)) (λ es fs seen.
      unless_item-both (attaches_shared-like (places-like K form e) seen)
      (case (Both K) (refusal-like K (protected_in es) (protected_in fs) (λ s t one. protected_in-like seen one) form e) (attach_all-both (places-like K form e) e v both) (λ a b any. failed-both)))

  pub set-both : {a b : Form} {p q : Prog} {es fs : List Tree} → LikeForm K a b → Both K p q → LikeTrees K es fs → Both K (set names a p es) (set names b q fs)
  set-both form stay (all_cons e (all_cons v all_nil)) = left_side-both K _ _ e (λ l m left. assign-both form left v (done v))
  set-both form stay _ = stay

  pub set_delayed-both : {a b : Form} {p q : Prog} {es fs : List Tree} → LikeForm K a b → Both K p q → LikeTrees K es fs → Both K (set_delayed names a p es) (set_delayed names b q fs)
  set_delayed-both form stay (all_cons e (all_cons v all_nil)) = left_side-both K _ _ e (λ l m left. assign-both form left v null-both)
  set_delayed-both form stay _ = stay

  pub tag_set-both : {p q : Prog} {es fs : List Tree} → Both K p q → LikeTrees K es fs → Both K (tag_set names p es) (tag_set names q fs)
  tag_set-both stay (all_cons (sym t) (all_cons e (all_cons v all_nil))) =
      left_side-both K _ _ e (λ l m left. ask v (λ w x value. assign-both (to_tag t) left value (done value)))
  tag_set-both stay _ = stay

  pub tag_set_delayed-both : {p q : Prog} {es fs : List Tree} → Both K p q → LikeTrees K es fs → Both K (tag_set_delayed names p es) (tag_set_delayed names q fs)
  tag_set_delayed-both stay (all_cons (sym t) (all_cons e (all_cons v all_nil))) = left_side-both K _ _ e (λ l m left. assign-both (to_tag t) left v null-both)
  tag_set_delayed-both stay _ = stay

  -- ---- Unset

  holders-like : {e f : Tree} → LikeTree K e f → LikeSymbols K (holders names e) (holders names f)
  holders-like e = symbols_at-like K (inner-like K e)

  has_value-like : {o p : Option Tree} → Opt (LikeTree K) o p → is_some o ≡ is_some p
  has_value-like none = refl
  has_value-like (some v) = refl

  holds-like : {e f : Tree} {d c : Definition} → LikeTree K e f → LikeDefined K d c → holds e d ≡ holds f c
  holds-like (sym s) d = has_value-like d.own
  holds-like (int {n = n}) d = λ i. has_left-like K (int {n = n}) d.downs i || has_left-like K (int {n = n}) d.ups i
  holds-like (str {t = t}) d = λ i. has_left-like K (str {t = t}) d.downs i || has_left-like K (str {t = t}) d.ups i
  holds-like (node h es) d = λ i. has_left-like K (node h es) d.downs i || has_left-like K (node h es) d.ups i

  holding-like : {e f : Tree} {es fs : List (Sym × Seen)} → LikeTree K e f → Seens es fs → Seens (holding e es) (holding f fs)
  holding-like left all_nil = all_nil
  holding-like left (all_cons e l) = branch Seens (holds-like left e.defined) (all_cons e (holding-like left l)) (holding-like left l)

  without_left-like : {e f : Tree} {d c : Definition} → LikeTree K e f → LikeDefined K d c → LikeDefined K (without_left e d) (without_left f c)
  without_left-like (sym s) d = record { attributes = d.attributes; own = none; downs = d.downs; ups = d.ups }
  without_left-like int d = record { attributes = d.attributes; own = d.own; downs = remove-like K int d.downs; ups = remove-like K int d.ups }
  without_left-like str d = record { attributes = d.attributes; own = d.own; downs = remove-like K str d.downs; ups = remove-like K str d.ups }
  without_left-like (node h es) d = record { attributes = d.attributes; own = d.own; downs = remove-like K (node h es) d.downs; ups = remove-like K (node h es) d.ups }

  take_away-both : {e f : Tree} {es fs : List (Sym × Seen)} {p q : Prog} → LikeTree K e f → Seens es fs → Both K p q → Both K (take_away e es p) (take_away f fs q)
  take_away-both left all_nil both = both
  take_away-both left (all_cons e l) both = put e.symbol (without_left-like left e.defined) (take_away-both left l both)

  unset_from-both : {e f : Tree} {es fs : List (Sym × Seen)} → LikeTree K e f → Seens es fs → Both K (unset_from names e es) (unset_from names f fs)
  unset_from-both left all_nil = failed-both
  unset_from-both left (all_cons e l) = branch (Both K) (any_protected-like (all_cons e l)) failed-both (take_away-both left (all_cons e l) null-both)

  pub unset-both : {p q : Prog} {es fs : List Tree} → Both K p q → LikeTrees K es fs → Both K (unset names p es) (unset names q fs)
  unset-both stay (all_cons e all_nil) =
      left_side-both K _ _ e (λ l m left. see_all-both _ _ (holders-like left) (λ es fs seen. unless_item-both (any_shared-like seen) (unset_from-both left (holding-like left seen))))
  unset-both stay _ = stay

  -- ---- a symbol's value or attributes changed

  abbrev Maker : (Tree → Tree) → (Tree → Tree) → Type 0
  Maker f g = (v x : Tree) → LikeTree K v x → LikeTree K (f v) (g x)

  abbrev pub Chooser : (Tree → Tree → Tree) → Type 0
  Chooser f = (a b c d : Tree) → LikeTree K a b → LikeTree K c d → LikeTree K (f a c) (f b d)

  renew-both : {s t : Sym} {v x g h : Tree} {d c : Definition} → K.Symbols s t → LikeTree K v x → LikeTree K g h → LikeDefined K d c → Both K (renew names s v g d) (renew names t x h c)
  renew-both s value given d =
      branch (Both K) (protected-like d) failed-both (put s (record { attributes = d.attributes; own = some value; downs = d.downs; ups = d.ups }) (done given))

  change_own-both : {s t : Sym} (f g : Tree → Tree) (gives : Tree → Tree → Tree) {d c : Definition} → K.Symbols s t → Maker f g → Chooser gives → LikeDefined K d c
      → Both K (change_own names s f gives d) (change_own names t g gives c)
  change_own-both f g gives s makes chooses d =
      case (Both K) d.own failed-both (λ old old' same. check (makes _ _ same) (ask (makes _ _ same) (λ v x value.
      look s (λ y z defined shared. noting-both (ap is_some shared) (renew-both s value (chooses _ _ _ _ same value) defined)))))

  change-both : {s t : Sym} (f g : Tree → Tree) (gives : Tree → Tree → Tree) → K.Symbols s t → Maker f g → Chooser gives → Both K (change names s f gives) (change names t g gives)
  change-both f g gives s makes chooses = look s (λ x y defined shared. unless_item-both (ap is_some shared) (change_own-both f g gives s makes chooses defined))

  pub gives_old : Chooser old_value
  gives_old a b c d old new = old

  pub gives_new : Chooser new_value
  gives_new a b c d old new = new

  pub step_by-both : (n : ℤ) (gives : Tree → Tree → Tree) → Chooser gives → {p q : Prog} {es fs : List Tree} → Both K p q → LikeTrees K es fs → Both K (step_by names n gives p es) (step_by names n gives q fs)
  step_by-both n gives chooses stay (all_cons (sym s) all_nil) =
      change-both (plus_int names n) (plus_int names n) gives s (λ v x same. make-like K.Symbols names K.faithful Builtin.Plus (all_cons same (all_cons int all_nil))) chooses
  step_by-both n gives chooses stay _ = stay

  pub change_with-both : (row : Builtin) {p q : Prog} {es fs : List Tree} → Both K p q → LikeTrees K es fs → Both K (change_with names row p es) (change_with names row q fs)
  change_with-both row stay (all_cons (sym s) (all_cons e all_nil)) =
      change-both _ _ new_value s (λ v x same. make-like K.Symbols names K.faithful row (all_cons same (all_cons e all_nil))) gives_new
  change_with-both row stay _ = stay

  pub subtract_from-both : {p q : Prog} {es fs : List Tree} → Both K p q → LikeTrees K es fs → Both K (subtract_from names p es) (subtract_from names q fs)
  subtract_from-both stay (all_cons (sym s) (all_cons e all_nil)) =
      change-both _ _ new_value s
      (λ v x same. make-like K.Symbols names K.faithful Builtin.Plus (all_cons same (all_cons (make-like K.Symbols names K.faithful Builtin.Times (all_cons int (all_cons e all_nil))) all_nil))) gives_new
  subtract_from-both stay _ = stay

  -- a change of a definition that keeps the relation
  abbrev pub Keeps : (Definition → Definition) → Type 0
  Keeps f = (d c : Definition) → LikeDefined K d c → LikeDefined K (f d) (f c)

  write-both : {s t : Sym} (f : Definition → Definition) {d c : Definition} → K.Symbols s t → Keeps f → LikeDefined K d c → Both K (write names s f d) (write names t f c)
  write-both f s keeps d = branch (Both K) (protected-like d) failed-both (put s (keeps _ _ d) null-both)

  pub clear-both : {p q : Prog} {es fs : List Tree} → Both K p q → LikeTrees K es fs → Both K (clear names p es) (clear names q fs)
  clear-both stay (all_cons (sym s) all_nil) =
      look s (λ x y defined shared. noting-both (ap is_some shared)
      (write-both cleared s (λ d c one. record { attributes = one.attributes; own = none; downs = all_nil; ups = all_nil }) defined))
  clear-both stay _ = stay

  pub clear_all-both : {p q : Prog} {es fs : List Tree} → Both K p q → LikeTrees K es fs → Both K (clear_all names p es) (clear_all names q fs)
  clear_all-both stay (all_cons (sym s) all_nil) =
      look s (λ x y defined shared. unless_shared_symbol-both (ap is_some shared)
      (write-both nothing_left s (λ d c one. record { attributes = refl; own = none; downs = all_nil; ups = all_nil }) defined))
  clear_all-both stay _ = stay

  pub with_attributes-keeps : (a : Attributes) → Keeps (with_attributes a)
  with_attributes-keeps a d c one = record { attributes = ap (λ b. those (λ r. has r a || has r b) all_attributes) one.attributes; own = one.own; downs = one.downs; ups = one.ups }

  pub without_attributes-keeps : (a : Attributes) → Keeps (without_attributes a)
  without_attributes-keeps a d c one = record { attributes = ap (λ b. those (λ r. has r b && not (has r a)) all_attributes) one.attributes; own = one.own; downs = one.downs; ups = one.ups }

  attribute_name-like : {e f : Tree} → LikeTree K e f → attribute_name names e ≡ attribute_name names f
  attribute_name-like (sym s) = ap (λ o. elim o [ None ↦ None | Some row ↦ elim (has row all_attributes) [ true ↦ Some row | false ↦ None ] ]) (K.faithful.roles _ _ s)
  attribute_name-like _ = refl

  attribute_names-like : {es fs : List Tree} → LikeTrees K es fs → attribute_names names es ≡ attribute_names names fs
  attribute_names-like all_nil = refl
  attribute_names-like (all_cons e l) =
      λ i. elim (attribute_name-like e i) [ None ↦ None | Some a ↦ elim (attribute_names-like l i) [ None ↦ None | Some as' ↦ Some (a ∷ as') ] ]

  named_attributes-like : {e f : Tree} → LikeTree K e f → named_attributes names e ≡ named_attributes names f
  named_attributes-like e =
      branch (◌≡◌ {A = Option Attributes}) (is_call-like K.Symbols names K.faithful Builtin.List e) (attribute_names-like (items-like K.Symbols e)) (attribute_names-like (all_cons e all_nil))

  pub change_attributes-both : (f : Attributes → Definition → Definition) → ((a : Attributes) → Keeps (f a)) → {p q : Prog} {es fs : List Tree} → Both K p q → LikeTrees K es fs
      → Both K (change_attributes names f p es) (change_attributes names f q fs)
  change_attributes-both f keeps stay (all_cons (sym s) (all_cons e all_nil)) =
      same_case (Both K) (named_attributes-like e) stay
      (λ a. look s (λ x y defined shared. unless_shared_symbol-both (ap is_some shared) (write-both (f a) s (keeps a) defined)))
  change_attributes-both f keeps stay _ = stay

  pub protect-both : (f : Definition → Definition) → Keeps f → {p q : Prog} {es fs : List Tree} → Both K p q → LikeTrees K es fs → Both K (protect names f p es) (protect names f q fs)
  protect-both f keeps stay (all_cons (sym s) all_nil) =
      look s (λ x y defined shared. unless_shared_symbol-both (ap is_some shared) (put s (keeps _ _ defined) null-both))
  protect-both f keeps stay _ = stay

  names-like : {a b : Attributes} → a ≡ b → LikeTrees K (map (name names) a) (map (name names) b)
  names-like {a} e = subst (λ b. LikeTrees K (map (name names) a) (map (name names) b)) e (go a)
    where
      go : (b : Attributes) → LikeTrees K (map (name names) b) (map (name names) b)
      go [] = all_nil
      go (r ∷ rs) = all_cons (name-like K.Symbols names K.faithful r) (go rs)

  pub attributes_row-both : {p q : Prog} {es fs : List Tree} → Both K p q → LikeTrees K es fs → Both K (attributes_row names p es) (attributes_row names q fs)
  attributes_row-both stay (all_cons (sym s) all_nil) =
      look s (λ x y defined shared. unless_shared_symbol-both (ap is_some shared)
      (done (make-like K.Symbols names K.faithful Builtin.List (ordered-like K.Symbols names K.faithful (names-like defined.attributes)))))
  attributes_row-both stay _ = stay

-- What assignments are attached to, and the rules of a definition with one more or one less.
use Rattle.std.proofs.Common.{◌≡◌, refl, subst, ◌+◌, Bool, true, false, not, List, [], ◌∷◌, Option, Some, None}
use Rattle.std.specs.Prelude.{◌&&◌, ◌||◌, ◌-◌, ◌==◌, leb}
use Rattle.std.specs.declared.cmp.Ordering.{Ordering}
use Rattle.std.specs.declared.cmp.Ordering.TheVariants.{Less, Equal, Greater}
use Rattle.expr_tree.specs.declared.sym.Sym.{Sym}
use Rattle.expr_tree.specs.Tree.{Tree, normal, Trees}
use Rattle.expr_tree.specs.Order.{text_cmp}
use Rattle.semantics.specs.declared.builtin.Builtin.{Builtin}
use Rattle.semantics.specs.Rule.{Rule, occurrences, occurrences_in, is_untyped, is_typed, is_run, is_guarded, key_of, same_condition, replaces, is_replaced, replace_in, insert_in, insert, remove, has_left}
use Rattle.semantics.specs.Definitions.{Definition}
use Rattle.semantics.specs.Assign.{Form, ToHead, ToItems, ToTag, Place, Own, Down, Up, Target, Why, NoTag, is_wrapper, inner, inner_first, add_symbol, item_symbols, symbols_at, all_at, at_head, is_that, tag_place, places_in, places, asked_symbols, is_normal, is_nested, has_wrapping, has_no_symbol, first_protected, refusal, attached}
use Rattle.laws_relations.proofs.Relate.{Opt, none, some, All, all_nil, all_cons, branch, case, append2, length2}
use Rattle.laws_relations.proofs.Relation.{int, str, sym, node, Likes, ends, mores, LikeRule, symbol-like, items-like, count-like, same-like, is_name-like, is_call-like, same_symbol-like}
use Rattle.laws_relations.proofs.PutInPlace.{among-like}
use Rattle.laws_relations.proofs.Programs.{condition_of-like}
use Rattle.laws_relations.proofs.Kin.{Kin, LikeTree, LikeTrees, LikeSymbols, LikeDefined, LikeRules}

module _ (K : Kin) where
  open K use {names}

  -- ---- the left side

  is_wrapper-like : {h g : Tree} {es fs : Trees} → LikeTree K h g → Likes K.Symbols es fs → is_wrapper names h es ≡ is_wrapper names g fs
  is_wrapper-like h ends = refl
  is_wrapper-like h (mores p ends) = is_name-like K.Symbols names K.faithful Builtin.HoldPattern h
  is_wrapper-like h (mores p (mores c ends)) = is_name-like K.Symbols names K.faithful Builtin.Condition h
  is_wrapper-like h (mores p (mores c (mores x xs))) = refl

  mutual
    pub inner-like : {e f : Tree} → LikeTree K e f → LikeTree K (inner names e) (inner names f)
    inner-like int = int
    inner-like str = str
    inner-like (sym s) = sym s
    inner-like (node h es) = branch (LikeTree K) (is_wrapper-like h es) (inner_first-like h es) (node h es)

    inner_first-like : {h g : Tree} {es fs : Trees} → LikeTree K h g → Likes K.Symbols es fs → LikeTree K (inner_first names h es) (inner_first names g fs)
    inner_first-like h ends = node h ends
    inner_first-like h (mores p es) = inner-like p

  pub add_symbol-like : {o p : Option Sym} {ss ts : List Sym} → Opt K.Symbols o p → LikeSymbols K ss ts → LikeSymbols K (add_symbol o ss) (add_symbol p ts)
  add_symbol-like none l = l
  add_symbol-like (some s) l = branch (LikeSymbols K) (among-like K.Symbols names K.faithful s l) l (append2 l (all_cons s all_nil))

  pub item_symbols-like : {es fs : List Tree} {ss ts : List Sym} → LikeTrees K es fs → LikeSymbols K ss ts → LikeSymbols K (item_symbols es ss) (item_symbols fs ts)
  item_symbols-like all_nil l = l
  item_symbols-like (all_cons e es) l = item_symbols-like es (add_symbol-like (symbol-like K.Symbols e) l)

  pub data LikeTarget : Target → Target → Type 0 where
    target : {s t : Sym} {at : Place} → K.Symbols s t → LikeTarget (record { symbol = s; place = at }) (record { symbol = t; place = at })

  pub data LikeForm : Form → Form → Type 0 where
    to_head : LikeForm ToHead ToHead
    to_items : LikeForm ToItems ToItems
    to_tag : {s t : Sym} → K.Symbols s t → LikeForm (ToTag s) (ToTag t)

  abbrev pub Targets : List Target → List Target → Type 0
  Targets = All LikeTarget

  all_at-like : (at : Place) {ss ts : List Sym} → LikeSymbols K ss ts → Targets (all_at at ss) (all_at at ts)
  all_at-like at all_nil = all_nil
  all_at-like at (all_cons s ss) = all_cons (target s) (all_at-like at ss)

  at_head-like : {o p : Option Sym} → Opt K.Symbols o p → Targets (at_head o) (at_head p)
  at_head-like none = all_nil
  at_head-like (some s) = all_cons (target s) all_nil

  is_that-like : {s t : Sym} {o p : Option Sym} → K.Symbols s t → Opt K.Symbols o p → is_that s o ≡ is_that t p
  is_that-like s none = refl
  is_that-like s (some t) = same_symbol-like K.Symbols names K.faithful s t

  where_normal : {s t : Sym} {e f : Tree} → K.Symbols s t → LikeTree K e f
      → Targets (elim e [ normal h es ↦ record { symbol = s; place = Down } ∷ [] | _ ↦ [] ]) (elim f [ normal h es ↦ record { symbol = t; place = Down } ∷ [] | _ ↦ [] ])
  where_normal s int = all_nil
  where_normal s str = all_nil
  where_normal s (sym t) = all_nil
  where_normal s (node h es) = all_cons (target s) all_nil

  tag_place-like : {s t : Sym} {e f : Tree} → K.Symbols s t → LikeTree K e f → Targets (tag_place s e) (tag_place t f)
  tag_place-like s e =
      branch Targets (is_that-like s (symbol-like K.Symbols e)) (where_normal s e)
      (branch Targets (among-like K.Symbols names K.faithful s (item_symbols-like (items-like K.Symbols e) all_nil)) (all_cons (target s) all_nil) all_nil)

  places_in-like : {a b : Form} {e f : Tree} → LikeForm a b → LikeTree K e f → Targets (places_in a e) (places_in b f)
  places_in-like to_head int = all_nil
  places_in-like to_head str = all_nil
  places_in-like to_head (sym s) = all_cons (target s) all_nil
  places_in-like to_head (node h es) = at_head-like (symbol-like K.Symbols (node h es))
  places_in-like to_items e = all_at-like Up (item_symbols-like (items-like K.Symbols e) all_nil)
  places_in-like (to_tag s) e = tag_place-like s e

  pub places-like : {a b : Form} {e f : Tree} → LikeForm a b → LikeTree K e f → Targets (places names a e) (places names b f)
  places-like form e = places_in-like form (inner-like e)

  pub asked_symbols-like : {a b : Form} {ts us : List Target} → LikeForm a b → Targets ts us → LikeSymbols K (asked_symbols a ts) (asked_symbols b us)
  asked_symbols-like (to_tag s) l = all_cons s all_nil
  asked_symbols-like to_head all_nil = all_nil
  asked_symbols-like to_items all_nil = all_nil
  asked_symbols-like to_head (all_cons (target s) l) = all_cons s (asked_symbols-like to_head l)
  asked_symbols-like to_items (all_cons (target s) l) = all_cons s (asked_symbols-like to_items l)

  -- ---- why one is refused

  is_normal-like : {e f : Tree} → LikeTree K e f → is_normal e ≡ is_normal f
  is_normal-like (node h es) = refl
  is_normal-like _ = refl

  is_nested-like : {e f : Tree} → LikeTree K e f → is_nested names e ≡ is_nested names f
  is_nested-like (node (node h es) fs) = refl
  is_nested-like e = λ i. is_call-like K.Symbols names K.faithful Builtin.Part e i || is_call-like K.Symbols names K.faithful Builtin.List e i

  has_wrapping-like : {e f : Tree} → LikeTree K e f → has_wrapping names e ≡ has_wrapping names f
  has_wrapping-like (node h es) = is_wrapper-like h es
  has_wrapping-like _ = refl

  no_target : {ts us : List Target} → Targets ts us → ◌≡◌ {A = Bool} (elim ts [ [] ↦ true | _ ↦ false ]) (elim us [ [] ↦ true | _ ↦ false ])
  no_target all_nil = refl
  no_target (all_cons t l) = refl

  pub symbols_at-like : {e f : Tree} → LikeTree K e f → LikeSymbols K (symbols_at e) (symbols_at f)
  symbols_at-like e = item_symbols-like (items-like K.Symbols e) (add_symbol-like (symbol-like K.Symbols e) all_nil)

  no_symbol : {ss ts : List Sym} → LikeSymbols K ss ts → ◌≡◌ {A = Bool} (elim ss [ [] ↦ true | _ ↦ false ]) (elim ts [ [] ↦ true | _ ↦ false ])
  no_symbol all_nil = refl
  no_symbol (all_cons s l) = refl

  has_no_symbol-like : {a b : Form} {e f : Tree} → LikeForm a b → LikeTree K e f → has_no_symbol names a e ≡ has_no_symbol names b f
  has_no_symbol-like to_head e =
      branch (◌≡◌ {A = Bool}) (λ i. has_wrapping-like e i && not (is_normal-like (inner-like e) i)) refl (no_target (places-like to_head e))
  has_no_symbol-like to_items e =
      branch (◌≡◌ {A = Bool}) (λ i. has_wrapping-like e i && not (is_normal-like (inner-like e) i)) refl (no_target (places-like to_items e))
  has_no_symbol-like (to_tag s) e =
      branch (◌≡◌ {A = Bool}) (λ i. has_wrapping-like e i && not (is_normal-like (inner-like e) i)) refl (no_symbol (symbols_at-like (inner-like e)))

  -- what two tests tell of related symbols is the same
  abbrev pub SameTest : (Sym → Bool) → (Sym → Bool) → Type 0
  SameTest a b = (s t : Sym) → K.Symbols s t → a s ≡ b t

  first_protected-like : (a b : Sym → Bool) → SameTest a b → {ss ts : List Sym} → LikeSymbols K ss ts → Opt K.Symbols (first_protected a ss) (first_protected b ts)
  first_protected-like a b both all_nil = none
  first_protected-like a b both (all_cons s ss) = branch (Opt K.Symbols) (both _ _ s) (some s) (first_protected-like a b both ss)

  -- both refused, or none
  abbrev AnyCause : Why → Why → Type 0
  AnyCause a b = Unit {0}

  no_tag : {ts us : List Target} → Targets ts us → Opt AnyCause (elim ts [ [] ↦ Some NoTag | _ ↦ None ]) (elim us [ [] ↦ Some NoTag | _ ↦ None ])
  no_tag all_nil = some tt
  no_tag (all_cons t l) = none

  pub refusal-like : (a b : Sym → Bool) → SameTest a b → {c d : Form} {e f : Tree} → LikeForm c d → LikeTree K e f → Opt AnyCause (refusal names a c e) (refusal names b d f)
  refusal-like a b both form e =
      case (Opt AnyCause) (first_protected-like a b both (asked_symbols-like form (places-like form e)))
      (branch (Opt AnyCause) (has_no_symbol-like form e) (some tt) (branch (Opt AnyCause) (is_nested-like (inner-like e)) (some tt) (no_tag (places-like form e))))
      (λ s t one. some tt)

  -- ---- rules put in and taken out

  mutual
    occurrences-like : (test : Tree → Trees → Bool) → ((h g : Tree) (es fs : Trees) → LikeTree K h g → Likes K.Symbols es fs → test h es ≡ test g fs) → {e f : Tree} → LikeTree K e f
        → occurrences test e ≡ occurrences test f
    occurrences-like test same int = refl
    occurrences-like test same str = refl
    occurrences-like test same (sym s) = refl
    occurrences-like test same (node h es) = λ i. elim (same _ _ _ _ h es i) [ true ↦ 1 | false ↦ 0 ] + occurrences-like test same h i + occurrences_in-like test same es i

    occurrences_in-like : (test : Tree → Trees → Bool) → ((h g : Tree) (es fs : Trees) → LikeTree K h g → Likes K.Symbols es fs → test h es ≡ test g fs) → {es fs : Trees} → Likes K.Symbols es fs
        → occurrences_in test es ≡ occurrences_in test fs
    occurrences_in-like test same ends = refl
    occurrences_in-like test same (mores e es) = λ i. occurrences-like test same e i + occurrences_in-like test same es i

  untyped-like : {h g : Tree} {es fs : Trees} → LikeTree K h g → Likes K.Symbols es fs → is_untyped names h es ≡ is_untyped names g fs
  untyped-like h es = λ i. is_name-like K.Symbols names K.faithful Builtin.Blank h i && (count-like K.Symbols es i == 0)

  typed-like : {h g : Tree} {es fs : Trees} → LikeTree K h g → Likes K.Symbols es fs → is_typed names h es ≡ is_typed names g fs
  typed-like h es = λ i. is_name-like K.Symbols names K.faithful Builtin.Blank h i && (count-like K.Symbols es i == 1)

  runs : (row : Builtin) {e f : Tree} → LikeTree K e f → occurrences (is_run names row) e ≡ occurrences (is_run names row) f
  runs row e = occurrences-like (is_run names row) (λ h g es fs one all i. is_name-like K.Symbols names K.faithful row one i && leb (count-like K.Symbols all i) 1) e

  conditions : {e f : Tree} → LikeTree K e f → occurrences (is_guarded names) e ≡ occurrences (is_guarded names) f
  conditions e =
      occurrences-like (is_guarded names)
      (λ h g es fs one all i.
      (is_name-like K.Symbols names K.faithful Builtin.Condition one i || is_name-like K.Symbols names K.faithful Builtin.PatternTest one i) && (count-like K.Symbols all i == 2)) e

  key_of-like : {r q : Rule} → LikeRule K.Symbols r q → key_of names r ≡ key_of names q
  key_of-like one =
      λ i. runs Builtin.BlankNullSequence one.left i ∷ runs Builtin.BlankSequence one.left i ∷ occurrences-like (is_untyped names) (λ h g es fs a b. untyped-like a b) one.left i
      ∷ occurrences-like (is_typed names) (λ h g es fs a b. typed-like a b) one.left i ∷ (1000 - (conditions one.left i + length2 (condition_of-like K one.right) i)) ∷ []

  same_condition-like : {as' bs cs ds : List Tree} → LikeTrees K as' bs → LikeTrees K cs ds → same_condition as' cs ≡ same_condition bs ds
  same_condition-like all_nil all_nil = refl
  same_condition-like (all_cons a l) (all_cons c m) = same-like K.Symbols names K.faithful a c
  same_condition-like _ _ = refl

  replaces-like : {a b c d : Rule} → LikeRule K.Symbols a b → LikeRule K.Symbols c d → replaces names a c ≡ replaces names b d
  replaces-like one two =
      λ i. same-like K.Symbols names K.faithful one.left two.left i && same_condition-like (condition_of-like K one.right) (condition_of-like K two.right) i

  is_replaced-like : {a b : Rule} {rs qs : List Rule} → LikeRule K.Symbols a b → LikeRules K rs qs → is_replaced names a rs ≡ is_replaced names b qs
  is_replaced-like one all_nil = refl
  is_replaced-like one (all_cons r l) = branch (◌≡◌ {A = Bool}) (replaces-like one r) refl (is_replaced-like one l)

  replace_in-like : {a b : Rule} {rs qs : List Rule} → LikeRule K.Symbols a b → LikeRules K rs qs → LikeRules K (replace_in names a rs) (replace_in names b qs)
  replace_in-like one all_nil = all_nil
  replace_in-like one (all_cons r l) = branch (LikeRules K) (replaces-like one r) (all_cons one l) (all_cons r (replace_in-like one l))

  by_order : {o p : Ordering} {as' bs cs ds : List Rule} → o ≡ p → LikeRules K as' bs → LikeRules K cs ds → LikeRules K (elim o [ Greater ↦ as' | _ ↦ cs ]) (elim p [ Greater ↦ bs | _ ↦ ds ])
  by_order {o} {p} {as'} {bs} {cs} {ds} e one two = subst (λ p. LikeRules K (elim o [ Greater ↦ as' | _ ↦ cs ]) (elim p [ Greater ↦ bs | _ ↦ ds ])) e (go o)
    where
      go : (o : Ordering) → LikeRules K (elim o [ Greater ↦ as' | _ ↦ cs ]) (elim o [ Greater ↦ bs | _ ↦ ds ])
      go Less = two
      go Equal = two
      go Greater = one

  insert_in-like : {a b : Rule} {rs qs : List Rule} → LikeRule K.Symbols a b → LikeRules K rs qs → LikeRules K (insert_in names a rs) (insert_in names b qs)
  insert_in-like one all_nil = all_cons one all_nil
  insert_in-like one (all_cons r l) = by_order (λ i. text_cmp (key_of-like r i) (key_of-like one i)) (all_cons one (all_cons r l)) (all_cons r (insert_in-like one l))

  insert-like : {a b : Rule} {rs qs : List Rule} → LikeRule K.Symbols a b → LikeRules K rs qs → LikeRules K (insert names a rs) (insert names b qs)
  insert-like one l = branch (LikeRules K) (is_replaced-like one l) (replace_in-like one l) (insert_in-like one l)

  pub remove-like : {e f : Tree} {rs qs : List Rule} → LikeTree K e f → LikeRules K rs qs → LikeRules K (remove e rs) (remove f qs)
  remove-like e all_nil = all_nil
  remove-like e (all_cons r l) = branch (LikeRules K) (same-like K.Symbols names K.faithful r.left e) (remove-like e l) (all_cons r (remove-like e l))

  pub has_left-like : {e f : Tree} {rs qs : List Rule} → LikeTree K e f → LikeRules K rs qs → has_left e rs ≡ has_left f qs
  has_left-like e all_nil = refl
  has_left-like e (all_cons r l) = branch (◌≡◌ {A = Bool}) (same-like K.Symbols names K.faithful r.left e) refl (has_left-like e l)

  pub attached-like : (at : Place) {e f v x : Tree} {d c : Definition} → LikeTree K e f → LikeTree K v x → LikeDefined K d c → LikeDefined K (attached names at e v d) (attached names at f x c)
  attached-like Own e v d = record { attributes = d.attributes; own = some v; downs = d.downs; ups = d.ups }
  attached-like Down e v d = record { attributes = d.attributes; own = d.own; downs = insert-like (record { left = e; right = v }) d.downs; ups = d.ups }
  attached-like Up e v d = record { attributes = d.attributes; own = d.own; downs = d.downs; ups = insert-like (record { left = e; right = v }) d.ups }

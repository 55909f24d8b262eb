-- Definitions that are related symbol by symbol, and states. What is looked up in them is related, and what is put keeps them so.
use Rattle.std.proofs.Common.{◌≡◌, refl, ap, subst, ℕ, ◌≤◌, List, [], Option, Some, None, is_none}
use Rattle.std.specs.Prelude.{◌&&◌}
use Rattle.std.specs.declared.cmp.Ordering.{Ordering}
use Rattle.std.specs.declared.cmp.Ordering.TheVariants.{Less, Equal, Greater}
use Rattle.expr_tree.specs.declared.sym.Sym.{Sym}
use Rattle.expr_tree.specs.Tree.{Tree}
use Rattle.semantics.specs.Builtin.{first_attributes}
use Rattle.semantics.specs.Names.{Names}
use Rattle.semantics.specs.Definitions.{Definition, Definitions, Shared, Share, first_definition, is_empty, same_attributes, is_first, look_up, drop_entry, add_entry, shared_as, stored, definition_of, put}
use Rattle.semantics.specs.Program.{Local}
use Rattle.semantics.specs.Play.{State, seen, written, local_definition, put_locals, put_back}
use Rattle.laws_relations.proofs.Relate.{Opt, none, some, All, all_nil, all_cons, branch, case}
use Rattle.laws_relations.proofs.Relation.{Like, LikeDefinition, LikeLocal, Faithful, same_symbol-like}

module _ (S : Sym → Sym → Type 0) where
  pub record LikeShared (a b : Shared) : Type 0 where
    pub symbol : S a.symbol b.symbol
    pub kind : a.kind ≡ b.kind
    pub attributes : a.attributes ≡ b.attributes

  pub record LikeEntry (e f : Sym × Definition) : Type 0 where
    pub symbol : S e.0 f.0
    pub defined : LikeDefinition S e.1 f.1

  -- the module number aside
  pub record LikeDefinitions (d c : Definitions) : Type 0 where
    pub entries : All LikeEntry d.entries c.entries
    pub shared : All LikeShared d.shared c.shared
    pub named : All S d.named c.named

  -- related definitions and numbers, as many steps, within a limit, and the same `used`
  pub record LikeState (N : ℕ → ℕ → Type 0) (most : ℕ) (s t : State) : Type 0 where
    pub definitions : LikeDefinitions s.definitions t.definitions
    pub number : N s.definitions.module_number t.definitions.module_number
    pub steps : s.steps ≡ t.steps
    pub within : s.steps ≤ most
    pub used : s.used ≡ t.used

  is_none-like : {o p : Option Tree} → Opt (Like S) o p → is_none o ≡ is_none p
  is_none-like none = refl
  is_none-like (some v) = refl

  is_empty-like : {A : Type 0} {R : A → A → Type 0} {as' bs : List A} → All R as' bs → is_empty as' ≡ is_empty bs
  is_empty-like all_nil = refl
  is_empty-like (all_cons r l) = refl

  module _ (names : Names) (F : Faithful S names) where
    first-like : {s t : Sym} → S s t → (first_definition names s).attributes ≡ (first_definition names t).attributes
    first-like s = ap (λ o. elim o [ None ↦ [] | Some row ↦ first_attributes row ]) (F.roles _ _ s)

    first_definition-like : {s t : Sym} → S s t → LikeDefinition S (first_definition names s) (first_definition names t)
    first_definition-like s = record { attributes = first-like s; own = none; downs = all_nil; ups = all_nil }

    is_first-like : {s t : Sym} {d c : Definition} → S s t → LikeDefinition S d c → is_first names s d ≡ is_first names t c
    is_first-like s d =
        λ i. is_none-like d.own i && (is_empty-like d.downs i && (is_empty-like d.ups i && same_attributes (d.attributes i) (first-like s i)))

    look_up-like : {es fs : List (Sym × Definition)} {s t : Sym} → All LikeEntry es fs → S s t → Opt (LikeDefinition S) (look_up es s) (look_up fs t)
    look_up-like all_nil s = none
    look_up-like (all_cons e l) s = branch (Opt (LikeDefinition S)) (same_symbol-like S names F e.symbol s) (some e.defined) (look_up-like l s)

    drop_entry-like : {es fs : List (Sym × Definition)} {s t : Sym} → All LikeEntry es fs → S s t → All LikeEntry (drop_entry es s) (drop_entry fs t)
    drop_entry-like all_nil s = all_nil
    drop_entry-like (all_cons e l) s = branch (All LikeEntry) (same_symbol-like S names F e.symbol s) (drop_entry-like l s) (all_cons e (drop_entry-like l s))

    by_order : {o p : Ordering} {as' bs cs ds : List (Sym × Definition)} → o ≡ p → All LikeEntry as' bs → All LikeEntry cs ds
        → All LikeEntry (elim o [ Less ↦ as' | _ ↦ cs ]) (elim p [ Less ↦ bs | _ ↦ ds ])
    by_order {o} {p} {as'} {bs} {cs} {ds} e one two = subst (λ p. All LikeEntry (elim o [ Less ↦ as' | _ ↦ cs ]) (elim p [ Less ↦ bs | _ ↦ ds ])) e (go o)
      where
        go : (o : Ordering) → All LikeEntry (elim o [ Less ↦ as' | _ ↦ cs ]) (elim o [ Less ↦ bs | _ ↦ ds ])
        go Less = one
        go Equal = two
        go Greater = two

    add_entry-like : {es fs : List (Sym × Definition)} {s t : Sym} {d c : Definition} → All LikeEntry es fs → S s t → LikeDefinition S d c → All LikeEntry (add_entry es s d) (add_entry fs t c)
    add_entry-like all_nil s d = all_cons (record { symbol = s; defined = d }) all_nil
    add_entry-like (all_cons e l) s d =
        by_order (F.order _ _ _ _ s e.symbol) (all_cons (record { symbol = s; defined = d }) (all_cons e l)) (all_cons e (add_entry-like l s d))

    shared_as-like : {es fs : List Shared} {s t : Sym} → All LikeShared es fs → S s t → Opt LikeShared (shared_as es s) (shared_as fs t)
    shared_as-like all_nil s = none
    shared_as-like (all_cons e l) s = branch (Opt LikeShared) (same_symbol-like S names F e.symbol s) (some e) (shared_as-like l s)

    pub stored-like : {d c : Definitions} {s t : Sym} → LikeDefinitions d c → S s t → LikeDefinition S (stored names d s) (stored names c t)
    stored-like d s = case (LikeDefinition S) (look_up-like d.entries s) (first_definition-like s) (λ a b one. one)

    definition_of-like : {d c : Definitions} {s t : Sym} → LikeDefinitions d c → S s t → LikeDefinition S (definition_of names d s) (definition_of names c t)
    definition_of-like d s =
        case (LikeDefinition S) (shared_as-like d.shared s) (stored-like d s)
        (λ a b one. record { attributes = one.attributes; own = (stored-like d s).own; downs = (stored-like d s).downs; ups = (stored-like d s).ups })

    pub seen-like : {d c : Definitions} {s t : Sym} → LikeDefinitions d c → S s t
        → LikeDefinition S (seen names d s).definition (seen names c t).definition × ((seen names d s).shared ≡ (seen names c t).shared)
    seen-like d s = (definition_of-like d s, case (◌≡◌ {A = Option Share}) (shared_as-like d.shared s) refl (λ a b one. ap Some one.kind))

    put-like : {d c : Definitions} {s t : Sym} {a b : Definition} → LikeDefinitions d c → S s t → LikeDefinition S a b → LikeDefinitions (put names d s a) (put names c t b)
    put-like d s one =
        record {
          entries = branch (All LikeEntry) (is_first-like s one) (drop_entry-like d.entries s) (add_entry-like (drop_entry-like d.entries s) s one);
          shared = d.shared;
          named = d.named;
        }

    pub written-like : {d c : Definitions} {s t : Sym} {a b : Definition} → LikeDefinitions d c → S s t → LikeDefinition S a b → LikeDefinitions (written names d s a) (written names c t b)
    written-like d s one =
        put-like d s (case (LikeDefinition S) (shared_as-like d.shared s) one
        (λ e f both. record { attributes = (stored-like d s).attributes; own = one.own; downs = one.downs; ups = one.ups }))

    pub put_locals-like : {ls ms : List Local} {d c : Definitions} → All (LikeLocal S) ls ms → LikeDefinitions d c → LikeDefinitions (put_locals names ls d) (put_locals names ms c)
    put_locals-like all_nil d = d
    put_locals-like (all_cons {a = a} {b = b} l ls) d =
        put_locals-like ls (put-like {a = local_definition a} {b = local_definition b} d l.symbol (record { attributes = refl; own = l.value; downs = all_nil; ups = all_nil }))

    pub put_back-like : {ls ms : List Local} {old older d c : Definitions} → All (LikeLocal S) ls ms → LikeDefinitions old older → LikeDefinitions d c
        → LikeDefinitions (put_back names old ls d) (put_back names older ms c)
    put_back-like all_nil before d = d
    put_back-like (all_cons l ls) before d = put_back-like ls before (put-like d l.symbol (stored-like before l.symbol))

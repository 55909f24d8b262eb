-- Definitions that agree on a set of symbols, the definitions of shared symbols aside, and what reading and writing make of them.
use Rattle.std.proofs.Common.{◌≡◌, refl, sym, ap, subst, ◌∙◌, Bool, true, false, List, [], ◌∷◌, Option, Some, None, is_none, T, true≢false}
use Rattle.expr_tree.proofs.Same.{symbol_eq-Decides}
use Rattle.expr_tree.specs.declared.sym.Sym.{Sym}
use Rattle.expr_tree.specs.Order.{same_symbol}
use Rattle.semantics.specs.Definitions.{Definition, Definitions, Shared, shared_as, stored, put}
use Rattle.semantics.specs.Program.{Seen, Local}
use Rattle.semantics.specs.Play.{seen, written, local_definition, put_locals, put_back}
use Rattle.laws_language.proofs.Stored.{same_symbol-eq, stored_same, stored_other}
use Rattle.laws_closure.proofs.Inside.{Each}
use Rattle.laws_closure.proofs.Programs.{Origin, before, new, Realm, DefinedIn, SeenBoth, LocalIn, grows, same_world, later_defined}

module _ (R : Realm) (shared : List Shared) where
  open R use {names, World, Member, Table}

  abbrev pub Unshared : Sym → Type 0
  Unshared x = shared_as shared x ≡ None

  -- both have these shared symbols and one module number, and for the members that are not shared one definition, of members
  pub record Agree (w : World) (d c : Definitions) : Type 0 where
    pub first : d.shared ≡ shared
    pub second : c.shared ≡ shared
    pub number : d.module_number ≡ c.module_number
    pub same : (x : Sym) → Member w x → Unshared x → stored names d x ≡ stored names c x
    pub closed : (x : Sym) → Member w x → Unshared x → DefinedIn R w (stored names d x)

  -- what is stored for x after a definition was put for s
  stored_after : (d : Definitions) (s x : Sym) (D : Definition) → Origin ((same_symbol s x ≡ false) × (stored names (put names d s D) x ≡ stored names d x)) ((x ≡ s) × (stored names (put names d s D) x ≡ D))
  stored_after d s x D = go (same_symbol s x) refl
    where
      go : (b : Bool) → same_symbol s x ≡ b → Origin ((same_symbol s x ≡ false) × (stored names (put names d s D) x ≡ stored names d x)) ((x ≡ s) × (stored names (put names d s D) x ≡ D))
      go true e =
          new (sym (same_symbol-eq s x e), subst (λ y. stored names (put names d s D) y ≡ D) (same_symbol-eq s x e) (stored_same names d s D))
      go false e = before (e, stored_other names d s x D e)

  apart : (s x : Sym) → same_symbol s x ≡ false → ¬ (x ≡ s)
  apart s x e is = absurd (true≢false (sym ((symbol_eq-Decides s x).1 (sym is)) ∙ e))

  pub put_agree : (w u : World) → grows R w u → (s : Sym) → ((x : Sym) → Member u x → Origin (Member w x) (x ≡ s)) → (d c : Definitions) (D E : Definition) → Agree w d c
      → (Unshared s → (D ≡ E) × DefinedIn R w D) → Agree u (put names d s D) (put names c s E)
  put_agree w u g s only d c D E both one =
      record {
        first = both.first;
        second = both.second;
        number = both.number;
        same = λ x x_in free. same_here x free (only x x_in) (stored_after d s x D) (stored_after c s x E);
        closed = λ x x_in free. later_defined R w u g (stored names (put names d s D) x) (closed_here x free (only x x_in) (stored_after d s x D));
      }
    where
      same_here : (x : Sym) → Unshared x → Origin (Member w x) (x ≡ s)
          → Origin ((same_symbol s x ≡ false) × (stored names (put names d s D) x ≡ stored names d x)) ((x ≡ s) × (stored names (put names d s D) x ≡ D))
          → Origin ((same_symbol s x ≡ false) × (stored names (put names c s E) x ≡ stored names c x)) ((x ≡ s) × (stored names (put names c s E) x ≡ E))
          → stored names (put names d s D) x ≡ stored names (put names c s E) x
      same_here x free from (new a) (new b) = a.1 ∙ ((one (subst Unshared a.0 free)).0 ∙ sym b.1)
      same_here x free (before x_in) (before a) (before b) = a.1 ∙ (both.same x x_in free ∙ sym b.1)
      same_here x free (new is) (before a) (before b) = absurd (apart s x a.0 is)
      same_here x free from (new a) (before b) = absurd (apart s x b.0 a.0)
      same_here x free from (before a) (new b) = absurd (apart s x a.0 b.0)

      closed_here : (x : Sym) → Unshared x → Origin (Member w x) (x ≡ s)
          → Origin ((same_symbol s x ≡ false) × (stored names (put names d s D) x ≡ stored names d x)) ((x ≡ s) × (stored names (put names d s D) x ≡ D))
          → DefinedIn R w (stored names (put names d s D) x)
      closed_here x free from (new a) = subst (DefinedIn R w) (sym a.1) (one (subst Unshared a.0 free)).1
      closed_here x free (before x_in) (before a) = subst (DefinedIn R w) (sym a.1) (both.closed x x_in free)
      closed_here x free (new is) (before a) = absurd (apart s x a.0 is)

  -- what a program writes for a symbol that is not shared
  kept_attributes : Option Shared → Definition → Definition → Definition
  kept_attributes o D old = elim o [ None ↦ D | Some e ↦ record D { attributes = old.attributes } ]

  plain : (o : Option Shared) (D old : Definition) → o ≡ None → kept_attributes o D old ≡ D
  unfolding kept_attributes
  plain o D old e = ap (λ p. kept_attributes p D old) e

  pub written_agree : (w u : World) → grows R w u → (s : Sym) → ((x : Sym) → Member u x → Origin (Member w x) (x ≡ s)) → (d c : Definitions) (D E : Definition) → Agree w d c
      → (Unshared s → (D ≡ E) × DefinedIn R w D) → Agree u (written names d s D) (written names c s E)
  unfolding kept_attributes
  written_agree w u g s only d c D E both one =
      put_agree w u g s only d c (kept_attributes (shared_as d.shared s) D (stored names d s)) (kept_attributes (shared_as c.shared s) E (stored names c s)) both
      (λ free. let d_plain = plain (shared_as d.shared s) D (stored names d s) (ap (λ l. shared_as l s) both.first ∙ free) in
      let c_plain = plain (shared_as c.shared s) E (stored names c s) (ap (λ l. shared_as l s) both.second ∙ free) in
      (d_plain ∙ ((one free).0 ∙ sym c_plain), subst (DefinedIn R w) (sym d_plain) (one free).1))

  -- ---- what is outside a set stays

  abbrev pub Outside : Definitions → World → Definitions → Type 0
  Outside old w d = (x : Sym) → Origin (Member w x) (stored names d x ≡ stored names old x)

  pub outside_put : (old : Definitions) (w u : World) → grows R w u → (s : Sym) → Member u s → (d : Definitions) (D : Definition) → Outside old w d → Outside old u (put names d s D)
  outside_put old w u g s s_in d D out x = go (stored_after d s x D) (out x)
    where
      go : Origin ((same_symbol s x ≡ false) × (stored names (put names d s D) x ≡ stored names d x)) ((x ≡ s) × (stored names (put names d s D) x ≡ D))
          → Origin (Member w x) (stored names d x ≡ stored names old x) → Origin (Member u x) (stored names (put names d s D) x ≡ stored names old x)
      go (new a) o = before (subst (Member u) (sym a.0) s_in)
      go (before a) (before m) = before (g x m)
      go (before a) (new e) = new (a.1 ∙ e)

  pub outside_written : (old : Definitions) (w u : World) → grows R w u → (s : Sym) → Member u s → (d : Definitions) (D : Definition) → Outside old w d → Outside old u (written names d s D)
  unfolding kept_attributes
  outside_written old w u g s s_in d D out = outside_put old w u g s s_in d (kept_attributes (shared_as d.shared s) D (stored names d s)) out

  pub outside_locals : (old : Definitions) (w : World) (ls : List Local) (d : Definitions) → Each (LocalIn R w) ls → Outside old w d → Outside old w (put_locals names ls d)
  outside_locals old w [] d all out = out
  outside_locals old w (l ∷ ls) d all out =
      outside_locals old w ls (put names d l.symbol (local_definition l)) all.1 (outside_put old w w (same_world R w) l.symbol all.0.0 d (local_definition l) out)

  pub outside_back : (old : Definitions) (w u : World) → grows R w u → (kept : Definitions) (ls : List Local) (d : Definitions) → Each (LocalIn R w) ls → Outside old u d → Outside old u (put_back names kept ls d)
  outside_back old w u g kept [] d all out = out
  outside_back old w u g kept (l ∷ ls) d all out =
      outside_back old w u g kept ls (put names d l.symbol (stored names kept l.symbol)) all.1
      (outside_put old u u (same_world R u) l.symbol (g l.symbol all.0.0) d (stored names kept l.symbol) out)

  -- locals keep the module number
  pub locals_number : (ls : List Local) (d : Definitions) → (put_locals names ls d).module_number ≡ d.module_number
  locals_number [] d = refl
  locals_number (l ∷ ls) d = locals_number ls (put names d l.symbol (local_definition l))

  pub back_number : (kept : Definitions) (ls : List Local) (d : Definitions) → (put_back names kept ls d).module_number ≡ d.module_number
  back_number kept [] d = refl
  back_number kept (l ∷ ls) d = back_number kept ls (put names d l.symbol (stored names kept l.symbol))

  -- ---- what is seen

  abbrev looked : Option Shared → Definition → Seen
  looked o D =
      record {
        definition = elim o [ None ↦ D | Some e ↦ record D { attributes = e.attributes } ];
        shared = elim o [ None ↦ None | Some e ↦ Some e.kind ];
      }

  some_none : {A : Type 0} {a : A} → ◌≡◌ {A = Option A} (Some a) None → ⊥
  some_none e = subst (λ o. T (is_none o)) (sym e) tt

  looked_both : (w : World) (o : Option Shared) (D E : Definition) → (o ≡ None → (D ≡ E) × DefinedIn R w D) → SeenBoth R w (looked o D) (looked o E)
  looked_both w None D E one =
      record { shared = refl; attributes = ap (λ x. x.attributes) (one refl).0; same = λ _. (one refl).0; defined = λ _. (one refl).1 }
  looked_both w (Some e) D E one = record { shared = refl; attributes = refl; same = λ is. absurd (some_none is); defined = λ is. absurd (some_none is) }

  pub seen_both : (w : World) (d c : Definitions) (s : Sym) → Agree w d c → Member w s → SeenBoth R w (seen names d s) (seen names c s)
  seen_both w d c s both s_in =
      subst (λ l. SeenBoth R w (looked (shared_as l s) (stored names d s)) (looked (shared_as c.shared s) (stored names c s))) (sym both.first)
      (subst (λ l. SeenBoth R w (looked (shared_as shared s) (stored names d s)) (looked (shared_as l s) (stored names c s))) (sym both.second)
      (looked_both w (shared_as shared s) (stored names d s) (stored names c s) (λ free. (both.same s s_in free, both.closed s s_in free))))

  -- what is not shared is seen so
  pub none_seen : (w : World) (d c : Definitions) (s : Sym) → Agree w d c → Unshared s → (seen names d s).shared ≡ None
  none_seen w d c s both free =
      ap (λ l. elim (shared_as l s) [ None ↦ None | Some e ↦ Some e.kind ]) both.first ∙ ap (λ o. elim o [ None ↦ None | Some e ↦ Some e.kind ]) free

  -- ---- locals

  pub stays_in : (w : World) (s : Sym) (x : Sym) → Member w x → Origin (Member w x) (x ≡ s)
  stays_in w s x x_in = before x_in

  pub locals_agree : (w : World) (ls : List Local) (d c : Definitions) → Agree w d c → Each (LocalIn R w) ls → Agree w (put_locals names ls d) (put_locals names ls c)
  locals_agree w [] d c both all = both
  locals_agree w (l ∷ ls) d c both all =
      locals_agree w ls _ _ (put_agree w w (same_world R w) l.symbol (stays_in w l.symbol) d c (local_definition l) (local_definition l) both
      (λ free. (refl, record { own = all.0.1; downs = tt; ups = tt }))) all.1

  pub backs_agree : (w u : World) → grows R w u → (old old' : Definitions) → Agree w old old' → (ls : List Local) (d c : Definitions) → Agree u d c → Each (LocalIn R w) ls
      → Agree u (put_back names old ls d) (put_back names old' ls c)
  backs_agree w u g old old' olds [] d c both all = both
  backs_agree w u g old old' olds (l ∷ ls) d c both all =
      backs_agree w u g old old' olds ls _ _ (put_agree u u (same_world R u) l.symbol (stays_in u l.symbol) d c (stored names old l.symbol) (stored names old' l.symbol) both
      (λ free. (olds.same l.symbol all.0.0 free, later_defined R w u g (stored names old l.symbol) (olds.closed l.symbol all.0.0 free)))) all.1

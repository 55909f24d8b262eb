-- An assignment as a program, from what its parts tell.
use Rattle.std.proofs.Common.{◌≡◌, ◌∙◌, sym, ap, Bool, true, false, List, Option, Some, None}
use Rattle.std.specs.Prelude.{◌||◌}
use Rattle.expr_tree.specs.declared.sym.Sym.{Sym}
use Rattle.expr_tree.specs.Tree.{Tree}
use Rattle.semantics.specs.Names.{Names}
use Rattle.semantics.specs.Assign.{Form, Target, Why, places, refusal, asked_symbols}
use Rattle.semantics.specs.Changes.{assign, attach_all, attaches_shared, unless_item, protected_in as protected_among}
use Rattle.semantics.specs.Control.{failed}
use Rattle.semantics.specs.Definitions.{Definitions}
use Rattle.semantics.specs.Program.{Prog, Seen}
use Rattle.semantics.specs.Play.{Setting, run}
use Rattle.machine_steps.specs.Steps.{state_at}
use Rattle.kernel_defs.specs.Assigned.{protected_in, attached_all}
use Rattle.kernel_defs.proofs.Runs.{seen_all, see_all_runs, attach_all_runs, refusal_seen}
use Rattle.machine_changes.specs.Effects.{Assigned, is_refused}
use Rattle.machine_changes.proofs.Going.{Leads, passes_item, fails_item}

-- what is attached, or not
abbrev by_cause : Names → Form → Tree → Tree → Prog → Option Why → Prog
by_cause names form left right p why = elim why [ None ↦ attach_all names (places names form left) left right p | Some why ↦ failed names ]

-- what follows, once it is known what is shared and protected
abbrev seen_on : Names → Form → Tree → Tree → Prog → List (Sym × Seen) → Prog
seen_on names form left right p seen =
    unless_item names (attaches_shared (places names form left) seen) (by_cause names form left right p (refusal names (protected_among seen) form left))

abbrev seen_of : Names → Definitions → Form → Tree → List (Sym × Seen)
seen_of names d form left = seen_all names d (asked_symbols form (places names form left))

pub shared_is : (names : Names) (form : Form) (left : Tree) (d : Definitions) (ts : List Target) (ss : List Sym) (b : Bool) → ts ≡ places names form left → ss ≡ asked_symbols form ts
    → b ≡ attaches_shared ts (seen_all names d ss) → b ≡ attaches_shared (places names form left) (seen_of names d form left)
shared_is names form left d ts ss b t s e =
    e
    ∙ ap (λ xs. attaches_shared ts (seen_all names d xs)) s
    ∙ ap (λ xs. attaches_shared xs (seen_all names d (asked_symbols form xs))) t

pub refuses_item : (set : Setting) (form : Form) (left right : Tree) {d : Definitions} {used used' : Bool} (b : Bool) → b ≡ attaches_shared (places set.names form left) (seen_of set.names d form left)
    → is_refused set.mode b ≡ true → used' ≡ (b || used) → Assigned set form left right d used false d used'
refuses_item set form left right {d = d} {used = used} b e r u =
    record {
      by = λ p ev steps o.
          see_all_runs set ev (asked_symbols form (places set.names form left)) (seen_on set.names form left right p) (state_at d used steps o)
          ∙ ap (λ c. run set ev (unless_item set.names c (by_cause set.names form left right p (refusal set.names (protected_among (seen_of set.names d form left)) form left))) (state_at d used steps o)) (sym e)
          ∙ (fails_item set b (by_cause set.names form left right p (refusal set.names (protected_among (seen_of set.names d form left)) form left)) {d = d} {used = used} r).by ev steps o
          ∙ ap (λ v. run set ev (failed set.names) (state_at d v steps o)) (sym u);
    }

pub passes_on : (set : Setting) (form : Form) (left right : Tree) (p : Prog) (why : Option Why) {d : Definitions} {used used' : Bool} (b : Bool) → b ≡ attaches_shared (places set.names form left) (seen_of set.names d form left)
    → is_refused set.mode b ≡ false → used' ≡ (b || used) → refusal set.names (protected_in set.names d) form left ≡ why
    → Leads set (assign set.names form left right p) d used (by_cause set.names form left right p why) d used'
passes_on set form left right p why {d = d} {used = used} {used' = used'} b e r u w =
    record {
      by = λ ev steps o.
          see_all_runs set ev (asked_symbols form (places set.names form left)) (seen_on set.names form left right p) (state_at d used steps o)
          ∙ ap (λ c. run set ev (unless_item set.names c (by_cause set.names form left right p (refusal set.names (protected_among (seen_of set.names d form left)) form left))) (state_at d used steps o)) (sym e)
          ∙ (passes_item set b (by_cause set.names form left right p (refusal set.names (protected_among (seen_of set.names d form left)) form left)) {d = d} {used = used} r).by ev steps o
          ∙ ap (λ v. run set ev (by_cause set.names form left right p (refusal set.names (protected_among (seen_of set.names d form left)) form left)) (state_at d v steps o)) (sym u)
          ∙ ap (λ x. run set ev (by_cause set.names form left right p x) (state_at d used' steps o)) (refusal_seen set.names d form left ∙ w);
    }

pub refuses : (set : Setting) (form : Form) (left right : Tree) (why : Why) {d d' : Definitions} {used used' : Bool} (b : Bool) → b ≡ attaches_shared (places set.names form left) (seen_of set.names d form left)
    → is_refused set.mode b ≡ false → used' ≡ (b || used) → refusal set.names (protected_in set.names d) form left ≡ Some why → d' ≡ d → Assigned set form left right d used false d' used'
refuses set form left right why {used' = used'} b e r u w f =
    record { by = λ p ev steps o. (passes_on set form left right p (Some why) b e r u w).by ev steps o ∙ ap (λ x. run set ev (failed set.names) (state_at x used' steps o)) (sym f) }

pub attaches : (set : Setting) (form : Form) (left right : Tree) {d d' : Definitions} {used used' : Bool} (b : Bool) → b ≡ attaches_shared (places set.names form left) (seen_of set.names d form left)
    → is_refused set.mode b ≡ false → used' ≡ (b || used) → refusal set.names (protected_in set.names d) form left ≡ None
    → d' ≡ attached_all set.names (places set.names form left) left right d → Assigned set form left right d used true d' used'
attaches set form left right {d = d} {used' = used'} b e r u w f =
    record {
      by = λ p ev steps o.
          (passes_on set form left right p None b e r u w).by ev steps o
          ∙ attach_all_runs set ev (places set.names form left) left right p (state_at d used' steps o)
          ∙ ap (λ x. run set ev p (state_at x used' steps o)) (sym f);
    }

-- One entry more keeps the book the replay of what was posted.
use Rattle.std.proofs.Common.{◌≡◌, refl, sym, ap, subst, ◌∙◌, ℕ, zero, suc, ◌+◌, ◌≤◌, List, [], ◌∷◌, ◌++◌, length, Bool, true, false, true≢false, Option, Some, None, arith, eq-eqb}
use Rattle.std.specs.Prelude.{◌&&◌, ◌||◌, not, ◌==◌}
use Rattle.expr_tree.specs.declared.sym.Sym.{Sym}
use Rattle.expr_tree.specs.Tree.{Tree}
use Rattle.semantics.specs.Definitions.{Definitions, empty, is_empty}
use Rattle.semantics.specs.Names.{known}
use Rattle.semantics.specs.declared.builtin.Builtin.{Builtin}
use Rattle.journal.specs.Places.{nth, change_at, is_some}
use Rattle.journal.specs.Closure.{Bundle}
use Rattle.journal.specs.declared.event.Event.{Event}
use Rattle.journal.specs.declared.event.Event.TheVariants as event
use Rattle.journal.specs.declared.event.Wait.{Wait}
use Rattle.journal.specs.declared.item.Item.{Item}
use Rattle.journal.specs.declared.loss.Loss.{Loss}
use Rattle.journal.specs.declared.item.Status.{Status}
use Rattle.journal.specs.declared.item.Status.TheVariants.{Waiting, Running, Done, Dropped}
use Rattle.journal.specs.Entry.{Text, Handed, Posted, Nothing, Given, Lent}
use Rattle.journal.specs.Core.{Setup, Core, Kernel, Queued, new_kernel, start, status_of, attempt_of, has_attempt, in_evaluation, count, holds_nothing, all_free, no_wait, lives, is_waiting, may_go, first_for, is_id, may_take, may_post, may_submit, may_yield, runs, condition_holds, permitted, allowed, definitions_after, wait_after, kernel_after, is_close, effect, replay, replay_from}
use Rattle.journal.specs.Members.{Opening, setup_of}
use Rattle.laws_journal.specs.Views.{DoersAgree}
use Rattle.name_table.specs.Table.{NameTable}
use Rattle.semantics.specs.Texts.{names_of}
use Rattle.builtin_names.specs.Named.{names_in}
use Rattle.master_core.specs.Posting.{posting, Makes}
use Rattle.master_core.proofs.Joins.{replicate_len}
use Rattle.master_core.specs.declared.losing.Terms.{Terms}
use Rattle.master_core.specs.Losing.{IsOn}
use Rattle.master_core.specs.Book.{Contents, IsBook, IsEntered, is_shut, first_take}

-- ---- truth values

both : (a b : Bool) → (a && b) ≡ true → (a ≡ true) × (b ≡ true)
both true b e = (refl, e)
both false b e = absurd (true≢false (sym e))

all2 : (a b : Bool) → a ≡ true → b ≡ true → (a && b) ≡ true
all2 true b p q = q
all2 false b p q = absurd (true≢false (sym p))

all3 : (a b c : Bool) → a ≡ true → b ≡ true → c ≡ true → (a && b && c) ≡ true
all3 true true c p q r = r
all3 true false c p q r = absurd (true≢false (sym q))
all3 false b c p q r = absurd (true≢false (sym p))

all4 : (a b c d : Bool) → a ≡ true → b ≡ true → c ≡ true → d ≡ true → (a && b && c && d) ≡ true
all4 true true true d p q r s = s
all4 true true false d p q r s = absurd (true≢false (sym r))
all4 true false c d p q r s = absurd (true≢false (sym q))
all4 false b c d p q r s = absurd (true≢false (sym p))

or_left : (a b : Bool) → a ≡ true → (a || b) ≡ true
or_left true b e = refl
or_left false b e = absurd (true≢false (sym e))

or_right : (a b : Bool) → b ≡ true → (a || b) ≡ true
or_right true b e = refl
or_right false b e = e

not_or : (a b : Bool) → (a || b) ≡ false → a ≡ false
not_or true b e = absurd (true≢false e)
not_or false b e = refl

-- ---- what may be posted

allow : (set : Setup) (c : Core) (k : ℕ) (e : Event) (h : Handed) → c.closed ≡ false → ((k == 0) || may_post c) ≡ true → permitted set c h k e ≡ true → allowed set c (posting k e h) ≡ true
allow set c k e h unclosed turn is = all3 (not c.closed) ((k == 0) || may_post c) (permitted set c h k e) (ap not unclosed) turn is

pub submit_may : (set : Setup) (c : Core) (id : ℕ) (item : Item) (b : Bundle) → c.closed ≡ false → no_wait c ≡ true → id ≡ suc (length c.items) → may_submit c (Given item b) ≡ true
    → allowed set c (posting 0 (event.Submit id) (Given item b)) ≡ true
submit_may set c id item b unclosed free is may = allow set c 0 (event.Submit id) (Given item b) unclosed refl (all4 (0 == 0) (no_wait c) (id == suc (length c.items)) (may_submit c (Given item b)) refl free (eq-eqb id (suc (length c.items)) is) may)

pub yield_may : (set : Setup) (c : Core) (w : Wait) (d : Definitions) → c.closed ≡ false → no_wait c ≡ true → may_yield c w ≡ true → allowed set c (posting 0 (event.Yield w) (Lent d)) ≡ true
yield_may set c w d unclosed free may = allow set c 0 (event.Yield w) (Lent d) unclosed refl (all4 (0 == 0) (no_wait c) (may_yield c w) true refl free may refl)

pub close_may : (set : Setup) (c : Core) → c.closed ≡ false → no_wait c ≡ true → allowed set c (posting 0 event.Close Nothing) ≡ true
close_may set c unclosed free = allow set c 0 event.Close Nothing unclosed refl (all2 (0 == 0) (no_wait c) refl free)

pub resume_may : (set : Setup) (c : Core) → c.closed ≡ false → condition_holds set.names c ≡ true → attempt_of c 0 ≡ None → allowed set c (posting 0 event.Resume Nothing) ≡ true
resume_may set c unclosed holds idle = allow set c 0 event.Resume Nothing unclosed refl (all3 (0 == 0) (condition_holds set.names c) (not (has_attempt c 0)) refl holds (ap (λ (o : Option ℕ). not (is_some o)) idle))

pub open_not_shut : (c : Core) (k : ℕ) → is_shut c k ≡ false → c.closed ≡ false
open_not_shut c k e = not_or c.closed (not (k == 0) && not (lives c k)) e

taken_is : (b : Bool) (o : Option ℕ) (id : ℕ) → elim b as (λ _. Option ℕ) [ true ↦ o | false ↦ None ] ≡ Some id → (b ≡ true) × (o ≡ Some id)
taken_is true o id e = (refl, e)
taken_is false o id e = let no : None ≡ Some id = e in cc

pub first_is : (set : Setup) (c : Core) (k id : ℕ) → first_take set c k ≡ Some id → first_for 1 c.items k ≡ Some id
first_is set c k id e = (taken_is (is_some c.wait && may_take set c k) (first_for 1 c.items k) id e).1

pub take_may : (set : Setup) (c : Core) (k id : ℕ) → is_shut c k ≡ false → attempt_of c k ≡ None → first_take set c k ≡ Some id → allowed set c (posting k (event.Take id) Nothing) ≡ true
take_may set c k id unshut idle first =
    let parts = taken_is (is_some c.wait && may_take set c k) (first_for 1 c.items k) id first in
    let fit = both (is_some c.wait) (may_take set c k) parts.0 in
    allow set c k (event.Take id) Nothing (open_not_shut c k unshut) (or_right (k == 0) (may_post c) (or_left (is_some c.wait) (not c.begun) fit.0))
    (all4 (is_some c.wait) (not (has_attempt c k)) (may_take set c k) (is_id id (first_for 1 c.items k)) fit.0 (ap (λ (o : Option ℕ). not (is_some o)) idle) fit.1 (ap (is_id id) parts.1 ∙ eq-eqb id id refl))

pub deliver_may : (set : Setup) (c : Core) (k id : ℕ) (v : Tree) → is_shut c k ≡ false → may_post c ≡ true → runs c k id ≡ true → holds_nothing c k ≡ true
    → allowed set c (posting k (event.Deliver id v) Nothing) ≡ true
deliver_may set c k id v unshut turn run outside =
    allow set c k (event.Deliver id v) Nothing (open_not_shut c k unshut) (or_right (k == 0) (may_post c) turn) (all2 (runs c k id) (holds_nothing c k) run outside)

-- ---- the least waiting item waits

pub waits_is : (s : Status) → is_waiting s ≡ true → s ≡ Waiting
waits_is Waiting e = refl
waits_is (Running k) e = absurd (true≢false (sym e))
waits_is (Done v) e = absurd (true≢false (sym e))
waits_is Dropped e = absurd (true≢false (sym e))

at_least : (n : ℕ) (qs : List Queued) (k id : ℕ) → first_for n qs k ≡ Some id → n ≤ id
at_least n [] k id e = let no : None ≡ Some id = e in cc
at_least n (q ∷ qs) k id e = go (is_waiting q.status && may_go q.item k) e (at_least (suc n) qs k id)
  where
    go : (b : Bool) → elim b as (λ _. Option ℕ) [ true ↦ Some n | false ↦ first_for (suc n) qs k ] ≡ Some id → (first_for (suc n) qs k ≡ Some id → suc n ≤ id) → n ≤ id
    go true e next = let same : n ≡ id = cc in omega (arith, same)
    go false e next = let far = next e in omega (arith, far)

first_from : (n : ℕ) (qs : List Queued) (k id p : ℕ) → first_for n qs k ≡ Some id → id ≡ n + p → elim (nth qs p) as (λ _. Option Status) [ None ↦ None | Some q ↦ Some q.status ] ≡ Some Waiting
first_from n [] k id p e is = let no : None ≡ Some id = e in cc
first_from n (q ∷ qs) k id zero e is = go (is_waiting q.status && may_go q.item k) refl e
  where
    go : (b : Bool) → (is_waiting q.status && may_go q.item k) ≡ b → elim b as (λ _. Option ℕ) [ true ↦ Some n | false ↦ first_for (suc n) qs k ] ≡ Some id → ◌≡◌ {A = Option Status} (Some q.status) (Some Waiting)
    go true w e = ap Some (waits_is q.status (both (is_waiting q.status) (may_go q.item k) w).0)
    go false w e = let far = at_least (suc n) qs k id e in absurd (omega (arith, far, is))
first_from n (q ∷ qs) k id (suc p) e is = go (is_waiting q.status && may_go q.item k) e (λ f. first_from (suc n) qs k id p f (omega (arith, is)))
  where
    go : (b : Bool) → elim b as (λ _. Option ℕ) [ true ↦ Some n | false ↦ first_for (suc n) qs k ] ≡ Some id
        → (first_for (suc n) qs k ≡ Some id → elim (nth qs p) as (λ _. Option Status) [ None ↦ None | Some x ↦ Some x.status ] ≡ Some Waiting)
        → elim (nth qs p) as (λ _. Option Status) [ None ↦ None | Some x ↦ Some x.status ] ≡ Some Waiting
    go true e next = let same : n ≡ id = cc in absurd (omega (arith, same, is))
    go false e next = next e

pub first_waits : (c : Core) (k id : ℕ) → first_for 1 c.items k ≡ Some id → status_of c id ≡ Some Waiting
first_waits c k zero e = let far = at_least 1 c.items k zero e in absurd (omega (arith, far))
first_waits c k (suc n) e = at_core (nth c.items n) (first_from 1 c.items k (suc n) n e (omega arith))
  where
    at_core : (o : Option Queued) → elim o as (λ _. Option Status) [ None ↦ None | Some q ↦ Some q.status ] ≡ Some Waiting → elim o as (λ _. Option Status) [ None ↦ None | Some q ↦ Some q.status ] ≡ Some Waiting
    at_core o h = h

pub may_take_is : (set : Setup) (c : Core) (k : ℕ) → (k ≡ 0 → ⊥) → lives c k ≡ may_take set c k
may_take_is set c zero ne = absurd (ne refl)
may_take_is set c (suc k) ne = refl

-- ---- one entry more

more_from : (set : Setup) (c z : Core) (ps : List Posted) (p : Posted) → replay_from set c ps ≡ Some z → allowed set z p ≡ true → replay_from set c (ps ++ p ∷ []) ≡ Some (effect set z p)
more_from set c z [] p r may =
    let same : c ≡ z = cc in
    ap (λ b. elim b as (λ _. Option Core) [ true ↦ Some (effect set c p) | false ↦ None ]) (ap (λ x. allowed set x p) same ∙ may) ∙ ap (λ x. Some (effect set x p)) same
more_from set c z (q ∷ qs) p r may = go (allowed set c q) r (λ s. more_from set (effect set c q) z qs p s may)
  where
    go : (b : Bool) → elim b as (λ _. Option Core) [ true ↦ replay_from set (effect set c q) qs | false ↦ None ] ≡ Some z
        → (replay_from set (effect set c q) qs ≡ Some z → replay_from set (effect set c q) (qs ++ p ∷ []) ≡ Some (effect set z p))
        → elim b as (λ _. Option Core) [ true ↦ replay_from set (effect set c q) (qs ++ p ∷ []) | false ↦ None ] ≡ Some (effect set z p)
    go true r next = next r
    go false r next = let no : None ≡ Some z = r in cc

change_len : {A : Type 0} (k : ℕ) (f : A → A) (xs : List A) → length (change_at k f xs) ≡ length xs
change_len k f [] = refl
change_len zero f (x ∷ xs) = refl
change_len (suc k) f (x ∷ xs) = ap suc (change_len k f xs)

pub keeps : (o : Opening) (ps qs : List Posted) (c d : Core) (defs : Definitions) (f : Terms) (p : Posted)
    → IsBook o ps c defs f → allowed (setup_of o) c p ≡ true → Makes p c d → qs ≡ ps ++ p ∷ []
    → (is_some d.wait ≡ true → d.definitions ≡ defs) → (is_some d.wait ≡ true → d.closed ≡ false) → IsBook o qs d defs f
keeps o ps qs c d defs f p is may makes e lent unclosed = record {
  replayed = ap (replay (setup_of o)) e ∙ more_from (setup_of o) (start (setup_of o)) c ps p is.replayed may ∙ ap Some (sym (makes.by (setup_of o)));
  lent = lent;
  unclosed = unclosed;
  kernels = ap (λ x. length x.kernels) (makes.by (setup_of o)) ∙ change_len p.entry.kernel (kernel_after p.entry.event) c.kernels ∙ is.kernels;
  named = is.named;
  listed = is.listed;
}

-- where the definitions stay and no wait begins
pub keeps_on : (o : Opening) (ps qs : List Posted) (c d : Core) (defs : Definitions) (f : Terms) (p : Posted)
    → IsBook o ps c defs f → allowed (setup_of o) c p ≡ true → Makes p c d → qs ≡ ps ++ p ∷ []
    → definitions_after (setup_of o) c p.handed p.entry.event ≡ c.definitions → (is_some (wait_after c.wait p.entry.event) ≡ true → is_some c.wait ≡ true) → is_close p.entry.event ≡ false → IsBook o qs d defs f
keeps_on o ps qs c d defs f p is may makes e stay waits open_still =
    keeps o ps qs c d defs f p is may makes e
    (λ w. ap (λ x. x.definitions) (makes.by (setup_of o)) ∙ stay ∙ is.lent (waits (sym (ap (λ x. is_some x.wait) (makes.by (setup_of o))) ∙ w)))
    (λ w. ap (λ x. x.closed) (makes.by (setup_of o)) ∙ open_still)

not_some : (b : Bool) → not b ≡ true → b ≡ true → ⊥
not_some true n e = true≢false (sym n)
not_some false n e = true≢false (sym e)

pub keeps_close : (o : Opening) (ps qs : List Posted) (c d : Core) (defs : Definitions) (f : Terms)
    → IsBook o ps c defs f → c.closed ≡ false → no_wait c ≡ true → Makes (posting 0 event.Close Nothing) c d → qs ≡ ps ++ posting 0 event.Close Nothing ∷ [] → IsBook o qs d defs f
keeps_close o ps qs c d defs f is unclosed free makes e =
    let none : is_some d.wait ≡ true → ⊥ = λ w. not_some (is_some c.wait) free (sym (ap (λ x. is_some x.wait) (makes.by (setup_of o))) ∙ w) in
    keeps o ps qs c d defs f (posting 0 event.Close Nothing) is (close_may (setup_of o) c unclosed free) makes e (λ w. absurd (none w)) (λ w. absurd (none w))

pub keeps_yield : (o : Opening) (ps qs : List Posted) (c d : Core) (defs : Definitions) (f : Terms) (w : Wait)
    → IsBook o ps c defs f → c.closed ≡ false → no_wait c ≡ true → may_yield c w ≡ true → Makes (posting 0 (event.Yield w) (Lent defs)) c d
    → qs ≡ ps ++ posting 0 (event.Yield w) (Lent defs) ∷ [] → IsBook o qs d defs f
keeps_yield o ps qs c d defs f w is unclosed free may makes e =
    keeps o ps qs c d defs f (posting 0 (event.Yield w) (Lent defs)) is (yield_may (setup_of o) c w defs unclosed free may) makes e
    (λ s. ap (λ x. x.definitions) (makes.by (setup_of o))) (λ s. ap (λ x. x.closed) (makes.by (setup_of o)))

pub entered : (a b : Contents) (p : Posted) → allowed (setup_of a.opening) a.core p ≡ true → Makes p a.core b.core → b.posted ≡ a.posted ++ p ∷ [] → b.opening ≡ a.opening
    → b.definitions ≡ a.definitions → b.starved ≡ a.starved → IsEntered p a b
entered a b p may makes ps o ds s = record {
  may = may;
  entered = λ i. record { opening = o i; posted = ps i; core = makes.by (setup_of a.opening) i; definitions = ds i; starved = s i };
}

pub entered_viewed : {p : Posted} {a b new : Contents} → a ≡ b → IsEntered p a new → IsEntered p b new
entered_viewed {p} {a} {b} {new} e m = subst (λ x. IsEntered p x new) e m

pub first_book : (o : Opening) (ps : List Posted) (c : Core) (d : Definitions) (f : Terms)
    → ps ≡ [] → ((set : Setup) → set.kernels ≡ o.kernels → c ≡ start set) → known (setup_of o).names Builtin.Failed ≡ f.failed → known (setup_of o).names Builtin.List ≡ f.list → IsBook o ps c d f
first_book o ps c d f e starts named listed =
    let at = starts (setup_of o) refl in
    let none : is_some c.wait ≡ true → ⊥ = λ w. true≢false (sym w ∙ ap (λ x. is_some x.wait) at) in
    record {
      replayed = ap (replay (setup_of o)) e ∙ ap Some (sym at);
      lent = λ w. absurd (none w);
      unclosed = λ w. absurd (none w);
      kernels = ap (λ x. length x.kernels) at ∙ ap suc (replicate_len o.kernels (new_kernel true));
      named = named;
      listed = listed;
    }

pub named_at : (row : Builtin) (table t : NameTable) (s : Sym) → t ≡ table → s ≡ known (names_in table) row → known (names_of t.texts) row ≡ s
unfolding names_in
named_at row table t s e is = ap (λ x. known (names_of x.texts) row) e ∙ sym is

-- ---- entries inside an evaluation

pub print_may : (set : Setup) (c : Core) (k : ℕ) (t : Text) → is_shut c k ≡ false → ((k == 0) || may_post c) ≡ true → in_evaluation c k ≡ true → allowed set c (posting k (event.Print t) Nothing) ≡ true
print_may set c k t unshut turn inside = allow set c k (event.Print t) Nothing (open_not_shut c k unshut) turn inside

pub ask_may : (set : Setup) (c : Core) (k n : ℕ) → is_shut c k ≡ false → ((k == 0) || may_post c) ≡ true → in_evaluation c k ≡ true → n ≡ count c → allowed set c (posting k (event.Ask n) Nothing) ≡ true
ask_may set c k n unshut turn inside is = allow set c k (event.Ask n) Nothing (open_not_shut c k unshut) turn (all2 (in_evaluation c k) (n == count c) inside (eq-eqb n (count c) is))

pub leave_may : (set : Setup) (c : Core) (k : ℕ) → is_shut c k ≡ false → ((k == 0) || may_post c) ≡ true → in_evaluation c k ≡ true → holds_nothing c k ≡ false
    → allowed set c (posting k event.Leave Nothing) ≡ true
leave_may set c k unshut turn inside section = allow set c k event.Leave Nothing (open_not_shut c k unshut) turn (all2 (in_evaluation c k) (not (holds_nothing c k)) inside (ap not section))

pub enter_may : (set : Setup) (c : Core) (k : ℕ) (ls : List Sym) → is_shut c k ≡ false → ((k == 0) || may_post c) ≡ true → in_evaluation c k ≡ true → is_empty ls ≡ false
    → holds_nothing c k ≡ true → all_free c ls ≡ true → allowed set c (posting k (event.Enter ls) Nothing) ≡ true
enter_may set c k ls unshut turn inside some outside free =
    allow set c k (event.Enter ls) Nothing (open_not_shut c k unshut) turn
    (all4 (in_evaluation c k) (not (is_empty ls)) (holds_nothing c k) (all_free c ls) inside (ap not some) outside free)

-- other definitions while no wait stands
pub keeps_swap : (o : Opening) (ps : List Posted) (c : Core) (d e : Definitions) (f : Terms) → IsBook o ps c d f → no_wait c ≡ true → IsBook o ps c e f
keeps_swap o ps c d e f is free = record { replayed = is.replayed; lent = λ w. absurd (not_some (is_some c.wait) free w); unclosed = is.unclosed; kernels = is.kernels; named = is.named; listed = is.listed }

-- ---- a kernel that is lost

pub lives_yet : (c : Core) (k : ℕ) → (k == 0) ≡ false → is_shut c k ≡ false → lives c k ≡ true
lives_yet c k other e = go c.closed (k == 0) (lives c k) other e
  where
    go : (a b l : Bool) → b ≡ false → (a || (not b && not l)) ≡ false → l ≡ true
    go true b l f g = absurd (true≢false g)
    go false true l f g = absurd (true≢false f)
    go false false true f g = refl
    go false false false f g = absurd (true≢false g)

pub lose_may : (set : Setup) (c : Core) (k : ℕ) (cause : Loss) → (k == 0) ≡ false → is_shut c k ≡ false → may_post c ≡ true → allowed set c (posting k (event.Lose cause) Nothing) ≡ true
lose_may set c k cause other unshut turn =
    allow set c k (event.Lose cause) Nothing (open_not_shut c k unshut) (or_right (k == 0) (may_post c) turn) (all2 (not (k == 0)) (lives c k) (ap not other) (lives_yet c k other unshut))

pub terms_on : (o : Opening) (ps : List Posted) (c : Core) (d : Definitions) (f : Terms) → IsBook o ps c d f → o.recovery ≡ f.recovery → IsOn (setup_of o) f
terms_on o ps c d f is same = record { recovers = same; failed = is.named; list = is.listed }

pub runners : DoersAgree → (o : Opening) (ps : List Posted) (c : Core) (d : Definitions) (f : Terms) → IsBook o ps c d f → (k id : ℕ) → status_of c id ≡ Some (Running k) → attempt_of c k ≡ Some id
runners law o ps c d f is k id e = (law (setup_of o) ps c is.replayed).0 id k e

pub keeps_loss : (o : Opening) (ps qs : List Posted) (c d : Core) (defs : Definitions) (f : Terms) (k : ℕ) (cause : Loss)
    → IsBook o ps c defs f → allowed (setup_of o) c (posting k (event.Lose cause) Nothing) ≡ true → d ≡ effect (setup_of o) c (posting k (event.Lose cause) Nothing)
    → qs ≡ ps ++ posting k (event.Lose cause) Nothing ∷ [] → IsBook o qs d defs f
keeps_loss o ps qs c d defs f k cause is may makes e = record {
  replayed = ap (replay (setup_of o)) e ∙ more_from (setup_of o) (start (setup_of o)) c ps (posting k (event.Lose cause) Nothing) is.replayed may ∙ ap Some (sym makes);
  lent = λ w. ap (λ x. x.definitions) makes ∙ is.lent (sym (ap (λ x. is_some x.wait) makes) ∙ w);
  unclosed = λ w. ap (λ x. x.closed) makes;
  kernels = ap (λ x. length x.kernels) makes ∙ change_len k (kernel_after (event.Lose cause)) c.kernels ∙ is.kernels;
  named = is.named;
  listed = is.listed;
}

pub entered_loss : (a b : Contents) (k : ℕ) (cause : Loss) → allowed (setup_of a.opening) a.core (posting k (event.Lose cause) Nothing) ≡ true
    → b.core ≡ effect (setup_of a.opening) a.core (posting k (event.Lose cause) Nothing) → b.posted ≡ a.posted ++ posting k (event.Lose cause) Nothing ∷ [] → b.opening ≡ a.opening
    → b.definitions ≡ a.definitions → b.starved ≡ a.starved → IsEntered (posting k (event.Lose cause) Nothing) a b
entered_loss a b k cause may makes ps o ds s = record {
  may = may;
  entered = λ i. record { opening = o i; posted = ps i; core = makes i; definitions = ds i; starved = s i };
}

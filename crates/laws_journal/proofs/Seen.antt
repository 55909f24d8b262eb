-- What a kernel's view keeps of a journal: the items, its own entries, and whether it is lost.
use Rattle.std.proofs.Common.{◌≡◌, refl, sym, ap, subst, ◌∙◌, ℕ, suc, Bool, true, false, List, [], ◌∷◌, ◌++◌, length, append-nil, append_assoc, Option, Some, None, true≢false, eqb-true, arith}
use Rattle.std.specs.Prelude.{◌&&◌, ◌||◌, not, ◌==◌, ◌+◌, map}
use Rattle.semantics.specs.Program.{Request, Call}
use Rattle.semantics.specs.Play.{Reply}
use Rattle.semantics.specs.Names.{Names}
use Rattle.journal.specs.declared.loss.Loss.{Loss}
use Rattle.journal.specs.Places.{nth, change_at, each_from, given}
use Rattle.journal.specs.Closure.{Bundle}
use Rattle.journal.specs.declared.event.Event.{Event}
use Rattle.journal.specs.declared.item.Item.{Item}
use Rattle.journal.specs.Entry.{Handed, Posted}
use Rattle.journal.specs.Core.{Setup, Core, Kernel, Queued, start, lives, new_kernel, permitted, may_submit, no_wait, may_yield, may_post, is_lent, allowed, items_after, queued_after, kernel_after, definitions_after, effect, replay_from}
use Rattle.journal.specs.Follow.{Plan, Wants, Delivers, Quits, Phase, Free, At, Lost, View, heard, item_of, moved, is_lost, is_planned, or_planned, own_entry, entry_of, with_handed, watch, watch_from, first_view}
use Rattle.laws_journal.specs.Views.{handed_for, needed, HandedNeeded, pair_of, ItemsAgree, own_entries, none_by, items_seen, OthersPass, ItemsStay, OwnCounted, LivesUnlessLost}
use Rattle.laws_journal.proofs.Tables.{both, is_not, none≢some, some_is, opened, when_some, split, apart, change_other, change_same}
use Rattle.laws_journal.proofs.Views.{a_row}

-- ---- what is handed in

permitted_needed : (set : Setup) (c : Core) (h : Handed) (k : ℕ) (e : Event) → permitted set c (handed_for e h) k e ≡ permitted set c h k e
permitted_needed set c h k (Event.Submit id) = ap (λ b. (k == 0) && no_wait c && (id == suc (length c.items)) && b) (go h)
  where
    go : (h' : Handed) → may_submit c (handed_for (Event.Submit id) h') ≡ may_submit c h'
    go Handed.Nothing = refl
    go (Handed.Given item b) = refl
    go (Handed.Lent d) = refl
    go (Handed.Held vs) = refl
permitted_needed set c h k (Event.Yield w) = ap (λ b. (k == 0) && no_wait c && may_yield c w && b) (go h)
  where
    go : (h' : Handed) → is_lent (handed_for (Event.Yield w) h') ≡ is_lent h'
    go Handed.Nothing = refl
    go (Handed.Given item b) = refl
    go (Handed.Lent d) = refl
    go (Handed.Held vs) = refl
permitted_needed set c h k Event.Resume = refl
permitted_needed set c h k (Event.Take id) = refl
permitted_needed set c h k (Event.Access e r) = refl
permitted_needed set c h k (Event.Ask n) = refl
permitted_needed set c h k (Event.Print t) = refl
permitted_needed set c h k (Event.Enter ls) = refl
permitted_needed set c h k Event.Leave = refl
permitted_needed set c h k (Event.Deliver id v) = refl
permitted_needed set c h k (Event.Lose cause) = refl
permitted_needed set c h k Event.Close = refl

items_needed : (set : Setup) (c : Core) (h : Handed) (k : ℕ) (e : Event) → items_after set c (handed_for e h) k e ≡ items_after set c h k e
items_needed set c Handed.Nothing k (Event.Submit id) = refl
items_needed set c (Handed.Given item b) k (Event.Submit id) = refl
items_needed set c (Handed.Lent d) k (Event.Submit id) = refl
items_needed set c (Handed.Held vs) k (Event.Submit id) = refl
items_needed set c h k (Event.Yield w) = refl
items_needed set c h k Event.Resume = refl
items_needed set c h k (Event.Take id) = refl
items_needed set c h k (Event.Access e r) = refl
items_needed set c h k (Event.Ask n) = refl
items_needed set c h k (Event.Print t) = refl
items_needed set c h k (Event.Enter ls) = refl
items_needed set c h k Event.Leave = refl
items_needed set c h k (Event.Deliver id v) = refl
items_needed set c h k (Event.Lose cause) = refl
items_needed set c h k Event.Close = refl

definitions_needed : (set : Setup) (c : Core) (h : Handed) (e : Event) → definitions_after set c (handed_for e h) e ≡ definitions_after set c h e
definitions_needed set c Handed.Nothing (Event.Yield w) = refl
definitions_needed set c (Handed.Given item b) (Event.Yield w) = refl
definitions_needed set c (Handed.Lent d) (Event.Yield w) = refl
definitions_needed set c (Handed.Held vs) (Event.Yield w) = refl
definitions_needed set c Handed.Nothing (Event.Submit id) = refl
definitions_needed set c (Handed.Given item b) (Event.Submit id) = refl
definitions_needed set c (Handed.Lent d) (Event.Submit id) = refl
definitions_needed set c (Handed.Held vs) (Event.Submit id) = refl
definitions_needed set c Handed.Nothing _ = refl
definitions_needed set c (Handed.Given item b) _ = refl
definitions_needed set c (Handed.Lent d) _ = refl
definitions_needed set c (Handed.Held vs) _ = refl

handed_needed : (e : Event) (h : Handed) (items : List (Item × Bundle)) → with_handed e (handed_for e h) items ≡ with_handed e h items
handed_needed (Event.Submit id) Handed.Nothing items = refl
handed_needed (Event.Submit id) (Handed.Given item b) items = refl
handed_needed (Event.Submit id) (Handed.Lent d) items = refl
handed_needed (Event.Submit id) (Handed.Held vs) items = refl
handed_needed _ h items = refl

allowed_needed : (set : Setup) (c : Core) (p : Posted) → allowed set c (needed p) ≡ allowed set c p
allowed_needed set c p = ap (λ b. not c.closed && ((p.entry.kernel == 0) || may_post c) && b) (permitted_needed set c p.handed p.entry.kernel p.entry.event)

effect_needed : (set : Setup) (c : Core) (p : Posted) → effect set c (needed p) ≡ effect set c p
effect_needed set c p =
    λ i. record (effect set c p) {
      definitions = definitions_needed set c p.handed p.entry.event i;
      items = items_needed set c p.handed p.entry.kernel p.entry.event i;
    }

watch_needed : (set : Setup) (plan : Plan) (k : ℕ) (v : View) (p : Posted) → watch set plan k v (needed p) ≡ watch set plan k v p
watch_needed set plan k v p =
    ap (λ items. elim (p.entry.kernel == k) [ false ↦ Some (record v { items = items }) | true ↦ given (entry_of set plan k v p.entry.event) (λ phase. Some (record { items = items; own = suc v.own; phase = phase })) ])
    (handed_needed p.entry.event p.handed v.items)

replay_needed : (set : Setup) (c : Core) (ps : List Posted) → replay_from set c (map needed ps) ≡ replay_from set c ps
replay_needed set c [] = refl
replay_needed set c (p ∷ ps) =
    ap (λ b. elim b [ true ↦ replay_from set (effect set c (needed p)) (map needed ps) | false ↦ None ]) (allowed_needed set c p)
    ∙ (ap (λ d. elim (allowed set c p) [ true ↦ replay_from set d (map needed ps) | false ↦ None ]) (effect_needed set c p)
    ∙ ap (λ o. elim (allowed set c p) [ true ↦ o | false ↦ None ]) (replay_needed set (effect set c p) ps))

watch_all_needed : (set : Setup) (plan : Plan) (k : ℕ) (v : View) (ps : List Posted) → watch_from set plan k v (map needed ps) ≡ watch_from set plan k v ps
watch_all_needed set plan k v [] = refl
watch_all_needed set plan k v (p ∷ ps) =
    ap (λ o. given o (λ w. watch_from set plan k w (map needed ps))) (watch_needed set plan k v p) ∙ onward (watch set plan k v p) (λ w. watch_all_needed set plan k w ps)
  where
    onward : (o : Option View) → ((w : View) → watch_from set plan k w (map needed ps) ≡ watch_from set plan k w ps)
        → given o (λ w. watch_from set plan k w (map needed ps)) ≡ given o (λ w. watch_from set plan k w ps)
    onward None next = refl
    onward (Some w) next = next w

pub handed_is_needed : HandedNeeded
handed_is_needed = (
  (λ set c p. (allowed_needed set c p, effect_needed set c p)),
  watch_needed,
  (λ set ps. replay_needed set (start set) ps),
  (λ set plan k ps. watch_all_needed set plan k first_view ps),
)

-- ---- items

each_pair : (n : ℕ) (f : ℕ → Queued → Queued) (qs : List Queued) → ((m : ℕ) (q : Queued) → pair_of (f m q) ≡ pair_of q) → map pair_of (each_from n f qs) ≡ map pair_of qs
each_pair n f [] same = refl
each_pair n f (q ∷ qs) same = λ i. same n q i ∷ each_pair (suc n) f qs same i

map_more : (xs : List Queued) (x : Queued) → map pair_of (xs ++ x ∷ []) ≡ map pair_of xs ++ pair_of x ∷ []
map_more [] x = refl
map_more (y ∷ ys) x = ap (λ zs. pair_of y ∷ zs) (map_more ys x)

pairs_after : (set : Setup) (c : Core) (h : Handed) (k : ℕ) (e : Event) → map pair_of (items_after set c h k e) ≡ with_handed e h (map pair_of c.items)
pairs_after set c Handed.Nothing k (Event.Submit id) = refl
pairs_after set c (Handed.Given item b) k (Event.Submit id) = map_more c.items _
pairs_after set c (Handed.Lent d) k (Event.Submit id) = refl
pairs_after set c (Handed.Held vs) k (Event.Submit id) = refl
pairs_after set c h k (Event.Yield w) = each_pair 1 (queued_after set c.wait k (Event.Yield w)) c.items (λ m q. refl)
pairs_after set c h k Event.Resume = each_pair 1 (queued_after set c.wait k Event.Resume) c.items (λ m q. refl)
pairs_after set c h k (Event.Take id) = each_pair 1 (queued_after set c.wait k (Event.Take id)) c.items (λ m q. refl)
pairs_after set c h k (Event.Access e r) = each_pair 1 (queued_after set c.wait k (Event.Access e r)) c.items (λ m q. refl)
pairs_after set c h k (Event.Ask n) = each_pair 1 (queued_after set c.wait k (Event.Ask n)) c.items (λ m q. refl)
pairs_after set c h k (Event.Print t) = each_pair 1 (queued_after set c.wait k (Event.Print t)) c.items (λ m q. refl)
pairs_after set c h k (Event.Enter ls) = each_pair 1 (queued_after set c.wait k (Event.Enter ls)) c.items (λ m q. refl)
pairs_after set c h k Event.Leave = each_pair 1 (queued_after set c.wait k Event.Leave) c.items (λ m q. refl)
pairs_after set c h k (Event.Deliver id v) = each_pair 1 (queued_after set c.wait k (Event.Deliver id v)) c.items (λ m q. refl)
pairs_after set c h k (Event.Lose cause) = each_pair 1 (queued_after set c.wait k (Event.Lose cause)) c.items (λ m q. refl)
pairs_after set c h k Event.Close = each_pair 1 (queued_after set c.wait k Event.Close) c.items (λ m q. refl)

-- one entry of a view, taken apart: another's, or one's own
pub record Watched (set : Setup) (plan : Plan) (k : ℕ) (v : View) (p : Posted) (w : View) : Type 0 where
  pub items : w.items ≡ with_handed p.entry.event p.handed v.items
  pub other : (p.entry.kernel == k) ≡ false → w ≡ record v { items = with_handed p.entry.event p.handed v.items }
  pub own : (p.entry.kernel == k) ≡ true → (entry_of set plan k v p.entry.event ≡ Some w.phase) × (w.own ≡ suc v.own)

pub watched : (set : Setup) (plan : Plan) (k : ℕ) (v : View) (p : Posted) (w : View) → watch set plan k v p ≡ Some w → Watched set plan k v p w
watched set plan k v p w q = go (p.entry.kernel == k) refl q
  where
    seen : List (Item × Bundle)
    seen = with_handed p.entry.event p.handed v.items

    after : Phase → View
    after phase = record { items = seen; own = suc v.own; phase = phase }

    go : (b : Bool) → (p.entry.kernel == k) ≡ b
        → elim b [ false ↦ Some (record v { items = seen }) | true ↦ given (entry_of set plan k v p.entry.event) (λ phase. Some (after phase)) ] ≡ Some w → Watched set plan k v p w
    go false b q' = record { items = sym (ap (λ u. u.items) (some_is q')); other = λ _. sym (some_is q'); own = λ mine. absurd (true≢false (sym mine ∙ b)) }
    go true b q' =
        let t = opened (entry_of set plan k v p.entry.event) (λ phase. Some (after phase)) w q' in
        record {
          items = sym (ap (λ u. u.items) (some_is t.2));
          other = λ others. absurd (true≢false (sym b ∙ others));
          own = λ _. (t.1 ∙ ap (λ u. Some u.phase) (some_is t.2), sym (ap (λ u. u.own) (some_is t.2)));
        }

items_agree_from : (set : Setup) (plan : Plan) (k : ℕ) (c z : Core) (ps : List Posted) (v w : View) → map pair_of c.items ≡ v.items
    → replay_from set c ps ≡ Some z → watch_from set plan k v ps ≡ Some w → map pair_of z.items ≡ w.items
items_agree_from set plan k c z [] v w same r q = ap (λ x. map pair_of x.items) (sym (some_is r)) ∙ (same ∙ ap (λ x. x.items) (some_is q))
items_agree_from set plan k c z (p ∷ ps) v w same r q =
    let parts = split (allowed set c p) (replay_from set (effect set c p) ps) z r in
    let t = opened (watch set plan k v p) (λ u. watch_from set plan k u ps) w q in
    items_agree_from set plan k (effect set c p) z ps t.0 w
    (pairs_after set c p.handed p.entry.kernel p.entry.event ∙ (ap (with_handed p.entry.event p.handed) same ∙ sym (watched set plan k v p t.0 t.1).items)) parts.1 t.2

pub items_agree : ItemsAgree
items_agree set plan k ps c v r q = items_agree_from set plan k (start set) c ps first_view v refl r q

-- ---- entries of others

chosen : {A : Type 0} (b : Bool) (x y : Option A) → b ≡ false → elim b [ false ↦ x | true ↦ y ] ≡ x
chosen b x y e = ap (λ c. elim c [ false ↦ x | true ↦ y ]) e

others_pass_from : (set : Setup) (plan : Plan) (k : ℕ) (others : List Posted) (v : View) → none_by k others ≡ true → watch_from set plan k v others ≡ Some (record v { items = items_seen others v.items })
others_pass_from set plan k [] v none = refl
others_pass_from set plan k (p ∷ ps) v none =
    let parts = both (not (p.entry.kernel == k)) (none_by k ps) none in
    let passed : View = record v { items = with_handed p.entry.event p.handed v.items } in
    ap (λ o. given o (λ w. watch_from set plan k w ps)) (chosen (p.entry.kernel == k) (Some passed) _ (is_not (p.entry.kernel == k) parts.0)) ∙ others_pass_from set plan k ps passed parts.1

pub watch_both : (set : Setup) (plan : Plan) (k : ℕ) (v w : View) (ps qs : List Posted) → watch_from set plan k v ps ≡ Some w → watch_from set plan k v (ps ++ qs) ≡ watch_from set plan k w qs
watch_both set plan k v w [] qs r = ap (λ x. watch_from set plan k x qs) (some_is r)
watch_both set plan k v w (p ∷ ps) qs r =
    let t = opened (watch set plan k v p) (λ u. watch_from set plan k u ps) w r in
    ap (λ o. given o (λ u. watch_from set plan k u (ps ++ qs))) t.1 ∙ watch_both set plan k t.0 w ps qs t.2

pub others_pass : OthersPass
others_pass set plan k ps others v r none = watch_both set plan k first_view v ps others r ∙ others_pass_from set plan k others v none

one_more_item : (e : Event) (h : Handed) (items : List (Item × Bundle)) → (more : List (Item × Bundle)) × (with_handed e h items ≡ items ++ more)
one_more_item (Event.Submit id) (Handed.Given item b) items = ((item, b) ∷ [], refl)
one_more_item (Event.Submit id) Handed.Nothing items = ([], sym (append-nil items))
one_more_item (Event.Submit id) (Handed.Lent d) items = ([], sym (append-nil items))
one_more_item (Event.Submit id) (Handed.Held vs) items = ([], sym (append-nil items))
one_more_item _ h items = ([], sym (append-nil items))

pub items_stay : ItemsStay
items_stay [] items = ([], sym (append-nil items))
items_stay (p ∷ ps) items =
    let one = one_more_item p.entry.event p.handed items in
    let rest = items_stay ps (with_handed p.entry.event p.handed items) in
    (one.0 ++ rest.0, rest.1 ∙ (ap (λ xs. xs ++ rest.0) one.1 ∙ append_assoc items one.0 rest.0))

-- ---- a kernel's own entries

own_counted_from : (set : Setup) (plan : Plan) (k : ℕ) (ps : List Posted) (v w : View) → watch_from set plan k v ps ≡ Some w → w.own ≡ v.own + length (own_entries k ps)
own_counted_from set plan k [] v w r = let same = ap (λ x. x.own) (some_is r) in omega (arith, same)
own_counted_from set plan k (p ∷ ps) v w r =
    let t = opened (watch set plan k v p) (λ u. watch_from set plan k u ps) w r in
    go (p.entry.kernel == k) refl t.0 (watched set plan k v p t.0 t.1) (own_counted_from set plan k ps t.0 w t.2)
  where
    go : (b : Bool) → (p.entry.kernel == k) ≡ b → (u : View) → Watched set plan k v p u → w.own ≡ u.own + length (own_entries k ps)
        → w.own ≡ v.own + length {A = Posted} (elim b [ true ↦ p ∷ own_entries k ps | false ↦ own_entries k ps ])
    go true b u here rest = let one = (here.own b).1 in omega (arith, one, rest)
    go false b u here rest = let one = ap (λ x. x.own) (here.other b) in omega (arith, one, rest)

pub own_counted : OwnCounted
own_counted set plan k ps v r = let counted = own_counted_from set plan k ps first_view v r in omega (arith, counted)

-- ---- lives

abbrev is_lose : Event → Bool
is_lose (Event.Lose cause) = true
is_lose _ = false

heard_no_loss : (names : Names) (c : Call) (e : Event) (r : Reply) → heard names c e ≡ Some r → is_lose e ≡ false
heard_no_loss names (Call.Sends (Request.Access f)) (Event.Access g r') r h = refl
heard_no_loss names (Call.Sends Request.Count) (Event.Ask n) r h = refl
heard_no_loss names (Call.Sends (Request.Print t)) (Event.Print u) r h = refl
heard_no_loss names (Call.Enter ls) (Event.Enter ms) r h = refl
heard_no_loss names Call.Leave Event.Leave r h = refl
heard_no_loss names _ _ r h = absurd (none≢some h)

-- an own entry is a loss exactly where the kernel is lost after it
moved_lost : (set : Setup) (k : ℕ) (items : List (Item × Bundle)) (x y : Phase) (e : Event) → moved set k items x e ≡ Some y → is_lost y ≡ is_lose e
moved_lost set k items (Free d) y (Event.Take id) q =
    let t = opened (item_of items id) (λ i. Some (At id _)) y q in
    ap is_lost (sym (some_is t.2))
moved_lost set k items (At id (Wants call f)) y e q =
    let t = opened (heard set.names call e) (λ reply. Some (At id (f reply))) y q in
    ap is_lost (sym (some_is t.2)) ∙ sym (heard_no_loss set.names call e t.0 t.1)
moved_lost set k items (At id (Delivers v d)) y (Event.Deliver i w) q = ap is_lost (sym (some_is (when_some _ _ y q).1))
moved_lost set k items (At id Quits) y (Event.Lose Loss.Quit) q = ap is_lost (sym (some_is q))
moved_lost set k items (At id _) y _ q = absurd (none≢some q)
moved_lost set k items (Free d) y _ q = absurd (none≢some q)
moved_lost set k items Lost y _ q = absurd (none≢some q)

planned_lost : (set : Setup) (k : ℕ) (items : List (Item × Bundle)) (x y : Phase) (b : Bool) (e : Event) → or_planned b e (moved set k items x e) ≡ Some y → is_lost y ≡ is_lose e
planned_lost set k items x y true (Event.Lose Loss.Plan) q = ap is_lost (sym (some_is q))
planned_lost set k items x y true _ q = absurd (none≢some q)
planned_lost set k items x y false e q = moved_lost set k items x y e q

-- and but for a loss it was not lost before
own_lost : (set : Setup) (plan : Plan) (k : ℕ) (v : View) (y : Phase) (e : Event) → own_entry set plan k v e ≡ Some y → (is_lost y ≡ is_lose e) × (is_lose e ≡ false → is_lost v.phase ≡ false)
own_lost set plan k v y (Event.Lose Loss.NotStarted) q = (ap is_lost (sym (some_is (when_some _ _ y q).1)), λ h. absurd (true≢false h))
own_lost set plan k v y e q =
    let s = when_some (not (is_lost v.phase)) _ y q in
    (planned_lost set k v.items v.phase y (is_planned plan k (suc v.own)) e s.1, λ _. is_not (is_lost v.phase) s.0)

lives_after : (e : Event) (row : Kernel) (before after : Bool) → row.lives ≡ not before → after ≡ is_lose e → (is_lose e ≡ false → before ≡ false) → (kernel_after e row).lives ≡ not after
lives_after (Event.Lose cause) row before after was now none = sym (ap not now)
lives_after (Event.Submit id) row before after was now none = was ∙ (ap not (none refl) ∙ sym (ap not now))
lives_after (Event.Yield w) row before after was now none = was ∙ (ap not (none refl) ∙ sym (ap not now))
lives_after Event.Resume row before after was now none = was ∙ (ap not (none refl) ∙ sym (ap not now))
lives_after (Event.Take id) row before after was now none = was ∙ (ap not (none refl) ∙ sym (ap not now))
lives_after (Event.Access f r) row before after was now none = was ∙ (ap not (none refl) ∙ sym (ap not now))
lives_after (Event.Ask n) row before after was now none = was ∙ (ap not (none refl) ∙ sym (ap not now))
lives_after (Event.Print t) row before after was now none = was ∙ (ap not (none refl) ∙ sym (ap not now))
lives_after (Event.Enter ls) row before after was now none = was ∙ (ap not (none refl) ∙ sym (ap not now))
lives_after Event.Leave row before after was now none = was ∙ (ap not (none refl) ∙ sym (ap not now))
lives_after (Event.Deliver id v) row before after was now none = was ∙ (ap not (none refl) ∙ sym (ap not now))
lives_after Event.Close row before after was now none = was ∙ (ap not (none refl) ∙ sym (ap not now))

lives_one : (set : Setup) (plan : Plan) (k : ℕ) (c : Core) (p : Posted) (v w : View) (row : Kernel) → nth c.kernels (suc k) ≡ Some row → row.lives ≡ not (is_lost v.phase)
    → Watched set plan (suc k) v p w → (row' : Kernel) × (nth (effect set c p).kernels (suc k) ≡ Some row') × (row'.lives ≡ not (is_lost w.phase))
lives_one set plan k c p v w row at s here = go (p.entry.kernel == suc k) refl
  where
    e : Event
    e = p.entry.event

    go : (b : Bool) → (p.entry.kernel == suc k) ≡ b → (row' : Kernel) × (nth (change_at p.entry.kernel (kernel_after e) c.kernels) (suc k) ≡ Some row') × (row'.lives ≡ not (is_lost w.phase))
    go false b = (row, change_other p.entry.kernel (suc k) (kernel_after e) c.kernels (apart p.entry.kernel (suc k) b) ∙ at, s ∙ ap (λ u. not (is_lost u.phase)) (sym (here.other b)))
    go true b =
        let t = own_lost set plan (suc k) v w.phase e (here.own b).0 in (
          kernel_after e row,
          subst (λ j. nth (change_at j (kernel_after e) c.kernels) (suc k) ≡ Some (kernel_after e row)) (sym (eqb-true p.entry.kernel (suc k) b)) (change_same (suc k) (kernel_after e) c.kernels row at),
          lives_after e row (is_lost v.phase) (is_lost w.phase) s t.0 t.1,
        )

lives_from : (set : Setup) (plan : Plan) (k : ℕ) (c z : Core) (ps : List Posted) (v w : View) (row : Kernel) → nth c.kernels (suc k) ≡ Some row → row.lives ≡ not (is_lost v.phase)
    → replay_from set c ps ≡ Some z → watch_from set plan (suc k) v ps ≡ Some w → lives z (suc k) ≡ not (is_lost w.phase)
lives_from set plan k c z [] v w row at s r q =
    ap (λ x. lives x (suc k)) (sym (some_is r)) ∙ (ap (λ o. elim o [ None ↦ false | Some x ↦ x.lives ]) at ∙ (s ∙ ap (λ u. not (is_lost u.phase)) (some_is q)))
lives_from set plan k c z (p ∷ ps) v w row at s r q =
    let parts = split (allowed set c p) (replay_from set (effect set c p) ps) z r in
    let t = opened (watch set plan (suc k) v p) (λ u. watch_from set plan (suc k) u ps) w q in
    let n = lives_one set plan k c p v t.0 row at s (watched set plan (suc k) v p t.0 t.1) in
    lives_from set plan k (effect set c p) z ps t.0 w n.0 n.1 n.2 parts.1 t.2

pub lives_unless_lost : LivesUnlessLost
lives_unless_lost set plan k ps c v h r q = lives_from set plan k (start set) c ps first_view v (new_kernel true) (a_row set.kernels k h) refl r q

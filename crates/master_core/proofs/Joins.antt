-- What entries do to the parts of a core is what they do to the core.
use Rattle.std.proofs.Common.{◌≡◌, refl, sym, ap, subst, ◌∙◌, ℕ, zero, suc, ◌+◌, ◌<◌, ◌≤◌, List, [], ◌∷◌, ◌++◌, length, append-nil, replicate, Bool, true, false, true≢false, Option, Some, None, arith, eq-eqb, inl, inr}
use Rattle.std.specs.Prelude.{◌||◌, ◌&&◌, ◌==◌, ◌⊎◌, not, slice_set}
use Rattle.std.proofs.lemmas.Bool.{ne_eqb}
use Rattle.std.specs.Option.{option_map}
use Rattle.expr_tree.specs.declared.sym.Sym.{Sym}
use Rattle.expr_tree.specs.Tree.{Tree}
use Rattle.semantics.specs.Definitions.{Definitions, empty}
use Rattle.journal.specs.Places.{nth, change_at, each_from, is_some}
use Rattle.journal.specs.Closure.{Bundle}
use Rattle.journal.specs.declared.event.Event.{Event}
use Rattle.journal.specs.declared.event.Wait.{Wait}
use Rattle.journal.specs.declared.item.Item.{Item}
use Rattle.journal.specs.declared.item.Status.{Status}
use Rattle.journal.specs.declared.item.Status.TheVariants.{Waiting, Running, Done, Dropped}
use Rattle.journal.specs.Entry.{Text, Handed, Posted, Given}
use Rattle.journal.specs.Core.{Setup, Core, start, Kernel, Queued, new_kernel, is_waiting, kernel_after, status_after, queued_after, results_given, has_results, ids_given, items_after, definitions_after, lines_after, wait_after, is_close, effect, runs_or_dropped, status_of, attempt_of, runs, is_id, may_yield, item_at}
use Rattle.crit_locks.specs.declared.held.Held.{Held}
use Rattle.crit_locks.specs.Holdings.{locks_by, locks_after, HeldAfter}
use Rattle.eval_queue.specs.declared.kept.Kept.{Kept}
use Rattle.eval_queue.specs.Items as kept
use Rattle.eval_queue.specs.Items.{items_in, queued, kept_at, status_at, with_status, changed}
use Rattle.master_core.specs.Joined.{kernel_in, kernels_in, items_of, core_in, item_of, bundle_of, IsSound, AreParts}
use Rattle.master_core.specs.Posting.{Makes}

-- ---- the whole

pub made : (c d : Core) (p : Posted)
    → ((set : Setup) → d.definitions ≡ definitions_after set c p.handed p.entry.event)
    → ((set : Setup) → d.items ≡ items_after set c p.handed p.entry.kernel p.entry.event)
    → d.kernels ≡ change_at p.entry.kernel (kernel_after p.entry.event) c.kernels
    → d.wait ≡ wait_after c.wait p.entry.event
    → ((set : Setup) → d.finished ≡ c.finished ++ ids_given set p.entry.kernel p.entry.event 1 c.items)
    → ((set : Setup) → d.lines ≡ lines_after set c p.entry.event)
    → d.begun ≡ (c.begun || (p.entry.kernel == 0))
    → d.closed ≡ is_close p.entry.event
    → Makes p c d
made c d p ds is ks w fs ls b e = record {
  by = λ set i. record { definitions = ds set i; items = is set i; kernels = ks i; wait = w i; finished = fs set i; lines = ls set i; begun = b i; closed = e i };
}

-- of one setup
pub made_in : (set : Setup) (c b d : Core) (p : Posted) → c ≡ b
    → d.definitions ≡ definitions_after set c p.handed p.entry.event
    → d.items ≡ items_after set c p.handed p.entry.kernel p.entry.event
    → d.kernels ≡ change_at p.entry.kernel (kernel_after p.entry.event) c.kernels
    → d.wait ≡ wait_after c.wait p.entry.event
    → d.finished ≡ c.finished ++ ids_given set p.entry.kernel p.entry.event 1 c.items
    → d.lines ≡ lines_after set c p.entry.event
    → d.begun ≡ (c.begun || (p.entry.kernel == 0))
    → d.closed ≡ is_close p.entry.event
    → d ≡ effect set b p
made_in set c b d p view ds is ks w fs ls bg e =
    let made : d ≡ effect set c p = λ i. record { definitions = ds i; items = is i; kernels = ks i; wait = w i; finished = fs i; lines = ls i; begun = bg i; closed = e i } in
    made ∙ ap (λ x. effect set x p) view

pub or_true : (b : Bool) → true ≡ (b || true)
or_true true = refl
or_true false = refl

-- ---- lists

pub each_same : {A : Type 0} (f : ℕ → A → A) (n : ℕ) (xs : List A) → ((m : ℕ) (x : A) → f m x ≡ x) → xs ≡ each_from n f xs
each_same f n [] same = refl
each_same f n (x ∷ xs) same = let rest = each_same f (suc n) xs same in let here = sym (same n x) in λ i. here i ∷ rest i

pub change_none : {A : Type 0} (f : A → A) (k : ℕ) (xs : List A) → ((x : A) → f x ≡ x) → xs ≡ change_at k f xs
change_none f k [] same = refl
change_none f zero (x ∷ xs) same = ap (λ y. y ∷ xs) (sym (same x))
change_none f (suc k) (x ∷ xs) same = ap (λ ys. x ∷ ys) (change_none f k xs same)

pub set_is : {A : Type 0} (k : ℕ) (x : A) (xs : List A) → slice_set xs k x ≡ change_at k (λ _. x) xs
set_is k x [] = refl
set_is zero x (y ∷ ys) = refl
set_is (suc k) x (y ∷ ys) = ap (λ zs. y ∷ zs) (set_is k x ys)

-- an entry that gives none of these items a result
pub no_ids : (set : Setup) (k : ℕ) (e : Event) (n : ℕ) (qs : List Queued)
    → ((p : ℕ) (q : Queued) → nth qs p ≡ Some q → has_results (results_given set k e (n + p) q) ≡ false) → ids_given set k e n qs ≡ []
no_ids set k e n [] none = refl
no_ids set k e n (q ∷ qs) none =
    let here : has_results (results_given set k e n q) ≡ false = subst (λ m. has_results (results_given set k e m q) ≡ false) (omega arith) (none 0 q refl) in
    let behind : (p : ℕ) (x : Queued) → nth qs p ≡ Some x → has_results (results_given set k e (suc n + p) x) ≡ false =
    λ p x at. subst (λ m. has_results (results_given set k e m x) ≡ false) (omega arith) (none (suc p) x at) in
    ap (λ b. elim b as (λ _. List ℕ) [ true ↦ n ∷ ids_given set k e (suc n) qs | false ↦ ids_given set k e (suc n) qs ]) here ∙ no_ids set k e (suc n) qs behind

pub none_more : (set : Setup) (k : ℕ) (e : Event) (ids : List ℕ) (qs : List Queued) → ((m : ℕ) (q : Queued) → has_results (results_given set k e m q) ≡ false)
    → ids ≡ ids ++ ids_given set k e 1 qs
none_more set k e ids qs none = sym (append-nil ids) ∙ ap (λ xs. ids ++ xs) (sym (no_ids set k e 1 qs (λ p q at. none (1 + p) q)))

-- ---- items

pub one_item : (qs : List (Kept Bundle)) (q : Kept Bundle) → items_of (qs ++ q ∷ []) ≡ items_of qs ++ queued (λ b. b) q ∷ []
one_item [] q = refl
one_item (x ∷ xs) q = ap (λ ys. queued (λ b. b) x ∷ ys) (one_item xs q)

-- what is done to each item as it is kept is what is done to it in the core
pub each_item : (f : ℕ → Kept Bundle → Kept Bundle) (g : ℕ → Queued → Queued) (n : ℕ) (qs : List (Kept Bundle))
    → ((p : ℕ) (q : Kept Bundle) → nth qs p ≡ Some q → queued (λ b. b) (f (n + p) q) ≡ g (n + p) (queued (λ b. b) q))
    → items_of (each_from n f qs) ≡ each_from n g (items_of qs)
each_item f g n [] each = refl
each_item f g n (q ∷ qs) each =
    let here : queued (λ b. b) (f n q) ≡ g n (queued (λ b. b) q) = subst (λ m. queued (λ b. b) (f m q) ≡ g m (queued (λ b. b) q)) (omega arith) (each 0 q refl) in
    let behind : (p : ℕ) (x : Kept Bundle) → nth qs p ≡ Some x → queued (λ b. b) (f (suc n + p) x) ≡ g (suc n + p) (queued (λ b. b) x) =
    λ p x at. subst (λ m. queued (λ b. b) (f m x) ≡ g m (queued (λ b. b) x)) (omega arith) (each (suc p) x at) in
    let rest = each_item f g (suc n) qs behind in
    λ i. here i ∷ rest i

nth_item : (qs : List (Kept Bundle)) (n : ℕ) → elim (nth (items_of qs) n) as (λ _. Option Status) [ None ↦ None | Some q ↦ Some q.status ] ≡ option_map (λ q. q.status) (nth qs n)
nth_item [] n = refl
nth_item (q ∷ qs) zero = refl
nth_item (q ∷ qs) (suc n) = nth_item qs n

-- the status of an item as it is kept is that in the core
pub status_here : (c : Core) (qs : List (Kept Bundle)) (id : ℕ) → items_of qs ≡ c.items → status_at qs id ≡ status_of c id
status_here c qs zero e = refl
status_here c qs (suc n) e = sym (nth_item qs n) ∙ ap (λ (xs : List Queued). elim (nth xs n) as (λ _. Option Status) [ None ↦ None | Some q ↦ Some q.status ]) e

-- ---- kernels

module _ (e : Event) (f : Bool → Bool) (g : Option ℕ → Option ℕ) (k : ℕ) (hs is : List Held)
    (held : HeldAfter e k hs is)
    (after : (b : Bool) (o : Option ℕ) (ls : List Sym) → kernel_after e (record { lives = b; attempt = o; locks = ls }) ≡ record { lives = f b; attempt = g o; locks = locks_after e ls }) where
  others : (n : ℕ) (bs : List Bool) (os : List (Option ℕ)) → k < n → kernels_in n bs os is ≡ kernels_in n bs os hs
  others n [] os lt = refl
  others n (b ∷ bs) [] lt = λ i. kernel_at i ∷ others (suc n) bs [] (omega (arith, lt)) i
    where
      kernel_at : kernel_in n b None is ≡ kernel_in n b None hs
      kernel_at = ap (λ ls. record { lives = b; attempt = None; locks = ls }) (held n ∙ ap (λ x. elim x as (λ _. List Sym) [ true ↦ locks_after e (locks_by n hs) | false ↦ locks_by n hs ]) (ne_eqb k n (λ q. omega (arith, lt, q))))
  others n (b ∷ bs) (o ∷ os) lt = λ i. kernel_at i ∷ others (suc n) bs os (omega (arith, lt)) i
    where
      kernel_at : kernel_in n b o is ≡ kernel_in n b o hs
      kernel_at = ap (λ ls. record { lives = b; attempt = o; locks = ls }) (held n ∙ ap (λ x. elim x as (λ _. List Sym) [ true ↦ locks_after e (locks_by n hs) | false ↦ locks_by n hs ]) (ne_eqb k n (λ q. omega (arith, lt, q))))

  joined_from : (n p : ℕ) (bs : List Bool) (os : List (Option ℕ)) → k ≡ n + p → length os ≡ length bs
      → kernels_in n (change_at p f bs) (change_at p g os) is ≡ change_at p (kernel_after e) (kernels_in n bs os hs)
  joined_from n p [] os at long = refl
  joined_from n p (b ∷ bs) [] at long = absurd (omega (arith, long))
  joined_from n zero (b ∷ bs) (o ∷ os) at long = λ i. (here ∙ sym (after b o (locks_by n hs))) i ∷ others (suc n) bs os (omega (arith, at)) i
    where
      here : kernel_in n (f b) (g o) is ≡ record { lives = f b; attempt = g o; locks = locks_after e (locks_by n hs) }
      here = ap (λ ls. record { lives = f b; attempt = g o; locks = ls }) (held n ∙ ap (λ x. elim x as (λ _. List Sym) [ true ↦ locks_after e (locks_by n hs) | false ↦ locks_by n hs ]) (eq-eqb k n (omega (arith, at))))
  joined_from n (suc p) (b ∷ bs) (o ∷ os) at long = λ i. same i ∷ joined_from (suc n) p bs os (omega (arith, at)) (omega (arith, long)) i
    where
      same : kernel_in n b o is ≡ kernel_in n b o hs
      same = ap (λ ls. record { lives = b; attempt = o; locks = ls }) (held n ∙ ap (λ x. elim x as (λ _. List Sym) [ true ↦ locks_after e (locks_by n hs) | false ↦ locks_by n hs ]) (ne_eqb k n (λ q. omega (arith, at, q))))

  -- the kernels after an entry of one of them
  pub joined : (bs : List Bool) (os : List (Option ℕ)) → length os ≡ length bs
      → kernels_in 0 (change_at k f bs) (change_at k g os) is ≡ change_at k (kernel_after e) (kernels_in 0 bs os hs)
  joined bs os long = joined_from 0 k bs os (omega arith) long

held_same : (b : Bool) (ls : List Sym) → ls ≡ elim b as (λ _. List Sym) [ true ↦ ls | false ↦ ls ]
held_same true ls = refl
held_same false ls = refl

-- another attempt alone
pub attempt_set : (e : Event) (o : Option ℕ) (k : ℕ) (bs : List Bool) (os : List (Option ℕ)) (hs : List Held) → length os ≡ length bs
    → ((b : Bool) (x : Option ℕ) (ls : List Sym) → kernel_after e (record { lives = b; attempt = x; locks = ls }) ≡ record { lives = b; attempt = o; locks = ls })
    → kernels_in 0 bs (slice_set os k o) hs ≡ change_at k (kernel_after e) (kernels_in 0 bs os hs)
attempt_set e o k bs os hs long after =
    let kept : (ls : List Sym) → locks_after e ls ≡ ls = λ ls. ap (λ x. x.locks) (after true None ls) in
    let held : HeldAfter e k hs hs = λ j. held_same (k == j) (locks_by j hs) ∙ ap (λ ls. elim (k == j) as (λ _. List Sym) [ true ↦ ls | false ↦ locks_by j hs ]) (sym (kept (locks_by j hs))) in
    let whole : (b : Bool) (x : Option ℕ) (ls : List Sym) → kernel_after e (record { lives = b; attempt = x; locks = ls }) ≡ record { lives = b; attempt = o; locks = locks_after e ls } =
    λ b x ls. after b x ls ∙ ap (λ l. record { lives = b; attempt = o; locks = l }) (sym (kept ls)) in
    ap (λ bs. kernels_in 0 bs (slice_set os k o) hs) (change_none (λ b. b) k bs (λ b. refl))
    ∙ ap (λ os. kernels_in 0 (change_at k (λ b. b) bs) os hs) (set_is k o os)
    ∙ joined e (λ b. b) (λ _. o) k hs hs held whole bs os long

pub kernels_len : (n : ℕ) (bs : List Bool) (os : List (Option ℕ)) (hs : List Held) → length (kernels_in n bs os hs) ≡ length bs
kernels_len n [] os hs = refl
kernels_len n (b ∷ bs) [] hs = ap suc (kernels_len (suc n) bs [] hs)
kernels_len n (b ∷ bs) (o ∷ os) hs = ap suc (kernels_len (suc n) bs os hs)

pub set_len : {A : Type 0} (xs : List A) (k : ℕ) (x : A) → length (slice_set xs k x) ≡ length xs
set_len [] k x = refl
set_len (y ∷ ys) zero x = refl
set_len (y ∷ ys) (suc k) x = ap suc (set_len ys k x)

-- ---- entries that change neither items nor kernels

pub plain : (k : ℕ) (e : Event) (h : Handed) (c d : Core)
    → ((set : Setup) → items_after set c h k e ≡ each_from 1 (queued_after set c.wait k e) c.items)
    → ((set : Setup) (m : ℕ) (q : Queued) → queued_after set c.wait k e m q ≡ q)
    → ((set : Setup) (m : ℕ) (q : Queued) → has_results (results_given set k e m q) ≡ false)
    → ((x : Kernel) → kernel_after e x ≡ x)
    → ((set : Setup) → d.definitions ≡ definitions_after set c h e)
    → d.items ≡ c.items
    → d.kernels ≡ c.kernels
    → d.wait ≡ wait_after c.wait e
    → d.finished ≡ c.finished
    → ((set : Setup) → d.lines ≡ lines_after set c e)
    → d.begun ≡ (c.begun || (k == 0))
    → d.closed ≡ is_close e
    → Makes (record { entry = record { kernel = k; event = e }; handed = h }) c d
plain k e h c d all each none stay ds is ks w fs ls b cl =
    made c d (record { entry = record { kernel = k; event = e }; handed = h }) ds
    (λ set. is ∙ each_same (queued_after set c.wait k e) 1 c.items (each set) ∙ sym (all set))
    (ks ∙ change_none (kernel_after e) k c.kernels stay) w
    (λ set. fs ∙ none_more set k e c.finished c.items (none set)) ls b cl

pub viewed : {p : Posted} {a b new : Core} → a ≡ b → Makes p a new → Makes p b new
viewed {p} {a} {b} {new} e m = subst (λ x. Makes p x new) e m

-- who runs an item is one of the kernels
pub nth_within : {A : Type 0} (xs : List A) (k : ℕ) → (nth xs k ≡ None) ⊎ (k < length xs)
nth_within [] k = inl refl
nth_within (x ∷ xs) zero = inr (omega arith)
nth_within (x ∷ xs) (suc k) = go (nth_within xs k)
  where
    go : (nth xs k ≡ None) ⊎ (k < length xs) → (nth xs k ≡ None) ⊎ (suc k < suc (length xs))
    go (inl e) = inl e
    go (inr lt) = inr (omega (arith, lt))

both : (a b : Bool) → (a && b) ≡ true → (a ≡ true) × (b ≡ true)
both true b e = (refl, e)
both false b e = absurd (true≢false (sym e))

pub runs_within : (c : Core) (k id : ℕ) → runs c k id ≡ true → k < length c.kernels
runs_within c k id h = go (nth_within c.kernels k)
  where
    go : (nth c.kernels k ≡ None) ⊎ (k < length c.kernels) → k < length c.kernels
    go (inl e) =
        let has : is_id id (attempt_of c k) ≡ true = (both (is_id id (attempt_of c k)) (runs_or_dropped k (status_of c id)) h).0 in
        absurd (true≢false (sym has ∙ ap (λ (o : Option Kernel). is_id id (elim o as (λ _. Option ℕ) [ None ↦ None | Some x ↦ x.attempt ])) e))
    go (inr lt) = lt

pub runs_status : (c : Core) (k id : ℕ) → runs c k id ≡ true → runs_or_dropped k (status_of c id) ≡ true
runs_status c k id h = (both (is_id id (attempt_of c k)) (runs_or_dropped k (status_of c id)) h).1

-- of the ids of a wait that may begin
pub may_be_sound : (c : Core) (w : Wait) → may_yield c w ≡ true → IsSound (Some w)
may_be_sound c (Wait.All ids) h = tt
may_be_sound c (Wait.Next []) h = true≢false (sym h)
may_be_sound c (Wait.Next (id ∷ ids)) h = tt
may_be_sound c (Wait.Try ids) h = tt
may_be_sound c (Wait.Locks ls) h = tt

pub first_kernels : (k n : ℕ) → kernels_in k (replicate n true) (replicate n None) [] ≡ replicate n (new_kernel true)
first_kernels k zero = refl
first_kernels k (suc n) = ap (λ ks. new_kernel true ∷ ks) (first_kernels (suc k) n)

pub replicate_len : {A : Type 0} (n : ℕ) (x : A) → length (replicate n x) ≡ n
replicate_len zero x = refl
replicate_len (suc n) x = ap suc (replicate_len n x)

pub first_parts : (n : ℕ) (bs : List Bool) (os : List (Option ℕ)) (hs : List Held) → bs ≡ false ∷ replicate n true → os ≡ None ∷ replicate n None → hs ≡ [] → AreParts bs os hs None
first_parts n bs os hs b o h = record {
  places = ap length o ∙ ap suc (replicate_len n None) ∙ sym (ap length b ∙ ap suc (replicate_len n true));
  within = λ k far. ap (locks_by k) h;
  sound = tt;
}

pub first_core : (set : Setup) (n : ℕ) (d : Definitions) (qs : List (Kept Bundle)) (bs : List Bool) (os : List (Option ℕ)) (hs : List Held) (ids : List ℕ) (ts : List Text)
    → d ≡ empty → qs ≡ [] → bs ≡ false ∷ replicate n true → os ≡ None ∷ replicate n None → hs ≡ [] → ids ≡ [] → ts ≡ [] → set.kernels ≡ n
    → core_in d qs (kernels_in 0 bs os hs) None ids ts false false ≡ start set
first_core set n d qs bs os hs ids ts ds is b o h fs ls count =
    let all : kernels_in 0 bs os hs ≡ kernels_in 0 (false ∷ replicate n true) (None ∷ replicate n None) [] = λ i. kernels_in 0 (b i) (o i) (h i) in
    let ks : kernels_in 0 bs os hs ≡ new_kernel false ∷ replicate set.kernels (new_kernel true) =
    all ∙ ap (λ xs. new_kernel false ∷ xs) (first_kernels 1 n ∙ ap (λ m. replicate m (new_kernel true)) (sym count)) in
    λ i. core_in (ds i) (is i) (ks i) None (fs i) (ls i) false false

-- the item of an id, and its bundle
nth_kept : {A : Type 0} (f : Queued → A) (qs : List (Kept Bundle)) (n : ℕ) → option_map (λ q. f (queued (λ b. b) q)) (nth qs n) ≡ option_map f (nth (items_of qs) n)
nth_kept f [] n = refl
nth_kept f (q ∷ qs) zero = refl
nth_kept f (q ∷ qs) (suc n) = nth_kept f qs n

pub item_here : (c : Core) (qs : List (Kept Bundle)) (id : ℕ) → items_of qs ≡ c.items → kept.item_at qs id ≡ item_of c id
item_here c qs zero e = refl
item_here c qs (suc n) e = nth_kept (λ q. q.item) qs n ∙ ap (λ (xs : List Queued). option_map (λ (q : Queued). q.item) (nth xs n)) e

pub bundle_here : (c : Core) (qs : List (Kept Bundle)) (id : ℕ) → items_of qs ≡ c.items → kept.bundle_at qs id ≡ bundle_of c id
bundle_here c qs zero e = refl
bundle_here c qs (suc n) e = nth_kept (λ q. q.bundle) qs n ∙ ap (λ (xs : List Queued). option_map (λ (q : Queued). q.bundle) (nth xs n)) e

some_status : (o : Option Queued) (s : Status) → elim o as (λ _. Option Status) [ None ↦ None | Some q ↦ Some q.status ] ≡ Some s → ((q : Queued) → o ≡ Some q → ⊥) → ⊥
some_status None s e none = let no : None ≡ Some s = e in cc
some_status (Some q) s e none = none q refl

pub has_item : (c : Core) (id : ℕ) (s : Status) → status_of c id ≡ Some s → item_of c id ≡ None → ⊥
has_item c id s e none = some_status (item_at c id) s e (λ q is. let no : None ≡ Some q.item = sym none ∙ ap (option_map (λ x. x.item)) is in cc)

pub has_bundle : (c : Core) (id : ℕ) (s : Status) → status_of c id ≡ Some s → bundle_of c id ≡ None → ⊥
has_bundle c id s e none = some_status (item_at c id) s e (λ q is. let no : None ≡ Some q.bundle = sym none ∙ ap (option_map (λ x. x.bundle)) is in cc)

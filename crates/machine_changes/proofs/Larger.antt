-- A left side that is threaded to a List larger or deeper than any expression: nothing is assigned to it, and nothing is taken away.
use Rattle.std.proofs.Common.{◌≡◌, ◌∙◌, ◌≤◌, ◌<◌, ◌+◌, refl, sym, ap, subst, inl, inr, ℕ, zero, suc, Bool, true, false, List, [], ◌∷◌, ◌++◌, Option, Some, None, Ok, arith, length, drop, drop-cons, get_or, true≢false}
use Rattle.std.proofs.lemmas.Bool.{eqb-true, eq-eqb}
use Rattle.std.specs.Prelude.{◌||◌, ◌==◌, is_some}
use Rattle.expr_tree.specs.declared.sym.Sym.{Sym}
use Rattle.expr_tree.specs.Order.{same, same_symbol}
use Rattle.expr_tree.specs.Substitution.{among}
use Rattle.expr_tree.specs.Tree.{Tree, integer, string, symbol, normal, trees, size, depth}
use Rattle.expr_tree.proofs.Same.{tree_eq-true}
use Rattle.expr_tree.proofs.Trees.{elements-trees}
use Rattle.semantics.specs.declared.builtin.Builtin.{Builtin}
use Rattle.semantics.specs.Names.{IsNames, Names, is_call, is_name, items_of, known, make, name}
use Rattle.semantics.specs.Assemble.{check_all, threaded}
use Rattle.semantics.specs.Assign.{Form, ToHead, ToItems, ToTag, Up, Down, Target, Why, IsProtected, NoSymbol, Nested, NoTag, add_symbol, all_at, asked_symbols, has_no_symbol, first_protected, inner, is_nested, is_that, is_wrapper, item_symbols, places, places_in, refusal}
use Rattle.semantics.specs.Changes.{any_shared, assign, attach_all, attaches_shared, holders, holding, holds, protected_in, see_all, unless_item, unset_from}
use Rattle.semantics.specs.Control.{failed, null}
use Rattle.semantics.specs.Definitions.{Attributes, Definition, Definitions, definition_of, has}
use Rattle.semantics.specs.Play.{Evaluator, Setting, State, run, seen}
use Rattle.semantics.specs.Program.{Prog, Ask, Done, Seen, Mode, Cell, Item, Service}
use Rattle.semantics.specs.Rule.{Rule, has_left}
use Rattle.semantics.specs.Steps.{all_of_length, first_length, tails_of, thread, threads}
use Rattle.name_table.specs.Table.{NameTable}
use Rattle.builtin_names.specs.Named.{names_in}
use Rattle.kernel_defs.proofs.Entries.{same_itself}
use Rattle.kernel_defs.proofs.Wrappers.{inner_of_other}
use Rattle.kernel_defs.proofs.Runs.{seen_all, see_all_runs}
use Rattle.machine_steps.specs.Steps.{state_at}
use Rattle.expr_tree.specs.Shapes.{symbol_of}
use Rattle.machine_changes.specs.Unsetting.{unset_at}
use Rattle.machine_changes.proofs.Going.{Leads}
use Rattle.kernel_defs.specs.declared.targets.Form as code
use Rattle.kernel_defs.specs.Targets.{form_of}
use Rattle.machine_changes.specs.Assigning.{asks_right, assigned, begun, is_delayed}
use Rattle.machine_changes.specs.Shapes.{symbol_in}
use Rattle.machine_changes.specs.declared.left_call.LeftSide.{LeftSide}
use Rattle.machine_changes.specs.Effects.{Evaluates}
use Rattle.machine_changes.specs.Larger.{AreUnder, IsLarge, Replaces}

-- ---- the symbols of the calls that a left side is threaded to

or_true : (a b : Bool) → b ≡ true → (a || b) ≡ true
or_true true b h = refl
or_true false b h = h

among_behind : (s : Sym) (ss : List Sym) → among s (ss ++ s ∷ []) ≡ true
among_behind s [] = ap (λ b. b || false) (same_itself s)
among_behind s (t ∷ ss) = or_true (same_symbol s t) (among s (ss ++ s ∷ [])) (among_behind s ss)

among_added : (s : Sym) (ss : List Sym) → among s (add_symbol (Some s) ss) ≡ true
among_added s ss = go (among s ss) refl
  where
    go : (b : Bool) → among s ss ≡ b → among s (elim b [ true ↦ ss | false ↦ ss ++ s ∷ [] ]) ≡ true
    go true h = h
    go false h = among_behind s ss

added_again : (s : Sym) (ss : List Sym) → among s ss ≡ true → add_symbol (Some s) ss ≡ ss
added_again s ss h = ap (λ b. elim b as (λ _. List Sym) [ true ↦ ss | false ↦ ss ++ s ∷ [] ]) h

threads_again : (names : Names) (s : Sym) (n : ℕ) (items : List Tree) (ss : List Sym) → among s ss ≡ true → item_symbols (threads names s n items) ss ≡ ss
threads_again names s zero items ss h = refl
threads_again names s (suc n) items ss h =
    ap (item_symbols (threads names s n (tails_of names items))) (added_again s ss h) ∙ threads_again names s n (tails_of names items) ss h

threads_under : (names : Names) (s : Sym) (n : ℕ) (items : List Tree) → (threads names s n items ≡ [] → ⊥) → AreUnder s (threads names s n items)
threads_under names s zero items h = absurd (h refl)
threads_under names s (suc n) items h = λ ss. threads_again names s n (tails_of names items) (add_symbol (Some s) ss) (among_added s ss)

threaded_from : (names : Names) (s : Sym) (items each : List Tree) → thread names s items ≡ Some each → (each ≡ [] → ⊥) → AreUnder s each
threaded_from names s items each h e = go (first_length names items) h
  where
    by_length : (n : ℕ) (b : Bool) → elim b as (λ _. Option (List Tree)) [ true ↦ Some (threads names s n items) | false ↦ None ] ≡ Some each → AreUnder s each
    by_length n true g = let is : threads names s n items ≡ each = cc in subst (AreUnder s) is (threads_under names s n items (λ none. e (sym is ∙ none)))
    by_length n false g = absurd (cc)

    go : (o : Option ℕ) → elim o as (λ _. Option (List Tree)) [
      | None ↦ None
      | Some n ↦ elim (all_of_length names n items) [ true ↦ Some (threads names s n items) | false ↦ None ]
    ] ≡ Some each → AreUnder s each
    go None g = absurd (cc)
    go (Some n) g = by_length n (all_of_length names n items) g

threaded_by : (names : Names) (s : Sym) (b : Bool) (items each : List Tree) → elim b as (λ _. Option (List Tree)) [ true ↦ thread names s items | false ↦ None ] ≡ Some each
    → (each ≡ [] → ⊥) → AreUnder s each
threaded_by names s true items each h e = threaded_from names s items each h e
threaded_by names s false items each h e = absurd (cc)

pub threaded_under : (names : Names) (head : Tree) (a : Attributes) (items each : List Tree) (s : Sym) → symbol_in head ≡ Some s → threaded names head a items ≡ Some each
    → (each ≡ [] → ⊥) → AreUnder s each
threaded_under names (symbol t) a items each s g h e = let is : t ≡ s = cc in subst (λ x. AreUnder x each) is (threaded_by names t (has Builtin.Listable a) items each h e)
threaded_under names (integer n) a items each s g h e = absurd (cc)
threaded_under names (string t) a items each s g h e = absurd (cc)
threaded_under names (normal h' es) a items each s g h e = absurd (cc)

pub threaded_at_symbol : (names : Names) (head : Tree) (a : Attributes) (items each : List Tree) → symbol_in head ≡ None → threaded names head a items ≡ Some each → ⊥
threaded_at_symbol names (symbol t) a items each g h = cc
threaded_at_symbol names (integer n) a items each g h = cc
threaded_at_symbol names (string t) a items each g h = cc
threaded_at_symbol names (normal h' es) a items each g h = cc

pub large_some : (names : Names) (each : List Tree) → IsLarge (make names Builtin.List each) → each ≡ [] → ⊥
large_some names [] (inl p) e = omega (arith, p)
large_some names [] (inr p) e = omega (arith, p)
large_some names (x ∷ xs) p e = cc

pub large_stands : {set : Setting} (head : Sym) (each : List Tree) (e : Tree) → ((each ≡ [] → ⊥) → AreUnder head each) → IsLarge (make set.names Builtin.List each)
    → e ≡ make set.names Builtin.List (symbol head ∷ []) → ((p : Prog) (ev : Evaluator) (st : State) → run set ev (check_all each p) st ≡ run set ev p st)
    → Evaluates set (λ k. check_all each (k (make set.names Builtin.List each))) (Ok (LeftSide.Large e))
large_stands {set = set} head each e under large instead fits =
    let l = make set.names Builtin.List each in
    record {
      by = (
        l,
        record { head = head; each = each; is = refl; under = under (large_some set.names each large); large = large; instead = instead },
        (λ k ev st. fits (k l) ev st),
      );
    }

-- ---- a List is no wrapper

role_here : (table : NameTable) → IsNames (names_in table) → (row : Builtin) → (names_in table).role ((names_in table).place row) ≡ Some row
role_here table has row = has.found row

other_name : (table : NameTable) → IsNames (names_in table) → (row : Builtin) → (Some row ≡ Some Builtin.List → ⊥) → is_name (names_in table) row (name (names_in table) Builtin.List) ≡ false
other_name table has row apart = go ((names_in table).place Builtin.List == (names_in table).place row) refl
  where
    go : (b : Bool) → ((names_in table).place Builtin.List == (names_in table).place row) ≡ b → ((names_in table).place Builtin.List == (names_in table).place row) ≡ false
    go false e = e
    go true e =
        absurd (apart (
        sym (role_here table has row)
        ∙ ap (names_in table).role (sym (eqb-true ((names_in table).place Builtin.List) ((names_in table).place row) e))
        ∙ role_here table has Builtin.List))

no_wrapper : (table : NameTable) → IsNames (names_in table) → (es : List Tree) → is_wrapper (names_in table) (name (names_in table) Builtin.List) (trees es) ≡ false
no_wrapper table has [] = refl
no_wrapper table has (e ∷ []) = other_name table has Builtin.HoldPattern (λ e. absurd (cc))
no_wrapper table has (e ∷ f ∷ []) = other_name table has Builtin.Condition (λ e. absurd (cc))
no_wrapper table has (e ∷ f ∷ g ∷ es) = refl

pub inner_list : (table : NameTable) → IsNames (names_in table) → (es : List Tree) → inner (names_in table) (make (names_in table) Builtin.List es) ≡ make (names_in table) Builtin.List es
inner_list table has es = inner_of_other (names_in table) (name (names_in table) Builtin.List) es (no_wrapper table has es)

-- ---- nothing is assigned to a List

nested_list : (names : Names) (es : List Tree) → is_nested names (make names Builtin.List es) ≡ true
nested_list names es = or_true (is_call names Builtin.Part (make names Builtin.List es)) (is_call names Builtin.List (make names Builtin.List es)) (eq-eqb (names.place Builtin.List) (names.place Builtin.List) refl)

abbrev cause : Option Sym → Bool → Bool → List Target → Option Why
cause protected no_symbol nested targets =
    elim protected [
      | Some s ↦ Some (IsProtected s)
      | None ↦ elim no_symbol [
        | true ↦ Some NoSymbol
        | false ↦ elim nested [
          | true ↦ Some Nested
          | false ↦ elim targets [ [] ↦ Some NoTag | _ ↦ None ]
        ]
      ]
    ]

has_cause : (protected : Option Sym) (no_symbol nested : Bool) (targets : List Target) → nested ≡ true → is_some (cause protected no_symbol nested targets) ≡ true
has_cause (Some s) no_symbol nested targets h = refl
has_cause None true nested targets h = refl
has_cause None false true targets h = refl
has_cause None false false targets h = absurd (true≢false (sym h))

list_refused : (table : NameTable) → IsNames (names_in table) → (protected : Sym → Bool) (form : Form) (es : List Tree) → is_some (refusal (names_in table) protected form (make (names_in table) Builtin.List es)) ≡ true
list_refused table has protected form es =
    let names = names_in table in
    let l = make names Builtin.List es in
    has_cause (first_protected protected (asked_symbols form (places names form l))) (has_no_symbol names form l) (is_nested names (inner names l)) (places names form l)
    (ap (is_nested names) (inner_list table has es) ∙ nested_list names es)

abbrev by_cause : Names → List Target → Tree → Tree → Prog → Option Why → Prog
by_cause names targets left right p why = elim why [ None ↦ attach_all names targets left right p | Some why ↦ failed names ]

fails_by : (names : Names) (targets : List Target) (left right : Tree) (p : Prog) (why : Option Why) → is_some why ≡ true → by_cause names targets left right p why ≡ failed names
fails_by names targets left right p (Some why) h = refl
fails_by names targets left right p None h = absurd (true≢false (sym h))

-- what becomes of it, by its targets
abbrev refusing : Names → Form → List Target → Prog
refusing names form targets = see_all (asked_symbols form targets) (λ seen. unless_item names (attaches_shared targets seen) (failed names))

assign_refuses : (table : NameTable) → IsNames (names_in table) → (form : Form) (es : List Tree) (right : Tree) (p : Prog)
    → assign (names_in table) form (make (names_in table) Builtin.List es) right p ≡ refusing (names_in table) form (places (names_in table) form (make (names_in table) Builtin.List es))
assign_refuses table has form es right p =
    let names = names_in table in
    let l = make names Builtin.List es in
    λ i. see_all (asked_symbols form (places names form l)) (λ seen. unless_item names (attaches_shared (places names form l) seen) (
    fails_by names (places names form l) l right p (refusal names (protected_in seen) form l) (list_refused table has (protected_in seen) form es) i))

symbols_made : (names : Names) (es : List Tree) → item_symbols (items_of (make names Builtin.List es)) [] ≡ item_symbols es []
symbols_made names es = ap (λ xs. item_symbols xs []) (elements-trees es)

places_alike : (names : Names) (form : Form) (es fs : List Tree) → item_symbols es [] ≡ item_symbols fs [] → places_in form (make names Builtin.List es) ≡ places_in form (make names Builtin.List fs)
places_alike names ToHead es fs h = refl
places_alike names ToItems es fs h = ap (all_at Up) (symbols_made names es ∙ h ∙ sym (symbols_made names fs))
places_alike names (ToTag t) es fs h =
    ap
    (λ ss. elim (is_that t (Some (known names Builtin.List))) as (λ _. List Target) [
      | true ↦ record { symbol = t; place = Down } ∷ []
      | false ↦ elim (among t ss) [ true ↦ record { symbol = t; place = Up } ∷ [] | false ↦ [] ]
    ])
    (symbols_made names es ∙ h ∙ sym (symbols_made names fs))

-- Lists whose items have the same symbols are alike to an assignment
assign_alike : (table : NameTable) → IsNames (names_in table) → (form : Form) (es fs : List Tree) (right : Tree) (p : Prog) → item_symbols es [] ≡ item_symbols fs []
    → assign (names_in table) form (make (names_in table) Builtin.List es) right p ≡ assign (names_in table) form (make (names_in table) Builtin.List fs) right p
assign_alike table has form es fs right p h =
    let names = names_in table in
    assign_refuses table has form es right p
    ∙ ap (refusing names form) (
    ap (places_in form) (inner_list table has es) ∙ places_alike names form es fs h ∙ sym (ap (places_in form) (inner_list table has fs)))
    ∙ sym (assign_refuses table has form fs right p)

assigned_alike : (table : NameTable) → IsNames (names_in table) → (form : code.Form) (e l right : Tree) → Replaces (names_in table) e l
    → assigned (names_in table) form right l ≡ assigned (names_in table) form right e
assigned_alike table has form e l right r =
    let names = names_in table in
    let p : Prog = elim (is_delayed form) [ true ↦ null names | false ↦ Done right ] in
    ap (λ x. assign names (form_of form) x right p) r.is
    ∙ assign_alike table has (form_of form) r.each (symbol r.head ∷ []) right p (r.under [])
    ∙ ap (λ x. assign names (form_of form) x right p) (sym r.instead)

pub begun_alike : (table : NameTable) → IsNames (names_in table) → (form : code.Form) (e l right : Tree) → Replaces (names_in table) e l
    → begun (names_in table) form right l ≡ begun (names_in table) form right e
begun_alike table has form e l right r =
    λ i. elim (asks_right form) [ true ↦ Ask right (λ v. assigned_alike table has form e l v r i) | false ↦ assigned_alike table has form e l right r i ]

-- ---- no rule has such a left side

pub not_large : (l e : Tree) → IsLarge l → size e ≤ 4000000 → depth e ≤ 512 → same e l ≡ false
not_large l e large small shallow = go (same e l) refl large
  where
    go : (b : Bool) → same e l ≡ b → IsLarge l → same e l ≡ false
    go false h m = h
    go true h (inl m) = let p : size e ≡ size l = ap size (tree_eq-true e l h) in absurd (omega arith)
    go true h (inr m) = let p : depth e ≡ depth l = ap depth (tree_eq-true e l h) in absurd (omega arith)

no_left : (l : Tree) (r : Rule) (rs : List Rule) → same r.left l ≡ false → has_left l (r ∷ rs) ≡ has_left l rs
no_left l r rs h = ap (λ b. elim b as (λ _. Bool) [ true ↦ true | false ↦ has_left l rs ]) h

pub one_small : (l : Tree) (rs : List Rule) (i : ℕ) (r : Rule) → IsLarge l → i < length rs → r ≡ get_or rs i r → size r.left ≤ 4000000 → depth r.left ≤ 512
    → has_left l (drop (i + 1) rs) ≡ has_left l (drop i rs)
one_small l rs i r large p g small shallow =
    let e : i + 1 ≡ suc i = omega arith in
    ap (λ k. has_left l (drop k rs)) e
    ∙ sym (no_left l r (drop (suc i) rs) (not_large l r.left large small shallow))
    ∙ ap (λ x. has_left l (x ∷ drop (suc i) rs)) g
    ∙ ap (has_left l) (sym (drop-cons rs i r p))

holds_none : (l : Tree) (x : Definition) → IsLarge l → has_left l x.downs ≡ false → has_left l x.ups ≡ false → holds l x ≡ false
holds_none (normal h es) x large d u = ap (λ b. b || has_left (normal h es) x.ups) d ∙ u
holds_none (integer n) x large d u = ap (λ b. b || has_left (integer n) x.ups) d ∙ u
holds_none (string t) x large d u = ap (λ b. b || has_left (string t) x.ups) d ∙ u
holds_none (symbol s) x (inl p) d u = absurd (omega (arith, p))
holds_none (symbol s) x (inr p) d u = absurd (omega (arith, p))

next_none : (names : Names) (d : Definitions) (l : Tree) (xs : List Sym) (i : ℕ) (s : Sym) → IsLarge l → i < length xs
    → has_left l (definition_of names d (get_or xs i s)).downs ≡ false → has_left l (definition_of names d (get_or xs i s)).ups ≡ false
    → holding l (seen_all names d (drop (i + 1) xs)) ≡ holding l (seen_all names d (drop i xs))
next_none names d l xs i s large p downs ups =
    let e : i + 1 ≡ suc i = omega arith in
    let x = get_or xs i s in
    let rest = holding l (seen_all names d (drop (suc i) xs)) in
    ap (λ k. holding l (seen_all names d (drop k xs))) e
    ∙ ap (λ b. elim b as (λ _. List (Sym × Seen)) [ true ↦ (x, seen names d x) ∷ rest | false ↦ rest ]) (sym (holds_none l (definition_of names d x) large downs ups))
    ∙ ap (λ ys. holding l (seen_all names d ys)) (sym (drop-cons xs i s p))

-- one symbol more; `xs` are the symbols as a slice
pub held_none : (names : Names) (d : Definitions) (l : Tree) (xs ss : List Sym) (i : ℕ) (s : Sym) → xs ≡ ss → IsLarge l → i < length xs
    → has_left l (definition_of names d (get_or xs i s)).downs ≡ false → has_left l (definition_of names d (get_or xs i s)).ups ≡ false
    → holding l (seen_all names d (drop (i + 1) ss)) ≡ holding l (seen_all names d (drop i ss))
held_none names d l xs ss i s e large p downs ups =
    ap (λ ys. holding l (seen_all names d (drop (i + 1) ys))) (sym e)
    ∙ next_none names d l xs i s large p downs ups
    ∙ ap (λ ys. holding l (seen_all names d (drop i ys))) e

-- ---- Unset of such a List

holders_made : (table : NameTable) → IsNames (names_in table) → (es : List Tree) → holders (names_in table) (make (names_in table) Builtin.List es) ≡ item_symbols es (known (names_in table) Builtin.List ∷ [])
holders_made table has es =
    let names = names_in table in
    ap (λ x. item_symbols (items_of x) (add_symbol (symbol_of x) [])) (inner_list table has es)
    ∙ ap (λ xs. item_symbols xs (known names Builtin.List ∷ [])) (elements-trees es)

holders_alike : (table : NameTable) → IsNames (names_in table) → (e l : Tree) → Replaces (names_in table) e l → holders (names_in table) l ≡ holders (names_in table) e
holders_alike table has e l r =
    let names = names_in table in
    ap (holders names) r.is
    ∙ holders_made table has r.each
    ∙ r.under (known names Builtin.List ∷ [])
    ∙ sym (holders_made table has (symbol r.head ∷ []))
    ∙ ap (holders names) (sym r.instead)

item_fails : (set : Setting) (b : Bool) {d : Definitions} {used : Bool} → Leads set (unless_item set.names b (failed set.names)) d used (failed set.names) d (b || used)
item_fails set false = record { by = λ ev steps o. refl }
item_fails set true {d = d} = record { by = λ ev steps o. go ev steps o set.mode }
  where
    go : (ev : Evaluator) (steps : ℕ) (o : Option (List Sym)) (m : Mode)
        → run set ev (elim m as (λ _. Prog) [ Item ↦ failed set.names | _ ↦ failed set.names ]) (state_at d true steps o) ≡ run set ev (failed set.names) (state_at d true steps o)
    go ev steps o Item = refl
    go ev steps o Cell = refl
    go ev steps o Service = refl

pub unset_large : (set : Setting) (table : NameTable) → IsNames (names_in table) → (e l : Tree) (ss : List Sym) (b : Bool) {d : Definitions} {used used' : Bool} → set.names ≡ names_in table
    → Replaces set.names e l → ss ≡ holders set.names e → b ≡ any_shared (seen_all set.names d ss) → used' ≡ (b || used) → holding l (seen_all set.names d ss) ≡ []
    → Leads set (unset_at set.names l) d used (failed set.names) d used'
unset_large set table has e l ss b {d = d} {used = used} n r s f u h =
    let alike : holders set.names l ≡ ss = subst (λ names. Replaces names e l → holders names l ≡ holders names e) (sym n) (holders_alike table has e l) r ∙ sym s in
    record {
      by = λ ev steps o.
          ap (λ xs. run set ev (see_all xs (λ seen. unless_item set.names (any_shared seen) (unset_from set.names l (holding l seen)))) (state_at d used steps o)) alike
          ∙ see_all_runs set ev ss (λ seen. unless_item set.names (any_shared seen) (unset_from set.names l (holding l seen))) (state_at d used steps o)
          ∙ ap (λ es. run set ev (unless_item set.names (any_shared (seen_all set.names d ss)) (unset_from set.names l es)) (state_at d used steps o)) h
          ∙ ap (λ c. run set ev (unless_item set.names c (failed set.names)) (state_at d used steps o)) (sym f)
          ∙ (item_fails set b {d = d} {used = used}).by ev steps o
          ∙ ap (λ v. run set ev (failed set.names) (state_at d v steps o)) (sym u);
    }

-- The search of a pattern has the answers that the definition lists, in its order.
use Rattle.std.proofs.Common.{◌≡◌, ℕ, ◌+◌, List, [], ◌∷◌, ◌++◌, map, length, Bool, true, false, ◌&&◌, ◌==◌, ltb, min, max, ◌-◌, ◌<◌, ◌⊎◌, inl, inr, subst, None, Some, Option, if◌then◌else◌, append-nil, refl, ap, sym, ◌∙◌, arith, ne_eqb, lt-ltb, ◌≤◌}
use Rattle.expr_tree.specs.declared.sym.Sym.{Sym}
use Rattle.expr_tree.specs.Tree.{Tree, integer, string, symbol, normal, Trees, nil, cons, elements, count}
use Rattle.expr_tree.specs.Substitution.{value_of}
use Rattle.semantics.specs.Match as match
use Rattle.semantics.specs.Match.{Guard, Test, Cond, Found, Matching, Matcher, Element, Taken, also_taken, also_left, runs, choices, choices_up_to, ways, joined, same_run, have_head, guarded, when, bind, literal, match_items, match_normal, match_any, match_named, how_of, Kind, blank, sequence, null_sequence, pattern, test, condition, alternatives, hold, verbatim, other, kind, construct, matcher, matchers, matches, nothing_found}
use Rattle.match_seq.specs.Search.{answer, answers, Next, Finder, Use, go_on, go_with, find_literal, bound, find_first, find_items, find_normal, find_any, find_named, find_form, adding, find, parts, wraps, extent, least_of, least_size, greatest_size, fewest, is_bounded, all_bounded, trees_of}
use Rattle.semantics.specs.Names.{Names}
use Rattle.match_seq.specs.declared.constructs.Constructs.{Constructs}
use Rattle.match_seq.specs.declared.constructs.Form.TheVariants as form
use Rattle.match_seq.specs.Origin.{constructs_of}
use Rattle.match_seq.proofs.KindForms.{form_by, form_is, wrapped_is, zero_or_one-more, only_one-more, only_two-more}
use Rattle.laws_matching.proofs.Joins.{joined-append, joined-joined, joined-map, joined-same, joined-one, joined-singles, joined-none}
use Rattle.laws_matching.specs.Bounds as law
use Rattle.laws_matching.proofs.Patterns.{up_to_one}
use Rattle.laws_matching.proofs.Bounds.{below, under_least, too_few, too_many}
use Rattle.match_seq.proofs.Extents.{extent_is, fewest_is, bounded_is, all_bounded_is, trees_of-parts}
use Rattle.match_seq.proofs.Windows.{of_ways, Outside, finds_within}

-- the answers to what goes on
abbrev pub answers_of : Next → Found → List Found
answers_of next f = answers (next f)

abbrev pub Finds : Finder → Matcher → Type 0
Finds finder m = (run : List Tree) (next : Next) (found : Found) → answers (finder run next found) ≡ joined (map (answers_of next) (m run found))

pub go_on-when : (b : Bool) (next : Next) (found : Found) → answers (go_on b next found) ≡ joined (map (answers_of next) (when b found))
go_on-when true next found = sym (append-nil (answers (next found)))
go_on-when false next found = refl

pub finds_literal : (p : Tree) → Finds (find_literal p) (literal p)
finds_literal p run next found = go_on-when (same_run (p ∷ []) run) next found

-- the matcher's part of the proof, by the pattern
pub length_one : (run : List Tree) → (length run == 1) ≡ match.is_one run
length_one [] = refl
length_one (e ∷ []) = refl
length_one (e ∷ f ∷ run) = ne_eqb (length (e ∷ f ∷ run)) 1 (λ e. absurd (omega arith))

pub length_some : (run : List Tree) → ltb 0 (length run) ≡ match.is_some_run run
length_some [] = refl
length_some (e ∷ run) = lt-ltb 0 (length (e ∷ run)) (omega arith)

abbrev find_by : Sym → List Tree → Option (List Tree) → Next → Next
find_by s run old next found = go_with (elim old [ None ↦ Some (bound s run found) | Some old ↦ if same_run old run then Some found else None ]) next

abbrev bind_by : Sym → List Tree → Option (List Tree) → Found → List Found
bind_by s run old found =
    elim old [
      | None ↦ record { binding = found.binding ++ (s, run) ∷ []; guards = found.guards } ∷ []
      | Some old ↦ elim (same_run old run) [ true ↦ found ∷ [] | false ↦ [] ]
    ]

finds_bound : (s : Sym) (run : List Tree) (old : Option (List Tree)) (finder : Finder) (m : Matcher) → Finds finder m → (next : Next) (found : Found) → answers (find_by s run old (finder run next) found) ≡ joined (map (answers_of next) (joined (map (m run) (bind_by s run old found))))
finds_bound s run None finder m is next found =
    is run next (bound s run found) ∙ sym (ap (λ fs. joined (map (answers_of next) fs)) (joined-one (m run) (bound s run found)))
finds_bound s run (Some old) finder m is next found = by_same (same_run old run)
  where
    by_same : (b : Bool) → answers (go_with (if b then Some found else None) (finder run next)) ≡ joined (map (answers_of next) (joined (map (m run) (elim b [ true ↦ found ∷ [] | false ↦ [] ]))))
    by_same true = is run next found ∙ sym (ap (λ fs. joined (map (answers_of next) fs)) (joined-one (m run) found))
    by_same false = refl

finds_named : (x : Tree) (finder ordinary : Finder) (m plain : Matcher) → Finds finder m → Finds ordinary plain → Finds (find_named x finder ordinary) (match_named x m plain)
finds_named (integer n) finder ordinary m plain is also run next found = also run next found
finds_named (string t) finder ordinary m plain is also run next found = also run next found
finds_named (symbol s) finder ordinary m plain is also run next found = finds_bound s run (value_of found.binding s) finder m is next found
finds_named (normal h ps) finder ordinary m plain is also run next found = also run next found

finds_guarded : (guards : List Tree → List Guard) (finder : Finder) (m : Matcher) → Finds finder m → (run : List Tree) (next : Next) (found : Found) → answers (finder run (adding guards run next) found) ≡ joined (map (answers_of next) (map (guarded (guards run)) (m run found)))
finds_guarded guards finder m is run next found =
    is run (adding guards run next) found ∙ sym (joined-map (answers_of next) (guarded (guards run)) (m run found))

-- each pattern of a list is found, and is single where the definition says so
abbrev pub AllFind : Names → (Sym → Matching) → Trees → Type 0
AllFind names A nil = Unit {0}
AllFind names A (cons p ps) = Finds (find (constructs_of names) A p) (matcher names A p) × AllFind names A ps

-- the ways outside of the window have no answers
outside : (names : Names) (A : Sym → Matching) (how : Matching) (h p : Tree) (ps : Trees) (n : ℕ) (found : Found) (t : Taken) → length t.run + length t.left ≡ n → (length t.run < least_size (constructs_of names) how p ps n) ⊎ (greatest_size (constructs_of names) how p ps n < length t.run) → joined (map (match_items names how h (matchers names A ps) t.left) (matcher names A p (match.wrapped names how h p t.run) found)) ≡ []
outside names A how h p ps n found t whole out =
    by_side (extent_is names p) (fewest_is names ps) (bounded_is names how p) (all_bounded_is names how ps) out
  where
    cs : Constructs
    cs = constructs_of names

    m : List Found
    m = matcher names A p (match.wrapped names how h p t.run) found

    none_of_it : m ≡ [] → joined (map (match_items names how h (matchers names A ps) t.left) m) ≡ []
    none_of_it e = ap (λ fs. joined (map (match_items names how h (matchers names A ps) t.left) fs)) e

    none_of_others : ((f : Found) → match_items names how h (matchers names A ps) t.left f ≡ []) → joined (map (match_items names how h (matchers names A ps) t.left) m) ≡ []
    none_of_others none = joined-none (match_items names how h (matchers names A ps) t.left) m none

    -- too few for the first, or too many left for the others
    low : (b : Bool) → law.all_bounded names how ps ≡ b → length t.run < max (law.least_of (law.fills names p)) (if b then n - count ps else 0) → joined (map (match_items names how h (matchers names A ps) t.left) m) ≡ []
    low b e q = by_first (below (length t.run) (law.least_of (law.fills names p))) b e q
      where
        by_first : (length t.run < law.least_of (law.fills names p)) ⊎ (law.least_of (law.fills names p) ≤ length t.run) → (b : Bool) → law.all_bounded names how ps ≡ b → length t.run < max (law.least_of (law.fills names p)) (if b then n - count ps else 0) → joined (map (match_items names how h (matchers names A ps) t.left) m) ≡ []
        by_first (inl few) b e q = none_of_it (under_least names A how h p t.run found few)
        by_first (inr enough) true e q = none_of_others (λ f. too_many names A how h ps t.left f e (omega (arith, enough, q, whole)))
        by_first (inr enough) false e q = absurd (omega (arith, enough, q))

    high : (b : Bool) → law.is_bounded names how p ≡ b → min (if b then 1 else n) (n - law.least names ps) < length t.run → joined (map (match_items names how h (matchers names A ps) t.left) m) ≡ []
    high true e q = by_first (below 1 (length t.run))
      where
        by_first : (1 < length t.run) ⊎ (length t.run ≤ 1) → joined (map (match_items names how h (matchers names A ps) t.left) m) ≡ []
        by_first (inl many) = none_of_it (up_to_one names A how h p t.run found e many)
        by_first (inr one) = none_of_others (λ f. too_few names A how h ps t.left f (omega (arith, one, q, whole)))
    high false e q = none_of_others (λ f. too_few names A how h ps t.left f (omega (arith, q, whole)))

    by_side : extent cs p ≡ record { fills = law.fills names p; short = law.short names p } → fewest cs ps ≡ law.least names ps → is_bounded cs how p ≡ law.is_bounded names how p → all_bounded cs how ps ≡ law.all_bounded names how ps → (length t.run < least_size cs how p ps n) ⊎ (greatest_size cs how p ps n < length t.run) → joined (map (match_items names how h (matchers names A ps) t.left) m) ≡ []
    by_side e f b a (inl q) =
        low (law.all_bounded names how ps) refl (subst (λ k. length t.run < k) ((λ i. max (least_of (e i)) (if a i then n - count ps else 0))) q)
    by_side e f b a (inr q) =
        high (law.is_bounded names how p) refl (subst (λ k. k < length t.run) ((λ i. min (if b i then 1 else n) (n - f i))) q)

finds_items : (names : Names) (A : Sym → Matching) (how : Matching) (h : Tree) (ps : Trees) → AllFind names A ps → Finds (find_items (constructs_of names) how h (parts (constructs_of names) A ps)) (match_items names how h (matchers names A ps))
finds_items names A how h nil all [] next found = sym (append-nil (answers (next found)))
finds_items names A how h nil all (e ∷ es) next found = refl
finds_items names A how h (cons p ps) all es next found =
    let cs = constructs_of names in
    let m : List Tree → List Found = λ run. matcher names A p run found in
    let others : List Tree → Found → List Found = match_items names how h (matchers names A ps) in
    let way : Taken → List Found = λ t. joined (map (others t.left) (m (match.wrapped names how h p t.run))) in
    let fit : Use = find_first (wraps cs how p) h (record { tree = p; finder = find cs A p }) (find_items cs how h (parts cs A ps)) next found in
    let each : (t : Taken) → answers (fit t.run t.left) ≡ joined (map (answers_of next) (way t)) = λ t.
    (ap (λ run. answers (find cs A p run (find_items cs how h (parts cs A ps) t.left next) found)) (wrapped_is names how h p t.run)
    ∙ (all.0 (match.wrapped names how h p t.run) (find_items cs how h (parts cs A ps) t.left next) found
    ∙ (joined-same (answers_of (find_items cs how h (parts cs A ps) t.left next)) (λ f. joined (map (answers_of next) (others t.left f))) (m (match.wrapped names how h p t.run)) (λ f. finds_items names A how h ps all.1 t.left next f)
    ∙ sym (joined-joined (answers_of next) (others t.left) (m (match.wrapped names how h p t.run)))))) in
    let n : ℕ = length es in
    let low : ℕ = least_size cs how p (trees_of (parts cs A ps)) n in
    let high : ℕ = greatest_size cs how p (trees_of (parts cs A ps)) n in
    let none : Outside low high n (of_ways fit) = λ t whole out.
    each t ∙ ap (λ fs. joined (map (answers_of next) fs)) (outside names A how h p ps n found t whole (subst (λ qs. (length t.run < least_size cs how p qs n) ⊎ (greatest_size cs how p qs n < length t.run)) (trees_of-parts cs A ps) out)) in
    finds_within how.orderless low high fit es (omega arith) none
    ∙ (joined-same (of_ways fit) (λ t. joined (map (answers_of next) (way t))) (ways how.orderless es) each
    ∙ sym (joined-joined (answers_of next) way (ways how.orderless es)))

finds_any : (names : Names) (A : Sym → Matching) (ps : Trees) → AllFind names A ps → Finds (find_any (parts (constructs_of names) A ps)) (match_any (matchers names A ps))
finds_any names A nil all run next found = refl
finds_any names A (cons p ps) all run next found =
    (λ i. all.0 run next found i ++ finds_any names A ps all.1 run next found i)
    ∙ sym (joined-append (answers_of next) (matcher names A p run found) (match_any (matchers names A ps) run found))

finds_normal : (names : Names) (A : Sym → Matching) (how : Matching) (h : Tree) (ps : Trees) (head : Finder) (m : Matcher) → Finds head m → AllFind names A ps → Finds (find_normal (constructs_of names) how h head (parts (constructs_of names) A ps)) (match_normal names how h m (matchers names A ps))
finds_normal names A how h ps head m is all [] next found = refl
finds_normal names A how h ps head m is all (integer n ∷ run) next found = refl
finds_normal names A how h ps head m is all (string t ∷ run) next found = refl
finds_normal names A how h ps head m is all (symbol s ∷ run) next found = refl
finds_normal names A how h ps head m is all (normal g es ∷ e ∷ run) next found = refl
finds_normal names A how h ps head m is all (normal g es ∷ []) next found =
    let cs = constructs_of names in
    is (g ∷ []) (find_items cs how h (parts cs A ps) (elements es) next) found
    ∙ (joined-same (answers_of (find_items cs how h (parts cs A ps) (elements es) next)) (λ f. joined (map (answers_of next) (match_items names how h (matchers names A ps) (elements es) f))) (m (g ∷ []) found) (λ f. finds_items names A how h ps all (elements es) next f)
    ∙ sym (joined-joined (answers_of next) (match_items names how h (matchers names A ps) (elements es)) (m (g ∷ []) found)))

finds_form : (names : Names) (A : Sym → Matching) (k : Kind) (ps : Trees) → AllFind names A ps → (ordinary : Finder) (m : Matcher) → Finds ordinary m → Finds (find_form (form_by k (count ps)) (parts (constructs_of names) A ps) ordinary) (construct names k (matchers names A ps) m)
finds_form names A blank nil all ordinary m is run next found = rw (length_one run) (go_on-when (match.is_one run) next found)
finds_form names A blank (cons h nil) all ordinary m is run next found = rw (length_one run) (go_on-when (match.is_one run && have_head (h ∷ []) run) next found)
finds_form names A blank (cons h (cons p ps)) all ordinary m is run next found = rw (zero_or_one-more (count ps) form.One form.OneOf) (is run next found)
finds_form names A sequence nil all ordinary m is run next found = rw (length_some run) (go_on-when (match.is_some_run run) next found)
finds_form names A sequence (cons h nil) all ordinary m is run next found = rw (length_some run) (go_on-when (match.is_some_run run && have_head (h ∷ []) run) next found)
finds_form names A sequence (cons h (cons p ps)) all ordinary m is run next found = rw (zero_or_one-more (count ps) form.Some form.SomeOf) (is run next found)
finds_form names A null_sequence nil all ordinary m is run next found = sym (append-nil (answers (next found)))
finds_form names A null_sequence (cons h nil) all ordinary m is run next found = go_on-when (have_head (h ∷ []) run) next found
finds_form names A null_sequence (cons h (cons p ps)) all ordinary m is run next found = rw (zero_or_one-more (count ps) form.Any form.AnyOf) (is run next found)
finds_form names A pattern nil all ordinary m is run next found = is run next found
finds_form names A pattern (cons x nil) all ordinary m is run next found = is run next found
finds_form names A pattern (cons x (cons p nil)) all ordinary m is run next found =
    finds_named x (find (constructs_of names) A p) ordinary (matcher names A p) m all.1.0 is run next found
finds_form names A pattern (cons x (cons p (cons q ps))) all ordinary m is run next found = rw (only_two-more (count ps) form.Named) (is run next found)
finds_form names A test nil all ordinary m is run next found = is run next found
finds_form names A test (cons x nil) all ordinary m is run next found = is run next found
finds_form names A test (cons p (cons t nil)) all ordinary m is run next found =
    finds_guarded (map (Test t)) (find (constructs_of names) A p) (matcher names A p) all.0 run next found
finds_form names A test (cons x (cons p (cons q ps))) all ordinary m is run next found = rw (only_two-more (count ps) form.Tested) (is run next found)
finds_form names A condition nil all ordinary m is run next found = is run next found
finds_form names A condition (cons x nil) all ordinary m is run next found = is run next found
finds_form names A condition (cons p (cons c nil)) all ordinary m is run next found =
    finds_guarded (λ _. Cond c ∷ []) (find (constructs_of names) A p) (matcher names A p) all.0 run next found
finds_form names A condition (cons x (cons p (cons q ps))) all ordinary m is run next found = rw (only_two-more (count ps) form.Conditioned) (is run next found)
finds_form names A alternatives ps all ordinary m is run next found = finds_any names A ps all run next found
finds_form names A hold nil all ordinary m is run next found = is run next found
finds_form names A hold (cons p nil) all ordinary m is run next found = all.0 run next found
finds_form names A hold (cons p (cons q ps)) all ordinary m is run next found = rw (only_one-more (count ps) form.Held) (is run next found)
finds_form names A verbatim nil all ordinary m is run next found = is run next found
finds_form names A verbatim (cons p nil) all ordinary m is run next found = finds_literal p run next found
finds_form names A verbatim (cons p (cons q ps)) all ordinary m is run next found = rw (only_one-more (count ps) form.Verbatim) (is run next found)
finds_form names A other ps all ordinary m is run next found = is run next found

mutual
  pub finds : (names : Names) (A : Sym → Matching) (p : Tree) → Finds (find (constructs_of names) A p) (matcher names A p)
  finds names A (integer n) run next found = finds_literal (integer n) run next found
  finds names A (string t) run next found = finds_literal (string t) run next found
  finds names A (symbol s) run next found = finds_literal (symbol s) run next found
  finds names A (normal h ps) run next found =
      let cs = constructs_of names in
      let ordinary : Finder = find_normal cs (how_of A h) h (find cs A h) (parts cs A ps) in
      ap (λ f. answers (find_form f (parts cs A ps) ordinary run next found)) (form_is names h (count ps))
      ∙ finds_form names A (kind names h) ps (all_find names A ps) ordinary
      (match_normal names (how_of A h) h (matcher names A h) (matchers names A ps))
      (finds_normal names A (how_of A h) h ps (find cs A h) (matcher names A h) (finds names A h) (all_find names A ps))
      run next found

  pub all_find : (names : Names) (A : Sym → Matching) (ps : Trees) → AllFind names A ps
  all_find names A nil = tt
  all_find names A (cons p ps) = (finds names A p, all_find names A ps)

-- the search of a pattern has the answers of the definition, in its order
pub find-matches : (names : Names) (A : Sym → Matching) (p e : Tree) → answers (find (constructs_of names) A p (e ∷ []) answer nothing_found) ≡ matches names A p e
unfolding matches
find-matches names A p e = finds names A p (e ∷ []) answer nothing_found ∙ joined-singles (matcher names A p (e ∷ []) nothing_found)

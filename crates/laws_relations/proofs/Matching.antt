-- Related patterns have, on related expressions, related bindings in the same order.
use Rattle.std.proofs.Common.{◌≡◌, refl, ap, subst, ℕ, zero, suc, Bool, true, false, List, map, length}
use Rattle.std.specs.Prelude.{◌&&◌}
use Rattle.expr_tree.specs.declared.sym.Sym.{Sym}
use Rattle.expr_tree.specs.Tree.{Tree, normal, Trees}
use Rattle.semantics.specs.declared.builtin.Builtin.{Builtin}
use Rattle.semantics.specs.Names.{Names, is_name}
use Rattle.expr_tree.specs.Substitution.{Binding}
use Rattle.semantics.specs.Match.{Guard, Test, Cond, Found, nothing_found, Matching, Taken, runs, choices, choices_up_to, ways, first_is_symbol, is_single, first_is_single, second_is_single, wrapped, same_run, bind, guarded, when, have_head, is_one, is_some_run, Kind, blank, sequence, null_sequence, pattern, test, condition, alternatives, hold, verbatim, other, kind, Matcher, Element, literal, match_items, match_normal, match_any, match_named, construct, is_construct, how_of, matcher, matchers, matches, asked, heads, heads_in, guard_expression}
use Rattle.laws_relations.proofs.Relate.{All, all_nil, all_cons, branch, case, append2, map2, joined2, length2}
use Rattle.laws_relations.proofs.Relation.{Like, int, str, sym, node, Likes, ends, mores, LikeList, listed-like, call-like, count-like, head-like, Faithful, same-like, is_name-like, LikeBound}
use Rattle.laws_relations.proofs.PutInPlace.{value_of-like, put_in_place-like}

module _ (S : Sym → Sym → Type 0) where
  pub data LikeGuard : Guard → Guard → Type 0 where
    tests : {t u x y : Tree} → Like S t u → Like S x y → LikeGuard (Test t x) (Test u y)
    conditions : {c d : Tree} → Like S c d → LikeGuard (Cond c) (Cond d)

  pub record LikeTaken (t u : Taken) : Type 0 where
    run : LikeList S t.run u.run
    left : LikeList S t.left u.left

  runs-like : {es fs : List Tree} → LikeList S es fs → All LikeTaken (runs es) (runs fs)
  runs-like all_nil = all_cons (record { run = all_nil; left = all_nil }) all_nil
  runs-like (all_cons e es) = all_cons (record { run = all_nil; left = all_cons e es }) (map2 _ _ (λ t u one. record { run = all_cons e one.run; left = one.left }) (runs-like es))

  choices-like : (n : ℕ) {es fs : List Tree} → LikeList S es fs → All LikeTaken (choices n es) (choices n fs)
  choices-like zero es = all_cons (record { run = all_nil; left = es }) all_nil
  choices-like (suc n) all_nil = all_nil
  choices-like (suc n) (all_cons e es) =
      append2 (map2 _ _ (λ t u one. record { run = all_cons e one.run; left = one.left }) (choices-like n es))
      (map2 _ _ (λ t u one. record { run = one.run; left = all_cons e one.left }) (choices-like (suc n) es))

  choices_up_to-like : (n : ℕ) {es fs : List Tree} → LikeList S es fs → All LikeTaken (choices_up_to n es) (choices_up_to n fs)
  choices_up_to-like zero es = choices-like zero es
  choices_up_to-like (suc n) es = append2 (choices_up_to-like n es) (choices-like (suc n) es)

  ways-like : (b : Bool) {es fs : List Tree} → LikeList S es fs → All LikeTaken (ways b es) (ways b fs)
  ways-like true {es} {fs} l = subst (λ n. All LikeTaken (choices_up_to (length es) es) (choices_up_to n fs)) (length2 l) (choices_up_to-like (length es) l)
  ways-like false {es} {fs} l = runs-like l

  is_one-like : {es fs : List Tree} → LikeList S es fs → is_one es ≡ is_one fs
  is_one-like all_nil = refl
  is_one-like (all_cons e all_nil) = refl
  is_one-like (all_cons e (all_cons f es)) = refl

  is_some_run-like : {es fs : List Tree} → LikeList S es fs → is_some_run es ≡ is_some_run fs
  is_some_run-like all_nil = refl
  is_some_run-like (all_cons e es) = refl

  module _ (names : Names) (F : Faithful S names) where
    kind-like : {h g : Tree} → Like S h g → kind names h ≡ kind names g
    kind-like {h = h'} {g = g} h =
        step Builtin.Blank blank (step Builtin.BlankSequence sequence (step Builtin.BlankNullSequence null_sequence (step Builtin.Pattern pattern
        (step Builtin.PatternTest test (step Builtin.Condition condition (step Builtin.Alternatives alternatives (step Builtin.HoldPattern hold
        (step Builtin.Verbatim verbatim refl))))))))
      where
        step : (row : Builtin) (k : Kind) {m n : Kind} → m ≡ n
            → ◌≡◌ {A = Kind} (elim (is_name names row h') [ true ↦ k | false ↦ m ]) (elim (is_name names row g) [ true ↦ k | false ↦ n ])
        step row k e = branch (◌≡◌ {A = Kind}) (is_name-like S names F row h) refl e

    first_is_symbol-like : {ps qs : Trees} → Likes S ps qs → first_is_symbol ps ≡ first_is_symbol qs
    first_is_symbol-like ends = refl
    first_is_symbol-like (mores int ps) = refl
    first_is_symbol-like (mores str ps) = refl
    first_is_symbol-like (mores (sym s) ps) = refl
    first_is_symbol-like (mores (node h es) ps) = refl

    is_construct-like : {h g : Tree} {ps qs : Trees} → Like S h g → Likes S ps qs → is_construct names h ps ≡ is_construct names g qs
    is_construct-like h ps = rw (kind-like h, count-like S ps, first_is_symbol-like ps) refl

    mutual
      is_single-like : {p q : Tree} → Like S p q → is_single names p ≡ is_single names q
      is_single-like int = refl
      is_single-like str = refl
      is_single-like (sym s) = refl
      is_single-like (node h ps) = rw (is_construct-like h ps, kind-like h, first_is_single-like ps, second_is_single-like ps) refl

      first_is_single-like : {ps qs : Trees} → Likes S ps qs → first_is_single names ps ≡ first_is_single names qs
      first_is_single-like ends = refl
      first_is_single-like (mores p ps) = is_single-like p

      second_is_single-like : {ps qs : Trees} → Likes S ps qs → second_is_single names ps ≡ second_is_single names qs
      second_is_single-like ends = refl
      second_is_single-like (mores p ps) = first_is_single-like ps

    either-run : {a b : Bool} {es fs gs hs : List Tree} → a ≡ b → LikeList S es fs → LikeList S gs hs → LikeList S (elim a [ true ↦ es | false ↦ gs ]) (elim b [ true ↦ fs | false ↦ hs ])
    either-run e l m = branch (LikeList S) e l m

    wrapped-like : (how : Matching) {h g p q : Tree} {es fs : List Tree} → Like S h g → Like S p q → LikeList S es fs → LikeList S (wrapped names how h p es) (wrapped names how g q fs)
    wrapped-like how h p all_nil = all_nil
    wrapped-like how h p (all_cons e all_nil) = all_cons e all_nil
    wrapped-like how h p (all_cons e (all_cons f es)) =
        either-run (ap (λ b. how.flat && b) (is_single-like p)) (all_cons (call-like S h (all_cons e (all_cons f es))) all_nil) (all_cons e (all_cons f es))

    same_run-like : {es fs gs hs : List Tree} → LikeList S es fs → LikeList S gs hs → same_run es gs ≡ same_run fs hs
    same_run-like all_nil all_nil = refl
    same_run-like all_nil (all_cons g gs) = refl
    same_run-like (all_cons e es) all_nil = refl
    same_run-like (all_cons e es) (all_cons g gs) = branch (◌≡◌ {A = Bool}) (same-like S names F e g) (same_run-like es gs) refl

    pub record LikeFound (f g : Found) : Type 0 where
      pub binding : All (LikeBound S) f.binding g.binding
      pub guards : All LikeGuard f.guards g.guards

    bind-like : {s t : Sym} {es fs : List Tree} {f g : Found} → S s t → LikeList S es fs → LikeFound f g → All LikeFound (bind s es f) (bind t fs g)
    bind-like s es found =
        case (All LikeFound) (value_of-like S names F found.binding s)
        (all_cons (record { binding = append2 found.binding (all_cons (s, es) all_nil); guards = found.guards }) all_nil)
        (λ old old' alike. branch (All LikeFound) (same_run-like alike es) (all_cons found all_nil) all_nil)

    guarded-like : {gs hs : List Guard} → All LikeGuard gs hs → (f g : Found) → LikeFound f g → LikeFound (guarded gs f) (guarded hs g)
    guarded-like gs f g found = record { binding = found.binding; guards = append2 found.guards gs }

    when-like : {a b : Bool} {f g : Found} → a ≡ b → LikeFound f g → All LikeFound (when a f) (when b g)
    when-like {a = a} {b = b} {f = f} {g = g} e found = subst (λ c. All LikeFound (when a f) (when c g)) e (go a)
      where
        go : (c : Bool) → All LikeFound (when c f) (when c g)
        go true = all_cons found all_nil
        go false = all_nil

    have_head-like : {hs gs es fs : List Tree} → LikeList S hs gs → LikeList S es fs → have_head hs es ≡ have_head gs fs
    have_head-like hs all_nil = refl
    have_head-like all_nil (all_cons e es) = refl
    have_head-like (all_cons h hs) (all_cons e es) =
        case (◌≡◌ {A = Bool}) (head-like S e) refl (λ a b one. branch (◌≡◌ {A = Bool}) (same-like S names F h one) (have_head-like (all_cons h hs) es) refl)

    -- matchers that give related results
    abbrev pub LikeMatcher : Matcher → Matcher → Type 0
    LikeMatcher m n = (es fs : List Tree) → LikeList S es fs → (f g : Found) → LikeFound f g → All LikeFound (m es f) (n fs g)

    record LikeElement (p q : Element) : Type 0 where
      tree : Like S p.tree q.tree
      matcher : LikeMatcher p.matcher q.matcher

    literal-like : {p q : Tree} → Like S p q → LikeMatcher (literal p) (literal q)
    literal-like p es fs run f g found = when-like (same_run-like (all_cons p all_nil) run) found

    match_items-like : (how : Matching) {h k : Tree} {ps qs : List Element} → Like S h k → All LikeElement ps qs → LikeMatcher (match_items names how h ps) (match_items names how k qs)
    match_items-like how h all_nil es fs all_nil f g found = all_cons found all_nil
    match_items-like how h all_nil es fs (all_cons e run) f g found = all_nil
    match_items-like how h (all_cons p ps) es fs run f g found =
        joined2 (map2 _ _
        (λ t u taken. joined2 (map2 _ _ (λ x y one. match_items-like how h ps t.left u.left taken.left x y one) (p.matcher _ _ (wrapped-like how h p.tree taken.run) f g found)))
        (ways-like how.orderless run))

    match_normal-like : (how : Matching) (m n : Matcher) {h k : Tree} {ps qs : List Element} → Like S h k → LikeMatcher m n → All LikeElement ps qs
        → LikeMatcher (match_normal names how h m ps) (match_normal names how k n qs)
    match_normal-like how m' n' h m ps es fs all_nil f g found = all_nil
    match_normal-like how m' n' h m ps es fs (all_cons int run) f g found = all_nil
    match_normal-like how m' n' h m ps es fs (all_cons str run) f g found = all_nil
    match_normal-like how m' n' h m ps es fs (all_cons (sym s) run) f g found = all_nil
    match_normal-like how m' n' h m ps es fs (all_cons (node k ks) all_nil) f g found =
        joined2 (map2 _ _ (λ x y one. match_items-like how h ps _ _ (listed-like S ks) x y one) (m _ _ (all_cons k all_nil) f g found))
    match_normal-like how m' n' h m ps es fs (all_cons (node k ks) (all_cons e run)) f g found = all_nil

    match_any-like : {ps qs : List Element} → All LikeElement ps qs → LikeMatcher (match_any ps) (match_any qs)
    match_any-like all_nil es fs run f g found = all_nil
    match_any-like (all_cons p ps) es fs run f g found = append2 (p.matcher es fs run f g found) (match_any-like ps es fs run f g found)

    match_named-like : (m n o p : Matcher) {x y : Tree} → Like S x y → LikeMatcher m n → LikeMatcher o p → LikeMatcher (match_named x m o) (match_named y n p)
    match_named-like m' n' o' p' int m o es fs run f g found = o es fs run f g found
    match_named-like m' n' o' p' str m o es fs run f g found = o es fs run f g found
    match_named-like m' n' o' p' (sym s) m o es fs run f g found = joined2 (map2 _ _ (λ x' y' one. m es fs run x' y' one) (bind-like s run found))
    match_named-like m' n' o' p' (node h ks) m o es fs run f g found = o es fs run f g found

    tests-like : {t u : Tree} {es fs : List Tree} → Like S t u → LikeList S es fs → All LikeGuard (map (Test t) es) (map (Test u) fs)
    tests-like t es = map2 _ _ (λ x y one. tests t one) es

    construct-like : (k : Kind) (o p : Matcher) {ps qs : List Element} → All LikeElement ps qs → LikeMatcher o p → LikeMatcher (construct names k ps o) (construct names k qs p)
    construct-like blank o' p' all_nil o es fs run f g found = when-like (is_one-like run) found
    construct-like blank o' p' (all_cons h all_nil) o es fs run f g found = when-like (rw (is_one-like run, have_head-like (all_cons h.tree all_nil) run) refl) found
    construct-like blank o' p' (all_cons h (all_cons x xs)) o es fs run f g found = o es fs run f g found
    construct-like sequence o' p' all_nil o es fs run f g found = when-like (is_some_run-like run) found
    construct-like sequence o' p' (all_cons h all_nil) o es fs run f g found = when-like (rw (is_some_run-like run, have_head-like (all_cons h.tree all_nil) run) refl) found
    construct-like sequence o' p' (all_cons h (all_cons x xs)) o es fs run f g found = o es fs run f g found
    construct-like null_sequence o' p' all_nil o es fs run f g found = all_cons found all_nil
    construct-like null_sequence o' p' (all_cons h all_nil) o es fs run f g found = when-like (have_head-like (all_cons h.tree all_nil) run) found
    construct-like null_sequence o' p' (all_cons h (all_cons x xs)) o es fs run f g found = o es fs run f g found
    construct-like pattern o' p' all_nil o es fs run f g found = o es fs run f g found
    construct-like pattern o' p' (all_cons x all_nil) o es fs run f g found = o es fs run f g found
    construct-like pattern o' p' (all_cons x (all_cons p all_nil)) o es fs run f g found = match_named-like _ _ _ _ x.tree p.matcher o es fs run f g found
    construct-like pattern o' p' (all_cons x (all_cons p (all_cons y ys))) o es fs run f g found = o es fs run f g found
    construct-like test o' p' all_nil o es fs run f g found = o es fs run f g found
    construct-like test o' p' (all_cons p all_nil) o es fs run f g found = o es fs run f g found
    construct-like test o' p' (all_cons p (all_cons t all_nil)) o es fs run f g found = map2 _ _ (guarded-like (tests-like t.tree run)) (p.matcher es fs run f g found)
    construct-like test o' p' (all_cons p (all_cons t (all_cons y ys))) o es fs run f g found = o es fs run f g found
    construct-like condition o' p' all_nil o es fs run f g found = o es fs run f g found
    construct-like condition o' p' (all_cons p all_nil) o es fs run f g found = o es fs run f g found
    construct-like condition o' p' (all_cons p (all_cons c all_nil)) o es fs run f g found = map2 _ _ (guarded-like (all_cons (conditions c.tree) all_nil)) (p.matcher es fs run f g found)
    construct-like condition o' p' (all_cons p (all_cons c (all_cons y ys))) o es fs run f g found = o es fs run f g found
    construct-like alternatives o' p' ps o es fs run f g found = match_any-like ps es fs run f g found
    construct-like hold o' p' all_nil o es fs run f g found = o es fs run f g found
    construct-like hold o' p' (all_cons p all_nil) o es fs run f g found = p.matcher es fs run f g found
    construct-like hold o' p' (all_cons p (all_cons y ys)) o es fs run f g found = o es fs run f g found
    construct-like verbatim o' p' all_nil o es fs run f g found = o es fs run f g found
    construct-like verbatim o' p' (all_cons p all_nil) o es fs run f g found = literal-like p.tree es fs run f g found
    construct-like verbatim o' p' (all_cons p (all_cons y ys)) o es fs run f g found = o es fs run f g found
    construct-like other o' p' ps o es fs run f g found = o es fs run f g found

    -- what A tells of related symbols is the same
    abbrev pub SameHow : (Sym → Matching) → (Sym → Matching) → Type 0
    SameHow A B = (s t : Sym) → S s t → A s ≡ B t

    how_of-like : (A B : Sym → Matching) → SameHow A B → {h g : Tree} → Like S h g → how_of A h ≡ how_of B g
    how_of-like A B alike int = refl
    how_of-like A B alike str = refl
    how_of-like A B alike (sym s) = alike _ _ s
    how_of-like A B alike (node h es) = refl

    mutual
      matcher-like : (A B : Sym → Matching) → SameHow A B → {p q : Tree} → Like S p q → LikeMatcher (matcher names A p) (matcher names B q)
      matcher-like A B alike int es fs run f g found = literal-like int es fs run f g found
      matcher-like A B alike str es fs run f g found = literal-like str es fs run f g found
      matcher-like A B alike (sym s) es fs run f g found = literal-like (sym s) es fs run f g found
      matcher-like A B alike (node {h = h'} {g = g'} {es = es'} {fs = fs'} h ps) es fs run f g found =
          subst (λ k. All LikeFound (matcher names A (normal h' es') es f) (construct names k (matchers names B fs') (match_normal names (how_of B g') g' (matcher names B g') (matchers names B fs')) fs g)) (kind-like h)
          (construct-like (kind names h') _ _ (matchers-like A B alike ps)
          (λ es fs run f g found. subst (λ how. All LikeFound (match_normal names (how_of A h') h' (matcher names A h') (matchers names A es') es f) (match_normal names how g' (matcher names B g') (matchers names B fs') fs g)) (how_of-like A B alike h)
          (match_normal-like (how_of A h') _ _ h (λ es fs run f g found. matcher-like A B alike h es fs run f g found) (matchers-like A B alike ps) es fs run f g found)) es fs run f g found)

      matchers-like : (A B : Sym → Matching) → SameHow A B → {ps qs : Trees} → Likes S ps qs → All LikeElement (matchers names A ps) (matchers names B qs)
      matchers-like A B alike ends = all_nil
      matchers-like A B alike (mores p ps) = all_cons (record { tree = p; matcher = λ es fs run f g found. matcher-like A B alike p es fs run f g found }) (matchers-like A B alike ps)

    -- the list of bindings on related patterns and expressions: related bindings and guards, in the same order
    pub matches-like : (A B : Sym → Matching) → SameHow A B → {p q e f : Tree} → Like S p q → Like S e f → All LikeFound (matches names A p e) (matches names B q f)
    unfolding matches
    matches-like A B alike p e = matcher-like A B alike p _ _ (all_cons e all_nil) nothing_found nothing_found (record { binding = all_nil; guards = all_nil })

    asked-like : {h g : Tree} {ps qs : Trees} → Like S h g → Likes S ps qs → All S (asked names h ps) (asked names g qs)
    asked-like int ps = all_nil
    asked-like str ps = all_nil
    asked-like (sym s) ps = branch (All S) (is_construct-like (sym s) ps) all_nil (all_cons s all_nil)
    asked-like (node h es) ps = all_nil

    mutual
      pub heads-like : {p q : Tree} → Like S p q → All S (heads names p) (heads names q)
      heads-like int = all_nil
      heads-like str = all_nil
      heads-like (sym s) = all_nil
      heads-like (node h ps) = append2 (asked-like h ps) (append2 (heads-like h) (heads_in-like ps))

      pub heads_in-like : {ps qs : Trees} → Likes S ps qs → All S (heads_in names ps) (heads_in names qs)
      heads_in-like ends = all_nil
      heads_in-like (mores p ps) = append2 (heads-like p) (heads_in-like ps)

    pub guard_expression-like : {b c : Binding} {g h : Guard} → All (LikeBound S) b c → LikeGuard g h → Like S (guard_expression names b g) (guard_expression names c h)
    guard_expression-like b (tests t x) = call-like S t (all_cons x all_nil)
    guard_expression-like b (conditions c) = put_in_place-like S names F _ _ b c

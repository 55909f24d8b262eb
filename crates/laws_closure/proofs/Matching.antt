-- The bindings of a pattern in a set of symbols have their runs and guards in it. A name is bound only where a construct of patterns stands.
use Rattle.std.proofs.Common.{◌≡◌, refl, sym, ℕ, zero, suc, Bool, true, false, List, [], ◌∷◌, ◌++◌, map, length, Option, Some, None, true≢false}
use Rattle.std.specs.Prelude.{◌&&◌}
use Rattle.expr_tree.specs.declared.sym.Sym.{Sym}
use Rattle.expr_tree.specs.Tree.{Tree, integer, string, symbol, normal, Trees, nil, cons, elements}
use Rattle.semantics.specs.declared.builtin.Builtin.{Builtin}
use Rattle.semantics.specs.Names.{Names, known, is_known, is_name}
use Rattle.expr_tree.specs.Substitution.{Binding, value_of}
use Rattle.semantics.specs.Match.{Guard, Test, Cond, Found, nothing_found, Matching, Taken, also_taken, also_left, joined, runs, choices, choices_up_to, ways, is_single, wrapped, same_run, bind, guarded, when, Kind, blank, sequence, null_sequence, pattern, test, condition, alternatives, hold, verbatim, other, kind, Matcher, Element, literal, match_items, match_normal, match_any, match_named, construct, is_construct, how_of, matcher, matchers, matches, asked, heads, heads_in, guard_expression, is_one, is_some_run, have_head, tree_list}
use Rattle.laws_closure.specs.Throws.{may_throw}
use Rattle.laws_closure.proofs.Inside.{both, chosen, Each, appended, mapped, In, Ins, AllIn, listed, called, name_tabled, AllBound, put_in_place_in}

pub joined_each : {A : Type 0} (P : A → Type 0) (xss : List (List A)) → Each (Each P) xss → Each P (joined xss)
joined_each P [] all = tt
joined_each P (xs ∷ xss) all = appended P xs (joined xss) all.0 (joined_each P xss all.1)

module _ (C : Sym → Type 0) (names : Names) (Table : Type 0) (knows : Table → (r : Builtin) → may_throw r ≡ false → C (known names r)) (tabled : (r : Builtin) (s : Sym) → C s → is_known names r s ≡ true → Table) where
  abbrev pub GuardIn : Guard → Type 0
  GuardIn (Test t x) = In C t × In C x
  GuardIn (Cond c) = In C c

  abbrev pub FoundIn : Found → Type 0
  FoundIn f = AllBound C names Table knows tabled f.binding × Each GuardIn f.guards

  abbrev pub TakenIn : Taken → Type 0
  TakenIn t = AllIn C t.run × AllIn C t.left

  taken_also : (e : Tree) → In C e → (t : Taken) → TakenIn t → TakenIn (also_taken e t)
  taken_also e one t all = ((one, all.0), all.1)

  left_also : (e : Tree) → In C e → (t : Taken) → TakenIn t → TakenIn (also_left e t)
  left_also e one t all = (all.0, (one, all.1))

  runs_in : (es : List Tree) → AllIn C es → Each TakenIn (runs es)
  runs_in [] all = ((tt, tt), tt)
  runs_in (e ∷ es) all = ((tt, all), mapped TakenIn TakenIn (also_taken e) (taken_also e all.0) (runs es) (runs_in es all.1))

  choices_in : (n : ℕ) (es : List Tree) → AllIn C es → Each TakenIn (choices n es)
  choices_in zero es all = ((tt, all), tt)
  choices_in (suc n) [] all = tt
  choices_in (suc n) (e ∷ es) all =
      appended TakenIn (map (also_taken e) (choices n es)) (map (also_left e) (choices (suc n) es))
      (mapped TakenIn TakenIn (also_taken e) (taken_also e all.0) (choices n es) (choices_in n es all.1))
      (mapped TakenIn TakenIn (also_left e) (left_also e all.0) (choices (suc n) es) (choices_in (suc n) es all.1))

  choices_up_to_in : (n : ℕ) (es : List Tree) → AllIn C es → Each TakenIn (choices_up_to n es)
  choices_up_to_in zero es all = choices_in zero es all
  choices_up_to_in (suc n) es all = appended TakenIn (choices_up_to n es) (choices (suc n) es) (choices_up_to_in n es all) (choices_in (suc n) es all)

  ways_in : (b : Bool) (es : List Tree) → AllIn C es → Each TakenIn (ways b es)
  ways_in true es all = choices_up_to_in (length es) es all
  ways_in false es all = runs_in es all

  wrapped_in : (how : Matching) (h p : Tree) (es : List Tree) → In C h → AllIn C es → AllIn C (wrapped names how h p es)
  wrapped_in how h p [] one all = tt
  wrapped_in how h p (e ∷ []) one all = all
  wrapped_in how h p (e ∷ f ∷ es) one all = both (AllIn C) (how.flat && is_single names p) (called C h (e ∷ f ∷ es) one all, tt) all

  bind_in : (s : Sym) (run : List Tree) (f : Found) → Table → AllIn C run → FoundIn f → Each FoundIn (bind s run f)
  bind_in s run f t all found = go (value_of f.binding s)
    where
      go : (o : Option (List Tree)) → Each FoundIn (elim o [
        | None ↦ record { binding = f.binding ++ (s, run) ∷ []; guards = f.guards } ∷ []
        | Some old ↦ elim (same_run old run) [ true ↦ f ∷ [] | false ↦ [] ]
      ])
      go None = ((appended _ f.binding ((s, run) ∷ []) found.0 ((t, all), tt), found.1), tt)
      go (Some old) = both (Each FoundIn) (same_run old run) (found, tt) tt

  guarded_in : (gs : List Guard) → Each GuardIn gs → (f : Found) → FoundIn f → FoundIn (guarded gs f)
  guarded_in gs all f found = (found.0, appended GuardIn f.guards gs found.1 all)

  when_in : (b : Bool) (f : Found) → FoundIn f → Each FoundIn (when b f)
  when_in true f found = (found, tt)
  when_in false f found = tt

  -- matchers that keep to the set
  abbrev pub MatcherIn : Matcher → Type 0
  MatcherIn m = (es : List Tree) (f : Found) → AllIn C es → FoundIn f → Each FoundIn (m es f)

  abbrev pub ElementIn : Element → Type 0
  ElementIn p = In C p.tree × MatcherIn p.matcher

  literal_in : (p : Tree) → MatcherIn (literal p)
  literal_in p es f all found = when_in (same_run (p ∷ []) es) f found

  match_items_in : (how : Matching) (h : Tree) (ps : List Element) → In C h → Each ElementIn ps → MatcherIn (match_items names how h ps)
  match_items_in how h [] one all [] f run found = (found, tt)
  match_items_in how h [] one all (e ∷ es) f run found = tt
  match_items_in how h (p ∷ ps) one all es f run found =
      joined_each FoundIn _ (mapped TakenIn (Each FoundIn) _
      (λ t taken. joined_each FoundIn _ (mapped FoundIn (Each FoundIn) (match_items names how h ps t.left)
      (λ x x_in. match_items_in how h ps one all.1 t.left x taken.1 x_in) _ (all.0.1 _ f (wrapped_in how h p.tree t.run one taken.0) found)))
      (ways how.orderless es) (ways_in how.orderless es run))

  match_normal_in : (how : Matching) (h : Tree) (m : Matcher) (ps : List Element) → In C h → MatcherIn m → Each ElementIn ps → MatcherIn (match_normal names how h m ps)
  match_normal_in how h m ps one mine all (normal g es ∷ []) f run found =
      joined_each FoundIn _ (mapped FoundIn (Each FoundIn) (match_items names how h ps (elements es))
      (λ x x_in. match_items_in how h ps one all (elements es) x (listed C es run.0.1) x_in) _ (mine (g ∷ []) f (run.0.0, tt) found))
  match_normal_in how h m ps one mine all _ f run found = tt

  match_any_in : (ps : List Element) → Each ElementIn ps → MatcherIn (match_any ps)
  match_any_in [] all es f run found = tt
  match_any_in (p ∷ ps) all es f run found = appended FoundIn (p.matcher es f) (match_any ps es f) (all.0.1 es f run found) (match_any_in ps all.1 es f run found)

  match_named_in : Table → (x : Tree) (m o : Matcher) → MatcherIn m → MatcherIn o → MatcherIn (match_named x m o)
  match_named_in t (symbol s) m o mine others es f run found =
      joined_each FoundIn _ (mapped FoundIn (Each FoundIn) (m es) (λ x x_in. mine es x run x_in) (bind s es f) (bind_in s es f t run found))
  match_named_in t (integer n) m o mine others es f run found = others es f run found
  match_named_in t (string n) m o mine others es f run found = others es f run found
  match_named_in t (normal h hs) m o mine others es f run found = others es f run found

  tests_in : (t : Tree) (es : List Tree) → In C t → AllIn C es → Each GuardIn (map (Test t) es)
  tests_in t es one all = mapped (In C) GuardIn (Test t) (λ x x_in. (one, x_in)) es all

  -- the kinds that have a name of the table
  abbrev has_name : Kind → Bool
  has_name other = false
  has_name _ = true

  construct_in : (k : Kind) → (has_name k ≡ true → Table) → (ps : List Element) (o : Matcher) → Each ElementIn ps → MatcherIn o → MatcherIn (construct names k ps o)
  construct_in blank t [] o all others es f run found = when_in (is_one es) f found
  construct_in blank t (h ∷ []) o all others es f run found = when_in (is_one es && have_head (tree_list (h ∷ [])) es) f found
  construct_in sequence t [] o all others es f run found = when_in (is_some_run es) f found
  construct_in sequence t (h ∷ []) o all others es f run found = when_in (is_some_run es && have_head (tree_list (h ∷ [])) es) f found
  construct_in null_sequence t [] o all others es f run found = (found, tt)
  construct_in null_sequence t (h ∷ []) o all others es f run found = when_in (have_head (tree_list (h ∷ [])) es) f found
  construct_in pattern t (x ∷ p ∷ []) o all others es f run found = match_named_in (t refl) x.tree p.matcher o all.1.0.1 others es f run found
  construct_in test t (p ∷ u ∷ []) o all others es f run found =
      mapped FoundIn FoundIn (guarded (map (Test u.tree) es)) (guarded_in _ (tests_in u.tree es all.1.0.0 run)) (p.matcher es f) (all.0.1 es f run found)
  construct_in condition t (p ∷ c ∷ []) o all others es f run found =
      mapped FoundIn FoundIn (guarded (Cond c.tree ∷ [])) (guarded_in (Cond c.tree ∷ []) (all.1.0.0, tt)) (p.matcher es f) (all.0.1 es f run found)
  construct_in alternatives t ps o all others es f run found = match_any_in ps all es f run found
  construct_in hold t (p ∷ []) o all others es f run found = all.0.1 es f run found
  construct_in verbatim t (p ∷ []) o all others es f run found = literal_in p.tree es f run found
  construct_in _ t _ o all others es f run found = others es f run found

  -- a construct is a name of the table
  abbrev pub Constructed : Kind → Type 0
  Constructed k = has_name k ≡ true → Table

  kind_in : (h : Tree) → In C h → Constructed (kind names h)
  kind_in h one =
      step Builtin.Blank blank _ (step Builtin.BlankSequence sequence _ (step Builtin.BlankNullSequence null_sequence _ (step Builtin.Pattern pattern _
      (step Builtin.PatternTest test _ (step Builtin.Condition condition _ (step Builtin.Alternatives alternatives _ (step Builtin.HoldPattern hold _
      (step Builtin.Verbatim verbatim other (λ is. absurd (true≢false (sym is)))))))))))
    where
      step : (row : Builtin) (k m : Kind) → Constructed m → Constructed (elim (is_name names row h) [ true ↦ k | false ↦ m ])
      step row k m later = chosen Constructed (is_name names row h) (λ is c. name_tabled C names Table knows tabled row h one is) later

  mutual
    matcher_in : (A : Sym → Matching) (p : Tree) → In C p → MatcherIn (matcher names A p)
    matcher_in A (integer n) one es f run found = literal_in (integer n) es f run found
    matcher_in A (string t) one es f run found = literal_in (string t) es f run found
    matcher_in A (symbol s) one es f run found = literal_in (symbol s) es f run found
    matcher_in A (normal h ps) one es f run found =
        construct_in (kind names h) (kind_in h one.0) (matchers names A ps) _ (matchers_in A ps one.1)
        (λ fs g fs_in g_in. match_normal_in (how_of A h) h (matcher names A h) (matchers names A ps) one.0
        (λ gs k gs_in k_in. matcher_in A h one.0 gs k gs_in k_in) (matchers_in A ps one.1) fs g fs_in g_in) es f run found

    matchers_in : (A : Sym → Matching) (ps : Trees) → Ins C ps → Each ElementIn (matchers names A ps)
    matchers_in A nil all = tt
    matchers_in A (cons p ps) all = ((all.0, λ es f run found. matcher_in A p all.0 es f run found), matchers_in A ps all.1)

  pub matches_in : (A : Sym → Matching) (p e : Tree) → In C p → In C e → Each FoundIn (matches names A p e)
  unfolding matches
  matches_in A p e one two = matcher_in A p one (e ∷ []) nothing_found (two, tt) (tt, tt)

  asked_in : (h : Tree) (ps : Trees) → In C h → Each C (asked names h ps)
  asked_in (symbol s) ps one = both (Each C) (is_construct names (symbol s) ps) tt (one, tt)
  asked_in _ ps one = tt

  mutual
    pub heads_inside : (p : Tree) → In C p → Each C (heads names p)
    heads_inside (integer n) one = tt
    heads_inside (string t) one = tt
    heads_inside (symbol s) one = tt
    heads_inside (normal h ps) one =
        appended C (asked names h ps) (heads names h ++ heads_in names ps) (asked_in h ps one.0) (appended C (heads names h) (heads_in names ps) (heads_inside h one.0) (heads_in_inside ps one.1))

    heads_in_inside : (ps : Trees) → Ins C ps → Each C (heads_in names ps)
    heads_in_inside nil all = tt
    heads_in_inside (cons p ps) all = appended C (heads names p) (heads_in names ps) (heads_inside p all.0) (heads_in_inside ps all.1)

  pub guard_in : (b : Binding) (g : Guard) → AllBound C names Table knows tabled b → GuardIn g → In C (guard_expression names b g)
  guard_in b (Test t x) all one = called C t (x ∷ []) one.0 (one.1, tt)
  guard_in b (Cond c) all one = put_in_place_in C names Table knows tabled b c all one

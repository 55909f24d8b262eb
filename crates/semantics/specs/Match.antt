-- The list of all bindings by which a pattern matches, in their order, with the guards that each has to pass.
--     Guard, Found             a test or a condition;  a binding with its guards, from left to right
--     matches                  this list
--     heads                    the symbols whose attributes the list depends on
use Rattle.std.specs.Prelude.{ℕ, zero, suc, List, [], ◌∷◌, ◌++◌, map, length, Bool, true, false, ◌&&◌, ◌==◌, leb, Some, None}
use Rattle.expr_tree.specs.declared.sym.Sym.{Sym}
use Rattle.expr_tree.specs.Tree.{Tree, integer, string, symbol, normal, Trees, nil, cons, elements, call, count}
use Rattle.expr_tree.specs.Order.{same}
use Rattle.semantics.specs.declared.builtin.Builtin.{Builtin}
use Rattle.semantics.specs.Names.{Names, is_name, head_of}
use Rattle.expr_tree.specs.Substitution.{Binding, value_of}
use Rattle.semantics.specs.InPlace.{put_in_place}

pub data Guard : Type 0 where
  Test : Tree → Tree → Guard
  Cond : Tree → Guard

pub record Found : Type 0 where
  pub binding : Binding
  pub guards : List Guard

abbrev pub nothing_found : Found
nothing_found = record { binding = []; guards = [] }

-- what A tells of the head of a pattern
pub record Matching : Type 0 where
  pub flat : Bool
  pub orderless : Bool

abbrev pub joined : {A : Type 0} → List (List A) → List A
joined [] = []
joined (xs ∷ xss) = xs ++ joined xss

-- an element pattern takes a run; what is left goes to the others
pub record Taken : Type 0 where
  pub run : List Tree
  pub left : List Tree

abbrev pub also_taken : Tree → Taken → Taken
also_taken e t = record { run = e ∷ t.run; left = t.left }

abbrev pub also_left : Tree → Taken → Taken
also_left e t = record { run = t.run; left = e ∷ t.left }

-- the beginnings of a list, the shortest first
abbrev pub runs : List Tree → List Taken
runs [] = record { run = []; left = [] } ∷ []
runs (e ∷ es) = record { run = []; left = e ∷ es } ∷ map (also_taken e) (runs es)

-- the sub-lists of n elements, by their positions in lexicographic order
abbrev pub choices : ℕ → List Tree → List Taken
choices zero es = record { run = []; left = es } ∷ []
choices (suc n) [] = []
choices (suc n) (e ∷ es) = map (also_taken e) (choices n es) ++ map (also_left e) (choices (suc n) es)

-- all sub-lists, by size up to n, then by positions
abbrev pub choices_up_to : ℕ → List Tree → List Taken
choices_up_to zero es = choices zero es
choices_up_to (suc n) es = choices_up_to n es ++ choices (suc n) es

abbrev pub ways : Bool → List Tree → List Taken
ways true es = choices_up_to (length es) es
ways false es = runs es

pub data Kind : Type 0 where
  blank sequence null_sequence pattern test condition alternatives hold verbatim other : Kind

-- which construct of patterns a head is
abbrev pub kind : Names → Tree → Kind
kind names h =
    elim (is_name names Builtin.Blank h) [
      | true ↦ blank
      | false ↦
          elim (is_name names Builtin.BlankSequence h) [
            | true ↦ sequence
            | false ↦
                elim (is_name names Builtin.BlankNullSequence h) [
                  | true ↦ null_sequence
                  | false ↦
                      elim (is_name names Builtin.Pattern h) [
                        | true ↦ pattern
                        | false ↦
                            elim (is_name names Builtin.PatternTest h) [
                              | true ↦ test
                              | false ↦
                                  elim (is_name names Builtin.Condition h) [
                                    | true ↦ condition
                                    | false ↦
                                        elim (is_name names Builtin.Alternatives h) [
                                          | true ↦ alternatives
                                          | false ↦
                                              elim (is_name names Builtin.HoldPattern h) [
                                                | true ↦ hold
                                                | false ↦
                                                    elim (is_name names Builtin.Verbatim h) [ true ↦ verbatim | false ↦ other ]
                                              ]
                                        ]
                                  ]
                            ]
                      ]
                ]
          ]
    ]

abbrev pub is_symbol : Tree → Bool
is_symbol (symbol s) = true
is_symbol _ = false

abbrev pub first_is_symbol : Trees → Bool
first_is_symbol nil = false
first_is_symbol (cons p ps) = is_symbol p

-- the shapes of the constructs, by the number of items and whether the first is a symbol
abbrev pub has_shape : Kind → ℕ → Bool → Bool
has_shape blank n named = leb n 1
has_shape sequence n named = leb n 1
has_shape null_sequence n named = leb n 1
has_shape pattern n named = (n == 2) && named
has_shape test n named = n == 2
has_shape condition n named = n == 2
has_shape alternatives n named = true
has_shape hold n named = n == 1
has_shape verbatim n named = n == 1
has_shape other n named = false

-- whether a head and items are a construct; in another shape they are an ordinary pattern
abbrev pub is_construct : Names → Tree → Trees → Bool
is_construct names h ps = has_shape (kind names h) (count ps) (first_is_symbol ps)

-- from the kind of a construct, and whether the first and the second of its items are single
abbrev pub single_by : Kind → Bool → Bool → Bool
single_by blank first second = true
single_by pattern first second = second
single_by test first second = first
single_by condition first second = first
single_by hold first second = first
single_by _ first second = false

-- a single blank, also under a name, a test, a condition or HoldPattern
abbrev mutual
  pub is_single : Names → Tree → Bool
  is_single names (integer n) = false
  is_single names (string t) = false
  is_single names (symbol s) = false
  is_single names (normal h ps) = is_construct names h ps && single_by (kind names h) (first_is_single names ps) (second_is_single names ps)

  pub first_is_single : Names → Trees → Bool
  first_is_single names nil = false
  first_is_single names (cons p ps) = is_single names p

  pub second_is_single : Names → Trees → Bool
  second_is_single names nil = false
  second_is_single names (cons p ps) = first_is_single names ps

-- under Flat a single blank takes a run of several elements wrapped in the head
abbrev pub wrapped : Names → Matching → Tree → Tree → List Tree → List Tree
wrapped names how h p (e ∷ f ∷ run) = elim (how.flat && is_single names p) [ true ↦ call h (e ∷ f ∷ run) ∷ [] | false ↦ e ∷ f ∷ run ]
wrapped names how h p run = run

abbrev pub same_run : List Tree → List Tree → Bool
same_run [] [] = true
same_run [] (f ∷ fs) = false
same_run (e ∷ es) [] = false
same_run (e ∷ es) (f ∷ fs) = elim (same e f) [ true ↦ same_run es fs | false ↦ false ]

-- a name is bound to a run; where it is bound already, to an identical one
abbrev pub bind : Sym → List Tree → Found → List Found
bind s run found =
    elim (value_of found.binding s) [
      | None ↦ record { binding = found.binding ++ (s, run) ∷ []; guards = found.guards } ∷ []
      | Some old ↦ elim (same_run old run) [ true ↦ found ∷ [] | false ↦ [] ]
    ]

abbrev pub guarded : List Guard → Found → Found
guarded guards found = record { binding = found.binding; guards = found.guards ++ guards }

abbrev pub when : Bool → Found → List Found
when true found = found ∷ []
when false found = []

-- whether each element has the head that the blank asks for
abbrev pub have_head : List Tree → List Tree → Bool
have_head asked [] = true
have_head [] (e ∷ es) = true
have_head (h ∷ hs) (e ∷ es) = elim (head_of e) [ None ↦ false | Some g ↦ elim (same h g) [ true ↦ have_head (h ∷ hs) es | false ↦ false ] ]

abbrev pub is_one : List Tree → Bool
is_one (e ∷ []) = true
is_one _ = false

abbrev pub is_some_run : List Tree → Bool
is_some_run [] = false
is_some_run _ = true

-- what a pattern does with a run, from what was found so far
abbrev pub Matcher : Type 0
Matcher = List Tree → Found → List Found

-- an element pattern, and what it does
pub record Element : Type 0 where
  pub tree : Tree
  pub matcher : Matcher

abbrev pub literal : Tree → Matcher
literal p run found = when (same_run (p ∷ []) run) found

-- element patterns are filled from left to right, each by a run or, under Orderless, by a sub-list of what is left
abbrev pub match_items : Names → Matching → Tree → List Element → Matcher
match_items names how h [] [] found = found ∷ []
match_items names how h [] (e ∷ es) found = []
match_items names how h (p ∷ ps) es found =
    joined (map (λ t. joined (map (match_items names how h ps t.left) (p.matcher (wrapped names how h p.tree t.run) found))) (ways how.orderless es))

-- a normal pattern takes one normal expression, whose head and then items match
abbrev pub match_normal : Names → Matching → Tree → Matcher → List Element → Matcher
match_normal names how h head ps (normal g es ∷ []) found = joined (map (match_items names how h ps (elements es)) (head (g ∷ []) found))
match_normal names how h head ps _ found = []

abbrev pub match_any : List Element → Matcher
match_any [] run found = []
match_any (p ∷ ps) run found = p.matcher run found ++ match_any ps run found

-- x:p with a symbol x
abbrev pub match_named : Tree → Matcher → Matcher → Matcher
match_named (symbol s) p ordinary run found = joined (map (p run) (bind s run found))
match_named _ p ordinary run found = ordinary run found

abbrev pub tree_list : List Element → List Tree
tree_list [] = []
tree_list (p ∷ ps) = p.tree ∷ tree_list ps

-- in a shape that is none of those below a construct's head makes an ordinary pattern
abbrev pub construct : Names → Kind → List Element → Matcher → Matcher
construct names blank [] ordinary run found = when (is_one run) found
construct names blank (h ∷ []) ordinary run found = when (is_one run && have_head (tree_list (h ∷ [])) run) found
construct names sequence [] ordinary run found = when (is_some_run run) found
construct names sequence (h ∷ []) ordinary run found = when (is_some_run run && have_head (tree_list (h ∷ [])) run) found
construct names null_sequence [] ordinary run found = found ∷ []
construct names null_sequence (h ∷ []) ordinary run found = when (have_head (tree_list (h ∷ [])) run) found
construct names pattern (x ∷ p ∷ []) ordinary run found = match_named x.tree p.matcher ordinary run found
construct names test (p ∷ t ∷ []) ordinary run found = map (guarded (map (Test t.tree) run)) (p.matcher run found)
construct names condition (p ∷ c ∷ []) ordinary run found = map (guarded (Cond c.tree ∷ [])) (p.matcher run found)
construct names alternatives ps ordinary run found = match_any ps run found
construct names hold (p ∷ []) ordinary run found = p.matcher run found
construct names verbatim (p ∷ []) ordinary run found = literal p.tree run found
construct names _ _ ordinary run found = ordinary run found

-- A tells Flat and Orderless of a symbol; another head has neither
abbrev pub how_of : (Sym → Matching) → Tree → Matching
how_of A (symbol s) = A s
how_of A _ = record { flat = false; orderless = false }

abbrev mutual
  pub matcher : Names → (Sym → Matching) → Tree → Matcher
  matcher names A (integer n) = literal (integer n)
  matcher names A (string t) = literal (string t)
  matcher names A (symbol s) = literal (symbol s)
  matcher names A (normal h ps) =
      construct names (kind names h) (matchers names A ps) (match_normal names (how_of A h) h (matcher names A h) (matchers names A ps))

  pub matchers : Names → (Sym → Matching) → Trees → List Element
  matchers names A nil = []
  matchers names A (cons p ps) = record { tree = p; matcher = matcher names A p } ∷ matchers names A ps

unfoldable pub matches : Names → (Sym → Matching) → Tree → Tree → List Found
matches names A p e = matcher names A p (e ∷ []) nothing_found

-- the symbols that A is asked for: the heads of ordinary patterns
abbrev pub asked : Names → Tree → Trees → List Sym
asked names (symbol s) ps = elim (is_construct names (symbol s) ps) [ true ↦ [] | false ↦ s ∷ [] ]
asked names _ ps = []

abbrev mutual
  pub heads : Names → Tree → List Sym
  heads names (integer n) = []
  heads names (string t) = []
  heads names (symbol s) = []
  heads names (normal h ps) = asked names h ps ++ (heads names h ++ heads_in names ps)

  pub heads_in : Names → Trees → List Sym
  heads_in names nil = []
  heads_in names (cons p ps) = heads names p ++ heads_in names ps

-- the expression of a guard: t[x] for a test, and a condition with the whole binding put in
abbrev pub guard_expression : Names → Binding → Guard → Tree
guard_expression names b (Test t x) = call t (x ∷ [])
guard_expression names b (Cond c) = put_in_place names b c

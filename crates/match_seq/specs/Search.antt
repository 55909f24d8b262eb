-- The search for the bindings by which a pattern matches, as a tree.
--     Search                a search that has ended, with or without an answer, or that goes on, in one way or in two
--     answers, steps        its answers, from left to right; the number of its steps
--     find                  the search of a pattern in a run; what was found so far goes on with `next`
use Rattle.std.specs.Prelude.{ℕ, zero, suc, ◌+◌, ◌-◌, min, max, List, [], ◌∷◌, ◌++◌, map, length, take, drop, Bool, true, false, ◌&&◌, ◌==◌, ltb, Option, None, Some, if◌then◌else◌}
use Rattle.expr_tree.specs.declared.sym.Sym.{Sym}
use Rattle.expr_tree.specs.Tree.{Tree, integer, string, symbol, normal, Trees, nil, cons, elements, call, count}
use Rattle.expr_tree.specs.Substitution.{value_of}
use Rattle.semantics.specs.Match.{Guard, Test, Cond, Found, Matching, same_run, have_head, guarded, how_of, first_is_symbol}
use Rattle.match_seq.specs.declared.constructs.Constructs.{Constructs}
use Rattle.match_seq.specs.declared.constructs.Form.{Form}
use Rattle.match_seq.specs.declared.constructs.Form.TheVariants as form
use Rattle.match_seq.specs.declared.extent.Extent.{Extent}
use Rattle.match_seq.specs.Forms.{form_of}

pub data Search : Type 0 where
  dead : Search
  answer : Found → Search
  step : Search → Search
  fork : Search → Search → Search

abbrev pub answers : Search → List Found
answers dead = []
answers (answer f) = f ∷ []
answers (step t) = answers t
answers (fork t u) = answers t ++ answers u

abbrev pub steps : Search → ℕ
steps dead = 0
steps (answer f) = 1
steps (step t) = 1 + steps t
steps (fork t u) = 1 + (steps t + steps u)

abbrev pub Next : Type 0
Next = Found → Search

abbrev pub Finder : Type 0
Finder = List Tree → Next → Next

-- an element pattern, and its search
pub record Part : Type 0 where
  pub tree : Tree
  pub finder : Finder

-- a run that was taken, and what is left
abbrev pub Use : Type 0
Use = List Tree → List Tree → Search

abbrev pub go_on : Bool → Next → Next
go_on true next found = next found
go_on false next found = dead

-- a single blank, also under a name, a test, a condition or HoldPattern; from whether the first item is a symbol, and the first and the second are single
abbrev pub single_form : Form → Bool → Bool → Bool → Bool
single_form (form.One) named first second = true
single_form (form.OneOf) named first second = true
single_form (form.Named) named first second = named && second
single_form (form.Tested) named first second = first
single_form (form.Conditioned) named first second = first
single_form (form.Held) named first second = first
single_form _ named first second = false

abbrev mutual
  pub is_single : Constructs → Tree → Bool
  is_single constructs (integer n) = false
  is_single constructs (string t) = false
  is_single constructs (symbol s) = false
  is_single constructs (normal h ps) =
      single_form (form_of constructs h (count ps)) (first_is_symbol ps) (first_is_single constructs ps) (second_is_single constructs ps)

  pub first_is_single : Constructs → Trees → Bool
  first_is_single constructs nil = false
  first_is_single constructs (cons p ps) = is_single constructs p

  pub second_is_single : Constructs → Trees → Bool
  second_is_single constructs nil = false
  second_is_single constructs (cons p ps) = first_is_single constructs ps

-- one element, and no other number of them
abbrev pub exactly_one : Extent
exactly_one = record { fills = true; short = true }

-- any number of elements
abbrev pub any_number : Extent
any_number = record { fills = false; short = false }

abbrev pub both : Extent → Extent → Extent
both a b = record { fills = a.fills && b.fills; short = a.short && b.short }

-- how many elements a pattern can take, as its outermost forms tell; from those of its first, its second and all of its items
abbrev pub extent_form : Form → Extent → Extent → Extent → Extent
extent_form (form.Some) first second all = record { fills = true; short = false }
extent_form (form.SomeOf) first second all = record { fills = true; short = false }
extent_form (form.Any) first second all = any_number
extent_form (form.AnyOf) first second all = any_number
extent_form (form.Named) first second all = second
extent_form (form.Tested) first second all = first
extent_form (form.Conditioned) first second all = first
extent_form (form.Alternatives) first second all = all
extent_form (form.Held) first second all = first
extent_form _ first second all = exactly_one

abbrev mutual
  pub extent : Constructs → Tree → Extent
  extent constructs (integer n) = exactly_one
  extent constructs (string t) = exactly_one
  extent constructs (symbol s) = exactly_one
  extent constructs (normal h ps) =
      extent_form (form_of constructs h (count ps)) (first_extent constructs ps) (second_extent constructs ps) (all_extent constructs ps)

  pub first_extent : Constructs → Trees → Extent
  first_extent constructs nil = any_number
  first_extent constructs (cons p ps) = extent constructs p

  pub second_extent : Constructs → Trees → Extent
  second_extent constructs nil = any_number
  second_extent constructs (cons p ps) = first_extent constructs ps

  pub all_extent : Constructs → Trees → Extent
  all_extent constructs nil = exactly_one
  all_extent constructs (cons p ps) = both (extent constructs p) (all_extent constructs ps)

-- under Flat a run of several elements is wrapped in the head for a single blank
abbrev pub wrapped : Bool → Tree → List Tree → List Tree
wrapped wrapping h run = if wrapping && ltb 1 (length run) then call h run ∷ [] else run

abbrev pub find_literal : Tree → Finder
find_literal p run next found = step (go_on (same_run (p ∷ []) run) next found)

abbrev pub bound : Sym → List Tree → Found → Found
bound s run found = record { binding = found.binding ++ (s, run) ∷ []; guards = found.guards }

-- what is found where a name is bound to a run; nothing where it has another run already
abbrev pub bind_run : Sym → List Tree → Found → Option Found
bind_run s run found =
    elim (value_of found.binding s) [ None ↦ Some (bound s run found) | Some old ↦ if same_run old run then Some found else None ]

abbrev pub go_with : Option Found → Next → Search
go_with None next = dead
go_with (Some found) next = next found

abbrev pub find_bound : Sym → List Tree → Next → Next
find_bound s run next found = go_with (bind_run s run found) next

-- what was taken, and that with up to so many elements more, the shortest first
abbrev pub find_runs : Use → ℕ → List Tree → List Tree → Search
find_runs fit zero taken es = step (fit taken es)
find_runs fit (suc more) taken [] = step (fit taken [])
find_runs fit (suc more) taken (e ∷ es) = fork (fit taken (e ∷ es)) (find_runs fit more (taken ++ e ∷ []) es)

-- the sub-lists of one size: none where fewer elements are left, and one where as many are
abbrev pub find_choices : Use → ℕ → List Tree → List Tree → List Tree → Search
find_choices fit zero taken left es = step (fit taken (left ++ es))
find_choices fit (suc n) taken left [] = step dead
find_choices fit (suc n) taken left (e ∷ es) =
    if ltb (length es) n then step dead
    else if length es == n then step (fit (taken ++ e ∷ es) left)
    else fork (find_choices fit n (taken ++ e ∷ []) left es) (find_choices fit (suc n) taken (left ++ e ∷ []) es)

-- the sub-lists of one size, and of so many sizes above it
abbrev pub find_sizes : Use → ℕ → ℕ → List Tree → Search
find_sizes fit size zero es = step (find_choices fit size [] [] es)
find_sizes fit size (suc more) es = fork (find_choices fit size [] [] es) (find_sizes fit (suc size) more es)

-- the runs or sub-lists of so many elements, and of so many more
abbrev pub find_ways : Bool → ℕ → ℕ → Use → List Tree → Search
find_ways true least more fit es = find_sizes fit least more es
find_ways false least more fit es = find_runs fit more (take least es) (drop least es)

-- those of a least number of elements up to a greatest
abbrev pub find_within : Bool → ℕ → ℕ → Use → List Tree → Search
find_within orderless least greatest fit es = if ltb greatest least then dead else find_ways orderless least (greatest - least) fit es

-- what the first element pattern does with a run, where the others take what is left
abbrev pub find_first : Bool → Tree → Part → (List Tree → Next → Next) → Next → Found → Use
find_first wrapping h p others next found run left = p.finder (wrapped wrapping h run) (others left next) found

abbrev pub wraps : Constructs → Matching → Tree → Bool
wraps constructs how p = how.flat && is_single constructs p

-- whether an element pattern takes one element at most, as none does that takes wrapped runs
abbrev pub is_bounded : Constructs → Matching → Tree → Bool
is_bounded constructs how p = if wraps constructs how p then false else (extent constructs p).short

abbrev pub least_of : Extent → ℕ
least_of extent = if extent.fills then 1 else 0

-- the number of elements that patterns need together
abbrev pub fewest : Constructs → Trees → ℕ
fewest constructs nil = 0
fewest constructs (cons p ps) = least_of (extent constructs p) + fewest constructs ps

abbrev pub all_bounded : Constructs → Matching → Trees → Bool
all_bounded constructs how nil = true
all_bounded constructs how (cons p ps) = is_bounded constructs how p && all_bounded constructs how ps

-- of so many elements, the least number that the first pattern can take so that the others can take what is left
abbrev pub least_size : Constructs → Matching → Tree → Trees → ℕ → ℕ
least_size constructs how p ps n = max (least_of (extent constructs p)) (if all_bounded constructs how ps then n - count ps else 0)

-- the greatest number that it can take so that the others have what they need
abbrev pub greatest_size : Constructs → Matching → Tree → Trees → ℕ → ℕ
greatest_size constructs how p ps n = min (if is_bounded constructs how p then 1 else n) (n - fewest constructs ps)

abbrev pub trees_of : List Part → Trees
trees_of [] = nil
trees_of (p ∷ ps) = cons p.tree (trees_of ps)

-- no element patterns are left
abbrev pub find_end : Finder
find_end [] next found = step (next found)
find_end (e ∷ es) next found = step dead

-- element patterns are filled from left to right
abbrev pub find_items : Constructs → Matching → Tree → List Part → Finder
find_items constructs how h [] es next found = find_end es next found
find_items constructs how h (p ∷ ps) es next found =
    step
    (find_within how.orderless (least_size constructs how p.tree (trees_of ps) (length es)) (greatest_size constructs how p.tree (trees_of ps) (length es))
    (find_first (wraps constructs how p.tree) h p (find_items constructs how h ps) next found) es)

abbrev pub find_normal : Constructs → Matching → Tree → Finder → List Part → Finder
find_normal constructs how h head ps (normal g es ∷ []) next found =
    step (head (g ∷ []) (find_items constructs how h ps (elements es) next) found)
find_normal constructs how h head ps _ next found = step dead

abbrev pub find_any : List Part → Finder
find_any [] run next found = step dead
find_any (p ∷ ps) run next found = fork (p.finder run next found) (find_any ps run next found)

abbrev pub find_named : Tree → Finder → Finder → Finder
find_named (symbol s) p ordinary run next found = step (find_bound s run (p run next) found)
find_named _ p ordinary run next found = ordinary run next found

-- the search by the first or the second of some parts
abbrev pub by_first : (Part → Finder) → List Part → Finder
by_first f [] run next found = step dead
by_first f (p ∷ ps) run next found = f p run next found

abbrev pub by_two : (Part → Part → Finder) → List Part → Finder
by_two f (p ∷ q ∷ ps) run next found = f p q run next found
by_two f _ run next found = step dead

abbrev pub adding : (List Tree → List Guard) → List Tree → Next → Next
adding guards run next found = step (next (guarded (guards run) found))

abbrev pub find_form : Form → List Part → Finder → Finder
find_form (form.One) ps ordinary run next found = step (go_on (length run == 1) next found)
find_form (form.OneOf) ps ordinary run next found =
    by_first (λ h run next found. step (go_on (length run == 1 && have_head (h.tree ∷ []) run) next found)) ps run next found
find_form (form.Some) ps ordinary run next found = step (go_on (ltb 0 (length run)) next found)
find_form (form.SomeOf) ps ordinary run next found =
    by_first (λ h run next found. step (go_on (ltb 0 (length run) && have_head (h.tree ∷ []) run) next found)) ps run next found
find_form (form.Any) ps ordinary run next found = step (next found)
find_form (form.AnyOf) ps ordinary run next found =
    by_first (λ h run next found. step (go_on (have_head (h.tree ∷ []) run) next found)) ps run next found
find_form (form.Named) ps ordinary run next found = by_two (λ x p. find_named x.tree p.finder ordinary) ps run next found
find_form (form.Tested) ps ordinary run next found =
    by_two (λ p t run next found. step (p.finder run (adding (map (Test t.tree)) run next) found)) ps run next found
find_form (form.Conditioned) ps ordinary run next found =
    by_two (λ p c run next found. step (p.finder run (adding (λ _. Cond c.tree ∷ []) run next) found)) ps run next found
find_form (form.Alternatives) ps ordinary run next found = step (find_any ps run next found)
find_form (form.Held) ps ordinary run next found = by_first (λ p run next found. step (p.finder run next found)) ps run next found
find_form (form.Verbatim) ps ordinary run next found = by_first (λ p. find_literal p.tree) ps run next found
find_form (form.Ordinary) ps ordinary run next found = ordinary run next found

abbrev mutual
  pub find : Constructs → (Sym → Matching) → Tree → Finder
  find constructs A (integer n) = find_literal (integer n)
  find constructs A (string t) = find_literal (string t)
  find constructs A (symbol s) = find_literal (symbol s)
  find constructs A (normal h ps) =
      find_form (form_of constructs h (count ps)) (parts constructs A ps)
      (find_normal constructs (how_of A h) h (find constructs A h) (parts constructs A ps))

  pub parts : Constructs → (Sym → Matching) → Trees → List Part
  parts constructs A nil = []
  parts constructs A (cons p ps) = record { tree = p; finder = find constructs A p } ∷ parts constructs A ps

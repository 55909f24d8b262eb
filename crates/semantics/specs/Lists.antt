-- The rows of lists that are functions of the elements alone. An atom in the place of a list, or a place out of range, has no equation.
--     part_of               Part, with a List of places, and places from the end
--     span, taken, dropped  Take and Drop of n, -n and {n, k}
--     union, join, flatten_row, partition, transpose      the rows that put lists together or cut them
--     count_up, range, constant_array, array              the rows that make Lists
--     map_row, apply, total, released, itself             Map, Apply, Total, ReleaseHold, Identity and Evaluate
use Rattle.std.specs.Prelude.{ℕ, zero, suc, ◌+◌, ℤ, pos, negsuc, ◌+ℤ◌, List, [], ◌∷◌, ◌++◌, map, reverse, length, take, drop, replicate, ◌-◌, leb, ◌&&◌, ◌==◌, Bool, true, false, Option, Some, None}
use Rattle.std.specs.Ordering.{int_eq, is_gt}
use Rattle.expr_tree.specs.Tree.{Tree, integer, string, symbol, normal, Trees, nil, cons, elements, call}
use Rattle.expr_tree.specs.Order.{same, tree_cmp}
use Rattle.semantics.specs.declared.builtin.Builtin.{Builtin}
use Rattle.semantics.specs.Names.{Names, is_name, is_call, items_of, make}
use Rattle.semantics.specs.Steps.{ordered}
use Rattle.semantics.specs.Worked.{Worked, Stays, Gives}
use Rattle.semantics.specs.Control.{steps_to}

abbrev pub head : List Tree → Worked
head (normal h es ∷ []) = Gives h
head _ = Stays

abbrev pub length_of : List Tree → Worked
length_of (normal h es ∷ []) = Gives (integer (pos (length (elements es))))
length_of (e ∷ []) = Gives (integer (pos 0))
length_of _ = Stays

abbrev pub first : List Tree → Worked
first (normal h (cons e es) ∷ []) = Gives e
first _ = Stays

abbrev pub rest : List Tree → Worked
rest (normal h (cons e es) ∷ []) = Gives (normal h es)
rest _ = Stays

abbrev pub append : List Tree → Worked
append (normal h es ∷ x ∷ []) = Gives (call h (elements es ++ x ∷ []))
append _ = Stays

abbrev pub prepend : List Tree → Worked
prepend (normal h es ∷ x ∷ []) = Gives (normal h (cons x es))
prepend _ = Stays

abbrev pub reversed : List Tree → Worked
reversed (normal h es ∷ []) = Gives (call h (reverse (elements es)))
reversed _ = Stays

abbrev pub sort : List Tree → Worked
sort (normal h es ∷ []) = Gives (call h (ordered (elements es)))
sort _ = Stays

abbrev pub count_up : ℤ → ℤ → ℕ → List Tree
count_up a d zero = []
count_up a d (suc n) = integer a ∷ count_up (a +ℤ d) d n

abbrev pub range : Names → List Tree → Worked
range names (integer b ∷ []) = Gives (make names Builtin.List (count_up (pos 1) (pos 1) (steps_to (pos 1) b (pos 1))))
range names (integer a ∷ integer b ∷ []) = Gives (make names Builtin.List (count_up a (pos 1) (steps_to a b (pos 1))))
range names (integer a ∷ integer b ∷ integer d ∷ []) = elim (int_eq d (pos 0)) [ true ↦ Stays | false ↦ Gives (make names Builtin.List (count_up a d (steps_to a b d))) ]
range names _ = Stays

abbrev pub mapped : Tree → Tree → Tree
mapped f e = call f (e ∷ [])

abbrev pub map_row : List Tree → Worked
map_row (f ∷ normal h es ∷ []) = Gives (call h (map (mapped f) (elements es)))
map_row (f ∷ e ∷ []) = Gives e
map_row _ = Stays

abbrev pub apply : List Tree → Worked
apply (f ∷ normal h es ∷ []) = Gives (normal f es)
apply (f ∷ e ∷ []) = Gives e
apply _ = Stays

abbrev pub total : Names → List Tree → Worked
total names (e ∷ []) = elim (is_call names Builtin.List e) [ true ↦ Gives (make names Builtin.Plus (items_of e)) | false ↦ Stays ]
total names _ = Stays

abbrev pub released : Names → List Tree → Worked
released names (normal h (cons x nil) ∷ []) =
    elim (is_name names Builtin.Hold h) [
      | true ↦ Gives x
      | false ↦
          elim (is_name names Builtin.HoldComplete h) [
            | true ↦ Gives x
            | false ↦
                elim (is_name names Builtin.HoldPattern h) [ true ↦ Gives x | false ↦ Stays ]
          ]
    ]
released names _ = Stays

abbrev pub itself : List Tree → Worked
itself (e ∷ []) = Gives e
itself _ = Stays

-- what holds of a list of trees as an answer
abbrev pub given : Option Tree → Worked
given None = Stays
given (Some e) = Gives e

abbrev pub last_of : List Tree → Option Tree
last_of [] = None
last_of (e ∷ []) = Some e
last_of (e ∷ f ∷ es) = last_of (f ∷ es)

abbrev pub but_last : List Tree → List Tree
but_last [] = []
but_last (e ∷ []) = []
but_last (e ∷ f ∷ es) = e ∷ but_last (f ∷ es)

abbrev pub last : List Tree → Worked
last (normal h es ∷ []) = given (last_of (elements es))
last _ = Stays

abbrev pub most : List Tree → Worked
most (normal h (cons e es) ∷ []) = Gives (call h (but_last (e ∷ elements es)))
most _ = Stays

-- the element at a place from 0
abbrev pub at : List Tree → ℕ → Option Tree
at [] n = None
at (e ∷ es) zero = Some e
at (e ∷ es) (suc n) = at es n

-- from 1, from -1 backwards, 0 being the head
abbrev pub part_at : Tree → ℤ → Option Tree
part_at (normal h es) (pos zero) = Some h
part_at (normal h es) (pos (suc n)) = at (elements es) n
part_at (normal h es) (negsuc n) = at (reverse (elements es)) n
part_at e n = None

abbrev pub parts_at : Tree → List Tree → Option (List Tree)
parts_at e [] = Some []
parts_at e (integer n ∷ ns) = elim (part_at e n) [ None ↦ None | Some f ↦ elim (parts_at e ns) [ None ↦ None | Some fs ↦ Some (f ∷ fs) ] ]
parts_at e (f ∷ ns) = None

abbrev pub each : (Tree → Option Tree) → List Tree → Option (List Tree)
each f [] = Some []
each f (e ∷ es) = elim (f e) [ None ↦ None | Some g ↦ elim (each f es) [ None ↦ None | Some gs ↦ Some (g ∷ gs) ] ]

abbrev pub with_head : Tree → Option (List Tree) → Option Tree
with_head (normal h es) (Some fs) = Some (call h fs)
with_head _ _ = None

-- Part[e, i, ..]; the rest of the indices goes to each element that a List of integers takes
abbrev pub part_of : Names → List Tree → Tree → Option Tree
part_of names [] e = Some e
part_of names (integer n ∷ is) e = elim (part_at e n) [ None ↦ None | Some f ↦ part_of names is f ]
part_of names (normal h ns ∷ is) e =
    elim (is_name names Builtin.List h) [
      | true ↦ elim (parts_at e (elements ns)) [ None ↦ None | Some fs ↦ with_head e (each (part_of names is) fs) ]
      | false ↦ None
    ]
part_of names (i ∷ is) e = None

abbrev pub part : Names → List Tree → Worked
part names (e ∷ i ∷ is) = given (part_of names (i ∷ is) e)
part names _ = Stays

-- a place of n, from 1, or from -1 backwards; no other is one
abbrev pub place_of : ℕ → ℤ → Option ℕ
place_of n (pos zero) = None
place_of n (pos (suc i)) = elim (leb (suc i) n) [ true ↦ Some (suc i) | false ↦ None ]
place_of n (negsuc i) = elim (leb (suc i) n) [ true ↦ Some (n - i) | false ↦ None ]

-- from a place to a place, both included; where the first is above the second, nothing
abbrev pub between : Option ℕ → Option ℕ → Option (ℕ × ℕ)
between (Some a) (Some b) = Some (a - 1, suc b - a)
between _ _ = None

abbrev pub span_in : ℕ → List Tree → Option (ℕ × ℕ)
span_in n (integer a ∷ integer b ∷ []) = between (place_of n a) (place_of n b)
span_in n _ = None

-- k, -k or {a, b} of n places: (how many stand before it, how many stand in it)
abbrev pub span : Names → ℕ → Tree → Option (ℕ × ℕ)
span names n (integer (pos k)) = elim (leb k n) [ true ↦ Some (0, k) | false ↦ None ]
span names n (integer (negsuc k)) = elim (leb (suc k) n) [ true ↦ Some (n - suc k, suc k) | false ↦ None ]
span names n e = elim (is_call names Builtin.List e) [ true ↦ span_in n (items_of e) | false ↦ None ]

abbrev pub taken : Names → List Tree → Worked
taken names (normal h es ∷ k ∷ []) = elim (span names (length (elements es)) k) [ None ↦ Stays | Some s ↦ Gives (call h (take s.1 (drop s.0 (elements es)))) ]
taken names _ = Stays

abbrev pub dropped : Names → List Tree → Worked
dropped names (normal h es ∷ k ∷ []) =
    elim (span names (length (elements es)) k) [ None ↦ Stays | Some s ↦ Gives (call h (take s.0 (elements es) ++ drop (s.0 + s.1) (elements es))) ]
dropped names _ = Stays

-- the elements of Lists, one after the other
abbrev pub all_lists : Names → List Tree → Option (List Tree)
all_lists names [] = Some []
all_lists names (e ∷ es) =
    elim (is_call names Builtin.List e) [ true ↦ elim (all_lists names es) [ None ↦ None | Some fs ↦ Some (items_of e ++ fs) ] | false ↦ None ]

-- a sorted list without what is equal to its neighbour
abbrev pub distinct : List Tree → List Tree
distinct [] = []
distinct (e ∷ []) = e ∷ []
distinct (e ∷ f ∷ es) = elim (same e f) [ true ↦ distinct (f ∷ es) | false ↦ e ∷ distinct (f ∷ es) ]

abbrev pub union : Names → List Tree → Worked
union names [] = Stays
union names (e ∷ es) = elim (all_lists names (e ∷ es)) [ None ↦ Stays | Some fs ↦ Gives (make names Builtin.List (distinct (ordered fs))) ]

abbrev pub joined : Tree → List Tree → Option (List Tree)
joined h [] = Some []
joined h (normal g fs ∷ es) = elim (same h g) [ true ↦ elim (joined h es) [ None ↦ None | Some gs ↦ Some (elements fs ++ gs) ] | false ↦ None ]
joined h (e ∷ es) = None

abbrev pub join : Names → List Tree → Worked
join names [] = Gives (make names Builtin.List [])
join names (normal h fs ∷ es) = elim (joined h es) [ None ↦ Stays | Some gs ↦ Gives (call h (elements fs ++ gs)) ]
join names _ = Stays

-- inner Lists give way to their elements, down to a depth
abbrev mutual
  pub flat_item : Names → Tree → ℕ → List Tree
  flat_item names (integer n) d = integer n ∷ []
  flat_item names (string t) d = string t ∷ []
  flat_item names (symbol s) d = symbol s ∷ []
  flat_item names (normal h es) zero = normal h es ∷ []
  flat_item names (normal h es) (suc d) = elim (is_name names Builtin.List h) [ true ↦ flat_items names es d | false ↦ normal h es ∷ [] ]

  pub flat_items : Names → Trees → ℕ → List Tree
  flat_items names nil d = []
  flat_items names (cons e es) d = flat_item names e d ++ flat_items names es d

-- no expression is deeper than 512
abbrev pub flatten_row : Names → List Tree → Worked
flatten_row names (normal h es ∷ []) = Gives (call h (flat_items names es 512))
flatten_row names (normal h es ∷ integer (pos d) ∷ []) = Gives (call h (flat_items names es d))
flatten_row names _ = Stays

-- pieces of n, in at most so many steps
abbrev pub pieces : ℕ → ℕ → List Tree → List (List Tree)
pieces zero n es = []
pieces (suc m) n es = elim (leb n (length es)) [ true ↦ take n es ∷ pieces m n (drop n es) | false ↦ [] ]

abbrev pub partition : List Tree → Worked
partition (normal h es ∷ integer (pos (suc n)) ∷ []) = Gives (call h (map (call h) (pieces (length (elements es)) (suc n) (elements es))))
partition _ = Stays

-- the rows of a List of Lists
abbrev pub rows_of : Names → List Tree → Option (List (List Tree))
rows_of names [] = Some []
rows_of names (e ∷ es) =
    elim (is_call names Builtin.List e) [ true ↦ elim (rows_of names es) [ None ↦ None | Some rs ↦ Some (items_of e ∷ rs) ] | false ↦ None ]

abbrev pub all_long : ℕ → List (List Tree) → Bool
all_long n [] = true
all_long n (r ∷ rs) = (length r == n) && all_long n rs

abbrev pub column : ℕ → List (List Tree) → List Tree
column n [] = []
column n (r ∷ rs) = elim (at r n) [ None ↦ column n rs | Some e ↦ e ∷ column n rs ]

abbrev pub columns : Names → ℕ → ℕ → List (List Tree) → List Tree
columns names i zero rs = []
columns names i (suc n) rs = make names Builtin.List (column i rs) ∷ columns names (suc i) n rs

abbrev pub transposed : Names → List (List Tree) → Worked
transposed names [] = Stays
transposed names (r ∷ rs) = elim (all_long (length r) rs) [ true ↦ Gives (make names Builtin.List (columns names 0 (length r) (r ∷ rs))) | false ↦ Stays ]

abbrev pub transpose : Names → List Tree → Worked
transpose names (e ∷ []) =
    elim (is_call names Builtin.List e) [ true ↦ elim (rows_of names (items_of e)) [ None ↦ Stays | Some rs ↦ transposed names rs ] | false ↦ Stays ]
transpose names _ = Stays

-- as often as n says; below 0 never
abbrev pub constant_array : Names → List Tree → Worked
constant_array names (x ∷ integer (pos n) ∷ []) = Gives (make names Builtin.List (replicate n x))
constant_array names (x ∷ integer (negsuc n) ∷ []) = Gives (make names Builtin.List [])
constant_array names _ = Stays

abbrev pub array : Names → List Tree → Worked
array names (f ∷ integer (pos n) ∷ []) = Gives (make names Builtin.List (map (mapped f) (count_up (pos 1) (pos 1) n)))
array names (f ∷ integer (negsuc n) ∷ []) = Gives (make names Builtin.List [])
array names _ = Stays

abbrev pub in_order : List Tree → Bool
in_order [] = true
in_order (e ∷ []) = true
in_order (e ∷ f ∷ es) = elim (is_gt (tree_cmp e f)) [ true ↦ false | false ↦ in_order (f ∷ es) ]

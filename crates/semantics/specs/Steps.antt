-- What splicing, stripping, flattening, threading and sorting do with the items of an expression.
--     splice, strip, flatten, thread, ordered      Sequence, Unevaluated, Flat, Listable, Orderless
use Rattle.std.specs.Prelude.{ℕ, zero, suc, List, [], ◌∷◌, ◌++◌, length, Bool, true, false, cond, Option, ◌==◌, ◌&&◌, Some, None}
use Rattle.expr_tree.specs.declared.sym.Sym.{Sym}
use Rattle.expr_tree.specs.Tree.{Tree, symbol, normal, Trees, nil, cons, trees, call}
use Rattle.expr_tree.specs.Order.{tree_cmp, same_symbol}
use Rattle.std.specs.Ordering.{is_le}
use Rattle.semantics.specs.declared.builtin.Builtin.{Builtin}
use Rattle.semantics.specs.Names.{Names, is_call, items_of, make}

-- splicing: an item Sequence[..] gives way to its items
abbrev pub splice : Names → List Tree → List Tree
splice names [] = []
splice names (e ∷ es) = cond (is_call names Builtin.Sequence e) (items_of e) (e ∷ []) ++ splice names es

-- what stands in Unevaluated[x], if e is one
abbrev pub unwrapped : Names → Tree → Option Tree
unwrapped names (normal h (cons e nil)) = elim (is_call names Builtin.Unevaluated (normal h nil)) [ true ↦ Some e | false ↦ None ]
unwrapped names _ = None

-- stripping: the outermost Unevaluated of each item is taken off
abbrev pub strip : Names → List Tree → List Tree
strip names [] = []
strip names (e ∷ es) = elim (unwrapped names e) [ None ↦ e ∷ strip names es | Some x ↦ x ∷ strip names es ]

abbrev pub has_wrapper : Names → List Tree → Bool
has_wrapper names [] = false
has_wrapper names (e ∷ es) = elim (unwrapped names e) [ None ↦ has_wrapper names es | Some x ↦ true ]

abbrev pub is_call_of : Sym → Tree → Bool
is_call_of s (normal (symbol t) es) = same_symbol s t
is_call_of s _ = false

-- flattening: an item with the same head gives way to its items, at every depth
abbrev mutual
  pub flatten_item : Sym → Tree → List Tree
  flatten_item s (normal h es) = elim (is_call_of s (normal h nil)) [ true ↦ flatten_items s es | false ↦ normal h es ∷ [] ]
  flatten_item s e = e ∷ []

  pub flatten_items : Sym → Trees → List Tree
  flatten_items s nil = []
  flatten_items s (cons e es) = flatten_item s e ++ flatten_items s es

abbrev pub flatten : Sym → List Tree → List Tree
flatten s items = flatten_items s (trees items)

-- whether all List items have the length n
abbrev pub all_of_length : Names → ℕ → List Tree → Bool
all_of_length names n [] = true
all_of_length names n (e ∷ es) =
    elim (is_call names Builtin.List e) [ true ↦ (length (items_of e) == n) && all_of_length names n es | false ↦ all_of_length names n es ]

-- the length of the first List item
abbrev pub first_length : Names → List Tree → Option ℕ
first_length names [] = None
first_length names (e ∷ es) = elim (is_call names Builtin.List e) [ true ↦ Some (length (items_of e)) | false ↦ first_length names es ]

abbrev pub first_or : Tree → List Tree → Tree
first_or d [] = d
first_or d (e ∷ es) = e

abbrev pub rest_of : List Tree → List Tree
rest_of [] = []
rest_of (e ∷ es) = es

-- the items with the first element of each List in its place, and with the rest of each List in its place
abbrev pub heads_of : Names → List Tree → List Tree
heads_of names [] = []
heads_of names (e ∷ es) =
    elim (is_call names Builtin.List e) [ true ↦ first_or e (items_of e) ∷ heads_of names es | false ↦ e ∷ heads_of names es ]

abbrev pub tails_of : Names → List Tree → List Tree
tails_of names [] = []
tails_of names (e ∷ es) =
    elim (is_call names Builtin.List e) [ true ↦ make names Builtin.List (rest_of (items_of e)) ∷ tails_of names es | false ↦ e ∷ tails_of names es ]

-- the n expressions head[..] with the elements of each List in turn
abbrev pub threads : Names → Sym → ℕ → List Tree → List Tree
threads names s zero items = []
threads names s (suc n) items = call (symbol s) (heads_of names items) ∷ threads names s n (tails_of names items)

-- threading: where some item is a List and all List items have one length
abbrev pub thread : Names → Sym → List Tree → Option (List Tree)
thread names s items =
    elim (first_length names items) [
      | None ↦ None
      | Some n ↦ elim (all_of_length names n items) [ true ↦ Some (threads names s n items) | false ↦ None ]
    ]

-- sorting: the canonical order; what is equal keeps its place
abbrev pub put_in : Tree → List Tree → List Tree
put_in e [] = e ∷ []
put_in e (f ∷ fs) = cond (is_le (tree_cmp e f)) (e ∷ f ∷ fs) (f ∷ put_in e fs)

abbrev pub ordered : List Tree → List Tree
ordered [] = []
ordered (e ∷ es) = put_in e (ordered es)

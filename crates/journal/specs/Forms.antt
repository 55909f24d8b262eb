-- What the parallel forms of a cell submit, wait for and give.
--     Form                   an answer at once, or items to submit and what follows when their ids are known
--     form                   the form of an expression, at a core, with the master's definitions
use Rattle.std.specs.Prelude.{ℕ, suc, pos, List, [], ◌∷◌, ◌++◌, map, length, ltb, Bool, true, false, ◌||◌, not, ◌==◌, Option, Some, None, codes}
use Rattle.std.specs.Ordering.{is_eq, int_eq}
use Rattle.expr_tree.specs.declared.sym.Sym.{Sym}
use Rattle.expr_tree.specs.Tree.{Tree, integer, string, symbol, normal, Trees, nil, cons, elements, call, size, depth}
use Rattle.expr_tree.specs.Order.{text_cmp}
use Rattle.semantics.specs.declared.builtin.Builtin.{Builtin}
use Rattle.semantics.specs.Names.{Names, name, is_call, items_of, make, role_of}
use Rattle.expr_tree.specs.Substitution.{Binding, among}
use Rattle.semantics.specs.InPlace.{put_in_place}
use Rattle.semantics.specs.Scoping.{symbols_in}
use Rattle.semantics.specs.Definitions.{Definitions, Share, Variable, Function, Shared, has, shared_as, stored, definition_of}
use Rattle.expr_tree.specs.declared.limits.Stop.{Stop}
use Rattle.expr_tree.specs.declared.limits.Limits.{Limits}
use Rattle.semantics.specs.Play.{Reply, too_large, first_cause}
use Rattle.semantics.specs.Control.{Values, From, Each, steps_to, inner_form}
use Rattle.semantics.specs.Lists.{count_up}
use Rattle.semantics.specs.Sections.{is_option, without_option, same_share}
use Rattle.journal.specs.Places.{member}
use Rattle.journal.specs.Closure.{is_shared}
use Rattle.journal.specs.declared.event.Wait.{Wait}
use Rattle.journal.specs.declared.item.Item.{Item}
use Rattle.journal.specs.Core.{Setup, Core, Kernel, names_item, count, failed, null}
use Rattle.journal.specs.Cuts.{Method, Coarsest, Finest, Per, cut}

-- what follows when the items are submitted
pub data Next : Type 0 where
  Replies : Reply → Next
  -- a wait; its reply gives that of the form
  Awaits : Wait → (List Tree → Reply) → Next

pub data Form : Type 0 where
  -- the reply and the definitions after it; nothing is posted
  Answers : Reply → Definitions → Form
  -- items in order, and what follows, given their ids
  Submits : List Item → (List ℕ → Next) → Form

-- ---- limits

abbrev pub first_of : Option Stop → Option Stop → Option Stop
first_of None b = b
first_of (Some c) b = Some c

abbrev pub any_too_large : Limits → List Tree → Bool
any_too_large limits [] = false
any_too_large limits (e ∷ es) = ltb limits.size (size e) || any_too_large limits es

abbrev pub any_too_deep : Limits → List Tree → Bool
any_too_deep limits [] = false
any_too_deep limits (e ∷ es) = ltb limits.depth (depth e) || any_too_deep limits es

-- why no item is made of these expressions: Size comes before Depth
abbrev pub refusal : Limits → List Tree → Option Stop
refusal limits es = first_cause (any_too_large limits es) (any_too_deep limits es)

-- a value within the limits, or the stop
abbrev pub checked : Limits → Tree → Reply
checked limits v = elim (too_large limits v) [ None ↦ Reply.Replied v | Some cause ↦ Reply.Halted cause ]

abbrev pub unless_refused : Setup → Definitions → List Tree → Form → Form
unless_refused set d es form = elim (refusal set.limits es) [ None ↦ form | Some cause ↦ Answers (Reply.Halted cause) d ]

abbrev pub gives : Definitions → Tree → Form
gives d v = Answers (Reply.Replied v) d

abbrev pub fails : Setup → Definitions → Form
fails set d = gives d (failed set.names)

-- ---- objects

abbrev pub object : Names → ℕ → Tree
object names id = make names Builtin.EvaluationObject (integer (pos id) ∷ [])

abbrev pub one_number : List Tree → Option ℕ
one_number (integer (pos n) ∷ []) = Some n
one_number _ = None

abbrev pub if_item : Core → Option ℕ → Option ℕ
if_item c None = None
if_item c (Some n) = elim (names_item c n) [ true ↦ Some n | false ↦ None ]

-- the id of an object; one whose id names no item is an ordinary expression
abbrev pub object_id : Names → Core → Tree → Option ℕ
object_id names c e = elim (is_call names Builtin.EvaluationObject e) [ true ↦ if_item c (one_number (items_of e)) | false ↦ None ]

abbrev mutual
  pub objects_in : Names → Core → Tree → List ℕ
  objects_in names c (integer n) = []
  objects_in names c (string t) = []
  objects_in names c (symbol s) = []
  objects_in names c (normal h es) =
      elim (object_id names c (normal h es)) [ Some id ↦ id ∷ [] | None ↦ objects_in names c h ++ objects_in_items names c es ]

  pub objects_in_items : Names → Core → Trees → List ℕ
  objects_in_items names c nil = []
  objects_in_items names c (cons e es) = objects_in names c e ++ objects_in_items names c es

-- in the order of their first place
abbrev pub without_repeats : List ℕ → List ℕ → List ℕ
without_repeats seen [] = []
without_repeats seen (n ∷ ns) = elim (member n seen) [ true ↦ without_repeats seen ns | false ↦ n ∷ without_repeats (n ∷ seen) ns ]

abbrev pub result_for : List ℕ → List Tree → ℕ → Tree → Tree
result_for (i ∷ is) (v ∷ vs) id e = elim (i == id) [ true ↦ v | false ↦ result_for is vs id e ]
result_for _ _ id e = e

-- results in the place of the objects
abbrev mutual
  pub with_results : Names → Core → List ℕ → List Tree → Tree → Tree
  with_results names c ids vs (integer n) = integer n
  with_results names c ids vs (string t) = string t
  with_results names c ids vs (symbol s) = symbol s
  with_results names c ids vs (normal h es) =
      elim (object_id names c (normal h es)) [
        | Some id ↦ result_for ids vs id (normal h es)
        | None ↦ normal (with_results names c ids vs h) (with_results_in names c ids vs es)
      ]

  pub with_results_in : Names → Core → List ℕ → List Tree → Trees → Trees
  with_results_in names c ids vs nil = nil
  with_results_in names c ids vs (cons e es) = cons (with_results names c ids vs e) (with_results_in names c ids vs es)

abbrev pub wait_all_for : Setup → Core → Definitions → Tree → List ℕ → Form
wait_all_for set c d e [] = gives d e
wait_all_for set c d e (id ∷ ids) =
    Submits [] (λ _. Awaits (Wait.All (id ∷ ids)) (λ vs. checked set.limits (with_results set.names c (id ∷ ids) vs e)))

abbrev pub wait_all : Setup → Core → Definitions → Tree → List Tree → Form
wait_all set c d stay (e ∷ []) = wait_all_for set c d e (without_repeats [] (objects_in set.names c e))
wait_all set c d stay _ = gives d stay

-- the ids of a list of objects, if all are
abbrev pub object_ids : Names → Core → List Tree → Option (List ℕ)
object_ids names c [] = Some []
object_ids names c (e ∷ es) =
    elim (object_id names c e) [ None ↦ None | Some id ↦ elim (object_ids names c es) [ None ↦ None | Some ids ↦ Some (id ∷ ids) ] ]

-- the list without the first occurrence of the object
abbrev pub without_first : Names → Core → ℕ → List Tree → List Tree
without_first names c id [] = []
without_first names c id (e ∷ es) =
    elim (object_id names c e) [
      | None ↦ e ∷ without_first names c id es
      | Some i ↦ elim (i == id) [ true ↦ es | false ↦ e ∷ without_first names c id es ]
    ]

abbrev pub next_value : Setup → Core → List Tree → List Tree → Reply
next_value set c es (v ∷ integer (pos id) ∷ []) =
    checked set.limits (make set.names Builtin.List (v ∷ object set.names id ∷ make set.names Builtin.List (without_first set.names c id es) ∷ []))
next_value set c es _ = Reply.Replied (failed set.names)

abbrev pub wait_next_for : Setup → Core → Definitions → List Tree → Option (List ℕ) → Form
wait_next_for set c d es (Some (id ∷ ids)) = Submits [] (λ _. Awaits (Wait.Next (without_repeats [] (id ∷ ids))) (next_value set c es))
wait_next_for set c d es _ = fails set d

abbrev pub wait_next : Setup → Core → Definitions → Tree → List Tree → Form
wait_next set c d stay (e ∷ []) =
    elim (is_call set.names Builtin.List e) [ true ↦ wait_next_for set c d (items_of e) (object_ids set.names c (items_of e)) | false ↦ fails set d ]
wait_next set c d stay _ = gives d stay

-- ---- submitting

abbrev pub object_of : Names → List ℕ → Next
object_of names (id ∷ []) = Replies (Reply.Replied (object names id))
object_of names _ = Replies (Reply.Replied (failed names))

abbrev pub submit_one : Setup → Definitions → Tree → Form
submit_one set d e = unless_refused set d (e ∷ []) (Submits (Item.Plain e ∷ []) (object_of set.names))

-- the present own values of variables
abbrev pub present : Names → Definitions → List Sym → Binding
present names d [] = []
present names d (s ∷ ss) =
    elim (stored names d s).own [ None ↦ present names d ss | Some v ↦ (s, v ∷ []) ∷ present names d ss ]

abbrev pub submit_with : Setup → Definitions → Tree → Tree → Option (List Sym) → Form
submit_with set d stay e None = gives d stay
submit_with set d stay e (Some ss) = submit_one set d (put_in_place set.names (present set.names d ss) e)

abbrev pub submit : Setup → Definitions → Tree → List Tree → Form
submit set d stay (e ∷ []) = submit_one set d e
submit set d stay (x ∷ e ∷ []) = elim (is_call set.names Builtin.List x) [ true ↦ submit_with set d stay e (symbols_in (items_of x)) | false ↦ gives d stay ]
submit set d stay _ = gives d stay

-- ---- methods

abbrev pub is_text : List ℕ → List ℕ → Bool
is_text s t = is_eq (text_cmp s t)

abbrev pub method_by_text : List ℕ → Option Method
method_by_text t =
    elim (is_text t (codes "CoarsestGrained")) [ true ↦ Some Coarsest | false ↦ elim (is_text t (codes "FinestGrained")) [ true ↦ Some Finest | false ↦ None ] ]

abbrev pub method_per : List Tree → Option Method
method_per (string t ∷ integer (pos (suc k)) ∷ []) = elim (is_text t (codes "ItemsPerEvaluation")) [ true ↦ Some (Per (suc k)) | false ↦ None ]
method_per _ = None

abbrev pub method_of : Names → Tree → Option Method
method_of names (string t) = method_by_text t
method_of names e = elim (is_call names Builtin.Rule e) [ true ↦ method_per (items_of e) | false ↦ None ]

abbrev pub right_of : List Tree → Option Tree
right_of (m ∷ v ∷ []) = Some v
right_of _ = None

-- the right side of the option that stands last, if one does
abbrev pub option_in : Names → List Tree → Option Tree
option_in names [] = None
option_in names (e ∷ []) = elim (is_option names e) [ true ↦ right_of (items_of e) | false ↦ None ]
option_in names (e ∷ f ∷ es) = option_in names (f ∷ es)

abbrev pub method_in : Names → List Tree → Option Method
method_in names es = elim (option_in names es) [ None ↦ Some Coarsest | Some e ↦ method_of names e ]

-- ---- batches

-- the values of all batches in order; none where one was given up
abbrev pub joined : Names → List Tree → Option (List Tree)
joined names [] = Some []
joined names (b ∷ bs) =
    elim (is_call names Builtin.List b) [
      | false ↦ None
      | true ↦ elim (joined names bs) [ None ↦ None | Some vs ↦ Some (items_of b ++ vs) ]
    ]

abbrev pub batches_for : Setup → Core → Definitions → Method → (Option (List Tree) → Reply) → List Tree → Form
batches_for set c d method finish [] = Answers (finish (Some [])) d
batches_for set c d method finish (a ∷ as') =
    unless_refused set d (a ∷ as')
    (Submits (map Item.Batch (cut method (count c) (a ∷ as'))) (λ ids. Awaits (Wait.All ids) (λ results. finish (joined set.names results))))

-- the value made of all values; where a batch was given up the form stops
abbrev pub or_size : Setup → (List Tree → Tree) → Option (List Tree) → Reply
or_size set k None = Reply.Halted Stop.Size
or_size set k (Some vs) = checked set.limits (k vs)

abbrev pub mapped : Tree → List Tree → List Tree
mapped f es = map (λ e. call f (e ∷ [])) es

abbrev pub map_with : Setup → Core → Definitions → Tree → Tree → Option Method → Form
map_with set c d f l None = fails set d
map_with set c d f (normal h es) (Some method) = batches_for set c d method (or_size set (call h)) (mapped f (elements es))
map_with set c d f l (Some method) = gives d l

abbrev pub parallel_map : Setup → Core → Definitions → Tree → List Tree → Form
parallel_map set c d stay (f ∷ l ∷ rest) = map_with set c d f l (method_in set.names rest)
parallel_map set c d stay _ = gives d stay

-- ---- loops

abbrev pub number_values : Tree → Tree → Tree → Option Values
number_values (integer a) (integer b) (integer step) = elim (int_eq step (pos 0)) [ true ↦ None | false ↦ Some (From a step (steps_to a b step)) ]
number_values _ _ _ = None

abbrev pub bound_values : Names → Tree → Option Values
bound_values names (integer b) = Some (From (pos 1) (pos 1) (steps_to (pos 1) b (pos 1)))
bound_values names e = elim (is_call names Builtin.List e) [ true ↦ Some (Each (items_of e)) | false ↦ None ]

abbrev pub with_symbol : Option Sym → Option Values → Option (Option Sym × Values)
with_symbol i None = None
with_symbol i (Some values) = Some (i, values)

-- the symbol and the values of an iterator whose parts are evaluated
abbrev pub iterator_values : Names → List Tree → Option (Option Sym × Values)
iterator_values names (integer n ∷ []) = with_symbol None (bound_values names (integer n))
iterator_values names (symbol i ∷ b ∷ []) = with_symbol (Some i) (bound_values names b)
iterator_values names (symbol i ∷ a ∷ b ∷ []) = with_symbol (Some i) (number_values a b (integer (pos 1)))
iterator_values names (symbol i ∷ a ∷ b ∷ step ∷ []) = with_symbol (Some i) (number_values a b step)
iterator_values names _ = None

abbrev pub iterator_of : Names → Tree → Option (Option Sym × Values)
iterator_of names it = elim (is_call names Builtin.List it) [ true ↦ iterator_values names (items_of it) | false ↦ None ]

abbrev pub value_count : Values → ℕ
value_count (From a step n) = n
value_count (Each es) = length es

abbrev pub value_list : Values → List Tree
value_list (From a step n) = count_up a step n
value_list (Each es) = es

-- the body as it is for each value
abbrev pub block_with : Names → Option Sym → Tree → Tree → Tree
block_with names None body v = body
block_with names (Some i) body v =
    make names Builtin.Block (make names Builtin.List (make names Builtin.Set (symbol i ∷ v ∷ []) ∷ []) ∷ body ∷ [])

abbrev pub most_values : ℕ
most_values = 3999999

abbrev pub is_shared_iterator : Definitions → Option Sym → Bool
is_shared_iterator d None = false
is_shared_iterator d (Some i) = is_shared d i

abbrev pub loop_over : Setup → Core → Definitions → Method → (Option (List Tree) → Reply) → Tree → Option Sym → Values → Form
loop_over set c d method finish body i values =
    elim (is_shared_iterator d i) [
      | true ↦ fails set d
      | false ↦ elim (ltb most_values (value_count values)) [
        | true ↦ Answers (Reply.Halted Stop.Size) d
        | false ↦ batches_for set c d method finish (map (block_with set.names i body) (value_list values))
      ]
    ]

abbrev pub loop_with : Setup → Core → Definitions → Tree → (Option (List Tree) → Reply) → Tree → Option (Option Sym × Values) → Option Method → Form
loop_with set c d stay finish body values None = fails set d
loop_with set c d stay finish body None (Some method) = gives d stay
loop_with set c d stay finish body (Some v) (Some method) = loop_over set c d method finish body v.0 v.1

-- `sequential` is the row that the further iterators are for
abbrev pub parallel_loop : Setup → Core → Definitions → Tree → Builtin → (Option (List Tree) → Reply) → List Tree → Form
parallel_loop set c d stay sequential finish (e ∷ it ∷ rest) =
    loop_with set c d stay finish (inner_form set.names sequential e (without_option set.names rest)) (iterator_of set.names it) (method_in set.names rest)
parallel_loop set c d stay sequential finish _ = gives d stay

abbrev pub to_null : Setup → Option (List Tree) → Reply
to_null set o = Reply.Replied (null set.names)

-- ---- Combine, Try, Evaluate

abbrev pub combiner : Setup → Definitions → Tree → List Tree → Tree
combiner set d h (comb ∷ rest) = comb
combiner set d (symbol s) [] = elim (has Builtin.Flat (definition_of set.names d s).attributes) [ true ↦ symbol s | false ↦ name set.names Builtin.Join ]
combiner set d h [] = name set.names Builtin.Join

abbrev pub plain_items : Setup → Definitions → List Tree → (List ℕ → Next) → Form
plain_items set d es k = unless_refused set d es (Submits (map Item.Plain es) k)

abbrev pub combine_chunks : Setup → Core → Definitions → Method → Tree → Tree → Tree → List Tree → Form
combine_chunks set c d method f h comb [] = Answers (checked set.limits (call comb [])) d
combine_chunks set c d method f h comb (e ∷ es) =
    plain_items set d (map (λ chunk. call f (call h chunk ∷ [])) (cut method (count c) (e ∷ es)))
    (λ ids. Awaits (Wait.All ids) (λ vs. checked set.limits (call comb vs)))

abbrev pub combine_with : Setup → Core → Definitions → Tree → Tree → Tree → List Tree → Option Method → Form
combine_with set c d stay f l rest None = fails set d
combine_with set c d stay f (normal h es) rest (Some method) = combine_chunks set c d method f h (combiner set d h rest) (elements es)
combine_with set c d stay f l rest (Some method) = gives d stay

abbrev pub parallel_combine : Setup → Core → Definitions → Tree → List Tree → Form
parallel_combine set c d stay (f ∷ l ∷ rest) = combine_with set c d stay f l (without_option set.names rest) (method_in set.names rest)
parallel_combine set c d stay _ = gives d stay

abbrev pub first_or_failed : Setup → List Tree → Reply
first_or_failed set (v ∷ []) = checked set.limits v
first_or_failed set _ = Reply.Replied (failed set.names)

abbrev pub try_items : Setup → Definitions → Tree → List Tree → Form
try_items set d f [] = fails set d
try_items set d f (e ∷ es) = plain_items set d (mapped f (e ∷ es)) (λ ids. Awaits (Wait.Try ids) (first_or_failed set))

abbrev pub parallel_try : Setup → Definitions → Tree → List Tree → Form
parallel_try set d stay (f ∷ l ∷ []) = elim (is_call set.names Builtin.List l) [ true ↦ try_items set d f (items_of l) | false ↦ gives d stay ]
parallel_try set d stay _ = gives d stay

-- one item for each live kernel, in order
abbrev pub pinned_from : ℕ → List Kernel → Tree → List Item
pinned_from k [] e = []
pinned_from k (x ∷ xs) e = elim x.lives [ true ↦ Item.Pinned k e ∷ pinned_from (suc k) xs e | false ↦ pinned_from (suc k) xs e ]

abbrev pub evaluate_items : Setup → Definitions → Tree → List Item → Form
evaluate_items set d e [] = gives d (make set.names Builtin.List [])
evaluate_items set d e (i ∷ is) =
    unless_refused set d (e ∷ []) (Submits (i ∷ is) (λ ids. Awaits (Wait.All ids) (λ vs. checked set.limits (make set.names Builtin.List vs))))

abbrev pub parallel_evaluate : Setup → Core → Definitions → Tree → List Tree → Form
parallel_evaluate set c d stay (e ∷ []) = evaluate_items set d e (pinned_from 0 c.kernels e)
parallel_evaluate set c d stay _ = gives d stay

-- ---- names and sharing

abbrev pub with_named : List Sym → List Sym → List Sym
with_named [] named = named
with_named (s ∷ ss) named = elim (among s named) [ true ↦ with_named ss named | false ↦ with_named ss (named ++ s ∷ []) ]

abbrev pub distribute : Setup → Definitions → Tree → Option (List Sym) → Form
distribute set d stay None = gives d stay
distribute set d stay (Some ss) = gives (record d { named = with_named ss d.named }) (null set.names)

-- a symbol is not shared where it is Protected, or shared in the other kind
abbrev pub in_other_kind : Share → Option Shared → Bool
in_other_kind kind None = false
in_other_kind kind (Some e) = not (same_share e.kind kind)

abbrev pub cannot_share : Names → Definitions → Share → List Sym → Bool
cannot_share names d kind [] = false
cannot_share names d kind (s ∷ ss) =
    (has Builtin.Protected (definition_of names d s).attributes || in_other_kind kind (shared_as d.shared s)) || cannot_share names d kind ss

abbrev pub with_shared : Names → Definitions → Share → List Sym → List Shared → List Shared
with_shared names d kind [] shared = shared
with_shared names d kind (s ∷ ss) shared =
    elim (shared_as shared s) [
      | Some e ↦ with_shared names d kind ss shared
      | None ↦ with_shared names d kind ss (shared ++ record { symbol = s; kind = kind; attributes = (stored names d s).attributes } ∷ [])
    ]

abbrev pub share : Setup → Definitions → Tree → Share → Option (List Sym) → Form
share set d stay kind None = gives d stay
share set d stay kind (Some ss) =
    elim (cannot_share set.names d kind ss) [ true ↦ fails set d | false ↦ gives (record d { shared = with_shared set.names d kind ss d.shared }) (null set.names) ]

-- ---- all forms

abbrev pub by_row : Setup → Core → Definitions → Tree → Builtin → List Tree → Form
by_row set c d stay Builtin.ParallelSubmit es = submit set d stay es
by_row set c d stay Builtin.WaitAll es = wait_all set c d stay es
by_row set c d stay Builtin.WaitNext es = wait_next set c d stay es
by_row set c d stay Builtin.ParallelMap es = parallel_map set c d stay es
by_row set c d stay Builtin.ParallelTable es = parallel_loop set c d stay Builtin.Table (or_size set (make set.names Builtin.List)) es
by_row set c d stay Builtin.ParallelDo es = parallel_loop set c d stay Builtin.Do (to_null set) es
by_row set c d stay Builtin.ParallelSum es = parallel_loop set c d stay Builtin.Sum (or_size set (make set.names Builtin.Plus)) es
by_row set c d stay Builtin.ParallelCombine es = parallel_combine set c d stay es
by_row set c d stay Builtin.ParallelTry es = parallel_try set d stay es
by_row set c d stay Builtin.ParallelEvaluate es = parallel_evaluate set c d stay es
by_row set c d stay Builtin.DistributeDefinitions es = distribute set d stay (symbols_in es)
by_row set c d stay Builtin.SetSharedVariable es = share set d stay Variable (symbols_in es)
by_row set c d stay Builtin.SetSharedFunction es = share set d stay Function (symbols_in es)
by_row set c d stay _ es = gives d stay

abbrev pub by_role : Setup → Core → Definitions → Tree → Option Builtin → List Tree → Form
by_role set c d stay None es = gives d stay
by_role set c d stay (Some row) es = by_row set c d stay row es

abbrev pub form : Setup → Core → Definitions → Tree → Form
form set c d (normal (symbol s) es) = by_role set c d (normal (symbol s) es) (role_of set.names s) (elements es)
form set c d e = gives d e

-- The forms of a cell reply with a value or a stop; those that go outward also inside a section wait for nothing.
use Rattle.std.proofs.Common.{◌≡◌, refl, ℕ, Bool, true, false, List, [], ◌∷◌, map, Option, Some, None}
use Rattle.std.specs.Prelude.{ltb, pos}
use Rattle.expr_tree.specs.declared.sym.Sym.{Sym}
use Rattle.expr_tree.specs.declared.limits.Stop.{Stop}
use Rattle.expr_tree.specs.Tree.{Tree, integer, string, symbol, normal, elements, call}
use Rattle.semantics.specs.declared.builtin.Builtin.{Builtin}
use Rattle.semantics.specs.Names.{is_call, items_of, make, role_of}
use Rattle.semantics.specs.Control.{Values, inner_form}
use Rattle.semantics.specs.Scoping.{symbols_in}
use Rattle.semantics.specs.Sections.{without_option}
use Rattle.semantics.specs.Definitions.{Definitions, Share}
use Rattle.semantics.specs.Play.{Reply, Replied, Halted, too_large}
use Rattle.journal.specs.Cuts.{Method, cut}
use Rattle.journal.specs.declared.event.Wait.{Wait}
use Rattle.journal.specs.declared.item.Item.{Item}
use Rattle.journal.specs.Core.{Setup, Core, count, null}
use Rattle.journal.specs.Forms.{Next, Replies, Awaits, Form, Answers, Submits, refusal, checked, unless_refused, object, object_ids, objects_in, without_first, without_repeats, wait_all_for, wait_all, next_value, wait_next_for, wait_next, object_of, submit_one, submit_with, submit, method_in, batches_for, or_size, map_with, parallel_map, iterator_of, is_shared_iterator, most_values, value_count, loop_over, loop_with, parallel_loop, to_null, combiner, plain_items, combine_chunks, combine_with, parallel_combine, first_or_failed, mapped, try_items, parallel_try, pinned_from, evaluate_items, parallel_evaluate, distribute, cannot_share, share, by_row, by_role, form}
use Rattle.laws_calls.specs.Ends.{answered}

-- ---- replies

pub data IsAnswer : Reply → Type 0 where
  value : {v : Tree} → IsAnswer (Replied v)
  stops : {cause : Stop} → IsAnswer (Halted cause)

pub data NextAnswers : Next → Type 0 where
  replies : {r : Reply} → IsAnswer r → NextAnswers (Replies r)
  awaits : {w : Wait} {k : List Tree → Reply} → ((vs : List Tree) → IsAnswer (k vs)) → NextAnswers (Awaits w k)

pub data FormAnswers : Form → Type 0 where
  answers : {r : Reply} {d : Definitions} → IsAnswer r → FormAnswers (Answers r d)
  submits : {items : List Item} {k : List ℕ → Next} → ((ids : List ℕ) → NextAnswers (k ids)) → FormAnswers (Submits items k)

pub is_answered : {r : Reply} → IsAnswer r → answered r true ≡ true
is_answered value = refl
is_answered stops = refl

either : (b : Bool) {p q : Form} → FormAnswers p → FormAnswers q → FormAnswers (elim b [ true ↦ p | false ↦ q ])
either true one other = one
either false one other = other

maybe : {A : Type 0} (o : Option A) {p : Form} {k : A → Form} → FormAnswers p → ((a : A) → FormAnswers (k a)) → FormAnswers (elim o [ None ↦ p | Some a ↦ k a ])
maybe None one other = one
maybe (Some a) one other = other a

module _ (set : Setup) (c : Core) (d : Definitions) where
  checked-answers : (v : Tree) → IsAnswer (checked set.limits v)
  checked-answers v = go (too_large set.limits v)
    where
      go : (o : Option Stop) → IsAnswer (elim o [ None ↦ Reply.Replied v | Some cause ↦ Reply.Halted cause ])
      go None = value
      go (Some cause) = stops

  unless_refused-answers : (es : List Tree) {f : Form} → FormAnswers f → FormAnswers (unless_refused set d es f)
  unless_refused-answers es one = maybe (refusal set.limits es) one (λ cause. answers stops)

  wait_all_for-answers : (e : Tree) (ids : List ℕ) → FormAnswers (wait_all_for set c d e ids)
  wait_all_for-answers e [] = answers value
  wait_all_for-answers e (id ∷ ids) = submits (λ _. awaits (λ vs. checked-answers _))

  wait_all-answers : (stay : Tree) (es : List Tree) → FormAnswers (wait_all set c d stay es)
  wait_all-answers stay (e ∷ []) = wait_all_for-answers e (without_repeats [] (objects_in set.names c e))
  wait_all-answers stay [] = answers value
  wait_all-answers stay (e ∷ f ∷ es) = answers value

  next_value-answers : (es vs : List Tree) → IsAnswer (next_value set c es vs)
  next_value-answers es (v ∷ integer (pos id) ∷ []) =
      checked-answers (make set.names Builtin.List (v ∷ object set.names id ∷ make set.names Builtin.List (without_first set.names c id es) ∷ []))
  next_value-answers es _ = value

  wait_next_for-answers : (es : List Tree) (o : Option (List ℕ)) → FormAnswers (wait_next_for set c d es o)
  wait_next_for-answers es (Some (id ∷ ids)) = submits (λ _. awaits (λ vs. next_value-answers es vs))
  wait_next_for-answers es (Some []) = answers value
  wait_next_for-answers es None = answers value

  wait_next-answers : (stay : Tree) (es : List Tree) → FormAnswers (wait_next set c d stay es)
  wait_next-answers stay (e ∷ []) = either (is_call set.names Builtin.List e) (wait_next_for-answers (items_of e) (object_ids set.names c (items_of e))) (answers value)
  wait_next-answers stay [] = answers value
  wait_next-answers stay (e ∷ f ∷ es) = answers value

  object_of-answers : (ids : List ℕ) → NextAnswers (object_of set.names ids)
  object_of-answers [] = replies value
  object_of-answers (id ∷ []) = replies value
  object_of-answers (id ∷ i ∷ ids) = replies value

  submit_one-answers : (e : Tree) → FormAnswers (submit_one set d e)
  submit_one-answers e = unless_refused-answers (e ∷ []) (submits object_of-answers)

  submit_with-answers : (stay e : Tree) (o : Option (List Sym)) → FormAnswers (submit_with set d stay e o)
  submit_with-answers stay e None = answers value
  submit_with-answers stay e (Some ss) = submit_one-answers _

  submit-answers : (stay : Tree) (es : List Tree) → FormAnswers (submit set d stay es)
  submit-answers stay (e ∷ []) = submit_one-answers e
  submit-answers stay (x ∷ e ∷ []) = either (is_call set.names Builtin.List x) (submit_with-answers stay e (symbols_in (items_of x))) (answers value)
  submit-answers stay [] = answers value
  submit-answers stay (x ∷ e ∷ f ∷ es) = answers value

  -- what a form makes of the values of its batches
  abbrev Finishes : (Option (List Tree) → Reply) → Type 0
  Finishes finish = (o : Option (List Tree)) → IsAnswer (finish o)

  or_size-answers : (k : List Tree → Tree) → Finishes (or_size set k)
  or_size-answers k None = stops
  or_size-answers k (Some vs) = checked-answers _

  batches_for-answers : (method : Method) (finish : Option (List Tree) → Reply) (es : List Tree) → Finishes finish → FormAnswers (batches_for set c d method finish es)
  batches_for-answers method finish [] ends = answers (ends (Some []))
  batches_for-answers method finish (e ∷ es) ends = unless_refused-answers (e ∷ es) (submits (λ ids. awaits (λ results. ends _)))

  map_with-answers : (f l : Tree) (o : Option Method) → FormAnswers (map_with set c d f l o)
  map_with-answers f l None = answers value
  map_with-answers f (normal h es) (Some method) = batches_for-answers method _ _ (or_size-answers (call h))
  map_with-answers f (integer n) (Some method) = answers value
  map_with-answers f (string t) (Some method) = answers value
  map_with-answers f (symbol s) (Some method) = answers value

  parallel_map-answers : (stay : Tree) (es : List Tree) → FormAnswers (parallel_map set c d stay es)
  parallel_map-answers stay (f ∷ l ∷ rest) = map_with-answers f l (method_in set.names rest)
  parallel_map-answers stay [] = answers value
  parallel_map-answers stay (f ∷ []) = answers value

  loop_over-answers : (method : Method) (finish : Option (List Tree) → Reply) (body : Tree) (i : Option Sym) (values : Values) → Finishes finish → FormAnswers (loop_over set c d method finish body i values)
  loop_over-answers method finish body i values ends =
      either (is_shared_iterator d i) (answers value) (either (ltb most_values (value_count values)) (answers stops) (batches_for-answers method finish _ ends))

  loop_with-answers : (stay : Tree) (finish : Option (List Tree) → Reply) (body : Tree) (v : Option (Option Sym × Values)) (o : Option Method) → Finishes finish
      → FormAnswers (loop_with set c d stay finish body v o)
  loop_with-answers stay finish body v None ends = answers value
  loop_with-answers stay finish body None (Some method) ends = answers value
  loop_with-answers stay finish body (Some v) (Some method) ends = loop_over-answers method finish body v.0 v.1 ends

  parallel_loop-answers : (stay : Tree) (sequential : Builtin) (finish : Option (List Tree) → Reply) (es : List Tree) → Finishes finish → FormAnswers (parallel_loop set c d stay sequential finish es)
  parallel_loop-answers stay sequential finish (e ∷ it ∷ rest) ends =
      loop_with-answers stay finish (inner_form set.names sequential e (without_option set.names rest)) (iterator_of set.names it) (method_in set.names rest) ends
  parallel_loop-answers stay sequential finish [] ends = answers value
  parallel_loop-answers stay sequential finish (e ∷ []) ends = answers value

  plain_items-answers : (es : List Tree) (k : List ℕ → Next) → ((ids : List ℕ) → NextAnswers (k ids)) → FormAnswers (plain_items set d es k)
  plain_items-answers es k next = unless_refused-answers es (submits next)

  combine_chunks-answers : (method : Method) (f h comb : Tree) (es : List Tree) → FormAnswers (combine_chunks set c d method f h comb es)
  combine_chunks-answers method f h comb [] = answers {d = d} (checked-answers (call comb []))
  combine_chunks-answers method f h comb (e ∷ es) =
      plain_items-answers (map (λ chunk. call f (call h chunk ∷ [])) (cut method (count c) (e ∷ es))) _ (λ ids. awaits {w = Wait.All ids} (λ vs. checked-answers (call comb vs)))

  combine_with-answers : (stay f l : Tree) (rest : List Tree) (o : Option Method) → FormAnswers (combine_with set c d stay f l rest o)
  combine_with-answers stay f l rest None = answers value
  combine_with-answers stay f (normal h es) rest (Some method) = combine_chunks-answers method f h (combiner set d h rest) (elements es)
  combine_with-answers stay f (integer n) rest (Some method) = answers value
  combine_with-answers stay f (string t) rest (Some method) = answers value
  combine_with-answers stay f (symbol s) rest (Some method) = answers value

  parallel_combine-answers : (stay : Tree) (es : List Tree) → FormAnswers (parallel_combine set c d stay es)
  parallel_combine-answers stay (f ∷ l ∷ rest) = combine_with-answers stay f l (without_option set.names rest) (method_in set.names rest)
  parallel_combine-answers stay [] = answers value
  parallel_combine-answers stay (f ∷ []) = answers value

  first_or_failed-answers : (vs : List Tree) → IsAnswer (first_or_failed set vs)
  first_or_failed-answers [] = value
  first_or_failed-answers (v ∷ []) = checked-answers v
  first_or_failed-answers (v ∷ w ∷ vs) = value

  try_items-answers : (f : Tree) (es : List Tree) → FormAnswers (try_items set d f es)
  try_items-answers f [] = answers value
  try_items-answers f (e ∷ es) = plain_items-answers (mapped f (e ∷ es)) _ (λ ids. awaits {w = Wait.Try ids} (λ vs. first_or_failed-answers vs))

  parallel_try-answers : (stay : Tree) (es : List Tree) → FormAnswers (parallel_try set d stay es)
  parallel_try-answers stay (f ∷ l ∷ []) = either (is_call set.names Builtin.List l) (try_items-answers f (items_of l)) (answers value)
  parallel_try-answers stay [] = answers value
  parallel_try-answers stay (f ∷ []) = answers value
  parallel_try-answers stay (f ∷ l ∷ e ∷ es) = answers value

  evaluate_items-answers : (e : Tree) (is : List Item) → FormAnswers (evaluate_items set d e is)
  evaluate_items-answers e [] = answers value
  evaluate_items-answers e (i ∷ is) =
      unless_refused-answers (e ∷ []) (submits {items = i ∷ is} (λ ids. awaits {w = Wait.All ids} (λ vs. checked-answers (make set.names Builtin.List vs))))

  parallel_evaluate-answers : (stay : Tree) (es : List Tree) → FormAnswers (parallel_evaluate set c d stay es)
  parallel_evaluate-answers stay (e ∷ []) = evaluate_items-answers e (pinned_from 0 c.kernels e)
  parallel_evaluate-answers stay [] = answers value
  parallel_evaluate-answers stay (e ∷ f ∷ es) = answers value

  distribute-answers : (stay : Tree) (o : Option (List Sym)) → FormAnswers (distribute set d stay o)
  distribute-answers stay None = answers value
  distribute-answers stay (Some ss) = answers value

  share-answers : (stay : Tree) (kind : Share) (o : Option (List Sym)) → FormAnswers (share set d stay kind o)
  share-answers stay kind None = answers value
  share-answers stay kind (Some ss) = either (cannot_share set.names d kind ss) (answers value) (answers value)

  by_row-answers : (stay : Tree) (row : Builtin) (es : List Tree) → FormAnswers (by_row set c d stay row es)
  by_row-answers stay Builtin.ParallelSubmit es = submit-answers stay es
  by_row-answers stay Builtin.WaitAll es = wait_all-answers stay es
  by_row-answers stay Builtin.WaitNext es = wait_next-answers stay es
  by_row-answers stay Builtin.ParallelMap es = parallel_map-answers stay es
  by_row-answers stay Builtin.ParallelTable es = parallel_loop-answers stay Builtin.Table (or_size set (make set.names Builtin.List)) es (or_size-answers (make set.names Builtin.List))
  by_row-answers stay Builtin.ParallelDo es = parallel_loop-answers stay Builtin.Do (to_null set) es (λ o. value {v = null set.names})
  by_row-answers stay Builtin.ParallelSum es = parallel_loop-answers stay Builtin.Sum (or_size set (make set.names Builtin.Plus)) es (or_size-answers (make set.names Builtin.Plus))
  by_row-answers stay Builtin.ParallelCombine es = parallel_combine-answers stay es
  by_row-answers stay Builtin.ParallelTry es = parallel_try-answers stay es
  by_row-answers stay Builtin.ParallelEvaluate es = parallel_evaluate-answers stay es
  by_row-answers stay Builtin.DistributeDefinitions es = distribute-answers stay (symbols_in es)
  by_row-answers stay Builtin.SetSharedVariable es = share-answers stay _ (symbols_in es)
  by_row-answers stay Builtin.SetSharedFunction es = share-answers stay _ (symbols_in es)
  by_row-answers stay _ es = answers value

  by_role-answers : (stay : Tree) (o : Option Builtin) (es : List Tree) → FormAnswers (by_role set c d stay o es)
  by_role-answers stay None es = answers value
  by_role-answers stay (Some row) es = by_row-answers stay row es

  pub form-answers : (e : Tree) → FormAnswers (form set c d e)
  form-answers (integer n) = answers value
  form-answers (string t) = answers value
  form-answers (symbol s) = answers value
  form-answers (normal (symbol s) es) = by_role-answers (normal (symbol s) es) (role_of set.names s) (elements es)
  form-answers (normal (integer n) es) = answers value
  form-answers (normal (string t) es) = answers value
  form-answers (normal (normal h fs) es) = answers value

-- Rows of lists: each symbol of a result stands in the items or in the table.
use Rattle.std.proofs.Common.{false, ◌≡◌, refl, ℕ, zero, suc, List, [], ◌∷◌, ◌++◌, map, length, reverse, take, drop, Option, Some, None}
use Rattle.std.specs.Prelude.{ℤ, pos, negsuc, ◌+ℤ◌, ◌+◌, leb}
use Rattle.std.specs.Ordering.{int_eq}
use Rattle.expr_tree.specs.declared.sym.Sym.{Sym}
use Rattle.expr_tree.specs.Tree.{Tree, integer, string, symbol, normal, Trees, nil, cons, elements, call}
use Rattle.expr_tree.specs.Order.{same}
use Rattle.semantics.specs.declared.builtin.Builtin.{Builtin}
use Rattle.semantics.specs.Names.{Names, known, is_name, is_call, items_of}
use Rattle.semantics.specs.Steps.{ordered}
use Rattle.semantics.specs.Worked.{Stays, Gives}
use Rattle.semantics.specs.Lists as Lists
use Rattle.semantics.specs.Table.{ordered_q}
use Rattle.laws_closure.specs.Throws.{may_throw}
use Rattle.laws_closure.proofs.Inside.{both, Each, Opt, perhaps, appended, mapped, reversed, taken, dropped, replicated, In, Ins, AllIn, listed, called, items, in_order}
use Rattle.laws_closure.proofs.NumberRows.{Fine, makes, true_or_false}

module _ (C : Sym → Type 0) where
  pub head_in : (es : List Tree) → AllIn C es → Fine C (Lists.head es)
  head_in (normal h es ∷ []) all = all.0.0
  head_in _ all = tt

  pub length_of_in : (es : List Tree) → Fine C (Lists.length_of es)
  length_of_in (normal h es ∷ []) = tt
  length_of_in (integer n ∷ []) = tt
  length_of_in (string t ∷ []) = tt
  length_of_in (symbol s ∷ []) = tt
  length_of_in _ = tt

  pub first_in : (es : List Tree) → AllIn C es → Fine C (Lists.first es)
  first_in (normal h (cons e es) ∷ []) all = all.0.1.0
  first_in _ all = tt

  pub rest_in : (es : List Tree) → AllIn C es → Fine C (Lists.rest es)
  rest_in (normal h (cons e es) ∷ []) all = (all.0.0, all.0.1.1)
  rest_in _ all = tt

  pub append_in : (es : List Tree) → AllIn C es → Fine C (Lists.append es)
  append_in (normal h es ∷ x ∷ []) all = called C h _ all.0.0 (appended (In C) (elements es) (x ∷ []) (listed C es all.0.1) all.1)
  append_in _ all = tt

  pub prepend_in : (es : List Tree) → AllIn C es → Fine C (Lists.prepend es)
  prepend_in (normal h es ∷ x ∷ []) all = (all.0.0, (all.1.0, all.0.1))
  prepend_in _ all = tt

  pub reversed_in : (es : List Tree) → AllIn C es → Fine C (Lists.reversed es)
  reversed_in (normal h es ∷ []) all = called C h _ all.0.0 (reversed (In C) (elements es) (listed C es all.0.1))
  reversed_in _ all = tt

  pub sort_in : (es : List Tree) → AllIn C es → Fine C (Lists.sort es)
  sort_in (normal h es ∷ []) all = called C h _ all.0.0 (in_order C (elements es) (listed C es all.0.1))
  sort_in _ all = tt

  pub counted_in : (a d : ℤ) (n : ℕ) → AllIn C (Lists.count_up a d n)
  counted_in a d zero = tt
  counted_in a d (suc n) = (tt, counted_in (a +ℤ d) d n)

  pub each_mapped : (f : Tree) (es : List Tree) → In C f → AllIn C es → AllIn C (map (Lists.mapped f) es)
  each_mapped f es one all = mapped (In C) (In C) (Lists.mapped f) (λ e e_in. called C f (e ∷ []) one (e_in, tt)) es all

  pub map_in : (es : List Tree) → AllIn C es → Fine C (Lists.map_row es)
  map_in (f ∷ normal h es ∷ []) all = called C h _ all.1.0.0 (each_mapped f (elements es) all.0 (listed C es all.1.0.1))
  map_in (f ∷ integer n ∷ []) all = tt
  map_in (f ∷ string t ∷ []) all = tt
  map_in (f ∷ symbol s ∷ []) all = all.1.0
  map_in _ all = tt

  pub apply_in : (es : List Tree) → AllIn C es → Fine C (Lists.apply es)
  apply_in (f ∷ normal h es ∷ []) all = (all.0, all.1.0.1)
  apply_in (f ∷ integer n ∷ []) all = tt
  apply_in (f ∷ string t ∷ []) all = tt
  apply_in (f ∷ symbol s ∷ []) all = all.1.0
  apply_in _ all = tt

  pub itself_in : (es : List Tree) → AllIn C es → Fine C (Lists.itself es)
  itself_in (e ∷ []) all = all.0
  itself_in _ all = tt

  given_in : (o : Option Tree) → Opt (In C) o → Fine C (Lists.given o)
  given_in None one = tt
  given_in (Some e) one = one

  last_of_in : (es : List Tree) → AllIn C es → Opt (In C) (Lists.last_of es)
  last_of_in [] all = tt
  last_of_in (e ∷ []) all = all.0
  last_of_in (e ∷ f ∷ es) all = last_of_in (f ∷ es) all.1

  but_last_in : (es : List Tree) → AllIn C es → AllIn C (Lists.but_last es)
  but_last_in [] all = tt
  but_last_in (e ∷ []) all = tt
  but_last_in (e ∷ f ∷ es) all = (all.0, but_last_in (f ∷ es) all.1)

  pub last_in : (es : List Tree) → AllIn C es → Fine C (Lists.last es)
  last_in (normal h es ∷ []) all = given_in _ (last_of_in (elements es) (listed C es all.0.1))
  last_in _ all = tt

  pub most_in : (es : List Tree) → AllIn C es → Fine C (Lists.most es)
  most_in (normal h (cons e es) ∷ []) all = called C h _ all.0.0 (but_last_in (e ∷ elements es) (all.0.1.0, listed C es all.0.1.1))
  most_in _ all = tt

  at_in : (es : List Tree) (n : ℕ) → AllIn C es → Opt (In C) (Lists.at es n)
  at_in [] n all = tt
  at_in (e ∷ es) zero all = all.0
  at_in (e ∷ es) (suc n) all = at_in es n all.1

  part_at_in : (e : Tree) (n : ℤ) → In C e → Opt (In C) (Lists.part_at e n)
  part_at_in (normal h es) (pos zero) one = one.0
  part_at_in (normal h es) (pos (suc n)) one = at_in (elements es) n (listed C es one.1)
  part_at_in (normal h es) (negsuc n) one = at_in (reverse (elements es)) n (reversed (In C) (elements es) (listed C es one.1))
  part_at_in _ n one = tt

  parts_at_in : (e : Tree) (ns : List Tree) → In C e → Opt (AllIn C) (Lists.parts_at e ns)
  parts_at_in e [] one = tt
  parts_at_in e (integer n ∷ ns) one =
      perhaps (In C) (Opt (AllIn C)) (Lists.part_at e n) (part_at_in e n one) tt
      (λ f f_in. perhaps (AllIn C) (Opt (AllIn C)) (Lists.parts_at e ns) (parts_at_in e ns one) tt (λ fs all. (f_in, all)))
  parts_at_in e (string t ∷ ns) one = tt
  parts_at_in e (symbol s ∷ ns) one = tt
  parts_at_in e (normal h es ∷ ns) one = tt

  each_in : (f : Tree → Option Tree) → ((e : Tree) → In C e → Opt (In C) (f e)) → (es : List Tree) → AllIn C es → Opt (AllIn C) (Lists.each f es)
  each_in f one [] all = tt
  each_in f one (e ∷ es) all =
      perhaps (In C) (Opt (AllIn C)) (f e) (one e all.0) tt
      (λ g g_in. perhaps (AllIn C) (Opt (AllIn C)) (Lists.each f es) (each_in f one es all.1) tt (λ gs gs_in. (g_in, gs_in)))

  with_head_in : (e : Tree) (o : Option (List Tree)) → In C e → Opt (AllIn C) o → Opt (In C) (Lists.with_head e o)
  with_head_in (normal h es) (Some fs) one all = called C h fs one.0 all
  with_head_in _ _ one all = tt

  column_in : (n : ℕ) (rs : List (List Tree)) → Each (AllIn C) rs → AllIn C (Lists.column n rs)
  column_in n [] all = tt
  column_in n (r ∷ rs) all = perhaps (In C) (AllIn C) (Lists.at r n) (at_in r n all.0) (column_in n rs all.1) (λ e one. (one, column_in n rs all.1))

  pieces_in : (m n : ℕ) (es : List Tree) → AllIn C es → Each (AllIn C) (Lists.pieces m n es)
  pieces_in zero n es all = tt
  pieces_in (suc m) n es all =
      both (Each (AllIn C)) (leb n (length es)) (taken (In C) n es all, pieces_in m n (drop n es) (dropped (In C) n es all)) tt

  pub partition_in : (es : List Tree) → AllIn C es → Fine C (Lists.partition es)
  partition_in (normal h es ∷ integer (pos (suc n)) ∷ []) all =
      called C h _ all.0.0 (mapped (AllIn C) (In C) (call h) (λ fs fs_in. called C h fs all.0.0 fs_in) _
      (pieces_in (length (elements es)) (suc n) (elements es) (listed C es all.0.1)))
  partition_in _ all = tt

  joined_in : (h : Tree) (es : List Tree) → AllIn C es → Opt (AllIn C) (Lists.joined h es)
  joined_in h [] all = tt
  joined_in h (normal g fs ∷ es) all =
      both (Opt (AllIn C)) (same h g)
      (perhaps (AllIn C) (Opt (AllIn C)) (Lists.joined h es) (joined_in h es all.1) tt
      (λ gs gs_in. appended (In C) (elements fs) gs (listed C fs all.0.1) gs_in)) tt
  joined_in h (integer n ∷ es) all = tt
  joined_in h (string t ∷ es) all = tt
  joined_in h (symbol s ∷ es) all = tt

  distinct_in : (es : List Tree) → AllIn C es → AllIn C (Lists.distinct es)
  distinct_in [] all = tt
  distinct_in (e ∷ []) all = all
  distinct_in (e ∷ f ∷ es) all = both (AllIn C) (same e f) (distinct_in (f ∷ es) all.1) (all.0, distinct_in (f ∷ es) all.1)

  module _ (names : Names) where
    pub released_in : (es : List Tree) → AllIn C es → Fine C (Lists.released names es)
    released_in (normal h (cons x nil) ∷ []) all =
        both (Fine C) (is_name names Builtin.Hold h) all.0.1.0
        (both (Fine C) (is_name names Builtin.HoldComplete h) all.0.1.0 (both (Fine C) (is_name names Builtin.HoldPattern h) all.0.1.0 tt))
    released_in _ all = tt

    part_of_in : (is : List Tree) (e : Tree) → In C e → Opt (In C) (Lists.part_of names is e)
    part_of_in [] e one = one
    part_of_in (integer n ∷ is) e one =
        perhaps (In C) (Opt (In C)) (Lists.part_at e n) (part_at_in e n one) tt (λ f f_in. part_of_in is f f_in)
    part_of_in (normal h ns ∷ is) e one =
        both (Opt (In C)) (is_name names Builtin.List h)
        (perhaps (AllIn C) (Opt (In C)) (Lists.parts_at e (elements ns)) (parts_at_in e (elements ns) one) tt
        (λ fs all. with_head_in e (Lists.each (Lists.part_of names is) fs) one (each_in (Lists.part_of names is) (λ f f_in. part_of_in is f f_in) fs all))) tt
    part_of_in (string t ∷ is) e one = tt
    part_of_in (symbol s ∷ is) e one = tt

    pub part_in : (es : List Tree) → AllIn C es → Fine C (Lists.part names es)
    part_in (e ∷ i ∷ is) all = given_in _ (part_of_in (i ∷ is) e all.0)
    part_in _ all = tt

    pub taken_in : (es : List Tree) → AllIn C es → Fine C (Lists.taken names es)
    taken_in (normal h es ∷ k ∷ []) all = go (Lists.span names (length (elements es)) k)
      where
        go : (o : Option (ℕ × ℕ)) → Fine C (elim o [ None ↦ Stays | Some s ↦ Gives (call h (take s.1 (drop s.0 (elements es)))) ])
        go None = tt
        go (Some s) = called C h _ all.0.0 (taken (In C) s.1 (drop s.0 (elements es)) (dropped (In C) s.0 (elements es) (listed C es all.0.1)))
    taken_in _ all = tt

    pub dropped_in : (es : List Tree) → AllIn C es → Fine C (Lists.dropped names es)
    dropped_in (normal h es ∷ k ∷ []) all = go (Lists.span names (length (elements es)) k)
      where
        go : (o : Option (ℕ × ℕ)) → Fine C (elim o [ None ↦ Stays | Some s ↦ Gives (call h (take s.0 (elements es) ++ drop (s.0 + s.1) (elements es))) ])
        go None = tt
        go (Some s) =
            called C h _ all.0.0 (appended (In C) (take s.0 (elements es)) (drop (s.0 + s.1) (elements es))
            (taken (In C) s.0 (elements es) (listed C es all.0.1)) (dropped (In C) (s.0 + s.1) (elements es) (listed C es all.0.1)))
    dropped_in _ all = tt

    all_lists_in : (es : List Tree) → AllIn C es → Opt (AllIn C) (Lists.all_lists names es)
    all_lists_in [] all = tt
    all_lists_in (e ∷ es) all =
        both (Opt (AllIn C)) (is_call names Builtin.List e)
        (perhaps (AllIn C) (Opt (AllIn C)) (Lists.all_lists names es) (all_lists_in es all.1) tt
        (λ fs fs_in. appended (In C) (items_of e) fs (items C e all.0) fs_in)) tt

    mutual
      flat_item_in : (e : Tree) (d : ℕ) → In C e → AllIn C (Lists.flat_item names e d)
      flat_item_in (integer n) d one = (one, tt)
      flat_item_in (string t) d one = (one, tt)
      flat_item_in (symbol s) d one = (one, tt)
      flat_item_in (normal h es) zero one = (one, tt)
      flat_item_in (normal h es) (suc d) one = both (AllIn C) (is_name names Builtin.List h) (flat_items_in es d one.1) (one, tt)

      flat_items_in : (es : Trees) (d : ℕ) → Ins C es → AllIn C (Lists.flat_items names es d)
      flat_items_in nil d all = tt
      flat_items_in (cons e es) d all = appended (In C) (Lists.flat_item names e d) (Lists.flat_items names es d) (flat_item_in e d all.0) (flat_items_in es d all.1)

    pub flatten_row_in : (es : List Tree) → AllIn C es → Fine C (Lists.flatten_row names es)
    flatten_row_in (normal h es ∷ []) all = called C h _ all.0.0 (flat_items_in es 512 all.0.1)
    flatten_row_in (normal h es ∷ integer (pos d) ∷ []) all = called C h _ all.0.0 (flat_items_in es d all.0.1)
    flatten_row_in _ all = tt

    rows_of_in : (es : List Tree) → AllIn C es → Opt (Each (AllIn C)) (Lists.rows_of names es)
    rows_of_in [] all = tt
    rows_of_in (e ∷ es) all =
        both (Opt (Each (AllIn C))) (is_call names Builtin.List e)
        (perhaps (Each (AllIn C)) (Opt (Each (AllIn C))) (Lists.rows_of names es) (rows_of_in es all.1) tt (λ rs rs_in. (items C e all.0, rs_in))) tt

    module _ (knows : (r : Builtin) → may_throw r ≡ false → C (known names r)) where
      pub range_in : (es : List Tree) → Fine C (Lists.range names es)
      range_in (integer b ∷ []) = makes C names knows Builtin.List refl _ (counted_in _ _ _)
      range_in (integer a ∷ integer b ∷ []) = makes C names knows Builtin.List refl _ (counted_in _ _ _)
      range_in (integer a ∷ integer b ∷ integer d ∷ []) = both (Fine C) (int_eq d (pos 0)) tt (makes C names knows Builtin.List refl _ (counted_in _ _ _))
      range_in _ = tt

      pub total_in : (es : List Tree) → AllIn C es → Fine C (Lists.total names es)
      total_in (e ∷ []) all = both (Fine C) (is_call names Builtin.List e) (makes C names knows Builtin.Plus refl (items_of e) (items C e all.0)) tt
      total_in _ all = tt

      pub union_in : (es : List Tree) → AllIn C es → Fine C (Lists.union names es)
      union_in [] all = tt
      union_in (e ∷ es) all =
          perhaps (AllIn C) (Fine C) (Lists.all_lists names (e ∷ es)) (all_lists_in (e ∷ es) all) tt
          (λ fs fs_in. makes C names knows Builtin.List refl _ (distinct_in (ordered fs) (in_order C fs fs_in)))

      pub join_in : (es : List Tree) → AllIn C es → Fine C (Lists.join names es)
      join_in [] all = makes C names knows Builtin.List refl [] tt
      join_in (normal h fs ∷ es) all =
          perhaps (AllIn C) (Fine C) (Lists.joined h es) (joined_in h es all.1) tt
          (λ gs gs_in. called C h _ all.0.0 (appended (In C) (elements fs) gs (listed C fs all.0.1) gs_in))
      join_in _ all = tt

      columns_in : (i n : ℕ) (rs : List (List Tree)) → Each (AllIn C) rs → AllIn C (Lists.columns names i n rs)
      columns_in i zero rs all = tt
      columns_in i (suc n) rs all = (makes C names knows Builtin.List refl _ (column_in i rs all), columns_in (suc i) n rs all)

      transposed_in : (rs : List (List Tree)) → Each (AllIn C) rs → Fine C (Lists.transposed names rs)
      transposed_in [] all = tt
      transposed_in (r ∷ rs) all = both (Fine C) (Lists.all_long (length r) rs) (makes C names knows Builtin.List refl _ (columns_in 0 (length r) (r ∷ rs) all)) tt

      pub transpose_in : (es : List Tree) → AllIn C es → Fine C (Lists.transpose names es)
      transpose_in (e ∷ []) all =
          both (Fine C) (is_call names Builtin.List e)
          (perhaps (Each (AllIn C)) (Fine C) (Lists.rows_of names (items_of e)) (rows_of_in (items_of e) (items C e all.0)) tt (λ rs rs_in. transposed_in rs rs_in)) tt
      transpose_in _ all = tt

      pub constant_array_in : (es : List Tree) → AllIn C es → Fine C (Lists.constant_array names es)
      constant_array_in (x ∷ integer (pos n) ∷ []) all = makes C names knows Builtin.List refl _ (replicated (In C) n x all.0)
      constant_array_in (x ∷ integer (negsuc n) ∷ []) all = makes C names knows Builtin.List refl [] tt
      constant_array_in _ all = tt

      pub array_in : (es : List Tree) → AllIn C es → Fine C (Lists.array names es)
      array_in (f ∷ integer (pos n) ∷ []) all = makes C names knows Builtin.List refl _ (each_mapped f _ all.0 (counted_in _ _ n))
      array_in (f ∷ integer (negsuc n) ∷ []) all = makes C names knows Builtin.List refl [] tt
      array_in _ all = tt

      pub ordered_q_in : (es : List Tree) → Fine C (ordered_q names es)
      ordered_q_in (normal h es ∷ []) = true_or_false C names knows _
      ordered_q_in _ = tt

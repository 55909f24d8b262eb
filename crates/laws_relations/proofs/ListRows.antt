-- What the rows of lists owe: on related items they give related results.
use Rattle.std.proofs.Common.{◌≡◌, refl, ap, subst, ◌∙◌, ℕ, zero, suc, Bool, true, false, List, ◌∷◌, map, length, Option}
use Rattle.std.specs.Prelude.{ℤ, pos, negsuc, ◌+ℤ◌, ◌+◌, leb}
use Rattle.std.specs.Ordering.{int_eq, is_gt}
use Rattle.expr_tree.specs.declared.sym.Sym.{Sym}
use Rattle.expr_tree.specs.Tree.{Tree, integer, Trees, elements, call}
use Rattle.semantics.specs.declared.builtin.Builtin.{Builtin}
use Rattle.semantics.specs.Names.{Names, make}
use Rattle.semantics.specs.Worked.{Stays, Gives}
use Rattle.semantics.specs.Control.{steps_to}
use Rattle.semantics.specs.Table.{ordered_q}
use Rattle.semantics.specs.Lists as Lists
use Rattle.laws_relations.proofs.Relate.{Opt, none, some, All, all_nil, all_cons, branch, case, append2, map2, length2}
use Rattle.laws_relations.proofs.Listed.{reverse2, take2, drop2, replicate2, same_case}
use Rattle.laws_relations.proofs.Relation.{Like, int, str, sym, node, Likes, ends, mores, LikeList, Faithful, listed-like, items-like, call-like, make-like, same-like, compare-like, is_name-like, is_call-like, ordered-like}
use Rattle.laws_relations.proofs.SumRow.{LikeWorked, stays, gives}
use Rattle.laws_relations.proofs.NumberRows.{truth-like}

module _ (S : Sym → Sym → Type 0) where
  pub head-like : {es fs : List Tree} → LikeList S es fs → LikeWorked S (Lists.head es) (Lists.head fs)
  head-like (all_cons (node h es) all_nil) = gives h
  head-like _ = stays

  counted : {m n : ℕ} → m ≡ n → LikeWorked S (Gives (integer (pos m))) (Gives (integer (pos n)))
  counted {m} e = subst (λ n. LikeWorked S (Gives (integer (pos m))) (Gives (integer (pos n)))) e (gives int)

  pub length_of-like : {es fs : List Tree} → LikeList S es fs → LikeWorked S (Lists.length_of es) (Lists.length_of fs)
  length_of-like (all_cons (node h es) all_nil) = counted (length2 (listed-like S es))
  length_of-like (all_cons e all_nil) = gives int
  length_of-like _ = stays

  pub first-like : {es fs : List Tree} → LikeList S es fs → LikeWorked S (Lists.first es) (Lists.first fs)
  first-like (all_cons (node h (mores e es)) all_nil) = gives e
  first-like _ = stays

  pub rest-like : {es fs : List Tree} → LikeList S es fs → LikeWorked S (Lists.rest es) (Lists.rest fs)
  rest-like (all_cons (node h (mores e es)) all_nil) = gives (node h es)
  rest-like _ = stays

  pub append-like : {es fs : List Tree} → LikeList S es fs → LikeWorked S (Lists.append es) (Lists.append fs)
  append-like (all_cons (node h es) (all_cons x all_nil)) = gives (call-like S h (append2 (listed-like S es) (all_cons x all_nil)))
  append-like _ = stays

  pub prepend-like : {es fs : List Tree} → LikeList S es fs → LikeWorked S (Lists.prepend es) (Lists.prepend fs)
  prepend-like (all_cons (node h es) (all_cons x all_nil)) = gives (node h (mores x es))
  prepend-like _ = stays

  pub reversed-like : {es fs : List Tree} → LikeList S es fs → LikeWorked S (Lists.reversed es) (Lists.reversed fs)
  reversed-like (all_cons (node h es) all_nil) = gives (call-like S h (reverse2 (listed-like S es)))
  reversed-like _ = stays

  numbered : (a d : ℤ) (n : ℕ) → LikeList S (Lists.count_up a d n) (Lists.count_up a d n)
  numbered a d zero = all_nil
  numbered a d (suc n) = all_cons int (numbered (a +ℤ d) d n)

  mapped-like : {f g : Tree} {es fs : List Tree} → Like S f g → LikeList S es fs → LikeList S (map (Lists.mapped f) es) (map (Lists.mapped g) fs)
  mapped-like f l = map2 _ _ (λ a b one. call-like S f (all_cons one all_nil)) l

  pub map_row-like : {es fs : List Tree} → LikeList S es fs → LikeWorked S (Lists.map_row es) (Lists.map_row fs)
  map_row-like (all_cons f (all_cons (node h es) all_nil)) = gives (call-like S h (mapped-like f (listed-like S es)))
  map_row-like (all_cons f (all_cons e all_nil)) = gives e
  map_row-like _ = stays

  pub apply-like : {es fs : List Tree} → LikeList S es fs → LikeWorked S (Lists.apply es) (Lists.apply fs)
  apply-like (all_cons f (all_cons (node h es) all_nil)) = gives (node f es)
  apply-like (all_cons f (all_cons e all_nil)) = gives e
  apply-like _ = stays

  pub itself-like : {es fs : List Tree} → LikeList S es fs → LikeWorked S (Lists.itself es) (Lists.itself fs)
  itself-like (all_cons e all_nil) = gives e
  itself-like _ = stays

  given-like : {o p : Option Tree} → Opt (Like S) o p → LikeWorked S (Lists.given o) (Lists.given p)
  given-like none = stays
  given-like (some e) = gives e

  last_of-like : {es fs : List Tree} → LikeList S es fs → Opt (Like S) (Lists.last_of es) (Lists.last_of fs)
  last_of-like all_nil = none
  last_of-like (all_cons e all_nil) = some e
  last_of-like (all_cons e (all_cons f l)) = last_of-like (all_cons f l)

  but_last-like : {es fs : List Tree} → LikeList S es fs → LikeList S (Lists.but_last es) (Lists.but_last fs)
  but_last-like all_nil = all_nil
  but_last-like (all_cons e all_nil) = all_nil
  but_last-like (all_cons e (all_cons f l)) = all_cons e (but_last-like (all_cons f l))

  pub last-like : {es fs : List Tree} → LikeList S es fs → LikeWorked S (Lists.last es) (Lists.last fs)
  last-like (all_cons (node h es) all_nil) = given-like (last_of-like (listed-like S es))
  last-like _ = stays

  pub most-like : {es fs : List Tree} → LikeList S es fs → LikeWorked S (Lists.most es) (Lists.most fs)
  most-like (all_cons (node h (mores e es)) all_nil) = gives (call-like S h (but_last-like (all_cons e (listed-like S es))))
  most-like _ = stays

  -- ---- places

  at-like : {es fs : List Tree} → LikeList S es fs → (n : ℕ) → Opt (Like S) (Lists.at es n) (Lists.at fs n)
  at-like all_nil n = none
  at-like (all_cons e l) zero = some e
  at-like (all_cons e l) (suc n) = at-like l n

  part_at-like : {e f : Tree} → Like S e f → (n : ℤ) → Opt (Like S) (Lists.part_at e n) (Lists.part_at f n)
  part_at-like (node h es) (pos zero) = some h
  part_at-like (node h es) (pos (suc n)) = at-like (listed-like S es) n
  part_at-like (node h es) (negsuc n) = at-like (reverse2 (listed-like S es)) n
  part_at-like int n = none
  part_at-like str n = none
  part_at-like (sym s) n = none

  parts_at-like : {e f : Tree} {ns ms : List Tree} → Like S e f → LikeList S ns ms → Opt (LikeList S) (Lists.parts_at e ns) (Lists.parts_at f ms)
  parts_at-like e all_nil = some all_nil
  parts_at-like e (all_cons (int {n = n}) l) =
      case (Opt (LikeList S)) (part_at-like e n) none (λ a b one. case (Opt (LikeList S)) (parts_at-like e l) none (λ as' bs rest. some (all_cons one rest)))
  parts_at-like e (all_cons x l) = none

  each-like : (f g : Tree → Option Tree) → ((x y : Tree) → Like S x y → Opt (Like S) (f x) (g y)) → {es fs : List Tree} → LikeList S es fs → Opt (LikeList S) (Lists.each f es) (Lists.each g fs)
  each-like f g one all_nil = some all_nil
  each-like f g one (all_cons e l) =
      case (Opt (LikeList S)) (one _ _ e) none (λ a b first. case (Opt (LikeList S)) (each-like f g one l) none (λ as' bs rest. some (all_cons first rest)))

  with_head-like : {e f : Tree} {o p : Option (List Tree)} → Like S e f → Opt (LikeList S) o p → Opt (Like S) (Lists.with_head e o) (Lists.with_head f p)
  with_head-like (node h es) (some l) = some (call-like S h l)
  with_head-like _ _ = none

  column-like : (n : ℕ) {rs qs : List (List Tree)} → All (LikeList S) rs qs → LikeList S (Lists.column n rs) (Lists.column n qs)
  column-like n all_nil = all_nil
  column-like n (all_cons r rs) = case (LikeList S) (at-like r n) (column-like n rs) (λ a b one. all_cons one (column-like n rs))

  all_long-like : (n : ℕ) {rs qs : List (List Tree)} → All (LikeList S) rs qs → Lists.all_long n rs ≡ Lists.all_long n qs
  all_long-like n all_nil = refl
  all_long-like n (all_cons r rs) = rw (length2 r, all_long-like n rs) refl

  pieces-like : (m n : ℕ) {es fs : List Tree} → LikeList S es fs → All (LikeList S) (Lists.pieces m n es) (Lists.pieces m n fs)
  pieces-like zero n l = all_nil
  pieces-like (suc m) n l = branch (All (LikeList S)) (ap (leb n) (length2 l)) (all_cons (take2 n l) (pieces-like m n (drop2 n l))) all_nil

  pub partition-like : {es fs : List Tree} → LikeList S es fs → LikeWorked S (Lists.partition es) (Lists.partition fs)
  partition-like (all_cons (node {h = k} {g = g} {es = es} {fs = fs} h l) (all_cons (int {n = pos (suc n)}) all_nil)) =
      gives (call-like S h (subst (λ m. LikeList S (map (call k) (Lists.pieces (length (elements es)) (suc n) (elements es))) (map (call g) (Lists.pieces m (suc n) (elements fs))))
      (length2 (listed-like S l)) (map2 _ _ (λ a b one. call-like S h one) (pieces-like (length (elements es)) (suc n) (listed-like S l)))))
  partition-like _ = stays

  module _ (names : Names) (F : Faithful S names) where
    pub sort-like : {es fs : List Tree} → LikeList S es fs → LikeWorked S (Lists.sort es) (Lists.sort fs)
    sort-like (all_cons (node h es) all_nil) = gives (call-like S h (ordered-like S names F (listed-like S es)))
    sort-like _ = stays

    list-like : {es fs : List Tree} → LikeList S es fs → LikeWorked S (Gives (make names Builtin.List es)) (Gives (make names Builtin.List fs))
    list-like l = gives (make-like S names F Builtin.List l)

    pub range-like : {es fs : List Tree} → LikeList S es fs → LikeWorked S (Lists.range names es) (Lists.range names fs)
    range-like (all_cons (int {n = b}) all_nil) = list-like (numbered (pos 1) (pos 1) (steps_to (pos 1) b (pos 1)))
    range-like (all_cons (int {n = a}) (all_cons (int {n = b}) all_nil)) = list-like (numbered a (pos 1) (steps_to a b (pos 1)))
    range-like (all_cons (int {n = a}) (all_cons (int {n = b}) (all_cons (int {n = d}) all_nil))) =
        branch (LikeWorked S) {a = int_eq d (pos 0)} refl stays (list-like (numbered a d (steps_to a b d)))
    range-like _ = stays

    pub total-like : {es fs : List Tree} → LikeList S es fs → LikeWorked S (Lists.total names es) (Lists.total names fs)
    total-like (all_cons e all_nil) = branch (LikeWorked S) (is_call-like S names F Builtin.List e) (gives (make-like S names F Builtin.Plus (items-like S e))) stays
    total-like _ = stays

    pub released-like : {es fs : List Tree} → LikeList S es fs → LikeWorked S (Lists.released names es) (Lists.released names fs)
    released-like (all_cons (node h (mores x ends)) all_nil) =
        branch (LikeWorked S) (is_name-like S names F Builtin.Hold h) (gives x)
        (branch (LikeWorked S) (is_name-like S names F Builtin.HoldComplete h) (gives x) (branch (LikeWorked S) (is_name-like S names F Builtin.HoldPattern h) (gives x) stays))
    released-like _ = stays

    part_of-like : {is js : List Tree} {e f : Tree} → LikeList S is js → Like S e f → Opt (Like S) (Lists.part_of names is e) (Lists.part_of names js f)
    part_of-like all_nil e = some e
    part_of-like (all_cons (int {n = n}) l) e = case (Opt (Like S)) (part_at-like e n) none (λ a b one. part_of-like l one)
    part_of-like (all_cons (node h ns) l) e =
        branch (Opt (Like S)) (is_name-like S names F Builtin.List h)
        (case (Opt (Like S)) (parts_at-like e (listed-like S ns)) none (λ as' bs all. with_head-like e (each-like _ _ (λ x y one. part_of-like l one) all))) none
    part_of-like (all_cons str l) e = none
    part_of-like (all_cons (sym s) l) e = none

    pub part-like : {es fs : List Tree} → LikeList S es fs → LikeWorked S (Lists.part names es) (Lists.part names fs)
    part-like (all_cons e (all_cons i is)) = given-like (part_of-like (all_cons i is) e)
    part-like _ = stays

    span_in-like : (n : ℕ) {es fs : List Tree} → LikeList S es fs → Lists.span_in n es ≡ Lists.span_in n fs
    span_in-like n (all_cons int (all_cons int all_nil)) = refl
    span_in-like n _ = refl

    span-like : (n : ℕ) {e f : Tree} → Like S e f → Lists.span names n e ≡ Lists.span names n f
    span-like n int = refl
    span-like n str = refl
    span-like n (sym s) = refl
    span-like n (node h es) = branch (◌≡◌ {A = Option (ℕ × ℕ)}) (is_call-like S names F Builtin.List (node h es)) (span_in-like n (listed-like S es)) refl

    spans-like : {m n : ℕ} {e f : Tree} → m ≡ n → Like S e f → Lists.span names m e ≡ Lists.span names n f
    spans-like {m} {n} {e} {f} equal one = ap (λ k. Lists.span names k e) equal ∙ span-like n one

    pub taken-like : {es fs : List Tree} → LikeList S es fs → LikeWorked S (Lists.taken names es) (Lists.taken names fs)
    taken-like (all_cons (node h es) (all_cons k all_nil)) =
        same_case (LikeWorked S) (spans-like (length2 (listed-like S es)) k) stays (λ s. gives (call-like S h (take2 s.1 (drop2 s.0 (listed-like S es)))))
    taken-like _ = stays

    pub dropped-like : {es fs : List Tree} → LikeList S es fs → LikeWorked S (Lists.dropped names es) (Lists.dropped names fs)
    dropped-like (all_cons (node h es) (all_cons k all_nil)) =
        same_case (LikeWorked S) (spans-like (length2 (listed-like S es)) k) stays
        (λ s. gives (call-like S h (append2 (take2 s.0 (listed-like S es)) (drop2 (s.0 + s.1) (listed-like S es)))))
    dropped-like _ = stays

    -- ---- lists put together

    all_lists-like : {es fs : List Tree} → LikeList S es fs → Opt (LikeList S) (Lists.all_lists names es) (Lists.all_lists names fs)
    all_lists-like all_nil = some all_nil
    all_lists-like (all_cons e l) =
        branch (Opt (LikeList S)) (is_call-like S names F Builtin.List e) (case (Opt (LikeList S)) (all_lists-like l) none (λ as' bs rest. some (append2 (items-like S e) rest))) none

    distinct-like : {es fs : List Tree} → LikeList S es fs → LikeList S (Lists.distinct es) (Lists.distinct fs)
    distinct-like all_nil = all_nil
    distinct-like (all_cons e all_nil) = all_cons e all_nil
    distinct-like (all_cons e (all_cons f l)) = branch (LikeList S) (same-like S names F e f) (distinct-like (all_cons f l)) (all_cons e (distinct-like (all_cons f l)))

    pub union-like : {es fs : List Tree} → LikeList S es fs → LikeWorked S (Lists.union names es) (Lists.union names fs)
    union-like all_nil = stays
    union-like (all_cons e l) = case (LikeWorked S) (all_lists-like (all_cons e l)) stays (λ as' bs all. list-like (distinct-like (ordered-like S names F all)))

    joined-like : {h g : Tree} {es fs : List Tree} → Like S h g → LikeList S es fs → Opt (LikeList S) (Lists.joined h es) (Lists.joined g fs)
    joined-like h all_nil = some all_nil
    joined-like h (all_cons (node g fs) l) =
        branch (Opt (LikeList S)) (same-like S names F h g) (case (Opt (LikeList S)) (joined-like h l) none (λ as' bs rest. some (append2 (listed-like S fs) rest))) none
    joined-like h (all_cons int l) = none
    joined-like h (all_cons str l) = none
    joined-like h (all_cons (sym s) l) = none

    pub join-like : {es fs : List Tree} → LikeList S es fs → LikeWorked S (Lists.join names es) (Lists.join names fs)
    join-like all_nil = list-like all_nil
    join-like (all_cons (node h fs) l) = case (LikeWorked S) (joined-like h l) stays (λ as' bs rest. gives (call-like S h (append2 (listed-like S fs) rest)))
    join-like (all_cons int l) = stays
    join-like (all_cons str l) = stays
    join-like (all_cons (sym s) l) = stays

    mutual
      flat_item-like : {e f : Tree} → Like S e f → (d : ℕ) → LikeList S (Lists.flat_item names e d) (Lists.flat_item names f d)
      flat_item-like int d = all_cons int all_nil
      flat_item-like str d = all_cons str all_nil
      flat_item-like (sym s) d = all_cons (sym s) all_nil
      flat_item-like (node h es) zero = all_cons (node h es) all_nil
      flat_item-like (node h es) (suc d) = branch (LikeList S) (is_name-like S names F Builtin.List h) (flat_items-like es d) (all_cons (node h es) all_nil)

      flat_items-like : {es fs : Trees} → Likes S es fs → (d : ℕ) → LikeList S (Lists.flat_items names es d) (Lists.flat_items names fs d)
      flat_items-like ends d = all_nil
      flat_items-like (mores e es) d = append2 (flat_item-like e d) (flat_items-like es d)

    pub flatten_row-like : {es fs : List Tree} → LikeList S es fs → LikeWorked S (Lists.flatten_row names es) (Lists.flatten_row names fs)
    flatten_row-like (all_cons (node h es) all_nil) = gives (call-like S h (flat_items-like es 512))
    flatten_row-like (all_cons (node h es) (all_cons (int {n = pos d}) all_nil)) = gives (call-like S h (flat_items-like es d))
    flatten_row-like _ = stays

    rows_of-like : {es fs : List Tree} → LikeList S es fs → Opt (All (LikeList S)) (Lists.rows_of names es) (Lists.rows_of names fs)
    rows_of-like all_nil = some all_nil
    rows_of-like (all_cons e l) =
        branch (Opt (All (LikeList S))) (is_call-like S names F Builtin.List e)
        (case (Opt (All (LikeList S))) (rows_of-like l) none (λ as' bs rest. some (all_cons (items-like S e) rest))) none

    columns-like : (i n : ℕ) {rs qs : List (List Tree)} → All (LikeList S) rs qs → LikeList S (Lists.columns names i n rs) (Lists.columns names i n qs)
    columns-like i zero rs = all_nil
    columns-like i (suc n) rs = all_cons (make-like S names F Builtin.List (column-like i rs)) (columns-like (suc i) n rs)

    transposed-like : {rs qs : List (List Tree)} → All (LikeList S) rs qs → LikeWorked S (Lists.transposed names rs) (Lists.transposed names qs)
    transposed-like all_nil = stays
    transposed-like {rs} {qs} (all_cons {a = r} {b = q} {as' = rs'} {bs = qs'} one rest) =
        subst (λ n. LikeWorked S (Lists.transposed names (r ∷ rs')) (elim (Lists.all_long n qs') [ true ↦ Gives (make names Builtin.List (Lists.columns names 0 n (q ∷ qs'))) | false ↦ Stays ]))
        (length2 one)
        (branch (LikeWorked S) (all_long-like (length r) rest) (list-like (columns-like 0 (length r) (all_cons one rest))) stays)

    pub transpose-like : {es fs : List Tree} → LikeList S es fs → LikeWorked S (Lists.transpose names es) (Lists.transpose names fs)
    transpose-like (all_cons e all_nil) =
        branch (LikeWorked S) (is_call-like S names F Builtin.List e) (case (LikeWorked S) (rows_of-like (items-like S e)) stays (λ as' bs rows. transposed-like rows)) stays
    transpose-like _ = stays

    pub constant_array-like : {es fs : List Tree} → LikeList S es fs → LikeWorked S (Lists.constant_array names es) (Lists.constant_array names fs)
    constant_array-like (all_cons x (all_cons (int {n = pos n}) all_nil)) = list-like (replicate2 n _ _ x)
    constant_array-like (all_cons x (all_cons (int {n = negsuc n}) all_nil)) = list-like all_nil
    constant_array-like _ = stays

    pub array-like : {es fs : List Tree} → LikeList S es fs → LikeWorked S (Lists.array names es) (Lists.array names fs)
    array-like (all_cons f (all_cons (int {n = pos n}) all_nil)) = list-like (mapped-like f (numbered (pos 1) (pos 1) n))
    array-like (all_cons f (all_cons (int {n = negsuc n}) all_nil)) = list-like all_nil
    array-like _ = stays

    in_order-like : {es fs : List Tree} → LikeList S es fs → Lists.in_order es ≡ Lists.in_order fs
    in_order-like all_nil = refl
    in_order-like (all_cons e all_nil) = refl
    in_order-like (all_cons e (all_cons f l)) = branch (◌≡◌ {A = Bool}) (ap is_gt (compare-like S names F e f)) refl (in_order-like (all_cons f l))

    pub ordered_q-like : {es fs : List Tree} → LikeList S es fs → LikeWorked S (ordered_q names es) (ordered_q names fs)
    ordered_q-like (all_cons (node h es) all_nil) = gives (truth-like S names F (in_order-like (listed-like S es)))
    ordered_q-like _ = stays

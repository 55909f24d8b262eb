-- The control forms keep to a set of symbols that holds the table.
use Rattle.std.proofs.Common.{false, refl, ◌≡◌, subst, ℕ, zero, suc, List, [], ◌∷◌, reverse, Option, Some, None}
use Rattle.std.specs.Prelude.{ℤ, pos, ◌+ℤ◌}
use Rattle.std.specs.Ordering.{int_eq}
use Rattle.expr_tree.specs.declared.sym.Sym.{Sym}
use Rattle.expr_tree.specs.Tree.{Tree, integer, string, symbol, normal, elements}
use Rattle.expr_tree.specs.Order.{same}
use Rattle.semantics.specs.declared.builtin.Builtin.{Builtin}
use Rattle.semantics.specs.Names.{is_name, is_call, items_of}
use Rattle.semantics.specs.Definitions.{Share}
use Rattle.semantics.specs.Program.{Prog, Done}
use Rattle.semantics.specs.Control.{in_turn, by_truth, conditional, first_true, is_paired, which, connected, while_true, while, throw, catch, most_turns, Values, From, Each as Over, ask_number, up_to, steps_to, bound_or_list, unless_zero, unless_shared, iterator_parts, iterator, locals, over_numbers, over_list, over, inner_form, iterated, applied, nested, nest, until_fixed, fixed_point, folded, fold, selected, select, nested_list, nest_list, folded_list, fold_list, failed, null}
use Rattle.laws_closure.specs.Throws.{may_throw}
use Rattle.laws_closure.proofs.Inside.{Each, Opt, reversed, listed, called, items}
use Rattle.laws_closure.proofs.Programs.{Realm, Has, HasAll, LocalIn, Both, done, stop, throws, ask, catches, within, look, turn, check, moded, grows, same_world, later, later_in, later_all, Later, LaterGives, LaterAll, from_later, now, gives_later, all_later, branch, itself, made, gives_name}

module _ (R : Realm) where
  open R use {names, World, Member, Table, knows}

  pub failed_both : (w : World) → Table → Both R w (failed names) (failed names)
  failed_both w t = gives_name R w t Builtin.Failed refl

  pub null_both : (w : World) → Table → Both R w (null names) (null names)
  null_both w t = gives_name R w t Builtin.Null refl

  -- what is evaluated, in turn
  pub in_turn_both : (w : World) (p q : Prog) (es : List Tree) → Later R w p q → HasAll R w es → Both R w (in_turn p es) (in_turn q es)
  in_turn_both w p q [] next all = now R w next
  in_turn_both w p q (e ∷ []) next all = ask all.0 (λ u g v one. done one)
  in_turn_both w p q (e ∷ f ∷ es) next all = ask all.0 (λ u g v one. in_turn_both u p q (f ∷ es) (from_later R w u g next) (later_all R w u g (f ∷ es) all.1))

  by_truth_both : (w : World) (v : Tree) {p q r p' q' r' : Prog} → Both R w p p' → Both R w q q' → Both R w r r' → Both R w (by_truth names v p q r) (by_truth names v p' q' r')
  by_truth_both w v a b c = branch R w (is_name names Builtin.True v) a (branch R w (is_name names Builtin.False v) b c)

  pub conditional_both : Table → (w : World) (p q : Prog) (es : List Tree) → Later R w p q → HasAll R w es → Both R w (conditional names p es) (conditional names q es)
  conditional_both t w p q (c ∷ a ∷ []) next all = by_truth_both w c (done all.1.0) (null_both w t) (now R w next)
  conditional_both t w p q (c ∷ a ∷ b ∷ []) next all = by_truth_both w c (done all.1.0) (done all.1.1.0) (now R w next)
  conditional_both t w p q (c ∷ a ∷ b ∷ d ∷ []) next all = by_truth_both w c (done all.1.0) (done all.1.1.0) (done all.1.1.1.0)
  conditional_both t w p q _ next all = now R w next

  first_true_both : Table → (w : World) (es : List Tree) → HasAll R w es → Both R w (first_true names es) (first_true names es)
  first_true_both t w [] all = null_both w t
  first_true_both t w (c ∷ []) all = done (made R w t Builtin.Which refl (c ∷ []) all)
  first_true_both t w (c ∷ e ∷ es) all =
      ask all.0 (λ u g v one. by_truth_both u v (done (later_in R w u g e all.1.0)) (first_true_both t u es (later_all R w u g es all.1.1))
      (done (made R u t Builtin.Which refl (v ∷ e ∷ es) (one, later_all R w u g (e ∷ es) all.1))))

  pub which_both : Table → (w : World) (p q : Prog) (es : List Tree) → Later R w p q → HasAll R w es → Both R w (which names p es) (which names q es)
  which_both t w p q es next all = branch R w (is_paired es) (first_true_both t w es all) (now R w next)

  pub connected_both : Table → (row going ending : Builtin) → may_throw row ≡ false → may_throw going ≡ false → (w : World) (es kept : List Tree) → HasAll R w es → HasAll R w kept
      → Both R w (connected names row going ending es kept) (connected names row going ending es kept)
  connected_both t row going ending calm plain w [] [] all so_far = gives_name R w t going plain
  connected_both t row going ending calm plain w [] (e ∷ []) all so_far = done so_far.0
  connected_both t row going ending calm plain w [] (e ∷ f ∷ kept) all so_far = done (made R w t row calm (reverse (e ∷ f ∷ kept)) (reversed (Has R w) (e ∷ f ∷ kept) so_far))
  connected_both t row going ending calm plain w (e ∷ es) kept all so_far =
      ask all.0 (λ u g v one. branch R u (is_name names ending v) (done one) (branch R u (is_name names going v)
      (connected_both t row going ending calm plain u es kept (later_all R w u g es all.1) (later_all R w u g kept so_far))
      (connected_both t row going ending calm plain u es (v ∷ kept) (later_all R w u g es all.1) (one, later_all R w u g kept so_far))))

  while_true_both : Table → (n : ℕ) (w : World) (c e : Tree) → Has R w c → Has R w e → Both R w (while_true names n c e) (while_true names n c e)
  while_true_both t zero w c e c_in e_in = stop
  while_true_both t (suc n) w c e c_in e_in =
      turn (ask c_in (λ u g v one. branch R u (is_name names Builtin.True v)
      (ask (later_in R w u g e e_in) (λ u' g' v' one'. while_true_both t n u' c e (later_in R w u' (later R w u u' g g') c c_in) (later_in R w u' (later R w u u' g g') e e_in)))
      (null_both u t)))

  pub while_both : Table → (w : World) (p q : Prog) (es : List Tree) → Later R w p q → HasAll R w es → Both R w (while names p es) (while names q es)
  while_both t w p q (c ∷ e ∷ []) next all = while_true_both t most_turns w c e all.0 all.1.0
  while_both t w p q _ next all = now R w next

  pub throw_both : R.Throwing → (w : World) (p q : Prog) (es : List Tree) → Later R w p q → HasAll R w es → Both R w (throw p es) (throw q es)
  throw_both free w p q (e ∷ []) next all = throws free all.0
  throw_both free w p q _ next all = now R w next

  pub catch_both : R.Throwing → (w : World) (p q : Prog) (es : List Tree) → Later R w p q → HasAll R w es → Both R w (catch p es) (catch q es)
  catch_both free w p q (e ∷ []) next all = catches free all.0 (λ u g v one. done one)
  catch_both free w p q _ next all = now R w next

  -- ---- iterators

  abbrev pub ValuesIn : World → Values → Type 0
  ValuesIn w (From a d n) = Unit {0}
  ValuesIn w (Over es) = HasAll R w es

  -- what an iterator goes on with
  abbrev pub Iterates : World → (Option Sym → Values → List Tree → Prog) → (Option Sym → Values → List Tree → Prog) → Type 0
  Iterates w k l = (u : World) → grows R w u → (i : Option Sym) (vs : Values) (parts : List Tree) → Opt (Member u) i → ValuesIn u vs → Both R u (k i vs parts) (l i vs parts)

  ask_number_both : (w : World) (e : Tree) (k l : ℤ → Prog) (p q : Prog) → Has R w e → ((u : World) → grows R w u → (n : ℤ) → Both R u (k n) (l n)) → Later R w p q
      → Both R w (ask_number e k p) (ask_number e l q)
  ask_number_both w e k l p q one gives next = ask one (λ u g v v_in. go u g v)
    where
      go : (u : World) → grows R w u → (v : Tree) → Both R u (elim v [ integer n ↦ k n | _ ↦ p ]) (elim v [ integer n ↦ l n | _ ↦ q ])
      go u g (integer n) = gives u g n
      go u g (string t) = next u g
      go u g (symbol s) = next u g
      go u g (normal h es) = next u g

  bound_or_list_both : (w : World) (v : Tree) (k l : Values → Prog) (p q : Prog) → Has R w v → ((vs : Values) → ValuesIn w vs → Both R w (k vs) (l vs)) → Later R w p q
      → Both R w (bound_or_list names v k p) (bound_or_list names v l q)
  bound_or_list_both w (integer b) k l p q one gives next = gives (up_to b) tt
  bound_or_list_both w (string t) k l p q one gives next = branch R w (is_call names Builtin.List (string t)) (gives (Over []) tt) (now R w next)
  bound_or_list_both w (symbol s) k l p q one gives next = branch R w (is_call names Builtin.List (symbol s)) (gives (Over []) tt) (now R w next)
  bound_or_list_both w (normal h es) k l p q one gives next =
      branch R w (is_call names Builtin.List (normal h es)) (gives (Over (elements es)) (items (Member w) (normal h es) one)) (now R w next)

  unless_zero_both : (w : World) (d : ℤ) {k l p q : Prog} → Both R w k l → Both R w p q → Both R w (unless_zero d k p) (unless_zero d l q)
  unless_zero_both w d one other = branch R w (int_eq d (pos 0)) other one

  -- a symbol that is not shared goes on; a shared one is a use
  pub if_shared : (w : World) (o p : Option Share) {k l : Prog} {f g : Share → Prog} → o ≡ p → Both R w k l → ((a : Share) → Both R w (f a) (g a))
      → Both R w (elim o [ None ↦ k | Some a ↦ f a ]) (elim p [ None ↦ l | Some a ↦ g a ])
  if_shared w o p {k} {l} {f} {g} e one other =
      subst (λ x. Both R w (elim o [ None ↦ k | Some a ↦ f a ]) (elim x [ None ↦ l | Some a ↦ g a ])) e (go o)
    where
      go : (x : Option Share) → Both R w (elim x [ None ↦ k | Some a ↦ f a ]) (elim x [ None ↦ l | Some a ↦ g a ])
      go None = one
      go (Some a) = other a

  unless_shared_both : (w : World) (s : Sym) {p q : Prog} → Member w s → Both R w p q → Both R w (unless_shared names s p) (unless_shared names s q)
  unless_shared_both w s one next = look one (λ x y seen. if_shared w x.shared y.shared seen.shared next (λ a. moded))

  iterator_parts_both : (w : World) (es : List Tree) (k l : Option Sym → Values → List Tree → Prog) (p q : Prog) → HasAll R w es → Iterates w k l → Later R w p q
      → Both R w (iterator_parts names es k p) (iterator_parts names es l q)
  iterator_parts_both w (n ∷ []) k l p q all gives next = ask_number_both w n _ _ p q all.0 (λ u g b. gives u g None (up_to b) (integer b ∷ []) tt tt) next
  iterator_parts_both w (symbol i ∷ b ∷ []) k l p q all gives next =
      unless_shared_both w i all.0 (ask all.1.0 (λ u g v one. bound_or_list_both u v _ _ p q one
      (λ vs vs_in. gives u g (Some i) vs (symbol i ∷ v ∷ []) (g i all.0) vs_in) (from_later R w u g next)))
  iterator_parts_both w (symbol i ∷ a ∷ b ∷ []) k l p q all gives next =
      unless_shared_both w i all.0 (ask_number_both w a _ _ p q all.1.0
      (λ u g m. ask_number_both u b _ _ p q (later_in R w u g b all.1.1.0)
      (λ u' g' n. gives u' (later R w u u' g g') (Some i) (From m (pos 1) (steps_to m n (pos 1))) (symbol i ∷ integer m ∷ integer n ∷ []) (g' i (g i all.0)) tt)
      (from_later R w u g next)) next)
  iterator_parts_both w (symbol i ∷ a ∷ b ∷ d ∷ []) k l p q all gives next =
      unless_shared_both w i all.0 (ask_number_both w a _ _ p q all.1.0
      (λ u g m. ask_number_both u b _ _ p q (later_in R w u g b all.1.1.0)
      (λ u' g' n. ask_number_both u' d _ _ p q (later_in R w u' (later R w u u' g g') d all.1.1.1.0)
      (λ u2 g2 by. unless_zero_both u2 by
      (gives u2 (later R w u' u2 (later R w u u' g g') g2) (Some i) (From m by (steps_to m n by)) (symbol i ∷ integer m ∷ integer n ∷ integer by ∷ []) (g2 i (g' i (g i all.0))) tt)
      (next u2 (later R w u' u2 (later R w u u' g g') g2)))
      (from_later R w u' (later R w u u' g g') next)) (from_later R w u g next)) next)
  iterator_parts_both w _ k l p q all gives next = now R w next

  pub iterator_both : (w : World) (it : Tree) (k l : Option Sym → Values → List Tree → Prog) (p q : Prog) → Has R w it → Iterates w k l → Later R w p q
      → Both R w (iterator names it k p) (iterator names it l q)
  iterator_both w it k l p q one gives next =
      branch R w (is_call names Builtin.List it) (iterator_parts_both w (items_of it) k l p q (items (Member w) it one) gives next) (now R w next)

  locals_in : (w : World) (i : Option Sym) (v : Tree) → Opt (Member w) i → Has R w v → Each (LocalIn R w) (locals i v)
  locals_in w None v i_in one = tt
  locals_in w (Some s) v i_in one = ((i_in, one), tt)

  later_name : (w u : World) → grows R w u → (i : Option Sym) → Opt (Member w) i → Opt (Member u) i
  later_name w u g None one = tt
  later_name w u g (Some s) one = g s one

  over_numbers_both : (n : ℕ) (w : World) (i : Option Sym) (e : Tree) (d a : ℤ) (so : List Tree) (k l : List Tree → Prog) → Opt (Member w) i → Has R w e → HasAll R w so → LaterAll R w k l
      → Both R w (over_numbers i e d n a so k) (over_numbers i e d n a so l)
  over_numbers_both zero w i e d a so k l i_in e_in so_in finish = finish w (same_world R w) (reverse so) (reversed (Has R w) so so_in)
  over_numbers_both (suc n) w i e d a so k l i_in e_in so_in finish =
      turn (within (locals_in w i (integer a) i_in tt) e_in
      (λ u g v one. over_numbers_both n u i e d (a +ℤ d) (v ∷ so) k l (later_name w u g i i_in) (later_in R w u g e e_in) (one, later_all R w u g so so_in) (all_later R w u g finish)))

  over_list_both : (es : List Tree) (w : World) (i : Option Sym) (e : Tree) (so : List Tree) (k l : List Tree → Prog) → HasAll R w es → Opt (Member w) i → Has R w e → HasAll R w so → LaterAll R w k l
      → Both R w (over_list i e es so k) (over_list i e es so l)
  over_list_both [] w i e so k l all i_in e_in so_in finish = finish w (same_world R w) (reverse so) (reversed (Has R w) so so_in)
  over_list_both (x ∷ es) w i e so k l all i_in e_in so_in finish =
      turn (within (locals_in w i x i_in all.0) e_in
      (λ u g v one. over_list_both es u i e (v ∷ so) k l (later_all R w u g es all.1) (later_name w u g i i_in) (later_in R w u g e e_in) (one, later_all R w u g so so_in) (all_later R w u g finish)))

  over_both : (w : World) (i : Option Sym) (vs : Values) (e : Tree) (k l : List Tree → Prog) → Opt (Member w) i → ValuesIn w vs → Has R w e → LaterAll R w k l → Both R w (over i vs e k) (over i vs e l)
  over_both w i (From a d n) e k l i_in vs_in e_in finish = over_numbers_both n w i e d a [] k l i_in e_in tt finish
  over_both w i (Over es) e k l i_in vs_in e_in finish = over_list_both es w i e [] k l vs_in i_in e_in tt finish

  inner_form_in : Table → (w : World) (row : Builtin) → may_throw row ≡ false → (e : Tree) (its : List Tree) → Has R w e → HasAll R w its → Has R w (inner_form names row e its)
  inner_form_in t w row calm e [] one all = one
  inner_form_in t w row calm e (it ∷ its) one all = made R w t row calm (e ∷ it ∷ its) (one, all)

  pub iterated_both : Table → (row : Builtin) → may_throw row ≡ false → (k l : List Tree → Prog) (w : World) (p q : Prog) (es : List Tree) → LaterAll R w k l → Later R w p q → HasAll R w es
      → Both R w (iterated names row k p es) (iterated names row l q es)
  iterated_both t row calm k l w p q (e ∷ it ∷ its) finish next all =
      iterator_both w it _ _ p q all.1.0
      (λ u g i vs parts i_in vs_in. over_both u i vs (inner_form names row e its) k l i_in vs_in
      (inner_form_in t u row calm e its (later_in R w u g e all.0) (later_all R w u g its all.1.1)) (all_later R w u g finish)) next
  iterated_both t row calm k l w p q [] finish next all = now R w next
  iterated_both t row calm k l w p q (e ∷ []) finish next all = now R w next

  -- ---- turn forms

  pub applied_both : (w : World) (f : Tree) (args : List Tree) (k l : Tree → Prog) → Has R w f → HasAll R w args → LaterGives R w k l → Both R w (applied f args k) (applied f args l)
  applied_both w f args k l one all gives = check (called (Member w) f args one all) (turn (ask (called (Member w) f args one all) gives))

  nested_both : (n : ℕ) (w : World) (f x : Tree) (k l : Tree → Prog) → Has R w f → Has R w x → LaterGives R w k l → Both R w (nested f n x k) (nested f n x l)
  nested_both zero w f x k l f_in x_in gives = gives w (same_world R w) x x_in
  nested_both (suc n) w f x k l f_in x_in gives =
      applied_both w f (x ∷ []) _ _ f_in (x_in, tt) (λ u g v one. nested_both n u f v k l (later_in R w u g f f_in) one (gives_later R w u g gives))

  pub nest_both : (w : World) (p q : Prog) (es : List Tree) → Later R w p q → HasAll R w es → Both R w (nest p es) (nest q es)
  nest_both w p q (f ∷ x ∷ integer (pos n) ∷ []) next all = nested_both n w f x Done Done all.0 all.1.0 (itself R w)
  nest_both w p q _ next all = now R w next

  until_fixed_both : (n : ℕ) (w : World) (f x : Tree) → Has R w f → Has R w x → Both R w (until_fixed n f x) (until_fixed n f x)
  until_fixed_both zero w f x f_in x_in = stop
  until_fixed_both (suc n) w f x f_in x_in =
      applied_both w f (x ∷ []) _ _ f_in (x_in, tt) (λ u g v one. branch R u (same v x) (done one) (until_fixed_both n u f v (later_in R w u g f f_in) one))

  pub fixed_point_both : (w : World) (p q : Prog) (es : List Tree) → Later R w p q → HasAll R w es → Both R w (fixed_point p es) (fixed_point q es)
  fixed_point_both w p q (f ∷ x ∷ []) next all = until_fixed_both most_turns w f x all.0 all.1.0
  fixed_point_both w p q _ next all = now R w next

  folded_both : (es : List Tree) (w : World) (f x : Tree) (k l : Tree → Prog) → HasAll R w es → Has R w f → Has R w x → LaterGives R w k l → Both R w (folded f x es k) (folded f x es l)
  folded_both [] w f x k l all f_in x_in gives = gives w (same_world R w) x x_in
  folded_both (e ∷ es) w f x k l all f_in x_in gives =
      applied_both w f (x ∷ e ∷ []) _ _ f_in (x_in, (all.0, tt))
      (λ u g v one. folded_both es u f v k l (later_all R w u g es all.1) (later_in R w u g f f_in) one (gives_later R w u g gives))

  pub fold_both : (w : World) (p q : Prog) (es : List Tree) → Later R w p q → HasAll R w es → Both R w (fold p es) (fold q es)
  fold_both w p q (f ∷ x ∷ normal h es ∷ []) next all = folded_both (elements es) w f x Done Done (listed (Member w) es all.1.1.0.1) all.0 all.1.0 (itself R w)
  fold_both w p q _ next all = now R w next

  selected_both : (es : List Tree) (w : World) (f : Tree) (so : List Tree) (k l : List Tree → Prog) → HasAll R w es → Has R w f → HasAll R w so → LaterAll R w k l
      → Both R w (selected names f es so k) (selected names f es so l)
  selected_both [] w f so k l all f_in so_in finish = finish w (same_world R w) (reverse so) (reversed (Has R w) so so_in)
  selected_both (e ∷ es) w f so k l all f_in so_in finish =
      applied_both w f (e ∷ []) _ _ f_in (all.0, tt) (λ u g v one. branch R u (is_name names Builtin.True v)
      (selected_both es u f (e ∷ so) k l (later_all R w u g es all.1) (later_in R w u g f f_in) (later_in R w u g e all.0, later_all R w u g so so_in) (all_later R w u g finish))
      (selected_both es u f so k l (later_all R w u g es all.1) (later_in R w u g f f_in) (later_all R w u g so so_in) (all_later R w u g finish)))

  pub select_both : (w : World) (p q : Prog) (es : List Tree) → Later R w p q → HasAll R w es → Both R w (select names p es) (select names q es)
  select_both w p q (normal h es ∷ f ∷ []) next all =
      selected_both (elements es) w f [] _ _ (listed (Member w) es all.0.1) all.1.0 tt (λ u g vs vs_in. done (called (Member u) h vs (later_in R w u g h all.0.0) vs_in))
  select_both w p q _ next all = now R w next

  nested_list_both : (n : ℕ) (w : World) (f x : Tree) (so : List Tree) (k l : List Tree → Prog) → Has R w f → Has R w x → HasAll R w so → LaterAll R w k l
      → Both R w (nested_list f n x so k) (nested_list f n x so l)
  nested_list_both zero w f x so k l f_in x_in so_in finish = finish w (same_world R w) (reverse (x ∷ so)) (reversed (Has R w) (x ∷ so) (x_in, so_in))
  nested_list_both (suc n) w f x so k l f_in x_in so_in finish =
      applied_both w f (x ∷ []) _ _ f_in (x_in, tt)
      (λ u g v one. nested_list_both n u f v (x ∷ so) k l (later_in R w u g f f_in) one (later_all R w u g (x ∷ so) (x_in, so_in)) (all_later R w u g finish))

  pub nest_list_both : Table → (w : World) (p q : Prog) (es : List Tree) → Later R w p q → HasAll R w es → Both R w (nest_list names p es) (nest_list names q es)
  nest_list_both t w p q (f ∷ x ∷ integer (pos n) ∷ []) next all =
      nested_list_both n w f x [] _ _ all.0 all.1.0 tt (λ u g vs vs_in. done (made R u t Builtin.List refl vs vs_in))
  nest_list_both t w p q _ next all = now R w next

  folded_list_both : (es : List Tree) (w : World) (f x : Tree) (so : List Tree) (k l : List Tree → Prog) → HasAll R w es → Has R w f → Has R w x → HasAll R w so → LaterAll R w k l
      → Both R w (folded_list f x es so k) (folded_list f x es so l)
  folded_list_both [] w f x so k l all f_in x_in so_in finish = finish w (same_world R w) (reverse (x ∷ so)) (reversed (Has R w) (x ∷ so) (x_in, so_in))
  folded_list_both (e ∷ es) w f x so k l all f_in x_in so_in finish =
      applied_both w f (x ∷ e ∷ []) _ _ f_in (x_in, (all.0, tt))
      (λ u g v one. folded_list_both es u f v (x ∷ so) k l (later_all R w u g es all.1) (later_in R w u g f f_in) one (later_all R w u g (x ∷ so) (x_in, so_in)) (all_later R w u g finish))

  pub fold_list_both : (w : World) (p q : Prog) (es : List Tree) → Later R w p q → HasAll R w es → Both R w (fold_list names p es) (fold_list names q es)
  fold_list_both w p q (f ∷ x ∷ normal h es ∷ []) next all =
      folded_list_both (elements es) w f x [] _ _ (listed (Member w) es all.1.1.0.1) all.0 all.1.0 tt
      (λ u g vs vs_in. done (called (Member u) h vs (later_in R w u g h all.1.1.0.0) vs_in))
  fold_list_both w p q _ next all = now R w next

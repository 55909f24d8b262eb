-- What the control forms owe: on related items they are programs that do the same.
use Rattle.std.proofs.Common.{◌≡◌, refl, ℕ, zero, suc, List, Option}
use Rattle.std.specs.Prelude.{ℤ, pos, ◌+ℤ◌}
use Rattle.std.specs.Ordering.{int_eq}
use Rattle.expr_tree.specs.declared.sym.Sym.{Sym}
use Rattle.expr_tree.specs.Tree.{Tree, integer}
use Rattle.semantics.specs.declared.builtin.Builtin.{Builtin}
use Rattle.semantics.specs.Program.{Prog, Done}
use Rattle.semantics.specs.Control.{most_turns, in_turn, by_truth, conditional, first_true, is_paired, which, connected, while_true, while, throw, catch, Values, From, Each, ask_number, bound_or_list, unless_shared, iterator_parts, iterator, locals, over_numbers, over_list, over, inner_form, iterated, applied, nested, nest, until_fixed, fixed_point, folded, fold, selected, select, nested_list, nest_list, folded_list, fold_list}
use Rattle.laws_relations.proofs.Relate.{Opt, none, some, all_nil, all_cons, branch}
use Rattle.laws_relations.proofs.Listed.{reverse2, same_case}
use Rattle.laws_relations.proofs.Relation.{int, str, sym, node, listed-like, items-like, call-like, same-like, is_call-like, make-like}
use Rattle.laws_relations.proofs.Kin.{Kin, LikeTree, LikeTrees, LikeLocals}
use Rattle.laws_relations.proofs.Simulation.{Both, Next, NextList, throws, ask, catches, within, done, stop, look, turn, check, moded}
use Rattle.laws_relations.proofs.Programs.{name-both, made-both, by_name-both}

module _ (K : Kin) where
  open K use {names}

  pub in_turn-both : {p q : Prog} {es fs : List Tree} → Both K p q → LikeTrees K es fs → Both K (in_turn p es) (in_turn q fs)
  in_turn-both stay all_nil = stay
  in_turn-both stay (all_cons e all_nil) = ask e (λ v x same. done same)
  in_turn-both stay (all_cons e (all_cons f l)) = ask e (λ v x same. in_turn-both stay (all_cons f l))

  by_truth-both : {v x : Tree} {p q r p' q' r' : Prog} → LikeTree K v x → Both K p p' → Both K q q' → Both K r r' → Both K (by_truth names v p q r) (by_truth names x p' q' r')
  by_truth-both same a b c = by_name-both K Builtin.True same a (by_name-both K Builtin.False same b c)

  pub conditional-both : {p q : Prog} {es fs : List Tree} → Both K p q → LikeTrees K es fs → Both K (conditional names p es) (conditional names q fs)
  conditional-both stay (all_cons c (all_cons a all_nil)) = by_truth-both c (done a) (name-both K Builtin.Null) stay
  conditional-both stay (all_cons c (all_cons a (all_cons b all_nil))) = by_truth-both c (done a) (done b) stay
  conditional-both stay (all_cons c (all_cons a (all_cons b (all_cons d all_nil)))) = by_truth-both c (done a) (done b) (done d)
  conditional-both stay _ = stay

  first_true-both : {es fs : List Tree} → LikeTrees K es fs → Both K (first_true names es) (first_true names fs)
  first_true-both all_nil = name-both K Builtin.Null
  first_true-both (all_cons c all_nil) = made-both K Builtin.Which (all_cons c all_nil)
  first_true-both (all_cons c (all_cons e l)) =
      ask c (λ v x same. by_truth-both same (done e) (first_true-both l) (made-both K Builtin.Which (all_cons same (all_cons e l))))

  is_paired-like : {es fs : List Tree} → LikeTrees K es fs → is_paired es ≡ is_paired fs
  is_paired-like all_nil = refl
  is_paired-like (all_cons c all_nil) = refl
  is_paired-like (all_cons c (all_cons e l)) = is_paired-like l

  pub which-both : {p q : Prog} {es fs : List Tree} → Both K p q → LikeTrees K es fs → Both K (which names p es) (which names q fs)
  which-both stay l = branch (Both K) (is_paired-like l) (first_true-both l) stay

  pub connected-both : (row going ending : Builtin) {es fs kept kept' : List Tree} → LikeTrees K es fs → LikeTrees K kept kept' → Both K (connected names row going ending es kept) (connected names row going ending fs kept')
  connected-both row going ending all_nil all_nil = name-both K going
  connected-both row going ending all_nil (all_cons e all_nil) = done e
  connected-both row going ending all_nil (all_cons e (all_cons f l)) = made-both K row (reverse2 (all_cons e (all_cons f l)))
  connected-both row going ending (all_cons e l) kept =
      ask e (λ v x same. by_name-both K ending same (done same)
      (by_name-both K going same (connected-both row going ending l kept) (connected-both row going ending l (all_cons same kept))))

  while_true-both : (n : ℕ) {c d e f : Tree} → LikeTree K c d → LikeTree K e f → Both K (while_true names n c e) (while_true names n d f)
  while_true-both zero c e = stop
  while_true-both (suc n) c e =
      turn (ask c (λ v x same. by_name-both K Builtin.True same (ask e (λ w y other. while_true-both n c e)) (name-both K Builtin.Null)))

  pub while-both : {p q : Prog} {es fs : List Tree} → Both K p q → LikeTrees K es fs → Both K (while names p es) (while names q fs)
  while-both stay (all_cons c (all_cons e all_nil)) = while_true-both most_turns c e
  while-both stay _ = stay

  pub throw-both : {p q : Prog} {es fs : List Tree} → Both K p q → LikeTrees K es fs → Both K (throw p es) (throw q fs)
  throw-both stay (all_cons e all_nil) = throws e
  throw-both stay _ = stay

  pub catch-both : {p q : Prog} {es fs : List Tree} → Both K p q → LikeTrees K es fs → Both K (catch p es) (catch q fs)
  catch-both stay (all_cons e all_nil) = catches e (λ v x same. done same)
  catch-both stay _ = stay

  -- ---- iterators

  pub data LikeValues : Values → Values → Type 0 where
    from : {a d : ℤ} {n : ℕ} → LikeValues (From a d n) (From a d n)
    each : {es fs : List Tree} → LikeTrees K es fs → LikeValues (Each es) (Each fs)

  by_int : {v x : Tree} (k l : ℤ → Prog) {p q : Prog} → LikeTree K v x → ((n : ℤ) → Both K (k n) (l n)) → Both K p q → Both K (elim v [ integer n ↦ k n | _ ↦ p ]) (elim x [ integer n ↦ l n | _ ↦ q ])
  by_int k l (int {n = n}) next stay = next n
  by_int k l str next stay = stay
  by_int k l (sym s) next stay = stay
  by_int k l (node h es) next stay = stay

  ask_number-both : {e f : Tree} (k l : ℤ → Prog) {p q : Prog} → LikeTree K e f → ((n : ℤ) → Both K (k n) (l n)) → Both K p q → Both K (ask_number e k p) (ask_number f l q)
  ask_number-both k l e next stay = ask e (λ v x same. by_int k l same next stay)

  bound_or_list-both : {e f : Tree} (k l : Values → Prog) {p q : Prog} → LikeTree K e f → ((vs us : Values) → LikeValues vs us → Both K (k vs) (l us)) → Both K p q
      → Both K (bound_or_list names e k p) (bound_or_list names f l q)
  bound_or_list-both k l int next stay = next _ _ from
  bound_or_list-both k l str next stay = stay
  bound_or_list-both k l (sym s) next stay = stay
  bound_or_list-both k l (node h es) next stay =
      branch (Both K) (is_call-like K.Symbols names K.faithful Builtin.List (node h es)) (next _ _ (each (listed-like K.Symbols es))) stay

  pub unless_shared-both : {s t : Sym} {p q : Prog} → K.Symbols s t → Both K p q → Both K (unless_shared names s p) (unless_shared names t q)
  unless_shared-both s both = look s (λ x y defined shared. same_case (Both K) shared both (λ kind. moded (λ outward mode kernel. name-both K Builtin.Failed)))

  abbrev pub NextParts : (Option Sym → Values → List Tree → Prog) → (Option Sym → Values → List Tree → Prog) → Type 0
  NextParts k l = (i j : Option Sym) (vs us : Values) (ps qs : List Tree) → Opt K.Symbols i j → LikeValues vs us → LikeTrees K ps qs → Both K (k i vs ps) (l j us qs)

  iterator_parts-both : {es fs : List Tree} (k l : Option Sym → Values → List Tree → Prog) {p q : Prog} → LikeTrees K es fs → NextParts k l → Both K p q
      → Both K (iterator_parts names es k p) (iterator_parts names fs l q)
  iterator_parts-both k l (all_cons n all_nil) next stay = ask_number-both _ _ n (λ b. next _ _ _ _ _ _ none from (all_cons int all_nil)) stay
  iterator_parts-both k l (all_cons (sym i) (all_cons b all_nil)) next stay =
      unless_shared-both i (ask b (λ v x same. bound_or_list-both _ _ same (λ vs us values. next _ _ _ _ _ _ (some i) values (all_cons (sym i) (all_cons same all_nil))) stay))
  iterator_parts-both k l (all_cons (sym i) (all_cons a (all_cons b all_nil))) next stay =
      unless_shared-both i (ask_number-both _ _ a (λ m. ask_number-both _ _ b (λ n. next _ _ _ _ _ _ (some i) from (all_cons (sym i) (all_cons int (all_cons int all_nil)))) stay) stay)
  iterator_parts-both k l (all_cons (sym i) (all_cons a (all_cons b (all_cons d all_nil)))) next stay =
      unless_shared-both i (ask_number-both _ _ a (λ m. ask_number-both _ _ b (λ n. ask_number-both _ _ d (λ by.
      branch (Both K) {a = int_eq by (pos 0)} refl stay (next _ _ _ _ _ _ (some i) from (all_cons (sym i) (all_cons int (all_cons int (all_cons int all_nil)))))) stay) stay) stay)
  iterator_parts-both k l _ next stay = stay

  pub iterator-both : {e f : Tree} (k l : Option Sym → Values → List Tree → Prog) {p q : Prog} → LikeTree K e f → NextParts k l → Both K p q → Both K (iterator names e k p) (iterator names f l q)
  iterator-both k l e next stay = branch (Both K) (is_call-like K.Symbols names K.faithful Builtin.List e) (iterator_parts-both k l (items-like K.Symbols e) next stay) stay

  locals-like : {i j : Option Sym} {v x : Tree} → Opt K.Symbols i j → LikeTree K v x → LikeLocals K (locals i v) (locals j x)
  locals-like none same = all_nil
  locals-like (some s) same = all_cons (record { symbol = s; value = some same }) all_nil

  over_numbers-both : (n : ℕ) (d a : ℤ) {i j : Option Sym} {e f : Tree} {so so' : List Tree} (k l : List Tree → Prog) → Opt K.Symbols i j → LikeTree K e f → LikeTrees K so so' → NextList K k l
      → Both K (over_numbers i e d n a so k) (over_numbers j f d n a so' l)
  over_numbers-both zero d a k l i e so finish = finish _ _ (reverse2 so)
  over_numbers-both (suc n) d a k l i e so finish =
      turn (within (locals-like i int) e (λ v x same. over_numbers-both n d (a +ℤ d) k l i e (all_cons same so) finish))

  over_list-both : {es fs : List Tree} {i j : Option Sym} {e f : Tree} {so so' : List Tree} (k l : List Tree → Prog) → LikeTrees K es fs → Opt K.Symbols i j → LikeTree K e f → LikeTrees K so so' → NextList K k l
      → Both K (over_list i e es so k) (over_list j f fs so' l)
  over_list-both k l all_nil i e so finish = finish _ _ (reverse2 so)
  over_list-both k l (all_cons x xs) i e so finish = turn (within (locals-like i x) e (λ v y same. over_list-both k l xs i e (all_cons same so) finish))

  over-both : {i j : Option Sym} {vs us : Values} {e f : Tree} (k l : List Tree → Prog) → Opt K.Symbols i j → LikeValues vs us → LikeTree K e f → NextList K k l → Both K (over i vs e k) (over j us f l)
  over-both k l i (from {a = a} {d = d} {n = n}) e finish = over_numbers-both n d a k l i e all_nil finish
  over-both k l i (each es) e finish = over_list-both k l es i e all_nil finish

  inner_form-like : (row : Builtin) {e f : Tree} {es fs : List Tree} → LikeTree K e f → LikeTrees K es fs → LikeTree K (inner_form names row e es) (inner_form names row f fs)
  inner_form-like row e all_nil = e
  inner_form-like row e (all_cons it its) = make-like K.Symbols names K.faithful row (all_cons e (all_cons it its))

  pub iterated-both : (row : Builtin) (k l : List Tree → Prog) {p q : Prog} {es fs : List Tree} → NextList K k l → Both K p q → LikeTrees K es fs → Both K (iterated names row k p es) (iterated names row l q fs)
  iterated-both row k l finish stay (all_cons e (all_cons it its)) =
      iterator-both _ _ it (λ i j vs us ps qs named values parts. over-both k l named values (inner_form-like row e its) finish) stay
  iterated-both row k l finish stay _ = stay

  -- ---- turn forms

  pub applied-both : {f g : Tree} {es fs : List Tree} (k l : Tree → Prog) → LikeTree K f g → LikeTrees K es fs → Next K k l → Both K (applied f es k) (applied g fs l)
  applied-both k l f es next = check (call-like K.Symbols f es) (turn (ask (call-like K.Symbols f es) next))

  nested-both : (n : ℕ) {f g x y : Tree} → LikeTree K f g → LikeTree K x y → Both K (nested f n x Done) (nested g n y Done)
  nested-both zero f x = done x
  nested-both (suc n) f x = applied-both _ _ f (all_cons x all_nil) (λ v u same. nested-both n f same)

  pub nest-both : {p q : Prog} {es fs : List Tree} → Both K p q → LikeTrees K es fs → Both K (nest p es) (nest q fs)
  nest-both stay (all_cons f (all_cons x (all_cons (int {n = pos n}) all_nil))) = nested-both n f x
  nest-both stay _ = stay

  until_fixed-both : (n : ℕ) {f g x y : Tree} → LikeTree K f g → LikeTree K x y → Both K (until_fixed n f x) (until_fixed n g y)
  until_fixed-both zero f x = stop
  until_fixed-both (suc n) f x =
      applied-both _ _ f (all_cons x all_nil) (λ v u same. branch (Both K) (same-like K.Symbols names K.faithful same x) (done same) (until_fixed-both n f same))

  pub fixed_point-both : {p q : Prog} {es fs : List Tree} → Both K p q → LikeTrees K es fs → Both K (fixed_point p es) (fixed_point q fs)
  fixed_point-both stay (all_cons f (all_cons x all_nil)) = until_fixed-both most_turns f x
  fixed_point-both stay _ = stay

  folded-both : {f g x y : Tree} {es fs : List Tree} → LikeTree K f g → LikeTree K x y → LikeTrees K es fs → Both K (folded f x es Done) (folded g y fs Done)
  folded-both f x all_nil = done x
  folded-both f x (all_cons e l) = applied-both _ _ f (all_cons x (all_cons e all_nil)) (λ v u same. folded-both f same l)

  pub fold-both : {p q : Prog} {es fs : List Tree} → Both K p q → LikeTrees K es fs → Both K (fold p es) (fold q fs)
  fold-both stay (all_cons f (all_cons x (all_cons (node h es) all_nil))) = folded-both f x (listed-like K.Symbols es)
  fold-both stay _ = stay

  selected-both : {f g : Tree} {es fs so so' : List Tree} (k l : List Tree → Prog) → LikeTree K f g → LikeTrees K es fs → LikeTrees K so so' → NextList K k l → Both K (selected names f es so k) (selected names g fs so' l)
  selected-both k l f all_nil so next = next _ _ (reverse2 so)
  selected-both k l f (all_cons e es) so next =
      applied-both _ _ f (all_cons e all_nil) (λ v u same. by_name-both K Builtin.True same (selected-both k l f es (all_cons e so) next) (selected-both k l f es so next))

  pub select-both : {p q : Prog} {es fs : List Tree} → Both K p q → LikeTrees K es fs → Both K (select names p es) (select names q fs)
  select-both stay (all_cons (node h es) (all_cons f all_nil)) = selected-both _ _ f (listed-like K.Symbols es) all_nil (λ vs xs all. done (call-like K.Symbols h all))
  select-both stay _ = stay

  nested_list-both : (n : ℕ) {f g x y : Tree} {so so' : List Tree} (k l : List Tree → Prog) → LikeTree K f g → LikeTree K x y → LikeTrees K so so' → NextList K k l → Both K (nested_list f n x so k) (nested_list g n y so' l)
  nested_list-both zero k l f x so next = next _ _ (reverse2 (all_cons x so))
  nested_list-both (suc n) k l f x so next = applied-both _ _ f (all_cons x all_nil) (λ v u same. nested_list-both n k l f same (all_cons x so) next)

  pub nest_list-both : {p q : Prog} {es fs : List Tree} → Both K p q → LikeTrees K es fs → Both K (nest_list names p es) (nest_list names q fs)
  nest_list-both stay (all_cons f (all_cons x (all_cons (int {n = pos n}) all_nil))) = nested_list-both n _ _ f x all_nil (λ vs xs all. made-both K Builtin.List all)
  nest_list-both stay _ = stay

  folded_list-both : {f g x y : Tree} {es fs so so' : List Tree} (k l : List Tree → Prog) → LikeTree K f g → LikeTree K x y → LikeTrees K es fs → LikeTrees K so so' → NextList K k l
      → Both K (folded_list f x es so k) (folded_list g y fs so' l)
  folded_list-both k l f x all_nil so next = next _ _ (reverse2 (all_cons x so))
  folded_list-both k l f x (all_cons e es) so next = applied-both _ _ f (all_cons x (all_cons e all_nil)) (λ v u same. folded_list-both k l f same es (all_cons x so) next)

  pub fold_list-both : {p q : Prog} {es fs : List Tree} → Both K p q → LikeTrees K es fs → Both K (fold_list names p es) (fold_list names q fs)
  fold_list-both stay (all_cons f (all_cons x (all_cons (node h es) all_nil))) = folded_list-both _ _ f x (listed-like K.Symbols es) all_nil (λ vs xs all. done (call-like K.Symbols h all))
  fold_list-both stay _ = stay

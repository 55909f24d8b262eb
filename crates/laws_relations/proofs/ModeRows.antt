-- What the rows of the mode table owe: in a shape that is not named they stay, and else they are a use of the mode, which sends related
-- expressions outward or goes on with related ones.
use Rattle.std.proofs.Common.{◌≡◌, refl, ap, subst, Bool, true, false, not, List, [], ◌∷◌, Option, Some, None}
use Rattle.std.specs.Prelude.{leb, ◌&&◌, ◌||◌, is_some}
use Rattle.expr_tree.specs.declared.sym.Sym.{Sym}
use Rattle.expr_tree.specs.Tree.{Tree, symbol, normal, Trees, call}
use Rattle.semantics.specs.declared.builtin.Builtin.{Builtin}
use Rattle.semantics.specs.Names.{make}
use Rattle.semantics.specs.Definitions.{has}
use Rattle.semantics.specs.Program.{Prog, Done, Look}
use Rattle.semantics.specs.Sections as Sections
use Rattle.semantics.specs.Sections.{critical_section, quit, outside_or, is_option, is_last_option, without_option, parallel_map, combined, parallel_combine, first_success, parallel_try, ask_option, checked_outer, parallel_loop, outside_or_failed, is_object, has_object, any_object, wait_all, outside_only, are_symbols, is_submission, parallel_submit, of_symbols}
use Rattle.laws_relations.proofs.Relate.{Opt, none, some, all_nil, all_cons, branch, case, length2}
use Rattle.laws_relations.proofs.Relation.{Likes, int, str, sym, node, mores, ends, items-like, call-like, make-like, is_name-like, is_call-like}
use Rattle.laws_relations.proofs.Kin.{Kin, LikeTree, LikeTrees, LikeSymbols, forms, prints}
use Rattle.laws_relations.proofs.Simulation.{Both, NextList, done, leaves, ask, look, check, moded, section, asks_open, outer, shown}
use Rattle.laws_relations.proofs.Programs.{name-both, made-both, by_name-both, by_cell, by_item, by_service}
use Rattle.laws_relations.proofs.ControlRows.{iterator-both, applied-both}
use Rattle.laws_relations.proofs.ScopeRows.{symbols_in-like}

module _ (K : Kin) where
  open K use {names}

  section-both : {ss ts : List Sym} {e f : Tree} → K.Outward → LikeSymbols K ss ts → LikeTree K e f → Both K (Sections.section ss e) (Sections.section ts f)
  section-both outward all_nil body = ask body (λ v x one. done one)
  section-both outward (all_cons s ss) body = section outward (all_cons s ss) body (λ v x one. done one)

  outer-both : (row : Builtin) {es fs : List Tree} → K.Outward → LikeTrees K es fs → Both K (Sections.outer names row es) (Sections.outer names row fs)
  outer-both row outward l = outer outward (forms (make-like K.Symbols names K.faithful row l)) (λ v x one. done one)

  by_section : (o : Option (List Sym)) {p q p' q' : Prog} → Both K p p' → Both K q q' → Both K (elim o [ None ↦ p | Some held ↦ q ]) (elim o [ None ↦ p' | Some held ↦ q' ])
  by_section None one other = one
  by_section (Some held) one other = other

  outside_or-both : {p q p' q' : Prog} → (K.Outward → Both K p p') → Both K q q' → Both K (outside_or p q) (outside_or p' q')
  outside_or-both outside inside = moded (λ outward mode kernel. by_cell K mode (asks_open outward (λ o. by_section o (outside outward) inside)) inside)

  pub critical_section-both : {p q : Prog} {es fs : List Tree} → Both K p q → LikeTrees K es fs → Both K (critical_section names p es) (critical_section names q fs)
  critical_section-both stay (all_cons locks (all_cons body all_nil)) =
      branch (Both K) (is_call-like K.Symbols names K.faithful Builtin.List locks) (case (Both K) (symbols_in-like K (items-like K.Symbols locks)) stay
      (λ a b ss. moded (λ outward mode kernel. by_service K mode (name-both K Builtin.Failed) (section-both outward ss body)))) stay
  critical_section-both stay _ = stay

  pub quit-both : {p q : Prog} {es fs : List Tree} → Both K p q → LikeTrees K es fs → Both K (quit names p es) (quit names q fs)
  quit-both stay all_nil = moded (λ outward mode kernel. by_item K mode leaves (name-both K Builtin.Failed))
  quit-both stay _ = stay

  is_option-like : {e f : Tree} → LikeTree K e f → is_option names e ≡ is_option names f
  is_option-like (node h (mores m (mores v ends))) = λ i. is_name-like K.Symbols names K.faithful Builtin.Rule h i && is_name-like K.Symbols names K.faithful Builtin.Method m i
  is_option-like _ = refl

  is_last_option-like : {e f : Tree} {es fs : List Tree} → LikeTree K e f → LikeTrees K es fs → is_last_option names e es ≡ is_last_option names f fs
  is_last_option-like e all_nil = is_option-like e
  is_last_option-like e (all_cons f l) = refl

  without_option-like : {es fs : List Tree} → LikeTrees K es fs → LikeTrees K (without_option names es) (without_option names fs)
  without_option-like all_nil = all_nil
  without_option-like (all_cons e all_nil) = branch (LikeTrees K) (is_option-like e) all_nil (all_cons e all_nil)
  without_option-like (all_cons e (all_cons f l)) = all_cons e (without_option-like (all_cons f l))

  pub parallel_map-both : {p q : Prog} {es fs : List Tree} → Both K p q → LikeTrees K es fs → Both K (parallel_map names p es) (parallel_map names q fs)
  parallel_map-both stay (all_cons f (all_cons l all_nil)) =
      branch (Both K) (is_option-like l) stay
      (outside_or-both (λ outward. outer-both Builtin.ParallelMap outward (all_cons f (all_cons l all_nil))) (made-both K Builtin.Map (all_cons f (all_cons l all_nil))))
  parallel_map-both stay (all_cons f (all_cons l (all_cons o all_nil))) =
      branch (Both K) (is_option-like o)
      (outside_or-both (λ outward. outer-both Builtin.ParallelMap outward (all_cons f (all_cons l (all_cons o all_nil)))) (made-both K Builtin.Map (all_cons f (all_cons l all_nil)))) stay
  parallel_map-both stay _ = stay

  joined-both : {f g : Tree} {s t : Sym} {es fs : Trees} → LikeTree K f g → K.Symbols s t → Likes K.Symbols es fs
      → Both K
      (Look s (λ seen. elim (has Builtin.Flat seen.definition.attributes) [
        | true ↦ Done (call (symbol s) (call f (normal (symbol s) es ∷ []) ∷ []))
        | false ↦ Done (make names Builtin.Join (call f (normal (symbol s) es ∷ []) ∷ []))
      ]))
      (Look t (λ seen. elim (has Builtin.Flat seen.definition.attributes) [
        | true ↦ Done (call (symbol t) (call g (normal (symbol t) fs ∷ []) ∷ []))
        | false ↦ Done (make names Builtin.Join (call g (normal (symbol t) fs ∷ []) ∷ []))
      ]))
  joined-both f h es =
      look h (λ x y defined shared. branch (Both K) (ap (has Builtin.Flat) defined.attributes)
      (done (call-like K.Symbols (sym h) (all_cons (call-like K.Symbols f (all_cons (node (sym h) es) all_nil)) all_nil)))
      (made-both K Builtin.Join (all_cons (call-like K.Symbols f (all_cons (node (sym h) es) all_nil)) all_nil)))

  combined-both : {f g l m : Tree} {es fs : List Tree} → LikeTree K f g → LikeTree K l m → LikeTrees K es fs → Both K (combined names f l es) (combined names g m fs)
  combined-both f l (all_cons comb all_nil) = done (call-like K.Symbols comb (all_cons (call-like K.Symbols f (all_cons l all_nil)) all_nil))
  combined-both f (node (sym h) es) all_nil = joined-both f h es
  combined-both f (node (sym h) es) (all_cons a (all_cons b rest)) = joined-both f h es
  combined-both f l _ = made-both K Builtin.Join (all_cons (call-like K.Symbols f (all_cons l all_nil)) all_nil)

  pub parallel_combine-both : {p q : Prog} {es fs : List Tree} → Both K p q → LikeTrees K es fs → Both K (parallel_combine names p es) (parallel_combine names q fs)
  parallel_combine-both stay (all_cons f (all_cons (node h es) rest)) =
      branch (Both K) (λ i. leb (length2 (without_option-like rest) i) 1 && not (is_last_option-like (node h es) rest i))
      (outside_or-both (λ outward. outer-both Builtin.ParallelCombine outward (all_cons f (all_cons (node h es) rest))) (combined-both f (node h es) (without_option-like rest))) stay
  parallel_combine-both stay _ = stay

  first_success-both : {f g : Tree} {es fs : List Tree} → LikeTree K f g → LikeTrees K es fs → Both K (first_success names f es) (first_success names g fs)
  first_success-both f all_nil = name-both K Builtin.Failed
  first_success-both f (all_cons e es) = applied-both K _ _ f (all_cons e all_nil) (λ v x one. by_name-both K Builtin.Failed one (first_success-both f es) (done one))

  pub parallel_try-both : {p q : Prog} {es fs : List Tree} → Both K p q → LikeTrees K es fs → Both K (parallel_try names p es) (parallel_try names q fs)
  parallel_try-both stay (all_cons f (all_cons l all_nil)) =
      branch (Both K) (is_call-like K.Symbols names K.faithful Builtin.List l)
      (outside_or-both (λ outward. outer-both Builtin.ParallelTry outward (all_cons f (all_cons l all_nil))) (first_success-both f (items-like K.Symbols l))) stay
  parallel_try-both stay _ = stay

  ask_option-both : (k m : List Tree → Prog) {es fs : List Tree} → LikeTrees K es fs → NextList K k m → Both K (ask_option names es k) (ask_option names fs m)
  ask_option-both k m all_nil next = next _ _ all_nil
  ask_option-both k m (all_cons (node h (mores s (mores v ends))) all_nil) next =
      branch (Both K) (is_option-like (node h (mores s (mores v ends)))) (ask v (λ w x one. next _ _ (all_cons (node h (mores s (mores one ends))) all_nil)))
      (next _ _ (all_cons (node h (mores s (mores v ends))) all_nil))
  ask_option-both k m (all_cons int all_nil) next = next _ _ (all_cons int all_nil)
  ask_option-both k m (all_cons str all_nil) next = next _ _ (all_cons str all_nil)
  ask_option-both k m (all_cons (sym s) all_nil) next = next _ _ (all_cons (sym s) all_nil)
  ask_option-both k m (all_cons (node h ends) all_nil) next = next _ _ (all_cons (node h ends) all_nil)
  ask_option-both k m (all_cons (node h (mores a ends)) all_nil) next = next _ _ (all_cons (node h (mores a ends)) all_nil)
  ask_option-both k m (all_cons (node h (mores a (mores b (mores c l)))) all_nil) next = next _ _ (all_cons (node h (mores a (mores b (mores c l)))) all_nil)
  ask_option-both k m (all_cons e (all_cons f l)) next = ask_option-both _ _ (all_cons f l) (λ gs hs one. next _ _ (all_cons e one))

  checked_outer-both : (row : Builtin) {es fs : List Tree} → K.Outward → LikeTrees K es fs → Both K (checked_outer names row es) (checked_outer names row fs)
  checked_outer-both row outward l = check (make-like K.Symbols names K.faithful row l) (outer-both row outward l)

  pub parallel_loop-both : (form sequential : Builtin) {p q : Prog} {es fs : List Tree} → Both K p q → LikeTrees K es fs → Both K (parallel_loop names form sequential p es) (parallel_loop names form sequential q fs)
  parallel_loop-both form sequential stay (all_cons e (all_cons it l)) =
      branch (Both K) (is_last_option-like it l) stay
      (outside_or-both (λ outward. iterator-both K _ _ it (λ i j vs us ps qs named values parts. ask_option-both _ _ l (λ gs hs option.
      checked_outer-both form outward (all_cons e (all_cons (make-like K.Symbols names K.faithful Builtin.List parts) option)))) stay)
      (made-both K sequential (without_option-like (all_cons e (all_cons it l)))))
  parallel_loop-both form sequential stay _ = stay

  pub outside_or_failed-both : (form : Builtin) {p q : Prog} {es fs : List Tree} → Both K p q → LikeTrees K es fs → Both K (outside_or_failed names form p es) (outside_or_failed names form q fs)
  outside_or_failed-both form stay (all_cons e all_nil) = outside_or-both (λ outward. outer-both form outward (all_cons e all_nil)) (name-both K Builtin.Failed)
  outside_or_failed-both form stay _ = stay

  is_object-like : {h g : Tree} {es fs : Trees} → LikeTree K h g → Likes K.Symbols es fs → is_object names h es ≡ is_object names g fs
  is_object-like h (mores int ends) = is_name-like K.Symbols names K.faithful Builtin.EvaluationObject h
  is_object-like h _ = refl

  mutual
    has_object-like : {e f : Tree} → LikeTree K e f → has_object names e ≡ has_object names f
    has_object-like int = refl
    has_object-like str = refl
    has_object-like (sym s) = refl
    has_object-like (node h es) = λ i. is_object-like h es i || (has_object-like h i || any_object-like es i)

    any_object-like : {es fs : Trees} → Likes K.Symbols es fs → any_object names es ≡ any_object names fs
    any_object-like ends = refl
    any_object-like (mores e es) = λ i. has_object-like e i || any_object-like es i

  pub wait_all-both : {p q : Prog} {es fs : List Tree} → Both K p q → LikeTrees K es fs → Both K (wait_all names p es) (wait_all names q fs)
  wait_all-both stay (all_cons e all_nil) =
      branch (Both K) (has_object-like e) (outside_or-both (λ outward. outer-both Builtin.WaitAll outward (all_cons e all_nil)) (name-both K Builtin.Failed)) (done e)
  wait_all-both stay _ = stay

  outside_only-both : (form : Builtin) {b c : Bool} {p q : Prog} {es fs : List Tree} → LikeTrees K es fs → b ≡ c → Both K p q → Both K (outside_only names form b p es) (outside_only names form c q fs)
  outside_only-both form {b} {c} {p} {q} {es} {fs} l e stay = subst (λ c. Both K (outside_only names form b p es) (outside_only names form c q fs)) e (go b)
    where
      go : (b : Bool) → Both K (outside_only names form b p es) (outside_only names form b q fs)
      go true = moded (λ outward mode kernel. by_cell K mode (outer-both form outward l) (name-both K Builtin.Failed))
      go false = stay

  are_some : {o p : Option (List Sym)} → Opt (LikeSymbols K) o p → is_some o ≡ is_some p
  are_some none = refl
  are_some (some l) = refl

  are_symbols-like : {es fs : List Tree} → LikeTrees K es fs → are_symbols es ≡ are_symbols fs
  are_symbols-like l = are_some (symbols_in-like K l)

  is_submission-like : {es fs : List Tree} → LikeTrees K es fs → is_submission names es ≡ is_submission names fs
  is_submission-like (all_cons e all_nil) = refl
  is_submission-like (all_cons x (all_cons e all_nil)) = λ i. is_call-like K.Symbols names K.faithful Builtin.List x i && are_symbols-like (items-like K.Symbols x) i
  is_submission-like _ = refl

  pub parallel_submit-both : {p q : Prog} {es fs : List Tree} → Both K p q → LikeTrees K es fs → Both K (parallel_submit names p es) (parallel_submit names q fs)
  parallel_submit-both stay l = outside_only-both Builtin.ParallelSubmit l (is_submission-like l) stay

  pub of_symbols-both : (form : Builtin) {p q : Prog} {es fs : List Tree} → Both K p q → LikeTrees K es fs → Both K (of_symbols names form p es) (of_symbols names form q fs)
  of_symbols-both form stay l = outside_only-both form l (are_symbols-like l) stay

  pub print-both : {es fs : List Tree} → LikeTrees K es fs → Both K (Sections.print names es) (Sections.print names fs)
  print-both l = moded (λ outward mode kernel. shown outward (λ texts alike. outer outward (prints (alike _ _ l)) (λ v x one. name-both K Builtin.Null)))

-- What Module, Block, With and the application of a Function owe.
use Rattle.std.proofs.Common.{◌≡◌, refl, ap, ℕ, zero, suc, Bool, ltb, List, Option}
use Rattle.std.specs.Prelude.{pos, ◌||◌}
use Rattle.expr_tree.specs.declared.sym.Sym.{Sym}
use Rattle.expr_tree.specs.Tree.{Tree, Trees}
use Rattle.semantics.specs.declared.builtin.Builtin.{Builtin}
use Rattle.semantics.specs.InPlace.{nth, slot_number, filled, slot_of, is_pure_function, fill_slots, fill_in_items}
use Rattle.semantics.specs.Program.{Prog, Local}
use Rattle.semantics.specs.Scoping.{plain_local, valued_local, local_of, locals_of, symbols_of, differ, has_base, bases_differ, ask_values, with_locals, renaming, with_number, make_all, module_form, unless_any_shared, block_form, values_in, with_form, symbols_in, paired, parameters, put_arguments, apply_function}
use Rattle.laws_relations.proofs.Relate.{Opt, none, some, All, all_nil, all_cons, branch, case, append2, length2}
use Rattle.laws_relations.proofs.Listed.{drop2, same_case}
use Rattle.laws_relations.proofs.Relation.{int, str, sym, node, Likes, ends, mores, LikeBound, LikeLocal, listed-like, items-like, is_name-like, is_call-like}
use Rattle.laws_relations.proofs.PutInPlace.{among-like, as_one-like, put_in_place-like}
use Rattle.laws_relations.proofs.Kin.{Kin, LikeTree, LikeTrees, LikeSymbols, LikeLocals}
use Rattle.laws_relations.proofs.Simulation.{Both, ask, within, done, look, put, fresh, moded}
use Rattle.laws_relations.proofs.Programs.{name-both}

module _ (K : Kin) where
  open K use {names}

  -- ---- locals

  plain_local-like : {e f : Tree} → LikeTree K e f → Opt (LikeLocal K.Symbols) (plain_local e) (plain_local f)
  plain_local-like (sym s) = some (record { symbol = s; value = none })
  plain_local-like _ = none

  valued_local-like : {es fs : List Tree} → LikeTrees K es fs → Opt (LikeLocal K.Symbols) (valued_local es) (valued_local fs)
  valued_local-like (all_cons (sym s) (all_cons v all_nil)) = some (record { symbol = s; value = some v })
  valued_local-like _ = none

  local_of-like : {e f : Tree} → LikeTree K e f → Opt (LikeLocal K.Symbols) (local_of names e) (local_of names f)
  local_of-like e = branch (Opt (LikeLocal K.Symbols)) (is_call-like K.Symbols names K.faithful Builtin.Set e) (valued_local-like (items-like K.Symbols e)) (plain_local-like e)

  locals_of-like : {es fs : List Tree} → LikeTrees K es fs → Opt (LikeLocals K) (locals_of names es) (locals_of names fs)
  locals_of-like all_nil = some all_nil
  locals_of-like (all_cons e l) = case (Opt (LikeLocals K)) (local_of-like e) none (λ a b one. case (Opt (LikeLocals K)) (locals_of-like l) none (λ as' bs rest. some (all_cons one rest)))

  symbols_of-like : {ls ms : List Local} → LikeLocals K ls ms → LikeSymbols K (symbols_of ls) (symbols_of ms)
  symbols_of-like all_nil = all_nil
  symbols_of-like (all_cons l ls) = all_cons l.symbol (symbols_of-like ls)

  pub differ-like : {ss ts : List Sym} → LikeSymbols K ss ts → differ ss ≡ differ ts
  differ-like all_nil = refl
  differ-like (all_cons s ss) = rw (among-like K.Symbols names K.faithful s ss, differ-like ss) refl

  has_base-like : {b c : ℕ} {ss ts : List Sym} → b ≡ c → LikeSymbols K ss ts → has_base b ss ≡ has_base c ts
  has_base-like e all_nil = refl
  has_base-like e (all_cons s ss) = rw (e, K.bases _ _ s, has_base-like e ss) refl

  pub bases_differ-like : {ss ts : List Sym} → LikeSymbols K ss ts → bases_differ ss ≡ bases_differ ts
  bases_differ-like all_nil = refl
  bases_differ-like (all_cons s ss) = rw (has_base-like (K.bases _ _ s) ss, bases_differ-like ss) refl

  abbrev NextLocals : (List Local → Prog) → (List Local → Prog) → Type 0
  NextLocals k l = (vs xs : List Local) → LikeLocals K vs xs → Both K (k vs) (l xs)

  ask_values-both : {ls ms so so' : List Local} (k l : List Local → Prog) → LikeLocals K ls ms → LikeLocals K so so' → NextLocals k l → Both K (ask_values ls so k) (ask_values ms so' l)
  ask_values-both k l all_nil so next = next _ _ so
  ask_values-both k l (all_cons one rest) so next =
      case (Both K) one.value (ask_values-both k l rest (append2 so (all_cons one all_nil)) next)
      (λ v x same. ask same (λ y z evaluated. ask_values-both k l rest (append2 so (all_cons (record { symbol = one.symbol; value = some evaluated }) all_nil)) next))

  -- ---- the three forms

  abbrev pub NextForm : (List Local → Tree → Prog) → (List Local → Tree → Prog) → Type 0
  NextForm k l = (ls ms : List Local) (e f : Tree) → LikeLocals K ls ms → LikeTree K e f → Both K (k ls e) (l ms f)

  pub with_locals-both : (allowed : List Sym → Bool) (k l : List Local → Tree → Prog) → ((ss ts : List Sym) → LikeSymbols K ss ts → allowed ss ≡ allowed ts) → NextForm k l
      → {p q : Prog} {es fs : List Tree} → Both K p q → LikeTrees K es fs → Both K (with_locals names allowed k p es) (with_locals names allowed l q fs)
  with_locals-both allowed k l both next stay (all_cons ls (all_cons body all_nil)) =
      branch (Both K) (is_call-like K.Symbols names K.faithful Builtin.List ls)
      (case (Both K) (locals_of-like (items-like K.Symbols ls)) stay (λ a b locals. branch (Both K) (both _ _ (symbols_of-like locals)) (next _ _ _ _ locals body) stay))
      stay
  with_locals-both allowed k l both next stay _ = stay

  renaming-like : (m n : ℕ) → K.Numbers m n → {ls ms : List Local} → LikeLocals K ls ms → All (LikeBound K.Symbols) (renaming m ls) (renaming n ms)
  renaming-like m n numbers all_nil = all_nil
  renaming-like m n numbers (all_cons l ls) = all_cons (l.symbol, all_cons (sym (K.renames m n numbers _ _ l.symbol)) all_nil) (renaming-like m n numbers ls)

  with_number-like : (m n : ℕ) → K.Numbers m n → {ls ms : List Local} → LikeLocals K ls ms → LikeLocals K (with_number m ls) (with_number n ms)
  with_number-like m n numbers all_nil = all_nil
  with_number-like m n numbers (all_cons l ls) = all_cons (record { symbol = K.renames m n numbers _ _ l.symbol; value = l.value }) (with_number-like m n numbers ls)

  make_all-both : {ls ms : List Local} {p q : Prog} → LikeLocals K ls ms → Both K p q → Both K (make_all ls p) (make_all ms q)
  make_all-both all_nil rest = rest
  make_all-both (all_cons l ls) rest = put l.symbol (record { attributes = refl; own = l.value; downs = all_nil; ups = all_nil }) (make_all-both ls rest)

  pub module_form-both : NextForm (module_form names) (module_form names)
  module_form-both ls ms e f locals body =
      fresh (λ m n numbers. ask_values-both _ _ locals all_nil (λ vs xs values. make_all-both (with_number-like m n numbers values)
      (done (put_in_place-like K.Symbols names K.faithful _ _ (renaming-like m n numbers values) body))))

  unless_any_shared-both : {ss ts : List Sym} {p q : Prog} → LikeSymbols K ss ts → Both K p q → Both K (unless_any_shared names ss p) (unless_any_shared names ts q)
  unless_any_shared-both all_nil both = both
  unless_any_shared-both (all_cons s ss) both = look s (λ x y defined shared. same_case (Both K) shared (unless_any_shared-both ss both) (λ kind. moded (λ outward mode kernel. name-both K Builtin.Failed)))

  pub block_form-both : NextForm (block_form names) (block_form names)
  block_form-both ls ms e f locals body =
      unless_any_shared-both (symbols_of-like locals) (ask_values-both _ _ locals all_nil (λ vs xs values. within values body (λ v x same. done same)))

  values_in-like : {ls ms : List Local} → LikeLocals K ls ms → Opt (All (LikeBound K.Symbols)) (values_in ls) (values_in ms)
  values_in-like all_nil = some all_nil
  values_in-like (all_cons l ls) =
      case (Opt (All (LikeBound K.Symbols))) l.value none
      (λ v x same. case (Opt (All (LikeBound K.Symbols))) (values_in-like ls) none (λ a b rest. some (all_cons (l.symbol, all_cons same all_nil) rest)))

  pub with_form-both : {p q : Prog} → Both K p q → NextForm (with_form names p) (with_form names q)
  with_form-both stay ls ms e f locals body =
      case (Both K) (values_in-like locals) stay
      (λ b c bound. ask_values-both _ _ locals all_nil (λ vs xs values. case (Both K) (values_in-like values) stay
      (λ b c bs. done (put_in_place-like K.Symbols names K.faithful b c bs body))))

  -- ---- the application of a Function

  pub symbols_in-like : {es fs : List Tree} → LikeTrees K es fs → Opt (LikeSymbols K) (symbols_in es) (symbols_in fs)
  symbols_in-like all_nil = some all_nil
  symbols_in-like (all_cons (sym s) l) = case (Opt (LikeSymbols K)) (symbols_in-like l) none (λ a b rest. some (all_cons s rest))
  symbols_in-like (all_cons int l) = none
  symbols_in-like (all_cons str l) = none
  symbols_in-like (all_cons (node h es) l) = none

  paired-like : {ss ts : List Sym} {es fs : List Tree} → LikeSymbols K ss ts → LikeTrees K es fs → Opt (All (LikeBound K.Symbols)) (paired ss es) (paired ts fs)
  paired-like all_nil l = some all_nil
  paired-like (all_cons s ss) all_nil = none
  paired-like (all_cons s ss) (all_cons e l) = case (Opt (All (LikeBound K.Symbols))) (paired-like ss l) none (λ a b rest. some (all_cons (s, all_cons e all_nil) rest))

  parameters-like : {e f : Tree} → LikeTree K e f → Opt (LikeSymbols K) (parameters names e) (parameters names f)
  parameters-like int = none
  parameters-like str = none
  parameters-like (sym s) = some (all_cons s all_nil)
  parameters-like (node h es) = branch (Opt (LikeSymbols K)) (is_call-like K.Symbols names K.faithful Builtin.List (node h es)) (symbols_in-like (listed-like K.Symbols es)) none

  put_arguments-both : {ss ts : List Sym} {es fs : List Tree} {e f : Tree} {p q : Prog} → LikeSymbols K ss ts → LikeTrees K es fs → LikeTree K e f → Both K p q
      → Both K (put_arguments names ss es e p) (put_arguments names ts fs f q)
  put_arguments-both ss args body stay =
      branch (Both K) (differ-like ss) (case (Both K) (paired-like ss args) stay (λ b c bs. done (put_in_place-like K.Symbols names K.faithful b c bs body))) stay

  nth-like : {es fs : List Tree} → LikeTrees K es fs → (n : ℕ) → Opt (LikeTree K) (nth es n) (nth fs n)
  nth-like all_nil n = none
  nth-like (all_cons e l) zero = none
  nth-like (all_cons e l) (suc zero) = some e
  nth-like (all_cons e l) (suc (suc n)) = nth-like l (suc n)

  slot_number-like : {es fs : List Tree} → LikeTrees K es fs → slot_number es ≡ slot_number fs
  slot_number-like (all_cons (int {n = pos (suc n)}) all_nil) = refl
  slot_number-like _ = refl

  filled-like : (n : ℕ) {e f : Tree} {es fs : List Tree} → LikeTrees K es fs → LikeTree K e f → LikeTree K (filled names es e n) (filled names fs f n)
  filled-like n args e =
      branch (LikeTree K) (is_call-like K.Symbols names K.faithful Builtin.Slot e) (case (LikeTree K) (nth-like args (suc n)) e (λ a b one. one))
      (branch (LikeTree K) (ap (ltb n) (length2 args)) (as_one-like K.Symbols names K.faithful (drop2 n args)) e)

  slot_of-like : {e f : Tree} → LikeTree K e f → slot_of names e ≡ slot_of names f
  slot_of-like e =
      branch (◌≡◌ {A = Option ℕ}) (λ i. is_call-like K.Symbols names K.faithful Builtin.Slot e i || is_call-like K.Symbols names K.faithful Builtin.SlotSequence e i)
      (slot_number-like (items-like K.Symbols e)) refl

  is_pure_function-like : {h g : Tree} {es fs : Trees} → LikeTree K h g → Likes K.Symbols es fs → is_pure_function names h es ≡ is_pure_function names g fs
  is_pure_function-like h (mores e ends) = is_name-like K.Symbols names K.faithful Builtin.Function h
  is_pure_function-like h _ = refl

  mutual
    fill_slots-like : {e f : Tree} {es fs : List Tree} → LikeTrees K es fs → LikeTree K e f → LikeTree K (fill_slots names es e) (fill_slots names fs f)
    fill_slots-like args int = int
    fill_slots-like args str = str
    fill_slots-like args (sym s) = sym s
    fill_slots-like args (node h es) =
        same_case (LikeTree K) (slot_of-like (node h es))
        (branch (LikeTree K) (is_pure_function-like h es) (node h es) (node (fill_slots-like args h) (fill_in_items-like args es))) (λ n. filled-like n args (node h es))

    fill_in_items-like : {as' bs : Trees} {es fs : List Tree} → LikeTrees K es fs → Likes K.Symbols as' bs → Likes K.Symbols (fill_in_items names es as') (fill_in_items names fs bs)
    fill_in_items-like args ends = ends
    fill_in_items-like args (mores e es) = mores (fill_slots-like args e) (fill_in_items-like args es)

  pub apply_function-both : {p q : Prog} {ps qs es fs : List Tree} → Both K p q → LikeTrees K ps qs → LikeTrees K es fs → Both K (apply_function names p ps es) (apply_function names q qs fs)
  apply_function-both stay (all_cons body all_nil) args = done (fill_slots-like args body)
  apply_function-both stay (all_cons x (all_cons body all_nil)) args = case (Both K) (parameters-like x) stay (λ a b ss. put_arguments-both ss args body stay)
  apply_function-both stay _ args = stay

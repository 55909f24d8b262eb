-- Related runs put in place in related expressions give related ones.
use Rattle.std.proofs.Common.{◌≡◌, refl, subst, Bool, true, false, List, [], Option}
use Rattle.std.specs.Prelude.{unwrap_or, if◌then◌else◌}
use Rattle.expr_tree.specs.declared.sym.Sym.{Sym}
use Rattle.expr_tree.specs.Tree.{Tree, Trees}
use Rattle.expr_tree.specs.Shapes.{pair_of, pair_under, elements_under}
use Rattle.expr_tree.specs.Substitution.{Binding, value_of, among, symbol_in, plain_symbol, valued_symbol, local_symbol, symbols_by, bound_by, bound_locals, bound_parameters, bound_in, without, value_or_symbol, put_in_items}
use Rattle.semantics.specs.declared.builtin.Builtin.{Builtin}
use Rattle.semantics.specs.Names.{Names, known}
use Rattle.semantics.specs.InPlace.{binders, as_one, put_in_place}
use Rattle.laws_relations.proofs.Relate.{Opt, none, some, All, all_nil, all_cons, case}
use Rattle.laws_relations.proofs.Relation.{Like, int, str, sym, node, Likes, ends, mores, LikeList, LikeBound, Faithful, listed-like, same_symbol-like, make-like}

module _ (S : Sym → Sym → Type 0) (names : Names) (F : Faithful S names) where
  -- the same branch of a choice on both sides
  either : {B : Type 0} (Q : B → B → Type 0) {a b : Bool} {m n m' n' : B} → a ≡ b → Q m m' → Q n n' → Q (if a then m else n) (if b then m' else n')
  either Q {a} {b} {m} {n} {m'} {n'} e one other = subst (λ c. Q (if a then m else n) (if c then m' else n')) e (go a)
    where
      go : (c : Bool) → Q (if c then m else n) (if c then m' else n')
      go true = one
      go false = other

  pub value_of-like : {b c : Binding} {s t : Sym} → All (LikeBound S) b c → S s t → Opt (LikeList S) (value_of b s) (value_of c t)
  value_of-like all_nil s = none
  value_of-like (all_cons b bs) s = either (Opt (LikeList S)) (same_symbol-like S names F b.0 s) (some b.1) (value_of-like bs s)

  pub among-like : {s t : Sym} {ss ts : List Sym} → S s t → All S ss ts → among s ss ≡ among t ts
  among-like s all_nil = refl
  among-like s (all_cons t ts) = rw (same_symbol-like S names F s t, among-like s ts) refl

  pub symbol_in-like : {e f : Tree} → Like S e f → All S (symbol_in e) (symbol_in f)
  symbol_in-like (sym s) = all_cons s all_nil
  symbol_in-like _ = all_nil

  abbrev LikePair : Tree × Tree → Tree × Tree → Type 0
  LikePair a b = Like S a.0 b.0 × Like S a.1 b.1

  pair_of-like : {es fs : List Tree} → LikeList S es fs → Opt LikePair (pair_of es) (pair_of fs)
  pair_of-like (all_cons x (all_cons v all_nil)) = some (x, v)
  pair_of-like _ = none

  pair_under-like : (row : Builtin) {e f : Tree} → Like S e f → Opt LikePair (pair_under (known names row) e) (pair_under (known names row) f)
  pair_under-like row (node (sym s) es) = either (Opt LikePair) (same_symbol-like S names F s (F.knows row)) (pair_of-like (listed-like S es)) none
  pair_under-like row _ = none

  elements_under-like : (row : Builtin) {e f : Tree} → Like S e f → Opt (LikeList S) (elements_under (known names row) e) (elements_under (known names row) f)
  elements_under-like row (node (sym s) es) = either (Opt (LikeList S)) (same_symbol-like S names F s (F.knows row)) (some (listed-like S es)) none
  elements_under-like row _ = none

  plain_symbol-like : {e f : Tree} → Like S e f → Opt S (plain_symbol e) (plain_symbol f)
  plain_symbol-like (sym s) = some s
  plain_symbol-like _ = none

  valued_symbol-like : {e f : Tree} → Like S e f → Opt S (valued_symbol (binders names) e) (valued_symbol (binders names) f)
  valued_symbol-like e = case (Opt S) (pair_under-like Builtin.Set e) none (λ a b both. plain_symbol-like both.0)

  local_symbol-like : {e f : Tree} → Like S e f → Opt S (local_symbol (binders names) e) (local_symbol (binders names) f)
  local_symbol-like e = case (Opt S) (pair_under-like Builtin.Set e) (plain_symbol-like e) (λ a b both. plain_symbol-like both.0)

  -- a way to find a symbol finds related ones in related expressions
  abbrev Finds : (Tree → Option Sym) → Type 0
  Finds member = (e f : Tree) → Like S e f → Opt S (member e) (member f)

  symbols_by-like : {member : Tree → Option Sym} → Finds member → {es fs : List Tree} → LikeList S es fs → Opt (All S) (symbols_by member es) (symbols_by member fs)
  symbols_by-like finds all_nil = some all_nil
  symbols_by-like finds (all_cons e es) =
      case (Opt (All S)) (finds _ _ e) none (λ s t one. case (Opt (All S)) (symbols_by-like finds es) none (λ ss ts all. some (all_cons one all)))

  or_none : {o p : Option (List Sym)} → Opt (All S) o p → All S (unwrap_or o []) (unwrap_or p [])
  or_none none = all_nil
  or_none (some all) = all

  bound_by-like : {member : Tree → Option Sym} → Finds member → {es fs : List Tree} → LikeList S es fs → All S (bound_by member es) (bound_by member fs)
  bound_by-like finds es = or_none (symbols_by-like finds es)

  bound_locals-like : {member : Tree → Option Sym} → Finds member → {es fs : List Tree} → LikeList S es fs → All S (bound_locals (binders names) member es) (bound_locals (binders names) member fs)
  bound_locals-like finds (all_cons x (all_cons y all_nil)) = case (All S) (elements_under-like Builtin.List x) all_nil (λ a b l. bound_by-like finds l)
  bound_locals-like finds _ = all_nil

  bound_parameters-like : {es fs : List Tree} → LikeList S es fs → All S (bound_parameters (binders names) es) (bound_parameters (binders names) fs)
  bound_parameters-like (all_cons x (all_cons y all_nil)) =
      case (All S) (elements_under-like Builtin.List x) (symbol_in-like x) (λ a b l. bound_by-like {member = plain_symbol} (λ e f one. plain_symbol-like one) l)
  bound_parameters-like _ = all_nil

  bound_in-like : {h g : Tree} {es fs : List Tree} → Like S h g → LikeList S es fs → All S (bound_in (binders names) h es) (bound_in (binders names) g fs)
  bound_in-like int es = all_nil
  bound_in-like str es = all_nil
  bound_in-like (node h fs) es = all_nil
  bound_in-like (sym s) es =
      either (All S) (same_symbol-like S names F s (F.knows Builtin.Module)) (bound_locals-like {member = local_symbol (binders names)} (λ e f one. local_symbol-like one) es)
      (either (All S) (same_symbol-like S names F s (F.knows Builtin.With)) (bound_locals-like {member = valued_symbol (binders names)} (λ e f one. valued_symbol-like one) es)
      (either (All S) (same_symbol-like S names F s (F.knows Builtin.Function)) (bound_parameters-like es) all_nil))

  without-like : {ss ts : List Sym} {b c : Binding} → All S ss ts → All (LikeBound S) b c → All (LikeBound S) (without ss b) (without ts c)
  without-like ss all_nil = all_nil
  without-like ss (all_cons b bs) = either (All (LikeBound S)) (among-like b.0 ss) (without-like ss bs) (all_cons b (without-like ss bs))

  pub as_one-like : {es fs : List Tree} → LikeList S es fs → Like S (as_one names es) (as_one names fs)
  as_one-like all_nil = make-like S names F Builtin.Sequence all_nil
  as_one-like (all_cons e all_nil) = e
  as_one-like (all_cons e (all_cons f es)) = make-like S names F Builtin.Sequence (all_cons e (all_cons f es))

  value_or_symbol-like : {s t : Sym} {o p : Option (List Tree)} → S s t → Opt (LikeList S) o p
      → Like S (value_or_symbol (known names Builtin.Sequence) s o) (value_or_symbol (known names Builtin.Sequence) t p)
  value_or_symbol-like s none = sym s
  value_or_symbol-like s (some run) = as_one-like run

  mutual
    pub put_in_place-like : {e f : Tree} (b c : Binding) → All (LikeBound S) b c → Like S e f → Like S (put_in_place names b e) (put_in_place names c f)
    put_in_place-like b c bs int = int
    put_in_place-like b c bs str = str
    put_in_place-like b c bs (sym s) = value_or_symbol-like s (value_of-like bs s)
    put_in_place-like b c bs (node h es) =
        node (put_in_place-like _ _ (without-like (bound_in-like h (listed-like S es)) bs) h) (put_in_items-like _ _ (without-like (bound_in-like h (listed-like S es)) bs) es)

    pub put_in_items-like : {es fs : Trees} (b c : Binding) → All (LikeBound S) b c → Likes S es fs → Likes S (put_in_items (binders names) b es) (put_in_items (binders names) c fs)
    put_in_items-like b c bs ends = ends
    put_in_items-like b c bs (mores e es) = mores (put_in_place-like b c bs e) (put_in_items-like b c bs es)

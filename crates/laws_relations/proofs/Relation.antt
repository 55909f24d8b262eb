-- Relations on symbols, lifted to expressions. What the evaluator computes from related expressions is related, or the same.
-- The shift of names is the instance `t is s with its number shifted`.
use Rattle.std.proofs.Common.{◌≡◌, refl, ap, subst, ℕ, zero, suc, Bool, true, false, cond, List, Option, Some, None}
use Rattle.std.specs.Prelude.{ℤ, ◌+◌}
use Rattle.std.specs.Ordering.{is_le}
use Rattle.expr_tree.specs.declared.sym.Sym.{Sym}
use Rattle.expr_tree.specs.Tree.{Tree, integer, string, symbol, normal, Trees, nil, cons, elements, trees, call, size, sizes, depth, depths, count}
use Rattle.expr_tree.specs.Order.{tree_cmp, trees_cmp, symbol_cmp, same, same_symbol}
use Rattle.semantics.specs.declared.builtin.Builtin.{Builtin}
use Rattle.semantics.specs.Names.{Names, known, name, is_known, is_name, is_call, items_of, head_of, make, role_of}
use Rattle.semantics.specs.Steps.{splice, unwrapped, strip, has_wrapper, is_call_of, flatten_item, flatten_items, flatten, put_in, ordered, all_of_length, first_length, first_or, rest_of, heads_of, tails_of, threads, thread}
use Rattle.expr_tree.specs.Same.{trees_eq}
use Rattle.expr_tree.specs.Shapes.{symbol_of}
use Rattle.semantics.specs.Rule.{Rule}
use Rattle.semantics.specs.Definitions.{Definition}
use Rattle.semantics.specs.Program.{Local}
use Rattle.laws_relations.proofs.Relate.{Opt, none, some, All, all_nil, all_cons, branch, case, append2, length2}

module _ (S : Sym → Sym → Type 0) where
  mutual
    pub data Like : Tree → Tree → Type 0 where
      int : {n : ℤ} → Like (integer n) (integer n)
      str : {t : List ℕ} → Like (string t) (string t)
      sym : {s t : Sym} → S s t → Like (symbol s) (symbol t)
      node : {h g : Tree} {es fs : Trees} → Like h g → Likes es fs → Like (normal h es) (normal g fs)

    pub data Likes : Trees → Trees → Type 0 where
      ends : Likes nil nil
      mores : {e f : Tree} {es fs : Trees} → Like e f → Likes es fs → Likes (cons e es) (cons f fs)

  abbrev pub LikeList : List Tree → List Tree → Type 0
  LikeList = All Like

  pub listed-like : {es fs : Trees} → Likes es fs → LikeList (elements es) (elements fs)
  listed-like ends = all_nil
  listed-like (mores e es) = all_cons e (listed-like es)

  pub packed-like : {es fs : List Tree} → LikeList es fs → Likes (trees es) (trees fs)
  packed-like all_nil = ends
  packed-like (all_cons e es) = mores e (packed-like es)

  pub call-like : {h g : Tree} {es fs : List Tree} → Like h g → LikeList es fs → Like (call h es) (call g fs)
  call-like h es = node h (packed-like es)

  mutual
    pub size-like : {e f : Tree} → Like e f → size e ≡ size f
    size-like int = refl
    size-like str = refl
    size-like (sym s) = refl
    size-like (node h es) = rw (size-like h, items_size-like es) refl

    pub items_size-like : {es fs : Trees} → Likes es fs → sizes es ≡ sizes fs
    items_size-like ends = refl
    items_size-like (mores e es) = rw (size-like e, items_size-like es) refl

  mutual
    pub depth-like : {e f : Tree} → Like e f → depth e ≡ depth f
    depth-like int = refl
    depth-like str = refl
    depth-like (sym s) = refl
    depth-like (node h es) = rw (depth-like h, items_depth-like es) refl

    pub items_depth-like : {es fs : Trees} → Likes es fs → depths es ≡ depths fs
    items_depth-like ends = refl
    items_depth-like (mores e es) = rw (depth-like e, items_depth-like es) refl

  pub count-like : {es fs : Trees} → Likes es fs → count es ≡ count fs
  count-like ends = refl
  count-like (mores e es) = ap (λ n. n + 1) (count-like es)

  pub symbol-like : {e f : Tree} → Like e f → Opt S (symbol_of e) (symbol_of f)
  symbol-like int = none
  symbol-like str = none
  symbol-like (sym s) = some s
  symbol-like (node h es) = symbol-like h

  pub items-like : {e f : Tree} → Like e f → LikeList (items_of e) (items_of f)
  items-like int = all_nil
  items-like str = all_nil
  items-like (sym s) = all_nil
  items-like (node h es) = listed-like es

  pub head-like : {e f : Tree} → Like e f → Opt Like (head_of e) (head_of f)
  head-like int = none
  head-like str = none
  head-like (sym s) = none
  head-like (node h es) = some h

  abbrev pub LikeBound : Sym × List Tree → Sym × List Tree → Type 0
  LikeBound b c = S b.0 c.0 × LikeList b.1 c.1

  pub record LikeRule (r q : Rule) : Type 0 where
    pub left : Like r.left q.left
    pub right : Like r.right q.right

  pub record LikeDefinition (d c : Definition) : Type 0 where
    pub attributes : d.attributes ≡ c.attributes
    pub own : Opt Like d.own c.own
    pub downs : All LikeRule d.downs c.downs
    pub ups : All LikeRule d.ups c.ups

  pub record LikeLocal (l m : Local) : Type 0 where
    pub symbol : S l.symbol m.symbol
    pub value : Opt Like l.value m.value

  -- what the relation keeps: the order of symbols, and which symbols are rows of the table
  pub record Faithful (names : Names) : Type 0 where
    pub order : (a b c d : Sym) → S a b → S c d → symbol_cmp a c ≡ symbol_cmp b d
    pub equals : (a b c d : Sym) → S a b → S c d → same_symbol a c ≡ same_symbol b d
    pub rows : (row : Builtin) (a b : Sym) → S a b → is_known names row a ≡ is_known names row b
    pub roles : (a b : Sym) → S a b → role_of names a ≡ role_of names b
    pub knows : (row : Builtin) → S (known names row) (known names row)

  module _ (names : Names) (F : Faithful names) where
    mutual
      pub compare-like : {e f g h : Tree} → Like e f → Like g h → tree_cmp e g ≡ tree_cmp f h
      compare-like int int = refl
      compare-like int str = refl
      compare-like int (sym s) = refl
      compare-like int (node h es) = refl
      compare-like str int = refl
      compare-like str str = refl
      compare-like str (sym s) = refl
      compare-like str (node h es) = refl
      compare-like (sym s) int = refl
      compare-like (sym s) str = refl
      compare-like (sym s) (sym t) = F.order _ _ _ _ s t
      compare-like (sym s) (node h es) = refl
      compare-like (node h es) int = refl
      compare-like (node h es) str = refl
      compare-like (node h es) (sym s) = refl
      compare-like (node h es) (node g fs) = rw (count-like es, count-like fs, compare-like h g, compare_items-like es fs) refl

      pub compare_items-like : {es fs gs hs : Trees} → Likes es fs → Likes gs hs → trees_cmp es gs ≡ trees_cmp fs hs
      compare_items-like ends ends = refl
      compare_items-like ends (mores g gs) = refl
      compare_items-like (mores e es) ends = refl
      compare_items-like (mores e es) (mores g gs) = rw (compare-like e g, compare_items-like es gs) refl

    pub same_symbol-like : {a b c d : Sym} → S a b → S c d → same_symbol a c ≡ same_symbol b d
    same_symbol-like s t = F.equals _ _ _ _ s t

    mutual
      pub same-like : {e f g h : Tree} → Like e f → Like g h → same e g ≡ same f h
      same-like int int = refl
      same-like int str = refl
      same-like int (sym t) = refl
      same-like int (node g fs) = refl
      same-like str int = refl
      same-like str str = refl
      same-like str (sym t) = refl
      same-like str (node g fs) = refl
      same-like (sym s) int = refl
      same-like (sym s) str = refl
      same-like (sym s) (sym t) = same_symbol-like s t
      same-like (sym s) (node g fs) = refl
      same-like (node h es) int = refl
      same-like (node h es) str = refl
      same-like (node h es) (sym t) = refl
      same-like (node h es) (node g fs) = rw (same-like h g, same_items-like es fs) refl

      same_items-like : {es fs gs hs : Trees} → Likes es fs → Likes gs hs → trees_eq es gs ≡ trees_eq fs hs
      same_items-like ends ends = refl
      same_items-like ends (mores g gs) = refl
      same_items-like (mores e es) ends = refl
      same_items-like (mores e es) (mores g gs) = rw (same-like e g, same_items-like es gs) refl

    pub is_name-like : (row : Builtin) {e f : Tree} → Like e f → is_name names row e ≡ is_name names row f
    is_name-like row int = refl
    is_name-like row str = refl
    is_name-like row (sym s) = F.rows row _ _ s
    is_name-like row (node h es) = refl

    pub is_call-like : (row : Builtin) {e f : Tree} → Like e f → is_call names row e ≡ is_call names row f
    is_call-like row int = refl
    is_call-like row str = refl
    is_call-like row (sym s) = refl
    is_call-like row (node int es) = refl
    is_call-like row (node str es) = refl
    is_call-like row (node (sym s) es) = F.rows row _ _ s
    is_call-like row (node (node h fs) es) = refl

    pub name-like : (row : Builtin) → Like (name names row) (name names row)
    name-like row = sym (F.knows row)

    pub make-like : (row : Builtin) {es fs : List Tree} → LikeList es fs → Like (make names row es) (make names row fs)
    make-like row es = call-like (name-like row) es

    -- ---- the steps

    pub splice-like : {es fs : List Tree} → LikeList es fs → LikeList (splice names es) (splice names fs)
    splice-like all_nil = all_nil
    splice-like (all_cons e es) = append2 (chosen (is_call-like Builtin.Sequence e) (items-like e) (all_cons e all_nil)) (splice-like es)
      where
        chosen : {a b : Bool} {gs hs is js : List Tree} → a ≡ b → LikeList gs hs → LikeList is js → LikeList (cond a gs is) (cond b hs js)
        chosen {a} {b} {gs} {hs} {is} {js} p l m = subst (λ c. LikeList (cond a gs is) (cond c hs js)) p (go a)
          where
            go : (c : Bool) → LikeList (cond c gs is) (cond c hs js)
            go true = l
            go false = m

    pub unwrapped-like : {e f : Tree} → Like e f → Opt Like (unwrapped names e) (unwrapped names f)
    unwrapped-like int = none
    unwrapped-like str = none
    unwrapped-like (sym s) = none
    unwrapped-like (node h ends) = none
    unwrapped-like (node h (mores e ends)) = branch (Opt Like) (is_call-like Builtin.Unevaluated (node h ends)) (some e) none
    unwrapped-like (node h (mores e (mores f es))) = none

    pub strip-like : {es fs : List Tree} → LikeList es fs → LikeList (strip names es) (strip names fs)
    strip-like all_nil = all_nil
    strip-like (all_cons e es) = case LikeList (unwrapped-like e) (all_cons e (strip-like es)) (λ x y one. all_cons one (strip-like es))

    pub has_wrapper-like : {es fs : List Tree} → LikeList es fs → has_wrapper names es ≡ has_wrapper names fs
    has_wrapper-like all_nil = refl
    has_wrapper-like (all_cons e es) = case (◌≡◌ {A = Bool}) (unwrapped-like e) (has_wrapper-like es) (λ x y one. refl)

    pub is_call_of-like : {a b : Sym} {e f : Tree} → S a b → Like e f → is_call_of a e ≡ is_call_of b f
    is_call_of-like s int = refl
    is_call_of-like s str = refl
    is_call_of-like s (sym t) = refl
    is_call_of-like s (node int es) = refl
    is_call_of-like s (node str es) = refl
    is_call_of-like s (node (sym t) es) = same_symbol-like s t
    is_call_of-like s (node (node h fs) es) = refl

    mutual
      pub flatten_item-like : {a b : Sym} {e f : Tree} → S a b → Like e f → LikeList (flatten_item a e) (flatten_item b f)
      flatten_item-like s int = all_cons int all_nil
      flatten_item-like s str = all_cons str all_nil
      flatten_item-like s (sym t) = all_cons (sym t) all_nil
      flatten_item-like s (node h es) = branch LikeList (is_call_of-like s (node h ends)) (flatten_items-like s es) (all_cons (node h es) all_nil)

      pub flatten_items-like : {a b : Sym} {es fs : Trees} → S a b → Likes es fs → LikeList (flatten_items a es) (flatten_items b fs)
      flatten_items-like s ends = all_nil
      flatten_items-like s (mores e es) = append2 (flatten_item-like s e) (flatten_items-like s es)

    pub flatten-like : {a b : Sym} {es fs : List Tree} → S a b → LikeList es fs → LikeList (flatten a es) (flatten b fs)
    flatten-like s es = flatten_items-like s (packed-like es)

    pub put_in-like : {e f : Tree} {es fs : List Tree} → Like e f → LikeList es fs → LikeList (put_in e es) (put_in f fs)
    put_in-like e all_nil = all_cons e all_nil
    put_in-like e (all_cons g gs) = chosen (ap is_le (compare-like e g)) (all_cons e (all_cons g gs)) (all_cons g (put_in-like e gs))
      where
        chosen : {a b : Bool} {gs hs is js : List Tree} → a ≡ b → LikeList gs hs → LikeList is js → LikeList (cond a gs is) (cond b hs js)
        chosen {a} {b} {gs} {hs} {is} {js} p l m = subst (λ c. LikeList (cond a gs is) (cond c hs js)) p (go a)
          where
            go : (c : Bool) → LikeList (cond c gs is) (cond c hs js)
            go true = l
            go false = m

    pub ordered-like : {es fs : List Tree} → LikeList es fs → LikeList (ordered es) (ordered fs)
    ordered-like all_nil = all_nil
    ordered-like (all_cons e es) = put_in-like e (ordered-like es)

    -- ---- threading

    pub first_length-like : {es fs : List Tree} → LikeList es fs → first_length names es ≡ first_length names fs
    first_length-like all_nil = refl
    first_length-like (all_cons e es) = branch (◌≡◌ {A = Option ℕ}) (is_call-like Builtin.List e) (ap Some (length2 (items-like e))) (first_length-like es)

    pub all_of_length-like : (n : ℕ) {es fs : List Tree} → LikeList es fs → all_of_length names n es ≡ all_of_length names n fs
    all_of_length-like n all_nil = refl
    all_of_length-like n (all_cons e es) =
        branch (◌≡◌ {A = Bool}) (is_call-like Builtin.List e) (rw (length2 (items-like e), all_of_length-like n es) refl) (all_of_length-like n es)

    first_or-like : {e f : Tree} {es fs : List Tree} → Like e f → LikeList es fs → Like (first_or e es) (first_or f fs)
    first_or-like d all_nil = d
    first_or-like d (all_cons e es) = e

    rest_of-like : {es fs : List Tree} → LikeList es fs → LikeList (rest_of es) (rest_of fs)
    rest_of-like all_nil = all_nil
    rest_of-like (all_cons e es) = es

    heads_of-like : {es fs : List Tree} → LikeList es fs → LikeList (heads_of names es) (heads_of names fs)
    heads_of-like all_nil = all_nil
    heads_of-like (all_cons e es) = branch LikeList (is_call-like Builtin.List e) (all_cons (first_or-like e (items-like e)) (heads_of-like es)) (all_cons e (heads_of-like es))

    tails_of-like : {es fs : List Tree} → LikeList es fs → LikeList (tails_of names es) (tails_of names fs)
    tails_of-like all_nil = all_nil
    tails_of-like (all_cons e es) =
        branch LikeList (is_call-like Builtin.List e) (all_cons (make-like Builtin.List (rest_of-like (items-like e))) (tails_of-like es)) (all_cons e (tails_of-like es))

    threads-like : {s t : Sym} (n : ℕ) (es : List Tree) {fs : List Tree} → S s t → LikeList es fs → LikeList (threads names s n es) (threads names t n fs)
    threads-like zero es s l = all_nil
    threads-like (suc n) es s l = all_cons (call-like (sym s) (heads_of-like l)) (threads-like n (tails_of names es) s (tails_of-like l))

    pub thread-like : {s t : Sym} {es fs : List Tree} → S s t → LikeList es fs → Opt LikeList (thread names s es) (thread names t fs)
    thread-like {s = a} {t = b} {es = es} {fs = fs} s l = subst (λ o. Opt LikeList (thread names a es) (from o fs)) (first_length-like l) (go (first_length names es))
      where
        from : Option ℕ → List Tree → Option (List Tree)
        from o gs = elim o [ None ↦ None | Some n ↦ elim (all_of_length names n gs) [ true ↦ Some (threads names b n gs) | false ↦ None ] ]

        go : (o : Option ℕ) → Opt LikeList (elim o [ None ↦ None | Some n ↦ elim (all_of_length names n es) [ true ↦ Some (threads names a n es) | false ↦ None ] ]) (from o fs)
        go None = none
        go (Some n) = branch (Opt LikeList) (all_of_length-like n l) (some (threads-like n es s l)) none

-- Hiding symbols.
use Rattle.std.proofs.Common.{◌≡◌, Bool, true, false, List, [], ◌∷◌, ◌++◌, None, refl, ap, sym}
use Rattle.std.specs.Prelude.{◌||◌}
use Rattle.expr_tree.specs.declared.sym.Sym.{Sym}
use Rattle.expr_tree.specs.Tree.{Tree, normal, trees}
use Rattle.expr_tree.specs.Same.{symbol_eq}
use Rattle.expr_tree.specs.declared.binders.Binders.{Binders}
use Rattle.expr_tree.specs.Substitution.{Binding, value_of, among, without, bound_in, put_in_place, put_in_items}
use Rattle.expr_tree.proofs.Same.{symbol_eq-Decides}
use Rattle.expr_tree.proofs.Trees.{elements-trees}
use Rattle.expr_tree.proofs.Callers.{tree_steps}

pub without-none : (b : Binding) → without [] b ≡ b
without-none [] = refl
without-none (x ∷ xs) = ap (λ ys. x ∷ ys) (without-none xs)

among-append : (s : Sym) (ss ts : List Sym) → among s (ss ++ ts) ≡ (among s ss || among s ts)
among-append s [] ts = refl
among-append s (t ∷ ss) ts = go (symbol_eq s t) (among-append s ss ts)
  where
    go : (c : Bool) → among s (ss ++ ts) ≡ (among s ss || among s ts) → (c || among s (ss ++ ts)) ≡ ((c || among s ss) || among s ts)
    go true ih = refl
    go false ih = ih

-- hiding in two steps
pub without-both : (ss ts : List Sym) (b : Binding) → without ts (without ss b) ≡ without (ss ++ ts) b
without-both ss ts [] = refl
without-both ss ts (x ∷ xs) = go (among x.0 ss) (among x.0 ts) refl refl (without-both ss ts xs)
  where
    go : (p q : Bool) → among x.0 ss ≡ p → among x.0 ts ≡ q → without ts (without ss xs) ≡ without (ss ++ ts) xs → without ts (without ss (x ∷ xs)) ≡ without (ss ++ ts) (x ∷ xs)
    go true q e f ih = rw (e, among-append x.0 ss ts, e) ih
    go false true e f ih = rw (e, f, among-append x.0 ss ts, e, f) ih
    go false false e f ih = rw (e, f, among-append x.0 ss ts, e, f) (ap (λ ys. x ∷ ys) ih)

-- a hidden symbol has no run
pub hidden_run : (ss : List Sym) (b : Binding) (s : Sym) → among s ss ≡ true → value_of (without ss b) s ≡ None
hidden_run ss [] s h = refl
hidden_run ss (x ∷ xs) s h = go (among x.0 ss) (symbol_eq x.0 s) refl refl (hidden_run ss xs s h)
  where
    go : (p q : Bool) → among x.0 ss ≡ p → symbol_eq x.0 s ≡ q → value_of (without ss xs) s ≡ None → value_of (without ss (x ∷ xs)) s ≡ None
    go true q e f ih = rw e ih
    go false true e f ih =
        let i : x.0 ≡ s = (symbol_eq-Decides x.0 s).0 f in
        let j : among x.0 ss ≡ among s ss = ap (λ t. among t ss) i in
        absurd (cc (h, e, j))
    go false false e f ih = rw (e, f) ih

-- and another has its run
pub shown_run : (ss : List Sym) (b : Binding) (s : Sym) → among s ss ≡ false → value_of (without ss b) s ≡ value_of b s
shown_run ss [] s h = refl
shown_run ss (x ∷ xs) s h = go (among x.0 ss) (symbol_eq x.0 s) refl refl (shown_run ss xs s h)
  where
    go : (p q : Bool) → among x.0 ss ≡ p → symbol_eq x.0 s ≡ q → value_of (without ss xs) s ≡ value_of xs s → value_of (without ss (x ∷ xs)) s ≡ value_of (x ∷ xs) s
    go true true e f ih =
        let i : x.0 ≡ s = (symbol_eq-Decides x.0 s).0 f in
        let j : among x.0 ss ≡ among s ss = ap (λ t. among t ss) i in
        absurd (cc (h, e, j))
    go true false e f ih = rw (e, f) ih
    go false true e f ih = rw (e, f) refl
    go false false e f ih = rw (e, f) ih

-- putting into a level that binds symbols
pub put_under : (binders : Binders) (b : Binding) (hidden bound : List Sym) (h : Tree) (es : List Tree) → bound ≡ bound_in binders h es → put_in_place binders (without hidden b) (normal h (trees es)) ≡ normal (put_in_place binders (without (hidden ++ bound) b) h) (put_in_items binders (without (hidden ++ bound) b) (trees es))
put_under binders b hidden bound h es is = rw (elements-trees es, sym is, without-both hidden bound b) refl

-- and into one that binds none
pub put_through : (binders : Binders) (b : Binding) (bound : List Sym) (h : Tree) (es : List Tree) → bound ≡ bound_in binders h es → bound ≡ [] → put_in_place binders b (normal h (trees es)) ≡ normal (put_in_place binders b h) (put_in_items binders b (trees es))
put_through binders b bound h es is none' = rw (elements-trees es, sym is, none', without-none b) refl

pub ruleset scope_steps = (tree_steps, without-none, without-both, hidden_run, shown_run)

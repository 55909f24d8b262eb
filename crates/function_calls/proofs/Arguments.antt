-- Parameters and their arguments, in order.
use Rattle.std.proofs.Common.{◌≡◌, ℕ, suc, ◌+◌, ◌-◌, ◌<◌, ◌≤◌, refl, ap, sym, ◌∙◌, Bool, true, false, List, [], ◌∷◌, ◌++◌, Option, Some, None, length, get_or, take, drop, drop-cons, add-one, append_assoc, append-nil, arith}
use Rattle.std.specs.Bool.{IsTrue}
use Rattle.std.proofs.lemmas.List.{length-drop, drop-drop, drop_all, take_all, get_or_default}
use Rattle.expr_tree.specs.declared.sym.Sym.{Sym}
use Rattle.expr_tree.specs.Tree.{Tree, symbol, integer, string, normal}
use Rattle.expr_tree.specs.Substitution.{Binding}
use Rattle.expr_tree.proofs.Callers.{tree_steps}
use Rattle.expr_lists.proofs.SymbolLists.{behind, behind_nothing, next, one_more, is_symbol}
use Rattle.semantics.specs.declared.builtin.Builtin.{Builtin}
use Rattle.semantics.specs.Names.{Names, is_call, items_of}
use Rattle.semantics.specs.Scoping.{symbols_in, paired, parameters}

abbrev listed : Bool → List Tree → Option (List Sym)
listed t es = elim t [ true ↦ symbols_in es | false ↦ None ]

not_true : (b : Bool) → (b ≡ true → ⊥) → b ≡ false
not_true true p = absurd (p refl)
not_true false p = refl

pub parameters_list : (names : Names) (e : Tree) (es : List Tree) → is_symbol e ≡ false → IsTrue (is_call names Builtin.List e) → es ≡ items_of e → parameters names e ≡ symbols_in es
parameters_list names e es other call is = go e other ∙ ap (λ t. listed t (items_of e)) call ∙ ap symbols_in (sym is)
  where
    go : (e : Tree) → is_symbol e ≡ false → parameters names e ≡ listed (is_call names Builtin.List e) (items_of e)
    go (integer n) p = refl
    go (string t) p = refl
    go (symbol s) p = cc
    go (normal h es) p = refl

pub parameters_none : (names : Names) (e : Tree) → is_symbol e ≡ false → (IsTrue (is_call names Builtin.List e) → ⊥) → parameters names e ≡ None
parameters_none names e other no_call = go e other ∙ ap (λ t. listed t (items_of e)) (not_true (is_call names Builtin.List e) no_call)
  where
    go : (e : Tree) → is_symbol e ≡ false → parameters names e ≡ listed (is_call names Builtin.List e) (items_of e)
    go (integer n) p = refl
    go (string t) p = refl
    go (symbol s) p = cc
    go (normal h es) p = refl

pub ruleset parameter_steps = (tree_steps, parameters_list, parameters_none)

pub pairs_none : (ss : List Sym) (args : List Tree) → length args < length ss → paired ss args ≡ None
pairs_none [] args few = absurd (omega (arith, few))
pairs_none (s ∷ ss) [] few = refl
pairs_none (s ∷ ss) (e ∷ es) few = ap (λ o. elim o as (λ _. Option Binding) [ None ↦ None | Some b ↦ Some ((s, e ∷ []) ∷ b) ]) (pairs_none ss es (omega (arith, few)))

pairs_more : (ss : List Sym) (args : List Tree) (i : ℕ) (s : Sym) (done : Binding) → i < length ss → i < length args → s ≡ get_or ss i s
    → behind done (paired (drop i ss) (drop i args)) ≡ behind (done ++ (s, take 1 (drop i args)) ∷ []) (paired (drop (i + 1) ss) (drop (i + 1) args))
pairs_more ss args i s done inside within is =
    ap (λ ts. behind done (paired ts (drop i args))) (next ss i s inside is) ∙ go (drop i args) some ∙ ap (λ es. behind (done ++ (s, take 1 (drop i args)) ∷ []) (paired (drop (i + 1) ss) es)) (drop-drop 1 i args)
  where
    some : 1 ≤ length (drop i args)
    some = let l : length (drop i args) ≡ length args - i = length-drop i args in omega (arith, l, within)

    go : (es : List Tree) → 1 ≤ length es → behind done (paired (s ∷ drop (i + 1) ss) es) ≡ behind (done ++ (s, take 1 es) ∷ []) (paired (drop (i + 1) ss) (drop 1 es))
    go [] p = absurd (omega (arith, p))
    go (e ∷ es) p = one_more done (s, e ∷ []) (paired (drop (i + 1) ss) es)

pairs_kept : (ss : List Sym) (args run : List Tree) (i : ℕ) (s : Sym) (done longer : Binding) → longer ≡ done ++ (s, run) ∷ [] → run ≡ take 1 (drop i args) → behind done (paired (drop i ss) (drop i args)) ≡ paired ss args → i < length ss → length ss ≤ length args
    → s ≡ get_or ss i s → behind longer (paired (drop (i + 1) ss) (drop (i + 1) args)) ≡ paired ss args
pairs_kept ss args run i s done longer pushed taken whole inside enough is =
    ap (λ bs. behind bs (paired (drop (i + 1) ss) (drop (i + 1) args))) pushed
    ∙ ap (λ es. behind (done ++ (s, es) ∷ []) (paired (drop (i + 1) ss) (drop (i + 1) args))) taken
    ∙ sym (pairs_more ss args i s done inside (omega (arith, inside, enough)) is) ∙ whole

pub pairs_kept_at : (ss : List Sym) (args run : List Tree) (i : ℕ) (d : Sym) (done longer : Binding) → longer ≡ done ++ (get_or ss i d, run) ∷ [] → run ≡ take 1 (take (length args - i) (drop i args)) → behind done (paired (drop i ss) (drop i args)) ≡ paired ss args
    → i < length ss → length ss ≤ length args → behind longer (paired (drop (i + 1) ss) (drop (i + 1) args)) ≡ paired ss args
pairs_kept_at ss args run i d done longer pushed taken whole inside enough =
    let l : length (drop i args) ≡ length args - i = length-drop i args in
    let t : take (length args - i) (drop i args) ≡ drop i args = take_all (length args - i) (drop i args) (omega (arith, l)) in
    pairs_kept ss args run i (get_or ss i d) done longer pushed (taken ∙ ap (take 1) t) whole inside enough (get_or_default ss i d (get_or ss i d) inside)

pub pairs_end : (ss : List Sym) (args : List Tree) (i : ℕ) (done : Binding) → length ss ≤ i → behind done (paired (drop i ss) (drop i args)) ≡ Some done
pairs_end ss args i done all = ap (λ ts. behind done (paired ts (drop i args))) (drop_all i ss all) ∙ ap Some (append-nil done)

pub ruleset pair_steps = (tree_steps, behind_nothing, pairs_none, pairs_end)

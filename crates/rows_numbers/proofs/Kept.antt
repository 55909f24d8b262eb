-- The best of the integers up to a place.
use Rattle.std.proofs.Common.{◌≡◌, refl, ap, sym, ◌∙◌, Bool, true, false, ℤ, List, [], ◌∷◌, ◌++◌, Option, Some, None}
use Rattle.std.specs.Option.{option_map}
use Rattle.expr_tree.specs.Tree.{Tree, Trees, cons}
use Rattle.expr_tree.proofs.Callers.{tree_steps}
use Rattle.semantics.specs.Names.{Names}
use Rattle.semantics.specs.Numbers.{best, best_of, integers_in, all_integers}
use Rattle.semantics.specs.Worked.{Gives, Stays}
use Rattle.rows_numbers.specs.Better.{kept}

best_chosen : (test : ℤ → ℤ → Bool) (b : Bool) (k m : ℤ) (ms ns : List ℤ) → best test k (ms ++ ns) ≡ best test (best test k ms) ns → best test m (ms ++ ns) ≡ best test (best test m ms) ns
    → elim b [ true ↦ best test k (ms ++ ns) | false ↦ best test m (ms ++ ns) ] ≡ best test (elim b [ true ↦ best test k ms | false ↦ best test m ms ]) ns
best_chosen test true k m ms ns first second = first
best_chosen test false k m ms ns first second = second

best_more : (test : ℤ → ℤ → Bool) (m : ℤ) (ms ns : List ℤ) → best test m (ms ++ ns) ≡ best test (best test m ms) ns
best_more test m [] ns = refl
best_more test m (k ∷ ms) ns = best_chosen test (test k m) k m ms ns (best_more test k ms ns) (best_more test m ms ns)

kept_more : (test : ℤ → ℤ → Bool) (b : Option ℤ) (ms ns : List ℤ) → kept test b (ms ++ ns) ≡ kept test (kept test b ms) ns
kept_more test None [] ns = refl
kept_more test None (m ∷ ms) ns = ap Some (best_more test m ms ns)
kept_more test (Some b) ms ns = ap Some (best_more test b ms ns)

abbrev joined : Option (List ℤ) → Option (List ℤ) → Option (List ℤ)
joined o p = elim o [ None ↦ None | Some ms ↦ elim p [ None ↦ None | Some ns ↦ Some (ms ++ ns) ] ]

joined_some : (test : ℤ → ℤ → Bool) (b now : Option ℤ) (o p : Option (List ℤ)) → Some now ≡ option_map (kept test b) o → option_map (kept test now) p ≡ option_map (kept test b) (joined o p)
joined_some test b now None p e = cc
joined_some test b now (Some ms) None e = refl
joined_some test b now (Some ms) (Some ns) e = let is : now ≡ kept test b ms = cc in ap Some (ap (λ k. kept test k ns) is ∙ sym (kept_more test b ms ns))

joined_none : (test : ℤ → ℤ → Bool) (b : Option ℤ) (o p : Option (List ℤ)) → None ≡ option_map (kept test b) o → None ≡ option_map (kept test b) (joined o p)
joined_none test b None p e = refl
joined_none test b (Some ms) p e = cc

-- an element with integers, and the rest
pub kept_next : (names : Names) (test : ℤ → ℤ → Bool) (x : Tree) (es rest : Trees) (b now : Option ℤ) → es ≡ cons x rest → Some now ≡ option_map (kept test b) (integers_in names x)
    → option_map (kept test now) (all_integers names rest) ≡ option_map (kept test b) (all_integers names es)
kept_next names test x es rest b now first got = joined_some test b now (integers_in names x) (all_integers names rest) got ∙ ap (λ ts. option_map (kept test b) (all_integers names ts)) (sym first)

-- an element with something else
pub kept_lost : (names : Names) (test : ℤ → ℤ → Bool) (x : Tree) (es rest : Trees) (b : Option ℤ) → es ≡ cons x rest → None ≡ option_map (kept test b) (integers_in names x)
    → None ≡ option_map (kept test b) (all_integers names es)
kept_lost names test x es rest b first got = joined_none test b (integers_in names x) (all_integers names rest) got ∙ ap (λ ts. option_map (kept test b) (all_integers names ts)) (sym first)

pub first_kept : (test : ℤ → ℤ → Bool) (n : ℤ) (o : Option (List ℤ)) → Some (Some n) ≡ option_map (kept test None) o → best_of test o ≡ Gives (Tree.integer n)
first_kept test n None e = cc
first_kept test n (Some []) e = cc
first_kept test n (Some (m ∷ ms)) e = let is : n ≡ best test m ms = cc in ap (λ k. Gives (Tree.integer k)) (sym is)

pub none_kept : (test : ℤ → ℤ → Bool) (o : Option (List ℤ)) → Some None ≡ option_map (kept test None) o → best_of test o ≡ Stays
none_kept test None e = cc
none_kept test (Some []) e = refl
none_kept test (Some (m ∷ ms)) e = cc

pub lost_kept : (test : ℤ → ℤ → Bool) (o : Option (List ℤ)) → None ≡ option_map (kept test None) o → best_of test o ≡ Stays
lost_kept test None e = refl
lost_kept test (Some ms) e = cc

pub ruleset kept_steps = (tree_steps, kept_next, kept_lost)

pub ruleset extreme_steps = (first_kept, none_kept, lost_kept)

-- A set in order, to which a symbol is added where it is not in it.
use Rattle.std.proofs.Common.{rules, ◌≡◌, refl, sym, ap, subst, ◌∙◌, Bool, true, false, List, [], ◌∷◌, ◌++◌, true≢false}
use Rattle.std.specs.Prelude.{◌||◌, not}
use Rattle.std.specs.declared.cmp.Ordering.{Ordering}
use Rattle.std.specs.declared.cmp.Ordering.TheVariants.{Less, Equal, Greater}
use Rattle.std.specs.Ordering.{is_eq, match_ordering}
use Rattle.std.specs.List.{list_any}
use Rattle.std.specs.BTreeMap.{is_at}
use Rattle.std.specs.BTreeSet.{insert_key}
use Rattle.expr_tree.specs.declared.sym.Sym.{Sym}
use Rattle.expr_tree.specs.Order.{symbol_cmp}
use Rattle.expr_tree.specs.Same.{symbol_eq}
use Rattle.expr_tree.specs.Substitution.{among}
use Rattle.journal.specs.Closure.{put_symbol}
use Rattle.laws_journal.proofs.Tables.{is_not, equal_symbols, is_equal, same_symbol-eq, same_symbol-self}
use Rattle.dist_bundle.specs.Search.{Search, added}
use Rattle.dist_bundle.proofs.Least.{same_truth}

keys_put : (s : Sym) (keys : List Sym) → insert_key symbol_cmp keys s ≡ put_symbol s keys
keys_put s [] = refl
keys_put s (t ∷ ts) = go (symbol_cmp s t) (keys_put s ts)
  where
    go : (o : Ordering) → insert_key symbol_cmp ts s ≡ put_symbol s ts
        → match_ordering o (s ∷ t ∷ ts) (t ∷ ts) (t ∷ insert_key symbol_cmp ts s) ≡ elim o [ Less ↦ s ∷ t ∷ ts | Equal ↦ t ∷ ts | Greater ↦ t ∷ put_symbol s ts ]
    go Less later = refl
    go Equal later = refl
    go Greater later = ap (λ ss. t ∷ ss) later

equal_self : (s : Sym) → is_eq (symbol_cmp s s) ≡ true
equal_self s = search rules

same_test : (s t : Sym) → is_eq (symbol_cmp s t) ≡ symbol_eq s t
same_test s t =
    same_truth (is_eq (symbol_cmp s t)) (symbol_eq s t)
    (λ e. subst (λ x. symbol_eq s x ≡ true) (equal_symbols s t (is_equal (symbol_cmp s t) e)) (same_symbol-self s))
    (λ e. subst (λ x. is_eq (symbol_cmp s x) ≡ true) (same_symbol-eq s t e) (equal_self s))

has_among : (s : Sym) (keys : List Sym) → list_any (is_at (symbol_cmp s)) keys ≡ among s keys
has_among s [] = refl
has_among s (t ∷ ts) = λ i. same_test s t i || has_among s ts i

not_in : (s : Sym) (keys : List Sym) (b : Bool) → b ≡ not (list_any (is_at (symbol_cmp s)) keys) → b ≡ not (among s keys)
not_in s keys b e = e ∙ ap not (has_among s keys)

negated : (a : Bool) → not a ≡ false → a ≡ true
negated true e = refl
negated false e = absurd (true≢false e)

pub add_new : (s : Sym) (x : Search) (keys new_keys waiting new_waiting : List Sym) (table b : Bool)
    → record { symbols = keys; waiting = waiting; table = table } ≡ x
    → b ≡ not (list_any (is_at (symbol_cmp s)) keys)
    → b ≡ true
    → new_keys ≡ insert_key symbol_cmp keys s
    → new_waiting ≡ waiting ++ s ∷ []
    → record { symbols = new_keys; waiting = new_waiting; table = table } ≡ added s x
add_new s x keys new_keys waiting new_waiting table b is test new put pushed =
    let here : Search = record { symbols = keys; waiting = waiting; table = table } in
    let more : Search = record { symbols = put_symbol s keys; waiting = waiting ++ s ∷ []; table = table } in
    let absent : among s keys ≡ false = is_not (among s keys) (sym (not_in s keys b test) ∙ new) in
    let made : record { symbols = new_keys; waiting = new_waiting; table = table } ≡ more = λ i. record { symbols = (put ∙ keys_put s keys) i; waiting = pushed i; table = table } in
    let chosen : more ≡ added s here = sym (ap (λ t. elim t as (λ _. Search) [ true ↦ here | false ↦ more ]) absent) in
    made ∙ chosen ∙ ap (added s) is

pub add_old : (s : Sym) (x : Search) (keys new_keys waiting : List Sym) (table b : Bool)
    → record { symbols = keys; waiting = waiting; table = table } ≡ x
    → b ≡ not (list_any (is_at (symbol_cmp s)) keys)
    → b ≡ false
    → new_keys ≡ keys
    → record { symbols = new_keys; waiting = waiting; table = table } ≡ added s x
add_old s x keys new_keys waiting table b is test old same =
    let here : Search = record { symbols = keys; waiting = waiting; table = table } in
    let more : Search = record { symbols = put_symbol s keys; waiting = waiting ++ s ∷ []; table = table } in
    let present : among s keys ≡ true = negated (among s keys) (sym (not_in s keys b test) ∙ old) in
    let made : record { symbols = new_keys; waiting = waiting; table = table } ≡ here = λ i. record { symbols = same i; waiting = waiting; table = table } in
    let chosen : here ≡ added s here = sym (ap (λ t. elim t as (λ _. Search) [ true ↦ here | false ↦ more ]) present) in
    made ∙ chosen ∙ ap (added s) is

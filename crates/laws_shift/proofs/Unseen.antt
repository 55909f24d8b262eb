-- What has no number from a bound on is its own shift: so only generated names differ from a greater module number.
use Rattle.std.proofs.Common.{◌≡◌, refl, sym, ap, subst, ◌∙◌, ℕ, ◌+◌, Bool, true, false, cond, ltb, List, [], ◌∷◌, map, Option, Some, None, true≢false, le_refl}
use Rattle.std.specs.Prelude.{◌&&◌}
use Rattle.expr_tree.specs.declared.sym.Sym.{Sym}
use Rattle.expr_tree.specs.Tree.{Tree, integer, string, symbol, normal, Trees, nil, cons}
use Rattle.semantics.specs.Rule.{Rule}
use Rattle.semantics.specs.Definitions.{Definition, Definitions, Shared}
use Rattle.semantics.specs.Play.{Value}
use Rattle.semantics.specs.Eval.{Ended, Evaluation, eval}
use Rattle.laws_relations.specs.Order.{shifted_symbol}
use Rattle.laws_shift.specs.Shift.{shift, shift_items, shift_value, shift_rule, shift_entry, shift_shared, shift_definitions, shift_outcome, shift_evaluation, below, items_below, value_below, rules_below, entries_below, shared_below, named_below, definitions_below, with_number, DiffersInNames, AnyModuleNumber}
use Rattle.laws_shift.proofs.Kept.{shifted_names}

both : (a b : Bool) → (a && b) ≡ true → (a ≡ true) × (b ≡ true)
both true b e = (refl, e)
both false b e = absurd (true≢false (sym e))

module _ (from by : ℕ) where
  pub symbol-stays : (s : Sym) → ltb s.number from ≡ true → shifted_symbol from by s ≡ s
  symbol-stays s e = λ i. record { base = s.base; number = cond (e i) s.number (s.number + by) }

  mutual
    pub tree-stays : (e : Tree) → below from e ≡ true → shift from by e ≡ e
    tree-stays (integer n) e = refl
    tree-stays (string t) e = refl
    tree-stays (symbol s) e = ap symbol (symbol-stays s e)
    tree-stays (normal h es) e = let two = both (below from h) (items_below from es) e in λ i. normal (tree-stays h two.0 i) (items-stay es two.1 i)

    items-stay : (es : Trees) → items_below from es ≡ true → shift_items from by es ≡ es
    items-stay nil e = refl
    items-stay (cons x xs) e = let two = both (below from x) (items_below from xs) e in λ i. cons (tree-stays x two.0 i) (items-stay xs two.1 i)

  pub value-stays : (o : Option Tree) → value_below from o ≡ true → shift_value from by o ≡ o
  value-stays None e = refl
  value-stays (Some v) e = ap Some (tree-stays v e)

  pub rules-stay : (rs : List Rule) → rules_below from rs ≡ true → map (shift_rule from by) rs ≡ rs
  rules-stay [] e = refl
  rules-stay (r ∷ rs) e =
      let two = both (below from r.left && below from r.right) (rules_below from rs) e in
      let one = both (below from r.left) (below from r.right) two.0 in
      λ i. record { left = tree-stays r.left one.0 i; right = tree-stays r.right one.1 i } ∷ rules-stay rs two.1 i

  entries-stay : (es : List (Sym × Definition)) → entries_below from es ≡ true → map (shift_entry from by) es ≡ es
  entries-stay [] e = refl
  entries-stay (x ∷ xs) e =
      let rest = both (ltb x.0.number from && value_below from x.1.own && rules_below from x.1.downs && rules_below from x.1.ups) (entries_below from xs) e in
      let ups = both (ltb x.0.number from && value_below from x.1.own && rules_below from x.1.downs) (rules_below from x.1.ups) rest.0 in
      let downs = both (ltb x.0.number from && value_below from x.1.own) (rules_below from x.1.downs) ups.0 in
      let own = both (ltb x.0.number from) (value_below from x.1.own) downs.0 in
      λ i. (
        symbol-stays x.0 own.0 i,
        record { attributes = x.1.attributes; own = value-stays x.1.own own.1 i; downs = rules-stay x.1.downs downs.1 i; ups = rules-stay x.1.ups ups.1 i },
      ) ∷ entries-stay xs rest.1 i

  pub shared-stay : (es : List Shared) → shared_below from es ≡ true → map (shift_shared from by) es ≡ es
  shared-stay [] e = refl
  shared-stay (x ∷ xs) e =
      let two = both (ltb x.symbol.number from) (shared_below from xs) e in
      λ i. record { symbol = symbol-stays x.symbol two.0 i; kind = x.kind; attributes = x.attributes } ∷ shared-stay xs two.1 i

  named-stay : (ss : List Sym) → named_below from ss ≡ true → map (shifted_symbol from by) ss ≡ ss
  named-stay [] e = refl
  named-stay (s ∷ ss) e = let two = both (ltb s.number from) (named_below from ss) e in λ i. symbol-stays s two.0 i ∷ named-stay ss two.1 i

  definitions-stay : (d : Definitions) → definitions_below from d ≡ true → shift_definitions from by d ≡ with_number (d.module_number + by) d
  definitions-stay d e =
      let last = both (entries_below from d.entries && shared_below from d.shared) (named_below from d.named) e in
      let first = both (entries_below from d.entries) (shared_below from d.shared) last.0 in
      λ i. record {
        entries = entries-stay d.entries first.0 i;
        shared = shared-stay d.shared first.1 i;
        named = named-stay d.named last.1 i;
        module_number = d.module_number + by;
      }

  differs : (a b : Evaluation) → b ≡ shift_evaluation from by a → DiffersInNames from by a b
  differs a b e =
      record {
        shifted = e;
        same_value = λ v plain ends. ap (λ r. r.outcome) e ∙ (ap (shift_outcome from by) ends ∙ ap (λ w. Ended (Value w)) (tree-stays v plain));
      }

pub any_module_number : AnyModuleNumber
any_module_number set by d e events positive known plain room free =
    let from : ℕ = d.module_number in
    differs from by (eval set d e events) (eval set (with_number (d.module_number + by) d) e events)
    (subst (λ c. eval set c e events ≡ shift_evaluation from by (eval set d e events)) (definitions-stay from by d known)
    (subst (λ x. eval set (shift_definitions from by d) x events ≡ shift_evaluation from by (eval set d e events)) (tree-stays from by e plain)
    (shifted_names set from by d e events positive (le_refl d.module_number) room free)))

-- The law of shifted names and the frame law together.
use Rattle.std.proofs.Common.{◌≡◌, refl, sym, ap, subst, ◌∙◌, ℕ, ◌+◌, ◌<◌, true, false, List, [], ◌∷◌, ◌++◌, Option, Some, None, le_refl, lt-ltb}
use Rattle.std.specs.Prelude.{◌&&◌, ◌||◌, is_some}
use Rattle.expr_tree.proofs.Same.{symbol_eq-Decides}
use Rattle.expr_tree.specs.declared.sym.Sym.{Sym}
use Rattle.expr_tree.specs.Tree.{Tree, integer, string, symbol, normal, Trees, nil, cons}
use Rattle.expr_tree.specs.Substitution.{among}
use Rattle.semantics.specs.Names.{IsNames}
use Rattle.semantics.specs.Rule.{Rule}
use Rattle.semantics.specs.Definitions.{Definition, Definitions, shared_as, stored}
use Rattle.semantics.specs.Play.{Setting, Value, last_number}
use Rattle.semantics.specs.Eval.{Event, Ended, eval}
use Rattle.journal.specs.Closure.{symbols_of, symbols_of_items, symbols_of_own, symbols_of_rules, symbols_of_definition, is_shared}
use Rattle.laws_closure.specs.Frame.{IsClosed, AgreeOn, Members, StandsIn}
use Rattle.laws_closure.proofs.Framed.{AllAmong, among_left, among_right, framed}
use Rattle.laws_relations.proofs.Shift.{shift_is_faithful}
use Rattle.laws_relations.proofs.States.{stored-like}
use Rattle.laws_shift.specs.Shift.{shift_definition, shift_definitions, shift_outcome, shift_evaluation, below, items_below, value_below, rules_below, shared_below, with_number}
use Rattle.laws_shift.specs.Carried.{NoneToCome, SameButForNames, CarriedOver}
use Rattle.laws_shift.proofs.Shifting.{S, symbol-shifts, definitions-shift, definition-is}
use Rattle.laws_shift.proofs.Kept.{shifted_names}
use Rattle.laws_shift.proofs.Unseen.{symbol-stays, tree-stays, value-stays, rules-stay, shared-stay}

-- ---- where all symbols of a set have small numbers

module _ (n : ℕ) where
  abbrev Small : Sym → Type 0
  Small s = s.number < n

  first : (ss ts : List Sym) → AllAmong Small (ss ++ ts) → AllAmong Small ss
  first ss ts all s e = all s (among_left s ss ts e)

  second : (ss ts : List Sym) → AllAmong Small (ss ++ ts) → AllAmong Small ts
  second ss ts all s e = all s (among_right s ss ts e)

  mutual
    tree-below : (e : Tree) → AllAmong Small (symbols_of e) → below n e ≡ true
    tree-below (integer i) all = refl
    tree-below (string t) all = refl
    tree-below (symbol s) all = lt-ltb s.number n (all s (ap (λ b. b || false) ((symbol_eq-Decides s s).1 refl)))
    tree-below (normal h es) all = λ i. tree-below h (first (symbols_of h) (symbols_of_items es) all) i && items-below es (second (symbols_of h) (symbols_of_items es) all) i

    items-below : (es : Trees) → AllAmong Small (symbols_of_items es) → items_below n es ≡ true
    items-below nil all = refl
    items-below (cons e es) all = λ i. tree-below e (first (symbols_of e) (symbols_of_items es) all) i && items-below es (second (symbols_of e) (symbols_of_items es) all) i

  value-below : (o : Option Tree) → AllAmong Small (symbols_of_own o) → value_below n o ≡ true
  value-below None all = refl
  value-below (Some v) all = tree-below v all

  rules-below : (rs : List Rule) → AllAmong Small (symbols_of_rules rs) → rules_below n rs ≡ true
  rules-below [] all = refl
  rules-below (r ∷ rs) all =
      let rest = second (symbols_of r.left) (symbols_of r.right ++ symbols_of_rules rs) all in
      λ i. tree-below r.left (first (symbols_of r.left) (symbols_of r.right ++ symbols_of_rules rs) all) i && tree-below r.right (first (symbols_of r.right) (symbols_of_rules rs) rest) i
      && rules-below rs (second (symbols_of r.right) (symbols_of_rules rs) rest) i

  definition-stays : (by : ℕ) (x : Definition) → AllAmong Small (symbols_of_definition x) → shift_definition n by x ≡ x
  definition-stays by x all =
      let rest = second (symbols_of_own x.own) (symbols_of_rules x.downs ++ symbols_of_rules x.ups) all in
      λ i. record {
        attributes = x.attributes;
        own = value-stays n by x.own (value-below x.own (first (symbols_of_own x.own) (symbols_of_rules x.downs ++ symbols_of_rules x.ups) all)) i;
        downs = rules-stay n by x.downs (rules-below x.downs (first (symbols_of_rules x.downs) (symbols_of_rules x.ups) rest)) i;
        ups = rules-stay n by x.ups (rules-below x.ups (second (symbols_of_rules x.downs) (symbols_of_rules x.ups) rest)) i;
      }

-- ---- the shifted definitions agree with d on the set

module _ (set : Setting) (C : Sym → Type 0) (by : ℕ) (d c : Definitions) (closed : IsClosed set.names d C) (agree : AgreeOn set.names C (with_number (d.module_number + by) d) c)
    (small : NoneToCome C d) (shared : shared_below d.module_number d.shared ≡ true) (positive : 0 < d.module_number) where
  abbrev from : ℕ
  from = d.module_number

  abbrev moved : Definitions
  moved = shift_definitions from by d

  shared-same : moved.shared ≡ d.shared
  shared-same = shared-stay from by d.shared shared

  unshared : (s : Sym) → is_shared moved s ≡ false → is_shared d s ≡ false
  unshared s free = subst (λ l. is_some (shared_as l s) ≡ false) shared-same free

  definition-same : (s : Sym) → C s → is_shared d s ≡ false → stored set.names moved s ≡ stored set.names d s
  definition-same s s_in free =
      subst (λ t. stored set.names moved t ≡ stored set.names d s) (symbol-stays from by s (lt-ltb s.number from (small s s_in)))
      (definition-is from by (stored-like (S from by) set.names (shift_is_faithful from by set.names positive) (definitions-shift from by d) (symbol-shifts from by s))
      ∙ definition-stays from by (stored set.names d s) (λ t e. small t (closed.followed s t s_in free e)))

  closed-moved : IsClosed set.names moved C
  closed-moved =
      record {
        followed = λ s t s_in free e. closed.followed s t s_in (unshared s free)
            (subst (λ x. among t (symbols_of_definition x) ≡ true) (definition-same s s_in (unshared s free)) e);
        table = closed.table;
      }

  agree-moved : AgreeOn set.names C moved c
  agree-moved =
      record {
        shared = shared-same ∙ agree.shared;
        number = agree.number;
        same = λ s s_in free. definition-same s s_in (unshared s free) ∙ agree.same s s_in (unshared s free);
      }

  pub carried : IsNames set.names → (e : Tree) (events : List Event) → StandsIn C e → (eval set d e events).definitions.module_number + by < last_number
      → (eval set d e events).used ≡ false → SameButForNames from by events (eval set d e events) (eval set c e events)
  carried is e events stands room free =
      let plain : below from e ≡ true = tree-below from e (λ s x. small s (stands s x)) in
      let goes : eval set moved e events ≡ shift_evaluation from by (eval set d e events) =
      subst (λ x. eval set moved x events ≡ shift_evaluation from by (eval set d e events)) (tree-stays from by e plain)
      (shifted_names set from by d e events positive (le_refl d.module_number) room free) in
      let unused : (eval set moved e events).used ≡ false = ap (λ r. r.used) goes ∙ free in
      let went = framed set is C moved c closed-moved agree-moved e events stands (ap (λ b. b && (eval set c e events).used) unused) in
      let ends : (eval set c e events).outcome ≡ shift_outcome from by (eval set d e events).outcome = went.second ∙ (sym went.first ∙ ap (λ r. r.outcome) goes) in
      record {
        outcome = ends;
        same_value = λ v known is_value. ends ∙ (ap (shift_outcome from by) is_value ∙ ap (λ w. Ended (Value w)) (tree-stays from by v known));
        steps = sym went.steps ∙ ap (λ r. r.steps) goes;
        number = sym went.after.number ∙ ap (λ r. r.definitions.module_number) goes;
        used = sym went.used ∙ unused;
        no_call = went.no_call.1;
      }

pub carried_over : CarriedOver
carried_over set is C by d c closed agree small shared e events stands positive room free =
    carried set (Members C) by d c closed agree small shared positive is e events stands room free

-- Where no name of a row stands by which there may be a throw, evaluations keep to the symbols without such names, so each number has its step.
use Rattle.std.proofs.Common.{◌≡◌, refl, sym, subst, ◌<◌, arith, Bool, true, false, List, [], ◌∷◌, ◌++◌, Option, Some, None, true≢false}
use Rattle.std.specs.Prelude.{◌&&◌, ◌||◌, not}
use Rattle.expr_tree.proofs.Same.{symbol_eq-Decides}
use Rattle.expr_tree.specs.declared.sym.Sym.{Sym}
use Rattle.expr_tree.specs.Tree.{Tree}
use Rattle.expr_tree.specs.Order.{same_symbol}
use Rattle.expr_tree.specs.Substitution.{among}
use Rattle.semantics.specs.Names.{Names, IsNames, role_of}
use Rattle.semantics.specs.Definitions.{Definition, Definitions, look_up, stored, first_definition}
use Rattle.semantics.specs.Play.{Setting, whole, begun}
use Rattle.semantics.specs.Eval.{eval}
use Rattle.journal.specs.Closure.{symbols_of, symbols_of_own, symbols_of_rules, symbols_of_definition}
use Rattle.journal.specs.Quiet.{symbols_of_entries}
use Rattle.laws_closure.specs.Throws.{role_throws, none_throws}
use Rattle.laws_closure.proofs.Programs.{DefinedIn}
use Rattle.laws_closure.proofs.Framed.{AllAmong, first_part, second_part, stands_in, own_stands, rules_stand}
use Rattle.laws_numbers.specs.Bound.{NumbersPaid}
use Rattle.laws_numbers.proofs.Calm.{calm, without_throws}
use Rattle.laws_numbers.proofs.Paying.{Keeps, Bounded, bounded_over, eval_pays}

module _ (names : Names) where
  abbrev Spared : Sym → Type 0
  Spared s = role_throws (role_of names s) ≡ false

  is_false : (b c : Bool) → (not b && c) ≡ true → (b ≡ false) × (c ≡ true)
  is_false true c e = absurd (true≢false (sym e))
  is_false false c e = (refl, e)

  spared : (ss : List Sym) → none_throws names ss ≡ true → AllAmong Spared ss
  spared [] all s e = absurd (true≢false (sym e))
  spared (t ∷ ss) all s e =
      let two = is_false (role_throws (role_of names t)) (none_throws names ss) all in go (same_symbol s t) refl e two.0 (spared ss two.1 s)
    where
      go : (b : Bool) → same_symbol s t ≡ b → (b || among s ss) ≡ true → Spared t → (among s ss ≡ true → Spared s) → Spared s
      go true is h one rest = subst Spared (sym ((symbol_eq-Decides s t).0 is)) one
      go false is h one rest = rest h

  abbrev found : Sym → Option Definition → Definition
  found s o = elim o [ None ↦ first_definition names s | Some x ↦ x ]

  -- what is stored for a symbol stands in an entry
  stored_spared : (es : List (Sym × Definition)) (s : Sym) → AllAmong Spared (symbols_of_entries es)
      → AllAmong Spared (symbols_of_definition (found s (look_up es s)))
  stored_spared [] s all = λ t e. absurd (true≢false (sym e))
  stored_spared (x ∷ es) s all =
      go (same_symbol x.0 s) (first_part Spared (symbols_of_definition x.1) (symbols_of_entries es) all)
      (stored_spared es s (second_part Spared (symbols_of_definition x.1) (symbols_of_entries es) all))
    where
      go : (b : Bool) → AllAmong Spared (symbols_of_definition x.1) → AllAmong Spared (symbols_of_definition (found s (look_up es s)))
          → AllAmong Spared (symbols_of_definition (found s (elim b [ true ↦ Some x.1 | false ↦ look_up es s ])))
      go true one rest = one
      go false one rest = rest

  defined_spared : (is : IsNames names) (x : Definition) → AllAmong Spared (symbols_of_definition x) → DefinedIn (calm names (without_throws names is)) tt x
  defined_spared is x all =
      let rest = second_part Spared (symbols_of_own x.own) (symbols_of_rules x.downs ++ symbols_of_rules x.ups) all in
      record {
        own = own_stands Spared x.own (first_part Spared (symbols_of_own x.own) (symbols_of_rules x.downs ++ symbols_of_rules x.ups) all);
        downs = rules_stand Spared x.downs (first_part Spared (symbols_of_rules x.downs) (symbols_of_rules x.ups) rest);
        ups = rules_stand Spared x.ups (second_part Spared (symbols_of_rules x.downs) (symbols_of_rules x.ups) rest);
      }

module _ (set : Setting) (is : IsNames set.names) (d : Definitions) (e : Tree) (started : 0 < d.module_number)
    (all : none_throws set.names (symbols_of e ++ symbols_of_entries d.entries) ≡ true) where
  both_spared : AllAmong (Spared set.names) (symbols_of e ++ symbols_of_entries d.entries)
  both_spared = spared set.names (symbols_of e ++ symbols_of_entries d.entries) all

  keeps : Keeps 1 set (without_throws set.names is) d.shared d
  keeps =
      record {
        agree = record {
          first = refl;
          second = refl;
          number = refl;
          same = λ x x_in free. refl;
          closed = λ x x_in free. defined_spared set.names is (stored set.names d x)
              (stored_spared set.names d.entries x (second_part (Spared set.names) (symbols_of e) (symbols_of_entries d.entries) both_spared));
        };
        start = omega (arith, started);
      }

  pays : Bounded 1 set (without_throws set.names is) d e (whole set d e)
  pays =
      eval_pays 1 set (without_throws set.names is) d.shared set.limits.recursion (λ free. elim free [ ]) (λ le. omega arith) e (begun d)
      (stands_in (Spared set.names) e (first_part (Spared set.names) (symbols_of e) (symbols_of_entries d.entries) both_spared), keeps)

pub numbers_paid : NumbersPaid
unfolding eval
numbers_paid set is d e events started all free =
    let bound = (bounded_over 1 set (without_throws set.names is) d e (whole set d e) events free (pays set is d e started all)).1 in omega (arith, bound)

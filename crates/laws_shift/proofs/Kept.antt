-- The law of shifted names: the simulation for the relation "shifted", with the numbers that can be taken as its bound.
use Rattle.std.proofs.Common.{◌≡◌, refl, sym, ap, subst, ◌∙◌, ℕ, ◌+◌, ◌≤◌, ◌<◌, arith, Bool, true, false, ltb, List, true≢false, ltb-true, ltb-false, ne_eqb, lt_irrefl}
use Rattle.std.specs.Prelude.{◌==◌}
use Rattle.expr_tree.specs.declared.sym.Sym.{Sym}
use Rattle.expr_tree.specs.Tree.{Tree}
use Rattle.semantics.specs.Definitions.{Definitions}
use Rattle.semantics.specs.Scoping.{renamed}
use Rattle.semantics.specs.Play.{Setting, State, Value, Throwing, Thrown, Play, Over, Calls, first_cause, last_number, whole, begun}
use Rattle.semantics.specs.Eval.{Event, Ended, over, eval}
use Rattle.laws_relations.proofs.Beyond.{Past, Beyond, put_number, back_number}
use Rattle.laws_relations.proofs.Relation.{Faithful, size-like, depth-like, same-like}
use Rattle.laws_relations.proofs.Simulation.{Numbered, evenly, past, Ends, value, stopped, throwing, thrown, quit, Quietly, quiet, used, beyond, Related, eval_at-alike}
use Rattle.laws_relations.proofs.Kin.{Kin}
use Rattle.laws_relations.proofs.Passes.{pass-both}
use Rattle.laws_relations.proofs.States.{LikeState, seen-like, written-like, put_locals-like, put_back-like}
use Rattle.laws_relations.proofs.Shift.{shifted_above, shift_is_faithful}
use Rattle.laws_numbers.proofs.Paying.{Alone, at_end, with_use, whole_alone, used_over}
use Rattle.laws_shift.specs.Shift.{shift, shift_definitions, shift_outcome, shift_evaluation, ShiftedNames}
use Rattle.laws_shift.proofs.Shifting.{S, shifts, definitions-shift, tree-is, definitions-are}

module _ (set : Setting) (from by bound : ℕ) (plain : 0 < from) (room : bound + by ≤ last_number) where
  -- a module number and the one that is shifted
  abbrev N : ℕ → ℕ → Type 0
  N m n = (n ≡ m + by) × (from ≤ m)

  abbrev States : State → State → Type 0
  States = LikeState (S from by) N set.limits.steps

  faithful : Faithful (S from by) set.names
  faithful = shift_is_faithful from by set.names plain

  base-same : (s t : Sym) → S from by s t → s.base ≡ t.base
  base-same s t e = sym (ap (λ x. x.base) e)

  number-shifts : (m n : ℕ) → N m n → (s t : Sym) → S from by s t → S from by (renamed m s) (renamed n t)
  number-shifts m n numbers s t e = λ i. record { base = ap (λ x. x.base) e i; number = (numbers.0 ∙ sym (shifted_above from by m numbers.1)) i }

  abbrev kin : Kin
  kin =
      record {
        Symbols = S from by;
        Numbers = N;
        States = States;
        bound = bound;
        most_steps = set.limits.steps;
        names = set.names;
        faithful = faithful;
        bases = base-same;
        renames = number-shifts;
        Outward = ⊥;
        Texts = λ t u. Unit {0};
      }

  not_last : (n : ℕ) → n < last_number → (n == last_number) ≡ false
  not_last n less = ne_eqb n last_number (λ e. lt_irrefl last_number (subst (λ k. k < last_number) e less))

  number-ends : (s t : State) → States s t → Numbered kin s t
  number-ends s t states = go (ltb s.definitions.module_number bound) refl
    where
      go : (b : Bool) → ltb s.definitions.module_number bound ≡ b → Numbered kin s t
      go true e =
          evenly (not_last _ (omega (arith, ltb-true s.definitions.module_number bound e, room))
          ∙ sym (not_last _ (omega (arith, ltb-true s.definitions.module_number bound e, room, states.number.0))))
      go false e = past (ltb-false s.definitions.module_number bound e, states.within)

  number-next : (m n : ℕ) → N m n → N (m + 1) (n + 1)
  number-next m n numbers = (omega (arith, numbers.0), omega (arith, numbers.1))

  number-stays : (m m' n n' : ℕ) → m' ≡ m → n' ≡ n → N m n → N m' n'
  number-stays m m' n n' e f numbers = (omega (arith, e, f, numbers.0), omega (arith, e, numbers.1))

  related : Related kin set
  related =
      record {
        sizes = λ e f one i. first_cause (ltb set.limits.size (size-like (S from by) one i)) (ltb set.limits.depth (depth-like (S from by) one i));
        sames = λ e f v x one same. same-like (S from by) set.names faithful same one;
        steps = λ s t states. states.steps;
        limited = refl;
        quietly = λ outward. outward;
        step = λ s t states left. record {
          definitions = states.definitions;
          number = states.number;
          steps = ap (λ n. n + 1) states.steps;
          within = omega (arith, ltb-true s.steps set.limits.steps left);
          used = states.used;
        };
        looks = λ s t a b states one. seen-like (S from by) set.names faithful states.definitions one;
        puts = λ s t a b d c states one defined. record {
          definitions = written-like (S from by) set.names faithful states.definitions one defined;
          number = states.number;
          steps = states.steps;
          within = states.within;
          used = states.used;
        };
        locals = λ s t ls ms states locals. record {
          definitions = put_locals-like (S from by) set.names faithful locals states.definitions;
          number = number-stays _ _ _ _ (put_number bound set.limits.steps set.names ls s.definitions) (put_number bound set.limits.steps set.names ms t.definitions) states.number;
          steps = states.steps;
          within = states.within;
          used = states.used;
        };
        backs = λ s t s' t' ls ms states after locals. record {
          definitions = put_back-like (S from by) set.names faithful locals states.definitions after.definitions;
          number = number-stays _ _ _ _ (back_number bound set.limits.steps set.names s.definitions ls s'.definitions)
              (back_number bound set.limits.steps set.names t.definitions ms t'.definitions) after.number;
          steps = after.steps;
          within = after.within;
          used = after.used;
        };
        numbers_last = λ s t states. number-ends s t states;
        takes = λ s t states. (
          states.number,
          record {
            definitions = record { entries = states.definitions.entries; shared = states.definitions.shared; named = states.definitions.named };
            number = number-next _ _ states.number;
            steps = states.steps;
            within = states.within;
            used = states.used;
          },
        );
        passed = λ e f one. pass-both kin e f one;
      }

  -- ---- the two results

  ends-shift : {o p : _} → Ends kin o p → Ended p ≡ shift_outcome from by (Ended o)
  ends-shift (value v) = λ i. Ended (Value (tree-is from by v i))
  ends-shift stopped = refl
  ends-shift (throwing v) = λ i. Ended (Throwing (tree-is from by v i))
  ends-shift (thrown v) = λ i. Ended (Thrown (tree-is from by v i))
  ends-shift quit = refl

  -- what is past the bound, where a play has ended
  abbrev PastIn : Play → Type 0
  PastIn (Over o s) = Past bound set.limits.steps s
  PastIn (Calls c s k) = Unit {0}

  past_in : {p : Play} → Beyond bound set.limits.steps p → PastIn p
  past_in (Beyond.over h) = h
  past_in Beyond.calls = tt

  -- an evaluation that ends below the bound was never there
  never_past : {p : Play} (events : List Event) → (over p events).definitions.module_number < bound → Alone p → PastIn p → (over p events).used ≡ false → ⊥
  never_past events small at_end far free = omega (arith, far.0, small)
  never_past events small (with_use h) far free = true≢false (sym (used_over h events) ∙ free)

  results-shift : (d : Definitions) (e : Tree) {p q : Play} (events : List Event) → (over p events).definitions.module_number < bound
      → Alone p → (over p events).used ≡ false → Quietly kin p q
      → over q events ≡ shift_evaluation from by (over p events)
  results-shift d e events small ensured free (quiet {s = s} {t = t} ends states) =
      λ i. record {
        outcome = ends-shift ends i;
        definitions = definitions-are from by s.definitions t.definitions states.definitions states.number.0 i;
        steps = sym states.steps i;
        used = sym states.used i;
        rest = events;
      }
  results-shift d e events small ensured free (used h) = absurd (true≢false (sym (used_over h events) ∙ free))
  results-shift d e {p} events small ensured free (beyond h) = absurd (never_past events small ensured (past_in h) free)

pub shifted_names : ShiftedNames
unfolding eval
shifted_names set from by d e events plain below room free =
    let bound : ℕ = (over (whole set d e) events).definitions.module_number + 1 in
    let enough : bound + by ≤ last_number = omega (arith, room) in
    results-shift set from by bound plain enough d e events (omega arith) (whole_alone set d e) free
    (eval_at-alike (kin set from by bound plain enough) set (related set from by bound plain enough) set.limits.recursion e (shift from by e) (begun d) (begun (shift_definitions from by d))
    (shifts from by e)
    (record { definitions = definitions-shift from by d; number = (refl, below); steps = refl; within = omega arith; used = refl }))

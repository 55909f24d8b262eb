-- The law of the frame: a closed set with what Module makes is a set that evaluations keep to.
use Rattle.std.proofs.Common.{ℕ, suc, ◌<◌, ◌≤◌, inl, inr, arith, le_refl, ◌≡◌, refl, sym, ap, subst, ◌∙◌, Bool, true, false, List, [], ◌∷◌, ◌++◌, Option, Some, None, true≢false, eqb-true}
use Rattle.std.specs.Prelude.{◌&&◌, ◌||◌, ◌==◌, ◌⊎◌}
use Rattle.expr_tree.proofs.Same.{symbol_eq-Decides}
use Rattle.expr_tree.specs.declared.sym.Sym.{Sym}
use Rattle.expr_tree.specs.Tree.{Tree, integer, string, symbol, normal, Trees, nil, cons}
use Rattle.expr_tree.specs.Order.{same_symbol}
use Rattle.expr_tree.specs.Substitution.{among}
use Rattle.semantics.specs.declared.builtin.Builtin.{Builtin}
use Rattle.semantics.specs.Names.{Names, IsNames, known, is_known, role_of}
use Rattle.semantics.specs.Rule.{Rule}
use Rattle.semantics.specs.Definitions.{Definition, Definitions, Shared, shared_as, stored}
use Rattle.semantics.specs.Play.{Setting, State, End, Play, Over, whole, begun}
use Rattle.semantics.specs.Eval.{Event, Evaluation, if_matched, over, eval, same_call}
use Rattle.journal.specs.Places.{is_some}
use Rattle.journal.specs.Closure.{symbols_of, symbols_of_items, symbols_of_own, symbols_of_rules, symbols_of_definition, is_row, is_shared}
use Rattle.laws_language.proofs.Modes.{Used, ended, called}
use Rattle.laws_relations.proofs.Beyond.{Beyond}
use Rattle.laws_closure.specs.Frame.{IsClosed, AgreeOn, StandsIn, WentAlike, Members, Frame}
use Rattle.laws_closure.proofs.Inside.{Each, Opt, In, Ins}
use Rattle.laws_closure.proofs.Programs.{Origin, before, new, Realm, DefinedIn, grows}
use Rattle.laws_closure.proofs.Agreeing.{Agree, Outside}
use Rattle.laws_closure.proofs.Following.{Follows, quiet, used, taken, eval_at_follows}

-- ---- members of lists of symbols

same_itself : (s : Sym) → same_symbol s s ≡ true
same_itself s = (symbol_eq-Decides s s).1 refl

or_left : (a b : Bool) → a ≡ true → (a || b) ≡ true
or_left true b e = refl
or_left false b e = absurd (true≢false (sym e))

or_right : (a b : Bool) → b ≡ true → (a || b) ≡ true
or_right true b e = refl
or_right false b e = e

among_first : (s : Sym) (ss : List Sym) → among s (s ∷ ss) ≡ true
among_first s ss = or_left (same_symbol s s) (among s ss) (same_itself s)

pub among_left : (s : Sym) (ss ts : List Sym) → among s ss ≡ true → among s (ss ++ ts) ≡ true
among_left s [] ts e = absurd (true≢false (sym e))
among_left s (x ∷ ss) ts e = go (same_symbol s x) refl e (among_left s ss ts)
  where
    go : (b : Bool) → same_symbol s x ≡ b → (b || among s ss) ≡ true → (among s ss ≡ true → among s (ss ++ ts) ≡ true) → (same_symbol s x || among s (ss ++ ts)) ≡ true
    go true is e rest = or_left (same_symbol s x) (among s (ss ++ ts)) is
    go false is e rest = or_right (same_symbol s x) (among s (ss ++ ts)) (rest e)

pub among_right : (s : Sym) (ss ts : List Sym) → among s ts ≡ true → among s (ss ++ ts) ≡ true
among_right s [] ts e = e
among_right s (x ∷ ss) ts e = or_right (same_symbol s x) (among s (ss ++ ts)) (among_right s ss ts e)

-- what stands in a set, in parts
abbrev pub AllAmong : (Sym → Type 0) → List Sym → Type 0
AllAmong C ss = (s : Sym) → among s ss ≡ true → C s

pub first_part : (C : Sym → Type 0) (ss ts : List Sym) → AllAmong C (ss ++ ts) → AllAmong C ss
first_part C ss ts all s e = all s (among_left s ss ts e)

pub second_part : (C : Sym → Type 0) (ss ts : List Sym) → AllAmong C (ss ++ ts) → AllAmong C ts
second_part C ss ts all s e = all s (among_right s ss ts e)

mutual
  pub stands_in : (C : Sym → Type 0) (e : Tree) → AllAmong C (symbols_of e) → In C e
  stands_in C (integer n) all = tt
  stands_in C (string t) all = tt
  stands_in C (symbol s) all = all s (among_first s [])
  stands_in C (normal h es) all =
      (stands_in C h (first_part C (symbols_of h) (symbols_of_items es) all), all_stand_in C es (second_part C (symbols_of h) (symbols_of_items es) all))

  all_stand_in : (C : Sym → Type 0) (es : Trees) → AllAmong C (symbols_of_items es) → Ins C es
  all_stand_in C nil all = tt
  all_stand_in C (cons e es) all =
      (stands_in C e (first_part C (symbols_of e) (symbols_of_items es) all), all_stand_in C es (second_part C (symbols_of e) (symbols_of_items es) all))

pub own_stands : (C : Sym → Type 0) (o : Option Tree) → AllAmong C (symbols_of_own o) → Opt (In C) o
own_stands C None all = tt
own_stands C (Some e) all = stands_in C e all

pub rules_stand : (C : Sym → Type 0) (rs : List Rule) → AllAmong C (symbols_of_rules rs) → Each (λ r. In C r.left × In C r.right) rs
rules_stand C [] all = tt
rules_stand C (r ∷ rs) all =
    let rest = second_part C (symbols_of r.left) (symbols_of r.right ++ symbols_of_rules rs) all in (
      (stands_in C r.left (first_part C (symbols_of r.left) (symbols_of r.right ++ symbols_of_rules rs) all), stands_in C r.right (first_part C (symbols_of r.right) (symbols_of_rules rs) rest)),
      rules_stand C rs (second_part C (symbols_of r.right) (symbols_of_rules rs) rest),
    )

-- ---- the sets

is_row-known : (names : Names) → IsNames names → (r : Builtin) → is_row names (known names r) ≡ true
is_row-known names is r = ap is_some (is.found r)

both_true : (a b : Bool) → (a && b) ≡ true → (a ≡ true) × (b ≡ true)
both_true true b e = (refl, e)
both_true false b e = absurd (true≢false (sym e))

known_is : (names : Names) (r : Builtin) (s : Sym) → is_known names r s ≡ true → s ≡ known names r
known_is names r s e =
    let two = both_true (s.number == 0) (s.base == names.place r) e in
    λ i. record { base = eqb-true s.base (names.place r) two.1 i; number = eqb-true s.number 0 two.0 i }

module _ (names : Names) (is : IsNames names) (C : Sym → Type 0) (closed : (s t : Sym) → C s → is_row names s ≡ true → is_row names t ≡ true → C t) (first : ℕ) where
  abbrev WholeTable : Type 0
  WholeTable = (r : Builtin) → C (known names r)

  -- the set, and what was made: members of it, or symbols with the first number or a later one
  data Extension : Type 0 where
    start : Extension
    also : (w : Extension) (s : Sym) → WholeTable → Origin (C s) (first ≤ s.number) → Extension

  abbrev Inhabits : Extension → Sym → Type 0
  Inhabits start s = C s
  Inhabits (also w a t o) s = Origin (Inhabits w s) (s ≡ a)

  inhabits_from : (w : Extension) (s : Sym) → Inhabits w s → Origin (C s) (first ≤ s.number)
  inhabits_from start s s_in = before s_in
  inhabits_from (also w a t o) s (before s_in) = inhabits_from w s s_in
  inhabits_from (also w a t o) s (new is) = subst (λ x. Origin (C x) (first ≤ x.number)) (sym is) o

  comes_from : (w : Extension) (s : Sym) → Origin (Inhabits w s) (first ≤ s.number) → Origin (C s) (first ≤ s.number)
  comes_from w s (before s_in) = inhabits_from w s s_in
  comes_from w s (new le) = new le

  whole_table : (s : Sym) → C s → is_row names s ≡ true → WholeTable
  whole_table s s_in e r = closed s (known names r) s_in e (is_row-known names is r)

  knows_table : (w : Extension) → WholeTable → (r : Builtin) → Inhabits w (known names r)
  knows_table start t r = t r
  knows_table (also w a u o) t r = before (knows_table w t r)

  tabled_by : (w : Extension) (r : Builtin) (s : Sym) → Inhabits w s → is_known names r s ≡ true → WholeTable
  tabled_by start r s s_in e = whole_table s s_in (ap (is_row names) (known_is names r s e) ∙ is_row-known names is r)
  tabled_by (also w a t o) r s s_in e = t

  role_tabled : (w : Extension) (r : Builtin) (s : Sym) → Inhabits w s → role_of names s ≡ Some r → WholeTable
  role_tabled start r s s_in e = whole_table s s_in (ap is_some e)
  role_tabled (also w a t o) r s s_in e = t

  abbrev realm : Realm
  realm =
      record {
        names = names;
        first_number = first;
        World = Extension;
        Member = Inhabits;
        Table = WholeTable;
        Numbered = λ w. Unit {0};
        Throwing = Unit {0};
        knows = λ w t r _. knows_table w t r;
        knows_any = λ _ w t r. knows_table w t r;
        throwing = λ w r s s_in is _. tt;
        tabled = tabled_by;
        has_role = role_tabled;
        extended = λ w s t o. also w s t (comes_from w s o);
        kept = λ w s t o x x_in. before x_in;
        added = λ w s t o. new refl;
        only = λ w s t o x x_in. x_in;
      }

  defined_at : (d : Definition) → AllAmong C (symbols_of_definition d) → DefinedIn realm start d
  defined_at d all =
      let rest = second_part C (symbols_of_own d.own) (symbols_of_rules d.downs ++ symbols_of_rules d.ups) all in
      record {
        own = own_stands C d.own (first_part C (symbols_of_own d.own) (symbols_of_rules d.downs ++ symbols_of_rules d.ups) all);
        downs = rules_stand C d.downs (first_part C (symbols_of_rules d.downs) (symbols_of_rules d.ups) rest);
        ups = rules_stand C d.ups (second_part C (symbols_of_rules d.downs) (symbols_of_rules d.ups) rest);
      }

  unshared : (d : Definitions) (s : Sym) → shared_as d.shared s ≡ None → is_shared d s ≡ false
  unshared d s e = ap is_some e

  from_unshared : (o : Option Shared) → is_some o ≡ false → o ≡ None
  from_unshared None e = refl
  from_unshared (Some a) e = absurd (true≢false e)

  agree_at : (d c : Definitions) → IsClosed names d C → AgreeOn names C d c → Agree realm d.shared start d c
  agree_at d c close one =
      record {
        first = refl;
        second = sym one.shared;
        number = one.number;
        same = λ s s_in free. one.same s s_in (unshared d s free);
        closed = λ s s_in free. defined_at (stored names d s) (λ t. close.followed s t s_in (unshared d s free));
      }

  agree_after : (shared : List Shared) (w : Extension) → grows realm start w → (d c : Definitions) → Agree realm shared w d c → AgreeOn names C d c
  agree_after shared w g d c one =
      record {
        shared = one.first ∙ sym one.second;
        number = one.number;
        same = λ s s_in free. one.same s (g s s_in) (ap (λ l. shared_as l s) (sym one.first) ∙ from_unshared (shared_as d.shared s) free);
      }
  -- ---- along a list

used_over : {p : Play} → Used p → (events : List Event) → (over p events).used ≡ true
used_over (ended h) events = h
used_over (called h next) [] = h
used_over (called {c = c} {s = s} {k = k} h next) (a ∷ rest) = go (same_call a.call c) (used_over (next a.reply a.after) rest)
  where
    go : (b : Bool) → (over (k a.reply a.after) rest).used ≡ true → (if_matched b s a rest (over (k a.reply a.after) rest)).used ≡ true
    go true later = later
    go false later = h

module _ (names : Names) (is : IsNames names) (C : Sym → Type 0) (closed : (s t : Sym) → C s → is_row names s ≡ true → is_row names t ≡ true → C t) where
  -- what is not in the set, and has a number before the first, is as it was
  untouched_at : (first : ℕ) (shared : List Shared) (d after : Definitions) (w : Extension names is C closed first) → Outside (realm names is C closed first) shared d w after
      → (s : Sym) → (C s → ⊥) → s.number < first → stored names after s ≡ stored names d s
  untouched_at first shared d after w out s apart less = go (out s)
    where
      not_made : Origin (C s) (first ≤ s.number) → ⊥
      not_made (before s_in) = apart s_in
      not_made (new le) = omega (arith, le, less)

      go : Origin (Inhabits names is C closed first w s) (stored names after s ≡ stored names d s) → stored names after s ≡ stored names d s
      go (before s_in) = absurd (not_made (inhabits_from names is C closed first w s s_in))
      go (new e) = e

  module _ (set : Setting) (d c : Definitions) where
    -- numbers from `first` on may be taken, or none where `narrow` holds
    abbrev Following : ℕ → Type 0 → Play → Play → Type 0
    Following first narrow = Follows (realm names is C closed first) (λ x. tt) d.shared set.shown set.mode set.kernel set.limits narrow d.module_number d c start

    -- with no number taken, also a symbol with a later number is as it was
    unchanged_at : (x : Sym) (o r : End) (s t : State) → Following (suc x.number) (Unit {0}) (Over o s) (Over r t) → s.used ≡ false → s.definitions.module_number ≡ d.module_number → (C x → ⊥)
        → (stored names s.definitions x ≡ stored names d x) × (stored names t.definitions x ≡ stored names c x)
    unchanged_at x o r s t (quiet u g end states) free same apart = (
      untouched_at (suc x.number) d.shared d s.definitions u states.outside.0 x apart (omega arith),
      untouched_at (suc x.number) d.shared c t.definitions u states.outside.1 x apart (omega arith),
    )
    unchanged_at x o r s t (used (ended h)) free same apart = absurd (true≢false (sym h ∙ free))
    unchanged_at x o r s t (taken narrow (Beyond.over h)) free same apart = let far = h.0 in absurd (omega (arith, far, same))

    alike_over : d.module_number ≡ c.module_number → (p q : Play) (events : List Event) → (over p events).used ≡ false → Following d.module_number ⊥ p q
        → ((x : Sym) → Following (suc x.number) (Unit {0}) p q) → WentAlike names C d c events (over p events) (over q events)
    alike_over same p q events free (quiet {o = o} {s = s} {t = t} u g end states) narrowly =
        record {
          end = o;
          first = refl;
          second = refl;
          steps = states.steps;
          used = states.used;
          no_call = (refl, refl);
          after = agree_after names is C closed d.module_number d.shared u g s.definitions t.definitions states.definitions;
          untouched = (
            λ x apart less. untouched_at d.module_number d.shared d s.definitions u states.outside.0 x apart less,
            λ x apart less. untouched_at d.module_number d.shared c t.definitions u states.outside.1 x apart (omega (arith, less, same)),
          );
          unchanged = λ number. (
            λ x apart. (unchanged_at x o o s t (narrowly x) free number apart).0,
            λ x apart. (unchanged_at x o o s t (narrowly x) free number apart).1,
          );
        }
    alike_over same p q events free (used h) narrowly = absurd (true≢false (sym (used_over h events) ∙ free))
    alike_over same p q events free (taken narrow h) narrowly = absurd narrow

one_way : (set : Setting) → IsNames set.names → (C : Sym → Type 0) (d c : Definitions) → IsClosed set.names d C → AgreeOn set.names C d c
    → (e : Tree) (events : List Event) → StandsIn C e → (eval set d e events).used ≡ false
    → WentAlike set.names C d c events (eval set d e events) (eval set c e events)
unfolding eval
one_way set is C d c close one e events stands free =
    alike_over set.names is C close.table set d c one.number (whole set d e) (whole set c e) events free
    (follows d.module_number ⊥ (inl (le_refl d.module_number))) (λ x. follows (suc x.number) (Unit {0}) (inr (tt, refl)))
  where
    follows : (first : ℕ) (narrow : Type 0) → (first ≤ d.module_number) ⊎ (narrow × (d.module_number ≡ d.module_number))
        → Following set.names is C close.table set d c first narrow (whole set d e) (whole set c e)
    follows first narrow begins =
        eval_at_follows (realm set.names is C close.table first) (λ x. tt) d.shared set.shown set.mode set.kernel set.limits narrow d.module_number d c set.limits.recursion start e (begun d) (begun c)
        (stands_in C e stands)
        (record {
          definitions = agree_at set.names is C close.table first d c close one;
          steps = refl;
          used = refl;
          start = begins;
          within = omega arith;
          outside = (λ x. new refl, λ x. new refl);
        })

-- ---- the other way round

shared_same : (names : Names) (C : Sym → Type 0) (d c : Definitions) → AgreeOn names C d c → (s : Sym) → is_shared c s ≡ false → is_shared d s ≡ false
shared_same names C d c one s free = ap (λ l. is_some (shared_as l s)) one.shared ∙ free

turned : (names : Names) (C : Sym → Type 0) (d c : Definitions) → AgreeOn names C d c → AgreeOn names C c d
turned names C d c one =
    record { shared = sym one.shared; number = sym one.number; same = λ s s_in free. sym (one.same s s_in (shared_same names C d c one s free)) }

closed_turned : (names : Names) (C : Sym → Type 0) (d c : Definitions) → IsClosed names d C → AgreeOn names C d c → IsClosed names c C
closed_turned names C d c close one =
    record {
      followed = λ s t s_in free e.
          close.followed s t s_in (shared_same names C d c one s free) (subst (λ x. among t (symbols_of_definition x) ≡ true) (sym (one.same s s_in (shared_same names C d c one s free))) e);
      table = close.table;
    }

went_turned : (names : Names) (C : Sym → Type 0) (d c : Definitions) → AgreeOn names C d c → (events : List Event) (a b : Evaluation) → WentAlike names C d c events a b → WentAlike names C c d events b a
went_turned names C d c one events a b went =
    record {
      end = went.end;
      first = went.second;
      second = went.first;
      steps = sym went.steps;
      used = sym went.used;
      no_call = (went.no_call.1, went.no_call.0);
      after = turned names C a.definitions b.definitions went.after;
      untouched = (went.untouched.1, went.untouched.0);
      unchanged = λ number. let both = went.unchanged (went.after.number ∙ (number ∙ sym one.number)) in (both.1, both.0);
    }

pub framed : (set : Setting) → IsNames set.names → (C : Sym → Type 0) (d c : Definitions) → IsClosed set.names d C → AgreeOn set.names C d c
    → (e : Tree) (events : List Event) → StandsIn C e → ((eval set d e events).used && (eval set c e events).used) ≡ false
    → WentAlike set.names C d c events (eval set d e events) (eval set c e events)
framed set is C d c close one e events stands free = go (eval set d e events).used (eval set c e events).used refl refl free
  where
    go : (a b : Bool) → (eval set d e events).used ≡ a → (eval set c e events).used ≡ b → (a && b) ≡ false → WentAlike set.names C d c events (eval set d e events) (eval set c e events)
    go false b x y free = one_way set is C d c close one e events stands x
    go true false x y free =
        went_turned set.names C c d (turned set.names C d c one) events (eval set c e events) (eval set d e events)
        (one_way set is C c d (closed_turned set.names C d c close one) (turned set.names C d c one) e events stands y)
    go true true x y free = absurd (true≢false free)

pub frame : Frame
frame set is C d c close one e events stands free = framed set is (Members C) d c close one e events stands free

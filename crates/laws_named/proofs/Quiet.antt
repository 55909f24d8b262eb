-- The list of a closure's members says of each what its definition says: numbers that are below a bound.
use Rattle.std.proofs.Common.{◌≡◌, refl, sym, subst, ℕ, ◌≤◌, ◌<◌, arith, Bool, true, false, ltb, List, [], ◌∷◌, ◌++◌, map, None, true≢false, ltb-true, lt-ltb, eqb-true, Option, Some}
use Rattle.std.specs.Prelude.{◌&&◌, ◌||◌, ◌==◌, not, ◌+◌}
use Rattle.std.specs.declared.cmp.Ordering.{Ordering}
use Rattle.std.specs.declared.cmp.Ordering.TheVariants.{Less, Equal, Greater}
use Rattle.expr_tree.proofs.Same.{symbol_eq-Decides}
use Rattle.expr_tree.specs.declared.sym.Sym.{Sym}
use Rattle.expr_tree.specs.Tree.{Tree, integer, string, symbol, normal, Trees, nil, cons}
use Rattle.expr_tree.specs.Order.{symbol_cmp, same_symbol}
use Rattle.expr_tree.specs.Substitution.{among}
use Rattle.semantics.specs.Builtin.{rows}
use Rattle.semantics.specs.Names.{Names, known, role_of}
use Rattle.journal.specs.Places.{is_some}
use Rattle.journal.specs.Closure.{symbols_of, symbols_of_items, is_row, Reach, reaches, put_symbol, put_symbols, closure, members}
use Rattle.journal.specs.Quiet.{all_before, bare, by_itself, rows_for_names, is_for_names, all_for_names, symbols_of_entries}
use Rattle.laws_journal.proofs.Closed.{complete_closure}
use Rattle.laws_shift.specs.Shift.{below, items_below}
use Rattle.semantics.specs.declared.builtin.Builtin.{Builtin}
use Rattle.semantics.specs.Definitions.{has}
use Rattle.semantics.specs.Program.{Mode}
use Rattle.semantics.specs.Play.{last_number}
use Rattle.journal.specs.Core.{in_mode}
use Rattle.laws_closure.specs.Throws.{may_throw, role_throws, none_throws}
use Rattle.laws_numbers.specs.Bound.{going_on}
use Rattle.laws_numbers.proofs.Paying.{steps_bounded}
use Rattle.laws_numbers.proofs.Paid.{numbers_paid}
use Rattle.laws_named.specs.Named.{QuietGivesNone, NamedAnywhere, QuietNumbersPaid}
use Rattle.laws_named.proofs.Named.{in_any_mode}

both : (a b : Bool) → (a && b) ≡ true → (a ≡ true) × (b ≡ true)
both true b e = (refl, e)
both false b e = absurd (true≢false (sym e))

-- ---- the symbols of an expression

module _ (m : ℕ) where
  first_part : (ss ts : List Sym) → all_before m (ss ++ ts) ≡ true → all_before m ss ≡ true
  first_part [] ts e = refl
  first_part (s ∷ ss) ts e = let two = both (ltb s.number m) (all_before m (ss ++ ts)) e in λ i. two.0 i && first_part ss ts two.1 i

  second_part : (ss ts : List Sym) → all_before m (ss ++ ts) ≡ true → all_before m ts ≡ true
  second_part [] ts e = e
  second_part (s ∷ ss) ts e = second_part ss ts (both (ltb s.number m) (all_before m (ss ++ ts)) e).1

  among_before : (s : Sym) (ss : List Sym) → all_before m ss ≡ true → among s ss ≡ true → s.number < m
  among_before s [] all e = absurd (true≢false (sym e))
  among_before s (t ∷ ss) all e = let two = both (ltb t.number m) (all_before m ss) all in go (same_symbol s t) refl e (ltb-true t.number m two.0) (among_before s ss two.1)
    where
      go : (b : Bool) → same_symbol s t ≡ b → (b || among s ss) ≡ true → t.number < m → (among s ss ≡ true → s.number < m) → s.number < m
      go true is h one rest = subst (λ x. x.number < m) (sym ((symbol_eq-Decides s t).0 is)) one
      go false is h one rest = rest h

module _ (m n : ℕ) (le : m ≤ n) where
  mutual
    tree_below : (e : Tree) → all_before m (symbols_of e) ≡ true → below n e ≡ true
    tree_below (integer i) e = refl
    tree_below (string t) e = refl
    tree_below (symbol s) e = let one = ltb-true s.number m (both (ltb s.number m) true e).0 in lt-ltb s.number n (omega (arith, one, le))
    tree_below (normal h es) e = λ i. tree_below h (first_part m (symbols_of h) (symbols_of_items es) e) i && all_below es (second_part m (symbols_of h) (symbols_of_items es) e) i

    all_below : (es : Trees) → all_before m (symbols_of_items es) ≡ true → items_below n es ≡ true
    all_below nil e = refl
    all_below (cons x xs) e = λ i. tree_below x (first_part m (symbols_of x) (symbols_of_items xs) e) i && all_below xs (second_part m (symbols_of x) (symbols_of_items xs) e) i

-- ---- the members of a closure

module _ (m : ℕ) where
  put_before : (s : Sym) (set : List Sym) → all_before m (put_symbol s set) ≡ true → all_before m set ≡ true
  put_before s [] e = refl
  put_before s (t ∷ ts) e = go (symbol_cmp s t) e (put_before s ts)
    where
      go : (o : Ordering) → all_before m (elim o [ Less ↦ s ∷ t ∷ ts | Equal ↦ t ∷ ts | Greater ↦ t ∷ put_symbol s ts ]) ≡ true
          → (all_before m (put_symbol s ts) ≡ true → all_before m ts ≡ true) → all_before m (t ∷ ts) ≡ true
      go Less h rest = (both (ltb s.number m) (all_before m (t ∷ ts)) h).1
      go Equal h rest = h
      go Greater h rest = let two = both (ltb t.number m) (all_before m (put_symbol s ts)) h in λ i. two.0 i && rest two.1 i

  puts_before : (ss set : List Sym) → all_before m (put_symbols ss set) ≡ true → all_before m set ≡ true
  puts_before [] set e = e
  puts_before (s ∷ ss) set e = put_before s set (puts_before ss (put_symbol s set) e)

  -- a name of the table has no number
  row_before : (names : Names) (s : Sym) → 0 < m → is_row names s ≡ true → s.number < m
  row_before names s positive e = go (s.number == 0) refl e
    where
      go : (b : Bool) → (s.number == 0) ≡ b → is_some (elim b [ true ↦ names.role s.base | false ↦ None ]) ≡ true → s.number < m
      go true is h = subst (λ n. n < m) (sym (eqb-true s.number 0 is)) positive
      go false is h = absurd (true≢false (sym h))

  member_before : (names : Names) (r : Reach) (s : Sym) → 0 < m → all_before m (members names r) ≡ true → reaches names r s ≡ true → s.number < m
  member_before names r s positive all e = by_list (among s r.symbols) refl e
    where
      listed : (b : Bool) → all_before m (elim b [ true ↦ put_symbols (map (known names) rows) r.symbols | false ↦ r.symbols ]) ≡ true → all_before m r.symbols ≡ true
      listed true h = puts_before (map (known names) rows) r.symbols h
      listed false h = h

      by_list : (b : Bool) → among s r.symbols ≡ b → elim b [ true ↦ true | false ↦ r.table && is_row names s ] ≡ true → s.number < m
      by_list true is h = among_before m s r.symbols (listed r.table all) is
      by_list false is h = row_before names s positive (both r.table (is_row names s) h).1

-- ---- the list of names has none by which there may be a throw

spared_row : (row : Builtin) → has row rows_for_names ≡ true → may_throw row ≡ false
spared_row Builtin.Throw e = absurd (true≢false (sym e))
spared_row Builtin.Catch e = absurd (true≢false (sym e))
spared_row Builtin.Attributes e = absurd (true≢false (sym e))
spared_row _ e = refl

spared_role : (o : Option Builtin) → is_for_names o ≡ true → role_throws o ≡ false
spared_role None e = refl
spared_role (Some row) e = spared_row row e

pub for_names_spared : (names : Names) (ss : List Sym) → all_for_names names ss ≡ true → none_throws names ss ≡ true
for_names_spared names [] e = refl
for_names_spared names (s ∷ ss) e =
    let two = both (is_for_names (role_of names s)) (all_for_names names ss) e in λ i. not (spared_role (role_of names s) two.0 i) && for_names_spared names ss two.1 i

-- ---- the laws

pub quiet_numbers_paid : QuietNumbersPaid
quiet_numbers_paid set is d started a quiet =
    let paid : (by_itself set d a).definitions.module_number ≤ d.module_number + ((by_itself set d a).steps + 0) =
    subst (λ o. (by_itself set d a).definitions.module_number ≤ d.module_number + ((by_itself set d a).steps + going_on set.limits.recursion o)) quiet.gives
    (numbers_paid (in_mode set Mode.Item 0) is (bare set d a) a [] started
    (for_names_spared set.names (symbols_of a ++ symbols_of_entries (bare set d a).entries) quiet.rows) quiet.unused) in
    omega (arith, paid)

pub quiet_gives_none : QuietGivesNone
quiet_gives_none set d numbered a quiet =
    let listed = second_part d.module_number (symbols_of a) (members set.names (closure set.names d (symbols_of a))) quiet.taken in
    record {
      one = record {
        value = quiet.value;
        gives = quiet.gives;
        unused = quiet.unused;
        plain = tree_below 1 d.module_number numbered.started quiet.value quiet.plain;
        none_to_come = λ s s_in.
            member_before d.module_number set.names (closure set.names d (symbols_of a)) s numbered.started listed (complete_closure set.names d (symbols_of a) s s_in);
      };
      same_value = refl;
    }

pub named_anywhere : NamedAnywhere
unfolding quiet_gives_none
named_anywhere set is d free numbered a quiet by c agree room mode kernel events =
    let paid = quiet_numbers_paid set is d numbered.started a quiet in
    let within = steps_bounded (in_mode set Mode.Item 0) (bare set d a) a [] quiet.unused in
    let enough : (by_itself set d a).definitions.module_number + by < last_number = omega (arith, paid, within, room) in
    in_any_mode set is d free a numbered (quiet_gives_none set d numbered a quiet).one by c agree enough mode kernel events

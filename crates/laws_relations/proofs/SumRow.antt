-- What the row Plus owes: on related items it gives related results.
use Rattle.std.proofs.Common.{◌≡◌, refl, ap, subst, List, ◌∷◌, Option}
use Rattle.std.specs.Prelude.{ℤ, pos, ◌+ℤ◌}
use Rattle.std.specs.Ordering.{int_eq}
use Rattle.expr_tree.specs.declared.sym.Sym.{Sym}
use Rattle.expr_tree.specs.Tree.{Tree}
use Rattle.semantics.specs.declared.builtin.Builtin.{Builtin}
use Rattle.semantics.specs.Names.{Names}
use Rattle.semantics.specs.Steps.{ordered}
use Rattle.semantics.specs.Worked.{Worked, Stays, Gives, TooWide, all_in_range}
use Rattle.semantics.specs.Numbers.{Part, add_part, Gathered, numbers_of, written, assembled, once, term_in, term, times, write_term, gather_sum, sum_of, plus}
use Rattle.laws_relations.proofs.Relate.{Opt, none, some, All, all_nil, all_cons, branch, case}
use Rattle.laws_relations.proofs.Relation.{Like, int, str, sym, node, LikeList, Faithful, same-like, is_call-like, items-like, make-like, ordered-like}

module _ (S : Sym → Sym → Type 0) where
  pub data LikeWorked : Worked → Worked → Type 0 where
    stays : LikeWorked Stays Stays
    gives : {e f : Tree} → Like S e f → LikeWorked (Gives e) (Gives f)
    too_wide : LikeWorked TooWide TooWide

  pub record LikePart (p q : Part) : Type 0 where
    pub number : p.number ≡ q.number
    pub rest : Like S p.rest q.rest

  pub record LikeGathered (g h : Gathered) : Type 0 where
    pub whole_part : g.whole_part ≡ h.whole_part
    pub parts : All LikePart g.parts h.parts

  pub numbers-like : {ps qs : List Part} → All LikePart ps qs → numbers_of ps ≡ numbers_of qs
  numbers-like all_nil = refl
  numbers-like (all_cons p ps) = rw (p.number, numbers-like ps) refl

  module _ (names : Names) (F : Faithful S names) where
    pub add_part-like : {p q : Part} {ps qs : List Part} → LikePart p q → All LikePart ps qs → All LikePart (add_part p ps) (add_part q qs)
    add_part-like p all_nil = all_cons p all_nil
    add_part-like p (all_cons q qs) =
        branch (All LikePart) (same-like S names F p.rest q.rest) (all_cons (record { number = rw (p.number, q.number) refl; rest = q.rest }) qs) (all_cons q (add_part-like p qs))

    pub written-like : (f : Part → Option Tree) → ((p q : Part) → LikePart p q → Opt (Like S) (f p) (f q)) → {ps qs : List Part} → All LikePart ps qs → LikeList S (written f ps) (written f qs)
    written-like f each all_nil = all_nil
    written-like f each (all_cons p ps) = case (LikeList S) (each _ _ p) (written-like f each ps) (λ a b one. all_cons one (written-like f each ps))

    pub assembled-like : (row : Builtin) (unit n : ℤ) {es fs : List Tree} → LikeList S es fs → Like S (assembled names row unit n es) (assembled names row unit n fs)
    assembled-like row unit n all_nil = int
    assembled-like row unit n (all_cons e all_nil) = branch (Like S) refl e (make-like S names F row (all_cons int (all_cons e all_nil)))
    assembled-like row unit n (all_cons e (all_cons f es)) =
        branch (Like S) refl (make-like S names F row (all_cons e (all_cons f es))) (make-like S names F row (all_cons int (all_cons e (all_cons f es))))

    pub once-like : {e f : Tree} → Like S e f → LikePart (once e) (once f)
    once-like e = record { number = refl; rest = e }

    term_in-like : {e f : Tree} {es fs : List Tree} → Like S e f → LikeList S es fs → LikePart (term_in names e es) (term_in names f fs)
    term_in-like e all_nil = once-like e
    term_in-like e (all_cons int all_nil) = once-like e
    term_in-like e (all_cons int (all_cons x all_nil)) = record { number = refl; rest = x }
    term_in-like e (all_cons int (all_cons x (all_cons y ys))) = record { number = refl; rest = make-like S names F Builtin.Times (all_cons x (all_cons y ys)) }
    term_in-like e (all_cons str l) = once-like e
    term_in-like e (all_cons (sym s) l) = once-like e
    term_in-like e (all_cons (node h es) l) = once-like e

    term-like : {e f : Tree} → Like S e f → LikePart (term names e) (term names f)
    term-like e = branch LikePart (is_call-like S names F Builtin.Times e) (term_in-like e (items-like S e)) (once-like e)

    times-like : (c : ℤ) {e f : Tree} → Like S e f → Like S (times names c e) (times names c f)
    times-like c e =
        branch (Like S) (is_call-like S names F Builtin.Times e) (make-like S names F Builtin.Times (all_cons int (items-like S e))) (make-like S names F Builtin.Times (all_cons int (all_cons e all_nil)))

    write_term-like : (p q : Part) → LikePart p q → Opt (Like S) (write_term names p) (write_term names q)
    write_term-like p q alike =
        branch (Opt (Like S)) (ap (λ n. int_eq n (pos 0)) alike.number) none
        (branch (Opt (Like S)) (ap (λ n. int_eq n (pos 1)) alike.number) (some alike.rest)
        (some (subst (λ c. Like S (times names p.number p.rest) (times names c q.rest)) alike.number (times-like p.number alike.rest))))

    gather_sum-like : {es fs : List Tree} (g h : Gathered) → LikeList S es fs → LikeGathered g h → LikeGathered (gather_sum names es g) (gather_sum names fs h)
    gather_sum-like g h all_nil both = both
    gather_sum-like g h (all_cons (int {n = n}) l) both = gather_sum-like _ _ l (record { whole_part = ap (λ m. m +ℤ n) both.whole_part; parts = both.parts })
    gather_sum-like g h (all_cons str l) both = gather_sum-like _ _ l (record { whole_part = both.whole_part; parts = add_part-like (term-like str) both.parts })
    gather_sum-like g h (all_cons (sym s) l) both = gather_sum-like _ _ l (record { whole_part = both.whole_part; parts = add_part-like (term-like (sym s)) both.parts })
    gather_sum-like g h (all_cons (node k ks) l) both = gather_sum-like _ _ l (record { whole_part = both.whole_part; parts = add_part-like (term-like (node k ks)) both.parts })

    pub same_range : (m n : ℤ) (ms ns : List ℤ) → m ≡ n → ms ≡ ns → all_in_range (m ∷ ms) ≡ all_in_range (n ∷ ns)
    same_range m n ms ns e f = rw (e, f) refl

    total-like : (g h : Gathered) → LikeGathered g h → LikeWorked (sum_of names g) (sum_of names h)
    total-like g h both =
        let terms : LikeList S (ordered (written (write_term names) g.parts)) (ordered (written (write_term names) h.parts)) =
        ordered-like S names F (written-like (write_term names) write_term-like both.parts) in
        branch LikeWorked (same_range g.whole_part h.whole_part (numbers_of g.parts) (numbers_of h.parts) both.whole_part (numbers-like both.parts))
        (gives (subst (λ n. Like S (assembled names Builtin.Plus (pos 0) g.whole_part (ordered (written (write_term names) g.parts))) (assembled names Builtin.Plus (pos 0) n (ordered (written (write_term names) h.parts)))) both.whole_part
        (assembled-like Builtin.Plus (pos 0) g.whole_part terms)))
        too_wide

    -- the sum of related items is related, or out of range for both
    pub plus-like : {es fs : List Tree} → LikeList S es fs → LikeWorked (plus names es) (plus names fs)
    plus-like l = total-like _ _ (gather_sum-like _ _ l (record { whole_part = refl; parts = all_nil }))

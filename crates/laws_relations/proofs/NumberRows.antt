-- What the rows of numbers, tests and strings owe: on related items they give related results.
use Rattle.std.proofs.Common.{◌≡◌, refl, ap, subst, ℕ, zero, suc, Bool, true, false, List, [], ◌∷◌, ◌++◌, map, Option, Some, None}
use Rattle.std.specs.Prelude.{◌^◌, neg_ℤ, ◌==◌, ltb, ◌-ℤ◌, nat_abs, ℤ, pos, negsuc, ◌*ℤ◌, ◌&&◌, not, chars, encode_utf8}
use Rattle.std.specs.Ordering.{int_eq}
use Rattle.expr_tree.specs.declared.sym.Sym.{Sym}
use Rattle.expr_tree.specs.Limits.{in_range}
use Rattle.expr_tree.specs.Tree.{Tree, integer, string, trees, Trees}
use Rattle.semantics.specs.declared.builtin.Builtin.{Builtin}
use Rattle.semantics.specs.Names.{Names, make, truth}
use Rattle.semantics.specs.Worked.{Worked, Stays, Gives, TooWide, gives_int}
use Rattle.semantics.specs.Numbers.{is_even, minus, subtract, divide, quotient_down, quotient, modulo, parity, absolute, sign, gcd_of, gcd, factorial, integers_in, all_integers, best_of, extreme}
use Rattle.semantics.specs.Tests.{all_same, stands_in, some_same, is_datum, all_data, neighbours_differ, equal, unequal, integers, chain, compared, negated, asked_of_one}
use Rattle.semantics.specs.Strings.{join_texts, string_join, string_length, characters, string_reverse}
use Rattle.laws_relations.proofs.Relate.{all_nil, all_cons, branch}
use Rattle.laws_relations.proofs.Relation.{Like, int, str, sym, node, Likes, ends, mores, LikeList, Faithful, name-like, make-like, same-like, is_name-like, packed-like}
use Rattle.semantics.specs.Steps.{ordered}
use Rattle.semantics.specs.Numbers.{Part, Gathered, numbers_of, written, assembled, factor_in, factor, write_factor, gather_product, product_of, product, int_power, integer_power, power_of, power}
use Rattle.laws_relations.proofs.Relate.{Opt, none, some}
use Rattle.laws_relations.proofs.Relation.{is_call-like, items-like, ordered-like}
use Rattle.laws_relations.proofs.SumRow.{LikePart, LikeGathered, numbers-like, add_part-like, written-like, assembled-like, once-like, same_range, LikeWorked, stays, gives, too_wide}

module _ (S : Sym → Sym → Type 0) where
  -- what depends on integers alone
  int-itself : (n : ℤ) → LikeWorked S (gives_int n) (gives_int n)
  int-itself n = go (in_range n)
    where
      go : (b : Bool) → LikeWorked S (elim b [ true ↦ Gives (integer n) | false ↦ TooWide ]) (elim b [ true ↦ Gives (integer n) | false ↦ TooWide ])
      go true = gives int
      go false = too_wide

  chosen : (b : Bool) {v w : Worked} → LikeWorked S v v → LikeWorked S w w → LikeWorked S (elim b [ true ↦ v | false ↦ w ]) (elim b [ true ↦ v | false ↦ w ])
  chosen true one other = one
  chosen false one other = other

  pub quotient-like : {es fs : List Tree} → LikeList S es fs → LikeWorked S (quotient es) (quotient fs)
  quotient-like (all_cons (int {n = n}) (all_cons (int {n = k}) all_nil)) = chosen (int_eq k (pos 0)) stays (int-itself (quotient_down n k))
  quotient-like _ = stays

  pub absolute-like : {es fs : List Tree} → LikeList S es fs → LikeWorked S (absolute es) (absolute fs)
  absolute-like (all_cons (int {n = n}) all_nil) = int-itself (pos (nat_abs n))
  absolute-like _ = stays

  pub sign-like : {es fs : List Tree} → LikeList S es fs → LikeWorked S (sign es) (sign fs)
  sign-like (all_cons (int {n = pos zero}) all_nil) = gives int
  sign-like (all_cons (int {n = pos (suc n)}) all_nil) = gives int
  sign-like (all_cons (int {n = negsuc n}) all_nil) = gives int
  sign-like _ = stays

  pub modulo-like : {es fs : List Tree} → LikeList S es fs → LikeWorked S (modulo es) (modulo fs)
  modulo-like (all_cons (int {n = n}) (all_cons (int {n = k}) all_nil)) = chosen (int_eq k (pos 0)) stays (int-itself (n -ℤ (k *ℤ quotient_down n k)))
  modulo-like _ = stays

  pub factorial-like : {es fs : List Tree} → LikeList S es fs → LikeWorked S (factorial es) (factorial fs)
  factorial-like (all_cons (int {n = pos n}) all_nil) = chosen (ltb 33 n) too_wide (gives int)
  factorial-like _ = stays

  gcd_of-like : {es fs : List Tree} (d : ℕ) → LikeList S es fs → LikeWorked S (gcd_of es d) (gcd_of fs d)
  gcd_of-like d all_nil = int-itself (pos d)
  gcd_of-like d (all_cons int l) = gcd_of-like _ l
  gcd_of-like _ _ = stays

  pub gcd-like : {es fs : List Tree} → LikeList S es fs → LikeWorked S (gcd es) (gcd fs)
  gcd-like l = gcd_of-like 0 l

  -- ---- strings

  join_texts-like : {es fs : List Tree} → LikeList S es fs → join_texts es ≡ join_texts fs
  join_texts-like (all_cons (str {t = t}) l) = ap (λ o. elim o [ None ↦ None | Some u ↦ Some (t ++ u) ]) (join_texts-like l)
  join_texts-like _ = refl

  joined-text : Option (List ℕ) → Worked
  joined-text o = elim o [ None ↦ Stays | Some t ↦ Gives (string t) ]

  text-itself : (o : Option (List ℕ)) → LikeWorked S (joined-text o) (joined-text o)
  unfolding joined-text
  text-itself None = stays
  text-itself (Some t) = gives str

  pub string_join-like : {es fs : List Tree} → LikeList S es fs → LikeWorked S (string_join es) (string_join fs)
  unfolding joined-text
  string_join-like {es} {fs} l = subst (λ o. LikeWorked S (joined-text (join_texts es)) (joined-text o)) (join_texts-like l) (text-itself (join_texts es))

  pub string_length-like : {es fs : List Tree} → LikeList S es fs → LikeWorked S (string_length es) (string_length fs)
  string_length-like (all_cons str all_nil) = gives int
  string_length-like _ = stays

  pub string_reverse-like : {es fs : List Tree} → LikeList S es fs → LikeWorked S (string_reverse es) (string_reverse fs)
  string_reverse-like (all_cons str all_nil) = gives str
  string_reverse-like _ = stays

  -- ---- tests

  is_datum-like : {e f : Tree} → Like S e f → is_datum e ≡ is_datum f
  is_datum-like int = refl
  is_datum-like _ = refl

  all_data-like : {es fs : List Tree} → LikeList S es fs → all_data es ≡ all_data fs
  all_data-like all_nil = refl
  all_data-like (all_cons e l) = rw (is_datum-like e, all_data-like l) refl

  integers-like : {es fs : List Tree} → LikeList S es fs → integers es ≡ integers fs
  integers-like (all_cons (int {n = n}) l) = ap (λ o. elim o [ None ↦ None | Some ns ↦ Some (n ∷ ns) ]) (integers-like l)
  integers-like _ = refl

  module _ (names : Names) (F : Faithful S names) where
    pub truth-like : {a b : Bool} → a ≡ b → Like S (truth names a) (truth names b)
    truth-like {a} e = subst (λ c. Like S (truth names a) (truth names c)) e (go a)
      where
        go : (c : Bool) → Like S (truth names c) (truth names c)
        go true = name-like S names F Builtin.True
        go false = name-like S names F Builtin.False

    pub minus-like : {es fs : List Tree} → LikeList S es fs → LikeWorked S (minus names es) (minus names fs)
    minus-like all_nil = stays
    minus-like (all_cons x all_nil) = gives (make-like S names F Builtin.Times (all_cons int (all_cons x all_nil)))
    minus-like (all_cons x (all_cons y l)) = stays

    pub subtract-like : {es fs : List Tree} → LikeList S es fs → LikeWorked S (subtract names es) (subtract names fs)
    subtract-like (all_cons a (all_cons b all_nil)) =
        gives (make-like S names F Builtin.Plus (all_cons a (all_cons (make-like S names F Builtin.Times (all_cons int (all_cons b all_nil))) all_nil)))
    subtract-like _ = stays

    pub divide-like : {es fs : List Tree} → LikeList S es fs → LikeWorked S (divide names es) (divide names fs)
    divide-like (all_cons a (all_cons b all_nil)) =
        gives (make-like S names F Builtin.Times (all_cons a (all_cons (make-like S names F Builtin.Power (all_cons b (all_cons int all_nil))) all_nil)))
    divide-like _ = stays

    all_same-like : {es fs : List Tree} → LikeList S es fs → all_same es ≡ all_same fs
    all_same-like all_nil = refl
    all_same-like (all_cons e all_nil) = refl
    all_same-like (all_cons e (all_cons f l)) = rw (same-like S names F e f, all_same-like (all_cons f l)) refl

    stands_in-like : {e f : Tree} {es fs : List Tree} → Like S e f → LikeList S es fs → stands_in e es ≡ stands_in f fs
    stands_in-like e all_nil = refl
    stands_in-like e (all_cons f l) = branch (◌≡◌ {A = Bool}) (same-like S names F e f) refl (stands_in-like e l)

    pub some_same-like : {es fs : List Tree} → LikeList S es fs → some_same es ≡ some_same fs
    some_same-like all_nil = refl
    some_same-like (all_cons e l) = rw (stands_in-like e l, some_same-like l) refl

    neighbours_differ-like : {es fs : List Tree} → LikeList S es fs → neighbours_differ es ≡ neighbours_differ fs
    neighbours_differ-like all_nil = refl
    neighbours_differ-like (all_cons e all_nil) = refl
    neighbours_differ-like (all_cons e (all_cons f l)) = rw (is_datum-like e, is_datum-like f, same-like S names F e f, neighbours_differ-like (all_cons f l)) refl

    pub equal-like : {es fs : List Tree} → LikeList S es fs → LikeWorked S (equal names es) (equal names fs)
    equal-like l =
        branch (LikeWorked S) (all_same-like l) (gives (truth-like {a = true} refl)) (branch (LikeWorked S) (neighbours_differ-like l) (gives (truth-like {a = false} refl)) stays)

    pub unequal-like : {es fs : List Tree} → LikeList S es fs → LikeWorked S (unequal names es) (unequal names fs)
    unequal-like l =
        branch (LikeWorked S) (some_same-like l) (gives (truth-like {a = false} refl)) (branch (LikeWorked S) (all_data-like l) (gives (truth-like {a = true} refl)) stays)

    pub same_q-like : {es fs : List Tree} → LikeList S es fs → LikeWorked S (Gives (truth names (all_same es))) (Gives (truth names (all_same fs)))
    same_q-like l = gives (truth-like (all_same-like l))

    pub asked_of_one-like : (holds : Tree → Bool) → ((e f : Tree) → Like S e f → holds e ≡ holds f) → {es fs : List Tree} → LikeList S es fs → LikeWorked S (asked_of_one names holds es) (asked_of_one names holds fs)
    asked_of_one-like holds one all_nil = stays
    asked_of_one-like holds one (all_cons e all_nil) = gives (truth-like (one _ _ e))
    asked_of_one-like holds one (all_cons e (all_cons f l)) = stays

    pub negated-like : {es fs : List Tree} → LikeList S es fs → LikeWorked S (negated names es) (negated names fs)
    negated-like all_nil = stays
    negated-like (all_cons e all_nil) =
        branch (LikeWorked S) (is_name-like S names F Builtin.True e) (gives (truth-like {a = false} refl)) (branch (LikeWorked S) (is_name-like S names F Builtin.False e) (gives (truth-like {a = true} refl)) stays)
    negated-like (all_cons e (all_cons f l)) = stays

    pub compared-like : (holds : ℤ → ℤ → Bool) {es fs : List Tree} → LikeList S es fs → LikeWorked S (compared names holds es) (compared names holds fs)
    compared-like holds {es} {fs} l = subst (λ o. LikeWorked S (compared names holds es) (elim o [ None ↦ Stays | Some ns ↦ Gives (truth names (chain holds ns)) ])) (integers-like l) (go (integers es))
      where
        go : (o : Option (List ℤ)) → LikeWorked S (elim o [ None ↦ Stays | Some ns ↦ Gives (truth names (chain holds ns)) ]) (elim o [ None ↦ Stays | Some ns ↦ Gives (truth names (chain holds ns)) ])
        go None = stays
        go (Some ns) = gives (truth-like {a = chain holds ns} refl)

    pub parity-like : (wanted : Bool) {es fs : List Tree} → LikeList S es fs → LikeWorked S (parity names wanted es) (parity names wanted fs)
    parity-like wanted (all_cons (int {n = n}) all_nil) = chosen (is_even (nat_abs n)) (gives (truth-like {a = wanted} refl)) (gives (truth-like {a = not wanted} refl))
    parity-like wanted (all_cons str all_nil) = gives (truth-like {a = false} refl)
    parity-like wanted (all_cons (sym s) all_nil) = gives (truth-like {a = false} refl)
    parity-like wanted (all_cons (node h es) all_nil) = gives (truth-like {a = false} refl)
    parity-like _ _ = stays

    texts-like : (cs : List ℕ) → LikeList S (map (λ c. string (encode_utf8 c)) cs) (map (λ c. string (encode_utf8 c)) cs)
    texts-like [] = all_nil
    texts-like (c ∷ cs) = all_cons str (texts-like cs)

    pub characters-like : {es fs : List Tree} → LikeList S es fs → LikeWorked S (characters names es) (characters names fs)
    characters-like (all_cons (str {t = t}) all_nil) = gives (make-like S names F Builtin.List (texts-like (chars t)))
    characters-like _ = stays

    mutual
      integers_in-like : {e f : Tree} → Like S e f → integers_in names e ≡ integers_in names f
      integers_in-like (node h es) = branch (◌≡◌ {A = Option (List ℤ)}) (is_name-like S names F Builtin.List h) (all_integers-like es) refl
      integers_in-like _ = refl

      all_integers-like : {es fs : Trees} → Likes S es fs → all_integers names es ≡ all_integers names fs
      all_integers-like ends = refl
      all_integers-like (mores e es) =
          λ i. elim (integers_in-like e i) [ None ↦ None | Some ms ↦ elim (all_integers-like es i) [ None ↦ None | Some ns ↦ Some (ms ++ ns) ] ]

    best-itself : (better : ℤ → ℤ → Bool) (o : Option (List ℤ)) → LikeWorked S (best_of better o) (best_of better o)
    best-itself better None = stays
    best-itself better (Some []) = stays
    best-itself better (Some (n ∷ ns)) = gives int

    pub extreme-like : (better : ℤ → ℤ → Bool) {es fs : List Tree} → LikeList S es fs → LikeWorked S (extreme names better es) (extreme names better fs)
    extreme-like better {es} {fs} l =
        subst (λ o. LikeWorked S (extreme names better es) (best_of better o)) (all_integers-like (packed-like S l)) (best-itself better (all_integers names (trees es)))

    -- ---- products and powers

    factor_in-like : {e f : Tree} {es fs : List Tree} → Like S e f → LikeList S es fs → LikePart S (factor_in e es) (factor_in f fs)
    factor_in-like e (all_cons b (all_cons int all_nil)) = record { number = refl; rest = b }
    factor_in-like e _ = once-like S names F e

    factor-like : {e f : Tree} → Like S e f → LikePart S (factor names e) (factor names f)
    factor-like e = branch (LikePart S) (is_call-like S names F Builtin.Power e) (factor_in-like e (items-like S e)) (once-like S names F e)

    write_factor-like : (p q : Part) → LikePart S p q → Opt (Like S) (write_factor names p) (write_factor names q)
    write_factor-like p q alike =
        branch (Opt (Like S)) (ap (λ n. int_eq n (pos 0)) alike.number) none
        (branch (Opt (Like S)) (ap (λ n. int_eq n (pos 1)) alike.number) (some alike.rest)
        (some (subst (λ c. Like S (make names Builtin.Power (p.rest ∷ integer p.number ∷ [])) (make names Builtin.Power (q.rest ∷ integer c ∷ []))) alike.number
        (make-like S names F Builtin.Power (all_cons alike.rest (all_cons int all_nil))))))

    gather_product-like : {es fs : List Tree} (g h : Gathered) → LikeList S es fs → LikeGathered S g h → LikeGathered S (gather_product names es g) (gather_product names fs h)
    gather_product-like g h all_nil two = two
    gather_product-like g h (all_cons (int {n = n}) l) two = gather_product-like _ _ l (record { whole_part = ap (λ m. m *ℤ n) two.whole_part; parts = two.parts })
    gather_product-like g h (all_cons str l) two = gather_product-like _ _ l (record { whole_part = two.whole_part; parts = add_part-like S names F (factor-like str) two.parts })
    gather_product-like g h (all_cons (sym s) l) two = gather_product-like _ _ l (record { whole_part = two.whole_part; parts = add_part-like S names F (factor-like (sym s)) two.parts })
    gather_product-like g h (all_cons (node k ks) l) two = gather_product-like _ _ l (record { whole_part = two.whole_part; parts = add_part-like S names F (factor-like (node k ks)) two.parts })

    product_of-like : (g h : Gathered) → LikeGathered S g h → LikeWorked S (product_of names g) (product_of names h)
    product_of-like g h two =
        let factors : LikeList S (ordered (written (write_factor names) g.parts)) (ordered (written (write_factor names) h.parts)) =
        ordered-like S names F (written-like S names F (write_factor names) write_factor-like two.parts) in
        branch (LikeWorked S) (ap (λ n. int_eq n (pos 0)) two.whole_part) (gives int)
        (branch (LikeWorked S) (same_range S names F g.whole_part h.whole_part (numbers_of g.parts) (numbers_of h.parts) two.whole_part (numbers-like S two.parts))
        (gives (subst (λ n. Like S (assembled names Builtin.Times (pos 1) g.whole_part (ordered (written (write_factor names) g.parts))) (assembled names Builtin.Times (pos 1) n (ordered (written (write_factor names) h.parts)))) two.whole_part
        (assembled-like S names F Builtin.Times (pos 1) g.whole_part factors)))
        too_wide)

    pub product-like : {es fs : List Tree} → LikeList S es fs → LikeWorked S (product names es) (product names fs)
    product-like l = product_of-like _ _ (gather_product-like _ _ l (record { whole_part = refl; parts = all_nil }))

    int_power-itself : (n : ℤ) (k : ℕ) → LikeWorked S (int_power n k) (int_power n k)
    int_power-itself (pos a) k = chosen (ltb 1 a && ltb 127 k) too_wide (chosen (ltb 1 a) (int-itself (pos (a ^ k))) (chosen (k == 0) (gives int) (gives int)))
    int_power-itself (negsuc a) k =
        chosen (ltb 1 (nat_abs (negsuc a)) && ltb 127 k) too_wide
        (chosen (a == 0) (chosen (is_even k) (gives int) (gives int)) (chosen (is_even k) (int-itself (pos (suc a ^ k))) (int-itself (neg_ℤ (pos (suc a ^ k))))))

    integer_power-itself : (n k : ℤ) → LikeWorked S (integer_power n k) (integer_power n k)
    integer_power-itself (pos zero) (pos (suc k)) = int_power-itself (pos zero) (suc k)
    integer_power-itself (pos (suc n)) (pos k) = int_power-itself (pos (suc n)) k
    integer_power-itself (negsuc n) (pos k) = int_power-itself (negsuc n) k
    integer_power-itself (pos (suc zero)) (negsuc k) = gives int
    integer_power-itself (negsuc zero) (negsuc k) = int_power-itself (negsuc zero) (suc k)
    integer_power-itself _ _ = stays

    again-like : {x y : Tree} (n : ℤ) → Like S x y
        → LikeWorked S (elim (gives_int n) [ Gives e ↦ Gives (make names Builtin.Power (x ∷ e ∷ [])) | TooWide ↦ TooWide | Stays ↦ Stays ])
        (elim (gives_int n) [ Gives e ↦ Gives (make names Builtin.Power (y ∷ e ∷ [])) | TooWide ↦ TooWide | Stays ↦ Stays ])
    again-like {x} {y} n one = go (gives_int n) (int-itself n)
      where
        go : (w : Worked) → LikeWorked S w w
            → LikeWorked S (elim w [ Gives e ↦ Gives (make names Builtin.Power (x ∷ e ∷ [])) | TooWide ↦ TooWide | Stays ↦ Stays ])
            (elim w [ Gives e ↦ Gives (make names Builtin.Power (y ∷ e ∷ [])) | TooWide ↦ TooWide | Stays ↦ Stays ])
        go Stays stays = stays
        go (Gives e) (gives alike) = gives (make-like S names F Builtin.Power (all_cons one (all_cons alike all_nil)))
        go TooWide too_wide = too_wide

    power_of-like : {x y : Tree} (k : ℤ) → Like S x y → LikeWorked S (power_of names x k) (power_of names y k)
    power_of-like (pos zero) one = gives int
    power_of-like (pos (suc zero)) one = gives one
    power_of-like (pos (suc (suc k))) (node h (mores x (mores (int {n = a}) ends))) =
        branch (LikeWorked S) (is_name-like S names F Builtin.Power h) (again-like (a *ℤ pos (suc (suc k))) x) stays
    power_of-like (negsuc k) (node h (mores x (mores (int {n = a}) ends))) = branch (LikeWorked S) (is_name-like S names F Builtin.Power h) (again-like (a *ℤ negsuc k) x) stays
    power_of-like _ _ = stays

    -- an integer in front of what is none
    one_to-like : (n : ℤ) {x y : Tree} → Like S x y → ((m : ℤ) → x ≡ integer m → ⊥) → LikeWorked S (power names (integer n ∷ x ∷ [])) (power names (integer n ∷ y ∷ []))
    one_to-like n (int {n = m}) none' = absurd (none' m refl)
    one_to-like (pos (suc zero)) str none' = gives int
    one_to-like (pos (suc zero)) (sym s) none' = gives int
    one_to-like (pos (suc zero)) (node h l) none' = gives int
    one_to-like _ _ _ = stays

    three : {x y : Tree} → Like S x y → (n : ℤ) (a b : Tree) (as' bs : List Tree) → LikeWorked S (power names (integer n ∷ x ∷ a ∷ as')) (power names (integer n ∷ y ∷ b ∷ bs))
    three str (pos (suc zero)) _ _ _ _ = stays
    three (sym s) (pos (suc zero)) _ _ _ _ = stays
    three (node h l) (pos (suc zero)) _ _ _ _ = stays
    three _ _ _ _ _ _ = stays

    pub power-like : {es fs : List Tree} → LikeList S es fs → LikeWorked S (power names es) (power names fs)
    power-like (all_cons (int {n = n}) (all_cons (int {n = k}) all_nil)) = integer_power-itself n k
    power-like (all_cons (int {n = n}) (all_cons str all_nil)) = one_to-like n str (λ m e. Prim.cc e)
    power-like (all_cons (int {n = n}) (all_cons (sym s) all_nil)) = one_to-like n (sym s) (λ m e. Prim.cc e)
    power-like (all_cons (int {n = n}) (all_cons (node h l) all_nil)) = one_to-like n (node h l) (λ m e. Prim.cc e)
    power-like (all_cons str (all_cons (int {n = k}) all_nil)) = power_of-like k str
    power-like (all_cons (sym s) (all_cons (int {n = k}) all_nil)) = power_of-like k (sym s)
    power-like (all_cons (node h l) (all_cons (int {n = k}) all_nil)) = power_of-like k (node h l)
    power-like (all_cons (int {n = n}) (all_cons str (all_cons x xs))) = three str n _ _ _ _
    power-like (all_cons (int {n = n}) (all_cons (sym s) (all_cons x xs))) = three (sym s) n _ _ _ _
    power-like (all_cons (int {n = n}) (all_cons (node h l) (all_cons x xs))) = three (node h l) n _ _ _ _
    power-like _ = stays

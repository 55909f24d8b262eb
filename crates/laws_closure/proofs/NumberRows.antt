-- Rows of numbers, tests and strings: each symbol of a result stands in the items or in the table.
use Rattle.std.proofs.Common.{◌≡◌, refl, ℕ, zero, suc, Bool, true, false, List, [], ◌∷◌, map, Option, Some, None}
use Rattle.std.specs.Prelude.{ℤ, pos, negsuc, ◌*ℤ◌, ◌&&◌, ltb, ◌==◌, nat_abs, not, ◌^◌, neg_ℤ, chars, encode_utf8, ◌-ℤ◌}
use Rattle.std.specs.Ordering.{int_eq}
use Rattle.expr_tree.specs.declared.sym.Sym.{Sym}
use Rattle.expr_tree.specs.Limits.{in_range}
use Rattle.expr_tree.specs.Tree.{Tree, integer, string, symbol, normal, nil, cons, trees}
use Rattle.expr_tree.specs.Order.{same}
use Rattle.semantics.specs.declared.builtin.Builtin.{Builtin}
use Rattle.semantics.specs.Names.{Names, known, is_name, is_call, items_of, make, truth}
use Rattle.semantics.specs.Worked.{Worked, Stays, Gives, TooWide, gives_int, all_in_range}
use Rattle.semantics.specs.Numbers.{Part, add_part, Gathered, numbers_of, written, assembled, term_in, term, times, write_term, gather_sum, sum_of, plus, factor_in, factor, write_factor, gather_product, product_of, product, is_even, int_power, integer_power, power_of, power, quotient_down, quotient, modulo, parity, minus, subtract, divide, absolute, sign, gcd_of, gcd, factorial, all_integers, best_of, extreme}
use Rattle.semantics.specs.Tests.{all_same, some_same, all_data, neighbours_differ, equal, unequal, integers, chain, compared, negated, asked_of_one}
use Rattle.semantics.specs.Strings.{join_texts, string_join, string_length, characters, string_reverse}
use Rattle.laws_closure.specs.Throws.{may_throw}
use Rattle.laws_closure.proofs.Inside.{both, Each, Opt, perhaps, In, AllIn, items, packed, in_order}

module _ (C : Sym → Type 0) where
  -- what a row gives
  abbrev pub Fine : Worked → Type 0
  Fine Stays = Unit {0}
  Fine (Gives e) = In C e
  Fine TooWide = Unit {0}

  pub fine_int : (n : ℤ) → Fine (gives_int n)
  fine_int n = both Fine (in_range n) tt tt

  module _ (names : Names) (knows : (r : Builtin) → may_throw r ≡ false → C (known names r)) where
    pub makes : (r : Builtin) → may_throw r ≡ false → (es : List Tree) → AllIn C es → In C (make names r es)
    makes r calm es all = (knows r calm, packed C es all)

    pub true_or_false : (b : Bool) → In C (truth names b)
    true_or_false true = knows Builtin.True refl
    true_or_false false = knows Builtin.False refl

    -- ---- sums and products

    PartIn : Part → Type 0
    PartIn p = In C p.rest

    add_part_in : (p : Part) (ps : List Part) → In C p.rest → Each PartIn ps → Each PartIn (add_part p ps)
    unfolding PartIn
    add_part_in p [] one all = (one, tt)
    add_part_in p (q ∷ qs) one all = both (Each PartIn) (same p.rest q.rest) (all.0, all.1) (all.0, add_part_in p qs one all.1)

    written_in : (f : Part → Option Tree) → ((p : Part) → In C p.rest → Opt (In C) (f p)) → (ps : List Part) → Each PartIn ps → AllIn C (written f ps)
    unfolding PartIn
    written_in f each [] all = tt
    written_in f each (p ∷ ps) all = perhaps (In C) (AllIn C) (f p) (each p all.0) (written_in f each ps all.1) (λ e one. (one, written_in f each ps all.1))

    assembled_in : (row : Builtin) → may_throw row ≡ false → (unit n : ℤ) (es : List Tree) → AllIn C es → In C (assembled names row unit n es)
    assembled_in row calm unit n [] all = tt
    assembled_in row calm unit n (e ∷ []) all = both (In C) (int_eq n unit) all.0 (makes row calm (integer n ∷ e ∷ []) (tt, all))
    assembled_in row calm unit n (e ∷ f ∷ es) all =
        both (In C) (int_eq n unit) (makes row calm (e ∷ f ∷ es) all) (makes row calm (integer n ∷ e ∷ f ∷ es) (tt, all))

    term_in_in : (e : Tree) (es : List Tree) → In C e → AllIn C es → In C (term_in names e es).rest
    term_in_in e (integer c ∷ x ∷ []) one all = all.1.0
    term_in_in e (integer c ∷ x ∷ y ∷ ys) one all = makes Builtin.Times refl (x ∷ y ∷ ys) all.1
    term_in_in e _ one all = one

    term_inside : (e : Tree) → In C e → In C (term names e).rest
    unfolding PartIn
    term_inside e one = both PartIn (is_call names Builtin.Times e) (term_in_in e (items_of e) one (items C e one)) one

    times_in : (c : ℤ) (e : Tree) → In C e → In C (times names c e)
    times_in c e one =
        both (In C) (is_call names Builtin.Times e) (makes Builtin.Times refl (integer c ∷ items_of e) (tt, items C e one)) (makes Builtin.Times refl (integer c ∷ e ∷ []) (tt, (one, tt)))

    write_term_in : (p : Part) → In C p.rest → Opt (In C) (write_term names p)
    write_term_in p one =
        both (Opt (In C)) (int_eq p.number (pos 0)) tt (both (Opt (In C)) (int_eq p.number (pos 1)) one (times_in p.number p.rest one))

    gather_sum_in : (es : List Tree) (g : Gathered) → AllIn C es → Each PartIn g.parts → Each PartIn (gather_sum names es g).parts
    gather_sum_in [] g all parts = parts
    gather_sum_in (integer n ∷ es) g all parts = gather_sum_in es _ all.1 parts
    gather_sum_in (string t ∷ es) g all parts = gather_sum_in es _ all.1 (add_part_in _ g.parts (term_inside (string t) tt) parts)
    gather_sum_in (symbol s ∷ es) g all parts = gather_sum_in es _ all.1 (add_part_in _ g.parts (term_inside (symbol s) all.0) parts)
    gather_sum_in (normal h fs ∷ es) g all parts = gather_sum_in es _ all.1 (add_part_in _ g.parts (term_inside (normal h fs) all.0) parts)

    sum_of_in : (g : Gathered) → Each PartIn g.parts → Fine (sum_of names g)
    sum_of_in g parts =
        both Fine (all_in_range (g.whole_part ∷ numbers_of g.parts))
        (assembled_in Builtin.Plus refl (pos 0) g.whole_part _ (in_order C _ (written_in (write_term names) write_term_in g.parts parts))) tt

    pub plus_in : (es : List Tree) → AllIn C es → Fine (plus names es)
    plus_in es all =
        let start : Gathered = record { whole_part = pos 0; parts = [] } in
        sum_of_in (gather_sum names es start) (gather_sum_in es start all tt)

    factor_in_in : (e : Tree) (es : List Tree) → In C e → AllIn C es → In C (factor_in e es).rest
    factor_in_in e (b ∷ integer k ∷ []) one all = all.0
    factor_in_in e _ one all = one

    factor_inside : (e : Tree) → In C e → In C (factor names e).rest
    unfolding PartIn
    factor_inside e one = both PartIn (is_call names Builtin.Power e) (factor_in_in e (items_of e) one (items C e one)) one

    write_factor_in : (p : Part) → In C p.rest → Opt (In C) (write_factor names p)
    write_factor_in p one =
        both (Opt (In C)) (int_eq p.number (pos 0)) tt
        (both (Opt (In C)) (int_eq p.number (pos 1)) one (makes Builtin.Power refl (p.rest ∷ integer p.number ∷ []) (one, (tt, tt))))

    gather_product_in : (es : List Tree) (g : Gathered) → AllIn C es → Each PartIn g.parts → Each PartIn (gather_product names es g).parts
    gather_product_in [] g all parts = parts
    gather_product_in (integer n ∷ es) g all parts = gather_product_in es _ all.1 parts
    gather_product_in (string t ∷ es) g all parts = gather_product_in es _ all.1 (add_part_in _ g.parts (factor_inside (string t) tt) parts)
    gather_product_in (symbol s ∷ es) g all parts = gather_product_in es _ all.1 (add_part_in _ g.parts (factor_inside (symbol s) all.0) parts)
    gather_product_in (normal h fs ∷ es) g all parts = gather_product_in es _ all.1 (add_part_in _ g.parts (factor_inside (normal h fs) all.0) parts)

    product_of_in : (g : Gathered) → Each PartIn g.parts → Fine (product_of names g)
    product_of_in g parts =
        both Fine (int_eq g.whole_part (pos 0)) tt
        (both Fine (all_in_range (g.whole_part ∷ numbers_of g.parts))
        (assembled_in Builtin.Times refl (pos 1) g.whole_part _ (in_order C _ (written_in (write_factor names) write_factor_in g.parts parts))) tt)

    pub product_in : (es : List Tree) → AllIn C es → Fine (product names es)
    product_in es all =
        let start : Gathered = record { whole_part = pos 1; parts = [] } in
        product_of_in (gather_product names es start) (gather_product_in es start all tt)

    -- ---- powers

    int_power_in : (n : ℤ) (k : ℕ) → Fine (int_power n k)
    int_power_in (pos a) k = both Fine (ltb 1 a && ltb 127 k) tt (both Fine (ltb 1 a) (fine_int (pos (a ^ k))) (both Fine (k == 0) tt tt))
    int_power_in (negsuc a) k =
        both Fine (ltb 1 (nat_abs (negsuc a)) && ltb 127 k) tt
        (both Fine (a == 0) (both Fine (is_even k) tt tt) (both Fine (is_even k) (fine_int (pos (suc a ^ k))) (fine_int (neg_ℤ (pos (suc a ^ k))))))

    integer_power_in : (n k : ℤ) → Fine (integer_power n k)
    integer_power_in (pos zero) (pos zero) = tt
    integer_power_in (pos zero) (pos (suc k)) = int_power_in (pos zero) (suc k)
    integer_power_in (pos (suc n)) (pos k) = int_power_in (pos (suc n)) k
    integer_power_in (negsuc n) (pos k) = int_power_in (negsuc n) k
    integer_power_in (pos zero) (negsuc k) = tt
    integer_power_in (pos (suc zero)) (negsuc k) = tt
    integer_power_in (pos (suc (suc n))) (negsuc k) = tt
    integer_power_in (negsuc zero) (negsuc k) = int_power_in (negsuc zero) (suc k)
    integer_power_in (negsuc (suc n)) (negsuc k) = tt

    power_again : (x : Tree) (w : Worked) → In C x → Fine w → Fine (elim w [ Gives e ↦ Gives (make names Builtin.Power (x ∷ e ∷ [])) | TooWide ↦ TooWide | Stays ↦ Stays ])
    power_again x Stays one fine = tt
    power_again x (Gives e) one fine = makes Builtin.Power refl (x ∷ e ∷ []) (one, (fine, tt))
    power_again x TooWide one fine = tt

    power_of_in : (x : Tree) (k : ℤ) → In C x → Fine (power_of names x k)
    power_of_in x (pos zero) one = tt
    power_of_in x (pos (suc zero)) one = one
    power_of_in (normal h (cons x (cons (integer a) nil))) (pos (suc (suc k))) one =
        both Fine (is_name names Builtin.Power h) (power_again x (gives_int (a *ℤ pos (suc (suc k)))) one.1.0 (fine_int (a *ℤ pos (suc (suc k))))) tt
    power_of_in (normal h (cons x (cons (integer a) nil))) (negsuc k) one =
        both Fine (is_name names Builtin.Power h) (power_again x (gives_int (a *ℤ negsuc k)) one.1.0 (fine_int (a *ℤ negsuc k))) tt
    power_of_in _ _ one = tt

    pub power_in : (es : List Tree) → AllIn C es → Fine (power names es)
    power_in (integer n ∷ integer k ∷ []) all = integer_power_in n k
    power_in (integer (pos (suc zero)) ∷ string t ∷ []) all = tt
    power_in (integer (pos (suc zero)) ∷ symbol s ∷ []) all = tt
    power_in (integer (pos (suc zero)) ∷ normal h es ∷ []) all = tt
    power_in (string t ∷ integer k ∷ []) all = power_of_in (string t) k tt
    power_in (symbol s ∷ integer k ∷ []) all = power_of_in (symbol s) k all.0
    power_in (normal h es ∷ integer k ∷ []) all = power_of_in (normal h es) k all.0
    power_in _ all = tt

    -- ---- the other rows of numbers

    pub minus_in : (es : List Tree) → AllIn C es → Fine (minus names es)
    minus_in (x ∷ []) all = makes Builtin.Times refl (integer (negsuc 0) ∷ x ∷ []) (tt, all)
    minus_in _ all = tt

    pub subtract_in : (es : List Tree) → AllIn C es → Fine (subtract names es)
    subtract_in (a ∷ b ∷ []) all =
        makes Builtin.Plus refl (a ∷ make names Builtin.Times (integer (negsuc 0) ∷ b ∷ []) ∷ []) (all.0, (makes Builtin.Times refl (integer (negsuc 0) ∷ b ∷ []) (tt, all.1), tt))
    subtract_in _ all = tt

    pub divide_in : (es : List Tree) → AllIn C es → Fine (divide names es)
    divide_in (a ∷ b ∷ []) all =
        makes Builtin.Times refl (a ∷ make names Builtin.Power (b ∷ integer (negsuc 0) ∷ []) ∷ []) (all.0, (makes Builtin.Power refl (b ∷ integer (negsuc 0) ∷ []) (all.1.0, (tt, tt)), tt))
    divide_in _ all = tt

    pub quotient_in : (es : List Tree) → Fine (quotient es)
    quotient_in (integer n ∷ integer k ∷ []) = both Fine (int_eq k (pos 0)) tt (fine_int (quotient_down n k))
    quotient_in _ = tt

    pub modulo_in : (es : List Tree) → Fine (modulo es)
    modulo_in (integer n ∷ integer k ∷ []) = both Fine (int_eq k (pos 0)) tt (fine_int (n -ℤ (k *ℤ quotient_down n k)))
    modulo_in _ = tt

    pub parity_in : (wanted : Bool) (es : List Tree) → Fine (parity names wanted es)
    parity_in wanted (integer n ∷ []) = both Fine (is_even (nat_abs n)) (true_or_false wanted) (true_or_false (not wanted))
    parity_in wanted (string t ∷ []) = true_or_false false
    parity_in wanted (symbol s ∷ []) = true_or_false false
    parity_in wanted (normal h es ∷ []) = true_or_false false
    parity_in wanted _ = tt

    pub absolute_in : (es : List Tree) → Fine (absolute es)
    absolute_in (integer n ∷ []) = fine_int (pos (nat_abs n))
    absolute_in _ = tt

    pub sign_in : (es : List Tree) → Fine (sign es)
    sign_in (integer (pos zero) ∷ []) = tt
    sign_in (integer (pos (suc n)) ∷ []) = tt
    sign_in (integer (negsuc n) ∷ []) = tt
    sign_in _ = tt

    gcd_of_in : (es : List Tree) (d : ℕ) → Fine (gcd_of es d)
    gcd_of_in [] d = fine_int (pos d)
    gcd_of_in (integer n ∷ es) d = gcd_of_in es _
    gcd_of_in (string t ∷ es) d = tt
    gcd_of_in (symbol s ∷ es) d = tt
    gcd_of_in (normal h fs ∷ es) d = tt

    pub gcd_in : (es : List Tree) → Fine (gcd es)
    gcd_in es = gcd_of_in es 0

    pub factorial_in : (es : List Tree) → Fine (factorial es)
    factorial_in (integer (pos n) ∷ []) = both Fine (ltb 33 n) tt tt
    factorial_in _ = tt

    best_of_in : (better : ℤ → ℤ → Bool) (o : Option (List ℤ)) → Fine (best_of better o)
    best_of_in better None = tt
    best_of_in better (Some []) = tt
    best_of_in better (Some (n ∷ ns)) = tt

    pub extreme_in : (better : ℤ → ℤ → Bool) (es : List Tree) → Fine (extreme names better es)
    extreme_in better es = best_of_in better (all_integers names (trees es))

    -- ---- tests

    pub equal_in : (es : List Tree) → Fine (equal names es)
    equal_in es = both Fine (all_same es) (true_or_false true) (both Fine (neighbours_differ es) (true_or_false false) tt)

    pub unequal_in : (es : List Tree) → Fine (unequal names es)
    unequal_in es = both Fine (some_same es) (true_or_false false) (both Fine (all_data es) (true_or_false true) tt)

    pub compared_in : (holds : ℤ → ℤ → Bool) (es : List Tree) → Fine (compared names holds es)
    compared_in holds es = go (integers es)
      where
        go : (o : Option (List ℤ)) → Fine (elim o [ None ↦ Stays | Some ns ↦ Gives (truth names (chain holds ns)) ])
        go None = tt
        go (Some ns) = true_or_false (chain holds ns)

    pub negated_in : (es : List Tree) → Fine (negated names es)
    negated_in (e ∷ []) = both Fine (is_name names Builtin.True e) (true_or_false false) (both Fine (is_name names Builtin.False e) (true_or_false true) tt)
    negated_in _ = tt

    pub asked_of_one_in : (holds : Tree → Bool) (es : List Tree) → Fine (asked_of_one names holds es)
    asked_of_one_in holds (e ∷ []) = true_or_false (holds e)
    asked_of_one_in holds _ = tt

    -- ---- strings

    pub string_join_in : (es : List Tree) → Fine (string_join es)
    string_join_in es = go (join_texts es)
      where
        go : (o : Option (List ℕ)) → Fine (elim o [ None ↦ Stays | Some t ↦ Gives (string t) ])
        go None = tt
        go (Some t) = tt

    pub string_length_in : (es : List Tree) → Fine (string_length es)
    string_length_in (string t ∷ []) = tt
    string_length_in _ = tt

    texts_in : (cs : List ℕ) → AllIn C (map (λ c. string (encode_utf8 c)) cs)
    texts_in [] = tt
    texts_in (c ∷ cs) = (tt, texts_in cs)

    pub characters_in : (es : List Tree) → Fine (characters names es)
    characters_in (string t ∷ []) = makes Builtin.List refl _ (texts_in (chars t))
    characters_in _ = tt

    pub string_reverse_in : (es : List Tree) → Fine (string_reverse es)
    string_reverse_in (string t ∷ []) = tt
    string_reverse_in _ = tt

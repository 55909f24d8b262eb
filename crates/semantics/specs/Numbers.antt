-- The rows of numbers: Plus, Times, Power and those beside them. A number out of 128 bits is judged on the whole result.
--     Part, add_part        a number and the rest that it belongs to; equal rests add their numbers
--     term, factor          an element of a sum as coefficient and rest, one of a product as exponent and base
--     plus, product, power  the three rows
--     quotient, modulo, absolute, sign, gcd, factorial, parity, extreme      the other rows
use Rattle.std.specs.Prelude.{ℕ, zero, suc, ◌*◌, ◌^◌, ◌/◌, ◌%◌, ℤ, pos, negsuc, ◌+ℤ◌, ◌*ℤ◌, ◌-ℤ◌, neg_ℤ, nat_abs, List, [], ◌∷◌, ◌++◌, Bool, true, false, ◌&&◌, ltb, not, ◌==◌, Option, Some, None}
use Rattle.std.specs.Ordering.{int_eq}
use Rattle.expr_tree.specs.Tree.{Tree, integer, string, symbol, normal, Trees, nil, cons, trees}
use Rattle.expr_tree.specs.Order.{same}
use Rattle.semantics.specs.declared.builtin.Builtin.{Builtin}
use Rattle.semantics.specs.Names.{Names, is_name, is_call, items_of, make, truth}
use Rattle.semantics.specs.Steps.{ordered}
use Rattle.semantics.specs.Worked.{Worked, Stays, Gives, TooWide, gives_int, all_in_range}

-- coefficient * rest, or rest ^ exponent
pub record Part : Type 0 where
  pub number : ℤ
  pub rest : Tree

-- equal rests add their numbers, at the place of the first
abbrev pub add_part : Part → List Part → List Part
add_part p [] = p ∷ []
add_part p (q ∷ qs) =
    elim (same p.rest q.rest) [ true ↦ record { number = q.number +ℤ p.number; rest = q.rest } ∷ qs | false ↦ q ∷ add_part p qs ]

-- an integer and the parts of what else there is
pub record Gathered : Type 0 where
  pub whole_part : ℤ
  pub parts : List Part

abbrev pub numbers_of : List Part → List ℤ
numbers_of [] = []
numbers_of (p ∷ ps) = p.number ∷ numbers_of ps

-- parts that are written are kept, in order
abbrev pub written : (Part → Option Tree) → List Part → List Tree
written write [] = []
written write (p ∷ ps) = elim (write p) [ None ↦ written write ps | Some e ↦ e ∷ written write ps ]

-- an integer that is the unit is dropped where others are left; one that is left stands alone
abbrev pub assembled : Names → Builtin → ℤ → ℤ → List Tree → Tree
assembled names row unit n [] = integer n
assembled names row unit n (e ∷ []) = elim (int_eq n unit) [ true ↦ e | false ↦ make names row (integer n ∷ e ∷ []) ]
assembled names row unit n es = elim (int_eq n unit) [ true ↦ make names row es | false ↦ make names row (integer n ∷ es) ]

abbrev pub once : Tree → Part
once e = record { number = pos 1; rest = e }

abbrev pub term_in : Names → Tree → List Tree → Part
term_in names e (integer c ∷ x ∷ []) = record { number = c; rest = x }
term_in names e (integer c ∷ x ∷ y ∷ ys) = record { number = c; rest = make names Builtin.Times (x ∷ y ∷ ys) }
term_in names e _ = once e

-- Times[c, x, ..] with an integer c is c times the rest
abbrev pub term : Names → Tree → Part
term names e = elim (is_call names Builtin.Times e) [ true ↦ term_in names e (items_of e) | false ↦ once e ]

abbrev pub times : Names → ℤ → Tree → Tree
times names c e =
    elim (is_call names Builtin.Times e) [ true ↦ make names Builtin.Times (integer c ∷ items_of e) | false ↦ make names Builtin.Times (integer c ∷ e ∷ []) ]

-- a coefficient 0 drops the term, 1 gives the rest
abbrev pub write_term : Names → Part → Option Tree
write_term names p =
    elim (int_eq p.number (pos 0)) [ true ↦ None | false ↦ elim (int_eq p.number (pos 1)) [ true ↦ Some p.rest | false ↦ Some (times names p.number p.rest) ] ]

abbrev pub gather_sum : Names → List Tree → Gathered → Gathered
gather_sum names [] g = g
gather_sum names (integer n ∷ es) g = gather_sum names es (record { whole_part = g.whole_part +ℤ n; parts = g.parts })
gather_sum names (e ∷ es) g = gather_sum names es (record { whole_part = g.whole_part; parts = add_part (term names e) g.parts })

-- a sum is always given, with its terms in canonical order
abbrev pub sum_of : Names → Gathered → Worked
sum_of names g =
    elim (all_in_range (g.whole_part ∷ numbers_of g.parts)) [
      | true ↦ Gives (assembled names Builtin.Plus (pos 0) g.whole_part (ordered (written (write_term names) g.parts)))
      | false ↦ TooWide
    ]

abbrev pub plus : Names → List Tree → Worked
plus names items = sum_of names (gather_sum names items (record { whole_part = pos 0; parts = [] }))

abbrev pub factor_in : Tree → List Tree → Part
factor_in e (b ∷ integer k ∷ []) = record { number = k; rest = b }
factor_in e _ = once e

-- Power[b, k] with an integer k is b to the k
abbrev pub factor : Names → Tree → Part
factor names e = elim (is_call names Builtin.Power e) [ true ↦ factor_in e (items_of e) | false ↦ once e ]

abbrev pub write_factor : Names → Part → Option Tree
write_factor names p =
    elim (int_eq p.number (pos 0)) [
      | true ↦ None
      | false ↦ elim (int_eq p.number (pos 1)) [ true ↦ Some p.rest | false ↦ Some (make names Builtin.Power (p.rest ∷ integer p.number ∷ [])) ]
    ]

abbrev pub gather_product : Names → List Tree → Gathered → Gathered
gather_product names [] g = g
gather_product names (integer n ∷ es) g = gather_product names es (record { whole_part = g.whole_part *ℤ n; parts = g.parts })
gather_product names (e ∷ es) g = gather_product names es (record { whole_part = g.whole_part; parts = add_part (factor names e) g.parts })

-- a factor 0 gives 0, whatever the rest; else the range is judged on the whole, and the factors stand in canonical order
abbrev pub product_of : Names → Gathered → Worked
product_of names g =
    elim (int_eq g.whole_part (pos 0)) [
      | true ↦ Gives (integer (pos 0))
      | false ↦ elim (all_in_range (g.whole_part ∷ numbers_of g.parts)) [
        | true ↦ Gives (assembled names Builtin.Times (pos 1) g.whole_part (ordered (written (write_factor names) g.parts)))
        | false ↦ TooWide
      ]
    ]

abbrev pub product : Names → List Tree → Worked
product names items = product_of names (gather_product names items (record { whole_part = pos 1; parts = [] }))

abbrev pub is_even : ℕ → Bool
is_even n = (n % 2) == 0

-- n to the k, which for |n| above 1 and k above 127 is out of range
abbrev pub int_power : ℤ → ℕ → Worked
int_power n k =
    elim (ltb 1 (nat_abs n) && ltb 127 k) [
      | true ↦ TooWide
      | false ↦ elim n [
        | pos a ↦ elim (ltb 1 a) [ true ↦ gives_int (pos (a ^ k)) | false ↦ elim (k == 0) [ true ↦ Gives (integer (pos 1)) | false ↦ Gives (integer (pos a)) ] ]
        | negsuc a ↦ elim (a == 0) [
          | true ↦ elim (is_even k) [ true ↦ Gives (integer (pos 1)) | false ↦ Gives (integer (negsuc 0)) ]
          | false ↦ elim (is_even k) [ true ↦ gives_int (pos (suc a ^ k)) | false ↦ gives_int (neg_ℤ (pos (suc a ^ k))) ]
        ]
      ]
    ]

-- n^k for integers: 0^0 and a negative k at another n than 1 and -1 stay
abbrev pub integer_power : ℤ → ℤ → Worked
integer_power (pos zero) (pos zero) = Stays
integer_power n (pos k) = int_power n k
integer_power (pos (suc zero)) (negsuc k) = Gives (integer (pos 1))
integer_power (negsuc zero) (negsuc k) = int_power (negsuc zero) (suc k)
integer_power n (negsuc k) = Stays

-- x^1 is x, x^0 is 1, and (x^a)^k is x^(a k)
abbrev pub power_of : Names → Tree → ℤ → Worked
power_of names x (pos zero) = Gives (integer (pos 1))
power_of names x (pos (suc zero)) = Gives x
power_of names (normal h (cons x (cons (integer a) nil))) k =
    elim (is_name names Builtin.Power h) [
      | true ↦ elim (gives_int (a *ℤ k)) [ Gives e ↦ Gives (make names Builtin.Power (x ∷ e ∷ [])) | TooWide ↦ TooWide | Stays ↦ Stays ]
      | false ↦ Stays
    ]
power_of names x k = Stays

abbrev pub power : Names → List Tree → Worked
power names (integer n ∷ integer k ∷ []) = integer_power n k
power names (integer (pos (suc zero)) ∷ x ∷ []) = Gives (integer (pos 1))
power names (x ∷ integer k ∷ []) = power_of names x k
power names _ = Stays

-- rounded down
abbrev pub quotient_down : ℤ → ℤ → ℤ
quotient_down (pos a) (pos b) = pos (a / b)
quotient_down (negsuc a) (pos b) = elim b [ zero ↦ pos 0 | suc m ↦ negsuc (a / suc m) ]
quotient_down (pos a) (negsuc b) = elim a [ zero ↦ pos 0 | suc m ↦ negsuc (m / suc b) ]
quotient_down (negsuc a) (negsuc b) = pos (suc a / suc b)

abbrev pub quotient : List Tree → Worked
quotient (integer n ∷ integer k ∷ []) = elim (int_eq k (pos 0)) [ true ↦ Stays | false ↦ gives_int (quotient_down n k) ]
quotient _ = Stays

-- with the sign of k
abbrev pub modulo : List Tree → Worked
modulo (integer n ∷ integer k ∷ []) = elim (int_eq k (pos 0)) [ true ↦ Stays | false ↦ gives_int (n -ℤ (k *ℤ quotient_down n k)) ]
modulo _ = Stays

abbrev pub parity : Names → Bool → List Tree → Worked
parity names wanted (integer n ∷ []) = elim (is_even (nat_abs n)) [ true ↦ Gives (truth names wanted) | false ↦ Gives (truth names (not wanted)) ]
parity names wanted (e ∷ []) = Gives (truth names false)
parity names wanted _ = Stays

abbrev pub minus : Names → List Tree → Worked
minus names (x ∷ []) = Gives (make names Builtin.Times (integer (negsuc 0) ∷ x ∷ []))
minus names _ = Stays

abbrev pub subtract : Names → List Tree → Worked
subtract names (a ∷ b ∷ []) = Gives (make names Builtin.Plus (a ∷ make names Builtin.Times (integer (negsuc 0) ∷ b ∷ []) ∷ []))
subtract names _ = Stays

abbrev pub divide : Names → List Tree → Worked
divide names (a ∷ b ∷ []) = Gives (make names Builtin.Times (a ∷ make names Builtin.Power (b ∷ integer (negsuc 0) ∷ []) ∷ []))
divide names _ = Stays

abbrev pub absolute : List Tree → Worked
absolute (integer n ∷ []) = gives_int (pos (nat_abs n))
absolute _ = Stays

abbrev pub sign : List Tree → Worked
sign (integer (pos zero) ∷ []) = Gives (integer (pos 0))
sign (integer (pos (suc n)) ∷ []) = Gives (integer (pos 1))
sign (integer (negsuc n) ∷ []) = Gives (integer (negsuc 0))
sign _ = Stays

-- the greatest common divisor, in at most so many divisions
abbrev pub common_divisor : ℕ → ℕ → ℕ → ℕ
common_divisor zero a b = a
common_divisor (suc n) a zero = a
common_divisor (suc n) a (suc b) = common_divisor n (suc b) (a % suc b)

abbrev pub gcd_of : List Tree → ℕ → Worked
gcd_of [] d = gives_int (pos d)
gcd_of (integer n ∷ es) d = gcd_of es (common_divisor (suc (nat_abs n)) d (nat_abs n))
gcd_of (e ∷ es) d = Stays

abbrev pub gcd : List Tree → Worked
gcd es = gcd_of es 0

abbrev pub factorial_of : ℕ → ℕ
factorial_of zero = 1
factorial_of (suc n) = suc n * factorial_of n

-- 34! is out of range
abbrev pub factorial : List Tree → Worked
factorial (integer (pos n) ∷ []) = elim (ltb 33 n) [ true ↦ TooWide | false ↦ Gives (integer (pos (factorial_of n))) ]
factorial _ = Stays

-- the integers of the items, where a List counts as its elements
abbrev mutual
  pub integers_in : Names → Tree → Option (List ℤ)
  integers_in names (integer n) = Some (n ∷ [])
  integers_in names (string t) = None
  integers_in names (symbol s) = None
  integers_in names (normal h es) = elim (is_name names Builtin.List h) [ true ↦ all_integers names es | false ↦ None ]

  pub all_integers : Names → Trees → Option (List ℤ)
  all_integers names nil = Some []
  all_integers names (cons e es) =
      elim (integers_in names e) [ None ↦ None | Some ms ↦ elim (all_integers names es) [ None ↦ None | Some ns ↦ Some (ms ++ ns) ] ]

abbrev pub best : (ℤ → ℤ → Bool) → ℤ → List ℤ → ℤ
best better m [] = m
best better m (n ∷ ns) = elim (better n m) [ true ↦ best better n ns | false ↦ best better m ns ]

abbrev pub best_of : (ℤ → ℤ → Bool) → Option (List ℤ) → Worked
best_of better None = Stays
best_of better (Some []) = Stays
best_of better (Some (n ∷ ns)) = Gives (integer (best better n ns))

abbrev pub extreme : Names → (ℤ → ℤ → Bool) → List Tree → Worked
extreme names better es = best_of better (all_integers names (trees es))

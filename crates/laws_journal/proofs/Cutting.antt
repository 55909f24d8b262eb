-- The chunks of a list are its elements in order, and none of them is empty.
use Rattle.std.proofs.Common.{◌≡◌, refl, sym, ap, subst, ◌∙◌, ℕ, zero, suc, ◌+◌, ◌*◌, ◌-◌, ◌/◌, ◌%◌, Bool, true, false, List, [], ◌∷◌, ◌++◌, length, take, drop, true≢false, arith}
use Rattle.std.specs.Prelude.{◌≤◌, ◌<◌, leb, replicate}
use Rattle.std.proofs.lemmas.List.{take-append-drop, length-drop, length-take-le}
use Rattle.std.proofs.lemmas.Bool.{leb-true, leb-false}
use Rattle.std.proofs.Math.Nat.{div-add-mod}
use Rattle.expr_tree.specs.Tree.{Tree}
use Rattle.journal.specs.Cuts.{Method, Coarsest, Finest, Per, smaller, chunks, even_lengths, one_or_none, lengths_per, lengths, cut_by, cut}
use Rattle.laws_journal.specs.Laws.{is_usable, chunks_joined, NoneEmpty}

abbrev total : List ℕ → ℕ
total [] = 0
total (n ∷ ns) = n + total ns

total-append : (ms ns : List ℕ) → total (ms ++ ns) ≡ total ms + total ns
total-append [] ns = omega arith
total-append (m ∷ ms) ns = let rest = total-append ms ns in omega (arith, rest)

abbrev AllPositive : List ℕ → Type 0
AllPositive [] = Unit {0}
AllPositive (n ∷ ns) = (1 ≤ n) × AllPositive ns

positive-append : (ms ns : List ℕ) → AllPositive ms → AllPositive ns → AllPositive (ms ++ ns)
positive-append [] ns p q = q
positive-append (m ∷ ms) ns p q = (p.0, positive-append ms ns p.1 q)

positive-replicate : (k n : ℕ) → 1 ≤ n → AllPositive (replicate k n)
positive-replicate zero n h = tt
positive-replicate (suc k) n h = (h, positive-replicate k n h)

total-replicate : (k n : ℕ) → total (replicate k n) ≡ k * n
total-replicate zero n = grind arith
total-replicate (suc k) n = ap (λ x. n + x) (total-replicate k n) ∙ grind arith

-- ---- chunks of these lengths

joins : (ns : List ℕ) (xs : List Tree) → total ns ≡ length xs → chunks_joined (cut_by ns xs) ≡ xs
joins [] [] e = refl
joins [] (x ∷ xs) e = absurd (omega (arith, e))
joins (n ∷ ns) xs e =
    let dropped = length-drop n xs in
    ap (λ ys. take n xs ++ ys) (joins ns (drop n xs) (omega (arith, e, dropped))) ∙ take-append-drop n xs

none_empty : (ns : List ℕ) (xs : List Tree) → total ns ≡ length xs → AllPositive ns → NoneEmpty (cut_by ns xs)
none_empty [] xs e p = tt
none_empty (n ∷ ns) xs e p =
    let dropped = length-drop n xs in
    let first : 1 ≤ n = p.0 in
    let taken : length (take n xs) ≡ n = length-take-le n xs (omega (arith, e)) in
    (omega (arith, first, taken), none_empty ns (drop n xs) (omega (arith, e, dropped)) p.1)

-- ---- the lengths that the methods give

shared_out : (c q r : ℕ) → r ≤ c → r * (q + 1) + (c - r) * q ≡ c * q + r
shared_out c q r h = grind arith

even-total : (n c : ℕ) → 1 ≤ c → total (even_lengths n c) ≡ n
even-total n zero h = absurd (omega (arith, h))
even-total n (suc c) h =
    total-append (replicate (n % suc c) (n / suc c + 1)) (replicate (suc c - n % suc c) (n / suc c))
    ∙ ap (λ x. x + total (replicate (suc c - n % suc c) (n / suc c))) (total-replicate (n % suc c) (n / suc c + 1))
    ∙ ap (λ x. (n % suc c) * (n / suc c + 1) + x) (total-replicate (suc c - n % suc c) (n / suc c))
    ∙ shared_out (suc c) (n / suc c) (n % suc c) (omega arith)
    ∙ div-add-mod n (suc c)

at_least_one : (n c q r : ℕ) → c * q + r ≡ n → r < c → c ≤ n → 1 ≤ q
at_least_one n c zero r e h k = absurd (grind (arith, e, h, k))
at_least_one n c (suc q) r e h k = omega arith

even-positive : (n c : ℕ) → 1 ≤ c → c ≤ n → AllPositive (even_lengths n c)
even-positive n zero h k = absurd (omega (arith, h))
even-positive n (suc c) h k =
    positive-append (replicate (n % suc c) (n / suc c + 1)) (replicate (suc c - n % suc c) (n / suc c))
    (positive-replicate (n % suc c) (n / suc c + 1) (omega arith))
    (positive-replicate (suc c - n % suc c) (n / suc c) (at_least_one n (suc c) (n / suc c) (n % suc c) (div-add-mod n (suc c)) (omega arith) k))

per-total : (n k : ℕ) → total (lengths_per n (suc k)) ≡ n
per-total n k =
    total-append (replicate (n / suc k) (suc k)) (one_or_none (n % suc k))
    ∙ ap (λ x. x + total (one_or_none (n % suc k))) (total-replicate (n / suc k) (suc k))
    ∙ ap (λ x. (n / suc k) * suc k + x) (rest (n % suc k))
    ∙ turned (n / suc k) (suc k) (n % suc k)
    ∙ div-add-mod n (suc k)
  where
    rest : (r : ℕ) → total (one_or_none r) ≡ r
    rest zero = refl
    rest (suc r) = omega arith

    turned : (q c r : ℕ) → q * c + r ≡ c * q + r
    turned q c r = grind arith

per-positive : (n k : ℕ) → AllPositive (lengths_per n (suc k))
per-positive n k = positive-append (replicate (n / suc k) (suc k)) (one_or_none (n % suc k)) (positive-replicate (n / suc k) (suc k) (omega arith)) (rest (n % suc k))
  where
    rest : (r : ℕ) → AllPositive (one_or_none r)
    rest zero = tt
    rest (suc r) = (omega arith, tt)

smaller-least : (m n : ℕ) → (smaller m n ≤ m) × (smaller m n ≤ n)
smaller-least m n = go (leb m n) refl
  where
    go : (b : Bool) → leb m n ≡ b → (elim b [ true ↦ m | false ↦ n ] ≤ m) × (elim b [ true ↦ m | false ↦ n ] ≤ n)
    go true e = let h = leb-true m n e in (omega arith, omega (arith, h))
    go false e = let h = leb-false m n e in (omega (arith, h), omega arith)

smaller-positive : (m n : ℕ) → 1 ≤ m → 1 ≤ n → 1 ≤ smaller m n
smaller-positive m n h k = go (leb m n)
  where
    go : (b : Bool) → 1 ≤ elim b [ true ↦ m | false ↦ n ]
    go true = h
    go false = k

chunks-positive : (n m : ℕ) → 1 ≤ n → 1 ≤ chunks n m
chunks-positive n zero h = smaller-positive 1 n (omega arith) h
chunks-positive n (suc m) h = smaller-positive (suc m) n (omega arith) h

chunks-few : (n m : ℕ) → chunks n m ≤ n
chunks-few n zero = (smaller-least 1 n).1
chunks-few n (suc m) = (smaller-least (suc m) n).1

none_left : (c : ℕ) → c ≤ 0 → even_lengths 0 c ≡ []
none_left zero h = refl
none_left (suc c) h = absurd (omega (arith, h))

record Cuts (n : ℕ) (ns : List ℕ) : Type 0 where
  all : total ns ≡ n
  positive : AllPositive ns

coarsest : (n m : ℕ) → Cuts n (even_lengths n (chunks n m))
coarsest zero m = subst (Cuts 0) (sym (none_left (chunks 0 m) (chunks-few 0 m))) (record { all = refl; positive = tt })
coarsest (suc n) m =
    let some = chunks-positive (suc n) m (omega arith) in
    record { all = even-total (suc n) (chunks (suc n) m) some; positive = even-positive (suc n) (chunks (suc n) m) some (chunks-few (suc n) m) }

all_cut : (method : Method) (n m : ℕ) → is_usable method ≡ true → Cuts n (lengths method n m)
all_cut Coarsest n m h = coarsest n m
all_cut Finest n m h = record { all = total-replicate n 1 ∙ grind arith; positive = positive-replicate n 1 (omega arith) }
all_cut (Per zero) n m h = absurd (true≢false (sym h))
all_cut (Per (suc k)) n m h = record { all = per-total n k; positive = per-positive n k }

pub cuts_partition : (method : Method) (m : ℕ) (es : List Tree) → is_usable method ≡ true → (chunks_joined (cut method m es) ≡ es) × NoneEmpty (cut method m es)
cuts_partition method m es h =
    let c = all_cut method (length es) m h in
    (joins (lengths method (length es) m) es c.all, none_empty (lengths method (length es) m) es c.all c.positive)

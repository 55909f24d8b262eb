-- Where the chunks of a list begin and end, and how many there are.
use Rattle.std.proofs.Common.{◌≡◌, refl, sym, ap, subst, ◌∙◌, ℕ, zero, suc, ◌+◌, ◌*◌, ◌-◌, ◌/◌, ◌%◌, Bool, true, false, List, [], ◌∷◌, ◌++◌, length, Some, arith}
use Rattle.std.specs.Prelude.{◌≤◌, ◌<◌, leb, replicate}
use Rattle.std.proofs.lemmas.List.{length-append, length-replicate, append-nil}
use Rattle.std.proofs.lemmas.Bool.{leb-true, leb-false}
use Rattle.std.proofs.Math.Nat.{div-add-mod, mod-lt, mul-le-mul_right}
use Rattle.std.proofs.lemmas.Nat.{le-div}
use Rattle.journal.specs.Places.{nth}
use Rattle.journal.specs.Cuts.{Method, Finest, even_lengths, one_or_none, lengths_per, lengths, places_from}
use Rattle.par_plan.specs.Plan.{chunk_at}

-- ---- equal chunks in front of others

among_equals : (k x i at : ℕ) (rest : List ℕ) → i < k → nth (places_from at (replicate k x ++ rest)) i ≡ Some (at + i * x, at + i * x + x)
among_equals zero x i at rest h = absurd (omega (arith, h))
among_equals (suc k) x zero at rest h = ap (λ n. Some (n, n + x)) (grind arith)
among_equals (suc k) x (suc i) at rest h = among_equals k x i (at + x) rest (omega (arith, h)) ∙ ap (λ n. Some (n, n + x)) (moved at x i)
  where
    moved : (at x i : ℕ) → at + x + i * x ≡ at + suc i * x
    moved at x i = grind arith

behind_equals : (k x j at : ℕ) (rest : List ℕ) → nth (places_from at (replicate k x ++ rest)) (k + j) ≡ nth (places_from (at + k * x) rest) j
behind_equals zero x j at rest = ap (nth (places_from at rest)) (none_before j) ∙ ap (λ n. nth (places_from n rest) j) (stays at x)
  where
    none_before : (j : ℕ) → 0 + j ≡ j
    none_before j = omega arith

    stays : (at x : ℕ) → at ≡ at + 0 * x
    stays at x = grind arith
behind_equals (suc k) x j at rest =
    ap (nth (places_from at (replicate (suc k) x ++ rest))) (one_more k j)
    ∙ behind_equals k x j (at + x) rest
    ∙ ap (λ n. nth (places_from n rest) j) (moved at x k)
  where
    one_more : (k j : ℕ) → suc k + j ≡ suc (k + j)
    one_more k j = omega arith

    moved : (at x k : ℕ) → at + x + k * x ≡ at + suc k * x
    moved at x k = grind arith

all_equal : (k x i at : ℕ) → i < k → nth (places_from at (replicate k x)) i ≡ Some (at + i * x, at + i * x + x)
all_equal k x i at h = ap (λ ns. nth (places_from at ns) i) (sym (append-nil (replicate k x))) ∙ among_equals k x i at [] h

-- ---- one chunk for each element

single : (n i : ℕ) → i < n → chunk_at (replicate n 1) i ≡ Some (i, i + 1)
single n i h = all_equal n 1 i 0 h ∙ ap (λ m. Some (m, m + 1)) (grind arith)

pub finest_chunk : (m : Method) (n k i : ℕ) → m ≡ Finest → i < length (lengths m n k) → chunk_at (lengths m n k) i ≡ Some (i, i + 1)
finest_chunk m n k i e w =
    subst (λ x. i < length (lengths x n k) → chunk_at (lengths x n k) i ≡ Some (i, i + 1)) (sym e) (λ w. single n i (subst (λ l. i < l) (length-replicate n 1) w)) w

pub finest_within : (m : Method) (n k i : ℕ) → m ≡ Finest → i < length (lengths m n k) → i + 1 ≤ n
finest_within m n k i e w =
    let some : i < n = subst (λ l. i < l) (ap (λ x. length (lengths x n k)) e ∙ length-replicate n 1) w in
    omega (arith, some)

-- ---- even chunks

-- a longer chunk stands in front, and ends within the list
pub longer_chunk : (n c i : ℕ) → i < c → i < n % c → chunk_at (even_lengths n c) i ≡ Some (i * (n / c + 1), i * (n / c + 1) + (n / c + 1))
longer_chunk n zero i h k = absurd (omega (arith, h))
longer_chunk n (suc c) i h k =
    among_equals (n % suc c) (n / suc c + 1) i 0 (replicate (suc c - n % suc c) (n / suc c)) k
    ∙ ap (λ m. Some (m, m + (n / suc c + 1))) (from_0 (i * (n / suc c + 1)))
  where
    from_0 : (m : ℕ) → 0 + m ≡ m
    from_0 m = omega arith

pub shorter_chunk : (n c i : ℕ) → i < c → n % c ≤ i → chunk_at (even_lengths n c) i ≡ Some (i * (n / c) + n % c, i * (n / c) + n % c + n / c)
shorter_chunk n zero i h k = absurd (omega (arith, h))
shorter_chunk n (suc c) i h k = go (n / suc c) (n % suc c) h k
  where
    moved : (j r q : ℕ) → 0 + r * (q + 1) + j * q ≡ (j + r) * q + r
    moved j r q = grind arith

    go : (q r : ℕ) → i < suc c → r ≤ i → nth (places_from 0 (replicate r (q + 1) ++ replicate (suc c - r) q)) i ≡ Some (i * q + r, i * q + r + q)
    go q r h k =
        ap (nth (places_from 0 (replicate r (q + 1) ++ replicate (suc c - r) q))) (omega (arith, k))
        ∙ behind_equals r (q + 1) (i - r) 0 (replicate (suc c - r) q)
        ∙ all_equal (suc c - r) q (i - r) (0 + r * (q + 1)) (omega (arith, h, k))
        ∙ ap (λ m. Some (m, m + q)) (moved (i - r) r q ∙ ap (λ m. m * q + r) (omega (arith, k)))

pub within_longer : (n c i : ℕ) → i < c → i < n % c → i * (n / c + 1) + (n / c + 1) ≤ n
within_longer n c i h k =
    let small = mod-lt n {m = c} (omega (arith, h)) in
    let more = mul-le-mul_right {m = suc i} {n = n % c} (n / c + 1) (omega (arith, k)) in
    let most = mul-le-mul_right {m = n % c} {n = c} (n / c) (omega (arith, small)) in
    go (n / c) (n % c) more most (div-add-mod n c)
  where
    go : (q r : ℕ) → suc i * (q + 1) ≤ r * (q + 1) → r * q ≤ c * q → c * q + r ≡ n → i * (q + 1) + (q + 1) ≤ n
    go q r more most whole = grind (arith, more, most, whole)

pub within_shorter : (n c i : ℕ) → i < c → i * (n / c) + n % c + n / c ≤ n
within_shorter n c i h =
    let most = mul-le-mul_right {m = suc i} {n = c} (n / c) (omega (arith, h)) in
    go (n / c) (n % c) most (div-add-mod n c)
  where
    go : (q r : ℕ) → suc i * q ≤ c * q → c * q + r ≡ n → i * q + r + q ≤ n
    go q r most whole = grind (arith, most, whole)

pub none_empty : (n c : ℕ) → 1 ≤ c → c ≤ n → 1 ≤ n / c
none_empty n c h k = le-div 1 n c h (grind (arith, k))

-- ---- chunks of so many

count_of_rest : (r : ℕ) → r ≡ 0 → length (one_or_none r) ≡ 0
count_of_rest zero e = refl
count_of_rest (suc r) e = absurd (omega (arith, e))

count_of_some : (r : ℕ) → 1 ≤ r → length (one_or_none r) ≡ 1
count_of_some zero e = absurd (omega (arith, e))
count_of_some (suc r) e = refl

count_with : (n k : ℕ) → 1 ≤ k → length (lengths_per n k) ≡ n / k + length (one_or_none (n % k))
count_with n zero h = absurd (omega (arith, h))
count_with n (suc k) h =
    length-append (replicate (n / suc k) (suc k)) (one_or_none (n % suc k)) ∙ ap (λ m. m + length (one_or_none (n % suc k))) (length-replicate (n / suc k) (suc k))

count_whole : (n k : ℕ) → 1 ≤ k → n % k ≡ 0 → n / k ≡ length (lengths_per n k)
count_whole n k h e = let rest = count_of_rest (n % k) e in let all = count_with n k h in omega (arith, rest, all)

count_broken : (n k : ℕ) → 1 ≤ k → 1 ≤ n % k → n / k + 1 ≡ length (lengths_per n k)
count_broken n k h e = let rest = count_of_some (n % k) e in let all = count_with n k h in omega (arith, rest, all)

-- each begins within the list
pub begins_within : (n k i : ℕ) → 1 ≤ k → i < length (lengths_per n k) → i * k < n
begins_within n k i h w = go (n % k) refl
  where
    below : (q r i : ℕ) → i ≤ q → 1 ≤ r → k * q + r ≡ n → i * k < n
    below q r i l some whole = let most = mul-le-mul_right {m = i} {n = q} k l in grind (arith, most, some, whole)

    before : (q i : ℕ) → suc i ≤ q → k * q + 0 ≡ n → i * k < n
    before q i l whole = let most = mul-le-mul_right {m = suc i} {n = q} k l in grind (arith, most, h, whole)

    go : (r : ℕ) → n % k ≡ r → i * k < n
    go zero e = let all = count_whole n k h e in before (n / k) i (omega (arith, w, all)) (ap (λ r. k * (n / k) + r) (sym e) ∙ div-add-mod n k)
    go (suc r) e =
        let all = count_broken n k h (omega (arith, e)) in
        below (n / k) (n % k) i (omega (arith, w, all)) (omega (arith, e)) (div-add-mod n k)

pub whole_chunk : (n k i : ℕ) → 1 ≤ k → i * k + k ≤ n → chunk_at (lengths_per n k) i ≡ Some (i * k, i * k + k)
whole_chunk n zero i h w = absurd (omega (arith, h))
whole_chunk n (suc k) i h w =
    among_equals (n / suc k) (suc k) i 0 (one_or_none (n % suc k)) (le-div (suc i) n (suc k) (omega arith) (grind (arith, w)))
    ∙ ap (λ m. Some (m, m + suc k)) (from_0 (i * suc k))
  where
    from_0 : (m : ℕ) → 0 + m ≡ m
    from_0 m = omega arith

-- the last of them, where there is a rest
pub last_chunk : (n k i : ℕ) → 1 ≤ k → i < length (lengths_per n k) → n - i * k < k → chunk_at (lengths_per n k) i ≡ Some (i * k, n)
last_chunk n zero i h w l = absurd (omega (arith, h))
last_chunk n (suc k) i h w l = go (n % suc k) refl
  where
    -- an earlier one is whole
    too_early : (q r : ℕ) → suc k * q + r ≡ n → suc i ≤ q → ⊥
    too_early q r whole m = let most = mul-le-mul_right {m = suc i} {n = q} (suc k) m in grind (arith, most, whole, l)

    begins : (q : ℕ) → i ≡ q → 0 + q * suc k ≡ i * suc k
    begins q e = subst (λ j. 0 + q * suc k ≡ j * suc k) (sym e) (omega arith)

    whole_is : (q r : ℕ) → suc k * q + suc r ≡ n → 0 + q * suc k + suc r ≡ n
    whole_is q r whole = grind (arith, whole)

    there : (q r : ℕ) → suc k * q + suc r ≡ n → i ≡ q → nth (places_from 0 (replicate q (suc k) ++ suc r ∷ [])) i ≡ Some (i * suc k, n)
    there q r whole e =
        ap (nth (places_from 0 (replicate q (suc k) ++ suc r ∷ []))) (omega (arith, e))
        ∙ behind_equals q (suc k) 0 0 (suc r ∷ [])
        ∙ ap (λ a. Some (a, 0 + q * suc k + suc r)) (begins q e)
        ∙ ap (λ b. Some (i * suc k, b)) (whole_is q r whole)

    last : (q r : ℕ) → suc k * q + suc r ≡ n → i < q + 1 → nth (places_from 0 (replicate q (suc k) ++ suc r ∷ [])) i ≡ Some (i * suc k, n)
    last q r whole few = by (leb (suc i) q) refl
      where
        by : (b : Bool) → leb (suc i) q ≡ b → nth (places_from 0 (replicate q (suc k) ++ suc r ∷ [])) i ≡ Some (i * suc k, n)
        by true e = absurd (too_early q (suc r) whole (leb-true (suc i) q e))
        by false e = let no = leb-false (suc i) q e in there q r whole (omega (arith, no, few))

    go : (r : ℕ) → n % suc k ≡ r → chunk_at (lengths_per n (suc k)) i ≡ Some (i * suc k, n)
    go zero e =
        let all = count_whole n (suc k) h e in
        absurd (too_early (n / suc k) (n % suc k) (div-add-mod n (suc k)) (omega (arith, w, all)))
    go (suc r) e =
        let all = count_broken n (suc k) h (omega (arith, e)) in
        let few : i < n / suc k + 1 = omega (arith, w, all) in
        ap (λ m. nth (places_from 0 (replicate (n / suc k) (suc k) ++ one_or_none m)) i) e
        ∙ last (n / suc k) r (subst (λ m. suc k * (n / suc k) + m ≡ n) e (div-add-mod n (suc k))) few

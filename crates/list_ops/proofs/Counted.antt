-- How large a List of so many elements is.
use Rattle.std.proofs.Common.{◌≡◌, ℕ, zero, suc, ◌+◌, ◌*◌, ◌<◌, ◌≤◌, min, refl, ap, sym, subst, ◌∙◌, List, [], ◌∷◌, ◌++◌, map, length, replicate, arith}
use Rattle.std.specs.Prelude.{ℤ, pos, negsuc, ◌+ℤ◌}
use Rattle.expr_tree.specs.Tree.{Tree, integer, trees, size, sizes, depths}
use Rattle.expr_tree.proofs.Callers.{tree_steps}
use Rattle.semantics.specs.declared.builtin.Builtin.{Builtin}
use Rattle.semantics.specs.Names.{Names, make}
use Rattle.semantics.specs.Worked.{Gives}
use Rattle.semantics.specs.Lists.{mapped, count_up, constant_array, array}
use Rattle.std.specs.Prelude.{Err}
use Rattle.builtin_names.specs.Results.{Works}
use Rattle.builtin_names.specs.declared.fault.Fault.TheVariants.{TooLarge, TooDeep}
use Rattle.std.proofs.Math.Nat.{mul-le-mul_left, mul-le-mul_right}
use Rattle.list_ops.specs.Counted.{count_of}
use Rattle.list_ops.proofs.Mapped.{mapped_sizes, size_some, more_times}

replicate_sizes : (n : ℕ) (x : Tree) → sizes (trees (replicate n x)) ≡ n * size x
replicate_sizes zero x = omega arith
replicate_sizes (suc n) x = omega (arith, replicate_sizes n x, more_times n (size x))

pub replicate_size : (names : Names) (n : ℕ) (x : Tree) → size (make names Builtin.List (replicate n x)) ≡ n * size x + 1
replicate_size names n x = omega (arith, replicate_sizes n x)

pub count_up_sizes : (a d : ℤ) (n : ℕ) → sizes (trees (count_up a d n)) ≡ n
count_up_sizes a d zero = refl
count_up_sizes a d (suc n) = omega (arith, count_up_sizes (a +ℤ d) d n)

count_up_length : (a d : ℤ) (n : ℕ) → length (count_up a d n) ≡ n
count_up_length a d zero = refl
count_up_length a d (suc n) = omega (arith, count_up_length (a +ℤ d) d n)

pub array_size : (names : Names) (f : Tree) (a d : ℤ) (n : ℕ) → size (make names Builtin.List (map (mapped f) (count_up a d n))) ≡ n * (size f + 1) + 1
array_size names f a d n =
    let h = mapped_sizes f (count_up a d n) in
    let k = count_up_sizes a d n in
    let m : length (count_up a d n) * size f ≡ n * size f = ap (λ j. j * size f) (count_up_length a d n) in
    omega (arith, h, k, m)

up_push : (m k : ℕ) → count_up (pos m) (pos 1) (suc k) ≡ count_up (pos m) (pos 1) k ++ integer (pos (m + k)) ∷ []
up_push m zero = let e : m ≡ m + 0 = omega arith in ap (λ j. integer (pos j) ∷ []) e
up_push m (suc k) =
    let e : m + 1 + k ≡ m + suc k = omega arith in
    ap (λ es. integer (pos m) ∷ es) (up_push (m + 1) k ∙ ap (λ j. count_up (pos (m + 1)) (pos 1) k ++ integer (pos j) ∷ []) e)

pub count_push : (k : ℕ) → count_up (pos 1) (pos 1) (k + 1) ≡ count_up (pos 1) (pos 1) k ++ integer (pos (k + 1)) ∷ []
count_push k =
    let a : k + 1 ≡ suc k = omega arith in
    let b : 1 + k ≡ k + 1 = omega arith in
    ap (count_up (pos 1) (pos 1)) a ∙ up_push 1 k ∙ ap (λ j. count_up (pos 1) (pos 1) k ++ integer (pos j) ∷ []) b

few : (k s : ℕ) → 1 ≤ s → min k 4000001 * s < 4000001 → min k 4000001 ≡ k
few k s p h = let q : min k 4000001 * 1 ≤ min k 4000001 * s = mul-le-mul_left (min k 4000001) p in omega arith

many : (k s m : ℕ) → m ≤ min k 4000001 * s → m ≤ k * s
many k s m h = let q : min k 4000001 * s ≤ k * s = mul-le-mul_right s (omega arith) in omega arith

pub constant_few : (names : Names) (x : Tree) (z : ℤ) → count_of z * size x < 4000000 → constant_array names (x ∷ integer z ∷ []) ≡ Gives (make names Builtin.List (replicate (count_of z) x))
constant_few names x (pos k) h = ap (λ n. Gives (make names Builtin.List (replicate n x))) (sym (few k (size x) (size_some x) (omega arith)))
constant_few names x (negsuc k) h = refl

pub constant_many : (names : Names) (x : Tree) (z : ℤ) → 4000000 ≤ count_of z * size x → Works (constant_array names (x ∷ integer z ∷ [])) (Err TooLarge)
constant_many names x (pos k) h = record { by = omega (arith, replicate_size names k x, many k (size x) 4000000 h) }
constant_many names x (negsuc k) h = absurd (omega arith)

pub array_few : (names : Names) (f : Tree) (z : ℤ) → 1 + count_of z * (size f + 1) ≤ 4000000 → array names (f ∷ integer z ∷ []) ≡ Gives (make names Builtin.List (map (mapped f) (count_up (pos 1) (pos 1) (count_of z))))
array_few names f (pos k) h = ap (λ n. Gives (make names Builtin.List (map (mapped f) (count_up (pos 1) (pos 1) n)))) (sym (few k (size f + 1) (omega arith) (omega arith)))
array_few names f (negsuc k) h = refl

pub array_many : (names : Names) (f : Tree) (z : ℤ) → 4000000 < 1 + count_of z * (size f + 1) → Works (array names (f ∷ integer z ∷ [])) (Err TooLarge)
array_many names f (pos k) h = record { by = omega (arith, array_size names f (pos 1) (pos 1) k, many k (size f + 1) 4000000 (omega arith)) }
array_many names f (negsuc k) h = absurd (omega arith)

pub array_deep : (names : Names) (f : Tree) (z : ℤ) (n s : ℕ) (es : List Tree) → n ≡ count_of z → s ≡ size f → es ≡ count_up (pos 1) (pos 1) n → 1 + n * (s + 1) ≤ 4000000 → 512 < depths (trees (map (mapped f) es)) → Works (array names (f ∷ integer z ∷ [])) (Err (TooDeep (1 + n * (s + 1))))
array_deep names f z n s es a b e few deep =
    let same : n * (s + 1) ≡ count_of z * (size f + 1) = (λ i. a i * (b i + 1)) in
    let t = make names Builtin.List (map (mapped f) (count_up (pos 1) (pos 1) (count_of z))) in
    let g : es ≡ count_up (pos 1) (pos 1) (count_of z) = e ∙ ap (count_up (pos 1) (pos 1)) a in
    let below : 512 < depths (trees (map (mapped f) (count_up (pos 1) (pos 1) (count_of z)))) = subst (λ xs. 512 < depths (trees (map (mapped f) xs))) g deep in
    let large : size t ≡ count_of z * (size f + 1) + 1 = array_size names f (pos 1) (pos 1) (count_of z) in
    subst (λ w. Works w (Err (TooDeep (1 + n * (s + 1))))) (sym (array_few names f z (omega (arith, same, few))))
    (record { by = (omega (arith, large, same), omega (arith, large, same, few), omega (arith, below)) })

pub ruleset repeated_steps = (tree_steps, constant_few, constant_many)

pub ruleset array_steps = (tree_steps, array_few, array_many, array_deep)

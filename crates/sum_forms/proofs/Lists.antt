-- Elements of an expression to be made.
use Rattle.std.proofs.Common.{◌≡◌, ◌<◌, ◌≤◌, ◌+◌, ◌-◌, ◌^◌, ℕ, ℤ, List, [], ◌∷◌, ◌++◌, length, Bool, true, false, refl, sym, ap, ◌∙◌, subst, arith, length-append}
use Rattle.std.specs.Prelude.{max, Result, Err, min}
use Rattle.std.specs.Ordering.{int_eq, is_le}
use Rattle.std.proofs.lemmas.Bool.Decides.{nat_tests}
use Rattle.expr_tree.specs.Order.{tree_cmp}
use Rattle.expr_tree.specs.Limits.{Assembles}
use Rattle.expr_tree.specs.declared.built.Built.{Built}
use Rattle.expr_tree.specs.declared.built.Built.TheVariants as bu
use Rattle.expr_tree.specs.Tree.{Tree, integer, string, symbol, normal, trees, size, sizes, depth, depths}
use Rattle.semantics.specs.Numbers.{assembled}
use Rattle.semantics.specs.Worked.{Gives}
use Rattle.semantics.specs.Names.{Names}
use Rattle.semantics.specs.Steps.{put_in, ordered}
use Rattle.semantics.specs.declared.builtin.Builtin.{Builtin}
use Rattle.builtin_names.specs.declared.fault.Fault.{Fault}
use Rattle.builtin_names.specs.declared.fault.Fault.TheVariants as fa
use Rattle.builtin_names.specs.Results.{IsFaultOf, Works}
use Rattle.sum_forms.specs.Planned.{Plan, Plans, Holds, Written, atoms_beside}
use Rattle.sum_forms.proofs.Order.{sizes-ordered, depths-ordered}
use Rattle.sum_forms.proofs.Shapes.{not_made}

pub sizes-append : (xs ys : List Tree) → sizes (trees (xs ++ ys)) ≡ sizes (trees xs) + sizes (trees ys)
sizes-append [] ys = omega arith
sizes-append (x ∷ xs) ys = omega (arith, sizes-append xs ys)

pub depths-append : (xs ys : List Tree) → depths (trees (xs ++ ys)) ≡ max (depths (trees xs)) (depths (trees ys))
depths-append [] ys = omega arith
depths-append (x ∷ xs) ys = omega (arith, depths-append xs ys)

pub size-positive : (t : Tree) → 1 ≤ size t
size-positive (integer n) = omega arith
size-positive (string s) = omega arith
size-positive (symbol s) = omega arith
size-positive (normal h ts) = omega (arith, size-positive h)

holds-more : (lost : Bool) (es ts : List Tree) (t : Tree) → Holds lost es ts → Holds lost (es ++ t ∷ []) (ts ++ t ∷ [])
holds-more true es ts t h = omega (arith, depths-append ts (t ∷ []))
holds-more false es ts t h = ap (λ l. l ++ t ∷ []) h

-- one more element that was made, or that was not
pub plans-made : (ts : List Tree) (t : Tree) (p q : Plan) → Plans ts p → q.held ≡ p.held ++ t ∷ [] → q.count ≡ min (p.count + 1) (2 ^ 64 - 1) → q.nodes ≡ p.nodes + size t → q.nodes ≤ 4000000 → q.is_lost ≡ p.is_lost → Plans (ts ++ t ∷ []) q
plans-made ts t p q plans held count nodes small lost = record {
  counted = omega (arith, plans.counted, plans.few, plans.small, length-append ts (t ∷ []));
  atoms = omega (arith, plans.atoms, sizes-append ts (t ∷ []));
  small = omega (arith, plans.atoms, sizes-append ts (t ∷ []));
  few = omega (arith, plans.few, sizes-append ts (t ∷ []), length-append ts (t ∷ []), size-positive t);
  holds = subst (λ l. Holds l q.held (ts ++ t ∷ [])) (sym lost) (subst (λ es. Holds p.is_lost es (ts ++ t ∷ [])) (sym held) (holds-more p.is_lost p.held ts t plans.holds));
}

pub plans-lost : (ts : List Tree) (t : Tree) (p q : Plan) → Plans ts p → 512 < depth t → q.count ≡ min (p.count + 1) (2 ^ 64 - 1) → q.nodes ≡ p.nodes + size t → q.nodes ≤ 4000000 → q.is_lost ≡ true → Plans (ts ++ t ∷ []) q
plans-lost ts t p q plans deep count nodes small lost = record {
  counted = omega (arith, plans.counted, plans.few, plans.small, length-append ts (t ∷ []));
  atoms = omega (arith, plans.atoms, sizes-append ts (t ∷ []));
  small = omega (arith, plans.atoms, sizes-append ts (t ∷ []));
  few = omega (arith, plans.few, sizes-append ts (t ∷ []), length-append ts (t ∷ []), size-positive t);
  holds = subst (λ l. Holds l q.held (ts ++ t ∷ [])) (sym lost) (omega (arith, depths-append ts (t ∷ [])));
}

pub too_large : (ts : List Tree) (t : Tree) (p : Plan) (more : ℕ) → Plans ts p → more ≡ size t → 4000000 < p.nodes + more → 4000000 < sizes (trees (ts ++ t ∷ []))
too_large ts t p more plans is large = omega (arith, plans.atoms, sizes-append ts (t ∷ []))

pub part_too_large : (ts : List Tree) (t : Tree) (term : Result Tree Built) (b : Built) → term ≡ Err b → b ≡ bu.TooLarge → Assembles t term → Written (ts ++ t ∷ []) (Err fa.TooLarge)
part_too_large ts t term b is large assembled =
    let size_is : 4000000 < size t = subst (λ (f : Built). Assembles t (Err f)) large (subst (Assembles t) is assembled) in
    record { by = omega (arith, sizes-append ts (t ∷ [])) }

-- what is too large in a part is too large in the whole
pub written-whole : (done rest whole : List Tree) (f : Fault) → done ++ rest ≡ whole → Written done (Err f) → Written whole (Err f)
written-whole done rest whole fa.TooLarge is w = record { by = omega (arith, w.by, sizes-append done rest, ap (λ l. sizes (trees l)) is) }
written-whole done rest whole fa.NoMemory is w = record { by = w.by }
written-whole done rest whole fa.Range is w = absurd w.by
written-whole done rest whole (fa.TooDeep nodes) is w = absurd w.by

length-put_in-at : (e x : Tree) (xs : List Tree) (test : Bool) → is_le (tree_cmp e x) ≡ test → length (put_in e xs) ≡ length xs + 1 → length (put_in e (x ∷ xs)) ≡ length (x ∷ xs) + 1
length-put_in-at e x xs true t q = rw t (omega arith)
length-put_in-at e x xs false t q = rw t (omega arith)

length-put_in : (e : Tree) (xs : List Tree) → length (put_in e xs) ≡ length xs + 1
length-put_in e [] = refl
length-put_in e (x ∷ xs) = length-put_in-at e x xs (is_le (tree_cmp e x)) refl (length-put_in e xs)

length-ordered : (ts : List Tree) → length (ordered ts) ≡ length ts
length-ordered [] = refl
length-ordered (t ∷ ts) = omega (arith, length-put_in t (ordered ts), length-ordered ts)

size-beside : (names : Names) (row : Builtin) (unit whole : ℤ) (es : List Tree) (same : Bool) → int_eq whole unit ≡ same → 0 < length es → size (assembled names row unit whole es) ≡ sizes (trees es) + atoms_beside (length es) same
size-beside names row unit whole [] same e p = absurd (omega arith)
size-beside names row unit whole (t ∷ []) true e p = rw (e, assembled) (omega arith)
size-beside names row unit whole (t ∷ []) false e p = rw (e, assembled) (omega arith)
size-beside names row unit whole (t ∷ u ∷ es) true e p = rw (e, assembled) (grind (arith, nat_tests))
size-beside names row unit whole (t ∷ u ∷ es) false e p = rw (e, assembled) (omega arith)

deep-beside : (names : Names) (row : Builtin) (unit whole : ℤ) (es : List Tree) (same : Bool) → int_eq whole unit ≡ same → 512 < depths (trees es) → 512 < depth (assembled names row unit whole es)
deep-beside names row unit whole [] same e p = absurd (omega arith)
deep-beside names row unit whole (t ∷ []) true e p = rw (e, assembled) (omega arith)
deep-beside names row unit whole (t ∷ []) false e p = rw (e, assembled) (omega arith)
deep-beside names row unit whole (t ∷ u ∷ es) true e p = rw (e, assembled) (omega arith)
deep-beside names row unit whole (t ∷ u ∷ es) false e p = rw (e, assembled) (omega arith)

lost : (ts : List Tree) (p : Plan) → Plans ts p → p.is_lost ≡ true → 512 < depths (trees ts)
lost ts p plans is = subst (λ l. Holds l p.held ts) is plans.holds

pub kept : (ts : List Tree) (p : Plan) → Plans ts p → p.is_lost ≡ false → p.held ≡ ts
kept ts p plans is = subst (λ l. Holds l p.held ts) is plans.holds

some : (ts : List Tree) → 512 < depths (trees ts) → 0 < length ts
some [] p = absurd (omega arith)
some (t ∷ ts) p = omega arith

size-whole : (names : Names) (row : Builtin) (unit whole : ℤ) (ts : List Tree) (p : Plan) → Plans ts p → p.is_lost ≡ true → size (assembled names row unit whole (ordered ts)) ≡ p.nodes + atoms_beside p.count (int_eq whole unit)
size-whole names row unit whole ts p plans is =
    size-beside names row unit whole (ordered ts) (int_eq whole unit) refl (omega (arith, some ts (lost ts p plans is), length-ordered ts))
    ∙ ap (λ n. n + atoms_beside (length (ordered ts)) (int_eq whole unit)) (sizes-ordered ts ∙ sym plans.atoms)
    ∙ ap (λ n. p.nodes + atoms_beside n (int_eq whole unit)) (length-ordered ts ∙ sym plans.counted)

pub lost-deep : (names : Names) (row : Builtin) (unit whole : ℤ) (ts : List Tree) (p : Plan) (sum : ℕ) → Plans ts p → p.is_lost ≡ true → sum ≡ p.nodes + atoms_beside p.count (int_eq whole unit) → sum ≤ 4000000 → IsFaultOf (assembled names row unit whole (ordered ts)) (fa.TooDeep sum)
lost-deep names row unit whole ts p sum plans is total small =
    let whole_size = size-whole names row unit whole ts p plans is in
    (total ∙ sym whole_size, omega (arith, whole_size), deep-beside names row unit whole (ordered ts) (int_eq whole unit) refl (omega (arith, depths-ordered ts, lost ts p plans is)))

pub lost-large : (names : Names) (row : Builtin) (unit whole : ℤ) (ts : List Tree) (p : Plan) → Plans ts p → p.is_lost ≡ true → 4000000 < p.nodes + atoms_beside p.count (int_eq whole unit) → 4000000 < size (assembled names row unit whole (ordered ts))
lost-large names row unit whole ts p plans is large = omega (arith, size-whole names row unit whole ts p plans is)

size-least : (names : Names) (row : Builtin) (unit whole : ℤ) (es : List Tree) (same : Bool) → int_eq whole unit ≡ same → 4000000 < sizes (trees es) → 4000000 < size (assembled names row unit whole es)
size-least names row unit whole [] same e p = absurd (omega arith)
size-least names row unit whole (t ∷ es) same e p = omega (arith, size-beside names row unit whole (t ∷ es) same e (omega arith))

-- what is written, and is not all made
pub written-fault : (names : Names) (row : Builtin) (unit whole : ℤ) (ts : List Tree) (f : Fault) → Written ts (Err f) → Works (Gives (assembled names row unit whole (ordered ts))) (Err f)
written-fault names row unit whole ts fa.TooLarge w = record { by = size-least names row unit whole (ordered ts) (int_eq whole unit) refl (omega (arith, w.by, sizes-ordered ts)) }
written-fault names row unit whole ts fa.NoMemory w = record { by = w.by }
written-fault names row unit whole ts fa.Range w = absurd w.by
written-fault names row unit whole ts (fa.TooDeep nodes) w = absurd w.by

pub ruleset terms_steps = (plans-made, plans-lost, too_large)

pub ruleset fault_steps = (sizes-ordered, depths-ordered)

pub ruleset beside_steps = (not_made)

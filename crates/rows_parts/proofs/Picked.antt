-- Looking for parts, from left to right.
use Rattle.std.proofs.Common.{◌≡◌, ℕ, zero, suc, ◌+◌, ◌<◌, ◌≤◌, max, refl, ap, sym, subst, ◌∙◌, Bool, true, false, List, [], ◌∷◌, ◌++◌, Option, Some, None, Result, Ok, Err, length, get_or, drop, drop-cons, add-one, append_assoc, append-nil, arith}
use Rattle.std.specs.Prelude.{ℤ, pos, negsuc, reverse, is_some}
use Rattle.std.proofs.lemmas.List.{drop_all, reverse-append}
use Rattle.expr_tree.specs.declared.sym.Sym.{Sym}
use Rattle.expr_tree.specs.Tree.{Tree, Trees, integer, string, symbol, normal, call, elements, trees, size, sizes, depth, depths}
use Rattle.expr_tree.proofs.Callers.{tree_steps}
use Rattle.expr_tree.proofs.Trees.{elements-trees, trees-elements}
use Rattle.semantics.specs.declared.builtin.Builtin.{Builtin}
use Rattle.semantics.specs.Names.{Names, is_name}
use Rattle.semantics.specs.Lists.{at, part_at, parts_at, each, with_head, part_of, given}
use Rattle.builtin_names.specs.Results.{Works}
use Rattle.builtin_names.specs.declared.fault.Fault.TheVariants as fa
use Rattle.expr_tree.specs.declared.built.Built.{Built}
use Rattle.expr_tree.specs.declared.built.Built.TheVariants.{TooLarge, TooDeep, NoMemory}
use Rattle.rows_parts.specs.Finds.{picked, at_index, Finds, FindsAll, MakesShallow}

next : (es : List Tree) (i : ℕ) (x : Tree) → i < length es → x ≡ get_or es i x → drop i es ≡ x ∷ drop (i + 1) es
next es i x p is = rw (drop-cons es i x p, add-one) (ap (λ u. u ∷ drop (suc i) es) (sym is))

-- ---- parts at numbers

abbrev pub behind : List Tree → Option (List Tree) → Option (List Tree)
behind done None = None
behind done (Some more) = Some (done ++ more)

pub behind_nothing : (o : Option (List Tree)) → behind [] o ≡ o
behind_nothing None = refl
behind_nothing (Some more) = refl

abbrev taken_with : (Tree → Option Tree) → Option (List Tree) → Option (List Tree)
taken_with f o = elim o [ None ↦ None | Some fs ↦ each f fs ]

abbrev before : Option Tree → Option (List Tree) → Option (List Tree)
before p o = elim p [ None ↦ None | Some f ↦ elim o [ None ↦ None | Some fs ↦ Some (f ∷ fs) ] ]

nothing_left : (p : Option Tree) → before p None ≡ None
nothing_left None = refl
nothing_left (Some f) = refl

-- one number: its part, looked at further, stands before what the other numbers name
first_of : (f : Tree → Option Tree) (e : Tree) (z : ℤ) (ns : List Tree) (p : Tree) → part_at e z ≡ Some p → picked f e (integer z ∷ ns) ≡ before (f p) (picked f e ns)
first_of f e z ns p is = ap (λ o. taken_with f (before o (parts_at e ns))) is ∙ go (parts_at e ns)
  where
    go : (o : Option (List Tree)) → taken_with f (before (Some p) o) ≡ before (f p) (taken_with f o)
    go None = sym (nothing_left (f p))
    go (Some fs) = refl

no_part : (f : Tree → Option Tree) (e : Tree) (z : ℤ) (ns : List Tree) → part_at e z ≡ None → picked f e (integer z ∷ ns) ≡ None
no_part f e z ns is = ap (λ o. taken_with f (before o (parts_at e ns))) is

abbrev is_integer : Tree → Bool
is_integer (integer n) = true
is_integer e = false

no_number : (f : Tree → Option Tree) (e x : Tree) (ns : List Tree) → is_integer x ≡ false → picked f e (x ∷ ns) ≡ None
no_number f e (integer n) ns other = cc
no_number f e (string t) ns other = refl
no_number f e (symbol s) ns other = refl
no_number f e (normal h ts) ns other = refl

-- ---- the elements of what is found

sizes_push : (es : List Tree) (x : Tree) → sizes (trees (es ++ x ∷ [])) ≡ sizes (trees es) + size x
sizes_push [] x = omega arith
sizes_push (e ∷ es) x = omega (arith, sizes_push es x)

sizes_behind : (es fs : List Tree) → sizes (trees (es ++ fs)) ≡ sizes (trees es) + sizes (trees fs)
sizes_behind [] fs = omega arith
sizes_behind (e ∷ es) fs = omega (arith, sizes_behind es fs)

behind_push : (done : List Tree) (q : Tree) (o : Option (List Tree)) → behind done (before (Some q) o) ≡ behind (done ++ q ∷ []) o
behind_push done q None = refl
behind_push done q (Some more) = ap Some (sym (append_assoc done (q ∷ []) more))

some_inj : {X : Type 0} {x y : X} → Some x ≡ Some y → x ≡ y
some_inj {x = x} p = ap (λ o. elim o as (λ _. _) [ None ↦ x | Some v ↦ v ]) p

no_some : {X : Type 0} {x : X} → None ≡ Some x → ⊥
no_some p = cc (p)

-- what is behind elements is as large as they are
large_behind : (done : List Tree) (o : Option (List Tree)) (n : ℕ) (ts : List Tree) → n ≤ sizes (trees done) → behind done o ≡ Some ts → n ≤ sizes (trees ts)
large_behind done None n ts p is = absurd (no_some is)
large_behind done (Some more) n ts p is = subst (λ us. n ≤ sizes (trees us)) (some_inj is) (omega (arith, sizes_behind done more, p))

large_first : (done : List Tree) (q : Option Tree) (o : Option (List Tree)) (ts : List Tree) → ((t : Tree) → q ≡ Some t → 4000000 < size t) → behind done (before q o) ≡ Some ts → 4000000 < sizes (trees ts)
large_first done None o ts large is = absurd (no_some is)
large_first done (Some t) o ts large is =
    let l : 4000000 < size t = large t refl in
    large_behind (done ++ t ∷ []) o 4000001 ts (omega (arith, sizes_push done t, l)) (sym (behind_push done t o) ∙ is)

-- ---- the loop over numbers

abbrev further : Names → List Tree → Tree → List Tree → Option (List Tree)
further names is e ns = picked (part_of names is) e ns

each_more : (names : Names) (is : List Tree) (e : Tree) (ns : List Tree) (i : ℕ) (x : Tree) (z : ℤ) (p q : Tree) (done : List Tree) → i < length ns → x ≡ get_or ns i x → integer z ≡ x → part_at e z ≡ Some p
    → Finds (part_of names is p) (Ok (Some q)) → behind done (picked (part_of names is) e (drop i ns)) ≡ behind (done ++ q ∷ []) (picked (part_of names is) e (drop (i + 1) ns))
each_more names is e ns i x z p q done inside at number part found =
    ap (λ ms. behind done (further names is e ms)) (next ns i x inside at)
    ∙ ap (λ y. behind done (further names is e (y ∷ drop (i + 1) ns))) (sym number)
    ∙ ap (behind done) (first_of (part_of names is) e z (drop (i + 1) ns) p part)
    ∙ ap (λ o. behind done (before o (further names is e (drop (i + 1) ns)))) (sym found.by)
    ∙ behind_push done q (further names is e (drop (i + 1) ns))

left_at : (names : Names) (is : List Tree) (e : Tree) (ns : List Tree) (i : ℕ) (x : Tree) (done : List Tree) → behind done (picked (part_of names is) e (drop i ns)) ≡ picked (part_of names is) e ns → i < length ns → x ≡ get_or ns i x
    → behind done (picked (part_of names is) e (x ∷ drop (i + 1) ns)) ≡ picked (part_of names is) e ns
left_at names is e ns i x done whole inside at = ap (λ ms. behind done (further names is e ms)) (sym (next ns i x inside at)) ∙ whole

-- one index of any shape
first_at : (f : Tree → Option Tree) (e x : Tree) (ns : List Tree) → picked f e (x ∷ ns) ≡ before (at_index f e x) (picked f e ns)
first_at f e (integer z) ns = go (part_at e z) (parts_at e ns)
  where
    go : (p : Option Tree) (o : Option (List Tree)) → taken_with f (before p o) ≡ before (elim p as (λ _. Option Tree) [ None ↦ None | Some g ↦ f g ]) (taken_with f o)
    go None o = refl
    go (Some g) None = sym (nothing_left (f g))
    go (Some g) (Some fs) = refl
first_at f e (string t) ns = refl
first_at f e (symbol s) ns = refl
first_at f e (normal h ts) ns = refl

-- what the numbers name, from the one at a place on
whole_at : (names : Names) (is : List Tree) (e : Tree) (ns : List Tree) (i : ℕ) (x : Tree) (done : List Tree) → behind done (picked (part_of names is) e (drop i ns)) ≡ picked (part_of names is) e ns → i < length ns → x ≡ get_or ns i x
    → behind done (before (at_index (part_of names is) e x) (picked (part_of names is) e (drop (i + 1) ns))) ≡ picked (part_of names is) e ns
whole_at names is e ns i x done whole inside at = sym (ap (behind done) (first_at (part_of names is) e x (drop (i + 1) ns))) ∙ left_at names is e ns i x done whole inside at

pub each_none : (names : Names) (is : List Tree) (e : Tree) (ns : List Tree) (i : ℕ) (x : Tree) (done : List Tree) → behind done (picked (part_of names is) e (drop i ns)) ≡ picked (part_of names is) e ns → i < length ns → x ≡ get_or ns i x
    → Finds (at_index (part_of names is) e x) (Ok None) → FindsAll (picked (part_of names is) e ns) (Ok None)
each_none names is e ns i x done whole inside at found = record {
  by = ap (λ o. behind done (before o (further names is e (drop (i + 1) ns)))) found.by ∙ whole_at names is e ns i x done whole inside at;
}

pub each_fault : (names : Names) (is : List Tree) (e : Tree) (ns : List Tree) (i : ℕ) (x : Tree) (done : List Tree) (b : Built) → behind done (picked (part_of names is) e (drop i ns)) ≡ picked (part_of names is) e ns → i < length ns → x ≡ get_or ns i x
    → Finds (at_index (part_of names is) e x) (Err b) → FindsAll (picked (part_of names is) e ns) (Err b)
each_fault names is e ns i x done TooLarge whole inside at found = record {
  by = λ ts some. large_first done (at_index (part_of names is) e x) (further names is e (drop (i + 1) ns)) ts found.by (whole_at names is e ns i x done whole inside at ∙ some);
}
each_fault names is e ns i x done (TooDeep n) whole inside at found = absurd found.by
each_fault names is e ns i x done NoMemory whole inside at found = record { by = tt }

pub each_whole : (names : Names) (is : List Tree) (e : Tree) (ns : List Tree) (i : ℕ) (x q : Tree) (done longer : List Tree) → longer ≡ done ++ q ∷ [] → behind done (picked (part_of names is) e (drop i ns)) ≡ picked (part_of names is) e ns → i < length ns
    → x ≡ get_or ns i x → Finds (at_index (part_of names is) e x) (Ok (Some q)) → behind longer (picked (part_of names is) e (drop (i + 1) ns)) ≡ picked (part_of names is) e ns
each_whole names is e ns i x q done longer pushed whole inside at found =
    ap (λ es. behind es (further names is e (drop (i + 1) ns))) pushed
    ∙ sym (behind_push done q (further names is e (drop (i + 1) ns)))
    ∙ ap (λ o. behind done (before o (further names is e (drop (i + 1) ns)))) found.by
    ∙ whole_at names is e ns i x done whole inside at

pub each_large : (names : Names) (is : List Tree) (e : Tree) (ns : List Tree) (i : ℕ) (x q : Tree) (done : List Tree) (n m : ℕ) → behind done (picked (part_of names is) e (drop i ns)) ≡ picked (part_of names is) e ns → i < length ns → x ≡ get_or ns i x
    → Finds (at_index (part_of names is) e x) (Ok (Some q)) → n ≡ sizes (trees done) → m ≡ size q → 4000000 < n + m → FindsAll (picked (part_of names is) e ns) (Err TooLarge)
each_large names is e ns i x q done n m whole inside at found total one large = record {
  by = λ ts some.
      large_behind (done ++ q ∷ []) (further names is e (drop (i + 1) ns)) 4000001 ts (omega (arith, sizes_push done q, total, one, large))
      (each_whole names is e ns i x q done (done ++ q ∷ []) refl whole inside at found ∙ some);
}

pub each_total : (done longer : List Tree) (q : Tree) (n m : ℕ) → longer ≡ done ++ q ∷ [] → n ≡ sizes (trees done) → m ≡ size q → n + m ≡ sizes (trees longer)
each_total done longer q n m pushed total one = subst (λ es. n + m ≡ sizes (trees es)) (sym pushed) (omega (arith, sizes_push done q, total, one))

pub fault_in : (names : Names) (is : List Tree) (e : Tree) (ns : List Tree) (i : ℕ) (x : Tree) (done : List Tree) (b : Built) (r : Result (Option Tree) Built) → behind done (picked (part_of names is) e (drop i ns)) ≡ picked (part_of names is) e ns → i < length ns → x ≡ get_or ns i x
    → r ≡ Err b → Finds (at_index (part_of names is) e x) r → FindsAll (picked (part_of names is) e ns) (Err b)
fault_in names is e ns i x done b r whole inside at same found = each_fault names is e ns i x done b whole inside at (subst (λ q. Finds (at_index (part_of names is) e x) q) same found)

some_in : (names : Names) (is : List Tree) (e x q : Tree) (o : Option Tree) (r : Result (Option Tree) Built) → r ≡ Ok o → o ≡ Some q → Finds (at_index (part_of names is) e x) r → Finds (at_index (part_of names is) e x) (Ok (Some q))
some_in names is e x q o r a b found = subst (λ u. Finds (at_index (part_of names is) e x) u) (a ∙ ap Ok b) found

pub whole_in : (names : Names) (is : List Tree) (e : Tree) (ns : List Tree) (i : ℕ) (x q : Tree) (done longer : List Tree) (o : Option Tree) (r : Result (Option Tree) Built) → longer ≡ done ++ q ∷ [] → behind done (picked (part_of names is) e (drop i ns)) ≡ picked (part_of names is) e ns → i < length ns
    → x ≡ get_or ns i x → r ≡ Ok o → o ≡ Some q → Finds (at_index (part_of names is) e x) r → behind longer (picked (part_of names is) e (drop (i + 1) ns)) ≡ picked (part_of names is) e ns
whole_in names is e ns i x q done longer o r pushed whole inside at a b found = each_whole names is e ns i x q done longer pushed whole inside at (some_in names is e x q o r a b found)

pub large_in : (names : Names) (is : List Tree) (e : Tree) (ns : List Tree) (i : ℕ) (x q : Tree) (done : List Tree) (n m : ℕ) (o : Option Tree) (r : Result (Option Tree) Built) → behind done (picked (part_of names is) e (drop i ns)) ≡ picked (part_of names is) e ns → i < length ns → x ≡ get_or ns i x
    → r ≡ Ok o → o ≡ Some q → Finds (at_index (part_of names is) e x) r → n ≡ sizes (trees done) → m ≡ size q → 4000000 < n + m → FindsAll (picked (part_of names is) e ns) (Err TooLarge)
large_in names is e ns i x q done n m o r whole inside at a b found total one large = each_large names is e ns i x q done n m whole inside at (some_in names is e x q o r a b found) total one large

pub each_end : (names : Names) (is : List Tree) (e : Tree) (ns : List Tree) (i : ℕ) (done : List Tree) → behind done (picked (part_of names is) e (drop i ns)) ≡ picked (part_of names is) e ns → length ns ≤ i
    → FindsAll (picked (part_of names is) e ns) (Ok (Some done))
each_end names is e ns i done whole all = record {
  by = ap Some (sym (append-nil done)) ∙ ap (λ ms. behind done (further names is e ms)) (sym (drop_all i ns all)) ∙ whole;
}

pub ruleset each_steps = (tree_steps, behind_nothing, each_whole, each_none, each_fault, each_large, each_total, each_end)

-- ---- one index

pub at_some : (names : Names) (is : List Tree) (e x p : Tree) (z : ℤ) (r : Result (Option Tree) Built) → integer z ≡ x → part_at e z ≡ Some p → Finds (part_of names is p) r → Finds (at_index (part_of names is) e x) r
at_some names is e x p z r number part found =
    subst (λ y. Finds (at_index (part_of names is) e y) r) number
    (subst (λ o. Finds (elim o as (λ _. Option Tree) [ None ↦ None | Some g ↦ part_of names is g ]) r) (sym part) found)

pub at_none : (names : Names) (is : List Tree) (e x : Tree) (z : ℤ) → integer z ≡ x → part_at e z ≡ None → Finds (at_index (part_of names is) e x) (Ok None)
at_none names is e x z number part =
    subst (λ y. Finds (at_index (part_of names is) e y) (Ok None)) number
    (subst (λ o. Finds (elim o as (λ _. Option Tree) [ None ↦ None | Some g ↦ part_of names is g ]) (Ok None)) (sym part) (record { by = refl }))

pub at_string : (names : Names) (is : List Tree) (e x : Tree) (t : List ℕ) → string t ≡ x → Finds (at_index (part_of names is) e x) (Ok None)
at_string names is e x t shape = subst (λ y. Finds (at_index (part_of names is) e y) (Ok None)) shape (record { by = refl })

pub at_symbol : (names : Names) (is : List Tree) (e x : Tree) (s : Sym) → symbol s ≡ x → Finds (at_index (part_of names is) e x) (Ok None)
at_symbol names is e x s shape = subst (λ y. Finds (at_index (part_of names is) e y) (Ok None)) shape (record { by = refl })

pub at_normal : (names : Names) (is : List Tree) (e x h : Tree) (ts : Trees) → normal h ts ≡ x → Finds (at_index (part_of names is) e x) (Ok None)
at_normal names is e x h ts shape = subst (λ y. Finds (at_index (part_of names is) e y) (Ok None)) shape (record { by = refl })

pub ruleset at_steps = (tree_steps, at_some, at_none, at_string, at_symbol, at_normal)

-- ---- one level

pub level_atom : (e : Tree) (o : Option (List Tree)) → ((h : Tree) (ts : Trees) → normal h ts ≡ e → ⊥) → Finds (with_head e o) (Ok None)
level_atom (integer n) o other = record { by = refl }
level_atom (string t) o other = record { by = refl }
level_atom (symbol s) o other = record { by = refl }
level_atom (normal h ts) o other = absurd (other h ts refl)

pub level_integer : (e : Tree) (o : Option (List Tree)) (n : ℤ) → integer n ≡ e → Finds (with_head e o) (Ok None)
level_integer e o n is = subst (λ f. Finds (with_head f o) (Ok None)) is (record { by = refl })

pub level_string : (e : Tree) (o : Option (List Tree)) (t : List ℕ) → string t ≡ e → Finds (with_head e o) (Ok None)
level_string e o t is = subst (λ f. Finds (with_head f o) (Ok None)) is (record { by = refl })

pub level_symbol : (e : Tree) (o : Option (List Tree)) (s : Sym) → symbol s ≡ e → Finds (with_head e o) (Ok None)
level_symbol e o s is = subst (λ f. Finds (with_head f o) (Ok None)) is (record { by = refl })

headless : (e : Tree) → with_head e None ≡ None
headless (integer n) = refl
headless (string t) = refl
headless (symbol s) = refl
headless (normal h ts) = refl

pub level_none : (e : Tree) (o : Option (List Tree)) → FindsAll o (Ok None) → Finds (with_head e o) (Ok None)
level_none e o found = record { by = sym (ap (with_head e) (sym found.by) ∙ headless e) }

large_level : (e : Tree) (o : Option (List Tree)) → ((ts : List Tree) → o ≡ Some ts → 4000000 < sizes (trees ts)) → (t : Tree) → with_head e o ≡ Some t → 4000000 < size t
large_level (integer n) o large t is = absurd (no_some is)
large_level (string s) o large t is = absurd (no_some is)
large_level (symbol s) o large t is = absurd (no_some is)
large_level (normal h es) None large t is = absurd (no_some is)
large_level (normal h es) (Some ts) large t is =
    let l : 4000000 < sizes (trees ts) = large ts refl in
    subst (λ u. 4000000 < size u) (some_inj is) (omega (arith, l))

pub level_fault : (e : Tree) (o : Option (List Tree)) (b : Built) → FindsAll o (Err b) → Finds (with_head e o) (Err b)
level_fault e o TooLarge found = record { by = large_level e o found.by }
level_fault e o (TooDeep n) found = absurd found.by
level_fault e o NoMemory found = record { by = tt }

level_is : (e h : Tree) (ts : Trees) (o : Option (List Tree)) (fs : List Tree) → normal h ts ≡ e → FindsAll o (Ok (Some fs)) → with_head e o ≡ Some (call h fs)
level_is e h ts o fs is found = ap (with_head e) (sym found.by) ∙ ap (λ f. with_head f (Some fs)) (sym is)

pub level_made : (e h made : Tree) (ts : Trees) (o : Option (List Tree)) (fs : List Tree) → normal h ts ≡ e → FindsAll o (Ok (Some fs)) → MakesShallow (call h fs) (Ok made) → Finds (with_head e o) (Ok (Some made))
level_made e h made ts o fs is found made_is = record { by = ap Some made_is.by ∙ sym (level_is e h ts o fs is found) }

pub level_unmade : (e h : Tree) (ts : Trees) (o : Option (List Tree)) (fs : List Tree) (b : Built) → normal h ts ≡ e → FindsAll o (Ok (Some fs)) → MakesShallow (call h fs) (Err b) → Finds (with_head e o) (Err b)
level_unmade e h ts o fs TooLarge is found large = record { by = λ t some. subst (λ u. 4000000 < size u) (some_inj (sym (level_is e h ts o fs is found) ∙ some)) large.by }
level_unmade e h ts o fs (TooDeep n) is found deep = absurd deep.by
level_unmade e h ts o fs NoMemory is found none' = record { by = tt }

-- ---- no part is deeper than the expression

depth_at : (es : List Tree) (n : ℕ) (f : Tree) → at es n ≡ Some f → depth f ≤ depths (trees es)
depth_at [] n f is = absurd (no_some is)
depth_at (e ∷ es) zero f is = subst (λ g. depth g ≤ depths (trees (e ∷ es))) (some_inj is) (omega arith)
depth_at (e ∷ es) (suc n) f is = let h : depth f ≤ depths (trees es) = depth_at es n f is in omega (arith, h)

depths_push : (es : List Tree) (x : Tree) → depths (trees (es ++ x ∷ [])) ≡ max (depths (trees es)) (depth x)
depths_push [] x = omega arith
depths_push (e ∷ es) x = omega (arith, depths_push es x)

depths_reverse : (es : List Tree) → depths (trees (reverse es)) ≡ depths (trees es)
depths_reverse [] = refl
depths_reverse (e ∷ es) =
    let a : depths (trees (reverse (e ∷ es))) ≡ depths (trees (reverse es ++ e ∷ [])) = ap (λ fs. depths (trees fs)) (reverse-append (e ∷ []) es) in
    omega (arith, a, depths_push (reverse es) e, depths_reverse es)

abbrev inner : Tree → ℕ
inner (normal h ts) = max (depth h) (depths ts)
inner e = 0

part_depth : (e : Tree) (z : ℤ) (f : Tree) → part_at e z ≡ Some f → depth f ≤ inner e
part_depth (integer n) z f is = absurd (no_some is)
part_depth (string t) z f is = absurd (no_some is)
part_depth (symbol s) z f is = absurd (no_some is)
part_depth (normal h ts) (pos zero) f is = subst (λ g. depth g ≤ max (depth h) (depths ts)) (some_inj is) (omega arith)
part_depth (normal h ts) (pos (suc n)) f is =
    let p : depth f ≤ depths (trees (elements ts)) = depth_at (elements ts) n f is in
    let q : depths (trees (elements ts)) ≡ depths ts = ap depths (trees-elements ts) in
    omega (arith, p, q)
part_depth (normal h ts) (negsuc n) f is =
    let p : depth f ≤ depths (trees (reverse (elements ts))) = depth_at (reverse (elements ts)) n f is in
    let r : depths (trees (reverse (elements ts))) ≡ depths (trees (elements ts)) = depths_reverse (elements ts) in
    let q : depths (trees (elements ts)) ≡ depths ts = ap depths (trees-elements ts) in
    omega (arith, p, r, q)

parts_depth : (e : Tree) (ns : List Tree) (fs : List Tree) → parts_at e ns ≡ Some fs → depths (trees fs) ≤ inner e
parts_depth e [] fs is = subst (λ gs. depths (trees gs) ≤ inner e) (some_inj is) (omega arith)
parts_depth e (integer z ∷ ns) fs is = go (part_at e z) (parts_at e ns) refl refl (parts_depth e ns) is
  where
    go : (p : Option Tree) (o : Option (List Tree)) → part_at e z ≡ p → parts_at e ns ≡ o → ((gs : List Tree) → parts_at e ns ≡ Some gs → depths (trees gs) ≤ inner e) → before p o ≡ Some fs → depths (trees fs) ≤ inner e
    go None o a b rest whole = absurd (no_some whole)
    go (Some f) None a b rest whole = absurd (no_some whole)
    go (Some f) (Some gs) a b rest whole =
        let p : depth f ≤ inner e = part_depth e z f a in
        let q : depths (trees gs) ≤ inner e = rest gs b in
        subst (λ hs. depths (trees hs) ≤ inner e) (some_inj whole) (omega (arith, p, q))
parts_depth e (string t ∷ ns) fs is = absurd (no_some is)
parts_depth e (symbol s ∷ ns) fs is = absurd (no_some is)
parts_depth e (normal h ts ∷ ns) fs is = absurd (no_some is)

each_depth : (f : Tree → Option Tree) → ((x t : Tree) → f x ≡ Some t → depth t ≤ depth x) → (es fs : List Tree) → each f es ≡ Some fs → depths (trees fs) ≤ depths (trees es)
each_depth f below [] fs is = subst (λ gs. depths (trees gs) ≤ 0) (some_inj is) (omega arith)
each_depth f below (e ∷ es) fs is = go (f e) (each f es) refl refl (each_depth f below es) is
  where
    go : (p : Option Tree) (o : Option (List Tree)) → f e ≡ p → each f es ≡ o → ((gs : List Tree) → each f es ≡ Some gs → depths (trees gs) ≤ depths (trees es)) → before p o ≡ Some fs → depths (trees fs) ≤ depths (trees (e ∷ es))
    go None o a b rest whole = absurd (no_some whole)
    go (Some g) None a b rest whole = absurd (no_some whole)
    go (Some g) (Some gs) a b rest whole =
        let p : depth g ≤ depth e = below e g a in
        let q : depths (trees gs) ≤ depths (trees es) = rest gs b in
        subst (λ hs. depths (trees hs) ≤ depths (trees (e ∷ es))) (some_inj whole) (omega (arith, p, q))

picked_depth : (f : Tree → Option Tree) → ((x t : Tree) → f x ≡ Some t → depth t ≤ depth x) → (e : Tree) (ns fs : List Tree) → picked f e ns ≡ Some fs → depths (trees fs) ≤ inner e
picked_depth f below e ns fs is = go (parts_at e ns) refl is
  where
    go : (o : Option (List Tree)) → parts_at e ns ≡ o → taken_with f o ≡ Some fs → depths (trees fs) ≤ inner e
    go None a whole = absurd (no_some whole)
    go (Some gs) a whole =
        let p : depths (trees gs) ≤ inner e = parts_depth e ns gs a in
        let q : depths (trees fs) ≤ depths (trees gs) = each_depth f below gs fs whole in
        omega (arith, p, q)

headed_depth : (e : Tree) (o : Option (List Tree)) (t : Tree) → ((fs : List Tree) → o ≡ Some fs → depths (trees fs) ≤ inner e) → with_head e o ≡ Some t → depth t ≤ depth e
headed_depth (integer n) o t below is = absurd (no_some is)
headed_depth (string s) o t below is = absurd (no_some is)
headed_depth (symbol s) o t below is = absurd (no_some is)
headed_depth (normal h es) None t below is = absurd (no_some is)
headed_depth (normal h es) (Some fs) t below is =
    let p : depths (trees fs) ≤ max (depth h) (depths es) = below fs refl in
    subst (λ u. depth u ≤ depth (normal h es)) (some_inj is) (omega (arith, p))

inner_below : (e : Tree) → inner e ≤ depth e
inner_below (integer n) = omega arith
inner_below (string t) = omega arith
inner_below (symbol s) = omega arith
inner_below (normal h ts) = omega arith

abbrev from_list : Names → List Tree → Tree → List Tree → Bool → Option Tree
from_list names is e ns t = elim t [ true ↦ elim (parts_at e ns) [ None ↦ None | Some fs ↦ with_head e (each (part_of names is) fs) ] | false ↦ None ]

from_picked : (f : Tree → Option Tree) (e : Tree) (o : Option (List Tree)) → elim o as (λ _. Option Tree) [ None ↦ None | Some fs ↦ with_head e (each f fs) ] ≡ with_head e (taken_with f o)
from_picked f e None = sym (headless e)
from_picked f e (Some fs) = refl

found_depth : (names : Names) (is : List Tree) (e t : Tree) → part_of names is e ≡ Some t → depth t ≤ depth e
found_depth names [] e t is = subst (λ u. depth u ≤ depth e) (some_inj is) (omega arith)
found_depth names (integer z ∷ is) e t whole = go (part_at e z) refl (found_depth names is) whole
  where
    go : (p : Option Tree) → part_at e z ≡ p → ((x u : Tree) → part_of names is x ≡ Some u → depth u ≤ depth x) → elim p as (λ _. Option Tree) [ None ↦ None | Some f ↦ part_of names is f ] ≡ Some t → depth t ≤ depth e
    go None a rest some = absurd (no_some some)
    go (Some f) a rest some =
        let p : depth f ≤ inner e = part_depth e z f a in
        let q : depth t ≤ depth f = rest f t some in
        omega (arith, p, q, inner_below e)
found_depth names (normal h ns ∷ is) e t whole = go (is_name names Builtin.List h) (found_depth names is) whole
  where
    go : (b : Bool) → ((x u : Tree) → part_of names is x ≡ Some u → depth u ≤ depth x) → from_list names is e (elements ns) b ≡ Some t → depth t ≤ depth e
    go true rest some =
        headed_depth e (picked (part_of names is) e (elements ns)) t (picked_depth (part_of names is) rest e (elements ns))
        (sym (from_picked (part_of names is) e (parts_at e (elements ns))) ∙ some)
    go false rest some = absurd (no_some some)
found_depth names (string s ∷ is) e t whole = absurd (no_some whole)
found_depth names (symbol s ∷ is) e t whole = absurd (no_some whole)

pub level_shallow : (names : Names) (is ns fs : List Tree) (e h : Tree) (ts : Trees) → normal h ts ≡ e → FindsAll (picked (part_of names is) e ns) (Ok (Some fs)) → depth (call h fs) ≤ depth e
level_shallow names is ns fs e h ts shape found =
    headed_depth e (Some fs) (call h fs) (λ gs same. picked_depth (part_of names is) (found_depth names is) e ns gs (sym found.by ∙ same)) (ap (λ f. with_head f (Some fs)) (sym shape))

pub shallow_in : (names : Names) (is ns fs : List Tree) (e h : Tree) (ts : Trees) (o : Option (List Tree)) (r : Result (Option (List Tree)) Built) → normal h ts ≡ e → r ≡ Ok o → o ≡ Some fs → FindsAll (picked (part_of names is) e ns) r → depth (call h fs) ≤ depth e
shallow_in names is ns fs e h ts o r shape a b found = level_shallow names is ns fs e h ts shape (subst (λ u. FindsAll (picked (part_of names is) e ns) u) (a ∙ ap Ok b) found)

pub ruleset level_steps = (tree_steps, level_integer, level_string, level_symbol, level_none, level_fault, level_made, level_unmade, level_shallow)

-- ---- one index

index_at : (names : Names) (is : List Tree) (from : ℕ) (x e : Tree) → from < length is → x ≡ get_or is from x → part_of names (drop from is) e ≡ part_of names (x ∷ drop (from + 1) is) e
index_at names is from x e inside at = ap (λ js. part_of names js e) (next is from x inside at)

abbrev looked_at : Names → List Tree → Option Tree → Option Tree
looked_at names is o = elim o [ None ↦ None | Some f ↦ part_of names is f ]

pub index_end : (names : Names) (is : List Tree) (from : ℕ) (e : Tree) → from ≡ length is → part_of names (drop from is) e ≡ Some e
index_end names is from e all = ap (λ js. part_of names js e) (drop_all from is (omega (arith, all)))

pub index_number : (names : Names) (is : List Tree) (from : ℕ) (x e p : Tree) (z : ℤ) → from < length is → x ≡ get_or is from x → integer z ≡ x → part_at e z ≡ Some p → part_of names (drop from is) e ≡ part_of names (drop (from + 1) is) p
index_number names is from x e p z inside at number part =
    index_at names is from x e inside at ∙ ap (λ y. part_of names (y ∷ drop (from + 1) is) e) (sym number) ∙ ap (looked_at names (drop (from + 1) is)) part

pub index_no_part : (names : Names) (is : List Tree) (from : ℕ) (x e : Tree) (z : ℤ) → from < length is → x ≡ get_or is from x → integer z ≡ x → part_at e z ≡ None → part_of names (drop from is) e ≡ None
index_no_part names is from x e z inside at number none' =
    index_at names is from x e inside at ∙ ap (λ y. part_of names (y ∷ drop (from + 1) is) e) (sym number) ∙ ap (looked_at names (drop (from + 1) is)) none'

pub index_list : (names : Names) (is : List Tree) (from : ℕ) (x e h : Tree) (ns : List Tree) → from < length is → x ≡ get_or is from x → normal h (trees ns) ≡ x → is_name names Builtin.List h ≡ true
    → part_of names (drop from is) e ≡ with_head e (picked (part_of names (drop (from + 1) is)) e ns)
index_list names is from x e h ns inside at shape list =
    index_at names is from x e inside at ∙ ap (λ y. part_of names (y ∷ drop (from + 1) is) e) (sym shape)
    ∙ ap (λ ms. from_list names (drop (from + 1) is) e ms (is_name names Builtin.List h)) (elements-trees ns)
    ∙ ap (from_list names (drop (from + 1) is) e ns) list ∙ from_picked (part_of names (drop (from + 1) is)) e (parts_at e ns)

pub index_other : (names : Names) (is : List Tree) (from : ℕ) (x e h : Tree) (ns : List Tree) → from < length is → x ≡ get_or is from x → normal h (trees ns) ≡ x → is_name names Builtin.List h ≡ false → part_of names (drop from is) e ≡ None
index_other names is from x e h ns inside at shape other =
    index_at names is from x e inside at ∙ ap (λ y. part_of names (y ∷ drop (from + 1) is) e) (sym shape)
    ∙ ap (from_list names (drop (from + 1) is) e (elements (trees ns))) other

pub index_string : (names : Names) (is : List Tree) (from : ℕ) (x e : Tree) (t : List ℕ) → from < length is → x ≡ get_or is from x → string t ≡ x → part_of names (drop from is) e ≡ None
index_string names is from x e t inside at shape = index_at names is from x e inside at ∙ ap (λ y. part_of names (y ∷ drop (from + 1) is) e) (sym shape)

pub index_symbol : (names : Names) (is : List Tree) (from : ℕ) (x e : Tree) (s : Sym) → from < length is → x ≡ get_or is from x → symbol s ≡ x → part_of names (drop from is) e ≡ None
index_symbol names is from x e s inside at shape = index_at names is from x e inside at ∙ ap (λ y. part_of names (y ∷ drop (from + 1) is) e) (sym shape)

pub same_find : (o p : Option Tree) (r : Result (Option Tree) Built) → o ≡ p → Finds p r → Finds o r
same_find o p r is found = subst (λ q. Finds q r) (sym is) found

pub finds_this : (o : Option Tree) (q : Option Tree) → o ≡ q → Finds o (Ok q)
finds_this o q is = record { by = sym is }

pub ruleset there_steps = (tree_steps, index_end, index_number, index_no_part, index_list, index_other, index_string, index_symbol)

pub ruleset pick_steps = (tree_steps, index_end, index_number, index_no_part, index_list, index_other, index_string, index_symbol, same_find, finds_this)

-- ---- whether parts are there

pub are_more : (names : Names) (is : List Tree) (e : Tree) (ns : List Tree) (i : ℕ) (x : Tree) (z : ℤ) (p : Tree) → i < length ns → x ≡ get_or ns i x → integer z ≡ x → part_at e z ≡ Some p → is_some (part_of names is p) ≡ true
    → is_some (picked (part_of names is) e (drop i ns)) ≡ is_some (picked (part_of names is) e (drop (i + 1) ns))
are_more names is e ns i x z p inside at number part there =
    ap (λ ms. is_some (further names is e ms)) (next ns i x inside at)
    ∙ ap (λ y. is_some (further names is e (y ∷ drop (i + 1) ns))) (sym number)
    ∙ ap is_some (first_of (part_of names is) e z (drop (i + 1) ns) p part)
    ∙ go (part_of names is p) (further names is e (drop (i + 1) ns)) there
  where
    go : (q : Option Tree) (o : Option (List Tree)) → is_some q ≡ true → is_some (before q o) ≡ is_some o
    go None o t = cc
    go (Some f) None t = refl
    go (Some f) (Some fs) t = refl

pub are_not : (names : Names) (is : List Tree) (e : Tree) (ns : List Tree) (i : ℕ) (x : Tree) (z : ℤ) (p : Tree) → i < length ns → x ≡ get_or ns i x → integer z ≡ x → part_at e z ≡ Some p → is_some (part_of names is p) ≡ false
    → is_some (picked (part_of names is) e (drop i ns)) ≡ false
are_not names is e ns i x z p inside at number part there =
    ap (λ ms. is_some (further names is e ms)) (next ns i x inside at)
    ∙ ap (λ y. is_some (further names is e (y ∷ drop (i + 1) ns))) (sym number)
    ∙ ap is_some (first_of (part_of names is) e z (drop (i + 1) ns) p part)
    ∙ go (part_of names is p) (further names is e (drop (i + 1) ns)) there
  where
    go : (q : Option Tree) (o : Option (List Tree)) → is_some q ≡ false → is_some (before q o) ≡ false
    go None o t = refl
    go (Some f) o t = cc

pub are_no_part : (names : Names) (is : List Tree) (e : Tree) (ns : List Tree) (i : ℕ) (x : Tree) (z : ℤ) → i < length ns → x ≡ get_or ns i x → integer z ≡ x → part_at e z ≡ None → is_some (picked (part_of names is) e (drop i ns)) ≡ false
are_no_part names is e ns i x z inside at number none' =
    ap (λ ms. is_some (further names is e ms)) (next ns i x inside at)
    ∙ ap (λ y. is_some (further names is e (y ∷ drop (i + 1) ns))) (sym number)
    ∙ ap is_some (no_part (part_of names is) e z (drop (i + 1) ns) none')

are_no_number : (names : Names) (is : List Tree) (e : Tree) (ns : List Tree) (i : ℕ) (x : Tree) → i < length ns → x ≡ get_or ns i x → is_integer x ≡ false → is_some (picked (part_of names is) e (drop i ns)) ≡ false
are_no_number names is e ns i x inside at other =
    ap (λ ms. is_some (further names is e ms)) (next ns i x inside at) ∙ ap is_some (no_number (part_of names is) e x (drop (i + 1) ns) other)

pub are_string : (names : Names) (is : List Tree) (e : Tree) (ns : List Tree) (i : ℕ) (x : Tree) (t : List ℕ) → i < length ns → x ≡ get_or ns i x → string t ≡ x → is_some (picked (part_of names is) e (drop i ns)) ≡ false
are_string names is e ns i x t inside at shape = are_no_number names is e ns i x inside at (ap is_integer (sym shape))

pub are_symbol : (names : Names) (is : List Tree) (e : Tree) (ns : List Tree) (i : ℕ) (x : Tree) (s : Sym) → i < length ns → x ≡ get_or ns i x → symbol s ≡ x → is_some (picked (part_of names is) e (drop i ns)) ≡ false
are_symbol names is e ns i x s inside at shape = are_no_number names is e ns i x inside at (ap is_integer (sym shape))

pub are_normal : (names : Names) (is : List Tree) (e : Tree) (ns : List Tree) (i : ℕ) (x h : Tree) (ts : Trees) → i < length ns → x ≡ get_or ns i x → normal h ts ≡ x → is_some (picked (part_of names is) e (drop i ns)) ≡ false
are_normal names is e ns i x h ts inside at shape = are_no_number names is e ns i x inside at (ap is_integer (sym shape))

pub level_there : (e h : Tree) (ts : Trees) (o : Option (List Tree)) → normal h ts ≡ e → is_some (with_head e o) ≡ is_some o
level_there e h ts o is = subst (λ f. is_some (with_head f o) ≡ is_some o) is (go o)
  where
    go : (o : Option (List Tree)) → is_some (with_head (normal h ts) o) ≡ is_some o
    go None = refl
    go (Some fs) = refl

pub ruleset are_steps = (tree_steps, are_more, are_not, are_no_part, are_string, are_symbol, are_normal, level_there)

-- ---- the row

pub row_found : (o found : Option Tree) → Finds o (Ok found) → Works (given o) (Ok found)
row_found o found finds = subst (λ q. Works (given q) (Ok found)) finds.by (go found)
  where
    go : (o : Option Tree) → Works (given o) (Ok o)
    go None = record { by = tt }
    go (Some e) = record { by = refl }

pub row_large : (o : Option Tree) → Finds o (Err TooLarge) → is_some o ≡ true → Works (given o) (Err fa.TooLarge)
row_large None finds there = cc
row_large (Some t) finds there = record { by = finds.by t refl }

pub row_not_there : (o : Option Tree) → is_some o ≡ false → Works (given o) (Ok None)
row_not_there None there = record { by = tt }
row_not_there (Some t) there = cc

pub row_no_memory : (o : Option Tree) → Works (given o) (Err fa.NoMemory)
row_no_memory None = record { by = tt }
row_no_memory (Some t) = record { by = tt }

pub not_deep : (o : Option Tree) (n : ℕ) → Finds o (Err (TooDeep n)) → ⊥
not_deep o n finds = finds.by

pub ruleset row_steps = (tree_steps, row_found, row_large, row_not_there, row_no_memory, not_deep)

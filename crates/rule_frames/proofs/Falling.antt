-- A trial comes to an end: each question leaves fewer.
use Rattle.std.proofs.Common.{◌≡◌, ℕ, ◌<◌, ◌≤◌, max, List, [], ◌∷◌, ◌++◌, map, Bool, true, false, refl, ap, sym, subst, arith}
use Rattle.std.proofs.Math.Path.{fun_ext}
use Rattle.std.proofs.lemmas.Bool.{eq-eqb}
use Rattle.std.proofs.Math.Nat.{le-max_left, le-max_right}
use Rattle.expr_tree.specs.declared.sym.Sym.{Sym}
use Rattle.expr_tree.specs.Tree.{Tree}
use Rattle.expr_tree.specs.Order.{same_symbol}
use Rattle.expr_tree.specs.Substitution.{Binding}
use Rattle.expr_tree.specs.declared.limits.Limits.{Limits}
use Rattle.semantics.specs.declared.builtin.Builtin.{Builtin}
use Rattle.semantics.specs.Names.{Names, name, is_name}
use Rattle.semantics.specs.Definitions.{Attributes, Definition, Definitions, has}
use Rattle.semantics.specs.Match.{Guard, Cond, Found, Matching, matches, heads, guard_expression}
use Rattle.semantics.specs.Rule.{Rule, condition_of, result_of}
use Rattle.semantics.specs.InPlace.{put_in_place}
use Rattle.semantics.specs.Attempt.{told, try_guards, try_binding, try_bindings, try_rule, try_rules}
use Rattle.semantics.specs.Program.{Prog, Done, Stops, Quits, Throws, Ask, Catches, Within, Section, Open, Look, Put, Fresh, Turn, Check, Outer, Moded, Shown, Seen, look_all}
use Rattle.semantics.specs.Play.{seen}
use Rattle.evaluation_steps.specs.Moves.{turning}
use Rattle.rule_frames.specs.Reading.{Shows, same, fitting, looked, matching_in}
use Rattle.rule_frames.specs.Worst.{worst, of_two, of_four, seen_with}

-- a program that goes by truth and by Flat and Orderless alone
abbrev pub Plain : Names → Prog → Type 0
Plain names (Ask e k) = ((v : Tree) → worst names (k v) ≤ of_two names (λ u. worst names (k u))) × ((v : Tree) → Plain names (k v))
Plain names (Look s k) = ((x : Seen) → worst names (k x) ≤ of_four (λ a. worst names (k (seen_with a)))) × ((x : Seen) → Plain names (k x))
Plain names (Turn p) = Plain names p
Plain names (Check e p) = Plain names p
Plain names (Done e) = Unit {0}
Plain names (Stops c) = Unit {0}
Plain names Quits = Unit {0}
Plain names (Throws e) = Unit {0}
Plain names (Catches e k) = Unit {0}
Plain names (Within ls e k) = Unit {0}
Plain names (Section ss e k) = Unit {0}
Plain names (Open k) = Unit {0}
Plain names (Put s x p) = Unit {0}
Plain names (Fresh k) = Unit {0}
Plain names (Outer c k) = Unit {0}
Plain names (Moded k) = Unit {0}
Plain names (Shown k) = Unit {0}

-- what is shown of a plain program is plain, and comes to no more
pub shows_no_more : {names : Names} {d : Definitions} {limits : Limits} {p q : Prog} → Shows names d limits p q → Plain names p → (worst names q ≤ worst names p) × Plain names q
shows_no_more same plain = (omega arith, plain)
shows_no_more (fitting f s) plain = shows_no_more s plain
shows_no_more {names = names} {d = d} (looked {s = i} s) plain =
    let later = shows_no_more s (plain.1 (seen names d i)) in
    let here = plain.0 (seen names d i) in
    (omega (arith, later.0, here), later.1)

pub question_falls : {names : Names} {d : Definitions} {limits : Limits} {p : Prog} (e : Tree) (turn : Bool) (k : Tree → Prog) → Shows names d limits p (turning turn (Ask e k)) → Plain names p → (v : Tree) → worst names (k v) < worst names p
question_falls e true k s plain v = let on = shows_no_more s plain in let one = on.1.0 v in omega (arith, on.0, one)
question_falls e false k s plain v = let on = shows_no_more s plain in let one = on.1.0 v in omega (arith, on.0, one)

-- ---- programs of trials are plain

is_true : (names : Names) → is_name names Builtin.True (name names Builtin.True) ≡ true
is_true names = eq-eqb (names.place Builtin.True) (names.place Builtin.True) refl

pub both_plain : (names : Names) (p q : Prog) (b : Bool) → Plain names p → Plain names q → Plain names (elim b as (λ _. Prog) [ true ↦ p | false ↦ q ])
both_plain names p q true a b = a
both_plain names p q false a b = b

one_of_both : (names : Names) (p q : Prog) (b : Bool) → worst names (elim b as (λ _. Prog) [ true ↦ p | false ↦ q ]) ≤ max (worst names p) (worst names q)
one_of_both names p q true = le-max_left _ _
one_of_both names p q false = le-max_right _ _

truth_bound : (names : Names) (p q : Prog) (v : Tree) → worst names (elim (is_name names Builtin.True v) as (λ _. Prog) [ true ↦ p | false ↦ q ])
    ≤ of_two names (λ u. worst names (elim (is_name names Builtin.True u) as (λ _. Prog) [ true ↦ p | false ↦ q ]))
truth_bound names p q v =
    subst (λ m. worst names (elim (is_name names Builtin.True v) as (λ _. Prog) [ true ↦ p | false ↦ q ]) ≤ max m (worst names q))
    (sym (ap (λ b. worst names (elim b as (λ _. Prog) [ true ↦ p | false ↦ q ])) (is_true names)))
    (one_of_both names p q (is_name names Builtin.True v))

pub ask_plain : (names : Names) (c : Tree) (p q : Prog) → Plain names p → Plain names q → Plain names (Ask c (λ v. elim (is_name names Builtin.True v) as (λ _. Prog) [ true ↦ p | false ↦ q ]))
ask_plain names c p q a b = (truth_bound names p q, λ v. both_plain names p q (is_name names Builtin.True v) a b)

pub guards_plain : (names : Names) (b : Binding) (gs : List Guard) (pass fail : Prog) → Plain names pass → Plain names fail → Plain names (try_guards names b gs pass fail)
guards_plain names b [] pass fail x y = x
guards_plain names b (g ∷ gs) pass fail x y = ask_plain names (guard_expression names b g) (try_guards names b gs pass fail) fail (guards_plain names b gs pass fail x y) y

binding_plain : (names : Names) (b : Binding) (gs : List Guard) (pass fail : Prog) → Plain names pass → Plain names fail → Plain names (try_binding names b gs pass fail)
binding_plain names b [] pass fail x y = x
binding_plain names b (g ∷ gs) pass fail x y = ask_plain names (guard_expression names b g) (try_guards names b gs pass fail) fail (guards_plain names b gs pass fail x y) y

pub bindings_plain : (names : Names) (right : Tree) (fs : List Found) (gives : Tree → Prog) (otherwise : Prog) → ((v : Tree) → Plain names (gives v)) → Plain names otherwise → Plain names (try_bindings names right fs gives otherwise)
bindings_plain names right [] gives otherwise x y = y
bindings_plain names right (f ∷ fs) gives otherwise x y =
    binding_plain names f.binding (f.guards ++ map Cond (condition_of names right)) (gives (put_in_place names f.binding (result_of names right)))
    (try_bindings names right fs gives otherwise) (x _) (bindings_plain names right fs gives otherwise x y)

-- ---- what is seen counts by Flat and Orderless

abbrev Factors : (List (Sym × Definition) → Prog) → Type 0
Factors k = (xs ys : List (Sym × Definition)) → told xs ≡ told ys → k xs ≡ k ys

told_more : (s : Sym) (x : Definition) (xs ys : List (Sym × Definition)) → told xs ≡ told ys → told ((s, x) ∷ xs) ≡ told ((s, x) ∷ ys)
told_more s x xs ys e = fun_ext (λ t. ap (λ (f : Sym → Matching). elim (same_symbol s t) as (λ _. Matching) [ true ↦ matching_in x.attributes | false ↦ f t ]) e)

told_other : (s : Sym) (x y : Definition) (xs : List (Sym × Definition)) → matching_in x.attributes ≡ matching_in y.attributes → told ((s, x) ∷ xs) ≡ told ((s, y) ∷ xs)
told_other s x y xs e = fun_ext (λ t. ap (λ m. elim (same_symbol s t) as (λ _. Matching) [ true ↦ m | false ↦ told xs t ]) e)

matching_by : (a b : Attributes) → has Builtin.Flat a ≡ has Builtin.Flat b → has Builtin.Orderless a ≡ has Builtin.Orderless b → matching_in a ≡ matching_in b
matching_by a b e f = λ i. record { flat = e i; orderless = f i }

four_bound : (f : Attributes → ℕ) → ((a b : Attributes) → matching_in a ≡ matching_in b → f a ≡ f b) → (a : Attributes) → f a ≤ of_four f
four_bound f same_by a = by_flags (has Builtin.Flat a) (has Builtin.Orderless a) refl refl
  where
    w : ℕ
    w = f []

    x : ℕ
    x = f (Builtin.Flat ∷ [])

    y : ℕ
    y = f (Builtin.Orderless ∷ [])

    z : ℕ
    z = f (Builtin.Flat ∷ Builtin.Orderless ∷ [])

    by_flags : (b c : Bool) → has Builtin.Flat a ≡ b → has Builtin.Orderless a ≡ c → f a ≤ of_four f
    by_flags false false e g = let i : f a ≡ w = same_by a [] (matching_by a [] e g) in
        let l : w ≤ max w x = le-max_left w x in
        let m : max w x ≤ max (max w x) (max y z) = le-max_left (max w x) (max y z) in omega (arith, i, l, m)
    by_flags true false e g = let i : f a ≡ x = same_by a (Builtin.Flat ∷ []) (matching_by a (Builtin.Flat ∷ []) e g) in
        let l : x ≤ max w x = le-max_right w x in
        let m : max w x ≤ max (max w x) (max y z) = le-max_left (max w x) (max y z) in omega (arith, i, l, m)
    by_flags false true e g = let i : f a ≡ y = same_by a (Builtin.Orderless ∷ []) (matching_by a (Builtin.Orderless ∷ []) e g) in
        let l : y ≤ max y z = le-max_left y z in
        let m : max y z ≤ max (max w x) (max y z) = le-max_right (max w x) (max y z) in omega (arith, i, l, m)
    by_flags true true e g = let i : f a ≡ z = same_by a (Builtin.Flat ∷ Builtin.Orderless ∷ []) (matching_by a (Builtin.Flat ∷ Builtin.Orderless ∷ []) e g) in
        let l : z ≤ max y z = le-max_right y z in
        let m : max y z ≤ max (max w x) (max y z) = le-max_right (max w x) (max y z) in omega (arith, i, l, m)

looks_plain : (names : Names) (ss : List Sym) (k : List (Sym × Definition) → Prog) → Factors k → ((xs : List (Sym × Definition)) → Plain names (k xs)) → Plain names (look_all ss k)
looks_plain names [] k f plain = plain []
looks_plain names (s ∷ ss) k f plain = (
  λ x. bound x,
  λ x. looks_plain names ss (λ rest. k ((s, x.definition) ∷ rest)) (λ xs ys e. f _ _ (told_more s x.definition xs ys e)) (λ xs. plain _),
)
  where
    same_looks : (x y : Definition) → matching_in x.attributes ≡ matching_in y.attributes → worst names (look_all ss (λ rest. k ((s, x) ∷ rest))) ≡ worst names (look_all ss (λ rest. k ((s, y) ∷ rest)))
    same_looks x y e = ap (λ g. worst names (look_all ss g)) (fun_ext (λ rest. f _ _ (told_other s x y rest e)))

    bound : (x : Seen) → worst names (look_all ss (λ rest. k ((s, x.definition) ∷ rest))) ≤ of_four (λ a. worst names (look_all ss (λ rest. k ((s, (seen_with a).definition) ∷ rest))))
    bound x =
        subst (λ n. n ≤ of_four (λ a. worst names (look_all ss (λ rest. k ((s, (seen_with a).definition) ∷ rest)))))
        (sym (same_looks x.definition (seen_with x.definition.attributes).definition refl))
        (four_bound (λ a. worst names (look_all ss (λ rest. k ((s, (seen_with a).definition) ∷ rest)))) (λ a b e. same_looks (seen_with a).definition (seen_with b).definition e) x.definition.attributes)

rule_plain : (names : Names) (rule : Rule) (e : Tree) (gives : Tree → Prog) (otherwise : Prog) → ((v : Tree) → Plain names (gives v)) → Plain names otherwise → Plain names (try_rule names rule e gives otherwise)
rule_plain names rule e gives otherwise x y =
    looks_plain names (heads names rule.left) (λ seen. try_bindings names rule.right (matches names (told seen) rule.left e) gives otherwise)
    (λ xs ys t. ap (λ a. try_bindings names rule.right (matches names a rule.left e) gives otherwise) t)
    (λ xs. bindings_plain names rule.right (matches names (told xs) rule.left e) gives otherwise x y)

pub rules_plain : (names : Names) (rs : List Rule) (e : Tree) (gives : Tree → Prog) (otherwise : Prog) → ((v : Tree) → Plain names (gives v)) → Plain names otherwise → Plain names (try_rules names rs e gives otherwise)
rules_plain names [] e gives otherwise x y = y
rules_plain names (r ∷ rs) e gives otherwise x y = rule_plain names r e gives (try_rules names rs e gives otherwise) x (rules_plain names rs e gives otherwise x y)

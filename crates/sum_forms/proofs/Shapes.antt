-- What the rows make of elements of each shape.
use Rattle.std.proofs.Common.{◌≡◌, ◌≢◌, ◌<◌, ◌+◌, ℕ, zero, suc, ℤ, pos, negsuc, List, [], ◌∷◌, ◌∙◌, length, Err, Bool, true, false, refl, sym, ap, subst, arith}
use Rattle.std.specs.Prelude.{◌*ℤ◌, Option, None, Some, Ok, Result}
use Rattle.expr_tree.specs.Tree.{Tree, integer, string, symbol, normal, nil, cons, size, depth}
use Rattle.expr_tree.specs.Limits.{Assembles, in_range}
use Rattle.expr_tree.specs.Shapes.{pair_of}
use Rattle.expr_tree.specs.declared.built.Built.{Built}
use Rattle.expr_tree.specs.declared.built.Built.TheVariants as bu
use Rattle.expr_tree.proofs.Callers.{tree_steps}
use Rattle.semantics.specs.Names.{Names, make, is_name}
use Rattle.semantics.specs.Worked.{Stays, Gives, gives_int}
use Rattle.semantics.specs.Numbers as Numbers
use Rattle.semantics.specs.Numbers.{Part}
use Rattle.semantics.specs.declared.builtin.Builtin.{Builtin}
use Rattle.builtin_names.specs.declared.fault.Fault.{Fault}
use Rattle.sum_forms.specs.Splits.{power_in}
use Rattle.builtin_names.specs.Results.{IsFaultOf, Makes, Works, fault_of}

-- an expression that was not made
pub not_made : (t : Tree) (b : Built) → Assembles t (Err b) → IsFaultOf t (fault_of b)
not_made t bu.TooLarge f = f
not_made t (bu.TooDeep nodes) f = f
not_made t bu.NoMemory f = f

pub minus-one_only : (names : Names) (xs : List Tree) → length xs ≢ 1 → Numbers.minus names xs ≡ Stays
minus-one_only names [] other = refl
minus-one_only names (x ∷ []) other = absurd (other refl)
minus-one_only names (x ∷ y ∷ xs) other = refl

pub subtract-pair_only : (names : Names) (xs : List Tree) → pair_of xs ≡ None → Numbers.subtract names xs ≡ Stays
subtract-pair_only names [] other = refl
subtract-pair_only names (x ∷ []) other = refl
subtract-pair_only names (x ∷ y ∷ []) other = absurd (cc)
subtract-pair_only names (x ∷ y ∷ z ∷ xs) other = refl

pub divide-pair_only : (names : Names) (xs : List Tree) → pair_of xs ≡ None → Numbers.divide names xs ≡ Stays
divide-pair_only names [] other = refl
divide-pair_only names (x ∷ []) other = refl
divide-pair_only names (x ∷ y ∷ []) other = absurd (cc)
divide-pair_only names (x ∷ y ∷ z ∷ xs) other = refl

pub pair-is : {X : Type 0} (xs : List X) (a b : X) → pair_of xs ≡ Some (a, b) → xs ≡ a ∷ b ∷ []
pair-is [] a b e = absurd (cc)
pair-is (x ∷ []) a b e = absurd (cc)
pair-is {X} (x ∷ y ∷ []) a b e = ap (λ (o : Option (X × X)). elim o as (λ _. List X) [ None ↦ [] | Some q ↦ q.0 ∷ q.1 ∷ [] ]) e
pair-is (x ∷ y ∷ z ∷ xs) a b e = absurd (cc)

pub beside-fault : (names : Names) (row : Builtin) (first t : Tree) (part : Result Tree Built) (b : Built) (beside : ℕ) (f : Fault) → part ≡ Err b → beside ≡ size first + 1 → ((t whole : Tree) → Assembles t (Err b) → size whole ≡ size t + beside → depth t < depth whole → IsFaultOf whole f) → Assembles t part → Makes (make names row (first ∷ t ∷ [])) (Err f)
beside-fault names row first t part b beside f is atoms around assembled =
    record { by = around t (make names row (first ∷ t ∷ [])) (subst (Assembles t) is assembled) (omega arith) (omega arith) }

-- the shape of a power with an integer exponent
pub record Powered (names : Names) (x : Tree) (p : Part) : Type 0 where
  pub head : Tree
  pub is : x ≡ normal head (cons p.rest (cons (integer p.number) nil))
  pub power : is_name names Builtin.Power head ≡ true

powered-head : (names : Names) (h b : Tree) (k : ℤ) (p : Part) (test : Bool) → is_name names Builtin.Power h ≡ test → elim test as (λ _. Option Part) [ true ↦ Some (record { number = k; rest = b }) | false ↦ None ] ≡ Some p → Powered names (normal h (cons b (cons (integer k) nil))) p
powered-head names h b k p true e f = record { head = h; is = cc; power = e }
powered-head names h b k p false e f = absurd (cc)

pub powered : (names : Names) (x : Tree) (p : Part) → power_in names x ≡ Some p → Powered names x p
powered names (integer n) p e = absurd (cc)
powered names (string s) p e = absurd (cc)
powered names (symbol s) p e = absurd (cc)
powered names (normal h nil) p e = absurd (cc)
powered names (normal h (cons b nil)) p e = absurd (cc)
powered names (normal h (cons b (cons (integer k) nil))) p e = powered-head names h b k p (is_name names Builtin.Power h) refl e
powered names (normal h (cons b (cons (integer k) (cons t ts)))) p e = absurd (cc)
powered names (normal h (cons b (cons (string s) ts))) p e = absurd (cc)
powered names (normal h (cons b (cons (symbol s) ts))) p e = absurd (cc)
powered names (normal h (cons b (cons (normal k us) ts))) p e = absurd (cc)

within : (z : ℤ) → in_range z ≡ true → gives_int z ≡ Gives (integer z)
within z e = rw (e, gives_int) refl

pub raised-at : (names : Names) (h b : Tree) (a k e : ℤ) → is_name names Builtin.Power h ≡ true → k ≢ pos 0 → k ≢ pos 1 → in_range (a *ℤ k) ≡ true → e ≡ a *ℤ k → Numbers.power_of names (normal h (cons b (cons (integer a) nil))) k ≡ Gives (make names Builtin.Power (b ∷ integer e ∷ []))
raised-at names h b a (pos zero) e is zero_not one_not fits product = absurd (zero_not refl)
raised-at names h b a (pos (suc zero)) e is zero_not one_not fits product = absurd (one_not refl)
raised-at names h b a (pos (suc (suc k))) e is zero_not one_not fits product = rw (is, within (a *ℤ pos (suc (suc k))) fits, product, Numbers.power_of) refl
raised-at names h b a (negsuc k) e is zero_not one_not fits product = rw (is, within (a *ℤ negsuc k) fits, product, Numbers.power_of) refl

pub raised : (names : Names) (x : Tree) (k : ℤ) (p : Part) (e : ℤ) (made : Tree) → power_in names x ≡ Some p → k ≢ pos 0 → k ≢ pos 1 → in_range (p.number *ℤ k) ≡ true → e ≡ p.number *ℤ k → made ≡ make names Builtin.Power (p.rest ∷ integer e ∷ []) → Works (Numbers.power_of names x k) (Ok (Some made))
raised names x k p e made found zero_not one_not fits product is =
    let shape = powered names x p found in
    subst (λ w. Works w (Ok (Some made))) (sym (ap (λ y. Numbers.power_of names y k) shape.is ∙ raised-at names shape.head p.rest p.number k e shape.power zero_not one_not fits product)) (record { by = is })

pub ruleset short_steps = (tree_steps, not_made, minus-one_only, subtract-pair_only, divide-pair_only)

pub ruleset power_steps = (tree_steps, not_made)

pub ruleset integer_steps = (tree_steps, not_made)

pub ruleset power_in_steps = (tree_steps)

-- A map between what the constructs give carries readings over, both ways.
use Rattle.std.proofs.Common.{◌≡◌, ℕ, List, [], ◌∷◌, ◌++◌, sym, ap, ap₂, ◌∙◌, subst}
use Rattle.semantics.specs.declared.builtin.Builtin.{Builtin}
use Rattle.syntax.specs.Operators.{Operator, Prefix, Postfix}
use Rattle.syntax.specs.Terminals.{Phrase, Terminal}
use Rattle.syntax.specs.Phrases.{Constructs}
use Rattle.syntax.specs.Grammar.{PhraseOf, operand, group, braces, leads, binary, beside, trails, call, part, tags, WholeOf, plain, ends, RowOf, one, more, ElementsOf, none, row}

-- The map keeps what each construct gives.
pub record Carries (P Q L R S M : Type 0) (A : Constructs P Q L) (B : Constructs R S M) (f : P → R) (g : Q → S) (h : L → M) : Type 0 where
  pub leaf : (l : Phrase) → f (A.of_leaf l) ≡ B.of_leaf l
  pub expr : (x : P) → g (A.expr_of x) ≡ B.expr_of (f x)
  pub grouped : (x : P) → f (A.of_group x) ≡ B.of_group (f x)
  pub none : h A.no_elements ≡ B.no_elements
  pub added : (xs : L) (q : Q) → h (A.added xs q) ≡ B.added (h xs) (g q)
  pub listed : (xs : L) → f (A.of_list xs) ≡ B.of_list (h xs)
  pub called : (q : Q) (xs : L) → f (A.of_call q xs) ≡ B.of_call (g q) (h xs)
  pub parted : (q : Q) (xs : L) → f (A.of_part q xs) ≡ B.of_part (g q) (h xs)
  pub joined : (op : Operator) (x y : P) → f (A.of_join op x y) ≡ B.of_join op (f x) (f y)
  pub accepts : (op : Operator) (x : P) → A.accepts op x ≡ B.accepts op (f x)
  pub led : (op : Prefix) (x : P) → f (A.of_lead op x) ≡ B.of_lead op (f x)
  pub trailed : (op : Postfix) (x : P) → f (A.of_trail op x) ≡ B.of_trail op (f x)
  pub ended : (x : P) → f (A.of_end x) ≡ B.of_end (f x)
  pub tagged : (form : Builtin) (x y z : P) → f (A.of_tag form x y z) ≡ B.of_tag form (f x) (f y) (f z)

module _ (P Q L R S M : Type 0) (A : Constructs P Q L) (B : Constructs R S M) (f : P → R) (g : Q → S) (h : L → M) (k : Carries P Q L R S M A B f g h) where
  at_phrase : {room level edge : ℕ} {ts : List Terminal} (x y : R) → x ≡ y → PhraseOf R S M B room level ts x edge → PhraseOf R S M B room level ts y edge
  at_phrase {room} {level} {edge} {ts} x y e = subst (λ (v : R). PhraseOf R S M B room level ts v edge) e

  mutual
    pub carry : {room level edge : ℕ} {ts : List Terminal} {x : P} → PhraseOf P Q L A room level ts x edge → PhraseOf R S M B room level ts (f x) edge
    carry (operand {x = l} t e) = at_phrase _ _ (sym (k.leaf l)) (operand t e)
    carry (group {x = x} t u e w j) = at_phrase _ _ (sym (k.grouped x)) (group t u e (carry_whole w) j)
    carry (braces {xs = xs} t u e w j) = at_phrase _ _ (sym (k.listed xs)) (braces t u e (carry_elements w) j)
    carry (leads {op = op} {x = x} t e p) = at_phrase _ _ (sym (k.led op x)) (leads t e (carry p))
    carry (binary {op = op} {x = x} {y = y} t p j a i c q) = at_phrase _ _ (sym (k.joined op x y)) (binary t (carry p) j a i (sym (k.accepts op x) ∙ c) (carry q))
    carry (beside {x = x} {y = y} t p e a i q) = at_phrase _ _ (sym (k.joined Operator.Times x y)) (beside t (carry p) e a i (carry q))
    carry (trails {op = op} {x = x} t p e a i) = at_phrase _ _ (sym (k.trailed op x)) (trails t (carry p) e a i)
    carry (call {x = x} {xs = xs} t u p e a i w j) =
        at_phrase _ _ (ap (λ (q : S). B.of_call q (h xs)) (sym (k.expr x)) ∙ sym (k.called (A.expr_of x) xs)) (call t u (carry p) e a i (carry_elements w) j)
    carry (part {x = x} {xs = xs} t t' u u' p e e' a i w j j') =
        at_phrase _ _ (ap (λ (q : S). B.of_part q (h xs)) (sym (k.expr x)) ∙ sym (k.parted (A.expr_of x) xs)) (part t t' u u' (carry p) e e' a i (carry_elements w) j j')
    carry (tags {row = form} {x = x} {y = y} {z = z} t u p e a i q j c r) = at_phrase _ _ (sym (k.tagged form x y z)) (tags t u (carry p) e a i (carry q) j c (carry r))

    pub carry_whole : {room : ℕ} {ts : List Terminal} {x : P} → WholeOf P Q L A room ts x → WholeOf R S M B room ts (f x)
    carry_whole (plain p) = plain (carry p)
    carry_whole {room} (ends {ts = ts} {x = x} t p e i) = subst (λ (v : R). WholeOf R S M B room (ts ++ t ∷ []) v) (sym (k.ended x)) (ends t (carry p) e i)

    pub carry_row : {room : ℕ} {ts : List Terminal} {xs : L} → RowOf P Q L A room ts xs → RowOf R S M B room ts (h xs)
    carry_row {room} (one {ts = ts} {x = x} w) =
        subst (λ (vs : M). RowOf R S M B room ts vs) (sym (k.added A.no_elements (A.expr_of x) ∙ ap₂ B.added k.none (k.expr x))) (one (carry_whole w))
    carry_row {room} (more {ts = ts} {us = us} {xs = xs} {x = x} t r e w) =
        subst (λ (vs : M). RowOf R S M B room (ts ++ t ∷ us) vs) (sym (k.added xs (A.expr_of x) ∙ ap (B.added (h xs)) (k.expr x))) (more t (carry_row r) e (carry_whole w))

    pub carry_elements : {room : ℕ} {ts : List Terminal} {xs : L} → ElementsOf P Q L A room ts xs → ElementsOf R S M B room ts (h xs)
    carry_elements {room} none = subst (λ (vs : M). ElementsOf R S M B room [] vs) (sym k.none) none
    carry_elements (row r) = row (carry_row r)

  -- A reading over there comes from one here.
  pub record Comes (room level edge : ℕ) (ts : List Terminal) (y : R) : Type 0 where
    pub from : P
    pub phrase : PhraseOf P Q L A room level ts from edge
    pub is : f from ≡ y

  pub record ComesWhole (room : ℕ) (ts : List Terminal) (y : R) : Type 0 where
    pub from : P
    pub whole : WholeOf P Q L A room ts from
    pub is : f from ≡ y

  pub record ComeRow (room : ℕ) (ts : List Terminal) (ys : M) : Type 0 where
    pub from : L
    pub row : RowOf P Q L A room ts from
    pub are : h from ≡ ys

  pub record ComeElements (room : ℕ) (ts : List Terminal) (ys : M) : Type 0 where
    pub from : L
    pub elements : ElementsOf P Q L A room ts from
    pub are : h from ≡ ys

  mutual
    pub lift : {room level edge : ℕ} {ts : List Terminal} {y : R} → PhraseOf R S M B room level ts y edge → Comes room level edge ts y
    lift (operand {x = l} t e) = record { from = A.of_leaf l; phrase = operand t e; is = k.leaf l }
    lift (group t u e w j) = let v = lift_whole w in record { from = A.of_group v.from; phrase = group t u e v.whole j; is = k.grouped v.from ∙ ap B.of_group v.is }
    lift (braces t u e w j) = let v = lift_elements w in record { from = A.of_list v.from; phrase = braces t u e v.elements j; is = k.listed v.from ∙ ap B.of_list v.are }
    lift (leads {op = op} t e p) = let v = lift p in record { from = A.of_lead op v.from; phrase = leads t e v.phrase; is = k.led op v.from ∙ ap (B.of_lead op) v.is }
    lift (binary {op = op} t p j a i c q) =
        let v = lift p in let w = lift q in
        record { from = A.of_join op v.from w.from; phrase = binary t v.phrase j a i (k.accepts op v.from ∙ ap (B.accepts op) v.is ∙ c) w.phrase; is = k.joined op v.from w.from ∙ ap₂ (B.of_join op) v.is w.is }
    lift (beside t p e a i q) =
        let v = lift p in let w = lift q in
        record { from = A.of_join Operator.Times v.from w.from; phrase = beside t v.phrase e a i w.phrase; is = k.joined Operator.Times v.from w.from ∙ ap₂ (B.of_join Operator.Times) v.is w.is }
    lift (trails {op = op} t p e a i) = let v = lift p in record { from = A.of_trail op v.from; phrase = trails t v.phrase e a i; is = k.trailed op v.from ∙ ap (B.of_trail op) v.is }
    lift (call t u p e a i w j) =
        let v = lift p in let z = lift_elements w in
        record {
          from = A.of_call (A.expr_of v.from) z.from;
          phrase = call t u v.phrase e a i z.elements j;
          is = k.called (A.expr_of v.from) z.from ∙ ap₂ B.of_call (k.expr v.from ∙ ap B.expr_of v.is) z.are;
        }
    lift (part t t' u u' p e e' a i w j j') =
        let v = lift p in let z = lift_elements w in
        record {
          from = A.of_part (A.expr_of v.from) z.from;
          phrase = part t t' u u' v.phrase e e' a i z.elements j j';
          is = k.parted (A.expr_of v.from) z.from ∙ ap₂ B.of_part (k.expr v.from ∙ ap B.expr_of v.is) z.are;
        }
    lift (tags {row = form} t u p e a i q j c r) =
        let v = lift p in let w = lift q in let z = lift r in
        record {
          from = A.of_tag form v.from w.from z.from;
          phrase = tags t u v.phrase e a i w.phrase j c z.phrase;
          is = k.tagged form v.from w.from z.from ∙ ap₂ (λ (m n : R). B.of_tag form m n (f z.from)) v.is w.is ∙ ap (B.of_tag form _ _) z.is;
        }

    pub lift_whole : {room : ℕ} {ts : List Terminal} {y : R} → WholeOf R S M B room ts y → ComesWhole room ts y
    lift_whole (plain p) = let v = lift p in record { from = v.from; whole = plain v.phrase; is = v.is }
    lift_whole (ends t p e i) = let v = lift p in record { from = A.of_end v.from; whole = ends t v.phrase e i; is = k.ended v.from ∙ ap B.of_end v.is }

    pub lift_row : {room : ℕ} {ts : List Terminal} {ys : M} → RowOf R S M B room ts ys → ComeRow room ts ys
    lift_row (one w) =
        let v = lift_whole w in
        record {
          from = A.added A.no_elements (A.expr_of v.from);
          row = one v.whole;
          are = k.added A.no_elements (A.expr_of v.from) ∙ ap₂ B.added k.none (k.expr v.from ∙ ap B.expr_of v.is);
        }
    lift_row (more t r e w) =
        let z = lift_row r in let v = lift_whole w in
        record {
          from = A.added z.from (A.expr_of v.from);
          row = more t z.row e v.whole;
          are = k.added z.from (A.expr_of v.from) ∙ ap₂ B.added z.are (k.expr v.from ∙ ap B.expr_of v.is);
        }

    pub lift_elements : {room : ℕ} {ts : List Terminal} {ys : M} → ElementsOf R S M B room ts ys → ComeElements room ts ys
    lift_elements none = record { from = A.no_elements; elements = none; are = k.none }
    lift_elements (row r) = let z = lift_row r in record { from = z.from; elements = row z.row; are = z.are }

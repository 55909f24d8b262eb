-- How a walk goes on when a part is done, and where no rule applies.
use Rattle.std.proofs.Common.{◌≡◌, ◌∙◌, ℕ, ◌+◌, ◌<◌, ◌≤◌, List, [], ◌∷◌, ◌++◌, reverse, Option, Some, None, refl, ap, sym, subst, append_assoc, append-nil, arith}
use Rattle.std.proofs.lemmas.List.{reverse-append}
use Rattle.expr_tree.specs.Tree.{Tree, integer, string, symbol, normal, trees, elements, call}
use Rattle.expr_tree.proofs.Trees.{trees-elements}
use Rattle.semantics.specs.Names.{Names}
use Rattle.semantics.specs.Rule.{Rule}
use Rattle.semantics.specs.Program.{Prog}
use Rattle.semantics.specs.Replace.{replaced, replaced_items}
use Rattle.machine_rules.specs.declared.level.Elements.{Elements}
use Rattle.machine_rules.specs.declared.level.Level.{Level}
use Rattle.machine_rules.specs.declared.walk.Walk.{Walk}
use Rattle.machine_rules.specs.Levels.{with_part, elements_left, risen}
use Rattle.machine_rules.specs.Walks.{entered, upward}
use Rattle.machine_rules.specs.Weights.{weight, weights, level_weight, levels_weight}
use Rattle.machine_rules.specs.Rising.{Rises, Enters}

-- the last is the first of what is left
pub turned : {X : Type 0} (xs ys : List X) (x : X) → xs ≡ ys ++ x ∷ [] → reverse xs ≡ x ∷ reverse ys
turned xs ys x e = ap reverse e ∙ reverse-append ys (x ∷ [])

-- ---- the elements that are left

next_done : (c d : Elements) (f : Tree) (fs : List Tree) → d.done ≡ c.done → c.done ++ f ∷ fs ≡ (d.done ++ f ∷ []) ++ fs
next_done c d f fs e = ap (λ xs. xs ++ f ∷ fs) (sym e) ∙ sym (append_assoc d.done (f ∷ []) fs)

elements_next : (names : Names) (rs : List Rule) (c d : Elements) (e : Tree) (k : Tree → Prog) → c.rest ≡ e ∷ d.rest → d.head ≡ c.head → d.done ≡ c.done
    → elements_left names rs c k ≡ replaced names rs e (λ v. elements_left names rs (with_part v (Level.Element d)) k)
elements_next names rs c d e k rest head done =
    ap (λ es. replaced_items names rs (trees es) (λ fs. k (call c.head (c.done ++ elements fs)))) rest
    ∙ (λ i. replaced names rs e (λ f. replaced_items names rs (trees d.rest) (λ fs. k (call (sym head i) (next_done c d f (elements fs) done i)))))

elements_end : (names : Names) (rs : List Rule) (c : Elements) (k : Tree → Prog) → c.rest ≡ [] → elements_left names rs c k ≡ k (call c.head c.done)
elements_end names rs c k rest =
    ap (λ es. replaced_items names rs (trees es) (λ fs. k (call c.head (c.done ++ elements fs)))) rest
    ∙ ap (λ xs. k (call c.head xs)) (append-nil c.done)

-- ---- a part is done

upward_level : (names : Names) (w : Walk) (k : Tree → Prog) (ls : List Level) (l : Level) (v : Tree) → w.levels ≡ ls ++ l ∷ []
    → upward names w k v ≡ elements_left names w.rules (with_part v l) (risen names w.rules (reverse ls) k)
upward_level names w k ls l v e = ap (λ xs. risen names w.rules xs k v) (turned w.levels ls l e)

rest_weight : (v : Tree) (l : Level) → level_weight l ≡ weights (trees (with_part v l).rest)
rest_weight v (Level.Head es) = refl
rest_weight v (Level.Element c) = refl

module _ (w : Walk) (ls : List Level) (l : Level) (v : Tree) (c : Elements) (levels : w.levels ≡ ls ++ l ∷ []) (part : c ≡ with_part v l) where
  weighs : levels_weight (reverse w.levels) ≡ weights (trees c.rest) + levels_weight (reverse ls)
  weighs =
      ap levels_weight (turned w.levels ls l levels)
      ∙ (ap (λ n. n + levels_weight (reverse ls)) (rest_weight v l) ∙ ap (λ x. weights (trees x.rest) + levels_weight (reverse ls)) (sym part))

  -- an element is next
  pub rises_next : (d : Elements) (e : Tree) (new : Walk) → c.rest ≡ e ∷ d.rest → d.head ≡ c.head → d.done ≡ c.done
      → new.rules ≡ w.rules → new.levels ≡ ls ++ Level.Element d ∷ [] → new.place ≡ e → Rises w v None new
  rises_next d e new rest head done rules_stay above place = record {
    goes = λ names k.
        upward_level names w k ls l v levels
        ∙ (ap (λ x. elements_left names w.rules x (risen names w.rules (reverse ls) k)) (sym part)
        ∙ (elements_next names w.rules c d e (risen names w.rules (reverse ls) k) rest head done
        ∙ (λ i. replaced names (sym rules_stay i) (sym place i) (risen names (sym rules_stay i) (sym (turned new.levels ls (Level.Element d) above) i) k))));
    falls =
        let before : levels_weight (reverse w.levels) ≡ weights (trees c.rest) + levels_weight (reverse ls) = weighs in
        let items : weights (trees c.rest) ≡ weight e + weights (trees d.rest) = ap (λ es. weights (trees es)) rest in
        let after : levels_weight (reverse new.levels) ≡ weights (trees d.rest) + levels_weight (reverse ls) = ap levels_weight (turned new.levels ls (Level.Element d) above) in
        let here : weight new.place ≡ weight e = ap weight place in
        omega (arith, before, items, after, here);
    rules_stay = rules_stay;
  }

  -- none is next: the whole is a part of what is above
  pub rises_end : (names : Names) (k : Tree → Prog) (u : Tree) → c.rest ≡ [] → u ≡ call c.head c.done → upward names w k v ≡ risen names w.rules (reverse ls) k u
  rises_end names k u rest whole =
      upward_level names w k ls l v levels
      ∙ (ap (λ y. elements_left names w.rules y (risen names w.rules (reverse ls) k)) (sym part)
      ∙ (elements_end names w.rules c (risen names w.rules (reverse ls) k) rest ∙ ap (risen names w.rules (reverse ls) k) (sym whole)))

  pub end_weighs : levels_weight (reverse ls) ≤ levels_weight (reverse w.levels)
  end_weighs = let before : levels_weight (reverse w.levels) ≡ weights (trees c.rest) + levels_weight (reverse ls) = weighs in omega (arith, before)

-- nothing is above
pub rises_whole : (w new : Walk) (v : Tree) → w.levels ≡ [] → new.rules ≡ w.rules → Rises w v (Some v) new
rises_whole w new v e rules_stay = record { goes = λ names k. ap (λ xs. risen names w.rules (reverse xs) k v) e; falls = tt; rules_stay = rules_stay }

-- after what is known of the parts so far
pub rises_after : (old w new : Walk) (u v : Tree) (o : Option Tree) → ((names : Names) (k : Tree → Prog) → upward names old k u ≡ upward names w k v)
    → levels_weight (reverse w.levels) ≤ levels_weight (reverse old.levels) → w.rules ≡ old.rules → Rises w v o new → Rises old u o new
rises_after old w new u v None same less rules_stay r =
    record { goes = λ names k. same names k ∙ r.goes names k; falls = let more = r.falls in omega (arith, less, more); rules_stay = r.rules_stay ∙ rules_stay }
rises_after old w new u v (Some x) same less rules_stay r = record { goes = λ names k. same names k ∙ r.goes names k; falls = tt; rules_stay = r.rules_stay ∙ rules_stay }

-- ---- no rule applies

pub weight_is_positive : (e : Tree) → 0 < weight e
weight_is_positive (integer n) = omega arith
weight_is_positive (string t) = omega arith
weight_is_positive (symbol s) = omega arith
weight_is_positive (normal h es) = omega arith

-- at an atom
pub enters_atom : (w new : Walk) (o : Option Tree) → ((names : Names) (k : Tree → Prog) → entered names w.rules w.place k ≡ k w.place) → Rises w w.place o new → Enters w o new
enters_atom w new None atom r =
    record { goes = λ names k. atom names (upward names w k) ∙ r.goes names k; falls = let more = r.falls in let here = weight_is_positive w.place in omega (arith, more, here); rules_stay = r.rules_stay }
enters_atom w new (Some v) atom r = record { goes = λ names k. atom names (upward names w k) ∙ r.goes names k; falls = tt; rules_stay = r.rules_stay }

pub integer_entered : (rs : List Rule) (e : Tree) {n : _} → e ≡ integer n → (names : Names) (k : Tree → Prog) → entered names rs e k ≡ k e
integer_entered rs e {n} is names k = subst (λ x. entered names rs x k ≡ k x) (sym is) refl

pub string_entered : (rs : List Rule) (e : Tree) {t : List ℕ} → e ≡ string t → (names : Names) (k : Tree → Prog) → entered names rs e k ≡ k e
string_entered rs e {t} is names k = subst (λ x. entered names rs x k ≡ k x) (sym is) refl

pub symbol_entered : (rs : List Rule) (e : Tree) {s : _} → e ≡ symbol s → (names : Names) (k : Tree → Prog) → entered names rs e k ≡ k e
symbol_entered rs e {s} is names k = subst (λ x. entered names rs x k ≡ k x) (sym is) refl

-- at a normal expression its head is next
head_next : (names : Names) (rs : List Rule) (h : Tree) (es : List Tree) (k : Tree → Prog)
    → entered names rs (normal h (trees es)) k ≡ replaced names rs h (λ v. elements_left names rs (with_part v (Level.Head es)) k)
head_next names rs h es k = λ i. replaced names rs h (λ g. replaced_items names rs (trees es) (λ fs. k (normal g (sym (trees-elements fs) i))))

pub enters_head : (w new : Walk) (h : Tree) (es : List Tree) → w.place ≡ normal h (trees es) → new.rules ≡ w.rules → new.levels ≡ w.levels ++ Level.Head es ∷ [] → new.place ≡ h → Enters w None new
enters_head w new h es is rules_stay above place = record {
  goes = λ names k.
      ap (λ e. entered names w.rules e (upward names w k)) is
      ∙ (head_next names w.rules h es (upward names w k)
      ∙ (λ i. replaced names (sym rules_stay i) (sym place i) (risen names (sym rules_stay i) (sym (turned new.levels w.levels (Level.Head es) above) i) k)));
  falls =
      let before : weight w.place ≡ weight h + weights (trees es) + 1 = ap weight is in
      let after : levels_weight (reverse new.levels) ≡ weights (trees es) + levels_weight (reverse w.levels) = ap levels_weight (turned new.levels w.levels (Level.Head es) above) in
      let here : weight new.place ≡ weight h = ap weight place in
      omega (arith, before, after, here);
  rules_stay = rules_stay;
}

-- Programs that keep to a set of symbols, and the programs of a pass: trials of rules, the first steps.
use Rattle.std.proofs.Common.{◌≤◌, ◌≡◌, refl, subst, ℕ, Bool, true, false, List, [], ◌∷◌, ◌++◌, map, Option, Some, None}
use Rattle.expr_tree.specs.declared.sym.Sym.{Sym}
use Rattle.expr_tree.specs.declared.limits.Stop.{Stop}
use Rattle.expr_tree.specs.Tree.{Tree, integer, string, symbol, normal, Trees, nil, cons}
use Rattle.expr_tree.specs.Order.{same_symbol}
use Rattle.semantics.specs.declared.builtin.Builtin.{Builtin}
use Rattle.semantics.specs.Names.{Names, known, is_known, is_name, is_call, items_of, make, role_of}
use Rattle.expr_tree.specs.Substitution.{Binding}
use Rattle.semantics.specs.InPlace.{put_in_place}
use Rattle.semantics.specs.Rule.{Rule, condition_in, result_in, condition_of, result_of}
use Rattle.semantics.specs.Match.{Guard, Test, Cond, Found, matches, heads, guard_expression}
use Rattle.semantics.specs.Definitions.{Definition, has}
use Rattle.semantics.specs.Program.{Prog, Done, Stops, Quits, Throws, Ask, Catches, Within, Look, Put, Fresh, Turn, Check, Moded, Local, Mode, Seen, look_all}
use Rattle.semantics.specs.Attempt.{told, try_guards, try_binding, try_bindings, try_rule, try_rules}
use Rattle.laws_closure.specs.Throws.{may_throw}
use Rattle.laws_closure.proofs.Inside.{both, Each, Opt, appended, mapped, In, Ins, AllIn, items, packed, AllBound, put_in_place_in}
use Rattle.laws_closure.proofs.Matching.{GuardIn, FoundIn, matches_in, heads_inside, guard_in}

-- one of two
pub data Origin (A B : Type 0) : Type 0 where
  before : A → Origin A B
  new : B → Origin A B

-- the sets of symbols of an evaluation, which grow as it goes on. A set that holds a name of the table holds all of them
pub record Realm : Type 1 where
  pub names : Names
  -- the module number at the start: what Module makes has this number or a later one
  pub first_number : ℕ
  pub World : Type 0
  pub Member : World → Sym → Type 0
  pub Table : Type 0
  -- where a module number may be taken
  pub Numbered : World → Type 0
  -- where all rows may be run; elsewhere none by which there may be a throw
  pub Throwing : Type 0
  pub knows : (w : World) → Table → (r : Builtin) → may_throw r ≡ false → Member w (known names r)
  pub knows_any : Throwing → (w : World) → Table → (r : Builtin) → Member w (known names r)
  pub throwing : (w : World) (r : Builtin) (s : Sym) → Member w s → role_of names s ≡ Some r → may_throw r ≡ true → Throwing
  pub tabled : (w : World) (r : Builtin) (s : Sym) → Member w s → is_known names r s ≡ true → Table
  pub has_role : (w : World) (r : Builtin) (s : Sym) → Member w s → role_of names s ≡ Some r → Table
  -- a set with one symbol more
  pub extended : (w : World) (s : Sym) → Table → Origin (Member w s) (first_number ≤ s.number) → World
  pub kept : (w : World) (s : Sym) (t : Table) (o : Origin (Member w s) (first_number ≤ s.number)) (x : Sym) → Member w x → Member (extended w s t o) x
  pub added : (w : World) (s : Sym) (t : Table) (o : Origin (Member w s) (first_number ≤ s.number)) → Member (extended w s t o) s
  pub only : (w : World) (s : Sym) (t : Table) (o : Origin (Member w s) (first_number ≤ s.number)) (x : Sym) → Member (extended w s t o) x → Origin (Member w x) (x ≡ s)

module _ (R : Realm) where
  open R use {names, World, Member, Table, knows, tabled}

  abbrev pub grows : World → World → Type 0
  grows w u = (s : Sym) → Member w s → Member u s

  abbrev pub Has : World → Tree → Type 0
  Has w = In (Member w)

  abbrev pub HasAll : World → List Tree → Type 0
  HasAll w = AllIn (Member w)

  abbrev pub RuleIn : World → Rule → Type 0
  RuleIn w r = Has w r.left × Has w r.right

  pub record DefinedIn (w : World) (d : Definition) : Type 0 where
    pub own : Opt (Has w) d.own
    pub downs : Each (RuleIn w) d.downs
    pub ups : Each (RuleIn w) d.ups

  abbrev pub LocalIn : World → Local → Type 0
  LocalIn w l = Member w l.symbol × Opt (Has w) l.value

  -- what two programs see of a symbol: the same, but for the definition of a shared one
  pub record SeenBoth (w : World) (x y : Seen) : Type 0 where
    pub shared : x.shared ≡ y.shared
    pub attributes : x.definition.attributes ≡ y.definition.attributes
    pub same : x.shared ≡ None → x.definition ≡ y.definition
    pub defined : x.shared ≡ None → DefinedIn w x.definition

  -- two programs that do the same, and keep to the set
  pub data Both : World → Prog → Prog → Type 0 where
    done : {w : World} {e : Tree} → Has w e → Both w (Done e) (Done e)
    stop : {w : World} {c : Stop} → Both w (Stops c) (Stops c)
    leaves : {w : World} → Both w Quits Quits
    throws : {w : World} {e : Tree} → R.Throwing → Has w e → Both w (Throws e) (Throws e)
    ask : {w : World} {e : Tree} {k l : Tree → Prog} → Has w e → ((u : World) → grows w u → (v : Tree) → Has u v → Both u (k v) (l v)) → Both w (Ask e k) (Ask e l)
    catches : {w : World} {e : Tree} {k l : Tree → Prog} → R.Throwing → Has w e → ((u : World) → grows w u → (v : Tree) → Has u v → Both u (k v) (l v)) → Both w (Catches e k) (Catches e l)
    within : {w : World} {ls : List Local} {e : Tree} {k l : Tree → Prog} → Each (LocalIn w) ls → Has w e
        → ((u : World) → grows w u → (v : Tree) → Has u v → Both u (k v) (l v)) → Both w (Within ls e k) (Within ls e l)
    look : {w : World} {s : Sym} {k l : Seen → Prog} → Member w s → ((x y : Seen) → SeenBoth w x y → Both w (k x) (l y)) → Both w (Look s k) (Look s l)
    put : {w : World} {s : Sym} {d : Definition} {p q : Prog} → Table → Origin (Member w s) (R.first_number ≤ s.number) → DefinedIn w d → ((u : World) → grows w u → Member u s → Both u p q) → Both w (Put s d p) (Put s d q)
    -- a symbol's definition is changed; that of a shared one may differ in the two
    edit : {w : World} {s : Sym} {f : Definition → Definition} {p q : Prog} → Table → Member w s → ((d : Definition) → DefinedIn w d → DefinedIn w (f d)) → Both w p q
        → Both w (Look s (λ seen. Put s (f seen.definition) p)) (Look s (λ seen. Put s (f seen.definition) q))
    fresh : {w : World} {k l : ℕ → Prog} → R.Numbered w → ((m : ℕ) → R.first_number ≤ m → Both w (k m) (l m)) → Both w (Fresh k) (Fresh l)
    turn : {w : World} {p q : Prog} → Both w p q → Both w (Turn p) (Turn q)
    check : {w : World} {e : Tree} {p q : Prog} → Has w e → Both w p q → Both w (Check e p) (Check e q)
    moded : {w : World} {k l : Mode → ℕ → Prog} → Both w (Moded k) (Moded l)

  pub same_world : (w : World) → grows w w
  same_world w s one = one

  pub later : (u v w : World) → grows u v → grows v w → grows u w
  later u v w g h s one = h s (g s one)

  mutual
    pub later_in : (w u : World) → grows w u → (e : Tree) → Has w e → Has u e
    later_in w u g (integer n) one = tt
    later_in w u g (string t) one = tt
    later_in w u g (symbol s) one = g s one
    later_in w u g (normal h es) one = (later_in w u g h one.0, later_ins w u g es one.1)

    pub later_ins : (w u : World) → grows w u → (es : Trees) → Ins (Member w) es → Ins (Member u) es
    later_ins w u g nil all = tt
    later_ins w u g (cons e es) all = (later_in w u g e all.0, later_ins w u g es all.1)

  pub later_all : (w u : World) → grows w u → (es : List Tree) → HasAll w es → HasAll u es
  later_all w u g [] all = tt
  later_all w u g (e ∷ es) all = (later_in w u g e all.0, later_all w u g es all.1)

  pub later_opt : (w u : World) → grows w u → (o : Option Tree) → Opt (Has w) o → Opt (Has u) o
  later_opt w u g None one = tt
  later_opt w u g (Some e) one = later_in w u g e one

  pub later_rules : (w u : World) → grows w u → (rs : List Rule) → Each (RuleIn w) rs → Each (RuleIn u) rs
  later_rules w u g [] all = tt
  later_rules w u g (r ∷ rs) all = ((later_in w u g r.left all.0.0, later_in w u g r.right all.0.1), later_rules w u g rs all.1)

  pub later_defined : (w u : World) → grows w u → (d : Definition) → DefinedIn w d → DefinedIn u d
  later_defined w u g d one =
      record { own = later_opt w u g d.own one.own; downs = later_rules w u g d.downs one.downs; ups = later_rules w u g d.ups one.ups }

  pub later_locals : (w u : World) → grows w u → (ls : List Local) → Each (LocalIn w) ls → Each (LocalIn u) ls
  later_locals w u g [] all = tt
  later_locals w u g (l ∷ ls) all = ((g l.symbol all.0.0, later_opt w u g l.value all.0.1), later_locals w u g ls all.1)

  pub later_symbols : (w u : World) → grows w u → (ss : List Sym) → Each (Member w) ss → Each (Member u) ss
  later_symbols w u g [] all = tt
  later_symbols w u g (s ∷ ss) all = (g s all.0, later_symbols w u g ss all.1)

  abbrev pub BoundIn : World → Binding → Type 0
  BoundIn w = AllBound (Member w) names Table (knows w) (tabled w)

  pub later_bound : (w u : World) → grows w u → (b : Binding) → BoundIn w b → BoundIn u b
  later_bound w u g [] all = tt
  later_bound w u g (c ∷ b) all = ((all.0.0, later_all w u g c.1 all.0.1), later_bound w u g b all.1)

  abbrev pub GuardsIn : World → List Guard → Type 0
  GuardsIn w = Each (GuardIn (Member w) names Table (knows w) (tabled w))

  pub later_guards : (w u : World) → grows w u → (gs : List Guard) → GuardsIn w gs → GuardsIn u gs
  later_guards w u g [] all = tt
  later_guards w u g (Test t x ∷ gs) all = ((later_in w u g t all.0.0, later_in w u g x all.0.1), later_guards w u g gs all.1)
  later_guards w u g (Cond c ∷ gs) all = (later_in w u g c all.0, later_guards w u g gs all.1)

  abbrev pub FoundsIn : World → List Found → Type 0
  FoundsIn w = Each (FoundIn (Member w) names Table (knows w) (tabled w))

  pub later_founds : (w u : World) → grows w u → (fs : List Found) → FoundsIn w fs → FoundsIn u fs
  later_founds w u g [] all = tt
  later_founds w u g (f ∷ fs) all = ((later_bound w u g f.binding all.0.0, later_guards w u g f.guards all.0.1), later_founds w u g fs all.1)

  -- programs that are alike from now on, and what goes on with a value or with values
  abbrev pub Later : World → Prog → Prog → Type 0
  Later w p q = (u : World) → grows w u → Both u p q

  abbrev pub LaterGives : World → (Tree → Prog) → (Tree → Prog) → Type 0
  LaterGives w k l = (u : World) → grows w u → (v : Tree) → Has u v → Both u (k v) (l v)

  abbrev pub LaterAll : World → (List Tree → Prog) → (List Tree → Prog) → Type 0
  LaterAll w k l = (u : World) → grows w u → (vs : List Tree) → HasAll u vs → Both u (k vs) (l vs)

  pub from_later : (w u : World) {p q : Prog} → grows w u → Later w p q → Later u p q
  from_later w u g next u' g' = next u' (later w u u' g g')

  pub now : (w : World) {p q : Prog} → Later w p q → Both w p q
  now w next = next w (same_world w)

  pub gives_later : (w u : World) {k l : Tree → Prog} → grows w u → LaterGives w k l → LaterGives u k l
  gives_later w u g next u' g' = next u' (later w u u' g g')

  pub all_later : (w u : World) {k l : List Tree → Prog} → grows w u → LaterAll w k l → LaterAll u k l
  all_later w u g next u' g' = next u' (later w u u' g g')

  -- the same branch of both
  pub branch : (w : World) (b : Bool) {p q p' q' : Prog} → Both w p p' → Both w q q' → Both w (elim b [ true ↦ p | false ↦ q ]) (elim b [ true ↦ p' | false ↦ q' ])
  branch w true one other = one
  branch w false one other = other

  pub branch_if : (w : World) (b : Bool) {p q p' q' : Prog} → (b ≡ true → Both w p p') → Both w q q' → Both w (elim b [ true ↦ p | false ↦ q ]) (elim b [ true ↦ p' | false ↦ q' ])
  branch_if w true one other = one refl
  branch_if w false one other = other

  -- with or without a value
  pub option_both : {A : Type 0} (w : World) (P : A → Type 0) (o : Option A) {p q : Prog} {k l : A → Prog} → Opt P o → Both w p q → ((a : A) → P a → Both w (k a) (l a))
      → Both w (elim o [ None ↦ p | Some a ↦ k a ]) (elim o [ None ↦ q | Some a ↦ l a ])
  option_both w P None one here there = here
  option_both w P (Some a) one here there = there a one

  pub itself : (w : World) → LaterGives w Done Done
  itself w u g v one = done one

  pub made : (w : World) → Table → (r : Builtin) → may_throw r ≡ false → (es : List Tree) → HasAll w es → Has w (make names r es)
  made w t r calm es all = (knows w t r calm, packed (Member w) es all)

  pub gives_name : (w : World) → Table → (r : Builtin) → may_throw r ≡ false → Both w (Done (symbol (known names r))) (Done (symbol (known names r)))
  gives_name w t r calm = done (knows w t r calm)

  pub placed : (w : World) (b : Binding) (e : Tree) → BoundIn w b → Has w e → Has w (put_in_place names b e)
  placed w b e all one = put_in_place_in (Member w) names Table (knows w) (tabled w) b e all one

  -- ---- trials of rules

  pub told_same : (s : Sym) (x y : Definition) (es fs : List (Sym × Definition)) → x.attributes ≡ y.attributes → told es ≡ told fs → told ((s, x) ∷ es) ≡ told ((s, y) ∷ fs)
  told_same s x y es fs a rest =
      λ i t. elim (same_symbol s t) [ true ↦ record { flat = has Builtin.Flat (a i); orderless = has Builtin.Orderless (a i) } | false ↦ rest i t ]

  look_all_both : (w : World) (ss : List Sym) (k l : List (Sym × Definition) → Prog) → Each (Member w) ss
      → ((es fs : List (Sym × Definition)) → told es ≡ told fs → Both w (k es) (l fs)) → Both w (look_all ss k) (look_all ss l)
  look_all_both w [] k l all next = next [] [] refl
  look_all_both w (s ∷ ss) k l all next =
      look all.0 (λ x y seen. look_all_both w ss (λ rest. k ((s, x.definition) ∷ rest)) (λ rest. l ((s, y.definition) ∷ rest)) all.1
      (λ es fs rest. next ((s, x.definition) ∷ es) ((s, y.definition) ∷ fs) (told_same s x.definition y.definition es fs seen.attributes rest)))

  condition_in_in : (w : World) (es : List Tree) → HasAll w es → HasAll w (condition_in es)
  condition_in_in w (r ∷ c ∷ []) all = all.1
  condition_in_in w _ all = tt

  result_in_in : (w : World) (e : Tree) (es : List Tree) → Has w e → HasAll w es → Has w (result_in e es)
  result_in_in w e (r ∷ c ∷ []) one all = all.0
  result_in_in w e _ one all = one

  pub condition_of_in : (w : World) (e : Tree) → Has w e → HasAll w (condition_of names e)
  condition_of_in w e one = both (HasAll w) (is_call names Builtin.Condition e) (condition_in_in w (items_of e) (items (Member w) e one)) tt

  pub result_of_in : (w : World) (e : Tree) → Has w e → Has w (result_of names e)
  result_of_in w e one = both (Has w) (is_call names Builtin.Condition e) (result_in_in w e (items_of e) one (items (Member w) e one)) one

  pub guarding : (w : World) (b : Binding) (g : Guard) → BoundIn w b → GuardIn (Member w) names Table (knows w) (tabled w) g → Has w (guard_expression names b g)
  guarding w b g all one = guard_in (Member w) names Table (knows w) (tabled w) b g all one

  try_guards_both : (w : World) (b : Binding) (gs : List Guard) (p q p' q' : Prog) → BoundIn w b → GuardsIn w gs → Later w p p' → Later w q q'
      → Both w (try_guards names b gs p q) (try_guards names b gs p' q')
  try_guards_both w b [] p q p' q' bound all pass fail = now w pass
  try_guards_both w b (g ∷ gs) p q p' q' bound all pass fail =
      check (guarding w b g bound all.0) (ask (guarding w b g bound all.0)
      (λ u h v one. branch u (is_name names Builtin.True v)
      (try_guards_both u b gs p q p' q' (later_bound w u h b bound) (later_guards w u h gs all.1) (from_later w u h pass) (from_later w u h fail)) (fail u h)))

  try_binding_both : (w : World) (b : Binding) (gs : List Guard) (p q p' q' : Prog) → BoundIn w b → GuardsIn w gs → Later w p p' → Later w q q'
      → Both w (try_binding names b gs p q) (try_binding names b gs p' q')
  try_binding_both w b [] p q p' q' bound all pass fail = now w pass
  try_binding_both w b (g ∷ gs) p q p' q' bound all pass fail =
      check (guarding w b g bound all.0) (turn (ask (guarding w b g bound all.0)
      (λ u h v one. branch u (is_name names Builtin.True v)
      (try_guards_both u b gs p q p' q' (later_bound w u h b bound) (later_guards w u h gs all.1) (from_later w u h pass) (from_later w u h fail)) (fail u h))))

  try_bindings_both : (w : World) (fs : List Found) (r : Tree) (k l : Tree → Prog) (p q : Prog) → Has w r → FoundsIn w fs → LaterGives w k l → Later w p q
      → Both w (try_bindings names r fs k p) (try_bindings names r fs l q)
  try_bindings_both w [] r k l p q right all gives otherwise = now w otherwise
  try_bindings_both w (f ∷ fs) r k l p q right all gives otherwise =
      try_binding_both w f.binding (f.guards ++ map Cond (condition_of names r)) _ _ _ _ all.0.0
      (appended (GuardIn (Member w) names Table (knows w) (tabled w)) f.guards (map Cond (condition_of names r)) all.0.1
      (mapped (Has w) (GuardIn (Member w) names Table (knows w) (tabled w)) Cond (λ c one. one) (condition_of names r) (condition_of_in w r right)))
      (λ u g. gives u g _ (later_in w u g (put_in_place names f.binding (result_of names r)) (placed w f.binding (result_of names r) all.0.0 (result_of_in w r right))))
      (λ u g. try_bindings_both u fs r k l p q (later_in w u g r right) (later_founds w u g fs all.1) (gives_later w u g gives) (from_later w u g otherwise))

  try_rule_both : (w : World) (r : Rule) (e : Tree) (k l : Tree → Prog) (p q : Prog) → RuleIn w r → Has w e → LaterGives w k l → Later w p q
      → Both w (try_rule names r e k p) (try_rule names r e l q)
  try_rule_both w r e k l p q rule one gives otherwise =
      look_all_both w (heads names r.left) _ _ (heads_inside (Member w) names Table (knows w) (tabled w) r.left rule.0)
      (λ es fs seen. subst (λ A. Both w (try_bindings names r.right (matches names (told es) r.left e) k p) (try_bindings names r.right (matches names A r.left e) l q)) seen
      (try_bindings_both w (matches names (told es) r.left e) r.right k l p q rule.1 (matches_in (Member w) names Table (knows w) (tabled w) (told es) r.left e rule.0 one) gives otherwise))

  pub try_rules_both : (w : World) (rs : List Rule) (e : Tree) (k l : Tree → Prog) (p q : Prog) → Each (RuleIn w) rs → Has w e → LaterGives w k l → Later w p q
      → Both w (try_rules names rs e k p) (try_rules names rs e l q)
  try_rules_both w [] e k l p q all one gives otherwise = now w otherwise
  try_rules_both w (r ∷ rs) e k l p q all one gives otherwise =
      try_rule_both w r e k l _ _ all.0 one gives
      (λ u g. try_rules_both u rs e k l p q (later_rules w u g rs all.1) (later_in w u g e one) (gives_later w u g gives) (from_later w u g otherwise))

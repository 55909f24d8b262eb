-- What several rows use: results, choices by a name or by the mode, trials of rules.
use Rattle.std.proofs.Common.{◌≡◌, refl, true, false, List, []}
use Rattle.expr_tree.specs.declared.sym.Sym.{Sym}
use Rattle.expr_tree.specs.Tree.{Tree}
use Rattle.expr_tree.specs.Substitution.{Binding}
use Rattle.semantics.specs.declared.builtin.Builtin.{Builtin}
use Rattle.semantics.specs.Names.{name, is_name, make}
use Rattle.semantics.specs.Program.{Prog, Done, Mode, Cell, Item, Service, look_all}
use Rattle.semantics.specs.Rule.{Rule, condition_in, result_in, condition_of, result_of}
use Rattle.semantics.specs.Match.{Guard, Cond, Found, Matching}
use Rattle.semantics.specs.Definitions.{Definition}
use Rattle.semantics.specs.Attempt.{told, try_guards, try_binding, try_bindings, try_rule, try_rules}
use Rattle.laws_relations.proofs.Relate.{All, all_nil, all_cons, branch, append2, map2}
use Rattle.laws_relations.proofs.Relation.{items-like, LikeBound, LikeRule, same_symbol-like, is_name-like, is_call-like, name-like, make-like}
use Rattle.laws_relations.proofs.PutInPlace.{put_in_place-like}
use Rattle.laws_relations.proofs.Matching.{LikeGuard, conditions, LikeFound, matches-like, heads-like, guard_expression-like, SameHow}
use Rattle.laws_relations.proofs.Kin.{Kin, LikeTree, LikeTrees, LikeSymbols, LikeDefined, LikeRules}
use Rattle.laws_relations.proofs.Simulation.{Both, Next, done, ask, look, turn, check}

module _ (K : Kin) where
  open K use {names}

  pub name-both : (row : Builtin) → Both K (Done (name names row)) (Done (name names row))
  name-both row = done (name-like K.Symbols names K.faithful row)

  pub made-both : (row : Builtin) {es fs : List Tree} → LikeTrees K es fs → Both K (Done (make names row es)) (Done (make names row fs))
  made-both row l = done (make-like K.Symbols names K.faithful row l)

  pub by_name-both : (row : Builtin) {v x : Tree} {p q p' q' : Prog} → LikeTree K v x → Both K p p' → Both K q q'
      → Both K (elim (is_name names row v) [ true ↦ p | false ↦ q ]) (elim (is_name names row x) [ true ↦ p' | false ↦ q' ])
  by_name-both row same a b = branch (Both K) (is_name-like K.Symbols names K.faithful row same) a b

  pub by_cell : (mode : Mode) {p q p' q' : Prog} → Both K p p' → Both K q q' → Both K (elim mode [ Cell ↦ p | _ ↦ q ]) (elim mode [ Cell ↦ p' | _ ↦ q' ])
  by_cell Cell one other = one
  by_cell Item one other = other
  by_cell Service one other = other

  pub by_item : (mode : Mode) {p q p' q' : Prog} → Both K p p' → Both K q q' → Both K (elim mode [ Item ↦ p | _ ↦ q ]) (elim mode [ Item ↦ p' | _ ↦ q' ])
  by_item Cell one other = other
  by_item Item one other = one
  by_item Service one other = other

  pub by_service : (mode : Mode) {p q p' q' : Prog} → Both K p p' → Both K q q' → Both K (elim mode [ Service ↦ p | _ ↦ q ]) (elim mode [ Service ↦ p' | _ ↦ q' ])
  by_service Cell one other = other
  by_service Item one other = other
  by_service Service one other = one

  -- ---- trials of rules

  abbrev LikeSeen : Sym × Definition → Sym × Definition → Type 0
  LikeSeen e f = K.Symbols e.0 f.0 × LikeDefined K e.1 f.1

  told-like : {es fs : List (Sym × Definition)} → All LikeSeen es fs → SameHow K.Symbols names K.faithful (told es) (told fs)
  told-like all_nil s t one = refl
  told-like (all_cons e es) s t one = branch (◌≡◌ {A = Matching}) (same_symbol-like K.Symbols names K.faithful e.0 one) (rw (e.1.attributes) refl) (told-like es s t one)

  look_all-both : {ss ts : List Sym} (k l : List (Sym × Definition) → Prog) → LikeSymbols K ss ts
      → ((es fs : List (Sym × Definition)) → All LikeSeen es fs → Both K (k es) (l fs)) → Both K (look_all ss k) (look_all ts l)
  look_all-both k l all_nil next = next [] [] all_nil
  look_all-both k l (all_cons s ss) next = look s (λ x y defined shared. look_all-both _ _ ss (λ es fs rest. next _ _ (all_cons (s, defined) rest)))

  condition_in-like : {es fs : List Tree} → LikeTrees K es fs → LikeTrees K (condition_in es) (condition_in fs)
  condition_in-like (all_cons r (all_cons c all_nil)) = all_cons c all_nil
  condition_in-like _ = all_nil

  result_in-like : {e f : Tree} {es fs : List Tree} → LikeTree K e f → LikeTrees K es fs → LikeTree K (result_in e es) (result_in f fs)
  result_in-like e (all_cons r (all_cons c all_nil)) = r
  result_in-like e _ = e

  pub condition_of-like : {e f : Tree} → LikeTree K e f → LikeTrees K (condition_of names e) (condition_of names f)
  condition_of-like e = branch (LikeTrees K) (is_call-like K.Symbols names K.faithful Builtin.Condition e) (condition_in-like (items-like K.Symbols e)) all_nil

  result_of-like : {e f : Tree} → LikeTree K e f → LikeTree K (result_of names e) (result_of names f)
  result_of-like e = branch (LikeTree K) (is_call-like K.Symbols names K.faithful Builtin.Condition e) (result_in-like e (items-like K.Symbols e)) e

  abbrev Bound : Binding → Binding → Type 0
  Bound = All (LikeBound K.Symbols)

  abbrev Guards : List Guard → List Guard → Type 0
  Guards = All (LikeGuard K.Symbols)

  try_guards-both : {b c : Binding} {gs hs : List Guard} {p q p' q' : Prog} → Bound b c → Guards gs hs → Both K p p' → Both K q q' → Both K (try_guards names b gs p q) (try_guards names c hs p' q')
  try_guards-both bs all_nil pass fail = pass
  try_guards-both bs (all_cons one rest) pass fail =
      check (guard_expression-like K.Symbols names K.faithful bs one)
      (ask (guard_expression-like K.Symbols names K.faithful bs one) (λ v x same. by_name-both Builtin.True same (try_guards-both bs rest pass fail) fail))

  try_binding-both : {b c : Binding} {gs hs : List Guard} {p q p' q' : Prog} → Bound b c → Guards gs hs → Both K p p' → Both K q q' → Both K (try_binding names b gs p q) (try_binding names c hs p' q')
  try_binding-both bs all_nil pass fail = pass
  try_binding-both bs (all_cons one rest) pass fail =
      check (guard_expression-like K.Symbols names K.faithful bs one)
      (turn (ask (guard_expression-like K.Symbols names K.faithful bs one) (λ v x same. by_name-both Builtin.True same (try_guards-both bs rest pass fail) fail)))

  try_bindings-both : {fs gs : List Found} {r q : Tree} (k l : Tree → Prog) {p p' : Prog} → LikeTree K r q → All (LikeFound K.Symbols names K.faithful) fs gs → Next K k l → Both K p p'
      → Both K (try_bindings names r fs k p) (try_bindings names q gs l p')
  try_bindings-both k l right all_nil gives otherwise = otherwise
  try_bindings-both k l right (all_cons found rest) gives otherwise =
      try_binding-both found.binding (append2 found.guards (map2 Cond Cond (λ a b one. conditions one) (condition_of-like right)))
      (gives _ _ (put_in_place-like K.Symbols names K.faithful _ _ found.binding (result_of-like right)))
      (try_bindings-both k l right rest gives otherwise)

  try_rule-both : {r q : Rule} {e f : Tree} (k l : Tree → Prog) {p p' : Prog} → LikeRule K.Symbols r q → LikeTree K e f → Next K k l → Both K p p' → Both K (try_rule names r e k p) (try_rule names q f l p')
  try_rule-both k l rule e gives otherwise =
      look_all-both _ _ (heads-like K.Symbols names K.faithful rule.left)
      (λ es fs seen. try_bindings-both k l rule.right (matches-like K.Symbols names K.faithful (told es) (told fs) (told-like seen) rule.left e) gives otherwise)

  -- trials of a list of rules
  pub try_rules-both : {rs qs : List Rule} {e f : Tree} (k l : Tree → Prog) {p p' : Prog} → LikeRules K rs qs → LikeTree K e f → Next K k l → Both K p p'
      → Both K (try_rules names rs e k p) (try_rules names qs f l p')
  try_rules-both k l all_nil e gives otherwise = otherwise
  try_rules-both k l (all_cons rule rules) e gives otherwise = try_rule-both k l rule e gives (try_rules-both k l rules e gives otherwise)

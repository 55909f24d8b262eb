-- Head, elements and splicing, and the left side of an assignment; Module, Block and With, pure functions; replacing and matching.
use Rattle.std.proofs.Common.{ℕ, zero, suc, Bool, true, false, List, [], ◌∷◌, ◌++◌, Option, Some, None}
use Rattle.expr_tree.specs.declared.sym.Sym.{Sym}
use Rattle.expr_tree.specs.Tree.{Tree, integer, string, symbol, normal, Trees, nil, cons, elements, call}
use Rattle.expr_tree.specs.Order.{same}
use Rattle.semantics.specs.declared.builtin.Builtin.{Builtin}
use Rattle.semantics.specs.Names.{is_call, items_of, make}
use Rattle.semantics.specs.InPlace.{put_in_place}
use Rattle.semantics.specs.Rule.{Rule}
use Rattle.semantics.specs.Definitions.{Attributes}
use Rattle.semantics.specs.Program.{Prog, Done, Local}
use Rattle.semantics.specs.Assemble.{attributes_of, holds_first, holds_rest, is_asked, ask_rest, ask_items, first_steps, flattened, threaded, sorted, check_all, left_side}
use Rattle.semantics.specs.Scoping.{locals_of, symbols_of, differ, ask_values, with_locals, with_number, make_all, module_form, unless_any_shared, block_form, values_in, with_form, paired, parameters, put_arguments, apply_function}
use Rattle.semantics.specs.Replace.{rule_set, replaced, replaced_items, replace_all, rounds, replace_repeated, asks, match_q, member, member_q, cases_of, case_rule, matching, cases, count_of, count_row, free, free_items, free_q}
use Rattle.laws_calls.proofs.Programs.{Point, Fit, done, stop, ask, within, look, put, fresh, turn, check, moded, Gives, GivesAll, branch, option, try_rules-fits}

module _ (P : Point) where
  open P use {names}

  -- ---- the first steps

  attributes_of-fits : (h : Tree) (k : Attributes → Prog) → ((a : Attributes) → Fit P (k a)) → Fit P (attributes_of h k)
  attributes_of-fits (integer n) k next = next []
  attributes_of-fits (string t) k next = next []
  attributes_of-fits (symbol s) k next = look (λ seen. next _)
  attributes_of-fits (normal h es) k next = next []

  ask_rest-fits : (a : Attributes) (es so : List Tree) (k : List Tree → Prog) → GivesAll P k → Fit P (ask_rest names a es so k)
  ask_rest-fits a [] so k next = next so
  ask_rest-fits a (e ∷ es) so k next =
      branch P (is_asked names a (holds_rest a) e) (ask (λ v. ask_rest-fits a es (so ++ v ∷ []) k next)) (ask_rest-fits a es (so ++ e ∷ []) k next)

  ask_items-fits : (a : Attributes) (es : List Tree) (k : List Tree → Prog) → GivesAll P k → Fit P (ask_items names a es k)
  ask_items-fits a [] k next = next []
  ask_items-fits a (e ∷ es) k next = branch P (is_asked names a (holds_first a) e) (ask (λ v. ask_rest-fits a es (v ∷ []) k next)) (ask_rest-fits a es (e ∷ []) k next)

  pub first_steps-fits : (h : Tree) (es : List Tree) (k : Tree → Attributes → List Tree → Prog) → ((x : Tree) (a : Attributes) (gs : List Tree) → Fit P (k x a gs)) → Fit P (first_steps names h es k)
  first_steps-fits h es k next = ask (λ x. attributes_of-fits x _ (λ a. ask_items-fits a es _ (λ gs. check (next x a _))))

  pub check_all-fits : (es : List Tree) {p : Prog} → Fit P p → Fit P (check_all es p)
  check_all-fits [] next = next
  check_all-fits (e ∷ es) next = check (check_all-fits es next)

  pub left_side-fits : (e : Tree) (k : Tree → Prog) → Gives P k → Fit P (left_side names e k)
  left_side-fits (normal h es) k next = first_steps-fits h (elements es) _ (λ x a gs. go x a gs (threaded names x a (flattened x a gs)))
    where
      go : (x : Tree) (a : Attributes) (gs : List Tree) (o : Option (List Tree))
          → Fit P (elim o [ Some each ↦ check_all each (k (make names Builtin.List each)) | None ↦ k (call x (sorted a (flattened x a gs))) ])
      go x a gs None = next _
      go x a gs (Some each) = check_all-fits each (next _)
  left_side-fits (integer n) k next = next (integer n)
  left_side-fits (string t) k next = next (string t)
  left_side-fits (symbol s) k next = next (symbol s)

  -- ---- locals

  abbrev GivesLocals : (List Local → Prog) → Type 0
  GivesLocals k = (ls : List Local) → Fit P (k ls)

  ask_values-fits : (ls so : List Local) (k : List Local → Prog) → GivesLocals k → Fit P (ask_values ls so k)
  ask_values-fits [] so k next = next so
  ask_values-fits (l ∷ ls) so k next = option P l.value (ask_values-fits ls _ k next) (λ v. ask (λ w. ask_values-fits ls _ k next))

  pub with_locals-fits : (allowed : List Sym → Bool) (k : List Local → Tree → Prog) {p : Prog} (es : List Tree) → ((ls : List Local) (body : Tree) → Fit P (k ls body)) → Fit P p
      → Fit P (with_locals names allowed k p es)
  with_locals-fits allowed k (ls ∷ body ∷ []) form stay =
      branch P (is_call names Builtin.List ls)
      (option P (locals_of names (items_of ls)) stay (λ locals. branch P (allowed (symbols_of locals)) (form locals body) stay)) stay
  with_locals-fits allowed k _ form stay = stay

  make_all-fits : (ls : List Local) {p : Prog} → Fit P p → Fit P (make_all ls p)
  make_all-fits [] next = next
  make_all-fits (l ∷ ls) next = put (make_all-fits ls next)

  pub module-fits : (ls : List Local) (body : Tree) → Fit P (module_form names ls body)
  module-fits ls body = fresh (λ m. ask_values-fits ls [] _ (λ vs. make_all-fits (with_number m vs) done))

  unless_any_shared-fits : (ss : List Sym) {p : Prog} → Fit P p → Fit P (unless_any_shared names ss p)
  unless_any_shared-fits [] next = next
  unless_any_shared-fits (s ∷ ss) next = look (λ seen. option P seen.shared (unless_any_shared-fits ss next) (λ kind. moded (λ kernel. done)))

  pub block-fits : (ls : List Local) (body : Tree) → Fit P (block_form names ls body)
  block-fits ls body = unless_any_shared-fits (symbols_of ls) (ask_values-fits ls [] _ (λ vs. within (λ v. done)))

  pub with-fits : {p : Prog} → Fit P p → (ls : List Local) (body : Tree) → Fit P (with_form names p ls body)
  with-fits stay ls body = option P (values_in ls) stay (λ b. ask_values-fits ls [] _ (λ vs. option P (values_in vs) stay (λ c. done)))

  put_arguments-fits : (ss : List Sym) (args : List Tree) (body : Tree) {p : Prog} → Fit P p → Fit P (put_arguments names ss args body p)
  put_arguments-fits ss args body {p} stay = go (differ ss)
    where
      go : (b : Bool) → Fit P (elim b [ false ↦ p | true ↦ elim (paired ss args) [ None ↦ p | Some b ↦ Done (put_in_place names b body) ] ])
      go false = stay
      go true = option P (paired ss args) stay (λ b. done)

  pub apply_function-fits : {p : Prog} (es args : List Tree) → Fit P p → Fit P (apply_function names p es args)
  apply_function-fits (body ∷ []) args stay = done
  apply_function-fits (x ∷ body ∷ []) args stay = option P (parameters names x) stay (λ ss. put_arguments-fits ss args body stay)
  apply_function-fits [] args stay = stay
  apply_function-fits (x ∷ y ∷ z ∷ es) args stay = stay

  -- ---- replacing

  mutual
    replaced-fits : (rs : List Rule) (e : Tree) (k : Tree → Prog) → Gives P k → Fit P (replaced names rs e k)
    replaced-fits rs (integer n) k gives = try_rules-fits P rs (integer n) k gives (gives (integer n))
    replaced-fits rs (string t) k gives = try_rules-fits P rs (string t) k gives (gives (string t))
    replaced-fits rs (symbol s) k gives = try_rules-fits P rs (symbol s) k gives (gives (symbol s))
    replaced-fits rs (normal h es) k gives =
        try_rules-fits P rs (normal h es) k gives (replaced-fits rs h _ (λ f. replaced_items-fits rs es _ (λ fs. gives (normal f fs))))

    replaced_items-fits : (rs : List Rule) (es : Trees) (k : Trees → Prog) → ((fs : Trees) → Fit P (k fs)) → Fit P (replaced_items names rs es k)
    replaced_items-fits rs nil k gives = gives nil
    replaced_items-fits rs (cons e es) k gives = replaced-fits rs e _ (λ f. replaced_items-fits rs es _ (λ fs. gives (cons f fs)))

  pub replace_all-fits : {p : Prog} (es : List Tree) → Fit P p → Fit P (replace_all names p es)
  replace_all-fits (e ∷ r ∷ []) stay = option P (rule_set names r) stay (λ rs. replaced-fits rs e Done (λ v. done))
  replace_all-fits _ stay = stay

  rounds-fits : (n : ℕ) (rs : List Rule) (e : Tree) → Fit P (rounds names rs n e)
  rounds-fits zero rs e = turn (replaced-fits rs e _ (λ f. check (branch P (same f e) done stop)))
  rounds-fits (suc n) rs e = turn (replaced-fits rs e _ (λ f. check (branch P (same f e) done (ask (λ v. rounds-fits n rs v)))))

  pub replace_repeated-fits : {p : Prog} (es : List Tree) → Fit P p → Fit P (replace_repeated names p es)
  replace_repeated-fits (e ∷ r ∷ []) stay = option P (rule_set names r) stay (λ rs. rounds-fits 4095 rs e)
  replace_repeated-fits _ stay = stay

  -- ---- whether a pattern matches

  pub match_q-fits : {p : Prog} (es : List Tree) → Fit P p → Fit P (match_q names p es)
  match_q-fits (e ∷ x ∷ []) stay = try_rules-fits P (asks names x) e _ (λ v. done) done
  match_q-fits _ stay = stay

  member-fits : (x : Tree) (es : List Tree) → Fit P (member names x es)
  member-fits x [] = done
  member-fits x (e ∷ es) = try_rules-fits P (asks names x) e _ (λ v. done) (member-fits x es)

  pub member_q-fits : {p : Prog} (es : List Tree) → Fit P p → Fit P (member_q names p es)
  member_q-fits (normal h es ∷ x ∷ []) stay = member-fits x (elements es)
  member_q-fits _ stay = stay

  cases_of-fits : (h : Tree) (rs : List Rule) (es so : List Tree) → Fit P (cases_of names h rs es so)
  cases_of-fits h rs [] so = done
  cases_of-fits h rs (e ∷ es) so = try_rules-fits P rs e _ (λ v. cases_of-fits h rs es (v ∷ so)) (cases_of-fits h rs es so)

  matching-fits : (h x : Tree) (es so : List Tree) → Fit P (matching names h x es so)
  matching-fits h x [] so = done
  matching-fits h x (e ∷ es) so = try_rules-fits P (asks names x) e _ (λ v. matching-fits h x es (e ∷ so)) (matching-fits h x es so)

  pub cases-fits : {p : Prog} (es : List Tree) → Fit P p → Fit P (cases names p es)
  cases-fits (normal h es ∷ x ∷ []) stay = go (case_rule names x)
    where
      go : (rules : List Rule) → Fit P (elim rules [ [] ↦ matching names h x (elements es) [] | r ∷ rs ↦ cases_of names h (r ∷ rs) (elements es) [] ])
      go [] = matching-fits h x (elements es) []
      go (r ∷ rs) = cases_of-fits h (r ∷ rs) (elements es) []
  cases-fits _ stay = stay

  count_of-fits : (x : Tree) (es : List Tree) (n : ℕ) → Fit P (count_of names x es n)
  count_of-fits x [] n = done
  count_of-fits x (e ∷ es) n = try_rules-fits P (asks names x) e _ (λ v. count_of-fits x es (suc n)) (count_of-fits x es n)

  pub count_row-fits : {p : Prog} (es : List Tree) → Fit P p → Fit P (count_row names p es)
  count_row-fits (normal h es ∷ x ∷ []) stay = count_of-fits x (elements es) 0
  count_row-fits _ stay = stay

  mutual
    free-fits : (x e : Tree) {p : Prog} → Fit P p → Fit P (free names x e p)
    free-fits x (integer n) next = try_rules-fits P (asks names x) (integer n) _ (λ v. done) next
    free-fits x (string t) next = try_rules-fits P (asks names x) (string t) _ (λ v. done) next
    free-fits x (symbol s) next = try_rules-fits P (asks names x) (symbol s) _ (λ v. done) next
    free-fits x (normal h es) next = try_rules-fits P (asks names x) (normal h es) _ (λ v. done) (free-fits x h (free_items-fits x es next))

    free_items-fits : (x : Tree) (es : Trees) {p : Prog} → Fit P p → Fit P (free_items names x es p)
    free_items-fits x nil next = next
    free_items-fits x (cons e es) next = free-fits x e (free_items-fits x es next)

  pub free_q-fits : {p : Prog} (es : List Tree) → Fit P p → Fit P (free_q names p es)
  free_q-fits (e ∷ x ∷ []) stay = free-fits x e done
  free_q-fits _ stay = stay

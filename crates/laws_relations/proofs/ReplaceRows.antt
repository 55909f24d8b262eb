-- What replacing owes, and the rows that ask whether a pattern matches.
use Rattle.std.proofs.Common.{refl, ℕ, zero, suc, true, false, List, [], ◌∷◌}
use Rattle.expr_tree.specs.Tree.{Tree, Trees}
use Rattle.semantics.specs.declared.builtin.Builtin.{Builtin}
use Rattle.semantics.specs.Names.{truth}
use Rattle.semantics.specs.Rule.{Rule}
use Rattle.semantics.specs.Program.{Prog, Done}
use Rattle.semantics.specs.Replace.{rule_in, rule_of, rules_in, rule_set, replaced, replaced_items, replace_all, rounds, replace_repeated, asks, match_q, member, member_q, cases_of, case_rule, matching, cases, count_of, count_row, free, free_items, free_q}
use Rattle.laws_relations.proofs.Relate.{Opt, none, some, all_nil, all_cons, branch, case}
use Rattle.laws_relations.proofs.Listed.{reverse2}
use Rattle.laws_relations.proofs.Relation.{int, str, sym, node, Likes, ends, mores, LikeRule, listed-like, items-like, call-like, same-like, is_call-like}
use Rattle.laws_relations.proofs.NumberRows.{truth-like}
use Rattle.laws_relations.proofs.Kin.{Kin, LikeTree, LikeTrees, LikeRules}
use Rattle.laws_relations.proofs.Simulation.{Both, Next, done, ask, stop, turn, check}
use Rattle.laws_relations.proofs.Programs.{try_rules-both}

module _ (K : Kin) where
  open K use {names}

  rule_in-like : {es fs : List Tree} → LikeTrees K es fs → Opt (LikeRule K.Symbols) (rule_in es) (rule_in fs)
  rule_in-like (all_cons l (all_cons r all_nil)) = some (record { left = l; right = r })
  rule_in-like _ = none

  rule_of-like : {e f : Tree} → LikeTree K e f → Opt (LikeRule K.Symbols) (rule_of names e) (rule_of names f)
  rule_of-like e =
      branch (Opt (LikeRule K.Symbols)) (rw (is_call-like K.Symbols names K.faithful Builtin.Rule e, is_call-like K.Symbols names K.faithful Builtin.RuleDelayed e) refl)
      (rule_in-like (items-like K.Symbols e)) none

  rules_in-like : {es fs : List Tree} → LikeTrees K es fs → Opt (LikeRules K) (rules_in names es) (rules_in names fs)
  rules_in-like all_nil = some all_nil
  rules_in-like (all_cons e l) = case (Opt (LikeRules K)) (rule_of-like e) none (λ a b one. case (Opt (LikeRules K)) (rules_in-like l) none (λ as' bs rest. some (all_cons one rest)))

  rule_set-like : {e f : Tree} → LikeTree K e f → Opt (LikeRules K) (rule_set names e) (rule_set names f)
  rule_set-like e = branch (Opt (LikeRules K)) (is_call-like K.Symbols names K.faithful Builtin.List e) (rules_in-like (items-like K.Symbols e)) (rules_in-like (all_cons e all_nil))

  -- ---- replacing

  mutual
    replaced-both : {rs qs : List Rule} {e f : Tree} (k l : Tree → Prog) → LikeRules K rs qs → LikeTree K e f → Next K k l → Both K (replaced names rs e k) (replaced names qs f l)
    replaced-both k l rules int next = try_rules-both K k l rules int next (next _ _ int)
    replaced-both k l rules str next = try_rules-both K k l rules str next (next _ _ str)
    replaced-both k l rules (sym s) next = try_rules-both K k l rules (sym s) next (next _ _ (sym s))
    replaced-both k l rules (node h es) next =
        try_rules-both K k l rules (node h es) next
        (replaced-both _ _ rules h (λ v x same. replaced_items-both _ _ rules es (λ vs xs all. next _ _ (node same all))))

    replaced_items-both : {rs qs : List Rule} {es fs : Trees} (k l : Trees → Prog) → LikeRules K rs qs → Likes K.Symbols es fs
        → ((vs xs : Trees) → Likes K.Symbols vs xs → Both K (k vs) (l xs)) → Both K (replaced_items names rs es k) (replaced_items names qs fs l)
    replaced_items-both k l rules ends next = next _ _ ends
    replaced_items-both k l rules (mores e es) next = replaced-both _ _ rules e (λ v x same. replaced_items-both _ _ rules es (λ vs xs all. next _ _ (mores same all)))

  pub replace_all-both : {p q : Prog} {es fs : List Tree} → Both K p q → LikeTrees K es fs → Both K (replace_all names p es) (replace_all names q fs)
  replace_all-both stay (all_cons e (all_cons r all_nil)) = case (Both K) (rule_set-like r) stay (λ rs qs rules. replaced-both Done Done rules e (λ v x same. done same))
  replace_all-both stay _ = stay

  rounds-both : (n : ℕ) {rs qs : List Rule} {e f : Tree} → LikeRules K rs qs → LikeTree K e f → Both K (rounds names rs n e) (rounds names qs n f)
  rounds-both zero rules e = turn (replaced-both _ _ rules e (λ v x same. check same (branch (Both K) (same-like K.Symbols names K.faithful same e) (done same) stop)))
  rounds-both (suc n) rules e = turn (replaced-both _ _ rules e (λ v x same. check same (branch (Both K) (same-like K.Symbols names K.faithful same e) (done same) (ask same (λ x y value. rounds-both n rules value)))))

  pub replace_repeated-both : {p q : Prog} {es fs : List Tree} → Both K p q → LikeTrees K es fs → Both K (replace_repeated names p es) (replace_repeated names q fs)
  replace_repeated-both stay (all_cons e (all_cons r all_nil)) = case (Both K) (rule_set-like r) stay (λ rs qs rules. rounds-both 4095 rules e)
  replace_repeated-both stay _ = stay

  -- ---- matching

  asks-like : {p q : Tree} → LikeTree K p q → LikeRules K (asks names p) (asks names q)
  asks-like p = all_cons (record { left = p; right = truth-like K.Symbols names K.faithful {a = true} refl }) all_nil

  yes : Both K (Done (truth names true)) (Done (truth names true))
  yes = done (truth-like K.Symbols names K.faithful {a = true} refl)

  no : Both K (Done (truth names false)) (Done (truth names false))
  no = done (truth-like K.Symbols names K.faithful {a = false} refl)

  pub match_q-both : {p q : Prog} {es fs : List Tree} → Both K p q → LikeTrees K es fs → Both K (match_q names p es) (match_q names q fs)
  match_q-both stay (all_cons e (all_cons p all_nil)) = try_rules-both K _ _ (asks-like p) e (λ v x same. yes) no
  match_q-both stay _ = stay

  member-both : {p q : Tree} {es fs : List Tree} → LikeTree K p q → LikeTrees K es fs → Both K (member names p es) (member names q fs)
  member-both p all_nil = no
  member-both p (all_cons e l) = try_rules-both K _ _ (asks-like p) e (λ v x same. yes) (member-both p l)

  pub member_q-both : {p q : Prog} {es fs : List Tree} → Both K p q → LikeTrees K es fs → Both K (member_q names p es) (member_q names q fs)
  member_q-both stay (all_cons (node h es) (all_cons p all_nil)) = member-both p (listed-like K.Symbols es)
  member_q-both stay _ = stay

  cases_of-both : {h g : Tree} {rs qs : List Rule} {es fs so so' : List Tree} → LikeTree K h g → LikeRules K rs qs → LikeTrees K es fs → LikeTrees K so so' → Both K (cases_of names h rs es so) (cases_of names g qs fs so')
  cases_of-both h rules all_nil so = done (call-like K.Symbols h (reverse2 so))
  cases_of-both h rules (all_cons e l) so = try_rules-both K _ _ rules e (λ v x same. cases_of-both h rules l (all_cons same so)) (cases_of-both h rules l so)

  case_rule-like : {p q : Tree} → LikeTree K p q → LikeRules K (case_rule names p) (case_rule names q)
  case_rule-like p = case (LikeRules K) (rule_of-like p) all_nil (λ a b one. all_cons one all_nil)

  matching-both : {h g p q : Tree} {es fs so so' : List Tree} → LikeTree K h g → LikeTree K p q → LikeTrees K es fs → LikeTrees K so so' → Both K (matching names h p es so) (matching names g q fs so')
  matching-both h p all_nil so = done (call-like K.Symbols h (reverse2 so))
  matching-both h p (all_cons e l) so = try_rules-both K _ _ (asks-like p) e (λ v x same. matching-both h p l (all_cons e so)) (matching-both h p l so)

  by_rules : {h g p q : Tree} {es fs : List Tree} {rs qs : List Rule} → LikeTree K h g → LikeTree K p q → LikeTrees K es fs → LikeRules K rs qs
      → Both K (elim rs [ [] ↦ matching names h p es [] | r ∷ rest ↦ cases_of names h (r ∷ rest) es [] ]) (elim qs [ [] ↦ matching names g q fs [] | r ∷ rest ↦ cases_of names g (r ∷ rest) fs [] ])
  by_rules h p l all_nil = matching-both h p l all_nil
  by_rules h p l (all_cons r rest) = cases_of-both h (all_cons r rest) l all_nil

  pub cases-both : {p q : Prog} {es fs : List Tree} → Both K p q → LikeTrees K es fs → Both K (cases names p es) (cases names q fs)
  cases-both stay (all_cons (node h es) (all_cons p all_nil)) = by_rules h p (listed-like K.Symbols es) (case_rule-like p)
  cases-both stay _ = stay

  count_of-both : (n : ℕ) {p q : Tree} {es fs : List Tree} → LikeTree K p q → LikeTrees K es fs → Both K (count_of names p es n) (count_of names q fs n)
  count_of-both n p all_nil = done int
  count_of-both n p (all_cons e l) = try_rules-both K _ _ (asks-like p) e (λ v x same. count_of-both (suc n) p l) (count_of-both n p l)

  pub count_row-both : {p q : Prog} {es fs : List Tree} → Both K p q → LikeTrees K es fs → Both K (count_row names p es) (count_row names q fs)
  count_row-both stay (all_cons (node h es) (all_cons p all_nil)) = count_of-both 0 p (listed-like K.Symbols es)
  count_row-both stay _ = stay

  mutual
    free-both : {p q e f : Tree} (k l : Prog) → LikeTree K p q → LikeTree K e f → Both K k l → Both K (free names p e k) (free names q f l)
    free-both k l p int next = try_rules-both K _ _ (asks-like p) int (λ v x same. no) next
    free-both k l p str next = try_rules-both K _ _ (asks-like p) str (λ v x same. no) next
    free-both k l p (sym s) next = try_rules-both K _ _ (asks-like p) (sym s) (λ v x same. no) next
    free-both k l p (node h es) next = try_rules-both K _ _ (asks-like p) (node h es) (λ v x same. no) (free-both _ _ p h (free_items-both k l p es next))

    free_items-both : {p q : Tree} {es fs : Trees} (k l : Prog) → LikeTree K p q → Likes K.Symbols es fs → Both K k l → Both K (free_items names p es k) (free_items names q fs l)
    free_items-both k l p ends next = next
    free_items-both k l p (mores e es) next = free-both _ _ p e (free_items-both k l p es next)

  pub free_q-both : {p q : Prog} {es fs : List Tree} → Both K p q → LikeTrees K es fs → Both K (free_q names p es) (free_q names q fs)
  free_q-both stay (all_cons e (all_cons p all_nil)) = free-both _ _ p e yes
  free_q-both stay _ = stay

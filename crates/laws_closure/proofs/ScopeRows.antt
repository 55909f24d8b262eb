-- Module, Block, With, the application of a Function, replacing and the rows that ask for a match keep to a set of symbols that holds the table.
use Rattle.std.proofs.Common.{refl, ◌≤◌, ℕ, zero, suc, Bool, true, false, List, [], ◌∷◌, ◌++◌, reverse, length, drop, Option, Some, None}
use Rattle.std.specs.Prelude.{◌||◌, ltb}
use Rattle.expr_tree.specs.declared.sym.Sym.{Sym}
use Rattle.expr_tree.specs.Tree.{Tree, integer, string, symbol, normal, Trees, nil, cons, elements}
use Rattle.expr_tree.specs.Order.{same}
use Rattle.semantics.specs.declared.builtin.Builtin.{Builtin}
use Rattle.semantics.specs.Names.{is_call, items_of, truth}
use Rattle.expr_tree.specs.Substitution.{Binding}
use Rattle.semantics.specs.InPlace.{put_in_place, nth, filled, slot_of, is_pure_function, fill_slots, fill_in_items}
use Rattle.semantics.specs.Rule.{Rule}
use Rattle.semantics.specs.Program.{Prog, Done, Local}
use Rattle.semantics.specs.Scoping.{plain_local, valued_local, local_of, locals_of, symbols_of, differ, ask_values, with_locals, renamed, renaming, with_number, make_all, module_form, unless_any_shared, block_form, values_in, with_form, paired, parameters, put_arguments, apply_function}
use Rattle.semantics.specs.Replace.{rule_in, rule_of, rules_in, rule_set, replaced, replaced_items, replace_all, rounds, replace_repeated, asks, match_q, member, member_q, cases_of, case_rule, matching, cases, count_of, count_row, free, free_items, free_q}
use Rattle.laws_closure.proofs.Inside.{both, Each, Opt, perhaps, appended, reversed, dropped, Ins, listed, called, items, one_in}
use Rattle.laws_closure.proofs.Programs.{new, Realm, Has, HasAll, LocalIn, RuleIn, BoundIn, Both, done, stop, ask, within, look, put, fresh, turn, check, moded, grows, same_world, later, later_in, later_ins, later_all, later_rules, later_locals, Later, LaterGives, from_later, now, branch, option_both, itself, placed, try_rules_both}
use Rattle.laws_closure.proofs.ControlRows.{if_shared}

module _ (R : Realm) where
  open R use {names, World, Member, Table, knows, tabled}

  abbrev pub LocalsIn : World → List Local → Type 0
  LocalsIn w = Each (LocalIn R w)

  plain_local_in : (w : World) (e : Tree) → Has R w e → Opt (LocalIn R w) (plain_local e)
  plain_local_in w (symbol s) one = (one, tt)
  plain_local_in w _ one = tt

  valued_local_in : (w : World) (es : List Tree) → HasAll R w es → Opt (LocalIn R w) (valued_local es)
  valued_local_in w (symbol s ∷ v ∷ []) all = (all.0, all.1.0)
  valued_local_in w _ all = tt

  local_of_in : (w : World) (e : Tree) → Has R w e → Opt (LocalIn R w) (local_of names e)
  local_of_in w e one = both (Opt (LocalIn R w)) (is_call names Builtin.Set e) (valued_local_in w (items_of e) (items (Member w) e one)) (plain_local_in w e one)

  pub locals_of_in : (w : World) (es : List Tree) → HasAll R w es → Opt (LocalsIn w) (locals_of names es)
  locals_of_in w [] all = tt
  locals_of_in w (e ∷ es) all =
      perhaps (LocalIn R w) (Opt (LocalsIn w)) (local_of names e) (local_of_in w e all.0) tt
      (λ l l_in. perhaps (LocalsIn w) (Opt (LocalsIn w)) (locals_of names es) (locals_of_in w es all.1) tt (λ ls ls_in. (l_in, ls_in)))

  symbols_of_in : (w : World) (ls : List Local) → LocalsIn w ls → Each (Member w) (symbols_of ls)
  symbols_of_in w [] all = tt
  symbols_of_in w (l ∷ ls) all = (all.0.0, symbols_of_in w ls all.1)

  -- what goes on with locals
  abbrev pub LaterLocals : World → (List Local → Prog) → (List Local → Prog) → Type 0
  LaterLocals w k l = (u : World) → grows R w u → (vs : List Local) → LocalsIn u vs → Both R u (k vs) (l vs)

  ask_values_both : (ls : List Local) (w : World) (so : List Local) (k l : List Local → Prog) → LocalsIn w ls → LocalsIn w so → LaterLocals w k l
      → Both R w (ask_values ls so k) (ask_values ls so l)
  ask_values_both [] w so k l all so_in next = next w (same_world R w) so so_in
  ask_values_both (a ∷ ls) w so k l all so_in next =
      option_both R w (Has R w) a.value all.0.1
      (ask_values_both ls w (so ++ a ∷ []) k l all.1 (appended (LocalIn R w) so (a ∷ []) so_in (all.0, tt)) next)
      (λ v one. ask one (λ u g x x_in. ask_values_both ls u (so ++ record { symbol = a.symbol; value = Some x } ∷ []) k l (later_locals R w u g ls all.1)
      (appended (LocalIn R u) so (record { symbol = a.symbol; value = Some x } ∷ []) (later_locals R w u g so so_in) ((g a.symbol all.0.0, x_in), tt))
      (λ u' g'. next u' (later R w u u' g g'))))

  -- a form of locals and a body
  pub with_locals_both : (allowed : List Sym → Bool) (k l : List Local → Tree → Prog) (w : World) (p q : Prog) (es : List Tree)
      → ((ls : List Local) (body : Tree) → LocalsIn w ls → Has R w body → Both R w (k ls body) (l ls body)) → Later R w p q → HasAll R w es
      → Both R w (with_locals names allowed k p es) (with_locals names allowed l q es)
  with_locals_both allowed k l w p q (ls ∷ body ∷ []) form next all =
      branch R w (is_call names Builtin.List ls) (go (locals_of names (items_of ls)) (locals_of_in w (items_of ls) (items (Member w) ls all.0))) (now R w next)
    where
      go : (o : Option (List Local)) → Opt (LocalsIn w) o → Both R w
          (elim o [ None ↦ p | Some locals ↦ elim (allowed (symbols_of locals)) [ true ↦ k locals body | false ↦ p ] ])
          (elim o [ None ↦ q | Some locals ↦ elim (allowed (symbols_of locals)) [ true ↦ l locals body | false ↦ q ] ])
      go None one = now R w next
      go (Some locals) one = branch R w (allowed (symbols_of locals)) (form locals body one all.1.0) (now R w next)
  with_locals_both allowed k l w p q _ form next all = now R w next

  -- ---- Module

  pub renaming_in : Table → (w : World) (m : ℕ) (ls : List Local) → Each (λ l. Member w (renamed m l.symbol)) ls → BoundIn R w (renaming m ls)
  renaming_in t w m [] all = tt
  renaming_in t w m (l ∷ ls) all = ((t, (all.0, tt)), renaming_in t w m ls all.1)

  later_renamed : (w u : World) → grows R w u → (m : ℕ) (ls : List Local) → Each (λ l. Member w (renamed m l.symbol)) ls → Each (λ l. Member u (renamed m l.symbol)) ls
  later_renamed w u g m [] all = tt
  later_renamed w u g m (l ∷ ls) all = (g (renamed m l.symbol) all.0, later_renamed w u g m ls all.1)

  make_all_both : Table → (m : ℕ) → R.first_number ≤ m → (ls : List Local) (w : World) (p q : Prog) → LocalsIn w ls
      → ((u : World) → grows R w u → Each (λ l. Member u (renamed m l.symbol)) ls → Both R u p q) → Both R w (make_all (with_number m ls) p) (make_all (with_number m ls) q)
  make_all_both t m le [] w p q all next = next w (same_world R w) tt
  make_all_both t m le (l ∷ ls) w p q all next =
      put t (new le) (record { own = all.0.1; downs = tt; ups = tt })
      (λ u g s_in. make_all_both t m le ls u p q (later_locals R w u g ls all.1)
      (λ u' g' rest. next u' (later R w u u' g g') (g' (renamed m l.symbol) s_in, rest)))

  pub module_both : Table → (w : World) → R.Numbered w → (ls : List Local) (body : Tree) → LocalsIn w ls → Has R w body → Both R w (module_form names ls body) (module_form names ls body)
  module_both t w may ls body ls_in body_in =
      fresh may (λ m le. ask_values_both ls w [] _ _ ls_in tt (λ u g vs vs_in. make_all_both t m le vs u _ _ vs_in
      (λ u' g' symbols. done (placed R u' (renaming m vs) body (renaming_in t u' m vs symbols) (later_in R w u' (later R w u u' g g') body body_in)))))

  -- ---- Block and With

  unless_any_shared_both : (ss : List Sym) (w : World) (p q : Prog) → Each (Member w) ss → Both R w p q → Both R w (unless_any_shared names ss p) (unless_any_shared names ss q)
  unless_any_shared_both [] w p q all next = next
  unless_any_shared_both (s ∷ ss) w p q all next =
      look all.0 (λ x y seen. if_shared R w x.shared y.shared seen.shared (unless_any_shared_both ss w p q all.1 next) (λ a. moded))

  pub block_both : (w : World) (ls : List Local) (body : Tree) → LocalsIn w ls → Has R w body → Both R w (block_form names ls body) (block_form names ls body)
  block_both w ls body ls_in body_in =
      unless_any_shared_both (symbols_of ls) w _ _ (symbols_of_in w ls ls_in)
      (ask_values_both ls w [] _ _ ls_in tt (λ u g vs vs_in. within vs_in (later_in R w u g body body_in) (itself R u)))

  values_in_in : Table → (w : World) (ls : List Local) → LocalsIn w ls → Opt (BoundIn R w) (values_in ls)
  values_in_in t w [] all = tt
  values_in_in t w (l ∷ ls) all =
      perhaps (Has R w) (Opt (BoundIn R w)) l.value all.0.1 tt
      (λ v v_in. perhaps (BoundIn R w) (Opt (BoundIn R w)) (values_in ls) (values_in_in t w ls all.1) tt (λ b b_in. ((t, (v_in, tt)), b_in)))

  with_values : (w : World) (p q : Prog) (body : Tree) (o : Option Binding) → Later R w p q → Has R w body → Opt (BoundIn R w) o
      → Both R w (elim o [ None ↦ p | Some c ↦ Done (put_in_place names c body) ]) (elim o [ None ↦ q | Some c ↦ Done (put_in_place names c body) ])
  with_values w p q body None next one all = now R w next
  with_values w p q body (Some c) next one all = done (placed R w c body all one)

  pub with_both : Table → (w : World) (p q : Prog) → Later R w p q → (ls : List Local) (body : Tree) → LocalsIn w ls → Has R w body → Both R w (with_form names p ls body) (with_form names q ls body)
  with_both t w p q next ls body ls_in body_in = go (values_in ls)
    where
      go : (o : Option Binding) → Both R w
          (elim o [ None ↦ p | Some b ↦ ask_values ls [] (λ vs. elim (values_in vs) [ None ↦ p | Some c ↦ Done (put_in_place names c body) ]) ])
          (elim o [ None ↦ q | Some b ↦ ask_values ls [] (λ vs. elim (values_in vs) [ None ↦ q | Some c ↦ Done (put_in_place names c body) ]) ])
      go None = now R w next
      go (Some b) =
          ask_values_both ls w [] _ _ ls_in tt (λ u g vs vs_in. with_values u p q body (values_in vs) (from_later R w u g next) (later_in R w u g body body_in) (values_in_in t u vs vs_in))

  -- ---- Function

  paired_in : Table → (w : World) (ss : List Sym) (args : List Tree) → HasAll R w args → Opt (BoundIn R w) (paired ss args)
  paired_in t w [] args all = tt
  paired_in t w (s ∷ ss) [] all = tt
  paired_in t w (s ∷ ss) (e ∷ es) all = perhaps (BoundIn R w) (Opt (BoundIn R w)) (paired ss es) (paired_in t w ss es all.1) tt (λ b b_in. ((t, (all.0, tt)), b_in))

  put_arguments_both : Table → (w : World) (ss : List Sym) (args : List Tree) (body : Tree) (p q : Prog) → HasAll R w args → Has R w body → Later R w p q
      → Both R w (put_arguments names ss args body p) (put_arguments names ss args body q)
  put_arguments_both t w ss args body p q all one next =
      branch R w (differ ss) (with_values w p q body (paired ss args) next one (paired_in t w ss args all)) (now R w next)

  nth_in : (w : World) (es : List Tree) (n : ℕ) → HasAll R w es → Opt (Has R w) (nth es n)
  nth_in w [] n all = tt
  nth_in w (e ∷ es) zero all = tt
  nth_in w (e ∷ es) (suc zero) all = all.0
  nth_in w (e ∷ es) (suc (suc n)) all = nth_in w es (suc n) all.1

  filled_in : Table → (w : World) (args : List Tree) (e : Tree) (n : ℕ) → HasAll R w args → Has R w e → Has R w (filled names args e n)
  filled_in t w args e n all one =
      both (Has R w) (is_call names Builtin.Slot e)
      (perhaps (Has R w) (Has R w) (nth args (suc n)) (nth_in w args (suc n) all) one (λ x x_in. x_in))
      (both (Has R w) (ltb n (length args)) (one_in (Member w) names Table (knows w) (tabled w) t (drop n args) (dropped (Has R w) n args all)) one)

  slot_in : Table → (w : World) (args : List Tree) (e entered : Tree) → HasAll R w args → Has R w e → Has R w entered
      → Has R w (elim (slot_of names e) [ Some n ↦ filled names args e n | None ↦ entered ])
  slot_in t w args e entered all one other = go (slot_of names e)
    where
      go : (o : Option ℕ) → Has R w (elim o [ Some n ↦ filled names args e n | None ↦ entered ])
      go None = other
      go (Some n) = filled_in t w args e n all one

  mutual
    fill_slots_in : Table → (w : World) (args : List Tree) (e : Tree) → HasAll R w args → Has R w e → Has R w (fill_slots names args e)
    fill_slots_in t w args (integer n) all one = tt
    fill_slots_in t w args (string u) all one = tt
    fill_slots_in t w args (symbol s) all one = one
    fill_slots_in t w args (normal h es) all one =
        slot_in t w args (normal h es) _ all one
        (both (Has R w) (is_pure_function names h es) one (fill_slots_in t w args h all one.0, fill_in_items_in t w args es all one.1))

    fill_in_items_in : Table → (w : World) (args : List Tree) (es : Trees) → HasAll R w args → Ins (Member w) es → Ins (Member w) (fill_in_items names args es)
    fill_in_items_in t w args nil all one = tt
    fill_in_items_in t w args (cons e es) all one = (fill_slots_in t w args e all one.0, fill_in_items_in t w args es all one.1)

  pub apply_function_both : Table → (w : World) (p q : Prog) (es args : List Tree) → Later R w p q → HasAll R w es → HasAll R w args
      → Both R w (apply_function names p es args) (apply_function names q es args)
  apply_function_both t w p q (body ∷ []) args next all args_in = done (fill_slots_in t w args body args_in all.0)
  apply_function_both t w p q (x ∷ body ∷ []) args next all args_in = go (parameters names x)
    where
      go : (o : Option (List Sym)) → Both R w (elim o [ None ↦ p | Some ss ↦ put_arguments names ss args body p ]) (elim o [ None ↦ q | Some ss ↦ put_arguments names ss args body q ])
      go None = now R w next
      go (Some ss) = put_arguments_both t w ss args body p q args_in all.1.0 next
  apply_function_both t w p q [] args next all args_in = now R w next
  apply_function_both t w p q (x ∷ y ∷ z ∷ es) args next all args_in = now R w next

  -- ---- replacing

  rule_in_in : (w : World) (es : List Tree) → HasAll R w es → Opt (RuleIn R w) (rule_in es)
  rule_in_in w (l ∷ r ∷ []) all = (all.0, all.1.0)
  rule_in_in w _ all = tt

  rule_of_in : (w : World) (e : Tree) → Has R w e → Opt (RuleIn R w) (rule_of names e)
  rule_of_in w e one = both (Opt (RuleIn R w)) (is_call names Builtin.Rule e || is_call names Builtin.RuleDelayed e) (rule_in_in w (items_of e) (items (Member w) e one)) tt

  rules_in_in : (w : World) (es : List Tree) → HasAll R w es → Opt (Each (RuleIn R w)) (rules_in names es)
  rules_in_in w [] all = tt
  rules_in_in w (e ∷ es) all =
      perhaps (RuleIn R w) (Opt (Each (RuleIn R w))) (rule_of names e) (rule_of_in w e all.0) tt
      (λ r r_in. perhaps (Each (RuleIn R w)) (Opt (Each (RuleIn R w))) (rules_in names es) (rules_in_in w es all.1) tt (λ rs rs_in. (r_in, rs_in)))

  rule_set_in : (w : World) (e : Tree) → Has R w e → Opt (Each (RuleIn R w)) (rule_set names e)
  rule_set_in w e one =
      both (Opt (Each (RuleIn R w))) (is_call names Builtin.List e) (rules_in_in w (items_of e) (items (Member w) e one)) (rules_in_in w (e ∷ []) (one, tt))

  abbrev LaterItems : World → (Trees → Prog) → (Trees → Prog) → Type 0
  LaterItems w k l = (u : World) → grows R w u → (es : Trees) → Ins (Member u) es → Both R u (k es) (l es)

  mutual
    replaced_both : (w : World) (rs : List Rule) (e : Tree) (k l : Tree → Prog) → Each (RuleIn R w) rs → Has R w e → LaterGives R w k l → Both R w (replaced names rs e k) (replaced names rs e l)
    replaced_both w rs (integer n) k l all one gives = try_rules_both R w rs (integer n) k l _ _ all one gives (λ u g. gives u g (integer n) tt)
    replaced_both w rs (string t) k l all one gives = try_rules_both R w rs (string t) k l _ _ all one gives (λ u g. gives u g (string t) tt)
    replaced_both w rs (symbol s) k l all one gives = try_rules_both R w rs (symbol s) k l _ _ all one gives (λ u g. gives u g (symbol s) (g s one))
    replaced_both w rs (normal h es) k l all one gives =
        try_rules_both R w rs (normal h es) k l _ _ all one gives
        (λ u g. replaced_both u rs h _ _ (later_rules R w u g rs all) (later_in R w u g h one.0)
        (λ u2 g2 f f_in. replaced_items_both u2 rs es _ _ (later_rules R w u2 (later R w u u2 g g2) rs all) (later_ins R w u2 (later R w u u2 g g2) es one.1)
        (λ u3 g3 fs fs_in. gives u3 (later R w u2 u3 (later R w u u2 g g2) g3) (normal f fs) (later_in R u2 u3 g3 f f_in, fs_in))))

    replaced_items_both : (w : World) (rs : List Rule) (es : Trees) (k l : Trees → Prog) → Each (RuleIn R w) rs → Ins (Member w) es → LaterItems w k l
        → Both R w (replaced_items names rs es k) (replaced_items names rs es l)
    replaced_items_both w rs nil k l all one gives = gives w (same_world R w) nil tt
    replaced_items_both w rs (cons e es) k l all one gives =
        replaced_both w rs e _ _ all one.0
        (λ u g f f_in. replaced_items_both u rs es _ _ (later_rules R w u g rs all) (later_ins R w u g es one.1)
        (λ u2 g2 fs fs_in. gives u2 (later R w u u2 g g2) (cons f fs) (later_in R u u2 g2 f f_in, fs_in)))

  with_rules : (w : World) (e : Tree) (k l : List Rule → Prog) (p q : Prog) (o : Option (List Rule)) → Opt (Each (RuleIn R w)) o → ((rs : List Rule) → Each (RuleIn R w) rs → Both R w (k rs) (l rs)) → Later R w p q
      → Both R w (elim o [ None ↦ p | Some rs ↦ k rs ]) (elim o [ None ↦ q | Some rs ↦ l rs ])
  with_rules w e k l p q None one gives next = now R w next
  with_rules w e k l p q (Some rs) one gives next = gives rs one

  pub replace_all_both : (w : World) (p q : Prog) (es : List Tree) → Later R w p q → HasAll R w es → Both R w (replace_all names p es) (replace_all names q es)
  replace_all_both w p q (e ∷ r ∷ []) next all =
      with_rules w e (λ rs. replaced names rs e Done) (λ rs. replaced names rs e Done) p q (rule_set names r) (rule_set_in w r all.1.0)
      (λ rs rs_in. replaced_both w rs e Done Done rs_in all.0 (itself R w)) next
  replace_all_both w p q _ next all = now R w next

  rounds_both : (n : ℕ) (w : World) (rs : List Rule) (e : Tree) → Each (RuleIn R w) rs → Has R w e → Both R w (rounds names rs n e) (rounds names rs n e)
  rounds_both zero w rs e all one = turn (replaced_both w rs e _ _ all one (λ u g f f_in. check f_in (branch R u (same f e) (done f_in) stop)))
  rounds_both (suc n) w rs e all one =
      turn (replaced_both w rs e _ _ all one (λ u g f f_in. check f_in (branch R u (same f e) (done f_in)
      (ask f_in (λ v h x x_in. rounds_both n v rs x (later_rules R u v h rs (later_rules R w u g rs all)) x_in)))))

  pub replace_repeated_both : (w : World) (p q : Prog) (es : List Tree) → Later R w p q → HasAll R w es → Both R w (replace_repeated names p es) (replace_repeated names q es)
  replace_repeated_both w p q (e ∷ r ∷ []) next all =
      with_rules w e (λ rs. rounds names rs 4095 e) (λ rs. rounds names rs 4095 e) p q (rule_set names r) (rule_set_in w r all.1.0) (λ rs rs_in. rounds_both 4095 w rs e rs_in all.0) next
  replace_repeated_both w p q _ next all = now R w next

  -- ---- whether a pattern matches

  truth_in : Table → (w : World) (b : Bool) → Has R w (truth names b)
  truth_in t w true = knows w t Builtin.True refl
  truth_in t w false = knows w t Builtin.False refl

  truth_both : Table → (w : World) (b : Bool) → Both R w (Done (truth names b)) (Done (truth names b))
  truth_both t w b = done (truth_in t w b)

  asks_in : Table → (w : World) (p : Tree) → Has R w p → Each (RuleIn R w) (asks names p)
  asks_in t w p one = ((one, truth_in t w true), tt)

  pub match_q_both : Table → (w : World) (p q : Prog) (es : List Tree) → Later R w p q → HasAll R w es → Both R w (match_q names p es) (match_q names q es)
  match_q_both t w p q (e ∷ x ∷ []) next all =
      try_rules_both R w (asks names x) e _ _ _ _ (asks_in t w x all.1.0) all.0 (λ u g v one. truth_both t u true) (λ u g. truth_both t u false)
  match_q_both t w p q _ next all = now R w next

  member_both : Table → (es : List Tree) (w : World) (x : Tree) → Has R w x → HasAll R w es → Both R w (member names x es) (member names x es)
  member_both t [] w x one all = truth_both t w false
  member_both t (e ∷ es) w x one all =
      try_rules_both R w (asks names x) e _ _ _ _ (asks_in t w x one) all.0 (λ u g v v_in. truth_both t u true)
      (λ u g. member_both t es u x (later_in R w u g x one) (later_all R w u g es all.1))

  pub member_q_both : Table → (w : World) (p q : Prog) (es : List Tree) → Later R w p q → HasAll R w es → Both R w (member_q names p es) (member_q names q es)
  member_q_both t w p q (normal h es ∷ x ∷ []) next all = member_both t (elements es) w x all.1.0 (listed (Member w) es all.0.1)
  member_q_both t w p q _ next all = now R w next

  cases_of_both : (es : List Tree) (w : World) (h : Tree) (rs : List Rule) (so : List Tree) → Has R w h → Each (RuleIn R w) rs → HasAll R w es → HasAll R w so
      → Both R w (cases_of names h rs es so) (cases_of names h rs es so)
  cases_of_both [] w h rs so one rs_in all so_in = done (called (Member w) h (reverse so) one (reversed (Has R w) so so_in))
  cases_of_both (e ∷ es) w h rs so one rs_in all so_in =
      try_rules_both R w rs e _ _ _ _ rs_in all.0
      (λ u g v v_in. cases_of_both es u h rs (v ∷ so) (later_in R w u g h one) (later_rules R w u g rs rs_in) (later_all R w u g es all.1) (v_in, later_all R w u g so so_in))
      (λ u g. cases_of_both es u h rs so (later_in R w u g h one) (later_rules R w u g rs rs_in) (later_all R w u g es all.1) (later_all R w u g so so_in))

  case_rule_in : (w : World) (x : Tree) → Has R w x → Each (RuleIn R w) (case_rule names x)
  case_rule_in w x one = perhaps (RuleIn R w) (Each (RuleIn R w)) (rule_of names x) (rule_of_in w x one) tt (λ r r_in. (r_in, tt))

  matching_both : Table → (es : List Tree) (w : World) (h x : Tree) (so : List Tree) → Has R w h → Has R w x → HasAll R w es → HasAll R w so
      → Both R w (matching names h x es so) (matching names h x es so)
  matching_both t [] w h x so one x_in all so_in = done (called (Member w) h (reverse so) one (reversed (Has R w) so so_in))
  matching_both t (e ∷ es) w h x so one x_in all so_in =
      try_rules_both R w (asks names x) e _ _ _ _ (asks_in t w x x_in) all.0
      (λ u g v v_in. matching_both t es u h x (e ∷ so) (later_in R w u g h one) (later_in R w u g x x_in) (later_all R w u g es all.1) (later_in R w u g e all.0, later_all R w u g so so_in))
      (λ u g. matching_both t es u h x so (later_in R w u g h one) (later_in R w u g x x_in) (later_all R w u g es all.1) (later_all R w u g so so_in))

  pub cases_both : Table → (w : World) (p q : Prog) (es : List Tree) → Later R w p q → HasAll R w es → Both R w (cases names p es) (cases names q es)
  cases_both t w p q (normal h es ∷ x ∷ []) next all = go (case_rule names x) (case_rule_in w x all.1.0)
    where
      go : (rs : List Rule) → Each (RuleIn R w) rs → Both R w
          (elim rs [ [] ↦ matching names h x (elements es) [] | r ∷ qs ↦ cases_of names h (r ∷ qs) (elements es) [] ])
          (elim rs [ [] ↦ matching names h x (elements es) [] | r ∷ qs ↦ cases_of names h (r ∷ qs) (elements es) [] ])
      go [] rs_in = matching_both t (elements es) w h x [] all.0.0 all.1.0 (listed (Member w) es all.0.1) tt
      go (r ∷ qs) rs_in = cases_of_both (elements es) w h (r ∷ qs) [] all.0.0 rs_in (listed (Member w) es all.0.1) tt
  cases_both t w p q _ next all = now R w next

  count_of_both : Table → (es : List Tree) (w : World) (x : Tree) (n : ℕ) → Has R w x → HasAll R w es → Both R w (count_of names x es n) (count_of names x es n)
  count_of_both t [] w x n one all = done tt
  count_of_both t (e ∷ es) w x n one all =
      try_rules_both R w (asks names x) e _ _ _ _ (asks_in t w x one) all.0
      (λ u g v v_in. count_of_both t es u x (suc n) (later_in R w u g x one) (later_all R w u g es all.1))
      (λ u g. count_of_both t es u x n (later_in R w u g x one) (later_all R w u g es all.1))

  pub count_row_both : Table → (w : World) (p q : Prog) (es : List Tree) → Later R w p q → HasAll R w es → Both R w (count_row names p es) (count_row names q es)
  count_row_both t w p q (normal h es ∷ x ∷ []) next all = count_of_both t (elements es) w x 0 all.1.0 (listed (Member w) es all.0.1)
  count_row_both t w p q _ next all = now R w next

  mutual
    free_both : Table → (e : Tree) (w : World) (x : Tree) (p q : Prog) → Has R w x → Has R w e → Later R w p q → Both R w (free names x e p) (free names x e q)
    free_both t (integer n) w x p q x_in one next = try_rules_both R w (asks names x) (integer n) _ _ p q (asks_in t w x x_in) one (λ u g v v_in. truth_both t u false) next
    free_both t (string b) w x p q x_in one next = try_rules_both R w (asks names x) (string b) _ _ p q (asks_in t w x x_in) one (λ u g v v_in. truth_both t u false) next
    free_both t (symbol s) w x p q x_in one next = try_rules_both R w (asks names x) (symbol s) _ _ p q (asks_in t w x x_in) one (λ u g v v_in. truth_both t u false) next
    free_both t (normal h es) w x p q x_in one next =
        try_rules_both R w (asks names x) (normal h es) _ _ _ _ (asks_in t w x x_in) one (λ u g v v_in. truth_both t u false)
        (λ u g. free_both t h u x _ _ (later_in R w u g x x_in) (later_in R w u g h one.0)
        (λ u' g'. free_items_both t es u' x p q (later_in R w u' (later R w u u' g g') x x_in) (later_ins R w u' (later R w u u' g g') es one.1) (from_later R w u' (later R w u u' g g') next)))

    free_items_both : Table → (es : Trees) (w : World) (x : Tree) (p q : Prog) → Has R w x → Ins (Member w) es → Later R w p q → Both R w (free_items names x es p) (free_items names x es q)
    free_items_both t nil w x p q x_in all next = now R w next
    free_items_both t (cons e es) w x p q x_in all next =
        free_both t e w x _ _ x_in all.0
        (λ u g. free_items_both t es u x p q (later_in R w u g x x_in) (later_ins R w u g es all.1) (from_later R w u g next))

  pub free_q_both : Table → (w : World) (p q : Prog) (es : List Tree) → Later R w p q → HasAll R w es → Both R w (free_q names p es) (free_q names q es)
  free_q_both t w p q (e ∷ x ∷ []) next all = free_both t e w x _ _ all.1.0 all.0 (λ u g. truth_both t u true)
  free_q_both t w p q _ next all = now R w next

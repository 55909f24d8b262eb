-- Every row with its lemma, and one pass; so the calls of each evaluation fit.
use Rattle.std.proofs.Common.{◌≡◌, refl, Bool, true, false, T, List, [], ◌∷◌, Option, Some, None}
use Rattle.std.specs.Prelude.{pos, negsuc}
use Rattle.expr_tree.specs.declared.sym.Sym.{Sym}
use Rattle.expr_tree.specs.Tree.{Tree, integer, string, symbol, normal, elements, call}
use Rattle.expr_tree.specs.Shapes.{symbol_of}
use Rattle.semantics.specs.declared.builtin.Builtin.{Builtin}
use Rattle.semantics.specs.Names.{is_known, is_name, make, role_of}
use Rattle.semantics.specs.Steps.{strip}
use Rattle.semantics.specs.Definitions.{Attributes, Share, Variable, Function, has}
use Rattle.semantics.specs.Worked.{Worked, Stays, Gives, TooWide}
use Rattle.semantics.specs.Control.{null}
use Rattle.semantics.specs.Scoping.{module_form, block_form, with_form, differ, bases_differ}
use Rattle.semantics.specs.Assign.{ToHead, ToItems}
use Rattle.semantics.specs.Changes.{old_value, new_value, with_attributes, without_attributes}
use Rattle.semantics.specs.Assemble.{flattened, threaded, sorted}
use Rattle.semantics.specs.Program.{Prog, Done, Mode}
use Rattle.semantics.specs.Table.{worked, as_program, row}
use Rattle.semantics.specs.Pass.{marked, symbol_rules, up_rules, row_or_stay, down_rules, last_steps, later_steps, symbol_row, symbol_pass, pass}
use Rattle.semantics.specs.Definitions.{Definitions}
use Rattle.semantics.specs.Play.{Setting, End, Value, Stopped, Throwing, Thrown, Quit, Closed, Starved, Play, whole, begun}
use Rattle.semantics.specs.Eval.{Event, Outcome, Ended, same_call, if_matched, over, eval}
use Rattle.laws_calls.specs.Calls.{CallsFit}
use Rattle.laws_calls.specs.Ends.{may_end, EndsIn, at_end, at_call, EndsFit, NeverThrowing}
use Rattle.laws_calls.proofs.Programs.{Point, Fit, done, stop, look, outer, moded, branch, option, try_rules-fits}
use Rattle.laws_calls.proofs.ControlRows as Control
use Rattle.laws_calls.proofs.ScopeRows as Scope
use Rattle.laws_calls.proofs.ChangeRows as Change
use Rattle.laws_calls.proofs.ModeRows as Outward
use Rattle.laws_calls.proofs.ModeRows.{here, there, access_or-fits, unless_access-fits}
use Rattle.laws_calls.proofs.Runs.{point, EvalEndIn, Goes, eval_at-goes, fits, ends_in}

module _ (P : Point) where
  open P use {names}

  as_program-fits : {p : Prog} (a : Worked) → Fit P p → Fit P (as_program p a)
  as_program-fits Stays stay = stay
  as_program-fits (Gives e) stay = done
  as_program-fits TooWide stay = stop

  row-fits : (r : Builtin) {p : Prog} (es : List Tree) → Fit P p → Fit P (row names r p es)
  unfolding row
  row-fits Builtin.CompoundExpression es stay = Control.in_turn-fits P es stay
  row-fits Builtin.If es stay = Control.conditional-fits P es stay
  row-fits Builtin.Which es stay = Control.which-fits P es stay
  row-fits Builtin.And es stay = Control.connected-fits P Builtin.And Builtin.True Builtin.False es []
  row-fits Builtin.Or es stay = Control.connected-fits P Builtin.Or Builtin.False Builtin.True es []
  row-fits Builtin.While es stay = Control.while-fits P es stay
  row-fits Builtin.Do es stay = Control.iterated-fits P Builtin.Do (λ vs. null names) es (λ vs. done) stay
  row-fits Builtin.Table es stay = Control.iterated-fits P Builtin.Table (λ vs. Done (make names Builtin.List vs)) es (λ vs. done) stay
  row-fits Builtin.Sum es stay = Control.iterated-fits P Builtin.Sum (λ vs. Done (make names Builtin.Plus vs)) es (λ vs. done) stay
  row-fits Builtin.Throw es stay = Control.throw-fits P es stay
  row-fits Builtin.Catch es stay = Control.catch-fits P es stay
  row-fits Builtin.Nest es stay = Control.nest-fits P es stay
  row-fits Builtin.NestList es stay = Control.nest_list-fits P es stay
  row-fits Builtin.FoldList es stay = Control.fold_list-fits P es stay
  row-fits Builtin.FixedPoint es stay = Control.fixed_point-fits P es stay
  row-fits Builtin.Fold es stay = Control.fold-fits P es stay
  row-fits Builtin.Select es stay = Control.select-fits P es stay
  row-fits Builtin.Module es stay = Scope.with_locals-fits P bases_differ (module_form names) es (Scope.module-fits P) stay
  row-fits Builtin.Block es stay = Scope.with_locals-fits P differ (block_form names) es (Scope.block-fits P) stay
  row-fits Builtin.With {p} es stay = Scope.with_locals-fits P differ (with_form names p) es (Scope.with-fits P stay) stay
  row-fits Builtin.Set es stay = Change.set-fits P ToHead es stay
  row-fits Builtin.SetDelayed es stay = Change.set_delayed-fits P ToHead es stay
  row-fits Builtin.UpSet es stay = Change.set-fits P ToItems es stay
  row-fits Builtin.UpSetDelayed es stay = Change.set_delayed-fits P ToItems es stay
  row-fits Builtin.TagSet es stay = Change.tag_set-fits P es stay
  row-fits Builtin.TagSetDelayed es stay = Change.tag_set_delayed-fits P es stay
  row-fits Builtin.Unset es stay = Change.unset-fits P es stay
  row-fits Builtin.Increment es stay = Change.step_by-fits P (pos 1) old_value es stay
  row-fits Builtin.Decrement es stay = Change.step_by-fits P (negsuc 0) old_value es stay
  row-fits Builtin.PreIncrement es stay = Change.step_by-fits P (pos 1) new_value es stay
  row-fits Builtin.PreDecrement es stay = Change.step_by-fits P (negsuc 0) new_value es stay
  row-fits Builtin.AddTo es stay = Change.change_with-fits P Builtin.Plus es stay
  row-fits Builtin.SubtractFrom es stay = Change.subtract_from-fits P es stay
  row-fits Builtin.TimesBy es stay = Change.change_with-fits P Builtin.Times es stay
  row-fits Builtin.AppendTo es stay = Change.change_with-fits P Builtin.Append es stay
  row-fits Builtin.PrependTo es stay = Change.change_with-fits P Builtin.Prepend es stay
  row-fits Builtin.Clear es stay = Change.clear-fits P es stay
  row-fits Builtin.ClearAll es stay = Change.clear_all-fits P es stay
  row-fits Builtin.SetAttributes es stay = Change.change_attributes-fits P with_attributes es stay
  row-fits Builtin.ClearAttributes es stay = Change.change_attributes-fits P without_attributes es stay
  row-fits Builtin.Attributes es stay = Change.attributes_row-fits P es stay
  row-fits Builtin.Protect es stay = Change.protect-fits P (with_attributes (Builtin.Protected ∷ [])) es stay
  row-fits Builtin.Unprotect es stay = Change.protect-fits P (without_attributes (Builtin.Protected ∷ [])) es stay
  row-fits Builtin.ReplaceAll es stay = Scope.replace_all-fits P es stay
  row-fits Builtin.ReplaceRepeated es stay = Scope.replace_repeated-fits P es stay
  row-fits Builtin.MatchQ es stay = Scope.match_q-fits P es stay
  row-fits Builtin.MemberQ es stay = Scope.member_q-fits P es stay
  row-fits Builtin.Cases es stay = Scope.cases-fits P es stay
  row-fits Builtin.Count es stay = Scope.count_row-fits P es stay
  row-fits Builtin.FreeQ es stay = Scope.free_q-fits P es stay
  row-fits Builtin.ParallelTable es stay = Outward.parallel_loop-fits P Builtin.ParallelTable Builtin.Table es (there (there (there here))) stay
  row-fits Builtin.ParallelDo es stay = Outward.parallel_loop-fits P Builtin.ParallelDo Builtin.Do es (there (there (there (there here)))) stay
  row-fits Builtin.ParallelSum es stay = Outward.parallel_loop-fits P Builtin.ParallelSum Builtin.Sum es (there (there (there (there (there here))))) stay
  row-fits Builtin.ParallelEvaluate es stay = Outward.outside_or_failed-fits P Builtin.ParallelEvaluate es (there (there (there (there (there (there here)))))) stay
  row-fits Builtin.ParallelCombine es stay = Outward.parallel_combine-fits P es stay
  row-fits Builtin.ParallelTry es stay = Outward.parallel_try-fits P es stay
  row-fits Builtin.WaitNext es stay = Outward.outside_or_failed-fits P Builtin.WaitNext es (there (there (there (there (there (there (there here))))))) stay
  row-fits Builtin.WaitAll es stay = Outward.wait_all-fits P es (there (there (there (there (there (there (there (there here)))))))) stay
  row-fits Builtin.CriticalSection es stay = Outward.critical_section-fits P es stay
  row-fits Builtin.Quit es stay = Outward.quit-fits P es stay
  row-fits Builtin.ParallelMap es stay = Outward.parallel_map-fits P es stay
  row-fits Builtin.ParallelSubmit es stay = Outward.parallel_submit-fits P es stay
  row-fits Builtin.DistributeDefinitions es stay = Outward.of_symbols-fits P Builtin.DistributeDefinitions es (there here) stay
  row-fits Builtin.SetSharedVariable es stay = Outward.of_symbols-fits P Builtin.SetSharedVariable es (there (there here)) stay
  row-fits Builtin.SetSharedFunction es stay = Outward.of_symbols-fits P Builtin.SetSharedFunction es (there (there (there here))) stay
  row-fits Builtin.Print es stay = Outward.print-fits P es
  row-fits r es stay = as_program-fits (worked names r es) stay

  -- ---- one pass

  marked-fits : (o : Option Share) {p : Prog} → Fit P p → Fit P (marked o p)
  marked-fits None next = next
  marked-fits (Some kind) next = moded (λ kernel. next)

  pub symbol_rules-fits : (o : Option Sym) (e : Tree) {p : Prog} → Fit P p → Fit P (symbol_rules names o e p)
  symbol_rules-fits None e next = next
  symbol_rules-fits (Some s) e next = look (λ seen. marked-fits seen.shared (try_rules-fits P seen.definition.ups e Done (λ v. done) next))

  up_rules-fits : (xs : List Tree) (e : Tree) {p : Prog} → Fit P p → Fit P (up_rules names xs e p)
  up_rules-fits [] e next = next
  up_rules-fits (x ∷ xs) e next = symbol_rules-fits (symbol_of x) e (up_rules-fits xs e next)

  pub row_or_stay-fits : (o : Option Builtin) (s : Sym) (es : List Tree) (e : Tree) {p : Prog} → Fit P p → Fit P (row_or_stay names o s es e p)
  row_or_stay-fits None s es e stay = stay
  row_or_stay-fits (Some r) s es e stay = unless_access-fits P (symbol s) es e stay (row-fits r es stay)

  down_rules-fits : (h : Tree) (es : List Tree) (e : Tree) {p : Prog} → Fit P p → Fit P (down_rules names h es e p)
  down_rules-fits (symbol s) es e stay =
      look (λ seen. access_or-fits P seen.shared Function e stay (marked-fits seen.shared
      (try_rules-fits P seen.definition.downs e Done (λ v. done) (row_or_stay-fits (role_of names s) s es e stay))))
  down_rules-fits (normal h fs) es e stay = branch P (is_name names Builtin.Function h) (Scope.apply_function-fits P (elements fs) es stay) stay
  down_rules-fits (integer n) es e stay = stay
  down_rules-fits (string t) es e stay = stay

  last_steps-fits : (a : Attributes) (es : List Tree) (e h : Tree) {p : Prog} → Fit P p → Fit P (last_steps names a es e p h)
  last_steps-fits a es e h stay = branch P (has Builtin.HoldAllComplete a) (down_rules-fits h es e stay) (up_rules-fits es e (down_rules-fits h es e stay))

  later_steps-fits : (h : Tree) (a : Attributes) (es : List Tree) → Fit P (later_steps names h a es)
  later_steps-fits h a es =
      let stripped : List Tree = elim (has Builtin.HoldAllComplete a) [ true ↦ es | false ↦ strip names es ] in
      let flat : List Tree = flattened h a stripped in
      let last : List Tree = sorted a flat in
      option P (threaded names h a flat) (last_steps-fits a last (call h last) h done) (λ each. Scope.check_all-fits P each done)

  symbol_row-fits : (s : Sym) → Fit P (symbol_row names s)
  symbol_row-fits s = branch P (is_known names Builtin.KernelID s) (moded (λ kernel. done)) (branch P (is_known names Builtin.KernelCount s) (moded (λ kernel. outer tt (λ v. done))) done)

  symbol_pass-fits : (s : Sym) → Fit P (symbol_pass names s)
  symbol_pass-fits s =
      look (λ seen. access_or-fits P seen.shared Variable (symbol s) done (marked-fits seen.shared (option P seen.definition.own (symbol_row-fits s) (λ v. done))))

  pub pass-fits : (e : Tree) → Fit P (pass names e)
  pass-fits (integer n) = done
  pass-fits (string t) = done
  pass-fits (symbol s) = symbol_pass-fits s
  pass-fits (normal h es) = Scope.first_steps-fits P h (elements es) _ later_steps-fits

module _ (set : Setting) (d : Definitions) (e : Tree) where
  goes : Goes set (EvalEndIn set.mode false) (record { unstopped = true; answered = true }) false (whole set d e)
  goes = eval_at-goes set (λ a x. pass-fits (point set a) x) set.limits.recursion false e (begun d) refl _

pub calls_fit : CallsFit
calls_fit set d e = fits set (goes set d e)

pub ends_fit : EndsFit
ends_fit set d e = ends_in set (goes set d e)

never : {mode : Mode} {so_far : Bool} {p : Play} → EndsIn mode so_far p → (v : Tree) (events : List Event) → (over p events).outcome ≡ Ended (Throwing v) → ⊥
never {mode} {so_far} (at_end {o = o} may) v events is = go o may is
  where
    go : (o : End) → T (may_end mode so_far o) → Outcome.Ended o ≡ Ended (Throwing v) → ⊥
    go (Throwing w) h same = h
    go (Value w) h same = absurd (Prim.cc same)
    go (Stopped c) h same = absurd (Prim.cc same)
    go (Thrown w) h same = absurd (Prim.cc same)
    go Quit h same = absurd (Prim.cc same)
    go Closed h same = absurd (Prim.cc same)
    go Starved h same = absurd (Prim.cc same)
never (at_call next) v [] is = absurd (Prim.cc is)
never (at_call {c = c} {s = s} {k = k} next) v (a ∷ events) is = go (same_call a.call c) is (λ same. never (next a.reply a.after) v events same)
  where
    go : (b : Bool) → (if_matched b s a events (over (k a.reply a.after) events)).outcome ≡ Ended (Throwing v) → ((over (k a.reply a.after) events).outcome ≡ Ended (Throwing v) → ⊥) → ⊥
    go true same no' = no' same
    go false same no' = absurd (Prim.cc same)

pub never_throwing : NeverThrowing
unfolding eval
never_throwing set d e v events is = never (ends_fit set d e) v events is

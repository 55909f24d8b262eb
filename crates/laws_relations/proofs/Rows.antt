-- Every row of the table with its lemma: on related items it gives related results, or is a program that does the same.
use Rattle.std.proofs.Common.{◌≡◌, refl, Bool, true, false, List, [], ◌∷◌}
use Rattle.std.specs.Prelude.{pos, negsuc, int_lt, int_le}
use Rattle.expr_tree.specs.declared.sym.Sym.{Sym}
use Rattle.expr_tree.specs.Tree.{Tree}
use Rattle.semantics.specs.declared.builtin.Builtin.{Builtin}
use Rattle.semantics.specs.Names.{Names, is_name, is_call}
use Rattle.semantics.specs.Worked.{Worked}
use Rattle.semantics.specs.Tests.{is_atom, is_int, is_str}
use Rattle.semantics.specs.Scoping.{differ, bases_differ}
use Rattle.semantics.specs.Changes.{old_value, new_value, with_attributes, without_attributes}
use Rattle.semantics.specs.Program.{Prog}
use Rattle.semantics.specs.Table.{worked, as_program, row}
use Rattle.laws_relations.proofs.Relate.{all_nil, branch}
use Rattle.laws_relations.proofs.Relation.{Like, int, str, node, LikeList, Faithful, is_name-like, is_call-like}
use Rattle.laws_relations.proofs.SumRow as Sum
use Rattle.laws_relations.proofs.SumRow.{LikeWorked, stays, gives, too_wide}
use Rattle.laws_relations.proofs.NumberRows as N
use Rattle.laws_relations.proofs.ListRows as L
use Rattle.laws_relations.proofs.Kin.{Kin, LikeTrees}
use Rattle.laws_relations.proofs.Simulation.{Both, done, stop}
use Rattle.laws_relations.proofs.Programs.{name-both, made-both}
use Rattle.laws_relations.proofs.ControlRows as Control
use Rattle.laws_relations.proofs.ScopeRows as Scope
use Rattle.laws_relations.proofs.AssignRows.{to_head, to_items}
use Rattle.laws_relations.proofs.ChangeRows as Change
use Rattle.laws_relations.proofs.ReplaceRows as Replace
use Rattle.laws_relations.proofs.ModeRows as Mode

module _ (S : Sym → Sym → Type 0) (names : Names) (F : Faithful S names) where
  is_atom-like : {e f : Tree} → Like S e f → is_atom e ≡ is_atom f
  is_atom-like (node h es) = refl
  is_atom-like _ = refl

  is_int-like : {e f : Tree} → Like S e f → is_int e ≡ is_int f
  is_int-like int = refl
  is_int-like _ = refl

  is_str-like : {e f : Tree} → Like S e f → is_str e ≡ is_str f
  is_str-like str = refl
  is_str-like _ = refl

  -- the rows that are functions of their items alone
  pub worked-like : (r : Builtin) {es fs : List Tree} → LikeList S es fs → LikeWorked S (worked names r es) (worked names r fs)
  unfolding worked
  worked-like Builtin.Plus l = Sum.plus-like S names F l
  worked-like Builtin.Times l = N.product-like S names F l
  worked-like Builtin.Power l = N.power-like S names F l
  worked-like Builtin.Minus l = N.minus-like S names F l
  worked-like Builtin.Subtract l = N.subtract-like S names F l
  worked-like Builtin.Divide l = N.divide-like S names F l
  worked-like Builtin.Quotient l = N.quotient-like S l
  worked-like Builtin.Mod l = N.modulo-like S l
  worked-like Builtin.EvenQ l = N.parity-like S names F true l
  worked-like Builtin.OddQ l = N.parity-like S names F false l
  worked-like Builtin.Equal l = N.equal-like S names F l
  worked-like Builtin.Unequal l = N.unequal-like S names F l
  worked-like Builtin.Less l = N.compared-like S names F int_lt l
  worked-like Builtin.LessEqual l = N.compared-like S names F int_le l
  worked-like Builtin.Greater l = N.compared-like S names F (λ m n. int_lt n m) l
  worked-like Builtin.GreaterEqual l = N.compared-like S names F (λ m n. int_le n m) l
  worked-like Builtin.SameQ l = N.same_q-like S names F l
  worked-like Builtin.UnsameQ l = gives (N.truth-like S names F (branch (◌≡◌ {A = Bool}) (N.some_same-like S names F l) refl refl))
  worked-like Builtin.AtomQ l = N.asked_of_one-like S names F is_atom (λ e f one. is_atom-like one) l
  worked-like Builtin.IntegerQ l = N.asked_of_one-like S names F is_int (λ e f one. is_int-like one) l
  worked-like Builtin.StringQ l = N.asked_of_one-like S names F is_str (λ e f one. is_str-like one) l
  worked-like Builtin.ListQ l = N.asked_of_one-like S names F (is_call names Builtin.List) (λ e f one. is_call-like S names F Builtin.List one) l
  worked-like Builtin.TrueQ l = N.asked_of_one-like S names F (is_name names Builtin.True) (λ e f one. is_name-like S names F Builtin.True one) l
  worked-like Builtin.Not l = N.negated-like S names F l
  worked-like Builtin.Evaluate l = L.itself-like S l
  worked-like Builtin.Identity l = L.itself-like S l
  worked-like Builtin.ReleaseHold l = L.released-like S names F l
  worked-like Builtin.Head l = L.head-like S l
  worked-like Builtin.Length l = L.length_of-like S l
  worked-like Builtin.First l = L.first-like S l
  worked-like Builtin.Rest l = L.rest-like S l
  worked-like Builtin.Append l = L.append-like S l
  worked-like Builtin.Prepend l = L.prepend-like S l
  worked-like Builtin.Reverse l = L.reversed-like S l
  worked-like Builtin.Sort l = L.sort-like S names F l
  worked-like Builtin.Range l = L.range-like S names F l
  worked-like Builtin.Map l = L.map_row-like S l
  worked-like Builtin.Apply l = L.apply-like S l
  worked-like Builtin.Total l = L.total-like S names F l
  worked-like Builtin.Abs l = N.absolute-like S l
  worked-like Builtin.Sign l = N.sign-like S l
  worked-like Builtin.GCD l = N.gcd-like S l
  worked-like Builtin.Factorial l = N.factorial-like S l
  worked-like Builtin.Max l = N.extreme-like S names F (λ m n. int_lt n m) l
  worked-like Builtin.Min l = N.extreme-like S names F int_lt l
  worked-like Builtin.OrderedQ l = L.ordered_q-like S names F l
  worked-like Builtin.Last l = L.last-like S l
  worked-like Builtin.Most l = L.most-like S l
  worked-like Builtin.Part l = L.part-like S names F l
  worked-like Builtin.Take l = L.taken-like S names F l
  worked-like Builtin.Drop l = L.dropped-like S names F l
  worked-like Builtin.Union l = L.union-like S names F l
  worked-like Builtin.Join l = L.join-like S names F l
  worked-like Builtin.Flatten l = L.flatten_row-like S names F l
  worked-like Builtin.Partition l = L.partition-like S l
  worked-like Builtin.Transpose l = L.transpose-like S names F l
  worked-like Builtin.ConstantArray l = L.constant_array-like S names F l
  worked-like Builtin.Array l = L.array-like S names F l
  worked-like Builtin.StringJoin l = N.string_join-like S l
  worked-like Builtin.StringLength l = N.string_length-like S l
  worked-like Builtin.Characters l = N.characters-like S names F l
  worked-like Builtin.StringReverse l = N.string_reverse-like S l
  worked-like _ l = stays

module _ (K : Kin) where
  open K use {names}

  as_program-both : {p q : Prog} {a b : Worked} → Both K p q → LikeWorked K.Symbols a b → Both K (as_program p a) (as_program q b)
  as_program-both stay stays = stay
  as_program-both stay (gives e) = done e
  as_program-both stay too_wide = stop

  pub row-both : (r : Builtin) {p q : Prog} {es fs : List Tree} → Both K p q → LikeTrees K es fs → Both K (row names r p es) (row names r q fs)
  unfolding row
  row-both Builtin.CompoundExpression stay l = Control.in_turn-both K stay l
  row-both Builtin.If stay l = Control.conditional-both K stay l
  row-both Builtin.Which stay l = Control.which-both K stay l
  row-both Builtin.And stay l = Control.connected-both K Builtin.And Builtin.True Builtin.False l all_nil
  row-both Builtin.Or stay l = Control.connected-both K Builtin.Or Builtin.False Builtin.True l all_nil
  row-both Builtin.While stay l = Control.while-both K stay l
  row-both Builtin.Do stay l = Control.iterated-both K Builtin.Do _ _ (λ vs xs all. name-both K Builtin.Null) stay l
  row-both Builtin.Table stay l = Control.iterated-both K Builtin.Table _ _ (λ vs xs all. made-both K Builtin.List all) stay l
  row-both Builtin.Sum stay l = Control.iterated-both K Builtin.Sum _ _ (λ vs xs all. made-both K Builtin.Plus all) stay l
  row-both Builtin.Throw stay l = Control.throw-both K stay l
  row-both Builtin.Catch stay l = Control.catch-both K stay l
  row-both Builtin.Nest stay l = Control.nest-both K stay l
  row-both Builtin.NestList stay l = Control.nest_list-both K stay l
  row-both Builtin.FoldList stay l = Control.fold_list-both K stay l
  row-both Builtin.FixedPoint stay l = Control.fixed_point-both K stay l
  row-both Builtin.Fold stay l = Control.fold-both K stay l
  row-both Builtin.Select stay l = Control.select-both K stay l
  row-both Builtin.Module stay l = Scope.with_locals-both K bases_differ _ _ (λ ss ts all. Scope.bases_differ-like K all) (Scope.module_form-both K) stay l
  row-both Builtin.Block stay l = Scope.with_locals-both K differ _ _ (λ ss ts all. Scope.differ-like K all) (Scope.block_form-both K) stay l
  row-both Builtin.With stay l = Scope.with_locals-both K differ _ _ (λ ss ts all. Scope.differ-like K all) (Scope.with_form-both K stay) stay l
  row-both Builtin.Set stay l = Change.set-both K to_head stay l
  row-both Builtin.SetDelayed stay l = Change.set_delayed-both K to_head stay l
  row-both Builtin.UpSet stay l = Change.set-both K to_items stay l
  row-both Builtin.UpSetDelayed stay l = Change.set_delayed-both K to_items stay l
  row-both Builtin.TagSet stay l = Change.tag_set-both K stay l
  row-both Builtin.TagSetDelayed stay l = Change.tag_set_delayed-both K stay l
  row-both Builtin.Unset stay l = Change.unset-both K stay l
  row-both Builtin.Increment stay l = Change.step_by-both K (pos 1) old_value (Change.gives_old K) stay l
  row-both Builtin.Decrement stay l = Change.step_by-both K (negsuc 0) old_value (Change.gives_old K) stay l
  row-both Builtin.PreIncrement stay l = Change.step_by-both K (pos 1) new_value (Change.gives_new K) stay l
  row-both Builtin.PreDecrement stay l = Change.step_by-both K (negsuc 0) new_value (Change.gives_new K) stay l
  row-both Builtin.AddTo stay l = Change.change_with-both K Builtin.Plus stay l
  row-both Builtin.SubtractFrom stay l = Change.subtract_from-both K stay l
  row-both Builtin.TimesBy stay l = Change.change_with-both K Builtin.Times stay l
  row-both Builtin.AppendTo stay l = Change.change_with-both K Builtin.Append stay l
  row-both Builtin.PrependTo stay l = Change.change_with-both K Builtin.Prepend stay l
  row-both Builtin.Clear stay l = Change.clear-both K stay l
  row-both Builtin.ClearAll stay l = Change.clear_all-both K stay l
  row-both Builtin.SetAttributes stay l = Change.change_attributes-both K with_attributes (Change.with_attributes-keeps K) stay l
  row-both Builtin.ClearAttributes stay l = Change.change_attributes-both K without_attributes (Change.without_attributes-keeps K) stay l
  row-both Builtin.Attributes stay l = Change.attributes_row-both K stay l
  row-both Builtin.Protect stay l = Change.protect-both K (with_attributes (Builtin.Protected ∷ [])) (Change.with_attributes-keeps K (Builtin.Protected ∷ [])) stay l
  row-both Builtin.Unprotect stay l = Change.protect-both K (without_attributes (Builtin.Protected ∷ [])) (Change.without_attributes-keeps K (Builtin.Protected ∷ [])) stay l
  row-both Builtin.ReplaceAll stay l = Replace.replace_all-both K stay l
  row-both Builtin.ReplaceRepeated stay l = Replace.replace_repeated-both K stay l
  row-both Builtin.MatchQ stay l = Replace.match_q-both K stay l
  row-both Builtin.MemberQ stay l = Replace.member_q-both K stay l
  row-both Builtin.Cases stay l = Replace.cases-both K stay l
  row-both Builtin.Count stay l = Replace.count_row-both K stay l
  row-both Builtin.FreeQ stay l = Replace.free_q-both K stay l
  row-both Builtin.ParallelTable stay l = Mode.parallel_loop-both K Builtin.ParallelTable Builtin.Table stay l
  row-both Builtin.ParallelDo stay l = Mode.parallel_loop-both K Builtin.ParallelDo Builtin.Do stay l
  row-both Builtin.ParallelSum stay l = Mode.parallel_loop-both K Builtin.ParallelSum Builtin.Sum stay l
  row-both Builtin.ParallelEvaluate stay l = Mode.outside_or_failed-both K Builtin.ParallelEvaluate stay l
  row-both Builtin.ParallelCombine stay l = Mode.parallel_combine-both K stay l
  row-both Builtin.ParallelTry stay l = Mode.parallel_try-both K stay l
  row-both Builtin.WaitNext stay l = Mode.outside_or_failed-both K Builtin.WaitNext stay l
  row-both Builtin.WaitAll stay l = Mode.wait_all-both K stay l
  row-both Builtin.CriticalSection stay l = Mode.critical_section-both K stay l
  row-both Builtin.Quit stay l = Mode.quit-both K stay l
  row-both Builtin.ParallelMap stay l = Mode.parallel_map-both K stay l
  row-both Builtin.ParallelSubmit stay l = Mode.parallel_submit-both K stay l
  row-both Builtin.DistributeDefinitions stay l = Mode.of_symbols-both K Builtin.DistributeDefinitions stay l
  row-both Builtin.SetSharedVariable stay l = Mode.of_symbols-both K Builtin.SetSharedVariable stay l
  row-both Builtin.SetSharedFunction stay l = Mode.of_symbols-both K Builtin.SetSharedFunction stay l
  row-both Builtin.Print stay l = Mode.print-both K l
  row-both r stay l = as_program-both stay (worked-like K.Symbols names K.faithful r l)

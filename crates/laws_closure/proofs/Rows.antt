-- Every row of the table with its lemma. A row that is a function of its items alone owes that each symbol of its result stands in the items
-- or in the table; the others owe that their programs keep to a set that holds the table.
use Rattle.std.proofs.Common.{Bool, ◌≡◌, refl, true, false, List, [], ◌∷◌}
use Rattle.std.specs.Prelude.{pos, negsuc, int_lt, int_le}
use Rattle.expr_tree.specs.declared.sym.Sym.{Sym}
use Rattle.expr_tree.specs.Tree.{Tree}
use Rattle.semantics.specs.declared.builtin.Builtin.{Builtin}
use Rattle.semantics.specs.Names.{Names, known, is_name, is_call, make}
use Rattle.semantics.specs.Worked.{Worked, Stays, Gives, TooWide}
use Rattle.semantics.specs.Tests.{all_same, some_same, is_atom, is_int, is_str}
use Rattle.semantics.specs.Control.{null}
use Rattle.semantics.specs.Scoping.{module_form, block_form, with_form, differ, bases_differ}
use Rattle.semantics.specs.Assign.{ToHead, ToItems}
use Rattle.semantics.specs.Changes.{old_value, new_value, with_attributes, without_attributes}
use Rattle.semantics.specs.Program.{Prog, Done}
use Rattle.semantics.specs.Table.{worked, as_program, row}
use Rattle.laws_closure.specs.Throws.{may_throw}
use Rattle.laws_closure.proofs.Inside.{AllIn}
use Rattle.laws_closure.proofs.NumberRows as N
use Rattle.laws_closure.proofs.NumberRows.{Fine}
use Rattle.laws_closure.proofs.ListRows as L
use Rattle.laws_closure.proofs.Programs.{Realm, HasAll, Both, done, stop, Later, now, made}
use Rattle.laws_closure.proofs.ControlRows as Control
use Rattle.laws_closure.proofs.ScopeRows as Scope
use Rattle.laws_closure.proofs.ChangeRows as Change
use Rattle.laws_closure.proofs.ModeRows as Mode

-- the rows that are functions of their items alone
pub worked_in : (C : Sym → Type 0) (names : Names) (knows : (r : Builtin) → may_throw r ≡ false → C (known names r)) (r : Builtin) (es : List Tree) → AllIn C es → Fine C (worked names r es)
unfolding worked
worked_in C names knows Builtin.Plus es all = N.plus_in C names knows es all
worked_in C names knows Builtin.Times es all = N.product_in C names knows es all
worked_in C names knows Builtin.Power es all = N.power_in C names knows es all
worked_in C names knows Builtin.Minus es all = N.minus_in C names knows es all
worked_in C names knows Builtin.Subtract es all = N.subtract_in C names knows es all
worked_in C names knows Builtin.Divide es all = N.divide_in C names knows es all
worked_in C names knows Builtin.Quotient es all = N.quotient_in C names knows es
worked_in C names knows Builtin.Mod es all = N.modulo_in C names knows es
worked_in C names knows Builtin.EvenQ es all = N.parity_in C names knows true es
worked_in C names knows Builtin.OddQ es all = N.parity_in C names knows false es
worked_in C names knows Builtin.Equal es all = N.equal_in C names knows es
worked_in C names knows Builtin.Unequal es all = N.unequal_in C names knows es
worked_in C names knows Builtin.Less es all = N.compared_in C names knows int_lt es
worked_in C names knows Builtin.LessEqual es all = N.compared_in C names knows int_le es
worked_in C names knows Builtin.Greater es all = N.compared_in C names knows (λ m n. int_lt n m) es
worked_in C names knows Builtin.GreaterEqual es all = N.compared_in C names knows (λ m n. int_le n m) es
worked_in C names knows Builtin.SameQ es all = N.true_or_false C names knows (all_same es)
worked_in C names knows Builtin.UnsameQ es all = N.true_or_false C names knows (elim (some_same es) [ true ↦ false | false ↦ true ])
worked_in C names knows Builtin.AtomQ es all = N.asked_of_one_in C names knows is_atom es
worked_in C names knows Builtin.IntegerQ es all = N.asked_of_one_in C names knows is_int es
worked_in C names knows Builtin.StringQ es all = N.asked_of_one_in C names knows is_str es
worked_in C names knows Builtin.ListQ es all = N.asked_of_one_in C names knows (is_call names Builtin.List) es
worked_in C names knows Builtin.TrueQ es all = N.asked_of_one_in C names knows (is_name names Builtin.True) es
worked_in C names knows Builtin.Not es all = N.negated_in C names knows es
worked_in C names knows Builtin.Evaluate es all = L.itself_in C es all
worked_in C names knows Builtin.Identity es all = L.itself_in C es all
worked_in C names knows Builtin.ReleaseHold es all = L.released_in C names es all
worked_in C names knows Builtin.Head es all = L.head_in C es all
worked_in C names knows Builtin.Length es all = L.length_of_in C es
worked_in C names knows Builtin.First es all = L.first_in C es all
worked_in C names knows Builtin.Rest es all = L.rest_in C es all
worked_in C names knows Builtin.Append es all = L.append_in C es all
worked_in C names knows Builtin.Prepend es all = L.prepend_in C es all
worked_in C names knows Builtin.Reverse es all = L.reversed_in C es all
worked_in C names knows Builtin.Sort es all = L.sort_in C es all
worked_in C names knows Builtin.Range es all = L.range_in C names knows es
worked_in C names knows Builtin.Map es all = L.map_in C es all
worked_in C names knows Builtin.Apply es all = L.apply_in C es all
worked_in C names knows Builtin.Total es all = L.total_in C names knows es all
worked_in C names knows Builtin.Abs es all = N.absolute_in C names knows es
worked_in C names knows Builtin.Sign es all = N.sign_in C names knows es
worked_in C names knows Builtin.GCD es all = N.gcd_in C names knows es
worked_in C names knows Builtin.Factorial es all = N.factorial_in C names knows es
worked_in C names knows Builtin.Max es all = N.extreme_in C names knows (λ m n. int_lt n m) es
worked_in C names knows Builtin.Min es all = N.extreme_in C names knows int_lt es
worked_in C names knows Builtin.OrderedQ es all = L.ordered_q_in C names knows es
worked_in C names knows Builtin.Last es all = L.last_in C es all
worked_in C names knows Builtin.Most es all = L.most_in C es all
worked_in C names knows Builtin.Part es all = L.part_in C names es all
worked_in C names knows Builtin.Take es all = L.taken_in C names es all
worked_in C names knows Builtin.Drop es all = L.dropped_in C names es all
worked_in C names knows Builtin.Union es all = L.union_in C names knows es all
worked_in C names knows Builtin.Join es all = L.join_in C names knows es all
worked_in C names knows Builtin.Flatten es all = L.flatten_row_in C names es all
worked_in C names knows Builtin.Partition es all = L.partition_in C es all
worked_in C names knows Builtin.Transpose es all = L.transpose_in C names knows es all
worked_in C names knows Builtin.ConstantArray es all = L.constant_array_in C names knows es all
worked_in C names knows Builtin.Array es all = L.array_in C names knows es all
worked_in C names knows Builtin.StringJoin es all = N.string_join_in C names knows es
worked_in C names knows Builtin.StringLength es all = N.string_length_in C names knows es
worked_in C names knows Builtin.Characters es all = N.characters_in C names knows es
worked_in C names knows Builtin.StringReverse es all = N.string_reverse_in C names knows es
worked_in C names knows _ es all = tt

-- the row that takes a module number
abbrev pub takes_number : Builtin → Bool
takes_number Builtin.Module = true
takes_number _ = false

module _ (R : Realm) where
  open R use {names, World, Member, Table, knows}

  as_program_both : (w : World) (p q : Prog) (a : Worked) → Later R w p q → Fine (Member w) a → Both R w (as_program p a) (as_program q a)
  as_program_both w p q Stays next fine = now R w next
  as_program_both w p q (Gives e) next fine = done fine
  as_program_both w p q TooWide next fine = stop

  pub row_both : Table → (w : World) (r : Builtin) → (takes_number r ≡ true → R.Numbered w) → (may_throw r ≡ true → R.Throwing) → (p q : Prog) (es : List Tree) → Later R w p q → HasAll R w es → Both R w (row names r p es) (row names r q es)
  unfolding row
  row_both t w Builtin.CompoundExpression may free p q es next all = Control.in_turn_both R w p q es next all
  row_both t w Builtin.If may free p q es next all = Control.conditional_both R t w p q es next all
  row_both t w Builtin.Which may free p q es next all = Control.which_both R t w p q es next all
  row_both t w Builtin.And may free p q es next all = Control.connected_both R t Builtin.And Builtin.True Builtin.False refl refl w es [] all tt
  row_both t w Builtin.Or may free p q es next all = Control.connected_both R t Builtin.Or Builtin.False Builtin.True refl refl w es [] all tt
  row_both t w Builtin.While may free p q es next all = Control.while_both R t w p q es next all
  row_both t w Builtin.Do may free p q es next all = Control.iterated_both R t Builtin.Do refl (λ vs. null names) (λ vs. null names) w p q es (λ u g vs vs_in. Control.null_both R u t) next all
  row_both t w Builtin.Table may free p q es next all =
      Control.iterated_both R t Builtin.Table refl (λ vs. Done (make names Builtin.List vs)) (λ vs. Done (make names Builtin.List vs)) w p q es (λ u g vs vs_in. done (made R u t Builtin.List refl vs vs_in)) next all
  row_both t w Builtin.Sum may free p q es next all =
      Control.iterated_both R t Builtin.Sum refl (λ vs. Done (make names Builtin.Plus vs)) (λ vs. Done (make names Builtin.Plus vs)) w p q es (λ u g vs vs_in. done (made R u t Builtin.Plus refl vs vs_in)) next all
  row_both t w Builtin.Throw may free p q es next all = Control.throw_both R (free refl) w p q es next all
  row_both t w Builtin.Catch may free p q es next all = Control.catch_both R (free refl) w p q es next all
  row_both t w Builtin.Nest may free p q es next all = Control.nest_both R w p q es next all
  row_both t w Builtin.NestList may free p q es next all = Control.nest_list_both R t w p q es next all
  row_both t w Builtin.FoldList may free p q es next all = Control.fold_list_both R w p q es next all
  row_both t w Builtin.FixedPoint may free p q es next all = Control.fixed_point_both R w p q es next all
  row_both t w Builtin.Fold may free p q es next all = Control.fold_both R w p q es next all
  row_both t w Builtin.Select may free p q es next all = Control.select_both R w p q es next all
  row_both t w Builtin.Module may free p q es next all = Scope.with_locals_both R bases_differ (module_form names) (module_form names) w p q es (Scope.module_both R t w (may refl)) next all
  row_both t w Builtin.Block may free p q es next all = Scope.with_locals_both R differ (block_form names) (block_form names) w p q es (Scope.block_both R w) next all
  row_both t w Builtin.With may free p q es next all = Scope.with_locals_both R differ (with_form names p) (with_form names q) w p q es (Scope.with_both R t w p q next) next all
  row_both t w Builtin.Set may free p q es next all = Change.set_both R t ToHead (λ u. tt) w p q es next all
  row_both t w Builtin.SetDelayed may free p q es next all = Change.set_delayed_both R t ToHead (λ u. tt) w p q es next all
  row_both t w Builtin.UpSet may free p q es next all = Change.set_both R t ToItems (λ u. tt) w p q es next all
  row_both t w Builtin.UpSetDelayed may free p q es next all = Change.set_delayed_both R t ToItems (λ u. tt) w p q es next all
  row_both t w Builtin.TagSet may free p q es next all = Change.tag_set_both R t w p q es next all
  row_both t w Builtin.TagSetDelayed may free p q es next all = Change.tag_set_delayed_both R t w p q es next all
  row_both t w Builtin.Unset may free p q es next all = Change.unset_both R t w p q es next all
  row_both t w Builtin.Increment may free p q es next all = Change.step_by_both R t (pos 1) old_value (Change.gives_old R) w p q es next all
  row_both t w Builtin.Decrement may free p q es next all = Change.step_by_both R t (negsuc 0) old_value (Change.gives_old R) w p q es next all
  row_both t w Builtin.PreIncrement may free p q es next all = Change.step_by_both R t (pos 1) new_value (Change.gives_new R) w p q es next all
  row_both t w Builtin.PreDecrement may free p q es next all = Change.step_by_both R t (negsuc 0) new_value (Change.gives_new R) w p q es next all
  row_both t w Builtin.AddTo may free p q es next all = Change.change_with_both R t Builtin.Plus refl w p q es next all
  row_both t w Builtin.SubtractFrom may free p q es next all = Change.subtract_from_both R t w p q es next all
  row_both t w Builtin.TimesBy may free p q es next all = Change.change_with_both R t Builtin.Times refl w p q es next all
  row_both t w Builtin.AppendTo may free p q es next all = Change.change_with_both R t Builtin.Append refl w p q es next all
  row_both t w Builtin.PrependTo may free p q es next all = Change.change_with_both R t Builtin.Prepend refl w p q es next all
  row_both t w Builtin.Clear may free p q es next all = Change.clear_both R t w p q es next all
  row_both t w Builtin.ClearAll may free p q es next all = Change.clear_all_both R t w p q es next all
  row_both t w Builtin.SetAttributes may free p q es next all = Change.change_attributes_both R t with_attributes (Change.with_attributes_in R) w p q es next all
  row_both t w Builtin.ClearAttributes may free p q es next all = Change.change_attributes_both R t without_attributes (Change.without_attributes_in R) w p q es next all
  row_both t w Builtin.Attributes may free p q es next all = Change.attributes_row_both R (free refl) t w p q es next all
  row_both t w Builtin.Protect may free p q es next all = Change.protect_both R t (with_attributes (Builtin.Protected ∷ [])) (Change.with_attributes_in R (Builtin.Protected ∷ [])) w p q es next all
  row_both t w Builtin.Unprotect may free p q es next all = Change.protect_both R t (without_attributes (Builtin.Protected ∷ [])) (Change.without_attributes_in R (Builtin.Protected ∷ [])) w p q es next all
  row_both t w Builtin.ReplaceAll may free p q es next all = Scope.replace_all_both R w p q es next all
  row_both t w Builtin.ReplaceRepeated may free p q es next all = Scope.replace_repeated_both R w p q es next all
  row_both t w Builtin.MatchQ may free p q es next all = Scope.match_q_both R t w p q es next all
  row_both t w Builtin.MemberQ may free p q es next all = Scope.member_q_both R t w p q es next all
  row_both t w Builtin.Cases may free p q es next all = Scope.cases_both R t w p q es next all
  row_both t w Builtin.Count may free p q es next all = Scope.count_row_both R t w p q es next all
  row_both t w Builtin.FreeQ may free p q es next all = Scope.free_q_both R t w p q es next all
  row_both t w Builtin.ParallelTable may free p q es next all = Mode.parallel_loop_both R Builtin.ParallelTable Builtin.Table w p q es next
  row_both t w Builtin.ParallelDo may free p q es next all = Mode.parallel_loop_both R Builtin.ParallelDo Builtin.Do w p q es next
  row_both t w Builtin.ParallelSum may free p q es next all = Mode.parallel_loop_both R Builtin.ParallelSum Builtin.Sum w p q es next
  row_both t w Builtin.ParallelEvaluate may free p q es next all = Mode.outside_or_failed_both R Builtin.ParallelEvaluate w p q es next
  row_both t w Builtin.ParallelCombine may free p q es next all = Mode.parallel_combine_both R w p q es next
  row_both t w Builtin.ParallelTry may free p q es next all = Mode.parallel_try_both R w p q es next
  row_both t w Builtin.WaitNext may free p q es next all = Mode.outside_or_failed_both R Builtin.WaitNext w p q es next
  row_both t w Builtin.WaitAll may free p q es next all = Mode.wait_all_both R w p q es next all
  row_both t w Builtin.CriticalSection may free p q es next all = Mode.critical_section_both R w p q es next
  row_both t w Builtin.Quit may free p q es next all = Mode.quit_both R w p q es next
  row_both t w Builtin.ParallelMap may free p q es next all = Mode.parallel_map_both R w p q es next
  row_both t w Builtin.ParallelSubmit may free p q es next all = Mode.parallel_submit_both R w p q es next
  row_both t w Builtin.DistributeDefinitions may free p q es next all = Mode.of_symbols_both R Builtin.DistributeDefinitions w p q es next
  row_both t w Builtin.SetSharedVariable may free p q es next all = Mode.of_symbols_both R Builtin.SetSharedVariable w p q es next
  row_both t w Builtin.SetSharedFunction may free p q es next all = Mode.of_symbols_both R Builtin.SetSharedFunction w p q es next
  row_both t w Builtin.Print may free p q es next all = Mode.print_both R w es
  row_both t w r may free p q es next all = as_program_both w p q (worked names r es) next (worked_in (Member w) names (knows w t) r es all)

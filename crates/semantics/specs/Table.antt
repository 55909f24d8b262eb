-- The rows of the built-in table, one equation each.
--     worked                the rows that are functions of the elements alone
--     row                   each row as a program; `stay` is the program of an expression whose shape has no equation
use Rattle.std.specs.Prelude.{pos, negsuc, int_lt, int_le, List, [], ◌∷◌, true, false}
use Rattle.expr_tree.specs.Tree.{Tree, normal, elements}
use Rattle.semantics.specs.declared.builtin.Builtin.{Builtin}
use Rattle.semantics.specs.Names.{Names, is_name, is_call, make, truth}
use Rattle.semantics.specs.Worked.{Worked, Stays, Gives, TooWide}
use Rattle.semantics.specs.Numbers.{plus, product, power, quotient, modulo, parity, minus, subtract, divide, absolute, sign, gcd, factorial, extreme}
use Rattle.semantics.specs.Tests.{all_same, some_same, equal, unequal, compared, negated, asked_of_one, is_atom, is_int, is_str}
use Rattle.semantics.specs.Control.{null, in_turn, conditional, which, connected, while, throw, catch, iterated, nest, nest_list, fixed_point, fold, fold_list, select}
use Rattle.semantics.specs.Scoping.{with_locals, module_form, block_form, with_form, differ, bases_differ}
use Rattle.semantics.specs.Changes.{set, set_delayed, tag_set, tag_set_delayed, unset, step_by, change_with, subtract_from, old_value, new_value, clear, clear_all, change_attributes, with_attributes, without_attributes, protect, attributes_row}
use Rattle.semantics.specs.Replace.{replace_all, replace_repeated, match_q, member_q, cases, count_row, free_q}
use Rattle.semantics.specs.Lists as Lists
use Rattle.semantics.specs.Strings.{string_join, string_length, characters, string_reverse}
use Rattle.semantics.specs.Assign.{ToHead, ToItems}
use Rattle.semantics.specs.Sections.{critical_section, quit, parallel_map, parallel_loop, parallel_combine, parallel_try, parallel_submit, of_symbols, outside_or_failed, wait_all, print}
use Rattle.semantics.specs.Program.{Prog, Done, Stops}
use Rattle.expr_tree.specs.declared.limits.Stop.{Stop}

abbrev pub ordered_q : Names → List Tree → Worked
ordered_q names (normal h es ∷ []) = Gives (truth names (Lists.in_order (elements es)))
ordered_q names _ = Stays

-- the rows that are functions of the items alone
unfoldable pub worked : Names → Builtin → List Tree → Worked
worked names Builtin.Plus = plus names
worked names Builtin.Times = product names
worked names Builtin.Power = power names
worked names Builtin.Minus = minus names
worked names Builtin.Subtract = subtract names
worked names Builtin.Divide = divide names
worked names Builtin.Quotient = quotient
worked names Builtin.Mod = modulo
worked names Builtin.EvenQ = parity names true
worked names Builtin.OddQ = parity names false
worked names Builtin.Equal = equal names
worked names Builtin.Unequal = unequal names
worked names Builtin.Less = compared names int_lt
worked names Builtin.LessEqual = compared names int_le
worked names Builtin.Greater = compared names (λ m n. int_lt n m)
worked names Builtin.GreaterEqual = compared names (λ m n. int_le n m)
worked names Builtin.SameQ = λ es. Gives (truth names (all_same es))
worked names Builtin.UnsameQ = λ es. Gives (truth names (elim (some_same es) [ true ↦ false | false ↦ true ]))
worked names Builtin.AtomQ = asked_of_one names is_atom
worked names Builtin.IntegerQ = asked_of_one names is_int
worked names Builtin.StringQ = asked_of_one names is_str
worked names Builtin.ListQ = asked_of_one names (is_call names Builtin.List)
worked names Builtin.TrueQ = asked_of_one names (is_name names Builtin.True)
worked names Builtin.Not = negated names
worked names Builtin.Evaluate = Lists.itself
worked names Builtin.Identity = Lists.itself
worked names Builtin.ReleaseHold = Lists.released names
worked names Builtin.Head = Lists.head
worked names Builtin.Length = Lists.length_of
worked names Builtin.First = Lists.first
worked names Builtin.Rest = Lists.rest
worked names Builtin.Append = Lists.append
worked names Builtin.Prepend = Lists.prepend
worked names Builtin.Reverse = Lists.reversed
worked names Builtin.Sort = Lists.sort
worked names Builtin.Range = Lists.range names
worked names Builtin.Map = Lists.map_row
worked names Builtin.Apply = Lists.apply
worked names Builtin.Total = Lists.total names
worked names Builtin.Abs = absolute
worked names Builtin.Sign = sign
worked names Builtin.GCD = gcd
worked names Builtin.Factorial = factorial
worked names Builtin.Max = extreme names (λ m n. int_lt n m)
worked names Builtin.Min = extreme names int_lt
worked names Builtin.OrderedQ = ordered_q names
worked names Builtin.Last = Lists.last
worked names Builtin.Most = Lists.most
worked names Builtin.Part = Lists.part names
worked names Builtin.Take = Lists.taken names
worked names Builtin.Drop = Lists.dropped names
worked names Builtin.Union = Lists.union names
worked names Builtin.Join = Lists.join names
worked names Builtin.Flatten = Lists.flatten_row names
worked names Builtin.Partition = Lists.partition
worked names Builtin.Transpose = Lists.transpose names
worked names Builtin.ConstantArray = Lists.constant_array names
worked names Builtin.Array = Lists.array names
worked names Builtin.StringJoin = string_join
worked names Builtin.StringLength = string_length
worked names Builtin.Characters = characters names
worked names Builtin.StringReverse = string_reverse
worked names _ = λ es. Stays

abbrev pub as_program : Prog → Worked → Prog
as_program stay Stays = stay
as_program stay (Gives e) = Done e
as_program stay TooWide = Stops Stop.Range

unfoldable pub row : Names → Builtin → Prog → List Tree → Prog
row names Builtin.CompoundExpression stay = in_turn stay
row names Builtin.If stay = conditional names stay
row names Builtin.Which stay = which names stay
row names Builtin.And stay = λ es. connected names Builtin.And Builtin.True Builtin.False es []
row names Builtin.Or stay = λ es. connected names Builtin.Or Builtin.False Builtin.True es []
row names Builtin.While stay = while names stay
row names Builtin.Do stay = iterated names Builtin.Do (λ vs. null names) stay
row names Builtin.Table stay = iterated names Builtin.Table (λ vs. Done (make names Builtin.List vs)) stay
row names Builtin.Sum stay = iterated names Builtin.Sum (λ vs. Done (make names Builtin.Plus vs)) stay
row names Builtin.Throw stay = throw stay
row names Builtin.Catch stay = catch stay
row names Builtin.Nest stay = nest stay
row names Builtin.NestList stay = nest_list names stay
row names Builtin.FoldList stay = fold_list names stay
row names Builtin.FixedPoint stay = fixed_point stay
row names Builtin.Fold stay = fold stay
row names Builtin.Select stay = select names stay
row names Builtin.Module stay = with_locals names bases_differ (module_form names) stay
row names Builtin.Block stay = with_locals names differ (block_form names) stay
row names Builtin.With stay = with_locals names differ (with_form names stay) stay
row names Builtin.Set stay = set names ToHead stay
row names Builtin.SetDelayed stay = set_delayed names ToHead stay
row names Builtin.UpSet stay = set names ToItems stay
row names Builtin.UpSetDelayed stay = set_delayed names ToItems stay
row names Builtin.TagSet stay = tag_set names stay
row names Builtin.TagSetDelayed stay = tag_set_delayed names stay
row names Builtin.Unset stay = unset names stay
row names Builtin.Increment stay = step_by names (pos 1) old_value stay
row names Builtin.Decrement stay = step_by names (negsuc 0) old_value stay
row names Builtin.PreIncrement stay = step_by names (pos 1) new_value stay
row names Builtin.PreDecrement stay = step_by names (negsuc 0) new_value stay
row names Builtin.AddTo stay = change_with names Builtin.Plus stay
row names Builtin.SubtractFrom stay = subtract_from names stay
row names Builtin.TimesBy stay = change_with names Builtin.Times stay
row names Builtin.AppendTo stay = change_with names Builtin.Append stay
row names Builtin.PrependTo stay = change_with names Builtin.Prepend stay
row names Builtin.Clear stay = clear names stay
row names Builtin.ClearAll stay = clear_all names stay
row names Builtin.SetAttributes stay = change_attributes names with_attributes stay
row names Builtin.ClearAttributes stay = change_attributes names without_attributes stay
row names Builtin.Attributes stay = attributes_row names stay
row names Builtin.Protect stay = protect names (with_attributes (Builtin.Protected ∷ [])) stay
row names Builtin.Unprotect stay = protect names (without_attributes (Builtin.Protected ∷ [])) stay
row names Builtin.ReplaceAll stay = replace_all names stay
row names Builtin.ReplaceRepeated stay = replace_repeated names stay
row names Builtin.MatchQ stay = match_q names stay
row names Builtin.MemberQ stay = member_q names stay
row names Builtin.Cases stay = cases names stay
row names Builtin.Count stay = count_row names stay
row names Builtin.FreeQ stay = free_q names stay
row names Builtin.ParallelTable stay = parallel_loop names Builtin.ParallelTable Builtin.Table stay
row names Builtin.ParallelDo stay = parallel_loop names Builtin.ParallelDo Builtin.Do stay
row names Builtin.ParallelSum stay = parallel_loop names Builtin.ParallelSum Builtin.Sum stay
row names Builtin.ParallelEvaluate stay = outside_or_failed names Builtin.ParallelEvaluate stay
row names Builtin.ParallelCombine stay = parallel_combine names stay
row names Builtin.ParallelTry stay = parallel_try names stay
row names Builtin.WaitNext stay = outside_or_failed names Builtin.WaitNext stay
row names Builtin.WaitAll stay = wait_all names stay
row names Builtin.CriticalSection stay = critical_section names stay
row names Builtin.Quit stay = quit names stay
row names Builtin.ParallelMap stay = parallel_map names stay
row names Builtin.ParallelSubmit stay = parallel_submit names stay
row names Builtin.DistributeDefinitions stay = of_symbols names Builtin.DistributeDefinitions stay
row names Builtin.SetSharedVariable stay = of_symbols names Builtin.SetSharedVariable stay
row names Builtin.SetSharedFunction stay = of_symbols names Builtin.SetSharedFunction stay
row names Builtin.Print stay = print names
row names r stay = λ es. as_program stay (worked names r es)

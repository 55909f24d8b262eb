-- The kind of each row of the built-in table.
--     kind_of               of a row
--     is_plain              whether a row has no equation
--     is_of_numbers, is_test, is_of_lists, is_of_parts, is_of_strings      whether it is a function of its elements of that sort
--     is_worked             whether it is one of any sort
--     has_form, is_iteration, is_change, is_matching, is_replacing      whether it has a machine of that sort
--     has_machine           whether it has one of any sort
--     is_outward            whether it throws, catches, or is a row of the mode table
--     is_unbuilt            whether its name keeps a cell from being evaluated
use Rattle.std.specs.Prelude.{Bool, true, false}
use Rattle.semantics.specs.declared.builtin.Builtin.{Builtin}
use Rattle.row_kinds.specs.declared.kinds.Kind.{Kind}

abbrev pub kind_of : Builtin → Kind
kind_of Builtin.Plus = Kind.Numbers
kind_of Builtin.Times = Kind.Numbers
kind_of Builtin.Power = Kind.Numbers
kind_of Builtin.Minus = Kind.Numbers
kind_of Builtin.Subtract = Kind.Numbers
kind_of Builtin.Divide = Kind.Numbers
kind_of Builtin.Quotient = Kind.Numbers
kind_of Builtin.Mod = Kind.Numbers
kind_of Builtin.Abs = Kind.Numbers
kind_of Builtin.Sign = Kind.Numbers
kind_of Builtin.GCD = Kind.Numbers
kind_of Builtin.Factorial = Kind.Numbers
kind_of Builtin.Max = Kind.Numbers
kind_of Builtin.Min = Kind.Numbers
kind_of Builtin.EvenQ = Kind.Numbers
kind_of Builtin.OddQ = Kind.Numbers
kind_of Builtin.Equal = Kind.Tests
kind_of Builtin.Unequal = Kind.Tests
kind_of Builtin.Less = Kind.Tests
kind_of Builtin.LessEqual = Kind.Tests
kind_of Builtin.Greater = Kind.Tests
kind_of Builtin.GreaterEqual = Kind.Tests
kind_of Builtin.SameQ = Kind.Tests
kind_of Builtin.UnsameQ = Kind.Tests
kind_of Builtin.OrderedQ = Kind.Tests
kind_of Builtin.AtomQ = Kind.Tests
kind_of Builtin.IntegerQ = Kind.Tests
kind_of Builtin.StringQ = Kind.Tests
kind_of Builtin.ListQ = Kind.Tests
kind_of Builtin.TrueQ = Kind.Tests
kind_of Builtin.Not = Kind.Tests
kind_of Builtin.And = Kind.Form
kind_of Builtin.Or = Kind.Form
kind_of Builtin.CompoundExpression = Kind.Form
kind_of Builtin.If = Kind.Form
kind_of Builtin.Which = Kind.Form
kind_of Builtin.While = Kind.Form
kind_of Builtin.Do = Kind.Iteration
kind_of Builtin.Table = Kind.Iteration
kind_of Builtin.Sum = Kind.Iteration
kind_of Builtin.Throw = Kind.Outward
kind_of Builtin.Catch = Kind.Outward
kind_of Builtin.Hold = Kind.Plain
kind_of Builtin.HoldComplete = Kind.Plain
kind_of Builtin.HoldPattern = Kind.Plain
kind_of Builtin.Unevaluated = Kind.Plain
kind_of Builtin.Pattern = Kind.Plain
kind_of Builtin.PatternTest = Kind.Plain
kind_of Builtin.Condition = Kind.Plain
kind_of Builtin.RuleDelayed = Kind.Plain
kind_of Builtin.Rule = Kind.Plain
kind_of Builtin.Function = Kind.Plain
kind_of Builtin.Verbatim = Kind.Plain
kind_of Builtin.Blank = Kind.Plain
kind_of Builtin.BlankSequence = Kind.Plain
kind_of Builtin.BlankNullSequence = Kind.Plain
kind_of Builtin.Alternatives = Kind.Plain
kind_of Builtin.List = Kind.Plain
kind_of Builtin.Slot = Kind.Plain
kind_of Builtin.SlotSequence = Kind.Plain
kind_of Builtin.Sequence = Kind.Plain
kind_of Builtin.FullForm = Kind.Plain
kind_of Builtin.InputForm = Kind.Plain
kind_of Builtin.Null = Kind.Plain
kind_of Builtin.True = Kind.Plain
kind_of Builtin.False = Kind.Plain
kind_of Builtin.EvaluationObject = Kind.Plain
kind_of Builtin.Method = Kind.Plain
kind_of Builtin.Failed = Kind.Plain
kind_of Builtin.Aborted = Kind.Plain
kind_of Builtin.Evaluate = Kind.Lists
kind_of Builtin.Identity = Kind.Lists
kind_of Builtin.ReleaseHold = Kind.Lists
kind_of Builtin.Module = Kind.Form
kind_of Builtin.Block = Kind.Form
kind_of Builtin.With = Kind.Form
kind_of Builtin.Set = Kind.Change
kind_of Builtin.SetDelayed = Kind.Change
kind_of Builtin.UpSet = Kind.Change
kind_of Builtin.UpSetDelayed = Kind.Change
kind_of Builtin.TagSet = Kind.Change
kind_of Builtin.TagSetDelayed = Kind.Change
kind_of Builtin.Unset = Kind.Change
kind_of Builtin.Increment = Kind.Change
kind_of Builtin.Decrement = Kind.Change
kind_of Builtin.PreIncrement = Kind.Change
kind_of Builtin.PreDecrement = Kind.Change
kind_of Builtin.AddTo = Kind.Change
kind_of Builtin.SubtractFrom = Kind.Change
kind_of Builtin.TimesBy = Kind.Change
kind_of Builtin.AppendTo = Kind.Change
kind_of Builtin.PrependTo = Kind.Change
kind_of Builtin.Clear = Kind.Change
kind_of Builtin.ClearAll = Kind.Change
kind_of Builtin.SetAttributes = Kind.Change
kind_of Builtin.ClearAttributes = Kind.Change
kind_of Builtin.Attributes = Kind.Change
kind_of Builtin.Protect = Kind.Change
kind_of Builtin.Unprotect = Kind.Change
kind_of Builtin.Flat = Kind.Plain
kind_of Builtin.Orderless = Kind.Plain
kind_of Builtin.Listable = Kind.Plain
kind_of Builtin.HoldFirst = Kind.Plain
kind_of Builtin.HoldRest = Kind.Plain
kind_of Builtin.HoldAll = Kind.Plain
kind_of Builtin.HoldAllComplete = Kind.Plain
kind_of Builtin.SequenceHold = Kind.Plain
kind_of Builtin.OneIdentity = Kind.Plain
kind_of Builtin.Protected = Kind.Plain
kind_of Builtin.Head = Kind.Lists
kind_of Builtin.Length = Kind.Lists
kind_of Builtin.First = Kind.Lists
kind_of Builtin.Last = Kind.Lists
kind_of Builtin.Rest = Kind.Lists
kind_of Builtin.Most = Kind.Lists
kind_of Builtin.Part = Kind.Parts
kind_of Builtin.Take = Kind.Lists
kind_of Builtin.Drop = Kind.Lists
kind_of Builtin.Append = Kind.Lists
kind_of Builtin.Prepend = Kind.Lists
kind_of Builtin.Reverse = Kind.Lists
kind_of Builtin.Sort = Kind.Lists
kind_of Builtin.Union = Kind.Lists
kind_of Builtin.Join = Kind.Lists
kind_of Builtin.Flatten = Kind.Lists
kind_of Builtin.Partition = Kind.Parts
kind_of Builtin.Transpose = Kind.Parts
kind_of Builtin.Total = Kind.Lists
kind_of Builtin.Range = Kind.Parts
kind_of Builtin.ConstantArray = Kind.Lists
kind_of Builtin.Array = Kind.Lists
kind_of Builtin.Map = Kind.Lists
kind_of Builtin.Apply = Kind.Lists
kind_of Builtin.Fold = Kind.Form
kind_of Builtin.FoldList = Kind.Form
kind_of Builtin.Nest = Kind.Form
kind_of Builtin.NestList = Kind.Form
kind_of Builtin.FixedPoint = Kind.Form
kind_of Builtin.Select = Kind.Form
kind_of Builtin.MatchQ = Kind.Matching
kind_of Builtin.MemberQ = Kind.Matching
kind_of Builtin.FreeQ = Kind.Matching
kind_of Builtin.Count = Kind.Matching
kind_of Builtin.Cases = Kind.Matching
kind_of Builtin.ReplaceAll = Kind.Replacing
kind_of Builtin.ReplaceRepeated = Kind.Replacing
kind_of Builtin.StringJoin = Kind.Strings
kind_of Builtin.StringLength = Kind.Strings
kind_of Builtin.Characters = Kind.Strings
kind_of Builtin.StringReverse = Kind.Strings
kind_of Builtin.ParallelSubmit = Kind.Outward
kind_of Builtin.ParallelTable = Kind.Outward
kind_of Builtin.ParallelDo = Kind.Outward
kind_of Builtin.ParallelSum = Kind.Outward
kind_of Builtin.ParallelEvaluate = Kind.Outward
kind_of Builtin.CriticalSection = Kind.Outward
kind_of Builtin.DistributeDefinitions = Kind.Outward
kind_of Builtin.SetSharedVariable = Kind.Outward
kind_of Builtin.SetSharedFunction = Kind.Outward
kind_of Builtin.ParallelMap = Kind.Outward
kind_of Builtin.ParallelCombine = Kind.Outward
kind_of Builtin.ParallelTry = Kind.Outward
kind_of Builtin.WaitAll = Kind.Outward
kind_of Builtin.WaitNext = Kind.Outward
kind_of Builtin.Print = Kind.Outward
kind_of Builtin.Quit = Kind.Outward
kind_of Builtin.KernelID = Kind.KernelName
kind_of Builtin.KernelCount = Kind.KernelName

abbrev pub is_plain_kind : Kind → Bool
is_plain_kind Kind.Plain = true
is_plain_kind Kind.KernelName = true
is_plain_kind _ = false

abbrev pub is_plain : Builtin → Bool
is_plain row = is_plain_kind (kind_of row)

abbrev pub is_of_numbers_kind : Kind → Bool
is_of_numbers_kind Kind.Numbers = true
is_of_numbers_kind _ = false

abbrev pub is_of_numbers : Builtin → Bool
is_of_numbers row = is_of_numbers_kind (kind_of row)

abbrev pub is_test_kind : Kind → Bool
is_test_kind Kind.Tests = true
is_test_kind _ = false

abbrev pub is_test : Builtin → Bool
is_test row = is_test_kind (kind_of row)

abbrev pub is_of_lists_kind : Kind → Bool
is_of_lists_kind Kind.Lists = true
is_of_lists_kind _ = false

abbrev pub is_of_lists : Builtin → Bool
is_of_lists row = is_of_lists_kind (kind_of row)

abbrev pub is_of_parts_kind : Kind → Bool
is_of_parts_kind Kind.Parts = true
is_of_parts_kind _ = false

abbrev pub is_of_parts : Builtin → Bool
is_of_parts row = is_of_parts_kind (kind_of row)

abbrev pub is_of_strings_kind : Kind → Bool
is_of_strings_kind Kind.Strings = true
is_of_strings_kind _ = false

abbrev pub is_of_strings : Builtin → Bool
is_of_strings row = is_of_strings_kind (kind_of row)

abbrev pub is_worked_kind : Kind → Bool
is_worked_kind Kind.Numbers = true
is_worked_kind Kind.Tests = true
is_worked_kind Kind.Lists = true
is_worked_kind Kind.Parts = true
is_worked_kind Kind.Strings = true
is_worked_kind _ = false

abbrev pub is_worked : Builtin → Bool
is_worked row = is_worked_kind (kind_of row)

abbrev pub has_form_kind : Kind → Bool
has_form_kind Kind.Form = true
has_form_kind _ = false

abbrev pub has_form : Builtin → Bool
has_form row = has_form_kind (kind_of row)

abbrev pub is_iteration_kind : Kind → Bool
is_iteration_kind Kind.Iteration = true
is_iteration_kind _ = false

abbrev pub is_iteration : Builtin → Bool
is_iteration row = is_iteration_kind (kind_of row)

abbrev pub is_change_kind : Kind → Bool
is_change_kind Kind.Change = true
is_change_kind _ = false

abbrev pub is_change : Builtin → Bool
is_change row = is_change_kind (kind_of row)

abbrev pub is_matching_kind : Kind → Bool
is_matching_kind Kind.Matching = true
is_matching_kind _ = false

abbrev pub is_matching : Builtin → Bool
is_matching row = is_matching_kind (kind_of row)

abbrev pub is_replacing_kind : Kind → Bool
is_replacing_kind Kind.Replacing = true
is_replacing_kind _ = false

abbrev pub is_replacing : Builtin → Bool
is_replacing row = is_replacing_kind (kind_of row)

abbrev pub has_machine_kind : Kind → Bool
has_machine_kind Kind.Form = true
has_machine_kind Kind.Iteration = true
has_machine_kind Kind.Change = true
has_machine_kind Kind.Matching = true
has_machine_kind Kind.Replacing = true
has_machine_kind _ = false

abbrev pub has_machine : Builtin → Bool
has_machine row = has_machine_kind (kind_of row)

abbrev pub is_outward_kind : Kind → Bool
is_outward_kind Kind.Outward = true
is_outward_kind _ = false

abbrev pub is_outward : Builtin → Bool
is_outward row = is_outward_kind (kind_of row)

abbrev pub is_unbuilt_kind : Kind → Bool
is_unbuilt_kind Kind.Outward = true
is_unbuilt_kind Kind.KernelName = true
is_unbuilt_kind _ = false

abbrev pub is_unbuilt : Builtin → Bool
is_unbuilt row = is_unbuilt_kind (kind_of row)

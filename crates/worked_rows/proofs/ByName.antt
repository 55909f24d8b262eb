-- A row with the names in their own order, found by their texts.
use Rattle.std.proofs.Common.{◌≡◌, refl, ℕ, List, [], ◌∷◌}
use Rattle.std.specs.Prelude.{pos, codes}
use Rattle.expr_tree.specs.Tree.{integer, symbol}
use Rattle.semantics.specs.declared.builtin.Builtin.{Builtin}
use Rattle.semantics.specs.Names.{Names, make}
use Rattle.semantics.specs.Definitions.{empty}
use Rattle.semantics.specs.Program.{Cell}
use Rattle.semantics.specs.Play.{Setting}
use Rattle.semantics.specs.Eval.{eval}
use Rattle.semantics.specs.Texts.{names_of}
use Rattle.semantics.specs.Table.{row, worked}
use Rattle.worked_rows.specs.Sample.{usual, value}

abbrev texts : List (List ℕ)
texts =
    codes "$Aborted" ∷ codes "$Failed" ∷ codes "$KernelCount" ∷ codes "$KernelID" ∷ codes "Abs" ∷ codes "AddTo" ∷ codes "Alternatives" ∷
    codes "And" ∷ codes "Append" ∷ codes "AppendTo" ∷ codes "Apply" ∷ codes "Array" ∷ codes "AtomQ" ∷ codes "Attributes" ∷ codes "Blank" ∷
    codes "BlankNullSequence" ∷ codes "BlankSequence" ∷ codes "Block" ∷ codes "Cases" ∷ codes "Characters" ∷ codes "Clear" ∷ codes "ClearAll" ∷
    codes "ClearAttributes" ∷ codes "CompoundExpression" ∷ codes "Condition" ∷ codes "ConstantArray" ∷ codes "Count" ∷ codes "CriticalSection" ∷
    codes "Decrement" ∷ codes "DistributeDefinitions" ∷ codes "Divide" ∷ codes "Do" ∷ codes "Drop" ∷ codes "Equal" ∷ codes "Evaluate" ∷
    codes "EvaluationObject" ∷ codes "EvenQ" ∷ codes "f" ∷ codes "fac" ∷ codes "Factorial" ∷ codes "False" ∷ codes "First" ∷ codes "FixedPoint" ∷
    codes "Flat" ∷ codes "Flatten" ∷ codes "Fold" ∷ codes "FoldList" ∷ codes "FreeQ" ∷ codes "FullForm" ∷ codes "Function" ∷ codes "GCD" ∷
    codes "Greater" ∷ codes "GreaterEqual" ∷ codes "Head" ∷ codes "Hold" ∷ codes "HoldAll" ∷ codes "HoldAllComplete" ∷ codes "HoldComplete" ∷
    codes "HoldFirst" ∷ codes "HoldPattern" ∷ codes "HoldRest" ∷ codes "Identity" ∷ codes "If" ∷ codes "Increment" ∷ codes "InputForm" ∷
    codes "IntegerQ" ∷ codes "Join" ∷ codes "Last" ∷ codes "Length" ∷ codes "Less" ∷ codes "LessEqual" ∷ codes "List" ∷ codes "Listable" ∷
    codes "ListQ" ∷ codes "Map" ∷ codes "MatchQ" ∷ codes "Max" ∷ codes "MemberQ" ∷ codes "Method" ∷ codes "Min" ∷ codes "Minus" ∷ codes "Mod" ∷
    codes "Module" ∷ codes "Most" ∷ codes "n" ∷ codes "Nest" ∷ codes "NestList" ∷ codes "Not" ∷ codes "Null" ∷ codes "OddQ" ∷ codes "OneIdentity" ∷
    codes "Or" ∷ codes "OrderedQ" ∷ codes "Orderless" ∷ codes "ParallelCombine" ∷ codes "ParallelDo" ∷ codes "ParallelEvaluate" ∷
    codes "ParallelMap" ∷ codes "ParallelSubmit" ∷ codes "ParallelSum" ∷ codes "ParallelTable" ∷ codes "ParallelTry" ∷ codes "Part" ∷
    codes "Partition" ∷ codes "Pattern" ∷ codes "PatternTest" ∷ codes "Plus" ∷ codes "Power" ∷ codes "PreDecrement" ∷ codes "PreIncrement" ∷
    codes "Prepend" ∷ codes "PrependTo" ∷ codes "Print" ∷ codes "Protect" ∷ codes "Protected" ∷ codes "Quit" ∷ codes "Quotient" ∷ codes "Range" ∷
    codes "ReleaseHold" ∷ codes "ReplaceAll" ∷ codes "ReplaceRepeated" ∷ codes "Rest" ∷ codes "Reverse" ∷ codes "Rule" ∷ codes "RuleDelayed" ∷
    codes "SameQ" ∷ codes "Select" ∷ codes "Sequence" ∷ codes "SequenceHold" ∷ codes "Set" ∷ codes "SetAttributes" ∷ codes "SetDelayed" ∷
    codes "SetSharedFunction" ∷ codes "SetSharedVariable" ∷ codes "Sign" ∷ codes "Slot" ∷ codes "SlotSequence" ∷ codes "Sort" ∷ codes "StringJoin" ∷
    codes "StringLength" ∷ codes "StringQ" ∷ codes "StringReverse" ∷ codes "Subtract" ∷ codes "SubtractFrom" ∷ codes "Sum" ∷ codes "Table" ∷
    codes "TagSet" ∷ codes "TagSetDelayed" ∷ codes "Take" ∷ codes "Times" ∷ codes "TimesBy" ∷ codes "Total" ∷ codes "Transpose" ∷ codes "True" ∷
    codes "TrueQ" ∷ codes "Unequal" ∷ codes "Unevaluated" ∷ codes "Union" ∷ codes "Unprotect" ∷ codes "UnsameQ" ∷ codes "Unset" ∷ codes "UpSet" ∷
    codes "UpSetDelayed" ∷ codes "Verbatim" ∷ codes "WaitAll" ∷ codes "WaitNext" ∷ codes "Which" ∷ codes "While" ∷ codes "With" ∷ codes "x" ∷ []

abbrev names : Names
names = names_of texts

abbrev in_cell : Setting
in_cell = record { names = names; shown = λ e. []; mode = Cell; kernel = 0; limits = usual }

-- 1 + x + 2
rows_are_found_by_their_texts : (eval in_cell empty (make names Builtin.Plus (integer (pos 1) ∷ symbol (record { base = 169; number = 0 }) ∷ integer (pos 2) ∷ [])) []).outcome
    ≡ value (make names Builtin.Plus (integer (pos 3) ∷ symbol (record { base = 169; number = 0 }) ∷ []))
unfolding eval row worked
rows_are_found_by_their_texts = refl

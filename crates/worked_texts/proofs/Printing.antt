-- Lines of transcripts, computed.
use Rattle.std.proofs.Common.{◌≡◌, refl, ℕ, ◌+◌, [], ◌∷◌, ◌++◌}
use Rattle.std.specs.Prelude.{codes, length}
use Rattle.std.specs.Fmt.{digits}
use Rattle.expr_tree.specs.Tree.{Tree, string, symbol, call}
use Rattle.semantics.specs.declared.builtin.Builtin.{Builtin}
use Rattle.semantics.specs.Builtin.{rows}
use Rattle.semantics.specs.Sections.{printed}
use Rattle.syntax.specs.Lines as Lines
use Rattle.syntax.specs.Make.{script}
use Rattle.worked_texts.proofs.Sample.{names, spelling, a', b', c', f', g', h', p', q', x', y', int, less, of, name, list, out, line}

a_number : out 1 (int 3) ≡ line (codes "Out[1]= 3")
unfolding digits
a_number = refl

a_wide_number_and_a_stop : out 3 (int 8683317618811886495518194401280000000) ++ out 4 (name Builtin.Aborted)
    ≡ line (codes "Out[3]= 8683317618811886495518194401280000000") ++ line (codes "Out[4]= $Aborted")
unfolding digits
a_wide_number_and_a_stop = refl

elements_and_sums : out 2 (call g' (a' ∷ b' ∷ c' ∷ [])) ++ out 4 (of Builtin.Plus (list (int 1 ∷ int 2 ∷ []) ∷ list (int 1 ∷ int 2 ∷ int 3 ∷ []) ∷ []))
    ≡ line (codes "Out[2]= g[a, b, c]") ++ line (codes "Out[4]= {1, 2} + {1, 2, 3}")
unfolding digits
elements_and_sums = refl

nested_lists : out 1 (list (list (int 1 ∷ []) ∷ list (int 2 ∷ int 3 ∷ []) ∷ [])) ≡ line (codes "Out[1]= {{1}, {2, 3}}")
unfolding digits
nested_lists = refl

a_call : out 2 (call f' (int 3 ∷ [])) ≡ line (codes "Out[2]= f[3]")
unfolding digits
a_call = refl

a_syntax_line : Lines.syntax_line 1 3 ≡ line (codes "Syntax[1]: 3")
unfolding digits
a_syntax_line = refl

an_empty_list : out 4 (list []) ≡ line (codes "Out[4]= {}")
unfolding digits
an_empty_list = refl

-- a sum with a negative term, a power with a negative exponent, a sum in canonical order, a function, an unevaluated sum
signs_and_functions :
    out 1 (of Builtin.Plus (a' ∷ of Builtin.Times (less 2 ∷ b' ∷ []) ∷ []))
    ++ out 2 (of Builtin.Power (int 2 ∷ less 1 ∷ []))
    ++ out 3 (of Builtin.Plus (y' ∷ of Builtin.Times (int 3 ∷ x' ∷ []) ∷ []))
    ++ out 4 (of Builtin.Function (of Builtin.Plus (of Builtin.Slot (int 1 ∷ []) ∷ int 1 ∷ []) ∷ []))
    ++ out 5 (list (int 2 ∷ int 3 ∷ []))
    ++ out 6 (int 2)
    ++ out 7 (call q' (of Builtin.Unevaluated (of Builtin.Plus (int 1 ∷ int 2 ∷ []) ∷ []) ∷ []))
    ≡ line (codes "Out[1]= a - 2*b")
    ++ line (codes "Out[2]= 2^(-1)")
    ++ line (codes "Out[3]= y + 3*x")
    ++ line (codes "Out[4]= #1 + 1 &")
    ++ line (codes "Out[5]= {2, 3}")
    ++ line (codes "Out[6]= 2")
    ++ line (codes "Out[7]= q[Unevaluated[1 + 2]]")
unfolding digits
signs_and_functions = refl

a_call_in_a_list : out 2 (list (int 1 ∷ call g' (int 2 ∷ int 3 ∷ []) ∷ [])) ≡ line (codes "Out[2]= {1, g[2, 3]}")
unfolding digits
a_call_in_a_list = refl

the_greatest_number : out 1 (int 170141183460469231731687303715884105727) ≡ line (codes "Out[1]= 170141183460469231731687303715884105727")
unfolding digits
the_greatest_number = refl

a_list : out 7 (list (int 10 ∷ int 20 ∷ int 98 ∷ name Builtin.True ∷ [])) ≡ line (codes "Out[7]= {10, 20, 98, True}")
unfolding digits
a_list = refl

a_refusal : out 1 (name Builtin.Failed) ≡ line (codes "Out[1]= $Failed")
unfolding digits
a_refusal = refl

numbered_symbols :
    out 1 (of Builtin.Plus (int 2 ∷ y' ∷ [])) ++ out 2 (symbol (record { base = length rows + 9; number = 2 })) ++ out 3 (int 5) ++ out 4 (of Builtin.Hold (int 3 ∷ []))
    ≡ line (codes "Out[1]= 2 + y") ++ line (codes "Out[2]= x$2") ++ line (codes "Out[3]= 5") ++ line (codes "Out[4]= Hold[3]")
unfolding digits
numbered_symbols = refl

object : ℕ → Tree
object n = of Builtin.EvaluationObject (int n ∷ [])

objects : out 2 (list (int 2 ∷ object 1 ∷ list (object 2 ∷ []) ∷ [])) ≡ line (codes "Out[2]= {2, EvaluationObject[1], {EvaluationObject[2]}}")
unfolding digits object
objects = refl

-- HoldComplete[-x^2 - 3 y /; a == b]; HoldComplete[# + 1 & /@ a]
held_operators :
    out 1 (of Builtin.HoldComplete (of Builtin.Condition (
    of Builtin.Plus (of Builtin.Times (less 1 ∷ of Builtin.Power (x' ∷ int 2 ∷ []) ∷ []) ∷ of Builtin.Times (less 3 ∷ y' ∷ []) ∷ [])
    ∷ of Builtin.Equal (a' ∷ b' ∷ []) ∷ []) ∷ []))
    ++ out 1 (of Builtin.HoldComplete (of Builtin.Map (of Builtin.Function (of Builtin.Plus (of Builtin.Slot (int 1 ∷ []) ∷ int 1 ∷ []) ∷ []) ∷ a' ∷ []) ∷ []))
    ≡ line (codes "Out[1]= HoldComplete[-x^2 - 3*y /; a == b]") ++ line (codes "Out[1]= HoldComplete[Map[#1 + 1 &, a]]")
unfolding digits
held_operators = refl

-- Null shows nothing; FullForm, InputForm; a string; a Print of two
forms_asked_for :
    out 1 (name Builtin.Null) ++ out 2 (of Builtin.FullForm (of Builtin.Plus (a' ∷ less 1 ∷ []) ∷ []))
    ++ out 3 (of Builtin.InputForm (of Builtin.Plus (a' ∷ less 1 ∷ []) ∷ []))
    ++ out 4 (of Builtin.FullForm (a' ∷ b' ∷ []))
    ++ out 5 (string (codes "a\"b\n"))
    ++ Lines.print_line (printed (Lines.value_text spelling names) (string (codes "a\"b") ∷ int 1 ∷ of Builtin.FullForm (list [] ∷ []) ∷ []))
    ≡ line (codes "Out[2]= Plus[a, -1]") ++ line (codes "Out[3]= a - 1") ++ line (codes "Out[4]= FullForm[a, b]")
    ++ line (codes "Out[5]= \"a\\\"b\\n\"") ++ line (codes "a\"b1List[]")
unfolding digits
forms_asked_for = refl

-- parentheses and the forms of patterns
parentheses :
    out 1 (of Builtin.Times (of Builtin.Plus (a' ∷ b' ∷ []) ∷ c' ∷ []))
    ++ out 2 (of Builtin.Power (of Builtin.Power (a' ∷ b' ∷ []) ∷ c' ∷ []))
    ++ out 3 (of Builtin.Plus (a' ∷ of Builtin.Plus (b' ∷ c' ∷ []) ∷ []))
    ++ out 4 (of Builtin.Pattern (x' ∷ of Builtin.BlankSequence (h' ∷ []) ∷ []))
    ++ out 5 (of Builtin.Pattern (x' ∷ of Builtin.Alternatives (a' ∷ b' ∷ []) ∷ []))
    ++ out 6 (of Builtin.PatternTest (of Builtin.Blank [] ∷ p' ∷ []))
    ++ out 7 (of Builtin.Rule (of Builtin.Rule (a' ∷ b' ∷ []) ∷ c' ∷ []))
    ++ out 8 (call (of Builtin.Function (of Builtin.Slot (int 1 ∷ []) ∷ [])) (less 1 ∷ []))
    ++ out 9 (of Builtin.CompoundExpression (of Builtin.Set (a' ∷ int 1 ∷ []) ∷ of Builtin.Not (of Builtin.And (a' ∷ b' ∷ []) ∷ []) ∷ []))
    ++ out 10 (of Builtin.Times (less 1 ∷ int 2 ∷ a' ∷ []))
    ++ out 11 (of Builtin.Times (less 1 ∷ of Builtin.Times (a' ∷ b' ∷ []) ∷ c' ∷ []))
    ++ out 12 (of Builtin.Slot (int 0 ∷ []))
    ++ out 13 (call (less 1) (a' ∷ []))
    ≡ line (codes "Out[1]= (a + b)*c") ++ line (codes "Out[2]= (a^b)^c") ++ line (codes "Out[3]= a + (b + c)") ++ line (codes "Out[4]= x__h")
    ++ line (codes "Out[5]= x:a | b") ++ line (codes "Out[6]= _?p") ++ line (codes "Out[7]= (a -> b) -> c") ++ line (codes "Out[8]= (#1 &)[-1]")
    ++ line (codes "Out[9]= a = 1; !(a && b)") ++ line (codes "Out[10]= -1*2*a") ++ line (codes "Out[11]= -(a*b)*c") ++ line (codes "Out[12]= Slot[0]")
    ++ line (codes "Out[13]= (-1)[a]")
unfolding digits
parentheses = refl

the_made_script :
    script 1
    ≡ line (codes "col[1] = 0;") ++ line (codes "")
    ++ line (codes "col[m_] := 1 + col[If[EvenQ[m], Quotient[m, 2], 3 m + 1]]") ++ line (codes "")
    ++ line (codes "total = 0;") ++ line (codes "")
    ++ line (codes "SetSharedVariable[total]") ++ line (codes "")
    ++ line (codes "r = ParallelMap[col, {9, 16, 3, 10, 17, 4, 11, 18, 5, 12}];") ++ line (codes "")
    ++ line (codes "ParallelDo[CriticalSection[{lock}, total = total + x], {x, r}]") ++ line (codes "")
    ++ line (codes "{Length[r], Max[r], total, Apply[Plus, r] === total}")
unfolding digits
the_made_script = refl

-- Numbers that are judged by whether 128 bits hold them.
--     Exactly               the number itself, or that it is out of range
--     Answers               the same of a row of the built-in table
use Rattle.std.specs.Prelude.{◌≡◌, ℤ, true, false, Result, Ok, Err}
use Rattle.expr_tree.specs.Limits.{in_range}
use Rattle.expr_tree.specs.Tree.{integer}
use Rattle.semantics.specs.Worked.{Worked, Gives, TooWide}
use Rattle.int_ops.specs.declared.out_of_range.OutOfRange.{OutOfRange}

abbrev pub Exactly : ℤ → Result ℤ OutOfRange → Type 0
Exactly z (Ok n) = (in_range z ≡ true) × (n ≡ z)
Exactly z (Err e) = in_range z ≡ false

abbrev pub Answers : Worked → Result ℤ OutOfRange → Type 0
Answers w (Ok n) = w ≡ Gives (integer n)
Answers w (Err e) = w ≡ TooWide

use Rattle.std.proofs.Common.{◌≡◌, map, take}
use Rattle.std.specs.Prelude.{encode_utf8}
use Rattle.expr_tree.specs.Tree.{string}
use Rattle.rows_strings.proofs.strings.strings_of.Given as goal

abbrev pub invariant-loop-c : goal.invariant-loop-c
invariant-loop-c l = l.made ≡ map (λ c. string (encode_utf8 c)) (take l.c-index l.characters)

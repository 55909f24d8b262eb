-- The parts of an iterator, asked for from left to right.
--     opened, is_shared     the symbol of an iterator is not shared
--     and_then              one number more is known
--     last_part             the values, where the last part has a value
--     asks                  the parts that are left are asked for
--     answered              the same, where the part before them has a value
use Rattle.std.specs.Prelude.{ℤ, pos, List, [], ◌∷◌, Bool, false, is_some, Option, Some, None}
use Rattle.expr_tree.specs.declared.sym.Sym.{Sym}
use Rattle.expr_tree.specs.Tree.{Tree, integer}
use Rattle.semantics.specs.Names.{Names}
use Rattle.semantics.specs.Definitions.{Definitions, shared_as}
use Rattle.semantics.specs.Program.{Prog, Ask}
use Rattle.semantics.specs.Control.{Values, From, steps_to, up_to, bound_or_list, unless_zero, unless_shared}
use Rattle.machine_iterators.specs.declared.parts.Known.{Known}

abbrev pub opened : Names → Option Sym → Prog → Prog
opened names None p = p
opened names (Some i) p = unless_shared names i p

abbrev pub is_shared : Option Sym → Definitions → Bool
is_shared None d = false
is_shared (Some i) d = is_some (shared_as d.shared i)

abbrev pub and_then : Known → ℤ → Known
and_then Known.Nothing n = Known.Start n
and_then (Known.Start a) n = Known.Span a n
and_then (Known.Span a b) n = Known.Span a b

-- the value has to be an integer
abbrev pub numbered : Tree → (ℤ → Prog) → Prog → Prog
numbered v k stay = elim v [ integer n ↦ k n | _ ↦ stay ]

abbrev pub bound : Names → Option Sym → Tree → (Values → Prog) → Prog → Prog
bound names None v k stay = numbered v (λ b. k (up_to b)) stay
bound names (Some i) v k stay = bound_or_list names v k stay

abbrev pub last_part : Names → Option Sym → Known → Tree → (Values → Prog) → Prog → Prog
last_part names i Known.Nothing v k stay = bound names i v k stay
last_part names i (Known.Start a) v k stay = numbered v (λ b. k (From a (pos 1) (steps_to a b (pos 1)))) stay
last_part names i (Known.Span a b) v k stay = numbered v (λ d. unless_zero d (k (From a d (steps_to a b d))) stay) stay

abbrev pub asks : Names → Option Sym → Known → List Tree → (Values → Prog) → Prog → Prog
asks names i known [] k stay = stay
asks names i known (e ∷ []) k stay = Ask e (λ v. last_part names i known v k stay)
asks names i known (e ∷ f ∷ es) k stay = Ask e (λ v. numbered v (λ n. asks names i (and_then known n) (f ∷ es) k stay) stay)

abbrev pub answered : Names → Option Sym → Known → List Tree → Tree → (Values → Prog) → Prog → Prog
answered names i known [] v k stay = last_part names i known v k stay
answered names i known (f ∷ es) v k stay = numbered v (λ n. asks names i (and_then known n) (f ∷ es) k stay) stay

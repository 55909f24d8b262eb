-- The spans that Take and Drop name: how many elements stand before, and how many in it.
--     end_span              the first elements, or the last
--     list_span             from a place to a place
--     inside, outside       the elements in the span that is asked for, and all others
use Rattle.std.specs.Prelude.{ℕ, suc, ◌+◌, ◌-◌, ℤ, pos, negsuc, leb, true, false, List, ◌++◌, length, take, drop, Option, Some, None}
use Rattle.std.specs.Option.{option_map}
use Rattle.expr_tree.specs.Tree.{Tree}
use Rattle.semantics.specs.declared.builtin.Builtin.{Builtin}
use Rattle.semantics.specs.Names.{Names, is_call, items_of}
use Rattle.semantics.specs.Lists.{span_in, span}

abbrev pub end_span : ℕ → ℤ → Option (ℕ × ℕ)
end_span n (pos k) = elim (leb k n) [ true ↦ Some (0, k) | false ↦ None ]
end_span n (negsuc k) = elim (leb (suc k) n) [ true ↦ Some (n - suc k, suc k) | false ↦ None ]

abbrev pub list_span : Names → ℕ → Tree → Option (ℕ × ℕ)
list_span names n e = elim (is_call names Builtin.List e) [ true ↦ span_in n (items_of e) | false ↦ None ]

abbrev pub inside : Names → List Tree → Tree → Option (List Tree)
inside names es asked = option_map (λ s. take s.1 (drop s.0 es)) (span names (length es) asked)

abbrev pub outside : Names → List Tree → Tree → Option (List Tree)
outside names es asked = option_map (λ s. take s.0 es ++ drop (s.0 + s.1) es) (span names (length es) asked)

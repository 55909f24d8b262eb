-- The bytes that a text stands for.
use Rattle.std.specs.Prelude.{ℕ, List, string_bytes}
use Rattle.expr_tree.specs.declared.text.Held.{Held}
use Rattle.expr_tree.specs.declared.text.Held.TheVariants.{Own, Shared}

abbrev pub bytes_of : Held → List ℕ
bytes_of (Own text) = string_bytes text
bytes_of (Shared text) = string_bytes text.value

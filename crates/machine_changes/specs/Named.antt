-- Names of attributes, one after the other.
--     named_as              the names that were found, if all were
--     behind                names behind others, if there are any
use Rattle.std.specs.Prelude.{List, ◌++◌, Option, Some, None}
use Rattle.semantics.specs.declared.builtin.Builtin.{Builtin}
use Rattle.semantics.specs.Definitions.{Attributes}

abbrev pub named_as : Option (List Builtin) → Option Attributes
named_as None = None
named_as (Some found) = Some found

abbrev pub behind : Attributes → Option Attributes → Option Attributes
behind found None = None
behind found (Some rest) = Some (found ++ rest)

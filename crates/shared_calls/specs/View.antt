-- What the program keeps for a shared symbol.
--     share_of              how it is shared
--     shared_symbol         the shared symbol
use Rattle.semantics.specs.Definitions.{Share, Variable, Function, Shared}
use Rattle.builtin_names.specs.Attributes.{attributes_in}
use Rattle.shared_calls.specs.declared.shared.ShareKind.{ShareKind}
use Rattle.shared_calls.specs.declared.shared.SharedSymbol.{SharedSymbol}

abbrev pub share_of : ShareKind → Share
share_of ShareKind.Variable = Variable
share_of ShareKind.Function = Function

abbrev pub shared_symbol : SharedSymbol → Shared
shared_symbol s = record { symbol = s.symbol; kind = share_of s.kind; attributes = attributes_in s.attrs }

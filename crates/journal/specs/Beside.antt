-- What the program keeps beside an entry, as the definitions have it.
--     handed_in             what was handed in
--     posted_in             an entry with that
use Rattle.semantics.specs.Definitions.{Definitions}
use Rattle.journal.specs.declared.handed.Handed as code
use Rattle.journal.specs.declared.handed.Posted.{Posted as Noted}
use Rattle.journal.specs.Closure.{Bundle}
use Rattle.journal.specs.Entry.{Handed, Posted}

abbrev pub handed_in : code.Handed Bundle Definitions → Handed
handed_in code.Handed.Nothing = Handed.Nothing
handed_in (code.Handed.Given item bundle) = Handed.Given item.value bundle.value
handed_in (code.Handed.Lent definitions) = Handed.Lent definitions.value
handed_in (code.Handed.Held versions) = Handed.Held versions.value

abbrev pub posted_in : Noted Bundle Definitions → Posted
posted_in p = record { entry = p.entry; handed = handed_in p.handed }

-- What the program keeps for the definition of a symbol.
--     definition_of         the definition
use Rattle.semantics.specs.Definitions as d
use Rattle.builtin_names.specs.Attributes.{attributes_in}
use Rattle.kernel_defs.specs.declared.definition.Definition.{Definition}

abbrev pub definition_of : Definition → d.Definition
definition_of x = record { attributes = attributes_in x.attrs; own = x.own; downs = x.downs; ups = x.ups }

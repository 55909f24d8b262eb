use Rattle.std.proofs.Common.{◌∙◌, ap}
use Rattle.builtin_names.specs.Named.{names_in}
use Rattle.kernel_defs.specs.Definition.{definition_of}
use Rattle.kernel_defs.proofs.Written.{put_changed}
use Rattle.kernel_defs.proofs.defs.Defs.put.Goals as goal

pub returns-clause-ok : goal.returns-clause-ok
returns-clause-ok c =
    c.store.ensures
    ∙ put_changed (names_in c.args.names.now) c.args.self.now c.take_or_first.new.self c.args.symbol c.set.new.self.symbol (definition_of c.set.new.self.definition) (definition_of c.args.definition)
    c.in_ok-entry.ensures.rest (c.set.ensures.symbol ∙ ap (λ e. e.symbol) c.deref_mut.ensures.value ∙ c.in_ok-entry.ensures.symbol) c.set.ensures.definition

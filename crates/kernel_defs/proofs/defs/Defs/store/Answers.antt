use Rattle.std.proofs.Common.{◌∙◌, ap, sym}
use Rattle.semantics.specs.Definitions.{is_first}
use Rattle.builtin_names.specs.Named.{names_in}
use Rattle.kernel_defs.specs.Definition.{definition_of}
use Rattle.kernel_defs.proofs.Written.{put_first_absent, put_more}
use Rattle.kernel_defs.proofs.defs.Defs.store.Goals as goal

pub returns-then-is_first : goal.returns-then-is_first
returns-then-is_first c =
    let is =
    sym (
    c.is_first.ensures
    ∙ ap (λ e. is_first (names_in c.args.names.now) e.symbol (definition_of c.deref-2.result.now.definition)) c.deref.ensures
    ∙ ap (λ e. is_first (names_in c.args.names.now) c.args.entry.value.symbol (definition_of e.definition)) c.deref-2.ensures
    )
    ∙ c.if-is_first.true
    in
    sym (put_first_absent (names_in c.args.names.now) c.args.self.now c.args.entry.value.symbol (definition_of c.args.entry.value.definition) is c.requires.absent)

pub returns : goal.returns
returns c =
    let is =
    sym (
    c.is_first.ensures
    ∙ ap (λ e. is_first (names_in c.args.names.now) e.symbol (definition_of c.deref-2.result.now.definition)) c.deref.ensures
    ∙ ap (λ e. is_first (names_in c.args.names.now) c.args.entry.value.symbol (definition_of e.definition)) c.deref-2.ensures
    )
    ∙ c.if-is_first.false
    in
    c.link.ensures ∙ sym (put_more (names_in c.args.names.now) c.args.self.now c.args.entry.value.symbol (definition_of c.args.entry.value.definition) is c.requires.absent)

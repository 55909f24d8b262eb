use Rattle.std.proofs.Common.{◌≡◌, ◌∙◌, ap, sym}
use Rattle.semantics.specs.Definitions.{Definition, Definitions, stored, shared_as}
use Rattle.builtin_names.specs.Attributes.{attributes_in}
use Rattle.builtin_names.specs.Named.{names_in}
use Rattle.kernel_defs.specs.Definition.{definition_of}
use Rattle.kernel_defs.proofs.Written.{absent_after, put_changed, or_stored, written_attributes}
use Rattle.kernel_defs.proofs.defs.Defs.set_attrs.Goals as goal

pub returns-clause-ok : goal.returns-clause-ok
returns-clause-ok c =
    let old : Definitions = c.args.self.now in
    let x : Definition = stored (names_in c.args.names.now) old c.args.symbol in
    let was : definition_of c.deref.result.now.definition ≡ x = ap (λ e. definition_of e.definition) c.deref.ensures ∙ c.in_ok-entry.ensures.definition in
    let attributes : attributes_in c.written_attrs-kept.result ≡ or_stored (shared_as old.shared c.args.symbol) (attributes_in c.args.attrs) x.attributes =
    c.written_attrs-kept.ensures
    ∙ ap (λ m. or_stored (shared_as m.shared c.args.symbol) (attributes_in c.args.attrs) (attributes_in c.deref.result.now.definition.attrs)) c.in_ok-entry.ensures.rest
    ∙ ap (λ y. or_stored (shared_as old.shared c.args.symbol) (attributes_in c.args.attrs) y.attributes) was
    in
    let before : definition_of c.deref_mut.result.now.definition ≡ x = ap (λ e. definition_of e.definition) c.deref_mut.ensures.value ∙ c.in_ok-entry.ensures.definition in
    let after : Definition = record x { attributes = or_stored (shared_as old.shared c.args.symbol) (attributes_in c.args.attrs) x.attributes } in
    c.store.ensures
    ∙ put_changed (names_in c.args.names.now) old c.take_or_first.new.self c.args.symbol c.set_attrs.new.self.symbol (definition_of c.set_attrs.new.self.definition) after
    c.in_ok-entry.ensures.rest (c.set_attrs.ensures.symbol ∙ ap (λ e. e.symbol) c.deref_mut.ensures.value ∙ c.in_ok-entry.ensures.symbol)
    (c.set_attrs.ensures.definition ∙ (λ i. record { attributes = attributes i; own = (before i).own; downs = (before i).downs; ups = (before i).ups }))
    ∙ sym (written_attributes (names_in c.args.names.now) old c.args.symbol (attributes_in c.args.attrs))

pub store-requires : goal.store-requires
store-requires c =
    record {
      absent =
          absent_after c.args.self.now c.take_or_first.new.self c.args.symbol c.set_attrs.new.self.symbol c.in_ok-entry.ensures.rest
          (c.set_attrs.ensures.symbol ∙ ap (λ e. e.symbol) c.deref_mut.ensures.value ∙ c.in_ok-entry.ensures.symbol);
    }

use Rattle.std.proofs.Common.{◌∙◌, refl, ap, sym}
use Rattle.semantics.specs.Definitions.{put, first_definition}
use Rattle.builtin_names.specs.Named.{names_in}
use Rattle.kernel_defs.specs.Definition.{definition_of}
use Rattle.kernel_defs.specs.Locals.{or_first, without}
use Rattle.kernel_defs.specs.Saved.{piece_of}
use Rattle.kernel_defs.proofs.Written.{absent_after, put_changed, put_first, first_is_first}
use Rattle.kernel_defs.proofs.defs.Defs.put_back_one.Goals as goal

pub store-requires : goal.store-requires
store-requires c =
    record {
      absent =
          absent_after c.args.self.now c.take.new.self c.in-Kept.entry.value.symbol c.in-Kept.entry.value.symbol
          (c.take.ensures.rest ∙ ap (λ e. without c.args.self.now e.symbol) c.deref.ensures) refl;
    }

pub returns-in-Kept : goal.returns-in-Kept
returns-in-Kept c =
    c.store.ensures
    ∙ put_changed (names_in c.args.names.now) c.args.self.now c.take.new.self c.in-Kept.entry.value.symbol c.in-Kept.entry.value.symbol (definition_of c.in-Kept.entry.value.definition)
    (definition_of c.in-Kept.entry.value.definition) (c.take.ensures.rest ∙ ap (λ e. without c.args.self.now e.symbol) c.deref.ensures) refl refl
    ∙ sym (ap (λ p. put (names_in c.args.names.now) c.args.self.now ((piece_of p).0) (or_first (names_in c.args.names.now) ((piece_of p).0) ((piece_of p).1))) c.in-Kept.is)

pub returns-in-Absent : goal.returns-in-Absent
returns-in-Absent c =
    c.take-in-Absent.ensures.rest
    ∙ sym (
    put_first (names_in c.args.names.now) c.args.self.now c.in-Absent.symbol (first_definition (names_in c.args.names.now) c.in-Absent.symbol)
    (first_is_first (names_in c.args.names.now) c.in-Absent.symbol)
    )
    ∙ sym (ap (λ p. put (names_in c.args.names.now) c.args.self.now ((piece_of p).0) (or_first (names_in c.args.names.now) ((piece_of p).0) ((piece_of p).1))) c.in-Absent.is)

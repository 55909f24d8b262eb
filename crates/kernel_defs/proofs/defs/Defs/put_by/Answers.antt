use Rattle.std.proofs.Common.{◌∙◌, refl, ap}
use Rattle.semantics.specs.Definitions.{look_up}
use Rattle.semantics.specs.Play.{local_definition}
use Rattle.builtin_names.specs.Named.{names_in}
use Rattle.kernel_defs.specs.Definition.{definition_of}
use Rattle.kernel_defs.specs.Locals.{linked}
use Rattle.kernel_defs.specs.Saved.{piece_of}
use Rattle.kernel_defs.proofs.Written.{absent_after, put_changed}
use Rattle.kernel_defs.proofs.Locals.{linked_again}
use Rattle.kernel_defs.proofs.defs.Defs.put_by.Goals as goal

pub store-requires : goal.store-requires
store-requires c =
    record {
      absent =
          absent_after c.args.self.now c.take_piece-piece.new.self c.args.symbol c.in_ok-local.local.value.symbol c.take_piece-piece.ensures.rest c.in_ok-local.ensures.symbol;
    }

pub link_piece-requires : goal.link_piece-requires
link_piece-requires c =
    absent_after c.args.self.now c.take_piece-piece.new.self c.args.symbol ((piece_of c.in-Err.piece).0) c.take_piece-piece.ensures.rest
    (ap (λ p. p.0) (c.in-Err.ensures.back ∙ c.take_piece-piece.ensures.piece))

pub returns-in-Ok-clause-definitions : goal.returns-in-Ok-clause-definitions
returns-in-Ok-clause-definitions c =
    c.store.ensures
    ∙ put_changed (names_in c.args.names.now) c.args.self.now c.take_piece-piece.new.self c.args.symbol c.in_ok-local.local.value.symbol (definition_of c.in_ok-local.local.value.definition)
    (local_definition (record { symbol = c.args.symbol; value = c.args.value })) c.take_piece-piece.ensures.rest c.in_ok-local.ensures.symbol c.in_ok-local.ensures.definition

pub returns-in-Err-clause-err : goal.returns-in-Err-clause-err
returns-in-Err-clause-err c =
    c.link_piece.ensures
    ∙ ap (λ e. linked e c.take_piece-piece.new.self) (c.in-Err.ensures.back ∙ c.take_piece-piece.ensures.piece)
    ∙ linked_again c.args.self.now c.take_piece-piece.new.self c.args.symbol (look_up c.args.self.now.entries c.args.symbol) refl c.take_piece-piece.ensures.rest c.take_piece-piece.ensures.back

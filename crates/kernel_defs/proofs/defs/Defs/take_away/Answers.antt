use Rattle.std.proofs.Common.{◌≡◌, ◌∙◌, ap, sym}
use Rattle.semantics.specs.Changes.{without_left}
use Rattle.semantics.specs.Definitions.{stored}
use Rattle.builtin_names.specs.Named.{names_in}
use Rattle.kernel_defs.specs.Definition.{definition_of}
use Rattle.kernel_defs.proofs.Written.{absent_after, put_changed, stored_found, without_absent, without_left_absent, written_without}
use Rattle.kernel_defs.proofs.Tables.{on_ok_map}
use Rattle.kernel_defs.proofs.defs.Defs.take_away.Goals as goal

pub take_from-requires : goal.take_from-requires
take_from-requires c =
    record {
      absent =
          absent_after c.args.self.now c.take.new.self c.args.symbol c.in-Some.entry.value.symbol c.take.ensures.rest c.in-Some.ensures.symbol;
    }

pub returns-in-Some-clause-ok : goal.returns-in-Some-clause-ok
returns-in-Some-clause-ok c =
    let found : definition_of c.in-Some.entry.value.definition ≡ stored (names_in c.args.names.now) c.args.self.now c.args.symbol =
    sym (stored_found (names_in c.args.names.now) c.args.self.now c.args.symbol (definition_of c.in-Some.entry.value.definition) (sym c.in-Some.ensures.definition))
    in
    on_ok_map c.take_from.result
    (λ p.
    p
    ∙ put_changed (names_in c.args.names.now) c.args.self.now c.take.new.self c.args.symbol c.in-Some.entry.value.symbol
    (without_left c.args.left.now (definition_of c.in-Some.entry.value.definition))
    (without_left c.args.left.now (stored (names_in c.args.names.now) c.args.self.now c.args.symbol))
    c.take.ensures.rest c.in-Some.ensures.symbol
    (ap (without_left c.args.left.now) found)
    ∙ sym (written_without (names_in c.args.names.now) c.args.self.now c.args.symbol c.args.left.now))
    c.take_from.ensures.ok

pub returns-in-None-clause-ok : goal.returns-in-None-clause-ok
returns-in-None-clause-ok c =
    c.take.ensures.rest
    ∙ without_absent c.args.self.now c.args.symbol (sym c.in-None.ensures.definition)
    ∙ sym (without_left_absent (names_in c.args.names.now) c.args.self.now c.args.symbol c.args.left.now (sym c.in-None.ensures.definition))

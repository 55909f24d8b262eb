use Rattle.std.proofs.Common.{◌≡◌, ◌∙◌, ap, sym}
use Rattle.semantics.specs.Assign.{attached}
use Rattle.semantics.specs.Definitions.{stored}
use Rattle.builtin_names.specs.Named.{names_in}
use Rattle.kernel_defs.specs.Definition.{definition_of}
use Rattle.kernel_defs.specs.Targets.{place_of}
use Rattle.kernel_defs.proofs.Written.{absent_after, put_changed, stored_found, stored_absent, without_absent, written_attached}
use Rattle.kernel_defs.proofs.Tables.{on_err, on_ok_map}
use Rattle.kernel_defs.proofs.defs.Defs.attach.Goals as goal

pub attach_to-requires : goal.attach_to-requires
attach_to-requires c =
    record {
      absent =
          absent_after c.args.self.now c.take.new.self c.args.target.symbol c.in-Some.entry.value.symbol c.take.ensures.rest c.in-Some.ensures.symbol;
    }

pub returns-in_err-entry-in-None-clause-err : goal.returns-in_err-entry-in-None-clause-err
returns-in_err-entry-in-None-clause-err c =
    on_err c.from_residual.result (c.take.ensures.rest ∙ without_absent c.args.self.now c.args.target.symbol (sym c.in-None.ensures.definition))

pub returns-in_err-attach-in-None-clause-err : goal.returns-in_err-attach-in-None-clause-err
returns-in_err-attach-in-None-clause-err c =
    on_err c.from_residual-in_err-attach-in-None.result (c.take.ensures.rest ∙ without_absent c.args.self.now c.args.target.symbol (sym c.in-None.ensures.definition))

pub store-requires : goal.store-requires
store-requires c =
    record {
      absent =
          absent_after c.args.self.now c.take.new.self c.args.target.symbol c.attach.new.self.symbol c.take.ensures.rest
          (c.attach.ensures.symbol ∙ ap (λ e. e.symbol) c.deref_mut.ensures.value ∙ c.in_ok-entry-in-None.ensures.symbol);
    }

pub returns-in-Some-clause-ok : goal.returns-in-Some-clause-ok
returns-in-Some-clause-ok c =
    let found : definition_of c.in-Some.entry.value.definition ≡ stored (names_in c.args.names.now) c.args.self.now c.args.target.symbol =
    sym (stored_found (names_in c.args.names.now) c.args.self.now c.args.target.symbol (definition_of c.in-Some.entry.value.definition) (sym c.in-Some.ensures.definition))
    in
    on_ok_map c.attach_to.result
    (λ p.
    p
    ∙ put_changed (names_in c.args.names.now) c.args.self.now c.take.new.self c.args.target.symbol c.in-Some.entry.value.symbol
    (attached (names_in c.args.names.now) (place_of c.args.target.place) c.args.left c.args.right (definition_of c.in-Some.entry.value.definition))
    (attached (names_in c.args.names.now) (place_of c.args.target.place) c.args.left c.args.right (stored (names_in c.args.names.now) c.args.self.now c.args.target.symbol))
    c.take.ensures.rest c.in-Some.ensures.symbol
    (ap (attached (names_in c.args.names.now) (place_of c.args.target.place) c.args.left c.args.right) found)
    ∙ sym (written_attached (names_in c.args.names.now) c.args.self.now c.args.target.symbol (place_of c.args.target.place) c.args.left c.args.right))
    c.attach_to.ensures.ok

pub returns-in_ok-attach-in-None-clause-ok : goal.returns-in_ok-attach-in-None-clause-ok
returns-in_ok-attach-in-None-clause-ok c =
    let first : definition_of c.deref_mut.result.now.definition ≡ stored (names_in c.args.names.now) c.args.self.now c.args.target.symbol =
    ap (λ e. definition_of e.definition) c.deref_mut.ensures.value
    ∙ c.in_ok-entry-in-None.ensures.definition
    ∙ sym (stored_absent (names_in c.args.names.now) c.args.self.now c.args.target.symbol (sym c.in-None.ensures.definition))
    in
    c.store.ensures
    ∙ put_changed (names_in c.args.names.now) c.args.self.now c.take.new.self c.args.target.symbol c.attach.new.self.symbol (definition_of c.attach.new.self.definition)
    (attached (names_in c.args.names.now) (place_of c.args.target.place) c.args.left c.args.right (stored (names_in c.args.names.now) c.args.self.now c.args.target.symbol))
    c.take.ensures.rest
    (c.attach.ensures.symbol ∙ ap (λ e. e.symbol) c.deref_mut.ensures.value ∙ c.in_ok-entry-in-None.ensures.symbol)
    (c.in_ok-attach-in-None.ensures.ok ∙ ap (attached (names_in c.args.names.now) (place_of c.args.target.place) c.args.left c.args.right) first)
    ∙ sym (written_attached (names_in c.args.names.now) c.args.self.now c.args.target.symbol (place_of c.args.target.place) c.args.left c.args.right)

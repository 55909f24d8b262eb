use Rattle.semantics.specs.Names.{name}
use Rattle.builtin_names.specs.Named.{names_in}
use Rattle.machine_changes.proofs.Flags.{all_pushed}
use Rattle.machine_changes.proofs.attributes.names_of.Goals as goal

pub returns : goal.returns
returns c =
    all_pushed (name (names_in c.args.names.now)) c.args.attrs c.new-told.ensures c.in_ok-push_where.ensures c.in_ok-push_where-2.ensures c.in_ok-push_where-3.ensures c.in_ok-push_where-4.ensures
    c.in_ok-push_where-5.ensures c.in_ok-push_where-6.ensures c.in_ok-push_where-7.ensures c.in_ok-push_where-8.ensures c.in_ok-push_where-9.ensures c.in_ok-push_where-10.ensures

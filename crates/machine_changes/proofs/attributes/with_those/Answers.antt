use Rattle.machine_changes.proofs.Flags.{with_flags}
use Rattle.machine_changes.proofs.attributes.with_those.Goals as goal

pub returns : goal.returns
returns c =
    with_flags c.args.new.now c.args.old _ c.or_named.ensures c.or_named-2.ensures c.or_named-3.ensures c.or_named-4.ensures c.or_named-5.ensures c.or_named-6.ensures c.or_named-7.ensures
    c.or_named-8.ensures c.or_named-9.ensures c.or_named-10.ensures

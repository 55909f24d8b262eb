use Rattle.machine_changes.proofs.Flags.{without_flags}
use Rattle.machine_changes.proofs.attributes.without_those.Goals as goal

pub returns : goal.returns
returns c =
    without_flags c.args.gone.now c.args.old _ c.and_not_named.ensures c.and_not_named-2.ensures c.and_not_named-3.ensures c.and_not_named-4.ensures c.and_not_named-5.ensures
    c.and_not_named-6.ensures c.and_not_named-7.ensures c.and_not_named-8.ensures c.and_not_named-9.ensures c.and_not_named-10.ensures

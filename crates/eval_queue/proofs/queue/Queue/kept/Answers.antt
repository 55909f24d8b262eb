use Rattle.std.proofs.Common.{rules, ◌≡◌, ◌∙◌, ap, ◌-◌}
use Rattle.std.specs.Prelude.{slice_get}
use Rattle.std.specs.Option.{option_copied}
use Rattle.eval_queue.specs.Items.{kept_at}
use Rattle.eval_queue.proofs.Places.{found_at}
use Rattle.eval_queue.proofs.queue.Queue.kept.Goals as goal

pub returns : goal.returns
returns g c =
    let looked : option_copied c.at_place.result ≡ slice_get c.self.inside.kept.items (c.args.id - 1) = search rules in
    looked ∙ (found_at c.self.inside.kept.items c.args.id c.if-id-eq0.false ∙ ap (λ qs. kept_at qs c.args.id) c.self.view_is)

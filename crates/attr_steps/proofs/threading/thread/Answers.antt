use Rattle.std.proofs.Common.{◌≡◌, ◌<◌, true, ◌∙◌, arith}
use Rattle.semantics.specs.Steps.{all_of_length}
use Rattle.builtin_names.specs.Named.{names_in}
use Rattle.attr_steps.proofs.Threads.{thread_turn}
use Rattle.attr_steps.proofs.threading.thread.Goals as goal

pub loop-place-preserved : goal.loop-place-preserved
loop-place-preserved c =
    let all : all_of_length (names_in c.args.names.now) c.in-Some.length c.args.items.now ≡ true = cc in
    thread_turn (names_in c.args.names.now) c.args.head c.in-Some.length c.loop-place.place _ c.loop-place.each _ c.in_ok-call_at.field-0 (omega arith) all c.in_ok-call_at.ensures c.in_ok-push.ensures.ok
    ∙ c.loop-place.invariant

use Rattle.std.proofs.Common.{ap, sym, ◌∙◌}
use Rattle.semantics.specs.InPlace.{put_in_place}
use Rattle.semantics.specs.Program.{Done}
use Rattle.semantics.specs.Scoping.{with_form}
use Rattle.frames_scope.specs.ScopingLeft.{ask_each}
use Rattle.frames_scope.proofs.Withs.{with_starts}
use Rattle.frames_scope.proofs.with_form.With.start.Goals as goal

pub returns : goal.returns
returns c =
    λ names. record {
      by = λ stay.
          let read = rw c.in-Some.is at c.in_ok-locals.ensures in
          ap (λ ls. with_form names stay ls c.args.scope.now.body) read.by
          ∙ with_starts names stay c.args.scope.now.body c.in-Some.locals
          ∙ ap (λ d. ask_each c.in-Some.locals d (λ b. Done (put_in_place names b c.args.scope.now.body))) (sym c.new.ensures)
          ∙ ap (λ x. ask_each c.in-Some.locals c.new.result (λ b. Done (put_in_place names b x))) (sym c.in_ok-copy.ensures);
    }

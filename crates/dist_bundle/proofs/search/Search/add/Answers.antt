use Rattle.std.proofs.Common.{◌≡◌, subst}
use Rattle.std.specs.Bool.{OnFalse}
use Rattle.dist_bundle.proofs.Found.{add_new, add_old}
use Rattle.dist_bundle.proofs.search.Search.add.Goals as goal

pub returns-in_ok-push : goal.returns-in_ok-push
returns-in_ok-push c = add_new c.args.symbol c.args.self.now c.self.inside.found.keys c.insert.new.self.keys c.self.inside.waiting c.push.new.self c.self.inside.table c.in_ok-insert.field-0 c.self.view_is c.in_ok-insert.ensures.added c.if-branch.true c.in_ok-insert.ensures.keys c.in_ok-push.ensures.ok

pub returns-else-branch : goal.returns-else-branch
returns-else-branch c = add_old c.args.symbol c.args.self.now c.self.inside.found.keys c.insert.new.self.keys c.self.inside.waiting c.self.inside.table c.in_ok-insert.field-0 c.self.view_is c.in_ok-insert.ensures.added c.if-branch.false (subst (λ b. OnFalse b (c.insert.new.self.keys ≡ c.self.inside.found.keys)) c.if-branch.false c.in_ok-insert.ensures.unchanged)

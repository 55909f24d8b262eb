use Rattle.std.proofs.Common.{rules, ◌≡◌, ◌∙◌, refl, ap, sym}
use Rattle.expr_tree.specs.Tree.{normal, trees}
use Rattle.machine_rules.proofs.Rising.{enters_head}
use Rattle.machine_rules.proofs.walk.Walk.enter.Goals as goal

pub returns-in_ok-push-in-Normal : goal.returns-in_ok-push-in-Normal
returns-in_ok-push-in-Normal c =
    let place : c.args.self.now.place ≡ normal c.in-Normal.head.value (trees c.in-Normal.items) = search rules in
    let rest : c.in_ok-rest-in-Normal.rest ≡ c.in-Normal.items = search rules in
    let head : c.in_ok-head-in-Normal.head ≡ c.in-Normal.head.value = search rules in
    enters_head c.args.self.now _ c.in-Normal.head.value c.in_ok-rest-in-Normal.rest (place ∙ ap (λ xs. normal c.in-Normal.head.value (trees xs)) (sym rest)) refl c.in_ok-push-in-Normal.ensures.ok head

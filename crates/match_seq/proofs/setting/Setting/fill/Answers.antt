use Rattle.std.proofs.Common.{rules, ◌≡◌, IfOk, subst}
use Rattle.expr_tree.proofs.Callers.{tree_steps}
use Rattle.match_seq.specs.Goals.{found_of, matching_of, rest, after}
use Rattle.match_seq.proofs.Filling.{fill-within}
use Rattle.match_seq.proofs.setting.Setting.fill.Goals as goal

pub returns : goal.returns
returns c =
    subst (λ s. IfOk c.within.result (λ t. after c.args.self.now t ≡ s))
    (fill-within c.args.self.now c.args.level c.in-Some.first.now _ _ c.args.elements (matching_of c.how_in-how.result) _ _ c.window-window.result.least c.window-window.result.greatest
    (rest c.args.self.now c.args.onward) (found_of c.args.onward.found) c.in-Some.ensures.value c.window-window.ensures.least c.window-window.ensures.greatest
    c.how_in-how.ensures (search (rules, tree_steps)) (search rules) (search rules))
    c.within.ensures

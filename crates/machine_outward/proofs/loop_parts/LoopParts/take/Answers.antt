use Rattle.std.proofs.Common.{◌≡◌, ◌∙◌, sym, ap, [], false}
use Rattle.std.proofs.lemmas.Bool.{false≢true}
use Rattle.expr_tree.specs.Tree.{integer}
use Rattle.expr_tree.specs.View.{tree_of}
use Rattle.builtin_names.specs.Named.{names_in}
use Rattle.machine_outward.specs.Loops.{after_parts}
use Rattle.machine_outward.proofs.Shaping.{number_goes}
use Rattle.machine_outward.proofs.loop_parts.LoopParts.take.Goals as goal

pub returns-clause-found : goal.returns-clause-found
returns-clause-found c = λ call stay.
    let names = names_in c.args.scene.now.names.now in
    let is : c.args.value ≡ integer c.in-Int.field-0 = sym c.node.ensures ∙ ap tree_of c.in-Int.is in
    record { by = number_goes names c.args.self.now.symbol c.args.self.now.known c.push.new.self c.args.self.now.rest c.args.value c.in-Int.field-0 (after_parts names call) stay (λ e. false≢true (c.if-is_empty.ensures.1 e)) is c.in_ok-push.ensures.ok ∙ c.ask.ensures.asks names call stay }

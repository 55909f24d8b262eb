use Rattle.std.proofs.Common.{◌≡◌, ◌∙◌, sym, ap, FitsSigned, rules}
use Rattle.std.specs.Int.{w128}
use Rattle.std.proofs.lemmas.Int.{to_z-of_z}
use Rattle.std.proofs.lemmas.Bool.{false≢true}
use Rattle.expr_tree.specs.Tree.{integer}
use Rattle.expr_tree.specs.View.{tree_of}
use Rattle.builtin_names.specs.Named.{names_in}
use Rattle.machine_iterators.specs.PartsAsked.{and_then}
use Rattle.machine_iterators.specs.IterationLeft.{goes}
use Rattle.machine_iterators.proofs.Asking.{number_goes}
use Rattle.machine_iterators.proofs.parts.Parts.take.Goals as goal

pub returns-in-Int-clause-found : goal.returns-in-Int-clause-found
returns-in-Int-clause-found c = λ stay.
    let names = names_in c.args.scene.now.names.now in
    let b = c.args.body.now in
    let p = c.args.self.now in
    let f : FitsSigned w128 c.in-Int.number = search rules in
    let is : c.args.value ≡ integer c.in-Int.number = sym c.node.ensures ∙ ap tree_of c.in-Int.is in
    record {
      by =
          number_goes names b.symbol p.known c.and_then-self.result p.rest c.args.value c.in-Int.number (goes names b) stay (λ e. false≢true (c.if-is_empty.ensures.1 e)) is
          (c.and_then-self.ensures ∙ ap (and_then p.known) (to_z-of_z w128 c.in-Int.number f))
          ∙ c.ask.ensures.asks names b stay;
    }

use Rattle.std.proofs.Common.{◌≡◌, ◌∙◌, sym, ap, FitsSigned, rules}
use Rattle.std.specs.Int.{w128}
use Rattle.std.proofs.lemmas.Int.{to_z-of_z}
use Rattle.expr_tree.specs.Tree.{integer}
use Rattle.expr_tree.specs.View.{tree_of}
use Rattle.builtin_names.specs.Named.{names_in}
use Rattle.machine_iterators.specs.PartsAsked.{last_part}
use Rattle.machine_iterators.specs.IterationLeft.{goes}
use Rattle.machine_iterators.proofs.Numbering.{finds_as, found_as}
use Rattle.machine_iterators.proofs.parts.last_values.Goals as goal

pub returns-in-Int-clause-found : goal.returns-in-Int-clause-found
returns-in-Int-clause-found c = λ b stay rest same.
    let names = names_in c.args.names.now in
    let f : FitsSigned w128 c.in-Int.number = search rules in
    let is : c.args.last.now ≡ integer c.in-Int.number = sym c.node.ensures ∙ ap tree_of c.in-Int.is in
    finds_as (λ i. last_part names (sym same i) c.args.known ((is ∙ ap integer (sym (to_z-of_z w128 c.in-Int.number f))) i) (goes names b) stay) (c.number_values.ensures.found names b stay rest)

pub returns-in-Some-Nothing : goal.returns-in-Some-Nothing
returns-in-Some-Nothing c = record {
  found = λ b stay rest same.
      let names = names_in c.args.names.now in
      found_as names b _ _ stay c.element_values.result rest (λ i. last_part names (c.in-Some-Nothing.is-0 i) (c.in-Some-Nothing.is-1 i) c.args.last.now (goes names b) stay) (c.element_values.ensures.found b stay rest);
  few = c.element_values.ensures.few;
}

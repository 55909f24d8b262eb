use Rattle.std.proofs.Common.{List, sym, ap, ◌∙◌}
use Rattle.expr_tree.specs.Tree.{Tree, call}
use Rattle.builtin_names.specs.Named.{names_in}
use Rattle.laws_reading.specs.Kept.{cut}
use Rattle.phrase_form.specs.Held.{appended_kept, held_tree}
use Rattle.phrase_form.specs.declared.kept.Held.{Held}
use Rattle.phrase_form.proofs.Chains.{chain_added}
use Rattle.phrase_form.proofs.chain.continued.Goals as goal

pub returns-in_ok-push-in-Chain : goal.returns-in_ok-push-in-Chain
returns-in_ok-push-in-Chain c =
    ap (λ (vs : List Tree). cut (call c.in-Chain.head vs)) c.in_ok-push-in-Chain.ensures.ok
    ∙ sym (chain_added (names_in c.args.names.now) c.args.row c.in-Chain.head c.in-Chain.items c.args.item)
    ∙ ap (λ (h : Held). appended_kept (names_in c.args.names.now) c.args.row (held_tree h) c.args.item) (sym c.in-Chain.is)

use Rattle.std.proofs.Common.{◌≡◌, List, false, sym, subst}
use Rattle.builtin_names.specs.Named.{names_in}
use Rattle.phrase_form.specs.Held.{kept_in}
use Rattle.phrase_form.specs.Levels.{top_of, is_elements}
use Rattle.phrase_form.specs.Words.{bracket_in}
use Rattle.phrase_form.specs.declared.frame.Frame.{Frame}
use Rattle.phrase_form.proofs.Innermost.{closed_none}
use Rattle.phrase_form.proofs.close.close.Goals as goal

pub returns-in-None : goal.returns-in-None
returns-in-None c =
    let g = c.pop_group.ensures.other c.if-pop_group.false in
    sym
    (closed_none (names_in c.args.names.now) c.args.stack.now (bracket_in c.args.bracket) (kept_in c.args.phrase) g.1
    (subst (λ (K : List Frame). is_elements (top_of K) ≡ false) g.0 c.in-None.ensures.1))

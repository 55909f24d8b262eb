-- Expressions behind a minus sign.
use Rattle.std.proofs.Common.{◌≡◌, pos, negsuc, List, Some, None, refl, sym, ap, ◌∙◌}
use Rattle.expr_tree.specs.Tree.{Tree, integer, string, symbol, normal, trees, call}
use Rattle.expr_tree.proofs.Trees.{elements-trees}
use Rattle.semantics.specs.Names.{Names}
use Rattle.syntax.specs.Phrases.{negative, negated_number, negated_elements, negated_product}
use Rattle.laws_reading.specs.Kept.{cut}
use Rattle.phrase_form.specs.Held.{natural_negated}

pub number_some : (names : Names) (e d : Tree) → natural_negated e ≡ Some d → negated_number names e ≡ d
number_some names (integer (pos n)) d h = cc
number_some names (integer (negsuc n)) d h = cc
number_some names (string s) d h = cc
number_some names (symbol s) d h = cc
number_some names (normal f es) d h = cc

pub number_none : (names : Names) (e : Tree) → natural_negated e ≡ None → negated_number names e ≡ negative names e
number_none names (integer (pos n)) h = cc
number_none names (integer (negsuc n)) h = refl
number_none names (string s) h = refl
number_none names (symbol s) h = refl
number_none names (normal f es) h = refl

pub product_of : (names : Names) (h : Tree) (es vs : List Tree) (e : Tree) → normal h (trees es) ≡ e → vs ≡ negated_elements names es → cut (call h vs) ≡ cut (negated_product names e)
product_of names h es vs e p q =
    ap (λ us. cut (call h us)) (q ∙ ap (negated_elements names) (sym (elements-trees es))) ∙ ap (λ t. cut (negated_product names t)) p

pub ruleset negation_steps = (number_some, number_none)

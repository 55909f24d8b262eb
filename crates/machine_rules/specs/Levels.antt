-- Expressions of which a part is being replaced.
--     with_part             the part is done
--     elements_left         the elements that are left are replaced, and then goes on with the whole
--     risen                 the same of a part of a part, the innermost first
use Rattle.std.specs.Prelude.{List, [], ◌∷◌, ◌++◌}
use Rattle.expr_tree.specs.Tree.{Tree, trees, elements, call}
use Rattle.semantics.specs.Names.{Names}
use Rattle.semantics.specs.Rule.{Rule}
use Rattle.semantics.specs.Program.{Prog}
use Rattle.semantics.specs.Replace.{replaced_items}
use Rattle.machine_rules.specs.declared.level.Elements.{Elements}
use Rattle.machine_rules.specs.declared.level.Level.{Level}

abbrev pub with_part : Tree → Level → Elements
with_part v (Level.Head es) = record { head = v; done = []; rest = es }
with_part v (Level.Element c) = record { head = c.head; done = c.done ++ v ∷ []; rest = c.rest }

abbrev pub elements_left : Names → List Rule → Elements → (Tree → Prog) → Prog
elements_left names rs c k = replaced_items names rs (trees c.rest) (λ fs. k (call c.head (c.done ++ elements fs)))

abbrev pub risen : Names → List Rule → List Level → (Tree → Prog) → Tree → Prog
risen names rs [] k = k
risen names rs (l ∷ ls) k = λ v. elements_left names rs (with_part v l) (risen names rs ls k)

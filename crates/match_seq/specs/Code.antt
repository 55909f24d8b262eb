-- How the logic stores a binding with its guards.
use Rattle.std.specs.Prelude.{◌≡◌, List, ◌⊎◌, refl}
use Rattle.std.proofs.Common.{inl, inr}
use Rattle.std.specs.Coded.{Coded, code_by, coded×, coded⊎, coded_list}
use Rattle.expr_tree.specs.contracts.sym.Sym as sym
use Rattle.expr_tree.specs.Code.{coded_tree}
use Rattle.expr_tree.specs.Tree.{Tree}
use Rattle.expr_tree.specs.Substitution.{Binding}
use Rattle.semantics.specs.Match.{Guard, Test, Cond, Found}

abbrev guard_parts : Guard → (Tree × Tree) ⊎ Tree
guard_parts (Test t x) = inl (t, x)
guard_parts (Cond c) = inr c

abbrev guard_from : (Tree × Tree) ⊎ Tree → Guard
guard_from (inl p) = Test p.0 p.1
guard_from (inr c) = Cond c

abbrev guard_back : (g : Guard) → guard_from (guard_parts g) ≡ g
guard_back (Test t x) = refl
guard_back (Cond c) = refl

abbrev pub coded_guard : Coded Guard
coded_guard = code_by ((Tree × Tree) ⊎ Tree) (coded⊎ (coded× coded_tree coded_tree) coded_tree) guard_parts guard_from guard_back

abbrev coded_binding : Coded Binding
coded_binding = coded_list (coded× sym.the_row.coded (coded_list coded_tree))

abbrev pub coded_found : Coded Found
coded_found =
    code_by (Binding × List Guard) (coded× coded_binding (coded_list coded_guard)) (λ f. (f.binding, f.guards)) (λ p. record { binding = p.0; guards = p.1 }) (λ _. refl)

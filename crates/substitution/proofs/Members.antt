-- Symbols that stand behind those found so far.
use Rattle.std.proofs.Common.{◌≡◌, List, [], ◌∷◌, ◌++◌, Option, Some, None, refl, ap}
use Rattle.expr_tree.specs.declared.sym.Sym.{Sym}

-- symbols before those that were found, if they were
abbrev pub behind : List Sym → Option (List Sym) → Option (List Sym)
behind done None = None
behind done (Some ss) = Some (done ++ ss)

pub behind_none : (o : Option (List Sym)) → behind [] o ≡ o
behind_none None = refl
behind_none (Some ss) = refl

append-assoc : (as' : List Sym) (s : Sym) (bs : List Sym) → as' ++ (s ∷ bs) ≡ (as' ++ s ∷ []) ++ bs
append-assoc [] s bs = refl
append-assoc (a ∷ as') s bs = ap (λ l. a ∷ l) (append-assoc as' s bs)

pub behind_one_more : (done : List Sym) (s : Sym) (o : Option (List Sym)) → behind done (elim o [ None ↦ None | Some ss ↦ Some (s ∷ ss) ]) ≡ behind (done ++ s ∷ []) o
behind_one_more done s None = refl
behind_one_more done s (Some ss) = ap Some (append-assoc done s ss)

pub ruleset member_steps = (behind_none, behind_one_more)

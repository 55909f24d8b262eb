-- A sequence of events on a core with two kernels, and what may not follow it.
use Rattle.std.proofs.Common.{◌≡◌, refl, ℕ, List, [], ◌∷◌, ◌++◌, Option, Some, None}
use Rattle.expr_tree.specs.declared.sym.Sym.{Sym}
use Rattle.expr_tree.specs.Tree.{Tree}
use Rattle.semantics.specs.Definitions.{empty}
use Rattle.journal.specs.Places.{given}
use Rattle.journal.specs.Closure.{bundle, symbols_of}
use Rattle.journal.specs.declared.loss.Loss.{Loss}
use Rattle.journal.specs.declared.event.Wait.{Wait}
use Rattle.journal.specs.declared.event.Event.{Event}
use Rattle.journal.specs.declared.item.Item.{Item}
use Rattle.journal.specs.Entry.{Handed, Posted}
use Rattle.journal.specs.Core.{Setup, Core, start, step, replay, wait_reply}
use Rattle.journal.specs.Spans.{sections, results}
use Rattle.worked_journals.proofs.Script.{setup, names, sym, int, by}

abbrev two : Setup
two = setup 2

abbrev a' : Sym
a' = record { base = 1000; number = 0 }

abbrev b' : Sym
b' = record { base = 1001; number = 0 }

abbrev plain : ℕ → Event → Posted
plain k event = record { entry = by k event; handed = Handed.Nothing }

abbrev submitted : ℕ → Tree → Posted
submitted id e = record { entry = by 0 (Event.Submit id); handed = Handed.Given (Item.Plain e) (bundle names empty (symbols_of e)) }

begun : List Posted
begun =
    submitted 1 (sym 5) ∷ submitted 2 (sym 6) ∷ record { entry = by 0 (Event.Yield (Wait.All (1 ∷ 2 ∷ []))); handed = Handed.Lent empty }
    ∷ plain 1 (Event.Take 1) ∷ plain 2 (Event.Take 2) ∷ plain 1 (Event.Enter (a' ∷ b' ∷ [])) ∷ []

lost : List Posted
lost = begun ++ plain 1 (Event.Lose Loss.Plan) ∷ []

later : List Posted
later = lost ++ plain 2 (Event.Enter (b' ∷ [])) ∷ plain 2 Event.Leave ∷ plain 2 (Event.Deliver 2 (int 8)) ∷ []

done : List Posted
done = later ++ plain 2 (Event.Take 1) ∷ plain 2 (Event.Deliver 1 (int 7)) ∷ []

-- what may be posted after these
may_follow : List Posted → Posted → Option Core
may_follow ps p = given (replay two ps) (λ c. step two c p)

abbrev refused : List Posted → Posted → Type 0
refused ps p = may_follow ps p ≡ None

-- b is held by kernel 1
second_enter : refused begun (plain 2 (Event.Enter (b' ∷ [])))
unfolding begun may_follow
second_enter = refl

-- a lost kernel takes nothing
lost_take : refused lost (plain 1 (Event.Take 1))
unfolding begun lost may_follow
lost_take = refl

-- item 1 is not done yet
early_resume : refused later (plain 0 Event.Resume)
unfolding begun lost later may_follow
early_resume = refl

-- no item waits
nothing_left : refused done (plain 2 (Event.Take 1))
unfolding begun lost later done may_follow
nothing_left = refl

-- its wait gives the results in the order of ids
given_at_end : given (replay two done) (λ c. Some (wait_reply names c)) ≡ Some (int 7 ∷ int 8 ∷ [])
unfolding begun lost later done
given_at_end = refl

resumes : given (may_follow done (plain 0 Event.Resume)) (λ c. Some (c.finished)) ≡ Some (2 ∷ 1 ∷ [])
unfolding begun lost later done may_follow
resumes = refl

spans : sections 1 done ≡ record { from = 6; until = 7; locks = a' ∷ b' ∷ [] } ∷ record { from = 8; until = 9; locks = b' ∷ [] } ∷ []
unfolding begun lost later done
spans = refl

one_result : results two (start two) done 1 ≡ int 7 ∷ []
unfolding begun lost later done
one_result = refl

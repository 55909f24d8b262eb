-- ReplaceAll and ReplaceRepeated come to an end: each question and each turn leaves fewer.
use Rattle.std.proofs.Common.{◌≡◌, ◌<◌, ℕ, List, [], ◌∷◌, ◌++◌, reverse, Option, Some, None, Result, Ok, Err, refl}
use Rattle.std.specs.Prelude.{pos}
use Rattle.expr_tree.specs.Tree.{Tree, integer, string, symbol, normal, Trees, nil, cons, trees, elements, call}
use Rattle.expr_tree.specs.declared.limits.Limits.{Limits}
use Rattle.semantics.specs.Names.{Names}
use Rattle.semantics.specs.Rule.{Rule}
use Rattle.semantics.specs.Definitions.{Definitions}
use Rattle.semantics.specs.Program.{Prog, Done}
use Rattle.semantics.specs.Replace.{replaced, replaced_items}
use Rattle.evaluation_steps.specs.declared.Halt.{Halt}
use Rattle.machine_steps.specs.declared.moves.Move.{Move}
use Rattle.machine_steps.specs.Steps.{Falls}
use Rattle.rule_frames.specs.declared.attempt.Attempt.{Attempt}
use Rattle.rule_frames.proofs.Falling.{Plain, rules_plain}
use Rattle.machine_rules.specs.declared.level.Level.{Level}
use Rattle.machine_rules.specs.declared.level.Elements.{Elements}
use Rattle.machine_rules.specs.declared.walk.Walk.{Walk}
use Rattle.machine_rules.specs.RowLeft.{asked_all, left_all}
use Rattle.machine_rules.specs.Levels.{with_part, elements_left, risen}
use Rattle.machine_rules.specs.Stepping.{Goes}
use Rattle.machine_rules.specs.Walks as w
use Rattle.machine_rules.proofs.Trying.{attempt_plain, attempt_alike, asks_less, turns_less}

abbrev Plains : Names → (Tree → Prog) → Type 0
Plains names k = (v : Tree) → Plain names (k v)

-- ---- a walk is plain, where what goes on with the whole is

mutual
  replaced_plain : (names : Names) (rs : List Rule) (e : Tree) (k : Tree → Prog) → Plains names k → Plain names (replaced names rs e k)
  replaced_plain names rs (integer n) k plain = rules_plain names rs (integer n) k (k (integer n)) plain (plain (integer n))
  replaced_plain names rs (string t) k plain = rules_plain names rs (string t) k (k (string t)) plain (plain (string t))
  replaced_plain names rs (symbol s) k plain = rules_plain names rs (symbol s) k (k (symbol s)) plain (plain (symbol s))
  replaced_plain names rs (normal h es) k plain =
      rules_plain names rs (normal h es) k (replaced names rs h (λ g. replaced_items names rs es (λ fs. k (normal g fs)))) plain
      (replaced_plain names rs h (λ g. replaced_items names rs es (λ fs. k (normal g fs))) (λ g. items_plain names rs es (λ fs. k (normal g fs)) (λ fs. plain (normal g fs))))

  items_plain : (names : Names) (rs : List Rule) (es : Trees) (k : Trees → Prog) → ((fs : Trees) → Plain names (k fs)) → Plain names (replaced_items names rs es k)
  items_plain names rs nil k plain = plain nil
  items_plain names rs (cons e es) k plain =
      replaced_plain names rs e (λ f. replaced_items names rs es (λ fs. k (cons f fs))) (λ f. items_plain names rs es (λ fs. k (cons f fs)) (λ fs. plain (cons f fs)))

elements_plain : (names : Names) (rs : List Rule) (c : Elements) (k : Tree → Prog) → Plains names k → Plain names (elements_left names rs c k)
elements_plain names rs c k plain = items_plain names rs (trees c.rest) (λ fs. k (call c.head (c.done ++ elements fs))) (λ fs. plain (call c.head (c.done ++ elements fs)))

risen_plain : (names : Names) (rs : List Rule) (ls : List Level) (k : Tree → Prog) → Plains names k → Plains names (risen names rs ls k)
risen_plain names rs [] k plain = plain
risen_plain names rs (l ∷ ls) k plain = λ v. elements_plain names rs (with_part v l) (risen names rs ls k) (risen_plain names rs ls k plain)

entered_plain : (names : Names) (rs : List Rule) (e : Tree) (k : Tree → Prog) → Plains names k → Plain names (w.entered names rs e k)
entered_plain names rs (integer n) k plain = plain (integer n)
entered_plain names rs (string t) k plain = plain (string t)
entered_plain names rs (symbol s) k plain = plain (symbol s)
entered_plain names rs (normal h es) k plain =
    replaced_plain names rs h (λ g. replaced_items names rs es (λ fs. k (normal g fs))) (λ g. items_plain names rs es (λ fs. k (normal g fs)) (λ fs. plain (normal g fs)))

after_plain : (names : Names) (rs : List Rule) (e : Tree) (k : Tree → Prog) → Plains names k → (o : Option Tree) → Plain names (w.after names rs e k o)
after_plain names rs e k plain None = entered_plain names rs e k plain
after_plain names rs e k plain (Some v) = plain v

walk_by_plain : (names : Names) (x : Walk) (p : Option Attempt) (answer : Option Tree) (k : Tree → Prog) → Plains names k → Plain names (w.left_by names x p answer k)
walk_by_plain names x None answer k plain = replaced_plain names x.rules x.place (w.upward names x k) (risen_plain names x.rules (reverse x.levels) k plain)
walk_by_plain names x (Some a) answer k plain =
    attempt_plain names a (w.after names x.rules x.place (w.upward names x k)) (after_plain names x.rules x.place (w.upward names x k) (risen_plain names x.rules (reverse x.levels) k plain)) answer

walk_plain : (names : Names) (x : Walk) (answer : Option Tree) (k : Tree → Prog) → Plains names k → Plain names (w.left_walk names x answer k)
walk_plain names x answer k plain = walk_by_plain names x x.present answer k plain

-- ---- no answer is as one that is not True

walk_alike : (names : Names) (x : Walk) (p : Option Attempt) (k : Tree → Prog) → w.left_by names x p None k ≡ w.left_by names x p (Some (integer (pos 0))) k
walk_alike names x None k = refl
walk_alike names x (Some a) k = attempt_alike names a (w.after names x.rules x.place (w.upward names x k))

all_alike : (names : Names) (x : Walk) → left_all names x None ≡ left_all names x (Some (integer (pos 0)))
all_alike names x = walk_alike names x x.present Done

-- ---- fewer are left

pub all_falls : (names : Names) (d : Definitions) (limits : Limits) (old new : Walk) (answer : Option Tree) (x : Result Move Halt) → Goes names d limits (left_all names old answer) x (left_all names new)
    → Falls x (asked_all names old answer) (asked_all names new)
all_falls names d limits old new answer (Ok (Move.Ask e turn)) g = asks_less (left_all names new) e turn (all_alike names new) g.by (walk_plain names old answer Done (λ v. tt))
all_falls names d limits old new answer (Ok (Move.Within ls e turn)) g = absurd g.by
all_falls names d limits old new answer (Ok (Move.Catch e)) g = absurd g.by
all_falls names d limits old new answer (Ok (Move.Section locks e)) g = absurd g.by
all_falls names d limits old new answer (Ok (Move.Call request)) g = absurd g.by
all_falls names d limits old new answer (Ok Move.Turn) g = turns_less (left_all names new) g.by (walk_plain names old answer Done (λ v. tt))
all_falls names d limits old new answer (Ok (Move.Done e)) g = tt
all_falls names d limits old new answer (Ok Move.Stays) g = tt
all_falls names d limits old new answer (Ok (Move.Throw e)) g = tt
all_falls names d limits old new answer (Ok Move.Quit) g = tt
all_falls names d limits old new answer (Err h) g = tt

-- ---- so are moves that are counted down

pub counted : (x : Result Move Halt) (before after : ℕ) → after < before → Falls x before (λ v. after)
counted (Ok (Move.Ask e turn)) before after less = λ v. less
counted (Ok (Move.Within ls e turn)) before after less = λ v. less
counted (Ok (Move.Catch e)) before after less = λ v. less
counted (Ok (Move.Section locks e)) before after less = λ v. less
counted (Ok (Move.Call request)) before after less = λ v. less
counted (Ok Move.Turn) before after less = λ v. less
counted (Ok (Move.Done e)) before after less = tt
counted (Ok Move.Stays) before after less = tt
counted (Ok (Move.Throw e)) before after less = tt
counted (Ok Move.Quit) before after less = tt
counted (Err h) before after less = tt

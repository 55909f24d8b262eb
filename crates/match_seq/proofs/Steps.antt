-- Goals that are added.
use Rattle.std.proofs.Common.{◌≡◌, ◌≢◌, length, List, [], ◌∷◌, ◌++◌, refl, ◌∙◌}
use Rattle.match_seq.specs.declared.setting.Setting.{Setting}
use Rattle.match_seq.specs.declared.goal.Goal.{Goal}
use Rattle.expr_tree.specs.Tree.{Tree, integer, string, symbol, normal, trees}
use Rattle.expr_tree.proofs.Callers.{tree_steps}
use Rattle.semantics.specs.Match.{Found, Matching, how_of}
use Rattle.match_seq.specs.declared.constructs.Constructs.{Constructs}
use Rattle.match_seq.specs.Search.{Next, Finder, Part, find_normal, find_items, parts, step, dead}
use Rattle.match_seq.specs.declared.goal.Goal.TheVariants as goal
use Rattle.match_seq.specs.Goals.{reach, goals, told}
use Rattle.expr_tree.proofs.Trees.{elements-trees}

pub goals-push : (setting : Setting) (gs : List Goal) (g : Goal) (next : Next) → goals setting (gs ++ g ∷ []) next ≡ reach setting g (goals setting gs next)
goals-push setting [] g next = refl
goals-push setting (h ∷ gs) g next = goals-push setting gs g (reach setting h next)

pub ruleset goal_steps = (goals-push)

-- a whole level is filled
pub fill-whole : (setting : Setting) (q p h : Tree) (items es fs : List Tree) (next : Next) → q ≡ p → p ≡ normal h (trees items) → fs ≡ es → reach setting (goal.Fill (record { pattern = q; at = 0 }) fs) next ≡ find_items setting.constructs (how_of (told setting.hows) h) h (parts setting.constructs (told setting.hows) (trees items)) es next
fill-whole setting q p h items es fs next same is also =
    rw (same ∙ is, also) (λ i. find_items setting.constructs (how_of (told setting.hows) h) h (parts setting.constructs (told setting.hows) (trees (elements-trees items i))) es next)

-- a run of other than one element is no normal expression
pub normal-not_one : (cs : Constructs) (how : Matching) (h : Tree) (head : Finder) (ps : List Part) (run : List Tree) (next : Next) (found : Found) → length run ≢ 1 → find_normal cs how h head ps run next found ≡ step dead
normal-not_one cs how h head ps [] next found other = refl
normal-not_one cs how h head ps (e ∷ []) next found other = absurd (other refl)
normal-not_one cs how h head ps (integer n ∷ g ∷ run) next found other = refl
normal-not_one cs how h head ps (string t ∷ g ∷ run) next found other = refl
normal-not_one cs how h head ps (symbol s ∷ g ∷ run) next found other = refl
normal-not_one cs how h head ps (normal k es ∷ g ∷ run) next found other = refl

pub ruleset form_steps = (goals-push, tree_steps, normal-not_one)

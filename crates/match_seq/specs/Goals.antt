-- The searches that goals stand for.
--     guard_of, found_of    a guard and a binding, as definitions have them
--     told                  what the heads of patterns are
--     reach                 the search of a goal, which goes on with `next`
--     goals                 the search of several goals, the last one first
--     branch, after         the search of a branch; of what one step leads to
--     left, work            the answers of a stack of branches, the last one first; the steps to them
use Rattle.std.specs.Prelude.{ℕ, ◌+◌, ◌-◌, List, [], ◌∷◌, ◌++◌, map, take, drop, false, Option, Some, None, if◌then◌else◌}
use Rattle.expr_tree.specs.declared.sym.Sym.{Sym}
use Rattle.expr_tree.specs.Same.{symbol_eq}
use Rattle.expr_tree.specs.Tree.{Tree, normal, trees}
use Rattle.semantics.specs.Names.{items_of}
use Rattle.semantics.specs.Match as match
use Rattle.semantics.specs.Match.{Matching, how_of, nothing_found, guarded}
use Rattle.match_seq.specs.declared.found.Guard.{Guard}
use Rattle.match_seq.specs.declared.found.Guard.TheVariants as guard
use Rattle.match_seq.specs.declared.found.Found.{Found}
use Rattle.match_seq.specs.declared.setting.How.{How}
use Rattle.match_seq.specs.declared.setting.Setting.{Setting}
use Rattle.match_seq.specs.declared.goal.Level.{Level}
use Rattle.match_seq.specs.declared.goal.Goal.{Goal}
use Rattle.match_seq.specs.declared.goal.Goal.TheVariants as goal
use Rattle.match_seq.specs.declared.goal.Branch.{Branch}
use Rattle.match_seq.specs.declared.goal.Turn.{Turn}
use Rattle.match_seq.specs.declared.goal.Turn.TheVariants as turn
use Rattle.match_seq.specs.Search.{Search, dead, answer, step, fork, answers, steps, Next, Use, Part, Finder, wraps, find, parts, find_items, find_first, find_any, find_runs, find_sizes, find_choices}

abbrev pub guard_of : Guard → match.Guard
guard_of (guard.Test t x) = match.Test t x
guard_of (guard.Cond c) = match.Cond c

abbrev pub found_of : Found → match.Found
found_of f = record { binding = f.bindings; guards = map guard_of f.guards }

abbrev pub matching_of : How → Matching
matching_of how = record { flat = how.flat; orderless = how.orderless }

-- the first that is told of a symbol
abbrev pub told : List (Sym × How) → Sym → Matching
told [] s = record { flat = false; orderless = false }
told (x ∷ xs) s = if symbol_eq x.0 s then matching_of x.1 else told xs s

abbrev pub head_in : Tree → Tree
head_in (normal h ps) = h
head_in e = e

abbrev pub find_pattern : Setting → Tree → Finder
find_pattern setting = find setting.constructs (told setting.hows)

-- the element patterns of a level
abbrev pub level_parts : Setting → Level → List Part
level_parts setting level = parts setting.constructs (told setting.hows) (trees (drop level.at (items_of level.pattern)))

abbrev pub how_in : Setting → Tree → Matching
how_in setting pattern = how_of (told setting.hows) (head_in pattern)

abbrev pub fill : Setting → Tree → List Part → Finder
fill setting pattern = find_items setting.constructs (how_in setting pattern) (head_in pattern)

-- what the first element pattern does with a run
abbrev pub use_first : Setting → Tree → List Part → Next → match.Found → Use
use_first setting pattern [] next found run left = dead
use_first setting pattern (p ∷ ps) next found run left =
    find_first (wraps setting.constructs (how_in setting pattern) p.tree) (head_in pattern) p (fill setting pattern ps) next found run left

abbrev pub use_level : Setting → Level → Next → match.Found → Use
use_level setting level = use_first setting level.pattern (level_parts setting level)

abbrev pub reach : Setting → Goal → Next → Next
reach setting (goal.Take p run) next found = find_pattern setting p run next found
reach setting (goal.Fill level es) next found = fill setting level.pattern (level_parts setting level) es next found
reach setting (goal.Runs level n end es) next found = find_runs (use_level setting level next found) (end - n) (take n es) (drop n es)
reach setting (goal.Sizes level size end es) next found = find_sizes (use_level setting level next found) size (end - size) es
reach setting (goal.Choose level n c) next found =
    find_choices (use_level setting level next found) n c.taken c.left (drop c.at c.elements)
reach setting (goal.OneOf level run) next found = find_any (level_parts setting level) run next found
reach setting (goal.Guarded guards) next found = step (next (guarded (map guard_of guards) found))

abbrev pub goals : Setting → List Goal → Next → Next
goals setting [] next = next
goals setting (g ∷ gs) next = goals setting gs (reach setting g next)

-- what a branch does with what was found
abbrev pub rest : Setting → Branch → Next
rest setting b = goals setting b.goals answer

abbrev pub branch : Setting → Branch → Search
branch setting b = rest setting b (found_of b.found)

abbrev pub branch_or_dead : Setting → Option Branch → Search
branch_or_dead setting None = dead
branch_or_dead setting (Some b) = branch setting b

abbrev pub after : Setting → Turn → Search
after setting (turn.One b) = step (branch_or_dead setting b)
after setting (turn.Two b c) = fork (branch_or_dead setting b) (branch setting c)

abbrev pub left : Setting → List Branch → List match.Found
left setting [] = []
left setting (b ∷ bs) = left setting bs ++ answers (branch setting b)

abbrev pub work : Setting → List Branch → ℕ
work setting [] = 0
work setting (b ∷ bs) = work setting bs + steps (branch setting b)

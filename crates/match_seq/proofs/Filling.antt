-- The first pattern of a level takes a number of elements within its window.
use Rattle.std.proofs.Common.{◌≡◌, ℕ, List, length, drop, ap, sym, ◌∙◌}
use Rattle.expr_tree.specs.Tree.{Tree, Trees, trees, cons}
use Rattle.semantics.specs.Names.{items_of}
use Rattle.semantics.specs.Match.{Found, Matching}
use Rattle.match_seq.specs.declared.setting.Setting.{Setting}
use Rattle.match_seq.specs.declared.goal.Level.{Level}
use Rattle.match_seq.specs.declared.goal.Goal.TheVariants as goal
use Rattle.match_seq.specs.Search.{Next, step, find_within, least_size, greatest_size, parts}
use Rattle.match_seq.specs.Goals.{told, how_in, use_first, use_level, fill, reach}
use Rattle.match_seq.proofs.Extents.{trees_of-parts}

fill-first : (setting : Setting) (q p : Tree) (rest all : Trees) (es : List Tree) (least greatest : ℕ) (next : Next) (found : Found) → all ≡ cons p rest → least ≡ least_size setting.constructs (how_in setting q) p rest (length es) → greatest ≡ greatest_size setting.constructs (how_in setting q) p rest (length es) → step (find_within (how_in setting q).orderless least greatest (use_first setting q (parts setting.constructs (told setting.hows) all) next found) es) ≡ fill setting q (parts setting.constructs (told setting.hows) all) es next found
fill-first setting q p rest all es least greatest next found e low high =
    let cs = setting.constructs in
    (λ i. step (find_within (how_in setting q).orderless (low i) (high i) (use_first setting q (parts cs (told setting.hows) (e i)) next found) es))
    ∙ ((λ i. step (find_within (how_in setting q).orderless (least_size cs (how_in setting q) p (sym (trees_of-parts cs (told setting.hows) rest) i) (length es)) (greatest_size cs (how_in setting q) p (sym (trees_of-parts cs (told setting.hows) rest) i) (length es)) (use_first setting q (parts cs (told setting.hows) (cons p rest)) next found) es))
    ∙ (λ i. fill setting q (parts cs (told setting.hows) (sym e i)) es next found))

pub fill-within : (setting : Setting) (level : Level) (p : Tree) (items ps es : List Tree) (how : Matching) (from n least greatest : ℕ) (next : Next) (found : Found) → trees (drop level.at items) ≡ cons p (trees (drop from items)) → least ≡ least_size setting.constructs how p (trees (drop from ps)) n → greatest ≡ greatest_size setting.constructs how p (trees (drop from ps)) n → how ≡ how_in setting level.pattern → items_of level.pattern ≡ items → ps ≡ items → n ≡ length es → step (find_within (how_in setting level.pattern).orderless least greatest (use_level setting level next found) es) ≡ reach setting (goal.Fill level es) next found
fill-within setting level p items ps es how from n least greatest next found first low high same here slice size =
    fill-first setting level.pattern p (trees (drop from items)) (trees (drop level.at (items_of level.pattern))) es least greatest next found
    (ap (λ xs. trees (drop level.at xs)) here ∙ first)
    (low ∙ (λ i. least_size setting.constructs (same i) p (trees (drop from (slice i))) (size i)))
    (high ∙ (λ i. greatest_size setting.constructs (same i) p (trees (drop from (slice i))) (size i)))

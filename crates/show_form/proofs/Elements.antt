-- One element more.
use Rattle.std.proofs.Common.{◌≡◌, refl, ap, ◌∙◌, ℕ, ◌+◌, ◌<◌, Bool, true, false, cond, List, [], ◌∷◌, ◌++◌, length, get_or, drop, arith, ne_eqb}
use Rattle.std.specs.Prelude.{◌==◌}
use Rattle.expr_tree.specs.Tree.{Tree, trees, nil}
use Rattle.expr_tree.proofs.Trees.{trees-drop}
use Rattle.script_text.specs.Spelling.{Spelling}
use Rattle.script_text.specs.Full.{full, full_items, full_others}
use Rattle.show_form.specs.Parts.{comma, items_from}

pub items_end : (spelling : Spelling) (i : ℕ) → items_from spelling i nil ≡ []
items_end spelling i = go (i == 0)
  where
    go : (b : Bool) → cond b (full_items spelling nil) (full_others spelling nil) ≡ []
    go true = refl
    go false = refl

pub items_step : (spelling : Spelling) (i : ℕ) (items : List Tree) (t : Tree) → i < length items → t ≡ get_or items i t
    → items_from spelling i (trees (drop i items)) ≡ comma i ++ full spelling t ++ items_from spelling (i + 1) (trees (drop (i + 1) items))
items_step spelling i items t h is =
    let z : (i + 1 == 0) ≡ false = ne_eqb (i + 1) 0 (omega arith) in
    ap (λ es. items_from spelling i es) (trees-drop items i t h is) ∙ rw z (go (i == 0))
  where
    rest : List ℕ
    rest = full_others spelling (trees (drop (i + 1) items))

    go : (b : Bool) → cond b (full spelling t ++ rest) (44 ∷ 32 ∷ full spelling t ++ rest) ≡ cond b [] (44 ∷ 32 ∷ []) ++ full spelling t ++ rest
    go true = refl
    go false = refl

pub ruleset part_steps = (items_end, items_step)

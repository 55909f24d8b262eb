use Rattle.std.proofs.Common.{arith, get_or, length, List, ℕ, [], ◌∷◌, ◌≡◌, ◌<◌}
use Rattle.std.proofs.lemmas.Str.{IsCharBoundary-after_ascii}
use Rattle.read_form.proofs.leaves.string_leaf.Goals as goal

some_first : (w : List ℕ) → get_or w 0 0 ≡ 34 → 0 < length w
some_first [] e = absurd (omega arith)
some_first (c ∷ cs) e = omega arith

pub range_from-requires : goal.range_from-requires
range_from-requires c = λ _. IsCharBoundary-after_ascii c.args.word.now 0 c.utf8.word (some_first c.args.word.now c.requires) (omega (arith, c.requires))

-- What a source tells of the heads of a pattern is what their definitions say.
use Rattle.std.proofs.Common.{◌≡◌, List, [], ◌∷◌, map, Bool, true, false, refl, ap, sym, ◌∙◌, if◌then◌else◌}
use Rattle.std.proofs.Math.Path.{fun_ext}
use Rattle.expr_tree.specs.declared.sym.Sym.{Sym}
use Rattle.expr_tree.specs.declared.attrs.Attrs.{Attrs}
use Rattle.expr_tree.specs.Same.{symbol_eq}
use Rattle.expr_tree.specs.Tree.{Tree}
use Rattle.semantics.specs.Names.{Names}
use Rattle.semantics.specs.Match.{Matching, Found, matches, heads}
use Rattle.semantics.specs.Attempt.{told}
use Rattle.semantics.specs.Definitions.{Definitions, definition_of}
use Rattle.match_seq.specs.Heads.{matching}
use Rattle.rule_frames.specs.Reading.{Tells, matching_in}
use Rattle.rule_frames.specs.Told.{attrs_in, told_of}

told_is : (names : Names) (d : Definitions) (A : Sym → Attrs) (ss : List Sym) (s : Sym) → Tells names d A → told (map (λ t. (t, definition_of names d t)) ss) s ≡ matching (attrs_in (told_of A ss) s)
told_is names d A [] s tells = refl
told_is names d A (t ∷ ss) s tells = by_test (symbol_eq t s) (told_is names d A ss s tells)
  where
    by_test : (b : Bool) → told (map (λ t. (t, definition_of names d t)) ss) s ≡ matching (attrs_in (told_of A ss) s) →
        (elim b as (λ _. Matching) [ true ↦ matching_in (definition_of names d t).attributes | false ↦ told (map (λ t. (t, definition_of names d t)) ss) s ]) ≡ matching (if b then A t else attrs_in (told_of A ss) s)
    by_test true later = sym (tells.by t)
    by_test false later = later

pub matches_told : (names : Names) (d : Definitions) (A : Sym → Attrs) (p e : Tree) (found : List Found) → Tells names d A
    → found ≡ matches names (λ s. matching (attrs_in (told_of A (heads names p)) s)) p e → found ≡ matches names (told (map (λ t. (t, definition_of names d t)) (heads names p))) p e
matches_told names d A p e found tells is = is ∙ ap (λ B. matches names B p e) (fun_ext (λ s. sym (told_is names d A (heads names p) s tells)))

-- The row of a name, and of a symbol.
use Rattle.std.proofs.Common.{◌≡◌, refl, ap, ℕ, zero, suc, true, false, List, [], ◌∷◌}
use Rattle.std.specs.Prelude.{◌==◌, None}
use Rattle.expr_tree.specs.declared.sym.Sym.{Sym}
use Rattle.script_text.specs.Spelling.{by_texts}
use Rattle.semantics.specs.Builtin.{rows}
use Rattle.semantics.specs.Texts.{row_with, row_at, names_of}
use Rattle.syntax.specs.Shapes as s
use Rattle.input_form.specs.declared.value.Asked.TheVariants as ask
use Rattle.input_form.specs.Rows.{named_shape, shapes, named_asked, asked, asked_by}

pub shapes_are : (texts : List (List ℕ)) → shapes texts ≡ s.shape_in (names_of texts)
unfolding shapes
shapes_are texts = refl

-- a base that is not kept has the empty text, which is that of no row
pub row_here : (texts : List (List ℕ)) (b : ℕ) → row_at texts b ≡ row_with rows (by_texts texts b)
row_here [] b = refl
row_here (t ∷ ts) zero = refl
row_here (t ∷ ts) (suc b) = row_here ts b

pub shape_plain : (texts : List (List ℕ)) (x : Sym) → x.number ≡ 0 → shapes texts x ≡ named_shape (by_texts texts x.base)
unfolding shapes named_shape
shape_plain texts x n = rw (n, row_here texts x.base) refl

pub shape_generated : (texts : List (List ℕ)) (x : Sym) → (x.number == 0) ≡ false → shapes texts x ≡ s.Other
unfolding shapes
shape_generated texts x n = ap (λ b. s.shape_by (elim b [ true ↦ row_at texts x.base | false ↦ None ])) n

pub asked_plain : (texts : List (List ℕ)) (x : Sym) → x.number ≡ 0 → asked texts x ≡ named_asked (by_texts texts x.base)
unfolding asked named_asked
asked_plain texts x n = rw (n, row_here texts x.base) refl

pub asked_generated : (texts : List (List ℕ)) (x : Sym) → (x.number == 0) ≡ false → asked texts x ≡ ask.Neither
unfolding asked
asked_generated texts x n = ap (λ b. asked_by (elim b [ true ↦ row_at texts x.base | false ↦ None ])) n

pub ruleset row_steps = (shape_plain, shape_generated, asked_plain, asked_generated)

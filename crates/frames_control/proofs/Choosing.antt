-- The programs of the forms that choose, by their heads.
use Rattle.std.proofs.Common.{◌≡◌, ◌∙◌, refl, ap, ◌%◌, length, List, [], ◌∷◌, Option, Some, None, Ok, Bool, true, false, arith}
use Rattle.std.proofs.Math.Path.{fun_ext}
use Rattle.std.specs.Prelude.{reverse}
use Rattle.expr_tree.specs.Tree.{Tree}
use Rattle.semantics.specs.declared.builtin.Builtin.{Builtin}
use Rattle.semantics.specs.Names.{Names, is_name, make}
use Rattle.semantics.specs.Program.{Prog, Done, Ask}
use Rattle.expr_tree.specs.declared.limits.Limits.{Limits}
use Rattle.semantics.specs.Control.{in_turn, is_paired, by_truth, first_true, which, connected}
use Rattle.evaluation_steps.specs.Moves.{Moved, Asks}
use Rattle.frames_control.specs.declared.in_turn.InTurn.{InTurn}
use Rattle.frames_control.specs.declared.connected.Connected.{Connected}
use Rattle.frames_control.specs.Choices.{left_in_turn, left_connected, connects, ending_of, going_of, tested}
use Rattle.frames_control.proofs.Shown.{shown}

differ : false ≡ true → ⊥
differ e = cc

-- with an item what stays does not matter
same_items : (s t : Prog) (e : Tree) (es : List Tree) → in_turn s (e ∷ es) ≡ in_turn t (e ∷ es)
same_items s t e [] = refl
same_items s t e (f ∷ es) = ap (Ask e) (fun_ext (λ v. same_items s t f es))

-- an item is asked for, and then the rest, with its value where nothing is left
pub in_turn_asks : (s : Prog) (e : Tree) (es : List Tree) → in_turn s (e ∷ es) ≡ Ask e (λ v. in_turn (Done v) es)
in_turn_asks s e [] = refl
in_turn_asks s e (f ∷ es) = ap (Ask e) (fun_ext (λ v. same_items s (Done v) f es))

pub item_asked : (names : Names) (f : InTurn) (answer : Option Tree) {e : Tree} {es : List Tree} {limits : Limits} → f.rest ≡ e ∷ es →
    Moved limits (left_in_turn names f answer) (Ok (Asks e false)) (left_in_turn names (record { rest = es }))
item_asked names f None h = shown (rw h (in_turn_asks _ _ _))
item_asked names f (Some v) h = shown (rw h (in_turn_asks _ _ _))

-- a test that is not the last is asked for
pub test_asked : (names : Names) (c : Tree) (es : List Tree) → (es ≡ [] → false ≡ true) → first_true names (c ∷ es) ≡ Ask c (λ v. tested names v es)
test_asked names c [] h = absurd (differ (h refl))
test_asked names c (e ∷ es) h = refl

pub in_turn_any : (s t : Prog) (es : List Tree) → (es ≡ [] → ⊥) → in_turn s es ≡ in_turn t es
in_turn_any s t [] h = absurd (h refl)
in_turn_any s t (e ∷ es) h = same_items s t e es

pub odd_count : (es : List Tree) → length es % 2 ≡ 1 → is_paired es ≡ false
odd_count [] h = absurd (omega arith)
odd_count (c ∷ []) h = refl
odd_count (c ∷ e ∷ es) h = odd_count es (omega arith)

pub even_count : (es : List Tree) → (length es % 2 ≡ 1 → ⊥) → is_paired es ≡ true
even_count [] h = refl
even_count (c ∷ []) h = absurd (h refl)
even_count (c ∷ e ∷ es) h = even_count es (λ k. h (omega arith))

-- more than one value is kept
pub several_kept : (names : Names) (row going ending : Builtin) (e : Tree) (kept : List Tree) → (kept ≡ [] → false ≡ true) →
    connected names row going ending [] (e ∷ kept) ≡ Done (make names row (reverse (e ∷ kept)))
several_kept names row going ending e [] h = absurd (differ (h refl))
several_kept names row going ending e (f ∷ kept) h = refl

pub which_odd : (names : Names) (stay : Prog) (es : List Tree) → is_paired es ≡ false → which names stay es ≡ stay
which_odd names stay es h = ap (λ (b : Bool). elim b as (λ _. Prog) [ true ↦ first_true names es | false ↦ stay ]) h

pub which_even : (names : Names) (stay : Prog) (es : List Tree) → is_paired es ≡ true → which names stay es ≡ first_true names es
which_even names stay es h = ap (λ (b : Bool). elim b as (λ _. Prog) [ true ↦ first_true names es | false ↦ stay ]) h

pub truth_holds : (names : Names) (v : Tree) (p q r : Prog) → is_name names Builtin.True v ≡ true → by_truth names v p q r ≡ p
truth_holds names v p q r h =
    ap (λ (b : Bool). elim b as (λ _. Prog) [ true ↦ p | false ↦ elim (is_name names Builtin.False v) as (λ _. Prog) [ true ↦ q | false ↦ r ] ]) h

pub truth_unknown : (names : Names) (v : Tree) (p q r : Prog) → is_name names Builtin.True v ≡ false → is_name names Builtin.False v ≡ false → by_truth names v p q r ≡ r
truth_unknown names v p q r h k =
    ap (λ (b : Bool). elim b as (λ _. Prog) [ true ↦ p | false ↦ elim (is_name names Builtin.False v) as (λ _. Prog) [ true ↦ q | false ↦ r ] ]) h
    ∙ ap (λ (b : Bool). elim b as (λ _. Prog) [ true ↦ q | false ↦ r ]) k

pub decided : (names : Names) (f : Connected) (v : Tree) → is_name names (ending_of f.connective) v ≡ true → left_connected names f (Some v) ≡ Done v
decided names f v h =
    ap
    (λ (b : Bool). elim b as (λ _. Prog) [
      | true ↦ Done v
      | false ↦ elim (is_name names (going_of f.connective) v) as (λ _. Prog) [
        | true ↦ connects names f.connective f.rest f.kept
        | false ↦ connects names f.connective f.rest (v ∷ f.kept)
      ]
    ])
    h

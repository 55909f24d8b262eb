-- The left side of an assignment, from what its parts tell.
use Rattle.std.proofs.Common.{◌≡◌, ◌∙◌, refl, sym, ap, ℕ, ◌≤◌, Bool, true, false, List, [], ◌∷◌, ◌++◌, Option, Result, Ok, Err, arith, true≢false}
use Rattle.expr_tree.specs.Tree.{Tree, integer, string, symbol, normal}
use Rattle.semantics.specs.Names.{Names}
use Rattle.semantics.specs.Assemble.{left_side, ask_items, ask_rest, attributes_of}
use Rattle.semantics.specs.Definitions.{Attributes, Definitions}
use Rattle.semantics.specs.Program.{Prog, Ask}
use Rattle.semantics.specs.Play.{Setting}
use Rattle.evaluation_steps.specs.declared.Halt.{Halt}
use Rattle.machine_steps.specs.declared.moves.Move.{Move}
use Rattle.machine_steps.specs.Steps.{Falls, state_at}
use Rattle.machine_changes.specs.Effects.{Evaluates}
use Rattle.builtin_names.specs.Attributes.{attributes_in}
use Rattle.expr_tree.specs.declared.attrs.Attrs.{Attrs}
use Rattle.machine_changes.specs.declared.assignment.Assignment.{Assignment}
use Rattle.machine_changes.specs.declared.assignment.Phase.{Phase}
use Rattle.machine_changes.specs.declared.elements.Elements.{Elements}
use Rattle.machine_changes.specs.declared.left_call.LeftSide.{LeftSide}
use Rattle.machine_changes.specs.Assigning.{assembled, attributes_of_head, gone_on, headed_by, left_assignment, left_phase}
use Rattle.machine_changes.proofs.Going.{Leads, onward, same_program}

pub evaluated_goes : {set : Setting} {p : (Tree → Prog) → Prog} {l : Tree} (k : Tree → Prog) {d : Definitions} {used : Bool} → Evaluates set p (Ok (LeftSide.Whole l)) → Leads set (p k) d used (k l) d used
evaluated_goes k {d = d} {used = used} h = record { by = λ ev steps o. h.by k ev (state_at d used steps o) }

pub large_goes : {set : Setting} {p : (Tree → Prog) → Prog} {e : Tree} (k : Tree → Prog) {d : Definitions} {used : Bool} (h : Evaluates set p (Ok (LeftSide.Large e))) → Leads set (p k) d used (k h.by.0) d used
large_goes k {d = d} {used = used} h = record { by = λ ev steps o. h.by.2 k ev (state_at d used steps o) }

-- ---- the attributes of the head

pub attributes_seen : (set : Setting) (head : Tree) (k : Attributes → Prog) {d : Definitions} {used : Bool} → Leads set (attributes_of head k) d used (k (attributes_of_head set.names d head)) d used
attributes_seen set (integer n) k = record { by = λ ev steps o. refl }
attributes_seen set (string t) k = record { by = λ ev steps o. refl }
attributes_seen set (symbol s) k = record { by = λ ev steps o. refl }
attributes_seen set (normal h es) k = record { by = λ ev steps o. refl }

-- ---- from one phase to the next

pub head_asks : (set : Setting) (head : Tree) (items : List Tree) (a : Attributes) (k : Tree → Prog) (q : Prog) {d : Definitions} {used : Bool} → a ≡ attributes_of_head set.names d head
    → ask_items set.names a items (assembled set.names head a k) ≡ q → Leads set (headed_by set.names head items k) d used q d used
head_asks set head items a k q e h =
    onward {set = set} (attributes_seen set head (λ b. ask_items set.names b items (assembled set.names head b k)))
    (same_program {set = set} (ap (λ b. ask_items set.names b items (assembled set.names head b k)) (sym e) ∙ h))

pub falls_within : (r : Result Move Halt) (a b : ℕ) (after : Option Tree → ℕ) → a ≤ b → Falls r a after → Falls r b after
falls_within (Ok (Move.Ask e turn)) a b after h f = λ v. omega (arith, h, f v)
falls_within (Ok (Move.Within ls e turn)) a b after h f = λ v. omega (arith, h, f v)
falls_within (Ok (Move.Catch e)) a b after h f = λ v. omega (arith, h, f v)
falls_within (Ok (Move.Section locks e)) a b after h f = λ v. omega (arith, h, f v)
falls_within (Ok (Move.Call request)) a b after h f = λ v. omega (arith, h, f v)
falls_within (Ok Move.Turn) a b after h f = λ v. omega (arith, h, f v)
falls_within (Ok (Move.Done e)) a b after h f = tt
falls_within (Ok Move.Stays) a b after h f = tt
falls_within (Ok (Move.Throw e)) a b after h f = tt
falls_within (Ok Move.Quit) a b after h f = tt
falls_within (Err x) a b after h f = tt

abbrev pub is_atom : Tree → Bool
is_atom (normal h es) = false
is_atom _ = true

pub atom_stays : (names : Names) (l : Tree) (k : Tree → Prog) → is_atom l ≡ true → left_side names l k ≡ k l
atom_stays names (integer n) k h = refl
atom_stays names (string t) k h = refl
atom_stays names (symbol s) k h = refl
atom_stays names (normal h es) k e = absurd (true≢false (sym e))

pub phase_is : {set : Setting} (f : Assignment) (phase : Phase) (answer given : Option Tree) {d : Definitions} {used : Bool} → phase ≡ f.phase → answer ≡ given
    → Leads set (left_assignment set.names f answer) d used (left_phase set.names f.goal phase given) d used
phase_is {set = set} f phase answer given e h =
    same_program {set = set} (ap (λ p. left_phase set.names f.goal p answer) (sym e) ∙ ap (λ o. left_phase set.names f.goal phase o) h)

pub items_asked : (names : Names) (e : Elements) (head : Tree) (attrs : Attrs) (k : Tree → Prog) (item : Tree) {p : Prog} → e.head ≡ head → e.attrs ≡ attrs
    → p ≡ Ask item (λ v. ask_rest names (attributes_in attrs) e.rest (e.done ++ v ∷ []) (assembled names head (attributes_in attrs) k))
    → p ≡ Ask item (λ v. gone_on names e k (e.done ++ v ∷ []))
items_asked names e head attrs k item h a is =
    is
    ∙ ap (λ x. Ask item (λ v. ask_rest names (attributes_in x) e.rest (e.done ++ v ∷ []) (assembled names head (attributes_in x) k))) (sym a)
    ∙ ap (λ x. Ask item (λ v. ask_rest names (attributes_in e.attrs) e.rest (e.done ++ v ∷ []) (assembled names x (attributes_in e.attrs) k))) (sym h)

pub items_done : (names : Names) (e : Elements) (head : Tree) (attrs : Attrs) (k : Tree → Prog) {p : Prog} → e.head ≡ head → e.attrs ≡ attrs
    → p ≡ assembled names head (attributes_in attrs) k e.done → p ≡ assembled names e.head (attributes_in e.attrs) k e.done
items_done names e head attrs k h a is =
    is ∙ ap (λ x. assembled names head (attributes_in x) k e.done) (sym a) ∙ ap (λ x. assembled names x (attributes_in e.attrs) k e.done) (sym h)

-- Putting in place, and the slots of pure functions.
--     binders               the symbols that putting in place looks for, of these names
--     put_in_place          an expression with the runs of a binding put in
--     fill_slots            an expression with the arguments of a pure function put in for its slots
use Rattle.std.specs.Prelude.{ℕ, zero, suc, pos, List, [], ◌∷◌, length, drop, Bool, true, false, ◌||◌, ltb, Option, Some, None}
use Rattle.expr_tree.specs.Substitution as substitution
use Rattle.expr_tree.specs.Substitution.{Binding}
use Rattle.expr_tree.specs.declared.binders.Binders.{Binders}
use Rattle.expr_tree.specs.Tree.{Tree, integer, string, symbol, normal, Trees, nil, cons}
use Rattle.semantics.specs.declared.builtin.Builtin.{Builtin}
use Rattle.semantics.specs.Names.{Names, known, is_call, is_name, items_of}

abbrev pub binders : Names → Binders
binders names = record {
  «module» = known names Builtin.Module;
  with = known names Builtin.With;
  function = known names Builtin.Function;
  list = known names Builtin.List;
  set = known names Builtin.Set;
  sequence = known names Builtin.Sequence;
}

abbrev pub put_in_place : Names → Binding → Tree → Tree
put_in_place names = substitution.put_in_place (binders names)

-- a run as one expression: a run of one stands for its element, another run for Sequence of it
abbrev pub as_one : Names → List Tree → Tree
as_one names = substitution.as_one (known names Builtin.Sequence)

-- the n-th of a list, from 1
abbrev pub nth : List Tree → ℕ → Option Tree
nth [] n = None
nth (e ∷ es) zero = None
nth (e ∷ es) (suc zero) = Some e
nth (e ∷ es) (suc (suc n)) = nth es (suc n)

-- n where the items are one integer n above 0
abbrev pub slot_number : List Tree → Option ℕ
slot_number (integer (pos (suc n)) ∷ []) = Some n
slot_number _ = None

-- #n is the n-th argument; ##n the sequence from the n-th on, which for one argument is that argument. A slot without an n-th argument stays
abbrev pub filled : Names → List Tree → Tree → ℕ → Tree
filled names args e n =
    elim (is_call names Builtin.Slot e) [
      | true ↦ elim (nth args (suc n)) [ None ↦ e | Some x ↦ x ]
      | false ↦ elim (ltb n (length args)) [ true ↦ as_one names (drop n args) | false ↦ e ]
    ]

-- the number of a slot, Slot[n] or SlotSequence[n]; another shape is no slot
abbrev pub slot_of : Names → Tree → Option ℕ
slot_of names e = elim (is_call names Builtin.Slot e || is_call names Builtin.SlotSequence e) [ true ↦ slot_number (items_of e) | false ↦ None ]

-- slots are not put into an inner Function of one argument
abbrev pub is_pure_function : Names → Tree → Trees → Bool
is_pure_function names h (cons e nil) = is_name names Builtin.Function h
is_pure_function names h _ = false

abbrev mutual
  pub fill_slots : Names → List Tree → Tree → Tree
  fill_slots names args (integer n) = integer n
  fill_slots names args (string t) = string t
  fill_slots names args (symbol s) = symbol s
  fill_slots names args (normal h es) =
      elim (slot_of names (normal h es)) [
        | Some n ↦ filled names args (normal h es) n
        | None ↦ elim (is_pure_function names h es) [
          | true ↦ normal h es
          | false ↦ normal (fill_slots names args h) (fill_in_items names args es)
        ]
      ]

  pub fill_in_items : Names → List Tree → Trees → Trees
  fill_in_items names args nil = nil
  fill_in_items names args (cons e es) = cons (fill_slots names args e) (fill_in_items names args es)

-- The limits: where an evaluation stops, and why.
use Rattle.std.proofs.Common.{◌≡◌, refl, ℕ, zero, suc, [], ◌∷◌}
use Rattle.expr_tree.specs.declared.limits.Limits.{Limits}
use Rattle.expr_tree.specs.declared.limits.Stop.{Stop}
use Rattle.expr_tree.specs.Tree.{Tree}
use Rattle.semantics.specs.declared.builtin.Builtin.{Builtin}
use Rattle.semantics.specs.Definitions.{empty}
use Rattle.semantics.specs.Eval.{eval}
use Rattle.semantics.specs.Table.{row, worked}
use Rattle.semantics.specs.Match.{matches}
use Rattle.worked_rows.specs.Sample.{apply, blank, cells, cells_in, condition, delayed, f', h', in_cell, int, null, numbers, of, plus, r', replacing, rule, stopped, symbol_of_row, usual, value, x'}

-- f[f[..[e]..]], so many times
nested : ℕ → Tree → Tree → Tree
nested zero f e = e
nested (suc n) f e = apply f (nested n f e)

few : Limits
few = record { recursion = 12; iteration = 40; steps = 1000000; size = 60; depth = 20 }

in_steps : ℕ → Limits
in_steps n = record { recursion = 256; iteration = 4096; steps = n; size = 4000000; depth = 512 }

-- h[x_] := h[x + 1]; h[0]; r[x_] := 1 + r[x]; r[0], with 40 passes and 12 nested evaluations
passes_and_nested_evaluations_end :
    cells_in few (
    delayed (apply h' (blank x')) (apply h' (plus x' (int 1)))
    ∷ apply h' (int 0)
    ∷ delayed (apply r' (blank x')) (plus (int 1) (apply r' x'))
    ∷ apply r' (int 0) ∷ [])
    ≡ null ∷ stopped Stop.Iteration ∷ null ∷ stopped Stop.Recursion ∷ []
unfolding few eval row worked matches
passes_and_nested_evaluations_end = refl

-- 11 nested f[..] round x are given back where 12 evaluations may be nested, 12 are not
the_last_nested_evaluation : cells_in few (nested 11 f' x' ∷ nested 12 f' x' ∷ []) ≡ value (nested 11 f' x') ∷ stopped Stop.Recursion ∷ []
unfolding few nested eval
the_last_nested_evaluation = refl

-- 255 nested f[..] round x are given back under the usual limits, 256 are one evaluation too deep
the_last_of_256 : cells (nested 255 f' x' ∷ nested 256 f' x' ∷ []) ≡ value (nested 255 f' x') ∷ stopped Stop.Recursion ∷ []
unfolding nested eval
the_last_of_256 = refl

-- in one step: 1 + 2; 1 + (2 + 3)
a_changing_pass_is_a_step : cells_in (in_steps 1) (plus (int 1) (int 2) ∷ plus (int 1) (plus (int 2) (int 3)) ∷ []) ≡ value (int 3) ∷ stopped Stop.Steps ∷ []
unfolding in_steps eval row worked
a_changing_pass_is_a_step = refl

-- in 100 steps: Do[1, {99}]; Do[1, {100}]
turns_are_steps :
    cells_in (in_steps 100) (of Builtin.Do (int 1 ∷ numbers (99 ∷ []) ∷ []) ∷ of Builtin.Do (int 1 ∷ numbers (100 ∷ []) ∷ []) ∷ [])
    ≡ null ∷ stopped Stop.Steps ∷ []
unfolding in_steps eval row
turns_are_steps = refl

-- Do[1, {2}, {3}] is 11 steps
nested_turns_are_steps : (eval (in_cell usual) empty (of Builtin.Do (int 1 ∷ numbers (2 ∷ []) ∷ numbers (3 ∷ []) ∷ [])) []).steps ≡ 11
unfolding eval row
nested_turns_are_steps = refl

-- a guarded binding is one step, and each guard's passes are steps: f[1] /. f[x_] /; 0 < x -> 2
a_guarded_binding_is_a_step :
    (eval (in_cell usual) empty (replacing (apply f' (int 1)) (rule (condition (apply f' (blank x')) (of Builtin.Less (int 0 ∷ x' ∷ []))) (int 2))) []).steps ≡ 3
unfolding eval row worked matches
a_guarded_binding_is_a_step = refl

-- h[x_] := h[x]; h[0]: the rule gives the expression itself, which is no step
no_step_without_a_change : cells_in (in_steps 1) (delayed (apply h' (blank x')) (apply h' x') ∷ apply h' (int 0) ∷ []) ≡ null ∷ value (apply h' (int 0)) ∷ []
unfolding in_steps eval row worked matches
no_step_without_a_change = refl

-- with at most 60 nodes: Range[59]; Range[60]; Length[Range[58]]; Length[Range[59]], whose assembled expression has 61 nodes
results_have_so_many_nodes :
    cells_in few (
    of Builtin.Length (of Builtin.Range (int 58 ∷ []) ∷ [])
    ∷ of Builtin.Length (of Builtin.Range (int 59 ∷ []) ∷ [])
    ∷ of Builtin.Range (int 60 ∷ []) ∷ [])
    ≡ value (int 58) ∷ stopped Stop.Size ∷ stopped Stop.Size ∷ []
unfolding few eval row worked
results_have_so_many_nodes = refl

-- with a depth of at most 20: Nest[Hold, 1, 19]; Nest[Hold, 1, 20]
results_have_so_many_levels :
    cells_in few (
    of Builtin.Nest (symbol_of_row Builtin.Hold ∷ int 1 ∷ int 19 ∷ [])
    ∷ of Builtin.Nest (symbol_of_row Builtin.Hold ∷ int 1 ∷ int 20 ∷ []) ∷ [])
    ≡ value (nested 19 (symbol_of_row Builtin.Hold) (int 1)) ∷ stopped Stop.Depth ∷ []
unfolding few nested eval row worked
results_have_so_many_levels = refl

-- Hold[..] with 510 nested Lists round 1 is given back under the usual limits
depth_512_is_allowed : cells (of Builtin.Hold (nested 510 (symbol_of_row Builtin.List) (int 1) ∷ []) ∷ []) ≡ value (of Builtin.Hold (nested 510 (symbol_of_row Builtin.List) (int 1) ∷ [])) ∷ []
unfolding nested eval row worked
depth_512_is_allowed = refl

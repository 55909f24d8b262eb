-- A rule tried on an expression, and a list of rules tried in order.
--     told                  Flat and Orderless of the symbols that were looked at
--     try_guards            the guards of a binding in their order, up to the first that is not True
--     try_binding           the same as one step, where the binding has guards
--     try_rule, try_rules   `gives` goes on with the result of the first binding, or the first rule, that applies; `otherwise` where none does
use Rattle.std.specs.Prelude.{List, [], ◌∷◌, ◌++◌, map, true, false}
use Rattle.expr_tree.specs.declared.sym.Sym.{Sym}
use Rattle.expr_tree.specs.Tree.{Tree}
use Rattle.expr_tree.specs.Order.{same_symbol}
use Rattle.semantics.specs.declared.builtin.Builtin.{Builtin}
use Rattle.semantics.specs.Names.{Names, is_name}
use Rattle.expr_tree.specs.Substitution.{Binding}
use Rattle.semantics.specs.InPlace.{put_in_place}
use Rattle.semantics.specs.Match.{Guard, Cond, Found, Matching, matches, heads, guard_expression}
use Rattle.semantics.specs.Rule.{Rule, condition_of, result_of}
use Rattle.semantics.specs.Definitions.{Definition, has}
use Rattle.semantics.specs.Program.{Prog, Ask, Turn, Check, look_all}

-- Flat and Orderless of the symbols that were looked at
abbrev pub told : List (Sym × Definition) → Sym → Matching
told [] s = record { flat = false; orderless = false }
told (e ∷ es) s =
    elim (same_symbol e.0 s) [
      | true ↦ record { flat = has Builtin.Flat e.1.attributes; orderless = has Builtin.Orderless e.1.attributes }
      | false ↦ told es s
    ]

-- the guards of a binding in their order, up to the first that is not True
abbrev pub try_guards : Names → Binding → List Guard → Prog → Prog → Prog
try_guards names b [] pass fail = pass
try_guards names b (g ∷ gs) pass fail =
    let c = guard_expression names b g in
    Check c (Ask c (λ v. elim (is_name names Builtin.True v) [ true ↦ try_guards names b gs pass fail | false ↦ fail ]))

-- a guarded binding that is tried is a step
abbrev pub try_binding : Names → Binding → List Guard → Prog → Prog → Prog
try_binding names b [] pass fail = pass
try_binding names b (g ∷ gs) pass fail =
    let c = guard_expression names b g in
    Check c (Turn (Ask c (λ v. elim (is_name names Builtin.True v) [ true ↦ try_guards names b gs pass fail | false ↦ fail ])))

-- the first binding whose guards, with the right side's condition as the last, are all True
abbrev pub try_bindings : Names → Tree → List Found → (Tree → Prog) → Prog → Prog
try_bindings names right [] gives otherwise = otherwise
try_bindings names right (f ∷ fs) gives otherwise =
    try_binding names f.binding (f.guards ++ map Cond (condition_of names right))
    (gives (put_in_place names f.binding (result_of names right)))
    (try_bindings names right fs gives otherwise)

abbrev pub try_rule : Names → Rule → Tree → (Tree → Prog) → Prog → Prog
try_rule names rule e gives otherwise =
    look_all (heads names rule.left) (λ seen. try_bindings names rule.right (matches names (told seen) rule.left e) gives otherwise)

abbrev pub try_rules : Names → List Rule → Tree → (Tree → Prog) → Prog → Prog
try_rules names [] e gives otherwise = otherwise
try_rules names (r ∷ rs) e gives otherwise = try_rule names r e gives (try_rules names rs e gives otherwise)

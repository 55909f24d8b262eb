-- Module, Block and With, and the application of a Function.
--     locals_of             the members of a list of locals: symbols and `symbol = value`
--     ask_values            their values, evaluated outside the form, from left to right
--     module_form, block_form, with_form      the three forms
--     apply_function        Function[..][args]
use Rattle.std.specs.Prelude.{ℕ, ◌==◌, List, [], ◌∷◌, ◌++◌, Bool, true, false, ◌&&◌, ◌||◌, not, Option, Some, None}
use Rattle.expr_tree.specs.declared.sym.Sym.{Sym}
use Rattle.expr_tree.specs.Tree.{Tree, symbol}
use Rattle.semantics.specs.declared.builtin.Builtin.{Builtin}
use Rattle.semantics.specs.Names.{Names, is_call, items_of}
use Rattle.expr_tree.specs.Substitution.{Binding, among}
use Rattle.semantics.specs.InPlace.{put_in_place, fill_slots}
use Rattle.semantics.specs.Program.{Prog, Done, Ask, Within, Look, Put, Fresh, Moded, Local}
use Rattle.semantics.specs.Control.{failed}

abbrev pub plain_local : Tree → Option Local
plain_local (symbol s) = Some (record { symbol = s; value = None })
plain_local _ = None

abbrev pub valued_local : List Tree → Option Local
valued_local (symbol s ∷ v ∷ []) = Some (record { symbol = s; value = Some v })
valued_local _ = None

-- a local: a symbol, or `symbol = value`
abbrev pub local_of : Names → Tree → Option Local
local_of names e = elim (is_call names Builtin.Set e) [ true ↦ valued_local (items_of e) | false ↦ plain_local e ]

abbrev pub locals_of : Names → List Tree → Option (List Local)
locals_of names [] = Some []
locals_of names (e ∷ es) =
    elim (local_of names e) [ None ↦ None | Some l ↦ elim (locals_of names es) [ None ↦ None | Some ls ↦ Some (l ∷ ls) ] ]

abbrev pub symbols_of : List Local → List Sym
symbols_of [] = []
symbols_of (l ∷ ls) = l.symbol ∷ symbols_of ls

abbrev pub differ : List Sym → Bool
differ [] = true
differ (s ∷ ss) = not (among s ss) && differ ss

abbrev pub has_base : ℕ → List Sym → Bool
has_base b [] = false
has_base b (s ∷ ss) = (s.base == b) || has_base b ss

abbrev pub bases_differ : List Sym → Bool
bases_differ [] = true
bases_differ (s ∷ ss) = not (has_base s.base ss) && bases_differ ss

-- the values of the locals, evaluated outside the form, from left to right
abbrev pub ask_values : List Local → List Local → (List Local → Prog) → Prog
ask_values [] done k = k done
ask_values (l ∷ ls) done k =
    elim l.value [
      | None ↦ ask_values ls (done ++ l ∷ []) k
      | Some v ↦ Ask v (λ w. ask_values ls (done ++ record { symbol = l.symbol; value = Some w } ∷ []) k)
    ]

-- the locals and the body of a form of this shape
abbrev pub with_locals : Names → (List Sym → Bool) → (List Local → Tree → Prog) → Prog → List Tree → Prog
with_locals names allowed k stay (ls ∷ body ∷ []) =
    elim (is_call names Builtin.List ls) [
      | true ↦ elim (locals_of names (items_of ls)) [ None ↦ stay | Some locals ↦ elim (allowed (symbols_of locals)) [ true ↦ k locals body | false ↦ stay ] ]
      | false ↦ stay
    ]
with_locals names allowed k stay _ = stay

abbrev pub renamed : ℕ → Sym → Sym
renamed m s = record { base = s.base; number = m }

abbrev pub renaming : ℕ → List Local → Binding
renaming m [] = []
renaming m (l ∷ ls) = (l.symbol, symbol (renamed m l.symbol) ∷ []) ∷ renaming m ls

-- the locals with their new symbols
abbrev pub with_number : ℕ → List Local → List Local
with_number m [] = []
with_number m (l ∷ ls) = record { symbol = renamed m l.symbol; value = l.value } ∷ with_number m ls

-- each symbol has its initial value and nothing else
abbrev pub make_all : List Local → Prog → Prog
make_all [] p = p
make_all (l ∷ ls) p = Put l.symbol (record { attributes = []; own = l.value; downs = []; ups = [] }) (make_all ls p)

-- the number is taken before the initial values are evaluated, which happens outside the form
abbrev pub module_form : Names → List Local → Tree → Prog
module_form names locals body =
    Fresh (λ m. ask_values locals [] (λ ls. make_all (with_number m ls) (Done (put_in_place names (renaming m ls) body))))

-- p where no symbol is shared; a Block over a shared symbol fails
abbrev pub unless_any_shared : Names → List Sym → Prog → Prog
unless_any_shared names [] p = p
unless_any_shared names (s ∷ ss) p =
    Look s (λ seen. elim seen.shared [ None ↦ unless_any_shared names ss p | Some kind ↦ Moded (λ mode kernel. failed names) ])

abbrev pub block_form : Names → List Local → Tree → Prog
block_form names locals body = unless_any_shared names (symbols_of locals) (ask_values locals [] (λ ls. Within ls body Done))

abbrev pub values_in : List Local → Option Binding
values_in [] = Some []
values_in (l ∷ ls) =
    elim l.value [
      | None ↦ None
      | Some v ↦ elim (values_in ls) [ None ↦ None | Some b ↦ Some ((l.symbol, v ∷ []) ∷ b) ]
    ]

abbrev pub with_form : Names → Prog → List Local → Tree → Prog
with_form names stay locals body =
    elim (values_in locals) [
      | None ↦ stay
      | Some b ↦ ask_values locals [] (λ ls. elim (values_in ls) [ None ↦ stay | Some c ↦ Done (put_in_place names c body) ])
    ]

abbrev pub symbols_in : List Tree → Option (List Sym)
symbols_in [] = Some []
symbols_in (symbol s ∷ es) = elim (symbols_in es) [ None ↦ None | Some ss ↦ Some (s ∷ ss) ]
symbols_in (e ∷ es) = None

-- too few arguments give nothing, more are ignored
abbrev pub paired : List Sym → List Tree → Option Binding
paired [] args = Some []
paired (s ∷ ss) [] = None
paired (s ∷ ss) (e ∷ es) = elim (paired ss es) [ None ↦ None | Some b ↦ Some ((s, e ∷ []) ∷ b) ]

abbrev pub parameters : Names → Tree → Option (List Sym)
parameters names (symbol s) = Some (s ∷ [])
parameters names e = elim (is_call names Builtin.List e) [ true ↦ symbols_in (items_of e) | false ↦ None ]

abbrev pub put_arguments : Names → List Sym → List Tree → Tree → Prog → Prog
put_arguments names ss args body stay =
    elim (differ ss) [ false ↦ stay | true ↦ elim (paired ss args) [ None ↦ stay | Some b ↦ Done (put_in_place names b body) ] ]

-- Function[body][args] and Function[parameters, body][args]
abbrev pub apply_function : Names → Prog → List Tree → List Tree → Prog
apply_function names stay (body ∷ []) args = Done (fill_slots names args body)
apply_function names stay (x ∷ body ∷ []) args = elim (parameters names x) [ None ↦ stay | Some ss ↦ put_arguments names ss args body stay ]
apply_function names stay _ args = stay

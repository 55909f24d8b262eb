-- The control forms as programs. `stay` is the program of an expression that has no equation.
--     in_turn, conditional, which, connected      CompoundExpression, If, Which, And and Or
--     while                 a loop; each evaluation of its test begins a turn
--     throw, catch          Throw and Catch
--     Values, iterator      the values of an iterator, and how its parts are evaluated
--     over, iterated        the body for each value, and the forms Do, Table and Sum
--     applied               f[args], evaluated one deeper, as a turn
--     nest, nest_list, fold, fold_list, fixed_point, select      the turn forms
use Rattle.std.specs.Prelude.{ℕ, zero, suc, ◌+◌, ◌/◌, ℤ, pos, ◌+ℤ◌, ◌-ℤ◌, int_lt, int_le, nat_abs, List, [], ◌∷◌, reverse, Bool, true, false, ◌&&◌, ◌||◌, Option, Some, None}
use Rattle.std.specs.Ordering.{int_eq}
use Rattle.expr_tree.specs.declared.sym.Sym.{Sym}
use Rattle.expr_tree.specs.Tree.{Tree, integer, symbol, normal, elements, call}
use Rattle.expr_tree.specs.Order.{same}
use Rattle.semantics.specs.declared.builtin.Builtin.{Builtin}
use Rattle.semantics.specs.Names.{Names, name, is_name, is_call, items_of, make}
use Rattle.semantics.specs.Program.{Prog, Done, Stops, Throws, Ask, Catches, Within, Look, Turn, Check, Moded, Local}
use Rattle.expr_tree.specs.declared.limits.Stop.{Stop}

-- a loop takes no more turns than the greatest number of steps that any limits allow; each turn is a step
abbrev pub most_turns : ℕ
most_turns = 100000000

abbrev pub failed : Names → Prog
failed names = Done (name names Builtin.Failed)

abbrev pub null : Names → Prog
null names = Done (name names Builtin.Null)

-- CompoundExpression: the items in turn; the last gives the value
abbrev pub in_turn : Prog → List Tree → Prog
in_turn stay [] = stay
in_turn stay (e ∷ []) = Ask e Done
in_turn stay (e ∷ f ∷ es) = Ask e (λ v. in_turn stay (f ∷ es))

-- one of three, as a value is True, False or neither
abbrev pub by_truth : Names → Tree → Prog → Prog → Prog → Prog
by_truth names v on_true on_false neither =
    elim (is_name names Builtin.True v) [ true ↦ on_true | false ↦ elim (is_name names Builtin.False v) [ true ↦ on_false | false ↦ neither ] ]

abbrev pub conditional : Names → Prog → List Tree → Prog
conditional names stay (c ∷ a ∷ []) = by_truth names c (Done a) (null names) stay
conditional names stay (c ∷ a ∷ b ∷ []) = by_truth names c (Done a) (Done b) stay
conditional names stay (c ∷ a ∷ b ∷ other ∷ []) = by_truth names c (Done a) (Done b) (Done other)
conditional names stay _ = stay

-- Which: a test that is neither True nor False leaves the rest standing
abbrev pub first_true : Names → List Tree → Prog
first_true names [] = null names
first_true names (c ∷ []) = Done (make names Builtin.Which (c ∷ []))
first_true names (c ∷ e ∷ es) = Ask c (λ v. by_truth names v (Done e) (first_true names es) (Done (make names Builtin.Which (v ∷ e ∷ es))))

-- whether a list of tests and values has a value for each test
abbrev pub is_paired : List Tree → Bool
is_paired [] = true
is_paired (c ∷ []) = false
is_paired (c ∷ e ∷ es) = is_paired es

abbrev pub which : Names → Prog → List Tree → Prog
which names stay es = elim (is_paired es) [ true ↦ first_true names es | false ↦ stay ]

-- And and Or: `ending` ends it, `going` is dropped; what is neither is kept
abbrev pub connected : Names → Builtin → Builtin → Builtin → List Tree → List Tree → Prog
connected names row going ending [] [] = Done (name names going)
connected names row going ending [] (e ∷ []) = Done e
connected names row going ending [] (e ∷ f ∷ kept) = Done (make names row (reverse (e ∷ f ∷ kept)))
connected names row going ending (e ∷ es) kept =
    Ask e (λ v.
    elim (is_name names ending v) [
      | true ↦ Done v
      | false ↦ elim (is_name names going v) [ true ↦ connected names row going ending es kept | false ↦ connected names row going ending es (v ∷ kept) ]
    ])

abbrev pub while_true : Names → ℕ → Tree → Tree → Prog
while_true names zero c e = Stops Stop.Steps
while_true names (suc n) c e =
    Turn (Ask c (λ v. elim (is_name names Builtin.True v) [ true ↦ Ask e (λ _. while_true names n c e) | false ↦ null names ]))

abbrev pub while : Names → Prog → List Tree → Prog
while names stay (c ∷ e ∷ []) = while_true names most_turns c e
while names stay _ = stay

abbrev pub throw : Prog → List Tree → Prog
throw stay (e ∷ []) = Throws e
throw stay _ = stay

abbrev pub catch : Prog → List Tree → Prog
catch stay (e ∷ []) = Catches e Done
catch stay _ = stay

-- the values of an iterator: numbers from a start by a step, so many; or the elements of a List
pub data Values : Type 0 where
  From : ℤ → ℤ → ℕ → Values
  Each : List Tree → Values

-- how many numbers from a by d do not pass b
abbrev pub steps_to : ℤ → ℤ → ℤ → ℕ
steps_to a b d =
    elim (int_lt (pos 0) d && int_le a b || int_lt d (pos 0) && int_le b a) [ true ↦ nat_abs (b -ℤ a) / nat_abs d + 1 | false ↦ zero ]

-- the part e has to be an integer
abbrev pub ask_number : Tree → (ℤ → Prog) → Prog → Prog
ask_number e k stay = Ask e (λ v. elim v [ integer n ↦ k n | _ ↦ stay ])

abbrev pub up_to : ℤ → Values
up_to b = From (pos 1) (pos 1) (steps_to (pos 1) b (pos 1))

abbrev pub bound_or_list : Names → Tree → (Values → Prog) → Prog → Prog
bound_or_list names (integer b) k stay = k (up_to b)
bound_or_list names e k stay = elim (is_call names Builtin.List e) [ true ↦ k (Each (items_of e)) | false ↦ stay ]

abbrev pub unless_zero : ℤ → Prog → Prog → Prog
unless_zero d k stay = elim (int_eq d (pos 0)) [ true ↦ stay | false ↦ k ]

-- an iterator over a shared symbol fails
abbrev pub unless_shared : Names → Sym → Prog → Prog
unless_shared names s p = Look s (λ seen. elim seen.shared [ None ↦ p | Some kind ↦ Moded (λ mode kernel. failed names) ])

-- {n}, {i, b}, {i, List}, {i, a, b} and {i, a, b, d}. The parts are evaluated from left to right, up to one that does not fit; k has them as evaluated
abbrev pub iterator_parts : Names → List Tree → (Option Sym → Values → List Tree → Prog) → Prog → Prog
iterator_parts names (n ∷ []) k stay = ask_number n (λ b. k None (up_to b) (integer b ∷ [])) stay
iterator_parts names (symbol i ∷ b ∷ []) k stay =
    unless_shared names i (Ask b (λ v. bound_or_list names v (λ values. k (Some i) values (symbol i ∷ v ∷ [])) stay))
iterator_parts names (symbol i ∷ a ∷ b ∷ []) k stay =
    unless_shared names i (ask_number a (λ m. ask_number b (λ n. k (Some i) (From m (pos 1) (steps_to m n (pos 1))) (symbol i ∷ integer m ∷ integer n ∷ [])) stay) stay)
iterator_parts names (symbol i ∷ a ∷ b ∷ d ∷ []) k stay =
    unless_shared names i (ask_number a (λ m. ask_number b (λ n. ask_number d (λ by.
    unless_zero by (k (Some i) (From m by (steps_to m n by)) (symbol i ∷ integer m ∷ integer n ∷ integer by ∷ [])) stay) stay) stay) stay)
iterator_parts names _ k stay = stay

abbrev pub iterator : Names → Tree → (Option Sym → Values → List Tree → Prog) → Prog → Prog
iterator names it k stay = elim (is_call names Builtin.List it) [ true ↦ iterator_parts names (items_of it) k stay | false ↦ stay ]

-- the iterator's symbol is local as in Block
abbrev pub locals : Option Sym → Tree → List Local
locals None v = []
locals (Some i) v = record { symbol = i; value = Some v } ∷ []

abbrev pub over_numbers : Option Sym → Tree → ℤ → ℕ → ℤ → List Tree → (List Tree → Prog) → Prog
over_numbers i body d zero a done finish = finish (reverse done)
over_numbers i body d (suc n) a done finish = Turn (Within (locals i (integer a)) body (λ v. over_numbers i body d n (a +ℤ d) (v ∷ done) finish))

abbrev pub over_list : Option Sym → Tree → List Tree → List Tree → (List Tree → Prog) → Prog
over_list i body [] done finish = finish (reverse done)
over_list i body (e ∷ es) done finish = Turn (Within (locals i e) body (λ v. over_list i body es (v ∷ done) finish))

-- the values of the body, in order
abbrev pub over : Option Sym → Values → Tree → (List Tree → Prog) → Prog
over i (From a d n) body finish = over_numbers i body d n a [] finish
over i (Each es) body finish = over_list i body es [] finish

-- a form with several iterators is the form with the first over the form with the rest
abbrev pub inner_form : Names → Builtin → Tree → List Tree → Tree
inner_form names row e [] = e
inner_form names row e (it ∷ its) = make names row (e ∷ it ∷ its)

abbrev pub iterated : Names → Builtin → (List Tree → Prog) → Prog → List Tree → Prog
iterated names row finish stay (e ∷ it ∷ its) = iterator names it (λ i values parts. over i values (inner_form names row e its) finish) stay
iterated names row finish stay _ = stay

-- f[args], evaluated one deeper, as a turn
abbrev pub applied : Tree → List Tree → (Tree → Prog) → Prog
applied f args k = Check (call f args) (Turn (Ask (call f args) k))

abbrev pub nested : Tree → ℕ → Tree → (Tree → Prog) → Prog
nested f zero x k = k x
nested f (suc n) x k = applied f (x ∷ []) (λ v. nested f n v k)

abbrev pub nest : Prog → List Tree → Prog
nest stay (f ∷ x ∷ integer (pos n) ∷ []) = nested f n x Done
nest stay _ = stay

-- as in Nest, until a value is that before it
abbrev pub until_fixed : ℕ → Tree → Tree → Prog
until_fixed zero f x = Stops Stop.Steps
until_fixed (suc n) f x = applied f (x ∷ []) (λ v. elim (same v x) [ true ↦ Done v | false ↦ until_fixed n f v ])

abbrev pub fixed_point : Prog → List Tree → Prog
fixed_point stay (f ∷ x ∷ []) = until_fixed most_turns f x
fixed_point stay _ = stay

abbrev pub folded : Tree → Tree → List Tree → (Tree → Prog) → Prog
folded f x [] k = k x
folded f x (e ∷ es) k = applied f (x ∷ e ∷ []) (λ v. folded f v es k)

abbrev pub fold : Prog → List Tree → Prog
fold stay (f ∷ x ∷ normal h es ∷ []) = folded f x (elements es) Done
fold stay _ = stay

-- the elements e with f[e] True
abbrev pub selected : Names → Tree → List Tree → List Tree → (List Tree → Prog) → Prog
selected names f [] done k = k (reverse done)
selected names f (e ∷ es) done k =
    applied f (e ∷ []) (λ v. elim (is_name names Builtin.True v) [ true ↦ selected names f es (e ∷ done) k | false ↦ selected names f es done k ])

abbrev pub select : Names → Prog → List Tree → Prog
select names stay (normal h es ∷ f ∷ []) = selected names f (elements es) [] (λ done. Done (call h done))
select names stay _ = stay

-- as Nest and Fold, with all values in order, from the first
abbrev pub nested_list : Tree → ℕ → Tree → List Tree → (List Tree → Prog) → Prog
nested_list f zero x done k = k (reverse (x ∷ done))
nested_list f (suc n) x done k = applied f (x ∷ []) (λ v. nested_list f n v (x ∷ done) k)

abbrev pub nest_list : Names → Prog → List Tree → Prog
nest_list names stay (f ∷ x ∷ integer (pos n) ∷ []) = nested_list f n x [] (λ vs. Done (make names Builtin.List vs))
nest_list names stay _ = stay

abbrev pub folded_list : Tree → Tree → List Tree → List Tree → (List Tree → Prog) → Prog
folded_list f x [] done k = k (reverse (x ∷ done))
folded_list f x (e ∷ es) done k = applied f (x ∷ e ∷ []) (λ v. folded_list f v es (x ∷ done) k)

abbrev pub fold_list : Names → Prog → List Tree → Prog
fold_list names stay (f ∷ x ∷ normal h es ∷ []) = folded_list f x (elements es) [] (λ vs. Done (call h vs))
fold_list names stay _ = stay

-- With, whose locals all have values.
use Rattle.std.proofs.Common.{◌≡◌, ℕ, zero, suc, ◌+◌, ◌<◌, ◌≤◌, List, [], ◌∷◌, ◌++◌, Option, Some, None, Ok, length, get_or, drop, drop-cons, add-one, append_assoc, refl, ap, sym, ◌∙◌, arith}
use Rattle.std.proofs.Math.Path.{fun_ext}
use Rattle.expr_tree.specs.declared.sym.Sym.{Sym}
use Rattle.expr_tree.specs.Tree.{Tree}
use Rattle.expr_tree.specs.declared.limits.Limits.{Limits}
use Rattle.expr_tree.specs.Substitution.{Binding}
use Rattle.semantics.specs.Names.{Names}
use Rattle.semantics.specs.InPlace.{put_in_place}
use Rattle.semantics.specs.Program as p
use Rattle.semantics.specs.Program.{Prog, Done, Ask}
use Rattle.semantics.specs.Scoping.{ask_values, values_in, with_form}
use Rattle.evaluation_steps.specs.Moves.{Moved}
use Rattle.frames_scope.specs.declared.locals.Local.{Local}
use Rattle.frames_scope.specs.Reading.{locals_in}
use Rattle.frames_scope.specs.declared.moves.ScopeMove.{ScopeMove}
use Rattle.frames_scope.specs.declared.with_form.With.{With}
use Rattle.frames_scope.specs.ScopeMoves.{moving}
use Rattle.frames_scope.specs.ScopingLeft.{ask_each, bound, left_with}
use Rattle.frames_scope.specs.Asked.{all_valued}
use Rattle.frames_scope.proofs.Machines.{shown}

abbrev runs : List (Sym × Tree) → Binding
runs [] = []
runs (l ∷ ls) = (l.0, l.1 ∷ []) ∷ runs ls

valued_runs : (ls : List (Sym × Tree)) → values_in (all_valued ls) ≡ Some (runs ls)
valued_runs [] = refl
valued_runs (l ∷ ls) = ap (λ o. elim o as (λ _. Option Binding) [ None ↦ None | Some b ↦ Some ((l.0, l.1 ∷ []) ∷ b) ]) (valued_runs ls)

valued-push : (ls : List (Sym × Tree)) (s : Sym) (v : Tree) → all_valued (ls ++ (s, v) ∷ []) ≡ all_valued ls ++ record { symbol = s; value = Some v } ∷ []
valued-push [] s v = refl
valued-push (l ∷ ls) s v = ap (λ ms. record { symbol = l.0; value = Some l.1 } ∷ ms) (valued-push ls s v)

runs-push : (ls : List (Sym × Tree)) (s : Sym) (v : Tree) → runs (ls ++ (s, v) ∷ []) ≡ runs ls ++ (s, v ∷ []) ∷ []
runs-push [] s v = refl
runs-push (l ∷ ls) s v = ap (λ ms. (l.0, l.1 ∷ []) ∷ ms) (runs-push ls s v)

abbrev put_all : Names → Prog → Tree → List p.Local → Prog
put_all names stay body ls = elim (values_in ls) [ None ↦ stay | Some c ↦ Done (put_in_place names c body) ]

asks_all : (names : Names) (stay : Prog) (body : Tree) (ls done : List (Sym × Tree))
    → ask_values (all_valued ls) (all_valued done) (put_all names stay body) ≡ ask_each ls (runs done) (λ b. Done (put_in_place names b body))
asks_all names stay body [] done = ap (λ o. elim o as (λ _. Prog) [ None ↦ stay | Some c ↦ Done (put_in_place names c body) ]) (valued_runs done)
asks_all names stay body (l ∷ ls) done =
    ap (Ask l.1) (fun_ext (λ v.
    ap (λ ds. ask_values (all_valued ls) ds (put_all names stay body)) (sym (valued-push done l.0 v))
    ∙ asks_all names stay body ls (done ++ (l.0, v) ∷ [])
    ∙ ap (λ bs. ask_each ls bs (λ b. Done (put_in_place names b body))) (runs-push done l.0 v)))

pub with_starts : (names : Names) (stay : Prog) (body : Tree) (ls : List (Sym × Tree)) → with_form names stay (all_valued ls) body ≡ ask_each ls [] (λ b. Done (put_in_place names b body))
with_starts names stay body ls =
    ap (λ o. elim o as (λ _. Prog) [ None ↦ stay | Some b ↦ ask_values (all_valued ls) [] (put_all names stay body) ]) (valued_runs ls)
    ∙ asks_all names stay body ls []

pub with_stays : (names : Names) (stay : Prog) (body : Tree) (ls : List p.Local) → values_in ls ≡ None → with_form names stay ls body ≡ stay
with_stays names stay body ls none' = ap (λ o. elim o as (λ _. Prog) [ None ↦ stay | Some b ↦ ask_values ls [] (put_all names stay body) ]) none'

next_local : (ls : List (Sym × Tree)) (i : ℕ) (x : Sym × Tree) → i < length ls → x ≡ get_or ls i x → drop i ls ≡ x ∷ drop (i + 1) ls
next_local ls i x p is = rw (drop-cons ls i x p, add-one) (ap (λ u. u ∷ drop (suc i) ls) (sym is))

none_left : (ls : List (Sym × Tree)) (i : ℕ) → length ls ≤ i → drop i ls ≡ []
none_left [] zero p = refl
none_left [] (suc i) p = refl
none_left (l ∷ ls) zero p = absurd (omega arith)
none_left (l ∷ ls) (suc i) p = none_left ls i (omega arith)

taken : (names : Names) (old new : With) (answer : Option Tree) → new.done ≡ bound old.asked answer old.done → new.locals ≡ old.locals → new.place ≡ old.place → new.body ≡ old.body
    → left_with names old answer ≡ ask_each (drop new.place new.locals) new.done (λ b. Done (put_in_place names b new.body))
taken names old new answer done locals place body =
    ap (λ i. ask_each (drop i old.locals) (bound old.asked answer old.done) (λ b. Done (put_in_place names b old.body))) (sym place)
    ∙ ap (λ ls. ask_each (drop new.place ls) (bound old.asked answer old.done) (λ b. Done (put_in_place names b old.body))) (sym locals)
    ∙ ap (λ ds. ask_each (drop new.place new.locals) ds (λ b. Done (put_in_place names b old.body))) (sym done)
    ∙ ap (λ x. ask_each (drop new.place new.locals) new.done (λ b. Done (put_in_place names b x))) (sym body)

pub with_asks : (limits : Limits) (names : Names) (old new : With) (answer : Option Tree) (x : Sym × Tree) → new.done ≡ bound old.asked answer old.done → new.locals ≡ old.locals → new.place ≡ old.place → new.body ≡ old.body
    → new.place < length new.locals → x ≡ get_or new.locals new.place x
    → Moved limits (left_with names old answer) (moving names (Ok (ScopeMove.Ask x.1))) (left_with names (record { locals = new.locals; place = new.place + 1; asked = Some x.0; done = new.done; body = new.body }))
with_asks limits names old new answer x done locals place body inside is =
    shown names (ScopeMove.Ask x.1)
    (taken names old new answer done locals place body
    ∙ ap (λ ls. ask_each ls new.done (λ b. Done (put_in_place names b new.body))) (next_local new.locals new.place x inside is))

pub with_ends : (limits : Limits) (names : Names) (old new : With) (answer : Option Tree) (rest : Option Tree → Prog) → new.done ≡ bound old.asked answer old.done → new.locals ≡ old.locals → new.place ≡ old.place → new.body ≡ old.body
    → length new.locals ≤ new.place → Moved limits (left_with names old answer) (moving names (Ok (ScopeMove.Place new.done new.body))) rest
with_ends limits names old new answer rest done locals place body all =
    shown names (ScopeMove.Place new.done new.body) {rest = rest}
    (taken names old new answer done locals place body
    ∙ ap (λ ls. ask_each ls new.done (λ b. Done (put_in_place names b new.body))) (none_left new.locals new.place all))

-- ---- reading the values

next_read : (ls : List Local) (i : ℕ) (x : Local) → i < length ls → x ≡ get_or ls i x → drop i ls ≡ x ∷ drop (i + 1) ls
next_read ls i x p is = rw (drop-cons ls i x p, add-one) (ap (λ u. u ∷ drop (suc i) ls) (sym is))

pub valued_more : (ls : List Local) (i : ℕ) (x : Local) (e : Tree) (done longer : List (Sym × Tree)) → i < length ls → x ≡ get_or ls i x → x.value ≡ Some e → longer ≡ done ++ (x.symbol, e) ∷ []
    → all_valued longer ++ locals_in (drop (i + 1) ls) ≡ all_valued done ++ locals_in (drop i ls)
valued_more ls i x e done longer inside is has pushed =
    ap (λ ds. all_valued ds ++ locals_in (drop (i + 1) ls)) pushed
    ∙ ap (λ ds. ds ++ locals_in (drop (i + 1) ls)) (valued-push done x.symbol e)
    ∙ append_assoc (all_valued done) (record { symbol = x.symbol; value = Some e } ∷ []) (locals_in (drop (i + 1) ls))
    ∙ ap (λ o. all_valued done ++ record { symbol = x.symbol; value = o } ∷ locals_in (drop (i + 1) ls)) (sym has)
    ∙ ap (λ xs. all_valued done ++ locals_in xs) (sym (next_read ls i x inside is))

no_value : (done : List (Sym × Tree)) (s : Sym) (rest : List p.Local) → values_in (all_valued done ++ record { symbol = s; value = None } ∷ rest) ≡ None
no_value [] s rest = refl
no_value (l ∷ ls) s rest = ap (λ o. elim o as (λ _. Option Binding) [ None ↦ None | Some b ↦ Some ((l.0, l.1 ∷ []) ∷ b) ]) (no_value ls s rest)

pub valueless : (ls : List Local) (i : ℕ) (x : Local) (done : List (Sym × Tree)) → i < length ls → x ≡ get_or ls i x → x.value ≡ None → locals_in ls ≡ all_valued done ++ locals_in (drop i ls) → values_in (locals_in ls) ≡ None
valueless ls i x done inside is plain whole =
    ap values_in whole
    ∙ ap (λ xs. values_in (all_valued done ++ locals_in xs)) (next_read ls i x inside is)
    ∙ ap (λ o. values_in (all_valued done ++ record { symbol = x.symbol; value = o } ∷ locals_in (drop (i + 1) ls))) plain
    ∙ no_value done x.symbol (locals_in (drop (i + 1) ls))

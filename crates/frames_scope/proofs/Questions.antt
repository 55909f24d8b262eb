-- Values of locals, asked for one by one.
use Rattle.std.proofs.Common.{◌≡◌, ℕ, zero, suc, ◌+◌, ◌<◌, ◌≤◌, List, [], ◌∷◌, ◌++◌, Option, Some, None, length, get_or, drop, drop-cons, add-one, append_assoc, refl, ap, sym, ◌∙◌, arith}
use Rattle.expr_tree.specs.declared.sym.Sym.{Sym}
use Rattle.expr_tree.specs.Tree.{Tree}
use Rattle.semantics.specs.Program as p
use Rattle.semantics.specs.Program.{Prog, Ask}
use Rattle.semantics.specs.Scoping.{ask_values, renamed, with_number}
use Rattle.frames_scope.specs.declared.locals.Local.{Local}
use Rattle.frames_scope.specs.Reading.{local_in, locals_in}
use Rattle.frames_scope.specs.ScopingLeft.{answered, left_asking}
use Rattle.frames_scope.specs.declared.asking.Asking.{Asking}

here : (ls : List Local) (i : ℕ) (x : Local) → i < length ls → x ≡ get_or ls i x → drop i ls ≡ x ∷ drop (i + 1) ls
here ls i x p is = rw (drop-cons ls i x p, add-one) (ap (λ u. u ∷ drop (suc i) ls) (sym is))

abbrev valued : Sym → Option Tree → p.Local
valued s o = record { symbol = s; value = o }

pub asks_nothing : (ls : List Local) (i : ℕ) (x : Local) (done : List p.Local) (k : List p.Local → Prog) → i < length ls → x ≡ get_or ls i x → x.value ≡ None
    → ask_values (locals_in (drop i ls)) done k ≡ ask_values (locals_in (drop (i + 1) ls)) (done ++ record { symbol = x.symbol; value = None } ∷ []) k
asks_nothing ls i x done k p is plain =
    ap (λ xs. ask_values (locals_in xs) done k) (here ls i x p is)
    ∙ ap (λ o. ask_values (valued x.symbol o ∷ locals_in (drop (i + 1) ls)) done k) plain

pub asks_value : (ls : List Local) (i : ℕ) (x : Local) (e : Tree) (done : List p.Local) (k : List p.Local → Prog) → i < length ls → x ≡ get_or ls i x → x.value ≡ Some e
    → ask_values (locals_in (drop i ls)) done k ≡ Ask e (λ v. ask_values (locals_in (drop (i + 1) ls)) (done ++ record { symbol = x.symbol; value = Some v } ∷ []) k)
asks_value ls i x e done k p is has =
    ap (λ xs. ask_values (locals_in xs) done k) (here ls i x p is)
    ∙ ap (λ o. ask_values (valued x.symbol o ∷ locals_in (drop (i + 1) ls)) done k) has

none_left : (ls : List Local) (i : ℕ) → length ls ≤ i → drop i ls ≡ []
none_left [] zero p = refl
none_left [] (suc i) p = refl
none_left (l ∷ ls) zero p = absurd (omega arith)
none_left (l ∷ ls) (suc i) p = none_left ls i (omega arith)

pub asks_no_more : (ls : List Local) (i : ℕ) (done : List p.Local) (k : List p.Local → Prog) → length ls ≤ i → ask_values (locals_in (drop i ls)) done k ≡ k done
asks_no_more ls i done k p = ap (λ xs. ask_values (locals_in xs) done k) (none_left ls i p)

pub locals_in-push : (ls : List Local) (l : Local) → locals_in (ls ++ l ∷ []) ≡ locals_in ls ++ local_in l ∷ []
locals_in-push [] l = refl
locals_in-push (m ∷ ls) l = ap (λ ms. local_in m ∷ ms) (locals_in-push ls l)

-- ---- the same of a machine

pub taken : (old new : Asking) (answer : Option Tree) → locals_in new.done ≡ answered old.asked answer (locals_in old.done) → new.locals ≡ old.locals → new.place ≡ old.place → new.asked ≡ None
    → (k : List p.Local → Prog) → left_asking old answer k ≡ left_asking new None k
taken old new answer done locals place quiet k =
    ap (λ i. ask_values (locals_in (drop i old.locals)) (answered old.asked answer (locals_in old.done)) k) (sym place)
    ∙ ap (λ ls. ask_values (locals_in (drop new.place ls)) (answered old.asked answer (locals_in old.done)) k) (sym locals)
    ∙ ap (λ ds. ask_values (locals_in (drop new.place new.locals)) ds k) (sym done)
    ∙ ap (λ s. ask_values (locals_in (drop new.place new.locals)) (answered s None (locals_in new.done)) k) (sym quiet)

quiet_left : (a : Asking) (k : List p.Local → Prog) → a.asked ≡ None → left_asking a None k ≡ ask_values (locals_in (drop a.place a.locals)) (locals_in a.done) k
quiet_left a k quiet = ap (λ s. ask_values (locals_in (drop a.place a.locals)) (answered s None (locals_in a.done)) k) quiet

pub passes_plain : (a b : Asking) (x : Local) → a.asked ≡ None → a.place < length a.locals → x ≡ get_or a.locals a.place x → x.value ≡ None
    → b.asked ≡ None → b.locals ≡ a.locals → b.place ≡ a.place + 1 → b.done ≡ a.done ++ record { symbol = x.symbol; value = None } ∷ [] → (k : List p.Local → Prog) → left_asking a None k ≡ left_asking b None k
passes_plain a b x quiet p is plain quiet' locals place done k =
    quiet_left a k quiet ∙ asks_nothing a.locals a.place x (locals_in a.done) k p is plain
    ∙ ap (λ ds. ask_values (locals_in (drop (a.place + 1) a.locals)) ds k) (sym (locals_in-push a.done (record { symbol = x.symbol; value = None })))
    ∙ ap (λ ds. ask_values (locals_in (drop (a.place + 1) a.locals)) (locals_in ds) k) (sym done)
    ∙ ap (λ i. ask_values (locals_in (drop i a.locals)) (locals_in b.done) k) (sym place)
    ∙ ap (λ ls. ask_values (locals_in (drop b.place ls)) (locals_in b.done) k) (sym locals)
    ∙ sym (quiet_left b k quiet')

pub asks_here : (a b : Asking) (x : Local) (e : Tree) → a.asked ≡ None → a.place < length a.locals → x ≡ get_or a.locals a.place x → x.value ≡ Some e
    → b ≡ record { locals = a.locals; place = a.place + 1; asked = Some x.symbol; done = a.done } → (k : List p.Local → Prog) → left_asking a None k ≡ Ask e (λ v. left_asking b (Some v) k)
asks_here a b x e quiet p is has same k =
    quiet_left a k quiet ∙ asks_value a.locals a.place x e (locals_in a.done) k p is has
    ∙ ap (λ c. Ask e (λ v. left_asking c (Some v) k)) (sym same)

pub asks_done : (a : Asking) → a.asked ≡ None → length a.locals ≤ a.place → (k : List p.Local → Prog) → left_asking a None k ≡ k (locals_in a.done)
asks_done a quiet p k = quiet_left a k quiet ∙ asks_no_more a.locals a.place (locals_in a.done) k p

-- ---- the locals of a Module

pub numbered_more : (m : ℕ) (ls : List Local) (i : ℕ) (x y : Local) (done longer : List Local) → i < length ls → x ≡ get_or ls i x → y.symbol ≡ renamed m x.symbol → y.value ≡ x.value → longer ≡ done ++ y ∷ []
    → locals_in longer ++ with_number m (locals_in (drop (i + 1) ls)) ≡ locals_in done ++ with_number m (locals_in (drop i ls))
numbered_more m ls i x y done longer p is symbol value pushed =
    ap (λ ds. locals_in ds ++ with_number m (locals_in (drop (i + 1) ls))) pushed
    ∙ ap (λ ds. ds ++ with_number m (locals_in (drop (i + 1) ls))) (locals_in-push done y)
    ∙ append_assoc (locals_in done) (local_in y ∷ []) (with_number m (locals_in (drop (i + 1) ls)))
    ∙ ap (λ s. locals_in done ++ valued s y.value ∷ with_number m (locals_in (drop (i + 1) ls))) symbol
    ∙ ap (λ o. locals_in done ++ valued (renamed m x.symbol) o ∷ with_number m (locals_in (drop (i + 1) ls))) value
    ∙ ap (λ xs. locals_in done ++ with_number m (locals_in xs)) (sym (here ls i x p is))

pub ruleset push_steps = (locals_in-push)

-- An assignment as a program, and what it makes of the definitions.
use Rattle.std.proofs.Common.{◌≡◌, ◌∙◌, refl, sym, ap, Bool, true, false, List, [], ◌∷◌, Option, Some, None, true≢false}
use Rattle.expr_tree.specs.declared.sym.Sym.{Sym}
use Rattle.expr_tree.specs.Tree.{Tree}
use Rattle.std.specs.Prelude.{◌||◌}
use Rattle.expr_tree.specs.Order.{same_symbol}
use Rattle.expr_tree.specs.Substitution.{among}
use Rattle.semantics.specs.Names.{Names}
use Rattle.semantics.specs.Assign.{Form, Target, Why, IsProtected, NoSymbol, Nested, NoTag, places, refusal, has_no_symbol, is_nested, inner, asked_symbols, first_protected}
use Rattle.semantics.specs.Changes.{is_protected, protected_in as protected_among, see_all, attach_all}
use Rattle.semantics.specs.Definitions.{Definitions, definition_of}
use Rattle.semantics.specs.Program.{Prog, Seen}
use Rattle.semantics.specs.Play.{Setting, Evaluator, State, run, seen, with_definitions}
use Rattle.kernel_defs.specs.Assigned.{protected_in, attached_all}
use Rattle.kernel_defs.proofs.Entries.{same_itself, same-eq, apart_back}

-- what is seen of symbols, one after the other
abbrev pub seen_all : Names → Definitions → List Sym → List (Sym × Seen)
seen_all names d [] = []
seen_all names d (s ∷ ss) = (s, seen names d s) ∷ seen_all names d ss

pub see_all_runs : (set : Setting) (ev : Evaluator) (ss : List Sym) (k : List (Sym × Seen) → Prog) (s : State)
    → run set ev (see_all ss k) s ≡ run set ev (k (seen_all set.names s.definitions ss)) s
see_all_runs set ev [] k s = refl
see_all_runs set ev (x ∷ ss) k s = see_all_runs set ev ss (λ rest. k ((x, seen set.names s.definitions x) ∷ rest)) s

pub attach_all_runs : (set : Setting) (ev : Evaluator) (ts : List Target) (left right : Tree) (p : Prog) (s : State)
    → run set ev (attach_all set.names ts left right p) s ≡ run set ev p (with_definitions (attached_all set.names ts left right s.definitions) s)
attach_all_runs set ev [] left right p s = refl
attach_all_runs set ev (t ∷ ts) left right p s = attach_all_runs set ev ts left right p _

-- ---- a refusal over what was seen

told_among : (names : Names) (d : Definitions) (ss : List Sym) (s : Sym) → among s ss ≡ true → protected_among (seen_all names d ss) s ≡ protected_in names d s
told_among names d [] s p = absurd (true≢false (sym p))
told_among names d (x ∷ ss) s p = go (same_symbol x s) refl (told_among names d ss s)
  where
    later : same_symbol x s ≡ false → among s ss ≡ true
    later q = sym (ap (λ b. b || among s ss) (apart_back x s q)) ∙ p

    go : (b : Bool) → same_symbol x s ≡ b → (among s ss ≡ true → protected_among (seen_all names d ss) s ≡ protected_in names d s)
        → elim b [ true ↦ is_protected (definition_of names d x) | false ↦ protected_among (seen_all names d ss) s ] ≡ protected_in names d s
    go true q next = ap (protected_in names d) (same-eq x s q)
    go false q next = next (later q)

first_among : (p q : Sym → Bool) (ss : List Sym) → ((s : Sym) → among s ss ≡ true → p s ≡ q s) → first_protected p ss ≡ first_protected q ss
first_among p q [] h = refl
first_among p q (s ∷ ss) h =
    ap (λ b. elim b [ true ↦ Some s | false ↦ first_protected p ss ]) (h s (ap (λ b. b || among s ss) (same_itself s)))
    ∙ ap (λ o. elim (q s) [ true ↦ Some s | false ↦ o ]) (first_among p q ss (λ t r. h t (or_later (same_symbol t s) (among t ss) r)))
  where
    or_later : (a b : Bool) → b ≡ true → (a || b) ≡ true
    or_later true b r = refl
    or_later false b r = r

abbrev shape_cause : Names → Form → Tree → Option Why
shape_cause names form left =
    elim (has_no_symbol names form left) [
      | true ↦ Some NoSymbol
      | false ↦ elim (is_nested names (inner names left)) [ true ↦ Some Nested | false ↦ elim (places names form left) [ [] ↦ Some NoTag | _ ↦ None ] ]
    ]

pub refusal_seen : (names : Names) (d : Definitions) (form : Form) (left : Tree)
    → refusal names (protected_among (seen_all names d (asked_symbols form (places names form left)))) form left ≡ refusal names (protected_in names d) form left
refusal_seen names d form left =
    ap
    (λ found. elim found [ Some s ↦ Some (IsProtected s) | None ↦ shape_cause names form left ])
    (
    first_among (protected_among (seen_all names d (asked_symbols form (places names form left)))) (protected_in names d) (asked_symbols form (places names form left))
    (told_among names d (asked_symbols form (places names form left)))
    )

-- The head of a combined result.
use Rattle.std.proofs.Common.{◌≡◌, ◌∙◌, refl, ap, sym, inl, inr, ℕ, Bool, true, false, List, [], ◌∷◌, Option, Some, None, Result, Ok, Err}
use Rattle.std.specs.Prelude.{option_to_list, unwrap_or}
use Rattle.expr_tree.specs.declared.sym.Sym.{Sym}
use Rattle.expr_tree.specs.Tree.{Tree, Trees, integer, string, symbol, normal, call}
use Rattle.semantics.specs.declared.builtin.Builtin.{Builtin}
use Rattle.semantics.specs.Names.{Names, name, make}
use Rattle.semantics.specs.Definitions.{Definitions, definition_of, has}
use Rattle.semantics.specs.Program.{Prog, Done}
use Rattle.semantics.specs.Play.{Setting, State, Evaluator, run}
use Rattle.semantics.specs.Sections.{combined}
use Rattle.evaluation_steps.specs.declared.Halt.{Halt}
use Rattle.expr_tree.specs.declared.limits.Stop.{Stop}
use Rattle.machine_steps.specs.declared.moves.Move.{Move}
use Rattle.machine_steps.specs.Steps.{EndsBy, Stepped, state_at}
use Rattle.machine_outward.specs.OutwardLeft.{combiner_in}

abbrev is_flat : Names → Definitions → Sym → Bool
is_flat names d h = has Builtin.Flat (definition_of names d h).attributes

pub flat_head : (names : Names) (d : Definitions) (e : Tree) (es : Trees) (h : Sym) → e ≡ normal (symbol h) es → is_flat names d h ≡ true → combiner_in names d e ≡ symbol h
flat_head names d e es h is flat = ap (combiner_in names d) is ∙ ap (λ b. elim b as (λ _. Tree) [ true ↦ symbol h | false ↦ name names Builtin.Join ]) flat

pub other_head : (names : Names) (d : Definitions) (e : Tree) (es : Trees) (h : Sym) → e ≡ normal (symbol h) es → is_flat names d h ≡ false → combiner_in names d e ≡ name names Builtin.Join
other_head names d e es h is other = ap (combiner_in names d) is ∙ ap (λ b. elim b as (λ _. Tree) [ true ↦ symbol h | false ↦ name names Builtin.Join ]) other

abbrev has_symbol : Tree → Bool
has_symbol (normal (symbol h) es) = true
has_symbol e = false

pub no_head : (names : Names) (d : Definitions) (e : Tree) → has_symbol e ≡ false → combiner_in names d e ≡ name names Builtin.Join
no_head names d (integer n) other = refl
no_head names d (string t) other = refl
no_head names d (symbol s) other = refl
no_head names d (normal (integer n) es) other = refl
no_head names d (normal (string t) es) other = refl
no_head names d (normal (symbol h) es) other = cc
no_head names d (normal (normal h fs) es) other = refl

-- ---- the result

abbrev result : Tree → Tree → Tree → Tree
result f l comb = call comb (call f (l ∷ []) ∷ [])

by_flat : (set : Setting) (ev : Evaluator) (st : State) (f l : Tree) (h : Sym) (b : Bool) →
    run set ev (elim b as (λ _. Prog) [ true ↦ Done (result f l (symbol h)) | false ↦ Done (make set.names Builtin.Join (call f (l ∷ []) ∷ [])) ]) st
    ≡ run set ev (Done (result f l (elim b as (λ _. Tree) [ true ↦ symbol h | false ↦ name set.names Builtin.Join ]))) st
by_flat set ev st f l h true = refl
by_flat set ev st f l h false = refl

pub combined_run : (set : Setting) (ev : Evaluator) (st : State) (f l : Tree) (o : Option Tree) →
    run set ev (combined set.names f l (option_to_list o)) st ≡ run set ev (Done (result f l (unwrap_or o (combiner_in set.names st.definitions l)))) st
combined_run set ev st f l (Some comb) = refl
combined_run set ev st f (integer n) None = refl
combined_run set ev st f (string t) None = refl
combined_run set ev st f (symbol s) None = refl
combined_run set ev st f (normal (integer n) es) None = refl
combined_run set ev st f (normal (string t) es) None = refl
combined_run set ev st f (normal (symbol h) es) None = by_flat set ev st f (normal (symbol h) es) h (is_flat set.names st.definitions h)
combined_run set ev st f (normal (normal h gs) es) None = refl

module _ (set : Setting) (p q : Prog) (d : Definitions) (used : Bool) (same : (ev : Evaluator) (steps : ℕ) (locks : Option (List Sym)) → run set ev p (state_at d used steps locks) ≡ run set ev q (state_at d used steps locks)) where
  ends_as : (c : Stop) (steps : ℕ) (locks : Option (List Sym)) → EndsBy set q (state_at d used steps locks) (Halt.Stopped c) (state_at d used steps locks) → EndsBy set p (state_at d used steps locks) (Halt.Stopped c) (state_at d used steps locks)
  ends_as c steps locks (inl f) = inl (λ ev. same ev steps locks ∙ f ev)
  ends_as c steps locks (inr (v, f, large)) = inr (v, (λ ev. same ev steps locks ∙ f ev), large)

  pub runs_as : (stay : Prog) (r : Result Move Halt) (rest : Option Tree → Prog) → Stepped set q stay d used r rest d used → Stepped set p stay d used r rest d used
  runs_as stay (Ok m) rest s = record { by = λ steps locks ev. same ev steps locks ∙ s.by steps locks ev }
  runs_as stay (Err (Halt.Stopped c)) rest s = record { by = λ steps locks. ends_as c steps locks (s.by steps locks) }
  runs_as stay (Err Halt.NoMemory) rest s = record { by = λ steps locks. tt }

pub combined_as : (set : Setting) (f l : Tree) (o : Option Tree) (head applied : Tree) (items : List Tree) (d : Definitions) (used : Bool) (stay : Prog) (r : Result Move Halt) (rest : Option Tree → Prog) →
    head ≡ unwrap_or o (combiner_in set.names d l) → applied ≡ call f (l ∷ []) → items ≡ applied ∷ [] → Stepped set (Done (call head items)) stay d used r rest d used → Stepped set (combined set.names f l (option_to_list o)) stay d used r rest d used
combined_as set f l o head applied items d used stay r rest is made held s =
    runs_as set (combined set.names f l (option_to_list o)) (Done (call head items)) d used
    (λ ev steps locks. combined_run set ev (state_at d used steps locks) f l o ∙ ((λ i. run set ev (Done (call (sym is i) (sym made i ∷ []))) (state_at d used steps locks)) ∙ (λ i. run set ev (Done (call head (sym held i))) (state_at d used steps locks))))
    stay r rest s

pub ruleset combine_steps = (flat_head, other_head, no_head)

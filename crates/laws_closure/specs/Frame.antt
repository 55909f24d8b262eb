-- Agreement on a closed set of symbols: what an evaluation needs of the definitions.
--     IsClosed              a set that holds the symbols of the definition of each of its members, and all of the table with one name of it
--     AgreeOn               definitions that have the same shared symbols, the same module number, and on a set the same definitions
--     Members               the members of a set that a test tells
--     Untouched, Unchanged  what is outside the set stays, but for what a Module may have made; all of it
--     StandsIn              an expression whose symbols are in a set
--     Frame                 evaluations from definitions that agree on a closed set go the same way
use Rattle.std.specs.Prelude.{◌≡◌, ◌<◌, List, Bool, true, false, ◌&&◌}
use Rattle.expr_tree.specs.declared.sym.Sym.{Sym}
use Rattle.expr_tree.specs.Tree.{Tree}
use Rattle.expr_tree.specs.Substitution.{among}
use Rattle.semantics.specs.Names.{Names, IsNames}
use Rattle.semantics.specs.Definitions.{Definitions, stored}
use Rattle.semantics.specs.Play.{Setting, End}
use Rattle.semantics.specs.Eval.{Event, Outcome, Evaluation, eval}
use Rattle.journal.specs.Closure.{symbols_of, symbols_of_definition, is_row, is_shared}

-- the definition of a shared symbol is not followed
pub record IsClosed (names : Names) (d : Definitions) (C : Sym → Type 0) : Type 0 where
  pub followed : (s t : Sym) → C s → is_shared d s ≡ false → among t (symbols_of_definition (stored names d s)) ≡ true → C t
  pub table : (s t : Sym) → C s → is_row names s ≡ true → is_row names t ≡ true → C t

-- the definitions of shared symbols aside
pub record AgreeOn (names : Names) (C : Sym → Type 0) (d c : Definitions) : Type 0 where
  pub shared : d.shared ≡ c.shared
  pub number : d.module_number ≡ c.module_number
  pub same : (s : Sym) → C s → is_shared d s ≡ false → stored names d s ≡ stored names c s

abbrev pub StandsIn : (Sym → Type 0) → Tree → Type 0
StandsIn C e = (s : Sym) → among s (symbols_of e) ≡ true → C s

-- what a symbol outside the set has stays, but for symbols that a Module may have made
abbrev pub Untouched : Names → (Sym → Type 0) → Definitions → Definitions → Type 0
Untouched names C d after = (s : Sym) → (C s → ⊥) → s.number < d.module_number → stored names after s ≡ stored names d s

-- all of it, where no Module took a number
abbrev pub Unchanged : Names → (Sym → Type 0) → Definitions → Definitions → Type 0
Unchanged names C d after = (s : Sym) → (C s → ⊥) → stored names after s ≡ stored names d s

-- two evaluations, from d and from c, that made no call and ended alike, in as many steps and with the same `used`; their definitions agree
-- still, and neither touched what is outside the set
pub record WentAlike (names : Names) (C : Sym → Type 0) (d c : Definitions) (events : List Event) (a b : Evaluation) : Type 0 where
  pub end : End
  pub first : a.outcome ≡ Outcome.Ended end
  pub second : b.outcome ≡ Outcome.Ended end
  pub steps : a.steps ≡ b.steps
  pub used : a.used ≡ b.used
  pub no_call : (a.rest ≡ events) × (b.rest ≡ events)
  pub after : AgreeOn names C a.definitions b.definitions
  pub untouched : Untouched names C d a.definitions × Untouched names C c b.definitions
  pub unchanged : a.definitions.module_number ≡ d.module_number → Unchanged names C d a.definitions × Unchanged names C c b.definitions

-- the members of a set that a test tells
abbrev pub Members : (Sym → Bool) → Sym → Type 0
Members C s = C s ≡ true

-- from definitions that agree on a closed set, an expression of that set is evaluated alike, where `used` is false from one of them
abbrev pub Frame : Type 0
Frame =
    (set : Setting) → IsNames set.names → (C : Sym → Bool) (d c : Definitions) → IsClosed set.names d (Members C) → AgreeOn set.names (Members C) d c
    → (e : Tree) (events : List Event) → StandsIn (Members C) e → ((eval set d e events).used && (eval set c e events).used) ≡ false
    → WentAlike set.names (Members C) d c events (eval set d e events) (eval set c e events)

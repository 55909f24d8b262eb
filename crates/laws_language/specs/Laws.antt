-- Statements over the definitions alone.
--     Looser            limits that are nowhere smaller
--     LooserKeeps       an evaluation that finished ends in the same way under looser limits
--     ModeIndependent   where `used` is false, mode and kernel number do not matter
--     PutLaw            another definition of a symbol is stored for it alone
--     OthersStay        what a program sees of other symbols stays when it writes one
use Rattle.std.specs.Prelude.{◌≡◌, ℕ, ◌≤◌, Bool, true, false, T, List}
use Rattle.expr_tree.specs.declared.sym.Sym.{Sym}
use Rattle.expr_tree.specs.Tree.{Tree}
use Rattle.expr_tree.specs.Order.{same_symbol}
use Rattle.semantics.specs.Names.{Names}
use Rattle.semantics.specs.Definitions.{Definition, Definitions, stored, put}
use Rattle.semantics.specs.Program.{Mode}
use Rattle.expr_tree.specs.declared.limits.Limits.{Limits}
use Rattle.semantics.specs.Play.{Setting, End, Value, Throwing, Thrown, Quit, seen, written}
use Rattle.semantics.specs.Eval.{Event, Outcome, Ended, eval}

pub record Looser (l m : Limits) : Type 0 where
  pub recursion : l.recursion ≤ m.recursion
  pub iteration : l.iteration ≤ m.iteration
  pub steps : l.steps ≤ m.steps
  pub size : l.size ≤ m.size
  pub depth : l.depth ≤ m.depth

-- with a value, with a throw, or at Quit. A stop inside a section still makes the call Leave, so `Needs` and `Wrong` may hide a stop
abbrev pub is_final : End → Bool
is_final (Value v) = true
is_final (Throwing v) = true
is_final (Thrown v) = true
is_final Quit = true
is_final _ = false

abbrev pub is_finished : Outcome → Bool
is_finished (Ended o) = is_final o
is_finished _ = false

abbrev pub with_limits : Setting → Limits → Setting
with_limits set m = record set { limits = m }

-- looser limits change no evaluation that finished
abbrev pub LooserKeeps : Type 0
LooserKeeps =
    (set : Setting) (m : Limits) → Looser set.limits m → (d : Definitions) (e : Tree) (events : List Event)
    → T (is_finished (eval set d e events).outcome) → eval (with_limits set m) d e events ≡ eval set d e events

-- mode and kernel may be others
abbrev pub in_mode : Setting → Mode → ℕ → Setting
in_mode set mode kernel = record set { mode = mode; kernel = kernel }

-- where `used` is false at the end, mode and kernel number do not matter
abbrev pub ModeIndependent : Type 0
ModeIndependent =
    (set : Setting) (mode : Mode) (kernel : ℕ) (d : Definitions) (e : Tree) (events : List Event)
    → (eval set d e events).used ≡ false → eval (in_mode set mode kernel) d e events ≡ eval set d e events

-- another definition of one symbol is stored for it, and changes that of no other
abbrev pub PutLaw : Type 0
PutLaw =
    (names : Names) (d : Definitions) (s t : Sym) (new : Definition)
    → (stored names (put names d s new) s ≡ new) × (same_symbol s t ≡ false → stored names (put names d s new) t ≡ stored names d t)

-- what a program sees of a symbol stays when it writes the definition of another
abbrev pub OthersStay : Type 0
OthersStay =
    (names : Names) (d : Definitions) (s t : Sym) (new : Definition)
    → same_symbol s t ≡ false → seen names (written names d s new) t ≡ seen names d t

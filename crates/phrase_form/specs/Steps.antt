-- The parts of a step of the machine over what is kept, with the names of a script. They are those of the machine of the grammar.
use Rattle.std.specs.Prelude.{ℕ, Bool, List, Option}
use Rattle.expr_tree.specs.Tree.{Tree}
use Rattle.semantics.specs.Names.{Names}
use Rattle.syntax.specs.Operators.{Operator}
use Rattle.syntax.specs.Terminals.{Terminal, Bracket, Start, Next}
use Rattle.syntax.proofs.Reader as r
use Rattle.laws_reading.specs.Kept as low
use Rattle.phrase_form.specs.States.{State}

module _ (names : Names) where
  abbrev pub Frame : Type 0
  Frame = r.Frame low.Kept (Option Tree) low.KeptList (low.kept names)

  abbrev pub Opened : Type 0
  Opened = r.Opened low.Kept (Option Tree) low.KeptList (low.kept names)

  abbrev pub Mode : Type 0
  Mode = r.Mode low.Kept (Option Tree) low.KeptList (low.kept names)

  abbrev pub completed : Frame → low.Kept → Option low.Kept
  completed F x = r.completed low.Kept (Option Tree) low.KeptList (low.kept names) F x

  abbrev pub reduce : ℕ → List Frame → low.Kept → List Frame × low.Kept
  reduce level K x = r.reduce low.Kept (Option Tree) low.KeptList (low.kept names) level K x

  abbrev pub push : Frame → List Frame → Option (State names)
  push F K = r.push low.Kept (Option Tree) low.KeptList (low.kept names) F K

  abbrev pub begins : Start → List Frame → Option (State names)
  begins s K = r.begins low.Kept (Option Tree) low.KeptList (low.kept names) s K

  abbrev pub begins_in : Frame → Terminal → List Frame → Option (State names)
  begins_in F t K = r.begins_in low.Kept (Option Tree) low.KeptList (low.kept names) F t K

  abbrev pub attached : Operator → List Frame → low.Kept → Option (State names)
  attached op K x = r.attached low.Kept (Option Tree) low.KeptList (low.kept names) op K x

  abbrev pub joined : Operator → List Frame → low.Kept → Option (State names)
  joined op K x = r.joined low.Kept (Option Tree) low.KeptList (low.kept names) op K x

  abbrev pub separated : List Frame → low.Kept → Option (State names)
  separated K x = r.separated low.Kept (Option Tree) low.KeptList (low.kept names) K x

  abbrev pub closes : Bracket → Opened → Bool
  closes c opening = r.closes low.Kept (Option Tree) low.KeptList (low.kept names) c opening

  abbrev pub made : Opened → low.KeptList → Mode
  made opening xs = r.made low.Kept (Option Tree) low.KeptList (low.kept names) opening xs

  abbrev pub closed_elements : Bracket → Opened → low.KeptList → List Frame → Option (State names)
  closed_elements c opening xs K = r.closed_elements low.Kept (Option Tree) low.KeptList (low.kept names) c opening xs K

  abbrev pub closed_group : Bracket → List Frame → low.Kept → Option (State names)
  closed_group c K x = r.closed_group low.Kept (Option Tree) low.KeptList (low.kept names) c K x

  abbrev pub closed : Bracket → List Frame → low.Kept → Option (State names)
  closed c K x = r.closed low.Kept (Option Tree) low.KeptList (low.kept names) c K x

  abbrev pub goes_on : Next → Terminal → List Frame → low.Kept → Option (State names)
  goes_on n t K x = r.goes_on low.Kept (Option Tree) low.KeptList (low.kept names) n t K x

  abbrev pub next_level : Next → ℕ
  next_level n = r.next_level low.Kept (Option Tree) low.KeptList (low.kept names) n

  abbrev pub follows_phrase : Next → Terminal → List Frame → low.Kept → Option (State names)
  follows_phrase n t K x = r.follows_phrase low.Kept (Option Tree) low.KeptList (low.kept names) n t K x

  abbrev pub follows_semicolon : Next → Terminal → List Frame → low.Kept → Option (State names)
  follows_semicolon n t K x = r.follows_semicolon low.Kept (Option Tree) low.KeptList (low.kept names) n t K x

  abbrev pub part_opened : List Frame → Option Tree → Option (State names)
  part_opened K x = r.part_opened low.Kept (Option Tree) low.KeptList (low.kept names) K x

  abbrev pub elements : Opened → low.KeptList → Frame
  elements opening xs = r.FElements opening xs

  abbrev pub follows_opening : Next → Terminal → List Frame → Opened → Option (State names)
  follows_opening n t K opening = r.follows_opening low.Kept (Option Tree) low.KeptList (low.kept names) n t K opening

  abbrev pub follows_half : Next → List Frame → low.KeptList → Option (State names)
  follows_half n K xs = r.follows_half low.Kept (Option Tree) low.KeptList (low.kept names) n K xs

  abbrev pub follows : Mode → Terminal → List Frame → Option (State names)
  follows m t K = r.follows low.Kept (Option Tree) low.KeptList (low.kept names) m t K

  abbrev pub at_bottom : List Frame → low.Kept → Option low.Kept
  at_bottom K x = r.at_bottom low.Kept (Option Tree) low.KeptList (low.kept names) K x

  abbrev pub finished : Mode → List Frame → Option low.Kept
  finished m K = r.finished low.Kept (Option Tree) low.KeptList (low.kept names) m K

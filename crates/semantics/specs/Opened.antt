-- Sections along a play.
--     opens, may_call     whether a section is open after a reply; which calls are made where one is open or not
--     Orderly             a play whose states say whether a section is open, and which makes its calls accordingly
use Rattle.std.specs.Prelude.{◌≡◌, Bool, true, false, T, not, is_some}
use Rattle.expr_tree.specs.Tree.{Tree}
use Rattle.semantics.specs.Definitions.{Definitions}
use Rattle.semantics.specs.Program.{Call, Sends, Enter, Leave}
use Rattle.semantics.specs.Play.{Setting, State, End, Value, Stopped, Throwing, Thrown, Quit, Closed, Starved, Reply, Replied, Halted, Shut, Lacking, Play, Over, Calls, whole}

-- Enter that is replied to opens a section, Leave that is replied to closes it, and nothing else does
abbrev pub opens : Call → Reply → Bool → Bool
opens (Sends c) r now = now
opens (Enter locks) (Replied v) now = true
opens (Enter locks) (Halted c) now = now
opens (Enter locks) Shut now = now
opens (Enter locks) Lacking now = now
opens Leave (Replied v) now = false
opens Leave (Halted c) now = now
opens Leave Shut now = now
opens Leave Lacking now = now

-- Enter comes where no section is open, Leave where one is
abbrev pub may_call : Call → Bool → Bool
may_call (Sends c) now = true
may_call (Enter locks) now = not now
may_call Leave now = now

-- what began inside a section and ends with a value, a stop or a throw is inside it still
abbrev pub Still : Bool → End → Bool → Type 0
Still false o now = Unit {0}
Still true (Value v) now = now ≡ true
Still true (Stopped c) now = now ≡ true
Still true (Throwing v) now = now ≡ true
Still true (Thrown v) now = now ≡ true
Still true Quit now = Unit {0}
Still true Closed now = Unit {0}
Still true Starved now = Unit {0}

-- of what began inside a section or not, and is at a point where one is open or not
pub data Orderly (inside : Bool) : Bool → Play → Type 0 where
  ended : {now : Bool} {o : End} {s : State} → is_some s.open_section ≡ now → Still inside o now → Orderly inside now (Over o s)
  called : {now : Bool} {c : Call} {s : State} {k : Reply → Definitions → Play} → is_some s.open_section ≡ now → T (may_call c now)
      → ((r : Reply) (d : Definitions) → Orderly inside (opens c r now) (k r d)) → Orderly inside now (Calls c s k)

-- each evaluation
abbrev pub SectionsInOrder : Type 0
SectionsInOrder = (set : Setting) (d : Definitions) (e : Tree) → Orderly false false (whole set d e)

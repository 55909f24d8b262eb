-- The outside of an evaluation.
--     may_reply             a stop answers a form of the mode table alone
--     AfterReply            what holds after a value and a stop
--     opens_after           whether a section is open after a value
--     Guarded               a step of an outside that keeps what it tells of itself
--     Faces                 an outside that may be called, and an evaluation by the same names, in the same mode and with the same section open
use Rattle.std.specs.Prelude.{◌≡◌, Bool, true, false, is_some, List, Option}
use Rattle.expr_tree.specs.declared.sym.Sym.{Sym}
use Rattle.name_table.specs.Table.{NameTable}
use Rattle.semantics.specs.Definitions.{Definitions}
use Rattle.semantics.specs.Opened.{opens}
use Rattle.semantics.specs.Program.{Mode, Access, Count, Print, Outside, Call, Sends, Enter, Leave}
use Rattle.semantics.specs.Play.{Setting, Reply, Replied, Halted, Shut, Lacking}
use Rattle.builtin_names.specs.Named.{names_in}

abbrev pub is_form : Call → Bool
is_form (Sends (Access e)) = false
is_form (Sends Count) = false
is_form (Sends (Print t)) = false
is_form (Sends (Outside e)) = true
is_form (Enter locks) = false
is_form Leave = false

abbrev pub may_reply : Call → Reply → Bool
may_reply c (Replied v) = true
may_reply c (Halted cause) = is_form c
may_reply c Shut = true
may_reply c Lacking = true

abbrev pub AfterReply : Reply → Type 0 → Type 0
AfterReply (Replied v) P = P
AfterReply (Halted c) P = P
AfterReply Shut P = Unit {0}
AfterReply Lacking P = Unit {0}

-- whether a section is open after a value
abbrev pub opens_after : Call → Bool → Bool
opens_after (Sends request) now = now
opens_after (Enter locks) now = true
opens_after Leave now = false

pub record Guarded {S : Type 0} (step : S → Definitions → Call → Reply → Definitions → S → Type 0) (ready : S → Type 0) (names : S → NameTable) (mode : S → Mode) (is_open : S → Bool)
    (s : S) (d : Definitions) (c : Call) (r : Reply) (d' : Definitions) (m : S) : Type 0 where
  pub made : step s d c r d' m
  pub fits : may_reply c r ≡ true
  pub again : AfterReply r (ready m)
  pub same_names : names m ≡ names s
  pub same_mode : mode m ≡ mode s
  pub follows : is_open m ≡ opens c r (is_open s)

-- of an evaluation with this section open
pub record Faces {S : Type 0} (ready : S → Type 0) (names : S → NameTable) (mode : S → Mode) (is_open : S → Bool) (set : Setting) (open_section : Option (List Sym)) (s : S) : Type 0 where
  pub may : ready s
  pub same_names : names_in (names s) ≡ set.names
  pub same_mode : mode s ≡ set.mode
  pub same_open : is_open s ≡ is_some open_section

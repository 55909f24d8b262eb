-- A call that is answered by Closed opens no section and closes none.
use Rattle.std.proofs.Common.{◌≡◌, Bool, refl}
use Rattle.semantics.specs.Opened.{opens}
use Rattle.semantics.specs.Program.{Call, Sends, Enter, Leave}
use Rattle.semantics.specs.Play.{Shut}

pub shut_opens : (c : Call) (now : Bool) → now ≡ opens c Shut now
shut_opens (Sends request) now = refl
shut_opens (Enter locks) now = refl
shut_opens Leave now = refl

pub ruleset shut_steps = (shut_opens)

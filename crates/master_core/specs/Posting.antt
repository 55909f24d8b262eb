-- One entry more.
--     posting               an entry of a kernel, with what is handed in
--     Makes                 what it makes of a core, whatever the setup
use Rattle.std.specs.Prelude.{◌≡◌, ℕ}
use Rattle.journal.specs.declared.event.Event.{Event}
use Rattle.journal.specs.Entry.{Handed, Posted}
use Rattle.journal.specs.Core.{Setup, Core, effect}

abbrev pub posting : ℕ → Event → Handed → Posted
posting k event handed = record { entry = record { kernel = k; event = event }; handed = handed }

pub record Makes (p : Posted) (old new : Core) : Type 0 where
  pub by : (set : Setup) → new ≡ effect set old p

-- Where a part of an evaluation runs.
--     setting_in, names_under
use Rattle.semantics.specs.Names.{Names}
use Rattle.semantics.specs.Play.{Setting}
use Rattle.builtin_names.specs.Named.{names_in}
use Rattle.machine_steps.specs.Setup.{setting_of}
use Rattle.eval_seq.specs.declared.room.Room.{Room}

abbrev pub setting_in : Room → Setting
setting_in room = setting_of room.scene.now

abbrev pub names_under : Room → Names
names_under room = names_in room.scene.now.names.now

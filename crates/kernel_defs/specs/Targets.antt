-- The words of an assignment that the program has of its own.
--     form_of, place_of, target_of, why_of      what they stand for
use Rattle.semantics.specs.Assign as a
use Rattle.kernel_defs.specs.declared.targets.Form.{Form}
use Rattle.kernel_defs.specs.declared.targets.Form.TheVariants.{Set, SetDelayed, UpSet, UpSetDelayed, TagSet, TagSetDelayed}
use Rattle.kernel_defs.specs.declared.targets.Place.{Place}
use Rattle.kernel_defs.specs.declared.targets.Place.TheVariants.{Own, Down, Up}
use Rattle.kernel_defs.specs.declared.targets.Target.{Target}
use Rattle.kernel_defs.specs.declared.refusal.Why.{Why}
use Rattle.kernel_defs.specs.declared.refusal.Why.TheVariants.{Protected, NoSymbol, Nested, NoTag}

-- whether the right side is evaluated first does not matter to what is attached
abbrev pub form_of : Form → a.Form
form_of Set = a.ToHead
form_of SetDelayed = a.ToHead
form_of UpSet = a.ToItems
form_of UpSetDelayed = a.ToItems
form_of (TagSet tag) = a.ToTag tag
form_of (TagSetDelayed tag) = a.ToTag tag

abbrev pub place_of : Place → a.Place
place_of Own = a.Own
place_of Down = a.Down
place_of Up = a.Up

abbrev pub target_of : Target → a.Target
target_of t = record { symbol = t.symbol; place = place_of t.place }

abbrev pub why_of : Why → a.Why
why_of (Protected s) = a.IsProtected s
why_of NoSymbol = a.NoSymbol
why_of Nested = a.Nested
why_of NoTag = a.NoTag

-- What the program keeps of what was read: expressions within the limits, and the extents of all others.
--     kept                 of an expression
--     opened, added, closed    what opening a bracket, an element and closing the bracket make of it
use Rattle.std.specs.Prelude.{◌≡◌, Bool, true, false, cond, ltb, List, [], ◌∷◌, ◌++◌, Result, Ok, Err}
use Rattle.expr_tree.specs.Tree.{Tree, call}
use Rattle.show_form.specs.declared.extent.Extent.{Extent}
use Rattle.show_form.specs.declared.frame.Kept.{Kept}
use Rattle.show_form.specs.declared.frame.Kept.TheVariants as ke
use Rattle.show_form.specs.declared.frame.Frame.{Frame}
use Rattle.show_form.specs.declared.frame.Frame.TheVariants as fr
use Rattle.show_form.specs.declared.fault.FullFault.{FullFault}
use Rattle.show_form.specs.declared.fault.FullFault.TheVariants as fa
use Rattle.show_form.specs.Extents.{extent, parts_extent, joined, deepened, fits}

abbrev pub kept_by : Bool → Tree → Kept
kept_by true e = ke.Whole e
kept_by false e = ke.Beyond (extent e)

abbrev pub kept : Tree → Kept
kept e = kept_by (fits e) e

abbrev pub kept_extent : Kept → Extent
kept_extent (ke.Whole e) = extent e
kept_extent (ke.Beyond x) = x

abbrev pub opened : Kept → Frame
opened (ke.Whole e) = fr.Parts e []
opened (ke.Beyond x) = fr.Beyond x

abbrev pub added : Frame → Kept → Frame
added (fr.Beyond x) k = fr.Beyond (joined x (kept_extent k))
added (fr.Parts h es) (ke.Whole e) = fr.Parts h (es ++ (e ∷ []))
added (fr.Parts h es) (ke.Beyond x) = fr.Beyond (joined (parts_extent h es) x)

abbrev pub closed : Frame → Kept
closed (fr.Beyond x) = ke.Beyond (deepened x)
closed (fr.Parts h es) = kept (call h es)

-- what is answered where an expression is kept so
abbrev pub Limits : Kept → Result Tree FullFault → Type 0
Limits (ke.Whole e) r = r ≡ Ok e
Limits (ke.Beyond x) r = r ≡ cond (ltb 4000000 x.size) (Err fa.TooLarge) (Err fa.TooDeep)

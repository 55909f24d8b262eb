-- The states of the program's machine, as those of the machine over what is kept.
--     opened_in, frame_in, frames_in, mode_in, state_in     its parts
--     after                                                 the state that a step leads to
use Rattle.std.specs.Prelude.{List, [], ◌∷◌, Option, Some, None}
use Rattle.expr_tree.specs.Tree.{Tree}
use Rattle.semantics.specs.Names.{Names}
use Rattle.laws_reading.specs.Kept as low
use Rattle.syntax.proofs.Reader as r
use Rattle.operator_levels.specs.Words.{operator_in}
use Rattle.phrase_form.specs.Words.{prefix_in}
use Rattle.phrase_form.specs.Held.{kept_in}
use Rattle.phrase_form.specs.declared.frame.Opened.{Opened}
use Rattle.phrase_form.specs.declared.frame.Opened.TheVariants as og
use Rattle.phrase_form.specs.declared.frame.Frame.{Frame}
use Rattle.phrase_form.specs.declared.frame.Frame.TheVariants as fr
use Rattle.phrase_form.specs.declared.frame.Mode.{Mode}
use Rattle.phrase_form.specs.declared.frame.Mode.TheVariants as mo

module _ (names : Names) where
  abbrev pub State : Type 0
  State = r.State low.Kept (Option Tree) low.KeptList (low.kept names)

  abbrev pub opened_in : Opened → r.Opened low.Kept (Option Tree) low.KeptList (low.kept names)
  opened_in og.List = r.OList
  opened_in (og.Call e) = r.OCall e
  opened_in og.Part = r.OPart

  abbrev pub frame_in : Frame → r.Frame low.Kept (Option Tree) low.KeptList (low.kept names)
  frame_in fr.Group = r.FGroup
  frame_in (fr.Elements opening xs) = r.FElements (opened_in opening) xs
  frame_in (fr.Leads op) = r.FLeads (prefix_in op)
  frame_in (fr.Joins op x) = r.FJoins (operator_in op) (kept_in x)
  frame_in (fr.Beside x) = r.FBeside (kept_in x)
  frame_in (fr.Tag x) = r.FTag (kept_in x)
  frame_in (fr.Outer e) = r.FOuter e
  frame_in (fr.Tagged row x y) = r.FTagged row (kept_in x) (kept_in y)

  -- the innermost first
  abbrev pub frames_in : List Frame → List (r.Frame low.Kept (Option Tree) low.KeptList (low.kept names))
  frames_in [] = []
  frames_in (f ∷ fs) = frame_in f ∷ frames_in fs

  abbrev pub mode_in : Mode → r.Mode low.Kept (Option Tree) low.KeptList (low.kept names)
  mode_in mo.Want = r.MWant
  mode_in (mo.Have x) = r.MHave (kept_in x)
  mode_in (mo.Semicolon x) = r.MSemicolon (kept_in x)
  mode_in (mo.Open opening) = r.MOpen (opened_in opening)
  mode_in (mo.Half xs) = r.MHalf xs

  abbrev pub after : List Frame → Option Mode → Option State
  after fs None = None
  after fs (Some m) = Some (frames_in fs, mode_in m)

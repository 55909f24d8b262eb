-- The program's frames.
--     asked_by, asked       the level that is asked of the phrase in a frame, and of that which is read
--     needs_none            whether the frame is closed without a further token
--     top_of                the innermost frame
--     is_tag ..             whether it is that of `t /:`, a bracket, elements, or the outer brackets of a part
--     tighter               whether it is closed by an operator at the level
use Rattle.std.specs.Prelude.{ℕ, Bool, true, false, nat_lt, ◌&&◌, List, [], ◌∷◌, Option, Some, None}
use Rattle.syntax.specs.Operators as syn
use Rattle.operator_levels.specs.Words.{operator_in}
use Rattle.phrase_form.specs.Words.{prefix_in}
use Rattle.phrase_form.specs.declared.frame.Frame.{Frame}
use Rattle.phrase_form.specs.declared.frame.Frame.TheVariants as fr

abbrev pub asked_by : Frame → ℕ
asked_by fr.Group = 2
asked_by (fr.Elements opening xs) = 2
asked_by (fr.Leads op) = syn.leads_at (prefix_in op)
asked_by (fr.Joins op x) = syn.right_of (operator_in op)
asked_by (fr.Beside x) = syn.right_of syn.Times
asked_by (fr.Tag x) = 4
asked_by (fr.Outer e) = 2
asked_by (fr.Tagged row x y) = 3

abbrev pub asked : List Frame → ℕ
asked [] = 2
asked (F ∷ K) = asked_by F

abbrev pub needs_none : Frame → Bool
needs_none fr.Group = false
needs_none (fr.Elements opening xs) = false
needs_none (fr.Leads op) = true
needs_none (fr.Joins op x) = true
needs_none (fr.Beside x) = true
needs_none (fr.Tag x) = false
needs_none (fr.Outer e) = false
needs_none (fr.Tagged row x y) = true

abbrev pub top_of : List Frame → Option Frame
top_of [] = None
top_of (F ∷ K) = Some F

abbrev pub is_tag : Option Frame → Bool
is_tag None = false
is_tag (Some (fr.Tag x)) = true
is_tag (Some _) = false

abbrev pub is_group : Option Frame → Bool
is_group None = false
is_group (Some fr.Group) = true
is_group (Some _) = false

abbrev pub is_elements : Option Frame → Bool
is_elements None = false
is_elements (Some (fr.Elements opening xs)) = true
is_elements (Some _) = false

abbrev pub is_outer : Option Frame → Bool
is_outer None = false
is_outer (Some (fr.Outer e)) = true
is_outer (Some _) = false

abbrev pub tighter : ℕ → Option Frame → Bool
tighter level None = false
tighter level (Some F) = nat_lt level (asked_by F) && needs_none F

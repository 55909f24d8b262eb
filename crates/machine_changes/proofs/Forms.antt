-- The rows of assignments, by their forms.
use Rattle.std.proofs.Common.{◌≡◌, refl, Bool, true, false, List, [], ◌∷◌}
use Rattle.expr_tree.specs.Tree.{Tree, integer, string, symbol, normal}
use Rattle.semantics.specs.Names.{Names}
use Rattle.semantics.specs.Program.{Prog}
use Rattle.kernel_defs.specs.declared.targets.Form.{Form}
use Rattle.machine_changes.specs.Assigning.{form_row, of_form, of_tag, of_tagged}

pub form_rows : (names : Names) (form : Form) (stay : Prog) (es : List Tree) → form_row names form stay es ≡ of_form names form stay es
form_rows names Form.Set stay [] = refl
form_rows names Form.Set stay (x ∷ []) = refl
form_rows names Form.Set stay (x ∷ y ∷ []) = refl
form_rows names Form.Set stay (x ∷ y ∷ z ∷ es) = refl
form_rows names Form.SetDelayed stay [] = refl
form_rows names Form.SetDelayed stay (x ∷ []) = refl
form_rows names Form.SetDelayed stay (x ∷ y ∷ []) = refl
form_rows names Form.SetDelayed stay (x ∷ y ∷ z ∷ es) = refl
form_rows names Form.UpSet stay [] = refl
form_rows names Form.UpSet stay (x ∷ []) = refl
form_rows names Form.UpSet stay (x ∷ y ∷ []) = refl
form_rows names Form.UpSet stay (x ∷ y ∷ z ∷ es) = refl
form_rows names Form.UpSetDelayed stay [] = refl
form_rows names Form.UpSetDelayed stay (x ∷ []) = refl
form_rows names Form.UpSetDelayed stay (x ∷ y ∷ []) = refl
form_rows names Form.UpSetDelayed stay (x ∷ y ∷ z ∷ es) = refl
form_rows names (Form.TagSet t) stay es = refl
form_rows names (Form.TagSetDelayed t) stay es = refl

pub tag_rows : (names : Names) (delayed : Bool) (stay : Prog) (es : List Tree) → of_tag names delayed stay es ≡ of_tagged names delayed stay es
tag_rows names true stay [] = refl
tag_rows names true stay (integer n ∷ []) = refl
tag_rows names true stay (string n ∷ []) = refl
tag_rows names true stay (symbol s ∷ []) = refl
tag_rows names true stay (normal h hs ∷ []) = refl
tag_rows names true stay (integer n ∷ y ∷ []) = refl
tag_rows names true stay (string n ∷ y ∷ []) = refl
tag_rows names true stay (symbol s ∷ y ∷ []) = refl
tag_rows names true stay (normal h hs ∷ y ∷ []) = refl
tag_rows names true stay (integer n ∷ y ∷ z ∷ []) = refl
tag_rows names true stay (string n ∷ y ∷ z ∷ []) = refl
tag_rows names true stay (symbol s ∷ y ∷ z ∷ []) = refl
tag_rows names true stay (normal h hs ∷ y ∷ z ∷ []) = refl
tag_rows names true stay (integer n ∷ y ∷ z ∷ w ∷ es) = refl
tag_rows names true stay (string n ∷ y ∷ z ∷ w ∷ es) = refl
tag_rows names true stay (symbol s ∷ y ∷ z ∷ w ∷ es) = refl
tag_rows names true stay (normal h hs ∷ y ∷ z ∷ w ∷ es) = refl
tag_rows names false stay [] = refl
tag_rows names false stay (integer n ∷ []) = refl
tag_rows names false stay (string n ∷ []) = refl
tag_rows names false stay (symbol s ∷ []) = refl
tag_rows names false stay (normal h hs ∷ []) = refl
tag_rows names false stay (integer n ∷ y ∷ []) = refl
tag_rows names false stay (string n ∷ y ∷ []) = refl
tag_rows names false stay (symbol s ∷ y ∷ []) = refl
tag_rows names false stay (normal h hs ∷ y ∷ []) = refl
tag_rows names false stay (integer n ∷ y ∷ z ∷ []) = refl
tag_rows names false stay (string n ∷ y ∷ z ∷ []) = refl
tag_rows names false stay (symbol s ∷ y ∷ z ∷ []) = refl
tag_rows names false stay (normal h hs ∷ y ∷ z ∷ []) = refl
tag_rows names false stay (integer n ∷ y ∷ z ∷ w ∷ es) = refl
tag_rows names false stay (string n ∷ y ∷ z ∷ w ∷ es) = refl
tag_rows names false stay (symbol s ∷ y ∷ z ∷ w ∷ es) = refl
tag_rows names false stay (normal h hs ∷ y ∷ z ∷ w ∷ es) = refl

-- Assignments, and Unset.
--     assigned              an assignment whose left side is evaluated
--     left_assignment       the program that is left
--     asked_in              the questions that are left
use Rattle.std.specs.Prelude.{ℕ, ◌+◌, length, List, [], ◌∷◌, ◌++◌, Bool, true, false, Option, Some, None}
use Rattle.expr_tree.specs.declared.sym.Sym.{Sym}
use Rattle.expr_tree.specs.Tree.{Tree, symbol, call}
use Rattle.semantics.specs.declared.builtin.Builtin.{Builtin}
use Rattle.semantics.specs.Names.{Names, make, items_of}
use Rattle.semantics.specs.Definitions.{Attributes, Definitions, definition_of}
use Rattle.semantics.specs.Program.{Prog, Done, Ask, Check}
use Rattle.semantics.specs.Control.{null}
use Rattle.semantics.specs.Assign.{ToHead, ToItems}
use Rattle.semantics.specs.Assemble.{left_side, attributes_of, ask_items, ask_rest, spliced, flattened, threaded, sorted, check_all}
use Rattle.semantics.specs.Changes.{set, set_delayed, tag_set, tag_set_delayed, assign}
use Rattle.builtin_names.specs.Attributes.{attributes_in}
use Rattle.kernel_defs.specs.declared.targets.Form.{Form}
use Rattle.kernel_defs.specs.Targets.{form_of}
use Rattle.machine_changes.specs.declared.assignment.Goal.{Goal}
use Rattle.machine_changes.specs.declared.assignment.Phase.{Phase}
use Rattle.machine_changes.specs.declared.assignment.Assignment.{Assignment}
use Rattle.machine_changes.specs.declared.elements.Elements.{Elements}
use Rattle.machine_changes.specs.Unsetting.{unset_at}

-- whether an assignment gives Null in place of its right side
abbrev pub is_delayed : Form → Bool
is_delayed Form.Set = false
is_delayed Form.SetDelayed = true
is_delayed Form.UpSet = false
is_delayed Form.UpSetDelayed = true
is_delayed (Form.TagSet t) = false
is_delayed (Form.TagSetDelayed t) = true

-- a tagged assignment evaluates its right side itself
abbrev pub asks_right : Form → Bool
asks_right (Form.TagSet t) = true
asks_right _ = false

abbrev pub assigned : Names → Form → Tree → Tree → Prog
assigned names form right l = assign names (form_of form) l right (elim (is_delayed form) [ true ↦ null names | false ↦ Done right ])

abbrev pub begun : Names → Form → Tree → Tree → Prog
begun names form right l = elim (asks_right form) [ true ↦ Ask right (λ v. assigned names form v l) | false ↦ assigned names form right l ]

abbrev pub reached : Names → Goal → Tree → Prog
reached names (Goal.Assign form right) = begun names form right
reached names Goal.Unset = unset_at names

-- flattening, threading and sorting
abbrev pub settled : Names → Tree → Attributes → (Tree → Prog) → List Tree → Prog
settled names head a k items =
    elim (threaded names head a (flattened head a items)) [
      | Some each ↦ check_all each (k (make names Builtin.List each))
      | None ↦ k (call head (sorted a (flattened head a items)))
    ]

-- the elements have their values
abbrev pub assembled : Names → Tree → Attributes → (Tree → Prog) → List Tree → Prog
assembled names head a k values = Check (call head (spliced names a values)) (settled names head a k (spliced names a values))

-- the head has its value
abbrev pub headed_by : Names → Tree → List Tree → (Tree → Prog) → Prog
headed_by names head items k = attributes_of head (λ a. ask_items names a items (assembled names head a k))

abbrev pub gone_on : Names → Elements → (Tree → Prog) → List Tree → Prog
gone_on names e k done = ask_rest names (attributes_in e.attrs) e.rest done (assembled names e.head (attributes_in e.attrs) k)

abbrev pub left_phase : Names → Goal → Phase → Option Tree → Prog
left_phase names goal (Phase.Before l) answer = left_side names l (reached names goal)
left_phase names goal (Phase.Head items) (Some h) = headed_by names h items (reached names goal)
left_phase names goal (Phase.Items e) (Some v) = gone_on names e (reached names goal) (e.done ++ v ∷ [])
left_phase names goal (Phase.Right form l) (Some v) = assigned names form v l
left_phase names goal _ answer = null names

abbrev pub left_assignment : Names → Assignment → Option Tree → Prog
left_assignment names f = left_phase names f.goal f.phase

-- no fewer than the questions that are left
abbrev pub asked_in : Phase → ℕ
asked_in (Phase.Before l) = length (items_of l) + 3
asked_in (Phase.Head items) = length items + 2
asked_in (Phase.Items e) = length e.rest + 1
asked_in (Phase.Right form l) = 0
asked_in Phase.Over = 0

-- the attributes of a head, where definitions are these
abbrev pub attributes_of_head : Names → Definitions → Tree → Attributes
attributes_of_head names d (symbol s) = (definition_of names d s).attributes
attributes_of_head names d _ = []

-- ---- the rows by their elements

abbrev pub of_tag : Names → Bool → Prog → List Tree → Prog
of_tag names true = tag_set_delayed names
of_tag names false = tag_set names

abbrev pub tag_form : Bool → Sym → Form
tag_form true t = Form.TagSetDelayed t
tag_form false t = Form.TagSet t

abbrev pub of_tagged : Names → Bool → Prog → List Tree → Prog
of_tagged names delayed stay (symbol t ∷ left ∷ right ∷ []) = left_side names left (begun names (tag_form delayed t) right)
of_tagged names delayed stay _ = stay

abbrev pub of_form : Names → Form → Prog → List Tree → Prog
of_form names form stay (left ∷ right ∷ []) = left_side names left (begun names form right)
of_form names form stay _ = stay

-- the rows with a left side and a right side, by their forms
abbrev pub form_row : Names → Form → Prog → List Tree → Prog
form_row names Form.Set = set names ToHead
form_row names Form.SetDelayed = set_delayed names ToHead
form_row names Form.UpSet = set names ToItems
form_row names Form.UpSetDelayed = set_delayed names ToItems
form_row names (Form.TagSet t) = of_form names (Form.TagSet t)
form_row names (Form.TagSetDelayed t) = of_form names (Form.TagSetDelayed t)

-- The reader from left to right over what the program keeps.
--     State                the open frames, the innermost first, and what was read last
--     step, run            the state after a byte, after a text; None where no full form goes on so
--     last                 what is whole where the text ends
use Rattle.std.specs.Prelude.{ℕ, ◌-◌, ◌==◌, ◌&&◌, not, Bool, true, false, cond, List, [], ◌∷◌, ◌++◌, Option, Some, None, option_and_then}
use Rattle.expr_tree.specs.Tree.{Tree, integer, string, symbol}
use Rattle.expr_tree.specs.Limits.{in_range}
use Rattle.script_text.specs.Spelling.{spelled}
use Rattle.script_text.specs.Reader.{signed, grown, symbol_of}
use Rattle.show_form.specs.declared.class.Class.{Class}
use Rattle.show_form.specs.declared.class.Class.TheVariants as cl
use Rattle.show_form.specs.declared.frame.Kept.{Kept}
use Rattle.show_form.specs.declared.frame.Kept.TheVariants as ke
use Rattle.show_form.specs.declared.frame.Frame.{Frame}
use Rattle.show_form.specs.declared.mode.Mode.{Mode}
use Rattle.show_form.specs.declared.mode.Mode.TheVariants as mo
use Rattle.show_form.specs.Classes.{kind_of}
use Rattle.show_form.specs.Frames.{opened, added, closed}
use Rattle.show_form.specs.Numbers.{Written}

abbrev pub State : Type 0
State = List Frame × Mode

-- the frames with the mode, where there is one
abbrev pub with_mode : List Frame → Option Mode → Option State
with_mode frames None = None
with_mode frames (Some mode) = Some (frames, mode)

abbrev pub when : Bool → Option State → Option State
when true s = s
when false s = None

abbrev pub shut : List Frame → Option State
shut [] = None
shut (f ∷ frames) = Some (frames, mo.Have (closed f))

-- behind a whole expression
abbrev pub after : List Frame → Kept → Class → Option State
after frames k cl.Opening = Some (opened k ∷ frames, mo.Starts true)
after (f ∷ frames) k cl.Comma = Some (added f k ∷ frames, mo.Gap)
after (f ∷ frames) k cl.Closing = Some (frames, mo.Have (closed (added f k)))
after frames k class = None

abbrev pub starts : List Frame → Bool → ℕ → Class → Option State
starts frames closes c cl.Letter = Some (frames, mo.Name (c ∷ []))
starts frames closes c cl.Digit = Some (frames, mo.Number (record { below = false; magnitude = c - 48 }))
starts frames closes c cl.Dash = Some (frames, mo.Minus)
starts frames closes c cl.Quote = Some (frames, mo.InString false [])
starts frames closes c cl.Closing = when closes (shut frames)
starts frames closes c class = None

abbrev pub gap : List Frame → Class → Option State
gap frames cl.Space = Some (frames, mo.Starts false)
gap frames class = None

abbrev pub minus : List Frame → ℕ → Class → Option State
minus frames c cl.Digit = when (not (c == 48)) (Some (frames, mo.Number (record { below = true; magnitude = c - 48 })))
minus frames c class = None

abbrev pub longer : Written → ℕ → Written
longer w c = record { below = w.below; magnitude = grown w.magnitude c }

abbrev pub may_grow : Written → ℕ → Bool
may_grow w c = not (w.magnitude == 0) && in_range (signed w.below (grown w.magnitude c))

abbrev pub number : List Frame → Written → ℕ → Class → Option State
number frames w c cl.Digit = when (may_grow w c) (Some (frames, mo.Number (longer w c)))
number frames w c class = after frames (ke.Whole (integer (signed w.below w.magnitude))) class

abbrev pub symbol_named : (List ℕ → ℕ) → List ℕ → Kept
symbol_named find w = ke.Whole (symbol (symbol_of find (spelled w)))

abbrev pub name : (List ℕ → ℕ) → List Frame → List ℕ → ℕ → Class → Option State
name find frames w c cl.Letter = Some (frames, mo.Name (w ++ (c ∷ [])))
name find frames w c cl.Digit = Some (frames, mo.Name (w ++ (c ∷ [])))
name find frames w c class = after frames (symbol_named find w) class

-- a byte behind a backslash: a quote, a backslash, `n` or `t`
abbrev pub escape : List ℕ → Bool → Bool → Bool → Bool → Option Mode
escape s true backslash feed tab = Some (mo.InString false (s ++ (34 ∷ [])))
escape s false true feed tab = Some (mo.InString false (s ++ (92 ∷ [])))
escape s false false true tab = Some (mo.InString false (s ++ (10 ∷ [])))
escape s false false false true = Some (mo.InString false (s ++ (9 ∷ [])))
escape s false false false false = None

-- another byte of a string: a quote, a backslash, a line feed or a tab
abbrev pub in_string : List ℕ → ℕ → Bool → Bool → Bool → Bool → Option Mode
in_string s c true backslash feed tab = Some (mo.Have (ke.Whole (string s)))
in_string s c false true feed tab = Some (mo.InString true s)
in_string s c false false true tab = None
in_string s c false false false true = None
in_string s c false false false false = Some (mo.InString false (s ++ (c ∷ [])))

abbrev pub in_text : Bool → List ℕ → ℕ → Option Mode
in_text true s c = escape s (c == 34) (c == 92) (c == 110) (c == 116)
in_text false s c = in_string s c (c == 34) (c == 92) (c == 10) (c == 9)

abbrev pub step_by : (List ℕ → ℕ) → ℕ → Class → List Frame → Mode → Option State
step_by find c class frames (mo.Starts closes) = starts frames closes c class
step_by find c class frames mo.Gap = gap frames class
step_by find c class frames mo.Minus = minus frames c class
step_by find c class frames (mo.Number w) = number frames w c class
step_by find c class frames (mo.Name w) = name find frames w c class
step_by find c class frames (mo.InString escaped s) = with_mode frames (in_text escaped s c)
step_by find c class frames (mo.Have k) = after frames k class

abbrev pub step : (List ℕ → ℕ) → ℕ → State → Option State
step find c s = step_by find c (kind_of c) s.0 s.1

abbrev pub run : (List ℕ → ℕ) → List ℕ → State → Option State
run find [] s = Some s
run find (c ∷ cs) s = option_and_then (run find cs) (step find c s)

abbrev pub last : (List ℕ → ℕ) → Mode → Option Kept
last find (mo.Number w) = Some (ke.Whole (integer (signed w.below w.magnitude)))
last find (mo.Name w) = Some (symbol_named find w)
last find (mo.Have k) = Some k
last find mode = None

abbrev pub whole : (List ℕ → ℕ) → State → Option Kept
whole find ([], mode) = last find mode
whole find (f ∷ frames, mode) = None

abbrev pub first_state : State
first_state = ([], mo.Starts false)

-- the string that is being read, where no backslash stands before
abbrev pub plain_text : Mode → Option (List ℕ)
plain_text (mo.InString escaped s) = cond escaped None (Some s)
plain_text mode = None

-- Reading a full form from left to right, one byte at a time.
--     Frame, Mode, State       what is open; what was read last
--     step, run                the state after a byte, after a text; None where no full form goes on so
--     ends                     the expression that is whole when the text ends here
--     read                     the expression that a text is the full form of
-- `find` gives the base of a text.
use Rattle.std.specs.Prelude.{ℕ, pred, ◌+◌, ◌-◌, ◌*◌, ◌==◌, ◌&&◌, not, Bool, true, false, ℤ, pos, negsuc, List, [], ◌∷◌, ◌++◌, Option, Some, None, option_and_then}
use Rattle.expr_tree.specs.declared.sym.Sym.{Sym}
use Rattle.expr_tree.specs.Tree.{Tree, integer, string, symbol, call}
use Rattle.expr_tree.specs.Limits.{in_range}
use Rattle.script_text.specs.Bytes.{begins_name, is_digit}
use Rattle.script_text.specs.Spelling.{Spelled, spelled}

-- the kinds of bytes that the reader tells apart outside strings
pub data Class : Type 0 where
  Letter Digit Dash Quote Opening Closing Comma Space Other : Class

abbrev pub sign_class : Bool → Bool → Bool → Bool → Bool → Bool → Class
sign_class true quote opening closing comma space = Dash
sign_class false true opening closing comma space = Quote
sign_class false false true closing comma space = Opening
sign_class false false false true comma space = Closing
sign_class false false false false true space = Comma
sign_class false false false false false true = Space
sign_class false false false false false false = Other

abbrev pub class_by : Bool → Bool → ℕ → Class
class_by true digit c = Letter
class_by false true c = Digit
class_by false false c = sign_class (c == 45) (c == 34) (c == 91) (c == 93) (c == 44) (c == 32)

abbrev pub class_of : ℕ → Class
class_of c = class_by (begins_name c) (is_digit c) c

-- a head with its bracket open, and the items that are whole
pub record Frame : Type 0 where
  pub head : Tree
  pub items : List Tree

pub data Mode : Type 0 where
  Starts : Bool → Mode  -- an expression begins here; behind `[` the bracket may also close
  Gap : Mode  -- behind a comma
  Minus : Mode
  Number : Bool → ℕ → Mode  -- whether it is below 0, and the digits so far
  Name : List ℕ → Mode
  InString : Bool → List ℕ → Mode  -- whether behind a backslash
  Have : Tree → Mode

pub record State : Type 0 where
  pub frames : List Frame
  pub mode : Mode

abbrev pub at : List Frame → Mode → Option State
at frames mode = Some (record { frames = frames; mode = mode })

abbrev pub signed : Bool → ℕ → ℤ
signed false n = pos n
signed true n = negsuc (pred n)

abbrev pub when : Bool → Option State → Option State
when true s = s
when false s = None

abbrev pub closed : List Frame → Option State
closed [] = None
closed (frame ∷ frames) = at frames (Have (call frame.head frame.items))

abbrev pub with_item : Tree → Frame → Frame
with_item e frame = record frame { items = frame.items ++ (e ∷ []) }

-- behind a whole expression
abbrev pub after : List Frame → Tree → Class → Option State
after frames e Opening = at (record { head = e; items = [] } ∷ frames) (Starts true)
after (frame ∷ frames) e Comma = at (with_item e frame ∷ frames) Gap
after (frame ∷ frames) e Closing = closed (with_item e frame ∷ frames)
after frames e k = None

abbrev pub starts : List Frame → Bool → ℕ → Class → Option State
starts frames closes c Letter = at frames (Name (c ∷ []))
starts frames closes c Digit = at frames (Number false (c - 48))
starts frames closes c Dash = at frames Minus
starts frames closes c Quote = at frames (InString false [])
starts frames closes c Closing = when closes (closed frames)
starts frames closes c k = None

abbrev pub gap : List Frame → Class → Option State
gap frames Space = at frames (Starts false)
gap frames k = None

-- no number below 0 begins with a 0
abbrev pub minus : List Frame → ℕ → Class → Option State
minus frames c Digit = when (not (c == 48)) (at frames (Number true (c - 48)))
minus frames c k = None

abbrev pub grown : ℕ → ℕ → ℕ
grown n c = n * 10 + (c - 48)

-- nothing follows a 0, and no number leaves the range
abbrev pub number : List Frame → Bool → ℕ → ℕ → Class → Option State
number frames below n c Digit = when (not (n == 0) && in_range (signed below (grown n c))) (at frames (Number below (grown n c)))
number frames below n c k = after frames (integer (signed below n)) k

abbrev pub symbol_of : (List ℕ → ℕ) → Spelled → Sym
symbol_of find s = record { base = find s.base; number = s.number }

abbrev pub name : (List ℕ → ℕ) → List Frame → List ℕ → ℕ → Class → Option State
name find frames w c Letter = at frames (Name (w ++ (c ∷ [])))
name find frames w c Digit = at frames (Name (w ++ (c ∷ [])))
name find frames w c k = after frames (symbol (symbol_of find (spelled w))) k

-- a byte behind a backslash: a quote, a backslash, `n` or `t`
abbrev pub escape : List Frame → List ℕ → Bool → Bool → Bool → Bool → Option State
escape frames s true backslash feed tab = at frames (InString false (s ++ (34 ∷ [])))
escape frames s false true feed tab = at frames (InString false (s ++ (92 ∷ [])))
escape frames s false false true tab = at frames (InString false (s ++ (10 ∷ [])))
escape frames s false false false tab = when tab (at frames (InString false (s ++ (9 ∷ []))))

-- another byte of a string: a quote, a backslash, a line feed or a tab
abbrev pub in_string : List Frame → List ℕ → ℕ → Bool → Bool → Bool → Bool → Option State
in_string frames s c true backslash feed tab = at frames (Have (string s))
in_string frames s c false true feed tab = at frames (InString true s)
in_string frames s c false false true tab = None
in_string frames s c false false false true = None
in_string frames s c false false false false = at frames (InString false (s ++ (c ∷ [])))

abbrev pub step_in : (List ℕ → ℕ) → ℕ → List Frame → Mode → Option State
step_in find c frames (Starts closes) = starts frames closes c (class_of c)
step_in find c frames Gap = gap frames (class_of c)
step_in find c frames Minus = minus frames c (class_of c)
step_in find c frames (Number below n) = number frames below n c (class_of c)
step_in find c frames (Name w) = name find frames w c (class_of c)
step_in find c frames (InString true s) = escape frames s (c == 34) (c == 92) (c == 110) (c == 116)
step_in find c frames (InString false s) = in_string frames s c (c == 34) (c == 92) (c == 10) (c == 9)
step_in find c frames (Have e) = after frames e (class_of c)

abbrev pub step : (List ℕ → ℕ) → ℕ → State → Option State
step find c s = step_in find c s.frames s.mode

abbrev pub run : (List ℕ → ℕ) → List ℕ → State → Option State
run find [] s = Some s
run find (c ∷ cs) s = option_and_then (run find cs) (step find c s)

abbrev pub ends : (List ℕ → ℕ) → Mode → Option Tree
ends find (Number below n) = Some (integer (signed below n))
ends find (Name w) = Some (symbol (symbol_of find (spelled w)))
ends find (Have e) = Some e
ends find m = None

abbrev pub whole : (List ℕ → ℕ) → List Frame → Mode → Option Tree
whole find [] m = ends find m
whole find (frame ∷ frames) m = None

abbrev pub first_state : State
first_state = record { frames = []; mode = Starts false }

abbrev pub read : (List ℕ → ℕ) → List ℕ → Option Tree
read find t = option_and_then (λ s. whole find s.frames s.mode) (run find t first_state)

-- Whether the reader stops does not depend on the names: its steps look at no expression.
use Rattle.std.proofs.Common.{◌≡◌, refl, sym, ap, ◌∙◌, ℕ, Bool, true, false, List, [], ◌∷◌, ◌++◌, Option, Some, None, option_and_then, is_some, drop}
use Rattle.std.specs.Prelude.{◌==◌, ◌&&◌, ◌-◌, not, pos}
use Rattle.expr_tree.specs.Tree.{Tree, integer, string, symbol}
use Rattle.expr_tree.specs.Limits.{in_range}
use Rattle.script_text.specs.Laws.{StopsAlike}
use Rattle.script_text.specs.Spelling.{spelled}
use Rattle.script_text.specs.Reader.{Frame, Mode, State, Starts, Gap, Minus, Number, Name, InString, Have, Class, Letter, Digit, Dash, Quote, Opening, Closing, Comma, Space, class_of, after, closed, starts, gap, name, minus, number, grown, escape, in_string, step_in, step, run, whole, first_state, at, when, signed, symbol_of}

abbrev Finder : Type 0
Finder = List ℕ → ℕ

-- any expression
abbrev blank : Tree
blank = integer (pos 0)

abbrev bare_frames : List Frame → List Frame
bare_frames [] = []
bare_frames (f ∷ fs) = record { head = blank; items = [] } ∷ bare_frames fs

abbrev bare_mode : Mode → Mode
bare_mode (Have e) = Have blank
bare_mode m = m

-- a state without its expressions
abbrev bare : State → State
bare s = record { frames = bare_frames s.frames; mode = bare_mode s.mode }

abbrev seen : Option State → Option State
seen None = None
seen (Some s) = Some (bare s)

twice : (fs : List Frame) → bare_frames (bare_frames fs) ≡ bare_frames fs
twice [] = refl
twice (f ∷ fs) = ap (λ gs. record { head = blank; items = [] } ∷ gs) (twice fs)

-- the same expressions taken away once more
moved : (fs : List Frame) (m : Mode) → seen (at fs m) ≡ Some (record { frames = bare_frames (bare_frames fs); mode = bare_mode m })
moved fs m = ap (λ gs. Some (record { frames = gs; mode = bare_mode m })) (sym (twice fs))

closed_alike : (fs gs : List Frame) → bare_frames fs ≡ bare_frames gs → seen (closed fs) ≡ seen (closed gs)
closed_alike [] [] h = refl
closed_alike [] (g ∷ gs) h = absurd (cc)
closed_alike (f ∷ fs) [] h = absurd (cc)
closed_alike (f ∷ fs) (g ∷ gs) h = ap (λ hs. Some (record { frames = drop 1 hs; mode = Have blank })) h

after_alike : (fs : List Frame) (e d : Tree) (k : Class) → seen (after fs e k) ≡ seen (after (bare_frames fs) d k)
after_alike [] e d Opening = refl
after_alike (f ∷ fs) e d Opening = ap (λ gs. Some (record { frames = record { head = blank; items = [] } ∷ gs; mode = Starts true })) (sym (twice (f ∷ fs)))
after_alike [] e d Comma = refl
after_alike (f ∷ fs) e d Comma = ap (λ gs. Some (record { frames = record { head = blank; items = [] } ∷ gs; mode = Gap })) (sym (twice fs))
after_alike [] e d Closing = refl
after_alike (f ∷ fs) e d Closing = ap (λ gs. Some (record { frames = gs; mode = Have blank })) (sym (twice fs))
after_alike [] e d k = refl
after_alike (f ∷ fs) e d k = refl

when_alike : (b : Bool) (fs : List Frame) (m : Mode) → seen (when b (at fs m)) ≡ seen (when b (at (bare_frames fs) (bare_mode m)))
when_alike true fs (Have e) = moved fs (Have e)
when_alike true fs (Starts b) = moved fs (Starts b)
when_alike true fs Gap = moved fs Gap
when_alike true fs Minus = moved fs Minus
when_alike true fs (Number b n) = moved fs (Number b n)
when_alike true fs (Name w) = moved fs (Name w)
when_alike true fs (InString b w) = moved fs (InString b w)
when_alike false fs m = refl

starts_alike : (fs : List Frame) (closes : Bool) (c : ℕ) (k : Class) → seen (starts fs closes c k) ≡ seen (starts (bare_frames fs) closes c k)
starts_alike fs closes c Letter = moved fs (Name (c ∷ []))
starts_alike fs closes c Digit = moved fs (Number false (c - 48))
starts_alike fs closes c Dash = moved fs Minus
starts_alike fs closes c Quote = moved fs (InString false [])
starts_alike fs true c Closing = closed_alike fs (bare_frames fs) (sym (twice fs))
starts_alike fs false c Closing = refl
starts_alike fs closes c k = refl

gap_alike : (fs : List Frame) (k : Class) → seen (gap fs k) ≡ seen (gap (bare_frames fs) k)
gap_alike fs Space = moved fs (Starts false)
gap_alike fs k = refl

minus_alike : (fs : List Frame) (c : ℕ) (k : Class) → seen (minus fs c k) ≡ seen (minus (bare_frames fs) c k)
minus_alike fs c Digit = when_alike (not (c == 48)) fs (Number true (c - 48))
minus_alike fs c k = refl

number_alike : (fs : List Frame) (below : Bool) (n c : ℕ) (k : Class) → seen (number fs below n c k) ≡ seen (number (bare_frames fs) below n c k)
number_alike fs below n c Digit = when_alike (not (n == 0) && in_range (signed below (grown n c))) fs (Number below (grown n c))
number_alike fs below n c k = after_alike fs (integer (signed below n)) (integer (signed below n)) k

name_alike : (find other : Finder) (fs : List Frame) (w : List ℕ) (c : ℕ) (k : Class) → seen (name find fs w c k) ≡ seen (name other (bare_frames fs) w c k)
name_alike find other fs w c Letter = moved fs (Name (w ++ (c ∷ [])))
name_alike find other fs w c Digit = moved fs (Name (w ++ (c ∷ [])))
name_alike find other fs w c k = after_alike fs (symbol (symbol_of find (spelled w))) (symbol (symbol_of other (spelled w))) k

escape_alike : (fs : List Frame) (s : List ℕ) (quote backslash feed tab : Bool) → seen (escape fs s quote backslash feed tab) ≡ seen (escape (bare_frames fs) s quote backslash feed tab)
escape_alike fs s true backslash feed tab = moved fs (InString false (s ++ (34 ∷ [])))
escape_alike fs s false true feed tab = moved fs (InString false (s ++ (92 ∷ [])))
escape_alike fs s false false true tab = moved fs (InString false (s ++ (10 ∷ [])))
escape_alike fs s false false false tab = when_alike tab fs (InString false (s ++ (9 ∷ [])))

string_alike : (fs : List Frame) (s : List ℕ) (c : ℕ) (quote backslash feed tab : Bool) → seen (in_string fs s c quote backslash feed tab) ≡ seen (in_string (bare_frames fs) s c quote backslash feed tab)
string_alike fs s c true backslash feed tab = moved fs (Have (string s))
string_alike fs s c false true feed tab = moved fs (InString true s)
string_alike fs s c false false true tab = refl
string_alike fs s c false false false true = refl
string_alike fs s c false false false false = moved fs (InString false (s ++ (c ∷ [])))

step_alike : (find other : Finder) (c : ℕ) (fs : List Frame) (m : Mode) → seen (step_in find c fs m) ≡ seen (step_in other c (bare_frames fs) (bare_mode m))
step_alike find other c fs (Starts closes) = starts_alike fs closes c (class_of c)
step_alike find other c fs Gap = gap_alike fs (class_of c)
step_alike find other c fs Minus = minus_alike fs c (class_of c)
step_alike find other c fs (Number below n) = number_alike fs below n c (class_of c)
step_alike find other c fs (Name w) = name_alike find other fs w c (class_of c)
step_alike find other c fs (InString true s) = escape_alike fs s (c == 34) (c == 92) (c == 110) (c == 116)
step_alike find other c fs (InString false s) = string_alike fs s c (c == 34) (c == 92) (c == 10) (c == 9)
step_alike find other c fs (Have e) = after_alike fs e blank (class_of c)

bare_once : (m : Mode) → bare_mode (bare_mode m) ≡ bare_mode m
bare_once (Have e) = refl
bare_once (Starts b) = refl
bare_once Gap = refl
bare_once Minus = refl
bare_once (Number b n) = refl
bare_once (Name w) = refl
bare_once (InString b w) = refl

unwrapped : (s t : State) → Some (bare s) ≡ Some (bare t) → bare s ≡ bare t
unwrapped s t h = cc

bind_alike : (find other : Finder) (cs : List ℕ) (o p : Option State) → seen o ≡ seen p
    → ((s : State) → seen (run find cs s) ≡ seen (run other cs (bare s)))
    → ((s : State) → seen (run other cs s) ≡ seen (run other cs (bare s)))
    → seen (option_and_then (run find cs) o) ≡ seen (option_and_then (run other cs) p)
bind_alike find other cs None None h one two = refl
bind_alike find other cs None (Some t) h one two = absurd (cc)
bind_alike find other cs (Some s) None h one two = absurd (cc)
bind_alike find other cs (Some s) (Some t) h one two = one s ∙ ap (λ u. seen (run other cs u)) (unwrapped s t h) ∙ sym (two t)

run_alike : (find other : Finder) (t : List ℕ) (s : State) → seen (run find t s) ≡ seen (run other t (bare s))
run_alike find other [] s = λ i. Some (record { frames = sym (twice s.frames) i; mode = sym (bare_once s.mode) i })
run_alike find other (c ∷ cs) s =
    bind_alike find other cs (step find c s) (step other c (bare s)) (step_alike find other c s.frames s.mode)
    (λ u. run_alike find other cs u) (λ u. run_alike other other cs u)

first_alike : (find other : Finder) (t : List ℕ) → seen (run find t first_state) ≡ seen (run other t first_state)
first_alike find other t = run_alike find other t first_state

-- ---- stops

none_of : (o p : Option State) → seen o ≡ seen p → o ≡ None → p ≡ None
none_of None None h e = refl
none_of None (Some t) h e = absurd (cc)
none_of (Some s) p h e = absurd (cc)

abbrev done : List Frame → Mode → Bool
done [] (Number below n) = true
done [] (Name w) = true
done [] (Have e) = true
done fs m = false

done_is : (find : Finder) (fs : List Frame) (m : Mode) → is_some (whole find fs m) ≡ done (bare_frames fs) (bare_mode m)
done_is find [] (Number below n) = refl
done_is find [] (Name w) = refl
done_is find [] (Have e) = refl
done_is find [] (Starts b) = refl
done_is find [] Gap = refl
done_is find [] Minus = refl
done_is find [] (InString b w) = refl
done_is find (f ∷ fs) m = refl

none_some : {A : Type 0} (o p : Option A) → is_some o ≡ is_some p → o ≡ None → p ≡ None
none_some None None h e = refl
none_some None (Some y) h e = absurd (cc)
none_some (Some x) p h e = absurd (cc)

read_none : (find other : Finder) (o p : Option State) → seen o ≡ seen p
    → option_and_then (λ s. whole find s.frames s.mode) o ≡ None → option_and_then (λ s. whole other s.frames s.mode) p ≡ None
read_none find other o None h e = refl
read_none find other None (Some t) h e = absurd (cc)
read_none find other (Some s) (Some t) h e =
    none_some (whole find s.frames s.mode) (whole other t.frames t.mode)
    (done_is find s.frames s.mode ∙ ap (λ u. done u.frames u.mode) (unwrapped s t h) ∙ sym (done_is other t.frames t.mode)) e

pub stops_alike : StopsAlike
stops_alike find other t = (none_of (run find t first_state) (run other t first_state) (first_alike find other t), read_none find other (run find t first_state) (run other t first_state) (first_alike find other t))

pub goes_alike : (find other : Finder) (t : List ℕ) (s : State) → run find t first_state ≡ Some s → (u : State) × (run other t first_state ≡ Some u)
goes_alike find other t s e = go (run other t first_state) refl
  where
    go : (o : Option State) → run other t first_state ≡ o → (u : State) × (run other t first_state ≡ Some u)
    go None h = let no : run find t first_state ≡ None = none_of (run other t first_state) (run find t first_state) (first_alike other find t) h in absurd (cc)
    go (Some u) h = (u, h)

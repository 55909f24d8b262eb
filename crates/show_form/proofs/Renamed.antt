-- The reader does not look at the bases of symbols: with other bases it makes the same steps.
use Rattle.std.proofs.Common.{◌≡◌, refl, sym, ap, ◌∙◌, ℕ, ◌-◌, Bool, true, false, List, [], ◌∷◌, ◌++◌, Option, Some, None, option_and_then}
use Rattle.std.specs.Prelude.{◌&&◌, ◌==◌, not}
use Rattle.expr_tree.specs.Tree.{Tree, Trees, integer, string, symbol, normal, nil, cons, trees, call}
use Rattle.expr_tree.specs.Limits.{in_range}
use Rattle.script_text.specs.Spelling.{spelled}
use Rattle.script_text.specs.Reader.{Class, Letter, Digit, Dash, Quote, Opening, Closing, Comma, Space, Other, class_of, Frame, Mode, Starts, Gap, Minus, Number, Name, InString, Have, State, at, signed, grown, when, closed, with_item, after, starts, gap, minus, number, name, symbol_of, escape, in_string, step_in, step, run, ends, whole}

module _ (g : ℕ → ℕ) where
  abbrev mutual
    pub renamed : Tree → Tree
    renamed (integer n) = integer n
    renamed (string t) = string t
    renamed (symbol s) = symbol (record { base = g s.base; number = s.number })
    renamed (normal h es) = normal (renamed h) (all_renamed es)

    pub all_renamed : Trees → Trees
    all_renamed nil = nil
    all_renamed (cons e es) = cons (renamed e) (all_renamed es)

  abbrev pub items_renamed : List Tree → List Tree
  items_renamed [] = []
  items_renamed (e ∷ es) = renamed e ∷ items_renamed es

  abbrev pub frame_renamed : Frame → Frame
  frame_renamed f = record { head = renamed f.head; items = items_renamed f.items }

  abbrev pub frames_renamed : List Frame → List Frame
  frames_renamed [] = []
  frames_renamed (f ∷ fs) = frame_renamed f ∷ frames_renamed fs

  abbrev pub mode_renamed : Mode → Mode
  mode_renamed (Starts closes) = Starts closes
  mode_renamed Gap = Gap
  mode_renamed Minus = Minus
  mode_renamed (Number below n) = Number below n
  mode_renamed (Name w) = Name w
  mode_renamed (InString escaped s) = InString escaped s
  mode_renamed (Have e) = Have (renamed e)

  abbrev pub state_renamed : State → State
  state_renamed s = record { frames = frames_renamed s.frames; mode = mode_renamed s.mode }

  abbrev pub lifted : Option State → Option State
  lifted None = None
  lifted (Some s) = Some (state_renamed s)

  abbrev pub result_renamed : Option Tree → Option Tree
  result_renamed None = None
  result_renamed (Some e) = Some (renamed e)

  trees_renamed : (es : List Tree) → trees (items_renamed es) ≡ all_renamed (trees es)
  trees_renamed [] = refl
  trees_renamed (e ∷ es) = ap (cons (renamed e)) (trees_renamed es)

  items_push : (es : List Tree) (e : Tree) → items_renamed (es ++ (e ∷ [])) ≡ items_renamed es ++ (renamed e ∷ [])
  items_push [] e = refl
  items_push (d ∷ es) e = ap (λ v. renamed d ∷ v) (items_push es e)

  call_renamed : (h : Tree) (es : List Tree) → call (renamed h) (items_renamed es) ≡ renamed (call h es)
  call_renamed h es = ap (normal (renamed h)) (trees_renamed es)

  item_renamed : (e : Tree) (f : Frame) → with_item (renamed e) (frame_renamed f) ≡ frame_renamed (with_item e f)
  item_renamed e f = ap (λ v. record { head = renamed f.head; items = v }) (sym (items_push f.items e))

  closed_is : (frames : List Frame) → closed (frames_renamed frames) ≡ lifted (closed frames)
  closed_is [] = refl
  closed_is (f ∷ fs) = ap (λ e. at (frames_renamed fs) (Have e)) (call_renamed f.head f.items)

  after_is : (frames : List Frame) (e : Tree) (k : Class) → after (frames_renamed frames) (renamed e) k ≡ lifted (after frames e k)
  after_is [] e Opening = refl
  after_is (f ∷ fs) e Opening = refl
  after_is [] e Comma = refl
  after_is (f ∷ fs) e Comma = ap (λ d. at (d ∷ frames_renamed fs) Gap) (item_renamed e f)
  after_is [] e Closing = refl
  after_is (f ∷ fs) e Closing = ap (λ d. closed (d ∷ frames_renamed fs)) (item_renamed e f) ∙ closed_is (with_item e f ∷ fs)
  after_is [] e Letter = refl
  after_is (f ∷ fs) e Letter = refl
  after_is [] e Digit = refl
  after_is (f ∷ fs) e Digit = refl
  after_is [] e Dash = refl
  after_is (f ∷ fs) e Dash = refl
  after_is [] e Quote = refl
  after_is (f ∷ fs) e Quote = refl
  after_is [] e Space = refl
  after_is (f ∷ fs) e Space = refl
  after_is [] e Other = refl
  after_is (f ∷ fs) e Other = refl

  when_is : (b : Bool) (s t : Option State) → s ≡ lifted t → when b s ≡ lifted (when b t)
  when_is true s t e = e
  when_is false s t e = refl

  starts_is : (frames : List Frame) (closes : Bool) (c : ℕ) (k : Class) → starts (frames_renamed frames) closes c k ≡ lifted (starts frames closes c k)
  starts_is frames closes c Letter = refl
  starts_is frames closes c Digit = refl
  starts_is frames closes c Dash = refl
  starts_is frames closes c Quote = refl
  starts_is frames closes c Closing = when_is closes (closed (frames_renamed frames)) (closed frames) (closed_is frames)
  starts_is frames closes c Opening = refl
  starts_is frames closes c Comma = refl
  starts_is frames closes c Space = refl
  starts_is frames closes c Other = refl

  gap_is : (frames : List Frame) (k : Class) → gap (frames_renamed frames) k ≡ lifted (gap frames k)
  gap_is frames Space = refl
  gap_is frames Letter = refl
  gap_is frames Digit = refl
  gap_is frames Dash = refl
  gap_is frames Quote = refl
  gap_is frames Closing = refl
  gap_is frames Opening = refl
  gap_is frames Comma = refl
  gap_is frames Other = refl

  minus_is : (frames : List Frame) (c : ℕ) (k : Class) → minus (frames_renamed frames) c k ≡ lifted (minus frames c k)
  minus_is frames c Digit = when_is (not (c == 48)) (at (frames_renamed frames) (Number true (c - 48))) (at frames (Number true (c - 48))) refl
  minus_is frames c Space = refl
  minus_is frames c Letter = refl
  minus_is frames c Dash = refl
  minus_is frames c Quote = refl
  minus_is frames c Closing = refl
  minus_is frames c Opening = refl
  minus_is frames c Comma = refl
  minus_is frames c Other = refl

  number_is : (frames : List Frame) (below : Bool) (n c : ℕ) (k : Class) → number (frames_renamed frames) below n c k ≡ lifted (number frames below n c k)
  number_is frames below n c Digit =
      when_is (not (n == 0) && in_range (signed below (grown n c))) (at (frames_renamed frames) (Number below (grown n c))) (at frames (Number below (grown n c))) refl
  number_is frames below n c Space = after_is frames (integer (signed below n)) Space
  number_is frames below n c Letter = after_is frames (integer (signed below n)) Letter
  number_is frames below n c Dash = after_is frames (integer (signed below n)) Dash
  number_is frames below n c Quote = after_is frames (integer (signed below n)) Quote
  number_is frames below n c Closing = after_is frames (integer (signed below n)) Closing
  number_is frames below n c Opening = after_is frames (integer (signed below n)) Opening
  number_is frames below n c Comma = after_is frames (integer (signed below n)) Comma
  number_is frames below n c Other = after_is frames (integer (signed below n)) Other

  escape_is : (frames : List Frame) (s : List ℕ) (a b d e : Bool) → escape (frames_renamed frames) s a b d e ≡ lifted (escape frames s a b d e)
  escape_is frames s true b d e = refl
  escape_is frames s false true d e = refl
  escape_is frames s false false true e = refl
  escape_is frames s false false false true = refl
  escape_is frames s false false false false = refl

  in_string_is : (frames : List Frame) (s : List ℕ) (c : ℕ) (a b d e : Bool) → in_string (frames_renamed frames) s c a b d e ≡ lifted (in_string frames s c a b d e)
  in_string_is frames s c true b d e = refl
  in_string_is frames s c false true d e = refl
  in_string_is frames s c false false true e = refl
  in_string_is frames s c false false false true = refl
  in_string_is frames s c false false false false = refl

  module _ (find other : List ℕ → ℕ) (matches : (w : List ℕ) → other w ≡ g (find w)) where
    symbol_is : (w : List ℕ) → symbol (symbol_of other (spelled w)) ≡ renamed (symbol (symbol_of find (spelled w)))
    symbol_is w = ap (λ b. symbol (record { base = b; number = (spelled w).number })) (matches (spelled w).base)

    named_is : (frames : List Frame) (w : List ℕ) (k : Class) → after (frames_renamed frames) (symbol (symbol_of other (spelled w))) k ≡ lifted (after frames (symbol (symbol_of find (spelled w))) k)
    named_is frames w k = ap (λ e. after (frames_renamed frames) e k) (symbol_is w) ∙ after_is frames (symbol (symbol_of find (spelled w))) k

    name_is : (frames : List Frame) (w : List ℕ) (c : ℕ) (k : Class) → name other (frames_renamed frames) w c k ≡ lifted (name find frames w c k)
    name_is frames w c Letter = refl
    name_is frames w c Digit = refl
    name_is frames w c Space = named_is frames w Space
    name_is frames w c Dash = named_is frames w Dash
    name_is frames w c Quote = named_is frames w Quote
    name_is frames w c Closing = named_is frames w Closing
    name_is frames w c Opening = named_is frames w Opening
    name_is frames w c Comma = named_is frames w Comma
    name_is frames w c Other = named_is frames w Other

    step_is : (c : ℕ) (frames : List Frame) (m : Mode) → step_in other c (frames_renamed frames) (mode_renamed m) ≡ lifted (step_in find c frames m)
    step_is c frames (Starts closes) = starts_is frames closes c (class_of c)
    step_is c frames Gap = gap_is frames (class_of c)
    step_is c frames Minus = minus_is frames c (class_of c)
    step_is c frames (Number below n) = number_is frames below n c (class_of c)
    step_is c frames (Name w) = name_is frames w c (class_of c)
    step_is c frames (InString true s) = escape_is frames s (c == 34) (c == 92) (c == 110) (c == 116)
    step_is c frames (InString false s) = in_string_is frames s c (c == 34) (c == 92) (c == 10) (c == 9)
    step_is c frames (Have e) = after_is frames e (class_of c)

    bind_is : (cs : List ℕ) (o : Option State) → ((s : State) → run other cs (state_renamed s) ≡ lifted (run find cs s))
        → option_and_then (run other cs) (lifted o) ≡ lifted (option_and_then (run find cs) o)
    bind_is cs None h = refl
    bind_is cs (Some s) h = h s

    pub run_is : (cs : List ℕ) (s : State) → run other cs (state_renamed s) ≡ lifted (run find cs s)
    run_is [] s = refl
    run_is (c ∷ cs) s = ap (option_and_then (run other cs)) (step_is c s.frames s.mode) ∙ bind_is cs (step find c s) (λ t. run_is cs t)

    ends_is : (m : Mode) → ends other (mode_renamed m) ≡ result_renamed (ends find m)
    ends_is (Starts closes) = refl
    ends_is Gap = refl
    ends_is Minus = refl
    ends_is (Number below n) = refl
    ends_is (Name w) = ap Some (symbol_is w)
    ends_is (InString escaped s) = refl
    ends_is (Have e) = refl

    pub whole_is : (frames : List Frame) (m : Mode) → whole other (frames_renamed frames) (mode_renamed m) ≡ result_renamed (whole find frames m)
    whole_is [] m = ends_is m
    whole_is (f ∷ fs) m = refl

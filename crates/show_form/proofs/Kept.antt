-- What the program keeps goes with the reader of the definitions, byte for byte.
use Rattle.std.proofs.Common.{◌≡◌, refl, sym, ap, ◌∙◌, ℕ, ◌+◌, ◌-◌, ◌≤◌, Bool, true, false, List, [], ◌∷◌, ◌++◌, map, Option, Some, None, option_and_then, true≢false, arith, le-leb}
use Rattle.std.specs.Prelude.{◌&&◌, ◌==◌, not, leb, min, max}
use Rattle.std.proofs.lemmas.Bool.{leb-true}
use Rattle.expr_tree.specs.Tree.{Tree, integer, string, symbol, trees, call, size, sizes, depth, depths}
use Rattle.expr_tree.specs.Limits.{in_range}
use Rattle.script_text.specs.Reader as r
use Rattle.script_text.specs.Spelling.{spelled}
use Rattle.show_form.specs.declared.extent.Extent.{Extent}
use Rattle.show_form.specs.declared.frame.Kept.{Kept}
use Rattle.show_form.specs.declared.frame.Kept.TheVariants as ke
use Rattle.show_form.specs.declared.frame.Frame.{Frame}
use Rattle.show_form.specs.declared.frame.Frame.TheVariants as fr
use Rattle.show_form.specs.declared.mode.Mode.{Mode}
use Rattle.show_form.specs.declared.mode.Mode.TheVariants as mo
use Rattle.show_form.specs.Classes.{kind, kind_of}
use Rattle.show_form.specs.Extents.{extent, parts_extent, joined, deepened, fits}
use Rattle.show_form.specs.Frames.{kept, kept_by, kept_extent, opened, added, closed}
use Rattle.show_form.specs.Steps.{State, with_mode, when, shut, after, starts, gap, minus, number, name, escape, in_string, in_text, step_by, step, run, last, whole}
use Rattle.show_form.proofs.Extents.{parts_none, parts_push, same_extent}

-- ---- what is kept

abbrev pub all_fit : List Tree → Bool
all_fit [] = true
all_fit (e ∷ es) = fits e && all_fit es

abbrev frame_by : Bool → r.Frame → Frame
frame_by true f = fr.Parts f.head f.items
frame_by false f = fr.Beyond (parts_extent f.head f.items)

abbrev pub frame_of : r.Frame → Frame
frame_of f = frame_by (fits f.head && all_fit f.items) f

abbrev pub frames_of : List r.Frame → List Frame
frames_of [] = []
frames_of (f ∷ fs) = frame_of f ∷ frames_of fs

abbrev pub mode_of : r.Mode → Mode
mode_of (r.Starts closes) = mo.Starts closes
mode_of r.Gap = mo.Gap
mode_of r.Minus = mo.Minus
mode_of (r.Number below n) = mo.Number (record { below = below; magnitude = n })
mode_of (r.Name w) = mo.Name w
mode_of (r.InString escaped s) = mo.InString escaped s
mode_of (r.Have e) = mo.Have (kept e)

abbrev pub state_of : r.State → State
state_of s = (frames_of s.frames, mode_of s.mode)

abbrev pub lifted : Option r.State → Option State
lifted None = None
lifted (Some s) = Some (state_of s)

abbrev pub kept_of : Option Tree → Option Kept
kept_of None = None
kept_of (Some e) = Some (kept e)

-- ---- frames

both_true : (a b : Bool) → (a && b) ≡ true → (a ≡ true) × (b ≡ true)
both_true true b e = (refl, e)
both_true false b e = absurd (true≢false (sym e))

fits_push : (es : List Tree) (e : Tree) → all_fit (es ++ (e ∷ [])) ≡ (all_fit es && fits e)
fits_push [] e = go (fits e)
  where
    go : (b : Bool) → (b && true) ≡ b
    go true = refl
    go false = refl
fits_push (d ∷ es) e = ap (λ b. fits d && b) (fits_push es e) ∙ go (fits d)
  where
    go : (b : Bool) → (b && (all_fit es && fits e)) ≡ ((b && all_fit es) && fits e)
    go true = refl
    go false = refl

opened_is : (e : Tree) → opened (kept e) ≡ frame_of (record { head = e; items = [] })
opened_is e = go (fits e)
  where
    go : (b : Bool) → opened (kept_by b e) ≡ frame_by (b && true) (record { head = e; items = [] })
    go true = refl
    go false = ap fr.Beyond (sym (parts_none e))

extent_kept : (b : Bool) (e : Tree) → kept_extent (kept_by b e) ≡ extent e
extent_kept true e = refl
extent_kept false e = refl

added_is : (f : r.Frame) (e : Tree) → added (frame_of f) (kept e) ≡ frame_of (r.with_item e f)
added_is f e = go (fits f.head) (all_fit f.items) (fits e) ∙ ap (λ b. frame_by (fits f.head && b) (r.with_item e f)) (sym (fits_push f.items e))
  where
    beyond : Frame
    beyond = fr.Beyond (parts_extent f.head (f.items ++ (e ∷ [])))

    past : (b : Bool) → added (fr.Beyond (parts_extent f.head f.items)) (kept_by b e) ≡ beyond
    past b = ap (λ x. fr.Beyond (joined (parts_extent f.head f.items) x)) (extent_kept b e) ∙ ap fr.Beyond (sym (parts_push f.head f.items e))

    go : (p q b : Bool) → added (frame_by (p && q) f) (kept_by b e) ≡ frame_by (p && (q && b)) (r.with_item e f)
    go true true true = refl
    go true true false = ap fr.Beyond (sym (parts_push f.head f.items e))
    go true false b = past b
    go false q b = past b

fits_within : (e : Tree) → size e ≤ 4000000 → depth e ≤ 512 → fits e ≡ true
fits_within e p q = rw (le-leb (size e) 4000000 p, le-leb (depth e) 512 q) refl

all_within : (es : List Tree) → sizes (trees es) ≤ 4000000 → depths (trees es) ≤ 512 → all_fit es ≡ true
all_within [] p q = refl
all_within (e ∷ es) p q = rw (fits_within e (omega arith) (omega arith)) (all_within es (omega arith) (omega arith))

deepened_is : (h : Tree) (es : List Tree) → deepened (parts_extent h es) ≡ extent (call h es)
deepened_is h es =
    same_extent (min (size h + sizes (trees es)) 4000001) (min (max (depth h) (depths (trees es))) 513 + 1)
    (size h + sizes (trees es)) (1 + max (depth h) (depths (trees es))) (omega arith) (omega arith)

closed_is : (f : r.Frame) → closed (frame_of f) ≡ kept (call f.head f.items)
closed_is f = go (fits f.head) (all_fit f.items) (fits (call f.head f.items)) refl refl refl
  where
    go : (p q b : Bool) → fits f.head ≡ p → all_fit f.items ≡ q → fits (call f.head f.items) ≡ b → closed (frame_by (p && q) f) ≡ kept_by b (call f.head f.items)
    go true true b ep eq eb = ap (λ k. kept_by k (call f.head f.items)) eb
    go p q false ep eq eb = cases p q
      where
        cases : (p q : Bool) → closed (frame_by (p && q) f) ≡ kept_by false (call f.head f.items)
        cases true true = ap (λ k. kept_by k (call f.head f.items)) eb
        cases true false = ap ke.Beyond (deepened_is f.head f.items)
        cases false q = ap ke.Beyond (deepened_is f.head f.items)
    go true false true ep eq eb =
        let both = both_true (leb (size (call f.head f.items)) 4000000) (leb (depth (call f.head f.items)) 512) eb in
        let p = leb-true (size (call f.head f.items)) 4000000 both.0 in
        let q = leb-true (depth (call f.head f.items)) 512 both.1 in
        absurd (true≢false (sym (all_within f.items (omega arith) (omega arith)) ∙ eq))
    go false q true ep eq eb =
        let both = both_true (leb (size (call f.head f.items)) 4000000) (leb (depth (call f.head f.items)) 512) eb in
        let p = leb-true (size (call f.head f.items)) 4000000 both.0 in
        let q = leb-true (depth (call f.head f.items)) 512 both.1 in
        absurd (true≢false (sym (fits_within f.head (omega arith) (omega arith)) ∙ ep))

-- ---- one byte

shut_is : (frames : List r.Frame) → shut (frames_of frames) ≡ lifted (r.closed frames)
shut_is [] = refl
shut_is (f ∷ fs) = ap (λ k. Some (frames_of fs, mo.Have k)) (closed_is f)

after_is : (frames : List r.Frame) (e : Tree) (k : r.Class) → after (frames_of frames) (kept e) (kind k) ≡ lifted (r.after frames e k)
after_is [] e r.Opening = ap (λ f. Some (f ∷ [], mo.Starts true)) (opened_is e)
after_is (f ∷ fs) e r.Opening = ap (λ g. Some (g ∷ frames_of (f ∷ fs), mo.Starts true)) (opened_is e)
after_is [] e r.Comma = refl
after_is (f ∷ fs) e r.Comma = ap (λ g. Some (g ∷ frames_of fs, mo.Gap)) (added_is f e)
after_is [] e r.Closing = refl
after_is (f ∷ fs) e r.Closing = ap (λ g. Some (frames_of fs, mo.Have (closed g))) (added_is f e) ∙ ap (λ k. Some (frames_of fs, mo.Have k)) (closed_is (r.with_item e f))
after_is [] e r.Letter = refl
after_is (f ∷ fs) e r.Letter = refl
after_is [] e r.Digit = refl
after_is (f ∷ fs) e r.Digit = refl
after_is [] e r.Dash = refl
after_is (f ∷ fs) e r.Dash = refl
after_is [] e r.Quote = refl
after_is (f ∷ fs) e r.Quote = refl
after_is [] e r.Space = refl
after_is (f ∷ fs) e r.Space = refl
after_is [] e r.Other = refl
after_is (f ∷ fs) e r.Other = refl

when_is : (b : Bool) (s : Option State) (t : Option r.State) → s ≡ lifted t → when b s ≡ lifted (r.when b t)
when_is true s t e = e
when_is false s t e = refl

starts_is : (frames : List r.Frame) (closes : Bool) (c : ℕ) (k : r.Class) → starts (frames_of frames) closes c (kind k) ≡ lifted (r.starts frames closes c k)
starts_is frames closes c r.Letter = refl
starts_is frames closes c r.Digit = refl
starts_is frames closes c r.Dash = refl
starts_is frames closes c r.Quote = refl
starts_is frames closes c r.Closing = when_is closes (shut (frames_of frames)) (r.closed frames) (shut_is frames)
starts_is frames closes c r.Opening = refl
starts_is frames closes c r.Comma = refl
starts_is frames closes c r.Space = refl
starts_is frames closes c r.Other = refl

gap_is : (frames : List r.Frame) (k : r.Class) → gap (frames_of frames) (kind k) ≡ lifted (r.gap frames k)
gap_is frames r.Space = refl
gap_is frames r.Letter = refl
gap_is frames r.Digit = refl
gap_is frames r.Dash = refl
gap_is frames r.Quote = refl
gap_is frames r.Closing = refl
gap_is frames r.Opening = refl
gap_is frames r.Comma = refl
gap_is frames r.Other = refl

minus_is : (frames : List r.Frame) (c : ℕ) (k : r.Class) → minus (frames_of frames) c (kind k) ≡ lifted (r.minus frames c k)
minus_is frames c r.Digit =
    when_is (not (c == 48)) (Some (frames_of frames, mo.Number (record { below = true; magnitude = c - 48 }))) (r.at frames (r.Number true (c - 48))) refl
minus_is frames c r.Space = refl
minus_is frames c r.Letter = refl
minus_is frames c r.Dash = refl
minus_is frames c r.Quote = refl
minus_is frames c r.Closing = refl
minus_is frames c r.Opening = refl
minus_is frames c r.Comma = refl
minus_is frames c r.Other = refl

number_is : (frames : List r.Frame) (below : Bool) (n c : ℕ) (k : r.Class)
    → number (frames_of frames) (record { below = below; magnitude = n }) c (kind k) ≡ lifted (r.number frames below n c k)
number_is frames below n c r.Digit =
    when_is (not (n == 0) && in_range (r.signed below (r.grown n c)))
    (Some (frames_of frames, mo.Number (record { below = below; magnitude = r.grown n c }))) (r.at frames (r.Number below (r.grown n c))) refl
number_is frames below n c r.Space = after_is frames (integer (r.signed below n)) r.Space
number_is frames below n c r.Letter = after_is frames (integer (r.signed below n)) r.Letter
number_is frames below n c r.Dash = after_is frames (integer (r.signed below n)) r.Dash
number_is frames below n c r.Quote = after_is frames (integer (r.signed below n)) r.Quote
number_is frames below n c r.Closing = after_is frames (integer (r.signed below n)) r.Closing
number_is frames below n c r.Opening = after_is frames (integer (r.signed below n)) r.Opening
number_is frames below n c r.Comma = after_is frames (integer (r.signed below n)) r.Comma
number_is frames below n c r.Other = after_is frames (integer (r.signed below n)) r.Other

name_is : (find : List ℕ → ℕ) (frames : List r.Frame) (w : List ℕ) (c : ℕ) (k : r.Class) → name find (frames_of frames) w c (kind k) ≡ lifted (r.name find frames w c k)
name_is find frames w c r.Letter = refl
name_is find frames w c r.Digit = refl
name_is find frames w c r.Space = after_is frames (symbol (r.symbol_of find (spelled w))) r.Space
name_is find frames w c r.Dash = after_is frames (symbol (r.symbol_of find (spelled w))) r.Dash
name_is find frames w c r.Quote = after_is frames (symbol (r.symbol_of find (spelled w))) r.Quote
name_is find frames w c r.Closing = after_is frames (symbol (r.symbol_of find (spelled w))) r.Closing
name_is find frames w c r.Opening = after_is frames (symbol (r.symbol_of find (spelled w))) r.Opening
name_is find frames w c r.Comma = after_is frames (symbol (r.symbol_of find (spelled w))) r.Comma
name_is find frames w c r.Other = after_is frames (symbol (r.symbol_of find (spelled w))) r.Other

escape_is : (frames : List r.Frame) (s : List ℕ) (a b d e : Bool) → with_mode (frames_of frames) (escape s a b d e) ≡ lifted (r.escape frames s a b d e)
escape_is frames s true b d e = refl
escape_is frames s false true d e = refl
escape_is frames s false false true e = refl
escape_is frames s false false false true = refl
escape_is frames s false false false false = refl

in_string_is : (frames : List r.Frame) (s : List ℕ) (c : ℕ) (a b d e : Bool) → with_mode (frames_of frames) (in_string s c a b d e) ≡ lifted (r.in_string frames s c a b d e)
in_string_is frames s c true b d e = refl
in_string_is frames s c false true d e = refl
in_string_is frames s c false false true e = refl
in_string_is frames s c false false false true = refl
in_string_is frames s c false false false false = refl

step_in_is : (find : List ℕ → ℕ) (c : ℕ) (frames : List r.Frame) (m : r.Mode) → step_by find c (kind_of c) (frames_of frames) (mode_of m) ≡ lifted (r.step_in find c frames m)
step_in_is find c frames (r.Starts closes) = starts_is frames closes c (r.class_of c)
step_in_is find c frames r.Gap = gap_is frames (r.class_of c)
step_in_is find c frames r.Minus = minus_is frames c (r.class_of c)
step_in_is find c frames (r.Number below n) = number_is frames below n c (r.class_of c)
step_in_is find c frames (r.Name w) = name_is find frames w c (r.class_of c)
step_in_is find c frames (r.InString true s) = escape_is frames s (c == 34) (c == 92) (c == 110) (c == 116)
step_in_is find c frames (r.InString false s) = in_string_is frames s c (c == 34) (c == 92) (c == 10) (c == 9)
step_in_is find c frames (r.Have e) = after_is frames e (r.class_of c)

-- ---- a text

bind_is : (find : List ℕ → ℕ) (cs : List ℕ) (o : Option r.State) → ((s : r.State) → run find cs (state_of s) ≡ lifted (r.run find cs s))
    → option_and_then (run find cs) (lifted o) ≡ lifted (option_and_then (r.run find cs) o)
bind_is find cs None h = refl
bind_is find cs (Some s) h = h s

pub run_is : (find : List ℕ → ℕ) (cs : List ℕ) (s : r.State) → run find cs (state_of s) ≡ lifted (r.run find cs s)
run_is find [] s = refl
run_is find (c ∷ cs) s =
    ap (option_and_then (run find cs)) (step_in_is find c s.frames s.mode) ∙ bind_is find cs (r.step find c s) (λ t. run_is find cs t)

last_is : (find : List ℕ → ℕ) (m : r.Mode) → last find (mode_of m) ≡ kept_of (r.ends find m)
last_is find (r.Starts closes) = refl
last_is find r.Gap = refl
last_is find r.Minus = refl
last_is find (r.Number below n) = refl
last_is find (r.Name w) = refl
last_is find (r.InString escaped s) = refl
last_is find (r.Have e) = refl

pub whole_is : (find : List ℕ → ℕ) (s : r.State) → whole find (state_of s) ≡ kept_of (r.whole find s.frames s.mode)
whole_is find s = go s.frames
  where
    go : (frames : List r.Frame) → whole find (frames_of frames, mode_of s.mode) ≡ kept_of (r.whole find frames s.mode)
    go [] = last_is find s.mode
    go (f ∷ fs) = refl

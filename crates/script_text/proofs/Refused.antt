-- Where the reader stops, no full form goes on.
use Rattle.std.proofs.Common.{◌≡◌, refl, ap, ◌∙◌, ℕ, Bool, true, false, List, [], ◌∷◌, ◌++◌, append_assoc, Option, Some, None, option_and_then}
use Rattle.expr_tree.specs.Tree.{Tree, Trees, integer, string, symbol, normal, nil, cons, call}
use Rattle.script_text.specs.Spelling.{Spelling, spelled, symbol_text}
use Rattle.script_text.specs.Full.{full, full_items, full_others}
use Rattle.script_text.specs.FullForm.{IsWritten, AreWritten}
use Rattle.script_text.specs.Reader.{Frame, Mode, Starts, Name, Have, State, at, run, step, ends, symbol_of, first_state, read, whole}
use Rattle.script_text.specs.Laws.{StopsRightly, Accepts}
use Rattle.script_text.proofs.Again.{Finder, state, run_then, int_reaches, string_run, name_starts, opens, closes_by, goes_on}

-- some expression is whole behind the text
record Runs (find : Finder) (frames : List Frame) (closes : Bool) (t : List ℕ) : Type 0 where
  mode : Mode
  tree : Tree
  runs : run find t (state frames (Starts closes)) ≡ at frames mode
  whole : ends find mode ≡ Some tree

mutual
  runs_over : (find : Finder) (spelling : Spelling) (e : Tree) → IsWritten spelling e → (frames : List Frame) (closes : Bool) → Runs find frames closes (full spelling e)
  runs_over find spelling (integer n) w frames closes =
      let r = int_reaches find frames closes n w in
      record { mode = r.mode; tree = integer n; runs = r.runs; whole = r.whole }
  runs_over find spelling (string t) w frames closes = record { mode = Have (string t); tree = string t; runs = string_run find frames [] t; whole = refl }
  runs_over find spelling (symbol s) w frames closes =
      record {
        mode = Name (symbol_text spelling s);
        tree = symbol (symbol_of find (spelled (symbol_text spelling s)));
        runs = name_starts find frames closes (symbol_text spelling s) w.is_name;
        whole = refl;
      }
  runs_over find spelling (normal h es) w frames closes =
      let r = runs_over find spelling h w.0 frames closes in
      let i = items_over find spelling es w.1 frames r.tree in
      record {
        mode = Have i.0;
        tree = i.0;
        runs =
            run_then find (full spelling h) (91 ∷ full_items spelling es ++ (93 ∷ [])) (state frames (Starts closes)) (state frames r.mode) r.runs
            ∙ ap (option_and_then (run find (full_items spelling es ++ (93 ∷ [])))) (opens find frames r.mode r.tree r.whole)
            ∙ i.1;
        whole = refl;
      }

  items_over : (find : Finder) (spelling : Spelling) (es : Trees) → AreWritten spelling es → (frames : List Frame) (h : Tree)
      → (f : Tree) × (run find (full_items spelling es ++ (93 ∷ [])) (state (record { head = h; items = [] } ∷ frames) (Starts true)) ≡ at frames (Have f))
  items_over find spelling nil w frames h = (call h [], refl)
  items_over find spelling (cons e es) w frames h =
      let inner : List Frame = record { head = h; items = [] } ∷ frames in
      let r = runs_over find spelling e w.0 inner true in
      let o = others_over find spelling es w.1 frames h [] r.mode r.tree r.whole in (
        o.0,
        ap (λ v. run find v (state inner (Starts true))) (append_assoc (full spelling e) (full_others spelling es) (93 ∷ []))
            ∙ run_then find (full spelling e) (full_others spelling es ++ (93 ∷ [])) (state inner (Starts true)) (state inner r.mode) r.runs
            ∙ o.1,
      )

  others_over : (find : Finder) (spelling : Spelling) (es : Trees) → AreWritten spelling es → (frames : List Frame) (h : Tree) (items : List Tree)
      (m : Mode) (e : Tree) → ends find m ≡ Some e
      → (f : Tree) × (run find (full_others spelling es ++ (93 ∷ [])) (state (record { head = h; items = items } ∷ frames) m) ≡ at frames (Have f))
  others_over find spelling nil w frames h items m e q =
      (call h (items ++ (e ∷ [])), ap (option_and_then (run find [])) (closes_by find (record { head = h; items = items } ∷ frames) m e q))
  others_over find spelling (cons f es) w frames h items m e q =
      let inner : List Frame = record { head = h; items = items ++ (e ∷ []) } ∷ frames in
      let r = runs_over find spelling f w.0 inner false in
      let o = others_over find spelling es w.1 frames h (items ++ (e ∷ [])) r.mode r.tree r.whole in (
        o.0,
        ap (option_and_then (run find (32 ∷ (full spelling f ++ full_others spelling es) ++ (93 ∷ [])))) (goes_on find (record { head = h; items = items } ∷ frames) m e q)
            ∙ ap (λ v. run find v (state inner (Starts false))) (append_assoc (full spelling f) (full_others spelling es) (93 ∷ []))
            ∙ run_then find (full spelling f) (full_others spelling es ++ (93 ∷ [])) (state inner (Starts false)) (state inner r.mode) r.runs
            ∙ o.1,
      )

-- what stops goes on stopping
bind_none : (find : Finder) (cs ds : List ℕ) (o : Option State) → ((s : State) → run find cs s ≡ None → run find (cs ++ ds) s ≡ None)
    → option_and_then (run find cs) o ≡ None → option_and_then (run find (cs ++ ds)) o ≡ None
bind_none find cs ds None h e = refl
bind_none find cs ds (Some s) h e = h s e

stopped : (find : Finder) (cs ds : List ℕ) (s : State) → run find cs s ≡ None → run find (cs ++ ds) s ≡ None
stopped find [] ds s e = cc
stopped find (c ∷ cs) ds s e = bind_none find cs ds (step find c s) (λ t h. stopped find cs ds t h) e

pub accepts : Accepts
accepts find t f =
    let r = runs_over find f.0 f.1 f.2.written [] false in
    (r.tree, ap (read find) f.2.text ∙ ap (option_and_then (λ s. whole find s.frames s.mode)) r.runs ∙ r.whole)

pub stops_rightly : StopsRightly
stops_rightly find t rest e f =
    let r = runs_over find f.0 f.1 f.2.written [] false in
    let p : run find (t ++ rest) first_state ≡ None = stopped find t rest first_state e in
    let q : run find (t ++ rest) first_state ≡ at [] r.mode = ap (λ v. run find v first_state) f.2.text ∙ r.runs in
    cc

-- A reader from left to right that keeps what is open on a stack reads what the grammar reads, whatever the constructs give; and where
-- it does not stop, some reading goes on.
use Rattle.std.proofs.Common.{◌≡◌, ℕ, zero, suc, ◌+◌, ◌<◌, ◌≤◌, min, Bool, true, false, nat_lt, nat_le, cond, if◌then◌else◌, List, [], ◌∷◌, ◌++◌, length, Option, Some, None, option_and_then, refl, sym, ap, ◌∙◌, subst, lt-ltb, le-leb, le-ltb, arith, le_trans, append_assoc, append-nil, leb-true, ltb-true, map}
use Rattle.std.specs.Prelude.{pos}
use Rattle.expr_tree.specs.Tree.{integer}
use Rattle.semantics.specs.declared.builtin.Builtin.{Builtin}
use Rattle.syntax.specs.Signs.{Sign}
use Rattle.syntax.specs.Operators.{Operator, Prefix, Postfix, infix_row, level_of, right_of, leads_at, trails_at, tags_of}
use Rattle.syntax.specs.Terminals.{Phrase, NumberToken, Word, Value, Mark, Terminal, Bracket, Opening, Start, Next, start_of, next_of, word_start, word_next, on_line, sign_next}
use Rattle.syntax.specs.Phrases.{Constructs}
use Rattle.syntax.specs.Grammar.{nesting_limit, IsJoin, joins, sequence, PhraseOf, operand, group, braces, leads, binary, beside, trails, call, part, tags, WholeOf, plain, ends, RowOf, one, more, ElementsOf, none, row}
use Rattle.syntax.proofs.Table.{right_above, level_right, leads_above, tags_level, level_low, trails_low, CanStart, can_begin, CanBegin}

-- Terminals that can end what is open.
pub data Filler : Type 0 where
  One Round Curly Square Assign : Filler

abbrev pub one_phrase : Phrase
one_phrase = record { expr = integer (pos 1); kind = NumberToken }

abbrev pub filler_word : Filler → Word
filler_word One = Value (record { expr = integer (pos 1); kind = NumberToken })
filler_word Round = Mark Sign.CloseParen
filler_word Curly = Mark Sign.CloseBrace
filler_word Square = Mark Sign.CloseBracket
filler_word Assign = Mark Sign.Assign

abbrev pub fill : Filler → Terminal
fill f = record { word = filler_word f; after_line = false }

abbrev pub fills : List Filler → List Terminal
fills fs = map fill fs

module _ (P Q L : Type 0) (A : Constructs P Q L) where
  pub data Opened : Type 0 where
    OList : Opened
    OCall : Q → Opened
    OPart : Opened

  pub data Frame : Type 0 where
    FGroup : Frame
    FElements : Opened → L → Frame
    FLeads : Prefix → Frame
    FJoins : Operator → P → Frame
    FBeside : P → Frame
    FTag : P → Frame
    FOuter : Q → Frame
    FTagged : Builtin → P → P → Frame

  pub data Mode : Type 0 where
    MWant : Mode
    MHave : P → Mode
    MSemicolon : P → Mode
    MOpen : Opened → Mode
    MHalf : L → Mode

  -- What stands open, the innermost first, and what was read last.
  abbrev pub State : Type 0
  State = List Frame × Mode

  -- The level that is asked of the phrase in a frame.
  unfoldable pub frame_level : Frame → ℕ
  frame_level FGroup = 2
  frame_level (FElements opening xs) = 2
  frame_level (FLeads op) = leads_at op
  frame_level (FJoins op x) = right_of op
  frame_level (FBeside x) = right_of Operator.Times
  frame_level (FTag x) = 4
  frame_level (FOuter x) = 2
  frame_level (FTagged form x y) = 3

  unfoldable pub level_at : List Frame → ℕ
  level_at [] = 2
  level_at (F ∷ K) = frame_level F

  -- What a frame makes of its last operand, where it needs no further token.
  unfoldable pub completed : Frame → P → Option P
  completed (FLeads op) x = Some (A.of_lead op x)
  completed (FJoins op y) x = Some (A.of_join op y x)
  completed (FBeside y) x = Some (A.of_join Operator.Times y x)
  completed (FTagged form y z) x = Some (A.of_tag form y z x)
  completed _ x = None

  unfoldable pub popped : ℕ → Frame → P → Option P
  popped level F x = if nat_lt level (frame_level F) then completed F x else None

  abbrev pub pops : Option P → Frame → List Frame → P → (P → List Frame × P) → List Frame × P
  pops (Some y) F K x next = next y
  pops None F K x next = (F ∷ K, x)

  -- The frames that bind tighter than the level are closed.
  unfoldable pub reduce : ℕ → List Frame → P → List Frame × P
  reduce level [] x = ([], x)
  reduce level (F ∷ K) x = pops (popped level F x) F K x (reduce level K)

  unfoldable pub push : Frame → List Frame → Option State
  push F K = if nat_lt (length K) nesting_limit then Some (F ∷ K, MWant) else None

  -- A phrase begins.
  unfoldable pub begins : Start → List Frame → Option State
  begins (Start.Operand l) K = Some (K, MHave (A.of_leaf l))
  begins (Start.Leads op) K = push (FLeads op) K
  begins (Start.Opens Opening.Group) K = push FGroup K
  begins (Start.Opens Opening.Braces) K = Some (K, MOpen OList)
  begins Start.NoStart K = None

  -- A phrase begins in a new frame.
  unfoldable pub begins_in : Frame → Terminal → List Frame → Option State
  begins_in F t K = option_and_then (λ s. begins (start_of t) s.0) (push F K)

  unfoldable pub only_at : ℕ → List Frame → Option State → Option State
  only_at level K s = if nat_le (level_at K) level then s else None

  unfoldable pub attached : Operator → List Frame → P → Option State
  attached op K x = only_at (level_of op) K (if A.accepts op x then push (FJoins op x) K else None)

  unfoldable pub tag_on_top : List Frame → Option (P × List Frame)
  tag_on_top (FTag x ∷ K) = Some (x, K)
  tag_on_top _ = None

  abbrev pub joined_by : Option Builtin → Option (P × List Frame) → Operator → List Frame → P → Option State
  joined_by (Some form) (Some t) op K x = Some (FTagged form t.0 x ∷ t.1, MWant)
  joined_by _ _ op K x = attached op K x

  unfoldable pub joined : Operator → List Frame → P → Option State
  joined op K x = joined_by (tags_of op) (tag_on_top K) op K x

  unfoldable pub separated : List Frame → P → Option State
  separated (FElements opening xs ∷ K) x = Some (FElements opening (A.added xs (A.expr_of x)) ∷ K, MWant)
  separated _ x = None

  -- Whether the bracket closes what was opened.
  unfoldable pub closes : Bracket → Opened → Bool
  closes Bracket.Curly OList = true
  closes Bracket.Square (OCall x) = true
  closes Bracket.Square OPart = true
  closes _ _ = false

  -- What the elements make; a part wants a second bracket.
  unfoldable pub made : Opened → L → Mode
  made OList xs = MHave (A.of_list xs)
  made (OCall x) xs = MHave (A.of_call x xs)
  made OPart xs = MHalf xs

  unfoldable pub closed_elements : Bracket → Opened → L → List Frame → Option State
  closed_elements c opening xs K = if closes c opening then Some (K, made opening xs) else None

  unfoldable pub closed_group : Bracket → List Frame → P → Option State
  closed_group Bracket.Round K x = Some (K, MHave (A.of_group x))
  closed_group _ K x = None

  unfoldable pub closed : Bracket → List Frame → P → Option State
  closed c (FGroup ∷ K) x = closed_group c K x
  closed c (FElements opening xs ∷ K) x = closed_elements c opening (A.added xs (A.expr_of x)) K
  closed c _ x = None

  -- A phrase goes on, where the frames that bind tighter are closed.
  unfoldable pub goes_on : Next → Terminal → List Frame → P → Option State
  goes_on (Next.Joins op) t K x = joined op K x
  goes_on Next.Semicolon t K x = only_at 2 K (Some (K, MSemicolon x))
  goes_on Next.Beside t K x = only_at (level_of Operator.Times) K (begins_in (FBeside x) t K)
  goes_on Next.Tags t K x = only_at 3 K (push (FTag x) K)
  goes_on (Next.Trails op) t K x = only_at (trails_at op) K (Some (K, MHave (A.of_trail op x)))
  goes_on Next.Elements t K x = only_at 25 K (Some (K, MOpen (OCall (A.expr_of x))))
  goes_on Next.Comma t K x = separated K x
  goes_on (Next.Closes c) t K x = closed c K x
  goes_on Next.NoNext t K x = None

  unfoldable pub next_level : Next → ℕ
  next_level (Next.Joins op) = level_of op
  next_level Next.Semicolon = 2
  next_level Next.Beside = level_of Operator.Times
  next_level Next.Tags = 3
  next_level (Next.Trails op) = trails_at op
  next_level Next.Elements = 25
  next_level Next.Comma = 0
  next_level (Next.Closes c) = 0
  next_level Next.NoNext = 0

  unfoldable pub follows_phrase : Next → Terminal → List Frame → P → Option State
  follows_phrase n t K x = let r = reduce (next_level n) K x in goes_on n t r.0 r.1

  unfoldable pub follows_semicolon : Next → Terminal → List Frame → P → Option State
  follows_semicolon Next.Comma t K x = separated K (A.of_end x)
  follows_semicolon (Next.Closes c) t K x = closed c K (A.of_end x)
  follows_semicolon _ t K x = begins_in (FJoins Operator.CompoundExpression x) t K

  -- The second bracket of a part.
  unfoldable pub part_opened : List Frame → Q → Option State
  part_opened K x = if nat_lt (length K) nesting_limit then Some (FOuter x ∷ K, MOpen OPart) else None

  unfoldable pub follows_opening : Next → Terminal → List Frame → Opened → Option State
  follows_opening (Next.Closes c) t K opening = closed_elements c opening A.no_elements K
  follows_opening Next.Elements t K (OCall x) = part_opened K x
  follows_opening _ t K opening = begins_in (FElements opening A.no_elements) t K

  unfoldable pub follows_half : Next → List Frame → L → Option State
  follows_half (Next.Closes Bracket.Square) (FOuter x ∷ K) xs = Some (K, MHave (A.of_part x xs))
  follows_half _ K xs = None

  unfoldable pub follows : Mode → Terminal → List Frame → Option State
  follows MWant t K = begins (start_of t) K
  follows (MHave x) t K = follows_phrase (next_of t) t K x
  follows (MSemicolon x) t K = follows_semicolon (next_of t) t K x
  follows (MOpen opening) t K = follows_opening (next_of t) t K opening
  follows (MHalf xs) t K = follows_half (next_of t) K xs

  abbrev pub step : Terminal → State → Option State
  step t s = follows s.1 t s.0

  unfoldable pub run : List Terminal → State → Option State
  run [] s = Some s
  run (t ∷ ts) s = option_and_then (run ts) (step t s)

  abbrev pub at_bottom : List Frame → P → Option P
  at_bottom [] x = Some x
  at_bottom (F ∷ K) x = None

  unfoldable pub finished : Mode → List Frame → Option P
  finished (MHave x) K = let r = reduce 0 K x in at_bottom r.0 r.1
  finished (MSemicolon x) K = at_bottom K (A.of_end x)
  finished _ K = None

  abbrev pub start_state : State
  start_state = ([], MWant)

  bind_then : (ls rs : List Terminal) (s' : State) (o : Option State) →
      ((s : State) → run ls s ≡ Some s' → run (ls ++ rs) s ≡ run rs s') →
      option_and_then (run ls) o ≡ Some s' → option_and_then (run (ls ++ rs)) o ≡ run rs s'
  bind_then ls rs s' None h e = cc
  bind_then ls rs s' (Some s) h e = h s e

  -- Tokens are read one list after another.
  pub run_then : (ls rs : List Terminal) (s s' : State) → run ls s ≡ Some s' → run (ls ++ rs) s ≡ run rs s'
  unfolding run
  run_then [] rs s s' e = let q : s ≡ s' = cc in ap (run rs) q
  run_then (t ∷ ls) rs s s' e = bind_then ls rs s' (step t s) (λ s₁ h. run_then ls rs s₁ s' h) e

  pub run_step : (t : Terminal) (ts : List Terminal) (s s' : State) → step t s ≡ Some s' → run (t ∷ ts) s ≡ run ts s'
  unfolding run
  run_step t ts s s' e = ap (option_and_then (run ts)) e

  -- One more token at the end.
  pub run_last : (ls rs : List Terminal) (t : Terminal) (s s' : State) → run ls s ≡ Some s' → run (ls ++ t ∷ rs) s ≡ option_and_then (run rs) (step t s')
  unfolding run
  run_last ls rs t s s' e = run_then ls (t ∷ rs) s s' e

  pub completed_level : (F : Frame) (x y : P) → completed F x ≡ Some y → 2 < frame_level F
  unfolding completed frame_level
  completed_level FGroup x y e = cc
  completed_level (FElements opening xs) x y e = cc
  completed_level (FLeads op) x y e = let h : 3 < leads_at op = leads_above op in omega arith
  completed_level (FJoins op z) x y e = right_above op
  completed_level (FBeside z) x y e = right_above Operator.Times
  completed_level (FTag z) x y e = cc
  completed_level (FOuter z) x y e = cc
  completed_level (FTagged form z v) x y e = omega arith

  pub popped_some : (level : ℕ) (F : Frame) (x y : P) → level < frame_level F → completed F x ≡ Some y → popped level F x ≡ Some y
  unfolding popped
  popped_some level F x y h e = rw (lt-ltb level (frame_level F) h) e

  pub popped_low : (level : ℕ) (F : Frame) (x : P) → frame_level F ≤ level → popped level F x ≡ None
  unfolding popped
  popped_low level F x h = rw (le-ltb level (frame_level F) h)

  reduce_pops : (level : ℕ) (F : Frame) (K : List Frame) (x y : P) → popped level F x ≡ Some y → reduce level (F ∷ K) x ≡ reduce level K y
  unfolding reduce
  reduce_pops level F K x y e = ap (λ p. pops p F K x (reduce level K)) e

  pub reduce_some : (level : ℕ) (F : Frame) (K : List Frame) (x y : P) → level < frame_level F → completed F x ≡ Some y → reduce level (F ∷ K) x ≡ reduce level K y
  reduce_some level F K x y h e = reduce_pops level F K x y (popped_some level F x y h e)

  pub reduce_none : (level : ℕ) (F : Frame) (K : List Frame) (x : P) → popped level F x ≡ None → reduce level (F ∷ K) x ≡ (F ∷ K, x)
  unfolding reduce
  reduce_none level F K x e = ap (λ p. pops p F K x (reduce level K)) e

  -- What the last phrase was closes to a phrase over fewer frames, all of whose levels are the edge or more.
  pub data Closes (edge : ℕ) (K : List Frame) (x : P) : List Frame → P → Type 0 where
    here : Closes edge K x K x
    pop : {F : Frame} {L : List Frame} {y z : P} → completed F y ≡ Some z → edge ≤ frame_level F → Closes edge K x L z → Closes edge K x (F ∷ L) y

  pub closes_reduce : {edge : ℕ} {K : List Frame} {x : P} {L : List Frame} {y : P} (level : ℕ) → level < edge → Closes edge K x L y → reduce level L y ≡ reduce level K x
  closes_reduce level h here = refl
  closes_reduce level h (pop {F = F} {L = L} {y = y} {z = z} c e r) = reduce_some level F L y z (omega arith) c ∙ closes_reduce level h r

  pub closes_low : {edge : ℕ} {K : List Frame} {x : P} {L : List Frame} {y : P} (level : ℕ) → level ≤ 2 → Closes edge K x L y → reduce level L y ≡ reduce level K x
  closes_low level h here = refl
  closes_low level h (pop {F = F} {L = L} {y = y} {z = z} c e r) =
      let above : 2 < frame_level F = completed_level F y z c in
      reduce_some level F L y z (omega arith) c ∙ closes_low level h r

  pub closes_under : {edge : ℕ} {F : Frame} {K : List Frame} {x z : P} {L : List Frame} {y : P} (far : ℕ) → completed F x ≡ Some z → far ≤ edge → far ≤ frame_level F → Closes edge (F ∷ K) x L y → Closes far K z L y
  closes_under far c h k here = pop c k here
  closes_under far c h k (pop d e r) = pop d (le_trans h e) (closes_under far c h k r)

  pub reduce_stops : (level : ℕ) (K : List Frame) (x : P) → level_at K ≤ level → reduce level K x ≡ (K, x)
  unfolding level_at reduce
  reduce_stops level [] x h = refl
  reduce_stops level (F ∷ K) x h = reduce_none level F K x (popped_low level F x h)

  none_low : (level : ℕ) (F : Frame) (x : P) (o : Option P) → completed F x ≡ o → frame_level F ≤ 2 → popped level F x ≡ None
  unfolding popped
  none_low level F x None e h = rw e (elim (nat_lt level (frame_level F)) as (λ b. cond {A = Option P} b None None ≡ None) [ true ↦ refl | false ↦ refl ])
  none_low level F x (Some y) e h = let k : 2 < frame_level F = completed_level F x y e in absurd (omega arith)

  pub reduce_base : (level : ℕ) (K : List Frame) (x : P) → level_at K ≤ 2 → reduce level K x ≡ (K, x)
  unfolding level_at reduce
  reduce_base level [] x h = refl
  reduce_base level (F ∷ K) x h = reduce_none level F K x (none_low level F x (completed F x) refl h)

  pub only_at_here : (level : ℕ) (K : List Frame) (s : Option State) → level_at K ≤ level → only_at level K s ≡ s
  unfolding only_at
  only_at_here level K s h = rw (le-leb (level_at K) level h)

  pub push_here : (F : Frame) (K : List Frame) → length K < nesting_limit → push F K ≡ Some (F ∷ K, MWant)
  unfolding push
  push_here F K h = rw (lt-ltb (length K) nesting_limit h)

  pub begins_in_here : (F : Frame) (t : Terminal) (K : List Frame) → length K < nesting_limit → begins_in F t K ≡ step t (F ∷ K, MWant)
  unfolding begins_in follows
  begins_in_here F t K h = rw (push_here F K h)

  opening_begins : (n : Next) (t : Terminal) (K : List Frame) (opening : Opened) → CanBegin n → follows_opening n t K opening ≡ begins_in (FElements opening A.no_elements) t K
  unfolding follows_opening
  opening_begins Next.Comma t K opening h = absurd h
  opening_begins (Next.Closes c) t K opening h = absurd h
  opening_begins Next.Elements t K opening h = absurd h
  opening_begins _ t K opening h = refl

  semicolon_begins : (n : Next) (t : Terminal) (K : List Frame) (x : P) → CanBegin n → follows_semicolon n t K x ≡ begins_in (FJoins Operator.CompoundExpression x) t K
  unfolding follows_semicolon
  semicolon_begins Next.Comma t K x h = absurd h
  semicolon_begins (Next.Closes c) t K x h = absurd h
  semicolon_begins Next.Elements t K x h = absurd h
  semicolon_begins _ t K x h = refl

  -- A first element.
  pub step_opening : (t : Terminal) (K : List Frame) (opening : Opened) → CanStart (start_of t) → length K < nesting_limit →
      step t (K, MOpen opening) ≡ step t (FElements opening A.no_elements ∷ K, MWant)
  unfolding follows
  step_opening t K opening c h = opening_begins (next_of t) t K opening (can_begin t c) ∙ begins_in_here (FElements opening A.no_elements) t K h

  -- A phrase behind a semicolon.
  pub step_semicolon : (t : Terminal) (K : List Frame) (x : P) → CanStart (start_of t) → length K < nesting_limit →
      step t (K, MSemicolon x) ≡ step t (FJoins Operator.CompoundExpression x ∷ K, MWant)
  unfolding follows
  step_semicolon t K x c h = semicolon_begins (next_of t) t K x (can_begin t c) ∙ begins_in_here (FJoins Operator.CompoundExpression x) t K h

  -- The first token may begin a phrase.
  abbrev First : List Terminal → Type 0
  First [] = ⊥
  First (t ∷ ts) = CanStart (start_of t)

  first-append : (ls rs : List Terminal) → First ls → First (ls ++ rs)
  first-append [] rs h = absurd h
  first-append (t ∷ ls) rs h = h

  phrase_first : {room level : ℕ} {ts : List Terminal} {x : P} {edge : ℕ} → PhraseOf P Q L A room level ts x edge → First ts
  phrase_first (operand t e) = rw e tt
  phrase_first (group t u e w k) = rw e tt
  phrase_first (braces t u e w k) = rw e tt
  phrase_first (leads t e p) = rw e tt
  phrase_first (binary {ls = ls} {rs = rs} t p j a h k q) = first-append ls (t ∷ rs) (phrase_first p)
  phrase_first (beside {ls = ls} {rs = rs} t p j a h q) = first-append ls (t ∷ rs) (phrase_first p)
  phrase_first (trails {ls = ls} t p j a h) = first-append ls (t ∷ []) (phrase_first p)
  phrase_first (call {ls = ls} {ts = ts} t u p j a h w k) = first-append ls (t ∷ (ts ++ u ∷ [])) (phrase_first p)
  phrase_first (part {ls = ls} {ts = ts} t t' u u' p j j' a h w k k') = first-append ls (t ∷ t' ∷ (ts ++ u ∷ u' ∷ [])) (phrase_first p)
  phrase_first (tags {ls = ls} {ms = ms} {rs = rs} t u p j a h q i g r) = first-append ls (t ∷ (ms ++ u ∷ rs)) (phrase_first p)

  whole_first : {room : ℕ} {ts : List Terminal} {x : P} → WholeOf P Q L A room ts x → First ts
  whole_first (plain p) = phrase_first p
  whole_first (ends {ts = ts} t p e h) = first-append ts (t ∷ []) (phrase_first p)

  row_first : {room : ℕ} {ts : List Terminal} {xs : L} → RowOf P Q L A room ts xs → First ts
  row_first (one w) = whole_first w
  row_first (more {ts = ts} {us = us} t r e w) = first-append ts (t ∷ us) (row_first r)

  -- A phrase whose level is above that of an assignment has its edge there too.
  edge_above : {room level : ℕ} {ts : List Terminal} {x : P} {edge : ℕ} → PhraseOf P Q L A room level ts x edge → 3 < level → 3 < edge
  edge_above (operand t e) g = omega arith
  edge_above (group t u e w k) g = omega arith
  edge_above (braces t u e w k) g = omega arith
  edge_above (leads {op = op} t e p) g = let i = edge_above p (leads_above op) in omega (arith, i, leads_above op)
  edge_above (binary {op = op} t p j a h k q) g = let w : 3 < right_of op = omega (arith, level_right op) in let i = edge_above q w in omega (arith, i, w)
  edge_above (beside t p j a h q) g = let w : 3 < right_of Operator.Times = omega (arith, level_right Operator.Times) in let i = edge_above q w in omega (arith, i, w)
  edge_above (trails t p j a h) g = omega arith
  edge_above (call t u p j a h w k) g = omega arith
  edge_above (part t t' u u' p j j' a h w k k') g = omega arith
  edge_above (tags t u p j a h q i k r) g = absurd (omega arith)

  -- The machine reads the tokens as a phrase.
  record Reaches (K : List Frame) (ts : List Terminal) (x : P) (edge : ℕ) : Type 0 where
    frames : List Frame
    last : P
    runs : run ts (K, MWant) ≡ Some (frames, MHave last)
    closing : Closes edge K x frames last

  -- The machine reads the tokens as what may stand in a bracket.
  record Settles (K : List Frame) (ts : List Terminal) (x : P) : Type 0 where
    state : State
    runs : run ts (K, MWant) ≡ Some state
    closing : (t : Terminal) (c : Bracket) → next_of t ≡ Next.Closes c → step t state ≡ closed c K x
    comma : (t : Terminal) → next_of t ≡ Next.Comma → step t state ≡ separated K x
    ending : finished state.1 state.0 ≡ at_bottom K x

  record Rows (K : List Frame) (opening : Opened) (ts : List Terminal) (xs : L) : Type 0 where
    state : State
    runs : run ts (FElements opening A.no_elements ∷ K, MWant) ≡ Some state
    closing : (t : Terminal) (c : Bracket) → next_of t ≡ Next.Closes c → step t state ≡ closed_elements c opening xs K
    comma : (t : Terminal) → next_of t ≡ Next.Comma → step t state ≡ Some (FElements opening xs ∷ K, MWant)

  -- A token behind a phrase.
  after : {K : List Frame} {ls : List Terminal} {x : P} {edge : ℕ} (r : Reaches K ls x edge) (t : Terminal) (n : Next) →
      next_of t ≡ n → level_at K ≤ next_level n → next_level n < edge → step t (r.frames, MHave r.last) ≡ goes_on n t K x
  unfolding follows follows_phrase
  after {K} {ls} {x} r t n e a h =
      rw e (ap (λ p. goes_on n t p.0 p.1) (closes_reduce (next_level n) h r.closing ∙ reduce_stops (next_level n) K x a))

  extends : {K : List Frame} {ls : List Terminal} {x : P} {edge : ℕ} (r : Reaches K ls x edge) (t : Terminal) (n : Next) (rs : List Terminal) →
      next_of t ≡ n → level_at K ≤ next_level n → next_level n < edge → run (ls ++ t ∷ rs) (K, MWant) ≡ option_and_then (run rs) (goes_on n t K x)
  extends {K} {ls} r t n rs e a h = run_last ls rs t (K, MWant) (r.frames, MHave r.last) r.runs ∙ ap (option_and_then (run rs)) (after r t n e a h)

  operand_reaches : (K : List Frame) (t : Terminal) (l : Phrase) → start_of t ≡ Start.Operand l → Reaches K (t ∷ []) (A.of_leaf l) 100
  unfolding run follows begins
  operand_reaches K t l e = record { frames = K; last = A.of_leaf l; runs = rw e; closing = here }

  have_reaches : {K : List Frame} {ts : List Terminal} {x : P} → run ts (K, MWant) ≡ Some (K, MHave x) → Reaches K ts x 100
  have_reaches {K} {ts} {x} e = record { frames = K; last = x; runs = e; closing = here }

  -- One more frame is closed.
  under : {K : List Frame} {F : Frame} {ts us : List Terminal} {x y : P} {edge : ℕ} (far : ℕ) → completed F x ≡ Some y → far ≤ edge → far ≤ frame_level F →
      (r : Reaches (F ∷ K) ts x edge) → run us (K, MWant) ≡ run ts (F ∷ K, MWant) → Reaches K us y far
  under far c h k r e = record { frames = r.frames; last = r.last; runs = e ∙ r.runs; closing = closes_under far c h k r.closing }

  group_reaches : (K : List Frame) (t u : Terminal) (ts : List Terminal) (x : P) → start_of t ≡ Start.Opens Opening.Group → next_of u ≡ Next.Closes Bracket.Round → length K < nesting_limit →
      Settles (FGroup ∷ K) ts x → Reaches K (t ∷ (ts ++ u ∷ [])) (A.of_group x) 100
  unfolding run follows begins closed closed_group
  group_reaches K t u ts x e k d s =
      let first : step t (K, MWant) ≡ Some (FGroup ∷ K, MWant) = rw e (push_here FGroup K d) in
      have_reaches (run_step t (ts ++ (u ∷ [])) (K, MWant) (FGroup ∷ K, MWant) first ∙ run_last ts [] u (FGroup ∷ K, MWant) s.state s.runs ∙ ap (option_and_then (run [])) (s.closing u Bracket.Round k))

  leads_reaches : {edge : ℕ} {x : P} (K : List Frame) (t : Terminal) (ts : List Terminal) (op : Prefix) → start_of t ≡ Start.Leads op → length K < nesting_limit →
      Reaches (FLeads op ∷ K) ts x edge → Reaches K (t ∷ ts) (A.of_lead op x) (min (leads_at op) edge)
  unfolding follows begins completed frame_level
  leads_reaches {edge} K t ts op e d r =
      let first : step t (K, MWant) ≡ Some (FLeads op ∷ K, MWant) = rw e (push_here (FLeads op) K d) in
      under (min (leads_at op) edge) refl (omega arith) (omega arith) r (run_step t ts (K, MWant) (FLeads op ∷ K, MWant) first)

  join_attached : (op : Operator) (x : P) (h : Option Builtin) (K : List Frame) → tags_of op ≡ h → level_at K ≤ level_of op → joined_by h (tag_on_top K) op K x ≡ attached op K x
  unfolding level_at frame_level tag_on_top
  join_attached op x None K e a = refl
  join_attached op x (Some form) (FTag y ∷ K) e a = absurd (omega (arith, tags_level op form e))
  join_attached op x (Some form) _ e a = refl

  attached_here : (op : Operator) (K : List Frame) (x : P) → level_at K ≤ level_of op → A.accepts op x ≡ true → length K < nesting_limit → attached op K x ≡ Some (FJoins op x ∷ K, MWant)
  unfolding attached
  attached_here op K x a k d = only_at_here (level_of op) K _ a ∙ rw k (push_here (FJoins op x) K d)

  joined_here : (op : Operator) (K : List Frame) (x : P) → level_at K ≤ level_of op → A.accepts op x ≡ true → length K < nesting_limit → joined op K x ≡ Some (FJoins op x ∷ K, MWant)
  unfolding joined
  joined_here op K x a k d = join_attached op x (tags_of op) K refl a ∙ attached_here op K x a k d

  run_semicolon : (rs : List Terminal) (K : List Frame) (x : P) → First rs → length K < nesting_limit → run rs (K, MSemicolon x) ≡ run rs (FJoins Operator.CompoundExpression x ∷ K, MWant)
  unfolding run
  run_semicolon [] K x h d = absurd h
  run_semicolon (t ∷ rs) K x h d = ap (option_and_then (run rs)) (step_semicolon t K x h d)

  run_opening : (rs : List Terminal) (K : List Frame) (opening : Opened) → First rs → length K < nesting_limit → run rs (K, MOpen opening) ≡ run rs (FElements opening A.no_elements ∷ K, MWant)
  unfolding run
  run_opening [] K opening h d = absurd h
  run_opening (t ∷ rs) K opening h d = ap (option_and_then (run rs)) (step_opening t K opening h d)

  -- What the machine does at an infix operator.
  join_runs : {K : List Frame} {ls : List Terminal} {x : P} {edge : ℕ} {op : Operator} {t : Terminal} → IsJoin t op → (rs : List Terminal) → First rs → Reaches K ls x edge →
      level_at K ≤ level_of op → level_of op < edge → A.accepts op x ≡ true → length K < nesting_limit →
      run (ls ++ t ∷ rs) (K, MWant) ≡ run rs (FJoins op x ∷ K, MWant)
  unfolding goes_on next_level level_of infix_row
  join_runs {K} {ls} {x} {edge} (joins {op = op} t e) rs g r a h k d = extends r t (Next.Joins op) rs e a h ∙ ap (option_and_then (run rs)) (joined_here op K x a k d)
  join_runs {K} {ls} {x} {edge} (sequence t e) rs g r a h k d = extends r t Next.Semicolon rs e a h ∙ ap (option_and_then (run rs)) (only_at_here 2 K _ a) ∙ run_semicolon rs K x g d

  binary_reaches : {K : List Frame} {ls : List Terminal} {x y : P} {edge far : ℕ} {op : Operator} (t : Terminal) (rs : List Terminal) → IsJoin t op → First rs → Reaches K ls x edge →
      level_at K ≤ level_of op → level_of op < edge → A.accepts op x ≡ true → length K < nesting_limit →
      Reaches (FJoins op x ∷ K) rs y far → Reaches K (ls ++ t ∷ rs) (A.of_join op x y) (min (right_of op) far)
  unfolding completed frame_level
  binary_reaches {far = far} {op = op} t rs j g r a h k d q = under (min (right_of op) far) refl (omega arith) (omega arith) q (join_runs j rs g r a h k d)

  beside_reaches : {K : List Frame} {ls : List Terminal} {x y : P} {edge far : ℕ} (t : Terminal) (rs : List Terminal) → next_of t ≡ Next.Beside → Reaches K ls x edge →
      level_at K ≤ level_of Operator.Times → level_of Operator.Times < edge → length K < nesting_limit →
      Reaches (FBeside x ∷ K) (t ∷ rs) y far → Reaches K (ls ++ t ∷ rs) (A.of_join Operator.Times x y) (min (right_of Operator.Times) far)
  unfolding completed frame_level goes_on next_level run
  beside_reaches {K} {ls} {x} {far = far} t rs e r a h d q = under (min (right_of Operator.Times) far) refl (omega arith) (omega arith) q
      (extends r t Next.Beside rs e a h ∙ ap (option_and_then (run rs)) (only_at_here (level_of Operator.Times) K _ a ∙ begins_in_here (FBeside x) t K d))

  trails_reaches : {K : List Frame} {ls : List Terminal} {x : P} {edge : ℕ} {op : Postfix} (t : Terminal) → next_of t ≡ Next.Trails op → Reaches K ls x edge →
      level_at K ≤ trails_at op → trails_at op < edge → Reaches K (ls ++ t ∷ []) (A.of_trail op x) 100
  unfolding goes_on next_level run
  trails_reaches {K} {op = op} t e r a h = have_reaches (extends r t (Next.Trails op) [] e a h ∙ ap (option_and_then (run [])) (only_at_here (trails_at op) K _ a))

  -- The elements of a bracket.
  Fills : List Frame → Opened → List Terminal → L → Type 0
  Fills K opening ts xs = (u : Terminal) (c : Bracket) (vs : List Terminal) → next_of u ≡ Next.Closes c → closes c opening ≡ true → run (ts ++ u ∷ vs) (K, MOpen opening) ≡ run vs (K, made opening xs)

  closed_here : (c : Bracket) (opening : Opened) (xs : L) (K : List Frame) → closes c opening ≡ true → closed_elements c opening xs K ≡ Some (K, made opening xs)
  unfolding closed_elements
  closed_here c opening xs K k = rw k

  none_fills : (K : List Frame) (opening : Opened) → Fills K opening [] A.no_elements
  unfolding Fills run follows follows_opening closed_elements
  none_fills K opening u c vs e k = rw (e, k)

  row_fills : (K : List Frame) (opening : Opened) (ts : List Terminal) (xs : L) → First ts → length K < nesting_limit → Rows K opening ts xs → Fills K opening ts xs
  unfolding Fills closed_elements
  row_fills K opening ts xs g d r u c vs e k =
      run_opening (ts ++ u ∷ vs) K opening (first-append ts (u ∷ vs) g) d ∙ run_last ts vs u (FElements opening A.no_elements ∷ K, MWant) r.state r.runs ∙
      ap (option_and_then (run vs)) (r.closing u c e ∙ closed_here c opening xs K k)

  braces_reaches : (K : List Frame) (t u : Terminal) (ts : List Terminal) (xs : L) → start_of t ≡ Start.Opens Opening.Braces → next_of u ≡ Next.Closes Bracket.Curly →
      Fills K OList ts xs → Reaches K (t ∷ (ts ++ u ∷ [])) (A.of_list xs) 100
  unfolding Fills run follows begins closes made
  braces_reaches K t u ts xs e k w = have_reaches (rw e (w u Bracket.Curly [] k refl))

  call_reaches : {K : List Frame} {ls : List Terminal} {x : P} {edge : ℕ} (t u : Terminal) (ts : List Terminal) (xs : L) → next_of t ≡ Next.Elements → next_of u ≡ Next.Closes Bracket.Square → Reaches K ls x edge →
      level_at K ≤ 25 → 25 < edge → Fills K (OCall (A.expr_of x)) ts xs → Reaches K (ls ++ t ∷ (ts ++ u ∷ [])) (A.of_call (A.expr_of x) xs) 100
  unfolding Fills goes_on next_level run closes made
  call_reaches {K} {ls} {x} t u ts xs e k r a h w =
      have_reaches (extends r t Next.Elements (ts ++ (u ∷ [])) e a h ∙ ap (option_and_then (run (ts ++ (u ∷ [])))) (only_at_here 25 K _ a) ∙ w u Bracket.Square [] k refl)

  part_opens : (K : List Frame) (x : Q) → length K < nesting_limit → part_opened K x ≡ Some (FOuter x ∷ K, MOpen OPart)
  unfolding part_opened
  part_opens K x h = rw (lt-ltb (length K) nesting_limit h)

  part_reaches : {K : List Frame} {ls : List Terminal} {x : P} {edge : ℕ} (t t' u u' : Terminal) (ts : List Terminal) (xs : L) → next_of t ≡ Next.Elements → next_of t' ≡ Next.Elements →
      next_of u ≡ Next.Closes Bracket.Square → next_of u' ≡ Next.Closes Bracket.Square → Reaches K ls x edge →
      level_at K ≤ 25 → 25 < edge → length K < nesting_limit → Fills (FOuter (A.expr_of x) ∷ K) OPart ts xs → Reaches K (ls ++ t ∷ t' ∷ (ts ++ u ∷ u' ∷ [])) (A.of_part (A.expr_of x) xs) 100
  unfolding Fills goes_on next_level run closes made follows follows_opening follows_half
  part_reaches {K} {ls} {x} t t' u u' ts xs e e' k k' r a h d w =
      let rest = t' ∷ (ts ++ u ∷ u' ∷ []) in
      have_reaches (extends r t Next.Elements rest e a h ∙ ap (option_and_then (run rest)) (only_at_here 25 K _ a) ∙ rw e' (ap (option_and_then (run (ts ++ u ∷ u' ∷ []))) (part_opens K (A.expr_of x) d) ∙ w u Bracket.Square (u' ∷ []) k refl ∙ rw k'))

  tag_stops : (level : ℕ) (K : List Frame) (x y : P) → reduce level (FTag x ∷ K) y ≡ (FTag x ∷ K, y)
  unfolding completed popped
  tag_stops level K x y = reduce_none level (FTag x) K y (elim (nat_lt level (frame_level (FTag x))) as (λ c. cond {A = Option P} c None None ≡ None) [ true ↦ refl | false ↦ refl ])

  -- The sign of an assignment behind a tag.
  tag_step : {K : List Frame} {ms : List Terminal} {x y : P} {near : ℕ} (u : Terminal) (op : Operator) (form : Builtin) (q : Reaches (FTag x ∷ K) ms y near) →
      next_of u ≡ Next.Joins op → tags_of op ≡ Some form → 3 < near → step u (q.frames, MHave q.last) ≡ Some (FTagged form x y ∷ K, MWant)
  unfolding follows follows_phrase goes_on next_level joined tag_on_top
  tag_step {K} {ms} {x} {y} u op form q i g n =
      let three : level_of op ≡ 3 = tags_level op form g in
      rw i (ap (λ p. joined op p.0 p.1) (closes_reduce (level_of op) (omega arith) q.closing ∙ tag_stops (level_of op) K x y) ∙ rw g)

  tag_runs : {K : List Frame} {ls ms : List Terminal} {x y : P} {edge near : ℕ} {op : Operator} {form : Builtin} (t u : Terminal) (rs : List Terminal) → next_of t ≡ Next.Tags → Reaches K ls x edge →
      level_at K ≤ 3 → 3 < edge → length K < nesting_limit → Reaches (FTag x ∷ K) ms y near → 3 < near → next_of u ≡ Next.Joins op → tags_of op ≡ Some form →
      run (ls ++ t ∷ (ms ++ u ∷ rs)) (K, MWant) ≡ run rs (FTagged form x y ∷ K, MWant)
  unfolding goes_on next_level
  tag_runs {K} {ls} {ms} {x} {y} {op = op} {form} t u rs e r a h d q n i g =
      extends r t Next.Tags (ms ++ u ∷ rs) e a h ∙
      ap (option_and_then (run (ms ++ u ∷ rs))) (only_at_here 3 K _ a ∙ push_here (FTag x) K d) ∙
      run_last ms rs u (FTag x ∷ K, MWant) (q.frames, MHave q.last) q.runs ∙
      ap (option_and_then (run rs)) (tag_step u op form q i g n)

  tags_reaches : {K : List Frame} {ls ms : List Terminal} {x y z : P} {edge near far : ℕ} {op : Operator} {form : Builtin} (t u : Terminal) (rs : List Terminal) → next_of t ≡ Next.Tags → Reaches K ls x edge →
      level_at K ≤ 3 → 3 < edge → length K < nesting_limit → Reaches (FTag x ∷ K) ms y near → 3 < near → next_of u ≡ Next.Joins op → tags_of op ≡ Some form →
      Reaches (FTagged form x y ∷ K) rs z far → Reaches K (ls ++ t ∷ (ms ++ u ∷ rs)) (A.of_tag form x y z) (min 3 far)
  unfolding completed frame_level
  tags_reaches {far = far} t u rs e r a h d q n i g w = under (min 3 far) refl (omega arith) (omega arith) w (tag_runs t u rs e r a h d q n i g)

  plain_settles : {ts : List Terminal} {x : P} {edge : ℕ} (K : List Frame) → level_at K ≤ 2 → Reaches K ts x edge → Settles K ts x
  unfolding follows follows_phrase goes_on next_level finished
  plain_settles {x = x} K a r =
      let base : reduce 0 r.frames r.last ≡ (K, x) = closes_low 0 (omega arith) r.closing ∙ reduce_base 0 K x a in
      record {
        state = (r.frames, MHave r.last);
        runs = r.runs;
        closing = λ t c e. rw e (ap (λ p. closed c p.0 p.1) base);
        comma = λ t e. rw e (ap (λ p. separated p.0 p.1) base);
        ending = ap (λ p. at_bottom p.0 p.1) base;
      }

  ends_settles : {ts : List Terminal} {x : P} {edge : ℕ} (K : List Frame) (t : Terminal) → level_at K ≤ 2 → Reaches K ts x edge → next_of t ≡ Next.Semicolon → 2 < edge → Settles K (ts ++ t ∷ []) (A.of_end x)
  unfolding follows follows_semicolon goes_on next_level finished run
  ends_settles {x = x} K t a r e h = record {
    state = (K, MSemicolon x);
    runs = extends r t Next.Semicolon [] e a h ∙ ap (option_and_then (run [])) (only_at_here 2 K _ a);
    closing = λ u c k. rw k;
    comma = λ u k. rw k;
    ending = refl;
  }

  one_rows : {K : List Frame} {opening : Opened} {ts : List Terminal} {x : P} → Settles (FElements opening A.no_elements ∷ K) ts x → Rows K opening ts (A.added A.no_elements (A.expr_of x))
  unfolding closed separated
  one_rows s = record { state = s.state; runs = s.runs; closing = s.closing; comma = s.comma }

  more_rows : {K : List Frame} {opening : Opened} {ts us : List Terminal} {xs : L} {x : P} (t : Terminal) → Rows K opening ts xs → next_of t ≡ Next.Comma → Settles (FElements opening xs ∷ K) us x →
      Rows K opening (ts ++ t ∷ us) (A.added xs (A.expr_of x))
  unfolding closed separated
  more_rows {K} {opening} {ts} {us} t r e s = record {
    state = s.state;
    runs = run_last ts us t (FElements opening A.no_elements ∷ K, MWant) r.state r.runs ∙ ap (option_and_then (run us)) (r.comma t e) ∙ s.runs;
    closing = s.closing;
    comma = s.comma;
  }

  bracket_level : (opening : Opened) (xs : L) (K : List Frame) → level_at (FElements opening xs ∷ K) ≤ 2
  unfolding level_at frame_level
  bracket_level opening xs K = omega arith

  frame_reached : (F : Frame) (K : List Frame) (level : ℕ) → frame_level F ≡ level → level_at (F ∷ K) ≤ level
  unfolding level_at
  frame_reached F K level e = omega arith

  mutual
    unfolding frame_level

    phrase_reaches : {room level : ℕ} {ts : List Terminal} {x : P} {edge : ℕ} → PhraseOf P Q L A room level ts x edge →
        (K : List Frame) → level_at K ≤ level → length K + room ≡ nesting_limit → Reaches K ts x edge
    phrase_reaches (operand {x = x} t e) K a d = operand_reaches K t x e
    phrase_reaches (group {ts = ts} {x = x} t u e w k) K a d =
        group_reaches K t u ts x e k (omega arith) (whole_settles w (FGroup ∷ K) (frame_reached FGroup K 2 refl) (omega arith))
    phrase_reaches (braces {ts = ts} {xs = xs} t u e w k) K a d = braces_reaches K t u ts xs e k (elements_fill w K OList (omega arith))
    phrase_reaches (leads {ts = ts} {op = op} t e p) K a d =
        leads_reaches K t ts op e (omega arith) (phrase_reaches p (FLeads op ∷ K) (frame_reached (FLeads op) K (leads_at op) refl) (omega arith))
    phrase_reaches (binary {rs = rs} {op = op} {x = x} t p j h k g q) K a d =
        binary_reaches t rs j (phrase_first q) (phrase_reaches p K a d) (omega arith) k g (omega arith)
        (phrase_reaches q (FJoins op x ∷ K) (frame_reached (FJoins op x) K (right_of op) refl) (omega arith))
    phrase_reaches (beside {rs = rs} {x = x} t p e h k q) K a d =
        beside_reaches t rs e (phrase_reaches p K a d) (omega arith) k (omega arith)
        (phrase_reaches q (FBeside x ∷ K) (frame_reached (FBeside x) K (right_of Operator.Times) refl) (omega arith))
    phrase_reaches (trails t p e h k) K a d = trails_reaches t e (phrase_reaches p K a d) (omega arith) k
    phrase_reaches (call {ts = ts} {x = x} {xs = xs} t u p e h k w i) K a d =
        call_reaches t u ts xs e i (phrase_reaches p K a d) (omega arith) k (elements_fill w K (OCall (A.expr_of x)) d)
    phrase_reaches (part {ts = ts} {x = x} {xs = xs} t t' u u' p e e' h k w i i') K a d =
        part_reaches t t' u u' ts xs e e' i i' (phrase_reaches p K a d) (omega arith) k (omega arith) (elements_fill w (FOuter (A.expr_of x) ∷ K) OPart (omega arith))
    phrase_reaches (tags {rs = rs} {row = form} {x = x} {y = y} t u p e h k q i g r) K a d =
        tags_reaches t u rs e (phrase_reaches p K a d) (omega arith) k (omega arith)
        (phrase_reaches q (FTag x ∷ K) (frame_reached (FTag x) K 4 refl) (omega arith)) (edge_above q (omega arith)) i g
        (phrase_reaches r (FTagged form x y ∷ K) (frame_reached (FTagged form x y) K 3 refl) (omega arith))

    whole_settles : {room : ℕ} {ts : List Terminal} {x : P} → WholeOf P Q L A room ts x →
        (K : List Frame) → level_at K ≤ 2 → length K + room ≡ nesting_limit → Settles K ts x
    whole_settles (plain p) K a d = plain_settles K a (phrase_reaches p K a d)
    whole_settles (ends t p e h) K a d = ends_settles K t a (phrase_reaches p K a d) e h

    row_rows : {room : ℕ} {ts : List Terminal} {xs : L} → RowOf P Q L A room ts xs →
        (K : List Frame) (opening : Opened) → suc (length K) + room ≡ nesting_limit → Rows K opening ts xs
    row_rows (one w) K opening d = one_rows (whole_settles w (FElements opening A.no_elements ∷ K) (bracket_level opening A.no_elements K) d)
    row_rows (more {xs = xs} t r e w) K opening d = more_rows t (row_rows r K opening d) e (whole_settles w (FElements opening xs ∷ K) (bracket_level opening xs K) d)

    elements_fill : {room : ℕ} {ts : List Terminal} {xs : L} → ElementsOf P Q L A room ts xs →
        (K : List Frame) (opening : Opened) → length K + room ≡ nesting_limit → Fills K opening ts xs
    elements_fill none K opening d = none_fills K opening
    elements_fill (row {ts = ts} {xs = xs} r) K opening d = row_fills K opening ts xs (row_first r) (omega arith) (row_rows r K opening (omega arith))

  -- What is read the machine reads.
  pub record IsRead (ts : List Terminal) (x : P) : Type 0 where
    pub state : State
    pub runs : run ts start_state ≡ Some state
    pub ending : finished state.1 state.0 ≡ Some x

  pub complete : (ts : List Terminal) (x : P) → WholeOf P Q L A nesting_limit ts x → IsRead ts x
  unfolding level_at
  complete ts x w =
      let s = whole_settles w [] (omega arith) (omega arith) in
      record { state = s.state; runs = s.runs; ending = s.ending }

  pub read_once : (ts : List Terminal) (x y : P) → IsRead ts x → IsRead ts y → x ≡ y
  read_once ts x y p q =
      let same : p.state ≡ q.state = cc (p.runs, q.runs) in
      let end : finished p.state.1 p.state.0 ≡ finished q.state.1 q.state.0 = ap (λ (s : State). finished s.1 s.0) same in
      cc (p.ending, q.ending, end)

  -- The phrase over a frame of a product without a sign begins with a token that may stand there.
  abbrev pub BeginsBeside : List Terminal → Type 0
  BeginsBeside [] = ⊥
  BeginsBeside (t ∷ ts) = next_of t ≡ Next.Beside

  abbrev pub StartsAt : List Frame → List Terminal → Type 0
  StartsAt [] ts = Unit {0}
  StartsAt (FBeside x ∷ K) ts = BeginsBeside ts
  StartsAt (FOuter x ∷ K) ts = ⊥
  StartsAt (_ ∷ K) ts = Unit {0}

  beside-append : (ls rs : List Terminal) → BeginsBeside ls → BeginsBeside (ls ++ rs)
  beside-append [] rs h = absurd h
  beside-append (t ∷ ls) rs h = h

  pub starts-append : (K : List Frame) (ls rs : List Terminal) → StartsAt K ls → StartsAt K (ls ++ rs)
  starts-append [] ls rs h = tt
  starts-append (FBeside x ∷ K) ls rs h = beside-append ls rs h
  starts-append (FGroup ∷ K) ls rs h = tt
  starts-append (FElements opening xs ∷ K) ls rs h = tt
  starts-append (FLeads op ∷ K) ls rs h = tt
  starts-append (FJoins op x ∷ K) ls rs h = tt
  starts-append (FTag x ∷ K) ls rs h = tt
  starts-append (FOuter x ∷ K) ls rs h = absurd h
  starts-append (FTagged form x y ∷ K) ls rs h = tt

  -- No outer bracket of a part is the innermost frame.
  abbrev IsInner : List Frame → Type 0
  IsInner (FOuter x ∷ K) = ⊥
  IsInner _ = Unit {0}

  inner : (K : List Frame) (ts : List Terminal) → StartsAt K ts → IsInner K
  inner [] ts h = tt
  inner (FBeside x ∷ K) ts h = tt
  inner (FGroup ∷ K) ts h = tt
  inner (FElements opening xs ∷ K) ts h = tt
  inner (FLeads op ∷ K) ts h = tt
  inner (FJoins op x ∷ K) ts h = tt
  inner (FTag x ∷ K) ts h = tt
  inner (FOuter x ∷ K) ts h = absurd h
  inner (FTagged form x y ∷ K) ts h = tt

  -- A phrase over what stands open.
  pub record Over (room : ℕ) (K : List Frame) (us : List Terminal) (x : P) (edge : ℕ) : Type 0 where
    pub phrase : PhraseOf P Q L A room (level_at K) us x edge
    pub starts : StartsAt K us

  -- What opened a bracket with elements.
  pub data Opens (room : ℕ) : List Frame → Opened → List Terminal → Type 0 where
    by_list : {K : List Frame} (t : Terminal) → start_of t ≡ Start.Opens Opening.Braces → StartsAt K (t ∷ []) → Opens room K OList (t ∷ [])
    by_call : {K : List Frame} {x : P} {edge : ℕ} (t : Terminal) (ls : List Terminal) → Over room K ls x edge → next_of t ≡ Next.Elements → level_at K ≤ 25 → 25 < edge → Opens room K (OCall (A.expr_of x)) (ls ++ t ∷ [])
    by_part : {K : List Frame} {x : Q} (t : Terminal) → next_of t ≡ Next.Elements → Opens room (FOuter x ∷ K) OPart (t ∷ [])

  -- The elements before the one that is being read, each with its comma.
  pub data Before (room : ℕ) : List Terminal → L → Type 0 where
    first : Before room [] A.no_elements
    later : {ws : List Terminal} {xs : L} (t : Terminal) → RowOf P Q L A room ws xs → next_of t ≡ Next.Comma → Before room (ws ++ t ∷ []) xs

  -- A frame that is closed without a further token, by the value of its last operand.
  pub record Combines (room : ℕ) (F : Frame) (K : List Frame) (vs : List Terminal) : Type 0 where
    pub value : P → P
    pub completes : (x : P) → completed F x ≡ Some (value x)
    pub tall : 3 < level_at K → 3 < frame_level F
    pub over : (us : List Terminal) (x : P) (edge : ℕ) → Over room (F ∷ K) us x edge → Over (suc room) K (vs ++ us) (value x) (min (frame_level F) edge)
    pub inner_below : IsInner K

  -- The tokens that what stands open is made of.
  pub data Made : ℕ → List Frame → List Terminal → Type 0 where
    bottom : Made nesting_limit [] []
    combining : {room : ℕ} {K : List Frame} {ts vs : List Terminal} (F : Frame) → Made (suc room) K ts → Combines room F K vs → Made room (F ∷ K) (ts ++ vs)
    grouping : {room : ℕ} {K : List Frame} {ts : List Terminal} (t : Terminal) → Made (suc room) K ts → start_of t ≡ Start.Opens Opening.Group → StartsAt K (t ∷ []) → Made room (FGroup ∷ K) (ts ++ t ∷ [])
    filling : {room : ℕ} {K : List Frame} {ts us ws : List Terminal} {xs : L} {opening : Opened} → Made (suc room) K ts → Opens (suc room) K opening us → Before room ws xs →
        Made room (FElements opening xs ∷ K) (ts ++ (us ++ ws))
    tagging : {room edge : ℕ} {K : List Frame} {ts us : List Terminal} {x : P} (t : Terminal) → Made (suc room) K ts → Over (suc room) K us x edge → level_at K ≤ 3 → 3 < edge → next_of t ≡ Next.Tags →
        Made room (FTag x ∷ K) (ts ++ (us ++ t ∷ []))
    outer : {room edge : ℕ} {K : List Frame} {ts us : List Terminal} {x : P} {e : Q} (t : Terminal) → Made (suc room) K ts → Over (suc room) K us x edge → level_at K ≤ 25 → 25 < edge → next_of t ≡ Next.Elements →
        A.expr_of x ≡ e → Made room (FOuter e ∷ K) (ts ++ (us ++ t ∷ []))

  pub made_room : {room : ℕ} {K : List Frame} {ts : List Terminal} → Made room K ts → length K + room ≡ nesting_limit
  made_room bottom = omega arith
  made_room (combining F k c) = let h = made_room k in omega (arith, h)
  made_room (grouping t k e h) = let h = made_room k in omega (arith, h)
  made_room (filling k p q) = let h = made_room k in omega (arith, h)
  made_room (tagging t k p a h e) = let h = made_room k in omega (arith, h)
  made_room (outer t k p a h e i) = let h = made_room k in omega (arith, h)

  -- What was read in a state.
  pub record Wants (K : List Frame) (ts : List Terminal) : Type 0 where
    pub room : ℕ
    pub frames : Made room K ts
    pub starts : (t : Terminal) → StartsAt K (t ∷ [])

  pub record Has (K : List Frame) (x : P) (edge : ℕ) (all : List Terminal) : Type 0 where
    pub room : ℕ
    pub ts : List Terminal
    pub us : List Terminal
    pub frames : Made room K ts
    pub over : Over room K us x edge
    pub tokens : all ≡ ts ++ us

  pub record Separates (K : List Frame) (x : P) (all : List Terminal) : Type 0 where
    pub edge : ℕ
    pub before : List Terminal
    pub t : Terminal
    pub has : Has K x edge before
    pub base : level_at K ≤ 2
    pub above : 2 < edge
    pub semicolon : next_of t ≡ Next.Semicolon
    pub tokens : all ≡ before ++ t ∷ []

  pub record OpeningAt (K : List Frame) (opening : Opened) (all : List Terminal) : Type 0 where
    pub room : ℕ
    pub ts : List Terminal
    pub us : List Terminal
    pub frames : Made room K ts
    pub opens : Opens room K opening us
    pub tokens : all ≡ ts ++ us

  -- An outer bracket of a part is the innermost frame.
  abbrev IsOuter : List Frame → Type 0
  IsOuter (FOuter x ∷ K) = Unit {0}
  IsOuter _ = ⊥

  pub record Halves (K : List Frame) (xs : L) (all : List Terminal) : Type 0 where
    pub room : ℕ
    pub ts : List Terminal
    pub ws : List Terminal
    pub t : Terminal
    pub u : Terminal
    pub top : IsOuter K
    pub frames : Made room K ts
    pub elements : ElementsOf P Q L A room ws xs
    pub opens : next_of t ≡ Next.Elements
    pub closing : next_of u ≡ Next.Closes Bracket.Square
    pub tokens : all ≡ ts ++ t ∷ (ws ++ u ∷ [])

  abbrev pub Sound : List Frame → Mode → List Terminal → Type 0
  Sound K MWant all = Wants K all
  Sound K (MHave x) all = Has K x 100 all
  Sound K (MSemicolon x) all = Separates K x all
  Sound K (MOpen opening) all = OpeningAt K opening all
  Sound K (MHalf xs) all = Halves K xs all

  -- A step that is taken keeps this.
  abbrev pub Sounds : Option State → List Terminal → Type 0
  Sounds None all = Unit {0}
  Sounds (Some s) all = Sound s.0 s.1 all

  pub if_sounds : (c : Bool) (s : Option State) (all : List Terminal) → (c ≡ true → Sounds s all) → Sounds (cond c s None) all
  if_sounds true s all h = h refl
  if_sounds false s all h = tt

  pub only_at_sounds : (level : ℕ) (K : List Frame) (s : Option State) (all : List Terminal) → (level_at K ≤ level → Sounds s all) → Sounds (only_at level K s) all
  unfolding only_at
  only_at_sounds level K s all h = if_sounds (nat_le (level_at K) level) s all (λ e. h (leb-true (level_at K) level e))

  pub push_sounds : (P : ℕ → Type 0) (room : ℕ) (F : Frame) (K : List Frame) (all : List Terminal) → length K + room ≡ nesting_limit → P room →
      ((r : ℕ) → P (suc r) → Wants (F ∷ K) all) → Sounds (push F K) all
  unfolding push
  push_sounds P zero F K all d p k = rw (le-ltb (length K) nesting_limit (omega arith)) tt
  push_sounds P (suc r) F K all d p k = if_sounds (nat_lt (length K) nesting_limit) (Some (F ∷ K, MWant)) all (λ e. k r p)

  -- Closing the frames that bind tighter.
  pub record Reduces (level : ℕ) (p : List Frame × P) (all : List Terminal) : Type 0 where
    pub edge : ℕ
    pub has : Has p.0 p.1 edge all
    pub above : level < edge

  reduces_here : {room : ℕ} {K : List Frame} {ts us : List Terminal} {x : P} {edge : ℕ} (level : ℕ) → Made room K ts → Over room K us x edge → level < edge → Reduces level (K, x) (ts ++ us)
  reduces_here {room} {K} {ts} {us} {x} {edge} level k o h = record { edge = edge; above = h; has = record { room = room; ts = ts; us = us; frames = k; over = o; tokens = refl } }

  stops : {room : ℕ} {F : Frame} {K : List Frame} {ts us : List Terminal} {x : P} {edge : ℕ} (level : ℕ) → Made room (F ∷ K) ts → Over room (F ∷ K) us x edge → level < edge → popped level F x ≡ None →
      Reduces level (reduce level (F ∷ K) x) (ts ++ us)
  stops {F = F} {K = K} {x = x} level k o h e = rw (reduce_none level F K x e) (reduces_here level k o h)

  none_pops : (level : ℕ) (F : Frame) (x : P) → completed F x ≡ None → popped level F x ≡ None
  unfolding popped
  none_pops level F x e = rw e (elim (nat_lt level (frame_level F)) as (λ c. cond {A = Option P} c None None ≡ None) [ true ↦ refl | false ↦ refl ])

  combines : {room : ℕ} {K : List Frame} {ts vs us : List Terminal} {x : P} {edge : ℕ} (level : ℕ) (F : Frame) (tight : Bool) → nat_lt level (frame_level F) ≡ tight →
      Made (suc room) K ts → (c : Combines room F K vs) → Over room (F ∷ K) us x edge → level < edge →
      (level < min (frame_level F) edge → Reduces level (reduce level K (c.value x)) (ts ++ (vs ++ us))) → Reduces level (reduce level (F ∷ K) x) ((ts ++ vs) ++ us)
  unfolding popped
  combines {K = K} {ts} {vs} {us} {x} level F true e k c o h after =
      let tight : level < frame_level F = ltb-true level (frame_level F) e in
      rw (reduce_some level F K x (c.value x) tight (c.completes x), append_assoc) (after (omega arith))
  combines {K = K} {ts} {vs} {us} {x} level F false e k c o h after = stops level (combining F k c) o h (rw e)

  pub reduce_sound : {room : ℕ} {K : List Frame} {ts : List Terminal} → Made room K ts → {us : List Terminal} {x : P} {edge : ℕ} (level : ℕ) → Over room K us x edge → level < edge →
      Reduces level (reduce level K x) (ts ++ us)
  unfolding reduce completed
  reduce_sound bottom level o h = reduces_here level bottom o h
  reduce_sound (combining F k c) {us} {x} {edge} level o h =
      combines level F (nat_lt level (frame_level F)) refl k c o h (λ g. reduce_sound k level (c.over us x edge o) g)
  reduce_sound (grouping t k e g) {us} {x} {edge} level o h = stops level (grouping t k e g) o h (none_pops level FGroup x refl)
  reduce_sound (filling {xs = xs} {opening = opening} k p q) {us} {x} {edge} level o h = stops level (filling k p q) o h (none_pops level (FElements opening xs) x refl)
  reduce_sound (tagging {x = y} t k p a g e) {us} {x} {edge} level o h = stops level (tagging t k p a g e) o h (none_pops level (FTag y) x refl)
  reduce_sound (outer {e = y} t k p a g e i) {us} {x} {edge} level o h = stops level (outer t k p a g e i) o h (none_pops level (FOuter y) x refl)

  over_as : {room : ℕ} {K : List Frame} {x : P} {edge : ℕ} (us vs : List Terminal) → us ≡ vs → Over room K us x edge → Over room K vs x edge
  over_as {room} {K} {x} {edge} us vs e o = subst (λ (ws : List Terminal). Over room K ws x edge) e o

  -- What may stand over a frame, with what the frame is made of.
  Standing : List Frame → List Terminal → List Terminal → P → ℕ → ℕ → Type 0
  Standing K ts us x edge room = Made room K ts × Over room K us x edge

  leads_combines : {r : ℕ} {K : List Frame} (t : Terminal) (op : Prefix) → start_of t ≡ Start.Leads op → StartsAt K (t ∷ []) → Combines r (FLeads op) K (t ∷ [])
  unfolding completed frame_level level_at
  leads_combines {r} {K} t op e h = record {
    value = A.of_lead op;
    completes = λ x. refl;
    tall = λ g. leads_above op;
    over = λ us x edge o. record { phrase = leads t e o.phrase; starts = starts-append K (t ∷ []) us h };
    inner_below = inner K (t ∷ []) h;
  }

  pub begins_sounds : {room : ℕ} {K : List Frame} {ts : List Terminal} (n : Start) (t : Terminal) → Made room K ts → StartsAt K (t ∷ []) → start_of t ≡ n → Sounds (begins n K) (ts ++ t ∷ [])
  unfolding begins
  begins_sounds {room} {K} {ts} (Start.Operand l) t k h e = record { room = room; ts = ts; us = t ∷ []; frames = k; over = record { phrase = operand t e; starts = h }; tokens = refl }
  begins_sounds {room} {K} {ts} (Start.Leads op) t k h e =
      push_sounds (λ r. Made r K ts) room (FLeads op) K (ts ++ t ∷ []) (made_room k) k (λ r p. record { room = r; frames = combining (FLeads op) p (leads_combines t op e h); starts = λ u. tt })
  begins_sounds {room} {K} {ts} (Start.Opens Opening.Group) t k h e =
      push_sounds (λ r. Made r K ts) room FGroup K (ts ++ t ∷ []) (made_room k) k (λ r p. record { room = r; frames = grouping t p e h; starts = λ u. tt })
  begins_sounds {room} {K} {ts} (Start.Opens Opening.Braces) t k h e = record { room = room; ts = ts; us = t ∷ []; frames = k; opens = by_list t e h; tokens = refl }
  begins_sounds Start.NoStart t k h e = tt

  -- A new frame, in which the token begins a phrase.
  pub record Enters (r : ℕ) (F : Frame) (K : List Frame) (t : Terminal) (all : List Terminal) : Type 0 where
    pub ts : List Terminal
    pub frames : Made r (F ∷ K) ts
    pub starts : StartsAt (F ∷ K) (t ∷ [])
    pub tokens : all ≡ ts ++ t ∷ []

  enter_sounds : (c : Bool) (F : Frame) (t : Terminal) (K : List Frame) (all : List Terminal) {r : ℕ} → Enters r F K t all →
      Sounds (option_and_then (λ (s : State). begins (start_of t) s.0) (cond c (Some (F ∷ K, MWant)) None)) all
  enter_sounds true F t K all n = subst (Sounds (begins (start_of t) (F ∷ K))) (sym n.tokens) (begins_sounds (start_of t) t n.frames n.starts refl)
  enter_sounds false F t K all n = tt

  begins_in_sounds : (P : ℕ → Type 0) (room : ℕ) (F : Frame) (t : Terminal) (K : List Frame) (all : List Terminal) → length K + room ≡ nesting_limit → P room →
      ((r : ℕ) → P (suc r) → Enters r F K t all) → Sounds (begins_in F t K) all
  unfolding begins_in push
  begins_in_sounds P zero F t K all d p k = rw (le-ltb (length K) nesting_limit (omega arith)) tt
  begins_in_sounds P (suc r) F t K all d p k = enter_sounds (nat_lt (length K) nesting_limit) F t K all (k r p)

  tail_tokens : (ls rs : List Terminal) (t : Terminal) → ls ++ t ∷ rs ≡ (ls ++ t ∷ []) ++ rs
  tail_tokens ls rs t = sym (append_assoc ls (t ∷ []) rs)

  joins_combines : {r edge : ℕ} {K : List Frame} {us : List Terminal} {x : P} {op : Operator} (t : Terminal) → IsJoin t op → Over (suc r) K us x edge → level_at K ≤ level_of op → level_of op < edge →
      A.accepts op x ≡ true → Combines r (FJoins op x) K (us ++ t ∷ [])
  unfolding completed frame_level level_at
  joins_combines {r} {edge} {K} {us} {x} {op} t j o a h k = record {
    value = A.of_join op x;
    completes = λ y. refl;
    tall = λ g. omega (arith, level_right op);
    over = λ rs y far q. over_as (us ++ t ∷ rs) ((us ++ t ∷ []) ++ rs) (tail_tokens us rs t) (record { phrase = binary t o.phrase j a h k q.phrase; starts = starts-append K us (t ∷ rs) o.starts });
    inner_below = inner K us o.starts;
  }

  attached_sounds : {room edge : ℕ} {K : List Frame} {ts us : List Terminal} {x : P} {op : Operator} (t : Terminal) → IsJoin t op → Made room K ts → Over room K us x edge → level_of op < edge →
      Sounds (attached op K x) (ts ++ (us ++ t ∷ []))
  unfolding attached Standing
  attached_sounds {room} {edge} {K} {ts} {us} {x} {op} t j k o h =
      only_at_sounds (level_of op) K _ (ts ++ (us ++ t ∷ [])) (λ a.
      if_sounds (A.accepts op x) (push (FJoins op x) K) (ts ++ (us ++ t ∷ [])) (λ g.
      push_sounds (Standing K ts us x edge) room (FJoins op x) K (ts ++ (us ++ t ∷ [])) (made_room k) (k, o) (λ r p.
      record { room = r; frames = combining (FJoins op x) p.0 (joins_combines t j p.1 a h g); starts = λ u. tt })))

  besides_over : {r edge : ℕ} {K : List Frame} {us : List Terminal} {x : P} (rs : List Terminal) (y : P) (far : ℕ) → Over (suc r) K us x edge → level_at K ≤ level_of Operator.Times → level_of Operator.Times < edge →
      PhraseOf P Q L A r (right_of Operator.Times) rs y far → BeginsBeside rs → Over (suc r) K (us ++ rs) (A.of_join Operator.Times x y) (min (right_of Operator.Times) far)
  besides_over [] y far o a h q e = absurd e
  besides_over {r} {edge} {K} {us} {x} (u ∷ rs) y far o a h q e = record { phrase = beside u o.phrase e a h q; starts = starts-append K us (u ∷ rs) o.starts }

  beside_combines : {r edge : ℕ} {K : List Frame} {us : List Terminal} {x : P} → Over (suc r) K us x edge → level_at K ≤ level_of Operator.Times → level_of Operator.Times < edge → Combines r (FBeside x) K us
  unfolding completed frame_level level_at
  beside_combines {r} {edge} {K} {us} {x} v a h = record {
    value = A.of_join Operator.Times x;
    completes = λ y. refl;
    tall = λ g. omega (arith, level_right Operator.Times);
    over = λ rs y far q. besides_over rs y far v a h q.phrase q.starts;
    inner_below = inner K us v.starts;
  }

  tagged_tokens : (ls us rs : List Terminal) (t u : Terminal) → ls ++ t ∷ (us ++ u ∷ rs) ≡ ((ls ++ t ∷ []) ++ (us ++ u ∷ [])) ++ rs
  tagged_tokens ls us rs t u = sym (simp append_assoc)

  tagged_combines : {r edge near : ℕ} {K : List Frame} {ls us : List Terminal} {x y : P} {op : Operator} (t u : Terminal) (form : Builtin) → Over (suc r) K ls x edge → next_of t ≡ Next.Tags → level_at K ≤ 3 → 3 < edge →
      PhraseOf P Q L A r 4 us y near → next_of u ≡ Next.Joins op → tags_of op ≡ Some form → Combines r (FTagged form x y) K ((ls ++ t ∷ []) ++ (us ++ u ∷ []))
  unfolding completed frame_level level_at
  tagged_combines {r} {edge} {near} {K} {ls} {us} {x} {y} {op} t u form o e a h q i g = record {
    value = A.of_tag form x y;
    completes = λ z. refl;
    tall = λ w. absurd (omega arith);
    over = λ rs z far p. over_as (ls ++ t ∷ (us ++ u ∷ rs)) (((ls ++ t ∷ []) ++ (us ++ u ∷ [])) ++ rs) (tagged_tokens ls us rs t u)
        (record { phrase = tags t u o.phrase e a h q i g p.phrase; starts = starts-append K ls (t ∷ (us ++ u ∷ rs)) o.starts });
    inner_below = inner K ls o.starts;
  }

  -- What stands in a frame of a tag.
  record Tags (room : ℕ) (y : P) (K : List Frame) (all : List Terminal) : Type 0 where
    edge : ℕ
    t : Terminal
    ts : List Terminal
    ls : List Terminal
    frames : Made (suc room) K ts
    over : Over (suc room) K ls y edge
    low : level_at K ≤ 3
    above : 3 < edge
    sign : next_of t ≡ Next.Tags
    tokens : all ≡ ts ++ (ls ++ t ∷ [])

  in_tag : {room : ℕ} (y : P) (K : List Frame) {ts : List Terminal} → Made room (FTag y ∷ K) ts → Tags room y K ts
  unfolding completed
  in_tag y K (combining F k c) = let e : None ≡ Some (c.value y) = c.completes y in cc
  in_tag y K (tagging {edge = edge} {ts = ts} {us = us} t k o a h e) = record { edge = edge; t = t; ts = ts; ls = us; frames = k; over = o; low = a; above = h; sign = e; tokens = refl }

  assign_sounds : {room near : ℕ} {y : P} {K : List Frame} {all us : List Terminal} {x : P} {op : Operator} (t : Terminal) (form : Builtin) → tags_of op ≡ Some form → next_of t ≡ Next.Joins op →
      Tags room y K all → Over room (FTag y ∷ K) us x near → Wants (FTagged form y x ∷ K) (all ++ (us ++ t ∷ []))
  unfolding level_at frame_level
  assign_sounds {room} {near} {y} {K} {all} {us} {x} {op} t form g e w q = record {
    room = room;
    frames = subst (Made room (FTagged form y x ∷ K)) (sym (append_assoc w.ts (w.ls ++ w.t ∷ []) (us ++ t ∷ [])) ∙ ap (λ (v : List Terminal). v ++ (us ++ t ∷ [])) (sym w.tokens))
        (combining (FTagged form y x) w.frames (tagged_combines w.t t form w.over w.sign w.low w.above q.phrase e g));
    starts = λ u. tt;
  }

  joined_sounds : {room : ℕ} (K : List Frame) {ts us : List Terminal} {x : P} {edge : ℕ} {op : Operator} (t : Terminal) (form : Option Builtin) → tags_of op ≡ form → next_of t ≡ Next.Joins op →
      Made room K ts → Over room K us x edge → level_of op < edge → Sounds (joined_by form (tag_on_top K) op K x) (ts ++ (us ++ t ∷ []))
  unfolding tag_on_top
  joined_sounds K t None g e k q h = attached_sounds t (joins t e) k q h
  joined_sounds [] t (Some form) g e k q h = attached_sounds t (joins t e) k q h
  joined_sounds (FTag y ∷ K) t (Some form) g e k q h = assign_sounds t form g e (in_tag y K k) q
  joined_sounds (FGroup ∷ K) t (Some form) g e k q h = attached_sounds t (joins t e) k q h
  joined_sounds (FElements opening xs ∷ K) t (Some form) g e k q h = attached_sounds t (joins t e) k q h
  joined_sounds (FLeads op ∷ K) t (Some form) g e k q h = attached_sounds t (joins t e) k q h
  joined_sounds (FJoins op x ∷ K) t (Some form) g e k q h = attached_sounds t (joins t e) k q h
  joined_sounds (FBeside x ∷ K) t (Some form) g e k q h = attached_sounds t (joins t e) k q h
  joined_sounds (FTagged other x y ∷ K) t (Some form) g e k q h = attached_sounds t (joins t e) k q h
  joined_sounds (FOuter x ∷ K) t (Some form) g e k q h = attached_sounds t (joins t e) k q h

  -- What closes in a bracket.
  record Inside (room : ℕ) (K : List Frame) (us : List Terminal) (x : P) : Type 0 where
    whole : level_at K ≡ 2 → WholeOf P Q L A room us x

  before_row : {room : ℕ} {ws us : List Terminal} {xs : L} {x : P} → Before room ws xs → WholeOf P Q L A room us x → RowOf P Q L A room (ws ++ us) (A.added xs (A.expr_of x))
  before_row first w = one w
  before_row {room} {us = us} {xs = xs} {x = x} (later {ws = ws} t r e) w = subst (λ (v : List Terminal). RowOf P Q L A room v (A.added xs (A.expr_of x))) (tail_tokens ws us t) (more t r e w)

  -- What stands in a frame of elements.
  record Filled (room : ℕ) (opening : Opened) (xs : L) (K : List Frame) (all : List Terminal) : Type 0 where
    ts : List Terminal
    us : List Terminal
    ws : List Terminal
    frames : Made (suc room) K ts
    opens : Opens (suc room) K opening us
    before : Before room ws xs
    tokens : all ≡ ts ++ (us ++ ws)

  in_elements : {room : ℕ} (opening : Opened) (xs : L) (K : List Frame) (x : P) {all : List Terminal} → Made room (FElements opening xs ∷ K) all → Filled room opening xs K all
  unfolding completed
  in_elements opening xs K x (combining F k c) = let e : None ≡ Some (c.value x) = c.completes x in cc
  in_elements opening xs K x (filling {ts = ts} {us = us} {ws = ws} k p q) = record { ts = ts; us = us; ws = ws; frames = k; opens = p; before = q; tokens = refl }

  record Grouped (room : ℕ) (K : List Frame) (all : List Terminal) : Type 0 where
    ts : List Terminal
    t : Terminal
    frames : Made (suc room) K ts
    sign : start_of t ≡ Start.Opens Opening.Group
    starts : StartsAt K (t ∷ [])
    tokens : all ≡ ts ++ t ∷ []

  in_group : {room : ℕ} (K : List Frame) (x : P) {all : List Terminal} → Made room (FGroup ∷ K) all → Grouped room K all
  unfolding completed
  in_group K x (combining F k c) = let e : None ≡ Some (c.value x) = c.completes x in cc
  in_group K x (grouping {ts = ts} t k e h) = record { ts = ts; t = t; frames = k; sign = e; starts = h; tokens = refl }

  comma_tokens : (ts us ws vs : List Terminal) → ts ++ (us ++ (ws ++ vs)) ≡ (ts ++ (us ++ ws)) ++ vs
  comma_tokens ts us ws vs = sym (simp append_assoc)

  separated_sounds : {room : ℕ} (K : List Frame) {all us : List Terminal} {x : P} (t : Terminal) → next_of t ≡ Next.Comma → Made room K all → Inside room K us x → Sounds (separated K x) (all ++ (us ++ t ∷ []))
  unfolding separated level_at frame_level
  separated_sounds {room} (FElements opening xs ∷ K) {all} {us} {x} t e k q =
      let w = in_elements opening xs K x k in
      record {
        room = room;
        frames = subst (Made room (FElements opening (A.added xs (A.expr_of x)) ∷ K))
            (ap (λ (v : List Terminal). w.ts ++ (w.us ++ v)) (append_assoc w.ws us (t ∷ [])) ∙ comma_tokens w.ts w.us w.ws (us ++ t ∷ []) ∙ ap (λ (v : List Terminal). v ++ (us ++ t ∷ [])) (sym w.tokens))
            (filling w.frames w.opens (later t (before_row w.before (q.whole refl)) e));
        starts = λ u. tt;
      }
  separated_sounds [] t e k q = tt
  separated_sounds (FGroup ∷ K) t e k q = tt
  separated_sounds (FLeads op ∷ K) t e k q = tt
  separated_sounds (FJoins op x ∷ K) t e k q = tt
  separated_sounds (FBeside x ∷ K) t e k q = tt
  separated_sounds (FTag x ∷ K) t e k q = tt
  separated_sounds (FTagged form x y ∷ K) t e k q = tt
  separated_sounds (FOuter x ∷ K) t e k q = tt

  -- The elements and their closing bracket.
  made_sounds : {room : ℕ} {K : List Frame} {ts us ws : List Terminal} {xs : L} {opening : Opened} (c : Bracket) (u : Terminal) → next_of u ≡ Next.Closes c → closes c opening ≡ true →
      Made room K ts → Opens room K opening us → ElementsOf P Q L A room ws xs → Sound K (made opening xs) (ts ++ (us ++ (ws ++ u ∷ [])))
  unfolding closes made
  made_sounds {room} {K} {ts} {us} {ws} {xs} Bracket.Curly u e g k (by_list t j h) w =
      record { room = room; ts = ts; us = t ∷ (ws ++ u ∷ []); frames = k; over = record { phrase = braces t u j w e; starts = starts-append K (t ∷ []) (ws ++ u ∷ []) h }; tokens = refl }
  made_sounds Bracket.Round u e g k (by_list t j h) w = cc
  made_sounds Bracket.Square u e g k (by_list t j h) w = cc
  made_sounds {room} {K} {ts} {us} {ws} {xs} Bracket.Square u e g k (by_call t ls v j a h) w =
      record {
        room = room;
        ts = ts;
        us = ls ++ t ∷ (ws ++ u ∷ []);
        frames = k;
        over = record { phrase = call t u v.phrase j a h w e; starts = starts-append K ls (t ∷ (ws ++ u ∷ [])) v.starts };
        tokens = ap (λ (z : List Terminal). ts ++ z) (sym (tail_tokens ls (ws ++ u ∷ []) t));
      }
  made_sounds Bracket.Round u e g k (by_call t ls v j a h) w = cc
  made_sounds Bracket.Curly u e g k (by_call t ls v j a h) w = cc
  made_sounds {room} {K} {ts} {us} {ws} {xs} Bracket.Square u e g k (by_part t j) w =
      record { room = room; ts = ts; ws = ws; t = t; u = u; top = tt; frames = k; elements = w; opens = j; closing = e; tokens = refl }
  made_sounds Bracket.Round u e g k (by_part t j) w = cc
  made_sounds Bracket.Curly u e g k (by_part t j) w = cc

  closed_elements_sounds : {room : ℕ} {K : List Frame} {ts us ws : List Terminal} {xs : L} {opening : Opened} (c : Bracket) (u : Terminal) → next_of u ≡ Next.Closes c →
      Made room K ts → Opens room K opening us → ElementsOf P Q L A room ws xs → Sounds (closed_elements c opening xs K) (ts ++ (us ++ (ws ++ u ∷ [])))
  unfolding closed_elements
  closed_elements_sounds {K = K} {ts} {us} {ws} {xs} {opening} c u e k p w =
      if_sounds (closes c opening) (Some (K, made opening xs)) (ts ++ (us ++ (ws ++ u ∷ []))) (λ g. made_sounds c u e g k p w)

  closed_sounds : {room : ℕ} (K : List Frame) {all us : List Terminal} {x : P} (c : Bracket) (t : Terminal) → next_of t ≡ Next.Closes c → Made room K all → Inside room K us x → Sounds (closed c K x) (all ++ (us ++ t ∷ []))
  unfolding closed closed_group level_at frame_level
  closed_sounds {room} (FElements opening xs ∷ K) {all} {us} {x} c t e k q =
      let w = in_elements opening xs K x k in
      subst (Sounds (closed_elements c opening (A.added xs (A.expr_of x)) K))
      (ap (λ (v : List Terminal). w.ts ++ (w.us ++ v)) (append_assoc w.ws us (t ∷ [])) ∙ comma_tokens w.ts w.us w.ws (us ++ t ∷ []) ∙ ap (λ (v : List Terminal). v ++ (us ++ t ∷ [])) (sym w.tokens))
      (closed_elements_sounds c t e w.frames w.opens (row (before_row w.before (q.whole refl))))
  closed_sounds {room} (FGroup ∷ K) {all} {us} {x} Bracket.Round t e k q =
      let w = in_group K x k in
      record {
        room = suc room;
        ts = w.ts;
        us = w.t ∷ (us ++ t ∷ []);
        frames = w.frames;
        over = record { phrase = group w.t t w.sign (q.whole refl) e; starts = starts-append K (w.t ∷ []) (us ++ t ∷ []) w.starts };
        tokens = ap (λ (v : List Terminal). v ++ (us ++ t ∷ [])) w.tokens ∙ sym (tail_tokens w.ts (us ++ t ∷ []) w.t);
      }
  closed_sounds (FGroup ∷ K) Bracket.Square t e k q = tt
  closed_sounds (FGroup ∷ K) Bracket.Curly t e k q = tt
  closed_sounds [] c t e k q = tt
  closed_sounds (FLeads op ∷ K) c t e k q = tt
  closed_sounds (FJoins op x ∷ K) c t e k q = tt
  closed_sounds (FBeside x ∷ K) c t e k q = tt
  closed_sounds (FTag x ∷ K) c t e k q = tt
  closed_sounds (FTagged form x y ∷ K) c t e k q = tt
  closed_sounds (FOuter x ∷ K) c t e k q = tt

  inside_over : {room edge : ℕ} {K : List Frame} {us : List Terminal} {x : P} → Over room K us x edge → Inside room K us x
  inside_over {room} {edge} {K} {us} {x} v = record { whole = λ e. plain (subst (λ (n : ℕ). PhraseOf P Q L A room n us x edge) e v.phrase) }

  goes_on_sounds : {room edge : ℕ} {K : List Frame} {ts us : List Terminal} {x : P} (n : Next) (t : Terminal) → next_of t ≡ n → Made room K ts → Over room K us x edge → next_level n < edge →
      Sounds (goes_on n t K x) (ts ++ (us ++ t ∷ []))
  unfolding goes_on next_level joined Standing
  goes_on_sounds {K = K} (Next.Joins op) t e k v h = joined_sounds K t (tags_of op) refl e k v h
  goes_on_sounds {room} {edge} {K} {ts} {us} {x} Next.Semicolon t e k v h =
      only_at_sounds 2 K _ (ts ++ (us ++ t ∷ [])) (λ a. record {
        edge = edge;
        before = ts ++ us;
        t = t;
        base = a;
        above = h;
        semicolon = e;
        tokens = sym (append_assoc ts us (t ∷ []));
        has = record { room = room; ts = ts; us = us; frames = k; over = v; tokens = refl };
      })
  goes_on_sounds {room} {edge} {K} {ts} {us} {x} Next.Beside t e k v h =
      only_at_sounds (level_of Operator.Times) K _ (ts ++ (us ++ t ∷ [])) (λ a.
      begins_in_sounds (Standing K ts us x edge) room (FBeside x) t K (ts ++ (us ++ t ∷ [])) (made_room k) (k, v) (λ r p.
      record { ts = ts ++ us; frames = combining (FBeside x) p.0 (beside_combines p.1 a h); starts = e; tokens = sym (append_assoc ts us (t ∷ [])) }))
  goes_on_sounds {room} {edge} {K} {ts} {us} {x} Next.Tags t e k v h =
      only_at_sounds 3 K _ (ts ++ (us ++ t ∷ [])) (λ a.
      push_sounds (Standing K ts us x edge) room (FTag x) K (ts ++ (us ++ t ∷ [])) (made_room k) (k, v) (λ r p. record { room = r; frames = tagging t p.0 p.1 a h e; starts = λ u. tt }))
  goes_on_sounds {room} {edge} {K} {ts} {us} {x} (Next.Trails op) t e k v h =
      only_at_sounds (trails_at op) K _ (ts ++ (us ++ t ∷ [])) (λ a. record {
        room = room;
        ts = ts;
        us = us ++ t ∷ [];
        frames = k;
        tokens = refl;
        over = record { phrase = trails t v.phrase e a h; starts = starts-append K us (t ∷ []) v.starts };
      })
  goes_on_sounds {room} {edge} {K} {ts} {us} {x} Next.Elements t e k v h =
      only_at_sounds 25 K _ (ts ++ (us ++ t ∷ [])) (λ a. record { room = room; ts = ts; us = us ++ t ∷ []; frames = k; opens = by_call t us v e a h; tokens = refl })
  goes_on_sounds {K = K} Next.Comma t e k v h = separated_sounds K t e k (inside_over v)
  goes_on_sounds {K = K} (Next.Closes c) t e k v h = closed_sounds K c t e k (inside_over v)
  goes_on_sounds Next.NoNext t e k v h = tt

  next_level_low : (n : Next) → next_level n < 100
  unfolding next_level
  next_level_low (Next.Joins op) = level_low op
  next_level_low Next.Semicolon = omega arith
  next_level_low Next.Beside = level_low Operator.Times
  next_level_low Next.Tags = omega arith
  next_level_low (Next.Trails op) = trails_low op
  next_level_low Next.Elements = omega arith
  next_level_low Next.Comma = omega arith
  next_level_low (Next.Closes c) = omega arith
  next_level_low Next.NoNext = omega arith

  -- What goes on behind what was reduced.
  reduced_sounds : (n : Next) (t : Terminal) (p : List Frame × P) (all : List Terminal) → next_of t ≡ n → Reduces (next_level n) p all → Sounds (goes_on n t p.0 p.1) (all ++ t ∷ [])
  reduced_sounds n t p all e r =
      subst (Sounds (goes_on n t p.0 p.1)) (append_assoc' r.has.ts r.has.us ∙ ap (λ (v : List Terminal). v ++ t ∷ []) (sym r.has.tokens))
      (goes_on_sounds n t e r.has.frames r.has.over r.above)
    where
      append_assoc' : (ts us : List Terminal) → ts ++ (us ++ t ∷ []) ≡ (ts ++ us) ++ t ∷ []
      append_assoc' ts us = sym (append_assoc ts us (t ∷ []))

  phrase_sounds : {K : List Frame} {x : P} {all : List Terminal} (n : Next) (t : Terminal) → next_of t ≡ n → Has K x 100 all → Sounds (follows_phrase n t K x) (all ++ t ∷ [])
  unfolding follows_phrase
  phrase_sounds {K} {x} {all} n t e h =
      subst (λ (v : List Terminal). Sounds (follows_phrase n t K x) (v ++ t ∷ [])) (sym h.tokens)
      (reduced_sounds n t (reduce (next_level n) K x) (h.ts ++ h.us) e (reduce_sound h.frames (next_level n) h.over (next_level_low n)))

  -- The phrase before a semicolon, A.of_end by it.
  ended_inside : {room edge : ℕ} {K : List Frame} {us : List Terminal} {x : P} (t : Terminal) → Over room K us x edge → next_of t ≡ Next.Semicolon → 2 < edge → Inside room K (us ++ t ∷ []) (A.of_end x)
  ended_inside {room} {edge} {K} {us} {x} t v e h = record { whole = λ g. ends t (subst (λ (n : ℕ). PhraseOf P Q L A room n us x edge) g v.phrase) e h }

  separates_tokens : (ts us : List Terminal) (s t : Terminal) → ts ++ ((us ++ s ∷ []) ++ t ∷ []) ≡ ((ts ++ us) ++ s ∷ []) ++ t ∷ []
  separates_tokens ts us s t = simp append_assoc

  semicolon_tokens : {K : List Frame} {x : P} {all : List Terminal} (s : Separates K x all) (t : Terminal) → s.has.ts ++ ((s.has.us ++ s.t ∷ []) ++ t ∷ []) ≡ all ++ t ∷ []
  semicolon_tokens s t = separates_tokens s.has.ts s.has.us s.t t ∙ ap (λ (v : List Terminal). (v ++ s.t ∷ []) ++ t ∷ []) (sym s.has.tokens) ∙ ap (λ (v : List Terminal). v ++ t ∷ []) (sym s.tokens)

  sequence_level : (n : ℕ) → n ≤ 2 → n ≤ level_of Operator.CompoundExpression
  unfolding level_of infix_row
  sequence_level n h = h

  sequence_edge : (n : ℕ) → 2 < n → level_of Operator.CompoundExpression < n
  unfolding level_of infix_row
  sequence_edge n h = h

  -- Every phrase may stand in front of a semicolon.
  abbrev pub SequenceFits : Type 0
  SequenceFits = (x : P) → A.accepts Operator.CompoundExpression x ≡ true

  sequence_sounds : {K : List Frame} {x : P} {all : List Terminal} → SequenceFits → (t : Terminal) → Separates K x all → Sounds (begins_in (FJoins Operator.CompoundExpression x) t K) (all ++ t ∷ [])
  unfolding Standing
  sequence_sounds {K} {x} {all} fits t s =
      begins_in_sounds (Standing K s.has.ts s.has.us x s.edge) s.has.room (FJoins Operator.CompoundExpression x) t K (all ++ t ∷ []) (made_room s.has.frames) (s.has.frames, s.has.over) (λ r p. record {
        ts = s.has.ts ++ (s.has.us ++ s.t ∷ []);
        frames = combining (FJoins Operator.CompoundExpression x) p.0 (joins_combines s.t (sequence s.t s.semicolon) p.1 (sequence_level (level_at K) s.base) (sequence_edge s.edge s.above) (fits x));
        starts = tt;
        tokens = sym (semicolon_tokens s t) ∙ sym (append_assoc s.has.ts (s.has.us ++ s.t ∷ []) (t ∷ []));
      })

  semicolon_sounds : {K : List Frame} {x : P} {all : List Terminal} → SequenceFits → (n : Next) (t : Terminal) → next_of t ≡ n → Separates K x all → Sounds (follows_semicolon n t K x) (all ++ t ∷ [])
  unfolding follows_semicolon
  semicolon_sounds {K} {x} {all} fits Next.Comma t e s = subst (Sounds (separated K (A.of_end x))) (semicolon_tokens s t) (separated_sounds K t e s.has.frames (ended_inside s.t s.has.over s.semicolon s.above))
  semicolon_sounds {K} {x} {all} fits (Next.Closes c) t e s = subst (Sounds (closed c K (A.of_end x))) (semicolon_tokens s t) (closed_sounds K c t e s.has.frames (ended_inside s.t s.has.over s.semicolon s.above))
  semicolon_sounds fits _ t e s = sequence_sounds fits t s

  opening_tokens : {K : List Frame} {opening : Opened} {all : List Terminal} (s : OpeningAt K opening all) (t : Terminal) → s.ts ++ (s.us ++ t ∷ []) ≡ all ++ t ∷ []
  opening_tokens s t = sym (append_assoc s.ts s.us (t ∷ [])) ∙ ap (λ (v : List Terminal). v ++ t ∷ []) (sym s.tokens)

  -- A frame with no element yet.
  filling_none : {room : ℕ} {K : List Frame} {ts us : List Terminal} {opening : Opened} → Made (suc room) K ts → Opens (suc room) K opening us → Made room (FElements opening A.no_elements ∷ K) (ts ++ us)
  filling_none {room} {K} {ts} {us} {opening} k p = subst (λ (v : List Terminal). Made room (FElements opening A.no_elements ∷ K) (ts ++ v)) (append-nil us) (filling k p first)

  Begun : List Frame → Opened → List Terminal → List Terminal → ℕ → Type 0
  Begun K opening ts us room = Made room K ts × Opens room K opening us

  first_sounds : {K : List Frame} {opening : Opened} {all : List Terminal} (t : Terminal) → OpeningAt K opening all → Sounds (begins_in (FElements opening A.no_elements) t K) (all ++ t ∷ [])
  unfolding Begun
  first_sounds {K} {opening} {all} t s =
      begins_in_sounds (Begun K opening s.ts s.us) s.room (FElements opening A.no_elements) t K (all ++ t ∷ []) (made_room s.frames) (s.frames, s.opens) (λ r p. record {
        ts = s.ts ++ s.us;
        frames = filling_none p.0 p.1;
        starts = tt;
        tokens = ap (λ (v : List Terminal). v ++ t ∷ []) s.tokens;
      })

  -- What opened a call.
  record Called (room : ℕ) (K : List Frame) (x : Q) (us : List Terminal) : Type 0 where
    phrase : P
    edge : ℕ
    t : Terminal
    ls : List Terminal
    over : Over room K ls phrase edge
    sign : next_of t ≡ Next.Elements
    low : level_at K ≤ 25
    above : 25 < edge
    is : A.expr_of phrase ≡ x
    tokens : us ≡ ls ++ t ∷ []

  called_at : {room : ℕ} {K : List Frame} {opening : Opened} {us : List Terminal} → Opens room K opening us → (x : Q) → opening ≡ OCall x → Called room K x us
  called_at (by_list t j h) x e = cc
  called_at (by_call {x = y} {edge = edge} t ls v j a h) x e = record { phrase = y; edge = edge; t = t; ls = ls; over = v; sign = j; low = a; above = h; is = cc; tokens = refl }
  called_at (by_part t j) x e = cc

  outer_tokens : (ts us ls : List Terminal) (u t : Terminal) → us ≡ ls ++ u ∷ [] → ts ++ (ls ++ u ∷ []) ≡ ts ++ us
  outer_tokens ts us ls u t e = rw e refl

  called_outer : {room : ℕ} {K : List Frame} {x : Q} {ts us : List Terminal} → Made (suc room) K ts → Called (suc room) K x us → Made room (FOuter x ∷ K) (ts ++ us)
  called_outer {room} {K} {x} {ts} {us} k w =
      subst (λ (v : List Terminal). Made room (FOuter x ∷ K) (ts ++ v)) (sym w.tokens) (outer w.t k w.over w.low w.above w.sign w.is)

  second_here : (c : Bool) (F : Frame) (K : List Frame) (all : List Terminal) → OpeningAt (F ∷ K) OPart all → Sounds (cond c (Some (F ∷ K, MOpen OPart)) None) all
  second_here true F K all h = h
  second_here false F K all h = tt

  second_sounds : (room : ℕ) {K : List Frame} {x : Q} {ts us all : List Terminal} (t : Terminal) → next_of t ≡ Next.Elements → length K + room ≡ nesting_limit → Made room K ts → Called room K x us → all ≡ ts ++ us →
      Sounds (part_opened K x) (all ++ t ∷ [])
  unfolding part_opened
  second_sounds zero {K} {x} t e d k w q = rw (le-ltb (length K) nesting_limit (omega arith)) tt
  second_sounds (suc room) {K} {x} {ts} {us} {all} t e d k w q =
      second_here (nat_lt (length K) nesting_limit) (FOuter x) K (all ++ t ∷ [])
      (record { room = room; ts = ts ++ us; us = t ∷ []; frames = called_outer k w; opens = by_part t e; tokens = ap (λ (v : List Terminal). v ++ t ∷ []) q })

  second_bracket : {K : List Frame} {x : Q} {all : List Terminal} (t : Terminal) → next_of t ≡ Next.Elements → OpeningAt K (OCall x) all → Sounds (part_opened K x) (all ++ t ∷ [])
  second_bracket {K} {x} {all} t e s = second_sounds s.room t e (made_room s.frames) s.frames (called_at s.opens x refl) s.tokens

  opening_sounds : {K : List Frame} {all : List Terminal} (n : Next) (t : Terminal) (opening : Opened) → next_of t ≡ n → OpeningAt K opening all → Sounds (follows_opening n t K opening) (all ++ t ∷ [])
  unfolding follows_opening
  opening_sounds {K} {all} (Next.Closes c) t opening e s = subst (Sounds (closed_elements c opening A.no_elements K)) (opening_tokens s t) (closed_elements_sounds c t e s.frames s.opens none)
  opening_sounds Next.Elements t (OCall x) e s = second_bracket t e s
  opening_sounds _ t opening e s = first_sounds t s

  -- What stands in the outer bracket of a part.
  record Parted (room : ℕ) (x : Q) (K : List Frame) (all : List Terminal) : Type 0 where
    phrase : P
    edge : ℕ
    t : Terminal
    ts : List Terminal
    ls : List Terminal
    frames : Made (suc room) K ts
    over : Over (suc room) K ls phrase edge
    low : level_at K ≤ 25
    above : 25 < edge
    sign : next_of t ≡ Next.Elements
    is : A.expr_of phrase ≡ x
    tokens : all ≡ ts ++ (ls ++ t ∷ [])

  parted_at : {room : ℕ} (x : Q) (K : List Frame) (y : P) {all : List Terminal} → Made room (FOuter x ∷ K) all → Parted room x K all
  unfolding completed
  parted_at x K y (combining F k c) = let e : None ≡ Some (c.value y) = c.completes y in cc
  parted_at x K y (outer {edge = edge} {ts = ts} {us = us} {x = z} t k o a h j i) =
      record { phrase = z; edge = edge; t = t; ts = ts; ls = us; frames = k; over = o; low = a; above = h; sign = j; is = i; tokens = refl }

  half_tokens : (ts ls ws : List Terminal) (t t' u u' : Terminal) → (ts ++ (ls ++ t ∷ [])) ++ t' ∷ (ws ++ u ∷ u' ∷ []) ≡ ts ++ (ls ++ t ∷ t' ∷ (ws ++ u ∷ u' ∷ []))
  half_tokens ts ls ws t t' u u' = simp append_assoc

  half_all : (ts ws : List Terminal) (t u u' : Terminal) → (ts ++ t ∷ (ws ++ u ∷ [])) ++ u' ∷ [] ≡ ts ++ t ∷ (ws ++ u ∷ u' ∷ [])
  half_all ts ws t u u' = simp append_assoc

  part_sounds : {room : ℕ} {K : List Frame} {x : Q} {xs : L} {ts ws all : List Terminal} (t u u' : Terminal) → Parted room x K ts → ElementsOf P Q L A room ws xs → next_of t ≡ Next.Elements →
      next_of u ≡ Next.Closes Bracket.Square → next_of u' ≡ Next.Closes Bracket.Square → all ≡ ts ++ t ∷ (ws ++ u ∷ []) → Has K (A.of_part x xs) 100 (all ++ u' ∷ [])
  part_sounds {room} {K} {x} {xs} {ts} {ws} {all} t u u' w n e g g' q =
      record {
        room = suc room;
        ts = w.ts;
        us = w.ls ++ w.t ∷ t ∷ (ws ++ u ∷ u' ∷ []);
        frames = w.frames;
        over = subst (λ (y : Q). Over (suc room) K (w.ls ++ w.t ∷ t ∷ (ws ++ u ∷ u' ∷ [])) (A.of_part y xs) 100) w.is
            (record { phrase = part w.t t u u' w.over.phrase w.sign e w.low w.above n g g'; starts = starts-append K w.ls (w.t ∷ t ∷ (ws ++ u ∷ u' ∷ [])) w.over.starts });
        tokens = ap (λ (v : List Terminal). v ++ u' ∷ []) q ∙ half_all ts ws t u u' ∙ ap (λ (v : List Terminal). v ++ t ∷ (ws ++ u ∷ u' ∷ [])) w.tokens ∙ half_tokens w.ts w.ls ws w.t t u u';
      }

  half_sounds : (K : List Frame) {xs : L} {all : List Terminal} (y : P) (n : Next) (t : Terminal) → next_of t ≡ n → Halves K xs all → Sounds (follows_half n K xs) (all ++ t ∷ [])
  unfolding follows_half
  half_sounds (FOuter x ∷ K) y (Next.Closes Bracket.Square) t e s = part_sounds s.t s.u t (parted_at x K y s.frames) s.elements s.opens s.closing e s.tokens
  half_sounds [] y n t e s = absurd s.top
  half_sounds (FGroup ∷ K) y n t e s = absurd s.top
  half_sounds (FElements opening xs ∷ K) y n t e s = absurd s.top
  half_sounds (FLeads op ∷ K) y n t e s = absurd s.top
  half_sounds (FJoins op x ∷ K) y n t e s = absurd s.top
  half_sounds (FBeside x ∷ K) y n t e s = absurd s.top
  half_sounds (FTag x ∷ K) y n t e s = absurd s.top
  half_sounds (FTagged form x z ∷ K) y n t e s = absurd s.top
  half_sounds (FOuter x ∷ K) y _ t e s = tt

  pub follows_sounds : SequenceFits → (K : List Frame) (all : List Terminal) (mode : Mode) (t : Terminal) → Sound K mode all → Sounds (follows mode t K) (all ++ t ∷ [])
  unfolding follows
  follows_sounds fits K all MWant t s = begins_sounds (start_of t) t s.frames (s.starts t) refl
  follows_sounds fits K all (MHave x) t s = phrase_sounds (next_of t) t refl s
  follows_sounds fits K all (MSemicolon x) t s = semicolon_sounds fits (next_of t) t refl s
  follows_sounds fits K all (MOpen opening) t s = opening_sounds (next_of t) t opening refl s
  follows_sounds fits K all (MHalf xs) t s = half_sounds K (A.of_list xs) (next_of t) t refl s

  run_bind : (ts : List Terminal) (o : Option State) (all : List Terminal) → ((s : State) → Sound s.0 s.1 all → Sounds (run ts s) (all ++ ts)) → Sounds o all → Sounds (option_and_then (run ts) o) (all ++ ts)
  run_bind ts None all k h = tt
  run_bind ts (Some s) all k h = k s h

  pub run_sounds : SequenceFits → (ts : List Terminal) (s : State) (all : List Terminal) → Sound s.0 s.1 all → Sounds (run ts s) (all ++ ts)
  unfolding run
  run_sounds fits [] s all h = subst (Sound s.0 s.1) (sym (append-nil all)) h
  run_sounds fits (t ∷ ts) s all h =
      subst (Sounds (option_and_then (run ts) (step t s))) (append_assoc all (t ∷ []) ts)
      (run_bind ts (step t s) (all ++ t ∷ []) (λ s' k. run_sounds fits ts s' (all ++ t ∷ []) k) (follows_sounds fits s.0 all s.1 t h))

  pub start_sound : Sound [] MWant []
  start_sound = record { room = nesting_limit; frames = bottom; starts = λ t. tt }

  -- What a run ends with is read.
  unfoldable pub Wholes : Option P → List Terminal → Type 0
  Wholes None all = Unit {0}
  Wholes (Some x) all = WholeOf P Q L A nesting_limit all x

  whole_at_bottom : {room : ℕ} (K : List Frame) {all us : List Terminal} {x : P} → Made room K all → Inside room K us x → Wholes (at_bottom K x) (all ++ us)
  unfolding Wholes level_at
  whole_at_bottom [] bottom w = w.whole refl
  whole_at_bottom (F ∷ K) k w = tt

  pub finish_sound : (K : List Frame) (all : List Terminal) (mode : Mode) → Sound K mode all → Wholes (finished mode K) all
  unfolding finished Wholes
  finish_sound K all (MHave x) s =
      let r = reduce_sound s.frames 0 s.over (omega arith) in
      subst (Wholes (at_bottom (reduce 0 K x).0 (reduce 0 K x).1)) (sym r.has.tokens ∙ sym s.tokens)
      (whole_at_bottom (reduce 0 K x).0 r.has.frames (inside_over r.has.over))
  finish_sound K all (MSemicolon x) s =
      subst (Wholes (at_bottom K (A.of_end x))) (sym (append_assoc s.has.ts s.has.us (s.t ∷ [])) ∙ ap (λ (v : List Terminal). v ++ s.t ∷ []) (sym s.has.tokens) ∙ sym s.tokens)
      (whole_at_bottom K s.has.frames (ended_inside s.t s.has.over s.semicolon s.above))
  finish_sound K all MWant s = tt
  finish_sound K all (MOpen opening) s = tt
  finish_sound K all (MHalf xs) s = tt

  round : next_of (fill Filler.Round) ≡ Next.Closes Bracket.Round
  unfolding word_next on_line sign_next
  round = refl

  curly : next_of (fill Filler.Curly) ≡ Next.Closes Bracket.Curly
  unfolding word_next on_line sign_next
  curly = refl

  square : next_of (fill Filler.Square) ≡ Next.Closes Bracket.Square
  unfolding word_next on_line sign_next
  square = refl

  assign : next_of (fill Filler.Assign) ≡ Next.Joins Operator.Set
  unfolding word_next on_line sign_next
  assign = refl

  assign_tags : tags_of Operator.Set ≡ Some Builtin.TagSet
  unfolding tags_of
  assign_tags = refl

  one_starts : start_of (fill Filler.One) ≡ Start.Operand one_phrase
  unfolding word_start
  one_starts = refl

  -- The machine reads the tokens to an end.
  record Accepts (ts : List Terminal) (state : State) : Type 0 where
    last : State
    value : P
    runs : run ts state ≡ Some last
    ending : finished last.1 last.0 ≡ Some value

  -- Tokens whose first closes all frames that need no further token.
  data Lead (K : List Frame) : List Terminal → Type 0 where
    end : Lead K []
    closing : {ts : List Terminal} {c : Bracket} (t : Terminal) → next_of t ≡ Next.Closes c → Lead K (t ∷ ts)
    assigning : {ts : List Terminal} {op : Operator} {form : Builtin} (t : Terminal) → next_of t ≡ Next.Joins op → tags_of op ≡ Some form → 3 < level_at K → Lead K (t ∷ ts)

  record Ends (K : List Frame) (x : P) : Type 0 where
    tail : List Filler
    accepts : Accepts (fills tail) (K, MHave x)
    lead : Lead K (fills tail)

  -- One step more.
  step_accepts : {ts : List Terminal} {s s' : State} (t : Terminal) → step t s ≡ Some s' → Accepts ts s' → Accepts (t ∷ ts) s
  step_accepts {ts} {s} {s'} t e a = record { last = a.last; value = a.value; runs = run_step t ts s s' e ∙ a.runs; ending = a.ending }

  -- The same step.
  same_accepts : {ts : List Terminal} {s s' : State} (t : Terminal) → step t s ≡ step t s' → Accepts (t ∷ ts) s' → Accepts (t ∷ ts) s
  unfolding run
  same_accepts {ts} {s} {s'} t e a = record { last = a.last; value = a.value; runs = ap (option_and_then (run ts)) e ∙ a.runs; ending = a.ending }

  -- The same end.
  same_end : {s s' : State} → finished s.1 s.0 ≡ finished s'.1 s'.0 → Accepts [] s' → Accepts [] s
  unfolding run
  same_end {s} {s'} e a =
      let q : s' ≡ a.last = cc (a.runs) in
      record { last = s; value = a.value; runs = refl; ending = e ∙ ap (λ (v : State). finished v.1 v.0) q ∙ a.ending }

  same_step : (t : Terminal) (n : Next) (K L : List Frame) (x y : P) → next_of t ≡ n → reduce (next_level n) K x ≡ reduce (next_level n) L y → step t (K, MHave x) ≡ step t (L, MHave y)
  unfolding follows follows_phrase
  same_step t n K L x y e r = rw e (ap (λ p. goes_on n t p.0 p.1) r)

  frame_accepts : {K : List Frame} {x y : P} (F : Frame) → completed F x ≡ Some y → (3 < level_at K → 3 < frame_level F) → 2 < frame_level F →
      {ts : List Terminal} → Lead K ts → Accepts ts (K, MHave y) → Accepts ts (F ∷ K, MHave x)
  unfolding finished next_level
  frame_accepts {K} {x} {y} F c g low end a = same_end (ap (λ (p : List Frame × P). at_bottom p.0 p.1) (reduce_some 0 F K x y (omega arith) c)) a
  frame_accepts {K} {x} {y} F c g low (closing {c = d} t e) a = same_accepts t (same_step t (Next.Closes d) (F ∷ K) K x y e (reduce_some 0 F K x y (omega arith) c)) a
  frame_accepts {K} {x} {y} F c g low (assigning {op = op} {form = form} t e k h) a =
      let three : level_of op ≡ 3 = tags_level op form k in
      let tall : 3 < frame_level F = g h in
      same_accepts t (same_step t (Next.Joins op) (F ∷ K) K x y e (reduce_some (level_of op) F K x y (omega arith) c)) a

  frame_leads : {K : List Frame} (F : Frame) → (3 < level_at K → 3 < frame_level F) → {ts : List Terminal} → Lead K ts → Lead (F ∷ K) ts
  unfolding level_at
  frame_leads F g end = end
  frame_leads F g (closing t e) = closing t e
  frame_leads F g (assigning t e k h) = assigning t e k (g h)

  frame_ends : {K : List Frame} {x y : P} (F : Frame) → completed F x ≡ Some y → (3 < level_at K → 3 < frame_level F) → Ends K y → Ends (F ∷ K) x
  frame_ends {K} {x} {y} F c g n = record { tail = n.tail; accepts = frame_accepts F c g (completed_level F x y c) n.lead n.accepts; lead = frame_leads F g n.lead }

  close_step : (K : List Frame) (x : P) {s : State} (t : Terminal) (c : Bracket) → level_at K ≤ 2 → next_of t ≡ Next.Closes c → closed c K x ≡ Some s → step t (K, MHave x) ≡ Some s
  unfolding follows follows_phrase goes_on next_level
  close_step K x t c a e k = rw e (ap (λ p. closed c p.0 p.1) (reduce_base 0 K x a) ∙ k)

  close_ends : {K : List Frame} {x : P} {s : State} (ts : List Filler) (t : Filler) (c : Bracket) → level_at K ≤ 2 → next_of (fill t) ≡ Next.Closes c → closed c K x ≡ Some s → Accepts (fills ts) s → Ends K x
  close_ends {K} {x} {s} ts t c a e k p = record { tail = t ∷ ts; accepts = step_accepts (fill t) (close_step K x (fill t) c a e k) p; lead = closing (fill t) e }

  -- The bracket that closes.
  record Closer (opening : Opened) : Type 0 where
    bracket : Bracket
    filler : Filler
    is : next_of (fill filler) ≡ Next.Closes bracket
    fits : closes bracket opening ≡ true

  closer_of : (opening : Opened) → Closer opening
  unfolding closes
  closer_of OList = record { bracket = Bracket.Curly; filler = Filler.Curly; is = curly; fits = refl }
  closer_of (OCall x) = record { bracket = Bracket.Square; filler = Filler.Square; is = square; fits = refl }
  closer_of OPart = record { bracket = Bracket.Square; filler = Filler.Square; is = square; fits = refl }

  record Accepted (s : State) : Type 0 where
    tail : List Filler
    accepts : Accepts (fills tail) s

  half_step : (K : List Frame) (x : Q) (xs : L) → step (fill Filler.Square) (FOuter x ∷ K, MHalf xs) ≡ Some (K, MHave (A.of_part x xs))
  unfolding follows follows_half
  half_step K x xs = rw square refl

  half_accepted : (K : List Frame) (x : Q) (xs : L) → Ends K (A.of_part x xs) → Accepted (FOuter x ∷ K, MHalf xs)
  half_accepted K x xs n = record { tail = Filler.Square ∷ n.tail; accepts = step_accepts (fill Filler.Square) (half_step K x xs) n.accepts }

  ends_accepted : {K : List Frame} {x : P} → Ends K x → Accepted (K, MHave x)
  ends_accepted n = record { tail = n.tail; accepts = n.accepts }

  elements_closed : (opening : Opened) (xs : L) (K : List Frame) (c : Bracket) → closes c opening ≡ true → closed_elements c opening xs K ≡ Some (K, made opening xs)
  unfolding closed_elements
  elements_closed opening xs K c e = rw e

  elements_end : (opening : Opened) (xs : L) (K : List Frame) (x : P) → Accepted (K, made opening (A.added xs (A.expr_of x))) → Ends (FElements opening xs ∷ K) x
  unfolding closed level_at frame_level
  elements_end opening xs K x a =
      let c = closer_of opening in
      close_ends a.tail c.filler c.bracket (omega arith) c.is (elements_closed opening (A.added xs (A.expr_of x)) K c.bracket c.fits) a.accepts

  one_step : (K : List Frame) → step (fill Filler.One) (K, MWant) ≡ Some (K, MHave (A.of_leaf one_phrase))
  unfolding follows begins
  one_step K = rw one_starts

  none_stops : (level : ℕ) (y : P) (K : List Frame) (x : P) → reduce level (FTag y ∷ K) x ≡ (FTag y ∷ K, x)
  unfolding completed popped
  none_stops level y K x = reduce_none level (FTag y) K x (elim (nat_lt level (frame_level (FTag y))) as (λ c. cond {A = Option P} c None None ≡ None) [ true ↦ refl | false ↦ refl ])

  assign_step : (y : P) (K : List Frame) (x : P) → step (fill Filler.Assign) (FTag y ∷ K, MHave x) ≡ Some (FTagged Builtin.TagSet y x ∷ K, MWant)
  unfolding follows follows_phrase goes_on next_level joined tag_on_top
  assign_step y K x = rw assign (ap (λ p. joined Operator.Set p.0 p.1) (none_stops (level_of Operator.Set) y K x) ∙ rw assign_tags)

  tag_ends : {K : List Frame} (y x : P) → level_at K ≤ 3 → ((z : P) → Ends K z) → Ends (FTag y ∷ K) x
  unfolding completed level_at frame_level
  tag_ends {K} y x a n =
      let nm = A.of_leaf one_phrase in
      let e : Ends (FTagged Builtin.TagSet y x ∷ K) nm = frame_ends (FTagged Builtin.TagSet y x) refl (λ g. absurd (omega arith)) (n (A.of_tag Builtin.TagSet y x nm)) in
      record {
        tail = Filler.Assign ∷ Filler.One ∷ e.tail;
        accepts = step_accepts (fill Filler.Assign) (assign_step y K x) (step_accepts (fill Filler.One) (one_step (FTagged Builtin.TagSet y x ∷ K)) e.accepts);
        lead = assigning (fill Filler.Assign) assign assign_tags (omega arith);
      }

  opened_accepted : {room : ℕ} {K : List Frame} {us : List Terminal} {opening : Opened} → Opens room K opening us → (IsInner K → (x : P) → Ends K x) → (IsOuter K → (xs : L) → Accepted (K, MHalf xs)) →
      (xs : L) → Accepted (K, made opening xs)
  unfolding made
  opened_accepted {K = K} (by_list t e h) n m xs = ends_accepted (n (inner K (t ∷ []) h) (A.of_list xs))
  opened_accepted {K = K} (by_call {x = x} t ls v j a h) n m xs = ends_accepted (n (inner K ls v.starts) (A.of_call (A.expr_of x) xs))
  opened_accepted (by_part t j) n m xs = m tt xs

  outer_combines : {room : ℕ} {K : List Frame} {vs : List Terminal} (F : Frame) → Combines room F K vs → P → IsOuter (F ∷ K) → ⊥
  unfolding completed
  outer_combines (FOuter x) c y h = let e : None ≡ Some (c.value y) = c.completes y in cc
  outer_combines FGroup c y h = h
  outer_combines (FElements opening xs) c y h = h
  outer_combines (FLeads op) c y h = h
  outer_combines (FJoins op x) c y h = h
  outer_combines (FBeside x) c y h = h
  outer_combines (FTag x) c y h = h
  outer_combines (FTagged form x z) c y h = h

  mutual
    unfolding reduce finished run level_at frame_level closed closed_group

    ends_of : {room : ℕ} {K : List Frame} {ts : List Terminal} → Made room K ts → IsInner K → (x : P) → Ends K x
    ends_of bottom h x = record { tail = []; accepts = record { last = ([], MHave x); value = x; runs = refl; ending = refl }; lead = end }
    ends_of (combining F k c) h x = frame_ends F (c.completes x) c.tall (ends_of k c.inner_below (c.value x))
    ends_of (grouping {K = K} t k e g) h x = let n = ends_of k (inner K (t ∷ []) g) (A.of_group x) in close_ends n.tail Filler.Round Bracket.Round (omega arith) round refl n.accepts
    ends_of (filling {K = K} {xs = xs} {opening = opening} k p q) h x = elements_end opening xs K x (opened_accepted p (λ i y. ends_of k i y) (λ i ys. outer_accepted k i ys) (A.added xs (A.expr_of x)))
    ends_of (tagging {K = K} {us = us} {x = y} t k p a g e) h x = tag_ends y x a (λ z. ends_of k (inner K us p.starts) z)
    ends_of (outer t k p a g e i) h x = absurd h

    outer_accepted : {room : ℕ} {K : List Frame} {ts : List Terminal} → Made room K ts → IsOuter K → (xs : L) → Accepted (K, MHalf xs)
    outer_accepted bottom h xs = absurd h
    outer_accepted (combining F k c) h xs = absurd (outer_combines F c (A.of_list xs) h)
    outer_accepted (grouping t k e g) h xs = absurd h
    outer_accepted (filling k p q) h xs = absurd h
    outer_accepted (tagging t k p a g e) h xs = absurd h
    outer_accepted (outer {K = K} {us = us} {e = y} t k p a g e i) h xs = half_accepted K y xs (ends_of k (inner K us p.starts) (A.of_part y xs))

  semicolon_accepts : {K : List Frame} {x : P} {ts : List Terminal} → level_at K ≤ 2 → Lead K ts → Accepts ts (K, MHave (A.of_end x)) → Accepts ts (K, MSemicolon x)
  unfolding finished follows follows_phrase follows_semicolon goes_on next_level
  semicolon_accepts {K} {x} a end p = same_end (ap (λ (q : List Frame × P). at_bottom q.0 q.1) (sym (reduce_base 0 K (A.of_end x) a))) p
  semicolon_accepts {K} {x} a (closing {c = c} t e) p = same_accepts t (rw e (ap (λ (q : List Frame × P). closed c q.0 q.1) (sym (reduce_base 0 K (A.of_end x) a)))) p
  semicolon_accepts a (assigning t e k g) p = absurd (omega arith)

  opening_step : (K : List Frame) (opening : Opened) (t : Terminal) (c : Bracket) → next_of t ≡ Next.Closes c → closes c opening ≡ true → step t (K, MOpen opening) ≡ Some (K, made opening A.no_elements)
  unfolding follows follows_opening
  opening_step K opening t c e g = rw e (elements_closed opening A.no_elements K c g)

  state_accepted : (K : List Frame) (all : List Terminal) (mode : Mode) → Sound K mode all → Accepted (K, mode)
  state_accepted K all MWant s =
      let n = ends_of s.frames (inner K (fill Filler.One ∷ []) (s.starts (fill Filler.One))) (A.of_leaf one_phrase) in
      record { tail = Filler.One ∷ n.tail; accepts = step_accepts (fill Filler.One) (one_step K) n.accepts }
  state_accepted K all (MHave x) s = ends_accepted (ends_of s.frames (inner K s.us s.over.starts) x)
  state_accepted K all (MSemicolon x) s =
      let n = ends_of s.has.frames (inner K s.has.us s.has.over.starts) (A.of_end x) in
      record { tail = n.tail; accepts = semicolon_accepts s.base n.lead n.accepts }
  state_accepted K all (MOpen opening) s =
      let c = closer_of opening in
      let n = opened_accepted s.opens (λ i y. ends_of s.frames i y) (λ i ys. outer_accepted s.frames i ys) A.no_elements in
      record { tail = c.filler ∷ n.tail; accepts = step_accepts (fill c.filler) (opening_step K opening (fill c.filler) c.bracket c.is c.fits) n.accepts }
  state_accepted K all (MHalf xs) s = outer_accepted s.frames s.top xs

  -- What the machine reads to its end is read.
  pub accepted : SequenceFits → (ts : List Terminal) (s : State) (x : P) → run ts start_state ≡ Some s → finished s.1 s.0 ≡ Some x → WholeOf P Q L A nesting_limit ts x
  unfolding Wholes
  accepted fits ts s x e g =
      let sound : Sound s.0 s.1 ts = subst (λ (v : Option State). Sounds v ts) e (run_sounds fits ts start_state [] start_sound) in
      subst (λ (v : Option P). Wholes v ts) g (finish_sound s.0 ts s.1 sound)

  -- Where the machine has not stopped, some terminals go on.
  pub record Viable (ts : List Terminal) : Type 0 where
    pub tail : List Filler
    pub value : P
    pub whole : WholeOf P Q L A nesting_limit (ts ++ fills tail) value

  pub viable : SequenceFits → (ts : List Terminal) (s : State) → run ts start_state ≡ Some s → Viable ts
  viable fits ts s e =
      let sound : Sound s.0 s.1 ts = subst (λ (v : Option State). Sounds v ts) e (run_sounds fits ts start_state [] start_sound) in
      let n = state_accepted s.0 ts s.1 sound in
      record {
        tail = n.tail;
        value = n.accepts.value;
        whole = accepted fits (ts ++ fills n.tail) n.accepts.last n.accepts.value (run_then ts (fills n.tail) start_state s e ∙ n.accepts.runs) n.accepts.ending;
      }

  -- Where it stops at a terminal, none does.
  pub not_viable : (ts us : List Terminal) (t : Terminal) (s : State) (x : P) → run ts start_state ≡ Some s → step t s ≡ None → WholeOf P Q L A nesting_limit ((ts ++ t ∷ []) ++ us) x → ⊥
  unfolding run
  not_viable ts us t s x e g r =
      let c = complete ((ts ++ t ∷ []) ++ us) x r in
      let stuck : run ((ts ++ t ∷ []) ++ us) start_state ≡ None = rw append_assoc (run_last ts us t start_state s e ∙ ap (option_and_then (run us)) g) in
      cc (c.runs, stuck)

  -- Where it does not end, the terminals are not read.
  pub not_read : (ts : List Terminal) (s : State) (x : P) → run ts start_state ≡ Some s → finished s.1 s.0 ≡ None → WholeOf P Q L A nesting_limit ts x → ⊥
  not_read ts s x e g r =
      let c = complete ts x r in
      let same : c.state ≡ s = cc (c.runs, e) in
      let ends : finished c.state.1 c.state.0 ≡ finished s.1 s.0 = ap (λ (v : State). finished v.1 v.0) same in
      cc (c.ending, ends, g)

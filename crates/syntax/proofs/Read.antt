-- A cell has at most one reading, and one syntax offset where it has none.
use Rattle.std.proofs.Common.{◌≡◌, ℕ, suc, ◌<◌, ◌≤◌, ◌⊎◌, inl, inr, ⊎_elim, Bool, true, false, ◌||◌, List, [], ◌∷◌, ◌++◌, map, take, drop, length, Option, Some, None, option_and_then, refl, sym, ap, subst, ◌∙◌, arith, append_assoc, append-nil, take_all, length-append, take-append-drop, take-take}
use Rattle.std.proofs.lemmas.List.{map-append}
use Rattle.std.proofs.lemmas.Bool.{cases_order}
use Rattle.std.proofs.Math.Seq.{take-append_seam}
use Rattle.std.specs.Prelude.{codes}
use Rattle.semantics.specs.declared.builtin.Builtin.{Builtin}
use Rattle.semantics.specs.Names.{Names, name}
use Rattle.expr_tree.specs.Tree.{Tree}
use Rattle.syntax.specs.Operators.{Operator, gives_of, infix_row}
use Rattle.syntax.specs.Tokens.{Kind, LexFault, lex}
use Rattle.syntax.specs.Leaves.{Lexeme, lexemes}
use Rattle.syntax.specs.Terminals.{Phrase, PhraseKind, Closed, NameToken, NumberToken, Open, Terminal, terminal, terminals}
use Rattle.syntax.specs.Phrases.{Constructs, written, same_row}
use Rattle.syntax.specs.Grammar.{WholeOf, nesting_limit}
use Rattle.syntax.specs.Reads.{AreRead, LexemesRead, Reads, BeginsCell, IsFirstBad, IsOffset, place_of}
use Rattle.syntax.specs.Laws.{OneOffset, OneReading, ReadOrOffset}
use Rattle.syntax.proofs.Reader.{State, Filler, fill, fills, run, step, finished, start_state, SequenceFits, complete, read_once, accepted, viable, not_viable, not_read, run_last}

abbrev pub lexeme_of : Filler → Lexeme
lexeme_of Filler.One = record { kind = Kind.Number; text = codes "1"; after_line = false }
lexeme_of Filler.Round = record { kind = Kind.Operator; text = codes ")"; after_line = false }
lexeme_of Filler.Curly = record { kind = Kind.Operator; text = codes "}"; after_line = false }
lexeme_of Filler.Square = record { kind = Kind.Operator; text = codes "]"; after_line = false }
lexeme_of Filler.Assign = record { kind = Kind.Operator; text = codes "="; after_line = false }

or_true : (b : Bool) → (b || true) ≡ true
or_true true = refl
or_true false = refl

kind_fits : (k : PhraseKind) (names : Names) → (written names).accepts Operator.CompoundExpression (record { expr = name names Builtin.Null; kind = k }) ≡ true
unfolding gives_of infix_row
kind_fits Closed names = refl
kind_fits NameToken names = refl
kind_fits NumberToken names = refl
kind_fits (Open row) names = or_true (same_row row Builtin.CompoundExpression)

fits : (names : Names) → SequenceFits Phrase Tree (List Tree) (written names)
fits names x = kind_fits x.kind names

module _ (names : Names) (find : List ℕ → ℕ) where
  abbrev A : Constructs Phrase Tree (List Tree)
  A = written names

  abbrev ts : List Lexeme → List Terminal
  ts ls = terminals names find ls

  abbrev IsWhole : List Terminal → Phrase → Type 0
  IsWhole us x = WholeOf Phrase Tree (List Tree) A nesting_limit us x

  abbrev At : Type 0
  At = State Phrase Tree (List Tree) A

  abbrev begun : At
  begun = start_state Phrase Tree (List Tree) A

  -- how far the reader comes
  abbrev pub goes : List Lexeme → Option At
  goes ls = run Phrase Tree (List Tree) A (ts ls) begun

  abbrev pub ends_as : At → Option Phrase
  ends_as s = finished Phrase Tree (List Tree) A s.1 s.0

  filled : (f : Filler) → terminal names find (lexeme_of f) ≡ fill f
  filled Filler.One = refl
  filled Filler.Round = refl
  filled Filler.Curly = refl
  filled Filler.Square = refl
  filled Filler.Assign = refl

  all_filled : (fs : List Filler) → ts (map lexeme_of fs) ≡ fills fs
  all_filled [] = refl
  all_filled (f ∷ fs) = rw (filled f, all_filled fs) refl

  ends_filled : (ls : List Lexeme) (fs : List Filler) → ts (ls ++ map lexeme_of fs) ≡ ts ls ++ fills fs
  ends_filled ls fs = map-append (terminal names find) ls (map lexeme_of fs) ∙ ap (λ (us : List Terminal). ts ls ++ us) (all_filled fs)

  none_whole : (x : Phrase) → IsWhole [] x → ⊥
  unfolding run finished
  none_whole x w = not_read Phrase Tree (List Tree) A [] begun x refl refl w

  whole_read : (ls : List Lexeme) (x : Phrase) → IsWhole (ts ls) x → LexemesRead names find ls x.expr
  whole_read [] x w = absurd (none_whole x w)
  whole_read (l ∷ ls) x w = (x, w, refl)

  -- a few lexemes with which these are a cell
  pub record Filled (ls : List Lexeme) : Type 0 where
    pub tail : List Filler
    pub expr : Tree
    pub read : LexemesRead names find (ls ++ map lexeme_of tail) expr

  -- where the reader has not stopped, some cell goes on
  filled_here : (ls : List Lexeme) (s : At) → goes ls ≡ Some s → Filled ls
  filled_here ls s e =
      let v = viable Phrase Tree (List Tree) A (fits names) (ts ls) s e in
      record {
        tail = v.tail;
        expr = v.value.expr;
        read = whole_read (ls ++ map lexeme_of v.tail) v.value (subst (λ (us : List Terminal). IsWhole us v.value) (sym (ends_filled ls v.tail)) v.whole);
      }

  begins_here : (ls : List Lexeme) (s : At) → goes ls ≡ Some s → BeginsCell names find ls
  begins_here ls s e = let f = filled_here ls s e in (map lexeme_of f.tail, f.expr, f.read)

  as_read : (ls : List Lexeme) (l : Lexeme) (rest : List Lexeme) (x : Tree) → LexemesRead names find ((ls ++ l ∷ []) ++ rest) x → AreRead names find ((ls ++ l ∷ []) ++ rest) x
  as_read [] l rest x r = r
  as_read (k ∷ ls) l rest x r = r

  parts : (ls rest : List Lexeme) (l : Lexeme) → ts ((ls ++ l ∷ []) ++ rest) ≡ (ts ls ++ terminal names find l ∷ []) ++ ts rest
  parts ls rest l =
      map-append (terminal names find) (ls ++ l ∷ []) rest ∙ ap (λ (us : List Terminal). us ++ ts rest) (map-append (terminal names find) ls (l ∷ []))

  -- where it stops, none does
  stops_here : (ls : List Lexeme) (l : Lexeme) (s : At) → goes ls ≡ Some s → step Phrase Tree (List Tree) A (terminal names find l) s ≡ None → ¬ BeginsCell names find (ls ++ l ∷ [])
  stops_here ls l s e g (rest, x, r) =
      let a = as_read ls l rest x r in
      not_viable Phrase Tree (List Tree) A (ts ls) (ts rest) (terminal names find l) s a.0 e g (subst (λ (us : List Terminal). IsWhole us a.0) (parts ls rest l) a.1)

  data Outcome (ls : List Lexeme) : Type 0 where
    is_read : (e : Tree) → LexemesRead names find ls e → Outcome ls
    is_bad : (k : ℕ) → IsFirstBad names find ls k → ((e : Tree) → LexemesRead names find ls e → ⊥) → Outcome ls

  all_of : (ls : List Lexeme) → take (length ls) ls ≡ ls
  all_of ls = take_all (length ls) ls (omega arith)

  bad_end : (ls : List Lexeme) → BeginsCell names find ls → IsFirstBad names find ls (length ls)
  bad_end ls b = record { within = omega arith; before = subst (BeginsCell names find) (sym (all_of ls)) b; bad = λ h. absurd (omega arith) }

  at_end : (ls : List Lexeme) (s : At) (o : Option Phrase) → ends_as s ≡ o → goes ls ≡ Some s → Outcome ls
  at_end [] s o g e = is_read (name names Builtin.Null) refl
  at_end (l ∷ ls) s None g e =
      is_bad (length (l ∷ ls)) (bad_end (l ∷ ls) (begins_here (l ∷ ls) s e)) (λ x r. not_read Phrase Tree (List Tree) A (ts (l ∷ ls)) s r.0 e g r.1)
  at_end (l ∷ ls) s (Some x) g e = is_read x.expr (x, accepted Phrase Tree (List Tree) A (fits names) (ts (l ∷ ls)) s x e g, refl)

  front : (ls rest : List Lexeme) (l : Lexeme) → take (suc (length ls)) (ls ++ l ∷ rest) ≡ ls ++ l ∷ []
  front [] rest l = refl
  front (k ∷ ls) rest l = ap (λ (us : List Lexeme). k ∷ us) (front ls rest l)

  read_begins : (ls rest : List Lexeme) (l : Lexeme) (e : Tree) → LexemesRead names find (ls ++ l ∷ rest) e → BeginsCell names find (ls ++ l ∷ [])
  read_begins ls rest l e r = (rest, e, subst (λ (us : List Lexeme). LexemesRead names find us e) (sym (append_assoc ls (l ∷ []) rest)) r)

  bad_here : (ls rest : List Lexeme) (l : Lexeme) (s : At) → goes ls ≡ Some s → ¬ BeginsCell names find (ls ++ l ∷ []) → IsFirstBad names find (ls ++ l ∷ rest) (length ls)
  bad_here ls rest l s e n = record {
    within = let h = length-append ls (l ∷ rest) in omega (arith, h);
    before = subst (BeginsCell names find) (sym (take-append_seam ls (l ∷ rest))) (begins_here ls s e);
    bad = λ h b. n (subst (BeginsCell names find) (front ls rest l) b);
  }

  next_goes : (ls : List Lexeme) (l : Lexeme) (s s' : At) → goes ls ≡ Some s → step Phrase Tree (List Tree) A (terminal names find l) s ≡ Some s' → goes (ls ++ l ∷ []) ≡ Some s'
  unfolding run
  next_goes ls l s s' e g =
      ap (λ us. run Phrase Tree (List Tree) A us begun) (map-append (terminal names find) ls (l ∷ []))
      ∙ run_last Phrase Tree (List Tree) A (ts ls) [] (terminal names find l) begun s e
      ∙ ap (option_and_then (run Phrase Tree (List Tree) A [])) g

  at_step : (ls rest : List Lexeme) (l : Lexeme) (s : At) (o : Option At) → step Phrase Tree (List Tree) A (terminal names find l) s ≡ o → goes ls ≡ Some s →
      ((s' : At) → goes (ls ++ l ∷ []) ≡ Some s' → Outcome ((ls ++ l ∷ []) ++ rest)) → Outcome (ls ++ l ∷ rest)
  at_step ls rest l s None g e k =
      let n = stops_here ls l s e g in
      is_bad (length ls) (bad_here ls rest l s e n) (λ x r. n (read_begins ls rest l x r))
  at_step ls rest l s (Some s') g e k = subst Outcome (append_assoc ls (l ∷ []) rest) (k s' (next_goes ls l s s' e g))

  outcome : (ls rest : List Lexeme) (s : At) → goes ls ≡ Some s → Outcome (ls ++ rest)
  outcome ls [] s e = subst Outcome (sym (append-nil ls)) (at_end ls s (ends_as s) refl e)
  outcome ls (l ∷ rest) s e = at_step ls rest l s (step Phrase Tree (List Tree) A (terminal names find l) s) refl e (λ s' h. outcome (ls ++ l ∷ []) rest s' h)

  begun_goes : goes [] ≡ Some begun
  unfolding run
  begun_goes = refl

  -- where it has stopped, it stays so
  stays : (us vs : List Terminal) (s : At) → run Phrase Tree (List Tree) A us s ≡ None → run Phrase Tree (List Tree) A (us ++ vs) s ≡ None
  unfolding run
  stays [] vs s e = cc
  stays (u ∷ us) vs s e = go (step Phrase Tree (List Tree) A u s) (λ s' h. stays us vs s' h) e
    where
      go : (o : Option At) → ((s' : At) → run Phrase Tree (List Tree) A us s' ≡ None → run Phrase Tree (List Tree) A (us ++ vs) s' ≡ None) →
          option_and_then (run Phrase Tree (List Tree) A us) o ≡ None → option_and_then (run Phrase Tree (List Tree) A (us ++ vs)) o ≡ None
      go None next h = refl
      go (Some s') next h = next s' h

  -- of a few fillers it takes no more than that some lexemes go on
  pub filled_of : (ls : List Lexeme) → BeginsCell names find ls → Filled ls
  filled_of [] b = filled_here [] begun begun_goes
  filled_of (l ∷ ls) (rest, e, (x, w, q)) = go (goes (l ∷ ls)) refl
    where
      go : (o : Option At) → goes (l ∷ ls) ≡ o → Filled (l ∷ ls)
      go (Some s) g = filled_here (l ∷ ls) s g
      go None g =
          let c = complete Phrase Tree (List Tree) A (ts ((l ∷ ls) ++ rest)) x w in
          let stuck : run Phrase Tree (List Tree) A (ts ((l ∷ ls) ++ rest)) begun ≡ None =
          ap (λ us. run Phrase Tree (List Tree) A us begun) (map-append (terminal names find) (l ∷ ls) rest) ∙ stays (ts (l ∷ ls)) (ts rest) begun g in
          let runs = c.runs in
          cc

  offset_at : (cell : List ℕ) (k : ℕ) → IsFirstBad names find (lexemes cell) k → ((e : Tree) → ¬ Reads names find cell e) → (place : ℕ) × IsOffset names find cell place
  offset_at cell k b u =
      (place_of (length cell) (lex cell).fault (drop k (lex cell).tokens), record { k = k; first_bad = b; unread = u; here = refl })

  at_fault : (cell : List ℕ) (f : Option LexFault) → (lex cell).fault ≡ f → Outcome (lexemes cell) →
      ((e : Tree) × Reads names find cell e) ⊎ ((place : ℕ) × IsOffset names find cell place)
  at_fault cell None g (is_read e r) = inl (e, record { no_fault = g; read = r })
  at_fault cell None g (is_bad k b u) = inr (offset_at cell k b (λ e r. u e r.read))
  at_fault cell (Some f) g (is_read e r) =
      inr (offset_at cell (length (lexemes cell)) (bad_end (lexemes cell) ([], e, subst (λ (us : List Lexeme). LexemesRead names find us e) (sym (append-nil (lexemes cell))) r))
      (λ x q. let n : None ≡ Some f = sym q.no_fault ∙ g in cc))
  at_fault cell (Some f) g (is_bad k b u) = inr (offset_at cell k b (λ e r. u e r.read))

  pub cell_outcome : (cell : List ℕ) → ((e : Tree) × Reads names find cell e) ⊎ ((place : ℕ) × IsOffset names find cell place)
  cell_outcome cell = at_fault cell (lex cell).fault refl (outcome [] (lexemes cell) begun begun_goes)

  phrases_once : (ls : List Lexeme) (d e : Tree) → AreRead names find ls d → AreRead names find ls e → d ≡ e
  phrases_once ls d e p q =
      sym p.2 ∙
      ap (λ (x : Phrase). x.expr)
      (read_once Phrase Tree (List Tree) A (ts ls) p.0 q.0 (complete Phrase Tree (List Tree) A (ts ls) p.0 p.1) (complete Phrase Tree (List Tree) A (ts ls) q.0 q.1)) ∙
      q.2

  lexemes_once : (ls : List Lexeme) (d e : Tree) → LexemesRead names find ls d → LexemesRead names find ls e → d ≡ e
  lexemes_once [] d e p q = p ∙ sym q
  lexemes_once (l ∷ ls) d e p q = phrases_once (l ∷ ls) d e p q

  earlier : (ls rest : List Lexeme) (j k : ℕ) (e : Tree) → j ≤ k → LexemesRead names find (take k ls ++ rest) e → LexemesRead names find (take j ls ++ (drop j (take k ls) ++ rest)) e
  earlier ls rest j k e h r =
      subst (λ (us : List Lexeme). LexemesRead names find us e)
      (ap (λ (us : List Lexeme). us ++ rest) (sym (take-append-drop j (take k ls)) ∙ ap (λ (us : List Lexeme). us ++ drop j (take k ls)) (take-take j k ls h))
      ∙ append_assoc (take j ls) (drop j (take k ls)) rest) r

  not_before : (ls : List Lexeme) (j k : ℕ) → IsFirstBad names find ls j → IsFirstBad names find ls k → j < k → ⊥
  not_before ls j k p q h =
      let (rest, e, r) = q.before in
      p.bad (omega (arith, q.within)) (drop (suc j) (take k ls) ++ rest, e, earlier ls rest (suc j) k e (omega arith) r)

  one_bad : (ls : List Lexeme) (j k : ℕ) → IsFirstBad names find ls j → IsFirstBad names find ls k → j ≡ k
  one_bad ls j k p q =
      ⊎_elim (λ (e : j ≡ k). e)
      (λ (o : (j < k) ⊎ (k < j)). ⊎_elim (λ (h : j < k). absurd (not_before ls j k p q h)) (λ (h : k < j). absurd (not_before ls k j q p h)) o)
      (cases_order j k)

  pub offset_once : (cell : List ℕ) (j k : ℕ) → IsOffset names find cell j → IsOffset names find cell k → j ≡ k
  offset_once cell j k p q =
      p.here ∙ ap (λ n. place_of (length cell) (lex cell).fault (drop n (lex cell).tokens)) (one_bad (lexemes cell) p.k q.k p.first_bad q.first_bad) ∙ sym q.here

  -- ---- for worked cells

  -- what the reader makes of a cell
  abbrev pub expr_at_end : Option Phrase → Option Tree
  expr_at_end None = None
  expr_at_end (Some x) = Some x.expr

  abbrev pub lexemes_parsed : List Lexeme → Option Tree
  lexemes_parsed ls = option_and_then (λ s. expr_at_end (ends_as s)) (goes ls)

  abbrev pub parsed : List ℕ → Option Tree
  parsed cell = lexemes_parsed (lexemes cell)

  ended_reads : (ls : List Lexeme) (e : Tree) (s : At) (o : Option Phrase) → goes ls ≡ Some s → ends_as s ≡ o → expr_at_end o ≡ Some e → LexemesRead names find ls e
  ended_reads ls e s None h g q = cc
  ended_reads ls e s (Some x) h g q =
      let same : x.expr ≡ e = cc in
      subst (LexemesRead names find ls) same (whole_read ls x (accepted Phrase Tree (List Tree) A (fits names) (ts ls) s x h g))

  gone_reads : (ls : List Lexeme) (e : Tree) (o : Option At) → goes ls ≡ o → option_and_then (λ s. expr_at_end (ends_as s)) o ≡ Some e → LexemesRead names find ls e
  gone_reads ls e None h q = cc
  gone_reads ls e (Some s) h q = ended_reads ls e s (ends_as s) h refl q

  pub lexemes_computed : (ls : List Lexeme) (e : Tree) → lexemes_parsed ls ≡ Some e → LexemesRead names find ls e
  lexemes_computed ls e q = gone_reads ls e (goes ls) refl q

  pub computed : (cell : List ℕ) (e : Tree) → (lex cell).fault ≡ None → parsed cell ≡ Some e → Reads names find cell e
  computed cell e n q = record { no_fault = n; read = lexemes_computed (lexemes cell) e q }

  -- the number of lexemes gone over where the reader stops, or where the end is no end
  abbrev pub stop_at_end : ℕ → Option Phrase → Option ℕ
  stop_at_end k None = Some k
  stop_at_end k (Some x) = None

  abbrev pub stop_here : ℕ → Option At → (At → Option ℕ) → Option ℕ
  stop_here k None next = Some k
  stop_here k (Some s) next = next s

  abbrev pub stop_from : ℕ → List Lexeme → At → Option ℕ
  stop_from k [] s = stop_at_end k (ends_as s)
  stop_from k (l ∷ rest) s = stop_here k (step Phrase Tree (List Tree) A (terminal names find l) s) (stop_from (suc k) rest)

  record Stops (ls : List Lexeme) (k : ℕ) : Type 0 where
    bad : IsFirstBad names find ls k
    unread : (e : Tree) → LexemesRead names find ls e → ⊥

  stops_end : (ls : List Lexeme) (l : Lexeme) (s : At) (k : ℕ) (o : Option Phrase) → ends_as s ≡ o → goes (l ∷ ls) ≡ Some s → stop_at_end (length (l ∷ ls)) o ≡ Some k → Stops (l ∷ ls) k
  stops_end ls l s k None g e q =
      let same : length (l ∷ ls) ≡ k = cc in
      record {
        bad = subst (IsFirstBad names find (l ∷ ls)) same (bad_end (l ∷ ls) (begins_here (l ∷ ls) s e));
        unread = λ x r. not_read Phrase Tree (List Tree) A (ts (l ∷ ls)) s r.0 e g r.1;
      }
  stops_end ls l s k (Some x) g e q = cc

  stops_step : (ls rest : List Lexeme) (l : Lexeme) (s : At) (k : ℕ) (o : Option At) → step Phrase Tree (List Tree) A (terminal names find l) s ≡ o → goes ls ≡ Some s →
      stop_here (length ls) o (stop_from (suc (length ls)) rest) ≡ Some k → ((s' : At) → o ≡ Some s' → stop_from (suc (length ls)) rest s' ≡ Some k → Stops (ls ++ l ∷ rest) k) → Stops (ls ++ l ∷ rest) k
  stops_step ls rest l s k None g e q next =
      let same : length ls ≡ k = cc in
      let n = stops_here ls l s e g in
      record {
        bad = subst (IsFirstBad names find (ls ++ l ∷ rest)) same (bad_here ls rest l s e n);
        unread = λ x r. n (read_begins ls rest l x r);
      }
  stops_step ls rest l s k (Some s') g e q next = next s' refl q

  one_more : (ls : List Lexeme) (l : Lexeme) → length (ls ++ l ∷ []) ≡ suc (length ls)
  one_more [] l = refl
  one_more (m ∷ ls) l = ap (λ n. suc n) (one_more ls l)

  stops : (ls rest : List Lexeme) (l : Lexeme) (s : At) (k : ℕ) → goes (ls ++ l ∷ []) ≡ Some s → stop_from (suc (length ls)) rest s ≡ Some k → Stops ((ls ++ l ∷ []) ++ rest) k
  stops [] [] l s k e q = stops_end [] l s k (ends_as s) refl e q
  stops (m ∷ ls) [] l s k e q =
      subst (λ (us : List Lexeme). Stops us k) (sym (append-nil (m ∷ (ls ++ l ∷ []))))
      (stops_end (ls ++ l ∷ []) m s k (ends_as s) refl e (subst (λ n. stop_at_end n (ends_as s) ≡ Some k) (sym (one_more (m ∷ ls) l)) q))
  stops ls (r ∷ rest) l s k e q =
      stops_step (ls ++ l ∷ []) rest r s k (step Phrase Tree (List Tree) A (terminal names find r) s) refl e
      (subst (λ n. stop_here n (step Phrase Tree (List Tree) A (terminal names find r) s) (stop_from (suc n) rest) ≡ Some k) (sym (one_more ls l)) q)
      (λ s' g p. subst (λ (us : List Lexeme). Stops us k) (append_assoc (ls ++ l ∷ []) (r ∷ []) rest)
      (stops (ls ++ l ∷ []) rest r s' k (next_goes (ls ++ l ∷ []) r s s' e g) p))

  abbrev pub stop_of : List Lexeme → Option ℕ
  stop_of [] = None
  stop_of (l ∷ ls) = stop_from 0 (l ∷ ls) begun

  stops_of : (ls : List Lexeme) (k : ℕ) → stop_of ls ≡ Some k → Stops ls k
  stops_of [] k q = cc
  stops_of (l ∷ ls) k q =
      stops_step [] ls l begun k (step Phrase Tree (List Tree) A (terminal names find l) begun) refl begun_goes q
      (λ s' g p. stops [] ls l s' k (next_goes [] l begun s' begun_goes g) p)

  pub computed_offset : (cell : List ℕ) (k place : ℕ) → stop_of (lexemes cell) ≡ Some k → place_of (length cell) (lex cell).fault (drop k (lex cell).tokens) ≡ place → IsOffset names find cell place
  computed_offset cell k place q e =
      let s = stops_of (lexemes cell) k q in
      record { k = k; first_bad = s.bad; unread = λ x r. s.unread x r.read; here = sym e }

  -- where the lexemes in front of a fault are read
  pub fault_offset : (cell : List ℕ) (f : LexFault) (e : Tree) → (lex cell).fault ≡ Some f → LexemesRead names find (lexemes cell) e →
      IsOffset names find cell (place_of (length cell) (lex cell).fault (drop (length (lexemes cell)) (lex cell).tokens))
  fault_offset cell f e g r = record {
    k = length (lexemes cell);
    first_bad = bad_end (lexemes cell) ([], e, subst (λ (us : List Lexeme). LexemesRead names find us e) (sym (append-nil (lexemes cell))) r);
    unread = λ x q. let n : None ≡ Some f = sym q.no_fault ∙ g in cc;
    here = refl;
  }

pub one_offset : OneOffset
one_offset names find cell j k p q = offset_once names find cell j k p q

pub one_reading : OneReading
one_reading names find cell d e p q = lexemes_once names find (lexemes cell) d e p.read q.read

pub read_or_offset : ReadOrOffset
read_or_offset names find cell = cell_outcome names find cell

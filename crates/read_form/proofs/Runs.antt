-- Where the machine over kept phrases stops or ends, and what the cell is read as.
use Rattle.std.proofs.Common.{◌≡◌, ℕ, suc, ◌+◌, ◌<◌, ◌≤◌, Bool, true, false, ◌||◌, List, [], ◌∷◌, ◌++◌, map, take, drop, length, Option, Some, None, option_and_then, refl, sym, ap, subst, ◌∙◌, ⊎_elim, cond, arith, drop_of_length-le, append_assoc, append-nil, take_all, length-append}
use Rattle.std.proofs.lemmas.Bool.{cases_lt}
use Rattle.std.proofs.lemmas.List.{drop-drop, map-append}
use Rattle.std.proofs.Math.Seq.{take-append_seam}
use Rattle.std.specs.Prelude.{codes}
use Rattle.semantics.specs.declared.builtin.Builtin.{Builtin}
use Rattle.semantics.specs.Names.{Names, name}
use Rattle.expr_tree.specs.Tree.{Tree, depth}
use Rattle.syntax.specs.Operators.{Operator, gives_of, infix_row}
use Rattle.syntax.specs.Tokens.{Kind, LexFault, Token, lex, place_of_fault}
use Rattle.syntax.specs.Leaves.{Lexeme, lexemes, lexemes_after}
use Rattle.syntax.specs.Terminals.{Phrase, PhraseKind, Closed, NameToken, NumberToken, Open, Terminal, terminal, terminals}
use Rattle.syntax.specs.Phrases.{Constructs, written, same_row}
use Rattle.syntax.specs.Grammar.{WholeOf, nesting_limit}
use Rattle.syntax.specs.Reads.{AreRead, LexemesRead, Reads, BeginsCell, IsFirstBad, IsOffset, place_of}
use Rattle.syntax.proofs.Reader.{State, Filler, fill, fills, run, step, finished, start_state, SequenceFits, accepted, viable, not_viable, not_read, run_last}
use Rattle.laws_reading.specs.Kept.{Kept, KeptList, fits, keep, cut, kept}
use Rattle.laws_reading.proofs.Cuts.{cut_some}
use Rattle.laws_reading.proofs.Sizes.{cell_size}
use Rattle.laws_reading.proofs.Carries.{carry_whole, lift_whole}
use Rattle.laws_reading.proofs.Limits.{cuts, cut_list, within_of}
use Rattle.read_form.specs.Pieces.{lexeme_at}
use Rattle.read_form.specs.Gone.{Gone, HasGone}

lexeme_of : Filler → Lexeme
lexeme_of Filler.One = record { kind = Kind.Number; text = codes "1"; after_line = false }
lexeme_of Filler.Round = record { kind = Kind.Operator; text = codes ")"; after_line = false }
lexeme_of Filler.Curly = record { kind = Kind.Operator; text = codes "}"; after_line = false }
lexeme_of Filler.Square = record { kind = Kind.Operator; text = codes "]"; after_line = false }
lexeme_of Filler.Assign = record { kind = Kind.Operator; text = codes "="; after_line = false }

or_true : (b : Bool) → (b || true) ≡ true
or_true true = refl
or_true false = refl

kind_fits : (names : Names) (e : Option Tree) (k : PhraseKind) → (kept names).accepts Operator.CompoundExpression (record { expr = e; kind = k }) ≡ true
unfolding gives_of infix_row
kind_fits names e Closed = refl
kind_fits names e NameToken = refl
kind_fits names e NumberToken = refl
kind_fits names e (Open row) = or_true (same_row row Builtin.CompoundExpression)

sequences_fit : (names : Names) → SequenceFits Kept (Option Tree) KeptList (kept names)
sequences_fit names x = kind_fits names x.expr x.kind

module _ (names : Names) (find : List ℕ → ℕ) where
  abbrev A : Constructs Phrase Tree (List Tree)
  A = written names

  abbrev B : Constructs Kept (Option Tree) KeptList
  B = kept names

  abbrev ts : List Lexeme → List Terminal
  ts ls = terminals names find ls

  abbrev IsWhole : List Terminal → Phrase → Type 0
  IsWhole us x = WholeOf Phrase Tree (List Tree) A nesting_limit us x

  abbrev IsKeptWhole : List Terminal → Kept → Type 0
  IsKeptWhole us y = WholeOf Kept (Option Tree) KeptList B nesting_limit us y

  abbrev pub At : Type 0
  At = State Kept (Option Tree) KeptList B

  abbrev pub begun : At
  begun = start_state Kept (Option Tree) KeptList B

  abbrev pub goes : List Lexeme → Option At
  goes ls = run Kept (Option Tree) KeptList B (ts ls) begun

  abbrev pub goes_to : Lexeme → At → Option At
  goes_to l s = step Kept (Option Tree) KeptList B (terminal names find l) s

  abbrev pub ends_as : At → Option Kept
  ends_as s = finished Kept (Option Tree) KeptList B s.1 s.0

  -- a phrase with what is kept of it
  record Behind (us : List Terminal) (y : Kept) : Type 0 where
    phrase : Phrase
    whole : IsWhole us phrase
    is : keep phrase ≡ y

  behind : (us : List Terminal) (y : Kept) → IsKeptWhole us y → Behind us y
  behind us y w =
      let v = lift_whole Phrase Tree (List Tree) Kept (Option Tree) KeptList A B keep cut cut_list (cuts names) w in
      record { phrase = v.from; whole = v.whole; is = v.is }

  carried : (us : List Terminal) (x : Phrase) → IsWhole us x → IsKeptWhole us (keep x)
  carried us x w = carry_whole Phrase Tree (List Tree) Kept (Option Tree) KeptList A B keep cut cut_list (cuts names) w

  filled : (f : Filler) → terminal names find (lexeme_of f) ≡ fill f
  unfolding lexeme_of
  filled Filler.One = refl
  filled Filler.Round = refl
  filled Filler.Curly = refl
  filled Filler.Square = refl
  filled Filler.Assign = refl

  all_filled : (fs : List Filler) → ts (map lexeme_of fs) ≡ fills fs
  all_filled [] = refl
  all_filled (f ∷ fs) = rw (filled f, all_filled fs) refl

  ends_filled : (ls : List Lexeme) (fs : List Filler) → ts (ls ++ map lexeme_of fs) ≡ ts ls ++ fills fs
  ends_filled ls fs = map-append (terminal names find) ls (map lexeme_of fs) ∙ ap (λ (us : List Terminal). ts ls ++ us) (all_filled fs)

  none_whole : (x : Phrase) → IsWhole [] x → ⊥
  unfolding run finished
  none_whole x w = not_read Kept (Option Tree) KeptList B [] begun (keep x) refl refl (carried [] x w)

  whole_read : (ls : List Lexeme) (x : Phrase) → IsWhole (ts ls) x → LexemesRead names find ls x.expr
  whole_read [] x w = absurd (none_whole x w)
  whole_read (l ∷ ls) x w = (x, w, refl)

  -- where the machine has not stopped, some cell goes on
  begins_here : (ls : List Lexeme) (s : At) → goes ls ≡ Some s → BeginsCell names find ls
  begins_here ls s e =
      let v = viable Kept (Option Tree) KeptList B (sequences_fit names) (ts ls) s e in
      let b = behind (ts ls ++ fills v.tail) v.value v.whole in
      let rest : List Lexeme = map lexeme_of v.tail in
      (rest, b.phrase.expr, whole_read (ls ++ rest) b.phrase (subst (λ (us : List Terminal). IsWhole us b.phrase) (sym (ends_filled ls v.tail)) b.whole))

  as_read : (ls : List Lexeme) (l : Lexeme) (rest : List Lexeme) (x : Tree) → LexemesRead names find ((ls ++ l ∷ []) ++ rest) x → AreRead names find ((ls ++ l ∷ []) ++ rest) x
  as_read [] l rest x r = r
  as_read (k ∷ ls) l rest x r = r

  parts : (ls rest : List Lexeme) (l : Lexeme) → ts ((ls ++ l ∷ []) ++ rest) ≡ (ts ls ++ terminal names find l ∷ []) ++ ts rest
  parts ls rest l =
      map-append (terminal names find) (ls ++ l ∷ []) rest ∙ ap (λ (us : List Terminal). us ++ ts rest) (map-append (terminal names find) ls (l ∷ []))

  -- where it stops, none does
  stops_here : (ls : List Lexeme) (l : Lexeme) (s : At) → goes ls ≡ Some s → goes_to l s ≡ None → ¬ BeginsCell names find (ls ++ l ∷ [])
  stops_here ls l s e g (rest, x, r) =
      let a = as_read ls l rest x r in
      let w : IsWhole ((ts ls ++ terminal names find l ∷ []) ++ ts rest) a.0 = subst (λ (us : List Terminal). IsWhole us a.0) (parts ls rest l) a.1 in
      not_viable Kept (Option Tree) KeptList B (ts ls) (ts rest) (terminal names find l) s (keep a.0) e g (carried _ a.0 w)

  all_of : (ls : List Lexeme) → take (length ls) ls ≡ ls
  all_of ls = take_all (length ls) ls (omega arith)

  bad_end : (ls : List Lexeme) → BeginsCell names find ls → IsFirstBad names find ls (length ls)
  bad_end ls b = record { within = omega arith; before = subst (BeginsCell names find) (sym (all_of ls)) b; bad = λ h. absurd (omega arith) }

  front : (ls rest : List Lexeme) (l : Lexeme) → take (suc (length ls)) (ls ++ l ∷ rest) ≡ ls ++ l ∷ []
  front [] rest l = refl
  front (k ∷ ls) rest l = ap (λ (us : List Lexeme). k ∷ us) (front ls rest l)

  read_begins : (ls rest : List Lexeme) (l : Lexeme) (e : Tree) → LexemesRead names find (ls ++ l ∷ rest) e → BeginsCell names find (ls ++ l ∷ [])
  read_begins ls rest l e r = (rest, e, subst (λ (us : List Lexeme). LexemesRead names find us e) (sym (append_assoc ls (l ∷ []) rest)) r)

  bad_here : (ls rest : List Lexeme) (l : Lexeme) (s : At) → goes ls ≡ Some s → ¬ BeginsCell names find (ls ++ l ∷ []) → IsFirstBad names find (ls ++ l ∷ rest) (length ls)
  bad_here ls rest l s e n = record {
    within = let h = length-append ls (l ∷ rest) in omega (arith, h);
    before = subst (BeginsCell names find) (sym (take-append_seam ls (l ∷ rest))) (begins_here ls s e);
    bad = λ h b. n (subst (BeginsCell names find) (front ls rest l) b);
  }

  next_goes : (ls : List Lexeme) (l : Lexeme) (s s' : At) → goes ls ≡ Some s → goes_to l s ≡ Some s' → goes (ls ++ l ∷ []) ≡ Some s'
  unfolding run
  next_goes ls l s s' e g =
      ap (λ us. run Kept (Option Tree) KeptList B us begun) (map-append (terminal names find) ls (l ∷ []))
      ∙ run_last Kept (Option Tree) KeptList B (ts ls) [] (terminal names find l) begun s e
      ∙ ap (option_and_then (run Kept (Option Tree) KeptList B [])) g

  begun_goes : goes [] ≡ Some begun
  unfolding run
  begun_goes = refl

  pub gone_none : (cell : List ℕ) → Gone names find cell 0 0 begun
  gone_none cell = record { passed = []; all = refl; many = refl; runs = begun_goes }

  drop_next : (us : List Token) (i : ℕ) (t : Token) (rest : List Token) → drop i us ≡ t ∷ rest → drop (i + 1) us ≡ rest
  drop_next us i t rest e = sym (drop-drop 1 i us ∙ ap (λ n. drop n us) (omega arith)) ∙ ap (drop 1) e

  pub gone_more : (cell : List ℕ) (at i : ℕ) (s s' : At) (t : Token) (rest : List Token) → Gone names find cell at i s → drop i (lex cell).tokens ≡ t ∷ rest →
      goes_to (lexeme_at cell at t) s ≡ Some s' → Gone names find cell t.to (i + 1) s'
  gone_more cell at i s s' t rest g d e = record {
    passed = g.passed ++ lexeme_at cell at t ∷ [];
    all =
        g.all ∙ ap (λ (us : List Token). g.passed ++ lexemes_after cell at us) d
        ∙ sym (append_assoc g.passed (lexeme_at cell at t ∷ []) (lexemes_after cell t.to rest))
        ∙ ap (λ (us : List Token). (g.passed ++ lexeme_at cell at t ∷ []) ++ lexemes_after cell t.to us) (sym (drop_next (lex cell).tokens i t rest d));
    many = let n = length-append g.passed (lexeme_at cell at t ∷ []) in omega (arith, n, g.many);
    runs = next_goes g.passed (lexeme_at cell at t) s s' g.runs e;
  }

  -- no reading continues the next token
  pub gone_stops : (cell : List ℕ) (at i : ℕ) (s : At) (t : Token) (rest : List Token) → Gone names find cell at i s → drop i (lex cell).tokens ≡ t ∷ rest →
      goes_to (lexeme_at cell at t) s ≡ None → IsOffset names find cell t.from
  gone_stops cell at i s t rest g d e =
      let l : Lexeme = lexeme_at cell at t in
      let more : List Lexeme = lexemes_after cell t.to rest in
      let all : lexemes cell ≡ g.passed ++ l ∷ more = g.all ∙ ap (λ (us : List Token). g.passed ++ lexemes_after cell at us) d in
      let n = stops_here g.passed l s g.runs e in
      record {
        k = i;
        first_bad = subst (λ (us : List Lexeme). IsFirstBad names find us i) (sym all) (subst (IsFirstBad names find (g.passed ++ l ∷ more)) g.many (bad_here g.passed more l s g.runs n));
        unread = λ x r. n (read_begins g.passed more l x (subst (λ (us : List Lexeme). LexemesRead names find us x) all r.read));
        here = sym (ap (place_of (length cell) (lex cell).fault) d);
      }

  whole_passed : (cell : List ℕ) (at i : ℕ) (s : At) (g : Gone names find cell at i s) → drop i (lex cell).tokens ≡ [] → lexemes cell ≡ g.passed
  whole_passed cell at i s g d = g.all ∙ ap (λ (us : List Token). g.passed ++ lexemes_after cell at us) d ∙ append-nil g.passed

  -- all tokens in front of a fault can go on
  pub gone_to_fault : (cell : List ℕ) (at i : ℕ) (s : At) (f : LexFault) → Gone names find cell at i s → drop i (lex cell).tokens ≡ [] → (lex cell).fault ≡ Some f →
      IsOffset names find cell (place_of_fault f)
  gone_to_fault cell at i s f g d h =
      let all : lexemes cell ≡ g.passed = whole_passed cell at i s g d in
      record {
        k = i;
        first_bad = subst (λ (us : List Lexeme). IsFirstBad names find us i) (sym all) (subst (IsFirstBad names find g.passed) g.many (bad_end g.passed (begins_here g.passed s g.runs)));
        unread = λ x r. let n : None ≡ Some f = sym r.no_fault ∙ h in cc;
        here = sym (ap (place_of (length cell) (lex cell).fault) d ∙ ap (λ (o : Option LexFault). place_of (length cell) o []) h);
      }

  not_ended : (ls : List Lexeme) (s : At) → 0 < length ls → goes ls ≡ Some s → ends_as s ≡ None → (e : Tree) → ¬ LexemesRead names find ls e
  not_ended [] s h g q e r = absurd (omega arith)
  not_ended (l ∷ ls) s h g q e r = not_read Kept (Option Tree) KeptList B (ts (l ∷ ls)) s (keep r.0) g q (carried _ r.0 r.1)

  -- the cell ends where no phrase does
  pub gone_unended : (cell : List ℕ) (at i : ℕ) (s : At) → Gone names find cell at i s → drop i (lex cell).tokens ≡ [] → (lex cell).fault ≡ None → 0 < i → ends_as s ≡ None →
      IsOffset names find cell (length cell)
  gone_unended cell at i s g d h p q =
      let all : lexemes cell ≡ g.passed = whole_passed cell at i s g d in
      record {
        k = i;
        first_bad = subst (λ (us : List Lexeme). IsFirstBad names find us i) (sym all) (subst (IsFirstBad names find g.passed) g.many (bad_end g.passed (begins_here g.passed s g.runs)));
        unread = λ x r. not_ended g.passed s (omega (arith, g.many)) g.runs q x (subst (λ (us : List Lexeme). LexemesRead names find us x) all r.read);
        here = sym (ap (place_of (length cell) (lex cell).fault) d ∙ ap (λ (o : Option LexFault). place_of (length cell) o []) h);
      }

  -- what is kept of the cell's reading
  pub record IsReadAs (cell : List ℕ) (o : Option Tree) : Type 0 where
    pub tree : Tree
    pub reads : Reads names find cell tree
    pub is : cut tree ≡ o

  pub gone_ended : (cell : List ℕ) (at i : ℕ) (s : At) (y : Kept) → Gone names find cell at i s → drop i (lex cell).tokens ≡ [] → (lex cell).fault ≡ None → ends_as s ≡ Some y →
      IsReadAs cell y.expr
  gone_ended cell at i s y g d h q =
      let all : lexemes cell ≡ g.passed = whole_passed cell at i s g d in
      let b = behind (ts g.passed) y (accepted Kept (Option Tree) KeptList B (sequences_fit names) (ts g.passed) s y g.runs q) in
      record {
        tree = b.phrase.expr;
        reads = record { no_fault = h; read = subst (λ (us : List Lexeme). LexemesRead names find us b.phrase.expr) (sym all) (whole_read g.passed b.phrase b.whole) };
        is = ap (λ (k : Kept). k.expr) b.is;
      }

  no_lexemes : (cell : List ℕ) → (lex cell).tokens ≡ [] → lexemes cell ≡ []
  no_lexemes cell e = ap (lexemes_after cell 0) e

  pub none_is_null : (cell : List ℕ) → (lex cell).tokens ≡ [] → (lex cell).fault ≡ None → Reads names find cell (name names Builtin.Null)
  none_is_null cell e h = record { no_fault = h; read = subst (λ (us : List Lexeme). LexemesRead names find us (name names Builtin.Null)) (sym (no_lexemes cell e)) refl }

  all_dropped : (us : List Token) → drop (length us) us ≡ []
  all_dropped us = drop_of_length-le us (omega arith)

  pub at_fault : (cell : List ℕ) (s : At) (f : LexFault) → HasGone names find cell (length (lex cell).tokens) s → (lex cell).fault ≡ Some f → IsOffset names find cell (place_of_fault f)
  at_fault cell s f (at, g) h = gone_to_fault cell at (length (lex cell).tokens) s f g (all_dropped (lex cell).tokens) h

  pub unended : (cell : List ℕ) (s : At) → HasGone names find cell (length (lex cell).tokens) s → (lex cell).fault ≡ None → 0 < length (lex cell).tokens → ends_as s ≡ None →
      IsOffset names find cell (length cell)
  unended cell s (at, g) h p q = gone_unended cell at (length (lex cell).tokens) s g (all_dropped (lex cell).tokens) h p q

  pub ended : (cell : List ℕ) (s : At) (y : Kept) → HasGone names find cell (length (lex cell).tokens) s → (lex cell).fault ≡ None → ends_as s ≡ Some y → IsReadAs cell y.expr
  ended cell s y (at, g) h q = gone_ended cell at (length (lex cell).tokens) s y g (all_dropped (lex cell).tokens) h q

  by_fits : (e d : Tree) (b : Bool) → cond b (Some e) None ≡ Some d → d ≡ e
  by_fits e d true q = cc
  by_fits e d false q = cc

  pub is_reading : (cell : List ℕ) (o : Option Tree) (d : Tree) → IsReadAs cell o → o ≡ Some d → Reads names find cell d
  unfolding cut
  is_reading cell o d r e = subst (Reads names find cell) (sym (by_fits r.tree d (fits r.tree) (r.is ∙ e))) r.reads

  by_depth : (e d : Tree) (b : Bool) → fits e ≡ b → cond b (Some e) None ≡ Some d → depth d ≤ 512
  by_depth e d true f q = let same : e ≡ d = cc in subst (λ (t : Tree). depth t ≤ 512) same (within_of e f).shallow
  by_depth e d false f q = let none : ⊥ = cc in absurd none

  pub is_shallow : (cell : List ℕ) (o : Option Tree) (d : Tree) → IsReadAs cell o → o ≡ Some d → depth d ≤ 512
  unfolding cut
  is_shallow cell o d r e = by_depth r.tree d (fits r.tree) refl (r.is ∙ e)

  too_deep : (cell : List ℕ) (e : Tree) → length cell ≤ 1048576 → Reads names find cell e → cut e ≡ None → 512 < depth e
  too_deep cell e h r q =
      ⊎_elim (λ (k : 512 < depth e). k) (λ (k : depth e ≤ 512). let n : Some e ≡ None = sym (cut_some e (cell_size names find cell e h r) k) ∙ q in cc) (cases_lt 512 (depth e))

  pub is_deep : (cell : List ℕ) (o : Option Tree) → length cell ≤ 1048576 → IsReadAs cell o → o ≡ None → (e : Tree) × Reads names find cell e × (512 < depth e)
  is_deep cell o h r e = (r.tree, r.reads, too_deep cell r.tree h r.reads (r.is ∙ e))

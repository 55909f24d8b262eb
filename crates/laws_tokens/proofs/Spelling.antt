-- Any tokens are the lexemes of a text, and the lexemes of a text are tokens.
use Rattle.std.proofs.Common.{codes, ◌≡◌, refl, sym, ap, ap₂, ◌∙◌, subst, ℕ, zero, suc, ◌+◌, ◌-◌, Bool, true, false, List, [], ◌∷◌, ◌++◌, length, take, drop, map, None, arith, append_assoc, length-append, drop-drop}
use Rattle.expr_tree.specs.Tree.{Tree}
use Rattle.semantics.specs.Names.{Names}
use Rattle.syntax.specs.Signs.{Sign}
use Rattle.syntax.specs.Tokens.{Kind, Token, Lexed, and_token, lex_from, lex}
use Rattle.syntax.specs.Leaves.{Lexeme, has_feed, lexemes_after, lexemes}
use Rattle.syntax.specs.Reads.{LexemesRead, BeginsCell, IsOffset}
use Rattle.syntax.proofs.Reader.{Filler}
use Rattle.syntax.proofs.Read.{lexeme_of, filled_of}
use Rattle.laws_tokens.specs.Texts.{Whole, IsPart}
use Rattle.laws_tokens.specs.Longest.{IsCut, nothing, token, passed, faulty, strange}
use Rattle.laws_tokens.specs.Spelled.{AreTokens, gap, spelled, HasFullLines, BeginsText, IsTextOffset}
use Rattle.laws_tokens.specs.Laws.{LexemesAreTokens, TokensAreSpelled, CellsAreTexts, OffsetsAreOfTexts}
use Rattle.laws_tokens.proofs.Fronts.{taken, dropped, both_true}
use Rattle.laws_tokens.proofs.Operators.{no_part}
use Rattle.laws_tokens.proofs.Cuts.{are_longest, lexed_by}
use Rattle.laws_tokens.proofs.Alone.{scan_is, over}
use Rattle.laws_tokens.proofs.Solid.{AreSolid, full, inner, ends, full_append, of_full_lines, inner_start, spelled_full, fillers_solid, solid_front, solid_then}
use Rattle.laws_tokens.proofs.Spaced.{Spaced, spaced}

-- ---- the tokens of what is spelled

abbrev tokens_of : ℕ → List Lexeme → List Token
tokens_of at [] = []
tokens_of at (l ∷ ls) =
    let from = at + length (gap l.after_line) in
    record { kind = l.kind; from = from; to = from + length l.text } ∷ tokens_of (from + length l.text) ls

abbrev whole : ℕ → List Lexeme → Lexed
whole at ls = record { tokens = tokens_of at ls; fault = None }

spaces : (ls : List Lexeme) → Spaced (spelled ls)
spaces [] = tt
spaces (l ∷ ls) = go l.after_line
  where
    go : (b : Bool) → Spaced (gap b ++ (l.text ++ spelled ls))
    go true = refl
    go false = refl

over_gap : (b : Bool) (at : ℕ) (cs : List ℕ) → lex_from at 0 (gap b ++ cs) ≡ lex_from (at + length (gap b)) 0 cs
over_gap true at cs = ap (λ k. lex_from k 0 cs) (let z : suc (suc (suc (suc (suc (suc at))))) ≡ at + 6 = omega arith in z)
over_gap false at cs = ap (λ k. lex_from k 0 cs) (let z : suc at ≡ at + 1 = omega arith in z)

over_token : (kind : Kind) (t rest : List ℕ) (at : ℕ) → IsPart (Whole kind) t → Spaced rest →
    lex_from at 0 (t ++ rest) ≡ and_token (record { kind = kind; from = at; to = at + length t }) (lex_from (at + length t) 0 rest)
over_token kind [] rest at i s = absurd (no_part (Whole kind) i)
over_token kind (c ∷ cs) rest at i s =
    let place : suc at + length cs ≡ at + length (c ∷ cs) = omega arith in
    ap (lexed_by at (cs ++ rest)) (scan_is c (cs ++ rest) (Whole kind) (c ∷ cs) rest (spaced kind (c ∷ cs) rest i s))
    ∙ ap (and_token (record { kind = kind; from = at; to = at + length (c ∷ cs) })) (over cs rest (suc at) ∙ ap (λ k. lex_from k 0 rest) place)

lexed : (ls : List Lexeme) (at : ℕ) → AreTokens ls → lex_from at 0 (spelled ls) ≡ whole at ls
lexed [] at i = refl
lexed (l ∷ ls) at i =
    let from = at + length (gap l.after_line) in
    over_gap l.after_line at (l.text ++ spelled ls)
    ∙ over_token l.kind l.text (spelled ls) from i.0 (spaces ls)
    ∙ ap (and_token (record { kind = l.kind; from = from; to = from + length l.text })) (lexed ls (from + length l.text) i.1)

gap_feed : (b : Bool) → has_feed (gap b) ≡ b
gap_feed true = refl
gap_feed false = refl

-- where `front` was read
of_tokens : (ls : List Lexeme) (text front : List ℕ) → text ≡ front ++ spelled ls → lexemes_after text (length front) (tokens_of (length front) ls) ≡ ls
of_tokens [] text front e = refl
of_tokens (l ∷ ls) text front e =
    let n = length front in
    let g = gap l.after_line in
    let from = n + length g in
    let behind : drop n text ≡ g ++ (l.text ++ spelled ls) = ap (drop n) e ∙ dropped front (g ++ (l.text ++ spelled ls)) in
    let all : text ≡ (front ++ g) ++ (l.text ++ spelled ls) = e ∙ sym (append_assoc front g (l.text ++ spelled ls)) in
    let long : length (front ++ g) ≡ from = length-append front g in
    let here : drop from text ≡ l.text ++ spelled ls = ap (λ (m : ℕ). drop m text) (sym long) ∙ ap (drop (length (front ++ g))) all ∙ dropped (front ++ g) (l.text ++ spelled ls) in
    let own : take (from + length l.text - from) (drop from text) ≡ l.text =
    ap₂ (λ (m : ℕ) (cs : List ℕ). take m cs) (let z : from + length l.text - from ≡ length l.text = omega arith in z) here ∙ taken l.text (spelled ls) in
    let feed : has_feed (take (from - n) (drop n text)) ≡ l.after_line =
    ap has_feed (ap₂ (λ (m : ℕ) (cs : List ℕ). take m cs) (let z : from - n ≡ length g = omega arith in z) behind ∙ taken g (l.text ++ spelled ls)) ∙ gap_feed l.after_line in
    let next : text ≡ ((front ++ g) ++ l.text) ++ spelled ls = all ∙ sym (append_assoc (front ++ g) l.text (spelled ls)) in
    let ended : length ((front ++ g) ++ l.text) ≡ from + length l.text = let h = length-append (front ++ g) l.text in omega (arith, h, long) in
    ap₂ (λ (x : Lexeme) (xs : List Lexeme). x ∷ xs)
    (ap₂ (λ (cs : List ℕ) (f : Bool). record { kind = l.kind; text = cs; after_line = f }) own feed)
    (ap (λ (m : ℕ). lexemes_after text m (tokens_of m ls)) (sym ended) ∙ of_tokens ls text ((front ++ g) ++ l.text) next)

pub are_spelled : TokensAreSpelled
are_spelled ls i =
    let l = lexed ls 0 i in
    (ap (λ (x : Lexed). x.fault) l, ap (λ (x : Lexed). lexemes_after (spelled ls) 0 x.tokens) l ∙ of_tokens ls (spelled ls) [] refl)

-- ---- the lexemes of a text

own_text : (text front rest : List ℕ) (at : ℕ) → drop at text ≡ front ++ rest → take (at + length front - at) (drop at text) ≡ front
own_text text front rest at e =
    ap₂ (λ (m : ℕ) (cs : List ℕ). take m cs) (let z : at + length front - at ≡ length front = omega arith in z) e ∙ taken front rest

rest_text : (text front rest : List ℕ) (at : ℕ) → drop at text ≡ front ++ rest → drop (at + length front) text ≡ rest
rest_text text front rest at e = drop_more text at (length front) ∙ ap (drop (length front)) e ∙ dropped front rest
  where
    drop_more : (xs : List ℕ) (a b : ℕ) → drop (a + b) xs ≡ drop b (drop a xs)
    drop_more xs a b = sym (drop-drop b a xs)

tokens_in : (text : List ℕ) (at before : ℕ) (rest : List ℕ) (l : Lexed) → IsCut at rest l → drop at text ≡ rest → AreTokens (lexemes_after text before l.tokens)
tokens_in text at before rest l (nothing a) e = tt
tokens_in text at before rest l (token a {l = m} kind front behind h k) e =
    let w : drop at text ≡ front ++ behind = e ∙ h.whole in
    (subst (IsPart (Whole kind)) (sym (own_text text front behind at w)) h.is, tokens_in text (at + length front) (at + length front) behind m k (rest_text text front behind at w))
tokens_in text at before rest l (passed a part front behind h p k) e = tokens_in text (at + length front) before behind l k (rest_text text front behind at (e ∙ h.whole))
tokens_in text at before rest l (faulty a part front behind fault h f) e = tt
tokens_in text at before rest l (strange a c cs none) e = tt

pub are_tokens : LexemesAreTokens
are_tokens text = tokens_in text 0 0 text (lex text) (are_longest text) refl

-- behind a part of a cell that has no blank line
full_behind : (rest front behind : List ℕ) (seen : Bool) → full seen rest ≡ true → rest ≡ front ++ behind → (inner seen front ≡ true) × (full (ends seen front) behind ≡ true)
full_behind rest front behind seen f w =
    both_true (inner seen front) (full (ends seen front) behind) (sym (full_append front behind seen) ∙ sym (ap (full seen) w) ∙ f)

solid_in : (text : List ℕ) (at before : ℕ) (rest : List ℕ) (l : Lexed) (seen : Bool) → IsCut at rest l → drop at text ≡ rest → full seen rest ≡ true → AreSolid (lexemes_after text before l.tokens)
solid_in text at before rest l seen (nothing a) e f = tt
solid_in text at before rest l seen (token a {l = m} kind front behind h k) e f =
    let w : drop at text ≡ front ++ behind = e ∙ h.whole in
    let b = full_behind rest front behind seen f h.whole in (
      ap (inner true) (own_text text front behind at w) ∙ inner_start kind front true seen h.is ∙ b.0,
      solid_in text (at + length front) (at + length front) behind m (ends seen front) k (rest_text text front behind at w) b.1,
    )
solid_in text at before rest l seen (passed a part front behind h p k) e f =
    solid_in text (at + length front) before behind l (ends seen front) k (rest_text text front behind at (e ∙ h.whole)) (full_behind rest front behind seen f h.whole).1
solid_in text at before rest l seen (faulty a part front behind fault h g) e f = tt
solid_in text at before rest l seen (strange a c cs none) e f = tt

are_solid : (text : List ℕ) → HasFullLines text → AreSolid (lexemes text)
are_solid text f = solid_in text 0 0 text (lex text) false (are_longest text) refl (of_full_lines text f)

-- ---- what begins a cell

tokens_front : (k : ℕ) (ls : List Lexeme) → AreTokens ls → AreTokens (take k ls)
tokens_front zero ls i = tt
tokens_front (suc k) [] i = tt
tokens_front (suc k) (l ∷ ls) i = (i.0, tokens_front k ls i.1)

tokens_then : (ls ms : List Lexeme) → AreTokens ls → AreTokens ms → AreTokens (ls ++ ms)
tokens_then [] ms i j = j
tokens_then (l ∷ ls) ms i j = (i.0, tokens_then ls ms i.1 j)

filler_token : (f : Filler) → IsPart (Whole (lexeme_of f).kind) (lexeme_of f).text
filler_token Filler.One = record { digits = record { some = omega arith; digits = refl }; fits = omega arith }
filler_token Filler.Round = record { sign = Sign.CloseParen; is = refl }
filler_token Filler.Curly = record { sign = Sign.CloseBrace; is = refl }
filler_token Filler.Square = record { sign = Sign.CloseBracket; is = refl }
filler_token Filler.Assign = record { sign = Sign.Assign; is = refl }

fillers_tokens : (fs : List Filler) → AreTokens (map lexeme_of fs)
fillers_tokens [] = tt
fillers_tokens (f ∷ fs) = (filler_token f, fillers_tokens fs)

text_by : (names : Names) (find : List ℕ → ℕ) (ls more : List Lexeme) (e : Tree) (all : List Lexeme) → all ≡ ls ++ more → AreTokens all → AreSolid all → LexemesRead names find all e → BeginsText names find ls
text_by names find ls more e [] w i j r = record {
  text = codes "(**)";
  full = refl;
  expr = e;
  rest = more;
  begins = w;
  reads = record { no_fault = refl; read = r };
}
text_by names find ls more e (l ∷ all) w i j r =
    let s = are_spelled (l ∷ all) i in
    record {
      text = spelled (l ∷ all);
      full = spelled_full l all i j;
      expr = e;
      rest = more;
      begins = s.1 ∙ w;
      reads = record { no_fault = s.0; read = subst (λ (xs : List Lexeme). LexemesRead names find xs e) (sym s.1) r };
    }

text_of : (names : Names) (find : List ℕ → ℕ) (ls : List Lexeme) → AreTokens ls → AreSolid ls → BeginsCell names find ls → BeginsText names find ls
text_of names find ls i j b =
    let f = filled_of names find ls b in
    text_by names find ls (map lexeme_of f.tail) f.expr (ls ++ map lexeme_of f.tail) refl
    (tokens_then ls (map lexeme_of f.tail) i (fillers_tokens f.tail)) (solid_then ls (map lexeme_of f.tail) j (fillers_solid f.tail)) f.read

cell_of : (names : Names) (find : List ℕ → ℕ) (ls : List Lexeme) → BeginsText names find ls → BeginsCell names find ls
cell_of names find ls t = (t.rest, t.expr, subst (λ (xs : List Lexeme). LexemesRead names find xs t.expr) t.begins t.reads.read)

pub are_texts : CellsAreTexts
are_texts names find cell k full =
    (text_of names find (take k (lexemes cell)) (tokens_front k (lexemes cell) (are_tokens cell)) (solid_front k (lexemes cell) (are_solid cell full)), cell_of names find (take k (lexemes cell)))

pub offsets_of_texts : OffsetsAreOfTexts
offsets_of_texts names find cell place full = (to_text, of_text)
  where
    to_text : IsOffset names find cell place → IsTextOffset names find cell place
    to_text o = record {
      k = o.k;
      within = o.first_bad.within;
      before = (are_texts names find cell o.k full).0 o.first_bad.before;
      bad = λ h b. o.first_bad.bad h ((are_texts names find cell (suc o.k) full).1 b);
      unread = o.unread;
      here = o.here;
    }

    of_text : IsTextOffset names find cell place → IsOffset names find cell place
    of_text o = record {
      k = o.k;
      first_bad = record {
        within = o.within;
        before = (are_texts names find cell o.k full).1 o.before;
        bad = λ h b. o.bad h ((are_texts names find cell (suc o.k) full).0 b);
      };
      unread = o.unread;
      here = o.here;
    }

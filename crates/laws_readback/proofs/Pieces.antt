-- A text as words with single spaces between them. Where each word is cut in front of what follows it, the words are the lexemes.
use Rattle.std.proofs.Common.{◌≡◌, refl, sym, ap, ap₂, subst, ◌∙◌, ℕ, suc, ◌+◌, ◌-◌, Bool, true, false, List, [], ◌∷◌, ◌++◌, length, take, drop, append_assoc, append-nil, length-append, Some, None, pred, arith}
use Rattle.std.specs.Prelude.{◌==◌}
use Rattle.syntax.specs.Tokens.{Kind, Token, Scan, Takes, Skips, Faults, Lexed, scan, and_token, lex_from, lex, token_text}
use Rattle.syntax.specs.Leaves.{Lexeme, has_feed, lexemes_after, lexemes}

pub data Piece : Type 0 where
  word : Kind → List ℕ → Piece
  gap : Piece

abbrev pub bytes : List Piece → List ℕ
bytes [] = []
bytes (word k t ∷ ps) = t ++ bytes ps
bytes (gap ∷ ps) = 32 ∷ bytes ps

abbrev pub lexeme : Kind → List ℕ → Lexeme
lexeme k t = record { kind = k; text = t; after_line = false }

abbrev pub words : List Piece → List Lexeme
words [] = []
words (word k t ∷ ps) = lexeme k t ∷ words ps
words (gap ∷ ps) = words ps

-- in front of the rest, the text is a token
abbrev pub IsCut : Kind → List ℕ → List ℕ → Type 0
IsCut k [] rest = ⊥
IsCut k (c ∷ cs) rest = scan c (cs ++ rest) ≡ Takes k (suc (length cs))

abbrev pub AreCut : List Piece → List ℕ → Type 0
AreCut [] rest = Unit {0}
AreCut (word k t ∷ ps) rest = IsCut k t (bytes ps ++ rest) × AreCut ps rest
AreCut (gap ∷ ps) rest = AreCut ps rest

pub bytes_then : (ps qs : List Piece) → bytes (ps ++ qs) ≡ bytes ps ++ bytes qs
bytes_then [] qs = refl
bytes_then (word k t ∷ ps) qs = ap (λ cs. t ++ cs) (bytes_then ps qs) ∙ sym (append_assoc t (bytes ps) (bytes qs))
bytes_then (gap ∷ ps) qs = ap (λ (cs : List ℕ). 32 ∷ cs) (bytes_then ps qs)

pub words_then : (ps qs : List Piece) → words (ps ++ qs) ≡ words ps ++ words qs
words_then [] qs = refl
words_then (word k t ∷ ps) qs = ap (λ ls. lexeme k t ∷ ls) (words_then ps qs)
words_then (gap ∷ ps) qs = words_then ps qs

bytes_rest : (ps qs : List Piece) (rest : List ℕ) → bytes ps ++ (bytes qs ++ rest) ≡ bytes (ps ++ qs) ++ rest
bytes_rest ps qs rest = sym (append_assoc (bytes ps) (bytes qs) rest) ∙ ap (λ (cs : List ℕ). cs ++ rest) (sym (bytes_then ps qs))

pub cut_then : (ps qs : List Piece) (rest : List ℕ) → AreCut ps (bytes qs ++ rest) → AreCut qs rest → AreCut (ps ++ qs) rest
cut_then [] qs rest c d = d
cut_then (word k t ∷ ps) qs rest c d = (subst (λ cs. IsCut k t cs) (bytes_rest ps qs rest) c.0, cut_then ps qs rest c.1 d)
cut_then (gap ∷ ps) qs rest c d = cut_then ps qs rest c d

-- ---- the tokens

abbrev tokens_of : ℕ → List Piece → List Token
tokens_of at [] = []
tokens_of at (word k t ∷ ps) = record { kind = k; from = at; to = at + length t } ∷ tokens_of (at + length t) ps
tokens_of at (gap ∷ ps) = tokens_of (suc at) ps

abbrev whole : ℕ → List Piece → Lexed
whole at ps = record { tokens = tokens_of at ps; fault = None }

abbrev lexed_by : ℕ → List ℕ → Scan → Lexed
lexed_by at cs (Takes kind n) = and_token (record { kind = kind; from = at; to = at + n }) (lex_from (suc at) (pred n) cs)
lexed_by at cs (Skips n) = lex_from (suc at) (pred n) cs
lexed_by at cs (Faults fault n) = record { tokens = []; fault = Some (fault (at + n)) }

lexed_front : (at c : ℕ) (cs : List ℕ) → lex_from at 0 (c ∷ cs) ≡ lexed_by at cs (scan c cs)
lexed_front at c cs = go (scan c cs)
  where
    go : (s : Scan) → elim s [
      | Takes kind n ↦ and_token (record { kind = kind; from = at; to = at + n }) (lex_from (suc at) (pred n) cs)
      | Skips n ↦ lex_from (suc at) (pred n) cs
      | Faults fault n ↦ record { tokens = []; fault = Some (fault (at + n)) }
    ] ≡ lexed_by at cs s
    go (Takes kind n) = refl
    go (Skips n) = refl
    go (Faults fault n) = refl

skipped : (cs ds : List ℕ) (at : ℕ) → lex_from at (length cs) (cs ++ ds) ≡ lex_from (at + length cs) 0 ds
skipped [] ds at = ap (λ k. lex_from k 0 ds) (omega arith)
skipped (c ∷ cs) ds at = skipped cs ds (suc at) ∙ ap (λ k. lex_from k 0 ds) (omega arith)

lexed : (ps : List Piece) (at : ℕ) → AreCut ps [] → lex_from at 0 (bytes ps) ≡ whole at ps
lexed [] at c = refl
lexed (word k [] ∷ ps) at c = absurd c.0
lexed (word k (d ∷ ds) ∷ ps) at c =
    let t : Token = record { kind = k; from = at; to = at + length (d ∷ ds) } in
    let is : scan d (ds ++ bytes ps) ≡ Takes k (suc (length ds)) = subst (λ (cs : List ℕ). scan d (ds ++ cs) ≡ Takes k (suc (length ds))) (append-nil (bytes ps)) c.0 in
    let place : suc at + length ds ≡ at + length (d ∷ ds) = omega arith in
    lexed_front at d (ds ++ bytes ps)
    ∙ ap (lexed_by at (ds ++ bytes ps)) is
    ∙ ap (λ l. and_token t l) (skipped ds (bytes ps) (suc at) ∙ ap (λ n. lex_from n 0 (bytes ps)) place ∙ lexed ps (at + length (d ∷ ds)) c.1)
lexed (gap ∷ ps) at c = lexed ps (suc at) c

-- ---- the lexemes

front_dropped : (xs ys : List ℕ) → drop (length xs) (xs ++ ys) ≡ ys
front_dropped [] ys = refl
front_dropped (x ∷ xs) ys = front_dropped xs ys

front_taken : (xs ys : List ℕ) → take (length xs) (xs ++ ys) ≡ xs
front_taken [] ys = refl
front_taken (x ∷ xs) ys = ap (λ (zs : List ℕ). x ∷ zs) (front_taken xs ys)

feed_last : (g : List ℕ) → has_feed g ≡ false → has_feed (g ++ (32 ∷ [])) ≡ false
feed_last [] e = refl
feed_last (c ∷ g) e = go (c == 10) (feed_last g) e
  where
    go : (b : Bool) → (has_feed g ≡ false → has_feed (g ++ (32 ∷ [])) ≡ false) → elim b [ true ↦ true | false ↦ has_feed g ] ≡ false → elim b [ true ↦ true | false ↦ has_feed (g ++ (32 ∷ [])) ] ≡ false
    go true next e = e
    go false next e = next e

abbrev lexeme_at : List ℕ → ℕ → Token → Lexeme
lexeme_at text at t = record { kind = t.kind; text = token_text text t; after_line = has_feed (take (t.from - at) (drop at text)) }

-- where `front` was read and the spaces `g` stand in front of what is left
of_words : (ps : List Piece) (text front g : List ℕ) → text ≡ front ++ (g ++ bytes ps) → has_feed g ≡ false
    → lexemes_after text (length front) (tokens_of (length front + length g) ps) ≡ words ps
of_words [] text front g e n = refl
of_words (gap ∷ ps) text front g e n =
    let more : text ≡ front ++ ((g ++ (32 ∷ [])) ++ bytes ps) = e ∙ ap (λ (cs : List ℕ). front ++ cs) (sym (append_assoc g (32 ∷ []) (bytes ps))) in
    let place : suc (length front + length g) ≡ length front + length (g ++ (32 ∷ [])) = let h = length-append g (32 ∷ []) in omega (arith, h) in
    ap (λ k. lexemes_after text (length front) (tokens_of k ps)) place ∙ of_words ps text front (g ++ (32 ∷ [])) more (feed_last g n)
of_words (word k t ∷ ps) text front g e n =
    let b = length front + length g in
    let behind : drop (length front) text ≡ g ++ (t ++ bytes ps) = ap (drop (length front)) e ∙ front_dropped front (g ++ (t ++ bytes ps)) in
    let all : text ≡ (front ++ g) ++ (t ++ bytes ps) = e ∙ sym (append_assoc front g (t ++ bytes ps)) in
    let long : length (front ++ g) ≡ b = let h = length-append front g in omega (arith, h) in
    let here : drop b text ≡ t ++ bytes ps = ap (λ (m : ℕ). drop m text) (sym long) ∙ ap (drop (length (front ++ g))) all ∙ front_dropped (front ++ g) (t ++ bytes ps) in
    let size : b + length t - b ≡ length t = omega arith in
    let own : take (b + length t - b) (drop b text) ≡ t = ap₂ (λ (m : ℕ) (cs : List ℕ). take m cs) size here ∙ front_taken t (bytes ps) in
    let gone : b - length front ≡ length g = omega arith in
    let no_feed : has_feed (take (b - length front) (drop (length front) text)) ≡ false =
    ap has_feed (ap₂ (λ (m : ℕ) (cs : List ℕ). take m cs) gone behind ∙ front_taken g (t ++ bytes ps)) ∙ n in
    let next : text ≡ ((front ++ g) ++ t) ++ ([] ++ bytes ps) = all ∙ sym (append_assoc (front ++ g) t (bytes ps)) in
    let ended : length ((front ++ g) ++ t) ≡ b + length t = let h = length-append (front ++ g) t in omega (arith, h, long) in
    ap₂ (λ (l : Lexeme) (ls : List Lexeme). l ∷ ls)
    (ap₂ (λ (cs : List ℕ) (f : Bool). record { kind = k; text = cs; after_line = f }) own no_feed)
    (ap₂ (λ (m j : ℕ). lexemes_after text m (tokens_of j ps)) (sym ended) (omega (arith, ended)) ∙ of_words ps text ((front ++ g) ++ t) [] next refl)

-- ---- a text of pieces

pub record IsMadeOf (text : List ℕ) (ps : List Piece) : Type 0 where
  pub no_fault : (lex text).fault ≡ None
  pub cut : lexemes text ≡ words ps

pub made_of : (ps : List Piece) → AreCut ps [] → IsMadeOf (bytes ps) ps
made_of ps c =
    let l = lexed ps 0 c in
    record {
      no_fault = ap (λ x. x.fault) l;
      cut = ap (λ x. lexemes_after (bytes ps) 0 x.tokens) l ∙ of_words ps (bytes ps) [] [] refl refl;
    }

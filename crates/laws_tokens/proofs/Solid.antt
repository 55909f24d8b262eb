-- Texts without a blank line, and tokens with none in them.
use Rattle.std.proofs.Common.{◌≡◌, refl, sym, ap, ap₂, ◌∙◌, ℕ, zero, suc, Bool, true, false, List, [], ◌∷◌, ◌++◌, take, map, true≢false}
use Rattle.std.specs.Prelude.{◌==◌, ◌&&◌, ◌||◌, not}
use Rattle.script_text.specs.Bytes.{is_digit, is_space, is_white, all}
use Rattle.script_text.specs.Cells.{Line, lines, in_first, is_blank}
use Rattle.syntax.specs.Tokens.{Kind}
use Rattle.syntax.specs.Leaves.{Lexeme}
use Rattle.syntax.proofs.Reader.{Filler}
use Rattle.syntax.proofs.Read.{lexeme_of}
use Rattle.laws_tokens.specs.Texts.{Whole, IsPart}
use Rattle.laws_tokens.specs.Spelled.{AreTokens, gap, spelled, all_full, HasFullLines}
use Rattle.laws_tokens.proofs.Fronts.{White, can_be, part_can, white_first, both_true}
use Rattle.laws_tokens.proofs.Operators.{no_part}
use Rattle.laws_tokens.proofs.Spaced.{is_black, AllBlack, all_weaker, digit_black, name_all_black, blank_black, hashed_black, sign_black}

-- ---- blank lines, byte by byte

-- whether the line, of which a byte that is no space was seen or not, and all that follow are not blank
abbrev pub full : Bool → List ℕ → Bool
full seen [] = seen
full seen (c ∷ cs) = elim (c == 10) as (λ _. Bool) [ true ↦ seen && full false cs | false ↦ full (seen || not (is_space c)) cs ]

abbrev lines_full : Bool → List Line → Bool
lines_full seen [] = seen
lines_full seen (l ∷ ls) = (seen || not (is_blank l)) && all_full ls

pub lines_some : (text : List ℕ) → lines text ≡ [] → ⊥
lines_some [] e = true≢false (ap some e)
  where
    some : List Line → Bool
    some [] = false
    some (l ∷ ls) = true
lines_some (c ∷ cs) e = go (c == 10) (lines cs) e
  where
    some : List Line → Bool
    some [] = false
    some (l ∷ ls) = true

    go : (b : Bool) (ls : List Line) → elim b as (λ _. List Line) [ true ↦ [] ∷ ls | false ↦ in_first c ls ] ≡ [] → ⊥
    go true ls e = true≢false (ap some e)
    go false [] e = true≢false (ap some e)
    go false (l ∷ ls) e = true≢false (ap some e)

begun_lines : (ls : List Line) → (ls ≡ [] → ⊥) → lines_full false ls ≡ all_full ls
begun_lines [] n = absurd (n refl)
begun_lines (l ∷ ls) n = refl

seen_more : (seen space blank rest : Bool) → (((seen || not space) || not blank) && rest) ≡ ((seen || not (space && blank)) && rest)
seen_more true space blank rest = refl
seen_more false true blank rest = refl
seen_more false false blank rest = refl

first_more : (c : ℕ) (seen : Bool) (ls : List Line) → (ls ≡ [] → ⊥) → lines_full (seen || not (is_space c)) ls ≡ lines_full seen (in_first c ls)
first_more c seen [] n = absurd (n refl)
first_more c seen (l ∷ ls) n = seen_more seen (is_space c) (is_blank l) (all_full ls)

full_is : (text : List ℕ) (seen : Bool) → full seen text ≡ lines_full seen (lines text)
full_is [] true = refl
full_is [] false = refl
full_is (c ∷ cs) seen = go (λ s. full_is cs s) (c == 10) seen
  where
    go : ((s : Bool) → full s cs ≡ lines_full s (lines cs)) → (b seen : Bool) → elim b as (λ _. Bool) [ true ↦ seen && full false cs | false ↦ full (seen || not (is_space c)) cs ]
        ≡ lines_full seen (elim b as (λ _. List Line) [ true ↦ [] ∷ lines cs | false ↦ in_first c (lines cs) ])
    go next true true = next false ∙ begun_lines (lines cs) (lines_some cs)
    go next true false = refl
    go next false seen = next (seen || not (is_space c)) ∙ first_more c seen (lines cs) (lines_some cs)

pub of_full_lines : (text : List ℕ) → HasFullLines text → full false text ≡ true
of_full_lines text f = full_is text false ∙ begun_lines (lines text) (lines_some text) ∙ f

pub as_full_lines : (text : List ℕ) → full false text ≡ true → HasFullLines text
as_full_lines text f = sym (begun_lines (lines text) (lines_some text)) ∙ sym (full_is text false) ∙ f

-- ---- a front of a text

-- no line that ends in the text is blank
abbrev pub inner : Bool → List ℕ → Bool
inner seen [] = true
inner seen (c ∷ cs) = elim (c == 10) as (λ _. Bool) [ true ↦ seen && inner false cs | false ↦ inner (seen || not (is_space c)) cs ]

-- whether the last line is not blank so far
abbrev pub ends : Bool → List ℕ → Bool
ends seen [] = seen
ends seen (c ∷ cs) = elim (c == 10) as (λ _. Bool) [ true ↦ ends false cs | false ↦ ends (seen || not (is_space c)) cs ]

pub full_append : (t rest : List ℕ) (seen : Bool) → full seen (t ++ rest) ≡ (inner seen t && full (ends seen t) rest)
full_append [] rest seen = refl
full_append (c ∷ t) rest seen = go (λ s. full_append t rest s) (c == 10) seen
  where
    go : ((s : Bool) → full s (t ++ rest) ≡ (inner s t && full (ends s t) rest)) → (b seen : Bool) → elim b as (λ _. Bool) [ true ↦ seen && full false (t ++ rest) | false ↦ full (seen || not (is_space c)) (t ++ rest) ]
        ≡ (elim b as (λ _. Bool) [ true ↦ seen && inner false t | false ↦ inner (seen || not (is_space c)) t ] && full (elim b as (λ _. Bool) [ true ↦ ends false t | false ↦ ends (seen || not (is_space c)) t ]) rest)
    go next true true = next false
    go next true false = refl
    go next false seen = next (seen || not (is_space c))

-- ---- tokens

record Black (c : ℕ) : Type 0 where
  feed : (c == 10) ≡ false
  space : is_space c ≡ false

black : (c : ℕ) → is_white c ≡ false → Black c
black c e = go (is_space c) (c == 10) refl refl e
  where
    go : (s f : Bool) → is_space c ≡ s → (c == 10) ≡ f → (s || f) ≡ false → Black c
    go true f p q e = absurd (true≢false e)
    go false true p q e = absurd (true≢false e)
    go false false p q e = record { feed = q; space = p }

no_white_kind : (k : Kind) → can_be White (Whole k) ≡ true → ⊥
no_white_kind Kind.Number e = true≢false (sym e)
no_white_kind Kind.Name e = true≢false (sym e)
no_white_kind Kind.Blank e = true≢false (sym e)
no_white_kind Kind.Str e = true≢false (sym e)
no_white_kind Kind.Slot e = true≢false (sym e)
no_white_kind Kind.Operator e = true≢false (sym e)

first_black : (k : Kind) (c : ℕ) (cs : List ℕ) → IsPart (Whole k) (c ∷ cs) → Black c
first_black k c cs i = black c (go (is_white c) refl)
  where
    go : (b : Bool) → is_white c ≡ b → b ≡ false
    go true e = absurd (no_white_kind k (ap (λ f. can_be f (Whole k)) (sym (white_first c e)) ∙ part_can (Whole k) c cs i))
    go false e = refl

or_true : (b : Bool) → (b || true) ≡ true
or_true true = refl
or_true false = refl

black_inner : (c : ℕ) (cs : List ℕ) (seen : Bool) → Black c → inner seen (c ∷ cs) ≡ inner true cs
black_inner c cs seen b =
    ap (λ f. elim f as (λ _. Bool) [ true ↦ seen && inner false cs | false ↦ inner (seen || not (is_space c)) cs ]) b.feed
    ∙ ap (λ s. inner (seen || not s) cs) b.space
    ∙ ap (λ s. inner s cs) (or_true seen)

black_ends : (c : ℕ) (cs : List ℕ) (seen : Bool) → Black c → ends seen (c ∷ cs) ≡ ends true cs
black_ends c cs seen b =
    ap (λ f. elim f as (λ _. Bool) [ true ↦ ends false cs | false ↦ ends (seen || not (is_space c)) cs ]) b.feed
    ∙ ap (λ s. ends (seen || not s) cs) b.space
    ∙ ap (λ s. ends s cs) (or_true seen)

-- what stood before a token does not matter
pub inner_start : (k : Kind) (t : List ℕ) (r s : Bool) → IsPart (Whole k) t → inner r t ≡ inner s t
inner_start k [] r s i = absurd (no_part (Whole k) i)
inner_start k (c ∷ cs) r s i = let b = first_black k c cs i in black_inner c cs r b ∙ sym (black_inner c cs s b)

pub not_true : (b : Bool) → not b ≡ true → b ≡ false
not_true true e = absurd (true≢false (sym e))
not_true false e = refl

all_black_ends : (t : List ℕ) → AllBlack t → ends true t ≡ true
all_black_ends [] a = refl
all_black_ends (c ∷ t) a =
    let both = both_true (is_black c) (all is_black t) a in
    black_ends c t true (black c (not_true (is_white c) both.0)) ∙ all_black_ends t both.1

quote_ends : (x : List ℕ) (seen : Bool) → ends seen (x ++ (34 ∷ [])) ≡ true
quote_ends [] seen = or_true seen
quote_ends (c ∷ x) seen = go (λ s. quote_ends x s) (c == 10)
  where
    go : ((s : Bool) → ends s (x ++ (34 ∷ [])) ≡ true) → (b : Bool) → elim b as (λ _. Bool) [ true ↦ ends false (x ++ (34 ∷ [])) | false ↦ ends (seen || not (is_space c)) (x ++ (34 ∷ [])) ] ≡ true
    go next true = next false
    go next false = next (seen || not (is_space c))

ends_true : (k : Kind) (t : List ℕ) → IsPart (Whole k) t → ends true t ≡ true
ends_true Kind.Number t i = all_black_ends t (all_weaker is_digit is_black digit_black t i.digits.digits)
ends_true Kind.Name t i = all_black_ends t (name_all_black t i)
ends_true Kind.Blank t i = all_black_ends t (blank_black t i)
ends_true Kind.Str t i = ap (ends true) i.is ∙ quote_ends (34 ∷ i.inside) true
ends_true Kind.Slot t i = all_black_ends t (hashed_black true t i)
ends_true Kind.Operator t i = all_black_ends t (ap (all is_black) i.is ∙ sign_black i.sign)

ends_token : (k : Kind) (t : List ℕ) (seen : Bool) → IsPart (Whole k) t → ends seen t ≡ true
ends_token k [] seen i = absurd (no_part (Whole k) i)
ends_token k (c ∷ cs) seen i = let b = first_black k c cs i in black_ends c cs seen b ∙ sym (black_ends c cs true b) ∙ ends_true k (c ∷ cs) i

-- ---- what is spelled

abbrev pub AreSolid : List Lexeme → Type 0
AreSolid [] = Unit {0}
AreSolid (l ∷ ls) = (inner true l.text ≡ true) × AreSolid ls

token_full : (k : Kind) (t rest : List ℕ) (seen : Bool) → IsPart (Whole k) t → inner true t ≡ true → full true rest ≡ true → full seen (t ++ rest) ≡ true
token_full k t rest seen i j f =
    full_append t rest seen
    ∙ ap₂ (λ p q. p && full q rest) (inner_start k t seen true i ∙ j) (ends_token k t seen i)
    ∙ f

gap_full : (b : Bool) (rest : List ℕ) → full true rest ≡ true → full true (gap b ++ rest) ≡ true
gap_full true rest f = f
gap_full false rest f = f

first_gap_full : (b : Bool) (rest : List ℕ) → ((seen : Bool) → full seen rest ≡ true) → full false (gap b ++ rest) ≡ true
first_gap_full true rest f = f true
first_gap_full false rest f = f false

spelled_true : (ls : List Lexeme) → AreTokens ls → AreSolid ls → full true (spelled ls) ≡ true
spelled_true [] i j = refl
spelled_true (l ∷ ls) i j = gap_full l.after_line (l.text ++ spelled ls) (token_full l.kind l.text (spelled ls) true i.0 j.0 (spelled_true ls i.1 j.1))

pub spelled_full : (l : Lexeme) (ls : List Lexeme) → AreTokens (l ∷ ls) → AreSolid (l ∷ ls) → HasFullLines (spelled (l ∷ ls))
spelled_full l ls i j =
    as_full_lines (spelled (l ∷ ls))
    (first_gap_full l.after_line (l.text ++ spelled ls) (λ seen. token_full l.kind l.text (spelled ls) seen i.0 j.0 (spelled_true ls i.1 j.1)))

pub solid_front : (k : ℕ) (ls : List Lexeme) → AreSolid ls → AreSolid (take k ls)
solid_front zero ls i = tt
solid_front (suc k) [] i = tt
solid_front (suc k) (l ∷ ls) i = (i.0, solid_front k ls i.1)

pub solid_then : (ls ms : List Lexeme) → AreSolid ls → AreSolid ms → AreSolid (ls ++ ms)
solid_then [] ms i j = j
solid_then (l ∷ ls) ms i j = (i.0, solid_then ls ms i.1 j)

filler_solid : (f : Filler) → inner true (lexeme_of f).text ≡ true
filler_solid Filler.One = refl
filler_solid Filler.Round = refl
filler_solid Filler.Curly = refl
filler_solid Filler.Square = refl
filler_solid Filler.Assign = refl

pub fillers_solid : (fs : List Filler) → AreSolid (map lexeme_of fs)
fillers_solid [] = tt
fillers_solid (f ∷ fs) = (filler_solid f, fillers_solid fs)

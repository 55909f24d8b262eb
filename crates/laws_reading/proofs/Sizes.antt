-- What a cell is read as has at most three nodes for each byte.
use Rattle.std.proofs.Common.{◌≡◌, ℕ, zero, suc, ◌+◌, ◌*◌, ◌<◌, ◌≤◌, ◌-◌, ◌&&◌, Bool, true, false, cond, List, [], ◌∷◌, ◌++◌, length, refl, ap, arith, pos, negsuc, take, drop, length-drop}
use Rattle.std.specs.Prelude.{◌==◌, leb, codes}
use Rattle.std.proofs.lemmas.Bool.{leb-false}
use Rattle.std.proofs.lemmas.List.{length-take-le}
use Rattle.script_text.specs.Bytes.{run, in_name, begins_with}
use Rattle.syntax.specs.Tokens.{Kind, Token, token_text, lex}
use Rattle.syntax.specs.Leaves.{Lexeme, lexemes, lexemes_after, blank_head, blank_row, blank_leaf, named, number_or_one}
use Rattle.syntax.specs.Reads.{Reads, LexemesRead}
use Rattle.laws_reading.specs.Kept.{fits}
use Rattle.lex_form.specs.Shapes.{IsBlank, IsToken, AreTokens, Shape}
use Rattle.lex_form.proofs.TokenShapes.{tokens_good}
use Rattle.expr_tree.specs.Tree.{Tree, Trees, nil, cons, integer, string, symbol, normal, elements, trees, size, sizes, depth}
use Rattle.expr_tree.proofs.Trees.{trees-elements}
use Rattle.semantics.specs.declared.builtin.Builtin.{Builtin}
use Rattle.semantics.specs.Names.{Names, make, name}
use Rattle.syntax.specs.Signs.{Sign}
use Rattle.syntax.specs.Operators.{Operator, Prefix, Postfix, Gives, gives_of, infix_row}
use Rattle.syntax.specs.Terminals.{Phrase, PhraseKind, Closed, NameToken, NumberToken, Open, Word, Value, Mark, Terminal, Start, word_start, sign_start, terminals, word_of}
use Rattle.syntax.specs.Phrases.{written, chained, appended, negated_by, negated_number, negated_product, negated_elements, negative, minus_one, is_open_in, joined, led, trailed}
use Rattle.syntax.specs.Grammar.{PhraseOf, operand, group, braces, leads, binary, beside, trails, call, part, tags, WholeOf, plain, ends, RowOf, one, more, ElementsOf, none, row}

abbrev pub word_weight : Word → ℕ
word_weight (Value x) = size x.expr + 1
word_weight (Mark s) = 3

abbrev pub weight : Terminal → ℕ
weight t = word_weight t.word

abbrev pub weights : List Terminal → ℕ
weights [] = 0
weights (t ∷ ts) = weight t + weights ts

weights-append : (ts us : List Terminal) → weights (ts ++ us) ≡ weights ts + weights us
weights-append [] us = omega arith
weights-append (t ∷ ts) us = let h = weights-append ts us in omega (arith, h)

size_some : (e : Tree) → 1 ≤ size e
size_some (integer n) = omega arith
size_some (string n) = omega arith
size_some (symbol n) = omega arith
size_some (normal h ts) = let k = size_some h in omega (arith, k)

word_some : (w : Word) → 2 ≤ word_weight w
word_some (Value x) = let h = size_some x.expr in omega (arith, h)
word_some (Mark s) = omega arith

some : (t : Terminal) → 2 ≤ weight t
some t = word_some t.word

no_operand : (s : Sign) (x : Phrase) → sign_start s ≡ Start.Operand x → ⊥
unfolding sign_start
no_operand Sign.Query y e = cc
no_operand Sign.At y e = cc
no_operand Sign.SlashAt y e = cc
no_operand Sign.AtAt y e = cc
no_operand Sign.Caret y e = cc
no_operand Sign.Slash y e = cc
no_operand Sign.Star y e = cc
no_operand Sign.Plus y e = cc
no_operand Sign.Minus y e = cc
no_operand Sign.EqualEqual y e = cc
no_operand Sign.BangEqual y e = cc
no_operand Sign.Less y e = cc
no_operand Sign.LessEqual y e = cc
no_operand Sign.Greater y e = cc
no_operand Sign.GreaterEqual y e = cc
no_operand Sign.SameSign y e = cc
no_operand Sign.UnsameSign y e = cc
no_operand Sign.Bang y e = cc
no_operand Sign.AndAnd y e = cc
no_operand Sign.BarBar y e = cc
no_operand Sign.Bar y e = cc
no_operand Sign.Colon y e = cc
no_operand Sign.SlashSemicolon y e = cc
no_operand Sign.Arrow y e = cc
no_operand Sign.ColonGreater y e = cc
no_operand Sign.SlashDot y e = cc
no_operand Sign.SlashSlashDot y e = cc
no_operand Sign.PlusEqual y e = cc
no_operand Sign.MinusEqual y e = cc
no_operand Sign.StarEqual y e = cc
no_operand Sign.Ampersand y e = cc
no_operand Sign.SlashSlash y e = cc
no_operand Sign.Assign y e = cc
no_operand Sign.ColonEqual y e = cc
no_operand Sign.CaretEqual y e = cc
no_operand Sign.CaretColonEqual y e = cc
no_operand Sign.AssignDot y e = cc
no_operand Sign.SlashColon y e = cc
no_operand Sign.Semicolon y e = cc
no_operand Sign.PlusPlus y e = cc
no_operand Sign.MinusMinus y e = cc
no_operand Sign.OpenParen y e = cc
no_operand Sign.CloseParen y e = cc
no_operand Sign.OpenBracket y e = cc
no_operand Sign.CloseBracket y e = cc
no_operand Sign.OpenBrace y e = cc
no_operand Sign.CloseBrace y e = cc
no_operand Sign.Comma y e = cc

operand_word : (w : Word) (x : Phrase) → word_start w ≡ Start.Operand x → word_weight w ≡ size x.expr + 1
unfolding word_start
operand_word (Value y) x e = let q : y ≡ x = cc in ap (λ (z : Phrase). size z.expr + 1) q
operand_word (Mark s) x e = absurd (no_operand s x e)

module _ (names : Names) where
  more_size : (ts : Trees) (y : Tree) → sizes (trees (elements ts ++ y ∷ [])) ≡ sizes ts + size y
  more_size nil y = omega arith
  more_size (cons t ts) y = let r = more_size ts y in omega (arith, r)

  all_size : (es : List Tree) (y : Tree) → sizes (trees (es ++ y ∷ [])) ≡ sizes (trees es) + size y
  all_size [] y = omega arith
  all_size (e ∷ es) y = let r = all_size es y in omega (arith, r)

  appended_size : (form : Builtin) (x y : Tree) → size (appended names form x y) ≤ size x + size y + 1
  appended_size form (normal h ts) y = let r = more_size ts y in omega (arith, r)
  appended_size form (integer n) y = omega arith
  appended_size form (string n) y = omega arith
  appended_size form (symbol n) y = omega arith

  chained_by : (c : Bool) (form : Builtin) (x y : Tree) → size (cond c (appended names form x y) (make names form (x ∷ y ∷ []))) ≤ size x + size y + 1
  chained_by true form x y = appended_size form x y
  chained_by false form x y = omega arith

  chained_size : (form : Builtin) (x : Phrase) (y : Tree) → size (chained names form x y).expr ≤ size x.expr + size y + 1
  chained_size form x y = chained_by (is_open_in form x.kind) form x.expr y

  elements_size : (es : List Tree) → sizes (trees (negated_elements names es)) ≤ sizes (trees es) + 1
  elements_size [] = omega arith
  elements_size (integer (pos n) ∷ es) = omega arith
  elements_size (integer (negsuc n) ∷ es) = omega arith
  elements_size (string n ∷ es) = omega arith
  elements_size (symbol n ∷ es) = omega arith
  elements_size (normal h ts ∷ es) = omega arith

  product_size : (e : Tree) → size (negated_product names e) ≤ size e + 2
  product_size (normal h ts) =
      let r = elements_size (elements ts) in
      let s : trees (elements ts) ≡ ts = trees-elements ts in
      omega (arith, r, ap sizes s)
  product_size (integer n) = omega arith
  product_size (string n) = omega arith
  product_size (symbol n) = omega arith

  number_size : (e : Tree) → size (negated_number names e) ≤ size e + 2
  number_size (integer (pos n)) = omega arith
  number_size (integer (negsuc n)) = omega arith
  number_size (normal h ts) = omega arith
  number_size (string n) = omega arith
  number_size (symbol n) = omega arith

  either_size : (c : Bool) (e : Tree) → size (cond c (negated_product names e) (negative names e)) ≤ size e + 2
  either_size true e = product_size e
  either_size false e = omega arith

  negated_size : (kind : PhraseKind) (e : Tree) → size (negated_by names kind e) ≤ size e + 2
  negated_size NumberToken e = number_size e
  negated_size Closed e = omega arith
  negated_size NameToken e = omega arith
  negated_size (Open form) e = either_size (is_open_in Builtin.Times (Open form)) e

  join_size : (g : Gives) (x y : Phrase) → size (joined names g x y).expr ≤ size x.expr + size y.expr + 3
  join_size (Gives.Pair form) x y = omega arith
  join_size (Gives.Chain form) x y = let h = chained_size form x y.expr in omega (arith, h)
  join_size Gives.Quotient x y = let h = chained_size Builtin.Times x (make names Builtin.Power (y.expr ∷ minus_one ∷ [])) in omega (arith, h)
  join_size Gives.Difference x y = let h = chained_size Builtin.Plus x (negated_by names y.kind y.expr) in let k = negated_size y.kind y.expr in omega (arith, h, k)
  join_size Gives.CallOfLeft x y = omega arith
  join_size Gives.CallOfRight x y = omega arith
  join_size Gives.Naming x y = omega arith

  times_size : (x y : Phrase) → size (joined names (gives_of Operator.Times) x y).expr ≤ size x.expr + size y.expr + 1
  unfolding gives_of infix_row
  times_size x y = chained_size Builtin.Times x y.expr

  lead_size : (op : Prefix) (x : Phrase) → size (led names op x).expr ≤ size x.expr + 2
  lead_size Prefix.PreIncrement x = omega arith
  lead_size Prefix.PreDecrement x = omega arith
  lead_size Prefix.Not x = omega arith
  lead_size Prefix.Negate x = negated_size x.kind x.expr

  trail_size : (op : Postfix) (x : Phrase) → size (trailed names op x).expr ≤ size x.expr + 1
  trail_size Postfix.Increment x = omega arith
  trail_size Postfix.Decrement x = omega arith
  trail_size Postfix.Function x = omega arith
  trail_size Postfix.Unset x = omega arith

  mutual
    phrase_size : {room level edge : ℕ} {ts : List Terminal} {x : Phrase} → PhraseOf Phrase Tree (List Tree) (written names) room level ts x edge → size x.expr + 1 ≤ weights ts
    phrase_size (operand {x = x} t e) = let h = operand_word t.word x e in omega (arith, h)
    phrase_size (group {ts = ts} t u e w k) = let h = whole_size w in let a = weights-append ts (u ∷ []) in omega (arith, h, a)
    phrase_size (braces {ts = ts} t u e w k) = let h = elements_small w in let a = weights-append ts (u ∷ []) in let p = some t in let q = some u in omega (arith, h, a, p, q)
    phrase_size (leads {op = op} {x = x} t e p) = let h = phrase_size p in let s = lead_size op x in let w = some t in omega (arith, h, s, w)
    phrase_size (binary {ls = ls} {rs = rs} {op = op} {x = x} {y = y} t p j h k g q) =
        let l = phrase_size p in let r = phrase_size q in let s = join_size (gives_of op) x y in let a = weights-append ls (t ∷ rs) in let w = some t in omega (arith, l, r, s, a, w)
    phrase_size (beside {ls = ls} {rs = rs} {x = x} {y = y} t p e h k q) =
        let l = phrase_size p in let r = phrase_size q in let s = times_size x y in let a = weights-append ls (t ∷ rs) in omega (arith, l, r, s, a)
    phrase_size (trails {ls = ls} {op = op} {x = x} t p e h k) = let l = phrase_size p in let s = trail_size op x in let a = weights-append ls (t ∷ []) in let w = some t in omega (arith, l, s, a, w)
    phrase_size (call {ls = ls} {ts = ts} t u p e h k w i) =
        let l = phrase_size p in let m = elements_small w in let a = weights-append ls (t ∷ (ts ++ u ∷ [])) in let b = weights-append ts (u ∷ []) in omega (arith, l, m, a, b)
    phrase_size (part {ls = ls} {ts = ts} t t' u u' p e e' h k w i i') =
        let l = phrase_size p in let m = elements_small w in let a = weights-append ls (t ∷ t' ∷ (ts ++ u ∷ u' ∷ [])) in let b = weights-append ts (u ∷ u' ∷ []) in let q = some t in omega (arith, l, m, a, b, q)
    phrase_size (tags {ls = ls} {ms = ms} {rs = rs} t u p e h k q i g r) =
        let l = phrase_size p in let m = phrase_size q in let n = phrase_size r in let a = weights-append ls (t ∷ (ms ++ u ∷ rs)) in let b = weights-append ms (u ∷ rs) in omega (arith, l, m, n, a, b)

    whole_size : {room : ℕ} {ts : List Terminal} {x : Phrase} → WholeOf Phrase Tree (List Tree) (written names) room ts x → size x.expr + 1 ≤ weights ts
    whole_size (plain p) = phrase_size p
    whole_size (ends {ts = ts} {x = x} t p e h) =
        let l = phrase_size p in let s = chained_size Builtin.CompoundExpression x (name names Builtin.Null) in let a = weights-append ts (t ∷ []) in let w = some t in omega (arith, l, s, a, w)

    row_size : {room : ℕ} {ts : List Terminal} {xs : List Tree} → RowOf Phrase Tree (List Tree) (written names) room ts xs → sizes (trees xs) ≤ weights ts
    row_size (one w) = let h = whole_size w in omega (arith, h)
    row_size (more {ts = ts} {us = us} {xs = xs} {x = x} t r e w) =
        let h = whole_size w in let l = row_size r in let a = weights-append ts (t ∷ us) in let s = all_size xs x.expr in omega (arith, h, l, a, s)

    elements_small : {room : ℕ} {ts : List Terminal} {xs : List Tree} → ElementsOf Phrase Tree (List Tree) (written names) room ts xs → sizes (trees xs) ≤ weights ts
    elements_small none = omega arith
    elements_small (row r) = row_size r

  pub reading_size : {room : ℕ} {ts : List Terminal} {x : Phrase} → WholeOf Phrase Tree (List Tree) (written names) room ts x → size x.expr + 1 ≤ weights ts
  reading_size w = whole_size w

  -- ---- of a cell

  module _ (find : List ℕ → ℕ) where
    head_size : (w : List ℕ) → sizes (trees (blank_head names find w)) ≤ 1
    head_size [] = omega arith
    head_size (c ∷ cs) = omega arith

    named_size : (w t : List ℕ) (e : Tree) → size e ≤ 2 → (0 < length w → 2 ≤ length t) → 1 ≤ length t → size (named names find w e) + 1 ≤ 3 * length t
    named_size [] t e h g l = omega (arith, h, l)
    named_size (c ∷ cs) t e h g l = let k : 2 ≤ length t = g (omega arith) in omega (arith, h, k)

    two_long : (t : List ℕ) (n : ℕ) → (length t ≡ 1 → n ≡ 0) → 1 ≤ length t → 0 < length (take n t) → 2 ≤ length t
    two_long t zero h l g = absurd (omega (arith, g))
    two_long [] (suc n) h l g = absurd (omega (arith, l))
    two_long (c ∷ []) (suc n) h l g = let q : suc n ≡ 0 = h refl in absurd (omega (arith, q))
    two_long (c ∷ d ∷ cs) (suc n) h l g = omega arith

    blank_size : (t : List ℕ) → IsBlank t → 1 ≤ length t → size (blank_leaf names find t) + 1 ≤ 3 * length t
    blank_size t b l =
        let n = run in_name t in
        let marks = run (λ c. c == 95) (drop n t) in
        let h = head_size (drop (n + marks) t) in
        named_size (take n t) t (make names (blank_row marks) (blank_head names find (drop (n + marks) t))) (omega (arith, h)) (two_long t n b.marked l) l

    slot_size : (b : Bool) (i j : ℕ) → size (elim b as (λ x. Tree) [ true ↦ make names Builtin.SlotSequence (integer (pos i) ∷ []) | false ↦ make names Builtin.Slot (integer (pos j) ∷ []) ]) ≡ 2
    slot_size true i j = refl
    slot_size false i j = refl

    kind_weight : (k : Kind) (t : List ℕ) → Shape k t → 1 ≤ length t → word_weight (word_of names find k t) ≤ 3 * length t
    kind_weight Kind.Number t s l = omega (arith, l)
    kind_weight Kind.Name t s l = omega (arith, l)
    kind_weight Kind.Str t s l = omega (arith, l)
    kind_weight Kind.Slot t s l = let h = slot_size (begins_with (codes "##") t) (number_or_one (drop 2 t)) (number_or_one (drop 1 t)) in omega (arith, l, h)
    kind_weight Kind.Blank t s l = blank_size t s l
    kind_weight Kind.Operator t s l = omega (arith, l)

    text_length : (text : List ℕ) (at : ℕ) (t : Token) → IsToken text at t → length (token_text text t) ≡ t.to - t.from
    text_length text at t k =
        let l = length-drop {A = ℕ} t.from text in
        length-take-le (t.to - t.from) (drop t.from text) (omega (arith, l, k.within))

    tokens_weight : (text : List ℕ) (at : ℕ) (toks : List Token) → at ≤ length text → AreTokens text at toks → weights (terminals names find (lexemes_after text at toks)) + 3 * at ≤ 3 * length text
    tokens_weight text at [] h a = omega (arith, h)
    tokens_weight text at (t ∷ toks) h (k, a) =
        let rest = tokens_weight text t.to toks k.within a in
        let l = text_length text at t k in
        let w = kind_weight t.kind (token_text text t) k.shape (omega (arith, l, k.some)) in
        omega (arith, rest, l, w, k.after, k.some)

    read_size : (ls : List Lexeme) (e : Tree) (n : ℕ) → weights (terminals names find ls) ≤ n → LexemesRead names find ls e → 1 ≤ n → size e ≤ n
    read_size [] e n h r l = let q : size e ≡ 1 = ap size r in omega (arith, q, l)
    read_size (m ∷ ls) e n h r l = let k = whole_size r.1 in let q : size r.0.expr ≡ size e = ap size r.2 in omega (arith, k, q, h)

    pub cell_size : (cell : List ℕ) (e : Tree) → length cell ≤ 1048576 → Reads names find cell e → size e ≤ 4000000
    cell_size cell e h r =
        let w = tokens_weight cell 0 (lex cell).tokens (omega arith) (tokens_good cell) in
        read_size (lexemes cell) e 4000000 (omega (arith, w, h)) r.read (omega arith)

    deep_by : (a b : Bool) (e : Tree) → leb (size e) 4000000 ≡ a → leb (depth e) 512 ≡ b → (a && b) ≡ false → size e ≤ 4000000 → 512 < depth e
    deep_by a false e p q g h = leb-false (depth e) 512 q
    deep_by false true e p q g h = let k = leb-false (size e) 4000000 p in absurd (omega (arith, k, h))
    deep_by true true e p q g h = cc

    pub cell_deep : (cell : List ℕ) → length cell ≤ 1048576 → ((e : Tree) × Reads names find cell e × (fits e ≡ false)) → (e : Tree) × Reads names find cell e × (512 < depth e)
    unfolding fits
    cell_deep cell h (e, r, g) = (e, r, deep_by (leb (size e) 4000000) (leb (depth e) 512) e refl refl g (cell_size cell e h r))

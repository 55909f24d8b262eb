-- The symbols of what is read are those of kept names.
use Rattle.std.proofs.Common.{◌≡◌, ◌∙◌, sym, ap, subst, ℕ, ◌+◌, ◌<◌, Bool, true, false, cond, List, [], ◌∷◌, ◌++◌, length, take, drop, pos, negsuc, arith}
use Rattle.std.specs.Prelude.{◌==◌, codes}
use Rattle.std.proofs.lemmas.List.{drop-drop}
use Rattle.expr_tree.specs.Tree.{Tree, Trees, nil, cons, integer, string, symbol, normal, elements, trees}
use Rattle.script_text.specs.Bytes.{run, in_name, begins_with}
use Rattle.script_text.specs.Laws.{IsKept, AreKept}
use Rattle.script_text.specs.Spelling.{place_in}
use Rattle.semantics.specs.declared.builtin.Builtin.{Builtin}
use Rattle.semantics.specs.Names.{Names, make, name}
use Rattle.syntax.specs.Operators.{Operator, Prefix, Postfix, Gives, gives_of}
use Rattle.syntax.specs.Tokens.{Kind, Token, lex, nonempty, blank_names, token_text, token_names, names_in}
use Rattle.syntax.specs.Leaves as leaf
use Rattle.syntax.specs.Leaves.{Lexeme, lexemes, lexemes_after}
use Rattle.syntax.specs.Signs.{Sign, sign_of}
use Rattle.syntax.specs.Terminals.{Phrase, PhraseKind, Closed, NameToken, NumberToken, Open, Terminal, Start, start_of, word_start, sign_start, word_of, terminals}
use Rattle.syntax.specs.Phrases.{written, chained, appended, negated_by, negated_number, negated_product, negated_elements, negative, minus_one, is_open_in, joined, led, trailed}
use Rattle.syntax.specs.Grammar.{PhraseOf, operand, group, braces, leads, binary, beside, trails, WholeOf, plain, ends, RowOf, one, more, ElementsOf, none, row, nesting_limit}
use Rattle.syntax.specs.Grammar as gram
use Rattle.syntax.specs.Reads.{LexemesRead, Reads}
use Rattle.name_table.specs.Table.{NameTable}
use Rattle.builtin_names.specs.Named.{HasBuiltins}
use Rattle.builtin_names.specs.Named.{names_in as builtins_in}
use Rattle.read_form.specs.Answers.{IsReading}
use Rattle.read_form.specs.Kept.{AreKeptNames}
use Rattle.read_form.proofs.BlankParts.{kept_front, kept_back}

module _ (count : ℕ) (names : Names) (rows : (form : Builtin) → names.place form < count) where
  abbrev All : List Tree → Type 0
  All es = AreKept count (trees es)

  made : (form : Builtin) (es : List Tree) → All es → IsKept count (make names form es)
  made form es k = (rows form, k)

  added : (es : List Tree) (e : Tree) → All es → IsKept count e → All (es ++ e ∷ [])
  added [] e k h = (h, tt)
  added (d ∷ es) e (j, k) h = (j, added es e k h)

  as_list : (es : Trees) → AreKept count es → All (elements es)
  as_list nil k = tt
  as_list (cons e es) (h, k) = (h, as_list es k)

  appended_kept : (form : Builtin) (x y : Tree) → IsKept count x → IsKept count y → IsKept count (appended names form x y)
  appended_kept form (normal h es) y (j, k) l = (j, added (elements es) y (as_list es k) l)
  appended_kept form (integer n) y k l = (rows form, (k, (l, tt)))
  appended_kept form (string t) y k l = (rows form, (k, (l, tt)))
  appended_kept form (symbol s) y k l = (rows form, (k, (l, tt)))

  chained_kept : (form : Builtin) (x : Phrase) (y : Tree) → IsKept count x.expr → IsKept count y → IsKept count (chained names form x y).expr
  chained_kept form x y k l = go (is_open_in form x.kind)
    where
      go : (b : Bool) → IsKept count (cond b (appended names form x.expr y) (make names form (x.expr ∷ y ∷ [])))
      go true = appended_kept form x.expr y k l
      go false = (rows form, (k, (l, tt)))

  negative_kept : (x : Tree) → IsKept count x → IsKept count (negative names x)
  negative_kept x k = (rows Builtin.Times, (tt, (k, tt)))

  negated_elements_kept : (es : List Tree) → All es → All (negated_elements names es)
  negated_elements_kept [] k = (tt, tt)
  negated_elements_kept (integer (pos n) ∷ es) (h, k) = (tt, k)
  negated_elements_kept (integer (negsuc n) ∷ es) k = (tt, k)
  negated_elements_kept (string t ∷ es) k = (tt, k)
  negated_elements_kept (symbol s ∷ es) k = (tt, k)
  negated_elements_kept (normal h ds ∷ es) k = (tt, k)

  negated_product_kept : (x : Tree) → IsKept count x → IsKept count (negated_product names x)
  negated_product_kept (normal h es) (j, k) = (j, negated_elements_kept (elements es) (as_list es k))
  negated_product_kept (integer n) k = negative_kept (integer n) k
  negated_product_kept (string t) k = negative_kept (string t) k
  negated_product_kept (symbol s) k = negative_kept (symbol s) k

  negated_number_kept : (x : Tree) → IsKept count x → IsKept count (negated_number names x)
  negated_number_kept (integer (pos n)) k = tt
  negated_number_kept (integer (negsuc n)) k = negative_kept (integer (negsuc n)) k
  negated_number_kept (string t) k = negative_kept (string t) k
  negated_number_kept (symbol s) k = negative_kept (symbol s) k
  negated_number_kept (normal h es) k = negative_kept (normal h es) k

  by_openness : (x : Tree) (b : Bool) → IsKept count x → IsKept count (cond b (negated_product names x) (negative names x))
  by_openness x true k = negated_product_kept x k
  by_openness x false k = negative_kept x k

  negated_kept : (kind : PhraseKind) (x : Tree) → IsKept count x → IsKept count (negated_by names kind x)
  negated_kept NumberToken x k = negated_number_kept x k
  negated_kept Closed x k = by_openness x (is_open_in Builtin.Times Closed) k
  negated_kept NameToken x k = by_openness x (is_open_in Builtin.Times NameToken) k
  negated_kept (Open form) x k = by_openness x (is_open_in Builtin.Times (Open form)) k

  joined_kept : (g : Gives) (x y : Phrase) → IsKept count x.expr → IsKept count y.expr → IsKept count (joined names g x y).expr
  joined_kept (Gives.Pair form) x y k l = (rows form, (k, (l, tt)))
  joined_kept (Gives.Chain form) x y k l = chained_kept form x y.expr k l
  joined_kept Gives.Quotient x y k l = chained_kept Builtin.Times x (make names Builtin.Power (y.expr ∷ minus_one ∷ [])) k (rows Builtin.Power, (l, (tt, tt)))
  joined_kept Gives.Difference x y k l = chained_kept Builtin.Plus x (negated_by names y.kind y.expr) k (negated_kept y.kind y.expr l)
  joined_kept Gives.CallOfLeft x y k l = (k, (l, tt))
  joined_kept Gives.CallOfRight x y k l = (l, (k, tt))
  joined_kept Gives.Naming x y k l = (rows Builtin.Pattern, (k, (l, tt)))

  led_kept : (op : Prefix) (x : Phrase) → IsKept count x.expr → IsKept count (led names op x).expr
  led_kept Prefix.PreIncrement x k = (rows Builtin.PreIncrement, (k, tt))
  led_kept Prefix.PreDecrement x k = (rows Builtin.PreDecrement, (k, tt))
  led_kept Prefix.Negate x k = negated_kept x.kind x.expr k
  led_kept Prefix.Not x k = (rows Builtin.Not, (k, tt))

  trailed_kept : (op : Postfix) (x : Phrase) → IsKept count x.expr → IsKept count (trailed names op x).expr
  trailed_kept Postfix.Increment x k = (rows Builtin.Increment, (k, tt))
  trailed_kept Postfix.Decrement x k = (rows Builtin.Decrement, (k, tt))
  trailed_kept Postfix.Function x k = (rows Builtin.Function, (k, tt))
  trailed_kept Postfix.Unset x k = (rows Builtin.Unset, (k, tt))

  -- ---- phrases

  abbrev Starts : Start → Type 0
  Starts (Start.Operand x) = IsKept count x.expr
  Starts (Start.Leads op) = Unit {0}
  Starts (Start.Opens o) = Unit {0}
  Starts Start.NoStart = Unit {0}

  abbrev Terms : List Terminal → Type 0
  Terms [] = Unit {0}
  Terms (t ∷ ts) = Starts (start_of t) × Terms ts

  front : (ts us : List Terminal) → Terms (ts ++ us) → Terms ts
  front [] us k = tt
  front (t ∷ ts) us (h, k) = (h, front ts us k)

  back : (ts us : List Terminal) → Terms (ts ++ us) → Terms us
  back [] us k = k
  back (t ∷ ts) us (h, k) = back ts us k

  between : (t : Terminal) (ts us : List Terminal) → Terms (t ∷ (ts ++ us)) → Terms ts
  between t ts us (h, k) = front ts us k

  abbrev Good : Phrase → Type 0
  Good x = IsKept count x.expr

  mutual
    phrase_kept : {room level edge : ℕ} {ts : List Terminal} {x : Phrase} → PhraseOf Phrase Tree (List Tree) (written names) room level ts x edge → Terms ts → Good x
    phrase_kept (operand t e) (h, k) = subst Starts e h
    phrase_kept (group {ts = ts} t u e w j) k = whole_kept w (between t ts (u ∷ []) k)
    phrase_kept (braces {ts = ts} {xs = xs} t u e w j) k = made Builtin.List xs (elements_kept w (between t ts (u ∷ []) k))
    phrase_kept (leads {op = op} {x = x} t e p) (h, k) = led_kept op x (phrase_kept p k)
    phrase_kept (binary {ls = ls} {rs = rs} {op = op} {x = x} {y = y} t p j a i c q) k =
        joined_kept (gives_of op) x y (phrase_kept p (front ls (t ∷ rs) k)) (phrase_kept q (back ls (t ∷ rs) k).1)
    phrase_kept (beside {ls = ls} {rs = rs} {x = x} {y = y} t p e a i q) k =
        joined_kept (gives_of Operator.Times) x y (phrase_kept p (front ls (t ∷ rs) k)) (phrase_kept q (back ls (t ∷ rs) k))
    phrase_kept (trails {ls = ls} {op = op} {x = x} t p e a i) k = trailed_kept op x (phrase_kept p (front ls (t ∷ []) k))
    phrase_kept (gram.call {ls = ls} {ts = ts} {x = x} {xs = xs} t u p e a i w j) k =
        (phrase_kept p (front ls (t ∷ (ts ++ u ∷ [])) k), elements_kept w (between t ts (u ∷ []) (back ls (t ∷ (ts ++ u ∷ [])) k)))
    phrase_kept (gram.part {ls = ls} {ts = ts} {x = x} {xs = xs} t t' u u' p e e' a i w j j') k =
        (rows Builtin.Part, (phrase_kept p (front ls (t ∷ t' ∷ (ts ++ u ∷ u' ∷ [])) k), elements_kept w (between t' ts (u ∷ u' ∷ []) (back ls (t ∷ t' ∷ (ts ++ u ∷ u' ∷ [])) k).1)))
    phrase_kept (gram.tags {ls = ls} {ms = ms} {rs = rs} {row = form} {x = x} {y = y} {z = z} t u p e a i q j c r) k =
        let b : Terms (ms ++ u ∷ rs) = (back ls (t ∷ (ms ++ u ∷ rs)) k).1 in
        (rows form, (phrase_kept p (front ls (t ∷ (ms ++ u ∷ rs)) k), (phrase_kept q (front ms (u ∷ rs) b), (phrase_kept r (back ms (u ∷ rs) b).1, tt))))

    whole_kept : {room : ℕ} {ts : List Terminal} {x : Phrase} → WholeOf Phrase Tree (List Tree) (written names) room ts x → Terms ts → Good x
    whole_kept (plain p) k = phrase_kept p k
    whole_kept (ends {ts = ts} {x = x} t p e i) k = chained_kept Builtin.CompoundExpression x (name names Builtin.Null) (phrase_kept p (front ts (t ∷ []) k)) (rows Builtin.Null)

    row_kept : {room : ℕ} {ts : List Terminal} {xs : List Tree} → RowOf Phrase Tree (List Tree) (written names) room ts xs → Terms ts → All xs
    row_kept (one w) k = (whole_kept w k, tt)
    row_kept (more {ts = ts} {us = us} {xs = xs} {x = x} t r e w) k = added xs x.expr (row_kept r (front ts (t ∷ us) k)) (whole_kept w (back ts (t ∷ us) k).1)

    elements_kept : {room : ℕ} {ts : List Terminal} {xs : List Tree} → ElementsOf Phrase Tree (List Tree) (written names) room ts xs → Terms ts → All xs
    elements_kept none k = tt
    elements_kept (row r) k = row_kept r k

module _ (texts : List (List ℕ)) (names : Names) (rows : (form : Builtin) → names.place form < length texts) where
  abbrev find : List ℕ → ℕ
  find = place_in texts

  abbrev Begins : Start → Type 0
  Begins s = Starts (length texts) names rows s

  head_kept : (w : List ℕ) → AreKeptNames texts (nonempty w) → AreKept (length texts) (trees (leaf.blank_head names find w))
  head_kept [] k = tt
  head_kept (c ∷ cs) (h, k) = (h, tt)

  named_kept : (w : List ℕ) (e : Tree) → AreKeptNames texts (nonempty w) → IsKept (length texts) e → IsKept (length texts) (leaf.named names find w e)
  named_kept [] e k l = l
  named_kept (c ∷ cs) e (h, k) l = (rows Builtin.Pattern, (h, (l, tt)))

  blank_kept : (t : List ℕ) → AreKeptNames texts (blank_names t) → IsKept (length texts) (leaf.blank_leaf names find t)
  blank_kept t k =
      let n : ℕ = run in_name t in
      let marks : ℕ = run (λ c. c == 95) (drop n t) in
      let behind : drop marks (drop n t) ≡ drop (n + marks) t = drop-drop marks n t ∙ ap (λ m. drop m t) (omega arith) in
      let head : AreKeptNames texts (nonempty (drop (n + marks) t)) = subst (λ (w : List ℕ). AreKeptNames texts (nonempty w)) behind (kept_back texts (nonempty (take n t)) (nonempty (drop marks (drop n t))) k) in
      named_kept (take n t) (make names (leaf.blank_row marks) (leaf.blank_head names find (drop (n + marks) t))) (kept_front texts (nonempty (take n t)) (nonempty (drop marks (drop n t))) k)
      (rows (leaf.blank_row marks), head_kept (drop (n + marks) t) head)

  slot_kept : (t : List ℕ) → IsKept (length texts) (leaf.slot_leaf names find t)
  slot_kept t = go (begins_with (codes "##") t)
    where
      go : (b : Bool) → IsKept (length texts) (elim b [
        | true ↦ make names Builtin.SlotSequence (integer (pos (leaf.number_or_one (drop 2 t))) ∷ [])
        | false ↦ make names Builtin.Slot (integer (pos (leaf.number_or_one (drop 1 t))) ∷ [])
      ])
      go true = (rows Builtin.SlotSequence, (tt, tt))
      go false = (rows Builtin.Slot, (tt, tt))

  mark_kept : (s : Sign) → Begins (sign_start s)
  unfolding sign_start
  mark_kept Sign.Minus = tt
  mark_kept Sign.PlusPlus = tt
  mark_kept Sign.MinusMinus = tt
  mark_kept Sign.Bang = tt
  mark_kept Sign.OpenParen = tt
  mark_kept Sign.OpenBrace = tt
  mark_kept _ = tt

  word_kept : (kind : Kind) (t : List ℕ) → AreKeptNames texts (token_names kind t) → Begins (word_start (word_of names find kind t))
  unfolding word_start
  word_kept Kind.Number t k = tt
  word_kept Kind.Name t k = k.0
  word_kept Kind.Blank t k = blank_kept t k
  word_kept Kind.Str t k = tt
  word_kept Kind.Slot t k = slot_kept t
  word_kept Kind.Operator t k = mark_kept (sign_of t)

  terms_kept : (text : List ℕ) (at : ℕ) (ts : List Token) → AreKeptNames texts (names_in text ts) → Terms (length texts) names rows (terminals names find (lexemes_after text at ts))
  terms_kept text at [] k = tt
  terms_kept text at (t ∷ ts) k = (
    word_kept t.kind (token_text text t) (kept_front texts (token_names t.kind (token_text text t)) (names_in text ts) k),
    terms_kept text t.to ts (kept_back texts (token_names t.kind (token_text text t)) (names_in text ts) k),
  )

  lexemes_kept : (ls : List Lexeme) (e : Tree) → Terms (length texts) names rows (terminals names find ls) → LexemesRead names find ls e → IsKept (length texts) e
  lexemes_kept [] e k r = subst (IsKept (length texts)) (sym r) (rows Builtin.Null)
  lexemes_kept (l ∷ ls) e k r = subst (IsKept (length texts)) r.2 (whole_kept (length texts) names rows r.1 k)

  pub symbols_kept : (cell : List ℕ) (e : Tree) → AreKeptNames texts (names_in cell (lex cell).tokens) → Reads names find cell e → IsKept (length texts) e
  symbols_kept cell e k r = lexemes_kept (lexemes cell) e (terms_kept cell 0 (lex cell).tokens k) r.read

pub reading_kept : (table : NameTable) (cell : List ℕ) (e : Tree) → HasBuiltins table → AreKeptNames table.texts (names_in cell (lex cell).tokens) → IsReading table cell e → IsKept (length table.texts) e
unfolding builtins_in
reading_kept table cell e h k r = symbols_kept table.texts (builtins_in table) h.kept cell e k r

pub null_kept : (table : NameTable) → HasBuiltins table → IsKept (length table.texts) (name (builtins_in table) Builtin.Null)
unfolding builtins_in
null_kept table h = h.kept Builtin.Null

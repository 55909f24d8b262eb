-- What the constructs of the grammar give.
--     Constructs           the constructs, over any phrases P, expressions Q and lists of expressions L
--     written              those of the language
--     negated              Neg: the expression of a phrase behind a minus sign
--     accepts              whether an infix operator takes the phrase as its left operand
use Rattle.std.specs.Prelude.{ℕ, zero, suc, ℤ, pos, negsuc, Bool, true, false, not, ◌||◌, ◌&&◌, ◌==◌, cond, List, [], ◌∷◌, ◌++◌}
use Rattle.expr_tree.specs.Tree.{Tree, integer, normal, elements, call}
use Rattle.semantics.specs.declared.builtin.Builtin.{Builtin}
use Rattle.semantics.specs.Builtin.{row_number}
use Rattle.semantics.specs.Names.{Names, make, name}
use Rattle.syntax.specs.Operators.{Operator, Prefix, Postfix, Gives, gives_of}
use Rattle.syntax.specs.Terminals.{Phrase, PhraseKind, Closed, NameToken, NumberToken, Open}

pub record Constructs (P Q L : Type 0) : Type 0 where
  pub of_leaf : Phrase → P
  pub expr_of : P → Q
  pub of_group : P → P  -- (x)
  pub no_elements : L
  pub added : L → Q → L
  pub of_list : L → P  -- {xs}
  pub of_call : Q → L → P  -- x[xs]
  pub of_part : Q → L → P  -- x[[xs]]
  pub of_join : Operator → P → P → P
  pub accepts : Operator → P → Bool
  pub of_lead : Prefix → P → P
  pub of_trail : Postfix → P → P
  pub of_end : P → P  -- x;
  pub of_tag : Builtin → P → P → P → P  -- t /: l = r, with the row that it gives

abbrev pub same_row : Builtin → Builtin → Bool
same_row a b = row_number a == row_number b

abbrev pub is_open_in : Builtin → PhraseKind → Bool
is_open_in row (Open other) = same_row other row
is_open_in row _ = false

abbrev pub is_comparison : Builtin → Bool
is_comparison Builtin.Equal = true
is_comparison Builtin.Unequal = true
is_comparison Builtin.Less = true
is_comparison Builtin.LessEqual = true
is_comparison Builtin.Greater = true
is_comparison Builtin.GreaterEqual = true
is_comparison _ = false

abbrev pub is_sameness : Builtin → Bool
is_sameness Builtin.SameQ = true
is_sameness Builtin.UnsameQ = true
is_sameness _ = false

-- two comparisons, or SameQ and UnsameQ
abbrev pub of_one_kind : Builtin → Builtin → Bool
of_one_kind a b = (is_comparison a && is_comparison b) || (is_sameness a && is_sameness b)

-- different ones of one kind do not mix
abbrev pub chains_with : Builtin → PhraseKind → Bool
chains_with row (Open other) = same_row other row || not (of_one_kind row other)
chains_with row _ = true

abbrev pub is_name_token : PhraseKind → Bool
is_name_token NameToken = true
is_name_token _ = false

abbrev pub accepts_by : Gives → PhraseKind → Bool
accepts_by Gives.Naming kind = is_name_token kind
accepts_by (Gives.Chain row) kind = chains_with row kind
accepts_by _ kind = true

abbrev pub accepts : Operator → Phrase → Bool
accepts op x = accepts_by (gives_of op) x.kind

-- -n
abbrev pub minus : ℕ → ℤ
minus zero = pos zero
minus (suc n) = negsuc n

abbrev pub minus_one : Tree
minus_one = integer (negsuc 0)

abbrev pub alone : Tree → Phrase
alone e = record { expr = e; kind = Closed }

module _ (names : Names) where
  abbrev pub of : Builtin → List Tree → Phrase
  of row es = alone (make names row es)

  -- one more element
  abbrev pub appended : Builtin → Tree → Tree → Tree
  appended row (normal h es) y = call h (elements es ++ (y ∷ []))
  appended row x y = make names row (x ∷ y ∷ [])

  -- y is appended where x is open in the row
  abbrev pub chained : Builtin → Phrase → Tree → Phrase
  chained row x y =
      record { expr = cond (is_open_in row x.kind) (appended row x.expr y) (make names row (x.expr ∷ y ∷ [])); kind = Open row }

  abbrev pub negative : Tree → Tree
  negative x = make names Builtin.Times (minus_one ∷ x ∷ [])

  -- a first integer that is not negative is negated, else -1 is put in front
  abbrev pub negated_elements : List Tree → List Tree
  negated_elements (integer (pos n) ∷ es) = integer (minus n) ∷ es
  negated_elements es = minus_one ∷ es

  abbrev pub negated_product : Tree → Tree
  negated_product (normal h es) = call h (negated_elements (elements es))
  negated_product x = negative x

  abbrev pub negated_number : Tree → Tree
  negated_number (integer (pos n)) = integer (minus n)
  negated_number x = negative x

  abbrev pub negated_by : PhraseKind → Tree → Tree
  negated_by NumberToken x = negated_number x
  negated_by kind x = cond (is_open_in Builtin.Times kind) (negated_product x) (negative x)

  abbrev pub negated : Phrase → Tree
  negated x = negated_by x.kind x.expr

  -- a negated number is no number token, and every other Neg is a product
  abbrev pub negated_kind : PhraseKind → PhraseKind
  negated_kind NumberToken = Closed
  negated_kind _ = Open Builtin.Times

  abbrev pub joined : Gives → Phrase → Phrase → Phrase
  joined (Gives.Pair row) x y = of row (x.expr ∷ y.expr ∷ [])
  joined (Gives.Chain row) x y = chained row x y.expr
  joined Gives.Quotient x y = chained Builtin.Times x (make names Builtin.Power (y.expr ∷ minus_one ∷ []))
  joined Gives.Difference x y = chained Builtin.Plus x (negated y)
  joined Gives.CallOfLeft x y = alone (call x.expr (y.expr ∷ []))
  joined Gives.CallOfRight x y = alone (call y.expr (x.expr ∷ []))
  joined Gives.Naming x y = of Builtin.Pattern (x.expr ∷ y.expr ∷ [])

  abbrev pub led : Prefix → Phrase → Phrase
  led Prefix.PreIncrement x = of Builtin.PreIncrement (x.expr ∷ [])
  led Prefix.PreDecrement x = of Builtin.PreDecrement (x.expr ∷ [])
  led Prefix.Negate x = record { expr = negated x; kind = negated_kind x.kind }
  led Prefix.Not x = of Builtin.Not (x.expr ∷ [])

  abbrev pub trailed : Postfix → Phrase → Phrase
  trailed Postfix.Increment x = of Builtin.Increment (x.expr ∷ [])
  trailed Postfix.Decrement x = of Builtin.Decrement (x.expr ∷ [])
  trailed Postfix.Function x = of Builtin.Function (x.expr ∷ [])
  trailed Postfix.Unset x = of Builtin.Unset (x.expr ∷ [])

  abbrev pub written : Constructs Phrase Tree (List Tree)
  written = record {
    of_leaf = λ x. x;
    expr_of = λ x. x.expr;
    of_group = λ x. alone x.expr;
    no_elements = [];
    added = λ es e. es ++ (e ∷ []);
    of_list = λ es. of Builtin.List es;
    of_call = λ h es. alone (call h es);
    of_part = λ e es. of Builtin.Part (e ∷ es);
    of_join = λ op x y. joined (gives_of op) x y;
    accepts = accepts;
    of_lead = led;
    of_trail = trailed;
    of_end = λ x. chained Builtin.CompoundExpression x (name names Builtin.Null);
    of_tag = λ row t l r. of row (t.expr ∷ l.expr ∷ r.expr ∷ []);
  }

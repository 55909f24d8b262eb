-- The grammar of a cell, as a relation between terminals and what they give.
--     PhraseOf             the terminals are a phrase at a level, with its value and its edge
--     WholeOf              what may stand in brackets, between commas or as a cell
--     RowOf, ElementsOf    one or more, between commas; any number
-- The room says how much deeper the nesting may still get. A terminal is nested in the brackets, prefix operators and right
-- operands that it stands in; a bracket does not stand in itself.
use Rattle.std.specs.Prelude.{◌≡◌, ℕ, suc, ◌<◌, ◌≤◌, min, true, List, [], ◌∷◌, ◌++◌, Some}
use Rattle.semantics.specs.declared.builtin.Builtin.{Builtin}
use Rattle.syntax.specs.Operators.{Operator, Prefix, Postfix, level_of, right_of, leads_at, trails_at, tags_of}
use Rattle.syntax.specs.Terminals.{Phrase, Terminal, Bracket, Opening, Start, Next, start_of, next_of}
use Rattle.syntax.specs.Phrases.{Constructs}

-- the terminal is the infix operator
pub data IsJoin : Terminal → Operator → Type 0 where
  joins : {op : Operator} (t : Terminal) → next_of t ≡ Next.Joins op → IsJoin t op
  sequence : (t : Terminal) → next_of t ≡ Next.Semicolon → IsJoin t Operator.CompoundExpression

mutual
  pub data PhraseOf (P Q L : Type 0) (A : Constructs P Q L) : ℕ → ℕ → List Terminal → P → ℕ → Type 0 where
    operand : {room level : ℕ} {x : Phrase} (t : Terminal) →
        start_of t ≡ Start.Operand x → PhraseOf P Q L A room level (t ∷ []) (A.of_leaf x) 100
    group : {room level : ℕ} {ts : List Terminal} {x : P} (t u : Terminal) →
        start_of t ≡ Start.Opens Opening.Group → WholeOf P Q L A room ts x → next_of u ≡ Next.Closes Bracket.Round →
        PhraseOf P Q L A (suc room) level (t ∷ (ts ++ u ∷ [])) (A.of_group x) 100
    braces : {room level : ℕ} {ts : List Terminal} {xs : L} (t u : Terminal) →
        start_of t ≡ Start.Opens Opening.Braces → ElementsOf P Q L A room ts xs → next_of u ≡ Next.Closes Bracket.Curly →
        PhraseOf P Q L A room level (t ∷ (ts ++ u ∷ [])) (A.of_list xs) 100
    leads : {room level edge : ℕ} {ts : List Terminal} {op : Prefix} {x : P} (t : Terminal) →
        start_of t ≡ Start.Leads op → PhraseOf P Q L A room (leads_at op) ts x edge →
        PhraseOf P Q L A (suc room) level (t ∷ ts) (A.of_lead op x) (min (leads_at op) edge)
    binary : {room level edge far : ℕ} {ls rs : List Terminal} {op : Operator} {x y : P} (t : Terminal) →
        PhraseOf P Q L A (suc room) level ls x edge →
        IsJoin t op → level ≤ level_of op → level_of op < edge → A.accepts op x ≡ true →
        PhraseOf P Q L A room (right_of op) rs y far →
        PhraseOf P Q L A (suc room) level (ls ++ t ∷ rs) (A.of_join op x y) (min (right_of op) far)
    -- a product without a sign: its right phrase begins with an operand on the same line
    beside : {room level edge far : ℕ} {ls rs : List Terminal} {x y : P} (t : Terminal) →
        PhraseOf P Q L A (suc room) level ls x edge →
        next_of t ≡ Next.Beside → level ≤ level_of Operator.Times → level_of Operator.Times < edge →
        PhraseOf P Q L A room (right_of Operator.Times) (t ∷ rs) y far →
        PhraseOf P Q L A (suc room) level (ls ++ t ∷ rs) (A.of_join Operator.Times x y) (min (right_of Operator.Times) far)
    trails : {room level edge : ℕ} {ls : List Terminal} {op : Postfix} {x : P} (t : Terminal) →
        PhraseOf P Q L A room level ls x edge →
        next_of t ≡ Next.Trails op → level ≤ trails_at op → trails_at op < edge →
        PhraseOf P Q L A room level (ls ++ t ∷ []) (A.of_trail op x) 100
    call : {room level edge : ℕ} {ls ts : List Terminal} {x : P} {xs : L} (t u : Terminal) →
        PhraseOf P Q L A room level ls x edge →
        next_of t ≡ Next.Elements → level ≤ 25 → 25 < edge →
        ElementsOf P Q L A room ts xs → next_of u ≡ Next.Closes Bracket.Square →
        PhraseOf P Q L A room level (ls ++ t ∷ (ts ++ u ∷ [])) (A.of_call (A.expr_of x) xs) 100
    -- the inner brackets of x[[xs]] stand in the outer ones
    part : {room level edge : ℕ} {ls ts : List Terminal} {x : P} {xs : L} (t t' u u' : Terminal) →
        PhraseOf P Q L A (suc room) level ls x edge →
        next_of t ≡ Next.Elements → next_of t' ≡ Next.Elements → level ≤ 25 → 25 < edge →
        ElementsOf P Q L A room ts xs → next_of u ≡ Next.Closes Bracket.Square → next_of u' ≡ Next.Closes Bracket.Square →
        PhraseOf P Q L A (suc room) level (ls ++ t ∷ t' ∷ (ts ++ u ∷ u' ∷ [])) (A.of_part (A.expr_of x) xs) 100
    -- t /: l = r, and t /: l := r
    tags : {room level edge near far : ℕ} {ls ms rs : List Terminal} {op : Operator} {row : Builtin} {x y z : P} (t u : Terminal) →
        PhraseOf P Q L A (suc room) level ls x edge →
        next_of t ≡ Next.Tags → level ≤ 3 → 3 < edge →
        PhraseOf P Q L A room 4 ms y near → next_of u ≡ Next.Joins op → tags_of op ≡ Some row →
        PhraseOf P Q L A room 3 rs z far →
        PhraseOf P Q L A (suc room) level (ls ++ t ∷ (ms ++ u ∷ rs)) (A.of_tag row x y z) (min 3 far)

  -- a phrase at level 2, behind which a semicolon may stand
  pub data WholeOf (P Q L : Type 0) (A : Constructs P Q L) : ℕ → List Terminal → P → Type 0 where
    plain : {room edge : ℕ} {ts : List Terminal} {x : P} → PhraseOf P Q L A room 2 ts x edge → WholeOf P Q L A room ts x
    ends : {room edge : ℕ} {ts : List Terminal} {x : P} (t : Terminal) →
        PhraseOf P Q L A room 2 ts x edge → next_of t ≡ Next.Semicolon → 2 < edge → WholeOf P Q L A room (ts ++ t ∷ []) (A.of_end x)

  pub data RowOf (P Q L : Type 0) (A : Constructs P Q L) : ℕ → List Terminal → L → Type 0 where
    one : {room : ℕ} {ts : List Terminal} {x : P} →
        WholeOf P Q L A room ts x → RowOf P Q L A room ts (A.added A.no_elements (A.expr_of x))
    more : {room : ℕ} {ts us : List Terminal} {xs : L} {x : P} (t : Terminal) →
        RowOf P Q L A room ts xs → next_of t ≡ Next.Comma → WholeOf P Q L A room us x →
        RowOf P Q L A room (ts ++ t ∷ us) (A.added xs (A.expr_of x))

  -- what there is between brackets stands one deeper
  pub data ElementsOf (P Q L : Type 0) (A : Constructs P Q L) : ℕ → List Terminal → L → Type 0 where
    none : {room : ℕ} → ElementsOf P Q L A room [] A.no_elements
    row : {room : ℕ} {ts : List Terminal} {xs : L} → RowOf P Q L A room ts xs → ElementsOf P Q L A (suc room) ts xs

-- the greatest nesting of a terminal
unfoldable pub nesting_limit : ℕ
nesting_limit = 1024

-- The lines so far, and the line of a cell.
use Rattle.std.proofs.Common.{◌≡◌, map, refl, sym, ap, ◌∙◌, subst, ℕ, ◌+◌, ◌<◌, ◌≤◌, Bool, true, false, List, [], ◌∷◌, ◌++◌, length, drop, get_or, append_assoc, arith}
use Rattle.std.specs.Prelude.{leb, Option, Some, None, Result, Ok, Err, IfOk, IfErr}
use Rattle.std.proofs.lemmas.Bool.{le-leb, leb-true}
use Rattle.std.proofs.lemmas.List.{append-nil}
use Rattle.expr_tree.specs.Tree.{Tree, depth}
use Rattle.script_text.specs.Bytes.{all_joined}
use Rattle.script_text.specs.Cells.{cells}
use Rattle.script_text.specs.Spelling.{Spelling, by_texts, place_in}
use Rattle.name_table.specs.Table.{NameTable}
use Rattle.semantics.specs.declared.builtin.Builtin.{Builtin}
use Rattle.semantics.specs.Names.{Names, name}
use Rattle.semantics.specs.Texts.{names_of}
use Rattle.semantics.specs.Definitions.{Definitions, empty}
use Rattle.semantics.specs.Eval.{eval}
use Rattle.builtin_names.specs.Named.{names_in}
use Rattle.lex_form.specs.declared.cut.Span.{Span}
use Rattle.lex_form.specs.Spans.{span_text}
use Rattle.syntax.specs.Lines.{out_line, syntax_line}
use Rattle.syntax.specs.Reads.{Reads, IsOffset}
use Rattle.read_form.specs.declared.ReadNo.{ReadNo}
use Rattle.read_form.specs.Answers.{IsNo}
use Rattle.sequential_transcript.specs.Unbuilt.{has_unbuilt}
use Rattle.sequential_transcript.specs.Transcript.{Ran, limits_of, alone, ran, leaves, value_in, left_by, line_of, PrintsCell, read, unread, Prints, none, next, texts_of}
use Rattle.script_run.specs.Promise.{IsTranscript, Begins}
use Rattle.script_run.proofs.LineLemmas.{names_are}
use Rattle.script_run.proofs.TextLemmas.{first_span}

-- ---- the lines so far, by the texts of a table

abbrev pub LinesOf : List (List ℕ) → ℕ → Definitions → ℕ → List (List ℕ) → List (List ℕ) → Type 0
LinesOf texts steps d n some lines = Prints (by_texts texts) (names_of texts) (place_in texts) steps d n some lines

-- the lines that the rest of the cells print, put behind these, are lines of all
pub record AreSoFar (texts all : List (List ℕ)) (steps : ℕ) (rest : List (List ℕ)) (d : Definitions) (n : ℕ) (lines : List (List ℕ)) : Type 0 where
  pub front : List (List ℕ)
  pub split : all ≡ front ++ rest
  pub goes_on : (more others : List (List ℕ)) → LinesOf texts steps d n more others → LinesOf texts steps empty 1 (front ++ more) (lines ++ others)

pub none_so_far : (texts all : List (List ℕ)) (steps : ℕ) → AreSoFar texts all steps all empty 1 []
none_so_far texts all steps = record { front = []; split = refl; goes_on = λ more others p. p }

pub one_more : (texts all : List (List ℕ)) (steps : ℕ) (cell : List ℕ) (rest : List (List ℕ)) (d later : Definitions) (n : ℕ) (lines : List (List ℕ)) (line : List ℕ)
    → AreSoFar texts all steps (cell ∷ rest) d n lines → PrintsCell (by_texts texts) (names_of texts) (place_in texts) steps d n cell line later
    → AreSoFar texts all steps rest later (n + 1) (lines ++ line ∷ [])
one_more texts all steps cell rest d later n lines line so p = record {
  front = so.front ++ cell ∷ [];
  split = so.split ∙ sym (append_assoc so.front (cell ∷ []) rest);
  goes_on = λ more others q.
      subst (λ ls. LinesOf texts steps empty 1 ((so.front ++ cell ∷ []) ++ more) ls) (sym (append_assoc lines (line ∷ []) others))
      (subst (λ ts. LinesOf texts steps empty 1 ts (lines ++ line ∷ others)) (sym (append_assoc so.front (cell ∷ []) more)) (so.goes_on (cell ∷ more) (line ∷ others) (next p q)));
}

pub so_far_begins : (texts : List (List ℕ)) (steps : ℕ) (script : List ℕ) (rest : List (List ℕ)) (d : Definitions) (n : ℕ) (lines : List (List ℕ)) → texts ≡ texts_of (cells script)
    → AreSoFar texts (cells script) steps rest d n lines → Begins steps script lines
so_far_begins texts steps script rest d n lines same so = (
  so.front,
  rest,
  so.split,
  subst (λ ts. LinesOf ts steps empty 1 so.front lines) same
      (subst (λ ls. LinesOf texts steps empty 1 so.front ls) (append-nil lines)
      (subst (λ cs. LinesOf texts steps empty 1 cs (lines ++ [])) (append-nil so.front) (so.goes_on [] [] none))),
)

pub so_far_all : (texts : List (List ℕ)) (steps : ℕ) (script : List ℕ) (d : Definitions) (n : ℕ) (lines : List (List ℕ)) → texts ≡ texts_of (cells script)
    → AreSoFar texts (cells script) steps [] d n lines → IsTranscript steps script lines
so_far_all texts steps script d n lines same so =
    subst (λ ts. LinesOf ts steps empty 1 (cells script) lines) same
    (subst (λ ls. LinesOf texts steps empty 1 (cells script) ls) (append-nil lines)
    (subst (λ cs. LinesOf texts steps empty 1 cs (lines ++ [])) (sym so.split) (so.goes_on [] [] none)))

pub joined_more : (lines : List (List ℕ)) (line : List ℕ) → all_joined (lines ++ line ∷ []) ≡ all_joined lines ++ line
joined_more [] line = append-nil line
joined_more (l ∷ lines) line = ap (λ xs. l ++ xs) (joined_more lines line) ∙ sym (append_assoc l (all_joined lines) line)

-- ---- the line of a cell

pub printed : (table : NameTable) (steps : ℕ) (d : Definitions) (n : ℕ) (cell line : List ℕ) (later : Definitions)
    → PrintsCell (by_texts table.texts) (names_in table) (place_in table.texts) steps d n cell line later
    → PrintsCell (by_texts table.texts) (names_of table.texts) (place_in table.texts) steps d n cell line later
printed table steps d n cell line later p = subst (λ names. PrintsCell (by_texts table.texts) names (place_in table.texts) steps d n cell line later) (names_are table) p

pub next_cell : (table : NameTable) (steps : ℕ) (script : List ℕ) (spans items : List Span) (at : ℕ) (s : Span) (d later : Definitions) (n : ℕ) (lines : List (List ℕ)) (cell line : List ℕ)
    → items ≡ spans → at < length spans → cell ≡ span_text script (get_or items at s)
    → AreSoFar table.texts (cells script) steps (map (span_text script) (drop at spans)) d n lines
    → PrintsCell (by_texts table.texts) (names_in table) (place_in table.texts) steps d n cell line later
    → AreSoFar table.texts (cells script) steps (map (span_text script) (drop (at + 1) spans)) later (n + 1) (lines ++ line ∷ [])
next_cell table steps script spans items at s d later n lines cell line same inside is so p =
    let first = first_span spans items at s same inside in
    let peeled = subst (λ ss. AreSoFar table.texts (cells script) steps (map (span_text script) ss) d n lines) first so in
    one_more table.texts (cells script) steps (span_text script (get_or items at s)) (map (span_text script) (drop (at + 1) spans)) d later n lines line peeled
    (subst (λ t. PrintsCell (by_texts table.texts) (names_of table.texts) (place_in table.texts) steps d n t line later) is (printed table steps d n cell line later p))

module _ (spelling : Spelling) (names : Names) (find : List ℕ → ℕ) (steps : ℕ) where
  abbrev left : Definitions → Tree → Ran
  left d e = left_by names (limits_of steps) (eval (alone spelling names steps) d e [])

  abbrev by_test : Bool → Definitions → Tree → Ran
  by_test b d e = elim b [ true ↦ leaves None d | false ↦ left d e ]

  abbrev by_depth : Bool → Definitions → Tree → Ran
  by_depth b d e = elim b [ false ↦ leaves (Some (name names Builtin.Aborted)) d | true ↦ by_test (has_unbuilt names e) d e ]

  ran_shallow : (d : Definitions) (e : Tree) → depth e ≤ 512 → ran spelling names find steps d e ≡ by_test (has_unbuilt names e) d e
  ran_shallow d e shallow = ap (λ b. by_depth b d e) (le-leb (depth e) 512 shallow)

  pub ran_unbuilt : (d : Definitions) (e : Tree) → depth e ≤ 512 → has_unbuilt names e ≡ true → ran spelling names find steps d e ≡ leaves None d
  ran_unbuilt d e shallow bad = ran_shallow d e shallow ∙ ap (λ b. by_test b d e) bad

  pub ran_evaluated : (d : Definitions) (e : Tree) → depth e ≤ 512 → has_unbuilt names e ≡ false
      → ran spelling names find steps d e ≡ leaves (value_in names (limits_of steps) (eval (alone spelling names steps) d e []).outcome) (eval (alone spelling names steps) d e []).definitions
  ran_evaluated d e shallow good = ran_shallow d e shallow ∙ ap (λ b. by_test b d e) good

  is_deep : (e : Tree) → 512 < depth e → leb (depth e) 512 ≡ false
  is_deep e deep = go (leb (depth e) 512) refl
    where
      go : (b : Bool) → leb (depth e) 512 ≡ b → b ≡ false
      go true is = absurd (omega (arith, deep, leb-true (depth e) 512 is))
      go false is = refl

  ran_deep : (d : Definitions) (e : Tree) → 512 < depth e → ran spelling names find steps d e ≡ leaves (Some (name names Builtin.Aborted)) d
  ran_deep d e deep = ap (λ b. by_depth b d e) (is_deep e deep)

  pub prints_read : (d later : Definitions) (n : ℕ) (cell line : List ℕ) (e : Tree) (r : Ran) → Reads names find cell e → ran spelling names find steps d e ≡ r
      → line ≡ line_of spelling names find steps n r.value → later ≡ r.definitions → PrintsCell spelling names find steps d n cell line later
  prints_read d later n cell line e r reads is at given =
      subst (λ o. PrintsCell spelling names find steps d n cell line o) (sym (given ∙ sym (ap (λ x. x.definitions) is)))
      (subst (λ l. PrintsCell spelling names find steps d n cell l (ran spelling names find steps d e).definitions)
      (sym (at ∙ sym (ap (λ x. line_of spelling names find steps n x.value) is))) (read e reads))

  pub prints_unread : (d : Definitions) (n : ℕ) (cell line : List ℕ) (place : ℕ) → IsOffset names find cell place → line ≡ syntax_line n place
      → PrintsCell spelling names find steps d n cell line d
  prints_unread d n cell line place p at = subst (λ l. PrintsCell spelling names find steps d n cell l d) (sym at) (unread place p)

  -- ---- what a line that may want memory says of the cell

  pub read_line : {E : Type 0} (r : Result (List ℕ) E) (d later : Definitions) (n : ℕ) (cell : List ℕ) (e : Tree) (v : Option Tree) → Reads names find cell e
      → v ≡ (ran spelling names find steps d e).value → later ≡ (ran spelling names find steps d e).definitions
      → IfOk r (λ t. t ≡ line_of spelling names find steps n v) → IfOk r (λ line. PrintsCell spelling names find steps d n cell line later)
  read_line (Ok t) d later n cell e v reads is given at =
      prints_read d later n cell t e (ran spelling names find steps d e) reads refl (at ∙ ap (line_of spelling names find steps n) is) given
  read_line (Err x) d later n cell e v reads is given at = tt

  pub deep_line : {E : Type 0} (r : Result (List ℕ) E) (d : Definitions) (n : ℕ) (cell : List ℕ) (v : Tree) → ((e : Tree) × Reads names find cell e × (512 < depth e))
      → v ≡ name names Builtin.Aborted → IfOk r (λ t. t ≡ out_line spelling names n v) → IfOk r (λ line. PrintsCell spelling names find steps d n cell line d)
  deep_line (Ok t) d n cell v deep is at =
      prints_read d d n cell t deep.0 (leaves (Some (name names Builtin.Aborted)) d) deep.1 (ran_deep d deep.0 deep.2) (at ∙ ap (out_line spelling names n) is) refl
  deep_line (Err x) d n cell v deep is at = tt

  pub unread_line : {E : Type 0} (r : Result (List ℕ) E) (d : Definitions) (n : ℕ) (cell : List ℕ) (place : ℕ) → IsOffset names find cell place
      → IfOk r (λ t. t ≡ syntax_line n place) → IfOk r (λ line. PrintsCell spelling names find steps d n cell line d)
  unread_line (Ok t) d n cell place p at = prints_unread d n cell t place p at
  unread_line (Err x) d n cell place p at = tt

pub ruleset value_steps = (ran_evaluated, ran_unbuilt)

-- why a cell was not read
pub no_is : (table : NameTable) (cell : List ℕ) (r : Result Tree ReadNo) (f why : ReadNo) → IfErr r (λ x. IsNo table cell x) → r ≡ Err f → f ≡ why → IsNo table cell why
no_is table cell r f why is at same = subst (λ x. IsNo table cell x) same (subst (λ q. IfErr q (λ x. IsNo table cell x)) at is)

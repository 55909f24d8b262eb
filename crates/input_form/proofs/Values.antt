-- What is shown of a value, by what its head asks for.
use Rattle.std.proofs.Common.{◌≡◌, ◌≢◌, refl, ap, subst, ◌∙◌, Bool, true, false, ℕ, List, [], ◌∷◌, length, get_or}
use Rattle.std.specs.Prelude.{Option, Some, None, codes}
use Rattle.expr_tree.specs.declared.sym.Sym.{Sym}
use Rattle.expr_tree.specs.Tree.{Tree, Trees, symbol, normal, nil, cons, trees}
use Rattle.script_text.specs.Full.{full}
use Rattle.script_text.specs.Spelling.{by_texts}
use Rattle.semantics.specs.declared.builtin.Builtin.{Builtin}
use Rattle.semantics.specs.Builtin.{rows}
use Rattle.semantics.specs.Names.{role_of}
use Rattle.semantics.specs.Texts.{names_of, row_with}
use Rattle.syntax.specs.Input.{input}
use Rattle.syntax.specs.Lines.{value_text, value_in}
use Rattle.syntax.specs.Shapes.{shape_in}
use Rattle.input_form.specs.declared.value.Asked.{Asked}
use Rattle.input_form.specs.declared.value.Asked.TheVariants as ask
use Rattle.input_form.specs.Rows.{asked, asked_by, named_asked, value_as}
use Rattle.input_form.proofs.Items.{only_one}
use Rattle.input_form.proofs.Unlisted.{Passes, unlisted, none}

module _ (texts : List (List ℕ)) where
  abbrev input_of : Tree → List ℕ
  input_of e = input (by_texts texts) (shape_in (names_of texts)) e

  by_role : (r : Option Builtin) (v : Tree) (es : Trees) → value_in (by_texts texts) (names_of texts) r v es ≡ value_as texts (asked_by r) v es
  by_role None v es = refl
  by_role (Some Builtin.FullForm) v nil = refl
  by_role (Some Builtin.FullForm) v (cons e nil) = refl
  by_role (Some Builtin.FullForm) v (cons e (cons d es)) = refl
  by_role (Some Builtin.InputForm) v nil = refl
  by_role (Some Builtin.InputForm) v (cons e nil) = refl
  by_role (Some Builtin.InputForm) v (cons e (cons d es)) = refl
  by_role (Some r) v es = refl

  called_as : (s : Sym) (es : Trees) → value_text (by_texts texts) (names_of texts) (normal (symbol s) es) ≡ value_as texts (asked texts s) (normal (symbol s) es) es
  unfolding asked
  called_as s es = by_role (role_of (names_of texts) s) (normal (symbol s) es) es

  pub called : (v h : Tree) (s : Sym) (es : Trees) → normal h es ≡ v → symbol s ≡ h
      → value_text (by_texts texts) (names_of texts) v ≡ value_as texts (asked texts s) v es
  called v h s es is head =
      subst (λ w. value_text (by_texts texts) (names_of texts) w ≡ value_as texts (asked texts s) w es) (ap (λ g. normal g es) head ∙ is) (called_as s es)

  pub full_one : (k : Asked) (v : Tree) (ts : List Tree) (e : Tree) → k ≡ ask.FullForm → length ts ≡ 1 → e ≡ get_or ts 0 e
      → value_as texts k v (trees ts) ≡ full (by_texts texts) e
  full_one k v ts e asks one is = rw (asks, only_one ts e one is) refl

  pub input_one : (k : Asked) (v : Tree) (ts : List Tree) (e : Tree) → k ≡ ask.InputForm → length ts ≡ 1 → e ≡ get_or ts 0 e
      → value_as texts k v (trees ts) ≡ input_of e
  input_one k v ts e asks one is = rw (asks, only_one ts e one is) refl

  pub neither_any : (k : Asked) (v : Tree) (ts : List Tree) → k ≡ ask.Neither → value_as texts k v (trees ts) ≡ input_of v
  neither_any k v ts asks = rw asks refl

  pub not_one : (k : Asked) (v : Tree) (ts : List Tree) → length ts ≢ 1 → value_as texts k v (trees ts) ≡ input_of v
  not_one ask.FullForm v [] h = refl
  not_one ask.FullForm v (t ∷ []) h = absurd (h refl)
  not_one ask.FullForm v (t ∷ u ∷ ts) h = refl
  not_one ask.InputForm v [] h = refl
  not_one ask.InputForm v (t ∷ []) h = absurd (h refl)
  not_one ask.InputForm v (t ∷ u ∷ ts) h = refl
  not_one ask.Neither v ts h = refl

pub ruleset value_steps = (full_one, input_one, neither_any, not_one)

-- ---- by name

pub asks_full : named_asked (codes "FullForm") ≡ ask.FullForm
unfolding named_asked
asks_full = refl

pub asks_input : named_asked (codes "InputForm") ≡ ask.InputForm
unfolding named_asked
asks_input = refl

abbrev is_neither : Asked → Bool
is_neither ask.Neither = true
is_neither _ = false

neither : (k : Asked) → is_neither k ≡ true → k ≡ ask.Neither
neither ask.Neither e = refl
neither _ e = cc

pub asks_neither : (t : List ℕ) → t ≢ codes "FullForm" → t ≢ codes "InputForm" → named_asked t ≡ ask.Neither
unfolding named_asked
asks_neither t p q = go (row_with rows t) (unlisted test listed rows t (none t listed (p, (q, tt))) refl)
  where
    listed : List (List ℕ)
    listed = codes "FullForm" ∷ codes "InputForm" ∷ []

    test : Builtin → Bool
    test r = is_neither (asked_by (Some r))

    go : (o : Option Builtin) → Passes test o → asked_by o ≡ ask.Neither
    go None p = refl
    go (Some r) p = neither (asked_by (Some r)) p

pub ruleset name_steps = (asks_full, asks_input, asks_neither)

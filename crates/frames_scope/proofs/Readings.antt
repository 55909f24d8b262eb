-- Reading the locals of a form.
use Rattle.std.proofs.Common.{◌≡◌, ◌≢◌, ℕ, ◌+◌, ◌<◌, List, [], ◌∷◌, ◌++◌, Bool, true, false, Option, Some, None, length, get_or, drop, refl, ap, sym, ◌∙◌, append_assoc, drop-cons, add-one, suc, arith}
use Rattle.expr_tree.specs.declared.sym.Sym.{Sym}
use Rattle.expr_tree.specs.Tree.{Tree, symbol, integer, string, normal}
use Rattle.expr_tree.proofs.Callers.{tree_steps}
use Rattle.semantics.specs.declared.builtin.Builtin.{Builtin}
use Rattle.semantics.specs.Names.{Names, is_call, items_of}
use Rattle.semantics.specs.Program as p
use Rattle.semantics.specs.Program.{Prog}
use Rattle.semantics.specs.Scoping.{with_locals, local_of, locals_of, valued_local, symbols_of}
use Rattle.frames_scope.specs.declared.locals.Local.{Local}
use Rattle.frames_scope.specs.Reading.{local_in, locals_in, local_read, locals_read, locals_under, IsRead}

-- ---- one local

pub valued_pair : (items : List Tree) (x y : Tree) → length items ≡ 2 → x ≡ get_or items 0 x → y ≡ get_or items 1 y → valued_local items ≡ valued_local (x ∷ y ∷ [])
valued_pair [] x y long a b = absurd (omega arith)
valued_pair (e ∷ []) x y long a b = absurd (omega arith)
valued_pair (e ∷ f ∷ []) x y long a b = ap (λ x. valued_local (x ∷ f ∷ [])) (sym a) ∙ ap (λ y. valued_local (x ∷ y ∷ [])) (sym b)
valued_pair (e ∷ f ∷ g ∷ es) x y long a b = absurd (omega arith)

pub valued_no_pair : (items : List Tree) → length items ≢ 2 → valued_local items ≡ None
valued_no_pair [] other = refl
valued_no_pair (e ∷ []) other = alone e
  where
    alone : (e : Tree) → valued_local (e ∷ []) ≡ None
    alone (integer n) = refl
    alone (string s) = refl
    alone (symbol s) = refl
    alone (normal h es) = refl
valued_no_pair (e ∷ f ∷ []) other = absurd (other refl)
valued_no_pair (e ∷ f ∷ g ∷ es) other = several e
  where
    several : (e : Tree) → valued_local (e ∷ f ∷ g ∷ es) ≡ None
    several (integer n) = refl
    several (string s) = refl
    several (symbol s) = refl
    several (normal h es) = refl

pub ruleset local_steps = (tree_steps, valued_pair, valued_no_pair)

-- ---- locals in order

abbrev pub joined : List p.Local → Option (List p.Local) → Option (List p.Local)
joined done None = None
joined done (Some ls) = Some (done ++ ls)

locals_in-push : (ls : List Local) (l : Local) → locals_in (ls ++ l ∷ []) ≡ locals_in ls ++ local_in l ∷ []
locals_in-push [] l = refl
locals_in-push (m ∷ ls) l = ap (λ ms. local_in m ∷ ms) (locals_in-push ls l)

next_item : (items : List Tree) (i : ℕ) (e : Tree) → i < length items → e ≡ get_or items i e → drop i items ≡ e ∷ drop (i + 1) items
next_item items i e p is = rw (drop-cons items i e p, add-one) (ap (λ u. u ∷ drop (suc i) items) (sym is))

pub joined_none : (ls : Option (List p.Local)) → joined [] ls ≡ ls
joined_none None = refl
joined_none (Some ls) = refl

pub locals_more : (names : Names) (items : List Tree) (i : ℕ) (e : Tree) (done : List Local) (l : Local) → i < length items → e ≡ get_or items i e → local_read (Some l) ≡ local_of names e
    → joined (locals_in done) (locals_of names (drop i items)) ≡ joined (locals_in (done ++ l ∷ [])) (locals_of names (drop (i + 1) items))
locals_more names items i e done l inside is read =
    ap (λ es. joined (locals_in done) (locals_of names es)) (next_item items i e inside is)
    ∙ step (locals_of names (drop (i + 1) items))
  where
    step : (o : Option (List p.Local)) → joined (locals_in done) (elim (local_of names e) [ None ↦ None | Some m ↦ elim o [ None ↦ None | Some ls ↦ Some (m ∷ ls) ] ]) ≡ joined (locals_in (done ++ l ∷ [])) o
    step None = ap (λ r. joined (locals_in done) (elim r as (λ _. Option (List p.Local)) [ None ↦ None | Some m ↦ None ])) (sym read)
    step (Some ls) =
        ap (λ r. joined (locals_in done) (elim r as (λ _. Option (List p.Local)) [ None ↦ None | Some m ↦ Some (m ∷ ls) ])) (sym read)
        ∙ ap Some (sym (append_assoc (locals_in done) (local_in l ∷ []) ls) ∙ ap (λ ms. ms ++ ls) (sym (locals_in-push done l)))

pub locals_stop : (names : Names) (items : List Tree) (i : ℕ) (e : Tree) (done : List Local) → i < length items → e ≡ get_or items i e → local_read None ≡ local_of names e
    → joined (locals_in done) (locals_of names (drop i items)) ≡ None
locals_stop names items i e done inside is read =
    ap (λ es. joined (locals_in done) (locals_of names es)) (next_item items i e inside is)
    ∙ ap (λ r. joined (locals_in done) (elim r as (λ _. Option (List p.Local)) [ None ↦ None | Some m ↦ elim (locals_of names (drop (i + 1) items)) [ None ↦ None | Some ls ↦ Some (m ∷ ls) ] ])) (sym read)

pub ruleset locals_steps = (joined_none, locals_more, locals_stop)

-- ---- the form

pub read_other : (names : Names) (allowed : List Sym → Bool) (items : List Tree) → length items ≢ 2 → IsRead names allowed items None
read_other names allowed [] other = record { by = λ k stay. refl }
read_other names allowed (e ∷ []) other = record { by = λ k stay. refl }
read_other names allowed (e ∷ f ∷ []) other = absurd (other refl)
read_other names allowed (e ∷ f ∷ g ∷ es) other = record { by = λ k stay. refl }

with_under : (names : Names) (allowed : List Sym → Bool) (k : List p.Local → Tree → Prog) (stay : Prog) (x y : Tree)
    → with_locals names allowed k stay (x ∷ y ∷ []) ≡ elim (locals_under names x) [ None ↦ stay | Some ls ↦ elim (allowed (symbols_of ls)) [ true ↦ k ls y | false ↦ stay ] ]
with_under names allowed k stay x y = go (is_call names Builtin.List x)
  where
    go : (b : Bool) → elim b as (λ _. Prog) [
      | true ↦ elim (locals_of names (items_of x)) [ None ↦ stay | Some ls ↦ elim (allowed (symbols_of ls)) [ true ↦ k ls y | false ↦ stay ] ]
      | false ↦ stay
    ] ≡ elim (elim b as (λ _. Option (List p.Local)) [ true ↦ locals_of names (items_of x) | false ↦ None ]) [ None ↦ stay | Some ls ↦ elim (allowed (symbols_of ls)) [ true ↦ k ls y | false ↦ stay ] ]
    go true = refl
    go false = refl

pair_is : (items : List Tree) (x y : Tree) → length items ≡ 2 → x ≡ get_or items 0 x → y ≡ get_or items 1 y → items ≡ x ∷ y ∷ []
pair_is [] x y long a b = absurd (omega arith)
pair_is (e ∷ []) x y long a b = absurd (omega arith)
pair_is (e ∷ f ∷ []) x y long a b = cc
pair_is (e ∷ f ∷ g ∷ es) x y long a b = absurd (omega arith)

pub read_nothing : (names : Names) (allowed : List Sym → Bool) (items : List Tree) (x y : Tree) → length items ≡ 2 → x ≡ get_or items 0 x → y ≡ get_or items 1 y
    → locals_read None ≡ locals_under names x → IsRead names allowed items None
read_nothing names allowed items x y long a b none' = record {
  by = λ k stay.
      ap (with_locals names allowed k stay) (pair_is items x y long a b) ∙ with_under names allowed k stay x y
      ∙ ap (λ o. elim o as (λ _. Prog) [ None ↦ stay | Some ls ↦ elim (allowed (symbols_of ls)) [ true ↦ k ls y | false ↦ stay ] ]) (sym none');
}

pub read_refused : (names : Names) (allowed : List Sym → Bool) (items : List Tree) (x y : Tree) (ls : List Local) → length items ≡ 2 → x ≡ get_or items 0 x → y ≡ get_or items 1 y
    → locals_read (Some ls) ≡ locals_under names x → allowed (symbols_of (locals_in ls)) ≡ false → IsRead names allowed items None
read_refused names allowed items x y ls long a b some refused = record {
  by = λ k stay.
      ap (with_locals names allowed k stay) (pair_is items x y long a b) ∙ with_under names allowed k stay x y
      ∙ ap (λ o. elim o as (λ _. Prog) [ None ↦ stay | Some ls ↦ elim (allowed (symbols_of ls)) [ true ↦ k ls y | false ↦ stay ] ]) (sym some)
      ∙ ap (λ c. elim c as (λ _. Prog) [ true ↦ k (locals_in ls) y | false ↦ stay ]) refused;
}

pub read_scope : (names : Names) (allowed : List Sym → Bool) (items : List Tree) (x y : Tree) (ls : List Local) → length items ≡ 2 → x ≡ get_or items 0 x → y ≡ get_or items 1 y
    → locals_read (Some ls) ≡ locals_under names x → allowed (symbols_of (locals_in ls)) ≡ true → IsRead names allowed items (Some (record { locals = ls; body = y }))
read_scope names allowed items x y ls long a b some granted = record {
  by = λ k stay.
      ap (with_locals names allowed k stay) (pair_is items x y long a b) ∙ with_under names allowed k stay x y
      ∙ ap (λ o. elim o as (λ _. Prog) [ None ↦ stay | Some ls ↦ elim (allowed (symbols_of ls)) [ true ↦ k ls y | false ↦ stay ] ]) (sym some)
      ∙ ap (λ c. elim c as (λ _. Prog) [ true ↦ k (locals_in ls) y | false ↦ stay ]) granted;
}

pub ruleset read_steps = (read_other, read_nothing, read_refused, read_scope)

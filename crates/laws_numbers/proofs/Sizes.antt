-- Sizes of what the steps of a pass leave of the elements of an expression: each is below the size of the whole where those of the elements are.
use Rattle.std.proofs.Common.{◌≡◌, refl, ap, ℕ, ◌≤◌, ◌<◌, arith, Bool, true, false, cond, List, [], ◌∷◌, Option, Some, None}
use Rattle.std.specs.Prelude.{◌||◌}
use Rattle.std.specs.Ordering.{is_le}
use Rattle.expr_tree.specs.declared.sym.Sym.{Sym}
use Rattle.expr_tree.specs.Tree.{Tree, integer, string, symbol, normal, Trees, nil, cons, elements, trees, size, sizes}
use Rattle.expr_tree.specs.Order.{tree_cmp, same_symbol}
use Rattle.expr_tree.specs.Substitution.{Binding, value_of, bound_in, without, among, value_or_symbol, put_in_items}
use Rattle.semantics.specs.declared.builtin.Builtin.{Builtin}
use Rattle.semantics.specs.Names.{Names, known, is_call, items_of}
use Rattle.semantics.specs.Steps.{splice, unwrapped, strip, is_call_of, flatten_item, flatten_items, put_in, ordered}
use Rattle.semantics.specs.Definitions.{Attributes, has}
use Rattle.semantics.specs.Assemble.{spliced, flattened, sorted}
use Rattle.semantics.specs.InPlace.{binders, put_in_place}
use Rattle.semantics.specs.Program.{Local}
use Rattle.semantics.specs.Scoping.{renamed, renaming}
use Rattle.laws_closure.proofs.Inside.{both, either, Each, Opt, perhaps, appended}

pub size-positive : (e : Tree) → 1 ≤ size e
size-positive (integer n) = omega arith
size-positive (string t) = omega arith
size-positive (symbol s) = omega arith
size-positive (normal h es) = omega (arith, size-positive h)

module _ (N : ℕ) where
  abbrev pub Below : Tree → Type 0
  Below e = size e < N

  abbrev pub AllBelow : List Tree → Type 0
  AllBelow = Each Below

  -- elements and their sum
  pub elements_below : (es : Trees) → sizes es < N → AllBelow (elements es)
  elements_below nil less = tt
  elements_below (cons e es) less = (omega (arith, less), elements_below es (omega (arith, less)))

  items_below : (e : Tree) → Below e → AllBelow (items_of e)
  items_below (integer n) less = tt
  items_below (string t) less = tt
  items_below (symbol s) less = tt
  items_below (normal h es) less = elements_below es (omega (arith, less))

  splice_below : (names : Names) (es : List Tree) → AllBelow es → AllBelow (splice names es)
  splice_below names [] all = tt
  splice_below names (e ∷ es) all = appended Below (cond (is_call names Builtin.Sequence e) (items_of e) (e ∷ [])) (splice names es) (go (is_call names Builtin.Sequence e)) (splice_below names es all.1)
    where
      go : (b : Bool) → AllBelow (cond b (items_of e) (e ∷ []))
      go true = items_below e all.0
      go false = (all.0, tt)

  unwrapped_below : (names : Names) (e : Tree) → Below e → Opt Below (unwrapped names e)
  unwrapped_below names (normal h (cons e nil)) less = both (Opt Below) (is_call names Builtin.Unevaluated (normal h nil)) (omega (arith, less)) tt
  unwrapped_below names _ less = tt

  strip_below : (names : Names) (es : List Tree) → AllBelow es → AllBelow (strip names es)
  strip_below names [] all = tt
  strip_below names (e ∷ es) all = perhaps Below AllBelow (unwrapped names e) (unwrapped_below names e all.0) (all.0, strip_below names es all.1) (λ x less. (less, strip_below names es all.1))

  mutual
    flatten_item_below : (s : Sym) (e : Tree) → Below e → AllBelow (flatten_item s e)
    flatten_item_below s (integer n) less = (less, tt)
    flatten_item_below s (string t) less = (less, tt)
    flatten_item_below s (symbol t) less = (less, tt)
    flatten_item_below s (normal h es) less = both AllBelow (is_call_of s (normal h nil)) (flatten_items_below s es (omega (arith, less))) (less, tt)

    flatten_items_below : (s : Sym) (es : Trees) → sizes es < N → AllBelow (flatten_items s es)
    flatten_items_below s nil less = tt
    flatten_items_below s (cons e es) less =
        appended Below (flatten_item s e) (flatten_items s es) (flatten_item_below s e (omega (arith, less))) (flatten_items_below s es (omega (arith, less)))

  flatten_list_below : (s : Sym) (es : List Tree) → AllBelow es → AllBelow (flatten_items s (trees es))
  flatten_list_below s [] all = tt
  flatten_list_below s (e ∷ es) all = appended Below (flatten_item s e) (flatten_items s (trees es)) (flatten_item_below s e all.0) (flatten_list_below s es all.1)

  put_in_below : (e : Tree) (es : List Tree) → Below e → AllBelow es → AllBelow (put_in e es)
  put_in_below e [] one all = (one, tt)
  put_in_below e (f ∷ fs) one all = go (is_le (tree_cmp e f)) (put_in_below e fs one all.1)
    where
      go : (b : Bool) → AllBelow (put_in e fs) → AllBelow (cond b (e ∷ f ∷ fs) (f ∷ put_in e fs))
      go true rest = (one, all)
      go false rest = (all.0, rest)

  ordered_below : (es : List Tree) → AllBelow es → AllBelow (ordered es)
  ordered_below [] all = tt
  ordered_below (e ∷ es) all = put_in_below e (ordered es) all.0 (ordered_below es all.1)

  pub spliced_below : (names : Names) (a : Attributes) (es : List Tree) → AllBelow es → AllBelow (spliced names a es)
  spliced_below names a es all = both AllBelow (has Builtin.SequenceHold a || has Builtin.HoldAllComplete a) all (splice_below names es all)

  pub stripped_below : (names : Names) (b : Bool) (es : List Tree) → AllBelow es → AllBelow (elim b [ true ↦ es | false ↦ strip names es ])
  stripped_below names b es all = both AllBelow b all (strip_below names es all)

  pub flattened_below : (h : Tree) (a : Attributes) (es : List Tree) → AllBelow es → AllBelow (flattened h a es)
  flattened_below (symbol s) a es all = both AllBelow (has Builtin.Flat a) (flatten_list_below s es all) all
  flattened_below _ a es all = all

  pub sorted_below : (a : Attributes) (es : List Tree) → AllBelow es → AllBelow (sorted a es)
  sorted_below a es all = both AllBelow (has Builtin.Orderless a) (ordered_below es all) all

-- ---- renaming keeps the size

pub record Renames (c : Sym × List Tree) : Type 0 where
  pub new : Sym
  pub run : c.1 ≡ symbol new ∷ []

pub renaming_renames : (m : ℕ) (ls : List Local) → Each Renames (renaming m ls)
renaming_renames m [] = tt
renaming_renames m (l ∷ ls) = (record { new = renamed m l.symbol; run = refl }, renaming_renames m ls)

abbrev pub IsSymbol : List Tree → Type 0
IsSymbol run = Renames (record { base = 0; number = 0 }, run)

value_renames : (b : Binding) (s : Sym) → Each Renames b → Opt IsSymbol (value_of b s)
value_renames [] s all = tt
value_renames (c ∷ b) s all = either (Opt IsSymbol) (same_symbol c.0 s) (record { new = all.0.new; run = all.0.run }) (value_renames b s all.1)

without_renames : (ss : List Sym) (b : Binding) → Each Renames b → Each Renames (without ss b)
without_renames ss [] all = tt
without_renames ss (c ∷ b) all = either (Each Renames) (among c.0 ss) (without_renames ss b all.1) (all.0, without_renames ss b all.1)

module _ (names : Names) where
  symbol_size : (s : Sym) (o : Option (List Tree)) → Opt IsSymbol o → size (value_or_symbol (known names Builtin.Sequence) s o) ≡ 1
  symbol_size s None one = refl
  symbol_size s (Some run) one = ap (λ r. size (value_or_symbol (known names Builtin.Sequence) s (Some r))) one.run

  mutual
    pub renamed_size : (b : Binding) (e : Tree) → Each Renames b → size (put_in_place names b e) ≡ size e
    renamed_size b (integer n) all = refl
    renamed_size b (string t) all = refl
    renamed_size b (symbol s) all = symbol_size s (value_of b s) (value_renames b s all)
    renamed_size b (normal h es) all =
        rw (
          renamed_size (without (bound_in (binders names) h (elements es)) b) h (without_renames (bound_in (binders names) h (elements es)) b all),
          renamed_sizes (without (bound_in (binders names) h (elements es)) b) es (without_renames (bound_in (binders names) h (elements es)) b all),
        ) refl

    renamed_sizes : (b : Binding) (es : Trees) → Each Renames b → sizes (put_in_items (binders names) b es) ≡ sizes es
    renamed_sizes b nil all = refl
    renamed_sizes b (cons e es) all = rw (renamed_size b e all, renamed_sizes b es all) refl

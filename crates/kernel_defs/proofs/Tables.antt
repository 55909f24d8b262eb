-- One chain of a table changes.
use Rattle.std.proofs.Common.{◌≡◌, ℕ, ◌+◌, ◌<◌, refl, sym, ap, subst, ◌∙◌, arith, List, [], ◌∷◌, ◌++◌, length, get_or, map, Option, Some, None}
use Rattle.std.proofs.lemmas.List.{get_or-map, map-set, map-append, length-map}
use Rattle.std.specs.Prelude.{slice_set, IfSome, OnErr, OnOk, Result, Ok, Err}
use Rattle.std.specs.Option.{option_map}
use Rattle.expr_tree.specs.declared.sym.Sym.{Sym}
use Rattle.semantics.specs.Definitions.{Definition, look_up, drop_entry, add_entry}
use Rattle.kernel_defs.specs.declared.chain.Chain.{Chain}
use Rattle.kernel_defs.specs.declared.chain.Chain.TheVariants.{End}
use Rattle.kernel_defs.specs.Chains.{listed, without_first}
use Rattle.kernel_defs.specs.Table.{slot, entries_in, IsTable, AreEmpty}
use Rattle.kernel_defs.proofs.Entries.{Entries}
use Rattle.kernel_defs.proofs.Adding.{once, chain_at, chain_with, chain_without, table_with, added_in, found_in, back_in, without_in, empty_more}

-- x is the chain of s
pub record Stands (chains : List Chain) (at : ℕ) (x : Chain) (s : Sym) : Type 0 where
  pub table : IsTable 0 (map listed chains)
  pub width : length chains ≡ 4096
  pub slot_is : at ≡ slot s
  pub within : at < 4096
  pub there : x ≡ get_or chains at x

module _ (chains : List Chain) (at : ℕ) (x : Chain) (s : Sym) (h : Stands chains at x s) where
  abbrev cs : List Entries
  cs = map listed chains

  inside : at < length chains
  inside = omega (arith, h.within, h.width)

  inside_map : at < length cs
  inside_map = subst (λ n. at < n) (sym (length-map chains listed)) inside

  got : get_or cs at [] ≡ listed x
  got = get_or-map listed chains at x [] inside ∙ ap listed (sym h.there)

  pub found_there : look_up (listed x) s ≡ look_up (entries_in (map listed chains)) s
  found_there = ap (λ c. look_up c s) (sym got) ∙ sym (found_in cs at s h.table (sym h.slot_is) inside_map)

  module _ (y : Chain) (less : listed y ≡ without_first (listed x) s) where
    dropped : listed y ≡ drop_entry (get_or cs at []) s
    dropped =
        less
        ∙ ap (λ c. without_first c s) (sym got)
        ∙ once (0 + at) (get_or cs at []) s (chain_at 0 cs at [] h.table inside_map)

    set_is : map listed (slice_set chains at y) ≡ slice_set cs at (drop_entry (get_or cs at []) s)
    set_is = map-set listed chains at y ∙ ap (slice_set cs at) dropped

    pub table_without : IsTable 0 (map listed (slice_set chains at y))
    table_without =
        subst (IsTable 0) (sym set_is)
        (table_with 0 cs at (drop_entry (get_or cs at []) s) h.table (chain_without (0 + at) (get_or cs at []) s (chain_at 0 cs at [] h.table inside_map)))

    pub entries_without : entries_in (map listed (slice_set chains at y)) ≡ drop_entry (entries_in (map listed chains)) s
    entries_without = ap entries_in set_is ∙ without_in cs at s h.table (sym h.slot_is) inside_map

    pub entries_back : (d : Definition) → look_up (listed x) s ≡ Some d → entries_in (map listed chains) ≡ add_entry (entries_in (map listed (slice_set chains at y))) s d
    entries_back d p =
        back_in cs at s d h.table (sym h.slot_is) inside_map (ap (λ c. look_up c s) got ∙ p)
        ∙ ap (λ c. add_entry (entries_in c) s d) (sym set_is)

  module _ (y : Chain) (d : Definition) (more : listed y ≡ (s, d) ∷ listed x) (absent : look_up (entries_in (map listed chains)) s ≡ None) where
    pushed : map listed (slice_set chains at y) ≡ slice_set cs at ((s, d) ∷ get_or cs at [])
    pushed = map-set listed chains at y ∙ ap (slice_set cs at) (more ∙ ap (λ c. (s, d) ∷ c) (sym got))

    pub table_with_more : IsTable 0 (map listed (slice_set chains at y))
    table_with_more =
        subst (IsTable 0) (sym pushed)
        (
        table_with 0 cs at ((s, d) ∷ get_or cs at []) h.table
        (chain_with (0 + at) (get_or cs at []) s d (chain_at 0 cs at [] h.table inside_map) (omega (arith, h.slot_is)) (ap (λ c. look_up c s) got ∙ found_there ∙ absent))
        )

    pub entries_with_more : entries_in (map listed (slice_set chains at y)) ≡ add_entry (entries_in (map listed chains)) s d
    entries_with_more = ap entries_in pushed ∙ added_in 0 cs at [] s d h.table (omega (arith, h.slot_is)) inside_map

pub grown : (xs ys : List Chain) → ys ≡ xs ++ End ∷ [] → AreEmpty (map listed xs) → AreEmpty (map listed ys)
grown xs ys p q = subst AreEmpty (sym (ap (map listed) p ∙ map-append listed xs (End ∷ []))) (empty_more (map listed xs) q)

pub if_some : {B D : Type 0} (r : Option B) (f : B → D) (P : D → Type 0) → ((d : D) → option_map f r ≡ Some d → P d) → IfSome r (λ e. P (f e))
if_some None f P h = tt
if_some (Some e) f P h = h (f e) refl

pub on_err : {A E P : Type 0} (r : Result A E) → P → OnErr r P
on_err (Ok x) p = tt
on_err (Err e) p = p

pub on_ok_map : {A E P Q : Type 0} (r : Result A E) → (P → Q) → OnOk r P → OnOk r Q
on_ok_map (Ok x) f p = f p
on_ok_map (Err e) f p = tt

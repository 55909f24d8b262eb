-- What is computed of an application is its value where it is quiet, and nothing elsewhere.
use Rattle.std.proofs.Common.{◌≡◌, refl, sym, ap, ◌∙◌, ℕ, zero, suc, Bool, true, false, List, [], ◌∷◌, Option, Some, None, true≢false, eqb-true, eq-eqb}
use Rattle.std.specs.Prelude.{◌&&◌, not, ◌==◌, ◌≤◌, leb}
use Rattle.std.proofs.lemmas.Bool.{leb-true, le-leb}
use Rattle.expr_tree.specs.declared.sym.Sym.{Sym}
use Rattle.expr_tree.specs.Tree.{Tree, size, depth}
use Rattle.expr_tree.specs.Order.{same, same_symbol}
use Rattle.expr_tree.proofs.Same.{tree_eq-refl}
use Rattle.semantics.specs.declared.builtin.Builtin.{Builtin}
use Rattle.semantics.specs.Builtin.{row_number, rows}
use Rattle.semantics.specs.Rule.{Rule}
use Rattle.semantics.specs.Definitions.{Attributes, Definition, Definitions, Share, Shared, same_attributes}
use Rattle.semantics.specs.Play.{End}
use Rattle.semantics.specs.Eval.{Outcome, Evaluation, same_symbols}
use Rattle.semantics.specs.Sections.{same_share}
use Rattle.journal.specs.Places.{when}
use Rattle.journal.specs.Closure.{symbols_of}
use Rattle.journal.specs.Quiet.{bare, by_itself, IsQuiet, outcome_value, same_own, same_rules, same_definition, same_entries, same_shared, same_definitions, within_limits, is_calm, quiet_value, most_names, all_before, as_before, IsQuietNamed, may_name, if_plain, quiet_named_value}
use Rattle.laws_journal.specs.Laws.{QuietComputed, QuietNamedComputed}
use Rattle.laws_journal.proofs.Tables.{both, is_not, none≢some, some_is, when_some, same_symbol-eq, same_symbol-self}
use Rattle.laws_journal.proofs.Equal.{same-eq, same_symbols-eq}

together : (a b : Bool) → a ≡ true → b ≡ true → (a && b) ≡ true
together true b e f = f
together false b e f = absurd (true≢false (sym e))

-- ---- attributes

row_at : List Builtin → ℕ → Option Builtin
row_at [] n = None
row_at (r ∷ rs) zero = Some r
row_at (r ∷ rs) (suc n) = row_at rs n

by_number : (a : Builtin) → row_at rows (row_number a) ≡ Some a
unfolding row_at
by_number Builtin.Plus = refl
by_number _ = refl

same_attributes-eq : (as' bs : Attributes) → same_attributes as' bs ≡ true → as' ≡ bs
same_attributes-eq [] [] e = refl
same_attributes-eq [] (b ∷ bs) e = absurd (true≢false (sym e))
same_attributes-eq (a ∷ as') [] e = absurd (true≢false (sym e))
same_attributes-eq (a ∷ as') (b ∷ bs) e = go (row_number a == row_number b) refl e (same_attributes-eq as' bs)
  where
    one : row_number a ≡ row_number b → a ≡ b
    one n = some_is (sym (by_number a) ∙ ap (row_at rows) n ∙ by_number b)

    go : (c : Bool) → (row_number a == row_number b) ≡ c → elim c [ true ↦ same_attributes as' bs | false ↦ false ] ≡ true → (same_attributes as' bs ≡ true → as' ≡ bs) → ◌≡◌ {A = Attributes} (a ∷ as') (b ∷ bs)
    go true n rest next = λ i. one (eqb-true _ _ n) i ∷ next rest i
    go false n rest next = absurd (true≢false (sym rest))

same_attributes-self : (as' : Attributes) → same_attributes as' as' ≡ true
same_attributes-self [] = refl
same_attributes-self (a ∷ as') = ap (λ b. elim b [ true ↦ same_attributes as' as' | false ↦ false ]) (eq-eqb (row_number a) (row_number a) refl) ∙ same_attributes-self as'

-- ---- definitions

same_own-eq : (a b : Option Tree) → same_own a b ≡ true → a ≡ b
same_own-eq None None e = refl
same_own-eq (Some v) (Some w) e = ap Some (same-eq v w e)
same_own-eq None (Some w) e = absurd (true≢false (sym e))
same_own-eq (Some v) None e = absurd (true≢false (sym e))

same_own-self : (a : Option Tree) → same_own a a ≡ true
same_own-self None = refl
same_own-self (Some v) = tree_eq-refl v

same_rules-eq : (rs qs : List Rule) → same_rules rs qs ≡ true → rs ≡ qs
same_rules-eq [] [] e = refl
same_rules-eq [] (q ∷ qs) e = absurd (true≢false (sym e))
same_rules-eq (r ∷ rs) [] e = absurd (true≢false (sym e))
same_rules-eq (r ∷ rs) (q ∷ qs) e =
    let one = both (same r.left q.left) _ e in
    let two = both (same r.right q.right) _ one.1 in
    let rest = same_rules-eq rs qs two.1 in
    λ i. record { left = same-eq r.left q.left one.0 i; right = same-eq r.right q.right two.0 i } ∷ rest i

same_rules-self : (rs : List Rule) → same_rules rs rs ≡ true
same_rules-self [] = refl
same_rules-self (r ∷ rs) = together _ _ (tree_eq-refl r.left) (together _ _ (tree_eq-refl r.right) (same_rules-self rs))

same_definition-eq : (a b : Definition) → same_definition a b ≡ true → a ≡ b
same_definition-eq a b e =
    let one = both (same_attributes a.attributes b.attributes) _ e in
    let two = both (same_own a.own b.own) _ one.1 in
    let three = both (same_rules a.downs b.downs) _ two.1 in
    λ i. record {
      attributes = same_attributes-eq a.attributes b.attributes one.0 i;
      own = same_own-eq a.own b.own two.0 i;
      downs = same_rules-eq a.downs b.downs three.0 i;
      ups = same_rules-eq a.ups b.ups three.1 i;
    }

same_definition-self : (a : Definition) → same_definition a a ≡ true
same_definition-self a = together _ _ (same_attributes-self a.attributes) (together _ _ (same_own-self a.own) (together _ _ (same_rules-self a.downs) (same_rules-self a.ups)))

same_entries-eq : (ds es : List (Sym × Definition)) → same_entries ds es ≡ true → ds ≡ es
same_entries-eq [] [] e = refl
same_entries-eq [] (q ∷ qs) e = absurd (true≢false (sym e))
same_entries-eq (r ∷ rs) [] e = absurd (true≢false (sym e))
same_entries-eq (r ∷ rs) (q ∷ qs) e =
    let one = both (same_symbol r.0 q.0) _ e in
    let two = both (same_definition r.1 q.1) _ one.1 in
    let rest = same_entries-eq rs qs two.1 in
    λ i. (same_symbol-eq r.0 q.0 one.0 i, same_definition-eq r.1 q.1 two.0 i) ∷ rest i

same_entries-self : (ds : List (Sym × Definition)) → same_entries ds ds ≡ true
same_entries-self [] = refl
same_entries-self (r ∷ rs) = together _ _ (same_symbol-self r.0) (together _ _ (same_definition-self r.1) (same_entries-self rs))

same_share-eq : (a b : Share) → same_share a b ≡ true → a ≡ b
same_share-eq Share.Variable Share.Variable e = refl
same_share-eq Share.Function Share.Function e = refl
same_share-eq Share.Variable Share.Function e = absurd (true≢false (sym e))
same_share-eq Share.Function Share.Variable e = absurd (true≢false (sym e))

same_share-self : (a : Share) → same_share a a ≡ true
same_share-self Share.Variable = refl
same_share-self Share.Function = refl

same_shared-eq : (as' bs : List Shared) → same_shared as' bs ≡ true → as' ≡ bs
same_shared-eq [] [] e = refl
same_shared-eq [] (q ∷ qs) e = absurd (true≢false (sym e))
same_shared-eq (r ∷ rs) [] e = absurd (true≢false (sym e))
same_shared-eq (r ∷ rs) (q ∷ qs) e =
    let one = both (same_symbol r.symbol q.symbol) _ e in
    let two = both (same_share r.kind q.kind) _ one.1 in
    let three = both (same_attributes r.attributes q.attributes) _ two.1 in
    let rest = same_shared-eq rs qs three.1 in
    λ i. record {
      symbol = same_symbol-eq r.symbol q.symbol one.0 i;
      kind = same_share-eq r.kind q.kind two.0 i;
      attributes = same_attributes-eq r.attributes q.attributes three.0 i;
    } ∷ rest i

same_shared-self : (as' : List Shared) → same_shared as' as' ≡ true
same_shared-self [] = refl
same_shared-self (r ∷ rs) = together _ _ (same_symbol-self r.symbol) (together _ _ (same_share-self r.kind) (together _ _ (same_attributes-self r.attributes) (same_shared-self rs)))

same_symbols-self : (ss : List Sym) → same_symbols ss ss ≡ true
same_symbols-self [] = refl
same_symbols-self (s ∷ ss) = together _ _ (same_symbol-self s) (same_symbols-self ss)

pub same_definitions-eq : (c d : Definitions) → same_definitions c d ≡ true → c ≡ d
same_definitions-eq c d e =
    let one = both (same_entries c.entries d.entries) _ e in
    let two = both (same_shared c.shared d.shared) _ one.1 in
    let three = both (same_symbols c.named d.named) _ two.1 in
    λ i. record {
      entries = same_entries-eq c.entries d.entries one.0 i;
      shared = same_shared-eq c.shared d.shared two.0 i;
      named = same_symbols-eq c.named d.named three.0 i;
      module_number = eqb-true c.module_number d.module_number three.1 i;
    }

same_definitions-self : (c : Definitions) → same_definitions c c ≡ true
same_definitions-self c =
    together _ _ (same_entries-self c.entries) (together _ _ (same_shared-self c.shared) (together _ _ (same_symbols-self c.named) (eq-eqb c.module_number c.module_number refl)))

pub same_definitions-true : (c d : Definitions) → c ≡ d → same_definitions c d ≡ true
same_definitions-true c d e = ap (same_definitions c) (sym e) ∙ same_definitions-self c

-- ---- evaluations

ended_with : (o : Outcome) (v : Tree) → outcome_value o ≡ Some v → o ≡ Outcome.Ended (End.Value v)
ended_with (Outcome.Ended (End.Value w)) v e = ap (λ x. Outcome.Ended (End.Value x)) (some_is e)
ended_with (Outcome.Ended (End.Stopped cause)) v e = absurd (none≢some e)
ended_with (Outcome.Ended (End.Throwing w)) v e = absurd (none≢some e)
ended_with (Outcome.Ended (End.Thrown w)) v e = absurd (none≢some e)
ended_with (Outcome.Ended End.Quit) v e = absurd (none≢some e)
ended_with (Outcome.Ended End.Closed) v e = absurd (none≢some e)
ended_with (Outcome.Ended End.Starved) v e = absurd (none≢some e)
ended_with (Outcome.Needs call) v e = absurd (none≢some e)
ended_with Outcome.Wrong v e = absurd (none≢some e)

-- what is seen of a calm evaluation
record Calm (a : Tree) (e : Evaluation) (kept : Bool) : Type 0 where
  small : size a ≤ 4000000
  flat : depth a ≤ 512
  keeps : kept ≡ true
  unused : e.used ≡ false

calm : (a : Tree) (e : Evaluation) (kept : Bool) → is_calm a e kept ≡ true → Calm a e kept
calm a e kept h =
    let one = both (within_limits a) (kept && not e.used) h in
    let limits = both (leb (size a) 4000000) (leb (depth a) 512) one.0 in
    let two = both kept (not e.used) one.1 in
    record { small = leb-true (size a) 4000000 limits.0; flat = leb-true (depth a) 512 limits.1; keeps = two.0; unused = is_not e.used two.1 }

is_calm-true : (a : Tree) (e : Evaluation) (kept : Bool) → Calm a e kept → is_calm a e kept ≡ true
is_calm-true a e kept c =
    together (within_limits a) (kept && not e.used) (together _ _ (le-leb (size a) 4000000 c.small) (le-leb (depth a) 512 c.flat)) (together kept (not e.used) c.keeps (ap not c.unused))

when_true : {A : Type 0} (b : Bool) (o : Option A) → b ≡ true → when b o ≡ o
when_true b o e = ap (λ x. when x o) e

pub quiet_computed : QuietComputed
quiet_computed set d a = (forth, back)
  where
    e : Evaluation
    e = by_itself set d a

    kept : Bool
    kept = same_definitions e.definitions (bare set d a)

    forth : (value : Tree) → quiet_value set d a ≡ Some value → (quiet : IsQuiet set d a) × (quiet.value ≡ value)
    forth value h =
        let s = when_some (is_calm a e kept) (outcome_value e.outcome) value h in
        let c = calm a e kept s.0 in (
          record {
            small = c.small;
            flat = c.flat;
            value = value;
            gives = ended_with e.outcome value s.1;
            keeps = same_definitions-eq e.definitions (bare set d a) c.keeps;
            unused = c.unused;
          },
          refl,
        )

    back : (quiet : IsQuiet set d a) → quiet_value set d a ≡ Some quiet.value
    back quiet =
        when_true (is_calm a e kept) (outcome_value e.outcome)
        (is_calm-true a e kept (record { small = quiet.small; flat = quiet.flat; keeps = same_definitions-true e.definitions (bare set d a) quiet.keeps; unused = quiet.unused }))
        ∙ ap outcome_value quiet.gives

plain_value : (o : Option Tree) (v : Tree) → if_plain o ≡ Some v → (o ≡ Some v) × (all_before 1 (symbols_of v) ≡ true)
plain_value None v e = absurd (none≢some e)
plain_value (Some w) v e =
    let s = when_some (all_before 1 (symbols_of w)) (Some w) v e in
    (s.1, ap (λ x. all_before 1 (symbols_of x)) (sym (some_is s.1)) ∙ s.0)

pub quiet_named_computed : QuietNamedComputed
quiet_named_computed set d a = (forth, back)
  where
    e : Evaluation
    e = by_itself set d a

    kept : Bool
    kept = same_definitions (as_before d.module_number e.definitions) (as_before d.module_number (bare set d a))

    forth : (value : Tree) → quiet_named_value set d a ≡ Some value → (quiet : IsQuietNamed set d a) × (quiet.value ≡ value)
    forth value h =
        let s = when_some (may_name set d a && is_calm a e kept) (if_plain (outcome_value e.outcome)) value h in
        let parts = both (may_name set d a) (is_calm a e kept) s.0 in
        let c = calm a e kept parts.1 in
        let one = both (leb d.module_number most_names) _ parts.0 in
        let two = both _ _ one.1 in
        let v = plain_value (outcome_value e.outcome) value s.1 in (
          record {
            small = c.small;
            flat = c.flat;
            value = value;
            gives = ended_with e.outcome value v.0;
            keeps = same_definitions-eq (as_before d.module_number e.definitions) (as_before d.module_number (bare set d a)) c.keeps;
            unused = c.unused;
            room = leb-true d.module_number most_names one.0;
            plain = v.1;
            taken = two.0;
            rows = two.1;
          },
          refl,
        )

    back : (quiet : IsQuietNamed set d a) → quiet_named_value set d a ≡ Some quiet.value
    back quiet =
        when_true (may_name set d a && is_calm a e kept) (if_plain (outcome_value e.outcome))
        (together (may_name set d a) (is_calm a e kept) (together _ _ (le-leb d.module_number most_names quiet.room) (together _ _ quiet.taken quiet.rows))
        (is_calm-true a e kept (record {
          small = quiet.small;
          flat = quiet.flat;
          keeps = same_definitions-true (as_before d.module_number e.definitions) (as_before d.module_number (bare set d a)) quiet.keeps;
          unused = quiet.unused;
        })))
        ∙ (ap (λ o. if_plain (outcome_value o)) quiet.gives ∙ when_true (all_before 1 (symbols_of quiet.value)) (Some quiet.value) quiet.plain)

-- Texts that have a place in a list stand in it.
use Rattle.std.proofs.Common.{◌≡◌, refl, sym, ap, subst, ◌∙◌, ℕ, zero, suc, ◌<◌, Bool, true, false, List, [], ◌∷◌, ◌++◌, map, length, arith}
use Rattle.std.specs.Prelude.{◌||◌}
use Rattle.std.specs.List.{list_any}
use Rattle.std.specs.Str.{bytes_eq}
use Rattle.std.specs.Ordering.{is_eq}
use Rattle.expr_tree.specs.Order.{text_cmp}
use Rattle.std.proofs.lemmas.Map.Text.{is_eq-slice_cmp}
use Rattle.std.proofs.lemmas.Slice.Eq.{bytes_eq-Decides}
use Rattle.name_table.proofs.Sorted.{has-kept}
use Rattle.name_table.proofs.Adding.{base_of, has_both, places_within}
use Rattle.syntax.specs.Tokens as syn
use Rattle.read_form.specs.Kept.{AreKeptNames}
use Rattle.script_text.specs.Spelling.{place_in, bases}

or_true : (b : Bool) → (b || true) ≡ true
or_true true = refl
or_true false = refl

pub is_in : (texts : List (List ℕ)) (t : List ℕ) → place_in texts t < length texts → list_any (bytes_eq t) texts ≡ true
is_in [] t h = absurd (omega arith)
is_in (u ∷ us) t h = go (is_eq (text_cmp u t)) refl h (λ k. is_in us t k)
  where
    go : (b : Bool) → is_eq (text_cmp u t) ≡ b → elim b [ true ↦ zero | false ↦ suc (place_in us t) ] < suc (length us)
        → (place_in us t < length us → list_any (bytes_eq t) us ≡ true) → (bytes_eq t u || list_any (bytes_eq t) us) ≡ true
    go true e h further =
        let same : u ≡ t = (bytes_eq-Decides u t).0 (sym (is_eq-slice_cmp u t) ∙ e) in
        ap (λ b. b || list_any (bytes_eq t) us) (ap (bytes_eq t) same ∙ (bytes_eq-Decides t t).1 refl)
    go false e h further = ap (λ b. bytes_eq t u || b) (further (omega arith)) ∙ or_true (bytes_eq t u)

-- ---- a table of names has those of which it was made

or_left : (a b : Bool) → a ≡ true → (a || b) ≡ true
or_left a b e = ap (λ c. c || b) e

or_right : (a b : Bool) → b ≡ true → (a || b) ≡ true
or_right true b e = refl
or_right false b e = e

or_false : (a : Bool) → (a || false) ≡ a
or_false true = refl
or_false false = refl

names_kept : (all names : List (List ℕ)) → ((t : List ℕ) → list_any (bytes_eq t) (map base_of names) ≡ true → list_any (bytes_eq t) (map base_of all) ≡ true) → AreKeptNames (bases all) names
names_kept all [] within = tt
names_kept all (name ∷ names) within = (
  places_within (bases all) (name ∷ []) (λ t h. has-kept t (map base_of all) ∙ within t (or_left (bytes_eq t (base_of name)) (list_any (bytes_eq t) (map base_of names)) (sym (or_false (bytes_eq t (base_of name))) ∙ h))) 0 (omega arith),
  names_kept all names (λ t h. within t (or_right (bytes_eq t (base_of name)) (list_any (bytes_eq t) (map base_of names)) h)),
)

pub names_are_kept : (known names : List (List ℕ)) → AreKeptNames (bases (known ++ names)) names
names_are_kept known names =
    names_kept (known ++ names) names (λ t h. has_both t known names ∙ or_right (list_any (bytes_eq t) (map base_of known)) (list_any (bytes_eq t) (map base_of names)) h)

-- a table of names that was made of those of a cell
pub cell_is_kept : (known old new texts : List (List ℕ)) (cell : List ℕ) (tokens : List syn.Token) → texts ≡ bases (known ++ new) → new ≡ old ++ syn.names_in cell tokens → old ≡ [] → tokens ≡ (syn.lex cell).tokens →
    AreKeptNames texts (syn.names_in cell (syn.lex cell).tokens)
cell_is_kept known old new texts cell tokens e n o t =
    let names : List (List ℕ) = syn.names_in cell (syn.lex cell).tokens in
    let same : new ≡ names = n ∙ ap (λ (us : List (List ℕ)). us ++ syn.names_in cell tokens) o ∙ ap (syn.names_in cell) t in
    subst (λ (us : List (List ℕ)). AreKeptNames us names) (sym (e ∙ ap (λ (us : List (List ℕ)). bases (known ++ us)) same)) (names_are_kept known names)

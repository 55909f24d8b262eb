-- What the reader gives and where it stops, in the words of full forms.
use Rattle.std.proofs.Common.{◌≡◌, refl, sym, ap, subst, ◌∙◌, ℕ, zero, suc, ◌+◌, ◌<◌, ◌≤◌, Bool, true, false, List, [], ◌∷◌, ◌++◌, length, get_or, take, drop, Option, Some, None, option_and_then, true≢false, arith}
use Rattle.std.proofs.lemmas.List.{take-append-drop, take_all}
use Rattle.expr_tree.specs.declared.sym.Sym.{Sym}
use Rattle.expr_tree.specs.Tree.{Tree, Trees, integer, string, symbol, normal, nil, cons}
use Rattle.script_text.specs.Bytes.{is_name}
use Rattle.script_text.specs.Spelling.{Spelling, by_texts, place_in, spelled, symbol_text, number_suffix}
use Rattle.script_text.specs.Full.{full, full_items, full_others}
use Rattle.script_text.specs.FullForm.{IsSpelled, IsWritten, AreWritten, IsFullForm, IsFullFormOf, BeginsFullForm, IsFirstBad}
use Rattle.script_text.specs.FullNames.{names_in}
use Rattle.script_text.specs.Reader.{Frame, Mode, Starts, Gap, Minus, Number, Name, InString, Have, State, signed, symbol_of, run, read, whole, first_state}
use Rattle.script_text.proofs.Coding as co
use Rattle.script_text.proofs.Endings.{Told, Tells, run_tells, goes_on_rightly}
use Rattle.script_text.proofs.Refused.{accepts, stops_rightly}
use Rattle.script_text.proofs.Spelled.{spelled_back}
use Rattle.show_form.specs.Faults.{AreKeptNames}
use Rattle.show_form.proofs.Placed.{placed}
use Rattle.show_form.proofs.Renamed as re
use Rattle.show_form.proofs.Stands.{symbol_texts, all_symbol_texts, full_names_are}

-- ---- what is read is a full form, where each text has a base

module _ (spelling : Spelling) (find : List ℕ → ℕ) (found : (w : List ℕ) → spelling (find w) ≡ w) where
  symbol_back : (u : List ℕ) → symbol_text spelling (symbol_of find (spelled u)) ≡ u
  symbol_back u = ap (λ b. b ++ number_suffix (spelled u).number) (found (spelled u).base) ∙ spelled_back u

  spelled_well : (u : List ℕ) → is_name u ≡ true → IsSpelled spelling (symbol_of find (spelled u))
  spelled_well u n = record {
    is_name = ap is_name (symbol_back u) ∙ n;
    read_back = ap spelled (symbol_back u) ∙ ap (λ b. record { base = b; number = (spelled u).number }) (sym (found (spelled u).base));
  }

  whole_told : (frames : List Frame) (m : Mode) (t : List ℕ) (e : Tree) → Told spelling frames m t → whole find frames m ≡ Some e → IsFullFormOf spelling e t
  whole_told [] (Starts true) t e d q = cc
  whole_told [] (Starts false) t e d q = cc
  whole_told [] Gap t e d q = cc
  whole_told [] Minus t e d q = cc
  whole_told [] (Number below n) t e d q =
      let p : integer (signed below n) ≡ e = cc in
      subst (λ f. IsFullFormOf spelling f t) p (record { written = d.1; text = d.0 })
  whole_told [] (Name w) t e d q =
      let p : symbol (symbol_of find (spelled w)) ≡ e = cc in
      subst (λ f. IsFullFormOf spelling f t) p (record { written = spelled_well w d.1; text = d.0 ∙ sym (symbol_back w) })
  whole_told [] (InString true s) t e d q = cc
  whole_told [] (InString false s) t e d q = cc
  whole_told [] (Have f) t e d q =
      let p : f ≡ e = cc in
      subst (λ f. IsFullFormOf spelling f t) p (record { written = d.1; text = d.0 })
  whole_told (f ∷ frames) m t e d q = cc

  read_told : (t : List ℕ) (e : Tree) → read find t ≡ Some e → IsFullFormOf spelling e t
  read_told t e q = go (run find t first_state) (run_tells spelling find found t first_state [] refl tt) q
    where
      go : (o : Option State) → Tells spelling t o → option_and_then (λ s. whole find s.frames s.mode) o ≡ Some e → IsFullFormOf spelling e t
      go None d q = cc
      go (Some s) d q = whole_told s.frames s.mode t e d.0 q

-- ---- with the bases of a list of texts

module _ (texts : List (List ℕ)) where
  abbrev by_place : ℕ → ℕ
  by_place b = place_in texts (co.spelling b)

  -- every name of an expression has its base in the list
  abbrev mutual
    Bases : Tree → Type 0
    Bases (integer n) = Unit {0}
    Bases (string t) = Unit {0}
    Bases (symbol s) = place_in texts (co.spelling s.base) < length texts
    Bases (normal h es) = Bases h × AllBases es

    AllBases : Trees → Type 0
    AllBases nil = Unit {0}
    AllBases (cons e es) = Bases e × AllBases es

  kept_front : (us vs : List (List ℕ)) → AreKeptNames texts (us ++ vs) → AreKeptNames texts us × AreKeptNames texts vs
  kept_front [] vs k = (tt, k)
  kept_front (u ∷ us) vs k = let r = kept_front us vs k.1 in ((k.0, r.0), r.1)

  mutual
    bases_kept : (e : Tree) → IsWritten co.spelling e → AreKeptNames texts (symbol_texts co.spelling e) → Bases e
    bases_kept (integer n) w k = tt
    bases_kept (string t) w k = tt
    bases_kept (symbol s) w k = subst (λ v. place_in texts v < length texts) (ap (λ v. v.base) w.read_back) k.0
    bases_kept (normal h es) w k =
        let both = kept_front (symbol_texts co.spelling h) (all_symbol_texts co.spelling es) k in
        (bases_kept h w.0 both.0, all_bases_kept es w.1 both.1)

    all_bases_kept : (es : Trees) → AreWritten co.spelling es → AreKeptNames texts (all_symbol_texts co.spelling es) → AllBases es
    all_bases_kept nil w k = tt
    all_bases_kept (cons e es) w k =
        let both = kept_front (symbol_texts co.spelling e) (all_symbol_texts co.spelling es) k in
        (bases_kept e w.0 both.0, all_bases_kept es w.1 both.1)

  symbol_same : (s : Sym) → place_in texts (co.spelling s.base) < length texts → symbol_text (by_texts texts) (record { base = by_place s.base; number = s.number }) ≡ symbol_text co.spelling s
  symbol_same s h = ap (λ v. v ++ number_suffix s.number) (placed texts (co.spelling s.base) h)

  mutual
    full_same : (e : Tree) → Bases e → full (by_texts texts) (re.renamed by_place e) ≡ full co.spelling e
    full_same (integer n) k = refl
    full_same (string t) k = refl
    full_same (symbol s) k = symbol_same s k
    full_same (normal h es) k = ap (λ v. v ++ (91 ∷ full_items (by_texts texts) (re.all_renamed by_place es) ++ (93 ∷ []))) (full_same h k.0) ∙ ap (λ v. full co.spelling h ++ (91 ∷ v ++ (93 ∷ []))) (items_same es k.1)

    items_same : (es : Trees) → AllBases es → full_items (by_texts texts) (re.all_renamed by_place es) ≡ full_items co.spelling es
    items_same nil k = refl
    items_same (cons e es) k = ap (λ v. v ++ full_others (by_texts texts) (re.all_renamed by_place es)) (full_same e k.0) ∙ ap (λ v. full co.spelling e ++ v) (others_same es k.1)

    others_same : (es : Trees) → AllBases es → full_others (by_texts texts) (re.all_renamed by_place es) ≡ full_others co.spelling es
    others_same nil k = refl
    others_same (cons e es) k =
        ap (λ v. 44 ∷ 32 ∷ (v ++ full_others (by_texts texts) (re.all_renamed by_place es))) (full_same e k.0) ∙ ap (λ v. 44 ∷ 32 ∷ (full co.spelling e ++ v)) (others_same es k.1)

  spelled_same : (s : Sym) → IsSpelled co.spelling s → place_in texts (co.spelling s.base) < length texts → IsSpelled (by_texts texts) (record { base = by_place s.base; number = s.number })
  spelled_same s w h = record {
    is_name = ap is_name (symbol_same s h) ∙ w.is_name;
    read_back = ap spelled (symbol_same s h) ∙ w.read_back ∙ ap (λ b. record { base = b; number = s.number }) (sym (placed texts (co.spelling s.base) h));
  }

  mutual
    written_same : (e : Tree) → IsWritten co.spelling e → Bases e → IsWritten (by_texts texts) (re.renamed by_place e)
    written_same (integer n) w k = w
    written_same (string t) w k = tt
    written_same (symbol s) w k = spelled_same s w k
    written_same (normal h es) w k = (written_same h w.0 k.0, all_written_same es w.1 k.1)

    all_written_same : (es : Trees) → AreWritten co.spelling es → AllBases es → AreWritten (by_texts texts) (re.all_renamed by_place es)
    all_written_same nil w k = tt
    all_written_same (cons e es) w k = (written_same e w.0 k.0, all_written_same es w.1 k.1)

  -- ---- the reader with these bases

  matches : (w : List ℕ) → place_in texts w ≡ by_place (co.find w)
  matches w = ap (place_in texts) (sym (co.found w))

  run_same : (t : List ℕ) → run (place_in texts) t first_state ≡ re.lifted by_place (run co.find t first_state)
  run_same t = re.run_is by_place co.find (place_in texts) matches t first_state

  read_same : (t : List ℕ) → read (place_in texts) t ≡ re.result_renamed by_place (read co.find t)
  read_same t = ap (option_and_then (λ s. whole (place_in texts) s.frames s.mode)) (run_same t) ∙ go (run co.find t first_state)
    where
      go : (o : Option State) → option_and_then (λ s. whole (place_in texts) s.frames s.mode) (re.lifted by_place o) ≡ re.result_renamed by_place (option_and_then (λ s. whole co.find s.frames s.mode) o)
      go None = refl
      go (Some s) = re.whole_is by_place co.find (place_in texts) matches s.frames s.mode

  pub reads_full_form : (t : List ℕ) → AreKeptNames texts (names_in t) → (e : Tree) → read (place_in texts) t ≡ Some e → IsFullFormOf (by_texts texts) e t
  reads_full_form t k e q = go (read co.find t) refl (sym (read_same t) ∙ q)
    where
      go : (o : Option Tree) → read co.find t ≡ o → re.result_renamed by_place o ≡ Some e → IsFullFormOf (by_texts texts) e t
      go None p r = cc
      go (Some d) p r =
          let f : IsFullFormOf co.spelling d t = read_told co.spelling co.find co.found t d p in
          let n : names_in t ≡ symbol_texts co.spelling d = ap names_in f.text ∙ full_names_are co.spelling d f.written in
          let b : Bases d = bases_kept d f.written (subst (AreKeptNames texts) n k) in
          let s : re.renamed by_place d ≡ e = cc in
          subst (λ x. IsFullFormOf (by_texts texts) x t) s (record { written = written_same d f.written b; text = f.text ∙ sym (full_same d b) })

  -- ---- where it stops

  pub begins : (t : List ℕ) (s : State) → run (place_in texts) t first_state ≡ Some s → BeginsFullForm t
  begins t s q = go (run co.find t first_state) refl (sym (run_same t) ∙ q)
    where
      go : (o : Option State) → run co.find t first_state ≡ o → re.lifted by_place o ≡ Some s → BeginsFullForm t
      go None p r = cc
      go (Some d) p r = goes_on_rightly co.find co.spelling co.found t d p

  pub begins_none : (t : List ℕ) → run (place_in texts) t first_state ≡ None → ¬ BeginsFullForm t
  begins_none t q b = stops_rightly (place_in texts) t b.0 q b.1

  pub unread : (t : List ℕ) → read (place_in texts) t ≡ None → ¬ IsFullForm t
  unread t q f = let r = accepts (place_in texts) t f in cc

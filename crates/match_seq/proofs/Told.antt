-- A search needs to be told of the heads of its pattern alone.
use Rattle.std.proofs.Common.{◌≡◌, Bool, true, false, List, [], ◌∷◌, ◌++◌, map, refl, ap, sym, ◌∙◌, if◌then◌else◌, append_assoc, append-nil}
use Rattle.expr_tree.proofs.Callers.{tree_steps}
use Rattle.std.specs.Prelude.{◌||◌}
use Rattle.expr_tree.specs.declared.sym.Sym.{Sym}
use Rattle.expr_tree.specs.Tree.{Tree, integer, string, symbol, normal, Trees, nil, cons, count}
use Rattle.expr_tree.specs.Same.{symbol_eq}
use Rattle.expr_tree.specs.Substitution.{among, symbol_in}
use Rattle.expr_tree.proofs.Same.{symbol_eq-Decides}
use Rattle.semantics.specs.Names.{Names}
use Rattle.semantics.specs.Match.{Matching, how_of, matches, nothing_found}
use Rattle.match_seq.specs.declared.constructs.Constructs.{Constructs}
use Rattle.match_seq.specs.declared.setting.How.{How}
use Rattle.match_seq.specs.Forms.{form_of}
use Rattle.match_seq.specs.Search.{answer, answers, find_form, find_normal, find, parts}
use Rattle.match_seq.specs.Goals.{told, matching_of}
use Rattle.match_seq.specs.Heads.{heads, heads_of, how_told, told_of}
use Rattle.match_seq.specs.Origin.{constructs_of}
use Rattle.laws_matching.proofs.Heads.{or_left, among-left, among-right}
use Rattle.match_seq.proofs.Complete.{find-matches}

abbrev mutual
  pub Agree : (Sym → Matching) → (Sym → Matching) → Tree → Type 0
  Agree A B (integer n) = Unit {0}
  Agree A B (string t) = Unit {0}
  Agree A B (symbol s) = Unit {0}
  Agree A B (normal h ps) = (how_of A h ≡ how_of B h) × Agree A B h × AgreeAll A B ps

  pub AgreeAll : (Sym → Matching) → (Sym → Matching) → Trees → Type 0
  AgreeAll A B nil = Unit {0}
  AgreeAll A B (cons p ps) = Agree A B p × AgreeAll A B ps

mutual
  find_same : (cs : Constructs) (A B : Sym → Matching) (p : Tree) → Agree A B p → find cs A p ≡ find cs B p
  find_same cs A B (integer n) agree = refl
  find_same cs A B (string t) agree = refl
  find_same cs A B (symbol s) agree = refl
  find_same cs A B (normal h ps) agree = λ i.
      find_form (form_of cs h (count ps)) (parts_same cs A B ps agree.2 i) (find_normal cs (agree.0 i) h (find_same cs A B h agree.1 i) (parts_same cs A B ps agree.2 i))

  parts_same : (cs : Constructs) (A B : Sym → Matching) (ps : Trees) → AgreeAll A B ps → parts cs A ps ≡ parts cs B ps
  parts_same cs A B nil agree = refl
  parts_same cs A B (cons p ps) agree = λ i. record { tree = p; finder = find_same cs A B p agree.0 i } ∷ parts_same cs A B ps agree.1 i

told_here : (A : Sym → Matching) (ss : List Sym) (s : Sym) → among s ss ≡ true → told (told_of A ss) s ≡ A s
told_here A [] s e = absurd (cc)
told_here A (t ∷ ts) s e = by_test (symbol_eq t s) (symbol_eq s t) refl refl (told_here A ts s)
  where
    by_test : (b c : Bool) → symbol_eq t s ≡ b → symbol_eq s t ≡ c → (among s ts ≡ true → told (told_of A ts) s ≡ A s) → (if b then matching_of (how_told A t).1 else told (told_of A ts) s) ≡ A s
    by_test true c f g later = ap A ((symbol_eq-Decides t s).0 f)
    by_test false true f g later =
        let same : s ≡ t = (symbol_eq-Decides s t).0 g in
        let found : symbol_eq t s ≡ true = (symbol_eq-Decides t s).1 (sym same) in
        absurd (cc (f, found))
    by_test false false f g later = later (let h : (symbol_eq s t || among s ts) ≡ true = e in rw g at h)

mutual
  agree : (A : Sym → Matching) (all : List Sym) (p : Tree) → ((s : Sym) → among s (heads p) ≡ true → among s all ≡ true) → Agree A (told (told_of A all)) p
  agree A all (integer n) covers = tt
  agree A all (string t) covers = tt
  agree A all (symbol s) covers = tt
  agree A all (normal h ps) covers = (
    agree_head A all h (λ s e. covers s (among-left s (symbol_in h) (heads h ++ heads_of ps) e)),
    agree A all h (λ s e. covers s (among-right s (symbol_in h) (heads h ++ heads_of ps) (among-left s (heads h) (heads_of ps) e))),
    agree_all A all ps (λ s e. covers s (among-right s (symbol_in h) (heads h ++ heads_of ps) (among-right s (heads h) (heads_of ps) e))),
  )

  agree_all : (A : Sym → Matching) (all : List Sym) (ps : Trees) → ((s : Sym) → among s (heads_of ps) ≡ true → among s all ≡ true) → AgreeAll A (told (told_of A all)) ps
  agree_all A all nil covers = tt
  agree_all A all (cons p ps) covers = (
    agree A all p (λ s e. covers s (among-left s (heads p) (heads_of ps) e)),
    agree_all A all ps (λ s e. covers s (among-right s (heads p) (heads_of ps) e)),
  )

  agree_head : (A : Sym → Matching) (all : List Sym) (h : Tree) → ((s : Sym) → among s (symbol_in h) ≡ true → among s all ≡ true) → how_of A h ≡ how_of (told (told_of A all)) h
  agree_head A all (integer n) covers = refl
  agree_head A all (string t) covers = refl
  agree_head A all (normal g es) covers = refl
  agree_head A all (symbol s) covers = sym (told_here A all s (covers s (or_left (symbol_eq s s) false ((symbol_eq-Decides s s).1 refl))))

pub find_told-matches : (names : Names) (A : Sym → Matching) (p e : Tree) → answers (find (constructs_of names) (told (told_of A (heads p))) p (e ∷ []) answer nothing_found) ≡ matches names A p e
find_told-matches names A p e =
    sym (ap (λ f. answers (f (e ∷ []) answer nothing_found)) (find_same (constructs_of names) A (told (told_of A (heads p))) p (agree A (heads p) p (λ s q. q))))
    ∙ find-matches names A p e

pub told-append : (A : Sym → Matching) (ss ts : List Sym) → told_of A (ss ++ ts) ≡ told_of A ss ++ told_of A ts
told-append A [] ts = refl
told-append A (s ∷ ss) ts = ap (λ xs. how_told A s ∷ xs) (told-append A ss ts)

pub ruleset head_steps = (tree_steps, told-append, append_assoc, append-nil)

-- a search by the constructs of some names, told of the heads, has the answers of the definition
pub find-matches_told : (names : Names) (A : Sym → Matching) (p e : Tree) (constructs : Constructs) (hows : List (Sym × How)) → constructs ≡ constructs_of names → hows ≡ told_of A (heads p) → answers (find constructs (told hows) p (e ∷ []) answer nothing_found) ≡ matches names A p e
find-matches_told names A p e constructs hows c h =
    (λ i. answers (find (c i) (told (h i)) p (e ∷ []) answer nothing_found)) ∙ find_told-matches names A p e

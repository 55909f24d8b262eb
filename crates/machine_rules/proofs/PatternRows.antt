-- The rows that ask whether a pattern matches, by its rule.
use Rattle.std.proofs.Common.{◌≡◌, ◌∙◌, ℕ, suc, List, [], ◌∷◌, true, false, refl, ap, sym, add-one, ◌++◌, append_assoc, append-nil, reverse}
use Rattle.std.proofs.lemmas.List.{reverse-append}
use Rattle.expr_tree.specs.Tree.{Tree, integer, string, symbol, normal, Trees, nil, cons}
use Rattle.expr_tree.proofs.Callers.{tree_steps}
use Rattle.semantics.specs.Names.{Names, truth}
use Rattle.semantics.specs.Attempt.{try_rules}
use Rattle.semantics.specs.Program.{Prog, Done}
use Rattle.semantics.specs.Rule.{Rule}
use Rattle.semantics.specs.Replace.{asks, member, count_of, free, free_items, matching, cases_of}
use Rattle.machine_rules.specs.Parts.{parts, parts_in}
use Rattle.machine_rules.specs.declared.tally.Pick.{Pick}
use Rattle.machine_rules.specs.Scans.{first_of, counted, gathered}

pub members : (names : Names) (p : Tree) (es : List Tree) → member names p es ≡ first_of names (asks names p) (Done (truth names true)) (Done (truth names false)) es
members names p [] = refl
members names p (e ∷ es) = ap (λ q. try_rules names (asks names p) e (λ v. Done (truth names true)) q) (members names p es)

pub counts : (names : Names) (p : Tree) (es : List Tree) (n : ℕ) → count_of names p es n ≡ counted names (asks names p) es n
counts names p [] n = refl
counts names p (e ∷ es) n =
    λ i. try_rules names (asks names p) e (λ v. (counts names p es (suc n) ∙ ap (counted names (asks names p) es) (sym (add-one n))) i) (counts names p es n i)

-- what was found first stands last in the definition
pub subjects : (names : Names) (p h : Tree) (es done : List Tree) → matching names h p es done ≡ gathered names (asks names p) Pick.Subject h es (reverse done)
subjects names p h [] done = refl
subjects names p h (e ∷ es) done =
    λ i. try_rules names (asks names p) e
    (λ v. (subjects names p h es (e ∷ done) ∙ ap (gathered names (asks names p) Pick.Subject h es) (reverse-append (e ∷ []) done)) i)
    (subjects names p h es done i)

pub results : (names : Names) (rs : List Rule) (h : Tree) (es done : List Tree) → cases_of names h rs es done ≡ gathered names rs Pick.Result h es (reverse done)
results names rs h [] done = refl
results names rs h (e ∷ es) done =
    λ i. try_rules names rs e (λ v. (results names rs h es (v ∷ done) ∙ ap (gathered names rs Pick.Result h es) (reverse-append (v ∷ []) done)) i) (results names rs h es done i)

-- ---- all parts

abbrev none_of : Names → Tree → List Tree → Prog
none_of names p = first_of names (asks names p) (Done (truth names false)) (Done (truth names true))

mutual
  free_parts : (names : Names) (p e : Tree) (es : List Tree) → free names p e (none_of names p es) ≡ none_of names p (parts e ++ es)
  free_parts names p (integer n) es = refl
  free_parts names p (string t) es = refl
  free_parts names p (symbol s) es = refl
  free_parts names p (normal h ts) es =
      ap (λ q. try_rules names (asks names p) (normal h ts) (λ v. Done (truth names false)) q)
      (ap (free names p h) (free_parts_in names p ts es)
      ∙ (free_parts names p h (parts_in ts ++ es) ∙ ap (none_of names p) (sym (append_assoc (parts h) (parts_in ts) es))))

  free_parts_in : (names : Names) (p : Tree) (ts : Trees) (es : List Tree) → free_items names p ts (none_of names p es) ≡ none_of names p (parts_in ts ++ es)
  free_parts_in names p nil es = refl
  free_parts_in names p (cons t ts) es =
      ap (free names p t) (free_parts_in names p ts es) ∙ (free_parts names p t (parts_in ts ++ es) ∙ ap (none_of names p) (sym (append_assoc (parts t) (parts_in ts) es)))

pub frees : (names : Names) (p e : Tree) → free names p e (Done (truth names true)) ≡ none_of names p (parts e)
frees names p e = free_parts names p e [] ∙ ap (none_of names p) (append-nil (parts e))

pub ruleset part_steps = (tree_steps, append_assoc, append-nil)

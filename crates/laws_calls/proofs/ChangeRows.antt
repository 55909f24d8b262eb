-- The rows that change definitions make no call.
use Rattle.std.proofs.Common.{Bool, true, false, List, [], ◌∷◌, is_some}
use Rattle.std.specs.Prelude.{ℤ}
use Rattle.expr_tree.specs.declared.sym.Sym.{Sym}
use Rattle.expr_tree.specs.Tree.{Tree, symbol}
use Rattle.semantics.specs.declared.builtin.Builtin.{Builtin}
use Rattle.semantics.specs.Definitions.{Definition, Attributes}
use Rattle.semantics.specs.Program.{Prog, Item, Cell, Service, Mode, Seen}
use Rattle.semantics.specs.Assign.{Form, ToTag, Target, places, refusal, asked_symbols}
use Rattle.semantics.specs.Control.{failed}
use Rattle.semantics.specs.Changes.{see_all, is_protected, protected_in, any_shared, unless_item, noting, attach_all, attaches_shared, assign, set, set_delayed, tag_set, tag_set_delayed, holders, holding, any_protected, take_away, unset_from, unset, renew, change_own, change, plus_int, step_by, change_with, subtract_from, unless_shared_symbol, write, cleared, nothing_left, clear, clear_all, named_attributes, change_attributes, protect, attributes_row}
use Rattle.laws_calls.proofs.Programs.{Point, Fit, done, ask, look, put, check, moded, branch, option}
use Rattle.laws_calls.proofs.ScopeRows.{left_side-fits}

module _ (P : Point) where
  open P use {names}

  see_all-fits : (ss : List Sym) (k : List (Sym × Seen) → Prog) → ((seen : List (Sym × Seen)) → Fit P (k seen)) → Fit P (see_all ss k)
  see_all-fits [] k next = next []
  see_all-fits (s ∷ ss) k next = look (λ seen. see_all-fits ss _ (λ rest. next ((s, seen) ∷ rest)))

  unless_item-fits : (b : Bool) {p : Prog} → Fit P p → Fit P (unless_item names b p)
  unless_item-fits false next = next
  unless_item-fits true {p} next = moded (λ kernel. go P.mode)
    where
      go : (mode : Mode) → Fit P (elim mode [ Item ↦ failed names | _ ↦ p ])
      go Cell = next
      go Item = done
      go Service = next

  noting-fits : (b : Bool) {p : Prog} → Fit P p → Fit P (noting b p)
  noting-fits false next = next
  noting-fits true next = moded (λ kernel. next)

  attach_all-fits : (ts : List Target) (left right : Tree) {p : Prog} → Fit P p → Fit P (attach_all names ts left right p)
  attach_all-fits [] left right next = next
  attach_all-fits (t ∷ ts) left right next = look (λ seen. put (attach_all-fits ts left right next))

  assign-fits : (form : Form) (left right : Tree) {p : Prog} → Fit P p → Fit P (assign names form left right p)
  assign-fits form left right next =
      see_all-fits (asked_symbols form (places names form left)) _
      (λ seen. unless_item-fits (attaches_shared (places names form left) seen) (option P (refusal names (protected_in seen) form left)
      (attach_all-fits (places names form left) left right next) (λ why. done)))

  pub set-fits : (form : Form) {p : Prog} (es : List Tree) → Fit P p → Fit P (set names form p es)
  set-fits form (left ∷ right ∷ []) stay = left_side-fits P left _ (λ l. assign-fits form l right done)
  set-fits form _ stay = stay

  pub set_delayed-fits : (form : Form) {p : Prog} (es : List Tree) → Fit P p → Fit P (set_delayed names form p es)
  set_delayed-fits form (left ∷ right ∷ []) stay = left_side-fits P left _ (λ l. assign-fits form l right done)
  set_delayed-fits form _ stay = stay

  pub tag_set-fits : {p : Prog} (es : List Tree) → Fit P p → Fit P (tag_set names p es)
  tag_set-fits (symbol t ∷ left ∷ right ∷ []) stay = left_side-fits P left _ (λ l. ask (λ v. assign-fits (ToTag t) l v done))
  tag_set-fits _ stay = stay

  pub tag_set_delayed-fits : {p : Prog} (es : List Tree) → Fit P p → Fit P (tag_set_delayed names p es)
  tag_set_delayed-fits (symbol t ∷ left ∷ right ∷ []) stay = left_side-fits P left _ (λ l. assign-fits (ToTag t) l right done)
  tag_set_delayed-fits _ stay = stay

  take_away-fits : (left : Tree) (es : List (Sym × Seen)) {p : Prog} → Fit P p → Fit P (take_away left es p)
  take_away-fits left [] next = next
  take_away-fits left (e ∷ es) next = put (take_away-fits left es next)

  unset_from-fits : (left : Tree) (es : List (Sym × Seen)) → Fit P (unset_from names left es)
  unset_from-fits left [] = done
  unset_from-fits left (e ∷ es) = branch P (any_protected (e ∷ es)) done (take_away-fits left (e ∷ es) done)

  pub unset-fits : {p : Prog} (es : List Tree) → Fit P p → Fit P (unset names p es)
  unset-fits (left ∷ []) stay =
      left_side-fits P left _ (λ l. see_all-fits (holders names l) _ (λ seen. unless_item-fits (any_shared seen) (unset_from-fits l (holding l seen))))
  unset-fits _ stay = stay

  renew-fits : (s : Sym) (new given : Tree) (d : Definition) → Fit P (renew names s new given d)
  renew-fits s new given d = branch P (is_protected d) done (put done)

  change_own-fits : (s : Sym) (next : Tree → Tree) (gives : Tree → Tree → Tree) (d : Definition) → Fit P (change_own names s next gives d)
  change_own-fits s next gives d =
      option P d.own done (λ old. check (ask (λ v. look (λ seen. noting-fits (is_some seen.shared) (renew-fits s v (gives old v) seen.definition)))))

  change-fits : (s : Sym) (next : Tree → Tree) (gives : Tree → Tree → Tree) → Fit P (change names s next gives)
  change-fits s next gives = look (λ seen. unless_item-fits (is_some seen.shared) (change_own-fits s next gives seen.definition))

  pub step_by-fits : (n : ℤ) (gives : Tree → Tree → Tree) {p : Prog} (es : List Tree) → Fit P p → Fit P (step_by names n gives p es)
  step_by-fits n gives (symbol s ∷ []) stay = change-fits s (plus_int names n) gives
  step_by-fits n gives _ stay = stay

  pub change_with-fits : (row : Builtin) {p : Prog} (es : List Tree) → Fit P p → Fit P (change_with names row p es)
  change_with-fits row (symbol s ∷ x ∷ []) stay = change-fits s _ _
  change_with-fits row _ stay = stay

  pub subtract_from-fits : {p : Prog} (es : List Tree) → Fit P p → Fit P (subtract_from names p es)
  subtract_from-fits (symbol s ∷ x ∷ []) stay = change-fits s _ _
  subtract_from-fits _ stay = stay

  unless_shared_symbol-fits : (b : Bool) {p : Prog} → Fit P p → Fit P (unless_shared_symbol names b p)
  unless_shared_symbol-fits false next = next
  unless_shared_symbol-fits true next = moded (λ kernel. done)

  write-fits : (s : Sym) (f : Definition → Definition) (d : Definition) → Fit P (write names s f d)
  write-fits s f d = branch P (is_protected d) done (put done)

  pub clear-fits : {p : Prog} (es : List Tree) → Fit P p → Fit P (clear names p es)
  clear-fits (symbol s ∷ []) stay = look (λ seen. noting-fits (is_some seen.shared) (write-fits s cleared seen.definition))
  clear-fits _ stay = stay

  pub clear_all-fits : {p : Prog} (es : List Tree) → Fit P p → Fit P (clear_all names p es)
  clear_all-fits (symbol s ∷ []) stay = look (λ seen. unless_shared_symbol-fits (is_some seen.shared) (write-fits s nothing_left seen.definition))
  clear_all-fits _ stay = stay

  pub change_attributes-fits : (f : Attributes → Definition → Definition) {p : Prog} (es : List Tree) → Fit P p → Fit P (change_attributes names f p es)
  change_attributes-fits f (symbol s ∷ e ∷ []) stay =
      option P (named_attributes names e) stay (λ a. look (λ seen. unless_shared_symbol-fits (is_some seen.shared) (write-fits s (f a) seen.definition)))
  change_attributes-fits f _ stay = stay

  pub protect-fits : (f : Definition → Definition) {p : Prog} (es : List Tree) → Fit P p → Fit P (protect names f p es)
  protect-fits f (symbol s ∷ []) stay = look (λ seen. unless_shared_symbol-fits (is_some seen.shared) (put done))
  protect-fits f _ stay = stay

  pub attributes_row-fits : {p : Prog} (es : List Tree) → Fit P p → Fit P (attributes_row names p es)
  attributes_row-fits (symbol s ∷ []) stay = look (λ seen. unless_shared_symbol-fits (is_some seen.shared) done)
  attributes_row-fits _ stay = stay

-- The rows of the mode table: what they send outward has one of its shapes, in a cell, and outside a section where it has to be there.
use Rattle.std.proofs.Common.{◌≡◌, refl, sym, ap, subst, ◌∙◌, Bool, true, false, T, List, [], ◌∷◌, length, Option, Some, None, is_some}
use Rattle.std.specs.Prelude.{leb, ◌&&◌, ◌||◌, not}
use Rattle.std.proofs.lemmas.Bool.{eq-eqb}
use Rattle.expr_tree.specs.declared.sym.Sym.{Sym}
use Rattle.expr_tree.specs.Tree.{Tree, symbol, normal, nil, cons}
use Rattle.expr_tree.specs.Order.{same}
use Rattle.expr_tree.proofs.Trees.{elements-trees}
use Rattle.semantics.specs.declared.builtin.Builtin.{Builtin}
use Rattle.semantics.specs.Names.{known, is_known, is_name, is_call, items_of, make}
use Rattle.semantics.specs.Definitions.{Share, has}
use Rattle.semantics.specs.Program.{Prog, Quits, Open, Outer, Mode, Cell, Item, Service, Access, Outside, Sends, Enter, Leave}
use Rattle.semantics.specs.Control.{failed}
use Rattle.semantics.specs.Scoping.{symbols_in}
use Rattle.semantics.specs.Assemble.{is_single}
use Rattle.semantics.specs.Sections as Sections
use Rattle.semantics.specs.Sections.{critical_section, quit, outside_or, is_option, is_last_option, without_option, parallel_map, combined, parallel_combine, first_success, parallel_try, ask_option, parallel_loop, outside_or_failed, has_object, wait_all, outside_only, are_symbols, is_submission, parallel_submit, of_symbols, print, accessed, same_share, unless_identical, access_or, unless_access}
use Rattle.laws_calls.specs.Calls.{are_parts, is_loop, is_map, is_combine, is_try, is_wait, Shaped, is_one_of, also_inside, outside_alone, is_cell, is_item, may_come}
use Rattle.laws_calls.proofs.Programs.{Point, Fit, done, quits, ask, section, asks_open, look, check, outer, moded, shown, branch, branch_if, option}
use Rattle.laws_calls.proofs.ControlRows.{iterator-fits, applied-fits}

-- a form with its shapes is one of these
pub data Among (form : Builtin) (fits : List Tree → Bool) : List Shaped → Type 0 where
  here : {more : List Shaped} → Among form fits ((form, fits) ∷ more)
  there : {first : Shaped} {more : List Shaped} → Among form fits more → Among form fits (first ∷ more)

or_true : (b : Bool) → (b || true) ≡ true
or_true true = refl
or_true false = refl

module _ (P : Point) where
  open P use {names}

  known_itself : (row : Builtin) → is_known names row (known names row) ≡ true
  known_itself row = eq-eqb (names.place row) (names.place row) refl

  is_among : (form : Builtin) (fits : List Tree → Bool) (es : List Tree) {forms : List Shaped} → Among form fits forms → fits es ≡ true → is_one_of names forms (make names form es) ≡ true
  is_among form fits es (here {more = more}) is =
      ap (λ b. b || is_one_of names more (make names form es)) ((λ i. known_itself form i && fits (elements-trees es i)) ∙ is)
  is_among form fits es (there {first = first} {more = more} rest) is =
      ap (λ b. is_call names first.0 (make names form es) && first.1 (items_of (make names form es)) || b) (is_among form fits es rest is)
      ∙ or_true (is_call names first.0 (make names form es) && first.1 (items_of (make names form es)))

  -- a form that goes outward outside a section
  alone-fits : (form : Builtin) (fits : List Tree → Bool) (es : List Tree) → Among form fits (outside_alone names) → fits es ≡ true → P.mode ≡ Cell → P.inside ≡ false → Fit P (Sections.outer names form es)
  alone-fits form fits es one is cell outside = outer (subst T (sym comes) tt) (λ v. done)
    where
      e : Tree
      e = make names form es

      comes : may_come names P.mode P.inside (Sends (Outside e)) ≡ true
      comes =
          (λ i. is_cell (cell i) && (is_one_of names (also_inside names) e || not (outside i) && is_one_of names (outside_alone names) e))
          ∙ (ap (λ b. is_one_of names (also_inside names) e || b) (is_among form fits es one is) ∙ or_true (is_one_of names (also_inside names) e))

  -- and one that does so also inside
  also-fits : (form : Builtin) (fits : List Tree → Bool) (es : List Tree) → Among form fits (also_inside names) → fits es ≡ true → P.mode ≡ Cell → Fit P (Sections.outer names form es)
  also-fits form fits es one is cell = outer (subst T (sym comes) tt) (λ v. done)
    where
      e : Tree
      e = make names form es

      comes : may_come names P.mode P.inside (Sends (Outside e)) ≡ true
      comes = λ i. is_cell (cell i) && (is_among form fits es one is i || not P.inside && is_one_of names (outside_alone names) e)

  outside_or-fits : {p q : Prog} → (P.mode ≡ Cell → P.inside ≡ false → Fit P p) → Fit P q → Fit P (outside_or p q)
  outside_or-fits {p} {q} alone inside = moded (λ kernel. go P.mode refl)
    where
      by_section : P.mode ≡ Cell → (o : Option (List Sym)) → is_some o ≡ P.inside → Fit P (elim o [ None ↦ p | Some held ↦ q ])
      by_section cell None is = alone cell (sym is)
      by_section cell (Some held) is = inside

      go : (mode : Mode) → P.mode ≡ mode → Fit P (elim mode [ Cell ↦ Open (λ o. elim o [ None ↦ p | Some held ↦ q ]) | _ ↦ q ])
      go Cell is = asks_open (by_section is)
      go Item is = inside
      go Service is = inside

  -- ---- sections, and the end of a kernel

  pub critical_section-fits : {p : Prog} (es : List Tree) → Fit P p → Fit P (critical_section names p es)
  critical_section-fits {p} (locks ∷ body ∷ []) stay = go (is_call names Builtin.List locks) (symbols_in (items_of locks))
    where
      entered : (mode : Mode) → P.mode ≡ mode → (s : Sym) (ss : List Sym) → T (may_come names mode false (Enter (s ∷ ss))) → T (may_come names mode true Leave)
          → Fit P (Sections.section (s ∷ ss) body)
      entered mode is s ss enter leave =
          section (subst (λ m. T (may_come names m false (Enter (s ∷ ss)))) (sym is) enter) (subst (λ m. T (may_come names m true Leave)) (sym is) leave) (λ v. done)

      by_mode : (mode : Mode) → P.mode ≡ mode → (ss : List Sym) → Fit P (elim mode [ Service ↦ failed names | _ ↦ Sections.section ss body ])
      by_mode Cell is [] = ask (λ v. done)
      by_mode Cell is (s ∷ ss) = entered Cell is s ss tt tt
      by_mode Item is [] = ask (λ v. done)
      by_mode Item is (s ∷ ss) = entered Item is s ss tt tt
      by_mode Service is ss = done

      go : (b : Bool) (o : Option (List Sym)) → Fit P
          (elim b [ false ↦ p | true ↦ elim o [ None ↦ p | Some ss ↦ Prog.Moded (λ mode kernel. elim mode [ Service ↦ failed names | _ ↦ Sections.section ss body ]) ] ])
      go false o = stay
      go true None = stay
      go true (Some ss) = moded (λ kernel. by_mode P.mode refl ss)
  critical_section-fits _ stay = stay

  pub quit-fits : {p : Prog} (es : List Tree) → Fit P p → Fit P (quit names p es)
  quit-fits [] stay = moded (λ kernel. go P.mode refl)
    where
      go : (mode : Mode) → P.mode ≡ mode → Fit P (elim mode [ Item ↦ Quits | _ ↦ failed names ])
      go Cell is = done
      go Item is = quits (subst (λ m. T (is_item m)) (sym is) tt)
      go Service is = done
  quit-fits (e ∷ es) stay = stay

  -- ---- forms that are sequential elsewhere

  pub parallel_map-fits : {p : Prog} (es : List Tree) → Fit P p → Fit P (parallel_map names p es)
  parallel_map-fits (f ∷ l ∷ []) stay =
      branch_if P (is_option names l) (λ is. stay) (λ is. outside_or-fits (alone-fits Builtin.ParallelMap (is_map names) (f ∷ l ∷ []) here (ap not is)) done)
  parallel_map-fits (f ∷ l ∷ o ∷ []) stay =
      branch_if P (is_option names o) (λ is. outside_or-fits (alone-fits Builtin.ParallelMap (is_map names) (f ∷ l ∷ o ∷ []) here is) done) (λ is. stay)
  parallel_map-fits _ stay = stay

  combined-fits : (f l : Tree) (rest : List Tree) → Fit P (combined names f l rest)
  combined-fits f l (comb ∷ []) = done
  combined-fits f (normal (symbol h) es) [] = look (λ seen. branch P (has Builtin.Flat seen.definition.attributes) done done)
  combined-fits f (normal (symbol h) es) (a ∷ b ∷ rest) = look (λ seen. branch P (has Builtin.Flat seen.definition.attributes) done done)
  combined-fits f l rest = done

  pub parallel_combine-fits : {p : Prog} (es : List Tree) → Fit P p → Fit P (parallel_combine names p es)
  parallel_combine-fits (f ∷ normal h es ∷ rest) stay =
      branch_if P (leb (length (without_option names rest)) 1 && not (is_last_option names (normal h es) rest))
      (λ is. outside_or-fits (alone-fits Builtin.ParallelCombine (is_combine names) (f ∷ normal h es ∷ rest) (there here) is) (combined-fits f (normal h es) (without_option names rest))) (λ is. stay)
  parallel_combine-fits _ stay = stay

  first_success-fits : (f : Tree) (es : List Tree) → Fit P (first_success names f es)
  first_success-fits f [] = done
  first_success-fits f (e ∷ es) = applied-fits P f (e ∷ []) _ (λ v. branch P (is_name names Builtin.Failed v) (first_success-fits f es) done)

  pub parallel_try-fits : {p : Prog} (es : List Tree) → Fit P p → Fit P (parallel_try names p es)
  parallel_try-fits (f ∷ l ∷ []) stay =
      branch_if P (is_call names Builtin.List l)
      (λ is. outside_or-fits (alone-fits Builtin.ParallelTry (is_try names) (f ∷ l ∷ []) (there (there here)) is) (first_success-fits f (items_of l))) (λ is. stay)
  parallel_try-fits _ stay = stay

  ask_option-fits : (es : List Tree) (k : List Tree → Prog) → ((fs : List Tree) → Fit P (k fs)) → Fit P (ask_option names es k)
  ask_option-fits [] k next = next []
  ask_option-fits (normal h (cons m (cons v nil)) ∷ []) k next = branch P (is_option names (normal h (cons m (cons v nil)))) (ask (λ w. next _)) (next _)
  ask_option-fits (e ∷ []) k next = next (e ∷ [])
  ask_option-fits (e ∷ f ∷ es) k next = ask_option-fits (f ∷ es) _ (λ gs. next (e ∷ gs))

  loop_sent : (e : Tree) (parts fs : List Tree) → are_parts names parts ≡ true → is_loop names (e ∷ make names Builtin.List parts ∷ fs) ≡ true
  loop_sent e parts fs is = (λ i. known_itself Builtin.List i && are_parts names (elements-trees parts i)) ∙ is

  pub parallel_loop-fits : (form sequential : Builtin) {p : Prog} (es : List Tree) → Among form (is_loop names) (outside_alone names) → Fit P p → Fit P (parallel_loop names form sequential p es)
  parallel_loop-fits form sequential (e ∷ it ∷ es) one stay =
      branch P (is_last_option names it es) stay (outside_or-fits
      (λ cell outside. iterator-fits P it _ (λ i vs parts is. ask_option-fits es _
      (λ fs. check (alone-fits form (is_loop names) (e ∷ make names Builtin.List parts ∷ fs) one (loop_sent e parts fs is) cell outside))) stay) done)
  parallel_loop-fits form sequential [] one stay = stay
  parallel_loop-fits form sequential (e ∷ []) one stay = stay

  -- ---- forms that fail elsewhere

  pub outside_or_failed-fits : (form : Builtin) {p : Prog} (es : List Tree) → Among form is_single (outside_alone names) → Fit P p → Fit P (outside_or_failed names form p es)
  outside_or_failed-fits form (e ∷ []) one stay = outside_or-fits (alone-fits form is_single (e ∷ []) one refl) done
  outside_or_failed-fits form _ one stay = stay

  pub wait_all-fits : {p : Prog} (es : List Tree) → Among Builtin.WaitAll (is_wait names) (outside_alone names) → Fit P p → Fit P (wait_all names p es)
  wait_all-fits (e ∷ []) one stay = branch_if P (has_object names e) (λ is. outside_or-fits (alone-fits Builtin.WaitAll (is_wait names) (e ∷ []) one is) done) (λ is. done)
  wait_all-fits _ one stay = stay

  outside_only-fits : (form : Builtin) (fits : List Tree → Bool) (es : List Tree) {p : Prog} → Among form fits (also_inside names) → Fit P p → Fit P (outside_only names form (fits es) p es)
  outside_only-fits form fits es {p} one stay = go (fits es) refl
    where
      by_mode : fits es ≡ true → (mode : Mode) → P.mode ≡ mode → Fit P (elim mode [ Cell ↦ Sections.outer names form es | _ ↦ failed names ])
      by_mode is Cell cell = also-fits form fits es one is cell
      by_mode is Item cell = done
      by_mode is Service cell = done

      go : (b : Bool) → fits es ≡ b → Fit P (outside_only names form b p es)
      go false is = stay
      go true is = moded (λ kernel. by_mode is P.mode refl)

  pub parallel_submit-fits : {p : Prog} (es : List Tree) → Fit P p → Fit P (parallel_submit names p es)
  parallel_submit-fits es stay = outside_only-fits Builtin.ParallelSubmit (is_submission names) es here stay

  pub of_symbols-fits : (form : Builtin) {p : Prog} (es : List Tree) → Among form are_symbols (also_inside names) → Fit P p → Fit P (of_symbols names form p es)
  of_symbols-fits form es one stay = outside_only-fits form are_symbols es one stay

  pub print-fits : (es : List Tree) → Fit P (print names es)
  print-fits es = moded (λ kernel. shown (λ texts. outer tt (λ v. done)))

  -- ---- accesses

  pub access_or-fits : (o : Option Share) (kind : Share) (e : Tree) {p q : Prog} → Fit P p → Fit P q → Fit P (access_or o kind e p q)
  access_or-fits None kind e stay next = next
  access_or-fits (Some k) kind e {p} {q} stay next = branch P (same_share k kind) (moded (λ kernel. go P.mode refl)) next
    where
      go : (mode : Mode) → P.mode ≡ mode → Fit P (elim mode [ Item ↦ Outer (Access e) (unless_identical e p) | _ ↦ q ])
      go Cell is = next
      go Item is = outer (subst (λ m. T (may_come names m P.inside (Sends (Access e)))) (sym is) tt) (λ v. branch P (same v e) stay done)
      go Service is = next

  pub unless_access-fits : (h : Tree) (items : List Tree) (e : Tree) {p q : Prog} → Fit P p → Fit P q → Fit P (unless_access names h items e p q)
  unless_access-fits h items e stay next = option P (accessed names h items) next (λ a. look (λ seen. access_or-fits seen.shared a.1 e stay next))

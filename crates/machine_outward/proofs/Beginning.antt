-- How rows begin, by where they are evaluated.
use Rattle.std.proofs.Common.{◌≡◌, ◌∙◌, refl, ap, sym, ℕ, Bool, true, false, ◌≤◌, subst, List, [], ◌∷◌, Option, Some, None, Result, Ok, Err, take, drop, get_or, arith}
use Rattle.std.specs.Prelude.{not, is_some, ◌&&◌, leb, length, IfOk}
use Rattle.std.specs.declared.alloc.AllocError.{AllocError}
use Rattle.expr_tree.specs.declared.sym.Sym.{Sym}
use Rattle.expr_tree.specs.Tree.{Tree, integer, string, symbol, normal}
use Rattle.semantics.specs.declared.builtin.Builtin.{Builtin}
use Rattle.semantics.specs.Names.{Names, make, is_call, items_of}
use Rattle.semantics.specs.Definitions.{Definitions}
use Rattle.semantics.specs.Program.{Prog, Done, Open, Moded, Outer, Outside, Mode, Cell, Item, Service}
use Rattle.semantics.specs.Play.{Setting, State, Evaluator, run}
use Rattle.semantics.specs.Control.{failed}
use Rattle.semantics.specs.Sections as s
use Rattle.semantics.specs.Sections.{outside_or, outer, outside_only, outside_or_failed, parallel_map, parallel_combine, parallel_try, parallel_loop, is_option, is_last_option, without_option, first_success}
use Rattle.machine_steps.specs.Setup.{setting_of, mode_of}
use Rattle.machine_steps.specs.Steps.{state_at}
use Rattle.machine_outward.specs.declared.place.Place.{Place}
use Rattle.machine_outward.specs.declared.outward_row.OutwardRow.{OutwardRow}
use Rattle.machine_outward.specs.declared.loop_call.LoopForm.{LoopForm}
use Rattle.machine_outward.specs.Beginnings.{Calls, Results, IsLoop, is_combined, looped}
use Rattle.machine_outward.specs.Loops.{outward_row, inward_row}
use Rattle.machine_outward.specs.OutwardLeft.{left}
use Rattle.machine_outward.specs.Placing.{is_outside, names_at, Opens}
use Rattle.machine_outward.specs.Shapes.{is_mapping, is_combining, is_trying, is_alone}

pub starts_as : {E : Type 0} (place : Place) (p : Prog → Prog) (used : Bool) (row : OutwardRow) → ((stay : Prog) → p stay ≡ left (names_at place) row stay None) → Opens {E = E} place p used (Ok (Some row)) used
starts_as place p used row same = record { by = λ d steps locks is ev stay. ap (λ q. run (setting_of place.scene.now) ev q (state_at d used steps locks)) (same stay) }

pub stays_as : {E : Type 0} (place : Place) (p : Prog → Prog) (used : Bool) → ((stay : Prog) → p stay ≡ stay) → Opens {E = E} place p used (Ok None) used
stays_as place p used same = record { by = λ d steps locks is ev stay. ap (λ q. run (setting_of place.scene.now) ev q (state_at d used steps locks)) (same stay) }

-- ---- one call in a cell outside a section, and another way else

abbrev pub fitting : Bool → Prog → Prog → Prog → Prog
fitting fits outside inside stay = elim fits [ true ↦ outside_or outside inside | false ↦ stay ]

abbrev by_open : Prog → Prog → Option (List Sym) → Prog
by_open outside inside open_section = elim open_section [ None ↦ outside | Some held ↦ inside ]

abbrev by_mode : Prog → Prog → Mode → Prog
by_mode outside inside mode =
    elim mode [
      | Cell ↦ Open (λ open_section. elim open_section [ None ↦ outside | Some held ↦ inside ])
      | _ ↦ inside
    ]

none_open : (outside inside : Prog) (o : Option (List Sym)) → not (is_some o) ≡ true → by_open outside inside o ≡ outside
none_open outside inside None is = refl
none_open outside inside (Some held) is = cc

one_open : (outside inside : Prog) (o : Option (List Sym)) → not (is_some o) ≡ false → by_open outside inside o ≡ inside
one_open outside inside None is = cc
one_open outside inside (Some held) is = refl

goes_outside : (set : Setting) (ev : Evaluator) (outside inside : Prog) (m : Mode) (st : State) → is_outside m (is_some st.open_section) ≡ true → run set ev (by_mode outside inside m) st ≡ run set ev outside st
goes_outside set ev outside inside Cell st is = ap (λ q. run set ev q st) (none_open outside inside st.open_section is)
goes_outside set ev outside inside Item st is = cc
goes_outside set ev outside inside Service st is = cc

goes_inside : (set : Setting) (ev : Evaluator) (outside inside : Prog) (m : Mode) (st : State) → is_outside m (is_some st.open_section) ≡ false → run set ev (by_mode outside inside m) st ≡ run set ev inside st
goes_inside set ev outside inside Cell st is = ap (λ q. run set ev q st) (one_open outside inside st.open_section is)
goes_inside set ev outside inside Item st is = refl
goes_inside set ev outside inside Service st is = refl

-- where a form does not fit
pub opens_not : {E : Type 0} (place : Place) (p : Prog → Prog) (used fits : Bool) (outside : Prog → Prog) (inside : Prog) → ((stay : Prog) → p stay ≡ fitting fits (outside stay) inside stay) → fits ≡ false → Opens {E = E} place p used (Ok None) used
opens_not place p used fits outside inside shape not_so = stays_as place p used (λ stay. shape stay ∙ ap (λ b. fitting b (outside stay) inside stay) not_so)

pub opens_outside : {E : Type 0} (place : Place) (p : Prog → Prog) (used fits : Bool) (outside : Prog → Prog) (inside : Prog) (row : OutwardRow) → ((stay : Prog) → p stay ≡ fitting fits (outside stay) inside stay) → fits ≡ true
    → is_outside (mode_of place.scene.now.mode) place.is_open ≡ true → ((stay : Prog) → outside stay ≡ left (names_at place) row stay None) → Opens {E = E} place p used (Ok (Some row)) true
opens_outside place p used fits outside inside row shape so there same = record {
  by = λ d steps locks is ev stay.
      let set = setting_of place.scene.now in
      ap (λ q. run set ev q (state_at d used steps locks)) (shape stay ∙ ap (λ b. fitting b (outside stay) inside stay) so)
      ∙ (goes_outside set ev (outside stay) inside set.mode (state_at d true steps locks) (ap (is_outside (mode_of place.scene.now.mode)) is ∙ there)
      ∙ ap (λ q. run set ev q (state_at d true steps locks)) (same stay));
}

pub outside_stays : {E : Type 0} (place : Place) (p : Prog → Prog) (used fits : Bool) (outside : Prog → Prog) (inside : Prog) → ((stay : Prog) → p stay ≡ fitting fits (outside stay) inside stay) → fits ≡ true
    → is_outside (mode_of place.scene.now.mode) place.is_open ≡ true → ((stay : Prog) → outside stay ≡ stay) → Opens {E = E} place p used (Ok None) true
outside_stays place p used fits outside inside shape so there same = record {
  by = λ d steps locks is ev stay.
      let set = setting_of place.scene.now in
      ap (λ q. run set ev q (state_at d used steps locks)) (shape stay ∙ ap (λ b. fitting b (outside stay) inside stay) so)
      ∙ (goes_outside set ev (outside stay) inside set.mode (state_at d true steps locks) (ap (is_outside (mode_of place.scene.now.mode)) is ∙ there)
      ∙ ap (λ q. run set ev q (state_at d true steps locks)) (same stay));
}

pub opens_inside : {E : Type 0} (place : Place) (p : Prog → Prog) (used fits : Bool) (outside : Prog → Prog) (inside : Prog) (row : OutwardRow) → ((stay : Prog) → p stay ≡ fitting fits (outside stay) inside stay) → fits ≡ true
    → is_outside (mode_of place.scene.now.mode) place.is_open ≡ false → ((stay : Prog) → inside ≡ left (names_at place) row stay None) → Opens {E = E} place p used (Ok (Some row)) true
opens_inside place p used fits outside inside row shape so elsewhere same = record {
  by = λ d steps locks is ev stay.
      let set = setting_of place.scene.now in
      ap (λ q. run set ev q (state_at d used steps locks)) (shape stay ∙ ap (λ b. fitting b (outside stay) inside stay) so)
      ∙ (goes_inside set ev (outside stay) inside set.mode (state_at d true steps locks) (ap (is_outside (mode_of place.scene.now.mode)) is ∙ elsewhere)
      ∙ ap (λ q. run set ev q (state_at d true steps locks)) (same stay));
}

-- by the mode alone
pub opens_moded : {E : Type 0} (place : Place) (p : Prog → Prog) (used : Bool) (k : Mode → Prog) (row : OutwardRow) → ((stay : Prog) → p stay ≡ Moded (λ mode kernel. k mode))
    → ((stay : Prog) → k (mode_of place.scene.now.mode) ≡ left (names_at place) row stay None) → Opens {E = E} place p used (Ok (Some row)) true
opens_moded place p used k row shape same = record {
  by = λ d steps locks is ev stay.
      let set = setting_of place.scene.now in
      ap (λ q. run set ev q (state_at d used steps locks)) (shape stay) ∙ ap (λ q. run set ev q (state_at d true steps locks)) (same stay);
}

-- ---- what a row is at its beginning

pub call_left : (names : Names) (form : Builtin) (items : List Tree) (whole : Tree) (row : OutwardRow) → whole ≡ make names form items → Calls whole row → (stay : Prog) → outer names form items ≡ left names row stay None
call_left names form items whole row is calls stay = ap (λ e. Outer (Outside e) Done) (sym is) ∙ ap (λ r. left names r stay None) (sym calls)

pub result_left : (names : Names) (e : Tree) (row : OutwardRow) → Results e row → (stay : Prog) → Done e ≡ left names row stay None
result_left names e row results stay = ap (λ r. left names r stay None) (sym results)

-- ---- the shapes of forms

flips : (b : Bool) (x y : Prog) → (elim b as (λ _. Prog) [ true ↦ x | false ↦ y ]) ≡ (elim (not b) as (λ _. Prog) [ true ↦ y | false ↦ x ])
flips true x y = refl
flips false x y = refl

pub map_shape : (names : Names) (items : List Tree) (stay : Prog) → parallel_map names stay items ≡ fitting (is_mapping names items) (outer names Builtin.ParallelMap items) (Done (make names Builtin.Map (take 2 items))) stay
map_shape names [] stay = refl
map_shape names (f ∷ []) stay = refl
map_shape names (f ∷ l ∷ []) stay = flips (is_option names l) stay _
map_shape names (f ∷ l ∷ o ∷ []) stay = refl
map_shape names (f ∷ l ∷ o ∷ e ∷ es) stay = refl

pub combine_shape : (names : Names) (items : List Tree) (stay : Prog) → parallel_combine names stay items ≡ fitting (is_combining names items) (outer names Builtin.ParallelCombine items) (is_combined names items) stay
combine_shape names [] stay = refl
combine_shape names (f ∷ []) stay = refl
combine_shape names (f ∷ integer n ∷ es) stay = refl
combine_shape names (f ∷ string t ∷ es) stay = refl
combine_shape names (f ∷ symbol i ∷ es) stay = refl
combine_shape names (f ∷ normal h fs ∷ es) stay = refl

abbrev pub tries : Names → List Tree → Prog
tries names (f ∷ l ∷ es) = first_success names f (items_of l)
tries names es = failed names

pub try_shape : (names : Names) (items : List Tree) (stay : Prog) → parallel_try names stay items ≡ fitting (is_trying names items) (outer names Builtin.ParallelTry items) (tries names items) stay
try_shape names [] stay = refl
try_shape names (f ∷ []) stay = refl
try_shape names (f ∷ l ∷ []) stay = refl
try_shape names (f ∷ l ∷ e ∷ es) stay = refl

pub alone_shape : (names : Names) (form : Builtin) (items : List Tree) (stay : Prog) → outside_or_failed names form stay items ≡ fitting (is_alone items) (outer names form items) (failed names) stay
alone_shape names form [] stay = refl
alone_shape names form (e ∷ []) stay = refl
alone_shape names form (e ∷ f ∷ es) stay = refl

abbrev pub has_iterator : Names → List Tree → Bool
has_iterator names (e ∷ it ∷ es) = not (is_last_option names it es)
has_iterator names es = false

pub loop_shape : (names : Names) (form : LoopForm) (items : List Tree) (stay : Prog) →
    parallel_loop names (outward_row form) (inward_row form) stay items ≡ fitting (has_iterator names items) (looped names form items stay) (Done (make names (inward_row form) (without_option names items))) stay
loop_shape names form [] stay = refl
loop_shape names form (e ∷ []) stay = refl
loop_shape names form (e ∷ it ∷ es) stay = flips (is_last_option names it es) stay _

abbrev pub loops : Place → LoopForm → List Tree → Prog → Prog
loops place form items stay = parallel_loop (names_at place) (outward_row form) (inward_row form) stay items

pub loops_outside : (place : Place) (form : LoopForm) (items : List Tree) (used now : Bool) (r : Result (Option OutwardRow) AllocError) → has_iterator (names_at place) items ≡ true
    → is_outside (mode_of place.scene.now.mode) place.is_open ≡ true → now ≡ true → IfOk r (IsLoop (names_at place) form items) → Opens place (loops place form items) used r now
loops_outside place form items used now (Ok (Some row)) has there noted f =
    subst (λ b. Opens {E = AllocError} place (loops place form items) used (Ok (Some row)) b) (sym noted)
    (opens_outside place (loops place form items) used (has_iterator (names_at place) items) (looped (names_at place) form items) (Done (make (names_at place) (inward_row form) (without_option (names_at place) items))) row
    (loop_shape (names_at place) form items) has there f.by)
loops_outside place form items used now (Ok None) has there noted f =
    subst (λ b. Opens {E = AllocError} place (loops place form items) used (Ok None) b) (sym noted)
    (outside_stays place (loops place form items) used (has_iterator (names_at place) items) (looped (names_at place) form items) (Done (make (names_at place) (inward_row form) (without_option (names_at place) items)))
    (loop_shape (names_at place) form items) has there f.by)
loops_outside place form items used now (Err e) has there noted f = record { by = λ d steps locks is. tt }

pub iterates : (names : Names) (items : List Tree) (it : Tree) (behind : List Tree) → 2 ≤ length items → it ≡ get_or items 1 it → behind ≡ drop 2 items → is_last_option names it behind ≡ false → has_iterator names items ≡ true
iterates names [] it behind l at rest no_option = absurd (omega (arith, l))
iterates names (e ∷ []) it behind l at rest no_option = absurd (omega (arith, l))
iterates names (e ∷ f ∷ es) it behind l at rest no_option = ap not ((λ i. is_last_option names (sym at i) (sym rest i)) ∙ no_option)

-- What Module and Block do before their first question.
use Rattle.std.proofs.Common.{◌≡◌, true≢false, is_some, ◌||◌, ◌<◌, ◌≤◌, ◌+◌, length, get_or, drop, Result, subst, ℕ, List, [], ◌∷◌, Bool, true, false, Option, Some, None, Ok, Err, inl, refl, ap, sym, ◌∙◌, suc, drop-cons, add-one}
use Rattle.std.proofs.lemmas.Bool.{eq-eqb, ne_eqb}
use Rattle.expr_tree.specs.declared.sym.Sym.{Sym}
use Rattle.expr_tree.specs.declared.limits.Stop.{Stop}
use Rattle.expr_tree.specs.Tree.{Tree}
use Rattle.semantics.specs.Definitions.{Definitions, Share, Shared, shared_as}
use Rattle.semantics.specs.Program as p
use Rattle.semantics.specs.Program.{Prog, Done, Within, Fresh, Moded}
use Rattle.semantics.specs.Control.{failed}
use Rattle.semantics.specs.declared.builtin.Builtin.{Builtin}
use Rattle.semantics.specs.Names.{Names, name}
use Rattle.semantics.specs.Scoping.{ask_values, block_form, module_form, bases_differ, differ, symbols_of, unless_any_shared, with_form}
use Rattle.semantics.specs.Table.{row}
use Rattle.semantics.specs.Play.{Setting, run, last_number, after_number, if_number_left, written, local_definition}
use Rattle.evaluation_steps.specs.declared.Halt.{Halt}
use Rattle.frames_scope.specs.declared.locals.Local.{Local}
use Rattle.frames_scope.specs.declared.locals.Scope.{Scope}
use Rattle.frames_scope.specs.Reading.{locals_in, IsRead}
use Rattle.std.proofs.Math.ListN.{drop_of_length-le}
use Rattle.machine_steps.specs.declared.moves.Move.{Move}
use Rattle.machine_steps.specs.Steps.{state_at, Falls, Stepped}
use Rattle.machine_rows.specs.StepResults.{is_shared, any_shared, made_all}
use Rattle.machine_rows.specs.Asking.{asks}
use Rattle.machine_rows.specs.RowsLeft.{numbered_form}
use Rattle.machine_rows.proofs.Falling.{block_asks, number_asks}
use Rattle.machine_rows.proofs.Steps.{Leads, stepped_after}

-- the number is taken, or there is none
pub fresh_leads : (set : Setting) (k : ℕ → Prog) (d : Definitions) (used : Bool) → (d.module_number ≡ last_number → ⊥) → Leads set (Fresh k) d used (k d.module_number) (after_number d) used
fresh_leads set k d used left n o ev = ap (λ b. if_number_left b (state_at d used n o) (λ m t. run set ev (k m) t)) (ne_eqb d.module_number last_number left)

pub fresh_stops : {set : Setting} {k : ℕ → Prog} {stay : Prog} {rest : Option Tree → Prog} (d : Definitions) (used : Bool) → d.module_number ≡ last_number → Stepped set (Fresh k) stay d used (Err (Halt.Stopped Stop.Range)) rest d used
fresh_stops {set = set} {k = k} d used last = record { by = λ n o. inl (λ ev. ap (λ b. if_number_left b (state_at d used n o) (λ m t. run set ev (k m) t)) (eq-eqb d.module_number last_number last)) }

-- no symbol is shared, or one is
pub block_leads : (set : Setting) (a : Prog) (ss : List Sym) (d : Definitions) (used : Bool) → any_shared d.shared ss ≡ false → Leads set (unless_any_shared set.names ss a) d used a d used
block_leads set a [] d used not n o ev = refl
block_leads set a (s ∷ ss) d used not n o ev = by_first (shared_as d.shared s) not (λ q. block_leads set a ss d used q n o ev)
  where
    by_first : (x : Option Shared) → is_some x || any_shared d.shared ss ≡ false →
        (any_shared d.shared ss ≡ false → run set ev (unless_any_shared set.names ss a) (state_at d used n o) ≡ run set ev a (state_at d used n o)) →
        run set ev (elim (elim x as (λ _. Option Share) [ None ↦ None | Some y ↦ Some y.kind ]) as (λ _. Prog) [ None ↦ unless_any_shared set.names ss a | Some kind ↦ Moded (λ mode kernel. failed set.names) ]) (state_at d used n o)
        ≡ run set ev a (state_at d used n o)
    by_first None q later = later q
    by_first (Some x) q later = absurd (true≢false q)

pub block_fails : (set : Setting) (a : Prog) (ss : List Sym) (d : Definitions) (used : Bool) → any_shared d.shared ss ≡ true → Leads set (unless_any_shared set.names ss a) d used (failed set.names) d true
block_fails set a [] d used some n o ev = absurd (true≢false (sym some))
block_fails set a (s ∷ ss) d used some n o ev = by_first (shared_as d.shared s) some (λ q. block_fails set a ss d used q n o ev)
  where
    by_first : (x : Option Shared) → is_some x || any_shared d.shared ss ≡ true →
        (any_shared d.shared ss ≡ true → run set ev (unless_any_shared set.names ss a) (state_at d used n o) ≡ run set ev (failed set.names) (state_at d true n o)) →
        run set ev (elim (elim x as (λ _. Option Share) [ None ↦ None | Some y ↦ Some y.kind ]) as (λ _. Prog) [ None ↦ unless_any_shared set.names ss a | Some kind ↦ Moded (λ mode kernel. failed set.names) ]) (state_at d used n o)
        ≡ run set ev (failed set.names) (state_at d true n o)
    by_first None q later = later q
    by_first (Some x) q later = refl

-- ---- the forms with a number, or with symbols that are not shared

pub module_numbered : {set : Setting} {stay q : Prog} {d e f : Definitions} {used : Bool} {rest : Option Tree → Prog} (r : Result Move Halt) (ls : List p.Local) (body : Tree) (m : ℕ) →
    (d.module_number ≡ last_number → ⊥) → m ≡ d.module_number → e ≡ after_number d → q ≡ numbered_form set.names m ls body → Stepped set q stay e used r rest f used →
    Stepped set (module_form set.names ls body) stay d used r rest f used
module_numbered {set = set} {q = q} {d = d} {used = used} r ls body m left number after is s =
    stepped_after r (λ n o ev.
    fresh_leads set (λ i. numbered_form set.names i ls body) d used left n o ev
    ∙ ap (λ i. run set ev (numbered_form set.names i ls body) (state_at (after_number d) used n o)) (sym number)
    ∙ ap (λ x. run set ev x (state_at (after_number d) used n o)) (sym is)
    ∙ ap (λ x. run set ev q (state_at x used n o)) (sym after)) s

pub falls_same : (r : Result Move Halt) (f : Option Tree → ℕ) {m n : ℕ} → m ≡ n → Falls r n f → Falls r m f
falls_same r f e l = subst (λ i. Falls r i f) (sym e) l

pub module_falls : (r : Result Move Halt) (f : Option Tree → ℕ) (names : Names) (q : Prog) (ls : List p.Local) (body : Tree) (m : ℕ) → q ≡ numbered_form names m ls body → Falls r (asks q) f → Falls r (asks (module_form names ls body)) f
module_falls r f names q ls body m is l = falls_same r f (sym (ap asks is ∙ number_asks names ls body m)) l

pub block_seen : {set : Setting} {stay q : Prog} {d f : Definitions} {used : Bool} {rest : Option Tree → Prog} (r : Result Move Halt) (ls : List p.Local) (body : Tree) →
    any_shared d.shared (symbols_of ls) ≡ false → q ≡ ask_values ls [] (λ ms. Within ms body Done) → Stepped set q stay d used r rest f used →
    Stepped set (block_form set.names ls body) stay d used r rest f used
block_seen {set = set} {d = d} {used = used} r ls body not is s =
    stepped_after r (λ n o ev. block_leads set (ask_values ls [] (λ ms. Within ms body Done)) (symbols_of ls) d used not n o ev ∙ ap (λ x. run set ev x (state_at d used n o)) (sym is)) s

pub block_falls : (r : Result Move Halt) (f : Option Tree → ℕ) (names : Names) (q : Prog) (ls : List p.Local) (body : Tree) → q ≡ ask_values ls [] (λ ms. Within ms body Done) → Falls r (asks q) f → Falls r (asks (block_form names ls body)) f
block_falls r f names q ls body is l = falls_same r f (block_asks names (symbols_of ls) (ask_values ls [] (λ ms. Within ms body Done)) ∙ ap asks (sym is)) l

pub block_shared : {set : Setting} {stay : Prog} {d : Definitions} {used : Bool} {rest : Option Tree → Prog} (ls : List p.Local) (body : Tree) →
    any_shared d.shared (symbols_of ls) ≡ true → Stepped set (block_form set.names ls body) stay d used (Ok (Move.Done (name set.names Builtin.Failed))) rest d true
block_shared {set = set} {d = d} {used = used} ls body some = record { by = block_fails set (ask_values ls [] (λ ms. Within ms body Done)) (symbols_of ls) d used some }

-- ---- the rows, by their locals

pub module_read : (names : Names) (items : List Tree) (s : Scope) → IsRead names bases_differ items (Some s) → (stay : Prog) → row names Builtin.Module stay items ≡ module_form names (locals_in s.locals) s.body
unfolding row
module_read names items s r stay = r.by (module_form names) stay

pub module_stays : (names : Names) (items : List Tree) → IsRead names bases_differ items None → (stay : Prog) → row names Builtin.Module stay items ≡ stay
unfolding row
module_stays names items r stay = r.by (module_form names) stay

pub block_read : (names : Names) (items : List Tree) (s : Scope) → IsRead names differ items (Some s) → (stay : Prog) → row names Builtin.Block stay items ≡ block_form names (locals_in s.locals) s.body
unfolding row
block_read names items s r stay = r.by (block_form names) stay

pub block_stays : (names : Names) (items : List Tree) → IsRead names differ items None → (stay : Prog) → row names Builtin.Block stay items ≡ stay
unfolding row
block_stays names items r stay = r.by (block_form names) stay

pub with_read : (names : Names) (items : List Tree) (s : Scope) → IsRead names differ items (Some s) → (stay : Prog) → row names Builtin.With stay items ≡ with_form names stay (locals_in s.locals) s.body
unfolding row
with_read names items s r stay = r.by (with_form names stay) stay

pub with_stays : (names : Names) (items : List Tree) → IsRead names differ items None → (stay : Prog) → row names Builtin.With stay items ≡ stay
unfolding row
with_stays names items r stay = r.by (with_form names stay) stay

-- ---- locals, one after another

drop_at : (ls : List Local) (i : ℕ) (x : Local) → i < length ls → x ≡ get_or ls i x → drop i ls ≡ x ∷ drop (i + 1) ls
drop_at ls i x p is = rw (drop-cons ls i x p, add-one) (ap (λ u. u ∷ drop (suc i) ls) (sym is))

pub made_more : (names : Names) (ls : List Local) (i : ℕ) (x : Local) (v : Option Tree) (d e : Definitions) → i < length ls → x ≡ get_or ls i x → v ≡ x.value →
    e ≡ written names d x.symbol (local_definition (record { symbol = x.symbol; value = v })) → made_all names (locals_in (drop (i + 1) ls)) e ≡ made_all names (locals_in (drop i ls)) d
made_more names ls i x v d e inside is copied made =
    ap (made_all names (locals_in (drop (i + 1) ls))) (made ∙ ap (λ y. written names d x.symbol (local_definition (record { symbol = x.symbol; value = y }))) copied)
    ∙ ap (λ ms. made_all names (locals_in ms) d) (sym (drop_at ls i x inside is))

pub made_end : (names : Names) (ls : List Local) (i : ℕ) (d : Definitions) → length ls ≤ i → made_all names (locals_in (drop i ls)) d ≡ d
made_end names ls i d past = ap (λ ms. made_all names (locals_in ms) d) (drop_of_length-le ls past)

pub shared_more : (shared : List Shared) (ls : List Local) (i : ℕ) (x : Local) → i < length ls → x ≡ get_or ls i x →
    any_shared shared (symbols_of (locals_in (drop i ls))) ≡ (is_shared shared x.symbol || any_shared shared (symbols_of (locals_in (drop (i + 1) ls))))
shared_more shared ls i x inside is = ap (λ ms. any_shared shared (symbols_of (locals_in ms))) (drop_at ls i x inside is)

pub shared_end : (shared : List Shared) (ls : List Local) (i : ℕ) → length ls ≤ i → any_shared shared (symbols_of (locals_in (drop i ls))) ≡ false
shared_end shared ls i past = ap (λ ms. any_shared shared (symbols_of (locals_in ms))) (drop_of_length-le ls past)

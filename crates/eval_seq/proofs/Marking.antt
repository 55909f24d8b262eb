-- Uses of symbols that may be shared.
use Rattle.std.specs.Prelude.{ℤ}
use Rattle.std.proofs.Common.{◌≡◌, ℕ, Bool, true, false, ◌&&◌, List, Option, Some, None, is_some, refl, ap, ◌∙◌}
use Rattle.expr_tree.specs.declared.sym.Sym.{Sym}
use Rattle.expr_tree.specs.Tree.{Tree, Trees, integer, string, symbol, normal}
use Rattle.semantics.specs.Definitions.{Share, Function}
use Rattle.semantics.specs.Attempt.{try_rules}
use Rattle.semantics.specs.Program.{Prog, Done, Outer, Access, Moded, Mode, Cell, Item, Service}
use Rattle.semantics.specs.Sections.{access_or, same_share, unless_access, unless_identical}
use Rattle.semantics.specs.Pass.{marked, built_in}
use Rattle.semantics.specs.Play.{Setting, State, Play, Evaluator, run, seen, now_used}
use Rattle.shared_calls.specs.Access.{kind_in, changed}
use Rattle.shared_calls.specs.Sent.{AccessesAreSent, sent_or as sent_after}
use Rattle.laws_calls.specs.Calls.{is_item}
use Rattle.eval_seq.specs.Sequence.{Marks, Uses, Sees, Accesses, sent_or}

by_mode : (set : Setting) (ev : Evaluator) (e : Tree) (stay p : Prog) (st : State) (mode : Mode) →
    run set ev (elim mode [ Item ↦ Outer (Access e) (unless_identical e stay) | _ ↦ Moded (λ m k. p) ]) (now_used st) ≡ run set ev (sent_or (is_item mode) e stay p) (now_used st)
by_mode set ev e stay p st Cell = refl
by_mode set ev e stay p st Item = refl
by_mode set ev e stay p st Service = refl

by_share : (set : Setting) (ev : Evaluator) (e : Tree) (stay p : Prog) (st : State) (b : Bool) →
    run set ev (elim b [ true ↦ Moded (λ mode kernel. elim mode [ Item ↦ Outer (Access e) (unless_identical e stay) | _ ↦ Moded (λ m k. p) ]) | false ↦ Moded (λ m k. p) ]) st
    ≡ run set ev (sent_or (b && is_item set.mode) e stay p) (now_used st)
by_share set ev e stay p st true = by_mode set ev e stay p st set.mode
by_share set ev e stay p st false = refl

pub marks_none : {set : Setting} {kind : Share} {s : Sym} {st : State} → kind_in st.definitions.shared s ≡ None → Marks set kind s st false st
marks_none {set = set} {kind = kind} {s = s} {st = st} is =
    record { by = λ ev e stay q. let it = seen set.names st.definitions s in ap (λ o. run set ev (access_or o kind e stay (marked o (q it))) st) is }

pub marks_some : {set : Setting} {kind k : Share} {s : Sym} {st : State} → kind_in st.definitions.shared s ≡ Some k → Marks set kind s st (same_share k kind && is_item set.mode) (now_used st)
marks_some {set = set} {kind = kind} {k = k} {s = s} {st = st} is =
    record {
      by = λ ev e stay q. let it = seen set.names st.definitions s in
          ap (λ o. run set ev (access_or o kind e stay (marked o (q it))) st) is ∙ by_share set ev e stay (q it) st (same_share k kind);
    }

used_by_mode : (set : Setting) (ev : Evaluator) (e : Tree) (stay p : Prog) (st : State) (mode : Mode) →
    elim mode as (λ _. Play) [ Item ↦ run set ev (Outer (Access e) (unless_identical e stay)) (now_used st) | _ ↦ run set ev p (now_used st) ] ≡ run set ev (sent_or (is_item mode) e stay p) (now_used st)
used_by_mode set ev e stay p st Cell = refl
used_by_mode set ev e stay p st Item = refl
used_by_mode set ev e stay p st Service = refl

pub uses_none : {set : Setting} (h : Tree) (items : List Tree) {st : State} → AccessesAreSent → changed set.names st.definitions.shared h items ≡ None → Uses set (λ e stay p. unless_access set.names h items e stay p) st false st
uses_none {set = set} h items {st = st} law is =
    record { by = λ ev e stay p. law.changes set ev h items e stay p st ∙ ap (λ o. sent_after (is_some o) set ev e stay p st) is }

pub uses_some : {set : Setting} (h : Tree) (items : List Tree) {st : State} → AccessesAreSent → is_some (changed set.names st.definitions.shared h items) ≡ true →
    Uses set (λ e stay p. unless_access set.names h items e stay p) st (is_item set.mode) (now_used st)
uses_some {set = set} h items {st = st} law is =
    record { by = λ ev e stay p. law.changes set ev h items e stay p st ∙ (ap (λ b. sent_after b set ev e stay p st) is ∙ used_by_mode set ev e stay p st set.mode) }

pub ruleset uses_steps = (uses_none, uses_some)

-- a call of a symbol is an access where the symbol is a shared function; of no other head is one
pub accesses_marked : {set : Setting} {s : Sym} {b : Bool} {st st' : State} → Marks set Function s st b st' → Accesses set (symbol s) st b st'
accesses_marked {set = set} {s = s} m =
    record { by = λ ev items e rest. m.by ev e rest (λ it. try_rules set.names it.definition.downs e Done (built_in set.names s items e rest)) }

pub accesses_int : {set : Setting} (m : ℤ) {st : State} → Accesses set (integer m) st false st
accesses_int m = record { by = λ ev items e rest. refl }

pub accesses_str : {set : Setting} (t : List ℕ) {st : State} → Accesses set (string t) st false st
accesses_str t = record { by = λ ev items e rest. refl }

pub accesses_call : {set : Setting} (h : Tree) (fs : Trees) {st : State} → Accesses set (normal h fs) st false st
accesses_call h fs = record { by = λ ev items e rest. refl }

pub sees_none : {set : Setting} {s : Sym} {st : State} → is_some (kind_in st.definitions.shared s) ≡ false → Sees set s st st
sees_none {set = set} {s = s} {st = st} is = record { by = λ ev q. go ev (q (seen set.names st.definitions s)) (kind_in st.definitions.shared s) is }
  where
    go : (ev : Evaluator) (p : Prog) (o : Option Share) → is_some o ≡ false → run set ev (marked o p) st ≡ run set ev p st
    go ev p None e = refl
    go ev p (Some k) e = absurd (Prim.cc e)

pub sees_some : {set : Setting} {s : Sym} {st : State} → is_some (kind_in st.definitions.shared s) ≡ true → Sees set s st (now_used st)
sees_some {set = set} {s = s} {st = st} is = record { by = λ ev q. go ev (q (seen set.names st.definitions s)) (kind_in st.definitions.shared s) is }
  where
    go : (ev : Evaluator) (p : Prog) (o : Option Share) → is_some o ≡ true → run set ev (marked o p) st ≡ run set ev p (now_used st)
    go ev p None e = absurd (Prim.cc e)
    go ev p (Some k) e = refl

pub ruleset sees_steps = (sees_none, sees_some)

pub ruleset marks_steps = (marks_none, marks_some)

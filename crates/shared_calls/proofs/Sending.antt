-- Accesses are sent.
use Rattle.std.proofs.Common.{◌≡◌, ◌∙◌, refl, ap, List, Bool, true, false, Some, None}
use Rattle.std.specs.Prelude.{Option, is_some}
use Rattle.expr_tree.specs.declared.sym.Sym.{Sym}
use Rattle.expr_tree.specs.Tree.{Tree, symbol}
use Rattle.semantics.specs.Definitions.{Share, Shared, Variable, Function}
use Rattle.semantics.specs.Program.{Prog, Done, Look, Outer, Moded, Mode, Cell, Item, Service, Access}
use Rattle.semantics.specs.Sections.{access_or, accessed, same_share, unless_identical}
use Rattle.semantics.specs.Attempt.{try_rules}
use Rattle.semantics.specs.Pass.{own_value, marked, built_in}
use Rattle.semantics.specs.Play.{State, Setting, Evaluator, run, now_used, seen}
use Rattle.shared_calls.specs.Access.{kind_in, is_shared_as}
use Rattle.shared_calls.specs.Sent.{AccessesAreSent, sent_or}

by_mode : (m : Mode) (set : Setting) (ev : Evaluator) (e : Tree) (stay p : Prog) (s : State)
    → run set ev (elim m [ Item ↦ Outer (Access e) (unless_identical e stay) | _ ↦ p ]) s
    ≡ elim m [ Item ↦ run set ev (Outer (Access e) (unless_identical e stay)) s | _ ↦ run set ev p s ]
by_mode Cell set ev e stay p s = refl
by_mode Item set ev e stay p s = refl
by_mode Service set ev e stay p s = refl

sent_where : (b : Bool) (set : Setting) (ev : Evaluator) (e : Tree) (stay p : Prog) (s : State)
    → run set ev (elim b [ true ↦ Moded (λ mode kernel. elim mode [ Item ↦ Outer (Access e) (unless_identical e stay) | _ ↦ p ]) | false ↦ p ]) s ≡ sent_or b set ev e stay p s
sent_where true set ev e stay p s = by_mode set.mode set ev e stay p (now_used s)
sent_where false set ev e stay p s = refl

pub sent : (o : Option Share) (kind : Share) (set : Setting) (ev : Evaluator) (e : Tree) (stay p : Prog) (s : State)
    → run set ev (access_or o kind e stay p) s ≡ sent_or (is_shared_as kind o) set ev e stay p s
sent None kind set ev e stay p s = refl
sent (Some k) kind set ev e stay p s = sent_where (same_share k kind) set ev e stay p s

told : (b : Bool) (x : Sym) → b ≡ is_some (elim b [ true ↦ Some x | false ↦ None ])
told true x = refl
told false x = refl

abbrev program_for : Option (Sym × Share) → Tree → Prog → Prog → Prog
program_for a e stay p = elim a [ None ↦ p | Some b ↦ Look b.0 (λ seen. access_or seen.shared b.1 e stay p) ]

abbrev symbol_for : List Shared → Option (Sym × Share) → Option Sym
symbol_for shared a =
    elim a [ None ↦ None | Some b ↦ elim (is_shared_as b.1 (kind_in shared b.0)) [ true ↦ Some b.0 | false ↦ None ] ]

told_sent : (b : Bool) (x : Sym) (set : Setting) (ev : Evaluator) (e : Tree) (stay p : Prog) (s : State)
    → sent_or b set ev e stay p s ≡ sent_or (is_some (elim b [ true ↦ Some x | false ↦ None ])) set ev e stay p s
told_sent b x set ev e stay p s = ap (λ k. sent_or k set ev e stay p s) (told b x)

change_sent : (a : Option (Sym × Share)) (set : Setting) (ev : Evaluator) (e : Tree) (stay p : Prog) (s : State)
    → run set ev (program_for a e stay p) s ≡ sent_or (is_some (symbol_for s.definitions.shared a)) set ev e stay p s
change_sent None set ev e stay p s = refl
change_sent (Some a) set ev e stay p s =
    sent (kind_in s.definitions.shared a.0) a.1 set ev e stay p s ∙ told_sent (is_shared_as a.1 (kind_in s.definitions.shared a.0)) a.0 set ev e stay p s

pub all_sent : AccessesAreSent
all_sent =
    record {
      symbols = λ set ev x s.
          let p : Prog = marked (kind_in s.definitions.shared x) (own_value set.names x (seen set.names s.definitions x)) in
          sent (kind_in s.definitions.shared x) Variable set ev (symbol x) (Done (symbol x)) p s
          ∙ told_sent (is_shared_as Variable (kind_in s.definitions.shared x)) x set ev (symbol x) (Done (symbol x)) p s;
      calls = λ set ev f items e stay s.
          sent (kind_in s.definitions.shared f) Function set ev e stay
          (marked (kind_in s.definitions.shared f) (try_rules set.names (seen set.names s.definitions f).definition.downs e Done (built_in set.names f items e stay))) s;
      changes = λ set ev h items e stay p s. change_sent (accessed set.names h items) set ev e stay p s;
    }

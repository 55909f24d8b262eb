-- That the programs of passes send accesses, in mode Item, and nothing else that could be one.
--     sent_or               an access is sent in mode Item, and is an ordinary evaluation elsewhere
--     AccessesAreSent       of a symbol, of f[..] with a symbol f, and of a row that changes its first item
use Rattle.std.specs.Prelude.{◌≡◌, List, Bool, true, false, is_some}
use Rattle.expr_tree.specs.declared.sym.Sym.{Sym}
use Rattle.expr_tree.specs.Tree.{Tree, symbol}
use Rattle.semantics.specs.Definitions.{Function}
use Rattle.semantics.specs.Program.{Prog, Done, Outer, Item, Access}
use Rattle.semantics.specs.Attempt.{try_rules}
use Rattle.semantics.specs.Sections.{unless_access, unless_identical}
use Rattle.semantics.specs.Pass.{symbol_pass, own_value, marked, down_rules, built_in}
use Rattle.semantics.specs.Play.{State, Play, Setting, Evaluator, run, seen, now_used}
use Rattle.shared_calls.specs.Access.{kind_in, is_shared_as, changed, access_in}

-- `stay` follows a reply identical to what was sent
abbrev pub sent_or : Bool → Setting → Evaluator → Tree → Prog → Prog → State → Play
sent_or false set ev e stay p s = run set ev p s
sent_or true set ev e stay p s = elim set.mode [ Item ↦ run set ev (Outer (Access e) (unless_identical e stay)) (now_used s) | _ ↦ run set ev p (now_used s) ]

pub record AccessesAreSent : Type 0 where
  pub symbols : (set : Setting) (ev : Evaluator) (x : Sym) (s : State)
      → run set ev (symbol_pass set.names x) s
      ≡ sent_or (is_some (access_in set.names s.definitions.shared (symbol x))) set ev (symbol x) (Done (symbol x))
      (marked (kind_in s.definitions.shared x) (own_value set.names x (seen set.names s.definitions x))) s
  pub calls : (set : Setting) (ev : Evaluator) (f : Sym) (items : List Tree) (e : Tree) (stay : Prog) (s : State)
      → run set ev (down_rules set.names (symbol f) items e stay) s
      ≡ sent_or (is_shared_as Function (kind_in s.definitions.shared f)) set ev e stay
      (marked (kind_in s.definitions.shared f) (try_rules set.names (seen set.names s.definitions f).definition.downs e Done (built_in set.names f items e stay))) s
  pub changes : (set : Setting) (ev : Evaluator) (h : Tree) (items : List Tree) (e : Tree) (stay p : Prog) (s : State)
      → run set ev (unless_access set.names h items e stay p) s ≡ sent_or (is_some (changed set.names s.definitions.shared h items)) set ev e stay p s

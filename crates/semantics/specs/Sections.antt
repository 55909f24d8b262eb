-- The mode table: what the parallel forms, sections, Quit, Print and accesses of shared symbols do in a cell, in an item and in a service.
-- A form in a shape that is not named stays, which is decided before any call.
--     outside_or            one way in a cell outside a section, another one else
--     outer                 the form as it stands is sent outward
--     critical_section, quit, print      these rows
--     parallel_map, parallel_combine, parallel_try, parallel_loop, wait_all      forms that have a sequential meaning
--     outside_or_failed, outside_only    forms that have none
--     access_or, unless_access           in an item an access is sent, elsewhere it is an ordinary evaluation
use Rattle.std.specs.Prelude.{ℕ, List, [], ◌∷◌, ◌++◌, length, leb, Bool, true, false, ◌&&◌, ◌||◌, not, Option, Some, None, is_some}
use Rattle.expr_tree.specs.declared.sym.Sym.{Sym}
use Rattle.expr_tree.specs.Tree.{Tree, integer, string, symbol, normal, Trees, nil, cons, call}
use Rattle.expr_tree.specs.Order.{same}
use Rattle.semantics.specs.declared.builtin.Builtin.{Builtin}
use Rattle.semantics.specs.Names.{Names, is_name, is_call, items_of, make}
use Rattle.semantics.specs.Definitions.{Share, Variable, Function, has}
use Rattle.semantics.specs.Program.{Prog, Done, Ask, Check, Section, Open, Look, Quits, Outer, Moded, Shown, Cell, Item, Service, Access, Print, Outside}
use Rattle.semantics.specs.Control.{failed, null, applied, iterator}
use Rattle.semantics.specs.Scoping.{symbols_in}

-- without locks there is no section
abbrev pub section : List Sym → Tree → Prog
section [] body = Ask body Done
section (l ∷ ls) body = Section (l ∷ ls) body Done

abbrev pub critical_section : Names → Prog → List Tree → Prog
critical_section names stay (locks ∷ body ∷ []) =
    elim (is_call names Builtin.List locks) [
      | false ↦ stay
      | true ↦ elim (symbols_in (items_of locks)) [
        | None ↦ stay
        | Some ss ↦ Moded (λ mode kernel. elim mode [ Service ↦ failed names | _ ↦ section ss body ])
      ]
    ]
critical_section names stay _ = stay

abbrev pub quit : Names → Prog → List Tree → Prog
quit names stay [] = Moded (λ mode kernel. elim mode [ Item ↦ Quits | _ ↦ failed names ])
quit names stay _ = stay

-- a form that is one call in a cell outside a section, and `inside` else
abbrev pub outside_or : Prog → Prog → Prog
outside_or outside inside =
    Moded (λ mode kernel. elim mode [
      | Cell ↦ Open (λ open_section. elim open_section [ None ↦ outside | Some held ↦ inside ])
      | _ ↦ inside
    ])

abbrev pub outer : Names → Builtin → List Tree → Prog
outer names form es = Outer (Outside (make names form es)) Done

abbrev pub is_option : Names → Tree → Bool
is_option names (normal h (cons m (cons v nil))) = is_name names Builtin.Rule h && is_name names Builtin.Method m
is_option names _ = false

-- a form that is sequential leaves out the option
abbrev pub without_option : Names → List Tree → List Tree
without_option names [] = []
without_option names (e ∷ []) = elim (is_option names e) [ true ↦ [] | false ↦ e ∷ [] ]
without_option names (e ∷ f ∷ es) = e ∷ without_option names (f ∷ es)

-- an option is one only where it stands last
abbrev pub is_last_option : Names → Tree → List Tree → Bool
is_last_option names e [] = is_option names e
is_last_option names e (f ∷ es) = false

-- ParallelMap[f, l], with or without an option; elsewhere Map. With an option and no list it stays
abbrev pub parallel_map : Names → Prog → List Tree → Prog
parallel_map names stay (f ∷ l ∷ []) =
    elim (is_option names l) [ true ↦ stay | false ↦ outside_or (outer names Builtin.ParallelMap (f ∷ l ∷ [])) (Done (make names Builtin.Map (f ∷ l ∷ []))) ]
parallel_map names stay (f ∷ l ∷ o ∷ []) =
    elim (is_option names o) [
      | true ↦ outside_or (outer names Builtin.ParallelMap (f ∷ l ∷ o ∷ [])) (Done (make names Builtin.Map (f ∷ l ∷ [])))
      | false ↦ stay
    ]
parallel_map names stay _ = stay

-- comb[f[h[..]]]; without comb it is h where h is a symbol that has Flat, else Join
abbrev pub combined : Names → Tree → Tree → List Tree → Prog
combined names f l (comb ∷ []) = Done (call comb (call f (l ∷ []) ∷ []))
combined names f (normal (symbol h) es) rest =
    Look h (λ seen.
    elim (has Builtin.Flat seen.definition.attributes) [
      | true ↦ Done (call (symbol h) (call f (normal (symbol h) es ∷ []) ∷ []))
      | false ↦ Done (make names Builtin.Join (call f (normal (symbol h) es ∷ []) ∷ []))
    ])
combined names f l rest = Done (make names Builtin.Join (call f (l ∷ []) ∷ []))

abbrev pub parallel_combine : Names → Prog → List Tree → Prog
parallel_combine names stay (f ∷ normal h es ∷ rest) =
    elim (leb (length (without_option names rest)) 1 && not (is_last_option names (normal h es) rest)) [
      | true ↦ outside_or (outer names Builtin.ParallelCombine (f ∷ normal h es ∷ rest)) (combined names f (normal h es) (without_option names rest))
      | false ↦ stay
    ]
parallel_combine names stay _ = stay

-- the elements in turn until a result is not $Failed
abbrev pub first_success : Names → Tree → List Tree → Prog
first_success names f [] = failed names
first_success names f (e ∷ es) = applied f (e ∷ []) (λ v. elim (is_name names Builtin.Failed v) [ true ↦ first_success names f es | false ↦ Done v ])

abbrev pub parallel_try : Names → Prog → List Tree → Prog
parallel_try names stay (f ∷ l ∷ []) =
    elim (is_call names Builtin.List l) [ true ↦ outside_or (outer names Builtin.ParallelTry (f ∷ l ∷ [])) (first_success names f (items_of l)) | false ↦ stay ]
parallel_try names stay _ = stay

-- the right side of the option is evaluated too
abbrev pub ask_option : Names → List Tree → (List Tree → Prog) → Prog
ask_option names [] k = k []
ask_option names (normal h (cons m (cons v nil)) ∷ []) k =
    elim (is_option names (normal h (cons m (cons v nil)))) [
      | true ↦ Ask v (λ w. k (normal h (cons m (cons w nil)) ∷ []))
      | false ↦ k (normal h (cons m (cons v nil)) ∷ [])
    ]
ask_option names (e ∷ []) k = k (e ∷ [])
ask_option names (e ∷ f ∷ es) k = ask_option names (f ∷ es) (λ gs. k (e ∷ gs))

-- a form that is put together anew counts as a result before it is sent
abbrev pub checked_outer : Names → Builtin → List Tree → Prog
checked_outer names form es = Check (make names form es) (outer names form es)

-- ParallelTable, ParallelDo and ParallelSum: in a cell one call, with the parts of the first iterator and the right side of the option as evaluated;
-- elsewhere Table, Do and Sum
abbrev pub parallel_loop : Names → Builtin → Builtin → Prog → List Tree → Prog
parallel_loop names form sequential stay (e ∷ it ∷ es) =
    elim (is_last_option names it es) [
      | true ↦ stay
      | false ↦ outside_or
          (iterator names it (λ i values parts. ask_option names es (λ fs. checked_outer names form (e ∷ make names Builtin.List parts ∷ fs))) stay)
          (Done (make names sequential (without_option names (e ∷ it ∷ es))))
    ]
parallel_loop names form sequential stay _ = stay

-- ParallelEvaluate and WaitNext: a call in a cell outside a section, and else they fail
abbrev pub outside_or_failed : Names → Builtin → Prog → List Tree → Prog
outside_or_failed names form stay (e ∷ []) = outside_or (outer names form (e ∷ [])) (failed names)
outside_or_failed names form stay _ = stay

-- where the queue is not seen every EvaluationObject[n] counts as an object
abbrev pub is_object : Names → Tree → Trees → Bool
is_object names h (cons (integer n) nil) = is_name names Builtin.EvaluationObject h
is_object names h _ = false

abbrev mutual
  pub has_object : Names → Tree → Bool
  has_object names (integer n) = false
  has_object names (string t) = false
  has_object names (symbol s) = false
  has_object names (normal h es) = is_object names h es || (has_object names h || any_object names es)

  pub any_object : Names → Trees → Bool
  any_object names nil = false
  any_object names (cons e es) = has_object names e || any_object names es

-- without an object the argument, in every mode
abbrev pub wait_all : Names → Prog → List Tree → Prog
wait_all names stay (e ∷ []) = elim (has_object names e) [ true ↦ outside_or (outer names Builtin.WaitAll (e ∷ [])) (failed names) | false ↦ Done e ]
wait_all names stay _ = stay

-- ParallelSubmit, DistributeDefinitions and sharing: one call in a cell, also inside a section, and elsewhere they fail
abbrev pub outside_only : Names → Builtin → Bool → Prog → List Tree → Prog
outside_only names form false stay es = stay
outside_only names form true stay es =
    Moded (λ mode kernel. elim mode [ Cell ↦ outer names form es | _ ↦ failed names ])

abbrev pub are_symbols : List Tree → Bool
are_symbols es = is_some (symbols_in es)

-- ParallelSubmit[e], or ParallelSubmit[{x, ..}, e] with symbols
abbrev pub is_submission : Names → List Tree → Bool
is_submission names (e ∷ []) = true
is_submission names (x ∷ e ∷ []) = is_call names Builtin.List x && are_symbols (items_of x)
is_submission names _ = false

abbrev pub parallel_submit : Names → Prog → List Tree → Prog
parallel_submit names stay es = outside_only names Builtin.ParallelSubmit (is_submission names es) stay es

-- the forms whose elements are symbols
abbrev pub of_symbols : Names → Builtin → Prog → List Tree → Prog
of_symbols names form stay es = outside_only names form (are_symbols es) stay es

-- Print: a text as its own bytes, any other value as an Out line shows it, one after the other
abbrev pub printed : (Tree → List ℕ) → List Tree → List ℕ
printed shown [] = []
printed shown (string t ∷ es) = t ++ printed shown es
printed shown (e ∷ es) = shown e ++ printed shown es

abbrev pub print : Names → List Tree → Prog
print names es = Moded (λ mode kernel. Shown (λ shown. Outer (Print (printed shown es)) (λ v. null names)))

-- the rows that are accesses where their first item is a shared variable; of these the first three also where it is f[..] for a shared function f
abbrev pub changes_value : Names → Tree → Bool
changes_value names h =
    is_name names Builtin.Increment h || is_name names Builtin.Decrement h || is_name names Builtin.PreIncrement h || is_name names Builtin.PreDecrement h
    || is_name names Builtin.AddTo h || is_name names Builtin.SubtractFrom h || is_name names Builtin.TimesBy h
    || is_name names Builtin.AppendTo h || is_name names Builtin.PrependTo h || is_name names Builtin.Clear h

abbrev pub changes_rule : Names → Tree → Bool
changes_rule names h = is_name names Builtin.Set h || is_name names Builtin.SetDelayed h || is_name names Builtin.Unset h

-- the symbol whose sharing makes h[items] an access, and how it has to be shared
abbrev pub accessed : Names → Tree → List Tree → Option (Sym × Share)
accessed names h (symbol s ∷ es) = elim (changes_rule names h || changes_value names h) [ true ↦ Some (s, Variable) | false ↦ None ]
accessed names h (normal (symbol f) as' ∷ es) = elim (changes_rule names h) [ true ↦ Some (f, Function) | false ↦ None ]
accessed names h _ = None

abbrev pub same_share : Share → Share → Bool
same_share Variable Variable = true
same_share Function Function = true
same_share _ _ = false

-- a reply identical to what was sent is no result of the pass
abbrev pub unless_identical : Tree → Prog → Tree → Prog
unless_identical e stay v = elim (same v e) [ true ↦ stay | false ↦ Done v ]

-- an access of a symbol that is seen to be shared so: in mode Item the event, else p
abbrev pub access_or : Option Share → Share → Tree → Prog → Prog → Prog
access_or None kind e stay p = p
access_or (Some k) kind e stay p =
    elim (same_share k kind) [ true ↦ Moded (λ mode kernel. elim mode [ Item ↦ Outer (Access e) (unless_identical e stay) | _ ↦ p ]) | false ↦ p ]

abbrev pub unless_access : Names → Tree → List Tree → Tree → Prog → Prog → Prog
unless_access names h items e stay p =
    elim (accessed names h items) [ None ↦ p | Some a ↦ Look a.0 (λ seen. access_or seen.shared a.1 e stay p) ]

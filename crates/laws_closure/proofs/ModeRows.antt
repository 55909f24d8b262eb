-- The rows of the mode table: in a shape that is not named they stay, and else they are a use of the mode.
use Rattle.std.proofs.Common.{Bool, true, false, List, [], ◌∷◌, length, Option, Some, None}
use Rattle.std.specs.Prelude.{leb, ◌&&◌, not}
use Rattle.expr_tree.specs.declared.sym.Sym.{Sym}
use Rattle.expr_tree.specs.Tree.{Tree, normal}
use Rattle.semantics.specs.declared.builtin.Builtin.{Builtin}
use Rattle.semantics.specs.Names.{is_call, items_of}
use Rattle.semantics.specs.Program.{Prog, Moded, Service}
use Rattle.semantics.specs.Control.{failed}
use Rattle.semantics.specs.Scoping.{symbols_in}
use Rattle.semantics.specs.Sections.{section, critical_section, quit, is_option, is_last_option, without_option, parallel_map, parallel_combine, parallel_try, parallel_loop, outside_or_failed, has_object, wait_all, outside_only, are_symbols, is_submission, parallel_submit, of_symbols, print}
use Rattle.laws_closure.proofs.Programs.{Realm, HasAll, Both, done, moded, Later, now, branch}

module _ (R : Realm) where
  open R use {names, World}

  pub critical_section_both : (w : World) (p q : Prog) (es : List Tree) → Later R w p q → Both R w (critical_section names p es) (critical_section names q es)
  critical_section_both w p q (locks ∷ body ∷ []) next = go (is_call names Builtin.List locks) (symbols_in (items_of locks))
    where
      go : (b : Bool) (o : Option (List Sym)) → Both R w
          (elim b [ false ↦ p | true ↦ elim o [ None ↦ p | Some ss ↦ Moded (λ mode kernel. elim mode [ Service ↦ failed names | _ ↦ section ss body ]) ] ])
          (elim b [ false ↦ q | true ↦ elim o [ None ↦ q | Some ss ↦ Moded (λ mode kernel. elim mode [ Service ↦ failed names | _ ↦ section ss body ]) ] ])
      go false o = now R w next
      go true None = now R w next
      go true (Some ss) = moded
  critical_section_both w p q _ next = now R w next

  pub quit_both : (w : World) (p q : Prog) (es : List Tree) → Later R w p q → Both R w (quit names p es) (quit names q es)
  quit_both w p q [] next = moded
  quit_both w p q (e ∷ es) next = now R w next

  pub parallel_map_both : (w : World) (p q : Prog) (es : List Tree) → Later R w p q → Both R w (parallel_map names p es) (parallel_map names q es)
  parallel_map_both w p q (f ∷ l ∷ []) next = branch R w (is_option names l) (now R w next) moded
  parallel_map_both w p q (f ∷ l ∷ o ∷ []) next = branch R w (is_option names o) moded (now R w next)
  parallel_map_both w p q _ next = now R w next

  pub parallel_combine_both : (w : World) (p q : Prog) (es : List Tree) → Later R w p q → Both R w (parallel_combine names p es) (parallel_combine names q es)
  parallel_combine_both w p q (f ∷ normal h es ∷ rest) next =
      branch R w (leb (length (without_option names rest)) 1 && not (is_last_option names (normal h es) rest)) moded (now R w next)
  parallel_combine_both w p q _ next = now R w next

  pub parallel_try_both : (w : World) (p q : Prog) (es : List Tree) → Later R w p q → Both R w (parallel_try names p es) (parallel_try names q es)
  parallel_try_both w p q (f ∷ l ∷ []) next = branch R w (is_call names Builtin.List l) moded (now R w next)
  parallel_try_both w p q _ next = now R w next

  pub parallel_loop_both : (form sequential : Builtin) (w : World) (p q : Prog) (es : List Tree) → Later R w p q
      → Both R w (parallel_loop names form sequential p es) (parallel_loop names form sequential q es)
  parallel_loop_both form sequential w p q (e ∷ it ∷ es) next = branch R w (is_last_option names it es) (now R w next) moded
  parallel_loop_both form sequential w p q [] next = now R w next
  parallel_loop_both form sequential w p q (e ∷ []) next = now R w next

  pub outside_or_failed_both : (form : Builtin) (w : World) (p q : Prog) (es : List Tree) → Later R w p q → Both R w (outside_or_failed names form p es) (outside_or_failed names form q es)
  outside_or_failed_both form w p q (e ∷ []) next = moded
  outside_or_failed_both form w p q _ next = now R w next

  pub wait_all_both : (w : World) (p q : Prog) (es : List Tree) → Later R w p q → HasAll R w es → Both R w (wait_all names p es) (wait_all names q es)
  wait_all_both w p q (e ∷ []) next all = branch R w (has_object names e) moded (done all.0)
  wait_all_both w p q _ next all = now R w next

  outside_only_both : (form : Builtin) (b : Bool) (w : World) (p q : Prog) (es : List Tree) → Later R w p q → Both R w (outside_only names form b p es) (outside_only names form b q es)
  outside_only_both form false w p q es next = now R w next
  outside_only_both form true w p q es next = moded

  pub parallel_submit_both : (w : World) (p q : Prog) (es : List Tree) → Later R w p q → Both R w (parallel_submit names p es) (parallel_submit names q es)
  parallel_submit_both w p q es next = outside_only_both Builtin.ParallelSubmit (is_submission names es) w p q es next

  pub of_symbols_both : (form : Builtin) (w : World) (p q : Prog) (es : List Tree) → Later R w p q → Both R w (of_symbols names form p es) (of_symbols names form q es)
  of_symbols_both form w p q es next = outside_only_both form (are_symbols es) w p q es next

  pub print_both : (w : World) (es : List Tree) → Both R w (print names es) (print names es)
  print_both w es = moded

-- A form that may come inside a section waits for nothing.
use Rattle.std.proofs.Common.{◌≡◌, refl, sym, ap, subst, ◌∙◌, ℕ, Bool, true, false, T, List, [], ◌∷◌, Option, Some, None, eqb-true, true≢false}
use Rattle.std.specs.Prelude.{◌&&◌, ◌||◌, ◌==◌}
use Rattle.expr_tree.specs.declared.sym.Sym.{Sym}
use Rattle.expr_tree.specs.declared.limits.Stop.{Stop}
use Rattle.expr_tree.specs.Tree.{Tree, integer, string, symbol, normal, Trees, elements}
use Rattle.semantics.specs.declared.builtin.Builtin.{Builtin}
use Rattle.semantics.specs.Names.{IsNames, is_known, is_call, items_of, role_of}
use Rattle.semantics.specs.Scoping.{symbols_in}
use Rattle.semantics.specs.Sections.{are_symbols, is_submission}
use Rattle.semantics.specs.Definitions.{Definitions, Share}
use Rattle.semantics.specs.Program.{Mode, Sends, Outside}
use Rattle.semantics.specs.Play.{Reply}
use Rattle.journal.specs.declared.event.Wait.{Wait}
use Rattle.journal.specs.declared.item.Item.{Item}
use Rattle.journal.specs.Core.{Setup, Core}
use Rattle.journal.specs.Forms.{Next, Replies, Awaits, Form, Answers, Submits, refusal, unless_refused, object_of, submit_one, submit_with, submit, distribute, cannot_share, share, by_role, form}
use Rattle.laws_calls.specs.Calls.{is_one_of, outside_alone, may_come}

-- what may follow inside a section or outside one
pub data NextWaits (inside : Bool) : Next → Type 0 where
  replies : {r : Reply} → NextWaits inside (Replies r)
  awaits : {w : Wait} {k : List Tree → Reply} → inside ≡ false → NextWaits inside (Awaits w k)

pub data FormWaits (inside : Bool) : Form → Type 0 where
  answers : {r : Reply} {d : Definitions} → FormWaits inside (Answers r d)
  submits : {items : List Item} {k : List ℕ → Next} → ((ids : List ℕ) → NextWaits inside (k ids)) → FormWaits inside (Submits items k)

any_next : (n : Next) → NextWaits false n
any_next (Replies r) = replies
any_next (Awaits w k) = awaits refl

any_form : (f : Form) → FormWaits false f
any_form (Answers r d) = answers
any_form (Submits items k) = submits (λ ids. any_next (k ids))

abbrev N : Form → Type 0
N = FormWaits true

either : (b : Bool) {p q : Form} → N p → N q → N (elim b [ true ↦ p | false ↦ q ])
either true one other = one
either false one other = other

module _ (set : Setup) (c : Core) (d : Definitions) where
  unless_refused-waits : (es : List Tree) {f : Form} → N f → N (unless_refused set d es f)
  unless_refused-waits es {f} one = go (refusal set.limits es)
    where
      go : (o : Option Stop) → N (elim o [ None ↦ f | Some cause ↦ Answers (Reply.Halted cause) d ])
      go None = one
      go (Some cause) = answers

  object_of-waits : (ids : List ℕ) → NextWaits true (object_of set.names ids)
  object_of-waits [] = replies
  object_of-waits (id ∷ []) = replies
  object_of-waits (id ∷ i ∷ ids) = replies

  submit_one-waits : (e : Tree) → N (submit_one set d e)
  submit_one-waits e = unless_refused-waits (e ∷ []) (submits object_of-waits)

  submit_with-waits : (stay e : Tree) (o : Option (List Sym)) → N (submit_with set d stay e o)
  submit_with-waits stay e None = answers
  submit_with-waits stay e (Some ss) = submit_one-waits _

  submit-waits : (stay : Tree) (es : List Tree) → N (submit set d stay es)
  submit-waits stay (e ∷ []) = submit_one-waits e
  submit-waits stay (x ∷ e ∷ []) = either (is_call set.names Builtin.List x) (submit_with-waits stay e (symbols_in (items_of x))) answers
  submit-waits stay [] = answers
  submit-waits stay (x ∷ e ∷ f ∷ es) = answers

  distribute-waits : (stay : Tree) (o : Option (List Sym)) → N (distribute set d stay o)
  distribute-waits stay None = answers
  distribute-waits stay (Some ss) = answers

  share-waits : (stay : Tree) (kind : Share) (o : Option (List Sym)) → N (share set d stay kind o)
  share-waits stay kind None = answers
  share-waits stay kind (Some ss) = either (cannot_share set.names d kind ss) answers answers

  -- where the two functions of names agree, what is called a row has its role
  module _ (good : IsNames set.names) where
    role_is : (row : Builtin) (s : Sym) → is_known set.names row s ≡ true → role_of set.names s ≡ Some row
    role_is row s is = go (s.number == 0) refl
      where
        based : (b : Bool) → (s.number == 0) ≡ b → (s.base == set.names.place row) ≡ true
        based true e = sym (λ i. e i && (s.base == set.names.place row)) ∙ is
        based false e = absurd (true≢false (sym is ∙ (λ i. e i && (s.base == set.names.place row))))

        go : (b : Bool) → (s.number == 0) ≡ b → elim b as (λ _. Option Builtin) [ true ↦ set.names.role s.base | false ↦ None ] ≡ Some row
        go true e = ap set.names.role (eqb-true s.base (set.names.place row) (based true e)) ∙ good.found row
        go false e = absurd (true≢false (sym is ∙ (λ i. e i && (s.base == set.names.place row))))

    as_row : (stay : Tree) (row : Builtin) (s : Sym) (es : List Tree) → is_known set.names row s ≡ true → N (by_role set c d stay (Some row) es) → N (by_role set c d stay (role_of set.names s) es)
    as_row stay row s es is one = subst (λ o. N (by_role set c d stay o es)) (sym (role_is row s is)) one

    of_symbol : (s : Sym) (es : Trees) → T (may_come set.names Mode.Cell true (Sends (Outside (normal (symbol s) es)))) → N (form set c d (normal (symbol s) es))
    of_symbol s es may = go (is_known set.names Builtin.ParallelSubmit s) (is_known set.names Builtin.DistributeDefinitions s) (is_known set.names Builtin.SetSharedVariable s)
        (is_known set.names Builtin.SetSharedFunction s) refl refl refl refl may
      where
        e : Tree
        e = normal (symbol s) es

        fs : List Tree
        fs = elements es

        go : (one two three four : Bool) → is_known set.names Builtin.ParallelSubmit s ≡ one → is_known set.names Builtin.DistributeDefinitions s ≡ two
            → is_known set.names Builtin.SetSharedVariable s ≡ three → is_known set.names Builtin.SetSharedFunction s ≡ four
            → T ((one && is_submission set.names fs || (two && are_symbols fs || (three && are_symbols fs || (four && are_symbols fs || false))))
            || (false && is_one_of set.names (outside_alone set.names) e))
            → N (by_role set c d e (role_of set.names s) fs)
        go true two three four is j k l h = as_row e Builtin.ParallelSubmit s fs is (submit-waits e fs)
        go false true three four i is k l h = as_row e Builtin.DistributeDefinitions s fs is (distribute-waits e (symbols_in fs))
        go false false true four i j is l h = as_row e Builtin.SetSharedVariable s fs is (share-waits e Share.Variable (symbols_in fs))
        go false false false true i j k is h = as_row e Builtin.SetSharedFunction s fs is (share-waits e Share.Function (symbols_in fs))
        go false false false false i j k l h = absurd h

    inside : (e : Tree) → T (may_come set.names Mode.Cell true (Sends (Outside e))) → N (form set c d e)
    inside (integer n) may = answers
    inside (string t) may = answers
    inside (symbol s) may = answers
    inside (normal (symbol s) es) may = of_symbol s es may
    inside (normal (integer n) es) may = answers
    inside (normal (string t) es) may = answers
    inside (normal (normal h fs) es) may = answers

    pub form-waits : (now : Bool) (e : Tree) → T (may_come set.names Mode.Cell now (Sends (Outside e))) → FormWaits now (form set c d e)
    form-waits false e may = any_form (form set c d e)
    form-waits true e may = inside e may

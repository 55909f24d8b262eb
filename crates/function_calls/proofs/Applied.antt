-- What the application of a Function comes to.
use Rattle.std.proofs.Common.{◌≡◌, ◌≢◌, refl, ap, sym, subst, ◌∙◌, Bool, true, false, List, [], ◌∷◌, Option, Some, None, Result, Ok, Err, length, get_or, arith}
use Rattle.expr_tree.specs.declared.sym.Sym.{Sym}
use Rattle.expr_tree.specs.Tree.{Tree}
use Rattle.expr_tree.specs.Substitution.{Binding}
use Rattle.semantics.specs.Names.{Names}
use Rattle.semantics.specs.InPlace.{fill_slots, put_in_place}
use Rattle.semantics.specs.Program.{Prog, Done, Quits}
use Rattle.semantics.specs.Scoping.{parameters, differ, paired, put_arguments, apply_function}
use Rattle.semantics.specs.Table.{as_program}
use Rattle.semantics.specs.Worked.{Worked, Stays, Gives, TooWide}
use Rattle.builtin_names.specs.Results.{Works}
use Rattle.builtin_names.specs.declared.fault.Fault.{Fault}
use Rattle.builtin_names.specs.declared.fault.Fault.TheVariants.{NoMemory}
use Rattle.function_calls.specs.Applies.{Applies}

abbrev made_in : Prog → Worked
made_in (Done e) = Gives e
made_in _ = Stays

abbrev applied : Names → List Tree → List Tree → Worked
applied names parts args = made_in (apply_function names Quits parts args)

abbrev with_symbols : (List Sym → Prog) → Prog → Option (List Sym) → Prog
with_symbols k stay o = elim o [ None ↦ stay | Some ss ↦ k ss ]

abbrev with_binding : Names → Tree → Prog → Option Binding → Prog
with_binding names body stay o = elim o [ None ↦ stay | Some b ↦ Done (put_in_place names b body) ]

abbrev if_differ : Names → Tree → Prog → Bool → Option Binding → Prog
if_differ names body stay t o = elim t [ false ↦ stay | true ↦ with_binding names body stay o ]

agrees : (names : Names) (parts args : List Tree) (stay : Prog) → apply_function names stay parts args ≡ as_program stay (applied names parts args)
agrees names [] args stay = refl
agrees names (body ∷ []) args stay = refl
agrees names (x ∷ body ∷ []) args stay = under (parameters names x)
  where
    bind : (t : Bool) (o : Option Binding) → if_differ names body stay t o ≡ as_program stay (made_in (if_differ names body Quits t o))
    bind false o = refl
    bind true None = refl
    bind true (Some b) = refl

    under : (o : Option (List Sym)) → with_symbols (λ ss. put_arguments names ss args body stay) stay o ≡ as_program stay (made_in (with_symbols (λ ss. put_arguments names ss args body Quits) Quits o))
    under None = refl
    under (Some ss) = bind (differ ss) (paired ss args)
agrees names (x ∷ body ∷ y ∷ parts) args stay = refl

answered : (names : Names) (parts args : List Tree) (w : Worked) (r : Result (Option Tree) Fault) → applied names parts args ≡ w → Works w r → Applies names parts args r
answered names parts args w r is works = record {
  made = applied names parts args;
  is = agrees names parts args;
  works = subst (λ v. Works v r) (sym is) works;
}

-- want of memory is an answer for anything
wanting : (w : Worked) → Works w (Err NoMemory)
wanting Stays = record { by = tt }
wanting (Gives e) = record { by = tt }
wanting TooWide = record { by = tt }

pub no_memory : (names : Names) (parts args : List Tree) → Applies names parts args (Err NoMemory)
no_memory names parts args = answered names parts args (applied names parts args) (Err NoMemory) refl (wanting (applied names parts args))

pub no_parameters : (names : Names) (x body : Tree) (args : List Tree) → parameters names x ≡ None → Applies names (x ∷ body ∷ []) args (Ok None)
no_parameters names x body args none' =
    answered names (x ∷ body ∷ []) args Stays (Ok None) (ap (λ o. made_in (with_symbols (λ ss. put_arguments names ss args body Quits) Quits o)) none') (record { by = tt })

named : (names : Names) (x body : Tree) (args : List Tree) (ss : List Sym) (t : Bool) (o : Option Binding) → parameters names x ≡ Some ss → differ ss ≡ t → paired ss args ≡ o
    → applied names (x ∷ body ∷ []) args ≡ made_in (if_differ names body Quits t o)
named names x body args ss t o is alike pairs =
    ap (λ p. made_in (with_symbols (λ ss. put_arguments names ss args body Quits) Quits p)) is ∙ (λ i. made_in (if_differ names body Quits (alike i) (pairs i)))

pub not_different : (names : Names) (x body : Tree) (args : List Tree) (ss : List Sym) → parameters names x ≡ Some ss → differ ss ≡ false → Applies names (x ∷ body ∷ []) args (Ok None)
not_different names x body args ss is alike =
    answered names (x ∷ body ∷ []) args Stays (Ok None) (named names x body args ss false (paired ss args) is alike refl) (record { by = tt })

pub too_few : (names : Names) (x body : Tree) (args : List Tree) (ss : List Sym) → parameters names x ≡ Some ss → differ ss ≡ true → paired ss args ≡ None → Applies names (x ∷ body ∷ []) args (Ok None)
too_few names x body args ss is different none' =
    answered names (x ∷ body ∷ []) args Stays (Ok None) (named names x body args ss true None is different none') (record { by = tt })

pub bound : (names : Names) (x body : Tree) (args : List Tree) (ss : List Sym) (b : Binding) (r : Result (Option Tree) Fault) → parameters names x ≡ Some ss → differ ss ≡ true → paired ss args ≡ Some b
    → Works (Gives (put_in_place names b body)) r → Applies names (x ∷ body ∷ []) args r
bound names x body args ss b r is different some works =
    answered names (x ∷ body ∷ []) args (Gives (put_in_place names b body)) r (named names x body args ss true (Some b) is different some) works

pub ruleset named_steps = (no_memory, no_parameters, not_different, too_few, bound)

pub pure : (names : Names) (parts args : List Tree) (body : Tree) (r : Result (Option Tree) Fault) → length parts ≡ 1 → body ≡ get_or parts 0 body → Works (Gives (fill_slots names args body)) r → Applies names parts args r
pure names [] args body r one is works = absurd (omega (arith, one))
pure names (e ∷ []) args body r one is works = answered names (e ∷ []) args (Gives (fill_slots names args body)) r (ap (λ f. Gives (fill_slots names args f)) (sym is)) works
pure names (e ∷ f ∷ es) args body r one is works = absurd (omega (arith, one))

pub two : (names : Names) (parts args : List Tree) (x body : Tree) (r : Result (Option Tree) Fault) → length parts ≡ 2 → x ≡ get_or parts 0 x → body ≡ get_or parts 1 body → Applies names (x ∷ body ∷ []) args r → Applies names parts args r
two names [] args x body r long a b applies = absurd (omega (arith, long))
two names (e ∷ []) args x body r long a b applies = absurd (omega (arith, long))
two names (e ∷ f ∷ []) args x body r long a b applies = subst (λ ps. Applies names ps args r) (λ i. a i ∷ b i ∷ []) applies
two names (e ∷ f ∷ g ∷ es) args x body r long a b applies = absurd (omega (arith, long))

pub other : (names : Names) (parts args : List Tree) → length parts ≢ 1 → length parts ≢ 2 → Applies names parts args (Ok None)
other names [] args one long = answered names [] args Stays (Ok None) refl (record { by = tt })
other names (e ∷ []) args one long = absurd (one refl)
other names (e ∷ f ∷ []) args one long = absurd (long refl)
other names (e ∷ f ∷ g ∷ es) args one long = answered names (e ∷ f ∷ g ∷ es) args Stays (Ok None) refl (record { by = tt })

pub ruleset apply_steps = (no_memory, pure, two, other)

-- How what is shown of programs is put together.
use Rattle.std.proofs.Common.{◌≡◌, List, [], ◌∷◌, map, Bool, Option, Some, None, Result, Ok, Err, ap, sym, subst}
use Rattle.expr_tree.specs.declared.sym.Sym.{Sym}
use Rattle.expr_tree.specs.declared.limits.Limits.{Limits}
use Rattle.expr_tree.specs.declared.limits.Stop.{Stop}
use Rattle.expr_tree.specs.Tree.{Tree}
use Rattle.semantics.specs.Names.{Names}
use Rattle.semantics.specs.Definitions.{Definition, Definitions, definition_of}
use Rattle.semantics.specs.Program.{Prog, Ask, Check, look_all}
use Rattle.semantics.specs.Match.{Found, matches, heads}
use Rattle.semantics.specs.Attempt.{told, try_bindings}
use Rattle.semantics.specs.Play.{too_large}
use Rattle.semantics.specs.Rule.{Rule}
use Rattle.evaluation_steps.specs.declared.Halt.{Halt}
use Rattle.evaluation_steps.specs.Moves.{Try, Guards, Yields, Fails, turning}
use Rattle.evaluation_steps.specs.Stopping.{HaltsFor}
use Rattle.rule_frames.specs.Reading.{Shows, same, fitting, looked, HasStopped, large, passing, looking, Goes, Tried}
use Rattle.rule_frames.specs.Rules.{rules_left, or_rules}

abbrev pub Part : Type 0
Part = (Option Tree → Prog) → Prog

module _ {names : Names} {d : Definitions} {limits : Limits} where
  pub shows_on : {p q r : Prog} → Shows names d limits p q → Shows names d limits q r → Shows names d limits p r
  shows_on same t = t
  shows_on (fitting f s) t = fitting f (shows_on s t)
  shows_on (looked s) t = looked (shows_on s t)

  pub shows_stop : {p q : Prog} {c : Stop} → Shows names d limits p q → HasStopped names d limits q c → HasStopped names d limits p c
  shows_stop same t = t
  shows_stop (fitting f s) t = passing f (shows_stop s t)
  shows_stop (looked s) t = looking (shows_stop s t)

  pub shows_is : {p q : Prog} → p ≡ q → Shows names d limits p q
  shows_is {p = p} e = subst (λ r. Shows names d limits p r) e same

  -- what is seen of several symbols
  pub shows_looks : (ss : List Sym) (k : List (Sym × Definition) → Prog) → Shows names d limits (look_all ss k) (k (map (λ s. (s, definition_of names d s)) ss))
  shows_looks [] k = same
  shows_looks (s ∷ ss) k = looked (shows_looks ss (λ rest. k ((s, definition_of names d s) ∷ rest)))

  -- ---- trials

  pub tried_as : {p q : Part} {r : Result Try Halt} {rest : Option Tree → Part} → p ≡ q → Tried names d limits q r rest → Tried names d limits p r rest
  tried_as {r = r} {rest = rest} e t = subst (λ x. Tried names d limits x r rest) (sym e) t

  -- the trial of a rule among others
  pub goes_trial : {p : Part} {r : Result Try Halt} {rest : Option Tree → Part} (rs : List Rule) (e : Tree) → Tried names d limits p r rest →
      Goes names d limits (λ k. p (or_rules names rs e k)) r (λ answer k. rest answer (or_rules names rs e k)) (rules_left names rs e)
  goes_trial {r = Ok (Guards g b)} rs e t = record { by = λ k. t.by (or_rules names rs e k) }
  goes_trial {r = Ok (Yields v)} rs e t = record { by = λ k. t.by (or_rules names rs e k) }
  goes_trial {r = Ok Fails} rs e t = record { by = λ k. t.by (or_rules names rs e k) }
  goes_trial {r = Err (Halt.Stopped c)} rs e t = record { by = λ k. t.by (or_rules names rs e k) }
  goes_trial {r = Err Halt.NoMemory} rs e t = record { by = tt }

  -- after what was shown
  pub goes_after : {p q : Part} {r : Result Try Halt} {rest : Option Tree → Part} {next : Part} → ((k : Option Tree → Prog) → Shows names d limits (p k) (q k)) → Goes names d limits q r rest next → Goes names d limits p r rest next
  goes_after {r = Ok t} s g = record { by = λ k. shows_on (s k) (g.by k) }
  goes_after {r = Err (Halt.Stopped c)} s g = record { by = λ k. shows_stop (s k) (g.by k) }
  goes_after {r = Err Halt.NoMemory} s g = record { by = tt }

  -- a part that does not fail
  pub tried_guard : {p q : Part} {g : Tree} {b : Bool} {rest : Option Tree → Part} {next : Part} → ((k : Option Tree → Prog) → Shows names d limits (p k) (q k)) → Goes names d limits q (Ok (Guards g b)) rest next → Tried names d limits p (Ok (Guards g b)) rest
  tried_guard s g = record { by = λ k. shows_on (s k) (g.by k) }

  pub tried_found : {p q : Part} {v : Tree} {rest rest' : Option Tree → Part} {next : Part} → ((k : Option Tree → Prog) → Shows names d limits (p k) (q k)) → Goes names d limits q (Ok (Yields v)) rest next → Tried names d limits p (Ok (Yields v)) rest'
  tried_found s g = record { by = λ k. shows_on (s k) (g.by k) }

  pub tried_err : {p q : Part} {h : Halt} {rest rest' : Option Tree → Part} {next : Part} → ((k : Option Tree → Prog) → Shows names d limits (p k) (q k)) → Goes names d limits q (Err h) rest next → Tried names d limits p (Err h) rest'
  tried_err {h = Halt.Stopped c} s g = record { by = λ k. shows_stop (s k) (g.by k) }
  tried_err {h = Halt.NoMemory} s g = record { by = tt }

  pub tried_fails : {p : Part} {rest : Option Tree → Part} → ((k : Option Tree → Prog) → Shows names d limits (p k) (k None)) → Tried names d limits p (Ok Fails) rest
  tried_fails s = record { by = s }

  -- an expression that is too large halts, and so does want of memory
  pub tried_halts : (e : Tree) {h : Halt} {p : Part} {rest : Option Tree → Part} (q : Part) → ((k : Option Tree → Prog) → p k ≡ Check e (q k)) → HaltsFor limits e h → Tried names d limits p (Err h) rest
  tried_halts e {h = Halt.Stopped c} q is f = record { by = λ k. shows_stop (shows_is (is k)) (large f.by) }
  tried_halts e {h = Halt.NoMemory} q is f = record { by = tt }

  pub tried_from : {p q : Part} {r : Result Try Halt} {rest : Option Tree → Part} → ((k : Option Tree → Prog) → p k ≡ q k) → Tried names d limits q r rest → Tried names d limits p r rest
  tried_from {r = Ok t} e g = record { by = λ k. shows_on (shows_is (e k)) (g.by k) }
  tried_from {r = Err (Halt.Stopped c)} e g = record { by = λ k. shows_stop (shows_is (e k)) (g.by k) }
  tried_from {r = Err Halt.NoMemory} e g = record { by = tt }

  -- a question within the limits
  pub tried_asks : (e f : Tree) (turn : Bool) (p : Part) (rest : Option Tree → Part) → ((k : Option Tree → Prog) → p k ≡ Check e (turning turn (Ask e (λ v. rest (Some v) k)))) → f ≡ e → too_large limits e ≡ None → Tried names d limits p (Ok (Guards f turn)) rest
  tried_asks e f turn p rest is copy fits =
      record { by = λ k. subst (λ x. Shows names d limits (p k) (turning turn (Ask x (λ v. rest (Some v) k)))) (sym copy) (shows_on (shows_is (is k)) (fitting fits same)) }

  pub tried_yields : (v w : Tree) (p : Part) (rest : Option Tree → Part) → ((k : Option Tree → Prog) → p k ≡ k (Some w)) → v ≡ w → Tried names d limits p (Ok (Yields v)) rest
  tried_yields v w p rest is e = record { by = λ k. subst (λ x. Shows names d limits (p k) (k (Some x))) (sym e) (shows_is (is k)) }

  -- the rules from one on
  pub rule_shows : (rs later : List Rule) (r : Rule) (e right : Tree) (fs : List Found) → rs ≡ r ∷ later → right ≡ r.right → fs ≡ matches names (told (map (λ s. (s, definition_of names d s)) (heads names r.left))) r.left e
      → (k : Option Tree → Prog) → Shows names d limits (rules_left names rs e k) (try_bindings names right fs (λ v. or_rules names later e k (Some v)) (or_rules names later e k None))
  rule_shows rs later r e right fs is same_right found k =
      shows_on (shows_is (ap (λ xs. rules_left names xs e k) is))
      (shows_on (shows_looks (heads names r.left) (λ seen. try_bindings names r.right (matches names (told seen) r.left e) (λ v. k (Some v)) (rules_left names later e k)))
      (shows_is (λ i. try_bindings names (sym same_right i) (sym found i) (λ v. k (Some v)) (rules_left names later e k))))

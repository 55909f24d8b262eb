-- Programs whose calls may come in a mode, where a section is open or not; and what several rows use.
use Rattle.std.proofs.Common.{◌≡◌, refl, ℕ, Bool, true, false, T, List, [], ◌∷◌, ◌++◌, map, Option, Some, None, is_some}
use Rattle.expr_tree.specs.declared.sym.Sym.{Sym}
use Rattle.expr_tree.specs.declared.limits.Stop.{Stop}
use Rattle.expr_tree.specs.Tree.{Tree}
use Rattle.expr_tree.specs.Substitution.{Binding}
use Rattle.semantics.specs.declared.builtin.Builtin.{Builtin}
use Rattle.semantics.specs.Names.{Names, is_name}
use Rattle.semantics.specs.Rule.{Rule, condition_of}
use Rattle.semantics.specs.Match.{Guard, Cond, Found, matches, heads}
use Rattle.semantics.specs.Definitions.{Definition}
use Rattle.semantics.specs.Attempt.{told, try_guards, try_binding, try_bindings, try_rule, try_rules}
use Rattle.semantics.specs.Program.{Prog, Done, Stops, Quits, Throws, Ask, Catches, Within, Section, Open, Look, Put, Fresh, Turn, Check, Outer, Moded, Shown, Mode, Request, Sends, Enter, Leave, Local, Seen, look_all}
use Rattle.laws_calls.specs.Calls.{is_item, may_come}

-- where a program runs
pub record Point : Type 0 where
  pub names : Names
  pub mode : Mode
  pub inside : Bool

-- a program's calls may come where it runs, and it ends the kernel in an item alone
pub data Fit (P : Point) : Prog → Type 0 where
  done : {e : Tree} → Fit P (Done e)
  stop : {c : Stop} → Fit P (Stops c)
  quits : T (is_item P.mode) → Fit P Quits
  throws : {v : Tree} → Fit P (Throws v)
  ask : {e : Tree} {k : Tree → Prog} → ((v : Tree) → Fit P (k v)) → Fit P (Ask e k)
  catches : {e : Tree} {k : Tree → Prog} → ((v : Tree) → Fit P (k v)) → Fit P (Catches e k)
  within : {ls : List Local} {e : Tree} {k : Tree → Prog} → ((v : Tree) → Fit P (k v)) → Fit P (Within ls e k)
  section : {locks : List Sym} {e : Tree} {k : Tree → Prog} → T (may_come P.names P.mode false (Enter locks)) → T (may_come P.names P.mode true Leave)
      → ((v : Tree) → Fit P (k v)) → Fit P (Section locks e k)
  asks_open : {k : Option (List Sym) → Prog} → ((o : Option (List Sym)) → is_some o ≡ P.inside → Fit P (k o)) → Fit P (Open k)
  look : {s : Sym} {k : Seen → Prog} → ((seen : Seen) → Fit P (k seen)) → Fit P (Look s k)
  put : {s : Sym} {d : Definition} {p : Prog} → Fit P p → Fit P (Put s d p)
  fresh : {k : ℕ → Prog} → ((m : ℕ) → Fit P (k m)) → Fit P (Fresh k)
  turn : {p : Prog} → Fit P p → Fit P (Turn p)
  check : {e : Tree} {p : Prog} → Fit P p → Fit P (Check e p)
  outer : {c : Request} {k : Tree → Prog} → T (may_come P.names P.mode P.inside (Sends c)) → ((v : Tree) → Fit P (k v)) → Fit P (Outer c k)
  moded : {k : Mode → ℕ → Prog} → ((kernel : ℕ) → Fit P (k P.mode kernel)) → Fit P (Moded k)
  shown : {k : (Tree → List ℕ) → Prog} → ((texts : Tree → List ℕ) → Fit P (k texts)) → Fit P (Shown k)

module _ (P : Point) where
  open P use {names}

  abbrev pub Gives : (Tree → Prog) → Type 0
  Gives k = (v : Tree) → Fit P (k v)

  abbrev pub GivesAll : (List Tree → Prog) → Type 0
  GivesAll k = (vs : List Tree) → Fit P (k vs)

  pub branch : (b : Bool) {p q : Prog} → Fit P p → Fit P q → Fit P (elim b [ true ↦ p | false ↦ q ])
  branch true one other = one
  branch false one other = other

  pub branch_if : (b : Bool) {p q : Prog} → (b ≡ true → Fit P p) → (b ≡ false → Fit P q) → Fit P (elim b [ true ↦ p | false ↦ q ])
  branch_if true one other = one refl
  branch_if false one other = other refl

  pub option : {A : Type 0} (o : Option A) {p : Prog} {k : A → Prog} → Fit P p → ((a : A) → Fit P (k a)) → Fit P (elim o [ None ↦ p | Some a ↦ k a ])
  option None one other = one
  option (Some a) one other = other a

  -- ---- trials of rules

  look_all-fits : (ss : List Sym) (k : List (Sym × Definition) → Prog) → ((seen : List (Sym × Definition)) → Fit P (k seen)) → Fit P (look_all ss k)
  look_all-fits [] k next = next []
  look_all-fits (s ∷ ss) k next = look (λ seen. look_all-fits ss (λ rest. k ((s, seen.definition) ∷ rest)) (λ rest. next ((s, seen.definition) ∷ rest)))

  try_guards-fits : (b : Binding) (gs : List Guard) {p q : Prog} → Fit P p → Fit P q → Fit P (try_guards names b gs p q)
  try_guards-fits b [] pass fail = pass
  try_guards-fits b (g ∷ gs) pass fail = check (ask (λ v. branch (is_name names Builtin.True v) (try_guards-fits b gs pass fail) fail))

  try_binding-fits : (b : Binding) (gs : List Guard) {p q : Prog} → Fit P p → Fit P q → Fit P (try_binding names b gs p q)
  try_binding-fits b [] pass fail = pass
  try_binding-fits b (g ∷ gs) pass fail = check (turn (ask (λ v. branch (is_name names Builtin.True v) (try_guards-fits b gs pass fail) fail)))

  try_bindings-fits : (right : Tree) (fs : List Found) (k : Tree → Prog) {p : Prog} → Gives k → Fit P p → Fit P (try_bindings names right fs k p)
  try_bindings-fits right [] k gives otherwise = otherwise
  try_bindings-fits right (f ∷ fs) k gives otherwise =
      try_binding-fits f.binding (f.guards ++ map Cond (condition_of names right)) (gives _) (try_bindings-fits right fs k gives otherwise)

  try_rule-fits : (r : Rule) (e : Tree) (k : Tree → Prog) {p : Prog} → Gives k → Fit P p → Fit P (try_rule names r e k p)
  try_rule-fits r e k gives otherwise =
      look_all-fits (heads names r.left) _ (λ seen. try_bindings-fits r.right (matches names (told seen) r.left e) k gives otherwise)

  pub try_rules-fits : (rs : List Rule) (e : Tree) (k : Tree → Prog) {p : Prog} → Gives k → Fit P p → Fit P (try_rules names rs e k p)
  try_rules-fits [] e k gives otherwise = otherwise
  try_rules-fits (r ∷ rs) e k gives otherwise = try_rule-fits r e k gives (try_rules-fits rs e k gives otherwise)

-- How many questions a program of a scoping form still comes to. Neither the answers nor the number of a Module matter to it.
--     asks                  this number, where no symbol is shared
--     IsSteady              what is left comes to as many, whatever the answer is
use Rattle.std.specs.Prelude.{◌≡◌, ℕ, suc, pos, [], Option, None}
use Rattle.expr_tree.specs.Tree.{Tree, integer}
use Rattle.semantics.specs.Program.{Prog, Done, Stops, Quits, Throws, Ask, Catches, Within, Section, Open, Look, Put, Fresh, Turn, Check, Outer, Moded, Shown, Seen}

-- a symbol without a definition, which is not shared
abbrev pub nothing_seen : Seen
nothing_seen = record { definition = record { attributes = []; own = None; downs = []; ups = [] }; shared = None }

abbrev pub asks : Prog → ℕ
asks (Ask e k) = suc (asks (k (integer (pos 0))))
asks (Within ls e k) = suc (asks (k (integer (pos 0))))
asks (Look s k) = asks (k nothing_seen)
asks (Put s x p) = asks p
asks (Fresh k) = asks (k 0)
asks (Turn p) = asks p
asks (Check e p) = asks p
asks (Done e) = 0
asks (Stops c) = 0
asks Quits = 0
asks (Throws e) = 0
asks (Catches e k) = 0
asks (Section ss e k) = 0
asks (Open k) = 0
asks (Outer c k) = 0
asks (Moded k) = 0
asks (Shown k) = 0

pub record IsSteady (rest : Option Tree → Prog) : Type 0 where
  pub by : (v w : Option Tree) → asks (rest v) ≡ asks (rest w)

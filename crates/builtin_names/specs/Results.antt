-- What a row of the built-in table may answer.
--     Makes                 an expression within the limits, or which limit it passes
--     Works                 the answer for what a row makes of its elements: nothing, an expression, or a number out of range
use Rattle.std.specs.Prelude.{◌≡◌, ◌<◌, ◌≤◌, Option, Some, None, Result, Ok, Err}
use Rattle.expr_tree.specs.Tree.{Tree, size, depth}
use Rattle.semantics.specs.Worked.{Worked, Stays, Gives, TooWide}
use Rattle.expr_tree.specs.declared.built.Built.{Built}
use Rattle.expr_tree.specs.declared.built.Built.TheVariants as bu
use Rattle.builtin_names.specs.declared.fault.Fault.{Fault}
use Rattle.builtin_names.specs.declared.fault.Fault.TheVariants as fa

-- Size before Depth
abbrev pub IsFaultOf : Tree → Fault → Type 0
IsFaultOf t fa.Range = ⊥
IsFaultOf t fa.TooLarge = 4000000 < size t
IsFaultOf t (fa.TooDeep nodes) = (nodes ≡ size t) × (size t ≤ 4000000) × (512 < depth t)
IsFaultOf t fa.NoMemory = Unit {0}

abbrev pub MakesBy : Tree → Result Tree Fault → Type 0
MakesBy t (Ok e) = e ≡ t
MakesBy t (Err fault) = IsFaultOf t fault

pub record Makes (t : Tree) (r : Result Tree Fault) : Type 0 where
  pub by : MakesBy t r

abbrev pub IsOutOfRange : Fault → Type 0
IsOutOfRange fa.Range = Unit {0}
IsOutOfRange fa.NoMemory = Unit {0}
IsOutOfRange _ = ⊥

abbrev pub IsNoMemory : Fault → Type 0
IsNoMemory fa.NoMemory = Unit {0}
IsNoMemory _ = ⊥

abbrev pub WorksBy : Worked → Result (Option Tree) Fault → Type 0
WorksBy Stays (Ok None) = Unit {0}
WorksBy Stays (Ok (Some e)) = ⊥
WorksBy Stays (Err fault) = IsNoMemory fault
WorksBy (Gives t) (Ok None) = ⊥
WorksBy (Gives t) (Ok (Some e)) = e ≡ t
WorksBy (Gives t) (Err fault) = IsFaultOf t fault
WorksBy TooWide (Ok o) = ⊥
WorksBy TooWide (Err fault) = IsOutOfRange fault

pub record Works (w : Worked) (r : Result (Option Tree) Fault) : Type 0 where
  pub by : WorksBy w r

-- what was not made for this reason gives no expression for the same one
abbrev pub fault_of : Built → Fault
fault_of bu.TooLarge = fa.TooLarge
fault_of (bu.TooDeep nodes) = fa.TooDeep nodes
fault_of bu.NoMemory = fa.NoMemory

abbrev pub FromBuilt : Built → Fault → Type 0
FromBuilt b f = f ≡ fault_of b

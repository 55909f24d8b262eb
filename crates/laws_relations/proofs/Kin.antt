-- What two evaluations of related expressions may differ in: a relation on symbols, with the module numbers and states that go with it.
-- The shift of names is an instance.
use Rattle.std.proofs.Common.{◌≡◌, ℕ, List}
use Rattle.expr_tree.specs.declared.sym.Sym.{Sym}
use Rattle.expr_tree.specs.Tree.{Tree}
use Rattle.semantics.specs.Names.{Names}
use Rattle.semantics.specs.Definitions.{Definition}
use Rattle.semantics.specs.Program.{Request, Access, Count, Print, Outside, Local}
use Rattle.semantics.specs.Sections.{printed}
use Rattle.semantics.specs.Rule.{Rule}
use Rattle.semantics.specs.Scoping.{renamed}
use Rattle.semantics.specs.Play.{State}
use Rattle.laws_relations.proofs.Relate.{All}
use Rattle.laws_relations.proofs.Relation.{Like, LikeList, LikeRule, LikeDefinition, LikeLocal, Faithful}

pub record Kin : Type 1 where
  pub Symbols : Sym → Sym → Type 0
  pub Numbers : ℕ → ℕ → Type 0
  pub States : State → State → Type 0
  -- the evaluations go alike while the first has a module number below this, in at most so many steps
  pub bound : ℕ
  pub most_steps : ℕ
  pub names : Names
  pub faithful : Faithful Symbols names
  pub bases : (s t : Sym) → Symbols s t → s.base ≡ t.base
  -- holds where programs are followed also through a use of the mode
  pub Outward : Type 0
  -- what prints of related values has texts so related
  pub Texts : List ℕ → List ℕ → Type 0
  -- related numbers make related symbols
  pub renames : (m n : ℕ) → Numbers m n → (s t : Sym) → Symbols s t → Symbols (renamed m s) (renamed n t)

module _ (K : Kin) where
  abbrev pub LikeTree : Tree → Tree → Type 0
  LikeTree = Like K.Symbols

  abbrev pub LikeTrees : List Tree → List Tree → Type 0
  LikeTrees = LikeList K.Symbols

  abbrev pub LikeSymbols : List Sym → List Sym → Type 0
  LikeSymbols = All K.Symbols

  abbrev pub LikeLocals : List Local → List Local → Type 0
  LikeLocals = All (LikeLocal K.Symbols)

  abbrev pub LikeDefined : Definition → Definition → Type 0
  LikeDefined = LikeDefinition K.Symbols

  abbrev pub LikeRules : List Rule → List Rule → Type 0
  LikeRules = All (LikeRule K.Symbols)

  -- what shows values, so that what is printed of related ones is related
  abbrev pub ShowsAlike : (Tree → List ℕ) → Type 0
  ShowsAlike texts = (es fs : List Tree) → LikeTrees es fs → K.Texts (printed texts es) (printed texts fs)

  pub data LikeRequest : Request → Request → Type 0 where
    accesses : {e f : Tree} → LikeTree e f → LikeRequest (Access e) (Access f)
    counts : LikeRequest Count Count
    prints : {t u : List ℕ} → K.Texts t u → LikeRequest (Print t) (Print u)
    forms : {e f : Tree} → LikeTree e f → LikeRequest (Outside e) (Outside f)

-- What a search asks of the heads of patterns.
--     matching              Flat and Orderless among attributes
--     heads                 the symbols that are heads in a pattern
--     told_of               these symbols, with what is told of them
use Rattle.std.specs.Prelude.{List, [], ◌++◌, map}
use Rattle.expr_tree.specs.declared.sym.Sym.{Sym}
use Rattle.expr_tree.specs.declared.attrs.Attrs.{Attrs}
use Rattle.expr_tree.specs.Tree.{Tree, integer, string, symbol, normal, Trees, nil, cons}
use Rattle.expr_tree.specs.Substitution.{symbol_in}
use Rattle.semantics.specs.Match.{Matching}
use Rattle.match_seq.specs.declared.setting.How.{How}

abbrev pub matching : Attrs → Matching
matching a = record { flat = a.flat; orderless = a.orderless }

abbrev mutual
  pub heads : Tree → List Sym
  heads (integer n) = []
  heads (string t) = []
  heads (symbol s) = []
  heads (normal h ps) = symbol_in h ++ (heads h ++ heads_of ps)

  pub heads_of : Trees → List Sym
  heads_of nil = []
  heads_of (cons p ps) = heads p ++ heads_of ps

abbrev pub how_told : (Sym → Matching) → Sym → Sym × How
how_told A s = (s, record { flat = (A s).flat; orderless = (A s).orderless })

abbrev pub told_of : (Sym → Matching) → List Sym → List (Sym × How)
told_of A ss = map (how_told A) ss

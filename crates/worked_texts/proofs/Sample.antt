-- Names and expressions for worked texts: the names of the built-in table, then others.
use Rattle.std.proofs.Common.{ℕ, zero, suc, ◌+◌, ◌-◌, List, [], ◌∷◌, ◌++◌, Option, Some, None}
use Rattle.std.specs.Prelude.{pos, negsuc, codes, map, length}
use Rattle.expr_tree.specs.declared.sym.Sym.{Sym}
use Rattle.expr_tree.specs.Tree.{Tree, integer, symbol}
use Rattle.semantics.specs.declared.builtin.Builtin.{Builtin}
use Rattle.semantics.specs.Builtin.{row_number, rows}
use Rattle.semantics.specs.Names.{Names, make}
use Rattle.semantics.specs.Texts.{row_text}
use Rattle.script_text.specs.Spelling.{Spelling, by_texts, place_in}
use Rattle.syntax.specs.Lines as Lines
use Rattle.script_text.specs.Full as Full

abbrev pub row_at : List Builtin → ℕ → Option Builtin
row_at [] n = None
row_at (r ∷ rs) zero = Some r
row_at (r ∷ rs) (suc n) = row_at rs n

-- the base of a row is its place in the table
abbrev pub names : Names
names = record { place = row_number; role = row_at rows }

abbrev pub others : List (List ℕ)
others =
    codes "a" ∷ codes "b" ∷ codes "c" ∷ codes "f" ∷ codes "g" ∷ codes "h" ∷ codes "n" ∷ codes "p" ∷ codes "q" ∷ codes "x" ∷ codes "y" ∷ codes "col" ∷ []

abbrev pub spelling : Spelling
spelling = by_texts (map row_text rows ++ others)

abbrev pub find : List ℕ → ℕ
find = place_in (map row_text rows ++ others)

abbrev pub sym : ℕ → Tree
sym n = symbol (record { base = length rows + n; number = 0 })

abbrev pub a' : Tree
a' = sym 0

abbrev pub b' : Tree
b' = sym 1

abbrev pub c' : Tree
c' = sym 2

abbrev pub f' : Tree
f' = sym 3

abbrev pub g' : Tree
g' = sym 4

abbrev pub h' : Tree
h' = sym 5

abbrev pub n' : Sym
n' = record { base = length rows + 6; number = 0 }

abbrev pub p' : Tree
p' = sym 7

abbrev pub q' : Tree
q' = sym 8

abbrev pub x' : Tree
x' = sym 9

abbrev pub y' : Tree
y' = sym 10

abbrev pub int : ℕ → Tree
int k = integer (pos k)

-- -k
abbrev pub less : ℕ → Tree
less k = integer (negsuc (k - 1))

abbrev pub of : Builtin → List Tree → Tree
of row es = make names row es

abbrev pub name : Builtin → Tree
name row = symbol (record { base = row_number row; number = 0 })

abbrev pub list : List Tree → Tree
list es = of Builtin.List es

abbrev pub out : ℕ → Tree → List ℕ
out = Lines.out_line spelling names

abbrev pub full : Tree → List ℕ
full = Full.full spelling

-- a text with a line feed
abbrev pub line : List ℕ → List ℕ
line t = t ++ (10 ∷ [])

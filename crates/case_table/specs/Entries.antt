-- The rows of the two tables, by the definitions of the language.
--     Entry                      a name, the attributes that it has at the start, and what it names
--     Named                      a row of the built-in table, or an operator or bracket
--     language_sign              the operator or bracket that a word of the program stands for
--     attrs_of                   the attributes in a list of their names
--     entry, entries             what a row of the program says; what rows say
--     builtin_entry              the entry of a row of the built-in table
--     operator_entry             the entry of an operator or bracket, which has no attributes
use Rattle.std.specs.Prelude.{ℕ, map, List, []}
use Rattle.semantics.specs.Builtin.{first_attributes}
use Rattle.semantics.specs.Definitions.{has}
use Rattle.semantics.specs.Texts.{row_text}
use Rattle.syntax.specs.Signs.{sign_text}
use Rattle.syntax.specs.Signs as syn
use Rattle.expr_tree.specs.declared.attrs.Attrs.{Attrs}
use Rattle.semantics.specs.declared.builtin.Builtin.{Builtin}
use Rattle.case_table.specs.declared.sign.Sign.{Sign}
use Rattle.case_table.specs.declared.sign.Sign.TheVariants as si
use Rattle.case_table.specs.declared.table.Code.{Code}
use Rattle.case_table.specs.declared.table.Code.TheVariants as co
use Rattle.case_table.specs.declared.table.Row.{Row}

pub data Named : Type 0 where
  BuiltinRow : Builtin → Named
  OperatorSign : syn.Sign → Named

pub record Entry : Type 0 where
  pub name : List ℕ
  pub attrs : Attrs
  pub names : Named

abbrev pub language_sign : Sign → syn.Sign
language_sign si.SameSign = syn.SameSign
language_sign si.UnsameSign = syn.UnsameSign
language_sign si.SlashSlashDot = syn.SlashSlashDot
language_sign si.CaretColonEqual = syn.CaretColonEqual
language_sign si.PlusPlus = syn.PlusPlus
language_sign si.MinusMinus = syn.MinusMinus
language_sign si.SlashAt = syn.SlashAt
language_sign si.AtAt = syn.AtAt
language_sign si.EqualEqual = syn.EqualEqual
language_sign si.BangEqual = syn.BangEqual
language_sign si.LessEqual = syn.LessEqual
language_sign si.GreaterEqual = syn.GreaterEqual
language_sign si.AndAnd = syn.AndAnd
language_sign si.BarBar = syn.BarBar
language_sign si.SlashSemicolon = syn.SlashSemicolon
language_sign si.Arrow = syn.Arrow
language_sign si.ColonGreater = syn.ColonGreater
language_sign si.SlashDot = syn.SlashDot
language_sign si.PlusEqual = syn.PlusEqual
language_sign si.MinusEqual = syn.MinusEqual
language_sign si.StarEqual = syn.StarEqual
language_sign si.SlashSlash = syn.SlashSlash
language_sign si.ColonEqual = syn.ColonEqual
language_sign si.CaretEqual = syn.CaretEqual
language_sign si.AssignDot = syn.AssignDot
language_sign si.SlashColon = syn.SlashColon
language_sign si.Query = syn.Query
language_sign si.At = syn.At
language_sign si.Caret = syn.Caret
language_sign si.Minus = syn.Minus
language_sign si.Slash = syn.Slash
language_sign si.Star = syn.Star
language_sign si.Plus = syn.Plus
language_sign si.Less = syn.Less
language_sign si.Greater = syn.Greater
language_sign si.Bang = syn.Bang
language_sign si.Bar = syn.Bar
language_sign si.Colon = syn.Colon
language_sign si.Ampersand = syn.Ampersand
language_sign si.Assign = syn.Assign
language_sign si.Semicolon = syn.Semicolon
language_sign si.OpenParen = syn.OpenParen
language_sign si.CloseParen = syn.CloseParen
language_sign si.OpenBracket = syn.OpenBracket
language_sign si.CloseBracket = syn.CloseBracket
language_sign si.OpenBrace = syn.OpenBrace
language_sign si.CloseBrace = syn.CloseBrace
language_sign si.Comma = syn.Comma

abbrev pub attrs_of : List Builtin → Attrs
attrs_of a = record {
  flat = has Builtin.Flat a;
  orderless = has Builtin.Orderless a;
  listable = has Builtin.Listable a;
  hold_first = has Builtin.HoldFirst a;
  hold_rest = has Builtin.HoldRest a;
  hold_all = has Builtin.HoldAll a;
  hold_all_complete = has Builtin.HoldAllComplete a;
  sequence_hold = has Builtin.SequenceHold a;
  one_identity = has Builtin.OneIdentity a;
  protected = has Builtin.Protected a;
}

abbrev pub named : Code → Named
named (co.Builtin b) = BuiltinRow b
named (co.Operator s) = OperatorSign (language_sign s)

abbrev pub entry : Row → Entry
entry r = record { name = r.name.now; attrs = r.attrs; names = named r.code }

abbrev pub entries : List Row → List Entry
entries rows = map entry rows

abbrev pub builtin_entry : Builtin → Entry
builtin_entry r = record { name = row_text r; attrs = attrs_of (first_attributes r); names = BuiltinRow r }

abbrev pub operator_entry : syn.Sign → Entry
operator_entry s = record { name = sign_text s; attrs = attrs_of []; names = OperatorSign s }

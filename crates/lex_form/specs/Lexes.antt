-- The program's tokens and faults, as the definitions have them.
--     fault_of, token_of, lexed
use Rattle.std.specs.Prelude.{map, Option, Some, None}
use Rattle.syntax.specs.Tokens as syn
use Rattle.lex_form.specs.declared.fault.LexFault.{LexFault}
use Rattle.lex_form.specs.declared.fault.LexFault.TheVariants.{BadByte, OpenString, OpenComment, WideNumber}
use Rattle.lex_form.specs.declared.token.Token.{Token}
use Rattle.lex_form.specs.declared.token.Lexed.{Lexed}
use Rattle.lex_form.specs.Scans.{kind_of}

abbrev pub fault_of : LexFault → syn.LexFault
fault_of (BadByte k) = syn.BadByte k
fault_of (OpenString k) = syn.OpenString k
fault_of (OpenComment k) = syn.OpenComment k
fault_of (WideNumber k) = syn.WideNumber k

abbrev pub token_of : Token → syn.Token
token_of t = record { kind = kind_of t.kind; from = t.from; to = t.to }

abbrev pub fault_in : Option LexFault → Option syn.LexFault
fault_in None = None
fault_in (Some fault) = Some (fault_of fault)

abbrev pub lexed : Lexed → syn.Lexed
lexed l = record { tokens = map token_of l.tokens; fault = fault_in l.fault }

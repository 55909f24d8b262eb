-- The program's words for operators and terminals, as the definitions have them.
--     prefix_in, postfix_in      prefix and postfix operators
--     kind_in, phrase_in, word_in, terminal_in          operands and terminals
--     bracket_in, opening_in                            brackets
--     start_in, next_in                                 what a terminal is where a phrase begins, and behind one
use Rattle.syntax.specs.Operators as syn
use Rattle.syntax.specs.Terminals as ter
use Rattle.case_table.specs.Entries.{language_sign}
use Rattle.operator_levels.specs.Words.{operator_in}
use Rattle.phrase_form.specs.declared.operator.Prefix.{Prefix}
use Rattle.phrase_form.specs.declared.operator.Prefix.TheVariants as pr
use Rattle.phrase_form.specs.declared.operator.Postfix.{Postfix}
use Rattle.phrase_form.specs.declared.operator.Postfix.TheVariants as po
use Rattle.phrase_form.specs.declared.terminal.PhraseKind.{PhraseKind}
use Rattle.phrase_form.specs.declared.terminal.PhraseKind.TheVariants as ki
use Rattle.phrase_form.specs.declared.terminal.Phrase.{Phrase}
use Rattle.phrase_form.specs.declared.terminal.Word.{Word}
use Rattle.phrase_form.specs.declared.terminal.Word.TheVariants as wo
use Rattle.phrase_form.specs.declared.terminal.Terminal.{Terminal}
use Rattle.phrase_form.specs.declared.next.Bracket.{Bracket}
use Rattle.phrase_form.specs.declared.next.Bracket.TheVariants as br
use Rattle.phrase_form.specs.declared.start.Opening.{Opening}
use Rattle.phrase_form.specs.declared.start.Opening.TheVariants as og
use Rattle.phrase_form.specs.declared.start.Start.{Start}
use Rattle.phrase_form.specs.declared.start.Start.TheVariants as st
use Rattle.phrase_form.specs.declared.next.Next.{Next}
use Rattle.phrase_form.specs.declared.next.Next.TheVariants as ne

abbrev pub prefix_in : Prefix → syn.Prefix
prefix_in pr.PreIncrement = syn.PreIncrement
prefix_in pr.PreDecrement = syn.PreDecrement
prefix_in pr.Negate = syn.Negate
prefix_in pr.Not = syn.Not

abbrev pub postfix_in : Postfix → syn.Postfix
postfix_in po.Increment = syn.Increment
postfix_in po.Decrement = syn.Decrement
postfix_in po.Function = syn.Function
postfix_in po.Unset = syn.Unset

abbrev pub kind_in : PhraseKind → ter.PhraseKind
kind_in ki.Closed = ter.Closed
kind_in ki.NameToken = ter.NameToken
kind_in ki.NumberToken = ter.NumberToken
kind_in (ki.Open row) = ter.Open row

abbrev pub phrase_in : Phrase → ter.Phrase
phrase_in x = record { expr = x.expr; kind = kind_in x.kind }

abbrev pub word_in : Word → ter.Word
word_in (wo.Value x) = ter.Value (phrase_in x)
word_in (wo.Mark s) = ter.Mark (language_sign s)

abbrev pub terminal_in : Terminal → ter.Terminal
terminal_in t = record { word = word_in t.word; after_line = t.after_line }

abbrev pub bracket_in : Bracket → ter.Bracket
bracket_in br.Round = ter.Round
bracket_in br.Square = ter.Square
bracket_in br.Curly = ter.Curly

abbrev pub next_in : Next → ter.Next
next_in (ne.Joins op) = ter.Joins (operator_in op)
next_in (ne.Trails op) = ter.Trails (postfix_in op)
next_in ne.Semicolon = ter.Semicolon
next_in ne.Tags = ter.Tags
next_in ne.Beside = ter.Beside
next_in ne.Elements = ter.Elements
next_in ne.Comma = ter.Comma
next_in ne.Nothing = ter.NoNext
next_in (ne.Closes c) = ter.Closes (bracket_in c)

abbrev pub opening_in : Opening → ter.Opening
opening_in og.Group = ter.Group
opening_in og.Braces = ter.Braces

abbrev pub start_in : Start → ter.Start
start_in (st.Operand x) = ter.Operand (phrase_in x)
start_in (st.Leads op) = ter.Leads (prefix_in op)
start_in (st.Opens opening) = ter.Opens (opening_in opening)
start_in st.Nothing = ter.NoStart

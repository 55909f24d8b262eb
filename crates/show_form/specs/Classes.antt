-- The reader's classes of bytes, as the program has them.
use Rattle.std.specs.Prelude.{ℕ}
use Rattle.script_text.specs.Reader as r
use Rattle.show_form.specs.declared.class.Class.{Class}
use Rattle.show_form.specs.declared.class.Class.TheVariants as cl

abbrev pub kind : r.Class → Class
kind r.Letter = cl.Letter
kind r.Digit = cl.Digit
kind r.Dash = cl.Dash
kind r.Quote = cl.Quote
kind r.Opening = cl.Opening
kind r.Closing = cl.Closing
kind r.Comma = cl.Comma
kind r.Space = cl.Space
kind r.Other = cl.Other

abbrev pub kind_of : ℕ → Class
kind_of c = kind (r.class_of c)

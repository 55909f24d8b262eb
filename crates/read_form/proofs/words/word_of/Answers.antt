use Rattle.std.proofs.Common.{ap, ◌-◌, ℕ, List, take, drop}
use Rattle.script_text.specs.Spelling.{place_in}
use Rattle.syntax.specs.Tokens as syn
use Rattle.case_table.specs.Entries.{language_sign}
use Rattle.builtin_names.specs.Named.{names_in}
use Rattle.lex_form.specs.Lexes.{token_of}
use Rattle.lex_form.specs.Scans.{kind_of}
use Rattle.read_form.proofs.WordSteps.{operator_word}
use Rattle.read_form.proofs.words.word_of.Goals as goal

pub returns-in-Operator : goal.returns-in-Operator
returns-in-Operator c =
    operator_word (names_in c.args.names.now) (place_in c.args.names.now.texts) (kind_of c.args.token.kind) (syn.token_text c.args.text.now (token_of c.args.token)) _ (language_sign c.sign_of.result)
    (ap kind_of c.in-Operator.is) c.sign_of.ensures (ap (λ (b : List ℕ). take (c.args.token.to - c.args.token.from) (drop c.args.token.from b)) c.as_bytes.ensures.value)

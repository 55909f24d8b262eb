use Rattle.read_form.proofs.Quotes.{quote_end}
use Rattle.read_form.proofs.words.quoted.Goals as goal

pub range-requires-clause-end_boundary : goal.range-requires-clause-end_boundary
range-requires-clause-end_boundary c = quote_end c.args.text.now c.args.token.from c.args.token.to c.utf8.text c.requires.token.some c.requires.token.within c.requires.quotes.last

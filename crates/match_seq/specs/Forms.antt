-- What a normal pattern asks for.
--     form_of               by its head and the number of its items
use Rattle.std.specs.Prelude.{ℕ, ◌==◌, if◌then◌else◌}
use Rattle.expr_tree.specs.declared.sym.Sym.{Sym}
use Rattle.expr_tree.specs.Same.{symbol_eq}
use Rattle.expr_tree.specs.Tree.{Tree, symbol}
use Rattle.match_seq.specs.declared.constructs.Constructs.{Constructs}
use Rattle.match_seq.specs.declared.constructs.Form.{Form}
use Rattle.match_seq.specs.declared.constructs.Form.TheVariants as form

abbrev pub zero_or_one : ℕ → Form → Form → Form
zero_or_one n zero one = if n == 0 then zero else if n == 1 then one else form.Ordinary

abbrev pub only_one : ℕ → Form → Form
only_one n one = if n == 1 then one else form.Ordinary

abbrev pub only_two : ℕ → Form → Form
only_two n two = if n == 2 then two else form.Ordinary

abbrev pub form_under : Constructs → Sym → ℕ → Form
form_under constructs s n =
    if symbol_eq s constructs.blank then zero_or_one n form.One form.OneOf
    else if symbol_eq s constructs.sequence then zero_or_one n form.Some form.SomeOf
    else if symbol_eq s constructs.null_sequence then zero_or_one n form.Any form.AnyOf
    else if symbol_eq s constructs.pattern then only_two n form.Named
    else if symbol_eq s constructs.test then only_two n form.Tested
    else if symbol_eq s constructs.condition then only_two n form.Conditioned
    else if symbol_eq s constructs.alternatives then form.Alternatives
    else if symbol_eq s constructs.hold then only_one n form.Held
    else if symbol_eq s constructs.verbatim then only_one n form.Verbatim
    else form.Ordinary

abbrev pub form_of : Constructs → Tree → ℕ → Form
form_of constructs (symbol s) n = form_under constructs s n
form_of constructs _ n = form.Ordinary

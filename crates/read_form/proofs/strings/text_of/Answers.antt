use Rattle.std.proofs.Common.{length, arith, ap, ◌∙◌, false}
use Rattle.std.proofs.lemmas.Iterator.{YieldsList-from_chars}
use Rattle.std.proofs.lemmas.List.{length_push}
use Rattle.std.proofs.lemmas.Iterator.Consumers.{YieldsList-turn, YieldsList-end}
use Rattle.std.specs.Str.{chars}
use Rattle.syntax.specs.Leaves.{unescaped}
use Rattle.read_form.proofs.Escapes.{string_goes_on, string_closes, string_ends, spelled_chars}
use Rattle.read_form.proofs.strings.text_of.Goals as goal

pub loop-character-preserved : goal.loop-character-preserved
loop-character-preserved c =
    let t = YieldsList-turn (YieldsList-from_chars c.args.quoted.now c.utf8.quoted cc) c.loop-character.yielded _ c.loop-character.yielded_by _ _ c.in-Some.character c.in-Some.is c.next.ensures.steps in
    string_goes_on c.loop-character.text c.add_character.new.text c.loop-character.escape c.in_ok-escape.escape (chars c.args.quoted.now) (length c.loop-character.yielded) _ c.in-Some.character _
    t.0 t.1 (length_push c.loop-character.yielded c.in-Some.character) (λ rest. c.in_ok-escape.ensures rest) c.loop-character.invariant

pub returns-then-character-eq34 : goal.returns-then-character-eq34
returns-then-character-eq34 c =
    let t = YieldsList-turn (YieldsList-from_chars c.args.quoted.now c.utf8.quoted cc) c.loop-character.yielded _ c.loop-character.yielded_by _ _ c.in-Some.character c.in-Some.is c.next.ensures.steps in
    string_closes c.loop-character.text c.loop-character.escape (chars c.args.quoted.now) (length c.loop-character.yielded) c.in-Some.character _
    t.0 t.1 c.if-not-escape.true c.if-character-eq34.true c.loop-character.invariant ∙ ap (unescaped false) (spelled_chars c.args.quoted.now c.utf8.quoted)

pub returns : goal.returns
returns c =
    let t = YieldsList-end (YieldsList-from_chars c.args.quoted.now c.utf8.quoted cc) c.loop-character.yielded _ c.loop-character.yielded_by _ _ c.in-None.is c.next.ensures.steps in
    string_ends c.loop-character.text c.loop-character.escape (chars c.args.quoted.now) (length c.loop-character.yielded) _
    (omega (arith, t.1)) c.loop-character.invariant ∙ ap (unescaped false) (spelled_chars c.args.quoted.now c.utf8.quoted)

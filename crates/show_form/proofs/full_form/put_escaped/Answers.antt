use Rattle.std.proofs.Common.{length, append_assoc, append-nil, arith}
use Rattle.std.proofs.lemmas.Iterator.{YieldsList-from_chars}
use Rattle.std.proofs.lemmas.List.{at_drop_all, length_push}
use Rattle.std.proofs.lemmas.Iterator.Consumers.{YieldsList-turn, YieldsList-end}
use Rattle.std.specs.Str.{chars, encode_utf8_all}
use Rattle.script_text.specs.Full.{all_escaped}
use Rattle.show_form.proofs.Characters.{chars_step, spelled_chars}
use Rattle.show_form.proofs.full_form.put_escaped.Goals as goal

pub loop-c-preserved : goal.loop-c-preserved
loop-c-preserved c =
    let t = YieldsList-turn (YieldsList-from_chars c.args.text.now c.utf8.text cc) c.loop-c.yielded _ c.loop-c.yielded_by _ _ c.in-Some.c c.in-Some.is c.next.ensures.steps in
    let e = chars_step (chars c.args.text.now) (length c.loop-c.yielded) c.in-Some.c t.0 t.1 in
    let n = length_push c.loop-c.yielded c.in-Some.c in
    grind (arith, append_assoc)

pub returns : goal.returns
returns c =
    let t = YieldsList-end (YieldsList-from_chars c.args.text.now c.utf8.text cc) c.loop-c.yielded _ c.loop-c.yielded_by _ _ c.in-None.is c.next.ensures.steps in
    let e = at_drop_all (λ v. all_escaped (encode_utf8_all v)) (chars c.args.text.now) (length c.loop-c.yielded) (omega (arith, t.1)) in
    let s = spelled_chars c.args.text.now c.utf8.text in
    grind (arith, append-nil)

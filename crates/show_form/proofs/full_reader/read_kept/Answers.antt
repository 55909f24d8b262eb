use Rattle.std.proofs.Common.{◌≡◌, ◌≤◌, ◌+◌, ◌-◌, length, drop, length-drop, sym, ap, subst, ◌∙◌, arith}
use Rattle.std.proofs.lemmas.Str.{drop_past_char, length-encode, len_utf8_bounds}
use Rattle.std.specs.Char.{encode_utf8}
use Rattle.std.specs.Str.Iter.{char_indices_offset, char_indices_rest}
use Rattle.script_text.specs.Spelling.{place_in}
use Rattle.show_form.specs.Faults.{IsAfter, IsStop}
use Rattle.show_form.specs.Steps.{first_state, with_mode}
use Rattle.show_form.proofs.Going.{goes_on, stop_is, end_stop}
use Rattle.show_form.proofs.full_reader.read_kept.Goals as goal

pub loop-place-preserved : goal.loop-place-preserved
loop-place-preserved c =
    let find = place_in c.args.names.now.texts in
    let h = c.in-Some.ensures.steps in
    let at = char_indices_offset c.loop-place.place-iterator in
    let x = c.in-Some.character in
    let e = sym c.loop-place.invariant.rest ∙ h.1 in
    let n = h.2 ∙ ap (λ k. at + k) (length-encode x) in
    record {
      gone = goes_on find c.args.text.now _ (encode_utf8 x) at (char_indices_offset c.next.new.self) first_state (c.loop-place.stack, c.loop-place.mode) (c.step_over.new.stack, c.in-Some-2.next) h.2 e c.loop-place.invariant.gone
          (subst (λ o. IsAfter find (encode_utf8 x) (c.loop-place.stack, c.loop-place.mode) (with_mode c.step_over.new.stack o)) c.in-Some-2.is c.in_ok-next.ensures);
      rest = sym (drop_past_char c.args.text.now _ at x e) ∙ ap (λ k. drop k c.args.text.now) (sym n);
    }

pub returns-in-None-2 : goal.returns-in-None-2
returns-in-None-2 c =
    let find = place_in c.args.names.now.texts in
    let h = c.in-Some.ensures.steps in
    let x = c.in-Some.character in
    let long : 1 ≤ length (encode_utf8 x) = omega (arith, length-encode x, len_utf8_bounds x) in
    subst (IsStop find c.args.text.now) (sym h.0)
    (stop_is find c.args.text.now _ (encode_utf8 x) (char_indices_offset c.loop-place.place-iterator) (c.loop-place.stack, c.loop-place.mode) long (sym c.loop-place.invariant.rest ∙ h.1) c.loop-place.invariant.gone
    (subst (λ o. IsAfter find (encode_utf8 x) (c.loop-place.stack, c.loop-place.mode) (with_mode c.step_over.new.stack o)) c.in-None-2.is c.in_ok-next.ensures))

pub returns : goal.returns
returns c =
    let at = char_indices_offset c.loop-place.place-iterator in
    let z : length c.args.text.now - at ≡ 0 = sym (length-drop at c.args.text.now) ∙ ap length (sym c.loop-place.invariant.rest) ∙ c.in-None.ensures.steps.0 in
    end_stop (place_in c.args.names.now.texts) c.args.text.now at (c.loop-place.stack, c.loop-place.mode) (omega arith) c.loop-place.invariant.gone (sym c.finish.ensures ∙ c.in-None-finish.is)

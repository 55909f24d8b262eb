use Rattle.std.proofs.Common.{◌≡◌, ◌∙◌, sym, ap, ◌-◌, arith, length, take, drop, true, false}
use Rattle.std.proofs.lemmas.Bool.{ne_eqb, eq-eqb}
use Rattle.script_text.specs.Bytes.{all, is_digit, number_after}
use Rattle.script_text.specs.Spelling.{is_number_part, spelled}
use Rattle.name_table.proofs.Reading.{end_of, rest_is, all_digits, read_short, read_unsigned, read_undigited, read_numbered}
use Rattle.name_table.proofs.spelling.read_name.Goals as goal

pub returns-then-start-lt2-clause-base : goal.returns-then-start-lt2-clause-base
returns-then-start-lt2-clause-base c =
    let b = c.as_bytes-bytes.result.now in
    let n = c.digits_at_end.result in
    let e = end_of b n c.digits_at_end.ensures.count c.digits_at_end.ensures.within in
    rw (← c.as_bytes-bytes.ensures.value) (sym (ap (λ s. s.base) (read_short b (length b - n) e c.if-start-lt2.true)))

pub returns-then-start-lt2-clause-number : goal.returns-then-start-lt2-clause-number
returns-then-start-lt2-clause-number c =
    let b = c.as_bytes-bytes.result.now in
    let n = c.digits_at_end.result in
    let e = end_of b n c.digits_at_end.ensures.count c.digits_at_end.ensures.within in
    rw (← c.as_bytes-bytes.ensures.value) (sym (ap (λ s. s.number) (read_short b (length b - n) e c.if-start-lt2.true)))

pub returns-then-bytes-start-ne36-clause-base : goal.returns-then-bytes-start-ne36-clause-base
returns-then-bytes-start-ne36-clause-base c =
    let b = c.as_bytes-bytes.result.now in
    let n = c.digits_at_end.result in
    let e = end_of b n c.digits_at_end.ensures.count c.digits_at_end.ensures.within in
    rw (← c.as_bytes-bytes.ensures.value) (sym (ap (λ s. s.base) (read_unsigned b (length b - n) e c.if-start-lt2.false (ne_eqb _ _ c.if-bytes-start-ne36.true))))

pub returns-then-bytes-start-ne36-clause-number : goal.returns-then-bytes-start-ne36-clause-number
returns-then-bytes-start-ne36-clause-number c =
    let b = c.as_bytes-bytes.result.now in
    let n = c.digits_at_end.result in
    let e = end_of b n c.digits_at_end.ensures.count c.digits_at_end.ensures.within in
    rw (← c.as_bytes-bytes.ensures.value) (sym (ap (λ s. s.number) (read_unsigned b (length b - n) e c.if-start-lt2.false (ne_eqb _ _ c.if-bytes-start-ne36.true))))

pub returns-then-not-is_number_part-clause-base : goal.returns-then-not-is_number_part-clause-base
returns-then-not-is_number_part-clause-base c =
    let b = c.as_bytes-bytes.result.now in
    let n = c.digits_at_end.result in
    let e = end_of b n c.digits_at_end.ensures.count c.digits_at_end.ensures.within in
    let part : is_number_part (drop (length b - n) b) ≡ false =
    ap is_number_part (sym (rest_is b (length b - n))) ∙ sym c.is_number_part.ensures ∙ c.if-not-is_number_part.true in
    rw (← c.as_bytes-bytes.ensures.value) (sym (ap (λ s. s.base) (read_undigited b (length b - n) e c.if-start-lt2.false part)))

pub returns-then-not-is_number_part-clause-number : goal.returns-then-not-is_number_part-clause-number
returns-then-not-is_number_part-clause-number c =
    let b = c.as_bytes-bytes.result.now in
    let n = c.digits_at_end.result in
    let e = end_of b n c.digits_at_end.ensures.count c.digits_at_end.ensures.within in
    let part : is_number_part (drop (length b - n) b) ≡ false =
    ap is_number_part (sym (rest_is b (length b - n))) ∙ sym c.is_number_part.ensures ∙ c.if-not-is_number_part.true in
    rw (← c.as_bytes-bytes.ensures.value) (sym (ap (λ s. s.number) (read_undigited b (length b - n) e c.if-start-lt2.false part)))

pub number_of-requires-clause-digits : goal.number_of-requires-clause-digits
number_of-requires-clause-digits c =
    let b = c.as_bytes-bytes.result.now in
    let n = c.digits_at_end.result in
    let e = end_of b n c.digits_at_end.ensures.count c.digits_at_end.ensures.within in
    ap (all is_digit) (rest_is b (length b - n)) ∙ all_digits b (length b - n) e

pub returns-clause-base : goal.returns-clause-base
returns-clause-base c =
    let b = c.as_bytes-bytes.result.now in
    let n = c.digits_at_end.result in
    let e = end_of b n c.digits_at_end.ensures.count c.digits_at_end.ensures.within in
    let part : is_number_part (drop (length b - n) b) ≡ true =
    ap is_number_part (sym (rest_is b (length b - n))) ∙ sym c.is_number_part.ensures ∙ c.if-not-is_number_part.false in
    let whole = read_numbered b (length b - n) e c.if-start-lt2.false (eq-eqb _ _ c.if-bytes-start-ne36.false) part in
    let front : take (length b - n - 1) c.args.text.now ≡ (spelled c.args.text.now).base = rw (← c.as_bytes-bytes.ensures.value) (sym (ap (λ s. s.base) whole)) in
    grind (arith, front, c.range.ensures.value)

pub returns-clause-number : goal.returns-clause-number
returns-clause-number c =
    let b = c.as_bytes-bytes.result.now in
    let n = c.digits_at_end.result in
    let e = end_of b n c.digits_at_end.ensures.count c.digits_at_end.ensures.within in
    let part : is_number_part (drop (length b - n) b) ≡ true =
    ap is_number_part (sym (rest_is b (length b - n))) ∙ sym c.is_number_part.ensures ∙ c.if-not-is_number_part.false in
    let whole = read_numbered b (length b - n) e c.if-start-lt2.false (eq-eqb _ _ c.if-bytes-start-ne36.false) part in
    c.number_of.ensures ∙ ap (number_after 0) (rest_is b (length b - n)) ∙ rw (← c.as_bytes-bytes.ensures.value) (sym (ap (λ s. s.number) whole))

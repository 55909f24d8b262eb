-- What a byte's class tells.
use Rattle.std.proofs.Common.{◌≡◌, refl, sym, ap, ◌∙◌, ℕ, ◌<◌, ◌≤◌, Bool, true, false, true≢false, arith, eqb-true}
use Rattle.std.specs.Prelude.{◌&&◌, ◌||◌, ◌==◌, leb}
use Rattle.std.proofs.lemmas.Bool.{leb-true}
use Rattle.script_text.specs.Bytes.{begins_name, is_digit}
use Rattle.script_text.specs.Reader.{class_by, class_of, sign_class}
use Rattle.show_form.specs.declared.class.Class.{Class}
use Rattle.show_form.specs.declared.class.Class.TheVariants.{Letter, Digit}
use Rattle.show_form.specs.Classes.{kind, kind_of}

sign_no_digit : (a b c d e f : Bool) → kind (sign_class a b c d e f) ≡ Digit → ⊥
sign_no_digit true b c d e f p = cc
sign_no_digit false true c d e f p = cc
sign_no_digit false false true d e f p = cc
sign_no_digit false false false true e f p = cc
sign_no_digit false false false false true f p = cc
sign_no_digit false false false false false true p = cc
sign_no_digit false false false false false false p = cc

pub digit_is : (c : ℕ) → kind_of c ≡ Digit → is_digit c ≡ true
digit_is c p = go (begins_name c) (is_digit c) p
  where
    go : (a b : Bool) → kind (class_by a b c) ≡ Digit → b ≡ true
    go true b p = cc
    go false true p = refl
    go false false p = absurd (sign_no_digit (c == 45) (c == 34) (c == 91) (c == 93) (c == 44) (c == 32) p)

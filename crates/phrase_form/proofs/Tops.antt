-- A stack whose innermost frame lies at the end.
use Rattle.std.proofs.Common.{◌≡◌, ◌-◌, List, [], ◌∷◌, ◌++◌, length, reverse, slice_get, Some, None, refl, sym, ap, ◌∙◌, arith, length-append}
use Rattle.std.proofs.lemmas.List.{reverse-append, reverse-reverse}
use Rattle.phrase_form.specs.declared.frame.Frame.{Frame}
use Rattle.phrase_form.specs.Levels.{asked, asked_by, top_of}

last_get : (xs : List Frame) (F : Frame) → slice_get (xs ++ F ∷ []) (length xs) ≡ Some F
last_get [] F = refl
last_get (x ∷ xs) F = last_get xs F

last_place : (xs : List Frame) (F : Frame) → slice_get (xs ++ F ∷ []) (length (xs ++ F ∷ []) - 1) ≡ Some F
last_place xs F = let e : length (xs ++ F ∷ []) - 1 ≡ length xs = omega (arith, length-append xs (F ∷ [])) in rw e (last_get xs F)

-- by the reversed list
top_by : (ys xs : List Frame) → reverse xs ≡ ys → top_of ys ≡ slice_get xs (length xs - 1)
top_by [] xs e = let q : xs ≡ [] = sym (reverse-reverse xs) ∙ ap reverse e in rw q refl
top_by (F ∷ ys) xs e =
    let q : xs ≡ reverse ys ++ F ∷ [] = sym (reverse-reverse xs) ∙ ap reverse e ∙ reverse-append (F ∷ []) ys in
    rw q (sym (last_place (reverse ys) F))

pub top_reverse : (xs : List Frame) → top_of (reverse xs) ≡ slice_get xs (length xs - 1)
top_reverse xs = top_by (reverse xs) xs refl

pub level_top : (K : List Frame) (F : Frame) → Some F ≡ top_of K → asked K ≡ asked_by F
level_top [] F e = cc
level_top (G ∷ K) F e = let q : F ≡ G = cc in ap asked_by (sym q)

pub level_none : (K : List Frame) → None ≡ top_of K → asked K ≡ 2
level_none [] e = refl
level_none (G ∷ K) e = cc

pub ruleset level_steps = (level_top, level_none)

-- Bytes that are appended piece by piece, and the beginning of a script
use Rattle.std.proofs.Common.{◌≡◌, refl, ap, sym, ◌∙◌, subst, ℕ, ◌+◌, List, [], ◌∷◌, ◌++◌, length, append_assoc, arith}
use Rattle.std.specs.Prelude.{None, Some}
use Rattle.std.proofs.lemmas.List.{append-nil, length-append}
use Rattle.std.specs.declared.option.Option.{Option}
use Rattle.std.specs.Io.KnownBytes.{Appends}
use Rattle.script_text.specs.Bytes.{all_joined}
use Rattle.script_text.specs.Cells.{cells}
use Rattle.sequential_transcript.specs.Transcript.{none}
use Rattle.script_run.specs.Promise.{Begins}
use Rattle.script_run.proofs.TranscriptLemmas.{joined_more}

pub appends-nothing : (held : Option (List ℕ)) → Appends held held []
appends-nothing None = tt
appends-nothing (Some xs) = sym (append-nil xs)

pub appends-more : (a b c : Option (List ℕ)) (xs ys : List ℕ) → Appends a b xs → Appends b c ys → Appends a c (xs ++ ys)
appends-more None b c xs ys first second = tt
appends-more (Some us) None c xs ys first second = absurd first
appends-more (Some us) (Some bs) None xs ys first second = absurd second
appends-more (Some us) (Some bs) (Some cs) xs ys first second = second ∙ (ap (λ r. r ++ ys) first ∙ append_assoc us xs ys)

pub begins_nothing : (steps : ℕ) (script : List ℕ) → Begins steps script []
begins_nothing steps script = ([], cells script, refl, none)

-- room for what was written and more
none_more : (n : ℕ) → 0 + n ≡ n
none_more n = omega arith

pub takes_first : (takes : ℕ → Type 0) (more : ℕ) → takes (length (all_joined []) + more) → takes more
takes_first takes more t = subst takes (none_more more) t

pub takes_line : (takes : ℕ → Type 0) (lines : List (List ℕ)) (line : List ℕ) → takes (length (all_joined (lines ++ line ∷ []))) → takes (length (all_joined lines) + length line)
takes_line takes lines line t = subst takes (ap length (joined_more lines line) ∙ length-append (all_joined lines) line) t

pub takes_more : (takes : ℕ → Type 0) (lines : List (List ℕ)) (line : List ℕ) (more : ℕ) → takes (length (all_joined (lines ++ line ∷ [])) + more)
    → takes (length (all_joined lines) + (length line + more))
takes_more takes lines line more t = subst takes (omega (arith, ap length (joined_more lines line), length-append (all_joined lines) line)) t

pub ruleset writing_steps = (appends-nothing, appends-more, begins_nothing)

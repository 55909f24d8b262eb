-- From what was read and written to what a run promises
use Rattle.std.proofs.Common.{◌≡◌, ◌≢◌, inl, inr, ◌<◌, ◌≤◌, refl, sym, ap, ◌∙◌, subst, ℕ, List, ◌++◌, length, arith}
use Rattle.std.specs.Prelude.{Result, Ok, Err, Option, Some, None}
use Rattle.std.proofs.lemmas.List.{append-nil, length-append}
use Rattle.std.specs.Io.KnownBytes.{Consumes, IsAtEnd}
use Rattle.std.specs.Str.{IsUtf8}
use Rattle.port_io.specs.Reading.{IsRead}
use Rattle.port_io.specs.declared.input.ReadNo.{ReadNo}
use Rattle.port_io.specs.declared.input.ReadNo.TheVariants.{NoMemory as ReadNoMemory}
use Rattle.script_run.specs.Words.{steps_in}
use Rattle.script_run.specs.Promise.{Known, Ends, AreRead, IsWhole, Writes, Runs, TakesAll, Completes, limit}
use Rattle.script_run.specs.declared.report.Status.{Status}
use Rattle.script_run.specs.declared.report.Status.TheVariants.{Done, Usage, ReadFault, WriteFault, NoMemory, TooLong, NotText}
use Rattle.script_run.proofs.WritingLemmas.{appends-nothing, begins_nothing}

pub whole_read : (left rest : Known) (m n : ℕ) (answer : List ℕ) → IsRead limit left rest m n (Ok answer) → IsWhole left rest answer
whole_read left rest m n answer r =
    let same = r.2.0 in
    rw same (r.1, r.2.2, r.2.1)

pub read_unanswered : (left rest : Known) (m n : ℕ) (r : Result (List ℕ) ReadNo) (refusal : ReadNo) → IsRead limit left rest m n r → r ≡ Err refusal → refusal ≡ ReadNoMemory
    → (bytes : List ℕ) × Consumes left rest bytes × (length bytes ≤ limit)
read_unanswered left rest m n r refusal read at same =
    let whole : IsRead limit left rest m n (Err ReadNoMemory) = subst (λ x. IsRead limit left rest m n (Err x)) same (subst (λ q. IsRead limit left rest m n q) at read) in
    (whole.0, whole.1, whole.2)

pub runs_written : (words : List (List ℕ)) (before after : Ends) (steps : ℕ) (script : List ℕ) (status : Status) → AreRead words steps → IsWhole before.left after.left script → IsUtf8 script
    → Writes before.held after.held before.write_faults after.write_faults steps script status → Runs words before after status
runs_written words before after steps script Done read whole text written = (steps, read, (script, whole, text, written))
runs_written words before after steps script Usage read whole text written = absurd written
runs_written words before after steps script ReadFault read whole text written = absurd written
runs_written words before after steps script WriteFault read whole text written = (steps, read, (script, whole, text, written))
runs_written words before after steps script NoMemory read whole text written = (steps, read, inl (script, whole, text, written))
runs_written words before after steps script TooLong read whole text written = absurd written
runs_written words before after steps script NotText read whole text written = absurd written

-- ---- which statuses come where nothing fails

-- what was read of a source that tells its bytes
consumed : (script : List ℕ) (rest : Known) (bytes : List ℕ) → Consumes (Some script) rest bytes → length bytes ≤ length script
consumed script None bytes c = absurd c
consumed script (Some ys) bytes c = omega (arith, ap length c, length-append bytes ys)

consumed_all : (script : List ℕ) (rest : Known) (bytes : List ℕ) → Consumes (Some script) rest bytes → IsAtEnd rest → script ≡ bytes
consumed_all script None bytes c end = absurd c
consumed_all script (Some ys) bytes c end = c ∙ (ap (λ r. bytes ++ r) end ∙ append-nil bytes)

some_apart : (n : ℕ) → Some n ≡ None → ⊥
some_apart n e = Prim.cc e

-- the words give one number of steps
one_number : (words : List (List ℕ)) (m n : ℕ) → AreRead words m → AreRead words n → m ≡ n
one_number words m n one two = same m n (sym one ∙ two)
  where
    or_none : Option ℕ → ℕ
    or_none None = 0
    or_none (Some k) = k

    same : (i j : ℕ) → Some i ≡ Some j → i ≡ j
    same i j e = ap or_none e

pub complete_usage : (words : List (List ℕ)) (left : Known) (never_fails : Type 0) (takes : ℕ → Type 0) → steps_in words ≡ None → Completes words left never_fails takes Usage
complete_usage words left never_fails takes unread = λ asked read sure script at short text room. absurd (some_apart asked (sym read ∙ unread))

pub complete_read_fault : (words : List (List ℕ)) (left : Known) (never_fails : Type 0) (takes : ℕ → Type 0) → (never_fails → ⊥) → Completes words left never_fails takes ReadFault
complete_read_fault words left never_fails takes fails = λ asked read sure script at short text room. absurd (fails sure)

pub complete_no_memory : (words : List (List ℕ)) (left : Known) (never_fails : Type 0) (takes : ℕ → Type 0) → Completes words left never_fails takes NoMemory
complete_no_memory words left never_fails takes = λ asked read sure script at short text room. inr refl

pub complete_too_long : (words : List (List ℕ)) (left rest : Known) (never_fails : Type 0) (takes : ℕ → Type 0) (bytes : List ℕ) → Consumes left rest bytes → limit < length bytes
    → Completes words left never_fails takes TooLong
complete_too_long words left rest never_fails takes bytes c long = λ asked read sure script at short text room.
    let less = consumed script rest bytes (subst (λ l. Consumes l rest bytes) at c) in
    absurd (omega (arith, less, short, long))

pub complete_not_text : (words : List (List ℕ)) (left rest : Known) (never_fails : Type 0) (takes : ℕ → Type 0) (bytes : List ℕ) → IsWhole left rest bytes → (IsUtf8 bytes → ⊥)
    → Completes words left never_fails takes NotText
complete_not_text words left rest never_fails takes bytes whole other = λ asked read sure script at short text room.
    let same = consumed_all script rest bytes (subst (λ l. Consumes l rest bytes) at whole.0) whole.1 in
    absurd (other (subst IsUtf8 same text))

pub complete_run : (words : List (List ℕ)) (left rest : Known) (never_fails : Type 0) (takes : ℕ → Type 0) (held after : Known) (faults rose steps : ℕ) (bytes : List ℕ) (status : Status)
    → AreRead words steps → IsWhole left rest bytes → Writes held after faults rose steps bytes status → (TakesAll takes steps bytes → status ≢ WriteFault)
    → Completes words left never_fails takes status
complete_run words left rest never_fails takes held after faults rose steps bytes Done given whole written no_fault = λ asked read sure script at short text room. inl refl
complete_run words left rest never_fails takes held after faults rose steps bytes NoMemory given whole written no_fault = λ asked read sure script at short text room. inr refl
complete_run words left rest never_fails takes held after faults rose steps bytes WriteFault given whole written no_fault = λ asked read sure script at short text room.
    let same = consumed_all script rest bytes (subst (λ l. Consumes l rest bytes) at whole.0) whole.1 in
    let many = one_number words asked steps read given in
    absurd (no_fault (subst (λ n. TakesAll takes n bytes) many (subst (TakesAll takes asked) same room)) refl)
complete_run words left rest never_fails takes held after faults rose steps bytes Usage given whole written no_fault = absurd written
complete_run words left rest never_fails takes held after faults rose steps bytes ReadFault given whole written no_fault = absurd written
complete_run words left rest never_fails takes held after faults rose steps bytes TooLong given whole written no_fault = absurd written
complete_run words left rest never_fails takes held after faults rose steps bytes NotText given whole written no_fault = absurd written

pub ruleset run_steps = (whole_read, runs_written, appends-nothing, begins_nothing, complete_usage, complete_read_fault, complete_no_memory, complete_too_long, complete_not_text, complete_run)

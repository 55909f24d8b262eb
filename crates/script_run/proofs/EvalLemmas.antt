-- What the evaluator says of a cell that is evaluated alone.
use Rattle.std.proofs.Common.{◌≡◌, refl, sym, ap, ◌∙◌, subst, ℕ, ◌<◌, false, List, [], ◌∷◌, length}
use Rattle.std.specs.Prelude.{Option, Some, None, Result, Ok, Err, IfOk}
use Rattle.std.specs.declared.alloc.AllocError.{AllocError}
use Rattle.expr_tree.specs.Tree.{Tree}
use Rattle.expr_tree.specs.declared.limits.Limits.{Limits}
use Rattle.expr_tree.specs.declared.limits.Stop.{Stop}
use Rattle.script_text.specs.Laws.{IsKept}
use Rattle.script_text.specs.Spelling.{by_texts}
use Rattle.name_table.specs.Table.{NameTable}
use Rattle.semantics.specs.declared.builtin.Builtin.{Builtin}
use Rattle.semantics.specs.Definitions.{Definitions, empty}
use Rattle.semantics.specs.Names.{Names, make}
use Rattle.semantics.specs.Program.{Cell}
use Rattle.semantics.specs.Play.{Setting, State, End, Value, Stopped, Thrown, too_large}
use Rattle.semantics.specs.Ends.{aborted, shown_throw}
use Rattle.semantics.specs.Eval.{Event, Ended, eval}
use Rattle.semantics.specs.Eval as sem
use Rattle.builtin_names.specs.Named.{HasBuiltins, names_in}
use Rattle.evaluation_steps.specs.Explain.{EndsAs}
use Rattle.machine_steps.specs.Setup.{shown_by}
use Rattle.eval_seq.specs.Told.{Says}
use Rattle.eval_seq.specs.declared.call.Outcome.{Outcome}
use Rattle.laws_bases.specs.Kept.{AreKeptIn, IsKeptOutcome, StaysKept}
use Rattle.laws_bases.proofs.Stay.{bases_stay}
use Rattle.sequential_transcript.specs.Transcript.{shown_in, limits_of, alone, value_in}
use Rattle.script_run.proofs.LineLemmas.{rows_kept, name_kept}

pub first_kept : (count : ℕ) → AreKeptIn count empty
first_kept count = record { entries = tt; shared = tt; named = tt }

pub shown_alike : (table : NameTable) → shown_by table ≡ shown_in (by_texts table.texts) (names_in table)
unfolding shown_by shown_in names_in
shown_alike table = refl

-- an evaluation to which mode and kernel did not matter ends so without a call, and keeps the bases
pub record EndsAlone (set : Setting) (count : ℕ) (d : Definitions) (e : Tree) (o : End) (after : Definitions) : Type 0 where
  pub outcome : (eval set d e []).outcome ≡ Ended o
  pub definitions : (eval set d e []).definitions ≡ after
  pub kept : IsKeptOutcome count (Ended o)
  pub kept_after : AreKeptIn count after

pub ends_alone : (set : Setting) (count : ℕ) → ((row : Builtin) → set.names.place row < count) → (d : Definitions) (e : Tree) (events : List Event) (o : End) (st : State)
    → AreKeptIn count d → IsKept count e → EndsAs (eval set d e events) o st → st.used ≡ false → EndsAlone set count d e o st.definitions
ends_alone set count rows d e events o st defined kept ends unused =
    let stays : StaysKept count events (eval set d e events) = bases_stay set count rows d e events defined kept (ends.used ∙ unused) in
    let none : events ≡ [] = sym stays.no_call ∙ ends.rest in
    record {
      outcome = subst (λ es. (eval set d e es).outcome ≡ Ended o) none ends.outcome;
      definitions = subst (λ es. (eval set d e es).definitions ≡ st.definitions) none ends.definitions;
      kept = subst (IsKeptOutcome count) ends.outcome stays.value;
      kept_after = subst (AreKeptIn count) ends.definitions stays.definitions;
    }

-- ---- what the evaluator says

module _ (table : NameTable) (h : HasBuiltins table) (steps : ℕ) (limits : Limits) (same : limits ≡ limits_of steps) where
  abbrev told : Setting
  told = record { names = names_in table; shown = shown_by table; mode = Cell; kernel = 0; limits = limits }

  abbrev set : Setting
  set = alone (by_texts table.texts) (names_in table) steps

  told_is : told ≡ set
  told_is = λ i. record { names = names_in table; shown = shown_alike table i; mode = Cell; kernel = 0; limits = same i }

  ended : (d : Definitions) (e : Tree) (events : List Event) (o : End) (st : State) → AreKeptIn (length table.texts) d → IsKept (length table.texts) e
      → EndsAs (eval told d e events) o st → st.used ≡ false → EndsAlone set (length table.texts) d e o st.definitions
  ended d e events o st defined kept ends unused =
      subst (λ s. EndsAlone s (length table.texts) d e o st.definitions) told_is (ends_alone told (length table.texts) (rows_kept table h) d e events o st defined kept ends unused)

  pub ended_by_value : (d : Definitions) (e : Tree) (events : List Event) (outcome : Outcome) (v : Tree) (st : State) → AreKeptIn (length table.texts) d → IsKept (length table.texts) e
      → outcome ≡ Outcome.Value v → Says (eval told d e events) outcome st → st.used ≡ false → EndsAlone set (length table.texts) d e (Value v) st.definitions
  ended_by_value d e events outcome v st defined kept is says unused = ended d e events (Value v) st defined kept (subst (λ o. Says (eval told d e events) o st) is says) unused

  pub ended_by_stop : (d : Definitions) (e : Tree) (events : List Event) (outcome : Outcome) (cause : Stop) (st : State) → AreKeptIn (length table.texts) d → IsKept (length table.texts) e
      → outcome ≡ Outcome.Stopped cause → Says (eval told d e events) outcome st → st.used ≡ false → EndsAlone set (length table.texts) d e (Stopped cause) st.definitions
  ended_by_stop d e events outcome cause st defined kept is says unused = ended d e events (Stopped cause) st defined kept (subst (λ o. Says (eval told d e events) o st) is says) unused

  pub ended_by_throw : (d : Definitions) (e : Tree) (events : List Event) (outcome : Outcome) (v : Tree) (st : State) → AreKeptIn (length table.texts) d → IsKept (length table.texts) e
      → outcome ≡ Outcome.Thrown v → Says (eval told d e events) outcome st → st.used ≡ false → EndsAlone set (length table.texts) d e (Thrown v) st.definitions
  ended_by_throw d e events outcome v st defined kept is says unused = ended d e events (Thrown v) st defined kept (subst (λ o. Says (eval told d e events) o st) is says) unused

-- ---- what a throw shows

throw_kept : (table : NameTable) → HasBuiltins table → (limits : Limits) (v : Tree) → IsKept (length table.texts) v → IsKept (length table.texts) (shown_throw (names_in table) limits v)
throw_kept table h limits v kept = go (too_large limits held)
  where
    names : Names
    names = names_in table

    held : Tree
    held = make names Builtin.Hold (make names Builtin.Throw (v ∷ []) ∷ [])

    go : (o : Option Stop) → IsKept (length table.texts) (elim o [ None ↦ held | Some cause ↦ aborted names ])
    go None = (name_kept table h Builtin.Hold, ((name_kept table h Builtin.Throw, (kept, tt)), tt))
    go (Some cause) = name_kept table h Builtin.Aborted

pub shown_value : (r : Result Tree AllocError) (names : Names) (steps : ℕ) (limits : Limits) (o : sem.Outcome) (v : Tree) → limits ≡ limits_of steps → o ≡ Ended (Thrown v)
    → IfOk r (λ x. x ≡ shown_throw names limits v) → IfOk r (λ x. Some x ≡ value_in names (limits_of steps) o)
shown_value (Ok x) names steps limits o v same is shown = ap Some (shown ∙ ap (λ l. shown_throw names l v) same) ∙ sym (ap (value_in names (limits_of steps)) is)
shown_value (Err x) names steps limits o v same is shown = tt

pub shown_kept : (r : Result Tree AllocError) (table : NameTable) → HasBuiltins table → (limits : Limits) (v : Tree) → IsKept (length table.texts) v
    → IfOk r (λ x. x ≡ shown_throw (names_in table) limits v) → IfOk r (λ x. IsKept (length table.texts) x)
shown_kept (Ok x) table h limits v kept shown = subst (IsKept (length table.texts)) (sym shown) (throw_kept table h limits v kept)
shown_kept (Err x) table h limits v kept shown = tt

-- what holds besides, whether memory is wanting or not
pub shown_besides : (r : Result Tree AllocError) {P : Type 0} → P → IfOk r (λ x. P)
shown_besides (Ok x) p = p
shown_besides (Err x) p = tt

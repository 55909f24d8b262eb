-- How a section goes: it is entered, its body is evaluated, and it is left.
use Rattle.std.proofs.Common.{◌≡◌, Bool, true, false, ℕ, List, Option, Some, None, Result, Ok, Err, true≢false, sym}
use Rattle.expr_tree.specs.declared.sym.Sym.{Sym}
use Rattle.expr_tree.specs.Tree.{Tree}
use Rattle.semantics.specs.declared.builtin.Builtin.{Builtin}
use Rattle.semantics.specs.Names.{name}
use Rattle.semantics.specs.Program.{Section, Enter, Leave}
use Rattle.semantics.specs.Play.{Setting, State, all_among, opened}
use Rattle.evaluation_steps.specs.declared.Exit.{Exit}
use Rattle.evaluation_steps.specs.Leads.{Step}
use Rattle.evaluation_steps.specs.Words.{Evaluated, Ran, Called}
use Rattle.evaluation_steps.proofs.Laws.{went_out, reached_section, played_section_stop, played_section_thrown, played_section_closed, played_section_out, played_section_kept, reached_inner, played_inner_out, reached_refused}
use Rattle.eval_seq.specs.Ends.{leaves, held_in}

held_some : (o : Option (List Sym)) (locks : List Sym) {b : Bool} → held_in o locks ≡ Some b → (held : List Sym) × (o ≡ Some held) × (all_among locks held ≡ b)
held_some None locks is = absurd (Prim.cc is)
held_some (Some held) locks is = (held, Prim.cc, Prim.cc is)

pub held_none : (o : Option (List Sym)) (locks : List Sym) → held_in o locks ≡ None → o ≡ None
held_none None locks is = Prim.cc
held_none (Some held) locks is = absurd (Prim.cc is)

module _ {S : Type 0} {step : Step S} {set : Setting} {n : ℕ} where
  -- ---- inside another

  pub ran_inner : {locks : List Sym} {e : Tree} (r : Result Tree Exit) {s z : S} {st st' : State} → held_in st.open_section locks ≡ Some true → Evaluated step set n e s st r st' z → Ran step set n (Section locks e) s st r st' z
  ran_inner {locks = locks} (Ok v) {st = st} is a = let h = held_some st.open_section locks is in record { went = λ k. record { by = (reached_inner {k = k} h.1 h.2 a).on } }
  ran_inner {locks = locks} (Err x) {st = st} is a = let h = held_some st.open_section locks is in record { went = λ k. went_out (played_inner_out {k = k} h.1 h.2 a).went }

  pub ran_refused : {locks : List Sym} {e v : Tree} {s : S} {st : State} → held_in st.open_section locks ≡ Some false → v ≡ name set.names Builtin.Failed → Ran step set n (Section locks e) s st (Ok v) st s
  ran_refused {locks = locks} {e = e} {st = st} is same = let h = held_some st.open_section locks is in rw same (record { went = λ k. record { by = (reached_refused {set = set} {n = n} {locks = locks} {e = e} {k = k} h.1 h.2).on } })

  -- ---- a section of its own

  pub ran_not_entered : {locks : List Sym} {e : Tree} {x : Exit} {s z : S} {st st1 : State} → st.open_section ≡ None → Called step (Enter locks) s st (Err x) st1 z → Ran step set n (Section locks e) s st (Err x) st1 z
  ran_not_entered {locks = locks} {e = e} none enter = record { went = λ k. went_out (played_section_closed {set = set} {n = n} {locks = locks} {e = e} {k = k} none enter).went }

  -- Quit and the rest leave it open
  pub ran_stays_inside : {locks : List Sym} {e x : Tree} (r : Result Tree Exit) {s a z : S} {st st1 st2 : State} → leaves r ≡ false → st.open_section ≡ None →
      Called step (Enter locks) s st (Ok x) st1 a → Evaluated step set n e a (opened (Some locks) st1) r st2 z → Ran step set n (Section locks e) s st r st2 z
  ran_stays_inside (Ok v) is none enter body = absurd (true≢false is)
  ran_stays_inside (Err (Exit.Stopped c)) is none enter body = absurd (true≢false is)
  ran_stays_inside (Err (Exit.Throwing v)) is none enter body = record { went = λ k. went_out (played_section_out {k = k} none enter tt body).went }
  ran_stays_inside (Err (Exit.Thrown v)) is none enter body = absurd (true≢false is)
  ran_stays_inside (Err Exit.Quit) is none enter body = record { went = λ k. went_out (played_section_out {k = k} none enter tt body).went }
  ran_stays_inside (Err Exit.Closed) is none enter body = record { went = λ k. went_out (played_section_out {k = k} none enter tt body).went }
  ran_stays_inside (Err Exit.NoMemory) is none enter body = record { went = λ k. went_out (played_section_out {k = k} none enter tt body).went }

  pub ran_left : {locks : List Sym} {e x y : Tree} (r : Result Tree Exit) {s a b z : S} {st st1 st2 st3 : State} → leaves r ≡ true → st.open_section ≡ None →
      Called step (Enter locks) s st (Ok x) st1 a → Evaluated step set n e a (opened (Some locks) st1) r st2 b → Called step Leave b st2 (Ok y) st3 z → Ran step set n (Section locks e) s st r (opened None st3) z
  ran_left (Ok v) is none enter body leave = record { went = λ k. record { by = (reached_section {k = k} none enter body leave).on } }
  ran_left (Err (Exit.Stopped c)) is none enter body leave = record { went = λ k. went_out (played_section_stop {k = k} none enter body leave).went }
  ran_left (Err (Exit.Throwing v)) is none enter body leave = absurd (true≢false (sym is))
  ran_left (Err (Exit.Thrown v)) is none enter body leave = record { went = λ k. went_out (played_section_thrown {k = k} none enter body leave).went }
  ran_left (Err Exit.Quit) is none enter body leave = absurd (true≢false (sym is))
  ran_left (Err Exit.Closed) is none enter body leave = absurd (true≢false (sym is))
  ran_left (Err Exit.NoMemory) is none enter body leave = absurd (true≢false (sym is))

  -- Leave gave no value
  pub ran_not_left : {locks : List Sym} {e x : Tree} (r : Result Tree Exit) {h : Exit} {s a b z : S} {st st1 st2 st3 : State} → leaves r ≡ true → st.open_section ≡ None →
      Called step (Enter locks) s st (Ok x) st1 a → Evaluated step set n e a (opened (Some locks) st1) r st2 b → Called step Leave b st2 (Err h) st3 z → Ran step set n (Section locks e) s st (Err h) st3 z
  ran_not_left (Ok v) is none enter body leave = record { went = λ k. went_out (played_section_kept {r = Ok v} {k = k} none enter tt body leave).went }
  ran_not_left (Err (Exit.Stopped c)) is none enter body leave = record { went = λ k. went_out (played_section_kept {r = Err (Exit.Stopped c)} {k = k} none enter tt body leave).went }
  ran_not_left (Err (Exit.Throwing v)) is none enter body leave = absurd (true≢false (sym is))
  ran_not_left (Err (Exit.Thrown v)) is none enter body leave = record { went = λ k. went_out (played_section_kept {r = Err (Exit.Thrown v)} {k = k} none enter tt body leave).went }
  ran_not_left (Err Exit.Quit) is none enter body leave = absurd (true≢false (sym is))
  ran_not_left (Err Exit.Closed) is none enter body leave = absurd (true≢false (sym is))
  ran_not_left (Err Exit.NoMemory) is none enter body leave = absurd (true≢false (sym is))

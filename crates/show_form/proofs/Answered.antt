-- What `read_full` answers, from what the program keeps.
use Rattle.std.proofs.Common.{◌≡◌, refl, sym, ap, subst, ◌∙◌, ℕ, ◌+◌, ◌<◌, ◌≤◌, Bool, true, false, cond, ltb, List, [], length, take, drop, take_all, Option, Some, None, option_and_then, Result, Ok, Err, true≢false, arith, ltb-true, le-leb}
use Rattle.std.specs.Prelude.{◌&&◌, leb, min, IfOk, IfErr}
use Rattle.std.proofs.lemmas.Bool.{leb-true, leb-false, ltb-false}
use Rattle.std.proofs.lemmas.List.{take-append-drop}
use Rattle.expr_tree.specs.Tree.{Tree, size, depth}
use Rattle.script_text.specs.Spelling.{by_texts, place_in}
use Rattle.script_text.specs.FullForm.{IsFullForm, IsFullFormOf, BeginsFullForm, IsFirstBad}
use Rattle.script_text.specs.FullNames.{names_in}
use Rattle.script_text.specs.Reader as r
use Rattle.show_form.specs.declared.fault.FullFault.{FullFault}
use Rattle.show_form.specs.declared.fault.FullFault.TheVariants as fa
use Rattle.show_form.specs.declared.frame.Kept.{Kept}
use Rattle.show_form.specs.Extents.{fits}
use Rattle.show_form.specs.Frames.{kept, kept_by, Limits}
use Rattle.show_form.specs.Faults.{AreKeptNames, IsFault, IsStop}
use Rattle.show_form.specs.Steps.{State, run, whole, first_state}
use Rattle.show_form.proofs.Kept.{lifted, kept_of, run_is, whole_is}
use Rattle.show_form.proofs.Given.{reads_full_form, begins, begins_none, unread}

read_is : (find : List ℕ → ℕ) (t : List ℕ) → option_and_then (whole find) (run find t first_state) ≡ kept_of (r.read find t)
read_is find t = ap (option_and_then (whole find)) (run_is find t r.first_state) ∙ go (r.run find t r.first_state)
  where
    go : (o : Option r.State) → option_and_then (whole find) (lifted o) ≡ kept_of (option_and_then (λ s. r.whole find s.frames s.mode) o)
    go None = refl
    go (Some s) = whole_is find s

none_back : (o : Option r.State) → lifted o ≡ None → o ≡ None
none_back None e = refl
none_back (Some s) e = cc

tree_none : (o : Option Tree) → kept_of o ≡ None → o ≡ None
tree_none None e = refl
tree_none (Some d) e = cc

module _ (texts : List (List ℕ)) (t : List ℕ) where
  abbrev pub Answers : Result Tree FullFault → Type 0
  Answers (Ok e) = IsFullFormOf (by_texts texts) e t
  Answers (Err fault) = IsFault texts t fault

  too_deep : (e : Tree) → fits e ≡ false → size e ≤ 4000000 → 512 < depth e
  too_deep e p h = go (leb (depth e) 512) refl
    where
      go : (b : Bool) → leb (depth e) 512 ≡ b → 512 < depth e
      go true q = absurd (true≢false (sym (rw (le-leb (size e) 4000000 h, q) refl) ∙ p))
      go false q = omega (arith, leb-false (depth e) 512 q)

  beyond : (e : Tree) → IsFullFormOf (by_texts texts) e t → fits e ≡ false → (res : Result Tree FullFault) (b : Bool) → ltb 4000000 (min (size e) 4000001) ≡ b
      → res ≡ cond b (Err fa.TooLarge) (Err fa.TooDeep) → Answers res
  beyond e f p res true q l = let h = ltb-true 4000000 (min (size e) 4000001) q in subst Answers (sym l) (e, f, omega arith)
  beyond e f p res false q l =
      let h = ltb-false 4000000 (min (size e) 4000001) q in
      let small : size e ≤ 4000000 = omega arith in
      subst Answers (sym l) (e, f, small, too_deep e p small)

  given : (e : Tree) → IsFullFormOf (by_texts texts) e t → (res : Result Tree FullFault) → Limits (kept e) res → Answers res
  given e f res l = go (fits e) refl l
    where
      go : (b : Bool) → fits e ≡ b → Limits (kept_by b e) res → Answers res
      go true p l = subst Answers (sym l) f
      go false p l = beyond e f p res (ltb 4000000 (min (size e) 4000001)) refl l

  pub answered : AreKeptNames texts (names_in t) → (k : Kept) (res : Result Tree FullFault)
      → option_and_then (whole (place_in texts)) (run (place_in texts) t first_state) ≡ Some k → Limits k res → Answers res
  answered names k res q l = go (r.read (place_in texts) t) refl (sym (read_is (place_in texts) t) ∙ q)
    where
      go : (o : Option Tree) → r.read (place_in texts) t ≡ o → kept_of o ≡ Some k → Answers res
      go None p z = cc
      go (Some e) p z =
          let same : kept e ≡ k = cc in
          given e (reads_full_form texts t names e p) res (subst (λ x. Limits x res) (sym same) l)

  -- ---- where it stops

  good_front : (place : ℕ) (s : State) → run (place_in texts) (take place t) first_state ≡ Some s → BeginsFullForm (take place t)
  good_front place s g = go (r.run (place_in texts) (take place t) r.first_state) refl (sym (run_is (place_in texts) (take place t) r.first_state) ∙ g)
    where
      go : (o : Option r.State) → r.run (place_in texts) (take place t) r.first_state ≡ o → lifted o ≡ Some s → BeginsFullForm (take place t)
      go None p z = cc
      go (Some d) p z = begins texts (take place t) d p

  bad_front : (n : ℕ) → run (place_in texts) (take n t) first_state ≡ None → ¬ BeginsFullForm (take n t)
  bad_front n g = begins_none texts (take n t) (none_back (r.run (place_in texts) (take n t) r.first_state) (sym (run_is (place_in texts) (take n t) r.first_state) ∙ g))

  no_end : (place : ℕ) (s : State) → place ≡ length t → run (place_in texts) (take place t) first_state ≡ Some s → whole (place_in texts) s ≡ None → ¬ IsFullForm t
  no_end place s e g w =
      unread texts t (tree_none (r.read (place_in texts) t)
      (sym (read_is (place_in texts) t)
      ∙ ap (λ v. option_and_then (whole (place_in texts)) (run (place_in texts) v first_state)) (sym (take_all place t (omega arith)))
      ∙ ap (option_and_then (whole (place_in texts))) g ∙ w))

  first_bad : (place : ℕ) → IsStop (place_in texts) t place → IsFirstBad t place
  first_bad place h = record {
    within = h.within;
    good = good_front place h.state h.good;
    bad = λ p. bad_front (place + 1) (h.bad p);
    unfinished = λ p. no_end place h.state p h.good (h.unfinished p);
  }

  no_full_form : (place : ℕ) → IsFirstBad t place → ¬ IsFullForm t
  no_full_form place h f = go (ltb place (length t)) refl
    where
      go : (b : Bool) → ltb place (length t) ≡ b → ⊥
      go true p = h.bad (ltb-true place (length t) p) (drop (place + 1) t, subst IsFullForm (sym (take-append-drop (place + 1) t)) f)
      go false p = let long = ltb-false place (length t) p in let w = h.within in h.unfinished (omega arith) f

  pub stopped : (place : ℕ) → IsStop (place_in texts) t place → IsFault texts t (fa.At place)
  stopped place h = let b = first_bad place h in (no_full_form place b, b)

  pub answers_ok : (res : Result Tree FullFault) → Answers res → IfOk res (λ e. IsFullFormOf (by_texts texts) e t)
  answers_ok (Ok e) a = a
  answers_ok (Err fault) a = tt

  pub answers_err : (res : Result Tree FullFault) → Answers res → IfErr res (λ fault. IsFault texts t fault)
  answers_err (Ok e) a = tt
  answers_err (Err fault) a = a

-- The program's frames are those of the machine over what is kept.
use Rattle.std.proofs.Common.{◌≡◌, ℕ, ◌<◌, Bool, true, false, ◌&&◌, nat_lt, List, [], ◌∷◌, length, suc, Option, Some, None, refl, sym, ap, subst, ltb-true}
use Rattle.expr_tree.specs.Tree.{Tree}
use Rattle.semantics.specs.declared.builtin.Builtin.{Builtin}
use Rattle.semantics.specs.Names.{Names}
use Rattle.syntax.specs.Operators.{Operator, tags_of}
use Rattle.syntax.proofs.Reader as r
use Rattle.laws_reading.specs.Kept as low
use Rattle.phrase_form.specs.Levels.{asked, asked_by, needs_none, top_of, is_tag, tighter}
use Rattle.phrase_form.specs.Held.{kept_in}
use Rattle.phrase_form.specs.States.{frame_in, frames_in}
use Rattle.phrase_form.specs.Steps as s
use Rattle.phrase_form.specs.declared.kept.Kept.{Kept}
use Rattle.phrase_form.specs.declared.frame.Frame.{Frame}
use Rattle.phrase_form.specs.declared.frame.Frame.TheVariants as fr

module _ (N : Names) where
  pub level_in : (F : Frame) → r.frame_level low.Kept (Option Tree) low.KeptList (low.kept N) (frame_in N F) ≡ asked_by F
  unfolding r.frame_level
  level_in fr.Group = refl
  level_in (fr.Elements opening xs) = refl
  level_in (fr.Leads op) = refl
  level_in (fr.Joins op x) = refl
  level_in (fr.Beside x) = refl
  level_in (fr.Tag x) = refl
  level_in (fr.Outer e) = refl
  level_in (fr.Tagged row x y) = refl

  pub levels_in : (K : List Frame) → r.level_at low.Kept (Option Tree) low.KeptList (low.kept N) (frames_in N K) ≡ asked K
  unfolding r.level_at
  levels_in [] = refl
  levels_in (F ∷ K) = level_in F

  pub frames_length : (K : List Frame) → length (frames_in N K) ≡ length K
  frames_length [] = refl
  frames_length (F ∷ K) = ap (λ n. suc n) (frames_length K)

  both : (a c : Bool) → (a && c) ≡ true → (a ≡ true) × (c ≡ true)
  both true true e = (refl, refl)
  both true false e = cc
  both false c e = cc

  -- a tighter frame combines
  pub tighter_reduces : (level : ℕ) (F : Frame) (K : List Frame) (x y : low.Kept) → tighter level (Some F) ≡ true → s.completed N (frame_in N F) x ≡ Some y →
      s.reduce N level (frames_in N (F ∷ K)) x ≡ s.reduce N level (frames_in N K) y
  tighter_reduces level F K x y e c =
      let h : level < asked_by F = ltb-true level (asked_by F) (both (nat_lt level (asked_by F)) (needs_none F) e).0 in
      r.reduce_some low.Kept (Option Tree) low.KeptList (low.kept N) level (frame_in N F) (frames_in N K) x y (subst (λ n. level < n) (sym (level_in F)) h) c

  completed_none : (F : Frame) (x : low.Kept) → needs_none F ≡ false → s.completed N (frame_in N F) x ≡ None
  unfolding r.completed
  completed_none fr.Group x e = refl
  completed_none (fr.Elements opening xs) x e = refl
  completed_none (fr.Tag y) x e = refl
  completed_none (fr.Outer y) x e = refl
  completed_none (fr.Leads op) x e = cc
  completed_none (fr.Joins op y) x e = cc
  completed_none (fr.Beside y) x e = cc
  completed_none (fr.Tagged row y z) x e = cc

  popped_none : (level : ℕ) (F : Frame) (x : low.Kept) (a c : Bool) → nat_lt level (asked_by F) ≡ a → needs_none F ≡ c → (a && c) ≡ false →
      r.popped low.Kept (Option Tree) low.KeptList (low.kept N) level (frame_in N F) x ≡ None
  unfolding r.popped
  popped_none level F x false d g e f = rw (level_in F, g) refl
  popped_none level F x true false g e f = rw (level_in F, g) (completed_none F x e)
  popped_none level F x true true g e f = cc

  -- one that is not tighter stops, and so does no frame
  pub tighter_stops : (level : ℕ) (K : List Frame) (x : low.Kept) → tighter level (top_of K) ≡ false → s.reduce N level (frames_in N K) x ≡ (frames_in N K, x)
  unfolding r.reduce
  tighter_stops level [] x e = refl
  tighter_stops level (F ∷ K) x e =
      r.reduce_none low.Kept (Option Tree) low.KeptList (low.kept N) level (frame_in N F) (frames_in N K) x (popped_none level F x (nat_lt level (asked_by F)) (needs_none F) refl refl e)

  -- the tag of `t /: l = r`
  tag_in : (K : List Frame) → is_tag (top_of K) ≡ false → r.tag_on_top low.Kept (Option Tree) low.KeptList (low.kept N) (frames_in N K) ≡ None
  unfolding r.tag_on_top
  tag_in [] e = refl
  tag_in (fr.Group ∷ K) e = refl
  tag_in (fr.Elements opening xs ∷ K) e = refl
  tag_in (fr.Leads op ∷ K) e = refl
  tag_in (fr.Joins op x ∷ K) e = refl
  tag_in (fr.Beside x ∷ K) e = refl
  tag_in (fr.Tag x ∷ K) e = cc
  tag_in (fr.Outer x ∷ K) e = refl
  tag_in (fr.Tagged row x y ∷ K) e = refl

  by_none : (row : Option Builtin) (t : Option (low.Kept × List (s.Frame N))) (op : Operator) (K : List (s.Frame N)) (x : low.Kept) → t ≡ None →
      r.joined_by low.Kept (Option Tree) low.KeptList (low.kept N) row t op K x ≡ s.attached N op K x
  by_none (Some row) None op K x e = refl
  by_none (Some row) (Some t) op K x e = cc
  by_none None t op K x e = refl

  pub joined_plain : (op : Operator) (K : List Frame) (x : low.Kept) → is_tag (top_of K) ≡ false → s.joined N op (frames_in N K) x ≡ s.attached N op (frames_in N K) x
  unfolding r.joined
  joined_plain op K x e = by_none (tags_of op) (r.tag_on_top low.Kept (Option Tree) low.KeptList (low.kept N) (frames_in N K)) op (frames_in N K) x (tag_in K e)

  pub joined_tagged : (op : Operator) (row : Builtin) (K L : List Frame) (t x : Kept) → tags_of op ≡ Some row → K ≡ fr.Tag t ∷ L →
      s.joined N op (frames_in N K) (kept_in x) ≡ Some (frames_in N (fr.Tagged row t x ∷ L), r.MWant)
  unfolding r.joined r.tag_on_top
  joined_tagged op row K L t x e f = rw (f, e) refl

pub ruleset frame_steps = (levels_in, frames_length)

pub ruleset tag_steps = (joined_plain, joined_tagged)

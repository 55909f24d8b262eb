-- The steps of the machine, by what its parts give.
use Rattle.std.proofs.Common.{◌≡◌, ℕ, ◌<◌, List, [], ◌∷◌, length, None, refl, sym, ap, ◌∙◌, arith}
use Rattle.semantics.specs.Names.{Names}
use Rattle.syntax.specs.Terminals as ter
use Rattle.syntax.proofs.Reader as r
use Rattle.laws_reading.specs.Kept as low
use Rattle.phrase_form.specs.States.{frames_in}
use Rattle.phrase_form.specs.Steps as s
use Rattle.phrase_form.specs.declared.frame.Frame.{Frame}

module _ (N : Names) where
  pub phrase_followed : (n : ter.Next) (t : ter.Terminal) (K L : List (s.Frame N)) (x y : low.Kept) (level : ℕ) → level ≡ s.next_level N n → s.reduce N level K x ≡ (L, y) →
      s.goes_on N n t L y ≡ s.follows_phrase N n t K x
  unfolding r.follows_phrase
  phrase_followed n t K L x y level e f =
      let g : s.reduce N (s.next_level N n) K x ≡ (L, y) = ap (λ (k : ℕ). s.reduce N k K x) (sym e) ∙ f in
      sym (ap (λ (p : List (s.Frame N) × low.Kept). s.goes_on N n t p.0 p.1) g)

  pub comma_followed : (n : ter.Next) (t : ter.Terminal) (K : List (s.Frame N)) (x : low.Kept) → n ≡ ter.Comma → s.separated N K ((low.kept N).of_end x) ≡ s.follows_semicolon N n t K x
  unfolding r.follows_semicolon
  comma_followed n t K x e = sym (ap (λ (m : ter.Next). s.follows_semicolon N m t K x) e)

  pub bracket_followed : (n : ter.Next) (c : ter.Bracket) (t : ter.Terminal) (K : List (s.Frame N)) (x : low.Kept) → n ≡ ter.Closes c →
      s.closed N c K ((low.kept N).of_end x) ≡ s.follows_semicolon N n t K x
  unfolding r.follows_semicolon
  bracket_followed n c t K x e = sym (ap (λ (m : ter.Next). s.follows_semicolon N m t K x) e)

  pub half_followed : (n : ter.Next) (t : ter.Terminal) (K : List (s.Frame N)) (xs : low.KeptList) (m : s.Mode N) → n ≡ ter.next_of t → m ≡ r.MHalf xs →
      s.follows_half N n K xs ≡ s.follows N m t K
  unfolding r.follows
  half_followed n t K xs m e f = ap (λ (k : ter.Next). s.follows_half N k K xs) e ∙ sym (ap (λ (q : s.Mode N). s.follows N q t K) f)

  pub bottom_none : (K : List Frame) (x : low.Kept) → 0 < length K → None ≡ s.at_bottom N (frames_in N K) x
  bottom_none [] x h = absurd (omega arith)
  bottom_none (F ∷ K) x h = refl

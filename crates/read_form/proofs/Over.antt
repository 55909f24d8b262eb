-- One token after another.
use Rattle.std.proofs.Common.{◌≡◌, ◌∙◌, refl, sym, ap, subst, ℕ, zero, suc, ◌+◌, ◌<◌, List, [], ◌∷◌, ◌++◌, map, length, drop, get_or, add-one, drop-cons, arith, Option, Some, None}
use Rattle.std.proofs.lemmas.List.{drop-map}
use Rattle.semantics.specs.Names.{Names}
use Rattle.syntax.specs.Tokens as syn
use Rattle.lex_form.specs.declared.token.Token.{Token}
use Rattle.lex_form.specs.Lexes.{token_of}
use Rattle.lex_form.specs.Shapes.{IsToken, AreTokens}
use Rattle.phrase_form.specs.States.{State}
use Rattle.phrase_form.specs.Machine.{state_in, steps_to}
use Rattle.phrase_form.specs.declared.machine.Machine.{Machine}
use Rattle.phrase_form.specs.declared.machine.Step.{Step}
use Rattle.read_form.specs.Kept.{AreKeptNames}
use Rattle.read_form.proofs.BlankParts.{kept_front, kept_back}

-- what is known of the token whose turn it is, and of those behind it
pub record Turn (cell : List ℕ) (texts : List (List ℕ)) (at i : ℕ) (tokens : List Token) (t : Token) : Type 0 where
  pub next : drop i (syn.lex cell).tokens ≡ token_of t ∷ map token_of (drop (i + 1) tokens)
  pub is_token : IsToken cell at (token_of t)
  pub are_tokens : AreTokens cell t.to (map token_of (drop (i + 1) tokens))
  pub kept_here : AreKeptNames texts (syn.token_names (token_of t).kind (syn.token_text cell (token_of t)))
  pub kept_later : AreKeptNames texts (syn.names_in cell (map token_of (drop (i + 1) tokens)))

at_token : (ts : List Token) (i : ℕ) (t : Token) → i < length ts → t ≡ get_or ts i t → drop i ts ≡ t ∷ drop (i + 1) ts
at_token ts i t h e = rw (drop-cons ts i t h, add-one) (ap (λ (x : Token). x ∷ drop (suc i) ts) (sym e))

pub turn : (cell : List ℕ) (texts : List (List ℕ)) (at i : ℕ) (tokens : List Token) (t : Token) → map token_of tokens ≡ (syn.lex cell).tokens → i < length tokens → t ≡ get_or tokens i t →
    AreTokens cell at (map token_of (drop i tokens)) → AreKeptNames texts (syn.names_in cell (map token_of (drop i tokens))) → Turn cell texts at i tokens t
turn cell texts at i tokens t m h e a k =
    let d : map token_of (drop i tokens) ≡ token_of t ∷ map token_of (drop (i + 1) tokens) = ap (map token_of) (at_token tokens i t h e) in
    let b : AreTokens cell at (token_of t ∷ map token_of (drop (i + 1) tokens)) = subst (AreTokens cell at) d a in
    let n : AreKeptNames texts (syn.token_names (token_of t).kind (syn.token_text cell (token_of t)) ++ syn.names_in cell (map token_of (drop (i + 1) tokens))) = subst (λ (us : List syn.Token). AreKeptNames texts (syn.names_in cell us)) d k in
    record {
      next = ap (drop i) (sym m) ∙ drop-map token_of i tokens ∙ d;
      is_token = b.0;
      are_tokens = b.1;
      kept_here = kept_front texts (syn.token_names (token_of t).kind (syn.token_text cell (token_of t))) (syn.names_in cell (map token_of (drop (i + 1) tokens))) n;
      kept_later = kept_back texts (syn.token_names (token_of t).kind (syn.token_text cell (token_of t))) (syn.names_in cell (map token_of (drop (i + 1) tokens))) n;
    }

any_default : (ts : List Token) (i : ℕ) (d e : Token) → i < length ts → get_or ts i d ≡ get_or ts i e
any_default [] i d e h = absurd (omega arith)
any_default (t ∷ ts) zero d e h = refl
any_default (t ∷ ts) (suc i) d e h = any_default ts i d e (omega arith)

-- the token at a place of the list that the loop goes over
pub found : (items tokens : List Token) (i : ℕ) (d : Token) → items ≡ tokens → i < length items → get_or items i d ≡ get_or tokens i (get_or items i d)
found items tokens i d e h = any_default items i d (get_or items i d) h ∙ ap (λ (ts : List Token). get_or ts i (get_or items i d)) e

pub within : (items tokens : List Token) (i : ℕ) → items ≡ tokens → i < length items → i < length tokens
within items tokens i e h = subst (λ (ts : List Token). i < length ts) e h

pub step_stops : (names : Names) (s : Step) (m : Machine) (o : Option (State names)) → steps_to names s m ≡ o → s ≡ Step.Stops → o ≡ None
step_stops names s m o e q = sym e ∙ ap (λ (r : Step). steps_to names r m) q

pub step_goes : (names : Names) (s : Step) (m : Machine) (o : Option (State names)) → steps_to names s m ≡ o → s ≡ Step.Goes → o ≡ Some (state_in names m)
step_goes names s m o e q = sym e ∙ ap (λ (r : Step). steps_to names r m) q

-- Comments at the front of a text.
use Rattle.std.proofs.Common.{◌≡◌, refl, sym, ap, ap₂, ◌∙◌, subst, subst₂, ℕ, zero, suc, ◌+◌, ◌≤◌, Bool, true, false, List, [], ◌∷◌, ◌++◌, length, drop, true≢false, arith, append-nil, eqb-true, leb-true}
use Rattle.std.specs.Prelude.{◌==◌, ◌&&◌, ◌||◌, not, leb, codes}
use Rattle.script_text.specs.Bytes.{begins_with}
use Rattle.syntax.specs.Signs.{Sign, sign_text}
use Rattle.syntax.specs.Tokens as tok
use Rattle.syntax.specs.Tokens.{Kind, Scan, Skips, Faults, comment_end}
use Rattle.laws_tokens.specs.Texts.{Part, Whole, IsPart, Nested, ended, begun, left, byte, IsComment, IsOpenComment, IsSign}
use Rattle.laws_tokens.specs.Texts as of
use Rattle.laws_tokens.proofs.Fronts.{first_byte, later, Other, can_be, longest_by, both_true}
use Rattle.laws_tokens.proofs.Runs.{Stands, stands}
use Rattle.laws_tokens.proofs.Strings.{all_bound}

-- ---- how a comment goes on

data CommentEnd (depth n : ℕ) (cs : List ℕ) (s : Scan) : Type 0 where
  closed : (x rest : List ℕ) → Nested depth x 0 → cs ≡ x ++ rest → s ≡ Skips (n + length x) → CommentEnd depth n cs s
  unclosed : (inner : ℕ) → Nested depth cs (suc inner) → s ≡ Faults tok.OpenComment 0 → CommentEnd depth n cs s

nonzero : (x : List ℕ) → Nested 0 x 0 → x ≡ []
nonzero x k = go 0 x 0 k refl
  where
    go : (m : ℕ) (x : List ℕ) (n : ℕ) → Nested m x n → m ≡ 0 → x ≡ []
    go m x n ended e = refl
    go m x n (begun k) e = absurd (omega (arith, e))
    go m x n (left k) e = absurd (omega (arith, e))
    go m x n (byte c p q k) e = absurd (omega (arith, e))

not_ended : (d : ℕ) → Nested (suc d) [] 0 → ⊥
not_ended d k = go (suc d) [] 0 k refl refl refl
  where
    go : (m : ℕ) (x : List ℕ) (n : ℕ) → Nested m x n → m ≡ suc d → x ≡ [] → n ≡ 0 → ⊥
    go m x n ended p q r = omega (arith, p, r)
    go m x n (begun k) p q r = let h = ap length q in omega (arith, h)
    go m x n (left k) p q r = let h = ap length q in omega (arith, h)
    go m x n (byte c f g k) p q r = let h = ap length q in omega (arith, h)

-- a byte 0 is no more than a byte
without_zero : (d n : ℕ) (x : List ℕ) → Nested (suc d) (0 ∷ x) n → Nested (suc d) x n
without_zero d n x k = go (suc d) (0 ∷ x) n k refl refl
  where
    go : (m : ℕ) (xs : List ℕ) (n : ℕ) → Nested m xs n → m ≡ suc d → xs ≡ 0 ∷ x → Nested (suc d) x n
    go m xs n ended p q = absurd (let h = ap length q in omega (arith, h))
    go m xs n (begun {cs = cs} k) p q = absurd (let h = first_byte 40 0 (42 ∷ cs) x q in omega (arith, h))
    go m xs n (left {cs = cs} k) p q = absurd (let h = first_byte 42 0 (41 ∷ cs) x q in omega (arith, h))
    go m xs n (byte {cs = cs} c f g k) p q = subst₂ (λ (a : ℕ) (ys : List ℕ). Nested a ys n) p (later c 0 cs x q) k

zero_gone : (d n : ℕ) (cs : List ℕ) (s : Scan) → CommentEnd (suc d) n (0 ∷ cs) s → CommentEnd (suc d) (suc n) cs s
zero_gone d n cs s (closed [] rest k w e) = absurd (not_ended d k)
zero_gone d n cs s (closed (c ∷ x) rest k w e) =
    let h = first_byte 0 c cs (x ++ rest) w in
    closed x rest (without_zero d 0 x (subst (λ (b : ℕ). Nested (suc d) (b ∷ x) 0) (sym h) k)) (later 0 c cs (x ++ rest) w) (e ∙ ap Skips (omega arith))
zero_gone d n cs s (unclosed inner k e) = unclosed inner (without_zero d (suc inner) cs k) e

after_begun : (d n : ℕ) (cs : List ℕ) (s : Scan) → CommentEnd (suc (suc d)) (suc (suc n)) cs s → CommentEnd (suc d) n (40 ∷ 42 ∷ cs) s
after_begun d n cs s (closed x rest k w e) = closed (40 ∷ 42 ∷ x) rest (begun k) (ap (λ (ys : List ℕ). 40 ∷ 42 ∷ ys) w) (e ∙ ap Skips (omega arith))
after_begun d n cs s (unclosed inner k e) = unclosed inner (begun k) e

after_left : (d n : ℕ) (cs : List ℕ) (s : Scan) → CommentEnd d (suc (suc n)) cs s → CommentEnd (suc d) n (42 ∷ 41 ∷ cs) s
after_left d n cs s (closed x rest k w e) = closed (42 ∷ 41 ∷ x) rest (left k) (ap (λ (ys : List ℕ). 42 ∷ 41 ∷ ys) w) (e ∙ ap Skips (omega arith))
after_left d n cs s (unclosed inner k e) = unclosed inner (left k) e

-- the two bytes are not these
pair_not : (a b c d : ℕ) (cs : List ℕ) → ((c == a) && (d == b)) ≡ false → begins_with (a ∷ b ∷ []) (c ∷ d ∷ cs) ≡ false
pair_not a b c d cs e = go (c == a) (d == b) e
  where
    go : (p q : Bool) → (p && q) ≡ false → elim p as (λ _. Bool) [ true ↦ elim q as (λ _. Bool) [ true ↦ true | false ↦ false ] | false ↦ false ] ≡ false
    go true true e = e
    go true false e = refl
    go false q e = refl

alone_not : (a b c : ℕ) → begins_with (a ∷ b ∷ []) (c ∷ []) ≡ false
alone_not a b c = go (c == a)
  where
    go : (p : Bool) → elim p as (λ _. Bool) [ true ↦ false | false ↦ false ] ≡ false
    go true = refl
    go false = refl

after_byte : (d n b c : ℕ) (cs : List ℕ) (s : Scan) → ((b == 40) && (c == 42)) ≡ false → ((b == 42) && (c == 41)) ≡ false → CommentEnd (suc d) (suc n) (c ∷ cs) s → CommentEnd (suc d) n (b ∷ c ∷ cs) s
after_byte d n b c cs s f g (closed [] rest k w e) = absurd (not_ended d k)
after_byte d n b c cs s f g (closed (x ∷ xs) rest k w e) =
    let h = first_byte c x cs (xs ++ rest) w in
    let k' : Nested (suc d) (c ∷ xs) 0 = subst (λ (y : ℕ). Nested (suc d) (y ∷ xs) 0) (sym h) k in
    closed (b ∷ c ∷ xs) rest (byte b (pair_not 40 42 b c xs f) (pair_not 42 41 b c xs g) k') (ap (λ (ys : List ℕ). b ∷ c ∷ ys) (later c x cs (xs ++ rest) w)) (e ∙ ap Skips (omega arith))
after_byte d n b c cs s f g (unclosed inner k e) = unclosed inner (byte b (pair_not 40 42 b c cs f) (pair_not 42 41 b c cs g) k) e

abbrev comment_by : ℕ → ℕ → ℕ → List ℕ → Bool → Bool → Scan
comment_by d n c cs p q =
    elim p as (λ _. Scan) [
      | true ↦ comment_end (suc (suc d)) 0 (suc n) cs
      | false ↦ elim q as (λ _. Scan) [ true ↦ comment_end d 0 (suc n) cs | false ↦ comment_end (suc d) c (suc n) cs ]
    ]

pair_is : (a b c d : ℕ) → ((c == a) && (d == b)) ≡ true → (a ≡ c) × (b ≡ d)
pair_is a b c d e = let both = both_true (c == a) (d == b) e in (sym (eqb-true c a both.0), sym (eqb-true d b both.1))

-- behind m bytes and the byte `b`
comment_ends : (cs : List ℕ) (d b m : ℕ) → CommentEnd (suc d) m (b ∷ cs) (comment_end (suc d) b (suc m) cs)
comment_ends [] d b m = unclosed d (byte b (alone_not 40 42 b) (alone_not 42 41 b) ended) refl
comment_ends (c ∷ cs) d b m = go ((b == 40) && (c == 42)) ((b == 42) && (c == 41)) refl refl (comment_ends cs (suc d) 0 (suc m)) (outer d (λ e. comment_ends cs e 0 (suc m))) (comment_ends cs d c (suc m))
  where
    outer : (d : ℕ) → ((e : ℕ) → CommentEnd (suc e) (suc m) (0 ∷ cs) (comment_end (suc e) 0 (suc (suc m)) cs)) → CommentEnd d (suc (suc m)) cs (comment_end d 0 (suc (suc m)) cs)
    outer zero next = closed [] cs ended refl (ap Skips (omega arith))
    outer (suc e) next = zero_gone e (suc m) cs (comment_end (suc e) 0 (suc (suc m)) cs) (next e)

    go : (p q : Bool) → ((b == 40) && (c == 42)) ≡ p → ((b == 42) && (c == 41)) ≡ q →
        CommentEnd (suc (suc d)) (suc m) (0 ∷ cs) (comment_end (suc (suc d)) 0 (suc (suc m)) cs) →
        CommentEnd d (suc (suc m)) cs (comment_end d 0 (suc (suc m)) cs) →
        CommentEnd (suc d) (suc m) (c ∷ cs) (comment_end (suc d) c (suc (suc m)) cs) →
        CommentEnd (suc d) m (b ∷ c ∷ cs) (comment_by d (suc m) c cs p q)
    go true q f g in_next out_next here =
        let h = pair_is 40 42 b c f in
        subst₂ (λ (x y : ℕ). CommentEnd (suc d) m (x ∷ y ∷ cs) (comment_end (suc (suc d)) 0 (suc (suc m)) cs)) h.0 h.1
        (after_begun d m cs (comment_end (suc (suc d)) 0 (suc (suc m)) cs) (zero_gone (suc d) (suc m) cs (comment_end (suc (suc d)) 0 (suc (suc m)) cs) in_next))
    go false true f g in_next out_next here =
        let h = pair_is 42 41 b c g in
        subst₂ (λ (x y : ℕ). CommentEnd (suc d) m (x ∷ y ∷ cs) (comment_end d 0 (suc (suc m)) cs)) h.0 h.1
        (after_left d m cs (comment_end d 0 (suc (suc m)) cs) out_next)
    go false false f g in_next out_next here = after_byte d m b c cs (comment_end (suc d) c (suc (suc m)) cs) f g here

-- ---- what is within a comment goes no further than to its end

begins_pair : (a b : ℕ) (cs : List ℕ) → begins_with (a ∷ b ∷ []) (a ∷ b ∷ cs) ≡ true → (c : ℕ) (ds : List ℕ) → c ∷ ds ≡ a ∷ b ∷ cs → begins_with (a ∷ b ∷ []) (c ∷ ds) ≡ false → ⊥
begins_pair a b cs t c ds e f = true≢false (sym t ∙ ap (begins_with (a ∷ b ∷ [])) (sym e) ∙ f)

-- a byte by itself, and another of whose two bytes it is the first
one_byte : (a b c : ℕ) (xs us ws : List ℕ) → ((ys : List ℕ) → begins_with (a ∷ b ∷ []) (a ∷ b ∷ ys) ≡ true) → begins_with (a ∷ b ∷ []) (c ∷ xs) ≡ false → c ∷ (xs ++ us) ≡ a ∷ b ∷ ws → length xs ≡ 0
one_byte a b c [] us ws t f e = refl
one_byte a b c (x ∷ xs) us ws t f e =
    let p : c ≡ a = cc in
    let q : x ≡ b = cc in
    absurd (begins_pair a b xs (t xs) c (x ∷ xs) (ap₂ (λ (y z : ℕ). y ∷ z ∷ xs) p q) f)

not_alone : (a b c d : ℕ) (xs ys us : List ℕ) → ((ys : List ℕ) → begins_with (a ∷ b ∷ []) (a ∷ b ∷ ys) ≡ true) → begins_with (a ∷ b ∷ []) (c ∷ ys) ≡ false → Nested (suc d) ys 0 → (rest : List ℕ) → a ∷ b ∷ (xs ++ us) ≡ c ∷ (ys ++ rest) → ⊥
not_alone a b c d xs [] us t f k rest e = not_ended d k
not_alone a b c d xs (y ∷ ys) us t f k rest e =
    let p : c ≡ a = cc in
    let q : y ≡ b = cc in
    begins_pair a b ys (t ys) c (y ∷ ys) (ap₂ (λ (u v : ℕ). u ∷ v ∷ ys) p q) f

pub nested_front : (m a : ℕ) (x y us rest : List ℕ) → Nested m x a → Nested m y 0 → x ++ us ≡ y ++ rest → length x ≤ length y
nested_front m a x y us rest k l e = go m x a k m y 0 l refl refl e
  where
    go : (m : ℕ) (x : List ℕ) (a : ℕ) → Nested m x a → (m' : ℕ) (y : List ℕ) (b : ℕ) → Nested m' y b → m ≡ m' → b ≡ 0 → x ++ us ≡ y ++ rest → length x ≤ length y
    go m x a ended m' y b l p q e = omega arith
    go m x a (begun {cs = xs} k) m' y b ended p q e = absurd (omega (arith, p, q))
    go m x a (begun {m = i} {cs = xs} k) m' y b (begun {m = j} {cs = ys} l) p q e =
        let w : xs ++ us ≡ ys ++ rest = cc in
        let r = go (suc (suc i)) xs a k (suc (suc j)) ys b l (omega (arith, p)) q w in
        omega (arith, r)
    go m x a (begun {cs = xs} k) m' y b (left {cs = ys} l) p q e =
        absurd (let h = first_byte 40 42 (42 ∷ (xs ++ us)) (41 ∷ (ys ++ rest)) e in omega (arith, h))
    go m x a (begun {cs = xs} k) m' y b (byte {m = j} {cs = ys} c f g l) p q e =
        absurd (not_alone 40 42 c j xs ys us (λ zs. refl) f (subst (λ (z : ℕ). Nested (suc j) ys z) q l) rest e)
    go m x a (left {cs = xs} k) m' y b ended p q e = absurd (omega (arith, p, q))
    go m x a (left {cs = xs} k) m' y b (begun {cs = ys} l) p q e =
        absurd (let h = first_byte 42 40 (41 ∷ (xs ++ us)) (42 ∷ (ys ++ rest)) e in omega (arith, h))
    go m x a (left {m = i} {cs = xs} k) m' y b (left {m = j} {cs = ys} l) p q e =
        let w : xs ++ us ≡ ys ++ rest = cc in
        let r = go i xs a k j ys b l (omega (arith, p)) q w in
        omega (arith, r)
    go m x a (left {cs = xs} k) m' y b (byte {m = j} {cs = ys} c f g l) p q e =
        absurd (not_alone 42 41 c j xs ys us (λ zs. refl) g (subst (λ (z : ℕ). Nested (suc j) ys z) q l) rest e)
    go m x a (byte {cs = xs} c f g k) m' y b ended p q e = absurd (omega (arith, p, q))
    go m x a (byte {cs = xs} c f g k) m' y b (begun {cs = ys} l) p q e =
        let h = one_byte 40 42 c xs us (ys ++ rest) (λ zs. refl) f e in omega (arith, h)
    go m x a (byte {cs = xs} c f g k) m' y b (left {cs = ys} l) p q e =
        let h = one_byte 42 41 c xs us (ys ++ rest) (λ zs. refl) g e in omega (arith, h)
    go m x a (byte {m = i} {cs = xs} c f g k) m' y b (byte {m = j} {cs = ys} c' f' g' l) p q e =
        let w : xs ++ us ≡ ys ++ rest = cc in
        let r = go (suc i) xs a k (suc j) ys b l p q w in
        omega (arith, r)

-- ---- what stands there

-- no sign but `(` begins with `(`
abbrev paren_alone : List ℕ → Bool
paren_alone t = not (begins_with (40 ∷ []) t) || leb (length t) 1

sign_paren : (s : Sign) → paren_alone (sign_text s) ≡ true
sign_paren Sign.Query = refl
sign_paren Sign.At = refl
sign_paren Sign.SlashAt = refl
sign_paren Sign.AtAt = refl
sign_paren Sign.Caret = refl
sign_paren Sign.Slash = refl
sign_paren Sign.Star = refl
sign_paren Sign.Plus = refl
sign_paren Sign.Minus = refl
sign_paren Sign.EqualEqual = refl
sign_paren Sign.BangEqual = refl
sign_paren Sign.Less = refl
sign_paren Sign.LessEqual = refl
sign_paren Sign.Greater = refl
sign_paren Sign.GreaterEqual = refl
sign_paren Sign.SameSign = refl
sign_paren Sign.UnsameSign = refl
sign_paren Sign.Bang = refl
sign_paren Sign.AndAnd = refl
sign_paren Sign.BarBar = refl
sign_paren Sign.Bar = refl
sign_paren Sign.Colon = refl
sign_paren Sign.SlashSemicolon = refl
sign_paren Sign.Arrow = refl
sign_paren Sign.ColonGreater = refl
sign_paren Sign.SlashDot = refl
sign_paren Sign.SlashSlashDot = refl
sign_paren Sign.PlusEqual = refl
sign_paren Sign.MinusEqual = refl
sign_paren Sign.StarEqual = refl
sign_paren Sign.Ampersand = refl
sign_paren Sign.SlashSlash = refl
sign_paren Sign.Assign = refl
sign_paren Sign.ColonEqual = refl
sign_paren Sign.CaretEqual = refl
sign_paren Sign.CaretColonEqual = refl
sign_paren Sign.AssignDot = refl
sign_paren Sign.SlashColon = refl
sign_paren Sign.Semicolon = refl
sign_paren Sign.PlusPlus = refl
sign_paren Sign.MinusMinus = refl
sign_paren Sign.OpenParen = refl
sign_paren Sign.CloseParen = refl
sign_paren Sign.OpenBracket = refl
sign_paren Sign.CloseBracket = refl
sign_paren Sign.OpenBrace = refl
sign_paren Sign.CloseBrace = refl
sign_paren Sign.Comma = refl

pub sign_bound : (t : List ℕ) (c : ℕ) (cs u : List ℕ) → c ≡ 40 → c ∷ cs ≡ t ++ u → IsSign t → length t ≤ 1
sign_bound [] c cs u e w i = omega arith
sign_bound (d ∷ t) c cs u e w i =
    let q : d ≡ 40 = sym (first_byte c d cs (t ++ u) w) ∙ e in
    let p : paren_alone (d ∷ t) ≡ true = ap paren_alone i.is ∙ sign_paren i.sign in
    go (leb (length (d ∷ t)) 1) refl (ap (λ (k : ℕ). not (begins_with (40 ∷ []) (k ∷ t)) || leb (length (d ∷ t)) 1) (sym q) ∙ p)
  where
    go : (b : Bool) → leb (length (d ∷ t)) 1 ≡ b → (false || b) ≡ true → length (d ∷ t) ≤ 1
    go true g h = leb-true (length (d ∷ t)) 1 g
    go false g h = absurd (true≢false (sym h))

comment_bound : (ds x rest : List ℕ) → Nested 1 x 0 → ds ≡ x ++ rest → (q : Part) (t u : List ℕ) → 40 ∷ 42 ∷ ds ≡ t ++ u → can_be Other q ≡ true → IsPart q t → length t ≤ suc (suc (length x))
comment_bound ds x rest k w (Whole Kind.Operator) t u v e i = let h = sign_bound t 40 (42 ∷ ds) u refl v i in omega (arith, h)
comment_bound ds x rest k w of.Comment t u v e i =
    let g : 40 ∷ 42 ∷ ds ≡ 40 ∷ 42 ∷ (i.inside ++ u) = v ∙ ap (λ (xs : List ℕ). xs ++ u) i.is in
    let h : ds ≡ i.inside ++ u = cc in
    let r = nested_front 1 0 i.inside x u rest i.ends k (sym h ∙ w) in
    let l = ap length i.is in
    omega (arith, r, l)
comment_bound ds x rest k w of.OpenComment t u v e i =
    let g : 40 ∷ 42 ∷ ds ≡ 40 ∷ 42 ∷ (i.inside ++ u) = v ∙ ap (λ (xs : List ℕ). xs ++ u) i.is in
    let h : ds ≡ i.inside ++ u = cc in
    let r = nested_front 1 (suc i.inner) i.inside x u rest i.stays k (sym h ∙ w) in
    let l = ap length i.is in
    omega (arith, r, l)
comment_bound ds x rest k w _ t u v e i = absurd (true≢false (sym e))

comment_at : (ds : List ℕ) → Stands (40 ∷ 42 ∷ ds) (comment_end 1 0 2 ds)
comment_at ds = go (zero_gone 0 1 ds (comment_end 1 0 2 ds) (comment_ends ds 0 0 1))
  where
    go : CommentEnd 1 2 ds (comment_end 1 0 2 ds) → Stands (40 ∷ 42 ∷ ds) (comment_end 1 0 2 ds)
    go (closed x rest k w e) =
        stands of.Comment (40 ∷ 42 ∷ x) rest
        (longest_by 40 (42 ∷ ds) Other refl of.Comment (40 ∷ 42 ∷ x) rest (ap (λ (ys : List ℕ). 40 ∷ 42 ∷ ys) w) (record { inside = x; is = refl; ends = k })
        (comment_bound ds x rest k w))
        (e ∙ ap Skips (omega arith))
    go (unclosed inner k e) =
        stands of.OpenComment (40 ∷ 42 ∷ ds) []
        (longest_by 40 (42 ∷ ds) Other refl of.OpenComment (40 ∷ 42 ∷ ds) [] (sym (append-nil (40 ∷ 42 ∷ ds))) (record { inside = ds; inner = inner; is = refl; stays = k })
        (λ q t u v f j. all_bound (40 ∷ 42 ∷ ds) q t u v))
        e

pub comment_stands : (c : ℕ) (cs : List ℕ) → begins_with (codes "(*") (c ∷ cs) ≡ true → Stands (c ∷ cs) (comment_end 1 0 2 (drop 1 cs))
comment_stands c [] e = absurd (true≢false (sym e ∙ alone_not 40 42 c))
comment_stands c (d ∷ ds) e = go ((c == 40) && (d == 42)) refl
  where
    go : (b : Bool) → ((c == 40) && (d == 42)) ≡ b → Stands (c ∷ d ∷ ds) (comment_end 1 0 2 ds)
    go true g =
        let h = pair_is 40 42 c d g in
        subst₂ (λ (x y : ℕ). Stands (x ∷ y ∷ ds) (comment_end 1 0 2 ds)) h.0 h.1 (comment_at ds)
    go false g = absurd (true≢false (sym e ∙ pair_not 40 42 c d ds g))

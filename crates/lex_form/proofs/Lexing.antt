-- Steps of the scanners
use Rattle.std.proofs.Common.{◌≡◌, ◌≢◌, refl, ap, sym, ◌∙◌, ℕ, zero, suc, ◌+◌, ◌-◌, ◌*◌, ◌<◌, ◌≤◌, ◌^◌, Bool, true, false, cond, List, [], ◌∷◌, ◌++◌, length, map, drop, take, get_or, drop-cons, add-one, append_assoc, length-drop, arith}
use Rattle.std.specs.Prelude.{◌&&◌, ◌==◌, ltb, leb, min, pred, Option, Some}
use Rattle.std.proofs.lemmas.Bool.Decides.{nat_tests}
use Rattle.std.specs.List.{starts_with}
use Rattle.std.proofs.lemmas.List.{drop-drop, append-nil}
use Rattle.lex_form.specs.Scans.{front, marked}
use Rattle.lex_form.specs.declared.token.Token.{Token}
use Rattle.lex_form.specs.Lexes.{token_of}
use Rattle.script_text.specs.Bytes.{begins_with, number_after, run}
use Rattle.syntax.specs.Signs.{Sign, signs, sign_text}
use Rattle.syntax.specs.Tokens as syn
use Rattle.case_table.specs.declared.table.Row.{Row}
use Rattle.case_table.specs.Entries.{Entry, entries, operator_entry}

-- the first of these texts that stands at the front
abbrev pub operator_by : List (List ℕ) → List ℕ → syn.Scan
operator_by [] cs = syn.Faults syn.BadByte 0
operator_by (t ∷ ts) cs = elim (begins_with t cs) [ true ↦ syn.Takes syn.Operator (length t) | false ↦ operator_by ts cs ]

abbrev pub written : List Row → List (List ℕ)
written [] = []
written (r ∷ rs) = r.name.now ∷ written rs

abbrev pub are_written : List (List ℕ) → Bool
are_written [] = true
are_written (t ∷ ts) = ltb 0 (length t) && are_written ts

by_signs : (ss : List Sign) (cs : List ℕ) → operator_by (map sign_text ss) cs ≡ syn.operator_in ss cs
by_signs [] cs = refl
by_signs (s ∷ ss) cs = ap (λ r. elim (begins_with (sign_text s) cs) [ true ↦ syn.Takes syn.Operator (length (sign_text s)) | false ↦ r ]) (by_signs ss cs)

entry_names : (rs : List Row) → map (λ (e : Entry). e.name) (entries rs) ≡ written rs
entry_names [] = refl
entry_names (r ∷ rs) = ap (λ ts. r.name.now ∷ ts) (entry_names rs)

operator_names : (rs : List Row) → entries rs ≡ map operator_entry signs → written rs ≡ map sign_text signs
operator_names rs e = sym (entry_names rs) ∙ ap (λ es. map (λ (x : Entry). x.name) es) e

pub operators_init : (rs : List Row) (cs : List ℕ) → entries rs ≡ map operator_entry signs
    → record { filled : are_written (written rs) ≡ true; rest : operator_by (written rs) cs ≡ syn.operator_in signs cs }
operators_init rs cs e = record {
  filled = ap are_written (operator_names rs e);
  rest = ap (λ ts. operator_by ts cs) (operator_names rs e) ∙ by_signs signs cs;
}

pub begins_within : (t cs : List ℕ) → begins_with t cs ≡ true → length t ≤ length cs
begins_within [] cs e = omega arith
begins_within (d ∷ ds) [] e = cc
begins_within (d ∷ ds) (c ∷ cs) e = go (c == d) (begins_within ds cs) e
  where
    go : (b : Bool) → (begins_with ds cs ≡ true → length ds ≤ length cs) → elim b [ true ↦ begins_with ds cs | false ↦ false ] ≡ true → length (d ∷ ds) ≤ length (c ∷ cs)
    go true rest e = let w = rest e in omega (arith, w)
    go false rest e = cc

pub number_after_ge : (ds : List ℕ) (n : ℕ) → n ≤ number_after n ds
number_after_ge [] n = omega arith
number_after_ge (d ∷ ds) n = let rest = number_after_ge ds (n * 10 + (d - 48)) in omega (arith, rest)

-- tokens in front of others
abbrev pub behind : List syn.Token → syn.Lexed → syn.Lexed
behind ts l = record { tokens = ts ++ l.tokens; fault = l.fault }

pub lex_skip : (cs : List ℕ) (at n : ℕ) → syn.lex_from at n cs ≡ syn.lex_from (at + n) 0 (drop n cs)
lex_skip [] at n = nothing at n
  where
    nothing : (at n : ℕ) → syn.lex_from at n [] ≡ syn.lex_from (at + n) 0 (drop n [])
    nothing at zero = refl
    nothing at (suc n) = refl
lex_skip (c ∷ cs) at zero = ap (λ k. syn.lex_from k 0 (c ∷ cs)) (omega arith)
lex_skip (c ∷ cs) at (suc n) = lex_skip cs (suc at) n ∙ ap (λ k. syn.lex_from k 0 (drop n cs)) (omega arith)

pub wide : (digits : List ℕ) (value i : ℕ) → i < length digits → number_after value (drop i digits) ≡ number_after 0 digits
    → 2 ^ 127 ≤ value * 10 + (get_or digits i 0 - 48) → false ≡ ltb (number_after 0 digits) (2 ^ 127)
wide digits value i within same large =
    let here : number_after (value * 10 + (get_or digits i 0 - 48)) (drop (suc i) digits) ≡ number_after 0 digits = rw (drop-cons digits i 0) at same in
    let more = number_after_ge (drop (suc i) digits) (value * 10 + (get_or digits i 0 - 48)) in
    let all : 2 ^ 127 ≤ number_after 0 digits = omega (arith, more, here, large) in
    grind (arith, nat_tests)

run_take : (test : ℕ → Bool) (k : ℕ) (cs : List ℕ) → run test (take k cs) ≡ min (run test cs) k
run_take test zero cs = omega arith
run_take test (suc k) [] = omega arith
run_take test (suc k) (c ∷ cs) = go (test c) (run_take test k cs)
  where
    go : (b : Bool) → run test (take k cs) ≡ min (run test cs) k
        → elim b [ true ↦ suc (run test (take k cs)) | false ↦ zero ] ≡ min (elim b [ true ↦ suc (run test cs) | false ↦ zero ]) (suc k)
    go true rest = omega (arith, rest)
    go false rest = omega arith

run_within : (test : ℕ → Bool) (cs : List ℕ) → run test cs ≤ length cs
run_within test [] = omega arith
run_within test (c ∷ cs) = go (test c) (run_within test cs)
  where
    go : (b : Bool) → run test cs ≤ length cs → elim b [ true ↦ suc (run test cs) | false ↦ zero ] ≤ length (c ∷ cs)
    go true rest = omega (arith, rest)
    go false rest = omega arith

least : (r : ℕ) → min r 3 ≡ cond (leb r 3) r 3
least r = grind (arith, nat_tests)

pub blank_is : (n : ℕ) (cs : List ℕ) (k marks name : ℕ) → k ≡ min (length cs) 3 → marks ≡ run (λ c. c == 95) (take k cs)
    → name ≡ syn.name_length (drop marks cs) → syn.Takes syn.Blank (n + marks + name) ≡ syn.blank_after n cs
blank_is n cs k marks name front counted named =
    let r = run (λ c. c == 95) cs in
    let within = run_within (λ c. c == 95) cs in
    let taken = run_take (λ c. c == 95) k cs in
    let at_most : marks ≡ min r 3 = omega (arith, counted, taken, front, within) in
    let m : marks ≡ cond (leb r 3) r 3 = at_most ∙ least r in
    rw (named, m) refl

next : (items : List ℕ) (i : ℕ) → i < length items → drop i items ≡ get_or items i 0 ∷ drop (i + 1) items
next items i within = rw add-one (drop-cons items i 0 within)

one_more : (n : ℕ) → n + 1 ≡ suc n
one_more n = omega arith

abbrev chosen : ℕ → ℕ → ℕ → List ℕ → Bool → Bool → syn.Scan
chosen inner n c cs true closes = syn.comment_end (suc (suc inner)) 0 (suc n) cs
chosen inner n c cs false true = syn.comment_end inner 0 (suc n) cs
chosen inner n c cs false false = syn.comment_end (suc inner) c (suc n) cs

after : (inner b n c : ℕ) (cs : List ℕ)
    → syn.comment_end (suc inner) b n (c ∷ cs) ≡ chosen inner n c cs ((b == 40) && (c == 42)) ((b == 42) && (c == 41))
after inner b n c cs = go ((b == 40) && (c == 42)) ((b == 42) && (c == 41))
  where
    go : (opens closes : Bool) → elim opens [
      | true ↦ syn.comment_end (suc (suc inner)) 0 (suc n) cs
      | false ↦ elim closes [ true ↦ syn.comment_end inner 0 (suc n) cs | false ↦ syn.comment_end (suc inner) c (suc n) cs ]
    ] ≡ chosen inner n c cs opens closes
    go true closes = refl
    go false true = refl
    go false false = refl

after_as : (inner b n c : ℕ) (cs : List ℕ) (opens closes : Bool) → opens ≡ ((b == 40) && (c == 42)) → closes ≡ ((b == 42) && (c == 41))
    → syn.comment_end (suc inner) b n (c ∷ cs) ≡ chosen inner n c cs opens closes
after_as inner b n c cs opens closes p q =
    after inner b n c cs ∙ ap (λ x. chosen inner n c cs x ((b == 42) && (c == 41))) (sym p) ∙ ap (λ x. chosen inner n c cs opens x) (sym q)

pub opened : (inner b n i d b' : ℕ) (items : List ℕ) (t : syn.Scan) → i < length items
    → true ≡ ((b == 40) && (get_or items i 0 == 42)) → d ≡ inner + 1 → b' ≡ 0
    → syn.comment_end (suc inner) b n (drop i items) ≡ t → syn.comment_end (suc d) b' (n + 1) (drop (i + 1) items) ≡ t
opened inner b n i d b' items t within test deeper before same =
    let step = after_as inner b n (get_or items i 0) (drop (i + 1) items) true _ test refl in
    rw (deeper, before, one_more inner, one_more n) (sym step ∙ ap (λ cs. syn.comment_end (suc inner) b n cs) (sym (next items i within)) ∙ same)

pub passed : (inner b n i d b' : ℕ) (items : List ℕ) (t : syn.Scan) → i < length items
    → false ≡ ((b == 40) && (get_or items i 0 == 42)) → false ≡ ((b == 42) && (get_or items i 0 == 41)) → d ≡ inner → b' ≡ get_or items i 0
    → syn.comment_end (suc inner) b n (drop i items) ≡ t → syn.comment_end (suc d) b' (n + 1) (drop (i + 1) items) ≡ t
passed inner b n i d b' items t within test end deeper before same =
    let step = after_as inner b n (get_or items i 0) (drop (i + 1) items) false false test end in
    rw (deeper, before, one_more n) (sym step ∙ ap (λ cs. syn.comment_end (suc inner) b n cs) (sym (next items i within)) ∙ same)

pub closed : (inner b n i d b' : ℕ) (items : List ℕ) (t : syn.Scan) → i < length items
    → false ≡ ((b == 40) && (get_or items i 0 == 42)) → true ≡ ((b == 42) && (get_or items i 0 == 41)) → inner ≡ suc d → b' ≡ 0
    → syn.comment_end (suc inner) b n (drop i items) ≡ t → syn.comment_end (suc d) b' (n + 1) (drop (i + 1) items) ≡ t
closed inner b n i d b' items t within test end deeper before same =
    let step = after_as inner b n (get_or items i 0) (drop (i + 1) items) false true test end in
    rw (← deeper, before, one_more n) (sym step ∙ ap (λ cs. syn.comment_end (suc inner) b n cs) (sym (next items i within)) ∙ same)

flip : (c d : ℕ) → (d == c) ≡ (c == d)
flip c d = grind (arith, nat_tests)

pub starts_is : (ds xs : List ℕ) → starts_with (λ x y. x == y) xs ds ≡ begins_with ds xs
starts_is [] xs = refl
starts_is (d ∷ ds) [] = refl
starts_is (d ∷ ds) (c ∷ cs) = rw (flip c d) (go (c == d) (starts_is ds cs))
  where
    go : (b : Bool) → starts_with (λ x y. x == y) cs ds ≡ begins_with ds cs → (b && starts_with (λ x y. x == y) cs ds) ≡ elim b [ true ↦ begins_with ds cs | false ↦ false ]
    go true rest = rest
    go false rest = refl

abbrev lexed_by : ℕ → List ℕ → syn.Scan → syn.Lexed
lexed_by at cs (syn.Takes kind n) = syn.and_token (record { kind = kind; from = at; to = at + n }) (syn.lex_from (suc at) (pred n) cs)
lexed_by at cs (syn.Skips n) = syn.lex_from (suc at) (pred n) cs
lexed_by at cs (syn.Faults fault n) = record { tokens = []; fault = Some (fault (at + n)) }

lexed_front : (at : ℕ) (xs : List ℕ) → 0 < length xs → syn.lex_from at 0 xs ≡ lexed_by at (drop 1 xs) (front xs)
lexed_front at [] within = absurd (omega (arith, within))
lexed_front at (c ∷ cs) within = go (syn.scan c cs)
  where
    go : (s : syn.Scan) → elim s [
      | syn.Takes kind n ↦ syn.and_token (record { kind = kind; from = at; to = at + n }) (syn.lex_from (suc at) (pred n) cs)
      | syn.Skips n ↦ syn.lex_from (suc at) (pred n) cs
      | syn.Faults fault n ↦ record { tokens = []; fault = Some (fault (at + n)) }
    ] ≡ lexed_by at cs s
    go (syn.Takes kind n) = refl
    go (syn.Skips n) = refl
    go (syn.Faults fault n) = refl

jump : (at n : ℕ) (text : List ℕ) → 0 < n → syn.lex_from (suc at) (pred n) (drop 1 (drop at text)) ≡ syn.lex_from (at + n) 0 (drop (at + n) text)
jump at zero text positive = absurd (omega (arith, positive))
jump at (suc m) text positive =
    let far : drop m (drop 1 (drop at text)) ≡ drop (at + suc m) text =
    ap (λ ys. drop m ys) (drop-drop 1 at text) ∙ drop-drop m (at + 1) text ∙ ap (λ k. drop k text) (omega arith) in
    let place : suc at + m ≡ at + suc m = omega arith in
    lex_skip (drop 1 (drop at text)) (suc at) m ∙ ap (λ k. syn.lex_from k 0 (drop m (drop 1 (drop at text)))) place ∙ ap (λ ys. syn.lex_from (at + suc m) 0 ys) far

within_drop : (at : ℕ) (text : List ℕ) → at < length text → 0 < length (drop at text)
within_drop at text within = omega (arith, within, length-drop {A = ℕ})

abbrev with_tokens : List syn.Token → Option syn.LexFault → syn.Lexed
with_tokens ts fault = record { tokens = ts; fault = fault }

pub taken : (at n : ℕ) (text : List ℕ) (ts : List syn.Token) (k : syn.Kind) (w : syn.Lexed) → at < length text → syn.Takes k n ≡ front (drop at text) → 0 < n
    → behind ts (syn.lex_from at 0 (drop at text)) ≡ w
    → behind (ts ++ (record { kind = k; from = at; to = at + n } ∷ [])) (syn.lex_from (at + n) 0 (drop (at + n) text)) ≡ w
taken at n text ts k w within is positive same =
    let t : syn.Token = record { kind = k; from = at; to = at + n } in
    let here : syn.lex_from at 0 (drop at text) ≡ syn.and_token t (syn.lex_from (at + n) 0 (drop (at + n) text)) =
    lexed_front at (drop at text) (within_drop at text within) ∙ ap (λ s. lexed_by at (drop 1 (drop at text)) s) (sym is)
    ∙ ap (λ l. syn.and_token t l) (jump at n text positive) in
    pushed ts t (syn.lex_from (at + n) 0 (drop (at + n) text)) ∙ ap (λ l. behind ts l) (sym here) ∙ same
  where
    pushed : (ts : List syn.Token) (t : syn.Token) (l : syn.Lexed) → behind (ts ++ (t ∷ [])) l ≡ behind ts (syn.and_token t l)
    pushed ts t l = ap (λ xs. with_tokens xs l.fault) (append_assoc ts (t ∷ []) l.tokens)

pub skipped : (at n : ℕ) (text : List ℕ) (ts : List syn.Token) (w : syn.Lexed) → at < length text → syn.Skips n ≡ front (drop at text) → 0 < n
    → behind ts (syn.lex_from at 0 (drop at text)) ≡ w → behind ts (syn.lex_from (at + n) 0 (drop (at + n) text)) ≡ w
skipped at n text ts w within is positive same =
    let here : syn.lex_from at 0 (drop at text) ≡ syn.lex_from (at + n) 0 (drop (at + n) text) =
    lexed_front at (drop at text) (within_drop at text within) ∙ ap (λ s. lexed_by at (drop 1 (drop at text)) s) (sym is) ∙ jump at n text positive in
    ap (λ l. behind ts l) (sym here) ∙ same

pub faulted : (at n : ℕ) (text : List ℕ) (ts : List syn.Token) (f : ℕ → syn.LexFault) (w : syn.Lexed) → at < length text → syn.Faults f n ≡ front (drop at text)
    → behind ts (syn.lex_from at 0 (drop at text)) ≡ w → record { tokens = ts; fault = Some (f (at + n)) } ≡ w
faulted at n text ts f w within is same =
    let here : syn.lex_from at 0 (drop at text) ≡ record { tokens = []; fault = Some (f (at + n)) } =
    lexed_front at (drop at text) (within_drop at text within) ∙ ap (λ s. lexed_by at (drop 1 (drop at text)) s) (sym is) in
    ap (λ xs. with_tokens xs (Some (f (at + n)))) (sym (append-nil ts)) ∙ ap (λ l. behind ts l) (sym here) ∙ same

pub map_push : (ts : List Token) (t : Token) → map token_of (ts ++ (t ∷ [])) ≡ map token_of ts ++ (token_of t ∷ [])
map_push [] t = refl
map_push (u ∷ us) t = ap (λ xs. token_of u ∷ xs) (map_push us t)

no : (m n : ℕ) → m ≢ n → (m == n) ≡ false
no m n other = grind (arith, nat_tests)

abbrev mark_by : ℕ → List ℕ → Bool → Bool → Bool → syn.Scan
mark_by c cs true q r = syn.blank_after 0 (c ∷ cs)
mark_by c cs false true r = syn.string_end false 1 cs
mark_by c cs false false true = syn.slot_scan cs
mark_by c cs false false false = syn.operator_in signs (c ∷ cs)

marked_by : (c : ℕ) (cs : List ℕ) → marked (c ∷ cs) ≡ mark_by c cs (c == 95) (c == 34) (c == 35)
marked_by c cs = go (c == 95) (c == 34) (c == 35)
  where
    go : (p q r : Bool) → elim p [
      | true ↦ syn.blank_after 0 (c ∷ cs)
      | false ↦ elim q [ true ↦ syn.string_end false 1 cs | false ↦ elim r [ true ↦ syn.slot_scan cs | false ↦ syn.operator_in signs (c ∷ cs) ] ]
    ] ≡ mark_by c cs p q r
    go true q r = refl
    go false true r = refl
    go false false true = refl
    go false false false = refl

pub marked_sign : (xs : List ℕ) → 0 < length xs → get_or xs 0 0 ≢ 95 → get_or xs 0 0 ≢ 34 → get_or xs 0 0 ≢ 35 → syn.operator_in signs xs ≡ marked xs
marked_sign [] within a b d = absurd (omega (arith, within))
marked_sign (c ∷ cs) within a b d = sym (marked_by c cs
    ∙ ap (λ x. mark_by c cs x (c == 34) (c == 35)) (no c 95 a)
    ∙ ap (λ x. mark_by c cs false x (c == 35)) (no c 34 b)
    ∙ ap (λ x. mark_by c cs false false x) (no c 35 d))

-- The script that `--make n` writes.
--     value                the i-th number of its list
--     script               the script: seven cells with an empty line between them
use Rattle.std.specs.Prelude.{ℕ, zero, suc, ◌+◌, ◌*◌, ◌%◌, List, [], ◌∷◌, ◌++◌, map, codes}
use Rattle.std.specs.Fmt.{decimal}
use Rattle.script_text.specs.Bytes.{joined}

abbrev pub value : ℕ → ℕ → ℕ
value n i = 1 + (7 * i + n) % 20

-- so many of them, from the i-th on
abbrev pub values_from : ℕ → ℕ → ℕ → List ℕ
values_from n i zero = []
values_from n i (suc count) = value n i ∷ values_from n (suc i) count

abbrev pub values : ℕ → List ℕ
values n = values_from n 1 (10 * n)

abbrev pub script_cells : ℕ → List (List ℕ)
script_cells n =
    codes "col[1] = 0;"
    ∷ codes "col[m_] := 1 + col[If[EvenQ[m], Quotient[m, 2], 3 m + 1]]"
    ∷ codes "total = 0;"
    ∷ codes "SetSharedVariable[total]"
    ∷ (codes "r = ParallelMap[col, {" ++ joined (codes ", ") (map decimal (values n)) ++ codes "}];")
    ∷ codes "ParallelDo[CriticalSection[{lock}, total = total + x], {x, r}]"
    ∷ codes "{Length[r], Max[r], total, Apply[Plus, r] === total}"
    ∷ []

abbrev pub script : ℕ → List ℕ
script n = joined (10 ∷ 10 ∷ []) (script_cells n) ++ (10 ∷ [])

-- The greatest nesting of a token is 1024.
use Rattle.std.proofs.Common.{refl, ℕ, zero, suc, List, [], ◌∷◌, ◌++◌}
use Rattle.std.specs.Prelude.{codes}
use Rattle.semantics.specs.declared.builtin.Builtin.{Builtin}
use Rattle.syntax.specs.Operators.{infix_row, level_of, right_of, gives_of, tags_of, leads_at, trails_at}
use Rattle.syntax.specs.Terminals.{sign_start, sign_next, word_start, word_next, on_line}
use Rattle.syntax.specs.Grammar.{nesting_limit}
use Rattle.syntax.specs.Reads.{Reads, IsOffset}
use Rattle.syntax.proofs.Reader.{frame_level, level_at, completed, popped, reduce, push, begins, begins_in, only_at, attached, tag_on_top, joined, separated, closes, made, closed_elements, closed_group, closed, goes_on, next_level, follows_phrase, follows_semicolon, part_opened, follows_opening, follows_half, follows, run, finished}
use Rattle.syntax.proofs.Read.{computed, computed_offset}
use Rattle.worked_texts.proofs.Sample.{names, find, a', b', of}

-- so many bytes in front of a text
abbrev times : ℕ → ℕ → List ℕ → List ℕ
times zero c t = t
times (suc n) c t = c ∷ times n c t

deepest : Reads names find (times 1024 40 (97 ∷ times 1024 41 [])) a'
unfolding frame_level level_at completed popped reduce push begins begins_in only_at attached tag_on_top joined separated closes made closed_elements closed_group closed goes_on next_level follows_phrase follows_semicolon part_opened follows_opening follows_half follows run finished infix_row level_of right_of gives_of tags_of leads_at trails_at sign_start sign_next word_start word_next on_line nesting_limit
deepest = computed names find (times 1024 40 (97 ∷ times 1024 41 [])) a' refl refl

one_deeper_stops : IsOffset names find (times 1025 40 (97 ∷ times 1025 41 [])) 1024
unfolding frame_level level_at completed popped reduce push begins begins_in only_at attached tag_on_top joined separated closes made closed_elements closed_group closed goes_on next_level follows_phrase follows_semicolon part_opened follows_opening follows_half follows run finished infix_row level_of right_of gives_of tags_of leads_at trails_at sign_start sign_next word_start word_next on_line nesting_limit
one_deeper_stops = computed_offset names find (times 1025 40 (97 ∷ times 1025 41 [])) 1024 1024 refl refl

-- `[[` opens two brackets
deepest_part : Reads names find (times 1022 40 (codes "a[[b]]" ++ times 1022 41 [])) (of Builtin.Part (a' ∷ b' ∷ []))
unfolding frame_level level_at completed popped reduce push begins begins_in only_at attached tag_on_top joined separated closes made closed_elements closed_group closed goes_on next_level follows_phrase follows_semicolon part_opened follows_opening follows_half follows run finished infix_row level_of right_of gives_of tags_of leads_at trails_at sign_start sign_next word_start word_next on_line nesting_limit
deepest_part = computed names find (times 1022 40 (codes "a[[b]]" ++ times 1022 41 [])) (of Builtin.Part (a' ∷ b' ∷ [])) refl refl

a_deeper_part_stops : IsOffset names find (times 1023 40 (codes "a[[b]]" ++ times 1023 41 [])) 1026
unfolding frame_level level_at completed popped reduce push begins begins_in only_at attached tag_on_top joined separated closes made closed_elements closed_group closed goes_on next_level follows_phrase follows_semicolon part_opened follows_opening follows_half follows run finished infix_row level_of right_of gives_of tags_of leads_at trails_at sign_start sign_next word_start word_next on_line nesting_limit
a_deeper_part_stops = computed_offset names find (times 1023 40 (codes "a[[b]]" ++ times 1023 41 [])) 1026 1026 refl refl

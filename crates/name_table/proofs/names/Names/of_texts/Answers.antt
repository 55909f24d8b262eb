use Rattle.std.proofs.Common.{◌≡◌, ◌∙◌, sym, ap, ℕ, ◌<◌, ◌++◌, ◌||◌, List, map, length, get_or, string_bytes, arith, rules}
use Rattle.std.specs.List.{list_any}
use Rattle.std.specs.Str.{bytes_eq}
use Rattle.std.proofs.Math.ListN.{length-map}
use Rattle.std.proofs.lemmas.List.Sorted.{ranks_by, answers_always, list_any-IsPermutation}
use Rattle.name_table.specs.Table.{places}
use Rattle.name_table.proofs.Sorted.{name_total, strictly, one_list, ascends-kept, has-kept}
use Rattle.name_table.proofs.Adding.{base_of, has_at, has_both, places_within}
use Rattle.name_table.proofs.names.Names.of_texts.Goals as goal

pub places_of-requires-clause-kept : goal.places_of-requires-clause-kept
places_of-requires-clause-kept c =
    let keys = c.sort_by.new.self.keys in
    let known = c.args.known.now in
    let texts = c.args.texts.now in
    let all : (t : List ℕ) → list_any (bytes_eq t) (map string_bytes keys) ≡ list_any (bytes_eq t) (map base_of (known ++ texts)) = λ t.
    has_at string_bytes keys t
    ∙ sym (list_any-IsPermutation (λ x. bytes_eq t (string_bytes x)) c.add_bases-2.new.set.keys keys c.in_ok-sort_by.ensures.reordered.0)
    ∙ c.in_ok-add_bases-2.ensures.bases t
    ∙ ap (λ b. b || list_any (bytes_eq t) (map base_of texts)) (c.in_ok-add_bases.ensures.bases t ∙ ap (λ ks. list_any (λ x. bytes_eq t (string_bytes x)) ks || list_any (bytes_eq t) (map base_of known)) c.new-set.ensures.empty)
    ∙ sym (has_both t known texts) in
    λ t h. sym (has_at string_bytes keys t) ∙ all t ∙ has_both t known texts ∙ ap (λ b. b || list_any (bytes_eq t) (map base_of texts)) h

pub returns-clause-texts : goal.returns-clause-texts
returns-clause-texts c =
    let keys = c.sort_by.new.self.keys in
    let known = c.args.known.now in
    let texts = c.args.texts.now in
    let all : (t : List ℕ) → list_any (bytes_eq t) (map string_bytes keys) ≡ list_any (bytes_eq t) (map base_of (known ++ texts)) = λ t.
    has_at string_bytes keys t
    ∙ sym (list_any-IsPermutation (λ x. bytes_eq t (string_bytes x)) c.add_bases-2.new.set.keys keys c.in_ok-sort_by.ensures.reordered.0)
    ∙ c.in_ok-add_bases-2.ensures.bases t
    ∙ ap (λ b. b || list_any (bytes_eq t) (map base_of texts)) (c.in_ok-add_bases.ensures.bases t ∙ ap (λ ks. list_any (λ x. bytes_eq t (string_bytes x)) ks || list_any (bytes_eq t) (map base_of known)) c.new-set.ensures.empty)
    ∙ sym (has_both t known texts) in
    let up = strictly string_bytes keys (c.in_ok-sort_by.ensures.sorted _ (ranks_by name_total string_bytes) (answers_always _ _ _ (λ f a r g h. search rules))) c.in_ok-sort_by.ensures.unique in
    one_list (map string_bytes keys) _ up (ascends-kept (map base_of (known ++ texts))) (λ t. all t ∙ sym (has-kept t (map base_of (known ++ texts))))

pub invariant_of-result : goal.invariant_of-result
invariant_of-result c =
    let keys = c.sort_by.new.self.keys in
    let known = c.args.known.now in
    let texts = c.args.texts.now in
    let all : (t : List ℕ) → list_any (bytes_eq t) (map string_bytes keys) ≡ list_any (bytes_eq t) (map base_of (known ++ texts)) = λ t.
    has_at string_bytes keys t
    ∙ sym (list_any-IsPermutation (λ x. bytes_eq t (string_bytes x)) c.add_bases-2.new.set.keys keys c.in_ok-sort_by.ensures.reordered.0)
    ∙ c.in_ok-add_bases-2.ensures.bases t
    ∙ ap (λ b. b || list_any (bytes_eq t) (map base_of texts)) (c.in_ok-add_bases.ensures.bases t ∙ ap (λ ks. list_any (λ x. bytes_eq t (string_bytes x)) ks || list_any (bytes_eq t) (map base_of known)) c.new-set.ensures.empty)
    ∙ sym (has_both t known texts) in
    let up = strictly string_bytes keys (c.in_ok-sort_by.ensures.sorted _ (ranks_by name_total string_bytes) (answers_always _ _ _ (λ f a r g h. search rules))) c.in_ok-sort_by.ensures.unique in
    let within : (row : ℕ) → row < length (places (map string_bytes keys) known) → get_or (places (map string_bytes keys) known) row 0 < length (map string_bytes keys) =
    places_within (map string_bytes keys) known (λ t h. all t ∙ has_both t known texts ∙ ap (λ b. b || list_any (bytes_eq t) (map base_of texts)) h) in
    record {
      few = omega (arith, length-map keys string_bytes, c.in_ok-sort_by.ensures.reordered.1, c.in_ok-add_bases-2.ensures.few, c.in_ok-add_bases.ensures.few, ap length c.new-set.ensures.empty, c.requires);
      ascends = up;
      known_kept = rw c.in_ok-known.ensures within;
    }

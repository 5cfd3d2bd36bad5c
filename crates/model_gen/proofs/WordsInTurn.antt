-- Words that are taken of one stream, one after another.
use Rattle.std.proofs.Common.{◌≡◌, ◌∙◌, ℕ, ◌+◌, ◌*◌, ◌<◌, length, replicate, ap, arith}
use Rattle.std.specs.Prelude.{slice_index_or, slice_set}
use Rattle.std.proofs.lemmas.List.{get_or-set_same, set-set}
use Rattle.random_streams.specs.Draws.{WordsTaken, after_words}
use Rattle.model_gen.specs.Generated.{picked_below, vertex_by, generated_vertex}

-- words and then more words are so many together
pub taken-together : (s : WordsTaken) (a b : ℕ) → 54 < length s.taken → after_words (after_words s 54 a) 54 b ≡ after_words s 54 (a + b)
taken-together s a b there =
    let n = slice_index_or s.taken 54 0 in
    let sum : n + a + b ≡ n + (a + b) = omega arith in
    ap (λ k. record s { taken = slice_set (slice_set s.taken 54 (n + a)) 54 (k + b) }) (get_or-set_same s.taken 54 (n + a) 0 there)
    ∙ ap (λ ys. record s { taken = ys }) (set-set s.taken 54 (n + a) (n + a + b)) ∙ ap (λ k. record s { taken = slice_set s.taken 54 k }) sum

-- the streams of a seed of which so many words of stream 54 were taken, and of the others none
abbrev pub moved_on : ℕ → ℕ → WordsTaken
moved_on seed n = record { seed = seed; taken = slice_set (replicate 64 0) 54 n }

-- a vertex takes three words
pub moved_on-vertex : (seed place : ℕ) → after_words (moved_on seed (3 * place)) 54 3 ≡ moved_on seed (3 * (place + 1))
moved_on-vertex seed place = let three : 3 * place + 3 ≡ 3 * (place + 1) = omega arith in ap (moved_on seed) three

-- which make it
pub by_next_words : (seed vertices place : ℕ) (s : WordsTaken) (x form z : ℕ) → s ≡ moved_on seed (3 * place)
    → x ≡ picked_below s.seed (slice_index_or s.taken 54 0) 8 → form ≡ picked_below s.seed (slice_index_or s.taken 54 0 + 1) 4 → z ≡ picked_below s.seed (slice_index_or s.taken 54 0 + 2) vertices
    → vertex_by vertices place x form z ≡ generated_vertex seed vertices place
by_next_words seed vertices place s x form z stream_now counter edges target =
    (λ i. vertex_by vertices place (counter i) (edges i) (target i))
    ∙ ap (λ t. vertex_by vertices place (picked_below t.seed (slice_index_or t.taken 54 0) 8) (picked_below t.seed (slice_index_or t.taken 54 0 + 1) 4) (picked_below t.seed (slice_index_or t.taken 54 0 + 2) vertices)) stream_now

-- The words so far, and those of the rest, are the words of the bytes.
use Rattle.std.proofs.Common.{◌≡◌, ◌++◌, map, length, string_bytes, vec_items}
use Rattle.sigma_page.specs.PageWords.{ended_words}
use Rattle.sigma_page.proofs.word_list.words_of.Given as goal

abbrev pub invariant-loop-rest : goal.invariant-loop-rest
invariant-loop-rest l = map string_bytes (vec_items l.words) ++ ended_words l.rest ≡ ended_words l.bytes

abbrev pub decreases-loop-rest : goal.decreases-loop-rest
decreases-loop-rest l = length l.rest

-- Lemmas on the bytes that a sink has taken.
use Rattle.std.proofs.Common.{ℕ, ◌+◌, List, [], ◌++◌, take, drop, Option, Some, None, sym, ap, subst, ◌∙◌, append_assoc, append-nil}
use Rattle.std.proofs.Math.Seq.{take-add}
use Rattle.sig_base.specs.Sink.{GrowsBy}

-- it grew by nothing
pub GrowsBy-nothing : (old : Option (List ℕ)) → GrowsBy old old []
GrowsBy-nothing None = tt
GrowsBy-nothing (Some bytes) = ap Some (sym (append-nil bytes))

-- it grew by one piece, and then by another
pub GrowsBy-append : (a b c : Option (List ℕ)) (first second : List ℕ) → GrowsBy a b first → GrowsBy b c second → GrowsBy a c (first ++ second)
GrowsBy-append None b c first second p q = tt
GrowsBy-append (Some x) b c first second p q = subst (λ o. GrowsBy o c second) p q ∙ ap Some (append_assoc x first second)

-- it grew by the front of the bytes, and then by the front of the rest
pub GrowsBy-more : (a b c : Option (List ℕ)) (bytes : List ℕ) (i n : ℕ) → GrowsBy a b (take i bytes) → GrowsBy b c (take n (drop i bytes)) → GrowsBy a c (take (i + n) bytes)
GrowsBy-more a b c bytes i n p q = subst (GrowsBy a c) (sym (take-add i n bytes)) (GrowsBy-append a b c (take i bytes) (take n (drop i bytes)) p q)

-- Binary lengths of some numbers.
use Rattle.std.proofs.Common.{◌≡◌, refl}
use Rattle.event_heap.specs.BinaryLength.{digits}

of_none : digits 0 ≡ 0
unfolding digits
of_none = refl

of_one : digits 1 ≡ 1
unfolding digits
of_one = refl

of_three : digits 3 ≡ 2
unfolding digits
of_three = refl

of_four : digits 4 ≡ 3
unfolding digits
of_four = refl

of_thousand : digits 1000 ≡ 10
unfolding digits
of_thousand = refl

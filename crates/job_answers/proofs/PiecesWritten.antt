-- Bytes that are written piece by piece.
use Rattle.std.proofs.Common.{◌≡◌, ℕ, ◌+◌, ◌<◌, false, List, [], ◌∷◌, ◌++◌, append_assoc, length, take, Result, Ok, Err, refl, sym, ap, ◌∙◌, subst, arith}
use Rattle.std.specs.Result.{IsErrAnd}
use Rattle.std.proofs.lemmas.List.{length-append, take-append-le}
use Rattle.std.proofs.lemmas.Result.{err_from_is_err_and}
use Rattle.std.proofs.Math.Seq.{take-append-add}
use Rattle.sig_base.specs.Sink.{Outlet, GrowsBy}
use Rattle.sig_base.proofs.SinkLemmas.{GrowsBy-nothing, GrowsBy-append}
use Rattle.answer_delivery.specs.declared.status.Failure.TheVariants as failures
use Rattle.job_answers.specs.Inner.WritingSteps.{WritesPieces}
use Rattle.job_answers.specs.Inner.ReportSteps.{IsWrittenUpTo}
use Rattle.job_answers.proofs.AnswerTerms.{Given, End, Failure, Delivers, GrowsByFront, Written}

-- what writing bytes comes to
abbrev Wrote : Type 0
Wrote = Result Unit Failure

-- ---- fronts

-- a front of the first bytes is one of all of them
front_of_first : (o p : Outlet) (first second : List ℕ) → GrowsByFront o p first → GrowsByFront o p (first ++ second)
front_of_first o p first second (n, fits, grows) =
    (n, omega (arith, fits, length-append first second), subst (GrowsBy o.written p.written) (sym (take-append-le n first second fits)) grows)

-- and so are the first bytes with a front of the others
front_after : (o m p : Outlet) (first second : List ℕ) → GrowsBy o.written m.written first → GrowsByFront m p second → GrowsByFront o p (first ++ second)
front_after o m p first second grown (n, fits, grows) = (
  length first + n,
  omega (arith, fits, length-append first second),
  subst (GrowsBy o.written p.written) (sym (take-append-add first second n)) (GrowsBy-append o.written m.written p.written first (take n second) grown grows),
)

-- ---- pieces

-- nothing was written
pub none_yet : (o : Outlet) → WritesPieces [] (Ok tt) o o
none_yet o = (GrowsBy-nothing o.written, λ some. absurd (omega (arith, some)), refl, λ none. refl)

-- memory was refused before there was a byte
pub none_in_memory : (bytes : List ℕ) (o : Outlet) → WritesPieces bytes (Err failures.NoMemory) o o
none_in_memory bytes o = ((0, omega arith, GrowsBy-nothing o.written), refl)

-- a piece that was written at once
pub whole_piece : (bytes : List ℕ) (r : Wrote) (o p : Outlet) → Written bytes r o p → WritesPieces bytes r o p
whole_piece bytes (Ok done) o p h = h
whole_piece bytes (Err failures.WriteFault) o p h = h
whole_piece bytes (Err failures.NoMemory) o p h = absurd h
whole_piece bytes (Err failures.Usage) o p h = absurd h
whole_piece bytes (Err failures.ReadFault) o p h = absurd h

-- one piece, and then others
pub pieces_append : (first second : List ℕ) (r : Wrote) (o m p : Outlet) → WritesPieces first (Ok tt) o m → WritesPieces second r m p → WritesPieces (first ++ second) r o p
pieces_append first second (Ok done) o m p h k = (
  GrowsBy-append o.written m.written p.written first second h.0 k.0,
  unsettled second refl,
  k.2 ∙ h.2,
  none first second h.3 k.3,
)
  where
    unsettled : (later : List ℕ) → second ≡ later → 0 < length (first ++ second) → p.settled ≡ false
    unsettled [] is some = k.3 is ∙ h.1 (omega (arith, some, length-append first second, ap length is))
    unsettled (b ∷ later) is some = k.1 (omega (arith, ap length is))

    none : (first second : List ℕ) → (first ≡ [] → m.settled ≡ o.settled) → (second ≡ [] → p.settled ≡ m.settled) → first ++ second ≡ [] → p.settled ≡ o.settled
    none [] second same later is = later is ∙ same refl
    none (b ∷ first) second same later is = absurd cc
pieces_append first second (Err failures.WriteFault) o m p h k = (front_after o m p first second h.0 k.0, k.1, rw (sym h.2) k.2)
pieces_append first second (Err failures.NoMemory) o m p h k = (front_after o m p first second h.0 k.0, k.1 ∙ h.2)
pieces_append first second (Err failures.Usage) o m p h k = absurd k
pieces_append first second (Err failures.ReadFault) o m p h k = absurd k

-- what breaks off in the first piece breaks off
pub first_piece_fails : (first second : List ℕ) (f : Failure) (o p : Outlet) → WritesPieces first (Err f) o p → WritesPieces (first ++ second) (Err f) o p
first_piece_fails first second failures.WriteFault o p h = (front_of_first o p first second h.0, h.1, h.2)
first_piece_fails first second failures.NoMemory o p h = (front_of_first o p first second h.0, h.1)
first_piece_fails first second failures.Usage o p h = absurd h
first_piece_fails first second failures.ReadFault o p h = absurd h

-- ---- written up to what is left

-- the next piece is written
pub further : (piece left bytes : List ℕ) (o m p : Outlet) → IsWrittenUpTo (piece ++ left) bytes o m → WritesPieces piece (Ok tt) m p → IsWrittenUpTo left bytes o p
further piece left bytes o m p h k = record {
  front = h.front ++ piece;
  parts = append_assoc h.front piece left ∙ h.parts;
  written = pieces_append h.front piece (Ok tt) o m p h.written k;
}

-- or it breaks off
pub next_piece_fails : (piece left bytes : List ℕ) (f : Failure) (o m p : Outlet) → IsWrittenUpTo (piece ++ left) bytes o m → WritesPieces piece (Err f) m p → WritesPieces bytes (Err f) o p
next_piece_fails piece left bytes f o m p h k =
    subst (λ (b : List ℕ). WritesPieces b (Err f) o p) (append_assoc h.front piece left ∙ h.parts) (first_piece_fails (h.front ++ piece) left f o p (pieces_append h.front piece (Err f) o m p h.written k))

-- the last piece
pub at_last : (piece bytes : List ℕ) (r : Wrote) (o m p : Outlet) → IsWrittenUpTo piece bytes o m → WritesPieces piece r m p → WritesPieces bytes r o p
at_last piece bytes r o m p h k = subst (λ (b : List ℕ). WritesPieces b r o p) h.parts (pieces_append h.front piece r o m p h.written k)

-- all of them are left
pub no_piece_written : (bytes : List ℕ) (o : Outlet) → IsWrittenUpTo bytes bytes o o
no_piece_written bytes o = record { front = []; parts = refl; written = none_yet o }

-- memory was refused before the next byte
pub stopped : (left bytes : List ℕ) (o m : Outlet) → IsWrittenUpTo left bytes o m → WritesPieces bytes (Err failures.NoMemory) o m
stopped left bytes o m h = at_last left bytes (Err failures.NoMemory) o m m h (none_in_memory left m)

-- ---- what is passed on

-- what a piece broke off with
pub passed_failure : {A : Type 0} (bytes : List ℕ) (r : Wrote) (passed : Result A Failure) (e : Failure) (o p : Outlet) → r ≡ Err e → IsErrAnd passed (λ f. f ≡ e) → WritesPieces bytes r o p
    → (f : Failure) × (passed ≡ Err f) × WritesPieces bytes (Err f) o p
passed_failure bytes r passed e o p is passes h =
    let (f, is_error, same) = err_from_is_err_and passed passes in
    (f, is_error, subst (λ (x : Wrote). WritesPieces bytes x o p) (is ∙ ap (λ (x : Failure). Err x) (sym same)) h)

-- out of memory
pub passed_memory : (bytes : List ℕ) (passed : Wrote) (o p : Outlet) → IsErrAnd passed (λ f. f ≡ failures.NoMemory) → WritesPieces bytes (Err failures.NoMemory) o p → WritesPieces bytes passed o p
passed_memory bytes passed o p passes h =
    let (f, is_error, same) = err_from_is_err_and passed passes in
    subst (λ (x : Wrote). WritesPieces bytes x o p) (sym (is_error ∙ ap (λ (x : Failure). Err x) same)) h

-- ---- the answer

-- a piece broke off
pub broken_answer : {K : Type 0} (seen : K → Outlet) (o p : K) (end : End) (bytes : List ℕ) (f : Failure) → WritesPieces bytes (Err f) (seen o) (seen p)
    → Delivers seen (Given end bytes) (Err f) o p
broken_answer seen o p end bytes failures.WriteFault h = record { grown = h.0; unsettled = λ some. h.1; failed = h.2 }
broken_answer seen o p end bytes failures.NoMemory h = record { grown = h.0; steady = h.1 }
broken_answer seen o p end bytes failures.Usage h = absurd h
broken_answer seen o p end bytes failures.ReadFault h = absurd h

-- From the text that was taken, and the answer to it, to how the job ended.
use Rattle.std.proofs.Common.{◌≡◌, ◌≢◌, ◌⊎◌, inl, inr, ℕ, zero, suc, ◌+◌, ◌<◌, List, [], ◌∷◌, length, Option, Some, None, Result, Ok, Err, refl, sym, ap, subst, arith}
use Rattle.std.specs.Prelude.{IfOk, IfSome, MatchResult}
use Rattle.sig_base.specs.declared.no_memory.NoMemory.{NoMemory}
use Rattle.sig_base.specs.Sink.{Outlet}
use Rattle.sig_base.specs.Source.{Inlet}
use Rattle.command_words.specs.declared.reading.Reading.{Reading}
use Rattle.command_words.specs.declared.reading.Reading.TheVariants as readings
use Rattle.command_words.specs.Readings.{limit_of}
use Rattle.answer_delivery.specs.declared.answer.Answer.{Answer}
use Rattle.answer_delivery.specs.declared.answer.Answer.TheVariants.{Given, Refused}
use Rattle.answer_delivery.specs.declared.delivering.DeliveryOutcome.{DeliveryOutcome}
use Rattle.answer_delivery.specs.declared.delivering.DeliveryOutcome.TheVariants as said
use Rattle.answer_delivery.specs.declared.status.End.{End}
use Rattle.answer_delivery.specs.declared.status.Refusal.{Refusal}
use Rattle.answer_delivery.specs.declared.status.Failure.{Failure}
use Rattle.answer_delivery.specs.declared.status.Failure.TheVariants as failures
use Rattle.answer_delivery.specs.AnswerForms.{refused, too_long}
use Rattle.job_answers.specs.AnswerLaws.{KeepsAnswerLaws}
use Rattle.job_answers.specs.Answers.{Responds, MayStopShort, HasNothingToWrite, IsOver}
use Rattle.answer_delivery.specs.Delivery.{Delivers, DeliversSome}
use Rattle.sigma_top.specs.declared.text_taking.TakenText.{TakenText}
use Rattle.sigma_top.specs.declared.text_taking.TakenText.TheVariants as taken
use Rattle.sigma_top.specs.StatusTable.{text_of, IsReadThrough, RepliesToInput, WritesAnswerFront}
use Rattle.sigma_top.specs.Inner.CallSteps.{TakesText, AnswersInput}
use Rattle.sigma_top.proofs.InputRead.{read_through, read_in_part}

-- ---- an answer that is given has bytes, unless its job may have none

given_has_bytes : (reading : Reading) → KeepsAnswerLaws reading → (text : List ℕ) (end : End) (bytes : List ℕ) → Responds reading text (Given end bytes) → HasNothingToWrite reading bytes ⊎ (0 < length bytes)
given_has_bytes (readings.Model job) laws text end bytes (inl h) = let e = h.refuses in absurd cc
given_has_bytes (readings.Model job) laws text end bytes (inr h) = laws.has_bytes h.0 end bytes h.2
given_has_bytes (readings.Document job) laws text end bytes (inl h) = let e = h.refuses in absurd cc
given_has_bytes (readings.Document job) laws text end bytes (inr h) = laws.has_bytes (h.0, h.1, h.2) end bytes h.4
given_has_bytes (readings.Pair job) laws text end bytes (inl h) = let e = h.refuses in absurd cc
given_has_bytes (readings.Pair job) laws text end bytes (inr h) = laws.has_bytes (h.0, h.1) end bytes h.3
given_has_bytes (readings.Saved job) laws text end bytes (inl h) = let e = h.refuses in absurd cc
given_has_bytes (readings.Saved job) laws text end bytes (inr h) = laws.has_bytes (h.0, h.1) end bytes h.3
given_has_bytes (readings.Nothing job) laws text end bytes h = laws.has_bytes tt end bytes h

-- ---- the answer to the text is that to the input

zeros : ℕ → List ℕ
zeros zero = []
zeros (suc n) = 0 ∷ zeros n

zeros-length : (n : ℕ) → length (zeros n) ≡ n
unfolding zeros
zeros-length zero = refl
zeros-length (suc n) = let more = zeros-length n in omega (arith, more)

-- an input that is over the limit has such a text: the one that it gives, or any
long_text : (limit : Option ℕ) (left : Option (List ℕ)) → IfSome (text_of limit left) (IsOver limit) → (text : List ℕ) × IfSome (text_of limit left) (λ bytes. text ≡ bytes) × IsOver limit text
long_text None left over = absurd over
long_text (Some limit) None over = (zeros (limit + 1), tt, omega (arith, zeros-length (limit + 1)))
long_text (Some limit) (Some bytes) over = (bytes, refl, over)

refused_long : (reading : Reading) (i : Inlet) → IfSome (text_of (limit_of reading) i.left) (IsOver (limit_of reading)) → RepliesToInput reading i (refused too_long)
refused_long reading i over = let long = long_text (limit_of reading) i.left over in record { text = long.0; of_input = long.1; answers = inl (long.2, refl) }

-- what was taken up to a limit that is the job's
pub taken_within_limit : {S : Type 0} (source : S → Inlet) (reading : Reading) (i j : S) (limit : Option ℕ) (r s : Result TakenText Failure) → limit ≡ limit_of reading → r ≡ s → TakesText source limit r i j → TakesText source (limit_of reading) s i j
taken_within_limit source reading i j limit r s same is h = subst (λ (l : Option ℕ). TakesText source l s i j) same (subst (λ (x : Result TakenText Failure). TakesText source limit x i j) is h)

module _ {S K : Type 0} (source : S → Inlet) (sink : K → Outlet) (reading : Reading) (i j : S) (o : K) where
  -- no text was taken
  pub input_not_taken : (f : Failure) → TakesText source (limit_of reading) (Err f) i j → AnswersInput source sink reading (Err f) i j o o
  input_not_taken failures.Usage h = absurd h
  input_not_taken failures.ReadFault h = record { reads_text = h.0; input_read = h.1; input_failed = h.2; output_untouched = refl }
  input_not_taken failures.WriteFault h = absurd h
  input_not_taken failures.NoMemory h = record { input_read = h.0; input_steady = h.1; output_grown = inl refl; output_steady = refl }

  module _ (p : K) where
    -- ---- the text is over the limit

    module _ (h : TakesText source (limit_of reading) (Ok taken.TooLong) i j) where
      long_refused : (r : Result DeliveryOutcome Failure) → Delivers sink (refused too_long) r o p → AnswersInput source sink reading r i j o p
      long_refused (Ok (said.Gave end)) k = absurd k
      long_refused (Ok (said.Refused why line)) k = record {
        answer = subst (λ (w : Refusal). RepliesToInput reading (source i) (Refused w line)) (sym k.0) (subst (λ (l : List ℕ). RepliesToInput reading (source i) (refused l)) (sym k.1) (refused_long reading (source i) h.0));
        input_read = h.1;
        input_steady = h.2;
        output_untouched = k.2;
      }
      long_refused (Err f) k = absurd k

      short_of_memory : p ≡ o → AnswersInput source sink reading (Err failures.NoMemory) i j o p
      short_of_memory same = record { input_read = read_in_part source i j (limit_of reading) h.1; input_steady = h.2; output_grown = inl same; output_steady = ap (λ (k : K). (sink k).faults) same }

      pub long_input_refused : (made : Result Answer NoMemory) (r : Result DeliveryOutcome Failure) → IfOk made (λ a. a ≡ refused too_long)
          → MatchResult made (λ a. Delivers sink a r o p × (r ≢ Err failures.NoMemory)) (λ e. (r ≡ Err failures.NoMemory) × (p ≡ o)) → AnswersInput source sink reading r i j o p
      long_input_refused (Ok a) r is k = long_refused r (subst (λ (b : Answer). Delivers sink b r o p) is k.0)
      long_input_refused (Err e) r is k = subst (λ (x : Result DeliveryOutcome Failure). AnswersInput source sink reading x i j o p) (sym k.0) (short_of_memory k.1)

    -- ---- the text was answered

    module _ (laws : KeepsAnswerLaws reading) (text : List ℕ) (h : TakesText source (limit_of reading) (Ok (taken.Whole text)) i j) where
      replies : (a : Answer) → Responds reading text a → RepliesToInput reading (source i) a
      replies a x = record { text = text; of_input = h.0; answers = inr (h.1, x) }

      through : IsReadThrough source (limit_of reading) i j
      through = read_through source i j (limit_of reading) text h.0 h.1 h.2

      in_memory : (a : Answer) (r : Result DeliveryOutcome Failure) → Responds reading text a → Delivers sink a r o p → (r ≡ Err failures.NoMemory → (p ≡ o) ⊎ MayStopShort reading text) → AnswersInput source sink reading r i j o p
      in_memory (Given end bytes) (Ok (said.Gave other)) x k short = record {
        bytes = bytes;
        answer = subst (λ (e : End). RepliesToInput reading (source i) (Given e bytes)) (sym k.0) (replies (Given end bytes) x);
        input_read = h.2;
        input_steady = h.3;
        output_grown = k.1.grown;
        output_settled = k.1.settled;
        output_steady = k.1.steady;
      }
      in_memory (Given end bytes) (Ok (said.Refused why line)) x k short = absurd k
      in_memory (Given end bytes) (Err failures.WriteFault) x k short = record {
        front = record { end = end; bytes = bytes; answer = replies (Given end bytes) x; output_grown = k.grown };
        input_read = h.2;
        input_steady = h.3;
        output_unsettled = elim (given_has_bytes reading laws text end bytes x) [ inl none ↦ inl none | inr some ↦ inr (k.unsettled some) ];
        output_failed = k.failed;
      }
      in_memory (Given end bytes) (Err failures.NoMemory) x k short = record {
        input_read = read_in_part source i j (limit_of reading) through;
        input_steady = h.3;
        output_grown = begun (short refl);
        output_steady = k.steady;
      }
        where
          begun : (p ≡ o) ⊎ MayStopShort reading text → (p ≡ o) ⊎ ((front : WritesAnswerFront source sink reading i o p) × MayStopShort reading front.answer.text)
          begun (inl same) = inl same
          begun (inr may) = inr (record { end = end; bytes = bytes; answer = record { text = text; of_input = h.0; answers = inr (h.1, x) }; output_grown = k.grown }, may)
      in_memory (Given end bytes) (Err failures.Usage) x k short = absurd k
      in_memory (Given end bytes) (Err failures.ReadFault) x k short = absurd k
      in_memory (Refused why line) (Ok (said.Gave end)) x k short = absurd k
      in_memory (Refused why line) (Ok (said.Refused other shown)) x k short = record {
        answer = subst (λ (w : Refusal). RepliesToInput reading (source i) (Refused w shown)) (sym k.0) (subst (λ (l : List ℕ). RepliesToInput reading (source i) (Refused why l)) (sym k.1) (replies (Refused why line) x));
        input_read = through;
        input_steady = h.3;
        output_untouched = k.2;
      }
      in_memory (Refused why line) (Err f) x k short = absurd k

      without_answer : p ≡ o → AnswersInput source sink reading (Err failures.NoMemory) i j o p
      without_answer same = record { input_read = read_in_part source i j (limit_of reading) through; input_steady = h.3; output_grown = inl same; output_steady = ap (λ (k : K). (sink k).faults) same }

      pub input_answered : (r : Result DeliveryOutcome Failure) → DeliversSome sink (Responds reading text) (MayStopShort reading text) r o p → AnswersInput source sink reading r i j o p
      input_answered r (inl one) = in_memory one.answer r one.holds one.delivers one.short
      input_answered r (inr none) = subst (λ (x : Result DeliveryOutcome Failure). AnswersInput source sink reading x i j o p) (sym none.0) (without_answer none.1)

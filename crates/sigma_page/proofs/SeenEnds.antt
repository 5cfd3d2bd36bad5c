-- The table of statuses over devices holds over what is seen of them.
use Rattle.std.proofs.Common.{◌≡◌, ◌⊎◌, inl, inr, ℕ, List, Option, Some, None, ap}
use Rattle.sig_base.specs.Sink.{Outlet}
use Rattle.sig_base.specs.Source.{Inlet}
use Rattle.command_words.specs.declared.reading.Reading.{Reading}
use Rattle.command_words.specs.Readings.{reading_of, limit_of}
use Rattle.answer_delivery.specs.declared.status.Status.{Status}
use Rattle.answer_delivery.specs.declared.status.Status.TheVariants as statuses
use Rattle.answer_delivery.specs.declared.status.End.{End}
use Rattle.answer_delivery.specs.declared.status.End.TheVariants as ends
use Rattle.answer_delivery.specs.declared.status.Refusal.{Refusal}
use Rattle.answer_delivery.specs.declared.status.Refusal.TheVariants as refusals
use Rattle.sigma_top.specs.StatusTable.{IsReadToEnd, IsReadThrough, IsReadInPart, WritesAnswer, Refuses, FailsToRead, FailsToWrite, WritesAnswerFront, LacksMemory, ForJob, EndsWithAnswer, EndsWithRefusal, Ends}

abbrev inlet : Inlet → Inlet
inlet x = x

abbrev outlet : Outlet → Outlet
outlet x = x

module _ {S K : Type 0} (source : S → Inlet) (sink : K → Outlet) where
  read_to_end : (limit : Option ℕ) (i j : S) → IsReadToEnd source limit i j → IsReadToEnd inlet limit (source i) (source j)
  read_to_end None i j h = ap source h
  read_to_end (Some limit) i j h = h

  read_through : (limit : Option ℕ) (i j : S) → IsReadThrough source limit i j → IsReadThrough inlet limit (source i) (source j)
  read_through None i j h = ap source h
  read_through (Some limit) i j h = h

  read_in_part : (limit : Option ℕ) (i j : S) → IsReadInPart source limit i j → IsReadInPart inlet limit (source i) (source j)
  read_in_part None i j h = ap source h
  read_in_part (Some limit) i j h = h

  module _ (reading : Reading) (i j : S) (o p : K) where
    answer_written : (end : End) → WritesAnswer source sink reading end i j o p → WritesAnswer inlet outlet reading end (source i) (source j) (sink o) (sink p)
    answer_written end h = record {
      bytes = h.bytes;
      answer = h.answer;
      input_read = read_to_end (limit_of reading) i j h.input_read;
      input_steady = h.input_steady;
      output_grown = h.output_grown;
      output_settled = h.output_settled;
      output_steady = h.output_steady;
    }

    text_refused : (why : Refusal) (line : List ℕ) → Refuses source sink reading why line i j o p → Refuses inlet outlet reading why line (source i) (source j) (sink o) (sink p)
    text_refused why line h = record { answer = h.answer; input_read = read_through (limit_of reading) i j h.input_read; input_steady = h.input_steady; output_untouched = ap sink h.output_untouched }

    read_failed : FailsToRead source sink reading i j o p → FailsToRead inlet outlet reading (source i) (source j) (sink o) (sink p)
    read_failed h = record { reads_text = h.reads_text; input_read = read_in_part (limit_of reading) i j h.input_read; input_failed = h.input_failed; output_untouched = ap sink h.output_untouched }

    abbrev front_written : WritesAnswerFront source sink reading i o p → WritesAnswerFront inlet outlet reading (source i) (sink o) (sink p)
    front_written h = record { end = h.end; bytes = h.bytes; answer = h.answer; output_grown = h.output_grown }

    write_failed : FailsToWrite source sink reading i j o p → FailsToWrite inlet outlet reading (source i) (source j) (sink o) (sink p)
    write_failed h = record {
      front = front_written h.front;
      input_read = read_to_end (limit_of reading) i j h.input_read;
      input_steady = h.input_steady;
      output_unsettled = h.output_unsettled;
      output_failed = h.output_failed;
    }

    memory_lacked : LacksMemory source sink reading i j o p → LacksMemory inlet outlet reading (source i) (source j) (sink o) (sink p)
    memory_lacked h = record {
      input_read = read_in_part (limit_of reading) i j h.input_read;
      input_steady = h.input_steady;
      output_grown = elim h.output_grown [ inl same ↦ inl (ap sink same) | inr begun ↦ inr (front_written begun.0, begun.1) ];
      output_steady = h.output_steady;
    }

module _ {S K E : Type 0} (source : S → Inlet) (sink : K → Outlet) (errors : E → Outlet) (words : List (List ℕ)) (i j : S) (o p : K) (e f : E) where
  given_as_seen : (end : End) → EndsWithAnswer source sink errors words i j o p e f end → EndsWithAnswer inlet outlet outlet words (source i) (source j) (sink o) (sink p) (errors e) (errors f) end
  given_as_seen end h = ((h.0.0, h.0.1, answer_written source sink (reading_of h.0.0) i j o p end h.0.2), ap errors h.1)

  refusal_as_seen : (why : Refusal) → EndsWithRefusal source sink errors words i j o p e f why → EndsWithRefusal inlet outlet outlet words (source i) (source j) (sink o) (sink p) (errors e) (errors f) why
  refusal_as_seen why h = (h.0, (h.1.0, h.1.1, text_refused source sink (reading_of h.1.0) i j o p why h.0 h.1.2), h.2)

  lack_as_seen : ((j ≡ i) × (p ≡ o)) ⊎ ForJob words (λ reading. LacksMemory source sink reading i j o p) → ((source j ≡ source i) × (sink p ≡ sink o)) ⊎ ForJob words (λ reading. LacksMemory inlet outlet reading (source i) (source j) (sink o) (sink p))
  lack_as_seen (inl same) = inl (ap source same.0, ap sink same.1)
  lack_as_seen (inr h) = inr (h.0, h.1, memory_lacked source sink (reading_of h.0) i j o p h.2)

  pub ends_as_seen : (status : Status) → Ends source sink errors words i j o p e f status → Ends inlet outlet outlet words (source i) (source j) (sink o) (sink p) (errors e) (errors f) status
  ends_as_seen statuses.Done h = given_as_seen ends.Done h
  ends_as_seen statuses.Refused h = refusal_as_seen refusals.Refused h
  ends_as_seen statuses.Usage h = (h.0, ap source h.1, ap sink h.2, h.3)
  ends_as_seen statuses.ReadFault h = ((h.0.0, h.0.1, read_failed source sink (reading_of h.0.0) i j o p h.0.2), h.1)
  ends_as_seen statuses.WriteFault h = ((h.0.0, h.0.1, write_failed source sink (reading_of h.0.0) i j o p h.0.2), h.1)
  ends_as_seen statuses.NoMemory h = (lack_as_seen h.0, h.1)
  ends_as_seen statuses.ModelFault h = given_as_seen ends.ModelFault h
  ends_as_seen statuses.Budget h = given_as_seen ends.Budget h
  ends_as_seen statuses.Rejected h = given_as_seen ends.Rejected h
  ends_as_seen statuses.Differs h = given_as_seen ends.Differs h
  ends_as_seen statuses.Unknown h = given_as_seen ends.Unknown h
  ends_as_seen statuses.BadStart h = refusal_as_seen refusals.BadStart h
  ends_as_seen statuses.Finished h = refusal_as_seen refusals.Finished h
  ends_as_seen statuses.TooLarge h = refusal_as_seen refusals.TooLarge h

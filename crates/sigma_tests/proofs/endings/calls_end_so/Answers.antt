use Rattle.std.proofs.Common.{◌≡◌, inl, inr, ℕ, ◌+◌, ◌≤◌, pos, List, [], ◌∷◌, ◌++◌, length, drop, lit≤, refl, sym, ap, arith}
use Rattle.std.specs.Prelude.{Option, Some, codes}
use Rattle.std.specs.List.{flat_map}
use Rattle.std.specs.Fmt.{digits}
use Rattle.std.proofs.lemmas.List.{length-append, drop_all}
use Rattle.sig_base.specs.declared.limits.TheConstants.{TEXT_MAX}
use Rattle.model_core.specs.Run.History.{look}
use Rattle.model_core.specs.EventGraph.{EventGraph}
use Rattle.model_core.specs.Text.VersionNeeded.{needs_version_two}
use Rattle.model_core.specs.Text.Canonical.{variable_line, table_line, watch_line, vertex_lines, version_line, canonical}
use Rattle.command_words.specs.declared.job.Job.TheVariants as jobs
use Rattle.command_words.specs.declared.run_options.TheConstants.{ROOM_USUAL}
use Rattle.answer_delivery.specs.declared.complaint.Complaint.TheVariants as complaints
use Rattle.answer_delivery.specs.declared.status.End.TheVariants as ends
use Rattle.job_answers.specs.RunAnswer.{refused_or, answer_of_look}
use Rattle.job_answers.specs.CertifyAnswer.{answer_of_verdict}
use Rattle.sigma_tests.proofs.endings.calls_end_so.Goals as goal

-- a text within a limit has nothing one byte past it
nothing_past : (limit : ℕ) (text : List ℕ) → length text ≤ limit → ◌≡◌ {A = Option (List ℕ)} (Some []) (Some (drop (limit + 1) text))
nothing_past limit text short = ap (λ bytes. Some bytes) (sym (drop_all (limit + 1) text (omega (arith, short))))

pub returns-clause-done : goal.returns-clause-done
returns-clause-done c = λ text g reads. (
  (
    jobs.Print,
    refl,
    record {
      bytes = canonical g;
      answer = record { text = text; of_input = refl; answers = inr (reads.fits, inr (g, reads, refl)) };
      input_read = refl;
      input_steady = refl;
      output_grown = refl;
      output_settled = refl;
      output_steady = refl;
    },
  ),
  refl,
)

pub returns-clause-refused : goal.returns-clause-refused
unfolding digits
returns-clause-refused c = (
  codes "sigma: byte 0: bad byte\n",
  (
    jobs.Check,
    refl,
    record {
      answer = record { text = codes "?"; of_input = refl; answers = inr (lit≤ tt, inl (record { what = complaints.BadByte; at = 0; complaint = refl; refuses = refl })) };
      input_read = refl;
      input_steady = refl;
      output_untouched = refl;
    },
  ),
  inr refl,
)

pub returns-clause-usage : goal.returns-clause-usage
returns-clause-usage c = (refl, refl, refl, inr refl)

pub returns-clause-read_fault : goal.returns-clause-read_fault
returns-clause-read_fault c = (
  (
    jobs.Check,
    refl,
    record {
      reads_text = refl;
      input_read = (3, lit≤ tt, refl);
      input_failed = inl (omega arith);
      output_untouched = refl;
    },
  ),
  inr refl,
)

-- a canonical text has the last word at least
has_three : (g : EventGraph) → 3 ≤ length (canonical g)
has_three g = omega (arith, length-append (version_line (needs_version_two g) ++ codes "model " ++ g.name ++ codes ";\n" ++ flat_map variable_line g.variables ++ flat_map table_line g.tables ++ watch_line g ++ flat_map (vertex_lines g) g.vertices) (codes "end\n"))

pub returns-clause-write_fault : goal.returns-clause-write_fault
returns-clause-write_fault c = λ text g reads. (
  (
    jobs.Print,
    refl,
    record {
      front = record {
        end = ends.Done;
        bytes = canonical g;
        answer = record { text = text; of_input = refl; answers = inr (reads.fits, inr (g, reads, refl)) };
        output_grown = (3, has_three g, refl);
      };
      input_read = refl;
      input_steady = refl;
      output_unsettled = inr refl;
      output_failed = inl (omega arith);
    },
  ),
  inr refl,
)

pub returns-clause-no_memory : goal.returns-clause-no_memory
returns-clause-no_memory c = (
  inr (
    jobs.Print,
    refl,
    record {
      input_read = (3, lit≤ tt, refl);
      input_steady = refl;
      output_grown = inl refl;
      output_steady = refl;
    },
  ),
  inr refl,
)

pub returns-clause-model_fault : goal.returns-clause-model_fault
returns-clause-model_fault c = λ text bytes g reads is. (
  (
    jobs.Run 10 0 5 [] ROOM_USUAL,
    refl,
    record {
      bytes = bytes;
      answer = record { text = text; of_input = refl; answers = inr (reads.fits, inr (g, reads, sym is)) };
      input_read = refl;
      input_steady = refl;
      output_grown = refl;
      output_settled = refl;
      output_steady = refl;
    },
  ),
  refl,
)

pub returns-clause-budget : goal.returns-clause-budget
returns-clause-budget c = λ text bytes g reads is. (
  (
    jobs.Run 10 0 5 [] ROOM_USUAL,
    refl,
    record {
      bytes = bytes;
      answer = record { text = text; of_input = refl; answers = inr (reads.fits, inr (g, reads, sym is)) };
      input_read = refl;
      input_steady = refl;
      output_grown = refl;
      output_settled = refl;
      output_steady = refl;
    },
  ),
  refl,
)

pub returns-clause-rejected : goal.returns-clause-rejected
returns-clause-rejected c = λ text g h applications reads differs. (
  (
    jobs.Certify,
    refl,
    record {
      bytes = codes "differs\n";
      answer = record { text = text; of_input = refl; answers = inr (reads.fits, inr (g, applications, h, reads, sym (ap answer_of_verdict differs))) };
      input_read = refl;
      input_steady = refl;
      output_grown = refl;
      output_settled = refl;
      output_steady = refl;
    },
  ),
  refl,
)

pub returns-clause-bad_start : goal.returns-clause-bad_start
returns-clause-bad_start c = λ text line g reads is. (
  line,
  (
    jobs.Run 10 0 5 (pos 7 ∷ []) ROOM_USUAL,
    refl,
    record {
      answer = record { text = text; of_input = refl; answers = inr (reads.fits, inr (g, reads, sym (ap (λ o. refused_or o (answer_of_look g 10 5 (look g 0 (pos 7 ∷ []) 10 5))) is))) };
      input_read = nothing_past TEXT_MAX text reads.fits;
      input_steady = refl;
      output_untouched = refl;
    },
  ),
  inr refl,
)

pub returns-clause-finished : goal.returns-clause-finished
returns-clause-finished c = λ text line g reads is. (
  line,
  (
    jobs.Save 10 0 5 [],
    refl,
    record {
      answer = record { text = text; of_input = refl; answers = inr (reads.fits, inr (g, reads, sym is)) };
      input_read = nothing_past TEXT_MAX text reads.fits;
      input_steady = refl;
      output_untouched = refl;
    },
  ),
  inr refl,
)

pub returns-clause-too_large : goal.returns-clause-too_large
returns-clause-too_large c = λ text line g reads is. (
  line,
  (
    jobs.Save 10 0 5 [],
    refl,
    record {
      answer = record { text = text; of_input = refl; answers = inr (reads.fits, inr (g, reads, sym is)) };
      input_read = nothing_past TEXT_MAX text reads.fits;
      input_steady = refl;
      output_untouched = refl;
    },
  ),
  inr refl,
)

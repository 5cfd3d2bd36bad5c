-- From what two calls promise of one text to the two models that their bytes show.
use Rattle.std.proofs.Common.{◌≡◌, ℕ, List, ◌++◌, Option, Some, ap, subst, ◌∙◌}
use Rattle.std.specs.Prelude.{IfSome, codes}
use Rattle.std.specs.List.{flat_map}
use Rattle.std.proofs.lemmas.List.{append_assoc}
use Rattle.model_core.specs.EventGraph.{EventGraph}
use Rattle.model_core.specs.Run.Same.{Same}
use Rattle.model_core.specs.Rules.Certificate.{application_line}
use Rattle.model_core.specs.Text.Canonical.{canonical}
use Rattle.job_answers.specs.ReduceAnswer.{KeepsMeaning}
use Rattle.sig_base.specs.Sink.{Outlet}
use Rattle.sig_base.specs.Source.{Inlet}
use Rattle.sigma_top.specs.Promises.{PrintsModel, PromisesOf}
use Rattle.answer_laws.specs.PrintedAndReduced.{ShowTheSame}
use Rattle.answer_laws.proofs.TextsApart.{ModelFacts, read_has_text}

-- the promises of a call whose words are these
pub promises_along : (words known : List (List ℕ)) (number : ℕ) (input : Inlet) (before after : Outlet) → words ≡ known
    → PromisesOf words number input before after → PromisesOf known number input before after
promises_along words known number input before after is h = subst (λ (w : List (List ℕ)). PromisesOf w number input before after) is h

module _ (facts : ModelFacts) where
  shown : (text a b : List ℕ) → PrintsModel text a → KeepsMeaning text b → ShowTheSame a b
  shown text a b (g, reads, wrote) kept = record {
    original = g;
    smaller = kept.reduces.reduced;
    lines = flat_map application_line kept.reduces.applications ++ codes "end\n";
    original_text = read_has_text facts text g reads;
    smaller_text = read_has_text facts (canonical kept.reduces.reduced) kept.reduces.reduced kept.reads_back;
    print_wrote = wrote;
    reduce_wrote = kept.reduces.written ∙ ap (λ (bytes : List ℕ). canonical kept.reduces.reduced ++ bytes) (append_assoc (codes "certificate\n") (flat_map application_line kept.reduces.applications) (codes "end\n"));
    same = subst (λ (k : EventGraph). Same k kept.reduces.reduced) (facts.one_model text kept.original g kept.reads reads) kept.same;
  }

  -- where both inputs give this text, each output grew by what its call promises
  pub shown_by_calls : (left again : Option (List ℕ)) (text : List ℕ) (Prints Reduces : List ℕ → Type 0) → left ≡ Some text → again ≡ Some text
      → IfSome left (λ bytes. (a : List ℕ) × PrintsModel bytes a × Prints a) → IfSome again (λ bytes. (b : List ℕ) × KeepsMeaning bytes b × Reduces b)
      → (a b : List ℕ) × ShowTheSame a b × Prints a × Reduces b
  shown_by_calls left again text Prints Reduces first second print reduce =
      let (a, prints, grown) = subst (λ (o : Option (List ℕ)). IfSome o (λ bytes. (a : List ℕ) × PrintsModel bytes a × Prints a)) first print in
      let (b, reduces, grown_too) = subst (λ (o : Option (List ℕ)). IfSome o (λ bytes. (b : List ℕ) × KeepsMeaning bytes b × Reduces b)) second reduce in
      (a, b, shown text a b prints reduces, grown, grown_too)

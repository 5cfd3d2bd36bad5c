-- What holds of the forms of answers, and of answers that are done.
use Rattle.std.proofs.Common.{◌≡◌, ◌⊎◌, inl, inr, ℕ, ◌<◌, List, [], ◌∷◌, ◌++◌, length, refl, sym, ap, subst, ◌∙◌, arith}
use Rattle.std.proofs.lemmas.List.{length-append}
use Rattle.answer_delivery.specs.declared.status.End.TheVariants as ends
use Rattle.answer_delivery.specs.declared.status.Status.TheVariants as statuses
use Rattle.job_answers.specs.AnswerLaws.{HasOneAnswer}
use Rattle.job_answers.proofs.AnswerTerms.{Given, Refused, End, Refusal, done, status_of_end, status_of_answer}

pub given_is_no_refusal : {end : End} {bytes line : List ℕ} {why : Refusal} → Given end bytes ≡ Refused why line → ⊥
given_is_no_refusal e = cc

pub given_bytes : {end other : End} {bytes out : List ℕ} → Given end bytes ≡ Given other out → bytes ≡ out
given_bytes e = cc

pub begins_with : (front behind later : List ℕ) → 0 < length front → 0 < length ((front ++ behind) ++ later)
begins_with front behind later some = omega (arith, length-append (front ++ behind) later, length-append front behind, some)

-- the bytes that are given are these, of which there are some
pub some_bytes : {end other : End} {bytes out : List ℕ} → 0 < length out → Given end bytes ≡ Given other out → 0 < length bytes
some_bytes some is = subst (λ (b : List ℕ). 0 < length b) (sym (given_bytes is)) some

pub none_or_some : (bytes : List ℕ) → (bytes ≡ []) ⊎ (0 < length bytes)
none_or_some [] = inl refl
none_or_some (b ∷ bytes) = inr (omega arith)

pub end_unrefused : (end : End) → status_of_end end ≡ statuses.Refused → ⊥
end_unrefused ends.Done e = cc
end_unrefused ends.ModelFault e = cc
end_unrefused ends.Budget e = cc
end_unrefused ends.Rejected e = cc
end_unrefused ends.Differs e = cc
end_unrefused ends.Unknown e = cc

-- an answer that is a function of what is read, and done
pub done_answer : {M : Type 0} (MayBeRead : M → Type 0) (MayBeNone : List ℕ → Type 0) (out : M → List ℕ) → ((m : M) → MayBeNone (out m) ⊎ (0 < length (out m)))
    → HasOneAnswer MayBeRead (λ m a. a ≡ done (out m)) MayBeNone
done_answer {M} MayBeRead MayBeNone out some = record {
  exists = λ m read. (done (out m), refl);
  one = λ m a b x y. x ∙ sym y;
  has_bytes = λ m end bytes is. subst (λ (b : List ℕ). MayBeNone b ⊎ (0 < length b)) (sym (given_bytes is)) (some m);
  unrefused = λ m a is e. end_unrefused ends.Done (sym (ap status_of_answer is) ∙ e);
}

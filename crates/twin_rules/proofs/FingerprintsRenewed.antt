-- The aims of one vertex after another are printed anew.
use Rattle.std.proofs.Common.{◌≡◌, ◌⊎◌, inl, inr, ℕ, ◌+◌, ◌<◌, ◌≤◌, ◌==◌, Bool, true, false, List, length, slice_get, Option, Some, None, refl, sym, ◌∙◌, ap, subst, arith}
use Rattle.std.specs.Option.{option_map_or}
use Rattle.std.proofs.lemmas.Bool.{false≢true, eqb-true}
use Rattle.std.proofs.lemmas.Bool.Decides.{nat_tests}
use Rattle.std.proofs.lemmas.Option.{slice_get_within}
use Rattle.sig_base.specs.declared.limits.TheConstants.{VERTICES_MAX}
use Rattle.model_core.specs.EventGraph.{EventGraph}
use Rattle.model_core.specs.Run.Step.{vertex_at}
use Rattle.twin_rules.specs.declared.vertex_fingerprint.VertexFingerprint.{VertexFingerprint}
use Rattle.twin_rules.specs.Inner.ComparedPairs.{has_changed}
use Rattle.twin_rules.specs.Inner.Fingerprints.{half}
use Rattle.twin_rules.specs.Inner.KeptFingerprints.{number_in, targets_fingerprint_at, IsFingerprintBut, AreFingerprints, AreFingerprintsBut, AreFingerprintsOfAll, IsRenewed}
use Rattle.twin_rules.proofs.NextPlaces.{last-or-before}
use Rattle.twin_rules.proofs.VertexFingerprints.{aims-same}

-- the aims of the vertices before this place, and of those that haven't changed, are as they shall be
pub record RenewedSoFar (g : EventGraph) (old now : List VertexFingerprint) (changed : List Bool) (place : ℕ) : Type 0 where
  pub long : length now ≡ length old
  pub numbers : (v : ℕ) → number_in now v ≡ number_in old v
  pub kept : (x : ℕ) (p : VertexFingerprint) → slice_get now x ≡ Some p → IsFingerprintBut g old ((x < place) ⊎ (has_changed changed x ≡ false)) x p

module _ (g : EventGraph) (old now : List VertexFingerprint) (changed : List Bool) (place : ℕ) (so_far : RenewedSoFar g old now changed place) where
  -- one that hasn't changed is as it shall be
  pub one-passed : has_changed changed place ≡ false → RenewedSoFar g old now changed (place + 1)
  one-passed stays = record {
    long = so_far.long;
    numbers = so_far.numbers;
    kept = λ x p is. record { doing = (so_far.kept x p is).doing; barred = (so_far.kept x p is).barred; aims = λ hold. by x p is hold };
  } where
    at : (x : ℕ) (p : VertexFingerprint) → slice_get now x ≡ Some p → (x < place) ⊎ (x ≡ place) → p.aims ≡ targets_fingerprint_at g old x
    at x p is (inl less) = (so_far.kept x p is).aims (inl less)
    at x p is (inr same) = (so_far.kept x p is).aims (inr (ap (has_changed changed) same ∙ stays))

    by : (x : ℕ) (p : VertexFingerprint) → slice_get now x ≡ Some p → (x < place + 1) ⊎ (has_changed changed x ≡ false) → p.aims ≡ targets_fingerprint_at g old x
    by x p is (inl less) = at x p is (last-or-before x place less)
    by x p is (inr stays) = (so_far.kept x p is).aims (inr stays)

  abbrev number_of : Option VertexFingerprint → ℕ
  number_of o = option_map_or (λ (p : VertexFingerprint). p.number) o VERTICES_MAX

  -- what is renewed has its number and all but its aims
  pub one-renewed : (next : List VertexFingerprint) → IsRenewed g now next place → RenewedSoFar g old next changed (place + 1)
  one-renewed next renewed = record {
    long = renewed.long ∙ so_far.long;
    numbers = λ v. numbers v ∙ so_far.numbers v;
    kept = λ x p is. kept x p is;
  } where
    same-number : (v : ℕ) (b : Bool) → (v == place) ≡ b → (o : Option VertexFingerprint) → slice_get now place ≡ o → number_in next v ≡ number_in now v
    same-number v false apart o found = ap number_of (renewed.others v apart)
    same-number v true here (Some p) found =
        let at = eqb-true v place here in
        ap (number_in next) at ∙ (ap number_of (renewed.here p found) ∙ (ap number_of (sym found) ∙ ap (number_in now) (sym at)))
    same-number v true here None found =
        let at = eqb-true v place here in
        ap (number_in next) at ∙ (ap number_of (renewed.beyond found) ∙ (ap number_of (sym found) ∙ ap (number_in now) (sym at)))

    numbers : (v : ℕ) → number_in next v ≡ number_in now v
    numbers v = same-number v (v == place) refl (slice_get now place) refl

    earlier : (x : ℕ) → x < place + 1 → (x == place) ≡ false → x < place
    earlier x less apart = grind (arith, nat_tests)

    elsewhere : (x : ℕ) (p : VertexFingerprint) → (x == place) ≡ false → slice_get now x ≡ Some p → (x < place + 1) ⊎ (has_changed changed x ≡ false) → p.aims ≡ targets_fingerprint_at g old x
    elsewhere x p apart was (inl less) = (so_far.kept x p was).aims (inl (earlier x less apart))
    elsewhere x p apart was (inr stays) = (so_far.kept x p was).aims (inr stays)

    here : (x : ℕ) (p q : VertexFingerprint) → x ≡ place → slice_get now place ≡ Some q → slice_get next x ≡ Some p → IsFingerprintBut g old ((x < place + 1) ⊎ (has_changed changed x ≡ false)) x p
    here x p q at found is =
        let held = so_far.kept place q found in
        let made : record q { aims = targets_fingerprint_at g now place } ≡ p = (let both : Some (record q { aims = targets_fingerprint_at g now place }) ≡ Some p = sym (renewed.here q found) ∙ (ap (slice_get next) (sym at) ∙ is) in cc) in
        subst (λ (y : ℕ × VertexFingerprint). IsFingerprintBut g old ((y.0 < place + 1) ⊎ (has_changed changed y.0 ≡ false)) y.0 y.1) (λ i. (sym at i, made i))
        record {
          doing = held.doing;
          barred = held.barred;
          aims = λ hold. ap half (aims-same (number_in now) (number_in old) so_far.numbers (vertex_at g place).edges);
        }

    there : (x : ℕ) (p : VertexFingerprint) → x ≡ place → (o : Option VertexFingerprint) → slice_get now place ≡ o → slice_get next x ≡ Some p → IsFingerprintBut g old ((x < place + 1) ⊎ (has_changed changed x ≡ false)) x p
    there x p at (Some q) found is = here x p q at found is
    there x p at None found is = let no : Some p ≡ None = sym is ∙ (ap (slice_get next) at ∙ renewed.beyond found) in cc

    either : (x : ℕ) (p : VertexFingerprint) (b : Bool) → (x == place) ≡ b → slice_get next x ≡ Some p → IsFingerprintBut g old ((x < place + 1) ⊎ (has_changed changed x ≡ false)) x p
    either x p true at is = there x p (eqb-true x place at) (slice_get now place) refl is
    either x p false apart is =
        let was : slice_get now x ≡ Some p = sym (renewed.others x apart) ∙ is in
        record { doing = (so_far.kept x p was).doing; barred = (so_far.kept x p was).barred; aims = elsewhere x p apart was }

    kept : (x : ℕ) (p : VertexFingerprint) → slice_get next x ≡ Some p → IsFingerprintBut g old ((x < place + 1) ⊎ (has_changed changed x ≡ false)) x p
    kept x p is = either x p (x == place) refl is

-- ---- in the end

pub all-renewed : (g : EventGraph) (old now : List VertexFingerprint) (changed : List Bool) (place : ℕ) → length old ≤ place → RenewedSoFar g old now changed place → AreFingerprints g now
all-renewed g old now changed place past so_far x p is =
    let inside = slice_get_within now x p is in
    let long = so_far.long in
    record {
      doing = (so_far.kept x p is).doing;
      barred = (so_far.kept x p is).barred;
      aims = λ hold. (so_far.kept x p is).aims (inl (omega (arith, inside, long, past))) ∙ ap half (sym (aims-same (number_in now) (number_in old) so_far.numbers (vertex_at g x).edges));
    }

-- ---- at first

pub all-old : (g : EventGraph) (table : List VertexFingerprint) (changed : List Bool) → AreFingerprintsOfAll g table → ((k : ℕ) → has_changed changed k ≡ true) → AreFingerprintsBut g table changed
all-old g table changed prints all x p is =
    let (doing, barred) = prints x p is in
    record { doing = doing; barred = barred; aims = λ stays. absurd (false≢true (sym stays ∙ all x)) }

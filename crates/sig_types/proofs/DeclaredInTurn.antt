-- Three lists of declarations, taken into one table of names one after another.
use Rattle.std.proofs.Common.{◌≡◌, List, [], ◌++◌, map, Option, refl, sym, ap, ◌∙◌}
use Rattle.model_core.specs.Static.FaultOrder.{StaticFault, earliest_fault}
use Rattle.model_core.specs.Static.Meanings.{Declaration, declared_name, meaning_of}
use Rattle.model_core.specs.Static.PartFaults.{repeated_names}
use Rattle.static_laws.proofs.Checks.{earliest_in_turn}
use Rattle.sig_types.specs.Inner.Redeclared.{redeclared}
use Rattle.sig_types.proofs.MeaningsSoFar.{meaning_of-same, redeclared-same, redeclared-append, redeclared-repeated}

module _ (a b c n1 n2 n3 : List Declaration) (first : meaning_of n1 ≡ meaning_of a) (second : meaning_of n2 ≡ meaning_of (n1 ++ b)) where
  two_mean : meaning_of n2 ≡ meaning_of (a ++ b)
  two_mean = second ∙ meaning_of-same n1 a b b first refl

  pub three_mean : meaning_of n3 ≡ meaning_of (n2 ++ c) → meaning_of n3 ≡ meaning_of (a ++ b ++ c)
  three_mean third = third ∙ meaning_of-same n2 (a ++ b) c c two_mean refl

  pub three_in_turn : (t0 t1 t2 t3 : Option StaticFault) → t1 ≡ earliest_fault t0 (redeclared [] a) → t2 ≡ earliest_fault t1 (redeclared n1 b) → t3 ≡ earliest_fault t2 (redeclared n2 c)
      → t3 ≡ earliest_fault t0 (repeated_names [] (map declared_name (a ++ b ++ c)))
  three_in_turn t0 t1 t2 t3 e f g =
      let all : redeclared [] a ++ redeclared a b ++ redeclared (a ++ b) c ≡ repeated_names [] (map declared_name (a ++ b ++ c))
      = ap (λ fs. fs ++ redeclared (a ++ b) c) (sym (redeclared-append [] a b)) ∙ sym (redeclared-append [] (a ++ b) c) ∙ redeclared-repeated (a ++ b ++ c) in
      earliest_in_turn t0 t2 t3 (redeclared [] a ++ redeclared a b) (redeclared (a ++ b) c)
      (earliest_in_turn t0 t1 t2 (redeclared [] a) (redeclared a b) e (f ∙ ap (earliest_fault t1) (redeclared-same n1 a b first)))
      (g ∙ ap (earliest_fault t2) (redeclared-same n2 (a ++ b) c two_mean))
      ∙ ap (earliest_fault t0) all

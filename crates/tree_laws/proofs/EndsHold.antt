-- The values of atoms, lists of terms and sums lie between their ends.
use Rattle.std.proofs.Common.{◌≡◌, ℤ, pos, ◌+ℤ◌, ◌≤ℤ◌, ◌<ℤ◌, int_div, [], ◌∷◌, Some, subst, arith}
use Rattle.std.proofs.lemmas.Int.{ints, clamps}
use Rattle.tree_laws.specs.LinearSums.{SumAtom, VariableAtom, ReceivedAtom, WordAtom, ClockAtom, CellAtom, OperationAtom, SumTerms, NoTerms, Term, LinearSum, only_atom, same_terms, divisor, primitive, terms_divided}
use Rattle.tree_laws.specs.SumValues.{Valuation, atom_value, terms_value, sum_value}
use Rattle.tree_laws.specs.Limits.{Interval, limited_ends}
use Rattle.tree_laws.specs.SumEnds.{Ground, Known, known_of, met_unless_alone, plus_ends, times_ends, around, narrowed, atom_ends, terms_ends, primitive_ends, sum_ends, known_most, known_above, operation_ends}
use Rattle.tree_laws.specs.Meaning.{Within, Meets, Holds}
use Rattle.tree_laws.proofs.Gives.{Gives, gives_some, gives_none, then_gives, gives_weaker, gives_cond, limited_ends-gives}
use Rattle.tree_laws.proofs.SameSums.{true-same_terms}
use Rattle.tree_laws.proofs.AddedSums.{term-value, no_terms-value}
use Rattle.tree_laws.proofs.Divisors.{primitive-value, divided_by_one-value}
use Rattle.tree_laws.proofs.Intervals.{within_one, met-within, plus_ends-within, times_ends-within, operation_ends-within}

module _ (v : Valuation) where
  -- a list of terms, and an atom, between ends
  abbrev pub TermsWithin : SumTerms → Interval → Type 0
  TermsWithin p e = Within e (terms_value v p)

  abbrev pub AtomWithin : SumAtom → Interval → Type 0
  AtomWithin a e = Within e (atom_value v a)

  abbrev pub SumWithin : LinearSum → Interval → Type 0
  SumWithin s e = Within e (sum_value v s)

  pub alone-value : (a : SumAtom) → terms_value v (only_atom a) ≡ atom_value v a
  alone-value a = let one = term-value v (pos 1) a NoTerms in let none = no_terms-value v in omega (arith, ints)

  known_of-holds : (k : Known) (p : SumTerms) → Holds v k → Gives (known_of k p) (TermsWithin p)
  unfolding Holds known_of
  known_of-holds [] p h = gives_none _
  known_of-holds (f ∷ k) p h =
      gives_cond (TermsWithin p) (same_terms f.terms p) (Some f.ends) (known_of k p)
      (λ e. gives_some (TermsWithin p) f.ends (subst (λ q. TermsWithin q f.ends) (true-same_terms f.terms p e) h.0))
      (λ e. known_of-holds k p h.1)

  met_unless_alone-holds : (k : Known) (p : SumTerms) (e : Interval) → Holds v k → TermsWithin p e → TermsWithin p (met_unless_alone k p e)
  met_unless_alone-holds k NoTerms e h w = w
  met_unless_alone-holds k (Term c a NoTerms) e h w = w
  met_unless_alone-holds k (Term c a (Term d b ts)) e h w = met-within e _ (terms_value v (Term c a (Term d b ts))) w (known_of-holds k (Term c a (Term d b ts)) h)

  module _ (base : Ground) (k : Known) (meets : Meets base v) (h : Holds v k) where
    around-holds : (ts : SumTerms) (c : ℤ) (e : Interval) → TermsWithin (primitive ts) e → Gives (around base k ts c e) (λ f. Within f (terms_value v ts +ℤ c))
    around-holds ts c e w =
        then_gives (TermsWithin (primitive ts)) (λ f. Within f (terms_value v ts +ℤ c)) (limited_ends (met_unless_alone k (primitive ts) e)) _
        (limited_ends-gives (TermsWithin (primitive ts)) (met_unless_alone k (primitive ts) e) (met_unless_alone-holds k (primitive ts) e h w))
        (λ p u. limited_ends-gives (λ f. Within f (terms_value v ts +ℤ c)) _
        (subst (λ x. Within (plus_ends (times_ends (divisor ts) p) (record { lo = c; hi = c })) (x +ℤ c)) (primitive-value v ts)
        (plus_ends-within _ _ _ c (times_ends-within (divisor ts) p _ u) (within_one c))))

    narrowed-holds : (a : SumAtom) (e : Interval) → AtomWithin a e → Gives (narrowed base k a e) (AtomWithin a)
    narrowed-holds a e w =
        then_gives (AtomWithin a) (AtomWithin a) (limited_ends e) _ (limited_ends-gives (AtomWithin a) e w)
        (λ f u. gives_some (AtomWithin a) _ (met-within f _ (atom_value v a) u (subst (λ x. Gives (known_of k (only_atom a)) (λ f. Within f x)) (alone-value a) (known_of-holds k (only_atom a) h))))

    mutual
      unfolding atom_ends terms_ends terms_divided atom_value terms_value

      pub atom_ends-holds : (a : SumAtom) → Gives (atom_ends base k a) (AtomWithin a)
      atom_ends-holds (VariableAtom i) = narrowed-holds (VariableAtom i) (base.variable i) (meets.variable i)
      atom_ends-holds (ReceivedAtom i) = narrowed-holds (ReceivedAtom i) (base.received i) (meets.received i)
      atom_ends-holds (WordAtom i) = narrowed-holds (WordAtom i) (base.word i) (meets.word i)
      atom_ends-holds ClockAtom = narrowed-holds ClockAtom _ meets.clock
      atom_ends-holds (CellAtom i ts c) = narrowed-holds (CellAtom i ts c) (base.cell i) (meets.cell i _)
      atom_ends-holds (OperationAtom op ts c us d) =
          let a = OperationAtom op ts c us d in
          then_gives (TermsWithin (primitive ts)) (AtomWithin a) (terms_ends base k (divisor ts) ts) _ (terms_ends-holds ts (divisor ts)) (λ e w.
          then_gives (λ f. Within f (terms_value v ts +ℤ c)) (AtomWithin a) (around base k ts c e) _ (around-holds ts c e w) (λ p pw.
          then_gives (TermsWithin (primitive us)) (AtomWithin a) (terms_ends base k (divisor us) us) _ (terms_ends-holds us (divisor us)) (λ f u.
          then_gives (λ f. Within f (terms_value v us +ℤ d)) (AtomWithin a) (around base k us d f) _ (around-holds us d f u) (λ q qw.
          narrowed-holds a (operation_ends op p q) (operation_ends-within op p q _ _ pw qw)))))

      pub terms_ends-holds : (ts : SumTerms) (g : ℤ) → Gives (terms_ends base k g ts) (λ e. Within e (terms_value v (terms_divided g ts)))
      terms_ends-holds NoTerms g = gives_some _ _ (within_one (pos 0))
      terms_ends-holds (Term c a ts) g =
          let Q : Interval → Type 0 = λ e. Within e (terms_value v (terms_divided g (Term c a ts))) in
          then_gives (AtomWithin a) Q (atom_ends base k a) _ (atom_ends-holds a) (λ e w.
          then_gives (λ e. Within e (terms_value v (terms_divided g ts))) Q (terms_ends base k g ts) _ (terms_ends-holds ts g) (λ f u.
          limited_ends-gives Q _ (plus_ends-within _ _ _ _ (times_ends-within (int_div c g) e _ w) u)))

    pub primitive_ends-holds : (p : SumTerms) → Gives (primitive_ends base k p) (TermsWithin p)
    primitive_ends-holds p =
        then_gives (TermsWithin p) (TermsWithin p) (terms_ends base k (pos 1) p) _
        (gives_weaker (TermsWithin p) (terms_ends base k (pos 1) p) (terms_ends-holds p (pos 1)) (λ e w. subst (λ x. Within e x) (divided_by_one-value v p) w))
        (λ e w. limited_ends-gives (TermsWithin p) _ (met_unless_alone-holds k p e h w))

    pub sum_ends-holds : (s : LinearSum) → Gives (sum_ends base k s) (SumWithin s)
    sum_ends-holds s =
        then_gives (TermsWithin (primitive s.terms)) (SumWithin s) (terms_ends base k (divisor s.terms) s.terms) _ (terms_ends-holds s.terms (divisor s.terms))
        (λ e w. around-holds s.terms s.constant e w)

    pub known_most-holds : (p : SumTerms) (m : ℤ) → terms_value v p ≤ℤ m → Gives (known_most base k p m) (Holds v)
    unfolding Holds
    known_most-holds p m least =
        then_gives (TermsWithin p) (Holds v) (primitive_ends base k p) _ (primitive_ends-holds p)
        (λ e w. gives_some (Holds v) _ (record { low = w.low; high = omega (arith, ints, clamps, w.high) }, h))

    pub known_above-holds : (p : SumTerms) (m : ℤ) → m <ℤ terms_value v p → Gives (known_above base k p m) (Holds v)
    unfolding Holds
    known_above-holds p m above =
        then_gives (TermsWithin p) (Holds v) (primitive_ends base k p) _ (primitive_ends-holds p)
        (λ e w. gives_some (Holds v) _ (record { low = omega (arith, ints, clamps, w.low); high = w.high }, h))

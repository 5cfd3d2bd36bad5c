-- What is one for the numbers of each link is one for all numbers of a class.
use Rattle.std.proofs.Common.{◌≡◌, ℕ, ◌+◌, ◌*◌, ◌==◌, Bool, true, false, cond, List, [], ◌∷◌, refl, sym, ap, ◌∙◌, arith}
use Rattle.std.proofs.lemmas.Bool.{eqb-true}
use Rattle.walk_laws.specs.Links.{Side, First, Second, Link, own_class, class_of, OfLinks}

own-class-is : {X : Type 0} (val : Side → X) → (n m : Side) → own_class n ≡ own_class m → val n ≡ val m
own-class-is val (First n) (First m) e = ap (λ k. val (First k)) (omega (arith, e))
own-class-is val (First n) (Second m) e = absurd (omega (arith, e))
own-class-is val (Second n) (First m) e = absurd (omega (arith, e))
own-class-is val (Second n) (Second m) e = ap (λ k. val (Second k)) (omega (arith, e))

pub class-carries : {X : Type 0} (val : Side → X) (links : List Link) → OfLinks (λ a b. val (First a) ≡ val (Second b)) links → (n m : Side) → class_of links n ≡ class_of links m → val n ≡ val m
unfolding class_of
class-carries val [] all n m e = own-class-is val n m e
class-carries val (l ∷ older) (one, all) n m e =
    by (λ n m. class-carries val older all n m) (class_of older n == class_of older (Second l.second)) refl (class_of older m == class_of older (Second l.second)) refl e where
      by : ((n m : Side) → class_of older n ≡ class_of older m → val n ≡ val m) → (c : Bool) → (class_of older n == class_of older (Second l.second)) ≡ c → (d : Bool) → (class_of older m == class_of older (Second l.second)) ≡ d
          → cond c (class_of older (First l.first)) (class_of older n) ≡ cond d (class_of older (First l.first)) (class_of older m) → val n ≡ val m
      by deeper true n_is true m_is same = deeper n m (eqb-true _ _ n_is ∙ sym (eqb-true _ _ m_is))
      by deeper true n_is false m_is same = deeper n (Second l.second) (eqb-true _ _ n_is) ∙ sym one ∙ deeper (First l.first) m same
      by deeper false n_is true m_is same = deeper n (First l.first) same ∙ one ∙ sym (deeper m (Second l.second) (eqb-true _ _ m_is))
      by deeper false n_is false m_is same = deeper n m same

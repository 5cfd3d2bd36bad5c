-- What holds of a result, if there is one.
use Rattle.std.proofs.Common.{◌≡◌, Bool, true, false, cond, Option, Some, None, refl, subst}
use Rattle.tree_laws.specs.Limits.{◌>>=◌, limited, Interval, limited_ends}
use Rattle.tree_laws.specs.LinearSums.{LinearSum}

pub record Gives {A : Type 0} (o : Option A) (P : A → Type 0) : Type 0 where
  pub gives : (x : A) → o ≡ Some x → P x

pub gives_some : {A : Type 0} (P : A → Type 0) (x : A) → P x → Gives (Some x) P
gives_some P x p = record { gives = λ y e. (let same : x ≡ y = cc in subst P same p) }

pub gives_none : {A : Type 0} (P : A → Type 0) → Gives None P
gives_none P = record { gives = λ y e. cc }

-- one step, and what follows it
pub then_gives : {A B : Type 0} (P : A → Type 0) (Q : B → Type 0) (o : Option A) (f : A → Option B) → Gives o P → ((x : A) → P x → Gives (f x) Q) → Gives (o >>= f) Q
then_gives P Q (Some x) f first next = next x (first.gives x refl)
then_gives P Q None f first next = gives_none Q

pub gives_weaker : {A : Type 0} {P : A → Type 0} (Q : A → Type 0) (o : Option A) → Gives o P → ((x : A) → P x → Q x) → Gives o Q
gives_weaker Q o first next = record { gives = λ x e. next x (first.gives x e) }

pub gives_cond : {A : Type 0} (Q : A → Type 0) (b : Bool) (x y : Option A) → (b ≡ true → Gives x Q) → (b ≡ false → Gives y Q) → Gives (cond b x y) Q
gives_cond Q true x y held failed = held refl
gives_cond Q false x y held failed = failed refl

pub holds_cond : {A : Type 0} (Q : A → Type 0) (b : Bool) (x y : A) → (b ≡ true → Q x) → (b ≡ false → Q y) → Q (cond b x y)
holds_cond Q true x y held failed = held refl
holds_cond Q false x y held failed = failed refl

pub limited-gives : (Q : LinearSum → Type 0) (s : LinearSum) → Q s → Gives (limited s) Q
limited-gives Q s q = gives_cond Q _ (Some s) None (λ e. gives_some Q s q) (λ e. gives_none Q)

pub limited_ends-gives : (Q : Interval → Type 0) (s : Interval) → Q s → Gives (limited_ends s) Q
limited_ends-gives Q s q = gives_cond Q _ (Some s) None (λ e. gives_some Q s q) (λ e. gives_none Q)

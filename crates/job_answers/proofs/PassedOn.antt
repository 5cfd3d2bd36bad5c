-- An error that is passed on is the one that came.
use Rattle.std.proofs.Common.{◌≡◌, ◌∙◌, sym, ap}
use Rattle.std.specs.Prelude.{Result, Err}
use Rattle.job_answers.specs.declared.reading_error.ReadingError.{ReadingError}

pub one_error : {A : Type 0} (x y : ReadingError) → ◌≡◌ {A = Result A ReadingError} (Err x) (Err y) → x ≡ y
one_error x y p = cc

pub same_error : {A : Type 0} (r : Result A ReadingError) (x e y : ReadingError) → r ≡ Err x → x ≡ e → r ≡ Err y → e ≡ y
same_error r x e y f g h = sym g ∙ one_error x y (sym f ∙ h)

pub passed_on : {A B : Type 0} (r : Result A ReadingError) (x e y : ReadingError) → r ≡ Err x → x ≡ e → r ≡ Err y → ◌≡◌ {A = Result B ReadingError} (Err e) (Err y)
passed_on r x e y f g h = ap (λ (z : ReadingError). Err z) (same_error r x e y f g h)

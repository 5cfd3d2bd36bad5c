-- What reading words answers: exactly what they give, and that they give nothing exactly where they do.
use Rattle.std.specs.Prelude.{◌≡◌, Option, Some, None, Result, Ok, Err}
use Rattle.command_words.specs.declared.words_error.WordsError.{WordsError}
use Rattle.command_words.specs.declared.words_error.WordsError.TheVariants as errors

abbrev pub Asked : {A : Type 0} → Option A → Result A WordsError → Type 0
Asked given (Ok a) = given ≡ Some a
Asked given (Err errors.BadWords) = given ≡ None
Asked given (Err errors.NoMemory) = Unit {0}

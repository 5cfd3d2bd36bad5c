-- Each part of a snapshot has a token at least.
use Rattle.std.specs.Prelude.{◌≡◌, false, refl}
use Rattle.model_core.specs.Text.SnapshotGrammar.{stream_format, value_format, exact_format, carried_format, pending_format}
use Rattle.text_laws.specs.FirstTokens.{nullable}

pub stream-some : nullable stream_format ≡ false
unfolding stream_format
stream-some = refl

pub value-some : nullable value_format ≡ false
unfolding value_format
value-some = refl

pub carried-some : nullable carried_format ≡ false
unfolding carried_format exact_format
carried-some = refl

pub pending-some : nullable pending_format ≡ false
unfolding pending_format
pending-some = refl

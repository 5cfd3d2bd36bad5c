-- What values are seen as, where none are written and where some are.
use Rattle.std.proofs.Common.{◌≡◌, List, [], map, Option, Some, None, unwrap_or, refl}
use Rattle.std.specs.Option.{option_map}

pub map_written : {A B : Type 0} (f : A → B) (o : Option (List A)) → map f (unwrap_or o []) ≡ unwrap_or (option_map (map f) o) []
map_written f None = refl
map_written f (Some xs) = refl

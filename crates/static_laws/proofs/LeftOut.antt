-- Optional lists: a list that may be left out of a text.
use Rattle.std.proofs.Common.{◌≡◌, List, [], map, Option, Some, None, refl}
use Rattle.std.specs.Option.{option_map}
use Rattle.model_core.specs.Text.Numbering.{each_numbered, written_or}
use Rattle.model_core.specs.Static.PartFaults.{written_items}

pub map-items : {A B : Type 0} (f : A → B) (o : Option (List A)) → map f (written_items o) ≡ written_items (option_map (map f) o)
map-items f None = refl
map-items f (Some xs) = refl

pub each_numbered-items : {A B : Type 0} (f : A → Option B) (o : Option (List A)) → each_numbered f (written_items o) ≡ written_or (each_numbered f) [] o
each_numbered-items f None = refl
each_numbered-items f (Some xs) = refl

-- Which plain value each value of this crate's types represents.
use Rattle.std.specs.Prelude.{ℕ, List}
use Rattle.model_core.specs.declared.raw.RawName.{RawName}
use Rattle.model_core.specs.Static.Meanings as plain
use Rattle.model_core.specs.Static.Meanings.{Declaration}
use Rattle.sig_types.specs.declared.names.Meaning.{Meaning}
use Rattle.sig_types.specs.declared.names.Meaning.TheVariants as meanings
use Rattle.sig_types.specs.declared.uses.Role.{Role}
use Rattle.sig_types.specs.declared.uses.Role.TheVariants as roles

-- what a name is declared as
abbrev pub meaning_seen : Meaning → plain.Meaning
meaning_seen (meanings.Variable var kind is_array) = plain.MeansVariable var kind is_array
meaning_seen (meanings.Table k) = plain.MeansTable k
meaning_seen (meanings.Vertex k) = plain.MeansVertex k

-- what a name is used as
abbrev pub role_seen : Role → plain.Role
role_seen roles.Scalar = plain.AsScalar
role_seen roles.Array = plain.AsArray
role_seen roles.Table = plain.AsTable
role_seen roles.Vertex = plain.AsVertex
role_seen roles.Watched = plain.AsWatched

-- a declaration of a name whose place isn't known
abbrev pub declaration_of : List ℕ → plain.Meaning → Declaration
declaration_of name meaning = record { name = record { name = name; at = 0 }; meaning = meaning }

-- the bytes of a written name, without its place
abbrev pub bytes_of : RawName → List ℕ
bytes_of n = n.name

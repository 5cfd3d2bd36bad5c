-- Vectors as the logic holds them, for the clauses on what a list, a text or a name lends.
use Rattle.std.specs.Borrow.{RattleType, u8}
use Rattle.std.specs.contracts.alloc.Global as global
use Rattle.std.specs.contracts.vec.Vec as vec
use Rattle.std.specs.contracts.impls.GlobalAllocator.TheImpl.{ghosts}

-- a `Vec` of such items
abbrev pub items_row : RattleType → RattleType
items_row item = vec.the_row item global.the_row ghosts

-- a `Vec<u8>`
abbrev pub bytes_row : RattleType
bytes_row = items_row u8

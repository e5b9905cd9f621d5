-- A trail owns nothing, so threads may share it.
use denote.RattleType.{RattleType}
use denote.Memory.{part_of, raw_all}
use denote.Param.Send.{AllSend, IsSync, cell_keyless, sendable, struct_send}
use denote.Struct.Owning.{fields, shape, to}
use Rattle.am_ghost.specs.contracts.ghost_list.GhostList.{the_row, the_type}

pub sync : (T : RattleType) → IsSync T → IsSync (the_row T)
unfolding part_of
sync T t =
    let all : AllSend (fields (the_type T)) = (search sendable, tt) in
    record { shared = λ d b o κ. λ q vs. (cell_keyless q (raw_all (the_row T).mir) vs b o, ((struct_send (shape (the_type T)) all).owned (to (the_type T) d) vs, tt)) }

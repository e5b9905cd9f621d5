use Rattle.std.proofs.Common.{refl, arith}
use Rattle.am_yaml.proofs.Locations.{placed_behind}
use Rattle.am_yaml.proofs.reader.read_yaml.Goals as goal

pub returns-in-Err-clause-placed : goal.returns-in-Err-clause-placed
returns-in-Err-clause-placed c =
    let mark = c.in-Some.ensures in
    placed_behind _ _ _ mark.0 mark.1 mark.2 _ c.fault_in.ensures.placed

pub returns-in_default-clause-placed : goal.returns-in_default-clause-placed
returns-in_default-clause-placed c = (0, 0, omega arith, omega arith, refl, refl)

use Rattle.std.proofs.Common.{◌+◌, ◌*◌}
use Rattle.am_settings.proofs.findings.Findings.+settings.Given as goal

-- the levels that are left, and within a level what is called last is smaller
abbrev pub decreases-add_part : goal.decreases-add_part
decreases-add_part l = 4 * l.levels

abbrev pub decreases-add_fields : goal.decreases-add_fields
decreases-add_fields l = 4 * l.levels + 1

abbrev pub decreases-add_parts : goal.decreases-add_parts
decreases-add_parts l = 4 * l.levels + 2

abbrev pub decreases-add_value : goal.decreases-add_value
decreases-add_value l = 4 * l.levels + 3

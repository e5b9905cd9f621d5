use Rattle.std.proofs.Common.{◌≡◌, ℕ, List, drop}
use Rattle.std.specs.HashMap.{get_by_text}
use Rattle.am_session.proofs.Names.{child_from}
use Rattle.am_session.proofs.route_names.positions_of.Given as goal

-- each name has the position of the first route of it from this one on
abbrev pub invariant-loop-index : goal.invariant-loop-index
invariant-loop-index l = (name : List ℕ) → get_by_text l.positions name ≡ child_from l.index (drop l.index l.children) name

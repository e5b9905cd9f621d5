use Rattle.std.proofs.Common.{◌≡◌, ◌≤◌, map, vec_len}
use Rattle.std.specs.Prelude.{All, fold, reverse}
use Rattle.am_alerts.specs.RoutingTree.{RoutingTree}
use Rattle.am_alerts.specs.declared.limits.TheConstants.{MAX_TIME}
use Rattle.am_board.specs.Group.{names_of, AreRouted}
use Rattle.am_model.specs.Insert.{put_into_group}
use Rattle.am_board.specs.Refinement.{group_state}
use Rattle.am_board.specs.Inserting.{IsEmptyWithSpace, HaveSpace, AreFound, AreApart, AreRoutedPlacements, IsPlacementOf}
use Rattle.am_model.specs.State.{MemberState}
use Rattle.am_model.specs.declared.config.Config.{Config}
use Rattle.am_board.proofs.insert.put_placements.Given as goal
use Rattle.am_board.specs.Marks.{is_marked, marks_of}
use Rattle.am_model.specs.declared.group.GroupName.{GroupName}

-- what is left to put has its capacity, the marks stay, and with what is left the groups are those asked for
abbrev pub invariant-loop-placement : goal.invariant-loop-placement
invariant-loop-placement l = record {
  spare : vec_len l.placements ≤ l.groups.space;
  space : HaveSpace l.groups.items l.placements.items;
  ready : All IsEmptyWithSpace l.placements.items;
  found : AreFound l.groups.items l.placements.items;
  apart : AreApart l.placements.items;
  routed : (tree : RoutingTree) → AreRouted tree (names_of l.fn.groups.items) → AreRoutedPlacements tree l.fn.placements.items → AreRouted tree (names_of l.groups.items) × AreRoutedPlacements tree l.placements.items;
  marks : (name : GroupName) → is_marked (marks_of l.groups.items) name ≡ is_marked (marks_of l.fn.groups.items) name;
  state : (config : Config) (m : MemberState) → l.t ≤ MAX_TIME → All (IsPlacementOf config.routes m) l.fn.placements.items → All (IsPlacementOf config.routes m) l.placements.items × (fold (put_into_group config l.t m) (map group_state l.groups.items) (map (λ p. p.name) (reverse l.placements.items)) ≡ fold (put_into_group config l.t m) (map group_state l.fn.groups.items) (map (λ p. p.name) l.fn.placements.items));
}

abbrev pub decreases-loop-placement : goal.decreases-loop-placement
decreases-loop-placement l = vec_len l.placements

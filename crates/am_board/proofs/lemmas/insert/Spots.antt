-- A group and an alert in it that are where they are looked for are the ones that a look-up finds.
use Rattle.std.proofs.Common.{◌≡◌, ◌<◌, true, Some, List, length, get_or, sym, ap, ◌∙◌}
use Rattle.std.specs.List.{IsDistinct}
use Rattle.std.proofs.lemmas.List.{get_or_default}
use Rattle.am_alerts.specs.declared.labels.Label.{Label}
use Rattle.am_model.proofs.states.Alike.{same_name_equiv}
use Rattle.am_model.specs.State.{same_name}
use Rattle.am_model.specs.declared.group.GroupName.{GroupName}
use Rattle.am_board.specs.Again.{IsSpot}
use Rattle.am_board.specs.Group.{names_of}
use Rattle.am_board.specs.Members.{index_of}
use Rattle.am_board.specs.declared.again.Spot.{Spot}
use Rattle.am_board.specs.declared.group.Group.{Group}
use Rattle.am_board.proofs.lemmas.invariant.Alone.{found_value}

pub is_spot : (groups : List Group) (name : GroupName) (labels : List Label) (spot : Spot) (g : Group) → IsDistinct same_name (names_of groups) → spot.group < length groups → g ≡ get_or groups spot.group g
    → same_name name g.name ≡ true → index_of labels g.members.items ≡ Some spot.member → IsSpot groups name labels spot
is_spot groups name labels spot g distinct within at named found =
    record {
      group = found_value same_name same_name_equiv (λ (h : Group). h.name) name groups spot.group g distinct within at named;
      within = within;
      member = λ d. ap (λ (h : Group). index_of labels h.members.items) (get_or_default groups spot.group d g within ∙ sym at) ∙ found;
    }

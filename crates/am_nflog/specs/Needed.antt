-- Whether an integration needs an update about a group.
use Rattle.std.specs.Prelude.{◌≡◌, ℕ, ◌+◌, Bool, true, false, not, ◌&&◌, nat_lt, List, ◌++◌, [], Option, None, Some, IsTrue, map}
use Rattle.std.specs.Prelude.{if◌then◌else◌}
use Rattle.am_nflog.specs.Members.{is_empty, is_member, is_subset, AreSameSet}
use Rattle.am_nflog.specs.declared.row.LogRow.{LogRow}
use Rattle.am_nflog.specs.declared.update.UpdateReason.{UpdateReason}
use Rattle.am_nflog.specs.declared.update.UpdateReason.TheVariants.{FirstNotice, NewAlert, AllResolved, NewlyResolved, Repeat}
use Rattle.am_nflog.specs.declared.update.UpdateReason.TheVariants.{NothingFiring}
use Rattle.am_nflog.specs.declared.update.UpdateReason.TheVariants.{NotYet}

-- whether an update is needed for a reason
abbrev pub is_update : UpdateReason → Bool
is_update FirstNotice = true
is_update NewAlert = true
is_update AllResolved = true
is_update NewlyResolved = true
is_update Repeat = true
is_update NothingFiring = false
is_update (NotYet since) = false

-- the reason without a row
abbrev pub reason_unlogged : {N : Type 0} → List N → UpdateReason
reason_unlogged firing = if is_empty firing then NothingFiring else FirstNotice

-- the reason by a row where no alert fires
abbrev pub reason_ended : {N : Type 0} → LogRow N → UpdateReason
reason_ended row = if is_empty row.firing then NothingFiring else AllResolved

-- Why an update is needed or not, where these alerts fire and those are resolved: the first line that applies decides.
-- It restates `needsUpdate` of Alertmanager's DedupStage.
abbrev pub update_reason : {N : Type 0} → (N → N → Bool) → Option (LogRow N) → List N → List N → Bool → ℕ → ℕ → UpdateReason
-- without a row: if any alert fires
update_reason eq None firing resolved send_resolved repeat t = reason_unlogged firing
update_reason eq (Some row) firing resolved send_resolved repeat t =
    -- an alert fires that the row doesn't have as firing
    if not (is_subset eq firing row.firing) then NewAlert
    -- none fires any more: if any did
    else if is_empty firing then reason_ended row
    -- resolved alerts are sent, and one is resolved that the row doesn't have as resolved
    else if send_resolved && not (is_subset eq resolved row.resolved) then NewlyResolved
    -- the row is older than the repeat interval
    else if nat_lt (row.time + repeat) t then Repeat
    else NotYet row.time

-- an update is needed: there is a reason for it
abbrev pub needed : {N : Type 0} → (N → N → Bool) → Option (LogRow N) → List N → List N → Bool → ℕ → ℕ → Bool
needed eq logged firing resolved send_resolved repeat t = is_update (update_reason eq logged firing resolved send_resolved repeat t)

-- the members of a row, firing and resolved
abbrev pub members_of : {N : Type 0} → Option (LogRow N) → List N
members_of None = []
members_of (Some row) = row.firing ++ row.resolved

module _ {M N : Type 0} (same : M → M → Bool) (equal : N → N → Bool) where
  -- the numbers of these members are equal exactly where the members are the same
  abbrev pub IsOneToOne : (M → N) → List M → Type 0
  IsOneToOne number xs =
      (x y : M) → IsTrue (is_member same x xs) → IsTrue (is_member same y xs) → equal (number x) (number y) ≡ same x y

  -- ys is the set of the numbers of xs
  abbrev pub AreNumbersOf : (M → N) → List M → List N → Type 0
  AreNumbersOf number xs ys = AreSameSet equal ys (map number xs)

  -- no row if there is none; else a row of the same time with the numbers of the members
  abbrev pub IsNumberedRow : (M → N) → Option (LogRow M) → Option (LogRow N) → Type 0
  IsNumberedRow number None None = Unit {0}
  IsNumberedRow number None (Some numbered) = ⊥
  IsNumberedRow number (Some row) None = ⊥
  IsNumberedRow number (Some row) (Some numbered) =
      (numbered.time ≡ row.time) × AreNumbersOf number row.firing numbered.firing × AreNumbersOf number row.resolved numbered.resolved

  -- Under a one-to-one numbering of the members an update is needed at the numbers exactly where it is at the members.
  abbrev pub NumberingKeepsNeeded : Type 0
  NumberingKeepsNeeded =
      (number : M → N) (row : Option (LogRow M)) (numbered : Option (LogRow N))
      (firing resolved : List M) (firing_numbers resolved_numbers : List N)
      (send_resolved : Bool) (repeat t : ℕ)
      → IsOneToOne number (members_of row ++ firing ++ resolved)
      → IsNumberedRow number row numbered
      → AreNumbersOf number firing firing_numbers
      → AreNumbersOf number resolved resolved_numbers
      → needed equal numbered firing_numbers resolved_numbers send_resolved repeat t
      ≡ needed same row firing resolved send_resolved repeat t

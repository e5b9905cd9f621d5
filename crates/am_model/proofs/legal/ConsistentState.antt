-- A consistent state, in the form that goes by recursion along its lists.
use Rattle.std.proofs.Common.{◌≡◌, ℕ, ◌<◌, ◌≤◌, Bool, true, false, not, List, refl, sym, ap, ◌∙◌}
use Rattle.std.specs.Prelude.{IsTrue, All}
use Rattle.std.specs.List.{AllByRecursion, IsDistinct}
use Rattle.am_alerts.specs.declared.limits.TheConstants.{MAX_TIME}
use Rattle.am_nflog.specs.Members.{is_empty}
use Rattle.am_model.specs.Finish.{same_key}
use Rattle.am_model.specs.Insert.{same_alert, same_member, same_group}
use Rattle.am_model.specs.Laws.{same_flushed, same_number, same_notified, IsHeld, IsConsistent}
use Rattle.am_model.specs.State.{MemberState, GroupState, FlushState, State, members_in}
use Rattle.am_model.specs.Maintenance.{same_silence}
use Rattle.am_model.proofs.legal.ConsistentGroups.{IsAlive, members_of-in}
use Rattle.am_model.proofs.lists.Distinct.{all_from, all_to, all-weaker, all-both}

-- a group's alerts differ, and none has a later stamp
pub record IsTidy (inserts : ℕ) (g : GroupState) : Type 0 where
  pub members : IsDistinct same_member g.members
  pub stamps : AllByRecursion (λ m. m.stamp ≤ inserts) g.members

-- an open flush among these groups, before this number
pub record IsOpen (next_number : ℕ) (groups : List GroupState) (f : FlushState) : Type 0 where
  pub number : f.number < next_number
  pub notified : is_empty f.notified ≡ false
  pub each_once : IsDistinct same_notified f.notified
  pub alive : IsAlive groups f.group

-- a consistent state
pub record IsSteady (s : State) : Type 0 where
  pub clock : s.clock ≤ MAX_TIME
  pub known : IsDistinct same_alert s.known
  pub groups : IsDistinct same_group s.groups
  pub tidy : AllByRecursion (IsTidy s.inserts) s.groups
  pub silences : IsDistinct same_silence s.silences
  pub rows : IsDistinct same_key s.rows
  pub flushes : IsDistinct same_flushed s.flushes
  pub numbers : IsDistinct same_number s.flushes
  pub opened : AllByRecursion (IsOpen s.next_number s.groups) s.flushes

some_from : (b : Bool) → b ≡ false → IsTrue (not b)
some_from true e = absurd (cc)
some_from false e = refl

some_to : (b : Bool) → IsTrue (not b) → b ≡ false
some_to true h = absurd (cc)
some_to false h = refl

held_from : (s : State) (f : FlushState) → IsOpen s.next_number s.groups f → IsHeld s f
held_from s f h =
    record {
      number = h.number;
      notified = some_from (is_empty f.notified) h.notified;
      each_once = h.each_once;
      alive = some_from (is_empty (members_in s.groups f.group)) (ap is_empty (members_of-in s.groups f.group) ∙ h.alive);
    }

held_to : (s : State) (f : FlushState) → IsHeld s f → IsOpen s.next_number s.groups f
held_to s f h =
    record {
      number = h.number;
      notified = some_to (is_empty f.notified) h.notified;
      each_once = h.each_once;
      alive = ap is_empty (sym (members_of-in s.groups f.group)) ∙ some_to (is_empty (members_in s.groups f.group)) h.alive;
    }

pub consistent_from : (s : State) → IsSteady s → IsConsistent s
consistent_from s h =
    record {
      clock = h.clock;
      known = h.known;
      groups = h.groups;
      members = all_from (λ g. IsDistinct same_member g.members) s.groups (all-weaker (IsTidy s.inserts) (λ g. IsDistinct same_member g.members) (λ g k. k.members) s.groups h.tidy);
      stamps =
          let P : GroupState → Type 0 = λ g. All (λ m. m.stamp ≤ s.inserts) g.members in
          all_from P s.groups (all-weaker (IsTidy s.inserts) P (λ g k. all_from (λ (m : MemberState). m.stamp ≤ s.inserts) g.members k.stamps) s.groups h.tidy);
      silences = h.silences;
      rows = h.rows;
      flushes = h.flushes;
      numbers = h.numbers;
      held = all_from (IsHeld s) s.flushes (all-weaker (IsOpen s.next_number s.groups) (IsHeld s) (held_from s) s.flushes h.opened);
    }

pub consistent_to : (s : State) → IsConsistent s → IsSteady s
consistent_to s h =
    let P : GroupState → Type 0 = λ g. IsDistinct same_member g.members in
    let Q : GroupState → Type 0 = λ g. All (λ m. m.stamp ≤ s.inserts) g.members in
    record {
      clock = h.clock;
      known = h.known;
      groups = h.groups;
      tidy =
          all-both P Q (IsTidy s.inserts)
          (λ g members stamps. record { members = members; stamps = all_to (λ (m : MemberState). m.stamp ≤ s.inserts) g.members stamps })
          s.groups (all_to P s.groups h.members) (all_to Q s.groups h.stamps);
      silences = h.silences;
      rows = h.rows;
      flushes = h.flushes;
      numbers = h.numbers;
      opened = all-weaker (IsHeld s) (IsOpen s.next_number s.groups) (held_to s) s.flushes (all_to (IsHeld s) s.flushes h.held);
    }

-- An insert or a silence keeps a state consistent.
use Rattle.std.proofs.Common.{◌≡◌, ℕ, ◌≤◌, Bool, true, false, cond, Some, None, List, [], ◌∷◌, refl, arith}
use Rattle.std.specs.Prelude.{find, fold, unwrap_or}
use Rattle.std.specs.List.{AllByRecursion, IsDistinct}
use Rattle.am_alerts.specs.AlertData.{AlertData}
use Rattle.am_alerts.specs.declared.limits.TheConstants.{MAX_TIME}
use Rattle.am_mute.specs.Silence.{SilenceData}
use Rattle.am_nflog.specs.Members.{is_empty}
use Rattle.am_model.specs.declared.config.Config.{Config}
use Rattle.am_model.specs.declared.group.GroupName.{GroupName}
use Rattle.am_model.specs.Insert.{same_alert, same_member, same_group, names_for, next_stamp, new_group, group_or_new, group_with, put_into_group, groups_with, after_insert}
use Rattle.am_model.specs.Lists.{upsert}
use Rattle.am_model.specs.State.{MemberState, GroupState, State, is_named}
use Rattle.am_model.specs.Maintenance.{same_silence, after_silence}
use Rattle.am_model.proofs.lists.Words.{all-upsert, IsDistinct-upsert}
use Rattle.am_model.proofs.legal.ConsistentGroups.{IsAlive, alive-upsert}
use Rattle.am_model.proofs.lists.Distinct.{IsDistinct-nil, all-find, all-weaker}
use Rattle.am_model.proofs.legal.ConsistentState.{IsTidy, IsOpen, IsSteady}
use Rattle.am_model.proofs.states.Alike.{same_alert_equiv, same_group_equiv, same_member_equiv, same_silence_equiv}

-- a list that something was put into isn't empty
upsert-some : {X : Type 0} (like : X → X → Bool) (x : X) (xs : List X) → is_empty (upsert like x xs) ≡ false
upsert-some like x [] = refl
upsert-some like x (y ∷ ys) = elim (like x y) as (λ b. is_empty (cond b (x ∷ ys) (y ∷ upsert like x ys)) ≡ false) [ true ↦ refl | false ↦ refl ]

module _ (config : Config) (t : ℕ) (m : MemberState) where
  -- a group with a member more
  tidy-with : (n : ℕ) (g : GroupState) → m.stamp ≤ n → IsTidy n g → IsTidy n (group_with config t m g)
  tidy-with n g least h =
      record {
        members = IsDistinct-upsert same_member same_member_equiv m g.members h.members;
        stamps = all-upsert same_member m (λ k. k.stamp ≤ n) g.members least h.stamps;
      }

  -- the group of a name, made if it is missing
  tidy-or_new : (n : ℕ) (gs : List GroupState) (name : GroupName) → AllByRecursion (IsTidy n) gs → IsTidy n (group_or_new config t gs name)
  tidy-or_new n gs name all =
      elim (find (is_named name) gs) as (λ o. find (is_named name) gs ≡ o → IsTidy n (unwrap_or o (new_group config t name))) [
        | None ↦ λ e. record { members = IsDistinct-nil same_member; stamps = tt }
        | Some g ↦ λ e. all-find (IsTidy n) (is_named name) g gs all e
      ] refl

  tidy-into : (n : ℕ) (gs : List GroupState) (name : GroupName) → m.stamp ≤ n → AllByRecursion (IsTidy n) gs → AllByRecursion (IsTidy n) (put_into_group config t m gs name)
  tidy-into n gs name least all =
      let g = group_or_new config t gs name in
      all-upsert same_group (group_with config t m g) (IsTidy n) gs (tidy-with n g least (tidy-or_new n gs name all)) all

  alive-into : (gs : List GroupState) (name other : GroupName) → IsAlive gs other → IsAlive (put_into_group config t m gs name) other
  alive-into gs name other alive =
      let g = group_or_new config t gs name in
      alive-upsert other (group_with config t m g) gs (upsert-some same_member m g.members) alive

  -- the same through the groups of each name
  distinct-each : (names : List GroupName) (gs : List GroupState) → IsDistinct same_group gs → IsDistinct same_group (fold (put_into_group config t m) gs names)
  distinct-each [] gs h = h
  distinct-each (name ∷ names) gs h =
      distinct-each names (put_into_group config t m gs name) (IsDistinct-upsert same_group same_group_equiv (group_with config t m (group_or_new config t gs name)) gs h)

  tidy-each : (n : ℕ) (names : List GroupName) (gs : List GroupState) → m.stamp ≤ n → AllByRecursion (IsTidy n) gs → AllByRecursion (IsTidy n) (fold (put_into_group config t m) gs names)
  tidy-each n [] gs least all = all
  tidy-each n (name ∷ names) gs least all = tidy-each n names (put_into_group config t m gs name) least (tidy-into n gs name least all)

  alive-each : (other : GroupName) (names : List GroupName) (gs : List GroupState) → IsAlive gs other → IsAlive (fold (put_into_group config t m) gs names) other
  alive-each other [] gs alive = alive
  alive-each other (name ∷ names) gs alive = alive-each other names (put_into_group config t m gs name) (alive-into gs name other alive)

-- stamps that no later insert gave stay so
tidy-later : (n k : ℕ) (g : GroupState) → n ≤ k → IsTidy n g → IsTidy k g
tidy-later n k g more h =
    record {
      members = h.members;
      stamps = all-weaker (λ (m : MemberState). m.stamp ≤ n) (λ m. m.stamp ≤ k) (λ m least. omega (arith, least, more)) g.members h.stamps;
    }

pub steady_insert : (config : Config) (s : State) (t : ℕ) (a : AlertData) → t ≤ MAX_TIME → IsSteady s → IsSteady (after_insert config s t a)
steady_insert config s t a within h =
    let m : MemberState = record { alert = a; stamp = next_stamp s } in
    let names = names_for config a.labels in
    let older = all-weaker (IsTidy s.inserts) (IsTidy (next_stamp s)) (λ g k. tidy-later s.inserts (next_stamp s) g (omega arith) k) s.groups h.tidy in
    record {
      clock = within;
      known = IsDistinct-upsert same_alert same_alert_equiv a s.known h.known;
      groups = distinct-each config t m names s.groups h.groups;
      tidy = tidy-each config t m (next_stamp s) names s.groups (omega arith) older;
      silences = h.silences;
      rows = h.rows;
      flushes = h.flushes;
      numbers = h.numbers;
      opened =
          all-weaker (IsOpen s.next_number s.groups) (IsOpen s.next_number (groups_with config t m s.groups))
          (λ f k. record { number = k.number; notified = k.notified; each_once = k.each_once; alive = alive-each config t m f.group names s.groups k.alive })
          s.flushes h.opened;
    }

pub steady_silence : (s : State) (t : ℕ) (silence : SilenceData) → t ≤ MAX_TIME → IsSteady s → IsSteady (after_silence s t silence)
steady_silence s t silence within h =
    record {
      clock = within;
      known = h.known;
      groups = h.groups;
      tidy = h.tidy;
      silences = IsDistinct-upsert same_silence same_silence_equiv silence s.silences h.silences;
      rows = h.rows;
      flushes = h.flushes;
      numbers = h.numbers;
      opened = h.opened;
    }

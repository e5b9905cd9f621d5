-- What a call leaves of the group of a name: what holds of it before holds after, if putting an alert in, beginning and leaving keep it.
use Rattle.std.proofs.Common.{◌≡◌, ℕ, Bool, true, false, cond, Option, Some, None, List, [], ◌∷◌, refl, sym, ap, ◌∙◌, subst}
use Rattle.std.specs.Prelude.{find, fold, unwrap_or}
use Rattle.std.specs.List.{IsDistinct}
use Rattle.am_model.specs.declared.config.Config.{Config}
use Rattle.am_model.specs.declared.config.Integration.{Integration}
use Rattle.am_model.specs.declared.group.GroupName.{GroupName}
use Rattle.am_model.specs.declared.record.Call.{Call}
use Rattle.am_model.specs.declared.record.Record.{Record}
use Rattle.am_model.specs.declared.record.Reply.{Reply}
use Rattle.am_model.specs.Begin.{begun_group, without_resolved, after_notifying}
use Rattle.am_model.specs.Finish.{finished_group, leaves_by}
use Rattle.am_model.specs.Insert.{same_group, new_group, group_or_new, group_with, put_into_group, names_for, next_stamp}
use Rattle.am_model.specs.Lists.{without, changed_where}
use Rattle.am_model.specs.Maintenance.{has_no_alerts}
use Rattle.am_model.specs.Records.{now_of}
use Rattle.am_model.specs.Replay.{reply, after_call}
use Rattle.am_model.specs.State.{MemberState, GroupState, State, is_named, same_name, time}
use Rattle.am_model.specs.look_back.Past.{time_at}
use Rattle.am_alerts.specs.AlertData.{is_resolved}
use Rattle.am_model.proofs.legal.BoundedAlerts.{named-or_new}
use Rattle.am_model.proofs.legal.EachCall.{HoldsOfEach, each_call}
use Rattle.am_model.proofs.looking_back.Pasts.{state_after, IsLegalPast}
use Rattle.am_model.proofs.looking_back.PastWords.{unless, find-put, find-without}
use Rattle.am_model.proofs.looking_back.alerts.FoundAlerts.{steady_past, finds_past}
use Rattle.am_model.proofs.looking_back.alerts.FoundSteps.{clock-step}
use Rattle.am_model.proofs.states.Alike.{same_name_equiv, same_name-is}

-- it holds of a group, if there is one
abbrev pub Has : (GroupState → Type 0) → Option GroupState → Type 0
Has Q None = Unit {0}
Has Q (Some g) = Q g

-- it holds of a group after an alert is put in, after a begin, and after alerts leave, at t
pub record IsKept (config : Config) (Q : GroupState → Type 0) (t : ℕ) : Type 0 where
  pub put : (m : MemberState) (g : GroupState) → Q g → Q (group_with config t m g)
  pub begun : (g : GroupState) → Q (begun_group config t g)
  pub left : (g : GroupState) (ms : List MemberState) → Q g → Q (record g { members = ms })

module _ (config : Config) (name : GroupName) (Q : GroupState → Type 0) where
  -- the group of the name
  abbrev own : List GroupState → Option GroupState
  own gs = find (is_named name) gs

  -- it holds of the group, and of one that is made at t
  record HasOrMade (t : ℕ) (o : Option GroupState) : Type 0 where
    has : Has Q o
    made : o ≡ None → (m : MemberState) → Q (group_with config t m (new_group config t name))

  -- ---- an alert is put in

  module _ (t : ℕ) (k : IsKept config Q t) (m : MemberState) where
    put-own : (o : Option GroupState) → HasOrMade t o → Q (group_with config t m (unwrap_or o (new_group config t name)))
    put-own None h = h.made refl m
    put-own (Some g) h = k.put m g h.has

    put-one : (gs : List GroupState) (n : GroupName) → HasOrMade t (own gs) → HasOrMade t (own (put_into_group config t m gs n))
    put-one gs n h = subst (HasOrMade t) (sym (find-put (is_named name) same_group new sees agrees gs)) (choose (is_named name new) refl)
      where
        new : GroupState
        new = group_with config t m (group_or_new config t gs n)

        sees : (y : GroupState) → same_group new y ≡ true → is_named name y ≡ is_named name new
        sees y e = ap (λ k. same_name name k) (sym (same_name-is new.name y.name e))

        agrees : (y : GroupState) → is_named name new ≡ true → is_named name y ≡ true → same_group new y ≡ true
        agrees y f g = sym (same_name_equiv.congr name new.name y.name f) ∙ g

        choose : (b : Bool) → is_named name new ≡ b → HasOrMade t (cond b (Some new) (own gs))
        choose true e =
            let same : n ≡ name = same_name-is n new.name (named-or_new config t m gs n) ∙ sym (same_name-is name new.name e) in
            record {
              has = subst (λ k. Q (group_with config t m (group_or_new config t gs k))) (sym same) (put-own (own gs) h);
              made = λ none. absurd (cc);
            }
        choose false e = h

    put-all : (ns : List GroupName) (gs : List GroupState) → HasOrMade t (own gs) → HasOrMade t (own (fold (put_into_group config t m) gs ns))
    put-all [] gs h = h
    put-all (n ∷ ns) gs h = put-all ns (put_into_group config t m gs n) (put-one gs n h)

  -- ---- groups change, and some go

  changed : (test : GroupState → Bool) (change : GroupState → GroupState) → ((g : GroupState) → (change g).name ≡ g.name) → ((g : GroupState) → Q g → Q (change g))
      → (gs : List GroupState) → Has Q (own gs) → Has Q (own (changed_where test change gs))
  changed test change named kept [] has = has
  changed test change named kept (g ∷ gs) has =
      let to : GroupState = cond (test g) (change g) g in
      let rest : List GroupState = changed_where test change gs in
      subst (λ n. Has Q (cond (same_name name n) (Some to) (own rest))) (sym (still (test g)))
      (elim (is_named name g) as (λ b. Has Q (cond b (Some g) (own gs)) → Has Q (cond b (Some to) (own rest))) [
        | true ↦ here (test g)
        | false ↦ changed test change named kept gs
      ] has)
    where
      still : (b : Bool) → (cond b (change g) g).name ≡ g.name
      still true = named g
      still false = refl

      here : (b : Bool) → Has Q (Some g) → Has Q (Some (cond b (change g) g))
      here true has = kept g has
      here false has = has

  unless-gone : (gone : GroupState → Bool) (o : Option GroupState) → Has Q o → Has Q (unless gone o)
  unless-gone gone None has = has
  unless-gone gone (Some g) has = elim (gone g) as (λ b. Has Q (cond b None (Some g))) [ true ↦ tt | false ↦ has ]

  removed : (gs : List GroupState) → IsDistinct same_group gs → Has Q (own gs) → Has Q (own (without has_no_alerts gs))
  removed gs apart has =
      subst (Has Q) (sym (find-without (is_named name) same_group (λ g h e f. sym (same_name_equiv.congr name g.name h.name e) ∙ f) has_no_alerts gs apart))
      (unless-gone has_no_alerts (own gs) has)

  -- ---- each call

  module _ (id : ℕ) (s : State) (apart : IsDistinct same_group s.groups) where
    abbrev After : Call → State → Reply → Type 0
    After c new p = IsKept config Q (time s (now_of c)) → HasOrMade (time s (now_of c)) (own s.groups) → Has Q (own new.groups)

    notifying : (t : ℕ) (g : GroupState) (notified : List (ℕ × Integration)) → IsKept config Q t → Has Q (own s.groups) → Has Q (own (after_notifying config s t g notified).groups)
    notifying t g [] k has =
        changed (is_named g.name) (λ h. without_resolved t (begun_group config t h)) (λ h. refl)
        (λ h _. k.left (begun_group config t h) (without (λ m. is_resolved m.alert t) h.members) (k.begun h)) s.groups has
    notifying t g (i ∷ is) k has = changed (is_named g.name) (begun_group config t) (λ h. refl) (λ h _. k.begun h) s.groups has

    each : HoldsOfEach config id s After
    each =
        record {
          insert = λ now a k h. (put-all (time s now) k (record { alert = a; stamp = next_stamp s }) (names_for config a.labels) s.groups h).has;
          silence = λ now number matchers start end k h. h.has;
          nothing = λ now none k h. h.has;
          begin = λ now g is notified are k h. notifying (time s now) g notified k h.has;
          finish = λ now number outcomes f is k h.
              changed (is_named f.group) (finished_group outcomes f) (λ g. refl) (λ g. k.left g (without (leaves_by outcomes f) g.members)) s.groups h.has;
          maintain = λ now k h. removed s.groups apart h.has;
          remove_empty_groups = λ now k h. removed s.groups apart h.has;
          forget = λ now k h. h.has;
          load = λ now row may k h. h.has;
          note = λ now number i outcome f is may k h. h.has;
        }

    call-keeps : (c : Call) (p : Reply) → reply config id s c ≡ Some p → IsKept config Q (time s (now_of c)) → Has Q (own s.groups)
        → (own s.groups ≡ None → (m : MemberState) → Q (group_with config (time s (now_of c)) m (new_group config (time s (now_of c)) name))) → Has Q (own (after_call config s c).groups)
    call-keeps c p returned k has made = each_call config id s After each c p returned k (record { has = has; made = made })

-- ---- each legal past

module _ (config : Config) (id : ℕ) (name : GroupName) where
  -- the group of a name after a past
  abbrev pub group_after : List Record → Option GroupState
  group_after past = find (is_named name) (state_after config past).groups

  -- the call's own time is the record's
  time-is : (r : Record) (past : List Record) → IsLegalPast config id past → time (state_after config past) (now_of r.call) ≡ time_at (r ∷ past)
  time-is r past legal = clock-step config (state_after config past) past (finds_past config id past legal) (now_of r.call) r refl

  pub group-step : (Q : GroupState → Type 0) (r : Record) (past : List Record) → IsLegalPast config id (r ∷ past) → IsKept config Q (time_at (r ∷ past)) → Has Q (group_after past)
      → (group_after past ≡ None → (m : MemberState) → Q (group_with config (time_at (r ∷ past)) m (new_group config (time_at (r ∷ past)) name))) → Has Q (group_after (r ∷ past))
  group-step Q r past legal k has made =
      let same = sym (time-is r past legal.1) in
      call-keeps config name Q id (state_after config past) (steady_past config past).groups r.call r.reply legal.0 (subst (IsKept config Q) same k) has
      (λ none m. subst (λ t. Q (group_with config t m (new_group config t name))) same (made none m))

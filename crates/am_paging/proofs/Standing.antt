-- A group that has an alert, or was begun: it is there, it is due in time, and its open flush and its last finish came in time.
use Rattle.std.proofs.Common.{◌≡◌, ℕ, ◌+◌, ◌≤◌, max, Bool, true, false, cond, not, ◌&&◌, ◌||◌, Option, Some, None, List, [], ◌∷◌, refl, sym, ap, ◌∙◌, subst, arith}
use Rattle.std.specs.Prelude.{find, unwrap_or}
use Rattle.std.specs.List.{list_any, AllByRecursion}
use Rattle.std.specs.Option.{IfSome, option_map}
use Rattle.std.proofs.lemmas.Bool.{false≢true, or_left, or_right}
use Rattle.std.proofs.lemmas.Cmp.{nat_eq_equiv}
use Rattle.am_alerts.specs.declared.labels.Label.{Label}
use Rattle.am_nflog.specs.Members.{is_empty}
use Rattle.am_model.specs.declared.config.Config.{Config}
use Rattle.am_model.specs.declared.group.GroupName.{GroupName}
use Rattle.am_model.specs.declared.record.Call.{Call}
use Rattle.am_model.specs.declared.record.Call.TheVariants.{Insert, Silence, Begin, Finish, Maintain, RemoveEmptyGroups, Forget, Load, Note}
use Rattle.am_model.specs.declared.record.Record.{Record}
use Rattle.am_model.specs.Configured.{route_of}
use Rattle.am_model.specs.Laws.{IsBegunAt}
use Rattle.am_model.specs.State.{MemberState, GroupState, FlushState, is_named, same_name}
use Rattle.am_model.specs.look_back.Entry.{present_in}
use Rattle.am_model.specs.look_back.Interval.{found_empty}
use Rattle.am_model.specs.look_back.Laws.{member_with, number_in, has_open, begun_at, IsOneFlushAtATime}
use Rattle.am_model.specs.look_back.Past.{replay_past, time_at, is_flush_of, is_quiet, is_finish, removes_empty_groups, takes, has_finished}
use Rattle.am_model.specs.look_back.Presence.{presence}
use Rattle.am_model.proofs.legal.Begins.{RespectsIntervals}
use Rattle.am_model.proofs.legal.ConsistentGroups.{members_of, members_of-in, IsAlive}
use Rattle.am_model.proofs.legal.ConsistentState.{IsOpen}
use Rattle.am_model.proofs.lists.Distinct.{all-find, find-passes}
use Rattle.am_model.proofs.looking_back.Pasts.{state_after, IsLegalPast, replay_of_past}
use Rattle.am_model.proofs.looking_back.alerts.AlertSets.{present-found}
use Rattle.am_model.proofs.looking_back.alerts.FoundAlerts.{steady_past, finds_past, members-found}
use Rattle.am_model.proofs.looking_back.flushes.FlushesOnce.{open-group}
use Rattle.am_model.proofs.states.Alike.{same_name-is}
use Rattle.am_paging.specs.InTime.{is_finish_of, ended_at, IsOnTime}
use Rattle.am_paging.proofs.Counted.{empty-found, counts_past}
use Rattle.am_paging.proofs.DueTimes.{IsDueBy}
use Rattle.am_paging.proofs.GroupSteps.{group_after}
use Rattle.am_paging.proofs.OpenFlushes.{open-has}

-- nothing is both
pub never : {X : Type 0} {Y : Type 0} (x : X) → Some x ≡ None → Y
never x e = absurd (cc)

-- of those that pass a test, one is so if each is
pub one-is : {X : Type 0} (test : X → Bool) (Q : Type 0) (xs : List X) → AllByRecursion (λ x. test x ≡ true → Q) xs → list_any test xs ≡ true → Q
one-is test Q [] all e = absurd (false≢true e)
one-is test Q (x ∷ xs) all e = elim (test x) as (λ b. test x ≡ b → (b || list_any test xs) ≡ true → Q) [ true ↦ λ is _. all.0 is | false ↦ λ is rest. one-is test Q xs all.1 rest ] refl e

-- ---- a group that has an alert

module _ (config : Config) (id : ℕ) (name : GroupName) (labels : List Label) where
  -- looking back finds it, so it isn't empty
  pub not-empty : (m : MemberState) (past : List Record) → presence config name labels past ≡ Some m → is_empty (present_in config name past) ≡ false
  not-empty m past there = by (present_in config name past) (present-found config name past labels ∙ there)
    where
      by : (members : List MemberState) → member_with labels members ≡ Some m → is_empty members ≡ false
      by [] e = never m (sym e)
      by (n ∷ members) e = refl

  -- and no record finds it empty
  pub not-found_empty : (m : MemberState) (r : Record) (past : List Record) → presence config name labels past ≡ Some m → found_empty config name r past ≡ false
  not-found_empty m r past there = ap (λ b. removes_empty_groups r.call && b) (not-empty m past there) ∙ none (removes_empty_groups r.call)
    where
      none : (b : Bool) → (b && false) ≡ false
      none true = refl
      none false = refl

  -- it is there
  pub not-missing : (m : MemberState) (past : List Record) → IsLegalPast config id past → presence config name labels past ≡ Some m → group_after config id name past ≡ None → ⊥
  not-missing m past legal there none =
      never m (sym there ∙ sym (members-found config id past legal name labels) ∙ ap (λ (o : Option GroupState). member_with labels (unwrap_or (option_map (λ g. g.members) o) [])) none)

-- ---- a group that was begun, and one that wasn't

-- what is said of a group, by its last begin
abbrev pub IsAsBegun : Config → GroupName → Option ℕ → Option GroupState → Type 0
IsAsBegun config name None None = Unit {0}
IsAsBegun config name None (Some g) = g.flushed ≡ false
IsAsBegun config name (Some u) None = Unit {0}
IsAsBegun config name (Some u) (Some g) = g.due ≡ u + (route_of config name).group_interval

module _ (config : Config) (id : ℕ) (name : GroupName) where
  pub as-begun : (past : List Record) → IsLegalPast config id past → IsAsBegun config name (begun_at config name past) (group_after config id name past)
  as-begun past legal = by (begun_at config name past) (group_after config id name past) refl refl
    where
      groups : List GroupState
      groups = (state_after config past).groups

      keeps : RespectsIntervals config groups (λ n. begun_at config n past)
      keeps = (counts_past config id past legal).keeps

      due : (g : GroupState) → group_after config id name past ≡ Some g → name ≡ g.name → IsBegunAt config g (begun_at config name past)
      due g found own = subst (λ n. IsBegunAt config g (begun_at config n past)) (sym own) (all-find (λ (h : GroupState). IsBegunAt config h (begun_at config h.name past)) (is_named name) g groups keeps.due found)

      by : (last : Option ℕ) (o : Option GroupState) → begun_at config name past ≡ last → group_after config id name past ≡ o → IsAsBegun config name last o
      by None None is found = tt
      by None (Some g) is found =
          let own : name ≡ g.name = same_name-is name g.name (find-passes (is_named name) g groups found) in
          subst (λ last. IsBegunAt config g last) is (due g found own)
      by (Some u) None is found = tt
      by (Some u) (Some g) is found =
          let own : name ≡ g.name = same_name-is name g.name (find-passes (is_named name) g groups found) in
          let begun : IsBegunAt config g (Some u) = subst (λ last. IsBegunAt config g last) is (due g found own) in
          begun.1 ∙ ap (λ n. u + (route_of config n).group_interval) (sym own)

  -- ---- a group with an open flush

  pub alive : (past : List Record) → IsLegalPast config id past → has_open name past ≡ true → is_empty (present_in config name past) ≡ false
  alive past legal opens =
      let s = state_after config past in
      let flushing : list_any (λ (f : FlushState). same_name name f.group) s.flushes ≡ true = sym (open-group config s past (counts_past config id past legal) name) ∙ opens in
      let Q : Type 0 = is_empty (members_of s.groups name) ≡ false in
      let each : AllByRecursion (λ (f : FlushState). same_name name f.group ≡ true → Q) s.flushes =
      all-weak (IsOpen s.next_number s.groups) (λ f. same_name name f.group ≡ true → Q) (λ f o e. subst (λ n. IsAlive s.groups n) (sym (same_name-is name f.group e)) o.alive) s.flushes (steady_past config past).opened in
      sym (ap is_empty (sym (members_of-in s.groups name)) ∙ empty-found config s past (finds_past config id past legal) name) ∙ one-is (λ (f : FlushState). same_name name f.group) Q s.flushes each flushing
    where
      all-weak : {X : Type 0} (P Q : X → Type 0) → ((x : X) → P x → Q x) → (xs : List X) → AllByRecursion P xs → AllByRecursion Q xs
      all-weak P Q imp [] all = tt
      all-weak P Q imp (x ∷ xs) all = (imp x all.0, all-weak P Q imp xs all.1)

  -- a flush that is open after a record that begins none of the group was open before
  open-before : (r : Record) (past : List Record) → takes name r.reply ≡ false → has_open name (r ∷ past) ≡ true → has_open name past ≡ true
  open-before r past other opens = rest past (ap (λ b. (b && not (has_finished (number_in r.reply) (r ∷ past))) || list_any (λ q. is_flush_of name q.reply && not (has_finished (number_in q.reply) (r ∷ past))) past) (sym (none (is_quiet name r.reply) (is_flush_of name r.reply) other)) ∙ opens)
    where
      none : (a b : Bool) → (a || b) ≡ false → b ≡ false
      none true b e = absurd (false≢true (sym e))
      none false b e = e

      one : (a b c : Bool) → (a && not (b || c)) ≡ true → (a && not c) ≡ true
      one true true c e = absurd (false≢true e)
      one true false c e = e
      one false b c e = absurd (false≢true e)

      rest : (qs : List Record) → list_any (λ q. is_flush_of name q.reply && not (has_finished (number_in q.reply) (r ∷ past))) qs ≡ true → list_any (λ q. is_flush_of name q.reply && not (has_finished (number_in q.reply) past)) qs ≡ true
      rest [] e = absurd (false≢true e)
      rest (q ∷ qs) e =
          let later = is_flush_of name q.reply && not (has_finished (number_in q.reply) (r ∷ past)) in
          elim later as (λ b. later ≡ b → (b || list_any (λ q. is_flush_of name q.reply && not (has_finished (number_in q.reply) (r ∷ past))) qs) ≡ true → list_any (λ q. is_flush_of name q.reply && not (has_finished (number_in q.reply) past)) (q ∷ qs) ≡ true) [
            | true ↦ λ is _. or_left (is_flush_of name q.reply && not (has_finished (number_in q.reply) past)) (list_any (λ q. is_flush_of name q.reply && not (has_finished (number_in q.reply) past)) qs) (one (is_flush_of name q.reply) (is_finish (number_in q.reply) r.call) (has_finished (number_in q.reply) past) is)
            | false ↦ λ _ e. or_right (is_flush_of name q.reply && not (has_finished (number_in q.reply) past)) (list_any (λ q. is_flush_of name q.reply && not (has_finished (number_in q.reply) past)) qs) (rest qs e)
          ] refl e

  -- it was begun
  pub open-begun : (past : List Record) → IsLegalPast config id past → has_open name past ≡ true → begun_at config name past ≡ None → ⊥
  open-begun [] legal opens none = false≢true opens
  open-begun (r ∷ past) legal opens none = by (takes name r.reply) refl none (λ before e. open-begun past legal.1 before e)
    where
      and-false : (b : Bool) → (b && false) ≡ false
      and-false true = refl
      and-false false = refl

      by : (b : Bool) → takes name r.reply ≡ b → cond b (Some (time_at (r ∷ past))) (cond (found_empty config name r past) None (begun_at config name past)) ≡ None
          → (has_open name past ≡ true → begun_at config name past ≡ None → ⊥) → ⊥
      by true taken e earlier = never (time_at (r ∷ past)) e
      by false other e earlier =
          let before : has_open name past ≡ true = open-before r past other opens in
          let full : found_empty config name r past ≡ false = ap (λ b. removes_empty_groups r.call && b) (alive past legal.1 before) ∙ and-false (removes_empty_groups r.call) in
          earlier before (sym (ap (λ b. cond b None (begun_at config name past)) full) ∙ e)

  -- a flush of the group that is finished was open
  pub finish-open : (r : Record) (past : List Record) → IsOneFlushAtATime r past → is_finish_of name past r.call ≡ true → has_open name past ≡ true
  finish-open r past once e = by r.call e (λ n h. once.first_finish n h)
    where
      by : (c : Call) → is_finish_of name past c ≡ true → ((n : ℕ) → is_finish n c ≡ true → has_finished n past ≡ false) → has_open name past ≡ true
      by (Insert now alert) e first = absurd (false≢true e)
      by (Silence now n matchers start end) e first = absurd (false≢true e)
      by (Begin now) e first = absurd (false≢true e)
      by (Finish now n outcomes) e first = open-has name n past (first n (nat_eq_equiv.refl n)) past e
      by (Maintain now) e first = absurd (false≢true e)
      by (RemoveEmptyGroups now) e first = absurd (false≢true e)
      by (Forget now) e first = absurd (false≢true e)
      by (Load now row) e first = absurd (false≢true e)
      by (Note now n integration outcome) e first = absurd (false≢true e)

  -- ---- a record that is on time

  -- an end isn't after the last record
  pub ended-before : (past : List Record) → ended_at name past ≤ time_at past
  ended-before [] = omega arith
  ended-before (r ∷ past) =
      let before = ended-before past in
      elim (is_finish_of name past r.call) as (λ b. cond b (time_at (r ∷ past)) (ended_at name past) ≤ time_at (r ∷ past)) [
        | true ↦ omega arith
        | false ↦ omega (arith, before)
      ]

  -- the last end, a record later
  pub ended-step : (most : ℕ) (r : Record) (past : List Record) → ended_at name past ≤ most → (is_finish_of name past r.call ≡ true → time_at (r ∷ past) ≤ most) → ended_at name (r ∷ past) ≤ most
  ended-step most r past before at =
      elim (is_finish_of name past r.call) as (λ b. is_finish_of name past r.call ≡ b → cond b (time_at (r ∷ past)) (ended_at name past) ≤ most) [
        | true ↦ λ e. at e
        | false ↦ λ e. before
      ] refl

  -- on time, by the state after a past
  due-of : (most : ℕ) (r : Record) (past : List Record) → IfSome (find (is_named name) (replay_past config past).groups) (λ g. time_at (r ∷ past) ≤ max g.due (ended_at name past) + most) → IfSome (group_after config id name past) (λ g. time_at (r ∷ past) ≤ max g.due (ended_at name past) + most)
  due-of most r past h = subst (λ s. IfSome (find (is_named name) s.groups) (λ g. time_at (r ∷ past) ≤ max g.due (ended_at name past) + most)) (replay_of_past config past) h

  module _ (slack hold : ℕ) (r : Record) (past : List Record) (legal : IsLegalPast config id past) (on : IsOnTime slack hold config name r past) where
    -- where the group was begun, it comes by its interval, and the hold and the last end
    pub begun-bound : (u e : ℕ) → begun_at config name past ≡ Some u → (group_after config id name past ≡ None → ⊥) → ended_at name past ≤ e → time_at (r ∷ past) ≤ max (u + max (route_of config name).group_interval hold) e + slack
    begun-bound u e begun there ended = by (has_open name past) refl
      where
        idle : (o : Option GroupState) → group_after config id name past ≡ o → IsAsBegun config name (Some u) o → IfSome o (λ g. time_at (r ∷ past) ≤ max g.due (ended_at name past) + slack) → time_at (r ∷ past) ≤ max (u + max (route_of config name).group_interval hold) e + slack
        idle None is known h = absurd (there is)
        idle (Some g) is known h = let due : g.due ≡ u + (route_of config name).group_interval = known in omega (arith, due, h, ended)

        by : (b : Bool) → has_open name past ≡ b → time_at (r ∷ past) ≤ max (u + max (route_of config name).group_interval hold) e + slack
        by true is = let held : time_at (r ∷ past) ≤ u + hold = subst (λ o. IfSome o (λ v. time_at (r ∷ past) ≤ v + hold)) begun (on.ends is) in omega (arith, held)
        by false is = idle (group_after config id name past) refl (subst (λ last. IsAsBegun config name last (group_after config id name past)) begun (as-begun past legal)) (due-of slack r past (on.begins is))

    -- where it wasn't begun, by when it is due, and the last end
    pub new-bound : (by e : ℕ) → begun_at config name past ≡ None → (group_after config id name past ≡ None → ⊥) → IsDueBy by (group_after config id name past) → ended_at name past ≤ e → time_at (r ∷ past) ≤ max by e + slack
    new-bound most e none there due ended = by (has_open name past) refl
      where
        idle : (o : Option GroupState) → group_after config id name past ≡ o → IsAsBegun config name None o → IsDueBy most o → IfSome o (λ g. time_at (r ∷ past) ≤ max g.due (ended_at name past) + slack) → time_at (r ∷ past) ≤ max most e + slack
        idle None is known due h = absurd (there is)
        idle (Some g) is known due h = let up : g.due ≤ most = due known in omega (arith, up, h, ended)

        by : (b : Bool) → has_open name past ≡ b → time_at (r ∷ past) ≤ max most e + slack
        by true is = absurd (open-begun past legal is none)
        by false is = idle (group_after config id name past) refl (subst (λ last. IsAsBegun config name last (group_after config id name past)) none (as-begun past legal)) due (due-of slack r past (on.begins is))

    -- where a flush is open, the hold isn't over
    pub open-bound : (u : ℕ) → begun_at config name past ≡ Some u → has_open name past ≡ true → time_at (r ∷ past) ≤ u + hold
    open-bound u begun opens = subst (λ o. IfSome o (λ v. time_at (r ∷ past) ≤ v + hold)) begun (on.ends opens)

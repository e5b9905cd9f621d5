-- Whoever is due a page from a time on is paged by the latest time and the slack.
use Rattle.std.proofs.Common.{◌≡◌, ℕ, ◌+◌, ◌<◌, ◌≤◌, max, Bool, true, false, cond, not, ◌&&◌, Option, Some, None, ◌⊎◌, inl, inr, List, [], ◌∷◌, refl, sym, ap, ◌∙◌, subst, arith}
use Rattle.std.specs.Prelude.{nat_le}
use Rattle.std.specs.Option.{IfSome, is_none, option_map_or}
use Rattle.std.proofs.lemmas.Bool.{false≢true, and_parts, not-true, leb-true, leb-false}
use Rattle.am_alerts.specs.AlertData.{is_resolved}
use Rattle.am_alerts.specs.declared.labels.Label.{Label}
use Rattle.am_mute.specs.Mute.{is_muted}
use Rattle.am_model.specs.declared.config.Config.{Config}
use Rattle.am_model.specs.declared.group.GroupName.{GroupName}
use Rattle.am_model.specs.declared.record.Record.{Record}
use Rattle.am_model.specs.Configured.{rules_of, route_of, route_muted}
use Rattle.am_model.specs.Insert.{wait_of}
use Rattle.am_model.specs.State.{MemberState}
use Rattle.am_model.specs.look_back.Entry.{known_in, silences_in}
use Rattle.am_model.specs.look_back.Interval.{found_empty}
use Rattle.am_model.specs.look_back.Laws.{EveryLegalHistory, begun_at, IsOneFlushAtATime}
use Rattle.am_model.specs.look_back.Past.{AtEach, past_of, time_at, takes}
use Rattle.am_model.specs.look_back.Presence.{goes_to, last_insert, presence}
use Rattle.am_model.proofs.looking_back.LooksBack.{histories_look_back}
use Rattle.am_model.proofs.looking_back.Pasts.{IsLegalPast, legal_past}
use Rattle.am_paging.specs.InTime.{ended_at, IsOnTime, latest, AtSome, past_until, begun_by, IsDueOnTime, IsBegunFor, PagesComeInTime, WaitsAreBounded}
use Rattle.am_paging.specs.Paging.{is_due_a_page, Pages}
use Rattle.am_paging.proofs.Dropped.{no_page_is_dropped}
use Rattle.am_paging.proofs.DueTimes.{IsDueBy, due-later, due-step, due-within}
use Rattle.am_paging.proofs.GroupSteps.{group_after}
use Rattle.am_paging.proofs.Standing.{not-found_empty, not-missing, open-begun, finish-open, ended-before, ended-step, begun-bound, new-bound, open-bound}
use Rattle.am_paging.proofs.Unresolved.{fires-there}

-- ---- words

-- what is due a page is there
due-there : (config : Config) (name : GroupName) (labels : List Label) (t : ℕ) (past : List Record) → time_at past ≤ t → is_due_a_page config name labels t past ≡ true → (m : MemberState) × (presence config name labels past ≡ Some m)
due-there config name labels t past come due =
    let fires : Bool = option_map_or (λ (m : MemberState). not (is_resolved m.alert t)) (last_insert labels past) false in
    let first = and_parts (goes_to config name labels) (fires && (is_none (route_muted config name t) && not (is_muted labels t (silences_in past) (rules_of config) (known_in past)))) due in
    let second = and_parts fires (is_none (route_muted config name t) && not (is_muted labels t (silences_in past) (rules_of config) (known_in past))) first.1 in
    by (last_insert labels past) refl second.0 first.0
  where
    by : (o : Option MemberState) → last_insert labels past ≡ o → option_map_or (λ (m : MemberState). not (is_resolved m.alert t)) o false ≡ true → goes_to config name labels ≡ true → (m : MemberState) × (presence config name labels past ≡ Some m)
    by None is e goes = absurd (false≢true e)
    by (Some m) is e goes = (m, fires-there config name labels past t m come goes is (not-true (is_resolved m.alert t) e))

-- no record after x takes the group
abbrev IsUnbegun : GroupName → ℕ → Record → List Record → Type 0
IsUnbegun name x r past = x < time_at (r ∷ past) → takes name r.reply ≡ false

none-after : (P : Record → List Record → Type 0) (x : ℕ) (past : List Record) → time_at past ≤ x → AtEach (λ r past. x < time_at (r ∷ past) → P r past) past
none-after P x [] come = tt
none-after P x (r ∷ past) come = (λ after. absurd (omega (arith, come, after)), none-after P x past (omega (arith, come)))

-- ---- a group that wasn't begun after x

-- by when its last flush was finished
abbrev end_by : ℕ → ℕ → Option ℕ → ℕ
end_by hold x None = x
end_by hold x (Some u) = max x (u + hold)

module _ (config : Config) (id : ℕ) (name : GroupName) (labels : List Label) (slack hold x : ℕ) where
  -- what is known of it: it was begun last as at x, is due a wait after x at most where it wasn't begun, and its last end came in time
  record IsStanding (past : List Record) : Type 0 where
    begun : begun_at config name past ≡ begun_at config name (past_until x past)
    due : begun_at config name past ≡ None → IsDueBy (x + wait_of config name) (group_after config id name past)
    ended : ended_at name past ≤ end_by hold x (begun_at config name past)

  at-least : (last : Option ℕ) → x ≤ end_by hold x last
  at-least None = omega arith
  at-least (Some u) = omega arith

  -- at x
  rests-at : (past : List Record) → IsLegalPast config id past → time_at past ≤ x → past_until x past ≡ past → IsStanding past
  rests-at past legal come until =
      let last = ended-before config id name past in
      let least = at-least (begun_at config name past) in
      record {
        begun = ap (begun_at config name) (sym until);
        due = λ none. due-later (time_at past + wait_of config name) (x + wait_of config name) (omega (arith, come)) (group_after config id name past) (due-within config id name past legal);
        ended = omega (arith, last, come, least);
      }

  -- the last end came in time after a record that is on time
  ended-after : (r : Record) (past : List Record) → IsLegalPast config id past → IsOneFlushAtATime r past → IsOnTime slack hold config name r past → (last : Option ℕ) → begun_at config name past ≡ last → ended_at name past ≤ end_by hold x last → ended_at name (r ∷ past) ≤ end_by hold x last
  ended-after r past legal once on None is before =
      ended-step config id name x r past before (λ f. absurd (open-begun config id name past legal (finish-open config id name r past once f) is))
  ended-after r past legal once on (Some u) is before =
      ended-step config id name (max x (u + hold)) r past before
      (λ f. let held : time_at (r ∷ past) ≤ u + hold = open-bound config id name slack hold r past legal on u is (finish-open config id name r past once f) in omega (arith, held))

  rests : (past : List Record) → IsLegalPast config id past → AtEach IsOneFlushAtATime past → AtEach (IsDueOnTime slack hold config name labels x) past → AtEach (IsUnbegun name x) past → IsStanding past
  rests [] legal once due unbegun = rests-at [] legal (omega arith) refl
  rests (r ∷ past) legal once due unbegun = by (nat_le (time_at (r ∷ past)) x) refl (rests past legal.1 once.1 due.1 unbegun.1)
    where
      later : nat_le (time_at (r ∷ past)) x ≡ false → IsStanding past → IsStanding (r ∷ past)
      later is before =
          let after : x < time_at (r ∷ past) = leb-false (time_at (r ∷ past)) x is in
          let now = due.0 after in
          let there = due-there config name labels (time_at (r ∷ past)) past (omega arith) now.1 in
          let until : past_until x (r ∷ past) ≡ past_until x past = ap (λ b. cond b (r ∷ past) (past_until x past)) is in
          let same : begun_at config name (r ∷ past) ≡ begun_at config name past =
          ap (λ b. cond b (Some (time_at (r ∷ past))) (cond (found_empty config name r past) None (begun_at config name past))) (unbegun.0 after)
          ∙ ap (λ b. cond b None (begun_at config name past)) (not-found_empty config id name labels there.0 r past there.1) in
          record {
            begun = same ∙ before.begun ∙ sym (ap (begun_at config name) until);
            due = λ none.
                due-step config id name (x + wait_of config name) r past legal (before.due (sym same ∙ none)) (λ missing. absurd (not-missing config id name labels there.0 past legal.1 there.1 missing));
            ended = subst (λ last. ended_at name (r ∷ past) ≤ end_by hold x last) (sym same) (ended-after r past legal.1 once.0 now.0 (begun_at config name past) refl before.ended);
          }

      by : (b : Bool) → nat_le (time_at (r ∷ past)) x ≡ b → IsStanding past → IsStanding (r ∷ past)
      by true is before = rests-at (r ∷ past) legal (leb-true (time_at (r ∷ past)) x is) (ap (λ b. cond b (r ∷ past) (past_until x past)) is)
      by false is before = later is before

  -- so a record after x that is on time comes by the latest time and the slack
  bound : (r : Record) (past : List Record) → IsLegalPast config id past → AtEach IsOneFlushAtATime past → x < time_at (r ∷ past) → AtEach (IsDueOnTime slack hold config name labels x) (r ∷ past) → AtEach (IsUnbegun name x) past
      → time_at (r ∷ past) ≤ begun_by config name hold x past + slack
  bound r past legal once after due unbegun =
      by (begun_at config name past) refl (rests past legal once due.1 unbegun)
    where
      on : IsOnTime slack hold config name r past
      on = (due.0 after).0

      by : (last : Option ℕ) → begun_at config name past ≡ last → IsStanding past → time_at (r ∷ past) ≤ begun_by config name hold x past + slack
      by None is standing =
          let there = due-there config name labels (time_at (r ∷ past)) past (omega arith) (due.0 after).1 in
          let ended : ended_at name past ≤ x = subst (λ last. ended_at name past ≤ end_by hold x last) is standing.ended in
          let most = new-bound config id name slack hold r past legal on (x + wait_of config name) x is (not-missing config id name labels there.0 past legal there.1) (standing.due is) ended in
          subst (λ last. time_at (r ∷ past) ≤ max x (latest config name hold x last) + slack) (sym is ∙ standing.begun) (omega (arith, most))
      by (Some u) is standing =
          let there = due-there config name labels (time_at (r ∷ past)) past (omega arith) (due.0 after).1 in
          let ended : ended_at name past ≤ max x (u + hold) = subst (λ last. ended_at name past ≤ end_by hold x last) is standing.ended in
          let most = begun-bound config id name slack hold r past legal on u (max x (u + hold)) is (not-missing config id name labels there.0 past legal there.1) ended in
          subst (λ last. time_at (r ∷ past) ≤ max x (latest config name hold x last) + slack) (sym is ∙ standing.begun) (omega (arith, most))

  -- ---- a group is begun after x, or it isn't

  abbrev IsPaged : ℕ → List Record → Type 0
  IsPaged by past = AtSome (IsBegunFor config name labels x by) past

  abbrev by_then : List Record → ℕ
  by_then past = begun_by config name hold x past + slack

  paged : (past : List Record) → IsLegalPast config id past → AtEach IsOneFlushAtATime past → AtEach (Pages config) past → AtEach (IsDueOnTime slack hold config name labels x) past → AtEach (IsUnbegun name x) past ⊎ IsPaged (by_then past) past
  paged [] legal once reached due = inl tt
  paged (r ∷ past) legal once reached due = by (nat_le (time_at (r ∷ past)) x) refl (paged past legal.1 once.1 reached.1 due.1)
    where
      choose : nat_le (time_at (r ∷ past)) x ≡ false → AtEach (IsUnbegun name x) past → (b : Bool) → takes name r.reply ≡ b → AtEach (IsUnbegun name x) (r ∷ past) ⊎ IsPaged (by_then past) (r ∷ past)
      choose is unbegun true taken =
          let after : x < time_at (r ∷ past) = leb-false (time_at (r ∷ past)) x is in
          inr (inl (record {
            taken = taken;
            after = after;
            in_time = bound r past legal.1 once.1 after due unbegun;
            reached = reached.0 name labels taken (due.0 after).1;
          }))
      choose is unbegun false other = inl (λ after. other, unbegun)

      by : (b : Bool) → nat_le (time_at (r ∷ past)) x ≡ b → AtEach (IsUnbegun name x) past ⊎ IsPaged (by_then past) past → AtEach (IsUnbegun name x) (r ∷ past) ⊎ IsPaged (by_then (r ∷ past)) (r ∷ past)
      by true is before = inl (none-after (λ r past. takes name r.reply ≡ false) x (r ∷ past) (leb-true (time_at (r ∷ past)) x is))
      by false is before =
          let until : past_until x past ≡ past_until x (r ∷ past) = sym (ap (λ b. cond b (r ∷ past) (past_until x past)) is) in
          subst (λ p. AtEach (IsUnbegun name x) (r ∷ past) ⊎ IsPaged (max x (latest config name hold x (begun_at config name p)) + slack) (r ∷ past)) until
          (elim before as (λ _. AtEach (IsUnbegun name x) (r ∷ past) ⊎ IsPaged (by_then past) (r ∷ past)) [
            | inl unbegun ↦ choose is unbegun (takes name r.reply) refl
            | inr some ↦ inr (inr some)
          ])

  -- and a record later than the bound comes after one that pages
  pub paged-before : (past : List Record) → IsLegalPast config id past → AtEach IsOneFlushAtATime past → AtEach (Pages config) past → AtEach (IsDueOnTime slack hold config name labels x) past → by_then past < time_at past → IsPaged (by_then past) past
  paged-before [] legal once reached due late = absurd (omega (arith, late))
  paged-before (r ∷ past) legal once reached due late = by (paged (r ∷ past) legal once reached due)
    where
      by : AtEach (IsUnbegun name x) (r ∷ past) ⊎ IsPaged (by_then (r ∷ past)) (r ∷ past) → IsPaged (by_then (r ∷ past)) (r ∷ past)
      by (inr some) = some
      by (inl unbegun) =
          let after : x < time_at (r ∷ past) = omega (arith, late) in
          let until : past_until x (r ∷ past) ≡ past_until x past = ap (λ b. cond b (r ∷ past) (past_until x past)) (later (nat_le (time_at (r ∷ past)) x) refl after) in
          let most : time_at (r ∷ past) ≤ begun_by config name hold x past + slack = bound r past legal.1 once.1 after due unbegun.1 in
          let lates : begun_by config name hold x past + slack < time_at (r ∷ past) = subst (λ p. max x (latest config name hold x (begun_at config name p)) + slack < time_at (r ∷ past)) until late in
          absurd (omega (arith, most, lates))
        where
          later : (b : Bool) → nat_le (time_at (r ∷ past)) x ≡ b → x < time_at (r ∷ past) → b ≡ false
          later true is after = let come : time_at (r ∷ past) ≤ x = leb-true (time_at (r ∷ past)) x is in absurd (omega (arith, come, after))
          later false is after = refl

pub pages_come_in_time : EveryLegalHistory PagesComeInTime
pages_come_in_time config id history legal slack hold x name labels due late =
    paged-before config id name labels slack hold x (past_of history) (legal_past config id history legal) (histories_look_back config id history legal).once (no_page_is_dropped config id history legal) due late

-- ---- the bound

-- the last begin isn't after the last record
begun-before : (config : Config) (name : GroupName) (past : List Record) → IfSome (begun_at config name past) (λ u. u ≤ time_at past)
begun-before config name [] = tt
begun-before config name (r ∷ past) = by (begun-before config name past) (takes name r.reply) (found_empty config name r past)
  where
    earlier : (o : Option ℕ) → IfSome o (λ u. u ≤ time_at past) → IfSome o (λ u. u ≤ time_at (r ∷ past))
    earlier None h = tt
    earlier (Some u) h = let up : u ≤ time_at past = h in omega (arith, up)

    by : IfSome (begun_at config name past) (λ u. u ≤ time_at past) → (taken empty : Bool) → IfSome (cond taken (Some (time_at (r ∷ past))) (cond empty None (begun_at config name past))) (λ u. u ≤ time_at (r ∷ past))
    by before true empty = omega arith
    by before false true = tt
    by before false false = earlier (begun_at config name past) before

until-before : (x : ℕ) (past : List Record) → time_at (past_until x past) ≤ x
until-before x [] = omega arith
until-before x (r ∷ past) =
    elim (nat_le (time_at (r ∷ past)) x) as (λ b. nat_le (time_at (r ∷ past)) x ≡ b → time_at (cond b (r ∷ past) (past_until x past)) ≤ x) [
      | true ↦ λ is. leb-true (time_at (r ∷ past)) x is
      | false ↦ λ is. until-before x past
    ] refl

pub waits_are_bounded : WaitsAreBounded
waits_are_bounded config name hold x past = by (begun_at config name (past_until x past)) (begun-before config name (past_until x past))
  where
    by : (o : Option ℕ) → IfSome o (λ u. u ≤ time_at (past_until x past)) → max x (latest config name hold x o) ≤ x + max (wait_of config name) (max (route_of config name).group_interval hold)
    by None h = omega arith
    by (Some u) h = let up : u ≤ time_at (past_until x past) = h in let before = until-before x past in omega (arith, up, before)

-- From a flush that notifies an integration on: until the integration hears, a flush of the group is open that notifies it, or the group is due
-- again soon.
use Rattle.std.proofs.Common.{◌≡◌, ℕ, ◌+◌, ◌<◌, ◌≤◌, max, Bool, true, false, cond, not, ◌&&◌, ◌||◌, Option, Some, None, ◌⊎◌, inl, inr, List, [], ◌∷◌, length, refl, sym, ap, ◌∙◌, subst, arith}
use Rattle.std.specs.Prelude.{◌==◌, find}
use Rattle.std.specs.List.{list_all, list_any}
use Rattle.std.specs.Option.{IfSome, is_none, option_map_or}
use Rattle.std.proofs.lemmas.Bool.{false≢true, and_from, and_parts, eqb-true, ne_eqb, not-true, or_left, or_right}
use Rattle.std.proofs.lemmas.Cmp.{nat_eq_equiv}
use Rattle.am_alerts.specs.AlertData.{AlertData, is_resolved}
use Rattle.am_alerts.specs.declared.labels.Label.{Label}
use Rattle.am_mute.specs.Mute.{is_muted}
use Rattle.am_retry.specs.declared.outcome.Outcome.{Outcome}
use Rattle.am_model.specs.declared.config.Config.{Config}
use Rattle.am_model.specs.declared.group.GroupName.{GroupName}
use Rattle.am_model.specs.declared.notice.TheConstants.{MIN_FLUSH_TIMEOUT}
use Rattle.am_model.specs.declared.record.Call.{Call}
use Rattle.am_model.specs.declared.record.Call.TheVariants as call
use Rattle.am_model.specs.declared.record.Record.{Record}
use Rattle.am_model.specs.declared.record.Reply.{Reply}
use Rattle.am_model.specs.declared.record.Reply.TheVariants as reply
use Rattle.am_model.specs.Configured.{route_muted, route_of, rules_of}
use Rattle.am_model.specs.Finish.{is_delivered}
use Rattle.am_model.specs.Notice.{NoticeData, is_nothing}
use Rattle.am_model.specs.State.{GroupState, MemberState, is_named}
use Rattle.am_model.specs.Ticket.{outcome_of}
use Rattle.am_model.specs.look_back.Entry.{begins_group, known_in, silences_in}
use Rattle.am_model.specs.look_back.Interval.{found_empty}
use Rattle.am_model.specs.look_back.Laws.{IsOneFlushAtATime, begun_at, has_open, number_in}
use Rattle.am_model.specs.look_back.Past.{AtEach, begin_of, has_begun, has_finished, is_finish, is_flush, is_flush_of, notices_in, removes_empty_groups, replay_past, takes, time_at}
use Rattle.am_model.specs.look_back.Presence.{goes_to, last_insert, presence}
use Rattle.am_model.proofs.looking_back.Pasts.{IsLegalPast, replay_of_past}
use Rattle.am_paging.specs.InTime.{AtSome, ended_at, is_finish_of}
use Rattle.am_paging.specs.Paging.{HasHeard, Pages, is_due_a_page, is_paged_in, is_paged_to, lists, pages, reports_page}
use Rattle.am_paging.proofs.GroupSteps.{group_after}
use Rattle.am_paging.proofs.OpenFlushes.{neither, open-has}
use Rattle.am_paging.proofs.Standing.{IsAsBegun, alive, as-begun, not-found_empty, not-missing}
use Rattle.am_paging.proofs.Unresolved.{fires-there}
use Rattle.am_simulation.specs.Scene.{Setting}
use Rattle.am_plays.specs.PlaysDeliver.{reports_delivered}
use Rattle.am_plays.specs.PlaysRecover.{HearsFrom, OfFinish, Sends, SomeThenEach, StaysDue, is_all_delivered}
use Rattle.am_plays.specs.Plays.{ComesBy}
use Rattle.am_plays.proofs.AtRest.{IsAtRest}
use Rattle.am_plays.proofs.FlushesEnd.{Ended, HasEnded}
use Rattle.am_plays.proofs.Promises.{deadline_from}
use Rattle.am_plays.proofs.Recovering.{ComesUp}
use Rattle.am_plays.proofs.Served.{Due, Still}
use Rattle.am_plays.proofs.Words.{if_at}

-- ---- what is due a page is there

pub due-there : (config : Config) (name : GroupName) (labels : List Label) (t : ℕ) (past : List Record) → time_at past ≤ t → is_due_a_page config name labels t past ≡ true → (m : MemberState) × (presence config name labels past ≡ Some m)
due-there config name labels t past come due =
    let fires : Bool = option_map_or (λ (m : MemberState). not (is_resolved m.alert t)) (last_insert labels past) false in
    let first = and_parts (goes_to config name labels) (fires && (is_none (route_muted config name t) && not (is_muted labels t (silences_in past) (rules_of config) (known_in past)))) due in
    let second = and_parts fires (is_none (route_muted config name t) && not (is_muted labels t (silences_in past) (rules_of config) (known_in past))) first.1 in
    by (last_insert labels past) refl second.0 first.0
  where
    by : (o : Option MemberState) → last_insert labels past ≡ o → option_map_or (λ (m : MemberState). not (is_resolved m.alert t)) o false ≡ true → goes_to config name labels ≡ true → (m : MemberState) × (presence config name labels past ≡ Some m)
    by None is e goes = absurd (false≢true e)
    by (Some m) is e goes = (m, fires-there config name labels past t m come goes is (not-true (is_resolved m.alert t) e))

module _ (config : Config) (id : ℕ) (name : GroupName) (labels : List Label) where
  -- and so is its group
  pub group-there : (m : MemberState) (past : List Record) → IsLegalPast config id past → presence config name labels past ≡ Some m → (g : GroupState) × (group_after config id name past ≡ Some g)
  group-there m past legal there = by (group_after config id name past) refl
    where
      by : (o : Option GroupState) → group_after config id name past ≡ o → (g : GroupState) × (group_after config id name past ≡ Some g)
      by None is = absurd (not-missing config id name labels m past legal there is)
      by (Some g) is = (g, is)

module _ (config : Config) (id : ℕ) (name : GroupName) where
  -- what is said of the group, if it is there, is said of it
  pub of-group : (P : GroupState → Type 0) (past : List Record) (g : GroupState) → group_after config id name past ≡ Some g → IfSome (find (is_named name) (replay_past config past).groups) P → P g
  of-group P past g is h = if_at (group_after config id name past) g is P (subst (λ s. IfSome (find (is_named name) s.groups) P) (replay_of_past config past) h)

  -- one that was begun last at u is due an interval later
  pub due-again : (past : List Record) (g : GroupState) (u : ℕ) → IsLegalPast config id past → group_after config id name past ≡ Some g → begun_at config name past ≡ Some u → g.due ≡ u + (route_of config name).group_interval
  due-again past g u legal is begun =
      subst (IsAsBegun config name (Some u)) is (subst (λ last. IsAsBegun config name last (group_after config id name past)) begun (as-begun config id name past legal))

-- ---- a flush that is all delivered pages

not-nothing : (labels : List Label) (n : NoticeData) → lists labels n ≡ true → is_nothing n ≡ false
not-nothing labels n listed = by n.firing listed
  where
    by : (firing : List AlertData) → lists labels (record n { firing = firing }) ≡ true → is_nothing (record n { firing = firing }) ≡ false
    by [] none = absurd (false≢true none)
    by (a ∷ firing) some = ap (λ b. b && (length n.resolved == 0)) (ne_eqb (length (a ∷ firing)) 0 (λ none. omega (arith, none)))

module _ (name : GroupName) (labels : List Label) (i : ℕ) where
  -- whether the flush at the head notifies the integration of the label set
  abbrev pub pages_at : List Record → Bool
  pages_at [] = false
  pages_at (q ∷ past) = pages i labels q.reply

  one-reported : (outcomes : List (ℕ × Outcome)) (n : NoticeData) → reports_delivered outcomes n ≡ true → (own : Bool) → ((n.integration == i) && lists labels n) ≡ own → own ≡ true
      → ((n.integration == i) && (lists labels n && is_delivered (outcome_of outcomes i))) ≡ true
  one-reported outcomes n reported false is own = absurd (false≢true own)
  one-reported outcomes n reported true is own =
      let parts = and_parts (n.integration == i) (lists labels n) is in
      let some : is_delivered (outcome_of outcomes n.integration) ≡ true = sym (ap (λ b. b || is_delivered (outcome_of outcomes n.integration)) (not-nothing labels n parts.1)) ∙ reported in
      and_from (n.integration == i) (lists labels n && is_delivered (outcome_of outcomes i)) parts.0
      (and_from (lists labels n) (is_delivered (outcome_of outcomes i)) parts.1
      (subst (λ (j : ℕ). is_delivered (outcome_of outcomes j) ≡ true) (eqb-true n.integration i parts.0) some))

  all-reported : (outcomes : List (ℕ × Outcome)) (ns : List NoticeData) → list_all (reports_delivered outcomes) ns ≡ true
      → list_any (λ n. (n.integration == i) && lists labels n) ns ≡ true → is_paged_to i labels (outcome_of outcomes i) ns ≡ true
  all-reported outcomes [] all some = absurd (false≢true some)
  all-reported outcomes (n ∷ ns) all some =
      let both = and_parts (reports_delivered outcomes n) (list_all (reports_delivered outcomes) ns) all in
      by both.0 (λ rest. all-reported outcomes ns both.1 rest) ((n.integration == i) && lists labels n) refl some
    where
      by : reports_delivered outcomes n ≡ true → (list_any (λ m. (m.integration == i) && lists labels m) ns ≡ true → is_paged_to i labels (outcome_of outcomes i) ns ≡ true)
          → (own : Bool) → ((n.integration == i) && lists labels n) ≡ own → (own || list_any (λ m. (m.integration == i) && lists labels m) ns) ≡ true
          → (((n.integration == i) && (lists labels n && is_delivered (outcome_of outcomes i))) || is_paged_to i labels (outcome_of outcomes i) ns) ≡ true
      by first rest true is some =
          or_left ((n.integration == i) && (lists labels n && is_delivered (outcome_of outcomes i))) (is_paged_to i labels (outcome_of outcomes i) ns) (one-reported outcomes n first true is refl)
      by first rest false is some =
          or_right ((n.integration == i) && (lists labels n && is_delivered (outcome_of outcomes i))) (is_paged_to i labels (outcome_of outcomes i) ns) (rest some)

  begin-reported : (outcomes : List (ℕ × Outcome)) (begin : List Record) → is_all_delivered outcomes begin ≡ true → begins_group name begin ≡ true → pages_at begin ≡ true
      → is_paged_in name i labels (outcome_of outcomes i) begin ≡ true
  begin-reported outcomes [] all begun paged = absurd (false≢true all)
  begin-reported outcomes (q ∷ past) all begun paged =
      and_from (is_flush_of name q.reply) (is_paged_to i labels (outcome_of outcomes i) (notices_in q.reply)) begun (all-reported outcomes (notices_in q.reply) all paged)

  -- a reply that takes the group and pages is its flush
  flush-is : (p : Reply) → takes name p ≡ true → pages i labels p ≡ true → (is_flush_of name p ≡ true) × (is_flush (number_in p) p ≡ true)
  flush-is (reply.Inserted inserted) taken paged = absurd (false≢true taken)
  flush-is (reply.Silenced silenced) taken paged = absurd (false≢true taken)
  flush-is reply.NothingDue taken paged = absurd (false≢true taken)
  flush-is (reply.Quiet group removed) taken paged = absurd (false≢true paged)
  flush-is (reply.Flush group opened) taken paged = (taken, nat_eq_equiv.refl opened.number)
  flush-is (reply.Finished finished) taken paged = absurd (false≢true taken)
  flush-is (reply.Maintained maintained) taken paged = absurd (false≢true taken)
  flush-is (reply.EmptyGroupsRemoved removed) taken paged = absurd (false≢true taken)
  flush-is (reply.Forgotten forgotten) taken paged = absurd (false≢true taken)
  flush-is (reply.Loaded loaded) taken paged = absurd (false≢true taken)
  flush-is reply.Noted taken paged = absurd (false≢true taken)

-- ---- what hasn't begun

-- wasn't finished
unfinished : (n : ℕ) (past : List Record) → AtEach IsOneFlushAtATime past → has_begun n past ≡ false → has_finished n past ≡ false
unfinished n [] once none = refl
unfinished n (q ∷ past) once none =
    let before = (neither (is_flush n q.reply) (has_begun n past) none).1 in
    by before (unfinished n past once.1 before) (is_finish n q.call) refl
  where
    by : has_begun n past ≡ false → has_finished n past ≡ false → (b : Bool) → is_finish n q.call ≡ b → (b || has_finished n past) ≡ false
    by before rest true is = absurd (false≢true (sym before ∙ once.0.begun_before n is))
    by before rest false is = rest

-- a flush that is there has begun
has-begun : (name : GroupName) (n : ℕ) (past : List Record) → begins_group name (begin_of n past) ≡ true → has_begun n past ≡ true
has-begun name n [] e = absurd (false≢true e)
has-begun name n (q ∷ past) e = by (λ e. has-begun name n past e) (is_flush n q.reply) e
  where
    by : (begins_group name (begin_of n past) ≡ true → has_begun n past ≡ true) → (b : Bool) → begins_group name (cond b (q ∷ past) (begin_of n past)) ≡ true → (b || has_begun n past) ≡ true
    by rest true e = refl
    by rest false e = rest e

-- ---- what is known of a play, for a group

module _ (r : Setting) (config : Config) (id : ℕ) (name : GroupName) (late : ℕ) where
  pub record Facts (past : List Record) : Type 0 where
    pub legal : IsLegalPast config id past
    pub once : AtEach IsOneFlushAtATime past
    pub paged : AtEach (Pages config) past
    pub still : AtEach (Still r config id name late) past
    pub due : AtEach (Due r config id name) past
    pub ended : AtEach (Ended config name late (ComesUp late)) past

  pub earlier : (q : Record) (past : List Record) → Facts (q ∷ past) → Facts past
  earlier q past f = record { legal = f.legal.1; once = f.once.1; paged = f.paged.1; still = f.still.1; due = f.due.1; ended = f.ended.1 }

  module _ (y : ℕ) (by_end : y ≤ r.until) (labels : List Label) (i v : ℕ) (in_time : max v late ≤ y) where
    -- by when the integration hears
    abbrev by : ℕ
    by = max v late

    abbrev pub Heard : List Record → Type 0
    Heard past = AtSome (HearsFrom config name i labels v by) past

    -- the open flush of a number notifies it
    record IsFlying (n : ℕ) (past : List Record) : Type 0 where
      begun : begins_group name (begin_of n past) ≡ true
      open_still : has_finished n past ≡ false
      paged : pages_at name labels i (begin_of n past) ≡ true
      last : begun_at config name past ≡ Some (time_at (begin_of n past))
      since : v ≤ time_at past
      held : time_at past ≤ by

    -- the group is due again
    record IsWaiting (past : List Record) : Type 0 where
      last_begin : ℕ
      begun : begun_at config name past ≡ Some last_begin
      again : last_begin + (route_of config name).group_interval ≤ late
      ended : ended_at name past ≤ by
      since : v ≤ time_at past
      held : time_at past ≤ by

    abbrev Phase : List Record → Type 0
    Phase past = Heard past ⊎ (((n : ℕ) × IsFlying n past) ⊎ IsWaiting past)

    -- a begin that notifies it
    fly : (q : Record) (past : List Record) → Facts (q ∷ past) → takes name q.reply ≡ true → pages i labels q.reply ≡ true → v ≤ time_at (q ∷ past) → time_at (q ∷ past) ≤ by → IsFlying (number_in q.reply) (q ∷ past)
    fly q past f taken paged since within =
        let n : ℕ = number_in q.reply in
        let is = flush-is name labels i q.reply taken paged in
        let whole : q ∷ past ≡ begin_of n (q ∷ past) = sym (ap (λ b. cond b (q ∷ past) (begin_of n past)) is.1) in
        let first : has_begun n past ≡ false = f.once.0.first_begin n is.1 in
        record {
          begun = subst (λ begin. begins_group name begin ≡ true) whole is.0;
          open_still = ap (λ b. b || has_finished n past) (unended n first (is_finish n q.call) refl) ∙ unfinished n past f.once.1 first;
          paged = subst (λ begin. pages_at name labels i begin ≡ true) whole paged;
          last = ap (λ b. cond b (Some (time_at (q ∷ past))) (cond (found_empty config name q past) None (begun_at config name past))) taken ∙ ap (λ begin. Some (time_at begin)) whole;
          since = since;
          held = within;
        }
      where
        unended : (n : ℕ) → has_begun n past ≡ false → (b : Bool) → is_finish n q.call ≡ b → b ≡ false
        unended n first true e = absurd (false≢true (sym first ∙ f.once.0.begun_before n e))
        unended n first false e = refl

    -- a finish of its flush: the page is reported, or the deadline comes soon
    finish-pages : (n : ℕ) (past : List Record) (t : ℕ) (c : Call) → is_finish n c ≡ true → begins_group name (begin_of n past) ≡ true → pages_at name labels i (begin_of n past) ≡ true
        → (is_finish_of name past c ≡ true → OfFinish (HasEnded config name late (ComesUp late) t) past c)
        → (is_finish_of name past c ≡ true) × ((reports_page name i labels past c ≡ true) ⊎ (deadline_from config name (time_at (begin_of n past)) ≤ late))
    finish-pages n past t (call.Insert now alert) is begun paged ended = absurd (false≢true is)
    finish-pages n past t (call.Silence now k matchers start end) is begun paged ended = absurd (false≢true is)
    finish-pages n past t (call.Begin now) is begun paged ended = absurd (false≢true is)
    finish-pages n past t (call.Finish now m outcomes) is begun paged ended =
        let own : n ≡ m = sym (eqb-true m n is) in
        let here : begins_group name (begin_of m past) ≡ true = subst (λ (k : ℕ). begins_group name (begin_of k past) ≡ true) own begun in
        (here, so own here (ended here).1)
      where
        so : n ≡ m → begins_group name (begin_of m past) ≡ true → (is_all_delivered outcomes (begin_of m past) ≡ true) ⊎ (deadline_from config name (time_at (begin_of m past)) ≤ late)
            → (is_paged_in name i labels (outcome_of outcomes i) (begin_of m past) ≡ true) ⊎ (deadline_from config name (time_at (begin_of n past)) ≤ late)
        so own here (inl all) = inl (begin-reported name labels i outcomes (begin_of m past) all here (subst (λ (k : ℕ). pages_at name labels i (begin_of k past) ≡ true) own paged))
        so own here (inr comes) = inr (subst (λ (k : ℕ). deadline_from config name (time_at (begin_of k past)) ≤ late) (sym own) comes)
    finish-pages n past t (call.Maintain now) is begun paged ended = absurd (false≢true is)
    finish-pages n past t (call.RemoveEmptyGroups now) is begun paged ended = absurd (false≢true is)
    finish-pages n past t (call.Forget now) is begun paged ended = absurd (false≢true is)
    finish-pages n past t (call.Load now row) is begun paged ended = absurd (false≢true is)
    finish-pages n past t (call.Note now m j outcome) is begun paged ended = absurd (false≢true is)

    -- a record while its flush is open
    step-flying : (n : ℕ) (q : Record) (past : List Record) → Facts (q ∷ past) → IsFlying n past → Phase (q ∷ past)
    step-flying n q past f p = by_call (is_finish n q.call) refl
      where
        opens : has_open name past ≡ true
        opens = open-has name n past p.open_still past p.begun

        held : time_at (q ∷ past) ≤ by
        held = let moved : time_at (q ∷ past) ≤ max (time_at past) late = f.still.0 opens in let before = p.held in omega (arith, moved, before)

        since : v ≤ time_at (q ∷ past)
        since = let before = p.since in omega (arith, before)

        other : is_flush n q.reply ≡ false
        other = no (is_flush n q.reply) refl
          where
            no : (b : Bool) → is_flush n q.reply ≡ b → b ≡ false
            no true e = absurd (false≢true (sym (f.once.0.first_begin n e) ∙ has-begun name n past p.begun))
            no false e = refl

        untaken : takes name q.reply ≡ false
        untaken = no (takes name q.reply) refl
          where
            no : (b : Bool) → takes name q.reply ≡ b → b ≡ false
            no true e = absurd (false≢true (sym (f.once.0.none_open name e) ∙ opens))
            no false e = refl

        full : found_empty config name q past ≡ false
        full = ap (λ b. removes_empty_groups q.call && b) (alive config id name past f.legal.1 opens) ∙ and-false (removes_empty_groups q.call)
          where
            and-false : (b : Bool) → (b && false) ≡ false
            and-false true = refl
            and-false false = refl

        last : begun_at config name (q ∷ past) ≡ Some (time_at (begin_of n past))
        last =
            ap (λ b. cond b (Some (time_at (q ∷ past))) (cond (found_empty config name q past) None (begun_at config name past))) untaken
            ∙ ap (λ b. cond b None (begun_at config name past)) full
            ∙ p.last

        ended-so : is_finish_of name past q.call ≡ true → (reports_page name i labels past q.call ≡ true) ⊎ (deadline_from config name (time_at (begin_of n past)) ≤ late) → Phase (q ∷ past)
        ended-so finishes (inl reported) = inl (inl (record { since = since; in_time = held; reached = inl reported }))
        ended-so finishes (inr comes) =
            let come : time_at (begin_of n past) + max (route_of config name).group_interval MIN_FLUSH_TIMEOUT ≤ late = comes in
            let now : ended_at name (q ∷ past) ≡ time_at (q ∷ past) = ap (λ b. cond b (time_at (q ∷ past)) (ended_at name past)) finishes in
            inr (inr (record { last_begin = time_at (begin_of n past); begun = last; again = omega (arith, come); ended = omega (arith, now, held); since = since; held = held }))

        by_call : (b : Bool) → is_finish n q.call ≡ b → Phase (q ∷ past)
        by_call true is = let pages_so = finish-pages n past (time_at (q ∷ past)) q.call is p.begun p.paged f.ended.0 in ended-so pages_so.0 pages_so.1
        by_call false is =
            let same : begin_of n past ≡ begin_of n (q ∷ past) = sym (ap (λ b. cond b (q ∷ past) (begin_of n past)) other) in
            inr (inl (
              n,
              record {
                begun = subst (λ begin. begins_group name begin ≡ true) same p.begun;
                open_still = ap (λ b. b || has_finished n past) is ∙ p.open_still;
                paged = subst (λ begin. pages_at name labels i begin ≡ true) same p.paged;
                last = last ∙ ap (λ begin. Some (time_at begin)) same;
                since = since;
                held = held;
              },
            ))

    -- a record while the group is due again, at which the label set is due a page
    step-waiting : (q : Record) (past : List Record) → Facts (q ∷ past) → (takes name q.reply ≡ true → (pages i labels q.reply ≡ true) ⊎ HasHeard config name i labels (time_at (q ∷ past)) past)
        → is_due_a_page config name labels (time_at (q ∷ past)) past ≡ true → IsWaiting past → Phase (q ∷ past)
    step-waiting q past f reached due p = take (takes name q.reply) refl
      where
        there : (m : MemberState) × (presence config name labels past ≡ Some m)
        there = due-there config name labels (time_at (q ∷ past)) past (omega arith) due

        group : (g : GroupState) × (group_after config id name past ≡ Some g)
        group = group-there config id name labels there.0 past f.legal.1 there.1

        held : time_at (q ∷ past) ≤ by
        held = if_open (has_open name past) refl
          where
            in_bound : (bound : ℕ) → bound ≤ by → ComesBy r bound (time_at (q ∷ past)) → time_at (q ∷ past) ≤ by
            in_bound bound most (inl come) = omega (arith, come, most)
            in_bound bound most (inr after) = absurd (omega (arith, after, most, in_time, by_end))

            if_open : (b : Bool) → has_open name past ≡ b → time_at (q ∷ past) ≤ by
            if_open true opens = let moved : time_at (q ∷ past) ≤ max (time_at past) late = f.still.0 opens in let before = p.held in omega (arith, moved, before)
            if_open false closed =
                let g = group.0 in
                let again : g.due ≡ p.last_begin + (route_of config name).group_interval = due-again config id name past g p.last_begin f.legal.1 group.1 p.begun in
                let soon_again = p.again in
                let over = p.ended in
                in_bound (max g.due (ended_at name past)) (omega (arith, again, soon_again, over))
                (of-group config id name (λ h. ComesBy r (max h.due (ended_at name past)) (time_at (q ∷ past))) past g group.1 (f.due.0 closed))

        since : v ≤ time_at (q ∷ past)
        since = let before = p.since in omega (arith, before)

        taken-so : takes name q.reply ≡ true → (pages i labels q.reply ≡ true) ⊎ HasHeard config name i labels (time_at (q ∷ past)) past → Phase (q ∷ past)
        taken-so taken (inl paged) = inr (inl (number_in q.reply, fly q past f taken paged since held))
        taken-so taken (inr heard) = inl (inl (record { since = since; in_time = held; reached = inr (taken, heard) }))

        ended : ended_at name (q ∷ past) ≤ by
        ended = of_finish (is_finish_of name past q.call)
          where
            of_finish : (b : Bool) → cond b (time_at (q ∷ past)) (ended_at name past) ≤ by
            of_finish true = held
            of_finish false = p.ended

        take : (b : Bool) → takes name q.reply ≡ b → Phase (q ∷ past)
        take true taken = taken-so taken (reached taken)
        take false untaken =
            inr (inr (record {
              last_begin = p.last_begin;
              begun =
                  ap (λ b. cond b (Some (time_at (q ∷ past))) (cond (found_empty config name q past) None (begun_at config name past))) untaken
                  ∙ ap (λ b. cond b None (begun_at config name past)) (not-found_empty config id name labels there.0 q past there.1)
                  ∙ p.begun;
              again = p.again;
              ended = ended;
              since = since;
              held = held;
            }))

    -- so it is after each record from the begin on
    module _ (select : (q : Record) (past : List Record) → Pages config q past → takes name q.reply ≡ true → is_due_a_page config name labels (time_at (q ∷ past)) past ≡ true
        → (pages i labels q.reply ≡ true) ⊎ HasHeard config name i labels (time_at (q ∷ past)) past) where
      phases : (past : List Record) → Facts past → time_at past ≤ y → SomeThenEach (Sends name i labels v) (StaysDue config name labels y) past → Phase past
      phases [] f within some = absurd some
      phases (q ∷ past) f within (inl sends) =
          let now = sends.at in inr (inl (number_in q.reply, fly q past f sends.taken sends.pages (omega (arith, now)) (omega (arith, now))))
      phases (q ∷ past) f within (inr later) =
          let due = later.0 within in
          step due (phases past (earlier q past f) (omega (arith, within)) later.1)
        where
          step : is_due_a_page config name labels (time_at (q ∷ past)) past ≡ true → Phase past → Phase (q ∷ past)
          step due (inl heard) = inl (inr heard)
          step due (inr (inl flying)) = step-flying flying.0 q past f flying.1
          step due (inr (inr waiting)) = step-waiting q past f (λ taken. select q past f.paged.0 taken due) due waiting

      -- and when the group is at rest, the integration has heard
      pub hears : (past : List Record) → Facts past → time_at past ≤ y → IsAtRest r config id name y by_end past → is_due_a_page config name labels y past ≡ true
          → SomeThenEach (Sends name i labels v) (StaysDue config name labels y) past → Heard past
      hears past f within rest due some = last (phases past f within some)
        where
          last : Phase past → Heard past
          last (inl heard) = heard
          last (inr (inl flying)) = absurd (false≢true (sym rest.closed ∙ open-has name flying.0 past flying.1.open_still past flying.1.begun))
          last (inr (inr waiting)) =
              let there = due-there config name labels y past within due in
              let group = group-there config id name labels there.0 past f.legal there.1 in
              let again : (group.0).due ≡ waiting.last_begin + (route_of config name).group_interval = due-again config id name past group.0 waiting.last_begin f.legal group.1 waiting.begun in
              let later : y < max (group.0).due (ended_at name past) = of-group config id name (λ h. y < max h.due (ended_at name past)) past group.0 group.1 rest.later in
              let soon_again = waiting.again in
              let over = waiting.ended in
              absurd (omega (arith, again, later, soon_again, over, in_time))

-- Whoever is due a page from a time on is notified by the latest time, the slack and the hold, where each flush succeeds.
use Rattle.std.proofs.Common.{◌≡◌, ℕ, ◌+◌, ◌<◌, ◌≤◌, Bool, true, false, cond, not, ◌&&◌, ◌||◌, Option, Some, None, ◌⊎◌, inl, inr, List, [], ◌∷◌, refl, sym, ap, ◌∙◌, subst, arith}
use Rattle.std.specs.Prelude.{◌==◌}
use Rattle.std.specs.List.{AllByRecursion, list_all}
use Rattle.std.specs.Option.{option_or}
use Rattle.std.proofs.lemmas.Bool.{false≢true, and_from, and_parts, eqb-true}
use Rattle.std.proofs.lemmas.Cmp.{nat_eq_equiv}
use Rattle.am_alerts.specs.Labels.{same_label_set}
use Rattle.am_alerts.specs.declared.labels.Label.{Label}
use Rattle.am_nflog.specs.Members.{is_member}
use Rattle.am_retry.specs.declared.outcome.Outcome.{Outcome}
use Rattle.am_model.specs.declared.config.Config.{Config}
use Rattle.am_model.specs.declared.config.Integration.{Integration}
use Rattle.am_model.specs.declared.group.GroupName.{GroupName}
use Rattle.am_model.specs.declared.record.Call.{Call}
use Rattle.am_model.specs.declared.record.Call.TheVariants.{Insert, Silence, Begin, Finish, Maintain, RemoveEmptyGroups, Forget, Load, Note}
use Rattle.am_model.specs.declared.record.Record.{Record}
use Rattle.am_model.specs.declared.record.Reply.{Reply}
use Rattle.am_model.specs.declared.record.Reply.TheVariants as reply_is
use Rattle.am_model.specs.declared.views.RowView.{RowView}
use Rattle.am_model.specs.Begin.{label_sets}
use Rattle.am_model.specs.Configured.{expiry_at, integrations_of}
use Rattle.am_model.specs.Notice.{NoticeData}
use Rattle.am_model.specs.look_back.Entry.{begins_group, logs, begin_named, notified_and_succeeded, row_of_flush, row_of_begin, firing_in, resolved_in}
use Rattle.am_model.specs.look_back.Interval.{found_empty}
use Rattle.am_model.specs.look_back.Laws.{EveryLegalHistory, LogsDelivered, IsNoticeFound, IsReplyFound, IsOneFlushAtATime, number_in, has_open, begun_at}
use Rattle.am_model.specs.look_back.Past.{AtEach, past_of, time_at, is_flush, is_flush_of, is_finish, is_note, removes_empty_groups, takes, notices_in, begin_of, has_begun, has_finished, was_noted, succeeded}
use Rattle.am_model.proofs.lists.Distinct.{all_from, all_to, all-weaker}
use Rattle.am_model.proofs.looking_back.LooksBack.{histories_look_back}
use Rattle.am_model.proofs.looking_back.Pasts.{IsLegalPast, legal_past}
use Rattle.am_paging.specs.InTime.{is_finish_of, IsOnTime, AtSome, begun_by, IsDueOnTime, IsBegunFor, reaches, finishes_for, Succeeds, HearsBy, PagesAreDeliveredInTime}
use Rattle.am_paging.specs.Paging.{lists, pages, reports_page, HasHeard}
use Rattle.am_paging.proofs.Dropped.{no_page_is_dropped}
use Rattle.am_paging.proofs.OpenFlushes.{is_begin, flush-begins, open-has, unnoted, neither}
use Rattle.am_paging.proofs.Paged.{IsReached, at_begin, any-follows, call_paged}
use Rattle.am_paging.proofs.PagesInTime.{paged-before}
use Rattle.am_paging.proofs.Standing.{one-is, alive, open-bound}

-- ---- words

begin-finishes : (n : ℕ) (c : Call) → is_begin c ≡ true → is_finish n c ≡ false
begin-finishes n (Insert now alert) e = refl
begin-finishes n (Silence now id matchers start end) e = refl
begin-finishes n (Begin now) e = refl
begin-finishes n (Finish now number outcomes) e = absurd (false≢true e)
begin-finishes n (Maintain now) e = refl
begin-finishes n (RemoveEmptyGroups now) e = refl
begin-finishes n (Forget now) e = refl
begin-finishes n (Load now row) e = refl
begin-finishes n (Note now number i outcome) e = refl

begin-notes : (n i : ℕ) (c : Call) → is_begin c ≡ true → is_note n i c ≡ false
begin-notes n i (Insert now alert) e = refl
begin-notes n i (Silence now id matchers start end) e = refl
begin-notes n i (Begin now) e = refl
begin-notes n i (Finish now number outcomes) e = refl
begin-notes n i (Maintain now) e = refl
begin-notes n i (RemoveEmptyGroups now) e = refl
begin-notes n i (Forget now) e = refl
begin-notes n i (Load now row) e = refl
begin-notes n i (Note now number j outcome) e = absurd (false≢true e)

-- what hasn't begun wasn't finished
unfinished : (n : ℕ) (past : List Record) → AtEach IsOneFlushAtATime past → has_begun n past ≡ false → has_finished n past ≡ false
unfinished n [] once none = refl
unfinished n (r ∷ past) once none =
    let before = (neither (is_flush n r.reply) (has_begun n past) none).1 in
    elim (is_finish n r.call) as (λ b. is_finish n r.call ≡ b → (b || has_finished n past) ≡ false) [
      | true ↦ λ e. absurd (false≢true (sym before ∙ once.0.begun_before n e))
      | false ↦ λ e. unfinished n past once.1 before
    ] refl

-- the begin of a flush isn't after the last record
begin-time : (n : ℕ) (past : List Record) → time_at (begin_of n past) ≤ time_at past
begin-time n [] = omega arith
begin-time n (r ∷ past) =
    let before = begin-time n past in
    elim (is_flush n r.reply) as (λ b. time_at (cond b (r ∷ past) (begin_of n past)) ≤ time_at (r ∷ past)) [
      | true ↦ omega arith
      | false ↦ omega (arith, before)
    ]

-- a flush that is there has begun
has-begun : (name : GroupName) (n : ℕ) (past : List Record) → begins_group name (begin_of n past) ≡ true → has_begun n past ≡ true
has-begun name n [] e = absurd (false≢true e)
has-begun name n (r ∷ past) e =
    elim (is_flush n r.reply) as (λ b. begins_group name (cond b (r ∷ past) (begin_of n past)) ≡ true → (b || has_begun n past) ≡ true) [
      | true ↦ λ _. refl
      | false ↦ λ e. has-begun name n past e
    ] e

all-pass : {X : Type 0} (test : X → Bool) (xs : List X) → list_all test xs ≡ true → AllByRecursion (λ x. test x ≡ true) xs
all-pass test [] e = tt
all-pass test (x ∷ xs) e = let both = and_parts (test x) (list_all test xs) e in (both.0, all-pass test xs both.1)

-- ---- a flush that pages

module _ (config : Config) (name : GroupName) (labels : List Label) (i : ℕ) where
  -- whether the flush at the head pages
  abbrev pages_at : List Record → Bool
  pages_at [] = false
  pages_at (r ∷ past) = pages i labels r.reply

  -- a reply that takes the group and pages is its flush
  flush-is : (p : Reply) → takes name p ≡ true → pages i labels p ≡ true → (is_flush_of name p ≡ true) × (is_flush (number_in p) p ≡ true)
  flush-is (reply_is.Inserted inserted) taken paged = absurd (false≢true taken)
  flush-is (reply_is.Silenced silenced) taken paged = absurd (false≢true taken)
  flush-is reply_is.NothingDue taken paged = absurd (false≢true taken)
  flush-is (reply_is.Quiet group removed) taken paged = absurd (false≢true paged)
  flush-is (reply_is.Flush group opened) taken paged = (taken, nat_eq_equiv.refl opened.number)
  flush-is (reply_is.Finished finished) taken paged = absurd (false≢true taken)
  flush-is (reply_is.Maintained maintained) taken paged = absurd (false≢true taken)
  flush-is (reply_is.EmptyGroupsRemoved removed) taken paged = absurd (false≢true taken)
  flush-is (reply_is.Forgotten forgotten) taken paged = absurd (false≢true taken)
  flush-is (reply_is.Loaded loaded) taken paged = absurd (false≢true taken)
  flush-is reply_is.Noted taken paged = absurd (false≢true taken)

  -- the row that its success logs lists the label set
  record IsListed (o : Option RowView) : Type 0 where
    row : RowView
    logged : o ≡ Some row
    member : is_member same_label_set labels row.firing ≡ true

  reply-listed : (t begun : ℕ) (before : List Record) (p : Reply) → IsReplyFound config begun before p → pages i labels p ≡ true → IsListed (row_of_flush config t i begun before p)
  reply-listed t begun before (reply_is.Inserted inserted) found paged = absurd (false≢true paged)
  reply-listed t begun before (reply_is.Silenced silenced) found paged = absurd (false≢true paged)
  reply-listed t begun before reply_is.NothingDue found paged = absurd (false≢true paged)
  reply-listed t begun before (reply_is.Quiet group removed) found paged = absurd (false≢true paged)
  reply-listed t begun before (reply_is.Flush group opened) found paged =
      let Found : NoticeData → Type 0 = IsNoticeFound config opened.number group opened.deadline begun before in
      let own : NoticeData → Bool = λ n. (n.integration == i) && lists labels n in
      let Listed : Type 0 = is_member same_label_set labels (firing_in config group begun before) ≡ true in
      let among : Listed = one-is own Listed opened.notices
      (all-weaker Found (λ n. own n ≡ true → Listed) (λ n f e. ap (λ alerts. is_member same_label_set labels (label_sets alerts)) (sym f.firing) ∙ (and_parts (n.integration == i) (lists labels n) e).1)
      opened.notices (all_to Found opened.notices found.listed)) paged in
      record {
        row = record {
          group = group;
          integration = i;
          time = t;
          expiry = expiry_at config group t;
          firing = firing_in config group begun before;
          resolved = resolved_in config group begun before;
        };
        logged = refl;
        member = among;
      }
  reply-listed t begun before (reply_is.Finished finished) found paged = absurd (false≢true paged)
  reply-listed t begun before (reply_is.Maintained maintained) found paged = absurd (false≢true paged)
  reply-listed t begun before (reply_is.EmptyGroupsRemoved removed) found paged = absurd (false≢true paged)
  reply-listed t begun before (reply_is.Forgotten forgotten) found paged = absurd (false≢true paged)
  reply-listed t begun before (reply_is.Loaded loaded) found paged = absurd (false≢true paged)
  reply-listed t begun before reply_is.Noted found paged = absurd (false≢true paged)

  listing : (t : ℕ) (begin : List Record) → AtEach (IsReached config) begin → pages_at begin ≡ true → IsListed (row_of_begin config t i begin)
  listing t [] reached paged = absurd (false≢true paged)
  listing t (r ∷ past) reached paged = reply-listed t (time_at (r ∷ past)) past r.reply reached.0 paged

  -- a record that logs it reports the page
  logs-page : (n : ℕ) (r : Record) (past : List Record) → AtEach (IsReached config) past → LogsDelivered r past → pages_at (begin_of n past) ≡ true → begin_named past r.call ≡ begin_of n past → logs name i past r.call ≡ true → reports_page name i labels past r.call ≡ true
  logs-page n r past reached delivered paged is logged =
      let t = time_at (r ∷ past) in
      let own = listing t (begin_of n past) (at_begin (IsReached config) n past reached) paged in
      (call_paged config name i t labels own.row None own.member past reached r.call (delivered name i logged) (ap (λ begin. option_or (row_of_begin config t i begin) None) is ∙ ap (λ o. option_or o None) own.logged)).1

  -- the finish of its flush that reaches the integration logs it, unless it was noted
  notified-succeeds : (n : ℕ) (outcomes : List (ℕ × Outcome)) (whole begin : List Record) → pages_at begin ≡ true → reaches i n outcomes whole begin ≡ true → notified_and_succeeded n outcomes whole i begin ≡ true
  notified-succeeds n outcomes whole [] paged all = absurd (false≢true paged)
  notified-succeeds n outcomes whole (r ∷ past) paged all =
      any-follows (λ x. (not (x.integration == i) || succeeded n outcomes whole x) ≡ true) (λ x. (x.integration == i) && lists labels x) (λ x. (x.integration == i) && succeeded n outcomes whole x)
      (λ x s e. own (x.integration == i) (succeeded n outcomes whole x) (and_parts (x.integration == i) (lists labels x) e).0 s)
      (notices_in r.reply) (all-pass (λ x. not (x.integration == i) || succeeded n outcomes whole x) (notices_in r.reply) all) paged
    where
      own : (a b : Bool) → a ≡ true → (not a || b) ≡ true → (a && b) ≡ true
      own true b e f = f
      own false b e f = absurd (false≢true e)

  finish-logs : (n : ℕ) (past : List Record) (c : Call) → is_finish n c ≡ true → finishes_for i past c ≡ true → begins_group name (begin_of n past) ≡ true → pages_at (begin_of n past) ≡ true → was_noted n i past ≡ false
      → (logs name i past c ≡ true) × (begin_named past c ≡ begin_of n past)
  finish-logs n past (Insert now alert) is all begun paged unnoted = absurd (false≢true is)
  finish-logs n past (Silence now id matchers start end) is all begun paged unnoted = absurd (false≢true is)
  finish-logs n past (Begin now) is all begun paged unnoted = absurd (false≢true is)
  finish-logs n past (Finish now m outcomes) is all begun paged unnoted =
      let own : m ≡ n = eqb-true m n is in
      let here : pages_at (begin_of m past) ≡ true = ap (λ k. pages_at (begin_of k past)) own ∙ paged in (
        and_from (begins_group name (begin_of m past)) (notified_and_succeeded m outcomes past i (begin_of m past) && not (was_noted m i past)) (ap (λ k. begins_group name (begin_of k past)) own ∙ begun)
            (and_from (notified_and_succeeded m outcomes past i (begin_of m past)) (not (was_noted m i past)) (notified-succeeds m outcomes past (begin_of m past) here all) (ap (λ k. not (was_noted k i past)) own ∙ ap not unnoted)),
        ap (λ k. begin_of k past) own,
      )
  finish-logs n past (Maintain now) is all begun paged unnoted = absurd (false≢true is)
  finish-logs n past (RemoveEmptyGroups now) is all begun paged unnoted = absurd (false≢true is)
  finish-logs n past (Forget now) is all begun paged unnoted = absurd (false≢true is)
  finish-logs n past (Load now row) is all begun paged unnoted = absurd (false≢true is)
  finish-logs n past (Note now m j outcome) is all begun paged unnoted = absurd (false≢true is)

  -- and so does its note
  note-logs : (n : ℕ) (past : List Record) (c : Call) → is_note n i c ≡ true → begins_group name (begin_of n past) ≡ true → (logs name i past c ≡ true) × (begin_named past c ≡ begin_of n past)
  note-logs n past (Insert now alert) is begun = absurd (false≢true is)
  note-logs n past (Silence now id matchers start end) is begun = absurd (false≢true is)
  note-logs n past (Begin now) is begun = absurd (false≢true is)
  note-logs n past (Finish now m outcomes) is begun = absurd (false≢true is)
  note-logs n past (Maintain now) is begun = absurd (false≢true is)
  note-logs n past (RemoveEmptyGroups now) is begun = absurd (false≢true is)
  note-logs n past (Forget now) is begun = absurd (false≢true is)
  note-logs n past (Load now row) is begun = absurd (false≢true is)
  note-logs n past (Note now m j outcome) is begun =
      let both = and_parts (m == n) (j == i) is in
      let own : m ≡ n = eqb-true m n both.0 in
      (and_from (begins_group name (begin_of m past)) (j == i) (ap (λ k. begins_group name (begin_of k past)) own ∙ begun) both.1, ap (λ k. begin_of k past) own)

  -- ---- from the begin on

  module _ (id slack hold x by : ℕ) where
    -- the open flush of a number pages, began in time, isn't noted, and the hold isn't over
    record IsPaging (n : ℕ) (past : List Record) : Type 0 where
      begun : begins_group name (begin_of n past) ≡ true
      open_still : has_finished n past ≡ false
      unnoted_still : was_noted n i past ≡ false
      paged : pages_at (begin_of n past) ≡ true
      after : x < time_at (begin_of n past)
      in_time : time_at (begin_of n past) ≤ by
      last : begun_at config name past ≡ Some (time_at (begin_of n past))
      held : time_at past ≤ by + hold

    abbrev Heard : List Record → Type 0
    Heard past = AtSome (HearsBy config name i labels x (by + hold)) past

    abbrev Hears : List Record → Type 0
    Hears past = Heard past ⊎ ((n : ℕ) × IsPaging n past)

    -- a begin that pages
    begin-hears : (r : Record) (past : List Record) → IsLegalPast config id (r ∷ past) → AtEach IsOneFlushAtATime (r ∷ past) → takes name r.reply ≡ true → x < time_at (r ∷ past) → time_at (r ∷ past) ≤ by
        → (pages i labels r.reply ≡ true) ⊎ HasHeard config name i labels (time_at (r ∷ past)) past → Hears (r ∷ past)
    begin-hears r past legal once taken after in_time (inr heard) = inl (inl (record { after = after; in_time = omega (arith, in_time); reached = inr (taken, heard) }))
    begin-hears r past legal once taken after in_time (inl paged) =
        let n : ℕ = number_in r.reply in
        let is = flush-is r.reply taken paged in
        let whole : r ∷ past ≡ begin_of n (r ∷ past) = sym (ap (λ b. cond b (r ∷ past) (begin_of n past)) is.1) in
        let begins : is_begin r.call ≡ true = flush-begins config id n r past legal is.1 in
        let first : has_begun n past ≡ false = once.0.first_begin n is.1 in
        inr (
          n,
          record {
            begun = subst (λ begin. begins_group name begin ≡ true) whole is.0;
            open_still = ap (λ b. b || has_finished n past) (begin-finishes n r.call begins) ∙ unfinished n past once.1 first;
            unnoted_still = ap (λ b. b || was_noted n i past) (begin-notes n i r.call begins) ∙ unnoted n i past once.1 first;
            paged = subst (λ begin. pages_at begin ≡ true) whole paged;
            after = subst (λ begin. x < time_at begin) whole after;
            in_time = subst (λ begin. time_at begin ≤ by) whole in_time;
            last = ap (λ b. cond b (Some (time_at (r ∷ past))) (cond (found_empty config name r past) None (begun_at config name past))) taken ∙ ap (λ begin. Some (time_at begin)) whole;
            held = omega (arith, in_time);
          },
        )

    -- a record more, which is on time
    step-paging : (n : ℕ) (r : Record) (past : List Record) → IsLegalPast config id past → IsOneFlushAtATime r past → AtEach (IsReached config) past → LogsDelivered r past → (x < time_at (r ∷ past) → IsOnTime slack hold config name r past) → Succeeds name i x r past
        → IsPaging n past → Hears (r ∷ past)
    step-paging n r past legal once reached delivered on succeeds p = by_call (is_finish n r.call) (is_note n i r.call) refl refl
      where
        t : ℕ
        t = time_at (r ∷ past)

        after : x < t
        after = let begin = begin-time n past in let first = p.after in omega (arith, begin, first)

        opens : has_open name past ≡ true
        opens = open-has name n past p.open_still past p.begun

        in_time : t ≤ by + hold
        in_time = let held = open-bound config id name slack hold r past legal (on after) (time_at (begin_of n past)) p.last opens in let first = p.in_time in omega (arith, held, first)

        by_report : reports_page name i labels past r.call ≡ true → Hears (r ∷ past)
        by_report reported = inl (inl (record { after = after; in_time = in_time; reached = inl reported }))

        other : is_flush n r.reply ≡ false
        other = no (is_flush n r.reply) refl
          where
            no : (b : Bool) → is_flush n r.reply ≡ b → b ≡ false
            no true e = absurd (false≢true (sym (once.first_begin n e) ∙ has-begun name n past p.begun))
            no false e = refl

        untaken : takes name r.reply ≡ false
        untaken = no (takes name r.reply) refl
          where
            no : (b : Bool) → takes name r.reply ≡ b → b ≡ false
            no true e = absurd (false≢true (sym (once.none_open name e) ∙ opens))
            no false e = refl

        full : found_empty config name r past ≡ false
        full = ap (λ b. removes_empty_groups r.call && b) (alive config id name past legal opens) ∙ and-false (removes_empty_groups r.call)
          where
            and-false : (b : Bool) → (b && false) ≡ false
            and-false true = refl
            and-false false = refl

        finish-of : (c : Call) → is_finish n c ≡ true → is_finish_of name past c ≡ true
        finish-of (Insert now alert) e = absurd (false≢true e)
        finish-of (Silence now k matchers start end) e = absurd (false≢true e)
        finish-of (Begin now) e = absurd (false≢true e)
        finish-of (Finish now m outcomes) e = ap (λ k. begins_group name (begin_of k past)) (eqb-true m n e) ∙ p.begun
        finish-of (Maintain now) e = absurd (false≢true e)
        finish-of (RemoveEmptyGroups now) e = absurd (false≢true e)
        finish-of (Forget now) e = absurd (false≢true e)
        finish-of (Load now row) e = absurd (false≢true e)
        finish-of (Note now m j outcome) e = absurd (false≢true e)

        by_call : (f k : Bool) → is_finish n r.call ≡ f → is_note n i r.call ≡ k → Hears (r ∷ past)
        by_call true k is note_is =
            let own = finish-logs n past r.call is (succeeds after (finish-of r.call is)) p.begun p.paged p.unnoted_still in
            by_report (logs-page n r past reached delivered p.paged own.1 own.0)
        by_call false true is note_is =
            let own = note-logs n past r.call note_is p.begun in
            by_report (logs-page n r past reached delivered p.paged own.1 own.0)
        by_call false false is note_is =
            let same : begin_of n past ≡ begin_of n (r ∷ past) = sym (ap (λ b. cond b (r ∷ past) (begin_of n past)) other) in
            inr (
              n,
              record {
                begun = subst (λ begin. begins_group name begin ≡ true) same p.begun;
                open_still = ap (λ b. b || has_finished n past) is ∙ p.open_still;
                unnoted_still = ap (λ b. b || was_noted n i past) note_is ∙ p.unnoted_still;
                paged = subst (λ begin. pages_at begin ≡ true) same p.paged;
                after = subst (λ begin. x < time_at begin) same p.after;
                in_time = subst (λ begin. time_at begin ≤ by) same p.in_time;
                last =
                    ap (λ b. cond b (Some t) (cond (found_empty config name r past) None (begun_at config name past))) untaken
                    ∙ ap (λ b. cond b None (begun_at config name past)) full
                    ∙ p.last
                    ∙ ap (λ begin. Some (time_at begin)) same;
                held = in_time;
              },
            )

-- ---- each integration

module _ (config : Config) (id : ℕ) (name : GroupName) (labels : List Label) (slack hold x by : ℕ) where
  abbrev is : List (ℕ × Integration)
  is = integrations_of config name

  abbrev HearsIf : ℕ × Integration → List Record → Type 0
  HearsIf i past = AtEach (Succeeds name i.0 x) past → Hears config name labels i.0 id slack hold x by past

  hears : (past : List Record) → IsLegalPast config id past → AtEach IsOneFlushAtATime past → AtEach (IsReached config) past → AtEach LogsDelivered past → AtEach (IsDueOnTime slack hold config name labels x) past
      → AtSome (IsBegunFor config name labels x by) past → AllByRecursion (λ i. HearsIf i past) is
  hears [] legal once reached delivered due some = absurd some
  hears (r ∷ past) legal once reached delivered due (inl here) =
      let Reached : ℕ × Integration → Type 0 = λ i. (pages i.0 labels r.reply ≡ true) ⊎ HasHeard config name i.0 labels (time_at (r ∷ past)) past in
      all-weaker Reached (λ i. HearsIf i (r ∷ past)) (λ i h _. begin-hears config name labels i.0 id slack hold x by r past legal once here.taken here.after here.in_time h) is (all_to Reached is here.reached)
  hears (r ∷ past) legal once reached delivered due (inr there) =
      all-weaker (λ i. HearsIf i past) (λ i. HearsIf i (r ∷ past)) (λ i h succeeds. step i succeeds.0 (h succeeds.1)) is
      (hears past legal.1 once.1 reached.1 delivered.1 due.1 there)
    where
      step : (i : ℕ × Integration) → Succeeds name i.0 x r past → Hears config name labels i.0 id slack hold x by past → Hears config name labels i.0 id slack hold x by (r ∷ past)
      step i succeeds (inl heard) = inl (inr heard)
      step i succeeds (inr open_one) = step-paging config name labels i.0 id slack hold x by open_one.0 r past legal.1 once.0 reached.1 delivered.0 (λ after. (due.0 after).0) succeeds open_one.1

pub pages_are_delivered_in_time : EveryLegalHistory PagesAreDeliveredInTime
pages_are_delivered_in_time config id history legal slack hold x name labels due late =
    let past = past_of history in
    let back = histories_look_back config id history legal in
    let legals = legal_past config id history legal in
    let by : ℕ = begun_by config name hold x past + slack in
    let some = paged-before config id name labels slack hold x past legals back.once (no_page_is_dropped config id history legal) due (omega (arith, late)) in
    let Reached : ℕ × Integration → Type 0 = λ i. AtEach (Succeeds name i.0 x) past → AtSome (HearsBy config name i.0 labels x (by + hold)) past in
    all_from Reached (integrations_of config name)
    (all-weaker (λ i. HearsIf config id name labels slack hold x by i past) Reached (λ i h succeeds. ends i.0 by past late (h succeeds)) (integrations_of config name)
    (hears config id name labels slack hold x by past legals back.once back.notices back.only_delivered due some))
  where
    ends : (i by : ℕ) (past : List Record) → by + hold < time_at past → Hears config name labels i id slack hold x by past → AtSome (HearsBy config name i labels x (by + hold)) past
    ends i by past late (inl heard) = heard
    ends i by past late (inr open_one) = let held : time_at past ≤ by + hold = open_one.1.held in absurd (omega (arith, late, held))

-- Each missed span has its causes: what it has at the end, it has since each flush that comes in it.
use Rattle.std.proofs.Common.{◌≡◌, ◌∙◌, ℕ, ◌+◌, ◌≤◌, ◌⊎◌, inl, inr, Bool, true, false, cond, not, ◌&&◌, ◌||◌, ◌==◌, max, min, List, [], ◌∷◌, ◌++◌, All, IfSome, length, append_assoc, append-nil, map, slice_get, slice_index_or, drop, suc, Option, Some, None, refl, sym, ap, subst, arith}
use Rattle.std.specs.List.{AllByRecursion, enumerate_from}
use Rattle.std.specs.Option.{option_map, option_map_or}
use Rattle.std.specs.Prelude.{is_some, unwrap_or}
use Rattle.std.proofs.lemmas.Bool.{eq-eqb, lt-ltb}
use Rattle.std.proofs.lemmas.Option.{slice_get_within}
use Rattle.std.proofs.lemmas.Slice.Eq.{bytes_eq-Decides}
use Rattle.am_alerts.specs.declared.labels.Label.{Label}
use Rattle.am_alerts.specs.declared.limits.TheConstants.{MAX_TIME}
use Rattle.am_model.specs.declared.config.Config.{Config}
use Rattle.am_model.specs.declared.config.Integration.{Integration}
use Rattle.am_model.specs.declared.group.GroupName.{GroupName}
use Rattle.am_model.specs.declared.record.Record.{Record}
use Rattle.am_model.specs.Begin.{taken}
use Rattle.am_model.specs.Carry.{index_at, position_of}
use Rattle.am_model.specs.Config.{kind_at}
use Rattle.am_model.specs.Configured.{integrations_named, integrations_of, route_of}
use Rattle.am_model.specs.Finish.{is_delivered}
use Rattle.am_model.specs.Outcomes.{outcomes_in}
use Rattle.am_model.specs.Ticket.{outcome_of}
use Rattle.am_model.specs.look_back.Laws.{number_in}
use Rattle.am_model.specs.look_back.Past.{notices_in, takes}
use Rattle.am_model.specs.look_back.Presence.{goes_to, last_insert}
use Rattle.am_paging.specs.Paging.{pages}
use Rattle.am_model.specs.declared.preview.Preview.{Preview}
use Rattle.am_model.specs.Records.{now_of}
use Rattle.am_model.specs.Replay.{IsLegal}
use Rattle.am_model.specs.State.{GroupState, State, time}
use Rattle.am_model.specs.look_back.Entry.{alert_in}
use Rattle.am_model.specs.look_back.Past.{AtEach, time_at}
use Rattle.am_model.specs.look_back.Laws.{IsReplyFound}
use Rattle.am_model.specs.look_back.Preview.{preview, preview_by, preview_on}
use Rattle.am_model.specs.look_back.Reasons.{NotifiesForReasons, is_notified_in, notifies, reason_in}
use Rattle.am_model.proofs.configuration.Carried.{own-index}
use Rattle.am_model.proofs.legal.Histories.{beginnings_are_legal}
use Rattle.am_model.proofs.lists.Distinct.{all_from, all_to, all-both}
use Rattle.am_model.proofs.looking_back.LooksBack.{histories_look_back}
use Rattle.am_model.proofs.looking_back.Pasts.{IsLegalPast, legal_past, replay_is_past, state_after}
use Rattle.am_model.proofs.looking_back.alerts.FoundAlerts.{finds_past, steady_past}
use Rattle.am_model.proofs.looking_back.flushes.Opened.{Finds}
use Rattle.am_model.proofs.looking_back.rows.FoundRows.{finds_rows_past}
use Rattle.am_simulation.specs.Previews.{previews_of}
use Rattle.am_terms.specs.declared.event.PreviewedBegin.{PreviewedBegin}
use Rattle.am_timeline.specs.Playback.{PlaybackData, notices_at}
use Rattle.am_undelivered.specs.Spans.{Fact, Flushed, FlushData, SpanData, SpansData, after_fact, after_facts, facts_from, facts_in, facts_of, facts_at, fate_at, flush_of, flushed_span, is_unflushed, notified_by, position_for, rank, recipients_from, same_recipient, sent_of, spans_in}
use Rattle.am_undelivered.specs.Undelivered.{is_seen, missed_of}
use Rattle.am_undelivered.specs.declared.fate.Fate.{Fate}
use Rattle.am_undelivered.specs.declared.fate.Fate.TheVariants.{Failed, Muted, Seen, Unflushed, Unlisted}
use Rattle.am_undelivered.specs.declared.missed.Missed.TheVariants.{Clear, Page}
use Rattle.am_undelivered.specs.declared.recipient.Recipient.{Recipient}
use Rattle.am_undelivered.proofs.Facts.{after_append}
use Rattle.am_missed.specs.Causes.{ComesIn, Explains, FailsAt, HasRun, IsTakenIn, MissedSpansHaveCauses, TakenData, facts_before, is_muted_at, past_at, spans_listed, time_of}
use Rattle.am_missed.proofs.Begins.{TakesGroup, begin_of_record, count, facts_after, facts_here, facts-next, facts-split, shown_at, takes-group, takes-some, slice_get-seam}
use Rattle.am_missed.proofs.Fates.{comes-to, each-placed}
use Rattle.am_missed.proofs.Inserts.{FiresAt, FollowPast, IsBefore, before-dispatcher, each-record, past-more}
use Rattle.am_missed.proofs.Kept.{AllHaveCome, Came, HasCome, HaveComeAt, came-facts, come-listed, come-notified}
use Rattle.am_missed.proofs.Recipients.{has, has-led, has-named, same-from, same-is}

-- ---- words on lists

front-all : {X : Type 0} (P : X → Type 0) (xs ys : List X) → AllByRecursion P (xs ++ ys) → AllByRecursion P xs
front-all P [] ys all = tt
front-all P (x ∷ xs) ys all = (all.0, front-all P xs ys all.1)

seam-all : {X : Type 0} (P : X → Type 0) (xs : List X) (y : X) (ys : List X) → AllByRecursion P (xs ++ y ∷ ys) → P y
seam-all P [] y ys all = all.0
seam-all P (x ∷ xs) y ys all = seam-all P xs y ys all.1

drop-seam : {X : Type 0} (xs : List X) (y : X) (ys : List X) → drop (suc (length xs)) (xs ++ y ∷ ys) ≡ ys
drop-seam [] y ys = refl
drop-seam (x ∷ xs) y ys = drop-seam xs y ys

slice_get-end : {X : Type 0} (xs : List X) → slice_get xs (length xs) ≡ None
slice_get-end [] = refl
slice_get-end (x ∷ xs) = slice_get-end xs

pub facts_of-append : (n : ℕ) (ps qs : List PlaybackData) → facts_of n (ps ++ qs) ≡ facts_of n ps ++ facts_of (n + length ps) qs
facts_of-append n [] qs = let same : n ≡ n + 0 = omega arith in ap (λ k. facts_of k qs) same
facts_of-append n (p ∷ ps) qs =
    let same : n + 1 + length ps ≡ n + suc (length ps) = omega arith in
    ap (λ l. facts_in n p ++ l) (facts_of-append (n + 1) ps qs ∙ ap (λ k. facts_of (n + 1) ps ++ facts_of k qs) same)
    ∙ sym (append_assoc (facts_in n p) (facts_of (n + 1) ps) (facts_of (n + suc (length ps)) qs))

-- ---- what is listed

-- a missed span that is listed is listed with what its flushes came to
pub listed-page : (is_last : Bool) (span : SpanData) (r : Recipient) (fate : Fate) → missed_of is_last span r ≡ Some (Page fate) → r.page ≡ fate
listed-page is_last span r fate e = by (is_seen r.page) (r.resolves && (is_some span.ends && (not (is_seen r.clear) && (is_last || not (is_unflushed r.clear))))) e
  where
    by : (seen clear : Bool) → cond (not seen) (Some (Page r.page)) (cond clear (Some (Clear r.clear)) None) ≡ Some (Page fate) → r.page ≡ fate
    by false clear e = cc
    by true true e = absurd (cc)
    by true false e = absurd (cc)

-- and a span that wasn't seen is listed
pub page-listed : (is_last : Bool) (span : SpanData) (r : Recipient) → is_seen r.page ≡ false → missed_of is_last span r ≡ Some (Page r.page)
page-listed is_last span r e =
    ap (λ b. cond (not b) (Some (Page r.page)) (cond (r.resolves && (is_some span.ends && (not (is_seen r.clear) && (is_last || not (is_unflushed r.clear))))) (Some (Clear r.clear)) None)) e

-- what a flush came to says no more than what is listed
explained : (k : TakenData) (labels : List Label) (i : ℕ) (part begin : ℕ) (x fate : Fate)
    → ((x ≡ Muted part begin) × (is_muted_at k labels ≡ true)) ⊎ (((x ≡ Failed) × FailsAt k labels i) ⊎ (x ≡ Seen))
    → rank x ≤ rank fate → Explains fate k labels i
explained k labels i part begin x fate (inl h) le = by fate (subst (λ y. rank y ≤ rank fate) h.0 le)
  where
    by : (fate : Fate) → rank (Muted part begin) ≤ rank fate → Explains fate k labels i
    by Unflushed le = absurd (omega (arith, le))
    by Unlisted le = absurd (omega (arith, le))
    by (Muted p b) le = h.1
    by Failed le = inl h.1
    by Seen le = tt
explained k labels i part begin x fate (inr (inl h)) le = by fate (subst (λ y. rank y ≤ rank fate) h.0 le)
  where
    by : (fate : Fate) → rank Failed ≤ rank fate → Explains fate k labels i
    by Unflushed le = absurd (omega (arith, le))
    by Unlisted le = absurd (omega (arith, le))
    by (Muted p b) le = absurd (omega (arith, le))
    by Failed le = inr h.1
    by Seen le = tt
explained k labels i part begin x fate (inr (inr e)) le = by fate (subst (λ y. rank y ≤ rank fate) e le)
  where
    by : (fate : Fate) → rank Seen ≤ rank fate → Explains fate k labels i
    by Unflushed le = absurd (omega (arith, le))
    by Unlisted le = absurd (omega (arith, le))
    by (Muted p b) le = absurd (omega (arith, le))
    by Failed le = absurd (omega (arith, le))
    by Seen le = tt

some-rank : (part begin : ℕ) (A B : Type 0) (x : Fate) → ((x ≡ Muted part begin) × A) ⊎ (((x ≡ Failed) × B) ⊎ (x ≡ Seen)) → 1 ≤ rank x
some-rank part begin A B x (inl h) = subst (λ y. 1 ≤ rank y) (sym h.0) (omega arith)
some-rank part begin A B x (inr (inl h)) = subst (λ y. 1 ≤ rank y) (sym h.0) (omega arith)
some-rank part begin A B x (inr (inr e)) = subst (λ y. 1 ≤ rank y) (sym e) (omega arith)

-- ---- a flush that comes in a span

module _ (playbacks : List PlaybackData) (k : TakenData) (ran : HasRun k.playback) (taken_in : IsTakenIn playbacks k) where
  abbrev config : Config
  config = k.playback.config

  abbrev part : ℕ
  part = length k.before

  abbrev past : List Record
  past = past_at k

  abbrev t : ℕ
  t = time_of k

  abbrev q : Record
  q = k.taking

  abbrev s : State
  s = state_after config past

  abbrev whole : List Record
  whole = k.earlier ++ q ∷ k.later

  legal-whole : IsLegal config ran.id whole
  legal-whole = subst (IsLegal config ran.id) taken_in.records ran.legal

  begins-whole : k.playback.begins ≡ previews_of config whole
  begins-whole = ran.begins ∙ ap (previews_of config) taken_in.records

  pub legal-until : IsLegal config ran.id (k.earlier ++ q ∷ [])
  legal-until = beginnings_are_legal config ran.id (k.earlier ++ q ∷ []) k.later (subst (IsLegal config ran.id) (sym (append_assoc k.earlier (q ∷ []) k.later)) legal-whole)

  pub legal-now : IsLegalPast config ran.id (q ∷ past)
  legal-now = subst (IsLegalPast config ran.id) (past-more k.earlier q) (legal_past config ran.id (k.earlier ++ q ∷ []) legal-until)

  pub finds : Finds config s past
  finds = finds_past config ran.id past legal-now.1

  pub takes_it : TakesGroup s q.call q.reply
  takes_it = takes-group config ran.id s q.call q.reply legal-now.0 (takes-some k.name q.reply taken_in.takes)

  abbrev pub g : GroupState
  g = takes_it.group

  pub named : k.name ≡ g.name
  named = takes_it.named k.name taken_in.takes

  at : time s (now_of q.call) ≡ t
  at = ap (λ c. max c (min (now_of q.call) MAX_TIME)) finds.clock

  pub given : taken s t ≡ Some g
  given =
      subst (λ u. taken s u ≡ Some g) at
      (subst (λ c. taken s (time s (now_of c)) ≡ Some g) (sym takes_it.call) takes_it.given)

  abbrev to_do_then : Preview
  to_do_then = preview_on config s t (λ h. reason_in config h.name t past) g

  previewed : preview config k.earlier (now_of q.call) ≡ Some to_do_then
  previewed =
      ap (λ x. preview_by config x (time x (now_of q.call)) (λ h. reason_in config h.name (time x (now_of q.call)) past)) (replay_is_past config k.earlier)
      ∙ ap (λ u. preview_by config s u (λ h. reason_in config h.name u past)) at
      ∙ ap (option_map (preview_on config s t (λ h. reason_in config h.name t past))) given

  abbrev number : ℕ
  number = count k.playback k.earlier

  abbrev its_begin : PreviewedBegin
  its_begin = record { index = length k.earlier; preview = to_do_then }

  begin-is : begin_of_record k.playback k.earlier q ≡ Some its_begin
  begin-is = λ j. shown_at (length k.earlier) (takes-some k.name q.reply taken_in.takes j) (previewed j)

  -- the flush
  abbrev pub f : FlushData
  f = record { part = part; begin = number; config = config; preview = to_do_then; sent = map (sent_of k.later) (notices_in q.reply) }

  flush-is : flush_of part k.playback number its_begin ≡ f
  flush-is =
      λ j. record { part = part; begin = number; config = config; preview = to_do_then; sent = map (sent_of (later j)) (notices j) }
    where
      later : drop (length k.earlier + 1) k.playback.history ≡ k.later
      later =
          let next : length k.earlier + 1 ≡ suc (length k.earlier) = omega arith in
          (λ j. drop (next j) (taken_in.records j)) ∙ drop-seam k.earlier q k.later

      notices : notices_at k.playback.history (length k.earlier) ≡ notices_in q.reply
      notices =
          ap (λ h. notices_at h (length k.earlier)) taken_in.records
          ∙ ap (λ o. option_map_or (λ (r : Record). notices_in r.reply) o []) (slice_get-seam k.earlier (q ∷ k.later))

  pub here-is : facts_here k.playback part k.earlier q ≡ Flushed f ∷ []
  here-is =
      ap (λ o. facts_at part k.playback number o q) begin-is ∙ ap (λ x. Flushed x ∷ []) flush-is

  -- ---- what its reply has

  pub returned : IsReplyFound config t past q.reply
  returned =
      (subst (AtEach (λ x before. IsReplyFound config (time_at (x ∷ before)) before x.reply)) (past-more k.earlier q)
      (histories_look_back config ran.id (k.earlier ++ q ∷ []) legal-until).notices).0

  reasoned : NotifiesForReasons config q past
  reasoned =
      (subst (AtEach (NotifiesForReasons config)) (past-more k.earlier q) (histories_look_back config ran.id (k.earlier ++ q ∷ []) legal-until).reasons).0

  pub takes_own : takes g.name q.reply ≡ true
  takes_own = subst (λ n. takes n q.reply ≡ true) named taken_in.takes

  -- ---- what happens in the rehearsal

  abbrev since : List Fact
  since = facts_after k.playback part (k.earlier ++ q ∷ []) k.later ++ facts_of (part + 1) k.after

  abbrev first_facts : List Fact
  first_facts = facts_after k.playback part [] k.earlier

  part-is : facts_in part k.playback ≡ first_facts ++ (Flushed f ∷ facts_after k.playback part (k.earlier ++ q ∷ []) k.later)
  part-is =
      ap (facts_from part k.playback 0 0) taken_in.records
      ∙ facts-split k.playback part [] k.earlier (q ∷ k.later) [] (begins-whole ∙ ap (λ l. previews_of config (k.earlier ++ q ∷ l)) (sym (append-nil k.later)))
      ∙ ap (λ l. first_facts ++ l) (facts-next k.playback part k.earlier q k.later k.later begins-whole ∙ ap (λ h. h ++ facts_after k.playback part (k.earlier ++ q ∷ []) k.later) here-is)

  facts-are : facts_of 0 playbacks ≡ facts_before k ++ (Flushed f ∷ since)
  facts-are =
      let same : 0 + part ≡ part = omega arith in
      ap (facts_of 0) taken_in.dispatchers
      ∙ facts_of-append 0 k.before (k.playback ∷ k.after)
      ∙ ap (λ n. facts_of 0 k.before ++ facts_of n (k.playback ∷ k.after)) same
      ∙ ap (λ l. facts_of 0 k.before ++ (l ++ facts_of (part + 1) k.after)) part-is
      ∙ ap (λ l. facts_of 0 k.before ++ l) (append_assoc first_facts (Flushed f ∷ facts_after k.playback part (k.earlier ++ q ∷ []) k.later) (facts_of (part + 1) k.after))
      ∙ sym (append_assoc (facts_of 0 k.before) first_facts (Flushed f ∷ since))

  module _ (labels : List Label) (position : ℕ) (comes : ComesIn labels position k) where
    -- ---- what the span has then

    abbrev rs : List Recipient
    rs = comes.spans.last.recipients

    pub fires-then : FiresAt config labels (last_insert labels past) t rs
    fires-then =
        let o = after_facts labels (facts_of 0 k.before) None in
        let in_time = front-all (λ r. IfSome (alert_in r.call) (λ a. now_of r.call ≤ MAX_TIME)) k.earlier (q ∷ k.later)
        (subst (AllByRecursion (λ r. IfSome (alert_in r.call) (λ a. now_of r.call ≤ MAX_TIME))) taken_in.records (all_to (λ r. IfSome (alert_in r.call) (λ a. now_of r.call ≤ MAX_TIME)) k.playback.history ran.times)) in
        let followed = each-record part k.playback labels ran.id [] k.earlier (q ∷ k.later) legal-whole begins-whole in_time o (none o (before-dispatcher labels k.before)) in
        let is_known : after_facts labels first_facts o ≡ Some comes.spans = sym (after_append labels (facts_of 0 k.before) first_facts None) ∙ comes.known in
        subst (FollowPast part k.playback labels past) is_known followed comes.inserted t (omega arith) comes.fires
      where
        none : (o : Option SpansData) → IsBefore part o → FollowPast part k.playback labels [] o
        none None before = tt
        none (Some x) before = λ own t come fires. absurd (omega (arith, own, before))

    goes : goes_to config g.name labels ≡ true
    goes = subst (λ (n : GroupName). goes_to config n labels ≡ true) named comes.leads

    abbrev after_flush : SpansData
    after_flush =
        record {
          before = comes.spans.before;
          last = record { since = comes.spans.last.since; ends = comes.spans.last.ends; recipients = map (notified_by f labels true) rs };
          part = comes.spans.part;
        }

    flushed-is : after_fact labels (Flushed f) (Some comes.spans) ≡ Some after_flush
    flushed-is =
        let own : (comes.spans.part == part) ≡ true = eq-eqb comes.spans.part part comes.inserted in
        (λ j. cond (goes j) (Some (cond (own j) (record { before = comes.spans.before; last = flushed_span f labels comes.spans.last; part = comes.spans.part }) comes.spans)) (Some comes.spans))
        ∙ ap (λ b. Some (record { before = comes.spans.before; last = record { since = comes.spans.last.since; ends = comes.spans.last.ends; recipients = map (notified_by f labels (not b)) rs }; part = comes.spans.part })) comes.fires

    -- ---- each integration has come to so much, at the flush and at the end

    module _ (final : SpansData) (span : SpanData) (in_rehearsal : spans_in playbacks labels ≡ Some final) (at_position : slice_get (spans_listed final) position ≡ Some span) (r : Recipient) (receiver : (route_of config g.name).receiver ≡ r.receiver) where
      abbrev integrations : List Integration
      integrations = integrations_named (route_of config g.name).receiver config.receivers

      for-own : (i : ℕ × Integration) → slice_get integrations i.0 ≡ Some i.1 → index_at integrations i.0 ≡ r.index → i.1.kind ≡ r.kind → (x : Recipient) → same_recipient r x ≡ true → position_for f x ≡ Some i.0
      for-own i there at_index kind x e =
          let same = same-is r x e in
          let within = slice_get_within integrations i.0 i.1 there in
          let kind_is : kind_at integrations i.0 ≡ x.kind = ap (λ o. unwrap_or (option_map (λ (y : Integration). y.kind) o) []) there ∙ kind ∙ same.kind in
          let index_is : index_at integrations i.0 ≡ x.index = at_index ∙ same.index in
          let found : position_of (kind_at integrations i.0) (index_at integrations i.0) 0 integrations ≡ Some i.0 =
          sym (ap (λ b. cond b (position_of (kind_at integrations i.0) (index_at integrations i.0) 0 integrations) None) (lt-ltb i.0 (length integrations) within)) ∙ own-index integrations i.0 within in
          ap (λ b. cond b (position_of x.kind x.index 0 integrations) None) ((bytes_eq-Decides (route_of config g.name).receiver x.receiver).1 (receiver ∙ same.receiver))
          ∙ (λ j. position_of (sym kind_is j) (sym index_is j) 0 integrations) ∙ found

      come-later : (m : ℕ) → 1 ≤ m → AllHaveCome m r (map (notified_by f labels true) rs) → AllHaveCome m r span.recipients
      come-later m some all =
          let started : HaveComeAt m some r position after_flush = record {
            within = subst (λ n. n ≤ length comes.spans.before) comes.last (omega arith);
            before = λ x e. absurd (nothing x (subst (λ n. slice_get comes.spans.before n ≡ Some x) (sym comes.last) e));
            last = λ e. all;
          } in
          let later = came-facts m some r position labels since (Some after_flush) started in
          let is : after_facts labels since (Some after_flush) ≡ Some final =
          ap (after_facts labels since) (sym flushed-is)
          ∙ ap (λ o. after_facts labels since (after_fact labels (Flushed f) o)) (sym comes.known)
          ∙ sym (after_append labels (facts_before k) (Flushed f ∷ since) None)
          ∙ ap (λ l. after_facts labels l None) (sym facts-are)
          ∙ in_rehearsal in
          come-listed m some r position final span (subst (Came m some r position) is later) at_position
        where
          nothing : (x : SpanData) → slice_get comes.spans.before (length comes.spans.before) ≡ Some x → ⊥
          nothing x e = impossible (sym (slice_get-end comes.spans.before) ∙ e)
            where
              impossible : None ≡ Some x → ⊥
              impossible e = cc

      -- what is listed says no less than each flush did
      abbrev SaysSo : Fate → Type 0
      SaysSo fate = (m : ℕ) → 1 ≤ m → AllHaveCome m r (map (notified_by f labels true) rs) → m ≤ rank fate

      abbrev IsPlaced : ℕ × Integration → Type 0
      IsPlaced i = (slice_get (enumerate_from 0 integrations) i.0 ≡ Some i) × (slice_get integrations i.0 ≡ Some i.1)

      abbrev IsNamed : ℕ × Integration → Type 0
      IsNamed i = index_at integrations i.0 ≡ r.index → i.1.kind ≡ r.kind → has r (recipients_from (route_of config g.name).receiver integrations 0 integrations) ≡ true

      abbrev IsReasoned : ℕ × Integration → Type 0
      IsReasoned i = is_notified_in i.0 q.reply ≡ notifies (reason_in config g.name t past i)

      abbrev own_taken : TakenData
      own_taken = record k { name = g.name }

      abbrev Explained : Fate → ℕ × Integration → Type 0
      Explained fate i = index_at integrations i.0 ≡ r.index → i.1.kind ≡ r.kind → Explains fate own_taken labels i.0

      one : (fate : Fate) → SaysSo fate → (i : ℕ × Integration) → IsPlaced i → IsNamed i → IsReasoned i → Explained fate i
      one fate says i placed is_named is_reasoned at_place kind =
          let clock = finds.clock in
          let fires = fires-then in
          let outcome =
          comes-to config s past t (omega (arith, clock)) (steady_past config past) finds (finds_rows_past config ran.id past legal-now.1) g given labels (omega arith) fires.member goes fires.inserted fires.fires
          q returned takes_own k.later part number i placed.0 is_reasoned in
          let is_there : has r rs ≡ true = fires.led r (has-led r config g.name labels goes (is_named at_place kind)) in
          let all = come-notified r f labels i.0 (for-own i placed.1 at_place kind) rs is_there in
          let less = says (rank (fate_at f labels true i.0)) (some-rank part number (is_muted_at own_taken labels ≡ true) (HasFailed_then i.0) (fate_at f labels true i.0) outcome) all in
          explained own_taken labels i.0 part number (fate_at f labels true i.0) fate (fails outcome) less
        where
          HasFailed_then : ℕ → Type 0
          HasFailed_then n = (pages n labels q.reply ≡ true) × (is_delivered (outcome_of (outcomes_in (number_in q.reply) k.later) n) ≡ false)

          Then : Type 0 → Type 0
          Then Failure = ((fate_at f labels true i.0 ≡ Muted part number) × (is_muted_at own_taken labels ≡ true)) ⊎ (((fate_at f labels true i.0 ≡ Failed) × Failure) ⊎ (fate_at f labels true i.0 ≡ Seen))

          fails : Then (HasFailed_then i.0) → Then (FailsAt own_taken labels i.0)
          fails (inl h) = inl h
          fails (inr (inl h)) = inr (inl (h.0, record { sent = h.1.0; undelivered = h.1.1 }))
          fails (inr (inr e)) = inr (inr e)

      all-explained : (fate : Fate) → SaysSo fate → All (Explained fate) (integrations_of config g.name)
      all-explained fate says =
          let is = integrations_of config g.name in
          all_from (Explained fate) is
          (all-both (λ i. IsPlaced i × IsNamed i) IsReasoned (Explained fate) (λ i h reasoned. one fate says i h.0 h.1 reasoned) is
          (all-both IsPlaced IsNamed (λ i. IsPlaced i × IsNamed i) (λ i placed named. (placed, named)) is (each-placed integrations) (has-named r (route_of config g.name).receiver receiver integrations 0 integrations))
          (all_to IsReasoned is (reasoned.each g.name takes_own)))

-- ---- the law

pub missed_spans_have_causes : MissedSpansHaveCauses
missed_spans_have_causes playbacks ran labels final position span is_last in_rehearsal at_position index d inside fate listed k taken_in comes receiver =
    let config = k.playback.config in
    let r = slice_index_or span.recipients index d in
    let ran_here = seam-all HasRun k.before k.playback k.after (subst (AllByRecursion HasRun) taken_in.dispatchers (all_to HasRun playbacks ran)) in
    let own : k.name ≡ (takes_it playbacks k ran_here taken_in).group.name = named playbacks k ran_here taken_in in
    let receiver_own = ap (λ n. (route_of config n).receiver) (sym own) ∙ receiver in
    let page : r.page ≡ fate = listed-page is_last span r fate listed in
    subst (λ n. All (λ i. index_at (integrations_named (route_of config n).receiver config.receivers) i.0 ≡ r.index → i.1.kind ≡ r.kind → Explains fate (record k { name = n }) labels i.0) (integrations_of config n)) (sym own)
    (all-explained playbacks k ran_here taken_in labels position comes final span in_rehearsal at_position r receiver_own fate
    (λ m some all.
    let later = come-later playbacks k ran_here taken_in labels position comes final span in_rehearsal at_position r receiver_own m some all in
    subst (λ x. m ≤ rank x) page
    (all_from (HasCome m r) span.recipients later.each index d inside (same-from r r (record { receiver = refl; kind = refl; index = refl })))))

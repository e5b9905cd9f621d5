-- What a span that isn't over has at a flush of its dispatcher: the last insert fires, and those are to be notified to whom the routes lead.
use Rattle.std.proofs.Common.{◌≡◌, ◌∙◌, ℕ, ◌+◌, ◌≤◌, ◌<◌, max, min, Bool, true, false, cond, not, ◌==◌, List, [], ◌∷◌, ◌++◌, IfSome, length, append_assoc, append-nil, Option, Some, None, refl, sym, ap, subst, arith}
use Rattle.std.specs.List.{AllByRecursion}
use Rattle.std.proofs.lemmas.Bool.{false≢true}
use Rattle.std.proofs.lemmas.List.{reverse-append}
use Rattle.am_alerts.specs.AlertData.{AlertData, alert_of, has_come, is_resolved}
use Rattle.am_alerts.specs.Labels.{same_label_set}
use Rattle.am_alerts.specs.LabelOrder.{same_label_set_equiv, same_label_set-decides}
use Rattle.am_alerts.specs.declared.labels.Label.{Label}
use Rattle.am_alerts.specs.declared.limits.TheConstants.{MAX_TIME}
use Rattle.am_model.specs.declared.config.Config.{Config}
use Rattle.am_model.specs.declared.preview.Preview.{Preview}
use Rattle.am_model.specs.declared.record.Call.{Call}
use Rattle.am_model.specs.declared.record.Call.TheVariants.{Insert, Silence, Begin, Finish, Maintain, RemoveEmptyGroups, Forget, Load, Note}
use Rattle.am_model.specs.declared.record.Record.{Record}
use Rattle.am_model.specs.Records.{now_of}
use Rattle.am_model.specs.Replay.{reply, replay, IsLegal}
use Rattle.am_model.specs.State.{MemberState}
use Rattle.am_model.specs.look_back.Entry.{alert_in}
use Rattle.am_model.specs.look_back.Past.{Past, past_of, time_at}
use Rattle.am_model.specs.look_back.Presence.{goes_to, inserts, inserted_by, last_insert, stamp_returned}
use Rattle.am_model.specs.look_back.Preview.{preview}
use Rattle.am_model.proofs.legal.Histories.{beginnings_are_legal, legal_appends}
use Rattle.am_model.proofs.looking_back.rows.RowSteps.{still-resolved}
use Rattle.am_simulation.specs.Previews.{previews_of, takes_group}
use Rattle.am_terms.specs.declared.event.PreviewedBegin.{PreviewedBegin}
use Rattle.am_timeline.specs.Playback.{PlaybackData}
use Rattle.am_undelivered.specs.Spans.{Fact, Flushed, FlushData, Inserted, SpanData, SpansData, after_fact, after_facts, begin_at, begun_span, facts_at, facts_from, facts_in, facts_of, flush_of, flushed, flushed_span, inserted, inserted_again, inserts_at, next_begin, recipients_of, with_flush, with_recipients}
use Rattle.am_undelivered.specs.declared.recipient.Recipient.{Recipient}
use Rattle.am_undelivered.proofs.Facts.{after_append}
use Rattle.am_missed.proofs.Begins.{takes-group, count, facts_after, facts_here, facts-next, shown_at}
use Rattle.am_missed.proofs.Recipients.{has, has-added, has-flushed}

-- ---- facts of earlier dispatchers

-- an insert is under a dispatcher before this one
abbrev IsBelow : ℕ → Fact → Type 0
IsBelow m (Inserted part config t a) = part < m
IsBelow m (Flushed f) = Unit {0}

abbrev pub IsBefore : ℕ → Option SpansData → Type 0
IsBefore m o = IfSome o (λ s. s.part < m)

all-append : {X : Type 0} (P : X → Type 0) (xs ys : List X) → AllByRecursion P xs → AllByRecursion P ys → AllByRecursion P (xs ++ ys)
all-append P [] ys all more = more
all-append P (x ∷ xs) ys all more = (all.0, all-append P xs ys all.1 more)

module _ (m : ℕ) where
  before-fact : (labels : List Label) (x : Fact) (o : Option SpansData) → IsBelow m x → IsBefore m o → IsBefore m (after_fact labels x o)
  before-fact labels (Inserted part config t a) None below h =
      elim (same_label_set a.labels labels) as (λ b. IsBefore m (cond b (cond (is_resolved a t) None (Some (record { before = []; last = begun_span config a; part = part }))) None)) [
        | true ↦ elim (is_resolved a t) as (λ b. IsBefore m (cond b None (Some (record { before = []; last = begun_span config a; part = part })))) [ true ↦ tt | false ↦ below ]
        | false ↦ tt
      ]
  before-fact labels (Inserted part config t a) (Some s) below h =
      elim (same_label_set a.labels labels) as (λ b. IsBefore m (cond b (inserted part config t a (Some s)) (Some s))) [
        | true ↦ by (not (has_come s.last.ends t)) (is_resolved a t)
        | false ↦ h
      ]
    where
      by : (goes resolved : Bool)
          → IsBefore m (cond goes (Some (record { before = s.before; last = inserted_again config a s.last; part = part }))
          (cond resolved (Some (record { before = s.before; last = s.last; part = part })) (Some (record { before = s.before ++ s.last ∷ []; last = begun_span config a; part = part }))))
      by true resolved = below
      by false true = below
      by false false = below
  before-fact labels (Flushed f) None below h =
      elim (goes_to f.config f.preview.group labels) as (λ b. IsBefore m (cond b None None)) [ true ↦ tt | false ↦ tt ]
  before-fact labels (Flushed f) (Some s) below h =
      elim (goes_to f.config f.preview.group labels) as (λ b. IsBefore m (cond b (Some (flushed f labels s)) (Some s))) [
        | true ↦ elim (s.part == f.part) as (λ b. (cond b (record { before = s.before; last = flushed_span f labels s.last; part = s.part }) s).part < m) [ true ↦ h | false ↦ h ]
        | false ↦ h
      ]

  before-facts : (labels : List Label) (xs : List Fact) (o : Option SpansData) → AllByRecursion (IsBelow m) xs → IsBefore m o → IsBefore m (after_facts labels xs o)
  before-facts labels [] o all h = h
  before-facts labels (x ∷ xs) o all h = before-facts labels xs (after_fact labels x o) all.1 (before-fact labels x o all.0 h)

  below-here : (part : ℕ) (p : PlaybackData) (begin : ℕ) (o : Option PreviewedBegin) (r : Record) → part < m → AllByRecursion (IsBelow m) (facts_at part p begin o r)
  below-here part p begin (Some b) r less = (tt, tt)
  below-here part p begin None r less = by (alert_in r.call)
    where
      by : (o : Option AlertData) → AllByRecursion (IsBelow m) (inserts_at part p.config (now_of r.call) o)
      by None = tt
      by (Some a) = (less, tt)

  below-from : (part : ℕ) (p : PlaybackData) (begin index : ℕ) (rs : List Record) → part < m → AllByRecursion (IsBelow m) (facts_from part p begin index rs)
  below-from part p begin index [] less = tt
  below-from part p begin index (r ∷ rs) less =
      let o = begin_at p.begins index begin in
      all-append (IsBelow m) (facts_at part p begin o r) (facts_from part p (next_begin begin o) (index + 1) rs) (below-here part p begin o r less)
      (below-from part p (next_begin begin o) (index + 1) rs less)

  below-of : (part : ℕ) (ps : List PlaybackData) → part + length ps ≤ m → AllByRecursion (IsBelow m) (facts_of part ps)
  below-of part [] le = tt
  below-of part (p ∷ ps) le =
      all-append (IsBelow m) (facts_in part p) (facts_of (part + 1) ps) (below-from part p 0 0 p.history (omega (arith, le))) (below-of (part + 1) ps (omega (arith, le)))

-- before a dispatcher, each last insert was under an earlier one
pub before-dispatcher : (labels : List Label) (ps : List PlaybackData) → IsBefore (length ps) (after_facts labels (facts_of 0 ps) None)
before-dispatcher labels ps = before-facts (length ps) labels (facts_of 0 ps) None (below-of (length ps) 0 ps (omega arith)) tt

-- ---- a span that isn't over

-- the last insert fires at t, and those are among some to whom the routes lead
pub record FiresAt (config : Config) (labels : List Label) (last : Option MemberState) (t : ℕ) (rs : List Recipient) : Type 0 where
  pub member : MemberState
  pub inserted : last ≡ Some member
  pub fires : is_resolved member.alert t ≡ false
  pub led : (k : Recipient) → has k (recipients_of config labels) ≡ true → has k rs ≡ true

module _ (part : ℕ) (config : Config) (labels : List Label) where
  -- so it is with the last span at each time from one on at which it isn't over, if its last insert was under this dispatcher
  abbrev pub Follows : Option MemberState → ℕ → SpansData → Type 0
  Follows last from s = s.part ≡ part → (t : ℕ) → from ≤ t → has_come s.last.ends t ≡ false → FiresAt config labels last t s.last.recipients

  abbrev pub Follow : Option MemberState → ℕ → Option SpansData → Type 0
  Follow last from o = IfSome o (Follows last from)

  later : (last : Option MemberState) (from next : ℕ) → from ≤ next → (o : Option SpansData) → Follow last from o → Follow last next o
  later last from next le None h = tt
  later last from next le (Some s) h = λ own t come fires. h own t (omega (arith, le, come)) fires

  -- a span that has the end of the last insert
  begins : (a : AlertData) (stamp from : ℕ) → labels ≡ a.labels → (before : List SpanData) (since : ℕ) (rs : List Recipient)
      → Follows (Some (record { alert = a; stamp = stamp })) from (record { before = before; last = record { since = since; ends = a.ends; recipients = with_recipients rs (recipients_of config a.labels) }; part = part })
  begins a stamp from same before since rs own t come fires =
      record {
        member = record { alert = a; stamp = stamp };
        inserted = refl;
        fires = fires;
        led = λ k is. has-added k rs (recipients_of config a.labels) (subst (λ l. has k (recipients_of config l) ≡ true) same is);
      }

  -- after its insert
  own-insert : (now stamp from : ℕ) (a : AlertData) → labels ≡ a.labels → now ≤ from → (o : Option SpansData) → Follow (Some (record { alert = a; stamp = stamp })) from (inserted part config now a o)
  own-insert now stamp from a same come None =
      elim (is_resolved a now) as (λ b. Follow (Some (record { alert = a; stamp = stamp })) from (cond b None (Some (record { before = []; last = begun_span config a; part = part })))) [
        | true ↦ tt
        | false ↦ begins a stamp from same [] a.starts []
      ]
  own-insert now stamp from a same come (Some s) = by (has_come s.last.ends now) refl (is_resolved a now)
    where
      last : Option MemberState
      last = Some (record { alert = a; stamp = stamp })

      over : has_come s.last.ends now ≡ true → Follows last from (record { before = s.before; last = s.last; part = part })
      over is own t later fires = absurd (false≢true (sym fires ∙ still-resolved (alert_of [] 0 s.last.ends) now t (omega (arith, come, later)) is))

      by : (come : Bool) → has_come s.last.ends now ≡ come → (resolved : Bool)
          → Follow last from (cond (not come) (Some (record { before = s.before; last = inserted_again config a s.last; part = part }))
          (cond resolved (Some (record { before = s.before; last = s.last; part = part })) (Some (record { before = s.before ++ s.last ∷ []; last = begun_span config a; part = part }))))
      by false is resolved = begins a stamp from same s.before s.last.since (with_flush s.last.recipients)
      by true is true = over is
      by true is false = begins a stamp from same (s.before ++ s.last ∷ []) a.starts []

  -- the last insert, and the time, after a call
  abbrev last_after : Option MemberState → ℕ → Call → Option MemberState
  last_after last stamp c = cond (inserts labels c) (inserted_by stamp c) last

  abbrev time_after : ℕ → Call → ℕ
  time_after from c = max from (min (now_of c) MAX_TIME)

  after-insert : (now stamp from : ℕ) (a : AlertData) (last : Option MemberState) (o : Option SpansData) → now ≤ MAX_TIME → Follow last from o
      → Follow (last_after last stamp (Insert now a)) (time_after from (Insert now a)) (after_fact labels (Inserted part config now a) o)
  after-insert now stamp from a last o in_time h =
      let from_then = time_after from (Insert now a) in
      elim (same_label_set a.labels labels) as (λ b. same_label_set a.labels labels ≡ b → Follow (last_after last stamp (Insert now a)) from_then (cond b (inserted part config now a o) o)) [
        | true ↦ λ e.
            let same : a.labels ≡ labels = (same_label_set-decides a.labels labels).0 e in
            subst (λ b. Follow (cond b (Some (record { alert = a; stamp = stamp })) last) from_then (inserted part config now a o)) (sym (same_label_set_equiv.symm labels a.labels ∙ e))
            (own-insert now stamp from_then a (sym same) (omega (arith, in_time)) o)
        | false ↦ λ e.
            subst (λ b. Follow (cond b (Some (record { alert = a; stamp = stamp })) last) from_then o) (sym (same_label_set_equiv.symm labels a.labels ∙ e))
            (later last from from_then (omega arith) o h)
      ] refl

  -- after a call that begins no flush
  after-call : (c : Call) (stamp from : ℕ) (last : Option MemberState) (o : Option SpansData) → IfSome (alert_in c) (λ a. now_of c ≤ MAX_TIME) → Follow last from o
      → Follow (last_after last stamp c) (time_after from c) (after_facts labels (inserts_at part config (now_of c) (alert_in c)) o)
  after-call (Insert now a) stamp from last o in_time h = after-insert now stamp from a last o in_time h
  after-call (Silence now id matchers start end) stamp from last o in_time h = later last from (time_after from (Silence now id matchers start end)) (omega arith) o h
  after-call (Begin now) stamp from last o in_time h = later last from (time_after from (Begin now)) (omega arith) o h
  after-call (Finish now number outcomes) stamp from last o in_time h = later last from (time_after from (Finish now number outcomes)) (omega arith) o h
  after-call (Maintain now) stamp from last o in_time h = later last from (time_after from (Maintain now)) (omega arith) o h
  after-call (RemoveEmptyGroups now) stamp from last o in_time h = later last from (time_after from (RemoveEmptyGroups now)) (omega arith) o h
  after-call (Forget now) stamp from last o in_time h = later last from (time_after from (Forget now)) (omega arith) o h
  after-call (Load now row) stamp from last o in_time h = later last from (time_after from (Load now row)) (omega arith) o h
  after-call (Note now number integration outcome) stamp from last o in_time h = later last from (time_after from (Note now number integration outcome)) (omega arith) o h

  -- after a flush
  after-flush : (f : FlushData) (from : ℕ) (last : Option MemberState) (o : Option SpansData) → Follow last from o → Follow last from (after_fact labels (Flushed f) o)
  after-flush f from last None h =
      elim (goes_to f.config f.preview.group labels) as (λ b. Follow last from (cond b None None)) [ true ↦ tt | false ↦ tt ]
  after-flush f from last (Some s) h =
      elim (goes_to f.config f.preview.group labels) as (λ b. Follow last from (cond b (Some (flushed f labels s)) (Some s))) [
        | true ↦ elim (s.part == f.part) as (λ b. Follows last from (cond b (record { before = s.before; last = flushed_span f labels s.last; part = s.part }) s)) [ true ↦ there | false ↦ h ]
        | false ↦ h
      ]
    where
      there : Follows last from (record { before = s.before; last = flushed_span f labels s.last; part = s.part })
      there own t come fires =
          let before = h own t come fires in
          record {
            member = before.member;
            inserted = before.inserted;
            fires = before.fires;
            led = λ k is. has-flushed k f labels (not (has_come s.last.ends f.preview.time)) s.last.recipients ∙ before.led k is;
          }

-- ---- record by record

-- a record of a legal history returned the reply that was due
pub reply-due : (config : Config) (id : ℕ) (es : List Record) (q : Record) (rest : List Record) → IsLegal config id (es ++ q ∷ rest) → reply config id (replay config es) q.call ≡ Some q.reply
reply-due config id es q rest legal =
    ((legal_appends config id es q).0 (beginnings_are_legal config id (es ++ q ∷ []) rest (subst (IsLegal config id) (sym (append_assoc es (q ∷ []) rest)) legal))).1

pub past-more : (es : List Record) (q : Record) → past_of (es ++ q ∷ []) ≡ q ∷ past_of es
past-more es q = reverse-append es (q ∷ [])

module _ (part : ℕ) (p : PlaybackData) (labels : List Label) where
  abbrev pub FollowPast : Past → Option SpansData → Type 0
  FollowPast past o = Follow part p.config labels (last_insert labels past) (time_at past) o

  one-record : (id : ℕ) (es : List Record) (q : Record) (rest : List Record) → IsLegal p.config id (es ++ q ∷ rest) → IfSome (alert_in q.call) (λ a. now_of q.call ≤ MAX_TIME)
      → (o : Option SpansData) → FollowPast (past_of es) o → FollowPast (q ∷ past_of es) (after_facts labels (facts_here p part es q) o)
  one-record id es q rest legal in_time o h = by (takes_group q.reply) refl (preview p.config es (now_of q.call))
    where
      past : Past
      past = past_of es

      still : (c : Call) → (now : ℕ) → c ≡ Begin now → inserts labels c ≡ false
      still c now e = ap (inserts labels) e

      by : (shown : Bool) → takes_group q.reply ≡ shown → (to_do : Option Preview)
          → FollowPast (q ∷ past) (after_facts labels (facts_at part p (count p es) (shown_at (length es) shown to_do) q) o)
      by true e (Some to_do) =
          let given = takes-group p.config id (replay p.config es) q.call q.reply (reply-due p.config id es q rest legal) e in
          let f = flush_of part p (count p es) (record { index = length es; preview = to_do }) in
          subst (λ b. Follow part p.config labels (cond b (inserted_by (stamp_returned q.reply) q.call) (last_insert labels past)) (time_at (q ∷ past)) (after_fact labels (Flushed f) o)) (sym (still q.call given.now given.call))
          (later part p.config labels (last_insert labels past) (time_at past) (time_at (q ∷ past)) (omega arith) (after_fact labels (Flushed f) o)
          (after-flush part p.config labels f (time_at past) (last_insert labels past) o h))
      by true e None = after-call part p.config labels q.call (stamp_returned q.reply) (time_at past) (last_insert labels past) o in_time h
      by false e to_do = after-call part p.config labels q.call (stamp_returned q.reply) (time_at past) (last_insert labels past) o in_time h

  abbrev IsInTime : Record → Type 0
  IsInTime r = IfSome (alert_in r.call) (λ a. now_of r.call ≤ MAX_TIME)

  pub each-record : (id : ℕ) (es xs rest : List Record) → IsLegal p.config id (es ++ (xs ++ rest)) → p.begins ≡ previews_of p.config (es ++ (xs ++ rest)) → AllByRecursion IsInTime xs
      → (o : Option SpansData) → FollowPast (past_of es) o → FollowPast (past_of (es ++ xs)) (after_facts labels (facts_after p part es xs) o)
  each-record id es [] rest legal begins in_time o h = subst (λ l. FollowPast (past_of l) o) (sym (append-nil es)) h
  each-record id es (x ∷ xs) rest legal begins in_time o h =
      let moved : es ++ (x ∷ xs ++ rest) ≡ (es ++ x ∷ []) ++ (xs ++ rest) = sym (append_assoc es (x ∷ []) (xs ++ rest)) in
      let here = facts_here p part es x in
      let then_facts = facts_after p part (es ++ x ∷ []) xs in
      let next = each-record id (es ++ x ∷ []) xs rest (subst (IsLegal p.config id) moved legal) (begins ∙ ap (previews_of p.config) moved) in_time.1 (after_facts labels here o)
      (subst (λ past. FollowPast past (after_facts labels here o)) (sym (past-more es x)) (one-record id es x (xs ++ rest) legal in_time.0 o h)) in
      subst (λ l. FollowPast (past_of l) (after_facts labels (facts_after p part es (x ∷ xs)) o)) (append_assoc es (x ∷ []) xs)
      (subst (FollowPast (past_of ((es ++ x ∷ []) ++ xs))) (sym (ap (λ fs. after_facts labels fs o) (facts-next p part es x xs (xs ++ rest) begins) ∙ after_append labels here then_facts o)) next)

-- What is listed came of a flush: by each fact of a rehearsal, each fate of an integration is that of a flush that came in its span.
use Rattle.std.proofs.Common.{◌≡◌, ◌∙◌, ℕ, zero, suc, ◌+◌, ◌⊎◌, inl, inr, Bool, true, false, cond, not, ◌==◌, nat_lt, List, [], ◌∷◌, ◌++◌, IfSome, length, append_assoc, append-nil, slice_get, slice_index_or, Option, Some, None, refl, sym, ap, subst, arith}
use Rattle.std.specs.List.{AllByRecursion, flat_map, list_any}
use Rattle.std.specs.Option.{option_map_or}
use Rattle.std.specs.Str.{bytes_eq}
use Rattle.std.proofs.lemmas.Bool.{false≢true, eqb-true}
use Rattle.std.proofs.lemmas.Slice.Eq.{bytes_eq-Decides}
use Rattle.am_alerts.specs.AlertData.{AlertData, has_come, is_resolved}
use Rattle.am_alerts.specs.Labels.{same_label_set}
use Rattle.am_alerts.specs.RoutingTree.{route_at, routes_of}
use Rattle.am_alerts.specs.declared.labels.Label.{Label}
use Rattle.am_model.specs.declared.config.Config.{Config}
use Rattle.am_model.specs.declared.config.Integration.{Integration}
use Rattle.am_model.specs.declared.group.GroupName.{GroupName}
use Rattle.am_model.specs.declared.record.Record.{Record}
use Rattle.am_model.specs.Carry.{index_at, position_of}
use Rattle.am_model.specs.Configured.{integrations_named, route_of}
use Rattle.am_model.specs.Records.{now_of}
use Rattle.am_model.specs.Replay.{IsLegal, replay}
use Rattle.am_model.specs.Finish.{is_delivered}
use Rattle.am_model.specs.Outcomes.{outcomes_in}
use Rattle.am_model.specs.Ticket.{outcome_of}
use Rattle.am_model.specs.look_back.Laws.{number_in}
use Rattle.am_model.specs.look_back.Entry.{alert_in}
use Rattle.am_model.specs.look_back.Past.{AtEach, past_of, time_at}
use Rattle.am_model.specs.look_back.Presence.{goes_to}
use Rattle.am_model.specs.look_back.Preview.{preview}
use Rattle.am_model.proofs.lists.Distinct.{all-filter, all-push, all_from, all_to}
use Rattle.am_model.proofs.looking_back.Pasts.{state_after}
use Rattle.am_model.proofs.looking_back.alerts.FoundAlerts.{steady_past}
use Rattle.am_model.proofs.looking_back.rows.FoundRows.{finds_rows_past}
use Rattle.am_paging.specs.Paging.{Pages, pages}
use Rattle.am_paging.proofs.Dropped.{no_page_is_dropped}
use Rattle.am_simulation.specs.Previews.{previews_of, takes_group}
use Rattle.am_timeline.specs.Playback.{PlaybackData}
use Rattle.am_undelivered.specs.Spans.{Fact, Flushed, FlushData, Inserted, SpanData, SpansData, after_fact, after_facts, begun_span, facts_at, facts_in, facts_of, fate_at, flushed_span, inserted, inserted_again, inserts_at, is_unflushed, notified, notified_by, position_for, rank, recipients_from, recipients_named, recipients_of, same_recipient, unflushed, with_flush, with_recipient, with_recipients}
use Rattle.am_undelivered.specs.Undelivered.{is_seen, missed_of}
use Rattle.am_undelivered.specs.declared.fate.Fate.{Fate}
use Rattle.am_undelivered.specs.declared.fate.Fate.TheVariants.{Failed, Muted, Seen, Unflushed, Unlisted}
use Rattle.am_undelivered.specs.declared.missed.Missed.TheVariants.{Page}
use Rattle.am_undelivered.specs.declared.recipient.Recipient.{Recipient}
use Rattle.am_undelivered.proofs.Facts.{after_append}
use Rattle.am_missed.specs.Causes.{CausesCame, ComesIn, HasRun, HearsAt, IsShown, IsTakenIn, Shows, TakenData, facts_before, is_muted_at, spans_listed}
use Rattle.am_missed.proofs.Begins.{count, facts_after, facts_here, facts-push, shown_at, takes-group}
use Rattle.am_missed.proofs.Causes.{facts_of-append, finds, fires-then, f, g, given, here-is, legal-now, legal-until, listed-page, named, page-listed, returned, takes_own}
use Rattle.am_missed.proofs.Fates.{shows-then}
use Rattle.am_missed.proofs.Inserts.{past-more, reply-due}
use Rattle.am_missed.proofs.Kept.{all-mapped, slice_get-push}

-- ---- what is so of each integration of each span, as inserts leave it

slice_get-front : {X : Type 0} (xs ys : List X) (y : X) (n : ℕ) → slice_get xs n ≡ Some y → slice_get (xs ++ ys) n ≡ Some y
slice_get-front [] ys y n e = absurd (cc)
slice_get-front (x ∷ xs) ys y zero e = e
slice_get-front (x ∷ xs) ys y (suc n) e = slice_get-front xs ys y n e

slice_get-back : {X : Type 0} (xs : List X) (y : X) → slice_get (xs ++ y ∷ []) (length xs) ≡ Some y
slice_get-back [] y = refl
slice_get-back (x ∷ xs) y = slice_get-back xs y

module _ (P : ℕ → Recipient → Type 0) (fresh : (n : ℕ) (r : Recipient) → r.page ≡ Unflushed → P n r) where
  abbrev pub Listed : ℕ → SpanData → Type 0
  Listed n span = AllByRecursion (P n) span.recipients

  abbrev pub InEach : SpansData → Type 0
  InEach s = (n : ℕ) (span : SpanData) → slice_get (spans_listed s) n ≡ Some span → Listed n span

  abbrev pub InAll : Option SpansData → Type 0
  InAll o = IfSome o InEach

  add-one : (n : ℕ) (all : List Recipient) (r : Recipient) → AllByRecursion (P n) all → P n r → AllByRecursion (P n) (with_recipient all r)
  add-one n all r h one =
      elim (list_any (same_recipient r) all) as (λ b. AllByRecursion (P n) (cond b all (all ++ r ∷ []))) [
        | true ↦ h
        | false ↦ all-push (P n) all r h one
      ]

  add-all : (n : ℕ) (all rs : List Recipient) → AllByRecursion (P n) all → AllByRecursion (P n) rs → AllByRecursion (P n) (with_recipients all rs)
  add-all n all [] h more = h
  add-all n all (r ∷ rs) h more = add-all n (with_recipient all r) rs (add-one n all r h more.0) more.1

  all-joined : (n : ℕ) (xs ys : List Recipient) → AllByRecursion (P n) xs → AllByRecursion (P n) ys → AllByRecursion (P n) (xs ++ ys)
  all-joined n [] ys h more = more
  all-joined n (x ∷ xs) ys h more = (h.0, all-joined n xs ys h.1 more)

  fresh-from : (n : ℕ) (receiver : List ℕ) (among : List Integration) (k : ℕ) (is : List Integration) → AllByRecursion (P n) (recipients_from receiver among k is)
  fresh-from n receiver among k [] = tt
  fresh-from n receiver among k (i ∷ is) = (fresh n (unflushed receiver (index_at among k) i) refl, fresh-from n receiver among (k + 1) is)

  fresh-all : (n : ℕ) (config : Config) (ps : List ℕ) → AllByRecursion (P n) (flat_map (λ p. recipients_named config (route_at config.routes p).receiver) ps)
  fresh-all n config [] = tt
  fresh-all n config (p ∷ ps) =
      let receiver = (route_at config.routes p).receiver in
      all-joined n (recipients_named config receiver) (flat_map (λ p. recipients_named config (route_at config.routes p).receiver) ps) (fresh-from n receiver (integrations_named receiver config.receivers) 0 (integrations_named receiver config.receivers)) (fresh-all n config ps)

  fresh-of : (n : ℕ) (config : Config) (labels : List Label) → AllByRecursion (P n) (recipients_of config labels)
  fresh-of n config labels = fresh-all n config (routes_of config.routes labels)

  begun : (n : ℕ) (config : Config) (a : AlertData) → Listed n (begun_span config a)
  begun n config a = add-all n [] (recipients_of config a.labels) tt (fresh-of n config a.labels)

  -- after the last span changes
  last-changed : (s : SpansData) (last : SpanData) (part : ℕ) → InEach s → Listed (length s.before) last → InEach (record { before = s.before; last = last; part = part })
  last-changed s last part h own n span e = by (slice_get-push s.before last span n e)
    where
      by : (slice_get s.before n ≡ Some span) ⊎ ((n ≡ length s.before) × (last ≡ span)) → Listed n span
      by (inl e) = h n span (slice_get-front s.before (s.last ∷ []) span n e)
      by (inr e) = subst (λ k. Listed k span) (sym e.0) (subst (Listed (length s.before)) e.1 own)

  -- after one more begins
  one-more : (s : SpansData) (config : Config) (a : AlertData) (part : ℕ) → InEach s → InEach (record { before = s.before ++ s.last ∷ []; last = begun_span config a; part = part })
  one-more s config a part h n span e = by (slice_get-push (s.before ++ s.last ∷ []) (begun_span config a) span n e)
    where
      by : (slice_get (s.before ++ s.last ∷ []) n ≡ Some span) ⊎ ((n ≡ length (s.before ++ s.last ∷ [])) × (begun_span config a ≡ span)) → Listed n span
      by (inl e) = h n span e
      by (inr e) = subst (Listed n) e.1 (begun n config a)

  pub after-insert : (labels : List Label) (part : ℕ) (config : Config) (t : ℕ) (a : AlertData) (o : Option SpansData) → InAll o → InAll (after_fact labels (Inserted part config t a) o)
  after-insert labels part config t a None h =
      elim (same_label_set a.labels labels) as (λ b. InAll (cond b (cond (is_resolved a t) None (Some (record { before = []; last = begun_span config a; part = part }))) None)) [
        | true ↦ elim (is_resolved a t) as (λ b. InAll (cond b None (Some (record { before = []; last = begun_span config a; part = part })))) [ true ↦ tt | false ↦ first ]
        | false ↦ tt
      ]
    where
      first : InEach (record { before = []; last = begun_span config a; part = part })
      first n span e = by (slice_get-push [] (begun_span config a) span n e)
        where
          by : (slice_get [] n ≡ Some span) ⊎ ((n ≡ 0) × (begun_span config a ≡ span)) → Listed n span
          by (inl e) = absurd (cc)
          by (inr e) = subst (Listed n) e.1 (begun n config a)
  after-insert labels part config t a (Some s) h =
      elim (same_label_set a.labels labels) as (λ b. InAll (cond b (inserted part config t a (Some s)) (Some s))) [
        | true ↦ by (not (has_come s.last.ends t)) (is_resolved a t)
        | false ↦ h
      ]
    where
      own : Listed (length s.before) s.last
      own = h (length s.before) s.last (slice_get-back s.before s.last)

      by : (on resolved : Bool)
          → InAll (cond on (Some (record { before = s.before; last = inserted_again config a s.last; part = part }))
          (cond resolved (Some (record { before = s.before; last = s.last; part = part })) (Some (record { before = s.before ++ s.last ∷ []; last = begun_span config a; part = part }))))
      by true resolved =
          last-changed s (inserted_again config a s.last) part h
          (add-all (length s.before) (with_flush s.last.recipients) (recipients_of config a.labels)
          (all-filter (P (length s.before)) (λ r. not (is_unflushed r.page)) s.last.recipients own) (fresh-of (length s.before) config a.labels))
      by false true = last-changed s s.last part h own
      by false false = one-more s config a part h

-- ---- what is shown of each

-- a fate that came is that of a flush in the span
abbrev pub CameOf : List PlaybackData → List Label → ℕ → Recipient → Type 0
CameOf playbacks labels n r = is_unflushed r.page ≡ false → IsShown playbacks labels n r r.page

pub fresh-came : (playbacks : List PlaybackData) (labels : List Label) (n : ℕ) (r : Recipient) → r.page ≡ Unflushed → CameOf playbacks labels n r
fresh-came playbacks labels n r fresh came = absurd (false≢true (sym came ∙ ap is_unflushed fresh))

abbrev pub AllCame : List PlaybackData → List Label → Option SpansData → Type 0
AllCame playbacks labels o = InAll (CameOf playbacks labels) (fresh-came playbacks labels) o

-- an integration of the same receiver, kind and index
moved-shown : (playbacks : List PlaybackData) (labels : List Label) (n : ℕ) (r x : Recipient) (fate : Fate) → r.receiver ≡ x.receiver → r.kind ≡ x.kind → r.index ≡ x.index → IsShown playbacks labels n r fate → IsShown playbacks labels n x fate
moved-shown playbacks labels n r x fate receiver kind index h =
    record {
      flush = h.flush;
      taken = h.taken;
      comes = h.comes;
      receiver = h.receiver ∙ receiver;
      place = h.place;
      named = (λ j. position_of (sym kind j) (sym index j) 0 (integrations_named (sym receiver j) h.flush.playback.config.receivers)) ∙ h.named;
      shows = h.shows;
    }

abbrev FailedThen : TakenData → List Label → ℕ → Type 0
FailedThen k labels i = (pages i labels k.taking.reply ≡ true) × (is_delivered (outcome_of (outcomes_in (number_in k.taking.reply) k.later) i) ≡ false)

module _ (playbacks : List PlaybackData) (k : TakenData) (ran : HasRun k.playback) (taken_in : IsTakenIn playbacks k) (labels : List Label) where
  abbrev flush : FlushData
  flush = f playbacks k ran taken_in

  abbrev config : Config
  config = k.playback.config

  abbrev part : ℕ
  part = length k.before

  abbrev past : List Record
  past = past_of k.earlier

  abbrev t : ℕ
  t = time_at (k.taking ∷ past)

  abbrev group_name : GroupName
  group_name = (g playbacks k ran taken_in).name

  abbrev own_k : TakenData
  own_k = record k { name = group_name }

  own_taken_in : IsTakenIn playbacks own_k
  own_taken_in = record { dispatchers = taken_in.dispatchers; records = taken_in.records; takes = takes_own playbacks k ran taken_in }

  paging : Pages config k.taking past
  paging =
      (subst (AtEach (Pages config)) (past-more k.earlier k.taking) (no_page_is_dropped config ran.id (k.earlier ++ k.taking ∷ []) (legal-until playbacks k ran taken_in))).0

  module _ (s : SpansData) (known : after_facts labels (facts_before k) None ≡ Some s) (h : InEach (CameOf playbacks labels) (fresh-came playbacks labels) s) (leads : goes_to config group_name labels ≡ true) (own : s.part ≡ part) where
    comes-own : has_come s.last.ends t ≡ false → ComesIn labels (length s.before) own_k
    comes-own fires = record { spans = s; known = known; last = refl; fires = fires; inserted = own; leads = leads }

    comes-k : has_come s.last.ends t ≡ false → ComesIn labels (length s.before) k
    comes-k fires =
        record { spans = s; known = known; last = refl; fires = fires; inserted = own; leads = subst (λ n. goes_to config n labels ≡ true) (sym (named playbacks k ran taken_in)) leads }

    -- what its fate shows
    shows-here : has_come s.last.ends t ≡ false → (i : ℕ) → Shows (fate_at flush labels true i) own_k labels i
    shows-here fires i =
        let then_fires = fires-then playbacks k ran taken_in labels (length s.before) (comes-k fires) in
        let found = finds playbacks k ran taken_in in
        let clock = found.clock in
        by (fate_at flush labels true i)
        (shows-then config (state_after config past) past t (omega (arith, clock)) (steady_past config past) found (finds_rows_past config ran.id past (legal-now playbacks k ran taken_in).1)
        (g playbacks k ran taken_in) (given playbacks k ran taken_in) labels (omega arith) then_fires.member leads then_fires.inserted then_fires.fires
        k.taking (returned playbacks k ran taken_in) (takes_own playbacks k ran taken_in) k.later part (count k.playback k.earlier) paging refl i)
      where
        by : (x : Fate)
            → ((x ≡ Muted part (count k.playback k.earlier)) × (is_muted_at own_k labels ≡ true))
            ⊎ (((x ≡ Failed) × FailedThen own_k labels i) ⊎ (((x ≡ Seen) × HearsAt own_k labels i) ⊎ (x ≡ Unlisted)))
            → Shows x own_k labels i
        by x (inl e) = subst (λ y. Shows y own_k labels i) (sym e.0) e.1
        by x (inr (inl e)) = subst (λ y. Shows y own_k labels i) (sym e.0) (record { sent = e.1.0; undelivered = e.1.1 })
        by x (inr (inr (inl e))) = subst (λ y. Shows y own_k labels i) (sym e.0) e.1
        by x (inr (inr (inr e))) = subst (λ y. Shows y own_k labels i) (sym e) tt

    -- one integration after it
    one-flushed : (b : Bool) → has_come s.last.ends t ≡ b → (r : Recipient) → CameOf playbacks labels (length s.before) r → CameOf playbacks labels (length s.before) (notified_by flush labels (not b) r)
    one-flushed true over r came = by (position_for flush r)
      where
        by : (o : Option ℕ) → CameOf playbacks labels (length s.before) (option_map_or (λ p. notified r false (fate_at flush labels false p)) o r)
        by None = came
        by (Some p) = λ e. moved-shown playbacks labels (length s.before) r (notified r false (fate_at flush labels false p)) r.page refl refl refl (came e)
    one-flushed false fires r came = by (position_for flush r) refl
      where
        -- the flush shows its fate
        here : (p : ℕ) → position_for flush r ≡ Some p → IsShown playbacks labels (length s.before) r (fate_at flush labels true p)
        here p e = of (bytes_eq (route_of config group_name).receiver r.receiver) refl e
          where
            none : None ≡ Some p → ⊥
            none e = cc

            of : (b : Bool) → bytes_eq (route_of config group_name).receiver r.receiver ≡ b → cond b (position_of r.kind r.index 0 (integrations_named (route_of config group_name).receiver config.receivers)) None ≡ Some p
                → IsShown playbacks labels (length s.before) r (fate_at flush labels true p)
            of true own_receiver found =
                let receiver = (bytes_eq-Decides (route_of config group_name).receiver r.receiver).0 own_receiver in
                record {
                  flush = own_k;
                  taken = own_taken_in;
                  comes = comes-own fires;
                  receiver = receiver;
                  place = p;
                  named = ap (λ n. position_of r.kind r.index 0 (integrations_named n config.receivers)) (sym receiver) ∙ found;
                  shows = shows-here fires p;
                }
            of false own_receiver found = absurd (none found)

        joined-came : (p : ℕ) → position_for flush r ≡ Some p → CameOf playbacks labels (length s.before) (notified r true (fate_at flush labels true p))
        joined-came p e =
            let fate = fate_at flush labels true p in
            elim (nat_lt (rank fate) (rank r.page)) as (λ b. is_unflushed (cond b r.page fate) ≡ false → IsShown playbacks labels (length s.before) (record r { page = cond b r.page fate }) (cond b r.page fate)) [
              | true ↦ λ flushed. moved-shown playbacks labels (length s.before) r (record r { page = r.page }) r.page refl refl refl (came flushed)
              | false ↦ λ flushed. moved-shown playbacks labels (length s.before) r (record r { page = fate }) fate refl refl refl (here p e)
            ]

        by : (o : Option ℕ) → position_for flush r ≡ o → CameOf playbacks labels (length s.before) (option_map_or (λ p. notified r true (fate_at flush labels true p)) o r)
        by None e = came
        by (Some p) e = joined-came p e

    all-flushed : InEach (CameOf playbacks labels) (fresh-came playbacks labels) (record { before = s.before; last = flushed_span flush labels s.last; part = s.part })
    all-flushed =
        last-changed (CameOf playbacks labels) (fresh-came playbacks labels) s (flushed_span flush labels s.last) s.part h
        (all-mapped (CameOf playbacks labels (length s.before)) (CameOf playbacks labels (length s.before)) (notified_by flush labels (not (has_come s.last.ends t)))
        (one-flushed (has_come s.last.ends t) refl) s.last.recipients (h (length s.before) s.last (slice_get-back s.before s.last)))

  -- after a flush
  pub after-flush : (o : Option SpansData) → after_facts labels (facts_before k) None ≡ o → AllCame playbacks labels o → AllCame playbacks labels (after_fact labels (Flushed flush) o)
  after-flush None known h =
      elim (goes_to config group_name labels) as (λ b. AllCame playbacks labels (cond b None None)) [ true ↦ tt | false ↦ tt ]
  after-flush (Some s) known h =
      let after : SpansData = record { before = s.before; last = flushed_span flush labels s.last; part = s.part } in
      elim (goes_to config group_name labels) as (λ b. goes_to config group_name labels ≡ b → AllCame playbacks labels (cond b (Some (cond (s.part == part) after s)) (Some s))) [
        | true ↦ λ leads. elim (s.part == part) as (λ b. (s.part == part) ≡ b → InEach (CameOf playbacks labels) (fresh-came playbacks labels) (cond b after s)) [
          | true ↦ λ own. all-flushed s known h leads (eqb-true s.part part own)
          | false ↦ λ _. h
        ] refl
        | false ↦ λ _. h
      ] refl

-- ---- record by record, dispatcher by dispatcher

module _ (playbacks : List PlaybackData) (labels : List Label) (before : List PlaybackData) (p : PlaybackData) (after : List PlaybackData) (ran : HasRun p) (dispatchers : playbacks ≡ before ++ p ∷ after) where
  abbrev own_part : ℕ
  own_part = length before

  -- what happens until some records of the dispatcher
  abbrev until : List Record → List Fact
  until es = facts_of 0 before ++ facts_after p own_part [] es

  abbrev Until : List Record → Type 0
  Until es = AllCame playbacks labels (after_facts labels (until es) None)

  begins-until : (es : List Record) (q : Record) (rest : List Record) → p.history ≡ es ++ q ∷ rest → p.begins ≡ previews_of p.config (es ++ q ∷ rest)
  begins-until es q rest records = ran.begins ∙ ap (previews_of p.config) records

  here-came : (es : List Record) (q : Record) (rest : List Record) → p.history ≡ es ++ q ∷ rest → Until es → AllCame playbacks labels (after_facts labels (facts_here p own_part es q) (after_facts labels (until es) None))
  here-came es q rest records h = by (takes_group q.reply) refl
    where
      by : (b : Bool) → takes_group q.reply ≡ b → AllCame playbacks labels (after_facts labels (facts_here p own_part es q) (after_facts labels (until es) None))
      by true e =
          let legal = subst (IsLegal p.config ran.id) records ran.legal in
          let taking = takes-group p.config ran.id (replay p.config es) q.call q.reply (reply-due p.config ran.id es q rest legal) e in
          let k : TakenData = record { before = before; playback = p; after = after; earlier = es; taking = q; later = rest; name = taking.group.name } in
          let taken_in : IsTakenIn playbacks k = record { dispatchers = dispatchers; records = records; takes = taking.own } in
          subst (λ fs. AllCame playbacks labels (after_facts labels fs (after_facts labels (until es) None))) (sym (here-is playbacks k ran taken_in))
          (after-flush playbacks k ran taken_in labels (after_facts labels (until es) None) refl h)
      by false e =
          subst (λ b. AllCame playbacks labels (after_facts labels (facts_at own_part p (count p es) (shown_at (length es) b (preview p.config es (now_of q.call))) q) (after_facts labels (until es) None))) (sym e)
          (inserts (alert_in q.call))
        where
          inserts : (o : Option AlertData) → AllCame playbacks labels (after_facts labels (inserts_at own_part p.config (now_of q.call) o) (after_facts labels (until es) None))
          inserts None = h
          inserts (Some a) = after-insert (CameOf playbacks labels) (fresh-came playbacks labels) labels own_part p.config (now_of q.call) a (after_facts labels (until es) None) h

  next-came : (es : List Record) (q : Record) (rest : List Record) → p.history ≡ es ++ q ∷ rest → Until es → Until (es ++ q ∷ [])
  next-came es q rest records h =
      let more : until (es ++ q ∷ []) ≡ until es ++ facts_here p own_part es q =
      ap (λ l. facts_of 0 before ++ l) (facts-push p own_part es q rest (begins-until es q rest records))
      ∙ sym (append_assoc (facts_of 0 before) (facts_after p own_part [] es) (facts_here p own_part es q)) in
      subst (AllCame playbacks labels) (sym (ap (λ l. after_facts labels l None) more ∙ after_append labels (until es) (facts_here p own_part es q) None)) (here-came es q rest records h)

  all-came : (es rest : List Record) → p.history ≡ es ++ rest → Until es → Until (es ++ rest)
  all-came es [] records h = subst Until (sym (append-nil es)) h
  all-came es (q ∷ rest) records h =
      subst Until (append_assoc es (q ∷ []) rest)
      (all-came (es ++ q ∷ []) rest (records ∙ sym (append_assoc es (q ∷ []) rest)) (next-came es q rest records h))

  pub dispatcher-came : AllCame playbacks labels (after_facts labels (facts_of 0 before) None) → AllCame playbacks labels (after_facts labels (facts_of 0 (before ++ p ∷ [])) None)
  dispatcher-came h =
      let same : 0 + own_part ≡ own_part = omega arith in
      let whole : facts_of 0 before ++ facts_after p own_part [] p.history ≡ facts_of 0 (before ++ p ∷ []) =
      sym (facts_of-append 0 before (p ∷ []) ∙ ap (λ n. facts_of 0 before ++ (facts_in n p ++ [])) same ∙ ap (λ l. facts_of 0 before ++ l) (append-nil (facts_in own_part p))) in
      subst (λ l. AllCame playbacks labels (after_facts labels l None)) whole
      (all-came [] p.history refl (subst (λ l. AllCame playbacks labels (after_facts labels l None)) (sym (append-nil (facts_of 0 before))) h))

dispatchers-came : (playbacks : List PlaybackData) (labels : List Label) (before ps : List PlaybackData) → playbacks ≡ before ++ ps → AllByRecursion HasRun ps
    → AllCame playbacks labels (after_facts labels (facts_of 0 before) None) → AllCame playbacks labels (after_facts labels (facts_of 0 (before ++ ps)) None)
dispatchers-came playbacks labels before [] are ran h = subst (λ l. AllCame playbacks labels (after_facts labels (facts_of 0 l) None)) (sym (append-nil before)) h
dispatchers-came playbacks labels before (p ∷ ps) are ran h =
    subst (λ l. AllCame playbacks labels (after_facts labels (facts_of 0 l) None)) (append_assoc before (p ∷ []) ps)
    (dispatchers-came playbacks labels (before ++ p ∷ []) ps (are ∙ sym (append_assoc before (p ∷ []) ps)) ran.1 (dispatcher-came playbacks labels before p ps ran.0 are h))

-- ---- the law

-- what isn't listed as not notified was seen
unlisted-seen : (is_last : Bool) (span : SpanData) (r : Recipient) → ((fate : Fate) → missed_of is_last span r ≡ Some (Page fate) → ⊥) → r.page ≡ Seen
unlisted-seen is_last span r unlisted = by (is_seen r.page) refl
  where
    seen : (page : Fate) → is_seen page ≡ true → page ≡ Seen
    seen Seen e = refl
    seen Unflushed e = absurd (false≢true e)
    seen Unlisted e = absurd (false≢true e)
    seen (Muted p b) e = absurd (false≢true e)
    seen Failed e = absurd (false≢true e)

    by : (b : Bool) → is_seen r.page ≡ b → r.page ≡ Seen
    by true e = seen r.page e
    by false e = absurd (unlisted r.page (page-listed is_last span r e))

pub causes_came : CausesCame
causes_came playbacks ran labels final position span is_last in_rehearsal at_position index d inside =
    let r = slice_index_or span.recipients index d in
    let all = subst (AllCame playbacks labels) in_rehearsal (dispatchers-came playbacks labels [] playbacks refl (all_to HasRun playbacks ran) tt) in
    let came : CameOf playbacks labels position r = all_from (CameOf playbacks labels position) span.recipients (all position span at_position) index d inside in (
      λ unlisted. let seen = unlisted-seen is_last span r unlisted in subst (IsShown playbacks labels position r) seen (came (ap is_unflushed seen)),
      λ fate listed.
          let page : r.page ≡ fate = listed-page is_last span r fate listed in
          elim (is_unflushed fate) as (λ b. is_unflushed fate ≡ b → (b ≡ true) ⊎ IsShown playbacks labels position r fate) [
            | true ↦ λ e. inl refl
            | false ↦ λ e. inr (subst (IsShown playbacks labels position r) page (came (ap is_unflushed page ∙ e)))
          ] refl,
    )

-- What has happened to a span of firing from an insert of it until a record that takes a group.
use Rattle.std.proofs.Common.{◌≡◌, ◌∙◌, ℕ, ◌+◌, ◌<◌, ◌≤◌, Bool, true, false, cond, not, ◌==◌, nat_lt, List, [], ◌∷◌, ◌++◌, append_assoc, IfSome, IsSomeAnd, length, length-append, Option, Some, None, ◌⊎◌, inl, inr, refl, sym, ap, subst, arith}
use Rattle.std.specs.Option.{option_map}
use Rattle.std.proofs.lemmas.Bool.{false≢true, ltb-false, ltb-true}
use Rattle.am_alerts.specs.AlertData.{AlertData, has_come, is_resolved}
use Rattle.am_alerts.specs.Labels.{same_label_set}
use Rattle.am_alerts.specs.LabelOrder.{same_label_set_equiv}
use Rattle.am_alerts.specs.declared.labels.Label.{Label}
use Rattle.am_model.specs.declared.config.Config.{Config}
use Rattle.am_model.specs.declared.record.Call.{Call}
use Rattle.am_model.specs.declared.record.Call.TheVariants as call
use Rattle.am_model.specs.declared.record.Record.{Record}
use Rattle.am_model.specs.Records.{now_of}
use Rattle.am_model.specs.Replay.{IsLegal, replay}
use Rattle.am_model.specs.look_back.Entry.{alert_in}
use Rattle.am_model.specs.look_back.Presence.{goes_to, inserts}
use Rattle.am_model.specs.look_back.Preview.{preview}
use Rattle.am_simulation.specs.Previews.{previews_of, takes_group}
use Rattle.am_terms.specs.declared.event.PreviewedBegin.{PreviewedBegin}
use Rattle.am_timeline.specs.Playback.{PlaybackData}
use Rattle.am_undelivered.specs.Spans.{Fact, Flushed, FlushData, Inserted, SpanData, SpansData, after_fact, after_facts, begin_at, begun_span, facts_at, facts_from, facts_of, flush_of, flushed, flushed_span, inserted, inserted_again, inserts_at, next_begin}
use Rattle.am_undelivered.proofs.Facts.{after_append}
use Rattle.am_missed.specs.Causes.{ComesIn, HasRun, IsTakenIn, TakenData, facts_before, time_of}
use Rattle.am_missed.proofs.Begins.{count, facts-push, shown_at}
use Rattle.am_missed.proofs.Inserts.{reply-due}
use Rattle.am_missed_in_plays.specs.SpansInTime.{InsertData, IsInsertIn, IsOverAt, facts_with, taking_after}
use Rattle.am_missed_in_plays.proofs.Begun.{insert-reply}

-- ---- what happens at records, one after another

module _ (part : ℕ) (p : PlaybackData) where
  -- what happens at some records and then at others
  pub facts-both : (begin index : ℕ) (xs ys : List Record) → (b : ℕ) × (k : ℕ) × (facts_from part p begin index (xs ++ ys) ≡ facts_from part p begin index xs ++ facts_from part p b k ys)
  facts-both begin index [] ys = (begin, index, refl)
  facts-both begin index (x ∷ xs) ys =
      let here = facts_at part p begin (begin_at p.begins index begin) x in
      let next = next_begin begin (begin_at p.begins index begin) in
      let more = facts-both next (index + 1) xs ys in
      (more.0, more.1, ap (λ l. here ++ l) more.2 ∙ sym (append_assoc here (facts_from part p next (index + 1) xs) (facts_from part p more.0 more.1 ys)))

  module _ (labels : List Label) (position : ℕ) where
    -- the last span is at a position or after it, and had its last insert under this dispatcher
    pub record HasReached (s : SpansData) : Type 0 where
      pub within : position ≤ length s.before
      pub own : s.part ≡ part

    abbrev pub Reaches : Option SpansData → Type 0
    Reaches o = IsSomeAnd o HasReached

    reaches-insert : (config : Config) (t : ℕ) (a : AlertData) (s : SpansData) → HasReached s → (over resolved : Bool)
        → Reaches (cond (not over) (Some (record { before = s.before; last = inserted_again config a s.last; part = part }))
        (cond resolved (Some (record { before = s.before; last = s.last; part = part })) (Some (record { before = s.before ++ s.last ∷ []; last = begun_span config a; part = part }))))
    reaches-insert config t a s h false resolved = record { within = h.within; own = refl }
    reaches-insert config t a s h true true = record { within = h.within; own = refl }
    reaches-insert config t a s h true false =
        let more : length (s.before ++ s.last ∷ []) ≡ length s.before + 1 = length-append s.before (s.last ∷ []) in
        let within = h.within in
        record { within = omega (arith, more, within); own = refl }

    reaches-flush : (f : FlushData) (s : SpansData) → HasReached s → (goes : Bool) → Reaches (cond goes (Some (flushed f labels s)) (Some s))
    reaches-flush f s h true = by (s.part == f.part)
      where
        by : (b : Bool) → HasReached (cond b (record { before = s.before; last = flushed_span f labels s.last; part = s.part }) s)
        by true = record { within = h.within; own = h.own }
        by false = h
    reaches-flush f s h false = h

    reaches-at : (begin : ℕ) (b : Option PreviewedBegin) (r : Record) (o : Option SpansData) → Reaches o → Reaches (after_facts labels (facts_at part p begin b r) o)
    reaches-at begin b r None h = absurd h
    reaches-at begin (Some b) r (Some s) h = reaches-flush (flush_of part p begin b) s h (goes_to p.config b.preview.group labels)
    reaches-at begin None r (Some s) h = by (alert_in r.call)
      where
        by : (a : Option AlertData) → Reaches (after_facts labels (inserts_at part p.config (now_of r.call) a) (Some s))
        by None = h
        by (Some a) =
            elim (same_label_set a.labels labels) as (λ b. Reaches (cond b (inserted part p.config (now_of r.call) a (Some s)) (Some s))) [
              | true ↦ reaches-insert p.config (now_of r.call) a s h (has_come s.last.ends (now_of r.call)) (is_resolved a (now_of r.call))
              | false ↦ h
            ]

    -- so it stays at each record
    pub reaches-from : (begin index : ℕ) (rs : List Record) (o : Option SpansData) → Reaches o → Reaches (after_facts labels (facts_from part p begin index rs) o)
    reaches-from begin index [] o h = h
    reaches-from begin index (r ∷ rs) o h =
        let b = begin_at p.begins index begin in
        subst Reaches (sym (after_append labels (facts_at part p begin b r) (facts_from part p (next_begin begin b) (index + 1) rs) o))
        (reaches-from (next_begin begin b) (index + 1) rs (after_facts labels (facts_at part p begin b r) o) (reaches-at begin b r o h))

-- ---- an insert

-- after it the spans had their last insert under its dispatcher
module _ (part : ℕ) (config : Config) (labels : List Label) where
  abbrev IsOwn : Option SpansData → Type 0
  IsOwn o = IfSome o (λ s. s.part ≡ part)

  insert-own : (now : ℕ) (a : AlertData) (o : Option SpansData) → IsOwn (inserted part config now a o)
  insert-own now a None = by (is_resolved a now)
    where
      by : (b : Bool) → IsOwn (cond b None (Some (record { before = []; last = begun_span config a; part = part })))
      by true = tt
      by false = refl
  insert-own now a (Some s) = by (has_come s.last.ends now) (is_resolved a now)
    where
      by : (over resolved : Bool)
          → IsOwn (cond (not over) (Some (record { before = s.before; last = inserted_again config a s.last; part = part }))
          (cond resolved (Some (record { before = s.before; last = s.last; part = part })) (Some (record { before = s.before ++ s.last ∷ []; last = begun_span config a; part = part }))))
      by false resolved = refl
      by true true = refl
      by true false = refl

  call-own : (c : Call) → inserts labels c ≡ true → (o : Option SpansData) → IsOwn (after_facts labels (inserts_at part config (now_of c) (alert_in c)) o)
  call-own (call.Insert now a) e o =
      subst (λ b. IsOwn (cond b (inserted part config now a o) o)) (sym (same_label_set_equiv.symm a.labels labels ∙ e)) (insert-own now a o)
  call-own (call.Silence now id matchers start end) e o = absurd (false≢true e)
  call-own (call.Begin now) e o = absurd (false≢true e)
  call-own (call.Finish now number outcomes) e o = absurd (false≢true e)
  call-own (call.Maintain now) e o = absurd (false≢true e)
  call-own (call.RemoveEmptyGroups now) e o = absurd (false≢true e)
  call-own (call.Forget now) e o = absurd (false≢true e)
  call-own (call.Load now row) e o = absurd (false≢true e)
  call-own (call.Note now number integration outcome) e o = absurd (false≢true e)

both-of : (part : ℕ) (p : PlaybackData) (labels : List Label) (position : ℕ) (o : Option SpansData) → IsSomeAnd o (λ s. length s.before ≡ position) → IfSome o (λ s. s.part ≡ part) → Reaches part p labels position o
both-of part p labels position None at own = absurd at
both-of part p labels position (Some s) at own = let here : length s.before ≡ position = at in record { within = omega (arith, here); own = own }

module _ (i : InsertData) (ran : HasRun i.playback) (labels : List Label) (position : ℕ) (records : i.playback.history ≡ i.earlier ++ i.insert ∷ i.later)
    (inserted_now : inserts labels i.insert.call ≡ true) (spans : IsSomeAnd (after_facts labels (facts_with i) None) (λ s. length s.before ≡ position)) where
  abbrev m : ℕ
  m = length i.before

  abbrev p : PlaybackData
  p = i.playback

  own-with : IfSome (after_facts labels (facts_with i) None) (λ s. s.part ≡ m)
  own-with =
      let reply = insert-reply p.config ran.id (replay p.config i.earlier) labels i.insert.call i.insert.reply
      (reply-due p.config ran.id i.earlier i.insert i.later (subst (IsLegal p.config ran.id) records ran.legal)) inserted_now in
      let first = facts_of 0 i.before in
      let second = facts_from m p 0 0 i.earlier in
      let here = facts_at m p (count p i.earlier) (shown_at (length i.earlier) (takes_group i.insert.reply) (preview p.config i.earlier (now_of i.insert.call))) i.insert in
      let split : facts_from m p 0 0 (i.earlier ++ i.insert ∷ []) ≡ second ++ here = facts-push p m i.earlier i.insert i.later (ran.begins ∙ ap (previews_of p.config) records) in
      let is : here ≡ inserts_at m p.config (now_of i.insert.call) (alert_in i.insert.call) =
      ap (λ b. facts_at m p (count p i.earlier) (shown_at (length i.earlier) b (preview p.config i.earlier (now_of i.insert.call))) i.insert) reply.none in
      let o = after_facts labels second (after_facts labels first None) in
      subst (IsOwn m p.config labels)
      (ap (λ l. after_facts labels l o) (sym is)
      ∙ sym (after_append labels second here (after_facts labels first None))
      ∙ ap (λ l. after_facts labels l (after_facts labels first None)) (sym split)
      ∙ sym (after_append labels first (facts_from m p 0 0 (i.earlier ++ i.insert ∷ [])) None))
      (call-own m p.config labels i.insert.call inserted_now o)

  -- until a record that takes the group
  module _ (between : List Record) (taking : Record) (later : List Record) (leads : goes_to p.config i.name labels ≡ true) where
    abbrev k : TakenData
    k = taking_after i between taking later

    reached : Reaches m p labels position (after_facts labels (facts_before k) None)
    reached =
        let first = facts_of 0 i.before in
        let second = facts_from m p 0 0 (i.earlier ++ i.insert ∷ []) in
        let more = facts-both m p 0 0 (i.earlier ++ i.insert ∷ []) between in
        let third = facts_from m p more.0 more.1 between in
        let is : facts_before k ≡ facts_with i ++ third =
        ap (λ l. first ++ facts_from m p 0 0 l) (sym (append_assoc i.earlier (i.insert ∷ []) between)) ∙ ap (λ l. first ++ l) more.2 ∙ sym (append_assoc first second third) in
        subst (Reaches m p labels position) (sym (after_append labels (facts_with i) third None) ∙ ap (λ l. after_facts labels l None) (sym is))
        (reaches-from m p labels position more.0 more.1 between (after_facts labels (facts_with i) None) (both-of m p labels position (after_facts labels (facts_with i) None) spans own-with))

    -- it comes in the span, or the span is over
    pub comes-or-over : ComesIn labels position k ⊎ IsOverAt labels position k
    comes-or-over = by (after_facts labels (facts_before k) None) refl reached
      where
        over : (s : SpansData) → after_facts labels (facts_before k) None ≡ Some s → (position < length s.before) ⊎ (has_come s.last.ends (time_of k) ≡ true) → IsOverAt labels position k
        over s is h = subst (λ o. IsSomeAnd o (λ s. (position < length s.before) ⊎ (has_come s.last.ends (time_of k) ≡ true))) (sym is) h

        by : (o : Option SpansData) → after_facts labels (facts_before k) None ≡ o → Reaches m p labels position o → ComesIn labels position k ⊎ IsOverAt labels position k
        by None is h = absurd h
        by (Some s) is h = choose (nat_lt position (length s.before)) refl (has_come s.last.ends (time_of k)) refl
          where
            choose : (b : Bool) → nat_lt position (length s.before) ≡ b → (e : Bool) → has_come s.last.ends (time_of k) ≡ e → ComesIn labels position k ⊎ IsOverAt labels position k
            choose true less e ends = inr (over s is (inl (ltb-true position (length s.before) less)))
            choose false less true ends = inr (over s is (inr ends))
            choose false less false ends =
                let most : length s.before ≤ position = ltb-false position (length s.before) less in
                let within = h.within in
                inl (record { spans = s; known = is; last = omega (arith, most, within); fires = ends; inserted = h.own; leads = leads })

-- What a receiver got by some events, and by one more.
use Rattle.std.proofs.Common.{◌≡◌, ◌∙◌, ◌<◌, ◌≤◌, ◌+◌, ℕ, Bool, true, false, not, ◌&&◌, cond, List, [], ◌∷◌, ◌++◌, ap, arith, sym, refl, find, get_or}
use Rattle.std.proofs.Common.{length, reverse, take, if◌then◌else◌}
use Rattle.std.specs.Prelude.{Option, Some, None, count_by, slice_get, unwrap_or}
use Rattle.std.specs.Option.{IfSome, IsSome, option_and_then, option_map, option_map_or, option_or}
use Rattle.std.proofs.lemmas.List.{length-take, reverse-append, take_more}
use Rattle.std.proofs.lemmas.List.Folds.{find-append}
use Rattle.std.proofs.lemmas.List.Sums.{count_by-le-length, sum_by-append}
use Rattle.std.proofs.lemmas.Slice.Eq.{bytes_eq-Decides}
use Rattle.std.specs.Str.{bytes_eq}
use Rattle.am_retry.specs.declared.outcome.Outcome.{Outcome}
use Rattle.am_model.specs.declared.config.Config.{Config}
use Rattle.am_model.specs.declared.config.Receiver.{Receiver}
use Rattle.am_model.specs.declared.notice.Report.{Report}
use Rattle.am_model.specs.declared.record.Record.{Record}
use Rattle.am_model.specs.Notice.{NoticeData}
use Rattle.am_terms.specs.declared.event.Event.{Event}
use Rattle.am_terms.specs.declared.event.Event.TheVariants.{Begun, Sent}
use Rattle.am_terms.specs.declared.event.PreviewedBegin.{PreviewedBegin}
use Rattle.am_terms.specs.TimeFormatData.{TimeFormatData}
use Rattle.am_timeline.specs.declared.tally.Tally.{Tally}
use Rattle.am_timeline.specs.Playback.{PlaybackData, SentData, is_delivered, notice_for, notices_at, outcome_after, sent_as, sent_by, sent_of}
use Rattle.am_timeline.specs.Table.{counts_text, delivers, end_of, ends_text, fails, is_for, receiver_line}
use Rattle.am_timeline.specs.Tally.{CanGrow, counts_of, ends_of, no_tally, tally_line, tally_of, with_delivered, with_event, with_failed, with_sent}

-- the events that pass are ends of notices
abbrev AreEnds : (Event → Bool) → Type 0
AreEnds p = (e : Event) → p e ≡ true → IsSome (end_of e)

delivered-ends : (playback : PlaybackData) (name : List ℕ) → AreEnds (delivers playback name)
delivered-ends playback name (Begun begin) is = let h : false ≡ true = is in cc
delivered-ends playback name (Sent begin report) is = refl

found-ends : (p : Event → Bool) → AreEnds p → (xs : List Event) → IfSome (find p xs) (λ e. IsSome (end_of e))
found-ends p ends [] = tt
found-ends p ends (x ∷ xs) =
    elim (p x) as (λ b. p x ≡ b → IfSome (cond b (Some x) (find p xs)) (λ e. IsSome (end_of e))) [
      | true ↦ λ is. ends x is
      | false ↦ λ is. found-ends p ends xs
    ] refl

-- the first that passes, with one more event
first-more : (found : Option Event) (e : Event) (b : Bool) → IfSome found (λ x. IsSome (end_of x))
    → option_and_then end_of (option_or found (cond b (Some e) None))
    ≡ (if b then option_or (option_and_then end_of found) (end_of e) else option_and_then end_of found)
first-more None e true ends = refl
first-more None e false ends = refl
first-more (Some (Begun begin)) e b ends = let h : false ≡ true = ends in cc
first-more (Some (Sent begin report)) e true ends = refl
first-more (Some (Sent begin report)) e false ends = refl

-- the last
last-more : (found : Option Event) (e : Event) (b : Bool)
    → option_and_then end_of (cond b (Some e) found) ≡ (if b then end_of e else option_and_then end_of found)
last-more found e true = refl
last-more found e false = refl

-- how many pass
count-more : (p : Event → Bool) (xs : List Event) (e : Event) → count_by p (xs ++ e ∷ []) ≡ count_by p xs + cond (p e) 1 0
count-more p xs e = omega (arith, sum_by-append (λ x. cond (p x) 1 0) xs (e ∷ []))

-- a tally with an event by which a notice was delivered, or failed
abbrev after : Bool → Bool → Option ℕ → Tally → Tally
after delivered failed end t = record {
  delivered = t.delivered + cond delivered 1 0;
  failed = t.failed + cond failed 1 0;
  first = if delivered then option_or t.first end else t.first;
  last = if delivered then end else t.last;
}

tally-more : (playback : PlaybackData) (name : List ℕ) (xs : List Event) (e : Event)
    → tally_of playback name (xs ++ e ∷ []) ≡ after (delivers playback name e) (fails playback name e) (end_of e) (tally_of playback name xs)
tally-more playback name xs e =
    let p : Event → Bool = delivers playback name in
    let first = ap (option_and_then end_of) (find-append p xs (e ∷ [])) ∙ first-more (find p xs) e (p e) (found-ends p (delivered-ends playback name) xs) in
    let last = ap (λ (l : List Event). option_and_then end_of (find p l)) (reverse-append xs (e ∷ [])) ∙ last-more (find p (reverse xs)) e (p e) in
    λ i. record {
      delivered = count-more p xs e i;
      failed = count-more (fails playback name) xs e i;
      first = first i;
      last = last i;
    }

no_more : (n : ℕ) → n + 0 ≡ n
no_more n = omega arith

-- nothing happened for a receiver
nothing-more : (end : Option ℕ) (t : Tally) → after false false end t ≡ t
nothing-more end t = λ i. record { delivered = no_more t.delivered i; failed = no_more t.failed i; first = t.first; last = t.last }

or_some : (o : Option ℕ) (n m : ℕ) → n ≡ m → option_or o (Some n) ≡ Some (unwrap_or o m)
or_some None n m is = ap (λ (k : ℕ). Some k) is
or_some (Some x) n m is = refl

-- a notice that was for a receiver or not, and was delivered or not
notice-more : (for delivered : Bool) (n m : ℕ) (t : Tally) → n ≡ m
    → after (for && delivered) (for && not delivered) (Some n) t
    ≡ (if for then (if delivered then with_delivered m t else with_failed t) else t)
notice-more false delivered n m t is = nothing-more (Some n) t
notice-more true true n m t is = λ i. record {
  delivered = t.delivered + 1;
  failed = no_more t.failed i;
  first = or_some t.first n m is i;
  last = Some (is i);
}
notice-more true false n m t is = λ i. record { delivered = no_more t.delivered i; failed = t.failed + 1; first = t.first; last = t.last }

sent-more : (config : Config) (name : List ℕ) (o : Option SentData) (r : Report) (t : Tally) → IfSome o (λ s. s.report ≡ r)
    → after (option_map_or (λ s. is_for config name s && is_delivered s.outcome) o false)
    (option_map_or (λ s. is_for config name s && not (is_delivered s.outcome)) o false) (Some r.ended) t
    ≡ option_map_or (λ s. with_sent config name s t) o t
sent-more config name None r t is = nothing-more (Some r.ended) t
sent-more config name (Some s) r t is =
    notice-more (is_for config name s) (is_delivered s.outcome) r.ended s.report.ended t (ap (λ (x : Report). x.ended) (sym is))

-- the notice that a report ends has that report
abbrev IsOn : Report → Option SentData → Type 0
IsOn r o = IfSome o (λ s. s.report ≡ r)

outcome-on : (begin : PreviewedBegin) (r : Report) (n : NoticeData) (o : Option Outcome)
    → IsOn r (option_map (λ outcome. record { begin = begin; notice = n; outcome = outcome; report = r }) o)
outcome-on begin r n None = tt
outcome-on begin r n (Some outcome) = refl

notice-on : (history : List Record) (begin : PreviewedBegin) (r : Report) (o : Option NoticeData)
    → IsOn r (option_and_then (sent_as history begin r) o)
notice-on history begin r None = tt
notice-on history begin r (Some n) = outcome-on begin r n (outcome_after history begin.index n)

begin-on : (history : List Record) (r : Report) (o : Option PreviewedBegin) → IsOn r (option_and_then (sent_by history r) o)
begin-on history r None = tt
begin-on history r (Some begin) = notice-on history begin r (notice_for r.integration (notices_at history begin.index))

event-more : (playback : PlaybackData) (name : List ℕ) (e : Event) (t : Tally)
    → after (delivers playback name e) (fails playback name e) (end_of e) t ≡ with_event playback name e t
event-more playback name (Begun begin) t = nothing-more None t
event-more playback name (Sent begin r) t =
    sent-more playback.config name (sent_of playback (Sent begin r)) r t (begin-on playback.history r (slice_get playback.begins begin))

-- the tally of some events, and of one more
pub tally-step : (playback : PlaybackData) (name : List ℕ) (i : ℕ) (e : Event) → i < length playback.events
    → e ≡ get_or playback.events i e
    → with_event playback name e (tally_of playback name (take i playback.events)) ≡ tally_of playback name (take (i + 1) playback.events)
tally-step playback name i e inside is =
    sym (event-more playback name e (tally_of playback name (take i playback.events)))
    ∙ sym (tally-more playback name (take i playback.events) e)
    ∙ ap (λ (x : Event). tally_of playback name (take i playback.events ++ x ∷ [])) is
    ∙ sym (ap (tally_of playback name) (take_more playback.events i e inside))

-- its counts are below the number of events, as long as there is one more
pub tally-fits : (playback : PlaybackData) (name : List ℕ) (i : ℕ) → i < length playback.events
    → CanGrow (length playback.events) (tally_of playback name (take i playback.events))
tally-fits playback name i inside =
    let few : length (take i playback.events) ≤ i = omega (arith, length-take i playback.events) in
    let delivered = count_by-le-length (delivers playback name) (take i playback.events) in
    let failed = count_by-le-length (fails playback name) (take i playback.events) in
    (omega arith, omega arith)

-- a tally that was put among others
pub put-is : (b : Bool) (t : Tally) (old : Option Tally) → unwrap_or (cond b (Some t) old) no_tally ≡ (if b then t else unwrap_or old no_tally)
put-is true t old = refl
put-is false t old = refl

-- a tally that was changed at the bytes of a name is changed at all names that are equal to it
pub changed-at : (bs name : List ℕ) (tally : List ℕ → Tally) (change : Tally → Tally)
    → (if bytes_eq bs name then change (tally bs) else tally name) ≡ (if bytes_eq bs name then change (tally name) else tally name)
changed-at bs name tally change =
    elim (bytes_eq bs name) as (λ b. bytes_eq bs name ≡ b → (if b then change (tally bs) else tally name) ≡ (if b then change (tally name) else tally name)) [
      | true ↦ λ same. ap (λ (n : List ℕ). change (tally n)) ((bytes_eq-Decides bs name).0 same)
      | false ↦ λ _. refl
    ] refl

-- the line of a receiver is that of its tally
pub line-is : (playback : PlaybackData) (times : TimeFormatData) (r : Receiver)
    → tally_line times r.name (tally_of playback r.name playback.events) ≡ receiver_line playback times r
unfolding tally_line counts_of ends_of receiver_line counts_text ends_text
line-is playback times r = refl

-- What a span has later: where all of a receiver, kind and index have come to so much at a flush, they have at the end.
use Rattle.std.proofs.Common.{◌≡◌, ◌∙◌, ℕ, zero, suc, ◌+◌, ◌≤◌, Bool, true, false, cond, not, ◌&&◌, ◌||◌, ◌==◌, ◌⊎◌, inl, inr, nat_le, nat_lt, List, [], ◌∷◌, ◌++◌, length, length-append, map, slice_get, Option, Some, None, IsSomeAnd, refl, sym, ap, subst, arith}
use Rattle.std.specs.List.{AllByRecursion, list_any}
use Rattle.std.specs.Option.{option_map_or}
use Rattle.std.proofs.lemmas.Bool.{false≢true, and_parts, leb-true, le-leb, ltb-false, ltb-true}
use Rattle.std.proofs.lemmas.List.Folds.{list_any-append}
use Rattle.am_alerts.specs.AlertData.{AlertData, has_come, is_resolved}
use Rattle.am_alerts.specs.Labels.{same_label_set}
use Rattle.am_alerts.specs.declared.labels.Label.{Label}
use Rattle.am_model.specs.declared.config.Config.{Config}
use Rattle.am_model.specs.look_back.Presence.{goes_to}
use Rattle.am_model.proofs.legal.EachCall.{inside}
use Rattle.am_model.proofs.lists.Distinct.{all-filter, all-push}
use Rattle.am_model.proofs.lists.Sets.{any-alike, any-filter, any-map}
use Rattle.am_undelivered.specs.Spans.{Fact, Flushed, FlushData, Inserted, SpanData, SpansData, after_fact, after_facts, begun_span, fate_at, flushed_span, inserted_again, is_unflushed, joined, notified, notified_by, position_for, rank, recipients_of, same_recipient, with_flush, with_recipient, with_recipients}
use Rattle.am_undelivered.specs.declared.fate.Fate.{Fate}
use Rattle.am_undelivered.specs.declared.fate.Fate.TheVariants.{Failed, Muted, Seen, Unflushed, Unlisted}
use Rattle.am_undelivered.specs.declared.recipient.Recipient.{Recipient}
use Rattle.am_missed.specs.Causes.{spans_listed}
use Rattle.am_missed.proofs.Recipients.{has, same-is, same-notified, same-test}

-- ---- fates that are joined say no less

pub rank-joined : (p x : Fate) → (rank p ≤ rank (joined p x)) × (rank x ≤ rank (joined p x))
rank-joined p x =
    elim (nat_lt (rank x) (rank p)) as (λ b. nat_lt (rank x) (rank p) ≡ b → (rank p ≤ rank (cond b p x)) × (rank x ≤ rank (cond b p x))) [
      | true ↦ λ e. let less = ltb-true (rank x) (rank p) e in (omega arith, omega (arith, less))
      | false ↦ λ e. let more = ltb-false (rank x) (rank p) e in (omega (arith, more), omega arith)
    ] refl

rank-notified : (f : FlushData) (labels : List Label) (fires : Bool) (r : Recipient) → rank r.page ≤ rank (notified_by f labels fires r).page
rank-notified f labels fires r = by (position_for f r)
  where
    one : (b : Bool) (fate : Fate) → rank r.page ≤ rank (notified r b fate).page
    one true fate = (rank-joined r.page fate).0
    one false fate = omega arith

    by : (o : Option ℕ) → rank r.page ≤ rank (option_map_or (λ p. notified r fires (fate_at f labels fires p)) o r).page
    by None = omega arith
    by (Some p) = one fires (fate_at f labels fires p)

-- ---- those of a receiver, kind and index have come to so much

pub all-mapped : {X Y : Type 0} (P : X → Type 0) (Q : Y → Type 0) (f : X → Y) → ((x : X) → P x → Q (f x)) → (xs : List X) → AllByRecursion P xs → AllByRecursion Q (map f xs)
all-mapped P Q f one [] all = tt
all-mapped P Q f one (x ∷ xs) all = (one x all.0, all-mapped P Q f one xs all.1)

module _ (m : ℕ) (k : Recipient) where
  -- one of these has
  abbrev pub is_there : Recipient → Bool
  is_there r = same_recipient k r && nat_le m (rank r.page)

  abbrev pub HasCome : Recipient → Type 0
  HasCome r = same_recipient k r ≡ true → m ≤ rank r.page

  -- there is one, and all have
  pub record AllHaveCome (rs : List Recipient) : Type 0 where
    pub each : AllByRecursion HasCome rs
    pub some : list_any is_there rs ≡ true

  there-more : (test other : Recipient → Bool) → ((r : Recipient) → test r ≡ true → other r ≡ true) → (rs : List Recipient) → list_any test rs ≡ true → list_any other rs ≡ true
  there-more test other more (r ∷ rs) is =
      elim (test r) as (λ b. test r ≡ b → (b || list_any test rs) ≡ true → (other r || list_any other rs) ≡ true) [
        | true ↦ λ e is. ap (λ b. b || list_any other rs) (more r e)
        | false ↦ λ e is. right (other r) (list_any other rs) (there-more test other more rs is)
      ] refl is
    where
      right : (a b : Bool) → b ≡ true → (a || b) ≡ true
      right true b e = refl
      right false b e = e
  there-more test other more [] is = absurd (cc)

  both : (a : Bool) (n : ℕ) → a ≡ true → m ≤ n → (a && nat_le m n) ≡ true
  both true n e le = le-leb m n le
  both false n e le = absurd (false≢true e)

  -- after a flush
  pub come-flushed : (f : FlushData) (labels : List Label) (fires : Bool) (rs : List Recipient) → AllHaveCome rs → AllHaveCome (map (notified_by f labels fires) rs)
  come-flushed f labels fires rs h =
      record {
        each =
            all-mapped HasCome HasCome (notified_by f labels fires)
            (λ r came own. let less = rank-notified f labels fires r in let before = came (sym (same-notified k f labels fires r) ∙ own) in omega (arith, less, before)) rs h.each;
        some =
            any-map is_there (notified_by f labels fires) rs
            ∙ there-more is_there (λ r. is_there (notified_by f labels fires r)) one rs h.some;
      }
    where
      one : (r : Recipient) → is_there r ≡ true → is_there (notified_by f labels fires r) ≡ true
      one r e =
          let parts = and_parts (same_recipient k r) (nat_le m (rank r.page)) e in
          let less = rank-notified f labels fires r in
          let came = leb-true m (rank r.page) parts.1 in
          both (same_recipient k (notified_by f labels fires r)) (rank (notified_by f labels fires r).page) (same-notified k f labels fires r ∙ parts.0) (omega (arith, less, came))

  -- one more is another one
  come-one : (all : List Recipient) (r : Recipient) → AllHaveCome all → AllHaveCome (with_recipient all r)
  come-one all r h =
      elim (list_any (same_recipient r) all) as (λ b. list_any (same_recipient r) all ≡ b → AllHaveCome (cond b all (all ++ r ∷ []))) [
        | true ↦ λ e. h
        | false ↦ λ e. record {
          each = all-push HasCome all r h.each (λ own. absurd (false≢true (sym e ∙ there own)));
          some = list_any-append is_there all (r ∷ []) ∙ ap (λ b. b || list_any is_there (r ∷ [])) h.some;
        }
      ] refl
    where
      there : same_recipient k r ≡ true → list_any (same_recipient r) all ≡ true
      there own =
          sym (any-alike (same_recipient k) (same_recipient r) (same-test k r (same-is k r own)) all)
          ∙ there-more is_there (same_recipient k) (λ x e. (and_parts (same_recipient k x) (nat_le m (rank x.page)) e).0) all h.some

  come-added : (all rs : List Recipient) → AllHaveCome all → AllHaveCome (with_recipients all rs)
  come-added all [] h = h
  come-added all (r ∷ rs) h = come-added (with_recipient all r) rs (come-one all r h)

  -- after an insert
  pub come-inserted : 1 ≤ m → (rs more : List Recipient) → AllHaveCome rs → AllHaveCome (with_recipients (with_flush rs) more)
  come-inserted some rs more h =
      come-added (with_flush rs) more (record {
        each = all-filter HasCome (λ r. not (is_unflushed r.page)) rs h.each;
        some = any-filter is_there (λ r. not (is_unflushed r.page)) rs ∙ there-more is_there (λ r. not (is_unflushed r.page) && is_there r) one rs h.some;
      })
    where
      flushed_once : (page : Fate) → m ≤ rank page → not (is_unflushed page) ≡ true
      flushed_once Unflushed came = absurd (omega (arith, some, came))
      flushed_once Unlisted came = refl
      flushed_once (Muted part begin) came = refl
      flushed_once Failed came = refl
      flushed_once Seen came = refl

      one : (r : Recipient) → is_there r ≡ true → (not (is_unflushed r.page) && is_there r) ≡ true
      one r e =
          let parts = and_parts (same_recipient k r) (nat_le m (rank r.page)) e in
          ap (λ b. b && is_there r) (flushed_once r.page (leb-true m (rank r.page) parts.1)) ∙ e

-- ---- the span at a position

pub slice_get-push : {X : Type 0} (xs : List X) (x y : X) (n : ℕ) → slice_get (xs ++ x ∷ []) n ≡ Some y → (slice_get xs n ≡ Some y) ⊎ ((n ≡ length xs) × (x ≡ y))
slice_get-push [] x y zero e = inr (refl, inside x y e)
slice_get-push [] x y (suc n) e = absurd (cc)
slice_get-push (z ∷ xs) x y zero e = inl e
slice_get-push (z ∷ xs) x y (suc n) e = by (slice_get-push xs x y n e)
  where
    by : (slice_get xs n ≡ Some y) ⊎ ((n ≡ length xs) × (x ≡ y)) → (slice_get xs n ≡ Some y) ⊎ ((suc n ≡ suc (length xs)) × (x ≡ y))
    by (inl h) = inl h
    by (inr h) = inr (ap suc h.0, h.1)

module _ (m : ℕ) (some : 1 ≤ m) (k : Recipient) (n : ℕ) where
  -- those of the span at position n have
  pub record HaveComeAt (s : SpansData) : Type 0 where
    pub within : n ≤ length s.before
    pub before : (span : SpanData) → slice_get s.before n ≡ Some span → AllHaveCome m k span.recipients
    pub last : n ≡ length s.before → AllHaveCome m k s.last.recipients

  abbrev pub Came : Option SpansData → Type 0
  Came o = IsSomeAnd o HaveComeAt

  -- where the last span is at another position, another may follow it
  next : (config : Config) (part : ℕ) (a : AlertData) (s : SpansData) → HaveComeAt s → HaveComeAt (record { before = s.before ++ s.last ∷ []; last = begun_span config a; part = part })
  next config part a s h =
      let more : length (s.before ++ s.last ∷ []) ≡ length s.before + 1 = length-append s.before (s.last ∷ []) in
      let within = h.within in
      record {
        within = omega (arith, more, within);
        before = λ span e. by span (slice_get-push s.before s.last span n e);
        last = λ e. absurd (omega (arith, more, within, e));
      }
    where
      by : (span : SpanData) → (slice_get s.before n ≡ Some span) ⊎ ((n ≡ length s.before) × (s.last ≡ span)) → AllHaveCome m k span.recipients
      by span (inl e) = h.before span e
      by span (inr e) = subst (λ (x : SpanData). AllHaveCome m k x.recipients) e.1 (h.last e.0)

  insert : (part : ℕ) (config : Config) (t : ℕ) (a : AlertData) (s : SpansData) → HaveComeAt s → (over resolved : Bool)
      → HaveComeAt (cond (not over) (record { before = s.before; last = inserted_again config a s.last; part = part })
      (cond resolved (record { before = s.before; last = s.last; part = part }) (record { before = s.before ++ s.last ∷ []; last = begun_span config a; part = part })))
  insert part config t a s h false resolved =
      record { within = h.within; before = h.before; last = λ e. come-inserted m k some s.last.recipients (recipients_of config a.labels) (h.last e) }
  insert part config t a s h true true = record { within = h.within; before = h.before; last = h.last }
  insert part config t a s h true false = next config part a s h

  some-cond : {X : Type 0} (P : X → Type 0) (b c : Bool) (x y z : X) → P (cond b x (cond c y z)) → IsSomeAnd (cond b (Some x) (cond c (Some y) (Some z))) P
  some-cond P true c x y z h = h
  some-cond P false true x y z h = h
  some-cond P false false x y z h = h

  -- a fact later
  came-fact : (labels : List Label) (x : Fact) (o : Option SpansData) → Came o → Came (after_fact labels x o)
  came-fact labels (Inserted part config t a) (Some s) h =
      elim (same_label_set a.labels labels) as (λ b. Came (cond b (after_insert (not (has_come s.last.ends t)) (is_resolved a t)) (Some s))) [
        | true ↦ some-cond HaveComeAt (not (has_come s.last.ends t)) (is_resolved a t) (record { before = s.before; last = inserted_again config a s.last; part = part }) (record { before = s.before; last = s.last; part = part })
            (record { before = s.before ++ s.last ∷ []; last = begun_span config a; part = part }) (insert part config t a s h (has_come s.last.ends t) (is_resolved a t))
        | false ↦ h
      ]
    where
      after_insert : Bool → Bool → Option SpansData
      after_insert goes resolved =
          cond goes (Some (record { before = s.before; last = inserted_again config a s.last; part = part }))
          (cond resolved (Some (record { before = s.before; last = s.last; part = part })) (Some (record { before = s.before ++ s.last ∷ []; last = begun_span config a; part = part })))
  came-fact labels (Flushed f) (Some s) h =
      elim (goes_to f.config f.preview.group labels) as (λ b. Came (cond b (Some (cond (s.part == f.part) (record { before = s.before; last = flushed_span f labels s.last; part = s.part }) s)) (Some s))) [
        | true ↦ elim (s.part == f.part) as (λ b. HaveComeAt (cond b (record { before = s.before; last = flushed_span f labels s.last; part = s.part }) s)) [
          | true ↦ record { within = h.within; before = h.before; last = λ e. come-flushed m k f labels (not (has_come s.last.ends f.preview.time)) s.last.recipients (h.last e) }
          | false ↦ h
        ]
        | false ↦ h
      ]
  came-fact labels x None h = absurd h

  -- and all facts later
  pub came-facts : (labels : List Label) (xs : List Fact) (o : Option SpansData) → Came o → Came (after_facts labels xs o)
  came-facts labels [] o h = h
  came-facts labels (x ∷ xs) o h = came-facts labels xs (after_fact labels x o) (came-fact labels x o h)

  -- at the end
  pub come-listed : (s : SpansData) (span : SpanData) → HaveComeAt s → slice_get (spans_listed s) n ≡ Some span → AllHaveCome m k span.recipients
  come-listed s span h e = by (slice_get-push s.before s.last span n e)
    where
      by : (slice_get s.before n ≡ Some span) ⊎ ((n ≡ length s.before) × (s.last ≡ span)) → AllHaveCome m k span.recipients
      by (inl e) = h.before span e
      by (inr e) = subst (λ (x : SpanData). AllHaveCome m k x.recipients) e.1 (h.last e.0)

-- ---- at a flush

-- a flush that is for those there comes to so much for each
pub come-notified : (k : Recipient) (f : FlushData) (labels : List Label) (place : ℕ) → ((r : Recipient) → same_recipient k r ≡ true → position_for f r ≡ Some place) → (rs : List Recipient) → has k rs ≡ true
    → AllHaveCome (rank (fate_at f labels true place)) k (map (notified_by f labels true) rs)
come-notified k f labels place is_own rs some =
    record { each = each rs; some = any-map (is_there m k) (notified_by f labels true) rs ∙ there-more m k (same_recipient k) (λ r. is_there m k (notified_by f labels true r)) one rs some }
  where
    m : ℕ
    m = rank (fate_at f labels true place)

    comes : (r : Recipient) → same_recipient k r ≡ true → m ≤ rank (notified_by f labels true r).page
    comes r own =
        subst (λ o. m ≤ rank (option_map_or (λ p. notified r true (fate_at f labels true p)) o r).page) (sym (is_own r own)) (rank-joined r.page (fate_at f labels true place)).1

    one : (r : Recipient) → same_recipient k r ≡ true → is_there m k (notified_by f labels true r) ≡ true
    one r own = both m k (same_recipient k (notified_by f labels true r)) (rank (notified_by f labels true r).page) (same-notified k f labels true r ∙ own) (comes r own)

    each : (rs : List Recipient) → AllByRecursion (HasCome m k) (map (notified_by f labels true) rs)
    each [] = tt
    each (r ∷ rs) = (λ own. comes r (sym (same-notified k f labels true r) ∙ own), each rs)

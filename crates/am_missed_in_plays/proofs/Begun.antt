-- In a play, a group that is served is begun by the latest time after an insert of an alert that a route leads to it.
use Rattle.std.proofs.Common.{◌≡◌, ◌∙◌, ℕ, ◌+◌, ◌<◌, ◌≤◌, max, Bool, true, false, cond, ◌&&◌, ◌||◌, nat_le, nat_lt, List, [], ◌∷◌, ◌++◌, append_assoc, reverse, Option, Some, None, IfSome, ◌⊎◌, inl, inr, refl, sym, ap, subst, arith, if◌then◌else◌}
use Rattle.std.specs.List.{AllByRecursion}
use Rattle.std.specs.Prelude.{find}
use Rattle.std.specs.Option.{option_or}
use Rattle.std.proofs.lemmas.Bool.{false≢true, le-leb, ltb-false, ltb-true}
use Rattle.std.proofs.lemmas.List.{reverse-append, reverse-reverse}
use Rattle.am_alerts.specs.declared.labels.Label.{Label}
use Rattle.am_alerts.specs.declared.limits.TheConstants.{MAX_TIME}
use Rattle.am_board.specs.History.{BoardData}
use Rattle.am_nflog.specs.Members.{is_empty}
use Rattle.am_model.specs.declared.config.Config.{Config}
use Rattle.am_model.specs.declared.group.GroupName.{GroupName}
use Rattle.am_model.specs.declared.record.Call.{Call}
use Rattle.am_model.specs.declared.record.Call.TheVariants as call
use Rattle.am_model.specs.declared.record.Record.{Record}
use Rattle.am_model.specs.declared.record.Reply.{Reply}
use Rattle.am_model.specs.declared.record.Reply.TheVariants as reply_is
use Rattle.am_model.specs.Forget.{forgotten}
use Rattle.am_model.specs.Insert.{inserted}
use Rattle.am_model.specs.Records.{entry}
use Rattle.am_model.specs.Replay.{IsLegal, replay, reply}
use Rattle.am_model.specs.State.{State, is_named, time}
use Rattle.am_model.specs.look_back.Entry.{present_in}
use Rattle.am_model.specs.look_back.Interval.{found_empty}
use Rattle.am_model.specs.look_back.Laws.{begun_at}
use Rattle.am_model.specs.look_back.Past.{AtEach, past_of, removes_empty_groups, replay_past, takes, time_at}
use Rattle.am_model.specs.look_back.Presence.{goes_to, inserts}
use Rattle.am_model.proofs.legal.EachCall.{inside}
use Rattle.am_model.proofs.legal.Histories.{beginnings_are_legal, legal_appends}
use Rattle.am_paging.specs.InTime.{IsOnTime, WaitsInTime, WasOnTime, ended_at, latest, past_until, waits_since}
use Rattle.am_paging.proofs.Standing.{not-found_empty}
use Rattle.am_paging.proofs.Waits.{is-there, nobody_waits_longer}
use Rattle.am_simulation.specs.Play.{PlaysTo}
use Rattle.am_simulation.specs.Previews.{takes_group}
use Rattle.am_simulation.specs.Scene.{Setting}
use Rattle.am_simulation.specs.declared.limits.TheConstants.{BOARD_ID}
use Rattle.am_terms.specs.declared.event.Event.{Event}
use Rattle.am_terms.specs.declared.rehearsal.TimedAction.{TimedAction}
use Rattle.am_missed.proofs.Inserts.{reply-due}
use Rattle.am_plays.specs.PlaysInTime.{IsServed}
use Rattle.am_plays.proofs.AtRest.{IsAtRest, each-until, each-within, play-rests, until-before, until-front}
use Rattle.am_plays.proofs.Served.{on-time-play, still-play}
use Rattle.am_plays.proofs.Sound.{plays_are_legal}
use Rattle.am_plays.proofs.Words.{if_at, if_weaker}

-- ---- words on records, the latest first

-- the records of a history up to its last ones
pub past-split : (es : List Record) (q : Record) (ls : List Record) → past_of (es ++ q ∷ ls) ≡ reverse ls ++ q ∷ past_of es
past-split es q ls =
    reverse-append es (q ∷ ls) ∙ ap (λ (l : List Record). l ++ reverse es) (reverse-append (q ∷ []) ls) ∙ append_assoc (reverse ls) (q ∷ []) (reverse es)

-- of some records by a time, those that come before these
record IsSplitAt (y : ℕ) (base front : List Record) : Type 0 where
  extra : List Record
  kept : List Record
  is : front ≡ extra ++ kept
  upto : past_until y (front ++ base) ≡ kept ++ base

split-at : (y : ℕ) (q : Record) (past : List Record) → time_at (q ∷ past) ≤ y → (front : List Record) → IsSplitAt y (q ∷ past) front
split-at y q past come [] = record { extra = []; kept = []; is = refl; upto = ap (λ b. cond b (q ∷ past) (past_until y past)) (le-leb (time_at (q ∷ past)) y come) }
split-at y q past come (x ∷ front) = by (nat_le (time_at (x ∷ front ++ q ∷ past)) y) refl (split-at y q past come front)
  where
    by : (b : Bool) → nat_le (time_at (x ∷ front ++ q ∷ past)) y ≡ b → IsSplitAt y (q ∷ past) front → IsSplitAt y (q ∷ past) (x ∷ front)
    by true is rest = record { extra = []; kept = x ∷ front; is = refl; upto = ap (λ b. cond b (x ∷ front ++ q ∷ past) (past_until y (front ++ q ∷ past))) is }
    by false is rest =
        record {
          extra = x ∷ rest.extra;
          kept = rest.kept;
          is = ap (λ (l : List Record). x ∷ l) rest.is;
          upto = ap (λ b. cond b (x ∷ front ++ q ∷ past) (past_until y (front ++ q ∷ past))) is ∙ rest.upto;
        }

was-on : (config : Config) (name : GroupName) (past : List Record) → AtEach (IsOnTime 0 0 config name) past → WasOnTime 0 0 config name past
was-on config name [] on = tt
was-on config name (q ∷ past) on = λ other. (on.0, was-on config name past on.1)

-- whoever waits was inserted by the last record
waits-before : (name : GroupName) (labels : List Label) (past : List Record) → IfSome (waits_since name labels past) (λ u. u ≤ time_at past)
waits-before name labels [] = tt
waits-before name labels (q ∷ past) = by (waits_since name labels past) (waits-before name labels past) (takes name q.reply) (inserts labels q.call)
  where
    by : (o : Option ℕ) → IfSome o (λ u. u ≤ time_at past) → (taken inserted : Bool)
        → IfSome (cond taken None (option_or o (if inserted then Some (time_at (q ∷ past)) else None))) (λ u. u ≤ time_at (q ∷ past))
    by o h true inserted = tt
    by None h false true = omega arith
    by None h false false = tt
    by (Some u) h false inserted = let up : u ≤ time_at past = h in omega (arith, up)

-- the reply to an insert takes no group, and it removes none
pub record IsInsertReply (c : Call) (p : Reply) : Type 0 where
  pub untaken : (name : GroupName) → takes name p ≡ false
  pub none : takes_group p ≡ false
  pub keeps : removes_empty_groups c ≡ false

pub insert-reply : (config : Config) (id : ℕ) (s : State) (labels : List Label) (c : Call) (p : Reply) → reply config id s c ≡ Some p → inserts labels c ≡ true → IsInsertReply c p
insert-reply config id s labels (call.Insert now alert) p is e =
    subst (IsInsertReply (call.Insert now alert)) (inside (reply_is.Inserted (inserted config s alert)) p is) (record { untaken = λ name. refl; none = refl; keeps = refl })
insert-reply config id s labels (call.Silence now number matchers start end) p is e = absurd (false≢true e)
insert-reply config id s labels (call.Begin now) p is e = absurd (false≢true e)
insert-reply config id s labels (call.Finish now number outcomes) p is e = absurd (false≢true e)
insert-reply config id s labels (call.Maintain now) p is e = absurd (false≢true e)
insert-reply config id s labels (call.RemoveEmptyGroups now) p is e = absurd (false≢true e)
insert-reply config id s labels (call.Forget now) p is e = absurd (false≢true e)
insert-reply config id s labels (call.Load now row) p is e = absurd (false≢true e)
insert-reply config id s labels (call.Note now number integration outcome) p is e = absurd (false≢true e)

-- ---- whoever waits, until the group is begun

module _ (config : Config) (id : ℕ) (name : GroupName) (labels : List Label) (goes : goes_to config name labels ≡ true) (base : List Record) (since : ℕ)
    (waits : waits_since name labels base ≡ Some since) where
  abbrev IsUntaken : Record → Type 0
  IsUntaken q = takes name q.reply ≡ false

  record IsWaiting (past : List Record) : Type 0 where
    still : waits_since name labels past ≡ Some since
    begun : begun_at config name past ≡ begun_at config name base

  waiting : (front : List Record) → AllByRecursion IsUntaken front → IsWaiting (front ++ base)
  waiting [] none = record { still = waits; begun = refl }
  waiting (q ∷ front) none =
      let past = front ++ base in
      let before = waiting front none.1 in
      let there = is-there config name labels since past goes before.still in
      let inserted_now : Option ℕ = if inserts labels q.call then Some (time_at (q ∷ past)) else None in
      record {
        still = ap (λ b. cond b None (option_or (waits_since name labels past) inserted_now)) none.0 ∙ ap (λ o. option_or o inserted_now) before.still;
        begun = ap (λ b. cond b (Some (time_at (q ∷ past))) (cond (found_empty config name q past) None (begun_at config name past))) none.0
            ∙ ap (λ b. cond b None (begun_at config name past)) (not-found_empty config id name labels there.0 q past there.1)
            ∙ before.begun;
      }

  abbrev bound : ℕ
  bound = latest config name 0 since (begun_at config name base)

  in-time : (front : List Record) → AllByRecursion IsUntaken front → (q : Record) → WaitsInTime 0 0 config name q (front ++ base) → IsOnTime 0 0 config name q (front ++ base) → WasOnTime 0 0 config name (front ++ base)
      → time_at (q ∷ front ++ base) ≤ bound
  in-time front none q waits_in on was =
      let past = front ++ base in
      let w = waiting front none in
      let most : time_at (q ∷ past) ≤ latest config name 0 since (begun_at config name past) + 0 =
      if_at (waits_since name labels past) since w.still (λ u. time_at (q ∷ past) ≤ latest config name 0 u (begun_at config name past) + 0) (waits_in on was labels goes) in
      subst (λ o. time_at (q ∷ past) ≤ latest config name 0 since o) w.begun (omega (arith, most))

  -- the first of some records that takes the group
  record IsFirstTaken (front : List Record) : Type 0 where
    later : List Record
    taking : Record
    between : List Record
    is : front ≡ later ++ taking ∷ between
    taken : takes name taking.reply ≡ true
    come : time_at (taking ∷ between ++ base) ≤ bound

  first-taken : (front : List Record) → AtEach (WaitsInTime 0 0 config name) (front ++ base) → AtEach (IsOnTime 0 0 config name) (front ++ base) → AllByRecursion IsUntaken front ⊎ IsFirstTaken front
  first-taken [] waits_in on = inl tt
  first-taken (q ∷ front) waits_in on = by (first-taken front waits_in.1 on.1) (takes name q.reply) refl
    where
      by : AllByRecursion IsUntaken front ⊎ IsFirstTaken front → (b : Bool) → takes name q.reply ≡ b → AllByRecursion IsUntaken (q ∷ front) ⊎ IsFirstTaken (q ∷ front)
      by (inr found) b is =
          inr (record {
            later = q ∷ found.later;
            taking = found.taking;
            between = found.between;
            is = ap (λ (l : List Record). q ∷ l) found.is;
            taken = found.taken;
            come = found.come;
          })
      by (inl none) true is =
          inr (record { later = []; taking = q; between = front; is = refl; taken = is; come = in-time front none q waits_in.0 on.0 (was-on config name (front ++ base) on.1) })
      by (inl none) false is = inl (is, none)

-- ---- a play, up to its end

module _ (r : Setting) (config : Config) (plans : List TimedAction) (board : BoardData) (events : List Event) (play : PlaysTo r config plans board events)
    (name : GroupName) (served : IsServed r config name) where
  abbrev past : List Record
  past = past_of board.history

  legal : IsLegal config BOARD_ID board.history
  legal = plays_are_legal r config plans board events play

  by_end : r.until ≤ r.until
  by_end = omega arith

  -- the records up to the end, and a forgetting then
  abbrev upto : List Record
  upto = past_until r.until past

  abbrev at_end : Record
  at_end =
      entry 0 (call.Forget r.until) (reply_is.Forgotten (forgotten (replay config (reverse upto)) (time (replay config (reverse upto)) r.until)))

  abbrev longer : List Record
  longer = reverse upto ++ at_end ∷ []

  longer-legal : IsLegal config BOARD_ID longer
  longer-legal =
      let front = until-front r.until past in
      (legal_appends config BOARD_ID (reverse upto) at_end).1 (
        beginnings_are_legal config BOARD_ID (reverse upto) (reverse front.0)
            (subst (IsLegal config BOARD_ID) (sym (reverse-reverse board.history) ∙ ap (λ (l : List Record). reverse l) front.1 ∙ reverse-append front.0 upto) legal),
        refl,
      )

  longer-past : past_of longer ≡ at_end ∷ upto
  longer-past = reverse-append (reverse upto) (at_end ∷ []) ∙ ap (λ (l : List Record). at_end ∷ l) (reverse-reverse upto)

  end-time : time_at (at_end ∷ upto) ≡ r.until
  end-time = let before = until-before r.until past in let ends = served.ends in omega (arith, before, ends)

  end-on-time : IsOnTime 0 0 config name at_end upto
  end-on-time =
      let rest : IsAtRest r config BOARD_ID name r.until by_end upto =
      play-rests r config plans board events play name r.until by_end served.ends served.places 0 (omega arith) (still-play r config plans board events play name served) in
      record {
        begins = λ closed. if_weaker (find (is_named name) (replay_past config upto).groups) (λ g. r.until < max g.due (ended_at name upto))
            (λ g. time_at (at_end ∷ upto) ≤ max g.due (ended_at name upto) + 0)
            (λ g h. let after : r.until < max g.due (ended_at name upto) = h in let now = end-time in omega (arith, after, now)) rest.later;
        ends = λ opened. absurd (false≢true (sym rest.closed ∙ opened));
      }

  waits-each : AtEach (WaitsInTime 0 0 config name) (at_end ∷ upto)
  waits-each = subst (AtEach (WaitsInTime 0 0 config name)) longer-past (nobody_waits_longer config BOARD_ID longer longer-legal 0 0 name)

  on-each : AtEach (IsOnTime 0 0 config name) upto
  on-each =
      each-within r.until (IsOnTime 0 0 config name) upto (until-before r.until past)
      (each-until r.until (λ q past. time_at (q ∷ past) ≤ r.until → IsOnTime 0 0 config name q past) past (on-time-play r config plans board events play name served))

  -- ---- after an insert

  module _ (labels : List Label) (goes : goes_to config name labels ≡ true) (earlier : List Record) (insert : Record) (later : List Record)
      (records : board.history ≡ earlier ++ insert ∷ later) (inserted_now : inserts labels insert.call ≡ true) where
    abbrev base : List Record
    base = insert ∷ past_of earlier

    abbrev x : ℕ
    x = time_at base

    abbrev pub by_then : ℕ
    by_then = max x (latest config name 0 x (begun_at config name (past_of earlier)))

    replied : IsInsertReply insert.call insert.reply
    replied =
        insert-reply config BOARD_ID (replay config earlier) labels insert.call insert.reply (reply-due config BOARD_ID earlier insert later (subst (IsLegal config BOARD_ID) records legal)) inserted_now

    begun-is : begun_at config name base ≡ begun_at config name (past_of earlier)
    begun-is =
        ap (λ b. cond b (Some x) (cond (found_empty config name insert (past_of earlier)) None (begun_at config name (past_of earlier)))) (replied.untaken name)
        ∙ ap (λ b. cond b None (begun_at config name (past_of earlier))) (none-found (found_empty config name insert (past_of earlier)) refl)
      where
        none-found : (b : Bool) → found_empty config name insert (past_of earlier) ≡ b → b ≡ false
        none-found true e = absurd (false≢true (sym (ap (λ b. b && is_empty (present_in config name (past_of earlier))) replied.keeps) ∙ e))
        none-found false e = refl

    -- since when it waits
    record IsSince : Type 0 where
      since : ℕ
      waits : waits_since name labels base ≡ Some since
      come : since ≤ x

    waits-now : IsSince
    waits-now = by (waits_since name labels (past_of earlier)) refl (waits-before name labels (past_of earlier))
      where
        now : waits_since name labels base ≡ option_or (waits_since name labels (past_of earlier)) (Some x)
        now =
            ap (λ b. cond b None (option_or (waits_since name labels (past_of earlier)) (if inserts labels insert.call then Some x else None))) (replied.untaken name)
            ∙ ap (λ b. option_or (waits_since name labels (past_of earlier)) (if b then Some x else None)) inserted_now

        by : (o : Option ℕ) → waits_since name labels (past_of earlier) ≡ o → IfSome o (λ u. u ≤ time_at (past_of earlier)) → IsSince
        by None is h = record { since = x; waits = now ∙ ap (λ o. option_or o (Some x)) is; come = omega arith }
        by (Some u) is h = let up : u ≤ time_at (past_of earlier) = h in record { since = u; waits = now ∙ ap (λ o. option_or o (Some x)) is; come = omega (arith, up) }

    bound-by : (since : ℕ) → since ≤ x → latest config name 0 since (begun_at config name base) ≤ by_then
    bound-by since come = subst (λ o. latest config name 0 since o ≤ by_then) (sym begun-is) (by (begun_at config name (past_of earlier)))
      where
        by : (o : Option ℕ) → latest config name 0 since o ≤ max x (latest config name 0 x o)
        by None = omega (arith, come)
        by (Some u) = omega arith

    -- the group is begun by then
    pub record IsBegunBy : Type 0 where
      pub between : List Record
      pub taking : Record
      pub rest : List Record
      pub is : later ≡ between ++ taking ∷ rest
      pub taken : takes name taking.reply ≡ true
      pub come : time_at (taking ∷ past_of (earlier ++ insert ∷ between)) ≤ by_then

    found : IsSplitAt r.until base (reverse later) → (r.until ≤ by_then) ⊎ IsBegunBy
    found split =
        by (first-taken config BOARD_ID name labels goes base waits-now.since waits-now.waits split.kept (subst (AtEach (WaitsInTime 0 0 config name)) kept waits-each.1) (subst (AtEach (IsOnTime 0 0 config name)) kept on-each))
      where
        kept : upto ≡ split.kept ++ base
        kept = ap (λ (l : List Record). past_until r.until l) (ap past_of records ∙ past-split earlier insert later) ∙ split.upto

        by : AllByRecursion (IsUntaken config BOARD_ID name labels goes base waits-now.since waits-now.waits) split.kept ⊎ IsFirstTaken config BOARD_ID name labels goes base waits-now.since waits-now.waits split.kept → (r.until ≤ by_then) ⊎ IsBegunBy
        by (inl none) =
            let most : time_at (at_end ∷ split.kept ++ base) ≤ latest config name 0 waits-now.since (begun_at config name base) =
            in-time config BOARD_ID name labels goes base waits-now.since waits-now.waits split.kept none at_end
            (subst (WaitsInTime 0 0 config name at_end) kept waits-each.0) (subst (IsOnTime 0 0 config name at_end) kept end-on-time)
            (was-on config name (split.kept ++ base) (subst (AtEach (IsOnTime 0 0 config name)) kept on-each)) in
            let now : time_at (at_end ∷ split.kept ++ base) ≡ r.until = ap (λ (l : List Record). time_at (at_end ∷ l)) (sym kept) ∙ end-time in
            let bounded = bound-by waits-now.since waits-now.come in
            inl (omega (arith, most, now, bounded))
        by (inr t) =
            let bounded = bound-by waits-now.since waits-now.come in
            let come = t.come in
            inr (record {
              between = reverse t.between;
              taking = t.taking;
              rest = reverse (split.extra ++ t.later);
              is = sym (reverse-reverse later)
                  ∙ ap (λ (l : List Record). reverse l) (split.is ∙ ap (λ (l : List Record). split.extra ++ l) t.is ∙ sym (append_assoc split.extra t.later (t.taking ∷ t.between)))
                  ∙ reverse-append (split.extra ++ t.later) (t.taking ∷ t.between)
                  ∙ ap (λ (l : List Record). l ++ reverse (split.extra ++ t.later)) (reverse-append (t.taking ∷ []) t.between)
                  ∙ append_assoc (reverse t.between) (t.taking ∷ []) (reverse (split.extra ++ t.later));
              taken = t.taken;
              come = subst (λ (l : List Record). time_at (t.taking ∷ l) ≤ by_then)
                  (sym (past-split earlier insert (reverse t.between) ∙ ap (λ (l : List Record). l ++ base) (reverse-reverse t.between))) (omega (arith, bounded, come));
            })

    pub begun_in_time : (r.until ≤ by_then) ⊎ IsBegunBy
    begun_in_time = by (nat_lt by_then r.until) refl
      where
        by : (b : Bool) → nat_lt by_then r.until ≡ b → (r.until ≤ by_then) ⊎ IsBegunBy
        by false is = inl (ltb-false by_then r.until is)
        by true is = let soon : by_then < r.until = ltb-true by_then r.until is in found (split-at r.until insert (past_of earlier) (omega (arith, soon)) (reverse later))

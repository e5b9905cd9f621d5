-- Where a run has stopped, its scenario is stuck.
use Rattle.std.proofs.Common.{◌≡◌, ◌≢◌, ◌⊎◌, ⊎_elim, inl, inr, ℕ, ◌+◌, ◌<◌, ◌≤◌, true, All, subst, List, [], ◌∷◌, ◌++◌, length, get_or, map, slice_get, vec_len, Some, None, refl, sym, ap, ◌∙◌, append_assoc, arith}
use mathlib.Core.List.{IsPrefix}
use mathlib.Core.Logic.{dite}
use native.Mathlib.Decide.{ℕ_discrete}
use Rattle.std.specs.List.{AllZip}
use Rattle.std.proofs.lemmas.List.{append-nil, append_cancel_left, map-append, nil_from_length}
use Rattle.std.proofs.lemmas.List.Elements.{All-cons, All-head, All-nil, All-rest}
use Rattle.am_model.specs.Replay.{IsLegal}
use Rattle.am_model.proofs.legal.Histories.{beginnings_are_legal}
use Rattle.am_model.specs.declared.fault.Fault.TheVariants.{HistoryFull}
use Rattle.am_model.specs.declared.notice.Report.{Report}
use Rattle.am_model.specs.declared.record.Call.{Call}
use Rattle.am_model.specs.declared.record.Call.TheVariants as call
use Rattle.am_model.specs.declared.record.Record.{Record}
use Rattle.am_desk.specs.Calls.{cause_of_begin}
use Rattle.am_desk.specs.Desks.{IsPrefixViewOf}
use Rattle.am_desk.specs.History.{own, made}
use Rattle.am_desk.specs.Known.{Seen}
use Rattle.am_desk.specs.Terms.{terms}
use Rattle.am_desk.specs.declared.word.Terms.{Terms}
use Rattle.am_desk.proofs.Histories.{own-append, own_prefix}
use Rattle.am_desk.proofs.Prefixes.{prefix_both, prefix_nil, prefix_trans}
use Rattle.am_pool.specs.declared.courier.Tried.{Tried}
use Rattle.am_run.specs.Interleaving.{AfterPhases, CalledBetween, HasNoOtherCalls}
use Rattle.am_run.specs.Lanes.{call_at, calls_at, calls_by}
use Rattle.am_run.specs.LaneStates.{HaveMade, MadeCalls}
use Rattle.am_run.specs.Steps.{MadeRecords}
use Rattle.am_run.specs.Stops.{AnyStops, EndsWith, MadeFirst, PassesStop, StopsAtBegin, StopsAtCall, StopsOf}
use Rattle.am_run.specs.Turns.{BeginsExhausted}
use Rattle.am_run.specs.IsCauseOfFull.{AreBeginsOf, IsBeginRefused, IsCallRefused, IsHistoryOf, IsStuck, cause_of_call}
use Rattle.am_scenario.specs.Scripts.{IsAsPlanned}
use Rattle.am_scenario.specs.declared.scenario.Lane.{Lane}
use Rattle.am_scenario.specs.declared.scenario.Phase.{Phase}
use Rattle.am_scenario.specs.declared.scenario.Scenario.{Scenario}
use Rattle.am_run.proofs.lemmas.lanes.Calls.{lanes_in}
use Rattle.am_run.proofs.lemmas.phases.Parts.{all_end, continues, none_before, of_each, own_passes, own_rest, round, zip_firsts, zip_length, zip_weaker}

-- what comes first of a legal history is legal
legal_before : (t : Terms) (xs ys : List Record) → IsPrefix xs ys → IsLegal t.config t.id ys → IsLegal t.config t.id xs
legal_before t xs ys begins legal = beginnings_are_legal t.config t.id xs begins.0 (subst (λ (rs : List Record). IsLegal t.config t.id rs) (sym begins.1) legal)

-- what holds of all holds of the first of them
all_front : {X : Type 0} (P : X → Type 0) (xs ys : List X) → All P (xs ++ ys) → All P xs
all_front P [] ys all = All-nil P
all_front P (x ∷ xs) ys all = All-cons P x xs (All-head P x (xs ++ ys) all) (all_front P xs ys (All-rest P x (xs ++ ys) (x ∷ (xs ++ ys)) refl all))

-- what begins with the same goes on with what begins the other
prefix_cancel : {X : Type 0} (xs ys zs : List X) → IsPrefix (xs ++ ys) (xs ++ zs) → IsPrefix ys zs
prefix_cancel xs ys zs begins =
    (begins.0, append_cancel_left xs (ys ++ begins.0) zs (sym (append_assoc xs ys begins.0) ∙ begins.1))

prefix_map : {X Y : Type 0} (f : X → Y) (xs ys : List X) → IsPrefix xs ys → IsPrefix (map f xs) (map f ys)
prefix_map f xs ys begins = (map f begins.0, sym (map-append f xs begins.0) ∙ ap (map f) begins.1)

-- the passes before a phase, and a list that has all that they made and no more
record Past (phases : List Phase) (p : Seen) (ls : List Seen) (begun : Seen) (begins : List Record) : Type 0 where
  have : HaveMade 0 phases ls
  zero : p.number ≡ 0
  sees : All (λ (l : Seen). IsPrefix (own l.number l.log) (own l.number p.log)) ls
  made : MadeRecords begins p begun
  each : All (λ (l : Seen). IsPrefix (own l.number begun.log) (own l.number l.log)) ls
  others : (k : ℕ) → length ls < k → own k begun.log ≡ []

-- three lists of one pass are one
past_rounds : (phases : List Phase) (p : Seen) (ls : List Seen) (begun : Seen) (begins : List Record) → Past phases p ls begun begins
    → All (λ (l : Seen). (own l.number begun.log ≡ own l.number p.log) × (own l.number l.log ≡ own l.number p.log)) ls
past_rounds phases p ls begun begins o i d lt =
    let l = get_or ls i d in
    round (own l.number p.log) (own l.number begun.log) (own l.number l.log) (own_prefix l.number p.log begun.log o.made.2) (o.each i d lt) (o.sees i d lt)

-- after the begins of a phase the list is what came before and they
begun_is : (phases : List Phase) (p : Seen) (ls : List Seen) (begun : Seen) (begins : List Record) → Past phases p ls begun begins → begun.log ≡ p.log ++ begins
begun_is phases p ls begun begins o =
    continues p.log begun.log begins o.made.2
    (of_each (λ (k : ℕ). own k begun.log ≡ own k p.log) 0 phases ls o.have (λ i d lt. (past_rounds phases p ls begun begins o i d lt).0)
    (λ k more.
    let past : length ls < k = omega (arith, more) in
    o.others k past ∙ sym (none_before k p.log begun.log o.made.2 (o.others k past))))
    (subst (λ (n : ℕ). own n begun.log ≡ own n p.log ++ begins) o.zero o.made.1)

-- they are the main thread's
begins_main : (phases : List Phase) (p : Seen) (ls : List Seen) (begun : Seen) (begins : List Record) → Past phases p ls begun begins → All (λ (r : Record). r.pass ≡ 0) begins
begins_main phases p ls begun begins o =
    let Main = λ (r : Record). r.pass ≡ 0 in
    all_end Main (own 0 p.log) begins
    (subst (λ (rs : List Record). All Main rs) (subst (λ (n : ℕ). own n begun.log ≡ own n p.log ++ begins) o.zero o.made.1) (own_passes 0 begun.log))

-- what came before is the history of the phases before
past_is : (Answers : Tried → Type 0) (t : Terms) (phases : List Phase) (p : Seen) (ls : List Seen) (begun : Seen) (begins : List Record) → (o : Past phases p ls begun begins)
    → ((reports : List Report) × AfterPhases Answers t phases p ls reports) → IsLegal t.config t.id p.log → All (λ (x : Phase). length x.lanes.items ≤ length ls) phases → IsHistoryOf Answers t phases p.log
past_is Answers t phases p ls begun begins o after legal few =
    let had = after.1 in
    let none : (k : ℕ) → length ls < k → own k p.log ≡ [] = λ k more. none_before k p.log begun.log o.made.2 (o.others k more) in
    let no_more : HasNoOtherCalls ls p.log =
    record {
      each =
          λ i d lt.
          let l = get_or ls i d in
          prefix_trans (own l.number p.log) (own l.number begun.log) (own l.number l.log) (own_prefix l.number p.log begun.log o.made.2) (o.each i d lt);
      others = none;
    }
    in
    record {
      legal = legal;
      lanes = λ i.
          lanes_in 0 i phases ls p.log o.have (λ j d lt. sym (past_rounds phases p ls begun begins o j d lt).1) (λ k more. none k (omega (arith, more)))
          (λ j d lt. omega (arith, few j d lt)) (omega arith);
      reports = after.0;
      main = had.main.1;
      parts = had.parts no_more;
    }

-- a pass that is in a history has no more there than it made
prefixed_no_more : (q : List Record) (ms : List Seen) (history : List Record) → IsPrefix q history → All (λ (m : Seen). IsPrefixViewOf m history) ms
    → All (λ (m : Seen). IsPrefix (own m.number q) (own m.number m.log)) ms
prefixed_no_more q ms history begins prefixed i d lt =
    let m = get_or ms i d in
    subst (λ (rs : List Record). IsPrefix (own m.number q) rs) (prefixed i d lt).1 (own_prefix m.number q history begins)

-- what is known of a run that has stopped when its desk is closed
record Stopped (Answers : Tried → Type 0) (t : Terms) (phases : List Phase) (q : Seen) (ms : List Seen) (history : List Record) (passes : ℕ) : Type 0 where
  stop : PassesStop Answers t phases q ms
  ends : EndsWith t q ms history
  few : All (λ (x : Phase). vec_len x.lanes < passes) phases
  seated : length ms + 1 ≡ passes

few_before : (phases before : List Phase) (phase : Phase) (after : List Phase) (passes n : ℕ) → phases ≡ before ++ phase ∷ after → All (λ (x : Phase). vec_len x.lanes < passes) phases → n + 1 ≡ passes
    → All (λ (x : Phase). length x.lanes.items ≤ n) before
few_before phases before phase after passes n is few seated =
    let Few = λ (x : Phase). vec_len x.lanes < passes in
    let first = all_front Few before (phase ∷ after) (subst (λ (xs : List Phase). All Few xs) is few) in
    λ i d lt. omega (arith, first i d lt, seated, (get_or before i d).lanes.ok.0)

-- both the passes of begins and that they are asked for
begins_of : (phase : Phase) (begins : List Record) → All (λ (r : Record). r.pass ≡ 0) begins → All (λ (r : Record). (phase.flush ≡ true) × (r.call ≡ call.Begin phase.at)) begins → AreBeginsOf phase begins
begins_of phase begins main requested = λ i d lt. (main i d lt, requested i d lt)

-- the phases before a phase that was stopped, and why it was
record IsCauseOfStuck (Answers : Tried → Type 0) (t : Terms) (before : List Phase) (phase : Phase) : Type 0 where
  past : List Record
  played : IsHistoryOf Answers t before past
  stuck : IsBeginRefused t phase past ⊎ IsCallRefused t phase past

-- stopped at a begin
stuck_at_begin : (Answers : Tried → Type 0) (t : Terms) (phases : List Phase) (q : Seen) (ms : List Seen) (history : List Record) (passes : ℕ) → (o : Stopped Answers t phases q ms history passes)
    → StopsAtBegin t o.stop.phase o.stop.p q o.stop.ls ms → IsCauseOfStuck Answers t o.stop.before o.stop.phase
stuck_at_begin Answers t phases q ms history passes o b =
    let s = o.stop in
    let u = b.until in
    let begun = b.begun in
    let in_history : IsPrefix begun.log history = prefix_trans begun.log q.log history b.since o.ends.main.0 in
    let past : Past s.before s.p s.ls begun u.begins =
    record {
      have = s.have;
      zero = s.had.main.0;
      sees = s.had.sees;
      made = u.made;
      each = subst (λ (xs : List Seen). All (λ (m : Seen). IsPrefix (own m.number begun.log) (own m.number m.log)) xs) b.same (prefixed_no_more begun.log ms history in_history o.ends.lanes);
      others = λ k more. none_before k begun.log history in_history (nil_from_length (own k history) (o.ends.others k (omega (arith, more, ap length b.same))));
    }
    in
    let is = begun_is s.before s.p s.ls begun u.begins past in
    let legal : IsLegal t.config t.id begun.log = legal_before t begun.log history in_history o.ends.legal in
    record {
      past = s.p.log;
      played =
          past_is Answers t s.before s.p s.ls begun u.begins past (s.reports, s.had) (legal_before t s.p.log begun.log u.made.2 legal)
          (few_before phases s.before s.phase s.after passes (length s.ls) s.is o.few (omega (arith, o.seated, ap length b.same)));
      stuck =
          inl (record {
            requested = b.requested;
            begins = u.begins;
            main = begins_of s.phase u.begins (begins_main s.before s.p s.ls begun u.begins past) (λ i d lt. (b.requested, u.begun i d lt));
            found = u.found;
            legal = subst (λ (rs : List Record). IsLegal t.config t.id rs) is legal;
            full = subst (λ (rs : List Record). cause_of_begin t s.phase.at rs ≡ Some HistoryFull) is u.full;
          });
    }

-- the lane that was stopped, and its pass before
record Found (t : Terms) (at : ℕ) (lanes : List Lane) (before since : List Record) (P : Seen → Type 0) : Type 0 where
  lane : ℕ
  l : Seen
  number : l.number ≡ lane + 1
  is : P l
  stop : StopsOf t at (calls_at at (slice_get lanes lane)) before since l

found : (t : Terms) (at : ℕ) (lanes : List Lane) (before since : List Record) (P : Seen → Type 0) (n : ℕ) (phases : List Phase) (ls : List Seen) → HaveMade n phases ls → All P ls → AnyStops t at lanes before since n ls
    → Found t at lanes before since P
found t at lanes before since P n phases [] have all any = absurd any
found t at lanes before since P n phases (l ∷ ls) have all any =
    ⊎_elim
    (λ (here : StopsOf t at (calls_at at (slice_get lanes n)) before since l). record { lane = n; l = l; number = have.0; is = All-head P l ls all; stop = here })
    (λ (later : AnyStops t at lanes before since (n + 1) ls). found t at lanes before since P (n + 1) phases ls have.2 (All-rest P l ls (l ∷ ls) refl all) later)
    any

-- a pass has these records more in what it made
abbrev Within : List Record → Seen → Seen → Type 0
Within rest l m = IsPrefix (own l.number l.log ++ own l.number rest) (own l.number m.log)

-- their calls are the first of its lane
first_concurrent : (n : ℕ) (rest : List Record) (l m : Seen) (calls done : List Call) → l.number ≡ n → IsPrefix done calls → MadeCalls done l m → Within rest l m → IsPrefix (calls_by n rest) calls
first_concurrent n rest l m calls done is first made within =
    let f = λ (r : Record). r.call in
    let k = l.number in
    let all : IsPrefix (calls_by k l.log ++ calls_by k rest) (calls_by k l.log ++ done) =
    subst (λ (cs : List Call). IsPrefix cs (calls_by k l.log ++ done)) (map-append f (own k l.log) (own k rest))
    (subst (λ (cs : List Call). IsPrefix (map f (own k l.log ++ own k rest)) cs) made.1 (prefix_map f (own k l.log ++ own k rest) (own k m.log) within))
    in
    subst (λ (j : ℕ). IsPrefix (calls_by j rest) calls) is
    (prefix_trans (calls_by k rest) done calls (prefix_cancel (calls_by k l.log) (calls_by k rest) done all) first)

firsts_concurrent : (n i : ℕ) (at : ℕ) (lanes : List Lane) (phases : List Phase) (rest : List Record) (ls ms : List Seen) → HaveMade n phases ls → MadeFirst at lanes n ls ms → AllZip (Within rest) ls ms
    → ((k : ℕ) → n + length ls < k → own k rest ≡ []) → n ≤ i → IsPrefix (calls_by (i + 1) rest) (calls_at at (slice_get lanes i))
firsts_concurrent n i at lanes phases rest [] ms have first within others le =
    subst (λ (rs : List Record). IsPrefix (map (λ (r : Record). r.call) rs) (calls_at at (slice_get lanes i))) (sym (others (i + 1) (omega (arith, le))))
    (prefix_nil (calls_at at (slice_get lanes i)))
firsts_concurrent n i at lanes phases rest (l ∷ ls) [] have first within others le = absurd within
firsts_concurrent n i at lanes phases rest (l ∷ ls) (m ∷ ms) have first within others le =
    let Here = λ (j : ℕ). IsPrefix (calls_by (j + 1) rest) (calls_at at (slice_get lanes j)) in
    let here : Here n = first_concurrent (n + 1) rest l m (calls_at at (slice_get lanes n)) first.0.0 have.0 first.0.1 first.0.2 within.0 in
    dite (ℕ_discrete i n) (λ (e : i ≡ n). subst Here (sym e) here)
    (λ (ne : i ≢ n). firsts_concurrent (n + 1) i at lanes phases rest ls ms have.2 first.1 within.1 (λ k more. others k (omega (arith, more))) (omega (arith, le, ne)))

-- what a list goes on with has the records of a pass that the pass made since
within_one : (begun rest h joined : List Record) (l m : Seen) → begun ++ rest ≡ h → IsPrefix h joined → (own l.number begun ≡ own l.number l.log) → m.number ≡ l.number
    → IsPrefix (own m.number joined) (own m.number m.log) → Within rest l m
within_one begun rest h joined l m is first had number no_more =
    let k = l.number in
    let whole : own k h ≡ own k l.log ++ own k rest = ap (own k) (sym is) ∙ (own-append k begun rest ∙ ap (λ (rs : List Record). rs ++ own k rest) had) in
    subst (λ (rs : List Record). IsPrefix rs (own k m.log)) whole
    (prefix_trans (own k h) (own k joined) (own k m.log) (own_prefix k h joined first) (subst (λ (j : ℕ). IsPrefix (own j joined) (own j m.log)) number no_more))

within_each : (begun rest h joined : List Record) (ls ms : List Seen) → begun ++ rest ≡ h → IsPrefix h joined → All (λ (l : Seen). own l.number begun ≡ own l.number l.log) ls
    → AllZip (CalledBetween begun joined) ls ms → All (λ (m : Seen). IsPrefix (own m.number joined) (own m.number m.log)) ms → AllZip (Within rest) ls ms
within_each begun rest h joined ls ms is first had between no_more =
    zip_weaker (CalledBetween begun joined) (Within rest) (λ (l : Seen). own l.number begun ≡ own l.number l.log) (λ (m : Seen). IsPrefix (own m.number joined) (own m.number m.log)) ls ms
    (λ l m one other both. within_one begun rest h joined l m is first one both.number other) had no_more between

-- stopped at a call of a lane
stuck_at_call : (Answers : Tried → Type 0) (t : Terms) (phases : List Phase) (q : Seen) (ms : List Seen) (history : List Record) (passes : ℕ) → (o : Stopped Answers t phases q ms history passes)
    → StopsAtCall t o.stop.phase o.stop.p q o.stop.ls ms → IsCauseOfStuck Answers t o.stop.before o.stop.phase
stuck_at_call Answers t phases q ms history passes o b =
    let s = o.stop in
    let phase = s.phase in
    let at = phase.at in
    let lanes = phase.lanes.items in
    let begun = b.begun.log in
    let joined = b.stop.joined.log in
    let stop = b.stop.stop in
    let between = stop.ran.each in
    let same : length s.ls ≡ length ms = zip_length (CalledBetween begun joined) s.ls ms between in
    let joined_in : IsPrefix joined history = prefix_trans joined q.log history b.stop.begins o.ends.main.0 in
    let begun_in : IsPrefix begun history = prefix_trans begun joined history stop.ran.quiet.2 joined_in in
    let nobody : (k : ℕ) → length s.ls < k → own k history ≡ [] = λ k more. nil_from_length (own k history) (o.ends.others k (omega (arith, more, same))) in
    let past : Past s.before s.p s.ls b.begun b.begins =
    record {
      have = s.have;
      zero = s.had.main.0;
      sees = s.had.sees;
      made = b.made;
      each = zip_firsts (CalledBetween begun joined) (λ (l : Seen). IsPrefix (own l.number begun) (own l.number l.log)) s.ls ms (λ l m x. x.starts) between;
      others = λ k more. none_before k begun history begun_in (nobody k more);
    }
    in
    let rounds = past_rounds s.before s.p s.ls b.begun b.begins past in
    let had : All (λ (l : Seen). own l.number begun ≡ own l.number l.log) s.ls = λ i d lt. (rounds i d lt).0 ∙ sym (rounds i d lt).1 in
    let is = begun_is s.before s.p s.ls b.begun b.begins past in
    let one = found t at lanes begun joined (λ (l : Seen). own l.number begun ≡ own l.number l.log) 0 s.before s.ls s.have had stop.stops in
    let x = one.stop in
    let h = x.then.log in
    let rest = x.begins.0 in
    let whole : begun ++ rest ≡ h = x.begins.1 in
    let all : s.p.log ++ b.begins ++ rest ≡ h = ap (λ (rs : List Record). rs ++ rest) (sym is) ∙ whole in
    let zero : b.begun.number ≡ 0 = b.made.0 ∙ s.had.main.0 in
    let quiet : own 0 joined ≡ own 0 begun = subst (λ (n : ℕ). own n joined ≡ own n begun) zero (stop.ran.quiet.1 ∙ append-nil (own b.begun.number begun)) in
    let main_h : own 0 h ≡ own 0 begun =
    prefix_both (own 0 h) (own 0 begun) (subst (λ (rs : List Record). IsPrefix (own 0 h) rs) quiet (own_prefix 0 h joined x.ends)) (own_prefix 0 begun h x.begins)
    in
    let none : (k : ℕ) → 0 + length s.ls < k → own k rest ≡ [] = λ k more.
    let past_all : length s.ls < k = omega (arith, more) in
    let h_none : own k h ≡ [] = none_before k h history (prefix_trans h joined history x.ends joined_in) (nobody k past_all) in
    own_rest k begun rest h whole (h_none ∙ sym (none_before k begun history begun_in (nobody k past_all)))
    in
    let within = within_each begun rest h joined s.ls ms whole x.ends had between (prefixed_no_more joined ms history joined_in o.ends.lanes) in
    let k = one.l.number in
    let mine : calls_by k rest ≡ x.done =
    append_cancel_left (calls_by k one.l.log) (calls_by k rest) x.done
    (sym (map-append (λ (r : Record). r.call) (own k one.l.log) (own k rest))
    ∙ (ap (map (λ (r : Record). r.call)) (ap (λ (rs : List Record). rs ++ own k rest) (sym one.is) ∙ (sym (own-append k begun rest) ∙ ap (own k) whole)) ∙ x.made.1))
    in
    let mine_there : calls_by (one.lane + 1) rest ≡ x.done = subst (λ (n : ℕ). calls_by n rest ≡ x.done) one.number mine in
    let legal : IsLegal t.config t.id begun = legal_before t begun history begun_in o.ends.legal in
    record {
      past = s.p.log;
      played =
          past_is Answers t s.before s.p s.ls b.begun b.begins past (s.reports, s.had) (legal_before t s.p.log begun b.made.2 legal)
          (few_before phases s.before phase s.after passes (length s.ls) s.is o.few (omega (arith, o.seated, same)));
      stuck =
          inr (record {
            begins = b.begins;
            main = begins_of phase b.begins (begins_main s.before s.p s.ls b.begun b.begins past) b.requested;
            ended = λ requested. subst (λ (rs : List Record). BeginsExhausted t at rs b.begins) is (b.ended requested);
            concurrent = rest;
            others = own_rest 0 begun rest h whole main_h;
            lanes = λ i. firsts_concurrent 0 i at lanes s.before rest s.ls ms s.have stop.made within none (omega arith);
            legal = subst (λ (rs : List Record). IsLegal t.config t.id rs) (sym all) x.legal;
            lane = one.lane;
            call = x.call;
            next = subst (λ (cs : List Call). IsPrefix (cs ++ call_at at x.call ∷ []) (calls_at at (slice_get lanes one.lane))) (sym mine_there) x.next;
            refused = subst (λ (rs : List Record). cause_of_call t x.call rs ≢ None) (sym all) x.refused;
          });
    }

-- a run that has stopped shows why its scenario is stuck
pub stuck : (scenario : Scenario) (id passes : ℕ) (q : Seen) (ms : List Seen) (history : List Record) → PassesStop (IsAsPlanned scenario.scripts.items) (terms scenario.config id) scenario.phases.items q ms
    → EndsWith (terms scenario.config id) q ms history → All (λ (x : Phase). vec_len x.lanes < passes) scenario.phases.items → length ms + 1 ≡ passes → IsStuck id scenario
stuck scenario id passes q ms history stop ends few seated =
    let Answers = IsAsPlanned scenario.scripts.items in
    let t = terms scenario.config id in
    let phases = scenario.phases.items in
    let o : Stopped Answers t phases q ms history passes = record { stop = stop; ends = ends; few = few; seated = seated } in
    let why : IsCauseOfStuck Answers t stop.before stop.phase =
    ⊎_elim (λ (b : StopsAtBegin t stop.phase stop.p q stop.ls ms). stuck_at_begin Answers t phases q ms history passes o b)
    (λ (b : StopsAtCall t stop.phase stop.p q stop.ls ms). stuck_at_call Answers t phases q ms history passes o b) stop.stops
    in
    record { before = stop.before; phase = stop.phase; after = stop.after; phases = stop.is; past = why.past; played = why.played; stuck = why.stuck }

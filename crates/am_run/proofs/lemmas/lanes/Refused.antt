-- Calls that a limit refused.
use Rattle.std.proofs.Common.{◌≡◌, ◌≢◌, ⊎_elim, inl, inr, ℕ, suc, ◌+◌, ◌<◌, subst, List, [], ◌∷◌, ◌++◌, length, drop, get_or, map, slice_get, take, Option, Some, None, refl, sym, ap, ◌∙◌, append_assoc, arith}
use mathlib.Core.List.{IsPrefix}
use Rattle.std.specs.List.{AllZip}
use Rattle.std.proofs.lemmas.List.{append-nil, drop_more, map-append, take-append-drop}
use Rattle.std.proofs.lemmas.List.Elements.{All-append, All-cons, All-head, All-nil, All-rest}
use Rattle.am_model.specs.Replay.{IsLegal}
use Rattle.am_model.specs.declared.fault.Fault.{Fault}
use Rattle.am_model.specs.declared.fault.Fault.TheVariants as fault
use Rattle.am_model.specs.declared.record.Call.{Call}
use Rattle.am_model.specs.declared.record.Record.{Record}
use Rattle.am_desk.specs.Calls.{IsRefused}
use Rattle.am_desk.specs.Known.{Seen}
use Rattle.am_desk.specs.declared.word.Terms.{Terms}
use Rattle.am_desk.proofs.Prefixes.{prefix_trans}
use Rattle.am_run.specs.Interleaving.{Meets, MeetsAll}
use Rattle.am_run.specs.Lanes.{call_at, calls_at}
use Rattle.am_run.specs.LaneStates.{AfterLanes, AnyRefused, IsRefusedByLimit, MadeCalls, MadeLanes, NoneRefused, Ran, RefusesNext, passes_in}
use Rattle.am_run.specs.Steps.{MadeRecords}
use Rattle.am_run.specs.Stops.{AnyStops, LanesStop, MadeFirst, MadeFirstOf, StopsOf}
use Rattle.am_run.specs.declared.lane.LaneState.{LaneState}
use Rattle.am_scenario.specs.declared.scenario.Lane.{Lane}
use Rattle.am_scenario.specs.declared.scenario.call.LaneCall.{LaneCall}
use Rattle.am_run.proofs.lemmas.lanes.Calls.{more_made, none_made}
use Rattle.am_run.proofs.lemmas.lanes.LaneStates.{head_or, none_since, tail}
use Rattle.am_run.proofs.lemmas.lanes.Meetings.{SameNumber, no_calls, ran_between, zip_since}
use Rattle.am_run.proofs.lemmas.phases.Steps.{looked_records, same_records}

-- a pass whose call was refused made no record
pub refused_records : (t : Terms) (p q : Seen) (why : List Record → Option Fault) (f : Fault) → IsRefused t p why f q → MadeRecords [] p q
refused_records t p q why fault.NoMemory r = same_records p q r
refused_records t p q why fault.TooManyAlerts r = looked_records t p q r.0
refused_records t p q why fault.TooManyGroups r = looked_records t p q r.0
refused_records t p q why fault.TooManySilences r = looked_records t p q r.0
refused_records t p q why fault.TooManyOpen r = looked_records t p q r.0
refused_records t p q why fault.HistoryFull r = looked_records t p q r.0

has_cause : (o : Option Fault) (f : Fault) → o ≡ Some f → o ≢ None
has_cause o f is none = absurd (cc (is, none))

has_target : (o : Option (ℕ × Fault)) (k : ℕ) (f : Fault) → o ≡ Some (k, f) → o ≡ None → ⊥
has_target o k f is none = absurd (cc (is, none))

-- and if memory wasn't the cause, it has seen a legal history at which there is one
pub refused_sees : (t : Terms) (p q : Seen) (why : List Record → Option Fault) (f : Fault) → IsRefused t p why f q → f ≢ fault.NoMemory
    → IsLegal t.config t.id q.log × (why q.log ≢ None)
refused_sees t p q why fault.NoMemory r other = absurd (other refl)
refused_sees t p q why fault.TooManyAlerts r other = (r.0.legal, has_cause (why q.log) fault.TooManyAlerts r.1)
refused_sees t p q why fault.TooManyGroups r other = (r.0.legal, has_cause (why q.log) fault.TooManyGroups r.1)
refused_sees t p q why fault.TooManySilences r other = (r.0.legal, has_cause (why q.log) fault.TooManySilences r.1)
refused_sees t p q why fault.TooManyOpen r other = (r.0.legal, has_cause (why q.log) fault.TooManyOpen r.1)
refused_sees t p q why fault.HistoryFull r other = (r.0.legal, has_cause (why q.log) fault.HistoryFull r.1)

-- if no call of the lane states was refused, all calls of their lanes were made
pub lanes_made : {N : Type 0} (t : Terms) (at : ℕ) (lanes : List Lane) (ss us : List (LaneState N)) → AfterLanes t at lanes ss us → NoneRefused us → MadeLanes at lanes (passes_in ss) (passes_in us)
lanes_made {N} t at [] ss us after none = subst (λ (xs : List (LaneState N)). AllZip (MadeCalls []) (passes_in ss) (passes_in xs)) (sym after) (none_since (passes_in ss))
lanes_made t at (l ∷ ls) [] us after none = absurd after
lanes_made t at (l ∷ ls) (s ∷ ss) [] after none = absurd after
lanes_made {N} t at (l ∷ ls) (s ∷ ss) (u ∷ us) after none =
    let ran : Ran t at l.calls.items s.pass u = after.0 in
    let nil : ran.left ≡ [] = ran.all (All-head (λ (x : LaneState N). x.refused ≡ None) u us none) in
    let all : l.calls.items ≡ ran.done = ran.is ∙ (ap (λ (xs : List LaneCall). ran.done ++ xs) nil ∙ append-nil ran.done) in (
      subst (λ (xs : List LaneCall). MadeCalls (map (call_at at) xs) s.pass u.pass) (sym all) ran.made,
      lanes_made t at ls ss us after.1 (All-rest (λ (x : LaneState N). x.refused ≡ None) u us (u ∷ us) refl none),
    )

-- the first of these calls
first_of : (at : ℕ) (all done left : List LaneCall) (p q : Seen) → all ≡ done ++ left → MadeCalls (map (call_at at) done) p q → MadeFirstOf (map (call_at at) all) p q
first_of at all done left p q is made =
    (map (call_at at) done, (map (call_at at) left, sym (ap (map (call_at at)) is ∙ map-append (call_at at) done left)), made)

-- each lane state's pass made the first calls of its lane
pub lanes_first : {N : Type 0} (t : Terms) (at : ℕ) (all : List Lane) (n : ℕ) (lanes : List Lane) (ss us : List (LaneState N))
    → ((k : ℕ) → slice_get all (n + k) ≡ slice_get lanes k) → AfterLanes t at lanes ss us → MadeFirst at all n (passes_in ss) (passes_in us)
lanes_first {N} t at all n [] [] us there after = subst (λ (xs : List (LaneState N)). MadeFirst at all n [] (passes_in xs)) (sym after) tt
lanes_first {N} t at all n [] (s ∷ ss) us there after =
    let none : [] ≡ calls_at at (slice_get all n) = sym (ap (calls_at at) (ap (slice_get all) (omega arith) ∙ there 0)) in
    let nil : IsPrefix [] (calls_at at (slice_get all n)) = (calls_at at (slice_get all n), refl) in
    let rest : MadeFirst at all (n + 1) (passes_in ss) (passes_in ss) = lanes_first t at all (n + 1) [] ss ss (λ k. ap (slice_get all) (omega arith) ∙ there (suc k)) refl in
    subst (λ (xs : List (LaneState N)). MadeFirst at all n (passes_in (s ∷ ss)) (passes_in xs)) (sym after)
    (([], nil, none_made s.pass), rest)
lanes_first t at all n (l ∷ ls) [] us there after = absurd after
lanes_first t at all n (l ∷ ls) (s ∷ ss) [] there after = absurd after
lanes_first t at all n (l ∷ ls) (s ∷ ss) (u ∷ us) there after =
    let ran : Ran t at l.calls.items s.pass u = after.0 in
    let some : calls_at at (slice_get all n) ≡ map (call_at at) l.calls.items = ap (calls_at at) (ap (slice_get all) (omega arith) ∙ there 0) in (
      subst (λ (cs : List Call). MadeFirstOf cs s.pass u.pass) (sym some) (first_of at l.calls.items ran.done ran.left s.pass u.pass ran.is ran.made),
      lanes_first t at all (n + 1) ls ss us (λ k. ap (slice_get all) (omega arith) ∙ there (suc k)) after.1,
    )

-- calls that were made between two meetings
pub first_through : (at : ℕ) (all : List Lane) (n : ℕ) (ks ls ms ns : List Seen) → AllZip (MadeCalls []) ks ls → MadeFirst at all n ls ms → AllZip (MadeCalls []) ms ns → MadeFirst at all n ks ns
first_through at all n [] [] [] [] first made last = tt
first_through at all n [] [] [] (x ∷ ns) first made last = absurd last
first_through at all n [] [] (m ∷ ms) ns first made last = absurd made
first_through at all n [] (l ∷ ls) ms ns first made last = absurd first
first_through at all n (k ∷ ks) [] ms ns first made last = absurd first
first_through at all n (k ∷ ks) (l ∷ ls) [] ns first made last = absurd made
first_through at all n (k ∷ ks) (l ∷ ls) (m ∷ ms) [] first made last = absurd last
first_through at all n (k ∷ ks) (l ∷ ls) (m ∷ ms) (x ∷ ns) first made last =
    let done = made.0.0 in
    let calls : MadeCalls (done ++ []) k x = more_made done [] k m x (more_made [] done k l m first.0 made.0.2) last.0 in (
      (done, made.0.1, subst (λ (cs : List Call). MadeCalls cs k x) (append-nil done) calls),
      first_through at all (n + 1) ks ls ms ns first.1 made.1 last.1,
    )

-- where none is refused, none is by a limit
none_any : {N : Type 0} (us : List (LaneState N)) → NoneRefused us → AnyRefused us → ⊥
none_any [] none any = any
none_any {N} (u ∷ us) none any =
    ⊎_elim (λ (by : IsRefusedByLimit u). absurd (has_target u.refused by.0 by.1 by.2 (All-head (λ (y : LaneState N). y.refused ≡ None) u us none)))
    (λ (later : AnyRefused us). none_any us (All-rest (λ (y : LaneState N). y.refused ≡ None) u us (u ∷ us) refl none) later) any

-- the passes have the same numbers
first_numbers : (at : ℕ) (all : List Lane) (n : ℕ) (ls ms : List Seen) → MadeFirst at all n ls ms → AllZip SameNumber ls ms
first_numbers at all n [] [] made = tt
first_numbers at all n [] (m ∷ ms) made = absurd made
first_numbers at all n (l ∷ ls) [] made = absurd made
first_numbers at all n (l ∷ ls) (m ∷ ms) made = (made.0.2.0, first_numbers at all (n + 1) ls ms made.1)

-- a lane state with a call that a limit refused, which is its lane's next
stops_of : {N : Type 0} (t : Terms) (at : ℕ) (calls : List LaneCall) (before since : List Record) (k s : Seen) (u : LaneState N) → MadeCalls [] k s
    → IsPrefix before s.log → IsPrefix u.pass.log since → (ran : Ran t at calls s u) → (left : List LaneCall) → left ≡ ran.left → RefusesNext t left u.pass → StopsOf t at (map (call_at at) calls) before since k
stops_of t at calls before since k s u first begins ends ran [] same refuses = absurd refuses
stops_of t at calls before since k s u first begins ends ran (c ∷ cs) same refuses =
    let f = call_at at in
    let all : map f calls ≡ (map f ran.done ++ f c ∷ []) ++ map f cs =
    ap (map f) (ran.is ∙ ap (λ (xs : List LaneCall). ran.done ++ xs) (sym same))
    ∙ (map-append f ran.done (c ∷ cs) ∙ sym (append_assoc (map f ran.done) (f c ∷ []) (map f cs)))
    in
    record {
      done = map f ran.done;
      call = c;
      next = (map f cs, sym all);
      then = u.pass;
      made = more_made [] (map f ran.done) k s u.pass first ran.made;
      begins = prefix_trans before s.log u.pass.log begins ran.begins;
      ends = ends;
      legal = refuses.0;
      refused = refuses.1;
    }

-- if a call of the lane states was refused by a limit, a lane stops
pub lanes_stop : {N : Type 0} (t : Terms) (at : ℕ) (all : List Lane) (n : ℕ) (lanes : List Lane) (p q r : Seen) (ks : List Seen) (ss us : List (LaneState N)) (ns : List Seen)
    → ((k : ℕ) → slice_get all (n + k) ≡ slice_get lanes k) → NoneRefused ss → AllZip (Meets p q) ks (passes_in ss) → AfterLanes t at lanes ss us → AllZip (Meets q r) (passes_in us) ns
    → AnyRefused us → AnyStops t at all p.log r.log n ks
lanes_stop t at all n lanes p q r ks ss [] ns there none first after last any = absurd any
lanes_stop {N} t at all n [] p q r ks ss (u ∷ us) ns there none first after last any =
    absurd (none_any (u ∷ us) (subst (λ (xs : List (LaneState N)). NoneRefused xs) (sym after) none) any)
lanes_stop t at all n (l ∷ ls) p q r ks [] (u ∷ us) ns there none first after last any = absurd after
lanes_stop t at all n (l ∷ ls) p q r [] (s ∷ ss) (u ∷ us) ns there none first after last any = absurd first
lanes_stop t at all n (l ∷ ls) p q r (k ∷ ks) (s ∷ ss) (u ∷ us) [] there none first after last any = absurd last
lanes_stop {N} t at all n (l ∷ ls) p q r (k ∷ ks) (s ∷ ss) (u ∷ us) (x ∷ ns) there none first after last any =
    let ran : Ran t at l.calls.items s.pass u = after.0 in
    let some : calls_at at (slice_get all n) ≡ map (call_at at) l.calls.items = ap (calls_at at) (ap (slice_get all) (omega arith) ∙ there 0) in
    ⊎_elim
    (λ (by : IsRefusedByLimit u).
    inl (subst (λ (cs : List Call). StopsOf t at cs p.log r.log k) (sym some)
    (stops_of t at l.calls.items p.log r.log k s.pass u (no_calls k s.pass first.0.0) first.0.1 last.0.2 ran ran.left refl (ran.why by))))
    (λ (later : AnyRefused us).
    inr (lanes_stop t at all (n + 1) ls p q r ks ss us ns (λ j. ap (slice_get all) (omega arith) ∙ there (suc j))
    (All-rest (λ (y : LaneState N). y.refused ≡ None) s ss (s ∷ ss) refl none) first.1 after.1 last.1 later))
    any

-- one lane state more, with a call that a limit refused
pub any_here : {N : Type 0} (ss : List (LaneState N)) (s : LaneState N) → IsRefusedByLimit s → AnyRefused (ss ++ s ∷ [])
any_here [] s by = inl by
any_here (x ∷ xs) s by = inr (any_here xs s by)

-- one lane state more
pub any_before : {N : Type 0} (ss rs : List (LaneState N)) → AnyRefused ss → AnyRefused (ss ++ rs)
any_before [] rs any = absurd any
any_before (x ∷ xs) rs any = ⊎_elim (λ (by : IsRefusedByLimit x). inl by) (λ (later : AnyRefused xs). inr (any_before xs rs later)) any

-- lane states that were run between two meetings, and of which one has a call that a limit refused
pub all_stop : {N : Type 0} (t : Terms) (at : ℕ) (lanes : List Lane) (p q r : Seen) (ks : List Seen) (ss us : List (LaneState N)) (ns : List Seen) → NoneRefused ss
    → MeetsAll p q ks (passes_in ss) → AfterLanes t at lanes ss us → MeetsAll q r (passes_in us) ns → AnyRefused us → LanesStop t at lanes p r ks ns
all_stop t at lanes p q r ks ss us ns none first after last any =
    let made = lanes_first t at lanes 0 lanes ss us (λ k. ap (slice_get lanes) (omega arith)) after in
    record {
      ran = ran_between p q r ks (passes_in ss) (passes_in us) ns first (first_numbers at lanes 0 (passes_in ss) (passes_in us) made) last;
      made =
          first_through at lanes 0 ks (passes_in ss) (passes_in us) ns (zip_since (Meets p q) (MadeCalls []) ks (passes_in ss) (λ k l met. no_calls k l met.0) first.each) made
          (zip_since (Meets q r) (MadeCalls []) (passes_in us) ns (λ m x met. no_calls m x met.0) last.each);
      stops = lanes_stop t at lanes 0 lanes p q r ks ss us ns (λ k. ap (slice_get lanes) (omega arith)) none first.each after last.each any;
    }

-- lane states with the same refused calls have none together
pub none_kept : {N : Type 0} (ss us : List (LaneState N)) → map (λ (s : LaneState N). s.refused) us ≡ map (λ (s : LaneState N). s.refused) ss → NoneRefused ss → NoneRefused us
none_kept {N} ss [] same none = All-nil (λ (y : LaneState N). y.refused ≡ None)
none_kept [] (u ∷ us) same none = absurd (cc same)
none_kept {N} (s ∷ ss) (u ∷ us) same none =
    All-cons (λ (y : LaneState N). y.refused ≡ None) u us (ap (head_or None) same ∙ All-head (λ (y : LaneState N). y.refused ≡ None) s ss none)
    (none_kept ss us (ap tail same) (All-rest (λ (y : LaneState N). y.refused ≡ None) s ss (s ∷ ss) refl none))

-- the calls of a lane state were made up to this one, which was refused
pub ran_until : {N : Type 0} (t : Terms) (at : ℕ) (calls : List LaneCall) (n : ℕ) (c : LaneCall) (p q : Seen) (u : LaneState N) (k : ℕ) (f : Fault) → n < length calls → c ≡ get_or calls n c
    → MadeCalls (map (call_at at) (take n calls)) p q → IsPrefix p.log q.log → MadeCalls [] q u.pass → IsPrefix q.log u.pass.log → u.refused ≡ Some (k, f)
    → (f ≢ fault.NoMemory → RefusesNext t (c ∷ []) u.pass) → Ran t at calls p u
ran_until t at calls n c p q u k f there is made begins unmade since refused refuses =
    let done = map (call_at at) (take n calls) in
    let rest : drop n calls ≡ c ∷ drop (n + 1) calls = drop_more calls n c there ∙ ap (λ (x : LaneCall). x ∷ drop (n + 1) calls) (sym is) in
    record {
      done = take n calls;
      left = drop n calls;
      is = sym (take-append-drop n calls);
      made = subst (λ (cs : List Call). MadeCalls cs p u.pass) (append-nil done) (more_made done [] p q u.pass made unmade);
      begins = prefix_trans p.log q.log u.pass.log begins since;
      all = λ none. absurd (has_target u.refused k f refused none);
      why = λ by.
          let pair : (k, f) ≡ (by.0, by.1) = cc (refused, by.2) in
          let same : f ≡ by.1 = ap (λ (x : ℕ × Fault). x.1) pair in
          let next = refuses (λ (e : f ≡ fault.NoMemory). by.3 (sym same ∙ e)) in
          subst (λ (cs : List LaneCall). RefusesNext t cs u.pass) (sym rest) (next.0, next.1);
    }

-- one lane state more, of which no call was refused
pub none_more : {N : Type 0} (ss : List (LaneState N)) (s : LaneState N) → NoneRefused ss → s.refused ≡ None → NoneRefused (ss ++ s ∷ [])
none_more {N} ss s none is =
    let Fine = λ (y : LaneState N). y.refused ≡ None in
    All-append Fine ss (s ∷ []) none (All-cons Fine s [] is (All-nil Fine))

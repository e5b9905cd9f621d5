-- The parts of a history, from what the main thread's pass has seen.
use Rattle.std.proofs.Common.{◌≡◌, ◌≢◌, ℕ, Bool, suc, ◌+◌, ◌<◌, ◌≤◌, ◌-◌, cond, ne_eqb, eq-eqb, All, subst, List, [], ◌∷◌, ◌++◌, length, get_or, take, map, slice_get, refl, sym, ap, ◌∙◌, append_assoc, arith}
use mathlib.Core.List.{IsPrefix}
use mathlib.Core.Logic.{dite}
use native.Mathlib.Decide.{ℕ_discrete}
use Rattle.std.specs.List.{AllZip, flat_map}
use Rattle.std.proofs.lemmas.Grind.{flat_map-append}
use Rattle.std.proofs.lemmas.List.{append-nil, append_cancel_left, map-append, nil_from_length, take_more}
use Rattle.std.proofs.lemmas.List.Elements.{All-cons, All-head, All-nil, All-rest, All-weaker}
use Rattle.am_model.specs.declared.notice.Report.{Report}
use Rattle.am_model.specs.declared.record.Call.{Call}
use Rattle.am_model.specs.declared.record.Record.{Record}
use Rattle.am_desk.specs.Desks.{AreFresh, IsPrefixViewOf}
use Rattle.am_desk.specs.History.{own, made}
use Rattle.am_desk.specs.Known.{Seen}
use Rattle.am_desk.proofs.Histories.{own-append, own_prefix}
use Rattle.am_desk.proofs.Prefixes.{prefix_both, prefix_nil, prefix_trans}
use Rattle.am_desk.specs.declared.word.Terms.{Terms}
use Rattle.am_pool.specs.declared.courier.Tried.{Tried}
use Rattle.am_run.specs.Interleaving.{BeforePhases, AfterPhases, HasNoOtherCalls, CalledBetween, RunsPhase}
use Rattle.am_run.specs.Lanes.{calls_at, calls_by, phase_calls}
use Rattle.am_run.specs.Parts.{ArePartsFrom, SplitsByPhase, AreRecordsOfPhase, PhaseRecords, all_in}
use Rattle.am_run.specs.LaneStates.{HaveMade, MadeCalls, MadeLanes}
use Rattle.am_run.specs.Turns.{BeginsExhausted, MainSteps, records_in}
use Rattle.am_scenario.specs.declared.scenario.Lane.{Lane}
use Rattle.am_scenario.specs.declared.scenario.Phase.{Phase}
use Rattle.am_run.proofs.lemmas.phases.Turns.{no_turns, turn_more, turns_more, turns_none}

own_here : (k : ℕ) (x : Record) (xs : List Record) → x.pass ≡ k → own k (x ∷ xs) ≡ x ∷ own k xs
own_here k x xs is = ap (λ (b : Bool). cond b (x ∷ own k xs) (own k xs)) (eq-eqb x.pass k is)

own_there : (k : ℕ) (x : Record) (xs : List Record) → x.pass ≢ k → own k (x ∷ xs) ≡ own k xs
own_there k x xs other = ap (λ (b : Bool). cond b (x ∷ own k xs) (own k xs)) (ne_eqb x.pass k other)

-- a pass's own records are of the pass
pub own_passes : (k : ℕ) (xs : List Record) → All (λ (r : Record). r.pass ≡ k) (own k xs)
own_passes k [] = All-nil (λ (r : Record). r.pass ≡ k)
own_passes k (x ∷ xs) =
    let Is = λ (r : Record). r.pass ≡ k in
    dite (ℕ_discrete x.pass k)
    (λ (is : x.pass ≡ k). subst (λ (rs : List Record). All Is rs) (sym (own_here k x xs is)) (All-cons Is x (own k xs) is (own_passes k xs)))
    (λ (other : x.pass ≢ k). subst (λ (rs : List Record). All Is rs) (sym (own_there k x xs other)) (own_passes k xs))

-- where no other pass has a record, all are a pass's own
only_own : (k : ℕ) (xs : List Record) → ((j : ℕ) → j ≢ k → own j xs ≡ []) → own k xs ≡ xs
only_own k [] none = refl
only_own k (x ∷ xs) none =
    dite (ℕ_discrete x.pass k)
    (λ (is : x.pass ≡ k).
    own_here k x xs is
    ∙ ap (λ (rs : List Record). x ∷ rs)
    (only_own k xs (λ (j : ℕ) (other : j ≢ k). sym (own_there j x xs (λ (e : x.pass ≡ j). other (sym e ∙ is))) ∙ none j other)))
    (λ (other : x.pass ≢ k).
    let e : x ∷ own x.pass xs ≡ [] = sym (own_here x.pass x xs refl) ∙ none x.pass other in
    absurd (cc e))

-- what a list has beyond another has no record of a pass of which the two have the same
pub own_rest : (k : ℕ) (xs rest ys : List Record) → xs ++ rest ≡ ys → own k ys ≡ own k xs → own k rest ≡ []
own_rest k xs rest ys is same =
    append_cancel_left (own k xs) (own k rest) [] (sym (own-append k xs rest) ∙ (ap (own k) is ∙ (same ∙ sym (append-nil (own k xs)))))

-- a list that goes on with records of the pass 0 alone goes on with these
pub continues : (xs ys rs : List Record) → IsPrefix xs ys → ((k : ℕ) → 0 < k → own k ys ≡ own k xs) → own 0 ys ≡ own 0 xs ++ rs → ys ≡ xs ++ rs
continues xs ys rs begins same more =
    let rest = begins.0 in
    let none : (k : ℕ) → k ≢ 0 → own k rest ≡ [] = λ k other. own_rest k xs rest ys begins.1 (same k (omega (arith, other))) in
    let is : own 0 rest ≡ rs = append_cancel_left (own 0 xs) (own 0 rest) rs (sym (own-append 0 xs rest) ∙ (ap (own 0) begins.1 ∙ more)) in
    sym begins.1 ∙ ap (λ (zs : List Record). xs ++ zs) (sym (only_own 0 rest none) ∙ is)

-- a beginning of a list that is empty
nil_begins : (xs ys : List Record) → IsPrefix xs ys → ys ≡ [] → xs ≡ []
nil_begins xs ys begins none = prefix_both xs [] (subst (λ (zs : List Record). IsPrefix xs zs) none begins) (prefix_nil xs)

-- what has no records of a pass begins with what has none
pub none_before : (k : ℕ) (xs ys : List Record) → IsPrefix xs ys → own k ys ≡ [] → own k xs ≡ []
none_before k xs ys begins none = nil_begins (own k xs) (own k ys) (own_prefix k xs ys begins) none

-- three lists that begin each other in a round are one
pub round : (xs ys zs : List Record) → IsPrefix xs ys → IsPrefix ys zs → IsPrefix zs xs → (ys ≡ xs) × (zs ≡ xs)
round xs ys zs first then last = (
  prefix_both ys xs (prefix_trans ys zs xs then last) first,
  prefix_both zs xs last (prefix_trans xs ys zs first then),
)

-- what holds of each of these passes, and of the numbers beyond, holds of all numbers but the first
pub of_each : (P : ℕ → Type 0) (n : ℕ) (phases : List Phase) (ls : List Seen) → HaveMade n phases ls → All (λ (l : Seen). P l.number) ls
    → ((k : ℕ) → n + length ls < k → P k) → (k : ℕ) → n < k → P k
of_each P n phases [] have all others k more = others k (omega (arith, more))
of_each P n phases (l ∷ ls) have all others k more =
    dite (ℕ_discrete k (n + 1)) (λ (e : k ≡ n + 1). subst P (have.0 ∙ sym e) (All-head (λ (p : Seen). P p.number) l ls all))
    (λ (ne : k ≢ n + 1).
    of_each P (n + 1) phases ls have.2 (All-rest (λ (p : Seen). P p.number) l ls (l ∷ ls) refl all) (λ j past. others j (omega (arith, past)))
    k (omega (arith, more, ne)))

-- what follows index by index from what holds of the items
pub zip_weaker : {A B : Type 0} (R S : A → B → Type 0) (P : A → Type 0) (Q : B → Type 0) (xs : List A) (ys : List B)
    → ((x : A) (y : B) → P x → Q y → R x y → S x y) → All P xs → All Q ys → AllZip R xs ys → AllZip S xs ys
zip_weaker R S P Q [] [] holds firsts seconds all = tt
zip_weaker R S P Q [] (y ∷ ys) holds firsts seconds all = absurd all
zip_weaker R S P Q (x ∷ xs) [] holds firsts seconds all = absurd all
zip_weaker R S P Q (x ∷ xs) (y ∷ ys) holds firsts seconds all = (
  holds x y (All-head P x xs firsts) (All-head Q y ys seconds) all.0,
  zip_weaker R S P Q xs ys holds (All-rest P x xs (x ∷ xs) refl firsts) (All-rest Q y ys (y ∷ ys) refl seconds) all.1,
)

pub zip_firsts : {A B : Type 0} (R : A → B → Type 0) (P : A → Type 0) (xs : List A) (ys : List B) → ((x : A) (y : B) → R x y → P x) → AllZip R xs ys → All P xs
zip_firsts R P [] [] holds all = All-nil P
zip_firsts R P [] (y ∷ ys) holds all = absurd all
zip_firsts R P (x ∷ xs) [] holds all = absurd all
zip_firsts R P (x ∷ xs) (y ∷ ys) holds all = All-cons P x xs (holds x y all.0) (zip_firsts R P xs ys holds all.1)

zip_seconds : {A B : Type 0} (R : A → B → Type 0) (P : B → Type 0) (xs : List A) (ys : List B) → ((x : A) (y : B) → R x y → P y) → AllZip R xs ys → All P ys
zip_seconds R P [] [] holds all = All-nil P
zip_seconds R P [] (y ∷ ys) holds all = absurd all
zip_seconds R P (x ∷ xs) [] holds all = absurd all
zip_seconds R P (x ∷ xs) (y ∷ ys) holds all = All-cons P y ys (holds x y all.0) (zip_seconds R P xs ys holds all.1)

pub zip_length : {A B : Type 0} (R : A → B → Type 0) (xs : List A) (ys : List B) → AllZip R xs ys → length xs ≡ length ys
zip_length R [] [] all = refl
zip_length R [] (y ∷ ys) all = absurd all
zip_length R (x ∷ xs) [] all = absurd all
zip_length R (x ∷ xs) (y ∷ ys) all = omega (arith, zip_length R xs ys all.1)

-- what holds of all holds of the last of them
pub all_end : {X : Type 0} (P : X → Type 0) (xs ys : List X) → All P (xs ++ ys) → All P ys
all_end P [] ys all = all
all_end P (x ∷ xs) ys all = all_end P xs ys (All-rest P x (xs ++ ys) (x ∷ (xs ++ ys)) refl all)

-- a pass over a phase, by four lists that the main thread's pass had seen: before it, after the begins, when the lanes were joined, and
-- at the end
record PassOver (p begun joined s : List Record) (l m : Seen) : Type 0 where
  number : m.number ≡ l.number
  starts : own l.number begun ≡ own l.number p
  had : own l.number l.log ≡ own l.number p
  comes : own l.number joined ≡ own l.number m.log
  ends : own l.number s ≡ own l.number m.log

pass_over : (p begun joined s : List Record) (l m : Seen) → IsPrefix p begun → IsPrefix joined s → IsPrefix (own l.number l.log) (own l.number p)
    → IsPrefix (own m.number s) (own m.number m.log) → CalledBetween begun joined l m → PassOver p begun joined s l m
pass_over p begun joined s l m first last had no_more between =
    let n = l.number in
    let to : IsPrefix (own n s) (own n m.log) = subst (λ (k : ℕ). IsPrefix (own k s) (own k m.log)) between.number no_more in
    let since : IsPrefix (own n m.log) (own n joined) = subst (λ (k : ℕ). IsPrefix (own k m.log) (own k joined)) between.number between.ends in
    let start = round (own n p) (own n begun) (own n l.log) (own_prefix n p begun first) between.starts had in
    let end = round (own n m.log) (own n joined) (own n s) since (own_prefix n joined s last) to in
    record { number = between.number; starts = start.0; had = start.1; comes = end.0; ends = end.1 }

-- a pass has these records more, which are its own of a list
abbrev Adds : List Record → Seen → Seen → Type 0
Adds ys l m = own l.number m.log ≡ own l.number l.log ++ own l.number ys

-- its calls are those that it made
one_concurrent : (n : ℕ) (ys : List Record) (l m : Seen) (calls : List Call) → l.number ≡ n → MadeCalls calls l m → Adds ys l m → calls_by n ys ≡ calls
one_concurrent n ys l m calls is made adds =
    let f = λ (r : Record). r.call in
    let k = l.number in
    subst (λ (j : ℕ). calls_by j ys ≡ calls) is
    (append_cancel_left (calls_by k l.log) (calls_by k ys) calls (sym (map-append f (own k l.log) (own k ys)) ∙ (sym (ap (map f) adds) ∙ made.1)))

-- the calls of the lanes in a list that has all that their passes made in a phase, and nothing of other passes
lanes_concurrent : (n i : ℕ) (phase : Phase) (phases : List Phase) (ys : List Record) (lanes : List Lane) (ls ms : List Seen)
    → ((k : ℕ) → slice_get phase.lanes.items (n + k) ≡ slice_get lanes k) → HaveMade n phases ls → MadeLanes phase.at lanes ls ms → AllZip (Adds ys) ls ms
    → ((k : ℕ) → n + length ls < k → own k ys ≡ []) → n ≤ i → calls_by (i + 1) ys ≡ phase_calls i phase
lanes_concurrent n i phase phases ys [] [] ms there have since adds others le =
    let none : phase_calls i phase ≡ [] = ap (calls_at phase.at) (ap (slice_get phase.lanes.items) (omega (arith, le)) ∙ there (i - n)) in
    ap (map (λ (r : Record). r.call)) (others (i + 1) (omega (arith, le))) ∙ sym none
lanes_concurrent n i phase phases ys [] (l ∷ ls) [] there have since adds others le = absurd adds
lanes_concurrent n i phase phases ys [] (l ∷ ls) (m ∷ ms) there have since adds others le =
    let Here = λ (j : ℕ). calls_by (j + 1) ys ≡ phase_calls j phase in
    let none : phase_calls n phase ≡ [] = ap (calls_at phase.at) (ap (slice_get phase.lanes.items) (omega arith) ∙ there 0) in
    let here : Here n = one_concurrent (n + 1) ys l m [] have.0 since.0 adds.0 ∙ sym none in
    dite (ℕ_discrete i n) (λ (e : i ≡ n). subst Here (sym e) here)
    (λ (ne : i ≢ n).
    lanes_concurrent (n + 1) i phase phases ys [] ls ms (λ k. ap (slice_get phase.lanes.items) (omega arith) ∙ there (suc k)) have.2 since.1 adds.1
    (λ k more. others k (omega (arith, more))) (omega (arith, le, ne)))
lanes_concurrent n i phase phases ys (x ∷ xs) [] ms there have since adds others le = absurd since
lanes_concurrent n i phase phases ys (x ∷ xs) (l ∷ ls) [] there have since adds others le = absurd since
lanes_concurrent n i phase phases ys (x ∷ xs) (l ∷ ls) (m ∷ ms) there have since adds others le =
    let Here = λ (j : ℕ). calls_by (j + 1) ys ≡ phase_calls j phase in
    let calls = calls_at phase.at (slice_get (x ∷ xs) 0) in
    let some : phase_calls n phase ≡ calls = ap (calls_at phase.at) (ap (slice_get phase.lanes.items) (omega arith) ∙ there 0) in
    let here : Here n = one_concurrent (n + 1) ys l m calls have.0 since.0 adds.0 ∙ sym some in
    dite (ℕ_discrete i n) (λ (e : i ≡ n). subst Here (sym e) here)
    (λ (ne : i ≢ n).
    lanes_concurrent (n + 1) i phase phases ys xs ls ms (λ k. ap (slice_get phase.lanes.items) (omega arith) ∙ there (suc k)) have.2 since.1 adds.1
    (λ k more. others k (omega (arith, more))) (omega (arith, le, ne)))

in_order : (ps bs ys ns fs : List Record) → ps ++ bs ++ ys ++ (ns ++ fs) ≡ ps ++ (bs ++ ys ++ ns ++ fs)
in_order [] bs ys ns fs = sym (append_assoc (bs ++ ys) ns fs)
in_order (p ∷ ps) bs ys ns fs = ap (λ (rs : List Record). p ∷ rs) (in_order ps bs ys ns fs)

-- what is known at the end of a phase
record PartOver (Answers : Tried → Type 0) (desk : Terms) (phases : List Phase) (phase : Phase) (p s : Seen) (ls ms : List Seen) (reports since : List Report) : Type 0 where
  have : HaveMade 0 phases ls
  lanes : MadeLanes phase.at phase.lanes.items ls ms
  had : AfterPhases Answers desk phases p ls reports
  took : RunsPhase Answers desk phase p s ls ms reports since
  no_more : HasNoOtherCalls ms s.log

-- each pass over the phase
passes_over : (Answers : Tried → Type 0) (desk : Terms) (phases : List Phase) (phase : Phase) (p s : Seen) (ls ms : List Seen) (reports since : List Report)
    → (o : PartOver Answers desk phases phase p s ls ms reports since) → AllZip (PassOver p.log o.took.begun.log o.took.joined.log s.log) ls ms
passes_over Answers desk phases phase p s ls ms reports since o =
    let t = o.took in
    zip_weaker (CalledBetween t.begun.log t.joined.log) (PassOver p.log t.begun.log t.joined.log s.log)
    (λ (l : Seen). IsPrefix (own l.number l.log) (own l.number p.log)) (λ (m : Seen). IsPrefix (own m.number s.log) (own m.number m.log)) ls ms
    (λ l m had no_more between. pass_over p.log t.begun.log t.joined.log s.log l m t.begins.2 t.ends.2 had no_more between)
    o.had.sees o.no_more.each t.concurrent.each

-- passes that aren't there have no record in what comes first
pub others_before : (k : ℕ) (ls ms : List Seen) (xs ys : List Record) → length ls ≡ length ms → IsPrefix xs ys → ((j : ℕ) → length ms < j → own j ys ≡ []) → length ls < k → own k xs ≡ []
others_before k ls ms xs ys same begins others more = none_before k xs ys begins (others k (omega (arith, same, more)))

-- the part of a phase that is over, and how the list goes on with it
record PartMade (desk : Terms) (phase : Phase) (turn : MainSteps) (before since : List Record) : Type 0 where
  concurrent : List Record
  is : AreRecordsOfPhase desk before phase (record { turn = turn; concurrent = concurrent })
  made : since ≡ before ++ all_in (record { turn = turn; concurrent = concurrent })

part_made : (Answers : Tried → Type 0) (desk : Terms) (phases : List Phase) (phase : Phase) (p s : Seen) (ls ms : List Seen) (reports since : List Report)
    → (o : PartOver Answers desk phases phase p s ls ms reports since) → PartMade desk phase o.took.took.turn p.log s.log
part_made Answers desk phases phase p s ls ms reports since o =
    let t = o.took in
    let turn = t.took.turn in
    let begun = t.begun.log in
    let joined = t.joined.log in
    let over = passes_over Answers desk phases phase p s ls ms reports since o in
    let Over = PassOver p.log begun joined s.log in
    let same = zip_length Over ls ms over in
    let zero : t.begun.number ≡ 0 = t.begins.0 ∙ o.had.main.0 in
    let still : t.joined.number ≡ 0 = t.concurrent.quiet.0 ∙ zero in
    let to_end : IsPrefix begun s.log = prefix_trans begun joined s.log t.concurrent.quiet.2 t.ends.2 in
    let all : IsPrefix p.log s.log = prefix_trans p.log begun s.log t.begins.2 to_end in
    let begins : begun ≡ p.log ++ turn.begins =
    continues p.log begun turn.begins t.begins.2
    (of_each (λ (k : ℕ). own k begun ≡ own k p.log) 0 phases ls o.have (zip_firsts Over (λ (l : Seen). own l.number begun ≡ own l.number p.log) ls ms (λ l m x. x.starts) over)
    (λ k more.
    let past : length ls < k = omega (arith, more) in
    others_before k ls ms begun s.log same to_end o.no_more.others past ∙ sym (others_before k ls ms p.log s.log same all o.no_more.others past)))
    (subst (λ (n : ℕ). own n begun ≡ own n p.log ++ turn.begins) o.had.main.0 t.begins.1)
    in
    let rest = t.concurrent.quiet.2.0 in
    let between : begun ++ rest ≡ joined = t.concurrent.quiet.2.1 in
    let quiet : own 0 joined ≡ own 0 begun = subst (λ (n : ℕ). own n joined ≡ own n begun) zero (t.concurrent.quiet.1 ∙ append-nil (own t.begun.number begun)) in
    let ends : s.log ≡ joined ++ (turn.notes ++ turn.finishes) =
    continues joined s.log (turn.notes ++ turn.finishes) t.ends.2
    (of_each (λ (k : ℕ). own k s.log ≡ own k joined) 0 phases ls o.have
    (zip_firsts Over (λ (l : Seen). own l.number s.log ≡ own l.number joined) ls ms (λ l m x. x.ends ∙ sym x.comes) over)
    (λ k more. o.no_more.others k (omega (arith, same, more)) ∙ sym (others_before k ls ms joined s.log same t.ends.2 o.no_more.others (omega (arith, more)))))
    (subst (λ (n : ℕ). own n s.log ≡ own n joined ++ (turn.notes ++ turn.finishes)) still t.ends.1)
    in
    let none : (k : ℕ) → 0 + length ls < k → own k rest ≡ [] = λ k more.
    own_rest k begun rest joined between
    (others_before k ls ms joined s.log same t.ends.2 o.no_more.others (omega (arith, more)) ∙ sym (others_before k ls ms begun s.log same to_end o.no_more.others (omega (arith, more))))
    in
    let adds : AllZip (Adds rest) ls ms =
    zip_weaker Over (Adds rest) (λ (l : Seen). ℕ) (λ (m : Seen). ℕ) ls ms
    (λ l m a b x.
    sym x.comes
    ∙ (ap (own l.number) (sym between)
    ∙ (own-append l.number begun rest
    ∙ ap (λ (rs : List Record). rs ++ own l.number rest) (x.starts ∙ sym x.had))))
    (λ i d lt. 0) (λ i d lt. 0) over
    in
    let mine : own 0 s.log ≡ own 0 p.log ++ records_in turn = subst (λ (n : ℕ). own n s.log ≡ own n p.log ++ records_in turn) o.had.main.0 t.took.made.1 in
    record {
      concurrent = rest;
      is =
          record {
            main =
                all_end (λ (r : Record). r.pass ≡ 0) (own 0 p.log) (records_in turn)
                (subst (λ (rs : List Record). All (λ (r : Record). r.pass ≡ 0) rs) mine (own_passes 0 s.log));
            ended = λ requested. subst (λ (rs : List Record). BeginsExhausted desk phase.at rs turn.begins) begins (t.ended requested);
            others = own_rest 0 begun rest joined between quiet;
            lanes = λ i. lanes_concurrent 0 i phase phases rest phase.lanes.items ls ms (λ k. ap (slice_get phase.lanes.items) (omega arith)) o.have o.lanes adds none (omega arith);
          };
      made =
          ends
          ∙ (ap (λ (rs : List Record). rs ++ (turn.notes ++ turn.finishes)) (sym between ∙ ap (λ (rs : List Record). rs ++ rest) begins)
          ∙ in_order p.log turn.begins rest turn.notes turn.finishes);
    }

-- one more to a list of lists
flat_more : {X Y : Type 0} (f : X → List Y) (xs : List X) (x : X) (front all : List Y) → front ≡ flat_map f xs → all ≡ front ++ f x → all ≡ flat_map f (xs ++ x ∷ [])
flat_more {X} {Y} f xs x front all so_far more =
    more
    ∙ (ap (λ (ys : List Y). ys ++ f x) so_far
    ∙ sym (flat_map-append f xs (x ∷ []) ∙ ap (λ (ys : List Y). flat_map f xs ++ ys) (append-nil (f x))))

-- one part more at the end
parts_push : (desk : Terms) (before : List Record) (phases : List Phase) (parts : List PhaseRecords) (phase : Phase) (part : PhaseRecords) → ArePartsFrom desk before phases parts
    → AreRecordsOfPhase desk (before ++ flat_map all_in parts) phase part → ArePartsFrom desk before (phases ++ phase ∷ []) (parts ++ part ∷ [])
parts_push desk before [] [] phase part are is =
    (subst (λ (rs : List Record). AreRecordsOfPhase desk rs phase part) (append-nil before) is, tt)
parts_push desk before [] (x ∷ xs) phase part are is = absurd are
parts_push desk before (p ∷ ps) [] phase part are is = absurd are
parts_push desk before (p ∷ ps) (x ∷ xs) phase part are is = (
  are.0,
  parts_push desk (before ++ all_in x) ps xs phase part are.1
      (subst (λ (rs : List Record). AreRecordsOfPhase desk rs phase part) (sym (append_assoc before (all_in x) (flat_map all_in xs))) is),
)

-- before the phase nobody had more than it had made
pub no_more_before : (p s : Seen) (ls ms : List Seen) (begun joined : List Record) → IsPrefix p.log begun → IsPrefix p.log s.log → AllZip (CalledBetween begun joined) ls ms → HasNoOtherCalls ms s.log
    → HasNoOtherCalls ls p.log
no_more_before p s ls ms begun joined first all between no_more =
    record {
      each =
          zip_firsts (CalledBetween begun joined) (λ (l : Seen). IsPrefix (own l.number p.log) (own l.number l.log)) ls ms
          (λ l m x. prefix_trans (own l.number p.log) (own l.number begun) (own l.number l.log) (own_prefix l.number p.log begun first) x.starts) between;
      others = λ k more. others_before k ls ms p.log s.log (zip_length (CalledBetween begun joined) ls ms between) all no_more.others more;
    }

-- one part more
part_more : (Answers : Tried → Type 0) (desk : Terms) (phases : List Phase) (phase : Phase) (p s : Seen) (ls ms : List Seen) (reports since : List Report) → HaveMade 0 phases ls
    → MadeLanes phase.at phase.lanes.items ls ms → AfterPhases Answers desk phases p ls reports → RunsPhase Answers desk phase p s ls ms reports since → AfterPhases Answers desk (phases ++ phase ∷ []) s ms since
part_more Answers desk phases phase p s ls ms reports since have lanes had t =
    let turn = t.took.turn in
    let begun = t.begun.log in
    let joined = t.joined.log in
    let to_end : IsPrefix begun s.log = prefix_trans begun joined s.log t.concurrent.quiet.2 t.ends.2 in
    let all : IsPrefix p.log s.log = prefix_trans p.log begun s.log t.begins.2 to_end in
    record {
      main = turn_more Answers desk phases phase p s reports since had.main t.took;
      sees =
          zip_seconds (CalledBetween begun joined) (λ (m : Seen). IsPrefix (own m.number m.log) (own m.number s.log)) ls ms
          (λ l m x. prefix_trans (own m.number m.log) (own m.number joined) (own m.number s.log) x.ends (own_prefix m.number joined s.log t.ends.2)) t.concurrent.each;
      parts = λ no_more.
          let before = had.parts (no_more_before p s ls ms begun joined t.begins.2 all t.concurrent.each no_more) in
          let one = part_made Answers desk phases phase p s ls ms reports since (record { have = have; lanes = lanes; had = had; took = t; no_more = no_more }) in
          let part : PhaseRecords = record { turn = turn; concurrent = one.concurrent } in
          record {
            parts = before.parts ++ part ∷ [];
            turned =
                map-append (λ (x : PhaseRecords). x.turn) before.parts (part ∷ [])
                ∙ (ap (λ (us : List MainSteps). us ++ turn ∷ []) before.turned ∙ sym (turns_more Answers desk phases phase p s reports since had.main t.took));
            each =
                parts_push desk [] phases before.parts phase part before.each
                (subst (λ (rs : List Record). AreRecordsOfPhase desk rs phase part) before.made one.is);
            made = flat_more all_in before.parts part p.log s.log before.made one.made;
          };
    }

-- the part of the next phase of a list
pub part_next : (Answers : Tried → Type 0) (desk : Terms) (phases : List Phase) (n m : ℕ) (phase : Phase) (p q : Seen) (ls ms : List Seen) (reports since : List Report) → m ≡ n + 1 → n < length phases
    → phase ≡ get_or phases n phase → HaveMade 0 (take n phases) ls → MadeLanes phase.at phase.lanes.items ls ms
    → AfterPhases Answers desk (take n phases) p ls reports → RunsPhase Answers desk phase p q ls ms reports since → AfterPhases Answers desk (take m phases) q ms since
part_next Answers desk phases n m phase p q ls ms reports since next there is have lanes had took =
    let longer : take m phases ≡ take n phases ++ phase ∷ [] =
    ap (λ (k : ℕ). take k phases) next ∙ (take_more phases n phase there ∙ ap (λ (x : Phase). take n phases ++ x ∷ []) (sym is))
    in
    subst (λ (xs : List Phase). AfterPhases Answers desk xs q ms since) (sym longer) (part_more Answers desk (take n phases) phase p q ls ms reports since have lanes had took)

-- a history in which all passes are, and no other made a call, is made of these parts
pub parts_prefixed : (Answers : Tried → Type 0) (desk : Terms) (phases : List Phase) (p : Seen) (ls : List Seen) (reports : List Report) (history : List Record) → HaveMade 0 phases ls
    → (had : AfterPhases Answers desk phases p ls reports) → IsPrefixViewOf p history → All (λ (l : Seen). IsPrefixViewOf l history) ls → ((k : ℕ) → length ls < k → made k history ≡ 0)
    → SplitsByPhase desk phases had.main.1.turns history
parts_prefixed Answers desk phases p ls reports history have had prefixed each others =
    let none : (k : ℕ) → length ls < k → own k history ≡ [] = λ k more. nil_from_length (own k history) (others k more) in
    let no_more : HasNoOtherCalls ls p.log =
    record {
      each =
          All-weaker (λ (l : Seen). IsPrefixViewOf l history) (λ (l : Seen). IsPrefix (own l.number p.log) (own l.number l.log))
          (λ l s. subst (λ (rs : List Record). IsPrefix (own l.number p.log) rs) s.1 (own_prefix l.number p.log history prefixed.0)) ls each;
      others = λ k more. none_before k p.log history prefixed.0 (none k more);
    }
    in
    let both : All (λ (l : Seen). own l.number history ≡ own l.number p.log) ls = λ i d lt.
    let l = get_or ls i d in
    prefix_both (own l.number history) (own l.number p.log) (subst (λ (rs : List Record). IsPrefix rs (own l.number p.log)) (sym (each i d lt).1) (had.sees i d lt))
    (own_prefix l.number p.log history prefixed.0)
    in
    let whole : history ≡ p.log ++ [] =
    continues p.log history [] prefixed.0
    (of_each (λ (k : ℕ). own k history ≡ own k p.log) 0 phases ls have both (λ k more. none k (omega (arith, more)) ∙ sym (no_more.others k (omega (arith, more)))))
    (subst (λ (n : ℕ). own n history ≡ own n p.log) had.main.0 prefixed.1 ∙ sym (append-nil (own 0 p.log)))
    in
    subst (λ (rs : List Record). SplitsByPhase desk phases had.main.1.turns rs) (sym (whole ∙ append-nil p.log)) (had.parts no_more)

-- passes that have seen nothing
fresh_seen : (n : ℕ) (p : Seen) (ls : List Seen) → AreFresh n ls → All (λ (l : Seen). IsPrefix (own l.number l.log) (own l.number p.log)) ls
fresh_seen n p [] fresh = All-nil (λ (l : Seen). IsPrefix (own l.number l.log) (own l.number p.log))
fresh_seen n p (l ∷ ls) fresh =
    All-cons (λ (x : Seen). IsPrefix (own x.number x.log) (own x.number p.log)) l ls
    (subst (λ (x : Seen). IsPrefix (own x.number x.log) (own x.number p.log)) (sym fresh.0) (prefix_nil (own n p.log))) (fresh_seen (n + 1) p ls fresh.1)

-- before the first phase
pub no_parts : (Answers : Tried → Type 0) (desk : Terms) (p : Seen) (ls : List Seen) (reports : List Report) → BeforePhases p ls reports → AfterPhases Answers desk [] p ls reports
no_parts Answers desk p ls reports none =
    record {
      main = no_turns Answers desk p reports none.0 none.2;
      sees = fresh_seen 1 p ls none.1;
      parts = λ no_more. record { parts = []; turned = sym (turns_none Answers desk p reports none.0 none.2); each = tt; made = ap (λ (s : Seen). s.log) none.0 };
    }

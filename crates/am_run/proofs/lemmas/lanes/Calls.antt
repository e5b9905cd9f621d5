-- The calls of passes, and of lanes.
use Rattle.std.proofs.Common.{◌≡◌, ◌≢◌, ℕ, suc, ◌+◌, ◌<◌, ◌≤◌, ⊎_elim, All, subst, List, [], ◌∷◌, ◌++◌, length, map, slice_get, refl, sym, ap, ◌∙◌, append_assoc, arith}
use mathlib.Core.Logic.{dite}
use native.Mathlib.Decide.{ℕ_discrete}
use Rattle.std.proofs.lemmas.Grind.{flat_map-append}
use Rattle.std.proofs.lemmas.List.{append-nil, map-append, nil_from_length}
use Rattle.std.proofs.lemmas.List.Elements.{All-head, All-rest, All-weaker}
use Rattle.std.proofs.lemmas.Option.{slice_get_cases}
use Rattle.am_model.specs.declared.record.Call.{Call}
use Rattle.am_model.specs.declared.record.Record.{Record}
use Rattle.am_model.specs.declared.record.Reply.{Reply}
use Rattle.am_model.specs.Records.{entry}
use Rattle.am_desk.specs.Calls.{Called}
use Rattle.am_desk.specs.Desks.{AreFresh, IsPrefixViewOf}
use Rattle.am_desk.specs.History.{own, made}
use Rattle.am_desk.specs.Known.{Seen}
use Rattle.am_desk.specs.declared.word.Terms.{Terms}
use Rattle.am_run.specs.Lanes.{calls_at, calls_by, lane_calls, phase_calls}
use Rattle.am_run.specs.LaneStates.{HaveMade, MadeCalls, MadeLanes}
use Rattle.am_scenario.specs.declared.scenario.Lane.{Lane}
use Rattle.am_scenario.specs.declared.scenario.Phase.{Phase}

-- an accepted call is one more of its pass
pub one_made : (t : Terms) (p q : Seen) (Allowed : List Record → Type 0) (call : Call) (reply : Reply) → Called t p Allowed (entry p.number call reply) q
    → MadeCalls (call ∷ []) p q
one_made t p q Allowed call reply c =
    (ap (λ (s : Seen). s.number) c.sees, ap (map (λ (r : Record). r.call)) c.own ∙ map-append (λ (r : Record). r.call) (own p.number p.log) (entry p.number call reply ∷ []))

pub none_made : (p : Seen) → MadeCalls [] p p
none_made p = (refl, sym (append-nil (calls_by p.number p.log)))

-- what was made first, and what was made then
pub more_made : (cs ds : List Call) (p q r : Seen) → MadeCalls cs p q → MadeCalls ds q r → MadeCalls (cs ++ ds) p r
more_made cs ds p q r first then =
    let same : calls_by p.number r.log ≡ calls_by p.number q.log ++ ds = subst (λ (n : ℕ). calls_by n r.log ≡ calls_by n q.log ++ ds) first.0 then.1 in (
      then.0 ∙ first.0,
      same ∙ (ap (λ (xs : List Call). xs ++ ds) first.1 ∙ append_assoc (calls_by p.number p.log) cs ds),
    )

-- passes that have seen nothing made no calls
pub fresh_made : (n : ℕ) (ps : List Seen) → AreFresh (n + 1) ps → HaveMade n [] ps
fresh_made n [] fresh = tt
fresh_made n (p ∷ ps) fresh =
    (ap (λ (s : Seen). s.number) fresh.0, ap (λ (s : Seen). calls_by (n + 1) s.log) fresh.0, fresh_made (n + 1) ps fresh.1)

-- one phase more, of which the passes made the calls
phase_more : (i : ℕ) (phases : List Phase) (phase : Phase) → lane_calls i (phases ++ phase ∷ []) ≡ lane_calls i phases ++ phase_calls i phase
phase_more i phases phase =
    flat_map-append (phase_calls i) phases (phase ∷ []) ∙ ap (λ (cs : List Call). lane_calls i phases ++ cs) (append-nil (phase_calls i phase))

pub phase_made : (i : ℕ) (phases : List Phase) (phase : Phase) (ls : List Lane) (ps qs : List Seen) → ((k : ℕ) → slice_get phase.lanes.items (i + k) ≡ slice_get ls k)
    → HaveMade i phases ps → MadeLanes phase.at ls ps qs → HaveMade i (phases ++ phase ∷ []) qs
phase_made i phases phase [] [] [] there have since = tt
phase_made i phases phase [] [] (q ∷ qs) there have since = absurd since
phase_made i phases phase [] (p ∷ ps) [] there have since = absurd since
phase_made i phases phase [] (p ∷ ps) (q ∷ qs) there have since =
    let none : phase_calls i phase ≡ [] = ap (calls_at phase.at) (ap (slice_get phase.lanes.items) (omega arith) ∙ there 0) in
    let now : calls_by (i + 1) q.log ≡ calls_by (i + 1) p.log ++ [] = subst (λ (n : ℕ). calls_by n q.log ≡ calls_by n p.log ++ []) have.0 since.0.1 in (
      since.0.0 ∙ have.0,
      now ∙ (ap (λ (cs : List Call). cs ++ []) have.1 ∙ sym (phase_more i phases phase ∙ ap (λ (cs : List Call). lane_calls i phases ++ cs) none)),
      phase_made (i + 1) phases phase [] ps qs (λ k. ap (slice_get phase.lanes.items) (omega arith) ∙ there (suc k)) have.2 since.1,
    )
phase_made i phases phase (l ∷ ls) [] qs there have since = absurd since
phase_made i phases phase (l ∷ ls) (p ∷ ps) [] there have since = absurd since
phase_made i phases phase (l ∷ ls) (p ∷ ps) (q ∷ qs) there have since =
    let some : phase_calls i phase ≡ calls_at phase.at (slice_get (l ∷ ls) 0) = ap (calls_at phase.at) (ap (slice_get phase.lanes.items) (omega arith) ∙ there 0) in
    let calls = calls_at phase.at (slice_get (l ∷ ls) 0) in
    let now : calls_by (i + 1) q.log ≡ calls_by (i + 1) p.log ++ calls = subst (λ (n : ℕ). calls_by n q.log ≡ calls_by n p.log ++ calls) have.0 since.0.1 in (
      since.0.0 ∙ have.0,
      now ∙ (ap (λ (cs : List Call). cs ++ calls) have.1 ∙ sym (phase_more i phases phase ∙ ap (λ (cs : List Call). lane_calls i phases ++ cs) some)),
      phase_made (i + 1) phases phase ls ps qs (λ k. ap (slice_get phase.lanes.items) (omega arith) ∙ there (suc k)) have.2 since.1,
    )

-- where no phase has a lane i, there are no calls of it
pub lane_none : (i : ℕ) (phases : List Phase) → All (λ (p : Phase). length p.lanes.items ≤ i) phases → lane_calls i phases ≡ []
lane_none i [] all = refl
lane_none i (p ∷ ps) all =
    let few : length p.lanes.items ≤ i = All-head (λ (p : Phase). length p.lanes.items ≤ i) p ps all in
    let none : phase_calls i p ≡ [] =
    ⊎_elim (λ found. absurd (omega (arith, few, found.1))) (λ past. ap (calls_at p.at) past.1) (slice_get_cases p.lanes.items i).1
    in
    ap (λ (cs : List Call). cs ++ lane_calls i ps) none ∙ lane_none i ps (All-rest (λ (p : Phase). length p.lanes.items ≤ i) p ps (p ∷ ps) refl all)

-- a pass that has its own records in a history made its calls there
prefixed_with : (p : Seen) (k : ℕ) (history : List Record) → own p.number history ≡ own p.number p.log → p.number ≡ k → calls_by k history ≡ calls_by k p.log
prefixed_with p k history prefixed is =
    ap (map (λ (r : Record). r.call)) (subst (λ (n : ℕ). own n history ≡ own n p.log) is prefixed)

-- the calls of the lanes are those in a history that has the records of their passes, and none of others
pub lanes_in : (n i : ℕ) (phases : List Phase) (ps : List Seen) (history : List Record) → HaveMade n phases ps → All (λ (p : Seen). own p.number history ≡ own p.number p.log) ps
    → ((k : ℕ) → n + length ps < k → own k history ≡ []) → All (λ (p : Phase). length p.lanes.items ≤ n + length ps) phases → n ≤ i
    → calls_by (i + 1) history ≡ lane_calls i phases
lanes_in n i phases [] history have prefixed others few le =
    ap (map (λ (r : Record). r.call)) (others (i + 1) (omega (arith, le))) ∙ sym (lane_none i phases (λ k d lt. omega (arith, few k d lt, le)))
lanes_in n i phases (p ∷ ps) history have prefixed others few le =
    let Here = λ (j : ℕ). calls_by (j + 1) history ≡ lane_calls j phases in
    let Same = λ (q : Seen). own q.number history ≡ own q.number q.log in
    let here : Here n = prefixed_with p (n + 1) history (All-head Same p ps prefixed) have.0 ∙ have.1 in
    dite (ℕ_discrete i n) (λ (e : i ≡ n). subst Here (sym e) here)
    (λ (ne : i ≢ n). lanes_in (n + 1) i phases ps history have.2 (All-rest Same p ps (p ∷ ps) refl prefixed)
    (λ k more. others k (omega (arith, more))) (λ k d lt. omega (arith, few k d lt)) (omega (arith, le, ne)))

-- the calls of the lanes are in a history in which their passes are, and in which no other pass made a call
pub lanes_prefixed : (n i : ℕ) (phases : List Phase) (ps : List Seen) (history : List Record) → HaveMade n phases ps → All (λ (p : Seen). IsPrefixViewOf p history) ps
    → ((k : ℕ) → n + length ps < k → made k history ≡ 0) → All (λ (p : Phase). length p.lanes.items ≤ n + length ps) phases → n ≤ i
    → calls_by (i + 1) history ≡ lane_calls i phases
lanes_prefixed n i phases ps history have prefixed others few le =
    lanes_in n i phases ps history have (All-weaker (λ (p : Seen). IsPrefixViewOf p history) (λ (p : Seen). own p.number history ≡ own p.number p.log) (λ p s. s.1) ps prefixed)
    (λ k more. nil_from_length (own k history) (others k more)) few le

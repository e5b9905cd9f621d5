-- The states of lanes, over a phase.
use Rattle.std.proofs.Common.{◌≡◌, ℕ, suc, ◌+◌, ◌<◌, All, subst, List, [], ◌∷◌, ◌++◌, length, get_or, take, map, refl, sym, ap, ◌∙◌, arith}
use Rattle.std.specs.List.{AllZip}
use Rattle.std.proofs.lemmas.List.{map-append, take_more}
use Rattle.std.proofs.lemmas.List.Elements.{All-head, All-rest}
use Rattle.am_desk.specs.Known.{Seen}
use Rattle.am_desk.specs.declared.word.Terms.{Terms}
use Rattle.am_run.proofs.lemmas.lanes.Calls.{more_made, none_made}
use Rattle.am_run.specs.Lanes.{call_at}
use Rattle.am_run.specs.LaneStates.{AfterLanes, AllRan, MadeCalls, Ran, passes_in}
use Rattle.am_run.specs.declared.lane.LaneState.{LaneState}
use Rattle.am_scenario.specs.declared.scenario.Lane.{Lane}
use Rattle.am_scenario.specs.declared.scenario.call.LaneCall.{LaneCall}

-- what holds at each index holds index by index
pub by_index : {X : Type 0} (R : X → X → Type 0) (xs ys : List X) → length ys ≡ length xs → ((i : ℕ) (d : X) → i < length xs → R (get_or xs i d) (get_or ys i d)) → AllZip R xs ys
by_index R [] [] same each = tt
by_index R [] (y ∷ ys) same each = absurd (omega (arith, same))
by_index R (x ∷ xs) [] same each = absurd (omega (arith, same))
by_index R (x ∷ xs) (y ∷ ys) same each =
    (each 0 x (omega arith), by_index R xs ys (omega (arith, same)) (λ i d lt. each (suc i) d (omega (arith, lt))))

abbrev pub head_or : {X : Type 0} → X → List X → X
head_or d [] = d
head_or d (x ∷ xs) = x

abbrev pub tail : {X : Type 0} → List X → List X
tail [] = []
tail (x ∷ xs) = xs

-- passes that are as they were made no calls
pub none_since : (ps : List Seen) → AllZip (MadeCalls []) ps ps
none_since [] = tt
none_since (p ∷ ps) = (none_made p, none_since ps)

-- the first lane states had taken the calls of the lanes and were run, and the others stayed
pub after_lanes : {N : Type 0} (t : Terms) (at : ℕ) (lanes : List Lane) (front taken ran back : List (LaneState N)) → passes_in taken ≡ passes_in front
    → map (λ (s : LaneState N). s.calls) taken ≡ map (λ (l : Lane). l.calls) lanes → AllRan t at taken ran → AfterLanes t at lanes (front ++ back) (ran ++ back)
after_lanes t at [] [] [] [] back passes calls all = refl
after_lanes t at [] [] [] (r ∷ rs) back passes calls all = absurd all
after_lanes t at [] [] (x ∷ xs) ran back passes calls all = absurd (omega (arith, ap length passes))
after_lanes t at [] (s ∷ ss) [] ran back passes calls all = absurd (omega (arith, ap length passes))
after_lanes t at [] (s ∷ ss) (x ∷ xs) ran back passes calls all = absurd (omega (arith, ap length calls))
after_lanes t at (l ∷ ls) [] [] ran back passes calls all = absurd (omega (arith, ap length calls))
after_lanes t at (l ∷ ls) [] (x ∷ xs) ran back passes calls all = absurd (omega (arith, ap length passes))
after_lanes t at (l ∷ ls) (s ∷ ss) [] ran back passes calls all = absurd (omega (arith, ap length passes))
after_lanes t at (l ∷ ls) (s ∷ ss) (x ∷ xs) [] back passes calls all = absurd all
after_lanes {N} t at (l ∷ ls) (s ∷ ss) (x ∷ xs) (r ∷ rs) back passes calls all =
    let pass : x.pass ≡ s.pass = ap (head_or s.pass) passes in
    let call : x.calls ≡ l.calls = ap (head_or l.calls) calls in (
      subst (λ (p : Seen). Ran t at l.calls.items p r) pass (subst (λ cs. Ran t at cs.items x.pass r) call all.0),
      after_lanes t at ls ss xs rs back (ap tail passes) (ap tail calls) all.1,
    )

-- one call more of a lane was made
pub call_more : (at : ℕ) (cs : List LaneCall) (n : ℕ) (c : LaneCall) (p q r : Seen) → n < length cs → c ≡ get_or cs n c → MadeCalls (map (call_at at) (take n cs)) p q
    → MadeCalls (call_at at c ∷ []) q r → MadeCalls (map (call_at at) (take (n + 1) cs)) p r
call_more at cs n c p q r there is so_far one =
    let f = call_at at in
    let all : map f (take (n + 1) cs) ≡ map f (take n cs) ++ f c ∷ [] =
    ap (map f) (take_more cs n c there)
    ∙ (map-append f (take n cs) (get_or cs n c ∷ []) ∙ ap (λ (x : LaneCall). map f (take n cs) ++ f x ∷ []) (sym is))
    in
    subst (λ xs. MadeCalls xs p r) (sym all) (more_made (map f (take n cs)) (f c ∷ []) p q r so_far one)

-- what holds of all holds of the last of them
pub all_last : {X : Type 0} (P : X → Type 0) (xs : List X) (y : X) (ys : List X) → All P (xs ++ y ∷ ys) → All P ys
all_last P [] y ys all = All-rest P y ys (y ∷ ys) refl all
all_last P (x ∷ xs) y ys all = all_last P xs y ys (All-rest P x (xs ++ y ∷ ys) (x ∷ (xs ++ y ∷ ys)) refl all)

-- what holds of all holds of one between them
pub all_middle : {X : Type 0} (P : X → Type 0) (xs : List X) (y : X) (ys : List X) → All P (xs ++ y ∷ ys) → P y
all_middle P [] y ys all = All-head P y ys all
all_middle P (x ∷ xs) y ys all = all_middle P xs y ys (All-rest P x (xs ++ y ∷ ys) (x ∷ (xs ++ y ∷ ys)) refl all)

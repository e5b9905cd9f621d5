-- Clocks and intervals on them, one more at a time, and spans later.
use Rattle.std.proofs.Common.{◌≡◌, ◌+◌, ◌-◌, ◌<◌, ◌≤◌, ◌&&◌, ◌||◌, ◌++◌, ◌∷◌, ◌∙◌, ℕ, Bool, true, false, List, [], Option, Some, None, MatchOption, length, map, find, take, get_or, ap, refl, subst, sym, cond, leb, ltb, arith}
use Rattle.std.proofs.lemmas.Bool.Decides.{nat_tests}
use Rattle.std.proofs.lemmas.List.{take_all, take_more}
use Rattle.std.proofs.lemmas.List.Folds.{list_any-append}
use Rattle.std.proofs.lemmas.Slice.Eq.{bytes_eq-Decides}
use Rattle.std.specs.List.{AllByRecursion, list_any}
use Rattle.std.specs.Prelude.{Err, IfOk, IfSome, IsSomeAnd, MatchBool, Ok, OnOk, Result, is_ok}
use Rattle.std.specs.Str.{bytes_eq}
use Rattle.serde_json.specs.Data.{Data, Items, no_items, item}
use Rattle.serde_json.specs.Find.{as_array}
use Rattle.am_alerts.specs.Spans.{holds, is_muted}
use Rattle.am_alerts.specs.declared.spans.Span.{Span}
use Rattle.am_json.specs.Decoding.{DecodeEach, IsList, IsObject}
use Rattle.jiff.specs.Types.{UTC}
use Rattle.am_hours.specs.Pieces.{ClockData, contains_at}
use Rattle.am_hours.specs.Zones.{OfJiff, ZoneData}
use Rattle.am_hours.specs.declared.muting.Timed.{Timed}
use Rattle.am_config.specs.Later.{span_later}
use Rattle.am_config.specs.Made.{AreMade, HoldsAlike, is_timed_at}
use Rattle.am_config.specs.Times.{AreHeld, HasTimed, IsClockAt, IsClockOf, IsPlaced, IsZoneAt, TimedData, holds_at, is_utc, pieces_in, timed_in}
use Rattle.am_config.specs.declared.clocks.NamedClock.{NamedClock}
use Rattle.am_config.specs.declared.clocks.Placed.{Placed}
use Rattle.am_config.specs.declared.hours.Hours.{Hours}
use Rattle.am_config.specs.declared.hours.NamedZone.{NamedZone}

-- ---- spans later

pub and_false : (a : Bool) → (a && false) ≡ false
and_false true = refl
and_false false = refl

spread : (a x y : Bool) → ((a && x) || (a && y)) ≡ (a && (x || y))
spread true x y = refl
spread false x y = refl

holds_later : (by t : ℕ) (s : Span) → holds (span_later by s) t ≡ (leb by t && holds s (t - by))
holds_later by t s = grind (arith, nat_tests)

-- spans hold later what they held before
pub muted_later : (by t : ℕ) (spans : List Span) → is_muted (map (span_later by) spans) t ≡ (leb by t && is_muted spans (t - by))
muted_later by t [] = sym (and_false (leb by t))
muted_later by t (s ∷ spans) =
    (λ i. holds_later by t s i || muted_later by t spans i) ∙ spread (leb by t) (holds s (t - by)) (is_muted spans (t - by))

no_earlier : (from t : ℕ) → from ≡ 0 → leb from t ≡ true
no_earlier from t none = grind (arith, nat_tests)

no_less : (from t : ℕ) → from ≡ 0 → t - from ≡ t
no_less from t none = omega arith

-- spans that count from 0 stay
pub muted_from : (from t : ℕ) (spans : List Span) → from ≡ 0 → is_muted spans t ≡ (leb from t && is_muted spans (t - from))
muted_from from t spans none = sym (λ i. no_earlier from t none i && is_muted spans (no_less from t none i))

-- no spans stay none
pub muted_none : (from t : ℕ) (spans : List Span) → length spans ≡ 0 → is_muted spans t ≡ (leb from t && is_muted spans (t - from))
muted_none from t [] none = sym (and_false (leb from t))
muted_none from t (s ∷ spans) none = absurd (omega arith)

-- ---- clocks

pub same_text : (a b : List ℕ) → bytes_eq a b ≡ true → a ≡ b
same_text a b same = (bytes_eq-Decides a b).0 same

-- the clock that was made for a location
pub made_clock : (hours : Hours) (made : List NamedClock) (location : List ℕ) (known : NamedClock)
    → find (λ m. bytes_eq m.location location) made ≡ Some known → AreMade hours made → IsClockAt hours location known.clock.pieces
made_clock hours [] location known found are = absurd (cc)
made_clock hours (m ∷ ms) location known found are =
    elim (bytes_eq m.location location) as (λ b. bytes_eq m.location location ≡ b
    → cond b (Some m) (find (λ (x : NamedClock). bytes_eq x.location location) ms) ≡ Some known → IsClockAt hours location known.clock.pieces) [
      | true ↦ λ same is.
          let one : m ≡ known = cc in
          subst (λ (k : NamedClock). IsClockAt hours location k.clock.pieces) one
          (subst (λ (l : List ℕ). IsClockAt hours l m.clock.pieces) (same_text m.location location same) are.0)
      | false ↦ λ other is. made_clock hours ms location known is are.1
    ] refl found

-- one more element
pub all_more : {X : Type 0} (P : X → Type 0) (xs : List X) (x : X) → AllByRecursion P xs → P x → AllByRecursion P (xs ++ x ∷ [])
all_more P [] x all more = (more, tt)
all_more P (y ∷ ys) x all more = (all.0, all_more P ys x all.1 more)

-- ---- intervals on clocks

or_false : (a : Bool) → (a || false) ≡ a
or_false true = refl
or_false false = refl

any_more : {X : Type 0} (test : X → Bool) (xs : List X) (x : X) → list_any test (xs ++ x ∷ []) ≡ (list_any test xs || test x)
any_more test xs x = list_any-append test xs (x ∷ []) ∙ ap (λ b. list_any test xs || b) (or_false (test x))

taken_more : (placed : List Placed) (i : ℕ) (p : Placed) → i < length placed → p ≡ get_or placed i p
    → take (i + 1) placed ≡ take i placed ++ p ∷ []
taken_more placed i p here is = take_more placed i p here ∙ ap (λ (q : Placed). take i placed ++ q ∷ []) (sym is)

-- one more interval with a clock
pub alike_more : (timed more : List Timed) (placed : List Placed) (i : ℕ) (p : Placed) (x : Timed) → i < length placed → p ≡ get_or placed i p
    → HoldsAlike timed (take i placed) → ((t : ℕ) → is_timed_at t x ≡ holds_at t (timed_in p)) → more ≡ timed ++ x ∷ []
    → HoldsAlike more (take (i + 1) placed)
alike_more timed more placed i p x here is alike same pushed t =
    let test = λ (q : Placed). holds_at t (timed_in q) in
    ap (list_any (is_timed_at t)) pushed
    ∙ any_more (is_timed_at t) timed x
    ∙ (λ j. alike t j || same t j)
    ∙ sym (ap (list_any test) (taken_more placed i p here is) ∙ any_more test (take i placed) p)

-- one more interval without a clock
pub alike_skip : (timed : List Timed) (placed : List Placed) (i : ℕ) (p : Placed) → i < length placed → p ≡ get_or placed i p → p.clock ≡ None
    → HoldsAlike timed (take i placed) → HoldsAlike timed (take (i + 1) placed)
alike_skip timed placed i p here is none alike t =
    let test = λ (q : Placed). holds_at t (timed_in q) in
    let never : test p ≡ false = ap (λ o. contains_at p.interval (pieces_in o) t) none in
    alike t
    ∙ sym (ap (list_any test) (taken_more placed i p here is)
    ∙ any_more test (take i placed) p
    ∙ ap (λ b. list_any test (take i placed) || b) never
    ∙ or_false (list_any test (take i placed)))

-- intervals as the code has them hold where the intervals do
pub any_placed : (t : ℕ) (placed : List Placed) → list_any (λ p. holds_at t (timed_in p)) placed ≡ list_any (holds_at t) (map timed_in placed)
any_placed t [] = refl
any_placed t (p ∷ placed) = ap (λ b. holds_at t (timed_in p) || b) (any_placed t placed)

-- what was placed are the intervals
pub placed_each : (hours : Option Hours) (values : Items) (placed : List Placed) → DecodeEach (IsPlaced hours) values placed
    → DecodeEach (IsObject (HasTimed hours)) values (map timed_in placed)
placed_each hours no_items [] each = tt
placed_each hours no_items (p ∷ ps) each = absurd each
placed_each hours (item value values) [] each = absurd each
placed_each hours (item value values) (p ∷ ps) each = (each.0, placed_each hours values ps each.1)

-- an array that decodes to a list
pub array_decoded : {X : Type 0} (decodes_to : Data → X → Type 0) (value : Data) (values : Items) (xs : List X) → as_array value ≡ Some values
    → DecodeEach decodes_to values xs → IsList decodes_to value xs
array_decoded decodes_to value values xs is each =
    subst (λ (o : Option Items). MatchOption o ⊥ (λ items. DecodeEach decodes_to items xs)) (sym is) each

-- ---- the clock of a location

pub zone_utc : (hours : Hours) (location : List ℕ) (zone : ZoneData) → is_utc location ≡ true → zone ≡ OfJiff UTC → IsZoneAt hours location zone
zone_utc hours location zone utc is =
    subst (λ (b : Bool). MatchBool b (zone ≡ OfJiff UTC)
    (IsSomeAnd (find (λ (known : NamedZone). bytes_eq known.name location) hours.zones.items) (λ known. zone ≡ known.zone))) (sym utc) is

pub zone_known : (hours : Hours) (location : List ℕ) (known : NamedZone) → is_utc location ≡ false
    → Some known ≡ find (λ (k : NamedZone). bytes_eq k.name location) hours.zones.items → IsZoneAt hours location known.zone
zone_known hours location known other found =
    subst (λ (b : Bool). MatchBool b (known.zone ≡ OfJiff UTC)
    (IsSomeAnd (find (λ (k : NamedZone). bytes_eq k.name location) hours.zones.items) (λ k. known.zone ≡ k.zone))) (sym other)
    (subst (λ (o : Option NamedZone). IsSomeAnd o (λ k. known.zone ≡ k.zone)) found refl)

-- the clock of the zone of a location is the location's
pub located : {E : Type 0} (hours : Hours) (location : List ℕ) (zone : ZoneData) (r : Result (Option ClockData) E) → IsZoneAt hours location zone
    → IfOk r (λ o. IfSome o (λ c. IsClockOf hours zone c.pieces)) → IfOk r (λ o. IfSome o (λ c. IsClockAt hours location c.pieces))
located hours location zone (Ok None) at is = tt
located hours location zone (Ok (Some c)) at is = (zone, at, is)
located hours location zone (Err e) at is = tt

-- ---- results

-- spans that were moved
pub moved_later : {E : Type 0} (r : Result (List Span) E) (from by : ℕ) (spans slice : List Span) → IfOk r (λ moved. moved ≡ map (span_later by) slice)
    → by ≡ from → slice ≡ spans → IfOk r (λ moved. (t : ℕ) → is_muted moved t ≡ (leb from t && is_muted spans (t - from)))
moved_later (Ok moved) from by spans slice is same all =
    λ t. ap (λ s. is_muted s t) is ∙ muted_later by t slice ∙ (λ i. leb (same i) t && is_muted (all i) (t - same i))
moved_later (Err e) from by spans slice is same all = tt

-- spans of intervals on clocks
pub expanded : {E : Type 0} (r : Result (List Span) E) (slice timed : List Timed) (placed : List Placed)
    → IfOk r (λ spans. (t : ℕ) → is_muted spans t ≡ list_any (is_timed_at t) slice) → slice ≡ timed → HoldsAlike timed placed
    → IfOk r (AreHeld (map timed_in placed))
expanded (Ok spans) slice timed placed held same alike = λ t. held t ∙ ap (list_any (is_timed_at t)) same ∙ alike t ∙ any_placed t placed
expanded (Err e) slice timed placed held same alike = tt

-- what a result that is `Ok` says
pub ok_is : {X E : Type 0} (P : X → Type 0) (r : Result X E) (x : X) → r ≡ Ok x → IfOk r P → P x
ok_is P r x is holds = subst (λ q. IfOk q P) is holds

-- what is said of something that is there
pub some_is : {X : Type 0} (P : X → Type 0) (o : Option X) (x : X) → o ≡ Some x → IfSome o P → P x
some_is P o x is holds = subst (λ q. IfSome q P) is holds

-- what a call does where it is `Ok`
pub on_ok : {X E P : Type 0} (r : Result X E) → is_ok r ≡ true → OnOk r P → P
on_ok (Ok x) okay holds = holds
on_ok (Err e) okay holds = absurd (cc)

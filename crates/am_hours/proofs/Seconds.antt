-- Seconds and instants of clocks.
use Rattle.std.proofs.Common.{◌≡◌, ℕ, zero, suc, ◌*◌, ◌/◌, ℤ, pos, negsuc, neg_ℤ, ◌-ℤ◌, ◌<ℤ◌, ◌≤ℤ◌, ◌<◌, List, cond, Bool, true, false, Result, Ok, Err, refl, sym, ap, ◌∙◌, subst, Decides, T, arith}
use Rattle.std.specs.Prelude.{int_div, int_le, IfErr, IfOk, IsOk, MatchResult, ◌&&◌, ◌↔◌}
use Rattle.std.specs.Int.{is_in_range, is_positive}
use Rattle.std.specs.List.{All}
use Rattle.std.proofs.lemmas.Bool.{and_from, and_right, cond-false, cond-true, false_from_ne_true, false≢true, le-leb}
use Rattle.std.proofs.lemmas.Bool.Decides.{Decides-and}
use Rattle.std.proofs.lemmas.Int.{ints}
use Rattle.jiff.specs.Types.{DateTime, TimeZone}
use Rattle.jiff.specs.Words.{IsTimestampNanos, nanos_of_seconds}
use Rattle.jiff_core.specs.Calendar.{days_from_civil}
use Rattle.jiff_core.specs.DateTime.{civil_nanos}
use Rattle.jiff_core.specs.Time.{time_nanos}
use Rattle.am_hours.specs.Clocks.{AreDaysOfMonth, IsNoClock, IsNoPiece, IsPieceOf, instant_at, days_between, days_from, first_of, is_instant, month_begin, month_later, month_start, offset_in, second_of}
use Rattle.am_hours.specs.Pieces.{are_in_row}
use Rattle.am_hours.specs.Reading.{and_then}
use Rattle.am_hours.specs.Showing.{IsLocal, Shows, milliseconds_in}
use Rattle.am_hours.specs.declared.clock.ClockFault.{ClockFault}
use Rattle.am_hours.specs.declared.clock.ClockFault.TheVariants.{OutOfRange, TooLong, BadZone, NoMemory}
use Rattle.am_hours.specs.declared.local.LocalTime.{LocalTime}
use Rattle.am_hours.specs.declared.piece.Piece.{Piece}

-- a test as a fact
tested : (b : Bool) → T b → b ≡ true
tested true t = refl
tested false t = absurd t

passed : (b : Bool) → b ≡ true → T b
passed true e = tt
passed false e = absurd (false≢true e)

int_le-decides : (a b : ℤ) → Decides (int_le a b) (a ≤ℤ b)
int_le-decides a b = (λ e. record { le = passed (int_le a b) e }, λ h. tested (int_le a b) h.le)

pub is_instant-decides : (n : ℤ) → Decides (is_instant n) (IsTimestampNanos n)
is_instant-decides n =
    Decides-and _ _ (int_le-decides (neg_ℤ (pos 377705023201000000000)) n) (int_le-decides n (pos 253402207200999999999))

-- an instant that jiff has not
pub no_instant : (n : ℤ) → (IsTimestampNanos n → ⊥) → is_instant n ≡ false
no_instant n h = false_from_ne_true (is_instant n) (λ e. h ((is_instant-decides n).0 e))

divided : (x : ℕ) → int_div (neg_ℤ (pos x)) (pos 1000000000) ≡ neg_ℤ (pos (x / 1000000000))
divided zero = refl
divided (suc m) = refl

-- seconds, in nanoseconds, and back
pub seconds_of : (s : ℤ) → int_div (nanos_of_seconds s) (pos 1000000000) ≡ s
seconds_of (pos n) = ap pos (omega arith)
seconds_of (negsuc n) =
    let whole : suc n * 1000000000 / 1000000000 ≡ suc n = omega arith in
    divided (suc n * 1000000000) ∙ ap (λ (x : ℕ). neg_ℤ (pos x)) whole

-- the first midnight of a month
pub month_nanos : (dt : DateTime) (year : ℤ) (month : ℕ) → dt.date.year ≡ year → dt.date.month ≡ month → dt.date.day ≡ 1
    → time_nanos dt.time ≡ 0 → civil_nanos dt ≡ nanos_of_seconds (month_begin year month)
unfolding civil_nanos
month_nanos dt year month y m d t =
    let day : days_from_civil dt.date.year dt.date.month dt.date.day ≡ days_from_civil year month 1 = cc in
    omega (arith, ints, day, t)

-- and the seconds that are read from it
pub month_start-made : (dt : DateTime) (year : ℤ) (month : ℕ) (r : Result ℤ ClockFault) → dt.date.year ≡ year → dt.date.month ≡ month
    → dt.date.day ≡ 1 → time_nanos dt.time ≡ 0 → IfOk r (λ s. s ≡ int_div (civil_nanos dt) (pos 1000000000))
    → IfErr r (λ fault. fault ≡ OutOfRange) → IsOk r ↔ IsTimestampNanos (civil_nanos dt) → r ≡ month_start year month
month_start-made dt year month (Ok s) y m d t value err succeeds =
    let same = month_nanos dt year month y m d t in
    let begin = month_begin year month in
    let years : int_le year (pos 9999) ≡ true = (int_le-decides year (pos 9999)).1 (subst (λ (x : ℤ). x ≤ℤ pos 9999) y dt.date.year_in.1) in
    let months : is_in_range 1 12 month ≡ true =
    and_from _ _ (le-leb 1 month (omega (arith, dt.date.month_in.0, m))) (le-leb month 12 (omega (arith, dt.date.month_in.1, m))) in
    let has : is_instant (nanos_of_seconds begin) ≡ true =
    (is_instant-decides (nanos_of_seconds begin)).1 (subst IsTimestampNanos same (succeeds.0 refl)) in
    ap Ok (value ∙ ap (λ (n : ℤ). int_div n (pos 1000000000)) same ∙ seconds_of begin)
    ∙ sym (cond-true (int_le year (pos 9999) && is_in_range 1 12 month && is_instant (nanos_of_seconds begin)) (Ok begin) (Err OutOfRange)
    (and_from _ _ (and_from _ _ years months) has))
month_start-made dt year month (Err f) y m d t value err succeeds =
    let same = month_nanos dt year month y m d t in
    let begin = month_begin year month in
    let hasnt : is_instant (nanos_of_seconds begin) ≡ false =
    no_instant (nanos_of_seconds begin) (λ h. false≢true (succeeds.1 (subst IsTimestampNanos (sym same) h))) in
    ap Err err
    ∙ sym (cond-false (int_le year (pos 9999) && is_in_range 1 12 month && is_instant (nanos_of_seconds begin)) (Ok begin) (Err OutOfRange)
    (and_right _ _ hasnt))

-- the second that a zone's clock shows
pub second_of-made : (zone : TimeZone) (local guess offset : ℤ) → Ok guess ≡ offset_in zone local
    → Ok offset ≡ offset_in zone (local -ℤ guess) → Ok (local -ℤ offset) ≡ second_of zone local
second_of-made zone local guess offset e f =
    ap (and_then (λ (o : ℤ). Ok (local -ℤ o))) f
    ∙ ap (and_then (λ (g : ℤ). and_then (λ (o : ℤ). Ok (local -ℤ o)) (offset_in zone (local -ℤ g)))) e

-- the days of a month, where its first midnight is known
pub days_counted_from : (zone : TimeZone) (year : ℤ) (month : ℕ) (start first n : ℤ) (dt : DateTime) (counted : Result ℕ ClockFault)
    → Ok start ≡ month_start year month → Ok first ≡ second_of zone start → IsTimestampNanos (nanos_of_seconds first)
    → n ≡ nanos_of_seconds first → Shows zone n dt → counted ≡ days_from zone first dt → AreDaysOfMonth zone year month counted
days_counted_from zone year month start first n dt counted s f i e shows t =
    let check : ℤ → Result ℤ ClockFault = λ x. cond (is_instant (nanos_of_seconds x)) (Ok x) (Err OutOfRange) in
    let at : Ok first ≡ first_of zone year month =
    sym (cond-true (is_instant (nanos_of_seconds first)) (Ok first) (Err OutOfRange) ((is_instant-decides (nanos_of_seconds first)).1 i))
    ∙ ap (and_then check) (f ∙ ap (and_then (second_of zone)) s) in
    subst (λ (r : Result ℤ ClockFault). MatchResult r
    (λ x. (d : DateTime) × Shows zone (nanos_of_seconds x) d × (counted ≡ days_from zone x d)) (λ fault. counted ≡ Err fault)) at
    (dt, subst (λ (x : ℤ). Shows zone x dt) e shows, t)

-- a clock that shows no year from 1 on
pub days_from-early : (zone : TimeZone) (first : ℤ) (dt : DateTime) → dt.date.year ≤ℤ pos 0 → Err OutOfRange ≡ days_from zone first dt
days_from-early zone first dt h =
    let early : is_positive dt.date.year ≡ false = grind (arith, ints) in
    sym (cond-false (is_positive dt.date.year)
    (and_then (days_between first) (and_then (second_of zone) (month_later dt.date.year dt.date.month dt.date.day (milliseconds_in dt))))
    (Err OutOfRange) early)

-- one that does, by its local time
pub days_from-local : (zone : TimeZone) (first : ℤ) (dt : DateTime) (local : LocalTime) → pos 0 <ℤ dt.date.year → IsLocal dt local
    → and_then (days_between first) (and_then (second_of zone) (month_later (pos local.year) local.month local.day local.time)) ≡ days_from zone first dt
days_from-local zone first dt local h is =
    let late : is_positive dt.date.year ≡ true = grind (arith, ints) in
    let same : month_later (pos local.year) local.month local.day local.time
    ≡ month_later dt.date.year dt.date.month dt.date.day (milliseconds_in dt) = cc (is.year, is.month, is.day, is.time) in
    ap (λ (later : Result ℤ ClockFault). and_then (days_between first) (and_then (second_of zone) later)) same
    ∙ sym (cond-true (is_positive dt.date.year)
    (and_then (days_between first) (and_then (second_of zone) (month_later dt.date.year dt.date.month dt.date.day (milliseconds_in dt))))
    (Err OutOfRange) late)

-- the same days of the same month
pub days_counted_at : (zone : TimeZone) (year year' : ℤ) (month month' : ℕ) (counted counted' : Result ℕ ClockFault) → year ≡ year' → month ≡ month'
    → counted ≡ counted' → AreDaysOfMonth zone year month counted → AreDaysOfMonth zone year' month' counted'
days_counted_at zone year year' month month' counted counted' y m t h =
    subst (λ (x : Result ℕ ClockFault). AreDaysOfMonth zone year' month' x) t
    (subst (λ (x : ℕ). AreDaysOfMonth zone year' x counted) m (subst (λ (x : ℤ). AreDaysOfMonth zone x month counted) y h))

-- what a refusal says
pub refused_by : {X : Type 0} (r : Result X ClockFault) (fault : ClockFault) (P : ClockFault → Type 0) → r ≡ Err fault → P fault → IfErr r P
refused_by {X = X} r fault P e h = subst (λ (x : Result X ClockFault). IfErr x P) (sym e) h

-- why there is no clock, where a piece lacks
pub no_clock : (zone : TimeZone) (start : ℤ) (horizon : ℕ) (fault : ClockFault) (pieces : List Piece) (at : ℕ)
    → are_in_row 0 pieces at ≡ true → All (IsPieceOf zone start horizon) pieces → at < horizon → IsNoPiece zone (instant_at start at) fault
    → IsNoClock zone start horizon fault
no_clock zone start horizon OutOfRange pieces at row are before none =
    record { pieces = pieces; at = at; row = row; are = are; before = before; none = none }
no_clock zone start horizon BadZone pieces at row are before none =
    record { pieces = pieces; at = at; row = row; are = are; before = before; none = none }
no_clock zone start horizon TooLong pieces at row are before none = absurd none
no_clock zone start horizon NoMemory pieces at row are before none = tt

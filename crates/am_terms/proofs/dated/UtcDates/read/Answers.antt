use Rattle.std.proofs.Common.{◌≡◌, ℕ, ℤ, ap, sym, ◌∙◌, arith}
use Rattle.std.specs.Prelude.{◌<ℤ◌, pos, IfSome, Option, Result, Ok, Err, Some, None}
use Rattle.std.specs.Result.{result_ok}
use Rattle.std.proofs.lemmas.Int.{ints}
use Rattle.jiff.proofs.Family.{civil_nanos_injective, epoch_day_injective}
use Rattle.jiff.specs.Types.{DateTime, Timestamp}
use Rattle.jiff.specs.Words.{Error, civil_nanos, parse_timestamp, timestamp_view}
use Rattle.am_terms.specs.UtcDates.{StartData, IsReadFrom, IsStartAt}
use Rattle.am_terms.proofs.dated.UtcDates.read.Goals as goal

-- what is read if there is an instant
read-ok : (r : Result Timestamp Error) (t : Timestamp) → result_ok r ≡ Some t → timestamp_view r ≡ Ok t.nanosecond
read-ok (Ok s) t e = cc
read-ok (Err error) t e = cc

-- what is read is one instant
same_ok : {m n : ℤ} → Path (Result ℤ Error) (Ok m) (Ok n) → m ≡ n
same_ok is = cc

-- what is so of a start is so in other words
in_other_words : (o : Option StartData) (P Q : StartData → Type 0) → ((s : StartData) → P s → Q s) → IfSome o P → IfSome o Q
in_other_words None P Q f h = h
in_other_words (Some s) P Q f h = f s h

-- what is read if there is none
read-none : (r : Result Timestamp Error) (n : ℤ) → result_ok r ≡ None → timestamp_view r ≡ Ok n → ⊥
read-none (Ok s) n e read = cc
read-none (Err error) n e read = cc

-- one instant has one year
one_year : (a b : DateTime) → civil_nanos a ≡ civil_nanos b → a.date.year ≡ b.date.year
one_year a b same = (epoch_day_injective a.date b.date (civil_nanos_injective a b same).0).0

-- a start has no negative year
none_before : (y : ℤ) (n : ℕ) → pos n ≡ y → y <ℤ pos 0 → ⊥
none_before y n is before = omega (arith, ints, is, before)

pub returns-clause-decoded : goal.returns-clause-decoded
returns-clause-decoded c =
    let start = c.in_ok-start.start in
    let dt = c.to_datetime.result in
    let at : civil_nanos dt ≡ start.nanosecond = omega (arith, ints, c.to_datetime.ensures) in
    let read : parse_timestamp c.args.text.now ≡ Ok (civil_nanos dt) =
    sym c.parse.ensures.value ∙ read-ok c.parse.result start (sym c.ok.ensures.value ∙ c.in_ok-start.was) ∙ ap Ok (sym at) in
    in_other_words c.from_utc.result (IsStartAt dt) (IsReadFrom c.args.text.now) (λ s is. (dt, read, is)) c.from_utc.ensures.decoded

pub returns-clause-refused : goal.returns-clause-refused
returns-clause-refused c none s decoded =
    let start = c.in_ok-start.start in
    let dt = c.to_datetime.result in
    let at : civil_nanos dt ≡ start.nanosecond = omega (arith, ints, c.to_datetime.ensures) in
    let read : parse_timestamp c.args.text.now ≡ Ok (civil_nanos dt) =
    sym c.parse.ensures.value ∙ read-ok c.parse.result start (sym c.ok.ensures.value ∙ c.in_ok-start.was) ∙ ap Ok (sym at) in
    none_before dt.date.year s.day.year (decoded.2.year ∙ one_year decoded.0 dt (same_ok (sym decoded.1 ∙ read))) (c.from_utc.ensures.refused none)

pub returns-in_err-start-clause-refused : goal.returns-in_err-start-clause-refused
returns-in_err-start-clause-refused c none s decoded =
    read-none c.parse.result (civil_nanos decoded.0) (sym c.ok.ensures.value ∙ c.in_err-start.was) (c.parse.ensures.value ∙ decoded.1)

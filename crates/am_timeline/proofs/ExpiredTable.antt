-- A table of expired entries, with those of one more integration and of one more record.
use Rattle.std.proofs.Common.{◌≡◌, ◌∙◌, ◌≤◌, ◌+◌, ◌==◌, ◌&&◌, ℕ, Bool, true, false, cond, List, ◌∷◌, Option, Some, None}
use Rattle.std.proofs.Common.{ap, sym, refl, eqb-true, arith, length, max, min, take, if◌then◌else◌}
use Rattle.std.specs.Prelude.{nat_lt, slice_get}
use Rattle.std.specs.HashMap.{get}
use Rattle.std.specs.Option.{option_and_then, option_or}
use Rattle.std.proofs.lemmas.Bool.{le-ltb, lt-ltb, ltb-false}
use Rattle.std.proofs.lemmas.Option.{slice_get_past}
use Rattle.std.proofs.lemmas.Bool.Decides.{nat_tests}
use Rattle.am_alerts.specs.declared.limits.TheConstants.{MAX_TIME}
use Rattle.am_model.specs.declared.config.Config.{Config}
use Rattle.am_model.specs.declared.group.GroupName.{GroupName}
use Rattle.am_model.specs.declared.record.Record.{Record}
use Rattle.am_model.specs.look_back.Past.{Past, time_at, past_of}
use Rattle.am_model.specs.Records.{now_of}
use Rattle.am_timeline.specs.declared.logbook.log.LastEntry.{LastEntry}
use Rattle.am_timeline.specs.declared.logbook.log.Log.{Log}
use Rattle.am_timeline.specs.Expiry.{count_integrations, expired, expired_at, expired_before, expiry_of, flush_group}
use Rattle.am_timeline.specs.Log.{Follows, same_log_key}

-- an entry that is there is what the table has, and one that isn't leaves what it had
pub insert-is : (here : Bool) (x : ℕ) (old : Option ℕ) → cond here (Some x) old ≡ option_or (if here then Some x else None) old
insert-is true x old = refl
insert-is false x old = refl

pub keep-is : (here : Bool) (old : Option ℕ) → old ≡ option_or (if here then None else None) old
keep-is true old = refl
keep-is false old = refl

option_or-None : (o : Option ℕ) → option_or o None ≡ o
option_or-None None = refl
option_or-None (Some x) = refl

-- a number that isn't this one is below it or below the next
lt_other : (p index : ℕ) → (index == p) ≡ false → nat_lt p index ≡ nat_lt p (index + 1)
lt_other p index e = grind (arith, nat_tests)

-- the entries of some integrations of a flush, and of one more
pub each-more : (here : Bool) (k i : ℕ) (value : ℕ → Option ℕ) (old : Option ℕ)
    → option_or (if here && (k == i) then value k else None) (option_or (if here && nat_lt i k then value i else None) old)
    ≡ option_or (if here && nat_lt i (k + 1) then value i else None) old
each-more false k i value old = refl
each-more true k i value old = by (k == i) refl
  where
    by : (same : Bool) → (k == i) ≡ same
        → option_or (if same then value k else None) (option_or (if nat_lt i k then value i else None) old)
        ≡ option_or (if nat_lt i (k + 1) then value i else None) old
    by true e =
        let is : k ≡ i = eqb-true k i e in
        let before : nat_lt i k ≡ false = le-ltb i k (omega arith) in
        let within : nat_lt i (k + 1) ≡ true = lt-ltb i (k + 1) (omega arith) in
        ap (λ (b : Bool). option_or (value k) (option_or (if b then value i else None) old)) before
        ∙ ap (λ (n : ℕ). option_or (value n) old) is
        ∙ ap (λ (b : Bool). option_or (if b then value i else None) old) (sym within)
    by false e = ap (λ (b : Bool). option_or (if b then value i else None) old) (lt_other i k e)

-- the entries of some records, and of one more
pub table-more : (config : Config) (history : List Record) (index : ℕ) (x : Record) (p i : ℕ) → slice_get history index ≡ Some x
    → option_or (if index == p then expired_before config i (past_of (take index history)) x else None)
    (if nat_lt p index then expired config history p i else None)
    ≡ (if nat_lt p (index + 1) then expired config history p i else None)
table-more config history index x p i at = by (index == p) refl
  where
    by : (same : Bool) → (index == p) ≡ same
        → option_or (if same then expired_before config i (past_of (take index history)) x else None)
        (if nat_lt p index then expired config history p i else None)
        ≡ (if nat_lt p (index + 1) then expired config history p i else None)
    by true e =
        let is : index ≡ p = eqb-true index p e in
        let before : nat_lt p index ≡ false = le-ltb p index (omega arith) in
        let within : nat_lt p (index + 1) ≡ true = lt-ltb p (index + 1) (omega arith) in
        let here : Option ℕ = expired_before config i (past_of (take index history)) x in
        ap (λ (b : Bool). option_or here (if b then expired config history p i else None)) before
        ∙ option_or-None here
        ∙ sym (ap (λ (o : Option Record). option_and_then (expired_before config i (past_of (take index history))) o) at)
        ∙ ap (λ (n : ℕ). expired config history n i) is
        ∙ ap (λ (b : Bool). if b then expired config history p i else None) (sym within)
    by false e = ap (λ (b : Bool). if b then expired config history p i else None) (lt_other p index e)

-- the entries of all records
pub table-all : (config : Config) (history : List Record) (n p i : ℕ) → n ≡ length history
    → (if nat_lt p n then expired config history p i else None) ≡ expired config history p i
table-all config history n p i all = by (nat_lt p n) refl
  where
    by : (inside : Bool) → nat_lt p n ≡ inside → (if inside then expired config history p i else None) ≡ expired config history p i
    by true e = refl
    by false e =
        let past : length history ≤ p = omega (arith, ltb-false p n e) in
        sym (ap (λ (o : Option Record). option_and_then (expired_before config i (past_of (take p history))) o)
        (slice_get_past history p past))

-- the entry of an integration that had expired when a record began a flush, by what is kept of the past
pub expired_before-is : (config : Config) (log : Log) (past : Past) (r : Record) (name : GroupName) (t index p i : ℕ)
    → Follows log past → flush_group r.reply ≡ Some name → t ≡ max log.clock (min (now_of r.call) MAX_TIME)
    → (if (index == p) && nat_lt i (count_integrations config name)
    then expiry_of config name t (get same_log_key log.logged (record { group = name; integration = i })) else None)
    ≡ (if index == p then expired_before config i past r else None)
expired_before-is config log past r name t index p i f group clock = by (index == p)
  where
    at : t ≡ time_at (r ∷ past)
    at = clock ∙ ap (λ (c : ℕ). max c (min (now_of r.call) MAX_TIME)) f.clock

    value : (if nat_lt i (count_integrations config name)
        then expiry_of config name t (get same_log_key log.logged (record { group = name; integration = i })) else None)
        ≡ expired_before config i past r
    value =
        ap (λ (o : Option LastEntry). if nat_lt i (count_integrations config name) then expiry_of config name t o else None)
        (f.logged name i)
        ∙ ap (λ (c : ℕ). expired_at config i c past name) at
        ∙ sym (ap (λ (o : Option GroupName). option_and_then (expired_at config i (time_at (r ∷ past)) past) o) group)

    by : (here : Bool)
        → (if here && nat_lt i (count_integrations config name)
        then expiry_of config name t (get same_log_key log.logged (record { group = name; integration = i })) else None)
        ≡ (if here then expired_before config i past r else None)
    by true = value
    by false = refl

-- and where no flush begins
pub expired_before-none : (config : Config) (past : Past) (r : Record) (index p i : ℕ) (old : Option ℕ) → flush_group r.reply ≡ None
    → old ≡ option_or (if index == p then expired_before config i past r else None) old
expired_before-none config past r index p i old none =
    let at : GroupName → Option ℕ = expired_at config i (time_at (r ∷ past)) past in
    keep-is (index == p) old
    ∙ ap (λ (o : Option GroupName). option_or (if index == p then option_and_then at o else None) old) (sym none)

-- Where runs begin, in order, and the run that begins at an index.
use Rattle.std.proofs.Common.{◌≡◌, ◌∙◌, ◌<◌, ◌≤◌, ◌||◌, ◌⊎◌, inl, inr, ℕ, suc, ◌+◌, Bool, true, false, not, List, [], ◌∷◌, Option, Some, None, ap, sym, refl, get_or, length, arith, if◌then◌else◌}
use Rattle.std.specs.Prelude.{is_some, nat_lt, slice_get, zero}
use Rattle.std.specs.Option.{option_map_or}
use Rattle.std.proofs.lemmas.Bool.{cases_lt, eq-eqb, le-ltb, lt-ltb, ne_eqb}
use Rattle.std.proofs.lemmas.Option.{slice_get-get_or, slice_get_past}
use Rattle.am_terms.specs.declared.event.Event.{Event}
use Rattle.am_terms.specs.declared.event.Event.TheVariants.{Begun, Sent}
use Rattle.am_terms.specs.declared.event.PreviewedBegin.{PreviewedBegin}
use Rattle.am_terms.specs.TimeFormatData.{TimeFormatData}
use Rattle.am_timeline.specs.Changed.{is_change, is_new}
use Rattle.am_timeline.specs.Playback.{PlaybackData}
use Rattle.am_timeline.specs.declared.runs.Run.{Run}
use Rattle.am_timeline.specs.Runs.{FlushData, Fold, IsRising, event_lines_by_runs, first_runs, folded_event_lines, folded_lines, folds_of, run_at, run_lines, runs_begun, starts_from}

-- no index is before the first one
rising-low : (low : ℕ) (indexes : List ℕ) → IsRising low indexes → (i : ℕ) → i < length indexes → low ≤ get_or indexes i 0
rising-low low [] rising i inside = absurd (omega (arith, inside))
rising-low low (p ∷ indexes) rising zero inside = rising.0
rising-low low (p ∷ indexes) rising (suc i) inside =
    let rest = rising-low (p + 1) indexes rising.1 i (omega (arith, inside)) in
    let first : low ≤ p = rising.0 in
    omega (arith, rest, first)

-- indexes in order don't fall
pub rising-order : (low : ℕ) (indexes : List ℕ) → IsRising low indexes → (i j : ℕ) → i ≤ j → j < length indexes → get_or indexes i 0 ≤ get_or indexes j 0
rising-order low [] rising i j order inside = absurd (omega (arith, inside))
rising-order low (p ∷ indexes) rising zero zero order inside = omega arith
rising-order low (p ∷ indexes) rising zero (suc j) order inside =
    let rest = rising-low (p + 1) indexes rising.1 j (omega (arith, inside)) in
    omega (arith, rest)
rising-order low (p ∷ indexes) rising (suc i) zero order inside = absurd (omega (arith, order))
rising-order low (p ∷ indexes) rising (suc i) (suc j) order inside =
    rising-order (p + 1) indexes rising.1 i j (omega (arith, order)) (omega (arith, inside))

-- the run that begins at an index is the one of the index's number
pub run_at-found : (low : ℕ) (indexes : List ℕ) (runs : List Run) (index i : ℕ) (d : Run) → IsRising low indexes → length indexes ≡ length runs
    → i < length indexes → get_or indexes i 0 ≡ index → run_at index indexes runs ≡ Some (get_or runs i d)
run_at-found low [] runs index i d rising same inside is = absurd (omega (arith, inside))
run_at-found low (p ∷ indexes) [] index i d rising same inside is = absurd (omega (arith, same))
run_at-found low (p ∷ indexes) (s ∷ runs) index zero d rising same inside is =
    ap (λ (b : Bool). if b then Some s else run_at index indexes runs) (eq-eqb p index is)
run_at-found low (p ∷ indexes) (s ∷ runs) index (suc i) d rising same inside is =
    let after = rising-low (p + 1) indexes rising.1 i (omega (arith, inside)) in
    ap (λ (b : Bool). if b then Some s else run_at index indexes runs) (ne_eqb p index (omega (arith, after, is)))
    ∙ run_at-found (p + 1) indexes runs index i d rising.1 (omega (arith, same)) (omega (arith, inside)) is

-- no run begins at an index that isn't there
pub run_at-missing : (indexes : List ℕ) (runs : List Run) (index : ℕ) → ((k : ℕ) → k < length indexes → get_or indexes k 0 ≡ index → ⊥)
    → run_at index indexes runs ≡ None
run_at-missing [] runs index missing = refl
run_at-missing (p ∷ indexes) [] index missing = refl
run_at-missing (p ∷ indexes) (s ∷ runs) index missing =
    ap (λ (b : Bool). if b then Some s else run_at index indexes runs) (ne_eqb p index (missing 0 (omega arith)))
    ∙ run_at-missing indexes runs index (λ k inside. missing (suc k) (omega (arith, inside)))

-- nor at one between two that follow each other
pub run_at-gap : (indexes : List ℕ) (runs : List Run) (index i : ℕ) → ((k : ℕ) → k < i → get_or indexes k 0 < index)
    → ((k : ℕ) → i ≤ k → k < length indexes → index < get_or indexes k 0) → run_at index indexes runs ≡ None
run_at-gap indexes runs index i low high =
    run_at-missing indexes runs index (λ k inside is. either k is (cases_lt k i) inside)
  where
    either : (k : ℕ) → get_or indexes k 0 ≡ index → (k < i) ⊎ (i ≤ k) → k < length indexes → ⊥
    either k is (inl below) inside = let less = low k below in omega (arith, less, is)
    either k is (inr above) inside = let more = high k above inside in omega (arith, more, is)

-- the indexes of what begins a run are in order
pub starts-rising : (low n : ℕ) (folds : List Fold) → low ≤ n → IsRising low (starts_from n folds)
starts-rising low n [] below = tt
starts-rising low n (f ∷ folds) below =
    by f.is_first (starts-rising (n + 1) (n + 1) folds (omega arith)) (starts-rising low (n + 1) folds (omega (arith, below)))
  where
    by : (b : Bool) → IsRising (n + 1) (starts_from (n + 1) folds) → IsRising low (starts_from (n + 1) folds)
        → IsRising low (if b then n ∷ starts_from (n + 1) folds else starts_from (n + 1) folds)
    by true one other = (below, one)
    by false one other = other

-- there are as many as runs
pub starts-length : (n : ℕ) (folds : List Fold) → length (starts_from n folds) ≡ length (runs_begun folds)
starts-length n [] = refl
starts-length n (f ∷ folds) = by f.is_first (starts-length (n + 1) folds)
  where
    by : (b : Bool) → length (starts_from (n + 1) folds) ≡ length (runs_begun folds)
        → length (if b then n ∷ starts_from (n + 1) folds else starts_from (n + 1) folds)
        ≡ length (if b then f.run ∷ runs_begun folds else runs_begun folds)
    by true rest = ap suc rest
    by false rest = rest

-- the run that a flush begins
abbrev run_begun : Fold → Option Run
run_begun f = if f.is_first then Some f.run else None

-- no run begins before the first of these indexes
run_at-before : (index n : ℕ) (folds : List Fold) → index < n → run_at index (starts_from n folds) (runs_begun folds) ≡ None
run_at-before index n [] below = refl
run_at-before index n (f ∷ folds) below = by f.is_first (run_at-before index (n + 1) folds (omega (arith, below)))
  where
    by : (b : Bool) → run_at index (starts_from (n + 1) folds) (runs_begun folds) ≡ None
        → run_at index (if b then n ∷ starts_from (n + 1) folds else starts_from (n + 1) folds) (if b then f.run ∷ runs_begun folds else runs_begun folds) ≡ None
    by true rest = ap (λ (e : Bool). if e then Some f.run else run_at index (starts_from (n + 1) folds) (runs_begun folds)) (ne_eqb n index (omega (arith, below))) ∙ rest
    by false rest = rest

-- the run that begins at an index is the one that the flush there begins
run_at-from : (folds : List Fold) (n k index : ℕ) → index ≡ n + k
    → run_at index (starts_from n folds) (runs_begun folds) ≡ option_map_or run_begun (slice_get folds k) None
run_at-from [] n k index is = refl
run_at-from (f ∷ folds) n zero index is = by f.is_first
  where
    by : (b : Bool) → run_at index (if b then n ∷ starts_from (n + 1) folds else starts_from (n + 1) folds) (if b then f.run ∷ runs_begun folds else runs_begun folds)
        ≡ (if b then Some f.run else None)
    by true = ap (λ (e : Bool). if e then Some f.run else run_at index (starts_from (n + 1) folds) (runs_begun folds)) (eq-eqb n index (omega (arith, is)))
    by false = run_at-before index (n + 1) folds (omega (arith, is))
run_at-from (f ∷ folds) n (suc k) index is = by f.is_first (run_at-from folds (n + 1) k index (omega (arith, is)))
  where
    by : (b : Bool) → run_at index (starts_from (n + 1) folds) (runs_begun folds) ≡ option_map_or run_begun (slice_get folds k) None
        → run_at index (if b then n ∷ starts_from (n + 1) folds else starts_from (n + 1) folds) (if b then f.run ∷ runs_begun folds else runs_begun folds)
        ≡ option_map_or run_begun (slice_get folds k) None
    by true rest = ap (λ (e : Bool). if e then Some f.run else run_at index (starts_from (n + 1) folds) (runs_begun folds)) (ne_eqb n index (omega (arith, is))) ∙ rest
    by false rest = rest

-- the same from the start
run_at-is : (folds : List Fold) (index : ℕ) → run_at index (starts_from 0 folds) (runs_begun folds) ≡ option_map_or run_begun (slice_get folds index) None
run_at-is folds index = run_at-from folds 0 index index (omega arith)

-- the lines on an event go by the runs and where they begin
pub event_lines-by : (playback : PlaybackData) (times : TimeFormatData) (folds : List Fold) (e : Event)
    → event_lines_by_runs playback times (first_runs folds) e ≡ folded_event_lines playback times folds e
event_lines-by playback times folds (Sent begin report) = refl
event_lines-by playback times folds (Begun index) = by (slice_get playback.begins index)
  where
    lines : (b : PreviewedBegin) (o : Option Fold)
        → option_map_or (run_lines playback times b) (option_map_or run_begun o None) [] ≡ option_map_or (folded_lines playback times b) o []
    lines b None = refl
    lines b (Some f) = own f.is_first
      where
        own : (first : Bool) → option_map_or (run_lines playback times b) (if first then Some f.run else None) []
            ≡ (if first then run_lines playback times b f.run else [])
        own true = refl
        own false = refl

    by : (o : Option PreviewedBegin)
        → option_map_or (λ b. option_map_or (run_lines playback times b) (run_at index (starts_from 0 folds) (runs_begun folds)) []) o []
        ≡ option_map_or (λ b. option_map_or (folded_lines playback times b) (slice_get folds index) []) o []
    by None = refl
    by (Some b) =
        ap (λ (r : Option Run). option_map_or (run_lines playback times b) r []) (run_at-is folds index) ∙ lines b (slice_get folds index)

-- what a list has past its end, and within
within : (folds : List Fold) (index : ℕ) → not (nat_lt index (length folds)) || is_some (option_map_or run_begun (slice_get folds index) None)
    ≡ option_map_or (λ f. f.is_first) (slice_get folds index) true
within folds index = either (cases_lt index (length folds))
  where
    none : Fold
    none = record { is_first = true; run = record { count = 0; until = 0 } }

    own : (b : Bool) (r : Run) → is_some (if b then Some r else None) ≡ b
    own true r = refl
    own false r = refl

    there : (o : Option Fold) (f : Fold) → o ≡ Some f → is_some (option_map_or run_begun o None) ≡ option_map_or (λ f. f.is_first) o true
    there o f is =
        ap (λ (x : Option Fold). is_some (option_map_or run_begun x None)) is
        ∙ own f.is_first f.run
        ∙ ap (λ (x : Option Fold). option_map_or (λ f. f.is_first) x true) (sym is)

    either : (index < length folds) ⊎ (length folds ≤ index)
        → not (nat_lt index (length folds)) || is_some (option_map_or run_begun (slice_get folds index) None)
        ≡ option_map_or (λ f. f.is_first) (slice_get folds index) true
    either (inl inside) =
        ap (λ (b : Bool). not b || is_some (option_map_or run_begun (slice_get folds index) None)) (lt-ltb index (length folds) inside)
        ∙ there (slice_get folds index) (get_or folds index none) (slice_get-get_or folds index none inside)
    either (inr past) =
        ap (λ (b : Bool). not b || is_some (option_map_or run_begun (slice_get folds index) None)) (le-ltb index (length folds) past)
        ∙ ap (λ (x : Option Fold). option_map_or (λ f. f.is_first) x true) (sym (slice_get_past folds index past))

-- an event says something new by the runs and where they begin
pub is_new-by : (folds : List Fold) (count : ℕ) (e : Event) → count ≡ length folds → is_new count (first_runs folds) e ≡ is_change folds e
is_new-by folds count (Sent begin report) is = refl
is_new-by folds count (Begun index) is =
    ap (λ (n : ℕ). not (nat_lt index n) || is_some (run_at index (starts_from 0 folds) (runs_begun folds))) is
    ∙ ap (λ (r : Option Run). not (nat_lt index (length folds)) || is_some r) (run_at-is folds index)
    ∙ within folds index

-- something becomes of each flush
pub folds_of-length : (before flushes : List FlushData) → length (folds_of before flushes) ≡ length flushes
folds_of-length before [] = refl
folds_of-length before (f ∷ later) = ap suc (folds_of-length (f ∷ before) later)

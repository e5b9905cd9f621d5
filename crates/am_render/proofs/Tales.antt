-- What is given of a rehearsal that ran, and what is written of it.
use Rattle.std.proofs.Common.{arith, ◌≡◌, ◌==◌, ◌&&◌, ◌+◌, ◌++◌, ◌∷◌, [], ℕ, Bool, true, false, List, Option, Result, Ok, Err, IfOk, OnOk, is_ok, length, refl, if◌then◌else◌}
use Rattle.am_terms.specs.declared.dispatcher_change.DispatcherChange.{DispatcherChange}
use Rattle.am_terms.specs.declared.rehearsal.Rehearsal.{Rehearsal}
use Rattle.am_render.specs.declared.output_options.OutputOptions.{OutputOptions}
use Rattle.am_terms.specs.declared.expectation.Expectation.{Expectation}
use Rattle.am_terms.specs.UtcDates.{StartData}
use Rattle.serde_json.specs.Data.{Data}
use Rattle.am_input.specs.Request.{IsRequestIn, times_from}
use Rattle.am_input.specs.declared.input.Output.{Output}
use Rattle.am_input.specs.declared.input.Changes.{Changes}
use Rattle.std.specs.List.{list_all}
use Rattle.am_judge.specs.Expectation.{is_met, unmet_from}
use Rattle.am_timeline.specs.Playback.{PlaybackData}
use Rattle.am_render.specs.Printed.{IsOutputOfRun, IsOutputFor}

-- what is given of a value, by what it asks for
pub printed_by : (changes : Changes) (options : OutputOptions) (value : Data) (output : Output) (start : Option StartData) (expectations : List Expectation) (dispatcher_changes : List DispatcherChange) (rehearsal : Rehearsal) (met : Bool) (text : List ℕ)
    → IsRequestIn changes value output start expectations dispatcher_changes rehearsal
    → IsOutputOfRun rehearsal dispatcher_changes output options (times_from start) expectations met text → IsOutputFor changes options value met text
printed_by changes options value output start expectations dispatcher_changes rehearsal met text requested tale =
    record {
      output = output;
      start = start;
      expectations = expectations;
      dispatcher_changes = dispatcher_changes;
      rehearsal = rehearsal;
      requested = requested;
      tale = tale;
    }

-- what follows of two facts about what is returned
pub both_hold : {T E : Type 0} (result : Result T E) (P Q R : T → Type 0) → ((x : T) → P x → Q x → R x) → IfOk result P → IfOk result Q → IfOk result R
both_hold (Ok x) P Q R more p q = more x p q
both_hold (Err e) P Q R more p q = tt

-- what is so where a result is Ok is so, unless it is a fault
pub when_ok : {T E : Type 0} (result : Result T E) (x there other : List ℕ) → x ≡ (if is_ok result then there else other) → OnOk result (x ≡ there)
when_ok (Ok y) x there other is = is
when_ok (Err e) x there other is = tt

-- one expectation more: no number is there exactly if it is met, and so are the others
one_more_met : (met : Bool) (n : ℕ) (later : List ℕ) (all : Bool) → (length later == 0) ≡ all → (length ((if met then [] else n ∷ []) ++ later) == 0) ≡ (met && all)
one_more_met true n later all is = is
one_more_met false n later all is = grind arith

-- no expectation is listed as unmet exactly if all are met
pub none_unmet : (playbacks : List PlaybackData) (n : ℕ) (xs : List Expectation) → (length (unmet_from playbacks n xs) == 0) ≡ list_all (is_met playbacks) xs
none_unmet playbacks n [] = refl
none_unmet playbacks n (x ∷ xs) =
    one_more_met (is_met playbacks x) n (unmet_from playbacks (n + 1) xs) (list_all (is_met playbacks) xs) (none_unmet playbacks (n + 1) xs)

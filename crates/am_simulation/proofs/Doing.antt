-- What a board does over each call.
use Rattle.std.proofs.Common.{◌≡◌, ℕ, List, [], ◌∷◌, ◌++◌, Option, Some, None, Result, Ok, Err, refl, ap, ◌∙◌}
use Rattle.std.proofs.lemmas.List.{append-nil}
use Rattle.std.proofs.lemmas.List.Elements.{filter_map-append}
use Rattle.std.specs.List.{cons_option}
use Rattle.std.specs.Prelude.{IfOk, OnErr}
use Rattle.am_board.specs.History.{BoardData, with_record, opening}
use Rattle.am_model.specs.declared.config.Config.{Config}
use Rattle.am_model.specs.declared.record.Call.{Call}
use Rattle.am_model.specs.declared.record.Record.{Record}
use Rattle.am_simulation.specs.Planned.{InputTrace, input_of, inputs_in, input_trace, no_inputs, with_inputs}

-- a record of a call that isn't planned was added
abbrev pub IsIdle : BoardData → BoardData → Type 0
IsIdle old new = (r : Record) × (input_of r.call ≡ None) × (new ≡ with_record old r)

inputs_in-more : (h : List Record) (r : Record) → inputs_in (h ++ r ∷ []) ≡ inputs_in h ++ cons_option (input_of r.call) []
inputs_in-more h r = filter_map-append (λ (q : Record). input_of q.call) h (r ∷ [])

-- a board with nothing in it did nothing
pub input_trace-opening : (config : Config) (id : ℕ) → input_trace (opening config id) ≡ no_inputs config
unfolding input_trace
input_trace-opening config id = refl

input_trace-idle : (old : BoardData) (r : Record) → input_of r.call ≡ None → input_trace (with_record old r) ≡ input_trace old
unfolding input_trace
input_trace-idle old r none =
    ap (λ (acts : List Call). let done : InputTrace = record { config = old.config; acts = acts } in done)
    (inputs_in-more old.history r ∙ (ap (λ (call : Option Call). inputs_in old.history ++ cons_option call []) none ∙ append-nil (inputs_in old.history)))

-- a call that is planned comes last
pub input_trace-more : (old new : BoardData) (r : Record) → input_of r.call ≡ Some r.call → new ≡ with_record old r → input_trace new ≡ with_inputs (input_trace old) (r.call ∷ [])
unfolding input_trace
input_trace-more old new r planned recorded =
    ap input_trace recorded
    ∙ ap (λ (acts : List Call). let done : InputTrace = record { config = old.config; acts = acts } in done)
    (inputs_in-more old.history r ∙ ap (λ (call : Option Call). inputs_in old.history ++ cons_option call []) planned)

pub input_trace-same : (old new : BoardData) → IsIdle old new → input_trace new ≡ input_trace old
input_trace-same old new idle = ap input_trace idle.2 ∙ input_trace-idle old idle.0 idle.1

-- a call that isn't planned adds nothing, whether it was accepted or not
pub input_trace-over : {X E : Type 0} (old new : BoardData) (result : Result X E) → IfOk result (λ _. IsIdle old new) → OnErr result (new ≡ old) → input_trace new ≡ input_trace old
input_trace-over old new (Ok x) accepted refused = input_trace-same old new accepted
input_trace-over old new (Err e) accepted refused = ap input_trace refused

-- what was done in the end, if there was no trouble
pub done_if_ok : {X P E : Type 0} (result : Result P E) (board_of : P → BoardData) (fault : Option X) (last all : InputTrace)
    → IfOk result (λ _. fault ≡ None) → IfOk result (λ p. input_trace (board_of p) ≡ last) → (fault ≡ None → last ≡ all) → IfOk result (λ p. input_trace (board_of p) ≡ all)
done_if_ok (Ok p) board_of fault last all none same untroubled = same ∙ untroubled none
done_if_ok (Err e) board_of fault last all none same untroubled = tt

pub config_of-input_trace : (board : BoardData) (done : InputTrace) → input_trace board ≡ done → board.config ≡ done.config
unfolding input_trace
config_of-input_trace board done is = ap (λ (d : InputTrace). d.config) is

pub acted_of-input_trace : (board : BoardData) (done : InputTrace) → input_trace board ≡ done → inputs_in board.history ≡ done.acts
unfolding input_trace
acted_of-input_trace board done is = ap (λ (d : InputTrace). d.acts) is

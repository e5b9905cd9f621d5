-- How a run comes to a stop: from its steps to the phase, and from the phase to the run.
use Rattle.std.proofs.Common.{◌≡◌, ◌≢◌, ◌⊎◌, inl, inr, ℕ, Bool, true, false, cond, ◌+◌, ◌<◌, subst, List, [], ◌∷◌, ◌++◌, length, drop, get_or, take, Option, Some, None, refl, sym, ap, ◌∙◌}
use mathlib.Core.List.{IsPrefix}
use Rattle.std.proofs.lemmas.List.{drop_more, take-append-drop}
use Rattle.std.proofs.lemmas.List.Elements.{All-append, All-nil}
use Rattle.am_model.specs.Ticket.{TicketData}
use Rattle.am_model.specs.declared.fault.Fault.{Fault}
use Rattle.am_model.specs.declared.fault.Fault.TheVariants as fault
use Rattle.am_model.specs.declared.notice.Report.{Report}
use Rattle.am_model.specs.declared.record.Call.TheVariants as call
use Rattle.am_model.specs.declared.record.Record.{Record}
use Rattle.am_desk.specs.Calls.{IsNoteRefused, IsRefused, cause_of_begin}
use Rattle.am_desk.specs.Known.{Seen}
use Rattle.am_desk.specs.declared.word.Terms.{Terms}
use Rattle.am_desk.proofs.Prefixes.{prefix_self, prefix_trans}
use Rattle.am_model.specs.declared.fault.NoteFault.{NoteFault}
use Rattle.am_model.specs.declared.fault.NoteFault.TheVariants as note
use Rattle.am_pool.specs.declared.courier.Tried.{Tried}
use Rattle.am_run.specs.Interleaving.{AfterPhases}
use Rattle.am_run.specs.LaneStates.{HaveMade}
use Rattle.am_run.specs.PhaseFaults.{HasNoFault}
use Rattle.am_run.specs.Steps.{Begins}
use Rattle.am_run.specs.Stops.{BeginsUntilFull, LanesStopBefore, PassesStop, PhaseStops}
use Rattle.am_run.specs.Turns.{FoundDue}
use Rattle.am_run.specs.declared.phase_faults.PhaseFaults.{PhaseFaults}
use Rattle.am_run.specs.declared.phase_faults.Refused.{Refused}
use Rattle.am_scenario.specs.declared.scenario.Phase.{Phase}
use Rattle.am_run.proofs.lemmas.phases.Steps.{looked_records, more_records}

-- a begin has no cause but a full history and too many open flushes
begin_causes : (full many : Bool) (f : Fault) → cond full (Some fault.HistoryFull) (cond many (Some fault.TooManyOpen) None) ≡ Some f → f ≢ fault.TooManyOpen → f ≡ fault.HistoryFull
begin_causes true many f is other = cc is
begin_causes false true f is other = absurd (other (cc is))
begin_causes false false f is other = absurd (cc is)

-- a begin that was refused, not for memory or the open flushes, found the history full
pub begin_full : (t : Terms) (at : ℕ) (p q : Seen) (f : Fault) → IsRefused t p (cause_of_begin t at) f q → f ≢ fault.NoMemory → f ≢ fault.TooManyOpen → BeginsUntilFull t at p q
begin_full t at p q fault.NoMemory r one other = absurd (one refl)
begin_full t at p q fault.TooManyAlerts r one other = absurd (cc (begin_causes _ _ fault.TooManyAlerts r.1 other))
begin_full t at p q fault.TooManyGroups r one other = absurd (cc (begin_causes _ _ fault.TooManyGroups r.1 other))
begin_full t at p q fault.TooManySilences r one other = absurd (cc (begin_causes _ _ fault.TooManySilences r.1 other))
begin_full t at p q fault.TooManyOpen r one other = absurd (other refl)
begin_full t at p q fault.HistoryFull r one other =
    record { begins = []; made = looked_records t p q r.0; begun = All-nil (λ (x : Record). x.call ≡ call.Begin at); found = All-nil FoundDue; full = r.1 }

-- begins that found a group due, and then one that found the history full
pub begins_until : (t : Terms) (at : ℕ) (p q r : Seen) (ts us : List TicketData) → Begins t true true at p q ts us → BeginsUntilFull t at q r → BeginsUntilFull t at p r
begins_until t at p q r ts us first then =
    let Is = λ (x : Record). x.call ≡ call.Begin at in
    record {
      begins = first.begins ++ then.begins;
      made = more_records first.begins then.begins p q r first.made then.made;
      begun = All-append Is first.begins then.begins (λ i d lt. (first.begun i d lt).1) then.begun;
      found = All-append FoundDue first.begins then.begins (first.found refl) then.found;
      full = then.full;
    }

-- a pass whose note was refused goes on
pub note_continues : (t : Terms) (p q : Seen) (why : List Record → Option NoteFault) (f : NoteFault) → IsNoteRefused t p why f q → IsPrefix p.log q.log
note_continues t p q why note.NoMemory r = subst (λ (x : Seen). IsPrefix p.log x.log) (sym r) (prefix_self p.log)
note_continues t p q why note.HistoryFull r = r.0.begins
note_continues t p q why note.Foreign r = subst (λ (x : Seen). IsPrefix p.log x.log) (sym r) (prefix_self p.log)
note_continues t p q why note.NotOpen r = r.0.begins
note_continues t p q why note.NotReady r = r.0.begins
note_continues t p q why note.Already r = r.0.begins

-- either nothing has gone wrong, or something has
fault_cases : (memory : Bool) (first : Option Refused) → ((memory ≡ false) × (first ≡ None)) ⊎ ¬ ((memory ≡ false) × (first ≡ None))
fault_cases true first = inr (λ none. absurd (cc none.0))
fault_cases false None = inl (refl, refl)
fault_cases false (Some refused) = inr (λ none. absurd (cc none.1))

pub fault_or_none : (faults : PhaseFaults) → HasNoFault faults ⊎ ¬ (HasNoFault faults)
fault_or_none faults = fault_cases faults.no_memory faults.first_refused

-- a phase whose begins were stopped
pub stops_at_begin : (t : Terms) (phase : Phase) (p q s : Seen) (ls ms : List Seen) → phase.flush ≡ true → BeginsUntilFull t phase.at p q → IsPrefix q.log s.log → ms ≡ ls → PhaseStops t phase p s ls ms
stops_at_begin t phase p q s ls ms requested until since same = inl (record { requested = requested; begun = q; until = until; since = since; same = same })

-- a phase whose lanes were stopped
pub stops_at_call : (t : Terms) (phase : Phase) (p q r s : Seen) (ls ms : List Seen) (ts us : List TicketData) → Begins t phase.flush false phase.at p q ts us
    → LanesStopBefore t phase.at phase.lanes.items q r ls ms → IsPrefix r.log s.log → PhaseStops t phase p s ls ms
stops_at_call t phase p q r s ls ms ts us begins stop since =
    inr (record {
      begun = q;
      begins = begins.begins;
      made = begins.made;
      requested = begins.begun;
      ended = λ requested. begins.ended requested refl;
      stop = record { joined = stop.joined; stop = stop.stop; begins = prefix_trans stop.joined.log r.log s.log stop.begins since };
    })

-- a run whose next phase was stopped
pub run_stops : (Answers : Tried → Type 0) (t : Terms) (phases : List Phase) (n : ℕ) (phase : Phase) (p q : Seen) (ls ms : List Seen) (reports : List Report) → n < length phases → phase ≡ get_or phases n phase
    → HaveMade 0 (take n phases) ls → AfterPhases Answers t (take n phases) p ls reports → PhaseStops t phase p q ls ms → PassesStop Answers t phases q ms
run_stops Answers t phases n phase p q ls ms reports there is have had stops =
    record {
      before = take n phases;
      phase = phase;
      after = drop (n + 1) phases;
      is =
          sym (take-append-drop n phases)
          ∙ ap (λ (xs : List Phase). take n phases ++ xs) (drop_more phases n phase there ∙ ap (λ (x : Phase). x ∷ drop (n + 1) phases) (sym is));
      p = p;
      ls = ls;
      reports = reports;
      have = have;
      had = had;
      stops = stops;
    }

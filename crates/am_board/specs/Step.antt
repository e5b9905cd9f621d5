-- Step: what a call does to the stored state of a board.
use Rattle.std.specs.Prelude.{◌≡◌, ℕ, ◌+◌, ◌≤◌, ◌⊎◌, [], ◌∷◌, ◌++◌, map, Option, Some, None, Result, Ok, Err, All, vec_len, vec_capacity}
use Rattle.std.specs.VecDeque.{deque_len}
use Rattle.am_alerts.specs.declared.limits.TheConstants.{MAX_DURATION}
use Rattle.am_model.specs.declared.config.Config.{Config}
use Rattle.am_model.specs.declared.config.TheConstants.{MAX_HANDED, MAX_HISTORY}
use Rattle.am_model.specs.declared.fault.Fault.{Fault}
use Rattle.am_model.specs.declared.fault.Fault.TheVariants.{NoMemory, HistoryFull}
use Rattle.am_model.specs.declared.fault.Fault.TheVariants.{TooManyAlerts, TooManyGroups, TooManySilences, TooManyOpen}
use Rattle.am_model.specs.declared.fault.LoadFault.{LoadFault}
use Rattle.am_model.specs.declared.fault.LoadFault.TheVariants as load
use Rattle.am_model.specs.declared.fault.NoteFault.{NoteFault}
use Rattle.am_model.specs.declared.fault.NoteFault.TheVariants as note
use Rattle.am_model.specs.declared.fault.TakeFault.{TakeFault}
use Rattle.am_model.specs.declared.fault.TakeFault.TheVariants as taking
use Rattle.am_board.specs.declared.state.State as kept
use Rattle.am_model.specs.declared.record.Record.{Record}
use Rattle.am_model.specs.Configured.{HaveFewIntegrations}
use Rattle.am_board.specs.Group.{names_of, AreRouted}
use Rattle.am_board.specs.Marks.{AreMarked}
use Rattle.am_board.specs.Refinement.{state_of, flush_state, EqualUpToRowOrder, IsPrepared}
use Rattle.am_model.specs.Laws.{IsConsistent}
use Rattle.am_model.specs.Replay.{reply, after}

-- the greatest number of calls that a board accepts: all that it may hand out, and all that it may keep
abbrev pub MAX_CALLS : ℕ
MAX_CALLS = MAX_HANDED + MAX_HISTORY

-- what each call relies on: the state is one that a legal history leaves, each open flush is prepared for its end, and each group
-- says whether it has one
pub record StateInvariant (config : Config) (s : kept.State) : Type 0 where
  pub consistent : IsConsistent (state_of s)
  pub inserts : s.inserts ≤ MAX_CALLS
  pub numbers : s.next_number ≤ MAX_CALLS + 1
  pub routed : AreRouted config.routes (names_of s.groups.items)
  pub prepared : All (IsPrepared config s.log) s.flushes.items
  pub marked : AreMarked (map flush_state s.flushes.items) s.groups.items
  pub space : vec_len s.history + deque_len s.flushes ≤ vec_capacity s.history
  pub few : HaveFewIntegrations config
  pub retention : config.retention ≤ MAX_DURATION

-- a call was accepted: it returned what the definitions give, the state is theirs, and its record is kept
pub record AppliesCall (config : Config) (id : ℕ) (r : Record) (old new : kept.State) : Type 0 where
  pub returned : reply config id (state_of old) r.call ≡ Some r.reply
  pub state : EqualUpToRowOrder (state_of new) (after config (state_of old) r)
  pub routed : AreRouted config.routes (names_of new.groups.items)
  pub prepared : All (IsPrepared config new.log) new.flushes.items
  pub marked : AreMarked (map flush_state new.flushes.items) new.groups.items
  pub history : new.history.items ≡ old.history.items ++ r ∷ []
  pub records : vec_len new.history ≡ vec_len old.history + 1
  pub space : vec_len new.history + deque_len new.flushes ≤ vec_capacity new.history

-- a call was refused: the state and the history are what they were
pub record LeavesUnchanged (config : Config) (old new : kept.State) : Type 0 where
  pub state : state_of new ≡ state_of old
  pub routed : AreRouted config.routes (names_of new.groups.items)
  pub prepared : All (IsPrepared config new.log) new.flushes.items
  pub marked : AreMarked (map flush_state new.flushes.items) new.groups.items
  pub history : new.history.items ≡ old.history.items
  pub records : vec_len new.history ≡ vec_len old.history
  pub space : vec_len new.history + deque_len new.flushes ≤ vec_capacity new.history

-- a fault that can be answered where this is the first cause other than memory: it is that cause;
-- where there is none there was no memory, and it may have been refused before groups or open flushes were counted
abbrev pub IsAnswer : Option Fault → Fault → Type 0
IsAnswer None fault = fault ≡ NoMemory
IsAnswer (Some NoMemory) fault = fault ≡ NoMemory
IsAnswer (Some TooManyAlerts) fault = fault ≡ TooManyAlerts
IsAnswer (Some TooManyGroups) fault = (fault ≡ TooManyGroups) ⊎ (fault ≡ NoMemory)
IsAnswer (Some TooManySilences) fault = fault ≡ TooManySilences
IsAnswer (Some TooManyOpen) fault = (fault ≡ TooManyOpen) ⊎ (fault ≡ NoMemory)
IsAnswer (Some HistoryFull) fault = fault ≡ HistoryFull

-- a result is caused by this first cause other than memory: accepted where there is none, else refused by a fault that can be answered
abbrev pub IsCaused : {T : Type 0} → Option Fault → Result T Fault → Type 0
IsCaused cause (Ok x) = cause ≡ None
IsCaused cause (Err fault) = IsAnswer cause fault

-- a fault that a note can be answered where this is the first cause other than memory
abbrev pub IsNoteAnswer : Option NoteFault → NoteFault → Type 0
IsNoteAnswer None fault = fault ≡ note.NoMemory
IsNoteAnswer (Some cause) fault = fault ≡ cause

-- the result of a note is caused so
abbrev pub IsNoteCaused : {T : Type 0} → Option NoteFault → Result T NoteFault → Type 0
IsNoteCaused cause (Ok x) = cause ≡ None
IsNoteCaused cause (Err fault) = IsNoteAnswer cause fault

-- a fault that a load can be answered where this is the first cause other than memory
abbrev pub IsLoadAnswer : Option LoadFault → LoadFault → Type 0
IsLoadAnswer None fault = fault ≡ load.NoMemory
IsLoadAnswer (Some cause) fault = fault ≡ cause

-- the result of a load is caused so
abbrev pub IsLoadCaused : {T : Type 0} → Option LoadFault → Result T LoadFault → Type 0
IsLoadCaused cause (Ok x) = cause ≡ None
IsLoadCaused cause (Err fault) = IsLoadAnswer cause fault

-- a fault that a taking of the records can be answered where this is the cause other than memory
abbrev pub IsTakeAnswer : Option TakeFault → TakeFault → Type 0
IsTakeAnswer None fault = fault ≡ taking.NoMemory
IsTakeAnswer (Some cause) fault = fault ≡ cause

-- the result of a taking is caused so
abbrev pub IsTakeCaused : {T : Type 0} → Option TakeFault → Result T TakeFault → Type 0
IsTakeCaused cause (Ok x) = cause ≡ None
IsTakeCaused cause (Err fault) = IsTakeAnswer cause fault

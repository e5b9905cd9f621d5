-- Playing: the parts of a rehearsal, played one after another, each by a board of its own.
use Rattle.std.specs.Prelude.{◌≡◌, ◌≢◌, ◌&&◌, ℕ, Bool, true, false, not, nat_lt, List, [], ◌∷◌, ◌++◌, length}
use Rattle.std.specs.Prelude.{take, slice_get, vec_len, Option, Some, None, if◌then◌else◌}
use Rattle.std.specs.List.{count_by, flat_map, list_any, range_with_len}
use Rattle.std.specs.Option.{IsSomeAnd}
use Rattle.am_model.specs.Carry.{is_led_to}
use Rattle.am_model.specs.Config.{config_fault}
use Rattle.am_model.specs.Rekey.{Reload, rekeyed}
use Rattle.am_model.specs.Views.{row_views}
use Rattle.am_model.specs.declared.config.Config.{Config}
use Rattle.am_model.specs.declared.views.RowView.{RowView}
use Rattle.am_board.specs.History.{BoardData, state_at}
use Rattle.am_simulation.specs.DispatcherChange.{loads}
use Rattle.am_simulation.specs.EventOrder.{begin_indices}
use Rattle.am_simulation.specs.Parts.{PartData}
use Rattle.am_simulation.specs.Play.{PlaysTo}
use Rattle.am_simulation.specs.Previews.{previews_of}
use Rattle.am_simulation.specs.Scene.{Setting, setting_with}
use Rattle.am_simulation.specs.CauseOfFault.{IsCauseOfFault}
use Rattle.am_simulation.specs.declared.limits.TheConstants.{BOARD_ID}
use Rattle.am_simulation.specs.declared.play.PlayFault.{PlayFault}
use Rattle.am_simulation.specs.declared.play.PlayFault.TheVariants as play
use Rattle.am_simulation.specs.declared.playing.PartFault.{PartFault}
use Rattle.am_simulation.specs.declared.playing.PlayedPart.{PlayedPart}
use Rattle.am_terms.specs.declared.dispatcher_change.Carryover.{Carryover}
use Rattle.am_terms.specs.declared.dispatcher_change.Carryover.TheVariants.{All, Log, Nothing}
use Rattle.am_terms.specs.declared.rehearsal.Outage.{Outage}
use Rattle.am_terms.specs.declared.rehearsal.TimedAction.{TimedAction}
use Rattle.am_terms.specs.declared.rehearsal.Upkeep.{Upkeep}

-- whether the log is kept
abbrev pub carries_log : Carryover → Bool
carries_log All = true
carries_log Log = true
carries_log Nothing = false

-- the log rows of the board before, if there is one
abbrev pub rows_before : Option BoardData → List RowView
rows_before None = []
rows_before (Some b) = row_views (state_at b)

-- the reload from a board's configuration to a new one
abbrev pub reload_of : BoardData → Config → Reload
reload_of b config = record { old = b.config; new = config }

-- whether a log row of the board before is taken over at a time: it hasn't expired, and under the new configuration an alert of it goes
-- to a group that finds it again
abbrev pub is_taken : ℕ → Reload → RowView → Bool
is_taken at reload row = not (nat_lt row.expiry at) && list_any (is_led_to reload.new) (rekeyed reload row)

-- taken_over: the log rows that a dispatcher begins with: for each of those of the board before it the rows by which its log finds that one
-- again, if the log is kept
abbrev pub taken_over : Carryover → Config → Option BoardData → List RowView
taken_over carryover config None = []
taken_over carryover config (Some b) =
    if carries_log carryover then flat_map (rekeyed (reload_of b config)) (row_views (state_at b)) else []

-- how many log rows of the board before are taken over at a time
abbrev pub taken_count : Carryover → ℕ → Config → Option BoardData → ℕ
taken_count carryover at config None = 0
taken_count carryover at config (Some b) =
    if carries_log carryover then count_by (is_taken at (reload_of b config)) (row_views (state_at b)) else 0

-- the plans of a part with the loads of the log rows that its dispatcher takes over in front of them
abbrev pub loaded_plans : Option BoardData → PartData → List TimedAction
loaded_plans before p = loads p.span.since (taken_over p.carryover p.config before) ++ p.plans

-- what doesn't change in a part: its end and its span, its upkeep and the outages
abbrev pub setting_of_part : Upkeep → List Outage → PartData → Setting
setting_of_part upkeep outages p = setting_with p.until upkeep outages p.span

-- a part plays so after the board before it: its board has the id of all rehearsals, it has the preview of each begin of its history that
-- took a group, its events name each of these begins, once and in order, and so many log rows of the board before were taken over
pub record PlaysPart (upkeep : Upkeep) (outages : List Outage) (before : Option BoardData) (p : PartData) (q : PlayedPart) : Type 0 where
  pub plays : PlaysTo (setting_of_part upkeep outages p) p.config (loaded_plans before p) q.played.value.board q.played.value.events.items
  pub ours : q.played.value.board.id ≡ BOARD_ID
  pub previews : q.played.value.begins.items ≡ previews_of q.played.value.board.config q.played.value.board.history
  pub begun : begin_indices q.played.value.events.items ≡ range_with_len 0 (vec_len q.played.value.begins)
  pub rows : q.rows ≡ length (rows_before before)
  pub taken : q.taken ≡ taken_count p.carryover p.span.since p.config before

-- parts play so one after another: each after the board of the one before it, and the first after this board, if there is one
abbrev pub ArePlayed : Upkeep → List Outage → Option BoardData → List PartData → List PlayedPart → Type 0
ArePlayed upkeep outages before [] [] = Unit {0}
ArePlayed upkeep outages before [] (q ∷ qs) = ⊥
ArePlayed upkeep outages before (p ∷ ps) [] = ⊥
ArePlayed upkeep outages before (p ∷ ps) (q ∷ qs) =
    PlaysPart upkeep outages before p q × ArePlayed upkeep outages (Some q.played.value.board) ps qs

-- the board of the last of these played parts, or else this one
abbrev pub last_board : Option BoardData → List PlayedPart → Option BoardData
last_board before [] = before
last_board before (q ∷ qs) = last_board (Some q.played.value.board) qs

-- these played parts, and one more: so this part plays after the last of them
abbrev pub IsPlayedNext : Upkeep → List Outage → PartData → List PlayedPart → List PlayedPart → Type 0
IsPlayedNext upkeep outages p played more =
    (q : PlayedPart) × (more ≡ played ++ q ∷ []) × PlaysPart upkeep outages (last_board None played) p q

-- why log rows aren't taken over: there was no memory, or no dispatcher may have the configuration
abbrev pub IsTakeFault : Config → PlayFault → Type 0
IsTakeFault config play.NoMemory = Unit {0}
IsTakeFault config play.BadConfig = config_fault config ≢ None
IsTakeFault config (play.PlanRefused k) = ⊥
IsTakeFault config play.Full = ⊥

-- why a part isn't played to its end after the board before it
abbrev pub IsCauseOfPartFault : Upkeep → List Outage → Option BoardData → PartData → PlayFault → Type 0
IsCauseOfPartFault upkeep outages before p = IsCauseOfFault (setting_of_part upkeep outages p) p.config (loaded_plans before p)

-- why parts aren't played to their ends: those before the part at this position play so, and after them that one isn't played to its end
pub record IsCauseOfPartsFault (upkeep : Upkeep) (outages : List Outage) (parts : List PartData) (returned : PartFault) : Type 0 where
  pub played : List PlayedPart
  pub before : ArePlayed upkeep outages None (take returned.part parts) played
  pub stopped : IsSomeAnd (slice_get parts returned.part) (λ p. IsCauseOfPartFault upkeep outages (last_board None played) p returned.fault)

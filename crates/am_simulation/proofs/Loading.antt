-- A load that a board doesn't refuse.
use Rattle.std.proofs.Common.{◌≡◌, ℕ, Bool, true, false, Option, Some, None, refl, ap, if◌then◌else◌}
use Rattle.std.specs.Prelude.{is_some}
use Rattle.std.specs.Option.{option_or}
use Rattle.am_board.proofs.lemmas.load.Allowed.{load-allowed}
use Rattle.am_board.specs.History.{BoardData, records_at, state_at}
use Rattle.am_model.specs.Causes.{is_full, load_cause, row_cause}
use Rattle.am_model.specs.Load.{loaded}
use Rattle.am_model.specs.Replay.{reply as reply_to}
use Rattle.am_model.specs.State.{time}
use Rattle.am_model.specs.declared.fault.LoadFault.TheVariants as load
use Rattle.am_model.specs.declared.record.Call.TheVariants as call
use Rattle.am_model.specs.declared.record.Reply.{Reply}
use Rattle.am_model.specs.declared.record.Reply.TheVariants as reply
use Rattle.am_model.specs.declared.views.RowView.{RowView}
use Rattle.am_simulation.specs.Planned.{refuses}
use Rattle.am_terms.specs.declared.rehearsal.Action.TheVariants.{Load}

-- what isn't some is none
pub no_cause : {X : Type 0} (o : Option X) → is_some o ≡ false → o ≡ None
no_cause None is = refl
no_cause (Some x) is = absurd (cc)

-- of two causes none is there, where neither is
neither : {X : Type 0} (a b : Option X) → option_or a b ≡ None → (a ≡ None) × (b ≡ None)
neither None b is = (refl, is)
neither (Some x) b is = absurd (cc)

unless_full : {X : Type 0} (full : Bool) (x : X) → (if full then Some x else None) ≡ None → full ≡ false
unless_full true x is = absurd (cc)
unless_full false x is = refl

module _ (b : BoardData) (at : ℕ) (row : RowView) where
  -- when the load is
  abbrev when : ℕ
  when = time (state_at b) at

  -- what it returns
  abbrev pub load_reply : Reply
  load_reply = reply.Loaded (loaded (state_at b).rows when row)

  module _ (taken : refuses b at (Load row) ≡ false) where
    both : (row_cause b.config when row ≡ None) × ((if is_full b.config (records_at b) (state_at b) 1 then Some load.HistoryFull else None) ≡ None)
    both =
        neither (row_cause b.config when row) (if is_full b.config (records_at b) (state_at b) 1 then Some load.HistoryFull else None)
        (no_cause (load_cause b.config (records_at b) (state_at b) when row) taken)

    -- it has its reply
    pub load_taken : reply_to b.config b.id (state_at b) (call.Load at row) ≡ Some load_reply
    load_taken = ap (λ (may : Bool). if may then Some load_reply else None) (load-allowed b.config when row both.0)

    -- and the history has capacity for it
    pub load_unfull : is_full b.config (records_at b) (state_at b) 1 ≡ false
    load_unfull = unless_full (is_full b.config (records_at b) (state_at b) 1) load.HistoryFull both.1

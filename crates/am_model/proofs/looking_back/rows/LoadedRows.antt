-- Each load returns what becomes of its row by what looking back finds.
use Rattle.std.proofs.Common.{◌≡◌, ℕ, true, Some, List, ◌∷◌, refl, sym, ap, ◌∙◌, subst}
use Rattle.am_model.specs.declared.config.Config.{Config}
use Rattle.am_model.specs.declared.record.Call.{Call}
use Rattle.am_model.specs.declared.record.Call.TheVariants.{Load}
use Rattle.am_model.specs.declared.record.Record.{Record}
use Rattle.am_model.specs.declared.record.Reply.{Reply}
use Rattle.am_model.specs.declared.record.Reply.TheVariants.{Loaded}
use Rattle.am_model.specs.declared.views.RowView.{RowView}
use Rattle.am_model.specs.Load.{may_load, loaded, loaded_over}
use Rattle.am_model.specs.Records.{entry}
use Rattle.am_model.specs.look_back.Entry.{row_in}
use Rattle.am_model.specs.look_back.Laws.{EveryLegalHistory, IsLoadedOverEarlier, LoadsPutLaterRows}
use Rattle.am_model.specs.look_back.Past.{past_of, time_at}
use Rattle.am_model.specs.State.{State, time}
use Rattle.am_model.proofs.legal.EachCall.{HoldsOfEach, inside, each_call}
use Rattle.am_model.proofs.looking_back.alerts.FoundAlerts.{finds_past}
use Rattle.am_model.proofs.looking_back.alerts.FoundSteps.{clock-step}
use Rattle.am_model.proofs.looking_back.flushes.Opened.{Finds}
use Rattle.am_model.proofs.looking_back.Pasts.{state_after, at_each, legal_past}
use Rattle.am_model.proofs.looking_back.rows.FoundRows.{finds_rows_past}
use Rattle.am_model.proofs.looking_back.rows.RowSteps.{FindsRows}

module _ (config : Config) (id : ℕ) (s : State) (past : List Record) (pass : ℕ) (k : Finds config s past) (l : FindsRows config s past) where
  -- what holds of a row that a call hands in, where the call returned a reply
  abbrev IsRight : Call → State → Reply → Type 0
  IsRight c new p = (row : RowView) → row_in c ≡ Some row → IsLoadedOverEarlier config (entry pass c p) past row

  loading : (now : ℕ) (row : RowView) → may_load config (time s now) row ≡ true → IsLoadedOverEarlier config (entry pass (Load now row) (Loaded (loaded s.rows (time s now) row))) past row
  loading now row may =
      let r = entry pass (Load now row) (Loaded (loaded s.rows (time s now) row)) in
      let at : time s now ≡ time_at (r ∷ past) = clock-step config s past k now r refl in
      record {
        allowed = ap (λ t. may_load config t row) (sym at) ∙ may;
        returned = λ j. Loaded (loaded_over (at j) row (l.rows row.group row.integration j));
      }

  each : HoldsOfEach config id s IsRight
  each =
      record {
        insert = λ now a row e. absurd (cc);
        silence = λ now number matchers start end row e. absurd (cc);
        nothing = λ now none row e. absurd (cc);
        begin = λ now g is notified are row e. absurd (cc);
        finish = λ now number outcomes f is row e. absurd (cc);
        maintain = λ now row e. absurd (cc);
        remove_empty_groups = λ now row e. absurd (cc);
        forget = λ now row e. absurd (cc);
        load = λ now own may row e.
            subst (IsLoadedOverEarlier config (entry pass (Load now own) (Loaded (loaded s.rows (time s now) own))) past) (inside own row e) (loading now own may);
        note = λ now number integration outcome f is may row e. absurd (cc);
      }

pub loads_put_later_rows : EveryLegalHistory LoadsPutLaterRows
loads_put_later_rows config id history legal =
    at_each config id (λ r past. (row : RowView) → row_in r.call ≡ Some row → IsLoadedOverEarlier config r past row)
    (λ r past before returned.
    let s = state_after config past in
    let right = each config id s past r.pass (finds_past config id past before) (finds_rows_past config id past before) in
    each_call config id s (λ c new p. (row : RowView) → row_in c ≡ Some row → IsLoadedOverEarlier config (entry r.pass c p) past row) right r.call r.reply returned)
    (past_of history) (legal_past config id history legal)

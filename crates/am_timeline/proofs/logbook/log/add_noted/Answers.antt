use Rattle.std.proofs.Common.{◌∙◌, ◌==◌, ◌&&◌, ◌||◌, ap, sym}
use Rattle.std.specs.HashSet.{contains}
use Rattle.am_model.specs.declared.record.Call.{Call}
use Rattle.am_model.specs.look_back.Past.{is_note}
use Rattle.am_timeline.specs.Log.{same_note_key}
use Rattle.am_timeline.proofs.Logged.{cond_or}
use Rattle.am_timeline.proofs.logbook.log.add_noted.Goals as goal

pub returns-in_ok-insert : goal.returns-in_ok-insert
returns-in_ok-insert c =
    λ number integration.
    let there = contains same_note_key c.args.noted.now (record { number = number; integration = integration }) in
    c.in_ok-insert.ensures.updates.0 (record { number = number; integration = integration })
    ∙ cond_or ((c.in-Note.number == number) && (c.in-Note.integration == integration)) there
    ∙ ap (λ (call : Call). is_note number integration call || there) (sym c.in-Note.is)

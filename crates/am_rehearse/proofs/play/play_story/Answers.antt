use Rattle.std.proofs.Common.{inl, inr}
use Rattle.am_rehearse.proofs.Endings.{done_by, no_done, no_unmet, refused_by, silent_by, unmet_by, unwritable_by}
use Rattle.am_rehearse.proofs.play.play_story.Goals as goal

pub returns-in-Err-clause-done : goal.returns-in-Err-clause-done
returns-in-Err-clause-done g c is = absurd (no_done c.in-Err.status c.in-Err.ensures.complains is)

pub returns-in-Err-clause-unmet : goal.returns-in-Err-clause-unmet
returns-in-Err-clause-unmet g c is = absurd (no_unmet c.in-Err.status c.in-Err.ensures.complains is)

pub returns-in-Err-clause-rejected : goal.returns-in-Err-clause-rejected
returns-in-Err-clause-rejected g c is = inl c.in-Err.ensures.refused

pub returns-in-Err-refuse_unknown-clause-done : goal.returns-in-Err-refuse_unknown-clause-done
returns-in-Err-refuse_unknown-clause-done g c is = absurd (no_done c.in-Err-refuse_unknown.status c.in-Err-refuse_unknown.ensures.complains is)

pub returns-in-Err-refuse_unknown-clause-unmet : goal.returns-in-Err-refuse_unknown-clause-unmet
returns-in-Err-refuse_unknown-clause-unmet g c is = absurd (no_unmet c.in-Err-refuse_unknown.status c.in-Err-refuse_unknown.ensures.complains is)

pub returns-in-Err-refuse_unknown-clause-rejected : goal.returns-in-Err-refuse_unknown-clause-rejected
returns-in-Err-refuse_unknown-clause-rejected g c is = inr (inl (c.in-Err-refuse_unknown.ensures.refused is))

pub returns-in-Err-options_of-clause-done : goal.returns-in-Err-options_of-clause-done
returns-in-Err-options_of-clause-done g c is = absurd (no_done c.in-Err-options_of.status c.in-Err-options_of.ensures.complains is)

pub returns-in-Err-options_of-clause-unmet : goal.returns-in-Err-options_of-clause-unmet
returns-in-Err-options_of-clause-unmet g c is = absurd (no_unmet c.in-Err-options_of.status c.in-Err-options_of.ensures.complains is)

pub returns-in-Err-options_of-clause-rejected : goal.returns-in-Err-options_of-clause-rejected
returns-in-Err-options_of-clause-rejected g c is = inr (inr (inl (c.in-Err-options_of.ensures.refused is)))

pub returns-clause-done : goal.returns-clause-done
returns-clause-done g c is =
    record {
      options = c.in-Ok.options;
      asked = c.in-Ok.ensures.asked;
      writes = done_by _ c.play_document-ended.result c.conclude.result c.conclude.ensures is c.play_document-ended.ensures.met;
    }

pub returns-clause-unmet : goal.returns-clause-unmet
returns-clause-unmet g c is =
    record {
      options = c.in-Ok.options;
      asked = c.in-Ok.ensures.asked;
      writes = unmet_by _ c.play_document-ended.result c.conclude.result c.conclude.ensures is c.play_document-ended.ensures.unmet;
    }

pub returns-clause-rejected : goal.returns-clause-rejected
returns-clause-rejected g c is =
    inr (inr (inr (refused_by _ _ c.play_document-ended.result c.conclude.result c.conclude.ensures is c.play_document-ended.ensures.refused)))

pub returns-clause-silent : goal.returns-clause-silent
returns-clause-silent g c is =
    silent_by _ c.play_document-ended.result c.conclude.result c.conclude.ensures is c.play_document-ended.ensures.unwritten

pub returns-clause-unwritable : goal.returns-clause-unwritable
returns-clause-unwritable g c =
    unwritable_by _ c.play_document-ended.result c.conclude.result c.conclude.ensures c.play_document-ended.ensures.unwritable

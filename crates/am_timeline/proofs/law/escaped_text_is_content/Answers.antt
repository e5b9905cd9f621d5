use Rattle.am_timeline.proofs.Content.{cut_is_content, escaped_is_content}
use Rattle.am_timeline.proofs.law.escaped_text_is_content.Goals as goal

pub returns-clause-whole : goal.returns-clause-whole
returns-clause-whole c = escaped_is_content

pub returns-clause-cut : goal.returns-clause-cut
returns-clause-cut c = cut_is_content

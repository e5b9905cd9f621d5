-- Service: the answer that a service keeps.
use Rattle.std.specs.Prelude.{List, ℕ}
use Rattle.am_session.specs.declared.service.AnswerText.{AnswerText}
use Rattle.am_session.specs.declared.service.AnswerText.TheVariants.{Made, Ready}

-- the bytes of an answer
abbrev pub text_of : AnswerText → List ℕ
text_of (Made text) = text.items
text_of (Ready text) = text.now

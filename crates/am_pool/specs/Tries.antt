-- Tries: the attempts of a courier, as contracts see them.
use Rattle.std.specs.Prelude.{ℕ, List, map}
use Rattle.am_model.specs.Notice.{NoticeData}
use Rattle.am_retry.specs.Attempts.{Try}
use Rattle.am_pool.specs.declared.courier.Sent.{Sent}
use Rattle.am_pool.specs.declared.courier.Tried.{Tried}

-- what a trace says of its courier: its tries, and how many attempts it refused
pub record AttemptTraceData : Type 0 where
  pub tries : List Tried
  pub refusals : ℕ

-- an attempt of this number to send a notice, at a time, and how it went
abbrev pub tried : NoticeData → ℕ → ℕ → Sent → Tried
tried notice attempt at sent = record {
  board_id = notice.board_id;
  ticket = notice.ticket;
  integration = notice.integration;
  attempt = attempt;
  at = at;
  answer = sent.answer;
  ended = sent.ended;
}

-- a try of "retry outcome" as one of this notice
abbrev pub tried_for : NoticeData → Try → Tried
tried_for notice t = tried notice t.attempt t.at (record { answer = t.answer; ended = t.ended })

-- the tries of "retry outcome" as those of this notice
abbrev pub all_tried_for : NoticeData → List Try → List Tried
all_tried_for notice tries = map (tried_for notice) tries

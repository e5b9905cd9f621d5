use Rattle.std.proofs.Common.{[], inr, ℕ, Ok, refl}
use Rattle.am_board.specs.History.{reply_of}
use Rattle.am_protocol.specs.declared.request.Request.TheVariants.{Begin}
use Rattle.am_protocol.specs.Begun.{begun_tokens}
use Rattle.am_session.proofs.Leaving.{board_unmade, unmade_leaves, untold_all}
use Rattle.am_session.proofs.Making.{begins, fresh_here}
use Rattle.am_session.proofs.session.Session.begin.Goals as goal

pub keep-requires-clause-fresh : goal.keep-requires-clause-fresh
keep-requires-clause-fresh c = fresh_here _ _ c.args.self.now.ours c.in-Ok.ensures.fresh

pub returns-in-Ok-clause-answered : goal.returns-in-Ok-clause-answered
returns-in-Ok-clause-answered c =
    begins _ _ _ _ _ _ _ _ _ _ c.in-Ok.ensures.reply c.in-Ok.ensures.recorded c.in-Ok.ensures.previewed (fresh_here _ _ c.args.self.now.ours c.in-Ok.ensures.fresh)
    c.reserve.ensures.items c.keep.ensures.board c.keep.ensures.tickets c.keep.ensures.answered

pub returns-in-Ok-clause-refused : goal.returns-in-Ok-clause-refused
returns-in-Ok-clause-refused c =
    let b = c.in-Ok.begun in
    untold_all _ _ _ (Begin (record { now = c.args.now })) c.keep.ensures.untold (λ e. absurd (cc)) (
      begun_tokens c.begin_previewed.new.self.config (reply_of b) c.in-Ok.preview,
      begins {T = ℕ} {E = ℕ} (Ok 0) _ _ c.args.now b c.in-Ok.preview [] (begun_tokens c.begin_previewed.new.self.config (reply_of b) c.in-Ok.preview) _ _ c.in-Ok.ensures.reply c.in-Ok.ensures.recorded c.in-Ok.ensures.previewed
          (fresh_here _ _ c.args.self.now.ours c.in-Ok.ensures.fresh) c.reserve.ensures.items c.keep.ensures.board c.keep.ensures.tickets refl,
    )

pub returns-in-Err-clause-refused : goal.returns-in-Err-clause-refused
returns-in-Err-clause-refused c =
    unmade_leaves _ _ _ (Begin (record { now = c.args.now })) (board_unmade _ _ _ c.of_board.ensures) (inr (_, c.in-Err.ensures.cause, c.of_board.ensures)) (c.in-Err.ensures.refused, c.reserve.ensures.items)

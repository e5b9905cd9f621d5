use Rattle.std.proofs.Common.{ℕ, length, ◌∙◌, ap, sym}
use Rattle.am_board.specs.History.{BoardData}
use Rattle.am_desk.specs.Calls.{most}
use Rattle.am_desk.specs.Known.{Seen}
use Rattle.am_desk.specs.Terms.{board_of}
use Rattle.am_desk.proofs.Refusals.{keeper_board, most_so}
use Rattle.am_desk.proofs.keeper.Keeper.show.Goals as goal

pub returns : goal.returns
returns g c =
    let top = g.N.Name.terms in
    let takes = g.K.Kind.takes in
    let k = c.self.inside in
    let isk = c.self.invariant.1 in
    let seen = c.learn.ensures.pass in
    let board = c.self.view_is ∙ c.learn.ensures.same in
    let all = isk.log ∙ ap (λ (b : BoardData). b.history) board ∙ sym (ap (λ (s : Seen). s.log) seen) in
    let taken = ap (λ (b : BoardData). length b.handed) board ∙ sym (ap (λ (s : Seen). s.taken) seen) in
    record {
      looks = c.learn.ensures.looks;
      board = keeper_board takes top g.N.Name.plan.passes k.board k.seat.me.0 isk ∙ ap (board_of top k.board.handed) all;
      most = λ n. most_so takes k.board.handed n isk.whole ∙ ap (λ (m : ℕ). most takes m n) taken;
    }

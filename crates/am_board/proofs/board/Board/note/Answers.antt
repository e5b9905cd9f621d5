use Rattle.std.proofs.Common.{◌≡◌, ap, arith}
use Rattle.am_board.specs.History.{BoardData}
use Rattle.am_board.proofs.lemmas.invariant.Calls.{note_caused, noted_caused, noted_now, sound_noted}
use Rattle.am_board.proofs.lemmas.invariant.Sound.{good}
use Rattle.am_board.proofs.board.Board.note.Goals as goal

pub note_success-requires : goal.note_success-requires
note_success-requires c = record { good = good c.self.inside c.self.invariant }

pub invariant_of-self : goal.invariant_of-self
invariant_of-self c =
    sound_noted c.self.inside c.self.invariant c.args.self.now c.self.view_is c.note_success.new.state c.args.pass c.args.now c.args.ticket.now c.args.index
    _ c.note_success.result c.note_success.ensures

pub returns-clause-noted : goal.returns-clause-noted
returns-clause-noted c =
    noted_now c.self.inside c.self.invariant c.args.self.now c.self.view_is c.note_success.new.state c.args.pass c.args.now c.args.ticket.now c.args.index
    _ c.note_success.result c.note_success.ensures

pub returns-clause-cause : goal.returns-clause-cause
returns-clause-cause c =
    let id = ap (λ (d : BoardData). d.id) c.self.view_is in
    let ours : c.args.ticket.now.board_id ≡ c.args.self.now.id = omega (arith, c.board_id.ensures, c.if-board_id-self.false, id) in
    note_caused _ _ (noted_caused c.self.inside c.self.invariant c.args.self.now c.self.view_is c.note_success.new.state c.args.pass c.args.now c.args.ticket.now c.args.index ours)
    _ _ c.note_success.result c.note_success.ensures

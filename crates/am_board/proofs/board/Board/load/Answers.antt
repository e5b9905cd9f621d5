use Rattle.std.proofs.Common.{refl}
use Rattle.am_model.specs.declared.record.Call.TheVariants.{Load}
use Rattle.am_model.specs.declared.record.Reply.TheVariants as replies
use Rattle.am_board.proofs.lemmas.invariant.Calls.{recorded, returned_now, refused, sound_again, load_caused_by}
use Rattle.am_board.proofs.lemmas.invariant.Limits.{load_within, load_caused}
use Rattle.am_board.proofs.lemmas.invariant.Sound.{good}
use Rattle.am_board.proofs.board.Board.load.Goals as goal

pub load_row-requires : goal.load_row-requires
load_row-requires c = record { good = good c.self.inside c.self.invariant }

pub invariant_of-self : goal.invariant_of-self
invariant_of-self c =
    sound_again c.self.inside c.self.invariant c.args.self.now c.self.view_is c.load_row.new.state c.args.pass (Load c.args.now c.args.row) replies.Loaded _
    (λ x h. h.1 c.self.inside.id) _ refl (λ x h. load_within c.self.inside c.self.invariant c.args.pass c.args.now c.load_row.new.state c.args.row x h.0 (h.1 c.self.inside.id)) c.load_row.result c.load_row.ensures

pub returns-clause-recorded : goal.returns-clause-recorded
returns-clause-recorded c =
    recorded c.self.inside c.self.invariant c.args.self.now c.self.view_is c.load_row.new.state c.args.pass (Load c.args.now c.args.row) replies.Loaded _
    (λ x h. h.1 c.self.inside.id) _ c.load_row.result c.load_row.ensures

pub returns-clause-reply : goal.returns-clause-reply
returns-clause-reply c =
    returned_now c.self.inside c.self.invariant c.args.self.now c.self.view_is c.load_row.new.state c.args.pass (Load c.args.now c.args.row) replies.Loaded _
    (λ x h. h.1 c.self.inside.id) _ c.load_row.result c.load_row.ensures

pub returns-clause-cause : goal.returns-clause-cause
returns-clause-cause c =
    load_caused_by _ _ (load_caused c.self.inside c.self.invariant c.args.self.now c.self.view_is c.args.now c.args.row) _ _ c.load_row.result c.load_row.ensures

pub returns-clause-refused : goal.returns-clause-refused
returns-clause-refused c =
    refused c.self.inside c.self.invariant c.args.self.now c.self.view_is c.load_row.new.state c.args.pass (Load c.args.now c.args.row) replies.Loaded _
    (λ x h. h.1 c.self.inside.id) _ c.load_row.result c.load_row.ensures

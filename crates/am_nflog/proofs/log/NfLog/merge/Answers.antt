use Rattle.std.proofs.Common.{◌≡◌, true, is_some, sym, ap, ◌∙◌, true≢false, if◌then◌else◌}
use Rattle.am_nflog.proofs.CallerLemmas.{insert_entry-merged}
use Rattle.am_nflog.specs.Log.{is_known, row_of, with_key, with_row, is_later}
use Rattle.am_nflog.proofs.log.NfLog.merge.Goals as goal

-- the map's insert fails only where the key is new
pub returns-in_err-insert-clause-known_succeeds : goal.returns-in_err-insert-clause-known_succeeds
returns-in_err-insert-clause-known_succeeds g c h =
    absurd (true≢false (sym h ∙ ap (λ log. is_known g.G.PartialEq.eq log c.args.key) (sym c.self.view_is) ∙ ap is_some c.in_err-insert.ensures.absent))

pub returns-clause-ok : goal.returns-clause-ok
returns-clause-ok g c =
    let eq = g.G.PartialEq.eq in
    let old = c.args.self.now in
    let later : is_later c.args.row (row_of eq old c.args.key) ≡ true =
    ap (is_later c.args.row) (sym c.get.ensures.row) ∙ sym c.is_later.ensures ∙ c.if-not-is_later.false in
    c.in_ok-insert.ensures.entries
    ∙ insert_entry-merged eq c.self.inside.slots.entries g.met.G.Eq.laws c.args.key c.args.row
    ∙ ap (λ log. with_row eq (with_key eq log c.args.key) c.args.key c.args.row) c.self.view_is
    ∙ sym (ap (λ b. if b then with_row eq (with_key eq old c.args.key) c.args.key c.args.row else old) later)

use Rattle.std.proofs.Common.{◌≡◌, false, None, Some, Option, is_some, refl, ap, sym, ◌∙◌, true≢false}
use Rattle.indexmap.proofs.CallerLemmas.{insert_entry-new}
use Rattle.am_nflog.proofs.CallerLemmas.{with_key-new}
use Rattle.am_nflog.specs.Log.{is_known, key_eq, with_key}
use Rattle.am_nflog.proofs.log.NfLog.reserve.Goals as goal

none_from : {X : Type 0} (o : Option X) → is_some o ≡ false → o ≡ None
none_from None h = refl
none_from (Some x) h = absurd (true≢false h)

pub returns-in_err-insert-clause-known_succeeds : goal.returns-in_err-insert-clause-known_succeeds
returns-in_err-insert-clause-known_succeeds g c h =
    let unknown : is_known g.G.PartialEq.eq c.args.self.now c.args.key ≡ false
    = ap (λ log. is_known g.G.PartialEq.eq log c.args.key) (sym c.self.view_is) ∙ sym c.contains_key.ensures ∙ c.if-contains_key.false in
    absurd (true≢false (sym h ∙ unknown))

pub returns-clause-ok : goal.returns-clause-ok
returns-clause-ok g c =
    let unknown : is_known g.G.PartialEq.eq c.self.inside.slots.entries c.args.key ≡ false
    = sym c.contains_key.ensures ∙ c.if-contains_key.false in
    c.in_ok-insert.ensures.entries
    ∙ insert_entry-new (key_eq g.G.PartialEq.eq) c.self.inside.slots c.args.key None (none_from _ unknown)
    ∙ sym (with_key-new g.G.PartialEq.eq _ c.args.key unknown)
    ∙ ap (λ log. with_key g.G.PartialEq.eq log c.args.key) c.self.view_is

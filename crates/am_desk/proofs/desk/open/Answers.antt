use Rattle.std.proofs.Common.{Bool, Some, None, ◌≡◌, ◌+◌, ◌<◌, ◌^◌, ℕ, List, [], ◌∷◌, length, length-append, sym, ap, ◌∙◌, subst, arith}
use Rattle.atomic_table.specs.declared.shared.Seat.{Seat}
use Rattle.am_desk.specs.declared.word.View.{View}
use Rattle.am_desk.specs.Known.{Seen, seen_of, handed_over, new_holder}
use Rattle.am_desk.specs.Blanks.{AreOfTable}
use Rattle.am_board.specs.History.{BoardData}
use Rattle.am_desk.specs.declared.word.Terms.{Terms}
use Rattle.am_desk.specs.Plans.{Plan}
use Rattle.am_desk.specs.Terms.{terms_as, board_terms}
use Rattle.am_model.specs.Config.{config_fault}
use Rattle.am_model.specs.declared.config.Config.{Config}
use Rattle.am_desk.specs.declared.fault.OpenFault.{OpenFault}
use Rattle.am_desk.specs.Desks.{AreFresh, IsCauseOfUnopened}
use Rattle.am_desk.specs.Faults.{open_fault_of}
use Rattle.am_desk.specs.Glances.{HasCapacity, IsShowable, pairs_within}
use Rattle.am_desk.specs.History.{made}
use Rattle.am_model.specs.declared.record.Record.{Record}
use mathlib.Core.List.{IsPrefix}
use Rattle.am_desk.proofs.Refusals.{cause_of_no_board, made_board}
use Rattle.am_desk.proofs.Opening.{AreFresh-snoc, shows_nothing}
use Rattle.am_desk.proofs.Packing.{pairs_fit, capacity_at_first}
use Rattle.am_desk.proofs.Prefixes.{prefix_nil}
use Rattle.am_desk.proofs.desk.open.Goals as goal

pub returns-in-Err-clause-refused : goal.returns-in-Err-clause-refused
returns-in-Err-clause-refused g c =
    subst (λ (fault : OpenFault). IsCauseOfUnopened g.N.Name.terms.config fault) (sym c.from.ensures)
    (subst (λ (t : Terms). IsCauseOfUnopened t.config (open_fault_of c.in-Err.fault)) c.requires.1 (cause_of_no_board c.args.config c.blank.inside.id c.in-Err.fault c.in-Err.ensures))

pub returns-in-Err-push-clause-refused : goal.returns-in-Err-push-clause-refused
returns-in-Err-push-clause-refused g c =
    subst (λ (t : Terms). config_fault t.config ≡ None) c.requires.1 (made_board c.args.config c.blank.inside.id c.in-Ok.board c.in-Ok.ensures).0

pub invariant_of-new : goal.invariant_of-new
invariant_of-new g c =
    let top = g.N.Name.terms in
    let i = c.loop-seat.invariant in
    let count : c.blank.inside.passes ≡ g.N.Name.plan.passes = ap (λ (p : Plan). p.passes) (c.blank.view_is ∙ c.requires.0) in
    let table : c.blank.inside.table.shared.table_id ≡ g.N.Name.plan.table = ap (λ (p : Plan). p.table) (c.blank.view_is ∙ c.requires.0) in
    let same : terms_as g.L.Origin.loads c.args.config c.blank.inside.id ≡ top = ap (λ (p : Plan). terms_as g.L.Origin.loads c.args.config p.id) c.blank.view_is ∙ c.requires.1 in
    let gave = c.give_hold-seat.ensures.keeper in
    let is = gave.1 ∙ ap handed_over i.2 in
    let log = ap (λ (v : View). v.log) is in
    let made_so = made_board c.args.config c.blank.inside.id c.in-Ok.board c.in-Ok.ensures in
    let board = made_so.1 in
    let none = ap (λ (b : BoardData). b.handed) board in
    let config = ap (λ (b : BoardData). b.config) board ∙ ap (λ (t : Terms). t.config) same in
    let allowed = c.config.ensures.limits in
    let capacity = capacity_at_first c.in-Ok.board.config.limits allowed.groups.1 allowed.flushes.1 allowed.history.1 in (
      gave.0 ∙ i.1 ∙ table,
      record {
        keeps = ap (λ (v : View). v.keeps) is;
        log = log ∙ sym (ap (λ (b : BoardData). b.history) board);
        limit = ap (λ (v : View). v.limit) is ∙ ap (λ (t : Terms). Some t) same;
        board = subst (λ (x : Bool). board_terms x c.in-Ok.board ≡ top) (ap (λ (t : Terms). t.loads) same) (ap (board_terms g.L.Origin.loads) board ∙ same);
        whole = λ _. none;
        handed = ap (λ (l : List Record). length l) none ∙ sym (ap (λ (v : View). v.taken) is);
        first = subst (λ (l : List Record). IsPrefix l c.in-Ok.board.history) (sym none) (prefix_nil c.in-Ok.board.history);
        few = omega (arith, ap (λ (v : View). v.taken) is);
        capacity = subst (λ (x : Config). HasCapacity x.limits (length c.in-Ok.board.handed)) config (subst (λ (l : List Record). HasCapacity c.in-Ok.board.config.limits (length l)) (sym none) capacity);
        passes = ap (λ (v : View). v.passes) is;
        calling = ap (λ (v : View). v.calling) is;
        given = ap (λ (v : View). v.given) is ∙ count;
        named = λ k more. ap (made k) log;
        shows = subst (IsShowable top) (sym log) (shows_nothing top);
      },
      sym (ap (λ (t : Terms). t.loads) same),
    )

pub invariant_of-desk-clause-limits_are : goal.invariant_of-desk-clause-limits_are
invariant_of-desk-clause-limits_are g c =
    let top = g.N.Name.terms in
    let same : terms_as g.L.Origin.loads c.args.config c.blank.inside.id ≡ top = ap (λ (p : Plan). terms_as g.L.Origin.loads c.args.config p.id) c.blank.view_is ∙ c.requires.1 in
    let board = (made_board c.args.config c.blank.inside.id c.in-Ok.board c.in-Ok.ensures).1 in
    let config = ap (λ (b : BoardData). b.config) board ∙ ap (λ (t : Terms). t.config) same in
    let allowed = c.config.ensures.limits in
    let capacity = capacity_at_first c.in-Ok.board.config.limits allowed.groups.1 allowed.flushes.1 allowed.history.1 in (
      ap (λ (x : Config). x.limits) (c.config.ensures.config ∙ config),
      subst (λ (x : Config). pairs_within x.limits < 2 ^ 64) (sym c.config.ensures.config) (pairs_fit c.in-Ok.board.config.limits _ capacity.1),
    )

pub invariant_of-archive : goal.invariant_of-archive
invariant_of-archive g c =
    let top = g.N.Name.terms in
    let i = c.loop-seat.invariant in
    let table : c.blank.inside.table.shared.table_id ≡ g.N.Name.plan.table = ap (λ (p : Plan). p.table) (c.blank.view_is ∙ c.requires.0) in
    let same : terms_as g.L.Origin.loads c.args.config c.blank.inside.id ≡ top = ap (λ (p : Plan). terms_as g.L.Origin.loads c.args.config p.id) c.blank.view_is ∙ c.requires.1 in
    let gave = c.give_hold-seat.ensures.holder in
    let is = ap (λ m. m.0) gave.1 ∙ ap new_holder i.2 in (
      gave.0 ∙ i.1 ∙ table,
      ap (λ m. m.1) gave.1,
      record {
        keeps = ap (λ (v : View). v.keeps) is;
        passes = ap (λ (v : View). v.passes) is;
        holds = ap (λ (v : View). v.holds) is;
        limit = ap (λ (v : View). v.limit) is ∙ ap (λ (t : Terms). Some t) same;
        shows = subst (IsShowable top) (sym (ap (λ (v : View). v.log) is)) (shows_nothing top);
        calling = ap (λ (v : View). v.calling) is;
        handed = ap (λ (v : View). v.taken) is;
        few = omega (arith, ap (λ (v : View). v.taken) is);
      },
    )

pub loop-seat-preserved : goal.loop-seat-preserved
loop-seat-preserved g c =
    let i = c.loop-seat.invariant in
    let z = c.blank.inside.table.shared.table_id in
    let n : ℕ = c.loop-seat.number in
    let w = c.in-Some.ensures.items in
    let s = c.show.ensures in
    let p = c.in-Ok-push.ensures.items in
    let seats = subst (λ (ts : List (Seat (Unit {0}) View)). AreOfTable z n ts) w i.0 in
    let log : c.show.new.to.me.0.log ≡ [] = ap (λ (v : View). v.log) s.to.1 ∙ ap (λ (v : View). v.log) seats.1 in
    let taken : c.show.new.to.me.0.taken ≡ 0 = ap (λ (v : View). v.taken) s.to.1 ∙ ap (λ (v : View). v.taken) seats.1 in
    let k : n ≡ 0 + length c.loop-seat.passes.items = omega (arith, i.4) in
    let fresh : seen_of n 0 c.show.new.to.me.0.log c.show.new.to.me.0.taken ≡ seen_of (0 + length c.loop-seat.passes.items) 0 [] 0 = λ j. seen_of (k j) 0 (log j) (taken j) in (
      seats.2,
      s.from.0 ∙ i.1,
      s.from.1 ∙ i.2,
      subst (λ (ps : List Seen). AreFresh 0 ps) (sym p) (AreFresh-snoc 0 c.loop-seat.passes.items (seen_of n 0 c.show.new.to.me.0.log c.show.new.to.me.0.taken) i.3 fresh),
      omega (arith, ap length p, length-append c.loop-seat.passes.items (seen_of n 0 c.show.new.to.me.0.log c.show.new.to.me.0.taken ∷ []), i.4),
      omega (arith, ap length w, i.5),
    )

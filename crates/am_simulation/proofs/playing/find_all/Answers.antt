use Rattle.std.proofs.Common.{◌≡◌, ◌∙◌, ◌+◌, ◌++◌, Bool, List, ap, if◌then◌else◌}
use Rattle.std.specs.Prelude.{◌&&◌, nat_lt, not}
use Rattle.std.specs.List.{list_any}
use Rattle.am_model.specs.Carry.{is_led_to}
use Rattle.am_model.specs.Rekey.{Reload, rekeyed}
use Rattle.am_model.specs.declared.views.RowView.{RowView}
use Rattle.am_simulation.specs.Playing.{is_taken}
use Rattle.am_simulation.proofs.Parting.{found_more, counted_more}
use Rattle.am_simulation.proofs.playing.find_all.Goals as goal

pub loop-i-preserved : goal.loop-i-preserved
loop-i-preserved c =
    let was = c.loop-i in
    let rows = c.args.rows.now in
    let at = c.args.at in
    let reload : Reload = record { old = c.args.old.now; new = c.args.new.now } in
    let row = c.index-rows-i.result in
    let found : c.in_ok-found.found.items ≡ rekeyed reload row = c.in_ok-found.ensures ∙ ap (λ (r : Reload). rekeyed r row) c.in_ok-reload.ensures in
    let taken : c.in_ok-taken.taken ≡ is_taken at reload row =
    c.in_ok-taken.ensures ∙ ap (λ (rs : List RowView). not (nat_lt row.expiry at) && list_any (is_led_to reload.new) rs) (c.as_slice.ensures.value ∙ found) in
    record {
      found = found_more reload rows was.i row c.loop-i-test.true c.index-rows-i.is was.log.found.items c.add.new.self.found.items was.invariant.found
          (c.in_ok-add.ensures.found ∙ ap (λ (rs : List RowView). was.log.found.items ++ rs) found);
      rows = c.add.ensures.rows ∙ was.invariant.rows;
      taken = counted_more reload rows was.i row c.loop-i-test.true c.index-rows-i.is at was.log.taken c.add.new.self.taken was.invariant.taken
          (c.in_ok-add.ensures.taken ∙ ap (λ (b : Bool). was.log.taken + (if b then 1 else 0)) taken);
    }

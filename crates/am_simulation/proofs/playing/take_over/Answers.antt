use Rattle.std.proofs.Common.{◌≡◌, ◌∙◌, ℕ, Bool, List, Option, IfOk, Some, [], ap, if◌then◌else◌, subst, sym}
use Rattle.std.specs.List.{count_by, flat_map}
use Rattle.std.specs.Option.{option_copied}
use Rattle.am_board.specs.History.{BoardData, state_at}
use Rattle.am_model.specs.Rekey.{Reload, rekeyed}
use Rattle.am_model.specs.Views.{row_views}
use Rattle.am_model.specs.declared.views.RowView.{RowView}
use Rattle.am_simulation.specs.Playing.{is_taken, reload_of, taken_count, taken_over}
use Rattle.am_simulation.proofs.playing.take_over.Goals as goal

pub returns-then-carries_log-clause-found : goal.returns-then-carries_log-clause-found
returns-then-carries_log-clause-found c =
    let carryover = c.args.carryover in
    let config = c.args.config.now in
    let b : BoardData = c.in-Some.board.now in
    let given : Reload = record { old = c.config.result.now; new = config } in
    let keeps_it = sym c.carries_log.ensures ∙ c.if-carries_log.true in
    let rows = c.as_slice.ensures.value ∙ c.in_ok-rows-in-Some.ensures in
    let found : flat_map (rekeyed given) c.as_slice.result.now ≡ flat_map (rekeyed (reload_of b config)) (row_views (state_at b)) = λ i. flat_map (rekeyed (record { old = c.config.ensures.config i; new = config })) (rows i) in
    let of_board : flat_map (rekeyed (reload_of b config)) (row_views (state_at b)) ≡ taken_over carryover config (Some b) = ap (λ (k : Bool). if k then flat_map (rekeyed (reload_of b config)) (row_views (state_at b)) else []) (sym keeps_it) in
    let of_before : taken_over carryover config (Some b) ≡ taken_over carryover config (option_copied c.args.before) = ap (λ (o : Option BoardData). taken_over carryover config o) (sym (ap option_copied c.in-Some.is)) in
    subst (λ (rs : List RowView). IfOk c.find_all.result (λ log. log.found.items ≡ rs)) (found ∙ of_board ∙ of_before) c.find_all.ensures.found

pub returns-then-carries_log-clause-taken : goal.returns-then-carries_log-clause-taken
returns-then-carries_log-clause-taken c =
    let carryover = c.args.carryover in
    let at = c.args.at in
    let config = c.args.config.now in
    let b : BoardData = c.in-Some.board.now in
    let given : Reload = record { old = c.config.result.now; new = config } in
    let keeps_it = sym c.carries_log.ensures ∙ c.if-carries_log.true in
    let rows = c.as_slice.ensures.value ∙ c.in_ok-rows-in-Some.ensures in
    let counted : count_by (is_taken at given) c.as_slice.result.now ≡ count_by (is_taken at (reload_of b config)) (row_views (state_at b)) = λ i. count_by (is_taken at (record { old = c.config.ensures.config i; new = config })) (rows i) in
    let of_board : count_by (is_taken at (reload_of b config)) (row_views (state_at b)) ≡ taken_count carryover at config (Some b) = ap (λ (k : Bool). if k then count_by (is_taken at (reload_of b config)) (row_views (state_at b)) else 0) (sym keeps_it) in
    let of_before : taken_count carryover at config (Some b) ≡ taken_count carryover at config (option_copied c.args.before) = ap (λ (o : Option BoardData). taken_count carryover at config o) (sym (ap option_copied c.in-Some.is)) in
    subst (λ (n : ℕ). IfOk c.find_all.result (λ log. log.taken ≡ n)) (counted ∙ of_board ∙ of_before) c.find_all.ensures.taken

use Rattle.std.proofs.Common.{◌≡◌, false, sym, ◌∙◌, arith}
use Rattle.std.specs.Prelude.{nat_lt}
use Rattle.std.proofs.lemmas.Bool.Decides.{nat_tests}
use Rattle.am_nflog.specs.Log.{merged, is_later, row_of}
use Rattle.am_model.specs.Begin.{log_row}
use Rattle.am_model.specs.State.{same_name}
use Rattle.am_board.specs.Loading.{key_of}
use Rattle.am_board.proofs.lemmas.load.Merging.{merge-loaded, merge-rows, merge-known}
use Rattle.am_board.proofs.load.put_row.Goals as goal
use Rattle.am_board.proofs.load.put_row.Goals.{In_ok-merge}

-- the log is left as a merge of the row leaves it
is : (c : In_ok-merge) → c.merge.new.self ≡ merged same_name c.args.log.now (key_of c.args.row.now) (log_row c.args.row.now)
is c = c.in_ok-merge.ensures.ok ∙ (λ i. merged same_name c.args.log.now (c.requires.key i) (c.requires.logged i))

-- and it says whether the row is later
returned : (c : In_ok-merge) → is_later (log_row c.args.row.now) (row_of same_name c.args.log.now (key_of c.args.row.now)) ≡ c.in_ok-merge.field-0
returned c = (λ i. is_later (sym c.requires.logged i) (row_of same_name c.args.log.now (sym c.requires.key i))) ∙ sym c.in_ok-merge.ensures.put

in_time : (c : In_ok-merge) → nat_lt c.args.row.now.expiry c.args.t ≡ false
in_time c = grind (arith, nat_tests, c.if-row-t.false)

pub returns-then-branch-clause-loaded : goal.returns-then-branch-clause-loaded
returns-then-branch-clause-loaded c =
    let m = (goal.at.returns-then-branch-clause-loaded c).In_ok-merge in
    sym (merge-loaded c.args.log.now c.merge.new.self c.args.row.now (is m) c.in_ok-merge.ensures.distinct c.args.t _ (in_time m) (returned m ∙ c.if-branch.true))

pub returns-then-branch-clause-rows : goal.returns-then-branch-clause-rows
returns-then-branch-clause-rows c =
    let m = (goal.at.returns-then-branch-clause-rows c).In_ok-merge in
    merge-rows c.args.log.now c.merge.new.self c.args.row.now (is m) c.in_ok-merge.ensures.distinct c.args.t (in_time m)

pub returns-then-branch-clause-known : goal.returns-then-branch-clause-known
returns-then-branch-clause-known c =
    merge-known c.args.log.now c.merge.new.self c.args.row.now (is (goal.at.returns-then-branch-clause-known c).In_ok-merge) c.in_ok-merge.ensures.distinct

pub returns-else-branch-clause-loaded : goal.returns-else-branch-clause-loaded
returns-else-branch-clause-loaded c =
    let m = (goal.at.returns-else-branch-clause-loaded c).In_ok-merge in
    sym (merge-loaded c.args.log.now c.merge.new.self c.args.row.now (is m) c.in_ok-merge.ensures.distinct c.args.t _ (in_time m) (returned m ∙ c.if-branch.false))

pub returns-else-branch-clause-rows : goal.returns-else-branch-clause-rows
returns-else-branch-clause-rows c =
    let m = (goal.at.returns-else-branch-clause-rows c).In_ok-merge in
    merge-rows c.args.log.now c.merge.new.self c.args.row.now (is m) c.in_ok-merge.ensures.distinct c.args.t (in_time m)

use Rattle.std.proofs.Common.{length, rules}
use Rattle.std.specs.List.{range_with_len}
use Rattle.std.proofs.lemmas.List.Sorted.{IsPermutation-trans}
use Rattle.am_board.proofs.lemmas.invariant.Order.{sorted_indexes}
use Rattle.am_board.proofs.order.complete.Goals as goal

pub returns-clause-all : goal.returns-clause-all
returns-clause-all c =
    IsPermutation-trans (range_with_len 0 (length c.args.members.now)) c.add_indexes.new.indexes.items c.sort_by.new.self.items c.in_ok-add_indexes.ensures c.sort_by.ensures.permutation

pub returns-clause-sorted : goal.returns-clause-sorted
returns-clause-sorted c =
    sorted_indexes c.args.members.now c.add_indexes.new.indexes.items c.sort_by.new.self.items c.in_ok-add_indexes.ensures c.sort_by.ensures.permutation c.in_ok-sort_by.ensures.sorted (λ a r f' k. search rules) c.requires.apart

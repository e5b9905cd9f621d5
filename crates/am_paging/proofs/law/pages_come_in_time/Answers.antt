use Rattle.am_paging.proofs.DeliveredInTime.{pages_are_delivered_in_time}
use Rattle.am_paging.proofs.PagesInTime.{pages_come_in_time, waits_are_bounded}
use Rattle.am_paging.proofs.law.pages_come_in_time.Goals as goal

pub returns-clause-paged : goal.returns-clause-paged
returns-clause-paged c = pages_come_in_time

pub returns-clause-delivered : goal.returns-clause-delivered
returns-clause-delivered c = pages_are_delivered_in_time

pub returns-clause-bounded : goal.returns-clause-bounded
returns-clause-bounded c = waits_are_bounded

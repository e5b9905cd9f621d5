use Rattle.std.proofs.Common.{arith}
use Rattle.std.proofs.lemmas.Bool.{both_ways}
use Rattle.std.proofs.lemmas.Str.Pattern.{contains_char, split_parts}
use Rattle.am_hours.proofs.Ends.{ends_none, ends_same, ends_two}
use Rattle.am_hours.proofs.reading.parts_of.Goals as goal

pub returns-in-None : goal.returns-in-None
returns-in-None c =
    let text = c.args.text.now in
    let parts = split_parts 58 text c.split_once.result c.split_once.ensures.cases (omega arith) in
    ends_same text (rw c.in-None.is at parts)

pub returns-in-Some : goal.returns-in-Some
returns-in-Some c =
    let text = c.args.text.now in
    let parts = split_parts 58 text c.split_once.result c.split_once.ensures.cases (omega arith) in
    let two = rw (c.in-Some.is, c.in-Some.last-is) at parts in
    let more = (contains_char 58 c.in-Some.last.now c.contains.result c.contains.ensures.cases (omega arith)).0 c.if-contains.true in
    ends_none text c.in-Some.field-0-0.now c.in-Some.last.now more.0 two.0 two.1 more.1 more.2

pub returns-in-Some-2 : goal.returns-in-Some-2
returns-in-Some-2 c =
    let text = c.args.text.now in
    let last = c.in-Some.last.now in
    let parts = split_parts 58 text c.split_once.result c.split_once.ensures.cases (omega arith) in
    let two = rw (c.in-Some.is, c.in-Some.last-is) at parts in
    let more = (contains_char 58 last c.contains.result c.contains.ensures.cases (omega arith)).1 in
    ends_two text c.in-Some.field-0-0.now last two.0 two.1 (λ k l e. both_ways c.contains.result c.if-contains.false (more k l e))

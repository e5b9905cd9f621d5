-- Inserts: the JSON tokens of what became of several inserts of one line.
use Rattle.std.specs.Prelude.{List}
use Rattle.json.specs.Token.{Token}
use Rattle.am_protocol.specs.declared.inserts.InsertEnd.{InsertEnd}
use Rattle.am_protocol.specs.declared.inserts.InsertEnd.TheVariants.{Made, Refused}
use Rattle.am_protocol.specs.Fault.{fault_tokens}
use Rattle.am_protocol.specs.Reply.{inserted_tokens}

-- what became of an insert, as the answer to a line of its own says it
abbrev pub insert_end_tokens : InsertEnd → List Token
insert_end_tokens (Made inserted) = inserted_tokens inserted
insert_end_tokens (Refused fault) = fault_tokens fault

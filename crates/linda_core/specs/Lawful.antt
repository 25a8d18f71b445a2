-- Which operations on a linda are lawful, and why another is refused.
use Rattle.std.specs.Prelude.{[], Result, Ok, Err, nat_lt, ◌==◌, ◌||◌, if◌then◌else◌}
use Rattle.linda_core.specs.declared.call.LindaOp.{LindaOp}
use Rattle.linda_core.specs.declared.call.LindaOp.TheVariants.{Send, Receive, Batch, Get}
use Rattle.linda_core.specs.declared.check.OpFault.{OpFault}
use Rattle.linda_core.specs.declared.check.OpFault.TheVariants.{BadKey, NoData, BadCount}

abbrev pub fault_of : LindaOp → Result (Unit {0}) OpFault
fault_of (Send key []) = Err NoData
fault_of (Receive []) = Err BadKey
fault_of (Batch key min max) = if (min == 0) || nat_lt max min then Err BadCount else Ok tt
fault_of (Get key count) = if count == 0 then Err BadCount else Ok tt
fault_of op = Ok tt

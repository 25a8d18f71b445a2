-- How the words of the board spell what they hold.
-- Word 0 is the next number. Lane l has the status word 1 + 2 l and the cancel word 2 + 2 l, each
-- with its value in the low eight bits and the number of looks at it, modulo 2^56, above them.
use Rattle.std.specs.Prelude.{ℕ, zero, suc, ◌+◌, ◌*◌, ◌%◌, ◌/◌, Bool, ◌==◌, if◌then◌else◌}
use Rattle.status_board.specs.declared.status.Status.{Status}
use Rattle.status_board.specs.declared.status.Status.TheVariants.{Pending, Running, Waiting, Done, Error, Cancelled}
use Rattle.status_board.specs.declared.status.CancelKind.{CancelKind}
use Rattle.status_board.specs.declared.status.CancelKind.TheVariants.{Soft, Hard}

-- how many lanes have words
abbrev pub most : ℕ
most = 1024

-- 2^56, from which on a count of looks begins again
abbrev pub turn : ℕ
turn = 72057594037927936

abbrev pub status_place : ℕ → ℕ
status_place lane = 1 + 2 * lane

abbrev pub cancel_place : ℕ → ℕ
cancel_place lane = 2 + 2 * lane

-- a word with so many looks and this value
abbrev pub word : ℕ → ℕ → ℕ
word looks value = looks % turn * 256 + value

abbrev pub code_of : Status → ℕ
code_of Pending = 0
code_of Running = 1
code_of Waiting = 2
code_of Done = 3
code_of Error = 4
code_of Cancelled = 5

abbrev pub status_of : ℕ → Status
status_of zero = Pending
status_of (suc zero) = Running
status_of (suc (suc zero)) = Waiting
status_of (suc (suc (suc zero))) = Done
status_of (suc (suc (suc (suc zero)))) = Error
status_of (suc (suc (suc (suc (suc n))))) = Cancelled

abbrev pub bit_of : CancelKind → ℕ
bit_of Soft = 1
bit_of Hard = 2

abbrev pub kind_of_bit : ℕ → CancelKind
kind_of_bit bit = if bit == 1 then Soft else Hard

abbrev pub bits_of : Bool → Bool → ℕ
bits_of soft hard = (if soft then 1 else 0) + (if hard then 2 else 0)

-- which bits a cancel word has
abbrev pub soft_in : ℕ → Bool
soft_in found = found % 2 == 1

abbrev pub hard_in : ℕ → Bool
hard_in found = found / 2 % 2 == 1

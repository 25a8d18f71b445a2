-- The room that was reserved in a bank for a call.
use Rattle.std.specs.Prelude.{◌≡◌, ◌<◌, ℕ, nat_eq, List, None}
use Rattle.std.specs.Map.{lookup}
use Rattle.linda_core.specs.declared.bank.Reserved.{Reserved}
use Rattle.linda_core.specs.declared.bank.Reserved.TheVariants.{Known, Fresh}
use Rattle.linda_core.specs.declared.call.BankCall.{BankCall}
use Rattle.linda_core.specs.SequentialLinda.{empty_linda}
use Rattle.linda_core.specs.Holding.{Holding, content}
use Rattle.linda_core.specs.Rooms.{IsRoomFor}
use Rattle.linda_core.specs.BankHolding.{StandsAt}

-- It is room in the call's own linda. Where the bank has none of this number, that linda is an
-- empty one beside the bank, for which there is a place.
abbrev pub IsReserved : List (ℕ × Holding) → ℕ → Reserved → BankCall → Type 0
IsReserved lindas spare (Known place room) call =
    (linda : Holding) × StandsAt lindas call.linda place linda × IsRoomFor linda call.op room
IsReserved lindas spare (Fresh linda room) call =
    (lookup (nat_eq call.linda) lindas ≡ None) × (0 < spare)
    × (content linda ≡ empty_linda) × IsRoomFor linda call.op room

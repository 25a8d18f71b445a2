-- What an input gave.
use Rattle.std.specs.Prelude.{◌≤◌, ◌<◌, ℕ, List, length}
use Rattle.std.specs.declared.option.Option.{Option}
use Rattle.std.specs.Io.KnownBytes.{Consumes, IsAtEnd}
use Rattle.lua_lexer.specs.declared.limit.TheConstants.{LONGEST}

-- the input gave this script, and was read to its end
pub record Gave (old new : Option (List ℕ)) (script : List ℕ) : Type 0 where
  pub consumed : Consumes old new script
  pub ended : IsAtEnd new

-- the input gave this script, which has at most as many bytes as a script may have, and was read to
-- its end
pub record GaveScript (old new : Option (List ℕ)) (script : List ℕ) : Type 0 where
  pub gave : Gave old new script
  pub short : length script ≤ LONGEST

-- the input gave more than a script may have
pub record GaveTooMuch (old new : Option (List ℕ)) (read : List ℕ) : Type 0 where
  pub consumed : Consumes old new read
  pub long : LONGEST < length read

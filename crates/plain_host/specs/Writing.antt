-- What a sink took of a text.
use Rattle.std.specs.Prelude.{◌≤◌, ◌<◌, ℕ, List, take}
use Rattle.std.specs.declared.option.Option.{Option}
use Rattle.std.specs.Io.KnownBytes.{Appends}
use Rattle.outside.specs.Faults.{Rose}

-- a part of the text was appended
abbrev pub AppendsPart : Option (List ℕ) → Option (List ℕ) → List ℕ → Type 0
AppendsPart old new text = (count : ℕ) × Appends old new (take count text)

-- a part of the line was appended, and the whole where no fault came
pub record Told (before now : ℕ) (old new : Option (List ℕ)) (line : List ℕ) : Type 0 where
  pub later : before ≤ now
  pub part : AppendsPart old new line
  pub whole : (Rose before now → ⊥) → Appends old new line

-- An answer that tells of a fault comes exactly where the count rose. Where the count stands at its
-- end, nothing is said.
pub record TellsFaults (before now : ℕ) (told : Type 0) : Type 0 where
  pub later : before ≤ now
  pub only : told → Rose before now
  pub always : before < now → told

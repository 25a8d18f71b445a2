-- What the values of the code show.
use Rattle.std.specs.Prelude.{ℕ, ◌^◌, nat_le, if◌then◌else◌, List, [], ◌∷◌, Option, Some, None}
use denote.Ref.{Bor}

abbrev pub joined : Option (ℕ × Bor (List ℕ)) → List ℕ
joined None = []
joined (Some x) = x.0 ∷ x.1.now

abbrev pub seen_bytes : Option (Bor (List ℕ)) → Option (List ℕ)
seen_bytes None = None
seen_bytes (Some x) = Some x.now

-- the number, if it is at most 2^63
abbrev pub small : Option ℕ → Option ℕ
small None = None
small (Some n) = if nat_le n (2 ^ 63) then Some n else None

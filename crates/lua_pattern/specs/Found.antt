-- Where a pattern is found in a subject.
use Rattle.std.specs.Prelude.{ℕ, ◌-◌, Bool, true, false, List, [], ◌∷◌, length, map, replicate, Option}
use Rattle.std.specs.List.{flat_map}
use Rattle.lua_pattern.specs.declared.pattern.Pattern.{Pattern}
use Rattle.lua_pattern.specs.declared.places.Match.{Match}
use Rattle.lua_pattern.specs.declared.capture.Capture.{Capture}
use Rattle.lua_pattern.specs.declared.capture.Capture.TheVariants.{Span}
use Rattle.lua_pattern.specs.Matches.{Ending, matches, ascending, first}

-- the captures before any bracket was met
abbrev pub blank : ℕ → List Capture
blank count = replicate count (Span 0 0)

abbrev pub from_place : ℕ → Ending → Match
from_place start way = record { start = start; end = way.at; captures = way.captures }

-- all matches of a pattern at a place, in order of preference
abbrev pub all_at : Pattern → List ℕ → ℕ → List Match
all_at pattern subject at =
    map (from_place at) (matches pattern.items subject at (blank pattern.captures))

-- the match at a place that is preferred
unfoldable pub match_at : Pattern → List ℕ → ℕ → Option Match
match_at pattern subject at = first (all_at pattern subject at)

-- the places at which a pattern is tried: an anchored one at the first alone
abbrev pub tried : Bool → List ℕ → ℕ → List ℕ
tried true subject from = from ∷ []
tried false subject from = ascending from (length subject - from)

-- the first match, place by place
unfoldable pub found : Pattern → List ℕ → ℕ → Option Match
found pattern subject from =
    first (flat_map (all_at pattern subject) (tried pattern.anchored subject from))

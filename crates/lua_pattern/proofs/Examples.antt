-- The definitions, computed on small patterns and subjects.
use Rattle.std.proofs.Common.{◌≡◌, refl, ℕ, List, [], ◌∷◌, Option, Some, None, Result, Ok, Err, true, false}
use Rattle.std.specs.Prelude.{codes}
use Rattle.lua_pattern.specs.declared.capture.Capture.TheVariants.{Span, Position}
use Rattle.lua_pattern.specs.declared.fault.PatternFault.{PatternFault}
use Rattle.lua_pattern.specs.declared.fault.PatternFault.TheVariants.{BadItem, OpenSet, BadCapture, EndsWithPercent, TooManyItems}
use Rattle.lua_pattern.specs.declared.pattern.Pattern.{Pattern}
use Rattle.lua_pattern.specs.declared.places.Match.{Match}
use Rattle.lua_pattern.specs.Reading.{compiled, unanchored}
use Rattle.lua_pattern.specs.Found.{found}

abbrev found_by : Result Pattern PatternFault → List ℕ → Option Match
found_by (Ok pattern) subject = found pattern subject 0
found_by (Err e) subject = None

abbrev fault_of : Result Pattern PatternFault → Option PatternFault
fault_of (Ok pattern) = None
fault_of (Err e) = Some e

-- the first part is as short as the rest lets it be
shortest_first : found_by (compiled (codes "(.-)b")) (codes "aab") ≡ Some (record { start = 0; end = 3; captures = Span 0 2 ∷ [] })
unfolding compiled found
shortest_first = refl

longest_first : found_by (compiled (codes "(o)(.-)$")) (codes "hello w") ≡ Some (record { start = 4; end = 7; captures = Span 4 5 ∷ Span 5 7 ∷ [] })
unfolding compiled found
longest_first = refl

border : found_by (compiled (codes "%f[%w]%w+")) (codes " one") ≡ Some (record { start = 1; end = 4; captures = [] })
unfolding compiled found
border = refl

balanced : found_by (compiled (codes "%b()()")) (codes "(a(b))") ≡ Some (record { start = 0; end = 6; captures = Position 6 ∷ [] })
unfolding compiled found
balanced = refl

again : found_by (compiled (codes "(a*)x%1$")) (codes "aaxa") ≡ Some (record { start = 1; end = 4; captures = Span 1 2 ∷ [] })
unfolding compiled found
again = refl

anchored : found_by (compiled (codes "^b")) (codes "ab") ≡ None
unfolding compiled found
anchored = refl

-- the fault that is met first
open_set : fault_of (compiled (codes "([")) ≡ Some OpenSet
unfolding compiled
open_set = refl

open_capture : fault_of (compiled (codes "(a")) ≡ Some BadCapture
unfolding compiled
open_capture = refl

no_item : fault_of (compiled (codes "%q(")) ≡ Some BadItem
unfolding compiled
no_item = refl

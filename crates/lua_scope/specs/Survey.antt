-- What a walk over a tree knows at a place of the script, and how each part of the tree adds to it:
-- which local each name refers to, which locals inner bodies name, and the captures of each body
-- (manual, section 3.5).
use Rattle.std.specs.Prelude.{ℕ, Bool, true, false, List, [], ◌∷◌, ◌++◌, length, take, drop, slice_get, slice_set, nat_eq, nat_lt, if◌then◌else◌, Option, Some, None, Result, Ok, Err, codes}
use Rattle.std.specs.List.{list_any}
use Rattle.std.specs.Str.{bytes_eq}
use Rattle.lua_scope.specs.declared.fault.ScopeFault.{ScopeFault}
use Rattle.lua_scope.specs.declared.fault.ScopeFault.TheVariants as fault
use Rattle.lua_scope.specs.declared.labels.OpenBlock.{OpenBlock}
use Rattle.lua_scope.specs.declared.scopes.Local.{Local}
use Rattle.lua_scope.specs.declared.scopes.BlockScope.{BlockScope}
use Rattle.lua_scope.specs.declared.survey.Survey.{Survey}
use Rattle.lua_scope.specs.declared.survey.Stopped.{Stopped}
use Rattle.lua_scope.specs.declared.survey.Outer.{Outer}
use Rattle.lua_scope.specs.Labels as labels
use Rattle.lua_scope.specs.Visible.{last_named}

-- what is known after a part of the script in which no rule is broken
abbrev pub Step : Type 0
Step = Survey → Survey

-- what a function that walks over a part answers, with the reason where it stopped
abbrev pub told : {X : Type 0} → Result X Stopped → Survey → Result X ScopeFault
told (Ok x) s = Ok x
told (Err e) s = Err s.fault

-- ---- names

abbrev pub is_refused : List ℕ → Bool
is_refused name = bytes_eq name (codes "_ENV")

abbrev pub added : ℕ → List ℕ → List ℕ
added n ns = if list_any (nat_eq n) ns then ns else ns ++ n ∷ []

abbrev pub referred_to : Option Local → ℕ → Step
referred_to None at s = s
referred_to (Some l) at s =
    if nat_lt at s.function.start
    then record s { captured = slice_set s.captured l.number true; captures = added at s.captures }
    else s

abbrev pub referred : ℕ → Step
referred at s = referred_to (slice_get s.locals at) at s

abbrev pub found : Option ℕ → Step
found None s = s
found (Some at) s = referred at s

-- what a name refers to is kept, in the order of the text
abbrev pub noted : Option ℕ → Step
noted at s = record s { names = s.names ++ at ∷ [] }

abbrev pub mentioned : List ℕ → Step
mentioned name s = found (last_named name s.locals) (noted (last_named name s.locals) s)

abbrev pub declared : List ℕ → Bool → Step
declared name constant s = record s {
  locals = s.locals ++ record { name = name; constant = constant; number = length s.captured } ∷ [];
  captured = s.captured ++ false ∷ [];
}

-- ---- labels

-- a label was passed
abbrev pub passed_label : List ℕ → Step
passed_label name s = record s { labels = s.labels ++ name ∷ [] }

-- the statements of a block begin
abbrev pub opened : Bool → List labels.Outline → Step
opened is_repeat os s = record s { blocks = labels.opened (length s.locals) is_repeat os s.blocks }

-- the blocks of the function in which the walk stands, from the outermost inwards
abbrev pub own_blocks : Survey → List OpenBlock
own_blocks s = drop s.function.blocks s.blocks

-- the labels passed in them
abbrev pub own_labels : Survey → List (List ℕ)
own_labels s = drop s.function.labels s.labels

-- ---- blocks and bodies

abbrev pub begun : Survey → BlockScope
begun s = record {
  locals = length s.locals;
  labels = length s.labels;
  blocks = length s.blocks;
  function = s.function;
}

abbrev pub in_loop : Step
in_loop s = record s { function = record s.function { in_loop = true } }

abbrev pub ended : BlockScope → Step
ended b s = record s {
  locals = take b.locals s.locals;
  labels = take b.labels s.labels;
  blocks = take b.blocks s.blocks;
  function = b.function;
}

abbrev pub outer : Survey → Outer
outer s = record { block = begun s; captures = s.captures }

abbrev pub entered : Bool → Step
entered vararg s = record s {
  bodies = s.bodies ++ [] ∷ [];
  captures = [];
  function = record {
    body = length s.bodies;
    start = length s.locals;
    labels = length s.labels;
    blocks = length s.blocks;
    vararg = vararg;
    in_loop = false;
  };
}

-- the captures of the body around this one
abbrev pub passed : ℕ → List ℕ → List ℕ → List ℕ
passed start [] ns = ns
passed start (n ∷ inner) ns = passed start inner (if nat_lt n start then added n ns else ns)

abbrev pub exited : Outer → Step
exited o s = ended o.block (record s {
  bodies = slice_set s.bodies s.function.body s.captures;
  captures = passed o.block.function.start s.captures o.captures;
})

-- nothing is found yet, at the start of the main body
abbrev pub start : Survey
start = record {
  locals = [];
  names = [];
  captured = [];
  bodies = [] ∷ [];
  captures = [];
  labels = [];
  blocks = [];
  function = record { body = 0; start = 0; labels = 0; blocks = 0; vararg = true; in_loop = false };
  fault = fault.Memory;
}

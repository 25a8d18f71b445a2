-- Parts of the meaning of library functions, by name.
use Rattle.std.specs.Prelude.{ℕ, length, List, [], ◌∷◌, Ok}
use Rattle.object_store.specs.declared.value.Value.{Value}
use Rattle.object_store.specs.Value.{TableId}
use Rattle.lua_meaning.specs.declared.fault.Site.{Site}
use Rattle.lua_meaning.specs.Run.{Run, World, Next, and_then}
use Rattle.lua_meaning.specs.Level.{Loaded, Level}
use Rattle.lua_meaning.specs.Names.{first, filled}
use Rattle.lua_meaning.specs.Library.{inner, caught, handled_by, text_of}

-- the number of the next table
abbrev pub table_ahead : World → TableId
table_ahead w = record { number = length w.store.heap.tables; kind = record {} }

module _ (p : Loaded) (l : Level) (site : Site) where
  -- a handler for an error
  abbrev pub handling : Value → Value → World → Next (List Value) → Run
  handling h v w k = l.call h (v ∷ []) (inner p l site) w (handled_by p l site k)

  -- a call with a handler for its error
  abbrev pub protected : Value → Value → List Value → World → Next (List Value) → Run
  protected g h args w k =
      l.call g args (inner p l site) w (caught p l site (λ v w. handling h v w k) k)

  -- the string that a handler gives for a value
  abbrev pub called_text : Value → Value → World → Next (List ℕ) → Run
  called_text h v w k =
      l.call h (v ∷ []) (inner p l site) w (and_then k (λ vs w. text_of p l site (first vs) w k))

  -- the first three values of a handler for a value
  abbrev pub called_three : Value → Value → World → Next (List Value) → Run
  called_three h v w k =
      l.call h (v ∷ []) (inner p l site) w (and_then k (λ vs w. k (Ok (filled 3 vs)) w))

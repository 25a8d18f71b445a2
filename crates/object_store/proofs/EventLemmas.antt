-- The names of events are the first texts of each state.
use Rattle.std.proofs.Common.{◌≡◌, ◌∙◌, ℕ, ◌+◌, ◌<◌, ◌≤◌, List, [], ◌∷◌, length, take, drop, get_or, slice_get, add-one, Some, refl, ap, sym, arith, ◌++◌, Bool, true, false, if◌then◌else◌}
use Rattle.std.proofs.Math.Seq.{drop-cons}
use Rattle.std.proofs.lemmas.List.{take-append-drop, take-append-le, length-take, get_or_append_left}
use Rattle.std.specs.List.{list_any}
use Rattle.std.specs.Str.{bytes_eq}
use Rattle.std.proofs.lemmas.Option.{slice_get_within, slice_get-get_or, get_or_from_slice_get}
use Rattle.lanes_arena.specs.Names.{named}
use Rattle.object_store.specs.declared.event.Event.{Event}
use Rattle.object_store.specs.declared.event.Event.TheVariants as event
use Rattle.object_store.specs.Event.{event_name, event_number, all_events, event_names, BeginsWithEvents}

-- what stands in a front of a list stands in the list
slice_get_front : (n : ℕ) (xs : List (List ℕ)) (i : ℕ) (x : List ℕ) → slice_get (take n xs) i ≡ Some x → slice_get xs i ≡ Some x
slice_get_front n xs i x at =
    let front : i < length (take n xs) = slice_get_within (take n xs) i x at in
    let within : i < length xs = omega (arith, front, length-take n xs) in
    slice_get-get_or xs i x within
    ∙ ap Some (ap (λ l. get_or l i x) (sym (take-append-drop n xs)) ∙ get_or_append_left (take n xs) (drop n xs) x i front ∙ get_or_from_slice_get (take n xs) i x x at)

-- the texts once all of these are named, one after the other
pub all_named : List (List ℕ) → List Event → List (List ℕ)
all_named texts [] = texts
all_named texts (e ∷ es) = all_named (named texts (event_name e)) es

-- the names are distinct, so naming all of them gives them in their order
pub all_named_first : (texts : List (List ℕ)) → texts ≡ [] → all_named texts all_events ≡ event_names
unfolding event_names all_named
all_named_first texts none = ap (λ l. all_named l all_events) none

pub all_named_step : (texts news : List (List ℕ)) (es : List Event) (i : ℕ) (e : Event) (text : List ℕ) → i < length es → text ≡ event_name (get_or es i e) → news ≡ named texts text → all_named news (drop (i + 1) es) ≡ all_named texts (drop i es)
unfolding all_named
all_named_step texts news es i e text below at made =
    let rest : drop i es ≡ get_or es i e ∷ drop (i + 1) es = rw add-one (drop-cons es i e below) in
    ap (λ l. all_named l (drop (i + 1) es)) (made ∙ ap (named texts) at) ∙ sym (ap (all_named texts) rest)

pub all_named_end : (texts : List (List ℕ)) (es : List Event) → es ≡ [] → all_named texts es ≡ texts
unfolding all_named
all_named_end texts es none = ap (all_named texts) none

-- the place of an event's name is that of its number
pub name_at : (e : Event) → slice_get event_names (event_number e) ≡ Some (event_name e)
unfolding event_names
name_at event.Index = refl
name_at event.NewIndex = refl
name_at event.Call = refl
name_at event.Add = refl
name_at event.Sub = refl
name_at event.Mul = refl
name_at event.IDiv = refl
name_at event.Mod = refl
name_at event.Unm = refl
name_at event.BAnd = refl
name_at event.BOr = refl
name_at event.BXor = refl
name_at event.Shl = refl
name_at event.Shr = refl
name_at event.BNot = refl
name_at event.Concat = refl
name_at event.Len = refl
name_at event.Eq = refl
name_at event.Lt = refl
name_at event.Le = refl
name_at event.ToString = refl
name_at event.Metatable = refl
name_at event.Pairs = refl

-- so in each state the string of an event is its name
pub event_text : (texts : List (List ℕ)) → BeginsWithEvents texts → (e : Event) → slice_get texts (event_number e) ≡ Some (event_name e)
event_text texts begins e = slice_get_front (length event_names) texts (event_number e) (event_name e) (ap (λ l. slice_get l (event_number e)) begins.first ∙ name_at e)

-- and it belongs to the state
pub event_within : (texts : List (List ℕ)) → BeginsWithEvents texts → (e : Event) → event_number e < length texts
event_within texts begins e = slice_get_within texts (event_number e) (event_name e) (event_text texts begins e)

-- naming a text keeps them first
pub BeginsWithEvents-named : (texts : List (List ℕ)) (text : List ℕ) → BeginsWithEvents texts → BeginsWithEvents (named texts text)
BeginsWithEvents-named texts text begins = by (list_any (bytes_eq text) texts)
  where
    by : (b : Bool) → BeginsWithEvents (if b then texts else texts ++ text ∷ [])
    by true = begins
    by false =
        let all : length event_names ≤ length texts = omega (arith, ap (λ (l : List (List ℕ)). length l) begins.first, length-take (length event_names) texts) in
        record { first = take-append-le (length event_names) texts (text ∷ []) all ∙ begins.first }

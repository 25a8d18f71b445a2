-- The steps of the opening of the base library, and how many tables they leave.
use Rattle.std.proofs.Common.{◌≡◌, ◌∙◌, ◌↔◌, ◌<◌, ℕ, List, [], ◌∷◌, ◌++◌, length, length-append, map, codes, ap, arith, refl, subst, sym, Bool, true, false, Option, None, IfSome, Result, Ok, Err, IsErrAnd}
use Rattle.std.proofs.lemmas.List.Elements.{All-nil, All-same}
use Rattle.lanes_arena.specs.declared.arena.ArenaFault.{ArenaFault}
use Rattle.lanes_arena.specs.declared.arena.ArenaFault.TheVariants as arena
use Rattle.object_store.specs.declared.fault.LuaFault.{LuaFault}
use Rattle.object_store.specs.declared.fault.LuaFault.TheVariants as lua
use Rattle.object_store.specs.Closed.{Bounds, IsPairWithin, IsTableWithin}
use Rattle.object_store.specs.Fault.{fault_of_arena}
use Rattle.object_store.specs.Value.{TableId}
use Rattle.std.proofs.lemmas.List.{length-set}
use Rattle.lanes_arena.specs.Names.{named}
use Rattle.object_store.specs.declared.value.Value.{Value}
use Rattle.object_store.specs.Table.{Contents}
use Rattle.object_store.specs.Heap.{Heap, Room, Shown, raised_room}
use Rattle.base_lib.specs.Given.{interned}
use Rattle.base_lib.specs.Open.{table_value, with_text, with_field, with_fields, function_field, base_functions, version, opened_base, opened_if, with_room}

opened_at : ℕ → Shown → Shown
opened_at n s =
    let own = with_field n s (codes "_G") (table_value n) in
    let text = interned own.texts version in
    with_fields n (with_field n (with_text own version) (codes "_VERSION") text) (map function_field base_functions)

opened-globals : (n : ℕ) (s : Shown) → n ≡ 0 → opened_at n s ≡ opened_base s
unfolding opened_at
opened-globals n s e = ap (λ k. opened_at k s) e

same_shown : (a b : Shown) (text : List ℕ) → a.heap ≡ b.heap → a.texts ≡ named b.texts text → a.room ≡ b.room → a ≡ with_text b text
same_shown a b text heap texts room =
    ap (λ (h : Heap). record { heap = h; texts = a.texts; room = a.room }) heap
    ∙ ap (λ (t : List (List ℕ)). record { heap = b.heap; texts = t; room = a.room }) texts
    ∙ ap (λ (r : Room). record { heap = b.heap; texts = named b.texts text; room = r }) room

pub opened_base-steps : (n : ℕ) (s own worded versioned all : Shown) (text : Value) → n ≡ 0 → own ≡ with_field n s (codes "_G") (table_value n) → worded.heap ≡ own.heap → worded.texts ≡ named own.texts version → worded.room ≡ own.room → text ≡ interned own.texts version → versioned ≡ with_field n worded (codes "_VERSION") text → all ≡ with_fields n versioned (map function_field base_functions) → all ≡ opened_base s
unfolding opened_at
opened_base-steps n s own worded versioned all text number e1 heap texts room e2 e3 e4 =
    let e5 : worded ≡ with_text own version = same_shown worded own version heap texts room in
    e4
    ∙ ap (λ x. with_fields n x (map function_field base_functions))
    (e3 ∙ ap (λ x. with_field n x (codes "_VERSION") text) e5 ∙ ap (with_field n (with_text own version) (codes "_VERSION")) e2)
    ∙ ap (λ x. with_fields n (with_field n (with_text x version) (codes "_VERSION") (interned x.texts version)) (map function_field base_functions)) e1
    ∙ opened-globals n s number

-- a field adds no table
pub length-with_fields : (n : ℕ) (fields : List (List ℕ × Value)) (s : Shown) → length (with_fields n s fields).heap.tables ≡ length s.heap.tables
length-with_fields n [] s = refl
length-with_fields n (field ∷ fields) s =
    length-with_fields n fields (with_field n s field.0 field.1) ∙ length-set s.heap.tables n _

-- the table that math is belongs to the state once its fields are set
pub math_within : (number n : ℕ) (s added filled : Shown) (table : Contents) (fields : List (List ℕ × Value)) → number ≡ length s.heap.tables → added.heap ≡ record (s.heap) { tables = s.heap.tables ++ table ∷ [] } → filled ≡ with_fields n added fields → number < length filled.heap.tables
math_within number n s added filled table fields at heap made =
    let more : length added.heap.tables ≡ length (s.heap.tables ++ table ∷ []) = ap (λ (h : Heap). length h.tables) heap in
    let same : length filled.heap.tables ≡ length added.heap.tables = ap (λ (x : Shown). length x.heap.tables) made ∙ length-with_fields n fields added in
    omega (arith, length-append s.heap.tables (table ∷ []))

-- a table without pairs and without a metatable belongs to every state
pub empty_within : (b : Bounds) (table : Contents) → table.pairs ≡ [] → table.meta ≡ None → IsTableWithin b table
empty_within b table pairs meta = record {
  pairs = All-same (IsPairWithin b) table.pairs [] pairs (All-nil (IsPairWithin b));
  meta = subst (λ (m : Option TableId). IfSome m (λ id. id.number < b.tables)) (sym meta) tt;
}

-- the fault of an arena is `Full` exactly where the fault of a script that stands for it is
pub full_through : {A : Type 0} (why : ArenaFault) (r : Result A LuaFault) (P : Type 0) → IsErrAnd r (λ fault. fault ≡ fault_of_arena why) → (let got : ArenaFault → Result (Unit {0}) ArenaFault = λ f. Err f in (got why ≡ got arena.Full) ↔ P) → (r ≡ Err lua.Full) ↔ P
full_through arena.Full (Ok x) P gives full = absurd gives
full_through arena.Memory (Ok x) P gives full = absurd gives
full_through arena.Full (Err fault) P gives full = (λ same. full.0 refl, λ p. ap Err gives)
full_through arena.Memory (Err fault) P gives full = (λ same. absurd (cc), λ p. let e = full.1 p in absurd (cc))

pub opened_if-holds : (found opened : Bool) (go : Shown → Shown) (old new : Shown) → found ≡ true → found ≡ opened → new ≡ go old → new ≡ opened_if opened go old
opened_if-holds found opened go old new held same e = e ∙ ap (λ b. opened_if b go old) (sym held ∙ same)

pub opened_if-fails : (found opened : Bool) (go : Shown → Shown) (old : Shown) → found ≡ false → found ≡ opened → old ≡ opened_if opened go old
opened_if-fails found opened go old failed same = ap (λ b. opened_if b go old) (sym failed ∙ same)

-- the state in which room was made
pub roomed : (new old : Shown) (n m : ℕ) → new.heap ≡ old.heap → new.texts ≡ old.texts → new.room ≡ raised_room old.room n 0 0 → n ≡ m → new ≡ with_room m old
roomed new old n m heap texts room count =
    (λ i. record { heap = heap i; texts = texts i; room = room i })
    ∙ ap (λ k. with_room k old) count

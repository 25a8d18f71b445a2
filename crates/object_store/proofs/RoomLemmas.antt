-- How the room of a table changes.
use Rattle.std.proofs.Common.{◌≡◌, ℕ, ◌+◌, ◌-◌, ◌<◌, ◌≤◌, ◌^◌, Bool, true, false, nat_lt, min, if◌then◌else◌, refl, ap, sym, subst, arith, le-ltb, lt-ltb, List, [], OnOk, Result, Ok, Err}
use Rattle.std.specs.List.{IsDistinct}
use Rattle.object_store.specs.declared.value.Value.{Value}
use Rattle.object_store.specs.Run.{joined}
use borrow.Author.Tests.{ltb-false}
use Rattle.object_store.specs.Table.{table_room, IsKept}

pub record HasRoom (dead all room : ℕ) : Type 0 where
  pub not_due : dead ≤ all - dead
  pub some : 0 < room
  pub few : all < 2 ^ 62

-- a table with room has no purge before it, and its map has room
pub room_there : (dead all room : ℕ) → 0 < table_room dead all room → HasRoom dead all room
room_there dead all room h = by (nat_lt (all - dead) dead) refl h
  where
    by : (b : Bool) → nat_lt (all - dead) dead ≡ b → 0 < (if b then 0 else min room (2 ^ 62 - all)) → HasRoom dead all room
    by true e j = absurd (omega (arith, j))
    by false e j = record { not_due = ltb-false (all - dead) dead e; some = omega (arith, j); few = omega (arith, j) }

-- the room where no purge is due
pub room_is : (dead all room : ℕ) → dead ≤ all - dead → table_room dead all room ≡ min room (2 ^ 62 - all)
room_is dead all room h = ap (λ b. if b then 0 else min room (2 ^ 62 - all)) (le-ltb (all - dead) dead h)

-- a set uses up at most one
pub room_used : (dead all room dead' all' room' : ℕ) → dead' ≤ dead → all ≤ all' → all' ≤ all + 1 → room ≤ room' + 1 → table_room dead all room ≤ table_room dead' all' room' + 1
room_used dead all room dead' all' room' less more one kept = by (nat_lt (all - dead) dead) refl
  where
    by : (b : Bool) → nat_lt (all - dead) dead ≡ b → (if b then 0 else min room (2 ^ 62 - all)) ≤ table_room dead' all' room' + 1
    by true e = omega arith
    by false e =
        let rest : dead ≤ all - dead = ltb-false (all - dead) dead e in
        let fits : dead' ≤ all' - dead' = omega (arith, rest, less, more) in
        rw (room_is dead' all' room' fits) (omega (arith, kept, one))

-- where a purge is due there is none
pub room_due : (dead all room n : ℕ) → all - dead < dead → table_room dead all room ≤ n
room_due dead all room n due = rw (lt-ltb (all - dead) dead due) (omega arith)

pub on_ok : {A E : Type 0} (r : Result A E) (P Q : Type 0) → (P → Q) → OnOk r P → OnOk r Q
on_ok (Ok x) P Q f h = f h
on_ok (Err e) P Q f h = tt

-- a table without pairs
nothing_kept : IsKept [] 0 0
unfolding IsDistinct
nothing_kept = record {
  is_table = record { keys_once = tt; no_nil_key = refl };
  dead_counted = refl;
  at_border = record { full = λ k h. absurd (omega (arith, h)); ends = refl };
  few = omega arith;
}

pub kept_empty : (vs : List Value) (es : List (Value × Value)) → vs ≡ [] → es ≡ [] → IsKept (joined vs es) 0 0
kept_empty vs es no_run no_rest = subst (λ l. IsKept (joined l es) 0 0) (sym no_run) (subst (λ l. IsKept l 0 0) (sym no_rest) nothing_kept)

-- The registry over the two maps that keep it.
use Rattle.std.proofs.Common.{arith, IsOk, OnOk, Result, Ok, Err, ◌≡◌, ◌∙◌, ℕ, ◌<◌, Bool, true, false, cond, nat_eq, List, [], ◌∷◌, ◌++◌, map, take, Option, None, Some, refl, ap, sym, subst, true≢false, Decides, rules, All, if◌then◌else◌}
use Rattle.std.specs.List.{IsDistinct, AllByRecursion}
use Rattle.std.specs.Map.{lookup, keys_of, values_of}
use Rattle.std.specs.Option.{option_map}
use Rattle.std.proofs.lemmas.Option.{none-some}
use Rattle.std.proofs.lemmas.List.{map-append, take-map}
use Rattle.std.proofs.lemmas.List.Elements.{recursion_from_All, All-push, All-take}
use Rattle.std.proofs.lemmas.Map.Made.{lookup-map_values, keys_of-map_values}
use Rattle.std.proofs.lemmas.Bool.Decides.{Decides-eqb}
use Rattle.lanes_arena.specs.declared.code.Mark.{Mark}
use Rattle.object_store.specs.Value.{TableId}
use Rattle.metatable_ids.specs.Registry.{mark_eq, Registry, turned, table_of, mark_of, own_mark, with_pair, first_pairs, IsRegistry}
use Rattle.metatable_ids.specs.Kept.{registry_of, IsKept}
use Rattle.indexmap.specs.IndexMap.{insert_entry}

pub mark_eq-Decides : (a b : Mark) → Decides (mark_eq a b) (a ≡ b)
mark_eq-Decides a b = search rules

abbrev numbered : Mark × TableId → Mark × ℕ
numbered pair = (pair.0, pair.1.number)

pub table_of-entries : (state : ℕ) (mark : Mark) (entries : List (Mark × TableId)) → table_of (registry_of state entries) mark ≡ option_map (λ id. id.number) (lookup (mark_eq mark) entries)
table_of-entries state mark entries = lookup-map_values (λ (id : TableId). id.number) (mark_eq mark) entries

IsOwn : ℕ → Mark × ℕ → Type 0
IsOwn state pair = pair.0.state ≡ state → pair.0.table ≡ pair.1

own_absent : (state table : ℕ) (pairs : List (Mark × ℕ)) → AllByRecursion (IsOwn state) pairs → lookup (nat_eq table) (map turned pairs) ≡ None → lookup (mark_eq (record { state = state; table = table })) pairs ≡ None
unfolding IsOwn
own_absent state table [] own none = refl
own_absent state table (p ∷ ps) own none = by (mark_eq mine p.0) (nat_eq table p.1) refl refl none (own_absent state table ps own.1)
  where
    mine : Mark
    mine = record { state = state; table = table }

    by : (b c : Bool) → mark_eq mine p.0 ≡ b → nat_eq table p.1 ≡ c → cond c (Some p.0) (lookup (nat_eq table) (map turned ps)) ≡ None → (lookup (nat_eq table) (map turned ps) ≡ None → lookup (mark_eq mine) ps ≡ None) → cond b (Some p.1) (lookup (mark_eq mine) ps) ≡ None
    by b true e f h rest = absurd (none-some _ (sym h))
    by false false e f h rest = rest h
    by true false e f h rest =
        let is : mine ≡ p.0 = (mark_eq-Decides mine p.0).0 e in
        let number : p.0.table ≡ p.1 = own.0 (sym (ap (λ m. m.state) is)) in
        let same : table ≡ p.1 = ap (λ m. m.table) is ∙ number in
        absurd (true≢false (sym ((Decides-eqb table p.1).1 same) ∙ f))

-- the mark that a state makes for its own table isn't held where the table has none
pub own_mark-absent : (registry : Registry) (table : ℕ) → All (λ (pair : Mark × ℕ). pair.0.state ≡ registry.state → pair.0.table ≡ pair.1) registry.pairs → mark_of registry table ≡ None → table_of registry (own_mark registry table) ≡ None
unfolding IsOwn
own_mark-absent registry table own none = own_absent registry.state table registry.pairs (recursion_from_All (IsOwn registry.state) registry.pairs own) none

pub registry_of-push : (state : ℕ) (entries : List (Mark × TableId)) (mark : Mark) (table : TableId) → registry_of state (entries ++ (mark, table) ∷ []) ≡ with_pair (registry_of state entries) mark table.number
registry_of-push state entries mark table = λ j. record { state = state; pairs = map-append numbered entries ((mark, table) ∷ []) j }

pub kept-push : (state : ℕ) (entries : List (Mark × TableId)) (others : List (ℕ × Mark)) (mark : Mark) (table : TableId) → IsKept state entries others → 0 < table.number → (mark.state ≡ state → mark.table ≡ table.number) → IsKept state (entries ++ (mark, table) ∷ []) (others ++ (table.number, mark) ∷ [])
kept-push state entries others mark table kept above own = record {
  no_globals = subst (All (λ (pair : Mark × ℕ). 0 < pair.1)) (sym more) (All-push (λ (pair : Mark × ℕ). 0 < pair.1) (map numbered entries) (mark, table.number) kept.no_globals above);
  own = subst (All (λ (pair : Mark × ℕ). pair.0.state ≡ state → pair.0.table ≡ pair.1)) (sym more) (All-push (λ (pair : Mark × ℕ). pair.0.state ≡ state → pair.0.table ≡ pair.1) (map numbered entries) (mark, table.number) kept.own own);
  same = ap (λ l. l ++ (table.number, mark) ∷ []) kept.same ∙ sym (map-append turned (map numbered entries) ((mark, table.number) ∷ [])) ∙ ap (map turned) (sym more);
}
  where
    more : map numbered (entries ++ (mark, table) ∷ []) ≡ map numbered entries ++ (mark, table.number) ∷ []
    more = map-append numbered entries ((mark, table) ∷ [])

pub registry_of-take : (state n : ℕ) (entries : List (Mark × TableId)) → registry_of state (take n entries) ≡ first_pairs (registry_of state entries) n
registry_of-take state n entries = λ j. record { state = state; pairs = sym (take-map numbered n entries) j }

pub kept-take : (state n : ℕ) (entries : List (Mark × TableId)) (others : List (ℕ × Mark)) → IsKept state entries others → IsKept state (take n entries) (take n others)
kept-take state n entries others kept = record {
  no_globals = subst (All (λ (pair : Mark × ℕ). 0 < pair.1)) (take-map numbered n entries) (All-take (λ (pair : Mark × ℕ). 0 < pair.1) n (map numbered entries) kept.no_globals);
  own = subst (All (λ (pair : Mark × ℕ). pair.0.state ≡ state → pair.0.table ≡ pair.1)) (take-map numbered n entries) (All-take (λ (pair : Mark × ℕ). pair.0.state ≡ state → pair.0.table ≡ pair.1) n (map numbered entries) kept.own);
  same = ap (take n) kept.same ∙ take-map turned n (map numbered entries) ∙ ap (map turned) (take-map numbered n entries);
}

turned_keys : (pairs : List (Mark × ℕ)) → keys_of (map turned pairs) ≡ values_of pairs
turned_keys [] = refl
turned_keys (p ∷ ps) = ap (λ l. p.1 ∷ l) (turned_keys ps)

pub registry_kept : (state : ℕ) (entries : List (Mark × TableId)) (others : List (ℕ × Mark)) → IsKept state entries others → IsDistinct mark_eq (keys_of entries) → IsDistinct nat_eq (keys_of others) → IsRegistry (registry_of state entries)
registry_kept state entries others kept marks tables = record {
  marks_once = subst (IsDistinct mark_eq) (sym (keys_of-map_values (λ (id : TableId). id.number) entries)) marks;
  tables_once = subst (IsDistinct nat_eq) (ap keys_of kept.same ∙ turned_keys (map numbered entries)) tables;
  no_globals = kept.no_globals;
  own = kept.own;
}

pub on_ok : {T E : Type 0} (P : Type 0) (r : Result T E) → IsOk r → OnOk r P → P
on_ok P (Ok v) h p = p
on_ok P (Err e) h p = absurd (true≢false (sym h))

pub insert_entry-push : {K V : Type 0} (eq : K → K → Bool) (es : List (K × V)) (k : K) (v : V) → lookup (eq k) es ≡ None → insert_entry eq es k v ≡ es ++ (k, v) ∷ []
insert_entry-push eq [] k v none = refl
insert_entry-push {K} {V} eq (e ∷ es) k v none = by (eq k e.0) none (insert_entry-push eq es k v)
  where
    by : (b : Bool) → cond b (Some e.1) (lookup (eq k) es) ≡ None → (lookup (eq k) es ≡ None → insert_entry eq es k v ≡ es ++ (k, v) ∷ []) → (if b then (e.0, v) ∷ es else e ∷ insert_entry eq es k v) ≡ e ∷ (es ++ (k, v) ∷ [])
    by true h rest = absurd (none-some _ (sym h))
    by false h rest = ap (λ l. e ∷ l) (rest h)

unmapped : (o : Option TableId) → option_map (λ id. id.number) o ≡ None → o ≡ None
unmapped None h = refl
unmapped (Some id) h = absurd (none-some _ (sym h))

pub mark_absent : (state : ℕ) (mark : Mark) (entries : List (Mark × TableId)) → table_of (registry_of state entries) mark ≡ None → lookup (mark_eq mark) entries ≡ None
mark_absent state mark entries h = unmapped (lookup (mark_eq mark) entries) (sym (table_of-entries state mark entries) ∙ h)

pub kept-empty : (state : ℕ) (entries : List (Mark × TableId)) (others : List (ℕ × Mark)) → entries ≡ [] → others ≡ [] → IsKept state entries others
kept-empty state entries others e f = subst (λ l. IsKept state l others) (sym e) (subst (IsKept state []) (sym f) nothing)
  where
    nothing : IsKept state [] []
    nothing = record { no_globals = λ k d lt. absurd (omega (arith, lt)); own = λ k d lt. absurd (omega (arith, lt)); same = refl }

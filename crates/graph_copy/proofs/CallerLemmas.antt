-- A graph has one numbering, so what is packed is one parcel; and it has not both a numbering of few
-- objects and more than so many.
use Rattle.std.proofs.Common.{◌≡◌, ◌∙◌, ℕ, suc, zero, ◌+◌, Bool, false, cond, not, ◌<◌, ◌≤◌, ◌⊎◌, inl, inr, true, List, [], ◌∷◌, length, get_or, slice_get, Some, refl, ap, sym, subst, arith}
use Rattle.std.specs.List.{list_any, IsDistinct, position_or_len}
use Rattle.std.specs.Option.{option_map}
use Rattle.std.proofs.lemmas.Map.Keys.{IsDistinct-tail}
use Rattle.std.specs.Cmp.{decided}
use Rattle.std.proofs.lemmas.Option.{same_Some, slice_get_within, slice_get-get_or, get_or_from_slice_get}
use Rattle.std.proofs.lemmas.List.Folds.{list_any_at}
use Rattle.std.proofs.lemmas.Map.Made.{length-le_from_is_member}
use Rattle.object_store.specs.declared.value.Value.{Value}
use Rattle.object_store.specs.Heap.{Heap}
use Rattle.parcel.specs.declared.parcel.Parcel.{Parcel}
use Rattle.metatable_ids.specs.Registry.{Registry}
use Rattle.graph_copy.specs.declared.object.Object.{Object}
use Rattle.graph_copy.specs.Graph.{to_object, object_eq, Edge, Graph, graph_of}
use Rattle.graph_copy.specs.Paths.{Path, onward, Leads, IsBefore, IsUpTo}
use Rattle.graph_copy.specs.Numbering.{HasNumber, IsNumbering, HasMore}
use Rattle.graph_copy.specs.Packing.{number_in, marked, parcel_of, Packs}
use Rattle.graph_copy.proofs.PathLemmas.{before-trans}
use Rattle.graph_copy.proofs.SearchLemmas.{object_eq-Decides, split, there_at}
use Rattle.graph_copy.proofs.NumberingLemmas.{found_once, onward_is}

before-itself : (p : Path) → IsBefore p p → ⊥
before-itself [] h = h
before-itself (m ∷ p) (inl h) = before-itself p h
before-itself (m ∷ p) (inr (e, lt)) = omega (arith, lt)

up-both : (p q : Path) → IsUpTo p q → IsUpTo q p → p ≡ q
up-both p q (inr e) k = e
up-both p q (inl h) (inr e) = sym e
up-both p q (inl h) (inl k) = absurd (before-itself p (before-trans p q p h k))

some_object : (x y : Object) → to_object x ≡ to_object y → x ≡ y
some_object x y e = cc

module _ (g : Graph) (xs ys : List Object) (in_xs : IsNumbering g xs) (in_ys : IsNumbering g ys) where
  -- where the lists agree below a number, an object of that number or a later one has no lesser
  -- number in the other list
  later : (i m : ℕ) (x : Object) → ((j : ℕ) (y : Object) → j < i → slice_get ys j ≡ Some y → slice_get xs j ≡ Some y) → slice_get xs m ≡ Some x → i ≤ m → (k : ℕ) → slice_get ys k ≡ Some x → i ≤ k
  later i m x agree at le k there = by (split k i)
    where
      by : (k < i) ⊎ (i ≤ k) → i ≤ k
      by (inr ge) = ge
      by (inl lt) = let same = found_once xs k m x in_xs.once (agree k x lt there) at in absurd (omega (arith, same, lt, le))

record HasObject (ys : List Object) (i : ℕ) : Type 0 where
  pub object : Object
  pub is_there : slice_get ys i ≡ Some object

there_after : (ys : List Object) (i k : ℕ) (x : Object) → slice_get ys k ≡ Some x → i ≤ k → HasObject ys i
there_after ys i k x at le =
    let within = slice_get_within ys k x at in
    record { object = get_or ys i x; is_there = slice_get-get_or ys i x (omega (arith, within, le)) }

module _ (g : Graph) (xs ys : List Object) (in_xs : IsNumbering g xs) (in_ys : IsNumbering g ys) where
  -- the step: lists that agree below a number agree at it
  same_at : (i : ℕ) (x : Object) → ((j : ℕ) (y : Object) → j < i → slice_get ys j ≡ Some y → slice_get xs j ≡ Some y) → ((j : ℕ) (y : Object) → j < i → slice_get xs j ≡ Some y → slice_get ys j ≡ Some y) → slice_get xs i ≡ Some x → slice_get ys i ≡ Some x
  same_at i x back on at =
      let first = in_xs.in_order i x at in
      let there = in_ys.all first.path x first.leads in
      let k_le = later g xs ys in_xs in_ys i i x back at (omega arith) there.number there.is_there in
      let y = there_after ys i there.number x there.is_there k_le in
      let other = in_ys.in_order i y.object y.is_there in
      let here = in_xs.all other.path y.object other.leads in
      let m_le = later g ys xs in_ys in_xs i i y.object on y.is_there (omega arith) here.number here.is_there in
      let one = up-both first.path other.path (first.first here.number y.object other.path m_le here.is_there other.leads) (other.first there.number x first.path k_le there.is_there first.leads) in
      let leads : Leads g first.path (to_object y.object) = subst (λ (p : Path). Leads g p (to_object y.object)) (sym one) other.leads in
      let same : y.object ≡ x = some_object y.object x (same_Some _ _ (sym leads ∙ first.leads)) in
      y.is_there ∙ ap Some same

record Agree (xs ys : List Object) (i : ℕ) : Type 0 where
  pub on : (j : ℕ) (x : Object) → j < i → slice_get xs j ≡ Some x → slice_get ys j ≡ Some x
  pub back : (j : ℕ) (x : Object) → j < i → slice_get ys j ≡ Some x → slice_get xs j ≡ Some x

more_agree : (g : Graph) (xs ys : List Object) → IsNumbering g xs → IsNumbering g ys → (i : ℕ) → Agree xs ys i → Agree xs ys (suc i)
more_agree g xs ys in_xs in_ys i below = record { on = λ j x lt at. on j x lt at (split j i); back = λ j x lt at. back j x lt at (split j i) }
  where
    on : (j : ℕ) (x : Object) → j < suc i → slice_get xs j ≡ Some x → (j < i) ⊎ (i ≤ j) → slice_get ys j ≡ Some x
    on j x lt at (inl less) = below.on j x less at
    on j x lt at (inr ge) =
        let here : i ≡ j = omega (arith, ge, lt) in
        subst (λ n. slice_get ys n ≡ Some x) here (same_at g xs ys in_xs in_ys i x below.back below.on (subst (λ n. slice_get xs n ≡ Some x) (sym here) at))

    back : (j : ℕ) (x : Object) → j < suc i → slice_get ys j ≡ Some x → (j < i) ⊎ (i ≤ j) → slice_get xs j ≡ Some x
    back j x lt at (inl less) = below.back j x less at
    back j x lt at (inr ge) =
        let here : i ≡ j = omega (arith, ge, lt) in
        subst (λ n. slice_get xs n ≡ Some x) here (same_at g ys xs in_ys in_xs i x below.on below.back (subst (λ n. slice_get ys n ≡ Some x) (sym here) at))

agree : (g : Graph) (xs ys : List Object) → IsNumbering g xs → IsNumbering g ys → (i : ℕ) → Agree xs ys i
agree g xs ys in_xs in_ys zero = record { on = λ j x lt at. absurd (omega (arith, lt)); back = λ j x lt at. absurd (omega (arith, lt)) }
agree g xs ys in_xs in_ys (suc i) = more_agree g xs ys in_xs in_ys i (agree g xs ys in_xs in_ys i)

tail_at : (x : Object) (xs : List Object) (i : ℕ) (y : Object) → slice_get (x ∷ xs) (suc i) ≡ Some y → slice_get xs i ≡ Some y
tail_at x xs i y h =
    let within : i < length xs = let lt = slice_get_within (x ∷ xs) (suc i) y h in omega (arith, lt) in
    slice_get-get_or xs i y within ∙ ap Some (get_or_from_slice_get (x ∷ xs) (suc i) y y h)

cons_at : (x : Object) (xs : List Object) (i : ℕ) (y : Object) → slice_get xs i ≡ Some y → slice_get (x ∷ xs) (suc i) ≡ Some y
cons_at x xs i y h =
    let within : suc i < length (x ∷ xs) = let lt = slice_get_within xs i y h in omega (arith, lt) in
    slice_get-get_or (x ∷ xs) (suc i) y within ∙ ap Some (get_or_from_slice_get xs i y y h)

head_at : (x : Object) (xs : List Object) → slice_get (x ∷ xs) 0 ≡ Some x
head_at x xs = slice_get-get_or (x ∷ xs) 0 x (omega arith)

same_list : (xs ys : List Object) → ((i : ℕ) (x : Object) → slice_get xs i ≡ Some x → slice_get ys i ≡ Some x) → ((i : ℕ) (x : Object) → slice_get ys i ≡ Some x → slice_get xs i ≡ Some x) → xs ≡ ys
same_list [] [] on back = refl
same_list [] (y ∷ ys) on back = absurd (let lt = slice_get_within [] 0 y (back 0 y (head_at y ys)) in omega (arith, lt))
same_list (x ∷ xs) [] on back = absurd (let lt = slice_get_within [] 0 x (on 0 x (head_at x xs)) in omega (arith, lt))
same_list (x ∷ xs) (y ∷ ys) on back =
    let heads : x ≡ y = same_Some _ _ (sym (on 0 x (head_at x xs)) ∙ head_at y ys) in
    let tails = same_list xs ys (λ i z at. tail_at y ys i z (on (suc i) z (cons_at x xs i z at))) (λ i z at. tail_at x xs i z (back (suc i) z (cons_at y ys i z at))) in
    λ j. heads j ∷ tails j

-- a graph has one numbering
pub one_numbering : (g : Graph) (xs ys : List Object) → IsNumbering g xs → IsNumbering g ys → xs ≡ ys
one_numbering g xs ys in_xs in_ys = same_list xs ys
    (λ i x at. let a = agree g xs ys in_xs in_ys (suc i) in a.on i x (omega arith) at)
    (λ i x at. let a = agree g xs ys in_xs in_ys (suc i) in a.back i x (omega arith) at)

-- what is packed is one parcel, and the registry is one after it
pub one_parcel : (heap : Heap) (texts : List (List ℕ)) (roots : List Value) (limit : ℕ) (old new other : Registry) (parcel second : Parcel) → Packs heap texts roots limit old new parcel → Packs heap texts roots limit old other second → (new ≡ other) × (parcel ≡ second)
one_parcel heap texts roots limit old new other parcel second a b =
    let nodes = one_numbering (graph_of heap texts roots) a.nodes b.nodes a.numbered b.numbered in
    let registries : new ≡ other = a.registry ∙ ap (λ l. marked heap l old) nodes ∙ sym b.registry in
    (registries, a.parcel_is ∙ (λ j. parcel_of heap texts (registries j) (nodes j) roots) ∙ sym b.parcel_is)

member_at : (xs : List Object) (i : ℕ) (x : Object) → slice_get xs i ≡ Some x → list_any (object_eq x) xs ≡ true
member_at xs i x at = list_any_at (object_eq x) xs i x (slice_get_within xs i x at) ((object_eq-Decides x (get_or xs i x)).1 (sym (get_or_from_slice_get xs i x x at)))

-- a graph of which a numbering has few objects has not more of them
pub few_not_more : (g : Graph) (limit : ℕ) (nodes : List Object) → IsNumbering g nodes → length nodes ≤ limit → HasMore g limit → ⊥
few_not_more g limit nodes numbered few more =
    let size = length-le_from_is_member (decided object_eq object_eq-Decides) more.nodes nodes more.once (λ q h. inside q h) in
    let lt = more.more in
    omega (arith, size, lt, few)
  where
    inside : (q : Object) → list_any (object_eq q) more.nodes ≡ true → list_any (object_eq q) nodes ≡ true
    inside q h =
        let at = there_at more.nodes q h in
        let path = more.reached at.number q at.is_there in
        let there = numbered.all path.0 q path.1 in
        member_at nodes there.number q there.is_there

apart_from : (y : Object) (ys : List Object) (i : ℕ) (x : Object) → IsDistinct object_eq (y ∷ ys) → slice_get ys i ≡ Some x → object_eq x y ≡ false
apart_from y ys i x once there = by (object_eq x y) refl
  where
    by : (b : Bool) → object_eq x y ≡ b → b ≡ false
    by false e = refl
    by true e =
        let same : x ≡ y = (object_eq-Decides x y).0 e in
        let one : 0 ≡ suc i = found_once (y ∷ ys) 0 (suc i) x once (head_at y ys ∙ ap Some (sym same)) (cons_at y ys i x there) in
        absurd (omega (arith, one))

-- the number of a node is its place in the list
pub number_in-node : (nodes : List Object) (i : ℕ) (x : Object) → IsDistinct object_eq nodes → slice_get nodes i ≡ Some x → number_in nodes x ≡ i
number_in-node [] i x once at = absurd (let lt = slice_get_within [] i x at in omega (arith, lt))
number_in-node (y ∷ ys) zero x once at =
    let same : y ≡ x = same_Some _ _ (sym (head_at y ys) ∙ at) in
    ap (λ b. cond (not b) (1 + position_or_len (object_eq x) ys) 0) ((object_eq-Decides x y).1 (sym same))
number_in-node (y ∷ ys) (suc i) x once at =
    let there = tail_at y ys i x at in
    let rest = number_in-node ys i x (IsDistinct-tail object_eq y ys once) there in
    let apart : object_eq x y ≡ false = apart_from y ys i x once there in
    ap (λ b. cond (not b) (1 + position_or_len (object_eq x) ys) 0) apart ∙ omega (arith, rest)

-- each object to which an edge of a node leads is a node
pub closed_under_edges : (g : Graph) (nodes : List Object) → IsNumbering g nodes → (i m : ℕ) (x y : Object) (edge : Edge) → slice_get nodes i ≡ Some x → slice_get (g.edges x) m ≡ Some edge → edge.target ≡ to_object y → HasNumber nodes y
closed_under_edges g nodes numbered i m x y edge at there to =
    let first = numbered.in_order i x at in
    let edges : onward g first.path ≡ g.edges x = onward_is g first.path x first.leads in
    let leads : Leads g (m ∷ first.path) (to_object y) = ap (λ l. option_map (λ (e : Edge). e.target) (slice_get l m)) edges ∙ ap (option_map (λ (e : Edge). e.target)) there ∙ ap Some to in
    numbered.all (m ∷ first.path) y leads

-- each root that is an object is a node
pub roots_are_nodes : (g : Graph) (nodes : List Object) → IsNumbering g nodes → (m : ℕ) (y : Object) (edge : Edge) → slice_get g.roots m ≡ Some edge → edge.target ≡ to_object y → HasNumber nodes y
roots_are_nodes g nodes numbered m y edge there to = numbered.all (m ∷ []) y (ap (option_map (λ (e : Edge). e.target)) there ∙ ap Some to)

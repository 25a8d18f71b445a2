-- Steps of reading sets and patterns.
use Rattle.std.proofs.Common.{◌≡◌, refl, ap, subst, sym, ◌∙◌, ℕ, suc, ◌+◌, ◌-◌, ◌≤◌, ◌<◌, Bool, false, List, [], ◌∷◌, ◌++◌, append_assoc, append-nil, length, length-append, add-one, Some, None, Result, Ok, Err, arith}
use Rattle.lua_pattern.specs.declared.single.Part.{Part}
use Rattle.lua_pattern.specs.declared.item.Item.{Item}
use Rattle.lua_pattern.specs.declared.fault.PatternFault.{PatternFault}
use Rattle.lua_pattern.specs.declared.fault.PatternFault.TheVariants.{BadItem, OpenSet, BadCapture, EndsWithPercent, TooManyItems, Memory}
use Rattle.lua_pattern.specs.Reading.{Front, set_part, set_parts, with_part, past_bracket, Items, Begun, items_from, item_at, with_item, finished, too_many, as_pattern}
use Rattle.lua_pattern.specs.declared.pattern.Pattern.{Pattern}
use Rattle.lua_pattern.specs.View.{Refuses, Gives, Adds}

-- a fault of a part is a fault of the whole
pub refused : {A B : Type 0} (f : Result A PatternFault) (g : Result B PatternFault) (e : PatternFault) → ((x : PatternFault) → f ≡ Err x → g ≡ Err x) → Refuses f e → Refuses g e
refused f g BadItem h r = h BadItem r
refused f g OpenSet h r = h OpenSet r
refused f g BadCapture h r = h BadCapture r
refused f g EndsWithPercent h r = h EndsWithPercent r
refused f g TooManyItems h r = h TooManyItems r
refused f g Memory h r = tt

-- ---- sets

abbrev pub behind_parts : List Part → Front (List Part) → Front (List Part)
behind_parts parts (Ok x) = Ok (parts ++ x.0, x.1)
behind_parts parts (Err e) = Err e

behind_with : (parts : List Part) (part : Part) (found : Front (List Part)) → behind_parts parts (with_part part found) ≡ behind_parts (parts ++ part ∷ []) found
behind_with parts part (Ok x) = ap (λ ps. Ok (ps, x.1)) (sym (append_assoc parts (part ∷ []) x.0))
behind_with parts part (Err e) = refl

pub behind_none : (found : Front (List Part)) → behind_parts [] found ≡ found
behind_none (Ok x) = refl
behind_none (Err e) = refl

turn_more : (len turn : ℕ) → turn < len → len - turn ≡ suc (len - (turn + 1))
turn_more len turn h = omega arith

turn_none : (len turn : ℕ) → len ≤ turn → len - turn ≡ 0
turn_none len turn h = omega arith

pub parts_fault : (whole : Front (List Part)) (parts : List Part) (left : List ℕ) (len turn : ℕ) (e : PatternFault) → turn < len → behind_parts parts (set_parts (len - turn) left) ≡ whole → Refuses (set_part left) e → Refuses whole e
parts_fault whole parts left len turn e h same r = refused (set_part left) whole e (λ x f. sym same ∙ rw (turn_more len turn h, f) refl) r

pub parts_end : (whole : Front (List Part)) (parts : List Part) (part : Part) (left rest behind : List ℕ) (len turn : ℕ) → turn < len → behind_parts parts (set_parts (len - turn) left) ≡ whole → set_part left ≡ Ok (part, rest) → Some behind ≡ past_bracket rest → whole ≡ Ok (parts ++ part ∷ [], behind)
parts_end whole parts part left rest behind len turn h same f b = sym same ∙ rw (turn_more len turn h, f, sym b) refl

pub parts_next : (whole : Front (List Part)) (parts : List Part) (part : Part) (left rest : List ℕ) (len turn : ℕ) → turn < len → behind_parts parts (set_parts (len - turn) left) ≡ whole → set_part left ≡ Ok (part, rest) → None ≡ past_bracket rest → behind_parts (parts ++ part ∷ []) (set_parts (len - (turn + 1)) rest) ≡ whole
parts_next whole parts part left rest len turn h same f b = sym (behind_with parts part (set_parts (len - (turn + 1)) rest)) ∙ (sym (rw (turn_more len turn h, f, sym b) refl) ∙ same)

pub parts_open : (whole : Front (List Part)) (parts : List Part) (left : List ℕ) (len turn : ℕ) → len ≤ turn → behind_parts parts (set_parts (len - turn) left) ≡ whole → whole ≡ Err OpenSet
parts_open whole parts left len turn h same = sym same ∙ rw (turn_none len turn h) refl

-- ---- patterns

abbrev pub behind_items : List Item → Items → Items
behind_items items (Ok x) = Ok (items ++ x.0, x.1)
behind_items items (Err e) = Err e

behind_with_item : (items : List Item) (item : Item) (found : Items) → behind_items items (with_item item found) ≡ behind_items (items ++ item ∷ []) found
behind_with_item items item (Ok x) = ap (λ is. Ok (is, x.1)) (sym (append_assoc items (item ∷ []) x.0))
behind_with_item items item (Err e) = refl

pub behind_no_items : (found : Items) → behind_items [] found ≡ found
behind_no_items (Ok x) = refl
behind_no_items (Err e) = refl

behind_end : (items : List Item) (count : ℕ) (unclosed : List ℕ) → behind_items items (finished [] count unclosed) ≡ finished items count unclosed
behind_end items count [] = ap (λ is. Ok (is, count)) (append-nil items)
behind_end items count (n ∷ ns) = refl

-- the bytes ended
pub items_end : (whole : Items) (items : List Item) (begun : Begun) (left : List ℕ) (len turn count : ℕ) → turn < len → behind_items items (items_from (len - turn) count begun left) ≡ whole → left ≡ [] → whole ≡ finished items begun.count begun.unclosed
items_end whole items begun left len turn count h same e = sym same ∙ (rw (turn_more len turn h, e) refl ∙ behind_end items begun.count begun.unclosed)

-- the turns ended
pub items_turned : (whole : Items) (items : List Item) (begun : Begun) (left : List ℕ) (len turn count : ℕ) → len ≤ turn → behind_items items (items_from (len - turn) count begun left) ≡ whole → whole ≡ finished items begun.count begun.unclosed
items_turned whole items begun left len turn count h same = sym same ∙ (rw (turn_none len turn h) refl ∙ behind_end items begun.count begun.unclosed)

pub items_fault : (whole : Items) (items : List Item) (begun : Begun) (left rest : List ℕ) (b len turn count : ℕ) (anchored : Bool) (e : PatternFault) → turn < len → behind_items items (items_from (len - turn) count begun left) ≡ whole → left ≡ b ∷ rest → Refuses (item_at begun b rest) e → Refuses (as_pattern anchored whole) e
items_fault whole items begun left rest b len turn count anchored e h same l r =
    refused (item_at begun b rest) (as_pattern anchored whole) e (λ x f. ap (as_pattern anchored) (sym same) ∙ rw (turn_more len turn h, l, f) refl) r

length_more : (items : List Item) (item : Item) → length (items ++ item ∷ []) ≡ suc (length items)
length_more items item = length-append items (item ∷ []) ∙ add-one (length items)

pub items_refused : (whole : Items) (items new : List Item) (begun after : Begun) (item : Item) (left rest behind : List ℕ) (b len turn : ℕ) (anchored : Bool) (e : PatternFault) → turn < len → behind_items items (items_from (len - turn) (length items) begun left) ≡ whole → left ≡ b ∷ rest → item_at begun b rest ≡ Ok (item, after, behind) → Adds items item new (Err e) → Refuses (as_pattern anchored whole) e
items_refused whole items new begun after item left rest behind b len turn anchored TooManyItems h same l f many = ap (as_pattern anchored) (sym same) ∙ rw (turn_more len turn h, l, f, many) refl
items_refused whole items new begun after item left rest behind b len turn anchored Memory h same l f many = tt
items_refused whole items new begun after item left rest behind b len turn anchored BadItem h same l f many = absurd many
items_refused whole items new begun after item left rest behind b len turn anchored OpenSet h same l f many = absurd many
items_refused whole items new begun after item left rest behind b len turn anchored BadCapture h same l f many = absurd many
items_refused whole items new begun after item left rest behind b len turn anchored EndsWithPercent h same l f many = absurd many

pub items_next : (whole : Items) (items new : List Item) (begun after : Begun) (item : Item) (left rest behind : List ℕ) (b len turn : ℕ) → turn < len → behind_items items (items_from (len - turn) (length items) begun left) ≡ whole → left ≡ b ∷ rest → item_at begun b rest ≡ Ok (item, after, behind) → (too_many (length items) item ≡ false) × (new ≡ items ++ item ∷ []) → behind_items new (items_from (len - (turn + 1)) (length new) after behind) ≡ whole
items_next whole items new begun after item left rest behind b len turn h same l f (few, e) =
    rw (e, length_more items item) (sym (behind_with_item items item (items_from (len - (turn + 1)) (suc (length items)) after behind)) ∙ (sym (rw (turn_more len turn h, l, f, few) refl) ∙ same))

-- the same at the end of the bytes, as the code answers it
pub given : (anchored : Bool) (whole found : Items) (result : Result Pattern PatternFault) → whole ≡ found → Gives (as_pattern anchored found) result → Gives (as_pattern anchored whole) result
given anchored whole found result e g = let P : Items → Type 0 = λ x. Gives (as_pattern anchored x) result in subst P (sym e) g

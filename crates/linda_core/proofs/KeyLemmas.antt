-- Keys are one where they are equal, and what a key has after a change of one key.
use Rattle.std.proofs.Common.{◌≡◌, Decides, Bool, true, false, cond, if◌then◌else◌, [], ◌∷◌, Option, Some, refl, ap, sym, subst, ◌∙◌, true≢false, rules}
use Rattle.std.specs.Map.{lookup}
use Rattle.std.specs.Option.{unwrap_or}
use Rattle.indexmap.specs.IndexMap.{insert_entry}
use Rattle.linda_core.specs.declared.key.Key.{Key}
use Rattle.linda_core.specs.declared.content.Known.{Known}
use Rattle.linda_core.specs.SequentialLinda.{key_eq, Keys, held_by, with_held, nothing}

pub key_eq-Decides : (a b : Key) → Decides (key_eq a b) (a ≡ b)
key_eq-Decides a b = search rules

pub key_eq-same : (a b : Key) → key_eq a b ≡ true → a ≡ b
key_eq-same a b h = (key_eq-Decides a b).0 h

pub key_eq-refl : (a : Key) → key_eq a a ≡ true
key_eq-refl a = (key_eq-Decides a a).1 refl

twice : {X : Type 0} (b : Bool) (x y : X) (r : X) → cond b x r ≡ cond b x (cond b y r)
twice true x y r = refl
twice false x y r = refl

apart : (q k e : Key) (b c : Bool) → key_eq q e ≡ b → key_eq q k ≡ c → (k ≡ e → ⊥) → (x y r : Option Known) → cond b y (cond c x r) ≡ cond c x (cond b y r)
apart q k e true true qe qk differ x y r = absurd (differ (sym (key_eq-same q k qk) ∙ key_eq-same q e qe))
apart q k e true false qe qk differ x y r = refl
apart q k e false true qe qk differ x y r = refl
apart q k e false false qe qk differ x y r = refl

found_step : (q k e : Key) (b : Bool) (old new : Known) (rest : Keys) → key_eq k e ≡ b
    → lookup (key_eq q) (insert_entry key_eq rest k new) ≡ cond (key_eq q k) (Some new) (lookup (key_eq q) rest)
    → lookup (key_eq q) (if b then (e, new) ∷ rest else (e, old) ∷ insert_entry key_eq rest k new) ≡ cond (key_eq q k) (Some new) (cond (key_eq q e) (Some old) (lookup (key_eq q) rest))
found_step q k e true old new rest ke h =
    subst (λ x. cond (key_eq q e) (Some new) (lookup (key_eq q) rest) ≡ cond (key_eq q x) (Some new) (cond (key_eq q e) (Some old) (lookup (key_eq q) rest))) (sym (key_eq-same k e ke))
    (twice (key_eq q e) (Some new) (Some old) (lookup (key_eq q) rest))
found_step q k e false old new rest ke h =
    ap (λ r. cond (key_eq q e) (Some old) r) h
    ∙ apart q k e (key_eq q e) (key_eq q k) refl refl (λ same. true≢false (sym (subst (λ x. key_eq k x ≡ true) same (key_eq-refl k)) ∙ ke)) (Some new) (Some old) (lookup (key_eq q) rest)

pub lookup-with_held : (linda : Keys) (k q : Key) (new : Known) → lookup (key_eq q) (with_held linda k new) ≡ cond (key_eq q k) (Some new) (lookup (key_eq q) linda)
lookup-with_held [] k q new = refl
lookup-with_held (e ∷ rest) k q new = found_step q k e.0 (key_eq k e.0) e.1 new rest refl (lookup-with_held rest k q new)

held_step : (b : Bool) (new : Known) (r : Option Known) → unwrap_or (cond b (Some new) r) nothing ≡ (if b then new else unwrap_or r nothing)
held_step true new r = refl
held_step false new r = refl

-- one key has what was given to it, and each other key has what it had
pub held_by-with_held : (linda : Keys) (k q : Key) (new : Known) → held_by (with_held linda k new) q ≡ (if key_eq q k then new else held_by linda q)
held_by-with_held linda k q new = ap (λ r. unwrap_or r nothing) (lookup-with_held linda k q new) ∙ held_step (key_eq q k) new (lookup (key_eq q) linda)

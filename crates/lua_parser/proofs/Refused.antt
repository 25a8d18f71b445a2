-- At most one fault is that of some tokens, and none where a tree is spelled.
use Rattle.std.proofs.Common.{◌≡◌, inl, inr, refl, sym, ◌∙◌, ap, subst, ℕ, ◌≤◌, List, [], ◌∷◌, ◌++◌, append_assoc, Some}
use Rattle.lua_tokens.specs.declared.place.Place.{Place}
use Rattle.lua_tokens.specs.declared.token.Token.{Token}
use Rattle.lua_tree.specs.declared.stat.Tree.{Tree}
use Rattle.lua_grammar.specs.Depth.{depth_of}
use Rattle.lua_grammar.specs.Grammar.{Spells, Viable, IsRefused, IsAttribute}
use Rattle.lua_parser.specs.declared.script.TheConstants.{DEEPEST}
use Rattle.lua_parser.specs.declared.fault.ParseFault.{ParseFault}
use Rattle.lua_parser.specs.declared.fault.ParseFault.TheVariants.{Unexpected, FloatOperator, TooDeep, BadAttribute, Memory}
use Rattle.lua_parser.specs.Answers.{IsFloatOperator, IsKind, place_of, IsFault}

-- ---- one refused token

-- a front of viable tokens is viable
viable_front : (front more : List Token) (d : ℕ) → Viable (front ++ more) d → Viable front d
viable_front front more d v = record {
  after = more ++ v.after;
  tree = v.tree;
  spells = subst (Spells v.tree) (append_assoc front more v.after) v.spells;
  shallow = v.shallow;
}

-- of two places in a list, they are the same, or one stands before the other
data Places (a : List Token) (x : Token) (b : List Token) (y : Token) : Type 0 where
  same : a ≡ b → x ≡ y → Places a x b y
  first : (mid : List Token) → b ≡ (a ++ x ∷ []) ++ mid → Places a x b y
  second : (mid : List Token) → a ≡ (b ++ y ∷ []) ++ mid → Places a x b y

behind : (z : Token) (a : List Token) (x : Token) (b : List Token) (y : Token) → Places a x b y → Places (z ∷ a) x (z ∷ b) y
behind z a x b y (same e f) = same (ap (λ t. z ∷ t) e) f
behind z a x b y (first mid e) = first mid (ap (λ t. z ∷ t) e)
behind z a x b y (second mid e) = second mid (ap (λ t. z ∷ t) e)

heads : {x y : Token} {u v : List Token} → x ∷ u ≡ y ∷ v → x ≡ y
heads e = cc

tails : {x y : Token} {u v : List Token} → x ∷ u ≡ y ∷ v → u ≡ v
tails e = cc

places : (a : List Token) (x : Token) (u b : List Token) (y : Token) (v : List Token) → a ++ x ∷ u ≡ b ++ y ∷ v → Places a x b y
places [] x u [] y v e = same refl (heads e)
places [] x u (z ∷ b) y v e = first b (ap (λ t. t ∷ b) (sym (heads e)))
places (z ∷ a) x u [] y v e = second a (ap (λ t. t ∷ a) (heads e))
places (z ∷ a) x u (t ∷ b) y v e = subst (λ s. Places (z ∷ a) x (s ∷ b) y) (heads e) (behind z a x b y (places a x u b y v (tails e)))

record SameToken (a : List Token) (x : Token) (b : List Token) (y : Token) : Type 0 where
  before : a ≡ b
  token : x ≡ y

module _ (tokens : List Token) (d : ℕ) (a : List Token) (x : Token) (u b : List Token) (y : Token) (v : List Token) (p : IsRefused tokens d a x u) (q : IsRefused tokens d b y v) where
  same_refused : SameToken a x b y
  same_refused = by_place (places a x u b y v (sym p.is ∙ q.is))
    where
      by_place : Places a x b y → SameToken a x b y
      by_place (same e f) = record { before = e; token = f }
      by_place (first mid e) = absurd (p.not_viable (viable_front (a ++ x ∷ []) mid d (subst (λ z. Viable z d) e q.viable)))
      by_place (second mid e) = absurd (q.not_viable (viable_front (b ++ y ∷ []) mid d (subst (λ z. Viable z d) e p.viable)))

-- ---- one kind

float_no_attribute : (before : List Token) (x : Token) → IsFloatOperator x → IsAttribute before DEEPEST x → ⊥
float_no_attribute before x (inl e) a = (let is = ap (λ (z : Token). z.what) a.is in cc)
float_no_attribute before x (inr e) a = (let is = ap (λ (z : Token). z.what) a.is in cc)

same_place : (p q r : Place) → Some p ≡ Some r → Some q ≡ Some r → p ≡ q
same_place p q r e f = cc

module _ (before : List Token) (x : Token) where
  same_kind : (f g : ParseFault) → place_of f ≡ Some x.place → place_of g ≡ Some x.place → IsKind f before x → IsKind g before x → f ≡ g
  same_kind (TooDeep p) (TooDeep q) e h k m = ap TooDeep (same_place p q x.place e h)
  same_kind (TooDeep p) (FloatOperator q) e h k m = absurd (m.0 k)
  same_kind (TooDeep p) (BadAttribute q) e h k m = absurd (m.0 k)
  same_kind (TooDeep p) (Unexpected q) e h k m = absurd (m.0 k)
  same_kind (TooDeep p) Memory e h k m = absurd m
  same_kind (FloatOperator p) (TooDeep q) e h k m = absurd (k.0 m)
  same_kind (FloatOperator p) (FloatOperator q) e h k m = ap FloatOperator (same_place p q x.place e h)
  same_kind (FloatOperator p) (BadAttribute q) e h k m = absurd (float_no_attribute before x k.1 m.1)
  same_kind (FloatOperator p) (Unexpected q) e h k m = absurd (m.1 k.1)
  same_kind (FloatOperator p) Memory e h k m = absurd m
  same_kind (BadAttribute p) (TooDeep q) e h k m = absurd (k.0 m)
  same_kind (BadAttribute p) (FloatOperator q) e h k m = absurd (float_no_attribute before x m.1 k.1)
  same_kind (BadAttribute p) (BadAttribute q) e h k m = ap BadAttribute (same_place p q x.place e h)
  same_kind (BadAttribute p) (Unexpected q) e h k m = absurd (m.2 k.1)
  same_kind (BadAttribute p) Memory e h k m = absurd m
  same_kind (Unexpected p) (TooDeep q) e h k m = absurd (k.0 m)
  same_kind (Unexpected p) (FloatOperator q) e h k m = absurd (k.1 m.1)
  same_kind (Unexpected p) (BadAttribute q) e h k m = absurd (k.2 m.1)
  same_kind (Unexpected p) (Unexpected q) e h k m = ap Unexpected (same_place p q x.place e h)
  same_kind (Unexpected p) Memory e h k m = absurd m
  same_kind Memory g e h k m = absurd k

-- ---- one fault

pub one_fault : (tokens : List Token) (f g : ParseFault) → IsFault tokens f → IsFault tokens g → f ≡ g
one_fault tokens f g p q =
    let s : SameToken p.before p.refused q.before q.refused = same_refused tokens DEEPEST p.before p.refused p.after q.before q.refused q.after p.is q.is in
    let there : place_of g ≡ Some p.refused.place = q.place ∙ ap (λ (z : Token). Some z.place) (sym s.token) in
    let kind : IsKind g p.before p.refused = subst (λ z. IsKind g p.before z) (sym s.token) (subst (λ z. IsKind g z q.refused) (sym s.before) q.kind) in
    same_kind p.before p.refused f g p.place there p.kind kind

-- tokens that spell a tree have no fault
pub no_fault : (tokens : List Token) (tree : Tree) (f : ParseFault) → Spells tree tokens → depth_of tree ≤ DEEPEST → IsFault tokens f → ⊥
no_fault tokens tree f s low p =
    p.is.not_viable (record { after = p.after; tree = tree; spells = subst (Spells tree) (p.is.is ∙ sym (append_assoc p.before (p.refused ∷ []) p.after)) s; shallow = low })

-- More room changes no answer of a reader but a refusal for depth, at each depth.
use Rattle.std.proofs.Common.{◌≡◌, refl, sym, ◌∙◌, ap, subst, ℕ, zero, suc, ◌+◌, ◌-◌, nat_le, ◌≤◌, Bool, true, false, List, [], Ok, Err, arith}
use Rattle.std.proofs.lemmas.Bool.{le-leb}
use Rattle.lua_tokens.specs.declared.place.Place.{Place}
use Rattle.lua_tokens.specs.declared.token.Token.{Token}
use Rattle.lua_tree.specs.declared.expr.Expr.{Expr}
use Rattle.lua_tree.specs.declared.stat.Stat.{Stat}
use Rattle.lua_grammar.specs.declared.measured.Measured.{Measured}
use Rattle.lua_grammar.specs.Written.{Bytes}
use Rattle.lua_grammar.specs.Input.{Outcome, Parser, bad, deep, attribute}
use Rattle.lua_grammar.specs.Expressions.{Parts, name_leaf, table, operand, climb, from_level, rest_of}
use Rattle.lua_grammar.specs.Statements.{block, levels, no_parts, parts}
use Rattle.lua_grammar.proofs.Levels.{parts_depth, parts_below, parts_lower, block_deeper}
use Rattle.lua_grammar.proofs.Shorter.{ShorterParts, none_shorter, parts_shorter}
use Rattle.lua_grammar.proofs.LocalExpr.{LocalParts, suffixes_local, table_local, body_local, group_local, climb_local}
use Rattle.lua_grammar.proofs.LocalStat.{none_local, parts_local}
use Rattle.lua_grammar.proofs.Local.{pure_local, bind_local}
use Rattle.lua_grammar.proofs.Fronts.{Meets, weaken}
use Rattle.lua_grammar.proofs.SoundExpr.{flat_operand}
use Rattle.lua_grammar.proofs.Properties.{Local, Past, Kept, KeptAt}
use Rattle.lua_grammar.proofs.Kept.{Fam, same_kept, Grows, refuse_f, on_room, name_room, bind_where}
use Rattle.lua_grammar.proofs.KeptExpr.{FamParts, level_fam, rest_fam, table_fam}
use Rattle.lua_grammar.proofs.KeptStat.{block_fam}

-- ---- from one depth to the next

shift : {A : Type 0} (p : ℕ → Parser A) (d : ℕ) → KeptAt p (d - 1) → KeptAt (λ n. p (n - 1)) d
shift p d h ts = by_result (p (d - 1) ts) (h ts)
  where
    by_result : (r : Outcome _) → Kept p (d - 1) ts r → Kept (λ n. p (n - 1)) d ts r
    by_result (Ok x) k = λ n le. k (n - 1) (omega (arith, le))
    by_result (Err (bad, rest)) k = λ n le. k (n - 1) (omega (arith, le))
    by_result (Err (attribute, rest)) k = λ n le. k (n - 1) (omega (arith, le))
    by_result (Err (deep, rest)) k = (k.0 + 1, λ n le. k.1 (n - 1) (omega (arith, le)))

module _ {A : Type 0} (p q : ℕ → Parser A) (same : (n : ℕ) (ts : List Token) → p (suc n) ts ≡ q n ts) where
  at_pred : (n : ℕ) (ts : List Token) → 1 ≤ n → p n ts ≡ q (n - 1) ts
  at_pred zero ts h = absurd (omega (arith, h))
  at_pred (suc n) ts h = same n ts ∙ ap (λ k. q k ts) (omega arith)

  unshift : (d : ℕ) → KeptAt q d → KeptAt p (suc d)
  unshift d h ts = subst (Kept p (suc d) ts) (sym (same d ts)) (by_result (q d ts) (h ts))
    where
      by_result : (r : Outcome A) → Kept q d ts r → Kept p (suc d) ts r
      by_result (Ok x) k = λ n le. at_pred n ts (omega (arith, le)) ∙ k (n - 1) (omega (arith, le))
      by_result (Err (bad, rest)) k = λ n le. at_pred n ts (omega (arith, le)) ∙ k (n - 1) (omega (arith, le))
      by_result (Err (attribute, rest)) k = λ n le. at_pred n ts (omega (arith, le)) ∙ k (n - 1) (omega (arith, le))
      by_result (Err (deep, rest)) k = (k.0 + 1, λ n le. subst (λ z. Past z rest) (sym (at_pred n ts (omega (arith, le)))) (k.1 (n - 1) (omega (arith, le))))

fam_shift : {A C : Type 0} (p : ℕ → Parser A) (d : ℕ) → Fam C (d - 1) p → Fam C d (λ n. p (n - 1))
fam_shift p d h = record { kept = λ c. shift p d (h.kept c); local = λ n. h.local (n - 1) }

parts_shift : (d : ℕ) (P : ℕ → Parts) → FamParts (d - 1) P → FamParts d (λ n. P (n - 1))
parts_shift d P h = record {
  shorter = λ n. h.shorter (n - 1);
  local = λ n. h.local (n - 1);
  grows = λ n le. h.grows (n - 1) (omega (arith, le));
  reach = λ k. h.reach k + 1;
  reaches = λ k n le. h.reaches k (n - 1) (omega (arith, le));
  expr = λ m. fam_shift (λ n. (P n).expr m) d (h.expr m);
  rest = λ x p. fam_shift (λ n. (P n).rest (name_leaf x p)) d (h.rest x p);
  table = λ p. fam_shift (λ n. (P n).table p) d (h.table p);
  block = fam_shift (λ n. (P n).block) d h.block;
}

-- ---- with no room

abbrev above : ℕ → Parts
above zero = no_parts
above (suc n) = parts n

abbrev here : ℕ → Bool
here zero = false
here (suc n) = true

above_shorter : (n : ℕ) → ShorterParts (above n)
above_shorter zero = none_shorter
above_shorter (suc n) = parts_shorter n

above_local : (n : ℕ) → LocalParts (above n)
above_local zero = none_local
above_local (suc n) = parts_local n

here_grows : Grows 0 here
here_grows = record { stays = λ n le e. cc; enough = 1; there = at }
  where
    at : (n : ℕ) → 1 ≤ n → here n ≡ true
    at zero h = absurd (omega (arith, h))
    at (suc n) h = refl

above_grows : Grows 0 (λ n. nat_le 1 (above n).depth)
above_grows = record { stays = λ n le e. cc; enough = 2; there = at }
  where
    at : (n : ℕ) → 2 ≤ n → nat_le 1 (above n).depth ≡ true
    at zero h = absurd (omega (arith, h))
    at (suc n) h = le-leb 1 (parts n).depth (omega (arith, h, parts_depth n))

-- nothing is taken there
never : {A : Type 0} (room : ℕ → Bool) (p : ℕ → Parser A) → room 0 ≡ false → ((n : ℕ) → Local (p n)) → Fam (Unit {0} × (room 0 ≡ true)) 0 p
never room p e h = record { kept = λ c. (let no : false ≡ true = sym e ∙ c.1 in cc); local = h }

flat_fam : Fam (Unit {0}) 0 (λ n. operand (above n) (here n))
unfolding operand
flat_fam =
    on_room _ here _ _ here_grows (λ _. refl) refl (λ a p. never here _ none (λ n. pure_local _))
    (name_room here _ _ here_grows (λ n p. never here _ none (λ k. suffixes_local (above k) (above_shorter k) (above_local k) (name_leaf n p)))
    (on_room _ (λ n. nat_le 1 (above n).depth) _ _ above_grows (λ _. refl) refl
    (λ _ p. never (λ n. nat_le 1 (above n).depth) _ flat
    (λ n. bind_local _ _ (suffixes_local (above n) (above_shorter n) (above_local n)) (group_local (above n) (above_shorter n) (above_local n) p)))
    (on_room _ here _ _ here_grows (λ _. refl) refl (λ _ p. never here _ none (λ n. table_local (above n) (above_shorter n) (above_local n) p))
    (on_room _ (λ n. nat_le 1 (above n).depth) _ _ above_grows (λ _. refl) refl
    (λ _ p. never (λ n. nat_le 1 (above n).depth) _ flat (λ n. bind_local _ _ (λ b. pure_local _) (body_local (above n) (above_shorter n) (above_local n) p [])))
    (on_room _ (λ n. nat_le 1 (above n).depth) _ _ above_grows (λ _. refl) refl
    (λ op p. never (λ n. nat_le 1 (above n).depth) _ flat (λ n. bind_local _ _ (λ e. pure_local _) ((above_local n).expr 11)))
    (refuse_f _))))))
  where
    none : here 0 ≡ false
    none = refl

    flat : nat_le 1 (above 0).depth ≡ false
    flat = refl

flat_level : (m : ℕ) → Fam (Unit {0}) 0 (λ n. from_level (above n) (here n) m)
unfolding from_level
flat_level m = bind_where (λ n. operand (above n) (here n)) (λ n. climb (above n) m) (λ _. ⊥) refused (λ x h. absurd h) (λ n x. climb_local (above n) (above_shorter n) (above_local n) m x) flat_fam
  where
    refused : (ts : List Token) → Meets (λ (x : Measured Expr) _. ⊥) (λ _. Unit {0}) (operand (above 0) (here 0) ts)
    refused ts = weaken (λ x rest. ⊥) (λ x rest. ⊥) (λ rest. rest ≡ ts) (λ rest. Unit {0}) (operand no_parts false ts) (λ x rest h. h) (λ rest h. tt) (flat_operand no_parts refl ts)

flat_same : (n m : ℕ) (ts : List Token) → (parts n).expr m ts ≡ from_level (above n) (here n) m ts
unfolding levels
flat_same zero m ts = refl
flat_same (suc n) m ts = refl

fam_same : {A C : Type 0} (d : ℕ) (p q : ℕ → Parser A) → ((n : ℕ) (ts : List Token) → p n ts ≡ q n ts) → ((n : ℕ) → Local (p n)) → Fam C d q → Fam C d p
fam_same d p q e l h = record { kept = λ c ts. subst (Kept p d ts) (sym (e d ts)) (same_kept d p q ts ts (λ n _. e n ts) (q d ts) (h.kept c ts)); local = l }

no_room : {A : Type 0} (p : ℕ → Parser A) → ((n : ℕ) → Local (p n)) → Fam (1 ≤ (parts 0).depth) 0 p
no_room p l = record { kept = λ c. absurd (omega (arith, c, parts_depth 0)); local = l }

parts_grow : (d n : ℕ) → d ≤ n → (parts d).depth ≤ (parts n).depth
parts_grow d n h = omega (arith, h, parts_depth d, parts_depth n)

parts_reach : (k n : ℕ) → k ≤ n → k ≤ (parts n).depth
parts_reach k n h = omega (arith, h, parts_depth n)

flat_parts_fam : FamParts 0 (λ n. parts n)
flat_parts_fam = record {
  shorter = parts_shorter;
  local = parts_local;
  grows = parts_grow 0;
  reach = λ k. k;
  reaches = parts_reach;
  expr = λ m. fam_same 0 (λ n. (parts n).expr m) (λ n. from_level (above n) (here n) m) (λ n ts. flat_same n m ts) (λ n. (parts_local n).expr m) (flat_level m);
  rest = λ x p. no_room (λ n. (parts n).rest (name_leaf x p)) (λ n. (parts_local n).rest (name_leaf x p));
  table = λ p. no_room (λ n. (parts n).table p) (λ n. (parts_local n).table p);
  block = no_room (λ n. (parts n).block) (λ n. (parts_local n).block);
}

-- ---- one level more

fam_unshift : {A C : Type 0} (p q : ℕ → Parser A) (d : ℕ) → ((n : ℕ) (ts : List Token) → p (suc n) ts ≡ q n ts) → ((n : ℕ) → Local (p n)) → Fam (Unit {0}) d q → Fam C (suc d) p
fam_unshift p q d same l h = record { kept = λ c. unshift p q same d (h.kept tt); local = l }

expr_same : (m n : ℕ) (ts : List Token) → (parts (suc n)).expr m ts ≡ from_level (parts n) true m ts
unfolding levels
expr_same m n ts = refl

rest_same : (x : Bytes) (p : Place) (n : ℕ) (ts : List Token) → (parts (suc n)).rest (name_leaf x p) ts ≡ rest_of (parts n) (name_leaf x p) ts
unfolding levels
rest_same x p n ts = refl

table_same : (p : Place) (n : ℕ) (ts : List Token) → (parts (suc n)).table p ts ≡ table (parts n) p ts
unfolding levels
table_same p n ts = refl

block_same : (n : ℕ) (ts : List Token) → (parts (suc n)).block ts ≡ block (parts n) (parts (n - 1)) (parts (n - 1 - 1)) ts
block_same n ts = ap (λ (p : Parser (Measured (List Stat))). p ts) (block_deeper n) ∙ ap (λ Q. block (parts n) Q (levels n).lower ts) (parts_below n) ∙ ap (λ R. block (parts n) (parts (n - 1)) R ts) (parts_lower n ∙ ap parts (omega arith))

record FamLevels (d : ℕ) : Type 0 where
  here : FamParts d (λ n. parts n)
  below : FamParts d (λ n. parts (n - 1))
  lower : FamParts d (λ n. parts (n - 1 - 1))

below_of : (d : ℕ) → FamParts d (λ n. parts n) → FamParts (suc d) (λ n. parts (n - 1))
below_of d h = parts_shift (suc d) (λ n. parts n) (subst (λ k. FamParts k (λ n. parts n)) (omega arith) h)

lower_of : (d : ℕ) → FamParts d (λ n. parts (n - 1)) → FamParts (suc d) (λ n. parts (n - 1 - 1))
lower_of d h = parts_shift (suc d) (λ n. parts (n - 1)) (subst (λ k. FamParts k (λ n. parts (n - 1))) (omega arith) h)

one_less : (d : ℕ) → (parts (d - 1)).depth ≡ (parts d).depth - 1
one_less d = parts_depth (d - 1) ∙ ap (λ n. n - 1) (sym (parts_depth d))

deeper_fam : (d : ℕ) → FamLevels d → FamParts (suc d) (λ n. parts n)
deeper_fam d x = record {
  shorter = parts_shorter;
  local = parts_local;
  grows = parts_grow (suc d);
  reach = λ k. k;
  reaches = parts_reach;
  expr = λ m. fam_unshift (λ n. (parts n).expr m) (λ n. from_level (parts n) true m) d (expr_same m) (λ n. (parts_local n).expr m) (level_fam d (λ n. parts n) x.here m);
  rest = λ y p. fam_unshift (λ n. (parts n).rest (name_leaf y p)) (λ n. rest_of (parts n) (name_leaf y p)) d (rest_same y p) (λ n. (parts_local n).rest (name_leaf y p)) (rest_fam d (λ n. parts n) x.here y p);
  table = λ p. fam_unshift (λ n. (parts n).table p) (λ n. table (parts n) p) d (table_same p) (λ n. (parts_local n).table p) (table_fam d (λ n. parts n) x.here p);
  block = fam_unshift (λ n. (parts n).block) (λ n. block (parts n) (parts (n - 1)) (parts (n - 1 - 1))) d block_same (λ n. (parts_local n).block)
      (block_fam d (λ n. parts n) (λ n. parts (n - 1)) (λ n. parts (n - 1 - 1)) x.here x.below x.lower (one_less d));
}

levels_fam : (d : ℕ) → FamLevels d
levels_fam zero = record { here = flat_parts_fam; below = parts_shift 0 (λ n. parts n) flat_parts_fam; lower = parts_shift 0 (λ n. parts (n - 1)) (parts_shift 0 (λ n. parts n) flat_parts_fam) }
levels_fam (suc d) =
    let x = levels_fam d in
    record { here = deeper_fam d x; below = below_of d x.here; lower = lower_of d x.below }

pub block_kept : (d : ℕ) → 1 ≤ d → KeptAt (λ n. (parts n).block) d
block_kept d pos = (levels_fam d).here.block.kept (omega (arith, pos, parts_depth d))

-- Scripts are read as they are spelled, and where a token is refused those before it begin the spelling of one.
use Rattle.std.proofs.Common.{◌≡◌, refl, sym, ◌∙◌, ap, subst, ℕ, zero, suc, ◌+◌, ◌-◌, ◌≤◌, true, List, [], ◌∷◌, arith}
use Rattle.lua_tokens.specs.declared.place.Place.{Place}
use Rattle.lua_tokens.specs.declared.token.Token.{Token}
use Rattle.lua_tokens.specs.declared.token.Lexeme.TheVariants as l
use Rattle.lua_tree.specs.declared.stat.Stat.{Stat}
use Rattle.lua_tree.specs.declared.stat.Tree.{Tree}
use Rattle.lua_grammar.specs.declared.measured.Measured.{Measured}
use Rattle.lua_grammar.specs.Tokens.{finish, name}
use Rattle.lua_grammar.specs.Written.{Stats}
use Rattle.lua_grammar.specs.Spelling.{spell_stats}
use Rattle.lua_grammar.specs.Formed.{FormedStats}
use Rattle.lua_grammar.specs.Erasure.{block_of, tree_of}
use Rattle.lua_grammar.specs.Input.{refuse}
use Rattle.lua_grammar.specs.Expressions.{Parts, name_leaf, table}
use Rattle.lua_grammar.specs.Statements.{block, Levels, levels, no_parts, flat_parts, deeper_parts, parts, nothing_more, whole, script}
use Rattle.lua_grammar.proofs.Heights.{stats_height}
use Rattle.lua_grammar.proofs.Levels.{parts_depth, parts_below, parts_lower}
use Rattle.lua_grammar.proofs.Shorter.{ShorterParts, levels_shorter}
use Rattle.lua_grammar.proofs.Spelled.{opens_token, opens_then, stats_app}
use Rattle.lua_grammar.proofs.Fronts.{Meets, then_meets, is_meets, Fails, Context, fails_in, stuck}
use Rattle.lua_grammar.proofs.Answered.{here, ReadsExpr, FailsExpr, spell_table, GoodTable, ReadsTable, GoodBlock, ReadsStats, SoundParts}
use Rattle.lua_grammar.proofs.SoundTable.{table_meets}
use Rattle.lua_grammar.proofs.SoundExpr.{level_meets, rest_meets, flat_meets}
use Rattle.lua_grammar.proofs.SoundBlock.{block_meets}

-- ---- readers of each depth

flat_sound : SoundParts flat_parts
flat_sound = record {
  expr = λ pos m low ts. absurd (omega (arith, pos));
  flat = λ e m ts. flat_meets no_parts refl m ts;
  rest = λ pos n p ts. absurd (omega (arith, pos));
  table = λ pos p ts. absurd (omega (arith, pos));
  block = λ pos ts. absurd (omega (arith, pos));
}

module _ (P Q R : Parts) (hp : ShorterParts P) (hq : ShorterParts Q) (hr : ShorterParts R) (sp : SoundParts P) (sq : SoundParts Q) (sr : SoundParts R)
    (below : Q.depth ≡ P.depth - 1) (lower : R.depth ≡ P.depth - 2) where
  one_up : P.depth + 1 ≡ suc P.depth
  one_up = omega arith

  deeper_sound : SoundParts (deeper_parts P Q R)
  deeper_sound = record {
    expr = λ pos m low ts. subst (λ d. Meets (ReadsExpr d m ts) (FailsExpr d m ts) ((deeper_parts P Q R).expr m ts)) one_up (level_meets P hp sp m low ts);
    flat = λ e m ts. absurd (omega (arith, e));
    rest = λ pos n p ts.
        subst (λ d. Meets (ReadsExpr d 0 (name n p ∷ ts)) (FailsExpr d 0 (name n p ∷ ts)) ((deeper_parts P Q R).rest (name_leaf n p) ts)) one_up (rest_meets P hp sp n p ts);
    table = λ pos p ts. subst (λ d. Meets (ReadsTable d p ts) (Fails (GoodTable d) spell_table ts) (table P p ts)) one_up (table_meets P hp sp ts p);
    block = λ pos ts. subst (λ d. Meets (ReadsStats d ts) (Fails (GoodBlock d) spell_stats ts) (block P Q R ts)) one_up (block_meets P Q R hp hq hr sp sq sr below lower ts);
  }

record SoundLevels (x : Levels) : Type 0 where
  here : SoundParts x.here
  below : SoundParts x.below
  lower : SoundParts x.lower

levels_sound : (d : ℕ) → SoundLevels (levels d)
unfolding levels
levels_sound zero = record { here = flat_sound; below = flat_sound; lower = flat_sound }
levels_sound (suc d) =
    let x = levels_sound d in
    let h = levels_shorter d in
    let one : (levels d).below.depth ≡ (levels d).here.depth - 1 = ap (λ p. p.depth) (parts_below d) ∙ parts_depth (d - 1) ∙ ap (λ n. n - 1) (sym (parts_depth d)) in
    let two : (levels d).lower.depth ≡ (levels d).here.depth - 2 = ap (λ p. p.depth) (parts_lower d) ∙ parts_depth (d - 2) ∙ ap (λ n. n - 2) (sym (parts_depth d)) in
    record { here = deeper_sound (levels d).here (levels d).below (levels d).lower h.here h.below h.lower x.here x.below x.lower one two; below = x.here; lower = x.below }

pub parts_sound : (d : ℕ) → SoundParts (parts d)
parts_sound d = (levels_sound d).here

pub blocks_meet : (d : ℕ) → 1 ≤ d → (ts : List Token) → Meets (ReadsStats d ts) (Fails (GoodBlock d) spell_stats ts) ((parts d).block ts)
blocks_meet d pos ts =
    subst (λ n. Meets (ReadsStats n ts) (Fails (GoodBlock n) spell_stats ts) ((parts d).block ts)) (parts_depth d) ((parts_sound d).block (omega (arith, pos, parts_depth d)) ts)

-- ---- scripts

-- what is written, and the place of the end
abbrev pub spell_script : Stats × Place → List Token → List Token
spell_script x k = spell_stats x.0 (finish x.1 ∷ k)

abbrev pub GoodScript : ℕ → Stats × Place → Type 0
GoodScript d x = GoodBlock d x.0

pub record ReadsScript (d : ℕ) (ts : List Token) (tree : Tree) (rest : List Token) : Type 0 where
  pub written : Stats
  pub last : Place
  pub formed : FormedStats written
  pub low : stats_height written + 1 ≤ d
  pub shows : tree_of written ≡ tree
  pub spelled : spell_stats written (finish last ∷ []) ≡ ts
  pub ended : rest ≡ []

module _ (d : ℕ) (pos : 1 ≤ d) (ts : List Token) where
  abbrev T : Tree → List Token → Type 0
  T = ReadsScript d ts

  abbrev Z : List Token → Type 0
  Z rest = Fails (GoodScript d) spell_script ts rest

  good : (x : Measured (List Stat)) (us : List Token) (r : ReadsStats d ts x us) → GoodBlock d r.written
  good x us r = record { formed = r.formed; low = r.low }

  at_end : (x : Measured (List Stat)) (us : List Token) (r : ReadsStats d ts x us) (p : Place) (vs : List Token) → us ≡ finish p ∷ vs → Meets T Z (nothing_more x vs)
  at_end x us r p [] e = record {
    written = r.written;
    last = p;
    formed = r.formed;
    low = r.low;
    shows = ap (λ z. record { block = block_of z }) (sym r.what);
    spelled = ap (spell_stats r.written) (sym e) ∙ sym r.spelled;
    ended = refl;
  }
  at_end x us r p (y ∷ vs) e = stuck (GoodScript d) spell_script (λ z. spell_stats r.written (finish p ∷ z)) (opens_then (spell_stats r.written) (λ z. finish p ∷ z) (stats_app r.written) (opens_token (finish p)))
      [] (r.written, p) (good x us r) refl ts (y ∷ vs) (r.spelled ∙ ap (spell_stats r.written) e)

  at_whole : (x : Measured (List Stat)) (us : List Token) → ReadsStats d ts x us → Meets T Z (whole x us)
  at_whole x us r =
      let z : Z us = stuck (GoodScript d) spell_script (spell_stats r.written) (stats_app r.written) (finish here ∷ []) (r.written, here) (good x us r) refl ts us r.spelled in
      is_meets l.End tt true (λ _ _. nothing_more x) refuse T Z us z (λ p vs _ e. at_end x us r p vs e) (λ _. z)

  abbrev in_script : Context (GoodBlock d) spell_stats (GoodScript d) spell_script (λ z. z)
  in_script = record { opens = λ u v. refl; close = finish here ∷ []; put = λ ss. (ss, here); good = λ ss g. g; spelled = λ ss g. refl }

  pub script_meets : Meets (ReadsScript d ts) (Fails (GoodScript d) spell_script ts) (script d ts)
  unfolding script
  script_meets =
      then_meets whole (ReadsStats d ts) T (Fails (GoodBlock d) spell_stats ts) Z ((parts d).block ts) (blocks_meet d pos ts)
      (λ rest f. fails_in in_script stats_app ts ts rest refl f) (λ x us r. at_whole x us r)

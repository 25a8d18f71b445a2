-- How deep what a reader of blocks answers can be.
use Rattle.std.proofs.Common.{◌≡◌, ◌∙◌, ap, subst, ℕ, suc, ◌+◌, ◌-◌, ◌≤◌, List, Ok, arith}
use Rattle.lua_tokens.specs.declared.place.Place.{Place}
use Rattle.lua_tokens.specs.declared.token.Token.{Token}
use Rattle.lua_tree.specs.declared.stat.Body.{Body}
use Rattle.lua_tree.specs.declared.stat.Stat.{Stat}
use Rattle.lua_grammar.specs.declared.measured.Measured.{Measured}
use Rattle.lua_grammar.specs.Spelling.{spell_body, spell_stats}
use Rattle.lua_grammar.specs.Written.{Bytes}
use Rattle.lua_grammar.specs.Input.{and_then}
use Rattle.lua_grammar.specs.Expressions.{measured, nothing, function_body}
use Rattle.lua_grammar.specs.Statements.{block, more_stats, levels, parts}
use Rattle.lua_grammar.proofs.Levels.{parts_depth, parts_below, parts_lower, block_deeper}
use Rattle.lua_grammar.proofs.Shorter.{parts_shorter}
use Rattle.lua_grammar.proofs.Fronts.{Meets, Fails}
use Rattle.lua_grammar.proofs.Answered.{GoodBody, ReadsBody, GoodBlock, ReadsStats}
use Rattle.lua_grammar.proofs.SoundBody.{body_meets}
use Rattle.lua_grammar.proofs.SoundScript.{parts_sound, blocks_meet}

-- the block of one level more
pub block_up : (d : ℕ) → (parts (d + 1)).block ≡ block (parts d) (parts (d - 1)) (parts (d - 2))
block_up d =
    let up : d + 1 ≡ suc d = omega arith in
    ap (λ n. (parts n).block) up ∙ block_deeper d ∙ ap (λ z. block (parts d) z (levels d).lower) (parts_below d) ∙ ap (block (parts d) (parts (d - 1))) (parts_lower d)

read_low : (d : ℕ) (ts rest : List Token) (x : Measured (List Stat)) → ReadsStats d ts x rest → x.depth ≤ d
read_low d ts rest x r = omega (arith, r.depth, r.low)

-- of the statements of a block
pub stats_low : (d : ℕ) (ts rest : List Token) (x : Measured (List Stat)) → more_stats (parts d) (parts (d - 1)) (parts (d - 2)) nothing ts ≡ Ok (x, rest) → x.depth ≤ d
unfolding block
stats_low d ts rest x e =
    let whole : (parts (d + 1)).block ts ≡ Ok (measured x.what (x.depth + 1), rest) = ap (λ p. p ts) (block_up d) ∙ ap (λ r. and_then r (λ found us. Ok (measured found.what (found.depth + 1), us))) e in
    let m : Meets (ReadsStats (d + 1) ts) (Fails (GoodBlock (d + 1)) spell_stats ts) (Ok (measured x.what (x.depth + 1), rest)) = subst (Meets (ReadsStats (d + 1) ts) (Fails (GoodBlock (d + 1)) spell_stats ts)) whole (blocks_meet (d + 1) (omega arith) ts) in
    omega (arith, read_low (d + 1) ts rest (measured x.what (x.depth + 1)) m)

-- of the body of a function
pub body_low : (d : ℕ) (at : Place) (first : List (Bytes × Place)) (ts rest : List Token) (x : Measured Body) → 1 ≤ d → function_body (parts d) at first ts ≡ Ok (x, rest) → x.depth ≤ d
body_low d at first ts rest x pos e =
    let m : Meets (ReadsBody (parts d).depth at first ts) (Fails (GoodBody (parts d).depth) spell_body ts) (Ok (x, rest)) =
    subst (Meets (ReadsBody (parts d).depth at first ts) (Fails (GoodBody (parts d).depth) spell_body ts)) e (body_meets (parts d) (parts_shorter d) (parts_sound d) first (omega (arith, pos, parts_depth d)) at ts) in
    omega (arith, m.depth, m.good.low, parts_depth d)

-- A script is read from what spells it, and so at most one tree is spelled by some tokens.
use Rattle.std.proofs.Common.{◌≡◌, refl, sym, ◌∙◌, ap, ℕ, ◌+◌, max, ◌≤◌, List, [], ◌∷◌, Ok, arith}
use Rattle.lua_tokens.specs.declared.place.Place.{Place}
use Rattle.lua_tokens.specs.declared.token.Token.{Token}
use Rattle.lua_tree.specs.declared.stat.Stat.{Stat}
use Rattle.lua_tree.specs.declared.stat.Tree.{Tree}
use Rattle.lua_grammar.specs.declared.measured.Measured.{Measured}
use Rattle.lua_grammar.specs.Tokens.{finish}
use Rattle.lua_grammar.specs.Written.{Stats}
use Rattle.lua_grammar.specs.Spelling.{spell_stats}
use Rattle.lua_grammar.specs.Formed.{FormedStats}
use Rattle.lua_grammar.specs.Erasure.{block_of, stats_of, tree_of}
use Rattle.lua_grammar.specs.Depth.{depth_of}
use Rattle.lua_grammar.specs.Grammar.{Spells}
use Rattle.lua_grammar.specs.Input.{Outcome, on}
use Rattle.lua_grammar.specs.Expressions.{measured}
use Rattle.lua_grammar.specs.Statements.{whole, script}
use Rattle.lua_grammar.proofs.Heights.{stats_height}
use Rattle.lua_grammar.proofs.DepthLaws.{tree_depth}
use Rattle.lua_grammar.proofs.Complete.{then_ok}
use Rattle.lua_grammar.proofs.CompleteBlock.{block_reads}

ended : (b : Measured (List Stat)) (p : Place) → whole b (finish p ∷ []) ≡ Ok (record { block = block_of b.what }, [])
unfolding on
ended b p = refl

written_reads : (d : ℕ) (w : Stats) (p : Place) → FormedStats w → stats_height w + 1 ≤ d → script d (spell_stats w (finish p ∷ [])) ≡ Ok (tree_of w, [])
unfolding script
written_reads d w p f h = then_ok _ _ _ _ _ (block_reads d w f h (finish p ∷ []) tt) (ended (measured (stats_of w) (stats_height w + 1)) p)

pub script_reads : (d : ℕ) (tree : Tree) (tokens : List Token) → Spells tree tokens → depth_of tree ≤ d → script d tokens ≡ Ok (tree, [])
script_reads d tree tokens s h =
    let shallow : depth_of (tree_of s.written) ≤ d = omega (arith, h, ap depth_of s.shows) in
    ap (script d) (sym s.spelled) ∙ written_reads d s.written s.last s.formed (omega (arith, shallow, tree_depth s.written)) ∙ ap (λ t. Ok (t, [])) s.shows

same_pair : {A : Type 0} (x y : A × List Token) (o : Outcome A) → o ≡ Ok x → o ≡ Ok y → x ≡ y
same_pair x y o e f = cc

same_answer : {A : Type 0} (a b : A) (o : Outcome A) → o ≡ Ok (a, []) → o ≡ Ok (b, []) → a ≡ b
same_answer {A} a b o e f = ap (λ (z : A × List Token). z.0) (same_pair (a, []) (b, []) o e f)

-- at most one tree is spelled by some tokens
pub one_tree : (a b : Tree) (tokens : List Token) → Spells a tokens → Spells b tokens → a ≡ b
one_tree a b tokens s t =
    let d : ℕ = max (depth_of a) (depth_of b) in
    same_answer a b (script d tokens) (script_reads d a tokens s (omega arith)) (script_reads d b tokens t (omega arith))

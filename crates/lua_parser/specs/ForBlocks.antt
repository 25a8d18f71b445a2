-- What goes on with a `for`.
use Rattle.std.specs.Prelude.{ℕ, max, List, Option}
use Rattle.lua_tokens.specs.declared.place.Place.{Place}
use Rattle.lua_tokens.specs.declared.token.Lexeme.TheVariants as l
use Rattle.lua_tokens.specs.declared.word.Word.TheVariants as w
use Rattle.lua_tree.specs.declared.expr.Expr.{Expr}
use Rattle.lua_tree.specs.declared.stat.Stat.{Stat}
use Rattle.lua_tree.specs.declared.stat.Stat.TheVariants as st
use Rattle.lua_grammar.specs.declared.measured.Measured.{Measured}
use Rattle.lua_grammar.specs.Written.{Bytes}
use Rattle.lua_grammar.specs.Erasure.{block_of}
use Rattle.lua_grammar.specs.Input.{Parser, ◌>>=◌, pure, expect}
use Rattle.lua_grammar.specs.Expressions.{Parts, measured}
use Rattle.lua_grammar.specs.Statements.{parts, for_step}
use Rattle.lua_parser.specs.Steps.{over}

-- its block, from `do` to `end`
unfoldable pub loop_block : Parts → Parser (Measured (List Stat))
loop_block P = expect (l.Word w.Do) >>= λ _. P.block >>= λ b. expect (l.Word w.End) >>= λ _. pure b

-- a numerical one of these parts
unfoldable pub numbers_stat : Bytes → Place → Measured Expr → Measured Expr → Measured (Option Expr)
    → Measured (List Stat) → Measured Stat
numbers_stat n p from to by b =
    measured (st.ForNum n p from.what to.what by.what (block_of b.what))
    (max (max from.depth to.depth) (max by.depth b.depth))

-- of a numerical one, from its word `do` on
unfoldable pub numbers_block : Parts → Bytes → Place → Measured Expr → Measured Expr
    → Measured (Option Expr) → Parser (Measured Stat)
numbers_block P n p from to by =
    expect (l.Word w.Do) >>= λ _. P.block >>= λ b. expect (l.Word w.End) >>= λ _.
    pure (numbers_stat n p from to by b)

-- of a numerical one, from its limit on
unfoldable pub numbers_from : ℕ → Bytes → Place → Measured Expr → Parser (Measured Stat)
numbers_from d n p from =
    (parts d).expr 0 >>= λ to. over d for_step >>= λ by. numbers_block (parts d) n p from to by

-- of a generic one, from its word `do` on
unfoldable pub each_block : Parts → List (Bytes × Place) → Measured (List Expr)
    → Parser (Measured Stat)
each_block P ns es =
    expect (l.Word w.Do) >>= λ _. P.block >>= λ b. expect (l.Word w.End) >>= λ _.
    pure (measured (st.ForIn ns es.what (block_of b.what)) (max es.depth b.depth))

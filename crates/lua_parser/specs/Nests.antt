-- Functions that read the parts of something.
use Rattle.std.specs.Prelude.{ℕ, ◌≤◌, Result, List}
use Rattle.std.specs.declared.alloc.Global.{Global}
use denote.Ref.{MutBor}
use Rattle.lua_tokens.specs.declared.token.Token.{Token}
use Rattle.lua_tree.specs.declared.expr.Expr.{Expr}
use Rattle.lua_tree.specs.declared.stat.Stat.{Stat}
use Rattle.lua_grammar.specs.declared.measured.Measured.{Measured}
use Rattle.lua_grammar.specs.Input.{Parser}
use Rattle.lua_grammar.specs.Statements.{parts}
use Rattle.lua_parser.specs.declared.stop.Stop.{Stop}
use Rattle.lua_parser.specs.declared.parts.Part.{Part}
use Rattle.lua_parser.specs.declared.parts.Parts.{Parts}
use Rattle.lua_parser.specs.declared.parts.Part.TheVariants as part
use Rattle.lua_parser.specs.Reads.{Reads}

-- a part that is an expression
abbrev pub part_of : ℕ → Part → Parser (Measured Expr)
part_of d (part.Level m) = (parts d).expr m
part_of d (part.Rest e) = (parts d).rest e
part_of d (part.Table p) = (parts d).table p

-- Of each depth up to this one they do what the readers of the parts do.
pub record Nests (depth : ℕ) (pre : Global → MutBor (List Token) → ℕ → Part → Type 0)
    (post : Global → MutBor (List Token) → ℕ → Part → Result (Measured Expr) Stop
    → MutBor (List Token) → Type 0)
    (pre_block : Global → MutBor (List Token) → ℕ → Type 0)
    (post_block : Global → MutBor (List Token) → ℕ → Result (Measured (List Stat)) Stop
    → MutBor (List Token) → Type 0) : Type 0 where
  pub takes_part : (d : ℕ) → d ≤ depth → (alloc : Global) (old : MutBor (List Token)) (x : Part)
      → pre alloc old d x
  pub reads_part : (d : ℕ) → d ≤ depth → (alloc : Global) (old new : MutBor (List Token)) (x : Part)
      (r : Result (Measured Expr) Stop) → post alloc old d x r new
      → Reads (part_of d x old.now) r new.now
  pub takes_block : (d : ℕ) → d ≤ depth → (alloc : Global) (old : MutBor (List Token))
      → pre_block alloc old d
  pub reads_block : (d : ℕ) → d ≤ depth → (alloc : Global) (old new : MutBor (List Token))
      (r : Result (Measured (List Stat)) Stop) → post_block alloc old d r new
      → Reads ((parts d).block old.now) r new.now

-- The functions of a `Parts` do what the readers of the parts do, up to its depth.
abbrev pub ReadsParts : {E B : Type 0} → Parts E B
    → (E → Global → MutBor (List Token) → ℕ → Part → Type 0)
    → (E → Global → MutBor (List Token) → ℕ → Part → Result (Measured Expr) Stop
    → MutBor (List Token) → Type 0)
    → (B → Global → MutBor (List Token) → ℕ → Type 0)
    → (B → Global → MutBor (List Token) → ℕ → Result (Measured (List Stat)) Stop
    → MutBor (List Token) → Type 0)
    → Type 0
ReadsParts p pre post pre_block post_block =
    Nests p.depth (pre p.parts) (post p.parts) (pre_block p.blocks) (post_block p.blocks)

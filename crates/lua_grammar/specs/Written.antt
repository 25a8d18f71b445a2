-- What is written in a script: a form for each rule of the grammar (manual, section 9), with the
-- place of each token, also where the tree leaves them out, as a semicolon, or what kind of
-- arguments a call has.
use Rattle.std.specs.Prelude.{ℕ, ℤ, List, Option}
use Rattle.lua_tokens.specs.declared.place.Place.{Place}
use Rattle.lua_tree.specs.declared.operator.Unary.{Unary}
use Rattle.lua_grammar.specs.Tokens.{Op}

-- a name or a text
abbrev pub Bytes : Type 0
Bytes = List ℕ

-- an expression of one token
pub data Atom : Type 0 where
  nil : Atom
  yes : Atom
  no : Atom
  int : ℤ → Atom
  quote : Bytes → Atom
  dots : Atom

-- the separator of fields: `,` or `;`
pub data Separator : Type 0 where
  comma : Separator
  semicolon : Separator

-- parameters after the first
pub data MoreParams : Type 0 where
  end_params : MoreParams
  -- `, ...`
  more_dots : Place → Place → MoreParams
  -- `, name`
  more_param : Place → Bytes → Place → MoreParams → MoreParams

pub data Params : Type 0 where
  no_params : Params
  only_dots : Place → Params
  params : Bytes → Place → MoreParams → Params

-- names after the first: `, name`
pub data Names : Type 0 where
  end_names : Names
  more_names : Place → Bytes → Place → Names → Names

-- `< const >`
pub data Attrib : Type 0 where
  no_attrib : Attrib
  const : Place → Place → Place → Attrib

-- declared names after the first: `, name [attrib]`
pub data Declared : Type 0 where
  end_declared : Declared
  more_declared : Place → Bytes → Place → Attrib → Declared → Declared

-- `: name`
pub data Colon : Type 0 where
  no_colon : Colon
  colon : Place → Bytes → Place → Colon

mutual
  pub data Exp : Type 0 where
    atom : Atom → Place → Exp
    -- the word `function`, and what follows it
    function : Place → Body → Exp
    variable : Bytes → Place → Exp
    -- `( e )`
    group : Place → Exp → Place → Exp
    -- `e . name`
    field : Exp → Place → Bytes → Place → Exp
    -- `e [ key ]`
    item : Exp → Place → Exp → Place → Exp
    call : Exp → Args → Exp
    -- `e : name args`
    method : Exp → Place → Bytes → Place → Args → Exp
    -- `{ fields }`
    table : Place → Fields → Place → Exp
    unary : Unary → Place → Exp → Exp
    -- the operator, its place, and its parts
    binary : Op → Place → Exp → Exp → Exp

  pub data Args : Type 0 where
    -- `( list )`
    listed : Place → Exps → Place → Args
    -- `{ fields }`
    braced : Place → Fields → Place → Args
    quoted : Bytes → Place → Args

  -- a list of expressions, or nothing
  pub data Exps : Type 0 where
    none : Exps
    some : Exp → Tail → Exps

  -- `, e` any number of times
  pub data Tail : Type 0 where
    end_tail : Tail
    more : Place → Exp → Tail → Tail

  pub data Fields : Type 0 where
    no_fields : Fields
    last_field : Field → Fields
    more_fields : Field → Separator → Place → Fields → Fields

  pub data Field : Type 0 where
    single : Exp → Field
    -- `name = e`
    titled : Bytes → Place → Place → Exp → Field
    -- `[ key ] = e`
    keyed : Place → Exp → Place → Place → Exp → Field

  -- `( params ) block end`
  pub data Body : Type 0 where
    body : Place → Params → Place → Stats → Place → Body

  pub data Stats : Type 0 where
    empty : Stats
    stat : Stat → Stats → Stats
    -- `return list`, and perhaps a semicolon
    answer : Place → Exps → Option Place → Stats

  pub data Stat : Type 0 where
    -- `;`
    skip : Place → Stat
    -- targets, the place of `=`, values
    assign : Exp → Tail → Place → Exp → Tail → Stat
    -- a call
    run : Exp → Stat
    -- `break`
    leave : Place → Stat
    -- `goto name`
    jump : Place → Bytes → Place → Stat
    -- `:: name ::`
    label : Place → Bytes → Place → Place → Stat
    -- `do block end`
    nest : Place → Stats → Place → Stat
    -- `while e do block end`
    loop : Place → Exp → Place → Stats → Place → Stat
    -- `repeat block until e`
    repeat : Place → Stats → Place → Exp → Stat
    -- `if e then block`, and the rest
    branch : Place → Exp → Place → Stats → Arms → Stat
    -- `for name = e, e, e do block end`
    count : Place → Bytes → Place → Place → Exp → Place → Exp → Step → Place → Stats → Place → Stat
    -- `for name, names in list do block end`
    each : Place → Bytes → Place → Names → Place → Exp → Tail → Place → Stats → Place → Stat
    -- `function name.name:name body`
    define : Place → Exp → Colon → Body → Stat
    -- `local function name body`
    define_local : Place → Place → Bytes → Place → Body → Stat
    -- `local name attrib, .. = list`
    declare : Place → Bytes → Place → Attrib → Declared → Values → Stat

  pub data Arms : Type 0 where
    -- `end`
    over : Place → Arms
    -- `else block end`
    otherwise : Place → Stats → Place → Arms
    -- `elseif e then block`, and the rest
    further : Place → Exp → Place → Stats → Arms → Arms

  -- `, e`, or nothing
  pub data Step : Type 0 where
    no_step : Step
    step : Place → Exp → Step

  -- `= list`, or nothing
  pub data Values : Type 0 where
    no_values : Values
    values : Place → Exp → Tail → Values

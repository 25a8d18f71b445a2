-- One token after the other.
use Rattle.std.proofs.Common.{◌≡◌, refl, sym, ◌∙◌, ap, subst, ℕ, true, false, List, [], ◌∷◌, ◌++◌, append_assoc, Ok, Err}
use Rattle.std.specs.Prelude.{Result, IsErrAnd}
use Rattle.lua_lexer.specs.declared.stop.Why.{Why}
use Rattle.lua_tokens.specs.declared.Token.{Token}
use Rattle.lua_lexer.specs.Tokens.{Lex, Gap, Mark, place, line, mark, Step, LexesFrom, Lexes, Stuck, FailsFrom, LexFails}
use Rattle.lua_lexer.specs.Reading.{spelling, is_finish}
use Rattle.lua_tokens.specs.declared.Place.{Place}
use Rattle.lua_lexer.specs.declared.stop.Why.TheVariants as why
use Rattle.lua_lexer.specs.declared.stop.Stop.{Stop}
use Rattle.lua_lexer.specs.declared.stop.Stop.TheVariants.{At, Memory}
use Rattle.lua_lexer.specs.declared.fault.LexFault.TheVariants as f
use Rattle.lua_lexer.specs.View.{lex, marks, placed, IsFault, Fails, Answers}
use Rattle.lua_lexer.proofs.Standing.{read_end, read_spelled, read_fault}
use Rattle.lua_lexer.proofs.Places.{marked}

module _ (script : List ℕ) where
  pub step_lexes : (bs rest : List ℕ) (m : Mark) (ms : List Mark) → Step script bs m rest → LexesFrom script rest ms → LexesFrom script bs (m ∷ ms)
  step_lexes bs rest m [] s h = absurd h
  step_lexes bs rest m (n ∷ ms) s h = (rest, s, h)

  abbrev what_of : Lex × List ℕ → Lex
  what_of y = y.0

  pub turn_last : (bs here rest : List ℕ) (x : Lex) → Gap bs here → spelling here ≡ Ok (x, rest) → is_finish x ≡ true → LexesFrom script bs (mark script here x ∷ [])
  turn_last bs here rest x g e n =
      let h = read_end here x rest e n in
      record { gapped = subst (Gap bs) h.0 g; placed = ap (λ z. mark script z x) h.0 ∙ ap (mark script []) (ap what_of h.1) }

  pub turn_step : (bs here rest : List ℕ) (x : Lex) → Gap bs here → spelling here ≡ Ok (x, rest) → is_finish x ≡ false → Step script bs (mark script here x) rest
  turn_step bs here rest x g e n = record { here = here; gapped = g; spelled = read_spelled here x rest e n; placed = refl }

  pub turn_stuck : (bs here : List ℕ) (stop : Why × List ℕ) → Gap bs here → spelling here ≡ Err stop → Stuck bs stop
  turn_stuck bs here stop g e =
      let h = read_fault here stop e in
      record { here = here; gapped = g; no_end = h.0; no_spelling = h.1; blames = h.2 }

  -- ---- the turns of the code

  -- tokens of the rest of the script are tokens of the script after those found, and a fault of the rest is one of the script
  abbrev pub Goes : List Token → List ℕ → Type 0
  Goes found bs = (ms : List Mark) → LexesFrom script bs ms → Lexes script (marks found ++ ms)

  abbrev pub FailsRest : List ℕ → Why × List ℕ → Type 0
  FailsRest bs stop = (ms : List Mark) × FailsFrom script bs ms stop

  abbrev pub Stops : List ℕ → Type 0
  Stops bs = (stop : Why × List ℕ) → FailsRest bs stop → LexFails script stop

  pub goes_more : (found : List Token) (t : Token) (bs here rest : List ℕ) → Goes found bs → Gap bs here → spelling here ≡ Ok (lex t.what, rest) → is_finish (lex t.what) ≡ false
      → t.place.at ≡ place script here → t.place.line ≡ line script here → Goes (found ++ t ∷ []) rest
  goes_more found t bs here rest i g e n a l ms h =
      let m = mark script here (lex t.what) in
      let k = i (m ∷ ms) (step_lexes bs rest m ms (turn_step bs here rest (lex t.what) g e n) h) in
      subst (Lexes script) (sym (append_assoc (marks found) (m ∷ []) ms) ∙ ap (λ z. z ++ ms) (sym (marked found t script here (lex t.what) refl a l))) k

  pub stops_more : (bs here rest : List ℕ) (x : Lex) → Stops bs → Gap bs here → spelling here ≡ Ok (x, rest) → is_finish x ≡ false → Stops rest
  stops_more bs here rest x i g e n stop h = i stop (mark script here x ∷ h.0, (rest, turn_step bs here rest x g e n, h.1))

  pub goes_last : (found : List Token) (t : Token) (bs here rest : List ℕ) → Goes found bs → Gap bs here → spelling here ≡ Ok (lex t.what, rest) → is_finish (lex t.what) ≡ true
      → t.place.at ≡ place script here → t.place.line ≡ line script here → Lexes script (marks (found ++ t ∷ []))
  goes_last found t bs here rest i g e n a l =
      let m = mark script here (lex t.what) in
      subst (Lexes script) (sym (marked found t script here (lex t.what) refl a l)) (i (m ∷ []) (turn_last bs here rest (lex t.what) g e n))

  pub stops_read : (bs here : List ℕ) (stop : Stop) → Stops bs → Gap bs here → Fails (spelling here) stop → Answers script (Err stop)
  stops_read bs here Memory i g e = tt
  stops_read bs here (At w rest) i g e = i (w, rest.now) ([], turn_stuck bs here (w, rest.now) g e)

-- ---- faults

pub passed_on : (script : List ℕ) (r : Result (List Token) Stop) (e : Stop) → IsErrAnd r (λ z. z ≡ e) → Answers script (Err e) → Answers script r
passed_on script (Ok v) e k h = absurd k
passed_on script (Err x) e k h = subst (λ (z : Stop). Answers script (Err z)) (sym k) h

pub placed_fault : (script : List ℕ) (w : Why) (p : Place) (rest : List ℕ) → LexFails script (w, rest) → p.at ≡ place script rest → p.line ≡ line script rest → IsFault script (placed w p)
placed_fault script why.BadByte p rest h a l = (rest, h, a, l)
placed_fault script why.BadNumeral p rest h a l = (rest, h, a, l)
placed_fault script why.FloatNumeral p rest h a l = (rest, h, a, l)
placed_fault script why.BadEscape p rest h a l = (rest, h, a, l)
placed_fault script why.OpenString p rest h a l = (rest, h, a, l)
placed_fault script why.OpenComment p rest h a l = (rest, h, a, l)

pub not_long : (w : Why) (p : Place) → placed w p ≡ f.TooLong → ⊥
not_long why.BadByte p e = cc
not_long why.BadNumeral p e = cc
not_long why.FloatNumeral p e = cc
not_long why.BadEscape p e = cc
not_long why.OpenString p e = cc
not_long why.OpenComment p e = cc

pub ruleset fault_rules = (placed_fault, not_long)

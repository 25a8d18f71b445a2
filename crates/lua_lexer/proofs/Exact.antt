-- Each script has one list of tokens or one fault.
use Rattle.std.proofs.Common.{◌≡◌, ◌≢◌, refl, sym, ◌∙◌, ap, subst, ℕ, zero, suc, ◌<◌, Bool, true, false, if◌then◌else◌, nat_eq, ◌&&◌, List, [], ◌∷◌, length, Option, Some, None, Ok, Err, arith}
use Rattle.std.proofs.lemmas.Bool.{eqb-true}
use Rattle.lua_lexer.specs.declared.stop.Why.{Why}
use Rattle.lua_lexer.specs.Bytes.{is_blank}
use Rattle.lua_lexer.specs.Spellings.{dashes}
use Rattle.lua_lexer.specs.Tokens.{Lex, finish, Skips, none, blank, remark, Gap, begins_blank, comment_behind, comment_here, Mark, mark, Step, Last, LexesFrom, past_first, Stuck, FailsFrom, OneAnswer, list, fault}
use Rattle.lua_lexer.specs.Reading.{Outcome, Stop, spelling, is_finish}
use Rattle.lua_lexer.proofs.Gaps.{dashes_short, comment_short}
use Rattle.lua_lexer.proofs.Standing.{spelled_read, no_finish_spelled, read_end, read_fault, blamed_read}
use Rattle.lua_lexer.proofs.Places.{gap_within, token_shorter}
use Rattle.lua_lexer.proofs.Turns.{step_lexes, turn_last, turn_step, turn_stuck}

-- ---- one gap

-- what stands after the one blank or comment that stands here
abbrev next : List ℕ → Option (List ℕ)
next [] = None
next (b ∷ bs) = if is_blank b then Some bs else comment_here (b ∷ bs)

abbrev bytes_of : Option (List ℕ) → List ℕ
bytes_of None = []
bytes_of (Some x) = x

abbrev after : (List ℕ → List ℕ) → List ℕ → Option (List ℕ) → List ℕ
after more bs None = bs
after more bs (Some c) = more c

unfoldable walk : ℕ → List ℕ → List ℕ
walk zero bs = bs
walk (suc n) bs = after (walk n) bs (next bs)

comment_by : (bs c : List ℕ) (o : Option (List ℕ)) → dashes bs ≡ o → comment_behind o ≡ Some c → length c < length bs
comment_by bs c None d e = cc
comment_by bs c (Some inside) d e = omega (arith, dashes_short bs inside d, comment_short inside c e)

next_by : (b : ℕ) (bs c : List ℕ) (v : Bool) → (if v then Some bs else comment_here (b ∷ bs)) ≡ Some c → length c < length (b ∷ bs)
next_by b bs c true e = let h : bs ≡ c = ap bytes_of e in omega (arith, ap length h)
next_by b bs c false e = comment_by (b ∷ bs) c (dashes (b ∷ bs)) refl e

next_short : (bs c : List ℕ) → next bs ≡ Some c → length c < length bs
next_short [] c e = cc
next_short (b ∷ bs) c e = next_by b bs c (is_blank b) e

comment_next : (bs : List ℕ) → begins_blank bs ≡ false → next bs ≡ comment_here bs
comment_next [] e = refl
comment_next (b ∷ bs) e = rw e refl

dash_first : (bs inside : List ℕ) → dashes bs ≡ Some inside → begins_blank bs ≡ false
dash_first [] inside e = cc
dash_first (b ∷ []) inside e = cc
dash_first (b ∷ c ∷ bs) inside e = by (nat_eq b 45) refl e
  where
    by : (v : Bool) → nat_eq b 45 ≡ v → (if v && nat_eq c 45 then Some bs else None) ≡ Some inside → is_blank b ≡ false
    by true n h = ap is_blank (eqb-true b 45 n)
    by false n h = cc

walk_stays : (n : ℕ) (bs : List ℕ) → next bs ≡ None → walk n bs ≡ bs
unfolding walk
walk_stays zero bs e = refl
walk_stays (suc n) bs e = ap (after (walk n) bs) e

walk_goes : (n : ℕ) (bs c : List ℕ) → next bs ≡ Some c → walk (suc n) bs ≡ walk n c
unfolding walk
walk_goes n bs c e = ap (after (walk n) bs) e

walked : (n : ℕ) (bs here : List ℕ) → length bs < n → next here ≡ None → Skips bs here → walk n bs ≡ here
walked zero bs here lt e h = absurd (omega (arith, lt))
walked (suc n) _ _ lt e (none bs) = walk_stays (suc n) bs e
walked (suc n) _ _ lt e (blank b bs here f h) =
    walk_goes n (b ∷ bs) bs (rw f refl) ∙ walked n bs here (omega (arith, lt)) e h
walked (suc n) _ _ lt e (remark bs inside behind here d c h) =
    let k : next bs ≡ Some behind = comment_next bs (dash_first bs inside d) ∙ ap comment_behind d ∙ c in
    walk_goes n bs behind k ∙ walked n behind here (omega (arith, lt, next_short bs behind k)) e h

gap_next : (bs here : List ℕ) → Gap bs here → next here ≡ None
gap_next bs here g = comment_next here g.no_blank ∙ g.no_comment

-- the gap of these bytes
gap_of : List ℕ → List ℕ
gap_of bs = walk (suc (length bs)) bs

gap_is : (bs here : List ℕ) → Gap bs here → gap_of bs ≡ here
unfolding gap_of
gap_is bs here g = walked (suc (length bs)) bs here (omega arith) (gap_next bs here g) g.skips

gap_same : (bs here other : List ℕ) → Gap bs here → Gap bs other → here ≡ other
gap_same bs here other g h = sym (gap_is bs here g) ∙ gap_is bs other h

remark_by : (bs c here : List ℕ) (o : Option (List ℕ)) → dashes bs ≡ o → comment_behind o ≡ Some c → Skips c here → Skips bs here
remark_by bs c here None d e h = cc
remark_by bs c here (Some inside) d e h = remark bs inside c here d e h

skip_by : (b : ℕ) (bs c here : List ℕ) (v : Bool) → is_blank b ≡ v → (if v then Some bs else comment_here (b ∷ bs)) ≡ Some c → Skips c here → Skips (b ∷ bs) here
skip_by b bs c here true f e h = blank b bs here f (subst (λ (z : List ℕ). Skips z here) (sym (ap bytes_of e)) h)
skip_by b bs c here false f e h = remark_by (b ∷ bs) c here (dashes (b ∷ bs)) refl e h

skip_next : (bs c here : List ℕ) → next bs ≡ Some c → Skips c here → Skips bs here
skip_next [] c here e h = cc
skip_next (b ∷ bs) c here e h = skip_by b bs c here (is_blank b) refl e h

gap_behind : (bs c here : List ℕ) → next bs ≡ Some c → Gap c here → Gap bs here
gap_behind bs c here e g = record { skips = skip_next bs c here e g.skips; no_blank = g.no_blank; no_comment = g.no_comment }

ends_by : (b : ℕ) (bs : List ℕ) (v : Bool) → is_blank b ≡ v → (if v then Some bs else comment_here (b ∷ bs)) ≡ None → (is_blank b ≡ false) × (comment_here (b ∷ bs) ≡ None)
ends_by b bs true f e = cc
ends_by b bs false f e = (f, e)

gap_ends : (bs : List ℕ) → next bs ≡ None → Gap bs bs
gap_ends [] e = record { skips = none []; no_blank = refl; no_comment = refl }
gap_ends (b ∷ bs) e = let h = ends_by b bs (is_blank b) refl e in record { skips = none (b ∷ bs); no_blank = h.0; no_comment = h.1 }

-- each place has a gap
some_gap_by : (n : ℕ) (bs : List ℕ) → length bs < suc n → ((c : List ℕ) → length c < n → (here : List ℕ) × Gap c here) → (o : Option (List ℕ)) → next bs ≡ o → (here : List ℕ) × Gap bs here
some_gap_by n bs lt ih None e = (bs, gap_ends bs e)
some_gap_by n bs lt ih (Some c) e = let h = ih c (omega (arith, lt, next_short bs c e)) in (h.0, gap_behind bs c h.0 e h.1)

some_gap_in : (n : ℕ) (bs : List ℕ) → length bs < n → (here : List ℕ) × Gap bs here
some_gap_in zero bs lt = absurd (omega (arith, lt))
some_gap_in (suc n) bs lt = some_gap_by n bs lt (some_gap_in n) (next bs) refl

some_gap : (bs : List ℕ) → (here : List ℕ) × Gap bs here
some_gap bs = some_gap_in (suc (length bs)) bs (omega arith)

-- ---- one answer

module _ (script : List ℕ) where
  -- the tokens of the rest of the script, or its fault, and nothing else
  data From (bs : List ℕ) : Type 0 where
    listed : (ms : List Mark) → LexesFrom script bs ms → ((ns : List Mark) → LexesFrom script bs ns → ns ≡ ms) → ((ns : List Mark) (stop : Why × List ℕ) → FailsFrom script bs ns stop → ⊥) → From bs
    failed : (ms : List Mark) (stop : Why × List ℕ) → FailsFrom script bs ms stop → ((ns : List Mark) (other : Why × List ℕ) → FailsFrom script bs ns other → other ≡ stop) → ((ns : List Mark) → LexesFrom script bs ns → ⊥) → From bs

  step_read : (bs here rest : List ℕ) (m : Mark) → Gap bs here → Step script bs m rest → (spelling here ≡ Ok (m.what, rest)) × (m ≡ mark script here m.what) × (is_finish m.what ≡ false)
  step_read bs here rest m g s =
      let e : s.here ≡ here = gap_same bs s.here here s.gapped g in
      (ap spelling (sym e) ∙ spelled_read s.here m.what rest s.spelled, s.placed ∙ ap (λ z. mark script z m.what) e, no_finish_spelled s.here m.what rest s.spelled)

  stuck_read : (bs here : List ℕ) (stop : Stop) → Gap bs here → Stuck bs stop → (spelling here ≡ Err stop) × (here ≢ [])
  stuck_read bs here stop g s =
      let e : s.here ≡ here = gap_same bs s.here here s.gapped g in
      (ap spelling (sym e) ∙ blamed_read s.here stop s.no_end s.no_spelling s.blames, λ f. s.no_end (e ∙ f))

  -- ---- at the end

  not_both : false ≡ true → ⊥
  not_both h = cc

  abbrev end_flag : Outcome Lex → Bool
  end_flag (Ok y) = is_finish y.0
  end_flag (Err stop) = false

  end_step : (bs here rest more : List ℕ) (x : Lex) (m : Mark) → Gap bs here → spelling here ≡ Ok (x, more) → is_finish x ≡ true → Step script bs m rest → ⊥
  end_step bs here rest more x m g e n s =
      let h = step_read bs here rest m g s in
      not_both (sym h.2 ∙ ap end_flag (sym h.0 ∙ e) ∙ n)

  end_stuck : (bs here more : List ℕ) (x : Lex) (stop : Stop) → Gap bs here → spelling here ≡ Ok (x, more) → is_finish x ≡ true → Stuck bs stop → ⊥
  end_stuck bs here more x stop g e n s = (stuck_read bs here stop g s).1 (read_end here x more e n).0

  end_lexes : (bs here more : List ℕ) (x : Lex) → Gap bs here → spelling here ≡ Ok (x, more) → is_finish x ≡ true → (ns : List Mark) → LexesFrom script bs ns → ns ≡ mark script [] finish ∷ []
  end_lexes bs here more x g e n [] h = absurd h
  end_lexes bs here more x g e n (m ∷ []) h = ap (λ z. z ∷ []) h.placed
  end_lexes bs here more x g e n (m ∷ k ∷ ns) h = absurd (end_step bs here h.0 more x m g e n h.1)

  end_fails : (bs here more : List ℕ) (x : Lex) → Gap bs here → spelling here ≡ Ok (x, more) → is_finish x ≡ true → (ns : List Mark) (stop : Stop) → FailsFrom script bs ns stop → ⊥
  end_fails bs here more x g e n [] stop h = end_stuck bs here more x stop g e n h
  end_fails bs here more x g e n (m ∷ ns) stop h = end_step bs here h.0 more x m g e n h.1

  at_end : (bs here more : List ℕ) (x : Lex) → Gap bs here → spelling here ≡ Ok (x, more) → is_finish x ≡ true → From bs
  at_end bs here more x g e n =
      let l = turn_last script bs here more x g e n in
      listed (mark script here x ∷ []) l (λ ns h. end_lexes bs here more x g e n ns h ∙ sym (end_lexes bs here more x g e n (mark script here x ∷ []) l)) (end_fails bs here more x g e n)

  -- ---- at a token

  abbrev rest_of : Outcome Lex → List ℕ
  rest_of (Ok y) = y.1
  rest_of (Err stop) = []

  abbrev lex_of : Outcome Lex → Lex
  lex_of (Ok y) = y.0
  lex_of (Err stop) = finish

  token_step : (bs here rest more : List ℕ) (x : Lex) (m : Mark) → Gap bs here → spelling here ≡ Ok (x, more) → Step script bs m rest → (m ≡ mark script here x) × (rest ≡ more)
  token_step bs here rest more x m g e s =
      let h = step_read bs here rest m g s in
      let k = sym h.0 ∙ e in
      (h.1 ∙ ap (mark script here) (ap lex_of k), ap rest_of k)

  no_stuck : (here : List ℕ) (x : Lex) (more : List ℕ) (stop : Stop) → spelling here ≡ Ok (x, more) → spelling here ≡ Err stop → ⊥
  no_stuck here x more stop e f = let h : ◌≡◌ {A = Outcome Lex} (Ok (x, more)) (Err stop) = sym e ∙ f in cc

  token_last : (bs here more : List ℕ) (x : Lex) (m : Mark) → Gap bs here → spelling here ≡ Ok (x, more) → is_finish x ≡ false → Last script bs m → ⊥
  unfolding spelling
  token_last bs here more x m g e n l =
      let f : here ≡ [] = gap_same bs here [] g l.gapped in
      let k : end_flag (spelling []) ≡ true = refl in
      not_both (sym n ∙ ap end_flag (sym e ∙ ap spelling f) ∙ k)

  token_lexes : (bs here more : List ℕ) (x : Lex) → Gap bs here → spelling here ≡ Ok (x, more) → is_finish x ≡ false → (ns : List Mark) → LexesFrom script bs ns → (ms : List Mark) × (ns ≡ mark script here x ∷ ms) × LexesFrom script more ms
  token_lexes bs here more x g e n [] h = absurd h
  token_lexes bs here more x g e n (m ∷ []) h = absurd (token_last bs here more x m g e n h)
  token_lexes bs here more x g e n (m ∷ k ∷ ns) h =
      let t = token_step bs here h.0 more x m g e h.1 in
      (k ∷ ns, ap (λ z. z ∷ k ∷ ns) t.0, subst (λ (z : List ℕ). LexesFrom script z (k ∷ ns)) t.1 h.2)

  token_fails : (bs here more : List ℕ) (x : Lex) → Gap bs here → spelling here ≡ Ok (x, more) → (ns : List Mark) (stop : Stop) → FailsFrom script bs ns stop → (ms : List Mark) × FailsFrom script more ms stop
  token_fails bs here more x g e [] stop h = absurd (no_stuck here x more stop e (stuck_read bs here stop g h).0)
  token_fails bs here more x g e (m ∷ ns) stop h =
      let t = token_step bs here h.0 more x m g e h.1 in
      (ns, subst (λ (z : List ℕ). FailsFrom script z ns stop) t.1 h.2)

  at_token : (bs here more : List ℕ) (x : Lex) → Gap bs here → spelling here ≡ Ok (x, more) → is_finish x ≡ false → From more → From bs
  at_token bs here more x g e n (listed ms h one others) =
      let s = turn_step script bs here more x g e n in
      listed (mark script here x ∷ ms) (step_lexes script bs more (mark script here x) ms s h)
      (λ ns l. let t = token_lexes bs here more x g e n ns l in t.1 ∙ ap (λ z. mark script here x ∷ z) (one t.0 t.2))
      (λ ns stop f. let t = token_fails bs here more x g e ns stop f in others t.0 stop t.1)
  at_token bs here more x g e n (failed ms stop h one others) =
      let s = turn_step script bs here more x g e n in
      failed (mark script here x ∷ ms) stop (more, s, h)
      (λ ns other f. let t = token_fails bs here more x g e ns other f in one t.0 other t.1)
      (λ ns l. let t = token_lexes bs here more x g e n ns l in others t.0 t.2)

  -- ---- at a fault

  abbrev stop_of : Stop → Outcome Lex → Stop
  stop_of d (Ok y) = d
  stop_of d (Err stop) = stop

  fault_step : (bs here rest : List ℕ) (stop : Stop) (m : Mark) → Gap bs here → spelling here ≡ Err stop → Step script bs m rest → ⊥
  fault_step bs here rest stop m g e s = no_stuck here m.what rest stop (step_read bs here rest m g s).0 e

  fault_fails : (bs here : List ℕ) (stop : Stop) → Gap bs here → spelling here ≡ Err stop → (ns : List Mark) (other : Stop) → FailsFrom script bs ns other → other ≡ stop
  fault_fails bs here stop g e [] other h = ap (stop_of stop) (sym (stuck_read bs here other g h).0 ∙ e)
  fault_fails bs here stop g e (m ∷ ns) other h = absurd (fault_step bs here h.0 stop m g e h.1)

  fault_lexes : (bs here : List ℕ) (stop : Stop) → Gap bs here → spelling here ≡ Err stop → (ns : List Mark) → LexesFrom script bs ns → ⊥
  fault_lexes bs here stop g e [] h = h
  fault_lexes bs here stop g e (m ∷ []) h = (read_fault here stop e).0 (gap_same bs here [] g h.gapped)
  fault_lexes bs here stop g e (m ∷ k ∷ ns) h = fault_step bs here h.0 stop m g e h.1

  at_fault : (bs here : List ℕ) (stop : Stop) → Gap bs here → spelling here ≡ Err stop → From bs
  at_fault bs here stop g e = failed [] stop (turn_stuck script bs here stop g e) (fault_fails bs here stop g e) (fault_lexes bs here stop g e)

  -- ---- everywhere

  from_token : (n : ℕ) (bs here more : List ℕ) (x : Lex) → length bs < suc n → ((cs : List ℕ) → length cs < n → From cs) → Gap bs here → spelling here ≡ Ok (x, more) → (v : Bool) → is_finish x ≡ v → From bs
  from_token n bs here more x lt ih g e true f = at_end bs here more x g e f
  from_token n bs here more x lt ih g e false f = at_token bs here more x g e f (ih more (omega (arith, lt, gap_within bs here g, token_shorter x here more e f)))

  from_by : (n : ℕ) (bs here : List ℕ) → length bs < suc n → ((cs : List ℕ) → length cs < n → From cs) → Gap bs here → (r : Outcome Lex) → spelling here ≡ r → From bs
  from_by n bs here lt ih g (Err stop) e = at_fault bs here stop g e
  from_by n bs here lt ih g (Ok y) e = from_token n bs here y.1 y.0 lt ih g e (is_finish y.0) refl

  from_in : (n : ℕ) (bs : List ℕ) → length bs < n → From bs
  from_in zero bs lt = absurd (omega (arith, lt))
  from_in (suc n) bs lt = let g = some_gap bs in from_by n bs g.0 lt (from_in n) g.1 (spelling g.0) refl

  one_by : From (past_first script) → OneAnswer script
  one_by (listed ms h one others) = list ms h one (λ stop f. others f.0 stop f.1)
  one_by (failed ms stop h one others) = fault stop (ms, h) (λ other f. one f.0 other f.1) others

  pub one_answer : OneAnswer script
  one_answer = one_by (from_in (suc (length (past_first script))) (past_first script) (omega arith))

-- What a step over a part of a script finds, as visibility gives it.
use Rattle.std.proofs.Common.{◌≡◌, ◌∙◌, refl, ap, sym, subst, ℕ, suc, Bool, true, false, nat_lt, List, [], ◌∷◌, ◌++◌, length, map, take, slice_get, slice_set, Option, Some, None, if◌then◌else◌, append_assoc}
use Rattle.std.proofs.lemmas.List.{append-nil}
use Rattle.std.proofs.Math.ListN.{length-map}
use Rattle.lua_tokens.specs.declared.place.Place.{Place}
use Rattle.lua_scope.specs.declared.scopes.Local.{Local}
use Rattle.lua_scope.specs.declared.survey.Survey.{Survey}
use Rattle.lua_scope.specs.Labels.{Outline}
use Rattle.lua_scope.specs.Visible.{last_named}
use Rattle.lua_scope.specs.Survey.{Step, added, referred_to, noted, mentioned, declared, passed_label, opened, begun, in_loop, ended, outer, entered, passed, exited}
use Rattle.lua_scope.specs.Survey as survey
use Rattle.lua_scope.specs.Walk as walk
use Rattle.lua_scope.specs.Walk.{all_declared, locals_declared, nested, looped}
use Rattle.lua_scope.specs.Binding as binding
use Rattle.lua_scope.specs.Binding.{Bytes, Names, Named, none, joined, Uses, nothing, both, each, referred, name, of_outer, all_added, once, captured, is_in, cells_from, function, Part, under, declaring, variables, locals}
use Rattle.lua_scope.proofs.AddsLemmas.{Adds, adds_none, adds_both, adds_end, adds_names}
use Rattle.lua_scope.proofs.BindingLemmas.{Within, within, innermost_is}
use Rattle.lua_scope.proofs.CellLemmas.{Cells, cells_none, cells_both, cells_outer, cells_own, cells_declared, cells_ended, cells_left}
use Rattle.lua_scope.proofs.OnceLemmas.{all_added-append, of_outer-append, passed_once}

-- ---- what a step finds

abbrev pub names : Survey → Names
names s = map (λ l. l.name) s.locals

abbrev pub Grows : Survey → Named → Names → Survey → Type 0
Grows s u ns t =
    (Adds ns s.locals t.locals) × (t.function ≡ s.function)
    × (t.captures ≡ all_added (of_outer s.function.start u.places) s.captures) × (t.bodies ≡ s.bodies ++ u.captures)
    × (t.names ≡ s.names ++ u.names)
    × Cells s.function.start s.locals s.captured u t.locals t.captured

pub names_grown : (s t : Survey) (ms : Names) → Adds ms s.locals t.locals → names t ≡ names s ++ ms
names_grown s t ms p = adds_names ms s.locals t.locals p

pub grows_both : (s t w : Survey) (u v : Named) (ms ns : Names) → Grows s u ms t → Grows t v ns w → Grows s (joined u v) (ms ++ ns) w
grows_both s t w u v ms ns p q = (
  adds_both ms ns s.locals t.locals w.locals p.0 q.0,
  q.1 ∙ p.1,
  q.2 ∙ ap (λ i. all_added (of_outer i.start v.places) t.captures) p.1 ∙ ap (all_added (of_outer s.function.start v.places)) p.2
      ∙ sym (all_added-append (of_outer s.function.start u.places) (of_outer s.function.start v.places) s.captures)
      ∙ ap (λ xs. all_added xs s.captures) (sym (of_outer-append s.function.start u.places v.places)),
  q.3 ∙ ap (λ x. x ++ v.captures) p.3 ∙ append_assoc s.bodies u.captures v.captures,
  q.4 ∙ ap (λ x. x ++ v.names) p.4 ∙ append_assoc s.names u.names v.names,
  cells_both s.function.start s.locals t.locals w.locals s.captured t.captured w.captured u v p.5
      (subst (λ i. Cells i.start t.locals t.captured v w.locals w.captured) p.1 q.5),
)

pub grows_none : (s : Survey) → Grows s none [] s
grows_none s =
    let more = cells_none s.function.start s.locals s.captured in
    (adds_none s.locals s.locals refl, refl, refl, sym (append-nil s.bodies), sym (append-nil s.names), more)

pub after_both : (s : Survey) (u v : Named) (ms ns : Names) (r : Survey) (g : Step) → Grows s u ms r → ((t : Survey) → names t ≡ names s ++ ms → Grows t v ns (g t)) → Grows s (joined u v) (ms ++ ns) (g r)
after_both s u v ms ns r g p q = grows_both s r (g r) u v ms ns p (q r (names_grown s r ms p.0))

-- a step that declares nothing
abbrev pub Finds : Uses → Step → Type 0
Finds p f = (s : Survey) → Grows s (p (names s)) [] (f s)

-- a statement, or a block without its end
abbrev pub Binds : Part → Step → Type 0
Binds p f = (s : Survey) → Grows s (p.uses (names s)) p.locals (f s)

pub finds_from : (p q : Uses) (f g : Step) → p ≡ q → f ≡ g → Finds q g → Finds p f
finds_from p q f g e d h = subst (λ r. Finds r f) (sym e) (subst (λ r. Finds q r) (sym d) h)

pub binds_from : (p q : Part) (f g : Step) → p ≡ q → f ≡ g → Binds q g → Binds p f
binds_from p q f g e d h = subst (λ r. Binds r f) (sym e) (subst (λ r. Binds q r) (sym d) h)

pub nothing_found : Finds nothing walk.nothing
nothing_found s = grows_none s

-- a label is passed
pub label_found : (n : Bytes) → Finds nothing (passed_label n)
label_found n s = grows_none s

-- the statements of a block begin
pub opened_found : (r : Bool) (os : List Outline) (p : Part) (f : Step) → Binds p f → Binds p (λ s. f (opened r os s))
opened_found r os p f h s = h (opened r os s)

-- after locals that were declared
pub finds_under : (ns : Names) (q : Uses) (s t : Survey) (g : Step) → names t ≡ names s ++ ns → Finds q g → Grows t (under ns q (names s)) [] (g t)
finds_under ns q s t g e h = subst (λ n. Grows t (q n) [] (g t)) e (h t)

pub binds_under : (ns : Names) (q : Part) (s t : Survey) (g : Step) → names t ≡ names s ++ ns → Binds q g → Grows t (under ns q.uses (names s)) q.locals (g t)
binds_under ns q s t g e h = subst (λ n. Grows t (q.uses n) q.locals (g t)) e (h t)

pub both_found : (p q : Uses) (f g : Step) → Finds p f → Finds q g → Finds (both p q) (walk.then f g)
both_found p q f g hp hq s =
    after_both s (p (names s)) (q (names s)) [] [] (f s) g (hp s) (λ t e. subst (λ n. Grows t (q n) [] (g t)) (e ∙ append-nil (names s)) (hq t))

pub each_found : {E : Type 0} (u : E → Uses) (f : E → Step) (es : List ((e : E) × Finds (u e) (f e))) → Finds (each (map u (map (λ p. p.0) es))) (walk.each (map f (map (λ p. p.0) es)))
each_found u f [] s = grows_none s
each_found u f (e ∷ es) s = both_found (u e.0) (each (map u (map (λ p. p.0) es))) (f e.0) (walk.each (map f (map (λ p. p.0) es))) e.1 (each_found u f es) s

-- ---- a name

pub local_case : (s : Survey) (at : ℕ) (l : Local) → slice_get s.locals at ≡ Some l
    → Grows s (referred (Some at)) [] (referred_to (Some l) at (noted (Some at) s))
local_case s at l is = by (nat_lt at s.function.start) refl
  where
    by : (c : Bool) → nat_lt at s.function.start ≡ c
        → (λ (w : Survey). (Adds [] s.locals w.locals) × (w.function ≡ s.function)
        × (w.captures ≡ all_added (if c then at ∷ [] else []) s.captures) × (w.bodies ≡ s.bodies ++ [])
        × (w.names ≡ s.names ++ Some at ∷ [])
        × Cells s.function.start s.locals s.captured (referred (Some at)) w.locals w.captured)
        (if c
        then record (noted (Some at) s) { captured = slice_set s.captured l.number true; captures = added at s.captures }
        else noted (Some at) s)
    by true e =
        let more = cells_outer s.function.start at l s.locals s.captured is e in
        (adds_none s.locals s.locals refl, refl, refl, sym (append-nil s.bodies), refl, more)
    by false e =
        let more = cells_own s.function.start at s.locals s.captured e in
        (adds_none s.locals s.locals refl, refl, refl, sym (append-nil s.bodies), refl, more)

pub found_case : (s : Survey) (o : Option ℕ) → Within s.locals o
    → Grows s (referred o) [] (survey.found o (noted o s))
found_case s None w =
    let more = cells_none s.function.start s.locals s.captured in
    (adds_none s.locals s.locals refl, refl, refl, sym (append-nil s.bodies), refl, more)
found_case s (Some at) w =
    subst (λ l. Grows s (referred (Some at)) [] (referred_to l at (noted (Some at) s))) (sym w.1) (local_case s at w.0 w.1)

pub name_found : (n : Bytes) → Finds (name n) (mentioned n)
name_found n s = subst (λ o. Grows s (referred o) [] (mentioned n s)) (sym (innermost_is n s.locals)) (found_case s (last_named n s.locals) (within n s.locals))

-- ---- declarations

pub one_declared : (n : Bytes) (c : Bool) (s : Survey) → Grows s (binding.declared (n ∷ []) (names s)) (n ∷ []) (declared n c s)
one_declared n c s = (
  (_ ∷ [], refl, refl),
  refl,
  refl,
  sym (append-nil s.bodies),
  sym (append-nil s.names),
  cells_declared s.function.start (length (names s))
      (record { name = n; constant = c; number = length s.captured }) s.locals s.captured (length-map s.locals (λ l. l.name)) refl,
)

length_more : (visible : Names) (n : Bytes) → length (visible ++ n ∷ []) ≡ suc (length visible)
length_more [] n = refl
length_more (m ∷ visible) n = ap suc (length_more visible n)

declared_both : (n : Bytes) (ns : Names) (visible : Names)
    → joined (binding.declared (n ∷ []) visible) (binding.declared ns (visible ++ n ∷ [])) ≡ binding.declared (n ∷ ns) visible
declared_both n ns visible =
    ap (λ k. record {
      names = [];
      places = [];
      captures = [];
      cells = λ behind. is_in (length visible) behind ∷ cells_from k ns behind;
    }) (length_more visible n)

-- one is declared, and then others
declared_more : (n : Bytes) (c : Bool) (ns : Names) (d : Step) (s : Survey)
    → ((t : Survey) → Grows t (binding.declared ns (names t)) ns (d t))
    → Grows s (binding.declared (n ∷ ns) (names s)) (n ∷ ns) (d (declared n c s))
declared_more n c ns d s h =
    subst (λ u. Grows s u (n ∷ ns) (d (declared n c s))) (declared_both n ns (names s))
    (after_both s (binding.declared (n ∷ []) (names s)) (binding.declared ns (names s ++ n ∷ [])) (n ∷ []) ns (declared n c s) d
    (one_declared n c s)
    (λ t e. subst (λ visible. Grows t (binding.declared ns visible) ns (d t)) e (h t)))

pub variables_declared : (ns : List (Bytes × Place)) (s : Survey)
    → Grows s (binding.declared (variables ns) (names s)) (variables ns) (all_declared ns s)
variables_declared [] s = grows_none s
variables_declared (n ∷ ns) s = declared_more n.0 false (variables ns) (all_declared ns) s (variables_declared ns)

pub named_declared : (ns : List (Bytes × Bool × Place)) (s : Survey)
    → Grows s (binding.declared (locals ns) (names s)) (locals ns) (locals_declared ns s)
named_declared [] s = grows_none s
named_declared (n ∷ ns) s = declared_more n.0 n.1 (locals ns) (locals_declared ns) s (named_declared ns)

-- ---- blocks

cells_closed : (s : Survey) (u : Named) (ns : Names) (t : Survey) → Adds ns s.locals t.locals
    → Cells s.function.start s.locals s.captured u t.locals t.captured
    → Cells s.function.start s.locals s.captured (binding.ended u) (take (length s.locals) t.locals) t.captured
cells_closed s u ns t more h =
    subst (λ ls. Cells s.function.start s.locals s.captured (binding.ended u) ls t.captured)
    (sym (adds_end ns s.locals t.locals more))
    (cells_ended s.function.start ns s.locals t.locals s.captured t.captured u more h)

pub block_closed : (s : Survey) (u : Named) (ns : Names) (t : Survey) → Grows s u ns t → Grows s (binding.ended u) [] (ended (begun s) t)
block_closed s u ns t p =
    let gone = adds_none s.locals (take (length s.locals) t.locals) (adds_end ns s.locals t.locals p.0) in
    (gone, refl, p.2, p.3, p.4, cells_closed s u ns t p.0 p.5)

pub loop_closed : (s : Survey) (u : Named) (ns : Names) (t : Survey) → Grows (in_loop s) u ns t → Grows s (binding.ended u) [] (ended (begun s) t)
loop_closed s u ns t p =
    let gone = adds_none s.locals (take (length s.locals) t.locals) (adds_end ns s.locals t.locals p.0) in
    (gone, refl, p.2, p.3, p.4, cells_closed s u ns t p.0 p.5)

pub nested_found : (p : Part) (f : Step) → Binds p f → Finds (binding.closed p.uses) (nested f)
nested_found p f h s = block_closed s (p.uses (names s)) p.locals (f s) (h s)

pub looped_found : (p : Part) (f : Step) → Binds p f → Finds (binding.closed p.uses) (looped f)
looped_found p f h s = loop_closed s (p.uses (names s)) p.locals (f (in_loop s)) (h (in_loop s))

-- after declared variables
abbrev pub after_variables : Names → Part → Part
after_variables ns p = record { uses = declaring ns p.uses; locals = ns ++ p.locals }

pub declared_found : (ns : Names) (p : Part) (d f : Step) → ((s : Survey) → Grows s (binding.declared ns (names s)) ns (d s))
    → Binds p f → Binds (after_variables ns p) (walk.then d f)
declared_found ns p d f hd hf s =
    after_both s (binding.declared ns (names s)) (under ns p.uses (names s)) ns p.locals (d s) f (hd s)
    (λ t e. binds_under ns p s t f e hf)

-- ---- a function body

pub set_at_end : {X : Type 0} (xs ys : List X) (y z : X) → slice_set ((xs ++ y ∷ []) ++ ys) (length xs) z ≡ xs ++ z ∷ ys
set_at_end [] ys y z = refl
set_at_end (x ∷ xs) ys y z = ap (λ l. x ∷ l) (set_at_end xs ys y z)

-- what stands when the block of a body has ended
pub body_left : (s : Survey) (vararg : Bool) (u : Named) (ns : Names) (t : Survey) → Grows (entered vararg s) u ns t
    → Grows s (captured (length (names s)) u) [] (exited (outer s) t)
body_left s vararg u ns t p =
    let counts : length s.locals ≡ length (names s) = sym (length-map s.locals (λ l. l.name)) in
    let own : t.captures ≡ once (of_outer (length (names s)) u.places) = p.2 ∙ ap (λ n. all_added (of_outer n u.places) []) counts in
    let at : t.function.body ≡ length s.bodies = ap (λ i. i.body) p.1 in (
      adds_none s.locals (take (length s.locals) t.locals) (adds_end ns s.locals t.locals p.0),
      refl,
      ap (λ c. passed s.function.start c s.captures) own ∙ passed_once s.function.start (of_outer (length (names s)) u.places) s.captures,
      ap (λ b. slice_set b t.function.body t.captures) p.3 ∙ ap (λ n. slice_set ((s.bodies ++ [] ∷ []) ++ u.captures) n t.captures) at
          ∙ set_at_end s.bodies u.captures [] t.captures ∙ ap (λ c. s.bodies ++ c ∷ u.captures) own,
      p.4,
      subst (λ ls. Cells s.function.start s.locals s.captured (captured (length (names s)) u) ls t.captured)
          (sym (adds_end ns s.locals t.locals p.0))
          (cells_left s.function.start (length (names s)) ns s.locals t.locals s.captured t.captured u (sym counts) p.0
          (subst (λ n. Cells n s.locals s.captured u t.locals t.captured) counts p.5)),
    )

pub body_found : (params : List (Bytes × Place)) (vararg : Bool) (p : Part) (f : Step) → Binds p f
    → Finds (function (variables params) p.uses) (λ s. exited (outer s) (f (all_declared params (entered vararg s))))
body_found params vararg p f h s =
    body_left s vararg (declaring (variables params) p.uses (names s)) (variables params ++ p.locals) (f (all_declared params (entered vararg s)))
    (declared_found (variables params) p (all_declared params) f (variables_declared params) h (entered vararg s))

-- ---- parts of statements

pub repeat_found : (p : Part) (f : Step) (u : Uses) (g : Step) → Binds p f → Finds u g
    → Finds (binding.closed (both p.uses (under p.locals u))) (looped (walk.then f g))
repeat_found p f u g hf hg = looped_found (record { uses = both p.uses (under p.locals u); locals = p.locals ++ [] }) (walk.then f g)
    (λ s. after_both s (p.uses (names s)) (under p.locals u (names s)) p.locals [] (f s) g (hf s) (λ t e. finds_under p.locals u s t g e hg))

pub loop_found : (ns : Names) (p : Part) (d f : Step) → ((s : Survey) → Grows s (binding.declared ns (names s)) ns (d s))
    → Binds p f → Finds (binding.closed (declaring ns p.uses)) (looped (walk.then d f))
loop_found ns p d f hd hf = looped_found (after_variables ns p) (walk.then d f) (declared_found ns p d f hd hf)

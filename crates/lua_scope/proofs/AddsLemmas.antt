-- Locals that are visible behind others.
use Rattle.std.proofs.Common.{◌≡◌, ◌∙◌, refl, ap, sym, List, [], ◌++◌, length, map, take, append_assoc}
use Rattle.std.proofs.lemmas.List.{append-nil, map-append}
use Rattle.std.proofs.Math.Seq.{take-append_seam}
use Rattle.lua_scope.specs.declared.scopes.Local.{Local}
use Rattle.lua_scope.specs.Binding.{Names}

-- a value with what is known of it
abbrev pub Such : (E : Type 0) → (E → Type 0) → Type 0
Such E P = (e : E) × P e

-- some locals, and then others of these names
abbrev pub Adds : Names → List Local → List Local → Type 0
Adds ns old new = (more : List Local) × (new ≡ old ++ more) × (map (λ l. l.name) more ≡ ns)

pub adds_none : (a b : List Local) → b ≡ a → Adds [] a b
adds_none a b e = ([], e ∙ sym (append-nil a), refl)

pub adds_both : (ms ns : Names) (a b c : List Local) → Adds ms a b → Adds ns b c → Adds (ms ++ ns) a c
adds_both ms ns a b c p q = (
  p.0 ++ q.0,
  q.1 ∙ ap (λ l. l ++ q.0) p.1 ∙ append_assoc a p.0 q.0,
  map-append (λ l. l.name) p.0 q.0 ∙ ap (λ l. l ++ map (λ l. l.name) q.0) p.2 ∙ ap (λ l. ms ++ l) q.2,
)

-- they are gone behind the end of their block
pub adds_end : (ns : Names) (a b : List Local) → Adds ns a b → take (length a) b ≡ a
adds_end ns a b p = ap (take (length a)) p.1 ∙ take-append_seam a p.0

pub adds_names : (ns : Names) (a b : List Local) → Adds ns a b → map (λ l. l.name) b ≡ map (λ l. l.name) a ++ ns
adds_names ns a b p = ap (map (λ l. l.name)) p.1 ∙ map-append (λ l. l.name) a p.0 ∙ ap (λ l. map (λ l. l.name) a ++ l) p.2

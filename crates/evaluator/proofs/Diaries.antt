-- The diary of a run.
use Rattle.std.proofs.Common.{◌≡◌, ℕ, List, [], ◌∷◌, ◌++◌, Result, Ok, Err, Option, Some, None, map, take, length, refl, ap, sym, ◌∙◌}
use Rattle.std.proofs.lemmas.List.{append-nil}
use Rattle.std.proofs.Math.Seq.{take-append_seam, take-length}
use Rattle.std.proofs.Math.ListN.{length-map}
use Rattle.std.specs.List.{FoldsTo}
use Rattle.object_store.specs.declared.value.Value.{Value}
use Rattle.lanes_lib.specs.declared.ask.Ask.{Ask}
use Rattle.lanes_lib.specs.declared.ask.Answer.{Answer}
use Rattle.lua_meaning.specs.declared.fault.Fault.{Fault}
use Rattle.lua_meaning.specs.declared.fault.Fault.TheVariants as F
use Rattle.lua_meaning.specs.Run.{World, Store, Run, Ended, Asks, Wrote, Leads, here, lost, more, wrote, reaches}
use Rattle.lua_meaning.specs.Whole.{play, Ran, Passes, stands, after_answer, after_write, answers_in, asks_in, Told, IsCutShort}

-- what a diary says of a run that it leads to a point
abbrev Says : Option Run → List (Ask × Answer) → Run → Type 0
Says (Some r1) d r = play r (answers_in d) ≡ (asks_in d ++ (play r1 []).0, (play r1 []).1)
Says None d r = take (length d) (play r (answers_in d)).0 ≡ asks_in d

further : (ask : Ask) (answer : Answer) (d : List (Ask × Answer)) (goal : Option Run) (go : Answer → Run) → Says goal d (go answer) → Says goal ((ask, answer) ∷ d) (Asks ask go)
further ask answer d (Some r1) go e = ap (λ p. (ask ∷ p.0, p.1)) e
further ask answer d None go e = ap (λ p. ask ∷ p) e

onward : (s : Store) (d : List (Ask × Answer)) (goal : Option Run) (r : Run) → Says goal d r → Says goal d (Wrote s r)
onward s d (Some r1) r e = e
onward s d None r e = e

module _ {H : Type 0} (asked : H → Ask → Answer → H → Type 0) where
  diary_of : (h h1 : H × Store) (r : Run) (goal : Option Run) → Leads asked h r h1 goal → (d : List (Ask × Answer)) × FoldsTo (λ h e h1. asked h e.0 e.1 h1) h.0 d h1.0 × Says goal d r × Passes h.1 r (answers_in d) h1.1
  diary_of h h1 r goal here = ([], refl, refl, stands)
  diary_of h h1 r goal lost = ([], refl, refl, stands)
  diary_of h h1 r goal (more {s = s} {ask = ask} {answer = answer} a l) =
      let d = diary_of _ _ _ _ l in
      ((ask, answer) ∷ d.0, (_, a, d.1), further ask answer d.0 goal _ d.2, after_answer d.3)
  diary_of h h1 r goal (wrote {s = s} {s1 = s1} l) =
      let d = diary_of _ _ _ _ l in
      (d.0, d.1, onward s1 d.0 goal _ d.2, after_write d.3)

  -- what the host's answers led to is told by its diary
  pub ran : (h h1 : H) (s : Store) (r : Run) (o : Result (List Value) Fault) (w : World) → Leads asked (h, s) r (h1, w.store) (reaches o Ended w) → Ran asked h h1 s r o w
  ran h h1 s r o w l = told o w (diary_of (h, s) (h1, w.store) r _ l)
    where
      end : (d : List (Ask × Answer)) (o : Result (List Value) Fault) (w : World) (p : List Ask × Option (Result (List Value) Fault × World)) → p ≡ (asks_in d ++ [], Some (o, w)) → p ≡ (asks_in d, Some (o, w))
      end d o w p e = e ∙ ap (λ x. (x, Some (o, w))) (append-nil (asks_in d))

      told : (o : Result (List Value) Fault) (w : World) → (d : List (Ask × Answer)) × FoldsTo (λ h e h1. asked h e.0 e.1 h1) h d h1 × Says (reaches o Ended w) d r × Passes s r (answers_in d) w.store → Ran asked h h1 s r o w
      told (Ok vs) w d = record { diary = d.0; led = d.1; told = end d.0 (Ok vs) w _ d.2 }
      told (Err (F.Raised v)) w d = record { diary = d.0; led = d.1; told = end d.0 (Err (F.Raised v)) w _ d.2 }
      told (Err F.Spent) w d = record { diary = d.0; led = d.1; told = end d.0 (Err F.Spent) w _ d.2 }
      told (Err F.Cancelled) w d = record { diary = d.0; led = d.1; told = end d.0 (Err F.Cancelled) w _ d.2 }
      told (Err F.WriteFault) w d = record { diary = d.0; led = d.1; told = end d.0 (Err F.WriteFault) w _ d.2 }
      told (Err F.Broken) w d = record { diary = d.0; led = d.1; told = end d.0 (Err F.Broken) w _ d.2 }
      told (Err F.Memory) w d = record { diary = d.0; led = d.1; told = record { asks = d.2; memory = d.3 } }

  -- and so is its front, where want of memory ends a run that was led to a point
  pub cut_short : (h h1 : H) (s : Store) (r r1 : Run) (w : World) → Leads asked (h, s) r (h1, w.store) (Some r1) → Ran asked h h1 s r (Err F.Memory) w
  cut_short h h1 s r r1 w l =
      let d = diary_of (h, s) (h1, w.store) r (Some r1) l in
      record {
        diary = d.0;
        led = d.1;
        told = record { asks = ap (λ p. take (length d.0) p.0) d.2 ∙ front d.0 (play r1 []).0; memory = d.3 };
      }
    where
      front : (d : List (Ask × Answer)) (asks : List Ask) → take (length d) (asks_in d ++ asks) ≡ asks_in d
      front [] asks = refl
      front (x ∷ d) asks = ap (λ l. x.0 ∷ l) (front d asks)

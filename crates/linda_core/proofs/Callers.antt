-- What callers cite of histories: an entry appended, the calls on one linda, and the content of a
-- bank at a point.
use Rattle.std.proofs.Common.{◌≡◌, ℕ, Bool, true, false, cond, if◌then◌else◌, nat_eq, List, [], ◌∷◌, ◌++◌, Option, Some, refl, ap, sym, subst, ◌∙◌, true≢false, arith}
use Rattle.std.specs.Map.{lookup}
use Rattle.std.specs.Option.{unwrap_or}
use Rattle.std.proofs.lemmas.Bool.Decides.{nat_tests}
use Rattle.indexmap.specs.IndexMap.{insert_entry}
use Rattle.desk_object.specs.declared.ending.Ending.{Ending}
use Rattle.desk_object.specs.declared.ending.Ending.TheVariants.{Served, GaveUp, Withdrawn}
use Rattle.desk_object.specs.declared.entry.Entry.TheVariants.{Made, Close}
use Rattle.desk_object.specs.Meaning.{Turns}
use Rattle.desk_object.specs.History.{Leads, IsLegal as IsLegalFor}
use Rattle.linda_core.specs.declared.call.BankCall.{BankCall}
use Rattle.linda_core.specs.declared.call.LindaReply.{LindaReply}
use Rattle.linda_core.specs.declared.content.Content.{Content}
use Rattle.linda_core.specs.SequentialLinda.{Steps, empty_linda, linda_after}
use Rattle.linda_core.specs.BankMeaning.{Bank, bank_means, bank_after, linda_at, with_linda}
use Rattle.linda_core.specs.History.{Call, History, IsRun, IsLegal, ClosesLast, calls_on}

-- ---- the calls on one linda

calls_step : (b : Bool) (call : Call) (xs ys zs : List Call) → xs ≡ ys ++ zs → ◌≡◌ {A = List Call} (cond b (call ∷ xs) xs) (cond b (call ∷ ys) ys ++ zs)
calls_step true call xs ys zs h = ap (λ l. call ∷ l) h
calls_step false call xs ys zs h = h

pub calls_on-append : (number : ℕ) (first last : History) → calls_on number (first ++ last) ≡ calls_on number first ++ calls_on number last
calls_on-append number [] last = refl
calls_on-append number (Made caller call ending reply ∷ first) last =
    calls_step (nat_eq number call.linda) (record { op = call.op; ending = ending; reply = reply }) _ _ _ (calls_on-append number first last)
calls_on-append number (Close caller ∷ first) last = calls_on-append number first last

-- a run after a run
pub run_append : (before middle after : Content) (first last : List Call) → IsRun before first middle → IsRun middle last after → IsRun before (first ++ last) after
run_append before middle after [] last run more = subst (λ linda. IsRun linda last after) run more
run_append before middle after (call ∷ first) last run more = (run.0, run.1, run_append run.0 middle after first last run.2 more)

-- ---- the lindas of a bank after a call on one of them

same_number : (a b : ℕ) → nat_eq a b ≡ true → a ≡ b
same_number a b h = grind (arith, nat_tests)

own_number : (a : ℕ) → nat_eq a a ≡ true
own_number a = grind (arith, nat_tests)

twice : {X : Type 0} (b : Bool) (x y : X) (r : X) → cond b x r ≡ cond b x (cond b y r)
twice true x y r = refl
twice false x y r = refl

apart : {X : Type 0} (q k e : ℕ) (b c : Bool) → nat_eq q e ≡ b → nat_eq q k ≡ c → (k ≡ e → ⊥) → (x y r : X) → cond b y (cond c x r) ≡ cond c x (cond b y r)
apart q k e true true qe qk differ x y r = absurd (differ (sym (same_number q k qk) ∙ same_number q e qe))
apart q k e true false qe qk differ x y r = refl
apart q k e false true qe qk differ x y r = refl
apart q k e false false qe qk differ x y r = refl

found_step : (q k e : ℕ) (b : Bool) (old new : Content) (rest : Bank) → nat_eq k e ≡ b
    → lookup (nat_eq q) (insert_entry nat_eq rest k new) ≡ cond (nat_eq q k) (Some new) (lookup (nat_eq q) rest)
    → lookup (nat_eq q) (if b then (e, new) ∷ rest else (e, old) ∷ insert_entry nat_eq rest k new) ≡ cond (nat_eq q k) (Some new) (cond (nat_eq q e) (Some old) (lookup (nat_eq q) rest))
found_step q k e true old new rest ke h =
    subst (λ x. cond (nat_eq q e) (Some new) (lookup (nat_eq q) rest) ≡ cond (nat_eq q x) (Some new) (cond (nat_eq q e) (Some old) (lookup (nat_eq q) rest))) (sym (same_number k e ke))
    (twice (nat_eq q e) (Some new) (Some old) (lookup (nat_eq q) rest))
found_step q k e false old new rest ke h =
    ap (λ r. cond (nat_eq q e) (Some old) r) h
    ∙ apart q k e (nat_eq q e) (nat_eq q k) refl refl (λ same. true≢false (sym (subst (λ x. nat_eq k x ≡ true) same (own_number k)) ∙ ke)) (Some new) (Some old) (lookup (nat_eq q) rest)

lookup-with_linda : (bank : Bank) (k q : ℕ) (new : Content) → lookup (nat_eq q) (with_linda bank k new) ≡ cond (nat_eq q k) (Some new) (lookup (nat_eq q) bank)
lookup-with_linda [] k q new = refl
lookup-with_linda (e ∷ rest) k q new = found_step q k e.0 (nat_eq k e.0) e.1 new rest refl (lookup-with_linda rest k q new)

linda_step : (b : Bool) (new : Content) (r : Option Content) → unwrap_or (cond b (Some new) r) empty_linda ≡ (if b then new else unwrap_or r empty_linda)
linda_step true new r = refl
linda_step false new r = refl

pub linda_at-with_linda : (bank : Bank) (k q : ℕ) (new : Content) → linda_at (with_linda bank k new) q ≡ (if nat_eq q k then new else linda_at bank q)
linda_at-with_linda bank k q new = ap (λ r. unwrap_or r empty_linda) (lookup-with_linda bank k q new) ∙ linda_step (nat_eq q k) new (lookup (nat_eq q) bank)

chosen : (b : Bool) (x y : Content) → b ≡ true → (if b then x else y) ≡ x
chosen true x y e = refl
chosen false x y e = absurd (true≢false (sym e))

passed : (b : Bool) (x y : Content) → b ≡ false → (if b then x else y) ≡ y
passed true x y e = absurd (true≢false e)
passed false x y e = refl

-- its own linda is as the sequential linda has it, and each other one as before
pub own_linda : (bank : Bank) (call : BankCall) (ending : Ending) → linda_at (bank_after bank call ending) call.linda ≡ linda_after (linda_at bank call.linda) call.op ending
own_linda bank call Served = linda_at-with_linda bank call.linda call.linda (linda_after (linda_at bank call.linda) call.op Served) ∙ chosen (nat_eq call.linda call.linda) _ _ (own_number call.linda)
own_linda bank call GaveUp = refl
own_linda bank call Withdrawn = refl

pub other_linda : (bank : Bank) (call : BankCall) (ending : Ending) (number : ℕ) → nat_eq number call.linda ≡ false → linda_at (bank_after bank call ending) number ≡ linda_at bank number
other_linda bank call Served number other = linda_at-with_linda bank call.linda number (linda_after (linda_at bank call.linda) call.op Served) ∙ passed (nat_eq number call.linda) _ _ other
other_linda bank call GaveUp number other = refl
other_linda bank call Withdrawn number other = refl

-- ---- the content of a bank at a point

-- a call is a step of its own linda
own_step : (before after : Bank) (call : BankCall) (ending : Ending) (reply : LindaReply) (number : ℕ) → number ≡ call.linda → Turns bank_means before call ending reply after
    → Steps (linda_at before number) call.op ending reply (linda_at after number)
own_step before after call ending reply number here turn =
    subst (λ n. Steps (linda_at before n) call.op ending reply (linda_at after n)) (sym here)
    (turn.1, turn.2.0, ap (λ bank. linda_at bank call.linda) turn.2.1 ∙ own_linda before call ending)

-- a history that leads one bank to another is, at each linda, a run
pub runs_of : (before after : Bank) (history : History) (number : ℕ) → Leads bank_means before history after → IsRun (linda_at before number) (calls_on number history) (linda_at after number)
runs_of before after [] number leads = ap (λ bank. linda_at bank number) leads
runs_of before after (Close caller ∷ history) number leads =
    subst (λ h. IsRun (linda_at before number) (calls_on number h) (linda_at after number)) (sym leads.0) (ap (λ bank. linda_at bank number) leads.1)
runs_of before after (Made caller call ending reply ∷ history) number leads = by (nat_eq number call.linda) refl (runs_of leads.0 after history number leads.2)
  where
    by : (b : Bool) → nat_eq number call.linda ≡ b → IsRun (linda_at leads.0 number) (calls_on number history) (linda_at after number)
        → IsRun (linda_at before number) (cond b (record { op = call.op; ending = ending; reply = reply } ∷ calls_on number history) (calls_on number history)) (linda_at after number)
    by true own rest = (linda_at leads.0 number, own_step before leads.0 call ending reply number (same_number number call.linda own) leads.1, rest)
    by false other rest =
        subst (λ linda. IsRun linda (calls_on number history) (linda_at after number))
        (ap (λ bank. linda_at bank number) leads.1.2.1 ∙ other_linda before call ending number other) rest

closes_last : (before after : Bank) (history : History) → Leads bank_means before history after → ClosesLast history
closes_last before after [] leads = tt
closes_last before after (Made caller call ending reply ∷ history) leads = closes_last leads.0 after history leads.2
closes_last before after (Close caller ∷ history) leads = leads.0

-- a history that is legal for the object is legal at each linda
pub legal_of : (history : History) → IsLegalFor bank_means history → IsLegal history
legal_of history legal = record {
  closed = closes_last [] legal.0 history legal.1;
  runs = λ number. (linda_at legal.0 number, runs_of [] legal.0 history number legal.1);
}

-- For callers of a desk: what a call leaves of its pass's numbers, and how a pass becomes whole again.
use Rattle.std.proofs.Common.{◌≡◌, ℕ, ◌⊎◌, ⊎_elim, inl, inr, Bool, true, false, true≢false, List, [], ◌∷◌, ◌++◌, length, refl, ap, sym, ◌∙◌, append_assoc}
use Rattle.std.specs.Prelude.{Ok, Err, Result}
use Rattle.desk_object.specs.declared.ending.Mode.{Mode}
use Rattle.desk_object.specs.declared.entry.Entry.{Entry}
use Rattle.desk_object.specs.Meaning.{Meaning}
use Rattle.desk_object.specs.History.{caller_of, calls_by}
use Rattle.desk_object.proofs.Histories.{calls_by-own, calls_by-none, calls_by-append}
use Rattle.history_desk.specs.declared.known.Known.{Known}
use Rattle.history_desk.specs.declared.turn.Turn.{Turn}
use Rattle.history_desk.specs.declared.turn.Turn.TheVariants as turn
use Rattle.history_desk.specs.declared.turn.DeskFault.{DeskFault}
use Rattle.history_desk.specs.declared.turn.DeskFault.TheVariants as fault
use Rattle.history_desk.specs.Passes.{has, carries, met, newcomer, AreForeign, Grown, Looked, Appended, IsWhole}
use Rattle.history_desk.specs.Outcomes.{Answers, IsEnrolled, IsMet}
use Rattle.history_desk.proofs.Views.{has_cons, has_first, has_either, has_left, has_right}

module _ {A R : Type 0} where
  -- the numbers of a pass stay
  pub record Keeps (k h : Known A R) : Type 0 where
    pub number : h.number ≡ k.number
    pub carried : h.carried ≡ k.carried
    pub enrolled : h.enrolled ≡ k.enrolled

  grown_keeps : (k : Known A R) (added : List (Entry A R)) (h : Known A R) → Grown k added h → Keeps k h
  grown_keeps k added h g = record { number = g.number; carried = g.carried; enrolled = g.enrolled }

  pub looked_keeps : (k h : Known A R) → Looked k h → Keeps k h
  looked_keeps k h l = grown_keeps k l.others h l.grown

  -- all that was enrolled since is carried, and what was carried still is
  pub record IsGrown (k h : Known A R) : Type 0 where
    pub number : h.number ≡ k.number
    pub carried : (n : ℕ) → carries k n ≡ true → carries h n ≡ true
    pub enrolled : (n : ℕ) → has n h.enrolled ≡ true → (has n k.enrolled ≡ true) ⊎ (carries h n ≡ true)

  pub keeps_grown : (k h : Known A R) → Keeps k h → IsGrown k h
  keeps_grown k h s = record {
    number = s.number;
    carried = λ n z. ap (has n) s.carried ∙ z;
    enrolled = λ n z. inl (ap (has n) (sym s.enrolled) ∙ z);
  }

  pub grown_trans : (k h w : Known A R) → IsGrown k h → IsGrown h w → IsGrown k w
  grown_trans k h w a b = record {
    number = b.number ∙ a.number;
    carried = λ n z. b.carried n (a.carried n z);
    enrolled = λ n z. ⊎_elim (λ (x : has n h.enrolled ≡ true). ⊎_elim (λ (y : has n k.enrolled ≡ true). inl y) (λ (y : carries h n ≡ true). inr (b.carried n y)) (a.enrolled n x)) (λ (x : carries w n ≡ true). inr x) (b.enrolled n z);
  }

  -- A pass of its own number was enrolled, both went on, and the first took in the second.
  pub grown_met : (k u h mine theirs w : Known A R) → IsEnrolled k u h → IsGrown h mine → IsGrown u theirs → IsMet mine theirs w → IsGrown k w
  grown_met k u h mine theirs w e a b m = record {
    number = ap (λ (x : Known A R). x.number) m.is ∙ (a.number ∙ e.number);
    carried = λ n z. ap (λ (x : Known A R). has n x.carried) m.is ∙ has_left n mine.carried theirs.carried (a.carried n (ap (has n) e.carried ∙ z));
    enrolled = λ n z. ⊎_elim
        (λ (x : has n mine.enrolled ≡ true). ⊎_elim
        (λ (y : has n h.enrolled ≡ true). ⊎_elim
        (λ (q : u.number ≡ n). inr (theirs_carries n (b.carried n (ap (λ i. has i u.carried) (sym q) ∙ own))))
        (λ (q : has n k.enrolled ≡ true). inl q)
        (has_cons n u.number k.enrolled (ap (has n) (sym e.enrolled) ∙ y)))
        (λ (y : carries mine n ≡ true). inr (mine_carries n y))
        (a.enrolled n x))
        (λ (x : has n theirs.enrolled ≡ true). ⊎_elim
        (λ (y : has n u.enrolled ≡ true). absurd (true≢false (sym y ∙ ap (has n) none)))
        (λ (y : carries theirs n ≡ true). inr (theirs_carries n y))
        (b.enrolled n x))
        (has_either n mine.enrolled theirs.enrolled (ap (λ (x : Known A R). has n x.enrolled) (sym m.is) ∙ z));
  }
    where
      own : carries u u.number ≡ true
      own = ap (λ (x : Known A R). has u.number x.carried) e.new ∙ has_first u.number u.number [] refl

      none : u.enrolled ≡ []
      none = ap (λ (x : Known A R). x.enrolled) e.new

      mine_carries : (n : ℕ) → carries mine n ≡ true → carries w n ≡ true
      mine_carries n y = ap (λ (x : Known A R). has n x.carried) m.is ∙ has_left n mine.carried theirs.carried y

      theirs_carries : (n : ℕ) → carries theirs n ≡ true → carries w n ≡ true
      theirs_carries n y = ap (λ (x : Known A R). has n x.carried) m.is ∙ has_right n mine.carried theirs.carried y

  -- the first pass is whole, and carries number 0, once all that was enrolled since came back
  pub founder_whole : (k h : Known A R) → k ≡ newcomer 0 [] → IsGrown k h → IsWhole h × (carries h 0 ≡ true)
  founder_whole k h is g = (
    (λ n z. ⊎_elim (λ (x : has n k.enrolled ≡ true). absurd (true≢false (sym x ∙ ap (λ (i : Known A R). has n i.enrolled) is))) (λ (x : carries h n ≡ true). x) (g.enrolled n z)),
    g.carried 0 (ap (λ (i : Known A R). has 0 i.carried) is),
  )

  -- the calls of the pass's own number grew by the entry alone
  pub one_call : (k : Known A R) (entry : Entry A R) (h : Known A R) → Appended k entry h → caller_of entry ≡ k.number → carries k k.number ≡ true → calls_by h.number h.seen ≡ calls_by k.number k.seen ++ entry ∷ []
  one_call k entry h a by own =
      ap (λ n. calls_by n h.seen) a.grown.number ∙ (ap (calls_by k.number) (a.grown.seen ∙ sym (append_assoc k.seen a.others (entry ∷ []))) ∙ (calls_by-own k.number (k.seen ++ a.others) entry by ∙ ap (λ l. l ++ entry ∷ []) (calls_by-none k.number k.seen a.others (a.foreign k.number own))))

module _ {T Q W M C A R : Type 0} (m : Meaning C A R) (call_data : Q → A) (reply_data : W → R) where
  -- a call, whatever its answer, keeps the numbers of its pass
  pub answers_keep : (k : Known A R) (call : Q) (mode : Mode) (r : Result (Turn T Q W M C A R) DeskFault) (h : Known A R) → Answers m call_data reply_data k call mode r h → Keeps k h
  answers_keep k call mode (Err fault.Closed) h a = looked_keeps k h a.0
  answers_keep k call mode (Err (fault.Spent n)) h a = looked_keeps k h a.0
  answers_keep k call mode (Ok (turn.NotYet back)) h a = looked_keeps k h a.0.looked
  answers_keep k call mode (Err fault.Memory) h a = looked_keeps k h a.0.looked
  answers_keep k call mode (Ok (turn.Made reply)) h a = grown_keeps k _ h a.appended.grown

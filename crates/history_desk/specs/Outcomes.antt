-- What the calls of a desk answer, and what their pass then knows: k before the call, h after it.
use Rattle.std.specs.Prelude.{◌≡◌, ℕ, ◌+◌, ◌<◌, ◌≤◌, ◌^◌, Bool, true, false, List, [], ◌∷◌, ◌++◌, length, Ok, Err, Result}
use mathlib.Core.List.{IsPrefix}
use Rattle.desk_object.specs.declared.ending.Ending.{Ending}
use Rattle.desk_object.specs.declared.ending.Mode.{Mode}
use Rattle.desk_object.specs.declared.ending.Mode.TheVariants.{Try}
use Rattle.desk_object.specs.declared.entry.Entry.{Entry}
use Rattle.desk_object.specs.declared.entry.Entry.TheVariants.{Made, Close}
use Rattle.desk_object.specs.Endings.{Allows}
use Rattle.desk_object.specs.Meaning.{Meaning}
use Rattle.desk_object.specs.History.{calls_by, is_closed, Reaches, IsLegal}
use Rattle.history_desk.specs.declared.known.Known.{Known}
use Rattle.history_desk.specs.declared.turn.Turn.{Turn}
use Rattle.history_desk.specs.declared.turn.Turn.TheVariants as turn
use Rattle.history_desk.specs.declared.turn.DeskFault.{DeskFault}
use Rattle.history_desk.specs.declared.turn.DeskFault.TheVariants as fault
use Rattle.history_desk.specs.declared.turn.Closed.{Closed}
use Rattle.history_desk.specs.Passes.{carries, met, newcomer, AreForeign, Looked, Appended}
use Rattle.history_desk.specs.Steps.{with_entry}

-- the most entries, Close apart, that a history has, and the most numbers that a desk gives
abbrev pub limit : ℕ
limit = 2 ^ 62

module _ {C A R : Type 0} (m : Meaning C A R) where
  -- the call fits, or does not, at the end of this history
  abbrev pub FitsAfter : List (Entry A R) → A → Bool → Type 0
  FitsAfter history call fits =
      (content : C) → Reaches m history content → m.fits content call ≡ fits

  -- the call is the last entry, and ended in a way that the mode allows
  pub record IsMade (k : Known A R) (call : A) (mode : Mode) (reply : R) (h : Known A R)
      : Type 0 where
    pub ending : Ending
    pub allowed : Allows mode ending
    pub appended : Appended k (Made k.number call ending reply) h
    pub room : length h.seen ≤ limit
    pub unclosed : is_closed h.seen ≡ false

  -- what a refused call knows: the history of one moment, which was open and had room
  pub record IsUnmade (k h : Known A R) : Type 0 where
    pub looked : Looked k h
    pub room : length h.seen < limit
    pub unclosed : is_closed h.seen ≡ false

module _ {A R : Type 0} where
  -- the pass had seen a Close before the call
  abbrev pub WasClosed : Known A R → Known A R → Type 0
  WasClosed k h = Looked k h × (is_closed k.seen ≡ true)

module _ {T Q W M C A R : Type 0} (m : Meaning C A R) (call_data : Q → A) (reply_data : W → R) where
  -- The causes exclude one another: closed before; no room for an entry; not ready in mode Try;
  -- else made, or want of memory.
  abbrev pub Answers : Known A R → Q → Mode → Result (Turn T Q W M C A R) DeskFault → Known A R
      → Type 0
  Answers k call mode (Err fault.Closed) h = WasClosed k h
  Answers k call mode (Err (fault.Spent n)) h =
      Looked k h × (is_closed h.seen ≡ false) × (length h.seen ≡ n) × (n ≡ limit)
  Answers k call mode (Ok (turn.NotYet back)) h =
      IsUnmade m k h × (mode ≡ Try) × (back ≡ call) × FitsAfter m h.seen (call_data call) false
  Answers k call mode (Err fault.Memory) h =
      IsUnmade m k h × (mode ≡ Try → FitsAfter m h.seen (call_data call) true)
  Answers k call mode (Ok (turn.Made reply)) h =
      IsMade m k (call_data call) mode (reply_data reply) h

  -- The same of a pass that has the lock, and has seen the history before the call.
  abbrev pub EndsAs : Known A R → Q → Mode → Result (Turn T Q W M C A R) DeskFault → Known A R
      → Type 0
  EndsAs k call mode (Err fault.Closed) h = ⊥
  EndsAs k call mode (Err (fault.Spent n)) h = (h ≡ k) × (length k.seen ≡ n) × (n ≡ limit)
  EndsAs k call mode (Ok (turn.NotYet back)) h =
      (h ≡ k) × (length k.seen < limit) × (mode ≡ Try) × (back ≡ call)
      × FitsAfter m k.seen (call_data call) false
  EndsAs k call mode (Err fault.Memory) h =
      (h ≡ k) × (length k.seen < limit) × (mode ≡ Try → FitsAfter m k.seen (call_data call) true)
  EndsAs k call mode (Ok (turn.Made reply)) h =
      (ending : Ending) × Allows mode ending × (length k.seen < limit)
      × (h ≡ with_entry k (Made k.number (call_data call) ending (reply_data reply)))
      × IsLegal m h.seen

module _ {A R : Type 0} where
  -- a pass with a number of its own, u, was enrolled from k, which is then h
  pub record IsEnrolled (k u h : Known A R) : Type 0 where
    pub new : u ≡ newcomer u.number h.seen
    pub above : k.given ≤ u.number
    pub fresh : calls_by u.number h.seen ≡ []
    pub others : List (Entry A R)
    pub foreign : AreForeign k others
    pub seen : h.seen ≡ k.seen ++ others
    pub unclosed : is_closed h.seen ≡ false
    pub looks : h.looks ≡ k.looks + 1
    pub given : h.given ≡ u.number + 1
    pub number : h.number ≡ k.number
    pub carried : h.carried ≡ k.carried
    pub enrolled : h.enrolled ≡ u.number ∷ k.enrolled

  -- why no number was given
  abbrev pub IsNotEnrolled : Known A R → DeskFault → Known A R → Type 0
  IsNotEnrolled k fault.Closed h = WasClosed k h
  IsNotEnrolled k (fault.Spent n) h =
      Looked k h × (is_closed h.seen ≡ false) × (h.given ≡ n) × (n ≡ limit)
  IsNotEnrolled k fault.Memory h = ⊥

  -- k took in o, and is then h
  pub record IsMet (k o h : Known A R) : Type 0 where
    pub is : h ≡ met k o
    pub apart : (n : ℕ) → carries k n ≡ true → carries o n ≡ false
    pub mine : IsPrefix k.seen h.seen
    pub theirs : IsPrefix o.seen h.seen
    pub my_calls : (n : ℕ) → carries k n ≡ true → calls_by n h.seen ≡ calls_by n k.seen
    pub their_calls : (n : ℕ) → carries o n ≡ true → calls_by n h.seen ≡ calls_by n o.seen

module _ {T C A R : Type 0} (m : Meaning C A R) (content : T → C) where
  -- the Close is the last entry, and the history leads to the object that is handed out
  abbrev pub Closes : Known A R → Result T Closed → Known A R → Type 0
  Closes k (Ok object) h =
      Appended k (Close k.number) h × Reaches m h.seen (content object) × (is_closed k.seen ≡ false)
  Closes k (Err closed) h = WasClosed k h

-- Words of two parts: the low eight bits, and the number of looks modulo 2^56.
use Rattle.std.proofs.Common.{◌≡◌, ℕ, ◌+◌, ◌-◌, ◌*◌, ◌/◌, ◌%◌, ◌^◌, ◌<◌, ◌≤◌, Bool, true, false, refl, ap, sym, ◌∙◌, arith}
use Rattle.std.specs.Prelude.{bit_xor, bit_or}
use Rattle.std.proofs.lemmas.Nat.{xor_block, or_block, xor_of_8}
use Rattle.std.specs.Int.Bits.{xor_assoc, xor_self, xor_zero_r, or_zero_r}
use Rattle.status_board.specs.declared.status.Status.{Status}
use Rattle.status_board.specs.declared.status.Status.TheVariants.{Pending, Running, Waiting, Done, Error, Cancelled}
use Rattle.status_board.specs.declared.status.CancelKind.{CancelKind}
use Rattle.status_board.specs.declared.status.CancelKind.TheVariants.{Soft, Hard}
use Rattle.status_board.specs.Words.{turn, word, code_of, status_of, bit_of, kind_of_bit, bits_of, soft_in, hard_in}

pub word_low : (looks value : ℕ) → value < 256 → word looks value % 256 ≡ value
word_low looks value lt = omega arith

pub word_high : (looks value : ℕ) → value < 256 → word looks value / 256 ≡ looks % turn
word_high looks value lt = omega arith

pub word_look : (looks value : ℕ) → value < 256 → (word looks value + 256) % 2 ^ 64 ≡ word (looks + 1) value
word_look looks value lt = omega arith

pub lane_of_status_place : (l : ℕ) → (1 + 2 * l - 1) / 2 ≡ l
lane_of_status_place l = omega arith

pub lane_of_cancel_place : (l : ℕ) → (2 + 2 * l - 2) / 2 ≡ l
lane_of_cancel_place l = omega arith

pub code_small : (s : Status) → code_of s ≤ 5
code_small Pending = omega arith
code_small Running = omega arith
code_small Waiting = omega arith
code_small Done = omega arith
code_small Error = omega arith
code_small Cancelled = omega arith

pub status_of_code : (s : Status) → status_of (code_of s) ≡ s
status_of_code Pending = refl
status_of_code Running = refl
status_of_code Waiting = refl
status_of_code Done = refl
status_of_code Error = refl
status_of_code Cancelled = refl

pub xor_back : (a b : ℕ) → bit_xor a (bit_xor a b) ≡ b
xor_back a b = sym (xor_assoc a a b) ∙ ap (λ (n : ℕ). bit_xor n b) (xor_self a)

-- the status of a word changes by an exclusive or
pub word_set : (looks : ℕ) (from to : Status) → bit_xor (word looks (code_of from)) (bit_xor (code_of from) (code_of to)) ≡ word looks (code_of to)
word_set looks from to =
    let r = code_of from in
    let k = bit_xor (code_of from) (code_of to) in
    let short : k < 2 ^ 8 = xor_of_8 r (code_of to) (let z = code_small from in omega (arith, z)) (let z = code_small to in omega (arith, z)) in
    let q = looks % turn in
    ap (bit_xor (q * 256 + r)) (let z : k ≡ 0 + k = omega arith in z) ∙ xor_block 8 q 0 r k (let z = code_small from in omega (arith, z)) short ∙ (λ i. xor_zero_r q i * 256 + xor_back r (code_of to) i)

pub bits_small : (soft hard : Bool) → bits_of soft hard ≤ 3
bits_small true true = omega arith
bits_small true false = omega arith
bits_small false true = omega arith
bits_small false false = omega arith

pub soft_of_bits : (soft hard : Bool) → soft_in (bits_of soft hard) ≡ soft
soft_of_bits true true = refl
soft_of_bits true false = refl
soft_of_bits false true = refl
soft_of_bits false false = refl

pub hard_of_bits : (soft hard : Bool) → hard_in (bits_of soft hard) ≡ hard
hard_of_bits true true = refl
hard_of_bits true false = refl
hard_of_bits false true = refl
hard_of_bits false false = refl

pub kind_of_its_bit : (kind : CancelKind) → kind_of_bit (bit_of kind) ≡ kind
kind_of_its_bit Soft = refl
kind_of_its_bit Hard = refl

abbrev pub soft_after : CancelKind → Bool → Bool
soft_after Soft soft = true
soft_after Hard soft = soft

abbrev pub hard_after : CancelKind → Bool → Bool
hard_after Soft hard = hard
hard_after Hard hard = true

low_bits : (kind : CancelKind) (soft hard : Bool) → bit_or (bits_of soft hard) (bit_of kind) ≡ bits_of (soft_after kind soft) (hard_after kind hard)
low_bits Soft true true = refl
low_bits Soft true false = refl
low_bits Soft false true = refl
low_bits Soft false false = refl
low_bits Hard true true = refl
low_bits Hard true false = refl
low_bits Hard false true = refl
low_bits Hard false false = refl

bit_small : (kind : CancelKind) → bit_of kind < 2 ^ 8
bit_small Soft = omega arith
bit_small Hard = omega arith

-- one bit of a word is set, and the other stays
pub word_ask : (looks : ℕ) (kind : CancelKind) (soft hard : Bool) → bit_or (word looks (bits_of soft hard)) (bit_of kind) ≡ word looks (bits_of (soft_after kind soft) (hard_after kind hard))
word_ask looks kind soft hard =
    let q = looks % turn in
    let r = bits_of soft hard in
    ap (bit_or (q * 256 + r)) (let z : bit_of kind ≡ 0 + bit_of kind = omega arith in z) ∙ or_block 8 q 0 r (bit_of kind) (let z = bits_small soft hard in omega (arith, z)) (bit_small kind) ∙ (λ i. or_zero_r q i * 256 + low_bits kind soft hard i)

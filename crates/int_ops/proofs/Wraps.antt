-- What the wrapping methods leave.
use Rattle.std.proofs.lemmas.Int.{wrapping_add_is, wrapping_sub_is, wrapping_mul_is, wrapping_neg_is}

pub ruleset wrap_rules = (wrapping_add_is, wrapping_sub_is, wrapping_mul_is, wrapping_neg_is)

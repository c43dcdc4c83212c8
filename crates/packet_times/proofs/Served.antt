-- What a match serves an input that is none of its ports.
use Rattle.std.proofs.Common.{◌≡◌, ℕ, ◌≤◌, List, Option, Some, None, refl, arith}
use Rattle.slot_match.specs.declared.matching.Fed.{Fed}
use Rattle.slot_match.specs.declared.matching.Served.{Served}
use Rattle.slot_match.specs.Matches.{IsMatch}
use Rattle.slot_match.specs.Parts.{served_of}
use Rattle.slot_match.proofs.ServedParts.{served_of-is}

module _ (n : ℕ) (matched : List (Option Fed)) (whole : IsMatch n matched) (i : ℕ) (past : n ≤ i) where
  by_part : (part : Option Served) → served_of matched i ≡ part → None ≡ part
  by_part None e = refl
  by_part (Some part) e =
      let mine = served_of-is n matched whole i part e in
      let first = mine.some in
      let low = whole.input_in i first.0 part.level part.kind ((mine.outputs first.0).0 first.1) in
      absurd (omega arith)

  pub served-past : None ≡ served_of matched i
  served-past = by_part (served_of matched i) refl

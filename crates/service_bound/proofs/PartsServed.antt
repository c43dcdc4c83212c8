-- An input's part of a match, as the slot that serves it.
use Rattle.std.proofs.Common.{◌≡◌, ◌∙◌, ℕ, ◌↔◌, List, Option, None, Some, IsNone, IfSome, refl, sym}
use Rattle.std.proofs.lemmas.Option.{none-some}
use Rattle.slot_match.specs.declared.matching.Fed.{Fed}
use Rattle.slot_match.specs.declared.matching.Served.{Served}
use Rattle.slot_match.specs.Matches.{IsFreeInput, IsServed, IsMatch}
use Rattle.slot_match.specs.Parts.{served_of}
use Rattle.slot_match.proofs.ServedParts.{served_of-free, served_of-is, served_of-none}

pub part_is_free : (n : ℕ) (matched : List (Option Fed)) (i : ℕ) (part : Option Served) → IsMatch n matched → part ≡ served_of matched i → IsNone part
    ↔ IsFreeInput matched i
part_is_free n matched i None whole e = (λ _. served_of-none n matched whole i (sym e), λ _. refl)
part_is_free n matched i (Some part) whole e = (λ none. absurd (cc), λ free. absurd (none-some part (sym (served_of-free matched i free) ∙ sym e)))

pub part_serves : (n : ℕ) (matched : List (Option Fed)) (i : ℕ) (part : Option Served) → IsMatch n matched → part ≡ served_of matched i
    → IfSome part (IsServed matched i)
part_serves n matched i None whole e = tt
part_serves n matched i (Some part) whole e = served_of-is n matched whole i part (sym e)

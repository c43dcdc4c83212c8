use Rattle.std.proofs.Common.{◌≡◌, ◌∙◌, ℕ, true, List, length, replicate, sym, ap, subst, refl, arith}
use Rattle.std.proofs.lemmas.Bool.{both_ways}
use Rattle.std.proofs.lemmas.List.{length-replicate, get_or-replicate}
use Rattle.std.proofs.lemmas.Option.{slice_get_within, get_or_from_slice_get}
use Rattle.rotating_pick.proofs.Bits.{no_member-zero}
use Rattle.slot_match.specs.declared.rows.Row.{Row}
use Rattle.slot_match.specs.Rows.{empty_row}
use Rattle.slot_histories.specs.Tests.{is_empty}
use Rattle.descriptor_runs.specs.PortSteps.{AsksAt, AreAsking}
use Rattle.descriptor_runs.proofs.requests.Requests.new.Goals as goal

nothing-asked : is_empty empty_row ≡ true
unfolding is_empty
nothing-asked = refl

none-asks : (n i : ℕ) → AsksAt (replicate n empty_row) i → ⊥
none-asks n i (row, at, asks) =
    let rows : List Row = replicate n empty_row in
    let long : length rows ≡ n = length-replicate n empty_row in
    let within = slice_get_within rows i row at in
    let same : row ≡ empty_row = sym (get_or_from_slice_get rows i row empty_row at) ∙ get_or-replicate n i empty_row empty_row (omega arith) in
    both_ways (is_empty row) asks (ap is_empty same ∙ nothing-asked)

pub invariant_of-result : goal.invariant_of-result
invariant_of-result c =
    let n = c.args.n in
    let long : length (replicate n empty_row) ≡ n = length-replicate n empty_row in
    let size = c.requires.size in
    let first : AreAsking (replicate n empty_row) 0 = record {
      size = omega arith;
      asks = λ i. (λ has. absurd (no_member-zero i has), λ asks. absurd (none-asks n i asks));
    } in
    subst (λ (rows : List Row). AreAsking rows 0) (sym c.new.ensures) first

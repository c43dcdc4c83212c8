-- A round in which unicast of level 0 alone is asked for.
use Rattle.std.specs.Prelude.{ℕ, ◌<◌, List, [], Option}
use Rattle.rotating_pick.specs.Rotation.{IsFirstFrom}
use Rattle.rotating_pick.specs.declared.kinds.Kind.TheVariants.{Uni}
use Rattle.slot_match.specs.declared.rows.Row.{Row}
use Rattle.slot_match.specs.declared.matching.Fed.{Fed}
use Rattle.slot_match.specs.Rows.{Names, row_of}
use Rattle.slot_match.specs.Matches.{IsFreeInput, IsFreeOutput}
use Rattle.pointer_state.specs.Places.{Places, grant_of}
use Rattle.eslip_rounds.specs.declared.grants.Offers.{Offers as RankedOffers}
use Rattle.unicast_slots.specs.declared.grants.Offers.{Offers}

-- output j, which is free, grants input i: of the free inputs that ask for it the first from its pointer on
pub record GrantsUnicast (n : ℕ) (rows : List Row) (places : Places) (before : List (Option Fed)) (i j : ℕ) : Type 0 where
  pub output_in : j < n
  pub output_free : IsFreeOutput before j
  pub first : IsFirstFrom n (grant_of places j 0) (λ x. IsFreeInput before x × Names (row_of rows x) 0 Uni j) i

-- offers of one rank, in the terms of a slot that has several: all are of the best one, 0
abbrev pub offers_of : Offers → RankedOffers
offers_of offers = record { granted = offers.granted; ranks = []; outputs = offers.outputs }

-- What the tables of a round say is the round of the definition.
use Rattle.std.proofs.Common.{◌≡◌, ℕ, ◌<◌, ◌↔◌, List, Option, None, Some, slice_index, slice_index_or, inl, inr}
use Rattle.std.proofs.lemmas.Bool.{cases_lt}
use Rattle.rotating_pick.specs.PortSets.{Has}
use Rattle.rotating_pick.specs.Rotation.{IsFirstFrom}
use Rattle.rotating_pick.proofs.First.{IsFirstFrom-along}
use Rattle.islip_rounds.specs.declared.unicast.UniPointers.{UniPointers}
use Rattle.islip_rounds.specs.Choices.{AreAllChoices}
use Rattle.islip_rounds.specs.Columns.{AreColumns}
use Rattle.islip_rounds.specs.Rounds.{Feeds, IsFreeInput, IsFreeOutput, Requests, Grants, Accepts, IsRound}
use Rattle.islip_rounds.proofs.Collecting.{AreOffers, AreFed}

-- a port that chose is one of the n
pub chooser-lt : (n : ℕ) (from masks : List ℕ) (free : ℕ) (chosen : List (Option ℕ)) (k x : ℕ) → AreAllChoices n from masks free chosen
    → slice_index_or chosen k None ≡ Some x → k < n
chooser-lt n from masks free chosen k x all some =
    elim (cases_lt k n) [ inl below ↦ below | inr beyond ↦ let none = all.rest k beyond in absurd (cc) ]

-- and what it chose is a member of its set and one of the n
pub chosen_member : (n : ℕ) (from masks : List ℕ) (free : ℕ) (chosen : List (Option ℕ)) (k x : ℕ) → AreAllChoices n from masks free chosen
    → slice_index_or chosen k None ≡ Some x → IsFirstFrom n (slice_index from k) (Has (slice_index masks k)) x
chosen_member n from masks free chosen k x all some = ((all.choices k (chooser-lt n from masks free chosen k x all some) x).0 some).1

-- an output that granted took part
pub chooser_free : (n : ℕ) (from masks : List ℕ) (free : ℕ) (chosen : List (Option ℕ)) (k x : ℕ) → AreAllChoices n from masks free chosen
    → slice_index_or chosen k None ≡ Some x → Has free k
chooser_free n from masks free chosen k x all some = ((all.choices k (chooser-lt n from masks free chosen k x all some) x).0 some).0

module _ (n : ℕ) (asks columns : List ℕ) (pointers : UniPointers) (before : List (Option ℕ)) (free_inputs free_outputs everyone : ℕ) (asked offers : List ℕ)
    (granted accepted : List (Option ℕ)) (turned : AreColumns n asks columns) (inputs : (i : ℕ) → Has free_inputs i ↔ ((i < n) × IsFreeInput before i))
    (outputs : (j : ℕ) → Has free_outputs j ↔ ((j < n) × IsFreeOutput before j))
    (is_asked : (j x : ℕ) → j < n → Has (slice_index asked j) x ↔ (Has (slice_index columns j) x × Has free_inputs x))
    (is_granted : AreAllChoices n pointers.grant asked free_outputs granted) (is_offered : AreOffers granted n offers)
    (everybody : (x : ℕ) → Has everyone x ↔ (x < n)) (is_accepted : AreAllChoices n pointers.accept offers everyone accepted) where
  -- an input is in the table of an output exactly where it asks the output
  same_request : (j : ℕ) → j < n → (x : ℕ) → x < n → Has (slice_index asked j) x ↔ Requests asks before x j
  same_request j j_in x x_in = (
    λ has. let p = (is_asked j x j_in).0 has in (((inputs x).0 p.1).1, ((turned x j).0 p.0).1),
    λ asks_it. (is_asked j x j_in).1 ((turned x j).1 (x_in, asks_it.1), (inputs x).1 (x_in, asks_it.0)),
  )

  -- the table of grants
  pub Feeds-iff_grants : (i j : ℕ) → Feeds granted i j ↔ Grants n asks pointers before i j
  Feeds-iff_grants i j = (
    λ feeds.
        let j_in = chooser-lt n pointers.grant asked free_outputs granted j i is_granted feeds in
        let p = (is_granted.choices j j_in i).0 feeds in
        record {
          output_in = j_in;
          output_free = ((outputs j).0 p.0).1;
          first = IsFirstFrom-along n (slice_index pointers.grant j) (Has (slice_index asked j)) (λ x. Requests asks before x j) i (same_request j j_in) p.1;
        },
    λ g. (is_granted.choices j g.output_in i).1 (
      (outputs j).1 (g.output_in, g.output_free),
      IsFirstFrom-along n (slice_index pointers.grant j) (λ x. Requests asks before x j) (Has (slice_index asked j)) i
          (λ x x_in. let same = same_request j g.output_in x x_in in (same.1, same.0)) g.first,
    ),
  )

  -- the grants, by who is granted
  Has-iff_grants : (i j : ℕ) → Has (slice_index offers i) j ↔ Grants n asks pointers before i j
  Has-iff_grants i j = (
    λ has. (Feeds-iff_grants i j).0 ((is_offered i j).0 has).1,
    λ g. (is_offered i j).1 (g.output_in, (Feeds-iff_grants i j).1 g),
  )

  -- the table of accepts
  Some-iff_accepts : (i j : ℕ) → (slice_index_or accepted i None ≡ Some j) ↔ Accepts n asks pointers before i j
  Some-iff_accepts i j = (
    λ some.
        let i_in = chooser-lt n pointers.accept offers everyone accepted i j is_accepted some in
        IsFirstFrom-along n (slice_index pointers.accept i) (Has (slice_index offers i)) (λ y. Grants n asks pointers before i y) j
        (λ y _. Has-iff_grants i y) ((is_accepted.choices i i_in j).0 some).1,
    λ accepts.
        let i_in : i < n = accepts.member.first.below in
        (is_accepted.choices i i_in j).1 (
          (everybody i).1 i_in,
          IsFirstFrom-along n (slice_index pointers.accept i) (λ y. Grants n asks pointers before i y) (Has (slice_index offers i)) j
              (λ y _. let same = Has-iff_grants i y in (same.1, same.0)) accepts,
        ),
  )

  -- the match with what is accepted
  pub IsRound-from_tables : (after : List (Option ℕ)) → AreFed before accepted n after → IsRound n asks pointers before after
  IsRound-from_tables after fed i j = (
    λ feeds. elim ((fed i j).0 feeds) [ inl old ↦ inl old | inr p ↦ inr ((Some-iff_accepts i j).0 p.1) ],
    λ s. (fed i j).1 (elim s [ inl old ↦ inl old | inr accepts ↦ inr (accepts.member.first.below, (Some-iff_accepts i j).1 accepts) ]),
  )

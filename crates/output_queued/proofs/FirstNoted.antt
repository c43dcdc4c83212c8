-- A reference that has noted no slot yet.
use Rattle.std.proofs.Common.{◌≡◌, ◌∙◌, ℕ, zero, suc, ◌<◌, ◌≤◌, List, [], map, length, replicate, refl, sym, ap, subst, arith}
use Rattle.std.proofs.lemmas.List.{length-map}
use Rattle.output_queued.specs.declared.tally.Tally.{Tally}
use Rattle.output_queued.specs.Switches.{card_for, IsSwitch}
use Rattle.output_queued.specs.Lines.{line_of}
use Rattle.output_queued.specs.NotingSteps.{Source, source_at, no_tally, tally_at, IsBefore, IsTally, IsSmall, IsUnserved, HasNoted}
use Rattle.output_queued.specs.Steps.{IsPart, Stand, HaveEntered, cells_of_first, with_cells}
use Rattle.output_queued.proofs.Switching.{part_of}
use Rattle.output_queued.proofs.Noted.{coming_of, coming-at, comes-are, cards-are, coming-same}

pub no_tallies : (n j : ℕ) → tally_at (replicate n no_tally) j ≡ no_tally
no_tallies zero j = refl
no_tallies (suc n) zero = refl
no_tallies (suc n) (suc j) = no_tallies n j

module _ (n depth : ℕ) (sources : List Source) (switch : IsSwitch n depth (coming_of sources))
    (standing : (i : ℕ) → i < n → IsBefore (card_for n depth (source_at sources i).coming) (source_at sources i) []) where
  first-long : length sources ≡ n
  first-long = sym (length-map sources (λ (source : Source). source.coming)) ∙ switch.count

  pub first-stand : Stand n depth 0 sources (λ i. [])
  first-stand = record {
    count = first-long;
    parts = λ i inside. let long = first-long in
        subst (IsPart n depth) (coming-at n depth sources i (omega arith)) (part_of n depth (coming_of sources) switch i inside);
    long = λ i inside. refl;
    before = standing;
  }

  module _ (after : List Source) (counted : List Tally) (unserved : ℕ)
      (entered : HaveEntered n depth 0 n (λ i. []) sources after (replicate n no_tally) counted) (many : length counted ≡ n)
      (small : (j : ℕ) → (tally_at counted j).came ≤ 131072) (unserved-is : IsUnserved unserved counted) where
    pub first-same : coming_of after ≡ coming_of sources
    first-same = coming-same sources after entered.count (λ i inside. entered.coming i)

    first-cards : map (λ (source : Source). card_for n depth source.coming) after ≡ map (λ (source : Source). card_for n depth source.coming) sources
    first-cards = cards-are n depth after ∙ ap (map (card_for n depth)) first-same ∙ sym (cards-are n depth sources)

    first-tally : (j : ℕ) → tally_at counted j ≡ with_cells no_tally (cells_of_first n depth sources (λ i. []) j 0 n)
    first-tally j = entered.tallies j ∙ ap (λ t. with_cells t (cells_of_first n depth sources (λ i. []) j 0 n)) (no_tallies n j)

    first-is : (j : ℕ) → IsTally (map (λ (source : Source). card_for n depth source.coming) sources) [] 1 j (tally_at counted j)
    unfolding line_of
    first-is j =
        let comes' = comes-are n depth sources [] j 0 n first-long in
        rw (first-tally j) (record { came = omega arith; given = refl; ran = refl; line = refl })

    first-small : (j : ℕ) → IsSmall 0 (tally_at counted j)
    first-small j =
        let within : (with_cells no_tally (cells_of_first n depth sources (λ i. []) j 0 n)).came ≤ 131072 =
        subst (λ (t : Tally). t.came ≤ 131072) (first-tally j) (small j) in
        rw (first-tally j) (record {
          came = omega arith;
          behind = omega arith;
          given = omega arith;
          few = omega arith;
          lead = omega arith;
          ends = omega arith;
          runs = omega arith;
          extra = omega arith;
        })

    pub first-noted : HasNoted (record { ports = n; depth = depth; slots = 0; sources = after; tallies = counted; unserved = unserved }) []
    first-noted = record {
      noted = record {
        switch = subst (IsSwitch n depth) (sym first-same) switch;
        few = omega arith;
        served = record { whole = λ t below. absurd (omega arith); named = λ t i j level kind below pair. absurd (omega arith) };
      };
      stands = record {
        slots = refl;
        sources = λ i inside. rw (entered.coming i) (entered.entered i inside);
        count = many;
        tallies = λ j inside. subst (λ cards. IsTally cards [] 1 j (tally_at counted j)) (sym first-cards) (first-is j);
        small = λ j inside. first-small j;
        unserved = unserved-is;
      };
    }

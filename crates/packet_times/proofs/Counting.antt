-- How many rows the packets have at most, one packet or input more at a time.
use Rattle.std.proofs.Common.{◌≡◌, ℕ, ◌+◌, ◌<◌, ◌≤◌, List, length, take, refl, subst, arith, slice_index_or}
use Rattle.std.specs.Prelude.{All, Option, None, Some, SomeIff, IfSome}
use Rattle.std.proofs.lemmas.List.{take_all}
use Rattle.std.proofs.lemmas.List.Elements.{All-more}
use Rattle.std.proofs.lemmas.List.Sums.{sum_by_more}
use Rattle.card_core.specs.declared.plan.Planned.{Planned}
use Rattle.packet_times.specs.NotingSteps.{Input}
use Rattle.packet_times.specs.MostSteps.{IsNarrow, most_rows, AreCounted, most_of_input, AreAllCounted}

pub none-counted : (packets : List Planned) → AreCounted (take 0 packets) 0
none-counted packets = record { narrow = λ k d below. absurd (omega (arith, below)); rows = refl }

pub one-counted : (packets : List Planned) (i : ℕ) (d : Planned) (before after : ℕ) → i < length packets → AreCounted (take i packets) before
    → IsNarrow (slice_index_or packets i d) → after ≡ before + most_rows (slice_index_or packets i d) → AreCounted (take (i + 1) packets) after
one-counted packets i d before after inside were narrow sum = record {
  narrow = All-more IsNarrow packets i d inside were.narrow narrow;
  rows = omega (arith, were.rows, sum, sum_by_more most_rows packets i d inside);
}

pub all-counted : (packets : List Planned) (i rows : ℕ) → length packets ≤ i → AreCounted (take i packets) rows → AreCounted packets rows
all-counted packets i rows all counted = subst (λ ps. AreCounted ps rows) (take_all i packets all) counted

pub no-input-counted : (inputs : List Input) → AreAllCounted (take 0 inputs) 0
no-input-counted inputs = record { narrow = λ k d below. absurd (omega (arith, below)); rows = refl }

pub input-counted : (inputs : List Input) (i : ℕ) (input : Input) (before more : ℕ) → i < length inputs → input ≡ slice_index_or inputs i input
    → AreAllCounted (take i inputs) before → AreCounted input.counters.packets more → AreAllCounted (take (i + 1) inputs) (before + more)
input-counted inputs i input before more inside at were here =
    let counted = subst (λ (it : Input). AreCounted it.counters.packets more) at here in
    record {
      narrow = All-more (λ input. All IsNarrow input.counters.packets) inputs i input inside were.narrow counted.narrow;
      rows = omega (arith, were.rows, counted.rows, sum_by_more most_of_input inputs i input inside);
    }

pub inputs-counted : (inputs : List Input) (i rows : ℕ) → length inputs ≤ i → AreAllCounted (take i inputs) rows → AreAllCounted inputs rows
inputs-counted inputs i rows all counted = subst (λ is. AreAllCounted is rows) (take_all i inputs all) counted

-- a sum that is answered is at least what it is of
pub answered : (r : Option ℕ) (Fits : Type 0) (sum size : ℕ) → SomeIff r Fits sum → size ≤ sum → IfSome r (λ most. size ≤ most)
answered None Fits sum size is few = tt
answered (Some most) Fits sum size is few = omega (arith, is.1, few)

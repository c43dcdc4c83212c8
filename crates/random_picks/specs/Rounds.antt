-- Parallel iterative matching: rounds of request, grant and accept, in which each port that has a choice takes any with the
-- same chance. It has one level, of unicast, and keeps no pointers.
use Rattle.std.specs.Prelude.{ℕ, zero, suc, ◌-◌, ◌==◌, ◌&&◌, Bool, false, if◌then◌else◌, is_none, List, [], ◌∷◌, ◌++◌, Option, None, Some, filter, map}
use Rattle.std.specs.Prelude.{slice_index}
use Rattle.std.specs.List.{range_with_len}
use Rattle.rotating_pick.specs.declared.kinds.Kind.TheVariants.{Uni}
use Rattle.slot_match.specs.declared.matching.Fed.{Fed}
use Rattle.slot_match.specs.declared.rows.Row.{Row}
use Rattle.slot_match.specs.Rows.{row_of}
use Rattle.slot_match.specs.Matches.{fed_of, unmatched}
use Rattle.slot_match.specs.Parts.{served_of}
use Rattle.islip_rounds.specs.declared.numbers.RoundsUsed.{RoundsUsed}
use Rattle.islip_rounds.specs.Numbers.{last_of, matched_count, numbers_of}
use Rattle.random_picks.specs.Picks.{has, picked, stream_before}

-- input i feeds no output
abbrev pub is_free : List (Option Fed) → ℕ → Bool
is_free matched i = is_none (served_of matched i)

-- input i asks output j
abbrev pub asks : List Row → ℕ → ℕ → Bool
asks rows i j = has (slice_index (row_of rows i).uni 0) j

-- Request: the free inputs that ask output j, where it is free.
abbrev pub asking : ℕ → List Row → List (Option Fed) → ℕ → List ℕ
asking n rows matched j = if is_none (fed_of matched j) then filter (λ i. is_free matched i && asks rows i j) (range_with_len 0 n) else []

-- a match, and where the stream of random words is
pub record RandomMatch : Type 0 where
  pub matched : List (Option Fed)
  pub stream : ℕ

-- Grant: what output j picks of the inputs that ask it, outputs by rising number.
abbrev pub granted : ℕ → List Row → RandomMatch → ℕ → Option ℕ
granted n rows before j = picked (asking n rows before.matched) before.stream j

-- whether this is port x
abbrev pub is_port : ℕ → Option ℕ → Bool
is_port x None = false
is_port x (Some y) = y == x

-- the outputs that grant input i
abbrev pub offering : ℕ → (ℕ → Option ℕ) → ℕ → List ℕ
offering n grants i = filter (λ j. is_port i (grants j)) (range_with_len 0 n)

-- where the stream is when all outputs have picked
abbrev pub stream_granted : ℕ → List Row → RandomMatch → ℕ
stream_granted n rows before = stream_before (asking n rows before.matched) before.stream n

-- Accept: what input i picks of the outputs that grant it, inputs by rising number.
abbrev pub accepted : ℕ → List Row → RandomMatch → ℕ → Option ℕ
accepted n rows before i = picked (offering n (granted n rows before)) (stream_granted n rows before) i

-- what feeds output j, which this fed before, where it grants the input and inputs accept so
abbrev pub fed_by : (ℕ → Option ℕ) → ℕ → Option Fed → Option ℕ → Option Fed
fed_by accepts j before None = before
fed_by accepts j before (Some i) = if is_port j (accepts i) then Some (record { input = i; level = 0; kind = Uni }) else before

-- a round: each output is fed by the input that it granted, where this accepted it
unfoldable pub round : ℕ → List Row → RandomMatch → RandomMatch
round n rows before = record {
  matched = map (λ j. fed_by (accepted n rows before) j (fed_of before.matched j) (granted n rows before j)) (range_with_len 0 n);
  stream = stream_before (offering n (granted n rows before)) (stream_granted n rows before) n;
}

-- rounds that were made: the match with the stream after them, and how many outputs each matched
pub record RandomRounds : Type 0 where
  pub made : RandomMatch
  pub added : List ℕ

-- one round more; after a round that matched nothing none is made
abbrev pub with_round : ℕ → List Row → RandomRounds → RandomRounds
with_round n rows before =
    if last_of 1 before.added == 0 then record { made = before.made; added = before.added ++ 0 ∷ [] }
    else record {
      made = round n rows before.made;
      added = before.added ++ (matched_count (round n rows before.made).matched - matched_count before.made.matched) ∷ [];
    }

-- so many rounds of a slot, by a stream
unfoldable pub rounds_made : ℕ → List Row → ℕ → ℕ → RandomRounds
rounds_made n rows stream zero = record { made = record { matched = unmatched n; stream = stream }; added = [] }
rounds_made n rows stream (suc k) = with_round n rows (rounds_made n rows stream k)

-- what a slot decides, and where the stream is after it
pub record RandomDecision : Type 0 where
  pub matched : List (Option Fed)
  pub numbers : RoundsUsed
  pub stream : ℕ

-- what parallel iterative matching decides of a switch of n ports, in so many rounds, of these rows, by this stream
abbrev pub pim_decision : ℕ → ℕ → List Row → ℕ → RandomDecision
pim_decision n rounds rows stream = record {
  matched = (rounds_made n rows stream rounds).made.matched;
  numbers = numbers_of (rounds_made n rows stream rounds).added;
  stream = (rounds_made n rows stream rounds).made.stream;
}

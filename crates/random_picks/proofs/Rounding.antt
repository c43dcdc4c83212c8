-- A round, from what its calls say, and the rounds of a slot.
use Rattle.std.proofs.Common.{◌≡◌, ◌≢◌, ◌∙◌, ◌+◌, ◌-◌, ◌<◌, ◌≤◌, ◌&&◌, ◌↔◌, ℕ, add-one, Bool, true, false, if◌then◌else◌, List, [], ◌∷◌, ◌++◌}
use Rattle.std.proofs.Common.{Option, None, Some, filter, length, is_none, slice_index, refl, sym, ap}
use Rattle.std.specs.List.{range_with_len}
use Rattle.std.proofs.lemmas.Bool.{eq-eqb, ne_eqb}
use Rattle.std.proofs.lemmas.List.{length_push}
use Rattle.std.proofs.lemmas.List.FromFn.{fill_by_all}
use Rattle.std.proofs.lemmas.Option.{none-some}
use Rattle.rotating_pick.specs.declared.limits.TheConstants.{MAX_PORTS}
use Rattle.rotating_pick.specs.PortSets.{Has}
use Rattle.slot_match.specs.declared.rows.Row.{Row}
use Rattle.slot_match.specs.declared.matching.Fed.{Fed}
use Rattle.slot_match.specs.Matches.{IsFreeInput, IsMatch, fed_of, unmatched}
use Rattle.slot_match.specs.Parts.{served_of}
use Rattle.slot_match.specs.Rows.{row_of}
use Rattle.slot_match.proofs.ServedParts.{served_of-free, served_of-none}
use Rattle.islip_rounds.specs.declared.numbers.RoundsUsed.{RoundsUsed}
use Rattle.islip_rounds.specs.Numbers.{last_of, matched_count, numbers_of}
use Rattle.islip_rounds.proofs.Lasts.{last_of-append}
use Rattle.random_picks.specs.Picks.{picked, stream_before}
use Rattle.random_picks.specs.PickSteps.{AreAsked, AreColumns, AreMembers, AreOffered, choices_in, pick_at}
use Rattle.random_picks.specs.Rounds.{RandomMatch, RandomRounds, accepted, asking, asks, fed_by, granted, is_free, is_port, offering, round}
use Rattle.random_picks.specs.Rounds.{rounds_made, stream_granted, with_round}
use Rattle.random_picks.proofs.Feeding.{is_port-some}
use Rattle.random_picks.proofs.Listing.{has-member, has-true, members-are, members-none}
use Rattle.random_picks.proofs.Picking.{picked-same, stream-same}

both_true : (a b : Bool) → (a && b) ≡ true → (a ≡ true) × (b ≡ true)
both_true true true is = (refl, refl)
both_true true false is = absurd cc
both_true false b is = absurd cc

none-is : {X : Type 0} (o : Option X) → is_none o ≡ true → o ≡ None
none-is None is = refl
none-is (Some x) is = absurd cc

-- what the calls of a round say
pub record AreCalls (n : ℕ) (rows : List Row) (before : RandomMatch) (columns asked : List ℕ) (grants : List (Option ℕ)) (offered : List ℕ)
    (accepts : List (Option ℕ)) (mid last : ℕ) (after : List (Option Fed)) : Type 0 where
  pub size : n ≤ MAX_PORTS
  pub whole : IsMatch n before.matched
  pub columns_are : AreColumns n rows columns
  pub asked_are : AreAsked n columns before.matched asked
  pub granted_are : (k : ℕ) → k < n → pick_at grants k ≡ picked (choices_in asked) before.stream k
  pub granting : mid ≡ stream_before (choices_in asked) before.stream n
  pub members_are : AreMembers n asked grants
  pub offered_are : AreOffered n grants offered
  pub accepted_are : (k : ℕ) → k < n → pick_at accepts k ≡ picked (choices_in offered) mid k
  pub accepting : last ≡ stream_before (choices_in offered) mid n
  pub count : length after ≡ n
  pub fed : (j : ℕ) → j < n → fed_of after j ≡ fed_by (pick_at accepts) j (fed_of before.matched j) (pick_at grants j)

module _ (n : ℕ) (rows : List Row) (before : RandomMatch) (columns asked : List ℕ) (grants : List (Option ℕ)) (offered : List ℕ)
    (accepts : List (Option ℕ)) (mid last : ℕ) (after : List (Option Fed))
    (calls : AreCalls n rows before columns asked grants offered accepts mid last after) where
  -- who asks
  asked-has : (j i : ℕ) → j < n → fed_of before.matched j ≡ None
      → Has (slice_index asked j) i ↔ ((i < n) × ((is_free before.matched i && asks rows i j) ≡ true))
  asked-has j i inside free = (
    λ has.
        let p = (calls.asked_are j i inside).0 has in
        let none : is_free before.matched i ≡ true = ap is_none (served_of-free before.matched i p.1) in
        let named : asks rows i j ≡ true = has-true (slice_index (row_of rows i).uni 0) j ((calls.columns_are j i inside).0 p.3).1 in
        (p.2, rw (none, named) refl),
    λ p.
        let q = both_true (is_free before.matched i) (asks rows i j) p.1 in
        let input : IsFreeInput before.matched i = served_of-none n before.matched calls.whole i (none-is (served_of before.matched i) q.0) in
        let named = has-member (slice_index (row_of rows i).uni 0) j q.1 in
        (calls.asked_are j i inside).1 (free, input, p.0, (calls.columns_are j i inside).1 (p.0, named)),
  )

  asked-is : (j : ℕ) → j < n → choices_in asked j ≡ asking n rows before.matched j
  asked-is j inside = go (fed_of before.matched j) refl
    where
      go : (o : Option Fed) → fed_of before.matched j ≡ o
          → choices_in asked j ≡ (if is_none o then filter (λ i. is_free before.matched i && asks rows i j) (range_with_len 0 n) else [])
      go None is = members-are (slice_index asked j) n (λ i. is_free before.matched i && asks rows i j) calls.size (λ i. asked-has j i inside is)
      go (Some f) is = members-none (slice_index asked j) (λ i has. none-some f (sym ((calls.asked_are j i inside).0 has).0 ∙ is))

  granted-is : (j : ℕ) → j < n → pick_at grants j ≡ granted n rows before j
  granted-is j inside = calls.granted_are j inside
      ∙ picked-same (choices_in asked) (asking n rows before.matched) before.stream before.stream n refl asked-is j inside

  mid-is : mid ≡ stream_granted n rows before
  mid-is = calls.granting ∙ stream-same (choices_in asked) (asking n rows before.matched) before.stream before.stream n refl asked-is

  -- who is offered what
  offered-is : (i : ℕ) → i < n → choices_in offered i ≡ offering n (granted n rows before) i
  offered-is i inside = members-are (slice_index offered i) n (λ j. is_port i (granted n rows before j)) calls.size (λ j. (
    λ has.
        let p = (calls.offered_are i j).0 has in
        let grants_i : granted n rows before j ≡ Some i = sym (granted-is j p.0) ∙ p.1 in
        (p.0, ap (is_port i) grants_i ∙ eq-eqb i i refl),
    λ p. (calls.offered_are i j).1 (p.0, granted-is j p.0 ∙ is_port-some i (granted n rows before j) p.1),
  ))

  accepted-is : (i : ℕ) → i < n → pick_at accepts i ≡ accepted n rows before i
  accepted-is i inside = calls.accepted_are i inside
      ∙ picked-same (choices_in offered) (offering n (granted n rows before)) mid (stream_granted n rows before) n mid-is offered-is i inside

  fed-is : (j : ℕ) → j < n → fed_of after j ≡ fed_by (accepted n rows before) j (fed_of before.matched j) (granted n rows before j)
  fed-is j inside = calls.fed j inside ∙ (go (pick_at grants j) refl
      ∙ ap (fed_by (accepted n rows before) j (fed_of before.matched j)) (granted-is j inside))
    where
      go : (o : Option ℕ) → pick_at grants j ≡ o
          → fed_by (pick_at accepts) j (fed_of before.matched j) (pick_at grants j) ≡ fed_by (accepted n rows before) j (fed_of before.matched j) (pick_at grants j)
      go None is = rw is refl
      go (Some i) is =
          let i_in = (((calls.asked_are j i inside).0 (calls.members_are j i is).1).2) in
          rw (is, accepted-is i i_in) refl

  pub round-is : record { matched = after; stream = last } ≡ round n rows before
  unfolding round
  round-is =
      let matched = fill_by_all (λ j. fed_by (accepted n rows before) j (fed_of before.matched j) (granted n rows before j)) after n None calls.count fed-is in
      let stream = calls.accepting
      ∙ stream-same (choices_in offered) (offering n (granted n rows before)) mid (stream_granted n rows before) n mid-is offered-is in
      λ x. record { matched = matched x; stream = stream x }

-- ---- the rounds of a slot
pub with-still : (n : ℕ) (rows : List Row) (before : RandomRounds) → last_of 1 before.added ≡ 0
    → with_round n rows before ≡ record { made = before.made; added = before.added ++ 0 ∷ [] }
with-still n rows before none = rw (eq-eqb (last_of 1 before.added) 0 none) refl

pub with-more : (n : ℕ) (rows : List Row) (before : RandomRounds) → last_of 1 before.added ≢ 0 → with_round n rows before ≡ record {
  made = round n rows before.made;
  added = before.added ++ (matched_count (round n rows before.made).matched - matched_count before.made.matched) ∷ [];
}
with-more n rows before some = rw (ne_eqb (last_of 1 before.added) 0 some) refl

-- the rounds so far made this match, and the next one is made after one that matched `added` outputs
pub record AreRounds (n : ℕ) (rows : List Row) (start k added : ℕ) (numbers : RoundsUsed) (made : RandomMatch) : Type 0 where
  pub made_are : made ≡ (rounds_made n rows start k).made
  pub last : last_of 1 (rounds_made n rows start k).added ≡ added
  pub long : length (rounds_made n rows start k).added ≡ k
  pub numbered : numbers ≡ numbers_of (rounds_made n rows start k).added

pub AreRounds-first : (n : ℕ) (rows : List Row) (start : ℕ) (numbers : RoundsUsed) (matched : List (Option Fed)) → matched ≡ unmatched n → numbers ≡ numbers_of []
    → AreRounds n rows start 0 1 numbers (record { matched = matched; stream = start })
unfolding rounds_made
AreRounds-first n rows start numbers matched none numbered = record {
  made_are = λ i. record { matched = none i; stream = start };
  last = refl;
  long = refl;
  numbered = numbered;
}

rounds-next : (n : ℕ) (rows : List Row) (start k : ℕ) → rounds_made n rows start (k + 1) ≡ with_round n rows (rounds_made n rows start k)
unfolding rounds_made
rounds-next n rows start k = rw add-one refl

pub AreRounds-next : (n : ℕ) (rows : List Row) (start k added more : ℕ) (numbers after : RoundsUsed) (made next : RandomMatch)
    → AreRounds n rows start k added numbers made
    → ((before : RandomRounds) → before.made ≡ made → last_of 1 before.added ≡ added
    → record { made = next; added = before.added ++ more ∷ [] } ≡ with_round n rows before)
    → ((each : List ℕ) → length each ≡ k → numbers ≡ numbers_of each → after ≡ numbers_of (each ++ more ∷ []))
    → AreRounds n rows start (k + 1) more after next
AreRounds-next n rows start k added more numbers after made next known step numbered = record {
  made_are = ap (λ (r : RandomRounds). r.made) now;
  last = ap (λ (r : RandomRounds). last_of 1 r.added) (sym now) ∙ last_of-append 1 more (rounds_made n rows start k).added;
  long = ap (λ (r : RandomRounds). length r.added) (sym now) ∙ (length_push (rounds_made n rows start k).added more ∙ ap (λ (m : ℕ). m + 1) known.long);
  numbered = numbered (rounds_made n rows start k).added known.long known.numbered ∙ ap (λ (r : RandomRounds). numbers_of r.added) now;
}
  where
    now : record { made = next; added = (rounds_made n rows start k).added ++ more ∷ [] } ≡ rounds_made n rows start (k + 1)
    now = step (rounds_made n rows start k) (sym known.made_are) known.last ∙ sym (rounds-next n rows start k)

-- Slots of unicast of one level alone, whose inputs and outputs are renumbered: they match the same pairs, renumbered, and
-- move their pointers alike.
use Rattle.std.proofs.Common.{◌≡◌, ℕ, ◌<◌, ◌∙◌, List, [], ◌∷◌, Option, None, Some, length, refl, ap, sym, subst, inl, inr, arith}
use Rattle.std.proofs.lemmas.Option.{none-some}
use Rattle.rotating_pick.specs.Rotation.{IsFirstFrom}
use Rattle.rotating_pick.specs.declared.kinds.Kind.{Kind}
use Rattle.rotating_pick.specs.declared.kinds.Kind.TheVariants.{Uni, Multi}
use Rattle.rotating_pick.specs.declared.limits.TheConstants.{LEVELS}
use Rattle.slot_match.specs.declared.rows.Row.{Row}
use Rattle.slot_match.specs.declared.matching.Fed.{Fed}
use Rattle.slot_match.specs.Rows.{Names, row_of}
use Rattle.slot_match.specs.Matches.{unmatched, fed_of, Serves, IsFreeOutput}
use Rattle.slot_match.proofs.Kept.{nobody_at_first}
use Rattle.slot_match.proofs.Pairs.{Serves-from, Serves-decides}
use Rattle.pointer_state.specs.Places.{Places, grant_of, accept_of}
use Rattle.islip_rounds.specs.Numbers.{last_of}
use Rattle.eslip_rounds.specs.Rounds.{preferred, Requests, Grants, Accepts, IsRound, AreRounds}
use Rattle.eslip_rounds.specs.Slots.{AreMoved}
use Rattle.eslip_rounds.proofs.Bests.{taken_from}
use Rattle.eslip_rounds.proofs.Deciding.{some_below}
use Rattle.eslip_rounds.proofs.Unique.{fed_by}
use Rattle.service_bound.proofs.LaterRounds.{first_of}
use Rattle.service_bound.proofs.Renumbering.{Renumbers, Renumbers-back, IsFirstFrom-renumbered}

-- P holds of pairs of ports as unicast of the old level alone, and Q of the same pairs, renumbered, as unicast of the new
pub record Carries (n : ℕ) (new_input new_output : ℕ → ℕ) (old_level new_level : ℕ) (P Q : ℕ → ℕ → ℕ → Kind → Type 0) : Type 0 where
  pub carried : (i j : ℕ) → P i j old_level Uni → Q (new_input i) (new_output j) new_level Uni
  pub only : (i j level : ℕ) (kind : Kind) → P i j level kind → (i < n) × (j < n) × (level ≡ old_level) × (kind ≡ Uni)

-- what P holds of, whatever the level and the kind, Q holds of renumbered
pub carry : (n : ℕ) (new_input new_output : ℕ → ℕ) (old_level new_level : ℕ) (P Q : ℕ → ℕ → ℕ → Kind → Type 0)
    → Carries n new_input new_output old_level new_level P Q → (i j level : ℕ) (kind : Kind)
    → P i j level kind → Q (new_input i) (new_output j) new_level Uni
carry n new_input new_output old_level new_level P Q carries i j level kind there =
    let at = carries.only i j level kind there in
    carries.carried i j (subst (λ k. P i j old_level k) at.3 (subst (λ v. P i j v kind) at.2 there))

-- what the rows of n inputs name
abbrev pub Posts : ℕ → List Row → ℕ → ℕ → ℕ → Kind → Type 0
Posts n rows i j level kind = (i < n) × Names (row_of rows i) level kind j

-- and what they ask, where these outputs are matched already
abbrev Asking : ℕ → List Row → List (Option Fed) → ℕ → ℕ → ℕ → Kind → Type 0
Asking n rows before i j level kind = (i < n) × Requests rows before i j level kind

-- one of two slots that are compared: a level, the rows and the pointers
pub record Side : Type 0 where
  pub level : ℕ
  pub rows : List Row
  pub places : Places

-- the pointers of the old level are at ports, and those of the new level are at the same ports, renumbered
pub record PointAlike (n : ℕ) (new_input new_output : ℕ → ℕ) (old_level new_level : ℕ) (places new_places : Places) : Type 0 where
  pub grant_in : (j : ℕ) → j < n → grant_of places j old_level < n
  pub accept_in : (i : ℕ) → i < n → accept_of places i old_level < n
  pub grants : (j : ℕ) → j < n → grant_of new_places (new_output j) new_level ≡ new_input (grant_of places j old_level)
  pub accepts : (i : ℕ) → i < n → accept_of new_places (new_input i) new_level ≡ new_output (accept_of places i old_level)

-- the two slots are alike: they post the same unicast of one level alone, renumbered, from the same pointers
pub record AreAlike (n : ℕ) (new_input old_input new_output old_output : ℕ → ℕ) (old_side new_side : Side) : Type 0 where
  pub inputs : Renumbers n new_input old_input
  pub outputs : Renumbers n new_output old_output
  pub level_in : old_side.level < LEVELS
  pub new_level_in : new_side.level < LEVELS
  pub rows_to : Carries n new_input new_output old_side.level new_side.level (Posts n old_side.rows) (Posts n new_side.rows)
  pub rows_back : Carries n old_input old_output new_side.level old_side.level (Posts n new_side.rows) (Posts n old_side.rows)
  pub pointers : PointAlike n new_input new_output old_side.level new_side.level old_side.places new_side.places

-- pointers that are alike are so too where the numbers go back
PointAlike-back : (n : ℕ) (new_input old_input new_output old_output : ℕ → ℕ) (old_level new_level : ℕ) (places new_places : Places)
    → Renumbers n new_input old_input → Renumbers n new_output old_output
    → PointAlike n new_input new_output old_level new_level places new_places → PointAlike n old_input old_output new_level old_level new_places places
PointAlike-back n new_input old_input new_output old_output old_level new_level places new_places inputs outputs alike =
    let grants : (j : ℕ) → j < n → grant_of new_places j new_level ≡ new_input (grant_of places (old_output j) old_level) =
    λ j j_in. ap (λ v. grant_of new_places v new_level) (sym (outputs.to_back j j_in)) ∙ alike.grants (old_output j) (outputs.back_in j j_in) in
    let accepts : (i : ℕ) → i < n → accept_of new_places i new_level ≡ new_output (accept_of places (old_input i) old_level) =
    λ i i_in. ap (λ v. accept_of new_places v new_level) (sym (inputs.to_back i i_in)) ∙ alike.accepts (old_input i) (inputs.back_in i i_in) in
    record {
      grant_in = λ j j_in.
          let below = inputs.to_in (grant_of places (old_output j) old_level) (alike.grant_in (old_output j) (outputs.back_in j j_in)) in
          let same = grants j j_in in
          omega arith;
      accept_in = λ i i_in.
          let below = outputs.to_in (accept_of places (old_input i) old_level) (alike.accept_in (old_input i) (inputs.back_in i i_in)) in
          let same = accepts i i_in in
          omega arith;
      grants = λ j j_in. sym (ap old_input (grants j j_in)
          ∙ inputs.back_to (grant_of places (old_output j) old_level) (alike.grant_in (old_output j) (outputs.back_in j j_in)));
      accepts = λ i i_in. sym (ap old_output (accepts i i_in)
          ∙ outputs.back_to (accept_of places (old_input i) old_level) (alike.accept_in (old_input i) (inputs.back_in i i_in)));
    }

-- and so are slots
flip : (n : ℕ) (new_input old_input new_output old_output : ℕ → ℕ) (old_side new_side : Side)
    → AreAlike n new_input old_input new_output old_output old_side new_side → AreAlike n old_input new_input old_output new_output new_side old_side
flip n new_input old_input new_output old_output old_side new_side alike = record {
  inputs = Renumbers-back n new_input old_input alike.inputs;
  outputs = Renumbers-back n new_output old_output alike.outputs;
  level_in = alike.new_level_in;
  new_level_in = alike.level_in;
  rows_to = alike.rows_back;
  rows_back = alike.rows_to;
  pointers = PointAlike-back n new_input old_input new_output old_output old_side.level new_side.level old_side.places new_side.places
      alike.inputs alike.outputs alike.pointers;
}

-- two matches with the same pairs, renumbered
pub record MatchAlike (n : ℕ) (new_input old_input new_output old_output : ℕ → ℕ) (old_level new_level : ℕ)
    (old_match new_match : List (Option Fed)) : Type 0 where
  pub to : Carries n new_input new_output old_level new_level (Serves old_match) (Serves new_match)
  pub back : Carries n old_input old_output new_level old_level (Serves new_match) (Serves old_match)

-- and matches
flip_match : (n : ℕ) (new_input old_input new_output old_output : ℕ → ℕ) (old_level new_level : ℕ) (old_match new_match : List (Option Fed))
    → MatchAlike n new_input old_input new_output old_output old_level new_level old_match new_match
    → MatchAlike n old_input new_input old_output new_output new_level old_level new_match old_match
flip_match n new_input old_input new_output old_output old_level new_level old_match new_match same = record { to = same.back; back = same.to }

module _ (n t : ℕ) (new_input old_input new_output old_output : ℕ → ℕ) (old_side new_side : Side)
    (alike : AreAlike n new_input old_input new_output old_output old_side new_side) (old_match new_match : List (Option Fed))
    (same : MatchAlike n new_input old_input new_output old_output old_side.level new_side.level old_match new_match) where
  -- the requests are alike
  requests_carry : Carries n new_input new_output old_side.level new_side.level (Asking n old_side.rows old_match) (Asking n new_side.rows new_match)
  requests_carry = record {
    carried = λ i j there.
        let i_in = there.0 in
        let to_in = alike.inputs.to_in i i_in in (
          to_in,
          elim there.1 [
            | inl free ↦ inl (
              λ z level kind served.
                  let old = carry n old_input old_output new_side.level old_side.level (Serves new_match) (Serves old_match) same.back
                  (new_input i) z level kind served in
                  free.0 (old_output z) old_side.level Uni
                  (subst (λ v. Serves old_match v (old_output z) old_side.level Uni) (alike.inputs.back_to i i_in) old),
              record {
                level_in = alike.new_level_in;
                named = (alike.rows_to.carried i j (i_in, free.1.named)).1;
                best = λ better other less named. let at = (alike.rows_back.only (new_input i) (new_output j) better other (to_in, named)).2 in omega arith;
              },
            )
            | inr on ↦ let multicast = on.multicast in absurd (cc)
          ],
        );
    only = λ i j level kind there. elim there.1 [
      | inl free ↦ alike.rows_to.only i j level kind (there.0, free.1.named)
      | inr on ↦ let unicast = (alike.rows_to.only i j level Multi (there.0, on.named)).3 in absurd (cc)
    ];
  }

module _ (n t : ℕ) (new_input old_input new_output old_output : ℕ → ℕ) (old_side new_side : Side)
    (alike : AreAlike n new_input old_input new_output old_output old_side new_side) (old_match new_match : List (Option Fed))
    (same : MatchAlike n new_input old_input new_output old_output old_side.level new_side.level old_match new_match) where
  -- what is asked of one slot is asked of the other
  asked : Carries n new_input new_output old_side.level new_side.level (Asking n old_side.rows old_match) (Asking n new_side.rows new_match)
  asked = requests_carry n t new_input old_input new_output old_output old_side new_side alike old_match new_match same

  -- and the other way round
  asked_back : Carries n old_input old_output new_side.level old_side.level (Asking n new_side.rows new_match) (Asking n old_side.rows old_match)
  asked_back = requests_carry n t old_input new_input old_output new_output new_side old_side
      (flip n new_input old_input new_output old_output old_side new_side alike) new_match old_match
      (flip_match n new_input old_input new_output old_output old_side.level new_side.level old_match new_match same)

  -- an output that is free in one match is free in the other
  output_free : (j : ℕ) → j < n → IsFreeOutput old_match j → IsFreeOutput new_match (new_output j)
  output_free j j_in free = by_feed (fed_of new_match (new_output j)) refl where
    by_feed : (feed : Option Fed) → fed_of new_match (new_output j) ≡ feed → fed_of new_match (new_output j) ≡ None
    by_feed None is = is
    by_feed (Some fed) is =
        let served = Serves-from new_match (new_output j) fed is in
        let old = carry n old_input old_output new_side.level old_side.level (Serves new_match) (Serves old_match) same.back
        fed.input (new_output j) fed.level fed.kind served in
        let here = subst (λ v. Serves old_match (old_input fed.input) v old_side.level Uni) (alike.outputs.back_to j j_in) old in
        absurd (none-some (record { input = old_input fed.input; level = old_side.level; kind = Uni }) (sym free ∙ here))

  -- the grants are alike
  grants_carry : Carries n new_input new_output old_side.level new_side.level (Grants n t old_side.rows old_side.places old_match)
      (Grants n t new_side.rows new_side.places new_match)
  grants_carry = record {
    carried = λ i j granted.
        let here = asked.only i j old_side.level Uni (granted.first.below, granted.first.member) in
        let j_in = here.1 in
        let there = asked.carried i j (granted.first.below, granted.first.member) in
        record {
          output_in = alike.outputs.to_in j j_in;
          output_free = output_free j j_in granted.output_free;
          best = record {
            there = (new_input i, there.0, there.1);
            least = λ level kind asks. let at = (asked_back.only asks.0 (new_output j) level kind (asks.1, asks.2)).2 in omega arith;
            preferred_first = λ asks. sym (asked_back.only asks.0 (new_output j) new_side.level (preferred t) (asks.1, asks.2)).3;
          };
          first = subst (λ from. IsFirstFrom n from (λ z. Requests new_side.rows new_match z (new_output j) new_side.level Uni) (new_input i))
              (sym (alike.pointers.grants j j_in))
              (IsFirstFrom-renumbered n new_input old_input alike.inputs (grant_of old_side.places j old_side.level)
              (λ z. Requests old_side.rows old_match z j old_side.level Uni)
              (λ z. Requests new_side.rows new_match z (new_output j) new_side.level Uni) i (alike.pointers.grant_in j j_in)
              (λ asks. there.1)
              (λ z z_in asks. subst (λ v. Requests old_side.rows old_match (old_input z) v old_side.level Uni) (alike.outputs.back_to j j_in)
              (asked_back.carried z (new_output j) (z_in, asks)).1)
              granted.first);
        };
    only = λ i j level kind granted. asked.only i j level kind (granted.first.below, granted.first.member);
  }

module _ (n t : ℕ) (new_input old_input new_output old_output : ℕ → ℕ) (old_side new_side : Side)
    (alike : AreAlike n new_input old_input new_output old_output old_side new_side) (old_match new_match : List (Option Fed))
    (same : MatchAlike n new_input old_input new_output old_output old_side.level new_side.level old_match new_match) where
  -- what is granted in one slot is granted in the other
  granted_to : Carries n new_input new_output old_side.level new_side.level (Grants n t old_side.rows old_side.places old_match)
      (Grants n t new_side.rows new_side.places new_match)
  granted_to = grants_carry n t new_input old_input new_output old_output old_side new_side alike old_match new_match same

  -- and the other way round
  granted_back : Carries n old_input old_output new_side.level old_side.level (Grants n t new_side.rows new_side.places new_match)
      (Grants n t old_side.rows old_side.places old_match)
  granted_back = grants_carry n t old_input new_input old_output new_output new_side old_side
      (flip n new_input old_input new_output old_output old_side new_side alike) new_match old_match
      (flip_match n new_input old_input new_output old_output old_side.level new_side.level old_match new_match same)

  -- the accepts are alike
  accepts_carry : Carries n new_input new_output old_side.level new_side.level (Accepts n t old_side.rows old_side.places old_match)
      (Accepts n t new_side.rows new_side.places new_match)
  accepts_carry = record {
    carried = λ i j accepted.
        let granted = accepted.taken.member in
        let i_in = (granted_to.only i j old_side.level Uni granted).0 in
        record {
          best = record {
            there = (new_output j, granted_to.carried i j granted);
            least = λ level kind more. let at = (granted_back.only (new_input i) more.0 level kind more.1).2 in omega arith;
            preferred_first = λ more. sym (granted_back.only (new_input i) more.0 new_side.level (preferred t) more.1).3;
          };
          taken = subst (λ from. IsFirstFrom n from (λ v. Grants n t new_side.rows new_side.places new_match (new_input i) v new_side.level Uni) (new_output j))
              (sym (alike.pointers.accepts i i_in))
              (IsFirstFrom-renumbered n new_output old_output alike.outputs (accept_of old_side.places i old_side.level)
              (λ v. Grants n t old_side.rows old_side.places old_match i v old_side.level Uni)
              (λ v. Grants n t new_side.rows new_side.places new_match (new_input i) v new_side.level Uni) j (alike.pointers.accept_in i i_in)
              (λ here. granted_to.carried i j here)
              (λ v v_in here. subst (λ u. Grants n t old_side.rows old_side.places old_match u (old_output v) old_side.level Uni) (alike.inputs.back_to i i_in)
              (granted_back.carried (new_input i) v here))
              accepted.taken);
        };
    only = λ i j level kind accepted. granted_to.only i j level kind
        (taken_from kind n (accept_of old_side.places i level) (λ v. Grants n t old_side.rows old_side.places old_match i v level kind) j accepted.taken);
  }

  -- and so is what a round matches
  round_carries : (old_after new_after : List (Option Fed)) → IsRound n t old_side.rows old_side.places old_match old_after
      → IsRound n t new_side.rows new_side.places new_match new_after
      → Carries n new_input new_output old_side.level new_side.level (Serves old_after) (Serves new_after)
  round_carries old_after new_after before after = record {
    carried = λ i j served. elim ((before.pairs i j old_side.level Uni).0 served) [
      | inl old ↦ (after.pairs (new_input i) (new_output j) new_side.level Uni).1 (inl (same.to.carried i j old))
      | inr new ↦ (after.pairs (new_input i) (new_output j) new_side.level Uni).1 (inr (accepts_carry.carried i j new))
    ];
    only = λ i j level kind served. elim ((before.pairs i j level kind).0 served) [
      | inl old ↦ same.to.only i j level kind old
      | inr new ↦ accepts_carry.only i j level kind new
    ];
  }

module _ (n t : ℕ) (new_input old_input new_output old_output : ℕ → ℕ) (old_side new_side : Side)
    (alike : AreAlike n new_input old_input new_output old_output old_side new_side) where
  -- the two matches are alike
  abbrev Alike : List (Option Fed) → List (Option Fed) → Type 0
  Alike old_match new_match = MatchAlike n new_input old_input new_output old_output old_side.level new_side.level old_match new_match

  -- a round leaves the matches alike
  round_alike : (old_match new_match old_after new_after : List (Option Fed)) → Alike old_match new_match
      → IsRound n t old_side.rows old_side.places old_match old_after → IsRound n t new_side.rows new_side.places new_match new_after
      → Alike old_after new_after
  round_alike old_match new_match old_after new_after same before after = record {
    to = round_carries n t new_input old_input new_output old_output old_side new_side alike old_match new_match same old_after new_after before after;
    back = round_carries n t old_input new_input old_output new_output new_side old_side
        (flip n new_input old_input new_output old_output old_side new_side alike) new_match old_match
        (flip_match n new_input old_input new_output old_output old_side.level new_side.level old_match new_match same) new_after old_after after before;
  }

  -- and so do rounds one after the other
  rounds_alike : (old_match new_match : List (Option Fed)) (steps new_steps : List (List (Option Fed))) → Alike old_match new_match
      → AreRounds n t old_side.rows old_side.places old_match steps
      → AreRounds n t new_side.rows new_side.places new_match new_steps → length steps ≡ length new_steps
      → Alike (last_of old_match steps) (last_of new_match new_steps)
  rounds_alike old_match new_match [] [] same before after long = same
  rounds_alike old_match new_match [] (step ∷ new_steps) same before after long = absurd (omega arith)
  rounds_alike old_match new_match (step ∷ steps) [] same before after long = absurd (omega arith)
  rounds_alike old_match new_match (step ∷ steps) (next ∷ new_steps) same before after long =
      rounds_alike step next steps new_steps (round_alike old_match new_match step next same before.0 after.0) before.1 after.1 (omega arith)

  -- where nothing is matched they are alike
  unmatched_alike : Alike (unmatched n) (unmatched n)
  unmatched_alike = record {
    to = record {
      carried = λ i j served. absurd (nobody_at_first n i j old_side.level Uni served);
      only = λ i j level kind served. absurd (nobody_at_first n i j level kind served);
    };
    back = record {
      carried = λ i j served. absurd (nobody_at_first n i j new_side.level Uni served);
      only = λ i j level kind served. absurd (nobody_at_first n i j level kind served);
    };
  }

  -- all rounds of a slot match alike
  pub slots_alike : (steps new_steps : List (List (Option Fed))) → AreRounds n t old_side.rows old_side.places (unmatched n) steps
      → AreRounds n t new_side.rows new_side.places (unmatched n) new_steps → length steps ≡ length new_steps
      → Alike (last_of (unmatched n) steps) (last_of (unmatched n) new_steps)
  slots_alike steps new_steps before after long = rounds_alike (unmatched n) (unmatched n) steps new_steps unmatched_alike before after long

  -- and so does the first
  pub firsts_alike : (steps new_steps : List (List (Option Fed))) → AreRounds n t old_side.rows old_side.places (unmatched n) steps
      → AreRounds n t new_side.rows new_side.places (unmatched n) new_steps → length steps ≡ length new_steps → Alike (first_of n steps) (first_of n new_steps)
  firsts_alike [] [] before after long = unmatched_alike
  firsts_alike [] (step ∷ new_steps) before after long = absurd (omega arith)
  firsts_alike (step ∷ steps) [] before after long = absurd (omega arith)
  firsts_alike (step ∷ steps) (next ∷ new_steps) before after long = round_alike (unmatched n) (unmatched n) step next unmatched_alike before.0 after.0

  -- after the slot the pointers are alike again
  pub pointers_alike : (old_match new_match matched new_matched : List (Option Fed)) (after new_after : Places) → Alike old_match new_match
      → length old_match ≡ n
      → AreMoved n t old_side.rows old_match matched old_side.places after → AreMoved n t new_side.rows new_match new_matched new_side.places new_after
      → ((j : ℕ) → j < n → grant_of after j old_side.level < n) → ((i : ℕ) → i < n → accept_of after i old_side.level < n)
      → PointAlike n new_input new_output old_side.level new_side.level after new_after
  pointers_alike old_match new_match matched new_matched after new_after same long moved new_moved grant_in accept_in = record {
    grant_in = grant_in;
    accept_in = accept_in;
    grants = λ j j_in. elim (fed_by old_match j old_side.level) [
      | inl met ↦
          let i_in = (same.to.only met.0 j old_side.level Uni met.1).0 in
          new_moved.granted (new_input met.0) (new_output j) new_side.level (same.to.carried met.0 j met.1) ∙ sym (alike.inputs.beyond met.0 i_in)
          ∙ ap new_input (sym (moved.granted met.0 j old_side.level met.1))
      | inr none ↦
          new_moved.grant_stays (new_output j) new_side.level
          (λ i served. none (old_input i) (subst (λ v. Serves old_match (old_input i) v old_side.level Uni) (alike.outputs.back_to j j_in)
          (same.back.carried i (new_output j) served)))
          ∙ alike.pointers.grants j j_in ∙ ap new_input (sym (moved.grant_stays j old_side.level none))
    ];
    accepts = λ i i_in. elim (some_below (λ j. Serves old_match i j old_side.level Uni) (λ j. Serves-decides old_match i j old_side.level Uni) n) [
      | inl met ↦
          new_moved.accepted (new_input i) (new_output met.0) new_side.level (same.to.carried i met.0 met.2) ∙ sym (alike.outputs.beyond met.0 met.1)
          ∙ ap new_output (sym (moved.accepted i met.0 old_side.level met.2))
      | inr none ↦
          let nobody : (j : ℕ) → Serves old_match i j old_side.level Uni → ⊥ = λ j served. none (j, (same.to.only i j old_side.level Uni served).1, served) in
          new_moved.accept_stays (new_input i) new_side.level
          (λ j served. nobody (old_output j) (subst (λ v. Serves old_match v (old_output j) old_side.level Uni) (alike.inputs.back_to i i_in)
          (same.back.carried (new_input i) j served)))
          ∙ alike.pointers.accepts i i_in ∙ ap new_output (sym (moved.accept_stays i old_side.level nobody))
    ];
  }

-- Slots of full load under round-robin matching: every grant pointer moves one on in each, so those that are together stay
-- together; and where all are, the first round has one pair.
use Rattle.std.proofs.Common.{◌≡◌, ℕ, ◌+◌, ◌-◌, ◌%◌, ◌<◌, ◌∙◌, List, [], ◌∷◌, Option, All, drop, length, refl, sym, ap, subst, inl, inr, arith}
use Rattle.std.proofs.lemmas.Bool.{cases_lt}
use Rattle.std.proofs.lemmas.List.Elements.{All-nil, All-cons, All-head, All-tail}
use Rattle.service_bound.proofs.Distances.{next-injective}
use Rattle.rotating_pick.specs.declared.kinds.Kind.{Kind}
use Rattle.rotating_pick.specs.declared.kinds.Kind.TheVariants.{Uni}
use Rattle.slot_match.specs.declared.matching.Fed.{Fed}
use Rattle.slot_match.specs.Rows.{Names, row_of, AreWithin}
use Rattle.slot_match.specs.Matches.{unmatched, Serves}
use Rattle.slot_match.proofs.Kept.{nobody_at_first}
use Rattle.slot_match.proofs.Pairs.{fed_of-lt}
use Rattle.pointer_state.specs.Places.{Places, places_at_first, grant_of, accept_of}
use Rattle.pointer_state.proofs.Tables.{place_of-at_first}
use Rattle.islip_rounds.specs.declared.numbers.RoundsUsed.{RoundsUsed}
use Rattle.islip_rounds.specs.Numbers.{matched_count}
use Rattle.eslip_rounds.specs.Rounds.{Grants}
use Rattle.eslip_rounds.specs.Schedules.{DecidedSlot}
use Rattle.eslip_rounds.proofs.Bests.{taken_from}
use Rattle.service_bound.proofs.FirstRound.{asks_at_first}
use Rattle.service_bound.proofs.Granting.{kind_alone, served_by_first}
use Rattle.service_bound.proofs.InWindows.{pointing_by}
use Rattle.service_bound.proofs.LaterRounds.{first_of, BeginsWith, BeginsWith-slot}
use Rattle.service_bound.proofs.OneRound.{one_is_first}
use Rattle.rrm_rounds.specs.Slots.{AreMovedByRrm, IsRrmSlot}
use Rattle.rrm_rounds.proofs.PointersKept.{rrm_keep}
use Rattle.scheduler_laws.specs.FullLoad.{IsFullLoad, IsFullyLoaded, IsFullyLoadedByRrm, AreTogether, IsFullSlot}
use Rattle.scheduler_laws.proofs.Counts.{count_one, first_added}
use Rattle.scheduler_laws.proofs.Filling.{level_in, grants_there, served_at, served_once, filled_at_last}

-- the first of slots of full load, and those after it
module _ (n rounds t level : ℕ) (some : 0 < rounds) (places : Places) (slot : DecidedSlot) (slots : List DecidedSlot)
    (loaded : IsFullyLoadedByRrm n rounds t level places (slot ∷ slots)) where
  abbrev decided : IsRrmSlot n rounds t slot.rows places slot.decision
  decided = loaded.schedule.0

  within : AreWithin n slot.rows
  within = All-head (λ x. AreWithin n x.rows) slot slots loaded.within

  load : IsFullLoad n level slot.rows
  load = All-head (λ x. IsFullLoad n level x.rows) slot slots loaded.load

  -- the match of its first round
  abbrev first : List (Option Fed)
  first = first_of n loaded.schedule.0.steps

  begins : BeginsWith n t slot.rows places first slot.decision.matched
  begins = BeginsWith-slot n t slot.rows places AreMovedByRrm rounds slot.decision some decided

  granted : (j : ℕ) → j < n → Grants n t slot.rows places (unmatched n) (grant_of places j level) j level Uni
  granted = grants_there n t level slot.rows places first begins.opening loaded.pointing within load

  -- each grant pointer of the level moves one on
  pub turned : (j : ℕ) → j < n → grant_of slot.decision.places j level ≡ (grant_of places j level + 1) % n
  turned j j_in = let moved = decided.moved in moved.granted (grant_of places j level) j level (granted j j_in)

  -- the slots after it are of full load as well
  pub loaded_after : IsFullyLoadedByRrm n rounds (t + 1) level slot.decision.places slots
  loaded_after = record {
    pointing = pointing_by AreMovedByRrm n rounds t level places slot (rrm_keep n level) loaded.pointing within decided;
    schedule = loaded.schedule.1;
    within = All-tail (λ x. AreWithin n x.rows) slot slots loaded.within;
    load = All-tail (λ x. IsFullLoad n level x.rows) slot slots loaded.load;
  }

  pub same_after : (j k : ℕ) → j < n → k < n → grant_of places j level ≡ grant_of places k level
      → grant_of slot.decision.places j level ≡ grant_of slot.decision.places k level
  same_after j k j_in k_in same = turned j j_in ∙ (ap (λ g. (g + 1) % n) same ∙ sym (turned k k_in))

  pub differ_after : (j k : ℕ) → j < n → k < n → (grant_of places j level ≡ grant_of places k level → ⊥)
      → grant_of slot.decision.places j level ≡ grant_of slot.decision.places k level → ⊥
  differ_after j k j_in k_in differ same =
      let turns : (grant_of places j level + 1) % n ≡ (grant_of places k level + 1) % n = sym (turned j j_in) ∙ (same ∙ turned k k_in) in
      differ (next-injective n (grant_of places j level) (grant_of places k level) (loaded.pointing.grant j j_in) (loaded.pointing.grant k k_in) turns)

  -- what the first round matches is unicast of the level
  as_level : (i j other : ℕ) (kind : Kind) → Serves first i j other kind → (j < n) × Serves first i j level Uni
  as_level i j other kind served =
      let size = begins.opening.count in
      let j_in : j < n = let lt = fed_of-lt first j (record { input = i; level = other; kind = kind }) served in omega arith in
      elim ((begins.opening.pairs i j other kind).0 served) [
        | inl old ↦ absurd (nobody_at_first n i j other kind old)
        | inr accepted ↦
            let grants : Grants n t slot.rows places (unmatched n) i j other kind = taken_from kind n (accept_of places i other)
            (λ z. Grants n t slot.rows places (unmatched n) i z other kind) j accepted.taken in
            let i_in : i < n = grants.first.below in
            let asks = asks_at_first n slot.rows i j other kind grants.first.member in
            let same : other ≡ level = elim (cases_lt other level) [
              | inl better ↦ absurd (load.clean i other j kind i_in better asks.named)
              | inr above ↦ elim (cases_lt level other) [
                | inl worse ↦ absurd (asks.best level Uni worse (load.full i j i_in j_in))
                | inr below ↦ omega arith
              ]
            ] in
            let P : ℕ → Kind → Type 0 = λ l k. Serves first i j l k in
            let at_level : Serves first i j level kind = subst (λ l. P l kind) same served in
            let alike : Uni ≡ kind = kind_alone n t level slot.rows first places
            (level_in n t level slot.rows places first begins.opening loaded.pointing within load j j_in) begins.opening loaded.pointing load.clean
            load.alone kind i j i_in (subst (λ l. Names (row_of slot.rows i) l kind j) same asks.named) in
            (j_in, subst (P level) (sym alike) at_level)
      ]

  module _ (ports : 0 < n) (together : AreTogether n level places) where
    -- of the outputs, which all grant one input, that input takes one
    one_first : matched_count first ≡ 1
    one_first =
        let there = level_in n t level slot.rows places first begins.opening loaded.pointing within load 0 ports in
        let input : ℕ = grant_of places 0 level in
        let met = served_by_first n t level slot.rows first places there begins.opening loaded.pointing load.clean load.alone input 0
        (loaded.pointing.grant 0 ports) (granted 0 ports) in
        count_one first met.0 (record { input = input; level = level; kind = Uni }) met.2
        (λ j fed is.
        let pair = as_level fed.input j fed.level fed.kind is in
        let at : grant_of places j level ≡ fed.input = served_at n t level slot.rows places first begins.opening loaded.pointing within load fed.input j
        pair.0 pair.1 in
        let same : fed.input ≡ input = sym at ∙ together j 0 pair.0 ports in
        served_once n t level slot.rows places first begins.opening loaded.pointing within load input j met.0
        (subst (λ i. Serves first i j level Uni) same pair.1) met.2)

    pub one_added : slot.decision.numbers.first ≡ 1
    one_added =
        let slot_is = decided in
        let long : 0 < length slot_is.steps = let count = slot_is.count in omega arith in
        ap (λ (numbers : RoundsUsed). numbers.first) slot_is.numbered ∙ (first_added n slot_is.steps long ∙ one_first)

    pub one_in_all : rounds ≡ 1 → matched_count slot.decision.matched ≡ 1
    one_in_all one =
        let slot_is = decided in
        let same : slot.decision.matched ≡ first = slot_is.result ∙ sym (one_is_first n slot_is.steps (slot_is.count ∙ one)) in
        ap (λ (m : List (Option Fed)). matched_count m) same ∙ one_first

    pub together_after : AreTogether n level slot.decision.places
    together_after j k j_in k_in = same_after j k j_in k_in (together j k j_in k_in)

module _ (n rounds level : ℕ) (some : 0 < rounds) where
  module _ (j k : ℕ) (j_in : j < n) (k_in : k < n) where
    abbrev AreSame : DecidedSlot → Type 0
    AreSame slot = grant_of slot.decision.places j level ≡ grant_of slot.decision.places k level

    pub stay_together : (t : ℕ) (places : Places) (slots : List DecidedSlot) → IsFullyLoadedByRrm n rounds t level places slots
        → grant_of places j level ≡ grant_of places k level → All AreSame slots
    stay_together t places [] loaded same = All-nil AreSame
    stay_together t places (slot ∷ slots) loaded same =
        let after = same_after n rounds t level some places slot slots loaded j k j_in k_in same in
        All-cons AreSame slot slots after (stay_together (t + 1) slot.decision.places slots (loaded_after n rounds t level some places slot slots loaded) after)

    abbrev AreApart : DecidedSlot → Type 0
    AreApart slot = grant_of slot.decision.places j level ≡ grant_of slot.decision.places k level → ⊥

    pub stay_apart : (t : ℕ) (places : Places) (slots : List DecidedSlot) → IsFullyLoadedByRrm n rounds t level places slots
        → (grant_of places j level ≡ grant_of places k level → ⊥) → All AreApart slots
    stay_apart t places [] loaded differ = All-nil AreApart
    stay_apart t places (slot ∷ slots) loaded differ =
        let after = differ_after n rounds t level some places slot slots loaded j k j_in k_in differ in
        All-cons AreApart slot slots after (stay_apart (t + 1) slot.decision.places slots (loaded_after n rounds t level some places slot slots loaded) after)

  -- the first round has one pair
  abbrev pub HasOneFirst : DecidedSlot → Type 0
  HasOneFirst slot = slot.decision.numbers.first ≡ 1

  pub one_for_ever : 0 < n → (t : ℕ) (places : Places) (slots : List DecidedSlot) → IsFullyLoadedByRrm n rounds t level places slots
      → AreTogether n level places → All HasOneFirst slots
  one_for_ever ports t places [] loaded together = All-nil HasOneFirst
  one_for_ever ports t places (slot ∷ slots) loaded together =
      All-cons HasOneFirst slot slots (one_added n rounds t level some places slot slots loaded ports together)
      (one_for_ever ports (t + 1) slot.decision.places slots (loaded_after n rounds t level some places slot slots loaded)
      (together_after n rounds t level some places slot slots loaded ports together))

-- and of one round there is no other
abbrev pub HasOne : DecidedSlot → Type 0
HasOne slot = matched_count slot.decision.matched ≡ 1

pub one_pair_for_ever : (n t level : ℕ) → 0 < n → (places : Places) (slots : List DecidedSlot) → IsFullyLoadedByRrm n 1 t level places slots
    → AreTogether n level places → All HasOne slots
one_pair_for_ever n t level ports places [] loaded together = All-nil HasOne
one_pair_for_ever n t level ports places (slot ∷ slots) loaded together =
    let some : 0 < 1 = omega arith in
    All-cons HasOne slot slots (one_in_all n 1 t level some places slot slots loaded ports together refl)
    (one_pair_for_ever n (t + 1) level ports slot.decision.places slots (loaded_after n 1 t level some places slot slots loaded)
    (together_after n 1 t level some places slot slots loaded ports together))

-- before the first slot all are at port 0
pub together_at_first : (n level : ℕ) → AreTogether n level (places_at_first n)
unfolding places_at_first
together_at_first n level j k j_in k_in = place_of-at_first level j ∙ sym (place_of-at_first level k)

-- of slots that are full, the counts
counts_of : (n level : ℕ) (slots : List DecidedSlot) → All (IsFullSlot n level) slots → All (λ slot. matched_count slot.decision.matched ≡ n) slots
counts_of n level [] full = All-nil (λ slot. matched_count slot.decision.matched ≡ n)
counts_of n level (slot ∷ slots) full =
    All-cons (λ x. matched_count x.decision.matched ≡ n) slot slots (All-head (IsFullSlot n level) slot slots full).count
    (counts_of n level slots (All-tail (IsFullSlot n level) slot slots full))

-- what the two schedulers match
pub pairs_of_both : (n t level : ℕ) (slots others : List DecidedSlot) → 0 < n → IsFullyLoaded n 1 t level (places_at_first n) slots
    → IsFullyLoadedByRrm n 1 t level (places_at_first n) others
    → All (λ slot. matched_count slot.decision.matched ≡ n) (drop (n - 1) slots) × All HasOne others
pairs_of_both n t level slots others ports loaded also = (
  counts_of n level (drop (n - 1) slots) (filled_at_last n 1 t level (places_at_first n) slots (omega arith) loaded),
  one_pair_for_ever n t level ports (places_at_first n) others also (together_at_first n level),
)

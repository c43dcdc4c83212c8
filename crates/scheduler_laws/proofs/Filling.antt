-- Slots of full load: each is a step of the pointers, and after n - 1 of them every slot serves every output.
use Rattle.std.proofs.Common.{◌≡◌, ℕ, zero, suc, ◌+◌, ◌-◌, ◌<◌, ◌≤◌, ◌∙◌, List, [], ◌∷◌, Option, All, drop, length, ap, subst, inl, inr, arith, Some, None}
use Rattle.std.specs.Prelude.{slice_index_or}
use Rattle.std.proofs.lemmas.Bool.{cases_eq}
use Rattle.std.proofs.lemmas.List.Elements.{All-nil, All-cons, All-head, All-tail}
use Rattle.rotating_pick.specs.Rotation.{IsFirstFrom}
use Rattle.rotating_pick.specs.declared.kinds.Kind.TheVariants.{Uni}
use Rattle.rotating_pick.specs.declared.limits.TheConstants.{LEVELS}
use Rattle.rotating_pick.proofs.First.{IsFirstFrom-only}
use Rattle.slot_match.specs.declared.rows.Row.{Row}
use Rattle.slot_match.specs.declared.matching.Fed.{Fed}
use Rattle.slot_match.specs.Rows.{Names, row_of, AreWithin}
use Rattle.slot_match.specs.Matches.{unmatched, Serves}
use Rattle.slot_match.proofs.Kept.{IsMatch-unmatched}
use Rattle.pointer_state.specs.Places.{Places, ArePointing, grant_of, accept_of}
use Rattle.islip_rounds.specs.declared.numbers.RoundsUsed.{RoundsUsed}
use Rattle.islip_rounds.specs.Numbers.{matched_count}
use Rattle.eslip_rounds.specs.Rounds.{Grants, IsRound}
use Rattle.eslip_rounds.specs.Slots.{AreMoved, IsSlot}
use Rattle.eslip_rounds.specs.Schedules.{DecidedSlot}
use Rattle.eslip_rounds.proofs.FirstRounds.{AreAccepted-round}
use Rattle.service_bound.proofs.Distances.{distance-own}
use Rattle.service_bound.proofs.FirstRound.{IsFirstKind, first_granted, grants_first}
use Rattle.service_bound.proofs.Granting.{kind_is_first, served_by_first}
use Rattle.service_bound.proofs.LaterRounds.{first_of, BeginsWith, BeginsWith-slot}
use Rattle.service_bound.proofs.InWindows.{pointing_by, AreMoved-keep}
use Rattle.scheduler_laws.specs.FullLoad.{IsFullLoad, IsFullyLoaded, IsFullMatch, IsFullSlot}
use Rattle.scheduler_laws.proofs.Counts.{count_full, length-last, first_added}
use Rattle.scheduler_laws.proofs.Pigeons.{Covers, Covers-from_once}
use Rattle.scheduler_laws.proofs.Parking.{IsStep, IsSpread, AreApart, IsSpread-first, IsSpread-next, all_taken, apart_at_last}

-- the grant pointers of the level
abbrev pub grants_of : Places → ℕ → ℕ → ℕ
grants_of places level j = grant_of places j level

-- input i takes output j in a slot's first round, of which this is the match
abbrev pub Takes : ℕ → List (Option Fed) → ℕ → ℕ → Type 0
Takes level first i j = Serves first i j level Uni

module _ (n t level : ℕ) (rows : List Row) (places : Places) (first : List (Option Fed)) (opening : IsRound n t rows places (unmatched n) first)
    (pointing : ArePointing n level places) (within : AreWithin n rows) (load : IsFullLoad n level rows) where
  -- the level is one, where there is a port
  pub level_in : (j : ℕ) → j < n → level < LEVELS
  level_in j j_in = within.levels j j_in level j Uni (load.full j j j_in j_in)

  -- the input at an output's grant pointer is the first that names the output
  is_first : (j : ℕ) → j < n → IsFirstFrom n (grant_of places j level) (λ x. Names (row_of rows x) level Uni j) (grant_of places j level)
  is_first j j_in =
      let here = distance-own n (grant_of places j level) (pointing.grant j j_in) in
      record {
        below = pointing.grant j j_in;
        member = load.full (grant_of places j level) j (pointing.grant j j_in) j_in;
        least = λ y y_in named. omega (arith, here);
      }

  -- unicast of the level comes before its multicast, which nobody asks
  unicast_first : level < LEVELS → IsFirstKind n t rows level Uni
  unicast_first there = kind_is_first n t level rows first places there opening pointing load.clean load.alone

  -- so the output grants that input
  pub grants_there : (j : ℕ) → j < n → Grants n t rows places (unmatched n) (grant_of places j level) j level Uni
  grants_there j j_in =
      let there = level_in j j_in in
      grants_first n t rows places level there load.clean Uni (unicast_first there) (grant_of places j level) j j_in (is_first j j_in)

  pub served_at : (i j : ℕ) → j < n → Serves first i j level Uni → grant_of places j level ≡ i
  served_at i j j_in served =
      let there = level_in j j_in in
      let accepted = AreAccepted-round n t rows places first opening i j level Uni served in
      IsFirstFrom-only n (grant_of places j level) (λ x. Names (row_of rows x) level Uni j) (grant_of places j level) i (pointing.grant j j_in)
      (is_first j j_in)
      (first_granted n t rows places level there load.clean Uni (unicast_first there) i j accepted.taken.member)

  pub served_once : (i j k : ℕ) → Serves first i j level Uni → Serves first i k level Uni → j ≡ k
  served_once i j k served also =
      let one = AreAccepted-round n t rows places first opening i j level Uni served in
      let other = AreAccepted-round n t rows places first opening i k level Uni also in
      IsFirstFrom-only n (accept_of places i level) (λ y. Grants n t rows places (unmatched n) i y level Uni) j k
      (pointing.accept i one.taken.member.first.below) one.taken other.taken

  pub IsStep-slot : (matched : List (Option Fed)) (after : Places) → AreMoved n t rows first matched places after
      → IsStep n (grants_of places level) (grants_of after level) (Takes level first)
  IsStep-slot matched after moved = record {
    below = pointing.grant;
    met = λ j j_in.
        let input : ℕ = grant_of places j level in
        let taken = served_by_first n t level rows first places (level_in j j_in) opening pointing load.clean load.alone input j (pointing.grant j j_in)
        (grants_there j j_in) in
        (taken.0, taken.1.below, taken.2);
    at = served_at;
    once = served_once;
    moved = λ i j served. moved.granted i j level served;
    stays = λ j none. moved.grant_stays j level none;
  }

-- where no two pointers are together, the slot's match is full
IsFullMatch-apart : (n level : ℕ) (g h : ℕ → ℕ) (first matched : List (Option Fed)) → IsStep n g h (Takes level first)
    → ((i j : ℕ) → Takes level first i j → Serves matched i j level Uni) → AreApart n g → IsFullMatch n level matched
IsFullMatch-apart n level g h first matched step stays apart =
    let taken : (j : ℕ) → j < n → Serves first (g j) j level Uni = all_taken n g h (Takes level first) step apart in
    let once : (j k : ℕ) → j < n → k < n → g j ≡ g k → j ≡ k =
    λ j k j_in k_in same. elim (cases_eq j k) [ inl one ↦ one | inr differ ↦ absurd (apart j k j_in k_in differ same) ] in
    let covers : Covers n n g = Covers-from_once n g step.below once in
    record {
      outputs = λ j j_in. (g j, step.below j j_in, stays (g j) j (taken j j_in));
      inputs = λ i i_in.
          let at : (j : ℕ) × (j < n) × (g j ≡ i) = covers i i_in in
          (at.0, at.1, stays i at.0 (subst (λ x. Serves first x at.0 level Uni) at.2 (taken at.0 at.1)));
    }

-- a full match has a pair at each output
fed_each : (n level : ℕ) (matched : List (Option Fed)) → IsFullMatch n level matched → length matched ≡ n
    → (j : ℕ) → j < length matched → (fed : Fed) × (slice_index_or matched j None ≡ Some fed)
fed_each n level matched full size j j_in =
    let one = full.outputs j (omega (arith, size)) in
    (record { input = one.0; level = level; kind = Uni }, one.2)

-- the first of slots of full load, as a step of the pointers, and those after it
module _ (n rounds t level : ℕ) (some : 0 < rounds) (places : Places) (slot : DecidedSlot) (slots : List DecidedSlot)
    (loaded : IsFullyLoaded n rounds t level places (slot ∷ slots)) where
  abbrev pub decided_here : IsSlot n rounds t slot.rows places slot.decision
  decided_here = loaded.schedule.0

  pub within_here : AreWithin n slot.rows
  within_here = All-head (λ x. AreWithin n x.rows) slot slots loaded.within

  pub load_here : IsFullLoad n level slot.rows
  load_here = All-head (λ x. IsFullLoad n level x.rows) slot slots loaded.load

  -- the match of its first round
  abbrev pub first_here : List (Option Fed)
  first_here = first_of n loaded.schedule.0.steps

  pub begins : BeginsWith n t slot.rows places first_here slot.decision.matched
  begins = BeginsWith-slot n t slot.rows places AreMoved rounds slot.decision some decided_here

  pub step_here : IsStep n (grants_of places level) (grants_of slot.decision.places level) (Takes level first_here)
  step_here =
      IsStep-slot n t level slot.rows places first_here begins.opening loaded.pointing within_here load_here
      slot.decision.matched slot.decision.places decided_here.moved

  -- the slots after it are of full load as well
  pub loaded_later : IsFullyLoaded n rounds (t + 1) level slot.decision.places slots
  loaded_later = record {
    pointing = pointing_by AreMoved n rounds t level places slot (AreMoved-keep n level) loaded.pointing within_here decided_here;
    schedule = loaded.schedule.1;
    within = All-tail (λ x. AreWithin n x.rows) slot slots loaded.within;
    load = All-tail (λ x. IsFullLoad n level x.rows) slot slots loaded.load;
  }

  -- more places are taken after it
  pub spread_later : (s : ℕ) → IsSpread n s (grants_of places level) → IsSpread n (s + 1) (grants_of slot.decision.places level)
  spread_later s = IsSpread-next n (grants_of places level) (grants_of slot.decision.places level) (Takes level first_here) step_here s

  -- where no two pointers are together, it is full
  IsFullSlot-apart : AreApart n (grants_of places level) → IsFullSlot n level slot
  IsFullSlot-apart apart =
      let decided = decided_here in
      let made = λ (matched : List (Option Fed)). IsFullMatch-apart n level (grants_of places level)
      (grants_of slot.decision.places level) first_here matched step_here in
      let at_first : IsFullMatch n level first_here = made first_here (λ i j served. served) apart in
      let at_last : IsFullMatch n level slot.decision.matched = made slot.decision.matched (λ i j. begins.stays i j level Uni) apart in
      let first_size : length first_here ≡ n = begins.opening.count in
      let last_size = length-last n t slot.rows places (unmatched n) decided.steps (IsMatch-unmatched n).count decided.chain in
      let size : length slot.decision.matched ≡ n = ap length decided.result ∙ last_size in
      let long : 0 < length decided.steps = let count = decided.count in omega arith in
      let added : slot.decision.numbers.first ≡ matched_count first_here =
      ap (λ (numbers : RoundsUsed). numbers.first) decided.numbered ∙ first_added n decided.steps long in
      record {
        full = at_last;
        count = count_full slot.decision.matched (fed_each n level slot.decision.matched at_last size) ∙ size;
        first = added ∙ (count_full first_here (fed_each n level first_here at_first first_size) ∙ first_size);
      }

-- Slots of full load, before which as many as `spent` have spread the pointers.
pub record AreSpreading (n rounds level : ℕ) (slots : List DecidedSlot) : Type 0 where
  pub spent : ℕ
  pub t : ℕ
  pub places : Places
  pub some : 0 < rounds
  pub spread : IsSpread n spent (grants_of places level)
  pub loaded : IsFullyLoaded n rounds t level places slots

-- after the first of them
abbrev pub spread_on : (n rounds level : ℕ) (slot : DecidedSlot) (slots : List DecidedSlot) → AreSpreading n rounds level (slot ∷ slots)
    → AreSpreading n rounds level slots
spread_on n rounds level slot slots on = record {
  spent = on.spent + 1;
  t = on.t + 1;
  places = slot.decision.places;
  some = on.some;
  spread = spread_later n rounds on.t level on.some on.places slot slots on.loaded on.spent on.spread;
  loaded = loaded_later n rounds on.t level on.some on.places slot slots on.loaded;
}

-- and before any
abbrev pub spread_first : (n rounds t level : ℕ) (places : Places) (slots : List DecidedSlot) → 0 < rounds → IsFullyLoaded n rounds t level places slots
    → AreSpreading n rounds level slots
spread_first n rounds t level places slots some loaded = record {
  spent = 0;
  t = t;
  places = places;
  some = some;
  spread = IsSpread-first n (grants_of places level) loaded.pointing.grant;
  loaded = loaded;
}

-- the first m may have outputs that nothing feeds
filled_after : (n rounds level m : ℕ) (slots : List DecidedSlot) (on : AreSpreading n rounds level slots) → n ≤ m + on.spent + 1
    → All (IsFullSlot n level) (drop m slots)
filled_after n rounds level zero [] on late = All-nil (IsFullSlot n level)
filled_after n rounds level (suc m) [] on late = All-nil (IsFullSlot n level)
filled_after n rounds level zero (slot ∷ slots) on late =
    let apart = apart_at_last n on.spent (grants_of on.places level) (omega arith) on.loaded.pointing.grant on.spread in
    All-cons (IsFullSlot n level) slot slots
    (IsFullSlot-apart n rounds on.t level on.some on.places slot slots on.loaded apart)
    (filled_after n rounds level zero slots (spread_on n rounds level slot slots on) (omega arith))
filled_after n rounds level (suc m) (slot ∷ slots) on late =
    filled_after n rounds level m slots (spread_on n rounds level slot slots on) (omega arith)

-- after the first n - 1 slots every slot is full
pub filled_at_last : (n rounds t level : ℕ) (places : Places) (slots : List DecidedSlot) → 0 < rounds
    → IsFullyLoaded n rounds t level places slots → All (IsFullSlot n level) (drop (n - 1) slots)
filled_at_last n rounds t level places slots some loaded =
    filled_after n rounds level (n - 1) slots (spread_first n rounds t level places slots some loaded) (omega arith)

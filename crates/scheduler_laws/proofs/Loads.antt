-- Slots of full load there are, as many as one wants, from any pointers of a switch.
use Rattle.std.proofs.Common.{◌≡◌, ℕ, zero, suc, ◌+◌, ◌-◌, ◌^◌, ◌<◌, ◌∙◌, List, [], ◌∷◌, length, replicate, slice_index, slice_set, refl, sym}
use Rattle.std.proofs.Common.{ap, subst, inl, inr, arith, get_or-set_same, get_or-set_other}
use Rattle.std.proofs.lemmas.Bool.{cases_eq, cases_lt}
use Rattle.std.proofs.lemmas.List.{get_or-replicate, length-replicate}
use Rattle.std.proofs.lemmas.List.Elements.{All-nil, All-cons}
use Rattle.std.proofs.lemmas.Nat.Bits.{bit_at_ones, bit_at_ones_above}
use Rattle.rotating_pick.specs.PortSets.{Has}
use Rattle.rotating_pick.specs.declared.kinds.Kind.{Kind}
use Rattle.rotating_pick.specs.declared.kinds.Kind.TheVariants.{Uni, Multi}
use Rattle.rotating_pick.specs.declared.limits.TheConstants.{LEVELS}
use Rattle.rotating_pick.proofs.Tables.{no_members}
use Rattle.slot_match.specs.declared.rows.Row.{Row}
use Rattle.slot_match.specs.Rows.{Names, row_of, no_row, AreWithin}
use Rattle.pointer_state.specs.Places.{Places, AreAtPorts, ArePointing}
use Rattle.eslip_rounds.specs.Slots.{Moving}
use Rattle.eslip_rounds.specs.Schedules.{DecidedSlot}
use Rattle.eslip_rounds.specs.Schedulers.{Scheduler, IsSchedulerBy, IsScheduler}
use Rattle.scheduler_laws.specs.FullLoad.{IsFullLoad, IsFullyLoadedBy}

-- a row with all of n outputs at one level
abbrev row_at : ℕ → ℕ → Row
row_at n level = record { uni = slice_set (replicate LEVELS 0) level (2 ^ n - 1); multi = replicate LEVELS 0 }

abbrev rows_at : ℕ → ℕ → List Row
rows_at n level = replicate n (row_at n level)

module _ (n level : ℕ) (level_in : level < LEVELS) where
  row_is : (i : ℕ) → i < n → row_of (rows_at n level) i ≡ row_at n level
  row_is i i_in = get_or-replicate n i (row_at n level) no_row i_in

  set_is : slice_index (slice_set (replicate LEVELS 0) level (2 ^ n - 1)) level ≡ 2 ^ n - 1
  set_is = get_or-set_same (replicate LEVELS 0) level (2 ^ n - 1) 0 level_in

  named_only : (other j : ℕ) (kind : Kind) → Names (row_at n level) other kind j → (other ≡ level) × (kind ≡ Uni) × (j < n)
  named_only other j Multi named = absurd (no_members LEVELS other j named)
  named_only other j Uni named = elim (cases_eq other level) [
    | inr apart ↦ absurd (no_members LEVELS other j (subst (λ set. Has set j) (get_or-set_other (replicate LEVELS 0) level other (2 ^ n - 1) 0 apart) named))
    | inl same ↦
        let here : Has (2 ^ n - 1) j = subst (λ set. Has set j) (ap (slice_index (slice_set (replicate LEVELS 0) level (2 ^ n - 1))) same ∙ set_is) named in
        (same, refl, elim (cases_lt j n) [ inl below ↦ below | inr above ↦ absurd (omega (arith, here, bit_at_ones_above n j above)) ])
  ]

  named_in : (i other j : ℕ) (kind : Kind) → i < n → Names (row_of (rows_at n level) i) other kind j → (other ≡ level) × (kind ≡ Uni) × (j < n)
  named_in i other j kind i_in named = named_only other j kind (subst (λ row. Names row other kind j) (row_is i i_in) named)

  AreWithin-rows : AreWithin n (rows_at n level)
  AreWithin-rows = record {
    count = length-replicate n (row_at n level);
    ports = λ i i_in other j kind named. (named_in i other j kind i_in named).2;
    levels = λ i i_in other j kind named. let at = (named_in i other j kind i_in named).0 in omega arith;
  }

  IsFullLoad-rows : IsFullLoad n level (rows_at n level)
  IsFullLoad-rows = record {
    full = λ i j i_in j_in. subst (λ row. Names row level Uni j) (sym (row_is i i_in)) (subst (λ set. Has set j) (sym set_is) (bit_at_ones n j j_in));
    alone = λ i j i_in named. let kind = (named_in i level j Multi i_in named).1 in absurd (cc);
    clean = λ i better j kind i_in less named. let at = (named_in i better j kind i_in named).0 in absurd (omega arith);
  }

  module _ (Moves : Moving) (scheduler : Scheduler) (by : IsSchedulerBy Moves scheduler) (stays : IsScheduler scheduler) where
    -- a slot of full load, before others
    loaded_cons : (rounds t : ℕ) (places : Places) (slots : List DecidedSlot) → AreAtPorts places → places.ports ≡ n
        → let decision = scheduler n rounds t (rows_at n level) places in
        IsFullyLoadedBy Moves n rounds (t + 1) level decision.places slots
        → IsFullyLoadedBy Moves n rounds t level places (record { rows = rows_at n level; decision = decision } ∷ slots)
    loaded_cons rounds t places slots at_ports ports later =
        let slot : DecidedSlot = record { rows = rows_at n level; decision = scheduler n rounds t (rows_at n level) places } in
        record {
          pointing = subst (λ m. ArePointing m level places) ports (at_ports.pointing level level_in);
          schedule = (by n rounds t (rows_at n level) places AreWithin-rows at_ports ports, later.schedule);
          within = All-cons (λ x. AreWithin n x.rows) slot slots AreWithin-rows later.within;
          load = All-cons (λ x. IsFullLoad n level x.rows) slot slots IsFullLoad-rows later.load;
        }

    -- so many slots from slot t on
    pub loads : (rounds count t : ℕ) (places : Places) → AreAtPorts places → places.ports ≡ n
        → (slots : List DecidedSlot) × IsFullyLoadedBy Moves n rounds t level places slots × (length slots ≡ count)
    loads rounds zero t places at_ports ports =
        let none : IsFullyLoadedBy Moves n rounds t level places [] = record {
          pointing = subst (λ m. ArePointing m level places) ports (at_ports.pointing level level_in);
          schedule = tt;
          within = All-nil (λ slot. AreWithin n slot.rows);
          load = All-nil (λ slot. IsFullLoad n level slot.rows);
        } in
        ([], none, refl)
    loads rounds (suc count) t places at_ports ports =
        let decision = scheduler n rounds t (rows_at n level) places in
        let later_ports = (stays n rounds t (rows_at n level) places AreWithin-rows at_ports ports).moved in
        let rest = loads rounds count (t + 1) decision.places later_ports.0 (later_ports.1 ∙ ports) in
        let slot : DecidedSlot = record { rows = rows_at n level; decision = decision } in
        (slot ∷ rest.0, loaded_cons rounds t places rest.0 at_ports ports rest.1, ap suc rest.2)

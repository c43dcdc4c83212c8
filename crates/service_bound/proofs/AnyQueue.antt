-- Windows for any queue: those of queue (0, 0) at level 0, renumbered, and at another level.
use Rattle.std.proofs.Common.{◌≡◌, ℕ, ◌+◌, ◌%◌, ◌<◌, ◌≤◌, ◌∙◌, List, All, length, ap, sym, subst, arith}
use Rattle.std.proofs.Math.Nat.{mod-eq_of_lt}
use Rattle.std.proofs.lemmas.Nat.{mod_below}
use Rattle.rotating_pick.specs.declared.kinds.Kind.TheVariants.{Uni}
use Rattle.rotating_pick.specs.declared.limits.TheConstants.{LEVELS, MAX_PORTS}
use Rattle.slot_match.specs.declared.rows.Row.{Row}
use Rattle.slot_match.specs.Rows.{Names, row_of, AreWithin}
use Rattle.pointer_state.specs.Places.{Places, ArePointing}
use Rattle.eslip_rounds.specs.Schedules.{DecidedSlot}
use Rattle.service_bound.specs.Windows.{IsClean, IsWithoutMulticast}
use Rattle.service_bound.specs.Waits.{longest_service, longest_service_in_one_round}
use Rattle.service_bound.specs.Latest.{ServeLast, IsServedLast}
use Rattle.service_bound.proofs.Postings.{Posting, posted}
use Rattle.service_bound.proofs.PostedRuns.{run, length-run, All-run, IsSwitch, IsLate}
use Rattle.service_bound.proofs.Renumbering.{Renumbers, counted_from, counted_back, Renumbers-from}
use Rattle.service_bound.proofs.RenumberedSlots.{PointAlike}
use Rattle.service_bound.proofs.RenumberedRuns.{OnlyAt, rows_for, names_for, AreWithin-for, IsClean-for, IsWithoutMulticast-for, redecided}
use Rattle.service_bound.proofs.RenumberedRuns.{length-redecided, All-redecided, slots_anew}
use Rattle.service_bound.proofs.Descents.{IsServedLast-run, places_at, grant_of-places_at, accept_of-places_at, IsSwitch-places_at, places_at_one}
use Rattle.service_bound.proofs.Descents.{IsBeginning-at_one}
use Rattle.service_bound.proofs.OneRoundFamily as one
use Rattle.service_bound.proofs.MoreRoundsFamily as more
use Rattle.service_bound.proofs.TwoPortsFamily as two

-- a queue is served last in some window of `slot_count` slots
abbrev pub IsReached : ℕ → ℕ → ℕ → ℕ → ℕ → ℕ → ℕ → Type 0
IsReached n rounds t i j level slot_count = (places : Places) × (slots : List DecidedSlot) × IsServedLast n rounds t i j level places slots
    × (length slots ≡ slot_count)

OnlyAt-run : (n rounds t : ℕ) (places : Places) (ps : List Posting) → All (λ slot. OnlyAt n 0 slot.rows) (run n rounds t places ps)
OnlyAt-run n rounds t places ps =
    All-run n rounds t places (OnlyAt n 0) (λ p x y level kind there. let at = posted n p x y level kind there.0 there.1 in (there.0, at.2, at.0, at.1)) ps

-- from port a on, port 0 is port a
counted_from-zero : (n a : ℕ) → a < n → counted_from n a 0 ≡ a
unfolding counted_from
counted_from-zero n a a_in = let e : 0 + a ≡ a = omega arith in ap (λ v. v % n) e ∙ mod-eq_of_lt a_in

-- a queue of a switch of n ports
pub record IsQueue (n i j level : ℕ) : Type 0 where
  pub input : i < n
  pub output : j < n
  pub level_in : level < LEVELS
  pub size : n ≤ MAX_PORTS

module _ (n rounds t i j level : ℕ) (queue : IsQueue n i j level) where
  some : 0 < n
  some = let inside = queue.input in omega arith

  inputs : Renumbers n (counted_from n i) (counted_back n i)
  inputs = Renumbers-from n i queue.input

  outputs : Renumbers n (counted_from n j) (counted_back n j)
  outputs = Renumbers-from n j queue.output

  one_in : 1 % n < n
  one_in = mod_below 1 n some

  later : Places
  later = places_at n (counted_from n i (1 % n)) (counted_from n j (1 % n))

  IsSwitch-later : IsSwitch n later
  unfolding later
  IsSwitch-later = IsSwitch-places_at n (counted_from n i (1 % n)) (counted_from n j (1 % n)) some queue.size (inputs.to_in (1 % n) one_in)
      (outputs.to_in (1 % n) one_in)

  pointers : PointAlike n (counted_from n i) (counted_from n j) 0 level (places_at_one n) later
  unfolding later places_at_one
  pointers =
      let zero_in : 0 < LEVELS = omega arith in
      let grant = λ (y : ℕ) (y_in : y < n). grant_of-places_at n (1 % n) (1 % n) y 0 (omega arith) zero_in in
      let accept = λ (x : ℕ) (x_in : x < n). accept_of-places_at n (1 % n) (1 % n) x 0 (omega arith) zero_in in
      record {
        grant_in = λ y y_in. let e = grant y y_in in let below = one_in in omega arith;
        accept_in = λ x x_in. let e = accept x x_in in let below = one_in in omega arith;
        grants = λ y y_in. let below = outputs.to_in y y_in in
            grant_of-places_at n (counted_from n i (1 % n)) (counted_from n j (1 % n)) (counted_from n j y) level (omega arith) queue.level_in
            ∙ ap (counted_from n i) (sym (grant y y_in));
        accepts = λ x x_in. let below = inputs.to_in x x_in in
            accept_of-places_at n (counted_from n i (1 % n)) (counted_from n j (1 % n)) (counted_from n i x) level (omega arith) queue.level_in
            ∙ ap (counted_from n j) (sym (accept x x_in));
      }

  -- what is late for queue (0, 0) is so for queue (i, j) of the level
  any_late : (ps : List Posting) → IsLate n rounds t (places_at_one n) ps → IsReached n rounds t i j level (length ps)
  any_late ps late =
      let begins = IsBeginning-at_one n some queue.size in
      let slots = run n rounds t (places_at_one n) ps in
      let zero_last = IsServedLast-run n rounds t (places_at_one n) ps begins.switch late in
      let zero_in : 0 < LEVELS = omega arith in
      let only = OnlyAt-run n rounds t (places_at_one n) ps in
      let new = redecided n rounds (counted_from n i) (counted_back n i) (counted_from n j)
      (counted_back n j) inputs outputs 0 level zero_in queue.level_in t later slots in
      let anew = slots_anew n rounds (counted_from n i) (counted_back n i) (counted_from n j)
      (counted_back n j) inputs outputs 0 level zero_in queue.level_in slots t
      (places_at_one n) later zero_last.window only IsSwitch-later pointers 0 0 some some in
      let i_is = counted_from-zero n i queue.input in
      let j_is = counted_from-zero n j queue.output in
      let All-new : (P Q : List Row → Type 0) → ((rows : List Row) → P rows → Q (rows_for n (counted_back n i) (counted_back n j) 0 level rows))
      → All (λ slot. P slot.rows) slots → All (λ slot. Q slot.rows) new =
      λ P Q each all. All-redecided n rounds (counted_from n i) (counted_back n i) (counted_from n j)
      (counted_back n j) inputs outputs 0 level zero_in queue.level_in P Q each t later slots all in (
        later,
        new,
        record {
          at_ports = IsSwitch-later.at_ports;
          ports = IsSwitch-later.ports;
          window = record {
            pointing = subst (λ m. ArePointing m level later) IsSwitch-later.ports (IsSwitch-later.at_ports.pointing level queue.level_in);
            schedule = anew.schedule;
            within = All-new (OnlyAt n 0) (AreWithin n) (λ rows at. AreWithin-for n (counted_back n i) (counted_back n j) 0 level queue.level_in rows) only;
            kept = anew.kept;
            clean = All-new (OnlyAt n 0) (IsClean n level) (λ rows at. IsClean-for n (counted_back n i) (counted_back n j) 0 level queue.level_in rows) only;
          };
          alone = All-new (OnlyAt n 0) (IsWithoutMulticast n level)
              (λ rows at. IsWithoutMulticast-for n (counted_back n i) (counted_back n j) 0 level queue.level_in rows) only;
          posted = All-new (λ rows. Names (row_of rows 0) 0 Uni 0) (λ rows. Names (row_of rows i) level Uni j)
              (λ rows named. names_for n (counted_back n i) (counted_back n j) 0 level queue.level_in rows i j queue.input queue.output
              (subst (λ v. Names (row_of rows v) 0 Uni (counted_back n j j)) (sym (zero_back i queue.input inputs i_is))
              (subst (λ v. Names (row_of rows 0) 0 Uni v) (sym (zero_back j queue.output outputs j_is)) named)))
              zero_last.posted;
          last = subst (λ u. ServeLast u j level new) i_is (subst (λ v. ServeLast (counted_from n i 0) v level new) j_is (anew.last zero_last.last));
        },
        length-redecided n rounds (counted_from n i) (counted_back n i) (counted_from n j)
            (counted_back n j) inputs outputs 0 level zero_in queue.level_in t later slots ∙ length-run n rounds t (places_at_one n) ps,
      ) where
        zero_back : (a : ℕ) → a < n → Renumbers n (counted_from n a) (counted_back n a) → counted_from n a 0 ≡ a → counted_back n a a ≡ 0
        zero_back a a_in by is = ap (counted_back n a) (sym is) ∙ by.back_to 0 some

pub one_reached : (n t i j level : ℕ) → IsQueue n i j level → IsReached n 1 t i j level (longest_service_in_one_round n)
one_reached n t i j level queue =
    let ports = some n 1 t i j level queue in
    let begins = IsBeginning-at_one n ports queue.size in
    subst (IsReached n 1 t i j level) (one.length-family n ports)
    (any_late n 1 t i j level queue (one.family n) (one.late_family n t (places_at_one n) ports begins))

pub more_reached : (n rounds t i j level : ℕ) → 2 < n → 1 < rounds → IsQueue n i j level → IsReached n rounds t i j level (longest_service n)
more_reached n rounds t i j level three many queue =
    let begins = IsBeginning-at_one n (omega arith) queue.size in
    subst (IsReached n rounds t i j level) (more.length-family n three)
    (any_late n rounds t i j level queue (more.family n) (more.late_family n rounds many three t (places_at_one n) begins))

pub two_reached : (rounds t i j level : ℕ) → 0 < rounds → i < 2 → j < 2 → level < LEVELS → IsReached 2 rounds t i j level 3
two_reached rounds t i j level some_rounds i_in j_in level_in =
    let begins = IsBeginning-at_one 2 (omega arith) (omega arith) in
    any_late 2 rounds t i j level (record { input = i_in; output = j_in; level_in = level_in; size = omega arith }) two.family
    (two.late_family rounds some_rounds t (places_at_one 2) begins)

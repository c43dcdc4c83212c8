-- Slots in which nothing happens: what a reference keeps after them.
use Rattle.std.proofs.Common.{◌≡◌, ◌≢◌, ◌∙◌, ℕ, zero, suc, ◌+◌, ◌-◌, ◌<◌, ◌≤◌, List, [], ◌∷◌, ◌++◌, map, length, replicate, Option, None, Some, slice_get}
use Rattle.std.proofs.Common.{refl, sym, ap, subst, arith, append_assoc}
use Rattle.std.specs.Option.{option_map}
use Rattle.std.proofs.lemmas.Bool.{ne_eqb}
use Rattle.std.proofs.lemmas.List.{append-nil, replicate-append-replicate}
use Rattle.rotating_pick.specs.PortSets.{Has}
use Rattle.slot_match.specs.declared.matching.Served.{Served}
use Rattle.slot_match.specs.declared.rows.Row.{Row}
use Rattle.slot_match.specs.Matches.{unmatched, IsMatch}
use Rattle.slot_match.specs.Parts.{served_of}
use Rattle.slot_match.proofs.Kept.{nobody_at_first, IsMatch-unmatched}
use Rattle.slot_match.proofs.ServedParts.{served_of-is}
use Rattle.card_core.specs.declared.plan.Planned.{Planned}
use Rattle.card_core.specs.Plans.{arriving}
use Rattle.card_core.specs.StateSteps.{next_in, arriving_if}
use Rattle.card_core.proofs.Passing.{arriving-there}
use Rattle.output_queued.specs.declared.coming.Coming.{Coming}
use Rattle.output_queued.specs.declared.tally.Tally.{Tally}
use Rattle.output_queued.specs.Switches.{Matched, card_for, planned_of, brought, cells_from, comes, served_in, rows_after}
use Rattle.output_queued.specs.NotingSteps.{Source, State, source_at, tally_at, cards_in, IsUnserved, HasNoted}
use Rattle.output_queued.specs.QuietSteps.{IsQuietFor}
use Rattle.output_queued.specs.Following.{MayFollow}
use Rattle.output_queued.specs.Steps.{HasTaken, Stand, HaveEntered, with_cells, cells_of_first}
use Rattle.output_queued.proofs.Totals.{total-none, total-more}
use Rattle.output_queued.proofs.Sources.{packets-are, planned-at, none_at}
use Rattle.output_queued.proofs.Arrivals.{none-more}
use Rattle.output_queued.proofs.Runs.{ran-all}
use Rattle.output_queued.proofs.Following.{slots-more}
use Rattle.output_queued.proofs.Noted.{coming_of, coming-same, comes-are, sources-long, cards-long, cards-in-good, served-in, stand, noted-next}

-- ---- a slot in which no packet comes
-- none of these comes in slot t
abbrev NoneOf : List Coming → ℕ → Type 0
NoneOf coming t = (k : ℕ) (c : Coming) → slice_get coming k ≡ Some c → c.slot ≢ t

-- no packet of an input comes in slot t
abbrev pub NoneComes : List Source → ℕ → Type 0
NoneComes sources t = (i : ℕ) → NoneOf (source_at sources i).coming t

next-none : (coming : List Coming) (next t : ℕ) → NoneOf coming t → option_map planned_of None ≡ next_in (map planned_of coming) next t
next-none coming next t none = by (slice_get (map planned_of coming) next) refl where
  by : (there : Option Planned) → slice_get (map planned_of coming) next ≡ there → ◌≡◌ {A = Option Planned} None (arriving_if t there)
  by None is = refl
  by (Some p) is =
      let (c, at, same) = planned-at coming next p is in
      let slot : c.slot ≡ p.arrival = ap (λ (q : Planned). q.arrival) same in
      rw (ne_eqb p.arrival t (λ now. none next c at (slot ∙ now))) refl

cells-none : (n depth : ℕ) (coming : List Coming) (served : List (Option Served)) (j t : ℕ) → NoneOf coming t
    → cells_from (card_for n depth coming) served j t ≡ 0
cells-none n depth coming served j t none = by (arriving (card_for n depth coming) t) refl where
  by : (arrives : Option (ℕ × Planned)) → arriving (card_for n depth coming) t ≡ arrives → brought (card_for n depth coming) served j t arrives ≡ 0
  by None is = refl
  by (Some (k, p)) is =
      let found = arriving-there 0 (card_for n depth coming).packets t k p is in
      let (c, at, same) = planned-at coming found.0 p (ap (λ ps. slice_get ps found.0) (sym (packets-are n depth coming)) ∙ found.2) in
      absurd (none found.0 c at (ap (λ (q : Planned). q.arrival) same ∙ found.3))

-- the inputs let in nothing
none-entered : (ports depth slot : ℕ) (served : ℕ → List (Option Served)) (sources : List Source) (tallies : List Tally)
    → Stand ports depth slot sources served → NoneComes sources slot → HaveEntered ports depth slot ports served sources sources tallies tallies
none-entered ports depth slot served sources tallies stands none = record {
  count = refl;
  coming = λ i. refl;
  entered = λ i inside. (none_at ports depth (source_at sources i) (served i) (stands.parts i inside) (stands.before i inside) slot (stands.long i inside)
      (next-none (source_at sources i).coming (source_at sources i).next slot (none i))).queues;
  left = λ i above. refl;
  tallies = λ j.
      let nothing : cells_of_first ports depth sources served j slot ports ≡ 0 =
      total-none (λ i. cells_from (card_for ports depth (source_at sources i).coming) (served i) j slot) ports
      (λ i inside. cells-none ports depth (source_at sources i).coming (served i) j slot (none i)) in
      sym (ap (with_cells (tally_at tallies j)) nothing ∙ none-more (tally_at tallies j));
}

-- ---- a slot that matches nothing
no-part : (n i : ℕ) → served_of (unmatched n) i ≡ None
no-part n i = by (served_of (unmatched n) i) refl where
  by : (part : Option Served) → served_of (unmatched n) i ≡ part → part ≡ None
  by None is = refl
  by (Some part) is =
      let mine = served_of-is n (unmatched n) (IsMatch-unmatched n) i part is in
      let (j, has) = mine.some in
      absurd (nobody_at_first n i j part.level part.kind ((mine.outputs j).0 has))

-- to no output has a cell come that the run has not served
abbrev pub AreServedAll : State → Type 0
AreServedAll s = (j : ℕ) → Has s.unserved j → ⊥

-- the reference at another slot
abbrev pub at_slot : State → ℕ → State
at_slot s slots = record { ports = s.ports; depth = s.depth; slots = slots; sources = s.sources; tallies = s.tallies; unserved = s.unserved }

module _ (s : State) (matches : List Matched) (noted : HasNoted s matches) (few : length matches + 1 < 4294967296) (all : AreServedAll s) where
  abbrev rows : List Row
  rows = rows_after (cards_in s) matches

  may : MayFollow (cards_in s) matches rows (unmatched s.ports)
  may = record {
    few = few;
    rows_are = refl;
    whole = subst (λ n. IsMatch n (unmatched s.ports)) (sym (cards-long s matches noted)) (IsMatch-unmatched s.ports);
    named = λ i j level kind pair. absurd (nobody_at_first s.ports i j level kind pair);
  }

  taken : (i : ℕ) → i < length s.sources → HasTaken (served_of (unmatched s.ports) i) (source_at s.sources i) (source_at s.sources i)
  taken i inside = subst (λ part. HasTaken part (source_at s.sources i) (source_at s.sources i)) (sym (no-part s.ports i)) refl

  -- the inputs stand before the packets of the next slot
  pub quiet-stand : Stand s.ports s.depth (s.slots + 1) s.sources (served_in (matches ++ unmatched s.ports ∷ []))
  quiet-stand = stand s matches noted rows (unmatched s.ports) may s.sources refl taken

  -- and with these the slot is noted
  pub quiet-next : (after : List Source) (counted : List Tally) (unserved : ℕ) → length counted ≡ length s.tallies
      → ((j : ℕ) → (tally_at counted j).came ≤ (tally_at s.tallies j).came + 131072)
      → HaveEntered s.ports s.depth (s.slots + 1) s.ports (served_in (matches ++ unmatched s.ports ∷ [])) s.sources after s.tallies counted
      → IsUnserved unserved counted
      → HasNoted (record { ports = s.ports; depth = s.depth; slots = s.slots + 1; sources = after; tallies = counted; unserved = unserved })
      (matches ++ unmatched s.ports ∷ [])
  quiet-next after counted unserved same small entered is =
      noted-next s matches noted rows (unmatched s.ports) may s.sources refl taken s.tallies refl (λ j has. absurd (all j has)) (λ j lacks. refl)
      after counted unserved same small entered is

  quiet-one : NoneComes s.sources (s.slots + 1) → HasNoted (at_slot s (s.slots + 1)) (matches ++ unmatched s.ports ∷ [])
  quiet-one none =
      quiet-next s.sources s.tallies s.unserved refl (λ j. omega arith)
      (none-entered s.ports s.depth (s.slots + 1) (served_in (matches ++ unmatched s.ports ∷ [])) s.sources s.tallies quiet-stand none)
      noted.stands.unserved

-- ---- the slots but the last
pub quiet-many : (k : ℕ) (s : State) (matches : List Matched) → HasNoted s matches → length matches + k < 4294967296 → AreServedAll s
    → ((t : ℕ) → length matches < t → t ≤ length matches + k → NoneComes s.sources t) → (slots : ℕ) → slots ≡ s.slots + k
    → HasNoted (at_slot s slots) (matches ++ replicate k (unmatched s.ports))
quiet-many zero s matches noted few all none slots is =
    let same : s.slots ≡ slots = omega arith in
    subst (HasNoted (at_slot s slots)) (sym (append-nil matches)) (subst (λ n. HasNoted (at_slot s n) matches) same noted)
quiet-many (suc k) s matches noted few all none slots is =
    let one = unmatched s.ports in
    let at = noted.stands.slots in
    let long = slots-more matches one in
    let next = quiet-one s matches noted (omega arith) all (none (s.slots + 1) (omega arith) (omega arith)) in
    subst (HasNoted (at_slot s slots)) (append_assoc matches (one ∷ []) (replicate k one))
    (quiet-many k (at_slot s (s.slots + 1)) (matches ++ one ∷ []) next (omega arith) all (λ t after within. none t (omega arith) (omega arith)) slots
    (omega arith))

-- ---- a reference that waits
module _ (s : State) (matches : List Matched) (noted : HasNoted s matches) (slots : ℕ) (some : 0 < slots) (quiet : IsQuietFor s matches slots) where
  -- no packet comes in the slots
  pub none-comes : (t : ℕ) → s.slots ≤ t → t < s.slots + slots → NoneComes s.sources t
  none-comes t from until i k c there now =
      let at = noted.stands.slots in
      let past = quiet.none i k c there (omega arith) in
      omega arith

  pub all-served-quiet : AreServedAll s
  all-served-quiet j has =
      let at = noted.stands.slots in
      let (inside, less) = (noted.stands.unserved.members j).0 has in
      let count = noted.stands.count in
      let below : j < s.ports = omega arith in
      let ports = cards-long s matches noted in
      let tally = noted.stands.tallies j below in
      let whole = ran-all (cards_in s) matches (cards-in-good s matches noted) (served-in s matches noted) j quiet.empty (omega arith) in
      let more = total-more (comes (cards_in s) matches j) (length matches) (length matches + 1) refl in
      let nothing : comes (cards_in s) matches j (length matches) ≡ 0 =
      comes-are s.ports s.depth s.sources matches j (length matches) s.ports (sources-long s matches noted)
      ∙ total-none (λ i. cells_from (card_for s.ports s.depth (source_at s.sources i).coming) (served_in matches i) j (length matches)) s.ports
      (λ i within. cells-none s.ports s.depth (source_at s.sources i).coming (served_in matches i) j (length matches)
      (none-comes (length matches) (omega arith) (omega arith) i)) in
      let came = tally.came in
      let ran' = tally.ran in
      absurd (omega arith)

-- for any slots that it has noted
module _ (s : State) (matches : List Matched) (noted : HasNoted s matches) (slots : ℕ) (some : 0 < slots) (few : s.slots + slots < 4294967296)
    (all : AreServedAll s) (none : (t : ℕ) → s.slots ≤ t → t < s.slots + slots → NoneComes s.sources t) where
  abbrev one : Matched
  one = unmatched s.ports

  abbrev k : ℕ
  k = slots - 1

  -- before the last of them
  so_far : HasNoted (at_slot s (s.slots + k)) (matches ++ replicate k one)
  so_far =
      let at = noted.stands.slots in
      quiet-many k s matches noted (omega arith) all (λ t after within. none t (omega arith) (omega arith)) (s.slots + k) refl

  fits : length (matches ++ replicate k one) + 1 < 4294967296
  fits = let at = so_far.stands.slots in omega arith

  last-slot : s.slots + k + 1 ≡ s.slots + slots
  last-slot = omega arith

  all-slots : (matches ++ replicate k one) ++ one ∷ [] ≡ matches ++ replicate slots one
  all-slots =
      let count : k + 1 ≡ slots = omega arith in
      append_assoc matches (replicate k one) (one ∷ []) ∙ ap (λ ms. matches ++ ms) (replicate-append-replicate k 1 one ∙ ap (λ n. replicate n one) count)

  pub skip-stand : Stand s.ports s.depth (s.slots + slots) s.sources (served_in (matches ++ replicate slots one))
  skip-stand =
      subst (λ n. Stand s.ports s.depth n s.sources (served_in (matches ++ replicate slots one))) last-slot
      (subst (λ ms. Stand s.ports s.depth (s.slots + k + 1) s.sources (served_in ms)) all-slots
      (quiet-stand (at_slot s (s.slots + k)) (matches ++ replicate k one) so_far fits all))

  pub skip-next : (after : List Source) (counted : List Tally) (unserved : ℕ) → length counted ≡ length s.tallies
      → ((j : ℕ) → (tally_at counted j).came ≤ (tally_at s.tallies j).came + 131072)
      → HaveEntered s.ports s.depth (s.slots + slots) s.ports (served_in (matches ++ replicate slots one)) s.sources after s.tallies counted
      → IsUnserved unserved counted
      → HasNoted (record { ports = s.ports; depth = s.depth; slots = s.slots + slots; sources = after; tallies = counted; unserved = unserved })
      (matches ++ replicate slots one)
  skip-next after counted unserved same small entered is =
      subst (λ n. HasNoted (record { ports = s.ports; depth = s.depth; slots = n; sources = after; tallies = counted; unserved = unserved })
      (matches ++ replicate slots one)) last-slot
      (subst (HasNoted (record { ports = s.ports; depth = s.depth; slots = s.slots + k + 1; sources = after; tallies = counted; unserved = unserved }))
      all-slots
      (quiet-next (at_slot s (s.slots + k)) (matches ++ replicate k one) so_far fits all after counted unserved same small
      (subst (λ n. HaveEntered s.ports s.depth n s.ports (served_in ((matches ++ replicate k one) ++ one ∷ [])) s.sources after s.tallies counted)
      (sym last-slot)
      (subst (λ ms. HaveEntered s.ports s.depth (s.slots + slots) s.ports (served_in ms) s.sources after s.tallies counted) (sym all-slots) entered)) is))

  pub skip-coming : (after : List Source) (counted : List Tally)
      → HaveEntered s.ports s.depth (s.slots + slots) s.ports (served_in (matches ++ replicate slots one)) s.sources after s.tallies counted
      → coming_of after ≡ coming_of s.sources
  skip-coming after counted entered = coming-same s.sources after entered.count (λ i inside. entered.coming i)

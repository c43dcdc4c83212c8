-- A card, and one that is told by the cells of the packets that go anywhere: their queues hold as many cells, with the
-- same fan-outs.
use Rattle.std.proofs.Common.{◌≡◌, ◌∙◌, ℕ, zero, suc, ◌+◌, ◌-◌, ◌<◌, ◌==◌, ◌&&◌, not, nat_le, Bool, true, false, List, [], ◌∷◌, ◌++◌, map, drop, length}
use Rattle.std.proofs.Common.{Option, None, Some, slice_get, slice_index_or, refl, sym, ap, subst, arith, inl, inr, if◌then◌else◌}
use Rattle.std.specs.Prelude.{filter}
use Rattle.std.specs.List.{range_with_len}
use Rattle.std.proofs.lemmas.Bool.{cases_Bool, cases_eq, eq-eqb, ne_eqb}
use Rattle.std.proofs.lemmas.List.{length-map, map-append, drop-map}
use Rattle.std.proofs.lemmas.Simd.{map-map}
use Rattle.rotating_pick.specs.declared.limits.TheConstants.{LEVELS}
use Rattle.cell_cutter.specs.declared.cell.CellName.{CellName}
use Rattle.slot_match.specs.declared.matching.Served.{Served}
use Rattle.slot_match.specs.declared.rows.Row.{Row}
use Rattle.slot_match.specs.Parts.{set_of}
use Rattle.multicast_queue.specs.FanQueues.{FanCell, first_fan}
use Rattle.voq_banks.specs.CellQueues.{names_of_packet, cells_with_fan}
use Rattle.slot_histories.specs.Tests.{has}
use Rattle.card_core.specs.declared.plan.Planned.{Planned}
use Rattle.card_core.specs.Plans.{Plan, Queue, OfOutput, OfLevel, IsGoodPlan, AreRising, is_queue, queue_of, size_of, arriving, arriving_from}
use Rattle.card_core.specs.Queues.{Passed, waiting, remaining, rest_of, is_routed, is_admitted, fits, coming, with_arrival, with_since, head_gone}
use Rattle.card_core.specs.Queues.{after_part, after_part_of, before, queue_in}
use Rattle.card_core.specs.Posts.{has_cells, row_at}
use Rattle.card_core.proofs.Passing.{arriving-there}
use Rattle.output_queued.specs.Switches.{planned_of, card_for, brought, cells_from}
use Rattle.output_queued.proofs.Shares.{routed-if}
use Rattle.output_queued.proofs.Sources.{size-planned, packets-are, ports-are, depth-is}
use Rattle.reference_run.specs.Meeting.{coming_of, coming_in}

-- the packets of a card that go anywhere, as a card has them
abbrev pub told_of : List Planned → List Planned
told_of ps = map planned_of (map coming_of (filter is_routed ps))

-- ---- the packet of a slot
pub data ArrivesAs : Option (ℕ × Planned) → Option (ℕ × Planned) → Type 0 where
  both : (k m : ℕ) (p : Planned) → is_routed p ≡ true → ArrivesAs (Some (k, p)) (Some (m, planned_of (coming_of p)))
  nothing : ArrivesAs None None
  nowhere : (k : ℕ) (p : Planned) → is_routed p ≡ false → ArrivesAs (Some (k, p)) None

none-step : (p : Planned) (ps : List Planned) (m t : ℕ) → (p.arrival ≡ t → ⊥) → arriving_from (m + 1) (told_of ps) t ≡ None
    → arriving_from m (told_of ps) t ≡ None → (b : Bool)
    → arriving_from m (map planned_of (map coming_of (if b then p ∷ filter is_routed ps else filter is_routed ps))) t ≡ None
none-step p ps m t other first second true = rw (ne_eqb p.arrival t other) first
none-step p ps m t other first second false = second

none-later : (ps : List Planned) (m t : ℕ) → ((i : ℕ) (r : Planned) → slice_get ps i ≡ Some r → t < r.arrival) → arriving_from m (told_of ps) t ≡ None
none-later [] m t later = refl
none-later (p ∷ ps) m t later =
    let up = later 0 p refl in
    none-step p ps m t (λ e. omega arith) (none-later ps (m + 1) t (λ i r at. later (suc i) r at)) (none-later ps m t (λ i r at. later (suc i) r at))
    (is_routed p)

-- with one packet more, which goes anywhere or not
abbrev told_with : Planned → List Planned → Bool → List Planned
told_with p ps routed = map planned_of (map coming_of (if routed then p ∷ filter is_routed ps else filter is_routed ps))

arrives-step : (p : Planned) (ps : List Planned) (k m t : ℕ) → ArrivesAs (arriving_from (k + 1) ps t) (arriving_from (m + 1) (told_of ps) t)
    → ArrivesAs (arriving_from (k + 1) ps t) (arriving_from m (told_of ps) t)
    → (p.arrival ≡ t → arriving_from m (told_of ps) t ≡ None) → ArrivesAs (arriving_from k (p ∷ ps) t) (arriving_from m (told_of (p ∷ ps)) t)
arrives-step p ps k m t first second none =
    elim (cases_Bool (is_routed p)) [
      | inl routed ↦
          subst (λ b. ArrivesAs (arriving_from k (p ∷ ps) t) (arriving_from m (told_with p ps b) t)) (sym routed) (elim (cases_eq p.arrival t) [
            | inl now ↦ rw (eq-eqb p.arrival t now) (both k m p routed)
            | inr later ↦ rw (ne_eqb p.arrival t later) first
          ])
      | inr passed ↦
          subst (λ b. ArrivesAs (arriving_from k (p ∷ ps) t) (arriving_from m (told_with p ps b) t)) (sym passed) (elim (cases_eq p.arrival t) [
            | inl now ↦
                subst (ArrivesAs (if p.arrival == t then Some (k, p) else arriving_from (k + 1) ps t)) (sym (none now))
                (rw (eq-eqb p.arrival t now) (nowhere k p passed))
            | inr later ↦ rw (ne_eqb p.arrival t later) second
          ])
    ]

pub arrives-as : (ps : List Planned) → AreRising ps → (k m t : ℕ) → ArrivesAs (arriving_from k ps t) (arriving_from m (told_of ps) t)
arrives-as [] rising k m t = nothing
arrives-as (p ∷ ps) rising k m t =
    let tail : AreRising ps = λ a b q r x y less. rising (suc a) (suc b) q r x y (omega arith) in
    arrives-step p ps k m t (arrives-as ps tail (k + 1) (m + 1) t) (arrives-as ps tail (k + 1) m t)
    (λ now. none-later ps m t (λ i r at. let up = rising 0 (suc i) p r refl at (omega arith) in omega arith))

-- ---- queues with the same fan-outs
abbrev pub fans : List FanCell → List ℕ
fans cells = map (λ (c : FanCell). c.fan) cells

pub record Alike (s told : Passed) : Type 0 where
  pub cells : fans told.entered ≡ fans s.entered
  pub left : told.left ≡ s.left
  pub since : told.since ≡ s.since

first-by : (w v : List FanCell) → fans v ≡ fans w → first_fan v ≡ first_fan w
first-by [] [] same = refl
first-by [] (c ∷ v) same = absurd (cc)
first-by (c ∷ w) [] same = absurd (cc)
first-by (c ∷ w) (d ∷ v) same = cc

has-by : (w v : List FanCell) → fans v ≡ fans w → has_cells v ≡ has_cells w
has-by [] [] same = refl
has-by [] (c ∷ v) same = absurd (cc)
has-by (c ∷ w) [] same = absurd (cc)
has-by (c ∷ w) (d ∷ v) same = refl

pub waiting-alike : (s told : Passed) → Alike s told → fans (waiting told) ≡ fans (waiting s)
waiting-alike s told alike =
    sym (drop-map (λ (c : FanCell). c.fan) told.left told.entered)
    ∙ ap (λ n. drop n (fans told.entered)) alike.left
    ∙ ap (drop s.left) alike.cells
    ∙ drop-map (λ (c : FanCell). c.fan) s.left s.entered

rest-alike : (q : Queue) (s told : Passed) → Alike s told → rest_of q told ≡ rest_of q s
rest-alike q s told alike =
    ap (λ fan. remaining q fan told.since) (first-by (waiting s) (waiting told) (waiting-alike s told alike))
    ∙ ap (remaining q (first_fan (waiting s))) alike.since

long-alike : (s told : Passed) → Alike s told → length told.entered ≡ length s.entered
long-alike s told alike = sym (length-map told.entered (λ (c : FanCell). c.fan)) ∙ ap length alike.cells ∙ length-map s.entered (λ (c : FanCell). c.fan)

fans-with : (k m size fan : ℕ) → fans (cells_with_fan k size fan) ≡ fans (cells_with_fan m size fan)
fans-with k m size fan =
    map-map (λ (c : FanCell). c.fan) (λ (name : CellName). record { name = name; fan = fan }) (names_of_packet k size)
    ∙ map-map (λ (name : CellName). fan) (λ i. record { packet = k; number = i; last = i + 1 == size }) (range_with_len 0 size)
    ∙ sym (map-map (λ (name : CellName). fan) (λ i. record { packet = m; number = i; last = i + 1 == size }) (range_with_len 0 size))
    ∙ sym (map-map (λ (c : FanCell). c.fan) (λ (name : CellName). record { name = name; fan = fan }) (names_of_packet m size))

fans-if : (b d : Bool) (k m size other fan : ℕ) → d ≡ b → other ≡ size
    → fans (if d then cells_with_fan m other fan else []) ≡ fans (if b then cells_with_fan k size fan else [])
fans-if true d k m size other fan same sizes = rw (same, sizes) (fans-with m k size fan)
fans-if false d k m size other fan same sizes = rw same refl

since-alike : (s told : Passed) (parts parts' : List (Option Served)) → Alike s told → parts' ≡ parts → Alike (with_since s parts) (with_since told parts')
since-alike s told parts parts' alike same = record { cells = alike.cells; left = alike.left; since = same }

module _ (q : Queue) (s told : Passed) (alike : Alike s told) (part : Option Served) where
  next-if : (b : Bool) → Alike (if b then head_gone s else with_since s (part ∷ s.since)) (if b then head_gone told else with_since told (part ∷ told.since))
  next-if true = let left = alike.left in record { cells = alike.cells; left = omega arith; since = refl }
  next-if false = since-alike s told (part ∷ s.since) (part ∷ told.since) alike (ap (λ ps. part ∷ ps) alike.since)

  part-of : (w v : List FanCell) → fans v ≡ fans w → Alike (after_part_of q s part w) (after_part_of q told part v)
  part-of [] [] same = since-alike s told [] [] alike refl
  part-of [] (d ∷ v) same = absurd (cc)
  part-of (c ∷ w) [] same = absurd (cc)
  part-of (c ∷ w) (d ∷ v) same =
      let rest = rest-alike q (with_since s (part ∷ s.since)) (with_since told (part ∷ told.since)) (next-if false) in
      subst (λ n. Alike (if rest_of q (with_since s (part ∷ s.since)) == 0 then head_gone s else with_since s (part ∷ s.since))
      (if n == 0 then head_gone told else with_since told (part ∷ told.since))) (sym rest)
      (next-if (rest_of q (with_since s (part ∷ s.since)) == 0))

  pub part-alike : Alike (after_part q s part) (after_part q told part)
  part-alike = part-of (waiting s) (waiting told) (waiting-alike s told alike)

-- the row of so many ports with these queues that are not empty, and these rests
abbrev row-by : ℕ → (ℕ → ℕ → Bool) → (ℕ → ℕ) → Row
row-by n f g = record { uni = map (λ l. set_of n (f l)) (range_with_len 0 LEVELS); multi = map g (range_with_len 0 LEVELS) }

-- ---- a card, and what is told of it
module _ (card : Plan) (good : IsGoodPlan card) where
  abbrev pub told_card : Plan
  told_card = card_for card.ports card.depth (coming_in card)

  size-told : (k : ℕ) (p : Planned) → slice_get card.packets k ≡ Some p → is_routed p ≡ true → size_of (planned_of (coming_of p)) ≡ size_of p
  size-told k p there routed =
      let len = (good.packets k p there).forwarded (λ none. let e = eq-eqb p.fan 0 none in let r : not true ≡ true = rw e at routed in absurd (cc)) in
      size-planned (coming_of p) (omega arith) (omega arith)

  fits-told : (s told : Passed) → Alike s told → (p r : Planned) → size_of r ≡ size_of p → fits told_card told r ≡ fits card s p
  fits-told s told alike p r size =
      let long = long-alike s told alike in
      let left = alike.left in
      let depth = depth-is card.ports card.depth (coming_in card) in
      fits-by (length told.entered - told.left + size_of r) (length s.entered - s.left + size_of p) told_card.depth card.depth (omega arith) depth where
        fits-by : (a b d e : ℕ) → a ≡ b → d ≡ e → nat_le a d ≡ nat_le b e
        fits-by a b d e x y = rw (x, y) refl

  coming-told : (q : Queue) (s told : Passed) → Alike s told → (t : ℕ) (a b : Option (ℕ × Planned)) → arriving card t ≡ a → ArrivesAs a b
      → fans (coming told_card q told b) ≡ fans (coming card q s a)
  coming-told q s told alike t (Some (k, p)) (Some (m, r)) is (both k' m' p' routed) =
      let found = arriving-there 0 card.packets t k p is in
      let size = size-told found.0 p found.2 routed in
      let fit = fits-told s told alike p (planned_of (coming_of p)) size in
      fans-if (is_routed p && is_queue q (queue_of p) && fits card s p)
      (is_routed p && is_queue q (queue_of p) && fits told_card told (planned_of (coming_of p))) k m (size_of p) (size_of (planned_of (coming_of p))) p.fan
      (ap (λ b. is_routed p && is_queue q (queue_of p) && b) fit) size
  coming-told q s told alike t None None is nothing = refl
  coming-told q s told alike t None (Some b) is as' = elim as' [ ]
  coming-told q s told alike t (Some (k, p)) None is (nowhere k' p' unrouted) =
      sym (ap (λ b. fans (if b && is_queue q (queue_of p) && fits card s p then cells_with_fan k (size_of p) p.fan else [])) unrouted)

  told-arrives : (t : ℕ) → ArrivesAs (arriving card t) (arriving told_card t)
  told-arrives t = subst (λ ps. ArrivesAs (arriving card t) (arriving_from 0 ps t)) (sym (packets-are card.ports card.depth (coming_in card)))
      (arrives-as card.packets good.rising 0 0 t)

  arrival-alike : (q : Queue) (s told : Passed) (t : ℕ) → Alike s told
      → Alike (with_arrival card q (arriving card t) s) (with_arrival told_card q (arriving told_card t) told)
  arrival-alike q s told t alike =
      let fan = λ (c : FanCell). c.fan in
      let come = coming card q s (arriving card t) in
      let come' = coming told_card q told (arriving told_card t) in
      record {
        cells = map-append fan told.entered come' ∙ ap (λ xs. xs ++ fans come') alike.cells
            ∙ ap (λ xs. fans s.entered ++ xs) (coming-told q s told alike t (arriving card t) (arriving told_card t) refl (told-arrives t))
            ∙ sym (map-append fan s.entered come);
        left = alike.left;
        since = alike.since;
      }

  pub before-alike : (q : Queue) (served : List (Option Served)) (t : ℕ) → Alike (before card q served t) (before told_card q served t)
  before-alike q served zero = record { cells = refl; left = refl; since = refl }
  before-alike q served (suc t) =
      part-alike q (queue_in card q served t) (queue_in told_card q served t)
      (arrival-alike q (before card q served t) (before told_card q served t) t (before-alike q served t)) (slice_index_or served t None)

  pub in-alike : (q : Queue) (served : List (Option Served)) (t : ℕ) → Alike (queue_in card q served t) (queue_in told_card q served t)
  in-alike q served t = arrival-alike q (before card q served t) (before told_card q served t) t (before-alike q served t)

  -- the same rows
  pub row-told : (served : List (Option Served)) (t : ℕ) → row_at told_card served t ≡ row_at card served t
  row-told served t =
      let waits : (λ (l j : ℕ). has_cells (waiting (queue_in told_card (OfOutput j l) served t))) ≡
      (λ l j. has_cells (waiting (queue_in card (OfOutput j l) served t))) =
      λ x l j. has-by (waiting (queue_in card (OfOutput j l) served t)) (waiting (queue_in told_card (OfOutput j l) served t))
      (waiting-alike _ _ (in-alike (OfOutput j l) served t)) x in
      let rests : (λ (l : ℕ). rest_of (OfLevel l) (queue_in told_card (OfLevel l) served t)) ≡ (λ l. rest_of (OfLevel l) (queue_in card (OfLevel l) served t)) =
      λ x l. rest-alike (OfLevel l) (queue_in card (OfLevel l) served t) (queue_in told_card (OfLevel l) served t) (in-alike (OfLevel l) served t) x in
      ap (λ (n : ℕ). row-by n (λ l j. has_cells (waiting (queue_in told_card (OfOutput j l) served t)))
      (λ l. rest_of (OfLevel l) (queue_in told_card (OfLevel l) served t))) (ports-are card.ports card.depth (coming_in card))
      ∙ ap (λ (f : ℕ → ℕ → Bool). row-by card.ports f (λ l. rest_of (OfLevel l) (queue_in told_card (OfLevel l) served t))) waits
      ∙ ap (λ (g : ℕ → ℕ). row-by card.ports (λ l j. has_cells (waiting (queue_in card (OfOutput j l) served t))) g) rests

  -- the same cells
  lacks-if : (h r m : Bool) (x : ℕ) → (h ≡ true → r ≡ true) → r ≡ false → ◌≡◌ {A = ℕ} 0 (if h && m then x else 0)
  lacks-if true r m x goes none = let e = goes refl in absurd (cc)
  lacks-if false r m x goes none = refl

  brought-told : (served : List (Option Served)) (j t : ℕ) (a b : Option (ℕ × Planned)) → arriving card t ≡ a → ArrivesAs a b
      → brought told_card served j t b ≡ brought card served j t a
  brought-told served j t (Some (k, p)) (Some (m, r)) is (both k' m' p' routed) =
      let found = arriving-there 0 card.packets t k p is in
      let size = size-told found.0 p found.2 routed in
      let fit = fits-told (before card (queue_of p) served t) (before told_card (queue_of p) served t) (before-alike (queue_of p) served t) p
      (planned_of (coming_of p)) size in
      ap (λ b. if has p.fan j && b then size_of (planned_of (coming_of p)) else 0) fit
      ∙ ap (λ n. if has p.fan j && is_admitted card served t p then n else 0) size
  brought-told served j t None None is nothing = refl
  brought-told served j t None (Some b) is as' = elim as' [ ]
  brought-told served j t (Some (k, p)) None is (nowhere k' p' unrouted) =
      lacks-if (has p.fan j) (is_routed p) (is_admitted card served t p) (size_of p) (routed-if j p) unrouted

  pub cells-told : (served : List (Option Served)) (j t : ℕ) → cells_from told_card served j t ≡ cells_from card served j t
  cells-told served j t = brought-told served j t (arriving card t) (arriving told_card t) refl (told-arrives t)

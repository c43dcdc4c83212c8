-- The cells of a queue that go to an output, packet by packet: before the cell of a name stand those of its packet that come
-- before it, and no others since the last last one.
use Rattle.std.proofs.Common.{◌≡◌, ◌∙◌, ℕ, zero, suc, ◌+◌, ◌-◌, ◌<◌, ◌==◌, ◌&&◌, nat_lt, Bool, true, false, cond, List, [], ◌∷◌, ◌++◌, map, Option, Some}
use Rattle.std.proofs.Common.{slice_get, slice_index_or, refl, sym, ap, subst, arith, if◌then◌else◌}
use Rattle.std.specs.List.{range_with_len, flat_map}
use Rattle.std.proofs.lemmas.Bool.{le-leb, lt-leb}
use Rattle.std.proofs.lemmas.List.Elements.{filter-append}
use Rattle.std.proofs.lemmas.List.FromFn.{map-range_with_len_more}
use Rattle.std.proofs.lemmas.Option.{get_or_from_slice_get}
use Rattle.slot_match.specs.declared.matching.Served.{Served}
use Rattle.slot_histories.specs.Tests.{has}
use Rattle.multicast_queue.specs.FanQueues.{FanCell}
use Rattle.cell_cutter.specs.declared.cell.Cell.{Cell}
use Rattle.cell_cutter.specs.declared.cell.CellName.{CellName}
use Rattle.voq_banks.specs.CellQueues.{names_of_packet, cells_with_fan}
use Rattle.reassembly.specs.Cutting.{rest_after}
use Rattle.card_core.specs.declared.plan.Planned.{Planned}
use Rattle.card_core.specs.Plans.{Plan, Queue, IsGoodPlan, size_of, cell_in, cell_named, no_packet}
use Rattle.card_core.specs.Queues.{enters, cells_admitted}
use Rattle.card_core.specs.Grants.{to_output}
use Rattle.card_core.proofs.Messaging.{all_go, none_goes, message-long}
use Rattle.run_laws.proofs.PacketCells.{named}

-- the packet of a number
abbrev pub packet_at : Plan → ℕ → Planned
packet_at plan k = slice_index_or plan.packets k no_packet

-- so many cells of packet k from number a on, and their names
abbrev cells_from : Plan → ℕ → ℕ → ℕ → List Cell
cells_from plan k a n = map (cell_in plan (packet_at plan k)) (range_with_len a n)

abbrev names_from : Plan → ℕ → ℕ → ℕ → List FanCell
names_from plan k a n = map (λ name. record { name = name; fan = (packet_at plan k).fan })
    (map (λ i. record { packet = k; number = i; last = i + 1 == size_of (packet_at plan k) }) (range_with_len a n))

-- all names of packet k
abbrev packet_names : Plan → ℕ → List FanCell
packet_names plan k = names_from plan k 0 (size_of (packet_at plan k))

-- the plan has packet k, and all packets of some numbers
abbrev IsThere : Plan → ℕ → Type 0
IsThere plan k = slice_get plan.packets k ≡ Some (packet_at plan k)

abbrev AreThere : Plan → List ℕ → Type 0
AreThere plan [] = Unit {0}
AreThere plan (k ∷ ks) = IsThere plan k × AreThere plan ks

-- The name is one of its packet's, and the cells that stand are those before it.
pub record IsNextName (plan : Plan) (stand : List Cell) (name : CellName) : Type 0 where
  pub there : slice_get plan.packets name.packet ≡ Some (packet_at plan name.packet)
  pub few : name.number < size_of (packet_at plan name.packet)
  pub last : name.last ≡ (name.number + 1 == size_of (packet_at plan name.packet))
  pub begun : stand ≡ map (cell_in plan (packet_at plan name.packet)) (range_with_len 0 name.number)

head_is : (c d : FanCell) (xs ys : List FanCell) → c ∷ xs ≡ d ∷ ys → c ≡ d
head_is c d xs ys is = cc

tail_is : (c d : FanCell) (xs ys : List FanCell) → c ∷ xs ≡ d ∷ ys → xs ≡ ys
tail_is c d xs ys is = cc

not_nil : (xs ys : List FanCell) (c : FanCell) → xs ++ c ∷ ys ≡ [] → ⊥
not_nil [] ys c is = cc
not_nil (x ∷ xs) ys c is = cc

-- ---- the next name, where all are the names of some packets
module _ (plan : Plan) (good : IsGoodPlan plan) where
  abbrev Goes : List FanCell → FanCell → List FanCell → Type 0
  Goes cells c rest = (begun : List Cell) (k : ℕ) (ks : List ℕ) (a n : ℕ) → IsThere plan k → AreThere plan ks → a + suc n ≡ size_of (packet_at plan k)
      → begun ≡ cells_from plan k 0 a → cells ++ c ∷ rest ≡ names_from plan k a (suc n) ++ flat_map (packet_names plan) ks
      → IsNextName plan (rest_after begun (named plan cells)) c.name

  next_packet : (cells : List FanCell) (c : FanCell) (rest : List FanCell) → Goes cells c rest → (ks : List ℕ) → AreThere plan ks
      → cells ++ c ∷ rest ≡ flat_map (packet_names plan) ks → IsNextName plan (rest_after [] (named plan cells)) c.name
  next_packet cells c rest goes [] all is = absurd (not_nil cells rest c is)
  next_packet cells c rest goes (k ∷ ks) all is =
      let size = size_of (packet_at plan k) in
      let count : suc (size - 1) ≡ size = omega arith in
      goes [] k ks 0 (size - 1) all.0 all.1 (omega (arith, count)) refl
      (is ∙ ap (λ n. names_from plan k 0 n ++ flat_map (packet_names plan) ks) (sym count))

  next_none : (c : FanCell) (rest : List FanCell) → Goes [] c rest
  next_none c rest begun k ks a n there all count is was =
      let name : CellName = record { packet = k; number = a; last = a + 1 == size_of (packet_at plan k) } in
      let first : FanCell = record { name = name; fan = (packet_at plan k).fan } in
      let here = head_is c first rest (names_from plan k (a + 1) n ++ flat_map (packet_names plan) ks) was in
      let next : IsNextName plan begun name = record { there = there; few = omega (arith, count); last = refl; begun = is } in
      subst (λ (x : FanCell). IsNextName plan begun x.name) (sym here) next

  next_one : (d : FanCell) (cells : List FanCell) (c : FanCell) (rest : List FanCell) → Goes cells c rest → Goes (d ∷ cells) c rest
  next_one d cells c rest goes begun k ks a zero there all count is was =
      let name : CellName = record { packet = k; number = a; last = a + 1 == size_of (packet_at plan k) } in
      let first : FanCell = record { name = name; fan = (packet_at plan k).fan } in
      let long = message-long plan good k (packet_at plan k) there in
      let here = head_is d first (cells ++ c ∷ rest) (flat_map (packet_names plan) ks) was in
      let last : (cell_named plan d.name).last ≡ true =
      ap (λ (x : FanCell). (cell_named plan x.name).last) here ∙ le-leb _ _ (omega (arith, count, long)) in
      let more = tail_is d first (cells ++ c ∷ rest) (flat_map (packet_names plan) ks) was in
      let more_stand = rest_after (begun ++ cell_named plan d.name ∷ []) (named plan cells) in
      subst (λ v. IsNextName plan (cond v (rest_after [] (named plan cells)) more_stand) c.name)
      (sym last) (next_packet cells c rest goes ks all more)
  next_one d cells c rest goes begun k ks a (suc n) there all count is was =
      let name : CellName = record { packet = k; number = a; last = a + 1 == size_of (packet_at plan k) } in
      let first : FanCell = record { name = name; fan = (packet_at plan k).fan } in
      let others = names_from plan k (a + 1) (suc n) ++ flat_map (packet_names plan) ks in
      let long = message-long plan good k (packet_at plan k) there in
      let here = head_is d first (cells ++ c ∷ rest) others was in
      let on : (cell_named plan d.name).last ≡ false =
      ap (λ (x : FanCell). (cell_named plan x.name).last) here ∙ lt-leb _ _ (omega (arith, count, long)) in
      let more = tail_is d first (cells ++ c ∷ rest) others was in
      let begun' : begun ++ cell_named plan d.name ∷ [] ≡ cells_from plan k 0 (a + 1) =
      ap (λ xs. xs ++ cell_named plan d.name ∷ []) is ∙ ap (λ (x : FanCell). cells_from plan k 0 a ++ cell_named plan x.name ∷ []) here
      ∙ sym (map-range_with_len_more (cell_in plan (packet_at plan k)) 0 a a (omega arith)) in
      let more_stand = rest_after (begun ++ cell_named plan d.name ∷ []) (named plan cells) in
      subst (λ v. IsNextName plan (cond v (rest_after [] (named plan cells)) more_stand) c.name)
      (sym on) (goes (begun ++ cell_named plan d.name ∷ []) k ks (a + 1) n there all (omega (arith, count)) begun' more)

  next_from : (cells : List FanCell) (c : FanCell) (rest : List FanCell) → Goes cells c rest
  next_from [] c rest = next_none c rest
  next_from (d ∷ cells) c rest = next_one d cells c rest (next_from cells c rest)

  -- ---- the cells that enter a queue and go to an output are the names of some packets
  abbrev OfPackets : List FanCell → Type 0
  OfPackets cells = (ks : List ℕ) × AreThere plan ks × (cells ≡ flat_map (packet_names plan) ks)

  module _ (q : Queue) (j : ℕ) where
    packets_step : (k : ℕ) (p : Planned) → slice_get plan.packets k ≡ Some p → (cells : List FanCell) (b h : Bool) → has p.fan j ≡ h
        → OfPackets (to_output j cells) → OfPackets (to_output j ((if b then cells_with_fan k (size_of p) p.fan else []) ++ cells))
    packets_step k p there cells true true goes rest =
        let own = cells_with_fan k (size_of p) p.fan in
        let at : packet_at plan k ≡ p = get_or_from_slice_get plan.packets k p no_packet there in (
          k ∷ rest.0,
          (there ∙ ap Some (sym at), rest.1),
          filter-append (λ (cell : FanCell). has cell.fan j) own cells
              ∙ ap (λ w. w ++ to_output j cells) (all_go j p.fan (names_of_packet k (size_of p)) goes)
              ∙ ap (λ (r : Planned). cells_with_fan k (size_of r) r.fan ++ to_output j cells) (sym at)
              ∙ ap (λ w. packet_names plan k ++ w) rest.2,
        )
    packets_step k p there cells true false goes rest =
        let own = cells_with_fan k (size_of p) p.fan in (
          rest.0,
          rest.1,
          filter-append (λ (cell : FanCell). has cell.fan j) own cells
              ∙ ap (λ w. w ++ to_output j cells) (none_goes j p.fan (names_of_packet k (size_of p)) goes)
              ∙ rest.2,
        )
    packets_step k p there cells false h goes rest = rest

    module _ (served : List (Option Served)) (t : ℕ) where
      packets_from : (k : ℕ) (ps : List Planned) → ((i : ℕ) (p : Planned) → slice_get ps i ≡ Some p → slice_get plan.packets (k + i) ≡ Some p)
          → OfPackets (to_output j (cells_admitted plan q served t k ps))
      packets_from k [] there = ([], tt, refl)
      packets_from k (p ∷ ps) there =
          let here : slice_get plan.packets k ≡ Some p = ap (slice_get plan.packets) (let e : k ≡ k + 0 = omega arith in e) ∙ there 0 p refl in
          packets_step k p here (cells_admitted plan q served t (k + 1) ps) (nat_lt p.arrival t && enters plan q served p) (has p.fan j) refl
          (packets_from (k + 1) ps (λ i r at. ap (slice_get plan.packets) (let e : k + 1 + i ≡ k + suc i = omega arith in e) ∙ there (suc i) r at))

      -- so the cells before one of them end with those of its packet that come before it
      pub next_name : (cells : List FanCell) (c : FanCell) (rest : List FanCell)
          → to_output j (cells_admitted plan q served t 0 plan.packets) ≡ cells ++ c ∷ rest
          → IsNextName plan (rest_after [] (named plan cells)) c.name
      next_name cells c rest is =
          let (ks, there, all) = packets_from 0 plan.packets (λ i p at. ap (slice_get plan.packets) (let e : 0 + i ≡ i = omega arith in e) ∙ at) in
          next_packet cells c rest (next_from cells c rest) ks there (sym is ∙ all)

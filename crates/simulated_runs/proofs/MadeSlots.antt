-- A slot of a job, by what is made in it.
use Rattle.std.proofs.Common.{◌≡◌, ◌∙◌, ◌+◌, ap, add-one, refl, arith, ℕ, List, [], ◌∷◌, ◌++◌, length, map, take, drop, append-nil, sym}
use Rattle.std.specs.Prelude.{Option, None, Some, filter_map, slice_get}
use Rattle.std.specs.List.{range_with_len}
use Rattle.std.proofs.lemmas.List.{drop_all, take_all}
use Rattle.std.proofs.lemmas.List.FromFn.{get_or-map-range_with_len, length-map-range_with_len}
use Rattle.std.proofs.lemmas.Option.{get_or_from_slice_get, slice_get_within}
use Rattle.std.proofs.lemmas.Simd.{map-map}
use Rattle.made_traffic.specs.Sources.{SourceValue, next_source, source_before, state_before}
use Rattle.arrival_queues.specs.Queues.{rows_of}
use Rattle.simulated_slots.specs.Jobs.{JobValue}
use Rattle.simulated_slots.specs.Slots.{all_entered, all_left, cell_at, coming, decision_by, departing, dropped, lengths}
use Rattle.simulated_slots.specs.Slots.{picks_by, served_queues, slot_from, slot_of, switch_before}
use Rattle.simulated_slots.specs.ArrivalSteps.{AreSources, cell_from, cells_from}
use Rattle.simulated_runs.specs.SimulationSteps.{sources_before}

-- ---- the parts of a slot
module _ (job : JobValue) (t : ℕ) where
  pub after-is : switch_before job (t + 1) ≡ (slot_of job t).after
  unfolding switch_before
  after-is = rw add-one refl

  pub came-is : (slot_of job t).came ≡ coming job t
  unfolding slot_from
  came-is = refl

  pub dropped-is : (slot_of job t).dropped ≡ dropped (switch_before job t).queues (coming job t)
  unfolding slot_from
  dropped-is = refl

  pub lengths-is : (slot_of job t).lengths ≡ lengths (switch_before job t).queues (coming job t)
  unfolding slot_from
  lengths-is = refl

  pub filled-is : (slot_of job t).filled ≡ all_entered (switch_before job t).queues (coming job t)
  unfolding slot_from
  filled-is = refl

  pub decision-is : (slot_of job t).decision
      ≡ decision_by job.settings.discipline job.traffic.ports job.settings.rounds t (rows_of (slot_of job t).filled) (switch_before job t).places
      (switch_before job t).picks
  unfolding slot_from
  decision-is = refl

  pub places-is : (slot_of job t).after.places ≡ (slot_of job t).decision.places
  unfolding slot_from
  places-is = refl

  pub picks-is : (slot_of job t).after.picks
      ≡ picks_by job.settings.discipline job.traffic.ports job.settings.rounds (rows_of (slot_of job t).filled) (switch_before job t).picks
  unfolding slot_from
  picks-is = refl

  -- the queues that it serves
  abbrev pub served_in : List ℕ
  served_in = served_queues job.settings.discipline job.traffic.ports (slot_of job t).decision.matched job.traffic.ports

  pub departed-is : (slot_of job t).departed ≡ departing (slot_of job t).filled served_in
  unfolding slot_from
  departed-is = refl

  pub left-is : (slot_of job t).after.queues ≡ all_left (slot_of job t).filled served_in
  unfolding slot_from
  left-is = refl

-- ---- its sources
module _ {X Y Z : Type 0} (f : X → Y) (g : Y → Option Z) where
  filter_map-one : (x : X) (xs : List X) (o : Option Z) → g (f x) ≡ o → filter_map g (map f xs) ≡ filter_map (λ (x : X). g (f x)) xs
      → filter_map g (map f (x ∷ xs)) ≡ filter_map (λ (x : X). g (f x)) (x ∷ xs)
  filter_map-one x xs None is rest = rw is rest
  filter_map-one x xs (Some z) is rest = rw is (ap (λ (zs : List Z). z ∷ zs) rest)

  pub filter_map-map : (xs : List X) → filter_map g (map f xs) ≡ filter_map (λ (x : X). g (f x)) xs
  filter_map-map [] = refl
  filter_map-map (x ∷ xs) = filter_map-one x xs (g (f x)) refl (filter_map-map xs)

module _ (job : JobValue) (t : ℕ) where
  -- the source of input i
  abbrev source_of : ℕ → SourceValue
  source_of i = source_before job.traffic job.seed i t

  count-is : length (sources_before job t) ≡ job.traffic.ports
  count-is = length-map-range_with_len source_of 0 job.traffic.ports

  pub AreSources-before : AreSources job.traffic.ports (sources_before job t)
  AreSources-before = record {
    count = count-is;
    inputs = λ k source at. ap (λ (s : SourceValue). s.input) (told k source at);
    ports = λ k source at. ap (λ (s : SourceValue). s.traffic.ports) (told k source at);
  }
    where
      told : (k : ℕ) (source : SourceValue) → slice_get (sources_before job t) k ≡ Some source → source ≡ source_of k
      told k source at =
          let inside = slice_get_within (sources_before job t) k source at in
          sym (get_or_from_slice_get (sources_before job t) k source source at)
          ∙ get_or-map-range_with_len source_of 0 job.traffic.ports k k source (omega (arith, inside, count-is)) (omega arith)

  cell-is : (i : ℕ) → cell_from t (source_of i) ≡ cell_at job t i
  unfolding state_before
  cell-is i = refl

  -- the cells that come from all of them
  pub cells-are : cells_from t (take job.traffic.ports (sources_before job t)) ≡ coming job t
  unfolding state_before
  cells-are = ap (cells_from t) (take_all job.traffic.ports (sources_before job t) (omega (arith, count-is)))
      ∙ filter_map-map source_of (cell_from t) (range_with_len 0 job.traffic.ports)

  -- and the sources after the slot
  pub sources-next : map next_source (take job.traffic.ports (sources_before job t)) ++ drop job.traffic.ports (sources_before job t)
      ≡ sources_before job (t + 1)
  unfolding state_before
  sources-next = rw (
    take_all job.traffic.ports (sources_before job t) (omega (arith, count-is)),
    drop_all job.traffic.ports (sources_before job t) (omega (arith, count-is)),
    append-nil (map next_source (sources_before job t)),
    add-one,
  )
      (map-map next_source source_of (range_with_len 0 job.traffic.ports))

-- Each packet departs soon where no cell of its queue waits long.
use Rattle.std.proofs.Common.{◌≡◌, ◌∙◌, ℕ, ◌+◌, ◌≤◌, ◌&&◌, true, length, sym, ap, subst}
use Rattle.std.proofs.lemmas.Bool.{and_from}
use Rattle.std_lemmas.proofs.Numbers.{below_power}
use Rattle.eslip_rounds.specs.Schedulers.{Scheduler}
use Rattle.slot_histories.specs.Tests.{has}
use Rattle.slot_histories.proofs.SetTests.{Decides-has}
use Rattle.card_core.specs.declared.plan.Planned.{Planned}
use Rattle.card_core.specs.Plans.{OfOutput, level_of, kind_of, is_queue, queue_of}
use Rattle.card_core.specs.Queues.{before, is_routed, is_admitted}
use Rattle.card_core.specs.Grants.{granted_to, to_output}
use Rattle.card_core.proofs.Arriving.{is_queue-refl}
use Rattle.switch_plan.specs.GoodPlans.{SwitchPlan}
use Rattle.run_laws.specs.Runs.{card_at, parts_under}
use Rattle.run_laws.specs.Crossings.{queue_to}
use Rattle.run_laws.proofs.Base.{good-card}
use Rattle.run_laws.specs.Departures.{flow_of, goes_by}
use Rattle.run_laws.specs.DeparturePromises.{Leaves, EachDeparts}
use Rattle.arrival_bounds.specs.Waits.{IsUnicastRun, WaitsAtMost, QueueWaits}
use Rattle.departure_bounds.specs.Delays.{DepartWithin, QueueDepartsWithin}
use Rattle.departure_bounds.proofs.Unicast.{unicast_queue}
use Rattle.departure_bounds.proofs.Latest.{latest}

module _ (scheduler : Scheduler) (plan : SwitchPlan) (run : IsUnicastRun scheduler plan) (slots : ℕ) (each : EachDeparts scheduler plan slots) where
  -- a packet of a queue goes by its flow
  goes : (i j l k : ℕ) (p : Planned) → Leaves scheduler plan slots i j k p → queue_of p ≡ OfOutput j l → goes_by scheduler plan slots (flow_of i j p) p ≡ true
  goes i j l k p leaves queue =
      let q = queue_to j (level_of (queue_of p)) (kind_of (queue_of p)) in
      let same : is_queue q (queue_of p) ≡ true =
      ap (λ r. is_queue (queue_to j (level_of r) (kind_of r)) r) queue ∙ is_queue-refl (OfOutput j l) in
      let admitted = is_admitted (card_at plan i) (parts_under scheduler plan i slots) p.arrival p in
      and_from (is_routed p && is_queue q (queue_of p) && admitted) (has p.fan j)
      (and_from (is_routed p && is_queue q (queue_of p)) admitted (and_from (is_routed p) (is_queue q (queue_of p)) leaves.routed same) leaves.admitted)
      ((Decides-has p.fan j).1 leaves.goes)

  pub queue_departs : (i j l most : ℕ) → QueueWaits scheduler plan i j l most → QueueDepartsWithin scheduler plan slots i j l (most + 1)
  queue_departs i j l most waits k p leaves queue =
      let (t, is, within, least) = each i j k p leaves in
      let a = p.arrival + 1 in
      let parts = parts_under scheduler plan i in
      let all = subst (λ r. length (to_output j (before (card_at plan i) (queue_to j (level_of r) (kind_of r)) (parts a) a).entered)
      ≤ length (granted_to (card_at plan i) (queue_to j (level_of r) (kind_of r)) j (parts (a + most)) (a + most))) (sym queue) (waits a) in
      let level = level_of (queue_of p) in
      let kind = kind_of (queue_of p) in (
        t,
        is,
        latest scheduler run.scheduling plan run.good i j level kind leaves.input slots most k p leaves.found (goes i j l k p leaves queue) all t is,
      )

  pub all_depart : (most : ℕ) → WaitsAtMost scheduler plan most → DepartWithin scheduler plan slots (most + 1)
  all_depart most waits i j k p leaves =
      let card = good-card plan run.good i leaves.input in
      let planned = card.good.packets k p leaves.found in
      let small = below_power (card_at plan i).ports p.fan card.good.size planned.fan in
      let queue = unicast_queue p j small leaves.routed (run.unicast i k p leaves.input leaves.found) leaves.goes in
      queue_departs i j p.level most (λ t. waits i j p.level t leaves.input leaves.output planned.level) k p leaves queue

-- What nothing refuses has a plan.
use Rattle.std.proofs.Common.{◌≡◌, ◌∙◌, ℕ, ◌-◌, ◌<◌, ◌≤◌, ◌^◌, List, length, All, Option, None, Some, Result, Ok, Err, refl, ap, sym, subst}
use Rattle.std.proofs.Common.{arith, inl, inr}
use Rattle.std.specs.Prelude.{map, sum_by, count_by}
use Rattle.std.specs.Option.{option_or}
use Rattle.std.proofs.lemmas.Option.{get_or_from_slice_get, slice_get_within}
use Rattle.pcap_records.specs.declared.capture.Capture.{Capture as ACapture}
use Rattle.forward_table.specs.declared.faults.TableFault.{TableFault}
use Rattle.forward_table.specs.declared.route_lines.RouteLine.{RouteLine}
use Rattle.forward_table.specs.Reading.{reading_of}
use Rattle.forward_table.specs.Routes.{AreRoutesOf}
use Rattle.switch_words.specs.declared.job.Settings.{Settings}
use Rattle.switch_words.specs.Limits.{AreWithinLimits}
use Rattle.switch_plan.specs.declared.fault.PlanFault.{PlanFault}
use Rattle.switch_plan.specs.declared.fault.PlanFault.TheVariants.{Table, Capture}
use Rattle.switch_plan.specs.declared.plan.Plan.{Plan}
use Rattle.switch_plan.specs.Traffic.{file_of, is_nano, pace_of, traffic_of}
use Rattle.switch_plan.specs.Totals.{total_aside, max_slots_of, sizes_for, body_room_for, packet_room_for}
use Rattle.switch_plan.specs.Refusals.{IsRefusal, first_link, limits_for, mixed_links, over_traffic, refusal_of, terms_of}
use Rattle.switch_plan.specs.ReadingSteps.{AreCapturesOf, IsCaptureOf}
use Rattle.switch_plan.specs.PortSteps.{is_long}
use Rattle.switch_plan.specs.JobSteps.{packets_of_ports, IsCardOfPort, IsPlanWith, IsJobPlan}
use Rattle.switch_plan.specs.GoodPlans.{SwitchPlan, switch_plan_of}
use Rattle.switch_plan.proofs.Countable.{burst_is_countable, long_is_countable}
use Rattle.switch_plan.proofs.Endings.{own_bytes, planned_result, refused_result}
use Rattle.switch_plan.proofs.Goods.{job_plan}
use Rattle.switch_plan.proofs.JobPorts.{AreOfJob, ports_fit}
use Rattle.switch_plan.proofs.PortSums.{ports_long}
use Rattle.switch_plan.proofs.RoomBounds.{sizes_long}
use Rattle.switch_plan.proofs.WhyRefused.{refusal_is}
use Rattle.switch_run.specs.Switched.{IsPlanned}
use Rattle.switch_run.proofs.RunsMade.{countable_of}
use Rattle.job_outcomes.specs.Outcomes.{IsByteFile}
use Rattle.job_outcomes.proofs.Captures.{bytes_of}
use Rattle.job_outcomes.proofs.FilesRead.{FilesRead, are_captures, has_fault, files_read}
use Rattle.job_outcomes.proofs.LateCauses.{no_memory}
use Rattle.job_outcomes.proofs.PortPlans.{port_plans}
use Rattle.job_outcomes.proofs.Tables.{table_routes}
use Rattle.job_outcomes.proofs.Vecs.{vec_of, IsMade, made_all}

-- where neither of two causes is there, the first is not
first_none : {A : Type 0} (a b : Option A) → option_or a b ≡ None → a ≡ None
first_none None b none = refl
first_none (Some x) b none = none

-- ---- the plan of ports
module _ {table : List RouteLine} {settings : Settings} {captures : List ACapture} (ports : _)
    (job : AreOfJob table settings (pace_of settings.speed (map file_of captures)) (length captures) captures ports) (limits : AreWithinLimits settings)
    (some : 0 < length captures) where
  few_ports : length ports ≤ 64
  few_ports = let few = job.few in let count = job.ports_are.count in omega arith

  sizes_few : (k : ℕ) → length (sizes_for k (packets_of_ports ports)) < 2 ^ 63
  sizes_few k = let long = sizes_long k (packets_of_ports ports) in let many = ports_long ports in let few = few_ports in omega arith

  -- the card of each port
  cards_made : (cards : _) × IsMade (λ k port card. IsCardOfPort ports settings.depth k port card) ports cards
  cards_made = made_all (λ k port card. IsCardOfPort ports settings.depth k port card) ports (λ k port at. (
    record {
      n = length ports;
      card = k;
      depth = settings.depth;
      packets = port.packets;
      bytes = port.bytes;
      sizes = vec_of (sizes_for k (packets_of_ports ports)) (sizes_few k);
      body_room = body_room_for k (packets_of_ports ports);
      packet_room = packet_room_for k (packets_of_ports ports);
    },
    record { number = refl; size = refl; deep = refl; kept = refl; packets = refl; sizes = refl; body = refl; messages = refl },
  ))

  cards_few : length cards_made.0 < 2 ^ 63
  cards_few = let count = cards_made.1.count in let few = few_ports in omega arith

  plan_made : (plan : Plan) × IsPlanWith settings (is_nano (map file_of captures)) (first_link (map file_of captures)) ports plan
  plan_made = (
    record {
      nano = is_nano (map file_of captures);
      link = first_link (map file_of captures);
      rounds = settings.rounds;
      depth = settings.depth;
      workers = settings.workers;
      max_slots = max_slots_of (packets_of_ports ports);
      oversize = sum_by (count_by is_long) (packets_of_ports ports);
      unrouted = total_aside (packets_of_ports ports) - sum_by (count_by is_long) (packets_of_ports ports);
      cards = vec_of cards_made.0 cards_few;
    },
    record {
      nano = refl;
      link = refl;
      rounds = refl;
      depth = refl;
      workers = refl;
      max_slots = refl;
      oversize = refl;
      aside = let long = (ports_fit job).long in omega arith;
      cards = record { count = cards_made.1.count; each = cards_made.1.each };
    },
  )

  plan_of_ports : (plan : Plan) × IsJobPlan settings table captures plan
  plan_of_ports = (
    plan_made.0,
    job_plan job limits some (is_nano (map file_of captures)) (first_link (map file_of captures)) plan_made.0 plan_made.1 refl refl,
  )

-- captures and a table that nothing refuses have a plan
plan_of_captures : (settings : Settings) (table : List RouteLine) (captures : List ACapture) → AreWithinLimits settings → 0 < length captures
    → length captures ≤ 64 → AreRoutesOf (length captures) table → All (λ (capture : ACapture). IsCaptureOf capture.bytes.items capture) captures
    → refusal_of (terms_of settings) table (map file_of captures) ≡ None → (plan : Plan) × IsJobPlan settings table captures plan
plan_of_captures settings table captures limits some few routes read allowed =
    let files = map file_of captures in
    let pace = pace_of settings.speed files in
    let unmixed = first_none (mixed_links files)
    (over_traffic (limits_for settings.long (length files)) (traffic_of table (first_link files) settings.speed files)) allowed in
    let ports = port_plans (length captures) few table pace routes captures read in
    plan_of_ports ports.0 (record {
      count = refl;
      few = few;
      pace_is = refl;
      unmixed = unmixed;
      routes = routes;
      read = read;
      ports_are = ports.1;
      within = sym (refusal_is table (terms_of settings) pace (length captures) captures ports.0 refl refl unmixed ports.1) ∙ allowed;
    }) limits some

-- ---- the plan of bytes
-- a job's table and files are refused, or have a plan
pub data RefusedOrPlanned (settings : Settings) (table : List ℕ) (files : List (List ℕ)) : Type 0 where
  refused : (fault : PlanFault) → IsRefusal (terms_of settings) table files fault → RefusedOrPlanned settings table files
  planned : (plan : SwitchPlan) → IsPlanned settings table files plan → RefusedOrPlanned settings table files

module _ (settings : Settings) (limits : AreWithinLimits settings) (table : List ℕ) (files : List (List ℕ)) (some : 0 < length files)
    (few : length files ≤ 64) where
  abbrev Outcome : Type 0
  Outcome = RefusedOrPlanned settings table files

  -- where the table and the captures were read
  by_cause : (lines : List RouteLine) → reading_of (length files) table ≡ Ok lines → (captures : List ACapture) → AreCapturesOf files captures
      → (cause : Option PlanFault) → refusal_of (terms_of settings) lines (map file_of captures) ≡ cause → Outcome
  by_cause lines good captures are (Some fault) is =
      elim (refused_result settings table files (length files) lines captures refl good are (Err fault) (inr is)) [
        | inl memory ↦ absurd (no_memory (terms_of settings) lines (map file_of captures) (is ∙ ap Some memory))
        | inr why ↦ refused fault why
      ]
  by_cause lines good captures are None is =
      let count = are.count in
      let made = plan_of_captures settings lines captures limits (omega arith) (omega arith)
      (subst (λ n. AreRoutesOf n lines) (sym count) (table_routes (length files) table lines good)) (own_bytes files captures are) is in
      let whole = planned_result settings table files (length files) lines captures refl good are (Ok made.0) made.1 in
      let plan = switch_plan_of made.0 in
      let good = made.1.good in
      planned plan (record {
        lines = whole.0;
        captures = whole.1;
        read = whole.2;
        allowed = whole.3;
        good = good;
        countable =
            countable_of settings.long (length captures) plan made.1.within made.1.burst (burst_is_countable plan good) (long_is_countable plan good);
        burst = made.1.burst;
        planned = whole.4;
      })

  by_files : (lines : List RouteLine) → reading_of (length files) table ≡ Ok lines → FilesRead files → Outcome
  by_files lines good (has_fault port fault is) = refused (Capture port fault) (lines, good, is)
  by_files lines good (are_captures captures are) =
      by_cause lines good captures are (refusal_of (terms_of settings) lines (map file_of captures)) refl

  by_table : (reading : Result (List RouteLine) TableFault) → reading_of (length files) table ≡ reading → FilesRead files → Outcome
  by_table (Err fault) is read = refused (Table fault) is
  by_table (Ok lines) is read = by_files lines is read

  pub refused_or_planned : All IsByteFile files → Outcome
  refused_or_planned good =
      by_table (reading_of (length files) table) refl
      (files_read files (λ k file at.
      let is = subst IsByteFile (get_or_from_slice_get files k file file at) (good k file (slice_get_within files k file at)) in
      (bytes_of file is.bytes, is.short)))

-- A job that can be run otherwise makes the same texts when it is run long: the limits of a long job are wider, and its plan
-- and its run are the same.
use Rattle.std.proofs.Common.{◌≡◌, ◌≤◌, ◌+◌, ℕ, Bool, true, false, List, [], ◌∷◌, map, length, get_or, Option, Some, None, refl, subst, sym, inl, inr, arith}
use Rattle.std.specs.Prelude.{All, Ok}
use Rattle.std.specs.List.{sum_by}
use Rattle.std.specs.Option.{option_or}
use Rattle.std.proofs.lemmas.Bool.{cases_lt, le-ltb, lt-ltb}
use Rattle.std.proofs.lemmas.List.{length-map}
use Rattle.std.proofs.lemmas.List.Sums.{sum_by-le}
use Rattle.std.proofs.lemmas.Option.{slice_get-get_or}
use Rattle.std_lemmas.proofs.MappedSums.{sum_by-map}
use Rattle.outside.specs.Contents.{Contents}
use Rattle.forward_table.specs.declared.route_lines.RouteLine.{RouteLine}
use Rattle.card_core.specs.declared.plan.Planned.{Planned}
use Rattle.card_core.specs.Plans.{Plan as CardPlan}
use Rattle.card_core.proofs.Plenty.{few_packets}
use Rattle.switch_words.specs.declared.job.Settings.{Settings}
use Rattle.switch_words.specs.declared.job.Speed.{Speed}
use Rattle.switch_words.specs.Reading.{JobWords, run, gen, check, firm}
use Rattle.switch_plan.specs.declared.limits.TheConstants.{MAX_LONG_SLOTS, MAX_LONG_PACKETS, MAX_LONG_CELLS}
use Rattle.switch_plan.specs.Traffic.{CaptureFile, traffic_of, unplaced}
use Rattle.switch_plan.specs.Totals.{most_for, slots_of, total_work}
use Rattle.switch_plan.specs.Refusals.{burst_limits, first_link, first_over, long_limits, mixed_links, over_traffic, over_packets, over_cells, refusal_of}
use Rattle.switch_plan.specs.GoodPlans.{SwitchPlan, IsGood, IsBurst, packets_in}
use Rattle.switch_plan.proofs.RoomBounds.{most_few}
use Rattle.eslip_rounds.specs.Schedulers.{Scheduler}
use Rattle.firm_rounds.specs.Decisions.{firm_decision}
use Rattle.named_schedulers.specs.Named.{decision_named}
use Rattle.run_notes.specs.declared.wanted.Wanted.{Wanted}
use Rattle.job_files.specs.Inputs.{AreFilesRead, AreInputs}
use Rattle.job_files.specs.Jobs.{ReadWords, capture_bytes, long_settings, run_reads, firm_reads, with_long}
use Rattle.job_files.specs.OutputFiles.{Texts}
use Rattle.switch_run.specs.Switched.{IsJobOutcome, IsPlanned, IsSwitched, nothing_wanted, wanted_by}

-- ---- what the limits of a burst let through, those of a long job do

both_none : {A : Type 0} (a b : Option A) → option_or a b ≡ None → (a ≡ None) × (b ≡ None)
both_none None b none = (refl, none)
both_none (Some x) b none = absurd (cc)

none_of_both : {A : Type 0} (a b : Option A) → a ≡ None → b ≡ None → option_or a b ≡ None
none_of_both a b first second = rw first second

wider_slots : (most more port : ℕ) (ports : List ℕ) → most ≤ more → first_over most port ports ≡ None → first_over more port ports ≡ None
wider_slots most more port [] wide none = refl
wider_slots most more port (slots ∷ ports) wide none = elim (cases_lt most slots) [
  | inl over ↦ let told = rw (lt-ltb most slots over) at none in absurd (cc)
  | inr within ↦ rw (le-ltb more slots (omega (arith, within, wide)))
      (wider_slots most more (port + 1) ports wide (rw (le-ltb most slots within) at none))
]

wider_cells : (most more cells : ℕ) → most ≤ more → over_cells most cells ≡ None → over_cells more cells ≡ None
wider_cells most more cells wide none = elim (cases_lt most cells) [
  | inl over ↦ let told = rw (lt-ltb most cells over) at none in absurd (cc)
  | inr within ↦ rw (le-ltb more cells (omega (arith, within, wide))) refl
]

wider_limits : (n : ℕ) (ports : List (List Planned)) → sum_by length ports ≤ MAX_LONG_PACKETS → over_traffic (burst_limits n) ports ≡ None
    → over_traffic long_limits ports ≡ None
wider_limits n ports packets none =
    let slots = map slots_of ports in
    let cells = total_work ports in
    let (short, light) = both_none (first_over (most_for n) 0 slots) (over_cells (most_for n) cells) none in
    let few = most_few n in
    let no_packets : over_packets (Some MAX_LONG_PACKETS) (sum_by length ports) ≡ None = rw (le-ltb MAX_LONG_PACKETS (sum_by length ports) packets) refl in
    none_of_both (first_over MAX_LONG_SLOTS 0 slots) _ (wider_slots (most_for n) MAX_LONG_SLOTS 0 slots (omega (arith, few)) short)
    (none_of_both (over_packets (Some MAX_LONG_PACKETS) (sum_by length ports)) (over_cells MAX_LONG_CELLS cells) no_packets
    (wider_cells (most_for n) MAX_LONG_CELLS cells (omega (arith, few)) light))

wider : (speed : Speed) (long : Bool) (lines : List RouteLine) (captures : List CaptureFile)
    → (long ≡ false → sum_by length (traffic_of lines (first_link captures) speed captures) ≤ MAX_LONG_PACKETS)
    → refusal_of (record { speed = speed; long = long }) lines captures ≡ None → refusal_of (record { speed = speed; long = true }) lines captures ≡ None
wider speed true lines captures few none = none
wider speed false lines captures few none =
    let ports = traffic_of lines (first_link captures) speed captures in
    let (links, limits) = both_none (mixed_links captures) (over_traffic (burst_limits (length captures)) ports) none in
    none_of_both (mixed_links captures) (over_traffic long_limits ports) links (wider_limits (length captures) ports (few refl) limits)

-- a burst has few packets
packets_few : (plan : SwitchPlan) → IsGood plan → IsBurst plan → sum_by length (map (map unplaced) (packets_in plan)) ≤ MAX_LONG_PACKETS
packets_few plan good burst =
    let count : CardPlan → ℕ = λ card. length (map unplaced card.packets) in
    let each : All (λ (card : CardPlan). count card ≤ 131072) plan.cards = λ k d inside.
    let card = get_or plan.cards k d in
    let found = slice_get-get_or plan.cards k d inside in
    let few = few_packets card (good.cards k card found).good (burst.cards k card found) in
    omega (arith, few, length-map card.packets unplaced) in
    let most = sum_by-le count 131072 plan.cards each in
    let outer = sum_by-map length (map unplaced) (packets_in plan) in
    let inner = sum_by-map (λ (packets : List Planned). length (map unplaced packets)) (λ (card : CardPlan). card.packets) plan.cards in
    omega (arith, most, outer, inner, good.size.most)

-- ---- the plan and the texts are the same

module _ (settings : Settings) (table : List ℕ) (files : List (List ℕ)) where
  still_planned : (plan : SwitchPlan) → IsPlanned settings table files plan → IsPlanned (long_settings settings) table files plan
  still_planned plan p =
      let of = p.planned in
      let few : settings.long ≡ false → sum_by length (traffic_of p.lines (first_link p.captures) settings.speed p.captures) ≤ MAX_LONG_PACKETS =
      λ short. subst (λ (ports : List (List Planned)). sum_by length ports ≤ MAX_LONG_PACKETS) of.packets (packets_few plan p.good (p.burst short)) in
      record {
        lines = p.lines;
        captures = p.captures;
        read = p.read;
        allowed = wider settings.speed settings.long p.lines p.captures few p.allowed;
        good = p.good;
        countable = p.countable;
        burst = λ short. absurd (cc);
        planned = record {
          nano = of.nano;
          link = of.link;
          rounds = of.rounds;
          depth = of.depth;
          workers = of.workers;
          oversize = of.oversize;
          unrouted = of.unrouted;
          packets = of.packets;
          places = of.places;
          kept = of.kept;
          bodies = of.bodies;
        };
      }

  same_switched : (scheduler : Scheduler) (wanted : Wanted) (texts : Texts) → IsSwitched scheduler settings wanted table files texts
      → IsSwitched scheduler (long_settings settings) wanted table files texts
  same_switched scheduler wanted texts p = record {
    plan = p.plan;
    slots = p.slots;
    run = record { planned = still_planned p.plan p.run.planned; ends = p.run.ends };
    are = p.are;
    small = p.small;
    packets_small = λ short. absurd (cc);
  }

pub same_when_long : (job : JobWords) (table : List ℕ) (files : List (List ℕ)) (texts : Texts) → IsJobOutcome job table files (Ok texts)
    → IsJobOutcome (with_long job) table files (Ok texts)
same_when_long (run r) table files texts is = same_switched r.settings table files (decision_named r.scheduler) (wanted_by r) texts is
same_when_long (gen g) table files texts is = is
same_when_long (check c) table files texts is = is
same_when_long (firm f) table files texts is = same_switched f.settings table files firm_decision nothing_wanted texts is

-- ---- and so is what is read

-- a capture that is not too long for a job is not too long for a long one
wider_capture : (long : Bool) (n : ℕ) → n ≤ capture_bytes long → n ≤ capture_bytes true
wider_capture true n fits = fits
wider_capture false n fits = omega (arith, fits)

still_read : (r s : ReadWords) (seen : Option Contents) (table : List ℕ) (captures : List (List ℕ)) → s ≡ record r { long = true }
    → AreFilesRead r seen table captures → AreFilesRead s seen table captures
still_read r s seen table captures is read =
    subst (λ (words : ReadWords). AreFilesRead words seen table captures) (sym is)
    (record {
      table_fits = read.table_fits;
      table_there = read.table_there;
      captures_read = record {
        count = read.captures_read.count;
        fit = λ k d k_in. wider_capture r.long _ (read.captures_read.fit k d k_in);
        there = read.captures_read.there;
      };
    })

pub same_inputs_when_long : (job : JobWords) (seen : Option Contents) (table : List ℕ) (captures : List (List ℕ)) → AreInputs job seen table captures
    → AreInputs (with_long job) seen table captures
same_inputs_when_long (run r) seen table captures is = still_read (run_reads r) (run_reads (record r { settings = long_settings r.settings })) seen table
    captures refl is
same_inputs_when_long (gen g) seen table captures is = is
same_inputs_when_long (check c) seen table captures is = is
same_inputs_when_long (firm f) seen table captures is = still_read (firm_reads f) (firm_reads (record f { settings = long_settings f.settings })) seen table
    captures refl is

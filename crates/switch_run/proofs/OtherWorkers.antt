-- With another number of workers a job has a plan that differs in that number alone, and the plan's run is the same, slot
-- by slot.
use Rattle.std.proofs.Common.{◌≡◌, ◌∙◌, ℕ, zero, suc, true, false, List, [], ◌∷◌, ◌++◌, map, length, None, Some, refl, ap, subst}
use Rattle.std.proofs.Math.Path.{fun_ext}
use Rattle.std.specs.Prelude.{◌&&◌, ◌↔◌, Bool, if◌then◌else◌, Option, Result, Ok, Err, count_by, filter, slice_get, take}
use Rattle.std.specs.List.{enumerate_from, flat_map, range_with_len}
use Rattle.std.specs.Option.{option_to_list}
use Rattle.rotating_pick.specs.declared.limits.TheConstants.{LEVELS}
use Rattle.pcap_records.specs.Output.{capture_text}
use Rattle.eslip_rounds.specs.Schedulers.{Scheduler}
use Rattle.named_schedulers.specs.Named.{decision_named}
use Rattle.firm_rounds.specs.Decisions.{firm_decision}
use Rattle.slot_histories.specs.Slots.{crossed_under, decision_under, is_done_at, is_done_before, slot_posts}
use Rattle.slot_histories.specs.Answers.{JournalSlot}
use Rattle.slot_board.specs.Schedules.{decided_under}
use Rattle.service_bound.specs.Waits.{longest_wait, noted_of}
use Rattle.card_core.specs.declared.plan.Planned.{Planned}
use Rattle.card_core.specs.Posts.{post_at}
use Rattle.slot_match.specs.declared.matching.Served.{Served}
use Rattle.crossbar.specs.declared.cards.Post.{Post}
use Rattle.slot_histories.specs.Tests.{has}
use Rattle.card_core.specs.Queues.{admitted, dropped, enters, is_routed}
use Rattle.card_core.specs.Deliveries.{delivered}
use Rattle.slot_report.specs.Lines.{lines_text}
use Rattle.slot_report.specs.Texts.{report_bytes, summary_lines}
use Rattle.journal_check.specs.Texts.{file_slot, file_text}
use Rattle.output_queued.specs.Lines.{lines_of}
use Rattle.output_queued.specs.Texts.{reference_lines}
use Rattle.switch_words.specs.declared.limits.TheConstants.{MAX_WORKERS}
use Rattle.switch_words.specs.declared.job.Settings.{Settings}
use Rattle.switch_words.specs.Limits.{IsUpTo}
use Rattle.switch_words.specs.Reading.{JobWords, run, gen, check, firm}
use Rattle.switch_plan.specs.declared.fault.PlanFault.{PlanFault}
use Rattle.switch_plan.specs.GoodPlans.{SwitchPlan, IsGood, IsBurst, IsCountable}
use Rattle.run_laws.specs.Runs.{after_slot, before_under, card_at, decision_in, parts_under, journal_under, ports_of, posts_under, setup_for}
use Rattle.run_laws.specs.Ends.{IsLengthUnder}
use Rattle.run_laws.specs.Crossings.{cells_under, queue_to}
use Rattle.run_laws.specs.Outcomes.{over_ports, summary_under}
use Rattle.run_journals.specs.RunFiles.{journal_text_under}
use Rattle.reference_run.specs.RunLines.{run_lines_under}
use Rattle.queue_lengths.specs.Lengths.{deepest_of, greatest}
use Rattle.queue_measures.specs.Lines.{deepest_line, input_lines, queue_lines_under}
use Rattle.run_laws.specs.Departures.{flow_of, is_end_of}
use Rattle.packet_times.specs.Rows.{aside_row, departure_if, header, outputs_in, packets_text_under, routed_row, row_text, state_of}
use Rattle.run_notes.specs.declared.wanted.Wanted.{Wanted}
use Rattle.job_files.specs.Jobs.{settings_with, with_alone, with_workers}
use Rattle.job_files.specs.OutputFiles.{Texts}
use Rattle.switch_run.specs.Switched.{IsJobOutcome, IsLongJournal, IsLongPackets, IsPlanned, IsRunOf, IsSwitched}
use Rattle.switch_run.specs.Switched.{nothing_wanted, texts_under, wanted_by}

-- the same plan except for the number of workers
abbrev plan_with : ℕ → SwitchPlan → SwitchPlan
plan_with workers plan = record plan { workers = workers }

-- ---- its run is the same

module _ (scheduler : Scheduler) (workers : ℕ) (plan : SwitchPlan) where
  same_before : (t : ℕ) → before_under scheduler plan t ≡ before_under scheduler (plan_with workers plan) t
  unfolding before_under
  same_before zero = refl
  same_before (suc t) = ap (λ b. after_slot b (decision_in scheduler plan b t)) (same_before t)

  same_parts : parts_under scheduler plan ≡ parts_under scheduler (plan_with workers plan)
  same_parts = ap (λ runs i t. (runs t).served i) (fun_ext same_before)

  same_posts : posts_under scheduler plan ≡ posts_under scheduler (plan_with workers plan)
  same_posts = ap (λ parts i t. post_at (card_at plan i) (parts i t) t) same_parts

  same_cells : cells_under scheduler plan ≡ cells_under scheduler (plan_with workers plan)
  same_cells = ap (λ posts j slots. flat_map (λ t. option_to_list (crossed_under scheduler (setup_for plan) posts j t)) (range_with_len 0 slots)) same_posts

  same_summary : (slots : ℕ) → summary_under scheduler plan slots ≡ summary_under scheduler (plan_with workers plan) slots
  unfolding summary_under
  same_summary slots = λ p. record (summary_under scheduler plan slots) {
    dropped = over_ports plan (λ i. dropped (card_at plan i) (same_parts p i slots) slots);
    forwarded = over_ports plan (λ i. admitted (card_at plan i) (same_parts p i slots) slots);
    copies = over_ports plan (λ j. length (delivered (same_cells p j slots)));
    cells = over_ports plan (λ j. length (same_cells p j slots));
    longest = map (λ level. longest_wait (ports_of plan) level
        (map noted_of (map (decided_under scheduler (setup_for plan) (same_posts p)) (range_with_len 0 slots)))) (range_with_len 0 LEVELS);
  }

  same_length : (slots : ℕ) → IsLengthUnder scheduler plan slots → IsLengthUnder scheduler (plan_with workers plan) slots
  same_length slots ends = record {
    last = ends.last;
    count = ends.count;
    done = subst (λ posts. is_done_at (ports_of plan) posts ends.last ≡ true) same_posts ends.done;
    going = subst (λ posts. is_done_before (ports_of plan) posts ends.last ≡ false) same_posts ends.going;
  }

-- ---- its texts are the same

module _ (scheduler : Scheduler) (workers : ℕ) (plan : SwitchPlan) (slots : ℕ) where
  -- slot t of a run with these posts
  abbrev slot_with : (ℕ → ℕ → Post) → ℕ → JournalSlot
  slot_with posts t = record {
    posts = slot_posts (ports_of plan) posts t;
    matched = (decision_under scheduler (setup_for plan) posts t).matched;
    numbers = (decision_under scheduler (setup_for plan) posts t).numbers;
  }

  same_journal : journal_under scheduler plan slots ≡ journal_under scheduler (plan_with workers plan) slots
  same_journal = ap (λ posts. map (slot_with posts) (range_with_len 0 slots)) (same_posts scheduler workers plan)

  same_journal_text : journal_text_under scheduler plan slots ≡ journal_text_under scheduler (plan_with workers plan) slots
  same_journal_text = ap (λ journal. file_text (record { ports = ports_of plan; rounds = plan.rounds; slots = map file_slot journal })) same_journal

  same_lines : run_lines_under scheduler plan slots ≡ run_lines_under scheduler (plan_with workers plan) slots
  unfolding run_lines_under
  same_lines = ap (λ journal. reference_lines (lines_of plan.cards (map (λ slot. slot.matched) journal))) same_journal

  same_queue_lines : queue_lines_under scheduler plan slots ≡ queue_lines_under scheduler (plan_with workers plan) slots
  unfolding queue_lines_under
  same_queue_lines =
      ap (λ parts. flat_map (λ i. input_lines i (card_at plan i) (parts i slots) slots) (range_with_len 0 (ports_of plan))
      ++ deepest_line (greatest (λ i. deepest_of (card_at plan i) (parts i slots) slots) (ports_of plan)) ∷ [])
      (same_parts scheduler workers plan)

  -- when packet k of input i leaves by output j, of a run with these parts and posts
  abbrev departure_with : (ℕ → ℕ → List (Option Served)) → (ℕ → ℕ → Post) → ℕ → ℕ → ℕ → Planned → Option ℕ
  departure_with parts posts i j k packet =
      let flow = flow_of i j packet in
      slice_get (filter (λ t. is_end_of flow (crossed_under scheduler (setup_for plan) posts j t)) (range_with_len 0 slots))
      (count_by (λ other. enters (card_at plan i) (queue_to j flow.level flow.kind) (parts i slots) other && has other.fan j) (take k (card_at plan i).packets))

  -- and the rows of packet k of input i
  abbrev rows_with : (ℕ → ℕ → List (Option Served)) → (ℕ → ℕ → Post) → ℕ → ℕ → Planned → List (List (List ℕ))
  rows_with parts posts i k packet =
      let state = state_of (card_at plan i) (parts i slots) packet in
      if is_routed packet then map (λ j. routed_row i k packet state j (departure_if state (departure_with parts posts i j k packet)))
      (outputs_in (ports_of plan) packet.fan)
      else aside_row i k packet state ∷ []

  same_packets_text : packets_text_under scheduler plan slots ≡ packets_text_under scheduler (plan_with workers plan) slots
  unfolding packets_text_under
  same_packets_text = λ p. header
      ++ flat_map row_text (flat_map (λ i. flat_map (λ k. rows_with (same_parts scheduler workers plan p) (same_posts scheduler workers plan p) i k.0 k.1)
      (enumerate_from 0 (card_at plan i).packets)) (range_with_len 0 (ports_of plan)))

  same_texts : (wanted : Wanted) → texts_under scheduler wanted plan slots ≡ texts_under scheduler wanted (plan_with workers plan) slots
  same_texts wanted =
      let cells = same_cells scheduler workers plan in
      let summary = same_summary scheduler workers plan slots in
      λ p. record {
        outputs = map (λ j. capture_text plan.nano plan.link (delivered (cells p j slots))) (range_with_len 0 (ports_of plan));
        report =
            report_bytes (summary p) (map (λ j. record { packets = length (delivered (cells p j slots)); cells = length (cells p j slots) })
            (range_with_len 0 (ports_of plan)))
            (if wanted.queues then lines_text (same_queue_lines p) else []) (if wanted.slots then same_journal p else [])
            ++ (if wanted.reference then lines_text (same_lines p) else []);
        journal = if wanted.journal then Some (same_journal_text p) else None;
        packets = if wanted.packets then Some (same_packets_text p) else None;
        summary = lines_text (summary_lines (summary p));
      }

-- ---- it is the job's plan

module _ (workers : ℕ) (few : IsUpTo MAX_WORKERS workers) where
  still_good : (plan : SwitchPlan) → IsGood plan → IsGood (plan_with workers plan)
  still_good plan good = record {
    size = good.size;
    rounds = good.rounds;
    workers = few;
    cards = λ port card is. let mine = good.cards port card is in record {
      good = mine.good;
      number = mine.number;
      ports = mine.ports;
      depth = mine.depth;
      sizes = mine.sizes;
      body = mine.body;
      messages = mine.messages;
    };
    max_slots = good.max_slots;
    aside = good.aside;
    whole = good.whole;
  }

  still_burst : (plan : SwitchPlan) → IsBurst plan → IsBurst (plan_with workers plan)
  still_burst plan burst = record { slots = burst.slots; cells = burst.cells; cards = burst.cards }

  still_countable : (plan : SwitchPlan) → IsCountable plan → IsCountable (plan_with workers plan)
  still_countable plan is = record { packets = is.packets; cells = is.cells; slots = is.slots }

  module _ (settings : Settings) (table : List ℕ) (files : List (List ℕ)) where
    still_planned : (plan : SwitchPlan) → IsPlanned settings table files plan → IsPlanned (settings_with workers settings) table files (plan_with workers plan)
    still_planned plan p = record {
      lines = p.lines;
      captures = p.captures;
      read = p.read;
      allowed = p.allowed;
      good = still_good plan p.good;
      countable = still_countable plan p.countable;
      burst = λ short. still_burst plan (p.burst short);
      planned = let of = p.planned in record {
        nano = of.nano;
        link = of.link;
        rounds = of.rounds;
        depth = of.depth;
        workers = refl;
        oversize = of.oversize;
        unrouted = of.unrouted;
        packets = of.packets;
        places = of.places;
        kept = of.kept;
        bodies = of.bodies;
      };
    }

    still_run : (scheduler : Scheduler) (plan : SwitchPlan) (slots : ℕ) → IsRunOf scheduler settings table files plan slots
        → IsRunOf scheduler (settings_with workers settings) table files (plan_with workers plan) slots
    still_run scheduler plan slots r = record { planned = still_planned plan r.planned; ends = same_length scheduler workers plan slots r.ends }

    same_switched : (scheduler : Scheduler) (wanted : Wanted) (texts : Texts) → IsSwitched scheduler settings wanted table files texts
        → IsSwitched scheduler (settings_with workers settings) wanted table files texts
    same_switched scheduler wanted texts p = record {
      plan = plan_with workers p.plan;
      slots = p.slots;
      run = still_run scheduler p.plan p.slots p.run;
      are = p.are ∙ same_texts scheduler workers p.plan p.slots wanted;
      small = p.small;
      packets_small = p.packets_small;
    }

-- ---- the job's outcome is the same

pub same_outcome : (job : JobWords) (workers : ℕ) (table : List ℕ) (files : List (List ℕ)) (outcome : Result Texts PlanFault) → IsUpTo MAX_WORKERS workers
    → IsJobOutcome job table files outcome → IsJobOutcome (with_workers workers job) table files outcome
same_outcome (run r) workers table files (Ok texts) few is = same_switched workers few r.settings table files
    (decision_named r.scheduler) (wanted_by r) texts is
same_outcome (run r) workers table files (Err fault) few is = is
same_outcome (gen g) workers table files (Ok texts) few is = same_switched workers few g.settings table files
    (decision_named g.scheduler) nothing_wanted texts is
same_outcome (gen g) workers table files (Err fault) few is = is
same_outcome (firm f) workers table files (Ok texts) few is = same_switched workers few f.settings table files firm_decision nothing_wanted texts is
same_outcome (firm f) workers table files (Err fault) few is = is
same_outcome (check c) workers table files outcome few is = is

pub same_long_journal : (scheduler : Scheduler) (settings : Settings) (workers : ℕ) (table : List ℕ) (files : List (List ℕ)) (size : ℕ)
    → IsUpTo MAX_WORKERS workers → IsLongJournal scheduler settings table files size
    → IsLongJournal scheduler (settings_with workers settings) table files size
same_long_journal scheduler settings workers table files size few p = record {
  plan = plan_with workers p.plan;
  slots = p.slots;
  run = still_run workers few settings table files scheduler p.plan p.slots p.run;
  size_is = p.size_is ∙ ap length (same_journal_text scheduler workers p.plan p.slots);
  longer = p.longer;
}

pub same_long_packets : (scheduler : Scheduler) (settings : Settings) (workers : ℕ) (table : List ℕ) (files : List (List ℕ)) (size : ℕ)
    → IsUpTo MAX_WORKERS workers → IsLongPackets scheduler settings table files size
    → IsLongPackets scheduler (settings_with workers settings) table files size
same_long_packets scheduler settings workers table files size few p = record {
  plan = plan_with workers p.plan;
  slots = p.slots;
  run = still_run workers few settings table files scheduler p.plan p.slots p.run;
  short = p.short;
  size_is = p.size_is ∙ ap length (same_packets_text scheduler workers p.plan p.slots);
  longer = p.longer;
}

-- ---- nor does it differ without the board

pub same_alone : (job : JobWords) (alone : Bool) (table : List ℕ) (files : List (List ℕ)) (outcome : Result Texts PlanFault)
    → IsJobOutcome job table files outcome ↔ IsJobOutcome (with_alone alone job) table files outcome
same_alone (run r) alone table files (Ok texts) = (λ is. is, λ is. is)
same_alone (run r) alone table files (Err fault) = (λ is. is, λ is. is)
same_alone (gen g) alone table files outcome = (λ is. is, λ is. is)
same_alone (check c) alone table files outcome = (λ is. is, λ is. is)
same_alone (firm f) alone table files outcome = (λ is. is, λ is. is)

-- What comes of a run where its texts are made, and why they are not made.
use Rattle.std.proofs.Common.{◌≡◌, ◌≤◌, ◌∙◌, ℕ, Bool, true, false, refl, List, length, ap, arith}
use Rattle.std.specs.Prelude.{Result, Ok, Err, IfErr, IfOk}
use Rattle.std.proofs.lemmas.List.FromFn.{length-map-range_with_len}
use Rattle.rotating_pick.specs.declared.limits.TheConstants.{MAX_PORTS}
use Rattle.eslip_rounds.specs.Schedulers.{Scheduler}
use Rattle.switch_words.specs.declared.job.Settings.{Settings}
use Rattle.switch_plan.specs.GoodPlans.{SwitchPlan, IsGood, IsBurst, IsCountable, IsWithin}
use Rattle.switch_plan.specs.Refusals.{limits_for, long_limits, terms_of}
use Rattle.run_laws.specs.Ends.{IsLengthUnder}
use Rattle.run_laws.specs.Runs.{ports_of}
use Rattle.descriptor_runs.specs.declared.outputs.Captures.TheVariants.{Kept}
use Rattle.descriptor_runs.specs.declared.runs.RunOutcome.{RunOutcome}
use Rattle.descriptor_runs.specs.Outcomes.{IsRunOutcome, line_under}
use Rattle.run_notes.specs.declared.wanted.Wanted.{Wanted}
use Rattle.run_notes.specs.declared.texts.NotesFault.{NotesFault}
use Rattle.run_notes.specs.declared.texts.NotesFault.TheVariants as fault
use Rattle.run_notes.specs.NotingSteps.{StopsTold}
use Rattle.switch_run.specs.declared.runs.EndedRun.{EndedRun}
use Rattle.switch_run.specs.MakingSteps.{IsRan, IsRanOf, StopsPlan, StopsRun, StopsTexts, ending_of}
use Rattle.switch_run.specs.Switched.{IsPlanned}
use Rattle.job_files.specs.declared.ending.Ending.{Ending}
use Rattle.job_files.specs.declared.ending.Ending.TheVariants.{Done, Usage, ReadFault, TooLong, Refused, JournalTooLong, PacketsTooLong, OutOfMemory}
use Rattle.job_files.specs.declared.ending.Ending.TheVariants.{WriteFault, Checked}
use Rattle.switch_run.proofs.OnePlan.{journal_of_run}

-- the run of a job's plan can be counted
pub countable_of : (long : Bool) (ports : ℕ) (plan : SwitchPlan) → IsWithin (limits_for long ports) plan → (long ≡ false → IsBurst plan)
    → (IsBurst plan → IsCountable plan) → (IsWithin long_limits plan → IsCountable plan) → IsCountable plan
countable_of true ports plan within burst of_burst of_long = of_long within
countable_of false ports plan within burst of_burst of_long = of_burst (burst refl)

-- the plan of a run whose journal is wanted is a burst, for a long run has none
pub burst_of_journal : (long journal : Bool) (plan : SwitchPlan) → (long ≡ false → IsBurst plan) → (long ≡ true → journal ≡ false) → journal ≡ true
    → IsBurst plan
burst_of_journal true journal plan burst none wanted = let unwanted = none refl in absurd (cc)
burst_of_journal false journal plan burst none wanted = burst refl

-- a run has few outputs
pub few_lines : (scheduler : Scheduler) (plan : SwitchPlan) (slots : ℕ) (outcome : RunOutcome) → IsGood plan → IsRunOutcome Kept scheduler plan slots outcome
    → length outcome.lines.items ≤ MAX_PORTS
few_lines scheduler plan slots outcome good is =
    omega (arith, ap length is.lines ∙ length-map-range_with_len (line_under scheduler plan slots) 0 (ports_of plan), good.size.most)

-- why the texts of a run are not made, as the ending says it
pub stops_told : (scheduler : Scheduler) (wanted : Wanted) (long : Bool) (plan : SwitchPlan) (slots : ℕ) (why : NotesFault) → IsLengthUnder scheduler plan slots
    → StopsTold scheduler wanted long plan slots why → StopsRun scheduler plan wanted long (ending_of why)
stops_told scheduler wanted long plan slots (fault.JournalTooLong size) ends stops = (slots, ends, stops)
stops_told scheduler wanted long plan slots (fault.PacketsTooLong size) ends stops = (slots, ends, stops)
stops_told scheduler wanted long plan slots fault.OutOfMemory ends stops = tt

-- the texts of the run of the job's plan are not made
pub run_stops : (scheduler : Scheduler) (settings : Settings) (wanted : Wanted) (table : List ℕ) (captures : List (List ℕ)) (plan : SwitchPlan)
    (ending : Ending) → IsPlanned settings table captures plan → StopsRun scheduler plan wanted settings.long ending
    → StopsTexts scheduler settings wanted table captures ending
run_stops scheduler settings wanted table captures plan Done planned stops = stops
run_stops scheduler settings wanted table captures plan Usage planned stops = absurd stops
run_stops scheduler settings wanted table captures plan (ReadFault input) planned stops = absurd stops
run_stops scheduler settings wanted table captures plan (TooLong input) planned stops = absurd stops
run_stops scheduler settings wanted table captures plan (Refused fault) planned stops = absurd stops
run_stops scheduler settings wanted table captures plan (JournalTooLong size) planned stops = (
  stops.2.0,
  record { plan = plan; slots = stops.0; run = record { planned = planned; ends = stops.1 }; size_is = stops.2.1; longer = stops.2.2 },
)
run_stops scheduler settings wanted table captures plan (PacketsTooLong size) planned (slots, ends, (short, packets_wanted, size_is, longer, fits)) = (
  packets_wanted,
  record { plan = plan; slots = slots; run = record { planned = planned; ends = ends }; short = short; size_is = size_is; longer = longer },
  λ other journal_wanted long.
      let size = journal_of_run scheduler settings table captures plan slots other (record { planned = planned; ends = ends }) long in
      omega (arith, fits journal_wanted, size, long.longer),
)
run_stops scheduler settings wanted table captures plan OutOfMemory planned stops = tt
run_stops scheduler settings wanted table captures plan (WriteFault written) planned stops = absurd stops
run_stops scheduler settings wanted table captures plan (Checked ending) planned stops = absurd stops

-- there is no plan
pub plan_refused : (scheduler : Scheduler) (settings : Settings) (wanted : Wanted) (table : List ℕ) (captures : List (List ℕ)) (ending : Ending)
    → StopsPlan (terms_of settings) table captures ending → StopsTexts scheduler settings wanted table captures ending
plan_refused scheduler settings wanted table captures Done stops = absurd stops
plan_refused scheduler settings wanted table captures Usage stops = absurd stops
plan_refused scheduler settings wanted table captures (ReadFault input) stops = absurd stops
plan_refused scheduler settings wanted table captures (TooLong input) stops = absurd stops
plan_refused scheduler settings wanted table captures (Refused fault) stops = stops
plan_refused scheduler settings wanted table captures (JournalTooLong size) stops = absurd stops
plan_refused scheduler settings wanted table captures (PacketsTooLong size) stops = absurd stops
plan_refused scheduler settings wanted table captures OutOfMemory stops = tt
plan_refused scheduler settings wanted table captures (WriteFault written) stops = absurd stops
plan_refused scheduler settings wanted table captures (Checked ending) stops = absurd stops

-- the run of the job's plan was made
pub plan_ran : {E : Type 0} (scheduler : Scheduler) (settings : Settings) (wanted : Wanted) (table : List ℕ) (captures : List (List ℕ)) (plan : SwitchPlan)
    (result : Result EndedRun E) → IsPlanned settings table captures plan → IfOk result (IsRanOf scheduler plan wanted settings.long)
    → IfOk result (IsRan scheduler settings wanted table captures)
plan_ran scheduler settings wanted table captures plan (Ok ran) planned is = record { plan = plan; planned = planned; ran = is }
plan_ran scheduler settings wanted table captures plan (Err e) planned is = tt

-- or it was not
pub plan_stopped : {T : Type 0} (scheduler : Scheduler) (settings : Settings) (wanted : Wanted) (table : List ℕ) (captures : List (List ℕ)) (plan : SwitchPlan)
    (result : Result T Ending) → IsPlanned settings table captures plan → IfErr result (StopsRun scheduler plan wanted settings.long)
    → IfErr result (StopsTexts scheduler settings wanted table captures)
plan_stopped scheduler settings wanted table captures plan (Ok ran) planned stops = tt
plan_stopped scheduler settings wanted table captures plan (Err ending) planned stops =
    run_stops scheduler settings wanted table captures plan ending planned stops

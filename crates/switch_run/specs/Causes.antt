-- When each answer comes, that one comes where nothing stands against it, and what holds of the run of a command.
use Rattle.std.specs.Prelude.{◌≡◌, ◌<◌, ◌≤◌, ◌*◌, ◌⊎◌, ℕ, true, false, List, length, Option, Some, None, Ok, Err}
use Rattle.outside.specs.Contents.{Contents}
use Rattle.outside.specs.Faults.{ReadOf, BeginOf, WriteOf, ToOut, NeverFall, NoneRose, Rose}
use Rattle.journal_check.specs.declared.verdict.Verdict.TheVariants as verdict
use Rattle.journal_check.specs.declared.verdict.JournalFault.TheVariants as journal_fault
use Rattle.journal_check.specs.declared.verdict.Reason.{Reason}
use Rattle.journal_check.specs.Verdicts.{answer_under}
use Rattle.job_files.specs.Checks.{HasAnswer, IsTooLong as IsTooLongToCheck}
use Rattle.job_files.specs.declared.check_ending.CheckEnding.TheVariants as check_ending
use Rattle.switch_words.specs.declared.job.GenJob.{GenJob}
use Rattle.switch_words.specs.Reading.{JobWords, run, gen, check, firm, RunWords, CheckWords}
use Rattle.switch_plan.specs.declared.fault.PlanFault.{PlanFault}
use Rattle.switch_plan.specs.Made.{made_table, made_captures}
use Rattle.switch_plan.specs.Refusals.{IsRefusal, terms_of}
use Rattle.switch_plan.specs.GoodPlans.{SwitchPlan, IsBurst}
use Rattle.scheduler_names.specs.declared.names.SchedulerName.{SchedulerName}
use Rattle.scheduler_names.specs.declared.names.SchedulerName.TheVariants.{Islip, Firm, Rrm}
use Rattle.eslip_rounds.specs.Schedulers.{Scheduler}
use Rattle.service_bound.specs.Waits.{longest_service_by}
use Rattle.firm_rounds.specs.Decisions.{firm_decision}
use Rattle.named_schedulers.specs.Named.{decision_named}
use Rattle.run_laws.specs.Runs.{ports_of}
use Rattle.run_laws.specs.Promises.{ArrivalsComeFirst, BusySlotsMatchUnder, CompletesUnder, DeliversNoOthersUnder, DeliversUnder, HasFewSlotsUnder}
use Rattle.run_laws.specs.Promises.{ServesUnder, WaitsUnder, bound_of}
use Rattle.run_laws.specs.InTime.{CompletesInTimeUnder, ServesInTimeUnder}
use Rattle.run_laws.specs.Outcomes.{summary_under, CountsPacketsOnce}
use Rattle.run_laws.specs.Interleaving.{InterleavesFlowsUnder}
use Rattle.queue_measures.specs.Sizing.{IsSized}
use Rattle.queue_measures.specs.Sums.{QueuesAddUpUnder}
use Rattle.run_laws.specs.DeparturePromises.{HasDeparturesUnder, CountsDepartures}
use Rattle.departure_bounds.specs.Bounds.{ArrivalBounds}
use Rattle.packet_times.specs.Sums.{RowsAddUp}
use Rattle.run_journals.specs.RunFiles.{journal_text_under}
use Rattle.output_queued.specs.Lines.{ideal, ran}
use Rattle.reference_run.specs.RunLines.{run_matches_under}
use Rattle.reference_run.specs.Promises.{EndsNoLaterUnder, ExtraIsDelaysUnder}
use Rattle.job_files.specs.Jobs.{ReadWords, reads_of, terms_in, input_name, IsInput, RunsSwitch}
use Rattle.switch_run.specs.Switched.{IsLongJournal, IsLongPackets, IsRunOf, JournalFits}
use Rattle.job_files.specs.Inputs.{EarlierFit, IsTooLongFor, AreInputs}
use Rattle.job_files.specs.OutputFiles.{output_name, report_name, journal_name, packets_name}
use Rattle.switch_run.specs.Endings.{Command, Means}
use Rattle.job_files.specs.Statuses.{RefusedCallsEnd, status_of}
use Rattle.job_files.specs.declared.inputs.InputFile.{InputFile}
use Rattle.job_files.specs.declared.ending.Ending.{Ending}
use Rattle.job_files.specs.declared.ending.Ending.TheVariants.{TooLong, Refused, JournalTooLong, PacketsTooLong, OutOfMemory, Checked}

-- the status is that of this ending, with all that it means
abbrev pub Answers : Command → ℕ → Ending → Type 0
Answers c status ending = (status ≡ status_of ending) × Means c ending

-- the command ends so, or memory ran out
abbrev pub AnswersUnlessOut : Command → ℕ → Ending → Type 0
AnswersUnlessOut c status ending = Answers c status ending ⊎ Answers c status OutOfMemory

-- the words mean this job, these contents were seen, and no count of refused reads of a file that it names rose
pub record IsReadable (c : Command) (job : JobWords) (contents : Contents) : Type 0 where
  pub words : c.job ≡ Some job
  pub seen : c.old ≡ Some contents
  pub reads : (r : ReadWords) (input : InputFile) → reads_of job ≡ Some r → IsInput r input
      → Rose (c.was (ReadOf (input_name r input))) (c.now (ReadOf (input_name r input))) → ⊥

-- no count of refused begins or writes of this name rose
pub record IsWritable (c : Command) (name : List ℕ) : Type 0 where
  pub begins : Rose (c.was (BeginOf name)) (c.now (BeginOf name)) → ⊥
  pub writes : Rose (c.was (WriteOf name)) (c.now (WriteOf name)) → ⊥

-- no count of refused calls on what the job writes rose
pub record AreWritable (c : Command) (job : JobWords) : Type 0 where
  pub outputs : (r : RunWords) (j : ℕ) → job ≡ run r → j < length r.inputs → IsWritable c (output_name r.prefix j)
  pub report : (r : RunWords) → job ≡ run r → IsWritable c (report_name r.prefix)
  pub journal : (r : RunWords) → job ≡ run r → r.journal ≡ true → IsWritable c (journal_name r.prefix)
  pub packets : (r : RunWords) → job ≡ run r → r.packets ≡ true → IsWritable c (packets_name r.prefix)
  pub out : Rose (c.was ToOut) (c.now ToOut) → ⊥

-- the words mean this check, these contents were seen, and no count of refused reads of its file rose
pub record IsCheckable (c : Command) (job : CheckWords) (contents : Contents) : Type 0 where
  pub words : c.job ≡ Some (check job)
  pub seen : c.old ≡ Some contents
  pub reads : Rose (c.was (ReadOf job.file)) (c.now (ReadOf job.file)) → ⊥

-- Status 2 comes exactly where the words mean no job, unless memory runs out; where the first word names no command, or there is
-- none, it comes even where memory has run out.
pub record UsageIsExact (c : Command) (status : ℕ) : Type 0 where
  pub only : status ≡ 2 → c.job ≡ None
  pub every : c.job ≡ None → (status ≡ 2) ⊎ (status ≡ 5)
  pub unnamed : c.named ≡ false → status ≡ 2

-- where a file is too long and those before it are not, the answer says so, or memory ran out
abbrev pub TooLongIsExact : Command → ℕ → Type 0
TooLongIsExact c status = (job : JobWords) (r : ReadWords) (contents : Contents) (input : InputFile) → IsReadable c job contents → reads_of job ≡ Some r
    → IsInput r input
    → EarlierFit r input contents → IsTooLongFor r input contents → AnswersUnlessOut c status (TooLong input)

-- where the bytes of the table and the captures are refused, the answer says so, or memory ran out
abbrev pub RefusalIsExact : Command → ℕ → Type 0
RefusalIsExact c status = (job : JobWords) (contents : Contents) (table : List ℕ) (captures : List (List ℕ)) (fault : PlanFault) → IsReadable c job contents
    → AreInputs job (Some contents) table captures
    → IsRefusal (terms_in job) table captures fault → AnswersUnlessOut c status (Refused fault)

-- where a journal is wanted that would be too long, the answer says so, or memory ran out
abbrev pub JournalTooLongIsExact : Command → ℕ → Type 0
JournalTooLongIsExact c status = (r : RunWords) (contents : Contents) (table : List ℕ) (captures : List (List ℕ)) (size : ℕ) → IsReadable c (run r) contents
    → r.journal ≡ true
    → AreInputs (run r) (Some contents) table captures → IsLongJournal (decision_named r.scheduler) r.settings table captures size
    → AnswersUnlessOut c status (JournalTooLong size)

-- where a packets file is wanted that would be too long, as that of a long job is not, and no journal that is wanted is too
-- long, the answer says so, or memory ran out
abbrev pub PacketsTooLongIsExact : Command → ℕ → Type 0
PacketsTooLongIsExact c status = (r : RunWords) (contents : Contents) (table : List ℕ) (captures : List (List ℕ)) (size : ℕ)
    → IsReadable c (run r) contents → r.packets ≡ true → AreInputs (run r) (Some contents) table captures → JournalFits r table captures
    → IsLongPackets (decision_named r.scheduler) r.settings table captures size → AnswersUnlessOut c status (PacketsTooLong size)

-- What a check comes to, unless memory runs out: where its file is too long, is no journal file, is not lawful under the
-- scheduler of the words, and is lawful under it.
pub record CheckIsExact (c : Command) (status : ℕ) : Type 0 where
  pub too_long : (job : CheckWords) (contents : Contents) → IsCheckable c job contents → IsTooLongToCheck contents job.file
      → AnswersUnlessOut c status (Checked check_ending.TooLong)
  pub bad : (job : CheckWords) (contents : Contents) (at : ℕ) → IsCheckable c job contents
      → HasAnswer (decision_named job.scheduler) job.file (Err (journal_fault.Bad at)) contents
      → AnswersUnlessOut c status (Checked (check_ending.Bad at))
  pub no : (job : CheckWords) (contents : Contents) (slot : ℕ) (reason : Reason) → IsCheckable c job contents
      → HasAnswer (decision_named job.scheduler) job.file (Ok (verdict.No slot reason)) contents
      → AnswersUnlessOut c status (Checked (check_ending.No slot reason))
  pub yes : (job : CheckWords) (contents : Contents) (slots : ℕ) (longest : List ℕ) → IsCheckable c job contents
      → HasAnswer (decision_named job.scheduler) job.file (Ok (verdict.Yes slots longest)) contents
      → (Rose (c.was ToOut) (c.now ToOut) → ⊥) → AnswersUnlessOut c status (Checked check_ending.Yes)

-- Where no call was refused, no file is too long and nothing is refused, and neither a journal nor a packets file that is
-- wanted is too long, all is written, or memory ran out.
abbrev pub IsComplete : Command → ℕ → Type 0
IsComplete c status = (job : JobWords) (contents : Contents) → RunsSwitch job → IsReadable c job contents → AreWritable c job
    → ((r : ReadWords) (input : InputFile) → reads_of job ≡ Some r → IsInput r input → IsTooLongFor r input contents → ⊥)
    → ((table : List ℕ) (captures : List (List ℕ)) (fault : PlanFault) → AreInputs job (Some contents) table captures
    → IsRefusal (terms_in job) table captures fault → ⊥)
    → ((r : RunWords) (table : List ℕ) (captures : List (List ℕ)) (size : ℕ) → job ≡ run r → r.journal ≡ true → AreInputs job (Some contents) table captures
    → IsLongJournal (decision_named r.scheduler) r.settings table captures size → ⊥)
    → ((r : RunWords) (table : List ℕ) (captures : List (List ℕ)) (size : ℕ) → job ≡ run r → r.packets ≡ true
    → AreInputs job (Some contents) table captures → IsLongPackets (decision_named r.scheduler) r.settings table captures size → ⊥)
    → (status ≡ 0) ⊎ (status ≡ 5)

-- What a `gen` job comes to, whatever the files hold: where the bytes that it makes are refused, the answer says so, or memory
-- ran out; and where they are not, and no call on standard output was refused, the summary is given, or memory ran out.
pub record GenIsExact (c : Command) (status : ℕ) : Type 0 where
  pub refusal : (g : GenJob) (fault : PlanFault) → c.job ≡ Some (gen g) → IsRefusal (terms_of g.settings) (made_table g.ports) (made_captures g) fault
      → AnswersUnlessOut c status (Refused fault)
  pub complete : (g : GenJob) → c.job ≡ Some (gen g)
      → ((fault : PlanFault) → IsRefusal (terms_of g.settings) (made_table g.ports) (made_captures g) fault → ⊥)
      → (Rose (c.was ToOut) (c.now ToOut) → ⊥) → (status ≡ 0) ⊎ (status ≡ 5)

-- the scheduler of a job; of `firm` it is the second
abbrev pub scheduler_in : JobWords → SchedulerName
scheduler_in (run r) = r.scheduler
scheduler_in (gen g) = g.scheduler
scheduler_in (check c) = c.scheduler
scheduler_in (firm f) = Firm

-- the run of a `run` or a `gen` job under its scheduler, and that of a `firm` job under FIRM
abbrev pub IsRunFor : JobWords → List ℕ → List (List ℕ) → SwitchPlan → ℕ → Type 0
IsRunFor (run r) table captures plan slots = IsRunOf (decision_named r.scheduler) r.settings table captures plan slots
IsRunFor (gen g) table captures plan slots = IsRunOf (decision_named g.scheduler) g.settings table captures plan slots
IsRunFor (check c) table captures plan slots = ⊥
IsRunFor (firm f) table captures plan slots = IsRunOf firm_decision f.settings table captures plan slots

-- the run of the job that the words mean
pub record IsRunBy (c : Command) (plan : SwitchPlan) (slots : ℕ) : Type 0 where
  pub job : JobWords
  pub table : List ℕ
  pub captures : List (List ℕ)
  pub words : c.job ≡ Some job
  pub inputs : AreInputs job c.old table captures
  pub run : IsRunFor job table captures plan slots

-- Within how many slots a unicast queue is served under each scheduler, where nothing better is posted. Under round-robin
-- matching no number is promised: it can starve a queue (`rrm_starves()` of `rrm_rounds`).
abbrev pub bound_named : SchedulerName → SwitchPlan → Option ℕ
bound_named Islip plan = Some (bound_of plan)
bound_named Firm plan = Some (ports_of plan * ports_of plan)
bound_named Rrm plan = None

-- Within how many slots it is served, or before the run's end, where only its output is asked for nothing better.
abbrev pub in_time_bound_named : SchedulerName → SwitchPlan → Option ℕ
in_time_bound_named Islip plan = Some (longest_service_by (ports_of plan) plan.rounds)
in_time_bound_named Firm plan = Some (ports_of plan * ports_of plan)
in_time_bound_named Rrm plan = None

-- At the end of no slot has the run fed more cells to an output than the ideal switch has given out.
abbrev pub IsNeverAhead : Scheduler → SwitchPlan → ℕ → Type 0
IsNeverAhead scheduler plan slots = (j t : ℕ) → t ≤ slots
    → ran (run_matches_under scheduler plan slots) j t ≤ ideal plan.cards (run_matches_under scheduler plan slots) j t

-- The journal of the run is lawful under its scheduler: its check tells the number of slots and the longest waits that the
-- summary tells.
abbrev pub JournalIsLawful : Scheduler → SwitchPlan → ℕ → Type 0
JournalIsLawful scheduler plan slots =
    answer_under scheduler (journal_text_under scheduler plan slots) ≡ Ok (verdict.Yes slots (summary_under scheduler plan slots).longest)

-- Over the whole run both serve as many cells at each output.
abbrev pub ServesAsMany : Scheduler → SwitchPlan → ℕ → Type 0
ServesAsMany scheduler plan slots = (j : ℕ) → j < ports_of plan
    → ran (run_matches_under scheduler plan slots) j slots ≡ ideal plan.cards (run_matches_under scheduler plan slots) j slots

-- What is promised of the run under the scheduler of this name of a plan, that has so many slots. Its journal is promised of
-- the plan of a burst, as each job's is that is not long.
pub record RunPromises (name : SchedulerName) (plan : SwitchPlan) (slots : ℕ) : Type 0 where
  pub delivers : DeliversUnder (decision_named name) plan slots
  pub no_others : DeliversNoOthersUnder (decision_named name) plan slots
  pub arrivals : ArrivalsComeFirst plan slots
  pub interleaves : InterleavesFlowsUnder (decision_named name) plan slots
  pub counts : CountsPacketsOnce (summary_under (decision_named name) plan slots)
  pub serves : (bound : ℕ) → bound_named name plan ≡ Some bound → ServesUnder (decision_named name) plan slots bound
  pub serves_in_time : (bound : ℕ) → in_time_bound_named name plan ≡ Some bound → ServesInTimeUnder (decision_named name) plan slots bound
  pub waits : (bound : ℕ) → bound_named name plan ≡ Some bound → WaitsUnder (decision_named name) plan slots bound
  pub completes : CompletesUnder (decision_named name) plan slots
  pub completes_in_time : CompletesInTimeUnder (decision_named name) plan slots
  pub few_slots : HasFewSlotsUnder (decision_named name) plan slots
  pub busy_slots : BusySlotsMatchUnder (decision_named name) plan
  pub never_ahead : IsNeverAhead (decision_named name) plan slots
  pub serves_as_many : ServesAsMany (decision_named name) plan slots
  pub ends_no_later : EndsNoLaterUnder (decision_named name) plan slots
  pub delays : ExtraIsDelaysUnder (decision_named name) plan slots
  pub journals : IsBurst plan → JournalIsLawful (decision_named name) plan slots
  pub queues : QueuesAddUpUnder (decision_named name) plan slots
  pub sized : IsSized (decision_named name) plan slots
  pub departures : HasDeparturesUnder (decision_named name) plan slots
  pub copies : CountsDepartures (decision_named name) plan slots
  pub rows : RowsAddUp (decision_named name) plan slots
  pub bounds : ArrivalBounds (decision_named name) plan slots

-- at status 0 each job that runs a switch has a run
abbrev pub HasRun : Command → ℕ → Type 0
HasRun c status = (job : JobWords) → c.job ≡ Some job → RunsSwitch job → status ≡ 0 → (plan : SwitchPlan) × (slots : ℕ) × IsRunBy c plan slots

-- The switch theorem: what a command answers with this status, that at status 0 no count of refused calls rose, of any kind
-- or name, that a refused call ends it at the status of its kind, when each answer comes, that a job which was done has a run,
-- and what holds of it.
pub record SwitchTheorem (c : Command) (status : ℕ) : Type 0 where
  pub meaning : (ending : Ending) × Answers c status ending
  pub never_fall : NeverFall c.was c.now
  pub no_fault : status ≡ 0 → NoneRose c.was c.now
  pub refused : RefusedCallsEnd c.was c.now status
  pub usage : UsageIsExact c status
  pub too_long : TooLongIsExact c status
  pub refusal : RefusalIsExact c status
  pub journal_too_long : JournalTooLongIsExact c status
  pub packets_too_long : PacketsTooLongIsExact c status
  pub checks : CheckIsExact c status
  pub complete : IsComplete c status
  pub made_inputs : GenIsExact c status
  pub has_run : HasRun c status
  pub runs : (plan : SwitchPlan) (slots : ℕ) → (is : IsRunBy c plan slots) → RunPromises (scheduler_in is.job) plan slots

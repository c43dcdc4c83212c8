-- A job has one outcome: a cause why it is refused stands against texts, and what was read is one.
use Rattle.std.proofs.Common.{◌≡◌, ℕ, List}
use Rattle.forward_table.specs.declared.route_lines.RouteLine.{RouteLine}
use Rattle.eslip_rounds.specs.Schedulers.{Scheduler}
use Rattle.switch_words.specs.declared.job.Settings.{Settings}
use Rattle.switch_words.specs.Reading.{JobWords, run, gen, check, firm}
use Rattle.switch_plan.specs.declared.fault.PlanFault.{PlanFault}
use Rattle.switch_plan.specs.Traffic.{CaptureFile}
use Rattle.switch_plan.specs.Refusals.{AreRead, IsRefusal, terms_of}
use Rattle.switch_plan.specs.GoodPlans.{SwitchPlan}
use Rattle.switch_plan.proofs.Refused.{files_once, no_refusal}
use Rattle.job_files.specs.Jobs.{terms_in}
use Rattle.job_files.specs.OutputFiles.{Texts}
use Rattle.switch_run.specs.Switched.{AreTexts, IsLongJournal, IsLongPackets, IsPlanned}

-- what was read is one table and one list of captures
pub same_table : (text : List ℕ) (files : List (List ℕ)) (t u : List RouteLine) (xs ys : List CaptureFile) → AreRead text files t xs → AreRead text files u ys
    → t ≡ u
same_table text files t u xs ys a b = let p = a.table_is in let q = b.table_is in cc

pub same_captures : (text : List ℕ) (files : List (List ℕ)) (t u : List RouteLine) (xs ys : List CaptureFile) → AreRead text files t xs
    → AreRead text files u ys → xs ≡ ys
same_captures text files t u xs ys a b = files_once files xs ys a.captures_are b.captures_are

-- a plan of a table and captures is made only where nothing refuses them
not_planned : (settings : Settings) (text : List ℕ) (files : List (List ℕ)) (a : PlanFault) (plan : SwitchPlan) → IsRefusal (terms_of settings) text files a
    → IsPlanned settings text files plan → ⊥
not_planned settings text files a plan p q = no_refusal (terms_of settings) text files q.lines q.captures a q.read q.allowed p

-- the journal of a job that is refused is not too long
pub not_long : (scheduler : Scheduler) (settings : Settings) (text : List ℕ) (files : List (List ℕ)) (a : PlanFault) (size : ℕ)
    → IsRefusal (terms_of settings) text files a → IsLongJournal scheduler settings text files size → ⊥
not_long scheduler settings text files a size p q = not_planned settings text files a q.plan p q.run.planned

-- nor is its packets file
pub not_long_packets : (scheduler : Scheduler) (settings : Settings) (text : List ℕ) (files : List (List ℕ)) (a : PlanFault) (size : ℕ)
    → IsRefusal (terms_of settings) text files a → IsLongPackets scheduler settings text files size → ⊥
not_long_packets scheduler settings text files a size p q = not_planned settings text files a q.plan p q.run.planned

-- a job that is refused makes no texts
pub not_made : (job : JobWords) (text : List ℕ) (files : List (List ℕ)) (a : PlanFault) (texts : Texts) → IsRefusal (terms_in job) text files a
    → AreTexts job text files texts → ⊥
not_made (run r) text files a texts p q = not_planned r.settings text files a q.plan p q.run.planned
not_made (gen g) text files a texts p q = not_planned g.settings text files a q.plan p q.run.planned
not_made (check c) text files a texts p q = q
not_made (firm f) text files a texts p q = not_planned f.settings text files a q.plan p q.run.planned

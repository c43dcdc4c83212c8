-- One outcome becomes of a job: there is one, and two are one.
use Rattle.std.proofs.Common.{◌≡◌, ◌⊎◌, ◌<◌, ◌≤◌, ℕ, Bool, true, false, List, length, None, Some, refl, ap, arith, inl, inr}
use Rattle.std.specs.Prelude.{if◌then◌else◌, IfSome}
use Rattle.std.proofs.lemmas.Bool.{cases_Bool, cases_lt}
use Rattle.eslip_rounds.specs.Schedulers.{Scheduler}
use Rattle.firm_rounds.specs.Decisions.{firm_decision}
use Rattle.named_schedulers.specs.Named.{decision_named}
use Rattle.named_schedulers.proofs.Schedulers.{IsScheduler-named}
use Rattle.named_schedulers.proofs.FirmScheduler.{IsScheduler-firm_decision}
use Rattle.switch_words.specs.declared.job.GenJob.{GenJob}
use Rattle.switch_words.specs.Reading.{JobWords, run, gen, check, firm, RunWords, FirmWords}
use Rattle.switch_plan.specs.GoodPlans.{SwitchPlan}
use Rattle.switch_plan.proofs.Refused.{refusal_once}
use Rattle.run_laws.proofs.RunEnds.{run_ends}
use Rattle.packet_times.specs.declared.limits.TheConstants.{MAX_PACKETS_BYTES}
use Rattle.packet_times.specs.Rows.{packets_text_under}
use Rattle.journal_check.specs.declared.limits.TheConstants.{MAX_JOURNAL_BYTES}
use Rattle.run_journals.specs.RunFiles.{journal_text_under}
use Rattle.job_files.specs.Jobs.{terms_in}
use Rattle.switch_run.specs.Switched.{IsRunOf, JournalFits, nothing_wanted, texts_under, wanted_by}
use Rattle.switch_run.proofs.OneOutcome.{not_long, not_long_packets, not_made}
use Rattle.switch_run.proofs.OnePlan.{journal_of_run, long_not_made, long_once, long_packets_not_made, long_packets_once, texts_once}
use Rattle.job_outcomes.specs.Outcomes.{HasLongJournal, HasLongPackets, HasOneOutcome, IsOutcome, JournalTooLong, Made, Outcome, PacketsTooLong, Refused}
use Rattle.job_outcomes.proofs.Plans.{RefusedOrPlanned, planned, refused}

-- ---- two are one
-- a journal that is too long stands against a refusal, texts and another size
journal_refused : (job : JobWords) (table : List ℕ) (files : List (List ℕ)) (fault : _) (size : ℕ) → IsOutcome job table files (Refused fault)
    → HasLongJournal job table files size → ⊥
journal_refused (run r) table files fault size refusal long = not_long (decision_named r.scheduler) r.settings table files fault size refusal long.1
journal_refused (gen g) table files fault size refusal long = long
journal_refused (check c) table files fault size refusal long = long
journal_refused (firm f) table files fault size refusal long = long

journal_made : (job : JobWords) (table : List ℕ) (files : List (List ℕ)) (texts : _) (size : ℕ) → IsOutcome job table files (Made texts)
    → HasLongJournal job table files size → ⊥
journal_made (run r) table files texts size made long =
    long_not_made (decision_named r.scheduler) r.settings table files (wanted_by r) texts size long.0 made long.1
journal_made (gen g) table files texts size made long = long
journal_made (check c) table files texts size made long = long
journal_made (firm f) table files texts size made long = long

journals_once : (job : JobWords) (table : List ℕ) (files : List (List ℕ)) (a b : ℕ) → HasLongJournal job table files a → HasLongJournal job table files b
    → a ≡ b
journals_once (run r) table files a b p q = long_once (decision_named r.scheduler) r.settings table files a b p.1 q.1
journals_once (gen g) table files a b p q = absurd p
journals_once (check c) table files a b p q = absurd p
journals_once (firm f) table files a b p q = absurd p

-- and so does a packets file, and against such a journal too
packets_refused : (job : JobWords) (table : List ℕ) (files : List (List ℕ)) (fault : _) (size : ℕ) → IsOutcome job table files (Refused fault)
    → HasLongPackets job table files size → ⊥
packets_refused (run r) table files fault size refusal long =
    not_long_packets (decision_named r.scheduler) r.settings table files fault size refusal long.2
packets_refused (gen g) table files fault size refusal long = long
packets_refused (check c) table files fault size refusal long = long
packets_refused (firm f) table files fault size refusal long = long

packets_made : (job : JobWords) (table : List ℕ) (files : List (List ℕ)) (texts : _) (size : ℕ) → IsOutcome job table files (Made texts)
    → HasLongPackets job table files size → ⊥
packets_made (run r) table files texts size made long =
    long_packets_not_made (decision_named r.scheduler) r.settings table files (wanted_by r) texts size long.0 made long.2
packets_made (gen g) table files texts size made long = long
packets_made (check c) table files texts size made long = long
packets_made (firm f) table files texts size made long = long

packets_once : (job : JobWords) (table : List ℕ) (files : List (List ℕ)) (a b : ℕ) → HasLongPackets job table files a → HasLongPackets job table files b
    → a ≡ b
packets_once (run r) table files a b p q = long_packets_once (decision_named r.scheduler) r.settings table files a b p.2 q.2
packets_once (gen g) table files a b p q = absurd p
packets_once (check c) table files a b p q = absurd p
packets_once (firm f) table files a b p q = absurd p

one_too_long : (job : JobWords) (table : List ℕ) (files : List (List ℕ)) (journal packets : ℕ) → HasLongJournal job table files journal
    → HasLongPackets job table files packets → ⊥
one_too_long (run r) table files journal packets p q = q.1 journal p.0 p.1
one_too_long (gen g) table files journal packets p q = p
one_too_long (check c) table files journal packets p q = p
one_too_long (firm f) table files journal packets p q = p

module _ (job : JobWords) (table : List ℕ) (files : List (List ℕ)) where
  outcomes_once : (a b : Outcome) → IsOutcome job table files a → IsOutcome job table files b → a ≡ b
  outcomes_once (Made a) (Made b) p q = ap Made (texts_once job table files a b p q)
  outcomes_once (Made a) (Refused b) p q = absurd (not_made job table files b a q p)
  outcomes_once (Made a) (JournalTooLong b) p q = absurd (journal_made job table files a b p q)
  outcomes_once (Made a) (PacketsTooLong b) p q = absurd (packets_made job table files a b p q)
  outcomes_once (Refused a) (Made b) p q = absurd (not_made job table files a b p q)
  outcomes_once (Refused a) (Refused b) p q = ap Refused (refusal_once (terms_in job) table files a b p q)
  outcomes_once (Refused a) (JournalTooLong b) p q = absurd (journal_refused job table files a b p q)
  outcomes_once (Refused a) (PacketsTooLong b) p q = absurd (packets_refused job table files a b p q)
  outcomes_once (JournalTooLong a) (Made b) p q = absurd (journal_made job table files b a q p)
  outcomes_once (JournalTooLong a) (Refused b) p q = absurd (journal_refused job table files b a q p)
  outcomes_once (JournalTooLong a) (JournalTooLong b) p q = ap JournalTooLong (journals_once job table files a b p q)
  outcomes_once (JournalTooLong a) (PacketsTooLong b) p q = absurd (one_too_long job table files a b p q)
  outcomes_once (PacketsTooLong a) (Made b) p q = absurd (packets_made job table files b a q p)
  outcomes_once (PacketsTooLong a) (Refused b) p q = absurd (packets_refused job table files b a q p)
  outcomes_once (PacketsTooLong a) (JournalTooLong b) p q = absurd (one_too_long job table files b a q p)
  outcomes_once (PacketsTooLong a) (PacketsTooLong b) p q = ap PacketsTooLong (packets_once job table files a b p q)

  -- where there is one, there is one alone
  one_outcome : (outcome : Outcome) → IsOutcome job table files outcome → HasOneOutcome job table files
  one_outcome outcome is = record { outcome = outcome; is = is; only = λ other too. outcomes_once other outcome too is }

-- ---- there is one
-- a text that is wanted is too long, or each such text is not
over_or_fits : (wanted : Bool) (size most : ℕ) → ((wanted ≡ true) × (most < size)) ⊎ (wanted ≡ true → size ≤ most)
over_or_fits false size most = inr (λ is. absurd (cc))
over_or_fits true size most = elim (cases_lt most size) [ inl over ↦ inl (refl, over) | inr fits ↦ inr (λ is. fits) ]

fits_if : (wanted : Bool) (bytes : List ℕ) (most : ℕ) → (wanted ≡ true → length bytes ≤ most)
    → IfSome (if wanted then Some bytes else None) (λ text. length text ≤ most)
fits_if true bytes most fits = fits refl
fits_if false bytes most fits = tt

-- of a `run`
module _ (r : RunWords) (table : List ℕ) (files : List (List ℕ)) (plan : SwitchPlan) (slots : ℕ)
    (ran : IsRunOf (decision_named r.scheduler) r.settings table files plan slots) where
  abbrev scheduler : Scheduler
  scheduler = decision_named r.scheduler

  abbrev journal : List ℕ
  journal = journal_text_under scheduler plan slots

  abbrev packets : List ℕ
  packets = packets_text_under scheduler plan slots

  abbrev Fits : Type 0
  Fits = r.journal ≡ true → length journal ≤ MAX_JOURNAL_BYTES

  journal_fits : Fits → JournalFits r table files
  journal_fits fits size wanted long =
      let small = fits wanted in
      let size_is = journal_of_run scheduler r.settings table files plan slots size ran long in
      let longer = long.longer in
      omega arith

  run_made : Fits → (r.settings.long ≡ false → r.packets ≡ true → length packets ≤ MAX_PACKETS_BYTES) → HasOneOutcome (run r) table files
  run_made fits packets_fit =
      one_outcome (run r) table files (Made (texts_under scheduler (wanted_by r) plan slots))
      (record {
        plan = plan;
        slots = slots;
        run = ran;
        are = refl;
        small = fits_if r.journal journal MAX_JOURNAL_BYTES fits;
        packets_small = λ short. fits_if r.packets packets MAX_PACKETS_BYTES (packets_fit short);
      })

  long_packets : Fits → r.settings.long ≡ false → (r.packets ≡ true) × (MAX_PACKETS_BYTES < length packets) → HasOneOutcome (run r) table files
  long_packets fits short over =
      one_outcome (run r) table files (PacketsTooLong (length packets))
      (over.0, journal_fits fits, record { plan = plan; slots = slots; run = ran; short = short; size_is = refl; longer = over.1 })

  by_packets : Fits → HasOneOutcome (run r) table files
  by_packets fits = elim (cases_Bool r.settings.long) [
    | inl long ↦ run_made fits (λ short. absurd (cc))
    | inr short ↦ elim (over_or_fits r.packets (length packets) MAX_PACKETS_BYTES) [
      | inl over ↦ long_packets fits short over
      | inr packets_fit ↦ run_made fits (λ short. packets_fit)
    ]
  ]

  run_outcome : HasOneOutcome (run r) table files
  run_outcome = elim (over_or_fits r.journal (length journal) MAX_JOURNAL_BYTES) [
    | inl over ↦
        one_outcome (run r) table files (JournalTooLong (length journal))
        (over.0, record { plan = plan; slots = slots; run = ran; size_is = refl; longer = over.1 })
    | inr fits ↦ by_packets fits
  ]

pub run_has_one : (r : RunWords) (table : List ℕ) (files : List (List ℕ)) → RefusedOrPlanned r.settings table files → HasOneOutcome (run r) table files
run_has_one r table files (refused fault is) = one_outcome (run r) table files (Refused fault) is
run_has_one r table files (planned plan is) =
    let ends = run_ends (decision_named r.scheduler) (IsScheduler-named r.scheduler) plan is.good in
    run_outcome r table files plan ends.0 (record { planned = is; ends = ends.1 })

pub gen_has_one : (g : GenJob) (table : List ℕ) (files : List (List ℕ)) → RefusedOrPlanned g.settings table files → HasOneOutcome (gen g) table files
gen_has_one g table files (refused fault is) = one_outcome (gen g) table files (Refused fault) is
gen_has_one g table files (planned plan is) =
    let ends = run_ends (decision_named g.scheduler) (IsScheduler-named g.scheduler) plan is.good in
    one_outcome (gen g) table files (Made (texts_under (decision_named g.scheduler) nothing_wanted plan ends.0))
    (record { plan = plan; slots = ends.0; run = record { planned = is; ends = ends.1 }; are = refl; small = tt; packets_small = λ short. tt })

pub firm_has_one : (f : FirmWords) (table : List ℕ) (files : List (List ℕ)) → RefusedOrPlanned f.settings table files
    → HasOneOutcome (firm f) table files
firm_has_one f table files (refused fault is) = one_outcome (firm f) table files (Refused fault) is
firm_has_one f table files (planned plan is) =
    let ends = run_ends firm_decision IsScheduler-firm_decision plan is.good in
    one_outcome (firm f) table files (Made (texts_under firm_decision nothing_wanted plan ends.0))
    (record { plan = plan; slots = ends.0; run = record { planned = is; ends = ends.1 }; are = refl; small = tt; packets_small = λ short. tt })

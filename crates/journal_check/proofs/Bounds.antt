-- The bounds on waiting in lawful files, each under its own schedulers.
use Rattle.std.proofs.Common.{ℕ, zero, suc, ◌+◌, ◌-◌, ◌*◌, ◌/◌, ◌<◌, ◌≤◌, ◌==◌, sym, subst, inl, inr, arith}
use Rattle.std.proofs.lemmas.Bool.{cases_Bool, cond-true, cond-false}
use Rattle.std.proofs.Math.Nat.{mul-le-mul_left}
use Rattle.service_bound.proofs.LineRateByRounds.{served_by_rounds}
use Rattle.eslip_rounds.specs.Slots.{AreMoved}
use Rattle.eslip_rounds.specs.Decisions.{decision_of}
use Rattle.eslip_rounds.proofs.Scheduling.{IsSchedulerBy-decision_of, IsScheduler-decision_of}
use Rattle.service_bound.specs.Waits.{longest_service, longest_service_in_one_round, longest_service_by}
use Rattle.service_bound.proofs.InWindows.{AreMoved-keep}
use Rattle.service_bound.proofs.HeadsComplete.{AreMoved-pass}
use Rattle.firm_rounds.specs.Slots.{AreMovedByFirm}
use Rattle.firm_rounds.specs.Decisions.{firm_decision}
use Rattle.firm_rounds.proofs.PointersKept.{firm_keep, firm_pass}
use Rattle.firm_rounds.proofs.InTime.{firm_served_in_time}
use Rattle.rrm_rounds.specs.Slots.{AreMovedByRrm}
use Rattle.rrm_rounds.specs.Decisions.{rrm_decision}
use Rattle.rrm_rounds.proofs.PointersKept.{rrm_keep, rrm_pass}
use Rattle.rrm_rounds.proofs.Scheduling.{IsSchedulerBy-rrm_decision, IsScheduler-rrm_decision}
use Rattle.named_schedulers.proofs.FirmScheduler.{IsSchedulerBy-firm_decision, IsScheduler-firm_decision}
use Rattle.journal_check.specs.Files.{JournalFile}
use Rattle.journal_check.specs.Texts.{IsFile}
use Rattle.journal_check.specs.Lawful.{IsLawfulUnder}
use Rattle.journal_check.proofs.Scheduling.{CompletesMulticast, IsLawfulBy, ServesUnicastWithin, unicast_within, multicast_within}

-- a bound is some slots
half_some : (n x : ℕ) → 0 < n → 2 ≤ x → 0 < n * x / 2
half_some n x some two = let scaled : n * 2 ≤ n * x = mul-le-mul_left n two in omega (arith, scaled)

one_some : (n : ℕ) → 0 < n → 0 < longest_service_in_one_round n
one_some zero some = absurd (omega arith)
one_some (suc m) some = omega arith

longest_some : (n rounds : ℕ) → 0 < n → 0 < longest_service_by n rounds
longest_some n rounds some = elim (cases_Bool (rounds == 1)) [
  | inl one ↦ subst (λ k. 0 < k) (sym (cond-true (rounds == 1) (longest_service_in_one_round n) (longest_service n) one)) (one_some n some)
  | inr more ↦ subst (λ k. 0 < k) (sym (cond-false (rounds == 1) (longest_service_in_one_round n) (longest_service n) more))
      (half_some n (n * n - n + 2) some (omega arith))
]

module _ (file : JournalFile) (good : IsFile file) where
  by_islip : IsLawfulUnder decision_of file → IsLawfulBy AreMoved decision_of file
  by_islip lawful =
      record { scheduling = IsScheduler-decision_of; moving = IsSchedulerBy-decision_of; keep = AreMoved-keep file.ports; good = good; lawful = lawful }

  by_firm : IsLawfulUnder firm_decision file → IsLawfulBy AreMovedByFirm firm_decision file
  by_firm lawful =
      record { scheduling = IsScheduler-firm_decision; moving = IsSchedulerBy-firm_decision; keep = firm_keep file.ports; good = good; lawful = lawful }

  by_rrm : IsLawfulUnder rrm_decision file → IsLawfulBy AreMovedByRrm rrm_decision file
  by_rrm lawful =
      record { scheduling = IsScheduler-rrm_decision; moving = IsSchedulerBy-rrm_decision; keep = rrm_keep file.ports; good = good; lawful = lawful }

  pub unicast_in_time : IsLawfulUnder decision_of file → ServesUnicastWithin (longest_service_by file.ports file.rounds) decision_of file
  unicast_in_time lawful =
      unicast_within AreMoved decision_of file (by_islip lawful) (longest_service_by file.ports file.rounds)
      (longest_some file.ports file.rounds good.ports_some)
      (λ t level i j places window below. served_by_rounds file.ports file.rounds t level i j places window good.rounds_some below)

  pub multicast_in_time : IsLawfulUnder decision_of file → CompletesMulticast decision_of file
  multicast_in_time lawful = multicast_within AreMoved decision_of file (by_islip lawful) (AreMoved-pass file.ports)

  pub unicast_under_firm : IsLawfulUnder firm_decision file → ServesUnicastWithin (file.ports * file.ports) firm_decision file
  unicast_under_firm lawful =
      unicast_within AreMovedByFirm firm_decision file (by_firm lawful) (file.ports * file.ports) (square_some file.ports good.ports_some)
      (λ t level i j places window below. firm_served_in_time file.ports file.rounds t level i j places window good.rounds_some below) where
        square_some : (n : ℕ) → 0 < n → 0 < n * n
        square_some n some = let scaled : n * 1 ≤ n * n = mul-le-mul_left n some in omega (arith, scaled)

  pub multicast_under_firm : IsLawfulUnder firm_decision file → CompletesMulticast firm_decision file
  multicast_under_firm lawful = multicast_within AreMovedByFirm firm_decision file (by_firm lawful) (firm_pass file.ports)

  pub multicast_under_rrm : IsLawfulUnder rrm_decision file → CompletesMulticast rrm_decision file
  multicast_under_rrm lawful = multicast_within AreMovedByRrm rrm_decision file (by_rrm lawful) (rrm_pass file.ports)

-- Where no input asks, the schedulers that have names match nothing and move no pointer.
use Rattle.std.proofs.Common.{ℕ, refl, sym}
use Rattle.scheduler_names.specs.declared.names.SchedulerName.{SchedulerName}
use Rattle.scheduler_names.specs.declared.names.SchedulerName.TheVariants.{Islip, Firm, Rrm}
use Rattle.slot_match.specs.Matches.{unmatched}
use Rattle.slot_match.proofs.Kept.{nobody_at_first}
use Rattle.rotating_pick.specs.declared.kinds.Kind.TheVariants.{Uni, Multi}
use Rattle.pointer_state.specs.Places.{Places}
use Rattle.eslip_rounds.specs.Slots.{AreMoved}
use Rattle.eslip_rounds.specs.Decisions.{decision_of}
use Rattle.eslip_rounds.proofs.Settling.{decision_of-only}
use Rattle.firm_rounds.specs.Slots.{AreMovedByFirm}
use Rattle.firm_rounds.specs.Decisions.{firm_decision}
use Rattle.firm_rounds.proofs.Computed.{firm_decision-only}
use Rattle.rrm_rounds.specs.Slots.{AreMovedByRrm}
use Rattle.rrm_rounds.specs.Decisions.{rrm_decision}
use Rattle.rrm_rounds.proofs.Computed.{rrm_decision-only}
use Rattle.named_schedulers.specs.Named.{decision_named}
use Rattle.idle_slots.specs.Quiet.{empty_rows, nothing_decided, IsQuiet}
use Rattle.idle_slots.proofs.QuietRounds.{none_asks, AreWithin-empty, none_granted, quiet_slot}

module _ (n t : ℕ) (places : Places) where
  islip_stays : AreMoved n t (empty_rows n) (unmatched n) (unmatched n) places places
  islip_stays = record {
    ports = refl;
    granted = λ i j level serves. absurd (nobody_at_first n i j level Uni serves);
    accepted = λ i j level serves. absurd (nobody_at_first n i j level Uni serves);
    grant_stays = λ j level none. refl;
    accept_stays = λ i level none. refl;
    passed = λ i level head done. absurd (none_asks n i level head.member.0 Multi head.member.1);
    shared_stays = λ level none. refl;
  }

  firm_stays : AreMovedByFirm n t (empty_rows n) (unmatched n) (unmatched n) places places
  firm_stays = record {
    ports = refl;
    granted = islip_stays.granted;
    held = λ i j level refused. absurd (none_granted n t places i j level Uni refused.0);
    grant_stays = λ j level none unrefused. refl;
    accepted = islip_stays.accepted;
    accept_stays = islip_stays.accept_stays;
    passed = islip_stays.passed;
    shared_stays = islip_stays.shared_stays;
  }

  rrm_stays : AreMovedByRrm n t (empty_rows n) (unmatched n) (unmatched n) places places
  rrm_stays = record {
    ports = refl;
    granted = λ i j level grant. absurd (none_granted n t places i j level Uni grant);
    grant_stays = λ j level none. refl;
    accepted = islip_stays.accepted;
    accept_stays = islip_stays.accept_stays;
    passed = islip_stays.passed;
    shared_stays = islip_stays.shared_stays;
  }

pub IsQuiet-decision_of : IsQuiet decision_of
IsQuiet-decision_of n rounds t places at_ports ports_are =
    sym (decision_of-only n t (empty_rows n) places (AreWithin-empty n) at_ports ports_are rounds (nothing_decided n places) at_ports
    (quiet_slot n t places AreMoved rounds (islip_stays n t places)))

pub IsQuiet-firm_decision : IsQuiet firm_decision
IsQuiet-firm_decision n rounds t places at_ports ports_are =
    sym (firm_decision-only n t (empty_rows n) places (AreWithin-empty n) at_ports ports_are rounds (nothing_decided n places) at_ports
    (quiet_slot n t places AreMovedByFirm rounds (firm_stays n t places)))

pub IsQuiet-rrm_decision : IsQuiet rrm_decision
IsQuiet-rrm_decision n rounds t places at_ports ports_are =
    sym (rrm_decision-only n t (empty_rows n) places (AreWithin-empty n) at_ports ports_are rounds (nothing_decided n places) at_ports
    (quiet_slot n t places AreMovedByRrm rounds (rrm_stays n t places)))

pub IsQuiet-named : (name : SchedulerName) → IsQuiet (decision_named name)
IsQuiet-named Islip = IsQuiet-decision_of
IsQuiet-named Firm = IsQuiet-firm_decision
IsQuiet-named Rrm = IsQuiet-rrm_decision

-- An arbiter between two slots: what it keeps.
use Rattle.std.specs.Prelude.{◌≡◌, ℕ, ◌<◌, ◌≤◌, true, List, Option}
use Rattle.rotating_pick.specs.declared.limits.TheConstants.{MAX_ROUNDS}
use Rattle.scheduler_names.specs.declared.names.SchedulerName.{SchedulerName}
use Rattle.slot_match.specs.declared.matching.Fed.{Fed}
use Rattle.slot_match.specs.Matches.{IsMatch, unmatched}
use Rattle.pointer_state.specs.Places.{AreAtPorts, Places}
use Rattle.service_bound.specs.MeterSteps.{Meter}
use Rattle.simulated_slots.specs.declared.discipline.Discipline.{Discipline}
use Rattle.simulated_slots.specs.Jobs.{is_ideal, scheduler_of}

pub record ArbiterValue : Type 0 where
  pub discipline : Discipline
  pub rounds : ℕ
  pub places : Places
  pub picks : ℕ
  pub matched : List (Option Fed)
  pub meter : Meter

-- an arbiter with the scheduler of its discipline, all of one number of ports; that of an ideal switch has matched nothing
pub record IsArbiter (scheduler : SchedulerName) (arbiter : ArbiterValue) : Type 0 where
  pub named : scheduler ≡ scheduler_of arbiter.discipline
  pub some_rounds : 0 < arbiter.rounds
  pub rounds : arbiter.rounds ≤ MAX_ROUNDS
  pub at_ports : AreAtPorts arbiter.places
  pub matched : IsMatch arbiter.places.ports arbiter.matched
  pub meter : arbiter.meter.ports ≡ arbiter.places.ports
  pub ideal : is_ideal arbiter.discipline ≡ true → arbiter.matched ≡ unmatched arbiter.places.ports

-- Jobs: what is simulated, and what of it is measured.
use Rattle.std.specs.Prelude.{ℕ, ◌-◌, ◌*◌, ◌/◌, ◌<◌, ◌≤◌, Bool, true, false, nat_le, if◌then◌else◌, Option, None, Some}
use Rattle.rotating_pick.specs.declared.limits.TheConstants.{MAX_ROUNDS}
use Rattle.made_traffic.specs.Sources.{TrafficValue}
use Rattle.scheduler_names.specs.declared.names.SchedulerName.{SchedulerName}
use Rattle.scheduler_names.specs.declared.names.SchedulerName.TheVariants.{Islip}
use Rattle.arrival_queues.specs.declared.queueing.Queueing.{Queueing}
use Rattle.arrival_queues.specs.declared.queueing.Queueing.TheVariants.{ByPair, ByInput, ByOutput}
use Rattle.arrival_queues.specs.Queues.{queue_count}
use Rattle.simulated_slots.specs.declared.discipline.Discipline.{Discipline}
use Rattle.simulated_slots.specs.declared.discipline.Discipline.TheVariants.{Scheduled, Pim, Fifo, Ideal}
use Rattle.simulated_slots.specs.declared.job.Settings.{Settings}
use Rattle.simulated_slots.specs.declared.limits.TheConstants.{MAX_SEED, MAX_SLOTS, MAX_DEPTH, MAX_BATCHES}

-- a job: its traffic with the seed of its random numbers, how many slots there are, and its settings: the switch with the
-- rounds of a slot and the cells of a queue, how many slots come before those that are measured, and into how many batches
-- these are parted
pub record JobValue : Type 0 where
  pub traffic : TrafficValue
  pub seed : ℕ
  pub slots : ℕ
  pub settings : Settings

-- the job of these
abbrev pub job_of : TrafficValue → ℕ → ℕ → Settings → JobValue
job_of traffic seed slots settings = record { traffic = traffic; seed = seed; slots = slots; settings = settings }

-- how a switch of the discipline queues its cells
abbrev pub queueing_of : Discipline → Queueing
queueing_of (Scheduled name) = ByPair
queueing_of Pim = ByPair
queueing_of Fifo = ByInput
queueing_of Ideal = ByOutput

-- whether it is the ideal switch, which has no scheduler
abbrev pub is_ideal : Discipline → Bool
is_ideal (Scheduled name) = false
is_ideal Pim = false
is_ideal Fifo = false
is_ideal Ideal = true

-- whether its ports pick at random, and no scheduler does
abbrev pub is_random : Discipline → Bool
is_random (Scheduled name) = false
is_random Pim = true
is_random Fifo = false
is_random Ideal = false

-- the scheduler of the discipline, and how many rounds it has where the job says so many: the heads of the queues of fifo ask
-- by iSLIP with one round; that of an ideal switch has nothing to do, nor that of one whose ports pick at random
abbrev pub scheduler_of : Discipline → SchedulerName
scheduler_of (Scheduled name) = name
scheduler_of Pim = Islip
scheduler_of Fifo = Islip
scheduler_of Ideal = Islip

abbrev pub rounds_by : Discipline → ℕ → ℕ
rounds_by (Scheduled name) rounds = rounds
rounds_by Pim rounds = rounds
rounds_by Fifo rounds = 1
rounds_by Ideal rounds = rounds

-- for how many cells the queues of a job have places
abbrev pub places_of : JobValue → ℕ
places_of job = queue_count (queueing_of job.settings.discipline) job.traffic.ports * job.settings.depth

-- the settings of a job of so many slots: each number is in its range
pub record AreSettings (slots : ℕ) (settings : Settings) : Type 0 where
  pub some_rounds : 0 < settings.rounds
  pub rounds : settings.rounds ≤ MAX_ROUNDS
  pub some_depth : 0 < settings.depth
  pub depth : settings.depth ≤ MAX_DEPTH
  pub warm_up : settings.warm_up < slots
  pub some_batches : 0 < settings.batches
  pub batches : settings.batches ≤ MAX_BATCHES

-- a job that can be simulated
pub record IsJob (job : JobValue) : Type 0 where
  pub seed : job.seed ≤ MAX_SEED
  pub slots : job.slots ≤ MAX_SLOTS
  pub settings : AreSettings job.slots job.settings

-- whether slot t is measured: it is none of the first ones
abbrev pub is_measured : JobValue → ℕ → Bool
is_measured job t = nat_le job.settings.warm_up t

-- the batch of a measured slot: batches are parts of the measured slots, as even as can be
abbrev pub batch_of : JobValue → ℕ → ℕ
batch_of job t = (t - job.settings.warm_up) * job.settings.batches / (job.slots - job.settings.warm_up)

-- the batch of a slot, None of one that is not measured
abbrev pub batch_at : JobValue → ℕ → Option ℕ
batch_at job t = if is_measured job t then Some (batch_of job t) else None

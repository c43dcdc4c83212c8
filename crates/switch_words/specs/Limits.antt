-- The limits of what a job says.
use Rattle.std.specs.Prelude.{ℕ, ◌≡◌, ◌<◌, ◌≤◌, Bool, true, false, vec_len}
use Rattle.rotating_pick.specs.declared.limits.TheConstants.{MAX_PORTS, MAX_ROUNDS}
use Rattle.line_pace.specs.declared.pace.TheConstants.{MAX_LINE_RATE, MAX_SLOT_MICROS}
use Rattle.voq_banks.specs.declared.limits.TheConstants.{MAX_DEPTH}
use Rattle.switch_words.specs.declared.limits.TheConstants.{LONG_DEPTH, MAX_WORKERS, MAX_SEED, MAX_COUNT}
use Rattle.switch_words.specs.declared.job.Speed.{Speed}
use Rattle.switch_words.specs.declared.job.Speed.TheVariants.{Untimed, SlotMicros, LineRate}
use Rattle.switch_words.specs.declared.job.Settings.{Settings}
use Rattle.switch_words.specs.declared.job.RunJob.{RunJob}
use Rattle.switch_words.specs.declared.job.GenJob.{GenJob}
use Rattle.switch_words.specs.declared.job.FirmJob.{FirmJob}
use Rattle.switch_words.specs.declared.job.Job.{Job}
use Rattle.switch_words.specs.declared.job.Job.TheVariants.{Run, Gen, Check, Firm}

-- a number of 1 to so many
pub record IsUpTo (greatest n : ℕ) : Type 0 where
  pub some : 0 < n
  pub most : n ≤ greatest

-- the greatest depth of a queue, which a job has where no option says it
abbrev pub most_depth : Bool → ℕ
most_depth true = LONG_DEPTH
most_depth false = MAX_DEPTH

-- a slot's microseconds, or a line's megabits a second
abbrev pub IsSpeed : Speed → Type 0
IsSpeed Untimed = Unit {0}
IsSpeed (SlotMicros micros) = IsUpTo MAX_SLOT_MICROS micros
IsSpeed (LineRate mbps) = IsUpTo MAX_LINE_RATE mbps

pub record AreWithinLimits (settings : Settings) : Type 0 where
  pub rounds : IsUpTo MAX_ROUNDS settings.rounds
  pub depth : IsUpTo (most_depth settings.long) settings.depth
  pub workers : IsUpTo MAX_WORKERS settings.workers
  pub speed : IsSpeed settings.speed

-- a long run tells of no slot
pub record IsRunWithinLimits (job : RunJob) : Type 0 where
  pub settings : AreWithinLimits job.settings
  pub slots : job.settings.long ≡ true → job.slots ≡ false
  pub journal : job.settings.long ≡ true → job.journal ≡ false
  pub inputs : IsUpTo MAX_PORTS (vec_len job.inputs)

-- a made input has no long run
pub record IsGenWithinLimits (job : GenJob) : Type 0 where
  pub settings : AreWithinLimits job.settings
  pub short : job.settings.long ≡ false
  pub seed : job.seed ≤ MAX_SEED
  pub count : job.count ≤ MAX_COUNT
  pub ports : IsUpTo MAX_PORTS job.ports

pub record IsFirmWithinLimits (job : FirmJob) : Type 0 where
  pub settings : AreWithinLimits job.settings
  pub inputs : IsUpTo MAX_PORTS (vec_len job.inputs)

-- of `check` there is no limit
abbrev pub IsWithinLimits : Job → Type 0
IsWithinLimits (Run job) = IsRunWithinLimits job
IsWithinLimits (Gen job) = IsGenWithinLimits job
IsWithinLimits (Check job) = Unit {0}
IsWithinLimits (Firm job) = IsFirmWithinLimits job

-- The reading of a list of words: the job that it means.
use Rattle.std.specs.Prelude.{ℕ, Bool, false, ◌&&◌, ◌||◌, nat_le, if◌then◌else◌, List, [], ◌∷◌, length, map, string_bytes}
use Rattle.std.specs.Prelude.{Option, None, Some, option_and_then, option_map, unwrap_or}
use Rattle.rotating_pick.specs.declared.limits.TheConstants.{MAX_PORTS, MAX_ROUNDS}
use Rattle.line_pace.specs.declared.pace.TheConstants.{MAX_LINE_RATE, MAX_SLOT_MICROS}
use Rattle.scheduler_names.specs.declared.names.SchedulerName.{SchedulerName}
use Rattle.scheduler_names.specs.declared.names.SchedulerName.TheVariants.{Islip}
use Rattle.scheduler_names.specs.Words.{scheduler_named}
use Rattle.switch_words.specs.declared.limits.TheConstants.{DEFAULT_ROUNDS, DEFAULT_WORKERS, MAX_COUNT, MAX_SEED, MAX_WORKERS}
use Rattle.switch_words.specs.declared.job.Speed.{Speed}
use Rattle.switch_words.specs.declared.job.Speed.TheVariants.{Untimed, SlotMicros, LineRate}
use Rattle.switch_words.specs.declared.job.Settings.{Settings}
use Rattle.switch_words.specs.declared.job.RunJob.{RunJob}
use Rattle.switch_words.specs.declared.job.GenJob.{GenJob}
use Rattle.switch_words.specs.declared.job.CheckJob.{CheckJob}
use Rattle.switch_words.specs.declared.job.FirmJob.{FirmJob}
use Rattle.switch_words.specs.declared.job.Job.{Job}
use Rattle.switch_words.specs.declared.job.Job.TheVariants as job
use Rattle.switch_words.specs.declared.options.Command.{Command}
use Rattle.switch_words.specs.declared.options.Command.TheVariants.{Run, Gen, Check, Firm}
use Rattle.switch_words.specs.declared.options.Flags.{Flags}
use Rattle.switch_words.specs.Limits.{most_depth}
use Rattle.switch_words.specs.Numbers.{number_within}
use Rattle.switch_words.specs.Options.{command_named}
use Rattle.switch_words.specs.Parts.{Parts, no_parts, parts_from}

-- The number from 1 to `most` that an option's text writes, where the option was given. None where the text writes none.
abbrev pub number_given : ℕ → Option (List ℕ) → Option (Option ℕ)
number_given most None = Some None
number_given most (Some text) = option_map (λ number. Some number) (number_within 1 most text)

-- how fast packets come, by the microseconds of a slot or the rate of a line: at most one of them was given
abbrev pub speed_from : Option ℕ → Option ℕ → Option Speed
speed_from None None = Some Untimed
speed_from (Some micros) None = Some (SlotMicros micros)
speed_from None (Some mbps) = Some (LineRate mbps)
speed_from (Some micros) (Some mbps) = None

abbrev pub speed_given : Option (List ℕ) → Option (List ℕ) → Option Speed
speed_given pace_us line_rate =
    option_and_then (λ micros. option_and_then (speed_from micros) (number_given MAX_LINE_RATE line_rate)) (number_given MAX_SLOT_MICROS pace_us)

-- the settings of a run that is long or not, with the defaults of what was not given
unfoldable pub settings_of : Bool → Parts → Option Settings
settings_of long parts =
    option_and_then (λ rounds. option_and_then (λ depth. option_and_then (λ workers. option_map (λ speed. record {
      rounds = unwrap_or rounds DEFAULT_ROUNDS;
      depth = unwrap_or depth (most_depth long);
      workers = unwrap_or workers DEFAULT_WORKERS;
      speed = speed;
      long = long;
    }) (speed_given parts.pace_us parts.line_rate)) (number_given MAX_WORKERS parts.workers))
    (number_given (most_depth long) parts.depth)) (number_given MAX_ROUNDS parts.rounds)

-- The scheduler that an option's text names, iSLIP where the option was not given. None where there is none of that name.
abbrev pub scheduler_given : Option (List ℕ) → Option SchedulerName
scheduler_given None = Some Islip
scheduler_given (Some text) = scheduler_named text

-- a job of `run`, with the bytes of its names
pub record RunWords : Type 0 where
  pub settings : Settings
  pub scheduler : SchedulerName
  pub slots : Bool
  pub journal : Bool
  pub reference : Bool
  pub queues : Bool
  pub packets : Bool
  pub alone : Bool
  pub table : List ℕ
  pub prefix : List ℕ
  pub inputs : List (List ℕ)

-- a job of `check`, with the bytes of its name
pub record CheckWords : Type 0 where
  pub scheduler : SchedulerName
  pub file : List ℕ

-- a job of `firm`, with the bytes of its names
pub record FirmWords : Type 0 where
  pub settings : Settings
  pub table : List ℕ
  pub inputs : List (List ℕ)

-- the names of captures: 1 to 64
abbrev pub inputs_in : List (List ℕ) → Option (List (List ℕ))
inputs_in names = if nat_le 1 (length names) && nat_le (length names) MAX_PORTS then Some names else None

-- the names of `run`: a table, a prefix and the captures
abbrev pub run_named : Settings → SchedulerName → Flags → List (List ℕ) → Option RunWords
run_named settings scheduler flags (table ∷ prefix ∷ names) =
    option_map (λ inputs. record {
      settings = settings;
      scheduler = scheduler;
      slots = flags.slots;
      journal = flags.journal;
      reference = flags.reference;
      queues = flags.queues;
      packets = flags.packets;
      alone = flags.alone;
      table = table;
      prefix = prefix;
      inputs = inputs;
    }) (inputs_in names)
run_named settings scheduler flags _ = None

-- with these flags and names: a long run tells of no slot
abbrev pub run_with : Settings → SchedulerName → Flags → List (List ℕ) → Option RunWords
run_with settings scheduler flags names =
    if settings.long && (flags.slots || flags.journal) then None else run_named settings scheduler flags names

-- the names of `firm`: a table and the captures
abbrev pub firm_with : Settings → List (List ℕ) → Option FirmWords
firm_with settings (table ∷ names) =
    option_map (λ inputs. record { settings = settings; table = table; inputs = inputs }) (inputs_in names)
firm_with settings _ = None

-- the names of `check`: one file
abbrev pub check_with : SchedulerName → List (List ℕ) → Option CheckWords
check_with scheduler (file ∷ []) = Some (record { scheduler = scheduler; file = file })
check_with scheduler _ = None

-- the names of `gen`: a seed, a count and a number of ports
abbrev pub gen_with : Settings → SchedulerName → List (List ℕ) → Option GenJob
gen_with settings scheduler (seed ∷ count ∷ ports ∷ []) =
    option_and_then (λ s. option_and_then (λ c. option_map (λ p. record {
      settings = settings;
      scheduler = scheduler;
      seed = s;
      count = c;
      ports = p;
    }) (number_within 1 MAX_PORTS ports)) (number_within 0 MAX_COUNT count)) (number_within 0 MAX_SEED seed)
gen_with settings scheduler _ = None

-- what a list of words asks for
pub data JobWords : Type 0 where
  run : RunWords → JobWords
  gen : GenJob → JobWords
  check : CheckWords → JobWords
  firm : FirmWords → JobWords

unfoldable pub job_with : Command → Parts → Option JobWords
job_with Run parts =
    option_and_then (λ settings. option_and_then (λ scheduler. option_map run (run_with settings scheduler parts.flags parts.names))
    (scheduler_given parts.scheduler)) (settings_of parts.flags.long parts)
job_with Gen parts =
    option_and_then (λ settings. option_and_then (λ scheduler. option_map gen (gen_with settings scheduler parts.names))
    (scheduler_given parts.scheduler)) (settings_of false parts)
job_with Check parts = option_and_then (λ scheduler. option_map check (check_with scheduler parts.names)) (scheduler_given parts.scheduler)
job_with Firm parts = option_and_then (λ settings. option_map firm (firm_with settings parts.names)) (settings_of parts.flags.long parts)

-- The job that a list of words means; None where they mean none.
unfoldable pub reading_of : List (List ℕ) → Option JobWords
reading_of [] = None
reading_of (word ∷ rest) = option_and_then (λ command.
    option_and_then (job_with command) (parts_from command None no_parts rest)) (command_named word)

-- a job, with the bytes of its names
abbrev pub run_words : RunJob → RunWords
run_words r = record {
  settings = r.settings;
  scheduler = r.scheduler;
  slots = r.slots;
  journal = r.journal;
  reference = r.reference;
  queues = r.queues;
  packets = r.packets;
  alone = r.alone;
  table = string_bytes r.table;
  prefix = string_bytes r.prefix;
  inputs = map string_bytes r.inputs.items;
}

abbrev pub check_words : CheckJob → CheckWords
check_words c = record { scheduler = c.scheduler; file = string_bytes c.file }

abbrev pub firm_words : FirmJob → FirmWords
firm_words f = record {
  settings = f.settings;
  table = string_bytes f.table;
  inputs = map string_bytes f.inputs.items;
}

abbrev pub job_words : Job → JobWords
job_words (job.Run r) = run (run_words r)
job_words (job.Gen g) = gen g
job_words (job.Check c) = check (check_words c)
job_words (job.Firm f) = firm (firm_words f)

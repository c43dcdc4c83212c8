-- The reading of words: the simulation that they mean.
use Rattle.std.specs.Prelude.{ℕ, ◌-◌, ◌/◌, if◌then◌else◌, List, [], ◌∷◌, Option, None, Some, option_and_then, option_map, unwrap_or, bytes_eq, codes}
use Rattle.rotating_pick.specs.declared.limits.TheConstants.{MAX_PORTS, MAX_ROUNDS}
use Rattle.scheduler_names.specs.declared.names.SchedulerName.TheVariants.{Islip}
use Rattle.scheduler_names.specs.Words.{scheduler_named}
use Rattle.made_traffic.specs.declared.limits.TheConstants.{MAX_BURST, MILLION}
use Rattle.made_traffic.specs.declared.pattern.Pattern.{Pattern}
use Rattle.made_traffic.specs.Patterns.{pattern_named}
use Rattle.made_traffic.specs.Sources.{TrafficValue, traffic_of}
use Rattle.simulated_slots.specs.declared.limits.TheConstants.{MAX_BATCHES, MAX_DEPTH, MAX_SEED, MAX_SLOTS}
use Rattle.simulated_slots.specs.declared.discipline.Discipline.{Discipline}
use Rattle.simulated_slots.specs.declared.discipline.Discipline.TheVariants.{Scheduled, Pim, Fifo, Ideal}
use Rattle.simulated_slots.specs.declared.job.Settings.{Settings}
use Rattle.simulated_slots.specs.Jobs.{job_of}
use Rattle.command_words.specs.Numbers.{number_within}
use Rattle.command_words.specs.Parts.{PartsValue, has_flag, text_of}
use Rattle.command_words.specs.Reading.{NamesOfOptions, parts_of}
use Rattle.simulation_words.specs.declared.defaults.TheConstants.{DEFAULT_BATCHES, DEFAULT_BURST, DEFAULT_DEPTH, DEFAULT_LOAD, DEFAULT_ROUNDS}
use Rattle.simulation_words.specs.declared.reader.SimulationWords.{SimulationWords}

-- the steps of a `do` block: it gives nothing where one of them does
infixl 10 ◌>>=◌
abbrev pub ◌>>=◌ : {A B : Type 0} → Option A → (A → Option B) → Option B
o >>= f = option_and_then f o

-- the options of a simulation
abbrev pub option_names : NamesOfOptions
option_names = record {
  values = codes "scheduler" ∷ codes "rounds" ∷ codes "load-ppm" ∷ codes "burst" ∷ codes "pattern" ∷ codes "weight-ppm"
      ∷ codes "depth" ∷ codes "warm-up" ∷ codes "batches" ∷ [];
  flags = codes "histogram" ∷ [];
}

-- the number from low to high that an option's text writes; `default` where the option is not given
abbrev pub number_or : ℕ → ℕ → ℕ → Option (List ℕ) → Option ℕ
number_or default low high None = Some default
number_or default low high (Some text) = number_within low high text

-- how cells are queued and served, by a name
abbrev pub discipline_named : List ℕ → Option Discipline
discipline_named word =
    if bytes_eq word (codes "pim") then Some Pim
    else (if bytes_eq word (codes "fifo") then Some Fifo
    else (if bytes_eq word (codes "ideal") then Some Ideal
    else option_map Scheduled (scheduler_named word)))

-- the discipline that an option's text names; iSLIP where the option is not given
abbrev pub discipline_given : Option (List ℕ) → Option Discipline
discipline_given None = Some (Scheduled Islip)
discipline_given (Some word) = discipline_named word

-- the weight that an option's text writes, where the option is given
abbrev pub weight_given : Option (List ℕ) → Option (Option ℕ)
weight_given None = Some None
weight_given (Some text) = option_map (λ weight. Some weight) (number_within 0 MILLION text)

-- the pattern: a weight is wanted of one that has it, and refused with another
abbrev pub pattern_in : PartsValue → Option Pattern
pattern_in parts = do
  weight ← weight_given (text_of parts (codes "weight-ppm"))
  pattern_named (unwrap_or (text_of parts (codes "pattern")) (codes "uniform")) weight

-- the traffic of a switch of so many ports
unfoldable pub traffic_in : PartsValue → ℕ → Option TrafficValue
traffic_in parts ports = do
  pattern ← pattern_in parts
  load ← number_or DEFAULT_LOAD 0 MILLION (text_of parts (codes "load-ppm"))
  burst ← number_or DEFAULT_BURST 1 MAX_BURST (text_of parts (codes "burst"))
  Some (traffic_of ports pattern load burst)

-- the settings of a job of so many slots; a tenth of the slots is not measured where no option says it
unfoldable pub settings_in : PartsValue → ℕ → Option Settings
settings_in parts slots = do
  discipline ← discipline_given (text_of parts (codes "scheduler"))
  rounds ← number_or DEFAULT_ROUNDS 1 MAX_ROUNDS (text_of parts (codes "rounds"))
  depth ← number_or DEFAULT_DEPTH 1 MAX_DEPTH (text_of parts (codes "depth"))
  warm_up ← number_or (slots / 10) 0 (slots - 1) (text_of parts (codes "warm-up"))
  batches ← number_or DEFAULT_BATCHES 1 MAX_BATCHES (text_of parts (codes "batches"))
  Some (record { discipline = discipline; rounds = rounds; depth = depth; warm_up = warm_up; batches = batches })

-- the simulation of these names and options
abbrev pub simulation_with : PartsValue → List (List ℕ) → Option SimulationWords
simulation_with parts (seed_text ∷ slots_text ∷ ports_text ∷ []) = do
  seed ← number_within 0 MAX_SEED seed_text
  slots ← number_within 1 MAX_SLOTS slots_text
  ports ← number_within 1 MAX_PORTS ports_text
  traffic ← traffic_in parts ports
  settings ← settings_in parts slots
  Some (record { job = job_of traffic seed slots settings; histogram = has_flag parts (codes "histogram") })
simulation_with parts _ = None

unfoldable pub simulation_in : PartsValue → Option SimulationWords
simulation_in parts = simulation_with parts parts.names

-- The simulation that the words behind the command mean. None where they mean none.
abbrev pub simulation_of : List (List ℕ) → Option SimulationWords
simulation_of words = option_and_then simulation_in (parts_of option_names words)

-- The grammar of the words: which words are a job, and which job they are.
use Rattle.std.specs.Prelude.{ℕ, ◌≡◌, ◌⊎◌, Bool, true, false, if◌then◌else◌, List, [], ◌∷◌, ◌++◌, length, Option, Some, bytes_eq, codes, option_and_then}
use Rattle.rotating_pick.specs.declared.limits.TheConstants.{MAX_PORTS, MAX_ROUNDS}
use Rattle.line_pace.specs.declared.pace.TheConstants.{MAX_LINE_RATE, MAX_SLOT_MICROS}
use Rattle.scheduler_names.specs.declared.names.SchedulerName.{SchedulerName}
use Rattle.scheduler_names.specs.declared.names.SchedulerName.TheVariants.{Islip}
use Rattle.scheduler_names.specs.Words.{scheduler_word}
use Rattle.switch_words.specs.declared.limits.TheConstants.{MAX_COUNT, MAX_SEED, MAX_WORKERS}
use Rattle.switch_words.specs.declared.job.Speed.{Speed}
use Rattle.switch_words.specs.declared.job.Speed.TheVariants.{Untimed, SlotMicros, LineRate}
use Rattle.switch_words.specs.declared.job.Settings.{Settings}
use Rattle.switch_words.specs.Limits.{IsUpTo, most_depth}
use Rattle.switch_words.specs.Numbers.{number_within}
use Rattle.switch_words.specs.Options.{Setting, Flag, Switch, value, command_named, option_of}
use Rattle.switch_words.specs.Options as switch
use Rattle.switch_words.specs.Reading.{JobWords, RunWords, run, gen, check, firm}

abbrev pub Text : Type 0
Text = List ℕ

-- an option with its value, a flag, or a name; an option and a flag by what stands behind their `--`
pub data Argument : Type 0 where
  option : Text → Text → Argument
  flag : Text → Argument
  name : Text → Argument

-- a word that can be a name: one that does not begin with `-`, or `-` alone
abbrev pub IsPlain : Text → Type 0
IsPlain word = (rest : Text) → word ≡ codes "-" ++ rest → rest ≡ []

-- the option of this name that a command has, by the command's word
abbrev pub option_at : Text → Text → Option Switch
option_at word id = option_and_then (λ command. option_of command id) (command_named word)

-- the words of an argument of a command: the value of an option is the next word, or stands behind `=`
abbrev pub IsWritten : Text → Argument → List Text → Type 0
IsWritten command (option id text) words = (setting : Setting) × (option_at command id ≡ Some (value setting))
    × (((words ≡ (codes "--" ++ id) ∷ text ∷ []) × IsPlain text) ⊎ (words ≡ (codes "--" ++ (id ++ (codes "=" ++ text))) ∷ []))
IsWritten command (flag id) words = (f : Flag) × (option_at command id ≡ Some (switch.flag f)) × (words ≡ (codes "--" ++ id) ∷ [])
IsWritten command (name text) words = (words ≡ text ∷ []) × IsPlain text

-- the words of arguments, one after the other
abbrev pub AreWritten : Text → List Argument → List Text → Type 0
AreWritten command [] words = words ≡ []
AreWritten command (argument ∷ more) words =
    (first rest : List Text) × (words ≡ first ++ rest) × IsWritten command argument first × AreWritten command more rest

-- the texts that arguments give an option, and an empty one for each time that they give a flag
abbrev pub given : Text → List Argument → List Text
given id [] = []
given id (option other text ∷ more) = if bytes_eq other id then text ∷ given id more else given id more
given id (flag other ∷ more) = if bytes_eq other id then [] ∷ given id more else given id more
given id (name text ∷ more) = given id more

abbrev pub names_in : List Argument → List Text
names_in [] = []
names_in (option id text ∷ more) = names_in more
names_in (flag id ∷ more) = names_in more
names_in (name text ∷ more) = text ∷ names_in more

-- an option is given once, with a number from 1 to `most`; or so, or not at all, which means the default
abbrev pub IsNumber : ℕ → List Text → ℕ → Type 0
IsNumber most texts n = (text : Text) × (texts ≡ text ∷ []) × (number_within 1 most text ≡ Some n)

abbrev pub IsNumberOr : ℕ → ℕ → List Text → ℕ → Type 0
IsNumberOr standard most texts n = IsNumber most texts n ⊎ ((texts ≡ []) × (n ≡ standard))

-- the speed, by the texts of `--pace-us` and of `--line-rate`: one of them is given at most
abbrev pub IsSpeed : List Text → List Text → Speed → Type 0
IsSpeed paces rates Untimed = (paces ≡ []) × (rates ≡ [])
IsSpeed paces rates (SlotMicros micros) = IsNumber MAX_SLOT_MICROS paces micros × (rates ≡ [])
IsSpeed paces rates (LineRate mbps) = (paces ≡ []) × IsNumber MAX_LINE_RATE rates mbps

pub record AreSettings (arguments : List Argument) (settings : Settings) : Type 0 where
  pub rounds : IsNumberOr 4 MAX_ROUNDS (given (codes "rounds") arguments) settings.rounds
  pub depth : IsNumberOr (most_depth settings.long) (most_depth settings.long) (given (codes "depth") arguments) settings.depth
  pub workers : IsNumberOr 4 MAX_WORKERS (given (codes "workers") arguments) settings.workers
  pub speed : IsSpeed (given (codes "pace-us") arguments) (given (codes "line-rate") arguments) settings.speed

-- a scheduler's name is given once, or none, which means iSLIP
abbrev pub IsScheduler : List Text → SchedulerName → Type 0
IsScheduler texts scheduler = (texts ≡ scheduler_word scheduler ∷ []) ⊎ ((texts ≡ []) × (scheduler ≡ Islip))

-- a flag is given once where it holds, and else not
abbrev pub IsFlag : List Text → Bool → Type 0
IsFlag texts holds = texts ≡ (if holds then [] ∷ [] else [])

-- the flags of a run; where each slot is reported or the journal is written, the run is no long one
pub record AreFlags (arguments : List Argument) (job : RunWords) : Type 0 where
  pub slots : IsFlag (given (codes "slots") arguments) job.slots
  pub journal : IsFlag (given (codes "journal") arguments) job.journal
  pub reference : IsFlag (given (codes "reference") arguments) job.reference
  pub queues : IsFlag (given (codes "queues") arguments) job.queues
  pub packets : IsFlag (given (codes "packets") arguments) job.packets
  pub alone : IsFlag (given (codes "alone") arguments) job.alone
  pub long : IsFlag (given (codes "long") arguments) job.settings.long
  pub short : (job.slots ≡ true) ⊎ (job.journal ≡ true) → job.settings.long ≡ false

-- the job of a command with these arguments and these names: TABLE PREFIX INPUT.., SEED COUNT PORTS, FILE, or TABLE INPUT..
abbrev pub IsJob : Text → List Argument → List Text → JobWords → Type 0
IsJob command arguments names (run job) = (command ≡ codes "run") × AreSettings arguments job.settings
    × IsScheduler (given (codes "scheduler") arguments) job.scheduler × AreFlags arguments job
    × (names ≡ job.table ∷ job.prefix ∷ job.inputs) × IsUpTo MAX_PORTS (length job.inputs)
IsJob command arguments names (gen job) = (command ≡ codes "gen") × AreSettings arguments job.settings × (job.settings.long ≡ false)
    × IsScheduler (given (codes "scheduler") arguments) job.scheduler
    × ((seed count ports : Text) × (names ≡ seed ∷ count ∷ ports ∷ []) × (number_within 0 MAX_SEED seed ≡ Some job.seed)
    × (number_within 0 MAX_COUNT count ≡ Some job.count) × (number_within 1 MAX_PORTS ports ≡ Some job.ports))
IsJob command arguments names (check job) =
    (command ≡ codes "check") × IsScheduler (given (codes "scheduler") arguments) job.scheduler × (names ≡ job.file ∷ [])
IsJob command arguments names (firm job) =
    (command ≡ codes "firm") × AreSettings arguments job.settings × IsFlag (given (codes "long") arguments) job.settings.long
    × (names ≡ job.table ∷ job.inputs) × IsUpTo MAX_PORTS (length job.inputs)

-- Words and their job: a command; the words of arguments; and perhaps `--`, with further words, which are names whatever
-- they begin with.
pub record AreJob (words : List Text) (job : JobWords) : Type 0 where
  pub command : Text
  pub arguments : List Argument
  pub before : List Text
  pub further : List Text
  pub written : AreWritten command arguments before
  pub all : (words ≡ command ∷ (before ++ codes "--" ∷ further)) ⊎ ((words ≡ command ∷ before) × (further ≡ []))
  pub is : IsJob command arguments (names_in arguments ++ further) job

-- The text of a simulation: the lines that are printed of its job and of its numbers.
use Rattle.std.specs.Prelude.{ℕ, Bool, List, [], ◌∷◌, ◌++◌, if◌then◌else◌, codes, decimal}
use Rattle.std.specs.List.{flat_map, enumerate_from}
use Rattle.scheduler_names.specs.Words.{scheduler_word}
use Rattle.made_traffic.specs.Patterns.{pattern_word, weight_of}
use Rattle.delay_counts.specs.declared.counts.DelayCount.{DelayCount}
use Rattle.simulated_slots.specs.declared.discipline.Discipline.{Discipline}
use Rattle.simulated_slots.specs.declared.discipline.Discipline.TheVariants.{Scheduled, Pim, Fifo, Ideal}
use Rattle.simulated_slots.specs.Jobs.{JobValue}
use Rattle.simulated_runs.specs.declared.numbers.BatchNumbers.{BatchNumbers}
use Rattle.simulated_runs.specs.declared.numbers.PortNumbers.{PortNumbers}
use Rattle.simulated_runs.specs.Numbers.{NumbersValue}

-- a number after a space
abbrev pub number_text : ℕ → List ℕ
number_text number = codes " " ++ decimal number

-- a line: a name, numbers each after a space, and a line feed
unfoldable pub line : List ℕ → List ℕ → List ℕ
line name numbers = name ++ flat_map number_text numbers ++ codes "\n"

-- the name of a discipline
abbrev pub discipline_word : Discipline → List ℕ
discipline_word (Scheduled name) = scheduler_word name
discipline_word Pim = codes "pim"
discipline_word Fifo = codes "fifo"
discipline_word Ideal = codes "ideal"

-- the lines of the job: what is simulated, and what of it is measured
unfoldable pub job_text : JobValue → List ℕ
job_text job =
    line (codes "job") (job.seed ∷ job.slots ∷ job.traffic.ports ∷ [])
    ++ codes "scheduler " ++ line (discipline_word job.settings.discipline) (job.settings.rounds ∷ [])
    ++ codes "traffic " ++ line (pattern_word job.traffic.pattern) (weight_of job.traffic.pattern ∷ job.traffic.load ∷ job.traffic.burst ∷ [])
    ++ line (codes "measured") (job.settings.warm_up ∷ job.settings.batches ∷ job.settings.depth ∷ [])

-- the lines of the cells: those that came, were dropped, departed, and waited
unfoldable pub cells_text : NumbersValue → List ℕ
cells_text n =
    line (codes "arrived") (n.arrived ∷ [])
    ++ line (codes "dropped") (n.dropped ∷ [])
    ++ line (codes "departed") (n.departed ∷ [])
    ++ line (codes "before") (n.before.cells ∷ n.before.age ∷ [])
    ++ line (codes "waiting") (n.waiting.cells ∷ n.waiting.age ∷ [])
    ++ line (codes "cell-slots") (n.cell_slots ∷ [])

-- the lines of the delays: their sum, and the percentiles with the longest delay
unfoldable pub delays_text : NumbersValue → List ℕ
delays_text n = line (codes "delays") (n.delays ∷ []) ++ line (codes "delay") (n.percentiles ++ n.longest_delay ∷ [])

-- the lines of the slots: their rounds, the most cells that waited in one, and the longest wait
unfoldable pub slots_text : NumbersValue → List ℕ
slots_text n =
    line (codes "rounds") (n.rounds_used ∷ n.first_pairs ∷ [])
    ++ line (codes "peak") (n.peak ∷ n.most ∷ [])
    ++ line (codes "longest") (n.longest_wait ∷ [])

-- the line of port p
unfoldable pub port_line : ℕ → PortNumbers → List ℕ
port_line p port = line (codes "port") (p ∷ port.arrived ∷ port.dropped ∷ port.left ∷ port.fed ∷ [])

-- the line of batch b
unfoldable pub batch_line : ℕ → BatchNumbers → List ℕ
batch_line b batch = line (codes "batch") (b ∷ batch.departed ∷ batch.delays ∷ [])

-- the line of a delay that cells had
unfoldable pub count_line : DelayCount → List ℕ
count_line count = line (codes "count") (count.delay ∷ count.number ∷ [])

-- a line for each of some things, in order, each with its place
abbrev pub lines_by_place : {X : Type 0} → (ℕ → X → List ℕ) → List X → List ℕ
lines_by_place line_at xs = flat_map (λ p. line_at p.0 p.1) (enumerate_from 0 xs)

-- the lines of the delays that cells had, where they are wanted
abbrev pub histogram_text : Bool → List DelayCount → List ℕ
histogram_text histogram counts = if histogram then flat_map count_line counts else []

-- the text of a job with these numbers, with a line for each delay or without
unfoldable pub text_of : JobValue → Bool → NumbersValue → List ℕ
text_of job histogram n =
    job_text job ++ cells_text n ++ delays_text n ++ slots_text n ++ lines_by_place port_line n.ports ++ lines_by_place batch_line n.batches
    ++ histogram_text histogram n.counts

-- What the calls of a slot say, in the terms of the job.
use Rattle.std.proofs.Common.{◌≡◌, ◌∙◌, ◌+◌, ◌*◌, ap, subst, refl, sym, ℕ, Bool, true, false, List, [], ◌∷◌, inl, inr}
use Rattle.std.specs.Prelude.{Option, None, Some, is_some, if◌then◌else◌}
use Rattle.std.proofs.lemmas.Bool.{cases_Bool}
use Rattle.rotating_pick.specs.declared.limits.TheConstants.{MAX_PORTS}
use Rattle.slot_match.specs.declared.matching.Fed.{Fed}
use Rattle.made_traffic.specs.Sources.{SourceValue}
use Rattle.arrival_queues.specs.declared.cell.ArrivedCell.{ArrivedCell}
use Rattle.arrival_queues.specs.Queues.{Queues, has_room, queues_with}
use Rattle.simulated_slots.specs.declared.arrivals.Arrivals.{Arrivals}
use Rattle.simulated_slots.specs.declared.departed.Departed.{Departed}
use Rattle.simulated_slots.specs.declared.discipline.Discipline.{Discipline}
use Rattle.simulated_slots.specs.Jobs.{JobValue, batch_at, batch_of, is_measured, queueing_of}
use Rattle.simulated_slots.specs.Slots.{all_entered, all_left, coming, departing, slot_of}
use Rattle.simulated_slots.specs.ArrivalSteps.{AllCame, AreArrivals, AreSources, HaveCome, HaveTold}
use Rattle.simulated_slots.specs.DepartureSteps.{AreDeparted, HaveDeparted, HaveServed}
use Rattle.simulated_runs.specs.SimulationSteps.{HasTakenIn, sources_before}
use Rattle.simulated_runs.proofs.MadeSlots.{AreSources-before, cells-are, departed-is, left-is, served_in, sources-next}
use Rattle.simulated_runs.proofs.Stepping.{filled-are, served-are}

-- a slot has a batch where it is measured
pub measured-is : (job : JobValue) (t : ℕ) → is_some (batch_at job t) ≡ is_measured job t
measured-is job t = go (is_measured job t)
  where
    go : (begun : Bool) → is_some (if begun then Some (batch_of job t) else None) ≡ begun
    go true = refl
    go false = refl

pub AreSources-of : (job : JobValue) (t n : ℕ) (sources : List SourceValue) → sources ≡ sources_before job t → n ≡ job.traffic.ports → AreSources n sources
AreSources-of job t n sources told ports =
    subst (λ (m : ℕ). AreSources m sources) (sym ports) (subst (AreSources job.traffic.ports) (sym told) (AreSources-before job t))

queueing-with : (queues : Queues) (cell : ArrivedCell) → (queues_with queues cell).queueing ≡ queues.queueing
unfolding queues_with
queueing-with queues cell = elim (cases_Bool (has_room queues cell)) [
  | inl room ↦ rw room refl
  | inr none ↦ rw none refl
]

queueing-entered : (queues : Queues) (cells : List ArrivedCell) → (all_entered queues cells).queueing ≡ queues.queueing
queueing-entered queues [] = refl
queueing-entered queues (cell ∷ cells) = queueing-entered (queues_with queues cell) cells ∙ queueing-with queues cell

-- the cells of slot t of the job have come
pub record IsFilled (job : JobValue) (t : ℕ) (now : List SourceValue) (old mid : Arrivals) : Type 0 where
  pub sources : now ≡ sources_before job (t + 1)
  pub come : HaveCome (is_measured job t) (coming job t) old mid
  pub sizes : AreArrivals job.traffic.ports (MAX_PORTS * t + job.traffic.ports) mid
  pub came : AllCame (t + 1) mid.queues
  pub filled : mid.queues ≡ (slot_of job t).filled
  pub queueing : mid.queues.queueing ≡ queueing_of job.settings.discipline

filled-at : (job : JobValue) (t : ℕ) (now : List SourceValue) (old mid : Arrivals) → HasTakenIn job t old
    → HaveTold (is_measured job t) t job.traffic.ports (sources_before job t) now old mid
    → AreArrivals job.traffic.ports (MAX_PORTS * t + job.traffic.ports) mid
    → IsFilled job t now old mid
filled-at job t now old mid has told sizes =
    let come = subst (λ (cells : List ArrivedCell). HaveCome (is_measured job t) cells old mid) (cells-are job t) told.come in
    record {
      sources = told.sources ∙ sources-next job t;
      come = come;
      sizes = sizes;
      came = told.came;
      filled = filled-are job t old mid has come;
      queueing = ap (λ (queues : Queues). queues.queueing) come.queues ∙ (queueing-entered old.queues (coming job t) ∙ has.queueing);
    }

pub IsFilled-told : (job : JobValue) (t : ℕ) (measured : Bool) (before now : List SourceValue) (old mid : Arrivals) → HasTakenIn job t old
    → before ≡ sources_before job t → measured ≡ is_measured job t → HaveTold measured t old.queues.ports before now old mid → IsFilled job t now old mid
IsFilled-told job t measured before now old mid has told same call =
    let ports = has.sizes.ports in
    let by_job = subst (λ (m : Bool). HaveTold m t job.traffic.ports (sources_before job t) now old mid) same
    (subst (λ (n : ℕ). HaveTold measured t n (sources_before job t) now old mid) ports
    (subst (λ (list : List SourceValue). HaveTold measured t old.queues.ports list now old mid) told call)) in
    filled-at job t now old mid has by_job (subst (λ (n : ℕ). AreArrivals n (MAX_PORTS * t + job.traffic.ports) mid) ports by_job.sizes)

-- what slot t of the job serves has left
pub record IsServed (job : JobValue) (t : ℕ) (after : Queues) (old new : Departed) : Type 0 where
  pub queues : after ≡ (slot_of job t).after.queues
  pub ports : after.ports ≡ job.traffic.ports
  pub queueing : after.queueing ≡ queueing_of job.settings.discipline
  pub departed : HaveDeparted t (batch_at job t) (slot_of job t).departed old new
  pub sizes : AreDeparted job.traffic.ports job.settings.batches (MAX_PORTS * t + job.traffic.ports) new
  pub came : AllCame (t + 1) after

-- the queues before are those with the slot's cells, and the discipline and the match are the slot's
pub record ServesSlot (job : JobValue) (t : ℕ) (before : Queues) (b : Option ℕ) (d : Discipline) (pairs : List (Option Fed)) : Type 0 where
  pub filled : before ≡ (slot_of job t).filled
  pub ports : before.ports ≡ job.traffic.ports
  pub queueing : before.queueing ≡ queueing_of job.settings.discipline
  pub batch : b ≡ batch_at job t
  pub discipline : d ≡ job.settings.discipline
  pub matched : pairs ≡ (slot_of job t).decision.matched

pub IsServed-told : (job : JobValue) (t : ℕ) (before after : Queues) (batch : Option ℕ) (discipline : Discipline) (matched : List (Option Fed))
    (old new : Departed) → ServesSlot job t before batch discipline matched
    → HaveServed t batch discipline matched before.ports job.settings.batches before after old new → IsServed job t after old new
IsServed-told job t before after batch discipline matched old new slot call =
    let served = served-are job t discipline before.ports matched slot.discipline slot.ports slot.matched in
    record {
      queues = call.queues ∙ (ap (all_left before) served ∙ (ap (λ (queues : Queues). all_left queues (served_in job t)) slot.filled ∙ sym (left-is job t)));
      ports = call.ports ∙ slot.ports;
      queueing = call.queueing ∙ slot.queueing;
      departed = subst (λ (b : Option ℕ). HaveDeparted t b (slot_of job t).departed old new) slot.batch
          (subst (λ (cells : List ArrivedCell). HaveDeparted t batch cells old new)
          (ap (departing before) served ∙ (ap (λ (queues : Queues). departing queues (served_in job t)) slot.filled ∙ sym (departed-is job t))) call.departed);
      sizes = subst (λ (n : ℕ). AreDeparted n job.settings.batches (MAX_PORTS * t + n) new) slot.ports call.sizes;
      came = call.came;
    }

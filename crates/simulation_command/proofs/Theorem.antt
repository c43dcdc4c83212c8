-- What the steps of a command say together is its theorem.
use Rattle.std.proofs.Common.{◌≡◌, ◌<◌, ◌≤◌, ℕ, List, Option, None, Some, refl, ap, arith, inl, inr}
use Rattle.arrival_queues.specs.declared.limits.TheConstants.{MAX_CELLS}
use Rattle.outside.specs.Contents.{Contents}
use Rattle.outside.specs.Faults.{Place, ToErr, ToOut, NeverFall, NoneRose}
use Rattle.outside.proofs.Counting.{NeverFall-Rose, NeverFall-trans, Rose-NeverFall}
use Rattle.simulated_slots.specs.Jobs.{places_of}
use Rattle.simulation_words.specs.declared.reader.SimulationWords.{SimulationWords}
use Rattle.simulation_command.specs.declared.fault.CommandFault.{CommandFault}
use Rattle.simulation_command.specs.declared.fault.CommandFault.TheVariants.{Usage, TooManyCells, OutOfMemory, OutFault}
use Rattle.simulation_command.specs.Endings.{Command, IsDone, Stops, command_of, status_of}
use Rattle.simulation_command.specs.ErrorLines.{GivesLine, line_of}
use Rattle.simulation_command.specs.Simulated.{SimulationTheorem}

-- words mean one simulation, or none
means_some : (o : Option SimulationWords) (words : SimulationWords) → o ≡ Some words → o ≡ None → ⊥
means_some o words means none = absurd (cc)

-- its queues fit, or they do not
one_size : (o : Option SimulationWords) (a b : SimulationWords) → o ≡ Some a → o ≡ Some b → places_of a.job ≤ MAX_CELLS → MAX_CELLS < places_of b.job → ⊥
one_size o a b first other fits over =
    let same : a ≡ b = cc in
    let places : places_of a.job ≡ places_of b.job = ap (λ (w : SimulationWords). places_of w.job) same in
    omega (arith, places, fits, over)

pub done_theorem : (c : Command) → NeverFall c.was c.now → NoneRose c.was c.now → IsDone c → SimulationTheorem c 0
done_theorem c kept none done = record {
  meaning = inl (refl, done);
  never_fall = kept;
  no_fault = λ _. none;
  usage = record { only = λ is. absurd (omega (arith, is)); every = λ is. absurd (means_some c.simulation done.made.words done.made.means is) };
  too_large = λ s is over. absurd (one_size c.simulation done.made.words s done.made.means is done.made.fits over);
  complete = λ s is fits no_fault. inl refl;
}

stopped : (c : Command) (seen : Option Contents) (fault : CommandFault) → NeverFall c.was c.now → Stops c seen fault
    → GivesLine (line_of fault) seen c.new (c.was ToErr) (c.now ToErr) → SimulationTheorem c (status_of fault)
stopped c seen Usage kept stops line = record {
  meaning = inr (Usage, refl, record { seen = seen; stops = stops; line = line });
  never_fall = kept;
  no_fault = λ is. absurd (omega (arith, is));
  usage = record { only = λ _. stops.0; every = λ _. inl refl };
  too_large = λ s is over. absurd (means_some c.simulation s is stops.0);
  complete = λ s is fits no_fault. absurd (means_some c.simulation s is stops.0);
}
stopped c seen (TooManyCells cells) kept stops line = record {
  meaning = inr (TooManyCells cells, refl, record { seen = seen; stops = stops; line = line });
  never_fall = kept;
  no_fault = λ is. absurd (omega (arith, is));
  usage = record { only = λ is. absurd (omega (arith, is)); every = λ is. absurd (means_some c.simulation stops.0.words stops.0.means is) };
  too_large = λ s is over. inl refl;
  complete = λ s is fits no_fault. absurd
      (one_size c.simulation s stops.0.words is stops.0.means fits (omega (arith, stops.0.places, stops.0.over)));
}
stopped c seen OutOfMemory kept stops line = record {
  meaning = inr (OutOfMemory, refl, record { seen = seen; stops = stops; line = line });
  never_fall = kept;
  no_fault = λ is. absurd (omega (arith, is));
  usage = record { only = λ is. absurd (omega (arith, is)); every = λ _. inr refl };
  too_large = λ s is over. inr refl;
  complete = λ s is fits no_fault. inr refl;
}
stopped c seen OutFault kept stops line = record {
  meaning = inr (OutFault, refl, record { seen = seen; stops = stops; line = line });
  never_fall = kept;
  no_fault = λ is. absurd (omega (arith, is));
  usage = record { only = λ is. absurd (omega (arith, is)); every = λ is. absurd (means_some c.simulation stops.made.words stops.made.means is) };
  too_large = λ s is over. absurd (one_size c.simulation stops.made.words s stops.made.means is stops.made.fits over);
  complete = λ s is fits no_fault. absurd (no_fault stops.rose);
}

-- the command stopped, and then the line of its fault was given
module _ (words : List (List ℕ)) (old mid new : Option Contents) (was then now : Place → ℕ) (kept : NeverFall was then) (after : NeverFall then now) where
  later_stops : (fault : CommandFault) → Stops (command_of words old mid was then) mid fault → Stops (command_of words old new was now) mid fault
  later_stops Usage stops = stops
  later_stops (TooManyCells cells) stops = stops
  later_stops OutOfMemory stops = stops
  later_stops OutFault stops = record {
    text = stops.text;
    made = stops.made;
    given = stops.given;
    new_is = stops.new_is;
    rose = Rose-NeverFall was then now ToOut stops.rose after;
  }

  longer_line : (text : List ℕ) → GivesLine text mid new (then ToErr) (now ToErr) → GivesLine text mid new (was ToErr) (now ToErr)
  longer_line text line = record {
    part = line.part;
    rest = line.rest;
    splits = line.splits;
    given = line.given;
    whole = elim line.whole [ inl all ↦ inl all | inr rose ↦ inr (NeverFall-Rose was then now ToErr kept rose) ];
  }

  pub stopped_theorem : (fault : CommandFault) → Stops (command_of words old mid was then) mid fault
      → GivesLine (line_of fault) mid new (then ToErr) (now ToErr) → SimulationTheorem (command_of words old new was now) (status_of fault)
  stopped_theorem fault stops line =
      stopped (command_of words old new was now) mid fault (NeverFall-trans was then now kept after) (later_stops fault stops)
      (longer_line (line_of fault) line)

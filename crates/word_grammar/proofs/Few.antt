-- Where arguments are a job, each option is given once at most.
use Rattle.std.proofs.Common.{◌≡◌, ◌∙◌, Bool, false, List, [], ◌++◌, Option, None, Some, refl, inl, inr, ℕ, option_map, option_to_list, ap, sym}
use Rattle.scheduler_names.specs.declared.names.SchedulerName.{SchedulerName}
use Rattle.scheduler_names.specs.Words.{scheduler_word}
use Rattle.switch_words.specs.declared.job.Speed.{Speed}
use Rattle.switch_words.specs.declared.job.Speed.TheVariants.{Untimed, SlotMicros, LineRate}
use Rattle.switch_words.specs.Options.{Setting, Flag, rounds, depth, workers, pace_us, line_rate, scheduler}
use Rattle.switch_words.specs.Options.{slots, journal, reference, queues, packets, alone, long}
use Rattle.switch_words.specs.Options.{Switch, value, flag, command_named, is_option_of}
use Rattle.switch_words.specs.Parts.{Parts, no_parts}
use Rattle.switch_words.specs.Reading.{JobWords, check, firm, gen, run}
use Rattle.word_grammar.specs.Grammar.{Argument, IsJob, IsNumberOr, IsScheduler, IsSpeed, Text, given, names_in}
use Rattle.word_grammar.proofs.Adding.{Agrees, AreKnown, flag_texts, none_given, texts_in}
use Rattle.word_grammar.proofs.Ids.{Command, id_of, same_command}
use Rattle.word_grammar.proofs.Options.{some_is}

abbrev pub FewTexts : List Text → Type 0
FewTexts texts = (o : Option Text) × (texts ≡ option_to_list o)

abbrev pub FewFlags : List Text → Type 0
FewFlags texts = (holds : Bool) × (texts ≡ flag_texts holds)

pub record Few (arguments : List Argument) : Type 0 where
  pub values : (s : Setting) → FewTexts (given (id_of (value s)) arguments)
  pub flags : (f : Flag) → FewFlags (given (id_of (flag f)) arguments)

few_number : (standard most : ℕ) (texts : List Text) (n : ℕ) → IsNumberOr standard most texts n → FewTexts texts
few_number standard most texts n (inl (text, is, reads)) = (Some text, is)
few_number standard most texts n (inr (none, is)) = (None, none)

few_scheduler : (texts : List Text) (s : SchedulerName) → IsScheduler texts s → FewTexts texts
few_scheduler texts s (inl is) = (Some (scheduler_word s), is)
few_scheduler texts s (inr (none, is)) = (None, none)

few_speed : (paces rates : List Text) (speed : Speed) → IsSpeed paces rates speed → FewTexts paces × FewTexts rates
few_speed paces rates Untimed (p, r) = ((None, p), (None, r))
few_speed paces rates (SlotMicros n) ((text, is, reads), r) = ((Some text, is), (None, r))
few_speed paces rates (LineRate n) (p, (text, is, reads)) = ((None, p), (Some text, is))

-- nothing is given of what the command of a word lacks
lacked : (line : Text) (command : Command) → command_named line ≡ Some command → (arguments : List Argument) → AreKnown command arguments
    → (word : Text) → line ≡ word → (w : Switch) → option_map (λ c. is_option_of c w) (command_named word) ≡ Some false
    → given (id_of w) arguments ≡ []
lacked line command at arguments known word same w lacks =
    none_given command arguments w known
    (some_is (sym (ap (option_map (λ c. is_option_of c w)) (same_command line command word at same)) ∙ lacks))

pub few_of : (line : Text) (command : Command) → command_named line ≡ Some command
    → (arguments : List Argument) (names : List Text) (job : JobWords) → AreKnown command arguments
    → IsJob line arguments names job → Few arguments
few_of line command at arguments names (run job) known (same, are, by, flags, is, up) = record {
  values = values;
  flags = given_flags;
}
  where
    values : (s : Setting) → FewTexts (given (id_of (value s)) arguments)
    values rounds = few_number _ _ _ _ are.rounds
    values depth = few_number _ _ _ _ are.depth
    values workers = few_number _ _ _ _ are.workers
    values pace_us = (few_speed _ _ job.settings.speed are.speed).0
    values line_rate = (few_speed _ _ job.settings.speed are.speed).1
    values scheduler = few_scheduler _ job.scheduler by

    given_flags : (f : Flag) → FewFlags (given (id_of (flag f)) arguments)
    given_flags slots = (job.slots, flags.slots)
    given_flags journal = (job.journal, flags.journal)
    given_flags reference = (job.reference, flags.reference)
    given_flags queues = (job.queues, flags.queues)
    given_flags packets = (job.packets, flags.packets)
    given_flags alone = (job.alone, flags.alone)
    given_flags long = (job.settings.long, flags.long)
few_of line command at arguments names (gen job) known (same, are, short, by, is) = record {
  values = values;
  flags = λ f. (false, lacked line command at arguments known _ same (flag f) refl);
}
  where
    values : (s : Setting) → FewTexts (given (id_of (value s)) arguments)
    values rounds = few_number _ _ _ _ are.rounds
    values depth = few_number _ _ _ _ are.depth
    values workers = few_number _ _ _ _ are.workers
    values pace_us = (few_speed _ _ job.settings.speed are.speed).0
    values line_rate = (few_speed _ _ job.settings.speed are.speed).1
    values scheduler = few_scheduler _ job.scheduler by
few_of line command at arguments names (check job) known (same, by, is) = record {
  values = values;
  flags = λ f. (false, lacked line command at arguments known _ same (flag f) refl);
}
  where
    values : (s : Setting) → FewTexts (given (id_of (value s)) arguments)
    values scheduler = few_scheduler _ job.scheduler by
    values rounds = (None, lacked line command at arguments known _ same (value rounds) refl)
    values depth = (None, lacked line command at arguments known _ same (value depth) refl)
    values workers = (None, lacked line command at arguments known _ same (value workers) refl)
    values pace_us = (None, lacked line command at arguments known _ same (value pace_us) refl)
    values line_rate = (None, lacked line command at arguments known _ same (value line_rate) refl)
few_of line command at arguments names (firm job) known (same, are, flag_long, is, up) = record {
  values = values;
  flags = given_flags;
}
  where
    values : (s : Setting) → FewTexts (given (id_of (value s)) arguments)
    values rounds = few_number _ _ _ _ are.rounds
    values depth = few_number _ _ _ _ are.depth
    values workers = few_number _ _ _ _ are.workers
    values pace_us = (few_speed _ _ job.settings.speed are.speed).0
    values line_rate = (few_speed _ _ job.settings.speed are.speed).1
    values scheduler = (None, lacked line command at arguments known _ same (value scheduler) refl)

    given_flags : (f : Flag) → FewFlags (given (id_of (flag f)) arguments)
    given_flags slots = (false, lacked line command at arguments known _ same (flag slots) refl)
    given_flags journal = (false, lacked line command at arguments known _ same (flag journal) refl)
    given_flags reference = (false, lacked line command at arguments known _ same (flag reference) refl)
    given_flags queues = (false, lacked line command at arguments known _ same (flag queues) refl)
    given_flags packets = (false, lacked line command at arguments known _ same (flag packets) refl)
    given_flags alone = (false, lacked line command at arguments known _ same (flag alone) refl)
    given_flags long = (job.settings.long, flag_long)

-- what was said by arguments that say each thing once
abbrev pub said : (arguments : List Argument) → Few arguments → Parts
said arguments few = record {
  rounds = (few.values rounds).0;
  depth = (few.values depth).0;
  workers = (few.values workers).0;
  pace_us = (few.values pace_us).0;
  line_rate = (few.values line_rate).0;
  scheduler = (few.values scheduler).0;
  flags = record {
    slots = (few.flags slots).0;
    journal = (few.flags journal).0;
    reference = (few.flags reference).0;
    queues = (few.flags queues).0;
    packets = (few.flags packets).0;
    alone = (few.flags alone).0;
    long = (few.flags long).0;
  };
  names = names_in arguments;
}

pub said_agrees : (arguments : List Argument) (few : Few arguments) → Agrees no_parts arguments (said arguments few)
said_agrees arguments few = record { texts = texts; names = refl }
  where
    texts : (w : Switch) → texts_in no_parts w ++ given (id_of w) arguments ≡ texts_in (said arguments few) w
    texts (value rounds) = (few.values rounds).1
    texts (value depth) = (few.values depth).1
    texts (value workers) = (few.values workers).1
    texts (value pace_us) = (few.values pace_us).1
    texts (value line_rate) = (few.values line_rate).1
    texts (value scheduler) = (few.values scheduler).1
    texts (flag slots) = (few.flags slots).1
    texts (flag journal) = (few.flags journal).1
    texts (flag reference) = (few.flags reference).1
    texts (flag queues) = (few.flags queues).1
    texts (flag packets) = (few.flags packets).1
    texts (flag alone) = (few.flags alone).1
    texts (flag long) = (few.flags long).1

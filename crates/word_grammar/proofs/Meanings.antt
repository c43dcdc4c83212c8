-- Words are read as the job of the grammar.
use Rattle.std.proofs.Common.{◌≡◌, ◌∙◌, ap, sym, subst, List, [], ◌∷◌, ◌++◌, Option, None, Some, refl, inl, inr, codes, option_and_then, option_map}
use Rattle.switch_words.specs.Options.{value, flag, command_named}
use Rattle.switch_words.specs.Options.{rounds, depth, workers, pace_us, line_rate, scheduler, slots, journal, reference, queues, packets, alone, long}
use Rattle.switch_words.specs.Parts.{Parts, no_parts, parts_from, with_names}
use Rattle.switch_words.specs.Reading.{JobWords, check, firm, gen, run, job_with, reading_of}
use Rattle.word_grammar.specs.Grammar.{Argument, AreJob, IsJob, Text, names_in}
use Rattle.word_grammar.proofs.Adding.{Agrees, add_all, added_agrees, agrees_added, are_known}
use Rattle.word_grammar.proofs.Few.{few_of, said, said_agrees}
use Rattle.word_grammar.proofs.Ids.{Command}
use Rattle.word_grammar.proofs.Jobs.{Line, checks, firms, gens, is_job, job_is, runs}
use Rattle.word_grammar.proofs.Options.{map_some, none_is_some, some_is, then_some}
use Rattle.word_grammar.proofs.Values.{SayTexts}
use Rattle.word_grammar.proofs.Walks.{Split, ends, splits}

say : (arguments : List Argument) (all : Parts) (further : List Text) → Agrees no_parts arguments all → SayTexts (with_names further all) arguments
say arguments all further agrees (value rounds) = agrees.texts (value rounds)
say arguments all further agrees (value depth) = agrees.texts (value depth)
say arguments all further agrees (value workers) = agrees.texts (value workers)
say arguments all further agrees (value pace_us) = agrees.texts (value pace_us)
say arguments all further agrees (value line_rate) = agrees.texts (value line_rate)
say arguments all further agrees (value scheduler) = agrees.texts (value scheduler)
say arguments all further agrees (flag slots) = agrees.texts (flag slots)
say arguments all further agrees (flag journal) = agrees.texts (flag journal)
say arguments all further agrees (flag reference) = agrees.texts (flag reference)
say arguments all further agrees (flag queues) = agrees.texts (flag queues)
say arguments all further agrees (flag packets) = agrees.texts (flag packets)
say arguments all further agrees (flag alone) = agrees.texts (flag alone)
say arguments all further agrees (flag long) = agrees.texts (flag long)

-- ---- what is read is of the grammar

meant : (line : Text) (command : Command) → command_named line ≡ Some command → (rest : List Text) (split : Split line rest) (parts : Parts) (job : JobWords)
    → parts_from command None no_parts rest ≡ Some parts → job_with command parts ≡ Some job
    → IsJob line split.arguments (names_in split.arguments ++ split.further) job
meant line command at rest split parts job h read =
    let m = map_some (with_names split.further) (add_all command no_parts split.arguments) parts (sym (ends line command at rest split no_parts) ∙ h) in
    let agrees = added_agrees command split.arguments no_parts m.0 (are_known line command at split.arguments split.before split.written) m.1 in
    let with_all = job_is line command at (with_names split.further m.0) split.arguments job (say split.arguments m.0 split.further agrees)
    (ap (job_with command) m.2 ∙ read) in
    subst (λ (names : List Text). IsJob line split.arguments (names ++ split.further) job) (sym agrees.names) with_all

pub sound : (words : List Text) (job : JobWords) → reading_of words ≡ Some job → AreJob words job
unfolding reading_of
sound [] job h = absurd (none_is_some h)
sound (word ∷ rest) job h =
    let c = then_some (λ command. option_and_then (job_with command) (parts_from command None no_parts rest)) (command_named word) job h in
    let p = then_some (job_with c.0) (parts_from c.0 None no_parts rest) job c.2 in
    let split = (splits word c.0 c.1 rest).anywhere no_parts p.0 p.1 in
    record {
      command = word;
      arguments = split.arguments;
      before = split.before;
      further = split.further;
      written = split.written;
      all = elim split.all [
        | inl e ↦ inl (ap (λ (ws : List Text). word ∷ ws) e)
        | inr e ↦ inr (ap (λ (ws : List Text). word ∷ ws) e.0, e.1)
      ];
      is = meant word c.0 c.1 rest split p.0 job p.1 p.2;
    }

-- ---- what is of the grammar is read

pub read_at : (word : Text) (command : Command) → command_named word ≡ Some command → (rest : List Text) (job : JobWords) (split : Split word rest)
    → IsJob word split.arguments (names_in split.arguments ++ split.further) job → reading_of (word ∷ rest) ≡ Some job
unfolding reading_of
read_at word command named rest job split is =
    let known = are_known word command named split.arguments split.before split.written in
    let few = few_of word command named split.arguments (names_in split.arguments ++ split.further) job known is in
    let all = said split.arguments few in
    let agrees = said_agrees split.arguments few in
    let parts : parts_from command None no_parts rest ≡ Some (with_names split.further all) =
    ends word command named rest split no_parts ∙ ap (option_map (with_names split.further)) (agrees_added command split.arguments no_parts all known agrees) in
    ap (option_and_then (λ c. option_and_then (job_with c) (parts_from c None no_parts rest))) named
    ∙ (ap (option_and_then (job_with command)) parts
    ∙ is_job word command named (with_names split.further all) split.arguments job (say split.arguments all split.further agrees) is)

-- a job's command is one of the four
line_is : (word : Text) (arguments : List Argument) (names : List Text) (job : JobWords) → IsJob word arguments names job → Line word
line_is word arguments names (run job) is = runs is.0
line_is word arguments names (gen job) is = gens is.0
line_is word arguments names (check job) is = checks is.0
line_is word arguments names (firm job) is = firms is.0

pub read : (word : Text) (rest : List Text) (job : JobWords) (split : Split word rest)
    → IsJob word split.arguments (names_in split.arguments ++ split.further) job → reading_of (word ∷ rest) ≡ Some job
read word rest job split is = elim (line_is word split.arguments (names_in split.arguments ++ split.further) job is) [
  | runs e ↦ read_at word _ (ap command_named e) rest job split is
  | gens e ↦ read_at word _ (ap command_named e) rest job split is
  | checks e ↦ read_at word _ (ap command_named e) rest job split is
  | firms e ↦ read_at word _ (ap command_named e) rest job split is
]

pub complete : (words : List Text) (job : JobWords) → AreJob words job → reading_of words ≡ Some job
complete words job are = elim are.all [
  | inl e ↦ ap reading_of e ∙ read are.command (are.before ++ codes "--" ∷ are.further) job (record {
    arguments = are.arguments;
    before = are.before;
    further = are.further;
    written = are.written;
    all = inl refl;
  }) are.is
  | inr e ↦ ap reading_of e.0 ∙ read are.command are.before job (record {
    arguments = are.arguments;
    before = are.before;
    further = are.further;
    written = are.written;
    all = inr (refl, e.1);
  }) are.is
]

-- ---- at most one, and none

pub at_most_one : (words : List Text) (job other : JobWords) → AreJob words job → AreJob words other → job ≡ other
at_most_one words job other is also = some_is (sym (complete words job is) ∙ complete words other also)

pub none_is_no_job : (words : List Text) → reading_of words ≡ None → (job : JobWords) → AreJob words job → ⊥
none_is_no_job words none job is = none_is_some (sym none ∙ complete words job is)

pub nothing_is : {A : Type 0} (o : Option A) → ((a : A) → o ≡ Some a → ⊥) → o ≡ None
nothing_is None not = refl
nothing_is (Some a) not = absurd (not a refl)

pub no_job_is_none : (words : List Text) → ((job : JobWords) → AreJob words job → ⊥) → reading_of words ≡ None
no_job_is_none words no_job = nothing_is (reading_of words) (λ job h. no_job job (sound words job h))

use Rattle.word_grammar.proofs.Meanings.{at_most_one, complete, no_job_is_none, none_is_no_job, sound}
use Rattle.word_grammar.proofs.laws.words_are_read_by_the_grammar.Goals as goal

pub returns : goal.returns
returns c = record {
  job = λ words job. (sound words job, complete words job);
  one = at_most_one;
  usage = λ words. (none_is_no_job words, no_job_is_none words);
}

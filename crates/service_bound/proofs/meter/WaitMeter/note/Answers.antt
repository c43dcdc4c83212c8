use Rattle.std.proofs.Common.{◌∙◌, subst, arith}
use Rattle.slot_match.specs.Matches.{IsMatch}
use Rattle.service_bound.proofs.meter.WaitMeter.note.Goals as goal

pub note_news-requires-clause-kept : goal.note_news-requires-clause-kept
note_news-requires-clause-kept c = (
  c.noted_slots.ensures.0,
  c.args.matched.now,
  c.noted_slots.ensures.1,
  record {
    whole = subst (λ n. IsMatch n c.args.matched.now) (c.ports.ensures.value ∙ c.requires.matched) c.ports.ensures.whole;
    each = λ i i_in. c.put_parts.ensures.parts i (omega arith);
  },
  λ i j level i_in level_in lacks. absurd (lacks ((c.all.ensures.members i).1 (omega arith))),
)

pub returns-clause-noted : goal.returns-clause-noted
returns-clause-noted c = λ slots noted. c.note_news.ensures.noted slots c.args.matched.now noted
    (record {
      whole = subst (λ n. IsMatch n c.args.matched.now) (c.ports.ensures.value ∙ c.requires.matched) c.ports.ensures.whole;
      each = λ i i_in. c.put_parts.ensures.parts i (omega arith);
    })

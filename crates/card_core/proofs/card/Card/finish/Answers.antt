use Rattle.std.proofs.Common.{◌∙◌, length, sym, ap, subst}
use Rattle.std.proofs.lemmas.List.{length-map}
use Rattle.crossbar.specs.declared.cards.Taken.{Taken}
use Rattle.card_core.specs.Deliveries.{cells_taken, delivered}
use Rattle.card_core.specs.Queues.{admitted, dropped}
use Rattle.card_core.specs.States.{slots_in}
use Rattle.card_core.specs.Cards.{CardState, IsAfter, served_in}
use Rattle.card_core.proofs.card.Card.finish.Goals as goal

pub returns : goal.returns
returns c takings posted was =
    let old = subst (λ b. IsAfter b takings posted) (sym c.self.view_is) was in
    let count = length-map takings (λ (t : Taken). t.served) in
    record {
      body = c.finish.ensures.body ∙ old.received.body;
      lens = c.finish.ensures.lens ∙ old.received.lens;
      packets = c.finish.ensures.packets ∙ ap length old.received.lens ∙ length-map (delivered (cells_taken takings)) length;
      cells = c.finish.ensures.cells ∙ old.received.count;
      admitted = c.finish.ensures.admitted ∙ c.admitted-admitted.ensures ∙ old.sent.admitted
          ∙ ap (λ n. admitted c.self.inside.ingress.plan (served_in takings) (slots_in posted n)) count
          ∙ ap (λ (b : CardState). admitted b.sends.plan (served_in takings) (slots_in posted (length takings))) c.self.view_is;
      dropped = c.finish.ensures.dropped ∙ c.dropped-dropped.ensures ∙ old.sent.dropped
          ∙ ap (λ n. dropped c.self.inside.ingress.plan (served_in takings) (slots_in posted n)) count
          ∙ ap (λ (b : CardState). dropped b.sends.plan (served_in takings) (slots_in posted (length takings))) c.self.view_is;
    }

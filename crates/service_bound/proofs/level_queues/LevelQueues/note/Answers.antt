use Rattle.std.proofs.Common.{◌≡◌, ◌∙◌, ℕ, ◌<◌, eqb, max, length, subst, sym, ap}
use Rattle.std.specs.Int.{bit_at}
use Rattle.rotating_pick.specs.PortSets.{Has}
use Rattle.service_bound.specs.MeterSteps.{NotesSlot, Queues, longest_of, HaveBegun}
use Rattle.service_bound.proofs.Levels.{NotesSlot-on, NotesSlot-same}
use Rattle.service_bound.proofs.level_queues.LevelQueues.note.Goals as goal

pub returns-then-outputs-self : goal.returns-then-outputs-self
returns-then-outputs-self c =
    NotesSlot-same c.args.count c.args.outputs c.args.self.now
    (c.if-outputs-self.true ∙ ap (λ (q : Queues). q.waiting) c.self.view_is) c.requires.among c.requires.begun

pub begin-requires : goal.begin-requires
begin-requires c = λ j has.
    subst (λ (q : Queues). j < length q.began) (sym c.self.view_is) (c.requires.among j ((c.difference.ensures j).0 has).0)

pub returns : goal.returns
returns c =
    let s = c.self.inside in
    let old : Queues = record { waiting = s.waiting; began = s.began; ended = s.ended } in
    let same : old ≡ c.args.self.now = c.self.view_is in
    let inside : (j : ℕ) → Has c.args.outputs j
    → j < length old.began = subst (λ (q : Queues). (j : ℕ) → Has c.args.outputs j → j < length q.began) (sym same) c.requires.among in
    let begun : HaveBegun old.began old.waiting c.args.count = subst (λ (q : Queues). HaveBegun q.began q.waiting c.args.count) (sym same) c.requires.begun in
    let longest : c.max-self-inside.result ≡ max s.ended (longest_of s.began c.difference-ended.result c.args.count) = c.max-self-inside.ensures
    ∙ ap (λ l. max s.ended l) c.longest_of.ensures in
    subst (λ (q : Queues). NotesSlot c.args.count (λ j. eqb (bit_at c.args.outputs j) 1) q
    (record { waiting = c.args.outputs; began = c.begin.new.began; ended = c.max-self-inside.result })) same
    (NotesSlot-on c.args.count c.args.outputs old c.begin.new.began c.difference-ended.result c.difference.result c.max-self-inside.result
    c.difference-ended.ensures c.difference.ensures c.begin.auto.began inside begun c.begin.ensures.begun c.begin.ensures.others longest)

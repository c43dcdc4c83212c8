use Rattle.std.proofs.Common.{◌≡◌, ◌∙◌, ◌<◌, true, map, ap, sym, subst, arith}
use Rattle.std.proofs.lemmas.Bool.{eqb-true, eq-eqb, le-ltb, both_ways}
use Rattle.slot_match.specs.Matches.{IsMatch}
use Rattle.card_core.specs.StateSteps.{row_of}
use Rattle.output_queued.specs.NotingSteps.{Source, State, MayNote}
use Rattle.output_queued.specs.contracts.reference.Reference.{the_view}
use Rattle.output_queued.proofs.Noted.{note_from, note_rows, note_ports}
use Rattle.output_queued.proofs.reference.Reference.may_note.Goals as goal
use Rattle.output_queued.proofs.reference.Reference.may_note.Goals.{then-self-lt-MAX_SLOTS, else-self-lt-MAX_SLOTS, then-ports-self, else-ports-self}

pub returns-then-are_rows : goal.returns-then-are_rows
returns-then-are_rows c =
    let s0 = the_view c.self.inside in
    let rows = c.args.rows.now in
    let matched = c.args.matched.now in
    let all = c.if-are_rows.true in (
      λ named. elim c.if-ports-self.branch [
        | then-ports-self w ↦ elim c.if-self-lt-MAX_SLOTS.branch [
          | then-self-lt-MAX_SLOTS v ↦
              let ports : v.ports.result ≡ c.self.inside.ports = eqb-true v.ports.result c.self.inside.ports (sym v.value-is ∙ w.if-ports-self.true) in
              let are : w.are_rows.result ≡ true = sym w.value-is ∙ all in
              let same : rows ≡ map (λ (source : Source). row_of source.banks source.fans) s0.sources = w.are_rows.ensures.0 are
              ∙ ap (map (λ (source : Source). row_of source.banks source.fans)) w.deref.ensures.value in
              subst (λ (s : State). MayNote s rows matched × (s.slots < 262145)) c.self.view_is
              (note_from s0 c.self.invariant.0 c.self.invariant.1 rows matched v.if-self-lt-MAX_SLOTS.true
              (subst (λ n. IsMatch n matched) ports v.ports.ensures.whole) same (c.are_named.ensures.0 named))
          | else-self-lt-MAX_SLOTS v ↦ absurd
              (both_ways c.if-self-lt-MAX_SLOTS.value (v.value-is ∙ le-ltb c.self.inside.slots 262145 v.if-self-lt-MAX_SLOTS.false) w.if-ports-self.true)
        ]
        | else-ports-self w ↦ absurd (both_ways c.if-ports-self.value (w.value-is ∙ w.if-ports-self.false) all)
      ],
      λ may. c.are_named.ensures.1 may.0.2.named,
    )

pub returns-else-are_rows : goal.returns-else-are_rows
returns-else-are_rows c =
    let s0 = the_view c.self.inside in
    let rows = c.args.rows.now in
    let matched = c.args.matched.now in
    let none = c.if-are_rows.false in (
      λ no_. absurd (cc),
      λ may'.
          let (may, early) = subst (λ (s : State). MayNote s rows matched × (s.slots < 262145)) (sym c.self.view_is) may' in
          elim c.if-ports-self.branch [
            | then-ports-self w ↦
                let same = note_rows s0 rows matched may ∙ sym (ap (map (λ (source : Source). row_of source.banks source.fans)) w.deref.ensures.value) in
                let are : w.are_rows.result ≡ true = w.are_rows.ensures.1 same in
                absurd (both_ways c.if-ports-self.value none (w.value-is ∙ are))
            | else-ports-self w ↦ elim c.if-self-lt-MAX_SLOTS.branch [
              | then-self-lt-MAX_SLOTS v ↦
                  let ports : v.ports.result ≡ c.self.inside.ports = v.ports.ensures.value ∙ note_ports s0 rows matched may in
                  let test = eq-eqb v.ports.result c.self.inside.ports ports in
                  absurd (both_ways c.if-self-lt-MAX_SLOTS.value w.if-ports-self.false (v.value-is ∙ test))
              | else-self-lt-MAX_SLOTS v ↦
                  let past = v.if-self-lt-MAX_SLOTS.false in
                  absurd (omega arith)
            ]
          ],
    )

use Rattle.std.proofs.Common.{◌≡◌, ◌≢◌, ◌∙◌, ◌<◌, ◌++◌, ◌∷◌, [], Some, true, false, map, length, slice_get, slice_index_or, refl, ap, sym, arith}
use Rattle.std.proofs.lemmas.Bool.{eq-eqb, ne_eqb}
use Rattle.std.proofs.lemmas.List.{append-nil}
use Rattle.std.proofs.lemmas.Option.{slice_get-get_or}
use Rattle.card_core.specs.Plans.{no_packet}
use Rattle.card_core.specs.Queues.{is_routed}
use Rattle.reference_run.specs.Meeting.{coming_of}
use Rattle.reference_run.proofs.ToldInputs.{told-more}
use Rattle.reference_run.proofs.reference.coming_in.Goals as goal
use Rattle.reference_run.proofs.reference.coming_in.Goals.{then-not-is_empty+in_ok-push, else-not-is_empty}

pub coming_of-requires : goal.coming_of-requires
coming_of-requires c =
    let ps = c.deref-packet-items.result.now in
    let i = c.loop-packet.packet-index in
    let there : slice_get c.args.card.now.packets.items i ≡ Some (slice_index_or ps i no_packet) =
    ap (λ xs. slice_get xs i) (sym c.deref-packet-items.ensures.value) ∙ slice_get-get_or ps i no_packet c.loop-packet-test.true in
    let planned = c.requires.packets i (slice_index_or ps i no_packet) there in
    let len = planned.forwarded (λ none. let e = c.is_empty.ensures.zero.1 none in let f = c.if-not-is_empty.true in absurd (cc)) in
    omega arith

pub loop-packet-preserved : goal.loop-packet-preserved
loop-packet-preserved c =
    let all = c.args.card.now.packets.items in
    let ps = c.deref-packet-items.result.now in
    let i = c.loop-packet.packet-index in
    let x = slice_index_or ps i no_packet in
    let same : ps ≡ all = c.deref-packet-items.ensures.value in
    let here : slice_index_or all i no_packet ≡ x = ap (λ xs. slice_index_or xs i no_packet) (sym same) in
    let long = ap length same in
    let test = c.loop-packet-test.true in
    let inside : i < length all = omega arith in
    elim c.if-not-is_empty.branch [
      | then-not-is_empty+in_ok-push w ↦
          let some : x.fan ≢ 0 = λ none. let e = c.is_empty.ensures.zero.1 none in let f = w.if-not-is_empty.true in absurd (cc) in
          let routed : is_routed x ≡ true = rw (ne_eqb x.fan 0 some) refl in
          ap (λ v. v.items) w.coming-is ∙ w.in_ok-push.ensures.items
          ∙ ap (λ xs. xs ++ w.coming_of.result ∷ []) c.loop-packet.invariant
          ∙ ap (λ y. map coming_of (_) ++ y ∷ []) (w.coming_of.ensures ∙ ap coming_of (sym here))
          ∙ sym (told-more all i no_packet inside true (ap is_routed here ∙ routed))
      | else-not-is_empty w ↦
          let none : x.fan ≡ 0 = c.is_empty.ensures.zero.0 w.if-not-is_empty.false in
          let routed : is_routed x ≡ false = rw (eq-eqb x.fan 0 none) refl in
          ap (λ v. v.items) w.coming-is ∙ c.loop-packet.invariant ∙ sym (append-nil _)
          ∙ sym (told-more all i no_packet inside false (ap is_routed here ∙ routed))
    ]

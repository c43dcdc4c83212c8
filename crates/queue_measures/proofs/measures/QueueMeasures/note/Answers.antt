use Rattle.std.proofs.Common.{◌≡◌, ◌∙◌, ◌<◌, ◌+◌, ℕ, [], ◌∷◌, ◌++◌, length, slice_index_or, ap, sym, subst, arith, inl, inr}
use Rattle.std.proofs.lemmas.Bool.{cases_eq}
use Rattle.std.proofs.lemmas.Grind.{get_or-set_at}
use Rattle.std.proofs.lemmas.List.{get_or-set_other, get_or_default, length-set}
use Rattle.run_laws.specs.Runs.{ports_of, card_at, parts_under}
use Rattle.run_laws.proofs.Base.{served-length}
use Rattle.queue_measures.specs.NotingSteps.{Input, IsNoted, no_input}
use Rattle.queue_measures.proofs.Slots.{posts-count, row-is, serves, ports-is, next-parts}
use Rattle.queue_measures.proofs.measures.QueueMeasures.note.Goals as goal

pub index_mut-requires : goal.index_mut-requires
index_mut-requires c =
    let a = c.len-i-end.ensures in
    let b = c.self.inside.inputs.ok.0 in
    let v = ap length c.self.view_is in
    let l = c.loop-i.invariant.long in
    let d = c.loop-i.self-inside.inputs.ok.0 in
    let t = c.loop-i-test.true in
    omega (arith, a, b, v, l, d, t)

pub bounds-posts-i : goal.bounds-posts-i
bounds-posts-i c =
    let a = c.len-i-end.ensures in
    let b = c.self.inside.inputs.ok.0 in
    let v = ap length c.self.view_is in
    let t = c.loop-i-test.true in
    let n = c.requires.2.count in
    let posts = posts-count c.requires.0 c.requires.1 c.args.slot c.args.posts.now c.args.matched.now c.requires.3 in
    omega (arith, a, b, v, t, n, posts)

pub note-requires : goal.note-requires
note-requires c =
    let scheduler = c.requires.0 in
    let plan = c.requires.1 in
    let h = c.requires.2 in
    let s = c.requires.3 in
    let i = c.loop-i.i in
    let slot = c.args.slot in
    let a = c.len-i-end.ensures in
    let b = c.self.inside.inputs.ok.0 in
    let v = ap length c.self.view_is in
    let l = c.loop-i.invariant.long in
    let t = c.loop-i-test.true in
    let n = h.count in
    let inside : i < ports_of plan = omega (arith, a, b, v, t, n) in
    let there : i < length c.loop-i.self-inside.inputs.items = omega (arith, a, b, v, l, t) in
    let ports : c.len-ports.result ≡ ports_of plan = let e = c.len-ports.ensures in omega (arith, e, b, v, n) in
    let same : c.index_mut.result.now ≡ slice_index_or c.args.self.now i no_input =
    c.index_mut.ensures.value ∙ get_or_default c.loop-i.self-inside.inputs.items i c.index_mut.result.now no_input there
    ∙ c.loop-i.invariant.left i (omega arith) in (
      card_at plan i,
      parts_under scheduler plan i slot,
      subst (λ (input : Input). IsNoted (card_at plan i) input (parts_under scheduler plan i slot)) (sym same) (h.each i inside),
      served-length scheduler plan i slot,
      ports-is scheduler plan c.args.self.now slot c.args.posts.now c.args.matched.now h s i inside c.len-ports.result ports,
      row-is scheduler plan c.args.self.now slot c.args.posts.now c.args.matched.now h s i inside _,
      serves scheduler plan c.args.self.now slot c.args.posts.now c.args.matched.now h s i inside _ c.part_of-part.result c.part_of-part.ensures,
    )

pub part_of-part-requires : goal.part_of-part-requires
part_of-part-requires c = c.loop-i.invariant.parts

pub loop-i-preserved : goal.loop-i-preserved
loop-i-preserved c =
    let i = c.loop-i.i in
    let slot = c.args.slot in
    let items = c.loop-i.self-inside.inputs.items in
    let new = c.note.new.self in
    let was = c.loop-i.invariant in
    let a = c.len-i-end.ensures in
    let b = c.self.inside.inputs.ok.0 in
    let v = ap length c.self.view_is in
    let l = was.long in
    let t = c.loop-i-test.true in
    let there : i < length items = omega (arith, a, b, v, l, t) in
    let same : c.index_mut.result.now ≡ slice_index_or c.args.self.now i no_input =
    c.index_mut.ensures.value ∙ get_or_default items i c.index_mut.result.now no_input there ∙ was.left i (omega arith) in
    record {
      long = length-set items i new ∙ was.long;
      parts = was.parts;
      noted = λ scheduler plan h s k below.
          let n = h.count in
          let inside : i < ports_of plan = omega (arith, a, b, v, t, n) in
          let ports : c.len-ports.result ≡ ports_of plan = let e = c.len-ports.ensures in omega (arith, e, b, v, n) in
          let here = c.note.ensures (card_at plan i) (parts_under scheduler plan i slot)
          (subst (λ (input : Input). IsNoted (card_at plan i) input (parts_under scheduler plan i slot)) (sym same) (h.each i inside))
          (served-length scheduler plan i slot)
          (ports-is scheduler plan c.args.self.now slot c.args.posts.now c.args.matched.now h s i inside c.len-ports.result ports)
          (row-is scheduler plan c.args.self.now slot c.args.posts.now c.args.matched.now h s i inside _)
          (serves scheduler plan c.args.self.now slot c.args.posts.now c.args.matched.now h s i inside _ c.part_of-part.result c.part_of-part.ensures) in
          let parts : parts_under scheduler plan i slot ++ c.part_of-part.result ∷ [] ≡ parts_under scheduler plan i (slot + 1) =
          ap (λ part. parts_under scheduler plan i slot ++ part ∷ []) c.part_of-part.ensures
          ∙ sym (next-parts scheduler plan c.args.self.now slot c.args.posts.now c.args.matched.now h s i inside) in
          elim (cases_eq k i) [
            | inl now ↦ subst (λ (input : Input). IsNoted (card_at plan k) input (parts_under scheduler plan k (slot + 1)))
                (sym (get_or-set_at items i k new no_input now there))
                (subst (λ (j : ℕ). IsNoted (card_at plan j) new (parts_under scheduler plan j (slot + 1))) (sym now)
                (subst (IsNoted (card_at plan i) new) parts here))
            | inr other ↦ subst (λ (input : Input). IsNoted (card_at plan k) input (parts_under scheduler plan k (slot + 1)))
                (sym (get_or-set_other items i k new no_input other))
                (was.noted scheduler plan h s k (omega arith))
          ];
      left = λ k past. get_or-set_other items i k new no_input (omega arith) ∙ was.left k (omega arith);
    }

pub returns : goal.returns
returns c = λ scheduler plan h s.
    let a = c.len-i-end.ensures in
    let b = c.self.inside.inputs.ok.0 in
    let v = ap length c.self.view_is in
    let past = c.loop-i-test.false in
    let n = h.count in
    record {
      good = h.good;
      count = c.loop-i.invariant.long ∙ h.count;
      each = λ i inside. c.loop-i.invariant.noted scheduler plan h s i (omega (arith, a, b, v, past, n, inside));
    }

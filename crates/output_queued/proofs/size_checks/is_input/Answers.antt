use Rattle.std.proofs.Common.{◌+◌, ◌<◌, map, arith, refl, sym, subst, slice_index_or}
use Rattle.std.proofs.lemmas.List.{length-map}
use Rattle.std.proofs.lemmas.Option.{slice_get-get_or, slice_get_within}
use Rattle.card_core.proofs.Ascending.{RisesTo, rises_none, rises_all}
use Rattle.output_queued.specs.Switches.{planned_of, IsComing}
use Rattle.output_queued.proofs.LookedAt.{no_coming, each_more, rising_of, rises_on, rises_no_more}
use Rattle.output_queued.proofs.size_checks.is_input.Goals as goal

pub returns : goal.returns
returns c =
    let coming = c.args.coming.now in
    let long = length-map coming planned_of in (
      λ yes_. (
        record {
          few = let most = c.loop-packet.invariant.long in let early = c.loop-packet.invariant.early in omega arith;
          packets = λ k d there. (c.loop-packet.invariant.each k d (let l = slice_get_within coming k d there in omega arith) there).0;
          rising = rising_of coming
              (rises_all (map planned_of coming) c.loop-packet.packet-index c.loop-packet.least (omega arith) c.loop-packet.invariant.rises);
        },
        λ k d there. (c.loop-packet.invariant.each k d (let l = slice_get_within coming k d there in omega arith) there).1,
      ),
      λ all. refl,
    )

pub loop-packet-init : goal.loop-packet-init
loop-packet-init c = record {
  each = λ k d less there. absurd (omega arith);
  rises = rises_none (map planned_of c.args.coming.now);
  long = omega arith;
  early = omega arith;
}

pub loop-packet-preserved : goal.loop-packet-preserved
loop-packet-preserved c =
    let coming = c.args.coming.now in
    let i = c.loop-packet.packet-index in
    let is = c.is_coming.ensures.0 c.if-not-is_coming.false in
    let slot = c.from-slot.ensures in
    let long = c.loop-packet.invariant.long in
    let early = is.1 in
    record {
      each = each_more (λ d. IsComing c.args.n d × (d.slot < 131072)) coming i no_coming c.loop-packet.invariant.each is;
      rises = subst (λ a. RisesTo (map planned_of coming) (i + 1) (a + 1)) (sym c.from-slot.ensures)
          (rises_on coming i c.loop-packet.least no_coming c.loop-packet.invariant.rises c.loop-packet-test.true (omega arith));
      long = omega arith;
      early = omega arith;
    }

pub returns-then-not-is_coming : goal.returns-then-not-is_coming
returns-then-not-is_coming c = (
  λ no_. absurd (cc),
  λ all.
      let there = slice_get-get_or c.args.coming.now c.loop-packet.packet-index no_coming c.loop-packet-test.true in
      let yes_ = c.is_coming.ensures.1 (all.0.packets c.loop-packet.packet-index _ there, all.1 c.loop-packet.packet-index _ there) in
      let f = c.if-not-is_coming.true in
      absurd (cc),
)

pub returns-then-slot-least : goal.returns-then-slot-least
returns-then-slot-least c = (
  λ no_. absurd (cc),
  λ all.
      let coming = c.args.coming.now in
      let less : (slice_index_or coming c.loop-packet.packet-index no_coming).slot < c.loop-packet.least = omega arith in
      absurd (rises_no_more c.args.n coming c.loop-packet.packet-index c.loop-packet.least no_coming c.loop-packet.invariant.rises c.loop-packet-test.true
      less all.0),
)

use Rattle.std.proofs.Common.{◌∙◌, slice_index, refl, sym, ap, subst, inl, inr, arith}
use Rattle.std.proofs.lemmas.Bool.{cases_eq}
use Rattle.rotating_pick.specs.declared.kinds.Kind.TheVariants.{Multi}
use Rattle.rotating_pick.proofs.Bits.{no_member-zero}
use Rattle.slot_match.specs.Matches.{Serves}
use Rattle.slot_match.specs.FieldSteps.{feeds_of}
use Rattle.slot_match.proofs.Sets.{zero-has}
use Rattle.slot_match.proofs.FeedTables.{Serves-marked, Serves-from_marks}
use Rattle.slot_match.proofs.feeds.Feeds.multicasting.Goals as goal

pub loop-output-init : goal.loop-output-init
loop-output-init c =
    let all = c.alike-rest.ensures in
    record {
      left = λ j has. (all j).0 has;
      done = λ i. (λ has. absurd (no_member-zero i has), λ p. absurd (p.4 ((all p.0).1 (p.1, p.2, p.3))));
    }

pub with-found-requires : goal.with-found-requires
with-found-requires c =
    let port = c.self.invariant c.in-Some.output (c.loop-output.invariant.left c.in-Some.output c.in-Some.ensures.member).2 in
    omega (arith, c.from.ensures, port)

pub without-rest-requires : goal.without-rest-requires
without-rest-requires c = (c.loop-output.invariant.left c.in-Some.output c.in-Some.ensures.member).0

pub loop-output-preserved : goal.loop-output-preserved
loop-output-preserved c =
    let known = c.loop-output.invariant in
    let x = c.in-Some.output in
    let here = known.left x c.in-Some.ensures.member in
    let gone = c.without-rest.ensures.members in
    record {
      left = λ j has. known.left j ((gone j).0 has).1;
      done = λ i. (
        λ has. elim ((c.with-found.ensures i).0 has) [
          | inl same ↦ (x, here.0, here.1, here.2, λ again. ((gone x).0 again).0 refl, sym c.from.ensures ∙ sym same)
          | inr before ↦ let p = (known.done i).0 before in (p.0, p.1, p.2, p.3, λ again. p.4 ((gone p.0).0 again).1, p.5)
        ],
        λ p. (c.with-found.ensures i).1 (elim (cases_eq p.0 x) [
          | inl same ↦ inl (sym p.5 ∙ (ap (slice_index c.self.inside.inputs) same ∙ sym c.from.ensures))
          | inr apart ↦ inr ((known.done i).1 (p.0, p.1, p.2, p.3, λ rest. p.4 ((gone p.0).1 (apart, rest)), p.5))
        ]),
      );
    }

pub returns : goal.returns
returns c i =
    let inputs = c.self.inside.inputs in
    let marks = c.self.inside.marks in
    let known = c.loop-output.invariant.done i in
    let level = c.args.level in (
      λ has.
          let p = known.0 has in
          let here = subst (λ x. Serves (feeds_of inputs marks) x p.0 level Multi) p.5
          (Serves-from_marks inputs marks p.0 level p.1 (c.self.invariant p.0 p.3) p.2 p.3) in
          (p.0, subst (λ m. Serves m i p.0 level Multi) c.self.view_is here),
      λ s.
          let p = Serves-marked inputs marks i s.0 level (subst (λ m. Serves m i s.0 level Multi) (sym c.self.view_is) s.1) in
          known.1 (s.0, p.0, p.2, p.3, λ rest. zero-has c.loop-output.rest s.0 (c.in_default.ensures.none.0 refl) rest, p.1),
    )

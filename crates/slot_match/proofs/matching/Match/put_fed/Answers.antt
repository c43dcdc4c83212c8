use Rattle.std.proofs.Common.{◌≡◌, ◌∙◌, ◌+◌, ◌<◌, Option, None, length, map, slice_index_or, slice_set, refl, sym, subst, inl, inr, arith, length-set}
use Rattle.std.proofs.Common.{get_or-set_same, get_or-set_other}
use Rattle.std.proofs.lemmas.Bool.{cases_eq}
use Rattle.std.specs.List.{range_with_len}
use Rattle.std.proofs.lemmas.List.{ext_get_or}
use Rattle.std.proofs.lemmas.List.FromFn.{get_or-map-range_with_len, length-map-range_with_len}
use Rattle.slot_match.specs.declared.matching.Served.{Served}
use Rattle.slot_match.specs.Parts.{served_of}
use Rattle.slot_match.specs.Steps.{StandsBelow}
use Rattle.slot_match.proofs.Sets.{zero-has}
use Rattle.slot_match.proofs.Pairs.{Serves-from, Serves-once}
use Rattle.slot_match.proofs.PartsBelow.{StandsBelow-other, StandsBelow-added}
use Rattle.slot_match.proofs.FedParts.{stands-before, put-all}
use Rattle.slot_match.proofs.matching.Match.put_fed.Goals as goal

pub loop-output-preserved-in-Some-fed : goal.loop-output-preserved-in-Some-fed
loop-output-preserved-in-Some-fed c =
    let m = c.args.self.now in
    let n = c.ports.result in
    let count : n ≡ length m = c.ports.ensures.value in
    let at = c.loop-output in
    let (k, put) = at.invariant.put in
    let o = c.in-Some.output in
    let f = c.in-Some-fed.fed in
    let none : Option Served = None in
    let whole = c.ports.ensures.whole in
    let made = c.add_output.ensures.some in
    let fed = sym c.fed.ensures.value ∙ c.in-Some-fed.is in
    let inside : f.input < length at.parts =
    let below = whole.input_in f.input o f.level f.kind (Serves-from m o f fed) in let long = at.invariant.count in omega arith in
    let members = c.without-rest.ensures.members in
    let late = ((put.left o).0 c.in-Some.ensures.member).0 in
    let o_in : o < length m = ((put.left o).0 c.in-Some.ensures.member).1 in
    let new = slice_set at.parts f.input c.add_output.new.part in
    let before = stands-before m at.rest at.parts k put o c.in-Some.ensures.member c.in-Some.ensures.least in
    record {
      count = length-set at.parts f.input c.add_output.new.part ∙ at.invariant.count;
      put = (
        o + 1,
        record {
          within = omega arith;
          left = λ j. (
            λ has.
                let p = (members j).0 has in
                let q = (put.left j).0 p.1 in
                let least = c.in-Some.ensures.least j p.1 in
                let apart = p.0 in
                (elim (cases_eq j o) [ inl same ↦ absurd (apart same) | inr other ↦ omega arith ], q.1, q.2),
            λ p. (members j).1 (let past = p.0 in (λ same. absurd (omega arith)), let past = p.0 in (put.left j).1 (omega arith, p.1, p.2)),
          );
          each = λ i i_in. elim (cases_eq i f.input) [
            | inl same ↦ subst (λ x. StandsBelow m (o + 1) x (slice_index_or new x None)) (sym same)
                (subst (StandsBelow m (o + 1) f.input) (sym (get_or-set_same at.parts f.input c.add_output.new.part none inside ∙ made.1))
                (StandsBelow-added n m whole o (slice_index_or at.parts f.input None) f made.0 fed made.2 made.3 made.4
                (before f.input (subst (λ x. x < length m) same i_in))))
            | inr other ↦ subst (StandsBelow m (o + 1) i) (sym (get_or-set_other at.parts f.input i c.add_output.new.part none other))
                (StandsBelow-other n m whole o i (slice_index_or at.parts i None)
                (λ level kind s. other (Serves-once m o i f.input level f.level kind f.kind s (Serves-from m o f fed)).0) (before i i_in))
          ];
        },
      );
    }

pub returns : goal.returns
returns c =
    let m = c.args.self.now in
    let n = c.ports.result in
    let parts = c.loop-output.parts in
    let known = c.loop-output.invariant in
    let (k, put) = known.put in
    let none : Option Served = None in
    ext_get_or none parts (map (served_of m) (range_with_len 0 (length m))) (known.count ∙ sym (length-map-range_with_len (served_of m) 0 (length m)))
    (λ i below.
    let i_in : i < length m = let long = known.count in omega arith in
    put-all m c.loop-output.rest parts k put n c.ports.ensures.whole (λ j. zero-has c.loop-output.rest j (c.in_default.ensures.none.0 refl)) i i_in
    ∙ sym (get_or-map-range_with_len (served_of m) 0 (length m) i i none i_in (omega arith)))

use Rattle.std.proofs.Common.{rules, ◌≡◌, ◌∙◌, ◌-◌, ◌^◌, ◌<◌, ◌∷◌, [], ◌++◌, List, length, Option, Some, None, slice_index, slice_set, ap, sym, subst, arith}
use Rattle.std.proofs.lemmas.List.{get_or_default, places}
use Rattle.slot_match.specs.declared.matching.Served.{Served}
use Rattle.slot_histories.specs.Parts.{IsPartOf}
use Rattle.card_core.specs.Plans.{Plan}
use Rattle.card_core.specs.Posts.{IsServable}
use Rattle.queue_lengths.specs.Counters.{Counters, CountBefore, CountIn}
use Rattle.queue_lengths.specs.Steps.{place_left}
use Rattle.queue_lengths.specs.contracts.counters.QueueLengths.{the_view}
use Rattle.queue_lengths.proofs.Leaving.{uni_among, on_row, some_left, left_none, left_some_part, lengths_left}
use Rattle.queue_lengths.proofs.counters.QueueLengths.leave.Goals as goal

-- the counters behind the reference
behind : (plan : Plan) (served : List (Option Served)) {seen now : Counters} → seen ≡ now → CountIn plan now served → CountIn plan seen served
behind plan served is was = subst (λ s. CountIn plan s served) (sym is) was

pub returns-in_default : goal.returns-in_default
returns-in_default c plan served was row may =
    let none : c.args.part ≡ None = c.in_default.is in
    subst (λ part. CountBefore plan c.args.self.now (served ++ part ∷ [])) (sym none) (left_none plan c.args.self.now served was)

pub leaving-requires-clause-size : goal.leaving-requires-clause-size
leaving-requires-clause-size c =
    let (plan, served, was, row, may) = c.requires in
    let s0 = the_view c.self.inside in
    let was0 : CountIn plan s0 served = behind plan served c.self.view_is was in
    omega (arith, was0.ports, was0.good.size)

pub leaving-requires-clause-among : goal.leaving-requires-clause-among
leaving-requires-clause-among c kind =
    let (plan, served, was, row, may) = c.requires in
    let s0 = the_view c.self.inside in
    let was0 : CountIn plan s0 served = behind plan served c.self.view_is was in
    let part : IsPartOf c.args.row.now c.in-Some.part = subst (IsServable c.args.row.now) c.in-Some.is may in
    subst (λ n. c.in-Some.part.outputs < 2 ^ n) (sym was0.ports)
    (uni_among plan was0.good served (length served) c.in-Some.part (on_row plan s0 served was0 c.args.row.now c.in-Some.part row part) kind)

pub index_mut-requires : goal.index_mut-requires
index_mut-requires c =
    let (plan, served, was, row, may) = c.requires in
    let s0 = the_view c.self.inside in
    let was0 : CountIn plan s0 served = behind plan served c.self.view_is was in
    let part : IsPartOf c.args.row.now c.in-Some.part = subst (IsServable c.args.row.now) c.in-Some.is may in
    let place = c.in-Some-leaving.place in
    let some = some_left plan s0 served was0 c.args.row.now c.in-Some.part row part place (sym c.leaving.ensures ∙ c.in-Some-leaving.is) in
    let inside = some.0 in
    search (rules, places)

pub overflow_sub-index_mut : goal.overflow_sub-index_mut
overflow_sub-index_mut c =
    let (plan, served, was, row, may) = c.requires in
    let s0 = the_view c.self.inside in
    let was0 : CountIn plan s0 served = behind plan served c.self.view_is was in
    let part : IsPartOf c.args.row.now c.in-Some.part = subst (IsServable c.args.row.now) c.in-Some.is may in
    let place = c.in-Some-leaving.place in
    let some = some_left plan s0 served was0 c.args.row.now c.in-Some.part row part place (sym c.leaving.ensures ∙ c.in-Some-leaving.is) in
    let value = c.index_mut.ensures.value ∙ get_or_default c.self.inside.lengths.items place c.index_mut.result.now 0 some.0 in
    let more = some.1 in
    omega (arith, more, value)

pub returns-in-Some-leaving : goal.returns-in-Some-leaving
returns-in-Some-leaving c plan served was row may =
    let s0 = the_view c.self.inside in
    let was0 : CountIn plan s0 served = behind plan served c.self.view_is was in
    let part : IsPartOf c.args.row.now c.in-Some.part = subst (IsServable c.args.row.now) c.in-Some.is may in
    let place = c.in-Some-leaving.place in
    let long = c.index_mut.result.now in
    let left : place_left s0.ports c.args.row.now c.in-Some.part ≡ Some place = sym c.leaving.ensures ∙ c.in-Some-leaving.is in
    let some = some_left plan s0 served was0 c.args.row.now c.in-Some.part row part place left in
    let value : long ≡ slice_index s0.lengths place = c.index_mut.ensures.value ∙ get_or_default s0.lengths place long 0 some.0 in
    let now : lengths_left s0.lengths (place_left s0.ports c.args.row.now c.in-Some.part) ≡ slice_set s0.lengths place (long - 1) =
    ap (lengths_left s0.lengths) left ∙ ap (λ n. slice_set s0.lengths place (n - 1)) (sym value) in
    subst (λ p. CountBefore plan (record s0 { lengths = slice_set s0.lengths place (long - 1) }) (served ++ p ∷ [])) (sym c.in-Some.is)
    (subst (λ ls. CountBefore plan (record s0 { lengths = ls }) (served ++ Some c.in-Some.part ∷ [])) now
    (left_some_part plan s0 served was0 c.args.row.now c.in-Some.part row part))

pub returns-in_default-leaving : goal.returns-in_default-leaving
returns-in_default-leaving c plan served was row may =
    let s0 = the_view c.self.inside in
    let was0 : CountIn plan s0 served = behind plan served c.self.view_is was in
    let part : IsPartOf c.args.row.now c.in-Some.part = subst (IsServable c.args.row.now) c.in-Some.is may in
    let place : place_left s0.ports c.args.row.now c.in-Some.part ≡ None = sym c.leaving.ensures ∙ c.in_default-leaving.is in
    subst (λ (s : Counters). CountBefore plan s (served ++ c.args.part ∷ [])) c.self.view_is
    (subst (λ p. CountBefore plan s0 (served ++ p ∷ [])) (sym c.in-Some.is)
    (subst (λ ls. CountBefore plan (record s0 { lengths = ls }) (served ++ Some c.in-Some.part ∷ [])) (ap (lengths_left s0.lengths) place)
    (left_some_part plan s0 served was0 c.args.row.now c.in-Some.part row part)))

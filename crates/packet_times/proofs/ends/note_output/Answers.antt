use Rattle.std.proofs.Common.{◌∙◌, ◌<◌, ◌*◌, ℕ, List, ◌++◌, [], ◌∷◌, length, ap, sym, subst, slice_set}
use Rattle.std.proofs.lemmas.List.{get_or_default}
use Rattle.std.proofs.lemmas.Result.{on_ok_weaker}
use Rattle.reassembly.specs.declared.limits.TheConstants.{FLOWS_PER_INPUT}
use Rattle.packet_times.proofs.Places.{place-inside, adds-one}
use Rattle.packet_times.proofs.ends.note_output.Goals as goal

pub returns : goal.returns
returns c =
    let old = c.args.ends.now.items in
    let slot = c.args.slot in
    let place = c.in-Some.place in
    let ends = c.in-Some.ensures.some in
    let inside : place < length old =
    subst (λ n. place < n) (sym c.requires.count)
    (subst (λ k. k < FLOWS_PER_INPUT * (c.args.ports * c.args.ports)) (sym ends.is) (place-inside c.args.ports ends.flow ends.is_flow)) in
    on_ok_weaker c.push.result
    (λ pushed.
    adds-one c.args.ports slot c.args.output c.args.cell old (slice_set old place c.push.new.self) place ends inside
    (ap (λ (v : List ℕ). slice_set old place v)
    (pushed ∙ ap (λ (v : List ℕ). v ++ slot ∷ []) (c.index_mut.ensures.value ∙ get_or_default old place c.index_mut.result.now [] inside))))
    c.push.ensures
